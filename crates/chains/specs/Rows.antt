-- Chains over a net and its signals: what our own functions work out.
-- Assumes nothing.
use Rattle.std.specs.Prelude.{ℕ, suc, ◌+◌, ◌≡◌, Bool, true, false, cond, List, [], ◌∷◌, map, length, get_or, set, Some}
use Rattle.std.proofs.lemmas.List.Edits.{sets}
use Rattle.blocks.specs.declared.Sig.{Sig}
use Rattle.ports.specs.Places.{sig_at}
use Rattle.asking.specs.Rows.{next_by}
use Rattle.asking.specs.declared.Ending.{Ending}
use Rattle.asking.specs.declared.Next.{Next}
use Rattle.chains.specs.Chain.{Trail, trail}
use Rattle.chains.specs.declared.Seen.{Seen}
use Rattle.chains.specs.declared.Walked.{Walked}

-- what block b answers
abbrev pub next_row : Seen → Bool → ℕ → Next
next_row z question b = next_by z.net.now z.state.now z.signals.now z.ready.now question b

-- who is asked after channel c
abbrev pub next_no : Seen → Bool → ℕ → Next
next_no z question c = next_row z question (get_or (cond question z.producer.now z.consumer.now) c 0)

-- ## The walk

-- how many channels are not yet met
unfoldable pub unmet : List Bool → ℕ
unmet [] = 0
unmet (true ∷ ms) = unmet ms
unmet (false ∷ ms) = suc (unmet ms)

-- the chain from channel c where those of `met` are met
abbrev pub trail_no : Seen → List Bool → Bool → ℕ → Trail
trail_no z met question c = trail (unmet met) (next_no z) met question c

-- channel c is met, stands next in the chain, and beside it stands whether it has a word
pub record Noted (c : ℕ) (signals : List Sig) (walk walk' : Walked) : Type 0 where
  pub marked : walk'.met ≡ set walk.met c true
  pub put : walk'.channels ≡ set walk.channels walk.count c
  pub shown : walk'.valid ≡ set walk.valid walk.count (sig_at signals c).valid
  pub more : walk'.count ≡ walk.count + 1

-- what a walk along the chain t answers, and leaves behind the channels that stand in the chain
pub record Follows (t : Trail) (signals : List Sig) (walk walk' : Walked) (ending : Ending) : Type 0 where
  pub counted : walk'.count ≡ walk.count + length t.channels
  pub ended : t.ending ≡ Some ending
  pub listed : walk'.channels ≡ sets walk.channels walk.count t.channels
  pub shown : walk'.valid ≡ sets walk.valid walk.count (map (λ c. (sig_at signals c).valid) t.channels)
