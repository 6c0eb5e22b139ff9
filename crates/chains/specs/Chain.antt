-- The chain of waiting channels (change request 9), given who is asked after each channel.
-- Assumes nothing.
use Rattle.std.specs.Prelude.{ℕ, zero, suc, Bool, true, false, cond, List, [], ◌∷◌, get_or, set, replicate, Option, Some, None}
use Rattle.asking.specs.declared.Ending.{Ending}
use Rattle.asking.specs.declared.Ending.TheVariants.{Circle}
use Rattle.asking.specs.declared.Next.{Next}
use Rattle.asking.specs.declared.Next.TheVariants.{Word, Ready, End}

-- a chain: its channels in order, and how it ends; an empty one has no ending
pub record Trail : Type 0 where
  pub channels : List ℕ
  pub ending : Option Ending

-- nothing more: the chain ends so
abbrev pub stop : Ending → Trail
stop e = record { channels = []; ending = Some e }

-- no chain
abbrev pub no_trail : Trail
no_trail = record { channels = []; ending = None }

-- a channel, and the chain from there on
abbrev pub onward : ℕ → Trail → Trail
onward c t = record { channels = c ∷ t.channels; ending = t.ending }

-- the chain from an answer on, given the chain from each channel that is asked for its word (true) or for readiness (false)
abbrev pub goes : Next → (Bool → ℕ → Trail) → Trail
goes (Word n) t = t true n
goes (Ready n) t = t false n
goes (End e) t = stop e

-- The chain from channel c, which is asked for its word or for readiness; it ends "as a circle when a channel is met again". The first number is how many channels are not
-- yet met; at 0 every channel is met.
unfoldable pub trail : ℕ → (Bool → ℕ → Next) → List Bool → Bool → ℕ → Trail
trail zero next met word c = stop (Circle c)
trail (suc k) next met word c =
    cond (get_or met c false) (stop (Circle c)) (onward c (goes (next word c) (λ w n. trail k next (set met c true) w n)))

-- no channel is met
abbrev pub none_met : List Bool
none_met = replicate 128 false

-- "begin at a channel: if it lacks V, its producer is asked, and if it has V but lacks R, its consumer"; "if the beginning channel delivers, the chain is empty"
unfoldable pub chain_from : (Bool → ℕ → Next) → Bool → Bool → ℕ → Trail
chain_from next valid ready c =
    cond valid (cond ready no_trail (trail 128 next none_met false c)) (trail 128 next none_met true c)
