-- The answer of `follow`: what the walk leaves, the refusals 12, 13, 14 and 24 in checking order, and what is known where it is not refused.
-- Assumes nothing.
use Rattle.std.proofs.Common.{◌≡◌, refl, sym, ap, ap₂, ◌∙◌, Bool, true, false, cond, not, List, map, ℕ, zero, suc, ◌≤◌, ◌<◌, Some, length, replicate, leb, eqb, arith}
use Rattle.std.proofs.lemmas.Bool.{le-leb, lt-leb, leb-false}
use lib.Dec.{eqb-suc-zero}
use lib.Seq.{sets}
use Rattle.blocks.specs.declared.Net.{Net}
use Rattle.blocks.specs.declared.Sig.{Sig}
use Rattle.blocks.specs.declared.State.{State}
use Rattle.nets.proofs.Decided.{accepted}
use Rattle.cycles.specs.Streams.{ends_fit}
use Rattle.cycles.specs.State.{shape_ok}
use Rattle.ports.specs.Places.{sig_at}
use Rattle.sim.specs.Laid.{tested_no}
use Rattle.asking.specs.declared.Ending.{Ending}
use Rattle.chains.specs.Chain.{Trail}
use Rattle.chains.specs.Rows.{Follows}
use Rattle.chains.specs.declared.Walked.{Walked}
use Rattle.stalls.specs.Calls.{chain_refusal, chain_by, answer_of, no_chain, follow_by, follow_of}
use Rattle.stalls.specs.declared.Chain.{Chain}

-- what the walk from before the first channel leaves is the chain
pub answered : (signals : List Sig) (t u : Trail) (before walked : Walked) (e : Ending) → before.count ≡ 0 → before.channels ≡ replicate 128 0 → before.valid ≡ replicate 128 false
    → t ≡ u → Follows u signals before walked e
    → ◌≡◌ {A = Chain} (record { refusal = 0; count = walked.count; channels = walked.channels; valid = walked.valid; ending = Some e }) (chain_by (λ x. (sig_at signals x).valid) t)
answered signals t u before walked e none empty blank p f =
    let counted : walked.count ≡ length u.channels = omega (arith, f.counted) in
    let listed : walked.channels ≡ sets (replicate 128 0) 0 u.channels = f.listed ∙ ap₂ (λ (l : List ℕ) (k : ℕ). sets l k u.channels) empty none in
    let shown : walked.valid ≡ sets (replicate 128 false) 0 (map (λ x. (sig_at signals x).valid) u.channels) =
    f.shown ∙ ap₂ (λ (l : List Bool) (k : ℕ). sets l k (map (λ x. (sig_at signals x).valid) u.channels)) blank none in
    (λ i. record { refusal = 0; count = counted i; channels = listed i; valid = shown i; ending = sym f.ended i })
    ∙ ap (chain_by (λ x. (sig_at signals x).valid)) (sym p)

module _ (net : Net) (s : State) (words ends : List ℕ) (offer ready c : ℕ) where
  pub refused_12 : accepted net ≡ false → no_chain 12 ≡ follow_of net s words ends offer ready c
  unfolding follow_of follow_by chain_refusal
  refused_12 e = rw e

  pub refused-tested : (n : ℕ) → n ≡ tested_no net s words ends → (n ≡ 0 → ⊥) → no_chain n ≡ follow_by true net s words ends offer ready c
  unfolding follow_by chain_refusal
  refused-tested n e z = by (shape_ok net s) (ends_fit net words ends) refl refl
    where
      by : (a b : Bool) → shape_ok net s ≡ a → ends_fit net words ends ≡ b → no_chain n ≡ follow_by true net s words ends offer ready c
      by true true p q = absurd (z (e ∙ rw (p, q)))
      by true false p q = rw (e, p, q)
      by false b p q = rw (e, p)

  module _ (shape : shape_ok net s ≡ true) (fit : ends_fit net words ends ≡ true) where
    pub refused-24 : net.channels ≤ c → no_chain 24 ≡ follow_by true net s words ends offer ready c
    unfolding follow_by chain_refusal
    refused-24 l = rw (shape, fit, le-leb net.channels c l)

    pub not-refused : c < net.channels → answer_of net s words ends offer ready c ≡ follow_by true net s words ends offer ready c
    unfolding follow_by chain_refusal
    not-refused l = rw (shape, fit, lt-leb net.channels c l)

  -- of an accepted net that is what `follow` answers
  pub followed_is : accepted net ≡ true → follow_by true net s words ends offer ready c ≡ follow_of net s words ends offer ready c
  unfolding follow_of
  followed_is ok = ap (λ (a : Bool). follow_by a net s words ends offer ready c) (sym ok)

  -- what is known of a call that is not refused
  pub record Taken : Type 0 where
    pub net-ok : accepted net ≡ true
    pub shape : shape_ok net s ≡ true
    pub fit : ends_fit net words ends ≡ true
    pub low : c < net.channels

  -- the number that an answer has
  number_is : (follow_of net s words ends offer ready c).refusal ≡ chain_refusal (accepted net) net s words ends c
  unfolding follow_of follow_by
  number_is = by (chain_refusal (accepted net) net s words ends c)
    where
      by : (n : ℕ) → (cond (eqb n 0) (answer_of net s words ends offer ready c) (no_chain n)).refusal ≡ n
      by zero = refl
      by (suc n) = rw (eqb-suc-zero n)

  pub taken : (follow_of net s words ends offer ready c).refusal ≡ 0 → Taken
  unfolding chain_refusal
  taken e = by (accepted net) (shape_ok net s) (ends_fit net words ends) (leb net.channels c) refl refl refl refl (sym number_is ∙ e)
    where
      by : (a b d l : Bool) → accepted net ≡ a → shape_ok net s ≡ b → ends_fit net words ends ≡ d → leb net.channels c ≡ l
          → ◌≡◌ {A = ℕ} (cond (not a) 12 (cond (not b) 13 (cond (not d) 14 (cond l 24 0)))) 0 → Taken
      by true true true false p q r t z = record { net-ok = p; shape = q; fit = r; low = leb-false net.channels c t }
      by true true true true p q r t z = absurd (omega (arith, z))
      by true true false l p q r t z = absurd (omega (arith, z))
      by true false d l p q r t z = absurd (omega (arith, z))
      by false b d l p q r t z = absurd (omega (arith, z))
