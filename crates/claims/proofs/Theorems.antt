-- The promises of specs/Promised.antt, proved. `fresh_of` and `step_of` are `fresh_by` and `step_by` at `accepted net`, so each one is a law of crates queue and cycles
-- there; lists of steps are carried over by induction.
-- Assumes nothing.
use Prim.Native.Nat.{ℕ, ◌+◌}
use mathlib.Core.Path.{◌≡◌, refl, sym, ap, ap₂, ◌∙◌, subst, subst₂, fun_ext}
use mathlib.Core.Bool.{Bool, true, false, cond, not}
use mathlib.Core.Logic.{◌≢◌, ◌↔◌}
use mathlib.Core.List.{List, [], ◌∷◌, ◌++◌, IsPrefix, Memᴰ}
use native.Mathlib.Omega.{arith}
use borrow.Author.Tests.{eqb-true, eqb-false}
use lib.Dec.{eqb, ltb}
use lib.ListN.{get_or}
use Rattle.blocks.specs.Firing.{first}
use Rattle.blocks.proofs.Folds.{clash}
use Rattle.blocks.proofs.Options.{test}
use Rattle.nets.specs.Net.{block_at}
use Rattle.blocks.specs.declared.Net.{Net}
use Rattle.nets.proofs.Decided.{accepted, accepted_true, accepted_is}
use Rattle.cycles.specs.State.{regs_of, plain_kind, shape_ok}
use Rattle.cycles.specs.Streams.{ends_fit}
use Rattle.cycles.specs.Step.{refusal_by, fresh_by}
use Rattle.blocks.specs.declared.State.{State}
use Rattle.cycles.specs.declared.Stepped.{Stepped}
use Rattle.cycles.proofs.States.{fresh_shape}
use Rattle.cycles.proofs.Steps.{step_refused, step-worked, count_rises as cycle-count, shape_kept as cycle-shape}
use Rattle.queue.specs.Machine.{put_by, put}
use Rattle.queue.specs.Delivered.{Input, marked, over, delivered_from, last_from, delivered, end_state, report, pending, choices}
use Rattle.queue.specs.History.{holds}
use Rattle.queue.specs.Claims.{Comparable}
use Rattle.queue.proofs.Guarantee.{
  guaranteed as machine-guaranteed,
  comparable as machine-comparable,
  same_words as machine-same-words,
  guaranteed_merges as machine-guaranteed-merges,
  comparable_choices as machine-comparable-choices,
  same_choices as machine-same-choices,
  choices_in_range as machine-choices-in-range,
  buffer_law as machine-buffer-law,
}
use Rattle.placed.specs.Placed.{placed}
use Rattle.placements.specs.Claims.{Loads}
use Rattle.placements.proofs.Theorems.{placed-loads}
use Rattle.lockstep.proofs.Theorems.{placements_comparable}
use Rattle.sim.specs.Calls.{fresh_of, step_of}
use Rattle.claims.specs.Promised.{
  step_in,
  words_from,
  state_from,
  delivered_of,
  end_state_of,
  Guaranteed,
  FiringsComparable,
  StepsComparable,
  choices_of,
  GuaranteedMerges,
  ChoicesComparable,
  ChoicesDecide,
  ChoicesInRange,
  PlacementsAgree,
  BuffersKeep,
  AcceptedIs,
  Earns12,
  RefusedUnchanged,
  CountRises,
  ShapeKept,
  Never13,
}

-- ## Lists of steps

module _ (net : Net) where
  pub same_from : (s : State) (ns : List Input) (c : ℕ) → delivered_from (accepted net) net s ns c ≡ words_from net s ns c
  unfolding step_of
  same_from s [] c = refl
  same_from s (n ∷ ns) c = ap (λ (l : List ℕ). marked (step_in net s n) c ++ l) (same_from (step_in net s n).state ns c)

  pub same_last : (s : State) (ns : List Input) → last_from (accepted net) net s ns ≡ state_from net s ns
  unfolding step_of
  same_last s [] = refl
  same_last s (n ∷ ns) = same_last (step_in net s n).state ns

  fresh_is : fresh_by (accepted net) net ≡ (fresh_of net).state
  unfolding fresh_of
  fresh_is = refl

  pub same_delivered : (words ends : List ℕ) (masks : List (ℕ × ℕ)) (c : ℕ) → delivered (accepted net) net words ends masks c ≡ delivered_of net words ends masks c
  same_delivered words ends masks c =
      ap (λ (s : State). delivered_from (accepted net) net s (over words ends masks) c) fresh_is ∙ same_from (fresh_of net).state (over words ends masks) c

  pub same_end : (words ends : List ℕ) (masks : List (ℕ × ℕ)) → end_state (accepted net) net words ends masks ≡ end_state_of net words ends masks
  same_end words ends masks =
      ap (λ (s : State). last_from (accepted net) net s (over words ends masks)) fresh_is ∙ same_last (fresh_of net).state (over words ends masks)

  pub same_chosen : (words ends : List ℕ) (masks : List (ℕ × ℕ)) (b : ℕ) → choices (accepted net) net words ends masks b ≡ choices_of net words ends masks b
  same_chosen words ends masks b =
      ap₂ (λ (l : List ℕ) (s : State). l ++ pending (regs_of s b)) (same_delivered words ends masks (report net b)) (same_end words ends masks)

-- ## The word guarantee

pub guaranteed : Guaranteed
guaranteed net words ends acc free masks =
    let g = machine-guaranteed (accepted net) net words ends (accepted_true net acc) free masks in
    (g.0, g.1, λ c h. subst (λ (l : List ℕ). IsPrefix l (put net words ends g.0 c)) (same_delivered net words ends masks c) (g.2 c h))

pub comparable : FiringsComparable
comparable net words ends acc = machine-comparable net words ends (accepted_true net acc)

pub same_words : StepsComparable
same_words net words ends acc free masks others c h =
    subst₂ Comparable (same_delivered net words ends masks c) (same_delivered net words ends others c)
    (machine-same-words (accepted net) net words ends (accepted_true net acc) free masks others c h)

-- ## Placements

-- what placed nets deliver, of the nets that the calls answer
pub placements_agree : PlacementsAgree
placements_agree net codes others free e e' words ends masks masks' c h =
    let p : Loads net codes = placed-loads net codes e in
    let q : Loads net others = placed-loads net others e' in
    let a : Net = placed net codes in
    let b : Net = placed net others in
    subst₂ (λ (m n : Net). Comparable (delivered_of m words ends masks c) (delivered_of n words ends masks' c)) (sym p.gives) (sym q.gives)
    (subst₂ Comparable (same_delivered a words ends masks c) (same_delivered b words ends masks' c)
    (placements_comparable net codes others p.base free p.fits.each q.fits.each p.accepts q.accepts (accepted a) (accepted b) words ends masks masks' c h))

-- ## With merges

pub guaranteed_merges : GuaranteedMerges
guaranteed_merges net words ends acc masks =
    let g = machine-guaranteed-merges (accepted net) net words ends (accepted_true net acc) masks in (
      g.0,
      g.1,
      λ c h.
          subst₂ (λ (l : List ℕ) (chosen : ℕ → List ℕ). IsPrefix l (put_by net words ends chosen g.0 c)) (same_delivered net words ends masks c)
          (fun_ext (same_chosen net words ends masks)) (g.2 c h),
    )

pub comparable_choices : ChoicesComparable
comparable_choices net words ends fixed acc = machine-comparable-choices net words ends fixed (accepted_true net acc)

pub same_choices : ChoicesDecide
same_choices net words ends acc masks others h c hc =
    subst₂ Comparable (same_delivered net words ends masks c) (same_delivered net words ends others c)
    (machine-same-choices (accepted net) net words ends (accepted_true net acc) masks others
    (λ b hb e. subst₂ Comparable (sym (same_chosen net words ends masks b)) (sym (same_chosen net words ends others b)) (h b hb e)) c hc)

pub choices_in_range : ChoicesInRange
choices_in_range net words ends acc masks b hb e t i =
    machine-choices-in-range (accepted net) net words ends acc (accepted_true net acc) masks b hb e t
    (subst (λ (l : List ℕ). Memᴰ t l) (sym (same_chosen net words ends masks b)) i)

-- ## Buffers

pub buffer_law : BuffersKeep
unfolding fresh_of
buffer_law net acc b hb i steps =
    subst₂ (λ (xs ys : List ℕ). ys ++ holds (regs_of (state_from net (fresh_of net).state steps) b) ≡ first (plain_kind net b) ++ xs)
    (same_from net (fresh_of net).state steps (get_or (block_at net b).ports 0 0)) (same_from net (fresh_of net).state steps (get_or (block_at net b).ports 1 0))
    (subst
    (λ (t : State). delivered_from (accepted net) net (fresh_of net).state steps (get_or (block_at net b).ports 1 0) ++ holds (regs_of t b)
    ≡ first (plain_kind net b) ++ delivered_from (accepted net) net (fresh_of net).state steps (get_or (block_at net b).ports 0 0))
    (same_last net (fresh_of net).state steps) (machine-buffer-law (accepted net) net acc (accepted_true net acc) b hb i steps))

-- ## Refusals

pub accepted_exactly : AcceptedIs
accepted_exactly net = (accepted_true net, accepted_is net)

-- the refusal by its tests: accepted, in shape, fitting ends, odd masks, no room for the count
abbrev number : Bool → Bool → Bool → Bool → Bool → ℕ
number a b c d e = cond (not a) 12 (cond (not b) 13 (cond (not c) 14 (cond d 15 (cond e 16 0))))

-- 12 falls only where the net is not accepted, and always there
by_12 : (a b c d e : Bool) → (number a b c d e ≡ 12) ↔ (a ≡ false)
by_12 false b c d e = (λ q. refl, λ q. refl)
by_12 true false c d e = (λ q. absurd (omega arith), λ q. clash refl q)
by_12 true true false d e = (λ q. absurd (omega arith), λ q. clash refl q)
by_12 true true true true e = (λ q. absurd (omega arith), λ q. clash refl q)
by_12 true true true false true = (λ q. absurd (omega arith), λ q. clash refl q)
by_12 true true true false false = (λ q. absurd (omega arith), λ q. clash refl q)

fresh_12 : (a : Bool) → (◌≡◌ {A = ℕ} (cond a 0 12) 12) ↔ (a ≡ false)
fresh_12 false = (λ q. refl, λ q. refl)
fresh_12 true = (λ q. absurd (omega arith), λ q. clash refl q)

-- 13 falls only where the state is out of shape
by_13 : (a b c d e : Bool) → b ≡ true → number a b c d e ≢ 13
by_13 false b c d e p q = absurd (omega arith)
by_13 true false c d e p q = clash p refl
by_13 true true false d e p q = absurd (omega arith)
by_13 true true true true e p q = absurd (omega arith)
by_13 true true true false true p q = absurd (omega arith)
by_13 true true true false false p q = absurd (omega arith)

module _ (net : Net) (s : State) (words ends : List ℕ) (offer ready : ℕ) where
  abbrev refusal : ℕ
  refusal = refusal_by (accepted net) net s words ends false 1

  -- the refusal that a step returns
  pub refusal_is : refusal ≡ (step_of net s words ends offer ready).refusal
  unfolding step_of
  refusal_is =
      test (eqb refusal 0)
      (λ q. let e : refusal ≡ 0 = eqb-true refusal 0 q in e ∙ sym (ap (λ (t : Stepped). t.refusal) (step-worked (accepted net) net s words ends offer ready e)))
      (λ q. sym (ap (λ (t : Stepped). t.refusal) (step_refused (accepted net) net s words ends offer ready (eqb-false refusal 0 q))))

  step_12 : ((step_of net s words ends offer ready).refusal ≡ 12) ↔ (accepted net ≡ false)
  unfolding refusal_by
  step_12 =
      subst (λ (n : ℕ). (n ≡ 12) ↔ (accepted net ≡ false)) refusal_is (by_12 (accepted net) (shape_ok net s) (ends_fit net words ends) false (ltb 1048576 (s.count + 1)))

  in_shape_13 : shape_ok net s ≡ true → (step_of net s words ends offer ready).refusal ≢ 13
  unfolding refusal_by
  in_shape_13 h = subst (λ (n : ℕ). n ≢ 13) refusal_is (by_13 (accepted net) (shape_ok net s) (ends_fit net words ends) false (ltb 1048576 (s.count + 1)) h)

pub earns_12 : Earns12
unfolding fresh_of
earns_12 net = (fresh_12 (accepted net), step_12 net)

pub refused_unchanged : RefusedUnchanged
unfolding step_of
refused_unchanged net s words ends offer ready n =
    let e = step_refused (accepted net) net s words ends offer ready (λ q. n (sym (refusal_is net s words ends offer ready) ∙ q)) in
    (ap (λ (t : Stepped). t.state) e, ap (λ (t : Stepped). t.delivered) e, ap (λ (t : Stepped). t.words) e)

pub count_rises : CountRises
unfolding step_of
count_rises net s words ends offer ready e = cycle-count (accepted net) net s words ends offer ready (refusal_is net s words ends offer ready ∙ e)

-- ## Shape

pub shape_kept : ShapeKept
unfolding fresh_of step_of
shape_kept net acc =
    (subst (λ (ok : Bool). shape_ok net (fresh_by ok net) ≡ true) (sym acc) (fresh_shape net (accepted_true net acc).0.fields), cycle-shape (accepted net) net (accepted_true net acc))

module _ (net : Net) (acc : accepted net ≡ true) where
  pub shape-from : (s : State) (steps : List Input) → shape_ok net s ≡ true → shape_ok net (state_from net s steps) ≡ true
  shape-from s [] h = h
  shape-from s (n ∷ ns) h = shape-from (step_in net s n).state ns ((shape_kept net acc).1 s n.words n.ends n.offer n.ready h)

pub never_13 : Never13
never_13 net steps n =
    let s : State = state_from net (fresh_of net).state steps in
    test (accepted net) (λ q. in_shape_13 net s n.words n.ends n.offer n.ready (shape-from net q (fresh_of net).state steps (shape_kept net q).0))
    (λ q e. omega (arith, e, (step_12 net s n.words n.ends n.offer n.ready).1 q))
