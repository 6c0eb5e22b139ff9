-- The exports have one answer for each input (`checked_unique`, `ran_unique`), the four fields of a run's answer come back from its 64 bits (`fields_back`), a refused
-- run does nothing (`refused-nothing`), and no run earns 12 or 13 (`never_12_13`).
use Prim.Native.Nat.{ℕ, ◌/◌, ◌%◌, ◌^◌, ◌≤◌, ◌<◌}
use native.Mathlib.Omega.{arith}
use mathlib.Core.Path.{◌≡◌, refl, ap, sym, ◌∙◌}
use mathlib.Core.List.{List}
use mathlib.Core.Logic.{◌⊎◌, inl, inr}
use native.Mathlib.Decide.{ℕ_discrete}
use borrow.Author.Tests.{eq-eqb, ne_eqb}
use lib.ListN.{length}
use Rattle.blocks.specs.declared.Net.{Net}
use Rattle.nets.proofs.Decided.{accepted_is}
use Rattle.stored.specs.declared.Loading.{Loading}
use Rattle.forms.proofs.Theorems.{loaded_unique, loaded_accepted, loaded_numbers}
use Rattle.runs.specs.Runs.{Ran}
use Rattle.whemdrosk.specs.Exports.{Checked, packed_of, refusal_over, ran_over, packed_ran, RanForm}
use Rattle.whemdrosk.proofs.Refusals.{refusal-small, refusal_high, small-over}
use Rattle.whemdrosk.proofs.Answers.{stopped}

-- ## One answer

-- a form has one answer of the check
pub checked_unique : (f : List ℕ) (r s : ℕ) → Checked f r → Checked f s → r ≡ s
checked_unique f r s p q =
    p.answer ∙ ap (λ (l : Loading). l.refusal) (loaded_unique f p.loading q.loading p.right q.right) ∙ sym q.answer

-- a form, words, ends, masks and a trace have one answer of the run and one trace after it
pub ran_unique : (f words ends masks trace : List ℕ) (r s : ℕ) (after after' : List ℕ) → RanForm f words ends masks trace r after
    → RanForm f words ends masks trace s after'
    → (r ≡ s) × (after ≡ after')
ran_unique f words ends masks trace r s after after' p q =
    let e : p.loading ≡ q.loading = loaded_unique f p.loading q.loading p.right q.right in
    (rw e at p.answer ∙ sym q.answer, rw e at p.held ∙ sym q.held)

-- ## The fields of an answer

-- r is a 64-bit number, and these four are its fields: 8 bits, 1, 26 and 29
pub record Fields (r refusal ending cycles records : ℕ) : Type 0 where
  pub fits : r < 2 ^ 64
  pub refusal_is : r / 2 ^ 56 ≡ refusal
  pub ending_is : r / 2 ^ 55 % 2 ≡ ending
  pub cycles_is : r / 2 ^ 29 % 2 ^ 26 ≡ cycles
  pub records_is : r % 2 ^ 29 ≡ records

packed_fields : (refusal ending cycles records : ℕ) → refusal < 256 → ending ≤ 1 → cycles < 2 ^ 26 → records < 2 ^ 29
    → Fields (packed_of refusal ending cycles records) refusal ending cycles records
packed_fields refusal ending cycles records a b c d =
    record { fits = omega arith; refusal_is = omega arith; ending_is = omega arith; cycles_is = omega arith; records_is = omega arith }

ran_fields : (net : Net) (words ends masks : List ℕ) (room : ℕ)
    → let p : Ran = ran_over net words ends masks room in
    Fields (packed_ran (refusal_over net words ends masks) p) (refusal_over net words ends masks) p.ending p.cycles (length p.records)
ran_fields net words ends masks room =
    let p : Ran = ran_over net words ends masks room in
    let h = small-over net words ends masks room in
    packed_fields (refusal_over net words ends masks) p.ending p.cycles (length p.records) (omega (arith, refusal-small net words ends masks)) h.ends (omega (arith, h.few-cycles)) (omega (arith, h.few-records))

-- Every answer has its fields: those of the net's run, where the form is accepted; its refusal and zeros, where it is not. None reaches into its neighbour.
pub fields_back : (f words ends masks trace : List ℕ) (r : ℕ) (after : List ℕ) (p : RanForm f words ends masks trace r after)
    → (p.loading.refusal ≡ 0
    → let net : Net = p.loading.net in
    let ran : Ran = ran_over net words ends masks (length trace) in
    Fields r (refusal_over net words ends masks) ran.ending ran.cycles (length ran.records))
    × ((p.loading.refusal ≡ 0 → ⊥) → Fields r p.loading.refusal 0 0 0)
fields_back f words ends masks trace r after p = (
  λ z. rw (p.answer, eq-eqb p.loading.refusal 0 z) (ran_fields p.loading.net words ends masks (length trace)),
  λ n. rw (p.answer, ne_eqb p.loading.refusal 0 n) (packed_fields p.loading.refusal 0 0 0 (omega (arith, loaded_numbers f p.loading p.right)) (omega arith) (omega arith) (omega arith)),
)

-- ## Refused answers

-- an answer with a refusal has zeros in its other fields, and the trace is unchanged
pub refused-nothing : (f words ends masks trace : List ℕ) (r : ℕ) (after : List ℕ) → RanForm f words ends masks trace r after → (r / 2 ^ 56 ≡ 0 → ⊥)
    → (r % 2 ^ 56 ≡ 0) × (after ≡ trace)
refused-nothing f words ends masks trace r after p n = go (ℕ_discrete p.loading.refusal 0)
  where
    low : (refusal : ℕ) → r ≡ packed_of refusal 0 0 0 → r % 2 ^ 56 ≡ 0
    low refusal e = omega arith

    go : Dec (p.loading.refusal ≡ 0) → (r % 2 ^ 56 ≡ 0) × (after ≡ trace)
    go (yes z) =
        let net : Net = p.loading.net in
        let F = (fields_back f words ends masks trace r after p).0 z in
        let o = stopped net words ends masks trace (refusal_over net words ends masks) refl (λ q. n (F.refusal_is ∙ q)) in
        let t = eq-eqb p.loading.refusal 0 z in
        (low (refusal_over net words ends masks) (rw t at p.answer ∙ sym o.0), rw t at p.held ∙ sym o.1)
    go (no d) = let t = ne_eqb p.loading.refusal 0 d in (low p.loading.refusal (rw t at p.answer), rw t at p.held)

-- the net of an accepted form is accepted, and its fresh state is in shape
pub never_12_13 : (f words ends masks trace : List ℕ) (r : ℕ) (after : List ℕ) → RanForm f words ends masks trace r after
    → (r / 2 ^ 56 ≡ 12 → ⊥) × (r / 2 ^ 56 ≡ 13 → ⊥)
never_12_13 f words ends masks trace r after p = go (ℕ_discrete p.loading.refusal 0)
  where
    other : (x : ℕ) → x ≡ r / 2 ^ 56 → (x ≡ 0) ⊎ (14 ≤ x) → (r / 2 ^ 56 ≡ 12 → ⊥) × (r / 2 ^ 56 ≡ 13 → ⊥)
    other x e (inl h) = (λ q. omega arith, λ q. omega arith)
    other x e (inr h) = (λ q. omega arith, λ q. omega arith)

    go : Dec (p.loading.refusal ≡ 0) → (r / 2 ^ 56 ≡ 12 → ⊥) × (r / 2 ^ 56 ≡ 13 → ⊥)
    go (yes z) =
        other (refusal_over p.loading.net words ends masks) (sym ((fields_back f words ends masks trace r after p).0 z).refusal_is)
        (refusal_high p.loading.net words ends masks (accepted_is p.loading.net (loaded_accepted f p.loading p.right z).1))
    go (no d) =
        let F = (fields_back f words ends masks trace r after p).1 d in
        (λ q. omega (arith, F.refusal_is, loaded_numbers f p.loading p.right), λ q. omega (arith, F.refusal_is, loaded_numbers f p.loading p.right))
