-- The two round trips of the stored form, over the whole definitions of `load` and `write`, every refusal included: loading what was written for an accepted
-- net gives that net (`loads-written`), and writing what a form loads gives that form's bytes (`writes_loaded`). Both answers are unique, so what the
-- theorems say of an answer they say of the call's.
-- Assumes nothing.
use Prim.Native.Nat.{ℕ, ◌≤◌}
use native.Mathlib.Omega.{arith}
use mathlib.Core.Path.{◌≡◌, refl, ap, ap₂, sym, ◌∙◌, subst}
use mathlib.Core.List.{List, ◌++◌}
use mathlib.Core.Bool.{Bool, cond}
use lib.ListN.{length, take, drop}
use lib.Seq.{take_at}
use lib.Dec.{leb, eqb}
use borrow.Author.Tests.{le-leb, eq-eqb}
use Rattle.blocks.proofs.Folds.{clash}
use Rattle.nets.specs.Verdict.{VerdictIs, number_of}
use Rattle.blocks.specs.declared.Net.{Net}
use Rattle.nets.specs.Verdict.{Verdict}
use Rattle.nets.specs.Verdict.{Accepted, Field, Connection, Ends, DataLoop, ControlLoop}
use Rattle.nets.proofs.Verdicts.{verdict_unique}
use Rattle.stored.specs.Form.{zero_net, Outcome, loaded, denied, parse, form_of}
use Rattle.forms.specs.Calls.{answer, LoadedFrom, Loaded, refusal_of, count_of, Wrote}
use Rattle.stored.specs.Sizes.{AreBytes, Sized}
use Rattle.stored.specs.declared.Loading.{Loading}
use Rattle.std.proofs.Common.{Result}
use Rattle.blocks.specs.declared.Refusal.{Refusal}
use Rattle.forms.proofs.Numbers.{same_written}
use Rattle.stored.proofs.Codecs.{load_written, write_loaded}
use Rattle.forms.proofs.Fields.{fields_ok_lem, loaded-fields}
use Rattle.forms.proofs.Answers.{denied_numbered, only_accepted}

-- ## One answer

-- a form has one answer
pub loaded_unique : (f : List ℕ) (l m : Loading) → Loaded f l → Loaded f m → l ≡ m
loaded_unique f l m p q = go (parse f) p q
  where
    go : (o : Outcome) → LoadedFrom o l → LoadedFrom o m → l ≡ m
    go (denied e) p q = p ∙ sym q
    go (loaded n) p q = p.2 ∙ ap (λ (v : Verdict). answer (number_of v) n) (verdict_unique n p.0 q.0 p.1 q.1) ∙ sym q.2

-- a net and a buffer have one answer and one buffer after it
pub wrote_unique : (net : Net) (buf : List ℕ) (r s : Result ℕ Refusal) (a b : List ℕ) → Wrote net buf r a → Wrote net buf s b → (r ≡ s) × (a ≡ b)
wrote_unique net buf r s a b p q =
    let v : p.verdict ≡ q.verdict = verdict_unique net p.verdict q.verdict p.right q.right in
    let e : refusal_of r ≡ refusal_of s =
    p.refusal ∙ ap (λ (w : Verdict). cond (eqb (number_of w) 0) (cond (leb (length (form_of net)) (length buf)) 0 17) 12) v ∙ sym q.refusal in
    let n : count_of r ≡ count_of s = p.count ∙ ap (λ (k : ℕ). cond (eqb k 0) (length (form_of net)) 0) e ∙ sym q.count in
    (same_written r s e n, p.held ∙ ap (λ (k : ℕ). cond (eqb k 0) (form_of net ++ drop (length (form_of net)) buf) buf) e ∙ sym q.held)

-- ## What a load says

loaded-from : (f : List ℕ) (l : Loading) (o : Outcome) → parse f ≡ o → LoadedFrom o l → l.refusal ≡ 0 → (parse f ≡ loaded l.net) × VerdictIs l.net Accepted
loaded-from f l (denied e) s p z =
    let d = denied_numbered f e s in
    let q : l.refusal ≡ e = ap (λ (x : Loading). x.refusal) p in
    absurd (omega arith)
loaded-from f l (loaded n) s p z =
    let h : number_of p.0 ≡ 0 = sym (ap (λ (x : Loading). x.refusal) p.2) ∙ z in
    let e : l.net ≡ n = ap (λ (x : Loading). x.net) p.2 ∙ ap (λ (t : Bool). cond t n zero_net) (eq-eqb (number_of p.0) 0 h) in
    (s ∙ ap (λ (m : Net). loaded m) (sym e), rw e (subst (λ (v : Verdict). VerdictIs n v) (only_accepted p.0 h) p.1))

-- refusal 0: the form holds the net, and the net is accepted
pub loaded_accepted : (f : List ℕ) (l : Loading) → Loaded f l → l.refusal ≡ 0 → (parse f ≡ loaded l.net) × VerdictIs l.net Accepted
loaded_accepted f l p z = loaded-from f l (parse f) refl p z

-- a load earns 1 to 11 and no other number: a net that a form holds has its fields in their ranges
pub loaded_numbers : (f : List ℕ) (l : Loading) → Loaded f l → l.refusal ≤ 11
loaded_numbers f l p = go (parse f) refl p
  where
    small : (n : Net) (v : Verdict) → parse f ≡ loaded n → VerdictIs n v → number_of v ≤ 11
    small n Accepted s r = omega arith
    small n Field s r = clash (loaded-fields f n s) r
    small n Connection s r = omega arith
    small n Ends s r = omega arith
    small n DataLoop s r = omega arith
    small n ControlLoop s r = omega arith

    go : (o : Outcome) → parse f ≡ o → LoadedFrom o l → l.refusal ≤ 11
    go (denied e) s p = let q : l.refusal ≡ e = ap (λ (x : Loading). x.refusal) p in omega (arith, denied_numbered f e s)
    go (loaded n) s p = let q : l.refusal ≡ number_of p.0 = ap (λ (x : Loading). x.refusal) p.2 in omega (arith, small n p.0 s p.1)

-- ## The round trips

-- what `write` answers for an accepted net and a buffer that its form fits
accepted_wrote : (net : Net) → VerdictIs net Accepted → (buf : List ℕ) → length (form_of net) ≤ length buf → (r : Result ℕ Refusal) (after : List ℕ) → Wrote net buf r after
    → (refusal_of r ≡ 0) × (count_of r ≡ length (form_of net)) × (after ≡ form_of net ++ drop (length (form_of net)) buf)
accepted_wrote net ok buf room r after w =
    let v : w.verdict ≡ Accepted = verdict_unique net w.verdict Accepted w.right ok in
    let z : refusal_of r ≡ 0 =
    w.refusal ∙ ap (λ (x : Verdict). cond (eqb (number_of x) 0) (cond (leb (length (form_of net)) (length buf)) 0 17) 12) v ∙ ap (λ (t : Bool). cond t 0 17) (le-leb (length (form_of net)) (length buf) room) in
    (z, w.count ∙ ap (λ (k : ℕ). cond (eqb k 0) (length (form_of net)) 0) z, w.held ∙ ap (λ (k : ℕ). cond (eqb k 0) (form_of net ++ drop (length (form_of net)) buf) buf) z)

-- For every accepted net, `write` into a buffer that the form fits is not refused, and loading the bytes that it says it wrote gives the net and refusal 0.
-- `Sized` holds of every value of the type `Net`: its arrays have 64 and 10 elements, and its values are of type u32.
pub loads-written : (net : Net) → Sized net → VerdictIs net Accepted → (buf : List ℕ) → length (form_of net) ≤ length buf
    → (r : Result ℕ Refusal) (after : List ℕ) → Wrote net buf r after
    → (refusal_of r ≡ 0) × Loaded (take (count_of r) after) (record { refusal = 0; net = net })
loads-written net sized ok buf room r after w =
    let a = accepted_wrote net ok buf room r after w in
    let bytes : take (count_of r) after ≡ form_of net =
    ap₂ (λ (k : ℕ) (b : List ℕ). take k b) a.1 a.2 ∙ take_at (form_of net) (drop (length (form_of net)) buf) (length (form_of net)) refl in
    let found : parse (take (count_of r) after) ≡ loaded net = ap parse bytes ∙ load_written net (fields_ok_lem net sized ok.0.fields) in
    (a.0, rw found (Accepted, ok, refl))

-- For every form that loads with refusal 0, `write` of the loaded net into a buffer at least as long is not refused, returns the form's byte count, and the
-- buffer then begins with the form's bytes and is unchanged after them. `AreBytes` holds of every value of the type `&[u8]`.
pub writes_loaded : (f : List ℕ) → AreBytes f → (l : Loading) → Loaded f l → l.refusal ≡ 0 → (buf : List ℕ) → length f ≤ length buf
    → (r : Result ℕ Refusal) (after : List ℕ) → Wrote l.net buf r after
    → (refusal_of r ≡ 0) × (count_of r ≡ length f) × (after ≡ f ++ drop (length f) buf)
writes_loaded f bytes l p z buf room r after w =
    let x = loaded_accepted f l p z in
    let e : form_of l.net ≡ f = write_loaded f l.net bytes x.0 in
    let fits : length (form_of l.net) ≤ length buf = rw e room in
    rw e at (accepted_wrote l.net x.1 buf fits r after w)
