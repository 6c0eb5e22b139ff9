-- The answers of `load` and `write`: a form's own refusals are 1 to 7; of a form that is read the check of its net decides; a net value is written where it is
-- accepted.
-- Assumes nothing.
use Prim.Native.Nat.{ℕ, zero, suc, ◌≤◌}
use native.Mathlib.Omega.{arith}
use mathlib.Core.Path.{◌≡◌, refl, ap, sym, ◌∙◌, subst}
use mathlib.Core.List.{List, ◌++◌}
use mathlib.Core.Bool.{Bool, true, false, cond}
use lib.ListN.{length, drop}
use lib.Dec.{leb, eqb}
use borrow.Author.Tests.{eq-eqb, ne_eqb}
use Rattle.reader.specs.Bits.{bits_of}
use Rattle.nets.specs.Verdict.{VerdictIs, number_of}
use Rattle.nets.specs.Promises.{earned}
use Rattle.nets.specs.declared.Fault.{Fault}
use Rattle.nets.specs.declared.Fault.TheVariants as fault
use Rattle.blocks.specs.declared.Net.{Net}
use Rattle.nets.specs.Verdict.{Verdict}
use Rattle.nets.specs.Verdict.{Accepted, Field, Connection, Ends, DataLoop, ControlLoop}
use Rattle.stored.specs.Form.{zero_net, Taken, got, refused, and_then, check, take_field, take_tested, take_many, take_value, take_rest, take_valued, take_block, take_blocks, take_counts, take_net, blank_end, Outcome, loaded, denied, finish, parse, form_of}
use Rattle.stored.specs.Reads.{net_answer}
use Rattle.stored.specs.declared.Loading.{Loading}
use Rattle.forms.specs.Calls.{answer, LoadedFrom, Loaded, Wrote}
use Rattle.forms.specs.Over.{answered, written_of, buffer_of}
use Rattle.std.proofs.Common.{Result, Ok, Err}
use Rattle.blocks.specs.Refusals.{refusal_number}
use Rattle.blocks.specs.declared.Refusal.{Refusal}
use Rattle.blocks.specs.declared.Refusal.TheVariants as refusal
use Rattle.forms.proofs.Fields.{sizes_ok_lem}

-- ## A taker refuses with 1 to 6

abbrev Numbered : {A : Type 0} → Taken A → Type 0
Numbered (got a r) = Unit {0}
Numbered (refused e) = (1 ≤ e) × (e ≤ 6)

then_numbered : {A B : Type 0} (t : Taken A) (k : A → List Bool → Taken B) → Numbered t → ((a : A) (r : List Bool) → Numbered (k a r)) → Numbered (and_then t k)
unfolding and_then
then_numbered (got a r) k p q = q a r
then_numbered (refused e) k p q = p

check_numbered : {A : Type 0} (b : Bool) (e : ℕ) (t : Taken A) → 1 ≤ e → e ≤ 6 → Numbered t → Numbered (check b e t)
unfolding check
check_numbered true e t a b p = p
check_numbered false e t a b p = (a, b)

field_numbered : (w : ℕ) (l : List Bool) → Numbered (take_field w l)
unfolding take_field
field_numbered w l = check_numbered _ 1 _ (omega arith) (omega arith) tt

tested_numbered : (w : ℕ) (ok : ℕ → Bool) (e : ℕ) (l : List Bool) → 1 ≤ e → e ≤ 6 → Numbered (take_tested w ok e l)
unfolding take_tested
tested_numbered w ok e l a b = then_numbered _ _ (field_numbered w l) (λ v r. check_numbered _ e _ a b tt)

many_numbered : {A : Type 0} (one : List Bool → Taken A) (n : ℕ) (l : List Bool) → ((l : List Bool) → Numbered (one l)) → Numbered (take_many one n l)
unfolding take_many
many_numbered one zero l h = tt
many_numbered one (suc n) l h = then_numbered _ _ (h l) (λ a r. then_numbered _ _ (many_numbered one n r h) (λ xs s. tt))

value_numbered : (has : Bool) (l : List Bool) → Numbered (take_value has l)
unfolding take_value
value_numbered true l = field_numbered 32 l
value_numbered false l = tt

block_numbered : (c : ℕ) (l : List Bool) → Numbered (take_block c l)
unfolding take_block take_valued take_rest
block_numbered c l =
    then_numbered _ _ (tested_numbered _ _ 4 _ (omega arith) (omega arith)) (λ kind r₁.
    then_numbered _ _ (tested_numbered _ _ 5 _ (omega arith) (omega arith)) (λ m r₂.
    then_numbered _ _ (value_numbered _ _) (λ value r₃.
    then_numbered _ _ (many_numbered _ _ _ (λ s. tested_numbered _ _ 6 _ (omega arith) (omega arith))) (λ ports r₄. tt))))

net_numbered : (l : List Bool) → Numbered (take_net l)
unfolding take_net take_counts take_blocks
net_numbered l =
    then_numbered _ _ (tested_numbered _ _ 2 _ (omega arith) (omega arith)) (λ edition r₁.
    then_numbered _ _ (tested_numbered _ _ 2 _ (omega arith) (omega arith)) (λ reserved r₂.
    then_numbered _ _ (tested_numbered _ _ 3 _ (omega arith) (omega arith)) (λ n r₃.
    then_numbered _ _ (tested_numbered _ _ 3 _ (omega arith) (omega arith)) (λ c r₄.
    then_numbered _ _ (many_numbered _ _ _ (λ s. block_numbered _ _)) (λ bs r₅. tt)))))

-- ## Reading a form

same_denied : {d e : ℕ} → denied d ≡ denied e → d ≡ e
same_denied h = cc

never_denied : {P : Type 0} {n : Net} {e : ℕ} → loaded n ≡ denied e → P
never_denied h = let z : ◌≡◌ {A = ℕ} 0 1 = cc in absurd (omega arith)

-- a form's own refusals are 1 to 7
pub denied_numbered : (f : List ℕ) (e : ℕ) → parse f ≡ denied e → (1 ≤ e) × (e ≤ 7)
unfolding parse finish
denied_numbered f e h = go (take_net (bits_of f)) (net_numbered (bits_of f)) h
  where
    ended : (t : Bool) (n : Net) → cond t (loaded n) (denied 7) ≡ denied e → (1 ≤ e) × (e ≤ 7)
    ended true n q = never_denied q
    ended false n q = let s : 7 ≡ e = same_denied q in (omega arith, omega arith)

    go : (t : Taken Net) → Numbered t → finish t ≡ denied e → (1 ≤ e) × (e ≤ 7)
    go (got n r) p q = ended (blank_end r) n q
    go (refused d) p q = let s : d ≡ e = same_denied q in (omega arith, omega arith)

pub only_accepted : (v : Verdict) → number_of v ≡ 0 → v ≡ Accepted
only_accepted Accepted h = refl
only_accepted Field h = absurd (omega arith)
only_accepted Connection h = absurd (omega arith)
only_accepted Ends h = absurd (omega arith)
only_accepted DataLoop h = absurd (omega arith)
only_accepted ControlLoop h = absurd (omega arith)

-- no fault has the number 0
pub fault_numbered : (f : Fault) → number_of (earned f) ≡ 0 → ⊥
fault_numbered fault.Field h = absurd (omega arith)
fault_numbered fault.Connection h = absurd (omega arith)
fault_numbered fault.Ends h = absurd (omega arith)
fault_numbered fault.DataLoop h = absurd (omega arith)
fault_numbered fault.ControlLoop h = absurd (omega arith)

-- ## What a load answers

either_net : (t : Bool) → cond t zero_net zero_net ≡ zero_net
either_net true = refl
either_net false = refl

module _ (f : List ℕ) where
  -- a form refused by its bits
  pub load_denied : (e : Refusal) → parse f ≡ denied (refusal_number e) → Loaded f (answered (Err e))
  load_denied e h = rw h (ap (λ (n : Net). record { refusal = refusal_number e; net = n }) (sym (either_net (eqb (refusal_number e) 0))))

-- what reading a form found, as an answer: the verdict on its net decides
module _ (f : List ℕ) (x : Loading) where
  judged_from : (o : Outcome) → parse f ≡ o → x ≡ net_answer o → x.refusal ≡ 0
      → (v : Verdict) → VerdictIs x.net v → (l : Loading) → l ≡ answer (number_of v) x.net → LoadedFrom o l
  unfolding net_answer
  judged_from (denied e) s h z v r l k =
      let d = denied_numbered f e s in
      let q : x.refusal ≡ e = ap (λ (l : Loading). l.refusal) h in
      absurd (omega arith)
  judged_from (loaded n) s h z v r l k =
      let e : x.net ≡ n = ap (λ (l : Loading). l.net) h in
      (v, subst (λ (m : Net). VerdictIs m v) e r, k ∙ ap (answer (number_of v)) e)

  -- a form that was read: the verdict decides
  pub load_judged : x ≡ net_answer (parse f) → x.refusal ≡ 0 → (v : Verdict) → VerdictIs x.net v → (l : Loading) → l ≡ answer (number_of v) x.net → Loaded f l
  load_judged h z v r l k = judged_from (parse f) refl h z v r l k

-- the two answers that the verdict decides between
pub judged_denied : (e v : ℕ) (n : Net) → e ≡ v → (e ≡ 0 → ⊥) → net_answer (denied e) ≡ answer v n
unfolding net_answer
judged_denied e v n h q =
    ap (λ (k : ℕ). record { refusal = k; net = zero_net }) h
    ∙ ap (λ (t : Bool). record { refusal = v; net = cond t n zero_net }) (sym (ne_eqb v 0 (λ z. q (h ∙ z))))

pub judged_good : (x : Loading) (v : ℕ) → x.refusal ≡ 0 → v ≡ 0 → x ≡ answer v x.net
judged_good x v h k =
    ap (λ (e : ℕ). record { refusal = e; net = x.net }) (h ∙ sym k)
    ∙ ap (λ (t : Bool). record { refusal = v; net = cond t x.net zero_net }) (sym (eq-eqb v 0 k))

-- ## Writing a net

-- an accepted net has at most 64 blocks
pub accepted_small : (n : Net) → VerdictIs n Accepted → n.size ≤ 64
accepted_small n r = (sizes_ok_lem n r.0.fields).1

module _ (n : Net) (buf : List ℕ) (v : Verdict) (right : VerdictIs n v) where
  -- the net is not accepted: nothing is put
  pub wrote_unfit : (number_of v ≡ 0 → ⊥) → Wrote n buf (Err refusal.Net) buf
  wrote_unfit h = record { verdict = v; right = right; refusal = rw (ne_eqb (number_of v) 0 h) refl; count = refl; held = refl }

module _ (n : Net) (buf : List ℕ) where
  -- the net is accepted: its form is put where it fits
  pub wrote_put : VerdictIs n Accepted → (r : Result ℕ Refusal) (after : List ℕ) → r ≡ written_of buf (form_of n) → after ≡ buffer_of buf (form_of n) → Wrote n buf r after
  unfolding written_of buffer_of
  wrote_put right r after p q = by (leb (length (form_of n)) (length buf)) refl p q
    where
      by : (t : Bool) → leb (length (form_of n)) (length buf) ≡ t
          → r ≡ cond t (Ok (length (form_of n))) (Err refusal.Buffer) → after ≡ cond t (form_of n ++ drop (length (form_of n)) buf) buf → Wrote n buf r after
      by true e p q = rw p (record { verdict = Accepted; right = right; refusal = rw e refl; count = refl; held = q })
      by false e p q = rw p (record { verdict = Accepted; right = right; refusal = rw e refl; count = refl; held = q })
