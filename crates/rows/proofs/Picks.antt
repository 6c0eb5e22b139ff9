-- The blocks that do not rest, picked along an order of all blocks, are in order.
-- Assumes nothing.
use Rattle.std.proofs.Common.{◌≡◌, refl, sym, ap, subst, ◌∙◌, Bool, true, false, not, List, [], ◌∷◌, ◌++◌, ℕ, ◌+◌, ◌<◌, arith, length, get_or, length-append, cond}
use Rattle.std.proofs.lemmas.List.{append-nil}
use Rattle.std.proofs.Math.ListN.{get_or-append}
use Rattle.std.proofs.Math.Seq.{get_or-append_seam}
use native.Mathlib.Decide.{ℕ_discrete}
use Rattle.blocks.specs.Folds.{one, count_below}
use Rattle.blocks.specs.declared.Net.{Net}
use Rattle.blocks.proofs.Folds.{count_none, count_more, count_step}
use Rattle.passes.specs.Rows.{kind_no, Order, Whole, Along}
use Rattle.passes.proofs.Listings.{count_apart}

not_false : (t : Bool) → not t ≡ true → t ≡ false
not_false true e = sym e
not_false false e = refl

false_not : (t : Bool) → t ≡ false → not t ≡ true
false_not t e = ap not e

module _ (net : Net) (rests : ℕ → Bool) (order : List ℕ) where
  -- the block at place j does not rest
  abbrev pub wanted : ℕ → Bool
  wanted j = not (rests (kind_no net (get_or order j 0)))

  -- what is picked of the first i places
  pub record Picking (i : ℕ) (list : List ℕ) : Type 0 where
    pub count_is : length list ≡ count_below wanted i
    pub each : (o : Order net.size order) (k : ℕ) → k < length list
        → (get_or list k 0 < net.size) × (o.place (get_or list k 0) < i) × (rests (kind_no net (get_or list k 0)) ≡ false) × (count_below wanted (o.place (get_or list k 0)) ≡ k)

  pub picking_none : Picking 0 []
  picking_none = record { count_is = sym (count_none wanted); each = λ o k h. absurd (never k h) }
    where
      never : (k : ℕ) → k < 0 → ⊥
      never k h = omega arith

  module _ (i : ℕ) (list : List ℕ) (p : Picking i list) where
    abbrev Entry : Order net.size order → List ℕ → ℕ → Type 0
    Entry o xs k =
        (get_or xs k 0 < net.size) × (o.place (get_or xs k 0) < i + 1) × (rests (kind_no net (get_or xs k 0)) ≡ false) × (count_below wanted (o.place (get_or xs k 0)) ≡ k)

    kept : (o : Order net.size order) (k : ℕ) → k < length list → Entry o list k
    kept o k h = let a = p.each o k h in (a.0, omega (arith, a.1), a.2, a.3)

    -- the block at place i rests
    skipped : wanted i ≡ false → Picking (i + 1) list
    skipped f = let z : one (wanted i) ≡ 0 = ap one f in record { count_is = omega (arith, p.count_is, count_more wanted i); each = kept }

    -- it does not
    picked : i < net.size → wanted i ≡ true → Picking (i + 1) (list ++ get_or order i 0 ∷ [])
    picked li t =
        let z : one (wanted i) ≡ 1 = ap one t in
        record {
          count_is = omega (arith, length-append list (get_or order i 0 ∷ []), p.count_is, count_more wanted i);
          each = λ o k h. by o k h (ℕ_discrete k (length list));
        }
      where
        by : (o : Order net.size order) (k : ℕ) → k < length (list ++ get_or order i 0 ∷ []) → Dec (k ≡ length list) → Entry o (list ++ get_or order i 0 ∷ []) k
        by o k h (yes z) =
            let s = o.listed i li in
            rw (z, get_or-append_seam list (get_or order i 0) [] 0, s.1) (s.0, omega arith, not_false (rests (kind_no net (get_or order i 0))) t, sym p.count_is)
        by o k h (no z) =
            let low : k < length list = omega (arith, length-append list (get_or order i 0 ∷ [])) in
            rw (get_or-append list (get_or order i 0 ∷ []) 0 k low) (kept o k low)

    pub picking_more : i < net.size → (t : Bool) → t ≡ wanted i → Picking (i + 1) (list ++ cond t (get_or order i 0 ∷ []) [])
    picking_more li true e = picked li (sym e)
    picking_more li false e = rw (append-nil list) (skipped (sym e))

  pub picking_all : (list : List ℕ) → Picking net.size list → Whole net rests order → Along net rests list
  picking_all list p w =
      record {
        place = λ b. count_below wanted (w.list.place b);
        listed = λ k h. let a = p.each w.list k h in (a.0, a.2, a.3);
        stands =
            λ b lb t.
            let s = w.list.stands b lb in
            let low : count_below wanted (w.list.place b) < length list = omega (arith, count_step wanted net.size (w.list.place b) s.0 (turns b lb t), p.count_is) in
            (low, found b lb t low);
        grows = λ a b i j la lb ta tb li lj e. omega (arith, count_step wanted (w.list.place b) (w.list.place a) (w.grows a b i j la lb ta tb li lj e) (turns a la ta));
      }
    where
      turns : (b : ℕ) → b < net.size → rests (kind_no net b) ≡ false → wanted (w.list.place b) ≡ true
      turns b lb t = subst (λ (x : ℕ). not (rests (kind_no net x)) ≡ true) (sym (w.list.stands b lb).1) (false_not (rests (kind_no net b)) t)

      found : (b : ℕ) (lb : b < net.size) (t : rests (kind_no net b) ≡ false) → count_below wanted (w.list.place b) < length list → get_or list (count_below wanted (w.list.place b)) 0 ≡ b
      found b lb t low =
          let k : ℕ = count_below wanted (w.list.place b) in
          let a = p.each w.list k low in
          let x : ℕ = get_or list k 0 in
          let z : w.list.place x ≡ w.list.place b = count_apart wanted (w.list.place x) (w.list.place b) (turns x a.0 a.2) (turns b lb t) a.3 in
          sym (w.list.stands x a.0).1 ∙ ap (λ (q : ℕ). get_or order q 0) z ∙ (w.list.stands b lb).1
