-- Registers by kind: which start zero, which are a buffer's, which no rule names, and what a control buffer keeps.
-- Assumes nothing.
use Rattle.std.proofs.Common.{◌≡◌, ℕ, zero, suc, ◌≤◌, Bool, true, false, cond, ◌&&◌, List, [], sym, refl, arith, eqb-true}
use native.Mathlib.Decide.{ℕ_discrete}
use Rattle.blocks.specs.Folds.{one}
use Rattle.blocks.specs.Kinds.{kind_of}
use Rattle.blocks.specs.Signals.{empty, kept, full}
use Rattle.blocks.specs.Equations.{control_out, control_next, fresh_reg}
use Rattle.blocks.specs.Shape.{zero_reg, buffer_reg, in_shape}
use Rattle.blocks.specs.declared.Reg.{Reg}
use Rattle.blocks.specs.declared.Sig.{Sig}

-- every kind but 9 starts with zero registers
pub fresh_zero : (kind m value : ℕ) (xs : List ℕ) → (kind ≡ 9 → ⊥) → empty ≡ fresh_reg (kind_of kind m value xs)
fresh_zero zero m v xs n = refl
fresh_zero (suc zero) m v xs n = refl
fresh_zero (suc (suc zero)) m v xs n = refl
fresh_zero (suc (suc (suc zero))) m v xs n = refl
fresh_zero (suc (suc (suc (suc zero)))) m v xs n = refl
fresh_zero (suc (suc (suc (suc (suc zero))))) m v xs n = refl
fresh_zero (suc (suc (suc (suc (suc (suc zero)))))) m v xs n = refl
fresh_zero (suc (suc (suc (suc (suc (suc (suc zero))))))) m v xs n = refl
fresh_zero (suc (suc (suc (suc (suc (suc (suc (suc zero)))))))) m v xs n = refl
fresh_zero (suc (suc (suc (suc (suc (suc (suc (suc (suc zero))))))))) m v xs n = absurd (n refl)
fresh_zero (suc (suc (suc (suc (suc (suc (suc (suc (suc (suc zero)))))))))) m v xs n = refl
fresh_zero (suc (suc (suc (suc (suc (suc (suc (suc (suc (suc (suc k))))))))))) m v xs n = refl

-- the three buffers
pub shape_buffer : (kind m value : ℕ) (r : Reg) → 8 ≤ kind → kind ≤ 10 → buffer_reg r ≡ in_shape (kind_of kind m value []) r
shape_buffer kind m v r least most = elim (ℕ_discrete kind 8) [ yes e ↦ rw e | no a ↦ elim (ℕ_discrete kind 9) [ yes e ↦ rw e | no b ↦ let e : kind ≡ 10 = omega arith in rw e ] ]

-- the kinds whose registers no rule names
pub shape-zero : (kind m value : ℕ) (r : Reg) → (kind ≡ 0 → ⊥) → (kind ≡ 4 → ⊥) → (kind ≡ 7 → ⊥) → (kind ≡ 8 → ⊥) → (kind ≡ 9 → ⊥) → (kind ≡ 10 → ⊥)
    → zero_reg r ≡ in_shape (kind_of kind m value []) r
shape-zero zero m v r a b c d e f = absurd (a refl)
shape-zero (suc zero) m v r a b c d e f = refl
shape-zero (suc (suc zero)) m v r a b c d e f = refl
shape-zero (suc (suc (suc zero))) m v r a b c d e f = refl
shape-zero (suc (suc (suc (suc zero)))) m v r a b c d e f = absurd (b refl)
shape-zero (suc (suc (suc (suc (suc zero))))) m v r a b c d e f = refl
shape-zero (suc (suc (suc (suc (suc (suc zero)))))) m v r a b c d e f = refl
shape-zero (suc (suc (suc (suc (suc (suc (suc zero))))))) m v r a b c d e f = absurd (c refl)
shape-zero (suc (suc (suc (suc (suc (suc (suc (suc zero)))))))) m v r a b c d e f = absurd (d refl)
shape-zero (suc (suc (suc (suc (suc (suc (suc (suc (suc zero))))))))) m v r a b c d e f = absurd (e refl)
shape-zero (suc (suc (suc (suc (suc (suc (suc (suc (suc (suc zero)))))))))) m v r a b c d e f = absurd (f refl)
shape-zero (suc (suc (suc (suc (suc (suc (suc (suc (suc (suc (suc k))))))))))) m v r a b c d e f = refl

-- what a control buffer's output showed is kept where it was not taken
pub control_keeps : (r : Reg) (a : Sig) → kept (control_out r a) ≡ control_next r a false
control_keeps r a = by (full r) refl
  where
    stored : (v : Bool) (w : ℕ) → kept (record { valid = v; word = cond v w 0 }) ≡ record { word = cond (v && true) w 0; marks = one (v && true) }
    stored true w = refl
    stored false w = refl

    by : (t : Bool) → full r ≡ t → kept (control_out r a) ≡ control_next r a false
    by true e = rw e (λ i. record { word = r.word; marks = sym (eqb-true r.marks 1 e) i })
    by false e = rw e (stored a.valid a.word)

-- and where it was taken nothing is kept
pub control_emptied : (r : Reg) (a : Sig) → empty ≡ control_next r a true
control_emptied r a = by (full r) a.valid
  where
    by : (t v : Bool) → empty ≡ cond t empty (record { word = cond (v && false) a.word 0; marks = one (v && false) })
    by true v = refl
    by false true = refl
    by false false = refl
