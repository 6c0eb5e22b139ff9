-- The kinds by document 01's numbers: a case for each number up to 10 and one for those above, and with it what `kind_of` says of ports, and of registers, which no
-- stream changes.
-- Assumes nothing.
use Rattle.std.proofs.Common.{◌≡◌, ℕ, zero, suc, ◌<◌, true, false, leb, List, [], refl, arith, leb-true}
use borrow.Author.Tests.{lt-leb}
use Rattle.blocks.specs.Kinds.{kind_of}
use Rattle.blocks.specs.Ports.{m_ok, inputs_of, outputs_of, n_in, n_out}
use Rattle.blocks.specs.Equations.{fresh_reg}
use Rattle.blocks.specs.Shape.{in_shape}
use Rattle.blocks.specs.declared.Reg.{Reg}
use Rattle.blocks.proofs.Folds.{clash, and_1}
use Rattle.blocks.proofs.Shapes.{Copies}

-- the numbers above 10
abbrev pub beyond : ℕ → ℕ
beyond k = suc (suc (suc (suc (suc (suc (suc (suc (suc (suc (suc k))))))))))

pub by_kind : (P : ℕ → Type 0) → P 0 → P 1 → P 2 → P 3 → P 4 → P 5 → P 6 → P 7 → P 8 → P 9 → P 10 → ((k : ℕ) → P (beyond k)) → (k : ℕ) → P k
by_kind P p0 p1 p2 p3 p4 p5 p6 p7 p8 p9 p10 more zero = p0
by_kind P p0 p1 p2 p3 p4 p5 p6 p7 p8 p9 p10 more (suc zero) = p1
by_kind P p0 p1 p2 p3 p4 p5 p6 p7 p8 p9 p10 more (suc (suc zero)) = p2
by_kind P p0 p1 p2 p3 p4 p5 p6 p7 p8 p9 p10 more (suc (suc (suc zero))) = p3
by_kind P p0 p1 p2 p3 p4 p5 p6 p7 p8 p9 p10 more (suc (suc (suc (suc zero)))) = p4
by_kind P p0 p1 p2 p3 p4 p5 p6 p7 p8 p9 p10 more (suc (suc (suc (suc (suc zero))))) = p5
by_kind P p0 p1 p2 p3 p4 p5 p6 p7 p8 p9 p10 more (suc (suc (suc (suc (suc (suc zero)))))) = p6
by_kind P p0 p1 p2 p3 p4 p5 p6 p7 p8 p9 p10 more (suc (suc (suc (suc (suc (suc (suc zero))))))) = p7
by_kind P p0 p1 p2 p3 p4 p5 p6 p7 p8 p9 p10 more (suc (suc (suc (suc (suc (suc (suc (suc zero)))))))) = p8
by_kind P p0 p1 p2 p3 p4 p5 p6 p7 p8 p9 p10 more (suc (suc (suc (suc (suc (suc (suc (suc (suc zero))))))))) = p9
by_kind P p0 p1 p2 p3 p4 p5 p6 p7 p8 p9 p10 more (suc (suc (suc (suc (suc (suc (suc (suc (suc (suc zero)))))))))) = p10
by_kind P p0 p1 p2 p3 p4 p5 p6 p7 p8 p9 p10 more (suc (suc (suc (suc (suc (suc (suc (suc (suc (suc (suc k))))))))))) = more k

-- no m is right above kind 10
pub no_kind : (k m : ℕ) → 10 < k → m_ok k m ≡ false
no_kind k m h = rw (lt-leb k 1 (omega arith), lt-leb k 3 (omega arith), lt-leb k 7 (omega arith), lt-leb k 10 (omega arith))

module _ (m value : ℕ) (xs : List ℕ) where
  -- the port counts by name and by number
  pub ins_agree : (k : ℕ) → m_ok k m ≡ true → n_in (kind_of k m value xs) ≡ inputs_of k m
  ins_agree =
      by_kind (λ k. m_ok k m ≡ true → n_in (kind_of k m value xs) ≡ inputs_of k m) (λ e. refl) (λ e. refl) (λ e. refl) (λ e. refl) (λ e. refl) (λ e. refl) (λ e. refl) (λ e. refl)
      (λ e. refl) (λ e. refl) (λ e. refl) (λ k e. clash e (no_kind (beyond k) m (omega arith)))

  pub outs_agree : (k : ℕ) → m_ok k m ≡ true → n_out (kind_of k m value xs) ≡ outputs_of k m
  outs_agree =
      by_kind (λ k. m_ok k m ≡ true → n_out (kind_of k m value xs) ≡ outputs_of k m) (λ e. refl) (λ e. refl) (λ e. refl) (λ e. refl) (λ e. refl) (λ e. refl) (λ e. refl) (λ e. refl)
      (λ e. refl) (λ e. refl) (λ e. refl) (λ k e. clash e (no_kind (beyond k) m (omega arith)))

  -- registers start, and are in shape, the same whatever the stream
  pub fresh_plain : (k : ℕ) → fresh_reg (kind_of k m value xs) ≡ fresh_reg (kind_of k m value [])
  fresh_plain =
      by_kind (λ k. fresh_reg (kind_of k m value xs) ≡ fresh_reg (kind_of k m value [])) refl refl refl refl refl refl refl refl refl refl refl (λ k. refl)

  pub shape_plain : (r : Reg) (k : ℕ) → in_shape (kind_of k m value xs) r ≡ in_shape (kind_of k m value []) r
  shape_plain r =
      by_kind (λ k. in_shape (kind_of k m value xs) r ≡ in_shape (kind_of k m value []) r) refl refl refl refl refl refl refl refl refl refl refl (λ k. refl)

  -- a fork has at least two copies
  pub copies : (k : ℕ) → m_ok k m ≡ true → Copies (kind_of k m value xs)
  copies =
      by_kind (λ k. m_ok k m ≡ true → Copies (kind_of k m value xs)) (λ e. tt) (λ e. tt) (λ e. tt) (λ e. tt)
      (λ e. leb-true 2 m (and_1 (leb 2 m) (leb m 8) e)) (λ e. tt) (λ e. tt) (λ e. tt) (λ e. tt) (λ e. tt) (λ e. tt) (λ k e. tt)
