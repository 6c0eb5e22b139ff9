-- The blocks of a net in the two passes: what each says depends on what it asks, no two put onto one channel, and the two orders are orders of the passes.
-- Assumes nothing.
use mathlib.Core.Path.{◌≡◌, refl, sym, ap, subst, ◌∙◌}
use mathlib.Core.Bool.{Bool, true, false, cond}
use mathlib.Core.List.{List}
use Prim.Native.Nat.{ℕ, ◌+◌, ◌-◌, ◌<◌}
use native.Mathlib.Omega.{arith}
use borrow.Author.Tests.{eqb-true, ne_eqb, lt-leb}
use lib.ListN.{length, get_or}
use Rattle.blocks.specs.Kinds.{kind_of}
use Rattle.blocks.specs.Folds.{count_below}
use Rattle.blocks.specs.Ports.{n_in, n_out, outputs_of}
use Rattle.blocks.specs.declared.Net.{Net}
use Rattle.blocks.specs.declared.Sig.{Sig}
use Rattle.blocks.specs.declared.Reg.{Reg}
use Rattle.blocks.proofs.Folds.{clash}
use Rattle.blocks.proofs.Local.{waits, leans, out_local, ready_local}
use Rattle.blocks.specs.Equations.{next_of}
use Rattle.ports.specs.Places.{port_at}
use Rattle.ports.specs.Worked.{next_here}
use Rattle.blocks.proofs.Numbers.{beyond, by_kind, ins_agree, outs_agree}
use Rattle.passes.specs.Rows.{block_no, kind_no, m_no, ins_no, outs_no, in_no, out_no, kind_in, rests_ahead, rests_back, is_kind_no, Rowed, Along, Listed}
use Rattle.passes.specs.Pass.{Site, Local, Single, InTurn}
use Rattle.passes.specs.Passed.{ahead, back, next_no}
use Rattle.passes.proofs.Passes.{Pass}
use Rattle.passes.proofs.Listings.{listed_at}

-- a block that asks a port is not one that asks none
asks-some : (t : Bool) (k p : ℕ) → p < cond t 0 k → (t ≡ false) × (p < k)
asks-some true k p h = absurd (never h)
  where
    never : p < 0 → ⊥
    never z = omega arith
asks-some false k p h = (refl, h)

-- the blocks of a kind in turn, by their numbers, where none of them asks anything
kind-turn : {A : Type 0} (net : Net) (kind : ℕ) (list : List ℕ) → Listed net kind list → (site : ℕ → Site A)
    → ((b : ℕ) → is_kind_no net kind b ≡ true → (p : ℕ) → p < (site b).asks → ⊥) → InTurn site net.size (λ b. is_kind_no net kind b ≡ true) (length list) (λ k. get_or list k 0)
kind-turn net kind list l site free =
    record {
      place = count_below (is_kind_no net kind);
      listed = l.each;
      stands = listed_at net kind list l;
      before = λ x b o p lx lb tx tb lo lp e. absurd (free b tb p lp);
    }

module _ (m value : ℕ) (xs : List ℕ) where
  -- a block with an output that waits for its inputs does not rest forward
  waits_turns : (k : ℕ) → waits (kind_of k m value xs) ≡ true → (o : ℕ) → o < outputs_of k m → rests_ahead k ≡ false
  waits_turns =
      by_kind (λ k. waits (kind_of k m value xs) ≡ true → (o : ℕ) → o < outputs_of k m → rests_ahead k ≡ false) (λ e o l. clash e refl) (λ e o l. absurd (below-0 o l))
      (λ e o l. refl) (λ e o l. refl) (λ e o l. refl) (λ e o l. refl) (λ e o l. refl) (λ e o l. refl) (λ e o l. clash e refl) (λ e o l. clash e refl) (λ e o l. refl)
      (λ k e o l. rw (lt-leb (beyond k) 1 (omega arith), ne_eqb (beyond k) 8 (λ z. omega arith), ne_eqb (beyond k) 9 (λ z. omega arith)))
    where
      below-0 : (o : ℕ) → o < 0 → ⊥
      below-0 o l = omega arith

  -- control buffers, sources and sinks do not lean on their outputs
  leans_turns : (k : ℕ) → leans (kind_of k m value xs) ≡ true → rests_back k ≡ false
  leans_turns =
      by_kind (λ k. leans (kind_of k m value xs) ≡ true → rests_back k ≡ false) (λ e. clash e refl) (λ e. clash e refl) (λ e. refl) (λ e. refl) (λ e. refl)
      (λ e. refl) (λ e. refl) (λ e. refl) (λ e. refl) (λ e. refl) (λ e. clash e refl) (λ k e. clash e refl)

module _ (net : Net) (xs : ℕ → List ℕ) (mask : ℕ → Bool) (r : ℕ → Reg) (w : Rowed net) where
  ins_of_lem : (b : ℕ) → b < net.size → n_in (kind_in net xs b) ≡ ins_no net b
  ins_of_lem b l = ins_agree (m_no net b) (block_no net b).value (xs b) (kind_no net b) (w.sound b l)

  outs_of : (b : ℕ) → b < net.size → n_out (kind_in net xs b) ≡ outs_no net b
  outs_of b l = outs_agree (m_no net b) (block_no net b).value (xs b) (kind_no net b) (w.sound b l)

  -- the next registers by the block's ports
  pub next_here_lem : (b : ℕ) → b < net.size → (X : ℕ → Sig) (Y : ℕ → Bool) → next_here (kind_in net xs b) (r b) (block_no net b) X Y ≡ next_no net xs mask r X Y b
  next_here_lem b l X Y =
      ap (λ (z : ℕ). next_of (kind_in net xs b) (r b) (λ i. X (in_no net b i)) (λ i. Y (in_no net b i)) (λ j. (X (port_at (block_no net b) (z + j))).valid)
      (λ j. Y (port_at (block_no net b) (z + j)))) (ins_of_lem b l)

  -- ## Forward

  ahead_local : (b : ℕ) → b < net.size → Local (ahead net xs mask r b)
  ahead_local b l x y h o lo =
      out_local (kind_in net xs b) (mask b) (r b) x y
      (λ wt i hi. h i (rw (waits_turns (m_no net b) (block_no net b).value (xs b) (kind_no net b) wt o lo) (rw (ins_of_lem b l) at hi))) o

  ahead_single : Single (ahead net xs mask r) net.size
  ahead_single a b o p la lb lo lp e = w.outs_apart a b o p la lb lo lp e

  ahead_alone : (b : ℕ) → rests_ahead (kind_no net b) ≡ true → (p : ℕ) → p < (ahead net xs mask r b).asks → ⊥
  ahead_alone b s p lp = clash s (asks-some (rests_ahead (kind_no net b)) (ins_no net b) p lp).0

  -- the blocks that do not rest, in their order
  pub ahead_pass : (list : List ℕ) → Along net rests_ahead list
      → Pass (ahead net xs mask r) net.size (λ b. rests_ahead (kind_no net b) ≡ true) (λ b. rests_ahead (kind_no net b) ≡ false) (length list) (λ k. get_or list k 0)
  ahead_pass list a =
      record {
        local = ahead_local;
        single = ahead_single;
        turn =
            record {
              place = a.place;
              listed = a.listed;
              stands = a.stands;
              before = λ x b o p lx lb tx tb lo lp e. a.grows x b o p lx lb tx tb lo (asks-some (rests_ahead (kind_no net b)) (ins_no net b) p lp).1 (sym e);
            };
        alone = λ b lb. ahead_alone b;
      }

  -- the blocks of a kind that rests, after others that rest
  pub ahead-kind : (kind : ℕ) (list : List ℕ) → Listed net kind list → (done : ℕ → Bool) → rests_ahead kind ≡ true → ((k : ℕ) → done k ≡ true → rests_ahead k ≡ true)
      → Pass (ahead net xs mask r) net.size (λ b. done (kind_no net b) ≡ true) (λ b. is_kind_no net kind b ≡ true) (length list) (λ k. get_or list k 0)
  ahead-kind kind list l done rest resting =
      record {
        local = ahead_local;
        single = ahead_single;
        turn = kind-turn net kind list l (ahead net xs mask r) (λ b t. ahead_alone b (subst (λ (k : ℕ). rests_ahead k ≡ true) (sym (eqb-true (kind_no net b) kind t)) rest));
        alone = λ b lb t. ahead_alone b (resting (kind_no net b) t);
      }

  -- ## Backward

  module _ (X : ℕ → Sig) where
    back-local : (b : ℕ) → b < net.size → Local (back net xs mask r X b)
    back-local b l y z h o lo =
        ready_local (kind_in net xs b) (mask b) (r b) (λ i. X (in_no net b i)) (λ j. (X (out_no net b j)).valid) y z
        (λ ln j hj. h j (rw (leans_turns (m_no net b) (block_no net b).value (xs b) (kind_no net b) ln) (rw (outs_of b l) at hj))) o

    back-single : Single (back net xs mask r X) net.size
    back-single a b o p la lb lo lp e = w.ins_apart a b o p la lb lo lp e

    back_alone : (b : ℕ) → rests_back (kind_no net b) ≡ true → (p : ℕ) → p < (back net xs mask r X b).asks → ⊥
    back_alone b s p lp = clash s (asks-some (rests_back (kind_no net b)) (outs_no net b) p lp).0

    -- the blocks that do not rest, from the end of their order
    pub back-pass : (list : List ℕ) → Along net rests_back list
        → Pass (back net xs mask r X) net.size (λ b. rests_back (kind_no net b) ≡ true) (λ b. rests_back (kind_no net b) ≡ false) (length list) (λ k. get_or list (length list - 1 - k) 0)
    back-pass list a =
        record {
          local = back-local;
          single = back-single;
          turn =
              record {
                place = λ b. length list - 1 - a.place b;
                listed =
                    λ k lk.
                    let s = a.listed (length list - 1 - k) (omega arith) in
                    (s.0, s.1, (let e : length list - 1 - a.place (get_or list (length list - 1 - k) 0) ≡ k = omega (arith, s.2) in e));
                stands =
                    λ b lb t.
                    let s = a.stands b lb t in
                    let e : length list - 1 - (length list - 1 - a.place b) ≡ a.place b = omega (arith, s.0) in
                    (omega (arith, s.0), ap (λ (k : ℕ). get_or list k 0) e ∙ s.1);
                before =
                    λ x b o p lx lb tx tb lo lp e.
                    let g : a.place b < a.place x = a.grows b x p o lb lx tb tx (asks-some (rests_back (kind_no net b)) (outs_no net b) p lp).1 lo e in
                    omega (arith, (a.stands x lx tx).0);
              };
          alone = λ b lb. back_alone b;
        }

    -- the blocks of a kind that rests, after others that rest
    pub back-kind : (kind : ℕ) (list : List ℕ) → Listed net kind list → (done : ℕ → Bool) → rests_back kind ≡ true → ((k : ℕ) → done k ≡ true → rests_back k ≡ true)
        → Pass (back net xs mask r X) net.size (λ b. done (kind_no net b) ≡ true) (λ b. is_kind_no net kind b ≡ true) (length list) (λ k. get_or list k 0)
    back-kind kind list l done rest resting =
        record {
          local = back-local;
          single = back-single;
          turn = kind-turn net kind list l (back net xs mask r X) (λ b t. back_alone b (subst (λ (k : ℕ). rests_back k ≡ true) (sym (eqb-true (kind_no net b) kind t)) rest));
          alone = λ b lb t. back_alone b (resting (kind_no net b) t);
        }
