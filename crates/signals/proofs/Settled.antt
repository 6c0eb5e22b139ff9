-- Once every block shows what it offers, the signals are settled as the backward pass and the registers need them.
-- Assumes nothing.
use mathlib.Core.Path.{◌≡◌, refl, sym, ap, subst, ◌∙◌}
use mathlib.Core.Bool.{Bool, true, false, ◌&&◌, ◌||◌}
use mathlib.Core.List.{List}
use mathlib.Core.Logic.{◌⊎◌, inl, inr}
use Prim.Native.Nat.{ℕ, zero, suc, ◌+◌, ◌^◌, ◌≤◌, ◌<◌}
use native.Mathlib.Omega.{arith}
use borrow.Author.Tests.{eq-eqb, ltb-true, leb-true}
use lib.Dec.{eqb, leb, ltb}
use lib.ListN.{length, get_or}
use lib.Seq.{length-slice}
use Rattle.blocks.specs.Folds.{bit}
use Rattle.blocks.specs.Kinds.{kind_of}
use Rattle.blocks.specs.Ports.{inputs_of, outputs_of}
use Rattle.blocks.specs.Signals.{full}
use Rattle.blocks.specs.Equations.{offers, won, out_of}
use Rattle.blocks.specs.declared.Net.{Net}
use Rattle.blocks.specs.declared.Sig.{Sig}
use Rattle.blocks.specs.declared.Reg.{Reg}
use Rattle.blocks.proofs.Folds.{and_1, clash, or_cases, or_left}
use Rattle.cycles.specs.Streams.{end_before}
use Rattle.ports.specs.Places.{sig_at, port_at}
use Rattle.passes.specs.Rows.{block_no, kind_no, m_no, outs_no, is_kind_no, rests_ahead, rests_back, Listed}
use Rattle.passes.specs.Pass.{Holds}
use Rattle.passes.specs.Passed.{ahead, back, Settled, AllSettled}
use Rattle.rows.specs.Ends.{stream_at, mask_at, number_no, Fitting}
use Rattle.ports.proofs.Copies.{gone_quiet}
use Rattle.passes.proofs.Listings.{listed_at}
use Rattle.signals.proofs.EndLaws.{source_free}

-- ## The kinds that rest, one after the other: sources and sinks, then empty and full data buffers; sources and sinks, then control buffers

abbrev pub ends-only : ℕ → Bool
ends-only k = leb k 1

abbrev pub ends_data : ℕ → Bool
ends_data k = leb k 1 || eqb k 8

pub ends-rest : (k : ℕ) → ends-only k ≡ true → rests_ahead k ≡ true
ends-rest k e = or_left (leb k 1) (eqb k 8 || eqb k 9) e

pub data_rest : (k : ℕ) → ends_data k ≡ true → rests_ahead k ≡ true
data_rest k e = go (leb k 1) (eqb k 8) (eqb k 9) e
  where
    go : (a b c : Bool) → (a || b) ≡ true → (a || (b || c)) ≡ true
    go true b c h = refl
    go false true c h = refl
    go false false c h = clash h refl

pub ends-ready : (k : ℕ) → ends-only k ≡ true → rests_back k ≡ true
ends-ready k e = or_left (leb k 1) (eqb k 10) e

pub data_cases : (k : ℕ) → ends_data k ≡ true → (ends-only k ≡ true) ⊎ (eqb k 8 ≡ true)
data_cases k e = or_cases (leb k 1) (eqb k 8) e

pub rest_cases : (k : ℕ) → rests_ahead k ≡ true → (ends_data k ≡ true) ⊎ (eqb k 9 ≡ true)
rest_cases k e = go (leb k 1) (eqb k 8) (eqb k 9) e
  where
    go : (a b c : Bool) → (a || (b || c)) ≡ true → ((a || b) ≡ true) ⊎ (c ≡ true)
    go true b c h = inl refl
    go false true c h = inl refl
    go false false c h = inr h

pub back_cases : (k : ℕ) → rests_back k ≡ true → (ends-only k ≡ true) ⊎ (eqb k 10 ≡ true)
back_cases k e = or_cases (leb k 1) (eqb k 10) e

zero_or_one : (P : ℕ → Type 0) → P 0 → P 1 → (j : ℕ) → j < 2 → P j
zero_or_one P p q zero h = p
zero_or_one P p q (suc zero) h = q
zero_or_one P p q (suc (suc j)) h = absurd (omega arith)

module _ (net : Net) (xs : ℕ → List ℕ) (mask : ℕ → Bool) (r : ℕ → Reg) (b : ℕ) (signals : List Sig) (h : Holds (ahead net xs mask r b) (sig_at signals)) where
  abbrev m : ℕ
  m = m_no net b

  abbrev X : ℕ → Sig
  X = sig_at signals

  -- the equation at the kind that the block has
  at_kind : (k : ℕ) → kind_no net b ≡ k → (o : ℕ) → o < outputs_of k m
      → X (port_at (block_no net b) (inputs_of k m + o)) ≡ out_of (kind_of k m (block_no net b).value (xs b)) (mask b) (r b) (λ i. X (port_at (block_no net b) i)) o
  at_kind k e =
      subst (λ (k : ℕ). (o : ℕ) → o < outputs_of k m → X (port_at (block_no net b) (inputs_of k m + o)) ≡ out_of (kind_of k m (block_no net b).value (xs b)) (mask b) (r b) (λ i. X (port_at (block_no net b) i)) o)
      e h

  valid_at_lem : (k : ℕ) → kind_no net b ≡ k → (o : ℕ) → o < outputs_of k m
      → (sig_at signals (port_at (block_no net b) (inputs_of k m + o))).valid ≡ (out_of (kind_of k m (block_no net b).value (xs b)) (mask b) (r b) (λ i. X (port_at (block_no net b) i)) o).valid
  valid_at_lem k e o l = ap (λ (s : Sig). s.valid) (at_kind k e o l)

  settled : (kind_no net b ≡ 0 → length (xs b) ≤ 4294967295) → Settled (block_no net b) (r b) signals
  settled few =
      record {
        fork = λ e j l. valid_at_lem 4 e j l;
        merge =
            λ e.
            zero_or_one (λ j. (bit j (r b).marks && (sig_at signals (port_at (block_no net b) (m + j))).valid) ≡ false)
            (gone_quiet (bit 0 (r b).marks) (won m (r b) (λ i. X (port_at (block_no net b) i))).valid _ (valid_at_lem 7 e 0 (omega arith)))
            (gone_quiet (bit 1 (r b).marks) (won m (r b) (λ i. X (port_at (block_no net b) i))).valid _ (valid_at_lem 7 e 1 (omega arith)));
        position = λ e t. place e (sym (valid_at_lem 0 e 0 (omega arith)) ∙ t);
        passed = λ e. at_kind 10 e 0 (omega arith);
      }
    where
      place : kind_no net b ≡ 0 → offers (length (xs b)) (r b) (mask b) ≡ true → (r b).word < 4294967295
      place e t =
          let l : (r b).word < length (xs b) = ltb-true (r b).word (length (xs b)) (and_1 (ltb (r b).word (length (xs b))) (full (r b) || mask b) t) in
          omega (arith, few e)

module _ (net : Net) (stream ends : List ℕ) (offer ready : ℕ) (r : ℕ → Reg) where
  abbrev SourceAhead : ℕ → (ℕ → Sig) → Type 0
  SourceAhead b = Holds (ahead net (stream_at net stream ends) (mask_at net offer ready) r b)

  -- sources and sinks have their equation forward, where the sources have; a sink puts nothing
  pub all_sources : (X : ℕ → Sig) → ((b : ℕ) → b < net.size → is_kind_no net 0 b ≡ true → SourceAhead b X) → (b : ℕ) → b < net.size → ends-only (kind_no net b) ≡ true
      → SourceAhead b X
  all_sources X h b lb t = by (kind_no net b) refl (leb-true (kind_no net b) 1 t)
    where
      by : (k : ℕ) → kind_no net b ≡ k → k ≤ 1 → SourceAhead b X
      by zero e q = h b lb (eq-eqb (kind_no net b) 0 e)
      by (suc zero) e q = λ o lo. let z : outs_no net b ≡ 0 = ap (λ (k : ℕ). outputs_of k (m_no net b)) e in absurd (never o lo z)
        where
          never : (o : ℕ) → o < outs_no net b → outs_no net b ≡ 0 → ⊥
          never o lo z = omega arith
      by (suc (suc k)) e q = absurd (omega arith)

  -- and backward, where the sinks have; a source puts nothing
  pub all_sinks : (X : ℕ → Sig) (Y : ℕ → Bool)
      → ((b : ℕ) → b < net.size → is_kind_no net 1 b ≡ true → Holds (back net (stream_at net stream ends) (mask_at net offer ready) r X b) Y)
      → (b : ℕ) → b < net.size → ends-only (kind_no net b) ≡ true → Holds (back net (stream_at net stream ends) (mask_at net offer ready) r X b) Y
  all_sinks X Y h b lb t = by (kind_no net b) refl (leb-true (kind_no net b) 1 t)
    where
      by : (k : ℕ) → kind_no net b ≡ k → k ≤ 1 → Holds (back net (stream_at net stream ends) (mask_at net offer ready) r X b) Y
      by zero e q = source_free net (stream_at net stream ends) (mask_at net offer ready) r b e X Y
      by (suc zero) e q = h b lb (eq-eqb (kind_no net b) 1 e)
      by (suc (suc k)) e q = absurd (omega arith)

  pub all_settled : (list : List ℕ) → Listed net 0 list → Fitting (length list) (length stream) ends → ((k : ℕ) → k < length list → get_or ends k 0 < 2 ^ 32)
      → (signals : List Sig) → ((b : ℕ) → b < net.size → SourceAhead b (sig_at signals)) → AllSettled net r signals
  all_settled list l f small signals h b lb = settled net (stream_at net stream ends) (mask_at net offer ready) r b signals (h b lb) short
    where
      short : kind_no net b ≡ 0 → length (stream_at net stream ends b) ≤ 4294967295
      short e =
          let k : ℕ = number_no net 0 b in
          let p = listed_at net 0 list l b lb (eq-eqb (kind_no net b) 0 e) in
          omega (arith, length-slice (end_before ends k) (get_or ends k 0) stream (f.within k p.0), small k p.0)

  -- ## The steps of a cycle, one after the other

  -- the blocks of a kind that rests are worked out, after others that rest
  abbrev pub Kind-ahead : ℕ → (ℕ → Sig) → (ℕ → Sig) → Type 0
  Kind-ahead kind X Y =
      (done : ℕ → Bool) → ((k : ℕ) → done k ≡ true → rests_ahead k ≡ true) → ((b : ℕ) → b < net.size → done (kind_no net b) ≡ true → SourceAhead b X) → (b : ℕ) → b < net.size
      → (done (kind_no net b) ≡ true) ⊎ (is_kind_no net kind b ≡ true) → SourceAhead b Y

  -- sources, then the two kinds of data buffers, then the blocks that do not rest
  pub shown-all : (V W X Y : ℕ → Sig) → ((b : ℕ) → b < net.size → is_kind_no net 0 b ≡ true → SourceAhead b V) → Kind-ahead 8 V W → Kind-ahead 9 W X
      → (((b : ℕ) → b < net.size → rests_ahead (kind_no net b) ≡ true → SourceAhead b X) → (b : ℕ) → b < net.size → SourceAhead b Y) → (b : ℕ) → b < net.size → SourceAhead b Y
  shown-all V W X Y sources empty full rest =
      let buffers = empty ends-only ends-rest (all_sources V sources) in
      let resting = full ends_data data_rest (λ b lb t. buffers b lb (data_cases (kind_no net b) t)) in
      rest (λ b lb t. resting b lb (rest_cases (kind_no net b) t))

  module _ (X : ℕ → Sig) where
    abbrev SourceBack : ℕ → (ℕ → Bool) → Type 0
    SourceBack b = Holds (back net (stream_at net stream ends) (mask_at net offer ready) r X b)

    -- sinks, then control buffers, then the blocks that do not rest
    pub taken_all : (U V W : ℕ → Bool) → ((b : ℕ) → b < net.size → is_kind_no net 1 b ≡ true → SourceBack b U)
        → ((done : ℕ → Bool) → ((k : ℕ) → done k ≡ true → rests_back k ≡ true) → ((b : ℕ) → b < net.size → done (kind_no net b) ≡ true → SourceBack b U) → (b : ℕ) → b < net.size
        → (done (kind_no net b) ≡ true) ⊎ (is_kind_no net 10 b ≡ true) → SourceBack b V)
        → (((b : ℕ) → b < net.size → rests_back (kind_no net b) ≡ true → SourceBack b V) → (b : ℕ) → b < net.size → SourceBack b W) → (b : ℕ) → b < net.size → SourceBack b W
    taken_all U V W sinks control rest =
        let resting = control ends-only ends-ready (all_sinks X U sinks) in
        rest (λ b lb t. resting b lb (back_cases (kind_no net b) t))
