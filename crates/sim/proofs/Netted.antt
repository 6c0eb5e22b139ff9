-- The blocks of an accepted net that are worked out solve the net's equations: the passes and a cycle read the same streams, masks and ports.
-- Assumes nothing.
use Rattle.std.proofs.Common.{◌≡◌, sym, ap, ◌∙◌, Bool, true, cond, List, [], ℕ, ◌<◌, arith, get_or}
use Rattle.std.proofs.Math.Seq.{slice}
use Rattle.blocks.specs.Kinds.{Kind, kind_of}
use Rattle.blocks.specs.Ports.{n_in, n_out}
use Rattle.blocks.specs.Equations.{out_of, ready_of, next_of}
use Rattle.blocks.specs.declared.Net.{Net}
use Rattle.blocks.specs.declared.Reg.{Reg}
use Rattle.blocks.specs.declared.Sig.{Sig}
use Rattle.blocks.proofs.Local.{next_local}
use Rattle.nets.specs.Net.{block_at, fields_ok, connected, number_among}
use Rattle.cycles.specs.Streams.{end_before, ends_fit, stream_of, mask_of}
use Rattle.cycles.specs.Wires.{View, view_of, kind_at}
use Rattle.cycles.specs.Cycle.{Signals, next_at}
use Rattle.cycles.specs.Solved.{Solved}
use Rattle.cycles.proofs.Joins.{inp_range, out_range}
use Rattle.passes.specs.Rows.{in_no, out_no, kind_in}
use Rattle.passes.specs.Passed.{next_no}
use Rattle.rows.specs.Ends.{stream_at, mask_at}
use Rattle.rows.proofs.Accepted.{ins-eq, outs-eq, out_eq}
use Rattle.signals.specs.Wires.{Worked}

module _ (net : Net) (fields : fields_ok net ≡ true) (joins : connected net ≡ true) (stream ends : List ℕ) (fit : ends_fit net stream ends ≡ true) where
  abbrev view : View
  view = view_of net stream ends

  stream-same : (b : ℕ) → stream_at net stream ends b ≡ stream_of net stream ends b
  stream-same b = ap (λ (t : Bool). cond t (slice (end_before ends (number_among net 0 b)) (get_or ends (number_among net 0 b) 0) stream) []) (sym fit)

  pub kind_is : (b : ℕ) → kind_in net (stream_at net stream ends) b ≡ kind_at net stream ends b
  kind_is b = ap (kind_of (block_at net b).kind (block_at net b).m (block_at net b).value) (stream-same b)

  -- ## Blocks that are worked out solve the net's equations

  module _ (offer ready : ℕ) (r : ℕ → Reg) (X : ℕ → Sig) (Y : ℕ → Bool) (w : Worked net (stream_at net stream ends) (mask_at net offer ready) r X Y) where
    pub solved-of : Solved net stream ends offer ready r X Y
    solved-of =
        record {
          showing =
              λ b j l h.
              ap X (sym (out_eq net fields joins b l j)) ∙ w.showing b l j (omega (arith, outs-eq net fields joins stream ends b l))
              ∙ ap (λ (k : Kind). out_of k (mask_of net offer ready b) (r b) (λ i. X (in_no net b i)) j) (kind_is b);
          taking =
              λ b i l h.
              w.taking b l i (omega (arith, ins-eq net fields joins stream ends b l))
              ∙ ap (λ (k : Kind). ready_of k (mask_of net offer ready b) (r b) (λ k. X (in_no net b k)) (λ j. (X (out_no net b j)).valid) (λ j. Y (out_no net b j)) i) (kind_is b)
              ∙ (λ p. ready_of (kind_at net stream ends b) (mask_of net offer ready b) (r b) (λ k. X (in_no net b k)) (λ j. (X (out_eq net fields joins b l j p)).valid)
              (λ j. Y (out_eq net fields joins b l j p)) i);
        }

    -- ## The next registers of the blocks are those of the net

    pub next-same : (g : Signals) → ((c : ℕ) → c < net.channels → (X c ≡ g.shows c) × (Y c ≡ g.ready c)) → (b : ℕ) → b < net.size
        → next_no net (stream_at net stream ends) (mask_at net offer ready) r X Y b ≡ next_at view g r b
    next-same g same b l =
        let K : Kind = kind_at net stream ends b in
        let at_in : (i : ℕ) → i < n_in K → (X (in_no net b i) ≡ g.shows (view.inp b i)) × (Y (in_no net b i) ≡ g.ready (view.inp b i)) =
        λ i h. same (view.inp b i) (inp_range net stream ends fields joins b i l h) in
        let at_out : (j : ℕ) → j < n_out K → ((X (out_no net b j)).valid ≡ (g.shows (view.out b j)).valid) × (Y (out_no net b j) ≡ g.ready (view.out b j)) =
        λ j h.
        let e : out_no net b j ≡ view.out b j = out_eq net fields joins b l j in
        let s = same (view.out b j) (out_range net stream ends fields joins b j l h) in
        (ap (λ (c : ℕ). (X c).valid) e ∙ ap (λ (z : Sig). z.valid) s.0, ap Y e ∙ s.1) in
        ap (λ (k : Kind). next_of k (r b) (λ i. X (in_no net b i)) (λ i. Y (in_no net b i)) (λ j. (X (out_no net b j)).valid) (λ j. Y (out_no net b j))) (kind_is b)
        ∙ next_local K (r b) (λ i. X (in_no net b i)) (λ i. g.shows (view.inp b i)) (λ i. Y (in_no net b i)) (λ i. g.ready (view.inp b i)) (λ j. (X (out_no net b j)).valid)
        (λ j. (g.shows (view.out b j)).valid) (λ j. Y (out_no net b j)) (λ j. g.ready (view.out b j)) (λ i h. (at_in i h).0) (λ i h. (at_in i h).1) (λ j h. (at_out j h).0) (λ j h. (at_out j h).1)
