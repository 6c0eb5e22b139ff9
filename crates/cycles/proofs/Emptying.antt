-- A block that is no buffer has zero registers after a step in which one of its inputs delivers (`emptied` of crate blocks, for the blocks of a net).
-- Assumes nothing.
use Prim.Native.Nat.{ℕ, ◌+◌, ◌<◌}
use mathlib.Core.Path.{◌≡◌, ap, ◌∙◌}
use mathlib.Core.Bool.{Bool, true, false}
use mathlib.Core.List.{List}
use native.Mathlib.Omega.{arith}
use Rattle.blocks.specs.Kinds.{Kind}
use Rattle.blocks.specs.Ports.{n_in}
use Rattle.blocks.specs.Signals.{empty}
use Rattle.blocks.specs.Shape.{in_shape}
use Rattle.blocks.proofs.Emptied.{storing, emptied}
use Rattle.blocks.proofs.Numbers.{shape_plain}
use Rattle.nets.specs.Net.{block_at, fields_ok}
use Rattle.nets.specs.Verdict.{VerdictIs}
use Rattle.blocks.specs.declared.Net.{Net}
use Rattle.nets.specs.Verdict.{Accepted}
use Rattle.nets.proofs.Nets.{size-high}
use Rattle.cycles.specs.Streams.{stream_of, mask_of}
use Rattle.cycles.specs.Wires.{View, view_of}
use Rattle.cycles.specs.Cycle.{Signals, signals_of, next_at}
use Rattle.cycles.specs.State.{regs_of}
use Rattle.cycles.specs.Step.{refusal_by, step_by}
use Rattle.blocks.specs.declared.State.{State}
use Rattle.cycles.specs.declared.Stepped.{Stepped}
use Rattle.cycles.proofs.Solution.{solves}
use Rattle.cycles.proofs.States.{regs_of_lem}
use Rattle.cycles.proofs.Steps.{passes, step-worked, entry_shape_lem}

module _ (net : Net) (acc : VerdictIs net Accepted) (words ends : List ℕ) (offer ready : ℕ) where
  abbrev v : View
  v = view_of net words ends

  -- a step that is not refused, and input i of block b, ready in it
  pub emptied_stepped : (ok : Bool) (s : State) → refusal_by ok net s words ends false 1 ≡ 0 → (b : ℕ) → b < net.size → storing (v.kind b) ≡ false
      → (i : ℕ) → i < n_in (v.kind b) → (signals_of net words ends offer ready (regs_of s)).ready (v.inp b i) ≡ true
      → regs_of (step_by ok net s words ends offer ready).state b ≡ empty
  emptied_stepped ok s e b hb none_stored i hi taken =
      let g : Signals = signals_of net words ends offer ready (regs_of s) in
      let K : Kind = v.kind b in
      let fields : fields_ok net ≡ true = acc.0.fields in
      let shape : in_shape K (regs_of s b) ≡ true =
      shape_plain (block_at net b).m (block_at net b).value (stream_of net words ends b) (regs_of s b) (block_at net b).kind
      ∙ entry_shape_lem net s (passes ok net s words ends false 1 e).in_shape_lem b (omega (arith, size-high net fields)) hb in
      ap (λ (t : Stepped). regs_of t.state b) (step-worked ok net s words ends offer ready e)
      ∙ regs_of_lem net fields (s.count + 1) (next_at v g (regs_of s)) b hb
      ∙ emptied (mask_of net offer ready b) (regs_of s b) (λ i. g.shows (v.inp b i)) (λ i. g.ready (v.inp b i)) (λ j. (g.shows (v.out b j)).valid) (λ j. g.ready (v.out b j))
      K none_stored shape i hi ((solves net words ends acc offer ready (regs_of s)).taking b i hb hi) taken
