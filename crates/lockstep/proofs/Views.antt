-- A net with one buffer more, as the queue machine reads it: its view is that of the net without it, split at the buffer's channel, whatever the choices of merges. Old blocks keep their
-- numbers, so they keep their streams and their choices, and the new block is no merge.
-- Assumes nothing.
use Prim.Native.Nat.{ℕ, ◌+◌, ◌<◌}
use mathlib.Core.Path.{◌≡◌, refl, ◌∙◌, ap}
use mathlib.Core.Bool.{cond}
use mathlib.Core.List.{List, []}
use mathlib.Core.Option.{some}
use native.Mathlib.Omega.{arith}
use lib.Dec.{eqb}
use lib.ListN.{get_or}
use Rattle.blocks.specs.Kinds.{Kind, merge, kind_of}
use Rattle.blocks.specs.Firing.{turn, first, each, ◌then◌}
use Rattle.blocks.specs.Ports.{n_in, n_out}
use Rattle.nets.specs.Block.{ins, outs}
use Rattle.nets.specs.Net.{block_at}
use Rattle.blocks.specs.declared.Block.{Block}
use Rattle.blocks.specs.declared.Net.{Net}
use Rattle.nets.proofs.Blocks.{ports_ten}
use Rattle.cycles.specs.Streams.{ends_fit, stream_of}
use Rattle.cycles.specs.Wires.{View}
use Rattle.cycles.proofs.Joins.{ins_are, outs_are}
use Rattle.queue.specs.Machine.{machine_of}
use Rattle.queue.proofs.Machines.{carried}
use Rattle.placed.specs.Placed.{buffer_from, input_moved, split}
use Rattle.placed.proofs.Moved.{moved_ins, moved_port, at_input, no_input, by_plain, buffer-ins}
use Rattle.placed.proofs.Splitting.{block_new, block_old, same_kinds, same_count}
use Rattle.placed.proofs.Placing.{Room}
use Rattle.lockstep.proofs.Lockstep.{Splits}

-- a block's kind in the machine, from its choices and its stream
abbrev kind_by : List ℕ → List ℕ → Block → Kind
kind_by cs xs x = cond (eqb x.kind 7) (merge x.m cs) (kind_of x.kind x.m x.value xs)

module _ (net : Net) (c kind : ℕ) (r : Room net c kind) (words ends : List ℕ) (choices : ℕ → List ℕ) where
  abbrev old : View
  old = machine_of net words ends choices

  abbrev new : View
  new = machine_of (split net c kind) words ends choices

  -- ## Old blocks

  same_stream : (b : ℕ) → b < net.size → stream_of (split net c kind) words ends b ≡ stream_of net words ends b
  unfolding ends_fit
  same_stream b h =
      rw (
        same_count net c kind r.plain r.joined r.inside r.blocks_fit r.channels_fit 0 (omega arith),
        same_kinds net c kind r.plain r.joined r.inside r.blocks_fit r.channels_fit 0 b (omega arith),
      )

  kind_old : (b : ℕ) → b < net.size → new.kind b ≡ old.kind b
  kind_old b h =
      ap (kind_by (choices b) (stream_of (split net c kind) words ends b)) (block_old net c kind r.blocks_fit b h)
      ∙ ap (λ (xs : List ℕ). kind_by (choices b) xs (block_at net b)) (same_stream b h)

  out_old : (b i : ℕ) → b < net.size → i < n_out (old.kind b) → new.out b i ≡ old.out b i
  out_old b i hb hi =
      let x : Block = block_at net b in
      let many : n_out (old.kind b) ≡ outs x =
      carried net words ends choices (λ K. n_out K ≡ outs x) (λ m cs h. h) b (outs_are net words ends r.joined.fields r.joined.joins b hb) in
      ap (λ (y : Block). get_or y.ports (ins y + i) 0) (block_old net c kind r.blocks_fit b hb)
      ∙ ap (λ (n : ℕ). get_or (input_moved c net.channels x).ports (n + i) 0) (moved_ins c net.channels x)
      ∙ moved_port c net.channels x (ins x + i) (omega (arith, ports_ten x))
      ∙ no_input c net.channels x (ins x + i) (omega arith)

  inp_old : (b i : ℕ) → b < net.size → i < n_in (old.kind b) → new.inp b i ≡ cond (eqb (old.inp b i) c) net.channels (old.inp b i)
  inp_old b i hb hi =
      let x : Block = block_at net b in
      let many : n_in (old.kind b) ≡ ins x =
      carried net words ends choices (λ K. n_in K ≡ ins x) (λ m cs h. h) b (ins_are net words ends r.joined.fields r.joined.joins b hb) in
      ap (λ (y : Block). get_or y.ports i 0) (block_old net c kind r.blocks_fit b hb)
      ∙ moved_port c net.channels x i (omega (arith, ports_ten x))
      ∙ at_input c net.channels x i (omega arith)

  -- ## The new block

  abbrev buffer : Block
  buffer = buffer_from kind c net.channels

  buffer_is : block_at (split net c kind) net.size ≡ buffer
  buffer_is = block_new net c kind r.blocks_fit

  -- what holds of a data buffer and of a control buffer holds of it
  kind_new : (P : Kind → Type 0) → P (kind_of 8 0 0 []) → P (kind_of 10 0 0 []) → P (new.kind net.size)
  kind_new P d k =
      rw buffer_is (by_plain (λ n. P (kind_by (choices net.size) (stream_of (split net c kind) words ends net.size) (buffer_from n c net.channels))) d k kind r.plain)

  pub splits : Splits old new c
  splits =
      record {
        on_channel = r.inside;
        one_more = omega arith;
        channel_more = omega arith;
        same_kind = kind_old;
        same_out = out_old;
        moved_inp = inp_old;
        one_in = kind_new (λ K. n_in K ≡ 1) refl refl;
        one_out = kind_new (λ K. n_out K ≡ 1) refl refl;
        from_old = ap (λ (y : Block). get_or y.ports 0 0) buffer_is;
        to_new =
            ap (λ (y : Block). get_or y.ports (ins y + 0) 0) buffer_is
            ∙ ap (λ (n : ℕ). get_or buffer.ports (n + 0) 0) (buffer-ins c net.channels kind r.plain);
        passes = λ k f. kind_new (λ K. turn K k f ≡ (f 0 then λ a. some (each a))) refl refl;
        starts_empty = kind_new (λ K. first K ≡ []) refl refl;
      }
