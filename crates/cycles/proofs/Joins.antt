-- The view of a net whose fields and connections pass is wired: the places that `place_of` finds are the ends of its channels, and the only ones.
-- Assumes nothing.
use Prim.Native.Nat.{ℕ, ◌+◌, ◌-◌, ◌*◌, ◌/◌, ◌%◌, ◌<◌}
use mathlib.Core.Path.{◌≡◌}
use mathlib.Core.Bool.{Bool, true, false}
use mathlib.Core.List.{List}
use native.Mathlib.Omega.{arith}
use borrow.Author.Tests.{eqb-true}
use lib.Dec.{eqb}
use lib.ListN.{get_or}
use Rattle.blocks.specs.Ports.{ports_of, n_in, n_out}
use Rattle.blocks.proofs.Folds.{and_1, and_2}
use Rattle.nets.specs.Block.{ins, outs, on_side}
use Rattle.nets.specs.Net.{block_at, fields_ok, port_at, connected, place_of}
use Rattle.nets.specs.Loops.{HasPort}
use Rattle.blocks.specs.declared.Net.{Net}
use Rattle.nets.proofs.Blocks.{ports_ten, input_side, side_input, output_side, side_output}
use Rattle.nets.proofs.Nets.{m-ok}
use Rattle.nets.proofs.Wirings.{port_of_lem}
use Rattle.nets.proofs.Places.{place_is, place-only, has_input, has_output, inp_range as net-inp, out_range as net-out}
use Rattle.cycles.specs.Streams.{stream_of}
use Rattle.cycles.specs.Wires.{kind_at, view_of, producer, out_port, consumer, in_port}
use Rattle.blocks.proofs.Numbers.{ins_agree, outs_agree}
use Rattle.cycles.proofs.Wiring.{Wired}

module _ (net : Net) (words ends : List ℕ) (ok : fields_ok net ≡ true) (joins : connected net ≡ true) where
  -- the port counts of the view are the net's
  pub ins_are : (b : ℕ) → b < net.size → n_in (kind_at net words ends b) ≡ ins (block_at net b)
  unfolding ins ports_of
  ins_are b h =
      rw (m-ok net ok b h) (ins_agree (block_at net b).m (block_at net b).value (stream_of net words ends b) (block_at net b).kind (m-ok net ok b h))

  pub outs_are : (b : ℕ) → b < net.size → n_out (kind_at net words ends b) ≡ outs (block_at net b)
  unfolding outs ports_of
  outs_are b h =
      rw (m-ok net ok b h) (outs_agree (block_at net b).m (block_at net b).value (stream_of net words ends b) (block_at net b).kind (m-ok net ok b h))

  -- so its ports are ports of the net, on channels of the net
  pub inp_range : (b i : ℕ) → b < net.size → i < n_in (kind_at net words ends b) → (view_of net words ends).inp b i < net.channels
  inp_range b i hb hi = net-inp net ok b i hb (omega (arith, ins_are b hb))

  pub out_range : (b j : ℕ) → b < net.size → j < n_out (kind_at net words ends b) → (view_of net words ends).out b j < net.channels
  out_range b j hb hj = net-out net ok b j hb (omega (arith, outs_are b hb))

  pub input : (b i : ℕ) → b < net.size → i < n_in (kind_at net words ends b) → HasPort net false ((view_of net words ends).inp b i) b
  input b i hb hi = has_input net b i hb (omega (arith, ins_are b hb))

  pub output : (b j : ℕ) → b < net.size → j < n_out (kind_at net words ends b) → HasPort net true ((view_of net words ends).out b j) b
  output b j hb hj = has_output net b j hb (omega (arith, outs_are b hb))

  -- the place that is found is a port on this side that names the channel
  found : (side : Bool) (c : ℕ) → c < net.channels
      → (place_of net side c < net.size * 10) × (on_side side (block_at net (place_of net side c / 10)) (place_of net side c % 10) ≡ true) × (port_at net (place_of net side c) ≡ c)
  unfolding place_of
  found side c h =
      let q : ℕ = place_of net side c in
      let p = place_is net ok joins side c h in
      let on : Bool = on_side side (block_at net (q / 10)) (q % 10) in
      (p.0, and_1 on (eqb (port_at net q) c) p.1, eqb-true (port_at net q) c (and_2 on (eqb (port_at net q) c) p.1))

  -- and the only one
  only : (side : Bool) (b k : ℕ) → b < net.size → k < 10 → on_side side (block_at net b) k ≡ true
      → (place_of net side (get_or (block_at net b).ports k 0) / 10 ≡ b) × (place_of net side (get_or (block_at net b).ports k 0) % 10 ≡ k)
  unfolding place_of
  only side b k hb hk on =
      let e = place-only net ok joins side b k hb hk on in
      let d : (b * 10 + k) / 10 ≡ b = omega (arith, hk) in
      let m : (b * 10 + k) % 10 ≡ k = omega (arith, hk) in
      (rw (e, d), rw (e, m))

  -- so the block there has a port that names the channel
  pub end : (side : Bool) (c : ℕ) → c < net.channels → HasPort net side c (place_of net side c / 10)
  unfolding place_of
  end side c h = let p = place_is net ok joins side c h in port_of_lem net side c (place_of net side c) p.0 p.1

  pub leaves : (c : ℕ) → c < net.channels
      → (producer net c < net.size) × (out_port net c < n_out (kind_at net words ends (producer net c))) × ((view_of net words ends).out (producer net c) (out_port net c) ≡ c)
  leaves c h =
      let q : ℕ = place_of net true c in
      let p = found true c h in
      let inside : q / 10 < net.size = omega (arith, p.0) in
      let on = side_output (block_at net (q / 10)) (q % 10) p.1 in
      let back : ins (block_at net (q / 10)) + (q % 10 - ins (block_at net (q / 10))) ≡ q % 10 = omega (arith, on.0) in
      (inside, omega (arith, on.0, on.1, outs_are (q / 10) inside), rw back p.2)

  pub enters : (c : ℕ) → c < net.channels
      → (consumer net c < net.size) × (in_port net c < n_in (kind_at net words ends (consumer net c))) × ((view_of net words ends).inp (consumer net c) (in_port net c) ≡ c)
  enters c h =
      let q : ℕ = place_of net false c in
      let p = found false c h in
      let inside : q / 10 < net.size = omega (arith, p.0) in
      (inside, omega (arith, side_input (block_at net (q / 10)) (q % 10) p.1, ins_are (q / 10) inside), p.2)

  pub leaves-only : (b j : ℕ) → b < net.size → j < n_out (kind_at net words ends b)
      → (producer net ((view_of net words ends).out b j) ≡ b) × (out_port net ((view_of net words ends).out b j) ≡ j)
  leaves-only b j hb hj =
      let few : ins (block_at net b) + j < 10 = omega (arith, outs_are b hb, ports_ten (block_at net b)) in
      let e = only true b (ins (block_at net b) + j) hb few (output_side (block_at net b) j (omega (arith, outs_are b hb))) in
      (e.0, rw (e.0, e.1) (omega arith))

  pub enters-only : (b i : ℕ) → b < net.size → i < n_in (kind_at net words ends b)
      → (consumer net ((view_of net words ends).inp b i) ≡ b) × (in_port net ((view_of net words ends).inp b i) ≡ i)
  enters-only b i hb hi =
      only false b i hb (omega (arith, ins_are b hb, ports_ten (block_at net b))) (input_side (block_at net b) i (omega (arith, ins_are b hb)))

  unfoldable pub wired : Wired (view_of net words ends)
  wired =
      record {
        producer = producer net;
        out_port = out_port net;
        consumer = consumer net;
        in_port = in_port net;
        out_range = out_range;
        inp_range = inp_range;
        leaves = leaves;
        enters = enters;
        leaves-only = leaves-only;
        enters-only = enters-only;
      }
