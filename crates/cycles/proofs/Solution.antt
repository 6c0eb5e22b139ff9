-- The signals of a cycle of an accepted net satisfy every block's equations, and no others do. The questions forward follow the data order; backward they
-- end at control buffers, and else follow the control order from its end to its beginning.
-- Assumes nothing.
use Prim.Native.Nat.{ℕ, suc, ◌-◌, ◌<◌}
use mathlib.Core.Path.{◌≡◌}
use mathlib.Core.Bool.{Bool, true, false, cond}
use mathlib.Core.List.{List}
use native.Mathlib.Omega.{arith}
use Rattle.blocks.specs.Ports.{n_in, n_out}
use Rattle.blocks.specs.declared.Sig.{Sig}
use Rattle.blocks.specs.declared.Reg.{Reg}
use Rattle.blocks.proofs.Options.{test}
use Rattle.blocks.proofs.Local.{waits, leans}
use Rattle.nets.specs.Net.{block_at, fields_ok, connected}
use Rattle.nets.specs.Loops.{is_buffer}
use Rattle.nets.specs.Verdict.{VerdictIs}
use Rattle.nets.specs.Promises.{InOrder}
use Rattle.blocks.specs.declared.Net.{Net}
use Rattle.nets.specs.Verdict.{Accepted}
use Rattle.nets.proofs.Placed.{order_exists}
use Rattle.cycles.specs.Streams.{stream_of, mask_of}
use Rattle.cycles.specs.Wires.{kind_at, view_of, producer, consumer}
use Rattle.cycles.specs.Cycle.{Signals, signals_of}
use Rattle.cycles.specs.Solved.{Solved}
use Rattle.cycles.proofs.Waiting.{waits_free, leans_free}
use Rattle.cycles.proofs.Joins.{end, out_range, inp_range, output, input, wired}
use Rattle.cycles.proofs.Stepping.{Ranked, cycle_solves, cycle_unique}

-- the producer of an input of a block that waits stands before it in the data order
module _ (net : Net) (words ends : List ℕ) (ok : fields_ok net ≡ true) (joins : connected net ≡ true) (order : List ℕ) (data_order : InOrder net false order) where
  pub earlier : (b i : ℕ) → b < net.size → waits (kind_at net words ends b) ≡ true → i < n_in (kind_at net words ends b)
      → data_order.place (producer net ((view_of net words ends).inp b i)) < data_order.place b
  earlier b i hb wt hi =
      let c : ℕ = (view_of net words ends).inp b i in
      data_order.grows c (producer net c) b
      (record { leaves = end net words ends ok joins true c (inp_range net words ends ok joins b i hb hi); enters = input net words ends ok joins b i hb hi })
      (waits_free (block_at net b).m (block_at net b).value (stream_of net words ends b) (block_at net b).kind wt)

module _ (net : Net) (words ends : List ℕ) (ok : fields_ok net ≡ true) (joins : connected net ≡ true)
    (order order' : List ℕ) (data_order : InOrder net false order) (control_order : InOrder net true order') where
  -- control buffers first, then the blocks from the end of the control order to its beginning
  abbrev late : ℕ → ℕ
  late b = cond (is_buffer true (block_at net b).kind) 0 (net.size - control_order.place b)

  later : (b j : ℕ) → b < net.size → leans (kind_at net words ends b) ≡ true → j < n_out (kind_at net words ends b) → late (consumer net ((view_of net words ends).out b j)) < late b
  later b j hb ln hj =
      let c : ℕ = (view_of net words ends).out b j in
      let a : ℕ = consumer net c in
      let hc : c < net.channels = out_range net words ends ok joins b j hb hj in
      let free : is_buffer true (block_at net b).kind ≡ false = leans_free (block_at net b).m (block_at net b).value (stream_of net words ends b) (block_at net b).kind ln in
      let grow : control_order.place b < control_order.place a =
      control_order.grows c b a (record { leaves = output net words ends ok joins b j hb hj; enters = end net words ends ok joins false c hc }) free in
      let at_b : control_order.place b < net.size = (control_order.stands b hb).0 in
      test (is_buffer true (block_at net a).kind) (λ z. rw (z, free) (omega arith)) (λ z. rw (z, free) (omega arith))

  late_low : (b : ℕ) → b < net.size → late b < suc net.size
  late_low b hb = test (is_buffer true (block_at net b).kind) (λ z. rw z (omega arith)) (λ z. rw z (omega arith))

  ranked : Ranked (view_of net words ends) (wired net words ends ok joins) (suc net.size)
  unfolding wired
  ranked =
      record {
        forward = data_order.place;
        falls = earlier net words ends ok joins order data_order;
        low = λ b hb. omega (arith, (data_order.stands b hb).0);
        backward = late;
        drops = later;
        short = late_low;
      }

  module _ (offer ready : ℕ) (r : ℕ → Reg) where
    abbrev cycle : Signals
    cycle = signals_of net words ends offer ready r

    pub solves-in : Solved net words ends offer ready r cycle.shows cycle.ready
    unfolding wired
    solves-in = cycle_solves (view_of net words ends) (wired net words ends ok joins) (mask_of net offer ready) r net.size ranked

    pub unique-in : (X : ℕ → Sig) (Y : ℕ → Bool) → Solved net words ends offer ready r X Y → (c : ℕ) → c < net.channels → (X c ≡ cycle.shows c) × (Y c ≡ cycle.ready c)
    unfolding wired
    unique-in = cycle_unique (view_of net words ends) (wired net words ends ok joins) (mask_of net offer ready) r net.size ranked

-- An accepted net has both orders.
pub record Orders (net : Net) : Type 0 where
  pub fields : fields_ok net ≡ true
  pub joins : connected net ≡ true
  pub forth : List ℕ
  pub back : List ℕ
  pub data_order : InOrder net false forth
  pub control_order : InOrder net true back

pub orders : (net : Net) → VerdictIs net Accepted → Orders net
orders net acc =
    let d = order_exists net acc.0.fields acc.0.joins false acc.1.0 in
    let c = order_exists net acc.0.fields acc.0.joins true acc.1.1 in
    record { fields = acc.0.fields; joins = acc.0.joins; forth = d.0; back = c.0; data_order = d.1; control_order = c.1 }

module _ (net : Net) (words ends : List ℕ) (acc : VerdictIs net Accepted) (offer ready : ℕ) (r : ℕ → Reg) where
  -- The signals of a cycle satisfy every block's equations.
  pub solves : Solved net words ends offer ready r (signals_of net words ends offer ready r).shows (signals_of net words ends offer ready r).ready
  solves =
      let o : Orders net = orders net acc in
      solves-in net words ends o.fields o.joins o.forth o.back o.data_order o.control_order offer ready r

  -- Any signals that satisfy them are, on every channel, those of the cycle.
  pub unique : (X : ℕ → Sig) (Y : ℕ → Bool) → Solved net words ends offer ready r X Y
      → (c : ℕ) → c < net.channels → (X c ≡ (signals_of net words ends offer ready r).shows c) × (Y c ≡ (signals_of net words ends offer ready r).ready c)
  unique =
      let o : Orders net = orders net acc in
      unique-in net words ends o.fields o.joins o.forth o.back o.data_order o.control_order offer ready r
