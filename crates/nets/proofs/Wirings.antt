-- The connections of a net: ports as places, the one block of a channel's end, and what the tables of the ends say of it.
-- Assumes nothing.
use mathlib.Core.Path.{◌≡◌, sym, ◌∙◌, subst, ap}
use mathlib.Core.Bool.{Bool, true, false}
use mathlib.Core.List.{List}
use Prim.Native.Nat.{ℕ, ◌+◌, ◌*◌, ◌/◌, ◌%◌, ◌≤◌, ◌<◌}
use native.Mathlib.Omega.{arith}
use Rattle.std.specs.Prelude.{Some, None}
use lib.Dec.{eqb}
use lib.ListN.{get_or}
use borrow.Author.Tests.{eq-eqb, ne_eqb, eqb-true, eqb-false, not-true, not-false}
use Rattle.blocks.specs.Folds.{all_below, count_below}
use Rattle.blocks.proofs.Folds.{and_1, and_2, and_both, and_false_1, and_false_2, all_at, all_in, all_fails, fails_at, count_le, count_one, count-some}
use Rattle.nets.specs.Block.{on_side}
use Rattle.nets.specs.Net.{block_at, port_at, names_at, port_count, joined, connected, fields_ok}
use Rattle.nets.specs.Loops.{HasPort}
use Rattle.nets.specs.Ends.{Entry, vacant, held, Entries, Filled, held_at, EndsAre}
use Rattle.blocks.specs.declared.Net.{Net}
use Rattle.nets.proofs.Blocks.{port-small}
use Rattle.nets.proofs.Nets.{size-high, channels-high, block_in}

-- ## Ports and places

module _ (net : Net) (side : Bool) where
  -- a port as a place, and a place as a port
  pub place_of : (c a : ℕ) → HasPort net side c a → (q : ℕ) × (q < net.size * 10) × (names_at net side c q ≡ true) × (q / 10 ≡ a)
  place_of c a p =
      let d : (a * 10 + p.port) / 10 ≡ a = omega (arith, p.in_block) in
      let m : (a * 10 + p.port) % 10 ≡ p.port = omega (arith, p.in_block) in (
        a * 10 + p.port,
        omega (arith, p.in_block, p.in_net),
        and_both (on_side side (block_at net ((a * 10 + p.port) / 10)) ((a * 10 + p.port) % 10)) (eqb (port_at net (a * 10 + p.port)) c)
            (rw (d, m) p.on_side_lem) (rw (d, m) (eq-eqb (get_or (block_at net a).ports p.port 0) c p.names)),
        d,
      )

  pub port_of_lem : (c q : ℕ) → q < net.size * 10 → names_at net side c q ≡ true → HasPort net side c (q / 10)
  port_of_lem c q h n =
      record {
        port = q % 10;
        in_net = omega arith;
        in_block = omega arith;
        on_side_lem = and_1 (on_side side (block_at net (q / 10)) (q % 10)) (eqb (port_at net q) c) n;
        names = eqb-true (port_at net q) c (and_2 (on_side side (block_at net (q / 10)) (q % 10)) (eqb (port_at net q) c) n);
      }

  -- where one port names the channel, one block has such a port
  pub one_block : (c a b : ℕ) → port_count net side c ≡ 1 → HasPort net side c a → HasPort net side c b → a ≡ b
  unfolding port_count
  one_block c a b e p r =
      let x : (q : ℕ) × (q < net.size * 10) × (names_at net side c q ≡ true) × (q / 10 ≡ a) = place_of c a p in
      let y : (q : ℕ) × (q < net.size * 10) × (names_at net side c q ≡ true) × (q / 10 ≡ b) = place_of c b r in
      sym x.3 ∙ ap (λ (q : ℕ). q / 10) (count_one (names_at net side c) (net.size * 10) x.0 y.0 x.1 y.1 x.2 y.2 e) ∙ y.3

-- ## Connections

module _ (net : Net) where
  -- a channel whose ports on one side are none or several
  pub unjoined : (side : Bool) (c : ℕ) → c < net.channels → (port_count net side c ≡ 1 → ⊥) → connected net ≡ false
  unfolding connected
  unjoined true c h n =
      all_fails (joined net) net.channels c h
      (and_false_1 (eqb (port_count net true c) 1) (eqb (port_count net false c) 1) (ne_eqb (port_count net true c) 1 n))
  unjoined false c h n =
      all_fails (joined net) net.channels c h
      (and_false_2 (eqb (port_count net true c) 1) (eqb (port_count net false c) 1) (ne_eqb (port_count net false c) 1 n))

  pub all_joined : ((c : ℕ) → c < net.channels → port_count net true c ≡ 1) → ((c : ℕ) → c < net.channels → port_count net false c ≡ 1) → connected net ≡ true
  unfolding connected
  all_joined p r =
      all_in (joined net) net.channels
      (λ c h. and_both (eqb (port_count net true c) 1) (eqb (port_count net false c) 1) (eq-eqb (port_count net true c) 1 (p c h))
      (eq-eqb (port_count net false c) 1 (r c h)))

-- ## The tables of the ends

vacant_entry : (net : Net) (side : Bool) (c q v : ℕ) → q ≤ 640 → v ≡ 255 → Entry net side c q v → count_below (names_at net side c) q ≡ 0
vacant_entry net side c q v b u (vacant e z) = z
vacant_entry net side c q v b u (held p h t e o) = absurd (never e)
  where
    never : v ≡ p / 10 → ⊥
    never e = omega arith

module _ (net : Net) (ok : fields_ok net ≡ true) (side : Bool) where
  held_entry : (c v : ℕ) → (v ≡ 255 → ⊥) → Entry net side c (net.size * 10) v → (port_count net side c ≡ 1) × HasPort net side c v
  unfolding port_count
  held_entry c v n (vacant e z) = absurd (n e)
  held_entry c v n (held p h t e o) = (o, subst (λ (k : ℕ). HasPort net side c k) (sym e) (port_of_lem net side c p h t))

  -- the block at which the filling stopped has a port for a channel that another port names
  pub ends-clash : (i : ℕ) (answer : Bool) (table : List ℕ) → i < net.size → answer ≡ false → Filled net side i answer table → EndsAre net side None
  unfolding port_count
  ends-clash i answer table h f r =
      let d = r.double f in
      let more : 2 ≤ count_below (names_at net side d.0) (net.size * 10) = omega (arith, d.1, count_le (names_at net side d.0) (i * 10 + 10) (net.size * 10) (omega arith)) in
      let q : (q : ℕ) × (q < net.size * 10) × (names_at net side d.0 q ≡ true) = count-some (names_at net side d.0) (net.size * 10) (omega arith) in
      let p : HasPort net side d.0 (q.0 / 10) = port_of_lem net side d.0 q.0 q.1 q.2 in
      let low : d.0 < net.channels =
      subst (λ (x : ℕ). x < net.channels) {x = get_or (block_at net (q.0 / 10)).ports p.port 0} p.names (port-small (block_at net (q.0 / 10)) p.port net.channels side (block_in net ok (q.0 / 10) p.in_net) p.on_side_lem) in
      (d.0, low, λ e. omega (arith, more))

  pub filled_next : (i : ℕ) (answer : Bool) (table : List ℕ) → answer ≡ true → Filled net side i answer table → Entries net side table ((i + 1) * 10)
  filled_next i answer table t r = subst (λ (q : ℕ). Entries net side table q) (omega arith) (r.whole t)

  -- all blocks are entered
  module _ (table : List ℕ) (es : Entries net side table (net.size * 10)) where
    has_one : all_below (held_at table) net.channels ≡ true → (c : ℕ) → c < net.channels → (port_count net side c ≡ 1) × HasPort net side c (get_or table c 0)
    has_one all c h =
        held_entry c (get_or table c 0)
        (eqb-false (get_or table c 0) 255 (not-true (eqb (get_or table c 0) 255) (all_at (held_at table) net.channels all c h)))
        (es c (omega (arith, channels-high net ok)))

    pub ends-whole : all_below (held_at table) net.channels ≡ true → EndsAre net side (Some table)
    ends-whole all = (
      λ c h. record { has = (has_one all c h).1; only = λ a p. one_block net side c a (get_or table c 0) (has_one all c h).0 p (has_one all c h).1 },
      λ c h. (has_one all c h).0,
    )

    pub ends-vacant : all_below (held_at table) net.channels ≡ false → EndsAre net side None
    unfolding port_count
    ends-vacant f =
        let x : (c : ℕ) × (c < net.channels) × (held_at table c ≡ false) = fails_at (held_at table) net.channels f in
        let z : count_below (names_at net side x.0) (net.size * 10) ≡ 0 =
        vacant_entry net side x.0 (net.size * 10) (get_or table x.0 0) (omega (arith, size-high net ok))
        (eqb-true (get_or table x.0 0) 255 (not-false (eqb (get_or table x.0 0) 255) x.2)) (es x.0 (omega (arith, x.1, channels-high net ok))) in
        (x.0, x.1, λ e. omega (arith, z))
