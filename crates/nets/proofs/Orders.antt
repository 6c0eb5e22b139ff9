-- The laws of placing blocks: how the progress goes on, and what it means when it stops. A whole order has every block after the producers of its inputs,
-- so there is no loop without a buffer; and where blocks are left that cannot be placed, there is one.
-- Assumes nothing.
use mathlib.Core.Path.{◌≡◌, refl, sym, ◌∙◌, subst, ap}
use mathlib.Core.Bool.{Bool, true, false, not, ◌&&◌, ◌||◌}
use mathlib.Core.List.{List}
use mathlib.Core.Logic.{◌⊎◌, inl, inr}
use Prim.Native.Nat.{ℕ, ◌+◌, ◌-◌, ◌≤◌, ◌<◌}
use native.Mathlib.Decide.{ℕ_discrete}
use native.Mathlib.Omega.{arith}
use lib.Dec.{eqb, leb}
use lib.ListN.{get_or, set, replicate, get_or-replicate, length-replicate, length-set}
use lib.Seq.{get_or-set_same, get_or-set_other}
use borrow.Author.Tests.{eq-eqb, ne_eqb, eqb-true, eqb-false, le-leb, not-true, not-false}
use Rattle.loops.proofs.Cycle.{no_loop, has-loop}
use Rattle.blocks.specs.Folds.{all_below, count_below}
use Rattle.blocks.proofs.Folds.{clash, and_1, and_2, all_none, all_more, all_at, all_fails, all_less, fails_at, count_step, count-some, count_all, count-zero, count-drop, or_1, or_2, or_cases}
use Rattle.nets.specs.Block.{ins}
use Rattle.nets.specs.Net.{block_at, fields_ok}
use Rattle.nets.specs.Loops.{HasPort, Leads, FreeLoop, is_buffer}
use Rattle.nets.specs.Promises.{TheBlock, Table, cuts, InOrder}
use Rattle.nets.specs.Order.{feeder, unplaced, cut_at, fed_at, may_place, next_at, passed_at, After, Judged, Progress, Placed, Stepped, Swept, Whole, Halted}
use Rattle.blocks.specs.declared.Net.{Net}
use Rattle.nets.specs.declared.placing.Order.{Order}
use Rattle.nets.proofs.Blocks.{ins-small, input_side, side_input, port-small}
use Rattle.nets.proofs.Nets.{size-high, channels-high, block_in}
use Rattle.nets.proofs.FreeLoops.{LeadsFree, by_ends, by_blocks}

-- ## Tests

-- where neither end is a buffer the channel is not cut
pub uncut : (control : Bool) (a b : ℕ) → is_buffer control a ≡ false → is_buffer control b ≡ false → cuts control a b ≡ false
uncut true a b e f = e
uncut false a b e f = f

-- of two channels in a row that are not cut, the block between is no buffer
pub between : (control : Bool) (a b c : ℕ) → cuts control b c ≡ false → cuts control a b ≡ false → is_buffer control b ≡ false
between true a b c e f = e
between false a b c e f = f

-- what is fed within the limit is fed, and what is not is not where its producer's place is within the limit
within-yes : (cut within placed : Bool) → (cut || (within && placed)) ≡ true → (cut || placed) ≡ true
within-yes true within placed e = refl
within-yes false within placed e = and_2 within placed e

within_no : (cut within placed : Bool) → within ≡ true → (cut || (within && placed)) ≡ false → (cut || placed) ≡ false
within_no cut within placed w e = rw w at e

module _ (control : Bool) (net : Net) (producer : List ℕ) (limit b : ℕ) (places : List ℕ) where
  -- nothing passes at input j, or it is fed by a block that is placed within the limit
  abbrev pub within : ℕ → Bool
  within j = cut_at control net producer b j || (leb (get_or places (feeder net producer b j) 0) limit && not (unplaced places (feeder net producer b j)))

  pub within_fed : (j : ℕ) → within j ≡ true → fed_at control net producer places b j ≡ true
  within_fed j e =
      within-yes (cut_at control net producer b j) (leb (get_or places (feeder net producer b j) 0) limit) (not (unplaced places (feeder net producer b j))) e

  -- by the answers of the two functions that the order reads
  pub fed-is : (j : ℕ) (free fed : Bool) → free ≡ cut_at control net producer b j
      → fed ≡ (free || (leb (get_or places (feeder net producer b j) 0) limit && not (unplaced places (feeder net producer b j)))) → fed ≡ within j
  fed-is j free fed e f = f ∙ ap (λ (t : Bool). t || (leb (get_or places (feeder net producer b j) 0) limit && not (unplaced places (feeder net producer b j)))) e

  -- the answers whether b may be placed
  pub judged_no : (j : ℕ) → j < ins (block_at net b) → within j ≡ false → Judged control net producer limit b places false
  unfolding may_place
  judged_no j h e =
      record {
        yes = λ t. clash t refl;
        no = λ f low.
            all_fails (fed_at control net producer places b) (ins (block_at net b)) j h
            (within_no (cut_at control net producer b j) (leb (get_or places (feeder net producer b j) 0) limit) (not (unplaced places (feeder net producer b j)))
            (le-leb (get_or places (feeder net producer b j) 0) limit (low j h)) e);
      }

  pub judged_yes : (j : ℕ) → ins (block_at net b) ≤ j → all_below (fed_at control net producer places b) j ≡ true → Judged control net producer limit b places true
  unfolding may_place
  judged_yes j h a = record { yes = λ t. all_less (fed_at control net producer places b) j (ins (block_at net b)) h a; no = λ f low. clash refl f }

  module _ (may : Bool) (z : get_or places b 0 ≡ 0) (m : Judged control net producer limit b places may) where
    pub next-yes : may ≡ true → next_at control net producer places b ≡ true
    next-yes t = rw (eq-eqb (get_or places b 0) 0 z) (m.yes t)

    passed-waits : may ≡ false → ((j : ℕ) → j < ins (block_at net b) → get_or places (feeder net producer b j) 0 ≤ limit) → passed_at control net producer places b ≡ true
    passed-waits f low = rw (eq-eqb (get_or places b 0) 0 z, m.no f low)

-- what a reader of block b's inputs may rely on: their channels are below 128, and their producers are blocks of the net
pub record Reads (net : Net) (producer : List ℕ) (b : ℕ) : Type 0 where
  pub channel_low : (j : ℕ) → j < ins (block_at net b) → get_or (block_at net b).ports j 0 < 128
  pub feeder-low : (j : ℕ) → j < ins (block_at net b) → feeder net producer b j < net.size

-- ## Progress

never_below : (k : ℕ) → k < 0 → ⊥
never_below k h = omega arith

module _ (control : Bool) (net : Net) (producer : List ℕ) where
  pub progress_start : net.size ≤ 64 → Progress control net producer 0 (replicate 64 0) (replicate 64 0)
  progress_start s =
      record {
        total = omega (arith, count_all (unplaced (replicate 64 0)) net.size (λ i h. eq-eqb (get_or (replicate 64 0) i 0) 0 (get_or-replicate {A = ℕ} 64 i 0 0 (omega arith))));
        blocks-long = length-replicate {A = ℕ} 64 0;
        places-long = length-replicate {A = ℕ} 64 0;
        bounded = λ i h. omega (arith, get_or-replicate {A = ℕ} 64 i 0 0 (omega arith));
        after = λ i h n. absurd (n (get_or-replicate {A = ℕ} 64 i 0 0 (omega arith)));
        listed = λ k h. absurd (never_below k h);
        stands = λ i h n. absurd (n (get_or-replicate {A = ℕ} 64 i 0 0 (omega arith)));
      }

  module _ (count : ℕ) (blocks places : List ℕ) (p : Progress control net producer count blocks places) (s : net.size ≤ 64) (i : ℕ) (h : i < net.size)
      (next : next_at control net producer places i ≡ true) where
    free : get_or places i 0 ≡ 0
    free = eqb-true (get_or places i 0) 0 (and_1 (unplaced places i) (may_place control net producer places i) next)

    may : may_place control net producer places i ≡ true
    may = and_2 (unplaced places i) (may_place control net producer places i) next

    -- there is room for one more
    pub room : count < net.size
    room = omega (arith, p.total, count_step (unplaced places) net.size i h (eq-eqb (get_or places i 0) 0 free))

    there : get_or (set places i (count + 1)) i 0 ≡ count + 1
    there = get_or-set_same places i (count + 1) 0 (omega (arith, p.places-long))

    elsewhere : (k : ℕ) → (k ≡ i → ⊥) → get_or (set places i (count + 1)) k 0 ≡ get_or places k 0
    elsewhere k n = get_or-set_other places i k (count + 1) 0 n

    -- a block that is placed already keeps its place
    kept : (k : ℕ) → 0 < get_or places k 0 → get_or (set places i (count + 1)) k 0 ≡ get_or places k 0
    kept k n = elsewhere k (λ e. omega (arith, free, ap (λ (x : ℕ). get_or places x 0) e))

    next-total : (count + 1) + count_below (unplaced (set places i (count + 1))) net.size ≡ net.size
    next-total =
        omega (
          arith,
          p.total,
          count-drop (unplaced places) (unplaced (set places i (count + 1))) net.size i h (eq-eqb (get_or places i 0) 0 free)
              (rw there (ne_eqb (count + 1) 0 (omega arith)))
              (λ k n. ap (λ (x : ℕ). eqb x 0) (elsewhere k n)),
        )

    next-bounded : (k : ℕ) → k < net.size → get_or (set places i (count + 1)) k 0 ≤ count + 1
    next-bounded k q = go (ℕ_discrete k i)
      where
        go : Dec (k ≡ i) → get_or (set places i (count + 1)) k 0 ≤ count + 1
        go (yes e) = rw (e, there) (omega arith)
        go (no n) = rw (elsewhere k n) (omega (arith, p.bounded k q))

    -- the block that is placed now comes after the producers of its inputs
    after-new : Reads net producer i → After control net producer (set places i (count + 1)) i
    unfolding may_place
    after-new feeds j q = go (or_cases (cut_at control net producer i j) (not (unplaced places from)) (all_at (fed_at control net producer places i) (ins (block_at net i)) may j q))
      where
        from : ℕ
        from = feeder net producer i j

        go : (cut_at control net producer i j ≡ true) ⊎ (not (unplaced places from) ≡ true)
            → (cut_at control net producer i j ≡ true) ⊎ ((0 < get_or (set places i (count + 1)) from 0) × (get_or (set places i (count + 1)) from 0 < get_or (set places i (count + 1)) i 0))
        go (inl e) = inl e
        go (inr e) =
            let z : 0 < get_or places from 0 = omega (arith, eqb-false (get_or places from 0) 0 (not-true (unplaced places from) e)) in
            inr (rw (kept from z) z, rw (kept from z, there) (omega (arith, p.bounded from (feeds.feeder-low j q))))

    after-old : (k : ℕ) → (k ≡ i → ⊥) → After control net producer places k → After control net producer (set places i (count + 1)) k
    after-old k n f j q = go (f j q)
      where
        from : ℕ
        from = feeder net producer k j

        go : (cut_at control net producer k j ≡ true) ⊎ ((0 < get_or places from 0) × (get_or places from 0 < get_or places k 0))
            → (cut_at control net producer k j ≡ true) ⊎ ((0 < get_or (set places i (count + 1)) from 0) × (get_or (set places i (count + 1)) from 0 < get_or (set places i (count + 1)) k 0))
        go (inl e) = inl e
        go (inr w) = inr (rw (kept from w.0) w.0, rw (kept from w.0, elsewhere k n) w.1)

    next-after : Reads net producer i → (k : ℕ) → k < net.size → (get_or (set places i (count + 1)) k 0 ≡ 0 → ⊥)
        → After control net producer (set places i (count + 1)) k
    next-after feeds k q n = go (ℕ_discrete k i)
      where
        go : Dec (k ≡ i) → After control net producer (set places i (count + 1)) k
        go (yes e) = subst (λ (x : ℕ). After control net producer (set places i (count + 1)) x) (sym e) (after-new feeds)
        go (no e) = after-old k e (p.after k q (λ z. n (elsewhere k e ∙ z)))

    next-listed : (k : ℕ) → k < count + 1
        → (get_or (set blocks count i) k 0 < net.size) × (get_or (set places i (count + 1)) (get_or (set blocks count i) k 0) 0 ≡ k + 1)
    next-listed k q = go (ℕ_discrete k count)
      where
        go : Dec (k ≡ count) → (get_or (set blocks count i) k 0 < net.size) × (get_or (set places i (count + 1)) (get_or (set blocks count i) k 0) 0 ≡ k + 1)
        go (yes e) =
            let r : get_or (set blocks count i) count 0 ≡ i = get_or-set_same blocks count i 0 (omega (arith, room, p.blocks-long)) in
            rw (e, r) (h, there)
        go (no e) =
            let r : get_or (set blocks count i) k 0 ≡ get_or blocks k 0 = get_or-set_other blocks count k i 0 e in
            let l : (get_or blocks k 0 < net.size) × (get_or places (get_or blocks k 0) 0 ≡ k + 1) = p.listed k (omega arith) in
            rw r (l.0, kept (get_or blocks k 0) (omega (arith, l.1)) ∙ l.1)

    next-stands : (k : ℕ) → k < net.size → (get_or (set places i (count + 1)) k 0 ≡ 0 → ⊥)
        → get_or (set blocks count i) (get_or (set places i (count + 1)) k 0 - 1) 0 ≡ k
    next-stands k q n = go (ℕ_discrete k i)
      where
        go : Dec (k ≡ i) → get_or (set blocks count i) (get_or (set places i (count + 1)) k 0 - 1) 0 ≡ k
        go (yes e) =
            let one : (count + 1) - 1 ≡ count = omega arith in
            rw (e, there, one) (get_or-set_same blocks count i 0 (omega (arith, room, p.blocks-long)))
        go (no e) =
            let m : get_or places k 0 ≡ 0 → ⊥ = λ z. n (elsewhere k e ∙ z) in
            rw (elsewhere k e) (get_or-set_other blocks count (get_or places k 0 - 1) i 0 (omega (arith, p.bounded k q)) ∙ p.stands k q m)

    pub progress_step : Reads net producer i → Progress control net producer (count + 1) (set blocks count i) (set places i (count + 1))
    progress_step feeds =
        record {
          total = next-total;
          blocks-long = length-set blocks count i ∙ p.blocks-long;
          places-long = length-set places i (count + 1) ∙ p.places-long;
          bounded = next-bounded;
          after = next-after feeds;
          listed = next-listed;
          stands = next-stands;
        }

  -- the ways of one block
  module _ (limit b : ℕ) (o : Order) (p : Placed control net producer o) where
    pub stepped-place : net.size ≤ 64 → b < net.size → Reads net producer b → next_at control net producer o.places b ≡ true
        → Stepped control net producer limit b o (record { count = o.count + 1; blocks = set o.blocks o.count b; places = set o.places b (o.count + 1) })
    stepped-place s h f n = record { progress = progress_step o.count o.blocks o.places p s b h n f; either = inl refl }

    pub stepped-placed : (get_or o.places b 0 ≡ 0 → ⊥) → Stepped control net producer limit b o o
    stepped-placed n = record { progress = p; either = inr (refl, refl, λ l. rw (ne_eqb (get_or o.places b 0) 0 n)) }

    -- what is placed is within the count, so within the limit where the count is
    pub stepped-waits : (may : Bool) → Reads net producer b → get_or o.places b 0 ≡ 0 → Judged control net producer limit b o.places may → may ≡ false
        → Stepped control net producer limit b o o
    stepped-waits may f z m e =
        record {
          progress = p;
          either =
              inr (
                refl,
                refl,
                λ l.
                    passed-waits control net producer limit b o.places may z m e (λ j q. omega (arith, l, p.bounded (feeder net producer b j) (f.feeder-low j q))),
              );
        }

  -- a block that can be placed has room in the order
  pub room-for : (o : Order) → fields_ok net ≡ true → (limit : ℕ) → Placed control net producer o → (b : ℕ) → b < net.size → get_or o.places b 0 ≡ 0 → {may : Bool}
      → Judged control net producer limit b o.places may → may ≡ true → o.count < 64
  room-for o ok limit p b h z {may} m t =
      omega (
        arith,
        size-high net ok,
        room o.count o.blocks o.places p (size-high net ok) b h (next-yes control net producer limit b o.places may z m t),
      )

  -- a sweep so far: the blocks before b are passed, if nothing was placed
  pub record Sweeping (count b : ℕ) (o : Order) : Type 0 where
    pub progress : Placed control net producer o
    pub grown : count ≤ o.count
    pub passed : o.count ≡ count → all_below (passed_at control net producer o.places) b ≡ true

  pub sweeping_start : (o : Order) → Placed control net producer o → Sweeping o.count 0 o
  sweeping_start o p = record { progress = p; grown = omega arith; passed = λ e. all_none (passed_at control net producer o.places) }

  pub sweeping_step : (count b : ℕ) (old new : Order) → Sweeping count b old → Stepped control net producer count b old new → Sweeping count (b + 1) new
  sweeping_step count b old new s t = go t.either
    where
      go : (new.count ≡ old.count + 1) ⊎ ((new.count ≡ old.count) × (new.places ≡ old.places) × (old.count ≤ count → passed_at control net producer old.places b ≡ true))
          → Sweeping count (b + 1) new
      go (inl e) = record { progress = t.progress; grown = omega (arith, s.grown); passed = λ f. absurd (never f) }
        where
          never : new.count ≡ count → ⊥
          never f = omega (arith, s.grown)
      go (inr w) =
          record {
            progress = t.progress;
            grown = omega (arith, s.grown, w.0);
            passed = λ f.
                subst (λ (l : List ℕ). all_below (passed_at control net producer l) (b + 1) ≡ true) (sym w.1)
                (all_more (passed_at control net producer old.places) b (s.passed (sym w.0 ∙ f)) (w.2 (omega (arith, w.0, f))));
          }

  pub sweeping_end : (count b : ℕ) (o : Order) → net.size ≤ b → Sweeping count b o → Swept control net producer count o
  sweeping_end count b o h s =
      record {
        progress = s.progress;
        grown = s.grown;
        stuck = λ e. all_less (passed_at control net producer o.places) b net.size h (s.passed e);
      }

  -- what the answers show
  pub halted : (count : ℕ) (o : Order) → count < net.size → o.count ≡ count → Swept control net producer count o → Halted control net producer
  halted count o h e s =
      record { count = o.count; blocks = o.blocks; places = o.places; progress = s.progress; left = omega arith; stuck = s.stuck e }

  pub whole : (o : Order) → net.size ≤ o.count → Placed control net producer o → Whole control net producer o.blocks
  whole o h p =
      record { places = o.places; progress = subst (λ (n : ℕ). Progress control net producer n o.blocks o.places) (omega (arith, p.total)) p }

-- ## What an order says of the net

-- where the places grow there is no loop without a buffer
pub no_free_loop : (net : Net) (control : Bool) (order : List ℕ) → InOrder net control order → FreeLoop net control → ⊥
no_free_loop net control order o l =
    no_loop (LeadsFree net control) o.place
    (λ c a b s. o.grows c a b s.leads (uncut control (block_at net a).kind (block_at net b).kind s.from_free s.to_free)) (by_ends net control l)

module _ (net : Net) (control : Bool) (producer : List ℕ) (ok : fields_ok net ≡ true) (table : Table net true producer) where
  -- input j of block b, its channel and its producer
  module _ (b : ℕ) (h : b < net.size) (j : ℕ) (q : j < ins (block_at net b)) where
    ten : j < 10
    ten = omega (arith, ins-small (block_at net b))

    channel-below : get_or (block_at net b).ports j 0 < net.channels
    channel-below = port-small (block_at net b) j net.channels false (block_in net ok b h) (input_side (block_at net b) j q)

    feeder-is : TheBlock net true (get_or (block_at net b).ports j 0) (feeder net producer b j)
    feeder-is = table (get_or (block_at net b).ports j 0) channel-below

  -- what the order reads
  pub reads_of : (b : ℕ) → b < net.size → Reads net producer b
  reads_of b h =
      record {
        channel_low = λ j q. omega (arith, channel-below b h j q, channels-high net ok);
        feeder-low = λ j q. (feeder-is b h j q).has.in_net;
      }

  -- an input that is read
  pub read-in : (b : ℕ) → b < net.size → (n : ℕ) → n ≡ ins (block_at net b) → (j : ℕ) → j < n
      → (j < 10) × (get_or (block_at net b).ports j 0 < 128) × (feeder net producer b j < 64)
  read-in b h n e j q = (
    omega (arith, ins-small (block_at net b)),
    (reads_of b h).channel_low j (omega arith),
    omega (arith, (reads_of b h).feeder-low j (omega arith), size-high net ok),
  )

  -- every block is placed
  module _ (blocks : List ℕ) (w : Whole control net producer blocks) where
    abbrev at : ℕ → ℕ
    at i = get_or w.places i 0

    here : (i : ℕ) → i < net.size → at i ≡ 0 → ⊥
    here i h = eqb-false (at i) 0 (count-zero (unplaced w.places) net.size (omega (arith, w.progress.total)) i h)

    grow : (c a b : ℕ) → Leads net c a b → cuts control (block_at net a).kind (block_at net b).kind ≡ false → at a < at b
    grow c a b l free =
        go (w.progress.after b h (here b h) j q)
      where
        h : b < net.size
        h = l.enters.in_net

        j : ℕ
        j = l.enters.port

        q : j < ins (block_at net b)
        q = (side_input (block_at net b) j l.enters.on_side_lem)

        a-is : a ≡ feeder net producer b j
        a-is = (feeder-is b h j q).only a (subst (λ (x : ℕ). HasPort net true x a) (sym l.enters.names) l.leaves)

        go : (cut_at control net producer b j ≡ true) ⊎ ((0 < at (feeder net producer b j)) × (at (feeder net producer b j) < at b)) → at a < at b
        go (inl e) = clash (subst (λ (x : ℕ). cuts control (block_at net x).kind (block_at net b).kind ≡ true) (sym a-is) e) free
        go (inr x) = subst (λ (y : ℕ). at y < at b) (sym a-is) x.1

    pub in_order : InOrder net control blocks
    in_order =
        record {
          place = λ b. at b - 1;
          listed = λ k h. ((w.progress.listed k h).0, omega (arith, (w.progress.listed k h).1));
          stands = λ b h. (omega (arith, here b h, w.progress.bounded b h), w.progress.stands b h (here b h));
          grows = λ c a b l free. omega (arith, here a l.leaves.in_net, grow c a b l free);
        }

  -- blocks are left that cannot be placed: one that is left waits for another that is left, along a channel that is not cut
  module _ (s : Halted control net producer) where
    abbrev Left : ℕ → Type 0
    Left x = (x < net.size) × (unplaced s.places x ≡ true)

    waits : (x : ℕ) → Left x → (j : ℕ) × (j < ins (block_at net x)) × (cut_at control net producer x j ≡ false) × (unplaced s.places (feeder net producer x j) ≡ true)
    unfolding may_place
    waits x l =
        let n : next_at control net producer s.places x ≡ false =
        not-true (next_at control net producer s.places x) (all_at (passed_at control net producer s.places) net.size s.stuck x l.0) in
        let f : (j : ℕ) × (j < ins (block_at net x)) × (fed_at control net producer s.places x j ≡ false) =
        fails_at (fed_at control net producer s.places x) (ins (block_at net x)) (rw l.1 at n) in
        let e : (cut_at control net producer x f.0 ≡ false) × (not (unplaced s.places (feeder net producer x f.0)) ≡ false) =
        (or_1 (cut_at control net producer x f.0) (not (unplaced s.places (feeder net producer x f.0))) f.2, or_2 (cut_at control net producer x f.0) (not (unplaced s.places (feeder net producer x f.0))) f.2) in
        (f.0, f.1, e.0, not-false (unplaced s.places (feeder net producer x f.0)) e.1)

    abbrev Free : ℕ → Type 0
    Free x = is_buffer control (block_at net x).kind ≡ false

    -- a block that is left and that another waits for is no buffer
    free_of : (y kind : ℕ) → Left y → cuts control (block_at net y).kind kind ≡ false → Free y
    free_of y kind l e =
        let w = waits y l in
        between control (block_at net (feeder net producer y w.0)).kind (block_at net y).kind kind e w.2

    abbrev Waiting : ℕ → Type 0
    Waiting x = Left x × Free x

    step : (x : ℕ) → Left x → (y : ℕ) × (c : ℕ) × Waiting y × Leads net c y x
    step x l =
        let w = waits x l in
        let t = feeder-is x l.0 w.0 w.1 in
        let y : Left (feeder net producer x w.0) = (t.has.in_net, w.3) in (
          feeder net producer x w.0,
          get_or (block_at net x).ports w.0 0,
          (y, free_of (feeder net producer x w.0) (block_at net x).kind y w.2),
          record {
            leaves = t.has;
            enters =
                record {
                  port = w.0;
                  in_net = l.0;
                  in_block = ten x l.0 w.0 w.1;
                  on_side_lem = input_side (block_at net x) w.0 w.1;
                  names = refl;
                };
          },
        )

    back : (x : ℕ) → Waiting x → (y : ℕ) × (c : ℕ) × Waiting y × LeadsFree net control c y x
    back x l =
        let s = step x l.0 in
        (s.0, s.1, s.2, record { leads = s.3; from_free = s.2.1; to_free = l.1 })

    pub free-loop : FreeLoop net control
    free-loop =
        let some : (x : ℕ) × (x < net.size) × (unplaced s.places x ≡ true) =
        count-some (unplaced s.places) net.size (omega (arith, s.progress.total, s.left)) in
        let first = step some.0 (some.1, some.2) in
        by_blocks net control (has-loop (LeadsFree net control) Waiting back net.size (λ x l. l.0.0) first.0 first.2)
