-- One buffer on one channel of a net that passes the checks up to its loops: the new net passes them too, if there is room.
-- Assumes nothing.
use Prim.Native.Nat.{ℕ, ◌+◌, ◌*◌, ◌/◌, ◌%◌, ◌≤◌, ◌<◌}
use mathlib.Core.Path.{◌≡◌, refl, sym, ◌∙◌, ap, subst}
use mathlib.Core.Bool.{Bool, true, false, cond, ◌&&◌}
use mathlib.Core.Logic.{◌≢◌}
use native.Mathlib.Omega.{arith}
use borrow.Author.Tests.{eqb-true, eqb-false, eq-eqb, ne_eqb, ltb-true, ltb-false, lt-ltb, le-ltb, le-leb, leb-true}
use lib.Dec.{eqb, ltb, leb}
use lib.ListN.{get_or}
use Rattle.blocks.specs.Folds.{one, count_below}
use Rattle.blocks.proofs.Folds.{and_1, and_2, and_both, all_at, all_in, count_more, count_same}
use Rattle.blocks.proofs.Options.{test}
use Rattle.nets.specs.Block.{no_block, on_side}
use Rattle.nets.specs.Net.{block_at, block_zero, sizes_ok, entry_at, fields_ok, is_kind, kind_count, names_at, port_count, connected, few_ends}
use Rattle.nets.specs.Verdict.{Joined}
use Rattle.blocks.specs.declared.Block.{Block}
use Rattle.blocks.specs.declared.Net.{Net}
use Rattle.nets.proofs.Blocks.{port-small, side_input, side_output}
use Rattle.nets.proofs.Nets.{block_in}
use Rattle.nets.proofs.Places.{one_port}
use Rattle.nets.proofs.Wirings.{all_joined}
use Rattle.cycles.proofs.States.{get_d_tab}
use Rattle.placed.specs.Placed.{buffer_from, port_moved, input_moved, entry_of, split}
use Rattle.placed.proofs.Counting.{count_never, count_parts}
use Rattle.placed.proofs.Moved.{moved_other, moved_here, moved_away, moved_side, moved_port, at_input, no_input, moved_ok, moved_zero, Plain, by_plain, buffer_ok, buffer-out, buffer-inp}

module _ (net : Net) (c kind : ℕ) (room : net.size < 64) where
  abbrev d : ℕ
  d = net.channels

  pub block_new : block_at (split net c kind) net.size ≡ buffer_from kind c d
  block_new = get_d_tab 64 (entry_of net c kind) no_block net.size room ∙ rw (eq-eqb net.size net.size refl)

  block_other : (i : ℕ) → i < 64 → i ≢ net.size → block_at (split net c kind) i ≡ input_moved c d (block_at net i)
  block_other i h ne = get_d_tab 64 (entry_of net c kind) no_block i h ∙ rw (ne_eqb i net.size ne)

  pub block_old : (i : ℕ) → i < net.size → block_at (split net c kind) i ≡ input_moved c d (block_at net i)
  block_old i h = block_other i (omega arith) (λ z. omega (arith, h, z))

-- an entry beyond the blocks of a net is zero
pub block-beyond : (net : Net) → fields_ok net ≡ true → (i : ℕ) → net.size ≤ i → i < 64 → block_zero (block_at net i) ≡ true
unfolding fields_ok
block-beyond net ok i late h =
    let e : entry_at net i ≡ true = all_at (entry_at net) 64 (and_2 (sizes_ok net.size net.channels) _ ok) i h in
    rw (le-ltb i net.size late) at e

module _ (net : Net) (c kind : ℕ) (plain : Plain kind) (j : Joined net) (hc : c < net.channels) (room : net.size < 64) (wide : net.channels < 128) where
  -- ## Fields

  old_sizes : sizes_ok net.size net.channels ≡ true
  unfolding fields_ok
  old_sizes = and_1 (sizes_ok net.size net.channels) _ j.fields

  new_sizes : sizes_ok (net.size + 1) (net.channels + 1) ≡ true
  new_sizes =
      let two : 2 ≤ net.size = leb-true 2 net.size (and_1 (leb 2 net.size) _ old_sizes) in
      rw (le-leb 2 (net.size + 1) (omega arith), le-leb (net.size + 1) 64 (omega arith), le-leb 1 (net.channels + 1) (omega arith), le-leb (net.channels + 1) 128 (omega arith))

  entry_new : (i : ℕ) → i < 64 → entry_at (split net c kind) i ≡ true
  entry_new i h =
      test (eqb i net.size)
      (λ e.
      let z : i ≡ net.size = eqb-true i net.size e in
      rw (z, lt-ltb net.size (net.size + 1) (omega arith), block_new net c kind room) (buffer_ok c net.channels hc kind plain))
      (λ e.
      let ne : i ≢ net.size = eqb-false i net.size e in
      rw (block_other net c kind room i h ne)
      (test (ltb i net.size)
      (λ l.
      rw (lt-ltb i (net.size + 1) (omega (arith, ltb-true i net.size l)))
      (moved_ok c net.channels (block_at net i) (block_in net j.fields i (ltb-true i net.size l))))
      (λ l.
      let late : net.size ≤ i = ltb-false i net.size l in
      rw (le-ltb i (net.size + 1) (omega arith)) (moved_zero c net.channels (block_at net i) (block-beyond net j.fields i late h)))))

  pub split-fields : fields_ok (split net c kind) ≡ true
  unfolding fields_ok
  split-fields = and_both (sizes_ok (net.size + 1) (net.channels + 1)) _ new_sizes (all_in (entry_at (split net c kind)) 64 entry_new)

  -- ## Connections

  -- what an old place names
  abbrev old_names : Bool → ℕ → ℕ → Bool
  old_names side x q = on_side side (block_at net (q / 10)) (q % 10) && eqb (port_moved c net.channels (block_at net (q / 10)) (q % 10)) x

  names_old : (side : Bool) (x q : ℕ) → q < net.size * 10 → names_at (split net c kind) side x q ≡ old_names side x q
  names_old side x q h =
      let b : Block = block_at net (q / 10) in
      rw (block_old net c kind room (q / 10) (omega arith), moved_side c net.channels b side (q % 10), moved_port c net.channels b (q % 10) (omega arith))

  names_new : (side : Bool) (x i : ℕ) → i < 10
      → names_at (split net c kind) side x (net.size * 10 + i) ≡ (on_side side (buffer_from kind c net.channels) i && eqb (get_or (buffer_from kind c net.channels).ports i 0) x)
  names_new side x i h =
      let e : (net.size * 10 + i) / 10 ≡ net.size = omega (arith, h) in
      let f : (net.size * 10 + i) % 10 ≡ i = omega (arith, h) in
      rw (e, f, block_new net c kind room)

  -- in two parts: the old blocks and the new one
  ports_are : (side : Bool) (x : ℕ) (f : ℕ → Bool) → ((q : ℕ) → q < net.size * 10 → old_names side x q ≡ f q)
      → port_count (split net c kind) side x
      ≡ count_below f (net.size * 10) + count_below (λ i. on_side side (buffer_from kind c net.channels) i && eqb (get_or (buffer_from kind c net.channels).ports i 0) x) 10
  unfolding port_count
  ports_are side x f same =
      let z : (net.size + 1) * 10 ≡ net.size * 10 + 10 = omega arith in
      ap (count_below (names_at (split net c kind) side x)) z
      ∙ count_parts (names_at (split net c kind) side x) (net.size * 10) 10
      ∙ ap (λ (k : ℕ). k + count_below (λ i. names_at (split net c kind) side x (net.size * 10 + i)) 10)
      (count_same (names_at (split net c kind) side x) f (net.size * 10) (λ q h. names_old side x q h ∙ same q h))
      ∙ ap (λ (k : ℕ). count_below f (net.size * 10) + k) (count_same _ _ 10 (names_new side x))

  out-names : (x q : ℕ) → old_names true x q ≡ names_at net true x q
  out-names x q =
      let b : Block = block_at net (q / 10) in
      test (on_side true b (q % 10)) (λ e. rw (no_input c net.channels b (q % 10) (side_output b (q % 10) e).0)) (λ e. rw e)

  -- an input port of the net that is moved
  at_side : (q : ℕ) → on_side false (block_at net (q / 10)) (q % 10) ≡ true
      → port_moved c net.channels (block_at net (q / 10)) (q % 10)
      ≡ cond (eqb (get_or (block_at net (q / 10)).ports (q % 10) 0) c) net.channels (get_or (block_at net (q / 10)).ports (q % 10) 0)
  at_side q e = at_input c net.channels (block_at net (q / 10)) (q % 10) (side_input (block_at net (q / 10)) (q % 10) e)

  old_low : (side : Bool) (q : ℕ) → q < net.size * 10 → on_side side (block_at net (q / 10)) (q % 10) ≡ true → get_or (block_at net (q / 10)).ports (q % 10) 0 < net.channels
  old_low side q h e = port-small (block_at net (q / 10)) (q % 10) net.channels side (block_in net j.fields (q / 10) (omega arith)) e

  inp_other : (x q : ℕ) → x < net.channels → x ≢ c → old_names false x q ≡ names_at net false x q
  inp_other x q h ne =
      test (on_side false (block_at net (q / 10)) (q % 10)) (λ e. rw (at_side q e, moved_other (get_or (block_at net (q / 10)).ports (q % 10) 0) c net.channels x h ne)) (λ e. rw e)

  inp_new : (q : ℕ) → q < net.size * 10 → old_names false net.channels q ≡ names_at net false c q
  inp_new q h =
      test (on_side false (block_at net (q / 10)) (q % 10)) (λ e. rw (at_side q e, moved_here (get_or (block_at net (q / 10)).ports (q % 10) 0) c net.channels (old_low false q h e))) (λ e. rw e)

  inp-none : (q : ℕ) → old_names false c q ≡ false
  inp-none q =
      test (on_side false (block_at net (q / 10)) (q % 10))
      (λ e. rw e (ne_eqb _ c (moved_away (get_or (block_at net (q / 10)).ports (q % 10) 0) c net.channels hc))) (λ e. rw e)

  out_none : (q : ℕ) → q < net.size * 10 → old_names true net.channels q ≡ false
  out_none q h =
      out-names net.channels q
      ∙ test (on_side true (block_at net (q / 10)) (q % 10))
      (λ e. let low : get_or (block_at net (q / 10)).ports (q % 10) 0 < net.channels = old_low true q h e in rw e (ne_eqb _ net.channels (λ z. omega arith))) (λ e. rw e)

  -- the ports on a channel: those of the old blocks, and one more where the buffer has it there
  out-count : (x : ℕ) (f : ℕ → Bool) → ((q : ℕ) → q < net.size * 10 → old_names true x q ≡ f q)
      → port_count (split net c kind) true x ≡ count_below f (net.size * 10) + one (eqb net.channels x)
  out-count x f same = ports_are true x f same ∙ ap (λ (k : ℕ). count_below f (net.size * 10) + k) (buffer-out c net.channels x kind plain)

  inp-count : (x : ℕ) (f : ℕ → Bool) → ((q : ℕ) → q < net.size * 10 → old_names false x q ≡ f q)
      → port_count (split net c kind) false x ≡ count_below f (net.size * 10) + one (eqb c x)
  inp-count x f same = ports_are false x f same ∙ ap (λ (k : ℕ). count_below f (net.size * 10) + k) (buffer-inp c net.channels x kind plain)

  no_port : count_below (λ q. false) (net.size * 10) ≡ 0
  no_port = count_never (λ q. false) (net.size * 10) (λ q l. refl)

  old_port : (side : Bool) (x : ℕ) → x < net.channels → count_below (names_at net side x) (net.size * 10) ≡ 1
  unfolding port_count
  old_port side x h = one_port net j.fields j.joins side x h

  -- one output port for each channel: the new channel has the buffer's
  one_out : (x : ℕ) → x < net.channels + 1 → port_count (split net c kind) true x ≡ 1
  one_out x h =
      test (eqb net.channels x)
      (λ e.
      let z : net.channels ≡ x = eqb-true net.channels x e in
      omega (arith, out-count x (λ q. false) (λ q l. subst (λ (y : ℕ). old_names true y q ≡ false) z (out_none q l)), no_port, ap one e))
      (λ e.
      let ne : net.channels ≢ x = eqb-false net.channels x e in
      omega (arith, out-count x (names_at net true x) (λ q l. out-names x q), old_port true x (omega arith), ap one e))

  -- one input port for each channel: channel c has the buffer's, and the new channel the one that c had
  one_inp : (x : ℕ) → x < net.channels + 1 → port_count (split net c kind) false x ≡ 1
  one_inp x h =
      test (eqb c x)
      (λ e.
      let z : c ≡ x = eqb-true c x e in
      omega (arith, inp-count x (λ q. false) (λ q l. subst (λ (y : ℕ). old_names false y q ≡ false) z (inp-none q)), no_port, ap one e))
      (λ e.
      let ne : c ≢ x = eqb-false c x e in
      test (eqb net.channels x)
      (λ f.
      let z : net.channels ≡ x = eqb-true net.channels x f in
      omega (arith, inp-count x (names_at net false c) (λ q l. subst (λ (y : ℕ). old_names false y q ≡ names_at net false c q) z (inp_new q l)), old_port false c hc, ap one e))
      (λ f.
      let last : net.channels ≢ x = eqb-false net.channels x f in
      let low : x < net.channels = omega arith in
      omega (arith, inp-count x (names_at net false x) (λ q l. inp_other x q low (λ y. ne (sym y))), old_port false x low, ap one e)))

  pub split-joins : connected (split net c kind) ≡ true
  split-joins = all_joined (split net c kind) one_out one_inp

  -- ## Sources and sinks

  pub same_kinds : (k : ℕ) (b : ℕ) → b ≤ net.size → count_below (is_kind (split net c kind) k) b ≡ count_below (is_kind net k) b
  same_kinds k b h = count_same (is_kind (split net c kind) k) (is_kind net k) b (λ i l. ap (λ (x : Block). eqb x.kind k) (block_old net c kind room i (omega arith)))

  pub same_count : (k : ℕ) → k < 2 → kind_count (split net c kind) k ≡ kind_count net k
  unfolding kind_count
  same_count k h =
      let new : is_kind (split net c kind) k net.size ≡ false =
      ap (λ (x : Block). eqb x.kind k) (block_new net c kind room) ∙ by_plain (λ kind. eqb kind k ≡ false) (ne_eqb 8 k (λ z. omega arith)) (ne_eqb 10 k (λ z. omega arith)) kind plain in
      omega (arith, count_more (is_kind (split net c kind) k) net.size, ap one new, same_kinds k net.size (omega arith))

  pub split-ends : few_ends (split net c kind) ≡ true
  split-ends = rw (same_count 0 (omega arith), same_count 1 (omega arith)) j.ends

  pub split-joined : Joined (split net c kind)
  split-joined = record { fields = split-fields; joins = split-joins; ends = split-ends }
