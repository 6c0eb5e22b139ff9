-- Every word that a net delivers is below 2 ^ 32 where its values and its streams' words are: what a block shows, what a buffer holds, what a step returns.
-- Assumes nothing.
use Prim.Native.Nat.{ℕ, zero, suc, ◌+◌, ◌^◌, ◌<◌, ◌≤◌}
use native.Mathlib.Omega.{arith}
use mathlib.Core.Path.{◌≡◌, sym, subst}
use mathlib.Core.Bool.{Bool, true, false, cond, ◌&&◌, not}
use mathlib.Core.Option.{Option, none, some}
use mathlib.Core.List.{List, [], ◌∷◌}
use borrow.Author.Tests.{ltb-true, ltb-false}
use lib.Dec.{ltb, eqb}
use lib.ListN.{length, get_or, take, replicate, get_or-replicate, length-replicate, get_or-eq_default}
use lib.Seq.{get_or-drop, slice}
use Rattle.blocks.specs.Folds.{one, bit, lowest, or_else}
use Rattle.blocks.specs.Kinds.{Kind, source, sink, operator, constant, fork, mux, demux, merge, buffer, control, unused, kind_of}
use Rattle.blocks.specs.Words.{operate, reach}
use Rattle.blocks.specs.Signals.{shown, chosen, named, valid_at, empty, full}
use Rattle.blocks.specs.Equations.{offers, copy_out, winner, won, recorded, report_of, merge_out, out_of, next_of, fresh_reg}
use Rattle.blocks.specs.declared.Sig.{Sig}
use Rattle.blocks.specs.declared.Reg.{Reg}
use Rattle.blocks.proofs.Options.{test}
use Rattle.blocks.proofs.Numbers.{by_kind, fresh_plain}
use Rattle.nets.specs.Block.{no_block}
use Rattle.nets.specs.Net.{block_at, number_among}
use Rattle.blocks.specs.declared.Block.{Block}
use Rattle.blocks.specs.declared.Net.{Net}
use Rattle.nets.proofs.Decided.{accepted}
use Rattle.cycles.specs.Streams.{ends_fit, end_before, stream_of, mask_of}
use Rattle.cycles.specs.Wires.{view_of, kind_at, producer, out_port, consumer, in_port}
use Rattle.cycles.specs.Cycle.{Signals, ask, signals, signals_of, next_at}
use Rattle.cycles.specs.State.{tab, regs_of, on_net, state_of, plain_kind}
use Rattle.cycles.specs.Step.{fresh_by}
use Rattle.blocks.specs.declared.State.{State}
use Rattle.cycles.specs.declared.Stepped.{Stepped}
use Rattle.cycles.proofs.States.{length-tab, regs_on}
use Rattle.cycles.proofs.Steps.{step-cases}
use Rattle.sim.specs.Calls.{fresh_of, step_of}
use Rattle.stored.specs.Sizes.{All, SizedBlock}
use Rattle.recordings.specs.Recordings.{Typed}

-- ## Blocks

one_low : (t : Bool) → one t < 2 ^ 32
one_low true = omega arith
one_low false = omega arith

operate-low : (o a b : ℕ) → operate o a b < 2 ^ 32
unfolding operate
operate-low zero a b = omega arith
operate-low (suc zero) a b = omega arith
operate-low (suc (suc zero)) a b = one_low (eqb a b)
operate-low (suc (suc (suc o))) a b = one_low (ltb a b)

cond-low : (t : Bool) (w : ℕ) → w < 2 ^ 32 → cond t w 0 < 2 ^ 32
cond-low true w h = h
cond-low false w h = omega arith

chosen-low : (o : Option ℕ) (x : ℕ → Sig) → ((i : ℕ) → (x i).word < 2 ^ 32) → (chosen o x).word < 2 ^ 32
chosen-low none x h = omega arith
chosen-low (some t) x h = h t

lowest-low : (f : ℕ → Bool) (m : ℕ) → recorded (lowest f m) ≤ m
unfolding lowest
lowest-low f zero = omega arith
lowest-low f (suc m) = by (lowest f m) (f m) m (lowest-low f m)
  where
    by : (o : Option ℕ) (t : Bool) (m : ℕ) → recorded o ≤ m → recorded (or_else o (cond t (some m) none)) ≤ suc m
    by none true m h = omega arith
    by none false m h = omega arith
    by (some k) t m h = omega arith

winner-low : (m : ℕ) (x : ℕ → Sig) (n : ℕ) → recorded (winner m x n) ≤ m
winner-low m x zero = lowest-low (valid_at x) m
winner-low m x (suc t) = test (ltb t m) (λ q. rw q (ltb-true t m q)) (λ q. rw q (omega arith))

-- a kind whose own words are low: a source's stream, a merge's reports, a buffer's first word
abbrev LowKind : Kind → Type 0
LowKind (source xs) = (k : ℕ) → get_or xs k 0 < 2 ^ 32
LowKind sink = Unit {0}
LowKind (operator o) = Unit {0}
LowKind (constant o c) = Unit {0}
LowKind (fork m) = Unit {0}
LowKind (mux m) = Unit {0}
LowKind (demux m) = Unit {0}
LowKind (merge m cs) = m < 2 ^ 8
LowKind (buffer none) = Unit {0}
LowKind (buffer (some w)) = w < 2 ^ 32
LowKind control = Unit {0}
LowKind unused = Unit {0}

kind-low : (m value : ℕ) (xs : List ℕ) → m < 2 ^ 8 → value < 2 ^ 32 → ((k : ℕ) → get_or xs k 0 < 2 ^ 32) → (n : ℕ) → LowKind (kind_of n m value xs)
kind-low m value xs h v s = by_kind (λ n. LowKind (kind_of n m value xs)) s tt tt tt tt tt tt h tt v tt (λ k. tt)

-- the word that a buffer holds is low
abbrev pub LowHeld : Kind → Reg → Type 0
LowHeld (source xs) r = Unit {0}
LowHeld sink r = Unit {0}
LowHeld (operator o) r = Unit {0}
LowHeld (constant o c) r = Unit {0}
LowHeld (fork m) r = Unit {0}
LowHeld (mux m) r = Unit {0}
LowHeld (demux m) r = Unit {0}
LowHeld (merge m cs) r = Unit {0}
LowHeld (buffer o) r = r.word < 2 ^ 32
LowHeld control r = r.word < 2 ^ 32
LowHeld unused r = Unit {0}

held-empty : (k : Kind) → LowHeld k empty
held-empty (source xs) = tt
held-empty sink = tt
held-empty (operator o) = tt
held-empty (constant o c) = tt
held-empty (fork m) = tt
held-empty (mux m) = tt
held-empty (demux m) = tt
held-empty (merge m cs) = tt
held-empty (buffer o) = omega arith
held-empty control = omega arith
held-empty unused = tt

held_fresh : (k : Kind) → LowKind k → LowHeld k (fresh_reg k)
held_fresh (source xs) l = tt
held_fresh sink l = tt
held_fresh (operator o) l = tt
held_fresh (constant o c) l = tt
held_fresh (fork m) l = tt
held_fresh (mux m) l = tt
held_fresh (demux m) l = tt
held_fresh (merge m cs) l = tt
held_fresh (buffer none) l = omega arith
held_fresh (buffer (some w)) l = l
held_fresh control l = omega arith
held_fresh unused l = tt

copy_low : (gone : Bool) (a : Sig) → a.word < 2 ^ 32 → (copy_out gone a).word < 2 ^ 32
copy_low gone a h = cond-low (a.valid && not gone) a.word h

merge_low : (m : ℕ) (r : Reg) (x : ℕ → Sig) (j : ℕ) → m < 2 ^ 8 → ((i : ℕ) → (x i).word < 2 ^ 32) → (merge_out m r x j).word < 2 ^ 32
merge_low m r x zero h l = copy_low (bit 0 r.marks) (won m r x) (chosen-low (winner m x r.word) x l)
merge_low m r x (suc j) h l = copy_low (bit 1 r.marks) (report_of (won m r x).valid (recorded (winner m x r.word))) (omega (arith, winner-low m x r.word))

control-low : (t v : Bool) (a b : ℕ) → a < 2 ^ 32 → b < 2 ^ 32 → ◌<◌ (cond t (shown true a) (shown v b)).word (2 ^ 32)
control-low true v a b h k = h
control-low false v a b h k = cond-low v b k

out-low : (k : Kind) (mask : Bool) (r : Reg) (x : ℕ → Sig) (j : ℕ) → LowKind k → LowHeld k r → ((i : ℕ) → (x i).word < 2 ^ 32) → (out_of k mask r x j).word < 2 ^ 32
out-low (source xs) mask r x j l h y = cond-low (offers (length xs) r mask) (get_or xs r.word 0) (l r.word)
out-low sink mask r x j l h y = omega arith
out-low (operator o) mask r x j l h y = cond-low ((x 0).valid && (x 1).valid) (operate o (x 0).word (x 1).word) (operate-low o (x 0).word (x 1).word)
out-low (constant o c) mask r x j l h y = cond-low (x 0).valid (operate o (x 0).word c) (operate-low o (x 0).word c)
out-low (fork m) mask r x j l h y = copy_low (bit j r.marks) (x 0) (y 0)
out-low (mux m) mask r x j l h y =
    let a = chosen (reach m (x 0).word) (λ t. x (suc t)) in
    cond-low ((x 0).valid && a.valid) a.word (chosen-low (reach m (x 0).word) (λ t. x (suc t)) (λ i. y (suc i)))
out-low (demux m) mask r x j l h y = cond-low ((x 0).valid && ((x 1).valid && named (reach m (x 0).word) (eqb j))) (x 1).word (y 1)
out-low (merge m cs) mask r x j l h y = merge_low m r x j l y
out-low (buffer o) mask r x j l h y = cond-low (full r) r.word h
out-low control mask r x j l h y = control-low (full r) (x 0).valid r.word (x 0).word h (y 0)
out-low unused mask r x j l h y = omega arith

held_data : (t v : Bool) (r : Reg) (w : ℕ) → r.word < 2 ^ 32 → w < 2 ^ 32 → (cond t (record { word = cond v w 0; marks = one v }) r).word < 2 ^ 32
held_data true v r w h k = cond-low v w k
held_data false v r w h k = h

held-control : (t y v : Bool) (r : Reg) (w : ℕ) → r.word < 2 ^ 32 → w < 2 ^ 32
    → (cond t (cond y empty r) (record { word = cond (v && not y) w 0; marks = one (v && not y) })).word < 2 ^ 32
held-control true true v r w h k = omega arith
held-control true false v r w h k = h
held-control false y v r w h k = cond-low (v && not y) w k

next_low : (k : Kind) (r : Reg) (x : ℕ → Sig) (t v y : ℕ → Bool) → LowHeld k r → ((i : ℕ) → (x i).word < 2 ^ 32) → LowHeld k (next_of k r x t v y)
next_low (source xs) r x t v y h l = tt
next_low sink r x t v y h l = tt
next_low (operator o) r x t v y h l = tt
next_low (constant o c) r x t v y h l = tt
next_low (fork m) r x t v y h l = tt
next_low (mux m) r x t v y h l = tt
next_low (demux m) r x t v y h l = tt
next_low (merge m cs) r x t v y h l = tt
next_low (buffer o) r x t v y h l = held_data (t 0) (x 0).valid r (x 0).word h (l 0)
next_low control r x t v y h l = held-control (full r) (y 0) (x 0).valid r (x 0).word h (l 0)
next_low unused r x t v y h l = tt

-- ## Nets

-- what follows for each element, and holds of what stands for a missing one, holds at each place
all_get : {A : Type 0} (P Q : A → Type 0) → ((a : A) → P a → Q a) → (d : A) → Q d → (l : List A) → All P l → (n : ℕ) → Q (get_or l n d)
all_get P Q f d h [] all n = h
all_get P Q f d h (x ∷ l) all zero = f x all.0
all_get P Q f d h (x ∷ l) all (suc n) = all_get P Q f d h l all.1 n

low-take : (n : ℕ) (l : List ℕ) → ((k : ℕ) → get_or l k 0 < 2 ^ 32) → (k : ℕ) → get_or (take n l) k 0 < 2 ^ 32
low-take zero l h k = omega arith
low-take (suc n) [] h k = omega arith
low-take (suc n) (x ∷ l) h zero = h 0
low-take (suc n) (x ∷ l) h (suc k) = low-take n l (λ k. h (suc k)) k

module _ (net : Net) (words ends : List ℕ) (typed : Typed net words) where
  low-words : (k : ℕ) → get_or words k 0 < 2 ^ 32
  low-words k = all_get (λ w. w < 2 ^ 32) (λ w. w < 2 ^ 32) (λ w h. h) 0 (omega arith) words typed.streams k

  low_count : (b : ℕ) → (block_at net b).m < 2 ^ 8
  low_count b = all_get (λ (b : Block). b.m < 2 ^ 8) (λ (b : Block). b.m < 2 ^ 8) (λ b h. h) no_block (omega arith) net.blocks typed.counts b

  low_value : (b : ℕ) → (block_at net b).value < 2 ^ 32
  low_value b = all_get SizedBlock (λ (b : Block). b.value < 2 ^ 32) (λ b s. s.value) no_block (omega arith) net.blocks typed.sized.each b

  low_slice : (a b k : ℕ) → get_or (slice a b words) k 0 < 2 ^ 32
  low_slice a b k = rw (get_or-drop a (take b words) k 0) (low-take b words low-words (a + k))

  low_stream : (b k : ℕ) → get_or (stream_of net words ends b) k 0 < 2 ^ 32
  low_stream b k = by (ends_fit net words ends)
    where
      by : (t : Bool) → get_or (cond t (slice (end_before ends (number_among net 0 b)) (get_or ends (number_among net 0 b) 0) words) []) k 0 < 2 ^ 32
      by true = low_slice (end_before ends (number_among net 0 b)) (get_or ends (number_among net 0 b) 0) k
      by false = omega arith

  low-kind : (b : ℕ) → LowKind (kind_at net words ends b)
  low-kind b = kind-low (block_at net b).m (block_at net b).value (stream_of net words ends b) (low_count b) (low_value b) (low_stream b) (block_at net b).kind

  -- every buffer of a state holds a low word
  abbrev pub LowState : State → Type 0
  LowState s = (b : ℕ) → LowHeld (kind_at net words ends b) (regs_of s b)

  low_stated : (count : ℕ) (r : ℕ → Reg) → ((b : ℕ) → LowHeld (kind_at net words ends b) (r b)) → LowState (state_of net count r)
  low_stated count r h b =
      test (ltb b 64) (λ q. subst (LowHeld (kind_at net words ends b)) (sym (regs_on net count r b (ltb-true b 64 q))) (inside (ltb b net.size)))
      (λ q. subst (LowHeld (kind_at net words ends b)) (sym (beyond (ltb-false b 64 q))) (held-empty (kind_at net words ends b)))
    where
      inside : (t : Bool) → LowHeld (kind_at net words ends b) (cond t (r b) empty)
      inside true = h b
      inside false = held-empty (kind_at net words ends b)

      beyond : 64 ≤ b → regs_of (state_of net count r) b ≡ empty
      beyond l =
          λ i. record {
            word = get_or-eq_default (tab 64 (λ b. (on_net net r b).word)) 0 {n = b} (subst (λ (n : ℕ). n ≤ b) (sym (length-tab 64 (λ b. (on_net net r b).word))) l) i;
            marks = get_or-eq_default (tab 64 (λ b. (on_net net r b).marks)) 0 {n = b} (subst (λ (n : ℕ). n ≤ b) (sym (length-tab 64 (λ b. (on_net net r b).marks))) l) i;
          }

  pub low_fresh : LowState (fresh_of net).state
  unfolding fresh_of
  low_fresh = by (accepted net)
    where
      zeros : (b : ℕ) → ◌≡◌ {A = ℕ} (get_or (replicate 64 0) b 0) 0
      zeros b =
          test (ltb b 64) (λ q. get_or-replicate {A = ℕ} 64 b 0 0 (ltb-true b 64 q))
          (λ q. get_or-eq_default {A = ℕ} (replicate 64 0) 0 {n = b} (subst (λ (n : ℕ). n ≤ b) (sym (length-replicate {A = ℕ} 64 0)) (ltb-false b 64 q)))

      by : (t : Bool) → LowState (fresh_by t net)
      by true =
          low_stated 0 (λ b. fresh_reg (plain_kind net b)) (λ b.
          subst (LowHeld (kind_at net words ends b)) (fresh_plain (block_at net b).m (block_at net b).value (stream_of net words ends b) (block_at net b).kind)
          (held_fresh (kind_at net words ends b) (low-kind b)))
      by false = λ b. subst (LowHeld (kind_at net words ends b)) (λ i. record { word = sym (zeros b) i; marks = sym (zeros b) i }) (held-empty (kind_at net words ends b))

  module _ (s : State) (low : LowState s) (offer ready : ℕ) where
    -- what every channel shows
    shows_low : (f c : ℕ) → (ask (view_of net words ends) (producer net) (out_port net) (consumer net) (in_port net) (mask_of net offer ready) (regs_of s) f c).word < 2 ^ 32
    shows_low zero c = omega arith
    shows_low (suc f) c =
        out-low (kind_at net words ends (producer net c)) (mask_of net offer ready (producer net c)) (regs_of s (producer net c))
        (λ i. ask (view_of net words ends) (producer net) (out_port net) (consumer net) (in_port net) (mask_of net offer ready) (regs_of s) f ((view_of net words ends).inp (producer net c) i))
        (out_port net c) (low-kind (producer net c)) (low (producer net c)) (λ i. shows_low f ((view_of net words ends).inp (producer net c) i))

    pub signals-low : (c : ℕ) → ((signals_of net words ends offer ready (regs_of s)).shows c).word < 2 ^ 32
    unfolding signals
    signals-low c = shows_low (suc net.size) c

    -- the state that a step returns
    pub step-low : LowState (step_of net s words ends offer ready).state
    unfolding step_of
    step-low =
        step-cases (accepted net) net s words ends offer ready (λ (t : Stepped). LowState t.state) (λ n. low)
        (λ p. low_stated (s.count + 1) (next_at (view_of net words ends) g (regs_of s)) (λ b.
        next_low (kind_at net words ends b) (regs_of s b) (λ i. g.shows ((view_of net words ends).inp b i)) (λ i. g.ready ((view_of net words ends).inp b i))
        (λ j. (g.shows ((view_of net words ends).out b j)).valid) (λ j. g.ready ((view_of net words ends).out b j)) (low b) (λ i. signals-low ((view_of net words ends).inp b i))))
      where
        g : Signals
        g = signals_of net words ends offer ready (regs_of s)
