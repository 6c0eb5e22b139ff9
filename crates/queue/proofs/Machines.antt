-- The net as the queue machine reads it, its merges with choices, beside the net as a cycle reads it: what holds of a kind whatever the choices carries over, so the
-- machine is wired as the net is. And without merges nobody reads the choices.
-- Assumes nothing.
use Prim.Native.Nat.{ℕ, zero, suc, ◌≤◌, ◌<◌}
use mathlib.Core.Path.{◌≡◌, refl, ap, ◌∙◌, subst, fun_ext}
use mathlib.Core.Bool.{true, cond}
use mathlib.Core.List.{List, [], ◌∷◌, ◌++◌}
use mathlib.Core.Option.{Option, none, some}
use native.Mathlib.Omega.{arith}
use borrow.Author.Tests.{eqb-true, eq-eqb, ne_eqb, ltb-true}
use lib.Dec.{ltb}
use Rattle.blocks.specs.Kinds.{Kind, merge, kind_of}
use Rattle.blocks.specs.Ports.{n_in, n_out}
use Rattle.blocks.specs.Firing.{Turn, turn, first}
use Rattle.blocks.proofs.Options.{test}
use Rattle.nets.specs.Net.{block_at, is_kind, fields_ok, connected}
use Rattle.blocks.specs.declared.Net.{Net}
use Rattle.cycles.specs.Streams.{stream_of}
use Rattle.cycles.specs.Wires.{View, view_of, kind_at}
use Rattle.cycles.proofs.Wiring.{Wired}
use Rattle.cycles.proofs.Joins.{wired}
use Rattle.queue.specs.Machine.{Queues, walk, waiting, turn_of, after, fire, run, start, machine_of, put_by, put}
use Rattle.queue.specs.Claims.{MergeFree}

module _ (net : Net) (words ends : List ℕ) (choices : ℕ → List ℕ) where
  -- what holds of a block's kind in a cycle, and does not look at the choices of a merge, holds of its kind in the machine
  pub carried : (P : Kind → Type 0) → ((m : ℕ) (cs : List ℕ) → P (merge m []) → P (merge m cs)) → (b : ℕ) → P (kind_at net words ends b)
      → P ((machine_of net words ends choices).kind b)
  carried P any b h =
      test (is_kind net 7 b)
      (λ e. rw e (any (block_at net b).m (choices b)
      (subst (λ (k : ℕ). P (kind_of k (block_at net b).m (block_at net b).value (stream_of net words ends b))) (eqb-true (block_at net b).kind 7 e) h)))
      (λ e. rw e h)

  pub machine_merge : (b : ℕ) → (block_at net b).kind ≡ 7 → (machine_of net words ends choices).kind b ≡ merge (block_at net b).m (choices b)
  machine_merge b e = rw (eq-eqb (block_at net b).kind 7 e)

  unfoldable pub machine_wired : fields_ok net ≡ true → connected net ≡ true → Wired (machine_of net words ends choices)
  machine_wired ok joins =
      let v : View = view_of net words ends in
      let w : Wired v = wired net words ends ok joins in
      record {
        producer = w.producer;
        out_port = w.out_port;
        consumer = w.consumer;
        in_port = w.in_port;
        out_range = λ b j hb. carried (λ K. j < n_out K → v.out b j < v.channels) (λ m cs h. h) b (w.out_range b j hb);
        inp_range = λ b i hb. carried (λ K. i < n_in K → v.inp b i < v.channels) (λ m cs h. h) b (w.inp_range b i hb);
        leaves = λ c h.
            let b : ℕ = w.producer c in
            let j : ℕ = w.out_port c in
            carried (λ K. (b < v.blocks) × (j < n_out K) × (v.out b j ≡ c)) (λ m cs h. h) b (w.leaves c h);
        enters = λ c h.
            let b : ℕ = w.consumer c in
            let i : ℕ = w.in_port c in
            carried (λ K. (b < v.blocks) × (i < n_in K) × (v.inp b i ≡ c)) (λ m cs h. h) b (w.enters c h);
        leaves-only = λ b j hb. carried (λ K. j < n_out K → (w.producer (v.out b j) ≡ b) × (w.out_port (v.out b j) ≡ j)) (λ m cs h. h) b (w.leaves-only b j hb);
        enters-only = λ b i hb. carried (λ K. i < n_in K → (w.consumer (v.inp b i) ≡ b) × (w.in_port (v.inp b i) ≡ i)) (λ m cs h. h) b (w.enters-only b i hb);
      }

-- ## Without merges

module _ (net : Net) (words ends : List ℕ) (choices : ℕ → List ℕ) (free : MergeFree net) where
  abbrev with_choices : View
  with_choices = machine_of net words ends choices

  abbrev without : View
  without = machine_of net words ends (λ b. [])

  same_kind : (b : ℕ) → b < net.size → with_choices.kind b ≡ without.kind b
  same_kind b hb = rw (ne_eqb (block_at net b).kind 7 (free b hb))

  same_after : (b : ℕ) → b < net.size → (s : Queues) (o : Option Turn) → after with_choices b s o ≡ after without b s o
  same_after b hb s none = refl
  same_after b hb s (some t) = rw (same_kind b hb)

  same_fire : (b : ℕ) (s : Queues) → fire with_choices b s ≡ fire without b s
  unfolding fire
  same_fire b s =
      test (ltb b net.size)
      (λ e. let hb : b < net.size = ltb-true b net.size e in
      ap (λ (K : Kind). after with_choices b s (cond (ltb b net.size) (turn K (s.fired b) (waiting without s b)) none)) (same_kind b hb)
      ∙ same_after b hb s (turn_of without s b))
      (λ e. rw e)

  same_run : (F : List ℕ) (s : Queues) → run with_choices F s ≡ run without F s
  same_run [] s = refl
  same_run (b ∷ F) s = ap (run with_choices F) (same_fire b s) ∙ same_run F (fire without b s)

  same_first : (c n : ℕ) → n ≤ net.size
      → walk (λ b. without.out b 0) n c (λ b l. l ++ first (with_choices.kind b)) [] ≡ walk (λ b. without.out b 0) n c (λ b l. l ++ first (without.kind b)) []
  same_first c zero h = refl
  same_first c (suc n) h = rw (same_kind n (omega arith), same_first c n (omega arith))

  same_start : start with_choices ≡ start without
  same_start = ap (λ (p : ℕ → List ℕ). record { puts = p; taken = λ c. 0; fired = λ b. 0 }) (fun_ext (λ c. same_first c net.size (omega arith)))

  pub unread : (F : List ℕ) (c : ℕ) → put_by net words ends choices F c ≡ put net words ends F c
  unread F c = ap (λ (s : Queues). s.puts c) (ap (run with_choices F) same_start ∙ same_run F (start without))
