-- What a step marks as delivered: nothing where it is refused, and of a cycle the word of each channel that is valid and ready.
-- Assumes nothing.
use Prim.Native.Nat.{ℕ, ◌<◌}
use mathlib.Core.Path.{◌≡◌, refl, ap, ◌∙◌}
use mathlib.Core.Bool.{Bool, true, false, cond, ◌&&◌}
use mathlib.Core.List.{List, [], ◌∷◌}
use native.Mathlib.Omega.{arith}
use borrow.Author.Tests.{lt-ltb}
use lib.Dec.{eqb}
use lib.ListN.{get_or, get_or-replicate}
use Rattle.blocks.specs.Folds.{one}
use Rattle.nets.specs.Net.{fields_ok}
use Rattle.blocks.specs.declared.Net.{Net}
use Rattle.nets.proofs.Nets.{channels-high}
use Rattle.cycles.specs.Cycle.{Signals, moves}
use Rattle.cycles.specs.Step.{refusal_by, refused_step, stepped_by}
use Rattle.blocks.specs.declared.State.{State}
use Rattle.cycles.specs.declared.Stepped.{Stepped}
use Rattle.cycles.proofs.Steps.{step_refused, mark_at, word_at}
use Rattle.queue.specs.Delivered.{Input, step_on, marked, delivered_from}
use Rattle.queue.proofs.Circuit.{moved}

by_test : (q : Bool) (w : ℕ) → cond (eqb (one q) 1) (cond q w 0 ∷ []) [] ≡ cond q (w ∷ []) []
by_test true w = refl
by_test false w = refl

pub marked_refused : (n : ℕ) (s : State) (c : ℕ) → c < 128 → marked (refused_step n s) c ≡ []
marked_refused n s c h = rw (get_or-replicate {A = ℕ} 128 c 0 0 h)

pub marked-worked : (net : Net) → fields_ok net ≡ true → (s : State) (words ends : List ℕ) (g : Signals) (c : ℕ) → c < net.channels
    → marked (stepped_by net s words ends g) c ≡ moved g c
marked-worked net ok s words ends g c h =
    let wide : c < 128 = omega (arith, channels-high net ok) in
    let here : moves net g c ≡ ((g.shows c).valid && g.ready c) = rw (lt-ltb c net.channels h) in
    ap (λ (x : ℕ). cond (eqb x 1) (get_or (stepped_by net s words ends g).words c 0 ∷ []) []) (mark_at net s words ends g c wide)
    ∙ ap (λ (w : ℕ). cond (eqb (one (moves net g c)) 1) (w ∷ []) []) (word_at net s words ends g c wide)
    ∙ by_test (moves net g c) (g.shows c).word
    ∙ ap (λ (q : Bool). cond q ((g.shows c).word ∷ []) []) here

-- a net that is not accepted is refused every step
refused-mark : (net : Net) (s : State) (n : Input) (c : ℕ) → c < 128 → marked (step_on false net s n) c ≡ []
unfolding refusal_by
refused-mark net s n c h =
    ap (λ (t : Stepped). marked t c) (step_refused false net s n.words n.ends n.offer n.ready (λ e. omega arith)) ∙ marked_refused 12 s c h

pub none-delivered : (net : Net) (ns : List Input) (s : State) (c : ℕ) → c < 128 → delivered_from false net s ns c ≡ []
none-delivered net [] s c h = refl
none-delivered net (n ∷ ns) s c h = rw (refused-mark net s n c h) (none-delivered net ns (step_on false net s n).state c h)
