-- `signals::wires::moves_of` meets its contract: channel after channel; the loop's invariant is that those before c are done and the others zero.
-- Assumes nothing.
use Rattle.std.proofs.Common.{◌≡◌, ℕ, ◌<◌, refl, Bool, cond, ltb, ◌&&◌, get_or}
use Rattle.std.proofs.Math.ListN.{replicate, get_or-replicate}
use Rattle.ports.specs.Places.{sig_at, ready_at}
use Rattle.rows.proofs.Ascends.{filled_none}
use Rattle.signals.proofs.wires.moves_of.Goals as goal

pub loop-c-init : goal.loop-c-init
loop-c-init c =
    let shows = sig_at c.args.signals.now in
    let moves : ℕ → Bool = λ k. (shows k).valid && ready_at c.args.ready.now k in
    let none : (g : ℕ → ℕ) (k : ℕ) → k < 128 → get_or (replicate 128 0) k 0 ≡ cond (ltb k 0 && moves k) (g k) 0 = λ g. filled_none 128 (replicate 128 0) moves g (λ k h. get_or-replicate {A = ℕ} 128 k 0 0 h) in
    (refl, refl, none (λ k. 1), none (λ k. (shows k).word))
