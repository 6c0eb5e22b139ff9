-- `stored::read::read_ports` meets its contract. The loop's invariant: the array holds the ports taken so far, padded with zeros, and the taker of all
-- ports gives them in front of what it gives from the position on.
-- Assumes nothing.
use Rattle.std.proofs.Common.{◌≡◌, ℕ, ◌+◌, ◌-◌, ◌*◌, List, [], ◌∷◌, ◌++◌, drop, arith, rules, refl, ◌∙◌, ap, length-append}
use lib.ListN.{set}
use Rattle.std.proofs.lemmas.Result.{err_from_is_err_and}
use Rattle.reader.specs.Bits.{bits_of}
use Rattle.stored.specs.Form.{got, take_port, padded}
use Rattle.stored.proofs.Places.{port-between, ports_took, ports_refused}
use Rattle.stored.proofs.Many.{set-padded, many_start, many_turn, many_stop, many_end}
use Rattle.stored.proofs.read.read_ports.Goals as goal

pub loop-i-init : goal.loop-i-init
unfolding padded
loop-i-init c =
    let a = c.args in
    let z : a.start + 7 * 0 ≡ a.start = omega arith in
    rw z (c.requires.0, ([], refl, refl, many_start (take_port a.channels) a.count (drop a.start (bits_of a.form.now))))

pub returns-in_err-port : goal.returns-in_err-port
returns-in_err-port c =
    let a = c.args in
    let l = c.loop-i in
    let p = err_from_is_err_and c.from_residual.result c.from_residual.ensures.1 in
    let stop = port-between a.channels _ (search rules) ∙ c.in_err-port.ensures.taken in
    let whole = l.invariant.1.3 ∙ many_stop (take_port a.channels) l.invariant.1.0 (a.count - l.i) (a.count - (l.i + 1)) _ _ (omega arith) stop in
    rw (p.1, p.2) (ports_refused _ _ whole)

pub loop-i-preserved : goal.loop-i-preserved
loop-i-preserved c =
    let a = c.args in
    let l = c.loop-i in
    let v = c.in_ok-port.port in
    let t = c.in_ok-port.ensures.taken in
    let next : a.start + 7 * (l.i + 1) ≡ a.start + 7 * l.i + 7 = omega arith in
    let more : take_port a.channels (drop (a.start + 7 * l.i) (bits_of a.form.now)) ≡ got v (drop (a.start + 7 * (l.i + 1)) (bits_of a.form.now)) =
    port-between a.channels _ (search rules) ∙ rw next t.taken in (
      omega (arith, t.inside),
      (
        l.invariant.1.0 ++ (v ∷ []),
        length-append l.invariant.1.0 (v ∷ []) ∙ ap (λ (n : ℕ). n + 1) l.invariant.1.1,
        ap (λ (ps : List ℕ). set ps l.i v) l.invariant.1.2 ∙ set-padded 0 10 l.invariant.1.0 l.i v l.invariant.1.1 (search rules),
        l.invariant.1.3
            ∙ many_turn (take_port a.channels) l.invariant.1.0 (a.count - l.i) (a.count - (l.i + 1)) _ v _ (omega arith) more,
      ),
    )

pub returns : goal.returns
returns c =
    let a = c.args in
    let l = c.loop-i in
    let all : l.i ≡ a.count = omega arith in
    let whole = l.invariant.1.3 ∙ many_end (take_port a.channels) l.invariant.1.0 (a.count - l.i) _ (omega arith) in
    rw l.invariant.1.2 (ports_took a.form.now _ l.invariant.1.0 (a.start + 7 * a.count) (rw all at whole) (omega arith))
