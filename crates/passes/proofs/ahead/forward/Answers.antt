-- `passes::ahead::forward` meets its contract: along the order; the loop's invariant is that the blocks that rest and the first of the order have their equation.
-- Assumes nothing.
use Rattle.std.proofs.Common.{◌≡◌, ℕ, get_or, length, arith}
use Rattle.blocks.specs.States.{reg_in}
use Rattle.blocks.proofs.Folds.{which}
use Rattle.ports.specs.Places.{sig_at}
use Rattle.passes.specs.Rows.{kind_no, m_no, rests_ahead}
use Rattle.passes.proofs.Passes.{pass_more, pass_all}
use Rattle.passes.proofs.Sites.{ahead_pass}
use Rattle.passes.proofs.Arms.{turns_on, in_use}
use Rattle.passes.proofs.ahead.forward.Goals.{in-Some, in_default}
use Rattle.passes.proofs.ahead.forward.Goals as goal

pub loop-b-preserved : goal.loop-b-preserved
loop-b-preserved c w o xs mask src =
    let l = c.loop-b in
    let net = c.args.net.now in
    let at : ℕ = get_or c.args.order.now l.b-index 0 in
    let here = o.listed l.b-index c.loop-b-test.true in
    let P = ahead_pass net xs mask (reg_in c.args.state.now) w c.args.order.now o in
    elim c.match-of.branch [
      | in-Some s ↦
          rw s.signals-is (pass_more _ _ _ _ _ _ P _ _ l.b-index c.loop-b-test.true (l.invariant w o xs mask src)
          (rw s.reg.ensures at ((s.forward_one.ensures (xs at) (mask at)).works (turns_on (kind_no net at) here.1))))
      | in_default s ↦ absurd (in_use (kind_no net at) (m_no net at) (w.sound at here.0) s.in_default.ensures)
    ]

pub returns : goal.returns
returns c xs mask src b lb =
    let l = c.loop-b in
    let net = c.args.net.now in
    let o = c.requires.along in
    let all : l.b-index ≡ length c.args.order.now = omega arith in
    pass_all _ _ _ _ _ _ (ahead_pass net xs mask (reg_in c.args.state.now) c.requires.rowed c.args.order.now o) (sig_at l.signals)
    (rw all at (l.invariant c.requires.rowed o xs mask src)) b lb (which (rests_ahead (kind_no net b)))
