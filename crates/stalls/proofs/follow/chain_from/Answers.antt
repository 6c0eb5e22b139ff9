-- `stalls::follow::chain_from` meets its contract: the walk begins with no channel met, and lists that are empty.
-- Assumes nothing.
use Rattle.std.proofs.Common.{refl, ap, sym, ◌∙◌, arith}
use Rattle.ports.specs.Places.{sig_at, ready_at}
use Rattle.chains.specs.Rows.{next_no}
use Rattle.chains.proofs.Trails.{unmet_all, from-delivers, from-ready, from-word}
use Rattle.stalls.specs.Calls.{chain_by}
use Rattle.stalls.proofs.Answers.{answered}
use Rattle.stalls.proofs.follow.chain_from.Goals as goal
use Rattle.stalls.proofs.follow.chain_from.Goals.{then-not-seen-at, else-not-seen-at+then-not-seen-at-2}

pub ask_word-ending-requires-clause-room : goal.ask_word-ending-requires-clause-room
ask_word-ending-requires-clause-room c = omega (arith, unmet_all)

pub ask_ready-requires-clause-room : goal.ask_ready-requires-clause-room
ask_ready-requires-clause-room c = omega (arith, unmet_all)

pub returns-else-not-seen-at-2 : goal.returns-else-not-seen-at-2
returns-else-not-seen-at-2 c =
    let seen = c.args.seen in
    let signals = sig_at seen.signals.now in
    let delivers = from-delivers (next_no seen) _ _ c.args.c c.if-not-seen-at.false c.if-not-seen-at-2.false in
    c.no_chain.ensures ∙ ap (chain_by (λ x. (signals x).valid)) (sym delivers)

pub returns : goal.returns
returns c =
    let seen = c.args.seen in
    let signals = seen.signals.now in
    let v = (sig_at signals c.args.c).valid in
    let y = ready_at seen.ready.now c.args.c in
    elim c.if-not-seen-at.branch [
      | then-not-seen-at w ↦
          rw (w.walked-is, w.ending-is) (answered signals _ _ _ _ _ refl refl refl (from-word (next_no seen) v y c.args.c w.if-not-seen-at.true) w.ask_word-ending.ensures)
      | else-not-seen-at+then-not-seen-at-2 w ↦
          rw (w.walked-is, w.ending-is) (answered signals _ _ _ _ _ refl refl refl (from-ready (next_no seen) v y c.args.c w.if-not-seen-at.false w.if-not-seen-at-2.true) w.ask_ready.ensures)
    ]
