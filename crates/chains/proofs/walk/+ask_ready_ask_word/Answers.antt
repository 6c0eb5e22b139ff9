-- `chains::walk::ask_ready` and `chains::walk::ask_word` meet their contracts: at each channel the walk is at its end, or one channel further (proofs/Trails.antt).
-- Assumes nothing.
use Rattle.std.proofs.Common.{◌≡◌, ℕ, ◌+◌, ◌≤◌, ◌<◌, length, true, false, arith}
use Rattle.chains.specs.Rows.{unmet}
use Rattle.chains.specs.declared.Seen.{Seen}
use Rattle.chains.specs.declared.Walked.{Walked}
use Rattle.chains.proofs.Trails.{Begun, low, at_circle, count-below, next-asks, walked_on, walked_end}
use Rattle.chains.proofs.walk.+ask_ready_ask_word.Goals as goal

-- what a call of either begins with
begun : (z : Seen) (walk : Walked) {c t : ℕ} → c < z.net.now.channels → length walk.met ≡ 128 → walk.count + unmet walk.met ≤ 128 → unmet walk.met ≡ t → Begun z walk c t
begun z walk below long room left = record { wired = z.wired; below = below; long = long; room = room; left = left }

pub ask_ready-returns-then-walk-c : goal.ask_ready-returns-then-walk-c
ask_ready-returns-then-walk-c t c =
    let b = begun c.args.seen c.args.walk.now c.requires.below (omega arith) c.requires.room c.decreases in
    at_circle b false c.if-walk-c.true

pub ask_ready-note-requires : goal.ask_ready-note-requires
ask_ready-note-requires t c =
    let b = begun c.args.seen c.args.walk.now c.requires.below (omega arith) c.requires.room c.decreases in
    (low b, count-below b c.if-walk-c.false)

pub ask_ready-ask_word-requires : goal.ask_ready-ask_word-requires
ask_ready-ask_word-requires t c =
    let b = begun c.args.seen c.args.walk.now c.requires.below (omega arith) c.requires.room c.decreases in
    next-asks b c.if-walk-c.false c.note.ensures false c.next.result c.next.ensures true c.in-Word.n c.in-Word.is

pub ask_ready-ask_ready-requires : goal.ask_ready-ask_ready-requires
ask_ready-ask_ready-requires t c =
    let b = begun c.args.seen c.args.walk.now c.requires.below (omega arith) c.requires.room c.decreases in
    next-asks b c.if-walk-c.false c.note.ensures false c.next.result c.next.ensures false c.in-Ready.n c.in-Ready.is

pub ask_ready-returns-in-Word : goal.ask_ready-returns-in-Word
ask_ready-returns-in-Word t c =
    let b = begun c.args.seen c.args.walk.now c.requires.below (omega arith) c.requires.room c.decreases in
    walked_on b c.if-walk-c.false c.note.ensures false c.next.result c.next.ensures true c.in-Word.n c.in-Word.is c.ask_word.ensures

pub ask_ready-returns-in-Ready : goal.ask_ready-returns-in-Ready
ask_ready-returns-in-Ready t c =
    let b = begun c.args.seen c.args.walk.now c.requires.below (omega arith) c.requires.room c.decreases in
    walked_on b c.if-walk-c.false c.note.ensures false c.next.result c.next.ensures false c.in-Ready.n c.in-Ready.is c.ask_ready.ensures

pub ask_ready-returns-in-End : goal.ask_ready-returns-in-End
ask_ready-returns-in-End t c =
    let b = begun c.args.seen c.args.walk.now c.requires.below (omega arith) c.requires.room c.decreases in
    walked_end b c.if-walk-c.false c.note.ensures false c.next.result c.next.ensures c.in-End.ending c.in-End.is

pub ask_word-returns-then-walk-c : goal.ask_word-returns-then-walk-c
ask_word-returns-then-walk-c t c =
    let b = begun c.args.seen c.args.walk.now c.requires.below (omega arith) c.requires.room c.decreases in
    at_circle b true c.if-walk-c.true

pub ask_word-note-requires : goal.ask_word-note-requires
ask_word-note-requires t c =
    let b = begun c.args.seen c.args.walk.now c.requires.below (omega arith) c.requires.room c.decreases in
    (low b, count-below b c.if-walk-c.false)

pub ask_word-ask_word-requires : goal.ask_word-ask_word-requires
ask_word-ask_word-requires t c =
    let b = begun c.args.seen c.args.walk.now c.requires.below (omega arith) c.requires.room c.decreases in
    next-asks b c.if-walk-c.false c.note.ensures true c.next.result c.next.ensures true c.in-Word.n c.in-Word.is

pub ask_word-ask_ready-requires : goal.ask_word-ask_ready-requires
ask_word-ask_ready-requires t c =
    let b = begun c.args.seen c.args.walk.now c.requires.below (omega arith) c.requires.room c.decreases in
    next-asks b c.if-walk-c.false c.note.ensures true c.next.result c.next.ensures false c.in-Ready.n c.in-Ready.is

pub ask_word-returns-in-Word : goal.ask_word-returns-in-Word
ask_word-returns-in-Word t c =
    let b = begun c.args.seen c.args.walk.now c.requires.below (omega arith) c.requires.room c.decreases in
    walked_on b c.if-walk-c.false c.note.ensures true c.next.result c.next.ensures true c.in-Word.n c.in-Word.is c.ask_word.ensures

pub ask_word-returns-in-Ready : goal.ask_word-returns-in-Ready
ask_word-returns-in-Ready t c =
    let b = begun c.args.seen c.args.walk.now c.requires.below (omega arith) c.requires.room c.decreases in
    walked_on b c.if-walk-c.false c.note.ensures true c.next.result c.next.ensures false c.in-Ready.n c.in-Ready.is c.ask_ready.ensures

pub ask_word-returns-in-End : goal.ask_word-returns-in-End
ask_word-returns-in-End t c =
    let b = begun c.args.seen c.args.walk.now c.requires.below (omega arith) c.requires.room c.decreases in
    walked_end b c.if-walk-c.false c.note.ensures true c.next.result c.next.ensures c.in-End.ending c.in-End.is
