-- `stored::read::read_net` meets its contract: the edition, the reserved bits, the two counts, and the blocks after them.
-- Assumes nothing.
use Rattle.std.proofs.lemmas.Result.{err_from_is_err_and}
use Rattle.stored.proofs.Loads.{no_edition, no_reserve, no_count, no_channels, parsed}
use Rattle.stored.proofs.read.read_net.Goals as goal

pub returns-in_err-read_between : goal.returns-in_err-read_between
returns-in_err-read_between c =
    let p = err_from_is_err_and c.from_residual.result c.from_residual.ensures.1 in
    rw (p.1, p.2) (no_edition _ _ c.in_err-read_between.ensures.taken)

pub returns-in_err-read_between-2 : goal.returns-in_err-read_between-2
returns-in_err-read_between-2 c =
    let r = c.from_residual-in_err-read_between-2 in
    let p = err_from_is_err_and r.result r.ensures.1 in
    rw (p.1, p.2) (no_reserve _ _ c.in_ok-read_between.ensures.taken _ c.in_err-read_between-2.ensures.taken)

pub returns-in_err-count : goal.returns-in_err-count
returns-in_err-count c =
    let r = c.from_residual-in_err-count in
    let p = err_from_is_err_and r.result r.ensures.1 in
    rw (p.1, p.2) (no_count _ _ c.in_ok-read_between.ensures.taken _ c.in_ok-read_between-2.ensures.taken _ c.in_err-count.ensures.taken)

pub returns-in_err-channels : goal.returns-in_err-channels
returns-in_err-channels c =
    let r = c.from_residual-in_err-channels in
    let p = err_from_is_err_and r.result r.ensures.1 in
    rw (p.1, p.2)
    (no_channels _ _ c.in_ok-read_between.ensures.taken _ c.in_ok-read_between-2.ensures.taken _ c.in_ok-count.ensures.taken _ c.in_err-channels.ensures.taken)

pub returns : goal.returns
returns c =
    rw (parsed _ _ c.in_ok-read_between.ensures.taken _ c.in_ok-read_between-2.ensures.taken _ c.in_ok-count.ensures.taken _ c.in_ok-channels.ensures.taken) c.read_blocks.ensures
