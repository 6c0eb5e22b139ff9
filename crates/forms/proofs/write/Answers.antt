-- `forms::write` meets its contract: an accepted net is put where it fits.
-- Assumes nothing.
use Rattle.forms.proofs.Answers.{accepted_small, wrote_put}
use Rattle.forms.proofs.write.Goals as goal

pub put_net-requires : goal.put_net-requires
put_net-requires c = accepted_small c.args.net c.in-Ok.ensures.0

pub returns-in-Ok : goal.returns-in-Ok
returns-in-Ok c =
    let w = c.put_net in
    wrote_put c.args.net c.args.buf.now c.in-Ok.ensures.0 w.result w.new.buf w.ensures.answer w.ensures.buffer
