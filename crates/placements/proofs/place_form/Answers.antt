-- `placements::place_form` meets its contract: over the form's net as a base net.
-- Assumes nothing.
use mathlib.Core.Path.{◌∙◌}
use Rattle.stored.specs.Form.{parse}
use Rattle.placements.proofs.Answering.{read-based, place-read}
use Rattle.placements.proofs.place_form.Goals as goal

pub place_on-requires : goal.place_on-requires
place_on-requires c = read-based (parse c.args.form.now) c.form_base.result c.form_base.ensures

pub returns : goal.returns
returns c = c.loading.ensures ∙ c.place_on.ensures ∙ place-read (parse c.args.form.now) c.args.codes.now c.form_base.result c.form_base.ensures
