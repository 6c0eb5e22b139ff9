-- `placements::list_form` meets its contract: over the form's net as a base net.
-- Assumes nothing.
use mathlib.Core.Path.{◌∙◌}
use Rattle.stored.specs.Form.{parse}
use Rattle.placements.proofs.Answering.{read-based, list-read}
use Rattle.placements.proofs.list_form.Goals as goal

pub list_on-requires : goal.list_on-requires
list_on-requires c = read-based (parse c.args.form.now) c.form_base.result c.form_base.ensures

pub returns : goal.returns
returns c = c.list_on.ensures ∙ list-read (parse c.args.form.now) c.form_base.result c.form_base.ensures
