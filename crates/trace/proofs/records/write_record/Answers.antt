-- `trace::records::write_record` meets its contract: the eight bytes are the record's.
-- Assumes nothing.
use mathlib.Core.Path.{ap, ◌∙◌}
use mathlib.Core.List.{◌++◌}
use lib.ListN.{drop}
use Rattle.trace.proofs.TraceBytes.{eight_first}
use Rattle.trace.proofs.records.write_record.Goals as goal

pub returns : goal.returns
returns c =
    let bytes = c.copy_from_slice.ensures.after ∙ c.to_be_bytes.ensures ∙ eight_first c.args.r in
    ap (λ l. l ++ drop 8 c.args.out.now) bytes
