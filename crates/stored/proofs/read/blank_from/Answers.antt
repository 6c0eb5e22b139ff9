-- `stored::read::blank_from` meets its contract: the bytes that are left are counted first, then the bits to the byte's end are read as one field, which is 0 where they are blank.
-- Assumes nothing.
use Rattle.std.proofs.Common.{ℕ, ◌+◌, ◌-◌, ◌*◌, ◌/◌, arith, rules, sym, ◌∙◌}
use Rattle.reader.proofs.Steps.{step_got, step_end}
use Rattle.stored.proofs.Loads.{end_far, end_none, end_some, ended_short}
use Rattle.stored.proofs.read.blank_from.Goals as goal

-- how many bits are left
abbrev left : ℕ → ℕ
left at = 8 * ((at + 7) / 8) - at

pub returns-then-form-bytes : goal.returns-then-form-bytes
returns-then-form-bytes c =
    let a = c.args in
    end_far a.form.now a.at (search rules) (omega arith)

pub returns-then-width-eq0 : goal.returns-then-width-eq0
returns-then-width-eq0 c =
    let a = c.args in
    end_none a.form.now a.at (search rules) (omega arith)

pub returns-in-None : goal.returns-in-None
returns-in-None c =
    let a = c.args in
    let s = ended_short a.form.now a.at (left a.at) (step_end a.form.now a.at (left a.at) (omega arith) (omega arith) (omega arith) (sym c.step_from.ensures ∙ c.in-None.is)) in
    absurd (omega arith)

pub returns-in-Some : goal.returns-in-Some
returns-in-Some c =
    let a = c.args in
    let p = c.in-Some.padding in
    end_some a.form.now a.at (search rules) (left a.at) p.value (omega arith) (omega arith)
    (step_got a.form.now a.at (left a.at) (omega arith) (omega arith) (omega arith) p (sym c.step_from.ensures ∙ c.in-Some.is)).0
