-- `placements::place_on` meets its contract: refusal after refusal, then what the check finds of the placed net.
-- Assumes nothing.
use mathlib.Core.Path.{◌≡◌, sym, ap, ◌∙◌}
use Rattle.std.proofs.Common.{arith, Result, Err}
use Rattle.std.proofs.lemmas.Grind.{common_steps}
use Rattle.blocks.specs.declared.Net.{Net}
use Rattle.blocks.specs.declared.Refusal.{Refusal}
use Rattle.nets.specs.Promises.{refusal_of}
use Rattle.forms.specs.Over.{answered}
use Rattle.placements.specs.Bases.{place_on}
use Rattle.placements.proofs.Answering.{codes_long, fitting, codes-refused, room-refused, made-loads, made-refused}
use Rattle.placements.proofs.place_on.Goals as goal

pub returns-then-not-codes_ok : goal.returns-then-not-codes_ok
returns-then-not-codes_ok c =
    let codes = c.args.codes.now in
    codes-refused c.in_ok-net.net codes (sym c.codes_ok.ensures ∙ c.if-not-codes_ok.true)
    ∙ ap (λ (base : Result Net Refusal). place_on base codes) (sym c.in_ok-net.was)

pub has_room-requires : goal.has_room-requires
has_room-requires c =
    omega (arith, codes_long c.in_ok-net.net.channels c.args.codes.now (sym c.codes_ok.ensures ∙ c.if-not-codes_ok.false))

pub returns-then-not-has_room : goal.returns-then-not-has_room
returns-then-not-has_room c =
    let codes = c.args.codes.now in
    room-refused c.in_ok-net.net codes (sym c.codes_ok.ensures ∙ c.if-not-codes_ok.false) (sym c.has_room.ensures ∙ c.if-not-has_room.true)
    ∙ ap (λ (base : Result Net Refusal). place_on base codes) (sym c.in_ok-net.was)

pub place_all-made-requires-clause-fitting : goal.place_all-made-requires-clause-fitting
place_all-made-requires-clause-fitting c =
    fitting c.in_ok-net.net c.args.codes.now (sym c.codes_ok.ensures ∙ c.if-not-codes_ok.false) (sym c.has_room.ensures ∙ c.if-not-has_room.false)

pub returns-in_err-check : goal.returns-in_err-check
returns-in_err-check c =
    let codes = c.args.codes.now in
    let e : c.from_residual-in_err-check.result ≡ Err (refusal_of c.in_err-check.field-0.0) = grind (arith, common_steps) in
    ap answered e
    ∙ made-refused c.in_ok-net.net codes (sym c.codes_ok.ensures ∙ c.if-not-codes_ok.false) (sym c.has_room.ensures ∙ c.if-not-has_room.false)
    c.place_all-made.result c.place_all-made.ensures c.in_err-check.field-0.0 c.in_err-check.ensures
    ∙ ap (λ (base : Result Net Refusal). place_on base codes) (sym c.in_ok-net.was)

pub returns : goal.returns
returns c =
    let codes = c.args.codes.now in
    made-loads c.in_ok-net.net codes (sym c.codes_ok.ensures ∙ c.if-not-codes_ok.false) (sym c.has_room.ensures ∙ c.if-not-has_room.false)
    c.place_all-made.result c.place_all-made.ensures c.in_ok-check.ensures.0
    ∙ ap (λ (base : Result Net Refusal). place_on base codes) (sym c.in_ok-net.was)
