-- `sim::cycle::tested` meets its contract: the tests are the net's.
-- Assumes nothing.
use Rattle.std.proofs.Common.{◌≡◌, sym, ◌∙◌, Bool, ◌&&◌, List, ℕ, arith, eqb, length}
use Rattle.cycles.specs.Streams.{ascend, ends_fit}
use Rattle.passes.specs.Rows.{in_kind}
use Rattle.rows.specs.declared.Laid.{Laid}
use Rattle.sim.proofs.Results.{fit_by}
use Rattle.sim.proofs.Answers.{state-fails, ends-fail, none-fails}
use Rattle.sim.proofs.cycle.tested.Goals as goal

-- the ends by the sources of the net that is laid out are the net's
ends_test : (words ends : List ℕ) (laid : Laid) → (sources : List ℕ) → sources ≡ in_kind laid.sorted 0 → (long : ℕ) → long ≡ length words → (t : Bool)
    → t ≡ (eqb (length ends) (length sources) && ascend 0 long ends) → t ≡ ends_fit laid.net.now words ends
ends_test words ends laid sources = fit_by laid.net.now words ends (in_kind laid.sorted 0) (laid.kinds.listed 0 (omega arith)) sources

pub returns-then-not-shape_ok : goal.returns-then-not-shape_ok
returns-then-not-shape_ok c = state-fails _ _ _ _ (sym c.shape_ok.ensures ∙ c.if-not-shape_ok.true)

pub returns-then-not-ends_fit : goal.returns-then-not-ends_fit
returns-then-not-ends_fit c =
    let fit = ends_test _ _ c.args.laid.now _ c.of_kind-sources.ensures _ c.len.ensures _ c.ends_fit.ensures in
    ends-fail _ _ _ _ (sym c.shape_ok.ensures ∙ c.if-not-shape_ok.false) (sym fit ∙ c.if-not-ends_fit.true)

pub returns : goal.returns
returns c =
    let fit = ends_test _ _ c.args.laid.now _ c.of_kind-sources.ensures _ c.len.ensures _ c.ends_fit.ensures in
    none-fails _ _ _ _ (sym c.shape_ok.ensures ∙ c.if-not-shape_ok.false) (sym fit ∙ c.if-not-ends_fit.false)
