-- `nets::check` meets its contract. Each part that is passed leaves what is known of the net, and the fault is that of the first part that fails.
-- Assumes nothing.
use mathlib.Core.Path.{◌≡◌, sym, ◌∙◌}
use mathlib.Core.Bool.{true, false}
use Rattle.std.proofs.Common.{arith, Some, None}
use Rattle.std.proofs.lemmas.Grind.{common_steps}
use Rattle.nets.specs.Net.{fields_ok, connected, few_ends}
use Rattle.nets.specs.Loops.{FreeLoop}
use Rattle.nets.specs.Verdict.{Joined}
use Rattle.nets.specs.Promises.{InOrder}
use Rattle.nets.specs.Ends.{EndsAre}
use Rattle.nets.proofs.Nets.{size-high}
use Rattle.nets.proofs.Wirings.{all_joined, unjoined}
use Rattle.nets.proofs.Orders.{no_free_loop}
use Rattle.nets.proofs.check.Goals as goal

pub counts_of-counts-requires : goal.counts_of-counts-requires
counts_of-counts-requires c = size-high c.args.net.now (sym c.fields_ok.ensures ∙ c.if-not-fields_ok.false)

pub returns-in_err-producer : goal.returns-in_err-producer
returns-in_err-producer c =
    let none : EndsAre c.args.net.now true None = grind (arith, common_steps) in
    let fields : fields_ok c.args.net.now ≡ true = sym c.fields_ok.ensures ∙ c.if-not-fields_ok.false in
    let torn : connected c.args.net.now ≡ false = unjoined c.args.net.now true none.0 none.1 none.2 in
    grind (arith, common_steps)

pub returns-in_err-consumer : goal.returns-in_err-consumer
returns-in_err-consumer c =
    let none : EndsAre c.args.net.now false None = grind (arith, common_steps) in
    let fields : fields_ok c.args.net.now ≡ true = sym c.fields_ok.ensures ∙ c.if-not-fields_ok.false in
    let torn : connected c.args.net.now ≡ false = unjoined c.args.net.now false none.0 none.1 none.2 in
    grind (arith, common_steps)

pub few_ends-requires : goal.few_ends-requires
few_ends-requires c = size-high c.args.net.now (sym c.fields_ok.ensures ∙ c.if-not-fields_ok.false)

pub returns-then-not-few_ends : goal.returns-then-not-few_ends
returns-then-not-few_ends c =
    let from : EndsAre c.args.net.now true (Some c.in_ok-producer.producer) = grind (arith, common_steps) in
    let to : EndsAre c.args.net.now false (Some c.in_ok-consumer.consumer) = grind (arith, common_steps) in
    (sym c.fields_ok.ensures ∙ c.if-not-fields_ok.false, (all_joined c.args.net.now from.1 to.1, sym c.few_ends.ensures ∙ c.if-not-few_ends.true))

pub returns-in_err-data : goal.returns-in_err-data
returns-in_err-data c =
    let from : EndsAre c.args.net.now true (Some c.in_ok-producer.producer) = grind (arith, common_steps) in
    let to : EndsAre c.args.net.now false (Some c.in_ok-consumer.consumer) = grind (arith, common_steps) in
    let joined : Joined c.args.net.now =
    record {
      fields = sym c.fields_ok.ensures ∙ c.if-not-fields_ok.false;
      joins = all_joined c.args.net.now from.1 to.1;
      ends = sym c.few_ends.ensures ∙ c.if-not-few_ends.false;
    } in
    let loop : FreeLoop c.args.net.now false = grind (arith, common_steps) in
    grind (arith, common_steps)

pub returns-in_err-control : goal.returns-in_err-control
returns-in_err-control c =
    let from : EndsAre c.args.net.now true (Some c.in_ok-producer.producer) = grind (arith, common_steps) in
    let to : EndsAre c.args.net.now false (Some c.in_ok-consumer.consumer) = grind (arith, common_steps) in
    let joined : Joined c.args.net.now =
    record {
      fields = sym c.fields_ok.ensures ∙ c.if-not-fields_ok.false;
      joins = all_joined c.args.net.now from.1 to.1;
      ends = sym c.few_ends.ensures ∙ c.if-not-few_ends.false;
    } in
    let forth : InOrder c.args.net.now false c.in_ok-data.data = grind (arith, common_steps) in
    let none : FreeLoop c.args.net.now false → ⊥ = no_free_loop _ _ _ forth in
    let loop : FreeLoop c.args.net.now true = grind (arith, common_steps) in
    grind (arith, common_steps)

pub returns : goal.returns
returns c =
    let from : EndsAre c.args.net.now true (Some c.in_ok-producer.producer) = grind (arith, common_steps) in
    let to : EndsAre c.args.net.now false (Some c.in_ok-consumer.consumer) = grind (arith, common_steps) in
    let forth : InOrder c.args.net.now false c.in_ok-data.data = grind (arith, common_steps) in
    let back : InOrder c.args.net.now true c.in_ok-control.control = grind (arith, common_steps) in
    let f : fields_ok c.args.net.now ≡ true = sym c.fields_ok.ensures ∙ c.if-not-fields_ok.false in
    let j : connected c.args.net.now ≡ true = all_joined c.args.net.now from.1 to.1 in
    let e : few_ends c.args.net.now ≡ true = sym c.few_ends.ensures ∙ c.if-not-few_ends.false in (
      (record { fields = f; joins = j; ends = e }, (no_free_loop _ _ _ forth, no_free_loop _ _ _ back)),
      record { fields = f; joins = j; ends = e; producers = from.0; consumers = to.0; data_order = forth; control_order = back },
    )
