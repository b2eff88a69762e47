use Rattle.std.proofs.Common.{sym, subst, Contains}
use Rattle.unit_types.proofs.Faults.{passed_on}
use Rattle.unit_types.proofs.Breaking.{broken_among}
use Rattle.unit_types.proofs.declaring.are_given.Goals as goal

pub returns-in_err-is_given-clause-broken : goal.returns-in_err-is_given-clause-broken
returns-in_err-is_given-clause-broken c =
    let announced = c.args.declaring.now.announced in
    let there : Contains announced c.announced-item.result
    = subst (λ l. Contains l c.announced-item.result) c.as_slice-announced-items.ensures (c.loop-announced.announced-index, c.loop-announced-test.true, sym c.announced-item.is) in
    passed_on c.from_residual.result c.in_err-is_given.field-0.0 c.from_residual.ensures.1
    (broken_among c.args.declaring.now.numbers c.args.declaring.now.functions announced c.announced-item.result there)
    c.in_err-is_given.ensures.broken
