use Rattle.std.proofs.Common.{subst, sym}
use Rattle.unit_code.specs.Runs.{AreArguments}
use Rattle.run_call.proofs.Entries.{are_arguments}
use Rattle.run_call.proofs.call.run.Goals as goal

pub run_code-requires-clause-count : goal.run_code-requires-clause-count
run_code-requires-clause-count g c = λ κs h.
    let call = c.in_ok-unit.field-0 in
    subst (λ u. AreArguments u call.function call.args) (sym c.in_ok-unit.ensures.same)
    (are_arguments c.args.unit c.args.set.now call.function call.args c.in_ok-unit.ensures.call)
