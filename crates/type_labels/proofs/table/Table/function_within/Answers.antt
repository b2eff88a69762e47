use Rattle.std.proofs.Common.{arith}
use Rattle.std.proofs.lemmas.Result.{IfOk-weaker}
use Rattle.lowering.specs.Types.{entry}
use Rattle.type_labels.proofs.Knowing.{known_enter}
use Rattle.type_labels.proofs.Tuples.{arguments_needed}
use Rattle.type_labels.proofs.table.Table.function_within.Goals as goal

pub returns-in-Err-clause-too_many : goal.returns-in-Err-clause-too_many
returns-in-Err-clause-too_many c = λ is.
    let past = c.in-Err.ensures.too_many is in
    let grown = arguments_needed c.args.types.now c.args.names.now c.args.depth c.args.params.now c.args.results.now c.args.self.now in
    omega (arith, past, grown)

pub returns-clause-known : goal.returns-clause-known
returns-clause-known c =
    IfOk-weaker c.enter.result _ _
    (λ l made.
    known_enter c.args.types.now c.args.names.now c.tuple_label-2.new.known (entry 3 c.in-Ok.label c.in_ok-given.given c.new-name.result.items) c.tuple_label-2.new.self c.enter.new.self l c.in_ok-given.ensures.known made)
    c.enter.ensures.ok
