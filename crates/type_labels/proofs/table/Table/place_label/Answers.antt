use Rattle.std.proofs.lemmas.Result.{IfOk-weaker}
use Rattle.lowering.specs.Types.{entry}
use Rattle.type_labels.proofs.Knowing.{known_enter}
use Rattle.type_labels.proofs.table.Table.place_label.Goals as goal

pub returns-clause-known : goal.returns-clause-known
returns-clause-known c =
    IfOk-weaker c.enter.result _ _
    (λ l made.
    known_enter c.args.types.now c.args.names.now c.label_within.new.known (entry 8 c.in_ok-label.label c.args.rest c.new-name.result.items) c.label_within.new.self c.enter.new.self l c.in_ok-label.ensures.known made)
    c.enter.ensures.ok
