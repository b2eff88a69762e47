use Rattle.std.proofs.Common.{◌≡◌, ◌<◌, length, subst, IfErr}
use Rattle.lowering.specs.Types.{label_within, deepest}
use Rattle.lowering.specs.TooMany.{most_types}
use Rattle.type_labels.specs.declared.table.LabelFault.TheVariants as fault
use Rattle.type_labels.specs.Functions.{function_by}
use Rattle.type_labels.proofs.table.Table.function_label.Goals as goal

pub returns-clause-too_many : goal.returns-clause-too_many
returns-clause-too_many c =
    let type = label_within c.args.types.now c.args.names.now deepest in
    subst (λ rs. IfErr c.function_within.result (λ e. e ≡ fault.TooMany → most_types < length (function_by type c.args.function.now.params rs c.args.self.now).table)) c.as_slice-results.ensures
    (subst (λ ps. IfErr c.function_within.result (λ e. e ≡ fault.TooMany → most_types < length (function_by type ps c.as_slice-results.result.now c.args.self.now).table)) c.as_slice-params.ensures
    c.function_within.ensures.too_many)
