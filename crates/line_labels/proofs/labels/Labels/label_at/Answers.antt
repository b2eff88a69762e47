use Rattle.std.proofs.Common.{sym, ap, ◌∙◌, get_or}
use Rattle.type_labels.proofs.Names.{no_name}
use Rattle.line_labels.proofs.labels.Labels.label_at.Goals as goal

pub returns-in-None : goal.returns-in-None
returns-in-None c = sym (no_name c.as_slice.result.now c.args.place 0 (sym c.in-None.ensures)) ∙ ap (λ xs. get_or xs c.args.place 0) c.as_slice.ensures
