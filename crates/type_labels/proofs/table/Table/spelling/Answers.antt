use Rattle.std.proofs.Common.{◌∙◌, [], sym}
use Rattle.type_labels.proofs.Names.{no_name}
use Rattle.type_labels.proofs.table.Table.spelling.Goals as goal

pub returns-in-None : goal.returns-in-None
returns-in-None c = c.new.ensures.items ∙ sym (no_name c.args.names.now c.args.name [] (sym c.in-None.ensures))
