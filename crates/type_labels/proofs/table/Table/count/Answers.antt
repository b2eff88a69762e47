use Rattle.std.proofs.Common.{length, sym, ap, ◌∙◌, vec_items}
use Rattle.std.proofs.lemmas.List.{length-map}
use Rattle.type_labels.proofs.Places.{of}
use Rattle.type_labels.proofs.table.Table.count.Goals as goal

pub returns-clause-count : goal.returns-clause-count
returns-clause-count c = c.len.ensures.len ∙ (sym (length-map c.self.inside.entries.keys (of vec_items)) ∙ ap length c.self.view_is)
