use Rattle.std.proofs.Common.{sym, ap, ◌∙◌, length}
use Rattle.flow_value.specs.Rows.{items_of}
use Rattle.flow_value.proofs.Rows.{is_run, items_are, count_is, same_values}
use Rattle.flow_value.proofs.row.Row.as_slice.Goals as goal

pub slice-requires : goal.slice-requires
slice-requires g c = is_run c.args.self.now c.requires

pub returns-clause-items : goal.returns-clause-items
returns-clause-items g c = same_values c.slice.result.now (items_of c.args.self.now) (sym c.slice.ensures ∙ items_are c.args.self.now c.requires)

pub returns-clause-len : goal.returns-clause-len
returns-clause-len g c = ap length (same_values c.slice.result.now (items_of c.args.self.now) (sym c.slice.ensures ∙ items_are c.args.self.now c.requires)) ∙ count_is c.args.self.now c.requires
