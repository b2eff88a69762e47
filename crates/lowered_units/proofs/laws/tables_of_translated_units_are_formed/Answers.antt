use Rattle.std.proofs.Common.{sym, subst}
use Rattle.if1_graph.specs.Formed.{IsTable}
use Rattle.lowered_units.proofs.Filled.{have-members}
use Rattle.lowered_units.proofs.Typed.{types-formed}
use Rattle.lowered_units.proofs.laws.tables_of_translated_units_are_formed.Goals as goal

pub returns : goal.returns
returns c = λ p u fit e t. subst IsTable (sym t.types) (types-formed p fit (have-members p.types fit.types) e)
