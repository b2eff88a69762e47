use Rattle.std.proofs.Common.{sym, ap, ◌∙◌}
use Rattle.plan_builder.specs.Ways.{read_by}
use Rattle.plan_builder.proofs.Multiples.{way-so}
use Rattle.plan_builder.proofs.ways.reading_of.Goals as goal

pub returns-clause-way : goal.returns-clause-way
returns-clause-way c D P S g os left e fed = way-so D P S g c.args.plain left c.args.copies c.args.row c.args.ins.now os e fed ∙ ap (λ r. read_by r os) (sym c.reading_in.ensures)
