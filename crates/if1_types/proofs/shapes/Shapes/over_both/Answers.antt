use Rattle.std.proofs.Common.{sym, subst, arith}
use Rattle.if1_types.specs.Trees.{kind_number}
use Rattle.if1_types.specs.Shapes.{trees_in, Stands}
use Rattle.if1_types.proofs.Keeping.{over_some_both}
use Rattle.if1_types.proofs.shapes.Shapes.over_both.Goals as goal

pub returns-clause-number : goal.returns-clause-number
returns-clause-number c =
    let ts = trees_in c.args.self.now in
    subst (Stands (trees_in c.number.new.self) c.in_ok-number.number)
    (sym (over_some_both ts (kind_number c.args.kind) c.args.first c.args.second c.in_ok-number.ensures.once c.requires.first c.requires.second (omega (arith, c.if-first-eq0.false)) (omega (arith, c.if-second-eq0.false))))
    c.in_ok-number.ensures.number
