use Rattle.std.proofs.Common.{map, ap, subst, ◌∙◌, length}
use Rattle.typed_tree.specs.declared.expr.TypedExpr.{TypedExpr}
use Rattle.typing_laws.proofs.Later.{used_on}
use Rattle.breaking_laws.specs.Parts.{BrokenMade}
use Rattle.sisal_check.specs.Walked.{given_of, group_of}
use Rattle.sisal_check.proofs.Forms.{passed_on}
use Rattle.sisal_check.proofs.Looped.{crosses_none, crosses_more, breaks_more, groups_end, many_end}
use Rattle.sisal_check.proofs.loops.crossed.Goals as goal

pub returns-in_err-made-clause-breaks : goal.returns-in_err-made-clause-breaks
returns-in_err-made-clause-breaks c =
    let g = given_of c.args.given.now in
    passed_on c.from_residual.result c.in_err-made.field-0.0 c.from_residual.ensures.1 _ _
    (λ rule line q. c.loop-group.invariant.breaks rule line (subst (λ k. BrokenMade g c.loop-group.walk.types k c.args.line c.args.cs.now c.loop-group.made.types rule line)
    (many_end c.loop-group.goes c.pop.new.self c.in-Some.group c.in-Some.ensures) (q (length c.pop.new.self)))) c.in_err-made.ensures.breaks

pub returns-clause-crossed : goal.returns-clause-crossed
returns-clause-crossed c =
    let f = c.loop-group.walk.types in
    c.loop-group.invariant.crossed f c.loop-group.made (crosses_none (given_of c.args.given.now) f c.args.line c.args.cs.now (map group_of c.loop-group.goes) c.loop-group.made (ap (map group_of) c.in_default.ensures.0))

pub loop-group-preserved : goal.loop-group-preserved
loop-group-preserved c =
    let g = given_of c.args.given.now in
    let f = c.loop-group.walk.types in
    let h = c.around.new.walk.types in
    let rest = c.pop.new.self in
    let e = c.in_ok-made.ensures in
    record {
      used = used_on g c.args.walk.now.types f h c.loop-group.invariant.used e.used;
      names = e.names ∙ c.loop-group.invariant.names;
      line = λ same. ap (λ (t : TypedExpr). t.line) e.over.is;
      some = λ a b. e.some a (c.loop-group.invariant.some a b);
      crossed = λ x t p. c.loop-group.invariant.crossed x t
          (crosses_more g f h x c.args.line c.args.cs.now (map group_of c.loop-group.goes) (map group_of rest) (group_of c.in-Some.group) c.loop-group.made c.in_ok-made.made t e.used.grows
          (groups_end c.loop-group.goes rest c.in-Some.group c.in-Some.ensures) e.over p);
      breaks = λ rule line p. c.loop-group.invariant.breaks rule line
          (breaks_more g f h c.args.line c.args.cs.now _ (length c.loop-group.goes) (length rest) c.loop-group.made.types c.in_ok-made.made.types rule line e.used
          (many_end c.loop-group.goes rest c.in-Some.group c.in-Some.ensures) e.makes p);
    }
