use Rattle.std.proofs.Common.{map, subst, length}
use Rattle.unit_types.proofs.Lists.{if_ok_weaker}
use Rattle.std.proofs.lemmas.Result.{on_ok_weaker}
use Rattle.typing_laws.proofs.Later.{used_on}
use Rattle.breaking_laws.specs.Parts.{BrokenMade}
use Rattle.sisal_check.specs.Walked.{given_of, group_of, parts_of}
use Rattle.sisal_check.proofs.Forms.{passed_on, faults_weaker}
use Rattle.sisal_check.proofs.Looped.{is_product, breaks_more, groups_end, many_end}
use Rattle.sisal_check.proofs.loops.product.Goals as goal

pub returns-in_err-inner-clause-breaks : goal.returns-in_err-inner-clause-breaks
returns-in_err-inner-clause-breaks c =
    let g = given_of c.args.given.now in
    passed_on c.from_residual.result c.in_err-inner.field-0.0 c.from_residual.ensures.1 _ _
    (λ rule line q. subst (λ k. BrokenMade g c.args.walk.now.types k c.args.line c.args.cs.now c.args.values.types rule line) (many_end c.args.goes c.pop.new.self c.in-Some.last c.in-Some.ensures) (q (length c.pop.new.self)))
    c.in_err-inner.ensures.breaks

pub returns-clause-used : goal.returns-clause-used
returns-clause-used c =
    on_ok_weaker c.crossed.result (λ used. used_on (given_of c.args.given.now) c.args.walk.now.types c.over.new.walk.types c.crossed.new.walk.types c.in_ok-inner.ensures.used used) c.crossed.ensures.used

pub returns-clause-crossed : goal.returns-clause-crossed
returns-clause-crossed c =
    if_ok_weaker c.crossed.result (λ t p.
    is_product (given_of c.args.given.now) c.args.walk.now.types c.over.new.walk.types c.crossed.new.walk.types c.args.line c.args.cs.now (map group_of c.args.goes) (map group_of c.pop.new.self) (group_of c.in-Some.last)
    c.args.defined.exprs c.args.defined.types (parts_of c.args.values) c.in_ok-inner.inner t c.in_ok-inner.ensures.used.grows (groups_end c.args.goes c.pop.new.self c.in-Some.last c.in-Some.ensures)
    c.in_ok-inner.ensures.over p)
    c.crossed.ensures.crossed

pub returns-clause-breaks : goal.returns-clause-breaks
returns-clause-breaks c =
    faults_weaker c.crossed.result _ _ (λ rule line q.
    breaks_more (given_of c.args.given.now) c.args.walk.now.types c.over.new.walk.types c.args.line c.args.cs.now _ (length c.args.goes) (length c.pop.new.self) c.args.values.types c.in_ok-inner.inner.types rule line
    c.in_ok-inner.ensures.used (many_end c.args.goes c.pop.new.self c.in-Some.last c.in-Some.ensures) c.in_ok-inner.ensures.makes q)
    c.crossed.ensures.breaks

pub returns-clause-some : goal.returns-clause-some
returns-clause-some c = if_ok_weaker c.crossed.result (λ t h a b. h a (c.in_ok-inner.ensures.some a b)) c.crossed.ensures.some
