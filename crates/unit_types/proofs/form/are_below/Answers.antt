use Rattle.std.proofs.Common.{◌<◌, suc, All, map, drop, get_or, add-one, subst, sym, drop-cons, arith}
use Rattle.unit_types.proofs.Lists.{all_first}
use Rattle.unit_types.proofs.Over.{type_below}
use Rattle.unit_types.proofs.form.are_below.Goals as goal

pub loop-member-preserved : goal.loop-member-preserved
loop-member-preserved c = λ h.
    let ms = c.args.members.now in
    let i = c.loop-member.member-index in
    let rest = subst (λ k. All (λ t. t < c.args.n) (map (λ m. m.ty) (drop k ms))) (add-one i) h in
    c.loop-member.invariant (subst (λ l. All (λ t. t < c.args.n) (map (λ m. m.ty) l)) (sym (drop-cons ms i (record { name = 0; ty = 0 }) c.loop-member-test.true))
    (all_first (λ t. t < c.args.n) (get_or ms i (record { name = 0; ty = 0 })).ty (map (λ m. m.ty) (drop (suc i) ms)) c.if-member-n.false rest))

pub returns-then-member-n-clause-all : goal.returns-then-member-n-clause-all
returns-then-member-n-clause-all c = λ all.
    let less = type_below c.args.members.now c.args.n c.loop-member.member-index (record { name = 0; ty = 0 }) c.loop-member-test.true all in
    absurd (omega (arith, less, c.if-member-n.true))
