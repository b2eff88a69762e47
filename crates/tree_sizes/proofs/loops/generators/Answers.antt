use Rattle.std.proofs.Common.{◌≡◌, ◌∙◌, suc, ◌-◌, drop, sym, ap, subst, arith}
use Rattle.std.specs.Prelude.{get_or}
use Rattle.std.proofs.Math.Seq.{drop-cons}
use Rattle.typed_tree.specs.declared.expr.Source.TheVariants as source
use Rattle.lowered_sizes.specs.Counting.{capped_sizes}
use Rattle.lowered_sizes.specs.Forms.{generator_sized, generators_sized}
use Rattle.tree_sizes.specs.Capped.{KeepsSizes}
use Rattle.tree_sizes.proofs.loops.generators.Goals as goal

pub returns : goal.returns
returns c =
    let none : c.loop-at.at ≡ 0 = omega (arith, c.loop-at-test.false) in
    subst (λ i. KeepsSizes c.loop-at.all (generators_sized (drop i c.args.sources.now))) none c.loop-at.invariant.1

pub loop-at-preserved : goal.loop-at-preserved
loop-at-preserved c =
    let ss = c.args.sources.now in
    let at = c.loop-at.at in
    let some = c.loop-at-test.true in
    let inv = c.loop-at.invariant in
    let inside = inv.0 in
    let next : at ≡ suc (at - 1) = omega (arith, some) in
    let cons = drop-cons ss (at - 1) source.Range (omega (arith, some, inside)) in
    let s = get_or ss (at - 1) source.Range in
    let left = generators_sized (drop (suc (at - 1)) ss) in
    let rest = subst (λ i. KeepsSizes c.loop-at.all (generators_sized (drop i ss))) next inv.1 in (
      omega (arith, inside),
      c.beside-all.ensures (generator_sized s) left c.generator.ensures rest
          ∙ ap (λ l. capped_sizes (generators_sized l)) (sym cons),
    )
