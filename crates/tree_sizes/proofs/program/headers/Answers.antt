use Rattle.std.proofs.Common.{rules, ◌≡◌, ◌∙◌, suc, ◌+◌, ◌-◌, length, drop, sym, ap, subst, arith}
use Rattle.std.specs.Prelude.{get_or}
use Rattle.std.proofs.Math.Seq.{drop-cons}
use Rattle.lowering.specs.TooMany.{header_ports}
use Rattle.lowered_sizes.specs.Counting.{capped}
use Rattle.tree_sizes.specs.Capped.{Keeps}
use Rattle.tree_sizes.proofs.program.headers.Goals as goal

pub returns : goal.returns
returns c =
    let none : c.loop-at.at ≡ 0 = omega (arith, c.loop-at-test.false) in
    subst (λ i. Keeps c.loop-at.sum (header_ports (drop i c.args.functions.now))) none c.loop-at.invariant.1

pub loop-at-preserved : goal.loop-at-preserved
loop-at-preserved c =
    let fs = c.args.functions.now in
    let f = c.index-functions-at.result in
    let at = c.loop-at.at in
    let some = c.loop-at-test.true in
    let inv = c.loop-at.invariant in
    let inside = inv.0 in
    let next : at ≡ suc (at - 1) = omega (arith, some) in
    let cons = drop-cons fs (at - 1) f (omega (arith, some, inside)) in
    let same : get_or fs (at - 1) f ≡ f = search rules in
    let left = header_ports (drop (suc (at - 1)) fs) in
    let rest = subst (λ i. Keeps c.loop-at.sum (header_ports (drop i fs))) next inv.1 in (
      omega (arith, inside),
      c.deeper-sum.ensures (length f.params + length f.results) left c.header.ensures rest
          ∙ ap (λ x. capped (length x.params + length x.results + left)) (sym same)
          ∙ ap (λ l. capped (header_ports l)) (sym cons),
    )
