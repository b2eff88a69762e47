use Rattle.std.proofs.Common.{rules, w64, FitsSigned, SFits, to_z, ◌≤◌, ◌+◌, drop, length, refl, ◌∙◌, sym, ap, subst, arith}
use Rattle.std.proofs.lemmas.Int.{to_z-of_z}
use Rattle.std.specs.Int.{w128}
use Rattle.flow_value.specs.Scalar.{fitted}
use Rattle.sequential_fire.proofs.SumRows.{IsSumOf, sum-begins, sum-goes, sum-ends, item-next, items-none}
use Rattle.sequential_fire.proofs.summing.sum_of.Goals as goal

pub loop-place-init : goal.loop-place-init
loop-place-init c = record { end = refl; sum = sum-begins c.args.items.now }

pub loop-place-preserved : goal.loop-place-preserved
loop-place-preserved c =
    let l = c.loop-place in
    let items = c.args.items.now in
    let v = c.item_at.result.now in
    let rest = drop (l.place + 1) items in
    let range : FitsSigned w64 c.in-Some.more = search rules in
    record {
      end = l.invariant.end;
      sum = subst (λ n. IsSumOf items rest n) (sym (to_z-of_z w64 c.in-Some.more range))
          (sum-goes items rest v (to_z w64 l.sum-bits) c.in-Some.more (subst (λ xs. IsSumOf items xs (to_z w64 l.sum-bits)) (item-next items l.place v c.item_at.ensures) l.invariant.sum) c.in-Some.ensures.error c.in-Some.ensures.integer c.in-Some.ensures.sum);
    }

pub returns : goal.returns
returns c =
    let l = c.loop-place in
    let items = c.args.items.now in
    let no = c.loop-place-test.false in
    let end = l.invariant.end in
    let over : length items ≤ l.place = omega (arith, no, end) in
    let fits : SFits w128 c.from.result = search rules in
    sum-ends items (to_z w64 l.sum-bits) (subst (λ xs. IsSumOf items xs (to_z w64 l.sum-bits)) (items-none items l.place over) l.invariant.sum)
    ∙ sym (c.whole.ensures ∙ ap fitted (to_z-of_z w128 c.from.result fits ∙ c.from.ensures))
