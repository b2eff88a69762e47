use Rattle.std.proofs.Common.{◌≡◌, [], ◌∷◌, IfSome, subst, sym}
use Rattle.run_cells.specs.declared.cell.Cell.TheVariants as cell
use Rattle.if1_graph.specs.declared.op.Simple.TheVariants as simple
use Rattle.sequential_fire.specs.Taking.{IsFiredAs}
use Rattle.sequential_fire.proofs.SumRows.{cells-summed}
use Rattle.sequential_fire.proofs.summing.sum_of_cells.Goals as goal

pub returns-in-Reduce-Name-Many : goal.returns-in-Reduce-Name-Many
returns-in-Reduce-Name-Many c =
    let at = c.in-Reduce-Name-Many in
    let named = at.is-1 in
    let got = c.get.ensures in
    let text = c.as_slice.ensures in
    let many = at.is-2 in
    let value = c.get-in-Reduce-Name-Many.ensures in
    let name-is : c.args.name.now ≡ cell.Name c.as_slice.result.now = cc in
    let many-is : c.args.multiple.now ≡ cell.Many c.get-in-Reduce-Name-Many.result.now = cc in
    subst (λ r. IfSome c.named_sum.result (λ w. IsFiredAs r (c.args.name.now ∷ c.args.multiple.now ∷ []) w)) (sym at.is-0)
    (subst (λ n. IfSome c.named_sum.result (λ w. IsFiredAs (simple.Reduce at.field-0-0) (n ∷ c.args.multiple.now ∷ []) w)) (sym name-is)
    (subst (λ m. IfSome c.named_sum.result (λ w. IsFiredAs (simple.Reduce at.field-0-0) (cell.Name c.as_slice.result.now ∷ m ∷ []) w)) (sym many-is)
    (cells-summed c.named_sum.result at.field-0-0 c.as_slice.result.now c.get-in-Reduce-Name-Many.result.now c.named_sum.ensures)))
