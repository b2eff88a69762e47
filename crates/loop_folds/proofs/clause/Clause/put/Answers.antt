use Rattle.std.proofs.Common.{arith, ap, ◌∙◌, length}
use Rattle.std.proofs.lemmas.List.{length-map, length_push}
use Rattle.loop_folds.specs.Makings.{told}
use Rattle.loop_folds.proofs.Added.{counted-few}
use Rattle.loop_folds.proofs.clause.Clause.put.Goals as goal

pub put_cell-requires : goal.put_cell-requires
put_cell-requires c = λ e.
    let few = counted-few c.self.inside.failure c.self.inside.making (told c.self.inside.cells) c.self.invariant e in
    let same = length-map c.self.inside.cells (λ s. s.value) in
    let grown = ap length c.in_ok-add.ensures.ok ∙ length_push c.self.inside.cells _ in
    omega (arith, few, same, grown, c.len-counted.ensures)
