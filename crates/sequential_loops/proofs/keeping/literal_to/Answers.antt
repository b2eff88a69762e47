use Rattle.std.proofs.Common.{◌≡◌, rules, w64, FitsSigned, to_z, of_z, List, subst, sym, ap, ◌∙◌}
use Rattle.std.proofs.lemmas.Int.{to_z-of_z}
use Rattle.flow_value.specs.declared.value.Val.TheVariants as val
use Rattle.graph_meaning.specs.Carried.{Value}
use Rattle.run_store.specs.Stored as stored
use Rattle.run_cells.specs.declared.cell.Cell.{Cell}
use Rattle.run_cells.specs.declared.cell.Cell.TheVariants as cell
use Rattle.run_cells.specs.Held.{heap_of}
use Rattle.step_code.specs.declared.code.Operand.TheVariants as operand
use Rattle.step_code.specs.Reading.{operand_in}
use Rattle.sequential_loops.proofs.OverSteps.{over-literal}
use Rattle.sequential_loops.proofs.keeping.literal_to.Goals as goal

pub returns-in-Some-clause-brings : goal.returns-in-Some-clause-brings
returns-in-Some-clause-brings c =
    let a = c.args in
    let n = c.in-Some.n in
    let range : FitsSigned w64 n = search rules in
    let seen = subst (λ (xs : List Cell). stored.seen (heap_of xs) a.base stored.Looks (operand_in a.code.now (operand.Literal a.number)) ≡ Value (val.Int n)) c.as_slice.ensures.value c.in-Some.ensures in
    over-literal a.code.now a.base a.to a.number a.cells.now.items c.put_number.new.cells.items (cell.Int (to_z w64 (of_z w64 n))) c.requires.room c.put_number.ensures.cells
    (ap (λ z. stored.Owns (Value (val.Int z))) (to_z-of_z w64 n range) ∙ ap stored.Owns (sym seen))
