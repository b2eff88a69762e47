use Rattle.std.proofs.Common.{rules, w64, FitsSigned, length, sym, ap, ◌∙◌}
use Rattle.std.proofs.lemmas.Int.{to_z-of_z}
use Rattle.flow_value.specs.declared.value.Val.TheViews.{out-Val}
use Rattle.node_ops.specs.Operands.{multiple_in}
use Rattle.graph_meaning.specs.Carried.{Many}
use Rattle.graph_meaning.specs.Forms.{items}
use Rattle.run_cells.specs.Held.{held, rising_in}
use Rattle.sequential_loops.proofs.lengths.long_of.Goals as goal

pub returns-in-Some-Range-clause-places : goal.returns-in-Some-Range-clause-places
returns-in-Some-Range-clause-places c =
    let x = c.in-Some-Range in
    let range : FitsSigned w64 x.lo = search rules in
    c.risen.ensures.places ∙ (ap (λ z. length (rising_in z x.many)) (to_z-of_z w64 x.lo range) ∙ ap (λ k. length (items k)) (sym (x.ensures (Many (rising_in x.lo x.many)) (ap held x.field-0-is))))

pub returns-in-Some-Many-clause-places : goal.returns-in-Some-Many-clause-places
returns-in-Some-Many-clause-places c =
    let x = c.in-Some-Many in
    c.listed.ensures.places ∙ (ap (λ w. length (items (multiple_in w (out-Val w)))) c.get.ensures ∙ ap (λ k. length (items k)) (sym (x.ensures (multiple_in x.v (out-Val x.v)) (ap held x.field-0-is))))
