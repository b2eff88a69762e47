use Rattle.std.proofs.Common.{rules, w64, FitsSigned, ◌≡◌, get_or, ◌∙◌, sym, ap, subst}
use Rattle.std.proofs.lemmas.Int.{to_z-of_z}
use Rattle.flow_value.specs.declared.value.Val.TheVariants as val
use Rattle.graph_meaning.specs.Carried.{Carried, Value, Unfilled}
use Rattle.run_code.specs.Collections.{behind, behind_where}
use Rattle.run_store.specs.Stored as stored
use Rattle.run_cells.specs.Held.{heap_of}
use Rattle.sequential.specs.Agrees.{owned_all}
use Rattle.sequential_loops.proofs.rows.is_sifted.Goals as goal

pub returns-in-Some-clause-put : goal.returns-in-Some-clause-put
returns-in-Some-clause-put c = λ pushed m there.
    let n = c.in-Some.n in
    let range : FitsSigned w64 n = search rules in
    let k = get_or (owned_all c.args.row.now) c.args.column Unfilled in
    subst (λ z. (x : Carried) → heap_of c.args.cells.now.items c.args.place ≡ stored.Owns x → heap_of c.is_pushed.new.cells.items c.args.place ≡ stored.Owns (behind x (Value (val.Int z)))) (to_z-of_z w64 n range) (c.is_pushed.ensures.put pushed) m there
    ∙ (ap (λ z. stored.Owns (behind m z)) (sym c.in-Some.ensures)
    ∙ ap (λ z. stored.Owns (behind_where z m k)) (sym c.in-Kept.is ∙ c.said.ensures))
