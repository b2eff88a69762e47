use Rattle.std.proofs.Common.{rules, ◌∙◌, ◌<◌, sym, length}
use Rattle.loop_folds.specs.declared.folding.Folding.TheVariants as folding
use Rattle.loop_folds.specs.declared.masking.Masking.TheVariants as masking
use Rattle.sisal_tree.specs.declared.expr.Direction.TheVariants as direction
use Rattle.typed_tree.specs.declared.expr.ClauseForm.{ClauseForm}
use Rattle.tree_sizes.proofs.Steps.{place-mask, place-clause}
use Rattle.tree_sizes.proofs.places.next.Goals as goal

pub returns-then-is_before : goal.returns-then-is_before
returns-then-is_before c =
    let x : ClauseForm = record { folding = folding.Array; direction = direction.Any; masking = masking.All } in
    let lt : c.args.place.at < length c.args.clauses.now = search rules in
    place-mask c.args.clauses.now c.args.place.at c.args.place.is_mask x lt (sym c.is_masked-is_before.ensures ∙ c.if-is_before.true)

pub returns-else-is_before : goal.returns-else-is_before
returns-else-is_before c =
    let x : ClauseForm = record { folding = folding.Array; direction = direction.Any; masking = masking.All } in
    let lt : c.args.place.at < length c.args.clauses.now = search rules in
    place-clause c.args.clauses.now c.args.place.at c.args.place.is_mask x lt (sym c.is_masked-is_before.ensures ∙ c.if-is_before.false)
