use Rattle.std.proofs.Common.{rules, ◌∙◌, ◌+◌, ◌-◌, ◌*◌, ◌≤◌, ◌<◌, length, ap, refl, arith}
use Rattle.std.specs.Prelude.{◌^◌, get_or}
use Rattle.loop_folds.specs.declared.folding.Folding.TheVariants as folding
use Rattle.loop_folds.specs.declared.masking.Masking.TheVariants as masking
use Rattle.sisal_tree.specs.declared.expr.Direction.TheVariants as direction
use Rattle.typed_tree.specs.declared.expr.ClauseForm.{ClauseForm}
use Rattle.lowering.specs.Loops.{span}
use Rattle.lowered_sizes.specs.Counting.{beside, only, capped, capped_sizes}
use Rattle.tree_sizes.specs.Clauses.{clause_sized}
use Rattle.tree_sizes.proofs.LoopClauses.{returns-start, returns-next, returns-done, less-none, less-more, left-kept, span-small}
use Rattle.tree_sizes.proofs.loops.returns.Goals as goal

pub loop-form-init : goal.loop-form-init
loop-form-init c = λ m k e f. (only 0, 0, c.only-all.ensures 0 refl, omega arith, less-none c.args.multiples (capped m) e, less-none c.args.types (capped k) f, returns-start c.args.is_limit c.args.clauses.now m k)

pub returns : goal.returns
returns c = λ m k e f.
    let inv = c.loop-form.invariant m k e f in
    let over : length c.args.clauses.now ≤ c.loop-form.form-index = omega (arith, c.loop-form-test.false) in
    inv.2 ∙ ap capped_sizes (returns-done c.args.is_limit c.args.clauses.now c.loop-form.form-index m k inv.1 inv.0 over inv.6)

pub loop-form-preserved : goal.loop-form-preserved
loop-form-preserved c = λ m k e f.
    let lim = c.args.is_limit in
    let cs = c.args.clauses.now in
    let i = c.loop-form.form-index in
    let inv = c.loop-form.invariant m k e f in
    let s = inv.0 in
    let b = inv.1 in
    let x : ClauseForm = record { folding = folding.Array; direction = direction.Any; masking = masking.All } in
    let form = get_or cs i x in
    let lt = c.loop-form-test.true in
    let bound : i < 2 ^ 64 = search rules in
    let twice : i ≤ 2 * i = omega arith in
    let own = left-kept m b c.loop-form.left i 2 inv.3 bound (omega arith) inv.4 in
    let ty = left-kept k i c.loop-form.others i 1 twice bound (omega arith) inv.5 in
    let small = span-small form.masking in
    let one = c.clause.ensures (m - b) (k - i) own ty in (
      beside s (clause_sized lim form (m - b) (k - i)),
      b + span form.masking,
      c.beside-all.ensures s (clause_sized lim form (m - b) (k - i)) inv.2 one,
      omega (arith, inv.3, small),
      c.saturating_sub-left.ensures ∙ ap (λ y. c.loop-form.left - y) c.span.ensures ∙ less-more c.loop-form.left (capped m) b (span form.masking) inv.4,
      c.saturating_sub-others.ensures ∙ less-more c.loop-form.others (capped k) i 1 inv.5,
      returns-next lim cs i x m k b s lt inv.6,
    )
