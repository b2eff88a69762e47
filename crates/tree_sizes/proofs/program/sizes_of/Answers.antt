use Rattle.std.proofs.Common.{rules, ◌∙◌, ◌<◌, length, map, sym, ap}
use Rattle.std.specs.Prelude.{◌^◌}
use Rattle.lowered_sizes.specs.Counting.{part, capped_sizes}
use Rattle.lowered_sizes.specs.Forms.{all_sized}
use Rattle.lowered_sizes.specs.Programs.{bodies_sized, stub_sized}
use Rattle.tree_sizes.specs.Phrases.{phrases}
use Rattle.tree_sizes.proofs.Folds.{length-kept}
use Rattle.tree_sizes.proofs.Whole.{phrases-are}
use Rattle.tree_sizes.proofs.program.sizes_of.Goals as goal

pub returns-in-Some : goal.returns-in-Some
returns-in-Some c =
    let forms = c.args.types.now in
    let f = c.args.function.now in
    let n = length f.params in
    let es = c.in-Some.body in
    let fits : c.len-names.result < 2 ^ 64 = search rules in
    let kept = length-kept c.len-names.result n c.len-names.ensures fits in
    c.part.ensures (all_sized (phrases forms es) n) (c.exprs.ensures n kept ∙ ap (λ l. capped_sizes (all_sized (phrases forms l) n)) c.as_slice.ensures)
    ∙ ap (λ l. capped_sizes (part (all_sized l n))) (phrases-are forms es)
    ∙ ap (λ o. capped_sizes (part (all_sized (bodies_sized forms o f.results) n))) (sym c.in-Some.is)

pub returns-in-None : goal.returns-in-None
returns-in-None c =
    let f = c.args.function.now in
    let n = length f.params in
    c.part-in-None.ensures (all_sized (map stub_sized f.results) n) (c.stubs.ensures f.results n c.len.ensures)
    ∙ ap (λ o. capped_sizes (part (all_sized (bodies_sized c.args.types.now o f.results) n))) (sym c.in-None.is)
