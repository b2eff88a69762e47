use Rattle.std.proofs.Common.{◌≡◌, ◌<◌, sym, ◌∙◌, ap, subst}
use Rattle.sisal_tree.specs.Depth.{PassesAt}
use Rattle.sisal_depth.specs.Sizes.{at, sizes_of}
use Rattle.sisal_depth.proofs.Depths.{items_size}
use Rattle.sisal_depth.proofs.Finals.{reads_tokens, top_of, items_least, passes_items, first_of_one}
use Rattle.sisal_depth.proofs.walk.depth_of.Goals as goal

pub sizes_in-requires : goal.sizes_in-requires
sizes_in-requires c = reads_tokens c.args.steps.now c.args.tokens.now c.requires

pub returns-clause-depth : goal.returns-clause-depth
returns-clause-depth c = λ o r.
    let size : c.part-unit.result ≡ at 0 (sizes_of c.args.steps.now c.args.tokens.now) = c.part-unit.ensures ∙ (first_of_one c.in_ok-sizes.sizes ∙ ap (at 0) c.in_ok-sizes.ensures) in
    let same : c.part-unit.result ≡ items_size o.items = size ∙ top_of c.args.steps.now c.args.tokens.now c.requires o r in
    ap (λ x. x.least) same ∙ items_least o.items

pub returns-clause-line : goal.returns-clause-line
returns-clause-line c = λ o r deep.
    let size : c.part-unit.result ≡ at 0 (sizes_of c.args.steps.now c.args.tokens.now) = c.part-unit.ensures ∙ (first_of_one c.in_ok-sizes.sizes ∙ ap (at 0) c.in_ok-sizes.ensures) in
    let same : c.part-unit.result ≡ items_size o.items = size ∙ top_of c.args.steps.now c.args.tokens.now c.requires o r in
    subst (λ x. PassesAt 200 o.items x.line) (sym same) (passes_items o.items (subst (λ x. 200 < x.least) same deep))
