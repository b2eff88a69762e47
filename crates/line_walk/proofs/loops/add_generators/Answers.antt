use Rattle.std.proofs.Common.{◌≡◌, ◌+◌, ◌∙◌, ◌∷◌, ◌++◌, List, drop, ap, sym}
use Rattle.std.proofs.lemmas.List.{drop_more}
use Rattle.typed_tree.specs.declared.expr.Source.{Source}
use Rattle.lowering.specs.declared.feed.Carried.{Carried}
use Rattle.lowering.specs.Loops.{width}
use Rattle.line_types.specs.Traces.{take_up, generator_values, generators_traced}
use Rattle.line_labels.specs.Needs.{added}
use Rattle.line_walk.proofs.Generators.{next_generator, next_values}
use Rattle.line_walk.proofs.loops.add_generators.Goals as goal

pub loop-place-preserved : goal.loop-place-preserved
loop-place-preserved c =
    let forms = c.args.types.now in
    let ss = c.args.sources.now in
    let i = c.loop-place.place in
    let s = c.source_at-source.result in
    let left = c.loop-place.left.now in
    let rest = drop (i + 1) ss in
    let ks = c.loop-place.needs in
    let vs = c.loop-place.values in
    let n = width s in
    let split : drop i ss ≡ s ∷ rest = drop_more ss i s c.loop-place-test.true ∙ ap (λ k. k ∷ rest) (sym (c.source_at-source.ensures s)) in
    let own : c.take_up-own.result.now ≡ take_up n left = c.take_up-own.ensures ∙ ap (λ k. take_up k left) c.width-count.ensures in
    let later : c.behind_first-left.result.now ≡ drop n left = c.behind_first-left.ensures ∙ ap (λ k. drop k left) c.width-count.ensures in
    record {
      needs = ap (λ (l : List Carried). added c.add_all.new.self (generators_traced forms rest l).lines) later
          ∙ (ap (λ (k : List Carried). added k (generators_traced forms rest (drop n left)).lines) (c.in_ok-add_all.ensures ∙ ap (λ l. added ks l) own)
          ∙ (next_generator forms s rest left ks
          ∙ (ap (λ (l : List Source). added ks (generators_traced forms l left).lines) (sym split) ∙ c.loop-place.invariant.needs)));
      values = ap (λ (l : List Carried). c.add_generator.new.values ++ (generators_traced forms rest l).values) later
          ∙ (ap (λ (k : List Carried). k ++ (generators_traced forms rest (drop n left)).values) (c.in_ok-add_generator.ensures ∙ ap (λ l. vs ++ generator_values forms s l) own)
          ∙ (next_values forms s rest left vs
          ∙ (ap (λ (l : List Source). vs ++ (generators_traced forms l left).values) (sym split) ∙ c.loop-place.invariant.values)));
    }
