use Rattle.std.proofs.Common.{◌≡◌, ◌+◌, ◌∙◌, ◌∷◌, List, drop, ap, sym, subst}
use Rattle.std.proofs.lemmas.List.{drop_more, drop_all}
use Rattle.typed_tree.specs.declared.expr.Source.{Source}
use Rattle.lowering.specs.declared.feed.Wire.{Wire}
use Rattle.lowering.specs.Loops.{width, take_up, generator_lowered, generators_lowered}
use Rattle.lowered_data.specs.States.{IsMade}
use Rattle.lower_nodes.proofs.Walks.{Going, chain_goes_on, ended_only}
use Rattle.lower_nodes.proofs.loops.generators.Goals as goal

pub loop-place-preserved : goal.loop-place-preserved
loop-place-preserved c =
    let forms = c.args.forms.now in
    let ss = c.args.sources.now in
    let i = c.loop-place.place in
    let s = c.source_at-source.result in
    let left = c.loop-place.left.now in
    let rest = drop (i + 1) ss in
    let f = generators_lowered forms ss c.args.bounds.now in
    let split : drop i ss ≡ s ∷ rest = drop_more ss i s c.loop-place-test.true ∙ ap (λ k. k ∷ rest) (sym (c.source_at-source.ensures s)) in
    let begun : Going f (generators_lowered forms (s ∷ rest) left) c.args.made.now c.loop-place.made c.loop-place.values =
    subst (λ (k : List Source). Going f (generators_lowered forms k left) c.args.made.now c.loop-place.made c.loop-place.values) split c.loop-place.invariant in
    let bounds : c.take_up.result.now ≡ take_up (width s) left = c.take_up.ensures ∙ ap (λ n. take_up n left) c.width-count.ensures in
    let one : IsMade (generator_lowered forms s (take_up (width s) left)) c.loop-place.made c.generator.new.made c.in_ok-more.more =
    subst (λ (ws : List Wire). IsMade (generator_lowered forms s ws) c.loop-place.made c.generator.new.made c.in_ok-more.more) bounds c.in_ok-more.ensures in
    let later : c.behind_first-left.result.now ≡ drop (width s) left = c.behind_first-left.ensures ∙ ap (λ n. drop n left) c.width-count.ensures in
    subst (λ (ws : List Wire). Going f (generators_lowered forms rest ws) c.args.made.now c.generator.new.made c.append.new.wires) (sym later)
    (chain_goes_on f (generator_lowered forms s (take_up (width s) left)) (generators_lowered forms rest (drop (width s) left)) c.args.made.now c.loop-place.made c.generator.new.made c.loop-place.values
    c.in_ok-more.more c.append.new.wires begun one c.in_ok-append.ensures)

pub returns : goal.returns
returns c =
    let forms = c.args.forms.now in
    let ss = c.args.sources.now in
    let f = generators_lowered forms ss c.args.bounds.now in
    ended_only f c.args.made.now c.loop-place.made c.loop-place.values
    (subst (λ (k : List Source). Going f (generators_lowered forms k c.loop-place.left.now) c.args.made.now c.loop-place.made c.loop-place.values)
    (drop_all c.loop-place.place ss c.loop-place-test.false) c.loop-place.invariant)
