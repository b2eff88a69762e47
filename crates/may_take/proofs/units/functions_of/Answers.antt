use Rattle.std.proofs.Common.{◌≡◌, ◌∙◌, ◌<◌, ◌+◌, ◌++◌, ◌∷◌, [], List, get_or, length, take, sym, ap, subst}
use Rattle.std.proofs.lemmas.List.{take_more}
use Rattle.if1_graph.specs.declared.graph.Graph.{Graph}
use Rattle.may_take.specs.Uses.{AreKnown}
use Rattle.may_take.proofs.units.functions_of.Goals as goal

pub loop-graph-init : goal.loop-graph-init
loop-graph-init c = record { known = c.none-functions.ensures.known c.args.unit.now; asked = c.none-functions.ensures.asked }

pub loop-graph-preserved : goal.loop-graph-preserved
loop-graph-preserved c =
    let u = c.args.unit.now in
    let gs = u.graphs in
    let i = c.loop-graph.graph-index in
    let g = c.graph-item.result in
    let lt = subst (λ gs. i < length gs) c.as_slice-graph-items.ensures c.loop-graph-test.true in
    let at = c.graph-item.is ∙ ap (λ (gs : List Graph). get_or gs i g) c.as_slice-graph-items.ensures in
    let e : take i gs ++ g ∷ [] ≡ take (i + 1) gs = ap (λ x. take i gs ++ x ∷ []) at ∙ sym (take_more gs i g lt) in
    record {
      known = subst (λ gs. AreKnown u gs c.add.new.self) e
          (c.in_ok-add.ensures.known u (take i gs) g (sym c.as_slice.ensures) c.in_ok-inputs.ensures.inputs c.loop-graph.invariant.known);
      asked = c.in_ok-add.ensures.asked ∙ c.loop-graph.invariant.asked;
    }
