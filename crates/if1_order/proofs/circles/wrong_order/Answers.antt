use Rattle.std.proofs.Common.{List, sym, subst}
use Rattle.if1_graph.specs.declared.graph.Graph.{Graph}
use Rattle.if1_graph.specs.Ready.{IsAcyclic, IsOnCycle}
use Rattle.if1_order.specs.Parts.{AreLinkedInside, AreClear, HaveCircle}
use Rattle.if1_order.proofs.Units.{linked_unit, clear_unit, circle_unit, found_weaker}
use Rattle.if1_order.proofs.circles.wrong_order.Goals as goal

pub wrong_parts-requires : goal.wrong_parts-requires
wrong_parts-requires c =
    subst (λ (z : List Graph). AreLinkedInside z) (sym c.as_slice.ensures) (linked_unit c.args.unit.now c.requires.nesting c.requires.linked)

pub returns : goal.returns
returns c =
    found_weaker c.wrong_parts.result
    (AreClear c.as_slice.result.now) (IsAcyclic c.args.unit.now)
    (HaveCircle c.as_slice.result.now) (λ at. IsOnCycle c.args.unit.now at.0 at.1)
    (λ clear. clear_unit c.args.unit.now (subst (λ (z : List Graph). AreClear z) c.as_slice.ensures clear))
    (λ at h. circle_unit c.args.unit.now at c.requires.nesting (subst (λ (z : List Graph). HaveCircle z at) c.as_slice.ensures h))
    c.wrong_parts.ensures
