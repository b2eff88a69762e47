use Rattle.std.proofs.Common.{◌≡◌, ℕ, ◌<◌, ◌∙◌, map, length, subst, sym, ap}
use Rattle.if1_graph.specs.Units.{label_of}
use Rattle.if1_order.specs.Orders.{node_labels}
use Rattle.if1_order.specs.Walks.{AreInside, Leads}
use Rattle.if1_reach.specs.Nets.{IsNet, links_in}
use Rattle.mark_check.proofs.Blamed.{no-circle}
use Rattle.mark_check.proofs.takers.bad_in.Goals as goal

pub ranks_of-requires-clause-inside : goal.ranks_of-requires-clause-inside
ranks_of-requires-clause-inside c = subst AreInside (sym c.as_slice-3.ensures.value) c.in_ok-lists.ensures.inside

pub ranks_of-requires-clause-acyclic : goal.ranks_of-requires-clause-acyclic
ranks_of-requires-clause-acyclic c =
    let is : c.as_slice-2.result.now ≡ node_labels c.args.graph.now = c.as_slice-2.ensures ∙ (c.in_ok-labels.ensures ∙ ap (map label_of) c.as_slice.ensures) in
    subst (λ ls. (s : ℕ) → s < length ls → ¬ Leads ls s s) (sym c.as_slice-3.ensures.value)
    (no-circle c.args.graph.now c.as_slice-2.result.now c.in_ok-lists.lists.items c.requires.order
    (record { is = is; linked = c.requires.order.linked; net = subst (λ ls. IsNet ls c.in_ok-lists.lists.items (links_in c.args.graph.now)) is c.in_ok-lists.ensures }))
