use Rattle.std.proofs.Common.{◌≡◌, ◌∙◌, true, false, nat_lt, get_or, rules, ap}
use Rattle.std.specs.List.Sorted.{IsPartitionPoint}
use Rattle.std.proofs.lemmas.List.Sorted.{IsPartitionPoint-from_clause, IsPartitionedBy-ltb}
use Rattle.std.proofs.lemmas.Bool.{ltb-true, ltb-false}
use Rattle.if1_graph.specs.declared.graph.Edge.{Edge}
use Rattle.if1_fits.specs.Views.{with_port}
use Rattle.if1_fits.proofs.Ports.{port_at, not_falling}
use Rattle.if1_fits.proofs.views.edge_at.Goals as goal

pub returns : goal.returns
returns c =
    let es = c.args.edges.now in
    let k = c.partition_point-first.result in
    let port = c.args.port in
    let split : IsPartitionPoint (λ (e : Edge). nat_lt e.port port ≡ true) (λ (e : Edge). nat_lt e.port port ≡ false) es k =
    IsPartitionPoint-from_clause (λ (e : Edge). nat_lt e.port port) es k c.partition_point-first.ensures.partitioned
    (IsPartitionedBy-ltb (λ (e : Edge). e.port) es port (not_falling es c.requires)) (λ a r f k. search rules) in
    c.edge_with.ensures ∙ ap (with_port port) c.item_at.ensures
    ∙ port_at es port k c.requires
    (λ j d a b. ltb-true (get_or es j d).port port (split.0 j d a b))
    (λ j d a b. ltb-false (get_or es j d).port port (split.1 j d a b))
