use Rattle.std.proofs.Common.{◌≡◌, ◌==◌, true, false, not, get_or, rules, arith}
use Rattle.std.specs.List.Sorted.{IsPartitionPoint}
use Rattle.std.proofs.lemmas.Bool.{not-true, not-false}
use Rattle.std.proofs.lemmas.List.Sorted.{IsPartitionPoint-from_clause}
use Rattle.if1_graph.specs.declared.graph.Edge.{Edge}
use Rattle.if1_ports.specs.Into.{stands_before}
use Rattle.if1_ports.proofs.Ranges.{taken, no_same, same, upto_parted, swapped}
use Rattle.if1_ports.proofs.into.up_to_node.Goals as goal

pub returns : goal.returns
returns c =
    let es = c.args.edges.now in
    let k = c.partition_point-end.result in
    let node = c.args.node in
    let split : IsPartitionPoint (λ (e : Edge). not (stands_before node e.node) ≡ true) (λ (e : Edge). not (stands_before node e.node) ≡ false) es k =
    IsPartitionPoint-from_clause (λ (e : Edge). not (stands_before node e.node)) es k c.partition_point-end.ensures.partitioned
    (upto_parted es node c.requires.order) (λ a r f k. search rules) in
    taken (λ (e : Edge). e.node == node) es k
    (λ j d a b. same (get_or es j d).node node (c.requires.none j d (omega (arith, b, c.partition_point-end.ensures.bound))) (not-true (stands_before node (get_or es j d).node) (split.0 j d a b)))
    (λ j d a b. swapped (get_or es j d).node node (no_same node (get_or es j d).node (not-false (stands_before node (get_or es j d).node) (split.1 j d a b))))
