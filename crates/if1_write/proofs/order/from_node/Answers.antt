use Rattle.std.proofs.Common.{◌≡◌, ◌∙◌, ◌-◌, true, false, take, drop, length, rules, arith, ap}
use Rattle.std.specs.Prelude.{filter, ◌==◌, nat_lt}
use Rattle.std.specs.List.Sorted.{IsPartitionPoint}
use Rattle.std.proofs.lemmas.List.{take_all, length-drop}
use Rattle.std.proofs.lemmas.List.Sorted.{IsNonDecreasingBy-drop, IsNonDecreasingBy-take, IsPartitionPoint-from_clause, IsPartitionedBy-ltb}
use Rattle.if1_graph.specs.declared.graph.Edge.{Edge}
use Rattle.if1_write.specs.Texts.{rank, rank_of}
use Rattle.if1_write.proofs.Ranges.{from_first}
use Rattle.if1_write.proofs.order.from_node.Goals as goal

pub returns-clause-same : goal.returns-clause-same
returns-clause-same c =
    let es = c.args.edges.now in
    let k = c.partition_point-first.result in
    let all : take (length es - k) (drop k es) ≡ drop k es = take_all (length es - k) (drop k es) (omega (arith, length-drop k es)) in
    let split : IsPartitionPoint (λ e. nat_lt (rank_of e) (rank c.args.node) ≡ true) (λ e. nat_lt (rank_of e) (rank c.args.node) ≡ false) es k =
    IsPartitionPoint-from_clause (λ e. nat_lt (rank_of e) (rank c.args.node)) es k c.partition_point-first.ensures.partitioned
    (IsPartitionedBy-ltb rank_of es (rank c.args.node) c.requires) (λ a r f k. search rules) in
    ap (filter (λ (e : Edge). e.node == c.args.node)) all ∙ from_first es c.args.node k split

pub returns-clause-order : goal.returns-clause-order
returns-clause-order c =
    let es = c.args.edges.now in
    let k = c.partition_point-first.result in
    IsNonDecreasingBy-take rank_of (length es - k) (drop k es) (IsNonDecreasingBy-drop rank_of k es c.requires)
