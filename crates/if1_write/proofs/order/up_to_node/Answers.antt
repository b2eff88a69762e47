use Rattle.std.proofs.Common.{◌≡◌, true, false, rules}
use Rattle.std.specs.Prelude.{nat_le}
use Rattle.std.specs.List.Sorted.{IsPartitionPoint}
use Rattle.std.proofs.lemmas.List.Sorted.{IsPartitionPoint-from_clause, IsPartitionedBy-leb}
use Rattle.if1_write.specs.Texts.{rank, rank_of}
use Rattle.if1_write.proofs.Ranges.{up_to_last}
use Rattle.if1_write.proofs.order.up_to_node.Goals as goal

pub returns : goal.returns
returns c =
    let es = c.args.edges.now in
    let k = c.partition_point-end.result in
    let split : IsPartitionPoint (λ e. nat_le (rank_of e) (rank c.args.node) ≡ true) (λ e. nat_le (rank_of e) (rank c.args.node) ≡ false) es k =
    IsPartitionPoint-from_clause (λ e. nat_le (rank_of e) (rank c.args.node)) es k c.partition_point-end.ensures.partitioned
    (IsPartitionedBy-leb rank_of es (rank c.args.node) c.requires) (λ a r f k. search rules) in
    up_to_last es c.args.node k split
