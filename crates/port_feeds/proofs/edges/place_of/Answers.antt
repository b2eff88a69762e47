use Rattle.std.proofs.Common.{◌≡◌, true, false, rules}
use Rattle.std.specs.List.Sorted.{IsPartitionPoint}
use Rattle.std.proofs.lemmas.List.Sorted.{IsPartitionPoint-from_clause}
use Rattle.if1_graph.specs.declared.graph.Edge.{Edge}
use Rattle.port_feeds.specs.Found.{stands_before}
use Rattle.port_feeds.proofs.Search.{found-at, parted}
use Rattle.port_feeds.proofs.edges.place_of.Goals as goal

pub returns : goal.returns
returns c =
    let es = c.args.edges.now in
    let l = c.args.node in
    let p = c.args.port in
    let k = c.partition_point.result in
    let split : IsPartitionPoint (λ (e : Edge). stands_before l p e ≡ true) (λ (e : Edge). stands_before l p e ≡ false) es k =
    IsPartitionPoint-from_clause (λ (e : Edge). stands_before l p e) es k c.partition_point.ensures.partitioned (parted l p es c.requires) (λ a r f k. search rules) in
    found-at l p es k c.requires split.0 split.1
