use Rattle.std.proofs.Common.{◌≡◌, true, false, rules, sym, ◌∙◌, arith}
use Rattle.std.specs.List.Sorted.{IsPartitionPoint}
use Rattle.std.proofs.lemmas.List.Sorted.{IsPartitionPoint-from_clause}
use Rattle.std.proofs.lemmas.Option.{IfSome_then}
use Rattle.if1_graph.specs.declared.graph.Edge.{Edge}
use Rattle.port_feeds.specs.Found.{stands_before}
use Rattle.port_feeds.proofs.Search.{parted, passed}
use Rattle.port_feeds.proofs.edges.port_from.Goals as goal

pub returns-clause-between : goal.returns-clause-between
returns-clause-between c =
    let es = c.args.edges.now in
    let l = c.args.node in
    let p = c.args.port in
    let k = c.partition_point-place.result in
    let split : IsPartitionPoint (λ (e : Edge). stands_before l p e ≡ true) (λ (e : Edge). stands_before l p e ≡ false) es k =
    IsPartitionPoint-from_clause (λ (e : Edge). stands_before l p e) es k c.partition_point-place.ensures.partitioned (parted l p es c.requires) (λ a r f k. search rules) in
    IfSome_then c.port_up.result c.port_up.ensures
    (λ q h j le lt. let e = h.0 in let same = h.3 in passed l p j es k e c.requires split.0 (sym c.item_at.ensures ∙ h.1) h.2 le (omega (arith, same, lt)))
