use Rattle.std.proofs.Common.{rules}
use Rattle.std.proofs.lemmas.List.Sorted.{answers_always, IsNonDecreasingBy-from_sort}
use Rattle.if1_read.specs.Made.{edge_place}
use Rattle.if1_read.proofs.Stable.{arranged}
use Rattle.if1_read.proofs.Filled.{rises_mapped}
use Rattle.if1_read.proofs.part.sort_edges.Goals as goal

pub returns-clause-order : goal.returns-clause-order
returns-clause-order c =
    rises_mapped (λ e. e.1) edge_place c.sort_by_key.new.self.items
    (IsNonDecreasingBy-from_sort (λ e. edge_place e.1) c.sort_by_key.new.self.items
    (c.in_ok-sort_by_key.ensures.sorted (λ e. edge_place e.1) (answers_always _ _ _ (λ f a r g h. search rules))))

pub returns-clause-arranged : goal.returns-clause-arranged
returns-clause-arranged c =
    arranged (λ e. e.1) edge_place c.args.edges.now.items c.sort_by_key.new.self.items c.sort_by_key.ensures.permutation
    (c.sort_by_key.ensures.stable (λ e. edge_place e.1) (answers_always _ _ _ (λ f a r g h. search rules)))
