use Rattle.std.proofs.Common.{rules}
use Rattle.std.proofs.lemmas.List.Sorted.{answers_always, IsNonDecreasingBy-from_sort_by_key}
use Rattle.if1_read.proofs.Stable.{arranged, stable_keys}
use Rattle.if1_read.proofs.table.sort_by_label.Goals as goal

pub returns-clause-arranged : goal.returns-clause-arranged
returns-clause-arranged c =
    arranged (λ e. e.1) (λ e. e.label) c.args.entries.now.items c.sort_by_key.new.self.items c.sort_by_key.ensures.permutation
    (c.sort_by_key.ensures.stable (λ e. e.1.label) (answers_always _ _ _ (λ f a r g h. search rules)))

pub returns-clause-same : goal.returns-clause-same
returns-clause-same c =
    stable_keys (λ e. e.1.label) c.args.entries.now.items c.sort_by_key.new.self.items
    (c.sort_by_key.ensures.stable (λ e. e.1.label) (answers_always _ _ _ (λ f a r g h. search rules)))

pub returns-clause-rising : goal.returns-clause-rising
returns-clause-rising c = IsNonDecreasingBy-from_sort_by_key (λ e. e.1.label) _ c.in_ok-sort_by_key.ensures.sorted (λ a r q k. search rules)
