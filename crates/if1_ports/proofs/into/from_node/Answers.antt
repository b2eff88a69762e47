use Rattle.std.proofs.Common.{◌≡◌, ◌==◌, ◌∙◌, ◌-◌, true, false, filter, All, take, drop, length, rules, arith, ap, subst, sym, length-drop, take_all}
use Rattle.std.specs.List.Sorted.{IsPartitionPoint}
use Rattle.std.proofs.lemmas.List.Sorted.{IsPartitionPoint-from_clause}
use Rattle.if1_graph.specs.declared.graph.Edge.{Edge}
use Rattle.if1_ports.specs.Into.{stands_before}
use Rattle.if1_ports.proofs.Ranges.{dropped, no_same, before_parted, drop_all}
use Rattle.if1_ports.proofs.into.from_node.Goals as goal

pub returns-clause-same : goal.returns-clause-same
returns-clause-same c =
    let es = c.args.edges.now in
    let k = c.partition_point-first.result in
    let all : take (length es - k) (drop k es) ≡ drop k es = take_all (length es - k) (drop k es) (omega (arith, length-drop k es)) in
    let split : IsPartitionPoint (λ (e : Edge). stands_before e.node c.args.node ≡ true) (λ (e : Edge). stands_before e.node c.args.node ≡ false) es k =
    IsPartitionPoint-from_clause (λ (e : Edge). stands_before e.node c.args.node) es k c.partition_point-first.ensures.partitioned
    (before_parted es c.args.node c.requires) (λ a r f k. search rules) in
    ap (filter (λ (e : Edge). e.node == c.args.node)) all
    ∙ dropped (λ (e : Edge). e.node == c.args.node) es k (λ j d a b. no_same _ c.args.node (split.0 j d a b))

pub returns-clause-none : goal.returns-clause-none
returns-clause-none c =
    let es = c.args.edges.now in
    let k = c.partition_point-first.result in
    let all : take (length es - k) (drop k es) ≡ drop k es = take_all (length es - k) (drop k es) (omega (arith, length-drop k es)) in
    let split : IsPartitionPoint (λ (e : Edge). stands_before e.node c.args.node ≡ true) (λ (e : Edge). stands_before e.node c.args.node ≡ false) es k =
    IsPartitionPoint-from_clause (λ (e : Edge). stands_before e.node c.args.node) es k c.partition_point-first.ensures.partitioned
    (before_parted es c.args.node c.requires) (λ a r f k. search rules) in
    subst (λ es. All (λ (e : Edge). stands_before e.node c.args.node ≡ false) es) (sym all)
    (drop_all (λ e. stands_before e.node c.args.node ≡ false) es k split.1)
