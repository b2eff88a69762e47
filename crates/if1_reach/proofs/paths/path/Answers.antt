use Rattle.std.proofs.Common.{subst, sym, ap, ◌∙◌}
use Rattle.if1_graph.specs.Units.{label_of}
use Rattle.std.proofs.Common.{map}
use Rattle.if1_reach.specs.Nets.{AreLinked, links_in}
use Rattle.if1_reach.proofs.Labelled.{graph-path, net-at}
use Rattle.if1_reach.proofs.paths.path.Goals as goal

pub path_by-requires-clause-inside : goal.path_by-requires-clause-inside
path_by-requires-clause-inside c =
    (net-at c.args.graph.now c.in_ok-labels.labels c.as_slice-2.result.now c.as_slice-3.result.now c.in_ok-lists.lists.items c.as_slice-4.result.now
    c.as_slice-2.ensures c.as_slice-3.ensures c.as_slice-4.ensures.value c.in_ok-lists.ensures).inside

pub returns : goal.returns
returns c =
    graph-path c.args.graph.now c.requires.rising c.in_ok-found.found c.args.from c.args.to
    (c.in_ok-found.ensures (links_in c.args.graph.now)
    (net-at c.args.graph.now c.in_ok-labels.labels c.as_slice-2.result.now c.as_slice-3.result.now c.in_ok-lists.lists.items c.as_slice-4.result.now
    c.as_slice-2.ensures c.as_slice-3.ensures c.as_slice-4.ensures.value c.in_ok-lists.ensures)
    (subst (λ ls. AreLinked ls (links_in c.args.graph.now)) (sym (ap (map label_of) c.as_slice.ensures) ∙ (sym c.in_ok-labels.ensures ∙ sym c.as_slice-3.ensures)) c.requires.linked))
