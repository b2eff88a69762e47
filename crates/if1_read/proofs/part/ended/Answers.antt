use Rattle.std.proofs.Common.{◌≡◌, List, map, refl, sym, ap, subst, ◌∙◌}
use Rattle.std.specs.List.Sorted.{IsStrictlyIncreasing}
use Rattle.if1_graph.specs.declared.graph.Node.{Node}
use Rattle.if1_graph.specs.Units.{label_of}
use Rattle.if1_read.specs.Known.{IsCanonical}
use Rattle.if1_read.specs.Made.{Each, lined_nodes, lined_edges}
use Rattle.if1_read.specs.Least.{earlier, least}
use Rattle.if1_read.specs.Pages.{wrong_lits}
use Rattle.if1_read.specs.Rulings.{rules_of}
use Rattle.if1_read.specs.Sheets.{marks_of, lined_lits}
use Rattle.if1_read.proofs.Filled.{graph_ends}
use Rattle.if1_read.proofs.Pagewise.{page_found}
use Rattle.if1_read.proofs.part.ended.Goals as goal

pub returns-clause-ends : goal.returns-clause-ends
returns-clause-ends c = λ clean sound.
    let k = c.args.known.now in
    let p = c.args.part in
    let ms = lined_nodes c.sort_nodes.new.nodes.items in
    let fs = lined_edges c.sort_edges.new.edges.items in
    let labels_are : c.as_slice-3.result.now ≡ map label_of c.in_ok-nodes.nodes = c.as_slice-3.ensures ∙ c.in_ok-labels.ensures ∙ ap (map label_of) c.as_slice.ensures in
    let each =
    c.in_ok-edges.ensures.each clean sound (labels_are ∙ ap (map label_of) (sym c.as_slice-2.ensures)) (subst IsStrictlyIncreasing (sym labels_are) c.in_ok-nodes.ensures.rising) in
    graph_ends k p (record { number = 0; exported = p.exported; name = p.name; fun = p.fun; nodes = c.in_ok-nodes.nodes; edges = c.in_ok-edges.edges }) ms fs
    (record {
      exported_is = refl;
      fun_is = refl;
      name_is = refl;
      rising = c.in_ok-nodes.ensures.rising;
      nodes_are = c.in_ok-nodes.ensures.all (c.in_ok-edges.ensures.clean clean);
      nodes = c.in_ok-sort_nodes.ensures.arranged;
      order = c.in_ok-sort_edges.ensures.order;
      edges = c.in_ok-sort_edges.ensures.arranged;
      literals = subst (λ (ns : List Node). Each (IsCanonical k ns) fs c.in_ok-edges.edges) c.as_slice-2.ensures each;
    })

pub returns-clause-found : goal.returns-clause-found
returns-clause-found c = λ sound.
    let k = c.args.known.now in
    let p = c.args.part in
    let fs = c.sort_edges.new.edges.items in
    let labels_are : c.as_slice-3.result.now ≡ map label_of c.in_ok-nodes.nodes = c.as_slice-3.ensures ∙ c.in_ok-labels.ensures ∙ ap (map label_of) c.as_slice.ensures in
    let found =
    c.in_ok-edges.ensures.found sound (labels_are ∙ ap (map label_of) (sym c.as_slice-2.ensures)) (subst IsStrictlyIncreasing (sym labels_are) c.in_ok-nodes.ensures.rising) in
    page_found k p.nodes.items c.sort_nodes.new.nodes.items c.in_ok-sort_nodes.ensures.same c.in_ok-sort_nodes.ensures.rising p.edges.items fs c.in_ok-sort_edges.ensures.same
    c.args.first c.in_ok-nodes.first c.in_ok-edges.first c.in_ok-nodes.ensures.found
    (found ∙ ap (λ (ns : List Node). earlier c.in_ok-nodes.first (least (wrong_lits (rules_of k) (map marks_of ns) (lined_lits fs)))) (c.as_slice-2.ensures ∙ c.in_ok-nodes.ensures.nodes))
