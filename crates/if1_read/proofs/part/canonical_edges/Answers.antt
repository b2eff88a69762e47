use Rattle.std.proofs.Common.{◌∷◌, ◌++◌, [], List, sym, subst}
use Rattle.std.proofs.lemmas.List.{map-append}
use Rattle.if1_graph.specs.declared.graph.Edge.{Edge}
use Rattle.if1_read.specs.Known.{IsCanonical}
use Rattle.if1_read.specs.Made.{Each, lined_edges}
use Rattle.if1_read.proofs.Edgewise.{none_judged, judged_more}
use Rattle.if1_read.proofs.Filled.{each_none, each_push}
use Rattle.if1_read.proofs.part.canonical_edges.Goals as goal

pub loop-line-init : goal.loop-line-init
loop-line-init c = record {
  clean = λ h. h;
  each = λ h sound is up. each_none (IsCanonical c.args.known.now c.args.nodes.now) c.in_ok-list.list c.in_ok-list.ensures;
  found = none_judged c.args.known.now c.args.nodes.now c.args.labels.now c.args.first;
}

pub loop-line-preserved : goal.loop-line-preserved
loop-line-preserved c =
    let R = IsCanonical c.args.known.now c.args.nodes.now in
    let e = c.in-Some.edge in
    let f = c.in_ok-edge.edge in
    let inv = c.loop-line.invariant in
    let clean = c.in_ok-edge.ensures.clean in
    record {
      clean = λ h. inv.clean (clean h);
      each = λ h sound is up.
          subst (λ (es : List Edge). Each R es c.add.new.self) (sym (map-append (λ x. x.1) c.loop-line.yielded ((c.in-Some.line, e) ∷ [])))
          (subst (Each R (lined_edges c.loop-line.yielded ++ e ∷ [])) (sym c.in_ok-add.ensures.ok)
          (each_push R (lined_edges c.loop-line.yielded) c.loop-line.list e f (inv.each (clean h) sound is up) (c.in_ok-edge.ensures.right h sound is up)));
      found = judged_more c.args.known.now c.args.nodes.now c.args.labels.now c.loop-line.yielded c.in-Some.line e c.args.first c.loop-line.first c.in_ok-edge.named inv.found c.in_ok-edge.ensures.found;
    }
