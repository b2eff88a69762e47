use Rattle.std.proofs.Common.{◌∙◌, ◌++◌, length, sym, ap, subst}
use Rattle.if1_graph.specs.declared.graph.Graph.TheOpen.{Graph-F}
use Rattle.if1_graph.specs.declared.graph.Graph.TheViews.{out-Graph, out-roll-Graph}
use Rattle.if1_graph.specs.declared.graph.Graph.{Graph}
use Rattle.if1_graph.specs.declared.graph.Node.{Node}
use Rattle.take_marks.specs.Made.{AreMade}
use Rattle.mark_units.specs.Begun.{HasTaken}
use Rattle.mark_units.specs.Notes.{noted}
use Rattle.mark_units.proofs.Begins.{taken-noted}
use Rattle.mark_units.proofs.begin.begin.Goals as goal

pub returns : goal.returns
returns c =
    let g = c.args.graph in
    let r = c.with_takes-begun.result in
    let whys = c.in_ok-whys.field-0.whys in
    let t : HasTaken g whys c.in_ok-whys.field-0.befores.items r = subst (λ ws. HasTaken g ws c.in_ok-whys.field-0.befores.items r) c.as_slice.ensures c.with_takes-begun.ensures in
    let is = ap out-Graph t.graph ∙ out-roll-Graph _ in
    record {
      whys = whys;
      taken = subst (λ bs. HasTaken g whys bs r) (sym t.befores_are) t;
      fit = ap length t.befores_are ∙ c.in_ok-whys.ensures.befores;
      made = λ may ok flags. subst (AreMade g may whys) (sym t.befores_are) (c.in_ok-whys.ensures.made may ok (c.flags_at.ensures ∙ flags));
      notes = c.in_ok-add_notes.ensures
          ∙ (ap (λ es. c.args.pass.now.notes ++ noted (out-Graph r.graph).number es whys) (c.as_slice-2.ensures ∙ ap (λ (x : Graph-F Graph Node). x.edges) is)
          ∙ (ap (λ n. c.args.pass.now.notes ++ noted n t.edges whys) (ap (λ (x : Graph-F Graph Node). x.number) is)
          ∙ ap (λ ns. c.args.pass.now.notes ++ ns) (taken-noted (out-Graph g).number (out-Graph g).edges t.edges whys whys t.taken)));
      at = c.after-pass.ensures;
    }
