use Rattle.std.proofs.Common.{◌∙◌, [], ◌++◌, sym, ap, subst}
use Rattle.if1_graph.specs.declared.graph.Unit1.{Unit1}
use Rattle.if1_graph.specs.Units.{Function, places, most_levels}
use Rattle.mark_units.specs.Notes.{AreNotes}
use Rattle.mark_units.proofs.Units.{all-next, whole-next}
use Rattle.mark_units.proofs.marked.marks_in_unit.Goals as goal

pub mark_parts-requires : goal.mark_parts-requires
mark_parts-requires c = whole-next c.args.unit c.requires.ready c.requires.normal c.as_slice.result.now (c.as_slice.ensures.value ∙ c.in_ok-flags.ensures)

pub returns-clause-unit : goal.returns-clause-unit
returns-clause-unit c =
    let u = c.args.unit in
    let r = c.in_ok-graphs.ensures u most_levels Function 0 [] c.requires.ready.formed.nesting (all-next u c.requires.ready c.requires.normal c.as_slice.result.now (c.as_slice.ensures.value ∙ c.in_ok-flags.ensures)) in
    ap (λ gs. let v : Unit1 = record { types = u.types; imports = u.imports; graphs = gs } in v) r.0

pub returns-clause-notes : goal.returns-clause-notes
returns-clause-notes c =
    let u = c.args.unit in
    let r = c.in_ok-graphs.ensures u most_levels Function 0 [] c.requires.ready.formed.nesting (all-next u c.requires.ready c.requires.normal c.as_slice.result.now (c.as_slice.ensures.value ∙ c.in_ok-flags.ensures)) in
    subst (AreNotes u (places u)) (sym (r.1.notes ∙ ap (λ ns. ns ++ r.1.added) c.new.ensures)) r.1.are
