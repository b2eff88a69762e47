use Rattle.std.proofs.Common.{◌∙◌, All, sym, ap, subst}
use Rattle.if1_graph.specs.Normal.{IsNormal}
use Rattle.if1_graph.specs.Ready.{IsReady}
use Rattle.if1_graph.specs.Units.{places}
use Rattle.if1_marks.specs.Sound.{IsSound}
use Rattle.if1_marks.specs.Unmarked.{unmarked_unit}
use Rattle.marks_made.specs.Units.{is_candidate, marks_of}
use Rattle.marks_made.specs.Laws.{IsMaximal}
use Rattle.marks_made.proofs.Units.{units-marked}
use Rattle.mark_units.proofs.ReadyMarks.{marks-ready}
use Rattle.mark_units.proofs.marked.mark.Goals as goal

pub marks_in_unit-requires-clause-normal : goal.marks_in_unit-requires-clause-normal
marks_in_unit-requires-clause-normal c = subst IsNormal (sym c.into_parts-unit.ensures.unit) c.into_parts-unit.ensures.normal

pub of-requires-clause-ready : goal.of-requires-clause-ready
of-requires-clause-ready c =
    let u = c.args.ready in
    let e = c.in_ok-unit.ensures.unit ∙ ap marks_of c.into_parts-unit.ensures.unit in
    subst IsReady (sym e) (marks-ready u c.into_parts-unit.ensures.ready c.into_parts-unit.ensures.normal).0

pub of-requires-clause-normal : goal.of-requires-clause-normal
of-requires-clause-normal c =
    let u = c.args.ready in
    let e = c.in_ok-unit.ensures.unit ∙ ap marks_of c.into_parts-unit.ensures.unit in
    subst IsNormal (sym e) (marks-ready u c.into_parts-unit.ensures.ready c.into_parts-unit.ensures.normal).1

pub of-sound-requires : goal.of-sound-requires
of-sound-requires c =
    let u = c.args.ready in
    let e = c.of.ensures ∙ (c.in_ok-unit.ensures.unit ∙ ap marks_of c.into_parts-unit.ensures.unit) in
    subst IsSound (sym e) (units-marked u c.into_parts-unit.ensures.ready).sound

pub returns-clause-maximal : goal.returns-clause-maximal
returns-clause-maximal c =
    let u = c.args.ready in
    let e = c.of-sound.ensures ∙ (c.of.ensures ∙ (c.in_ok-unit.ensures.unit ∙ ap marks_of c.into_parts-unit.ensures.unit)) in
    subst (λ v. All (λ p. IsMaximal p.graph (is_candidate v p)) (places v)) (sym e) (units-marked u c.into_parts-unit.ensures.ready).maximal

pub returns-clause-alike : goal.returns-clause-alike
returns-clause-alike c =
    let u = c.args.ready in
    let e = c.of-sound.ensures ∙ (c.of.ensures ∙ (c.in_ok-unit.ensures.unit ∙ ap marks_of c.into_parts-unit.ensures.unit)) in
    sym (ap unmarked_unit e ∙ (units-marked u c.into_parts-unit.ensures.ready).alike)

pub returns-clause-normal : goal.returns-clause-normal
returns-clause-normal c =
    let u = c.args.ready in
    let e = c.of-sound.ensures ∙ (c.of.ensures ∙ (c.in_ok-unit.ensures.unit ∙ ap marks_of c.into_parts-unit.ensures.unit)) in
    subst IsNormal (sym e) (marks-ready u c.into_parts-unit.ensures.ready c.into_parts-unit.ensures.normal).1
