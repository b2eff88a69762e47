use Rattle.std.proofs.Common.{◌∙◌, ap, subst}
use Rattle.if1_graph.specs.declared.graph.Unit1.{Unit1}
use Rattle.node_ops.specs.Operands.{shape_of}
use Rattle.plan_nodes.specs.Tasks.{task_kind}
use Rattle.output_marks.specs.Marks.{AreTold}
use Rattle.unit_data.proofs.Known.{plain-marked}
use Rattle.unit_data.proofs.Normal.{edges-follow}
use Rattle.unit_data.proofs.nodes.marks_for.Goals as goal

pub add_marks-requires-clause-order : goal.add_marks-requires-clause-order
add_marks-requires-clause-order c = edges-follow c.args.unit.now c.unit-whole.ensures.normal c.args.graph.now c.requires.here

pub returns-in_ok-first-in-Plain-clause-told : goal.returns-in_ok-first-in-Plain-clause-told
returns-in_ok-first-in-Plain-clause-told c = λ D p n has place same inside is kind.
    plain-marked c.args.unit.now c.unit-whole.ensures.ready D c.args.graph.now c.args.label c.args.width c.in-Plain.row (shape_of c.in-Plain.field-1) c.add_marks.new.marks c.in_ok-first-in-Plain.first
    (subst (λ (v : Unit1). AreTold v c.args.graph.now c.args.label c.args.width c.in-Plain.row c.add_marks.new.marks c.in_ok-first-in-Plain.first) c.unit-whole.ensures.unit c.in_ok-first-in-Plain.ensures.told) has p place same n inside is
    (kind ∙ ap (λ t. task_kind t c.args.width) c.in-Plain.is)
