use Rattle.std.proofs.Common.{None, Some, sym, ap, ◌∙◌}
use Rattle.std.proofs.lemmas.Result.{IfOk-weaker}
use Rattle.if1_graph.specs.Kinds.{kind_at}
use Rattle.if1_types.specs.declared.lines.Line.TheVariants.{Field, Tag, Tuple}
use Rattle.if1_types.specs.Shapes.{trees_in}
use Rattle.if1_types.specs.Finds.{part_of, list_of}
use Rattle.if1_types.specs.Steps.{IsOver, IsMember, IsStep}
use Rattle.if1_types.proofs.Stepped.{array_step, stream_step, record_step, union_step, field_step, tag_step, tuple_step}
use Rattle.if1_types.proofs.step.part_by.Goals as goal

pub returns-in-Some-Array-clause-part : goal.returns-in-Some-Array-clause-part
returns-in-Some-Array-clause-part c =
    IfOk-weaker c.over_type.result (IsOver c.args.shapes.now c.over_type.new.shapes 4 (part_of None c.args.types.now c.args.found.now.parts c.args.entry.now.first))
    (IsStep c.args.shapes.now c.over_type.new.shapes c.args.types.now c.args.found.now c.args.entry.now (kind_at c.args.entry.now.code))
    (λ y. array_step c.args.shapes.now c.over_type.new.shapes c.args.types.now c.args.found.now c.args.entry.now y c.requires.right (sym c.kind_of.ensures ∙ c.in-Some-Array.is ∙ ap Some c.in-Some-Array.field-0-is))
    c.over_type.ensures.part

pub returns-in-Some-Stream-clause-part : goal.returns-in-Some-Stream-clause-part
returns-in-Some-Stream-clause-part c =
    IfOk-weaker c.over_type-in-Some-Stream.result (IsOver c.args.shapes.now c.over_type-in-Some-Stream.new.shapes 5 (part_of None c.args.types.now c.args.found.now.parts c.args.entry.now.first))
    (IsStep c.args.shapes.now c.over_type-in-Some-Stream.new.shapes c.args.types.now c.args.found.now c.args.entry.now (kind_at c.args.entry.now.code))
    (λ y. stream_step c.args.shapes.now c.over_type-in-Some-Stream.new.shapes c.args.types.now c.args.found.now c.args.entry.now y c.requires.right (sym c.kind_of.ensures ∙ c.in-Some-Stream.is ∙ ap Some c.in-Some-Stream.field-0-is))
    c.over_type-in-Some-Stream.ensures.part

pub returns-in-Some-Record-clause-part : goal.returns-in-Some-Record-clause-part
returns-in-Some-Record-clause-part c =
    IfOk-weaker c.over_list.result (IsOver c.args.shapes.now c.over_list.new.shapes 6 (list_of (trees_in c.args.shapes.now) Field c.args.types.now c.args.found.now c.args.entry.now.first))
    (IsStep c.args.shapes.now c.over_list.new.shapes c.args.types.now c.args.found.now c.args.entry.now (kind_at c.args.entry.now.code))
    (λ y. record_step c.args.shapes.now c.over_list.new.shapes c.args.types.now c.args.found.now c.args.entry.now y c.requires.right (sym c.kind_of.ensures ∙ c.in-Some-Record.is ∙ ap Some c.in-Some-Record.field-0-is))
    c.over_list.ensures.part

pub returns-in-Some-Union-clause-part : goal.returns-in-Some-Union-clause-part
returns-in-Some-Union-clause-part c =
    IfOk-weaker c.over_list-in-Some-Union.result (IsOver c.args.shapes.now c.over_list-in-Some-Union.new.shapes 7 (list_of (trees_in c.args.shapes.now) Tag c.args.types.now c.args.found.now c.args.entry.now.first))
    (IsStep c.args.shapes.now c.over_list-in-Some-Union.new.shapes c.args.types.now c.args.found.now c.args.entry.now (kind_at c.args.entry.now.code))
    (λ y. union_step c.args.shapes.now c.over_list-in-Some-Union.new.shapes c.args.types.now c.args.found.now c.args.entry.now y c.requires.right (sym c.kind_of.ensures ∙ c.in-Some-Union.is ∙ ap Some c.in-Some-Union.field-0-is))
    c.over_list-in-Some-Union.ensures.part

pub returns-in-Some-Field-clause-part : goal.returns-in-Some-Field-clause-part
returns-in-Some-Field-clause-part c =
    IfOk-weaker c.list_from.result (IsMember c.args.shapes.now c.list_from.new.shapes (part_of None c.args.types.now c.args.found.now.parts c.args.entry.now.first) (list_of (trees_in c.args.shapes.now) Field c.args.types.now c.args.found.now c.args.entry.now.second))
    (IsStep c.args.shapes.now c.list_from.new.shapes c.args.types.now c.args.found.now c.args.entry.now (kind_at c.args.entry.now.code))
    (λ y. field_step c.args.shapes.now c.list_from.new.shapes c.args.types.now c.args.found.now c.args.entry.now y c.requires.right (sym c.kind_of.ensures ∙ c.in-Some-Field.is ∙ ap Some c.in-Some-Field.field-0-is))
    c.list_from.ensures.part

pub returns-in-Some-Tag-clause-part : goal.returns-in-Some-Tag-clause-part
returns-in-Some-Tag-clause-part c =
    IfOk-weaker c.list_from-in-Some-Tag.result (IsMember c.args.shapes.now c.list_from-in-Some-Tag.new.shapes (part_of None c.args.types.now c.args.found.now.parts c.args.entry.now.first) (list_of (trees_in c.args.shapes.now) Tag c.args.types.now c.args.found.now c.args.entry.now.second))
    (IsStep c.args.shapes.now c.list_from-in-Some-Tag.new.shapes c.args.types.now c.args.found.now c.args.entry.now (kind_at c.args.entry.now.code))
    (λ y. tag_step c.args.shapes.now c.list_from-in-Some-Tag.new.shapes c.args.types.now c.args.found.now c.args.entry.now y c.requires.right (sym c.kind_of.ensures ∙ c.in-Some-Tag.is ∙ ap Some c.in-Some-Tag.field-0-is))
    c.list_from-in-Some-Tag.ensures.part

pub returns-in-Some-Tuple-clause-part : goal.returns-in-Some-Tuple-clause-part
returns-in-Some-Tuple-clause-part c =
    IfOk-weaker c.list_from-in-Some-Tuple.result (IsMember c.args.shapes.now c.list_from-in-Some-Tuple.new.shapes (part_of None c.args.types.now c.args.found.now.parts c.args.entry.now.first) (list_of (trees_in c.args.shapes.now) Tuple c.args.types.now c.args.found.now c.args.entry.now.second))
    (IsStep c.args.shapes.now c.list_from-in-Some-Tuple.new.shapes c.args.types.now c.args.found.now c.args.entry.now (kind_at c.args.entry.now.code))
    (λ y. tuple_step c.args.shapes.now c.list_from-in-Some-Tuple.new.shapes c.args.types.now c.args.found.now c.args.entry.now y c.requires.right (sym c.kind_of.ensures ∙ c.in-Some-Tuple.is ∙ ap Some c.in-Some-Tuple.field-0-is))
    c.list_from-in-Some-Tuple.ensures.part
