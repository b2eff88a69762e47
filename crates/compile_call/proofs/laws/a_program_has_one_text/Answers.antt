use Rattle.std.proofs.Common.{◌∙◌, ap, sym}
use Rattle.if1_graph.specs.declared.graph.Unit1.{Unit1}
use Rattle.if1_graph.specs.Lines.{if1_text}
use Rattle.marks_made.specs.Units.{marks_of}
use Rattle.compile_call.proofs.laws.a_program_has_one_text.Goals as goal

pub returns : goal.returns
returns c = λ p s t a b.
    a.is ∙ ap (λ (u : Unit1). if1_text (marks_of u)) (c.a_program_is_one_unit.ensures p a.unit b.unit a.has.translated b.has.translated) ∙ sym b.is
