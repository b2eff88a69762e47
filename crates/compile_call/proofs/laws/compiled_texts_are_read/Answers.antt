use Rattle.std.proofs.Common.{ℕ, List, subst, sym}
use Rattle.if1_graph.specs.Reads.{ReadsIf1}
use Rattle.marks_made.specs.Units.{marks_of}
use Rattle.compile_call.proofs.laws.compiled_texts_are_read.Goals as goal

pub returns : goal.returns
returns c = λ p t a.
    subst (λ (bytes : List ℕ). ReadsIf1 bytes (marks_of a.unit)) (sym a.is) (c.written_is_read.ensures (marks_of a.unit) a.has.ready a.has.normal)
