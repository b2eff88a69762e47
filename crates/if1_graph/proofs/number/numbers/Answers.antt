use Rattle.std.proofs.Common.{◌∙◌, ap, sym, drop}
use Rattle.if1_graph.specs.LineParts.{parts_of}
use Rattle.if1_graph.specs.Places.{behind, part_at}
use Rattle.if1_graph.specs.Reading.{numbers_first}
use Rattle.if1_graph.proofs.Lists.{numbers_more}
use Rattle.if1_graph.specs.Pragmas.{is_pragma_word}
use Rattle.if1_graph.specs.Numbers.{numeral}
use Rattle.if1_graph.proofs.number.numbers.Goals as goal

pub loop-part-preserved : goal.loop-part-preserved
loop-part-preserved c =
    let line = c.args.line.now in
    let p = part_at line c.in-Some.part in
    let ps = parts_of (drop c.in-Some.rest line) in
    c.loop-part.invariant
    ∙ ap (λ t. behind c.loop-part.all (numbers_first t)) c.in-Some.ensures.parts
    ∙ numbers_more c.loop-part.all p ps c.in-Some-numeral.value (ap is_pragma_word (sym c.word_of-word.ensures) ∙ sym c.is_pragma_word.ensures ∙ c.if-is_pragma_word.false) (ap (numeral 0) (sym c.word_of-word.ensures) ∙ sym c.in-Some-numeral.ensures)
    ∙ ap (λ got. behind got (numbers_first ps)) (sym c.in_ok-add.ensures.ok)
