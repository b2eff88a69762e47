use Rattle.std.proofs.Common.{◌∙◌, ◌+◌, ◌<◌, [], Some, ap, sym, drop, arith, length}
use Rattle.if1_graph.specs.Places.{added}
use Rattle.if1_graph.specs.Numbers.{numerals, pieces}
use Rattle.if1_graph.proofs.Lists.{no_piece, last_piece, one_piece}
use Rattle.if1_graph.proofs.number.add_numbers.Goals as goal

pub returns-in_default : goal.returns-in_default
returns-in_default c =
    c.loop-value.invariant.1
    ∙ no_piece c.loop-value.all c.args.text.now c.loop-value.from c.bytes_in_piece.result c.args.least c.bytes_in_piece.ensures.value (sym c.numeral.ensures ∙ c.in_default.is)

pub returns-then-end-text : goal.returns-then-end-text
returns-then-end-text c =
    c.loop-value.invariant.1
    ∙ last_piece c.loop-value.all c.args.text.now c.loop-value.from c.bytes_in_piece.result c.args.least c.in-Some.value c.bytes_in_piece.ensures.value (sym c.numeral.ensures ∙ c.in-Some.is) c.if-end-text.true
    ∙ ap Some (sym c.in_ok-add.ensures.ok)

pub loop-value-preserved : goal.loop-value-preserved
loop-value-preserved c =
    let inside : c.loop-value.from + c.bytes_in_piece.result < length c.args.text.now = omega (arith, c.bytes_in_piece.ensures.within, c.if-end-text.false) in (
      omega (arith, inside),
      c.loop-value.invariant.1
          ∙ one_piece c.loop-value.all c.args.text.now c.loop-value.from c.bytes_in_piece.result c.args.least c.in-Some.value c.bytes_in_piece.ensures.value (sym c.numeral.ensures ∙ c.in-Some.is) inside
          ∙ ap (λ got. added got (numerals c.args.least (pieces [] (drop (c.loop-value.from + c.bytes_in_piece.result + 1) c.args.text.now)))) (sym c.in_ok-add.ensures.ok),
    )
