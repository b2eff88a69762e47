use Rattle.std.proofs.Common.{◌∙◌, ◌+◌, ◌<◌, ◌∷◌, ap, sym, arith, drop, length}
use Rattle.if1_graph.specs.TextLines.{lines_in}
use Rattle.if1_graph.proofs.Endings.{line_fed, line_last}
use Rattle.if1_graph.proofs.lines.next_line.Goals as goal

pub returns-then-end-text-clause-line : goal.returns-then-end-text-clause-line
returns-then-end-text-clause-line c = line_last c.args.text.now c.args.from c.bytes_in_line.result c.bytes_in_line.ensures.value c.if-from-text.false c.if-end-text.true

pub returns-clause-line : goal.returns-clause-line
returns-clause-line c =
    let inside : c.args.from + c.bytes_in_line.result < length c.args.text.now = omega (arith, c.bytes_in_line.ensures.within, c.if-end-text.false) in
    line_fed c.args.text.now c.args.from c.bytes_in_line.result c.bytes_in_line.ensures.value inside
    ∙ ap (λ s. s ∷ lines_in (drop (c.args.from + c.bytes_in_line.result + 1) c.args.text.now)) (sym c.line_end.ensures.line)
