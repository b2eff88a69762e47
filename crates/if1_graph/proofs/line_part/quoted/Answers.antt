use Rattle.std.proofs.Common.{sym, ◌∙◌}
use Rattle.if1_graph.proofs.Splitting.{quoted_closed, quoted_broken, quoted_open}
use Rattle.if1_graph.proofs.line_part.quoted.Goals as goal
use Rattle.if1_graph.proofs.line_part.quoted.Goals.{else-end-line-via-then-end-line+else-is_part_end, else-end-line-via-else-end-line}

pub returns-then-is_part_end-clause-parts : goal.returns-then-is_part_end-clause-parts
returns-then-is_part_end-clause-parts c = quoted_closed c.args.line.now c.args.at c.bytes_in_quotes.result c.requires.within c.requires.quote c.bytes_in_quotes.ensures.value c.if-end-line.true (sym c.is_part_end.ensures ∙ c.if-is_part_end.true)

pub returns-else-end-line-clause-parts : goal.returns-else-end-line-clause-parts
returns-else-end-line-clause-parts c =
    elim c.else-end-line.branch [
      | else-end-line-via-then-end-line+else-is_part_end w ↦ quoted_broken c.args.line.now c.args.at c.bytes_in_quotes.result c.requires.within c.requires.quote c.bytes_in_quotes.ensures.value w.if-end-line.true (sym w.is_part_end.ensures ∙ w.if-is_part_end.false)
      | else-end-line-via-else-end-line w ↦ quoted_open c.args.line.now c.args.at c.bytes_in_quotes.result c.requires.within c.requires.quote c.bytes_in_quotes.ensures.value w.if-end-line.false
    ]
