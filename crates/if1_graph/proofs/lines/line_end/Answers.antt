use Rattle.if1_graph.proofs.Endings.{returned, not_returned, nothing_returned}
use Rattle.if1_graph.proofs.lines.line_end.Goals as goal
use Rattle.if1_graph.proofs.lines.line_end.Goals.{else-end-from-via-then-end-from+else-text-end-eq13, else-end-from-via-else-end-from}

pub returns-then-text-end-eq13-clause-line : goal.returns-then-text-end-eq13-clause-line
returns-then-text-end-eq13-clause-line c = returned c.args.text.now c.args.from c.args.end c.if-end-from.true c.requires.within c.if-text-end-eq13.true

pub returns-else-end-from-clause-line : goal.returns-else-end-from-clause-line
returns-else-end-from-clause-line c =
    elim c.else-end-from.branch [
      | else-end-from-via-then-end-from+else-text-end-eq13 w ↦ not_returned c.args.text.now c.args.from c.args.end w.if-end-from.true c.requires.within w.if-text-end-eq13.false
      | else-end-from-via-else-end-from w ↦ nothing_returned c.args.text.now c.args.from c.args.end w.if-end-from.false
    ]
