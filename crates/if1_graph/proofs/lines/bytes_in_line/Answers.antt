use Rattle.if1_graph.specs.TextLines.{is_in_line}
use Rattle.if1_graph.proofs.Splitting.{counted, counted_within}
use Rattle.if1_graph.proofs.lines.bytes_in_line.Goals as goal

pub returns-clause-value : goal.returns-clause-value
returns-clause-value c = counted is_in_line c.args.text.now c.args.from c.line_bytes.result c.line_bytes.ensures

pub returns-clause-within : goal.returns-clause-within
returns-clause-within c = counted_within is_in_line c.args.text.now c.args.from c.line_bytes.result c.requires c.line_bytes.ensures
