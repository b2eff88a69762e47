use Rattle.if1_graph.specs.Places.{is_in_quotes}
use Rattle.if1_graph.proofs.Splitting.{counted, counted_within}
use Rattle.if1_graph.proofs.line_part.bytes_in_quotes.Goals as goal

pub returns-clause-value : goal.returns-clause-value
returns-clause-value c = counted is_in_quotes c.args.line.now c.args.from c.quoted_bytes.result c.quoted_bytes.ensures

pub returns-clause-within : goal.returns-clause-within
returns-clause-within c = counted_within is_in_quotes c.args.line.now c.args.from c.quoted_bytes.result c.requires c.quoted_bytes.ensures
