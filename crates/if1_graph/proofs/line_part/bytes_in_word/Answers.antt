use Rattle.if1_graph.specs.Places.{is_in_word}
use Rattle.if1_graph.proofs.Splitting.{counted, counted_within}
use Rattle.if1_graph.proofs.line_part.bytes_in_word.Goals as goal

pub returns-clause-value : goal.returns-clause-value
returns-clause-value c = counted is_in_word c.args.line.now c.args.from c.word_bytes.result c.word_bytes.ensures

pub returns-clause-within : goal.returns-clause-within
returns-clause-within c = counted_within is_in_word c.args.line.now c.args.from c.word_bytes.result c.requires c.word_bytes.ensures
