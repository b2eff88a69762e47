use Rattle.if1_graph.proofs.Splitting.{word_at}
use Rattle.if1_graph.proofs.line_part.word.Goals as goal

pub returns-clause-parts : goal.returns-clause-parts
returns-clause-parts c = word_at c.args.line.now c.args.at c.bytes_in_word.result c.requires.within c.requires.not_blank c.requires.not_quote c.bytes_in_word.ensures.value
