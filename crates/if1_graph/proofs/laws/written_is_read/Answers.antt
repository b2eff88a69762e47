use Rattle.if1_graph.proofs.RoundTrip.{written_reads}
use Rattle.if1_graph.proofs.laws.written_is_read.Goals as goal

pub returns : goal.returns
returns c l h = written_reads l h
