use Rattle.if1_graph.specs.Places.{is_in_piece}
use Rattle.if1_graph.proofs.Splitting.{counted, counted_within}
use Rattle.if1_graph.proofs.number.bytes_in_piece.Goals as goal

pub returns-clause-value : goal.returns-clause-value
returns-clause-value c = counted is_in_piece c.args.text.now c.args.from c.piece_bytes.result c.piece_bytes.ensures

pub returns-clause-within : goal.returns-clause-within
returns-clause-within c = counted_within is_in_piece c.args.text.now c.args.from c.piece_bytes.result c.requires c.piece_bytes.ensures
