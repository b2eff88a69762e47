use Rattle.std.proofs.Common.{◌∙◌, ap, map}
use Rattle.if1_graph.specs.Reading.{line_of}
use Rattle.if1_graph.proofs.Endings.{text_lines, all_read}
use Rattle.if1_graph.proofs.laws.text_is_read.Goals as goal

pub returns : goal.returns
returns c = record { lines = λ ls h. text_lines ls h; read = λ ls h. ap (map line_of) (text_lines ls h) ∙ all_read ls h }
