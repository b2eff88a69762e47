use Rattle.std.proofs.Common.{map}
use Rattle.std.proofs.lemmas.Result.{on_ok_weaker}
use Rattle.if1_graph.specs.Spelling.{number, node_pragmas}
use Rattle.if1_graph.proofs.Written.{written_both}
use Rattle.if1_graph.proofs.write.put_lists.Goals as goal

pub returns : goal.returns
returns c =
    on_ok_weaker c.put_node_pragmas.result
    (λ e. written_both c.args.to.now c.put_numbers.new.to c.put_node_pragmas.new.to (map number c.args.assoc.now) (node_pragmas c.args.name.now c.args.before.now) c.in_ok-put_numbers.ensures e)
    c.put_node_pragmas.ensures
