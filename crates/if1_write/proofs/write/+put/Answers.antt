use Rattle.std.proofs.lemmas.Result.{on_ok_weaker}
use Rattle.if1_write.proofs.Pieces.{body_written}
use Rattle.if1_write.proofs.write.+put.Goals as goal

pub put_body-returns : goal.put_body-returns
put_body-returns t c =
    on_ok_weaker c.put_into.result
    (λ e. body_written c.args.graph.now c.args.to.now c.put_nodes.new.to c.put_into.new.to c.as_slice-edges.result.now c.as_slice.result.now c.as_slice-edges.ensures c.as_slice.ensures c.in_ok-put_nodes.ensures e)
    c.put_into.ensures
