use Rattle.if1_graph.specs.declared.graph.Graph.TheViews.{out-Graph}
use Rattle.mark_check.specs.Takers.{taking}
use Rattle.mark_check.proofs.Blamed.{reader-found}
use Rattle.mark_check.proofs.takers.reader_at.Goals as goal

pub returns-clause-reader : goal.returns-clause-reader
returns-clause-reader c = λ u p w there may.
    reader-found u p c.args.edge.now there c.users_of-port.result.now c.users_of-taken.result.now
    (c.users_of-port.ensures (out-Graph p.graph).edges w.users_are) (c.users_of-taken.ensures (taking (out-Graph p.graph).edges) w.takers_are)
    c.args.may may c.if-not-edge.false c.reader_of.result (c.reader_of.ensures.reader p.graph w.order w.net)
