use Rattle.std.proofs.Common.{codes, decimal, ◌++◌, sym}
use Rattle.sisal_top.specs.Lines.{node_line}
use Rattle.sisal_top.proofs.Writes.{takes_failed, takes_then}
use Rattle.sisal_top.proofs.lines.write_marks.Goals as goal

pub returns-clause-takes : goal.returns-clause-takes
returns-clause-takes g c =
    let taken = g.E.Sink.taken in
    rw (sym c.from.ensures)
    (takes_then c.write_taker.result (taken c.args.err.now) (taken c.write_pair.new.err) (taken c.write_taker.new.err) (codes "sisal: if1 8 graph " ++ decimal c.from.result) (node_line c.args.node c.args.port c.args.reader) c.in_ok-write_pair.ensures.takes c.write_taker.ensures.takes)

pub returns-in_err-write_pair-clause-takes : goal.returns-in_err-write_pair-clause-takes
returns-in_err-write_pair-clause-takes g c =
    let taken = g.E.Sink.taken in
    rw (sym c.from.ensures)
    (takes_failed c.from_residual.result c.in_err-write_pair.field-0.0 (taken c.args.err.now) (taken c.write_pair.new.err) (codes "sisal: if1 8 graph " ++ decimal c.from.result) (node_line c.args.node c.args.port c.args.reader) c.from_residual.ensures.0 c.in_err-write_pair.ensures.takes)
