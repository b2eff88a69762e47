use Rattle.sisal_top.specs.Lines.{line_of}
use Rattle.sisal_top.proofs.Writes.{takes_prefix}
use Rattle.sisal_top.proofs.lines.report.Goals as goal

pub returns-clause-prefix : goal.returns-clause-prefix
returns-clause-prefix g c =
    let taken = g.E.Sink.taken in
    takes_prefix c.write_line.result (taken c.args.err.now) (taken c.write_line.new.err) (line_of c.args.status) c.write_line.ensures.takes
