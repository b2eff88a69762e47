use Rattle.std.proofs.Common.{decimal}
use Rattle.sisal_top.specs.Lines.{numbered_line}
use Rattle.sisal_top.proofs.Writes.{takes_then}
use Rattle.sisal_top.proofs.lines.write_place.Goals as goal

pub returns-clause-takes : goal.returns-clause-takes
returns-clause-takes g c =
    let taken = g.E.Sink.taken in
    takes_then c.write_numbered.result (taken c.args.err.now) (taken c.write_digits.new.err) (taken c.write_numbered.new.err) (decimal c.args.number) (numbered_line c.args.between.now c.args.place) c.in_ok-write_digits.ensures.takes c.write_numbered.ensures.takes
