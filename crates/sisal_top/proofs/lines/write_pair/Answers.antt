use Rattle.std.proofs.Common.{decimal}
use Rattle.sisal_top.proofs.Writes.{takes_then}
use Rattle.sisal_top.proofs.lines.write_pair.Goals as goal

pub returns-clause-takes : goal.returns-clause-takes
returns-clause-takes g c =
    let taken = g.E.Sink.taken in
    takes_then c.write_digits.result (taken c.args.err.now) (taken c.write_words.new.err) (taken c.write_digits.new.err) c.args.words.now (decimal c.args.number) c.in_ok-write_words.ensures.takes c.write_digits.ensures.takes
