use Rattle.std.proofs.Common.{codes}
use Rattle.sisal_top.specs.Lines.{plain_line}
use Rattle.sisal_top.proofs.Writes.{takes_failed, takes_then}
use Rattle.sisal_top.proofs.lines.write_unlinked.Goals as goal

pub returns-clause-takes : goal.returns-clause-takes
returns-clause-takes g c =
    let taken = g.E.Sink.taken in
    takes_then c.write_name.result (taken c.args.err.now) (taken c.write_words.new.err) (taken c.write_name.new.err) (codes "sisal: unlinked ") (plain_line c.args.name.now) c.in_ok-write_words.ensures.takes c.write_name.ensures.takes

pub returns-in_err-write_words-clause-takes : goal.returns-in_err-write_words-clause-takes
returns-in_err-write_words-clause-takes g c =
    let taken = g.E.Sink.taken in
    takes_failed c.from_residual.result c.in_err-write_words.field-0.0 (taken c.args.err.now) (taken c.write_words.new.err) (codes "sisal: unlinked ") (plain_line c.args.name.now) c.from_residual.ensures.0 c.in_err-write_words.ensures.takes
