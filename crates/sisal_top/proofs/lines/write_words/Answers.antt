use Rattle.sisal_top.proofs.Writes.{takes}
use Rattle.sisal_top.proofs.lines.write_words.Goals as goal

pub returns-clause-takes : goal.returns-clause-takes
returns-clause-takes g c =
    let taken = g.E.Sink.taken in
    takes c.write_all.result (taken c.args.err.now) (taken c.write_all.new.to) c.args.words.now c.write_all.ensures.all c.write_all.ensures.prefix
