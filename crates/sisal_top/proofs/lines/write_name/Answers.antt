use Rattle.std.proofs.Common.{◌∷◌, []}
use Rattle.sisal_top.proofs.Writes.{takes_then}
use Rattle.sisal_top.proofs.lines.write_name.Goals as goal

pub returns-clause-takes : goal.returns-clause-takes
returns-clause-takes g c =
    let taken = g.E.Sink.taken in
    takes_then c.write_words-2.result (taken c.args.err.now) (taken c.write_words.new.err) (taken c.write_words-2.new.err) c.args.name.now (10 ∷ []) c.in_ok-write_words.ensures.takes c.write_words-2.ensures.takes
