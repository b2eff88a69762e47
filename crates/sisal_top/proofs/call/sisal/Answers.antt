use Rattle.std.proofs.Common.{List, ℕ, subst, sym}
use Rattle.flow_io.specs.Bytes.{AddsOn}
use Rattle.run_words.specs.Commands.{bytes_of}
use Rattle.sisal_top.specs.Answer.{Answers}
use Rattle.sisal_top.specs.declared.status.Status.{Status}
use Rattle.sisal_top.proofs.Replies.{refusal_answered}
use Rattle.sisal_top.proofs.call.sisal.Goals as goal

pub returns-in-Err-clause-answers : goal.returns-in-Err-clause-answers
returns-in-Err-clause-answers g c = λ told is.
    let taken = g.O.Sink.taken in
    subst (λ (s : Status). Answers (bytes_of c.args.words.now) told s (taken c.args.out.now) (taken c.args.out.now)) (sym c.report.ensures.same)
    (refusal_answered (bytes_of c.args.words.now) told c.in-Err.status (taken c.args.out.now) c.in-Err.ensures.early (c.in-Err.ensures.gives told is))

pub returns-in-Ok-write_all-clause-answers : goal.returns-in-Ok-write_all-clause-answers
returns-in-Ok-write_all-clause-answers g c = λ told is.
    let taken = g.O.Sink.taken in
    let wrote : AddsOn (taken c.args.out.now) c.in-Ok.printed (taken c.write_all.new.to) =
    subst (λ (bs : List ℕ). AddsOn (taken c.args.out.now) bs (taken c.write_all.new.to)) c.as_slice.ensures c.in-Ok-write_all.ensures.all in
    subst (λ (s : Status). Answers (bytes_of c.args.words.now) told s (taken c.args.out.now) (taken c.write_all.new.to)) (sym c.report-in-Ok-write_all.ensures.same)
    (c.in-Ok.printed, c.in-Ok.ensures.gives told is, wrote)
