use Rattle.std.proofs.Common.{rules, ◌≡◌, take, drop, ap}
use Rattle.meaning.specs.Timed.{plus}
use Rattle.meaning.specs.Words.{goes_on, test_of}
use Rattle.source_meaning.specs.Pending.{rest, tested}
use Rattle.meaning.specs.declared.words.Test.TheVariants as test
use Rattle.source_meaning.proofs.Laws.{moves_same, passes_back}
use Rattle.source_meaning.proofs.loops.end_turn.Goals as goal

pub returns-in_ok-going-in-Yes-clause-limit : goal.returns-in_ok-going-in-Yes-clause-limit
returns-in_ok-going-in-Yes-clause-limit c = λ g p.
    let r = c.args.round in
    let names = c.args.state.now.names in
    let says : goes_on r.parts.form.now.is_until (test_of c.args.values) ≡ test.Yes = search rules in
    passes_back c.args.limit _ _
    (moves_same _ _ (λ n. ap (λ x. plus c.args.state.now.steps (tested n p r.parts (rest n p c.args.state.now.frames.items) (take r.mark names) r.clauses.items (drop r.mark names) x)) says))
    (c.in_ok-going-in-Yes.ensures.limit g p)

pub returns-in_ok-going-in-No-clause-limit : goal.returns-in_ok-going-in-No-clause-limit
returns-in_ok-going-in-No-clause-limit c = λ g p.
    let r = c.args.round in
    let names = c.args.state.now.names in
    let says : goes_on r.parts.form.now.is_until (test_of c.args.values) ≡ test.No = search rules in
    passes_back c.args.limit _ _
    (moves_same _ _ (λ n. ap (λ x. plus c.args.state.now.steps (tested n p r.parts (rest n p c.args.state.now.frames.items) (take r.mark names) r.clauses.items (drop r.mark names) x)) says))
    (c.in_ok-going-in-No.ensures.limit g p)
