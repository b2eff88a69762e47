use Rattle.std.proofs.Common.{◌≡◌, [], Some, None, slice_get, sym, ap}
use Rattle.meaning.specs.Timed.{plus}
use Rattle.source_meaning.specs.Pending.{Program, rest}
use Rattle.source_meaning.proofs.Laws.{given_then, moves_same, moves_on, passes_back}
use Rattle.source_meaning.proofs.Rests.{entered_as}
use Rattle.source_meaning.proofs.finish.enter.Goals as goal

pub returns-in_ok-going-in-Some-clause-moves : goal.returns-in_ok-going-in-Some-clause-moves
returns-in_ok-going-in-Some-clause-moves c = λ g.
    let p : Program = c.args.program.now in
    let e : slice_get p c.args.number ≡ Some c.in-Some.function.now = sym c.in-Some.ensures in
    moves_on _ _ _ (entered_as p c.args.number c.args.state.now.steps (Some c.in-Some.function.now) c.args.state.now.frames.items c.args.state.now.names c.args.values e)
    (moves_same _ _ (λ n. c.in_ok-going-in-Some.ensures.same g n p))

pub returns-in_ok-going-in-Some-clause-limit : goal.returns-in_ok-going-in-Some-clause-limit
returns-in_ok-going-in-Some-clause-limit c = λ g.
    let p : Program = c.args.program.now in
    let e : slice_get p c.args.number ≡ Some c.in-Some.function.now = sym c.in-Some.ensures in
    passes_back c.args.limit _ _ (entered_as p c.args.number c.args.state.now.steps (Some c.in-Some.function.now) c.args.state.now.frames.items c.args.state.now.names c.args.values e)
    (c.in_ok-going-in-Some.ensures.limit g p)

pub returns-in-None-clause-moves : goal.returns-in-None-clause-moves
returns-in-None-clause-moves c = λ g.
    let p : Program = c.args.program.now in
    let e : slice_get p c.args.number ≡ None = sym c.in-None.ensures in
    moves_on _ _ _ (entered_as p c.args.number c.args.state.now.steps None c.args.state.now.frames.items c.args.state.now.names c.args.values e)
    (moves_same _ _ (λ n. ap (plus c.args.state.now.steps) (given_then [] (rest n p c.args.state.now.frames.items c.args.state.now.names))))
