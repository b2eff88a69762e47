use Rattle.std.proofs.Common.{rules}
use Rattle.source_meaning.proofs.Laws.{moves_same}
use Rattle.source_meaning.proofs.Rests.{along, along_limit}
use Rattle.source_meaning.proofs.finish.finish.Goals as goal

pub returns-in_ok-bind-in-Bind-clause-moves : goal.returns-in_ok-bind-in-Bind-clause-moves
returns-in_ok-bind-in-Bind-clause-moves c = λ g. along c.args.program.now c.args.state.now.steps c.args.state.now.frames.items c.args.state.now.names c.args.values _ _ _ c.in-Bind.is (moves_same _ _ (λ n. c.in_ok-bind-in-Bind.ensures.same n c.args.program.now))

pub returns-in-Unbind-clause-moves : goal.returns-in-Unbind-clause-moves
returns-in-Unbind-clause-moves c = λ g. moves_same _ _ (λ n. search rules)

pub returns-in_ok-going-in-Enter-clause-moves : goal.returns-in_ok-going-in-Enter-clause-moves
returns-in_ok-going-in-Enter-clause-moves c = λ g. along c.args.program.now c.args.state.now.steps c.args.state.now.frames.items c.args.state.now.names c.args.values _ _ _ c.in-Enter.is (c.in_ok-going-in-Enter.ensures.moves g)

pub returns-in_ok-going-in-Enter-clause-limit : goal.returns-in_ok-going-in-Enter-clause-limit
returns-in_ok-going-in-Enter-clause-limit c = λ g. along_limit c.args.limit c.args.program.now c.args.state.now.steps c.args.state.now.frames.items c.args.state.now.names c.args.values _ _ c.in-Enter.is (c.in_ok-going-in-Enter.ensures.limit g)

pub returns-in-Leave-clause-moves : goal.returns-in-Leave-clause-moves
returns-in-Leave-clause-moves c = λ g. moves_same _ _ (λ n. search rules)

pub returns-in_ok-choose-in-Choose-clause-moves : goal.returns-in_ok-choose-in-Choose-clause-moves
returns-in_ok-choose-in-Choose-clause-moves c = λ g. along c.args.program.now c.args.state.now.steps c.args.state.now.frames.items c.args.state.now.names c.args.values _ _ _ c.in-Choose.is (moves_same _ _ (λ n. c.in_ok-choose-in-Choose.ensures.same n c.args.program.now))

pub returns-in_ok-pick-in-Pick-clause-moves : goal.returns-in_ok-pick-in-Pick-clause-moves
returns-in_ok-pick-in-Pick-clause-moves c = λ g. along c.args.program.now c.args.state.now.steps c.args.state.now.frames.items c.args.state.now.names c.args.values _ _ _ c.in-Pick.is (moves_same _ _ (λ n. c.in_ok-pick-in-Pick.ensures.same n c.args.program.now))

pub returns-in-Pass-clause-moves : goal.returns-in-Pass-clause-moves
returns-in-Pass-clause-moves c = λ g. moves_same _ _ (λ n. search rules)

pub returns-in_ok-going-in-Next-clause-moves : goal.returns-in_ok-going-in-Next-clause-moves
returns-in_ok-going-in-Next-clause-moves c = λ g. along c.args.program.now c.args.state.now.steps c.args.state.now.frames.items c.args.state.now.names c.args.values _ _ _ c.in-Next.is (moves_same _ _ (λ n. c.in_ok-going-in-Next.ensures.same g n c.args.program.now))

pub returns-in_ok-going-in-Next-clause-limit : goal.returns-in_ok-going-in-Next-clause-limit
returns-in_ok-going-in-Next-clause-limit c = λ g. along_limit c.args.limit c.args.program.now c.args.state.now.steps c.args.state.now.frames.items c.args.state.now.names c.args.values _ _ c.in-Next.is (c.in_ok-going-in-Next.ensures.limit g c.args.program.now)

pub returns-in_ok-begin_round-in-Start-clause-moves : goal.returns-in_ok-begin_round-in-Start-clause-moves
returns-in_ok-begin_round-in-Start-clause-moves c = λ g. along c.args.program.now c.args.state.now.steps c.args.state.now.frames.items c.args.state.now.names c.args.values _ _ _ c.in-Start.is (c.in_ok-begin_round-in-Start.ensures.moves c.args.program.now)

pub returns-in_ok-going-in-Kept-clause-moves : goal.returns-in_ok-going-in-Kept-clause-moves
returns-in_ok-going-in-Kept-clause-moves c = λ g. along c.args.program.now c.args.state.now.steps c.args.state.now.frames.items c.args.state.now.names c.args.values _ _ _ c.in-Kept.is (moves_same _ _ (λ n. c.in_ok-going-in-Kept.ensures.same g n c.args.program.now))

pub returns-in_ok-going-in-Kept-clause-limit : goal.returns-in_ok-going-in-Kept-clause-limit
returns-in_ok-going-in-Kept-clause-limit c = λ g. along_limit c.args.limit c.args.program.now c.args.state.now.steps c.args.state.now.frames.items c.args.state.now.names c.args.values _ _ c.in-Kept.is (c.in_ok-going-in-Kept.ensures.limit g c.args.program.now)

pub returns-in_ok-going-in-Tested-clause-moves : goal.returns-in_ok-going-in-Tested-clause-moves
returns-in_ok-going-in-Tested-clause-moves c = λ g. along c.args.program.now c.args.state.now.steps c.args.state.now.frames.items c.args.state.now.names c.args.values _ _ _ c.in-Tested.is (moves_same _ _ (λ n. c.in_ok-going-in-Tested.ensures.same g n c.args.program.now))

pub returns-in_ok-going-in-Tested-clause-limit : goal.returns-in_ok-going-in-Tested-clause-limit
returns-in_ok-going-in-Tested-clause-limit c = λ g. along_limit c.args.limit c.args.program.now c.args.state.now.steps c.args.state.now.frames.items c.args.state.now.names c.args.values _ _ c.in-Tested.is (c.in_ok-going-in-Tested.ensures.limit g c.args.program.now)

pub returns-in_ok-renew-in-Renew-clause-moves : goal.returns-in_ok-renew-in-Renew-clause-moves
returns-in_ok-renew-in-Renew-clause-moves c = λ g. along c.args.program.now c.args.state.now.steps c.args.state.now.frames.items c.args.state.now.names c.args.values _ _ _ c.in-Renew.is (c.in_ok-renew-in-Renew.ensures.moves c.args.program.now)
