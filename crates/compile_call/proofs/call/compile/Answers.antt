use Rattle.compile_call.proofs.Printed.{prints}
use Rattle.compile_call.proofs.call.compile.Goals as goal

pub returns-clause-printed : goal.returns-clause-printed
returns-clause-printed c =
    prints c.args.set.now.dot c.args.set.now.why c.args.set.now.code c.args.program.now c.in_ok-marked.marked c.in_ok-text.text c.in_ok-marked.ensures.marked c.in_ok-text.ensures
