use Rattle.graph_examples.proofs.CompoundErrorExamples.{calls-passing}
use Rattle.graph_examples.proofs.errors.calls_pass_errors.Goals as goal

pub returns : goal.returns
returns c = calls-passing
