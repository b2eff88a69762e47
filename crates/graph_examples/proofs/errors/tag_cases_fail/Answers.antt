use Rattle.graph_examples.proofs.CompoundErrorExamples.{tag-cases-failing}
use Rattle.graph_examples.proofs.errors.tag_cases_fail.Goals as goal

pub returns : goal.returns
returns c = tag-cases-failing
