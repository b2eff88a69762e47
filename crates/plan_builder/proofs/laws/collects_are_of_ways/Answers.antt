use Rattle.plan_builder.proofs.Collected.{collects-are}
use Rattle.plan_builder.proofs.laws.collects_are_of_ways.Goals as goal

pub returns : goal.returns
returns c = collects-are
