use Rattle.graph_meaning.proofs.PlainValues.{carried-once}
use Rattle.graph_meaning.proofs.laws.what_ports_carry_is_one.Goals as goal

pub returns : goal.returns
returns c = carried-once
