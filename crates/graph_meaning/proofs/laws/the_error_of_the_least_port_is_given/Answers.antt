use Rattle.graph_meaning.proofs.LeastPort.{least-port}
use Rattle.graph_meaning.proofs.laws.the_error_of_the_least_port_is_given.Goals as goal

pub returns : goal.returns
returns c = least-port
