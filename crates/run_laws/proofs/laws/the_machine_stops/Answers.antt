use Rattle.run_laws.proofs.Stopping.{stopping}
use Rattle.run_laws.proofs.laws.the_machine_stops.Goals as goal

pub returns : goal.returns
returns c = stopping
