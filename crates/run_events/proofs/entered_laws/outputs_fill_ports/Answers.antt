use Rattle.run_events.proofs.Handing.{outputs-filled}
use Rattle.run_events.proofs.entered_laws.outputs_fill_ports.Goals as goal

pub returns : goal.returns
returns c = outputs-filled
