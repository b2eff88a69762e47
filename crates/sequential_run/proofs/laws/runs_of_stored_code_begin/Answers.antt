use Rattle.sequential_run.proofs.Begun.{stored-begin}
use Rattle.sequential_run.proofs.laws.runs_of_stored_code_begin.Goals as goal

pub returns : goal.returns
returns c = stored-begin
