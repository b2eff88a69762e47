use Rattle.breaking_laws.proofs.FParts.{results_break}
use Rattle.breaking_laws.proofs.form_laws.a_let_breaks_in_its_results.Goals as goal

pub returns : goal.returns
returns c = results_break
