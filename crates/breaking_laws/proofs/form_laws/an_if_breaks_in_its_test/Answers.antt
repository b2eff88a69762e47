use Rattle.breaking_laws.proofs.FParts.{test_breaks}
use Rattle.breaking_laws.proofs.form_laws.an_if_breaks_in_its_test.Goals as goal

pub returns : goal.returns
returns c = test_breaks
