use Rattle.breaking_laws.proofs.FCalls.{uneven_breaks}
use Rattle.breaking_laws.proofs.form_laws.an_uneven_if_is_refused.Goals as goal

pub returns : goal.returns
returns c = uneven_breaks
