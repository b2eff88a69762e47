use Rattle.breaking_laws.proofs.FFinish.{refused_breaks}
use Rattle.breaking_laws.proofs.form_laws.a_form_is_refused.Goals as goal

pub returns : goal.returns
returns c = refused_breaks
