use Rattle.breaking_laws.proofs.FBodies.{body_breaks}
use Rattle.breaking_laws.proofs.form_laws.a_body_is_refused.Goals as goal

pub returns : goal.returns
returns c = body_breaks
