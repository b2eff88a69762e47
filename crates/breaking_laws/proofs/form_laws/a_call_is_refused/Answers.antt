use Rattle.breaking_laws.proofs.FCalls.{refused_call_breaks}
use Rattle.breaking_laws.proofs.form_laws.a_call_is_refused.Goals as goal

pub returns : goal.returns
returns c = refused_call_breaks
