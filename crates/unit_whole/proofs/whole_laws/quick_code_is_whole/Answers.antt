use Rattle.unit_whole.proofs.Quick.{quick-whole}
use Rattle.unit_whole.proofs.whole_laws.quick_code_is_whole.Goals as goal

pub returns : goal.returns
returns c = quick-whole
