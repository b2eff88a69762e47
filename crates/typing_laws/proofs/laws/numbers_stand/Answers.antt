use Rattle.typing_laws.proofs.Kept.{standing_kept}
use Rattle.typing_laws.proofs.laws.numbers_stand.Goals as goal

pub returns : goal.returns
returns c = standing_kept
