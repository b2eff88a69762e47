use Rattle.sisal_lex.proofs.Longest.{are_longest}
use Rattle.sisal_lex.proofs.laws.tokens_are_longest.Goals as goal

pub returns : goal.returns
returns c = are_longest
