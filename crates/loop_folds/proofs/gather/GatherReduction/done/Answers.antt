use Rattle.std.proofs.Common.{rules}
use Rattle.loop_folds.proofs.Values.{gather_done}
use Rattle.loop_folds.proofs.gather.GatherReduction.done.Goals as goal

pub returns : goal.returns
returns c = λ xs p. gather_done c.args.self _ xs (search rules) p
