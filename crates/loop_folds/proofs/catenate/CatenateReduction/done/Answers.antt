use Rattle.std.proofs.Common.{rules}
use Rattle.loop_folds.proofs.Values.{catenate_done}
use Rattle.loop_folds.proofs.catenate.CatenateReduction.done.Goals as goal

pub returns : goal.returns
returns c = λ xs p. catenate_done c.args.self _ xs (search rules) p
