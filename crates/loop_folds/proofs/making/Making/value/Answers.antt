use Rattle.std.proofs.Common.{rules}
use Rattle.loop_folds.proofs.Limits.{array_done, stream_done}
use Rattle.loop_folds.proofs.making.Making.value.Goals as goal

pub returns-in-Array : goal.returns-in-Array
returns-in-Array c = rw c.in-Array.is (λ vs p. array_done c.args.lower c.in-Array.items vs c.array_of.result (search rules) p)

pub returns-in-Stream : goal.returns-in-Stream
returns-in-Stream c = rw c.in-Stream.is (λ vs p. stream_done c.in-Stream.items vs c.stream_of.result (search rules) p)
