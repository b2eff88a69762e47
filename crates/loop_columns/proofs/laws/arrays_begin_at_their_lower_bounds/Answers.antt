use Rattle.loop_columns.proofs.Bounds.{lower-bounds}
use Rattle.loop_columns.proofs.laws.arrays_begin_at_their_lower_bounds.Goals as goal

pub returns : goal.returns
returns c = lower-bounds
