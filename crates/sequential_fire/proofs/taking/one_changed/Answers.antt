use Rattle.sequential_fire.proofs.TakeSteps.{one-fired}
use Rattle.sequential_fire.proofs.taking.one_changed.Goals as goal

pub returns : goal.returns
returns c = one-fired c.args.row c.args.shape c.in_ok-cell.cell c.args.loaded.now.items c.requires.long c.cell_out-first.result c.cell_out-first.ensures.value c.in_ok-cell.ensures
