use Rattle.std.proofs.Common.{◌∙◌}
use Rattle.sequential_fire.proofs.TakeSteps.{two-fired, still-second}
use Rattle.sequential_fire.proofs.taking.two_longer.Goals as goal

pub returns : goal.returns
returns c =
    let old = c.args.loaded.now.items in
    two-fired c.args.row c.args.shape c.in_ok-cell.cell old c.requires.long c.cell_out-first.result c.cell_out-second.result c.cell_out-first.ensures.value
    (c.cell_out-second.ensures.value ∙ still-second old c.cell_out-first.new.loaded.items c.cell_out-first.ensures.others) c.in_ok-cell.ensures
