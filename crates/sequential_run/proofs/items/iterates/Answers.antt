use Rattle.std.proofs.Common.{◌-◌, length, subst}
use Rattle.sequential_run.specs.Ready.{IsReady}
use Rattle.sequential_run.proofs.items.iterates.Goals as goal

pub each_places-places-requires : goal.each_places-places-requires
each_places-places-requires g c =
    let x = subst (IsReady c.args.code.now (length c.args.machine.now.cells.items - c.args.machine.now.base)) c.in-Each.is c.requires.ready in
    record { listed = x.0.listed_there; inside = x.0.inside }
