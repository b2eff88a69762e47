use Rattle.std.proofs.Common.{List, [], ◌∷◌, None, sym, ◌∙◌, subst}
use Rattle.atomic_table.specs.Table.{opening}
use Rattle.fire_lock.specs.declared.view.Place.{Place}
use Rattle.fire_lock.specs.Rules.{first, Kept}
use Rattle.fire_lock.proofs.Opens.{opens_it}
use Rattle.fire_lock.proofs.lock.FireLock.new.Goals as goal

pub new-requires : goal.new-requires
new-requires g c = let e = c.in_ok-slots.ensures in
    subst (λ (slots : List (Place g.row.M.Denot g.row.M-Event.Denot g.row.M-Reply.Denot)). Kept g.M.Machine.starts g.M.Machine.plays c.args.passes c.of.result.value (opening (0 ∷ 0 ∷ 0 ∷ 0 ∷ 0 ∷ []) slots (first c.args.passes c.of.result.value)))
    (sym e.slot)
    (opens_it g.M.Machine.starts g.M.Machine.plays c.args.passes c.of.result.value (record { machine = c.args.machine; played = None }) (sym c.of.ensures) (subst g.M.Machine.starts (sym c.of.ensures) c.requires.starts) c.requires.some)

pub machine_of-requires : goal.machine_of-requires
machine_of-requires g c = record { one = (record { machine = c.args.machine; played = None }, c.in-Err.ensures.err ∙ c.in_ok-slots.ensures.slot) }
