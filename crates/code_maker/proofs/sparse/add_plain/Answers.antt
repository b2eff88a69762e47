use Rattle.std.proofs.Common.{◌∷◌, [], List, map, subst}
use Rattle.std.proofs.lemmas.Result.{on_ok_weaker}
use Rattle.node_ops.specs.Operands.{shape_of}
use Rattle.run_code.specs.Made.{line}
use Rattle.run_code.specs.Steps.{Fire}
use Rattle.plan_data.specs.Settled.{setting}
use Rattle.plan_data.specs.declared.plan.Port.{Port}
use Rattle.plan_data.specs.Parts.{mode_of}
use Rattle.code_maker.specs.Grows.{Grows, IsToldOf}
use Rattle.code_maker.specs.Seats.{at_seats, seats_at}
use Rattle.code_maker.proofs.sparse.add_plain.Goals as goal

pub returns-in-Some : goal.returns-in-Some
returns-in-Some c =
    let a = c.args in
    on_ok_weaker c.add_fire.result
    (λ e P o lives owns. subst (λ (xs : List Port). IsToldOf a.plan.now P a.row a.written a.counted a.width (map mode_of xs) o
    → Grows a.plan.now P a.draft.now c.add_fire.new.draft (line o (Fire a.row (shape_of a.shape) (at_seats a.plan.now (seats_at a.args.now a.first xs)) a.out a.width) ∷ []) (setting (map mode_of xs) [] lives owns ∷ []))
    c.in-Some.ensures (e P o lives owns))
    c.add_fire.ensures
