use Rattle.std.proofs.Common.{◌++◌, ◌∷◌, [], arith, refl, sym, subst}
use Rattle.if1_order.specs.declared.walk.Mark.{Mark}
use Rattle.if1_order.specs.Walks.{Means}
use Rattle.if1_order.proofs.Walks.{goes_down, passes, around, is_feeder}
use Rattle.if1_order.proofs.walk.pass.Goals as goal

pub mark_at-requires : goal.mark_at-requires
mark_at-requires c =
    omega (arith, c.requires.walk.marks_fit, c.requires.inside c.args.feeder c.args.at (is_feeder c.args.lists.now c.args.at _ c.args.feeder c.requires.more c.requires.feeder))

pub set-requires-in-Fresh : goal.set-requires-in-Fresh
set-requires-in-Fresh c =
    omega (arith, c.requires.walk.marks_fit, c.requires.inside c.args.feeder c.args.at (is_feeder c.args.lists.now c.args.at _ c.args.feeder c.requires.more c.requires.feeder))

pub returns-in-Open : goal.returns-in-Open
returns-in-Open c =
    let fed = is_feeder c.args.lists.now c.args.at _ c.args.feeder c.requires.more c.requires.feeder in
    let inside = c.requires.inside c.args.feeder c.args.at fed in (
      inside,
      around c.args.lists.now c.args.walk.now.path c.args.at c.args.feeder c.requires.walk.path_back fed
          (subst (λ (m : Mark). Means (c.args.walk.now.path ++ c.args.at ∷ []) c.args.walk.now.order c.args.feeder m) (sym c.in-Open.ensures) (c.requires.walk.means c.args.feeder inside)).0,
    )

pub returns-in-Done : goal.returns-in-Done
returns-in-Done c =
    let fed = is_feeder c.args.lists.now c.args.at _ c.args.feeder c.requires.more c.requires.feeder in
    let inside = c.requires.inside c.args.feeder c.args.at fed in
    passes _ _ _ _ _ c.args.feeder c.requires.walk refl c.requires.more c.requires.feeder inside (sym c.in-Done.ensures) c.args.count c.requires.count refl c.set.ensures refl refl

pub returns-in_ok-add-in-Fresh : goal.returns-in_ok-add-in-Fresh
returns-in_ok-add-in-Fresh c =
    let fed = is_feeder c.args.lists.now c.args.at _ c.args.feeder c.requires.more c.requires.feeder in
    goes_down _ _ _ _ _ c.requires.walk c.requires.inside fed (sym c.in-Fresh.ensures) c.set-in-Fresh.ensures refl c.in_ok-add-in-Fresh.ensures.ok refl
