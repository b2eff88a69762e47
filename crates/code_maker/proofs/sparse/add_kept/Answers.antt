use Rattle.std.proofs.Common.{subst}
use Rattle.std.proofs.lemmas.Result.{on_ok_weaker}
use Rattle.gapped.specs.Spread.{spread}
use Rattle.plan_data.specs.Parts.{AreBelow}
use Rattle.code_maker.proofs.Unfilled.{items-below, sparse-as}
use Rattle.code_maker.proofs.sparse.add_kept.Goals as goal

pub add_sparse-requires-clause-below : goal.add_sparse-requires-clause-below
add_sparse-requires-clause-below c =
    let k = c.in-Some.kept in
    items-below _ k.filler k.gaps.now k.items.now c.in-Some.ensures.even (subst (AreBelow _) c.in-Some.ensures.same c.requires.below)

pub returns-in-Some : goal.returns-in-Some
returns-in-Some c =
    let a = c.args in
    let k = c.in-Some.kept in
    on_ok_weaker c.add_sparse.result
    (λ e P o lives owns told. sparse-as a.plan.now P a.draft.now c.add_sparse.new.draft o lives owns a.args.now a.first a.out a.row a.shape a.written a.counted a.width a.node c.requires.node a.ports.now (spread k.filler k.gaps.now k.items.now) c.in-Some.ensures.same (e P o lives owns) told)
    c.add_sparse.ensures
