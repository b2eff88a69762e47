use Rattle.std.proofs.Common.{subst, sym}
use Rattle.if1_components.specs.Backward.{AreTurned}
use Rattle.if1_components.proofs.Turned.{back-inside}
use Rattle.if1_components.proofs.parts.components.Goals as goal

pub toured-requires : goal.toured-requires
toured-requires c =
    back-inside c.args.lists.now c.as_slice.result.now (subst (AreTurned c.args.lists.now) (sym c.as_slice.ensures.value) c.in_ok-back.ensures)
