use Rattle.std.proofs.Common.{◌<◌, length, All, subst, sym}
use Rattle.plan_builder.proofs.Standing.{all-inside}
use Rattle.plan_builder.proofs.outlets.outlets_of.Goals as goal

pub starts_of-requires : goal.starts_of-requires
starts_of-requires c =
    subst (λ ws. All (λ k. k < length ws) c.as_slice-2.result.now) (sym c.as_slice.ensures)
    (subst (λ os. All (λ k. k < length c.args.widths) os) (sym c.as_slice-2.ensures) (all-inside c.args.order (length c.args.labels) (length c.args.widths) c.requires.long (λ k h. (c.requires.inside k).0 h)))
