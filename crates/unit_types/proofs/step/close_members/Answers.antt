use Rattle.std.proofs.Common.{sym, subst}
use Rattle.type_table.specs.Tables.{HasFew}
use Rattle.unit_types.proofs.Steps.{members_few}
use Rattle.unit_types.proofs.step.close_members.Goals as goal

pub made-requires : goal.made-requires
made-requires c = subst HasFew (sym c.members_form.ensures) (members_few c.args.members.is_union c.args.members.members c.requires)
