use Rattle.std.proofs.Common.{◌∙◌, []}
use Rattle.std.proofs.lemmas.List.{get_or_default}
use Rattle.if1_reach.proofs.users.list_at.Goals as goal

pub returns : goal.returns
returns c = c.as_slice.ensures ∙ (c.index-lists-group.is ∙ get_or_default c.args.lists.now c.args.group c.index-lists-group.result [] c.requires)
