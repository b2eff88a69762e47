use Rattle.std.proofs.Common.{not, ap, ◌∙◌}
use Rattle.type_rules.proofs.Chosen.{free_lookup}
use Rattle.type_rules.proofs.arms.is_free.Goals as goal

pub returns : goal.returns
returns c = ap not c.contains_key.ensures ∙ free_lookup c.args.arms.now.entries c.args.tag
