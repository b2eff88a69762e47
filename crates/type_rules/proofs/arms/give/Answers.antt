use Rattle.std.proofs.Common.{rules, ◌≡◌, true, not, None, nat_eq, sym, ◌∙◌}
use Rattle.std.specs.Option.{is_some}
use Rattle.std.specs.Map.{lookup}
use Rattle.indexmap.proofs.CallerLemmas.{insert_entry-new}
use Rattle.type_rules.specs.Arms.{is_free}
use Rattle.type_rules.proofs.Chosen.{free_lookup, no_value}
use Rattle.type_rules.proofs.arms.give.Goals as goal

pub returns-clause-arms : goal.returns-clause-arms
returns-clause-arms c =
    let old = c.args.arms.now in
    let free : is_free old.entries c.args.tag ≡ true = search rules in
    c.in_ok-insert.ensures.entries ∙ insert_entry-new nat_eq old c.args.tag c.args.arm (no_value (lookup (nat_eq c.args.tag) old.entries) (free_lookup old.entries c.args.tag ∙ free))
