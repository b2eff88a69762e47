use Rattle.std.proofs.Common.{length, ap}
use Rattle.type_rules.specs.declared.head.Head.TheVariants as head
use Rattle.sisal_check.proofs.Items.{names_spelled, as_many_fields}
use Rattle.sisal_check.proofs.heads.record_of.Goals as goal

pub returns-clause-head : goal.returns-clause-head
returns-clause-head c = record {
  named = c.in_ok-ty.ty;
  is = ap (λ l. head.Record c.in_ok-ty.ty l) c.in_ok-names.ensures.names;
  found = c.in_ok-ty.ensures.found;
  spelled = names_spelled (length c.args.given.now.spellings.now) c.args.vs.now c.requires.spelled;
}

pub returns-clause-field : goal.returns-clause-field
returns-clause-field c = (as_many_fields c.args.vs.now c.in_ok-names.names c.in_ok-names.ensures.names c.requires.some, c.in_ok-names.ensures.small)
