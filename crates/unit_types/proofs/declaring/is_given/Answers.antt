use Rattle.std.proofs.Common.{refl, sym, ap, ◌∙◌, arith}
use Rattle.std.specs.Option.{option_copied}
use Rattle.unit_types.specs.Headings.{missing, other}
use Rattle.unit_types.proofs.declaring.is_given.Goals as goal

pub returns-else-is_same-clause-broken : goal.returns-else-is_same-clause-broken
returns-else-is_same-clause-broken c = other c.args.announced.now c.in-Some.function.now (0, omega arith, refl) (sym c.function_named.ensures ∙ ap option_copied c.in-Some.is) (c.is_same.ensures.not c.if-is_same.false)

pub returns-in-None-clause-broken : goal.returns-in-None-clause-broken
returns-in-None-clause-broken c = missing c.args.announced.now (0, omega arith, refl) (sym c.function_named.ensures ∙ ap option_copied c.in-None.is)
