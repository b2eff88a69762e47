use Rattle.std.proofs.Common.{ap, ◌∙◌}
use Rattle.sisal_lex.specs.declared.token.Kind.TheVariants as kind
use Rattle.unit_types.proofs.Steps.{comma, colon}
use Rattle.unit_types.proofs.step.end_name.Goals as goal

pub returns-in-SComma-clause-leads : goal.returns-in-SComma-clause-leads
returns-in-SComma-clause-leads c = λ known t w. comma known c.args.types.now t c.args.stack.now (w ∙ ap kind.Sign c.in-SComma.is)

pub returns-in-SColon-clause-leads : goal.returns-in-SColon-clause-leads
returns-in-SColon-clause-leads c = λ known t w. colon known c.args.types.now t c.args.stack.now (w ∙ ap kind.Sign c.in-SColon.is)
