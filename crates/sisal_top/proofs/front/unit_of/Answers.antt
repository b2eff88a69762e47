use Rattle.sisal_top.proofs.Fronts.{is_unit}
use Rattle.sisal_top.proofs.Refusing.{lexer_cause, parser_cause}
use Rattle.sisal_top.proofs.front.unit_of.Goals as goal

pub returns-in_err-tokens-clause-refused : goal.returns-in_err-tokens-clause-refused
returns-in_err-tokens-clause-refused c = lexer_cause c.args.text.now c.in_err-tokens.field-0.0 c.from_residual.result c.requires c.in_err-tokens.ensures.fault c.from_residual.ensures.1

pub returns-in_err-unit-clause-refused : goal.returns-in_err-unit-clause-refused
returns-in_err-unit-clause-refused c =
    parser_cause c.args.text.now c.in_ok-tokens.tokens c.in_err-unit.field-0.0 c.from_residual-in_err-unit.result c.in_ok-tokens.ensures.tokens c.in_err-unit.ensures.syntax c.in_err-unit.ensures.too_deep
    c.from_residual-in_err-unit.ensures.1

pub returns-clause-unit : goal.returns-clause-unit
returns-clause-unit c =
    is_unit c.args.text.now c.in_ok-tokens.tokens c.in_ok-unit.unit c.in_ok-tokens.ensures.tokens c.in_ok-unit.ensures.same c.in_ok-unit.ensures.spelled c.in_ok-unit.ensures.shallow
