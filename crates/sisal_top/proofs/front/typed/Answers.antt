use Rattle.std.proofs.Common.{refl}
use Rattle.sisal_top.specs.Refusals.{IsNoProgram}
use Rattle.sisal_top.proofs.Refusing.{cause_no_program}
use Rattle.sisal_top.proofs.Replies.{passed_on}
use Rattle.sisal_top.proofs.front.typed.Goals as goal

pub returns-in_err-unit-clause-refused : goal.returns-in_err-unit-clause-refused
returns-in_err-unit-clause-refused c =
    passed_on (IsNoProgram c.args.text.now) c.in_err-unit.field-0.0 c.from_residual.result (cause_no_program c.args.text.now c.in_err-unit.field-0.0 c.in_err-unit.ensures.refused) c.from_residual.ensures.1

pub returns-in_err-program-clause-refused : goal.returns-in_err-program-clause-refused
returns-in_err-program-clause-refused c =
    passed_on (IsNoProgram c.args.text.now) c.in_err-program.field-0.0 c.from_residual-in_err-program.result (c.in_err-program.ensures.refused c.args.text.now c.in_ok-unit.ensures.unit) c.from_residual-in_err-program.ensures.1

pub returns-clause-covered : goal.returns-clause-covered
returns-clause-covered c = c.in_ok-program.ensures.covered c.args.text.now c.in_ok-unit.ensures.unit

pub program_of-requires : goal.program_of-requires
program_of-requires c = let is = c.in_ok-unit.ensures.unit in c.units_of_texts_are_texts.ensures c.args.text.now c.in_ok-unit.unit.tokens c.in_ok-unit.unit is.lexed refl is.spelled
