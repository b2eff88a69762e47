use Rattle.sisal_top.proofs.Refusing.{checker_cause}
use Rattle.sisal_top.proofs.front.program_of.Goals as goal

pub returns-clause-program : goal.returns-clause-program
returns-clause-program c = λ bytes is. record {
  unit = c.args.unit;
  is = is;
  typed = c.in_ok-program.ensures.typed c.requires;
  types = c.in_ok-program.ensures.types;
}

pub returns-clause-fits : goal.returns-clause-fits
returns-clause-fits c = λ bytes is.
    c.programs_of_texts_fit.ensures bytes c.args.unit c.in_ok-program.program
    (record { lexed = is.lexed; spelled = is.spelled; typed = c.in_ok-program.ensures.typed c.requires; standing = c.in_ok-program.ensures.standing c.requires })
    is.shallow c.in_ok-program.ensures.types

pub returns-clause-covered : goal.returns-clause-covered
returns-clause-covered c = λ bytes is.
    c.programs_of_texts_are_covered.ensures bytes c.args.unit c.in_ok-program.program
    (record { lexed = is.lexed; spelled = is.spelled; typed = c.in_ok-program.ensures.typed c.requires; standing = c.in_ok-program.ensures.standing c.requires })

pub returns-in_err-program-clause-refused : goal.returns-in_err-program-clause-refused
returns-in_err-program-clause-refused c = checker_cause c.args.unit c.in_err-program.field-0.0 c.from_residual.result c.in_err-program.ensures.breaks c.from_residual.ensures.1
