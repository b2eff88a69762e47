use Rattle.sisal_top.proofs.lines.write_value.Goals as goal

pub returns-in-BadSpelling-clause-takes : goal.returns-in-BadSpelling-clause-takes
returns-in-BadSpelling-clause-takes g c = rw c.in-BadSpelling.is c.write_placed.ensures.takes

pub returns-in-WrongShape-clause-takes : goal.returns-in-WrongShape-clause-takes
returns-in-WrongShape-clause-takes g c = rw c.in-WrongShape.is c.write_placed-in-WrongShape.ensures.takes

pub returns-in-TooLarge-clause-takes : goal.returns-in-TooLarge-clause-takes
returns-in-TooLarge-clause-takes g c = rw c.in-TooLarge.is c.write_placed-in-TooLarge.ensures.takes
