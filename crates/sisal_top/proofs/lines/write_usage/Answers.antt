use Rattle.sisal_top.proofs.lines.write_usage.Goals as goal

pub returns-in-Unknown-clause-takes : goal.returns-in-Unknown-clause-takes
returns-in-Unknown-clause-takes g c = rw c.in-Unknown.is c.write_numbered.ensures.takes

pub returns-in-Repeated-clause-takes : goal.returns-in-Repeated-clause-takes
returns-in-Repeated-clause-takes g c = rw c.in-Repeated.is c.write_numbered-in-Repeated.ensures.takes

pub returns-in-NotANumber-clause-takes : goal.returns-in-NotANumber-clause-takes
returns-in-NotANumber-clause-takes g c = rw c.in-NotANumber.is c.write_numbered-in-NotANumber.ensures.takes

pub returns-in-OutOfRange-clause-takes : goal.returns-in-OutOfRange-clause-takes
returns-in-OutOfRange-clause-takes g c = rw c.in-OutOfRange.is c.write_numbered-in-OutOfRange.ensures.takes

pub returns-in-Missing-clause-takes : goal.returns-in-Missing-clause-takes
returns-in-Missing-clause-takes g c = rw c.in-Missing.is c.write_words.ensures.takes
