use Rattle.sisal_top.proofs.lines.write_line.Goals as goal

pub returns-in-Typing-clause-takes : goal.returns-in-Typing-clause-takes
returns-in-Typing-clause-takes g c = rw c.in-Typing.is c.write_typing.ensures.takes

pub returns-in-Argument-clause-takes : goal.returns-in-Argument-clause-takes
returns-in-Argument-clause-takes g c = rw c.in-Argument.is c.write_argument.ensures.takes

pub returns-in-ReadFault-clause-takes : goal.returns-in-ReadFault-clause-takes
returns-in-ReadFault-clause-takes g c = rw c.in-ReadFault.is c.write_words.ensures.takes

pub returns-in-WriteFault-clause-takes : goal.returns-in-WriteFault-clause-takes
returns-in-WriteFault-clause-takes g c = rw c.in-WriteFault.is c.write_words-in-WriteFault.ensures.takes

pub returns-in-NoMemory-clause-takes : goal.returns-in-NoMemory-clause-takes
returns-in-NoMemory-clause-takes g c = rw c.in-NoMemory.is c.write_words-in-NoMemory.ensures.takes

pub returns-in-TurnLimit-clause-takes : goal.returns-in-TurnLimit-clause-takes
returns-in-TurnLimit-clause-takes g c = rw c.in-TurnLimit.is c.write_words-in-TurnLimit.ensures.takes

pub returns-in-TooLong-clause-takes : goal.returns-in-TooLong-clause-takes
returns-in-TooLong-clause-takes g c = rw c.in-TooLong.is c.write_words-in-TooLong.ensures.takes

pub returns-in-Later-clause-takes : goal.returns-in-Later-clause-takes
returns-in-Later-clause-takes g c = rw c.in-Later.is c.write_words-in-Later.ensures.takes

pub returns-in-Done-clause-takes : goal.returns-in-Done-clause-takes
returns-in-Done-clause-takes g c = rw c.in-Done.is c.write_words-in-Done.ensures.takes
