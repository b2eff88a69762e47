use Rattle.sisal_top.proofs.lines.write_argument.Goals as goal

pub returns-in-Entry-clause-takes : goal.returns-in-Entry-clause-takes
returns-in-Entry-clause-takes g c = rw c.in-Entry.is c.write_words.ensures.takes

pub returns-in-Count-clause-takes : goal.returns-in-Count-clause-takes
returns-in-Count-clause-takes g c = rw c.in-Count.is c.write_placed.ensures.takes
