-- Each arm is one action.
use Rattle.sisal_unit_acts.proofs.clauses.perform_clause.Goals as goal

pub returns-in-NoClauses : goal.returns-in-NoClauses
returns-in-NoClauses c = rw c.in-NoClauses.is c.no_clauses.ensures

pub returns-in-MoreClauses : goal.returns-in-MoreClauses
returns-in-MoreClauses c = rw c.in-MoreClauses.is c.more_clauses.ensures

pub returns-in-Gathered : goal.returns-in-Gathered
returns-in-Gathered c = rw c.in-Gathered.is c.gathered.ensures

pub returns-in-Valued : goal.returns-in-Valued
returns-in-Valued c = rw c.in-Valued.is c.valued.ensures

pub returns-in-NoFold : goal.returns-in-NoFold
returns-in-NoFold c = rw c.in-NoFold.is c.no_fold.ensures

pub returns-in-PlainFold : goal.returns-in-PlainFold
returns-in-PlainFold c = rw c.in-PlainFold.is c.plain_fold.ensures

pub returns-in-Directed : goal.returns-in-Directed
returns-in-Directed c = rw c.in-Directed.is c.directed.ensures

pub returns-in-Reduced : goal.returns-in-Reduced
returns-in-Reduced c = rw c.in-Reduced.is c.reduced.ensures

pub returns-in-NoMask : goal.returns-in-NoMask
returns-in-NoMask c = rw c.in-NoMask.is c.no_mask.ensures

pub returns-in-SomeMask : goal.returns-in-SomeMask
returns-in-SomeMask c = rw c.in-SomeMask.is c.some_mask.ensures
