-- Each arm is one action.
use Rattle.sisal_expr_acts.proofs.compounds.perform_compound.Goals as goal

pub returns-in-Array : goal.returns-in-Array
returns-in-Array c = rw c.in-Array.is c.array_of.ensures

pub returns-in-Stream : goal.returns-in-Stream
returns-in-Stream c = rw c.in-Stream.is c.stream_of.ensures

pub returns-in-Record : goal.returns-in-Record
returns-in-Record c = rw c.in-Record.is c.record_of.ensures

pub returns-in-Union : goal.returns-in-Union
returns-in-Union c = rw c.in-Union.is c.union_of.ensures

pub returns-in-Let : goal.returns-in-Let
returns-in-Let c = rw c.in-Let.is c.let_in.ensures

pub returns-in-If : goal.returns-in-If
returns-in-If c = rw c.in-If.is c.if_then.ensures

pub returns-in-For : goal.returns-in-For
returns-in-For c = rw c.in-For.is c.for_loop.ensures

pub returns-in-WordName : goal.returns-in-WordName
returns-in-WordName c = rw c.in-WordName.is c.word_name.ensures

pub returns-in-AName : goal.returns-in-AName
returns-in-AName c = rw c.in-AName.is c.a_name.ensures

pub returns-in-NoName : goal.returns-in-NoName
returns-in-NoName c = rw c.in-NoName.is c.no_name.ensures

pub returns-in-NoElements : goal.returns-in-NoElements
returns-in-NoElements c = rw c.in-NoElements.is c.no_elements.ensures

pub returns-in-SomeElements : goal.returns-in-SomeElements
returns-in-SomeElements c = rw c.in-SomeElements.is c.some_elements.ensures

pub returns-in-ElseIf : goal.returns-in-ElseIf
returns-in-ElseIf c = rw c.in-ElseIf.is c.else_if.ensures

pub returns-in-Else : goal.returns-in-Else
returns-in-Else c = rw c.in-Else.is c.else_part.ensures
