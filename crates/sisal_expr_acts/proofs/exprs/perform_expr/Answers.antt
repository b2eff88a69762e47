-- Each arm is one action.
use Rattle.sisal_expr_acts.proofs.exprs.perform_expr.Goals as goal

pub returns-in-Exprs : goal.returns-in-Exprs
returns-in-Exprs c = rw c.in-Exprs.is c.expressions.ensures

pub returns-in-NoExprs : goal.returns-in-NoExprs
returns-in-NoExprs c = rw c.in-NoExprs.is c.no_exprs.ensures

pub returns-in-MoreExprs : goal.returns-in-MoreExprs
returns-in-MoreExprs c = rw c.in-MoreExprs.is c.more_exprs.ensures

pub returns-in-SameExprs : goal.returns-in-SameExprs
returns-in-SameExprs c = rw c.in-SameExprs.is c.same_exprs.ensures

pub returns-in-Chain : goal.returns-in-Chain
returns-in-Chain c = rw c.in-Chain.is c.chain.ensures

pub returns-in-NoTail : goal.returns-in-NoTail
returns-in-NoTail c = rw c.in-NoTail.is c.no_tail.ensures

pub returns-in-MoreTail : goal.returns-in-MoreTail
returns-in-MoreTail c = rw c.in-MoreTail.is c.more_tail.ensures

pub returns-in-Prefix : goal.returns-in-Prefix
returns-in-Prefix c = rw c.in-Prefix.is c.prefix.ensures

pub returns-in-SameExpr : goal.returns-in-SameExpr
returns-in-SameExpr c = rw c.in-SameExpr.is c.same_expr.ensures

pub returns-in-OneTail : goal.returns-in-OneTail
returns-in-OneTail c = rw c.in-OneTail.is c.one_tail.ensures

pub returns-in-NameOrCall : goal.returns-in-NameOrCall
returns-in-NameOrCall c = rw c.in-NameOrCall.is c.name_or_call.ensures

pub returns-in-NoCall : goal.returns-in-NoCall
returns-in-NoCall c = rw c.in-NoCall.is c.no_call.ensures

pub returns-in-Call : goal.returns-in-Call
returns-in-Call c = rw c.in-Call.is c.call.ensures

pub returns-in-Literal : goal.returns-in-Literal
returns-in-Literal c = rw c.in-Literal.is c.literal.ensures

pub returns-in-Old : goal.returns-in-Old
returns-in-Old c = rw c.in-Old.is c.old_name.ensures

pub returns-in-Convert : goal.returns-in-Convert
returns-in-Convert c = rw c.in-Convert.is c.convert.ensures

pub returns-in-Group : goal.returns-in-Group
returns-in-Group c = rw c.in-Group.is c.grouped.ensures

pub returns-in-ErrorOf : goal.returns-in-ErrorOf
returns-in-ErrorOf c = rw c.in-ErrorOf.is c.error_of.ensures

pub returns-in-Is : goal.returns-in-Is
returns-in-Is c = rw c.in-Is.is c.is_of.ensures

pub returns-in-NoExpr : goal.returns-in-NoExpr
returns-in-NoExpr c = rw c.in-NoExpr.is c.no_expr.ensures

pub returns-in-SomeExpr : goal.returns-in-SomeExpr
returns-in-SomeExpr c = rw c.in-SomeExpr.is c.some_expr.ensures
