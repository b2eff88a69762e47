-- Which action each action of a topic is.
use Rattle.sisal_grammar.specs.declared.action.Action.{Action}
use Rattle.sisal_grammar.specs.declared.action.Action.TheVariants as action
use Rattle.sisal_expr_acts.specs.declared.exprs.ExprAct.{ExprAct}
use Rattle.sisal_expr_acts.specs.declared.exprs.ExprAct.TheVariants as expr
use Rattle.sisal_expr_acts.specs.declared.selectors.SelectorAct.{SelectorAct}
use Rattle.sisal_expr_acts.specs.declared.selectors.SelectorAct.TheVariants as selector
use Rattle.sisal_expr_acts.specs.declared.compounds.CompoundAct.{CompoundAct}
use Rattle.sisal_expr_acts.specs.declared.compounds.CompoundAct.TheVariants as compound
use Rattle.sisal_expr_acts.specs.declared.cases.CaseAct.{CaseAct}
use Rattle.sisal_expr_acts.specs.declared.cases.CaseAct.TheVariants as case

abbrev pub expr_action : ExprAct → Action
expr_action expr.Exprs = action.Exprs
expr_action expr.NoExprs = action.NoExprs
expr_action expr.MoreExprs = action.MoreExprs
expr_action expr.SameExprs = action.SameExprs
expr_action expr.Chain = action.Chain
expr_action expr.NoTail = action.NoTail
expr_action expr.MoreTail = action.MoreTail
expr_action expr.Prefix = action.Prefix
expr_action expr.SameExpr = action.SameExpr
expr_action expr.OneTail = action.OneTail
expr_action expr.NameOrCall = action.NameOrCall
expr_action expr.NoCall = action.NoCall
expr_action expr.Call = action.Call
expr_action expr.Literal = action.Literal
expr_action expr.Old = action.Old
expr_action expr.Convert = action.Convert
expr_action expr.Group = action.Group
expr_action expr.ErrorOf = action.ErrorOf
expr_action expr.Is = action.Is
expr_action expr.NoExpr = action.NoExpr
expr_action expr.SomeExpr = action.SomeExpr

abbrev pub selector_action : SelectorAct → Action
selector_action selector.Posted = action.Posted
selector_action selector.NoPosts = action.NoPosts
selector_action selector.MorePosts = action.MorePosts
selector_action selector.Bracket = action.Bracket
selector_action selector.Dot = action.Dot
selector_action selector.Replaced = action.Replaced
selector_action selector.CloseBracket = action.CloseBracket
selector_action selector.MoreBracket = action.MoreBracket
selector_action selector.ColonBracket = action.ColonBracket
selector_action selector.OneValue = action.OneValue
selector_action selector.NoValues = action.NoValues
selector_action selector.SemiValues = action.SemiValues
selector_action selector.MoreValues = action.MoreValues

abbrev pub compound_action : CompoundAct → Action
compound_action compound.Array = action.Array
compound_action compound.Stream = action.Stream
compound_action compound.Record = action.Record
compound_action compound.Union = action.Union
compound_action compound.Let = action.Let
compound_action compound.If = action.If
compound_action compound.For = action.For
compound_action compound.WordName = action.WordName
compound_action compound.AName = action.AName
compound_action compound.NoName = action.NoName
compound_action compound.NoElements = action.NoElements
compound_action compound.SomeElements = action.SomeElements
compound_action compound.ElseIf = action.ElseIf
compound_action compound.Else = action.Else

abbrev pub case_action : CaseAct → Action
case_action case.Case = action.Case
case_action case.NameSubject = action.NameSubject
case_action case.OtherSubject = action.OtherSubject
case_action case.Bound = action.Bound
case_action case.Rest = action.Rest
case_action case.NoArms = action.NoArms
case_action case.MoreArms = action.MoreArms
case_action case.OneArm = action.OneArm
case_action case.Otherwise = action.Otherwise
