-- Which action each action of a topic is.
use Rattle.sisal_grammar.specs.declared.action.Action.{Action}
use Rattle.sisal_grammar.specs.declared.action.Action.TheVariants as action
use Rattle.sisal_unit_acts.specs.declared.units.UnitAct.{UnitAct}
use Rattle.sisal_unit_acts.specs.declared.units.UnitAct.TheVariants as unit
use Rattle.sisal_unit_acts.specs.declared.types.TypeAct.{TypeAct}
use Rattle.sisal_unit_acts.specs.declared.types.TypeAct.TheVariants as type
use Rattle.sisal_unit_acts.specs.declared.defs.DefAct.{DefAct}
use Rattle.sisal_unit_acts.specs.declared.defs.DefAct.TheVariants as def
use Rattle.sisal_unit_acts.specs.declared.loops.LoopAct.{LoopAct}
use Rattle.sisal_unit_acts.specs.declared.loops.LoopAct.TheVariants as loop
use Rattle.sisal_unit_acts.specs.declared.clauses.ClauseAct.{ClauseAct}
use Rattle.sisal_unit_acts.specs.declared.clauses.ClauseAct.TheVariants as clause

abbrev pub unit_action : UnitAct → Action
unit_action unit.Whole = action.Whole
unit_action unit.NoNames = action.NoNames
unit_action unit.MoreNames = action.MoreNames
unit_action unit.Absent = action.Absent
unit_action unit.Sign = action.Sign
unit_action unit.NoItems = action.NoItems
unit_action unit.MoreItems = action.MoreItems
unit_action unit.Alias = action.Alias
unit_action unit.Forward = action.Forward
unit_action unit.Global = action.Global
unit_action unit.Defined = action.Defined
unit_action unit.OneHeader = action.OneHeader

abbrev pub type_action : TypeAct → Action
type_action type.Basic = action.Basic
type_action type.Listed = action.Listed
type_action type.Fielded = action.Fielded
type_action type.Tagged = action.Tagged
type_action type.NoFields = action.NoFields
type_action type.SemiFields = action.SemiFields
type_action type.MoreFields = action.MoreFields
type_action type.OneField = action.OneField
type_action type.SemiTags = action.SemiTags
type_action type.MoreTags = action.MoreTags
type_action type.OneTag = action.OneTag
type_action type.TypedTag = action.TypedTag
type_action type.NoTypes = action.NoTypes
type_action type.MoreTypes = action.MoreTypes
type_action type.NoType = action.NoType
type_action type.SomeType = action.SomeType

abbrev pub def_action : DefAct → Action
def_action def.NoDefs = action.NoDefs
def_action def.SameDefs = action.SameDefs
def_action def.Defs = action.Defs
def_action def.SemiDefs = action.SemiDefs
def_action def.OneDef = action.OneDef
def_action def.NoTargets = action.NoTargets
def_action def.MoreTargets = action.MoreTargets
def_action def.OneTarget = action.OneTarget

abbrev pub loop_action : LoopAct → Action
loop_action loop.Product = action.Product
loop_action loop.Initial = action.Initial
loop_action loop.NoGroups = action.NoGroups
loop_action loop.MoreGroups = action.MoreGroups
loop_action loop.Gens = action.Gens
loop_action loop.NoGens = action.NoGens
loop_action loop.MoreGens = action.MoreGens
loop_action loop.OneGen = action.OneGen
loop_action loop.AtName = action.AtName
loop_action loop.TestFirst = action.TestFirst
loop_action loop.TestLast = action.TestLast
loop_action loop.OneTest = action.OneTest

abbrev pub clause_action : ClauseAct → Action
clause_action clause.NoClauses = action.NoClauses
clause_action clause.MoreClauses = action.MoreClauses
clause_action clause.Gathered = action.Gathered
clause_action clause.Valued = action.Valued
clause_action clause.NoFold = action.NoFold
clause_action clause.PlainFold = action.PlainFold
clause_action clause.Directed = action.Directed
clause_action clause.Reduced = action.Reduced
clause_action clause.NoMask = action.NoMask
clause_action clause.SomeMask = action.SomeMask
