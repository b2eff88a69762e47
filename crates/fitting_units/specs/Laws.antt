-- Which rows the typing rules give, and which trees (SISAL Language Reference Manual 1.2, operations, expressions, programs).
use Rattle.std.specs.Prelude.{List, [], ◌∷◌, map}
use Rattle.flow_value.specs.declared.ty.Ty.{Ty}
use Rattle.sisal_tree.specs.declared.expr.BinaryOperator.{BinaryOperator}
use Rattle.sisal_tree.specs.declared.expr.PrefixOperator.{PrefixOperator}
use Rattle.sisal_tree.specs.declared.expr.Scalar.{Scalar}
use Rattle.sisal_tree.specs.declared.expr.ClauseKind.{ClauseKind}
use Rattle.typed_tree.specs.declared.built_in.BuiltIn.{BuiltIn}
use Rattle.typed_tree.specs.Types.{AreOperands, binary_type, Gives, IsConverted, scalar_type, prefix_type, Makes}
use Rattle.typed_tree.specs.Operations.{binary_operation, built_in_operation, prefix_operation, convert_operation, folding_of}
use Rattle.sisal_tree.specs.declared.unit.Unit as tree
use Rattle.typed_tree.specs.declared.program.Program.{Program}
use Rattle.typed_tree.specs.Typing.{Signature}
use Rattle.typed_tree.specs.Units.{signatures, IsTyped}
use Rattle.fitting_trees.specs.Fitting.{Row, Header, IsFittingTree}
use Rattle.fitting_units.specs.Leaves.{IsWrittenProgram, AreNamesOnce, AreTagsOnce}
use Rattle.fitting_trees.specs.Fitting as is

abbrev pub ArePrefixesRows : Type 0
ArePrefixesRows = (o : PrefixOperator) → Row (prefix_operation o) (prefix_type o ∷ []) (prefix_type o)

abbrev pub AreOperatorsRows : Type 0
AreOperatorsRows = (o : BinaryOperator) (a : Ty) → AreOperands o a → Row (binary_operation o) (a ∷ a ∷ []) (binary_type o a)

abbrev pub AreConversionsRows : Type 0
AreConversionsRows = (c : Scalar) (a : Ty) → IsConverted c a → Row (convert_operation c) (a ∷ []) (scalar_type c)

abbrev pub AreCallsRows : Type 0
AreCallsRows = (b : BuiltIn) (tys : List Ty) (a : Ty) → Gives b tys a → Row (built_in_operation b) tys a

abbrev pub AreClausesFolds : Type 0
AreClausesFolds = (kind : ClauseKind) (a b : Ty) → Makes kind a b → is.Makes (folding_of kind a) a b

-- ---- units

abbrev pub header : Signature → Header
header f = record { params = f.params; results = f.results }

abbrev pub headers : List Signature → List Header
headers fs = map header fs

-- The program of a typed unit is a fitting tree: where names are spelled once each, no union of its table has a tag twice, and
-- its constants, records, changes and arms are such as a text can write.
abbrev pub UnitsFit : Type 0
UnitsFit = (u : tree.Unit) (p : Program) → AreNamesOnce u.tokens.names → AreTagsOnce p.types → IsWrittenProgram p.functions
    → (t : IsTyped u p) → IsFittingTree p.types u.tokens.names (headers (signatures t.declared)) p.functions
