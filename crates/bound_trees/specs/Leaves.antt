-- What stands at the leaves of an expression, in the order of the text: its constants, and how many parts its records, changes,
-- choices and groups of generators have (SISAL Language Reference Manual 1.2, constants, records, unions, loops).
use Rattle.std.specs.Prelude.{◌≡◌, ℕ, ◌<◌, ◌≤◌, true, pos, ◌≤ℤ◌, List, [], ◌∷◌, ◌++◌, All, Option, Some, None, map, length}
use Rattle.flow_value.specs.Scalar.{fits_64}
use Rattle.sisal_tree.specs.declared.expr.Constant.{Constant}
use Rattle.sisal_tree.specs.declared.expr.Constant.TheVariants as constant
use Rattle.sisal_tree.specs.declared.expr.Expr.{Expr}
use Rattle.sisal_tree.specs.declared.expr.ExprKind.TheFolds.{fold-Expr}
use Rattle.sisal_tree.specs.declared.expr.ExprKind.TheOpen.{ExprKind-F, Loop-F, Arm-F, Clause-F, Def-F, Elements-F, Generator-F, TagCase-F, Turn-F}

-- A constant that a text can spell: a number without a sign, which fits 64 bits, and characters of codes up to 127.
abbrev pub IsLiteral : Constant → Type 0
IsLiteral (constant.Integer n) = (pos 0 ≤ℤ n) × (fits_64 n ≡ true)
IsLiteral (constant.Letter code) = code < 128
IsLiteral (constant.Quoted codes) = All (λ code. code < 128) codes
IsLiteral _ = Unit {0}

-- a constant, or how many fields a new record has, how many `replace` changes, how many arms a `tagcase` has before `otherwise`, or
-- how many generators a group of a `for` has
pub data Leaf : Type 0 where
  a_constant : Constant → Leaf
  a_record : ℕ → Leaf
  a_change : ℕ → Leaf
  a_case : ℕ → Leaf
  a_group : ℕ → Leaf

-- such as a text can write: a text has at most 4,194,304 bytes
abbrev pub IsWritten : Leaf → Type 0
IsWritten (a_constant c) = IsLiteral c
IsWritten (a_record n) = n ≤ 4194304
IsWritten (a_change n) = 1 ≤ n
IsWritten (a_case n) = 1 ≤ n
IsWritten (a_group n) = 1 ≤ n

abbrev pub Leaves : Type 0
Leaves = List Leaf

-- those of parts
abbrev pub all_in : List Leaves → Leaves
all_in [] = []
all_in (cs ∷ l) = cs ++ all_in l

-- those of a part that may be absent
abbrev pub if_any : Option Leaves → Leaves
if_any None = []
if_any (Some cs) = cs

abbrev pub all_if_any : Option (List Leaves) → Leaves
all_if_any None = []
all_if_any (Some l) = all_in l

abbrev pub in_kind : ExprKind-F Leaves Leaves Leaves Leaves Leaves Leaves Leaves Leaves Leaves Leaves Leaves Leaves → Leaves
in_kind (ExprKind-F.Constant c) = a_constant c ∷ []
in_kind (ExprKind-F.Name x) = []
in_kind (ExprKind-F.Old x) = []
in_kind (ExprKind-F.Group e) = e
in_kind (ExprKind-F.Call x es) = all_in es
in_kind (ExprKind-F.Convert s e) = e
in_kind (ExprKind-F.ErrorOf t) = []
in_kind (ExprKind-F.IsError e) = e
in_kind (ExprKind-F.IsTag x e) = e
in_kind (ExprKind-F.Prefix o e) = e
in_kind (ExprKind-F.Binary o a b) = a ++ b
in_kind (ExprKind-F.Select a i) = a ++ i
in_kind (ExprKind-F.Update a i v) = a ++ (i ++ v)
in_kind (ExprKind-F.Field e x) = e
in_kind (ExprKind-F.Replace e vs) = a_change (length vs) ∷ e ++ all_in vs
in_kind (ExprKind-F.Array x es) = if_any es
in_kind (ExprKind-F.Stream x es) = all_in es
in_kind (ExprKind-F.Record x vs) = a_record (length vs) ∷ all_in vs
in_kind (ExprKind-F.Union x t e) = e
in_kind (ExprKind-F.Let ds es) = all_in ds ++ all_in es
in_kind (ExprKind-F.If c es fs) = c ++ (all_in es ++ all_in fs)
in_kind (ExprKind-F.TagCase c) = c
in_kind (ExprKind-F.For l) = l

-- those of a group of generators
abbrev pub in_generators : List Leaves → Leaves
in_generators g = a_group (length g) ∷ all_in g

abbrev pub in_loop : Loop-F Leaves Leaves Leaves Leaves Leaves Leaves Leaves Leaves Leaves Leaves Leaves Leaves → Leaves
in_loop (Loop-F.Product gs ds cs) = all_in (map in_generators gs) ++ (all_in ds ++ all_in cs)
in_loop (Loop-F.Initial ds t cs) = all_in ds ++ (t ++ all_in cs)

abbrev pub in_arm : Arm-F Leaves Leaves Leaves Leaves Leaves Leaves Leaves Leaves Leaves Leaves Leaves Leaves → Leaves
in_arm a = all_in a.results

abbrev pub in_clause : Clause-F Leaves Leaves Leaves Leaves Leaves Leaves Leaves Leaves Leaves Leaves Leaves Leaves → Leaves
in_clause c = c.value ++ if_any c.mask

abbrev pub in_def : Def-F Leaves Leaves Leaves Leaves Leaves Leaves Leaves Leaves Leaves Leaves Leaves Leaves → Leaves
in_def d = all_in d.values

abbrev pub in_elements : Elements-F Leaves Leaves Leaves Leaves Leaves Leaves Leaves Leaves Leaves Leaves Leaves Leaves → Leaves
in_elements e = e.lower ++ all_in e.values

abbrev pub in_generator : Generator-F Leaves Leaves Leaves Leaves Leaves Leaves Leaves Leaves Leaves Leaves Leaves Leaves → Leaves
in_generator g = g.from ++ if_any g.to

abbrev pub in_case : TagCase-F Leaves Leaves Leaves Leaves Leaves Leaves Leaves Leaves Leaves Leaves Leaves Leaves → Leaves
in_case c = a_case (length c.arms) ∷ c.subject ++ (all_in c.arms ++ all_if_any c.otherwise)

abbrev pub in_turn : Turn-F Leaves Leaves Leaves Leaves Leaves Leaves Leaves Leaves Leaves Leaves Leaves Leaves → Leaves
in_turn t = t.test ++ all_in t.defs

-- the leaves of an expression
abbrev pub leaves : Expr → Leaves
leaves = fold-Expr Leaves Leaves Leaves Leaves Leaves Leaves Leaves Leaves Leaves Leaves Leaves Leaves in_kind in_loop in_arm in_clause in_def in_elements (λ e. e.kind) (λ v. v.value) in_generator (λ m. m.test) in_case in_turn
