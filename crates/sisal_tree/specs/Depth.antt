-- How deep expressions nest: a constant or a name has depth 1, another expression 1 more than the
-- greatest depth of its parts. A `for` with c groups of generators counts c, parentheses count 1, and
-- an `elseif` is an `if` in the `else` part. A written type counts nothing.
use Rattle.std.specs.Prelude.{◌≡◌, ℕ, ◌<◌, ◌+◌, max, List, [], ◌∷◌, Option, Some, None, length, map, flat_map, Contains}
use Rattle.sisal_tree.specs.declared.expr.Expr.{Expr}
use Rattle.sisal_tree.specs.declared.expr.ExprKind.TheFolds.{fold-Expr}
use Rattle.sisal_tree.specs.declared.expr.ExprKind.TheOpen.{ExprKind-F, Loop-F, Arm-F, Clause-F, Def-F, Elements-F, Expr-F, FieldValue-F, Generator-F, Mask-F, TagCase-F, Turn-F}
use Rattle.sisal_tree.specs.declared.unit.Item.{Item}
use Rattle.sisal_tree.specs.declared.unit.Item.TheVariants as item
use Rattle.sisal_tree.specs.declared.unit.FunKind.{FunKind}
use Rattle.sisal_tree.specs.declared.unit.FunKind.TheVariants as fun

-- the greatest of these depths, 0 of none
abbrev pub greatest : List ℕ → ℕ
greatest [] = 0
greatest (n ∷ ns) = max n (greatest ns)

-- the depth of a part that may be absent
abbrev pub if_any : Option ℕ → ℕ
if_any None = 0
if_any (Some n) = n

-- the greatest of parts that may be absent
abbrev pub greatest_if_any : Option (List ℕ) → ℕ
greatest_if_any None = 0
greatest_if_any (Some ns) = greatest ns

-- the greatest depth in each group
abbrev pub each_greatest : List (List ℕ) → List ℕ
each_greatest gs = map greatest gs

abbrev pub in_kind : ExprKind-F ℕ ℕ ℕ ℕ ℕ ℕ ℕ ℕ ℕ ℕ ℕ ℕ → ℕ
in_kind (ExprKind-F.Constant c) = 1
in_kind (ExprKind-F.Name x) = 1
in_kind (ExprKind-F.Old x) = 1
in_kind (ExprKind-F.Group e) = e + 1
in_kind (ExprKind-F.Call x es) = greatest es + 1
in_kind (ExprKind-F.Convert s e) = e + 1
in_kind (ExprKind-F.ErrorOf t) = 1
in_kind (ExprKind-F.IsError e) = e + 1
in_kind (ExprKind-F.IsTag x e) = e + 1
in_kind (ExprKind-F.Prefix o e) = e + 1
in_kind (ExprKind-F.Binary o a b) = max a b + 1
in_kind (ExprKind-F.Select a i) = max a i + 1
in_kind (ExprKind-F.Update a i v) = max a (max i v) + 1
in_kind (ExprKind-F.Field e x) = e + 1
in_kind (ExprKind-F.Replace e vs) = max e (greatest vs) + 1
in_kind (ExprKind-F.Array x es) = if_any es + 1
in_kind (ExprKind-F.Stream x es) = greatest es + 1
in_kind (ExprKind-F.Record x vs) = greatest vs + 1
in_kind (ExprKind-F.Union x t e) = e + 1
in_kind (ExprKind-F.Let ds es) = max (greatest ds) (greatest es) + 1
in_kind (ExprKind-F.If c es fs) = max c (max (greatest es) (greatest fs)) + 1
in_kind (ExprKind-F.TagCase c) = c + 1
in_kind (ExprKind-F.For l) = l

abbrev pub in_loop : Loop-F ℕ ℕ ℕ ℕ ℕ ℕ ℕ ℕ ℕ ℕ ℕ ℕ → ℕ
in_loop (Loop-F.Product gs ds cs) = max (greatest (each_greatest gs)) (max (greatest ds) (greatest cs)) + length gs
in_loop (Loop-F.Initial ds t cs) = max (greatest ds) (max t (greatest cs)) + 1

abbrev pub in_arm : Arm-F ℕ ℕ ℕ ℕ ℕ ℕ ℕ ℕ ℕ ℕ ℕ ℕ → ℕ
in_arm a = greatest a.results

abbrev pub in_clause : Clause-F ℕ ℕ ℕ ℕ ℕ ℕ ℕ ℕ ℕ ℕ ℕ ℕ → ℕ
in_clause c = max c.value (if_any c.mask)

abbrev pub in_def : Def-F ℕ ℕ ℕ ℕ ℕ ℕ ℕ ℕ ℕ ℕ ℕ ℕ → ℕ
in_def d = greatest d.values

abbrev pub in_elements : Elements-F ℕ ℕ ℕ ℕ ℕ ℕ ℕ ℕ ℕ ℕ ℕ ℕ → ℕ
in_elements e = max e.lower (greatest e.values)

abbrev pub in_generator : Generator-F ℕ ℕ ℕ ℕ ℕ ℕ ℕ ℕ ℕ ℕ ℕ ℕ → ℕ
in_generator g = max g.from (if_any g.to)

abbrev pub in_case : TagCase-F ℕ ℕ ℕ ℕ ℕ ℕ ℕ ℕ ℕ ℕ ℕ ℕ → ℕ
in_case c = max c.subject (max (greatest c.arms) (greatest_if_any c.otherwise))

abbrev pub in_turn : Turn-F ℕ ℕ ℕ ℕ ℕ ℕ ℕ ℕ ℕ ℕ ℕ ℕ → ℕ
in_turn t = max t.test (greatest t.defs)

-- the depth of an expression
abbrev pub depth : Expr → ℕ
depth = fold-Expr ℕ ℕ ℕ ℕ ℕ ℕ ℕ ℕ ℕ ℕ ℕ ℕ in_kind in_loop in_arm in_clause in_def in_elements (λ e. e.kind) (λ v. v.value) in_generator (λ m. m.test) in_case in_turn

-- the results of a function, of an item, and of the functions of a unit
abbrev pub results_in : FunKind → List Expr
results_in fun.Forward = []
results_in fun.Global = []
results_in (fun.Defined es) = es

abbrev pub results : Item → List Expr
results (item.Alias t) = []
results (item.Function f) = results_in f.kind

abbrev pub results_of : List Item → List Expr
results_of items = flat_map results items

-- the depth of a unit of these items, that of the deepest result of its functions
abbrev pub depth_of : List Item → ℕ
depth_of items = greatest (map depth (results_of items))

-- a result of one of these functions begins on this line and has a depth above n
abbrev pub PassesAt : ℕ → List Item → ℕ → Type 0
PassesAt n items line = (e : Expr) × Contains (results_of items) e × (n < depth e) × (e.line ≡ line)
