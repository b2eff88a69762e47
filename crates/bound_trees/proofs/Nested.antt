-- The functions of a typed unit nest no deeper than the unit.
use Rattle.std.proofs.Common.{◌≡◌, ℕ, ◌≤◌, max, List, [], ◌∷◌, ◌++◌, map, Option, All, arith}
use Rattle.std.proofs.lemmas.List.Elements.{All-nil, All-cons, All-head, All-tail, All-filter}
use Rattle.flow_value.specs.declared.ty.Ty.{Ty}
use Rattle.type_table.specs.declared.form.Form.{Form}
use Rattle.sisal_tree.specs.Depth.{depth, greatest, results_in, results_of, depth_of}
use Rattle.sisal_tree.specs.declared.expr.Expr.{Expr}
use Rattle.sisal_tree.specs.declared.unit.FunKind.{FunKind}
use Rattle.sisal_tree.specs.declared.unit.Item.{Item}
use Rattle.sisal_tree.specs.declared.unit.Unit as tree
use Rattle.typed_tree.specs.declared.expr.TypedExpr.{TypedExpr}
use Rattle.typed_tree.specs.declared.program.Function.{Function}
use Rattle.typed_tree.specs.Typing.{Signature}
use Rattle.typed_tree.specs.Units as units
use Rattle.typed_tree.specs.Units.{Declared, is_given, given, parameters, denotes, known, Declares, HasBody, IsFunctionOf, AreFunctionsOf}
use Rattle.bound_trees.specs.Depths.{typed_depth, AreWithin}
use Rattle.bound_trees.specs.Laws.{DepthLaw}
use Rattle.bound_trees.proofs.Shallow.{trees_depth, all_shallow}

-- the results of a function nest at most so deep in the text
abbrev IsLevel : ℕ → Declared → Type 0
IsLevel n d = greatest (map depth (results_in d.function.kind)) ≤ n

greatest_append : (es fs : List Expr) → greatest (map depth (es ++ fs)) ≡ max (greatest (map depth es)) (greatest (map depth fs))
greatest_append [] fs = omega arith
greatest_append (e ∷ es) fs = let rest = greatest_append es fs in omega (arith, rest)

declared_level : (u : tree.Unit) (n : ℕ) (types : List (ℕ × Ty)) (items : List Item) (ds : List Declared) → Declares u types items ds → depth_of items ≤ n → All (IsLevel n) ds
declared_level u n types _ _ units.no_item h = All-nil (IsLevel n)
declared_level u n types _ ds (units.a_type {d = d} {a = a} {items = items} q e p) h = declared_level u n ((d.name, a) ∷ types) items ds p h
declared_level u n types _ _ (units.a_function {f = f} {s = s} {items = items} {ds = ds} q p) h =
    let both = greatest_append (results_in f.kind) (results_of items) in
    All-cons (IsLevel n) (record { function = f; types = types; signature = s }) ds (omega (arith, both, h)) (declared_level u n types items ds p (omega (arith, both, h)))

trees_within : (n : ℕ) (ts : List TypedExpr) → trees_depth ts ≤ n → All (λ t. typed_depth t ≤ n) ts
trees_within n [] h = All-nil (λ t. typed_depth t ≤ n)
trees_within n (t ∷ ts) h = All-cons (λ t. typed_depth t ≤ n) t ts (omega (arith, h)) (trees_within n ts (omega (arith, h)))

module _ (u : tree.Unit) (n : ℕ) (forms : List Form) (ds : List Declared) where
  body_within : (types : List (ℕ × Ty)) (s : Signature) (kind : FunKind) (o : Option (List TypedExpr)) → greatest (map depth (results_in kind)) ≤ n → HasBody u (known u forms ds types) s kind o → AreWithin n o
  body_within types s _ _ h units.global = tt
  body_within types s _ _ h (units.defined {es = es} {ts = ts} p) =
      let below = all_shallow (known u forms ds types) (denotes u types) (parameters s) es ts s.results p in trees_within n ts (omega (arith, below, h))

  functions_within : (es : List Declared) (fs : List Function) → All (IsLevel n) es → AreFunctionsOf u forms ds es fs → All (λ f. AreWithin n f.body) fs
  functions_within _ _ h units.no_function = All-nil (λ f. AreWithin n f.body)
  functions_within _ _ h (units.a_function {d = d} {f = f} {es = es} {fs = fs} p ps) =
      All-cons (λ f. AreWithin n f.body) f fs (body_within d.types d.signature d.function.kind f.body (All-head (IsLevel n) d es h) p.body) (functions_within es fs (All-tail (IsLevel n) d es h) ps)

pub unit_within : DepthLaw
unit_within u p n h t =
    functions_within u n p.types t.declared (given t.declared) p.functions
    (All-filter (λ d. is_given d.function) (IsLevel n) t.declared (declared_level u n [] u.items t.declared t.declares.declares h)) t.functions
