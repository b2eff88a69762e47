-- How much each form of phrase becomes: its nodes, graphs, ports and values are so many as `lowering` makes of it, in a tree whose types
-- stand in place.
use Rattle.std.specs.Prelude.{ℕ, zero, suc, ◌+◌, ◌-◌, min, Bool, true, false, nat_lt, List, [], ◌∷◌, ◌++◌, map, length, Option, Some, None, if◌then◌else◌}
use Rattle.std.specs.List.{flat_map}
use Rattle.if1_graph.specs.Units.{greatest}
use Rattle.loop_folds.specs.declared.folding.Folding.{Folding}
use Rattle.loop_folds.specs.declared.folding.Folding.TheVariants as folding
use Rattle.sisal_tree.specs.declared.expr.Constant.{Constant}
use Rattle.sisal_tree.specs.declared.expr.Constant.TheVariants as constant
use Rattle.type_table.specs.declared.form.Form.{Form}
use Rattle.typed_tree.specs.declared.expr.Case.{Case}
use Rattle.typed_tree.specs.declared.expr.ClauseForm.{ClauseForm}
use Rattle.typed_tree.specs.declared.expr.Product.{Product}
use Rattle.typed_tree.specs.declared.expr.Source.{Source}
use Rattle.typed_tree.specs.declared.expr.Source.TheVariants as source
use Rattle.typed_tree.specs.declared.expr.Turns.{Turns}
use Rattle.typed_tree.specs.declared.expr.TypedExpr.{TypedExpr}
use Rattle.typed_tree.specs.declared.expr.TypedKind.{TypedKind}
use Rattle.typed_tree.specs.declared.expr.TypedKind.TheOpen.{TypedKind-F, TypedExpr-F}
use Rattle.typed_tree.specs.declared.expr.TypedKind.TheFolds.{fold-TypedExpr, fold-TypedKind}
use Rattle.value_ops.specs.declared.operation.Operation.{Operation}
use Rattle.value_ops.specs.declared.operation.Operation.TheVariants as operation
use Rattle.lowering.specs.Choices.{is_array}
use Rattle.lowering.specs.Loops.{span, unless_places, loop_name}
use Rattle.lowered_sizes.specs.declared.sizes.Sizes.{Sizes}
use Rattle.lowered_sizes.specs.Counting.{Sizing, only, valued, joined, beside, behind, a_node, whole}

-- ---- lists of phrases

abbrev pub all_sized : List Sizing → Sizing
all_sized [] names = only 0
all_sized (g ∷ gs) names = beside (g names) (all_sized gs names)

-- definitions, each of which sees the earlier ones, with the values of all
abbrev pub defs_sized : List (List Sizing) → Sizing
defs_sized [] names = only 0
defs_sized (d ∷ ds) names = let a = all_sized d names in beside a (defs_sized ds (names + a.values))

-- phrases that see the definitions
abbrev pub body_sized : List (List Sizing) → List Sizing → Sizing
body_sized ds gs names = let d = defs_sized ds names in joined d (all_sized gs (names + d.values))

-- ---- constants and operations

abbrev pub constant_sized : Constant → ℕ → Sizes
constant_sized (constant.Quoted s) k = a_node (suc (length s)) k
constant_sized c k = only k

-- how many ports of its node an operation fills, or leaves empty before others, of so many operands
abbrev pub filled : Operation → ℕ → ℕ
filled operation.EmptyArray v = suc v
filled operation.Stream v = suc v
filled (operation.Union tag) v = tag + v
filled (operation.Change places) v = suc (suc (greatest places))
filled op v = v

abbrev pub applied_sized : Operation → (operands values : ℕ) → Sizes
applied_sized (operation.IsTag tag) v k = whole (only 1 ∷ only 1 ∷ []) k
applied_sized op v k = a_node (filled op v) k

-- ---- forms that choose

abbrev pub selector_sized : List Sizing → Sizing
selector_sized ts names = behind (all_sized ts names) (λ v. a_node v 1)

abbrev pub if_sized : List Sizing → List Sizing → List Sizing → ℕ → Sizing
if_sized test one_arm other k names = whole (selector_sized test names ∷ all_sized other names ∷ all_sized one_arm names ∷ []) k

-- the content of the union is in force in the first arms
abbrev pub arms_sized : Case → ℕ → List (List Sizing) → ℕ → List Sizes
arms_sized c arm [] names = []
arms_sized c arm (g ∷ gs) names = all_sized g (if nat_lt arm c.named then names + 1 else names) ∷ arms_sized c (suc arm) gs names

abbrev pub case_sized : Case → List (List Sizing) → ℕ → Sizing
case_sized c arms k names = whole (arms_sized c 0 arms names) k

-- ---- clauses

abbrev pub not_sized : Sizing → Sizing
not_sized g names = behind (g names) (λ v. a_node v 1)

abbrev pub clauses_sized : List Bool → List Sizing → List Sizing
clauses_sized bs [] = []
clauses_sized [] gs = gs
clauses_sized (true ∷ bs) (g ∷ gs) = not_sized g ∷ clauses_sized bs gs
clauses_sized (false ∷ bs) (g ∷ gs) = g ∷ clauses_sized bs gs

-- a clause on so many multiples, with an ALimL for its lower bound or without
abbrev pub fold_sized : Bool → Folding → ℕ → Sizes
fold_sized is_limit folding.Array k = if is_limit then joined (a_node 1 1) (a_node (suc k) 1) else a_node (suc k) 1
fold_sized is_limit folding.Last k = a_node k 1
fold_sized is_limit f k = a_node (suc k) 1

-- a node for each clause and type, on so many multiples, of which each clause takes its own
abbrev pub returns_sized : Bool → List ClauseForm → (multiples types : ℕ) → Sizes
returns_sized is_limit [] m k = only 0
returns_sized is_limit (c ∷ cs) m zero = only 0
returns_sized is_limit (c ∷ cs) m (suc k) = beside (fold_sized is_limit c.folding (min (span c.masking) m)) (returns_sized is_limit cs (m - span c.masking) k)

-- ---- `for` over generators

abbrev pub generator_sized : Source → Sizes
generator_sized source.Range = a_node 2 1
generator_sized source.Elements = a_node 1 1
generator_sized source.Indexed = a_node 1 2

abbrev pub generators_sized : List Source → Sizes
generators_sized [] = only 0
generators_sized (s ∷ ss) = beside (generator_sized s) (generators_sized ss)

abbrev pub first_array : List Form → List ℕ → Bool
first_array forms [] = false
first_array forms (t ∷ ts) = is_array forms t

-- the lower bound of an `array of` is that of an array, by the types of the bounds
abbrev pub is_limited : List Form → List Source → List ℕ → Bool
is_limited forms (source.Range ∷ ss) ts = false
is_limited forms (s ∷ ss) ts = first_array forms ts
is_limited forms [] ts = false

abbrev pub product_sized : List Form → Product → List ℕ → List (List Sizing) → List Sizing → ℕ → Sizing
product_sized forms p bounds ds gs k names =
    let g = generators_sized p.sources in
    let b = body_sized ds (clauses_sized (unless_places p.clauses) gs) (names + g.values) in
    whole (g ∷ b ∷ returns_sized (is_limited forms p.sources bounds) p.clauses b.values k ∷ []) k

-- ---- `for initial`

-- a phrase: the level of which it is the name, where it is a name, the types of its values, and how much it becomes
pub record SizedPhrase : Type 0 where
  pub name : Option ℕ
  pub types : List ℕ
  pub sizes : Sizing

abbrev pub each : List SizedPhrase → List Sizing
each ps = map (λ p. p.sizes) ps

-- what is collected besides the loop names
abbrev pub extra_sized : Option ℕ → Sizing → List Sizing
extra_sized None g = g ∷ []
extra_sized (Some x) g = []

abbrev pub test_sized : Bool → List Sizing → Sizing
test_sized is_until ts names = if is_until then not_sized (all_sized ts) names else all_sized ts names

abbrev pub extras_sized : (Option ℕ → Option ℕ) → List Bool → List SizedPhrase → List Sizing
extras_sized loop bs [] = []
extras_sized loop (true ∷ bs) (p ∷ ps) = not_sized p.sizes ∷ extras_sized loop bs ps
extras_sized loop (false ∷ bs) (p ∷ ps) = extra_sized (loop p.name) p.sizes ++ extras_sized loop bs ps
extras_sized loop [] (p ∷ ps) = []

-- what is collected is made anew with each turn, so it is there twice
abbrev pub initial_sized : Turns → List (List Sizing) → List Sizing → List (List Sizing) → List SizedPhrase → ℕ → Sizing
initial_sized t fs test ds ps k names =
    let first = defs_sized fs names in
    let inside = names + first.values in
    let row = all_sized (extras_sized (loop_name names first.values) (unless_places t.clauses) ps) inside in
    let turn = valued first.values (defs_sized ds inside) in
    let multiples = min (length (unless_places t.clauses)) (length ps) in
    whole (beside first row ∷ test_sized t.is_until test inside ∷ beside turn row ∷ returns_sized false t.clauses multiples k ∷ []) k

-- ---- phrases

-- a phrase by the types of its values
pub record SizedKind : Type 0 where
  pub name : Option ℕ
  pub sizes : List ℕ → Sizing

abbrev pub unnamed : (List ℕ → Sizing) → SizedKind
unnamed f = record { name = None; sizes = f }

abbrev pub expr_sized : TypedExpr-F SizedKind SizedPhrase → SizedPhrase
expr_sized e = record { name = e.kind.name; types = e.types; sizes = e.kind.sizes e.types }

abbrev pub types_of : List SizedPhrase → List ℕ
types_of ps = flat_map (λ p. p.types) ps

-- in a program of these types
module _ (forms : List Form) where
  abbrev pub kind_sized : TypedKind-F SizedKind SizedPhrase → SizedKind
  kind_sized (TypedKind-F.Constant c) = unnamed (λ ts names. constant_sized c (length ts))
  kind_sized (TypedKind-F.Value x) = record { name = Some x; sizes = λ ts names. only 1 }
  kind_sized (TypedKind-F.Group gs) = unnamed (λ ts. all_sized (each gs))
  kind_sized (TypedKind-F.Call f gs) = unnamed (λ ts names. behind (all_sized (each gs) names) (λ v. a_node v (length ts)))
  kind_sized (TypedKind-F.Apply op gs) = unnamed (λ ts names. behind (all_sized (each gs) names) (λ v. applied_sized op v (length ts)))
  kind_sized (TypedKind-F.Let ds gs) = unnamed (λ ts. body_sized (map each ds) (each gs))
  kind_sized (TypedKind-F.If test arm other) = unnamed (λ ts. if_sized (each test) (each arm) (each other) (length ts))
  kind_sized (TypedKind-F.Case c us arms) =
      unnamed (λ ts names. joined (all_sized (each us) names) (case_sized c (map each arms) (length ts) names))
  kind_sized (TypedKind-F.Product p bs ds gs) =
      unnamed (λ ts names. joined (all_sized (each bs) names) (product_sized forms p (types_of bs) (map each ds) (each gs) (length ts) names))
  kind_sized (TypedKind-F.Initial t fs test ds ps) =
      unnamed (λ ts. initial_sized t (map each fs) (each test) (map each ds) ps (length ts))

  abbrev pub phrase_sized : TypedExpr → SizedPhrase
  phrase_sized = fold-TypedExpr SizedKind SizedPhrase kind_sized expr_sized

  abbrev pub kind_sizes : TypedKind → SizedKind
  kind_sizes = fold-TypedKind SizedKind SizedPhrase kind_sized expr_sized

  -- how much an expression becomes
  abbrev pub sizes : TypedExpr → Sizing
  sizes e = (phrase_sized e).sizes
