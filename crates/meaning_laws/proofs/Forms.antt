-- Less is given by a form whose parts give less, for every form but a loop of turns.
use Rattle.std.proofs.Common.{ℕ, List, [], ◌∷◌, map, length, Option, Some, None}
use Rattle.flow_value.specs.declared.value.Val.{Val}
use Rattle.flow_value.specs.declared.value.Val.TheViews.{out-Val}
use Rattle.sisal_tree.specs.declared.expr.Constant.{Constant}
use Rattle.value_ops.specs.declared.operation.Operation.{Operation}
use Rattle.typed_tree.specs.declared.expr.TypedExpr.{TypedExpr}
use Rattle.typed_tree.specs.declared.expr.TypedKind.TheOpen.{TypedKind-F}
use Rattle.typed_tree.specs.declared.expr.Case.{Case}
use Rattle.typed_tree.specs.declared.expr.Product.{Product}
use Rattle.typed_tree.specs.declared.program.Function.{Function}
use Rattle.meaning.specs.Timed.{Below}
use Rattle.meaning.specs.Words.{value_at, test_of}
use Rattle.meaning.specs.Sources.{places_of}
use Rattle.meaning.specs.Meaning.{Gives, kind_gives, results_of, function_gives}
use Rattle.source_meaning.proofs.Laws.{below_refl, below_plus, below_then}
use Rattle.source_meaning.proofs.Grows.{Less, LessAll, LessDefs, all_below, body_below, chosen_below, arm_of_below, arms_less, over_below}

abbrev pub LessCalls : (ℕ → Gives) → (ℕ → Gives) → Type 0
LessCalls a b = (f : ℕ) → Less (a f) (b f)

-- the same form, of parts that give less
pub data LessForm : TypedKind-F (ℕ → Gives) Gives → TypedKind-F (ℕ → Gives) Gives → Type 0 where
  constant : (c : Constant) → LessForm (TypedKind-F.Constant c) (TypedKind-F.Constant c)
  value : (x : ℕ) → LessForm (TypedKind-F.Value x) (TypedKind-F.Value x)
  group : (gs hs : List Gives) → LessAll gs hs → LessForm (TypedKind-F.Group gs) (TypedKind-F.Group hs)
  call : (f : ℕ) (gs hs : List Gives) → LessAll gs hs → LessForm (TypedKind-F.Call f gs) (TypedKind-F.Call f hs)
  apply : (o : Operation) (gs hs : List Gives) → LessAll gs hs → LessForm (TypedKind-F.Apply o gs) (TypedKind-F.Apply o hs)
  scope : (ds es : List (List Gives)) (gs hs : List Gives) → LessDefs ds es → LessAll gs hs → LessForm (TypedKind-F.Let ds gs) (TypedKind-F.Let es hs)
  choice : (ts us ys zs ns ms : List Gives) → LessAll ts us → LessAll ys zs → LessAll ns ms → LessForm (TypedKind-F.If ts ys ns) (TypedKind-F.If us zs ms)
  arms : (c : Case) (us vs : List Gives) (ds es : List (List Gives)) → LessAll us vs → LessDefs ds es → LessForm (TypedKind-F.Case c us ds) (TypedKind-F.Case c vs es)
  product : (q : Product) (bs cs : List Gives) (ds es : List (List Gives)) (gs hs : List Gives)
      → LessAll bs cs → LessDefs ds es → LessAll gs hs → LessForm (TypedKind-F.Product q bs ds gs) (TypedKind-F.Product q cs es hs)

pub form_below : (n m : ℕ) (a b : ℕ → Gives) → LessCalls a b → (x y : TypedKind-F (ℕ → Gives) Gives) → LessForm x y → (k : ℕ) (env : List Val)
    → Below (kind_gives n a x k env) (kind_gives m b y k env)
form_below n m a b h _ _ (constant c) k env = below_refl _
form_below n m a b h _ _ (value x) k env = below_refl _
form_below n m a b h _ _ (group gs hs l) k env = all_below gs hs l env
form_below n m a b h _ _ (call f gs hs l) k env = below_then _ _ _ _ (all_below gs hs l env) (λ vs. h f vs)
form_below n m a b h _ _ (apply o gs hs l) k env = below_then _ _ _ _ (all_below gs hs l env) (λ vs. below_refl _)
form_below n m a b h _ _ (scope ds es gs hs d l) k env = body_below ds es gs hs d l env
form_below n m a b h _ _ (choice ts us ys zs ns ms t y f) k env =
    below_then _ _ _ _ (all_below ts us t env) (λ vs. chosen_below k (test_of vs) _ _ _ _ (all_below ys zs y env) (all_below ns ms f env))
form_below n m a b h _ _ (arms c us vs ds es u d) k env =
    below_then _ _ _ _ (all_below us vs u env) (λ ws. arm_of_below c k _ _ (arms_less ds es d) (out-Val (value_at ws 0)) env)
form_below n m a b h _ _ (product q bs cs ds es gs hs l d g) k env =
    below_then _ _ _ _ (all_below bs cs l env) (λ vs. below_plus (length q.sources) _ _ (over_below q k _ _ vs (places_of q.sources vs) (body_below ds es gs hs d g) env))

-- the results of a function
results_below : (k : ℕ) (o : Option (List TypedExpr)) (a b : TypedExpr → Gives) → ((e : TypedExpr) → Less (a e) (b e)) → Less (results_of k o a) (results_of k o b)
results_below k None a b h env = below_refl _
results_below k (Some es) a b h env = all_below _ _ (each_less es) env
  where
    each_less : (es : List TypedExpr) → LessAll (map a es) (map b es)
    each_less [] = tt
    each_less (e ∷ es) = (h e, each_less es)

pub function_below : (o : Option Function) (a b : TypedExpr → Gives) → ((e : TypedExpr) → Less (a e) (b e)) → Less (function_gives o a) (function_gives o b)
function_below None a b h env = below_refl _
function_below (Some f) a b h env = results_below (length f.results) f.body a b h env
