-- What the definition with one depth for all turns gives at a depth, the definition with a depth of calls and turns alone gives
-- from some depth on.
use Rattle.std.proofs.Common.{ℕ, zero, suc, Bool, true, false, List, [], ◌∷◌, ◌++◌, map, drop, length, Option, Some, None, slice_get, sym, subst}
use Rattle.flow_value.specs.declared.value.Val.{Val}
use Rattle.typed_tree.specs.declared.expr.TypedExpr.{TypedExpr, roll-TypedExpr}
use Rattle.typed_tree.specs.declared.expr.TypedKind.{TypedKind}
use Rattle.typed_tree.specs.declared.expr.TypedKind.TheViews.{roll-TypedKind}
use Rattle.typed_tree.specs.declared.expr.TypedKind.TheOpen.{TypedKind-F, TypedExpr-F}
use Rattle.typed_tree.specs.declared.expr.TypedKind.TheFolds.{map-TypedKind, map-TypedExpr, ind-TypedExpr}
use Rattle.typed_tree.specs.declared.expr.Turns.{Turns}
use Rattle.typed_tree.specs.declared.program.Function.{Function}
use Rattle.meaning.specs.declared.words.Test.TheVariants as test
use Rattle.meaning.specs.Timed.{Below}
use Rattle.meaning.specs.Words.{test_of, goes_on}
use Rattle.meaning.specs.Meaning.{Gives, all_of, turned, turns, members, kind_gives, results_of, function_gives, calls, meaning, kind_meaning}
use Rattle.source_meaning.specs.Pending.{Program}
use Rattle.source_meaning.proofs.Laws.{below_refl, below_none, below_plus, below_then, below_trans, below_same}
use Rattle.source_meaning.proofs.Grows.{meaning_is, layer_is, Less, LessAll, LessDefs, all_below, defined_below, turned_of_below, turn_below}
use Rattle.meaning.specs.Plain.{Depth, Deep, at, all_at, turns_at, members_at, kind_at, plain, plain_kind, depth, plain_calls, plain_meaning}
use Rattle.meaning_laws.proofs.Forms.{LessCalls, group, call, apply, scope, choice, arms, product, form_below}
use Rattle.meaning_laws.proofs.Layers.{plain_is, plain_layer_is}
use Rattle.meaning_laws.proofs.Deeper.{clauses_below}
use Rattle.meaning_laws.proofs.From.{From, always, after, both, deeper}

module _ (n : ℕ) (p : Program) where
  abbrev CallsRise : ℕ → Type 0
  CallsRise j = LessCalls (calls n p) (plain_calls j p)

  -- ---- loops

  abbrev PartsRise : List Deep → List TypedExpr → ℕ → Type 0
  PartsRise gs es j = LessAll (map (meaning n p) es) (at (depth j p) gs)

  abbrev DefsRise : List (List Deep) → List (List TypedExpr) → ℕ → Type 0
  DefsRise ds es j = LessDefs (map (map (meaning n p)) es) (all_at (depth j p) ds)

  module _ (t : Turns) (ts : List Deep) (us : List TypedExpr) (ds : List (List Deep)) (es : List (List TypedExpr)) where
    abbrev TurnRises : ℕ → Type 0
    TurnRises j = PartsRise ts us j × DefsRise ds es j

    abbrev TurnsRise : ℕ → ℕ → Type 0
    TurnsRise left j = (env l : List Val) → Below (turns left t.is_until (all_of (map (meaning n p) us)) (turned t (map (map (meaning n p)) es)) env l) (turns_at (depth j p) t ts ds env l)

    abbrev MembersRise : Bool → ℕ → Type 0
    MembersRise f j = (env l : List Val) → Below (members n f t.is_until (all_of (map (meaning n p) us)) (turned t (map (map (meaning n p)) es)) env l) (members_at f (depth j p) t ts ds env l)

    turns_rise : From TurnRises → (left : ℕ) → From (TurnsRise left)
    turns_rise h zero = always _ (λ j env l. below_none _)
    turns_rise h (suc left) =
        deeper (λ j. TurnRises j × TurnsRise left j) (TurnsRise (suc left)) (both TurnRises (TurnsRise left) h (turns_rise h left))
        (λ j q env l. below_then _ _ _ _ (all_below _ _ q.0.0 (env ++ l)) (λ vs. turn_below (goes_on t.is_until (test_of vs)) _ _ _ _ l (q.1 env) (turned_of_below t _ _ q.0.1 env)))

    members_rise : From TurnRises → (f : Bool) → From (MembersRise f)
    members_rise h true = turns_rise h n
    members_rise h false =
        deeper (λ j. TurnRises j × TurnsRise n j) (MembersRise false) (both TurnRises (TurnsRise n) h (turns_rise h n)) (λ j q env l. turn_below test.Yes _ _ _ _ l (q.1 env) (turned_of_below t _ _ q.0.1 env))

  -- ---- the tree

  abbrev Rises : TypedExpr → Type 0
  Rises e = From (λ j. Less (meaning n p e) (plain_meaning j p e))

  abbrev KindRises : TypedKind → Type 0
  KindRises x = From (λ j. (k : ℕ) → Less (kind_meaning n p x k) (plain_kind x (depth j p) k))

  abbrev Proved : Type 0
  Proved = (e : TypedExpr) × Rises e

  abbrev KindProved : Type 0
  KindProved = (x : TypedKind) × KindRises x

  abbrev bares : List Proved → List TypedExpr
  bares es = map (λ e. e.0) es

  abbrev bare_lists : List (List Proved) → List (List TypedExpr)
  bare_lists ds = map (map (λ e. e.0)) ds

  abbrev deeps : List Proved → List Deep
  deeps es = map plain (bares es)

  abbrev deep_lists : List (List Proved) → List (List Deep)
  deep_lists ds = map (map plain) (bare_lists ds)

  abbrev Parts : List Proved → ℕ → Type 0
  Parts es j = PartsRise (deeps es) (bares es) j

  abbrev Lists : List (List Proved) → ℕ → Type 0
  Lists ds j = DefsRise (deep_lists ds) (bare_lists ds) j

  parts : (es : List Proved) → From (Parts es)
  parts [] = always _ (λ j. tt)
  parts (e ∷ es) = both _ _ e.1 (parts es)

  lists : (ds : List (List Proved)) → From (Lists ds)
  lists [] = always _ (λ j. tt)
  lists (d ∷ ds) = both _ _ (parts d) (lists ds)

  abbrev bare : TypedKind-F KindProved Proved → TypedKind-F TypedKind TypedExpr
  bare y = map-TypedKind KindProved Proved TypedKind TypedExpr (λ x. x.0) (λ e. e.0) y

  abbrev KindFrom : TypedKind-F KindProved Proved → ℕ → Type 0
  KindFrom y j = (k : ℕ) → Less (kind_gives n (calls n p) (map-TypedKind TypedKind TypedExpr (ℕ → Gives) Gives (kind_meaning n p) (meaning n p) (bare y)) k)
      (kind_at (map-TypedKind TypedKind TypedExpr (Depth → ℕ → Gives) Deep plain_kind plain (bare y)) (depth j p) k)

  -- with calls that give less
  with_calls : (A B : ℕ → Type 0) → From CallsRise → From A → ((j : ℕ) → CallsRise j → A j → B j) → From B
  with_calls A B h a f = after (λ j. CallsRise j × A j) B (both CallsRise A h a) (λ j q. f j q.0 q.1)

  abbrev Loop : Turns → List Proved → List (List Proved) → ℕ → Type 0
  Loop t ts ds j = MembersRise t (deeps ts) (bares ts) (deep_lists ds) (bare_lists ds) t.is_first j

  kind_rises : From CallsRise → (y : TypedKind-F KindProved Proved) → From (KindFrom y)
  kind_rises h (TypedKind-F.Constant c) = always _ (λ j k env. below_refl _)
  kind_rises h (TypedKind-F.Value x) = always _ (λ j k env. below_refl _)
  kind_rises h (TypedKind-F.Group es) = with_calls (Parts es) _ h (parts es) (λ j c q k env. form_below n 0 _ _ c _ _ (group _ _ q) k env)
  kind_rises h (TypedKind-F.Call f es) = with_calls (Parts es) _ h (parts es) (λ j c q k env. form_below n 0 _ _ c _ _ (call f _ _ q) k env)
  kind_rises h (TypedKind-F.Apply o es) = with_calls (Parts es) _ h (parts es) (λ j c q k env. form_below n 0 _ _ c _ _ (apply o _ _ q) k env)
  kind_rises h (TypedKind-F.Let ds es) =
      with_calls (λ j. Lists ds j × Parts es j) _ h (both (Lists ds) (Parts es) (lists ds) (parts es)) (λ j c q k env. form_below n 0 _ _ c _ _ (scope _ _ _ _ q.0 q.1) k env)
  kind_rises h (TypedKind-F.If ts ys ns) =
      with_calls (λ j. Parts ts j × (Parts ys j × Parts ns j)) _ h (both (Parts ts) (λ j. Parts ys j × Parts ns j) (parts ts) (both (Parts ys) (Parts ns) (parts ys) (parts ns)))
      (λ j c q k env. form_below n 0 _ _ c _ _ (choice _ _ _ _ _ _ q.0 q.1.0 q.1.1) k env)
  kind_rises h (TypedKind-F.Case c us rs) =
      with_calls (λ j. Parts us j × Lists rs j) _ h (both (Parts us) (Lists rs) (parts us) (lists rs)) (λ j e q k env. form_below n 0 _ _ e _ _ (arms c _ _ _ _ q.0 q.1) k env)
  kind_rises h (TypedKind-F.Product t bs ds es) =
      with_calls (λ j. Parts bs j × (Lists ds j × Parts es j)) _ h (both (Parts bs) (λ j. Lists ds j × Parts es j) (parts bs) (both (Lists ds) (Parts es) (lists ds) (parts es)))
      (λ j c q k env. form_below n 0 _ _ c _ _ (product t _ _ _ _ _ _ q.0 q.1.0 q.1.1) k env)
  kind_rises h (TypedKind-F.Initial t fs ts ds es) =
      let turn = both (Parts ts) (Lists ds) (parts ts) (lists ds) in
      let loop = members_rise t (deeps ts) (bares ts) (deep_lists ds) (bare_lists ds) turn t.is_first in
      after (λ j. Lists fs j × (Loop t ts ds j × Parts es j)) _ (both (Lists fs) (λ j. Loop t ts ds j × Parts es j) (lists fs) (both (Loop t ts ds) (Parts es) loop (parts es)))
      (λ j q k env. below_then _ _ _ _ (defined_below _ _ q.0 env) (λ all. clauses_below t k _ _ _ _ (q.1.0 env (drop (length env) all)) (all_below _ _ q.1.1) env))

  kind_step : From CallsRise → (y : TypedKind-F KindProved Proved) → KindRises (roll-TypedKind (bare y))
  kind_step h y =
      after (KindFrom y) _ (kind_rises h y)
      (λ j q k env. below_trans _ _ _ (below_same _ _ (layer_is n p (bare y) k env)) (below_trans _ _ _ (q k env) (below_same _ _ (sym (plain_layer_is (bare y) (depth j p) k env)))))

  expr_step : (e : TypedExpr) → KindRises e.kind → Rises e
  expr_step e h =
      after (λ j. (k : ℕ) → Less (kind_meaning n p e.kind k) (plain_kind e.kind (depth j p) k)) _ h
      (λ j q env. below_trans _ _ _ (below_same _ _ (meaning_is n p e env)) (below_trans _ _ _ (below_plus 1 _ _ (q (length e.types) env)) (below_same _ _ (sym (plain_is e (depth j p) env)))))

  whole_step : (y : TypedExpr-F KindProved Proved) → Rises (roll-TypedExpr (map-TypedExpr KindProved Proved TypedKind TypedExpr (λ x. x.0) (λ e. e.0) y))
  whole_step y = expr_step (roll-TypedExpr (map-TypedExpr KindProved Proved TypedKind TypedExpr (λ x. x.0) (λ e. e.0) y)) y.kind.1

  rises_if : From CallsRise → (e : TypedExpr) → Rises e
  rises_if h = ind-TypedExpr KindRises Rises (λ x y is. subst (λ z. KindRises (roll-TypedKind z)) is (kind_step h y)) (λ x y is. subst (λ z. Rises (roll-TypedExpr z)) is (whole_step y))

  -- ---- functions

  abbrev ListRises : List TypedExpr → ℕ → Type 0
  ListRises es j = LessAll (map (meaning n p) es) (map (plain_meaning j p) es)

  list_rises : ((e : TypedExpr) → Rises e) → (es : List TypedExpr) → From (ListRises es)
  list_rises h [] = always _ (λ j. tt)
  list_rises h (e ∷ es) = both _ _ (h e) (list_rises h es)

  results_rise : ((e : TypedExpr) → Rises e) → (k : ℕ) (o : Option (List TypedExpr)) → From (λ j. Less (results_of k o (meaning n p)) (results_of k o (plain_meaning j p)))
  results_rise h k None = always _ (λ j env. below_refl _)
  results_rise h k (Some es) = after (ListRises es) _ (list_rises h es) (λ j q env. all_below _ _ q env)

  abbrev FunctionRises : Option Function → ℕ → Type 0
  FunctionRises o j = Less (function_gives o (meaning n p)) (function_gives o (plain_meaning j p))

  abbrev FunctionsRise : List Function → ℕ → Type 0
  FunctionsRise q j = (f : ℕ) → FunctionRises (slice_get q f) j

  functions_rise : ((e : TypedExpr) → Rises e) → (q : List Function) → From (FunctionsRise q)
  functions_rise h [] = always _ (λ j f env. below_refl _)
  functions_rise h (x ∷ q) = after (λ j. FunctionRises (Some x) j × FunctionsRise q j) _ (both (FunctionRises (Some x)) (FunctionsRise q) (results_rise h (length x.results) x.body) (functions_rise h q)) (λ j r. of j r.0 r.1)
    where
      of : (j : ℕ) → FunctionRises (Some x) j → FunctionsRise q j → (f : ℕ) → FunctionRises (slice_get (x ∷ q) f) j
      of j a b zero = a
      of j a b (suc f) = b f

pub calls_rise : (n : ℕ) (p : Program) → From (CallsRise n p)
calls_rise zero p = always _ (λ j f env. below_none _)
calls_rise (suc n) p = deeper (FunctionsRise n p p) (CallsRise (suc n) p) (functions_rise n p (rises_if n p (calls_rise n p)) p) (λ j q. q)

pub meaning_rises : (n : ℕ) (p : Program) (e : TypedExpr) → Rises n p e
meaning_rises n p e = rises_if n p (calls_rise n p) e
