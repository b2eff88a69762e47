-- What is given at a depth is given at each greater one.
use Rattle.std.proofs.Common.{ℕ, zero, suc, ◌≤◌, Bool, true, false, List, [], ◌∷◌, ◌++◌, map, drop, length, pos, slice_get, sym, subst, arith}
use Rattle.flow_value.specs.declared.value.Val.{Val}
use Rattle.typed_tree.specs.declared.expr.TypedExpr.{TypedExpr, roll-TypedExpr}
use Rattle.typed_tree.specs.declared.expr.TypedKind.{TypedKind}
use Rattle.typed_tree.specs.declared.expr.TypedKind.TheViews.{roll-TypedKind}
use Rattle.typed_tree.specs.declared.expr.TypedKind.TheOpen.{TypedKind-F, TypedExpr-F}
use Rattle.typed_tree.specs.declared.expr.TypedKind.TheFolds.{map-TypedKind, map-TypedExpr, ind-TypedExpr}
use Rattle.typed_tree.specs.declared.expr.Turns.{Turns}
use Rattle.meaning.specs.declared.words.Test.TheVariants as test
use Rattle.meaning.specs.Timed.{Timed, andthen, Below}
use Rattle.meaning.specs.Words.{test_of, goes_on}
use Rattle.meaning.specs.Meaning.{Gives, Members, each, folded, unless_failed}
use Rattle.source_meaning.specs.Pending.{Program}
use Rattle.source_meaning.proofs.Laws.{below_refl, below_none, below_plus, below_then, below_trans, below_same}
use Rattle.source_meaning.proofs.Grows.{Less, LessAll, LessDefs, all_below, defined_below, each_below, turned_of_below, turn_below}
use Rattle.meaning.specs.Plain.{Depth, Deep, at, all_at, called, turns_at, members_at, kind_at, plain, plain_kind, depth, plain_calls, plain_meaning}
use Rattle.meaning_laws.proofs.Forms.{LessCalls, group, call, apply, scope, choice, arms, product, form_below, function_below}
use Rattle.meaning_laws.proofs.Layers.{plain_is, plain_layer_is}

-- a depth at whose calls less is given, and which is no greater
abbrev pub Sub : Depth → Depth → Type 0
Sub [] b = Unit {0}
Sub (c ∷ d) [] = ⊥
Sub (c ∷ d) (e ∷ b) = LessCalls c e × Sub d b

calls_below : (d b : Depth) → Sub d b → LessCalls (called d) (called b)
calls_below [] b s f env = below_none _
calls_below (c ∷ d) [] s f env = absurd s
calls_below (c ∷ d) (e ∷ b) s f env = s.0 f env

-- ---- loops

abbrev PartsGrow : List Deep → Type 0
PartsGrow gs = (d b : Depth) → Sub d b → LessAll (at d gs) (at b gs)

abbrev DefsGrow : List (List Deep) → Type 0
DefsGrow ds = (d b : Depth) → Sub d b → LessDefs (all_at d ds) (all_at b ds)

turns_below : (t : Turns) (ts : List Deep) (ds : List (List Deep)) → PartsGrow ts → DefsGrow ds → (d b : Depth) → Sub d b → (env l : List Val) → Below (turns_at d t ts ds env l) (turns_at b t ts ds env l)
turns_below t ts ds h i [] b s env l = below_none _
turns_below t ts ds h i (c ∷ d) [] s env l = absurd s
turns_below t ts ds h i (c ∷ d) (e ∷ b) s env l =
    below_then _ _ _ _ (all_below _ _ (h d b s.1) (env ++ l)) (λ vs. turn_below (goes_on t.is_until (test_of vs)) _ _ _ _ l (turns_below t ts ds h i d b s.1 env) (turned_of_below t _ _ (i d b s.1) env))

members_below : (f : Bool) (t : Turns) (ts : List Deep) (ds : List (List Deep)) → PartsGrow ts → DefsGrow ds → (d b : Depth) → Sub d b → (env l : List Val) → Below (members_at f d t ts ds env l) (members_at f b t ts ds env l)
members_below true t ts ds h i d b s env l = turns_below t ts ds h i d b s env l
members_below false t ts ds h i [] b s env l = below_none _
members_below false t ts ds h i (c ∷ d) [] s env l = absurd s
members_below false t ts ds h i (c ∷ d) (e ∷ b) s env l = turn_below test.Yes _ _ _ _ l (turns_below t ts ds h i d b s.1 env) (turned_of_below t _ _ (i d b s.1) env)

-- the clauses over what the turns give
pub clauses_below : (t : Turns) (k : ℕ) (m o : Timed Members) (x y : Gives) → Below m o → Less x y → (env : List Val)
    → Below (andthen m (λ s. andthen (each (λ l. x (env ++ l)) s.lists) (λ rows. unless_failed k s.failure (folded t.clauses (pos 1) rows))))
    (andthen o (λ s. andthen (each (λ l. y (env ++ l)) s.lists) (λ rows. unless_failed k s.failure (folded t.clauses (pos 1) rows))))
clauses_below t k m o x y h i env = below_then m o _ _ h (λ s. below_then _ _ _ _ (each_below _ _ (λ l. i (env ++ l)) s.lists) (λ rows. below_refl _))

-- ---- the tree

abbrev Grows : TypedExpr → Type 0
Grows e = (d b : Depth) → Sub d b → Less (plain e d) (plain e b)

abbrev KindGrows : TypedKind → Type 0
KindGrows x = (d b : Depth) → Sub d b → (k : ℕ) → Less (plain_kind x d k) (plain_kind x b k)

abbrev Proved : Type 0
Proved = (e : TypedExpr) × Grows e

abbrev KindProved : Type 0
KindProved = (x : TypedKind) × KindGrows x

abbrev deeps : List Proved → List Deep
deeps es = map plain (map (λ e. e.0) es)

abbrev deep_lists : List (List Proved) → List (List Deep)
deep_lists ds = map (map plain) (map (map (λ e. e.0)) ds)

parts : (es : List Proved) → PartsGrow (deeps es)
parts [] d b s = tt
parts (e ∷ es) d b s = (e.1 d b s, parts es d b s)

lists : (ds : List (List Proved)) → DefsGrow (deep_lists ds)
lists [] d b s = tt
lists (x ∷ ds) d b s = (parts x d b s, lists ds d b s)

abbrev bare : TypedKind-F KindProved Proved → TypedKind-F TypedKind TypedExpr
bare y = map-TypedKind KindProved Proved TypedKind TypedExpr (λ x. x.0) (λ e. e.0) y

abbrev given_parts : TypedKind-F TypedKind TypedExpr → TypedKind-F (Depth → ℕ → Gives) Deep
given_parts x = map-TypedKind TypedKind TypedExpr (Depth → ℕ → Gives) Deep plain_kind plain x

kind_grows : (d b : Depth) → Sub d b → (y : TypedKind-F KindProved Proved) (k : ℕ) (env : List Val) → Below (kind_at (given_parts (bare y)) d k env) (kind_at (given_parts (bare y)) b k env)
kind_grows d b s (TypedKind-F.Constant c) k env = below_refl _
kind_grows d b s (TypedKind-F.Value x) k env = below_refl _
kind_grows d b s (TypedKind-F.Group es) k env = form_below 0 0 _ _ (calls_below d b s) _ _ (group _ _ (parts es d b s)) k env
kind_grows d b s (TypedKind-F.Call f es) k env = form_below 0 0 _ _ (calls_below d b s) _ _ (call f _ _ (parts es d b s)) k env
kind_grows d b s (TypedKind-F.Apply o es) k env = form_below 0 0 _ _ (calls_below d b s) _ _ (apply o _ _ (parts es d b s)) k env
kind_grows d b s (TypedKind-F.Let ds es) k env = form_below 0 0 _ _ (calls_below d b s) _ _ (scope _ _ _ _ (lists ds d b s) (parts es d b s)) k env
kind_grows d b s (TypedKind-F.If ts ys ns) k env = form_below 0 0 _ _ (calls_below d b s) _ _ (choice _ _ _ _ _ _ (parts ts d b s) (parts ys d b s) (parts ns d b s)) k env
kind_grows d b s (TypedKind-F.Case c us rs) k env = form_below 0 0 _ _ (calls_below d b s) _ _ (arms c _ _ _ _ (parts us d b s) (lists rs d b s)) k env
kind_grows d b s (TypedKind-F.Product q bs ds es) k env = form_below 0 0 _ _ (calls_below d b s) _ _ (product q _ _ _ _ _ _ (parts bs d b s) (lists ds d b s) (parts es d b s)) k env
kind_grows d b s (TypedKind-F.Initial t fs ts ds es) k env =
    below_then _ _ _ _ (defined_below _ _ (lists fs d b s) env)
    (λ all. clauses_below t k _ _ _ _ (members_below t.is_first t (deeps ts) (deep_lists ds) (parts ts) (lists ds) d b s env (drop (length env) all)) (all_below _ _ (parts es d b s)) env)

kind_step : (y : TypedKind-F KindProved Proved) → KindGrows (roll-TypedKind (bare y))
kind_step y d b s k env = below_trans _ _ _ (below_same _ _ (plain_layer_is (bare y) d k env)) (below_trans _ _ _ (kind_grows d b s y k env) (below_same _ _ (sym (plain_layer_is (bare y) b k env))))

expr_step : (e : TypedExpr) → KindGrows e.kind → Grows e
expr_step e h d b s env = below_trans _ _ _ (below_same _ _ (plain_is e d env)) (below_trans _ _ _ (below_plus 1 _ _ (h d b s (length e.types) env)) (below_same _ _ (sym (plain_is e b env))))

whole_step : (y : TypedExpr-F KindProved Proved) → Grows (roll-TypedExpr (map-TypedExpr KindProved Proved TypedKind TypedExpr (λ x. x.0) (λ e. e.0) y))
whole_step y = expr_step (roll-TypedExpr (map-TypedExpr KindProved Proved TypedKind TypedExpr (λ x. x.0) (λ e. e.0) y)) y.kind.1

grows : (e : TypedExpr) → Grows e
grows = ind-TypedExpr KindGrows Grows (λ x y is. subst (λ z. KindGrows (roll-TypedKind z)) is (kind_step y)) (λ x y is. subst (λ z. Grows (roll-TypedExpr z)) is (whole_step y))

-- ---- depths by their numbers

depth_sub : (p : Program) (n m : ℕ) → n ≤ m → Sub (depth n p) (depth m p)
depth_sub p zero m h = tt
depth_sub p (suc n) zero h = absurd (omega (arith, h))
depth_sub p (suc n) (suc m) h =
    let s = depth_sub p n m (omega (arith, h)) in
    (λ f. function_below (slice_get p f) _ _ (λ e. grows e (depth n p) (depth m p) s), s)

pub plain_greater : (p : Program) (n m : ℕ) → n ≤ m → (e : TypedExpr) → Less (plain_meaning n p e) (plain_meaning m p e)
plain_greater p n m h e = grows e (depth n p) (depth m p) (depth_sub p n m h)

pub calls_greater : (p : Program) (n m : ℕ) → n ≤ m → LessCalls (plain_calls n p) (plain_calls m p)
calls_greater p n m h = calls_below (depth n p) (depth m p) (depth_sub p n m h)
