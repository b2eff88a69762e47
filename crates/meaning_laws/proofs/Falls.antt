-- What the definition with a depth of calls and turns alone gives at a depth, the definition with one depth for all turns gives
-- at the same.
use Rattle.std.proofs.Common.{ℕ, zero, suc, Bool, true, false, List, [], ◌∷◌, ◌++◌, map, drop, length, slice_get, sym, subst}
use Rattle.flow_value.specs.declared.value.Val.{Val}
use Rattle.typed_tree.specs.declared.expr.TypedExpr.{TypedExpr, roll-TypedExpr}
use Rattle.typed_tree.specs.declared.expr.TypedKind.{TypedKind}
use Rattle.typed_tree.specs.declared.expr.TypedKind.TheViews.{roll-TypedKind}
use Rattle.typed_tree.specs.declared.expr.TypedKind.TheOpen.{TypedKind-F, TypedExpr-F}
use Rattle.typed_tree.specs.declared.expr.TypedKind.TheFolds.{map-TypedKind, map-TypedExpr, ind-TypedExpr}
use Rattle.typed_tree.specs.declared.expr.Turns.{Turns}
use Rattle.meaning.specs.declared.words.Test.TheVariants as test
use Rattle.meaning.specs.Timed.{Below}
use Rattle.meaning.specs.Words.{test_of, goes_on}
use Rattle.meaning.specs.Meaning.{Gives, all_of, turned, turns, members, kind_gives, calls, meaning, kind_meaning}
use Rattle.source_meaning.specs.Pending.{Program}
use Rattle.source_meaning.proofs.Laws.{below_refl, below_none, below_plus, below_then, below_trans, below_same}
use Rattle.source_meaning.proofs.Grows.{meaning_is, layer_is, Less, LessAll, LessDefs, all_below, defined_below, turned_of_below, turn_below, calls_grow}
use Rattle.meaning.specs.Plain.{Depth, Deep, at, all_at, called, turns_at, members_at, kind_at, plain, plain_kind, depth, plain_calls, plain_meaning}
use Rattle.meaning_laws.proofs.Forms.{LessCalls, group, call, apply, scope, choice, arms, product, form_below, function_below}
use Rattle.meaning_laws.proofs.Layers.{plain_is, plain_layer_is}
use Rattle.meaning_laws.proofs.Deeper.{clauses_below}

module _ (p : Program) where
  -- no greater than this number, and less is given by calls
  abbrev Within : Depth → ℕ → Type 0
  Within [] n = Unit {0}
  Within (c ∷ d) zero = ⊥
  Within (c ∷ d) (suc n) = LessCalls c (calls (suc n) p) × Within d n

  calls_within : (d : Depth) (n : ℕ) → Within d n → LessCalls (called d) (calls n p)
  calls_within [] n w f env = below_none _
  calls_within (c ∷ d) zero w f env = absurd w
  calls_within (c ∷ d) (suc n) w f env = w.0 f env

  within_up : (d : Depth) (n : ℕ) → Within d n → Within d (suc n)
  within_up [] n w = tt
  within_up (c ∷ d) zero w = absurd w
  within_up (c ∷ d) (suc n) w = (λ f env. below_trans _ _ _ (w.0 f env) (calls_grow (suc n) p f env), within_up d n w.1)

  -- ---- loops

  abbrev PartsFall : List Deep → List TypedExpr → Type 0
  PartsFall gs es = (d : Depth) (n : ℕ) → Within d n → LessAll (at d gs) (map (meaning n p) es)

  abbrev DefsFall : List (List Deep) → List (List TypedExpr) → Type 0
  DefsFall ds es = (d : Depth) (n : ℕ) → Within d n → LessDefs (all_at d ds) (map (map (meaning n p)) es)

  -- at most n turns, whose parts all stand at the depth m
  turns_fall : (t : Turns) (ts : List Deep) (us : List TypedExpr) (ds : List (List Deep)) (es : List (List TypedExpr)) → PartsFall ts us → DefsFall ds es
      → (d : Depth) (n m : ℕ) → Within d n → Within d m → (env l : List Val)
      → Below (turns_at d t ts ds env l) (turns n t.is_until (all_of (map (meaning m p) us)) (turned t (map (map (meaning m p)) es)) env l)
  turns_fall t ts us ds es h i [] n m w v env l = below_none _
  turns_fall t ts us ds es h i (c ∷ d) zero m w v env l = absurd w
  turns_fall t ts us ds es h i (c ∷ d) (suc n) zero w v env l = absurd v
  turns_fall t ts us ds es h i (c ∷ d) (suc n) (suc m) w v env l =
      let u = within_up d m v.1 in
      below_then _ _ _ _ (all_below _ _ (h d (suc m) u) (env ++ l))
      (λ vs. turn_below (goes_on t.is_until (test_of vs)) _ _ _ _ l (turns_fall t ts us ds es h i d n (suc m) w.1 u env) (turned_of_below t _ _ (i d (suc m) u) env))

  members_fall : (f : Bool) (t : Turns) (ts : List Deep) (us : List TypedExpr) (ds : List (List Deep)) (es : List (List TypedExpr)) → PartsFall ts us → DefsFall ds es
      → (d : Depth) (n : ℕ) → Within d n → (env l : List Val)
      → Below (members_at f d t ts ds env l) (members n f t.is_until (all_of (map (meaning n p) us)) (turned t (map (map (meaning n p)) es)) env l)
  members_fall true t ts us ds es h i d n w env l = turns_fall t ts us ds es h i d n n w w env l
  members_fall false t ts us ds es h i [] n w env l = below_none _
  members_fall false t ts us ds es h i (c ∷ d) zero w env l = absurd w
  members_fall false t ts us ds es h i (c ∷ d) (suc n) w env l =
      let u = within_up d n w.1 in
      turn_below test.Yes _ _ _ _ l (turns_fall t ts us ds es h i d (suc n) (suc n) u u env) (turned_of_below t _ _ (i d (suc n) u) env)

  -- ---- the tree

  abbrev Falls : TypedExpr → Type 0
  Falls e = (d : Depth) (n : ℕ) → Within d n → Less (plain e d) (meaning n p e)

  abbrev KindFalls : TypedKind → Type 0
  KindFalls x = (d : Depth) (n : ℕ) → Within d n → (k : ℕ) → Less (plain_kind x d k) (kind_meaning n p x k)

  abbrev Proved : Type 0
  Proved = (e : TypedExpr) × Falls e

  abbrev KindProved : Type 0
  KindProved = (x : TypedKind) × KindFalls x

  abbrev bares : List Proved → List TypedExpr
  bares es = map (λ e. e.0) es

  abbrev bare_lists : List (List Proved) → List (List TypedExpr)
  bare_lists ds = map (map (λ e. e.0)) ds

  abbrev deeps : List Proved → List Deep
  deeps es = map plain (bares es)

  abbrev deep_lists : List (List Proved) → List (List Deep)
  deep_lists ds = map (map plain) (bare_lists ds)

  parts : (es : List Proved) → PartsFall (deeps es) (bares es)
  parts [] d n w = tt
  parts (e ∷ es) d n w = (e.1 d n w, parts es d n w)

  lists : (ds : List (List Proved)) → DefsFall (deep_lists ds) (bare_lists ds)
  lists [] d n w = tt
  lists (x ∷ ds) d n w = (parts x d n w, lists ds d n w)

  abbrev bare : TypedKind-F KindProved Proved → TypedKind-F TypedKind TypedExpr
  bare y = map-TypedKind KindProved Proved TypedKind TypedExpr (λ x. x.0) (λ e. e.0) y

  abbrev from_deep : TypedKind-F TypedKind TypedExpr → TypedKind-F (Depth → ℕ → Gives) Deep
  from_deep x = map-TypedKind TypedKind TypedExpr (Depth → ℕ → Gives) Deep plain_kind plain x

  abbrev from_parts : ℕ → TypedKind-F TypedKind TypedExpr → TypedKind-F (ℕ → Gives) Gives
  from_parts n x = map-TypedKind TypedKind TypedExpr (ℕ → Gives) Gives (kind_meaning n p) (meaning n p) x

  kind_falls : (d : Depth) (n : ℕ) → Within d n → (y : TypedKind-F KindProved Proved) (k : ℕ) (env : List Val)
      → Below (kind_at (from_deep (bare y)) d k env) (kind_gives n (calls n p) (from_parts n (bare y)) k env)
  kind_falls d n w (TypedKind-F.Constant c) k env = below_refl _
  kind_falls d n w (TypedKind-F.Value x) k env = below_refl _
  kind_falls d n w (TypedKind-F.Group es) k env = form_below 0 n _ _ (calls_within d n w) _ _ (group _ _ (parts es d n w)) k env
  kind_falls d n w (TypedKind-F.Call f es) k env = form_below 0 n _ _ (calls_within d n w) _ _ (call f _ _ (parts es d n w)) k env
  kind_falls d n w (TypedKind-F.Apply o es) k env = form_below 0 n _ _ (calls_within d n w) _ _ (apply o _ _ (parts es d n w)) k env
  kind_falls d n w (TypedKind-F.Let ds es) k env = form_below 0 n _ _ (calls_within d n w) _ _ (scope _ _ _ _ (lists ds d n w) (parts es d n w)) k env
  kind_falls d n w (TypedKind-F.If ts ys ns) k env = form_below 0 n _ _ (calls_within d n w) _ _ (choice _ _ _ _ _ _ (parts ts d n w) (parts ys d n w) (parts ns d n w)) k env
  kind_falls d n w (TypedKind-F.Case c us rs) k env = form_below 0 n _ _ (calls_within d n w) _ _ (arms c _ _ _ _ (parts us d n w) (lists rs d n w)) k env
  kind_falls d n w (TypedKind-F.Product q bs ds es) k env = form_below 0 n _ _ (calls_within d n w) _ _ (product q _ _ _ _ _ _ (parts bs d n w) (lists ds d n w) (parts es d n w)) k env
  kind_falls d n w (TypedKind-F.Initial t fs ts ds es) k env =
      below_then _ _ _ _ (defined_below _ _ (lists fs d n w) env)
      (λ all. clauses_below t k _ _ _ _ (members_fall t.is_first t (deeps ts) (bares ts) (deep_lists ds) (bare_lists ds) (parts ts) (lists ds) d n w env (drop (length env) all)) (all_below _ _ (parts es d n w)) env)

  kind_step : (y : TypedKind-F KindProved Proved) → KindFalls (roll-TypedKind (bare y))
  kind_step y d n w k env = below_trans _ _ _ (below_same _ _ (plain_layer_is (bare y) d k env)) (below_trans _ _ _ (kind_falls d n w y k env) (below_same _ _ (sym (layer_is n p (bare y) k env))))

  expr_step : (e : TypedExpr) → KindFalls e.kind → Falls e
  expr_step e h d n w env = below_trans _ _ _ (below_same _ _ (plain_is e d env)) (below_trans _ _ _ (below_plus 1 _ _ (h d n w (length e.types) env)) (below_same _ _ (sym (meaning_is n p e env))))

  whole_step : (y : TypedExpr-F KindProved Proved) → Falls (roll-TypedExpr (map-TypedExpr KindProved Proved TypedKind TypedExpr (λ x. x.0) (λ e. e.0) y))
  whole_step y = expr_step (roll-TypedExpr (map-TypedExpr KindProved Proved TypedKind TypedExpr (λ x. x.0) (λ e. e.0) y)) y.kind.1

  falls : (e : TypedExpr) → Falls e
  falls = ind-TypedExpr KindFalls Falls (λ x y is. subst (λ z. KindFalls (roll-TypedKind z)) is (kind_step y)) (λ x y is. subst (λ z. Falls (roll-TypedExpr z)) is (whole_step y))

  depth_within : (n : ℕ) → Within (depth n p) n
  depth_within zero = tt
  depth_within (suc n) = let w = depth_within n in (λ f. function_below (slice_get p f) _ _ (λ e. falls e (depth n p) n w), w)

pub meaning_falls : (p : Program) (n : ℕ) (e : TypedExpr) → Less (plain_meaning n p e) (meaning n p e)
meaning_falls p n e = falls p e (depth n p) n (depth_within p n)

pub calls_fall : (p : Program) (n : ℕ) → LessCalls (plain_calls n p) (calls n p)
calls_fall p n = calls_within p (depth n p) n (depth_within p n)
