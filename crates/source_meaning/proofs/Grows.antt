-- What is given at one depth is given at the next, form by form.
use Rattle.std.proofs.Common.{◌≡◌, ℕ, zero, suc, pos, Bool, true, false, List, [], ◌∷◌, ◌++◌, map, length, drop, Option, Some, None, slice_get, sym, ap, subst}
use Rattle.flow_value.specs.declared.value.Val.{Val}
use Rattle.flow_value.specs.declared.value.Val.TheOpen.{Val-F}
use Rattle.flow_value.specs.declared.value.Val.TheViews.{out-Val}
use Rattle.typed_tree.specs.declared.expr.TypedExpr.{TypedExpr, roll-TypedExpr}
use Rattle.typed_tree.specs.declared.expr.TypedKind.{TypedKind}
use Rattle.typed_tree.specs.declared.expr.TypedKind.TheViews.{roll-TypedKind}
use Rattle.typed_tree.specs.declared.expr.TypedKind.TheOpen.{TypedKind-F, TypedExpr-F}
use Rattle.typed_tree.specs.declared.expr.TypedKind.TheFolds.{map-TypedKind, map-TypedExpr, fold-roll-TypedKind, fold-roll-TypedExpr, ind-TypedExpr}
use Rattle.typed_tree.specs.declared.expr.Case.{Case}
use Rattle.typed_tree.specs.declared.expr.Product.{Product}
use Rattle.typed_tree.specs.declared.expr.Turns.{Turns}
use Rattle.typed_tree.specs.declared.program.Function.{Function}
use Rattle.meaning.specs.declared.words.Test.{Test}
use Rattle.meaning.specs.declared.words.Test.TheVariants as test
use Rattle.meaning.specs.declared.sources.Places.{Places}
use Rattle.meaning.specs.declared.sources.Places.TheVariants as places
use Rattle.meaning.specs.Timed.{Timed, given, plus, andthen, Below}
use Rattle.meaning.specs.Words.{value_at, test_of, goes_on}
use Rattle.meaning.specs.Sources.{places_of, lower_of}
use Rattle.meaning.specs.Meaning.{Gives, all_of, defined, body_of, chosen, with_content, arm_in, arm_place, arm_of, each, environments, at_place, folded, over, Members, member, renew, turned, turn, turns, members, unless_failed, looped, kind_gives, expr_gives, results_of, function_gives, calls, meaning, kind_meaning, meanings, definitions}
use Rattle.source_meaning.specs.Pending.{Program}
use Rattle.source_meaning.proofs.Laws.{below_refl, below_none, below_plus, below_then, below_trans, below_same}

-- ---- one layer

-- what an expression gives is what its kind gives, and one step
pub meaning_is : (n : ℕ) (p : Program) (e : TypedExpr) (env : List Val) → meaning n p e env ≡ plus 1 (kind_meaning n p e.kind (length e.types) env)
meaning_is n p e env = ap (λ g. g env) (fold-roll-TypedExpr (ℕ → Gives) Gives (kind_gives n (calls n p)) expr_gives (record { line = e.line; types = e.types; kind = e.kind }))

-- a kind, from the kinds of its parts
pub layer_is : (n : ℕ) (p : Program) (x : TypedKind-F TypedKind TypedExpr) (k : ℕ) (env : List Val)
    → kind_meaning n p (roll-TypedKind x) k env ≡ kind_gives n (calls n p) (map-TypedKind TypedKind TypedExpr (ℕ → Gives) Gives (kind_meaning n p) (meaning n p) x) k env
layer_is n p x k env = ap (λ g. g k env) (fold-roll-TypedKind (ℕ → Gives) Gives (kind_gives n (calls n p)) expr_gives x)

-- ---- what gives less

abbrev pub Less : Gives → Gives → Type 0
Less g h = (env : List Val) → Below (g env) (h env)

abbrev pub LessAll : List Gives → List Gives → Type 0
LessAll [] [] = Unit {0}
LessAll (g ∷ gs) (h ∷ hs) = Less g h × LessAll gs hs
LessAll [] (h ∷ hs) = ⊥
LessAll (g ∷ gs) [] = ⊥

abbrev pub LessDefs : List (List Gives) → List (List Gives) → Type 0
LessDefs [] [] = Unit {0}
LessDefs (d ∷ ds) (e ∷ es) = LessAll d e × LessDefs ds es
LessDefs [] (e ∷ es) = ⊥
LessDefs (d ∷ ds) [] = ⊥

pub all_below : (gs hs : List Gives) → LessAll gs hs → Less (all_of gs) (all_of hs)
all_below [] [] l env = below_refl _
all_below (g ∷ gs) (h ∷ hs) l env =
    below_then (g env) (h env) (λ vs. andthen (all_of gs env) (λ ws. given (vs ++ ws))) (λ vs. andthen (all_of hs env) (λ ws. given (vs ++ ws))) (l.0 env)
    (λ vs. below_then (all_of gs env) (all_of hs env) (λ ws. given (vs ++ ws)) (λ ws. given (vs ++ ws)) (all_below gs hs l.1 env) (λ ws. below_refl _))
all_below [] (h ∷ hs) l env = absurd l
all_below (g ∷ gs) [] l env = absurd l

pub defined_below : (ds es : List (List Gives)) → LessDefs ds es → Less (defined ds) (defined es)
defined_below [] [] l env = below_refl _
defined_below (d ∷ ds) (e ∷ es) l env =
    below_then (all_of d env) (all_of e env) (λ vs. defined ds (env ++ vs)) (λ vs. defined es (env ++ vs)) (all_below d e l.0 env) (λ vs. defined_below ds es l.1 (env ++ vs))
defined_below [] (e ∷ es) l env = absurd l
defined_below (d ∷ ds) [] l env = absurd l

pub body_below : (ds es : List (List Gives)) (gs hs : List Gives) → LessDefs ds es → LessAll gs hs → Less (body_of ds gs) (body_of es hs)
body_below ds es gs hs l k env = below_then (defined ds env) (defined es env) (all_of gs) (all_of hs) (defined_below ds es l env) (λ e. all_below gs hs k e)

pub chosen_below : (n : ℕ) (t : Test) (a b c d : Timed (List Val)) → Below a c → Below b d → Below (chosen n t a b) (chosen n t c d)
chosen_below n test.Yes a b c d h k = h
chosen_below n test.No a b c d h k = k
chosen_below n (test.Failed x) a b c d h k = below_refl _

-- ---- `tagcase`

arm_in_below : (c : Case) (n : ℕ) (gs hs : List Gives) → LessAll gs hs → (at place : ℕ) (v : Val) (env : List Val) → Below (arm_in c n (slice_get gs at) place v env) (arm_in c n (slice_get hs at) place v env)
arm_in_below c n [] [] l at place v env = below_refl _
arm_in_below c n (g ∷ gs) (h ∷ hs) l zero place v env = l.0 (with_content c.named place v env)
arm_in_below c n (g ∷ gs) (h ∷ hs) l (suc at) place v env = arm_in_below c n gs hs l.1 at place v env
arm_in_below c n [] (h ∷ hs) l at place v env = absurd l
arm_in_below c n (g ∷ gs) [] l at place v env = absurd l

pub arm_of_below : (c : Case) (n : ℕ) (gs hs : List Gives) → LessAll gs hs → (v : Val-F Val) → Less (arm_of c n gs v) (arm_of c n hs v)
arm_of_below c n gs hs l (Val-F.Uni tag v) env = arm_in_below c n gs hs l (arm_place c.choices c.others tag) (arm_place c.choices c.others tag) v env
arm_of_below c n gs hs l (Val-F.Err x) env = below_refl _
arm_of_below c n gs hs l (Val-F.Int x) env = below_refl _
arm_of_below c n gs hs l (Val-F.Bool x) env = below_refl _
arm_of_below c n gs hs l (Val-F.Char x) env = below_refl _
arm_of_below c n gs hs l Val-F.Null env = below_refl _
arm_of_below c n gs hs l (Val-F.Arr x) env = below_refl _
arm_of_below c n gs hs l (Val-F.Rec x) env = below_refl _
arm_of_below c n gs hs l (Val-F.Stream x) env = below_refl _

pub arms_less : (ds es : List (List Gives)) → LessDefs ds es → LessAll (map all_of ds) (map all_of es)
arms_less [] [] l = l
arms_less (d ∷ ds) (e ∷ es) l = (all_below d e l.0, arms_less ds es l.1)
arms_less [] (e ∷ es) l = l
arms_less (d ∷ ds) [] l = l

-- ---- loops

pub each_below : (x y : Gives) → Less x y → (es : List (List Val)) → Below (each x es) (each y es)
each_below x y h [] = below_refl _
each_below x y h (e ∷ es) =
    below_then (x e) (y e) (λ row. andthen (each x es) (λ rows. given (row ∷ rows))) (λ row. andthen (each y es) (λ rows. given (row ∷ rows))) (h e)
    (λ row. below_then (each x es) (each y es) (λ rows. given (row ∷ rows)) (λ rows. given (row ∷ rows)) (each_below x y h es) (λ rows. below_refl _))

pub at_place_below : (x y : Gives) → Less x y → Less (at_place x) (at_place y)
at_place_below x y h env = below_plus 1 (x env) (y env) (h env)

pub over_below : (q : Product) (k : ℕ) (x y : Gives) (bs : List Val) (m : Places) → Less x y → Less (over q k x bs m) (over q k y bs m)
over_below q k x y bs (places.Count m) h env =
    below_then (each (at_place x) (environments q.sources bs env m m)) (each (at_place y) (environments q.sources bs env m m)) (folded q.clauses (lower_of bs)) (folded q.clauses (lower_of bs))
    (each_below (at_place x) (at_place y) (at_place_below x y h) (environments q.sources bs env m m)) (λ rows. below_refl _)
over_below q k x y bs (places.Failed c) h env = below_refl _

pub turned_of_below : (t : Turns) (ds es : List (List Gives)) → LessDefs ds es → (env : List Val) → Less (turned t ds env) (turned t es env)
turned_of_below t ds es l env now =
    below_then (defined ds (env ++ now)) (defined es (env ++ now)) (λ all. given (renew t.renewed (drop (length (env ++ now)) all) now)) (λ all. given (renew t.renewed (drop (length (env ++ now)) all) now))
    (defined_below ds es l (env ++ now)) (λ all. below_refl _)

pub turn_below : (t : Test) (m k : List Val → Timed Members) (x y : Gives) (l : List Val) → ((v : List Val) → Below (m v) (k v)) → Less x y → Below (turn m x l t) (turn k y l t)
turn_below test.Yes m k x y l h i =
    below_plus 1 _ _ (below_then (x l) (y l) (λ v. andthen (m v) (λ s. given (member l s))) (λ v. andthen (k v) (λ s. given (member l s))) (i l)
    (λ v. below_then (m v) (k v) (λ s. given (member l s)) (λ s. given (member l s)) (h v) (λ s. below_refl _)))
turn_below test.No m k x y l h i = below_refl _
turn_below (test.Failed c) m k x y l h i = below_refl _

pub turns_below : (n : ℕ) (u : Bool) (a b : Gives) (x y : List Val → Gives) (env : List Val) → Less a b → Less (x env) (y env) → (l : List Val) → Below (turns n u a x env l) (turns (suc n) u b y env l)
turns_below zero u a b x y env h i l = below_none _
turns_below (suc n) u a b x y env h i l =
    below_then (a (env ++ l)) (b (env ++ l)) (λ ts. turn (turns n u a x env) (x env) l (goes_on u (test_of ts))) (λ ts. turn (turns (suc n) u b y env) (y env) l (goes_on u (test_of ts))) (h (env ++ l))
    (λ ts. turn_below (goes_on u (test_of ts)) (turns n u a x env) (turns (suc n) u b y env) (x env) (y env) l (turns_below n u a b x y env h i) i)

pub members_below : (n : ℕ) (f u : Bool) (a b : Gives) (x y : List Val → Gives) (env : List Val) → Less a b → Less (x env) (y env) → (l : List Val) → Below (members n f u a x env l) (members (suc n) f u b y env l)
members_below n true u a b x y env h i l = turns_below n u a b x y env h i l
members_below n false u a b x y env h i l = turn_below test.Yes (turns n u a x env) (turns (suc n) u b y env) (x env) (y env) l (turns_below n u a b x y env h i) i

pub looped_below : (n : ℕ) (t : Turns) (k : ℕ) (a b : Gives) (x y : List Val → Gives) (v w : Gives) → Less a b → ((env : List Val) → Less (x env) (y env)) → Less v w
    → (env l : List Val) → Below (looped n t k a x v env l) (looped (suc n) t k b y w env l)
looped_below n t k a b x y v w h i j env l =
    below_then (members n t.is_first t.is_until a x env l) (members (suc n) t.is_first t.is_until b y env l)
    (λ s. andthen (each (λ m. v (env ++ m)) s.lists) (λ rows. unless_failed k s.failure (folded t.clauses (pos 1) rows)))
    (λ s. andthen (each (λ m. w (env ++ m)) s.lists) (λ rows. unless_failed k s.failure (folded t.clauses (pos 1) rows)))
    (members_below n t.is_first t.is_until a b x y env h (i env) l)
    (λ s. below_then (each (λ m. v (env ++ m)) s.lists) (each (λ m. w (env ++ m)) s.lists)
    (λ rows. unless_failed k s.failure (folded t.clauses (pos 1) rows)) (λ rows. unless_failed k s.failure (folded t.clauses (pos 1) rows))
    (each_below (λ m. v (env ++ m)) (λ m. w (env ++ m)) (λ m. j (env ++ m)) s.lists) (λ rows. below_refl _))

-- ---- one form, from its parts

abbrev pub CallsGrow : ℕ → Program → Type 0
CallsGrow n p = (f : ℕ) → Less (calls n p f) (calls (suc n) p f)

abbrev Grows : ℕ → Program → TypedExpr → Type 0
Grows n p e = Less (meaning n p e) (meaning (suc n) p e)

abbrev KindGrows : ℕ → Program → TypedKind → Type 0
KindGrows n p x = (k : ℕ) → Less (kind_meaning n p x k) (kind_meaning (suc n) p x k)

abbrev Proved : ℕ → Program → Type 0
Proved n p = (e : TypedExpr) × Grows n p e

abbrev KindProved : ℕ → Program → Type 0
KindProved n p = (x : TypedKind) × KindGrows n p x

parts_less : (n : ℕ) (p : Program) (es : List (Proved n p)) → LessAll (map (meaning n p) (map (λ e. e.0) es)) (map (meaning (suc n) p) (map (λ e. e.0) es))
parts_less n p [] = tt
parts_less n p (e ∷ es) = (e.1, parts_less n p es)

lists_less : (n : ℕ) (p : Program) (ds : List (List (Proved n p)))
    → LessDefs (map (map (meaning n p)) (map (map (λ e. e.0)) ds)) (map (map (meaning (suc n) p)) (map (map (λ e. e.0)) ds))
lists_less n p [] = tt
lists_less n p (d ∷ ds) = (parts_less n p d, lists_less n p ds)

-- the forms of a kind whose parts are proved
abbrev bare : (n : ℕ) (p : Program) → TypedKind-F (KindProved n p) (Proved n p) → TypedKind-F TypedKind TypedExpr
bare n p y = map-TypedKind (KindProved n p) (Proved n p) TypedKind TypedExpr (λ x. x.0) (λ e. e.0) y

abbrev given_parts : (n : ℕ) (p : Program) → TypedKind-F TypedKind TypedExpr → TypedKind-F (ℕ → Gives) Gives
given_parts n p x = map-TypedKind TypedKind TypedExpr (ℕ → Gives) Gives (kind_meaning n p) (meaning n p) x

kind_grows : (n : ℕ) (p : Program) → CallsGrow n p → (y : TypedKind-F (KindProved n p) (Proved n p)) (k : ℕ) (env : List Val)
    → Below (kind_gives n (calls n p) (given_parts n p (bare n p y)) k env) (kind_gives (suc n) (calls (suc n) p) (given_parts (suc n) p (bare n p y)) k env)
kind_grows n p h (TypedKind-F.Constant c) k env = below_refl _
kind_grows n p h (TypedKind-F.Value x) k env = below_refl _
kind_grows n p h (TypedKind-F.Group es) k env = all_below _ _ (parts_less n p es) env
kind_grows n p h (TypedKind-F.Call f es) k env = below_then _ _ _ _ (all_below _ _ (parts_less n p es) env) (λ vs. h f vs)
kind_grows n p h (TypedKind-F.Apply o es) k env = below_then _ _ _ _ (all_below _ _ (parts_less n p es) env) (λ vs. below_refl _)
kind_grows n p h (TypedKind-F.Let ds es) k env = body_below _ _ _ _ (lists_less n p ds) (parts_less n p es) env
kind_grows n p h (TypedKind-F.If ts ys ns) k env =
    below_then _ _ _ _ (all_below _ _ (parts_less n p ts) env) (λ vs. chosen_below k (test_of vs) _ _ _ _ (all_below _ _ (parts_less n p ys) env) (all_below _ _ (parts_less n p ns) env))
kind_grows n p h (TypedKind-F.Case c us arms) k env =
    below_then _ _ _ _ (all_below _ _ (parts_less n p us) env) (λ vs. arm_of_below c k _ _ (arms_less _ _ (lists_less n p arms)) (out-Val (value_at vs 0)) env)
kind_grows n p h (TypedKind-F.Product q bs ds es) k env =
    below_then _ _ _ _ (all_below _ _ (parts_less n p bs) env)
    (λ vs. below_plus (length q.sources) _ _ (over_below q k _ _ vs (places_of q.sources vs) (body_below _ _ _ _ (lists_less n p ds) (parts_less n p es)) env))
kind_grows n p h (TypedKind-F.Initial t fs ts ds es) k env =
    below_then _ _ _ _ (defined_below _ _ (lists_less n p fs) env)
    (λ all. looped_below n t k _ _ _ _ _ _ (all_below _ _ (parts_less n p ts)) (turned_of_below t _ _ (lists_less n p ds)) (all_below _ _ (parts_less n p es)) env (drop (length env) all))

-- ---- the whole tree

kind_step : (n : ℕ) (p : Program) → CallsGrow n p → (y : TypedKind-F (KindProved n p) (Proved n p)) → KindGrows n p (roll-TypedKind (bare n p y))
kind_step n p h y k env =
    below_trans _ _ _ (below_same _ _ (layer_is n p (bare n p y) k env)) (below_trans _ _ _ (kind_grows n p h y k env) (below_same _ _ (sym (layer_is (suc n) p (bare n p y) k env))))

expr_step : (n : ℕ) (p : Program) (e : TypedExpr) → KindGrows n p e.kind → Grows n p e
expr_step n p e h env =
    below_trans _ _ _ (below_same _ _ (meaning_is n p e env)) (below_trans _ _ _ (below_plus 1 _ _ (h (length e.types) env)) (below_same _ _ (sym (meaning_is (suc n) p e env))))

whole_step : (n : ℕ) (p : Program) (y : TypedExpr-F (KindProved n p) (Proved n p)) → Grows n p (roll-TypedExpr (map-TypedExpr (KindProved n p) (Proved n p) TypedKind TypedExpr (λ x. x.0) (λ e. e.0) y))
whole_step n p y = expr_step n p (roll-TypedExpr (map-TypedExpr (KindProved n p) (Proved n p) TypedKind TypedExpr (λ x. x.0) (λ e. e.0) y)) y.kind.1

meaning_grows_if : (n : ℕ) (p : Program) → CallsGrow n p → (e : TypedExpr) → Grows n p e
meaning_grows_if n p h =
    ind-TypedExpr (KindGrows n p) (Grows n p) (λ x y is. subst (λ z. KindGrows n p (roll-TypedKind z)) is (kind_step n p h y)) (λ x y is. subst (λ z. Grows n p (roll-TypedExpr z)) is (whole_step n p y))

pub meaning_less : (n : ℕ) (p : Program) → ((e : TypedExpr) → Grows n p e) → (es : List TypedExpr) → LessAll (map (meaning n p) es) (map (meaning (suc n) p) es)
meaning_less n p h [] = tt
meaning_less n p h (e ∷ es) = (h e, meaning_less n p h es)

results_grow : (n : ℕ) (p : Program) → ((e : TypedExpr) → Grows n p e) → (k : ℕ) (o : Option (List TypedExpr)) → Less (results_of k o (meaning n p)) (results_of k o (meaning (suc n) p))
results_grow n p h k None env = below_refl _
results_grow n p h k (Some es) env = all_below _ _ (meaning_less n p h es) env

function_grows : (n : ℕ) (p : Program) → ((e : TypedExpr) → Grows n p e) → (o : Option Function) → Less (function_gives o (meaning n p)) (function_gives o (meaning (suc n) p))
function_grows n p h None env = below_refl _
function_grows n p h (Some f) env = results_grow n p h (length f.results) f.body env

pub calls_grow : (n : ℕ) (p : Program) (f : ℕ) → Less (calls n p f) (calls (suc n) p f)
calls_grow zero p f env = below_none _
calls_grow (suc n) p f env = function_grows n p (meaning_grows_if n p (calls_grow n p)) (slice_get p f) env

pub meaning_grows : (n : ℕ) (p : Program) (e : TypedExpr) → Less (meaning n p e) (meaning (suc n) p e)
meaning_grows n p = meaning_grows_if n p (calls_grow n p)

-- the values of expressions, each less at the lower depth
pub all_less : (n : ℕ) (p : Program) (es : List TypedExpr) → LessAll (map (meaning n p) es) (map (meaning (suc n) p) es)
all_less n p es = meaning_less n p (meaning_grows n p) es

pub defs_less : (n : ℕ) (p : Program) (ds : List (List TypedExpr)) → LessDefs (map (map (meaning n p)) ds) (map (map (meaning (suc n) p)) ds)
defs_less n p [] = tt
defs_less n p (d ∷ ds) = (all_less n p d, defs_less n p ds)

pub meanings_grow : (n : ℕ) (p : Program) (es : List TypedExpr) → Less (meanings n p es) (meanings (suc n) p es)
meanings_grow n p es = all_below _ _ (all_less n p es)

pub definitions_grow : (n : ℕ) (p : Program) (ds : List (List TypedExpr)) → Less (definitions n p ds) (definitions (suc n) p ds)
definitions_grow n p ds = defined_below _ _ (defs_less n p ds)

pub arm_below : (n : ℕ) (p : Program) (c : Case) (k : ℕ) (arms : List (List TypedExpr)) (v : Val-F Val)
    → Less (arm_of c k (map all_of (map (map (meaning n p)) arms)) v) (arm_of c k (map all_of (map (map (meaning (suc n) p)) arms)) v)
arm_below n p c k arms v = arm_of_below c k _ _ (arms_less _ _ (defs_less n p arms)) v

pub turned_below : (n : ℕ) (p : Program) (t : Turns) (ds : List (List TypedExpr)) (env : List Val)
    → Less (turned t (map (map (meaning n p)) ds) env) (turned t (map (map (meaning (suc n) p)) ds) env)
turned_below n p t ds env = turned_of_below t _ _ (defs_less n p ds) env

pub body_grow : (n : ℕ) (p : Program) (ds : List (List TypedExpr)) (es : List TypedExpr)
    → Less (body_of (map (map (meaning n p)) ds) (map (meaning n p) es)) (body_of (map (map (meaning (suc n) p)) ds) (map (meaning (suc n) p) es))
body_grow n p ds es = body_below _ _ _ _ (defs_less n p ds) (all_less n p es)
