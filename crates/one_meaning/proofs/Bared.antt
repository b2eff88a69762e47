-- What an expression gives does not hang on the numbers of types.
use Rattle.std.proofs.Common.{◌≡◌, ◌∙◌, ℕ, zero, suc, List, [], ◌∷◌, map, length, Option, Some, None, option_map, slice_get, refl, sym, ap, subst}
use Rattle.std.proofs.lemmas.List.{length-map}
use Rattle.std.proofs.lemmas.Option.{slice_get-map}
use Rattle.flow_value.specs.declared.value.Val.{Val}
use Rattle.typed_tree.specs.declared.expr.TypedExpr.{TypedExpr, roll-TypedExpr}
use Rattle.typed_tree.specs.declared.expr.TypedKind.{TypedKind}
use Rattle.typed_tree.specs.declared.expr.TypedKind.TheViews.{roll-TypedKind}
use Rattle.typed_tree.specs.declared.expr.TypedKind.TheOpen.{TypedKind-F, TypedExpr-F}
use Rattle.typed_tree.specs.declared.expr.TypedKind.TheFolds.{map-TypedKind, map-TypedExpr, ind-TypedExpr, fold-roll-TypedKind, fold-roll-TypedExpr}
use Rattle.typed_tree.specs.declared.program.Function.{Function}
use Rattle.sisal_tree.specs.declared.unit.Unit as tree
use Rattle.typed_tree.specs.Units.{IsTyped}
use Rattle.typed_tree.specs.declared.program.Program.{Program}
use Rattle.typing_unique.specs.UnitLaws.{AreSpelledOnce}
use Rattle.typing_unique.specs.Bare.{blank, bare, bare_expr, bare_kind, bares, bare_body, bare_function, bare_program, OneShapeLaw}
use Rattle.meaning.specs.Timed.{plus}
use Rattle.meaning.specs.Meaning.{Gives, all_of, results_of, function_gives}
use Rattle.meaning.specs.Plain.{Depth, Deep, called, kind_at, expr_at, plain, plain_kind, depth, plain_calls}
use Rattle.one_meaning.specs.Laws.{AreNumbersNothing, IsOneMeaning}

abbrev Same : TypedExpr → Type 0
Same e = plain (bare e) ≡ plain e

abbrev KindSame : TypedKind → Type 0
KindSame x = plain_kind (bare_kind x) ≡ plain_kind x

abbrev Proved : Type 0
Proved = (e : TypedExpr) × Same e

abbrev KindProved : Type 0
KindProved = (x : TypedKind) × KindSame x

abbrev firsts : TypedKind-F KindProved Proved → TypedKind-F TypedKind TypedExpr
firsts y = map-TypedKind KindProved Proved TypedKind TypedExpr (λ x. x.0) (λ e. e.0) y

abbrev bared : TypedKind-F TypedKind TypedExpr → TypedKind-F TypedKind TypedExpr
bared x = map-TypedKind TypedKind TypedExpr TypedKind TypedExpr bare_kind bare x

abbrev given_parts : TypedKind-F TypedKind TypedExpr → TypedKind-F (Depth → ℕ → Gives) Deep
given_parts x = map-TypedKind TypedKind TypedExpr (Depth → ℕ → Gives) Deep plain_kind plain x

parts : (es : List Proved) → map plain (map bare (map (λ e. e.0) es)) ≡ map plain (map (λ e. e.0) es)
parts [] = refl
parts (e ∷ es) = ap (λ (g : Deep). g ∷ map plain (map bare (map (λ e. e.0) es))) e.1 ∙ ap (λ (l : List Deep). plain e.0 ∷ l) (parts es)

lists : (ds : List (List Proved)) → map (map plain) (map (map bare) (map (map (λ e. e.0)) ds)) ≡ map (map plain) (map (map (λ e. e.0)) ds)
lists [] = refl
lists (d ∷ ds) =
    ap (λ (l : List Deep). l ∷ map (map plain) (map (map bare) (map (map (λ e. e.0)) ds))) (parts d) ∙ ap (λ (l : List (List Deep)). map plain (map (λ e. e.0) d) ∷ l) (lists ds)

abbrev Open : Type 0
Open = TypedKind-F (Depth → ℕ → Gives) Deep

abbrev gs : List Proved → List Deep
gs es = map plain (map (λ e. e.0) es)

abbrev ls : List (List Proved) → List (List Deep)
ls ds = map (map plain) (map (map (λ e. e.0)) ds)

abbrev bs : List Proved → List Deep
bs es = map plain (map bare (map (λ e. e.0) es))

abbrev ms : List (List Proved) → List (List Deep)
ms ds = map (map plain) (map (map bare) (map (map (λ e. e.0)) ds))

made : {A : Type 0} (f : A → Open) (x y : A) → x ≡ y → f x ≡ f y
made f x y e = ap f e

same_parts : (y : TypedKind-F KindProved Proved) → given_parts (bared (firsts y)) ≡ given_parts (firsts y)
same_parts (TypedKind-F.Constant c) = refl
same_parts (TypedKind-F.Value x) = refl
same_parts (TypedKind-F.Group es) = made (λ z. TypedKind-F.Group z) (bs es) (gs es) (parts es)
same_parts (TypedKind-F.Call f es) = made (λ z. TypedKind-F.Call f z) (bs es) (gs es) (parts es)
same_parts (TypedKind-F.Apply o es) = made (λ z. TypedKind-F.Apply o z) (bs es) (gs es) (parts es)
same_parts (TypedKind-F.Let ds es) = made (λ z. TypedKind-F.Let z (bs es)) (ms ds) (ls ds) (lists ds) ∙ made (λ z. TypedKind-F.Let (ls ds) z) (bs es) (gs es) (parts es)
same_parts (TypedKind-F.If ts ys ns) =
    made (λ z. TypedKind-F.If z (bs ys) (bs ns)) (bs ts) (gs ts) (parts ts) ∙ made (λ z. TypedKind-F.If (gs ts) z (bs ns)) (bs ys) (gs ys) (parts ys)
    ∙ made (λ z. TypedKind-F.If (gs ts) (gs ys) z) (bs ns) (gs ns) (parts ns)
same_parts (TypedKind-F.Case c us rs) = made (λ z. TypedKind-F.Case c z (ms rs)) (bs us) (gs us) (parts us) ∙ made (λ z. TypedKind-F.Case c (gs us) z) (ms rs) (ls rs) (lists rs)
same_parts (TypedKind-F.Product q cs ds es) =
    made (λ z. TypedKind-F.Product q z (ms ds) (bs es)) (bs cs) (gs cs) (parts cs) ∙ made (λ z. TypedKind-F.Product q (gs cs) z (bs es)) (ms ds) (ls ds) (lists ds)
    ∙ made (λ z. TypedKind-F.Product q (gs cs) (ls ds) z) (bs es) (gs es) (parts es)
same_parts (TypedKind-F.Initial t fs ts ds es) =
    made (λ z. TypedKind-F.Initial t z (bs ts) (ms ds) (bs es)) (ms fs) (ls fs) (lists fs) ∙ made (λ z. TypedKind-F.Initial t (ls fs) z (ms ds) (bs es)) (bs ts) (gs ts) (parts ts)
    ∙ made (λ z. TypedKind-F.Initial t (ls fs) (gs ts) z (bs es)) (ms ds) (ls ds) (lists ds) ∙ made (λ z. TypedKind-F.Initial t (ls fs) (gs ts) (ls ds) z) (bs es) (gs es) (parts es)

kind_layer : (x : TypedKind-F TypedKind TypedExpr) → plain_kind (roll-TypedKind x) ≡ kind_at (given_parts x)
kind_layer x = fold-roll-TypedKind (Depth → ℕ → Gives) Deep kind_at expr_at x

kind_step : (y : TypedKind-F KindProved Proved) → KindSame (roll-TypedKind (firsts y))
kind_step y =
    ap plain_kind (fold-roll-TypedKind TypedKind TypedExpr roll-TypedKind bare_expr (firsts y))
    ∙ kind_layer (bared (firsts y))
    ∙ ap kind_at (same_parts y)
    ∙ sym (kind_layer (firsts y))

abbrev whole : (Depth → ℕ → Gives) → ℕ → Deep
whole g n d env = plus 1 (g d n env)

whole_is : (e : TypedExpr) → plain e ≡ whole (plain_kind e.kind) (length e.types)
whole_is e = fold-roll-TypedExpr (Depth → ℕ → Gives) Deep kind_at expr_at (record { line = e.line; types = e.types; kind = e.kind })

bare_is : (e : TypedExpr) → bare e ≡ record { line = e.line; types = blank e.types; kind = bare_kind e.kind }
bare_is e = fold-roll-TypedExpr TypedKind TypedExpr roll-TypedKind bare_expr (record { line = e.line; types = e.types; kind = e.kind })

expr_step : (e : TypedExpr) → KindSame e.kind → Same e
expr_step e h =
    ap plain (bare_is e)
    ∙ whole_is (record { line = e.line; types = blank e.types; kind = bare_kind e.kind })
    ∙ ap (λ n. whole (plain_kind (bare_kind e.kind)) n) (length-map e.types (λ n. 0))
    ∙ ap (λ g. whole g (length e.types)) h
    ∙ sym (whole_is e)

whole_step : (y : TypedExpr-F KindProved Proved) → Same (roll-TypedExpr (map-TypedExpr KindProved Proved TypedKind TypedExpr (λ x. x.0) (λ e. e.0) y))
whole_step y = expr_step (roll-TypedExpr (map-TypedExpr KindProved Proved TypedKind TypedExpr (λ x. x.0) (λ e. e.0) y)) y.kind.1

pub same : (e : TypedExpr) → Same e
same = ind-TypedExpr KindSame Same (λ x y is. subst (λ z. KindSame (roll-TypedKind z)) is (kind_step y)) (λ x y is. subst (λ z. Same (roll-TypedExpr z)) is (whole_step y))

-- ---- functions

all_same : (d : Depth) (es : List TypedExpr) → map (λ e. plain e d) (bares es) ≡ map (λ e. plain e d) es
all_same d [] = refl
all_same d (e ∷ es) = ap (λ (g : Gives). g ∷ map (λ e. plain e d) (bares es)) (ap (λ (g : Deep). g d) (same e)) ∙ ap (λ (l : List Gives). plain e d ∷ l) (all_same d es)

results_same : (d : Depth) (n k : ℕ) (o : Option (List TypedExpr)) (env : List Val) → n ≡ k → results_of n (bare_body o) (λ e. plain e d) env ≡ results_of k o (λ e. plain e d) env
results_same d n k None env h = ap (λ m. results_of m None (λ e. plain e d) env) h
results_same d n k (Some es) env h = ap (λ (l : List Gives). all_of l env) (all_same d es)

function_same : (d : Depth) (o : Option Function) (env : List Val) → function_gives (option_map bare_function o) (λ e. plain e d) env ≡ function_gives o (λ e. plain e d) env
function_same d None env = refl
function_same d (Some f) env = results_same d (length (blank f.results)) (length f.results) f.body env (length-map f.results (λ n. 0))

at_same : (d : Depth) (fs : List Function) (f : ℕ) (env : List Val) → function_gives (slice_get (map bare_function fs) f) (λ e. plain e d) env ≡ function_gives (slice_get fs f) (λ e. plain e d) env
at_same d fs f env = ap (λ o. function_gives o (λ e. plain e d) env) (slice_get-map bare_function fs f) ∙ function_same d (slice_get fs f) env

depth_same : (n : ℕ) (fs : List Function) → depth n (map bare_function fs) ≡ depth n fs
depth_same zero fs = refl
depth_same (suc n) fs =
    ap (λ (d : Depth). (λ f. function_gives (slice_get (map bare_function fs) f) (λ e. plain e d)) ∷ d) (depth_same n fs)
    ∙ ap (λ (c : ℕ → Gives). c ∷ depth n fs) (λ i f env. at_same (depth n fs) fs f env i)

pub numbers_nothing : AreNumbersNothing
numbers_nothing n f fs vs = ap (λ (d : Depth). called d f vs) (depth_same n fs)

pub one_meaning : OneShapeLaw → IsOneMeaning
one_meaning shape u p q once s t n f vs =
    sym (numbers_nothing n f p.functions vs)
    ∙ ap (λ (r : Program). plain_calls n r.functions f vs) (shape u p q once s t)
    ∙ numbers_nothing n f q.functions vs
