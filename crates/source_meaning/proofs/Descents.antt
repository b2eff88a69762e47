-- Turns whose parts go one depth less at each give the same as turns whose parts all go to one depth.
use Rattle.std.proofs.Common.{◌≡◌, ℕ, zero, suc, ◌+◌, Bool, List, ◌++◌, map, ap, subst, arith}
use Rattle.flow_value.specs.declared.value.Val.{Val}
use Rattle.typed_tree.specs.declared.expr.TypedExpr.{TypedExpr}
use Rattle.typed_tree.specs.declared.expr.Turns.{Turns}
use Rattle.meaning.specs.Timed.{Below}
use Rattle.meaning.specs.Words.{test_of, goes_on}
use Rattle.meaning.specs.Meaning.{Gives, turned, turn, turns, meaning, meanings}
use Rattle.meaning.specs.Descents.{descending, turns_to, turns_down}
use Rattle.source_meaning.specs.Pending.{Program}
use Rattle.source_meaning.proofs.Laws.{below_none, below_then, below_trans, below_same}
use Rattle.source_meaning.proofs.Grows.{Less, turn_below, meanings_grow, turned_below}

abbrev Tests : Type 0
Tests = ℕ → Gives

abbrev Nexts : Type 0
Nexts = ℕ → List Val → Gives

abbrev TestsGrow : Tests → Type 0
TestsGrow t = (n : ℕ) → Less (t n) (t (suc n))

abbrev NextsGrow : Nexts → Type 0
NextsGrow x = (n : ℕ) (env : List Val) → Less (x n env) (x (suc n) env)

-- the same number of turns, of parts that give more
turns_more : (n : ℕ) (u : Bool) (a b : Gives) (x y : List Val → Gives) (env : List Val) → Less a b → Less (x env) (y env) → (l : List Val) → Below (turns n u a x env l) (turns n u b y env l)
turns_more zero u a b x y env h i l = below_none _
turns_more (suc n) u a b x y env h i l =
    below_then (a (env ++ l)) (b (env ++ l)) (λ ts. turn (turns n u a x env) (x env) l (goes_on u (test_of ts))) (λ ts. turn (turns n u b y env) (y env) l (goes_on u (test_of ts))) (h (env ++ l))
    (λ ts. turn_below (goes_on u (test_of ts)) (turns n u a x env) (turns n u b y env) (x env) (y env) l (turns_more n u a b x y env h i) i)

down_below : (n : ℕ) (u : Bool) (t : Tests) (x : Nexts) (env : List Val) → TestsGrow t → NextsGrow x → (l : List Val) → Below (descending n u t x env l) (turns n u (t n) (x n) env l)
down_below zero u t x env h i l = below_none _
down_below (suc n) u t x env h i l =
    below_then (t n (env ++ l)) (t (suc n) (env ++ l)) (λ ts. turn (descending n u t x env) (x n env) l (goes_on u (test_of ts))) (λ ts. turn (turns n u (t (suc n)) (x (suc n)) env) (x (suc n) env) l (goes_on u (test_of ts))) (h n (env ++ l))
    (λ ts. turn_below (goes_on u (test_of ts)) (descending n u t x env) (turns n u (t (suc n)) (x (suc n)) env) (x n env) (x (suc n) env) l
    (λ v. below_trans _ _ _ (down_below n u t x env h i v) (turns_more n u (t n) (t (suc n)) (x n) (x (suc n)) env (h n) (i n env) v)) (i n env))

tests_later : (t : Tests) → TestsGrow t → (d n : ℕ) → Less (t d) (t (n + d))
tests_later t h d zero env = below_same _ _ (ap (λ k. t k env) (omega arith))
tests_later t h d (suc n) env = below_trans _ _ _ (tests_later t h d n env) (below_trans _ _ _ (h (n + d) env) (below_same _ _ (ap (λ k. t k env) (omega arith))))

nexts_later : (x : Nexts) → NextsGrow x → (d n : ℕ) (env : List Val) → Less (x d env) (x (n + d) env)
nexts_later x h d n env = tests_later (λ k. x k env) (λ k. h k env) d n

up_below : (n d : ℕ) (u : Bool) (t : Tests) (x : Nexts) (env : List Val) → TestsGrow t → NextsGrow x → (l : List Val) → Below (turns n u (t d) (x d) env l) (descending (n + d) u t x env l)
up_below zero d u t x env h i l = below_none _
up_below (suc n) d u t x env h i l =
    let e : suc (n + d) ≡ suc n + d = omega arith in
    subst (λ k. Below (turns (suc n) u (t d) (x d) env l) (descending k u t x env l)) e
    (below_then (t d (env ++ l)) (t (n + d) (env ++ l)) (λ ts. turn (turns n u (t d) (x d) env) (x d env) l (goes_on u (test_of ts))) (λ ts. turn (descending (n + d) u t x env) (x (n + d) env) l (goes_on u (test_of ts))) (tests_later t h d n (env ++ l))
    (λ ts. turn_below (goes_on u (test_of ts)) (turns n u (t d) (x d) env) (descending (n + d) u t x env) (x d env) (x (n + d) env) l (up_below n d u t x env h i) (nexts_later x i d n env)))

pub falls : (p : Program) (t : Turns) (ts : List TypedExpr) (ds : List (List TypedExpr)) (env l : List Val) (n : ℕ) → Below (turns_down n p t ts ds env l) (turns_to n n p t ts ds env l)
falls p t ts ds env l n =
    down_below n t.is_until (λ d. meanings d p ts) (λ d. turned t (map (map (meaning d p)) ds)) env (λ d. meanings_grow d p ts) (λ d e. turned_below d p t ds e) l

pub rises : (p : Program) (t : Turns) (ts : List TypedExpr) (ds : List (List TypedExpr)) (env l : List Val) (n d : ℕ) → Below (turns_to n d p t ts ds env l) (turns_down (n + d) p t ts ds env l)
rises p t ts ds env l n d =
    up_below n d t.is_until (λ d. meanings d p ts) (λ d. turned t (map (map (meaning d p)) ds)) env (λ d. meanings_grow d p ts) (λ d e. turned_below d p t ds e) l
