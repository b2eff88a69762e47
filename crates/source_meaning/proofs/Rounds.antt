-- One turn of a `for initial`, with the values of its clauses taken before the test.
use Rattle.std.proofs.Common.{◌≡◌, ℕ, suc, Bool, true, false, List, [], ◌∷◌, ◌++◌, Option, Some, None, refl, sym, ap, ◌∙◌}
use Rattle.flow_value.specs.declared.value.Val.{Val}
use Rattle.loop_folds.specs.Clauses.{ClauseCells}
use Rattle.typed_tree.specs.declared.expr.TypedExpr.{TypedExpr}
use Rattle.meaning.specs.declared.words.Test.{Test}
use Rattle.meaning.specs.declared.words.Test.TheVariants as test
use Rattle.source_meaning.specs.declared.state.Turned.{Turned}
use Rattle.source_meaning.specs.declared.state.Frame.{Frame}
use Rattle.meaning.specs.Timed.{Timed, given, plus, andthen, Below, Moves}
use Rattle.meaning.specs.Words.{failed, test_of, goes_on}
use Rattle.meaning.specs.Rows.{with_row, with_rows}
use Rattle.meaning.specs.Meaning.{Gives, Members, member, each, turn, turns, meanings}
use Rattle.source_meaning.specs.Pending.{Program, Rest, turned_next, ended, closed, round, tested, collected, rest}
use Rattle.source_meaning.proofs.Laws.{below_refl, below_plus, below_then, below_trans, below_same, given_then, then_same, then_then, then_plus, plus_then, swap, joined, moves_same}
use Rattle.source_meaning.proofs.Grows.{Less, meanings_grow, members_below, each_below}
use Rattle.source_meaning.proofs.Rests.{Lower, closed_below, turned_grows, rest_grows}

-- the clauses over the loop names, and what goes on behind the loop
abbrev pub folds : Turned → Gives → Rest → List Val → List ClauseCells → Members → Timed (List Val)
folds t V k env fs s = andthen (each (λ m. V (env ++ m)) s.lists) (λ rows. closed t k env (with_rows t.form.now.clauses fs rows) s.failure)

abbrev pub after_test : (List Val → Timed Members) → Gives → Turned → Gives → Rest → List Val → List ClauseCells → List Val → Test → Timed (List Val)
after_test more next t V k env fs l test.Yes = plus 1 (andthen (next l) (λ m. andthen (more m) (folds t V k env fs)))
after_test more next t V k env fs l test.No = ended t k env fs
after_test more next t V k env fs l (test.Failed c) = k env (failed t.results c)

-- the first member's values come first
folds_first : (t : Turned) (V : Gives) (k : Rest) (env : List Val) (fs : List ClauseCells) (l : List Val) (s : Members)
    → folds t V k env fs (member l s) ≡ andthen (V (env ++ l)) (λ row. folds t V k env (with_row t.form.now.clauses fs row) s)
folds_first t V k env fs l s =
    let C : List (List Val) → Timed (List Val) = λ rows. closed t k env (with_rows t.form.now.clauses fs rows) s.failure in
    joined (V (env ++ l)) (λ row. andthen (each (λ m. V (env ++ m)) s.lists) (λ rows. given (row ∷ rows))) C (λ row. folds t V k env (with_row t.form.now.clauses fs row) s)
    (λ row. joined (each (λ m. V (env ++ m)) s.lists) (λ rows. given (row ∷ rows)) C (λ rows. closed t k env (with_rows t.form.now.clauses (with_row t.form.now.clauses fs row) rows) s.failure)
    (λ rows. given_then (row ∷ rows) C))

-- the last member
ends : (t : Turned) (V : Gives) (k : Rest) (env : List Val) (fs : List ClauseCells) (l : List Val) (o : Option _)
    → andthen (given (member l (record { lists = []; failure = o }))) (folds t V k env fs) ≡ andthen (V (env ++ l)) (λ row. closed t k env (with_row t.form.now.clauses fs row) o)
ends t V k env fs l o =
    let s : Members = record { lists = []; failure = o } in
    given_then (member l s) (folds t V k env fs)
    ∙ folds_first t V k env fs l s
    ∙ then_same (V (env ++ l)) _ _ (λ row. given_then [] (λ rows. closed t k env (with_rows t.form.now.clauses (with_row t.form.now.clauses fs row) rows) o))

at_test : (more : List Val → Timed Members) (next : Gives) (t : Turned) (V : Gives) (k : Rest) (env : List Val) (fs : List ClauseCells) (l : List Val) (x : Test)
    → andthen (turn more next l x) (folds t V k env fs) ≡ andthen (V (env ++ l)) (λ row. after_test more next t V k env (with_row t.form.now.clauses fs row) l x)
at_test more next t V k env fs l test.No = ends t V k env fs l None
at_test more next t V k env fs l (test.Failed c) = ends t V k env fs l (Some c)
at_test more next t V k env fs l test.Yes =
    let F : Members → Timed (List Val) = folds t V k env fs in
    let G : List Val → Members → Timed (List Val) = λ row. folds t V k env (with_row t.form.now.clauses fs row) in
    let B : Timed Members = andthen (next l) (λ m. andthen (more m) (λ s. given (member l s))) in
    let e1 : andthen (plus 1 B) F ≡ plus 1 (andthen B F) = plus_then 1 B F in
    let e2 : andthen B F ≡ andthen (next l) (λ m. andthen (more m) (λ s. F (member l s))) =
    joined (next l) (λ m. andthen (more m) (λ s. given (member l s))) F (λ m. andthen (more m) (λ s. F (member l s)))
    (λ m. joined (more m) (λ s. given (member l s)) F (λ s. F (member l s)) (λ s. given_then (member l s) F)) in
    let e3 : andthen (next l) (λ m. andthen (more m) (λ s. F (member l s))) ≡ andthen (next l) (λ m. andthen (V (env ++ l)) (λ row. andthen (more m) (G row))) =
    then_same (next l) _ _ (λ m. then_same (more m) _ _ (λ s. folds_first t V k env fs l s) ∙ swap (more m) (V (env ++ l)) (λ s row. G row s)) in
    let e4 : andthen (next l) (λ m. andthen (V (env ++ l)) (λ row. andthen (more m) (G row))) ≡ andthen (V (env ++ l)) (λ row. andthen (next l) (λ m. andthen (more m) (G row))) =
    swap (next l) (V (env ++ l)) (λ m row. andthen (more m) (G row)) in
    e1 ∙ ap (plus 1) (e2 ∙ e3 ∙ e4) ∙ sym (then_plus 1 (V (env ++ l)) (λ row. andthen (next l) (λ m. andthen (more m) (G row))))

-- one turn with the test first, and with the clauses first
one_turn : (more : List Val → Timed Members) (tests next : Gives) (u : Bool) (t : Turned) (V : Gives) (k : Rest) (env : List Val) (fs : List ClauseCells) (l : List Val)
    → andthen (andthen (tests (env ++ l)) (λ ts. turn more next l (goes_on u (test_of ts)))) (folds t V k env fs)
    ≡ andthen (V (env ++ l)) (λ row. andthen (tests (env ++ l)) (λ ts. after_test more next t V k env (with_row t.form.now.clauses fs row) l (goes_on u (test_of ts))))
one_turn more tests next u t V k env fs l =
    then_then (tests (env ++ l)) (λ ts. turn more next l (goes_on u (test_of ts))) (folds t V k env fs)
    ∙ then_same (tests (env ++ l)) _ _ (λ ts. at_test more next t V k env fs l (goes_on u (test_of ts)))
    ∙ swap (tests (env ++ l)) (V (env ++ l)) (λ ts row. after_test more next t V k env (with_row t.form.now.clauses fs row) l (goes_on u (test_of ts)))

cases : (n : ℕ) (p : Program) (t : Turned) (k : Rest) (env : List Val) (fs : List ClauseCells) (l : List Val) (x : Test)
    → after_test (turns n t.form.now.is_until (meanings n p t.test.now) (turned_next n p t) env) (turned_next n p t env) t (meanings n p t.values.now) k env fs l x ≡ tested n p t k env fs l x
cases n p t k env fs l test.Yes = refl
cases n p t k env fs l test.No = refl
cases n p t k env fs l (test.Failed c) = refl

-- a round whose parts are at a depth, and which makes one turn more
abbrev pub unrolled : ℕ → Program → Turned → Bool → Rest → List Val → List ClauseCells → List Val → Timed (List Val)
unrolled n p t true k env fs l = andthen (turns (suc n) t.form.now.is_until (meanings n p t.test.now) (turned_next n p t) env l) (folds t (meanings n p t.values.now) k env fs)
unrolled n p t false k env fs l = round n p t false k env fs l

-- the values of the clauses, and what follows them
abbrev pub kept : ℕ → Program → Turned → Bool → Rest → List Val → List ClauseCells → List Val → Timed (List Val)
kept n p t b k env fs l = andthen (meanings n p t.values.now (env ++ l)) (λ row. collected n p t b k env (with_row t.form.now.clauses fs row) l)

kept_is : (n : ℕ) (p : Program) (t : Turned) (b : Bool) (k : Rest) (env : List Val) (fs : List ClauseCells) (l : List Val) → unrolled n p t b k env fs l ≡ kept n p t b k env fs l
kept_is n p t true k env fs l =
    one_turn (turns n t.form.now.is_until (meanings n p t.test.now) (turned_next n p t) env) (meanings n p t.test.now) (turned_next n p t env) t.form.now.is_until t (meanings n p t.values.now) k env fs l
    ∙ then_same (meanings n p t.values.now (env ++ l)) _ _ (λ row. then_same (meanings n p t.test.now (env ++ l)) _ _ (λ ts. cases n p t k env (with_row t.form.now.clauses fs row) l (goes_on t.form.now.is_until (test_of ts))))
kept_is n p t false k env fs l =
    at_test (turns n t.form.now.is_until (meanings n p t.test.now) (turned_next n p t) env) (turned_next n p t env) t (meanings n p t.values.now) k env fs l test.Yes

folds_below : (t : Turned) (V W : Gives) (j k : Rest) (env : List Val) (fs : List ClauseCells) (s : Members) → Less V W → Lower j k → Below (folds t V j env fs s) (folds t W k env fs s)
folds_below t V W j k env fs s h i =
    below_then _ _ _ _ (each_below _ _ (λ m. h (env ++ m)) s.lists) (λ rows. closed_below t j k env _ s.failure i)

unrolled_up : (n : ℕ) (p : Program) (t : Turned) (b : Bool) (k : Rest) (env : List Val) (fs : List ClauseCells) (l : List Val) → Below (round n p t b k env fs l) (unrolled n p t b k env fs l)
unrolled_up n p t true k env fs l =
    below_then _ _ _ _ (members_below n true t.form.now.is_until (meanings n p t.test.now) (meanings n p t.test.now) (turned_next n p t) (turned_next n p t) env (λ e. below_refl _) (λ m. below_refl _) l)
    (λ s. below_refl _)
unrolled_up n p t false k env fs l = below_refl _

twice : (n : ℕ) (p : Program) (es : List TypedExpr) → Less (meanings n p es) (meanings (suc (suc n)) p es)
twice n p es env = below_trans _ _ _ (meanings_grow n p es env) (meanings_grow (suc n) p es env)

turned_twice : (n : ℕ) (p : Program) (t : Turned) (env l : List Val) → Below (turned_next n p t env l) (turned_next (suc (suc n)) p t env l)
turned_twice n p t env l = below_trans _ _ _ (turned_grows n p t env l) (turned_grows (suc n) p t env l)

unrolled_down : (n : ℕ) (p : Program) (t : Turned) (frames : List Frame) (env : List Val) (fs : List ClauseCells) (l : List Val)
    → Below (unrolled n p t true (rest n p frames) env fs l) (round (suc (suc n)) p t true (rest (suc (suc n)) p frames) env fs l)
unrolled_down n p t frames env fs l =
    below_then _ _ _ _ (members_below (suc n) true t.form.now.is_until (meanings n p t.test.now) (meanings (suc (suc n)) p t.test.now) (turned_next n p t) (turned_next (suc (suc n)) p t) env (twice n p t.test.now) (turned_twice n p t env) l)
    (λ s. folds_below t (meanings n p t.values.now) (meanings (suc (suc n)) p t.values.now) (rest n p frames) (rest (suc (suc n)) p frames) env fs s (twice n p t.values.now)
    (λ e vs. below_trans _ _ _ (rest_grows n p frames e vs) (rest_grows (suc n) p frames e vs)))

-- a round begins with the values of the clauses
pub round_moves : (p : Program) (t : Turned) (b : Bool) (s : ℕ) (frames : List Frame) (env : List Val) (fs : List ClauseCells) (l : List Val)
    → Moves (λ n. plus s (round n p t b (rest n p frames) env fs l)) (λ n. plus s (kept n p t b (rest n p frames) env fs l))
round_moves p t true s frames env fs l = record {
  keep = λ n. below_plus s _ _ (below_trans _ _ _ (unrolled_up n p t true (rest n p frames) env fs l) (below_same _ _ (kept_is n p t true (rest n p frames) env fs l)));
  back = λ n. (suc (suc n), below_plus s _ _ (below_trans _ _ _ (below_same _ _ (sym (kept_is n p t true (rest n p frames) env fs l))) (unrolled_down n p t frames env fs l)));
}
round_moves p t false s frames env fs l = moves_same _ _ (λ n. ap (plus s) (kept_is n p t false (rest n p frames) env fs l))
