-- One turn of a `for initial`: its beginning, its names, and the loop names that they renew.
use Rattle.std.proofs.Common.{◌≡◌, ℕ, zero, suc, ◌<◌, ◌≤◌, Bool, true, false, List, [], ◌∷◌, ◌++◌, map, take, drop, length, Option, Some, None, inl, inr, arith, refl, sym, ap, ◌∙◌}
use Rattle.std.proofs.lemmas.Bool.{cases_lt}
use Rattle.std.proofs.lemmas.List.{take-append-drop, take-append-le, take_all, drop_all, length-take}
use Rattle.std.proofs.Math.Seq.{take-append_seam}
use Rattle.flow_value.specs.declared.value.Val.{Val}
use Rattle.loop_folds.specs.Clauses.{ClauseCells}
use Rattle.meaning.specs.declared.words.Test.TheVariants as test
use Rattle.source_meaning.specs.declared.state.Turned.{Turned}
use Rattle.source_meaning.specs.declared.state.Round.{Round}
use Rattle.source_meaning.specs.declared.state.Frame.{Frame}
use Rattle.source_meaning.specs.declared.state.After.TheVariants as after
use Rattle.meaning.specs.Timed.{Timed, given, plus, andthen, Moves}
use Rattle.meaning.specs.Meaning.{Gives, defined, renew, renew_one, meaning, meanings, definitions}
use Rattle.source_meaning.specs.Pending.{Program, Rest, turned_next, round, tested, collected, finish, rest}
use Rattle.source_meaning.proofs.Wholes.{before}
use Rattle.source_meaning.proofs.Laws.{given_then, joined, moves_to}
use Rattle.source_meaning.proofs.Rests.{defined_then}
use Rattle.source_meaning.proofs.Rounds.{kept, round_moves}

module _ {X : Type 0} where
  -- the lesser of a place and a list's length
  pub cut_within : (a m : ℕ) (xs : List X) → (a ≤ length xs → m ≡ a) → (length xs < a → m ≡ length xs) → take m xs ≡ take a xs
  cut_within a m xs h g =
      elim (cases_lt (length xs) a) [
        | inl lt ↦ let e : m ≡ length xs = g lt in take_all m xs (omega arith) ∙ sym (take_all a xs (omega arith))
        | inr ge ↦ ap (λ i. take i xs) (h ge)
      ]

  pub left_within : (a m : ℕ) (xs : List X) → (a ≤ length xs → m ≡ a) → (length xs < a → m ≡ length xs) → drop m xs ≡ drop a xs
  left_within a m xs h g =
      elim (cases_lt (length xs) a) [
        | inl lt ↦ let e : m ≡ length xs = g lt in drop_all m xs (omega arith) ∙ sym (drop_all a xs (omega arith))
        | inr ge ↦ ap (λ i. drop i xs) (h ge)
      ]

  -- a list of two parts, the second of which is empty where the first is not full
  take_back : (m : ℕ) (xs l : List X) → (length xs < m → l ≡ []) → take m (take m xs ++ l) ≡ take m xs
  take_back zero xs l h = refl
  take_back (suc m) [] l h = ap (take (suc m)) (h (omega arith))
  take_back (suc m) (x ∷ xs) l h = ap (λ k. x ∷ k) (take_back m xs l (λ lt. h (omega arith)))

  drop_back : (m : ℕ) (xs l : List X) → (length xs < m → l ≡ []) → drop m (take m xs ++ l) ≡ l
  drop_back zero xs l h = refl
  drop_back (suc m) [] l h = ap (drop (suc m)) (h (omega arith)) ∙ sym (h (omega arith))
  drop_back (suc m) (x ∷ xs) l h = drop_back m xs l (λ lt. h (omega arith))

  -- nothing is left behind a place that a list does not reach
  none_behind : (m h : ℕ) (xs : List X) → h ≤ m → drop m (take h xs) ≡ []
  none_behind m h xs le = let e : length (take h xs) ≤ m = simp length-take (omega arith) in drop_all m (take h xs) e

  none_left : (m h : ℕ) (xs : List X) → length xs < m → drop m (take h xs) ≡ []
  none_left m h xs lt = let e : length (take h xs) ≤ m = simp length-take (omega arith) in drop_all m (take h xs) e

renew_one_none : (d : Option ℕ) (v : Val) → renew_one d v [] ≡ []
renew_one_none None v = refl
renew_one_none (Some x) v = refl

renew_none : (ds : List (Option ℕ)) (vs : List Val) → renew ds vs [] ≡ []
renew_none [] vs = refl
renew_none (d ∷ ds) [] = refl
renew_none (d ∷ ds) (v ∷ vs) = ap (renew_one d v) (renew_none ds vs) ∙ renew_one_none d v

-- the clauses come first
pub start_moves : (p : Program) (r : Round) (s : ℕ) (fs : List Frame) (env : List Val) (w : ℕ → Timed (List Val))
    → ((n : ℕ) → w n ≡ plus s (andthen (meanings n p r.parts.values.now env) (finish n p (after.Kept r) (rest n p fs) env)))
    → Moves (λ n. before n p s fs env (after.Start r) []) w
start_moves p r s fs env w h =
    moves_to (λ n. before n p s fs env (after.Start r) []) (λ n. plus s (kept n p r.parts r.is_tested (rest n p fs) (take r.mark env) r.clauses.items (drop r.mark env))) w
    (round_moves p r.parts r.is_tested s fs (take r.mark env) r.clauses.items (drop r.mark env))
    (λ n. h n ∙ ap (λ e. plus s (andthen (meanings n p r.parts.values.now e) (finish n p (after.Kept r) (rest n p fs) env))) (sym (take-append-drop r.mark env)))

-- the names of a turn are made
pub turn_is : (n : ℕ) (p : Program) (r : Round) (m h : ℕ) (k : Rest) (names : List Val)
    → h ≡ length names → m ≤ h → (r.mark ≤ h → m ≡ r.mark) → (h < r.mark → m ≡ h)
    → andthen (definitions n p r.parts.defs.now names) (λ e. andthen (meanings n p [] e) (finish n p (after.Renew (record r { mark = m; height = h })) k e))
    ≡ andthen (turned_next n p r.parts (take r.mark names) (drop r.mark names)) (λ l. round n p r.parts true k (take r.mark names) r.clauses.items l)
turn_is n p r m h k names hh le first second =
    let v : Round = record r { mark = m; height = h } in
    let E : List Val = take r.mark names in
    let L : List Val = drop r.mark names in
    let D : List (List Gives) = map (map (meaning n p)) r.parts.defs.now in
    let R : List Val → List Val → Timed (List Val) = λ e l. round n p r.parts true k e r.clauses.items l in
    let N : ℕ → List Val → List Val = λ i all. renew r.parts.form.now.renewed (drop i all) L in
    let lt : m ≤ length names = omega arith in
    let he : take m names ≡ E = cut_within r.mark m names (λ q. first (omega arith)) (λ q. second (omega arith) ∙ hh) in
    let hl : drop m names ≡ L = left_within r.mark m names (λ q. first (omega arith)) (λ q. second (omega arith) ∙ hh) in
    let A : List Val → Timed (List Val) = λ x. andthen (andthen (defined D x) (λ all. given (N (length x) all))) (R E) in
    let right : A names ≡ andthen (defined D names) (λ all. R E (N (length names) all)) =
    joined (defined D names) (λ all. given (N (length names) all)) (R E) (λ all. R E (N (length names) all)) (λ all. given_then (N (length names) all) (R E)) in
    defined_then D names (λ e. andthen (meanings n p [] e) (finish n p (after.Renew v) k e)) (λ all. R E (N (length names) all))
    (λ us.
    given_then [] (finish n p (after.Renew v) k (names ++ us))
    ∙ ap (λ x. R x (renew r.parts.form.now.renewed (drop h (names ++ us)) (drop m (take h (names ++ us))))) (take-append-le m names us lt ∙ he)
    ∙ ap (λ i. R E (renew r.parts.form.now.renewed (drop i (names ++ us)) (drop m (take i (names ++ us))))) hh
    ∙ ap (λ x. R E (renew r.parts.form.now.renewed (drop (length names) (names ++ us)) (drop m x))) (take-append_seam names us)
    ∙ ap (λ x. R E (renew r.parts.form.now.renewed (drop (length names) (names ++ us)) x)) hl)
    ∙ sym right
    ∙ ap A (sym (take-append-drop r.mark names))

-- the loop names have the values of the names of the turn
pub renew_is : (n : ℕ) (p : Program) (r : Round) (h s : ℕ) (fs : List Frame) (env new : List Val)
    → (r.mark ≤ r.height → h ≡ r.height) → (r.height < r.mark → h ≡ r.mark)
    → new ≡ take r.mark env ++ renew r.parts.form.now.renewed (drop h env) (drop r.mark (take h env))
    → before n p s fs env (after.Renew r) [] ≡ before n p s fs new (after.Start (record r { is_tested = true })) []
renew_is n p r h s fs env new first second is =
    let N : ℕ → List Val = λ i. renew r.parts.form.now.renewed (drop i env) (drop r.mark (take i env)) in
    let few : length env < r.mark → N h ≡ [] = λ lt. ap (renew r.parts.form.now.renewed (drop h env)) (none_left r.mark h env lt) ∙ renew_none r.parts.form.now.renewed (drop h env) in
    let none : (i : ℕ) → i ≤ r.mark → N i ≡ [] = λ i lt. ap (renew r.parts.form.now.renewed (drop i env)) (none_behind r.mark i env lt) ∙ renew_none r.parts.form.now.renewed (drop i env) in
    let same : N r.height ≡ N h =
    elim (cases_lt r.height r.mark) [
      | inl lt ↦ let e : h ≡ r.mark = second lt in none r.height (omega arith) ∙ sym (none h (omega arith))
      | inr ge ↦ ap N (sym (first ge))
    ] in
    let R : List Val → List Val → Timed (List Val) = λ e l. plus s (round n p r.parts true (rest n p fs) e r.clauses.items l) in
    ap (R (take r.mark env)) (same ∙ sym (drop_back r.mark env (N h) few))
    ∙ ap (λ e. R e (drop r.mark (take r.mark env ++ N h))) (sym (take_back r.mark env (N h) few))
    ∙ ap (λ x. R (take r.mark x) (drop r.mark x)) (sym is)

-- without a test
pub untested : (n : ℕ) (p : Program) (t : Turned) (b : Bool) (k : Rest) (env : List Val) (fs : List ClauseCells) (l : List Val) → b ≡ false
    → collected n p t b k env fs l ≡ tested n p t k env fs l test.Yes
untested n p t b k env fs l h = ap (λ x. collected n p t x k env fs l) h
