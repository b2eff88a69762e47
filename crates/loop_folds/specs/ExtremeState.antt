-- What `Least` and `Greatest` keep of a list.
use Rattle.std.specs.Prelude.{◌≡◌, ℕ, ◌+◌, ◌^◌, ◌<◌, ℤ, List, [], ◌∷◌, ◌++◌, Option, Some, None, refl}
use Rattle.std.specs.Int.{int_max, int_min}
use Rattle.std.proofs.Common.{sym, ◌∙◌, ap, arith}
use Rattle.std.proofs.lemmas.Int.{ints, clamps}
use Rattle.flow_value.specs.declared.value.Val.{Val}
use Rattle.loop_folds.specs.declared.seen.Seen.{Seen}
use Rattle.loop_folds.specs.Elements.{is_no_integer}
use Rattle.loop_folds.specs.Seen.{seen_of, seen_joined}
use Rattle.loop_folds.specs.SeenLaws.{seen_of-append}
use Rattle.loop_folds.specs.Folds.{integer_of, one_of, extreme_of}
use Rattle.loop_folds.specs.Laws.{JoinLaws, laws_by}

pub record ExtremeState : Type 0 where
  pub seen : Seen
  pub extreme : Option ℤ

abbrev pub extreme_state : Seen → Option ℤ → ExtremeState
extreme_state s z = record { seen = s; extreme = z }

abbrev pub IsCounted : ℕ → Type 0
IsCounted n = n < 2 ^ 64

abbrev pub state_of : (ℤ → ℤ → ℤ) → List Val → ExtremeState
state_of f vs = extreme_state (seen_of is_no_integer vs) (extreme_of f vs)

abbrev pub joined_state : (ℤ → ℤ → ℤ) → ExtremeState → ExtremeState → ExtremeState
joined_state f s t = extreme_state (seen_joined s.seen t.seen) (one_of f s.extreme t.extreme)

abbrev Associative : (ℤ → ℤ → ℤ) → Type 0
Associative f = (a b c : ℤ) → f (f a b) c ≡ f a (f b c)

one_of-assoc : (f : ℤ → ℤ → ℤ) → Associative f → (a b c : Option ℤ) → one_of f (one_of f a b) c ≡ one_of f a (one_of f b c)
one_of-assoc f assoc None b c = refl
one_of-assoc f assoc (Some l) None c = refl
one_of-assoc f assoc (Some l) (Some m) None = refl
one_of-assoc f assoc (Some l) (Some m) (Some n) = ap Some (assoc l m n)

extreme_of-append : (f : ℤ → ℤ → ℤ) → Associative f → (xs ys : List Val) → extreme_of f (xs ++ ys) ≡ one_of f (extreme_of f xs) (extreme_of f ys)
extreme_of-append f assoc [] ys = refl
extreme_of-append f assoc (x ∷ xs) ys =
    ap (λ z. one_of f (integer_of x) z) (extreme_of-append f assoc xs ys)
    ∙ sym (one_of-assoc f assoc (integer_of x) (extreme_of f xs) (extreme_of f ys))

state_of-append : (f : ℤ → ℤ → ℤ) → Associative f → (xs ys : List Val) → state_of f (xs ++ ys) ≡ joined_state f (state_of f xs) (state_of f ys)
state_of-append f assoc xs ys = λ i. extreme_state (seen_of-append is_no_integer xs ys i) (extreme_of-append f assoc xs ys i)

int_min-assoc : Associative int_min
int_min-assoc a b c = omega (arith, ints, clamps)

int_max-assoc : Associative int_max
int_max-assoc a b c = omega (arith, ints, clamps)

pub least_append : (xs ys : List Val) → state_of int_min (xs ++ ys) ≡ joined_state int_min (state_of int_min xs) (state_of int_min ys)
least_append = state_of-append int_min int_min-assoc

pub greatest_append : (xs ys : List Val) → state_of int_max (xs ++ ys) ≡ joined_state int_max (state_of int_max xs) (state_of int_max ys)
greatest_append = state_of-append int_max int_max-assoc

pub least_laws : JoinLaws (λ s xs. s ≡ state_of int_min xs) (state_of int_min []) (joined_state int_min)
least_laws = laws_by (state_of int_min) (joined_state int_min) least_append

pub greatest_laws : JoinLaws (λ s xs. s ≡ state_of int_max xs) (state_of int_max []) (joined_state int_max)
greatest_laws = laws_by (state_of int_max) (joined_state int_max) greatest_append
