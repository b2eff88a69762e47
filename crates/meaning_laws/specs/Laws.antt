-- The laws of the definition with a depth of calls and turns alone, and that it gives what the definition gives that has one
-- depth for all turns of a loop.
use Rattle.std.specs.Prelude.{◌≡◌, ℕ, suc, ◌≤◌, ◌<◌, List, map, Some, None, slice_get, ◌↔◌}
use Rattle.flow_value.specs.declared.value.Val.{Val}
use Rattle.typed_tree.specs.declared.expr.TypedExpr.{TypedExpr}
use Rattle.typed_tree.specs.declared.expr.Turns.{Turns}
use Rattle.typed_tree.specs.declared.program.Function.{Function}
use Rattle.meaning.specs.Timed.{Timed}
use Rattle.meaning.specs.Meaning.{all_of, turned, function_gives, calls, meaning}
use Rattle.meaning.specs.Descents.{descending}
use Rattle.meaning.specs.Plain.{turns_at, plain, depth, plain_calls, plain_meaning}

abbrev pub Program : Type 0
Program = List Function

-- some depth gives these values with these steps
abbrev pub IsGiven : (ℕ → Timed (List Val)) → List Val → ℕ → Type 0
IsGiven a values steps = (n : ℕ) × (a n ≡ Some (values, steps))

-- whatever any depth gives takes more steps than the limit
abbrev pub PassesAlways : ℕ → (ℕ → Timed (List Val)) → Type 0
PassesAlways limit a = (n steps : ℕ) (values : List Val) → a n ≡ Some (values, steps) → limit < steps

-- ---- where the depth goes one less

-- at depth 0 a call gives nothing
abbrev pub IsNothingCalledAtZero : Type 0
IsNothingCalledAtZero = (p : Program) (f : ℕ) (vs : List Val) → plain_calls 0 p f vs ≡ None

-- at any other depth it gives what the results of the function give at a depth one less
abbrev pub IsBodyOneLess : Type 0
IsBodyOneLess = (p : Program) (n f : ℕ) (vs : List Val) → plain_calls (suc n) p f vs ≡ function_gives (slice_get p f) (plain_meaning n p) vs

-- the test and the definitions of each turn of a loop give what they give at a depth one less than those of the turn before
abbrev pub AreTurnsOneLess : Type 0
AreTurnsOneLess = (p : Program) (n : ℕ) (t : Turns) (test : List TypedExpr) (defs : List (List TypedExpr)) (env l : List Val)
    → turns_at (depth n p) t (map plain test) (map (map plain) defs) env l
    ≡ descending n t.is_until (λ d. all_of (map (plain_meaning d p) test)) (λ d. turned t (map (map (plain_meaning d p)) defs)) env l

-- ---- one meaning

-- what one depth gives is given at every greater one
abbrev pub IsMeaningStable : Type 0
IsMeaningStable = (p : Program) (e : TypedExpr) (env : List Val) (n m : ℕ) (r : List Val × ℕ) → n ≤ m → plain_meaning n p e env ≡ Some r → plain_meaning m p e env ≡ Some r

abbrev pub AreCallsStable : Type 0
AreCallsStable = (p : Program) (f : ℕ) (vs : List Val) (n m : ℕ) (r : List Val × ℕ) → n ≤ m → plain_calls n p f vs ≡ Some r → plain_calls m p f vs ≡ Some r

-- no two depths give different values or steps
abbrev pub IsMeaningOne : Type 0
IsMeaningOne = (p : Program) (e : TypedExpr) (env : List Val) (n m : ℕ) (r s : List Val × ℕ) → plain_meaning n p e env ≡ Some r → plain_meaning m p e env ≡ Some s → r ≡ s

abbrev pub IsCallOne : Type 0
IsCallOne = (p : Program) (f : ℕ) (vs : List Val) (n m : ℕ) (r s : List Val × ℕ) → plain_calls n p f vs ≡ Some r → plain_calls m p f vs ≡ Some s → r ≡ s

-- ---- the same meaning

-- what this definition gives at a depth, that with one depth for all turns gives at the same
abbrev pub DoesMeaningFall : Type 0
DoesMeaningFall = (p : Program) (e : TypedExpr) (env : List Val) (n : ℕ) (r : List Val × ℕ) → plain_meaning n p e env ≡ Some r → meaning n p e env ≡ Some r

abbrev pub DoCallsFall : Type 0
DoCallsFall = (p : Program) (f : ℕ) (vs : List Val) (n : ℕ) (r : List Val × ℕ) → plain_calls n p f vs ≡ Some r → calls n p f vs ≡ Some r

-- some depth of the one gives these values with these steps exactly where some depth of the other does
abbrev pub IsMeaningTheSame : Type 0
IsMeaningTheSame = (p : Program) (e : TypedExpr) (env values : List Val) (steps : ℕ)
    → IsGiven (λ n. plain_meaning n p e env) values steps ↔ IsGiven (λ n. meaning n p e env) values steps

abbrev pub AreCallsTheSame : Type 0
AreCallsTheSame = (p : Program) (f : ℕ) (vs values : List Val) (steps : ℕ) → IsGiven (λ n. plain_calls n p f vs) values steps ↔ IsGiven (λ n. calls n p f vs) values steps

-- no depth of the one gives values within a limit exactly where none of the other does
abbrev pub AreLimitsTheSame : Type 0
AreLimitsTheSame = (p : Program) (f : ℕ) (vs : List Val) (limit : ℕ) → PassesAlways limit (λ n. plain_calls n p f vs) ↔ PassesAlways limit (λ n. calls n p f vs)
