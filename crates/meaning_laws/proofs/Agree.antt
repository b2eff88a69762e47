-- The two definitions give the same.
use Rattle.std.proofs.Common.{◌≡◌, ℕ, ◌+◌, ◌≤◌, List, Some, refl, sym, ◌∙◌, arith}
use Rattle.flow_value.specs.declared.value.Val.{Val}
use Rattle.meaning.specs.Timed.{Timed, Below}
use Rattle.meaning.specs.Plain.{plain_calls, plain_meaning}
use Rattle.meaning_laws.specs.Laws.{IsNothingCalledAtZero, IsBodyOneLess, IsMeaningStable, AreCallsStable, IsMeaningOne, IsCallOne, DoesMeaningFall, DoCallsFall, IsMeaningTheSame, AreCallsTheSame, AreLimitsTheSame}
use Rattle.meaning_laws.proofs.Deeper.{plain_greater, calls_greater}
use Rattle.meaning_laws.proofs.Falls.{meaning_falls, calls_fall}
use Rattle.meaning_laws.proofs.Rises.{meaning_rises, calls_rise}

pub nothing_at_zero : IsNothingCalledAtZero
nothing_at_zero p f vs = refl

pub body_one_less : IsBodyOneLess
body_one_less p n f vs = refl

-- ---- one meaning

some_same : {A : Type 0} (a b : A) → Some a ≡ Some b → a ≡ b
some_same a b e = cc

one : (a : ℕ → Timed (List Val)) → ((n m : ℕ) → n ≤ m → Below (a n) (a m)) → (n m : ℕ) (r s : List Val × ℕ) → a n ≡ Some r → a m ≡ Some s → r ≡ s
one a h n m r s x y =
    let u : a (n + m) ≡ Some r = (h n (n + m) (omega arith)).along r x in
    let v : a (n + m) ≡ Some s = (h m (n + m) (omega arith)).along s y in
    some_same r s (sym u ∙ v)

pub stable : IsMeaningStable
stable p e env n m r le x = (plain_greater p n m le e env).along r x

pub calls_stable : AreCallsStable
calls_stable p f vs n m r le x = (calls_greater p n m le f vs).along r x

pub one_value : IsMeaningOne
one_value p e env = one (λ n. plain_meaning n p e env) (λ n m le. plain_greater p n m le e env)

pub calls_one_value : IsCallOne
calls_one_value p f vs = one (λ n. plain_calls n p f vs) (λ n m le. calls_greater p n m le f vs)

-- ---- the same meaning

pub falls : DoesMeaningFall
falls p e env n r x = (meaning_falls p n e env).along r x

pub calls_fall_too : DoCallsFall
calls_fall_too p f vs n r x = (calls_fall p n f vs).along r x

pub same : IsMeaningTheSame
same p e env values steps = (
  λ g. (g.0, falls p e env g.0 (values, steps) g.1),
  λ g.
      let r = meaning_rises g.0 p e in
      (r.least, (r.holds r.least (omega arith) env).along (values, steps) g.1),
)

pub calls_same : AreCallsTheSame
calls_same p f vs values steps = (
  λ g. (g.0, calls_fall_too p f vs g.0 (values, steps) g.1),
  λ g.
      let r = calls_rise g.0 p in
      (r.least, (r.holds r.least (omega arith) f vs).along (values, steps) g.1),
)

pub limits_same : AreLimitsTheSame
limits_same p f vs limit = (
  λ h n steps values x. let g = (calls_same p f vs values steps).1 (n, x) in h g.0 steps values g.1,
  λ h n steps values x. h n steps values (calls_fall_too p f vs n (values, steps) x),
)
