-- What is given at one depth is given at every greater one, and it is one.
use Rattle.std.proofs.Common.{◌≡◌, ℕ, zero, suc, ◌+◌, ◌-◌, ◌≤◌, List, Some, sym, subst, ◌∙◌, arith}
use Rattle.flow_value.specs.declared.value.Val.{Val}
use Rattle.meaning.specs.Timed.{Below}
use Rattle.meaning.specs.Meaning.{calls}
use Rattle.source_meaning.specs.Pending.{Program}
use Rattle.source_meaning.proofs.Laws.{below_refl, below_trans}
use Rattle.source_meaning.proofs.Grows.{calls_grow}

abbrev up : ℕ → ℕ → ℕ
up zero n = n
up (suc d) n = suc (up d n)

up-is : (d n : ℕ) → up d n ≡ d + n
up-is zero n = omega arith
up-is (suc d) n = let e : up d n ≡ d + n = up-is d n in omega arith

later : (p : Program) (f : ℕ) (vs : List Val) (n d : ℕ) → Below (calls n p f vs) (calls (up d n) p f vs)
later p f vs n zero = below_refl _
later p f vs n (suc d) = below_trans _ _ _ (later p f vs n d) (calls_grow (up d n) p f vs)

pub greater : (p : Program) (f : ℕ) (vs : List Val) (n m : ℕ) (r : List Val × ℕ) → n ≤ m → calls n p f vs ≡ Some r → calls m p f vs ≡ Some r
greater p f vs n m r h e =
    let i : up (m - n) n ≡ (m - n) + n = up-is (m - n) n in
    let j : up (m - n) n ≡ m = omega arith in
    subst (λ k. calls k p f vs ≡ Some r) j ((later p f vs n (m - n)).along r e)

pub one_value : (p : Program) (f : ℕ) (vs : List Val) (n m : ℕ) (r s : List Val × ℕ) → calls n p f vs ≡ Some r → calls m p f vs ≡ Some s → r ≡ s
one_value p f vs n m r s a b =
    let x : calls (n + m) p f vs ≡ Some r = greater p f vs n (n + m) r (omega arith) a in
    let y : calls (n + m) p f vs ≡ Some s = greater p f vs m (n + m) s (omega arith) b in
    let z : Some r ≡ Some s = sym x ∙ y in
    cc
