-- What a step of reading that succeeds says.
use Rattle.std.proofs.Common.{◌≡◌, ℕ, ◌+◌, ◌-◌, ◌*◌, ◌^◌, ◌<◌, ◌≤◌, Bool, true, false, cond, not, subst, ◌||◌, ◌&&◌, eqb, ltb, List, [], ◌∷◌, ◌++◌, Option, Some, None, refl, sym, ap, ◌∙◌, inl, inr, ◌⊎◌, arith}
use Rattle.std.proofs.lemmas.Bool.{eqb-true, eq-eqb, ltb-true, lt-ltb}
use Rattle.std.proofs.lemmas.Option.{same_Some, some_pair_parts, cond_some}
use Rattle.std.specs.List.{list_all}
use Rattle.value_text.specs.Tokens.{◌>>=◌, or_else, sign_in, bytes_in, row_end, word_in, is_digit, is_letter, ends_row, number_from, number_in, in_64_bits, row_number}
use Rattle.value_text.specs.Reading.{with_rest}
use Rattle.value_text.specs.Grammar.{Sign, Word, Number, row_value}

pub bind_some : {A B : Type 0} (o : Option A) (f : A → Option B) (y : B) → (o >>= f) ≡ Some y → (x : A) × (o ≡ Some x) × (f x ≡ Some y)
bind_some None f y e = absurd cc
bind_some (Some x) f y e = (x, refl, e)

pub or_else_some : {A : Type 0} (a b : Option A) (y : A) → or_else a b ≡ Some y → (a ≡ Some y) ⊎ ((a ≡ None) × (b ≡ Some y))
or_else_some None b y e = inr (refl, e)
or_else_some (Some x) b y e = inl e

pub with_rest_some : {A : Type 0} (x y : A) (o : Option (List ℕ)) (r : List ℕ) → with_rest x o ≡ Some (y, r) → (o ≡ Some r) × (x ≡ y)
with_rest_some x y None r e = absurd cc
with_rest_some x y (Some a) r e = let p = some_pair_parts x y a r e in (ap (λ (t : List ℕ). Some t) p.1, p.0)

pub sign_sound : (c : ℕ) (s r : List ℕ) → sign_in c s ≡ Some r → Sign c s r
sign_sound c [] r e = absurd cc
sign_sound c (d ∷ t) r e =
    let p = cond_some (eqb d c) t r e in
    ap (λ (x : ℕ). x ∷ t) (eqb-true d c p.0) ∙ ap (λ (x : List ℕ). c ∷ x) p.1

pub sign_again : (c : ℕ) (r : List ℕ) → sign_in c (c ∷ r) ≡ Some r
sign_again c r = rw (eq-eqb c c refl) refl

pub sign_complete : (c : ℕ) (s r : List ℕ) → Sign c s r → sign_in c s ≡ Some r
sign_complete c s r e = rw e (sign_again c r)

-- ---- words

bytes_sound : (w s r : List ℕ) → bytes_in w s ≡ Some r → s ≡ w ++ r
bytes_sound [] s r e = same_Some s r e
bytes_sound (c ∷ w) s r e =
    let b = bind_some (sign_in c s) (bytes_in w) r e in
    sign_sound c s b.0 b.1 ∙ ap (λ (x : List ℕ). c ∷ x) (bytes_sound w b.0 r b.2)

bytes_again : (w r : List ℕ) → bytes_in w (w ++ r) ≡ Some r
bytes_again [] r = refl
bytes_again (c ∷ w) r = rw (sign_again c (w ++ r)) (bytes_again w r)

pub word_sound : (w s r : List ℕ) → word_in w s ≡ Some r → Word w s r
word_sound w s r e =
    let b = bind_some (bytes_in w s) row_end r e in
    let p = cond_some (ends_row b.0) b.0 r b.2 in
    record { spelled = bytes_sound w s b.0 b.1 ∙ ap (λ (x : List ℕ). w ++ x) p.1; alone = rw (← p.1) p.0 }

pub word_complete : (w s r : List ℕ) → Word w s r → word_in w s ≡ Some r
word_complete w s r h = rw (h.spelled, bytes_again w r, h.alone) refl

-- ---- numbers

-- the digits at the front, and what is behind them
pub record Digits (n m : ℕ) (s r : List ℕ) : Type 0 where
  pub row : List ℕ
  pub spelled : s ≡ row ++ r
  pub digits : list_all is_digit row ≡ true
  pub value : row_value n row ≡ m

digits_if : (b : Bool) (n c : ℕ) (t : List ℕ) → is_digit c ≡ b → Digits (n * 10 + (c - 48)) (number_from (n * 10 + (c - 48)) t).0 t (number_from (n * 10 + (c - 48)) t).1 → Digits n (cond b (number_from (n * 10 + (c - 48)) t) (n, c ∷ t)).0 (c ∷ t) (cond b (number_from (n * 10 + (c - 48)) t) (n, c ∷ t)).1
digits_if true n c t e d = record { row = c ∷ d.row; spelled = ap (λ (x : List ℕ). c ∷ x) d.spelled; digits = rw e d.digits; value = d.value }
digits_if false n c t e d = record { row = []; spelled = refl; digits = refl; value = refl }

pub digits_of : (n : ℕ) (s : List ℕ) → Digits n (number_from n s).0 s (number_from n s).1
digits_of n [] = record { row = []; spelled = refl; digits = refl; value = refl }
digits_of n (c ∷ t) = digits_if (is_digit c) n c t refl (digits_of (n * 10 + (c - 48)) t)

and_left : (a b : Bool) → (a && b) ≡ true → (a ≡ true) × (b ≡ true)
and_left true b e = (refl, e)
and_left false b e = absurd cc

no_digit : (d l : Bool) → not (d || l) ≡ true → d ≡ false
no_digit true l e = absurd cc
no_digit false l e = refl

-- digits are read to their end
pub digits_again : (n : ℕ) (row r : List ℕ) → list_all is_digit row ≡ true → ends_row r ≡ true → number_from n (row ++ r) ≡ (row_value n row, r)
digits_again n [] [] h e = refl
digits_again n [] (c ∷ r) h e = rw (no_digit (is_digit c) (is_letter c) e) refl
digits_again n (d ∷ row) r h e =
    let p = and_left (is_digit d) (list_all is_digit row) h in
    rw p.0 (digits_again (n * 10 + (d - 48)) row r p.1 e)

pub number_sound : (n : ℕ) (s r : List ℕ) → number_in s ≡ Some (n, r) → Number n s r × (n < 2 ^ 64)
number_sound n [] r e = absurd cc
number_sound n (c ∷ t) r e =
    let p = cond_bind (is_digit c) (in_64_bits (number_from 0 (c ∷ t)) >>= row_number) (n, r) e in
    let b = bind_some (in_64_bits (number_from 0 (c ∷ t))) row_number (n, r) p.1 in
    let small = cond_some (ltb (number_from 0 (c ∷ t)).0 (2 ^ 64)) (number_from 0 (c ∷ t)) b.0 b.1 in
    let ended = cond_some (ends_row b.0.1) b.0 (n, r) b.2 in
    let from : number_from (c - 48) t ≡ (n, r) = number_first c t p.0 ∙ small.1 ∙ ended.1 in
    let d : Digits (c - 48) n t r = subst (λ (q : ℕ × List ℕ). Digits (c - 48) q.0 t q.1) from (digits_of (c - 48) t) in (
      record { first = c; more = d.row; spelled = ap (λ (x : List ℕ). c ∷ x) d.spelled; digits = rw p.0 d.digits; value = ap (λ (m : ℕ). row_value m d.row) (zero_is (c - 48)) ∙ d.value; alone = rw (← ap (λ (q : ℕ × List ℕ). q.1) ended.1) ended.0 },
      rw (← ap (λ (q : ℕ × List ℕ). q.0) ended.1, ← ap (λ (q : ℕ × List ℕ). q.0) small.1) (ltb-true _ _ small.0),
    )
  where
    cond_bind : {A : Type 0} (b : Bool) (o : Option A) (y : A) → cond b o None ≡ Some y → (b ≡ true) × (o ≡ Some y)
    cond_bind true o y e = (refl, e)
    cond_bind false o y e = absurd cc

    zero_is : (m : ℕ) → 0 * 10 + m ≡ m
    zero_is m = omega arith

    number_first : (c : ℕ) (t : List ℕ) → is_digit c ≡ true → number_from (c - 48) t ≡ number_from 0 (c ∷ t)
    number_first c t e = rw e (ap (λ (m : ℕ). number_from m t) (omega arith))

pub number_complete : (n : ℕ) (s r : List ℕ) → Number n s r → n < 2 ^ 64 → number_in s ≡ Some (n, r)
number_complete n s r h small =
    let p = and_left (is_digit h.first) (list_all is_digit h.more) h.digits in
    let start : ℕ = 0 * 10 + (h.first - 48) in
    let read : number_from start (h.more ++ r) ≡ (n, r) = digits_again start h.more r p.1 h.alone ∙ ap (λ (m : ℕ). (m, r)) h.value in
    rw (h.spelled, p.0, read, lt-ltb n (2 ^ 64) small, h.alone) refl
