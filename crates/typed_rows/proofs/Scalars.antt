-- The rows of scalars give values of their types.
use Rattle.std.proofs.Common.{◌≡◌, ◌⊎◌, inl, inr, ℕ, zero, suc, ℤ, pos, negsuc, neg_ℤ, Bool, true, false, not, List, [], ◌∷◌, refl, sym, subst, arith}
use Rattle.std.specs.Prelude.{nat_lt, if◌then◌else◌, int_lt, unsigned_abs, int_div, ◌+ℤ◌, ◌-ℤ◌, ◌*ℤ◌}
use Rattle.std.specs.Int.{int_max, int_min}
use Rattle.flow_value.specs.declared.value.Val.{Val}
use Rattle.flow_value.specs.declared.value.Val.TheVariants as val
use Rattle.flow_value.specs.declared.cause.Cause.{Cause}
use Rattle.flow_value.specs.declared.cause.Cause.TheVariants as cause
use Rattle.flow_value.specs.declared.operation.Scalar1.TheVariants as one
use Rattle.flow_value.specs.declared.operation.Scalar2.{Scalar2}
use Rattle.flow_value.specs.declared.operation.Scalar2.TheVariants as two
use Rattle.flow_value.specs.declared.ty.Ty.{Ty}
use Rattle.flow_value.specs.declared.ty.Ty.TheVariants as ty
use Rattle.flow_value.specs.Scalar.{fits_64, fitted, is_zero, on_integers, int_of_bool, bool_of, char_of, row2, strict1, strict2}
use Rattle.typed_rows.specs.Rows.{Of, AreOf, IsArithmetic, IsEquality, IsOrder, IsOrdered, IsScalar}
use Rattle.typed_rows.proofs.ValueKinds.{IntKind, an_int, no_int, BoolKind, a_bool, no_bool, CharKind, a_char, no_char, NullKind, a_null, no_null, as_int, as_bool, as_char, as_null, of_error, of_int, of_bool, of_char}

-- ---- so many operands

pub with_none : (P : List Val → Type 0) → P [] → (vs : List Val) → AreOf [] vs → P vs
with_none P f [] h = f
with_none P f (v ∷ vs) h = absurd h

pub with_one : (t : Ty) (P : List Val → Type 0) → ((v : Val) → Of t v → P (v ∷ [])) → (vs : List Val) → AreOf (t ∷ []) vs → P vs
with_one t P f [] h = absurd h
with_one t P f (v ∷ vs) h = with_none (λ ws. P (v ∷ ws)) (f v h.0) vs h.1

pub with_two : (t u : Ty) (P : List Val → Type 0) → ((v w : Val) → Of t v → Of u w → P (v ∷ w ∷ [])) → (vs : List Val) → AreOf (t ∷ u ∷ []) vs → P vs
with_two t u P f [] h = absurd h
with_two t u P f (v ∷ vs) h = with_one u (λ ws. P (v ∷ ws)) (λ w k. f v w h.0 k) vs h.1

pub with_three : (t u s : Ty) (P : List Val → Type 0) → ((v w x : Val) → Of t v → Of u w → Of s x → P (v ∷ w ∷ x ∷ [])) → (vs : List Val) → AreOf (t ∷ u ∷ s ∷ []) vs → P vs
with_three t u s P f [] h = absurd h
with_three t u s P f (v ∷ vs) h = with_two u s (λ ws. P (v ∷ ws)) (λ w x k l. f v w x h.0 k l) vs h.1

-- ---- results

pub of_fitted : (z : ℤ) → Of ty.Int (fitted z)
of_fitted z = by (fits_64 z) refl
  where
    by : (b : Bool) → fits_64 z ≡ b → Of ty.Int (if b then val.Int z else val.Err cause.Overflow)
    by true e = of_int z e
    by false e = of_error ty.Int cause.Overflow

or_error : (t : Ty) (b : Bool) (c : Cause) (v : Val) → Of t v → Of t (if b then val.Err c else v)
or_error t true c v h = of_error t c
or_error t false c v h = h

of_bool_of : (n : ℤ) → Of ty.Bool (bool_of n)
of_bool_of (pos zero) = of_bool false
of_bool_of (pos (suc zero)) = of_bool true
of_bool_of (pos (suc (suc n))) = of_error ty.Bool cause.Bounds
of_bool_of (negsuc n) = of_error ty.Bool cause.Bounds

of_char_of : (n : ℤ) → Of ty.Char (char_of n)
of_char_of (pos n) = by (nat_lt n 128) refl
  where
    by : (b : Bool) → nat_lt n 128 ≡ b → Of ty.Char (if b then val.Char n else val.Err cause.Bounds)
    by true e = of_char n e
    by false e = of_error ty.Char cause.Bounds
of_char_of (negsuc n) = of_error ty.Char cause.Bounds

char_fits : (c : ℕ) → nat_lt c 128 ≡ true → fits_64 (pos c) ≡ true
char_fits c h = grind (arith, h)

pub max_fits : (m n : ℤ) → fits_64 m ≡ true → fits_64 n ≡ true → fits_64 (int_max m n) ≡ true
max_fits m n h k = by (int_lt n m)
  where
    by : (b : Bool) → fits_64 (if b then m else n) ≡ true
    by true = h
    by false = k

pub min_fits : (m n : ℤ) → fits_64 m ≡ true → fits_64 n ≡ true → fits_64 (int_min m n) ≡ true
min_fits m n h k = by (int_lt n m)
  where
    by : (b : Bool) → fits_64 (if b then n else m) ≡ true
    by true = k
    by false = h

-- ---- one operand

pub neg_well : (v : Val) → IntKind v → Of ty.Int (strict1 one.Neg v)
neg_well _ (an_int n w) = of_fitted (neg_ℤ n)
neg_well _ (no_int c) = of_error ty.Int c

pub abs_well : (v : Val) → IntKind v → Of ty.Int (strict1 one.Abs v)
abs_well _ (an_int n w) = of_fitted (pos (unsigned_abs n))
abs_well _ (no_int c) = of_error ty.Int c

pub not_well : (v : Val) → BoolKind v → Of ty.Bool (strict1 one.Not v)
not_well _ (a_bool b) = of_bool (not b)
not_well _ (no_bool c) = of_error ty.Bool c

pub int_int_well : (v : Val) → IntKind v → Of ty.Int (strict1 one.Int v)
int_int_well _ (an_int n w) = of_int n w
int_int_well _ (no_int c) = of_error ty.Int c

bool_fits : (b : Bool) → fits_64 (int_of_bool b) ≡ true
bool_fits true = refl
bool_fits false = refl

pub int_bool_well : (v : Val) → BoolKind v → Of ty.Int (strict1 one.Int v)
int_bool_well _ (a_bool b) = of_int (int_of_bool b) (bool_fits b)
int_bool_well _ (no_bool c) = of_error ty.Int c

pub int_char_well : (v : Val) → CharKind v → Of ty.Int (strict1 one.Int v)
int_char_well _ (a_char n w) = of_int (pos n) (char_fits n w)
int_char_well _ (no_char c) = of_error ty.Int c

pub bool_bool_well : (v : Val) → BoolKind v → Of ty.Bool (strict1 one.Bool v)
bool_bool_well _ (a_bool b) = of_bool b
bool_bool_well _ (no_bool c) = of_error ty.Bool c

pub bool_int_well : (v : Val) → IntKind v → Of ty.Bool (strict1 one.Bool v)
bool_int_well _ (an_int n w) = of_bool_of n
bool_int_well _ (no_int c) = of_error ty.Bool c

pub char_char_well : (v : Val) → CharKind v → Of ty.Char (strict1 one.Char v)
char_char_well _ (a_char n w) = of_char n w
char_char_well _ (no_char c) = of_error ty.Char c

pub char_int_well : (v : Val) → IntKind v → Of ty.Char (strict1 one.Char v)
char_int_well _ (an_int n w) = of_char_of n
char_int_well _ (no_int c) = of_error ty.Char c

-- whatever the operand is
pub is_error_well : (v : Val) → Of ty.Bool (strict1 one.IsError v)
is_error_well (val.Err c) = of_bool true
is_error_well (val.Int n) = of_bool false
is_error_well (val.Bool b) = of_bool false
is_error_well (val.Char n) = of_bool false
is_error_well val.Null = of_bool false
is_error_well _ = of_bool false

-- ---- two operands

arithmetic_row : (f : Scalar2) → IsArithmetic f → (m n : ℤ) → fits_64 m ≡ true → fits_64 n ≡ true → Of ty.Int (on_integers f m n)
arithmetic_row two.Plus a m n h k = of_fitted (m +ℤ n)
arithmetic_row two.Minus a m n h k = of_fitted (m -ℤ n)
arithmetic_row two.Times a m n h k = of_fitted (m *ℤ n)
arithmetic_row two.Div a m n h k = or_error ty.Int (is_zero n) cause.Zero (fitted (int_div m n)) (of_fitted (int_div m n))
arithmetic_row two.Mod a m n h k = or_error ty.Int (is_zero n) cause.Zero (fitted (m -ℤ (n *ℤ int_div m n))) (of_fitted (m -ℤ (n *ℤ int_div m n)))
arithmetic_row two.Max a m n h k = of_int (int_max m n) (max_fits m n h k)
arithmetic_row two.Min a m n h k = of_int (int_min m n) (min_fits m n h k)
arithmetic_row two.Equal a m n h k = absurd a
arithmetic_row two.NotEqual a m n h k = absurd a
arithmetic_row two.Less a m n h k = absurd a
arithmetic_row two.LessEqual a m n h k = absurd a

pub arithmetic_well : (f : Scalar2) → IsArithmetic f → (v w : Val) → IntKind v → IntKind w → Of ty.Int (strict2 (row2 f) v w)
arithmetic_well f a _ _ (an_int m h) (an_int n k) = arithmetic_row f a m n h k
arithmetic_well f a _ _ (an_int m h) (no_int c) = of_error ty.Int c
arithmetic_well f a _ w (no_int c) k = of_error ty.Int c

pub either_well : (v w : Val) → BoolKind v → BoolKind w → Of ty.Bool (strict2 (row2 two.Plus) v w)
either_well _ _ (a_bool p) (a_bool q) = of_bool _
either_well _ _ (a_bool p) (no_bool c) = of_error ty.Bool c
either_well _ w (no_bool c) k = of_error ty.Bool c

pub both_well : (v w : Val) → BoolKind v → BoolKind w → Of ty.Bool (strict2 (row2 two.Times) v w)
both_well _ _ (a_bool p) (a_bool q) = of_bool _
both_well _ _ (a_bool p) (no_bool c) = of_error ty.Bool c
both_well _ w (no_bool c) k = of_error ty.Bool c

-- equality and order, one kind at a time
abbrev pub Tested : Scalar2 → Val → Val → Type 0
Tested f v w = Of ty.Bool (strict2 (row2 f) v w)

equal_ints : (f : Scalar2) → (f ≡ two.Equal) ⊎ ((f ≡ two.NotEqual) ⊎ ((f ≡ two.Less) ⊎ (f ≡ two.LessEqual))) → (m n : ℤ) → Tested f (val.Int m) (val.Int n)
equal_ints f (inl e) m n = subst (λ g. Tested g (val.Int m) (val.Int n)) (sym e) (of_bool _)
equal_ints f (inr (inl e)) m n = subst (λ g. Tested g (val.Int m) (val.Int n)) (sym e) (of_bool _)
equal_ints f (inr (inr (inl e))) m n = subst (λ g. Tested g (val.Int m) (val.Int n)) (sym e) (of_bool _)
equal_ints f (inr (inr (inr e))) m n = subst (λ g. Tested g (val.Int m) (val.Int n)) (sym e) (of_bool _)

equal_chars : (f : Scalar2) → (f ≡ two.Equal) ⊎ ((f ≡ two.NotEqual) ⊎ ((f ≡ two.Less) ⊎ (f ≡ two.LessEqual))) → (m n : ℕ) → Tested f (val.Char m) (val.Char n)
equal_chars f (inl e) m n = subst (λ g. Tested g (val.Char m) (val.Char n)) (sym e) (of_bool _)
equal_chars f (inr (inl e)) m n = subst (λ g. Tested g (val.Char m) (val.Char n)) (sym e) (of_bool _)
equal_chars f (inr (inr (inl e))) m n = subst (λ g. Tested g (val.Char m) (val.Char n)) (sym e) (of_bool _)
equal_chars f (inr (inr (inr e))) m n = subst (λ g. Tested g (val.Char m) (val.Char n)) (sym e) (of_bool _)

equal_bools : (f : Scalar2) → IsEquality f → (p q : Bool) → Tested f (val.Bool p) (val.Bool q)
equal_bools f (inl e) p q = subst (λ g. Tested g (val.Bool p) (val.Bool q)) (sym e) (of_bool _)
equal_bools f (inr e) p q = subst (λ g. Tested g (val.Bool p) (val.Bool q)) (sym e) (of_bool _)

equal_nulls : (f : Scalar2) → IsEquality f → Tested f val.Null val.Null
equal_nulls f (inl e) = subst (λ g. Tested g val.Null val.Null) (sym e) (of_bool _)
equal_nulls f (inr e) = subst (λ g. Tested g val.Null val.Null) (sym e) (of_bool _)

abbrev IsTest : Scalar2 → Type 0
IsTest f = (f ≡ two.Equal) ⊎ ((f ≡ two.NotEqual) ⊎ ((f ≡ two.Less) ⊎ (f ≡ two.LessEqual)))

of_equality : (f : Scalar2) → IsEquality f → IsTest f
of_equality f (inl e) = inl e
of_equality f (inr e) = inr (inl e)

of_order : (f : Scalar2) → IsOrder f → IsTest f
of_order f (inl e) = inr (inr (inl e))
of_order f (inr e) = inr (inr (inr e))

ints_well : (f : Scalar2) → IsTest f → (v w : Val) → IntKind v → IntKind w → Tested f v w
ints_well f t _ _ (an_int m h) (an_int n k) = equal_ints f t m n
ints_well f t _ _ (an_int m h) (no_int c) = of_error ty.Bool c
ints_well f t _ w (no_int c) k = of_error ty.Bool c

chars_well : (f : Scalar2) → IsTest f → (v w : Val) → CharKind v → CharKind w → Tested f v w
chars_well f t _ _ (a_char m h) (a_char n k) = equal_chars f t m n
chars_well f t _ _ (a_char m h) (no_char c) = of_error ty.Bool c
chars_well f t _ w (no_char c) k = of_error ty.Bool c

bools_well : (f : Scalar2) → IsEquality f → (v w : Val) → BoolKind v → BoolKind w → Tested f v w
bools_well f t _ _ (a_bool p) (a_bool q) = equal_bools f t p q
bools_well f t _ _ (a_bool p) (no_bool c) = of_error ty.Bool c
bools_well f t _ w (no_bool c) k = of_error ty.Bool c

nulls_well : (f : Scalar2) → IsEquality f → (v w : Val) → NullKind v → NullKind w → Tested f v w
nulls_well f t _ _ a_null a_null = equal_nulls f t
nulls_well f t _ _ a_null (no_null c) = of_error ty.Bool c
nulls_well f t _ w (no_null c) k = of_error ty.Bool c

pub equality_well : (f : Scalar2) (a : Ty) → IsEquality f → IsScalar a → (v w : Val) → Of a v → Of a w → Tested f v w
equality_well f a t (inl e) v w h k = ints_well f (of_equality f t) v w (as_int v (subst (λ b. Of b v) e h)) (as_int w (subst (λ b. Of b w) e k))
equality_well f a t (inr (inl e)) v w h k = bools_well f t v w (as_bool v (subst (λ b. Of b v) e h)) (as_bool w (subst (λ b. Of b w) e k))
equality_well f a t (inr (inr (inl e))) v w h k = chars_well f (of_equality f t) v w (as_char v (subst (λ b. Of b v) e h)) (as_char w (subst (λ b. Of b w) e k))
equality_well f a t (inr (inr (inr e))) v w h k = nulls_well f t v w (as_null v (subst (λ b. Of b v) e h)) (as_null w (subst (λ b. Of b w) e k))

pub order_well : (f : Scalar2) (a : Ty) → IsOrder f → IsOrdered a → (v w : Val) → Of a v → Of a w → Tested f v w
order_well f a t (inl e) v w h k = ints_well f (of_order f t) v w (as_int v (subst (λ b. Of b v) e h)) (as_int w (subst (λ b. Of b w) e k))
order_well f a t (inr e) v w h k = chars_well f (of_order f t) v w (as_char v (subst (λ b. Of b v) e h)) (as_char w (subst (λ b. Of b w) e k))
