-- What the values of each type are.
use Rattle.std.proofs.Common.{◌≡◌, ℕ, ℤ, Bool, true, ◌&&◌, List, map, length, refl, ap, sym, subst, ◌∙◌, rules}
use Rattle.std.specs.Prelude.{nat_lt}
use Rattle.std.specs.List.{list_all}
use Rattle.flow_value.specs.Bounds.{Bounded, is_few}
use Rattle.flow_value.specs.declared.value.Val.{Val}
use Rattle.flow_value.specs.declared.value.Val.TheOpen.{Val-F}
use Rattle.flow_value.specs.declared.value.Val.TheVariants as val
use Rattle.flow_value.specs.declared.value.Val.TheViews as values
use Rattle.flow_value.specs.declared.value.Val.TheViews.{out-Val}
use Rattle.flow_value.specs.declared.cause.Cause.{Cause}
use Rattle.flow_value.specs.declared.ty.Ty.{Ty}
use Rattle.flow_value.specs.declared.ty.Ty.TheOpen.{Ty-F}
use Rattle.flow_value.specs.declared.ty.Ty.TheViews.{out-Ty, roll-Ty, roll-out-Ty}
use Rattle.flow_value.specs.declared.ty.Ty.TheFolds.{map-Ty, fold-roll-Ty}
use Rattle.flow_value.specs.declared.ty.Ty.TheVariants as ty
use Rattle.flow_value.specs.Well.{Test, test_part, well_step, array_test, is_well, is_well_tag, are_well_fields}
use Rattle.flow_value.specs.Scalar.{fits_64}
use Rattle.typed_rows.specs.Rows.{Of, Member}

-- ---- values, one level

pub out_err : (c : Cause) → out-Val (val.Err c) ≡ Val-F.Err c
out_err c = search (rules, values.the_lemmas)

pub out_int : (n : ℤ) → out-Val (val.Int n) ≡ Val-F.Int n
out_int n = search (rules, values.the_lemmas)

pub out_bool : (b : Bool) → out-Val (val.Bool b) ≡ Val-F.Bool b
out_bool b = search (rules, values.the_lemmas)

pub out_char : (c : ℕ) → out-Val (val.Char c) ≡ Val-F.Char c
out_char c = search (rules, values.the_lemmas)

pub out_null : out-Val val.Null ≡ Val-F.Null
out_null = search (rules, values.the_lemmas)

pub out_arr : (a : Bounded Val) → out-Val (val.Arr a) ≡ Val-F.Arr a
out_arr a = search (rules, values.the_lemmas)

pub out_rec : (vs : List Val) → out-Val (val.Rec vs) ≡ Val-F.Rec vs
out_rec vs = search (rules, values.the_lemmas)

pub out_uni : (t : ℕ) (v : Val) → out-Val (val.Uni t v) ≡ Val-F.Uni t v
out_uni t v = search (rules, values.the_lemmas)

pub out_stream : (vs : List Val) → out-Val (val.Stream vs) ≡ Val-F.Stream vs
out_stream vs = search (rules, values.the_lemmas)

in_err : (v : Val) (c : Cause) → out-Val v ≡ Val-F.Err c → val.Err c ≡ v
in_err v c e = search (rules, values.the_lemmas)

in_int : (v : Val) (n : ℤ) → out-Val v ≡ Val-F.Int n → val.Int n ≡ v
in_int v n e = search (rules, values.the_lemmas)

in_bool : (v : Val) (b : Bool) → out-Val v ≡ Val-F.Bool b → val.Bool b ≡ v
in_bool v b e = search (rules, values.the_lemmas)

in_char : (v : Val) (c : ℕ) → out-Val v ≡ Val-F.Char c → val.Char c ≡ v
in_char v c e = search (rules, values.the_lemmas)

in_null : (v : Val) → out-Val v ≡ Val-F.Null → val.Null ≡ v
in_null v e = search (rules, values.the_lemmas)

in_arr : (v : Val) (a : Bounded Val) → out-Val v ≡ Val-F.Arr a → val.Arr a ≡ v
in_arr v a e = search (rules, values.the_lemmas)

in_rec : (v : Val) (vs : List Val) → out-Val v ≡ Val-F.Rec vs → val.Rec vs ≡ v
in_rec v vs e = search (rules, values.the_lemmas)

in_uni : (v : Val) (t : ℕ) (w : Val) → out-Val v ≡ Val-F.Uni t w → val.Uni t w ≡ v
in_uni v t w e = search (rules, values.the_lemmas)

in_stream : (v : Val) (vs : List Val) → out-Val v ≡ Val-F.Stream vs → val.Stream vs ≡ v
in_stream v vs e = search (rules, values.the_lemmas)

-- ---- types, one level

level : (x : Ty-F Ty) (t : Ty) (v : Val) → t ≡ roll-Ty x → is_well t v ≡ test_part (map-Ty Ty Test is_well x) (out-Val v)
level x t v e = ap (λ t. is_well t v) e ∙ ap (λ test. test v) (fold-roll-Ty Test well_step x)

pub at_int : (v : Val) → is_well ty.Int v ≡ test_part Ty-F.Int (out-Val v)
at_int v = level Ty-F.Int ty.Int v (sym ty.rolls-Int)

pub at_bool : (v : Val) → is_well ty.Bool v ≡ test_part Ty-F.Bool (out-Val v)
at_bool v = level Ty-F.Bool ty.Bool v (sym ty.rolls-Bool)

pub at_char : (v : Val) → is_well ty.Char v ≡ test_part Ty-F.Char (out-Val v)
at_char v = level Ty-F.Char ty.Char v (sym ty.rolls-Char)

pub at_null : (v : Val) → is_well ty.Null v ≡ test_part Ty-F.Null (out-Val v)
at_null v = level Ty-F.Null ty.Null v (sym ty.rolls-Null)

pub at_arr : (t : Ty) (v : Val) → is_well (ty.Arr t) v ≡ test_part (Ty-F.Arr (is_well t)) (out-Val v)
at_arr t v = level (Ty-F.Arr t) (ty.Arr t) v (sym (ty.rolls-Arr t))

pub at_stream : (t : Ty) (v : Val) → is_well (ty.Stream t) v ≡ test_part (Ty-F.Stream (is_well t)) (out-Val v)
at_stream t v = level (Ty-F.Stream t) (ty.Stream t) v (sym (ty.rolls-Stream t))

pub at_rec : (ms : List Member) (v : Val) → is_well (ty.Rec ms) v ≡ test_part (Ty-F.Rec (map (λ f. (f.0, is_well f.1)) ms)) (out-Val v)
at_rec ms v = level (Ty-F.Rec ms) (ty.Rec ms) v (sym (ty.rolls-Rec ms))

pub at_uni : (ms : List Member) (v : Val) → is_well (ty.Uni ms) v ≡ test_part (Ty-F.Uni (map (λ f. (f.0, is_well f.1)) ms)) (out-Val v)
at_uni ms v = level (Ty-F.Uni ms) (ty.Uni ms) v (sym (ty.rolls-Uni ms))

-- ---- an error belongs to every type

any_error : (x : Ty-F Test) (c : Cause) → test_part x (Val-F.Err c) ≡ true
any_error Ty-F.Int c = refl
any_error Ty-F.Bool c = refl
any_error Ty-F.Char c = refl
any_error Ty-F.Null c = refl
any_error (Ty-F.Arr t) c = refl
any_error (Ty-F.Stream t) c = refl
any_error (Ty-F.Rec ms) c = refl
any_error (Ty-F.Uni ms) c = refl

pub of_error : (t : Ty) (c : Cause) → Of t (val.Err c)
of_error t c =
    level (out-Ty t) t (val.Err c) (sym (roll-out-Ty t)) ∙ ap (test_part (map-Ty Ty Test is_well (out-Ty t))) (out_err c) ∙ any_error (map-Ty Ty Test is_well (out-Ty t)) c

-- ---- the kinds

pub data IntKind : Val → Type 0 where
  an_int : (n : ℤ) → fits_64 n ≡ true → IntKind (val.Int n)
  no_int : (c : Cause) → IntKind (val.Err c)

pub data BoolKind : Val → Type 0 where
  a_bool : (b : Bool) → BoolKind (val.Bool b)
  no_bool : (c : Cause) → BoolKind (val.Err c)

pub data CharKind : Val → Type 0 where
  a_char : (n : ℕ) → nat_lt n 128 ≡ true → CharKind (val.Char n)
  no_char : (c : Cause) → CharKind (val.Err c)

pub data NullKind : Val → Type 0 where
  a_null : NullKind val.Null
  no_null : (c : Cause) → NullKind (val.Err c)

pub data ArrKind (t : Ty) : Val → Type 0 where
  an_arr : (a : Bounded Val) → array_test (is_well t) a ≡ true → ArrKind t (val.Arr a)
  no_arr : (c : Cause) → ArrKind t (val.Err c)

pub data StreamKind (t : Ty) : Val → Type 0 where
  a_stream : (vs : List Val) → (is_few (length vs) && list_all (is_well t) vs) ≡ true → StreamKind t (val.Stream vs)
  no_stream : (c : Cause) → StreamKind t (val.Err c)

pub data RecKind (ms : List Member) : Val → Type 0 where
  a_rec : (vs : List Val) → (is_few (length vs) && are_well_fields ms vs) ≡ true → RecKind ms (val.Rec vs)
  no_rec : (c : Cause) → RecKind ms (val.Err c)

pub data UniKind (ms : List Member) : Val → Type 0 where
  a_uni : (tag : ℕ) (v : Val) → is_well_tag ms tag v ≡ true → UniKind ms (val.Uni tag v)
  no_uni : (c : Cause) → UniKind ms (val.Err c)

int_by : (v : Val) (y : Val-F Val) → out-Val v ≡ y → test_part Ty-F.Int y ≡ true → IntKind v
int_by v (Val-F.Int n) e w = subst IntKind (in_int v n e) (an_int n w)
int_by v (Val-F.Err c) e w = subst IntKind (in_err v c e) (no_int c)
int_by v _ e w = absurd cc

pub as_int : (v : Val) → Of ty.Int v → IntKind v
as_int v w = int_by v (out-Val v) refl (sym (at_int v) ∙ w)

bool_by : (v : Val) (y : Val-F Val) → out-Val v ≡ y → test_part Ty-F.Bool y ≡ true → BoolKind v
bool_by v (Val-F.Bool b) e w = subst BoolKind (in_bool v b e) (a_bool b)
bool_by v (Val-F.Err c) e w = subst BoolKind (in_err v c e) (no_bool c)
bool_by v _ e w = absurd cc

pub as_bool : (v : Val) → Of ty.Bool v → BoolKind v
as_bool v w = bool_by v (out-Val v) refl (sym (at_bool v) ∙ w)

char_by : (v : Val) (y : Val-F Val) → out-Val v ≡ y → test_part Ty-F.Char y ≡ true → CharKind v
char_by v (Val-F.Char n) e w = subst CharKind (in_char v n e) (a_char n w)
char_by v (Val-F.Err c) e w = subst CharKind (in_err v c e) (no_char c)
char_by v _ e w = absurd cc

pub as_char : (v : Val) → Of ty.Char v → CharKind v
as_char v w = char_by v (out-Val v) refl (sym (at_char v) ∙ w)

null_by : (v : Val) (y : Val-F Val) → out-Val v ≡ y → test_part Ty-F.Null y ≡ true → NullKind v
null_by v Val-F.Null e w = subst NullKind (in_null v e) a_null
null_by v (Val-F.Err c) e w = subst NullKind (in_err v c e) (no_null c)
null_by v _ e w = absurd cc

pub as_null : (v : Val) → Of ty.Null v → NullKind v
as_null v w = null_by v (out-Val v) refl (sym (at_null v) ∙ w)

arr_by : (t : Ty) (v : Val) (y : Val-F Val) → out-Val v ≡ y → test_part (Ty-F.Arr (is_well t)) y ≡ true → ArrKind t v
arr_by t v (Val-F.Arr a) e w = subst (ArrKind t) (in_arr v a e) (an_arr a w)
arr_by t v (Val-F.Err c) e w = subst (ArrKind t) (in_err v c e) (no_arr c)
arr_by t v _ e w = absurd cc

pub as_arr : (t : Ty) (v : Val) → Of (ty.Arr t) v → ArrKind t v
as_arr t v w = arr_by t v (out-Val v) refl (sym (at_arr t v) ∙ w)

stream_by : (t : Ty) (v : Val) (y : Val-F Val) → out-Val v ≡ y → test_part (Ty-F.Stream (is_well t)) y ≡ true → StreamKind t v
stream_by t v (Val-F.Stream vs) e w = subst (StreamKind t) (in_stream v vs e) (a_stream vs w)
stream_by t v (Val-F.Err c) e w = subst (StreamKind t) (in_err v c e) (no_stream c)
stream_by t v _ e w = absurd cc

pub as_stream : (t : Ty) (v : Val) → Of (ty.Stream t) v → StreamKind t v
as_stream t v w = stream_by t v (out-Val v) refl (sym (at_stream t v) ∙ w)

rec_by : (ms : List Member) (v : Val) (y : Val-F Val) → out-Val v ≡ y → test_part (Ty-F.Rec (map (λ f. (f.0, is_well f.1)) ms)) y ≡ true → RecKind ms v
rec_by ms v (Val-F.Rec vs) e w = subst (RecKind ms) (in_rec v vs e) (a_rec vs w)
rec_by ms v (Val-F.Err c) e w = subst (RecKind ms) (in_err v c e) (no_rec c)
rec_by ms v _ e w = absurd cc

pub as_rec : (ms : List Member) (v : Val) → Of (ty.Rec ms) v → RecKind ms v
as_rec ms v w = rec_by ms v (out-Val v) refl (sym (at_rec ms v) ∙ w)

uni_by : (ms : List Member) (v : Val) (y : Val-F Val) → out-Val v ≡ y → test_part (Ty-F.Uni (map (λ f. (f.0, is_well f.1)) ms)) y ≡ true → UniKind ms v
uni_by ms v (Val-F.Uni t x) e w = subst (UniKind ms) (in_uni v t x e) (a_uni t x w)
uni_by ms v (Val-F.Err c) e w = subst (UniKind ms) (in_err v c e) (no_uni c)
uni_by ms v _ e w = absurd cc

pub as_uni : (ms : List Member) (v : Val) → Of (ty.Uni ms) v → UniKind ms v
as_uni ms v w = uni_by ms v (out-Val v) refl (sym (at_uni ms v) ∙ w)

-- ---- values of a type

pub of_int : (n : ℤ) → fits_64 n ≡ true → Of ty.Int (val.Int n)
of_int n w = at_int (val.Int n) ∙ ap (test_part Ty-F.Int) (out_int n) ∙ w

pub of_bool : (b : Bool) → Of ty.Bool (val.Bool b)
of_bool b = at_bool (val.Bool b) ∙ ap (test_part Ty-F.Bool) (out_bool b)

pub of_char : (n : ℕ) → nat_lt n 128 ≡ true → Of ty.Char (val.Char n)
of_char n w = at_char (val.Char n) ∙ ap (test_part Ty-F.Char) (out_char n) ∙ w

pub of_null : Of ty.Null val.Null
of_null = at_null val.Null ∙ ap (test_part Ty-F.Null) out_null

pub of_arr : (t : Ty) (a : Bounded Val) → array_test (is_well t) a ≡ true → Of (ty.Arr t) (val.Arr a)
of_arr t a w = at_arr t (val.Arr a) ∙ ap (test_part (Ty-F.Arr (is_well t))) (out_arr a) ∙ w

pub of_stream : (t : Ty) (vs : List Val) → (is_few (length vs) && list_all (is_well t) vs) ≡ true → Of (ty.Stream t) (val.Stream vs)
of_stream t vs w = at_stream t (val.Stream vs) ∙ ap (test_part (Ty-F.Stream (is_well t))) (out_stream vs) ∙ w

pub of_rec : (ms : List Member) (vs : List Val) → (is_few (length vs) && are_well_fields ms vs) ≡ true → Of (ty.Rec ms) (val.Rec vs)
of_rec ms vs w = at_rec ms (val.Rec vs) ∙ ap (test_part (Ty-F.Rec (map (λ f. (f.0, is_well f.1)) ms))) (out_rec vs) ∙ w

pub of_uni : (ms : List Member) (tag : ℕ) (v : Val) → is_well_tag ms tag v ≡ true → Of (ty.Uni ms) (val.Uni tag v)
of_uni ms tag v w = at_uni ms (val.Uni tag v) ∙ ap (test_part (Ty-F.Uni (map (λ f. (f.0, is_well f.1)) ms))) (out_uni tag v) ∙ w
