-- What is spelled canonically is read as the same literal.
use Rattle.std.proofs.Common.{◌≡◌, ℕ, zero, suc, ◌+◌, ◌-◌, ◌*◌, ◌/◌, ◌%◌, ◌^◌, ◌<◌, ◌≤◌, ℤ, pos, negsuc, neg_ℤ, Bool, true, false, cond, not, ◌&&◌, ◌||◌, leb, List, [], ◌∷◌, ◌++◌, Option, Some, None, IsSome, refl, sym, ap, subst, ◌∙◌, arith, rules, option_map, inl, inr}
use Rattle.std.specs.Prelude.{decimal, IsTrue, ◌==◌, nat_lt, nat_le, if◌then◌else◌}
use Rattle.std.specs.Char.{is_ascii_digit}
use Rattle.std.specs.Fmt.{signed_decimal}
use Rattle.std.specs.List.{list_all}
use Rattle.std.proofs.lemmas.Bool.{le-leb, leb-true, ltb-true}
use Rattle.std.proofs.lemmas.Bool.Decides.{eqb_tells}
use Rattle.std.proofs.lemmas.Fmt.{decimal_by_steps}
use Rattle.std.proofs.lemmas.Nat.{div-add-mod'}
use Rattle.std.proofs.lemmas.List.Sums.{fold-append}
use Rattle.std.proofs.lemmas.List.Folds.{list_all-append}
use Rattle.flow_value.specs.Scalar.{fits_64}
use Rattle.flow_value.specs.declared.value.Val.{Val}
use Rattle.flow_value.specs.declared.value.Val.TheVariants as val
use Rattle.flow_value.specs.declared.value.Val.TheOpen.{Val-F}
use Rattle.flow_value.specs.declared.value.Val.TheViews.{out-Val}
use Rattle.flow_value.specs.declared.value.Val.TheViews as values
use Rattle.if1_graph.specs.Spelling.{is_quotable, IsQuotable}
use Rattle.if1_graph.proofs.Decimals.{and_true, and_parts, each_so}
use Rattle.if1_graph.specs.declared.graph.Graph.{Graph}
use Rattle.if1_graph.specs.declared.kind.TypeKind.{TypeKind}
use Rattle.if1_graph.specs.declared.kind.TypeKind.TheVariants as kind
use Rattle.if1_graph.specs.declared.kind.Basic.{Basic}
use Rattle.if1_graph.specs.declared.kind.Basic.TheVariants as basic
use Rattle.if1_graph.specs.declared.row.Want.{Want}
use Rattle.if1_graph.specs.declared.row.Want.TheVariants as want
use Rattle.if1_graph.specs.Tables.{◌>>=◌, beside}
use Rattle.if1_graph.specs.Literals.{digits_value, whole, signed, integer, boolean, escapes, code, item, before_quote, character, literal, hex_digit, item_text, boolean_text, scalar_text, literal_text}
use Rattle.if1_graph.specs.Formed.{IsLiteralFor}
use Rattle.if1_graph.specs.Normal.{text_for, canonical}

-- ---- integers

digit_is : (n : ℕ) → n < 10 → is_ascii_digit (48 + n) ≡ true
digit_is n h = rw (le-leb 48 (48 + n) (omega arith), le-leb (48 + n) 57 (omega (arith, h))) refl

-- a row of digits that spells n
record Row (n : ℕ) (ds : List ℕ) : Type 0 where
  first : ℕ
  more : List ℕ
  is : ds ≡ first ∷ more
  digits : list_all is_ascii_digit (first ∷ more) ≡ true
  value : digits_value (first ∷ more) ≡ n

one_digit : (n : ℕ) → n < 10 → Row n ((48 + n) ∷ [])
one_digit n h = record { first = 48 + n; more = []; is = refl; digits = and_true (is_ascii_digit (48 + n)) true (digit_is n h) refl; value = omega arith }

last_digit : (q m : ℕ) → q * 10 + (48 + m - 48) ≡ q * 10 + m
last_digit q m = omega arith

more_digits : (n : ℕ) (ds : List ℕ) → 10 ≤ n → Row (n / 10) ds → Row n (ds ++ (48 + n % 10) ∷ [])
more_digits n ds h row =
    let d : ℕ = 48 + n % 10 in
    let small : n % 10 < 10 = omega arith in
    let value : digits_value ((row.first ∷ row.more) ++ d ∷ []) ≡ n =
    fold-append (λ n d. n * 10 + (d - 48)) 0 (row.first ∷ row.more) (d ∷ []) ∙ ap (λ (x : ℕ). x * 10 + (d - 48)) row.value ∙ last_digit (n / 10) (n % 10) ∙ div-add-mod' n 10 in
    record {
      first = row.first;
      more = row.more ++ d ∷ [];
      is = ap (λ (x : List ℕ). x ++ d ∷ []) row.is;
      digits = list_all-append is_ascii_digit (row.first ∷ row.more) (d ∷ []) ∙ and_true _ _ row.digits (and_true (is_ascii_digit d) true (digit_is (n % 10) small) refl);
      value = value;
    }

row_of : (n : ℕ) → n < 2 ^ 64 → Row n (decimal n)
row_of n h = decimal_by_steps Row one_digit more_digits n h

whole_decimal : (n : ℕ) → n < 2 ^ 64 → whole (decimal n) ≡ Some n
whole_decimal n h = let row = row_of n h in rw (row.is, row.digits, row.value) refl

not_minus : (c : ℕ) (cs : List ℕ) → list_all is_ascii_digit (c ∷ cs) ≡ true → (c == 45) ≡ false
not_minus c cs h =
    let e = and_parts (is_ascii_digit c) (list_all is_ascii_digit cs) h in
    let l = and_parts (leb 48 c) (leb c 57) e.0 in
    elim (eqb_tells c 45) [ inl t ↦ absurd (omega (arith, t.1, leb-true 48 c l.0)) | inr f ↦ f.0 ]

signed_at : (c : ℕ) (cs : List ℕ) (b : Bool) → (c == 45) ≡ b → b ≡ false → signed (c ∷ cs) ≡ option_map pos (whole (c ∷ cs))
signed_at c cs b e f = ap (λ (b : Bool). cond b (option_map (λ n. neg_ℤ (pos n)) (whole cs)) (option_map pos (whole (c ∷ cs)))) (e ∙ f)

signed_decimal_of : (n : ℕ) → n < 2 ^ 64 → signed (decimal n) ≡ Some (pos n)
signed_decimal_of n h =
    let row = row_of n h in
    ap signed row.is ∙ signed_at row.first row.more (row.first == 45) refl (not_minus row.first row.more row.digits)
    ∙ ap (option_map pos) (sym (ap whole row.is) ∙ whole_decimal n h)

signed_minus : (n : ℕ) → suc n < 2 ^ 64 → signed (45 ∷ decimal (suc n)) ≡ Some (negsuc n)
signed_minus n h = ap (option_map (λ n. neg_ℤ (pos n))) (whole_decimal (suc n) h)

within : Option ℤ → Option ℤ
within o = o >>= λ n. if fits_64 n then Some n else None

integer_read : (z : ℤ) → fits_64 z ≡ true → integer (signed_decimal z) ≡ Some z
integer_read (pos n) f =
    let e : signed (decimal n) ≡ Some (pos n) = signed_decimal_of n (omega (arith, ltb-true n (2 ^ 63) f)) in
    ap (λ (o : Option ℤ). o >>= λ n. if fits_64 n then Some n else None) e ∙ ap (λ (b : Bool). cond b (Some (pos n)) None) f
integer_read (negsuc n) f =
    let e : signed (45 ∷ decimal (suc n)) ≡ Some (negsuc n) = signed_minus n (omega (arith, ltb-true n (2 ^ 63) f)) in
    ap (λ (o : Option ℤ). o >>= λ n. if fits_64 n then Some n else None) e ∙ ap (λ (b : Bool). cond b (Some (negsuc n)) None) f

fits_if : (b : Bool) (m n : ℤ) → fits_64 m ≡ b → cond b (Some m) None ≡ Some n → fits_64 n ≡ true
fits_if true m n e h = let same : m ≡ n = cc in ap fits_64 (sym same) ∙ e
fits_if false m n e h = absurd cc

integer_fits_at : (o : Option ℤ) (n : ℤ) → (o >>= λ n. if fits_64 n then Some n else None) ≡ Some n → fits_64 n ≡ true
integer_fits_at None n h = absurd cc
integer_fits_at (Some m) n h = fits_if (fits_64 m) m n refl h

integer_fits : (text : List ℕ) (n : ℤ) → integer text ≡ Some n → fits_64 n ≡ true
integer_fits text n h = integer_fits_at (signed text) n h

or_right : (a b : Bool) → b ≡ true → (a || b) ≡ true
or_right true b h = refl
or_right false b h = h

printed : (c : ℕ) → 35 ≤ c → c ≤ 126 → is_quotable c ≡ true
printed c low high =
    let other : (c == 34) ≡ false = elim (eqb_tells c 34) [ inl t ↦ absurd (omega (arith, t.1)) | inr f ↦ f.0 ] in
    and_true _ _ (or_right (c == 9) _ (and_true (leb 32 c) (leb c 126) (le-leb 32 c (omega (arith, low))) (le-leb c 126 high))) (ap not other)

digit_quotable : (c : ℕ) → is_ascii_digit c ≡ true → is_quotable c ≡ true
digit_quotable c h =
    let l = and_parts (leb 48 c) (leb c 57) h in
    printed c (omega (arith, leb-true 48 c l.0)) (omega (arith, leb-true c 57 l.1))

decimal_quotable : (n : ℕ) → n < 2 ^ 64 → list_all is_quotable (decimal n) ≡ true
decimal_quotable n h =
    let row = row_of n h in
    each_so is_ascii_digit is_quotable digit_quotable (decimal n) (subst (λ (ds : List ℕ). list_all is_ascii_digit ds ≡ true) (sym row.is) row.digits)

integer_quotable : (z : ℤ) → fits_64 z ≡ true → list_all is_quotable (signed_decimal z) ≡ true
integer_quotable (pos n) f = decimal_quotable n (omega (arith, ltb-true n (2 ^ 63) f))
integer_quotable (negsuc n) f = decimal_quotable (suc n) (omega (arith, ltb-true n (2 ^ 63) f))

-- ---- characters

unfoldable all_below : (ℕ → Bool) → ℕ → Bool
all_below p zero = true
all_below p (suc n) = p n && all_below p n

all_so : (p : ℕ → Bool) (n c : ℕ) → all_below p n ≡ true → c < n → p c ≡ true
unfolding all_below
all_so p zero c h l = absurd (omega (arith, l))
all_so p (suc n) c h l =
    let e = and_parts (p n) (all_below p n) h in
    elim (eqb_tells c n) [ inl t ↦ ap p t.1 ∙ e.0 | inr f ↦ let lt : c < n = omega (arith, l, f.1) in all_so p n c e.1 lt ]

abbrev char_text : ℕ → List ℕ
char_text c = 39 ∷ item_text c ++ 39 ∷ []

is_at : ℕ → Option ℕ → Bool
is_at c None = false
is_at c (Some d) = d == c

unfoldable is_right : ℕ → Bool
is_right c = is_at c (character (char_text c)) && list_all is_quotable (char_text c)

all_right : all_below is_right 128 ≡ true
unfolding all_below is_right is_at
all_right = refl

at_some : (c : ℕ) (o : Option ℕ) → is_at c o ≡ true → o ≡ Some c
unfolding is_at
at_some c None h = absurd cc
at_some c (Some d) h = let e = eqb_tells d c in elim e [ inl t ↦ ap Some t.1 | inr f ↦ absurd cc ]

character_read : (c : ℕ) → c < 128 → character (char_text c) ≡ Some c
unfolding is_right
character_read c h =
    at_some c (character (char_text c)) (and_parts (is_at c (character (char_text c))) (list_all is_quotable (char_text c)) (all_so is_right 128 c all_right h)).0

character_quotable : (c : ℕ) → c < 128 → list_all is_quotable (char_text c) ≡ true
unfolding is_right
character_quotable c h = (and_parts (is_at c (character (char_text c))) (list_all is_quotable (char_text c)) (all_so is_right 128 c all_right h)).1

-- codes are at most 127
abbrev Small : Option ℕ → Type 0
Small o = (c : ℕ) → o ≡ Some c → c < 128

small_none : Small None
small_none c e = absurd cc

small_some : (n : ℕ) → n < 128 → Small (Some n)
small_some n h c e = let same : n ≡ c = cc in omega (arith, h, same)

small_if : (b : Bool) (x y : Option ℕ) → Small x → Small y → Small (cond b x y)
small_if true x y p q = p
small_if false x y p q = q

small_test : (b : Bool) (n : ℕ) → (b ≡ true → n < 128) → Small (cond b (Some n) None)
small_test true n h = small_some n (h refl)
small_test false n h = small_none

small_then : {A : Type 0} (o : Option A) (f : A → Option ℕ) → ((a : A) → Small (f a)) → Small (o >>= f)
small_then None f h = small_none
small_then (Some a) f h = h a

code_small : (n : ℕ) → Small (code n)
code_small n = small_test (nat_lt n 128) n (λ e. ltb-true n 128 e)

plain_small : (c : ℕ) (b : Bool) → (nat_le 32 c && nat_le c 126 && b) ≡ true → c < 128
plain_small c b e =
    let l = and_parts (leb 32 c && leb c 126) b e in
    let m = and_parts (leb 32 c) (leb c 126) l.0 in
    omega (arith, leb-true c 126 m.1)

plain_test : (c : ℕ) → (nat_le 32 c && nat_le c 126 && not (c == 92) && not (c == 39)) ≡ true → c < 128
plain_test c e = plain_small c (not (c == 92)) (and_parts (leb 32 c && leb c 126 && not (c == 92)) (not (c == 39)) e).0

beside_small : (letter : ℕ) → Small (beside letter escapes)
beside_small l =
    small_if (110 == l) _ _ (small_some 10 (omega arith))
    (small_if (116 == l) _ _ (small_some 9 (omega arith))
    (small_if (114 == l) _ _ (small_some 13 (omega arith))
    (small_if (92 == l) _ _ (small_some 92 (omega arith))
    (small_if (39 == l) _ _ (small_some 39 (omega arith))
    (small_if (34 == l) _ _ (small_some 34 (omega arith)) small_none)))))

item_small : (text : List ℕ) → Small (item text)
item_small [] = small_none
item_small (c ∷ []) = small_test (nat_le 32 c && nat_le c 126 && not (c == 92) && not (c == 39)) c (plain_test c)
item_small (b ∷ letter ∷ []) = small_if (b == 92) _ _ (beside_small letter) small_none
item_small (b ∷ x ∷ high ∷ []) = small_none
item_small (b ∷ x ∷ high ∷ low ∷ []) =
    small_if ((b == 92) && (x == 120)) _ _
    (small_then (hex_digit high) _ (λ h. small_then (hex_digit low) _ (λ l. code_small (16 * h + l)))) small_none
item_small (b ∷ x ∷ high ∷ low ∷ y ∷ ys) = small_none

character_small : (text : List ℕ) → Small (character text)
character_small [] = small_none
character_small (c ∷ []) = code_small c
character_small (c ∷ d ∷ cs) = small_if (c == 39) _ _ (small_then (before_quote (d ∷ cs)) item item_small) small_none

-- ---- all basic types

text_of_int : (n : ℤ) → literal_text (val.Int n) ≡ signed_decimal n
text_of_int n = ap scalar_text (out_int n)
  where
    out_int : (n : ℤ) → out-Val (val.Int n) ≡ Val-F.Int n
    out_int n = search (rules, values.the_lemmas)

text_of_bool : (p : Bool) → literal_text (val.Bool p) ≡ boolean_text p
text_of_bool p = ap scalar_text (out_bool p)
  where
    out_bool : (p : Bool) → out-Val (val.Bool p) ≡ Val-F.Bool p
    out_bool p = search (rules, values.the_lemmas)

text_of_char : (c : ℕ) → literal_text (val.Char c) ≡ char_text c
text_of_char c = ap scalar_text (out_char c)
  where
    out_char : (c : ℕ) → out-Val (val.Char c) ≡ Val-F.Char c
    out_char c = search (rules, values.the_lemmas)

text_of_null : literal_text val.Null ≡ 110 ∷ 105 ∷ 108 ∷ []
text_of_null = ap scalar_text out_null
  where
    out_null : out-Val val.Null ≡ Val-F.Null
    out_null = search (rules, values.the_lemmas)

record Back (b : Basic) (v : Val) : Type 0 where
  read : literal b (literal_text v) ≡ Some v
  quotable : list_all is_quotable (literal_text v) ≡ true

back_at : (b : Basic) (v : Val) (t : List ℕ) → literal_text v ≡ t → literal b t ≡ Some v → list_all is_quotable t ≡ true → Back b v
back_at b v t e r q = record { read = ap (literal b) e ∙ r; quotable = ap (list_all is_quotable) e ∙ q }

int_back : (o : Option ℤ) (v : Val) → ((n : ℤ) → o ≡ Some n → fits_64 n ≡ true) → option_map val.Int o ≡ Some v → Back basic.Integer v
int_back None v f h = absurd cc
int_back (Some n) v f h =
    let same : val.Int n ≡ v = cc in
    let fits = f n refl in
    subst (Back basic.Integer) same (back_at basic.Integer (val.Int n) (signed_decimal n) (text_of_int n) (ap (option_map val.Int) (integer_read n fits)) (integer_quotable n fits))

bool_read : (p : Bool) → (literal basic.Boolean (boolean_text p) ≡ Some (val.Bool p)) × (list_all is_quotable (boolean_text p) ≡ true)
bool_read true = (refl, refl)
bool_read false = (refl, refl)

bool_back : (o : Option Bool) (v : Val) → option_map val.Bool o ≡ Some v → Back basic.Boolean v
bool_back None v h = absurd cc
bool_back (Some p) v h =
    let same : val.Bool p ≡ v = cc in
    subst (Back basic.Boolean) same (back_at basic.Boolean (val.Bool p) (boolean_text p) (text_of_bool p) (bool_read p).0 (bool_read p).1)

char_back : (o : Option ℕ) (v : Val) → Small o → option_map val.Char o ≡ Some v → Back basic.Character v
char_back None v f h = absurd cc
char_back (Some c) v f h =
    let same : val.Char c ≡ v = cc in
    let small = f c refl in
    subst (Back basic.Character) same
    (back_at basic.Character (val.Char c) (char_text c) (text_of_char c) (ap (option_map val.Char) (character_read c small)) (character_quotable c small))

null_back : (b : Bool) (v : Val) → cond b (Some val.Null) None ≡ Some v → Back basic.Null v
null_back true v h =
    let same : val.Null ≡ v = cc in
    subst (Back basic.Null) same (back_at basic.Null val.Null (110 ∷ 105 ∷ 108 ∷ []) text_of_null refl refl)
null_back false v h = absurd cc

back : (b : Basic) (text : List ℕ) (v : Val) → literal b text ≡ Some v → Back b v
back basic.Integer text v h = int_back (integer text) v (integer_fits text) h
back basic.Boolean text v h = bool_back (boolean text) v h
back basic.Character text v h = char_back (character text) v (character_small text) h
back basic.Null text v h = null_back _ v h
back basic.Double text v h = absurd cc
back basic.Real text v h = absurd cc
back basic.Wild text v h = absurd cc

-- ---- at ports

quotable_true : (b : Bool) → b ≡ true → IsTrue b
quotable_true true e = refl
quotable_true false e = absurd cc

-- what holds of a literal's canonical spelling
pub record Spelled (gs : List Graph) (w : Option Want) (t : List ℕ) (k : Option TypeKind) (b : Option Basic) : Type 0 where
  pub right : IsLiteralFor gs w t k b
  pub stays : canonical w k b t ≡ t
  pub quotable : IsQuotable t

record BasicSpelled (b : Basic) (t : List ℕ) : Type 0 where
  right : IsSome (literal b t)
  stays : text_for t (literal b t) ≡ t
  quotable : IsQuotable t

basic_at_value : (b : Basic) (text : List ℕ) (o : Option Val) → literal b text ≡ o → IsSome o → BasicSpelled b (text_for text o)
basic_at_value b text None e h = absurd cc
basic_at_value b text (Some v) e h =
    let r = back b text v e in
    record {
      right = subst (λ (o : Option Val). IsSome o) (sym r.read) refl;
      stays = ap (text_for (literal_text v)) r.read;
      quotable = quotable_true (list_all is_quotable (literal_text v)) r.quotable;
    }

basic_spelled : (b : Basic) (text : List ℕ) → IsSome (literal b text) → BasicSpelled b (text_for text (literal b text))
basic_spelled b text h = basic_at_value b text (literal b text) refl h

pub spelled : (gs : List Graph) (w : Option Want) (text : List ℕ) (k : Option TypeKind) (b : Option Basic) → IsLiteralFor gs w text k b → IsQuotable text →
    Spelled gs w (canonical w k b text) k b
spelled gs (Some want.Function) text (Some kind.Function) b h q = record { right = h; stays = refl; quotable = q }
spelled gs (Some want.Reduction) text (Some kind.Function) b h q = record { right = h; stays = refl; quotable = q }
spelled gs w text (Some kind.Function) b h q = record { right = h; stays = refl; quotable = q }
spelled gs (Some want.Reduction) text (Some kind.Basic) (Some basic.Integer) h q = record { right = h; stays = refl; quotable = q }
spelled gs w text (Some kind.Basic) (Some b) h q =
    let s = basic_spelled b text h in record { right = s.right; stays = s.stays; quotable = s.quotable }
spelled gs w text _ _ h q = absurd h
