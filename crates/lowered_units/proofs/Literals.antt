-- A constant of a type is read from its spelling as its value.
use Rattle.std.proofs.Common.{◌≡◌, ℕ, zero, suc, ◌+◌, ◌-◌, ◌*◌, ◌/◌, ◌%◌, ◌^◌, ◌<◌, ◌≤◌, ℤ, pos, negsuc, neg_ℤ, Bool, true, false, cond, not, ◌&&◌, ◌||◌, leb, List, [], ◌∷◌, ◌++◌, slice_get, Option, Some, None, refl, sym, ap, subst, ◌∙◌, arith, option_map, inl, inr}
use Rattle.std.specs.Prelude.{decimal, ◌==◌, if◌then◌else◌}
use Rattle.std.specs.Char.{is_ascii_digit}
use Rattle.std.specs.Fmt.{signed_decimal}
use Rattle.std.specs.List.{list_all}
use Rattle.std.proofs.lemmas.Bool.{le-leb, leb-true, ltb-true}
use Rattle.std.proofs.lemmas.Bool.Decides.{eqb_tells}
use Rattle.std.proofs.lemmas.Fmt.{decimal_by_steps}
use Rattle.std.proofs.lemmas.Nat.{div-add-mod'}
use Rattle.std.proofs.lemmas.List.Sums.{fold-append}
use Rattle.std.proofs.lemmas.List.Folds.{list_all-append}
use Rattle.flow_value.specs.Scalar.{fits_64}
use Rattle.flow_value.specs.declared.value.Val.TheVariants as val
use Rattle.sisal_tree.specs.declared.expr.Constant.{Constant}
use Rattle.sisal_tree.specs.declared.expr.Constant.TheVariants as constant
use Rattle.type_table.specs.declared.form.Form.{Form}
use Rattle.type_table.specs.declared.form.Form.TheVariants as form
use Rattle.typed_tree.specs.declared.program.Program.{Program}
use Rattle.if1_graph.specs.Spelling.{is_quotable}
use Rattle.if1_graph.proofs.Decimals.{and_true, and_parts, each_so}
use Rattle.if1_graph.specs.declared.graph.Unit1.{Unit1}
use Rattle.if1_graph.specs.declared.row.Want.{Want}
use Rattle.if1_graph.specs.declared.row.Want.TheVariants as want
use Rattle.if1_graph.specs.Kinds.{kind_at}
use Rattle.if1_graph.specs.Tables.{◌>>=◌}
use Rattle.if1_graph.specs.Types.{entry_at}
use Rattle.if1_graph.specs.Literals.{digits_value, whole, signed, integer, character, item_text}
use Rattle.graph_meaning.specs.Carried.{Value}
use Rattle.graph_meaning.specs.Networks.{fixed, of_basic, or_explicit}
use Rattle.lowering.specs.declared.feed.Carried.TheVariants.{One}
use Rattle.lowering.specs.Types.{basics, form_label, label_within, table, label_of}
use Rattle.lowered_units.specs.Networks.{constant_value}
use Rattle.lowered_units.specs.Units.{constant_text, entries_from}
use Rattle.lowered_units.proofs.Built.{IsConstantOf}
use Rattle.lowering.proofs.Tables.{table-begins}

-- ---- integers

digit_is : (n : ℕ) → n < 10 → is_ascii_digit (48 + n) ≡ true
digit_is n h = rw (le-leb 48 (48 + n) (omega arith), le-leb (48 + n) 57 (omega (arith, h))) refl

-- a row of digits that spells n
record Row (n : ℕ) (ds : List ℕ) : Type 0 where
  first : ℕ
  more : List ℕ
  is : ds ≡ first ∷ more
  digits : list_all is_ascii_digit (first ∷ more) ≡ true
  value : digits_value (first ∷ more) ≡ n

one_digit : (n : ℕ) → n < 10 → Row n ((48 + n) ∷ [])
one_digit n h = record { first = 48 + n; more = []; is = refl; digits = and_true (is_ascii_digit (48 + n)) true (digit_is n h) refl; value = omega arith }

last_digit : (q m : ℕ) → q * 10 + (48 + m - 48) ≡ q * 10 + m
last_digit q m = omega arith

more_digits : (n : ℕ) (ds : List ℕ) → 10 ≤ n → Row (n / 10) ds → Row n (ds ++ (48 + n % 10) ∷ [])
more_digits n ds h row =
    let d : ℕ = 48 + n % 10 in
    let small : n % 10 < 10 = omega arith in
    let value : digits_value ((row.first ∷ row.more) ++ d ∷ []) ≡ n =
    fold-append (λ n d. n * 10 + (d - 48)) 0 (row.first ∷ row.more) (d ∷ []) ∙ ap (λ (x : ℕ). x * 10 + (d - 48)) row.value ∙ last_digit (n / 10) (n % 10) ∙ div-add-mod' n 10 in
    record {
      first = row.first;
      more = row.more ++ d ∷ [];
      is = ap (λ (x : List ℕ). x ++ d ∷ []) row.is;
      digits = list_all-append is_ascii_digit (row.first ∷ row.more) (d ∷ []) ∙ and_true _ _ row.digits (and_true (is_ascii_digit d) true (digit_is (n % 10) small) refl);
      value = value;
    }

row_of : (n : ℕ) → n < 2 ^ 64 → Row n (decimal n)
row_of n h = decimal_by_steps Row one_digit more_digits n h

whole_decimal : (n : ℕ) → n < 2 ^ 64 → whole (decimal n) ≡ Some n
whole_decimal n h = let row = row_of n h in rw (row.is, row.digits, row.value) refl

not_minus : (c : ℕ) (cs : List ℕ) → list_all is_ascii_digit (c ∷ cs) ≡ true → (c == 45) ≡ false
not_minus c cs h =
    let e = and_parts (is_ascii_digit c) (list_all is_ascii_digit cs) h in
    let l = and_parts (leb 48 c) (leb c 57) e.0 in
    elim (eqb_tells c 45) [ inl t ↦ absurd (omega (arith, t.1, leb-true 48 c l.0)) | inr f ↦ f.0 ]

signed_at : (c : ℕ) (cs : List ℕ) (b : Bool) → (c == 45) ≡ b → b ≡ false → signed (c ∷ cs) ≡ option_map pos (whole (c ∷ cs))
signed_at c cs b e f = ap (λ (b : Bool). cond b (option_map (λ n. neg_ℤ (pos n)) (whole cs)) (option_map pos (whole (c ∷ cs)))) (e ∙ f)

signed_decimal_of : (n : ℕ) → n < 2 ^ 64 → signed (decimal n) ≡ Some (pos n)
signed_decimal_of n h =
    let row = row_of n h in
    ap signed row.is ∙ signed_at row.first row.more (row.first == 45) refl (not_minus row.first row.more row.digits)
    ∙ ap (option_map pos) (sym (ap whole row.is) ∙ whole_decimal n h)

signed_minus : (n : ℕ) → suc n < 2 ^ 64 → signed (45 ∷ decimal (suc n)) ≡ Some (negsuc n)
signed_minus n h = ap (option_map (λ n. neg_ℤ (pos n))) (whole_decimal (suc n) h)

within : Option ℤ → Option ℤ
within o = o >>= λ n. if fits_64 n then Some n else None

pub integer_read : (z : ℤ) → fits_64 z ≡ true → integer (signed_decimal z) ≡ Some z
integer_read (pos n) f =
    let e : signed (decimal n) ≡ Some (pos n) = signed_decimal_of n (omega (arith, ltb-true n (2 ^ 63) f)) in
    ap (λ (o : Option ℤ). o >>= λ n. if fits_64 n then Some n else None) e ∙ ap (λ (b : Bool). cond b (Some (pos n)) None) f
integer_read (negsuc n) f =
    let e : signed (45 ∷ decimal (suc n)) ≡ Some (negsuc n) = signed_minus n (omega (arith, ltb-true n (2 ^ 63) f)) in
    ap (λ (o : Option ℤ). o >>= λ n. if fits_64 n then Some n else None) e ∙ ap (λ (b : Bool). cond b (Some (negsuc n)) None) f

-- ---- spelled by characters that may stand in quotes

or_right : (a b : Bool) → b ≡ true → (a || b) ≡ true
or_right true b h = refl
or_right false b h = h

printed : (c : ℕ) → 35 ≤ c → c ≤ 126 → is_quotable c ≡ true
printed c low high =
    let other : (c == 34) ≡ false = elim (eqb_tells c 34) [ inl t ↦ absurd (omega (arith, t.1)) | inr f ↦ f.0 ] in
    and_true _ _ (or_right (c == 9) _ (and_true (leb 32 c) (leb c 126) (le-leb 32 c (omega (arith, low))) (le-leb c 126 high))) (ap not other)

digit_quotable : (c : ℕ) → is_ascii_digit c ≡ true → is_quotable c ≡ true
digit_quotable c h =
    let l = and_parts (leb 48 c) (leb c 57) h in
    printed c (omega (arith, leb-true 48 c l.0)) (omega (arith, leb-true c 57 l.1))

decimal_quotable : (n : ℕ) → n < 2 ^ 64 → list_all is_quotable (decimal n) ≡ true
decimal_quotable n h =
    let row = row_of n h in
    each_so is_ascii_digit is_quotable digit_quotable (decimal n) (subst (λ (ds : List ℕ). list_all is_ascii_digit ds ≡ true) (sym row.is) row.digits)

pub integer_quotable : (z : ℤ) → fits_64 z ≡ true → list_all is_quotable (signed_decimal z) ≡ true
integer_quotable (pos n) f = decimal_quotable n (omega (arith, ltb-true n (2 ^ 63) f))
integer_quotable (negsuc n) f = decimal_quotable (suc n) (omega (arith, ltb-true n (2 ^ 63) f))

-- ---- characters

unfoldable all_below : (ℕ → Bool) → ℕ → Bool
all_below p zero = true
all_below p (suc n) = p n && all_below p n

all_so : (p : ℕ → Bool) (n c : ℕ) → all_below p n ≡ true → c < n → p c ≡ true
unfolding all_below
all_so p zero c h l = absurd (omega (arith, l))
all_so p (suc n) c h l =
    let e = and_parts (p n) (all_below p n) h in
    elim (eqb_tells c n) [ inl t ↦ ap p t.1 ∙ e.0 | inr f ↦ let lt : c < n = omega (arith, l, f.1) in all_so p n c e.1 lt ]

abbrev pub char_text : ℕ → List ℕ
char_text c = 39 ∷ item_text c ++ 39 ∷ []

is_at : ℕ → Option ℕ → Bool
is_at c None = false
is_at c (Some d) = d == c

unfoldable is_right : ℕ → Bool
is_right c = is_at c (character (char_text c)) && list_all is_quotable (char_text c)

all_right : all_below is_right 128 ≡ true
unfolding all_below is_right is_at
all_right = refl

at_some : (c : ℕ) (o : Option ℕ) → is_at c o ≡ true → o ≡ Some c
unfolding is_at
at_some c None h = absurd cc
at_some c (Some d) h = let e = eqb_tells d c in elim e [ inl t ↦ ap Some t.1 | inr f ↦ absurd cc ]

pub character_read : (c : ℕ) → c < 128 → character (char_text c) ≡ Some c
unfolding is_right
character_read c h = at_some c (character (char_text c)) (and_parts (is_at c (character (char_text c))) (list_all is_quotable (char_text c)) (all_so is_right 128 c all_right h)).0

pub character_quotable : (c : ℕ) → c < 128 → list_all is_quotable (char_text c) ≡ true
unfolding is_right
character_quotable c h = (and_parts (is_at c (character (char_text c))) (list_all is_quotable (char_text c)) (all_so is_right 128 c all_right h)).1

-- ---- a literal at a port that wants no name

abbrev pub IsValueWant : Option Want → Type 0
IsValueWant (Some want.Function) = ⊥
IsValueWant (Some want.Reduction) = ⊥
IsValueWant _ = Unit {0}

value-wanted : (u : Unit1) (w : Option Want) (ty : ℕ) (text : List ℕ) → IsValueWant w → fixed u w ty text ≡ or_explicit (entry_at u.types ty >>= λ t. of_basic (kind_at t.code) t text)
value-wanted u None ty text h = refl
value-wanted u (Some want.Function) ty text h = absurd h
value-wanted u (Some want.Reduction) ty text h = absurd h
value-wanted u (Some w) ty text h = refl

module _ (p : Program) (u : Unit1) (is : u.types ≡ entries_from p 1 (table p)) where
  -- the first entries
  pub types-begin : u.types ≡ entries_from p 1 (basics ++ (table-begins p).rest)
  types-begin = is ∙ ap (entries_from p 1) (table-begins p).is

  pub label-is : (t : ℕ) (f : Form) (l : ℕ) → slice_get p.types t ≡ Some f → (form_label p.types p.names (label_within p.types p.names 63) (Some f) (table p)).label ≡ l → label_of p (One t) ≡ l
  label-is t f l e h = ap (λ o. (form_label p.types p.names (label_within p.types p.names 63) o (table p)).label) e ∙ h

  read-at : (w : Option Want) (l : ℕ) (text : List ℕ) → IsValueWant w → fixed u w l text ≡ or_explicit (entry_at (entries_from p 1 (basics ++ (table-begins p).rest)) l >>= λ t. of_basic (kind_at t.code) t text)
  read-at w l text h = value-wanted u w l text h ∙ ap (λ ts. or_explicit (entry_at ts l >>= λ t. of_basic (kind_at t.code) t text)) types-begin

  by-form : (w : Option Want) (c : Constant) (t : ℕ) (o : Option Form) → slice_get p.types t ≡ o → IsValueWant w → IsConstantOf c o → fixed u w (label_of p (One t)) (constant_text c) ≡ Value (constant_value c)
  by-form w (constant.Integer n) t (Some form.Integer) e h k =
      ap (λ l. fixed u w l (constant_text (constant.Integer n))) (label-is t form.Integer 3 e refl) ∙ (read-at w 3 (constant_text (constant.Integer n)) h ∙ ap (λ o. or_explicit (option_map val.Int o)) (integer_read n k))
  by-form w (constant.Letter c) t (Some form.Character) e h k =
      ap (λ l. fixed u w l (constant_text (constant.Letter c))) (label-is t form.Character 2 e refl) ∙ (read-at w 2 (constant_text (constant.Letter c)) h ∙ ap (λ o. or_explicit (option_map val.Char o)) (character_read c k))
  by-form w constant.True t (Some form.Boolean) e h k = ap (λ l. fixed u w l (constant_text constant.True)) (label-is t form.Boolean 1 e refl) ∙ read-at w 1 (constant_text constant.True) h
  by-form w constant.False t (Some form.Boolean) e h k = ap (λ l. fixed u w l (constant_text constant.False)) (label-is t form.Boolean 1 e refl) ∙ read-at w 1 (constant_text constant.False) h
  by-form w constant.Nil t (Some form.Null) e h k = ap (λ l. fixed u w l (constant_text constant.Nil)) (label-is t form.Null 4 e refl) ∙ read-at w 4 (constant_text constant.Nil) h
  by-form w c t o e h k = absurd k

  pub literal-value : (w : Option Want) (c : Constant) (t : ℕ) → IsValueWant w → IsConstantOf c (slice_get p.types t) → fixed u w (label_of p (One t)) (constant_text c) ≡ Value (constant_value c)
  literal-value w c t h k = by-form w c t (slice_get p.types t) refl h k
