-- The value of a literal belongs to its basic type.
use Rattle.std.proofs.Common.{◌≡◌, ℕ, ◌+◌, ◌*◌, ◌<◌, ℤ, Bool, true, false, ◌&&◌, not, List, [], ◌∷◌, option_map, Option, Some, None, IsSome, refl, sym, ap, subst, cond, leb, if◌then◌else◌, arith, ◌==◌}
use Rattle.std.specs.Prelude.{nat_lt, nat_le}
use Rattle.std.proofs.lemmas.Bool.{and_parts, leb-true, ltb-true, lt-ltb}
use Rattle.flow_value.specs.Scalar.{fits_64}
use Rattle.flow_value.specs.declared.ty.Ty.{Ty}
use Rattle.flow_value.specs.declared.value.Val.{Val}
use Rattle.flow_value.specs.declared.value.Val.TheVariants as val
use Rattle.if1_graph.specs.declared.kind.Basic.{Basic}
use Rattle.if1_graph.specs.declared.kind.Basic.TheVariants as basic
use Rattle.if1_graph.specs.Literals.{signed, integer, boolean, escapes, hex_digit, code, item, before_quote, character, literal}
use Rattle.if1_graph.specs.Tables.{◌>>=◌, beside}
use Rattle.if1_graph.specs.Types.{scalar}
use Rattle.typed_rows.specs.Rows.{Of}
use Rattle.typed_rows.proofs.ValueKinds.{of_int, of_bool, of_char, of_null}

some-same : {A : Type 0} (x y : A) → Some x ≡ Some y → x ≡ y
some-same x y e = cc

-- ---- characters are small

abbrev Small : Option ℕ → Type 0
Small o = (c : ℕ) → o ≡ Some c → c < 128

small_none : Small None
small_none c e = absurd cc

small_some : (n : ℕ) → n < 128 → Small (Some n)
small_some n h c e = let same : n ≡ c = cc in omega (arith, h, same)

small_if : (b : Bool) (x y : Option ℕ) → Small x → Small y → Small (cond b x y)
small_if true x y p q = p
small_if false x y p q = q

small_test : (b : Bool) (n : ℕ) → (b ≡ true → n < 128) → Small (cond b (Some n) None)
small_test true n h = small_some n (h refl)
small_test false n h = small_none

small_then : {A : Type 0} (o : Option A) (f : A → Option ℕ) → ((a : A) → Small (f a)) → Small (o >>= f)
small_then None f h = small_none
small_then (Some a) f h = h a

code_small : (n : ℕ) → Small (code n)
code_small n = small_test (nat_lt n 128) n (λ e. ltb-true n 128 e)

plain_small : (c : ℕ) (b : Bool) → (nat_le 32 c && nat_le c 126 && b) ≡ true → c < 128
plain_small c b e =
    let l = and_parts (leb 32 c && leb c 126) b e in
    let m = and_parts (leb 32 c) (leb c 126) l.0 in
    omega (arith, leb-true c 126 m.1)

plain_test : (c : ℕ) → (nat_le 32 c && nat_le c 126 && not (c == 92) && not (c == 39)) ≡ true → c < 128
plain_test c e = plain_small c (not (c == 92)) (and_parts (leb 32 c && leb c 126 && not (c == 92)) (not (c == 39)) e).0

beside_small : (letter : ℕ) → Small (beside letter escapes)
beside_small l =
    small_if (110 == l) _ _ (small_some 10 (omega arith))
    (small_if (116 == l) _ _ (small_some 9 (omega arith))
    (small_if (114 == l) _ _ (small_some 13 (omega arith))
    (small_if (92 == l) _ _ (small_some 92 (omega arith))
    (small_if (39 == l) _ _ (small_some 39 (omega arith))
    (small_if (34 == l) _ _ (small_some 34 (omega arith)) small_none)))))

item_small : (text : List ℕ) → Small (item text)
item_small [] = small_none
item_small (c ∷ []) = small_test (nat_le 32 c && nat_le c 126 && not (c == 92) && not (c == 39)) c (plain_test c)
item_small (b ∷ letter ∷ []) = small_if (b == 92) _ _ (beside_small letter) small_none
item_small (b ∷ x ∷ high ∷ []) = small_none
item_small (b ∷ x ∷ high ∷ low ∷ []) =
    small_if ((b == 92) && (x == 120)) _ _
    (small_then (hex_digit high) _ (λ h. small_then (hex_digit low) _ (λ l. code_small (16 * h + l)))) small_none
item_small (b ∷ x ∷ high ∷ low ∷ y ∷ ys) = small_none

character_small : (text : List ℕ) → Small (character text)
character_small [] = small_none
character_small (c ∷ []) = code_small c
character_small (c ∷ d ∷ cs) = small_if (c == 39) _ _ (small_then (before_quote (d ∷ cs)) item item_small) small_none

-- ---- integers fit

integer-fits : (o : Option ℤ) (n : ℤ) → (o >>= λ n. if fits_64 n then Some n else None) ≡ Some n → fits_64 n ≡ true
integer-fits None n e = absurd cc
integer-fits (Some m) n e = go (fits_64 m) refl e
  where
    go : (b : Bool) → fits_64 m ≡ b → (if b then Some m else None) ≡ Some n → fits_64 n ≡ true
    go true f e = subst (λ z. fits_64 z ≡ true) (some-same m n e) f
    go false f e = absurd cc

-- ---- values

-- the value that a literal of a basic type has, with its type
pub record IsLiteralOf (b : Basic) (text : List ℕ) : Type 0 where
  pub ty : Ty
  pub value : Val
  pub type : scalar (Some b) ≡ Some ty
  pub is : literal b text ≡ Some value
  pub of : Of ty value

no-some : IsSome {T = Val} None → ⊥
no-some h = cc

integer-of : (text : List ℕ) (o : Option ℤ) → integer text ≡ o → IsSome (option_map val.Int o) → IsLiteralOf basic.Integer text
integer-of text None e h = absurd (no-some h)
integer-of text (Some n) e h = record { ty = _; value = val.Int n; type = refl; is = ap (option_map val.Int) e; of = of_int n (integer-fits (signed text) n e) }

boolean-of : (text : List ℕ) (o : Option Bool) → boolean text ≡ o → IsSome (option_map val.Bool o) → IsLiteralOf basic.Boolean text
boolean-of text None e h = absurd (no-some h)
boolean-of text (Some b) e h = record { ty = _; value = val.Bool b; type = refl; is = ap (option_map val.Bool) e; of = of_bool b }

character-of : (text : List ℕ) (o : Option ℕ) → character text ≡ o → IsSome (option_map val.Char o) → IsLiteralOf basic.Character text
character-of text None e h = absurd (no-some h)
character-of text (Some c) e h = record { ty = _; value = val.Char c; type = refl; is = ap (option_map val.Char) e; of = of_char c (lt-ltb c 128 (character_small text c e)) }

null-of : (text : List ℕ) (b : Bool) → (if b then Some val.Null else None) ≡ literal basic.Null text → IsSome (literal basic.Null text) → IsLiteralOf basic.Null text
null-of text true e h = record { ty = _; value = val.Null; type = refl; is = sym e; of = of_null }
null-of text false e h = absurd (no-some (subst IsSome (sym e) h))

pub literal-of : (b : Basic) (text : List ℕ) → IsSome (literal b text) → IsLiteralOf b text
literal-of basic.Integer text h = integer-of text (integer text) refl h
literal-of basic.Boolean text h = boolean-of text (boolean text) refl h
literal-of basic.Character text h = character-of text (character text) refl h
literal-of basic.Null text h = null-of text _ refl h
literal-of basic.Double text h = absurd (no-some h)
literal-of basic.Real text h = absurd (no-some h)
literal-of basic.Wild text h = absurd (no-some h)
