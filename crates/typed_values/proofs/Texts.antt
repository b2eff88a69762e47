-- A text belongs to the arrays of characters.
use Rattle.std.proofs.Common.{◌≡◌, ℕ, ◌<◌, pos, true, List, [], ◌∷◌, map, refl}
use Rattle.std.specs.Prelude.{nat_lt, All}
use Rattle.std.specs.List.{list_all}
use Rattle.std.proofs.lemmas.Bool.{lt-ltb}
use Rattle.std.proofs.lemmas.List.Elements.{All-head, All-tail}
use Rattle.flow_value.specs.Aggregates.{array_val}
use Rattle.flow_value.specs.Well.{is_well}
use Rattle.flow_value.specs.declared.value.Val.TheVariants as val
use Rattle.flow_value.specs.declared.ty.Ty.TheVariants as ty
use Rattle.typed_rows.specs.Rows.{Of}
use Rattle.typed_rows.proofs.ValueKinds.{of_char}
use Rattle.typed_rows.proofs.Rows.{of_array}

pub lt-nat : (a b : ℕ) → a < b → nat_lt a b ≡ true
lt-nat a b h = lt-ltb a b h

chars_well : (s : List ℕ) → All (λ code. code < 128) s → list_all (is_well ty.Char) (map val.Char s) ≡ true
chars_well [] h = refl
chars_well (c ∷ s) h = rw (of_char c (lt-nat c 128 (All-head (λ code. code < 128) c s h)), chars_well s (All-tail (λ code. code < 128) c s h)) refl

pub text_well : (s : List ℕ) → All (λ code. code < 128) s → Of (ty.Arr ty.Char) (array_val (pos 1) (map val.Char s))
text_well s h = of_array ty.Char (pos 1) (map val.Char s) (chars_well s h)
