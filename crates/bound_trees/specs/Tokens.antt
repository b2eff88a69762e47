-- What the tokens of a text keep to (SISAL Language Reference Manual 1.2, constants): they are sound, no number is above 2^63 - 1, and
-- they are at most as many as a text may have bytes.
use Rattle.std.specs.Prelude.{◌≡◌, ℕ, ◌≤◌, true, List, All, length, pos, ◌≤ℤ◌}
use Rattle.flow_value.specs.Scalar.{fits_64}
use Rattle.sisal_lex.specs.declared.token.Kind.{Kind}
use Rattle.sisal_lex.specs.declared.token.Kind.TheVariants as kind
use Rattle.sisal_lex.specs.declared.token.Token.{Token}
use Rattle.sisal_lex.specs.Sound.{IsSoundKind}

abbrev pub IsOfText : ℕ → Kind → Type 0
IsOfText names (kind.Number n) = (pos 0 ≤ℤ n) × (fits_64 n ≡ true)
IsOfText names k = IsSoundKind names k

pub record AreOfText (names : ℕ) (list : List Token) : Type 0 where
  pub few : length list ≤ 4194304
  pub sound : All (λ t. IsOfText names t.kind) list
