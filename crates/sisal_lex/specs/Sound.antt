-- What each token and each name keeps to, for those who go on from them.
use Rattle.std.specs.Prelude.{ℕ, ◌<◌, ◌≡◌, Bool, true, false, ◌&&◌, ◌||◌, nat_eq, List, [], ◌∷◌, All, IsTrue, ℤ, pos, ◌≤ℤ◌}
use Rattle.std.specs.List.{list_all}
use Rattle.std.specs.Char.{is_ascii_lowercase, is_ascii_digit}
use Rattle.sisal_lex.specs.declared.token.Kind.{Kind}
use Rattle.sisal_lex.specs.declared.token.Kind.TheVariants as kind
use Rattle.sisal_lex.specs.declared.token.Token.{Token}

-- a name's number is below the number of names, a number is not negative, and a character's code is below 128
abbrev pub IsSoundKind : ℕ → Kind → Type 0
IsSoundKind names (kind.Word w) = Unit {0}
IsSoundKind names (kind.Sign s) = Unit {0}
IsSoundKind names (kind.Id k) = k < names
IsSoundKind names (kind.Number n) = pos 0 ≤ℤ n
IsSoundKind names (kind.Letter code) = code < 128
IsSoundKind names (kind.Quoted codes) = All (λ code. code < 128) codes

abbrev pub AreSound : ℕ → List Token → Type 0
AreSound names list = All (λ t. IsSoundKind names t.kind) list

-- a small letter, followed by small letters, digits and `_`
abbrev pub is_in_folded : ℕ → Bool
is_in_folded b = is_ascii_lowercase b || is_ascii_digit b || nat_eq b 95

abbrev pub is_folded : List ℕ → Bool
is_folded [] = false
is_folded (b ∷ s) = is_ascii_lowercase b && list_all is_in_folded s

abbrev pub AreFolded : List (List ℕ) → Type 0
AreFolded names = All (λ name. IsTrue (is_folded name)) names
