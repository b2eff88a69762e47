-- Names and their numbers (manual M-146, names): letters are folded, and each name counts once, in the order of first use.
use Rattle.std.specs.Prelude.{ℕ, List, [], ◌∷◌, ◌++◌, map, fold, bytes_eq, if◌then◌else◌}
use Rattle.std.specs.List.{list_any, position_or_len}
use Rattle.sisal_lex.specs.declared.head.Lexeme.{Lexeme}
use Rattle.sisal_lex.specs.declared.head.Lexeme.TheVariants.{Named, Plain}
use Rattle.sisal_lex.specs.declared.token.Kind.{Kind}
use Rattle.sisal_lex.specs.declared.token.Kind.TheVariants as kind
use Rattle.sisal_lex.specs.declared.token.Token.{Token}
use Rattle.sisal_lex.specs.declared.token.Tokens.{Tokens}

-- a token before its name has a number, and the line on which it begins
pub record Lexed : Type 0 where
  pub lexeme : Lexeme
  pub line : ℕ

-- the names after one more is used: it goes last, if it is new
abbrev pub used : List (List ℕ) → List ℕ → List (List ℕ)
used names name = if list_any (bytes_eq name) names then names else names ++ name ∷ []

abbrev pub used_by : List (List ℕ) → Lexeme → List (List ℕ)
used_by names (Named name) = used names name
used_by names (Plain k) = names

abbrev pub names_of : List Lexed → List (List ℕ)
names_of ls = fold (λ names l. used_by names l.lexeme) [] ls

-- a name is known by its place in the list of names
abbrev pub kind_in : List (List ℕ) → Lexeme → Kind
kind_in names (Named name) = kind.Id (position_or_len (bytes_eq name) names)
kind_in names (Plain k) = k

abbrev pub numbered : List (List ℕ) → Lexed → Token
numbered names l = record { kind = kind_in names l.lexeme; line = l.line }

abbrev pub with_names : List Lexed → Tokens
with_names ls = let names = names_of ls in record { list = map (numbered names) ls; names = names }
