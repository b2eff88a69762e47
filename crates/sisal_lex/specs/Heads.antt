-- What one turn of the reading adds.
use Rattle.std.specs.Prelude.{ℕ, List, [], ◌∷◌}
use Rattle.sisal_lex.specs.Names.{kind_in, used_by}
use Rattle.sisal_lex.specs.declared.head.Head.{Head}
use Rattle.sisal_lex.specs.declared.head.Head.TheVariants.{Gap, Found, Fault}
use Rattle.sisal_lex.specs.declared.token.Token.{Token}

-- how many bytes it has after its first
abbrev pub bytes_after : Head → ℕ
bytes_after (Gap more) = more
bytes_after (Found x more) = more
bytes_after (Fault e) = 0

-- the token, if it is one, after the names so far
abbrev pub tokens_in : List (List ℕ) → ℕ → Head → List Token
tokens_in names line (Gap more) = []
tokens_in names line (Found x more) = record { kind = kind_in names x; line = line } ∷ []
tokens_in names line (Fault e) = []

-- the names with it
abbrev pub used_at : List (List ℕ) → Head → List (List ℕ)
used_at names (Gap more) = names
used_at names (Found x more) = used_by names x
used_at names (Fault e) = names

abbrev pub IsNoFault : Head → Type 0
IsNoFault (Gap more) = Unit {0}
IsNoFault (Found x more) = Unit {0}
IsNoFault (Fault e) = ⊥
