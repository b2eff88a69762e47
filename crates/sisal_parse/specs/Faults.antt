-- When tokens have no tree.
use Rattle.std.specs.Prelude.{◌≡◌, ℕ, ◌<◌, ◌≤◌, ◌+◌, ◌-◌, List, ◌++◌, length, take, min, get_or}
use Rattle.sisal_lex.specs.declared.token.Token.{Token}
use Rattle.sisal_lex.specs.declared.token.Kind.TheVariants as kind
use Rattle.sisal_tree.specs.Depth.{PassesAt, depth_of}
use Rattle.sisal_grammar.specs.declared.value.Outline.{Outline}
use Rattle.sisal_grammar.specs.Phrases.{unit}
use Rattle.sisal_grammar.specs.Placed.{placed}
use Rattle.sisal_grammar.specs.Spells.{Spells}
use Rattle.sisal_parse.specs.declared.fault.ParseFault.{ParseFault}
use Rattle.sisal_parse.specs.declared.fault.ParseFault.TheVariants.{Syntax, TooDeep, NoMemory}

-- these tokens are a unit
abbrev pub IsUnit : List Token → Type 0
IsUnit ts = (o : Outline) × Spells unit (placed 0 ts) o

-- some unit begins with these tokens
abbrev pub Begins : List Token → Type 0
Begins ts = (us : List Token) × IsUnit (ts ++ us)

-- what stands for a token where there is none
abbrev pub none : Token
none = record { kind = kind.Letter 0; line = 1 }

-- the line of the token at a place from 0, or of the last one where it is past the end, or 1 where
-- there is no token
abbrev pub line_at : ℕ → List Token → ℕ
line_at k ts = (get_or ts (min k (length ts - 1)) none).line

-- The tokens are no unit, and the one with this number, from 1, is the first that no unit has there:
-- some unit begins with those before it, and none with those up to it. Where they all begin a unit,
-- the number is one more than there are tokens.
pub record IsFirstBad (ts : List Token) (number line : ℕ) : Type 0 where
  pub within : (1 ≤ number) × (number ≤ length ts + 1)
  pub before : Begins (take (number - 1) ts)
  pub after : number ≤ length ts → Begins (take number ts) → ⊥
  pub whole : IsUnit ts → ⊥
  pub on_line : line ≡ line_at (number - 1) ts

-- The tokens are a unit with a result that nests deeper than 200 and begins on this line.
pub record IsTooDeep (ts : List Token) (line : ℕ) : Type 0 where
  pub outline : Outline
  pub spelled : Spells unit (placed 0 ts) outline
  pub deep : 200 < depth_of outline.items
  pub passes : PassesAt 200 outline.items line

-- what a fault of syntax says, and one of depth
abbrev pub SyntaxFault : List Token → ParseFault → Type 0
SyntaxFault ts (Syntax number line) = IsFirstBad ts number line
SyntaxFault ts (TooDeep line) = Unit {0}
SyntaxFault ts NoMemory = Unit {0}

abbrev pub DepthFault : List Token → ParseFault → Type 0
DepthFault ts (Syntax number line) = Unit {0}
DepthFault ts (TooDeep line) = IsTooDeep ts line
DepthFault ts NoMemory = Unit {0}
