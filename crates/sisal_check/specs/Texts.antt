-- What every text's unit has: each name is spelled, in a way of its own, and its items are such as tokens spell.
use Rattle.std.specs.Prelude.{◌≡◌, ℕ, List, All, length, Ok}
use Rattle.sisal_lex.specs.Tokens.{tokens_of}
use Rattle.sisal_lex.specs.declared.token.Tokens.{Tokens}
use Rattle.sisal_tree.specs.declared.unit.Unit as tree
use Rattle.sisal_grammar.specs.Phrases.{unit}
use Rattle.sisal_grammar.specs.Placed.{placed}
use Rattle.sisal_grammar.specs.Spells.{Spells}
use Rattle.text_trees.specs.Spelled.{IsItem}
use Rattle.type_rules.specs.Typed.{AreSpelledOnce}
use Rattle.unit_types.specs.Rests.{AreTokensSpelled}

pub record IsText (u : tree.Unit) : Type 0 where
  pub spelled : AreTokensSpelled u.tokens.names u.tokens.list
  pub once : AreSpelledOnce u.tokens.names
  pub items : All (IsItem u.tokens.list (length u.tokens.names)) u.items

-- a unit of the tokens of bytes, which spell it, has all that
abbrev pub TextLaw : Type 0
TextLaw = (bytes : List ℕ) (tokens : Tokens) (u : tree.Unit) → tokens_of bytes ≡ Ok tokens → u.tokens ≡ tokens → Spells unit (placed 0 tokens.list) (record { defines = u.defines; items = u.items }) → IsText u
