-- Which texts are units of the grammar, and which words ask to read the text.
use Rattle.std.specs.Prelude.{◌≡◌, ◌≤◌, ◌⊎◌, ℕ, false, List, length, Ok, Err}
use Rattle.run_words.specs.Words.{IsCommand}
use Rattle.run_words.specs.declared.command.Command.{Command}
use Rattle.run_words.specs.declared.command.Command.TheVariants as command
use Rattle.run_words.specs.declared.command.CompileSet.{CompileSet}
use Rattle.run_words.specs.declared.command.RunSet.{RunSet}
use Rattle.sisal_lex.specs.Tokens.{tokens_of}
use Rattle.sisal_lex.specs.declared.fault.LexFault.{LexFault}
use Rattle.sisal_lex.specs.declared.token.Token.{Token}
use Rattle.sisal_lex.specs.declared.token.Tokens.{Tokens}
use Rattle.sisal_grammar.specs.Phrases.{unit}
use Rattle.sisal_grammar.specs.Placed.{placed}
use Rattle.sisal_grammar.specs.Spells.{Spells}
use Rattle.sisal_parse.specs.Faults.{IsFirstBad, IsTooDeep}
use Rattle.sisal_parse.specs.Units.{outline}
use Rattle.sisal_tree.specs.Depth.{depth_of}
use Rattle.sisal_tree.specs.declared.unit.Unit as tree
use Rattle.sisal_top.specs.Status.{of_lexer}
use Rattle.sisal_top.specs.declared.status.Status.TheVariants as status
use Rattle.sisal_top.specs.declared.status.SyntaxFault.{SyntaxFault}
use Rattle.sisal_top.specs.declared.status.SyntaxFault.TheVariants as syntax

-- these bytes are this unit, which nests at most 200 deep
pub record IsUnitOf (bytes : List ℕ) (u : tree.Unit) : Type 0 where
  pub lexed : tokens_of bytes ≡ Ok u.tokens
  pub spelled : Spells unit (placed 0 u.tokens.list) (outline u)
  pub shallow : depth_of u.items ≤ 200

-- the most bytes of a text
abbrev pub most_bytes : ℕ
most_bytes = 4194304

-- a text that is not too long
abbrev pub Fits : List ℕ → Type 0
Fits bytes = length bytes ≤ most_bytes

-- these bytes have no tokens, and this is the first fault of one
abbrev pub HasNoTokens : List ℕ → SyntaxFault → Type 0
HasNoTokens bytes f = (e : LexFault) × (tokens_of bytes ≡ Err e) × (of_lexer e ≡ status.Syntax f)

-- these tokens are no unit, or one that nests too deep
abbrev pub IsBadUnit : List Token → SyntaxFault → Type 0
IsBadUnit ts (syntax.Token number line) = IsFirstBad ts number line
IsBadUnit ts (syntax.TooDeep line) = IsTooDeep ts line
IsBadUnit ts _ = ⊥

-- these bytes have tokens that are no unit
abbrev pub HasNoUnit : List ℕ → SyntaxFault → Type 0
HasNoUnit bytes f = (tokens : Tokens) × (tokens_of bytes ≡ Ok tokens) × IsBadUnit tokens.list f

-- this is why these bytes are no unit
abbrev pub IsRefused : List ℕ → SyntaxFault → Type 0
IsRefused bytes f = HasNoTokens bytes f ⊎ HasNoUnit bytes f

-- `run` by one worker in the usual order, of the graphs as they are, without a trace
abbrev pub IsPlain : RunSet → Type 0
IsPlain set = (set.workers ≡ 1) × (set.order ≡ 0) × (set.opt ≡ false) × (set.trace ≡ false)

-- `compile` of the graphs as translated
abbrev pub IsBuilt : CompileSet → Type 0
IsBuilt set = set.opt ≡ false

-- the commands that read the text as SISAL: a plain `run` without `--if1`, `mean` and `compile`
abbrev pub ReadsSisal : Command → Type 0
ReadsSisal (command.Run set) = IsPlain set × (set.if1 ≡ false)
ReadsSisal (command.Mean set) = Unit {0}
ReadsSisal (command.Compile set) = IsBuilt set
ReadsSisal _ = ⊥

-- the commands that read the text: these, a plain `run` with `--if1`, and `if1`
abbrev pub ReadsText : Command → Type 0
ReadsText (command.Run set) = IsPlain set
ReadsText (command.Mean set) = Unit {0}
ReadsText (command.Compile set) = IsBuilt set
ReadsText command.Link = ⊥
ReadsText (command.Verify set) = ⊥
ReadsText (command.Again set) = ⊥
ReadsText command.If1 = Unit {0}
ReadsText (command.Gen n) = ⊥
ReadsText command.Help = ⊥
ReadsText command.Version = ⊥

-- the words are a command that reads the text
abbrev pub AskToRead : List (List ℕ) → Type 0
AskToRead words = (c : Command) × IsCommand words c × ReadsText c
