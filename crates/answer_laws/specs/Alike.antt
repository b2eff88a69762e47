-- When two answers are one: the same bytes, or refusals with the same numbers in their lines, but where the definitions let any be
-- named of several.
use Rattle.std.specs.Prelude.{◌≡◌, ◌⊎◌, ℕ, true, List, Result, Ok, Err}
use Rattle.run_words.specs.Words.{IsCommand}
use Rattle.run_words.specs.declared.command.Command.{Command}
use Rattle.run_words.specs.declared.command.Command.TheVariants as command
use Rattle.sisal_top.specs.Program.{IsBuilt}
use Rattle.sisal_top.specs.declared.status.Status.{Status}
use Rattle.sisal_top.specs.declared.status.Status.TheVariants as status
use Rattle.sisal_top.specs.declared.status.SyntaxFault.TheVariants as syntax
use Rattle.sisal_top.specs.declared.status.UnitFault.TheVariants as unit

-- Two refusals of one number. Of several typing rules, expressions that nest too deep, or nodes at fault in the same way, any may be
-- named; all else is the same.
pub data AreAlike : Status → Status → Type 0 where
  same : {s : Status} → AreAlike s s
  rules : {rule other line place : ℕ} → AreAlike (status.Typing rule line) (status.Typing other place)
  depths : {line place : ℕ} → AreAlike (status.Syntax (syntax.TooDeep line)) (status.Syntax (syntax.TooDeep place))
  cycles : {graph node other place : ℕ} → AreAlike (status.If1 (unit.Cycle graph node)) (status.If1 (unit.Cycle other place))
  ports : {graph node other place : ℕ} → AreAlike (status.If1 (unit.Ports graph node)) (status.If1 (unit.Ports other place))
  types : {graph node other place : ℕ} → AreAlike (status.If1 (unit.TypeOf graph node)) (status.If1 (unit.TypeOf other place))

-- the same bytes, or such refusals
abbrev pub AreOne : Result (List ℕ) Status → Result (List ℕ) Status → Type 0
AreOne (Ok printed) (Ok other) = printed ≡ other
AreOne (Err s) (Err t) = AreAlike s t
AreOne _ _ = ⊥

-- want of memory and a fault of the source say nothing of the words and the text
abbrev pub Tells : Result (List ℕ) Status → Type 0
Tells (Err status.NoMemory) = ⊥
Tells (Err status.ReadFault) = ⊥
Tells _ = Unit {0}

-- `compile` of a drawing, with notes or of a listing, of which the definitions let several be printed
abbrev pub IsLoose : Command → Type 0
IsLoose (command.Compile set) = IsBuilt set × ((set.dot ≡ true) ⊎ ((set.why ≡ true) ⊎ (set.code ≡ true)))
IsLoose _ = ⊥

abbrev pub AskLoosely : List (List ℕ) → Type 0
AskLoosely words = (c : Command) × IsCommand words c × IsLoose c
