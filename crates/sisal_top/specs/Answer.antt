-- What words and a text ask for, and what the whole call answers.
use Rattle.std.specs.Prelude.{◌≡◌, ◌<◌, ℕ, true, List, length, Option, Result, Ok, Err}
use Rattle.flow_gen.specs.Program.{program}
use Rattle.flow_io.specs.Bytes.{AddsOn}
use Rattle.if1_call.specs.Calls.{IsCanonicalOf, IsRefusedFor}
use Rattle.mean_call.specs.declared.fault.Refusal.{Refusal}
use Rattle.mean_call.specs.declared.fault.Refusal.TheVariants as refusal
use Rattle.run_words.specs.Words.{IsCommand, HasFault}
use Rattle.run_words.specs.declared.command.Command.{Command}
use Rattle.run_words.specs.declared.command.Command.TheVariants as command
use Rattle.sisal_top.specs.Outputs.{PrintsMeaning, PrintsGraphs, PrintsRun, HasTypeFault, HasNoGraphs, HasNoMeaning, HasNoRun}
use Rattle.sisal_top.specs.Program.{Fits, most_bytes, IsBuilt, IsPlain, IsRefused, ReadsSisal, ReadsText}
use Rattle.sisal_top.specs.Status.{argument_fault, if1_fault, word_fault}
use Rattle.sisal_top.specs.Texts.{help_text, version_text}
use Rattle.sisal_top.specs.declared.status.Status.{Status}
use Rattle.sisal_top.specs.declared.status.Status.TheVariants as status
use Rattle.sisal_top.specs.declared.status.UnitFault.{UnitFault}

-- what a command prints, where these bytes are the text
abbrev pub Asks : Command → List ℕ → List ℕ → Type 0
Asks (command.Run set) bytes printed = IsPlain set × PrintsRun set bytes printed
Asks (command.Compile set) bytes printed = IsBuilt set × PrintsGraphs set bytes printed
Asks command.Link bytes printed = ⊥
Asks (command.Verify set) bytes printed = ⊥
Asks (command.Again set) bytes printed = ⊥
Asks command.If1 bytes printed = Fits bytes × IsCanonicalOf bytes printed
Asks (command.Mean set) bytes printed = PrintsMeaning set bytes printed
Asks (command.Gen n) bytes printed = printed ≡ program n
Asks command.Help bytes printed = printed ≡ help_text
Asks command.Version bytes printed = printed ≡ version_text

-- which commands are not built yet
abbrev pub IsLater : Command → List ℕ → Type 0
IsLater (command.Run set) bytes = IsPlain set → ⊥
IsLater (command.Compile set) bytes = IsBuilt set → ⊥
IsLater command.Link bytes = Unit {0}
IsLater (command.Verify set) bytes = Unit {0}
IsLater (command.Again set) bytes = Unit {0}
IsLater command.If1 bytes = ⊥
IsLater (command.Mean set) bytes = ⊥
IsLater (command.Gen n) bytes = ⊥
IsLater command.Help bytes = ⊥
IsLater command.Version bytes = ⊥

-- the command reads the text as SISAL, which breaks this typing rule on this line; for `run` and `compile` the last rule is that on sizes
abbrev pub IsUntyped : Command → List ℕ → ℕ → ℕ → Type 0
IsUntyped (command.Mean set) bytes rule line = HasTypeFault bytes rule line
IsUntyped c bytes rule line = ReadsSisal c × HasNoGraphs bytes rule line

-- the command is `mean` or `run`, and this is why the text gives no values
abbrev pub IsStopped : Command → List ℕ → Refusal → Type 0
IsStopped (command.Mean set) bytes r = HasNoMeaning set bytes r
IsStopped (command.Run set) bytes r = IsPlain set × HasNoRun set bytes r
IsStopped _ bytes r = ⊥

-- the command is `if1` or `run --if1`, and this is a fault of the text, its unit or its marks
abbrev pub IsInvalid : Command → List ℕ → UnitFault → Type 0
IsInvalid command.If1 bytes f = Fits bytes × IsRefusedFor bytes (if1_fault f)
IsInvalid (command.Run set) bytes f = (IsPlain set × (set.if1 ≡ true)) × (Fits bytes × IsRefusedFor bytes (if1_fault f))
IsInvalid _ bytes f = ⊥

-- What a command gives, where these bytes are the text: what is printed, or the cause of a refusal.
-- Want of memory is no matter of the command and the bytes, and a fault of the source none of the bytes.
abbrev pub Replies : Command → List ℕ → Result (List ℕ) Status → Type 0
Replies c bytes (Ok printed) = Asks c bytes printed
Replies c bytes (Err (status.Syntax f)) = ReadsSisal c × IsRefused bytes f
Replies c bytes (Err status.TooLong) = ReadsText c × (most_bytes < length bytes)
Replies c bytes (Err (status.Typing rule line)) = IsUntyped c bytes rule line
Replies c bytes (Err (status.Unlinked name)) = IsStopped c bytes (refusal.Unlinked name)
Replies c bytes (Err (status.Argument f)) = IsStopped c bytes (refusal.Argument (argument_fault f))
Replies c bytes (Err (status.If1 f)) = IsInvalid c bytes f
Replies c bytes (Err status.TurnLimit) = IsStopped c bytes refusal.TurnLimit
Replies c bytes (Err status.Later) = IsLater c bytes
Replies c bytes (Err status.NoMemory) = Unit {0}
Replies c bytes (Err status.ReadFault) = ReadsText c
Replies c bytes (Err _) = ⊥

-- What words and bytes give: the reply of the command that the words are, or their first fault.
abbrev pub Gives : List (List ℕ) → List ℕ → Result (List ℕ) Status → Type 0
Gives words bytes (Err (status.Usage f)) = HasFault words (word_fault f)
Gives words bytes (Err status.NoMemory) = Unit {0}
Gives words bytes r = (c : Command) × IsCommand words c × Replies c bytes r

-- what the call answers to these words and bytes, and what the sink has taken before and after
abbrev pub Answers : List (List ℕ) → List ℕ → Status → Option (List ℕ) → Option (List ℕ) → Type 0
Answers words bytes status.Done before after = (printed : List ℕ) × Gives words bytes (Ok printed) × AddsOn before printed after
Answers words bytes status.WriteFault before after = Unit {0}
Answers words bytes refusal before after = Gives words bytes (Err refusal) × (after ≡ before)

-- The words' fault is named, where the text is not told too.
abbrev pub IsUsage : List (List ℕ) → Status → Type 0
IsUsage words (status.Usage f) = HasFault words (word_fault f)
IsUsage words _ = Unit {0}
