-- Reading words from left to right, with the first fault that is met.
use Rattle.std.specs.Prelude.{◌≡◌, ℕ, ◌+◌, ◌&&◌, not, nat_le, List, [], ◌∷◌, Option, Some, None, Result, Ok, Err, codes, if◌then◌else◌}
use Rattle.std.specs.Str.{bytes_eq}
use Rattle.run_words.specs.Numbers.{is_numeral, number_of}
use Rattle.run_words.specs.Options.{takes, has_values, no_options, has_flag, has_setting, with_flag}
use Rattle.run_words.specs.Commands.{begins_with_dash, run_set, mean_set, compile_set, again_set}
use Rattle.run_words.specs.declared.fault.WordFault.{WordFault}
use Rattle.run_words.specs.declared.fault.WordFault.TheVariants as fault
use Rattle.run_words.specs.declared.command.Command.{Command}
use Rattle.run_words.specs.declared.command.Command.TheVariants as command
use Rattle.run_words.specs.declared.command.Keyword.{Keyword}
use Rattle.run_words.specs.declared.command.Keyword.TheVariants as keyword
use Rattle.run_words.specs.declared.options.Runner.{Runner}
use Rattle.run_words.specs.declared.options.Runner.TheVariants as runner
use Rattle.run_words.specs.declared.options.Flag.TheVariants as flag
use Rattle.run_words.specs.declared.options.Named.{Named}
use Rattle.run_words.specs.declared.options.Named.TheVariants as named
use Rattle.run_words.specs.declared.options.Setting.{Setting}
use Rattle.run_words.specs.declared.options.Setting.TheVariants as setting
use Rattle.run_words.specs.declared.options.Options.{Options}

infixl 10 ◌>>=◌
abbrev pub ◌>>=◌ : {A B : Type 0} → Result A WordFault → (A → Result B WordFault) → Result B WordFault
(Ok x) >>= f = f x
(Err e) >>= f = Err e

-- What a function returned is what reading gives, unless memory ran out.
abbrev pub Fails : {X : Type 0} → WordFault → Result X WordFault → Type 0
Fails fault.NoMemory read = Unit {0}
Fails fault.Missing read = read ≡ Err fault.Missing
Fails (fault.Unknown k) read = read ≡ Err (fault.Unknown k)
Fails (fault.Repeated k) read = read ≡ Err (fault.Repeated k)
Fails (fault.NotANumber k) read = read ≡ Err (fault.NotANumber k)
Fails (fault.OutOfRange k) read = read ≡ Err (fault.OutOfRange k)

abbrev pub Gives : {X : Type 0} → Result X WordFault → Result X WordFault → Type 0
Gives (Ok x) read = read ≡ Ok x
Gives (Err e) read = Fails e read

-- word k, which stands for a number from low to high
abbrev pub number_at : ℕ → ℕ → ℕ → List ℕ → Result ℕ WordFault
number_at low high k word =
    if is_numeral word
    then (if nat_le low (number_of word) && nat_le (number_of word) high then Ok (number_of word) else Err (fault.OutOfRange k))
    else Err (fault.NotANumber k)

-- word k, which is the value of a setting
abbrev pub with_setting : Options → Setting → ℕ → List ℕ → Result Options WordFault
with_setting given setting.Entry k word = Ok (record given { entry = Some word })
with_setting given setting.Workers k word = number_at 1 16 k word >>= λ n. Ok (record given { workers = Some n })
with_setting given setting.Limit k word = number_at 1 1099511627776 k word >>= λ n. Ok (record given { limit = Some n })
with_setting given setting.Order k word = number_at 0 4294967295 k word >>= λ n. Ok (record given { order = Some n })

-- the option that a word names
abbrev pub option_named : List ℕ → Option Named
option_named word =
    if bytes_eq word (codes "--if1") then Some (named.Flag flag.If1)
    else if bytes_eq word (codes "--stats") then Some (named.Flag flag.Stats)
    else if bytes_eq word (codes "--opt") then Some (named.Flag flag.Opt)
    else if bytes_eq word (codes "--trace") then Some (named.Flag flag.Trace)
    else if bytes_eq word (codes "--dot") then Some (named.Flag flag.Dot)
    else if bytes_eq word (codes "--why") then Some (named.Flag flag.Why)
    else if bytes_eq word (codes "--code") then Some (named.Flag flag.Code)
    else if bytes_eq word (codes "--entry") then Some (named.Setting setting.Entry)
    else if bytes_eq word (codes "--workers") then Some (named.Setting setting.Workers)
    else if bytes_eq word (codes "--limit") then Some (named.Setting setting.Limit)
    else if bytes_eq word (codes "--order") then Some (named.Setting setting.Order)
    else None

abbrev pub taken : Runner → Options → Option Named → Option Named
taken runner given None = None
taken runner given (Some option) = if takes runner given option then Some option else None

-- the option of a command that a word names, beside those given
abbrev pub option_of : Runner → Options → List ℕ → Option Named
option_of runner given word = taken runner given (option_named word)

-- the command that a word names
abbrev pub keyword_named : List ℕ → Option Keyword
keyword_named word =
    if bytes_eq word (codes "run") then Some keyword.Run
    else if bytes_eq word (codes "compile") then Some keyword.Compile
    else if bytes_eq word (codes "if1") then Some keyword.If1
    else if bytes_eq word (codes "mean") then Some keyword.Mean
    else if bytes_eq word (codes "gen") then Some keyword.Gen
    else if bytes_eq word (codes "link") then Some keyword.Link
    else if bytes_eq word (codes "verify") then Some keyword.Verify
    else if bytes_eq word (codes "again") then Some keyword.Again
    else if bytes_eq word (codes "--help") then Some keyword.Help
    else if bytes_eq word (codes "--version") then Some keyword.Version
    else None

-- What is wanted next: an option or the first value, or the value of a setting.
pub data Wanted : Type 0 where
  AnOption : Wanted
  ItsValue : Setting → Wanted

-- the reading of a word that isn't the end of the options
abbrev pub after_option : {X : Type 0} → Option Named → Options → ℕ → (Wanted → Options → Result X WordFault) → Result X WordFault
after_option None given k go = Err (fault.Unknown k)
after_option (Some (named.Flag f)) given k go = if has_flag given f then Err (fault.Repeated k) else go AnOption (with_flag given f)
after_option (Some (named.Setting s)) given k go = if has_setting given s then Err (fault.Repeated k) else go (ItsValue s) given

-- what the options say, the number of the first value's word, and the values
abbrev pub Read : Type 0
Read = Options × ℕ × List (List ℕ)

-- What options and values say. The first word is word k.
abbrev pub reads : List (List ℕ) → Runner → Wanted → Options → ℕ → Result Read WordFault
reads [] runner AnOption given k = Ok (given, k, [])
reads [] runner (ItsValue s) given k = Err fault.Missing
reads (word ∷ later) runner AnOption given k =
    if not (begins_with_dash word) && has_values runner then Ok (given, k, word ∷ later)
    else if bytes_eq word (codes "--") && has_values runner then Ok (given, k + 1, later)
    else after_option (option_of runner given word) given k (λ next more. reads later runner next more (k + 1))
reads (word ∷ later) runner (ItsValue s) given k = with_setting given s k word >>= λ more. reads later runner AnOption more (k + 1)

-- a command that takes no further word
abbrev pub reads_alone : Command → List (List ℕ) → Result Command WordFault
reads_alone found [] = Ok found
reads_alone found (word ∷ later) = Err (fault.Unknown 2)

abbrev pub reads_gen : List (List ℕ) → Result Command WordFault
reads_gen [] = Err fault.Missing
reads_gen (word ∷ []) = number_at 1 500 2 word >>= λ n. Ok (command.Gen n)
reads_gen (word ∷ more ∷ later) = number_at 1 500 2 word >>= λ n. Err (fault.Unknown 3)

-- `again` with the place and the new value, of which the first is word k, and the values
abbrev pub reads_change : Options → ℕ → List (List ℕ) → Result Command WordFault
reads_change given k [] = Err fault.Missing
reads_change given k (word ∷ []) = number_at 1 65535 k word >>= λ n. Err fault.Missing
reads_change given k (word ∷ value ∷ values) = number_at 1 65535 k word >>= λ n. Ok (command.Again (again_set given n value values))

-- a command with its options and values, the first of which is word k
abbrev pub ended : Runner → Options → ℕ → List (List ℕ) → Result Command WordFault
ended runner.Run given k values = Ok (command.Run (run_set given values))
ended runner.Mean given k values = Ok (command.Mean (mean_set given values))
ended runner.Compile given k values = Ok (command.Compile (compile_set given))
ended runner.Verify given k values = Ok (command.Verify (mean_set given values))
ended runner.Again given k values = reads_change given k values

abbrev pub reads_runner : Runner → List (List ℕ) → Result Command WordFault
reads_runner runner later = reads later runner AnOption no_options 2 >>= λ read. ended runner read.0 read.1 read.2

abbrev pub reads_after : Keyword → List (List ℕ) → Result Command WordFault
reads_after keyword.Run later = reads_runner runner.Run later
reads_after keyword.Mean later = reads_runner runner.Mean later
reads_after keyword.Compile later = reads_runner runner.Compile later
reads_after keyword.Verify later = reads_runner runner.Verify later
reads_after keyword.Again later = reads_runner runner.Again later
reads_after keyword.Gen later = reads_gen later
reads_after keyword.Link later = reads_alone command.Link later
reads_after keyword.If1 later = reads_alone command.If1 later
reads_after keyword.Help later = reads_alone command.Help later
reads_after keyword.Version later = reads_alone command.Version later

abbrev pub reads_first : Option Keyword → List (List ℕ) → Result Command WordFault
reads_first None later = Err (fault.Unknown 1)
reads_first (Some found) later = reads_after found later

abbrev pub reads_words : List (List ℕ) → Result Command WordFault
reads_words [] = Err fault.Missing
reads_words (word ∷ later) = reads_first (keyword_named word) later
