-- Which words are which command, and what the first fault of other words is. Words count from 1.
use Rattle.std.specs.Prelude.{◌≡◌, ◌≢◌, ℕ, ◌+◌, ◌≤◌, Bool, true, false, ◌⊎◌, List, [], ◌∷◌, ◌++◌, length, Option, Some, None, IfSome, IsSome, codes}
use Rattle.std.specs.List.{flat_map}
use Rattle.run_words.specs.Numbers.{is_numeral, number_of}
use Rattle.run_words.specs.Options.{flag_word, setting_word, option_word, takes, has_values, no_options, has_flag, has_setting, with_flag}
use Rattle.run_words.specs.Commands.{begins_with_dash, keyword_word, run_set, mean_set, compile_set, again_set}
use Rattle.run_words.specs.declared.fault.WordFault.{WordFault}
use Rattle.run_words.specs.declared.fault.WordFault.TheVariants as fault
use Rattle.run_words.specs.declared.command.Keyword.{Keyword}
use Rattle.run_words.specs.declared.command.Keyword.TheVariants as keyword
use Rattle.run_words.specs.declared.command.Command.{Command}
use Rattle.run_words.specs.declared.command.Command.TheVariants as command
use Rattle.run_words.specs.declared.options.Runner.{Runner}
use Rattle.run_words.specs.declared.options.Runner.TheVariants as runner
use Rattle.run_words.specs.declared.options.Flag.{Flag}
use Rattle.run_words.specs.declared.options.Setting.{Setting}
use Rattle.run_words.specs.declared.options.Setting.TheVariants as setting
use Rattle.run_words.specs.declared.options.Named.{Named}
use Rattle.run_words.specs.declared.options.Named.TheVariants as named
use Rattle.run_words.specs.declared.options.Options.{Options}

-- an option as it is given: its word, and the word behind it where it takes one
pub data Choice : Type 0 where
  Alone : Flag → Choice
  Set : Setting → List ℕ → Choice

abbrev pub words_of : Choice → List (List ℕ)
words_of (Alone f) = flag_word f ∷ []
words_of (Set s word) = setting_word s ∷ word ∷ []

-- the range of a setting that is a number
abbrev pub range_of : Setting → Option (ℕ × ℕ)
range_of setting.Entry = None
range_of setting.Workers = Some (1, 16)
range_of setting.Limit = Some (1, 1099511627776)
range_of setting.Order = Some (0, 4294967295)

abbrev pub IsInRange : ℕ × ℕ → List ℕ → Type 0
IsInRange range word = (range.0 ≤ number_of word) × (number_of word ≤ range.1)

-- a number in a range
abbrev pub IsNumber : ℕ × ℕ → List ℕ → Type 0
IsNumber range word = (is_numeral word ≡ true) × IsInRange range word

-- The command has the setting, and it isn't given before.
abbrev pub IsOpen : Runner → Options → Setting → Type 0
IsOpen runner given s = (takes runner given (named.Setting s) ≡ true) × (has_setting given s ≡ false)

-- The command has the option, which may stand beside those given; it isn't given before, and a number is in its range.
abbrev pub MayFollow : Runner → Options → Choice → Type 0
MayFollow runner given (Alone f) = (takes runner given (named.Flag f) ≡ true) × (has_flag given f ≡ false)
MayFollow runner given (Set s word) = IsOpen runner given s × IfSome (range_of s) (λ range. IsNumber range word)

-- what an option says
abbrev pub with_value : Options → Setting → List ℕ → Options
with_value given setting.Entry word = record given { entry = Some word }
with_value given setting.Workers word = record given { workers = Some (number_of word) }
with_value given setting.Limit word = record given { limit = Some (number_of word) }
with_value given setting.Order word = record given { order = Some (number_of word) }

abbrev pub with_choice : Options → Choice → Options
with_choice given (Alone f) = with_flag given f
with_choice given (Set s word) = with_value given s word

-- These options may follow those given, and say `all` with them.
abbrev pub Follow : Runner → Options → List Choice → Options → Type 0
Follow runner given [] all = given ≡ all
Follow runner given (choice ∷ later) all = MayFollow runner given choice × Follow runner (with_choice given choice) later all

-- The words begin with `count` words of options without a fault, which say `all` with those given; `rest` is behind them.
pub record Leads (runner : Runner) (given : Options) (words : List (List ℕ)) (all : Options) (count : ℕ) (rest : List (List ℕ)) : Type 0 where
  pub choices : List Choice
  pub spelled : words ≡ flat_map words_of choices ++ rest
  pub counted : count ≡ length (flat_map words_of choices)
  pub follow : Follow runner given choices all

-- ---- Commands

-- no `-` at the front of the first value
abbrev pub BeginsPlain : List (List ℕ) → Type 0
BeginsPlain [] = Unit {0}
BeginsPlain (word ∷ words) = begins_with_dash word ≡ false

-- `--` and values, or values that begin plain; the first of these words is word k, and the first value is word `place`
abbrev pub AreMarked : ℕ → List (List ℕ) → ℕ → List (List ℕ) → Type 0
AreMarked k rest place values = ((rest ≡ codes "--" ∷ values) × (place ≡ k + 1)) ⊎ ((rest ≡ values) × BeginsPlain values × (place ≡ k))

-- Behind the options comes nothing, or the values of a command that has some.
abbrev pub AreValues : Runner → ℕ → List (List ℕ) → ℕ → List (List ℕ) → Type 0
AreValues runner k rest place values = ((rest ≡ []) × (values ≡ []) × (place ≡ k)) ⊎ ((has_values runner ≡ true) × AreMarked k rest place values)

-- The words from word k on are options, which say `all` with those given, and values, the first of which is word `place`.
abbrev pub Say : Runner → Options → ℕ → List (List ℕ) → Options → ℕ → List (List ℕ) → Type 0
Say runner given k words all place values = (count : ℕ) × (rest : List (List ℕ)) × Leads runner given words all count rest × AreValues runner (k + count) rest place values

-- the number of the argument that `again` changes
abbrev pub IsPlace : List ℕ → Type 0
IsPlace word = IsNumber (1, 65535) word

-- The words are the command.
abbrev pub IsCommand : List (List ℕ) → Command → Type 0
IsCommand words (command.Run set) =
    (later : List (List ℕ)) × (given : Options) × (place : ℕ) × (words ≡ codes "run" ∷ later) × Say runner.Run no_options 2 later given place set.values × (set ≡ run_set given set.values)
IsCommand words (command.Mean set) =
    (later : List (List ℕ)) × (given : Options) × (place : ℕ) × (words ≡ codes "mean" ∷ later) × Say runner.Mean no_options 2 later given place set.values × (set ≡ mean_set given set.values)
IsCommand words (command.Compile set) =
    (later : List (List ℕ)) × (given : Options) × (place : ℕ) × (words ≡ codes "compile" ∷ later) × Say runner.Compile no_options 2 later given place [] × (set ≡ compile_set given)
IsCommand words (command.Verify set) =
    (later : List (List ℕ)) × (given : Options) × (place : ℕ) × (words ≡ codes "verify" ∷ later) × Say runner.Verify no_options 2 later given place set.values × (set ≡ mean_set given set.values)
IsCommand words (command.Again set) =
    (later : List (List ℕ)) × (given : Options) × (place : ℕ) × (word : List ℕ) × (words ≡ codes "again" ∷ later)
    × Say runner.Again no_options 2 later given place (word ∷ set.value ∷ set.values) × IsPlace word × (set ≡ again_set given (number_of word) set.value set.values)
IsCommand words (command.Gen n) = (word : List ℕ) × (words ≡ codes "gen" ∷ word ∷ []) × IsNumber (1, 500) word × (n ≡ number_of word)
IsCommand words command.If1 = words ≡ codes "if1" ∷ []
IsCommand words command.Link = words ≡ codes "link" ∷ []
IsCommand words command.Help = words ≡ codes "--help" ∷ []
IsCommand words command.Version = words ≡ codes "--version" ∷ []

-- ---- Faults

-- The word stands in the place of an option: it begins no values.
abbrev pub IsBesideValues : Runner → List ℕ → Type 0
IsBesideValues runner word = has_values runner ≡ true → (begins_with_dash word ≡ true) × (word ≢ codes "--")

-- The word stands in the place of an option, and names none of the command's that may stand beside those given.
abbrev pub IsNoOption : Runner → Options → List ℕ → Type 0
IsNoOption runner given word = IsBesideValues runner word × ((option : Named) → takes runner given option ≡ true → word ≢ option_word option)

abbrev pub has_option : Options → Named → Bool
has_option given (named.Flag f) = has_flag given f
has_option given (named.Setting s) = has_setting given s

-- Behind options that say `all`, what comes is at fault. Its first word is word k.
abbrev pub IsWrong : Runner → Options → ℕ → List (List ℕ) → WordFault → Type 0
IsWrong runner all k rest fault.Missing = (s : Setting) × (rest ≡ setting_word s ∷ []) × IsOpen runner all s
IsWrong runner all k rest (fault.Unknown place) = (word : List ℕ) × (later : List (List ℕ)) × (rest ≡ word ∷ later) × IsNoOption runner all word × (place ≡ k)
IsWrong runner all k rest (fault.Repeated place) = (option : Named) × (later : List (List ℕ)) × (rest ≡ option_word option ∷ later) × (takes runner all option ≡ true) × (has_option all option ≡ true) × (place ≡ k)
IsWrong runner all k rest (fault.NotANumber place) =
    (s : Setting) × (word : List ℕ) × (later : List (List ℕ)) × (rest ≡ setting_word s ∷ word ∷ later) × IsOpen runner all s × IsSome (range_of s) × (is_numeral word ≡ false) × (place ≡ k + 1)
IsWrong runner all k rest (fault.OutOfRange place) =
    (s : Setting) × (word : List ℕ) × (later : List (List ℕ)) × (range : ℕ × ℕ) × (rest ≡ setting_word s ∷ word ∷ later) × IsOpen runner all s × (range_of s ≡ Some range)
    × (is_numeral word ≡ true) × ¬ IsInRange range word × (place ≡ k + 1)
IsWrong runner all k rest fault.NoMemory = ⊥

-- the first fault of options and values whose first word is word k
abbrev pub OptionFault : Runner → Options → ℕ → List (List ℕ) → WordFault → Type 0
OptionFault runner given k words f = (all : Options) × (count : ℕ) × (rest : List (List ℕ)) × Leads runner given words all count rest × IsWrong runner all (k + count) rest f

-- the first fault behind `gen`
abbrev pub GenFault : List (List ℕ) → WordFault → Type 0
GenFault later fault.Missing = later ≡ []
GenFault later (fault.Unknown place) = (word more : List ℕ) × (others : List (List ℕ)) × (later ≡ word ∷ more ∷ others) × IsNumber (1, 500) word × (place ≡ 3)
GenFault later (fault.Repeated place) = ⊥
GenFault later (fault.NotANumber place) = (word : List ℕ) × (others : List (List ℕ)) × (later ≡ word ∷ others) × (is_numeral word ≡ false) × (place ≡ 2)
GenFault later (fault.OutOfRange place) = (word : List ℕ) × (others : List (List ℕ)) × (later ≡ word ∷ others) × (is_numeral word ≡ true) × ¬ IsInRange (1, 500) word × (place ≡ 2)
GenFault later fault.NoMemory = ⊥

-- the first fault of the place and the new value of `again`, the first of which is word k
abbrev pub ChangeFault : ℕ → List (List ℕ) → WordFault → Type 0
ChangeFault k values fault.Missing = (values ≡ []) ⊎ ((word : List ℕ) × (values ≡ word ∷ []) × IsPlace word)
ChangeFault k values (fault.NotANumber place) = (word : List ℕ) × (others : List (List ℕ)) × (values ≡ word ∷ others) × (is_numeral word ≡ false) × (place ≡ k)
ChangeFault k values (fault.OutOfRange place) = (word : List ℕ) × (others : List (List ℕ)) × (values ≡ word ∷ others) × (is_numeral word ≡ true) × ¬ IsInRange (1, 65535) word × (place ≡ k)
ChangeFault k values (fault.Unknown place) = ⊥
ChangeFault k values (fault.Repeated place) = ⊥
ChangeFault k values fault.NoMemory = ⊥

-- the first fault behind `again`
abbrev pub AgainFault : List (List ℕ) → WordFault → Type 0
AgainFault later f =
    OptionFault runner.Again no_options 2 later f
    ⊎ ((given : Options) × (place : ℕ) × (values : List (List ℕ)) × Say runner.Again no_options 2 later given place values × ChangeFault place values f)

-- the fault of a further word
abbrev pub IsFurther : List (List ℕ) → WordFault → Type 0
IsFurther later f = (later ≢ []) × (f ≡ fault.Unknown 2)

abbrev pub FaultBehind : Keyword → List (List ℕ) → WordFault → Type 0
FaultBehind keyword.Run later f = OptionFault runner.Run no_options 2 later f
FaultBehind keyword.Mean later f = OptionFault runner.Mean no_options 2 later f
FaultBehind keyword.Gen later f = GenFault later f
FaultBehind keyword.Compile later f = OptionFault runner.Compile no_options 2 later f
FaultBehind keyword.Verify later f = OptionFault runner.Verify no_options 2 later f
FaultBehind keyword.Again later f = AgainFault later f
FaultBehind keyword.Link later f = IsFurther later f
FaultBehind keyword.If1 later f = IsFurther later f
FaultBehind keyword.Help later f = IsFurther later f
FaultBehind keyword.Version later f = IsFurther later f

-- The words are no command, and this is their first fault.
abbrev pub HasFault : List (List ℕ) → WordFault → Type 0
HasFault [] f = f ≡ fault.Missing
HasFault (word ∷ later) f =
    (((first : Keyword) → word ≢ keyword_word first) × (f ≡ fault.Unknown 1))
    ⊎ ((first : Keyword) × (word ≡ keyword_word first) × FaultBehind first later f)
