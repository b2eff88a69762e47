-- The options of the commands.
use Rattle.std.specs.Prelude.{ℕ, Bool, true, false, not, ◌&&◌, ◌||◌, List, None, is_some, codes}
use Rattle.run_words.specs.declared.options.Runner.{Runner}
use Rattle.run_words.specs.declared.options.Runner.TheVariants as runner
use Rattle.run_words.specs.declared.options.Flag.{Flag}
use Rattle.run_words.specs.declared.options.Flag.TheVariants as flag
use Rattle.run_words.specs.declared.options.Setting.{Setting}
use Rattle.run_words.specs.declared.options.Setting.TheVariants as setting
use Rattle.run_words.specs.declared.options.Named.{Named}
use Rattle.run_words.specs.declared.options.Named.TheVariants as named
use Rattle.run_words.specs.declared.options.Options.{Options}

-- the word of an option
abbrev pub flag_word : Flag → List ℕ
flag_word flag.If1 = codes "--if1"
flag_word flag.Stats = codes "--stats"
flag_word flag.Opt = codes "--opt"
flag_word flag.Trace = codes "--trace"
flag_word flag.Dot = codes "--dot"
flag_word flag.Why = codes "--why"
flag_word flag.Code = codes "--code"

abbrev pub setting_word : Setting → List ℕ
setting_word setting.Entry = codes "--entry"
setting_word setting.Workers = codes "--workers"
setting_word setting.Limit = codes "--limit"
setting_word setting.Order = codes "--order"

abbrev pub option_word : Named → List ℕ
option_word (named.Flag f) = flag_word f
option_word (named.Setting s) = setting_word s

abbrev pub is_run : Runner → Bool
is_run runner.Run = true
is_run _ = false

abbrev pub is_compile : Runner → Bool
is_compile runner.Compile = true
is_compile _ = false

abbrev pub is_again : Runner → Bool
is_again runner.Again = true
is_again _ = false

-- whether values may follow the options
abbrev pub has_values : Runner → Bool
has_values runner = not (is_compile runner)

-- which command has which options
abbrev pub has : Runner → Named → Bool
has runner (named.Flag flag.If1) = is_run runner || is_again runner
has runner (named.Flag flag.Stats) = is_run runner
has runner (named.Flag flag.Opt) = is_run runner || is_compile runner
has runner (named.Flag flag.Trace) = is_run runner
has runner (named.Flag flag.Dot) = is_compile runner
has runner (named.Flag flag.Why) = is_compile runner
has runner (named.Flag flag.Code) = is_compile runner
has runner (named.Setting setting.Entry) = not (is_compile runner)
has runner (named.Setting setting.Workers) = is_run runner
has runner (named.Setting setting.Limit) = not (is_compile runner)
has runner (named.Setting setting.Order) = is_run runner

-- before any option
abbrev pub no_options : Options
no_options = record {
  if1 = false;
  entry = None;
  workers = None;
  limit = None;
  order = None;
  stats = false;
  opt = false;
  trace = false;
  dot = false;
  why = false;
  code = false;
}

-- Of `--dot`, `--why` and `--code` one stands alone.
abbrev pub is_beside : Options → Named → Bool
is_beside given (named.Flag flag.Dot) = not (given.why || given.code)
is_beside given (named.Flag flag.Why) = not (given.dot || given.code)
is_beside given (named.Flag flag.Code) = not (given.dot || given.why)
is_beside given _ = true

-- The command has the option, which may stand beside those given.
abbrev pub takes : Runner → Options → Named → Bool
takes runner given option = has runner option && is_beside given option

-- whether an option is given
abbrev pub has_flag : Options → Flag → Bool
has_flag given flag.If1 = given.if1
has_flag given flag.Stats = given.stats
has_flag given flag.Opt = given.opt
has_flag given flag.Trace = given.trace
has_flag given flag.Dot = given.dot
has_flag given flag.Why = given.why
has_flag given flag.Code = given.code

abbrev pub has_setting : Options → Setting → Bool
has_setting given setting.Entry = is_some given.entry
has_setting given setting.Workers = is_some given.workers
has_setting given setting.Limit = is_some given.limit
has_setting given setting.Order = is_some given.order

-- the options with one more
abbrev pub with_flag : Options → Flag → Options
with_flag given flag.If1 = record given { if1 = true }
with_flag given flag.Stats = record given { stats = true }
with_flag given flag.Opt = record given { opt = true }
with_flag given flag.Trace = record given { trace = true }
with_flag given flag.Dot = record given { dot = true }
with_flag given flag.Why = record given { why = true }
with_flag given flag.Code = record given { code = true }
