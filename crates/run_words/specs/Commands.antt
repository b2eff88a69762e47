-- The commands.
use Rattle.std.specs.Prelude.{ℕ, Bool, false, ◌==◌, List, [], ◌∷◌, map, unwrap_or, codes}
use Rattle.std.specs.String.{string_bytes}
use Rattle.std.specs.declared.string.String.{String}
use Rattle.std.specs.declared.alloc.Global.{Global}
use Rattle.run_words.specs.declared.command.Keyword.{Keyword}
use Rattle.run_words.specs.declared.command.Keyword.TheVariants as keyword
use Rattle.run_words.specs.declared.command.RunSet.{RunSet}
use Rattle.run_words.specs.declared.command.MeanSet.{MeanSet}
use Rattle.run_words.specs.declared.command.CompileSet.{CompileSet}
use Rattle.run_words.specs.declared.command.AgainSet.{AgainSet}
use Rattle.run_words.specs.declared.options.Options.{Options}

-- the bytes of the words
abbrev pub bytes_of : List (String Global) → List (List ℕ)
bytes_of words = map string_bytes words

-- a word that can't be the first value
abbrev pub begins_with_dash : List ℕ → Bool
begins_with_dash [] = false
begins_with_dash (byte ∷ bytes) = byte == 45

-- the word of a command
abbrev pub keyword_word : Keyword → List ℕ
keyword_word keyword.Run = codes "run"
keyword_word keyword.Compile = codes "compile"
keyword_word keyword.If1 = codes "if1"
keyword_word keyword.Mean = codes "mean"
keyword_word keyword.Gen = codes "gen"
keyword_word keyword.Link = codes "link"
keyword_word keyword.Verify = codes "verify"
keyword_word keyword.Again = codes "again"
keyword_word keyword.Help = codes "--help"
keyword_word keyword.Version = codes "--version"

-- What commands are to do: what the options say, and otherwise this.
abbrev pub run_set : Options → List (List ℕ) → RunSet
run_set given values = record {
  if1 = given.if1;
  entry = unwrap_or given.entry (codes "main");
  workers = unwrap_or given.workers 1;
  limit = unwrap_or given.limit 10000000;
  order = unwrap_or given.order 0;
  stats = given.stats;
  opt = given.opt;
  trace = given.trace;
  values = values;
}

abbrev pub compile_set : Options → CompileSet
compile_set given = record { opt = given.opt; dot = given.dot; why = given.why; code = given.code }

abbrev pub mean_set : Options → List (List ℕ) → MeanSet
mean_set given values = record {
  entry = unwrap_or given.entry (codes "main");
  limit = unwrap_or given.limit 10000000;
  values = values;
}

-- the argument of this number gets this value
abbrev pub again_set : Options → ℕ → List ℕ → List (List ℕ) → AgainSet
again_set given place value values = record {
  if1 = given.if1;
  entry = unwrap_or given.entry (codes "main");
  limit = unwrap_or given.limit 10000000;
  place = place;
  value = value;
  values = values;
}
