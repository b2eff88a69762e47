-- What is in the relations, reading gives.
use Rattle.std.proofs.Common.{◌≡◌, ◌≢◌, ℕ, ◌+◌, ◌≤◌, Bool, true, false, inl, inr, List, [], ◌∷◌, ◌++◌, length, Option, Some, None, IfSome, IsSome, Result, Ok, Err, refl, ap, sym, ◌∙◌, subst, codes, arith, nat_le, not, ◌&&◌, append_assoc, length-append}
use Rattle.std.specs.List.{flat_map}
use Rattle.std.specs.Str.{bytes_eq}
use Rattle.std.proofs.lemmas.Slice.Eq.{bytes_eq-Decides}
use Rattle.std.proofs.lemmas.Bool.Decides.{nat_tests}
use mathlib.Core.Bool.{cond}
use Rattle.run_words.specs.Numbers.{is_numeral, number_of}
use Rattle.run_words.specs.Options.{setting_word, option_word, takes, has_values, no_options, with_flag}
use Rattle.run_words.specs.Commands.{begins_with_dash, keyword_word, again_set}
use Rattle.run_words.specs.Reading.{option_of, keyword_named, ◌>>=◌, number_at, with_setting, Wanted, AnOption, ItsValue, after_option, Read, reads, reads_gen, reads_alone, reads_change, ended, reads_runner, reads_after, reads_first, reads_words}
use Rattle.run_words.specs.Words.{Choice, Alone, Set, words_of, range_of, IsInRange, IsNumber, IsOpen, MayFollow, with_value, with_choice, Follow, Leads, BeginsPlain, AreMarked, AreValues, Say, IsCommand, IsNoOption, has_option, IsWrong, OptionFault, GenFault, ChangeFault, AgainFault, IsFurther, FaultBehind, HasFault}
use Rattle.run_words.specs.declared.fault.WordFault.{WordFault}
use Rattle.run_words.specs.declared.fault.WordFault.TheVariants as fault
use Rattle.run_words.specs.declared.command.Keyword.{Keyword}
use Rattle.run_words.specs.declared.command.Keyword.TheVariants as keyword
use Rattle.run_words.specs.declared.command.Command.{Command}
use Rattle.run_words.specs.declared.command.Command.TheVariants as command
use Rattle.run_words.specs.declared.options.Runner.{Runner}
use Rattle.run_words.specs.declared.options.Runner.TheVariants as runner
use Rattle.run_words.specs.declared.options.Flag.TheVariants as flag
use Rattle.run_words.specs.declared.options.Setting.{Setting}
use Rattle.run_words.specs.declared.options.Setting.TheVariants as setting
use Rattle.run_words.specs.declared.options.Named.{Named}
use Rattle.run_words.specs.declared.options.Named.TheVariants as named
use Rattle.run_words.specs.declared.options.Options.{Options}
use Rattle.run_words.proofs.Naming.{named_keyword, keyword_is, option_of_is}

-- ---- Numbers

number_read : (low high k : ℕ) (word : List ℕ) → IsNumber (low, high) word → number_at low high k word ≡ Ok (number_of word)
number_read low high k word (numeral, (above, below)) =
    let fits : (nat_le low (number_of word) && nat_le (number_of word) high) ≡ true = grind (arith, nat_tests) in
    ap (λ b. cond b (cond (nat_le low (number_of word) && nat_le (number_of word) high) (Ok (number_of word)) (Err (fault.OutOfRange k))) (Err (fault.NotANumber k))) numeral
    ∙ ap (λ b. cond b (Ok (number_of word)) (Err (fault.OutOfRange k))) fits

number_refused : (low high k : ℕ) (word : List ℕ) → is_numeral word ≡ false → number_at low high k word ≡ Err (fault.NotANumber k)
number_refused low high k word none =
    ap (λ b. cond b (cond (nat_le low (number_of word) && nat_le (number_of word) high) (Ok (number_of word)) (Err (fault.OutOfRange k))) (Err (fault.NotANumber k))) none

out_of_range : (low high n : ℕ) → ¬ ((low ≤ n) × (n ≤ high)) → (nat_le low n && nat_le n high) ≡ false
out_of_range low high n out = by_test (nat_le low n && nat_le n high) refl
  where
    by_test : (b : Bool) → (nat_le low n && nat_le n high) ≡ b → b ≡ false
    by_test true e = absurd (out (grind (arith, nat_tests), grind (arith, nat_tests)))
    by_test false e = refl

number_past : (low high k : ℕ) (word : List ℕ) → is_numeral word ≡ true → ¬ IsInRange (low, high) word → number_at low high k word ≡ Err (fault.OutOfRange k)
number_past low high k word numeral out =
    ap (λ b. cond b (cond (nat_le low (number_of word) && nat_le (number_of word) high) (Ok (number_of word)) (Err (fault.OutOfRange k))) (Err (fault.NotANumber k))) numeral
    ∙ ap (λ b. cond b (Ok (number_of word)) (Err (fault.OutOfRange k))) (out_of_range low high (number_of word) out)

value_read : (given : Options) (s : Setting) (k : ℕ) (word : List ℕ) → IfSome (range_of s) (λ range. IsNumber range word) → with_setting given s k word ≡ Ok (with_value given s word)
value_read given setting.Entry k word fit = refl
value_read given setting.Workers k word fit = ap (λ r. r >>= λ n. Ok (record given { workers = Some n })) (number_read 1 16 k word fit)
value_read given setting.Limit k word fit = ap (λ r. r >>= λ n. Ok (record given { limit = Some n })) (number_read 1 1099511627776 k word fit)
value_read given setting.Order k word fit = ap (λ r. r >>= λ n. Ok (record given { order = Some n })) (number_read 0 4294967295 k word fit)

value_refused : (given : Options) (s : Setting) (k : ℕ) (word : List ℕ) → IsSome (range_of s) → is_numeral word ≡ false → with_setting given s k word ≡ Err (fault.NotANumber k)
value_refused given setting.Entry k word some none = absurd (cc)
value_refused given setting.Workers k word some none = ap (λ r. r >>= λ n. Ok (record given { workers = Some n })) (number_refused 1 16 k word none)
value_refused given setting.Limit k word some none = ap (λ r. r >>= λ n. Ok (record given { limit = Some n })) (number_refused 1 1099511627776 k word none)
value_refused given setting.Order k word some none = ap (λ r. r >>= λ n. Ok (record given { order = Some n })) (number_refused 0 4294967295 k word none)

same_range : (a b : ℕ × ℕ) (word : List ℕ) → Some a ≡ Some b → ¬ IsInRange b word → ¬ IsInRange a word
same_range a b word same out = let e : b ≡ a = cc in subst (λ r. ¬ IsInRange r word) e out

value_past : (given : Options) (s : Setting) (k : ℕ) (word : List ℕ) (range : ℕ × ℕ) → range_of s ≡ Some range → is_numeral word ≡ true → ¬ IsInRange range word → with_setting given s k word ≡ Err (fault.OutOfRange k)
value_past given setting.Entry k word range is numeral out = absurd (cc)
value_past given setting.Workers k word range is numeral out = ap (λ r. r >>= λ n. Ok (record given { workers = Some n })) (number_past 1 16 k word numeral (same_range (1, 16) range word is out))
value_past given setting.Limit k word range is numeral out = ap (λ r. r >>= λ n. Ok (record given { limit = Some n })) (number_past 1 1099511627776 k word numeral (same_range (1, 1099511627776) range word is out))
value_past given setting.Order k word range is numeral out = ap (λ r. r >>= λ n. Ok (record given { order = Some n })) (number_past 0 4294967295 k word numeral (same_range (0, 4294967295) range word is out))

-- ---- Options

-- what reading goes on with behind the word of an option
abbrev goes_on : Runner → ℕ → List (List ℕ) → Wanted → Options → Result Read WordFault
goes_on runner k later next more = reads later runner next more (k + 1)

option_read : (option : Named) (runner : Runner) (given : Options) (k : ℕ) (later : List (List ℕ)) → takes runner given option ≡ true → reads (option_word option ∷ later) runner AnOption given k ≡ after_option (Some option) given k (goes_on runner k later)
option_read (named.Flag flag.If1) runner given k later has = ap (λ b. after_option (cond b (Some (named.Flag flag.If1)) None) given k (goes_on runner k later)) has
option_read (named.Flag flag.Stats) runner given k later has = ap (λ b. after_option (cond b (Some (named.Flag flag.Stats)) None) given k (goes_on runner k later)) has
option_read (named.Flag flag.Opt) runner given k later has = ap (λ b. after_option (cond b (Some (named.Flag flag.Opt)) None) given k (goes_on runner k later)) has
option_read (named.Flag flag.Trace) runner given k later has = ap (λ b. after_option (cond b (Some (named.Flag flag.Trace)) None) given k (goes_on runner k later)) has
option_read (named.Flag flag.Dot) runner given k later has = ap (λ b. after_option (cond b (Some (named.Flag flag.Dot)) None) given k (goes_on runner k later)) has
option_read (named.Flag flag.Why) runner given k later has = ap (λ b. after_option (cond b (Some (named.Flag flag.Why)) None) given k (goes_on runner k later)) has
option_read (named.Flag flag.Code) runner given k later has = ap (λ b. after_option (cond b (Some (named.Flag flag.Code)) None) given k (goes_on runner k later)) has
option_read (named.Setting setting.Entry) runner given k later has = ap (λ b. after_option (cond b (Some (named.Setting setting.Entry)) None) given k (goes_on runner k later)) has
option_read (named.Setting setting.Workers) runner given k later has = ap (λ b. after_option (cond b (Some (named.Setting setting.Workers)) None) given k (goes_on runner k later)) has
option_read (named.Setting setting.Limit) runner given k later has = ap (λ b. after_option (cond b (Some (named.Setting setting.Limit)) None) given k (goes_on runner k later)) has
option_read (named.Setting setting.Order) runner given k later has = ap (λ b. after_option (cond b (Some (named.Setting setting.Order)) None) given k (goes_on runner k later)) has

-- a setting that isn't given before
setting_read : (s : Setting) (runner : Runner) (given : Options) (k : ℕ) (later : List (List ℕ)) → IsOpen runner given s → reads (setting_word s ∷ later) runner AnOption given k ≡ reads later runner (ItsValue s) given (k + 1)
setting_read s runner given k later may =
    option_read (named.Setting s) runner given k later may.0 ∙ ap (λ b. cond b (Err (fault.Repeated k)) (reads later runner (ItsValue s) given (k + 1))) may.1

choice_read : (choice : Choice) (runner : Runner) (given : Options) (k : ℕ) (rest : List (List ℕ)) → MayFollow runner given choice → reads (words_of choice ++ rest) runner AnOption given k ≡ reads rest runner AnOption (with_choice given choice) (k + length (words_of choice))
choice_read (Alone f) runner given k rest may =
    option_read (named.Flag f) runner given k rest may.0 ∙ ap (λ b. cond b (Err (fault.Repeated k)) (reads rest runner AnOption (with_flag given f) (k + 1))) may.1
choice_read (Set s word) runner given k rest may =
    let two : k + 1 + 1 ≡ k + 2 = omega arith in
    setting_read s runner given k (word ∷ rest) may.0 ∙ ap (λ r. r >>= λ more. reads rest runner AnOption more (k + 1 + 1)) (value_read given s (k + 1) word may.1)
    ∙ ap (λ k. reads rest runner AnOption (with_value given s word) k) two

choices_read : (choices : List Choice) (runner : Runner) (given all : Options) (k : ℕ) (rest : List (List ℕ)) → Follow runner given choices all → reads (flat_map words_of choices ++ rest) runner AnOption given k ≡ reads rest runner AnOption all (k + length (flat_map words_of choices))
choices_read [] runner given all k rest follow =
    let none : k ≡ k + 0 = omega arith in
    ap (λ g. reads rest runner AnOption g k) follow ∙ ap (λ k. reads rest runner AnOption all k) none
choices_read (choice ∷ later) runner given all k rest follow =
    let at : k + length (words_of choice) + length (flat_map words_of later) ≡ k + length (words_of choice ++ flat_map words_of later) =
    omega (arith, length-append (words_of choice) (flat_map words_of later)) in
    ap (λ l. reads l runner AnOption given k) (append_assoc (words_of choice) (flat_map words_of later) rest)
    ∙ choice_read choice runner given k (flat_map words_of later ++ rest) follow.0
    ∙ choices_read later runner (with_choice given choice) all (k + length (words_of choice)) rest follow.1
    ∙ ap (λ k. reads rest runner AnOption all k) at

led_read : (runner : Runner) (given all : Options) (k count : ℕ) (words rest : List (List ℕ)) → Leads runner given words all count rest → reads words runner AnOption given k ≡ reads rest runner AnOption all (k + count)
led_read runner given all k count words rest leads =
    ap (λ l. reads l runner AnOption given k) leads.spelled ∙ choices_read leads.choices runner given all k rest leads.follow ∙ ap (λ n. reads rest runner AnOption all (k + n)) (sym leads.counted)

-- what comes behind the end of options
abbrev behind_end : Runner → Options → ℕ → List ℕ → List (List ℕ) → Result Read WordFault
behind_end runner all k word later = cond (bytes_eq word (codes "--") && has_values runner) (Ok (all, k + 1, later)) (after_option (option_of runner all word) all k (goes_on runner k later))

plain_read : (runner : Runner) (all : Options) (k : ℕ) (values : List (List ℕ)) → has_values runner ≡ true → BeginsPlain values → reads values runner AnOption all k ≡ Ok (all, k, values)
plain_read runner all k [] some plain = refl
plain_read runner all k (word ∷ words) some plain =
    let begins : (not (begins_with_dash word) && has_values runner) ≡ true = ap (λ b. not b && has_values runner) plain ∙ some in
    ap (λ b. cond b (Ok (all, k, word ∷ words)) (behind_end runner all k word words)) begins

end_read : (runner : Runner) (all : Options) (k : ℕ) (values : List (List ℕ)) → has_values runner ≡ true → reads (codes "--" ∷ values) runner AnOption all k ≡ Ok (all, k + 1, values)
end_read runner all k values some = ap (λ b. cond b (Ok (all, k + 1, values)) (after_option (option_of runner all (codes "--")) all k (goes_on runner k values))) some

marked_read : (runner : Runner) (all : Options) (k place : ℕ) (rest values : List (List ℕ)) → has_values runner ≡ true → AreMarked k rest place values → reads rest runner AnOption all k ≡ Ok (all, place, values)
marked_read runner all k place rest values some (inl (end, at)) =
    ap (λ l. reads l runner AnOption all k) end ∙ end_read runner all k values some ∙ ap (λ n. Ok (all, n, values)) (sym at)
marked_read runner all k place rest values some (inr (same, plain, at)) =
    ap (λ l. reads l runner AnOption all k) same ∙ plain_read runner all k values some plain ∙ ap (λ n. Ok (all, n, values)) (sym at)

values_read : (runner : Runner) (all : Options) (k place : ℕ) (rest values : List (List ℕ)) → AreValues runner k rest place values → reads rest runner AnOption all k ≡ Ok (all, place, values)
values_read runner all k place rest values (inl (nothing, none, at)) =
    ap (λ l. reads l runner AnOption all k) nothing ∙ ap (λ n. Ok (all, n, [])) (sym at) ∙ ap (λ v. Ok (all, place, v)) (sym none)
values_read runner all k place rest values (inr (some, marked)) = marked_read runner all k place rest values some marked

said_read : (runner : Runner) (given all : Options) (k place : ℕ) (words values : List (List ℕ)) → Say runner given k words all place values → reads words runner AnOption given k ≡ Ok (all, place, values)
said_read runner given all k place words values (count, rest, leads, are) = led_read runner given all k count words rest leads ∙ values_read runner all (k + count) place rest values are

-- a word that names no option of the command
unknown_named : (runner : Runner) (given : Options) (word : List ℕ) → IsNoOption runner given word → (found : Option Named) → option_of runner given word ≡ found → found ≡ None
unknown_named runner given word unnamed None is = refl
unknown_named runner given word unnamed (Some option) is = let known = option_of_is runner given word option is in absurd (unnamed.1 option known.1 known.0)

-- it begins no values
no_value : (dash values : Bool) → (values ≡ true → dash ≡ true) → (not dash && values) ≡ false
no_value true values begins = refl
no_value false true begins = let wrong : false ≡ true = begins refl in cc
no_value false false begins = refl

no_end : (end values : Bool) → (values ≡ true → end ≡ false) → (end && values) ≡ false
no_end true true ends = ends refl
no_end true false ends = refl
no_end false values ends = refl

unknown_read : (runner : Runner) (all : Options) (k : ℕ) (word : List ℕ) (later : List (List ℕ)) → IsNoOption runner all word → reads (word ∷ later) runner AnOption all k ≡ Err (fault.Unknown k)
unknown_read runner all k word later unnamed =
    ap (λ b. cond b (Ok (all, k, word ∷ later)) (behind_end runner all k word later)) (no_value (begins_with_dash word) (has_values runner) (λ some. (unnamed.0 some).0))
    ∙ ap (λ b. cond b (Ok (all, k + 1, later)) (after_option (option_of runner all word) all k (goes_on runner k later)))
    (no_end (bytes_eq word (codes "--")) (has_values runner) (λ some. other (unnamed.0 some).1 (bytes_eq word (codes "--")) refl))
    ∙ ap (λ o. after_option o all k (goes_on runner k later)) (unknown_named runner all word unnamed (option_of runner all word) refl)
  where
    other : word ≢ codes "--" → (b : Bool) → bytes_eq word (codes "--") ≡ b → b ≡ false
    other unlike true e = absurd (unlike ((bytes_eq-Decides word (codes "--")).0 e))
    other unlike false e = refl

repeated_read : (option : Named) (runner : Runner) (all : Options) (k : ℕ) (later : List (List ℕ)) → takes runner all option ≡ true → has_option all option ≡ true → reads (option_word option ∷ later) runner AnOption all k ≡ Err (fault.Repeated k)
repeated_read (named.Flag f) runner all k later takes_it has =
    option_read (named.Flag f) runner all k later takes_it ∙ ap (λ b. cond b (Err (fault.Repeated k)) (goes_on runner k later AnOption (with_flag all f))) has
repeated_read (named.Setting s) runner all k later takes_it has =
    option_read (named.Setting s) runner all k later takes_it ∙ ap (λ b. cond b (Err (fault.Repeated k)) (goes_on runner k later (ItsValue s) all)) has

wrong_read : (runner : Runner) (all : Options) (k : ℕ) (rest : List (List ℕ)) (f : WordFault) → IsWrong runner all k rest f → reads rest runner AnOption all k ≡ Err f
wrong_read runner all k rest fault.Missing (s, is, may) = ap (λ l. reads l runner AnOption all k) is ∙ setting_read s runner all k [] may
wrong_read runner all k rest (fault.Unknown place) (word, later, is, unnamed, at) =
    ap (λ l. reads l runner AnOption all k) is ∙ unknown_read runner all k word later unnamed ∙ ap (λ k. Err (fault.Unknown k)) (sym at)
wrong_read runner all k rest (fault.Repeated place) (option, later, is, takes_it, has, at) =
    ap (λ l. reads l runner AnOption all k) is ∙ repeated_read option runner all k later takes_it has ∙ ap (λ k. Err (fault.Repeated k)) (sym at)
wrong_read runner all k rest (fault.NotANumber place) (s, word, later, is, may, some, none, at) =
    ap (λ l. reads l runner AnOption all k) is ∙ setting_read s runner all k (word ∷ later) may
    ∙ ap (λ r. r >>= λ more. reads later runner AnOption more (k + 1 + 1)) (value_refused all s (k + 1) word some none) ∙ ap (λ k. Err (fault.NotANumber k)) (sym at)
wrong_read runner all k rest (fault.OutOfRange place) (s, word, later, range, is, may, ranged, numeral, out, at) =
    ap (λ l. reads l runner AnOption all k) is ∙ setting_read s runner all k (word ∷ later) may
    ∙ ap (λ r. r >>= λ more. reads later runner AnOption more (k + 1 + 1)) (value_past all s (k + 1) word range ranged numeral out) ∙ ap (λ k. Err (fault.OutOfRange k)) (sym at)
wrong_read runner all k rest fault.NoMemory wrong = absurd wrong

fault_read : (runner : Runner) (given : Options) (k : ℕ) (words : List (List ℕ)) (f : WordFault) → OptionFault runner given k words f → reads words runner AnOption given k ≡ Err f
fault_read runner given k words f (all, count, rest, leads, wrong) = led_read runner given all k count words rest leads ∙ wrong_read runner all (k + count) rest f wrong

-- ---- Commands

-- what a command makes of what is read
abbrev ends : Runner → Result Read WordFault → Result Command WordFault
ends runner r = r >>= λ read. ended runner read.0 read.1 read.2

pub command_read : (words : List (List ℕ)) (found : Command) → IsCommand words found → reads_words words ≡ Ok found
command_read words (command.Run set) (later, given, place, is, said, settings) =
    ap reads_words is ∙ ap (ends runner.Run) (said_read runner.Run no_options given 2 place later set.values said) ∙ ap (λ s. Ok (command.Run s)) (sym settings)
command_read words (command.Mean set) (later, given, place, is, said, settings) =
    ap reads_words is ∙ ap (ends runner.Mean) (said_read runner.Mean no_options given 2 place later set.values said) ∙ ap (λ s. Ok (command.Mean s)) (sym settings)
command_read words (command.Compile set) (later, given, place, is, said, settings) =
    ap reads_words is ∙ ap (ends runner.Compile) (said_read runner.Compile no_options given 2 place later [] said) ∙ ap (λ s. Ok (command.Compile s)) (sym settings)
command_read words (command.Verify set) (later, given, place, is, said, settings) =
    ap reads_words is ∙ ap (ends runner.Verify) (said_read runner.Verify no_options given 2 place later set.values said) ∙ ap (λ s. Ok (command.Verify s)) (sym settings)
command_read words (command.Again set) (later, given, place, word, is, said, number, settings) =
    ap reads_words is ∙ ap (ends runner.Again) (said_read runner.Again no_options given 2 place later (word ∷ set.value ∷ set.values) said)
    ∙ ap (λ r. r >>= λ n. Ok (command.Again (again_set given n set.value set.values))) (number_read 1 65535 place word number) ∙ ap (λ s. Ok (command.Again s)) (sym settings)
command_read words (command.Gen n) (word, is, number, same) =
    ap reads_words is ∙ ap (λ r. r >>= λ n. Ok (command.Gen n)) (number_read 1 500 2 word number) ∙ ap (λ n. Ok (command.Gen n)) (sym same)
command_read words command.If1 is = ap reads_words is
command_read words command.Link is = ap reads_words is
command_read words command.Help is = ap reads_words is
command_read words command.Version is = ap reads_words is

-- `again` with a place that is no number, or past its range
change_refused : (given : Options) (k : ℕ) (word : List ℕ) (others : List (List ℕ)) → is_numeral word ≡ false → reads_change given k (word ∷ others) ≡ Err (fault.NotANumber k)
change_refused given k word [] none = ap (λ r. r >>= λ n. Err fault.Missing) (number_refused 1 65535 k word none)
change_refused given k word (value ∷ values) none = ap (λ r. r >>= λ n. Ok (command.Again (again_set given n value values))) (number_refused 1 65535 k word none)

change_past : (given : Options) (k : ℕ) (word : List ℕ) (others : List (List ℕ)) → is_numeral word ≡ true → ¬ IsInRange (1, 65535) word → reads_change given k (word ∷ others) ≡ Err (fault.OutOfRange k)
change_past given k word [] numeral out = ap (λ r. r >>= λ n. Err fault.Missing) (number_past 1 65535 k word numeral out)
change_past given k word (value ∷ values) numeral out = ap (λ r. r >>= λ n. Ok (command.Again (again_set given n value values))) (number_past 1 65535 k word numeral out)

change_read : (given : Options) (k : ℕ) (values : List (List ℕ)) (f : WordFault) → ChangeFault k values f → reads_change given k values ≡ Err f
change_read given k values fault.Missing (inl is) = ap (reads_change given k) is
change_read given k values fault.Missing (inr (word, is, number)) = ap (reads_change given k) is ∙ ap (λ r. r >>= λ n. Err fault.Missing) (number_read 1 65535 k word number)
change_read given k values (fault.NotANumber place) (word, others, is, none, at) = ap (reads_change given k) is ∙ change_refused given k word others none ∙ ap (λ k. Err (fault.NotANumber k)) (sym at)
change_read given k values (fault.OutOfRange place) (word, others, is, numeral, out, at) = ap (reads_change given k) is ∙ change_past given k word others numeral out ∙ ap (λ k. Err (fault.OutOfRange k)) (sym at)
change_read given k values (fault.Unknown place) wrong = absurd wrong
change_read given k values (fault.Repeated place) wrong = absurd wrong
change_read given k values fault.NoMemory wrong = absurd wrong

again_read : (later : List (List ℕ)) (f : WordFault) → AgainFault later f → reads_runner runner.Again later ≡ Err f
again_read later f (inl wrong) = ap (ends runner.Again) (fault_read runner.Again no_options 2 later f wrong)
again_read later f (inr (given, place, values, said, wrong)) = ap (ends runner.Again) (said_read runner.Again no_options given 2 place later values said) ∙ change_read given place values f wrong

gen_read : (later : List (List ℕ)) (f : WordFault) → GenFault later f → reads_gen later ≡ Err f
gen_read later fault.Missing is = ap reads_gen is
gen_read later (fault.Unknown place) (word, more, others, is, number, at) =
    ap reads_gen is ∙ ap (λ r. r >>= λ n. Err (fault.Unknown 3)) (number_read 1 500 2 word number) ∙ ap (λ k. Err (fault.Unknown k)) (sym at)
gen_read later (fault.Repeated place) wrong = absurd wrong
gen_read later (fault.NotANumber place) (word, others, is, none, at) = ap reads_gen is ∙ size_refused others ∙ ap (λ k. Err (fault.NotANumber k)) (sym at)
  where
    size_refused : (others : List (List ℕ)) → reads_gen (word ∷ others) ≡ Err (fault.NotANumber 2)
    size_refused [] = ap (λ r. r >>= λ n. Ok (command.Gen n)) (number_refused 1 500 2 word none)
    size_refused (more ∷ others) = ap (λ r. r >>= λ n. Err (fault.Unknown 3)) (number_refused 1 500 2 word none)
gen_read later (fault.OutOfRange place) (word, others, is, numeral, out, at) = ap reads_gen is ∙ size_past others ∙ ap (λ k. Err (fault.OutOfRange k)) (sym at)
  where
    size_past : (others : List (List ℕ)) → reads_gen (word ∷ others) ≡ Err (fault.OutOfRange 2)
    size_past [] = ap (λ r. r >>= λ n. Ok (command.Gen n)) (number_past 1 500 2 word numeral out)
    size_past (more ∷ others) = ap (λ r. r >>= λ n. Err (fault.Unknown 3)) (number_past 1 500 2 word numeral out)
gen_read later fault.NoMemory wrong = absurd wrong

alone_read : (found : Command) (later : List (List ℕ)) (f : WordFault) → IsFurther later f → reads_alone found later ≡ Err f
alone_read found [] f (some, is) = absurd (some refl)
alone_read found (word ∷ later) f (some, is) = ap Err (sym is)

behind_read : (first : Keyword) (later : List (List ℕ)) (f : WordFault) → FaultBehind first later f → reads_after first later ≡ Err f
behind_read keyword.Run later f wrong = ap (ends runner.Run) (fault_read runner.Run no_options 2 later f wrong)
behind_read keyword.Mean later f wrong = ap (ends runner.Mean) (fault_read runner.Mean no_options 2 later f wrong)
behind_read keyword.Compile later f wrong = ap (ends runner.Compile) (fault_read runner.Compile no_options 2 later f wrong)
behind_read keyword.Verify later f wrong = ap (ends runner.Verify) (fault_read runner.Verify no_options 2 later f wrong)
behind_read keyword.Again later f wrong = again_read later f wrong
behind_read keyword.Gen later f wrong = gen_read later f wrong
behind_read keyword.Link later f wrong = alone_read command.Link later f wrong
behind_read keyword.If1 later f wrong = alone_read command.If1 later f wrong
behind_read keyword.Help later f wrong = alone_read command.Help later f wrong
behind_read keyword.Version later f wrong = alone_read command.Version later f wrong

unknown_keyword : (word : List ℕ) → ((first : Keyword) → word ≢ keyword_word first) → (found : Option Keyword) → keyword_named word ≡ found → found ≡ None
unknown_keyword word unnamed None is = refl
unknown_keyword word unnamed (Some first) is = absurd (unnamed first (keyword_is word first is))

pub word_fault_read : (words : List (List ℕ)) (f : WordFault) → HasFault words f → reads_words words ≡ Err f
word_fault_read [] f is = ap Err (sym is)
word_fault_read (word ∷ later) f (inl (unnamed, is)) = ap (λ o. reads_first o later) (unknown_keyword word unnamed (keyword_named word) refl) ∙ ap Err (sym is)
word_fault_read (word ∷ later) f (inr (first, is, wrong)) = ap (λ w. reads_first (keyword_named w) later) is ∙ ap (λ o. reads_first o later) (named_keyword first) ∙ behind_read first later f wrong
