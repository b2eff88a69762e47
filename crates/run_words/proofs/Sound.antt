-- What reading gives is in the relations.
use Rattle.std.proofs.Common.{◌≡◌, ℕ, ◌+◌, ◌≤◌, Bool, true, false, ◌⊎◌, inl, inr, List, [], ◌∷◌, ◌++◌, length, Option, Some, None, IfSome, IsSome, Result, Ok, Err, refl, ap, sym, ◌∙◌, subst, codes, arith, nat_le, not, ◌&&◌, append_assoc, length-append}
use Rattle.std.specs.List.{flat_map}
use Rattle.std.specs.Str.{bytes_eq}
use Rattle.std.proofs.lemmas.Slice.Eq.{bytes_eq-Decides}
use Rattle.std.proofs.lemmas.Bool.Decides.{nat_tests}
use mathlib.Core.Bool.{cond}
use Rattle.run_words.specs.Numbers.{is_numeral, number_of}
use Rattle.run_words.specs.Options.{setting_word, flag_word, has_values, no_options, has_flag, has_setting, with_flag}
use Rattle.run_words.specs.Commands.{begins_with_dash, keyword_word, again_set}
use Rattle.run_words.specs.Reading.{option_of, keyword_named, ◌>>=◌, number_at, with_setting, Wanted, AnOption, ItsValue, after_option, Read, reads, reads_gen, reads_change, ended, reads_after, reads_first, reads_words}
use Rattle.run_words.specs.Words.{Choice, Alone, Set, words_of, range_of, IsInRange, IsNumber, IsOpen, MayFollow, with_value, with_choice, Leads, AreValues, Say, IsCommand, IsBesideValues, IsWrong, OptionFault, HasFault}
use Rattle.run_words.specs.declared.fault.WordFault.{WordFault}
use Rattle.run_words.specs.declared.fault.WordFault.TheVariants as fault
use Rattle.run_words.specs.declared.command.Keyword.{Keyword}
use Rattle.run_words.specs.declared.command.Keyword.TheVariants as keyword
use Rattle.run_words.specs.declared.command.Command.{Command}
use Rattle.run_words.specs.declared.command.Command.TheVariants as command
use Rattle.run_words.specs.declared.options.Runner.{Runner}
use Rattle.run_words.specs.declared.options.Runner.TheVariants as runner
use Rattle.run_words.specs.declared.options.Setting.{Setting}
use Rattle.run_words.specs.declared.options.Setting.TheVariants as setting
use Rattle.run_words.specs.declared.options.Named.{Named}
use Rattle.run_words.specs.declared.options.Named.TheVariants as named
use Rattle.run_words.specs.declared.options.Options.{Options}
use Rattle.run_words.proofs.Naming.{option_of_is, no_option, keyword_is, no_keyword}

-- what holds of both outcomes of a test
either : {R : Type 0} (P : R → Type 0) (b : Bool) (x y : R) → (b ≡ true → P x) → (b ≡ false → P y) → P (cond b x y)
either P true x y f g = f refl
either P false x y f g = g refl

-- ---- Numbers

-- what a number's word gives
abbrev NumberTold : ℕ × ℕ → ℕ → List ℕ → Result ℕ WordFault → Type 0
NumberTold range k word (Ok n) = IsNumber range word × (n ≡ number_of word)
NumberTold range k word (Err f) = ((f ≡ fault.NotANumber k) × (is_numeral word ≡ false)) ⊎ ((f ≡ fault.OutOfRange k) × (is_numeral word ≡ true) × ¬ IsInRange range word)

in_range : (low high n : ℕ) → (nat_le low n && nat_le n high) ≡ true → (low ≤ n) × (n ≤ high)
in_range low high n h = (grind (arith, nat_tests), grind (arith, nat_tests))

not_in_range : (low high n : ℕ) → (nat_le low n && nat_le n high) ≡ false → ¬ ((low ≤ n) × (n ≤ high))
not_in_range low high n h fits = let low_fits : low ≤ n = fits.0 in let high_fits : n ≤ high = fits.1 in grind (arith, nat_tests)

number_told : (low high k : ℕ) (word : List ℕ) → NumberTold (low, high) k word (number_at low high k word)
number_told low high k word =
    either (NumberTold (low, high) k word) (is_numeral word) _ _
    (λ numeral. either (NumberTold (low, high) k word) (nat_le low (number_of word) && nat_le (number_of word) high) _ _
    (λ fits. ((numeral, in_range low high (number_of word) fits), refl))
    (λ fits. inr (refl, numeral, not_in_range low high (number_of word) fits)))
    (λ none. inl (refl, none))

-- what a setting's word gives
abbrev ValueTold : Options → Setting → ℕ → List ℕ → Result Options WordFault → Type 0
ValueTold given s k word (Ok more) = IfSome (range_of s) (λ range. IsNumber range word) × (more ≡ with_value given s word)
ValueTold given s k word (Err f) =
    ((f ≡ fault.NotANumber k) × IsSome (range_of s) × (is_numeral word ≡ false))
    ⊎ ((range : ℕ × ℕ) × (f ≡ fault.OutOfRange k) × (range_of s ≡ Some range) × (is_numeral word ≡ true) × ¬ IsInRange range word)

-- a number goes into the options
value_told_by : (given : Options) (s : Setting) (range : ℕ × ℕ) (k : ℕ) (word : List ℕ) (put : ℕ → Options) → range_of s ≡ Some range → put (number_of word) ≡ with_value given s word →
    (r : Result ℕ WordFault) → NumberTold range k word r → ValueTold given s k word (r >>= λ n. Ok (put n))
value_told_by given s range k word put is same (Ok n) told = (subst (λ o. IfSome o (λ range. IsNumber range word)) (sym is) told.0, ap put told.1 ∙ same)
value_told_by given s range k word put is same (Err f) told =
    elim told [ inl none ↦ inl (none.0, subst (λ o. IsSome o) (sym is) refl, none.1) | inr out ↦ inr (range, out.0, is, out.1, out.2) ]

value_told : (given : Options) (s : Setting) (k : ℕ) (word : List ℕ) → ValueTold given s k word (with_setting given s k word)
value_told given setting.Entry k word = (tt, refl)
value_told given setting.Workers k word = value_told_by given setting.Workers (1, 16) k word (λ n. record given { workers = Some n }) refl refl _ (number_told 1 16 k word)
value_told given setting.Limit k word = value_told_by given setting.Limit (1, 1099511627776) k word (λ n. record given { limit = Some n }) refl refl _ (number_told 1 1099511627776 k word)
value_told given setting.Order k word = value_told_by given setting.Order (0, 4294967295) k word (λ n. record given { order = Some n }) refl refl _ (number_told 0 4294967295 k word)

-- ---- Options

-- what the reading of options and values gives
abbrev Told : Runner → Options → ℕ → List (List ℕ) → Result Read WordFault → Type 0
Told runner given k words (Ok found) = Say runner given k words found.0 found.1 found.2
Told runner given k words (Err f) = OptionFault runner given k words f

-- no option
bare : (runner : Runner) (given : Options) (words : List (List ℕ)) → Leads runner given words given 0 words
bare runner given words = record { choices = []; spelled = refl; counted = refl; follow = refl }

-- one option more
led : (runner : Runner) (given all : Options) (choice : Choice) (count : ℕ) (later rest : List (List ℕ)) → MayFollow runner given choice → Leads runner (with_choice given choice) later all count rest
    → Leads runner given (words_of choice ++ later) all (length (words_of choice) + count) rest
led runner given all choice count later rest may leads = record {
  choices = choice ∷ leads.choices;
  spelled = ap (λ l. words_of choice ++ l) leads.spelled ∙ sym (append_assoc (words_of choice) (flat_map words_of leads.choices) rest);
  counted = ap (λ n. length (words_of choice) + n) leads.counted ∙ sym (length-append (words_of choice) (flat_map words_of leads.choices));
  follow = (may, leads.follow);
}

-- behind one option more
told_more : (runner : Runner) (given : Options) (k n : ℕ) (choice : Choice) (later : List (List ℕ)) (r : Result Read WordFault) → n ≡ length (words_of choice) → MayFollow runner given choice
    → Told runner (with_choice given choice) (k + n) later r → Told runner given k (words_of choice ++ later) r
told_more runner given k n choice later (Ok found) long may (count, rest, leads, values) =
    let at : k + n + count ≡ k + (length (words_of choice) + count) = omega arith in
    (length (words_of choice) + count, rest, led runner given found.0 choice count later rest may leads, subst (λ k. AreValues runner k rest found.1 found.2) at values)
told_more runner given k n choice later (Err f) long may (all, count, rest, leads, wrong) =
    let at : k + n + count ≡ k + (length (words_of choice) + count) = omega arith in
    (all, length (words_of choice) + count, rest, led runner given all choice count later rest may leads, subst (λ k. IsWrong runner all k rest f) at wrong)

-- a fault right at the front
wrong_here : (runner : Runner) (given : Options) (k : ℕ) (words : List (List ℕ)) (f : WordFault) → IsWrong runner given (k + 0) words f → Told runner given k words (Err f)
wrong_here runner given k words f wrong = (given, 0, words, bare runner given words, wrong)

-- the same where the value of a setting is wanted
abbrev ToldAt : Runner → Wanted → Options → ℕ → List (List ℕ) → Result Read WordFault → Type 0
ToldAt runner AnOption given k words r = Told runner given k words r
ToldAt runner (ItsValue s) given k words r = (first : ℕ) → k ≡ first + 1 → IsOpen runner given s → Told runner given first (setting_word s ∷ words) r

-- behind a setting's word
by_value : (runner : Runner) (given : Options) (s : Setting) (first k : ℕ) (word : List ℕ) (later : List (List ℕ)) (go : Options → Result Read WordFault) → k ≡ first + 1 → IsOpen runner given s
    → ((more : Options) → Told runner more (k + 1) later (go more)) → (r : Result Options WordFault) → ValueTold given s k word r → Told runner given first (setting_word s ∷ word ∷ later) (r >>= go)
by_value runner given s first k word later go at may told (Ok more) value =
    told_more runner given first 2 (Set s word) later (go more) refl (may, value.0)
    (subst (λ g. Told runner g (first + 2) later (go more)) value.1 (subst (λ k. Told runner more k later (go more)) (omega arith) (told more)))
by_value runner given s first k word later go at may told (Err f) value =
    let place : k ≡ first + 0 + 1 = omega arith in
    elim value [
      | inl none ↦ subst (λ f. Told runner given first (setting_word s ∷ word ∷ later) (Err f)) (sym none.0) (wrong_here runner given first _ (fault.NotANumber k) (s, word, later, refl, may, none.1, none.2, place))
      | inr out ↦ subst (λ f. Told runner given first (setting_word s ∷ word ∷ later) (Err f)) (sym out.1) (wrong_here runner given first _ (fault.OutOfRange k) (s, word, later, out.0, refl, may, out.2, out.3, out.4, place))
    ]

-- behind the test of which option a word is
by_option : (runner : Runner) (given : Options) (k : ℕ) (word : List ℕ) (later : List (List ℕ)) (go : Wanted → Options → Result Read WordFault) → IsBesideValues runner word
    → ((next : Wanted) (more : Options) → ToldAt runner next more (k + 1) later (go next more)) → (found : Option Named) → option_of runner given word ≡ found → Told runner given k (word ∷ later) (after_option found given k go)
by_option runner given k word later go beside told None is =
    wrong_here runner given k _ (fault.Unknown k) (word, later, refl, (beside, no_option runner given word is), omega arith)
by_option runner given k word later go beside told (Some (named.Flag f)) is =
    let known = option_of_is runner given word (named.Flag f) is in
    let front : word ∷ later ≡ flag_word f ∷ later = ap (λ w. w ∷ later) known.0 in
    either (Told runner given k (word ∷ later)) (has_flag given f) _ _
    (λ has. wrong_here runner given k _ (fault.Repeated k) (named.Flag f, later, front, known.1, has, omega arith))
    (λ new. subst (λ words. Told runner given k words (go AnOption (with_flag given f))) (sym front)
    (told_more runner given k 1 (Alone f) later _ refl (known.1, new) (told AnOption (with_flag given f))))
by_option runner given k word later go beside told (Some (named.Setting s)) is =
    let known = option_of_is runner given word (named.Setting s) is in
    let front : word ∷ later ≡ setting_word s ∷ later = ap (λ w. w ∷ later) known.0 in
    either (Told runner given k (word ∷ later)) (has_setting given s) _ _
    (λ has. wrong_here runner given k _ (fault.Repeated k) (named.Setting s, later, front, known.1, has, omega arith))
    (λ new. subst (λ words. Told runner given k words (go (ItsValue s) given)) (sym front) (told (ItsValue s) given k refl (known.1, new)))

both : (a b : Bool) → (a && b) ≡ true → (a ≡ true) × (b ≡ true)
both true b e = (refl, e)
both false b e = absurd (cc)

none_of : (b : Bool) → not b ≡ true → b ≡ false
none_of true e = absurd (cc)
none_of false e = refl

dash_of : (dash values : Bool) → (not dash && values) ≡ false → values ≡ true → dash ≡ true
dash_of true values e some = refl
dash_of false values e some = absurd (cc)

no_end_of : (end values : Bool) → (end && values) ≡ false → values ≡ true → end ≡ false
no_end_of true values e some = absurd (cc)
no_end_of false values e some = refl

-- no values begin there
beside_values : (runner : Runner) (word : List ℕ) → (not (begins_with_dash word) && has_values runner) ≡ false → (bytes_eq word (codes "--") && has_values runner) ≡ false → IsBesideValues runner word
beside_values runner word plain end some = (
  dash_of (begins_with_dash word) (has_values runner) plain some,
  λ is. let found : bytes_eq word (codes "--") ≡ true = (bytes_eq-Decides word (codes "--")).1 is in
      let none : bytes_eq word (codes "--") ≡ false = no_end_of (bytes_eq word (codes "--")) (has_values runner) end some in cc,
)

told_at : (words : List (List ℕ)) (runner : Runner) (wanted : Wanted) (given : Options) (k : ℕ) → ToldAt runner wanted given k words (reads words runner wanted given k)
told_at [] runner AnOption given k = (0, [], bare runner given [], inl (refl, refl, omega arith))
told_at [] runner (ItsValue s) given k = λ first at may. wrong_here runner given first _ fault.Missing (s, refl, may)
told_at (word ∷ later) runner AnOption given k =
    either (Told runner given k (word ∷ later)) (not (begins_with_dash word) && has_values runner) _ _
    (λ plain. let parts = both (not (begins_with_dash word)) (has_values runner) plain in
    (0, word ∷ later, bare runner given (word ∷ later), inr (parts.1, inr (refl, none_of (begins_with_dash word) parts.0, omega arith))))
    (λ dash. either (Told runner given k (word ∷ later)) (bytes_eq word (codes "--") && has_values runner) _ _
    (λ end. let parts = both (bytes_eq word (codes "--")) (has_values runner) end in
    (0, word ∷ later, bare runner given (word ∷ later), inr (parts.1, inl (ap (λ w. w ∷ later) ((bytes_eq-Decides word (codes "--")).0 parts.0), omega arith))))
    (λ other. by_option runner given k word later _ (beside_values runner word dash other)
    (λ next more. told_at later runner next more (k + 1)) (option_of runner given word) refl))
told_at (word ∷ later) runner (ItsValue s) given k = λ first at may.
    by_value runner given s first k word later _ at may (λ more. told_at later runner AnOption more (k + 1)) _ (value_told given s k word)

told : (words : List (List ℕ)) (runner : Runner) → Told runner no_options 2 words (reads words runner AnOption no_options 2)
told words runner = told_at words runner AnOption no_options 2

-- ---- Commands

abbrev pub AllTold : List (List ℕ) → Result Command WordFault → Type 0
AllTold words (Ok found) = IsCommand words found
AllTold words (Err f) = HasFault words f

-- what a command makes of what is read
abbrev ends : Runner → Result Read WordFault → Result Command WordFault
ends runner r = r >>= λ read. ended runner read.0 read.1 read.2

told_run : (later : List (List ℕ)) (r : Result Read WordFault) → Told runner.Run no_options 2 later r → AllTold (codes "run" ∷ later) (ends runner.Run r)
told_run later (Ok found) said = (later, found.0, found.1, refl, said, refl)
told_run later (Err f) wrong = inr (keyword.Run, refl, wrong)

told_mean : (later : List (List ℕ)) (r : Result Read WordFault) → Told runner.Mean no_options 2 later r → AllTold (codes "mean" ∷ later) (ends runner.Mean r)
told_mean later (Ok found) said = (later, found.0, found.1, refl, said, refl)
told_mean later (Err f) wrong = inr (keyword.Mean, refl, wrong)

told_verify : (later : List (List ℕ)) (r : Result Read WordFault) → Told runner.Verify no_options 2 later r → AllTold (codes "verify" ∷ later) (ends runner.Verify r)
told_verify later (Ok found) said = (later, found.0, found.1, refl, said, refl)
told_verify later (Err f) wrong = inr (keyword.Verify, refl, wrong)

-- `compile` has no values
no_values : (k place : ℕ) (rest values : List (List ℕ)) → AreValues runner.Compile k rest place values → values ≡ []
no_values k place rest values (inl (nothing, none, at)) = none
no_values k place rest values (inr (some, marked)) = absurd (cc)

told_compile : (later : List (List ℕ)) (r : Result Read WordFault) → Told runner.Compile no_options 2 later r → AllTold (codes "compile" ∷ later) (ends runner.Compile r)
told_compile later (Ok found) (count, rest, leads, values) =
    (later, found.0, found.1, refl, (count, rest, leads, subst (λ v. AreValues runner.Compile (2 + count) rest found.1 v) (no_values (2 + count) found.1 rest found.2 values) values), refl)
told_compile later (Err f) wrong = inr (keyword.Compile, refl, wrong)

-- the faults of the place of `again`
change_fault : (later : List (List ℕ)) (given : Options) (k : ℕ) (word : List ℕ) (others : List (List ℕ)) (f : WordFault) → Told runner.Again no_options 2 later (Ok (given, k, word ∷ others)) → NumberTold (1, 65535) k word (Err f) → HasFault (codes "again" ∷ later) f
change_fault later given k word others f said told = elim told [
  | inl none ↦ subst (λ f. HasFault (codes "again" ∷ later) f) (sym none.0) (inr (keyword.Again, refl, inr (given, k, word ∷ others, said, (word, others, refl, none.1, refl))))
  | inr out ↦ subst (λ f. HasFault (codes "again" ∷ later) f) (sym out.0) (inr (keyword.Again, refl, inr (given, k, word ∷ others, said, (word, others, refl, out.1, out.2, refl))))
]

change_ends : (later : List (List ℕ)) (given : Options) (k : ℕ) (word : List ℕ) → Told runner.Again no_options 2 later (Ok (given, k, word ∷ [])) → (r : Result ℕ WordFault) → NumberTold (1, 65535) k word r → AllTold (codes "again" ∷ later) (r >>= λ n. Err fault.Missing)
change_ends later given k word said (Ok n) told = inr (keyword.Again, refl, inr (given, k, word ∷ [], said, inr (word, refl, told.0)))
change_ends later given k word said (Err f) told = change_fault later given k word [] f said told

change_is : (later : List (List ℕ)) (given : Options) (k : ℕ) (word value : List ℕ) (values : List (List ℕ)) → Told runner.Again no_options 2 later (Ok (given, k, word ∷ value ∷ values)) → (r : Result ℕ WordFault) → NumberTold (1, 65535) k word r
    → AllTold (codes "again" ∷ later) (r >>= λ n. Ok (command.Again (again_set given n value values)))
change_is later given k word value values said (Ok n) told = (later, given, k, word, refl, said, told.0, ap (λ n. again_set given n value values) told.1)
change_is later given k word value values said (Err f) told = change_fault later given k word (value ∷ values) f said told

told_change : (later : List (List ℕ)) (given : Options) (k : ℕ) (values : List (List ℕ)) → Told runner.Again no_options 2 later (Ok (given, k, values)) → AllTold (codes "again" ∷ later) (reads_change given k values)
told_change later given k [] said = inr (keyword.Again, refl, inr (given, k, [], said, inl refl))
told_change later given k (word ∷ []) said = change_ends later given k word said _ (number_told 1 65535 k word)
told_change later given k (word ∷ value ∷ values) said = change_is later given k word value values said _ (number_told 1 65535 k word)

told_again : (later : List (List ℕ)) (r : Result Read WordFault) → Told runner.Again no_options 2 later r → AllTold (codes "again" ∷ later) (ends runner.Again r)
told_again later (Ok found) said = told_change later found.0 found.1 found.2 said
told_again later (Err f) wrong = inr (keyword.Again, refl, inl wrong)

-- the faults of the number of `gen`
gen_fault : (word : List ℕ) (others : List (List ℕ)) (f : WordFault) → NumberTold (1, 500) 2 word (Err f) → HasFault (codes "gen" ∷ word ∷ others) f
gen_fault word others f told = elim told [
  | inl none ↦ subst (λ f. HasFault (codes "gen" ∷ word ∷ others) f) (sym none.0) (inr (keyword.Gen, refl, (word, others, refl, none.1, refl)))
  | inr out ↦ subst (λ f. HasFault (codes "gen" ∷ word ∷ others) f) (sym out.0) (inr (keyword.Gen, refl, (word, others, refl, out.1, out.2, refl)))
]

told_size : (word : List ℕ) (r : Result ℕ WordFault) → NumberTold (1, 500) 2 word r → AllTold (codes "gen" ∷ word ∷ []) (r >>= λ n. Ok (command.Gen n))
told_size word (Ok n) told = (word, refl, told.0, told.1)
told_size word (Err f) told = gen_fault word [] f told

told_further : (word more : List ℕ) (others : List (List ℕ)) (r : Result ℕ WordFault) → NumberTold (1, 500) 2 word r → AllTold (codes "gen" ∷ word ∷ more ∷ others) (r >>= λ n. Err (fault.Unknown 3))
told_further word more others (Ok n) told = inr (keyword.Gen, refl, (word, more, others, refl, told.0, refl))
told_further word more others (Err f) told = gen_fault word (more ∷ others) f told

told_gen : (later : List (List ℕ)) → AllTold (codes "gen" ∷ later) (reads_gen later)
told_gen [] = inr (keyword.Gen, refl, refl)
told_gen (word ∷ []) = told_size word _ (number_told 1 500 2 word)
told_gen (word ∷ more ∷ others) = told_further word more others _ (number_told 1 500 2 word)

told_behind : (first : Keyword) (later : List (List ℕ)) → AllTold (keyword_word first ∷ later) (reads_after first later)
told_behind keyword.Run later = told_run later _ (told later runner.Run)
told_behind keyword.Mean later = told_mean later _ (told later runner.Mean)
told_behind keyword.Gen later = told_gen later
told_behind keyword.Compile later = told_compile later _ (told later runner.Compile)
told_behind keyword.Verify later = told_verify later _ (told later runner.Verify)
told_behind keyword.Again later = told_again later _ (told later runner.Again)
told_behind keyword.Link [] = refl
told_behind keyword.Link (word ∷ later) = inr (keyword.Link, refl, ((λ is. cc), refl))
told_behind keyword.If1 [] = refl
told_behind keyword.If1 (word ∷ later) = inr (keyword.If1, refl, ((λ is. cc), refl))
told_behind keyword.Help [] = refl
told_behind keyword.Help (word ∷ later) = inr (keyword.Help, refl, ((λ is. cc), refl))
told_behind keyword.Version [] = refl
told_behind keyword.Version (word ∷ later) = inr (keyword.Version, refl, ((λ is. cc), refl))

told_first : (word : List ℕ) (later : List (List ℕ)) (found : Option Keyword) → keyword_named word ≡ found → AllTold (word ∷ later) (reads_first found later)
told_first word later None is = inl (no_keyword word is, refl)
told_first word later (Some first) is = subst (λ w. AllTold (w ∷ later) (reads_after first later)) (sym (keyword_is word first is)) (told_behind first later)

-- What reading gives of any words is in the relations.
pub all_told : (words : List (List ℕ)) → AllTold words (reads_words words)
all_told [] = refl
all_told (word ∷ later) = told_first word later (keyword_named word) refl
