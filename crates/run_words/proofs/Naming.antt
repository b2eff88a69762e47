-- Which word names what.
use Rattle.std.proofs.Common.{◌≡◌, ◌≢◌, ℕ, Bool, true, false, ◌⊎◌, inl, inr, List, Option, Some, None, refl, ap, sym, ◌∙◌, codes}
use Rattle.std.specs.Str.{bytes_eq}
use Rattle.std.proofs.lemmas.Slice.Eq.{bytes_eq-Decides}
use mathlib.Core.Bool.{cond}
use Rattle.run_words.specs.Options.{option_word, takes}
use Rattle.run_words.specs.Commands.{keyword_word}
use Rattle.run_words.specs.Reading.{option_named, option_of, taken, keyword_named}
use Rattle.run_words.specs.declared.command.Keyword.{Keyword}
use Rattle.run_words.specs.declared.command.Keyword.TheVariants as keyword
use Rattle.run_words.specs.declared.options.Runner.{Runner}
use Rattle.run_words.specs.declared.options.Flag.TheVariants as flag
use Rattle.run_words.specs.declared.options.Setting.TheVariants as setting
use Rattle.run_words.specs.declared.options.Named.{Named}
use Rattle.run_words.specs.declared.options.Named.TheVariants as named
use Rattle.run_words.specs.declared.options.Options.{Options}

by_test : {K : Type 0} (word name : List ℕ) (k : K) (later : Option K) (found : K) (b : Bool) → (b ≡ true → word ≡ name) → cond b (Some k) later ≡ Some found → ((word ≡ name) × (k ≡ found)) ⊎ (later ≡ Some found)
by_test word name k later found true e h = inl (e refl, cc)
by_test word name k later found false e h = inr h

-- one step of a chain of tests
chosen : {K : Type 0} (word name : List ℕ) (k : K) (later : Option K) (found : K) → cond (bytes_eq word name) (Some k) later ≡ Some found → ((word ≡ name) × (k ≡ found)) ⊎ (later ≡ Some found)
chosen word name k later found h = by_test word name k later found (bytes_eq word name) (bytes_eq-Decides word name).0 h

pub named_keyword : (first : Keyword) → keyword_named (keyword_word first) ≡ Some first
named_keyword keyword.Run = refl
named_keyword keyword.Compile = refl
named_keyword keyword.If1 = refl
named_keyword keyword.Mean = refl
named_keyword keyword.Gen = refl
named_keyword keyword.Link = refl
named_keyword keyword.Verify = refl
named_keyword keyword.Again = refl
named_keyword keyword.Help = refl
named_keyword keyword.Version = refl

pub keyword_is : (word : List ℕ) (first : Keyword) → keyword_named word ≡ Some first → word ≡ keyword_word first
keyword_is word first h =
    elim (chosen word (codes "run") keyword.Run _ first h) [
      | inl e ↦ e.0 ∙ ap keyword_word e.1
      | inr h ↦
          elim (chosen word (codes "compile") keyword.Compile _ first h) [
            | inl e ↦ e.0 ∙ ap keyword_word e.1
            | inr h ↦
                elim (chosen word (codes "if1") keyword.If1 _ first h) [
                  | inl e ↦ e.0 ∙ ap keyword_word e.1
                  | inr h ↦
                      elim (chosen word (codes "mean") keyword.Mean _ first h) [
                        | inl e ↦ e.0 ∙ ap keyword_word e.1
                        | inr h ↦
                            elim (chosen word (codes "gen") keyword.Gen _ first h) [
                              | inl e ↦ e.0 ∙ ap keyword_word e.1
                              | inr h ↦
                                  elim (chosen word (codes "link") keyword.Link _ first h) [
                                    | inl e ↦ e.0 ∙ ap keyword_word e.1
                                    | inr h ↦
                                        elim (chosen word (codes "verify") keyword.Verify _ first h) [
                                          | inl e ↦ e.0 ∙ ap keyword_word e.1
                                          | inr h ↦
                                              elim (chosen word (codes "again") keyword.Again _ first h) [
                                                | inl e ↦ e.0 ∙ ap keyword_word e.1
                                                | inr h ↦
                                                    elim (chosen word (codes "--help") keyword.Help _ first h) [
                                                      | inl e ↦ e.0 ∙ ap keyword_word e.1
                                                      | inr h ↦
                                                          elim (chosen word (codes "--version") keyword.Version None first h) [ inl e ↦ e.0 ∙ ap keyword_word e.1 | inr h ↦ absurd (cc) ]
                                                    ]
                                              ]
                                        ]
                                  ]
                            ]
                      ]
                ]
          ]
    ]

pub named_option : (option : Named) → option_named (option_word option) ≡ Some option
named_option (named.Flag flag.If1) = refl
named_option (named.Flag flag.Stats) = refl
named_option (named.Flag flag.Opt) = refl
named_option (named.Flag flag.Trace) = refl
named_option (named.Flag flag.Dot) = refl
named_option (named.Flag flag.Why) = refl
named_option (named.Flag flag.Code) = refl
named_option (named.Setting setting.Entry) = refl
named_option (named.Setting setting.Workers) = refl
named_option (named.Setting setting.Limit) = refl
named_option (named.Setting setting.Order) = refl

option_is : (word : List ℕ) (option : Named) → option_named word ≡ Some option → word ≡ option_word option
option_is word option h =
    elim (chosen word (codes "--if1") (named.Flag flag.If1) _ option h) [
      | inl e ↦ e.0 ∙ ap option_word e.1
      | inr h ↦
          elim (chosen word (codes "--stats") (named.Flag flag.Stats) _ option h) [
            | inl e ↦ e.0 ∙ ap option_word e.1
            | inr h ↦
                elim (chosen word (codes "--opt") (named.Flag flag.Opt) _ option h) [
                  | inl e ↦ e.0 ∙ ap option_word e.1
                  | inr h ↦
                      elim (chosen word (codes "--trace") (named.Flag flag.Trace) _ option h) [
                        | inl e ↦ e.0 ∙ ap option_word e.1
                        | inr h ↦
                            elim (chosen word (codes "--dot") (named.Flag flag.Dot) _ option h) [
                              | inl e ↦ e.0 ∙ ap option_word e.1
                              | inr h ↦
                                  elim (chosen word (codes "--why") (named.Flag flag.Why) _ option h) [
                                    | inl e ↦ e.0 ∙ ap option_word e.1
                                    | inr h ↦
                                        elim (chosen word (codes "--code") (named.Flag flag.Code) _ option h) [
                                          | inl e ↦ e.0 ∙ ap option_word e.1
                                          | inr h ↦
                                              elim (chosen word (codes "--entry") (named.Setting setting.Entry) _ option h) [
                                                | inl e ↦ e.0 ∙ ap option_word e.1
                                                | inr h ↦
                                                    elim (chosen word (codes "--workers") (named.Setting setting.Workers) _ option h) [
                                                      | inl e ↦ e.0 ∙ ap option_word e.1
                                                      | inr h ↦
                                                          elim (chosen word (codes "--limit") (named.Setting setting.Limit) _ option h) [
                                                            | inl e ↦ e.0 ∙ ap option_word e.1
                                                            | inr h ↦
                                                                elim (chosen word (codes "--order") (named.Setting setting.Order) None option h) [ inl e ↦ e.0 ∙ ap option_word e.1 | inr h ↦ absurd (cc) ]
                                                          ]
                                                    ]
                                              ]
                                        ]
                                  ]
                            ]
                      ]
                ]
          ]
    ]

taken_is : (runner : Runner) (given : Options) (found : Option Named) (option : Named) → taken runner given found ≡ Some option → (found ≡ Some option) × (takes runner given option ≡ true)
taken_is runner given None option h = absurd (cc)
taken_is runner given (Some other) option h = taken_by (takes runner given other) refl h
  where
    taken_by : (b : Bool) → takes runner given other ≡ b → cond b (Some other) None ≡ Some option → (Some other ≡ Some option) × (takes runner given option ≡ true)
    taken_by true e h = (h, (ap (takes runner given) (sym (let same : other ≡ option = cc in same)) ∙ e))
    taken_by false e h = absurd (cc)

-- the option of a command that a word names
pub option_of_is : (runner : Runner) (given : Options) (word : List ℕ) (option : Named) → option_of runner given word ≡ Some option → (word ≡ option_word option) × (takes runner given option ≡ true)
option_of_is runner given word option h =
    let parts = taken_is runner given (option_named word) option h in
    (option_is word option parts.0, parts.1)

pub option_of_word : (runner : Runner) (given : Options) (option : Named) → takes runner given option ≡ true → option_of runner given (option_word option) ≡ Some option
option_of_word runner given option has = ap (taken runner given) (named_option option) ∙ ap (λ b. cond b (Some option) None) has

-- a word that names none
pub no_option : (runner : Runner) (given : Options) (word : List ℕ) → option_of runner given word ≡ None → (option : Named) → takes runner given option ≡ true → word ≢ option_word option
no_option runner given word none option has is = let found : option_of runner given word ≡ Some option = ap (option_of runner given) is ∙ option_of_word runner given option has in cc

pub no_keyword : (word : List ℕ) → keyword_named word ≡ None → (first : Keyword) → word ≢ keyword_word first
no_keyword word none first is = let found : keyword_named word ≡ Some first = ap keyword_named is ∙ named_keyword first in cc
