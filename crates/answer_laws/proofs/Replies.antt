-- Words and bytes have one answer.
use Rattle.std.proofs.Common.{◌≡◌, ◌∙◌, ℕ, Bool, true, false, List, Result, Ok, Err, refl, sym, ap, subst, ◌⊎◌, inl, inr}
use Rattle.run_words.specs.Words.{IsCommand, HasFault}
use Rattle.run_words.specs.declared.command.Command.{Command}
use Rattle.run_words.specs.declared.command.Command.TheVariants as command
use Rattle.run_words.specs.declared.command.CompileSet.{CompileSet}
use Rattle.run_words.specs.declared.command.RunSet.{RunSet}
use Rattle.run_words.specs.declared.fault.WordFault.{WordFault}
use Rattle.if1_marks.specs.Laws.{IsUnmarkedSound}
use Rattle.if1_read.specs.Laws.{AcceptedHasNoFault}
use Rattle.if1_unique.specs.Laws.{IsOneUnit}
use Rattle.sisal_grammar.specs.declared.value.Outline.{Outline}
use Rattle.sisal_grammar.specs.declared.value.Placed.{Placed}
use Rattle.sisal_grammar.specs.Phrases.{unit}
use Rattle.sisal_grammar.specs.Spells.{Spells}
use Rattle.typing_unique.specs.UnitLaws.{NoProgramLaw}
use Rattle.one_lowering.specs.Laws.{IsOneLowering}
use Rattle.one_meaning.specs.Laws.{AreAnswersMoved, IsProgramOnce}
use Rattle.sisal_top.specs.Answer.{Gives, Replies}
use Rattle.sisal_top.specs.Program.{IsBuilt, IsPlain}
use Rattle.sisal_top.specs.Status.{of_words, word_fault}
use Rattle.sisal_top.specs.declared.status.Status.{Status}
use Rattle.sisal_top.specs.declared.status.Status.TheVariants as status
use Rattle.sisal_top.specs.declared.status.UsageFault.{UsageFault}
use Rattle.sisal_top.specs.declared.status.UsageFault.TheVariants as usage
use Rattle.answer_laws.specs.Alike.{same, AreOne, Tells, IsLoose, AskLoosely}
use Rattle.answer_laws.specs.Laws.{AreGraphsOnce, IsRunOnce, OneAnswerLaw}
use Rattle.answer_laws.proofs.Syntaxes.{alike_if, unit_one, unit_refused}
use Rattle.answer_laws.proofs.Sources.{mean_one}
use Rattle.answer_laws.proofs.Runners.{if1_one, run_one}
use Rattle.answer_laws.proofs.Texts.{text_run_one, compile_one}
use Rattle.answer_laws.proofs.Quiet.{gen_ok, help_ok, version_ok, link_later, verify_later, again_later, compile_later, mean_reply, if1_reply, run_reply, run_later, text_run_reply, compile_reply}

both_ok : (r s : Result (List ℕ) Status) (a b : List ℕ) → r ≡ Ok a → s ≡ Ok b → a ≡ b → AreOne r s
both_ok r s a b e f g = subst (λ x. AreOne x s) (sym e) (subst (λ x. AreOne (Ok a) x) (sym f) g)

both_later : (r s : Result (List ℕ) Status) → r ≡ Err status.Later → s ≡ Err status.Later → AreOne r s
both_later r s e f = subst (λ x. AreOne x s) (sym e) (subst (λ x. AreOne (Err status.Later) x) (sym f) same)

is_false : (b : Bool) → (b ≡ true → ⊥) → b ≡ false
is_false false n = refl
is_false true n = absurd (n refl)

-- a reply of `run` tells whether it is plain
plain_or_not : (set : RunSet) (bytes : List ℕ) (r : Result (List ℕ) Status) → Replies (command.Run set) bytes r → Tells r → IsPlain set ⊎ (¬ IsPlain set)
plain_or_not set bytes (Ok out) p t = inl p.0
plain_or_not set bytes (Err status.Done) p t = absurd p
plain_or_not set bytes (Err (status.Usage f)) p t = absurd p
plain_or_not set bytes (Err status.ReadFault) p t = absurd t
plain_or_not set bytes (Err status.WriteFault) p t = absurd p
plain_or_not set bytes (Err status.NoMemory) p t = absurd t
plain_or_not set bytes (Err (status.Syntax f)) p t = inl p.0.0
plain_or_not set bytes (Err (status.Typing rule line)) p t = inl p.0.0
plain_or_not set bytes (Err (status.If1 f)) p t = inl p.0.0
plain_or_not set bytes (Err (status.Argument f)) p t = inl p.0
plain_or_not set bytes (Err status.TurnLimit) p t = inl p.0
plain_or_not set bytes (Err status.TooLong) p t = inl p.0
plain_or_not set bytes (Err status.Later) p t = inr p
plain_or_not set bytes (Err (status.Unlinked name)) p t = inl p.0

-- a reply of `compile` tells whether it is built
built_or_not : (set : CompileSet) (bytes : List ℕ) (r : Result (List ℕ) Status) → Replies (command.Compile set) bytes r → Tells r → IsBuilt set ⊎ (¬ IsBuilt set)
built_or_not set bytes (Ok out) p t = inl p.0
built_or_not set bytes (Err status.Done) p t = absurd p
built_or_not set bytes (Err (status.Usage f)) p t = absurd p
built_or_not set bytes (Err status.ReadFault) p t = absurd t
built_or_not set bytes (Err status.WriteFault) p t = absurd p
built_or_not set bytes (Err status.NoMemory) p t = absurd t
built_or_not set bytes (Err (status.Syntax f)) p t = inl p.0
built_or_not set bytes (Err (status.Typing rule line)) p t = inl p.0
built_or_not set bytes (Err (status.If1 f)) p t = absurd p
built_or_not set bytes (Err (status.Argument f)) p t = absurd p
built_or_not set bytes (Err status.TurnLimit) p t = absurd p
built_or_not set bytes (Err status.TooLong) p t = inl p.0
built_or_not set bytes (Err status.Later) p t = inr p
built_or_not set bytes (Err (status.Unlinked name)) p t = absurd p

-- ---- words

usage_back : (f : UsageFault) → of_words (word_fault f) ≡ status.Usage f
usage_back usage.Missing = refl
usage_back (usage.Unknown k) = refl
usage_back (usage.Repeated k) = refl
usage_back (usage.NotANumber k) = refl
usage_back (usage.OutOfRange k) = refl

-- what words give: their fault, or the reply of a command
data WordsReply (words : List (List ℕ)) (bytes : List ℕ) : Result (List ℕ) Status → Type 0 where
  wrong : (f : UsageFault) → HasFault words (word_fault f) → WordsReply words bytes (Err (status.Usage f))
  asked : (c : Command) (r : Result (List ℕ) Status) → IsCommand words c → Replies c bytes r → WordsReply words bytes r

words_reply : (words : List (List ℕ)) (bytes : List ℕ) (r : Result (List ℕ) Status) → Gives words bytes r → Tells r → WordsReply words bytes r
words_reply words bytes (Ok out) p t = asked p.0 (Ok out) p.1 p.2
words_reply words bytes (Err status.Done) p t = asked p.0 (Err status.Done) p.1 p.2
words_reply words bytes (Err (status.Usage f)) p t = wrong f p
words_reply words bytes (Err status.ReadFault) p t = asked p.0 (Err status.ReadFault) p.1 p.2
words_reply words bytes (Err status.WriteFault) p t = asked p.0 (Err status.WriteFault) p.1 p.2
words_reply words bytes (Err status.NoMemory) p t = absurd t
words_reply words bytes (Err (status.Syntax f)) p t = asked p.0 (Err (status.Syntax f)) p.1 p.2
words_reply words bytes (Err (status.Typing rule line)) p t = asked p.0 (Err (status.Typing rule line)) p.1 p.2
words_reply words bytes (Err (status.If1 f)) p t = asked p.0 (Err (status.If1 f)) p.1 p.2
words_reply words bytes (Err (status.Argument f)) p t = asked p.0 (Err (status.Argument f)) p.1 p.2
words_reply words bytes (Err status.TurnLimit) p t = asked p.0 (Err status.TurnLimit) p.1 p.2
words_reply words bytes (Err status.TooLong) p t = asked p.0 (Err status.TooLong) p.1 p.2
words_reply words bytes (Err status.Later) p t = asked p.0 (Err status.Later) p.1 p.2
words_reply words bytes (Err (status.Unlinked name)) p t = asked p.0 (Err (status.Unlinked name)) p.1 p.2

module _ (grammar : (tokens : List Placed) (o p : Outline) → Spells unit tokens o → Spells unit tokens p → o ≡ p)
    (no_program : NoProgramLaw) (moved : AreAnswersMoved) (program : IsProgramOnce) (accepted : AcceptedHasNoFault) (one : IsOneUnit) (unmarked : IsUnmarkedSound) (runs : IsRunOnce) (lowered : IsOneLowering) (graphs : AreGraphsOnce) where
  plain_one : (set : RunSet) (bytes : List ℕ) (r s : Result (List ℕ) Status) → Replies (command.Run set) bytes r → Replies (command.Run set) bytes s → Tells r → Tells s → IsPlain set → AreOne r s
  plain_one set bytes r s p q t w plain = by set.if1 refl
    where
      by : (b : Bool) → set.if1 ≡ b → AreOne r s
      by true i = run_one accepted one bytes unmarked runs set r s (run_reply set bytes r i plain p t) (run_reply set bytes s i plain q w)
      by false i =
          text_run_one (unit_one grammar) (unit_refused grammar) no_program lowered graphs bytes runs set r s (text_run_reply set bytes r i plain p t) (text_run_reply set bytes s i plain q w)

  runs_one : (set : RunSet) (bytes : List ℕ) (r s : Result (List ℕ) Status) → Replies (command.Run set) bytes r → Replies (command.Run set) bytes s → Tells r → Tells s → IsPlain set ⊎ (¬ IsPlain set) → AreOne r s
  runs_one set bytes r s p q t w (inl plain) = plain_one set bytes r s p q t w plain
  runs_one set bytes r s p q t w (inr never) = both_later r s (run_later set bytes r never p t) (run_later set bytes s never q w)

  compiles_one : (set : CompileSet) (bytes : List ℕ) (r s : Result (List ℕ) Status) → ¬ IsLoose (command.Compile set) → Replies (command.Compile set) bytes r → Replies (command.Compile set) bytes s
      → Tells r → Tells s → IsBuilt set ⊎ (¬ IsBuilt set) → AreOne r s
  compiles_one set bytes r s n p q t w (inl built) =
      let d = is_false set.dot (λ e. n (built, inl e)) in
      let y = is_false set.why (λ e. n (built, inr (inl e))) in
      let k = is_false set.code (λ e. n (built, inr (inr e))) in
      compile_one (unit_one grammar) (unit_refused grammar) no_program lowered graphs bytes r s (compile_reply set bytes r d y k built p t) (compile_reply set bytes s d y k built q w)
  compiles_one set bytes r s n p q t w (inr never) = both_later r s (compile_later set bytes r never p t) (compile_later set bytes s never q w)

  replies_one : (c : Command) (bytes : List ℕ) (r s : Result (List ℕ) Status) → ¬ IsLoose c → Replies c bytes r → Replies c bytes s → Tells r → Tells s → AreOne r s
  replies_one (command.Run set) bytes r s n p q t w = runs_one set bytes r s p q t w (plain_or_not set bytes r p t)
  replies_one (command.Compile set) bytes r s n p q t w = compiles_one set bytes r s n p q t w (built_or_not set bytes r p t)
  replies_one command.Link bytes r s n p q t w = both_later r s (link_later bytes r p t) (link_later bytes s q w)
  replies_one (command.Verify set) bytes r s n p q t w = both_later r s (verify_later set bytes r p t) (verify_later set bytes s q w)
  replies_one (command.Again set) bytes r s n p q t w = both_later r s (again_later set bytes r p t) (again_later set bytes s q w)
  replies_one command.If1 bytes r s n p q t w = if1_one accepted one bytes r s (if1_reply bytes r p t) (if1_reply bytes s q w)
  replies_one (command.Mean set) bytes r s n p q t w =
      mean_one (unit_one grammar) (unit_refused grammar) no_program moved program set bytes r s (mean_reply set bytes r p t) (mean_reply set bytes s q w)
  replies_one (command.Gen k) bytes r s n p q t w =
      let x = gen_ok k bytes r p t in
      let y = gen_ok k bytes s q w in
      both_ok r s x.0 y.0 x.1 y.1 (x.2 ∙ sym y.2)
  replies_one command.Help bytes r s n p q t w =
      let x = help_ok bytes r p t in
      let y = help_ok bytes s q w in
      both_ok r s x.0 y.0 x.1 y.1 (x.2 ∙ sym y.2)
  replies_one command.Version bytes r s n p q t w =
      let x = version_ok bytes r p t in
      let y = version_ok bytes s q w in
      both_ok r s x.0 y.0 x.1 y.1 (x.2 ∙ sym y.2)

  module _ (one_command : (words : List (List ℕ)) (a b : Command) → IsCommand words a → IsCommand words b → a ≡ b)
      (one_fault : (words : List (List ℕ)) (a b : WordFault) → HasFault words a → HasFault words b → a ≡ b)
      (not_both : (words : List (List ℕ)) (c : Command) (f : WordFault) → IsCommand words c → HasFault words f → ⊥) where
    words_one : (words : List (List ℕ)) (bytes : List ℕ) (r s : Result (List ℕ) Status) → ¬ AskLoosely words → WordsReply words bytes r → WordsReply words bytes s → Tells r → Tells s → AreOne r s
    words_one words bytes _ _ n (wrong f p) (wrong g q) t w =
        alike_if (status.Usage f) (status.Usage g) (sym (usage_back f) ∙ ap of_words (one_fault words (word_fault f) (word_fault g) p q) ∙ usage_back g)
    words_one words bytes _ _ n (wrong f p) (asked c s is q) t w = absurd (not_both words c (word_fault f) is p)
    words_one words bytes _ _ n (asked c r is p) (wrong g q) t w = absurd (not_both words c (word_fault g) is q)
    words_one words bytes _ _ n (asked c r is p) (asked d s at q) t w =
        replies_one d bytes r s (λ m. n (d, at, m)) (subst (λ x. Replies x bytes r) (one_command words c d is at) p) q t w

    pub answers_one : OneAnswerLaw
    answers_one words bytes r s n p q t w = words_one words bytes r s n (words_reply words bytes r p t) (words_reply words bytes s q w) t w
