-- What the source gives within the limits is printed.
use Rattle.std.proofs.Common.{◌≡◌, ◌≢◌, ◌≤◌, ◌*◌, ◌∙◌, ℕ, Bool, true, false, List, ◌++◌, Option, Some, None, Ok, Err, sym, ap, subst, arith, inl, inr}
use Rattle.flow_io.specs.Bytes.{AddsOn}
use Rattle.flow_value.specs.declared.value.Val.{Val}
use Rattle.if1_graph.specs.declared.graph.Unit1.{Unit1}
use Rattle.marks_made.specs.Units.{marks_of}
use Rattle.sisal_tree.specs.declared.unit.Unit as tree
use Rattle.typed_tree.specs.declared.program.Program.{Program}
use Rattle.typed_tree.specs.Units.{IsTyped}
use Rattle.typing_unique.specs.UnitLaws.{NoProgramLaw}
use Rattle.fitting_texts.proofs.Names.{names_once}
use Rattle.lowering.specs.TooMany.{too_many}
use Rattle.meaning_laws.specs.Laws.{IsCallOne}
use Rattle.mean_call.specs.Calls.{Gives as HasValues}
use Rattle.mean_call.specs.declared.fault.Refusal.{Refusal}
use Rattle.mean_call.specs.declared.fault.Refusal.TheVariants as refusal
use Rattle.one_meaning.specs.Laws.{AreAnswersMoved, AreWordsOnce}
use Rattle.run_words.specs.Words.{IsCommand, HasFault}
use Rattle.run_words.specs.declared.command.Command.{Command}
use Rattle.run_words.specs.declared.command.Command.TheVariants as command
use Rattle.run_words.specs.declared.command.RunSet.{RunSet}
use Rattle.run_words.specs.declared.fault.WordFault.{WordFault}
use Rattle.run_meaning.specs.Calls.{Gives as GivesRun, IsRefused as HasNoTotals}
use Rattle.run_meaning.specs.Laws.{meant, IsRunAs}
use Rattle.run_meaning.proofs.Within.{sources-run}
use Rattle.sisal_top.specs.Answer.{Replies, Answers}
use Rattle.sisal_top.specs.Outputs.{lines, totals_if, HasProgram, HasTypeFault, HasNoGraphs, HasNoRun, HasGraphs, PrintsRun}
use Rattle.sisal_top.specs.Program.{IsUnitOf, IsRefused}
use Rattle.sisal_top.specs.Status.{argument_fault, word_fault}
use Rattle.sisal_top.specs.declared.status.CallFault.{CallFault}
use Rattle.sisal_top.specs.declared.status.Status.{Status}
use Rattle.sisal_top.specs.declared.status.Status.TheVariants as status
use Rattle.sisal_top.specs.declared.status.SyntaxFault.{SyntaxFault}
use Rattle.answer_laws.proofs.Syntaxes.{long_unit}
use Rattle.answer_laws.specs.Sources.{IsRunOf, IsWithin, IsAnswered, done, no_memory, read_fault, write_fault, AreSourcesPrinted}
use Rattle.answer_laws.proofs.Moved.{moved-within}
use Rattle.answer_laws.proofs.Printed.{graphs-of, unit-of, as-run}

some-none : (o : Option ℕ) (n : ℕ) → o ≡ None → o ≡ Some n → ⊥
some-none o n a b = let e : None ≡ Some n = sym a ∙ b in cc

no-argument : (f : CallFault) → refusal.Argument (argument_fault f) ≢ refusal.NoMemory
no-argument f e = cc

module _ (calls : IsCallOne) (moved : AreAnswersMoved) (words_once : AreWordsOnce) (commands : (words : List (List ℕ)) (a b : Command) → IsCommand words a → IsCommand words b → a ≡ b)
    (not_both : (words : List (List ℕ)) (c : Command) (f : WordFault) → IsCommand words c → HasFault words f → ⊥)
    (units : (bytes : List ℕ) (u v : tree.Unit) → IsUnitOf bytes u → IsUnitOf bytes v → u ≡ v)
    (unit-refused : (bytes : List ℕ) (u : tree.Unit) (f : SyntaxFault) → IsUnitOf bytes u → IsRefused bytes f → ⊥)
    (no_program : NoProgramLaw) where
  module _ (set : RunSet) (bytes : List ℕ) (p : Program) (h : HasProgram bytes p) (values : List Val) (limit : ℕ) (g : HasValues p (meant set limit) values) (le : 8 * g.steps ≤ set.limit) where
    -- the unit of any program of the bytes runs as the source says
    runs-as : (w : Unit1) (x : HasGraphs bytes w) → (steps : ℕ) × (steps ≤ g.steps) × IsRunAs (marks_of x.unit) set values steps
    runs-as w x =
        let there = moved-within units moved bytes set p x.program h x.typed limit values g in
        let less : there.steps ≤ g.steps = there.within in
        (there.steps, less, sources-run calls words_once bytes x.typed.unit x.program x.unit set values g.steps (unit-of bytes w x) there (omega (arith, le, less)))

    no-run : set.if1 ≡ false → (r : Refusal) → r ≢ refusal.NoMemory → HasNoRun set bytes r → ⊥
    no-run e r n x =
        let y = graphs-of set.if1 bytes x.unit e x.runs in
        n ((runs-as x.unit y).2.not_refused r (subst (λ w. HasNoTotals w set r) y.is x.refused))

    printed-is : set.if1 ≡ false → (printed : List ℕ) (before after : Option (List ℕ)) → PrintsRun set bytes printed → AddsOn before printed after → IsAnswered set values g.steps before after status.Done
    printed-is e printed before after x a =
        let y = graphs-of set.if1 bytes x.unit e x.runs in
        let r = runs-as x.unit y in
        let v = r.2.values_are x.totals (subst (λ w. GivesRun w set x.totals) y.is x.given) in
        let less : r.0 ≤ g.steps = r.1 in
        let few = v.1 in
        done x.totals (omega (arith, few, less)) (subst (λ bs. AddsOn before bs after) (x.is ∙ ap (λ vs. lines vs ++ totals_if set.stats x.totals) v.0) a)

    no-break : (rule line : ℕ) → HasTypeFault bytes rule line → ⊥
    no-break rule line b =
        no_program b.unit rule line p (names_once bytes b.unit.tokens b.is.lexed) b.breaks (subst (λ u. IsTyped u p) (units bytes h.unit b.unit h.is b.is) h.typed)

    not-untyped : IsWithin bytes → (rule line : ℕ) → HasNoGraphs bytes rule line → ⊥
    not-untyped within rule line (inl b) = no-break rule line b
    not-untyped within rule line (inr b) = some-none (too_many b.1.program) line (within b.1.program b.1.typed) b.1.over

    module _ (words : List (List ℕ)) (is : IsRunOf words set) (within : IsWithin bytes) (before after : Option (List ℕ)) where
      run : (P : Command → Type 0) → (c : Command) → IsCommand words c → P c → P (command.Run set)
      run P c at x = as-run commands words set is.command P c at x

      answered : (s : Status) → Answers words bytes s before after → IsAnswered set values g.steps before after s
      answered status.Done a =
          let x = run (λ c. Replies c bytes (Ok a.0)) a.1.0 a.1.1 a.1.2 in
          printed-is is.sisal a.0 before after x.1 a.2
      answered (status.Usage f) a = absurd (not_both words (command.Run set) (word_fault f) is.command a.0)
      answered status.ReadFault a = read_fault a.1
      answered status.WriteFault a = write_fault
      answered status.NoMemory a = no_memory a.1
      answered (status.Syntax f) a =
          let x = run (λ c. Replies c bytes (Err (status.Syntax f))) a.0.0 a.0.1 a.0.2 in
          absurd (unit-refused bytes h.unit f h.is x.1)
      answered (status.Typing rule line) a =
          let x = run (λ c. Replies c bytes (Err (status.Typing rule line))) a.0.0 a.0.1 a.0.2 in
          absurd (not-untyped within rule line x.1)
      answered (status.If1 f) a =
          let x = run (λ c. Replies c bytes (Err (status.If1 f))) a.0.0 a.0.1 a.0.2 in
          absurd (sisal-only set.if1 is.sisal x.0.1)
        where
          sisal-only : (b : Bool) → b ≡ false → b ≡ true → ⊥
          sisal-only b e k = let x : false ≡ true = sym e ∙ k in cc
      answered (status.Argument f) a =
          let x = run (λ c. Replies c bytes (Err (status.Argument f))) a.0.0 a.0.1 a.0.2 in
          absurd (no-run is.sisal (refusal.Argument (argument_fault f)) (no-argument f) x.1)
      answered status.TurnLimit a =
          let x = run (λ c. Replies c bytes (Err status.TurnLimit)) a.0.0 a.0.1 a.0.2 in
          absurd (no-run is.sisal refusal.TurnLimit differ x.1)
        where
          differ : refusal.TurnLimit ≢ refusal.NoMemory
          differ e = cc
      answered status.TooLong a =
          let x = run (λ c. Replies c bytes (Err status.TooLong)) a.0.0 a.0.1 a.0.2 in
          absurd (long_unit bytes h.unit x.1 h.is)
      answered status.Later a =
          let x = run (λ c. Replies c bytes (Err status.Later)) a.0.0 a.0.1 a.0.2 in
          absurd (x is.plain)
      answered (status.Unlinked name) a =
          let x = run (λ c. Replies c bytes (Err (status.Unlinked name))) a.0.0 a.0.1 a.0.2 in
          absurd (no-run is.sisal (refusal.Unlinked name) differ x.1)
        where
          differ : refusal.Unlinked name ≢ refusal.NoMemory
          differ e = cc

  pub sources-printed : AreSourcesPrinted
  sources-printed words set bytes p values limit s before after is h within g le a = answered set bytes p h values limit g le words is within before after s a
