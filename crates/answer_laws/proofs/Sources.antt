-- What `mean` answers to bytes is one.
use Rattle.std.proofs.Common.{◌≡◌, ◌≢◌, ◌<◌, ◌∙◌, ℕ, List, Result, Ok, Err, length, sym, ap, subst}
use Rattle.flow_value.specs.declared.value.Val.{Val}
use Rattle.mean_call.specs.Calls.{Gives as HasValues, IsRefused as HasNoValues}
use Rattle.mean_call.specs.declared.fault.Refusal.{Refusal}
use Rattle.mean_call.specs.declared.fault.Refusal.TheVariants as refusal
use Rattle.run_words.specs.declared.command.MeanSet.{MeanSet}
use Rattle.sisal_tree.specs.declared.unit.Unit as tree
use Rattle.typed_tree.specs.declared.program.Program.{Program}
use Rattle.typed_tree.specs.Units.{IsTyped}
use Rattle.typing_unique.specs.UnitLaws.{AreSpelledOnce, NoProgramLaw}
use Rattle.one_meaning.specs.Laws.{AreAnswersMoved, IsProgramOnce}
use Rattle.sisal_top.specs.Outputs.{lines, HasProgram, HasTypeFault, PrintsMeaning, HasNoMeaning}
use Rattle.sisal_top.specs.Program.{most_bytes, IsUnitOf, IsRefused}
use Rattle.sisal_top.specs.Status.{of_refusal}
use Rattle.sisal_top.specs.declared.status.Status.{Status}
use Rattle.sisal_top.specs.declared.status.Status.TheVariants as status
use Rattle.sisal_top.specs.declared.status.SyntaxFault.{SyntaxFault}
use Rattle.sisal_check.proofs.Lexed.{tokens_once}
use Rattle.answer_laws.specs.Alike.{same, rules, AreOne}
use Rattle.answer_laws.proofs.Syntaxes.{alike_if, refused_one, long_refused, long_unit}

-- a reply of `mean`
pub data MeanReply (set : MeanSet) (bytes : List ℕ) : Result (List ℕ) Status → Type 0 where
  long : most_bytes < length bytes → MeanReply set bytes (Err status.TooLong)
  bad : (f : SyntaxFault) → IsRefused bytes f → MeanReply set bytes (Err (status.Syntax f))
  broken : (rule line : ℕ) → HasTypeFault bytes rule line → MeanReply set bytes (Err (status.Typing rule line))
  printed : (out : List ℕ) → PrintsMeaning set bytes out → MeanReply set bytes (Ok out)
  stopped : (r : Refusal) (s : Status) → r ≢ refusal.NoMemory → HasNoMeaning set bytes r → of_refusal r ≡ s → MeanReply set bytes (Err s)

module _ (one : (bytes : List ℕ) (u v : tree.Unit) → IsUnitOf bytes u → IsUnitOf bytes v → u ≡ v)
    (refused : (bytes : List ℕ) (u : tree.Unit) (f : SyntaxFault) → IsUnitOf bytes u → IsRefused bytes f → ⊥)
    (no_program : NoProgramLaw) (moved : AreAnswersMoved) (once : IsProgramOnce) (set : MeanSet) (bytes : List ℕ) where
  spelled : (u : tree.Unit) → IsUnitOf bytes u → AreSpelledOnce u.tokens.names
  spelled u is = tokens_once bytes u.tokens is.lexed

  broken_program : (rule line : ℕ) (p : Program) → HasTypeFault bytes rule line → HasProgram bytes p → ⊥
  broken_program rule line p b h =
      no_program b.unit rule line p (spelled b.unit b.is) b.breaks (subst (λ u. IsTyped u p) (one bytes h.unit b.unit h.is b.is) h.typed)

  values_moved : (p q : Program) → HasProgram bytes p → HasProgram bytes q → (vs : List Val) → HasValues p set vs → HasValues q set vs
  values_moved p q a b vs g =
      moved.values b.unit p q (spelled b.unit b.is) (subst (λ u. IsTyped u p) (one bytes a.unit b.unit a.is b.is) a.typed) b.typed set vs g

  refusal_moved : (p q : Program) → HasProgram bytes p → HasProgram bytes q → (r : Refusal) → HasNoValues p set r → HasNoValues q set r
  refusal_moved p q a b r g =
      moved.refusals b.unit p q (spelled b.unit b.is) (subst (λ u. IsTyped u p) (one bytes a.unit b.unit a.is b.is) a.typed) b.typed set r g

  printed_one : (s t : List ℕ) → PrintsMeaning set bytes s → PrintsMeaning set bytes t → s ≡ t
  printed_one s t a b =
      a.is ∙ ap lines (once.values b.program set a.values b.values (values_moved a.program b.program a.typed b.typed a.values a.given) b.given) ∙ sym b.is

  printed_stopped : (s : List ℕ) (r : Refusal) → r ≢ refusal.NoMemory → PrintsMeaning set bytes s → HasNoMeaning set bytes r → ⊥
  printed_stopped s r n a b = n (once.either b.program set a.values r (values_moved a.program b.program a.typed b.typed a.values a.given) b.refused)

  stopped_one : (r q : Refusal) → r ≢ refusal.NoMemory → q ≢ refusal.NoMemory → HasNoMeaning set bytes r → HasNoMeaning set bytes q → r ≡ q
  stopped_one r q n m a b = once.refusals b.program set r q n m (refusal_moved a.program b.program a.typed b.typed r a.refused) b.refused

  pub mean_one : (r s : Result (List ℕ) Status) → MeanReply set bytes r → MeanReply set bytes s → AreOne r s
  mean_one _ _ (long h) (long k) = same
  mean_one _ _ (long h) (bad f p) = absurd (long_refused bytes f h p)
  mean_one _ _ (long h) (broken rule line b) = absurd (long_unit bytes b.unit h b.is)
  mean_one _ _ (long h) (printed out p) = absurd (long_unit bytes p.typed.unit h p.typed.is)
  mean_one _ _ (long h) (stopped r s n p e) = absurd (long_unit bytes p.typed.unit h p.typed.is)
  mean_one _ _ (bad f p) (long h) = absurd (long_refused bytes f h p)
  mean_one _ _ (bad f p) (bad g q) = refused_one bytes f g p q
  mean_one _ _ (bad f p) (broken rule line b) = absurd (refused bytes b.unit f b.is p)
  mean_one _ _ (bad f p) (printed out q) = absurd (refused bytes q.typed.unit f q.typed.is p)
  mean_one _ _ (bad f p) (stopped r s n q e) = absurd (refused bytes q.typed.unit f q.typed.is p)
  mean_one _ _ (broken rule line b) (long h) = absurd (long_unit bytes b.unit h b.is)
  mean_one _ _ (broken rule line b) (bad f p) = absurd (refused bytes b.unit f b.is p)
  mean_one _ _ (broken rule line b) (broken other place c) = rules
  mean_one _ _ (broken rule line b) (printed out q) = absurd (broken_program rule line q.program b q.typed)
  mean_one _ _ (broken rule line b) (stopped r s n q e) = absurd (broken_program rule line q.program b q.typed)
  mean_one _ _ (printed out p) (long h) = absurd (long_unit bytes p.typed.unit h p.typed.is)
  mean_one _ _ (printed out p) (bad f q) = absurd (refused bytes p.typed.unit f p.typed.is q)
  mean_one _ _ (printed out p) (broken rule line b) = absurd (broken_program rule line p.program b p.typed)
  mean_one _ _ (printed out p) (printed other q) = printed_one out other p q
  mean_one _ _ (printed out p) (stopped r s n q e) = absurd (printed_stopped out r n p q)
  mean_one _ _ (stopped r s n p e) (long h) = absurd (long_unit bytes p.typed.unit h p.typed.is)
  mean_one _ _ (stopped r s n p e) (bad f q) = absurd (refused bytes p.typed.unit f p.typed.is q)
  mean_one _ _ (stopped r s n p e) (broken rule line b) = absurd (broken_program rule line p.program b p.typed)
  mean_one _ _ (stopped r s n p e) (printed out q) = absurd (printed_stopped out r n q p)
  mean_one _ _ (stopped r s n p e) (stopped q t m o d) = alike_if s t (sym e ∙ ap of_refusal (stopped_one r q n m p o) ∙ d)
