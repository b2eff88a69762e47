-- A unit has one answer to the words of `run`.
use Rattle.std.proofs.Common.{◌≡◌, ◌≢◌, ◌∙◌, ℕ, List, Some, None, refl, sym, ap, subst}
use Rattle.std.proofs.lemmas.Option.{same_Some}
use Rattle.flow_value.specs.declared.ty.Ty.{Ty}
use Rattle.flow_value.specs.declared.value.Val.{Val}
use Rattle.run_words.specs.declared.command.RunSet.{RunSet}
use Rattle.if1_graph.specs.declared.graph.Unit1.{Unit1}
use Rattle.if1_valid.specs.Params.{params_of}
use Rattle.unit_entry.specs.Entries.{first_lacking}
use Rattle.mean_call.specs.Words.{AreRead, AreRefused}
use Rattle.mean_call.specs.declared.fault.ArgumentFault.{ArgumentFault}
use Rattle.mean_call.specs.declared.fault.ArgumentFault.TheVariants as argument
use Rattle.mean_call.specs.declared.fault.Refusal.{Refusal}
use Rattle.mean_call.specs.declared.fault.Refusal.TheVariants as refusal
use Rattle.sisal_top.specs.Totals.{Totals}
use Rattle.sisal_top.specs.Calls.{IsEntry, IsCall, Gives, IsRefused, HasNoEntry, HasWrongWords, PassesLimit}
use Rattle.sisal_top.specs.Laws.{IsOneRun, IsNoneBeyond}
use Rattle.one_meaning.specs.Laws.{AreWordsOnce}
use Rattle.answer_laws.specs.Laws.{IsRunOnce}

module _ (words : AreWordsOnce) (beyond : IsNoneBeyond) (u : Unit1) (set : RunSet) where
  linked_either : (name : List ℕ) → first_lacking u ≡ None → first_lacking u ≡ Some name → ⊥
  linked_either name a b = let e : None ≡ Some name = sym a ∙ b in cc

  same_name : (n m : List ℕ) → Some n ≡ Some m → n ≡ m
  same_name n m e = cc

  types_same : (f g : ℕ) (ts us : List Ty) → IsEntry u set.entry f ts → IsEntry u set.entry g us → ts ≡ us
  types_same f g ts us a b =
      let same : f ≡ g = same_Some f g (sym a.called ∙ b.called) in
      same_Some ts us (sym a.arguments ∙ (ap (params_of u) same ∙ b.arguments))

  no_entry : (f : ℕ) (ts : List Ty) → IsEntry u set.entry f ts → HasNoEntry u set → ⊥
  no_entry f ts a b = let e : None ≡ Some f = sym b.none ∙ a.called in cc

  call_wrong : (f : ℕ) (vs : List Val) (fault : ArgumentFault) → IsCall u set f vs → HasWrongWords u set fault → ⊥
  call_wrong f vs fault a w =
      words.either set.values w.types vs fault (subst (λ l. AreRead set.values l vs) (types_same f w.function a.types w.types a.entry w.entry) a.read) w.refused

  pub either : (t : Totals) (r : Refusal) → Gives u set t → IsRefused u set r → r ≡ refusal.NoMemory
  either t (refusal.Unlinked name) a w = absurd (linked_either name a.call.linked w)
  either t (refusal.Argument argument.Entry) a w = absurd (no_entry a.function a.call.types a.call.entry w)
  either t (refusal.Argument (argument.Count wanted given)) a w = absurd (call_wrong a.function a.args (argument.Count wanted given) a.call w)
  either t (refusal.Argument (argument.Value k fault)) a w = absurd (call_wrong a.function a.args (argument.Value k fault) a.call w)
  either t refusal.TurnLimit a w = absurd (beyond u set t a w)
  either t refusal.NoMemory a w = refl

  wrong_same : (f g : ArgumentFault) → HasWrongWords u set f → HasWrongWords u set g → f ≡ g
  wrong_same f g a b =
      words.one set.values b.types f g
      (subst (λ l. AreRefused set.values l (refusal.Argument f)) (types_same a.function b.function a.types b.types a.entry b.entry) a.refused) b.refused

  wrong_passes : (f : ArgumentFault) → HasWrongWords u set f → PassesLimit u set → ⊥
  wrong_passes f a b = call_wrong b.function b.args f b.call a

  pub refusals_of : (r : Refusal) → r ≢ refusal.NoMemory → IsRefused u set r → (s : Refusal) → s ≢ refusal.NoMemory → IsRefused u set s → r ≡ s
  refusals_of refusal.NoMemory n a s m b = absurd (n refl)
  refusals_of r n a refusal.NoMemory m b = absurd (m refl)
  refusals_of (refusal.Unlinked name) n a (refusal.Unlinked other) m b = ap refusal.Unlinked (same_name name other (sym a ∙ b))
  refusals_of (refusal.Unlinked name) n a (refusal.Argument argument.Entry) m b = absurd (linked_either name b.linked a)
  refusals_of (refusal.Unlinked name) n a (refusal.Argument (argument.Count w g)) m b = absurd (linked_either name b.linked a)
  refusals_of (refusal.Unlinked name) n a (refusal.Argument (argument.Value k f)) m b = absurd (linked_either name b.linked a)
  refusals_of (refusal.Unlinked name) n a refusal.TurnLimit m b = absurd (linked_either name b.call.linked a)
  refusals_of (refusal.Argument argument.Entry) n a (refusal.Unlinked other) m b = absurd (linked_either other a.linked b)
  refusals_of (refusal.Argument argument.Entry) n a (refusal.Argument argument.Entry) m b = refl
  refusals_of (refusal.Argument argument.Entry) n a (refusal.Argument (argument.Count w g)) m b = absurd (no_entry b.function b.types b.entry a)
  refusals_of (refusal.Argument argument.Entry) n a (refusal.Argument (argument.Value k f)) m b = absurd (no_entry b.function b.types b.entry a)
  refusals_of (refusal.Argument argument.Entry) n a refusal.TurnLimit m b = absurd (no_entry b.function b.call.types b.call.entry a)
  refusals_of (refusal.Argument (argument.Count w g)) n a (refusal.Unlinked other) m b = absurd (linked_either other a.linked b)
  refusals_of (refusal.Argument (argument.Count w g)) n a (refusal.Argument argument.Entry) m b = absurd (no_entry a.function a.types a.entry b)
  refusals_of (refusal.Argument (argument.Count w g)) n a (refusal.Argument (argument.Count v h)) m b = ap refusal.Argument (wrong_same (argument.Count w g) (argument.Count v h) a b)
  refusals_of (refusal.Argument (argument.Count w g)) n a (refusal.Argument (argument.Value k f)) m b = ap refusal.Argument (wrong_same (argument.Count w g) (argument.Value k f) a b)
  refusals_of (refusal.Argument (argument.Count w g)) n a refusal.TurnLimit m b = absurd (wrong_passes (argument.Count w g) a b)
  refusals_of (refusal.Argument (argument.Value j h)) n a (refusal.Unlinked other) m b = absurd (linked_either other a.linked b)
  refusals_of (refusal.Argument (argument.Value j h)) n a (refusal.Argument argument.Entry) m b = absurd (no_entry a.function a.types a.entry b)
  refusals_of (refusal.Argument (argument.Value j h)) n a (refusal.Argument (argument.Count v g)) m b = ap refusal.Argument (wrong_same (argument.Value j h) (argument.Count v g) a b)
  refusals_of (refusal.Argument (argument.Value j h)) n a (refusal.Argument (argument.Value k f)) m b = ap refusal.Argument (wrong_same (argument.Value j h) (argument.Value k f) a b)
  refusals_of (refusal.Argument (argument.Value j h)) n a refusal.TurnLimit m b = absurd (wrong_passes (argument.Value j h) a b)
  refusals_of refusal.TurnLimit n a (refusal.Unlinked other) m b = absurd (linked_either other a.call.linked b)
  refusals_of refusal.TurnLimit n a (refusal.Argument argument.Entry) m b = absurd (no_entry a.function a.call.types a.call.entry b)
  refusals_of refusal.TurnLimit n a (refusal.Argument (argument.Count w g)) m b = absurd (wrong_passes (argument.Count w g) b a)
  refusals_of refusal.TurnLimit n a (refusal.Argument (argument.Value k f)) m b = absurd (wrong_passes (argument.Value k f) b a)
  refusals_of refusal.TurnLimit n a refusal.TurnLimit m b = refl

pub run_once : AreWordsOnce → IsNoneBeyond → IsOneRun → IsRunOnce
run_once words beyond one = record {
  totals = one;
  either = λ u set t r. either words beyond u set t r;
  refusals = λ u set r s n m a b. refusals_of words beyond u set r n a s m b;
}
