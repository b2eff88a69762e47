-- A program has one answer to words.
use Rattle.std.proofs.Common.{◌≡◌, ◌≢◌, ◌≤◌, ◌<◌, ◌∙◌, ℕ, List, Some, None, refl, sym, ap, subst, arith}
use Rattle.flow_value.specs.declared.ty.Ty.{Ty}
use Rattle.flow_value.specs.declared.value.Val.{Val}
use Rattle.run_words.specs.declared.command.MeanSet.{MeanSet}
use Rattle.typed_tree.specs.declared.program.Program.{Program}
use Rattle.meaning.specs.Plain.{plain_calls}
use Rattle.meaning_laws.specs.Laws.{IsCallOne}
use Rattle.mean_call.specs.Calls.{Gives, IsEntry, IsRefused, HasWrongWords, PassesLimit, unlinked}
use Rattle.mean_call.specs.Words.{AreRead, AreRefused}
use Rattle.mean_call.specs.declared.fault.ArgumentFault.{ArgumentFault}
use Rattle.mean_call.specs.declared.fault.ArgumentFault.TheVariants as argument
use Rattle.mean_call.specs.declared.fault.Refusal.{Refusal}
use Rattle.mean_call.specs.declared.fault.Refusal.TheVariants as refusal
use Rattle.mean_call.proofs.One.{one_entry, one_reading}
use Rattle.one_meaning.specs.Laws.{AreWordsOnce, IsProgramOnce}

linked_either : (p : Program) (name : List ℕ) → unlinked p ≡ None → unlinked p ≡ Some name → ⊥
linked_either p name a b = let e : None ≡ Some name = sym a ∙ b in cc

same_name : (n m : List ℕ) → Some n ≡ Some m → n ≡ m
same_name n m e = cc

same_given : (r s : List Val × ℕ) → r ≡ s → (r.0 ≡ s.0) × (r.1 ≡ s.1)
same_given r s e = (ap (λ (x : List Val × ℕ). x.0) e, ap (λ (x : List Val × ℕ). x.1) e)

module _ (calls : IsCallOne) (words : AreWordsOnce) (p : Program) (set : MeanSet) where
  types_same : (f g : ℕ) (ts us : List Ty) → IsEntry p set.entry f ts → IsEntry p set.entry g us → ts ≡ us
  types_same f g ts us a b = (one_entry p set.entry f g ts us a b).1

  -- an entry and its arguments are one
  record IsSameCall (f g : ℕ) (vs ws : List Val) : Type 0 where
    function : f ≡ g
    args : vs ≡ ws

  same_call : (f g : ℕ) (ts us : List Ty) (vs ws : List Val) → IsEntry p set.entry f ts → IsEntry p set.entry g us → AreRead set.values ts vs → AreRead set.values us ws → IsSameCall f g vs ws
  same_call f g ts us vs ws a b r s =
      let e = one_entry p set.entry f g ts us a b in
      record { function = e.0; args = one_reading set.values us vs ws (subst (λ l. AreRead set.values l vs) e.1 r) s }

  given_same : (n m f g : ℕ) (xs ys vs ws : List Val) (k l : ℕ) → IsSameCall f g xs ys → plain_calls n p.functions f xs ≡ Some (vs, k) → plain_calls m p.functions g ys ≡ Some (ws, l) → (vs ≡ ws) × (k ≡ l)
  given_same n m f g xs ys vs ws k l c x y =
      let moved : plain_calls n p.functions g ys ≡ Some (vs, k) = sym (ap (λ h. plain_calls n p.functions h xs) c.function ∙ ap (λ a. plain_calls n p.functions g a) c.args) ∙ x in
      same_given (vs, k) (ws, l) (calls p.functions g ys n m (vs, k) (ws, l) moved y)

  pub values_same : (vs ws : List Val) → Gives p set vs → Gives p set ws → vs ≡ ws
  values_same vs ws a b =
      (given_same a.depth b.depth a.function b.function a.args b.args vs ws a.steps b.steps (same_call a.function b.function a.types b.types a.args b.args a.entry b.entry a.read b.read) a.given b.given).0

  -- no wrong words are read
  read_wrong : (f g : ℕ) (ts us : List Ty) (vs : List Val) (fault : ArgumentFault) → IsEntry p set.entry f ts → IsEntry p set.entry g us → AreRead set.values ts vs → AreRefused set.values us (refusal.Argument fault) → ⊥
  read_wrong f g ts us vs fault a b r w = words.either set.values us vs fault (subst (λ l. AreRead set.values l vs) (types_same f g ts us a b) r) w

  given_wrong : (vs : List Val) (fault : ArgumentFault) → Gives p set vs → HasWrongWords p set fault → ⊥
  given_wrong vs fault a w = read_wrong a.function w.function a.types w.types a.args fault a.entry w.entry a.read w.refused

  given_passes : (vs : List Val) → Gives p set vs → PassesLimit p set → ⊥
  given_passes vs a w =
      let c = same_call a.function w.function a.types w.types a.args w.args a.entry w.entry a.read w.read in
      let moved : plain_calls a.depth p.functions w.function w.args ≡ Some (vs, a.steps) =
      sym (ap (λ h. plain_calls a.depth p.functions h a.args) c.function ∙ ap (λ l. plain_calls a.depth p.functions w.function l) c.args) ∙ a.given in
      let over : set.limit < a.steps = w.longer a.depth a.steps vs moved in
      let within : a.steps ≤ set.limit = a.within in
      omega (arith, over, within)

  pub either : (vs : List Val) (r : Refusal) → Gives p set vs → IsRefused p set r → r ≡ refusal.NoMemory
  either vs (refusal.Unlinked name) a w = absurd (linked_either p name a.linked w)
  either vs (refusal.Argument argument.Entry) a w = absurd (w.none a.function a.types a.entry)
  either vs (refusal.Argument (argument.Count wanted given)) a w = absurd (given_wrong vs (argument.Count wanted given) a w)
  either vs (refusal.Argument (argument.Value k fault)) a w = absurd (given_wrong vs (argument.Value k fault) a w)
  either vs refusal.TurnLimit a w = absurd (given_passes vs a w)
  either vs refusal.NoMemory a w = refl

  wrong_same : (f g : ArgumentFault) → HasWrongWords p set f → HasWrongWords p set g → f ≡ g
  wrong_same f g a b =
      words.one set.values b.types f g
      (subst (λ l. AreRefused set.values l (refusal.Argument f)) (types_same a.function b.function a.types b.types a.entry b.entry) a.refused) b.refused

  wrong_passes : (f : ArgumentFault) → HasWrongWords p set f → PassesLimit p set → ⊥
  wrong_passes f a b = read_wrong b.function a.function b.types a.types b.args f b.entry a.entry b.read a.refused

  refusals_of : (r : Refusal) → r ≢ refusal.NoMemory → IsRefused p set r → (s : Refusal) → s ≢ refusal.NoMemory → IsRefused p set s → r ≡ s
  refusals_of refusal.NoMemory n a s m b = absurd (n refl)
  refusals_of r n a refusal.NoMemory m b = absurd (m refl)
  refusals_of (refusal.Unlinked name) n a (refusal.Unlinked other) m b = ap refusal.Unlinked (same_name name other (sym a ∙ b))
  refusals_of (refusal.Unlinked name) n a (refusal.Argument argument.Entry) m b = absurd (linked_either p name b.linked a)
  refusals_of (refusal.Unlinked name) n a (refusal.Argument (argument.Count w g)) m b = absurd (linked_either p name b.linked a)
  refusals_of (refusal.Unlinked name) n a (refusal.Argument (argument.Value k f)) m b = absurd (linked_either p name b.linked a)
  refusals_of (refusal.Unlinked name) n a refusal.TurnLimit m b = absurd (linked_either p name b.linked a)
  refusals_of (refusal.Argument argument.Entry) n a (refusal.Unlinked other) m b = absurd (linked_either p other a.linked b)
  refusals_of (refusal.Argument argument.Entry) n a (refusal.Argument argument.Entry) m b = refl
  refusals_of (refusal.Argument argument.Entry) n a (refusal.Argument (argument.Count w g)) m b = absurd (a.none b.function b.types b.entry)
  refusals_of (refusal.Argument argument.Entry) n a (refusal.Argument (argument.Value k f)) m b = absurd (a.none b.function b.types b.entry)
  refusals_of (refusal.Argument argument.Entry) n a refusal.TurnLimit m b = absurd (a.none b.function b.types b.entry)
  refusals_of (refusal.Argument (argument.Count w g)) n a (refusal.Unlinked other) m b = absurd (linked_either p other a.linked b)
  refusals_of (refusal.Argument (argument.Count w g)) n a (refusal.Argument argument.Entry) m b = absurd (b.none a.function a.types a.entry)
  refusals_of (refusal.Argument (argument.Count w g)) n a (refusal.Argument (argument.Count v h)) m b = ap refusal.Argument (wrong_same (argument.Count w g) (argument.Count v h) a b)
  refusals_of (refusal.Argument (argument.Count w g)) n a (refusal.Argument (argument.Value k f)) m b = ap refusal.Argument (wrong_same (argument.Count w g) (argument.Value k f) a b)
  refusals_of (refusal.Argument (argument.Count w g)) n a refusal.TurnLimit m b = absurd (wrong_passes (argument.Count w g) a b)
  refusals_of (refusal.Argument (argument.Value j h)) n a (refusal.Unlinked other) m b = absurd (linked_either p other a.linked b)
  refusals_of (refusal.Argument (argument.Value j h)) n a (refusal.Argument argument.Entry) m b = absurd (b.none a.function a.types a.entry)
  refusals_of (refusal.Argument (argument.Value j h)) n a (refusal.Argument (argument.Count v g)) m b = ap refusal.Argument (wrong_same (argument.Value j h) (argument.Count v g) a b)
  refusals_of (refusal.Argument (argument.Value j h)) n a (refusal.Argument (argument.Value k f)) m b = ap refusal.Argument (wrong_same (argument.Value j h) (argument.Value k f) a b)
  refusals_of (refusal.Argument (argument.Value j h)) n a refusal.TurnLimit m b = absurd (wrong_passes (argument.Value j h) a b)
  refusals_of refusal.TurnLimit n a (refusal.Unlinked other) m b = absurd (linked_either p other a.linked b)
  refusals_of refusal.TurnLimit n a (refusal.Argument argument.Entry) m b = absurd (b.none a.function a.types a.entry)
  refusals_of refusal.TurnLimit n a (refusal.Argument (argument.Count w g)) m b = absurd (wrong_passes (argument.Count w g) b a)
  refusals_of refusal.TurnLimit n a (refusal.Argument (argument.Value k f)) m b = absurd (wrong_passes (argument.Value k f) b a)
  refusals_of refusal.TurnLimit n a refusal.TurnLimit m b = refl

pub program_once : IsCallOne → AreWordsOnce → IsProgramOnce
program_once calls words = record {
  values = λ p set vs ws. values_same calls words p set vs ws;
  either = λ p set vs r. either calls words p set vs r;
  refusals = λ p set r s n m a b. refusals_of calls words p set r n a s m b;
}
