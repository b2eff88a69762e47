-- Each number of a table stands for a type, also once a type more is in it.
use Rattle.std.proofs.Common.{◌≡◌, ◌⊎◌, inl, inr, ℕ, suc, zero, ◌+◌, ◌<◌, ◌≤◌, List, [], ◌∷◌, ◌++◌, map, length, All, Option, Some, None, slice_get, get_or, refl, sym, ap, subst, ◌∙◌, arith}
use Rattle.std.proofs.lemmas.List.{length-append}
use Rattle.std.proofs.lemmas.List.Elements.{All-nil, All-cons, All-append, All-head, All-tail}
use Rattle.std.proofs.lemmas.Option.{slice_get-get_or}
use Rattle.flow_value.specs.declared.ty.Ty.{Ty}
use Rattle.flow_value.specs.declared.ty.Ty.TheVariants as ty
use Rattle.type_table.specs.declared.form.Form.{Form}
use Rattle.type_table.specs.declared.form.Form.TheVariants as form
use Rattle.type_table.specs.declared.form.Member.{Member as NumberedMember}
use Rattle.type_table.specs.Tables.{IsOver, AddsAtMost}
use Rattle.type_table.proofs.Lists.{seam}
use Rattle.typed_tree.specs.Types.{Member, IsNumber, boolean, character, integer, null, array, stream, a_record, a_union, AreMembers, no_member, a_member}
use Rattle.type_rules.specs.Applies.{Grows}
use Rattle.type_rules.proofs.Grown.{number_grows}
use Rattle.unit_types.specs.Rests.{HasEachOnce, AreStanding}
use Rattle.typing_laws.specs.Said.{IsFormSpelled, IsStandingKept}

module _ (names : List (List ℕ)) (old new : List Form) (grows : Grows old new) (stands : AreStanding names old) where
  part_stands : (n : ℕ) → n < length old → (t : Ty) × IsNumber new names n t
  part_stands n e = let t = stands.stands n e in (t.0, number_grows old new names grows n t.0 t.1)

  members_stand : (ms : List NumberedMember) → All (λ n. n < length old) (map (λ m. m.ty) ms) → All (λ x. x < length names) (map (λ m. m.name) ms) → (fs : List Member) × AreMembers new names ms fs
  members_stand [] e s = ([], no_member)
  members_stand (m ∷ ms) e s =
      let t = part_stands m.ty (All-head (λ n. n < length old) m.ty (map (λ m. m.ty) ms) e) in
      let r = members_stand ms (All-tail (λ n. n < length old) m.ty (map (λ m. m.ty) ms) e) (All-tail (λ x. x < length names) m.name (map (λ m. m.name) ms) s) in
      let spelled = slice_get-get_or names m.name [] (All-head (λ x. x < length names) m.name (map (λ m. m.name) ms) s) in
      ((get_or names m.name [], t.0) ∷ r.0, a_member spelled t.1 r.1)

  form_stands : (n : ℕ) (f : Form) → slice_get new n ≡ Some f → IsOver (length old) f → IsFormSpelled names f → (t : Ty) × IsNumber new names n t
  form_stands n form.Boolean e over s = (ty.Bool, boolean e)
  form_stands n form.Character e over s = (ty.Char, character e)
  form_stands n form.Integer e over s = (ty.Int, integer e)
  form_stands n form.Null e over s = (ty.Null, null e)
  form_stands n (form.Array m) e over s = let t = part_stands m (All-head (λ n. n < length old) m [] over) in (ty.Arr t.0, array e t.1)
  form_stands n (form.Stream m) e over s = let t = part_stands m (All-head (λ n. n < length old) m [] over) in (ty.Stream t.0, stream e t.1)
  form_stands n (form.Record ms) e over s = let r = members_stand ms over s in (ty.Rec r.0, a_record e r.1)
  form_stands n (form.Union ms) e over s = let r = members_stand ms over s in (ty.Uni r.0, a_union e r.1)

last_or : (n m : ℕ) → n < m + 1 → (n < m) ⊎ (n ≡ m)
last_or zero zero e = inr refl
last_or zero (suc m) e = inl (omega arith)
last_or (suc n) zero e = absurd (omega (arith, e))
last_or (suc n) (suc m) e = elim (last_or n m (omega (arith, e))) [ inl h ↦ inl (omega (arith, h)) | inr h ↦ inr (ap suc h) ]

pub standing_kept : IsStandingKept
standing_kept names old new f stands over spelled each (inl same) = subst (AreStanding names) (sym same) stands
standing_kept names old new f stands over spelled each (inr same) = record {
  stands = λ n within.
      let long : length new ≡ length old + 1 = ap length same ∙ length-append old (f ∷ []) in
      let grows : Grows old new = (f ∷ [], same) in
      elim (last_or n (length old) (omega (arith, within, long))) [
        | inl before ↦ part_stands names old new grows stands n before
        | inr last ↦
            let here : slice_get new (length old) ≡ Some f = ap (λ l. slice_get l (length old)) same ∙ seam old f in
            let t = form_stands names old new grows stands (length old) f here over spelled in
            (t.0, subst (λ i. IsNumber new names i t.0) (sym last) t.1)
      ];
  once = subst (All HasEachOnce) (sym same) (All-append HasEachOnce old (f ∷ []) stands.once (All-cons HasEachOnce f [] each (All-nil HasEachOnce)));
}
