-- A number has one type, an entry one function, and words are one list of values.
use Rattle.std.proofs.Common.{◌≡◌, ℕ, List, [], ◌∷◌, Option, Some, slice_get, refl, sym, ap, subst, ◌∙◌}
use Rattle.std.proofs.lemmas.Option.{same_Some}
use Rattle.flow_value.specs.declared.ty.Ty.{Ty}
use Rattle.flow_value.specs.declared.ty.Ty.TheVariants as ty
use Rattle.flow_value.specs.declared.value.Val.{Val}
use Rattle.type_table.specs.declared.form.Form.{Form}
use Rattle.type_table.specs.declared.form.Form.TheVariants as form
use Rattle.type_table.specs.declared.form.Member.{Member as NumberedMember}
use Rattle.typed_tree.specs.Types.{Member, IsNumber, boolean, character, integer, null, array, stream, a_record, a_union, AreMembers, no_member, a_member, AreNumbers}
use Rattle.typed_tree.specs.declared.program.Program.{Program}
use Rattle.value_text.proofs.Whole.{text_once}
use Rattle.mean_call.specs.Calls.{IsEntry, params_of}
use Rattle.mean_call.specs.Words.{AreRead}
use Rattle.mean_call.proofs.Standing.{standing_at, fielding}

mutual
  one_type : (forms : List Form) (names : List (List ℕ)) (n : ℕ) (t u : Ty) → IsNumber forms names n t → IsNumber forms names n u → t ≡ u
  one_type forms names n _ u (boolean e) q = sym (standing_at forms names n (Some form.Boolean) e u q)
  one_type forms names n _ u (character e) q = sym (standing_at forms names n (Some form.Character) e u q)
  one_type forms names n _ u (integer e) q = sym (standing_at forms names n (Some form.Integer) e u q)
  one_type forms names n _ u (null e) q = sym (standing_at forms names n (Some form.Null) e u q)
  one_type forms names n _ u (array {m = m} {t = t} e p) q =
      let s = standing_at forms names n (Some (form.Array m)) e u q in ap ty.Arr (one_type forms names m t s.part p s.stands) ∙ sym s.is
  one_type forms names n _ u (stream {m = m} {t = t} e p) q =
      let s = standing_at forms names n (Some (form.Stream m)) e u q in ap ty.Stream (one_type forms names m t s.part p s.stands) ∙ sym s.is
  one_type forms names n _ u (a_record {ms = ms} {fs = fs} e p) q =
      let s = standing_at forms names n (Some (form.Record ms)) e u q in ap ty.Rec (one_list forms names ms fs s.fields p s.stand) ∙ sym s.is
  one_type forms names n _ u (a_union {ms = ms} {fs = fs} e p) q =
      let s = standing_at forms names n (Some (form.Union ms)) e u q in ap ty.Uni (one_list forms names ms fs s.fields p s.stand) ∙ sym s.is

  one_list : (forms : List Form) (names : List (List ℕ)) (ms : List NumberedMember) (fs gs : List Member) → AreMembers forms names ms fs → AreMembers forms names ms gs → fs ≡ gs
  one_list forms names _ _ gs no_member q = sym (fielding forms names [] gs q)
  one_list forms names _ _ gs (a_member {x = x} {n = n} {name = name} {t = t} {ms = ms} {fs = fs} s p r) q =
      let f = fielding forms names (record { name = x; ty = n } ∷ ms) gs q in
      let same : name ≡ f.name = same_Some name f.name (sym s ∙ f.spelled) in
      ap (λ l. (l, t) ∷ fs) same ∙ ap (λ u. (f.name, u) ∷ fs) (one_type forms names n t f.type p f.typed) ∙ ap (λ l. (f.name, f.type) ∷ l) (one_list forms names ms fs f.rest r f.others) ∙ sym f.is

one_of_all : (forms : List Form) (names : List (List ℕ)) (ns : List ℕ) (ts us : List Ty) → AreNumbers forms names ns ts → AreNumbers forms names ns us → ts ≡ us
one_of_all forms names [] [] [] p q = refl
one_of_all forms names [] [] (u ∷ us) p q = absurd q
one_of_all forms names [] (t ∷ ts) us p q = absurd p
one_of_all forms names (n ∷ ns) [] us p q = absurd p
one_of_all forms names (n ∷ ns) (t ∷ ts) [] p q = absurd q
one_of_all forms names (n ∷ ns) (t ∷ ts) (u ∷ us) p q =
    ap (λ x. x ∷ ts) (one_type forms names n t u p.0 q.0) ∙ ap (λ l. u ∷ l) (one_of_all forms names ns ts us p.1 q.1)

pub one_entry : (p : Program) (word : List ℕ) (f g : ℕ) (ts us : List Ty) → IsEntry p word f ts → IsEntry p word g us → (f ≡ g) × (ts ≡ us)
one_entry p word f g ts us a b =
    let same : f ≡ g = same_Some f g (sym a.called ∙ b.called) in
    (same, one_of_all p.types p.names (params_of p g) ts us (subst (λ k. AreNumbers p.types p.names (params_of p k) ts) same a.parameters) b.parameters)

pub one_reading : (words : List (List ℕ)) (ts : List Ty) (vs us : List Val) → AreRead words ts vs → AreRead words ts us → vs ≡ us
one_reading [] [] [] [] p q = refl
one_reading [] [] [] (u ∷ us) p q = absurd q
one_reading [] [] (v ∷ vs) us p q = absurd p
one_reading [] (t ∷ ts) vs us p q = absurd p
one_reading (w ∷ ws) [] vs us p q = absurd p
one_reading (w ∷ ws) (t ∷ ts) [] us p q = absurd p
one_reading (w ∷ ws) (t ∷ ts) (v ∷ vs) [] p q = absurd q
one_reading (w ∷ ws) (t ∷ ts) (v ∷ vs) (u ∷ us) p q =
    ap (λ x. x ∷ vs) (text_once w t v u p.0 q.0) ∙ ap (λ l. u ∷ l) (one_reading ws ts vs us p.1 q.1)
