-- What a number of a table stands for, by its form.
use Rattle.std.proofs.Common.{◌≡◌, ℕ, List, [], ◌∷◌, Option, Some, None, slice_get, refl, sym, subst}
use Rattle.flow_value.specs.declared.ty.Ty.{Ty}
use Rattle.flow_value.specs.declared.ty.Ty.TheVariants as ty
use Rattle.type_table.specs.declared.form.Form.{Form}
use Rattle.type_table.specs.declared.form.Form.TheVariants as form
use Rattle.type_table.specs.declared.form.Member.{Member as NumberedMember}
use Rattle.typed_tree.specs.Types.{Member, IsNumber, boolean, character, integer, null, array, stream, a_record, a_union, AreMembers, no_member, a_member}

-- an element of this type, or these fields
pub record HasPart (forms : List Form) (names : List (List ℕ)) (made : Ty → Ty) (m : ℕ) (t : Ty) : Type 0 where
  pub part : Ty
  pub is : t ≡ made part
  pub stands : IsNumber forms names m part

pub record HasFields (forms : List Form) (names : List (List ℕ)) (made : List Member → Ty) (ms : List NumberedMember) (t : Ty) : Type 0 where
  pub fields : List Member
  pub is : t ≡ made fields
  pub stand : AreMembers forms names ms fields

-- the types for which a form stands
abbrev pub Standing : List Form → List (List ℕ) → Option Form → Ty → Type 0
Standing forms names None t = ⊥
Standing forms names (Some form.Boolean) t = t ≡ ty.Bool
Standing forms names (Some form.Character) t = t ≡ ty.Char
Standing forms names (Some form.Integer) t = t ≡ ty.Int
Standing forms names (Some form.Null) t = t ≡ ty.Null
Standing forms names (Some (form.Array m)) t = HasPart forms names ty.Arr m t
Standing forms names (Some (form.Stream m)) t = HasPart forms names ty.Stream m t
Standing forms names (Some (form.Record ms)) t = HasFields forms names ty.Rec ms t
Standing forms names (Some (form.Union ms)) t = HasFields forms names ty.Uni ms t

pub standing : (forms : List Form) (names : List (List ℕ)) (n : ℕ) (t : Ty) → IsNumber forms names n t → Standing forms names (slice_get forms n) t
standing forms names n _ (boolean e) = subst (λ o. Standing forms names o ty.Bool) (sym e) refl
standing forms names n _ (character e) = subst (λ o. Standing forms names o ty.Char) (sym e) refl
standing forms names n _ (integer e) = subst (λ o. Standing forms names o ty.Int) (sym e) refl
standing forms names n _ (null e) = subst (λ o. Standing forms names o ty.Null) (sym e) refl
standing forms names n _ (array {t = u} e p) = subst (λ o. Standing forms names o (ty.Arr u)) (sym e) (record { part = u; is = refl; stands = p })
standing forms names n _ (stream {t = u} e p) = subst (λ o. Standing forms names o (ty.Stream u)) (sym e) (record { part = u; is = refl; stands = p })
standing forms names n _ (a_record {fs = fs} e p) = subst (λ o. Standing forms names o (ty.Rec fs)) (sym e) (record { fields = fs; is = refl; stand = p })
standing forms names n _ (a_union {fs = fs} e p) = subst (λ o. Standing forms names o (ty.Uni fs)) (sym e) (record { fields = fs; is = refl; stand = p })

pub standing_at : (forms : List Form) (names : List (List ℕ)) (n : ℕ) (o : Option Form) → slice_get forms n ≡ o → (t : Ty) → IsNumber forms names n t → Standing forms names o t
standing_at forms names n o h t p = subst (λ o. Standing forms names o t) h (standing forms names n t p)

-- no number has no form
pub no_form : (forms : List Form) (names : List (List ℕ)) (n : ℕ) → slice_get forms n ≡ None → (t : Ty) → IsNumber forms names n t → ⊥
no_form forms names n h t p = standing_at forms names n None h t p

-- ---- members

pub record HasFirst (forms : List Form) (names : List (List ℕ)) (m : NumberedMember) (ms : List NumberedMember) (fs : List Member) : Type 0 where
  pub name : List ℕ
  pub type : Ty
  pub rest : List Member
  pub is : fs ≡ (name, type) ∷ rest
  pub spelled : slice_get names m.name ≡ Some name
  pub typed : IsNumber forms names m.ty type
  pub others : AreMembers forms names ms rest

abbrev pub Fielding : List Form → List (List ℕ) → List NumberedMember → List Member → Type 0
Fielding forms names [] fs = fs ≡ []
Fielding forms names (m ∷ ms) fs = HasFirst forms names m ms fs

pub fielding : (forms : List Form) (names : List (List ℕ)) (ms : List NumberedMember) (fs : List Member) → AreMembers forms names ms fs → Fielding forms names ms fs
fielding forms names _ _ no_member = refl
fielding forms names _ _ (a_member {name = name} {t = t} {fs = fs} s p q) = record { name = name; type = t; rest = fs; is = refl; spelled = s; typed = p; others = q }
