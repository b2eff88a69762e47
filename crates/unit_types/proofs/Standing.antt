-- What a number of a table stands for: one type, which is not deeper than 64, and the same in a table that has grown.
use Rattle.std.proofs.Common.{◌≡◌, ℕ, zero, suc, List, [], ◌∷◌, ◌++◌, Option, Some, None, slice_get, refl, sym, ap, subst, ◌∙◌}
use Rattle.flow_value.specs.declared.ty.Ty.{Ty}
use Rattle.flow_value.specs.declared.ty.Ty.TheVariants as ty
use Rattle.type_table.specs.declared.form.Form.{Form}
use Rattle.type_table.specs.declared.form.Form.TheVariants as form
use Rattle.type_table.specs.declared.form.Member.{Member as NumberedMember}
use Rattle.typed_tree.specs.Types.{Member, IsNumber, boolean, character, integer, null, array, stream, a_record, a_union, AreMembers, no_member, a_member}

-- an element of this type, or these members
pub record HasPart (forms : List Form) (names : List (List ℕ)) (made : Ty → Ty) (m : ℕ) (t : Ty) : Type 0 where
  pub part : Ty
  pub is : t ≡ made part
  pub stands : IsNumber forms names m part

pub record HasFields (forms : List Form) (names : List (List ℕ)) (made : List Member → Ty) (ms : List NumberedMember) (t : Ty) : Type 0 where
  pub fields : List Member
  pub is : t ≡ made fields
  pub stand : AreMembers forms names ms fields

-- the types for which a form stands
abbrev pub Standing : List Form → List (List ℕ) → Option Form → Ty → Type 0
Standing forms names None t = ⊥
Standing forms names (Some form.Boolean) t = t ≡ ty.Bool
Standing forms names (Some form.Character) t = t ≡ ty.Char
Standing forms names (Some form.Integer) t = t ≡ ty.Int
Standing forms names (Some form.Null) t = t ≡ ty.Null
Standing forms names (Some (form.Array m)) t = HasPart forms names ty.Arr m t
Standing forms names (Some (form.Stream m)) t = HasPart forms names ty.Stream m t
Standing forms names (Some (form.Record ms)) t = HasFields forms names ty.Rec ms t
Standing forms names (Some (form.Union ms)) t = HasFields forms names ty.Uni ms t

standing : (forms : List Form) (names : List (List ℕ)) (n : ℕ) (t : Ty) → IsNumber forms names n t → Standing forms names (slice_get forms n) t
standing forms names n _ (boolean e) = subst (λ o. Standing forms names o ty.Bool) (sym e) refl
standing forms names n _ (character e) = subst (λ o. Standing forms names o ty.Char) (sym e) refl
standing forms names n _ (integer e) = subst (λ o. Standing forms names o ty.Int) (sym e) refl
standing forms names n _ (null e) = subst (λ o. Standing forms names o ty.Null) (sym e) refl
standing forms names n _ (array {t = u} e p) = subst (λ o. Standing forms names o (ty.Arr u)) (sym e) (record { part = u; is = refl; stands = p })
standing forms names n _ (stream {t = u} e p) = subst (λ o. Standing forms names o (ty.Stream u)) (sym e) (record { part = u; is = refl; stands = p })
standing forms names n _ (a_record {fs = fs} e p) = subst (λ o. Standing forms names o (ty.Rec fs)) (sym e) (record { fields = fs; is = refl; stand = p })
standing forms names n _ (a_union {fs = fs} e p) = subst (λ o. Standing forms names o (ty.Uni fs)) (sym e) (record { fields = fs; is = refl; stand = p })

standing_at : (forms : List Form) (names : List (List ℕ)) (n : ℕ) (o : Option Form) → slice_get forms n ≡ o → (t : Ty) → IsNumber forms names n t → Standing forms names o t
standing_at forms names n o h t p = subst (λ o. Standing forms names o t) h (standing forms names n t p)

pub record HasFirst (forms : List Form) (names : List (List ℕ)) (m : NumberedMember) (ms : List NumberedMember) (fs : List Member) : Type 0 where
  pub name : List ℕ
  pub type : Ty
  pub rest : List Member
  pub is : fs ≡ (name, type) ∷ rest
  pub spelled : slice_get names m.name ≡ Some name
  pub typed : IsNumber forms names m.ty type
  pub others : AreMembers forms names ms rest

abbrev Fielding : List Form → List (List ℕ) → List NumberedMember → List Member → Type 0
Fielding forms names [] fs = fs ≡ []
Fielding forms names (m ∷ ms) fs = HasFirst forms names m ms fs

fielding : (forms : List Form) (names : List (List ℕ)) (ms : List NumberedMember) (fs : List Member) → AreMembers forms names ms fs → Fielding forms names ms fs
fielding forms names _ _ no_member = refl
fielding forms names _ _ (a_member {name = name} {t = t} {fs = fs} s p q) = record { name = name; type = t; rest = fs; is = refl; spelled = s; typed = p; others = q }

-- ---- one type

module _ (forms : List Form) (names : List (List ℕ)) where
  mutual
    -- a number stands for one type
    pub one_type : {n : ℕ} {a : Ty} → IsNumber forms names n a → (b : Ty) → IsNumber forms names n b → b ≡ a
    one_type {n} (boolean e) b q = standing_at forms names n (Some form.Boolean) e b q
    one_type {n} (character e) b q = standing_at forms names n (Some form.Character) e b q
    one_type {n} (integer e) b q = standing_at forms names n (Some form.Integer) e b q
    one_type {n} (null e) b q = standing_at forms names n (Some form.Null) e b q
    one_type {n} (array {m = m} e p) b q = let s = standing_at forms names n (Some (form.Array m)) e b q in s.is ∙ ap ty.Arr (one_type p s.part s.stands)
    one_type {n} (stream {m = m} e p) b q = let s = standing_at forms names n (Some (form.Stream m)) e b q in s.is ∙ ap ty.Stream (one_type p s.part s.stands)
    one_type {n} (a_record {ms = ms} e p) b q = let s = standing_at forms names n (Some (form.Record ms)) e b q in s.is ∙ ap ty.Rec (same_members p s.fields s.stand)
    one_type {n} (a_union {ms = ms} e p) b q = let s = standing_at forms names n (Some (form.Union ms)) e b q in s.is ∙ ap ty.Uni (same_members p s.fields s.stand)

    same_members : {ms : List NumberedMember} {fs : List Member} → AreMembers forms names ms fs → (gs : List Member) → AreMembers forms names ms gs → gs ≡ fs
    same_members no_member gs q = fielding forms names [] gs q
    same_members (a_member {x} {n} {name} {t} {ms} {fs} s p r) gs q =
        let f : HasFirst forms names (record { name = x; ty = n }) ms gs = fielding forms names (record { name = x; ty = n } ∷ ms) gs q in
        let k : f.name ≡ name = cc (f.spelled, s) in
        f.is ∙ (λ i. (k i, one_type p f.type f.typed i) ∷ same_members r f.rest f.others i)

-- ---- a table that has grown

pub left : {X : Type 0} (xs ys : List X) (k : ℕ) (x : X) → slice_get xs k ≡ Some x → slice_get (xs ++ ys) k ≡ Some x
left [] ys k x h = cc
left (y ∷ xs) ys zero x h = h
left (y ∷ xs) ys (suc k) x h = left xs ys k x h

module _ (forms more : List Form) (names : List (List ℕ)) where
  mutual
    pub number_later : {n : ℕ} {a : Ty} → IsNumber forms names n a → IsNumber (forms ++ more) names n a
    number_later {n} (boolean e) = boolean (left forms more n form.Boolean e)
    number_later {n} (character e) = character (left forms more n form.Character e)
    number_later {n} (integer e) = integer (left forms more n form.Integer e)
    number_later {n} (null e) = null (left forms more n form.Null e)
    number_later {n} (array {m = m} e p) = array (left forms more n (form.Array m) e) (number_later p)
    number_later {n} (stream {m = m} e p) = stream (left forms more n (form.Stream m) e) (number_later p)
    number_later {n} (a_record {ms = ms} e p) = a_record (left forms more n (form.Record ms) e) (members_later p)
    number_later {n} (a_union {ms = ms} e p) = a_union (left forms more n (form.Union ms) e) (members_later p)

    pub members_later : {ms : List NumberedMember} {fs : List Member} → AreMembers forms names ms fs → AreMembers (forms ++ more) names ms fs
    members_later no_member = no_member
    members_later (a_member s p q) = a_member s (number_later p) (members_later q)
