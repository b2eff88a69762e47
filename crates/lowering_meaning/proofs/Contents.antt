-- What an arm of a `tagcase` sees is of the type that its tag has in the table.
use Rattle.std.proofs.Common.{◌≡◌, ℕ, zero, suc, ◌+◌, ◌<◌, inl, inr, Bool, true, false, List, [], ◌∷◌, nat_eq, map, length, slice_get, Contains, Option, Some, None, refl, sym, ap, subst, ◌∙◌, arith}
use Rattle.std.specs.Prelude.{All, if◌then◌else◌}
use Rattle.std.proofs.lemmas.Bool.{eqb-true, eq-eqb}
use Rattle.std.proofs.lemmas.Option.{same_Some}
use Rattle.std.proofs.lemmas.List.Elements.{All-head, All-tail, Contains-append_cases, Contains-push_cases}
use Rattle.flow_value.specs.declared.ty.Ty.{Ty}
use Rattle.flow_value.specs.declared.ty.Ty.TheVariants as ty
use Rattle.flow_value.specs.declared.ty.Ty.TheOpen.{Ty-F}
use Rattle.flow_value.specs.declared.ty.Ty.TheViews.{out-Ty}
use Rattle.type_table.specs.declared.form.Form.{Form}
use Rattle.type_table.specs.declared.form.Member.{Member as NumberedMember}
use Rattle.type_table.specs.Tables.{members_if}
use Rattle.typed_tree.specs.declared.expr.Case.{Case}
use Rattle.typed_tree.specs.declared.expr.Choice.{Choice}
use Rattle.typed_tree.specs.Types.{Member, IsNumber, AreMembers, AreNumbers}
use Rattle.typed_tree.specs.Types as number
use Rattle.meaning.specs.Meaning.{arm_place}
use Rattle.typed_values.specs.Fitting.{IsChosen, TagsFit}
use Rattle.lowering.specs.Choices.{type_in, content_of, tag_named, first_tag}
use Rattle.lowered_units.proofs.BuiltTrees.{out-bool, out-char, out-int, out-null, out-array, out-stream, out-record, out-union}

module _ (forms : List Form) (names : List (List ℕ)) where
  members-typed : (ms : List NumberedMember) (fs : List Member) → AreMembers forms names ms fs → (tag : ℕ) (m : Member) → slice_get fs tag ≡ Some m → IsNumber forms names (type_in (slice_get ms tag)) m.1
  members-typed _ _ number.no_member tag m e = absurd cc
  members-typed _ _ (number.a_member {n = n} {name = name} {t = t} s h r) zero m e = subst (λ (m : Member). IsNumber forms names n m.1) (same_Some (name, t) m e) h
  members-typed _ _ (number.a_member {ms = ms} {fs = fs} s h r) (suc tag) m e = members-typed ms fs r tag m e

  abbrev HasContents : ℕ → Ty-F Ty → Type 0
  HasContents n (Ty-F.Uni ms) = (tag : ℕ) (m : Member) → slice_get ms tag ≡ Some m → IsNumber forms names (content_of forms n tag) m.1
  HasContents n _ = Unit {0}

  contents-typed : (n : ℕ) (t : Ty) → IsNumber forms names n t → HasContents n (out-Ty t)
  contents-typed n _ (number.boolean e) = subst (HasContents n) (sym out-bool) tt
  contents-typed n _ (number.character e) = subst (HasContents n) (sym out-char) tt
  contents-typed n _ (number.integer e) = subst (HasContents n) (sym out-int) tt
  contents-typed n _ (number.null e) = subst (HasContents n) (sym out-null) tt
  contents-typed n _ (number.array {t = t} e h) = subst (HasContents n) (sym (out-array t)) tt
  contents-typed n _ (number.stream {t = t} e h) = subst (HasContents n) (sym (out-stream t)) tt
  contents-typed n _ (number.a_record {fs = fs} e h) = subst (HasContents n) (sym (out-record fs)) tt
  contents-typed n _ (number.a_union {ms = ms} {fs = fs} e h) =
      subst (HasContents n) (sym (out-union fs)) (λ tag m k. subst (λ (o : Option Form). IsNumber forms names (type_in (slice_get (members_if o) tag)) m.1) (sym e) (members-typed ms fs h tag m k))

  union-contents : (n : ℕ) (ms : List Member) → IsNumber forms names n (ty.Uni ms) → (tag : ℕ) (m : Member) → slice_get ms tag ≡ Some m → IsNumber forms names (content_of forms n tag) m.1
  union-contents n ms h = subst (HasContents n) (out-union ms) (contents-typed n (ty.Uni ms) h)

  -- ---- the content in an arm of a `tagcase`

  -- the first choice of an arm
  record IsFirst (c : Case) (arms tags arm : ℕ) (xs : List Choice) : Type 0 where
    pub choice : Choice
    pub tag : tag_named arm xs ≡ choice.tag
    pub arm_is : choice.arm ≡ arm
    pub chosen : IsChosen c arms tags choice

  first-choice : (c : Case) (arms tags arm : ℕ) (xs : List Choice) → All (IsChosen c arms tags) xs → Contains (map (λ x. x.arm) xs) arm → IsFirst c arms tags arm xs
  first-choice c arms tags arm [] h k = let l = k.1 in absurd (omega (arith, l))
  first-choice c arms tags arm (x ∷ xs) h k = by (nat_eq x.arm arm) refl (λ r. first-choice c arms tags arm xs (All-tail (IsChosen c arms tags) x xs h) r)
    where
      later : nat_eq x.arm arm ≡ false → Contains (map (λ x. x.arm) xs) arm
      later e = elim (Contains-append_cases (x.arm ∷ []) (map (λ x. x.arm) xs) arm k) [
        | inl l ↦ elim (Contains-push_cases [] x.arm arm l) [
          | inl n ↦ let z = n.1 in absurd (omega (arith, z))
          | inr s ↦ let t = eq-eqb x.arm arm s in absurd cc
        ]
        | inr r ↦ r
      ]

      by : (b : Bool) → nat_eq x.arm arm ≡ b → (Contains (map (λ x. x.arm) xs) arm → IsFirst c arms tags arm xs) → IsFirst c arms tags arm (x ∷ xs)
      by true e f = record { choice = x; tag = ap (λ b. if b then x.tag else tag_named arm xs) e; arm_is = eqb-true x.arm arm e; chosen = All-head (IsChosen c arms tags) x xs h }
      by false e f =
          let r = f (later e) in
          record { choice = r.choice; tag = ap (λ b. if b then x.tag else tag_named arm xs) e ∙ r.tag; arm_is = r.arm_is; chosen = r.chosen }

  -- what the arms see is of the types of their tags
  tag-fits : (arms : ℕ) (contents : List Ty) (c : Case) (from : ℕ) (ms : List Member) → TagsFit arms contents c from ms → (d : ℕ) (m : Member) → slice_get ms d ≡ Some m
      → (a : Ty) → slice_get contents (arm_place c.choices c.others (from + d)) ≡ Some a → a ≡ m.1
  tag-fits arms contents c from [] h d m e a k = absurd cc
  tag-fits arms contents c from (x ∷ ms) h zero m e a k =
      h.1 a (subst (λ i. slice_get contents (arm_place c.choices c.others i) ≡ Some a) (omega arith) k) ∙ ap (λ (m : Member). m.1) (same_Some x m e)
  tag-fits arms contents c from (x ∷ ms) h (suc d) m e a k =
      tag-fits arms contents c (suc from) ms h.2 d m e a (subst (λ i. slice_get contents (arm_place c.choices c.others i) ≡ Some a) (omega arith) k)

  -- the content of the first tag of an arm is of the type that the arm sees
  pub content-typed : (n : ℕ) (ms : List Member) (contents : List Ty) (c : Case) (arms : ℕ) → IsNumber forms names n (ty.Uni ms) → TagsFit arms contents c 0 ms → All (IsChosen c arms (length ms)) c.choices
      → (arm : ℕ) → Contains (map (λ x. x.arm) c.choices) arm → (a : Ty) → slice_get contents arm ≡ Some a → IsNumber forms names (content_of forms n (first_tag c arm)) a
  content-typed n ms contents c arms u fit chosen arm there a e = by (slice_get ms f.choice.tag) refl
    where
      f : IsFirst c arms (length ms) arm c.choices
      f = first-choice c arms (length ms) arm c.choices chosen there

      by : (o : Option Member) → slice_get ms f.choice.tag ≡ o → IsNumber forms names (content_of forms n (first_tag c arm)) a
      by None k = let z = f.chosen.tag in absurd (past ms f.choice.tag z k)
        where
          past : {A : Type 0} (xs : List A) (i : ℕ) → i < length xs → slice_get xs i ≡ None → ⊥
          past [] i l k = omega (arith, l)
          past (x ∷ xs) zero l k = cc
          past (x ∷ xs) (suc i) l k = past xs i (omega (arith, l)) k
      by (Some m) k =
          let here = subst (λ i. slice_get contents i ≡ Some a) (sym (f.chosen.own ∙ f.arm_is)) e in
          let at : slice_get contents (arm_place c.choices c.others (0 + f.choice.tag)) ≡ Some a =
          subst (λ i. slice_get contents (arm_place c.choices c.others i) ≡ Some a) (omega arith) here in
          let same = tag-fits arms contents c 0 ms fit f.choice.tag m k a at in
          subst (λ t. IsNumber forms names (content_of forms n t) a) (sym f.tag) (subst (IsNumber forms names (content_of forms n f.choice.tag)) (sym same) (union-contents n ms u f.choice.tag m k))
