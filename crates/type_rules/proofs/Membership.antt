-- Fields and tags by number and by type.
use Rattle.std.proofs.Common.{◌≡◌, ℕ, suc, zero, Bool, true, false, not, ◌||◌, ◌&&◌, nat_eq, List, [], ◌∷◌, map, Option, Some, None, slice_get, refl, sym, ap, subst, ◌∙◌, arith}
use Rattle.std.specs.List.{list_any}
use Rattle.std.proofs.lemmas.Bool.{eq-eqb}
use Rattle.std.proofs.lemmas.Option.{same_Some}
use Rattle.flow_value.specs.declared.ty.Ty.{Ty}
use Rattle.flow_value.specs.declared.ty.Ty.TheVariants as ty
use Rattle.type_table.specs.declared.form.Form.{Form}
use Rattle.type_table.specs.declared.form.Form.TheVariants as form
use Rattle.type_table.specs.declared.form.Member.{Member as NumberedMember}
use Rattle.type_table.specs.Forms.{first_member}
use Rattle.type_table.proofs.Members.{is_member, is_named}
use Rattle.typed_tree.specs.Types.{Member, IsNumber, AreMembers, no_member, a_member}
use Rattle.type_rules.specs.Parts.{part_if, field_part, tag_part, field_at, tag_at}
use Rattle.type_rules.specs.Records.{are_distinct}
use Rattle.type_rules.specs.Typed.{Has, IsKnown}
use Rattle.type_rules.proofs.Standing.{HasFields, standing_at, at_record, at_union}

-- ---- members by place

module _ (forms : List Form) (names : List (List ℕ)) where
  pub member_stands : (ms : List NumberedMember) (fs : List Member) → AreMembers forms names ms fs → (i : ℕ) (m : NumberedMember) → slice_get ms i ≡ Some m
      → (f : Member) × (slice_get fs i ≡ Some f) × (slice_get names m.name ≡ Some f.0) × IsNumber forms names m.ty f.1
  member_stands _ _ no_member zero m h = absurd cc
  member_stands _ _ no_member (suc i) m h = absurd cc
  member_stands _ _ (a_member {x = x} {n = n} {name = name} {t = t} s p r) zero m h =
      let first : NumberedMember = record { name = x; ty = n } in
      let e : first ≡ m = same_Some first m h in
      ((name, t), refl, subst (λ y. slice_get names y.name ≡ Some name) e s, subst (λ y. IsNumber forms names y.ty t) e p)
  member_stands _ _ (a_member {ms = ms} {fs = fs} s p r) (suc i) m h = member_stands ms fs r i m h

  pub member_back : (ms : List NumberedMember) (fs : List Member) → AreMembers forms names ms fs → (i : ℕ) (f : Member) → slice_get fs i ≡ Some f
      → (m : NumberedMember) × (slice_get ms i ≡ Some m) × (slice_get names m.name ≡ Some f.0) × IsNumber forms names m.ty f.1
  member_back _ _ no_member zero f h = absurd cc
  member_back _ _ no_member (suc i) f h = absurd cc
  member_back _ _ (a_member {x = x} {n = n} {name = name} {t = t} s p r) zero f h =
      let e : (name, t) ≡ f = same_Some (name, t) f h in
      (record { name = x; ty = n }, refl, subst (λ (y : Member). slice_get names x ≡ Some y.0) e s, subst (λ (y : Member). IsNumber forms names n y.1) e p)
  member_back _ _ (a_member {ms = ms} {fs = fs} s p r) (suc i) f h = member_back ms fs r i f h

-- ---- names that stand once

any_at : (n : ℕ) (ms : List NumberedMember) (j : ℕ) (m : NumberedMember) → slice_get ms j ≡ Some m → n ≡ m.name → list_any (nat_eq n) (map (λ m. m.name) ms) ≡ true
any_at n [] zero m h e = absurd cc
any_at n [] (suc j) m h e = absurd cc
any_at n (x ∷ ms) zero m h e =
    ap (λ b. b || list_any (nat_eq n) (map (λ m. m.name) ms)) (eq-eqb n x.name (e ∙ ap (λ m. m.name) (sym (same_Some x m h))))
any_at n (x ∷ ms) (suc j) m h e = ap (λ b. nat_eq n x.name || b) (any_at n ms j m h e) ∙ or_true (nat_eq n x.name)
  where
    or_true : (b : Bool) → (b || true) ≡ true
    or_true true = refl
    or_true false = refl

not_both : (b : Bool) → b ≡ true → not b ≡ true → ⊥
not_both true e f = cc
not_both false e f = cc

two_true : (a b : Bool) → (a && b) ≡ true → (a ≡ true) × (b ≡ true)
two_true true b e = (refl, e)
two_true false b e = absurd cc

pub one_place : (ms : List NumberedMember) → are_distinct (map (λ m. m.name) ms) ≡ true → (i j : ℕ) (m o : NumberedMember) → slice_get ms i ≡ Some m → slice_get ms j ≡ Some o → m.name ≡ o.name → i ≡ j
one_place [] d zero j m o h g e = absurd cc
one_place [] d (suc i) j m o h g e = absurd cc
one_place (x ∷ ms) d zero zero m o h g e = refl
one_place (x ∷ ms) d zero (suc j) m o h g e =
    let both = two_true (not (list_any (nat_eq x.name) (map (λ m. m.name) ms))) (are_distinct (map (λ m. m.name) ms)) d in
    absurd (not_both (list_any (nat_eq x.name) (map (λ m. m.name) ms)) (any_at x.name ms j o g (ap (λ m. m.name) (same_Some x m h) ∙ e)) both.0)
one_place (x ∷ ms) d (suc i) zero m o h g e =
    let both = two_true (not (list_any (nat_eq x.name) (map (λ m. m.name) ms))) (are_distinct (map (λ m. m.name) ms)) d in
    absurd (not_both (list_any (nat_eq x.name) (map (λ m. m.name) ms)) (any_at x.name ms i m h (ap (λ m. m.name) (same_Some x o g) ∙ sym e)) both.0)
one_place (x ∷ ms) d (suc i) (suc j) m o h g e =
    let both = two_true (not (list_any (nat_eq x.name) (map (λ m. m.name) ms))) (are_distinct (map (λ m. m.name) ms)) d in
    ap suc (one_place ms both.1 i j m o h g e)

-- ---- members by name

module _ (forms : List Form) (names : List (List ℕ)) (known : IsKnown forms names) where
  found : (ms : List NumberedMember) (fs : List Member) → AreMembers forms names ms fs → (x : ℕ) (r : ℕ × ℕ) → first_member x 0 ms ≡ Some r
      → (content : Ty) × Has names fs x r.0 content × IsNumber forms names r.1 content
  found ms fs p x r h =
      let q = is_member x 0 ms r h in
      let s = member_stands forms names ms fs p q.i q.member q.is in
      let place : q.i ≡ r.0 = omega (arith, q.place) in (
        s.0.1,
        record { spelling = s.0.0; spelled = subst (λ y. slice_get names y ≡ Some s.0.0) q.named s.2; member = subst (λ k. slice_get fs k ≡ Some s.0) place s.1 },
        subst (λ k. IsNumber forms names k s.0.1) q.typed s.3,
      )

  absent : (ms : List NumberedMember) (fs : List Member) → AreMembers forms names ms fs → (x place : ℕ) (content : Ty) → Has names fs x place content → first_member x 0 ms ≡ None → ⊥
  absent ms fs p x place content has h =
      let b = member_back forms names ms fs p place (has.spelling, content) has.member in
      let named : b.0.name ≡ x = known.spelled b.0.name x has.spelling b.2 has.spelled in
      let r = is_named x 0 ms place b.0 b.1 named in
      some_none r.0 (first_member x 0 ms) r.1 h
    where
      some_none : (r : ℕ × ℕ) (o : Option (ℕ × ℕ)) → o ≡ Some r → o ≡ None → ⊥
      some_none r (Some s) e f = cc
      some_none r None e f = cc

  unique : (ms : List NumberedMember) (fs : List Member) → AreMembers forms names ms fs → are_distinct (map (λ m. m.name) ms) ≡ true → (x place : ℕ) (content : Ty) (r : ℕ × ℕ)
      → Has names fs x place content → first_member x 0 ms ≡ Some r → (r.0 ≡ place) × IsNumber forms names r.1 content
  unique ms fs p d x place content r has h =
      let q = is_member x 0 ms r h in
      let b = member_back forms names ms fs p place (has.spelling, content) has.member in
      let named : b.0.name ≡ x = known.spelled b.0.name x has.spelling b.2 has.spelled in
      let same : q.i ≡ place = one_place ms d q.i place q.member b.0 q.is b.1 (q.named ∙ sym named) in
      let one : q.member ≡ b.0 = same_Some q.member b.0 (sym q.is ∙ ap (slice_get ms) same ∙ b.1) in
      (omega (arith, q.place, same), subst (λ k. IsNumber forms names k content) (ap (λ m. m.ty) (sym one) ∙ q.typed) b.3)

  -- ---- fields

  field_by : (n : ℕ) (a : Ty) → IsNumber forms names n a → (x : ℕ) (r : ℕ × ℕ) (o : Option Form) → slice_get forms n ≡ o → part_if (field_part x) o ≡ Some r
      → (ms : List Member) × (content : Ty) × (a ≡ ty.Rec ms) × Has names ms x r.0 content × IsNumber forms names r.1 content
  field_by n a p x r (Some (form.Record ms)) h e =
      let s : HasFields forms names ty.Rec ms a = standing_at forms names n (Some (form.Record ms)) h a p in
      let q = found ms s.fields s.stand x r e in
      (s.fields, q.0, s.is, q.1, q.2)
  field_by n a p x r None h e = absurd cc
  field_by n a p x r (Some form.Boolean) h e = absurd cc
  field_by n a p x r (Some form.Character) h e = absurd cc
  field_by n a p x r (Some form.Integer) h e = absurd cc
  field_by n a p x r (Some form.Null) h e = absurd cc
  field_by n a p x r (Some (form.Array m)) h e = absurd cc
  field_by n a p x r (Some (form.Stream m)) h e = absurd cc
  field_by n a p x r (Some (form.Union ms)) h e = absurd cc

  pub field_found : (n : ℕ) (a : Ty) → IsNumber forms names n a → (x : ℕ) (r : ℕ × ℕ) → field_at forms n x ≡ Some r
      → (ms : List Member) × (content : Ty) × (a ≡ ty.Rec ms) × Has names ms x r.0 content × IsNumber forms names r.1 content
  field_found n a p x r e = field_by n a p x r (slice_get forms n) refl e

  -- the same of a record that is known
  pub field_in : (n : ℕ) (ms : List Member) → IsNumber forms names n (ty.Rec ms) → (x : ℕ) (r : ℕ × ℕ) → field_at forms n x ≡ Some r
      → (content : Ty) × Has names ms x r.0 content × IsNumber forms names r.1 content
  field_in n ms p x r e = let s = at_record forms names n ms p in found s.0 ms s.2 x r (sym (ap (part_if (field_part x)) s.1) ∙ e)

  pub field_absent : (n : ℕ) (ms : List Member) → IsNumber forms names n (ty.Rec ms) → (x place : ℕ) (content : Ty) → Has names ms x place content → field_at forms n x ≡ None → ⊥
  field_absent n ms p x place content has e =
      let s = at_record forms names n ms p in absent s.0 ms s.2 x place content has (sym (ap (part_if (field_part x)) s.1) ∙ e)

  pub field_unique : (n : ℕ) (ms : List Member) → IsNumber forms names n (ty.Rec ms) → (x place : ℕ) (content : Ty) (r : ℕ × ℕ) → Has names ms x place content → field_at forms n x ≡ Some r
      → (r.0 ≡ place) × IsNumber forms names r.1 content
  field_unique n ms p x place content r has e =
      let s = at_record forms names n ms p in unique s.0 ms s.2 (known.fields n s.0 s.1) x place content r has (sym (ap (part_if (field_part x)) s.1) ∙ e)

  -- ---- tags

  tag_by : (n : ℕ) (a : Ty) → IsNumber forms names n a → (x : ℕ) (r : ℕ × ℕ) (o : Option Form) → slice_get forms n ≡ o → part_if (tag_part x) o ≡ Some r
      → (ms : List Member) × (content : Ty) × (a ≡ ty.Uni ms) × Has names ms x r.0 content × IsNumber forms names r.1 content
  tag_by n a p x r (Some (form.Union ms)) h e =
      let s : HasFields forms names ty.Uni ms a = standing_at forms names n (Some (form.Union ms)) h a p in
      let q = found ms s.fields s.stand x r e in
      (s.fields, q.0, s.is, q.1, q.2)
  tag_by n a p x r None h e = absurd cc
  tag_by n a p x r (Some form.Boolean) h e = absurd cc
  tag_by n a p x r (Some form.Character) h e = absurd cc
  tag_by n a p x r (Some form.Integer) h e = absurd cc
  tag_by n a p x r (Some form.Null) h e = absurd cc
  tag_by n a p x r (Some (form.Array m)) h e = absurd cc
  tag_by n a p x r (Some (form.Stream m)) h e = absurd cc
  tag_by n a p x r (Some (form.Record ms)) h e = absurd cc

  pub tag_found : (n : ℕ) (a : Ty) → IsNumber forms names n a → (x : ℕ) (r : ℕ × ℕ) → tag_at forms n x ≡ Some r
      → (ms : List Member) × (content : Ty) × (a ≡ ty.Uni ms) × Has names ms x r.0 content × IsNumber forms names r.1 content
  tag_found n a p x r e = tag_by n a p x r (slice_get forms n) refl e

  pub tag_absent : (n : ℕ) (ms : List Member) → IsNumber forms names n (ty.Uni ms) → (x place : ℕ) (content : Ty) → Has names ms x place content → tag_at forms n x ≡ None → ⊥
  tag_absent n ms p x place content has e =
      let s = at_union forms names n ms p in absent s.0 ms s.2 x place content has (sym (ap (part_if (tag_part x)) s.1) ∙ e)

  pub tag_unique : (n : ℕ) (ms : List Member) → IsNumber forms names n (ty.Uni ms) → (x place : ℕ) (content : Ty) (r : ℕ × ℕ) → Has names ms x place content → tag_at forms n x ≡ Some r
      → (r.0 ≡ place) × IsNumber forms names r.1 content
  tag_unique n ms p x place content r has e =
      let s = at_union forms names n ms p in unique s.0 ms s.2 (known.tags n s.0 s.1) x place content r has (sym (ap (part_if (tag_part x)) s.1) ∙ e)
