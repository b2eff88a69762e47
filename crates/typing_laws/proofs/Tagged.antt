-- Fields and tags by number and by type.
use Rattle.std.proofs.Common.{◌≡◌, ℕ, suc, zero, Bool, true, false, not, ◌||◌, ◌&&◌, nat_eq, List, [], ◌∷◌, map, Option, Some, None, slice_get, refl, sym, ap, subst, ◌∙◌, arith}
use Rattle.std.specs.List.{list_any}
use Rattle.std.proofs.lemmas.Bool.{eq-eqb}
use Rattle.std.proofs.lemmas.Option.{same_Some}
use Rattle.flow_value.specs.declared.ty.Ty.{Ty}
use Rattle.flow_value.specs.declared.ty.Ty.TheVariants as ty
use Rattle.type_table.specs.declared.form.Form.{Form}
use Rattle.type_table.specs.declared.form.Form.TheVariants as form
use Rattle.type_table.specs.declared.form.Member.{Member as NumberedMember}
use Rattle.type_table.specs.Forms.{first_member}
use Rattle.type_table.proofs.Members.{is_member, is_named}
use Rattle.typed_tree.specs.Types.{Member, IsNumber, AreMembers, no_member, a_member}
use Rattle.type_rules.specs.Parts.{part_if, field_part, tag_part, field_at, tag_at}
use Rattle.type_rules.specs.Records.{are_distinct}
use Rattle.type_rules.specs.Typed.{Has, IsKnown}
use Rattle.type_rules.proofs.Standing.{HasFields, standing_at, at_record, at_union}

-- ---- members by place

module _ (forms : List Form) (names : List (List ℕ)) where
  pub member_stands : (ms : List NumberedMember) (fs : List Member) → AreMembers forms names ms fs → (i : ℕ) (m : NumberedMember) → slice_get ms i ≡ Some m
      → (f : Member) × (slice_get fs i ≡ Some f) × (slice_get names m.name ≡ Some f.0) × IsNumber forms names m.ty f.1
  member_stands _ _ no_member zero m h = absurd cc
  member_stands _ _ no_member (suc i) m h = absurd cc
  member_stands _ _ (a_member {x = x} {n = n} {name = name} {t = t} s p r) zero m h =
      let first : NumberedMember = record { name = x; ty = n } in
      let e : first ≡ m = same_Some first m h in
      ((name, t), refl, subst (λ y. slice_get names y.name ≡ Some name) e s, subst (λ y. IsNumber forms names y.ty t) e p)
  member_stands _ _ (a_member {ms = ms} {fs = fs} s p r) (suc i) m h = member_stands ms fs r i m h

-- ---- names that stand once

-- ---- members by name

module _ (forms : List Form) (names : List (List ℕ)) where
  pub found : (ms : List NumberedMember) (fs : List Member) → AreMembers forms names ms fs → (x : ℕ) (r : ℕ × ℕ) → first_member x 0 ms ≡ Some r
      → (content : Ty) × Has names fs x r.0 content × IsNumber forms names r.1 content
  found ms fs p x r h =
      let q = is_member x 0 ms r h in
      let s = member_stands forms names ms fs p q.i q.member q.is in
      let place : q.i ≡ r.0 = omega (arith, q.place) in (
        s.0.1,
        record { spelling = s.0.0; spelled = subst (λ y. slice_get names y ≡ Some s.0.0) q.named s.2; member = subst (λ k. slice_get fs k ≡ Some s.0) place s.1 },
        subst (λ k. IsNumber forms names k s.0.1) q.typed s.3,
      )

  -- ---- fields

  field_by : (n : ℕ) (a : Ty) → IsNumber forms names n a → (x : ℕ) (r : ℕ × ℕ) (o : Option Form) → slice_get forms n ≡ o → part_if (field_part x) o ≡ Some r
      → (ms : List Member) × (content : Ty) × (a ≡ ty.Rec ms) × Has names ms x r.0 content × IsNumber forms names r.1 content
  field_by n a p x r (Some (form.Record ms)) h e =
      let s : HasFields forms names ty.Rec ms a = standing_at forms names n (Some (form.Record ms)) h a p in
      let q = found ms s.fields s.stand x r e in
      (s.fields, q.0, s.is, q.1, q.2)
  field_by n a p x r None h e = absurd cc
  field_by n a p x r (Some form.Boolean) h e = absurd cc
  field_by n a p x r (Some form.Character) h e = absurd cc
  field_by n a p x r (Some form.Integer) h e = absurd cc
  field_by n a p x r (Some form.Null) h e = absurd cc
  field_by n a p x r (Some (form.Array m)) h e = absurd cc
  field_by n a p x r (Some (form.Stream m)) h e = absurd cc
  field_by n a p x r (Some (form.Union ms)) h e = absurd cc

  pub field_found : (n : ℕ) (a : Ty) → IsNumber forms names n a → (x : ℕ) (r : ℕ × ℕ) → field_at forms n x ≡ Some r
      → (ms : List Member) × (content : Ty) × (a ≡ ty.Rec ms) × Has names ms x r.0 content × IsNumber forms names r.1 content
  field_found n a p x r e = field_by n a p x r (slice_get forms n) refl e

  -- the same of a record that is known
  pub field_in : (n : ℕ) (ms : List Member) → IsNumber forms names n (ty.Rec ms) → (x : ℕ) (r : ℕ × ℕ) → field_at forms n x ≡ Some r
      → (content : Ty) × Has names ms x r.0 content × IsNumber forms names r.1 content
  field_in n ms p x r e = let s = at_record forms names n ms p in found s.0 ms s.2 x r (sym (ap (part_if (field_part x)) s.1) ∙ e)

  -- ---- tags

  tag_by : (n : ℕ) (a : Ty) → IsNumber forms names n a → (x : ℕ) (r : ℕ × ℕ) (o : Option Form) → slice_get forms n ≡ o → part_if (tag_part x) o ≡ Some r
      → (ms : List Member) × (content : Ty) × (a ≡ ty.Uni ms) × Has names ms x r.0 content × IsNumber forms names r.1 content
  tag_by n a p x r (Some (form.Union ms)) h e =
      let s : HasFields forms names ty.Uni ms a = standing_at forms names n (Some (form.Union ms)) h a p in
      let q = found ms s.fields s.stand x r e in
      (s.fields, q.0, s.is, q.1, q.2)
  tag_by n a p x r None h e = absurd cc
  tag_by n a p x r (Some form.Boolean) h e = absurd cc
  tag_by n a p x r (Some form.Character) h e = absurd cc
  tag_by n a p x r (Some form.Integer) h e = absurd cc
  tag_by n a p x r (Some form.Null) h e = absurd cc
  tag_by n a p x r (Some (form.Array m)) h e = absurd cc
  tag_by n a p x r (Some (form.Stream m)) h e = absurd cc
  tag_by n a p x r (Some (form.Record ms)) h e = absurd cc

  pub tag_found : (n : ℕ) (a : Ty) → IsNumber forms names n a → (x : ℕ) (r : ℕ × ℕ) → tag_at forms n x ≡ Some r
      → (ms : List Member) × (content : Ty) × (a ≡ ty.Uni ms) × Has names ms x r.0 content × IsNumber forms names r.1 content
  tag_found n a p x r e = tag_by n a p x r (slice_get forms n) refl e
