-- Forms of records and unions: what they make by number they make by type.
use Rattle.std.proofs.Common.{◌≡◌, ℕ, suc, zero, ◌<◌, Bool, true, false, not, ◌&&◌, nat_eq, List, [], ◌∷◌, length, All, Option, Some, None, slice_get, refl, sym, ap, subst, ◌∙◌, arith, get_or}
use Rattle.std.specs.Option.{is_some}
use Rattle.std.specs.Prelude.{if◌then◌else◌, Contains}
use Rattle.std.specs.List.{list_any}
use Rattle.std.proofs.lemmas.Bool.{eqb-true, eq-eqb}
use Rattle.std.proofs.lemmas.Cmp.{nat_eq_equiv}
use Rattle.std.proofs.lemmas.Map.Views.{list_any-from_Contains}
use Rattle.std.proofs.lemmas.Option.{slice_get-get_or, same_Some}
use Rattle.std.proofs.lemmas.List.Elements.{All-head, All-tail}
use Rattle.indexmap.proofs.CallerLemmas.{Contains-list_any}
use Rattle.flow_value.specs.declared.ty.Ty.{Ty}
use Rattle.flow_value.specs.declared.ty.Ty.TheVariants as ty
use Rattle.value_ops.specs.declared.operation.Operation.TheVariants as operation
use Rattle.type_table.specs.declared.form.Form.{Form}
use Rattle.type_table.specs.declared.form.Form.TheVariants as form
use Rattle.type_table.specs.declared.form.Member.{Member as NumberedMember}
use Rattle.typed_tree.specs.Scopes.{AreDistinct}
use Rattle.typed_tree.specs.Types.{Member, IsNumber, a_record, AreMembers, no_member, a_member, AreNumbers}
use Rattle.type_rules.specs.declared.head.Head.TheVariants as head
use Rattle.type_rules.specs.Parts.{holds_if, part_if, tag_part, field_at, tag_at, is_record, is_record_at, there, outcome_of, sort_if}
use Rattle.type_rules.specs.Records.{are_distinct, field_outcome, fields, union_outcome, unites, test_outcome, tests, paired, is_member, are_members, are_fields, has_fields, are_fields_at, record_sort, records, place_if, field_place, first_then, all_places, change_outcome, replaces}
use Rattle.type_rules.specs.Typed as typed
use Rattle.type_rules.specs.Typed.{Has, AreChanged, no_change, a_change, AreFields, no_field, a_field, IsForm, IsNamedBy, IsKnown}
use Rattle.type_rules.proofs.Standing.{HasFields, at_record, standing_at, one_list}
use Rattle.type_rules.proofs.Grown.{boolean_is}
use Rattle.type_rules.proofs.Telling.{Tells}
use Rattle.type_rules.proofs.Membership.{field_found, field_in, field_absent, field_unique, tag_found, tag_absent, tag_unique}
use Rattle.type_rules.proofs.Verdicts.{Verdict, Says, both_truths, as_many, either, unless_told, off, same_tells, some_type}

-- ---- what the rules want of each form

module _ (forms : List Form) (names : List (List ℕ)) where
  tag_long : {x : ℕ} {ts : List Ty} → Says forms names (head.IsTag x) ts (length ts ≡ 1)
  tag_long _ _ (typed.is_tag p) = refl

  tag_wants : {x : ℕ} {a : Ty} → Says forms names (head.IsTag x) (a ∷ []) ((ms : List Member) × (place : ℕ) × (content : Ty) × (a ≡ ty.Uni ms) × Has names ms x place content)
  tag_wants _ _ (typed.is_tag {place = place} {content = content} {ms = ms} p) = (ms, place, content, refl, p)

  field_long : {x : ℕ} {ts : List Ty} → Says forms names (head.Field x) ts (length ts ≡ 1)
  field_long _ _ (typed.field p) = refl

  field_wants : {x : ℕ} {a : Ty} → Says forms names (head.Field x) (a ∷ []) ((ms : List Member) × (place : ℕ) × (content : Ty) × (a ≡ ty.Rec ms) × Has names ms x place content)
  field_wants _ _ (typed.field {place = place} {content = content} {ms = ms} p) = (ms, place, content, refl, p)

  union_long : {n x : ℕ} {ts : List Ty} → Says forms names (head.Union n x) ts (length ts ≡ 1)
  union_long _ _ (typed.union p q) = refl

  union_wants : {n x : ℕ} {a : Ty} → Says forms names (head.Union n x) (a ∷ []) ((ms : List Member) × (place : ℕ) × IsNumber forms names n (ty.Uni ms) × Has names ms x place a)
  union_wants _ _ (typed.union {place = place} {ms = ms} p q) = (ms, place, p, q)

  record_wants : {x : Option ℕ} {xs : List ℕ} {ts : List Ty} → Says forms names (head.Record x xs) ts ((ms : List Member) × AreFields names xs ts ms × AreDistinct xs × IsNamedBy forms names x (ty.Rec ms))
  record_wants _ _ (typed.a_record {ms = ms} p d q) = (ms, p, d, q)

  replace_long : {xs : List ℕ} {ts : List Ty} → Says forms names (head.Replace xs) ts ((k : ℕ) × (length ts ≡ suc k))
  replace_long _ _ (typed.replace {tys = tys} p d) = (length tys, refl)

  replace_wants : {xs : List ℕ} {a : Ty} {ts : List Ty} → Says forms names (head.Replace xs) (a ∷ ts) ((ms : List Member) × (places : List ℕ) × (a ≡ ty.Rec ms) × AreChanged names ms xs ts places × AreDistinct xs)
  replace_wants _ _ (typed.replace {ms = ms} {places = places} p d) = (ms, places, refl, p, d)

-- no number stands twice
same_number : (x y : ℕ) → nat_eq x y ≡ true → x ≡ y
same_number x y e = eqb-true x y e

pub distinct_tells : (xs : List ℕ) → Tells (are_distinct xs) (AreDistinct xs)
distinct_tells [] = record { yes = λ e. tt; back = λ h. refl }
distinct_tells (x ∷ xs) = by (distinct_tells xs) (list_any (nat_eq x) xs) refl
  where
    by : Tells (are_distinct xs) (AreDistinct xs) → (b : Bool) → list_any (nat_eq x) xs ≡ b → Tells (not b && are_distinct xs) ((Contains xs x → ⊥) × AreDistinct xs)
    by rest true e = record { yes = λ h. absurd cc; back = λ h. absurd (h.0 (Contains-list_any nat_eq same_number xs x e)) }
    by rest false e = record {
      yes = λ h. ((λ there. both_truths (list_any (nat_eq x) xs) (list_any-from_Contains nat_eq_equiv x xs there) e), rest.yes h);
      back = λ h. rest.back h.1;
    }

-- ---- one field or tag

module _ (forms : List Form) (names : List (List ℕ)) (known : IsKnown forms names) where
  pub v_tag : (x : ℕ) (ns : List ℕ) (ts : List Ty) → AreNumbers forms names ns ts → Verdict forms names (head.IsTag x) ts (tests forms x ns)
  v_tag x [] ts p = off forms names known [] 1 p (tag_long forms names) (λ e. omega (arith, e))
  v_tag x (n ∷ []) [] p = absurd p
  v_tag x (n ∷ []) (a ∷ []) p = by (tag_at forms n x) refl
    where
      by : (r : Option (ℕ × ℕ)) → tag_at forms n x ≡ r → Verdict forms names (head.IsTag x) (a ∷ []) (test_outcome r)
      by (Some r) e =
          let q = tag_found forms names known n a p.0 x r e in
          subst (λ y. Verdict forms names (head.IsTag x) (y ∷ []) (Some (there (operation.IsTag r.0) 0))) (sym q.2) (ty.Bool, typed.is_tag q.3, boolean_is forms names known.table)
      by None e = λ o t f.
          let w = tag_wants forms names o t f in tag_absent forms names known n w.0 (subst (IsNumber forms names n) w.3 p.0) x w.1 w.2 w.4 e
  v_tag x (n ∷ []) (a ∷ b ∷ ts) p = absurd p.1
  v_tag x (n ∷ m ∷ ns) ts p = off forms names known (n ∷ m ∷ ns) 1 p (tag_long forms names) (λ e. omega (arith, e))

  pub v_field : (x : ℕ) (ns : List ℕ) (ts : List Ty) → AreNumbers forms names ns ts → Verdict forms names (head.Field x) ts (fields forms x ns)
  v_field x [] ts p = off forms names known [] 1 p (field_long forms names) (λ e. omega (arith, e))
  v_field x (n ∷ []) [] p = absurd p
  v_field x (n ∷ []) (a ∷ []) p = by (field_at forms n x) refl
    where
      by : (r : Option (ℕ × ℕ)) → field_at forms n x ≡ r → Verdict forms names (head.Field x) (a ∷ []) (field_outcome r)
      by (Some r) e =
          let q = field_found forms names known n a p.0 x r e in
          subst (λ y. Verdict forms names (head.Field x) (y ∷ []) (Some (there (operation.Field r.0) r.1))) (sym q.2) (q.1, typed.field q.3, q.4)
      by None e = λ o t f.
          let w = field_wants forms names o t f in field_absent forms names known n w.0 (subst (IsNumber forms names n) w.3 p.0) x w.1 w.2 w.4 e
  v_field x (n ∷ []) (a ∷ b ∷ ts) p = absurd p.1
  v_field x (n ∷ m ∷ ns) ts p = off forms names known (n ∷ m ∷ ns) 1 p (field_long forms names) (λ e. omega (arith, e))

  tag_there : (x : ℕ) (o : Option Form) (r : ℕ × ℕ) → part_if (tag_part x) o ≡ Some r → is_some o ≡ true
  tag_there x (Some f) r e = refl
  tag_there x None r e = absurd cc

  pub v_union : (k x : ℕ) (ns : List ℕ) (ts : List Ty) → AreNumbers forms names ns ts → Verdict forms names (head.Union k x) ts (unites forms k x ns)
  v_union k x [] ts p = off forms names known [] 1 p (union_long forms names) (λ e. omega (arith, e))
  v_union k x (v ∷ []) [] p = absurd p
  v_union k x (v ∷ []) (a ∷ []) p = by (tag_at forms k x) refl
    where
      by : (r : Option (ℕ × ℕ)) → tag_at forms k x ≡ r → Verdict forms names (head.Union k x) (a ∷ []) (union_outcome k v r)
      by (Some r) e =
          let u = some_type forms names known k (slice_get forms k) refl (tag_there x (slice_get forms k) r e) in
          let q = tag_found forms names known k u.0 u.1 x r e in
          let is : IsNumber forms names k (ty.Uni q.0) = subst (IsNumber forms names k) q.2 u.1 in
          let same = same_tells forms names known r.1 v q.1 a q.4 p.0 in
          either forms names known (head.Union k x) (a ∷ []) (nat_eq r.1 v) _ _
          (λ g. (ty.Uni q.0, typed.union is (subst (Has names q.0 x r.0) (same.yes g) q.3), is))
          (λ g o t f.
          let w = union_wants forms names o t f in
          let one = tag_unique forms names known k w.0 w.2 x w.1 a r w.3 e in
          both_truths (nat_eq r.1 v) ((same_tells forms names known r.1 v a a one.1 p.0).back refl) g)
      by None e = λ o t f. let w = union_wants forms names o t f in tag_absent forms names known k w.0 w.2 x w.1 a w.3 e
  v_union k x (v ∷ []) (a ∷ b ∷ ts) p = absurd p.1
  v_union k x (v ∷ m ∷ ns) ts p = off forms names known (v ∷ m ∷ ns) 1 p (union_long forms names) (λ e. omega (arith, e))

  -- ---- a new record

  spelled_at : (x : ℕ) → x < length names → (s : List ℕ) × (slice_get names x ≡ Some s)
  spelled_at x h = (get_or names x [], slice_get-get_or names x [] h)

  fields_made : (xs ns : List ℕ) (ts : List Ty) → All (λ x. x < length names) xs → length xs ≡ length ns → AreNumbers forms names ns ts
      → (ms : List Member) × AreFields names xs ts ms × AreMembers forms names (paired xs ns) ms
  fields_made [] [] [] h e p = ([], no_field, no_member)
  fields_made [] [] (t ∷ ts) h e p = absurd p
  fields_made [] (n ∷ ns) ts h e p = absurd (omega (arith, e))
  fields_made (x ∷ xs) [] ts h e p = absurd (omega (arith, e))
  fields_made (x ∷ xs) (n ∷ ns) [] h e p = absurd p
  fields_made (x ∷ xs) (n ∷ ns) (t ∷ ts) h e p =
      let s = spelled_at x (All-head (λ x. x < length names) x xs h) in
      let q = fields_made xs ns ts (All-tail (λ x. x < length names) x xs h) (omega (arith, e)) p.1 in
      ((s.0, t) ∷ q.0, a_field s.1 q.1, a_member s.1 p.0 q.2)

  as_long : (xs : List ℕ) (ts : List Ty) (ms : List Member) → AreFields names xs ts ms → length xs ≡ length ts
  as_long _ _ _ no_field = refl
  as_long _ _ _ (a_field {xs = xs} {tys = tys} {ms = ms} s p) = ap suc (as_long xs tys ms p)

  -- the fields of these names and types, once
  abbrev FirstField : List ℕ → List Ty → List Member → Type 0
  FirstField [] ts gs = gs ≡ []
  FirstField (x ∷ xs) [] gs = ⊥
  FirstField (x ∷ xs) (t ∷ ts) gs = (s : List ℕ) × (rest : List Member) × (gs ≡ (s, t) ∷ rest) × (slice_get names x ≡ Some s) × AreFields names xs ts rest

  first_field : (xs : List ℕ) (ts : List Ty) (gs : List Member) → AreFields names xs ts gs → FirstField xs ts gs
  first_field _ _ _ no_field = refl
  first_field _ _ _ (a_field {spelling = s} {ms = ms} e p) = (s, ms, refl, e, p)

  fields_once : (xs : List ℕ) (ts : List Ty) (ms gs : List Member) → AreFields names xs ts ms → AreFields names xs ts gs → ms ≡ gs
  fields_once _ _ _ gs no_field q = sym (first_field [] [] gs q)
  fields_once _ _ _ gs (a_field {x = x} {spelling = s} {a = a} {xs = xs} {tys = tys} {ms = ms} e p) q =
      let f = first_field (x ∷ xs) (a ∷ tys) gs q in
      ap (λ n. (n, a) ∷ ms) (same_Some s f.0 (sym e ∙ f.3)) ∙ ap (λ l. (f.0, a) ∷ l) (fields_once xs tys ms f.1 p f.4) ∙ sym f.2

  -- equal members
  member_same : (m o : NumberedMember) → is_member m o ≡ true → m ≡ o
  member_same m o e =
      let both = two_true (nat_eq m.name o.name) (nat_eq m.ty o.ty) e in
      ap (λ n. record { name = n; ty = m.ty }) (eqb-true m.name o.name both.0) ∙ ap (λ t. record { name = o.name; ty = t }) (eqb-true m.ty o.ty both.1)
    where
      two_true : (a b : Bool) → (a && b) ≡ true → (a ≡ true) × (b ≡ true)
      two_true true b e = (refl, e)
      two_true false b e = absurd cc

  two_true : (a b : Bool) → (a && b) ≡ true → (a ≡ true) × (b ≡ true)
  two_true true b e = (refl, e)
  two_true false b e = absurd cc

  members_same : (ms os : List NumberedMember) → are_members ms os ≡ true → ms ≡ os
  members_same [] [] e = refl
  members_same [] (o ∷ os) e = absurd cc
  members_same (m ∷ ms) [] e = absurd cc
  members_same (m ∷ ms) (o ∷ os) e =
      let both = two_true (is_member m o) (are_members ms os) e in
      ap (λ x. x ∷ ms) (member_same m o both.0) ∙ ap (λ l. o ∷ l) (members_same ms os both.1)

  same_members : (ms : List NumberedMember) → are_members ms ms ≡ true
  same_members [] = refl
  same_members (m ∷ ms) =
      ap (λ b. (b && nat_eq m.ty m.ty) && are_members ms ms) (eq-eqb m.name m.name refl) ∙ ap (λ b. b && are_members ms ms) (eq-eqb m.ty m.ty refl) ∙ same_members ms

  fields_same : (ms : List NumberedMember) → are_fields ms ms ≡ true
  fields_same ms = ap (λ b. b && are_members ms ms) (eq-eqb (length ms) (length ms) refl) ∙ same_members ms

  record_by : (k : ℕ) (ms : List NumberedMember) (fs : List Member) → AreMembers forms names ms fs → (o : Option Form) → slice_get forms k ≡ o → holds_if (has_fields ms) o ≡ true → IsNumber forms names k (ty.Rec fs)
  record_by k ms fs p (Some (form.Record os)) h e =
      let same = members_same os ms (two_true (nat_eq (length os) (length ms)) (are_members os ms) e).1 in
      a_record (h ∙ ap (λ l. Some (form.Record l)) same) p
  record_by k ms fs p None h e = absurd cc
  record_by k ms fs p (Some form.Boolean) h e = absurd cc
  record_by k ms fs p (Some form.Character) h e = absurd cc
  record_by k ms fs p (Some form.Integer) h e = absurd cc
  record_by k ms fs p (Some form.Null) h e = absurd cc
  record_by k ms fs p (Some (form.Array m)) h e = absurd cc
  record_by k ms fs p (Some (form.Stream m)) h e = absurd cc
  record_by k ms fs p (Some (form.Union os)) h e = absurd cc

  record_named : (x : Option ℕ) (xs : List ℕ) (ts : List Ty) (ms : List NumberedMember) (fs : List Member) → AreMembers forms names ms fs → AreFields names xs ts fs → AreDistinct xs
      → Verdict forms names (head.Record x xs) ts (outcome_of operation.Record (record_sort forms x ms))
  record_named None xs ts ms fs p q d = (ty.Rec fs, typed.a_record q d tt, record { fields = fs; is = refl; stand = p })
  record_named (Some k) xs ts ms fs p q d = by (are_fields_at forms k ms) refl
    where
      by : (b : Bool) → are_fields_at forms k ms ≡ b → Verdict forms names (head.Record (Some k) xs) ts (outcome_of operation.Record (sort_if b k))
      by true e = let is = record_by k ms fs p (slice_get forms k) refl e in (ty.Rec fs, typed.a_record q d is, is)
      by false e = λ o t f.
          let w = record_wants forms names o t f in
          let s = at_record forms names k w.0 w.3 in
          let one : w.0 ≡ fs = fields_once xs ts w.0 fs w.1 q in
          let same : s.0 ≡ ms = one_list forms names known.table.well known.spelled s.0 ms fs (subst (AreMembers forms names s.0) one s.2) p in
          both_truths (are_fields_at forms k ms) (ap (holds_if (has_fields ms)) s.1 ∙ ap (λ l. are_fields l ms) same ∙ fields_same ms) e

  pub v_record : (x : Option ℕ) (xs : List ℕ) → All (λ x. x < length names) xs → (ns : List ℕ) (ts : List Ty) → AreNumbers forms names ns ts → Verdict forms names (head.Record x xs) ts (records forms x xs ns)
  v_record x xs h ns ts p =
      either forms names known (head.Record x xs) ts (nat_eq (length xs) (length ns)) _ _
      (λ e. either forms names known (head.Record x xs) ts (are_distinct xs) _ _
      (λ d.
      let q = fields_made xs ns ts h (eqb-true (length xs) (length ns) e) p in
      record_named x xs ts (paired xs ns) q.0 q.2 q.1 ((distinct_tells xs).yes d))
      (unless_told forms names known (are_distinct xs) (distinct_tells xs) (λ o t f. (record_wants forms names o t f).2)))
      (λ e o t f.
      let w = record_wants forms names o t f in
      both_truths (nat_eq (length xs) (length ns)) (eq-eqb (length xs) (length ns) (as_long xs ts w.0 w.1 ∙ sym (as_many forms names ns ts p))) e)

  -- ---- a record with other fields

  changed_long : (ms : List Member) (xs : List ℕ) (ts : List Ty) (places : List ℕ) → AreChanged names ms xs ts places → length xs ≡ length ts
  changed_long ms _ _ _ no_change = refl
  changed_long ms _ _ _ (a_change {xs = xs} {places = places} {tys = tys} h p) = ap suc (changed_long ms xs tys places p)

  -- the place of a field of a name and a type
  place_found : (n : ℕ) (ms : List Member) → IsNumber forms names n (ty.Rec ms) → (x v : ℕ) (a : Ty) → IsNumber forms names v a → (r : Option (ℕ × ℕ)) → field_at forms n x ≡ r
      → (place : ℕ) → place_if v r ≡ Some place → Has names ms x place a
  place_found n ms p x v a q (Some r) h place e = by (nat_eq r.1 v) refl e
    where
      by : (b : Bool) → nat_eq r.1 v ≡ b → (if b then Some r.0 else None) ≡ Some place → Has names ms x place a
      by true g e =
          let f = field_in forms names known n ms p x r h in
          subst (λ k. Has names ms x k a) (same_Some r.0 place e) (subst (Has names ms x r.0) ((same_tells forms names known r.1 v f.0 a f.2 q).yes g) f.1)
      by false g e = absurd cc
  place_found n ms p x v a q None h place e = absurd cc

  place_none : (n : ℕ) (ms : List Member) → IsNumber forms names n (ty.Rec ms) → (x v : ℕ) (a : Ty) → IsNumber forms names v a → (r : Option (ℕ × ℕ)) → field_at forms n x ≡ r
      → place_if v r ≡ None → (place : ℕ) → Has names ms x place a → ⊥
  place_none n ms p x v a q (Some r) h e place has = by (nat_eq r.1 v) refl e
    where
      by : (b : Bool) → nat_eq r.1 v ≡ b → (if b then Some r.0 else None) ≡ None → ⊥
      by true g e = cc
      by false g e =
          let one = field_unique forms names known n ms p x place a r has h in both_truths (nat_eq r.1 v) ((same_tells forms names known r.1 v a a one.1 q).back refl) g
  place_none n ms p x v a q None h e place has = field_absent forms names known n ms p x place a has h

  all_found : (n : ℕ) (ms : List Member) → IsNumber forms names n (ty.Rec ms) → (xs vs : List ℕ) (ts : List Ty) → length xs ≡ length vs → AreNumbers forms names vs ts
      → (places : List ℕ) → all_places forms n xs vs ≡ Some places → AreChanged names ms xs ts places
  all_found n ms p [] [] [] l q places e = subst (AreChanged names ms [] []) (same_Some [] places e) no_change
  all_found n ms p [] [] (t ∷ ts) l q places e = absurd q
  all_found n ms p [] (v ∷ vs) ts l q places e = absurd (omega (arith, l))
  all_found n ms p (x ∷ xs) [] ts l q places e = absurd (omega (arith, l))
  all_found n ms p (x ∷ xs) (v ∷ vs) [] l q places e = absurd q
  all_found n ms p (x ∷ xs) (v ∷ vs) (a ∷ ts) l q places e = by (all_found n ms p xs vs ts (omega (arith, l)) q.1) (field_place forms n x v) refl (all_places forms n xs vs) refl e
    where
      by : ((rest : List ℕ) → all_places forms n xs vs ≡ Some rest → AreChanged names ms xs ts rest) → (o : Option ℕ) → field_place forms n x v ≡ o → (r : Option (List ℕ)) → all_places forms n xs vs ≡ r → first_then o r ≡ Some places → AreChanged names ms (x ∷ xs) (a ∷ ts) places
      by again (Some place) h (Some rest) g e =
          subst (AreChanged names ms (x ∷ xs) (a ∷ ts)) (same_Some (place ∷ rest) places e)
          (a_change (place_found n ms p x v a q.0 (field_at forms n x) refl place h) (again rest g))
      by again (Some place) h None g e = absurd cc
      by again None h r g e = absurd cc

  all_none : (n : ℕ) (ms : List Member) → IsNumber forms names n (ty.Rec ms) → (xs vs : List ℕ) (ts : List Ty) → AreNumbers forms names vs ts
      → all_places forms n xs vs ≡ None → (places : List ℕ) → AreChanged names ms xs ts places → ⊥
  all_none n ms p [] [] ts q e places c = absurd cc
  all_none n ms p [] (v ∷ vs) ts q e places c = absurd cc
  all_none n ms p (x ∷ xs) [] ts q e places c = absurd cc
  all_none n ms p (x ∷ xs) (v ∷ vs) [] q e places c = absurd q
  all_none n ms p (x ∷ xs) (v ∷ vs) (a ∷ ts) q e _ (a_change {place = place} {places = places} has c) = by (λ g. all_none n ms p xs vs ts q.1 g places c) (field_place forms n x v) refl (all_places forms n xs vs) refl e
    where
      by : (all_places forms n xs vs ≡ None → ⊥) → (o : Option ℕ) → field_place forms n x v ≡ o → (r : Option (List ℕ)) → all_places forms n xs vs ≡ r → first_then o r ≡ None → ⊥
      by again None h r g e = place_none n ms p x v a q.0 (field_at forms n x) refl h place has
      by again (Some k) h None g e = again g
      by again (Some k) h (Some rest) g e = cc

  record_there : (n : ℕ) (a : Ty) → IsNumber forms names n a → (o : Option Form) → slice_get forms n ≡ o → holds_if is_record o ≡ true → (ms : List Member) × (a ≡ ty.Rec ms)
  record_there n a p (Some (form.Record ms)) h e =
      let s : HasFields forms names ty.Rec ms a = standing_at forms names n (Some (form.Record ms)) h a p in (s.fields, s.is)
  record_there n a p None h e = absurd cc
  record_there n a p (Some form.Boolean) h e = absurd cc
  record_there n a p (Some form.Character) h e = absurd cc
  record_there n a p (Some form.Integer) h e = absurd cc
  record_there n a p (Some form.Null) h e = absurd cc
  record_there n a p (Some (form.Array m)) h e = absurd cc
  record_there n a p (Some (form.Stream m)) h e = absurd cc
  record_there n a p (Some (form.Union ms)) h e = absurd cc

  pub v_replace : (xs ns : List ℕ) (ts : List Ty) → AreNumbers forms names ns ts → Verdict forms names (head.Replace xs) ts (replaces forms xs ns)
  v_replace xs [] ts p = λ o t f. let k = replace_long forms names o t f in let e : zero ≡ suc k.0 = as_many forms names [] ts p ∙ k.1 in omega (arith, e)
  v_replace xs (n ∷ vs) [] p = absurd p
  v_replace xs (n ∷ vs) (a ∷ ts) p =
      either forms names known (head.Replace xs) (a ∷ ts) (nat_eq (length xs) (length vs)) _ _
      (λ l. either forms names known (head.Replace xs) (a ∷ ts) (is_record_at forms n) _ _
      (λ r. either forms names known (head.Replace xs) (a ∷ ts) (are_distinct xs) _ _
      (λ d. by (eqb-true (length xs) (length vs) l) (record_there n a p.0 (slice_get forms n) refl r) ((distinct_tells xs).yes d) (all_places forms n xs vs) refl)
      (unless_told forms names known (are_distinct xs) (distinct_tells xs) (λ o t f. (replace_wants forms names o t f).4)))
      (λ r o t f.
      let w = replace_wants forms names o t f in
      let s = at_record forms names n w.0 (subst (IsNumber forms names n) w.2 p.0) in
      both_truths (is_record_at forms n) (ap (holds_if is_record) s.1) r))
      (λ l o t f.
      let w = replace_wants forms names o t f in
      both_truths (nat_eq (length xs) (length vs)) (eq-eqb (length xs) (length vs) (changed_long w.0 xs ts w.1 w.3 ∙ sym (as_many forms names vs ts p.1))) l)
    where
      by : length xs ≡ length vs → (ms : List Member) × (a ≡ ty.Rec ms) → AreDistinct xs → (o : Option (List ℕ)) → all_places forms n xs vs ≡ o
          → Verdict forms names (head.Replace xs) (a ∷ ts) (change_outcome n o)
      by l s d (Some places) e =
          let is = subst (IsNumber forms names n) s.1 p.0 in
          subst (λ y. Verdict forms names (head.Replace xs) (y ∷ ts) (Some (there (operation.Change places) n))) (sym s.1)
          (ty.Rec s.0, typed.replace (all_found n s.0 is xs vs ts l p.1 places e) d, is)
      by l s d None e = λ o t f.
          let w = replace_wants forms names o t f in all_none n w.0 (subst (IsNumber forms names n) w.2 p.0) xs vs ts p.1 e w.1 w.3
