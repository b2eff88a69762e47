-- Which arm each tag of a union has, as arms come one after another.
use Rattle.std.proofs.Common.{◌≡◌, ◌⊎◌, inl, inr, ℕ, suc, ◌+◌, Bool, true, false, List, [], ◌∷◌, ◌++◌, map, nat_eq, flat_map, length, Option, Some, None, Result, Ok, Err, slice_get, refl, sym, ap, subst, ◌∙◌, arith}
use Rattle.std.specs.Prelude.{if◌then◌else◌, Contains}
use Rattle.std.proofs.lemmas.List.{append_assoc, append-nil, map-append}
use Rattle.std.proofs.lemmas.List.Elements.{Contains-append_left, Contains-append_right, Contains-append_cases, Contains-push, Contains-push_cases}
use Rattle.std.proofs.lemmas.Bool.{eqb-true, eq-eqb}
use Rattle.std.proofs.lemmas.Option.{same_Some}
use Rattle.std.proofs.lemmas.Grind.{flat_map-append}
use Rattle.sisal_tree.specs.declared.unit.Named.{Named}
use Rattle.type_table.specs.declared.form.Form.{Form}
use Rattle.type_table.specs.declared.form.Form.TheVariants as form
use Rattle.type_table.specs.declared.form.Member.{Member as NumberedMember}
use Rattle.type_table.specs.Forms.{first_member}
use Rattle.typed_tree.specs.Scopes.{AreDistinct}
use Rattle.typed_tree.specs.Typing.{names_of, tags_from}
use Rattle.type_rules.specs.Arms.{is_free, chosen_at, agrees, gives_arm}
use Rattle.type_rules.specs.Parts.{part_if, tags_part, tag_part, tag_at, tags_at}
use Rattle.typing_laws.specs.Casing.{IsFound, AreFound, IsChosen}

-- ---- lists

distinct_push : (xs : List ℕ) (x : ℕ) → AreDistinct xs → (Contains xs x → ⊥) → AreDistinct (xs ++ (x ∷ []))
distinct_push [] x d e = ((λ c. omega (arith, c.1)), tt)
distinct_push (y ∷ xs) x d e = (
  (λ c. elim (Contains-push_cases xs x y c) [ inl p ↦ d.0 p | inr p ↦ e (0, omega arith, sym p) ]),
  distinct_push xs x d.1 (λ c. e (Contains-append_right (y ∷ []) xs x c)),
)

-- ---- tags of arms

-- names with the place of their arm
abbrev placed : ℕ → List ℕ → List (ℕ × ℕ)
placed i names = map (λ x. (x, i)) names

tags_behind : (i : ℕ) (tags : List (List ℕ)) (names : List ℕ) → tags_from i (tags ++ (names ∷ [])) ≡ tags_from i tags ++ placed (i + length tags) names
tags_behind i [] names = append-nil (placed i names) ∙ ap (λ j. placed j names) (let e : i ≡ i + 0 = omega arith in e)
tags_behind i (t ∷ tags) names =
    let e : suc i + length tags ≡ i + suc (length tags) = omega arith in
    ap (λ l. placed i t ++ l) (tags_behind (suc i) tags names)
    ∙ ap (λ j. placed i t ++ (tags_from (suc i) tags ++ placed j names)) e
    ∙ sym (append_assoc (placed i t) (tags_from (suc i) tags) (placed (i + suc (length tags)) names))

tag_added : (tags : List (List ℕ)) (names : List ℕ) (x : ℕ) → tags_from 0 (tags ++ ((names ++ (x ∷ [])) ∷ [])) ≡ tags_from 0 (tags ++ (names ∷ [])) ++ ((x, length tags) ∷ [])
tag_added tags names x =
    let at : 0 + length tags ≡ length tags = omega arith in
    tags_behind 0 tags (names ++ (x ∷ []))
    ∙ ap (λ l. tags_from 0 tags ++ l) (map-append (λ y. (y, 0 + length tags)) names (x ∷ []))
    ∙ sym (append_assoc (tags_from 0 tags) (placed (0 + length tags) names) ((x, 0 + length tags) ∷ []))
    ∙ ap (λ l. l ++ ((x, 0 + length tags) ∷ [])) (sym (tags_behind 0 tags names))
    ∙ ap (λ j. tags_from 0 (tags ++ (names ∷ [])) ++ ((x, j) ∷ [])) at

-- an arm without tags
arm_added : (tags : List (List ℕ)) → tags_from 0 (tags ++ ([] ∷ [])) ≡ tags_from 0 tags
arm_added tags = tags_behind 0 tags [] ∙ append-nil (tags_from 0 tags)

names_placed : (i : ℕ) (names : List ℕ) → map (λ x. x.0) (placed i names) ≡ names
names_placed i [] = refl
names_placed i (x ∷ names) = ap (λ l. x ∷ l) (names_placed i names)

-- the tags without the places
pub tags_flat : (i : ℕ) (tags : List (List ℕ)) → map (λ x. x.0) (tags_from i tags) ≡ flat_map (λ names. names) tags
tags_flat i [] = refl
tags_flat i (t ∷ tags) =
    map-append (λ x. x.0) (placed i t) (tags_from (suc i) tags)
    ∙ ap (λ l. l ++ map (λ x. x.0) (tags_from (suc i) tags)) (names_placed i t)
    ∙ ap (λ l. t ++ l) (tags_flat (suc i) tags)

flat_still : (tags : List (List ℕ)) → flat_map (λ names. names) (tags ++ ([] ∷ [])) ≡ flat_map (λ names. names) tags
flat_still tags = flat_map-append (λ names. names) tags ([] ∷ []) ∙ append-nil (flat_map (λ names. names) tags)

flat_more : (tags : List (List ℕ)) (names : List ℕ) (x : ℕ) → flat_map (λ names. names) (tags ++ ((names ++ (x ∷ [])) ∷ [])) ≡ flat_map (λ names. names) (tags ++ (names ∷ [])) ++ (x ∷ [])
flat_more tags names x =
    flat_map-append (λ names. names) tags ((names ++ (x ∷ [])) ∷ [])
    ∙ ap (λ l. flat_map (λ names. names) tags ++ l) (append-nil (names ++ (x ∷ [])))
    ∙ sym (append_assoc (flat_map (λ names. names) tags) names (x ∷ []))
    ∙ ap (λ l. (flat_map (λ names. names) tags ++ l) ++ (x ∷ [])) (sym (append-nil names))
    ∙ ap (λ l. l ++ (x ∷ [])) (sym (flat_map-append (λ names. names) tags (names ∷ [])))

-- ---- tags that have an arm

free_at : (c : ℕ × ℕ) (cs : List (ℕ × ℕ)) (tag : ℕ) → tag ≡ c.0 → is_free (c ∷ cs) tag ≡ false
free_at c cs tag e = ap (λ b. if b then false else is_free cs tag) (eq-eqb tag c.0 e)

free_behind : (c : ℕ × ℕ) (cs : List (ℕ × ℕ)) (tag : ℕ) → is_free cs tag ≡ false → is_free (c ∷ cs) tag ≡ false
free_behind c cs tag e = by (nat_eq tag c.0)
  where
    by : (b : Bool) → (if b then false else is_free cs tag) ≡ false
    by true = refl
    by false = e

free_cases : (c : ℕ × ℕ) (cs : List (ℕ × ℕ)) (tag : ℕ) → is_free (c ∷ cs) tag ≡ false → (tag ≡ c.0) ⊎ (is_free cs tag ≡ false)
free_cases c cs tag e = by (nat_eq tag c.0) refl e
  where
    by : (b : Bool) → nat_eq tag c.0 ≡ b → (if b then false else is_free cs tag) ≡ false → (tag ≡ c.0) ⊎ (is_free cs tag ≡ false)
    by true h e = inl (eqb-true tag c.0 h)
    by false h e = inr e

contains_head : (x : ℕ) (xs : List ℕ) → Contains (x ∷ xs) x
contains_head x xs = Contains-append_left (x ∷ []) xs x (Contains-push [] x)

contains_behind : (y : ℕ) (xs : List ℕ) (x : ℕ) → Contains xs x → Contains (y ∷ xs) x
contains_behind y xs x c = Contains-append_right (y ∷ []) xs x c

contains_by : (y : ℕ) (xs : List ℕ) (x : ℕ) → Contains (y ∷ xs) x → (y ≡ x) ⊎ Contains xs x
contains_by y xs x c = elim (Contains-append_cases (y ∷ []) xs x c) [
  | inl here ↦ elim (Contains-push_cases [] y x here) [ inl none ↦ absurd (let n = none.1 in omega (arith, n)) | inr e ↦ inl e ]
  | inr later ↦ inr later
]

module _ (ms : List NumberedMember) where
  found_push : (xs cs : List (ℕ × ℕ)) (x c : ℕ × ℕ) → AreFound ms xs cs → IsFound ms x c → AreFound ms (xs ++ (x ∷ [])) (cs ++ (c ∷ []))
  found_push [] [] x c p q = (q, tt)
  found_push [] (d ∷ cs) x c p q = absurd p
  found_push (y ∷ xs) [] x c p q = absurd p
  found_push (y ∷ xs) (d ∷ cs) x c p q = (p.0, found_push xs cs x c p.1 q)

  -- a tag that is named has an arm
  pub named_taken : (xs cs : List (ℕ × ℕ)) → AreFound ms xs cs → (x : ℕ) → Contains (map (λ y. y.0) xs) x → (m : ℕ × ℕ) → first_member x 0 ms ≡ Some m → is_free cs m.0 ≡ false
  named_taken [] [] p x q m e = absurd (let n = q.1 in omega (arith, n))
  named_taken [] (c ∷ cs) p x q m e = absurd p
  named_taken (y ∷ xs) [] p x q m e = absurd p
  named_taken (y ∷ xs) (c ∷ cs) p x q m e = elim (contains_by y.0 (map (λ y. y.0) xs) x q) [
    | inl is ↦
        let r = p.0.0 in
        let same : m ≡ (c.0, r.0) = same_Some m (c.0, r.0) (sym e ∙ ap (λ z. first_member z 0 ms) (sym is) ∙ r.1) in
        free_at c cs m.0 (ap (λ k. k.0) same)
    | inr later ↦ free_behind c cs m.0 (named_taken xs cs p.1 x later m e)
  ]

  -- a tag that has an arm is named
  pub taken_named : (xs cs : List (ℕ × ℕ)) → AreFound ms xs cs → (j : ℕ) → is_free cs j ≡ false → (x content : ℕ) × (first_member x 0 ms ≡ Some (j, content)) × Contains (map (λ y. y.0) xs) x
  taken_named [] [] p j e = absurd cc
  taken_named [] (c ∷ cs) p j e = absurd p
  taken_named (y ∷ xs) [] p j e = absurd p
  taken_named (y ∷ xs) (c ∷ cs) p j e = elim (free_cases c cs j e) [
    | inl same ↦ let r = p.0.0 in (y.0, r.0, r.1 ∙ ap (λ k. Some (k, r.0)) (sym same), contains_head y.0 (map (λ y. y.0) xs))
    | inr later ↦ let r = taken_named xs cs p.1 j later in (r.0, r.1, r.2, contains_behind y.0 (map (λ y. y.0) xs) r.0 r.3)
  ]

  pub none_chosen : IsChosen ms [] []
  none_chosen = record { each = tt; distinct = tt }

  pub arm_begins : (arms : List (ℕ × ℕ)) (tags : List (List ℕ)) → IsChosen ms arms tags → IsChosen ms arms (tags ++ ([] ∷ []))
  arm_begins arms tags p = record {
    each = subst (λ l. AreFound ms l arms) (sym (arm_added tags)) p.each;
    distinct = subst AreDistinct (sym (flat_still tags)) p.distinct;
  }

  pub a_tag : (arms : List (ℕ × ℕ)) (tags : List (List ℕ)) (names : List ℕ) (x : ℕ) (m : ℕ × ℕ) → IsChosen ms arms (tags ++ (names ∷ [])) → first_member x 0 ms ≡ Some m → is_free arms m.0 ≡ true
      → IsChosen ms (arms ++ ((m.0, length tags) ∷ [])) (tags ++ ((names ++ (x ∷ [])) ∷ []))
  a_tag arms tags names x m p found free = record {
    each = subst (λ l. AreFound ms l (arms ++ ((m.0, length tags) ∷ []))) (sym (tag_added tags names x))
        (found_push (tags_from 0 (tags ++ (names ∷ []))) arms (x, length tags) (m.0, length tags) p.each ((m.1, found), refl));
    distinct = subst AreDistinct (sym (flat_more tags names x)) (distinct_push (flat_map (λ names. names) (tags ++ (names ∷ []))) x p.distinct
        (λ c. clash (is_free arms m.0) free (named_taken (tags_from 0 (tags ++ (names ∷ []))) arms p.each x (subst (λ l. Contains l x) (sym (tags_flat 0 (tags ++ (names ∷ [])))) c) m found)));
  }
    where
      clash : (b : Bool) → b ≡ true → b ≡ false → ⊥
      clash true e f = cc
      clash false e f = cc

-- ---- tags one after another

-- the members of a union by its number
union_by : (o : Option Form) (ms : List NumberedMember) → part_if tags_part o ≡ Some ms → o ≡ Some (form.Union ms)
union_by None ms e = absurd cc
union_by (Some form.Boolean) ms e = absurd cc
union_by (Some form.Character) ms e = absurd cc
union_by (Some form.Integer) ms e = absurd cc
union_by (Some form.Null) ms e = absurd cc
union_by (Some (form.Array n)) ms e = absurd cc
union_by (Some (form.Stream n)) ms e = absurd cc
union_by (Some (form.Record os)) ms e = absurd cc
union_by (Some (form.Union os)) ms e = ap (λ l. Some (form.Union l)) (same_Some os ms e)

pub union_at : (forms : List Form) (union : ℕ) (ms : List NumberedMember) → tags_at forms union ≡ Some ms → slice_get forms union ≡ Some (form.Union ms)
union_at forms union ms e = union_by (slice_get forms union) ms e

-- what the first of some tags does
pub record Gives (forms : List Form) (union arm line : ℕ) (content : Option ℕ) (arms : List (ℕ × ℕ)) (t : Named) (ts : List Named) (r : Option ℕ × List (ℕ × ℕ)) : Type 0 where
  pub place : ℕ × ℕ
  pub found : tag_at forms union t.name ≡ Some place
  pub free : is_free arms place.0 ≡ true
  pub same : agrees content place.1 ≡ true
  pub rest : gives_arm forms union arm line (Some place.1) (arms ++ ((place.0, arm) ∷ [])) ts ≡ Ok r

module _ (forms : List Form) (union arm line : ℕ) where
  -- what is done with a tag at a place
  abbrev pub goes_on : Option ℕ → Named → List Named → Option (ℕ × List (ℕ × ℕ)) → Result (Option ℕ × List (ℕ × ℕ)) ℕ
  goes_on content t ts o = elim o [
    | None ↦ Err t.line
    | Some c ↦ if agrees content c.0 then gives_arm forms union arm line (Some c.0) c.1 ts else Err line
  ]

  gives_by : (content : Option ℕ) (arms : List (ℕ × ℕ)) (t : Named) (ts : List Named) (r : Option ℕ × List (ℕ × ℕ)) (p : Option (ℕ × ℕ)) → tag_at forms union t.name ≡ p
      → goes_on content t ts (chosen_at arms arm p) ≡ Ok r → Gives forms union arm line content arms t ts r
  gives_by content arms t ts r None found e = absurd cc
  gives_by content arms t ts r (Some m) found e = by (is_free arms m.0) refl e
    where
      last : (b : Bool) → agrees content m.1 ≡ b → is_free arms m.0 ≡ true → (if b then gives_arm forms union arm line (Some m.1) (arms ++ ((m.0, arm) ∷ [])) ts else Err line) ≡ Ok r
          → Gives forms union arm line content arms t ts r
      last true same free e = record { place = m; found = found; free = free; same = same; rest = e }
      last false same free e = absurd cc

      by : (b : Bool) → is_free arms m.0 ≡ b → goes_on content t ts (if b then Some (m.1, arms ++ ((m.0, arm) ∷ [])) else None) ≡ Ok r → Gives forms union arm line content arms t ts r
      by true free e = last (agrees content m.1) refl free e
      by false free e = absurd cc

  pub gives : (content : Option ℕ) (arms : List (ℕ × ℕ)) (t : Named) (ts : List Named) (r : Option ℕ × List (ℕ × ℕ)) → gives_arm forms union arm line content arms (t ∷ ts) ≡ Ok r
      → Gives forms union arm line content arms t ts r
  gives content arms t ts r e = gives_by content arms t ts r (tag_at forms union t.name) refl e

same_ok : {A : Type 0} (a b : A) (x : Result A ℕ) → x ≡ Ok a → x ≡ Ok b → a ≡ b
same_ok a b (Ok c) p q = cc
same_ok a b (Err e) p q = absurd cc

some_is : (a b : ℕ) → Some a ≡ Some b → a ≡ b
some_is a b e = cc

none_is : (b : ℕ) → None ≡ Some b → ⊥
none_is b e = cc

-- the arms of all tags
module _ (forms : List Form) (union line : ℕ) (ms : List NumberedMember) (is_union : slice_get forms union ≡ Some (form.Union ms)) where
  tag_is : (x : ℕ) → tag_at forms union x ≡ first_member x 0 ms
  tag_is x = ap (part_if (tag_part x)) is_union

  pub arm_chosen : (before : List (List ℕ)) (names : List ℕ) (content : Option ℕ) (arms : List (ℕ × ℕ)) (ts : List Named) (r : Option ℕ × List (ℕ × ℕ))
      → IsChosen ms arms (before ++ (names ∷ [])) → gives_arm forms union (length before) line content arms ts ≡ Ok r → IsChosen ms r.1 (before ++ ((names ++ names_of ts) ∷ []))
  arm_chosen before names content arms [] r p e =
      let same : arms ≡ r.1 = ap (λ c. c.1) (same_ok (content, arms) r (gives_arm forms union (length before) line content arms []) refl e) in
      subst (λ l. IsChosen ms r.1 (before ++ (l ∷ []))) (sym (append-nil names)) (subst (λ a. IsChosen ms a (before ++ (names ∷ []))) same p)
  arm_chosen before names content arms (t ∷ ts) r p e =
      let g = gives forms union (length before) line content arms t ts r e in
      let one = a_tag ms arms before names t.name g.place p (sym (tag_is t.name) ∙ g.found) g.free in
      subst (λ l. IsChosen ms r.1 (before ++ (l ∷ []))) (append_assoc names (t.name ∷ []) (names_of ts))
      (arm_chosen before (names ++ (t.name ∷ [])) (Some g.place.1) (arms ++ ((g.place.0, length before) ∷ [])) ts r one g.rest)

-- the type of the content of each
pub data AreContents (forms : List Form) (union content : ℕ) : List Named → Type 0 where
  no_tag : AreContents forms union content []
  a_content : (t : Named) {ts : List Named} (place : ℕ) → tag_at forms union t.name ≡ Some (place, content) → AreContents forms union content ts → AreContents forms union content (t ∷ ts)

agree_is : (a b : ℕ) → agrees (Some a) b ≡ true → a ≡ b
agree_is a b e = eqb-true a b e

module _ (forms : List Form) (union arm line : ℕ) where
  contents_of : (a : ℕ) (arms : List (ℕ × ℕ)) (ts : List Named) (content : ℕ) (after : List (ℕ × ℕ)) → gives_arm forms union arm line (Some a) arms ts ≡ Ok (Some content, after)
      → (a ≡ content) × AreContents forms union content ts
  contents_of a arms [] content after e = (
    (let same = same_ok (Some a, arms) (Some content, after) (gives_arm forms union arm line (Some a) arms []) refl e in some_is a content (ap (λ c. c.0) same)),
    no_tag,
  )
  contents_of a arms (t ∷ ts) content after e =
      let g = gives forms union arm line (Some a) arms t ts (Some content, after) e in
      let r = contents_of g.place.1 (arms ++ ((g.place.0, arm) ∷ [])) ts content after g.rest in (
        agree_is a g.place.1 g.same ∙ r.0,
        a_content t g.place.0 (g.found ∙ ap (λ n. Some (g.place.0, n)) r.0) r.1,
      )

  -- there is a tag, and all contents are of that type
  pub all_contents : (arms : List (ℕ × ℕ)) (ts : List Named) (content : ℕ) (after : List (ℕ × ℕ)) → gives_arm forms union arm line None arms ts ≡ Ok (Some content, after)
      → (place x : ℕ) × (tag_at forms union x ≡ Some (place, content)) × AreContents forms union content ts
  all_contents arms [] content after e = absurd (none_is content (ap (λ c. c.0) (same_ok (None, arms) (Some content, after) (gives_arm forms union arm line None arms []) refl e)))
  all_contents arms (t ∷ ts) content after e =
      let g = gives forms union arm line None arms t ts (Some content, after) e in
      let r = contents_of g.place.1 (arms ++ ((g.place.0, arm) ∷ [])) ts content after g.rest in
      let here = g.found ∙ ap (λ n. Some (g.place.0, n)) r.0 in
      (g.place.0, t.name, here, a_content t g.place.0 here r.1)
