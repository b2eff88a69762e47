-- What `tagcase` keeps of its tags fits: the arm of each tag is there, and sees contents of the type of its tag.
use Rattle.std.proofs.Common.{◌≡◌, ◌⊎◌, inl, inr, ℕ, zero, suc, ◌+◌, ◌<◌, ◌≤◌, Bool, true, false, List, [], ◌∷◌, ◌++◌, nat_eq, map, flat_map, All, Contains, Option, Some, None, slice_get, length, refl, sym, ap, subst, ◌∙◌, arith}
use Rattle.std.specs.Prelude.{if◌then◌else◌}
use Rattle.std.proofs.lemmas.Option.{same_Some, none-some, slice_get_within}
use Rattle.std.proofs.lemmas.Bool.{eqb-true, eq-eqb}
use Rattle.std.proofs.lemmas.List.Elements.{All-nil, All-cons, All-head, All-tail, All-contains, Contains-append_left, Contains-append_right, Contains-append_cases, Contains-push, Contains-push_cases}
use Rattle.flow_value.specs.declared.ty.Ty.{Ty}
use Rattle.sisal_tree.specs.declared.unit.Written.{Written}
use Rattle.sisal_tree.specs.declared.expr.Expr.{Expr}
use Rattle.sisal_tree.specs.declared.expr.Arm.{Arm}
use Rattle.typed_tree.specs.declared.expr.Choice.{Choice}
use Rattle.typed_tree.specs.declared.expr.TypedExpr.{TypedExpr}
use Rattle.typed_tree.specs.Scopes.{Scope, AreDistinct}
use Rattle.typed_tree.specs.Types.{Member}
use Rattle.typed_tree.specs.Typing as rule
use Rattle.typed_tree.specs.Typing.{Known, IsSpelled, Has, IsTag, AreChoices, AreAllNamed, AreArms, IsOtherwise, tags_from, names_of, named_arms}
use Rattle.meaning.specs.Meaning.{arm_place}
use Rattle.fitting_trees.specs.Fitting.{TagsFit, IsChosen}
use Rattle.fitting_units.proofs.Walk.{Contents}

-- ---- elements

pub first : (xs : List ℕ) (x : ℕ) → Contains (x ∷ xs) x
first xs x = Contains-append_left (x ∷ []) xs x (Contains-push [] x)

pub further : (y : ℕ) (xs : List ℕ) (x : ℕ) → Contains xs x → Contains (y ∷ xs) x
further y xs x c = Contains-append_right (y ∷ []) xs x c

nothing_in : (x : ℕ) → Contains [] x → ⊥
nothing_in x c = let l = c.1 in omega (arith, l)

-- a tag with the place of its arm
pub data Among : List (ℕ × ℕ) → ℕ → ℕ → Type 0 where
  this : {xs : List (ℕ × ℕ)} (x i : ℕ) → Among ((x, i) ∷ xs) x i
  later : {y : ℕ × ℕ} {xs : List (ℕ × ℕ)} {x i : ℕ} → Among xs x i → Among (y ∷ xs) x i

split : (from : ℕ) (names : List ℕ) (xs : List (ℕ × ℕ)) (x i : ℕ) → Among (map (λ y. (y, from)) names ++ xs) x i → ((i ≡ from) × Contains names x) ⊎ Among xs x i
split from [] xs x i m = inr m
split from (n ∷ names) xs x i m = by (map (λ y. (y, from)) names ++ xs) x i (split from names xs x i) m
  where
    by : (ys : List (ℕ × ℕ)) (x i : ℕ) → (Among ys x i → ((i ≡ from) × Contains names x) ⊎ Among xs x i) → Among ((n, from) ∷ ys) x i → ((i ≡ from) × Contains (n ∷ names) x) ⊎ Among xs x i
    by ys _ _ f (this x i) = inl (refl, first names n)
    by ys x i f (later m) = elim (f m) [
      | inl p ↦ inl (p.0, further n names x p.1)
      | inr q ↦ inr q
    ]

among_left : (from : ℕ) (names : List ℕ) (xs : List (ℕ × ℕ)) (x : ℕ) → Contains names x → Among (map (λ y. (y, from)) names ++ xs) x from
among_left from [] xs x c = absurd (nothing_in x c)
among_left from (n ∷ names) xs x c = elim (Contains-append_cases (n ∷ []) names x c) [
  | inl p ↦ elim (Contains-push_cases [] n x p) [
    | inl q ↦ absurd (nothing_in x q)
    | inr e ↦ subst (λ z. Among ((n, from) ∷ (map (λ y. (y, from)) names ++ xs)) z from) e (this n from)
  ]
  | inr q ↦ later (among_left from names xs x q)
]

among_right : (from : ℕ) (names : List ℕ) (xs : List (ℕ × ℕ)) (x i : ℕ) → Among xs x i → Among (map (λ y. (y, from)) names ++ xs) x i
among_right from [] xs x i m = m
among_right from (n ∷ names) xs x i m = later (among_right from names xs x i m)

among_flat : (from : ℕ) (tags : List (List ℕ)) (x : ℕ) → Contains (flat_map (λ names. names) tags) x → (i : ℕ) × Among (tags_from from tags) x i
among_flat from [] x c = absurd (nothing_in x c)
among_flat from (names ∷ tags) x c = elim (Contains-append_cases names (flat_map (λ names. names) tags) x c) [
  | inl p ↦ (from, among_left from names (tags_from (suc from) tags) x p)
  | inr q ↦ let rest = among_flat (suc from) tags x q in (rest.0, among_right from names (tags_from (suc from) tags) x rest.0 rest.1)
]

among_within : (from : ℕ) (tags : List (List ℕ)) (x i : ℕ) → Among (tags_from from tags) x i → (from ≤ i) × (i < from + length tags)
among_within from [] x i m = elim m [ ]
among_within from (names ∷ tags) x i m = elim (split from names (tags_from (suc from) tags) x i m) [
  | inl p ↦ let e = p.0 in (omega (arith, e), omega (arith, e))
  | inr q ↦ let r = among_within (suc from) tags x i q in let l = r.0 in let h = r.1 in (omega (arith, l), omega (arith, h))
]

-- ---- tags that stand once

distinct_right : (xs ys : List ℕ) → AreDistinct (xs ++ ys) → AreDistinct ys
distinct_right [] ys d = d
distinct_right (x ∷ xs) ys d = distinct_right xs ys d.1

distinct_apart : (xs ys : List ℕ) → AreDistinct (xs ++ ys) → (x : ℕ) → Contains xs x → Contains ys x → ⊥
distinct_apart [] ys d x p q = nothing_in x p
distinct_apart (y ∷ xs) ys d x p q = elim (Contains-append_cases (y ∷ []) xs x p) [
  | inl l ↦ elim (Contains-push_cases [] y x l) [
    | inl n ↦ nothing_in x n
    | inr e ↦ d.0 (subst (λ z. Contains (xs ++ ys) z) (sym e) (Contains-append_right xs ys x q))
  ]
  | inr r ↦ distinct_apart xs ys d.1 x r q
]

among_contains : (from : ℕ) (tags : List (List ℕ)) (x i : ℕ) → Among (tags_from from tags) x i → Contains (flat_map (λ names. names) tags) x
among_contains from [] x i m = elim m [ ]
among_contains from (names ∷ tags) x i m = elim (split from names (tags_from (suc from) tags) x i m) [
  | inl p ↦ Contains-append_left names (flat_map (λ names. names) tags) x p.1
  | inr q ↦ Contains-append_right names (flat_map (λ names. names) tags) x (among_contains (suc from) tags x i q)
]

among_one : (from : ℕ) (tags : List (List ℕ)) → AreDistinct (flat_map (λ names. names) tags) → (x i j : ℕ) → Among (tags_from from tags) x i → Among (tags_from from tags) x j → i ≡ j
among_one from [] d x i j m n = elim m [ ]
among_one from (names ∷ tags) d x i j m n =
    by (among_one (suc from) tags (distinct_right names (flat_map (λ names. names) tags) d) x i j) (split from names (tags_from (suc from) tags) x i m) (split from names (tags_from (suc from) tags) x j n)
  where
    by : (Among (tags_from (suc from) tags) x i → Among (tags_from (suc from) tags) x j → i ≡ j) → ((i ≡ from) × Contains names x) ⊎ Among (tags_from (suc from) tags) x i → ((j ≡ from) × Contains names x) ⊎ Among (tags_from (suc from) tags) x j → i ≡ j
    by f (inl p) (inl q) = p.0 ∙ sym q.0
    by f (inl p) (inr q) = absurd (distinct_apart names (flat_map (λ names. names) tags) d x p.1 (among_contains (suc from) tags x j q))
    by f (inr p) (inl q) = absurd (distinct_apart names (flat_map (λ names. names) tags) d x q.1 (among_contains (suc from) tags x i p))
    by f (inr p) (inr q) = f p q

module _ (k : Known) (ms : List Member) where
  content_at : (y : ℕ) (from : ℕ) (tags : List (List ℕ)) (contents : List Ty) → Contents k (Some y) ms tags contents → (x i : ℕ) → Among (tags_from from tags) x i → (d : ℕ) → i ≡ from + d → (a : Ty) → slice_get contents d ≡ Some a → IsTag k ms x a
  content_at y from [] contents t x i m d e a g = elim m [ ]
  content_at y from (names ∷ tags) [] t x i m d e a g = absurd t
  content_at y from (names ∷ tags) (b ∷ contents) t x i m zero e a g = elim (split from names (tags_from (suc from) tags) x i m) [
    | inl p ↦ subst (λ z. IsTag k ms x z) (same_Some b a g) (All-contains (λ tag. IsTag k ms tag b) names x t.0 p.1)
    | inr q ↦ let l = (among_within (suc from) tags x i q).0 in absurd (omega (arith, l, e))
  ]
  content_at y from (names ∷ tags) (b ∷ contents) t x i m (suc d) e a g = elim (split from names (tags_from (suc from) tags) x i m) [
    | inl p ↦ let f = p.0 in absurd (omega (arith, e, f))
    | inr q ↦ content_at y (suc from) tags contents t.1 x i q d (omega (arith, e)) a g
  ]

  contents_counted : (y : ℕ) (tags : List (List ℕ)) (contents : List Ty) → Contents k (Some y) ms tags contents → length contents ≡ length tags
  contents_counted y [] [] t = refl
  contents_counted y [] (a ∷ contents) t = absurd t
  contents_counted y (names ∷ tags) [] t = absurd t
  contents_counted y (names ∷ tags) (a ∷ contents) t = ap suc (contents_counted y tags contents t.1)

  pub choice_for : (xs : List (ℕ × ℕ)) (cs : List Choice) → AreChoices k ms xs cs → (x i : ℕ) → Among xs x i → Contains (map (λ c. c.arm) cs) i
  choice_for [] cs p x i m = elim m [ ]
  choice_for (y ∷ xs) [] p x i m = absurd p
  choice_for (y ∷ xs) (c ∷ cs) p x i m = by y p.0.1 (λ x i m. choice_for xs cs p.1 x i m) x i m
    where
      by : (y : ℕ × ℕ) → c.arm ≡ y.1 → ((x i : ℕ) → Among xs x i → Contains (map (λ c. c.arm) cs) i) → (x i : ℕ) → Among (y ∷ xs) x i → Contains (c.arm ∷ map (λ c. c.arm) cs) i
      by _ e f _ _ (this x i) = subst (λ z. Contains (c.arm ∷ map (λ c. c.arm) cs) z) e (first (map (λ c. c.arm) cs) c.arm)
      by y e f x i (later m) = further c.arm (map (λ c. c.arm) cs) i (f x i m)

  -- the arm of a tag that is named, or that of all others
  pub record IsNamedAt (xs : List (ℕ × ℕ)) (cs : List Choice) (others j : ℕ) : Type 0 where
    pub name : ℕ
    pub place : ℕ
    pub content : Ty
    pub among : Among xs name place
    pub has : Has k ms name j content
    pub chosen : arm_place cs others j ≡ place

  pub record IsUnnamedAt (xs : List (ℕ × ℕ)) (cs : List Choice) (others j : ℕ) : Type 0 where
    pub chosen : arm_place cs others j ≡ others
    pub none : (x i : ℕ) (content : Ty) → Among xs x i → Has k ms x j content → ⊥

  module _ (one : (i j : ℕ) (s : List ℕ) (a b : Ty) → slice_get ms i ≡ Some (s, a) → slice_get ms j ≡ Some (s, b) → i ≡ j) where
    same_place : (x i j : ℕ) (a b : Ty) → Has k ms x i a → Has k ms x j b → i ≡ j
    same_place x i j a b g h =
        let same = same_Some g.spelling h.spelling (sym g.spelled ∙ h.spelled) in
        one i j h.spelling a b (subst (λ s. slice_get ms i ≡ Some (s, a)) same g.member) h.member

    found : (xs : List (ℕ × ℕ)) (cs : List Choice) → AreChoices k ms xs cs → (others j : ℕ) → IsNamedAt xs cs others j ⊎ IsUnnamedAt xs cs others j
    found [] [] p others j = inr (record { chosen = refl; none = λ x i content m h. nobody x i m })
      where
        nobody : (x i : ℕ) → Among [] x i → ⊥
        nobody x i m = elim m [ ]
    found [] (c ∷ cs) p others j = absurd p
    found (x ∷ xs) [] p others j = absurd p
    found (x ∷ xs) (c ∷ cs) p others j = by (nat_eq c.tag j) refl (found xs cs p.1 others j)
      where
        by : (b : Bool) → nat_eq c.tag j ≡ b → IsNamedAt xs cs others j ⊎ IsUnnamedAt xs cs others j → IsNamedAt (x ∷ xs) (c ∷ cs) others j ⊎ IsUnnamedAt (x ∷ xs) (c ∷ cs) others j
        by true e rest =
            inl (record {
              name = x.0;
              place = x.1;
              content = p.0.0.0;
              among = this x.0 x.1;
              has = subst (λ z. Has k ms x.0 z p.0.0.0) (eqb-true c.tag j e) p.0.0.1;
              chosen = ap (λ b. if b then c.arm else arm_place cs others j) e ∙ p.0.1;
            })
        by false e (inl f) = inl (record { name = f.name; place = f.place; content = f.content; among = later f.among; has = f.has; chosen = ap (λ b. if b then c.arm else arm_place cs others j) e ∙ f.chosen })
        by false e (inr f) = inr (record { chosen = ap (λ b. if b then c.arm else arm_place cs others j) e ∙ f.chosen; none = λ y i content m h. cases x p.0.0.1 y i content m h })
          where
            cases : (x : ℕ × ℕ) → Has k ms x.0 c.tag p.0.0.0 → (y i : ℕ) (content : Ty) → Among (x ∷ xs) y i → Has k ms y j content → ⊥
            cases _ g _ _ content (this y i) h = differ (same_place y c.tag j p.0.0.0 content g h)
              where
                differ : c.tag ≡ j → ⊥
                differ s = let t = eq-eqb c.tag j s in absurd cc
            cases x g y i content (later m) h = f.none y i content m h

    -- a tag that is named once has the arm that names it
    module _ (spelled_once : (i j : ℕ) (s : List ℕ) → slice_get k.spellings i ≡ Some s → slice_get k.spellings j ≡ Some s → i ≡ j) (tags : List (List ℕ)) (distinct : AreDistinct (flat_map (λ names. names) tags)) (cs : List Choice) (chooses : AreChoices k ms (tags_from 0 tags) cs) (others : ℕ) where
      own_arm : (y i tag : ℕ) (content : Ty) → Among (tags_from 0 tags) y i → Has k ms y tag content → arm_place cs others tag ≡ i
      own_arm y i tag content a h = by (found (tags_from 0 tags) cs chooses others tag)
        where
          same_name : (x : ℕ) (b : Ty) → Has k ms x tag b → x ≡ y
          same_name x b g =
              let same : g.spelling ≡ h.spelling = ap (λ m. m.0) (same_Some (g.spelling, b) (h.spelling, content) (sym g.member ∙ h.member)) in
              spelled_once x y h.spelling (g.spelled ∙ ap Some same) h.spelled

          by : IsNamedAt (tags_from 0 tags) cs others tag ⊎ IsUnnamedAt (tags_from 0 tags) cs others tag → arm_place cs others tag ≡ i
          by (inl f) = f.chosen ∙ among_one 0 tags distinct y f.place i (subst (λ z. Among (tags_from 0 tags) z f.place) (same_name f.name f.content f.has) f.among) a
          by (inr f) = absurd (f.none y i content a h)

      pub each_chosen : (named arms : ℕ) (xs : List (ℕ × ℕ)) (ds : List Choice) → AreChoices k ms xs ds → ((y i : ℕ) → Among xs y i → Among (tags_from 0 tags) y i) → All (λ x. x.1 < arms) xs
          → All (IsChosen (record { named = named; choices = cs; others = others }) arms (length ms)) ds
      each_chosen named arms [] [] p f w = All-nil (IsChosen (record { named = named; choices = cs; others = others }) arms (length ms))
      each_chosen named arms [] (c ∷ ds) p f w = absurd p
      each_chosen named arms (x ∷ xs) [] p f w = absurd p
      each_chosen named arms (x ∷ xs) (c ∷ ds) p f w =
          let h = p.0.0.1 in
          All-cons (IsChosen (record { named = named; choices = cs; others = others }) arms (length ms)) c ds
          (record {
            within = subst (λ i. i < arms) (sym p.0.1) (All-head (λ x. x.1 < arms) x xs w);
            tag = slice_get_within ms c.tag (h.spelling, p.0.0.0) h.member;
            own = own_arm x.0 x.1 c.tag p.0.0.0 (f x.0 x.1 (this x.0 x.1)) h ∙ sym p.0.1;
          })
          (each_chosen named arms xs ds p.1 (λ y i m. f y i (later m)) (All-tail (λ x. x.1 < arms) x xs w))

-- ---- arms

placed_below : (i n : ℕ) (names : List ℕ) → i < n → (xs : List (ℕ × ℕ)) → All (λ x. x.1 < n) xs → All (λ x. x.1 < n) (map (λ x. (x, i)) names ++ xs)
placed_below i n [] lt xs p = p
placed_below i n (x ∷ names) lt xs p = All-cons (λ x. x.1 < n) (x, i) (map (λ x. (x, i)) names ++ xs) lt (placed_below i n names lt xs p)

pub tags_below : (i n : ℕ) (tags : List (List ℕ)) → i + length tags ≤ n → All (λ x. x.1 < n) (tags_from i tags)
tags_below i n [] e = All-nil (λ x. x.1 < n)
tags_below i n (t ∷ tags) e = placed_below i n t (omega (arith, e)) (tags_from (suc i) tags) (tags_below (suc i) n tags (omega (arith, e)))

module _ (k : Known) (denotes : Written → Ty → Type 0) where
  pub arms_counted : (s : Scope) (x : Option ℕ) (ms : List Member) (tys : List Ty) (arms : List Arm) (us : List (List TypedExpr)) (tags : List (List ℕ)) → AreArms k denotes s x ms tys arms us tags
      → (length us ≡ length tags) × (length arms ≡ length tags)
  arms_counted s x ms tys _ _ _ rule.no_arm = (refl, refl)
  arms_counted s x ms tys _ _ _ (rule.an_arm l content names {arms = arms} {typed_arms = us} {tags = tags} o t p q) = let r = arms_counted s x ms tys arms us tags q in (ap suc r.0, ap suc r.1)

  -- each arm has a tag
  pub reach : (s : Scope) (x : Option ℕ) (ms : List Member) (tys : List Ty) (arms : List Arm) (us : List (List TypedExpr)) (tags : List (List ℕ)) → AreArms k denotes s x ms tys arms us tags
      → (from i j : ℕ) → j ≡ from + i → i < length tags → (y : ℕ) × Among (tags_from from tags) y j
  reach s x ms tys _ _ _ rule.no_arm from i j e l = absurd (omega (arith, l))
  reach s x ms tys _ _ _ (rule.an_arm l content [] {tags = tags} o t p q) from i j e h = absurd (o refl)
  reach s x ms tys _ _ _ (rule.an_arm l content (n ∷ names) {tags = tags} o t p q) from zero j e h =
      let same : from ≡ j = omega (arith, e) in (n.name, subst (λ z. Among (tags_from from (names_of (n ∷ names) ∷ tags)) n.name z) same (this n.name from))
  reach s x ms tys _ _ _ (rule.an_arm l content (n ∷ names) {arms = arms} {typed_arms = us} {tags = tags} o t p q) from (suc i) j e h =
      let rest = reach s x ms tys arms us tags q (suc from) i j (omega (arith, e)) (omega (arith, h)) in (rest.0, among_right from (names_of (n ∷ names)) (tags_from (suc from) tags) rest.0 j rest.1)

  pub last_counted : (s : Scope) (tys : List Ty) (es : List Expr) (other : Option (List Expr)) (last : List (List TypedExpr)) → IsOtherwise k denotes s tys other last → other ≡ Some es → length last ≡ 1
  last_counted s tys es _ _ rule.no_otherwise e = absurd cc
  last_counted s tys es _ _ (rule.otherwise p) e = refl

  named_later : (tags : List (List ℕ)) (m : Member) (ms : List Member) (other : Option (List Expr)) → AreAllNamed k tags (m ∷ ms) other → AreAllNamed k tags ms other
  named_later tags m ms None all = All-tail (λ m. (x : ℕ) × IsSpelled k x m.0 × Contains (flat_map (λ tags. tags) tags) x) m ms all
  named_later tags m ms (Some es) all = tt

  module _ (x : Option ℕ) (ms : List Member) (one : (i j : ℕ) (s : List ℕ) (a b : Ty) → slice_get ms i ≡ Some (s, a) → slice_get ms j ≡ Some (s, b) → i ≡ j)
      (tags : List (List ℕ)) (contents : List Ty) (told : Contents k x ms tags contents) (cs : List Choice) (chooses : AreChoices k ms (tags_from 0 tags) cs) (other : Option (List Expr)) (n : ℕ)
      (many : length tags ≤ n) (more : (es : List Expr) → other ≡ Some es → length tags < n) where
    seen_at : (x : Option ℕ) → Contents k x ms tags contents → (y i : ℕ) → Among (tags_from 0 tags) y i → (a : Ty) → slice_get contents i ≡ Some a → IsTag k ms y a
    seen_at (Some z) t y i m a e = content_at k ms z 0 tags contents t y i m i (omega arith) a e
    seen_at None t y i m a e = nothing contents t e
      where
        nothing : (contents : List Ty) → Contents k None ms tags contents → slice_get contents i ≡ Some a → IsTag k ms y a
        nothing [] t e = absurd (none-some a e)
        nothing (b ∷ contents) t e = absurd t

    unseen_at : (x : Option ℕ) (contents : List Ty) → Contents k x ms tags contents → (a : Ty) → slice_get contents (length tags) ≡ Some a → ⊥
    unseen_at None [] t a e = none-some a e
    unseen_at None (b ∷ contents) t a e = t
    unseen_at (Some y) contents t a e = let l = slice_get_within contents (length tags) a e in let c = contents_counted k ms y tags contents t in omega (arith, l, c)

    tag_fits : (j : ℕ) (m : Member) (rest : List Member) → slice_get ms j ≡ Some m → AreAllNamed k tags (m ∷ rest) other
        → (arm_place cs (length tags) j < n) × ((a : Ty) → slice_get contents (arm_place cs (length tags) j) ≡ Some a → a ≡ m.1)
    tag_fits j m rest there all = by other all more (found k ms one (tags_from 0 tags) cs chooses (length tags) j)
      where
        by : (other : Option (List Expr)) → AreAllNamed k tags (m ∷ rest) other → ((es : List Expr) → other ≡ Some es → length tags < n) → IsNamedAt k ms (tags_from 0 tags) cs (length tags) j ⊎ IsUnnamedAt k ms (tags_from 0 tags) cs (length tags) j
            → (arm_place cs (length tags) j < n) × ((a : Ty) → slice_get contents (arm_place cs (length tags) j) ≡ Some a → a ≡ m.1)
        by other all more (inl f) =
            let l = (among_within 0 tags f.name f.place f.among).1 in (
              subst (λ z. z < n) (sym f.chosen) (omega (arith, l, many)),
              λ a e.
                  let tag = seen_at x told f.name f.place f.among a (subst (λ z. slice_get contents z ≡ Some a) f.chosen e) in
                  let same = same_place k ms one f.name tag.0 j a f.content tag.1 f.has in
                  let here = subst (λ z. slice_get ms z ≡ Some (tag.1.spelling, a)) same tag.1.member in
                  ap (λ m. m.1) (same_Some (tag.1.spelling, a) m (sym here ∙ there)),
            )
        by None all more (inr f) =
            let named = All-head (λ m. (x : ℕ) × IsSpelled k x m.0 × Contains (flat_map (λ tags. tags) tags) x) m rest all in
            let among = among_flat 0 tags named.0 named.2 in
            absurd (f.none named.0 among.0 m.1 among.1 (record { spelling = m.0; spelled = named.1; member = there }))
        by (Some es) all more (inr f) =
            let l = more es refl in
            (subst (λ z. z < n) (sym f.chosen) l, λ a e. absurd (unseen_at x contents told a (subst (λ z. slice_get contents z ≡ Some a) f.chosen e)))

    pub each_fits : (named from : ℕ) (rest : List Member) → ((d j : ℕ) → j ≡ from + d → slice_get ms j ≡ slice_get rest d) → AreAllNamed k tags rest other
        → TagsFit n contents (record { named = named; choices = cs; others = length tags }) from rest
    each_fits named from [] at all = tt
    each_fits named from (m ∷ rest) at all =
        let here = tag_fits from m rest (at 0 from (omega arith)) all in
        (here.0, here.1, each_fits named (suc from) rest (λ d j e. at (suc d) j (omega (arith, e))) (named_later tags m rest other all))
