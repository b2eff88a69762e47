-- Wires that carry what the types of a fitting tree say, each a literal or a port.
use Rattle.std.proofs.Common.{◌≡◌, ℕ, zero, suc, ◌+◌, ◌<◌, inl, inr, Bool, true, false, List, [], ◌∷◌, ◌++◌, nat_eq, map, length, drop, slice_get, Contains, Option, Some, None, refl, sym, ap, subst, ◌∙◌, arith}
use Rattle.std.specs.Prelude.{All, if◌then◌else◌, slice_set}
use Rattle.std.proofs.lemmas.Bool.{eqb-true, eq-eqb}
use Rattle.std.proofs.lemmas.Option.{same_Some}
use Rattle.std.proofs.lemmas.List.Elements.{All-head, All-tail, Contains-append_cases, Contains-push_cases}
use Rattle.flow_value.specs.declared.ty.Ty.{Ty}
use Rattle.flow_value.specs.declared.ty.Ty.TheVariants as ty
use Rattle.flow_value.specs.declared.ty.Ty.TheOpen.{Ty-F}
use Rattle.flow_value.specs.declared.ty.Ty.TheViews.{out-Ty}
use Rattle.sisal_tree.specs.declared.expr.Constant.{Constant}
use Rattle.type_table.specs.declared.form.Form.{Form}
use Rattle.type_table.specs.declared.form.Member.{Member as NumberedMember}
use Rattle.type_table.specs.Tables.{members_if}
use Rattle.typed_tree.specs.declared.expr.Case.{Case}
use Rattle.typed_tree.specs.declared.expr.Choice.{Choice}
use Rattle.typed_tree.specs.Types.{Member, IsNumber, AreMembers, AreNumbers}
use Rattle.typed_tree.specs.Types as number
use Rattle.lowering.specs.Meaning.{arm_place}
use Rattle.fitting_trees.specs.Fitting.{IsChosen, TagsFit, Renews}
use Rattle.lowering.specs.declared.feed.Feed.{Feed}
use Rattle.lowering.specs.declared.feed.Feed.TheVariants.{Literal, Named, Absent, Port}
use Rattle.lowering.specs.declared.feed.Carried.{Carried}
use Rattle.lowering.specs.declared.feed.Carried.TheVariants.{One, Many, Callee}
use Rattle.lowering.specs.declared.feed.Wire.{Wire}
use Rattle.lowering.specs.Feeds.{wire, inside, into}
use Rattle.lowering.specs.Graphs.{ports}
use Rattle.lowering.specs.Operations.{wire_at}
use Rattle.lowering.specs.Choices.{element_in, element_of, is_array, is_array_form, type_in, content_of, type_of, tag_named, first_tag}
use Rattle.lowering.specs.Loops.{single, types, take_up, renew, renew_one}
use Rattle.lowered_units.proofs.BuiltTrees.{out-bool, out-char, out-int, out-null, out-array, out-stream, out-record, out-union}

-- what a line shows: a literal or a port
abbrev pub IsShown : Feed → Type 0
IsShown (Literal c) = Unit {0}
IsShown (Named s) = ⊥
IsShown Absent = ⊥
IsShown (Port up n q) = Unit {0}

shown-inside : (f : Feed) → IsShown f → IsShown (inside f)
shown-inside (Literal c) h = h
shown-inside (Named s) h = h
shown-inside Absent h = h
shown-inside (Port up n q) h = h

module _ (forms : List Form) (names : List (List ℕ)) where
  abbrev pub IsTyped : Carried → Ty → Type 0
  IsTyped (One n) t = IsNumber forms names n t
  IsTyped (Many n) t = ⊥
  IsTyped (Callee f) t = ⊥

  abbrev pub IsWired : Wire → Ty → Type 0
  IsWired w t = IsTyped w.ty t × IsShown w.feed

  abbrev pub AreTyped : List Wire → List Ty → Type 0
  AreTyped [] [] = Unit {0}
  AreTyped (w ∷ ws) (t ∷ ts) = IsWired w t × AreTyped ws ts
  AreTyped [] (t ∷ ts) = ⊥
  AreTyped (w ∷ ws) [] = ⊥

  -- ---- lists

  pub typed-length : (ws : List Wire) (ts : List Ty) → AreTyped ws ts → length ws ≡ length ts
  typed-length [] [] h = refl
  typed-length [] (t ∷ ts) h = absurd h
  typed-length (w ∷ ws) [] h = absurd h
  typed-length (w ∷ ws) (t ∷ ts) h = ap suc (typed-length ws ts h.1)

  pub typed-both : (vs ws : List Wire) (ts us : List Ty) → AreTyped vs ts → AreTyped ws us → AreTyped (vs ++ ws) (ts ++ us)
  typed-both [] ws [] us a b = b
  typed-both [] ws (t ∷ ts) us a b = absurd a
  typed-both (v ∷ vs) ws [] us a b = absurd a
  typed-both (v ∷ vs) ws (t ∷ ts) us a b = (a.0, typed-both vs ws ts us a.1 b)

  pub typed-into : (ws : List Wire) (ts : List Ty) → AreTyped ws ts → AreTyped (map into ws) ts
  typed-into [] [] h = h
  typed-into [] (t ∷ ts) h = absurd h
  typed-into (w ∷ ws) [] h = absurd h
  typed-into (w ∷ ws) (t ∷ ts) h = ((h.0.0, shown-inside w.feed h.0.1), typed-into ws ts h.1)

  pub typed-at : (ws : List Wire) (ts : List Ty) → AreTyped ws ts → (x : ℕ) (a : Ty) → slice_get ts x ≡ Some a → IsWired (wire_at ws x) a
  typed-at [] [] h x a e = absurd cc
  typed-at [] (t ∷ ts) h x a e = absurd h
  typed-at (w ∷ ws) [] h x a e = absurd h
  typed-at (w ∷ ws) (t ∷ ts) h zero a e = subst (IsWired w) (same_Some t a e) h.0
  typed-at (w ∷ ws) (t ∷ ts) h (suc x) a e = typed-at ws ts h.1 x a e

  -- behind the first so many
  pub typed-drop : (ts us : List Ty) (ws : List Wire) (n : ℕ) → length ts ≡ n → AreTyped ws (ts ++ us) → AreTyped (drop n ws) us
  typed-drop [] us ws zero e h = h
  typed-drop [] us ws (suc n) e h = absurd (omega (arith, e))
  typed-drop (t ∷ ts) us ws zero e h = absurd (omega (arith, e))
  typed-drop (t ∷ ts) us [] (suc n) e h = absurd h
  typed-drop (t ∷ ts) us (w ∷ ws) (suc n) e h = typed-drop ts us ws n (omega (arith, e)) h.1

  -- and before them
  pub typed-take : (ts us : List Ty) (ws : List Wire) (n : ℕ) → length ts ≡ n → AreTyped ws (ts ++ us) → AreTyped (take_up n ws) ts
  typed-take [] us ws zero e h = tt
  typed-take [] us ws (suc n) e h = absurd (omega (arith, e))
  typed-take (t ∷ ts) us ws zero e h = absurd (omega (arith, e))
  typed-take (t ∷ ts) us [] (suc n) e h = absurd h
  typed-take (t ∷ ts) us (w ∷ ws) (suc n) e h = (h.0, typed-take ts us ws n (omega (arith, e)) h.1)

  pub typed-ports : (ns : List ℕ) (ts : List Ty) → AreNumbers forms names ns ts → (n port : ℕ) → AreTyped (ports n port (map One ns)) ts
  typed-ports [] [] h n port = tt
  typed-ports [] (t ∷ ts) h n port = absurd h
  typed-ports (x ∷ ns) [] h n port = absurd h
  typed-ports (x ∷ ns) (t ∷ ts) h n port = ((h.0, tt), typed-ports ns ts h.1 n (suc port))

  pub typed-literals : (c : Constant) (ns : List ℕ) (ts : List Ty) → AreNumbers forms names ns ts → AreTyped (map (λ t. wire (Literal c) (One t)) ns) ts
  typed-literals c [] [] h = tt
  typed-literals c [] (t ∷ ts) h = absurd h
  typed-literals c (x ∷ ns) [] h = absurd h
  typed-literals c (x ∷ ns) (t ∷ ts) h = ((h.0, tt), typed-literals c ns ts h.1)

  -- ---- multiples

  -- multiples of these types
  abbrev pub IsMultiple : Carried → Ty → Type 0
  IsMultiple (Many n) t = IsNumber forms names n t
  IsMultiple (One n) t = ⊥
  IsMultiple (Callee f) t = ⊥

  abbrev pub AreMultiples : List Ty → List Wire → Type 0
  AreMultiples [] [] = Unit {0}
  AreMultiples (t ∷ ts) (w ∷ ws) = IsMultiple w.ty t × AreMultiples ts ws
  AreMultiples [] (w ∷ ws) = ⊥
  AreMultiples (t ∷ ts) [] = ⊥

  pub multiples-both : (ts us : List Ty) (vs ws : List Wire) → AreMultiples ts vs → AreMultiples us ws → AreMultiples (ts ++ us) (vs ++ ws)
  multiples-both [] us [] ws a b = b
  multiples-both [] us (v ∷ vs) ws a b = absurd a
  multiples-both (t ∷ ts) us [] ws a b = absurd a
  multiples-both (t ∷ ts) us (v ∷ vs) ws a b = (a.0, multiples-both ts us vs ws a.1 b)

  -- one of each
  one-of : (c : Carried) (t : Ty) → IsMultiple c t → IsTyped (single c) t
  one-of (Many n) t h = h
  one-of (One n) t h = absurd h
  one-of (Callee f) t h = absurd h

  pub ones-typed : (ts : List Ty) (ws : List Wire) → AreMultiples ts ws → (n port : ℕ) → AreTyped (ports n port (map single (types ws))) ts
  ones-typed [] [] h n port = tt
  ones-typed [] (w ∷ ws) h n port = absurd h
  ones-typed (t ∷ ts) [] h n port = absurd h
  ones-typed (t ∷ ts) (w ∷ ws) h n port = ((one-of w.ty t h.0, tt), ones-typed ts ws h.1 n (suc port))

  -- what the first bound of an array or a stream carries
  pub first-typed : (ws : List Wire) (t : Ty) → AreTyped ws (t ∷ []) → IsTyped (wire_at ws 0).ty t
  first-typed [] t h = absurd h
  first-typed (w ∷ ws) t h = h.0.0

  pub the-number : (c : Carried) (t : Ty) → IsTyped c t → IsNumber forms names (type_of c) t
  the-number (One n) t h = h
  the-number (Many n) t h = absurd h
  the-number (Callee f) t h = absurd h

  -- the own inputs of a graph that are of the types of these
  pub own-typed : (ts : List Ty) (ws : List Wire) → AreTyped ws ts → (n port : ℕ) → AreTyped (ports n port (types ws)) ts
  own-typed [] [] h n port = tt
  own-typed [] (w ∷ ws) h n port = absurd h
  own-typed (t ∷ ts) [] h n port = absurd h
  own-typed (t ∷ ts) (w ∷ ws) h n port = ((h.0.0, tt), own-typed ts ws h.1 n (suc port))

  -- ---- names that a turn renews

  typed-set : (ws : List Wire) (ts : List Ty) → AreTyped ws ts → (x : ℕ) (w : Wire) (a : Ty) → slice_get ts x ≡ Some a → IsWired w a → AreTyped (slice_set ws x w) ts
  typed-set [] [] h x w a e k = absurd cc
  typed-set [] (t ∷ ts) h x w a e k = absurd h
  typed-set (v ∷ vs) [] h x w a e k = absurd h
  typed-set (v ∷ vs) (t ∷ ts) h zero w a e k = (subst (IsWired w) (sym (same_Some t a e)) k, h.1)
  typed-set (v ∷ vs) (t ∷ ts) h (suc x) w a e k = (h.0, typed-set vs ts h.1 x w a e k)

  pub typed-renew : (loop : List Ty) (ds : List (Option ℕ)) (later : List Ty) → Renews loop ds later → (ws l : List Wire) → AreTyped ws later → AreTyped l loop → AreTyped (renew ds ws l) loop
  typed-renew loop [] later r ws l a b = b
  typed-renew loop (d ∷ ds) later r [] l a b = b
  typed-renew loop (d ∷ ds) [] r (w ∷ ws) l a b = absurd a
  typed-renew loop (d ∷ ds) (t ∷ later) r (w ∷ ws) l a b = by d r (λ k. typed-renew loop ds later k ws l a.1 b)
    where
      by : (d : Option ℕ) → Renews loop (d ∷ ds) (t ∷ later) → (Renews loop ds later → AreTyped (renew ds ws l) loop) → AreTyped (renew_one d w (renew ds ws l)) loop
      by None r f = f r
      by (Some x) r f = typed-set (renew ds ws l) loop (f r.1) x w t r.0 a.0

  -- ---- elements

  abbrev IsArrayOf : Ty-F Ty → Bool
  IsArrayOf (Ty-F.Arr t) = true
  IsArrayOf _ = false

  array-of : (n : ℕ) (t : Ty) → IsNumber forms names n t → is_array forms n ≡ IsArrayOf (out-Ty t)
  array-of n _ (number.boolean e) = ap is_array_form e ∙ ap IsArrayOf (sym out-bool)
  array-of n _ (number.character e) = ap is_array_form e ∙ ap IsArrayOf (sym out-char)
  array-of n _ (number.integer e) = ap is_array_form e ∙ ap IsArrayOf (sym out-int)
  array-of n _ (number.null e) = ap is_array_form e ∙ ap IsArrayOf (sym out-null)
  array-of n _ (number.array {t = t} e h) = ap is_array_form e ∙ ap IsArrayOf (sym (out-array t))
  array-of n _ (number.stream {t = t} e h) = ap is_array_form e ∙ ap IsArrayOf (sym (out-stream t))
  array-of n _ (number.a_record {fs = fs} e h) = ap is_array_form e ∙ ap IsArrayOf (sym (out-record fs))
  array-of n _ (number.a_union {fs = fs} e h) = ap is_array_form e ∙ ap IsArrayOf (sym (out-union fs))

  -- two numbers of a type
  pub same-array : (n m : ℕ) (t : Ty) → IsNumber forms names n t → IsNumber forms names m t → is_array forms n ≡ is_array forms m
  same-array n m t a b = array-of n t a ∙ sym (array-of m t b)

  -- the elements of an array or a stream, and the contents of a union
  abbrev HasElements : ℕ → Ty-F Ty → Type 0
  HasElements n (Ty-F.Arr a) = IsNumber forms names (element_of forms n) a
  HasElements n (Ty-F.Stream a) = IsNumber forms names (element_of forms n) a
  HasElements n (Ty-F.Uni ms) = (tag : ℕ) (m : Member) → slice_get ms tag ≡ Some m → IsNumber forms names (content_of forms n tag) m.1
  HasElements n _ = Unit {0}

  members-typed : (ms : List NumberedMember) (fs : List Member) → AreMembers forms names ms fs → (tag : ℕ) (m : Member) → slice_get fs tag ≡ Some m → IsNumber forms names (type_in (slice_get ms tag)) m.1
  members-typed _ _ number.no_member tag m e = absurd cc
  members-typed _ _ (number.a_member {n = n} {name = name} {t = t} s h r) zero m e = subst (λ (m : Member). IsNumber forms names n m.1) (same_Some (name, t) m e) h
  members-typed _ _ (number.a_member {ms = ms} {fs = fs} s h r) (suc tag) m e = members-typed ms fs r tag m e

  elements-typed : (n : ℕ) (t : Ty) → IsNumber forms names n t → HasElements n (out-Ty t)
  elements-typed n _ (number.boolean e) = subst (HasElements n) (sym out-bool) tt
  elements-typed n _ (number.character e) = subst (HasElements n) (sym out-char) tt
  elements-typed n _ (number.integer e) = subst (HasElements n) (sym out-int) tt
  elements-typed n _ (number.null e) = subst (HasElements n) (sym out-null) tt
  elements-typed n _ (number.array {m = m} {t = t} e h) = subst (HasElements n) (sym (out-array t)) (subst (λ (o : Option Form). IsNumber forms names (element_in o) t) (sym e) h)
  elements-typed n _ (number.stream {m = m} {t = t} e h) = subst (HasElements n) (sym (out-stream t)) (subst (λ (o : Option Form). IsNumber forms names (element_in o) t) (sym e) h)
  elements-typed n _ (number.a_record {fs = fs} e h) = subst (HasElements n) (sym (out-record fs)) tt
  elements-typed n _ (number.a_union {ms = ms} {fs = fs} e h) =
      subst (HasElements n) (sym (out-union fs)) (λ tag m k. subst (λ (o : Option Form). IsNumber forms names (type_in (slice_get (members_if o) tag)) m.1) (sym e) (members-typed ms fs h tag m k))

  pub array-elements : (n : ℕ) (a : Ty) → IsNumber forms names n (ty.Arr a) → IsNumber forms names (element_of forms n) a
  array-elements n a h = subst (HasElements n) (out-array a) (elements-typed n (ty.Arr a) h)

  pub stream-elements : (n : ℕ) (a : Ty) → IsNumber forms names n (ty.Stream a) → IsNumber forms names (element_of forms n) a
  stream-elements n a h = subst (HasElements n) (out-stream a) (elements-typed n (ty.Stream a) h)

  union-contents : (n : ℕ) (ms : List Member) → IsNumber forms names n (ty.Uni ms) → (tag : ℕ) (m : Member) → slice_get ms tag ≡ Some m → IsNumber forms names (content_of forms n tag) m.1
  union-contents n ms h = subst (HasElements n) (out-union ms) (elements-typed n (ty.Uni ms) h)

  -- ---- the content in an arm of a `tagcase`

  -- the first choice of an arm
  record IsFirst (c : Case) (arms tags arm : ℕ) (xs : List Choice) : Type 0 where
    pub choice : Choice
    pub tag : tag_named arm xs ≡ choice.tag
    pub arm_is : choice.arm ≡ arm
    pub chosen : IsChosen c arms tags choice

  first-choice : (c : Case) (arms tags arm : ℕ) (xs : List Choice) → All (IsChosen c arms tags) xs → Contains (map (λ x. x.arm) xs) arm → IsFirst c arms tags arm xs
  first-choice c arms tags arm [] h k = let l = k.1 in absurd (omega (arith, l))
  first-choice c arms tags arm (x ∷ xs) h k = by (nat_eq x.arm arm) refl (λ r. first-choice c arms tags arm xs (All-tail (IsChosen c arms tags) x xs h) r)
    where
      later : nat_eq x.arm arm ≡ false → Contains (map (λ x. x.arm) xs) arm
      later e = elim (Contains-append_cases (x.arm ∷ []) (map (λ x. x.arm) xs) arm k) [
        | inl l ↦ elim (Contains-push_cases [] x.arm arm l) [
          | inl n ↦ let z = n.1 in absurd (omega (arith, z))
          | inr s ↦ let t = eq-eqb x.arm arm s in absurd cc
        ]
        | inr r ↦ r
      ]

      by : (b : Bool) → nat_eq x.arm arm ≡ b → (Contains (map (λ x. x.arm) xs) arm → IsFirst c arms tags arm xs) → IsFirst c arms tags arm (x ∷ xs)
      by true e f = record { choice = x; tag = ap (λ b. if b then x.tag else tag_named arm xs) e; arm_is = eqb-true x.arm arm e; chosen = All-head (IsChosen c arms tags) x xs h }
      by false e f =
          let r = f (later e) in
          record { choice = r.choice; tag = ap (λ b. if b then x.tag else tag_named arm xs) e ∙ r.tag; arm_is = r.arm_is; chosen = r.chosen }

  -- what the arms see is of the types of their tags
  tag-fits : (arms : ℕ) (contents : List Ty) (c : Case) (from : ℕ) (ms : List Member) → TagsFit arms contents c from ms → (d : ℕ) (m : Member) → slice_get ms d ≡ Some m
      → (a : Ty) → slice_get contents (arm_place c.choices c.others (from + d)) ≡ Some a → a ≡ m.1
  tag-fits arms contents c from [] h d m e a k = absurd cc
  tag-fits arms contents c from (x ∷ ms) h zero m e a k =
      h.1 a (subst (λ i. slice_get contents (arm_place c.choices c.others i) ≡ Some a) (omega arith) k) ∙ ap (λ (m : Member). m.1) (same_Some x m e)
  tag-fits arms contents c from (x ∷ ms) h (suc d) m e a k =
      tag-fits arms contents c (suc from) ms h.2 d m e a (subst (λ i. slice_get contents (arm_place c.choices c.others i) ≡ Some a) (omega arith) k)

  -- the content of the first tag of an arm is of the type that the arm sees
  pub content-typed : (n : ℕ) (ms : List Member) (contents : List Ty) (c : Case) (arms : ℕ) → IsNumber forms names n (ty.Uni ms) → TagsFit arms contents c 0 ms → All (IsChosen c arms (length ms)) c.choices
      → (arm : ℕ) → Contains (map (λ x. x.arm) c.choices) arm → (a : Ty) → slice_get contents arm ≡ Some a → IsNumber forms names (content_of forms n (first_tag c arm)) a
  content-typed n ms contents c arms u fit chosen arm there a e = by (slice_get ms f.choice.tag) refl
    where
      f : IsFirst c arms (length ms) arm c.choices
      f = first-choice c arms (length ms) arm c.choices chosen there

      by : (o : Option Member) → slice_get ms f.choice.tag ≡ o → IsNumber forms names (content_of forms n (first_tag c arm)) a
      by None k = let z = f.chosen.tag in absurd (past ms f.choice.tag z k)
        where
          past : {A : Type 0} (xs : List A) (i : ℕ) → i < length xs → slice_get xs i ≡ None → ⊥
          past [] i l k = omega (arith, l)
          past (x ∷ xs) zero l k = cc
          past (x ∷ xs) (suc i) l k = past xs i (omega (arith, l)) k
      by (Some m) k =
          let here = subst (λ i. slice_get contents i ≡ Some a) (sym (f.chosen.own ∙ f.arm_is)) e in
          let at : slice_get contents (arm_place c.choices c.others (0 + f.choice.tag)) ≡ Some a =
          subst (λ i. slice_get contents (arm_place c.choices c.others i) ≡ Some a) (omega arith) here in
          let same = tag-fits arms contents c 0 ms fit f.choice.tag m k a at in
          subst (λ t. IsNumber forms names (content_of forms n t) a) (sym f.tag) (subst (IsNumber forms names (content_of forms n f.choice.tag)) (sym same) (union-contents n ms u f.choice.tag m k))
