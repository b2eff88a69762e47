-- What is known of a whole table of types, and what can be told of a type by its number.
use Rattle.std.proofs.Common.{◌≡◌, ◌⊎◌, inl, inr, ℕ, zero, ◌<◌, Bool, true, false, nat_eq, List, [], ◌∷◌, length, All, Option, Some, None, slice_get, get_or, refl, sym, ap, subst, ◌∙◌, arith}
use Rattle.std.specs.Prelude.{◌≢◌, Contains}
use Rattle.std.proofs.lemmas.Option.{same_Some, slice_get_within, slice_get-get_or}
use Rattle.std.proofs.lemmas.List.Elements.{All-nil, All-cons, All-get_or, Contains-append_right}
use Rattle.flow_value.specs.declared.ty.Ty.{Ty}
use Rattle.flow_value.specs.declared.ty.Ty.TheVariants as ty
use Rattle.type_table.specs.declared.form.Form.{Form}
use Rattle.type_table.specs.declared.form.Form.TheVariants as form
use Rattle.type_table.specs.declared.form.Member.{Member as NumberedMember}
use Rattle.typed_tree.specs.Types.{Member, IsNumber, boolean, character, integer, null, array, stream, a_record, a_union, AreNumbers}
use Rattle.typed_tree.specs.Typing.{Known}
use Rattle.typed_tree.specs.Breaks.{NoArray, NoRecord, NoUnion}
use Rattle.type_rules.specs.Parts.{array_at, holds_if, is_record, is_record_at, tags_part, part_if, field_at}
use Rattle.type_rules.specs.Typed.{IsKnown, Has}
use Rattle.type_rules.proofs.Standing.{HasFields, standing_at, at_record, at_union}
use Rattle.type_rules.proofs.Telling.{Tells, array_is, array_has}
use Rattle.type_rules.proofs.Verdicts.{some_none, both_truths, same_tells}
use Rattle.type_rules.proofs.Grown.{integer_is}
use Rattle.type_rules.proofs.Membership.{field_in, field_absent, field_unique}
use Rattle.unit_types.specs.Rests.{HasEachOnce}
use Rattle.typing_laws.specs.Given.{Given}
use Rattle.typing_laws.specs.Judged.{Agrees}

each_once : (forms : List Form) → All HasEachOnce forms → (n : ℕ) (f : Form) → slice_get forms n ≡ Some f → HasEachOnce f
each_once forms all n f e =
    let within = slice_get_within forms n f e in
    subst HasEachOnce (same_Some (get_or forms n f) f (sym (slice_get-get_or forms n f within) ∙ e)) (All-get_or HasEachOnce forms n f within all)

-- what is given knows its table
pub known_of : (g : Given) (f : List Form) (k : Known) → Agrees g f k → IsKnown k.forms k.spellings
known_of g f k a = record {
  table = a.table;
  spelled = a.once;
  stands = λ n f e. a.standing.stands n (slice_get_within k.forms n f e);
  fields = λ n ms e. each_once k.forms a.standing.once n (form.Record ms) e;
  tags = λ n ms e. each_once k.forms a.standing.once n (form.Union ms) e;
}

pub is_within : (forms : List Form) (names : List (List ℕ)) (n : ℕ) (t : Ty) → IsNumber forms names n t → n < length forms
is_within forms names n _ (boolean e) = slice_get_within forms n form.Boolean e
is_within forms names n _ (character e) = slice_get_within forms n form.Character e
is_within forms names n _ (integer e) = slice_get_within forms n form.Integer e
is_within forms names n _ (null e) = slice_get_within forms n form.Null e
is_within forms names n _ (array {m = m} e p) = slice_get_within forms n (form.Array m) e
is_within forms names n _ (stream {m = m} e p) = slice_get_within forms n (form.Stream m) e
is_within forms names n _ (a_record {ms = ms} e p) = slice_get_within forms n (form.Record ms) e
is_within forms names n _ (a_union {ms = ms} e p) = slice_get_within forms n (form.Union ms) e

-- ---- elements of lists

pub contains_first : {X : Type 0} (x : X) (xs : List X) → Contains (x ∷ xs) x
contains_first x xs = (zero, omega arith, refl)

pub contains_later : {X : Type 0} (y : X) (xs : List X) (x : X) → Contains xs x → Contains (y ∷ xs) x
contains_later y xs x c = Contains-append_right (y ∷ []) xs x c

-- ---- tests

pub decide : {P : Type 0} (b : Bool) → Tells b P → P ⊎ (P → ⊥)
decide {P} b t = by b refl
  where
    by : (c : Bool) → b ≡ c → P ⊎ (P → ⊥)
    by true e = inl (t.yes e)
    by false e = inr (λ p. both_truths b (t.back p) e)

-- each of the types has a number
pub record HasNumber (forms : List Form) (names : List (List ℕ)) (t : Ty) : Type 0 where
  pub number : ℕ
  pub is : IsNumber forms names number t

abbrev pub HaveNumbers : List Form → List (List ℕ) → List Ty → Type 0
HaveNumbers forms names [] = Unit {0}
HaveNumbers forms names (t ∷ ts) = HasNumber forms names t × HaveNumbers forms names ts

pub have_numbers : (forms : List Form) (names : List (List ℕ)) (ns : List ℕ) (ts : List Ty) → AreNumbers forms names ns ts → HaveNumbers forms names ts
have_numbers forms names [] [] p = tt
have_numbers forms names [] (t ∷ ts) p = absurd p
have_numbers forms names (n ∷ ns) [] p = absurd p
have_numbers forms names (n ∷ ns) (t ∷ ts) p = (record { number = n; is = p.0 }, have_numbers forms names ns ts p.1)

module _ (forms : List Form) (names : List (List ℕ)) (known : IsKnown forms names) where
  pub same_or : (a b : Ty) → HasNumber forms names a → HasNumber forms names b → (a ≡ b) ⊎ (a ≢ b)
  same_or a b p q = decide (nat_eq p.number q.number) (same_tells forms names known p.number q.number a b p.is q.is)

  pub integer_or : (a : Ty) → HasNumber forms names a → (a ≡ ty.Int) ⊎ (a ≢ ty.Int)
  integer_or a p = same_or a ty.Int p (record { number = 2; is = integer_is forms names known.table })

  pub array_or : (a : Ty) → HasNumber forms names a → ((e : Ty) × (a ≡ ty.Arr e)) ⊎ NoArray a
  array_or a p = by (array_at forms p.number) refl
    where
      by : (o : Option ℕ) → array_at forms p.number ≡ o → ((e : Ty) × (a ≡ ty.Arr e)) ⊎ NoArray a
      by (Some m) h = let s = array_is forms names known.table p.number a p.is m h in inl (s.part, s.is)
      by None h = inr (λ e is. let s = array_has forms names known.table p.number e (subst (IsNumber forms names p.number) is p.is) in some_none s.0 (array_at forms p.number) s.1 h)

  record_by : (n : ℕ) (a : Ty) → IsNumber forms names n a → (o : Option Form) → slice_get forms n ≡ o → holds_if is_record o ≡ true → (ms : List Member) × (a ≡ ty.Rec ms)
  record_by n a p (Some (form.Record ms)) h e =
      let s : HasFields forms names ty.Rec ms a = standing_at forms names n (Some (form.Record ms)) h a p in (s.fields, s.is)
  record_by n a p None h e = absurd cc
  record_by n a p (Some form.Boolean) h e = absurd cc
  record_by n a p (Some form.Character) h e = absurd cc
  record_by n a p (Some form.Integer) h e = absurd cc
  record_by n a p (Some form.Null) h e = absurd cc
  record_by n a p (Some (form.Array m)) h e = absurd cc
  record_by n a p (Some (form.Stream m)) h e = absurd cc
  record_by n a p (Some (form.Union ms)) h e = absurd cc

  pub record_or : (a : Ty) → HasNumber forms names a → ((ms : List Member) × (a ≡ ty.Rec ms)) ⊎ NoRecord a
  record_or a p = by (is_record_at forms p.number) refl
    where
      by : (b : Bool) → is_record_at forms p.number ≡ b → ((ms : List Member) × (a ≡ ty.Rec ms)) ⊎ NoRecord a
      by true h = inl (record_by p.number a p.is (slice_get forms p.number) refl h)
      by false h = inr (λ ms is.
          let s = at_record forms names p.number ms (subst (IsNumber forms names p.number) is p.is) in
          both_truths (is_record_at forms p.number) (ap (holds_if is_record) s.1) h)

  union_by : (n : ℕ) (a : Ty) → IsNumber forms names n a → (nms : List NumberedMember) → (o : Option Form) → slice_get forms n ≡ o → part_if tags_part o ≡ Some nms → (ms : List Member) × (a ≡ ty.Uni ms)
  union_by n a p nms (Some (form.Union ms)) h e =
      let s : HasFields forms names ty.Uni ms a = standing_at forms names n (Some (form.Union ms)) h a p in (s.fields, s.is)
  union_by n a p nms None h e = absurd cc
  union_by n a p nms (Some form.Boolean) h e = absurd cc
  union_by n a p nms (Some form.Character) h e = absurd cc
  union_by n a p nms (Some form.Integer) h e = absurd cc
  union_by n a p nms (Some form.Null) h e = absurd cc
  union_by n a p nms (Some (form.Array m)) h e = absurd cc
  union_by n a p nms (Some (form.Stream m)) h e = absurd cc
  union_by n a p nms (Some (form.Record ms)) h e = absurd cc

  pub union_or : (a : Ty) → HasNumber forms names a → ((ms : List Member) × (a ≡ ty.Uni ms)) ⊎ NoUnion a
  union_or a p = by (part_if tags_part (slice_get forms p.number)) refl
    where
      by : (o : Option (List NumberedMember)) → part_if tags_part (slice_get forms p.number) ≡ o → ((ms : List Member) × (a ≡ ty.Uni ms)) ⊎ NoUnion a
      by (Some nms) h = inl (union_by p.number a p.is nms (slice_get forms p.number) refl h)
      by None h = inr (λ ms is.
          let s = at_union forms names p.number ms (subst (IsNumber forms names p.number) is p.is) in
          some_none s.0 (part_if tags_part (slice_get forms p.number)) (ap (part_if tags_part) s.1) h)

  -- a record has a field of this name and type, or none
  pub field_or : (ms : List Member) → HasNumber forms names (ty.Rec ms) → (x : ℕ) (a : Ty) → HasNumber forms names a
      → ((place : ℕ) × Has names ms x place a) ⊎ ((place : ℕ) → Has names ms x place a → ⊥)
  field_or ms r x a p = by (field_at forms r.number x) refl
    where
      by : (o : Option (ℕ × ℕ)) → field_at forms r.number x ≡ o → ((place : ℕ) × Has names ms x place a) ⊎ ((place : ℕ) → Has names ms x place a → ⊥)
      by None h = inr (λ place has. field_absent forms names known r.number ms r.is x place a has h)
      by (Some f) h =
          let q = field_in forms names known r.number ms r.is x f h in
          elim (decide (nat_eq f.1 p.number) (same_tells forms names known f.1 p.number q.0 a q.2 p.is)) [
            | inl same ↦ inl (f.0, subst (Has names ms x f.0) same q.1)
            | inr other ↦
                inr (λ place has.
                let one = field_unique forms names known r.number ms r.is x place a f has h in
                other ((same_tells forms names known f.1 p.number q.0 a q.2 p.is).yes ((same_tells forms names known f.1 p.number a a one.1 p.is).back refl)))
          ]

  -- types that are all of one type, or one that is not
  pub all_or : (a : Ty) → HasNumber forms names a → (ts : List Ty) → HaveNumbers forms names ts → All (λ b. b ≡ a) ts ⊎ ((b : Ty) × Contains ts b × (b ≢ a))
  all_or a p [] q = inl (All-nil (λ b. b ≡ a))
  all_or a p (t ∷ ts) q = elim (same_or t a q.0 p) [
    | inr other ↦ inr (t, contains_first t ts, other)
    | inl same ↦ elim (all_or a p ts q.1) [
      | inl all ↦ inl (All-cons (λ b. b ≡ a) t ts same all)
      | inr one ↦ inr (one.0, contains_later t ts one.0 one.1, one.2)
    ]
  ]
