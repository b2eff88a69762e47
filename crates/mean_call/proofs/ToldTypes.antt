-- The numbers that are known are those that stand for types.
use Rattle.std.proofs.Common.{◌≡◌, ◌<◌, ◌≤◌, ℕ, zero, suc, ◌+◌, Bool, true, false, ◌&&◌, nat_lt, List, [], ◌∷◌, ◌++◌, All, map, drop, length, Some, None, slice_get, refl, sym, ap, subst, ◌∙◌, append_assoc, arith}
use Rattle.std.specs.List.{list_all}
use Rattle.std.proofs.lemmas.Bool.{ltb-true, ltb-false}
use Rattle.flow_value.specs.declared.ty.Ty.{Ty}
use Rattle.flow_value.specs.declared.ty.Ty.TheVariants as ty
use Rattle.type_table.specs.declared.form.Form.{Form}
use Rattle.type_table.specs.declared.form.Form.TheVariants as form
use Rattle.type_table.specs.declared.form.Member.{Member as NumberedMember}
use Rattle.type_table.specs.Tables.{IsTable, IsOver}
use Rattle.typed_tree.specs.Types.{Member, IsNumber, boolean, character, integer, null, array, stream, a_record, a_union, AreMembers, no_member, a_member, AreNumbers}
use Rattle.typed_tree.specs.declared.program.Program.{Program}
use Rattle.mean_call.specs.Known.{is_known, is_known_member, is_known_form, known_onto, known_types}
use Rattle.mean_call.specs.Calls.{IsEntryIf, params_of}
use Rattle.std.proofs.lemmas.Option.{same_Some}
use Rattle.typed_tree.specs.Entries.{entry_of}
use Rattle.mean_call.proofs.Standing.{standing_at, fielding, no_form}

-- there is a type for the number, or there is none
abbrev pub Told : List Form → List (List ℕ) → ℕ → Bool → Type 0
Told forms names n true = (t : Ty) × IsNumber forms names n t
Told forms names n false = (t : Ty) → IsNumber forms names n t → ⊥

abbrev ToldFields : List Form → List (List ℕ) → List NumberedMember → Bool → Type 0
ToldFields forms names ms true = (fs : List Member) × AreMembers forms names ms fs
ToldFields forms names ms false = (fs : List Member) → AreMembers forms names ms fs → ⊥

-- whether the name of a number is there
abbrev Spelled : List (List ℕ) → ℕ → Bool → Type 0
Spelled names x true = (name : List ℕ) × (slice_get names x ≡ Some name)
Spelled names x false = slice_get names x ≡ None

name_there : (names : List (List ℕ)) (x : ℕ) → x < length names → (name : List ℕ) × (slice_get names x ≡ Some name)
name_there [] x h = absurd (omega (arith, h))
name_there (n ∷ names) zero h = (n, refl)
name_there (n ∷ names) (suc x) h = name_there names x (omega (arith, h))

no_name : (names : List (List ℕ)) (x : ℕ) → length names ≤ x → slice_get names x ≡ None
no_name [] x h = refl
no_name (n ∷ names) zero h = absurd (omega (arith, h))
no_name (n ∷ names) (suc x) h = no_name names x (omega (arith, h))

spelled : (names : List (List ℕ)) (x : ℕ) → Spelled names x (nat_lt x (length names))
spelled names x = by (nat_lt x (length names)) refl
  where
    by : (c : Bool) → nat_lt x (length names) ≡ c → Spelled names x c
    by true e = name_there names x (ltb-true x (length names) e)
    by false e = no_name names x (ltb-false x (length names) e)

none_spelled : (name : List ℕ) → None ≡ Some name → ⊥
none_spelled name e = cc

module _ (forms : List Form) (names : List (List ℕ)) where
  one_field : (m : NumberedMember) (ms : List NumberedMember) (s k r : Bool) → Spelled names m.name s → Told forms names m.ty k → ToldFields forms names ms r → ToldFields forms names (m ∷ ms) ((s && k) && r)
  one_field m ms true true true a b c = ((a.0, b.0) ∷ c.0, a_member a.1 b.1 c.1)
  one_field m ms true true false a b c = λ fs q. let f = fielding forms names (m ∷ ms) fs q in c f.rest f.others
  one_field m ms true false r a b c = λ fs q. let f = fielding forms names (m ∷ ms) fs q in b f.type f.typed
  one_field m ms false k r a b c = λ fs q. let f = fielding forms names (m ∷ ms) fs q in none_spelled f.name (sym a ∙ f.spelled)

  -- the numbers of types before one are known
  abbrev pub AreToldBefore : ℕ → List Bool → Type 0
  AreToldBefore n known = (m : ℕ) → m < n → Told forms names m (is_known known m)

  fields_told : (n : ℕ) (known : List Bool) → AreToldBefore n known → (ms : List NumberedMember) → All (λ t. t < n) (map (λ m. m.ty) ms) → ToldFields forms names ms (list_all (is_known_member (length names) known) ms)
  fields_told n known h [] over = ([], no_member)
  fields_told n known h (m ∷ ms) over =
      one_field m ms (nat_lt m.name (length names)) (is_known known m.ty) (list_all (is_known_member (length names) known) ms)
      (spelled names m.name) (h m.ty (over 0 0 (omega arith))) (fields_told n known h ms (λ k d within. over (suc k) d (omega (arith, within))))

  array_told : (n m : ℕ) (b : Bool) → slice_get forms n ≡ Some (form.Array m) → Told forms names m b → Told forms names n b
  array_told n m true e p = (ty.Arr p.0, array e p.1)
  array_told n m false e p = λ t q. let s = standing_at forms names n (Some (form.Array m)) e t q in p s.part s.stands

  stream_told : (n m : ℕ) (b : Bool) → slice_get forms n ≡ Some (form.Stream m) → Told forms names m b → Told forms names n b
  stream_told n m true e p = (ty.Stream p.0, stream e p.1)
  stream_told n m false e p = λ t q. let s = standing_at forms names n (Some (form.Stream m)) e t q in p s.part s.stands

  record_told : (n : ℕ) (ms : List NumberedMember) (b : Bool) → slice_get forms n ≡ Some (form.Record ms) → ToldFields forms names ms b → Told forms names n b
  record_told n ms true e p = (ty.Rec p.0, a_record e p.1)
  record_told n ms false e p = λ t q. let s = standing_at forms names n (Some (form.Record ms)) e t q in p s.fields s.stand

  union_told : (n : ℕ) (ms : List NumberedMember) (b : Bool) → slice_get forms n ≡ Some (form.Union ms) → ToldFields forms names ms b → Told forms names n b
  union_told n ms true e p = (ty.Uni p.0, a_union e p.1)
  union_told n ms false e p = λ t q. let s = standing_at forms names n (Some (form.Union ms)) e t q in p s.fields s.stand

  form_told : (n : ℕ) (known : List Bool) (f : Form) → slice_get forms n ≡ Some f → IsOver n f → AreToldBefore n known → Told forms names n (is_known_form (length names) known f)
  form_told n known form.Boolean e over h = (ty.Bool, boolean e)
  form_told n known form.Character e over h = (ty.Char, character e)
  form_told n known form.Integer e over h = (ty.Int, integer e)
  form_told n known form.Null e over h = (ty.Null, null e)
  form_told n known (form.Array m) e over h = array_told n m (is_known known m) e (h m (over 0 0 (omega arith)))
  form_told n known (form.Stream m) e over h = stream_told n m (is_known known m) e (h m (over 0 0 (omega arith)))
  form_told n known (form.Record ms) e over h = record_told n ms (list_all (is_known_member (length names) known) ms) e (fields_told n known h ms over)
  form_told n known (form.Union ms) e over h = union_told n ms (list_all (is_known_member (length names) known) ms) e (fields_told n known h ms over)

-- ---- one more

before_end : (bs : List Bool) (b : Bool) (m : ℕ) → m < length bs → is_known (bs ++ b ∷ []) m ≡ is_known bs m
before_end [] b m h = absurd (omega (arith, h))
before_end (x ∷ bs) b zero h = refl
before_end (x ∷ bs) b (suc m) h = before_end bs b m (omega (arith, h))

at_end : (bs : List Bool) (b : Bool) → is_known (bs ++ b ∷ []) (length bs) ≡ b
at_end [] b = refl
at_end (x ∷ bs) b = at_end bs b

behind_end : (bs : List Bool) (m : ℕ) → length bs ≤ m → is_known bs m ≡ false
behind_end [] m h = refl
behind_end (x ∷ bs) zero h = absurd (omega (arith, h))
behind_end (x ∷ bs) (suc m) h = behind_end bs m (omega (arith, h))

one_longer : (bs : List Bool) (b : Bool) → length (bs ++ b ∷ []) ≡ suc (length bs)
one_longer [] b = refl
one_longer (x ∷ bs) b = ap suc (one_longer bs b)

none_past : (fs : List Form) (n : ℕ) → length fs ≤ n → slice_get fs n ≡ None
none_past [] n h = refl
none_past (f ∷ fs) zero h = absurd (omega (arith, h))
none_past (f ∷ fs) (suc n) h = none_past fs n (omega (arith, h))

there : (front : List Form) (f : Form) (rest : List Form) → slice_get (front ++ f ∷ rest) (length front) ≡ Some f
there [] f rest = refl
there (x ∷ front) f rest = there front f rest

form_longer : (front : List Form) (f : Form) → length (front ++ f ∷ []) ≡ suc (length front)
form_longer [] f = refl
form_longer (x ∷ front) f = ap suc (form_longer front f)

module _ (forms : List Form) (names : List (List ℕ)) (table : IsTable forms) where
  -- each number that is known so far, and nothing past them
  abbrev AreToldAll : List Bool → Type 0
  AreToldAll known = AreToldBefore forms names (length known) known

  told_next : (known : List Bool) (f : Form) → slice_get forms (length known) ≡ Some f → AreToldAll known → AreToldAll (known ++ is_known_form (length names) known f ∷ [])
  told_next known f e h m within = by (nat_lt m (length known)) refl
    where
      b : Bool
      b = is_known_form (length names) known f

      last : m ≡ length known → Told forms names m (is_known (known ++ b ∷ []) m)
      last same =
          subst (λ k. Told forms names k (is_known (known ++ b ∷ []) k)) (sym same)
          (subst (Told forms names (length known)) (sym (at_end known b)) (form_told forms names (length known) known f e (table.well.after_parts (length known) f e) h))

      by : (c : Bool) → nat_lt m (length known) ≡ c → Told forms names m (is_known (known ++ b ∷ []) m)
      by true lt = let less = ltb-true m (length known) lt in subst (Told forms names m) (sym (before_end known b m less)) (h m less)
      by false ge = let more = ltb-false m (length known) ge in let longer = one_longer known b in last (omega (arith, more, within, longer))

  told_all : (front rest : List Form) (known : List Bool) → length known ≡ length front → forms ≡ front ++ rest → AreToldAll known → AreToldAll (known_onto (length names) known rest) × (length (known_onto (length names) known rest) ≡ length forms)
  told_all front [] known same is h = (h, same ∙ sym (ap length (is ∙ none front)))
    where
      none : (fs : List Form) → fs ++ [] ≡ fs
      none [] = refl
      none (f ∷ fs) = ap (λ l. f ∷ l) (none fs)
  told_all front (f ∷ rest) known same is h =
      let e : slice_get forms (length known) ≡ Some f = ap (λ l. slice_get l (length known)) is ∙ (ap (λ k. slice_get (front ++ f ∷ rest) k) same ∙ there front f rest) in
      let longer : length (known ++ is_known_form (length names) known f ∷ []) ≡ length (front ++ f ∷ []) =
      one_longer known (is_known_form (length names) known f) ∙ (ap suc same ∙ sym (form_longer front f)) in
      told_all (front ++ f ∷ []) rest (known ++ is_known_form (length names) known f ∷ []) longer (is ∙ sym (append_assoc front (f ∷ []) rest)) (told_next known f e h)

  -- a number is known exactly where it stands for a type
  pub known_told : (n : ℕ) → Told forms names n (is_known (known_types (length names) forms) n)
  known_told n = by (nat_lt n (length forms)) refl
    where
      all : AreToldAll (known_types (length names) forms) × (length (known_types (length names) forms) ≡ length forms)
      all = told_all [] forms [] refl refl (λ m within. absurd (omega (arith, within)))

      by : (c : Bool) → nat_lt n (length forms) ≡ c → Told forms names n (is_known (known_types (length names) forms) n)
      by true lt = let less = ltb-true n (length forms) lt in let as_long = all.1 in all.0 n (omega (arith, less, as_long))
      by false ge =
          let more = ltb-false n (length forms) ge in
          let as_long = all.1 in
          subst (Told forms names n) (sym (behind_end (known_types (length names) forms) n (omega (arith, more, as_long))))
          (no_form forms names n (none_past forms n more))

  abbrev ToldNumbers : List ℕ → Bool → Type 0
  ToldNumbers ns true = (ts : List Ty) × AreNumbers forms names ns ts
  ToldNumbers ns false = (ts : List Ty) → AreNumbers forms names ns ts → ⊥

  one_number : (n : ℕ) (ns : List ℕ) (b c : Bool) → Told forms names n b → ToldNumbers ns c → ToldNumbers (n ∷ ns) (b && c)
  one_number n ns true true p q = (p.0 ∷ q.0, (p.1, q.1))
  one_number n ns true false p q = none
    where
      none : (ts : List Ty) → AreNumbers forms names (n ∷ ns) ts → ⊥
      none [] r = absurd r
      none (t ∷ ts) r = q ts r.1
  one_number n ns false c p q = none
    where
      none : (ts : List Ty) → AreNumbers forms names (n ∷ ns) ts → ⊥
      none [] r = absurd r
      none (t ∷ ts) r = p t r.0

  numbers_told : (ns : List ℕ) → ToldNumbers ns (list_all (is_known (known_types (length names) forms)) ns)
  numbers_told [] = ([], tt)
  numbers_told (n ∷ ns) =
      one_number n ns (is_known (known_types (length names) forms) n) (list_all (is_known (known_types (length names) forms)) ns) (known_told n) (numbers_told ns)

  pub all_known : (ns : List ℕ) → list_all (is_known (known_types (length names) forms)) ns ≡ true → (ts : List Ty) × AreNumbers forms names ns ts
  all_known ns e = subst (ToldNumbers ns) e (numbers_told ns)

  pub some_unknown : (ns : List ℕ) → list_all (is_known (known_types (length names) forms)) ns ≡ false → (ts : List Ty) → AreNumbers forms names ns ts → ⊥
  some_unknown ns e = subst (ToldNumbers ns) e (numbers_told ns)

-- ---- the entry

module _ (p : Program) (word : List ℕ) (function : ℕ) (called : entry_of p word ≡ Some function) (table : IsTable p.types) where
  pub known_entry : list_all (is_known (known_types (length p.names) p.types)) (params_of p function) ≡ true → IsEntryIf p word (Some function)
  known_entry e = let k = all_known p.types p.names table (params_of p function) e in (k.0, record { called = called; parameters = k.1 })

  pub unknown_entry : list_all (is_known (known_types (length p.names) p.types)) (params_of p function) ≡ false → IsEntryIf p word None
  unknown_entry e = λ f types h.
      let same : f ≡ function = same_Some f function (sym h.called ∙ called) in
      some_unknown p.types p.names table (params_of p function) e types (subst (λ f. AreNumbers p.types p.names (params_of p f) types) same h.parameters)

-- ---- one look at each

form_at_place : (fs : List Form) (i : ℕ) (f : Form) → slice_get fs i ≡ Some f → drop i fs ≡ f ∷ drop (i + 1) fs
form_at_place [] i f e = cc
form_at_place (g ∷ fs) zero f e = ap (λ k. k ∷ fs) (same_Some g f e)
form_at_place (g ∷ fs) (suc i) f e = let s : suc i + 1 ≡ suc (i + 1) = omega arith in form_at_place fs i f e ∙ ap (λ k. f ∷ drop k (g ∷ fs)) (sym s)

pub known_next : (names : ℕ) (known new : List Bool) (fs : List Form) (i : ℕ) (f : Form) → slice_get fs i ≡ Some f → new ≡ known ++ is_known_form names known f ∷ [] → known_onto names new (drop (i + 1) fs) ≡ known_onto names known (drop i fs)
known_next names known new fs i f at is =
    ap (λ k. known_onto names k (drop (i + 1) fs)) is ∙ ap (known_onto names known) (sym (form_at_place fs i f at))
