-- What a table has entered has the same label in every later table.
use Rattle.std.proofs.Common.{◌≡◌, ℕ, zero, suc, ◌+◌, Bool, true, false, ◌&&◌, List, [], ◌∷◌, ◌++◌, map, length, slice_get, Option, Some, None, refl, ap, ◌∙◌, arith, append_assoc}
use Rattle.std.specs.Prelude.{nat_eq, bytes_eq, if◌then◌else◌}
use Rattle.std.proofs.lemmas.Bool.{eq-eqb}
use Rattle.std.proofs.lemmas.Slice.Eq.{bytes_eq-Decides}
use Rattle.typed_tree.specs.Form.{Form}
use Rattle.typed_tree.specs.Form.TheVariants.{Boolean, Character, Integer, Null, Array, Stream, Record, Union}
use Rattle.typed_tree.specs.declared.program.Function.{Function}
use Rattle.lowering.specs.declared.feed.Carried.{Carried}
use Rattle.lowering.specs.declared.feed.Carried.TheVariants.{One, Many, Callee}
use Rattle.lowering.specs.Types.{Entry, entry, is_entry, Table, Labelled, labelled, label_from, or_new, enter, Part, members, named, over, form_label, label_within, type_label, tuple_label, function_label, callee_label, carried_label, deepest}
use Rattle.lowering.proofs.Tables.{Grows, grows-then, enter-grows, within-grows, type-grows, tuple-grows}

-- ---- entries

same-entry : (e : Entry) → is_entry e e ≡ true
same-entry e =
    ap (λ b. b && (nat_eq e.first e.first && (nat_eq e.second e.second && bytes_eq e.name e.name))) (eq-eqb e.code e.code refl)
    ∙ (ap (λ b. b && (nat_eq e.second e.second && bytes_eq e.name e.name)) (eq-eqb e.first e.first refl)
    ∙ (ap (λ b. b && bytes_eq e.name e.name) (eq-eqb e.second e.second refl) ∙ (bytes_eq-Decides e.name e.name).1 refl))

kept-label : (n : ℕ) (e : Entry) (ts rest : Table) (l : ℕ) → label_from n e ts ≡ Some l → label_from n e (ts ++ rest) ≡ Some l
kept-label n e [] rest l h = absurd cc
kept-label n e (f ∷ fs) rest l h = by (is_entry f e) h (λ k. kept-label (suc n) e fs rest l k)
  where
    by : (b : Bool) → (if b then Some (suc n) else label_from (suc n) e fs) ≡ Some l → (label_from (suc n) e fs ≡ Some l → label_from (suc n) e (fs ++ rest) ≡ Some l) → (if b then Some (suc n) else label_from (suc n) e (fs ++ rest)) ≡ Some l
    by true h r = h
    by false h r = r h

new-label : (n : ℕ) (e : Entry) (ts rest : Table) → label_from n e ts ≡ None → label_from n e (ts ++ e ∷ rest) ≡ Some (suc (n + length ts))
new-label n e [] rest h = ap (λ b. if b then Some (suc n) else label_from (suc n) e rest) (same-entry e) ∙ ap Some (omega arith)
new-label n e (f ∷ fs) rest h = by (is_entry f e) h (λ k. new-label (suc n) e fs rest k)
  where
    by : (b : Bool) → (if b then Some (suc n) else label_from (suc n) e fs) ≡ None → (label_from (suc n) e fs ≡ None → label_from (suc n) e (fs ++ e ∷ rest) ≡ Some (suc (suc n + length fs))) → (if b then Some (suc n) else label_from (suc n) e (fs ++ e ∷ rest)) ≡ Some (suc (n + length (f ∷ fs)))
    by true h r = absurd cc
    by false h r = r h ∙ ap Some (omega arith)

pub enter-stays : (e : Entry) (ts later : Table) → Grows (enter e ts).table later → enter e later ≡ labelled (enter e ts).label later
enter-stays e ts later g = by (label_from 0 e ts) refl g
  where
    by : (o : Option ℕ) → label_from 0 e ts ≡ o → Grows (or_new o e ts).table later → or_new (label_from 0 e later) e later ≡ labelled (or_new o e ts).label later
    by (Some l) h g = ap (λ o. or_new o e later) (ap (label_from 0 e) g.is ∙ kept-label 0 e ts g.rest l h)
    by None h g =
        ap (λ o. or_new o e later) (ap (label_from 0 e) (g.is ∙ append_assoc ts (e ∷ []) g.rest) ∙ (new-label 0 e ts g.rest h ∙ ap Some (omega arith)))

-- ---- types

abbrev Stays : (ℕ → Table → Labelled) → Type 0
Stays type = (t : ℕ) (ts later : Table) → Grows (type t ts).table later → type t later ≡ labelled (type t ts).label later

abbrev Only : (ℕ → Table → Labelled) → Type 0
Only type = (t : ℕ) (ts : Table) → Grows ts (type t ts).table

members-stay : (type : ℕ → Table → Labelled) → Only type → Stays type → (code : ℕ) (ms : List Part) (ts later : Table) → Grows (members type code ms ts).table later → members type code ms later ≡ labelled (members type code ms ts).label later
members-stay type o f code [] ts later g = refl
members-stay type o f code (m ∷ ms) ts later g =
    let rest = members type code ms ts in
    let t = type m.1 rest.table in
    let e = entry code t.label rest.label m.0 in
    let gt = grows-then t.table (enter e t.table).table later (enter-grows e t.table) g in
    let gr = grows-then rest.table t.table later (o m.1 rest.table) gt in
    ap (λ (r : Labelled). enter (entry code (type m.1 r.table).label r.label m.0) (type m.1 r.table).table) (members-stay type o f code ms ts later gr)
    ∙ (ap (λ (x : Labelled). enter (entry code x.label rest.label m.0) x.table) (f m.1 rest.table later gt)
    ∙ enter-stays e t.table later g)

module _ (forms : List Form) (names : List (List ℕ)) where
  over-stays : (code : ℕ) (t x : Labelled) (later : Table) → x ≡ labelled t.label later → Grows (over forms names code t).table later → over forms names code x ≡ labelled (over forms names code t).label later
  over-stays code t x later e g = ap (over forms names code) e ∙ enter-stays (entry code t.label 0 []) t.table later g

  under : (code : ℕ) (t : Labelled) (later : Table) → Grows (over forms names code t).table later → Grows t.table later
  under code t later g = grows-then t.table (over forms names code t).table later (enter-grows (entry code t.label 0 []) t.table) g

  form-stays : (type : ℕ → Table → Labelled) → Only type → Stays type → (o : Option Form) (ts later : Table) → Grows (form_label forms names type o ts).table later → form_label forms names type o later ≡ labelled (form_label forms names type o ts).label later
  form-stays type o f (Some Boolean) ts later g = refl
  form-stays type o f (Some Character) ts later g = refl
  form-stays type o f (Some Integer) ts later g = refl
  form-stays type o f (Some Null) ts later g = refl
  form-stays type o f (Some (Array t)) ts later g = over-stays 0 (type t ts) (type t later) later (f t ts later (under 0 (type t ts) later g)) g
  form-stays type o f (Some (Stream t)) ts later g = over-stays 6 (type t ts) (type t later) later (f t ts later (under 6 (type t ts) later g)) g
  form-stays type o f (Some (Record ms)) ts later g =
      let ps = named forms names ms in
      over-stays 5 (members type 2 ps ts) (members type 2 ps later) later (members-stay type o f 2 ps ts later (under 5 (members type 2 ps ts) later g)) g
  form-stays type o f (Some (Union ms)) ts later g =
      let ps = named forms names ms in
      over-stays 9 (members type 7 ps ts) (members type 7 ps later) later (members-stay type o f 7 ps ts later (under 9 (members type 7 ps ts) later g)) g
  form-stays type o f None ts later g = refl

  within-stays : (d : ℕ) → Stays (label_within forms names d)
  within-stays zero t ts later g = refl
  within-stays (suc d) t ts later g = form-stays (label_within forms names d) (within-grows forms names d) (within-stays d) (slice_get forms t) ts later g

  pub type-stays : Stays (type_label forms names)
  type-stays t ts later g = within-stays deepest t ts later g

  pub function-stays : (f : Function) (ts later : Table) → Grows (function_label forms names f ts).table later → function_label forms names f later ≡ labelled (function_label forms names f ts).label later
  function-stays f ts later g =
      let type = type_label forms names in
      let a = tuple_label forms names f.params ts in
      let r = tuple_label forms names f.results a.table in
      let e = entry 3 a.label r.label [] in
      let gr = grows-then r.table (enter e r.table).table later (enter-grows e r.table) g in
      let ga = grows-then a.table r.table later (tuple-grows forms names f.results a.table) gr in
      ap (λ (x : Labelled). enter (entry 3 x.label (tuple_label forms names f.results x.table).label []) (tuple_label forms names f.results x.table).table) (members-stay type (type-grows forms names) type-stays 8 (map (λ t. ([], t)) f.params) ts later ga)
      ∙ (ap (λ (x : Labelled). enter (entry 3 a.label x.label []) x.table) (members-stay type (type-grows forms names) type-stays 8 (map (λ t. ([], t)) f.results) a.table later gr)
      ∙ enter-stays e r.table later g)

  callee-stays : (o : Option Function) (ts later : Table) → Grows (callee_label forms names o ts).table later → callee_label forms names o later ≡ labelled (callee_label forms names o ts).label later
  callee-stays None ts later g = refl
  callee-stays (Some f) ts later g = function-stays f ts later g

  pub carried-stays : (fs : List Function) (c : Carried) (ts later : Table) → Grows (carried_label forms names fs c ts).table later → carried_label forms names fs c later ≡ labelled (carried_label forms names fs c ts).label later
  carried-stays fs (One t) ts later g = type-stays t ts later g
  carried-stays fs (Many t) ts later g = over-stays 4 (type_label forms names t ts) (type_label forms names t later) later (type-stays t ts later (under 4 (type_label forms names t ts) later g)) g
  carried-stays fs (Callee f) ts later g = callee-stays (slice_get fs f) ts later g
