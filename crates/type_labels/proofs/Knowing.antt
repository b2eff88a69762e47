-- What is kept of a table stands in every later one.
use Rattle.std.proofs.Common.{◌≡◌, ◌⊎◌, inl, inr, ℕ, zero, suc, Bool, true, false, cond, ◌&&◌, nat_eq, List, [], ◌∷◌, slice_get, Option, Some, None, refl, sym, ap, ap₂, subst, ◌∙◌}
use Rattle.std.proofs.lemmas.Bool.Decides.{Decides-eqb}
use Rattle.std.proofs.lemmas.Option.{same_Some}
use Rattle.type_table.specs.declared.form.Form.{Form}
use Rattle.type_table.specs.declared.form.Form.TheVariants.{Boolean, Character, Integer, Null, Array, Stream, Record, Union}
use Rattle.lowering.specs.Types.{Entry, entry, Table, Labelled, labelled, enter, Part, members, named, over, form_label, label_within}
use Rattle.lowering.proofs.Tables.{Grows, grows-none, grows-then, enter-grows, within-grows}
use Rattle.lowering.proofs.Stable.{enter-stays}
use Rattle.type_labels.specs.declared.known.Known.{Known}
use Rattle.type_labels.specs.Known.{known_at, AreKnown}

-- ---- types that are at most so deep

abbrev Stays : (ℕ → Table → Labelled) → Type 0
Stays type = (t : ℕ) (ts later : Table) → Grows (type t ts).table later → type t later ≡ labelled (type t ts).label later

abbrev Only : (ℕ → Table → Labelled) → Type 0
Only type = (t : ℕ) (ts : Table) → Grows ts (type t ts).table

members-stay : (type : ℕ → Table → Labelled) → Only type → Stays type → (code : ℕ) (ms : List Part) (ts later : Table) → Grows (members type code ms ts).table later → members type code ms later ≡ labelled (members type code ms ts).label later
members-stay type o f code [] ts later g = refl
members-stay type o f code (m ∷ ms) ts later g =
    let rest = members type code ms ts in
    let t = type m.1 rest.table in
    let e = entry code t.label rest.label m.0 in
    let gt = grows-then t.table (enter e t.table).table later (enter-grows e t.table) g in
    let gr = grows-then rest.table t.table later (o m.1 rest.table) gt in
    ap (λ (r : Labelled). enter (entry code (type m.1 r.table).label r.label m.0) (type m.1 r.table).table) (members-stay type o f code ms ts later gr)
    ∙ (ap (λ (x : Labelled). enter (entry code x.label rest.label m.0) x.table) (f m.1 rest.table later gt)
    ∙ enter-stays e t.table later g)

module _ (forms : List Form) (names : List (List ℕ)) where
  over-stays : (code : ℕ) (t x : Labelled) (later : Table) → x ≡ labelled t.label later → Grows (over forms names code t).table later → over forms names code x ≡ labelled (over forms names code t).label later
  over-stays code t x later e g = ap (over forms names code) e ∙ enter-stays (entry code t.label 0 []) t.table later g

  under : (code : ℕ) (t : Labelled) (later : Table) → Grows (over forms names code t).table later → Grows t.table later
  under code t later g = grows-then t.table (over forms names code t).table later (enter-grows (entry code t.label 0 []) t.table) g

  form-stays : (type : ℕ → Table → Labelled) → Only type → Stays type → (o : Option Form) (ts later : Table) → Grows (form_label forms names type o ts).table later → form_label forms names type o later ≡ labelled (form_label forms names type o ts).label later
  form-stays type o f (Some Boolean) ts later g = refl
  form-stays type o f (Some Character) ts later g = refl
  form-stays type o f (Some Integer) ts later g = refl
  form-stays type o f (Some Null) ts later g = refl
  form-stays type o f (Some (Array t)) ts later g = over-stays 0 (type t ts) (type t later) later (f t ts later (under 0 (type t ts) later g)) g
  form-stays type o f (Some (Stream t)) ts later g = over-stays 6 (type t ts) (type t later) later (f t ts later (under 6 (type t ts) later g)) g
  form-stays type o f (Some (Record ms)) ts later g =
      let ps = named forms names ms in
      over-stays 5 (members type 2 ps ts) (members type 2 ps later) later (members-stay type o f 2 ps ts later (under 5 (members type 2 ps ts) later g)) g
  form-stays type o f (Some (Union ms)) ts later g =
      let ps = named forms names ms in
      over-stays 9 (members type 7 ps ts) (members type 7 ps later) later (members-stay type o f 7 ps ts later (under 9 (members type 7 ps ts) later g)) g
  form-stays type o f None ts later g = refl

  within-stays : (d : ℕ) → Stays (label_within forms names d)
  within-stays zero t ts later g = refl
  within-stays (suc d) t ts later g = form-stays (label_within forms names d) (within-grows forms names d) (within-stays d) (slice_get forms t) ts later g

  -- what was found in a table is found there again
  pub found_again : (d t l : ℕ) (ts later : Table) → label_within forms names d t ts ≡ labelled l later → label_within forms names d t later ≡ labelled l later
  found_again d t l ts later made =
      within-stays d t ts later (subst (λ (x : Table). Grows x later) (sym (ap (λ (r : Labelled). r.table) made)) (grows-none later))
      ∙ ap (λ x. labelled x later) (ap (λ (r : Labelled). r.label) made)

  -- ---- what is kept

  pub none_known : (k : Known) (ts : Table) → ((d t : ℕ) → known_at k d t ≡ None) → AreKnown forms names k ts
  none_known k ts none = record { stand = λ d t l is. differ (known_at k d t) l (none d t) is }
    where
      differ : {P : Type 0} (o : Option ℕ) (l : ℕ) → o ≡ None → o ≡ Some l → P
      differ o l e is = absurd cc

  -- an entry more
  pub known_enter : (k : Known) (e : Entry) (ts later : Table) (l : ℕ) → AreKnown forms names k ts → enter e ts ≡ labelled l later → AreKnown forms names k later
  known_enter k e ts later l h made =
      let g : Grows ts later = subst (Grows ts) (ap (λ (r : Labelled). r.table) made) (enter-grows e ts) in
      record {
        stand = λ d t m is.
            let old = h.stand d t m is in
            within-stays d t ts later (subst (λ (x : Table). Grows x later) (sym (ap (λ (r : Labelled). r.table) old)) g)
            ∙ ap (λ x. labelled x later) (ap (λ (r : Labelled). r.label) old);
      }

  -- a label more
  pub known_more : (k new : Known) (depth ty label : ℕ) (ts : Table) → AreKnown forms names k ts → label_within forms names depth ty ts ≡ labelled label ts
      → ((d t l : ℕ) → known_at new d t ≡ Some l → (known_at k d t ≡ Some l) ⊎ ((d ≡ depth) × (t ≡ ty) × (l ≡ label))) → AreKnown forms names new ts
  known_more k new depth ty label ts h made more = record { stand = λ d t l is. by d t l (more d t l is) }
    where
      by : (d t l : ℕ) → (known_at k d t ≡ Some l) ⊎ ((d ≡ depth) × (t ≡ ty) × (l ≡ label)) → label_within forms names d t ts ≡ labelled l ts
      by d t l (inl old) = h.stand d t l old
      by d t l (inr e) = ap₂ (λ (x y : ℕ). label_within forms names x y ts) e.0 e.1 ∙ (made ∙ ap (λ x. labelled x ts) (sym e.2))

-- what is kept behind an insertion was kept, or is that
pub kept_is : (depth ty label d t l : ℕ) (o n : Option ℕ) → n ≡ cond (nat_eq depth d && nat_eq ty t) (Some label) o → n ≡ Some l → (o ≡ Some l) ⊎ ((d ≡ depth) × (t ≡ ty) × (l ≡ label))
kept_is depth ty label d t l o n made is = by (nat_eq depth d) refl (nat_eq ty t) refl made
  where
    by : (a : Bool) → nat_eq depth d ≡ a → (b : Bool) → nat_eq ty t ≡ b → n ≡ cond (a && b) (Some label) o → (o ≡ Some l) ⊎ ((d ≡ depth) × (t ≡ ty) × (l ≡ label))
    by true ea true eb made = inr (sym ((Decides-eqb depth d).0 ea), sym ((Decides-eqb ty t).0 eb), same_Some l label (sym is ∙ made))
    by true ea false eb made = inl (sym made ∙ is)
    by false ea b eb made = inl (sym made ∙ is)
