-- A record with fields changed: the graph has a port for each field up to the last one that changes, and those that do not are unfilled.
use Rattle.std.proofs.Common.{◌≡◌, ℕ, zero, suc, ◌+◌, ◌<◌, ◌≤◌, Bool, true, false, ◌&&◌, List, [], ◌∷◌, length, slice_get, Option, Some, None, refl, sym, ap, ◌∙◌, subst, arith, eq-eqb, ne_eqb, option_map, unwrap_or, nat_eq, if◌then◌else◌}
use Rattle.std.specs.Prelude.{slice_set, nat_lt}
use Rattle.std.specs.List.{list_all}
use Rattle.std.proofs.lemmas.Bool.{eqb-true, eqb-false, ltb-true, ltb-false, lt-ltb}
use Rattle.std.proofs.lemmas.Option.{slice_get_within}
use Rattle.flow_value.specs.declared.value.Val.{Val}
use Rattle.flow_value.specs.declared.value.Val.TheVariants as val
use Rattle.flow_value.specs.declared.ty.Ty.{Ty}
use Rattle.flow_value.specs.declared.ty.Ty.TheVariants as ty
use Rattle.flow_value.specs.Well.{are_well_fields}
use Rattle.value_ops.specs.Aggregates.{replaced, changed}
use Rattle.value_ops.specs.Views.{on_record, record_in}
use Rattle.value_ops.specs.Operations.{op_value}
use Rattle.value_ops.specs.declared.operation.Operation.TheVariants as operation
use Rattle.if1_graph.specs.Units.{greatest}
use Rattle.typed_rows.specs.Rows.{Member, AreOf}
use Rattle.typed_values.specs.Fitting.{AreFields}
use Rattle.typed_rows.proofs.ValueKinds.{RecKind, a_rec, no_rec, as_rec, out_rec}
use Rattle.graph_meaning.specs.Carried.{Carried, Value, Unfilled, vals, filled_from}
use Rattle.lowering_meaning.specs.Coverage.{is_in, all_apart}

-- ---- the value at a place

-- the first of the values for a place
abbrev pub value_for : ℕ → List ℕ → List Val → Option Val
value_for i [] vs = None
value_for i (p ∷ ps) [] = None
value_for i (p ∷ ps) (v ∷ vs) = if nat_eq p i then Some v else value_for i ps vs

abbrev or_here : Option Val → Option Val → Option Val
or_here (Some w) o = Some w
or_here None o = o

-- the last of the values for a place
abbrev last_for : ℕ → List ℕ → List Val → Option Val
last_for i [] vs = None
last_for i (p ∷ ps) [] = None
last_for i (p ∷ ps) (v ∷ vs) = or_here (last_for i ps vs) (if nat_eq p i then Some v else None)

same-places : (p i : ℕ) → nat_eq (suc p) (suc i) ≡ nat_eq p i
same-places p i = by (nat_eq p i) refl
  where
    by : (b : Bool) → nat_eq p i ≡ b → nat_eq (suc p) (suc i) ≡ b
    by true e = eq-eqb (suc p) (suc i) (ap suc (eqb-true p i e))
    by false e = ne_eqb (suc p) (suc i) (λ q. eqb-false p i e (omega (arith, q)))

set-at : (xs : List Val) (p : ℕ) (v : Val) (i : ℕ) → slice_get (slice_set xs p v) i ≡ option_map (λ w. if nat_eq p i then v else w) (slice_get xs i)
set-at [] p v i = refl
set-at (x ∷ xs) zero v zero = ap (λ b. Some (if b then v else x)) (sym (eq-eqb 0 0 refl))
set-at (x ∷ xs) zero v (suc i) = same (slice_get xs i) ∙ ap (λ b. option_map (λ w. if b then v else w) (slice_get xs i)) (sym (ne_eqb 0 (suc i) (λ e. omega (arith, e))))
  where
    same : (o : Option Val) → o ≡ option_map (λ w. w) o
    same None = refl
    same (Some w) = refl
set-at (x ∷ xs) (suc p) v zero = ap (λ b. Some (if b then v else x)) (sym (ne_eqb (suc p) 0 (λ e. omega (arith, e))))
set-at (x ∷ xs) (suc p) v (suc i) = set-at xs p v i ∙ ap (λ b. option_map (λ w. if b then v else w) (slice_get xs i)) (sym (same-places p i))

replaced-at : (ps : List ℕ) (vs fields : List Val) (i : ℕ) → slice_get (replaced ps vs fields) i ≡ option_map (λ w. unwrap_or (last_for i ps vs) w) (slice_get fields i)
replaced-at [] vs fields i = same (slice_get fields i)
  where
    same : (o : Option Val) → o ≡ option_map (λ w. w) o
    same None = refl
    same (Some w) = refl
replaced-at (p ∷ ps) [] fields i = same (slice_get fields i)
  where
    same : (o : Option Val) → o ≡ option_map (λ w. w) o
    same None = refl
    same (Some w) = refl
replaced-at (p ∷ ps) (v ∷ vs) fields i = replaced-at ps vs (slice_set fields p v) i ∙ (ap (option_map (λ w. unwrap_or (last_for i ps vs) w)) (set-at fields p v i) ∙ by (slice_get fields i) (last_for i ps vs) (nat_eq p i))
  where
    by : (o l : Option Val) (b : Bool) → option_map (λ w. unwrap_or l w) (option_map (λ w. if b then v else w) o) ≡ option_map (λ w. unwrap_or (or_here l (if b then Some v else None)) w) o
    by None l b = refl
    by (Some w) None true = refl
    by (Some w) None false = refl
    by (Some w) (Some x) b = refl

same-list : (xs ys : List Val) → ((i : ℕ) → slice_get xs i ≡ slice_get ys i) → xs ≡ ys
same-list [] [] h = refl
same-list [] (y ∷ ys) h = absurd (none (h 0))
  where
    none : None ≡ Some y → ⊥
    none e = cc
same-list (x ∷ xs) [] h = absurd (none (h 0))
  where
    none : Some x ≡ None → ⊥
    none e = cc
same-list (x ∷ xs) (y ∷ ys) h = ap (λ z. z ∷ xs) (same (h 0)) ∙ ap (λ zs. y ∷ zs) (same-list xs ys (λ i. h (suc i)))
  where
    same : Some x ≡ Some y → x ≡ y
    same e = cc

-- where no place stands twice the last is the first
not-in : (i : ℕ) (ps : List ℕ) (vs : List Val) → is_in i ps ≡ false → value_for i ps vs ≡ None
not-in i [] vs h = refl
not-in i (p ∷ ps) [] h = refl
not-in i (p ∷ ps) (v ∷ vs) h = by (nat_eq p i) h (λ k. not-in i ps vs k)
  where
    by : (b : Bool) → (if b then true else is_in i ps) ≡ false → (is_in i ps ≡ false → value_for i ps vs ≡ None) → (if b then Some v else value_for i ps vs) ≡ None
    by true h r = absurd cc
    by false h r = r h

apart-head : (p : ℕ) (ps : List ℕ) → all_apart (p ∷ ps) ≡ true → (is_in p ps ≡ false) × (all_apart ps ≡ true)
apart-head p ps h = by (is_in p ps) h
  where
    by : (b : Bool) → (if b then false else all_apart ps) ≡ true → (b ≡ false) × (all_apart ps ≡ true)
    by true h = absurd cc
    by false h = (refl, h)

last-is-first : (i : ℕ) (ps : List ℕ) (vs : List Val) → all_apart ps ≡ true → last_for i ps vs ≡ value_for i ps vs
last-is-first i [] vs h = refl
last-is-first i (p ∷ ps) [] h = refl
last-is-first i (p ∷ ps) (v ∷ vs) h =
    let a = apart-head p ps h in
    ap (λ o. or_here o (if nat_eq p i then Some v else None)) (last-is-first i ps vs a.1) ∙ by (nat_eq p i) refl a.0
  where
    by : (b : Bool) → nat_eq p i ≡ b → is_in p ps ≡ false → or_here (value_for i ps vs) (if b then Some v else None) ≡ (if b then Some v else value_for i ps vs)
    by true e n = ap (λ o. or_here o (Some v)) (not-in i ps vs (subst (λ j. is_in j ps ≡ false) (eqb-true p i e) n))
    by false e n = none (value_for i ps vs)
      where
        none : (o : Option Val) → or_here o None ≡ o
        none None = refl
        none (Some w) = refl

-- ---- the ports

abbrev pub cell : Option Val → Carried
cell None = Unfilled
cell (Some v) = Value v

further : (p i : ℕ) → p ≤ i → nat_eq p i ≡ false → suc p ≤ i
further p i l e = by (nat_lt p i) refl
  where
    by : (b : Bool) → nat_lt p i ≡ b → suc p ≤ i
    by true h = omega (arith, ltb-true p i h)
    by false h = absurd (eqb-false p i e (omega (arith, l, ltb-false p i h)))

module _ (places : List ℕ) (vs : List Val) where
  -- so many ports, the first for this place
  abbrev pub cells : ℕ → ℕ → List Carried
  cells p zero = []
  cells p (suc n) = cell (value_for p places vs) ∷ cells (suc p) n

  abbrev Last : ℕ → ℕ → List Carried → Option Val
  Last i p cs = last_for i (filled_from p cs) (vals cs)

  below : (n p i : ℕ) → i < p → Last i p (cells p n) ≡ None
  below zero p i l = refl
  below (suc n) p i l = by (value_for p places vs) (below n (suc p) i (omega (arith, l)))
    where
      by : (o : Option Val) → Last i (suc p) (cells (suc p) n) ≡ None → Last i p (cell o ∷ cells (suc p) n) ≡ None
      by None r = r
      by (Some v) r = ap (λ o. or_here o (if nat_eq p i then Some v else None)) r ∙ ap (λ (b : Bool). if b then Some v else None) (ne_eqb p i (λ e. omega (arith, l, e)))

  at-port : (n p i : ℕ) → p ≤ i → ((j : ℕ) → p + n ≤ j → value_for j places vs ≡ None) → Last i p (cells p n) ≡ value_for i places vs
  at-port zero p i l h = sym (h i (omega (arith, l)))
  at-port (suc n) p i l h = by (nat_eq p i) refl (λ e. at-port n (suc p) i (further p i l e) (λ j k. h j (omega (arith, k))))
    where
      here : (o : Option Val) → Last i (suc p) (cells (suc p) n) ≡ None → nat_eq p i ≡ true → Last i p (cell o ∷ cells (suc p) n) ≡ o
      here None r e = r
      here (Some v) r e = ap (λ o. or_here o (if nat_eq p i then Some v else None)) r ∙ ap (λ (b : Bool). if b then Some v else None) e

      later : (o : Option Val) → nat_eq p i ≡ false → Last i p (cell o ∷ cells (suc p) n) ≡ Last i (suc p) (cells (suc p) n)
      later None e = refl
      later (Some v) e = ap (λ (b : Bool). or_here (Last i (suc p) (cells (suc p) n)) (if b then Some v else None)) e ∙ none (Last i (suc p) (cells (suc p) n))
        where
          none : (o : Option Val) → or_here o None ≡ o
          none None = refl
          none (Some w) = refl

      by : (b : Bool) → nat_eq p i ≡ b → (nat_eq p i ≡ false → Last i (suc p) (cells (suc p) n) ≡ value_for i places vs) → Last i p (cell (value_for p places vs) ∷ cells (suc p) n) ≡ value_for i places vs
      by true e r = here (value_for p places vs) (below n (suc p) i (omega (arith, eqb-true p i e))) e ∙ ap (λ j. value_for j places vs) (eqb-true p i e)
      by false e r = later (value_for p places vs) e ∙ r e

  as-many : (n p : ℕ) → length (vals (cells p n)) ≡ length (filled_from p (cells p n))
  as-many zero p = refl
  as-many (suc n) p = by (value_for p places vs) (as-many n (suc p))
    where
      by : (o : Option Val) → length (vals (cells (suc p) n)) ≡ length (filled_from (suc p) (cells (suc p) n)) → length (vals (cell o ∷ cells (suc p) n)) ≡ length (filled_from p (cell o ∷ cells (suc p) n))
      by None r = r
      by (Some v) r = ap suc r

  all-fine : (f : ℕ → Bool) (n p : ℕ) → ((i : ℕ) (v : Val) → value_for i places vs ≡ Some v → f i ≡ true) → list_all f (filled_from p (cells p n)) ≡ true
  all-fine f zero p h = refl
  all-fine f (suc n) p h = by (value_for p places vs) refl (all-fine f n (suc p) h)
    where
      by : (o : Option Val) → value_for p places vs ≡ o → list_all f (filled_from (suc p) (cells (suc p) n)) ≡ true → list_all f (filled_from p (cell o ∷ cells (suc p) n)) ≡ true
      by None e r = r
      by (Some v) e r = rw (h p v e, r) refl

value-fine : (f : ℕ → Bool) (places : List ℕ) (vs : List Val) → list_all f places ≡ true → (i : ℕ) (v : Val) → value_for i places vs ≡ Some v → f i ≡ true
value-fine f [] vs h i v e = absurd cc
value-fine f (p ∷ ps) [] h i v e = absurd cc
value-fine f (p ∷ ps) (w ∷ vs) h i v e = by (nat_eq p i) refl e (both (f p) h) (λ g k. value-fine f ps vs g i v k)
  where
    both : (b : Bool) → (b && list_all f ps) ≡ true → (b ≡ true) × (list_all f ps ≡ true)
    both true h = (refl, h)
    both false h = absurd cc

    by : (b : Bool) → nat_eq p i ≡ b → (if b then Some w else value_for i ps vs) ≡ Some v → (f p ≡ true) × (list_all f ps ≡ true) → (list_all f ps ≡ true → value_for i ps vs ≡ Some v → f i ≡ true) → f i ≡ true
    by true e k h r = subst (λ j. f j ≡ true) (eqb-true p i e) h.0
    by false e k h r = r h.1 k

-- places behind the last one have no value
past-last : (ps : List ℕ) (vs : List Val) (i : ℕ) → suc (greatest ps) ≤ i → value_for i ps vs ≡ None
past-last [] vs i l = refl
past-last (p ∷ ps) [] i l = refl
past-last (p ∷ ps) (v ∷ vs) i l =
    ap (λ (b : Bool). if b then Some v else value_for i ps vs) (ne_eqb p i (λ e. omega (arith, l, e))) ∙ past-last ps vs i (omega (arith, l))

fine-fields : (ms : List Member) (places : List ℕ) (tys : List Ty) → AreFields ms places tys → list_all (λ p. nat_lt p (length ms)) places ≡ true
fine-fields ms [] tys h = refl
fine-fields ms (p ∷ ps) [] h = absurd h
fine-fields ms (p ∷ ps) (t ∷ tys) h = rw (lt-ltb p (length ms) (slice_get_within ms p (h.0.0, t) h.0.1), fine-fields ms ps tys h.1) refl

as-many-fields : (ms : List Member) (fields : List Val) → are_well_fields ms fields ≡ true → length fields ≡ length ms
as-many-fields [] [] h = refl
as-many-fields [] (v ∷ vs) h = absurd cc
as-many-fields (m ∷ ms) [] h = absurd cc
as-many-fields (m ∷ ms) (v ∷ vs) h = ap suc (as-many-fields ms vs (both _ h))
  where
    both : (b : Bool) → (b && are_well_fields ms vs) ≡ true → are_well_fields ms vs ≡ true
    both true h = h
    both false h = absurd cc

as-many-values : (ms : List Member) (places : List ℕ) (tys : List Ty) (vs : List Val) → AreFields ms places tys → AreOf tys vs → length vs ≡ length places
as-many-values ms [] [] [] h a = refl
as-many-values ms [] [] (v ∷ vs) h a = absurd a
as-many-values ms [] (t ∷ tys) vs h a = absurd h
as-many-values ms (p ∷ ps) [] vs h a = absurd h
as-many-values ms (p ∷ ps) (t ∷ tys) [] h a = absurd a
as-many-values ms (p ∷ ps) (t ∷ tys) (v ∷ vs) h a = ap suc (as-many-values ms ps tys vs h.1 a.1)

-- ---- the record

changed-is : (ps : List ℕ) (vs fields : List Val) → length vs ≡ length ps → list_all (λ p. nat_lt p (length fields)) ps ≡ true → changed ps vs fields ≡ val.Rec (replaced ps vs fields)
changed-is ps vs fields e h = rw (eq-eqb (length vs) (length ps) e, h) refl

on-fields : (f : List Val → Val) (fields : List Val) → on_record f (val.Rec fields) ≡ f fields
on-fields f fields = ap (record_in f) (out_rec fields)

pub changed-alike : (ms : List Member) (places : List ℕ) (tys : List Ty) (r : Val) (vs : List Val) → all_apart places ≡ true → AreFields ms places tys → AreOf (ty.Rec ms ∷ tys) (r ∷ vs)
    → let cs = cells places vs 0 (suc (greatest places)) in op_value (operation.Change (filled_from 0 cs)) (r ∷ vals cs) ≡ op_value (operation.Change places) (r ∷ vs)
changed-alike ms places tys r vs d h a = by r (as_rec ms r a.0)
  where
    cs : List Carried
    cs = cells places vs 0 (suc (greatest places))

    alike : (fields : List Val) → length fields ≡ length ms → changed (filled_from 0 cs) (vals cs) fields ≡ changed places vs fields
    alike fields l =
        let fine : list_all (λ p. nat_lt p (length fields)) places ≡ true = subst (λ n. list_all (λ p. nat_lt p n) places ≡ true) (sym l) (fine-fields ms places tys h) in
        changed-is (filled_from 0 cs) (vals cs) fields (as-many places vs (suc (greatest places)) 0) (all-fine places vs (λ p. nat_lt p (length fields)) (suc (greatest places)) 0 (value-fine (λ p. nat_lt p (length fields)) places vs fine))
        ∙ (ap val.Rec (same-list (replaced (filled_from 0 cs) (vals cs) fields) (replaced places vs fields) (λ i.
        replaced-at (filled_from 0 cs) (vals cs) fields i
        ∙ (ap (λ o. option_map (λ w. unwrap_or o w) (slice_get fields i)) (at-port places vs (suc (greatest places)) 0 i (omega arith) (λ j k. past-last places vs j (omega (arith, k))) ∙ sym (last-is-first i places vs d))
        ∙ sym (replaced-at places vs fields i))))
        ∙ sym (changed-is places vs fields (as-many-values ms places tys vs h a.1) fine))

    by : (r : Val) → RecKind ms r → op_value (operation.Change (filled_from 0 cs)) (r ∷ vals cs) ≡ op_value (operation.Change places) (r ∷ vs)
    by _ (a_rec fields w) = on-fields (changed (filled_from 0 cs) (vals cs)) fields ∙ (alike fields (as-many-fields ms fields (second _ w)) ∙ sym (on-fields (changed places vs) fields))
      where
        second : (b : Bool) → (b && are_well_fields ms fields) ≡ true → are_well_fields ms fields ≡ true
        second true h = h
        second false h = absurd cc
    by _ (no_rec c) = refl
