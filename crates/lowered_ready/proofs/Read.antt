-- The table of types of a program, read back: what a label stands for in every later table.
use Rattle.std.proofs.Common.{◌≡◌, ℕ, zero, suc, ◌+◌, ◌<◌, ◌≤◌, Bool, true, List, [], ◌∷◌, map, length, get_or, Option, Some, None, slice_get, refl, sym, ap, subst, ◌∙◌, arith}
use Rattle.std.specs.Prelude.{All, if◌then◌else◌}
use Rattle.std.proofs.lemmas.List.Elements.{All-head, All-tail}
use Rattle.std.proofs.lemmas.Option.{slice_get_within}
use Rattle.flow_value.specs.declared.ty.Ty.{Ty}
use Rattle.flow_value.specs.declared.ty.Ty.TheVariants as ty
use Rattle.if1_graph.specs.declared.graph.TypeEntry.{TypeEntry}
use Rattle.if1_graph.specs.declared.kind.TypeKind.{TypeKind}
use Rattle.if1_graph.specs.declared.kind.TypeKind.TheVariants as kind
use Rattle.if1_graph.specs.Kinds.{kind_at}
use Rattle.if1_graph.specs.Tables.{◌>>=◌}
use Rattle.if1_graph.specs.Types.{Member, Sort, Plain, Many as ManyOf, Function as FunctionOf, entry_at, is_field, is_tag, is_tuple, ty_of, ty_within, without_names, bare_at, tuple_at, sort_of as sort_in, sort_at}
use Rattle.if1_graph.specs.Types as sorts
use Rattle.type_table.specs.declared.form.Form.{Form}
use Rattle.type_table.specs.declared.form.Form.TheVariants as form
use Rattle.type_table.specs.declared.form.Member.{Member as NumberedMember}
use Rattle.type_table.specs.Forms.{deepest}
use Rattle.type_table.specs.Tables.{depths, IsTable}
use Rattle.typed_tree.specs.declared.program.Function.{Function}
use Rattle.typed_tree.specs.declared.program.Program.{Program}
use Rattle.lowering.specs.Types.{Entry, entry, Table, Labelled, enter, basics, Part, members, named, over, form_label, type_label, tuple_label, function_label}
use Rattle.lowering.proofs.Tables.{Grows, grows-then, enter-grows, within-grows, tuple-grows}
use Rattle.lowering_meaning.specs.Units.{entries_from}
use Rattle.lowering_meaning.proofs.Canonical.{as_type}
use Rattle.lowering_meaning.proofs.Depths.{depth_at}
use Rattle.lowering_meaning.proofs.LowTables.{IsLow, low-at}
use Rattle.lowering_meaning.proofs.Sorts.{HasEntry, entered, E, within, at-entry, kind-there, shallow}
use Rattle.lowering_meaning.proofs.Sorts as read
use Rattle.lowered_ready.specs.Sorts.{members_of, type_of, type_within, type_at, types_at, function_sort}

-- a label of a type of a value is no multiple and no function
pub plain-sort : (ts : List TypeEntry) (l : ℕ) (t : Ty) → bare_at ts l ≡ Some t → sort_at ts l ≡ Some (Plain t)
plain-sort ts l t h = by (entry_at ts l) h
  where
    kinds : (e : TypeEntry) (k : Option TypeKind) → ty_of without_names (ty_within without_names 63 ts) ts e k ≡ Some t → sort_in ts l e k ≡ Some (Plain t)
    kinds e (Some kind.Basic) x = ap (λ o. o >>= λ t. Some (Plain t)) h
    kinds e (Some kind.Array) x = ap (λ o. o >>= λ t. Some (Plain t)) h
    kinds e (Some kind.Stream) x = ap (λ o. o >>= λ t. Some (Plain t)) h
    kinds e (Some kind.Record) x = ap (λ o. o >>= λ t. Some (Plain t)) h
    kinds e (Some kind.Union) x = ap (λ o. o >>= λ t. Some (Plain t)) h
    kinds e k x = absurd cc

    by : (o : Option TypeEntry) → (o >>= λ e. ty_of without_names (ty_within without_names 63 ts) ts e (kind_at e.code)) ≡ Some t → (o >>= λ e. sort_in ts l e (kind_at e.code)) ≡ Some (Plain t)
    by None x = absurd cc
    by (Some e) x = kinds e (kind_at e.code) x

-- ---- lists of members

abbrev of_parts : (ℕ → Ty) → List Part → List Member
of_parts type ms = map (λ m. ([], type m.1)) ms

module _ (p : Program) where
  length-entries : (label : ℕ) (ts : Table) → length (entries_from p label ts) ≡ length ts
  length-entries label [] = refl
  length-entries label (t ∷ ts) = ap suc (length-entries (suc label) ts)

  abbrev bare : ℕ → Table → ℕ → Option Ty
  bare d later l = read.bare p d later l

  -- what a number of a type stands for in every later table
  abbrev Shown : ℕ → ℕ → Ty → Type 0
  Shown d n t = (ts later : Table) → IsLow later → Grows basics later → Grows (within p d n ts).table later → bare d later (within p d n ts).label ≡ Some t

  abbrev EachShown : ℕ → (ℕ → Ty) → List Part → Type 0
  EachShown d type [] = Unit {0}
  EachShown d type (m ∷ ms) = Shown d m.1 (type m.1) × EachShown d type ms

  abbrev members_in : ℕ → (Option TypeKind → Bool) → Table → ℕ → ℕ → Option (List Member)
  members_in d is later far l = sorts.members without_names (bare d later) is (E p later) far l

  no-members : (d : ℕ) (is : Option TypeKind → Bool) (later : Table) (far : ℕ) → members_in d is later far 0 ≡ Some []
  no-members d is later zero = refl
  no-members d is later (suc far) = refl

  members-shown : (d code : ℕ) (type : ℕ → Ty) (is : Option TypeKind → Bool) → is (kind_at code) ≡ true → (ms : List Part) → EachShown d type ms → (ts later : Table) → IsLow later → Grows basics later
      → Grows (members (within p d) code ms ts).table later → (far : ℕ) → (members (within p d) code ms ts).label ≤ far
      → members_in d is later far (members (within p d) code ms ts).label ≡ Some (of_parts type ms)
  members-shown d code type is kept [] s ts later low b g far le = no-members d is later far
  members-shown d code type is kept (m ∷ ms) s ts later low b g far le = by (λ k far le. members-shown d code type is kept ms s.1 ts later low b k far le) far le
    where
      rest : Labelled
      rest = members (within p d) code ms ts

      t : Labelled
      t = within p d m.1 rest.table

      e : Entry
      e = entry code t.label rest.label m.0

      h : HasEntry later (enter e t.table).label e
      h = entered e t.table later g

      gt : Grows t.table later
      gt = grows-then t.table (enter e t.table).table later (enter-grows e t.table) g

      gr : Grows rest.table later
      gr = grows-then rest.table t.table later (within-grows p.types p.names d m.1 rest.table) gt

      x : bare d later t.label ≡ Some (type m.1)
      x = s.0 rest.table later low b gt

      by : (Grows rest.table later → (far : ℕ) → rest.label ≤ far → members_in d is later far rest.label ≡ Some (of_parts type ms)) → (far : ℕ) → (enter e t.table).label ≤ far
          → members_in d is later far (enter e t.table).label ≡ Some (of_parts type (m ∷ ms))
      by others zero le = absurd (omega (arith, le, h.is))
      by others (suc far) le =
          let below : h.entry.second ≤ 0 + h.place = low-at 0 later low.low h.place h.entry h.there in
          let r = others gr far (omega (arith, le, h.is, below, h.second)) in
          let K : Option Ty → ℕ → Option (List Member) = λ o l. o >>= λ t. members_in d is later far l >>= λ others. Some (([], t) ∷ others) in
          ap (members_in d is later (suc far)) h.is
          ∙ (ap (λ o. o >>= λ (y : TypeEntry). K (if is (kind_at y.code) then bare d later y.first else None) y.second) (sym (ap (entry_at (E p later)) h.is) ∙ at-entry p later (enter e t.table).label e h)
          ∙ (ap (λ c. K (if is (kind_at c) then bare d later h.entry.first else None) h.entry.second) h.code
          ∙ (ap (λ c. K (if c then bare d later h.entry.first else None) h.entry.second) kept
          ∙ (ap (λ l. K (bare d later l) h.entry.second) h.first ∙ (ap (λ o. K o h.entry.second) x ∙ (ap (K (Some (type m.1))) h.second ∙ ap (λ o. o >>= λ others. Some (([], type m.1) ∷ others)) r))))))

  members-within : (d code : ℕ) (ms : List Part) (ts later : Table) → Grows (members (within p d) code ms ts).table later → (members (within p d) code ms ts).label ≤ length (E p later)
  members-within d code [] ts later g = omega arith
  members-within d code (m ∷ ms) ts later g =
      let rest = members (within p d) code ms ts in
      let t = within p d m.1 rest.table in
      let h = entered (entry code t.label rest.label m.0) t.table later g in
      omega (arith, h.is, slice_get_within later h.place h.entry h.there, length-entries 1 later)

  -- ---- forms

  abbrev FormShown : ℕ → Option Form → Ty → Type 0
  FormShown d o t = (ts later : Table) → IsLow later → Grows basics later → Grows (form_label p.types p.names (within p d) o ts).table later → bare (suc d) later (form_label p.types p.names (within p d) o ts).label ≡ Some t

  array-shown : (d n : ℕ) (t : Ty) → Shown d n t → FormShown d (Some (form.Array n)) (ty.Arr t)
  array-shown d n t s ts later low b g =
      let r = within p d n ts in
      let e = entry 0 r.label 0 [] in
      let h = entered e r.table later g in
      let x = s ts later low b (grows-then r.table (enter e r.table).table later (enter-grows e r.table) g) in
      kind-there p d later (enter e r.table).label e h ∙ (ap (λ l. bare d later l >>= λ t. Some (ty.Arr t)) h.first ∙ ap (λ o. o >>= λ t. Some (ty.Arr t)) x)

  stream-shown : (d n : ℕ) (t : Ty) → Shown d n t → FormShown d (Some (form.Stream n)) (ty.Stream t)
  stream-shown d n t s ts later low b g =
      let r = within p d n ts in
      let e = entry 6 r.label 0 [] in
      let h = entered e r.table later g in
      let x = s ts later low b (grows-then r.table (enter e r.table).table later (enter-grows e r.table) g) in
      kind-there p d later (enter e r.table).label e h ∙ (ap (λ l. bare d later l >>= λ t. Some (ty.Stream t)) h.first ∙ ap (λ o. o >>= λ t. Some (ty.Stream t)) x)

  named-parts : (type : ℕ → Ty) (ms : List NumberedMember) → of_parts type (named p.types p.names ms) ≡ members_of type ms
  named-parts type [] = refl
  named-parts type (m ∷ ms) = ap (λ l. ([], type m.ty) ∷ l) (named-parts type ms)

  record-shown : (d : ℕ) (type : ℕ → Ty) (ms : List NumberedMember) → EachShown d type (named p.types p.names ms) → FormShown d (Some (form.Record ms)) (ty.Rec (members_of type ms))
  record-shown d type ms s ts later low b g =
      let r = members (within p d) 2 (named p.types p.names ms) ts in
      let e = entry 5 r.label 0 [] in
      let h = entered e r.table later g in
      let gr = grows-then r.table (enter e r.table).table later (enter-grows e r.table) g in
      let x = members-shown d 2 type is_field refl (named p.types p.names ms) s ts later low b gr (length (E p later)) (members-within d 2 (named p.types p.names ms) ts later gr) in
      kind-there p d later (enter e r.table).label e h
      ∙ (ap (λ l. members_in d is_field later (length (E p later)) l >>= λ fs. Some (ty.Rec fs)) h.first
      ∙ (ap (λ o. o >>= λ fs. Some (ty.Rec fs)) x ∙ ap (λ l. Some (ty.Rec l)) (named-parts type ms)))

  union-shown : (d : ℕ) (type : ℕ → Ty) (ms : List NumberedMember) → EachShown d type (named p.types p.names ms) → FormShown d (Some (form.Union ms)) (ty.Uni (members_of type ms))
  union-shown d type ms s ts later low b g =
      let r = members (within p d) 7 (named p.types p.names ms) ts in
      let e = entry 9 r.label 0 [] in
      let h = entered e r.table later g in
      let gr = grows-then r.table (enter e r.table).table later (enter-grows e r.table) g in
      let x = members-shown d 7 type is_tag refl (named p.types p.names ms) s ts later low b gr (length (E p later)) (members-within d 7 (named p.types p.names ms) ts later gr) in
      kind-there p d later (enter e r.table).label e h
      ∙ (ap (λ l. members_in d is_tag later (length (E p later)) l >>= λ fs. Some (ty.Uni fs)) h.first
      ∙ (ap (λ o. o >>= λ fs. Some (ty.Uni fs)) x ∙ ap (λ l. Some (ty.Uni l)) (named-parts type ms)))

  -- ---- numbers

  module _ (well : IsTable p.types) where
    abbrev depth : ℕ → ℕ
    depth n = get_or (depths p.types) n 0

    abbrev Below : ℕ → Type 0
    Below d = (n : ℕ) → n < length p.types → depth n ≤ d → Shown d n (type_within p.types d n)

    some-form : (fs : List Form) (n : ℕ) → n < length fs → (f : Form) × (slice_get fs n ≡ Some f)
    some-form [] n i = absurd (omega (arith, i))
    some-form (f ∷ fs) zero i = (f, refl)
    some-form (f ∷ fs) (suc n) i = some-form fs n (omega (arith, i))

    each-shown : (d n : ℕ) → Below d → n < length p.types → (ms : List NumberedMember) → All (λ x. x < n) (map (λ m. m.ty) ms) → deepest (depths p.types) (map (λ m. m.ty) ms) ≤ d → EachShown d (type_within p.types d) (named p.types p.names ms)
    each-shown d n f i [] o h = tt
    each-shown d n f i (m ∷ ms) o h = (
      f m.ty (omega (arith, i, All-head (λ x. x < n) m.ty (map (λ m. m.ty) ms) o)) (omega (arith, h)),
      each-shown d n f i ms (All-tail (λ x. x < n) m.ty (map (λ m. m.ty) ms) o) (omega (arith, h)),
    )

    form-shown : (d n : ℕ) → Below d → n < length p.types → depth n ≤ suc d → (f : Form) → slice_get p.types n ≡ Some f → FormShown d (Some f) (type_of (type_within p.types d) (Some f))
    form-shown d n rec i h form.Boolean e = λ ts later low b g. ap (λ es. bare (suc d) es 1) b.is
    form-shown d n rec i h form.Character e = λ ts later low b g. ap (λ es. bare (suc d) es 2) b.is
    form-shown d n rec i h form.Integer e = λ ts later low b g. ap (λ es. bare (suc d) es 3) b.is
    form-shown d n rec i h form.Null e = λ ts later low b g. ap (λ es. bare (suc d) es 4) b.is
    form-shown d n rec i h (form.Array x) e =
        array-shown d x (type_within p.types d x) (rec x (omega (arith, i, well.well.after_parts n (form.Array x) e 0 0 (omega arith))) (omega (arith, h, depth_at p.types well n (form.Array x) e)))
    form-shown d n rec i h (form.Stream x) e =
        stream-shown d x (type_within p.types d x) (rec x (omega (arith, i, well.well.after_parts n (form.Stream x) e 0 0 (omega arith))) (omega (arith, h, depth_at p.types well n (form.Stream x) e)))
    form-shown d n rec i h (form.Record ms) e =
        record-shown d (type_within p.types d) ms (each-shown d n rec i ms (well.well.after_parts n (form.Record ms) e) (omega (arith, h, depth_at p.types well n (form.Record ms) e)))
    form-shown d n rec i h (form.Union ms) e =
        union-shown d (type_within p.types d) ms (each-shown d n rec i ms (well.well.after_parts n (form.Union ms) e) (omega (arith, h, depth_at p.types well n (form.Union ms) e)))

    shown : (d : ℕ) → Below d
    shown zero n i h = let f = some-form p.types n i in absurd (omega (arith, h, depth_at p.types well n f.0 f.1))
    shown (suc d) n i h = let f = some-form p.types n i in subst (λ o. FormShown d o (type_of (type_within p.types d) o)) (sym f.1) (form-shown d n (shown d) i h f.0 f.1)

    pub type-shown : (n : ℕ) → n < length p.types → Shown 64 n (type_at p.types n)
    type-shown n i = shown 64 n i (shallow p well (depths p.types) well.well.shallow n)

    -- ---- what is carried

    pub one-shown : (n : ℕ) → n < length p.types → (ts later : Table) → IsLow later → Grows basics later → Grows (type_label p.types p.names n ts).table later
        → sort_at (E p later) (type_label p.types p.names n ts).label ≡ Some (Plain (type_at p.types n))
    one-shown n i ts later low b g = plain-sort (E p later) (type_label p.types p.names n ts).label (type_at p.types n) (type-shown n i ts later low b g)

    -- the label of an entry of a code has the sort of its kind
    sort-there : (later : Table) (l : ℕ) (e : Entry) → (h : HasEntry later l e) → sort_at (E p later) l ≡ sort_in (E p later) l (as_type p (suc h.place) h.entry) (kind_at e.code)
    sort-there later l e h =
        ap (λ o. o >>= λ (x : TypeEntry). sort_in (E p later) l x (kind_at x.code)) (at-entry p later l e h) ∙ ap (λ c. sort_in (E p later) l (as_type p (suc h.place) h.entry) (kind_at c)) h.code

    pub many-shown : (n : ℕ) → n < length p.types → (ts later : Table) → IsLow later → Grows basics later → Grows (over p.types p.names 4 (type_label p.types p.names n ts)).table later
        → sort_at (E p later) (over p.types p.names 4 (type_label p.types p.names n ts)).label ≡ Some (ManyOf (type_at p.types n))
    many-shown n i ts later low b g =
        let r = type_label p.types p.names n ts in
        let e = entry 4 r.label 0 [] in
        let h = entered e r.table later g in
        let x = type-shown n i ts later low b (grows-then r.table (enter e r.table).table later (enter-grows e r.table) g) in
        sort-there later (enter e r.table).label e h ∙ (ap (λ l. bare_at (E p later) l >>= λ t. Some (ManyOf t)) h.first ∙ ap (λ o. o >>= λ t. Some (ManyOf t)) x)

    abbrev pub AreIn : List ℕ → Type 0
    AreIn ns = All (λ n. n < length p.types) ns

    abbrev alone : List ℕ → List Part
    alone ns = map (λ n. ([], n)) ns

    all-shown : (ns : List ℕ) → AreIn ns → EachShown 64 (type_at p.types) (alone ns)
    all-shown [] h = tt
    all-shown (n ∷ ns) h = (type-shown n (All-head (λ n. n < length p.types) n ns h), all-shown ns (All-tail (λ n. n < length p.types) n ns h))

    alone-types : (ns : List ℕ) → map (λ m. m.1) (of_parts (type_at p.types) (alone ns)) ≡ types_at p.types ns
    alone-types [] = refl
    alone-types (n ∷ ns) = ap (λ l. type_at p.types n ∷ l) (alone-types ns)

    tuple-shown : (ns : List ℕ) → AreIn ns → (ts later : Table) → IsLow later → Grows basics later → Grows (tuple_label p.types p.names ns ts).table later
        → tuple_at (bare_at (E p later)) (E p later) (tuple_label p.types p.names ns ts).label ≡ Some (types_at p.types ns)
    tuple-shown ns i ts later low b g =
        ap (λ o. o >>= λ (ms : List Member). Some (map (λ m. m.1) ms)) (members-shown 64 8 (type_at p.types) is_tuple refl (alone ns) (all-shown ns i) ts later low b g (length (E p later)) (members-within 64 8 (alone ns) ts later g))
        ∙ ap Some (alone-types ns)

    pub function-shown : (f : Function) → AreIn f.params → AreIn f.results → (ts later : Table) → IsLow later → Grows basics later → Grows (function_label p.types p.names f ts).table later
        → sort_at (E p later) (function_label p.types p.names f ts).label ≡ Some (function_sort p f)
    function-shown f i j ts later low b g =
        let a = tuple_label p.types p.names f.params ts in
        let r = tuple_label p.types p.names f.results a.table in
        let e = entry 3 a.label r.label [] in
        let h = entered e r.table later g in
        let gr = grows-then r.table (enter e r.table).table later (enter-grows e r.table) g in
        let ga = grows-then a.table r.table later (tuple-grows p.types p.names f.results a.table) gr in
        let tuple = tuple_at (bare_at (E p later)) (E p later) in
        sort-there later (enter e r.table).label e h
        ∙ (ap (λ l. tuple l >>= λ x. tuple h.entry.second >>= λ y. Some (FunctionOf x y)) h.first
        ∙ (ap (λ l. tuple a.label >>= λ x. tuple l >>= λ y. Some (FunctionOf x y)) h.second
        ∙ (ap (λ o. o >>= λ x. tuple r.label >>= λ y. Some (FunctionOf x y)) (tuple-shown f.params i ts later low b ga)
        ∙ ap (λ o. o >>= λ y. Some (FunctionOf (types_at p.types f.params) y)) (tuple-shown f.results j a.table later low b gr))))
