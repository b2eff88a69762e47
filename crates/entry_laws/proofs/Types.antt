-- What the label of a function's type stands for in the table of a translated unit: the types of its parameters, with the names of
-- their fields and tags.
use Rattle.std.proofs.Common.{◌≡◌, ℕ, zero, suc, ◌+◌, ◌≤◌, Bool, true, false, ◌&&◌, List, [], ◌∷◌, ◌++◌, map, length, get_or, Option, Some, None, slice_get, refl, sym, ap, subst, ◌∙◌, arith, option_map, nat_eq}
use Rattle.std.specs.Prelude.{bytes_eq, if◌then◌else◌}
use Rattle.std.proofs.lemmas.Bool.{eqb-true}
use Rattle.std.proofs.lemmas.Option.{slice_get_within}
use Rattle.std.proofs.lemmas.Slice.Eq.{bytes_eq-Decides}
use Rattle.flow_value.specs.declared.ty.Ty.{Ty}
use Rattle.flow_value.specs.declared.ty.Ty.TheVariants as ty
use Rattle.if1_graph.specs.declared.graph.TypeEntry.{TypeEntry}
use Rattle.if1_graph.specs.declared.kind.TypeKind.{TypeKind}
use Rattle.if1_graph.specs.Kinds.{kind_at}
use Rattle.if1_graph.specs.Tables.{◌>>=◌}
use Rattle.if1_graph.specs.Types.{Member, Naming, entry_at, is_field, is_tag, is_tuple, ty_of, ty_within, with_names, without_names, most_deep, params_of, params_at}
use Rattle.if1_graph.specs.Types as types
use Rattle.type_table.specs.declared.form.Form.{Form}
use Rattle.type_table.specs.declared.form.Form.TheVariants as form
use Rattle.type_table.specs.declared.form.Member.{Member as NumberedMember}
use Rattle.type_table.specs.Forms.{deepest}
use Rattle.type_table.specs.Tables.{depths, IsTable}
use Rattle.typed_tree.specs.declared.program.Function.{Function}
use Rattle.typed_tree.specs.declared.program.Program.{Program}
use Rattle.typed_tree.specs.Types.{IsNumber, AreMembers, AreNumbers, no_member, a_member}
use Rattle.typed_tree.specs.Types as number
use Rattle.lowering.specs.Programs.{functions_lowered}
use Rattle.lowering.specs.Types.{Entry, entry, is_entry, Table, Labelled, label_from, or_new, enter, basics, Part, members, named, form_label, label_within, tuple_label, function_label, Need, header_need, body_needs, with_needs, table, header_label}
use Rattle.lowering.proofs.Stable.{function-stays}
use Rattle.lowering.proofs.Tables.{Grows, grows-none, grows-then, enter-grows, within-grows, tuple-grows, function-grows, bodies-grow, table-begins}
use Rattle.lowered_units.specs.Units.{entries_from}
use Rattle.lowered_units.proofs.Canonical.{as_type, entry-is}
use Rattle.lowered_units.proofs.Depths.{depth_at}
use Rattle.lowering_meaning.proofs.LowTables.{IsLow, low-at, table-low}
use Rattle.lowering_meaning.proofs.Sorts.{shallow, form-at}

-- ---- entries

first-true : (a b : Bool) → (a && b) ≡ true → (a ≡ true) × (b ≡ true)
first-true true b e = (refl, e)
first-true false b e = absurd cc

same-entry : (a b : Entry) → is_entry a b ≡ true → a ≡ b
same-entry a b h =
    let code = first-true (nat_eq a.code b.code) _ h in
    let first = first-true (nat_eq a.first b.first) _ code.1 in
    let second = first-true (nat_eq a.second b.second) (bytes_eq a.name b.name) first.1 in
    let c : a.code ≡ b.code = eqb-true a.code b.code code.0 in
    let f : a.first ≡ b.first = eqb-true a.first b.first first.0 in
    let s : a.second ≡ b.second = eqb-true a.second b.second second.0 in
    let n : a.name ≡ b.name = names a.name b.name second.1 in
    λ j. record { code = c j; first = f j; second = s j; name = n j }
  where
    names : (x y : List ℕ) → bytes_eq x y ≡ true → x ≡ y
    names x y e = (bytes_eq-Decides x y).0 e

-- the entry stands at this label
record Stands (es : Table) (l : ℕ) (e : Entry) : Type 0 where
  place : ℕ
  is : l ≡ suc place
  there : slice_get es place ≡ Some e

stays : (ts rest : Table) (i : ℕ) (f : Entry) → slice_get ts i ≡ Some f → slice_get (ts ++ rest) i ≡ Some f
stays [] rest i f h = absurd cc
stays (t ∷ ts) rest zero f h = h
stays (t ∷ ts) rest (suc i) f h = stays ts rest i f h

last-there : (ts : Table) (e : Entry) → slice_get (ts ++ e ∷ []) (length ts) ≡ Some e
last-there [] e = refl
last-there (t ∷ ts) e = last-there ts e

found : (n : ℕ) (e : Entry) (es : Table) (l : ℕ) → label_from n e es ≡ Some l → (i : ℕ) × (l ≡ suc (n + i)) × (slice_get es i ≡ Some e)
found n e [] l h = absurd cc
found n e (f ∷ fs) l h = by (is_entry f e) refl h (λ k. found (suc n) e fs l k)
  where
    by : (b : Bool) → is_entry f e ≡ b → (if b then Some (suc n) else label_from (suc n) e fs) ≡ Some l
        → (label_from (suc n) e fs ≡ Some l → (i : ℕ) × (l ≡ suc (suc n + i)) × (slice_get fs i ≡ Some e))
        → (i : ℕ) × (l ≡ suc (n + i)) × (slice_get (f ∷ fs) i ≡ Some e)
    by true s h later = (0, same h ∙ omega arith, ap Some (same-entry f e s))
      where
        same : Some (suc n) ≡ Some l → l ≡ suc n
        same h = cc
    by false s h later = let r = later h in (suc r.0, r.1 ∙ omega arith, r.2)

-- an entry that is entered stands at its label in every later table
stands : (e : Entry) (ts later : Table) → Grows (enter e ts).table later → Stands later (enter e ts).label e
stands e ts later g = by (label_from 0 e ts) refl g
  where
    by : (o : Option ℕ) → label_from 0 e ts ≡ o → Grows (or_new o e ts).table later → Stands later (or_new o e ts).label e
    by (Some l) h g =
        let r = found 0 e ts l h in
        record { place = r.0; is = r.1 ∙ ap suc (omega arith); there = ap (λ es. slice_get es r.0) g.is ∙ stays ts g.rest r.0 e r.2 }
    by None h g = record { place = length ts; is = refl; there = ap (λ es. slice_get es (length ts)) g.is ∙ stays (ts ++ e ∷ []) g.rest (length ts) e (last-there ts e) }

name-at : (names : List (List ℕ)) (x : ℕ) (name : List ℕ) → slice_get names x ≡ Some name → get_or names x [] ≡ name
name-at [] x name e = absurd cc
name-at (n ∷ ns) zero name e = same e
  where
    same : Some n ≡ Some name → n ≡ name
    same e = cc
name-at (n ∷ ns) (suc x) name e = name-at ns x name e

-- ---- types

module _ (p : Program) where
  abbrev E : Table → List TypeEntry
  E es = entries_from p 1 es

  length-entries : (label : ℕ) (ts : Table) → length (entries_from p label ts) ≡ length ts
  length-entries label [] = refl
  length-entries label (t ∷ ts) = ap suc (length-entries (suc label) ts)

  abbrev within : ℕ → ℕ → Table → Labelled
  within d t ts = label_within p.types p.names d t ts

  -- the type of a label, with its names
  abbrev told : ℕ → Table → ℕ → Option Ty
  told d later l = ty_within with_names d (E later) l

  there-is : (later : Table) (l : ℕ) (e : Entry) → (h : Stands later l e) → entry_at (E later) (suc h.place) ≡ Some (as_type p (suc h.place) e)
  there-is later l e h = entry-is p later h.place ∙ ap (option_map (as_type p (suc h.place))) h.there

  at-label : (later : Table) (l : ℕ) (e : Entry) → (h : Stands later l e) → entry_at (E later) l ≡ Some (as_type p (suc h.place) e)
  at-label later l e h = ap (entry_at (E later)) h.is ∙ there-is later l e h

  kind-there : (d : ℕ) (later : Table) (l : ℕ) (e : Entry) → (h : Stands later l e) → told (suc d) later l ≡ ty_of with_names (told d later) (E later) (as_type p (suc h.place) e) (kind_at e.code)
  kind-there d later l e h = ap (λ o. o >>= λ (x : TypeEntry). ty_of with_names (told d later) (E later) x (kind_at x.code)) (at-label later l e h)

  -- the number has this type at its label, in every later table
  abbrev Shown : ℕ → ℕ → Ty → Type 0
  Shown d n t = (ts later : Table) → IsLow later → Grows basics later → Grows (within d n ts).table later → told d later (within d n ts).label ≡ Some t

  -- these members, with the names that their entries have
  abbrev AreShown : Naming → ℕ → List Part → List Member → Type 0
  AreShown name d [] [] = Unit {0}
  AreShown name d (m ∷ ms) (f ∷ fs) = Shown d m.1 f.1 × ((e : TypeEntry) → e.name ≡ m.0 → name e ≡ f.0) × AreShown name d ms fs
  AreShown name d [] (f ∷ fs) = ⊥
  AreShown name d (m ∷ ms) [] = ⊥

  abbrev read : Naming → ℕ → (Option TypeKind → Bool) → Table → ℕ → ℕ → Option (List Member)
  read name d is later far l = types.members name (told d later) is (E later) far l

  none-read : (name : Naming) (d : ℕ) (is : Option TypeKind → Bool) (later : Table) (far : ℕ) → read name d is later far 0 ≡ Some []
  none-read name d is later zero = refl
  none-read name d is later (suc far) = refl

  members-shown : (name : Naming) (d code : ℕ) (is : Option TypeKind → Bool) → is (kind_at code) ≡ true → (ms : List Part) (fs : List Member) → AreShown name d ms fs → (ts later : Table) → IsLow later → Grows basics later
      → Grows (members (within d) code ms ts).table later → (far : ℕ) → (members (within d) code ms ts).label ≤ far
      → read name d is later far (members (within d) code ms ts).label ≡ Some fs
  members-shown name d code is kept [] [] s ts later low b g far le = none-read name d is later far
  members-shown name d code is kept [] (f ∷ fs) s ts later low b g far le = absurd s
  members-shown name d code is kept (m ∷ ms) [] s ts later low b g far le = absurd s
  members-shown name d code is kept (m ∷ ms) (f ∷ fs) s ts later low b g far le = by (λ k far le. members-shown name d code is kept ms fs s.2 ts later low b k far le) far le
    where
      rest : Labelled
      rest = members (within d) code ms ts

      t : Labelled
      t = within d m.1 rest.table

      e : Entry
      e = entry code t.label rest.label m.0

      h : Stands later (enter e t.table).label e
      h = stands e t.table later g

      gt : Grows t.table later
      gt = grows-then t.table (enter e t.table).table later (enter-grows e t.table) g

      gr : Grows rest.table later
      gr = grows-then rest.table t.table later (within-grows p.types p.names d m.1 rest.table) gt

      x : told d later t.label ≡ Some f.1
      x = s.0 rest.table later low b gt

      y : TypeEntry
      y = as_type p (suc h.place) e

      by : (Grows rest.table later → (far : ℕ) → rest.label ≤ far → read name d is later far rest.label ≡ Some fs) → (far : ℕ) → (enter e t.table).label ≤ far → read name d is later far (enter e t.table).label ≡ Some (f ∷ fs)
      by others zero le = absurd (omega (arith, le, h.is))
      by others (suc far) le =
          let below : rest.label ≤ 0 + h.place = low-at 0 later low.low h.place e h.there in
          let r = others gr far (omega (arith, le, h.is, below)) in
          let K : TypeEntry → Option Ty → Option (List Member) = λ y o. o >>= λ t. read name d is later far y.second >>= λ others. Some ((name y, t) ∷ others) in
          ap (read name d is later (suc far)) h.is
          ∙ (ap (λ o. o >>= λ (y : TypeEntry). K y (if is (kind_at y.code) then told d later y.first else None)) (there-is later (enter e t.table).label e h)
          ∙ (ap (λ c. K y (if c then told d later t.label else None)) kept
          ∙ (ap (K y) x
          ∙ (ap (λ o. o >>= λ others. Some ((name y, f.1) ∷ others)) r
          ∙ ap (λ n. Some ((n, f.1) ∷ fs)) (s.1 y refl)))))

  members-within : (d code : ℕ) (ms : List Part) (ts later : Table) → Grows (members (within d) code ms ts).table later → (members (within d) code ms ts).label ≤ length (E later)
  members-within d code [] ts later g = omega arith
  members-within d code (m ∷ ms) ts later g =
      let rest = members (within d) code ms ts in
      let t = within d m.1 rest.table in
      let e = entry code t.label rest.label m.0 in
      let h = stands e t.table later g in
      omega (arith, h.is, slice_get_within later h.place e h.there, length-entries 1 later)

  -- ---- forms

  abbrev FormShown : ℕ → Option Form → Ty → Type 0
  FormShown d o t = (ts later : Table) → IsLow later → Grows basics later → Grows (form_label p.types p.names (within d) o ts).table later → told (suc d) later (form_label p.types p.names (within d) o ts).label ≡ Some t

  array-shown : (d m : ℕ) (t : Ty) → Shown d m t → FormShown d (Some (form.Array m)) (ty.Arr t)
  array-shown d m t s ts later low b g =
      let r = within d m ts in
      let e = entry 0 r.label 0 [] in
      let h = stands e r.table later g in
      let x = s ts later low b (grows-then r.table (enter e r.table).table later (enter-grows e r.table) g) in
      kind-there d later (enter e r.table).label e h ∙ ap (λ o. o >>= λ t. Some (ty.Arr t)) x

  stream-shown : (d m : ℕ) (t : Ty) → Shown d m t → FormShown d (Some (form.Stream m)) (ty.Stream t)
  stream-shown d m t s ts later low b g =
      let r = within d m ts in
      let e = entry 6 r.label 0 [] in
      let h = stands e r.table later g in
      let x = s ts later low b (grows-then r.table (enter e r.table).table later (enter-grows e r.table) g) in
      kind-there d later (enter e r.table).label e h ∙ ap (λ o. o >>= λ t. Some (ty.Stream t)) x

  record-shown : (d : ℕ) (ms : List NumberedMember) (fs : List Member) → AreShown with_names d (named p.types p.names ms) fs → FormShown d (Some (form.Record ms)) (ty.Rec fs)
  record-shown d ms fs s ts later low b g =
      let r = members (within d) 2 (named p.types p.names ms) ts in
      let e = entry 5 r.label 0 [] in
      let h = stands e r.table later g in
      let gr = grows-then r.table (enter e r.table).table later (enter-grows e r.table) g in
      let x = members-shown with_names d 2 is_field refl (named p.types p.names ms) fs s ts later low b gr (length (E later)) (members-within d 2 (named p.types p.names ms) ts later gr) in
      kind-there d later (enter e r.table).label e h ∙ ap (λ o. o >>= λ fs. Some (ty.Rec fs)) x

  union-shown : (d : ℕ) (ms : List NumberedMember) (fs : List Member) → AreShown with_names d (named p.types p.names ms) fs → FormShown d (Some (form.Union ms)) (ty.Uni fs)
  union-shown d ms fs s ts later low b g =
      let r = members (within d) 7 (named p.types p.names ms) ts in
      let e = entry 9 r.label 0 [] in
      let h = stands e r.table later g in
      let gr = grows-then r.table (enter e r.table).table later (enter-grows e r.table) g in
      let x = members-shown with_names d 7 is_tag refl (named p.types p.names ms) fs s ts later low b gr (length (E later)) (members-within d 7 (named p.types p.names ms) ts later gr) in
      kind-there d later (enter e r.table).label e h ∙ ap (λ o. o >>= λ fs. Some (ty.Uni fs)) x

  module _ (well : IsTable p.types) where
    abbrev depth : ℕ → ℕ
    depth t = get_or (depths p.types) t 0

    abbrev Below : ℕ → Type 0
    Below d = (n : ℕ) (t : Ty) → depth n ≤ d → IsNumber p.types p.names n t → Shown d n t

    each-shown : (d : ℕ) → Below d → (ms : List NumberedMember) (fs : List Member) → AreMembers p.types p.names ms fs → deepest (depths p.types) (map (λ m. m.ty) ms) ≤ d → AreShown with_names d (named p.types p.names ms) fs
    each-shown d rec _ _ no_member h = tt
    each-shown d rec _ _ (a_member {x = x} {n = n} {name = name} {t = t} {ms = ms} {fs = fs} s k r) h =
        (rec n t (omega (arith, h)) k, (λ e q. q ∙ name-at p.names x name s), each-shown d rec ms fs r (omega (arith, h)))

    shown : (d : ℕ) → Below d
    shown zero n t h k = let f = form-at p well n t k in absurd (omega (arith, h, depth_at p.types well n f.0 f.1))
    shown (suc d) n _ h (number.boolean e) = subst (λ o. FormShown d o ty.Bool) (sym e) (λ ts later low b g. ap (λ es. told (suc d) es 1) b.is)
    shown (suc d) n _ h (number.character e) = subst (λ o. FormShown d o ty.Char) (sym e) (λ ts later low b g. ap (λ es. told (suc d) es 2) b.is)
    shown (suc d) n _ h (number.integer e) = subst (λ o. FormShown d o ty.Int) (sym e) (λ ts later low b g. ap (λ es. told (suc d) es 3) b.is)
    shown (suc d) n _ h (number.null e) = subst (λ o. FormShown d o ty.Null) (sym e) (λ ts later low b g. ap (λ es. told (suc d) es 4) b.is)
    shown (suc d) n _ h (number.array {m = m} {t = t} e k) =
        subst (λ o. FormShown d o (ty.Arr t)) (sym e) (array-shown d m t (shown d m t (omega (arith, h, depth_at p.types well n (form.Array m) e)) k))
    shown (suc d) n _ h (number.stream {m = m} {t = t} e k) =
        subst (λ o. FormShown d o (ty.Stream t)) (sym e) (stream-shown d m t (shown d m t (omega (arith, h, depth_at p.types well n (form.Stream m) e)) k))
    shown (suc d) n _ h (number.a_record {ms = ms} {fs = fs} e k) =
        subst (λ o. FormShown d o (ty.Rec fs)) (sym e) (record-shown d ms fs (each-shown d (shown d) ms fs k (omega (arith, h, depth_at p.types well n (form.Record ms) e))))
    shown (suc d) n _ h (number.a_union {ms = ms} {fs = fs} e k) =
        subst (λ o. FormShown d o (ty.Uni fs)) (sym e) (union-shown d ms fs (each-shown d (shown d) ms fs k (omega (arith, h, depth_at p.types well n (form.Union ms) e))))

    type-shown : (n : ℕ) (t : Ty) → IsNumber p.types p.names n t → Shown most_deep n t
    type-shown n t k = shown most_deep n t (shallow p well (depths p.types) well.well.shallow n) k

    -- ---- headers

    abbrev unnamed : List ℕ → List Part
    unnamed ns = map (λ t. ([], t)) ns

    abbrev alone : List Ty → List Member
    alone ts = map (λ t. ([], t)) ts

    all-shown : (ns : List ℕ) (ts : List Ty) → AreNumbers p.types p.names ns ts → AreShown without_names most_deep (unnamed ns) (alone ts)
    all-shown [] [] h = tt
    all-shown [] (t ∷ ts) h = absurd h
    all-shown (n ∷ ns) [] h = absurd h
    all-shown (n ∷ ns) (t ∷ ts) h = (type-shown n t h.0, (λ e q. refl), all-shown ns ts h.1)

    alone-types : (ts : List Ty) → map (λ m. m.1) (alone ts) ≡ ts
    alone-types [] = refl
    alone-types (t ∷ ts) = ap (λ us. t ∷ us) (alone-types ts)

    function-shown : (f : Function) (params : List Ty) → AreNumbers p.types p.names f.params params → (ts later : Table) → IsLow later → Grows basics later → Grows (function_label p.types p.names f ts).table later
        → params_at (E later) (function_label p.types p.names f ts).label ≡ Some params
    function-shown f params k ts later low b g =
        let a = tuple_label p.types p.names f.params ts in
        let r = tuple_label p.types p.names f.results a.table in
        let e = entry 3 a.label r.label [] in
        let h = stands e r.table later g in
        let gr = grows-then r.table (enter e r.table).table later (enter-grows e r.table) g in
        let ga = grows-then a.table r.table later (tuple-grows p.types p.names f.results a.table) gr in
        let x = members-shown without_names most_deep 8 is_tuple refl (unnamed f.params) (alone params) (all-shown f.params params k) ts later low b ga (length (E later)) (members-within most_deep 8 (unnamed f.params) ts later ga) in
        ap (λ o. o >>= λ (y : TypeEntry). params_of (E later) y (kind_at y.code)) (at-label later (enter e r.table).label e h)
        ∙ (ap (λ o. o >>= λ ms. Some (map (λ m. m.1) ms)) x ∙ ap Some (alone-types params))

  headers-grow : (fs : List Function) (ts : Table) → Grows ts (with_needs (map (header_need p) fs) ts)
  headers-grow [] ts = grows-none ts
  headers-grow (f ∷ fs) ts =
      let next = (function_label p.types p.names f ts).table in
      grows-then ts next (with_needs (map (header_need p) fs) next) (function-grows p.types p.names f ts) (headers-grow fs next)

  after-headers : (fs : List Function) (ns : List Need) (ts : Table) → with_needs (map (header_need p) fs ++ ns) ts ≡ with_needs ns (with_needs (map (header_need p) fs) ts)
  after-headers [] ns ts = refl
  after-headers (f ∷ fs) ns ts = after-headers fs ns (function_label p.types p.names f ts).table

  -- the table before a header is entered
  header-enters : (fs : List Function) (ts later : Table) → Grows (with_needs (map (header_need p) fs) ts) later → (i : ℕ) (f : Function) → slice_get fs i ≡ Some f → (before : Table) × Grows (function_label p.types p.names f before).table later
  header-enters [] ts later g i f e = absurd cc
  header-enters (x ∷ fs) ts later g zero f e =
      let next = (function_label p.types p.names x ts).table in
      (ts, subst (λ (y : Function). Grows (function_label p.types p.names y ts).table later) (same e) (grows-then next (with_needs (map (header_need p) fs) next) later (headers-grow fs next) g))
    where
      same : Some x ≡ Some f → x ≡ f
      same e = cc
  header-enters (x ∷ fs) ts later g (suc i) f e = header-enters fs (function_label p.types p.names x ts).table later g i f e

  -- the label of a function's type has the types of its parameters
  pub header-shown : IsTable p.types → (i : ℕ) (f : Function) (params : List Ty) → slice_get p.functions i ≡ Some f → AreNumbers p.types p.names f.params params → params_at (E (table p)) (header_label p f) ≡ Some params
  header-shown well i f params e k =
      let headers = with_needs (map (header_need p) p.functions) basics in
      let bodies = body_needs p p.functions (functions_lowered p) in
      let grown : Grows headers (table p) = subst (Grows headers) (sym (after-headers p.functions bodies basics)) (bodies-grow p p.functions (functions_lowered p) headers) in
      let before = header-enters p.functions basics (table p) grown i f e in
      ap (λ (l : Labelled). params_at (E (table p)) l.label) (function-stays p.types p.names f before.0 (table p) before.1)
      ∙ function-shown well f params k before.0 (table p) (table-low p) (table-begins p) before.1
