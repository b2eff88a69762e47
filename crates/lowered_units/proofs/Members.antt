-- What the lines of a fitting program carry has no more members than the table has entries: each member is an entry.
use Rattle.std.proofs.Common.{◌≡◌, ℕ, zero, suc, ◌+◌, ◌≤◌, Bool, true, false, List, [], ◌∷◌, ◌++◌, map, length, slice_get, Option, Some, None, refl, arith}
use Rattle.std.specs.Prelude.{◌&&◌, get_or, nat_eq, nat_lt, bytes_eq, if◌then◌else◌}
use Rattle.std.proofs.lemmas.Bool.{eqb-true, ltb-false}
use Rattle.std.proofs.lemmas.List.{length-append, length-map}
use Rattle.type_table.specs.declared.form.Form.{Form}
use Rattle.type_table.specs.declared.form.Form.TheVariants as form
use Rattle.type_table.specs.declared.form.Member.{Member}
use Rattle.type_table.specs.Tables.{members_if, members_at}
use Rattle.typed_tree.specs.declared.program.Function.{Function}
use Rattle.typed_tree.specs.declared.program.Program.{Program}
use Rattle.lowering.specs.declared.feed.Carried.{Carried}
use Rattle.lowering.specs.declared.feed.Carried.TheVariants.{One, Many, Callee}
use Rattle.lowering.specs.declared.graph.Lowered.{Lowered}
use Rattle.lowering.specs.Feeds.{carried}
use Rattle.lowering.specs.Graphs.{graph_lines}
use Rattle.lowering.specs.Programs.{functions_lowered}
use Rattle.lowering.specs.Types.{Entry, entry, is_entry, Table, label_from, Labelled, or_new, enter, basics, Part, members, named, over, form_label, label_within, type_label, tuple_label, function_label, callee_label, carried_label, with_types, Need, header_need, body_needs, needs, with_needs, table}
use Rattle.lowering.specs.TooMany.{most_types, types_over, or_else, program_over, too_many}

-- ---- lines

abbrev pub EachLine : (Carried → Type 0) → List Carried → Type 0
EachLine P [] = Unit {0}
EachLine P (c ∷ cs) = P c × EachLine P cs

pub left-lines : (P : Carried → Type 0) (xs ys : List Carried) → EachLine P (xs ++ ys) → EachLine P xs
left-lines P [] ys h = tt
left-lines P (x ∷ xs) ys h = (h.0, left-lines P xs ys h.1)

pub right-lines : (P : Carried → Type 0) (xs ys : List Carried) → EachLine P (xs ++ ys) → EachLine P ys
right-lines P [] ys h = h
right-lines P (x ∷ xs) ys h = right-lines P xs ys h.1

both-lines : (P : Carried → Type 0) (xs ys : List Carried) → EachLine P xs → EachLine P ys → EachLine P (xs ++ ys)
both-lines P [] ys a b = b
both-lines P (x ∷ xs) ys a b = (a.0, both-lines P xs ys a.1 b)

-- ---- entries name only what stands before them

abbrev AreBehind : ℕ → Table → Type 0
AreBehind n [] = Unit {0}
AreBehind n (e ∷ es) = (e.second ≤ n) × AreBehind (suc n) es

behind-last : (n : ℕ) (ts : Table) (e : Entry) → AreBehind n ts → e.second ≤ n + length ts → AreBehind n (ts ++ e ∷ [])
behind-last n [] e h k = (omega (arith, k), tt)
behind-last n (t ∷ ts) e h k = (h.0, behind-last (suc n) ts e h.1 (omega (arith, k)))

seconds-same : (a b : Entry) → is_entry a b ≡ true → a.second ≡ b.second
seconds-same a b h = eqb-true a.second b.second (third (nat_eq a.code b.code) (nat_eq a.first b.first) (nat_eq a.second b.second) (bytes_eq a.name b.name) h)
  where
    third : (w x y z : Bool) → (w && (x && (y && z))) ≡ true → y ≡ true
    third true true true z h = refl
    third true true false z h = absurd cc
    third true false y z h = absurd cc
    third false x y z h = absurd cc

found-behind : (n : ℕ) (e : Entry) (ts : Table) (l : ℕ) → AreBehind n ts → label_from n e ts ≡ Some l → (suc e.second ≤ l) × (l ≤ n + length ts)
found-behind n e [] l a h = absurd cc
found-behind n e (f ∷ fs) l a h = by (is_entry f e) refl h (λ k. found-behind (suc n) e fs l a.1 k)
  where
    by : (b : Bool) → is_entry f e ≡ b → (if b then Some (suc n) else label_from (suc n) e fs) ≡ Some l
        → (label_from (suc n) e fs ≡ Some l → (suc e.second ≤ l) × (l ≤ suc n + length fs)) → (suc e.second ≤ l) × (l ≤ n + suc (length fs))
    by true s h later =
        let here = same h in
        let second = seconds-same f e s in
        (omega (arith, here, second, a.0), omega (arith, here))
      where
        same : Some (suc n) ≡ Some l → l ≡ suc n
        same h = cc
    by false s h later = let r = later h in (r.0, omega (arith, r.1))

-- a table with the basic types, in which entries name only what stands before them
pub record IsFine (ts : Table) : Type 0 where
  pub basics : 4 ≤ length ts
  pub behind : AreBehind 0 ts

-- a label of such a table, which has grown
record IsFineLabel (ts : Table) (r : Labelled) : Type 0 where
  pub fine : IsFine r.table
  pub grown : length ts ≤ length r.table
  pub label : r.label ≤ length r.table

enter-fine : (e : Entry) (ts : Table) → IsFine ts → e.second ≤ length ts → IsFineLabel ts (enter e ts) × (suc e.second ≤ (enter e ts).label)
enter-fine e ts w s = by (label_from 0 e ts) refl
  where
    by : (o : Option ℕ) → label_from 0 e ts ≡ o → IsFineLabel ts (or_new o e ts) × (suc e.second ≤ (or_new o e ts).label)
    by (Some l) h = let b = found-behind 0 e ts l w.behind h in (record { fine = w; grown = omega arith; label = omega (arith, b.1) }, b.0)
    by None h =
        let more : length (ts ++ e ∷ []) ≡ length ts + 1 = length-append ts (e ∷ []) in (
          record {
            fine = record { basics = omega (arith, w.basics, more); behind = behind-last 0 ts e w.behind (omega (arith, s)) };
            grown = omega (arith, more);
            label = omega (arith, more);
          },
          omega (arith, s),
        )

fine-then : (a : Table) (r s : Labelled) → length a ≤ length r.table → IsFineLabel r.table s → IsFineLabel a s
fine-then a r s l h = record { fine = h.fine; grown = omega (arith, l, h.grown); label = h.label }

abbrev Labels : (ℕ → Table → Labelled) → Type 0
Labels type = (t : ℕ) (ts : Table) → IsFine ts → IsFineLabel ts (type t ts)

-- the label of members is no less than their number
members-fine : (type : ℕ → Table → Labelled) → Labels type → (code : ℕ) (ms : List Part) (ts : Table) → IsFine ts → IsFineLabel ts (members type code ms ts) × (length ms ≤ (members type code ms ts).label)
members-fine type f code [] ts w = (record { fine = w; grown = omega arith; label = omega arith }, omega arith)
members-fine type f code (m ∷ ms) ts w =
    let rest = members type code ms ts in
    let r = members-fine type f code ms ts w in
    let t = type m.1 rest.table in
    let k = f m.1 rest.table r.0.fine in
    let e = entry code t.label rest.label m.0 in
    let last = enter-fine e t.table k.fine (omega (arith, r.0.label, k.grown)) in
    (record { fine = last.0.fine; grown = omega (arith, r.0.grown, k.grown, last.0.grown); label = last.0.label }, omega (arith, r.1, last.1))

module _ (forms : List Form) (names : List (List ℕ)) where
  over-fine : (code : ℕ) (t : Labelled) (ts : Table) → IsFineLabel ts t → IsFineLabel ts (over forms names code t)
  over-fine code t ts k = fine-then ts t (over forms names code t) k.grown (enter-fine (entry code t.label 0 []) t.table k.fine (omega arith)).0

  -- so is the table, where it has the label of a type of members
  members-over : (code kind : ℕ) (type : ℕ → Table → Labelled) → Labels type → (ms : List Member) (ts : Table) → IsFine ts
      → IsFineLabel ts (over forms names kind (members type code (named forms names ms) ts)) × (length ms ≤ length (over forms names kind (members type code (named forms names ms) ts)).table)
  members-over code kind type f ms ts w =
      let r = members type code (named forms names ms) ts in
      let k = members-fine type f code (named forms names ms) ts w in
      let all = over-fine kind r ts k.0 in
      let more = over-fine kind r r.table (record { fine = k.0.fine; grown = omega arith; label = k.0.label }) in
      let same = length-map {B = Part} ms (λ (m : Member). (get_or names m.name [], m.ty)) in
      (all, omega (arith, k.1, k.0.label, more.grown, same))

  form-fine : (type : ℕ → Table → Labelled) → Labels type → (o : Option Form) (ts : Table) → IsFine ts → IsFineLabel ts (form_label forms names type o ts) × (length (members_if o) ≤ length (form_label forms names type o ts).table)
  form-fine type f None ts w = (record { fine = w; grown = omega arith; label = omega arith }, omega arith)
  form-fine type f (Some form.Boolean) ts w = (record { fine = w; grown = omega arith; label = omega (arith, w.basics) }, omega arith)
  form-fine type f (Some form.Character) ts w = (record { fine = w; grown = omega arith; label = omega (arith, w.basics) }, omega arith)
  form-fine type f (Some form.Integer) ts w = (record { fine = w; grown = omega arith; label = omega (arith, w.basics) }, omega arith)
  form-fine type f (Some form.Null) ts w = (record { fine = w; grown = omega arith; label = omega (arith, w.basics) }, omega arith)
  form-fine type f (Some (form.Array t)) ts w = (over-fine 0 (type t ts) ts (f t ts w), omega arith)
  form-fine type f (Some (form.Stream t)) ts w = (over-fine 6 (type t ts) ts (f t ts w), omega arith)
  form-fine type f (Some (form.Record ms)) ts w = members-over 2 5 type f ms ts w
  form-fine type f (Some (form.Union ms)) ts w = members-over 7 9 type f ms ts w

  within-fine : (d : ℕ) → Labels (label_within forms names d)
  within-fine zero t ts w = record { fine = w; grown = omega arith; label = omega arith }
  within-fine (suc d) t ts w = (form-fine (label_within forms names d) (within-fine d) (slice_get forms t) ts w).0

  type-fine : Labels (type_label forms names)
  type-fine = within-fine 64

  type-members : (t : ℕ) (ts : Table) → IsFine ts → length (members_at forms t) ≤ length (type_label forms names t ts).table
  type-members t ts w = (form-fine (label_within forms names 63) (within-fine 63) (slice_get forms t) ts w).1

  function-fine : (f : Function) (ts : Table) → IsFine ts → IsFineLabel ts (function_label forms names f ts)
  function-fine f ts w =
      let a = tuple_label forms names f.params ts in
      let ka = members-fine (type_label forms names) type-fine 8 (map (λ t. ([], t)) f.params) ts w in
      let r = tuple_label forms names f.results a.table in
      let kr = members-fine (type_label forms names) type-fine 8 (map (λ t. ([], t)) f.results) a.table ka.0.fine in
      let last = enter-fine (entry 3 a.label r.label []) r.table kr.0.fine kr.0.label in
      record { fine = last.0.fine; grown = omega (arith, ka.0.grown, kr.0.grown, last.0.grown); label = last.0.label }

  -- ---- what lines carry

  -- a value of a type that has at most so many members
  abbrev pub HasFew : ℕ → Carried → Type 0
  HasFew n (One t) = length (members_at forms t) ≤ n
  HasFew n (Many t) = Unit {0}
  HasFew n (Callee f) = Unit {0}

  few-more : (n m : ℕ) (c : Carried) → n ≤ m → HasFew n c → HasFew m c
  few-more n m (One t) l h = omega (arith, l, h)
  few-more n m (Many t) l h = tt
  few-more n m (Callee f) l h = tt

  pub more-few : (n m : ℕ) (cs : List Carried) → n ≤ m → EachLine (HasFew n) cs → EachLine (HasFew m) cs
  more-few n m [] l h = tt
  more-few n m (c ∷ cs) l h = (few-more n m c l h.0, more-few n m cs l h.1)

  -- a table that is fine and has grown
  pub record Grows (ts us : Table) : Type 0 where
    pub fine : IsFine us
    pub grown : length ts ≤ length us

  module _ (fs : List Function) where
    carried-fine : (c : Carried) (ts : Table) → IsFine ts → IsFineLabel ts (carried_label forms names fs c ts)
    carried-fine (One t) ts w = type-fine t ts w
    carried-fine (Many t) ts w = over-fine 4 (type_label forms names t ts) ts (type-fine t ts w)
    carried-fine (Callee k) ts w = by (slice_get fs k)
      where
        by : (o : Option Function) → IsFineLabel ts (callee_label forms names o ts)
        by None = record { fine = w; grown = omega arith; label = omega arith }
        by (Some f) = function-fine f ts w

    carried-few : (c : Carried) (ts : Table) → IsFine ts → HasFew (length (carried_label forms names fs c ts).table) c
    carried-few (One t) ts w = type-members t ts w
    carried-few (Many t) ts w = tt
    carried-few (Callee k) ts w = tt

    lines-few : (cs : List Carried) (ts : Table) → IsFine ts → Grows ts (with_types forms names fs cs ts) × EachLine (HasFew (length (with_types forms names fs cs ts))) cs
    lines-few [] ts w = (record { fine = w; grown = omega arith }, tt)
    lines-few (c ∷ cs) ts w =
        let k = carried-fine c ts w in
        let us = (carried_label forms names fs c ts).table in
        let r = lines-few cs us k.fine in (
          record { fine = r.0.fine; grown = omega (arith, k.grown, r.0.grown) },
          (few-more (length us) (length (with_types forms names fs cs us)) c r.0.grown (carried-few c ts w), r.1),
        )

module _ (p : Program) where
  abbrev Few : ℕ → List Carried → Type 0
  Few n cs = EachLine (HasFew p.types p.names n) cs

  headers-grow : (Q : Table → Type 0) (fs : List Function) (ns : List Need) → ((ts : Table) → IsFine ts → Q (with_needs ns ts)) → (ts : Table) → IsFine ts → Q (with_needs (map (header_need p) fs ++ ns) ts)
  headers-grow Q [] ns g ts w = g ts w
  headers-grow Q (f ∷ fs) ns g ts w = headers-grow Q fs ns g (function_label p.types p.names f ts).table (function-fine p.types p.names f ts w).fine

  bodies-few : (fs : List Function) (ms : List Lowered) → length fs ≡ length ms → (ts : Table) → IsFine ts
      → Grows p.types p.names ts (with_needs (body_needs p fs ms) ts) × Few (length (with_needs (body_needs p fs ms) ts)) (graph_lines ms)
  bodies-few [] [] e ts w = (record { fine = w; grown = omega arith }, tt)
  bodies-few [] (m ∷ ms) e ts w = absurd (omega (arith, e))
  bodies-few (f ∷ fs) [] e ts w = absurd (omega (arith, e))
  bodies-few (f ∷ fs) (m ∷ ms) e ts w =
      let own = m.lines ++ carried m.values in
      let us = with_types p.types p.names p.functions (graph_lines (m ∷ [])) ts in
      let here = lines-few p.types p.names p.functions (graph_lines (m ∷ [])) ts w in
      let rest = bodies-few fs ms (omega (arith, e)) us here.0.fine in
      let all = length (with_needs (body_needs p fs ms) us) in (
        record { fine = rest.0.fine; grown = omega (arith, here.0.grown, rest.0.grown) },
        both-lines (HasFew p.types p.names all) own (graph_lines ms)
            (more-few p.types p.names (length us) all own rest.0.grown (left-lines (HasFew p.types p.names (length us)) own [] here.1)) rest.1,
      )

  basics-fine : IsFine basics
  basics-fine = record { basics = omega arith; behind = (omega arith, (omega arith, (omega arith, (omega arith, tt)))) }

  lines-in-table : length p.functions ≡ length (functions_lowered p) → Few (length (table p)) (graph_lines (functions_lowered p))
  lines-in-table e =
      headers-grow (λ ts. Few (length ts) (graph_lines (functions_lowered p))) p.functions (body_needs p p.functions (functions_lowered p))
      (λ ts w. (bodies-few p.functions (functions_lowered p) e ts w).1) basics basics-fine

  -- ---- within the limits

  or-none : (a b : Option ℕ) → or_else a b ≡ None → a ≡ None
  or-none None b e = refl
  or-none (Some l) b e = absurd cc

  few-needs : (ns : List Need) (ts : Table) → length ts ≤ most_types → types_over ns ts ≡ None → length (with_needs ns ts) ≤ most_types
  few-needs [] ts h e = h
  few-needs (n ∷ ns) ts h e = by (λ k. few-needs ns (n.enters ts) k) (nat_lt most_types (length (n.enters ts))) refl e
    where
      by : (length (n.enters ts) ≤ most_types → types_over ns (n.enters ts) ≡ None → length (with_needs ns (n.enters ts)) ≤ most_types) → (b : Bool) → nat_lt most_types (length (n.enters ts)) ≡ b → (if b then Some n.line else types_over ns (n.enters ts)) ≡ None → length (with_needs ns (n.enters ts)) ≤ most_types
      by rest true k e = absurd cc
      by rest false k e = rest (ltb-false most_types (length (n.enters ts)) k) e

  pub few-entries : too_many p ≡ None → length (table p) ≤ most_types
  few-entries e = few-needs (needs p) basics (omega arith) (or-none (types_over (needs p) basics) (program_over p) e)

  pub few-members : length p.functions ≡ length (functions_lowered p) → too_many p ≡ None → Few most_types (graph_lines (functions_lowered p))
  few-members l e = more-few p.types p.names (length (table p)) most_types (graph_lines (functions_lowered p)) (few-entries e) (lines-in-table l)
