-- A table only grows.
use Rattle.std.proofs.Common.{◌≡◌, ℕ, zero, suc, List, [], ◌∷◌, ◌++◌, map, slice_get, Option, Some, None, refl, sym, ap, ◌∙◌, append_assoc}
use Rattle.typed_tree.specs.Form.{Form}
use Rattle.typed_tree.specs.Form.TheVariants.{Boolean, Character, Integer, Null, Array, Stream, Record, Union}
use Rattle.typed_tree.specs.declared.program.Function.{Function}
use Rattle.typed_tree.specs.declared.program.Program.{Program}
use Rattle.lowering.specs.declared.feed.Carried.{Carried}
use Rattle.lowering.specs.declared.feed.Carried.TheVariants.{One, Many, Callee}
use Rattle.lowering.specs.declared.graph.Lowered.{Lowered}
use Rattle.lowering.specs.Graphs.{graph_lines}
use Rattle.lowering.specs.Programs.{functions_lowered}
use Rattle.lowering.specs.Types.{Entry, entry, Table, Labelled, label_from, or_new, enter, basics, Part, members, named, over, form_label, label_within, type_label, tuple_label, function_label, callee_label, carried_label, with_types, deepest, Need, header_need, body_needs, with_needs, table}

pub record Grows (before after : Table) : Type 0 where
  pub rest : Table
  pub is : after ≡ before ++ rest

append-nil : (ts : Table) → ts ++ [] ≡ ts
append-nil [] = refl
append-nil (t ∷ ts) = ap (λ x. t ∷ x) (append-nil ts)

pub grows-none : (ts : Table) → Grows ts ts
grows-none ts = record { rest = []; is = sym (append-nil ts) }

pub grows-then : (a b c : Table) → Grows a b → Grows b c → Grows a c
grows-then a b c g h = record { rest = g.rest ++ h.rest; is = h.is ∙ (ap (λ x. x ++ h.rest) g.is ∙ append_assoc a g.rest h.rest) }

new-grows : (o : Option ℕ) (e : Entry) (ts : Table) → Grows ts (or_new o e ts).table
new-grows (Some l) e ts = grows-none ts
new-grows None e ts = record { rest = e ∷ []; is = refl }

pub enter-grows : (e : Entry) (ts : Table) → Grows ts (enter e ts).table
enter-grows e ts = new-grows (label_from 0 e ts) e ts

pub members-grow : (type : ℕ → Table → Labelled) → ((t : ℕ) (ts : Table) → Grows ts (type t ts).table) → (code : ℕ) (ms : List Part) (ts : Table) → Grows ts (members type code ms ts).table
members-grow type g code [] ts = grows-none ts
members-grow type g code (m ∷ ms) ts =
    let rest = members type code ms ts in
    let t = type m.1 rest.table in
    grows-then ts rest.table (enter (entry code t.label rest.label m.0) t.table).table (members-grow type g code ms ts)
    (grows-then rest.table t.table (enter (entry code t.label rest.label m.0) t.table).table (g m.1 rest.table) (enter-grows (entry code t.label rest.label m.0) t.table))

module _ (forms : List Form) (names : List (List ℕ)) where
  over-grows : (code : ℕ) (t : Labelled) (ts : Table) → Grows ts t.table → Grows ts (over forms names code t).table
  over-grows code t ts g = grows-then ts t.table (enter (entry code t.label 0 []) t.table).table g (enter-grows (entry code t.label 0 []) t.table)

  form-grows : (type : ℕ → Table → Labelled) → ((t : ℕ) (ts : Table) → Grows ts (type t ts).table) → (o : Option Form) (ts : Table) → Grows ts (form_label forms names type o ts).table
  form-grows type g (Some Boolean) ts = grows-none ts
  form-grows type g (Some Character) ts = grows-none ts
  form-grows type g (Some Integer) ts = grows-none ts
  form-grows type g (Some Null) ts = grows-none ts
  form-grows type g (Some (Array t)) ts = over-grows 0 (type t ts) ts (g t ts)
  form-grows type g (Some (Stream t)) ts = over-grows 6 (type t ts) ts (g t ts)
  form-grows type g (Some (Record ms)) ts = over-grows 5 (members type 2 (named forms names ms) ts) ts (members-grow type g 2 (named forms names ms) ts)
  form-grows type g (Some (Union ms)) ts = over-grows 9 (members type 7 (named forms names ms) ts) ts (members-grow type g 7 (named forms names ms) ts)
  form-grows type g None ts = grows-none ts

  pub within-grows : (depth t : ℕ) (ts : Table) → Grows ts (label_within forms names depth t ts).table
  within-grows zero t ts = grows-none ts
  within-grows (suc depth) t ts = form-grows (label_within forms names depth) (within-grows depth) (slice_get forms t) ts

  pub type-grows : (t : ℕ) (ts : Table) → Grows ts (type_label forms names t ts).table
  type-grows t ts = within-grows deepest t ts

  pub tuple-grows : (tys : List ℕ) (ts : Table) → Grows ts (tuple_label forms names tys ts).table
  tuple-grows tys ts = members-grow (type_label forms names) type-grows 8 (map (λ t. ([], t)) tys) ts

  pub function-grows : (f : Function) (ts : Table) → Grows ts (function_label forms names f ts).table
  function-grows f ts =
      let a = tuple_label forms names f.params ts in
      let r = tuple_label forms names f.results a.table in
      grows-then ts a.table (enter (entry 3 a.label r.label []) r.table).table (tuple-grows f.params ts)
      (grows-then a.table r.table (enter (entry 3 a.label r.label []) r.table).table (tuple-grows f.results a.table) (enter-grows (entry 3 a.label r.label []) r.table))

  callee-grows : (o : Option Function) (ts : Table) → Grows ts (callee_label forms names o ts).table
  callee-grows None ts = grows-none ts
  callee-grows (Some f) ts = function-grows f ts

  pub carried-grows : (fs : List Function) (c : Carried) (ts : Table) → Grows ts (carried_label forms names fs c ts).table
  carried-grows fs (One t) ts = type-grows t ts
  carried-grows fs (Many t) ts = over-grows 4 (type_label forms names t ts) ts (type-grows t ts)
  carried-grows fs (Callee f) ts = callee-grows (slice_get fs f) ts

  pub types-grow : (fs : List Function) (cs : List Carried) (ts : Table) → Grows ts (with_types forms names fs cs ts)
  types-grow fs [] ts = grows-none ts
  types-grow fs (c ∷ cs) ts = grows-then ts (carried_label forms names fs c ts).table (with_types forms names fs cs (carried_label forms names fs c ts).table) (carried-grows fs c ts) (types-grow fs cs (carried_label forms names fs c ts).table)

-- ---- a program

headers-grow : (p : Program) (fs : List Function) (ns : List Need) (ts : Table) → ((ts : Table) → Grows ts (with_needs ns ts)) → Grows ts (with_needs (map (header_need p) fs ++ ns) ts)
headers-grow p [] ns ts g = g ts
headers-grow p (f ∷ fs) ns ts g =
    grows-then ts (function_label p.types p.names f ts).table (with_needs (map (header_need p) fs ++ ns) (function_label p.types p.names f ts).table) (function-grows p.types p.names f ts) (headers-grow p fs ns (function_label p.types p.names f ts).table g)

pub bodies-grow : (p : Program) (fs : List Function) (ms : List Lowered) (ts : Table) → Grows ts (with_needs (body_needs p fs ms) ts)
bodies-grow p [] ms ts = grows-none ts
bodies-grow p (f ∷ fs) [] ts = grows-none ts
bodies-grow p (f ∷ fs) (m ∷ ms) ts =
    let next = with_types p.types p.names p.functions (graph_lines (m ∷ [])) ts in
    grows-then ts next (with_needs (body_needs p fs ms) next) (types-grow p.types p.names p.functions (graph_lines (m ∷ [])) ts) (bodies-grow p fs ms next)

pub table-begins : (p : Program) → Grows basics (table p)
table-begins p = headers-grow p p.functions (body_needs p p.functions (functions_lowered p)) basics (bodies-grow p p.functions (functions_lowered p))
