-- The second number of an entry of a table of types is a label before its own, so a list of members ends.
use Rattle.std.proofs.Common.{◌≡◌, ℕ, zero, suc, ◌+◌, ◌≤◌, Bool, true, false, List, [], ◌∷◌, ◌++◌, map, length, Option, Some, None, slice_get, refl, subst, arith}
use Rattle.std.specs.Prelude.{if◌then◌else◌}
use Rattle.std.proofs.lemmas.List.{length-append}
use Rattle.type_table.specs.declared.form.Form.{Form}
use Rattle.type_table.specs.declared.form.Form.TheVariants.{Boolean, Character, Integer, Null, Array, Stream, Record, Union}
use Rattle.typed_tree.specs.declared.program.Function.{Function}
use Rattle.typed_tree.specs.declared.program.Program.{Program}
use Rattle.lowering.specs.declared.feed.Carried.{Carried}
use Rattle.lowering.specs.declared.feed.Carried.TheVariants.{One, Many, Callee}
use Rattle.lowering.specs.declared.graph.Lowered.{Lowered}
use Rattle.lowering.specs.Graphs.{graph_lines}
use Rattle.lowering.specs.Programs.{functions_lowered}
use Rattle.lowering.specs.Types.{Entry, entry, is_entry, Table, Labelled, label_from, or_new, enter, basics, Part, members, deepest, named, form_label, label_within, type_label, tuple_label, function_label, callee_label, carried_label, with_types, Need, header_need, body_needs, needs, with_needs, table}

-- behind so many entries
abbrev pub AreLow : ℕ → Table → Type 0
AreLow n [] = Unit {0}
AreLow n (e ∷ es) = (e.second ≤ n) × AreLow (suc n) es

pub low-at : (n : ℕ) (es : Table) → AreLow n es → (i : ℕ) (e : Entry) → slice_get es i ≡ Some e → e.second ≤ n + i
low-at n [] h i e s = absurd cc
low-at n (x ∷ es) h zero e s = omega (arith, subst (λ (y : Entry). y.second ≤ n) (same s) h.0)
  where
    same : Some x ≡ Some e → x ≡ e
    same s = cc
low-at n (x ∷ es) h (suc i) e s = omega (arith, low-at (suc n) es h.1 i e s)

last-low : (n : ℕ) (es : Table) (e : Entry) → AreLow n es → e.second ≤ n + length es → AreLow n (es ++ e ∷ [])
last-low n [] e a h = (omega (arith, h), tt)
last-low n (x ∷ es) e a h = (a.0, last-low (suc n) es e a.1 (omega (arith, h)))

-- a table that is low and has the basic types
pub record IsLow (es : Table) : Type 0 where
  pub low : AreLow 0 es
  pub basics : 4 ≤ length es

pub record Lows (es : Table) (r : Labelled) : Type 0 where
  pub table : IsLow r.table
  pub grown : length es ≤ length r.table
  pub label : r.label ≤ length r.table

found-within : (n : ℕ) (e : Entry) (es : Table) (l : ℕ) → label_from n e es ≡ Some l → l ≤ n + length es
found-within n e [] l h = absurd cc
found-within n e (f ∷ fs) l h = by (is_entry f e) h (λ k. found-within (suc n) e fs l k)
  where
    by : (b : Bool) → (if b then Some (suc n) else label_from (suc n) e fs) ≡ Some l → (label_from (suc n) e fs ≡ Some l → l ≤ suc n + length fs) → l ≤ n + length (f ∷ fs)
    by true h r = omega (arith, same h)
      where
        same : Some (suc n) ≡ Some l → suc n ≡ l
        same h = cc
    by false h r = omega (arith, r h)

enter-low : (e : Entry) (es : Table) → e.second ≤ length es → IsLow es → Lows es (enter e es)
enter-low e es h a = by (label_from 0 e es) refl
  where
    by : (o : Option ℕ) → label_from 0 e es ≡ o → Lows es (or_new o e es)
    by (Some l) k = record { table = a; grown = omega arith; label = omega (arith, found-within 0 e es l k) }
    by None k =
        let more : length (es ++ e ∷ []) ≡ length es + 1 = length-append es (e ∷ []) in
        record { table = record { low = last-low 0 es e a.low (omega (arith, h)); basics = omega (arith, more, a.basics) }; grown = omega (arith, more); label = omega (arith, more) }

lows-then : (es : Table) (r s : Labelled) → length es ≤ length r.table → Lows r.table s → Lows es s
lows-then es r s l h = record { table = h.table; grown = omega (arith, l, h.grown); label = h.label }

abbrev Keeps : (Table → Labelled) → Type 0
Keeps f = (es : Table) → IsLow es → Lows es (f es)

members-low : (type : ℕ → Table → Labelled) (code : ℕ) → ((t : ℕ) → Keeps (type t)) → (ms : List Part) → Keeps (members type code ms)
members-low type code k [] es a = record { table = a; grown = omega arith; label = omega arith }
members-low type code k (m ∷ ms) es a =
    let rest = members type code ms es in
    let r = members-low type code k ms es a in
    let t = type m.1 rest.table in
    let x = k m.1 rest.table r.table in
    lows-then es t (enter (entry code t.label rest.label m.0) t.table) (omega (arith, r.grown, x.grown))
    (enter-low (entry code t.label rest.label m.0) t.table (omega (arith, r.label, x.grown)) x.table)

module _ (forms : List Form) (names : List (List ℕ)) where
  over-low : (code : ℕ) (es : Table) (t : Labelled) → Lows es t → Lows es (enter (entry code t.label 0 []) t.table)
  over-low code es t h = lows-then es t (enter (entry code t.label 0 []) t.table) h.grown (enter-low (entry code t.label 0 []) t.table (omega arith) h.table)

  same-low : (es : Table) (l : ℕ) → l ≤ 4 → IsLow es → Lows es (record { label = l; table = es })
  same-low es l h a = record { table = a; grown = omega arith; label = omega (arith, h, a.basics) }

  form-low : (type : ℕ → Table → Labelled) → ((t : ℕ) → Keeps (type t)) → (o : Option Form) → Keeps (form_label forms names type o)
  form-low type k (Some Boolean) es a = same-low es 1 (omega arith) a
  form-low type k (Some Character) es a = same-low es 2 (omega arith) a
  form-low type k (Some Integer) es a = same-low es 3 (omega arith) a
  form-low type k (Some Null) es a = same-low es 4 (omega arith) a
  form-low type k (Some (Array t)) es a = over-low 0 es (type t es) (k t es a)
  form-low type k (Some (Stream t)) es a = over-low 6 es (type t es) (k t es a)
  form-low type k (Some (Record ms)) es a = over-low 5 es (members type 2 (named forms names ms) es) (members-low type 2 k (named forms names ms) es a)
  form-low type k (Some (Union ms)) es a = over-low 9 es (members type 7 (named forms names ms) es) (members-low type 7 k (named forms names ms) es a)
  form-low type k None es a = same-low es 0 (omega arith) a

  within-low : (depth t : ℕ) → Keeps (label_within forms names depth t)
  within-low zero t es a = same-low es 0 (omega arith) a
  within-low (suc depth) t es a = form-low (label_within forms names depth) (within-low depth) (slice_get forms t) es a

  type-low : (t : ℕ) → Keeps (type_label forms names t)
  type-low t es a = within-low deepest t es a

  tuple-low : (ts : List ℕ) → Keeps (tuple_label forms names ts)
  tuple-low ts es a = members-low (type_label forms names) 8 type-low (map (λ t. ([], t)) ts) es a

  function-low : (f : Function) → Keeps (function_label forms names f)
  function-low f es a =
      let x = tuple_label forms names f.params es in
      let y = tuple_label forms names f.results x.table in
      let hx = tuple-low f.params es a in
      let hy = tuple-low f.results x.table hx.table in
      lows-then es y (enter (entry 3 x.label y.label []) y.table) (omega (arith, hx.grown, hy.grown)) (enter-low (entry 3 x.label y.label []) y.table hy.label hy.table)

  callee-low : (o : Option Function) → Keeps (callee_label forms names o)
  callee-low None es a = same-low es 0 (omega arith) a
  callee-low (Some f) es a = function-low f es a

  carried-low : (fs : List Function) (c : Carried) → Keeps (carried_label forms names fs c)
  carried-low fs (One t) es a = type-low t es a
  carried-low fs (Many t) es a = over-low 4 es (type_label forms names t es) (type-low t es a)
  carried-low fs (Callee f) es a = callee-low (slice_get fs f) es a

  types-low : (fs : List Function) (cs : List Carried) (es : Table) → IsLow es → IsLow (with_types forms names fs cs es)
  types-low fs [] es a = a
  types-low fs (c ∷ cs) es a = types-low fs cs (carried_label forms names fs c es).table (carried-low fs c es a).table

-- ---- a program

-- each part of the text enters low entries
abbrev AllEnter : List Need → Type 0
AllEnter [] = Unit {0}
AllEnter (n ∷ ns) = ((es : Table) → IsLow es → IsLow (n.enters es)) × AllEnter ns

needs-low : (ns : List Need) (es : Table) → AllEnter ns → IsLow es → IsLow (with_needs ns es)
needs-low [] es h a = a
needs-low (n ∷ ns) es h a = needs-low ns (n.enters es) h.1 (h.0 es a)

both-enter : (ns ms : List Need) → AllEnter ns → AllEnter ms → AllEnter (ns ++ ms)
both-enter [] ms a b = b
both-enter (n ∷ ns) ms a b = (a.0, both-enter ns ms a.1 b)

headers-enter : (p : Program) (fs : List Function) → AllEnter (map (header_need p) fs)
headers-enter p [] = tt
headers-enter p (f ∷ fs) = (λ es a. (function-low p.types p.names f es a).table, headers-enter p fs)

bodies-enter : (p : Program) (fs : List Function) (ms : List Lowered) → AllEnter (body_needs p fs ms)
bodies-enter p [] ms = tt
bodies-enter p (f ∷ fs) [] = tt
bodies-enter p (f ∷ fs) (m ∷ ms) = (types-low p.types p.names p.functions (graph_lines (m ∷ [])), bodies-enter p fs ms)

basics-low : IsLow basics
basics-low = record { low = (omega arith, (omega arith, (omega arith, (omega arith, tt)))); basics = omega arith }

pub table-low : (p : Program) → IsLow (table p)
table-low p = needs-low (needs p) basics (both-enter (map (header_need p) p.functions) (body_needs p p.functions (functions_lowered p)) (headers-enter p p.functions) (bodies-enter p p.functions (functions_lowered p))) basics-low
