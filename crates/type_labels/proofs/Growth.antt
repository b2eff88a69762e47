-- A table only grows.
use Rattle.std.proofs.Common.{ℕ, ◌≤◌, zero, suc, List, [], ◌∷◌, ◌++◌, length, slice_get, Option, Some, None, arith}
use Rattle.std.proofs.lemmas.List.{length-append}
use Rattle.type_table.specs.declared.form.Form.{Form}
use Rattle.type_table.specs.declared.form.Form.TheVariants.{Boolean, Character, Integer, Null, Array, Stream, Record, Union}
use Rattle.lowering.specs.Types.{Entry, entry, Table, label_from, or_new, Labelled, enter, Part, members, named, over, form_label, label_within}

abbrev pub Grows : (Table → Labelled) → Type 0
Grows f = (ts : Table) → length ts ≤ length (f ts).table

pub enter_grows : (e : Entry) → Grows (enter e)
enter_grows e ts = by (label_from 0 e ts)
  where
    by : (o : Option ℕ) → length ts ≤ length (or_new o e ts).table
    by (Some l) = omega arith
    by None = let more = length-append ts (e ∷ []) in omega (arith, more)

pub members_grow : (type : ℕ → Table → Labelled) → ((t : ℕ) → Grows (type t)) → (code : ℕ) (ms : List Part) → Grows (members type code ms)
members_grow type grows code [] ts = omega arith
members_grow type grows code (m ∷ ms) ts =
    let rest = members type code ms ts in
    let t = type m.1 rest.table in
    let a = members_grow type grows code ms ts in
    let b = grows m.1 rest.table in
    let c = enter_grows (entry code t.label rest.label m.0) t.table in
    omega (arith, a, b, c)

-- what the last ones need is needed by all
pub suffix_grows : (type : ℕ → Table → Labelled) → ((t : ℕ) → Grows (type t)) → (code : ℕ) (ns ms : List Part) (ts : Table) → length (members type code ms ts).table ≤ length (members type code (ns ++ ms) ts).table
suffix_grows type grows code [] ms ts = omega arith
suffix_grows type grows code (n ∷ ns) ms ts =
    let rest = members type code (ns ++ ms) ts in
    let t = type n.1 rest.table in
    let a = suffix_grows type grows code ns ms ts in
    let b = grows n.1 rest.table in
    let c = enter_grows (entry code t.label rest.label n.0) t.table in
    omega (arith, a, b, c)

module _ (forms : List Form) (names : List (List ℕ)) where
  pub over_grows : (code : ℕ) (l : Labelled) → length l.table ≤ length (over forms names code l).table
  over_grows code l = enter_grows (entry code l.label 0 []) l.table

  form_grows : (type : ℕ → Table → Labelled) → ((t : ℕ) → Grows (type t)) → (o : Option Form) → Grows (form_label forms names type o)
  form_grows type grows (Some Boolean) ts = omega arith
  form_grows type grows (Some Character) ts = omega arith
  form_grows type grows (Some Integer) ts = omega arith
  form_grows type grows (Some Null) ts = omega arith
  form_grows type grows (Some (Array t)) ts = let a = grows t ts in let b = over_grows 0 (type t ts) in omega (arith, a, b)
  form_grows type grows (Some (Stream t)) ts = let a = grows t ts in let b = over_grows 6 (type t ts) in omega (arith, a, b)
  form_grows type grows (Some (Record ms)) ts = let l = members type 2 (named forms names ms) ts in let a = members_grow type grows 2 (named forms names ms) ts in let b = over_grows 5 l in omega (arith, a, b)
  form_grows type grows (Some (Union ms)) ts = let l = members type 7 (named forms names ms) ts in let a = members_grow type grows 7 (named forms names ms) ts in let b = over_grows 9 l in omega (arith, a, b)
  form_grows type grows None ts = omega arith

  pub within_grows : (depth t : ℕ) → Grows (label_within forms names depth t)
  within_grows zero t ts = omega arith
  within_grows (suc depth) t ts = form_grows (label_within forms names depth) (within_grows depth) (slice_get forms t) ts
