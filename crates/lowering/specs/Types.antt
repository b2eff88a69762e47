-- The table of types of a unit: each entry once, in the order of first need, headers of functions first; the parts of a type stand
-- before it, and the members of a list are entered from the last to the first, each behind its type (IF1 manual M-170, type table).
use Rattle.std.specs.Prelude.{ℕ, zero, suc, Bool, ◌&&◌, nat_eq, bytes_eq, codes, List, [], ◌∷◌, ◌++◌, map, length, slice_get, get_or, Option, Some, None, if◌then◌else◌}
use Rattle.typed_tree.specs.Form.{Form}
use Rattle.typed_tree.specs.Form.TheVariants.{Boolean, Character, Integer, Null, Array, Stream, Record, Union}
use Rattle.typed_tree.specs.Member.{Member}
use Rattle.typed_tree.specs.declared.program.Function.{Function}
use Rattle.typed_tree.specs.declared.program.Program.{Program}
use Rattle.lowering.specs.declared.feed.Carried.{Carried}
use Rattle.lowering.specs.declared.feed.Carried.TheVariants.{One, Many, Callee}
use Rattle.lowering.specs.declared.graph.Lowered.{Lowered}
use Rattle.lowering.specs.Graphs.{graph_lines}
use Rattle.lowering.specs.Programs.{functions_lowered}

-- an entry, whose label is its place, from 1; 0 stands for a number that its line does not have
pub record Entry : Type 0 where
  pub code : ℕ
  pub first : ℕ
  pub second : ℕ
  pub name : List ℕ

abbrev pub entry : ℕ → ℕ → ℕ → List ℕ → Entry
entry code first second name = record { code = code; first = first; second = second; name = name }

abbrev pub is_entry : Entry → Entry → Bool
is_entry a b = nat_eq a.code b.code && (nat_eq a.first b.first && (nat_eq a.second b.second && bytes_eq a.name b.name))

abbrev pub Table : Type 0
Table = List Entry

-- the label of an entry, where the first of these has the label behind this one
abbrev pub label_from : ℕ → Entry → Table → Option ℕ
label_from n e [] = None
label_from n e (f ∷ fs) = if is_entry f e then Some (suc n) else label_from (suc n) e fs

-- a label, and a table that has it
pub record Labelled : Type 0 where
  pub label : ℕ
  pub table : Table

abbrev pub labelled : ℕ → Table → Labelled
labelled l ts = record { label = l; table = ts }

abbrev pub or_new : Option ℕ → Entry → Table → Labelled
or_new (Some l) e ts = labelled l ts
or_new None e ts = labelled (suc (length ts)) (ts ++ e ∷ [])

-- an entry that is not there yet comes behind the others
abbrev pub enter : Entry → Table → Labelled
enter e ts = or_new (label_from 0 e ts) e ts

-- the entries that every table begins with
abbrev pub basics : Table
basics = entry 1 0 0 (codes "boolean") ∷ entry 1 1 0 (codes "character") ∷ entry 1 3 0 (codes "integer") ∷ entry 1 4 0 (codes "null") ∷ []

-- a member: its name, and the number of its type
abbrev pub Part : Type 0
Part = List ℕ × ℕ

-- the label of the first of these members of a kind, 0 where there is none
abbrev pub members : (ℕ → Table → Labelled) → ℕ → List Part → Table → Labelled
members type code [] ts = labelled 0 ts
members type code (m ∷ ms) ts =
    let rest = members type code ms ts in
    let t = type m.1 rest.table in
    enter (entry code t.label rest.label m.0) t.table

-- types may be at most 64 deep
abbrev pub deepest : ℕ
deepest = 64

-- in a table of types, with the spelling of each name
module _ (forms : List Form) (names : List (List ℕ)) where
  abbrev pub named : List Member → List Part
  named ms = map (λ m. (get_or names m.name [], m.ty)) ms

  abbrev pub over : ℕ → Labelled → Labelled
  over code t = enter (entry code t.label 0 []) t.table

  abbrev pub form_label : (ℕ → Table → Labelled) → Option Form → Table → Labelled
  form_label type (Some Boolean) ts = labelled 1 ts
  form_label type (Some Character) ts = labelled 2 ts
  form_label type (Some Integer) ts = labelled 3 ts
  form_label type (Some Null) ts = labelled 4 ts
  form_label type (Some (Array t)) ts = over 0 (type t ts)
  form_label type (Some (Stream t)) ts = over 6 (type t ts)
  form_label type (Some (Record ms)) ts = over 5 (members type 2 (named ms) ts)
  form_label type (Some (Union ms)) ts = over 9 (members type 7 (named ms) ts)
  form_label type None ts = labelled 0 ts

  -- the label of a type by its number, where it is at most so deep
  abbrev pub label_within : ℕ → ℕ → Table → Labelled
  label_within zero t ts = labelled 0 ts
  label_within (suc depth) t ts = form_label (label_within depth) (slice_get forms t) ts

  abbrev pub type_label : ℕ → Table → Labelled
  type_label t ts = label_within deepest t ts

  abbrev pub tuple_label : List ℕ → Table → Labelled
  tuple_label tys ts = members type_label 8 (map (λ t. ([], t)) tys) ts

  -- the type of a function: its arguments, then its results
  abbrev pub function_label : Function → Table → Labelled
  function_label f ts =
      let a = tuple_label f.params ts in
      let r = tuple_label f.results a.table in
      enter (entry 3 a.label r.label []) r.table

  abbrev pub callee_label : Option Function → Table → Labelled
  callee_label None ts = labelled 0 ts
  callee_label (Some f) ts = function_label f ts

  -- the type of what an edge carries
  abbrev pub carried_label : List Function → Carried → Table → Labelled
  carried_label fs (One t) ts = type_label t ts
  carried_label fs (Many t) ts = over 4 (type_label t ts)
  carried_label fs (Callee f) ts = callee_label (slice_get fs f) ts

  abbrev pub with_types : List Function → List Carried → Table → Table
  with_types fs [] ts = ts
  with_types fs (c ∷ cs) ts = with_types fs cs (carried_label fs c ts).table

-- ---- a program

-- a part of the text that needs types: the line of its function, and what it enters
pub record Need : Type 0 where
  pub line : ℕ
  pub enters : Table → Table

abbrev pub header_need : Program → Function → Need
header_need p f = record { line = f.line; enters = λ ts. (function_label p.types p.names f ts).table }

abbrev pub body_needs : Program → List Function → List Lowered → List Need
body_needs p [] ms = []
body_needs p (f ∷ fs) [] = []
body_needs p (f ∷ fs) (m ∷ ms) =
    record { line = f.line; enters = with_types p.types p.names p.functions (graph_lines (m ∷ [])) } ∷ body_needs p fs ms

-- all headers, and then what each function carries, in the order of the text
abbrev pub needs : Program → List Need
needs p = map (header_need p) p.functions ++ body_needs p p.functions (functions_lowered p)

abbrev pub with_needs : List Need → Table → Table
with_needs [] ts = ts
with_needs (n ∷ ns) ts = with_needs ns (n.enters ts)

-- the table of a program
abbrev pub table : Program → Table
table p = with_needs (needs p) basics

-- the label of what an edge carries
abbrev pub label_of : Program → Carried → ℕ
label_of p c = (carried_label p.types p.names p.functions c (table p)).label

-- the label of the type of a function
abbrev pub header_label : Program → Function → ℕ
header_label p f = (function_label p.types p.names f (table p)).label
