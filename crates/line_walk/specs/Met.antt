-- What a walk over lists of phrases meets.
use Rattle.std.specs.Prelude.{ℕ, zero, suc, Bool, true, false, nat_eq, List, [], ◌∷◌, ◌++◌, map, drop, Option, Some, None, if◌then◌else◌}
use Rattle.type_table.specs.declared.form.Form.{Form}
use Rattle.typed_tree.specs.declared.expr.TypedExpr.{TypedExpr}
use Rattle.typed_tree.specs.declared.expr.TypedKind.{TypedKind}
use Rattle.typed_tree.specs.declared.expr.Case.{Case}
use Rattle.value_ops.specs.declared.operation.Operation.{Operation}
use Rattle.lowering.specs.declared.feed.Carried.{Carried}
use Rattle.lowering.specs.declared.feed.Carried.TheVariants.{One, Callee}
use Rattle.lowering.specs.Operations.{integer}
use Rattle.lowering.specs.Choices.{is_array, type_of}
use Rattle.lowering.specs.Loops.{loop_name}
use Rattle.line_types.specs.Traces.{Bound, Wired, Limit, with_not, no_line, test_traced, extras, Trace, Traces, andthen, a_node, ones, operands, all_traced, defs_traced, clauses_traced, each, phrase, phrase_kind, arms_traced}
use Rattle.line_walk.specs.declared.loops.Bound.{Bound as Kept}
use Rattle.line_walk.specs.declared.loops.Bound.TheVariants as kept

-- ---- ports of changed fields

-- what is carried to the port of a place, where these are carried to the ports of these places
abbrev pub port_of : ℕ → List ℕ → List Carried → Option Carried
port_of p [] cs = None
port_of p (x ∷ xs) [] = None
port_of p (x ∷ xs) (c ∷ cs) = if nat_eq x p then Some c else port_of p xs cs

-- to so many ports, the first for this place
abbrev pub ports : ℕ → ℕ → List ℕ → List Carried → List (Option Carried)
ports p zero places cs = []
ports p (suc count) places cs = port_of p places cs ∷ ports (suc p) count places cs

abbrev pub carried_ports : List (Option Carried) → List Carried
carried_ports [] = []
carried_ports (None ∷ os) = carried_ports os
carried_ports (Some c ∷ os) = c ∷ carried_ports os

-- ---- names

abbrev pub with_name : Option Carried → List Carried → List Carried
with_name None env = env
with_name (Some c) env = env ++ c ∷ []

-- ---- loops

-- the lower bound of an `array of`, as the code keeps it
abbrev pub plain : Kept → Bound
plain (kept.Wired c) = Wired c
plain (kept.Limit c) = Limit c

abbrev pub limit_or_one : List Form → Carried → Bound
limit_or_one forms c = if is_array forms (type_of c) then Limit c else Wired (One integer)

-- at which places among the loop values a value or a mask of a clause is collected, which is a loop name at this place
abbrev pub column_at : Option Bool → Option ℕ → ℕ → List ℕ
column_at None d next = []
column_at (Some true) d next = next ∷ []
column_at (Some false) None next = next ∷ []
column_at (Some false) (Some x) next = x ∷ []

-- where the next one besides the loop names is collected behind it
abbrev pub next_column : Option Bool → Option ℕ → ℕ → ℕ
next_column None d next = next
next_column (Some true) d next = suc next
next_column (Some false) None next = suc next
next_column (Some false) (Some x) next = next

-- the flag in front, where there is one
abbrev pub first_flag : List Bool → Option Bool
first_flag [] = None
first_flag (b ∷ bs) = Some b

-- in a program of these types
module _ (forms : List Form) where
  abbrev pub kind_met : TypedKind → List ℕ → Traces
  kind_met kind ts = (phrase_kind forms kind).traces ts

  abbrev pub exprs_met : List TypedExpr → Traces
  exprs_met es = all_traced (each (map (phrase forms) es))

  abbrev pub defs_met : List (List TypedExpr) → Traces
  defs_met ds = defs_traced (map each (map (map (phrase forms)) ds))

  -- the values of clauses, and the masks of `unless` at these places
  abbrev pub clauses_met : List Bool → List TypedExpr → Traces
  clauses_met bs es = all_traced (clauses_traced bs (each (map (phrase forms) es)))

  -- the arms from one on
  abbrev pub arms_met : Case → ℕ → ℕ → List (List TypedExpr) → List Carried → List Trace
  arms_met c type arm ds env = arms_traced forms c type arm (map each (map (map (phrase forms)) ds)) env

  -- the test of an `if`
  abbrev pub selector_met : List TypedExpr → Traces
  selector_met es env = andthen (exprs_met es env) (λ cs. a_node cs (One integer ∷ []))

  abbrev pub call_met : ℕ → List TypedExpr → List ℕ → Traces
  call_met f es ts env = andthen (exprs_met es env) (λ cs. a_node (Callee f ∷ cs) (ones ts))

  abbrev pub apply_met : Operation → List TypedExpr → List ℕ → Traces
  apply_met op es ts env = andthen (exprs_met es env) (λ cs. a_node (operands op cs) (ones ts))

  -- a value or a mask of a clause
  abbrev pub clause_met : Option Bool → TypedExpr → Traces
  clause_met (Some true) e = with_not (phrase forms e).traces
  clause_met _ e = (phrase forms e).traces

  -- what is collected for it besides the loop names
  abbrev pub extra_met : (Option ℕ → Option ℕ) → Option Bool → TypedExpr → Traces
  extra_met loop None e = all_traced []
  extra_met loop (Some b) e = all_traced (extras loop (b ∷ []) (phrase forms e ∷ []))

  -- what is collected besides the loop names
  abbrev pub extras_met : (Option ℕ → Option ℕ) → List Bool → List TypedExpr → Traces
  extras_met loop bs es = all_traced (extras loop bs (map (phrase forms) es))

  -- the loop names, which stand behind so many names around, and what is collected besides
  abbrev pub row_met : ℕ → ℕ → List Bool → List TypedExpr → Traces
  row_met around count bs es env = andthen (extras_met (loop_name around count) bs es env) (λ cs. no_line (drop around env ++ cs))

  abbrev pub test_met : Bool → List TypedExpr → Traces
  test_met is_until es = test_traced is_until (each (map (phrase forms) es))
