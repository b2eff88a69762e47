-- What the lines of a program carry, told by types alone: the typed tree is read in the order of the text, each phrase once, and a name
-- stands for what its wire carries. This is the lowering of a phrase without nodes and numbers, and without the inputs of compound
-- nodes, which carry nothing that the lines inside do not (IF1 manual M-170, type table).
use Rattle.std.specs.Prelude.{ℕ, zero, suc, Bool, true, false, nat_eq, nat_lt, List, [], ◌∷◌, ◌++◌, map, drop, length, slice_get, slice_set, unwrap_or, Option, Some, None, if◌then◌else◌}
use Rattle.if1_graph.specs.Units.{greatest}
use Rattle.sisal_tree.specs.declared.expr.Constant.{Constant}
use Rattle.sisal_tree.specs.declared.expr.Constant.TheVariants as constant
use Rattle.type_table.specs.declared.form.Form.{Form}
use Rattle.value_ops.specs.declared.operation.Operation.{Operation}
use Rattle.value_ops.specs.declared.operation.Operation.TheVariants as operation
use Rattle.loop_folds.specs.declared.folding.Folding.{Folding}
use Rattle.loop_folds.specs.declared.folding.Folding.TheVariants as folding
use Rattle.typed_tree.specs.declared.expr.TypedExpr.{TypedExpr}
use Rattle.typed_tree.specs.declared.expr.TypedKind.{TypedKind}
use Rattle.typed_tree.specs.declared.expr.TypedKind.TheOpen.{TypedKind-F, TypedExpr-F}
use Rattle.typed_tree.specs.declared.expr.TypedKind.TheFolds.{fold-TypedExpr, fold-TypedKind}
use Rattle.typed_tree.specs.declared.expr.Case.{Case}
use Rattle.typed_tree.specs.declared.expr.Product.{Product}
use Rattle.typed_tree.specs.declared.expr.Turns.{Turns}
use Rattle.typed_tree.specs.declared.expr.Source.{Source}
use Rattle.typed_tree.specs.declared.expr.Source.TheVariants as source
use Rattle.typed_tree.specs.declared.expr.ClauseForm.{ClauseForm}
use Rattle.typed_tree.specs.declared.program.Function.{Function}
use Rattle.typed_tree.specs.declared.program.Program.{Program}
use Rattle.lowering.specs.declared.feed.Carried.{Carried}
use Rattle.lowering.specs.declared.feed.Carried.TheVariants.{One, Many, Callee}
use Rattle.lowering.specs.Operations.{boolean, character, integer, null}
use Rattle.lowering.specs.Choices.{element_of, is_array, type_of, content_of, first_tag}
use Rattle.lowering.specs.Loops.{many, single, span, width, unless_places, loop_name, place_of}
use Rattle.lowering.specs.Types.{Need, header_need, with_types}

-- what the lines of a phrase carry, in the order of the text, and what its values carry
pub record Trace : Type 0 where
  pub lines : List Carried
  pub values : List Carried

-- where names that carry these are in force
abbrev pub Traces : Type 0
Traces = List Carried → Trace

abbrev pub no_line : List Carried → Trace
no_line vs = record { lines = []; values = vs }

-- one after the other
abbrev pub andthen : Trace → (List Carried → Trace) → Trace
andthen a f = let b = f a.values in record { lines = a.lines ++ b.lines; values = b.values }

-- the lines of a node, and what it gives
abbrev pub a_node : List Carried → List Carried → Trace
a_node ins outs = record { lines = ins; values = outs }

abbrev pub ones : List ℕ → List Carried
ones ts = map One ts

-- one beside the other
abbrev pub beside : Trace → Trace → Trace
beside a b = record { lines = a.lines ++ b.lines; values = a.values ++ b.values }

-- the lines of graphs: those of their nodes, and those of their results
abbrev pub graph_lines : List Trace → List Carried
graph_lines [] = []
graph_lines (a ∷ more) = (a.lines ++ a.values) ++ graph_lines more

abbrev pub take_up : ℕ → List Carried → List Carried
take_up zero cs = []
take_up (suc n) [] = []
take_up (suc n) (c ∷ cs) = c ∷ take_up n cs

-- what the name of a level carries
abbrev pub carried_at : List Carried → ℕ → Carried
carried_at env x = unwrap_or (slice_get env x) (One null)

-- ---- lists of phrases

abbrev pub all_traced : List Traces → Traces
all_traced [] env = no_line []
all_traced (g ∷ gs) env = beside (g env) (all_traced gs env)

abbrev pub defs_traced : List (List Traces) → Traces
defs_traced [] env = no_line env
defs_traced (d ∷ ds) env = andthen (all_traced d env) (λ vs. defs_traced ds (env ++ vs))

abbrev pub body_traced : List (List Traces) → List Traces → Traces
body_traced ds gs env = andthen (defs_traced ds env) (all_traced gs)

-- ---- constants and operations

-- a text is made of its characters
abbrev pub constant_traced : Constant → List ℕ → Trace
constant_traced (constant.Quoted s) ts = a_node (One integer ∷ map (λ c. One character) s) (ones ts)
constant_traced c ts = no_line (ones ts)

abbrev pub reversed : List Carried → List Carried
reversed [] = []
reversed (c ∷ cs) = reversed cs ++ c ∷ []

-- what is carried to the port of a place, where these are carried to the ports of these places
abbrev pub at_place : ℕ → List ℕ → List Carried → List Carried
at_place p [] cs = []
at_place p (x ∷ xs) [] = []
at_place p (x ∷ xs) (c ∷ cs) = if nat_eq x p then c ∷ [] else at_place p xs cs

-- to so many ports, the first for this place
abbrev pub changed : ℕ → ℕ → List ℕ → List Carried → List Carried
changed p zero places cs = []
changed p (suc count) places cs = at_place p places cs ++ changed (suc p) count places cs

-- what is carried to the ports of the node of an operation, by what its operands carry
abbrev pub operands : Operation → List Carried → List Carried
operands (operation.Swapped f) cs = reversed cs
operands operation.EmptyArray cs = One integer ∷ cs
operands operation.Stream cs = One integer ∷ cs
operands (operation.Change places) cs = carried_at cs 0 ∷ changed 0 (suc (greatest places)) places (drop 1 cs)
-- two literals inside, and the union
operands (operation.IsTag tag) cs = One boolean ∷ One boolean ∷ carried_at cs 0 ∷ []
operands op cs = cs

-- ---- choices

-- the test, as a number, and the `else` part before the other
abbrev pub if_traced : List Traces → List Traces → List Traces → List ℕ → Traces
if_traced test one_arm other ts env =
    let s = andthen (all_traced test env) (λ cs. a_node cs (One integer ∷ [])) in
    a_node (graph_lines (s ∷ all_traced other env ∷ all_traced one_arm env ∷ [])) (ones ts)

-- ---- loops: clauses and returns

abbrev pub with_not : Traces → Traces
with_not g env = andthen (g env) (λ cs. a_node cs (One boolean ∷ []))

-- a mask of `unless` is the Not of its expression
abbrev pub clauses_traced : List Bool → List Traces → List Traces
clauses_traced bs [] = []
clauses_traced [] gs = gs
clauses_traced (true ∷ bs) (g ∷ gs) = with_not g ∷ clauses_traced bs gs
clauses_traced (false ∷ bs) (g ∷ gs) = g ∷ clauses_traced bs gs

-- the lower bound of an `array of`: what is carried to its port, or the array whose lower bound it is
pub data Bound : Type 0 where
  Wired : (c : Carried) → Bound
  Limit : (c : Carried) → Bound

abbrev pub bound_lines : Bound → List Carried
bound_lines (Wired c) = c ∷ []
bound_lines (Limit c) = c ∷ One integer ∷ []

-- what is carried to the ports of the node of a clause, on these multiples
abbrev pub fold_lines : Bound → Folding → List Carried → List Carried
fold_lines b folding.Array ms = bound_lines b ++ ms
fold_lines b folding.Last ms = ms
fold_lines b f ms = One integer ∷ ms

abbrev pub returns_traced : Bound → List ClauseForm → List Carried → List ℕ → Trace
returns_traced b [] ms ts = no_line []
returns_traced b (c ∷ cs) ms [] = no_line []
returns_traced b (c ∷ cs) ms (t ∷ ts) =
    beside (a_node (fold_lines b c.folding (take_up (span c.masking) ms)) (One t ∷ [])) (returns_traced b cs (drop (span c.masking) ms) ts)

-- ---- `for initial`

-- a phrase: the level of which it is the name, where it is a name, and what it carries
pub record Phrase : Type 0 where
  pub name : Option ℕ
  pub traces : Traces

abbrev pub each : List Phrase → List Traces
each ps = map (λ p. p.traces) ps

abbrev pub extra : Option ℕ → Traces → List Traces
extra None g = g ∷ []
extra (Some x) g = []

-- what is collected besides the loop names
abbrev pub extras : (Option ℕ → Option ℕ) → List Bool → List Phrase → List Traces
extras loop bs [] = []
extras loop (true ∷ bs) (p ∷ ps) = with_not p.traces ∷ extras loop bs ps
extras loop (false ∷ bs) (p ∷ ps) = extra (loop p.name) p.traces ++ extras loop bs ps
extras loop [] (p ∷ ps) = []

-- at which place among the loop values each value and mask of the clauses is collected
abbrev pub collected : (Option ℕ → Option ℕ) → ℕ → List Bool → List Phrase → List ℕ
collected loop next bs [] = []
collected loop next (true ∷ bs) (p ∷ ps) = next ∷ collected loop (suc next) bs ps
collected loop next (false ∷ bs) (p ∷ ps) = place_of next (loop p.name) (λ k. collected loop k bs ps)
collected loop next [] (p ∷ ps) = []

abbrev pub renew_one : Option ℕ → Carried → List Carried → List Carried
renew_one None c l = l
renew_one (Some x) c l = slice_set l x c

-- the loop names after a turn
abbrev pub renew : List (Option ℕ) → List Carried → List Carried → List Carried
renew [] cs l = l
renew (d ∷ ds) [] l = l
renew (d ∷ ds) (c ∷ cs) l = renew_one d c (renew ds cs l)

abbrev pub test_traced : Bool → List Traces → Traces
test_traced is_until ts env = if is_until then with_not (all_traced ts) env else all_traced ts env

-- the loop names, and behind them what is collected besides, which sees them behind the names around
abbrev pub row_of_turn : List Traces → List Carried → List Carried → Trace
row_of_turn es around loop = andthen (all_traced es (around ++ loop)) (λ cs. no_line (loop ++ cs))

abbrev pub initial_traced : Turns → List (List Traces) → List Traces → List (List Traces) → List Phrase → List ℕ → Traces
initial_traced t fs test ds ps ts env =
    let first = defs_traced fs env in
    let names = drop (length env) first.values in
    let inside = env ++ names in
    let loop = loop_name (length env) (length names) in
    let bs = unless_places t.clauses in
    let es = extras loop bs ps in
    let i = andthen first (λ all. row_of_turn es env (drop (length env) all)) in
    let x = test_traced t.is_until test inside in
    let b = andthen (defs_traced ds inside) (λ all. row_of_turn es env (renew t.renewed (drop (length inside) all) names)) in
    let r = returns_traced (Wired (One integer)) t.clauses (map (carried_at (map many i.values)) (collected loop (length names) bs ps)) ts in
    a_node (graph_lines (i ∷ x ∷ b ∷ r ∷ [])) (ones ts)

-- ---- phrases

-- a phrase by the types of its values
pub record Kind : Type 0 where
  pub name : Option ℕ
  pub traces : List ℕ → Traces

abbrev pub is_named : ℕ → (List ℕ → Traces) → Kind
is_named x f = record { name = Some x; traces = f }

abbrev pub unnamed : (List ℕ → Traces) → Kind
unnamed f = record { name = None; traces = f }

abbrev pub expr_traced : TypedExpr-F Kind Phrase → Phrase
expr_traced e = record { name = e.kind.name; traces = e.kind.traces e.types }

-- in a program of these types
module _ (forms : List Form) where
  -- the names in an arm: the content of the union is in force in the first so many
  abbrev pub arm_names : Case → ℕ → ℕ → List Carried → List Carried
  arm_names c type arm env = if nat_lt arm c.named then env ++ One (content_of forms type (first_tag c arm)) ∷ [] else env

  -- the arms from one on
  abbrev pub arms_traced : Case → ℕ → ℕ → List (List Traces) → List Carried → List Trace
  arms_traced c type arm [] env = []
  arms_traced c type arm (g ∷ gs) env = all_traced g (arm_names c type arm env) ∷ arms_traced c type (suc arm) gs env

  -- the arms stand before the line of the union
  abbrev pub case_traced : Case → List (List Traces) → List ℕ → List Carried → Traces
  case_traced c arms ts us env = a_node (graph_lines (arms_traced c (type_of (carried_at us 0)) 0 arms env) ++ carried_at us 0 ∷ []) (ones ts)

  abbrev pub elements_in : List Carried → Carried
  elements_in cs = Many (element_of forms (type_of (carried_at cs 0)))

  abbrev pub generator_values : Source → List Carried → List Carried
  generator_values source.Range cs = Many integer ∷ []
  generator_values source.Elements cs = elements_in cs ∷ []
  generator_values source.Indexed cs = elements_in cs ∷ Many integer ∷ []

  -- a generator on each of its bounds
  abbrev pub generators_traced : List Source → List Carried → Trace
  generators_traced [] cs = no_line []
  generators_traced (s ∷ ss) cs =
      beside (a_node (take_up (width s) cs) (generator_values s (take_up (width s) cs))) (generators_traced ss (drop (width s) cs))

  abbrev pub bound_of : List Source → List Carried → Bound
  bound_of (source.Range ∷ ss) cs = Wired (carried_at cs 0)
  bound_of (s ∷ ss) cs = if is_array forms (type_of (carried_at cs 0)) then Limit (carried_at cs 0) else Wired (One integer)
  bound_of [] cs = Wired (One integer)

  abbrev pub product_traced : Product → List (List Traces) → List Traces → List ℕ → List Carried → Traces
  product_traced p ds gs ts bounds env =
      let g = generators_traced p.sources bounds in
      let b = body_traced ds (clauses_traced (unless_places p.clauses) gs) (env ++ map single g.values) in
      let r = returns_traced (bound_of p.sources bounds) p.clauses (map many b.values) ts in
      a_node (graph_lines (g ∷ b ∷ r ∷ [])) (ones ts)

  abbrev pub kind_traced : TypedKind-F Kind Phrase → Kind
  kind_traced (TypedKind-F.Constant c) = unnamed (λ ts env. constant_traced c ts)
  kind_traced (TypedKind-F.Value x) = is_named x (λ ts env. no_line (carried_at env x ∷ []))
  kind_traced (TypedKind-F.Group gs) = unnamed (λ ts env. all_traced (each gs) env)
  kind_traced (TypedKind-F.Call f gs) = unnamed (λ ts env. andthen (all_traced (each gs) env) (λ cs. a_node (Callee f ∷ cs) (ones ts)))
  kind_traced (TypedKind-F.Apply op gs) = unnamed (λ ts env. andthen (all_traced (each gs) env) (λ cs. a_node (operands op cs) (ones ts)))
  kind_traced (TypedKind-F.Let ds gs) = unnamed (λ ts env. body_traced (map each ds) (each gs) env)
  kind_traced (TypedKind-F.If test arm other) =
      unnamed (λ ts env. if_traced (each test) (each arm) (each other) ts env)
  kind_traced (TypedKind-F.Case c us arms) =
      unnamed (λ ts env. andthen (all_traced (each us) env) (λ cs. case_traced c (map each arms) ts cs env))
  kind_traced (TypedKind-F.Product p bs ds gs) =
      unnamed (λ ts env. andthen (all_traced (each bs) env) (λ cs. product_traced p (map each ds) (each gs) ts cs env))
  kind_traced (TypedKind-F.Initial t fs test ds gs) =
      unnamed (λ ts env. initial_traced t (map each fs) (each test) (map each ds) gs ts env)

  abbrev pub phrase : TypedExpr → Phrase
  phrase = fold-TypedExpr Kind Phrase kind_traced expr_traced

  abbrev pub phrase_kind : TypedKind → Kind
  phrase_kind = fold-TypedKind Kind Phrase kind_traced expr_traced

  -- what the lines of an expression carry
  abbrev pub traces : TypedExpr → Traces
  traces e = (phrase e).traces

  -- an error for each result where another text has the body
  abbrev pub body_lines : Option (List TypedExpr) → List ℕ → List ℕ → List Carried
  body_lines None params results = ones results
  body_lines (Some es) params results = graph_lines (all_traced (map traces es) (ones params) ∷ [])

  -- what the lines of a function carry
  abbrev pub function_lines : Function → List Carried
  function_lines f = body_lines f.body f.params f.results

-- ---- a program

-- what a function carries, for the table of types
abbrev pub body_need : Program → Function → Need
body_need p f = record { line = f.line; enters = with_types p.types p.names p.functions (function_lines p.types f) }

-- all headers, and then what each function carries
abbrev pub traced_needs : Program → List Need
traced_needs p = map (header_need p) p.functions ++ map (body_need p) p.functions

-- what the lines of these functions carry
abbrev pub lines_of : List Form → List Function → List Carried
lines_of forms [] = []
lines_of forms (f ∷ fs) = function_lines forms f ++ lines_of forms fs
