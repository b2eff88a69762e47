-- Loops: `for` over generators is a ForAll, `for initial` a LoopA or LoopB (SISAL Language Reference Manual 1.2, loops; IF1 manual
-- M-170, ForAll, LoopA, LoopB).
use Rattle.std.specs.Prelude.{ℕ, zero, suc, ◌+◌, ◌-◌, Bool, true, false, ◌&&◌, nat_le, nat_lt, List, [], ◌∷◌, ◌++◌, map, drop, length, slice_set, Option, Some, None, if◌then◌else◌, codes}
use Rattle.flow_value.specs.declared.operation.Scalar1.TheVariants as unary
use Rattle.if1_graph.specs.declared.op.Simple.TheVariants as simple
use Rattle.if1_graph.specs.declared.op.Grouping.{Grouping}
use Rattle.if1_graph.specs.declared.op.Grouping.TheVariants as grouping
use Rattle.if1_graph.specs.declared.op.Compound.{Compound}
use Rattle.if1_graph.specs.declared.op.Compound.TheVariants as compound
use Rattle.typed_tree.specs.Direction.{Direction}
use Rattle.typed_tree.specs.Direction.TheVariants as direction
use Rattle.typed_tree.specs.Folding.{Folding}
use Rattle.typed_tree.specs.Folding.TheVariants as folding
use Rattle.typed_tree.specs.Masking.{Masking}
use Rattle.typed_tree.specs.Masking.TheVariants as masking
use Rattle.typed_tree.specs.Form.{Form}
use Rattle.typed_tree.specs.declared.expr.Product.{Product}
use Rattle.typed_tree.specs.declared.expr.Turns.{Turns}
use Rattle.typed_tree.specs.declared.expr.Source.{Source}
use Rattle.typed_tree.specs.declared.expr.Source.TheVariants as source
use Rattle.typed_tree.specs.declared.expr.ClauseForm.{ClauseForm}
use Rattle.lowering.specs.declared.feed.Feed.TheVariants.{Named}
use Rattle.lowering.specs.declared.feed.Carried.{Carried}
use Rattle.lowering.specs.declared.feed.Carried.TheVariants.{One, Many}
use Rattle.lowering.specs.declared.feed.Wire.{Wire}
use Rattle.lowering.specs.Feeds.{wire, into}
use Rattle.lowering.specs.declared.graph.Action.TheVariants.{Row}
use Rattle.lowering.specs.Graphs.{Lowering, only, andthen, ports, a_node, whole, new_graph, size}
use Rattle.lowering.specs.Operations.{Lowers, boolean, integer, one, all_lowered, defs_lowered, body_lowered, wire_at, row_lowered}
use Rattle.lowering.specs.Choices.{element_of, is_array, type_of}

-- the own inputs of a part of a compound node from one on
abbrev pub own_inputs : ℕ → List Carried → List Wire
own_inputs port ts = ports 0 port ts

-- the multiple of such values, and one of such a multiple
abbrev pub many : Carried → Carried
many (One t) = Many t
many c = c

abbrev pub single : Carried → Carried
single (Many t) = One t
single c = c

abbrev pub types : List Wire → List Carried
types ws = map (λ w. w.ty) ws

abbrev pub take_up : ℕ → List Wire → List Wire
take_up zero ws = []
take_up (suc n) [] = []
take_up (suc n) (w ∷ ws) = w ∷ take_up n ws

-- ---- clauses: the values of the clauses, each with its mask behind it

abbrev pub with_not : Lowers → Lowers
with_not g env = andthen (g env) (λ ws. row_lowered (simple.One unary.Not) ws (boolean ∷ []))

-- which of the values of clauses are masks of `unless`
abbrev pub mask_places : Masking → List Bool
mask_places masking.All = false ∷ []
mask_places masking.When = false ∷ false ∷ []
mask_places masking.Unless = false ∷ true ∷ []

abbrev pub unless_places : List ClauseForm → List Bool
unless_places [] = []
unless_places (c ∷ cs) = mask_places c.masking ++ unless_places cs

-- a mask of `unless` is the Not of its expression
abbrev pub clauses_lowered : List Bool → List Lowers → List Lowers
clauses_lowered bs [] = []
clauses_lowered [] gs = gs
clauses_lowered (true ∷ bs) (g ∷ gs) = with_not g ∷ clauses_lowered bs gs
clauses_lowered (false ∷ bs) (g ∷ gs) = g ∷ clauses_lowered bs gs

-- ---- returns: a node for each clause, on the multiples of the clauses' values

-- the name of a reduction
abbrev pub reducer_name : Folding → List ℕ
reducer_name folding.Sum = codes "sum"
reducer_name folding.Product = codes "product"
reducer_name folding.Least = codes "least"
reducer_name folding.Greatest = codes "greatest"
reducer_name _ = codes "catenate"

abbrev pub grouping_of : Direction → Grouping
grouping_of direction.Any = grouping.Free
grouping_of direction.Left = grouping.Left
grouping_of direction.Right = grouping.Right
grouping_of direction.Tree = grouping.Tree

-- the multiple of a clause's values, and behind it that of its mask
abbrev pub span : Masking → ℕ
span masking.All = 1
span masking.When = 2
span masking.Unless = 2

-- the lower bound of an `array of`: what fills a port, or the lower bound of the array that fills it
pub data Bound : Type 0 where
  Wired : (w : Wire) → Bound
  Limit : (w : Wire) → Bound

abbrev pub with_bound : Bound → (Wire → Lowering) → Lowering
with_bound (Wired w) f = f w
with_bound (Limit w) f = andthen (row_lowered simple.ALimL (w ∷ []) (integer ∷ [])) (λ ws. f (wire_at ws 0))

abbrev pub fold_lowered : Bound → Folding → Direction → List Wire → ℕ → Lowering
fold_lowered b folding.Array d ms t = with_bound b (λ w. row_lowered simple.AGather (w ∷ ms) (t ∷ []))
fold_lowered b folding.Stream d ms t = row_lowered simple.AGather (one ∷ ms) (t ∷ [])
fold_lowered b folding.Last d ms t = row_lowered simple.FinalValue ms (t ∷ [])
fold_lowered b f d ms t = row_lowered (simple.Reduce (grouping_of d)) (wire (Named (reducer_name f)) (One integer) ∷ ms) (t ∷ [])

abbrev pub returns_lowered : Bound → List ClauseForm → List Wire → List ℕ → Lowering
returns_lowered b [] ms ts = only []
returns_lowered b (c ∷ cs) ms [] = only []
returns_lowered b (c ∷ cs) ms (t ∷ ts) =
    andthen (fold_lowered b c.folding c.direction (take_up (span c.masking) ms) t)
    (λ vs. andthen (returns_lowered b cs (drop (span c.masking) ms) ts) (λ ws. only (vs ++ ws)))

-- ---- `for` over generators

-- how many bounds a generator has
abbrev pub width : Source → ℕ
width source.Range = 2
width source.Elements = 1
width source.Indexed = 1

module _ (forms : List Form) where
  abbrev pub elements_in : List Wire → Carried
  elements_in ws = Many (element_of forms (type_of (wire_at ws 0).ty))

  -- a generator on its bounds: the multiple of its numbers or elements, and where `at` stands that of its indices
  abbrev pub generator_lowered : Source → List Wire → Lowering
  generator_lowered source.Range ws = a_node (Row simple.RangeGenerate) ws 1 (Many integer ∷ [])
  generator_lowered source.Elements ws = andthen (a_node (Row simple.AScatter) ws 1 (elements_in ws ∷ Many integer ∷ [])) (λ os. only (take_up 1 os))
  generator_lowered source.Indexed ws = a_node (Row simple.AScatter) ws 1 (elements_in ws ∷ Many integer ∷ [])

  abbrev pub generators_lowered : List Source → List Wire → Lowering
  generators_lowered [] ws = only []
  generators_lowered (s ∷ ss) ws =
      andthen (generator_lowered s (take_up (width s) ws)) (λ ms. andthen (generators_lowered ss (drop (width s) ws)) (λ ns. only (ms ++ ns)))

  -- the lower bound of an `array of` by the first generator, on the bounds: its first number, that of its array, or 1
  abbrev pub bound_of : List Source → List Wire → Bound
  bound_of (source.Range ∷ ss) ws = Wired (wire_at ws 0)
  bound_of (s ∷ ss) ws = if is_array forms (type_of (wire_at ws 0).ty) then Limit (wire_at ws 0) else Wired one
  bound_of [] ws = Wired one

  -- a loop over generators, by what gives the values of its clauses; the bounds stand outside of it
  abbrev pub forall_lowered : List Source → List ClauseForm → Lowers → List ℕ → List Wire → Lowers
  forall_lowered ss cs body ts bounds env n q =
      let g = new_graph (generators_lowered ss (map into bounds)) q in
      let b = new_graph (body (map into env ++ own_inputs 1 (map single (types g.values)))) (q + size g) in
      let r = new_graph (returns_lowered (bound_of ss (map into bounds)) cs (own_inputs (suc (length g.values)) (map many (types b.values))) ts) (q + size g + size b) in
      whole compound.ForAll (g ∷ b ∷ r ∷ []) (0 ∷ 1 ∷ 2 ∷ []) (length b.values) ts n q

  abbrev pub product_lowered : Product → List (List Lowers) → List Lowers → List ℕ → List Wire → Lowers
  product_lowered p ds gs ts bounds env =
      forall_lowered p.sources p.clauses (body_lowered ds (clauses_lowered (unless_places p.clauses) gs)) ts bounds env

-- ---- `for initial`

-- a phrase: the level of which it is the name, where it is a name, and what it becomes
pub record Phrase : Type 0 where
  pub name : Option ℕ
  pub lowers : Lowers

-- A loop of turns, by what gives its first values, its test and its turn, where the loop values have these types, and the places at
-- which the values of its clauses are collected.
abbrev pub loop_lowered : Compound → Lowers → Lowers → Lowers → List Carried → List ℕ → List ClauseForm → List ℕ → Lowers
loop_lowered c first test turn tys places cs ts env n q =
    let i = new_graph (first (map into env)) q in
    let x = new_graph (test (map into env ++ own_inputs 1 tys)) (q + size i) in
    let b = new_graph (turn (map into env ++ own_inputs 1 tys)) (q + size i + size x) in
    let r = new_graph (returns_lowered (Wired one) cs (map (wire_at (own_inputs 1 (map many (types i.values)))) places) ts) (q + size i + size x + size b) in
    whole c (i ∷ x ∷ b ∷ r ∷ []) (0 ∷ 1 ∷ 2 ∷ 3 ∷ []) 0 ts n q

abbrev pub loop_kind : Bool → Compound
loop_kind is_first = if is_first then compound.LoopB else compound.LoopA

-- the place among so many loop names of a name, where so many names stand around the loop
abbrev pub loop_name : ℕ → ℕ → Option ℕ → Option ℕ
loop_name around count None = None
loop_name around count (Some x) = if nat_le around x && nat_lt x (around + count) then Some (x - around) else None

-- what is collected besides the loop names: each value or mask of a clause that is no loop name
abbrev pub extra : Option ℕ → Lowers → List Lowers
extra None g = g ∷ []
extra (Some x) g = []

abbrev pub extras : (Option ℕ → Option ℕ) → List Bool → List Phrase → List Lowers
extras loop bs [] = []
extras loop (true ∷ bs) (p ∷ ps) = with_not p.lowers ∷ extras loop bs ps
extras loop (false ∷ bs) (p ∷ ps) = extra (loop p.name) p.lowers ++ extras loop bs ps
extras loop [] (p ∷ ps) = []

-- where each value and mask of the clauses is collected, where the next one besides the loop names is collected there
abbrev pub place_of : ℕ → Option ℕ → (ℕ → List ℕ) → List ℕ
place_of next None others = next ∷ others (suc next)
place_of next (Some x) others = x ∷ others next

abbrev pub collected : (Option ℕ → Option ℕ) → ℕ → List Bool → List Phrase → List ℕ
collected loop next bs [] = []
collected loop next (true ∷ bs) (p ∷ ps) = next ∷ collected loop (suc next) bs ps
collected loop next (false ∷ bs) (p ∷ ps) = place_of next (loop p.name) (λ k. collected loop k bs ps)
collected loop next [] (p ∷ ps) = []

-- the loop names after a turn: each is what the turn defines for it, and without that as before
abbrev pub renew_one : Option ℕ → Wire → List Wire → List Wire
renew_one None w l = l
renew_one (Some x) w l = slice_set l x w

abbrev pub renew : List (Option ℕ) → List Wire → List Wire → List Wire
renew [] ws l = l
renew (d ∷ ds) [] l = l
renew (d ∷ ds) (w ∷ ws) l = renew_one d w (renew ds ws l)

-- `until` a test holds is while its Not holds
abbrev pub test_lowered : Bool → List Lowers → Lowers
test_lowered is_until ts env = if is_until then with_not (all_lowered ts) env else all_lowered ts env

-- the loop names, and behind them what is collected besides, which sees them behind the names around
abbrev pub row_of_turn : List Lowers → List Wire → List Wire → Lowering
row_of_turn es around loop = andthen (all_lowered es (around ++ loop)) (λ ws. only (loop ++ ws))

abbrev pub initial_lowered : Turns → List (List Lowers) → List Lowers → List (List Lowers) → List Phrase → List ℕ → Lowers
initial_lowered t fs test ds ps ts env n q =
    let around = map into env in
    let names = new_graph (andthen (defs_lowered fs around) (λ all. only (drop (length env) all))) q in
    let loop = loop_name (length env) (length names.values) in
    let bs = unless_places t.clauses in
    let es = extras loop bs ps in
    loop_lowered (loop_kind t.is_first)
    (λ around. andthen (defs_lowered fs around) (λ all. row_of_turn es around (drop (length env) all)))
    (test_lowered t.is_until test)
    (λ inside. andthen (defs_lowered ds inside) (λ all. row_of_turn es (take_up (length env) inside) (renew t.renewed (drop (length inside) all) (drop (length env) inside))))
    (types names.values) (collected loop (length names.values) bs ps) t.clauses ts env n q
