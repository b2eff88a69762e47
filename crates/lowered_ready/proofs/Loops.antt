-- Each form of loop keeps the order of its parts.
use Rattle.std.proofs.Common.{ℕ, zero, suc, ◌+◌, ◌≤◌, Bool, true, false, List, [], ◌∷◌, ◌++◌, map, length, drop, Option, Some, None, arith}
use Rattle.std.specs.Prelude.{if◌then◌else◌}
use Rattle.flow_value.specs.declared.operation.Scalar1.TheVariants as unary
use Rattle.if1_graph.specs.declared.op.Simple.TheVariants as simple
use Rattle.if1_graph.specs.declared.op.Compound.{Compound}
use Rattle.if1_graph.specs.declared.op.Compound.TheVariants as compound
use Rattle.sisal_tree.specs.declared.expr.Direction.{Direction}
use Rattle.loop_folds.specs.declared.folding.Folding.{Folding}
use Rattle.loop_folds.specs.declared.folding.Folding.TheVariants as folding
use Rattle.type_table.specs.declared.form.Form.{Form}
use Rattle.typed_tree.specs.declared.expr.Product.{Product}
use Rattle.typed_tree.specs.declared.expr.Turns.{Turns}
use Rattle.typed_tree.specs.declared.expr.Source.{Source}
use Rattle.typed_tree.specs.declared.expr.Source.TheVariants as source
use Rattle.typed_tree.specs.declared.expr.ClauseForm.{ClauseForm}
use Rattle.lowering.specs.declared.feed.Feed.TheVariants.{Named}
use Rattle.lowering.specs.declared.feed.Carried.{Carried}
use Rattle.lowering.specs.declared.feed.Carried.TheVariants.{One, Many}
use Rattle.lowering.specs.declared.feed.Wire.{Wire}
use Rattle.lowering.specs.Feeds.{wire, into}
use Rattle.lowering.specs.declared.graph.Action.TheVariants.{Row}
use Rattle.lowering.specs.Graphs.{only, andthen, a_node, size, new_graph}
use Rattle.lowering.specs.Operations.{Lowers, boolean, integer, one, all_lowered, defs_lowered, body_lowered, wire_at, row_lowered}
use Rattle.lowering.specs.Choices.{is_array, type_of}
use Rattle.lowering.specs.Loops.{own_inputs, many, single, types, take_up, with_not, unless_places, clauses_lowered, reducer_name, grouping_of, span, Bound, Wired, Limit, fold_lowered, returns_lowered, width, elements_in, generator_lowered, generators_lowered, bound_of, product_lowered, Phrase, loop_lowered, loop_kind, loop_name, extra, extras, collected, renew, renew_one, test_lowered, row_of_turn, initial_lowered}
use Rattle.lowering.specs.Phrases.{each}
use Rattle.lowered_ready.proofs.Before.{IsBefore, AreBefore, Orders}
use Rattle.lowered_ready.proofs.Before as before
use Rattle.lowered_ready.proofs.OrderForms.{OrdersTo, EachOrder, ListsOrder, at-before, drop-before, set-before, all-order, defs-order, body-order, row-orders}

pub take-before : (ns : List ℕ) (k : ℕ) (ws : List Wire) → AreBefore ns ws → AreBefore ns (take_up k ws)
take-before ns zero ws h = tt
take-before ns (suc k) [] h = tt
take-before ns (suc k) (w ∷ ws) h = (h.0, take-before ns k ws h.1)

own-before : (ns : List ℕ) (k port : ℕ) (ts : List Carried) → AreBefore (k ∷ ns) (own_inputs port ts)
own-before ns k port ts = before.ports-before ns k 0 port ts (omega arith)

-- ---- clauses

not-orders : (g : Lowers) → OrdersTo g → OrdersTo (with_not g)
not-orders g h ns k env a = before.then-orders ns k (g env) (λ ws. row_lowered (simple.One unary.Not) ws (boolean ∷ [])) (h ns k env a) (λ j l ws w. row-orders ns j (simple.One unary.Not) ws (boolean ∷ []) w)

clauses-order : (bs : List Bool) (gs : List Lowers) → EachOrder gs → EachOrder (clauses_lowered bs gs)
clauses-order bs [] h = tt
clauses-order [] (g ∷ gs) h = h
clauses-order (true ∷ bs) (g ∷ gs) h = (not-orders g h.0, clauses-order bs gs h.1)
clauses-order (false ∷ bs) (g ∷ gs) h = (h.0, clauses-order bs gs h.1)

abbrev IsBoundBefore : List ℕ → Bound → Type 0
IsBoundBefore ns (Wired w) = IsBefore ns w.feed
IsBoundBefore ns (Limit w) = IsBefore ns w.feed

bound-later : (ns : List ℕ) (i j : ℕ) → i ≤ j → (b : Bound) → IsBoundBefore (i ∷ ns) b → IsBoundBefore (j ∷ ns) b
bound-later ns i j l (Wired w) h = (before.later ns i j l (w ∷ []) (h, tt)).0
bound-later ns i j l (Limit w) h = (before.later ns i j l (w ∷ []) (h, tt)).0

bound-orders : (ns : List ℕ) (k : ℕ) (b : Bound) (ms : List Wire) (t : ℕ) (d : Direction) → IsBoundBefore (k ∷ ns) b → AreBefore (k ∷ ns) ms → Orders ns k (fold_lowered b folding.Array d ms t)
bound-orders ns k (Wired w) ms t d b h = row-orders ns k simple.AGather (w ∷ ms) (t ∷ []) (b, h)
bound-orders ns k (Limit w) ms t d b h =
    before.then-orders ns k (row_lowered simple.ALimL (w ∷ []) (integer ∷ [])) (λ ws. row_lowered simple.AGather (wire_at ws 0 ∷ ms) (t ∷ [])) (row-orders ns k simple.ALimL (w ∷ []) (integer ∷ []) (b, tt))
    (λ j l ws v. row-orders ns j simple.AGather (wire_at ws 0 ∷ ms) (t ∷ []) (at-before (j ∷ ns) ws 0 v, before.later ns k j l ms h))

fold-orders : (ns : List ℕ) (k : ℕ) (b : Bound) (f : Folding) (d : Direction) (ms : List Wire) (t : ℕ) → IsBoundBefore (k ∷ ns) b → AreBefore (k ∷ ns) ms → Orders ns k (fold_lowered b f d ms t)
fold-orders ns k b folding.Array d ms t c h = bound-orders ns k b ms t d c h
fold-orders ns k b folding.Stream d ms t c h = row-orders ns k simple.AGather (one ∷ ms) (t ∷ []) (tt, h)
fold-orders ns k b folding.Last d ms t c h = row-orders ns k simple.FinalValue ms (t ∷ []) h
fold-orders ns k b folding.Sum d ms t c h = row-orders ns k (simple.Reduce (grouping_of d)) (wire (Named (reducer_name folding.Sum)) (One integer) ∷ ms) (t ∷ []) (tt, h)
fold-orders ns k b folding.Product d ms t c h = row-orders ns k (simple.Reduce (grouping_of d)) (wire (Named (reducer_name folding.Product)) (One integer) ∷ ms) (t ∷ []) (tt, h)
fold-orders ns k b folding.Least d ms t c h = row-orders ns k (simple.Reduce (grouping_of d)) (wire (Named (reducer_name folding.Least)) (One integer) ∷ ms) (t ∷ []) (tt, h)
fold-orders ns k b folding.Greatest d ms t c h = row-orders ns k (simple.Reduce (grouping_of d)) (wire (Named (reducer_name folding.Greatest)) (One integer) ∷ ms) (t ∷ []) (tt, h)
fold-orders ns k b folding.CatenateArrays d ms t c h = row-orders ns k (simple.Reduce (grouping_of d)) (wire (Named (reducer_name folding.CatenateArrays)) (One integer) ∷ ms) (t ∷ []) (tt, h)
fold-orders ns k b folding.CatenateStreams d ms t c h = row-orders ns k (simple.Reduce (grouping_of d)) (wire (Named (reducer_name folding.CatenateStreams)) (One integer) ∷ ms) (t ∷ []) (tt, h)

returns-order : (ns : List ℕ) (k : ℕ) (b : Bound) (cs : List ClauseForm) (ms : List Wire) (ts : List ℕ) → IsBoundBefore (k ∷ ns) b → AreBefore (k ∷ ns) ms → Orders ns k (returns_lowered b cs ms ts)
returns-order ns k b [] ms ts c h = before.only-orders ns k [] tt
returns-order ns k b (x ∷ cs) ms [] c h = before.only-orders ns k [] tt
returns-order ns k b (x ∷ cs) ms (t ∷ ts) c h =
    before.then-orders ns k (fold_lowered b x.folding x.direction (take_up (span x.masking) ms) t) (λ vs. andthen (returns_lowered b cs (drop (span x.masking) ms) ts) (λ ws. only (vs ++ ws)))
    (fold-orders ns k b x.folding x.direction (take_up (span x.masking) ms) t c (take-before (k ∷ ns) (span x.masking) ms h))
    (λ j l vs v. before.then-orders ns j (returns_lowered b cs (drop (span x.masking) ms) ts) (λ ws. only (vs ++ ws))
    (returns-order ns j b cs (drop (span x.masking) ms) ts (bound-later ns k j l b c) (before.later ns k j l (drop (span x.masking) ms) (drop-before (k ∷ ns) (span x.masking) ms h)))
    (λ i m ws w. before.only-orders ns i (vs ++ ws) (before.both (i ∷ ns) vs ws (before.later ns j i m vs v) w)))

-- ---- generators

module _ (forms : List Form) where
  scatters : (ns : List ℕ) (k : ℕ) (ws : List Wire) → AreBefore (k ∷ ns) ws → Orders ns k (a_node (Row simple.AScatter) ws 1 (elements_in forms ws ∷ Many integer ∷ []))
  scatters ns k ws h = before.node-orders ns k (Row simple.AScatter) ws 1 (elements_in forms ws ∷ Many integer ∷ []) h

  generator-orders : (ns : List ℕ) (k : ℕ) (s : Source) (ws : List Wire) → AreBefore (k ∷ ns) ws → Orders ns k (generator_lowered forms s ws)
  generator-orders ns k source.Range ws h = before.node-orders ns k (Row simple.RangeGenerate) ws 1 (Many integer ∷ []) h
  generator-orders ns k source.Elements ws h =
      before.then-orders ns k (a_node (Row simple.AScatter) ws 1 (elements_in forms ws ∷ Many integer ∷ [])) (λ os. only (take_up 1 os)) (scatters ns k ws h)
      (λ j l os o. before.only-orders ns j (take_up 1 os) (take-before (j ∷ ns) 1 os o))
  generator-orders ns k source.Indexed ws h = scatters ns k ws h

  generators-order : (ns : List ℕ) (k : ℕ) (ss : List Source) (ws : List Wire) → AreBefore (k ∷ ns) ws → Orders ns k (generators_lowered forms ss ws)
  generators-order ns k [] ws h = before.only-orders ns k [] tt
  generators-order ns k (s ∷ ss) ws h =
      before.then-orders ns k (generator_lowered forms s (take_up (width s) ws)) (λ ms. andthen (generators_lowered forms ss (drop (width s) ws)) (λ os. only (ms ++ os)))
      (generator-orders ns k s (take_up (width s) ws) (take-before (k ∷ ns) (width s) ws h))
      (λ j l ms m. before.then-orders ns j (generators_lowered forms ss (drop (width s) ws)) (λ os. only (ms ++ os))
      (generators-order ns j ss (drop (width s) ws) (before.later ns k j l (drop (width s) ws) (drop-before (k ∷ ns) (width s) ws h)))
      (λ i e os o. before.only-orders ns i (ms ++ os) (before.both (i ∷ ns) ms os (before.later ns j i e ms m) o)))

  bound-before : (ns : List ℕ) (ss : List Source) (ws : List Wire) → AreBefore ns ws → IsBoundBefore ns (bound_of forms ss ws)
  bound-before ns [] ws h = tt
  bound-before ns (source.Range ∷ ss) ws h = at-before ns ws 0 h
  bound-before ns (source.Elements ∷ ss) ws h = either (is_array forms (type_of (wire_at ws 0).ty))
    where
      either : (b : Bool) → IsBoundBefore ns (if b then Limit (wire_at ws 0) else Wired one)
      either true = at-before ns ws 0 h
      either false = tt
  bound-before ns (source.Indexed ∷ ss) ws h = either (is_array forms (type_of (wire_at ws 0).ty))
    where
      either : (b : Bool) → IsBoundBefore ns (if b then Limit (wire_at ws 0) else Wired one)
      either true = at-before ns ws 0 h
      either false = tt

  pub product-orders : (x : Product) (ds : List (List Lowers)) (gs : List Lowers) (ts : List ℕ) → ListsOrder ds → EachOrder gs
      → (ns : List ℕ) (k : ℕ) (bounds env : List Wire) → AreBefore (k ∷ ns) bounds → AreBefore (k ∷ ns) env → Orders ns k (product_lowered forms x ds gs ts bounds env)
  product-orders x ds gs ts d h ns k bounds env b a n q l =
      let outer = before.all-into (n ∷ ns) 0 bounds (before.later ns k n l bounds b) in
      let around = before.all-into (n ∷ ns) 0 env (before.later ns k n l env a) in
      let body = body_lowered ds (clauses_lowered (unless_places x.clauses) gs) in
      let g = new_graph (generators_lowered forms x.sources (map into bounds)) q in
      let own = own_inputs 1 (map single (types g.values)) in
      let r = new_graph (body (map into env ++ own)) (q + size g) in
      let ms = own_inputs (suc (length g.values)) (map many (types r.values)) in
      let at = bound_of forms x.sources (map into bounds) in
      let f = new_graph (returns_lowered at x.clauses ms ts) (q + size g + size r) in
      before.whole-ordered ns n q compound.ForAll (g ∷ r ∷ f ∷ []) (0 ∷ 1 ∷ 2 ∷ []) (length r.values) ts (
        generators-order (n ∷ ns) 0 x.sources (map into bounds) outer 0 (suc q) (omega arith),
        (
          body-order ds (clauses_lowered (unless_places x.clauses) gs) d (clauses-order (unless_places x.clauses) gs h) (n ∷ ns) 0 (map into env ++ own)
              (before.both (0 ∷ n ∷ ns) (map into env) own around (own-before (n ∷ ns) 0 1 (map single (types g.values)))) 0 (suc (q + size g)) (omega arith),
          (
            returns-order (n ∷ ns) 0 at x.clauses ms ts (bound-before (0 ∷ n ∷ ns) x.sources (map into bounds) outer) (own-before (n ∷ ns) 0 (suc (length g.values)) (map many (types r.values))) 0 (suc (q + size g + size r)) (omega arith),
            tt,
          ),
        ),
      )

-- ---- what loops collect

extra-orders : (o : Option ℕ) (g : Lowers) (gs : List Lowers) → OrdersTo g → EachOrder gs → EachOrder (extra o g ++ gs)
extra-orders None g gs h r = (h, r)
extra-orders (Some x) g gs h r = r

extras-order : (loop : Option ℕ → Option ℕ) (bs : List Bool) (ps : List Phrase) → EachOrder (each ps) → EachOrder (extras loop bs ps)
extras-order loop bs [] h = tt
extras-order loop [] (x ∷ ps) h = tt
extras-order loop (true ∷ bs) (x ∷ ps) h = (not-orders x.lowers h.0, extras-order loop bs ps h.1)
extras-order loop (false ∷ bs) (x ∷ ps) h = extra-orders (loop x.name) x.lowers (extras loop bs ps) h.0 (extras-order loop bs ps h.1)

turn-orders : (es : List Lowers) → EachOrder es → (ns : List ℕ) (k : ℕ) (around loop : List Wire) → AreBefore (k ∷ ns) around → AreBefore (k ∷ ns) loop → Orders ns k (row_of_turn es around loop)
turn-orders es h ns k around loop a b =
    before.then-orders ns k (all_lowered es (around ++ loop)) (λ ws. only (loop ++ ws)) (all-order es h ns k (around ++ loop) (before.both (k ∷ ns) around loop a b))
    (λ j l ws w. before.only-orders ns j (loop ++ ws) (before.both (j ∷ ns) loop ws (before.later ns k j l loop b) w))

test-orders : (u : Bool) (ts : List Lowers) → EachOrder ts → OrdersTo (test_lowered u ts)
test-orders true ts h = not-orders (all_lowered ts) (all-order ts h)
test-orders false ts h = all-order ts h

renew-before : (ns : List ℕ) (ds : List (Option ℕ)) (ws l : List Wire) → AreBefore ns ws → AreBefore ns l → AreBefore ns (renew ds ws l)
renew-before ns [] ws l a b = b
renew-before ns (d ∷ ds) [] l a b = b
renew-before ns (d ∷ ds) (w ∷ ws) l a b = by d (renew-before ns ds ws l a.1 b)
  where
    by : (d : Option ℕ) → AreBefore ns (renew ds ws l) → AreBefore ns (renew_one d w (renew ds ws l))
    by None r = r
    by (Some x) r = set-before ns (renew ds ws l) x w r a.0

collected-before : (ns : List ℕ) (own : List Wire) (places : List ℕ) → AreBefore ns own → AreBefore ns (map (wire_at own) places)
collected-before ns own [] h = tt
collected-before ns own (x ∷ xs) h = (at-before ns own x h, collected-before ns own xs h)

-- ---- `for initial`

loop-orders : (c : Compound) (first test turn : Lowers) (tys : List Carried) (places : List ℕ) (cs : List ClauseForm) (ts : List ℕ)
    → OrdersTo first → OrdersTo test → OrdersTo turn → OrdersTo (loop_lowered c first test turn tys places cs ts)
loop-orders c first test turn tys places cs ts hi hx hb ns k env a n q l =
    let around = before.all-into (n ∷ ns) 0 env (before.later ns k n l env a) in
    let seen = map into env ++ own_inputs 1 tys in
    let i = new_graph (first (map into env)) q in
    let x = new_graph (test seen) (q + size i) in
    let b = new_graph (turn seen) (q + size i + size x) in
    let own = own_inputs 1 (map many (types i.values)) in
    let ms = map (wire_at own) places in
    let r = new_graph (returns_lowered (Wired one) cs ms ts) (q + size i + size x + size b) in
    let inner = before.both (0 ∷ n ∷ ns) (map into env) (own_inputs 1 tys) around (own-before (n ∷ ns) 0 1 tys) in
    before.whole-ordered ns n q c (i ∷ x ∷ b ∷ r ∷ []) (0 ∷ 1 ∷ 2 ∷ 3 ∷ []) 0 ts (
      hi (n ∷ ns) 0 (map into env) around 0 (suc q) (omega arith),
      (
        hx (n ∷ ns) 0 seen inner 0 (suc (q + size i)) (omega arith),
        (
          hb (n ∷ ns) 0 seen inner 0 (suc (q + size i + size x)) (omega arith),
          (returns-order (n ∷ ns) 0 (Wired one) cs ms ts tt (collected-before (0 ∷ n ∷ ns) own places (own-before (n ∷ ns) 0 1 (map many (types i.values)))) 0 (suc (q + size i + size x + size b)) (omega arith), tt),
        ),
      ),
    )

pub initial-orders : (t : Turns) (fs : List (List Lowers)) (test : List Lowers) (ds : List (List Lowers)) (ps : List Phrase) (ts : List ℕ)
    → ListsOrder fs → EachOrder test → ListsOrder ds → EachOrder (each ps) → OrdersTo (initial_lowered t fs test ds ps ts)
initial-orders t fs test ds ps ts f x d g ns k env a n q l =
    let names = new_graph (andthen (defs_lowered fs (map into env)) (λ all. only (drop (length env) all))) q in
    let loop = loop_name (length env) (length names.values) in
    let bs = unless_places t.clauses in
    let es = extras loop bs ps in
    let eh = extras-order loop bs ps g in
    loop-orders (loop_kind t.is_first)
    (λ around. andthen (defs_lowered fs around) (λ all. row_of_turn es around (drop (length env) all)))
    (test_lowered t.is_until test)
    (λ inside. andthen (defs_lowered ds inside) (λ all. row_of_turn es (take_up (length env) inside) (renew t.renewed (drop (length inside) all) (drop (length env) inside))))
    (types names.values) (collected loop (length names.values) bs ps) t.clauses ts
    (λ ms i e b. before.then-orders ms i (defs_lowered fs e) (λ all. row_of_turn es e (drop (length env) all)) (defs-order fs f ms i e b)
    (λ j m all c. turn-orders es eh ms j e (drop (length env) all) (before.later ms i j m e b) (drop-before (j ∷ ms) (length env) all c)))
    (test-orders t.is_until test x)
    (λ ms i e b. before.then-orders ms i (defs_lowered ds e) (λ all. row_of_turn es (take_up (length env) e) (renew t.renewed (drop (length e) all) (drop (length env) e))) (defs-order ds d ms i e b)
    (λ j m all c.
    let seen = before.later ms i j m e b in
    turn-orders es eh ms j (take_up (length env) e) (renew t.renewed (drop (length e) all) (drop (length env) e)) (take-before (j ∷ ms) (length env) e seen)
    (renew-before (j ∷ ms) t.renewed (drop (length e) all) (drop (length env) e) (drop-before (j ∷ ms) (length e) all c) (drop-before (j ∷ ms) (length env) e seen))))
    ns k env a n q l
