-- Loops.
use Rattle.std.proofs.Common.{◌≡◌, ℕ, zero, suc, ◌+◌, Bool, true, false, List, [], ◌∷◌, ◌++◌, map, drop, length, refl, ap, subst, ◌∙◌}
use Rattle.std.specs.Prelude.{if◌then◌else◌}
use Rattle.flow_value.specs.declared.operation.Scalar1.TheVariants as unary
use Rattle.if1_graph.specs.declared.op.Simple.{Simple}
use Rattle.if1_graph.specs.declared.op.Simple.TheVariants as simple
use Rattle.if1_graph.specs.declared.op.Compound.TheVariants as compound
use Rattle.sisal_tree.specs.declared.expr.Direction.{Direction}
use Rattle.loop_folds.specs.declared.folding.Folding.{Folding}
use Rattle.loop_folds.specs.declared.folding.Folding.TheVariants as folding
use Rattle.type_table.specs.declared.form.Form.{Form}
use Rattle.typed_tree.specs.declared.expr.Product.{Product}
use Rattle.typed_tree.specs.declared.expr.Source.{Source}
use Rattle.typed_tree.specs.declared.expr.Source.TheVariants as source
use Rattle.typed_tree.specs.declared.expr.ClauseForm.{ClauseForm}
use Rattle.typed_tree.specs.declared.program.Function.{Function}
use Rattle.lowering.specs.declared.feed.Feed.TheVariants.{Named}
use Rattle.lowering.specs.declared.feed.Carried.{Carried}
use Rattle.lowering.specs.declared.feed.Wire.{Wire}
use Rattle.lowering.specs.declared.feed.Carried.TheVariants.{One, Many}
use Rattle.lowering.specs.Feeds.{wire, into}
use Rattle.lowering.specs.declared.graph.Action.TheVariants.{Row}
use Rattle.lowering.specs.Graphs as graphs
use Rattle.lowering.specs.Graphs.{Lowering, only, size, new_graph}
use Rattle.lowering.specs.Operations.{Lowers, boolean, integer, one, body_lowered, wire_at, row_lowered}
use Rattle.lowering.specs.Choices.{element_of, type_of, is_array}
use Rattle.lowering.specs.Loops as loops
use Rattle.lowering.specs.Loops.{own_inputs, many, single, types, unless_places, clauses_lowered, reducer_name, grouping_of, span, width, fold_lowered, with_bound, returns_lowered, generator_lowered, generators_lowered, forall_lowered, product_lowered, loop_lowered, loop_kind, loop_name, test_lowered, initial_lowered}
use Rattle.line_types.specs.Traces as told
use Rattle.line_types.specs.Traces.{Trace, Traces, no_line, andthen, a_node, beside, graph_lines, ones, carried_at, take_up, all_traced, defs_traced, body_traced, clauses_traced, bound_lines, fold_lines, returns_traced, Phrase, each, extra, extras, collected, renew, test_traced, row_of_turn, initial_traced, generator_values, generators_traced, product_traced}
use Rattle.line_types.proofs.Same.{append-nil}
use Rattle.line_types.proofs.Wires.{IsFilled, AreFilled, filled-both, filled-drop, filled-at, filled-into, filled-ports, types-both, types-drop, types-at, types-into, types-ports}
use Rattle.line_types.proofs.Made.{Is, To, Makes, AreMade}
use Rattle.line_types.proofs.Made as made
use Rattle.line_types.proofs.Forms.{AllTo, DefsTo}
use Rattle.line_types.proofs.Forms as forms_are

-- ---- lists of wires

filled-take : (k : ℕ) (ws : List Wire) → AreFilled ws → AreFilled (loops.take_up k ws)
filled-take zero ws a = tt
filled-take (suc k) [] a = tt
filled-take (suc k) (w ∷ ws) a = (a.0, filled-take k ws a.1)

types-take : (k : ℕ) (ws : List Wire) → types (loops.take_up k ws) ≡ take_up k (types ws)
types-take zero ws = refl
types-take (suc k) [] = refl
types-take (suc k) (w ∷ ws) = ap (λ l. w.ty ∷ l) (types-take k ws)

-- ---- lower bounds

abbrev wire_of : loops.Bound → Wire
wire_of (loops.Wired w) = w
wire_of (loops.Limit w) = w

abbrev bound_told : loops.Bound → told.Bound
bound_told (loops.Wired w) = told.Wired w.ty
bound_told (loops.Limit w) = told.Limit w.ty

module _ (forms : List Form) (names : List (List ℕ)) (fs : List Function) where
  abbrev Does : Lowering → Trace → Type 0
  Does f t = Makes forms names fs f t

  abbrev Becomes : Lowers → Traces → Type 0
  Becomes g t = To forms names fs g t

  row : (op : Simple) (ws : List Wire) (cs : List Carried) (ts : List ℕ) → AreFilled ws → types ws ≡ cs → Does (row_lowered op ws ts) (a_node cs (ones ts))
  row op ws cs ts a e = made.row-makes forms names fs op ws cs (ones ts) 1 a e

  -- ---- clauses

  pub not-to : (g : Lowers) (t : Traces) → Becomes g t → Becomes (loops.with_not g) (told.with_not t)
  not-to g t h env a =
      made.then-makes forms names fs (g env) (λ ws. row_lowered (simple.One unary.Not) ws (boolean ∷ [])) (t (types env)) (λ cs. a_node cs (One boolean ∷ [])) (h env a)
      (λ ws aw. row (simple.One unary.Not) ws (types ws) (boolean ∷ []) aw refl)

  pub clauses-to : (bs : List Bool) (gs : List Lowers) (ts : List Traces) → AllTo forms names fs gs ts → AllTo forms names fs (clauses_lowered bs gs) (clauses_traced bs ts)
  clauses-to bs [] [] h = tt
  clauses-to bs [] (t ∷ ts) h = absurd h
  clauses-to bs (g ∷ gs) [] h = absurd h
  clauses-to [] (g ∷ gs) (t ∷ ts) h = h
  clauses-to (true ∷ bs) (g ∷ gs) (t ∷ ts) h = (not-to g t h.0, clauses-to bs gs ts h.1)
  clauses-to (false ∷ bs) (g ∷ gs) (t ∷ ts) h = (h.0, clauses-to bs gs ts h.1)

  -- ---- returns

  gather-makes : (b : loops.Bound) (ms : List Wire) (t : ℕ) → IsFilled (wire_of b).feed → AreFilled ms
      → Does (with_bound b (λ w. row_lowered simple.AGather (w ∷ ms) (t ∷ []))) (a_node (bound_lines (bound_told b) ++ types ms) (One t ∷ []))
  gather-makes (loops.Wired w) ms t f a = row simple.AGather (w ∷ ms) (w.ty ∷ types ms) (t ∷ []) (f, a) refl
  gather-makes (loops.Limit w) ms t f a =
      made.then-makes forms names fs (row_lowered simple.ALimL (w ∷ []) (integer ∷ [])) (λ ws. row_lowered simple.AGather (wire_at ws 0 ∷ ms) (t ∷ []))
      (a_node (w.ty ∷ []) (One integer ∷ [])) (λ cs. a_node (carried_at cs 0 ∷ types ms) (One t ∷ [])) (row simple.ALimL (w ∷ []) (w.ty ∷ []) (integer ∷ []) (f, tt) refl)
      (λ ws aw. row simple.AGather (wire_at ws 0 ∷ ms) (carried_at (types ws) 0 ∷ types ms) (t ∷ []) (filled-at ws 0 aw, a) (ap (λ c. c ∷ types ms) (types-at ws 0)))

  reduce-makes : (f : Folding) (d : Direction) (ms : List Wire) (t : ℕ) → AreFilled ms
      → Does (row_lowered (simple.Reduce (grouping_of d)) (wire (Named (reducer_name f)) (One integer) ∷ ms) (t ∷ [])) (a_node (One integer ∷ types ms) (One t ∷ []))
  reduce-makes f d ms t a = row (simple.Reduce (grouping_of d)) (wire (Named (reducer_name f)) (One integer) ∷ ms) (One integer ∷ types ms) (t ∷ []) (tt, a) refl

  fold-makes : (b : loops.Bound) (f : Folding) (d : Direction) (ms : List Wire) (t : ℕ) → IsFilled (wire_of b).feed → AreFilled ms
      → Does (fold_lowered b f d ms t) (a_node (fold_lines (bound_told b) f (types ms)) (One t ∷ []))
  fold-makes b folding.Array d ms t g a = gather-makes b ms t g a
  fold-makes b folding.Stream d ms t g a = row simple.AGather (one ∷ ms) (One integer ∷ types ms) (t ∷ []) (tt, a) refl
  fold-makes b folding.Last d ms t g a = row simple.FinalValue ms (types ms) (t ∷ []) a refl
  fold-makes b folding.Sum d ms t g a = reduce-makes folding.Sum d ms t a
  fold-makes b folding.Product d ms t g a = reduce-makes folding.Product d ms t a
  fold-makes b folding.Least d ms t g a = reduce-makes folding.Least d ms t a
  fold-makes b folding.Greatest d ms t g a = reduce-makes folding.Greatest d ms t a
  fold-makes b folding.CatenateArrays d ms t g a = reduce-makes folding.CatenateArrays d ms t a
  fold-makes b folding.CatenateStreams d ms t g a = reduce-makes folding.CatenateStreams d ms t a

  pub returns-makes : (b : loops.Bound) (cs : List ClauseForm) (ms : List Wire) (ts : List ℕ) → IsFilled (wire_of b).feed → AreFilled ms
      → Does (returns_lowered b cs ms ts) (returns_traced (bound_told b) cs (types ms) ts)
  returns-makes b [] ms ts g a = made.only-makes forms names fs [] [] tt refl
  returns-makes b (c ∷ cs) ms [] g a = made.only-makes forms names fs [] [] tt refl
  returns-makes b (c ∷ cs) ms (t ∷ ts) g a =
      let k = span c.masking in
      let here = fold_lowered b c.folding c.direction (loops.take_up k ms) t in
      let rest = returns_lowered b cs (drop k ms) ts in
      made.beside-makes forms names fs here rest (a_node (fold_lines (bound_told b) c.folding (take_up k (types ms))) (One t ∷ [])) (returns_traced (bound_told b) cs (drop k (types ms)) ts)
      (made.makes-as forms names fs here (a_node (fold_lines (bound_told b) c.folding (types (loops.take_up k ms))) (One t ∷ [])) (a_node (fold_lines (bound_told b) c.folding (take_up k (types ms))) (One t ∷ []))
      (ap (λ l. a_node (fold_lines (bound_told b) c.folding l) (One t ∷ [])) (types-take k ms)) (fold-makes b c.folding c.direction (loops.take_up k ms) t g (filled-take k ms a)))
      (made.makes-as forms names fs rest (returns_traced (bound_told b) cs (types (drop k ms)) ts) (returns_traced (bound_told b) cs (drop k (types ms)) ts)
      (ap (λ l. returns_traced (bound_told b) cs l ts) (types-drop k ms)) (returns-makes b cs (drop k ms) ts g (filled-drop k ms a)))

  -- ---- `for` over generators

  elements-same : (ws : List Wire) → loops.elements_in forms ws ≡ told.elements_in forms (types ws)
  elements-same ws = ap (λ c. Many (element_of forms (type_of c))) (types-at ws 0)

  generator-makes : (s : Source) (ws : List Wire) → AreFilled ws → Does (generator_lowered forms s ws) (a_node (types ws) (generator_values forms s (types ws)))
  generator-makes source.Range ws a = made.row-makes forms names fs simple.RangeGenerate ws (types ws) (Many integer ∷ []) 1 a refl
  generator-makes source.Elements ws a =
      let outs = loops.elements_in forms ws ∷ Many integer ∷ [] in
      made.makes-as forms names fs (generator_lowered forms source.Elements ws) (andthen (a_node (types ws) outs) (λ cs. no_line (take_up 1 cs))) (a_node (types ws) (generator_values forms source.Elements (types ws)))
      (ap (λ c. record { lines = types ws ++ []; values = c ∷ [] }) (elements-same ws) ∙ ap (λ l. a_node l (told.elements_in forms (types ws) ∷ [])) (append-nil (types ws)))
      (made.then-makes forms names fs (graphs.a_node (Row simple.AScatter) ws 1 outs) (λ os. only (loops.take_up 1 os)) (a_node (types ws) outs) (λ cs. no_line (take_up 1 cs))
      (made.row-makes forms names fs simple.AScatter ws (types ws) outs 1 a refl)
      (λ os ao. made.only-makes forms names fs (loops.take_up 1 os) (take_up 1 (types os)) (filled-take 1 os ao) (types-take 1 os)))
  generator-makes source.Indexed ws a =
      made.makes-as forms names fs (generator_lowered forms source.Indexed ws) (a_node (types ws) (loops.elements_in forms ws ∷ Many integer ∷ [])) (a_node (types ws) (generator_values forms source.Indexed (types ws)))
      (ap (λ c. a_node (types ws) (c ∷ Many integer ∷ [])) (elements-same ws)) (made.row-makes forms names fs simple.AScatter ws (types ws) (loops.elements_in forms ws ∷ Many integer ∷ []) 1 a refl)

  generators-make : (ss : List Source) (ws : List Wire) → AreFilled ws → Does (generators_lowered forms ss ws) (generators_traced forms ss (types ws))
  generators-make [] ws a = made.only-makes forms names fs [] [] tt refl
  generators-make (s ∷ ss) ws a =
      let k = width s in
      let here = generator_lowered forms s (loops.take_up k ws) in
      let rest = generators_lowered forms ss (drop k ws) in
      made.beside-makes forms names fs here rest (a_node (take_up k (types ws)) (generator_values forms s (take_up k (types ws)))) (generators_traced forms ss (drop k (types ws)))
      (made.makes-as forms names fs here (a_node (types (loops.take_up k ws)) (generator_values forms s (types (loops.take_up k ws)))) (a_node (take_up k (types ws)) (generator_values forms s (take_up k (types ws))))
      (ap (λ l. a_node l (generator_values forms s l)) (types-take k ws)) (generator-makes s (loops.take_up k ws) (filled-take k ws a)))
      (made.makes-as forms names fs rest (generators_traced forms ss (types (drop k ws))) (generators_traced forms ss (drop k (types ws))) (ap (generators_traced forms ss) (types-drop k ws)) (generators-make ss (drop k ws) (filled-drop k ws a)))

  bound-filled : (ss : List Source) (ws : List Wire) → AreFilled ws → IsFilled (wire_of (loops.bound_of forms ss ws)).feed
  bound-filled [] ws a = tt
  bound-filled (source.Range ∷ ss) ws a = filled-at ws 0 a
  bound-filled (source.Elements ∷ ss) ws a = either (is_array forms (type_of (wire_at ws 0).ty))
    where
      either : (b : Bool) → IsFilled (wire_of (if b then loops.Limit (wire_at ws 0) else loops.Wired one)).feed
      either true = filled-at ws 0 a
      either false = tt
  bound-filled (source.Indexed ∷ ss) ws a = either (is_array forms (type_of (wire_at ws 0).ty))
    where
      either : (b : Bool) → IsFilled (wire_of (if b then loops.Limit (wire_at ws 0) else loops.Wired one)).feed
      either true = filled-at ws 0 a
      either false = tt

  bound-is : (ss : List Source) (ws : List Wire) → bound_told (loops.bound_of forms ss ws) ≡ told.bound_of forms ss (types ws)
  bound-is [] ws = refl
  bound-is (source.Range ∷ ss) ws = ap told.Wired (types-at ws 0)
  bound-is (source.Elements ∷ ss) ws = either (is_array forms (type_of (wire_at ws 0).ty)) ∙ ap (λ c. if is_array forms (type_of c) then told.Limit c else told.Wired (One integer)) (types-at ws 0)
    where
      either : (b : Bool) → bound_told (if b then loops.Limit (wire_at ws 0) else loops.Wired one) ≡ (if b then told.Limit (wire_at ws 0).ty else told.Wired (One integer))
      either true = refl
      either false = refl
  bound-is (source.Indexed ∷ ss) ws = either (is_array forms (type_of (wire_at ws 0).ty)) ∙ ap (λ c. if is_array forms (type_of c) then told.Limit c else told.Wired (One integer)) (types-at ws 0)
    where
      either : (b : Bool) → bound_told (if b then loops.Limit (wire_at ws 0) else loops.Wired one) ≡ (if b then told.Limit (wire_at ws 0).ty else told.Wired (One integer))
      either true = refl
      either false = refl

  -- a loop over generators
  pub forall-makes : (ss : List Source) (cs : List ClauseForm) (body : Lowers) (t : Traces) (ts : List ℕ) (bounds : List Wire) → Becomes body t → AreFilled bounds → (env : List Wire) → AreFilled env
      → Does (forall_lowered forms ss cs body ts bounds env)
      (let g = generators_traced forms ss (types bounds) in
      let b = t (types env ++ map single g.values) in
      a_node (graph_lines (g ∷ b ∷ returns_traced (told.bound_of forms ss (types bounds)) cs (map many b.values) ts ∷ [])) (ones ts))
  forall-makes ss cs body t ts bounds h ab env a n q =
      let outer = map into bounds in
      let outer-filled = filled-into bounds ab in
      let g = new_graph (generators_lowered forms ss outer) q in
      let gt = generators_traced forms ss (types bounds) in
      let gh : Is forms names fs g gt = subst (λ l. Is forms names fs g (generators_traced forms ss l)) (types-into bounds) (generators-make ss outer outer-filled 0 (suc q)) in
      let singles = map single (types g.values) in
      let seen = map into env ++ own_inputs 1 singles in
      let seen-types : types seen ≡ types env ++ map single gt.values =
      types-both (map into env) (own_inputs 1 singles) ∙ (ap (λ l. l ++ types (own_inputs 1 singles)) (types-into env) ∙ ap (λ l. types env ++ l) (types-ports 0 1 singles ∙ ap (map single) gh.values)) in
      let b = new_graph (body seen) (q + size g) in
      let bt = t (types env ++ map single gt.values) in
      let bh : Is forms names fs b bt = subst (λ l. Is forms names fs b (t l)) seen-types (h seen (filled-both (map into env) (own_inputs 1 singles) (filled-into env a) (filled-ports 0 1 singles)) 0 (suc (q + size g))) in
      let multiples = map many (types b.values) in
      let ms = own_inputs (suc (length g.values)) multiples in
      let bound = loops.bound_of forms ss outer in
      let r = new_graph (returns_lowered bound cs ms ts) (q + size g + size b) in
      let rt = returns_traced (told.bound_of forms ss (types bounds)) cs (map many bt.values) ts in
      let told-bound : bound_told bound ≡ told.bound_of forms ss (types bounds) = bound-is ss outer ∙ ap (told.bound_of forms ss) (types-into bounds) in
      let told-ms : types ms ≡ map many bt.values = types-ports 0 (suc (length g.values)) multiples ∙ ap (map many) bh.values in
      let rh : Is forms names fs r rt = subst (λ d. Is forms names fs r (returns_traced d cs (map many bt.values) ts)) told-bound
      (subst (λ l. Is forms names fs r (returns_traced (bound_told bound) cs l ts)) told-ms (returns-makes bound cs ms ts (bound-filled ss outer outer-filled) (filled-ports 0 (suc (length g.values)) multiples) 0 (suc (q + size g + size b)))) in
      made.whole-makes forms names fs compound.ForAll (g ∷ b ∷ r ∷ []) (gt ∷ bt ∷ rt ∷ []) (0 ∷ 1 ∷ 2 ∷ []) (length b.values) ts n q tt (gh, (bh, (rh, tt)))

  pub product-makes : (p : Product) (ds : List (List Lowers)) (us : List (List Traces)) (gs : List Lowers) (vs : List Traces) (ts : List ℕ) (bounds : List Wire)
      → DefsTo forms names fs ds us → AllTo forms names fs gs vs → AreFilled bounds → (env : List Wire) → AreFilled env
      → Does (product_lowered forms p ds gs ts bounds env) (product_traced forms p us vs ts (types bounds) (types env))
  product-makes p ds us gs vs ts bounds d h ab env a =
      forall-makes p.sources p.clauses (body_lowered ds (clauses_lowered (unless_places p.clauses) gs)) (body_traced us (clauses_traced (unless_places p.clauses) vs)) ts bounds
      (forms_are.body-to forms names fs ds (clauses_lowered (unless_places p.clauses) gs) us (clauses_traced (unless_places p.clauses) vs) d (clauses-to (unless_places p.clauses) gs vs h)) ab env a
