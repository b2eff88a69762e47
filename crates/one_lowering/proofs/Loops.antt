-- Loops over generators.
use Rattle.std.proofs.Common.{◌≡◌, ℕ, zero, suc, ◌+◌, Bool, true, false, List, [], ◌∷◌, ◌++◌, map, drop, length, refl, sym, ap, ◌∙◌}
use Rattle.std.specs.Prelude.{if◌then◌else◌}
use Rattle.std.proofs.lemmas.List.{map-append, length-map, drop-map}
use Rattle.flow_value.specs.declared.operation.Scalar1.TheVariants as unary
use Rattle.if1_graph.specs.declared.op.Simple.TheVariants as simple
use Rattle.if1_graph.specs.declared.op.Compound.TheVariants as compound
use Rattle.sisal_tree.specs.declared.expr.Direction.{Direction}
use Rattle.loop_folds.specs.declared.folding.Folding.{Folding}
use Rattle.loop_folds.specs.declared.folding.Folding.TheVariants as folding
use Rattle.type_table.specs.declared.form.Form.{Form}
use Rattle.typed_tree.specs.declared.expr.Product.{Product}
use Rattle.typed_tree.specs.declared.expr.Source.{Source}
use Rattle.typed_tree.specs.declared.expr.Source.TheVariants as source
use Rattle.typed_tree.specs.declared.expr.ClauseForm.{ClauseForm}
use Rattle.lowering.specs.declared.feed.Feed.TheVariants.{Named}
use Rattle.lowering.specs.declared.feed.Carried.{Carried}
use Rattle.lowering.specs.declared.feed.Wire.{Wire}
use Rattle.lowering.specs.declared.feed.Carried.TheVariants.{One, Many, Callee}
use Rattle.lowering.specs.Feeds.{wire, into}
use Rattle.lowering.specs.declared.graph.Action.TheVariants.{Row}
use Rattle.lowering.specs.declared.graph.Lowered.{Lowered}
use Rattle.lowering.specs.Graphs.{only, a_node, size, whole, new_graph}
use Rattle.lowering.specs.Operations.{Lowers, boolean, integer, one, body_lowered, wire_at, row_lowered}
use Rattle.lowering.specs.Choices.{element_of, type_of, is_array}
use Rattle.lowering.specs.Loops.{own_inputs, many, single, types, take_up, with_not, unless_places, clauses_lowered, reducer_name, grouping_of, span, Bound, Wired, Limit, with_bound, fold_lowered, returns_lowered, width, elements_in, generator_lowered, generators_lowered, bound_of, forall_lowered, product_lowered}
use Rattle.one_lowering.specs.Moves.{Moves}
use Rattle.one_lowering.proofs.Moved.{moved, moved_wire, wires, lines, moved_lowered, into-moved, ports-moved, size-moved, Makes, then-moved, only-moved, beside-moved, node-moved, whole-moved}
use Rattle.one_lowering.proofs.Tables.{element-moved, array-moved, type-moved}
use Rattle.one_lowering.proofs.Forms.{Becomes, AllTo, DefsTo}
use Rattle.one_lowering.proofs.Forms as forms_are

module _ (to : ℕ → ℕ) where
  -- ---- lists of wires

  pub take-moved : (k : ℕ) (ws : List Wire) → take_up k (wires to ws) ≡ wires to (take_up k ws)
  take-moved zero ws = refl
  take-moved (suc k) [] = refl
  take-moved (suc k) (w ∷ ws) = ap (λ l. moved_wire to w ∷ l) (take-moved k ws)

  pub types-moved : (ws : List Wire) → types (wires to ws) ≡ lines to (types ws)
  types-moved [] = refl
  types-moved (w ∷ ws) = ap (λ l. moved to w.ty ∷ l) (types-moved ws)

  many-moved : (c : Carried) → many (moved to c) ≡ moved to (many c)
  many-moved (One t) = refl
  many-moved (Many t) = refl
  many-moved (Callee f) = refl

  single-moved : (c : Carried) → single (moved to c) ≡ moved to (single c)
  single-moved (One t) = refl
  single-moved (Many t) = refl
  single-moved (Callee f) = refl

  pub manies-moved : (cs : List Carried) → map many (lines to cs) ≡ lines to (map many cs)
  manies-moved [] = refl
  manies-moved (c ∷ cs) = ap (λ x. x ∷ map many (lines to cs)) (many-moved c) ∙ ap (λ l. moved to (many c) ∷ l) (manies-moved cs)

  singles-moved : (cs : List Carried) → map single (lines to cs) ≡ lines to (map single cs)
  singles-moved [] = refl
  singles-moved (c ∷ cs) = ap (λ x. x ∷ map single (lines to cs)) (single-moved c) ∙ ap (λ l. moved to (single c) ∷ l) (singles-moved cs)

  -- the own inputs of a part for values that stand elsewhere
  pub inputs-of-many : (port : ℕ) (ws : List Wire) → own_inputs port (map many (types (wires to ws))) ≡ wires to (own_inputs port (map many (types ws)))
  inputs-of-many port ws = ap (λ l. own_inputs port (map many l)) (types-moved ws) ∙ ap (own_inputs port) (manies-moved (types ws)) ∙ ports-moved to 0 port (map many (types ws))

  pub inputs-of-single : (port : ℕ) (ws : List Wire) → own_inputs port (map single (types (wires to ws))) ≡ wires to (own_inputs port (map single (types ws)))
  inputs-of-single port ws = ap (λ l. own_inputs port (map single l)) (types-moved ws) ∙ ap (own_inputs port) (singles-moved (types ws)) ∙ ports-moved to 0 port (map single (types ws))

  abbrev pub moved_bound : Bound → Bound
  moved_bound (Wired w) = Wired (moved_wire to w)
  moved_bound (Limit w) = Limit (moved_wire to w)

module _ (to : ℕ → ℕ) (forms others : List Form) (moves : Moves to forms others) where
  -- ---- clauses

  pub not-to : (g h : Lowers) → Becomes to forms others moves g h → Becomes to forms others moves (with_not g) (with_not h)
  not-to g h r env =
      then-moved to (g env) (h (wires to env)) (λ ws. row_lowered (simple.One unary.Not) ws (boolean ∷ [])) (λ ws. row_lowered (simple.One unary.Not) ws (boolean ∷ [])) (r env)
      (λ ws. forms_are.row-as to forms others moves (simple.One unary.Not) ws (wires to ws) (boolean ∷ []) (boolean ∷ []) refl (ap (λ t. t ∷ []) (sym moves.booleans)))

  pub clauses-to : (bs : List Bool) (gs hs : List Lowers) → AllTo to forms others moves gs hs → AllTo to forms others moves (clauses_lowered bs gs) (clauses_lowered bs hs)
  clauses-to bs [] [] r = tt
  clauses-to bs [] (h ∷ hs) r = absurd r
  clauses-to bs (g ∷ gs) [] r = absurd r
  clauses-to [] (g ∷ gs) (h ∷ hs) r = r
  clauses-to (true ∷ bs) (g ∷ gs) (h ∷ hs) r = (not-to g h r.0, clauses-to bs gs hs r.1)
  clauses-to (false ∷ bs) (g ∷ gs) (h ∷ hs) r = (r.0, clauses-to bs gs hs r.1)

  -- ---- returns

  gather-to : (b : Bound) (ms : List Wire) (t : ℕ) → Makes to (with_bound b (λ w. row_lowered simple.AGather (w ∷ ms) (t ∷ []))) (with_bound (moved_bound to b) (λ w. row_lowered simple.AGather (w ∷ wires to ms) (to t ∷ [])))
  gather-to (Wired w) ms t = forms_are.row-moved to forms others moves simple.AGather (w ∷ ms) (t ∷ [])
  gather-to (Limit w) ms t =
      then-moved to (row_lowered simple.ALimL (w ∷ []) (integer ∷ [])) (row_lowered simple.ALimL (moved_wire to w ∷ []) (integer ∷ []))
      (λ ws. row_lowered simple.AGather (wire_at ws 0 ∷ ms) (t ∷ [])) (λ ws. row_lowered simple.AGather (wire_at ws 0 ∷ wires to ms) (to t ∷ []))
      (forms_are.row-as to forms others moves simple.ALimL (w ∷ []) (moved_wire to w ∷ []) (integer ∷ []) (integer ∷ []) refl (ap (λ t. t ∷ []) (sym moves.integers)))
      (λ ws. forms_are.row-as to forms others moves simple.AGather (wire_at ws 0 ∷ ms) (wire_at (wires to ws) 0 ∷ wires to ms) (t ∷ []) (to t ∷ []) (ap (λ v. v ∷ wires to ms) (forms_are.at-moved to forms others moves ws 0)) refl)

  reduce-to : (f : Folding) (d : Direction) (ms : List Wire) (t : ℕ)
      → Makes to (row_lowered (simple.Reduce (grouping_of d)) (wire (Named (reducer_name f)) (One integer) ∷ ms) (t ∷ [])) (row_lowered (simple.Reduce (grouping_of d)) (wire (Named (reducer_name f)) (One integer) ∷ wires to ms) (to t ∷ []))
  reduce-to f d ms t =
      forms_are.row-as to forms others moves (simple.Reduce (grouping_of d)) (wire (Named (reducer_name f)) (One integer) ∷ ms) (wire (Named (reducer_name f)) (One integer) ∷ wires to ms) (t ∷ []) (to t ∷ [])
      (ap (λ i. wire (Named (reducer_name f)) (One i) ∷ wires to ms) (sym moves.integers)) refl

  fold-to : (b : Bound) (f : Folding) (d : Direction) (ms : List Wire) (t : ℕ) → Makes to (fold_lowered b f d ms t) (fold_lowered (moved_bound to b) f d (wires to ms) (to t))
  fold-to b folding.Array d ms t = gather-to b ms t
  fold-to b folding.Stream d ms t = forms_are.row-as to forms others moves simple.AGather (one ∷ ms) (one ∷ wires to ms) (t ∷ []) (to t ∷ []) (forms_are.with-one to forms others moves ms) refl
  fold-to b folding.Last d ms t = forms_are.row-moved to forms others moves simple.FinalValue ms (t ∷ [])
  fold-to b folding.Sum d ms t = reduce-to folding.Sum d ms t
  fold-to b folding.Product d ms t = reduce-to folding.Product d ms t
  fold-to b folding.Least d ms t = reduce-to folding.Least d ms t
  fold-to b folding.Greatest d ms t = reduce-to folding.Greatest d ms t
  fold-to b folding.CatenateArrays d ms t = reduce-to folding.CatenateArrays d ms t
  fold-to b folding.CatenateStreams d ms t = reduce-to folding.CatenateStreams d ms t

  pub returns-to : (b : Bound) (cs : List ClauseForm) (ms : List Wire) (ts : List ℕ) → Makes to (returns_lowered b cs ms ts) (returns_lowered (moved_bound to b) cs (wires to ms) (map to ts))
  returns-to b [] ms ts = only-moved to []
  returns-to b (c ∷ cs) ms [] = only-moved to []
  returns-to b (c ∷ cs) ms (t ∷ ts) =
      let k = span c.masking in
      beside-moved to (fold_lowered b c.folding c.direction (take_up k ms) t) (fold_lowered (moved_bound to b) c.folding c.direction (take_up k (wires to ms)) (to t))
      (returns_lowered b cs (drop k ms) ts) (returns_lowered (moved_bound to b) cs (drop k (wires to ms)) (map to ts))
      (forms_are.makes-as to forms others moves (fold_lowered b c.folding c.direction (take_up k ms) t) (fold_lowered (moved_bound to b) c.folding c.direction (wires to (take_up k ms)) (to t)) (fold_lowered (moved_bound to b) c.folding c.direction (take_up k (wires to ms)) (to t))
      (ap (λ l. fold_lowered (moved_bound to b) c.folding c.direction l (to t)) (sym (take-moved to k ms))) (fold-to b c.folding c.direction (take_up k ms) t))
      (forms_are.makes-as to forms others moves (returns_lowered b cs (drop k ms) ts) (returns_lowered (moved_bound to b) cs (wires to (drop k ms)) (map to ts)) (returns_lowered (moved_bound to b) cs (drop k (wires to ms)) (map to ts))
      (ap (λ l. returns_lowered (moved_bound to b) cs l (map to ts)) (sym (drop-map (moved_wire to) k ms))) (returns-to b cs (drop k ms) ts))

  -- ---- generators

  -- the element of what fills the first port
  first-element : (ws : List Wire) → element_of others (type_of (wire_at (wires to ws) 0).ty) ≡ to (element_of forms (type_of (wire_at ws 0).ty))
  first-element ws =
      ap (λ w. element_of others (type_of w.ty)) (forms_are.at-moved to forms others moves ws 0)
      ∙ ap (element_of others) (type-moved to forms others moves (wire_at ws 0).ty)
      ∙ element-moved to forms others moves (type_of (wire_at ws 0).ty)

  scatter-to : (ws : List Wire) → Makes to (a_node (Row simple.AScatter) ws 1 (elements_in forms ws ∷ Many integer ∷ [])) (a_node (Row simple.AScatter) (wires to ws) 1 (elements_in others (wires to ws) ∷ Many integer ∷ []))
  scatter-to ws =
      forms_are.makes-as to forms others moves (a_node (Row simple.AScatter) ws 1 (elements_in forms ws ∷ Many integer ∷ [])) (a_node (Row simple.AScatter) (wires to ws) 1 (lines to (elements_in forms ws ∷ Many integer ∷ [])))
      (a_node (Row simple.AScatter) (wires to ws) 1 (elements_in others (wires to ws) ∷ Many integer ∷ []))
      (ap (λ t. a_node (Row simple.AScatter) (wires to ws) 1 (Many t ∷ Many (to integer) ∷ [])) (sym (first-element ws)) ∙ ap (λ t. a_node (Row simple.AScatter) (wires to ws) 1 (elements_in others (wires to ws) ∷ Many t ∷ [])) moves.integers)
      (node-moved to (Row simple.AScatter) ws 1 (elements_in forms ws ∷ Many integer ∷ []))

  generator-to : (s : Source) (ws : List Wire) → Makes to (generator_lowered forms s ws) (generator_lowered others s (wires to ws))
  generator-to source.Range ws =
      forms_are.makes-as to forms others moves (a_node (Row simple.RangeGenerate) ws 1 (Many integer ∷ [])) (a_node (Row simple.RangeGenerate) (wires to ws) 1 (Many (to integer) ∷ [])) (a_node (Row simple.RangeGenerate) (wires to ws) 1 (Many integer ∷ []))
      (ap (λ t. a_node (Row simple.RangeGenerate) (wires to ws) 1 (Many t ∷ [])) moves.integers) (node-moved to (Row simple.RangeGenerate) ws 1 (Many integer ∷ []))
  generator-to source.Elements ws =
      then-moved to (a_node (Row simple.AScatter) ws 1 (elements_in forms ws ∷ Many integer ∷ [])) (a_node (Row simple.AScatter) (wires to ws) 1 (elements_in others (wires to ws) ∷ Many integer ∷ []))
      (λ os. only (take_up 1 os)) (λ os. only (take_up 1 os)) (scatter-to ws) (λ os n q. ap (λ l. only l n q) (take-moved to 1 os))
  generator-to source.Indexed ws = scatter-to ws

  generators-to : (ss : List Source) (ws : List Wire) → Makes to (generators_lowered forms ss ws) (generators_lowered others ss (wires to ws))
  generators-to [] ws = only-moved to []
  generators-to (s ∷ ss) ws =
      let k = width s in
      beside-moved to (generator_lowered forms s (take_up k ws)) (generator_lowered others s (take_up k (wires to ws))) (generators_lowered forms ss (drop k ws)) (generators_lowered others ss (drop k (wires to ws)))
      (forms_are.makes-as to forms others moves (generator_lowered forms s (take_up k ws)) (generator_lowered others s (wires to (take_up k ws))) (generator_lowered others s (take_up k (wires to ws)))
      (ap (generator_lowered others s) (sym (take-moved to k ws))) (generator-to s (take_up k ws)))
      (forms_are.makes-as to forms others moves (generators_lowered forms ss (drop k ws)) (generators_lowered others ss (wires to (drop k ws))) (generators_lowered others ss (drop k (wires to ws)))
      (ap (generators_lowered others ss) (sym (drop-map (moved_wire to) k ws))) (generators-to ss (drop k ws)))

  -- the lower bound by an array, or 1
  array-bound : (ws : List Wire)
      → (if is_array others (type_of (wire_at (wires to ws) 0).ty) then Limit (wire_at (wires to ws) 0) else Wired one)
      ≡ moved_bound to (if is_array forms (type_of (wire_at ws 0).ty) then Limit (wire_at ws 0) else Wired one)
  array-bound ws =
      let w = wire_at ws 0 in
      ap (λ v. if is_array others (type_of v.ty) then Limit v else Wired one) (forms_are.at-moved to forms others moves ws 0)
      ∙ ap (λ t. if is_array others t then Limit (moved_wire to w) else Wired one) (type-moved to forms others moves w.ty)
      ∙ ap (λ b. if b then Limit (moved_wire to w) else Wired one) (array-moved to forms others moves (type_of w.ty))
      ∙ either (is_array forms (type_of w.ty))
    where
      either : (b : Bool) → (if b then Limit (moved_wire to (wire_at ws 0)) else Wired one) ≡ moved_bound to (if b then Limit (wire_at ws 0) else Wired one)
      either true = refl
      either false = ap Wired (forms_are.one-moved to forms others moves)

  bound-to : (ss : List Source) (ws : List Wire) → bound_of others ss (wires to ws) ≡ moved_bound to (bound_of forms ss ws)
  bound-to [] ws = ap Wired (forms_are.one-moved to forms others moves)
  bound-to (source.Range ∷ ss) ws = ap Wired (forms_are.at-moved to forms others moves ws 0)
  bound-to (source.Elements ∷ ss) ws = array-bound ws
  bound-to (source.Indexed ∷ ss) ws = array-bound ws

  -- ---- the loop

  forall-to : (ss : List Source) (cs : List ClauseForm) (body other : Lowers) (ts : List ℕ) (bounds : List Wire) → Becomes to forms others moves body other
      → Becomes to forms others moves (forall_lowered forms ss cs body ts bounds) (forall_lowered others ss cs other (map to ts) (wires to bounds))
  forall-to ss cs body other ts bounds r env n q =
      let outer = map into bounds in
      let g = new_graph (generators_lowered forms ss outer) q in
      let seen = map into env ++ own_inputs 1 (map single (types g.values)) in
      let b = new_graph (body seen) (q + size g) in
      let ms = own_inputs (suc (length g.values)) (map many (types b.values)) in
      let last = q + size g + size b in
      let r2 = new_graph (returns_lowered (bound_of forms ss outer) cs ms ts) last in
      let g-is : new_graph (generators_lowered others ss (map into (wires to bounds))) q ≡ moved_lowered to g =
      ap (λ l. new_graph (generators_lowered others ss l) q) (into-moved to bounds) ∙ generators-to ss outer 0 (suc q) in
      let seen-is : map into (wires to env) ++ own_inputs 1 (map single (types (wires to g.values))) ≡ wires to seen =
      ap (λ l. l ++ own_inputs 1 (map single (types (wires to g.values)))) (into-moved to env) ∙ ap (λ l. wires to (map into env) ++ l) (inputs-of-single to 1 g.values)
      ∙ sym (map-append (moved_wire to) (map into env) (own_inputs 1 (map single (types g.values)))) in
      let b-is : new_graph (other (map into (wires to env) ++ own_inputs 1 (map single (types (wires to g.values))))) (q + size (moved_lowered to g)) ≡ moved_lowered to b =
      ap (λ l. new_graph (other l) (q + size (moved_lowered to g))) seen-is ∙ ap (λ k. new_graph (other (wires to seen)) (q + k)) (size-moved to g) ∙ r seen 0 (suc (q + size g)) in
      let ms-is : own_inputs (suc (length (wires to g.values))) (map many (types (wires to b.values))) ≡ wires to ms =
      ap (λ k. own_inputs (suc k) (map many (types (wires to b.values)))) (length-map g.values (moved_wire to)) ∙ inputs-of-many to (suc (length g.values)) b.values in
      let bound-is : bound_of others ss (map into (wires to bounds)) ≡ moved_bound to (bound_of forms ss outer) =
      ap (bound_of others ss) (into-moved to bounds) ∙ bound-to ss outer in
      let r-is : new_graph (returns_lowered (bound_of others ss (map into (wires to bounds))) cs (own_inputs (suc (length (wires to g.values))) (map many (types (wires to b.values)))) (map to ts)) (q + size (moved_lowered to g) + size (moved_lowered to b)) ≡ moved_lowered to r2 =
      ap (λ x. new_graph (returns_lowered x cs (own_inputs (suc (length (wires to g.values))) (map many (types (wires to b.values)))) (map to ts)) (q + size (moved_lowered to g) + size (moved_lowered to b))) bound-is
      ∙ ap (λ l. new_graph (returns_lowered (moved_bound to (bound_of forms ss outer)) cs l (map to ts)) (q + size (moved_lowered to g) + size (moved_lowered to b))) ms-is
      ∙ ap (λ k. new_graph (returns_lowered (moved_bound to (bound_of forms ss outer)) cs (wires to ms) (map to ts)) (q + k + size (moved_lowered to b))) (size-moved to g)
      ∙ ap (λ k. new_graph (returns_lowered (moved_bound to (bound_of forms ss outer)) cs (wires to ms) (map to ts)) (q + size g + k)) (size-moved to b)
      ∙ returns-to (bound_of forms ss outer) cs ms ts 0 (suc last) in
      ap (made others cs other (map to ts) (wires to bounds) (wires to env) n q) g-is
      ∙ ap (made_on others cs (map to ts) (wires to bounds) n q (moved_lowered to g)) b-is
      ∙ ap (λ x. whole compound.ForAll (moved_lowered to g ∷ moved_lowered to b ∷ x ∷ []) (0 ∷ 1 ∷ 2 ∷ []) (length (wires to b.values)) (map to ts) n q) r-is
      ∙ ap (λ k. whole compound.ForAll (moved_lowered to g ∷ moved_lowered to b ∷ moved_lowered to r2 ∷ []) (0 ∷ 1 ∷ 2 ∷ []) k (map to ts) n q) (length-map b.values (moved_wire to))
      ∙ whole-moved to compound.ForAll (g ∷ b ∷ r2 ∷ []) (0 ∷ 1 ∷ 2 ∷ []) (length b.values) ts n q
    where
      -- the loop on these first graphs
      made_on : List Form → List ClauseForm → List ℕ → List Wire → ℕ → ℕ → Lowered → Lowered → Lowered
      made_on fs cs ts bounds n q g b =
          whole compound.ForAll (g ∷ b ∷ new_graph (returns_lowered (bound_of fs ss (map into bounds)) cs (own_inputs (suc (length g.values)) (map many (types b.values))) ts) (q + size g + size b) ∷ [])
          (0 ∷ 1 ∷ 2 ∷ []) (length b.values) ts n q

      made : List Form → List ClauseForm → Lowers → List ℕ → List Wire → List Wire → ℕ → ℕ → Lowered → Lowered
      made fs cs body ts bounds env n q g = made_on fs cs ts bounds n q g (new_graph (body (map into env ++ own_inputs 1 (map single (types g.values)))) (q + size g))

  pub product-to : (p : Product) (ds es : List (List Lowers)) (gs hs : List Lowers) (ts : List ℕ) (ws : List Wire) → DefsTo to forms others moves ds es → AllTo to forms others moves gs hs
      → Becomes to forms others moves (product_lowered forms p ds gs ts ws) (product_lowered others p es hs (map to ts) (wires to ws))
  product-to p ds es gs hs ts ws d r =
      forall-to p.sources p.clauses (body_lowered ds (clauses_lowered (unless_places p.clauses) gs)) (body_lowered es (clauses_lowered (unless_places p.clauses) hs)) ts ws
      (forms_are.body-to to forms others moves ds es (clauses_lowered (unless_places p.clauses) gs) (clauses_lowered (unless_places p.clauses) hs) d (clauses-to (unless_places p.clauses) gs hs r))
