-- Loops have their sizes.
use Rattle.std.proofs.Common.{◌≡◌, ℕ, zero, suc, ◌+◌, ◌≤◌, Bool, true, false, List, [], ◌∷◌, ◌++◌, map, length, drop, Option, Some, None, refl, sym, ap, subst, ◌∙◌, arith}
use Rattle.std.specs.Prelude.{◌-◌, if◌then◌else◌, min, slice_set}
use Rattle.std.proofs.lemmas.List.{length-append, length-map, length-drop}
use Rattle.flow_value.specs.declared.operation.Scalar1.TheVariants as unary
use Rattle.flow_value.specs.declared.ty.Ty.{Ty}
use Rattle.flow_value.specs.declared.ty.Ty.TheVariants as ty
use Rattle.if1_graph.specs.declared.op.Simple.TheVariants as simple
use Rattle.if1_graph.specs.declared.op.Compound.TheVariants as compound
use Rattle.sisal_tree.specs.declared.expr.Direction.{Direction}
use Rattle.loop_folds.specs.declared.folding.Folding.{Folding}
use Rattle.loop_folds.specs.declared.folding.Folding.TheVariants as folding
use Rattle.type_table.specs.declared.form.Form.{Form}
use Rattle.typed_tree.specs.declared.expr.Product.{Product}
use Rattle.typed_tree.specs.declared.expr.Turns.{Turns}
use Rattle.typed_tree.specs.declared.expr.Source.{Source}
use Rattle.typed_tree.specs.declared.expr.Source.TheVariants as source
use Rattle.typed_tree.specs.declared.expr.ClauseForm.{ClauseForm}
use Rattle.typed_tree.specs.Types.{IsNumber, AreNumbers}
use Rattle.fitting_trees.specs.Fitting.{Goes, Renews}
use Rattle.fitting_trees.specs.Fitting as is
use Rattle.lowering.specs.declared.feed.Feed.TheVariants.{Named}
use Rattle.lowering.specs.declared.feed.Carried.{Carried}
use Rattle.lowering.specs.declared.feed.Carried.TheVariants.{One, Many}
use Rattle.lowering.specs.declared.feed.Wire.{Wire}
use Rattle.lowering.specs.Feeds.{wire, into}
use Rattle.lowering.specs.declared.graph.Action.TheVariants.{Row}
use Rattle.lowering.specs.Graphs.{Lowering, only as only_wires, andthen, a_node as a_lowered_node, size, new_graph}
use Rattle.lowering.specs.Operations.{Lowers, boolean, integer, one, all_lowered, defs_lowered, body_lowered, wire_at, row_lowered}
use Rattle.lowering.specs.Choices.{element_of, is_array, type_of}
use Rattle.lowering.specs.Loops.{own_inputs, many, single, types, take_up, with_not, unless_places, clauses_lowered, reducer_name, grouping_of, span, Bound, Wired, Limit, fold_lowered, returns_lowered, elements_in, generator_lowered, generators_lowered, bound_of, product_lowered, Phrase, loop_kind, loop_name, extra, extras, place_of, collected, renew, renew_one, test_lowered, row_of_turn, initial_lowered}
use Rattle.lowered_sizes.specs.declared.sizes.Sizes.{Sizes}
use Rattle.lowered_sizes.specs.Counting.{Sizing, only, valued, joined, beside, a_node}
use Rattle.lowered_sizes.specs.Forms.{all_sized, defs_sized, body_sized, not_sized, clauses_sized, fold_sized, returns_sized, generators_sized, first_array, is_limited, product_sized, SizedPhrase, extra_sized, extras_sized, test_sized, initial_sized}
use Rattle.lowered_units.proofs.Wired.{AreTyped, AreMultiples, multiples-both, ones-typed, own-typed, first-typed, the-number, typed-length, typed-both, typed-into, typed-drop, typed-take, typed-ports, typed-renew, same-array, array-elements, stream-elements}
use Rattle.lowered_sizes.proofs.Sized.{Any, plainly, Gives, resized, only-gives, then-gives, beside-gives, row-gives, no_part, a_part, whole-sized}
use Rattle.lowered_sizes.proofs.SizedForms.{Of, To, EachTo, each_none, each_more, DefsTo}
use Rattle.lowered_sizes.proofs.SizedForms as forms_are

-- ---- lists

length-take-up : (k : ℕ) (ws : List Wire) → length (take_up k ws) ≡ min k (length ws)
length-take-up zero ws = omega arith
length-take-up (suc k) [] = omega arith
length-take-up (suc k) (w ∷ ws) = let rest = length-take-up k ws in omega (arith, rest)

taken : (k : ℕ) (ws : List Wire) → k ≤ length ws → length (take_up k ws) ≡ k
taken k ws h = let l = length-take-up k ws in omega (arith, l, h)

-- a place for each value and mask
collected-length : (loop : Option ℕ → Option ℕ) (next : ℕ) (bs : List Bool) (ps : List Phrase) → length (collected loop next bs ps) ≡ min (length bs) (length ps)
collected-length loop next [] [] = omega arith
collected-length loop next (true ∷ bs) [] = omega arith
collected-length loop next (false ∷ bs) [] = omega arith
collected-length loop next [] (p ∷ ps) = omega arith
collected-length loop next (true ∷ bs) (p ∷ ps) = let rest = collected-length loop (suc next) bs ps in omega (arith, rest)
collected-length loop next (false ∷ bs) (p ∷ ps) = by (loop p.name) (λ k. collected-length loop k bs ps)
  where
    by : (o : Option ℕ) → ((k : ℕ) → length (collected loop k bs ps) ≡ min (length bs) (length ps)) → length (place_of next o (λ k. collected loop k bs ps)) ≡ min (suc (length bs)) (suc (length ps))
    by None f = let rest = f (suc next) in omega (arith, rest)
    by (Some x) f = let rest = f next in omega (arith, rest)

abbrev pub is_limit : Bound → Bool
is_limit (Wired w) = false
is_limit (Limit w) = true

module _ (forms : List Form) (names : List (List ℕ)) where
  abbrev Becomes : List Ty → Sizing → Lowers → Type 0
  Becomes γ z g = To forms names γ Any z g

  -- ---- clauses

  not-to : (γ : List Ty) (z : Sizing) (g : Lowers) → Becomes γ z g → Becomes γ (not_sized z) (with_not g)
  not-to γ z g h env a n e =
      then-gives Any Any (z n) (a_node (z n).values 1) (g env) (λ ws. row_lowered (simple.One unary.Not) ws (boolean ∷ [])) (h env a n e) (λ ws tw lw. forms_are.row-any forms names (simple.One unary.Not) ws (z n).values boolean lw)

  clauses-to : (γ : List Ty) (bs : List Bool) (zs : List Sizing) (gs : List Lowers) → EachTo forms names γ zs gs → EachTo forms names γ (clauses_sized bs zs) (clauses_lowered bs gs)
  clauses-to _ bs _ _ (each_none γ) = each_none γ
  clauses-to _ [] _ _ (each_more γ z zs g gs h r) = each_more γ z zs g gs h r
  clauses-to _ (true ∷ bs) _ _ (each_more γ z zs g gs h r) = each_more γ (not_sized z) (clauses_sized bs zs) (with_not g) (clauses_lowered bs gs) (not-to γ z g h) (clauses-to γ bs zs gs r)
  clauses-to _ (false ∷ bs) _ _ (each_more γ z zs g gs h r) = each_more γ z (clauses_sized bs zs) g (clauses_lowered bs gs) h (clauses-to γ bs zs gs r)

  -- ---- returns

  array-gives : (b : Bound) (d : Direction) (ms : List Wire) (k t : ℕ) → length ms ≡ k → Gives Any (fold_sized (is_limit b) folding.Array k) (fold_lowered b folding.Array d ms t)
  array-gives (Wired w) d ms k t e = forms_are.row-any forms names simple.AGather (w ∷ ms) (suc k) t (ap suc e)
  array-gives (Limit w) d ms k t e =
      then-gives Any Any (a_node 1 1) (a_node (suc k) 1) (row_lowered simple.ALimL (w ∷ []) (integer ∷ [])) (λ ws. row_lowered simple.AGather (wire_at ws 0 ∷ ms) (t ∷ []))
      (forms_are.row-any forms names simple.ALimL (w ∷ []) 1 integer refl) (λ ws tw lw. forms_are.row-any forms names simple.AGather (wire_at ws 0 ∷ ms) (suc k) t (ap suc e))

  reduce-gives : (f : Folding) (d : Direction) (ms : List Wire) (k t : ℕ) → length ms ≡ k → Gives Any (a_node (suc k) 1) (row_lowered (simple.Reduce (grouping_of d)) (wire (Named (reducer_name f)) (One integer) ∷ ms) (t ∷ []))
  reduce-gives f d ms k t e = forms_are.row-any forms names (simple.Reduce (grouping_of d)) (wire (Named (reducer_name f)) (One integer) ∷ ms) (suc k) t (ap suc e)

  fold-gives : (b : Bound) (f : Folding) (d : Direction) (ms : List Wire) (k t : ℕ) → length ms ≡ k → Gives Any (fold_sized (is_limit b) f k) (fold_lowered b f d ms t)
  fold-gives b folding.Array d ms k t e = array-gives b d ms k t e
  fold-gives b folding.Stream d ms k t e = forms_are.row-any forms names simple.AGather (one ∷ ms) (suc k) t (ap suc e)
  fold-gives b folding.Last d ms k t e = forms_are.row-any forms names simple.FinalValue ms k t e
  fold-gives b folding.Sum d ms k t e = reduce-gives folding.Sum d ms k t e
  fold-gives b folding.Product d ms k t e = reduce-gives folding.Product d ms k t e
  fold-gives b folding.Least d ms k t e = reduce-gives folding.Least d ms k t e
  fold-gives b folding.Greatest d ms k t e = reduce-gives folding.Greatest d ms k t e
  fold-gives b folding.CatenateArrays d ms k t e = reduce-gives folding.CatenateArrays d ms k t e
  fold-gives b folding.CatenateStreams d ms k t e = reduce-gives folding.CatenateStreams d ms k t e

  returns-give : (b : Bound) (cs : List ClauseForm) (ms : List Wire) (m : ℕ) (ts : List ℕ) → length ms ≡ m → Gives Any (returns_sized (is_limit b) cs m (length ts)) (returns_lowered b cs ms ts)
  returns-give b [] ms m ts e = only-gives Any [] tt
  returns-give b (c ∷ cs) ms m [] e = only-gives Any [] tt
  returns-give b (c ∷ cs) ms m (t ∷ ts) e =
      let k = span c.masking in
      let here = length-take-up k ms in
      let left = length-drop k ms in
      beside-gives Any Any Any (fold_sized (is_limit b) c.folding (min k m)) (returns_sized (is_limit b) cs (m - k) (length ts)) (fold_lowered b c.folding c.direction (take_up k ms) t) (returns_lowered b cs (drop k ms) ts) (λ vs ws tv tw. tt)
      (fold-gives b c.folding c.direction (take_up k ms) (min k m) t (omega (arith, here, e)))
      (returns-give b cs (drop k ms) (m - k) ts (omega (arith, e, left)))

  -- ---- generators

  scatter-gives : (ws : List Wire) (t : Ty) → length ws ≡ 1 → IsNumber forms names (element_of forms (type_of (wire_at ws 0).ty)) t → IsNumber forms names integer ty.Int
      → Gives (AreMultiples forms names (t ∷ ty.Int ∷ [])) (a_node 1 2) (a_lowered_node (Row simple.AScatter) ws 1 (elements_in forms ws ∷ Many integer ∷ []))
  scatter-gives ws t e h i =
      resized (AreMultiples forms names (t ∷ ty.Int ∷ [])) (a_node (length ws) 2) (a_node 1 2) (a_lowered_node (Row simple.AScatter) ws 1 (elements_in forms ws ∷ Many integer ∷ []))
      (record { nodes = refl; graphs = refl; largest = refl; ports = ap suc e; values = refl })
      (row-gives (AreMultiples forms names (t ∷ ty.Int ∷ [])) (Row simple.AScatter) ws 1 (elements_in forms ws ∷ Many integer ∷ []) refl (λ n. (h, (i, tt))))

  elements-give : (ws : List Wire) (t : Ty) → length ws ≡ 1 → IsNumber forms names (element_of forms (type_of (wire_at ws 0).ty)) t → IsNumber forms names integer ty.Int → Gives (AreMultiples forms names (t ∷ [])) (a_node 1 1) (generator_lowered forms source.Elements ws)
  elements-give ws t e h i =
      resized (AreMultiples forms names (t ∷ [])) (joined (a_node 1 2) (only 1)) (a_node 1 1) (generator_lowered forms source.Elements ws)
      (record { nodes = refl; graphs = refl; largest = refl; ports = refl; values = refl })
      (then-gives (AreMultiples forms names (t ∷ ty.Int ∷ [])) (AreMultiples forms names (t ∷ [])) (a_node 1 2) (only 1) (a_lowered_node (Row simple.AScatter) ws 1 (elements_in forms ws ∷ Many integer ∷ [])) (λ os. only_wires (take_up 1 os)) (scatter-gives ws t e h i)
      (λ os to lo.
      resized (AreMultiples forms names (t ∷ [])) (only (length (take_up 1 os))) (only 1) (only_wires (take_up 1 os)) (record { nodes = refl; graphs = refl; largest = refl; ports = refl; values = taken 1 os (omega (arith, lo)) })
      (only-gives (AreMultiples forms names (t ∷ [])) (take_up 1 os) (first os to))))
    where
      first : (os : List Wire) → AreMultiples forms names (t ∷ ty.Int ∷ []) os → AreMultiples forms names (t ∷ []) (take_up 1 os)
      first [] h = absurd h
      first (o ∷ os) h = (h.0, tt)

  generators-give : (ss : List Source) (tys xs : List Ty) → Goes ss tys xs → IsNumber forms names integer ty.Int → (ws : List Wire) → AreTyped forms names ws tys → Gives (AreMultiples forms names xs) (generators_sized ss) (generators_lowered forms ss ws)
  generators-give _ _ _ is.no_source i ws h = only-gives (AreMultiples forms names []) [] tt
  generators-give _ _ _ (is.over_range {ss = ss} {bounds = bounds} {names = xs} r) i ws h =
      beside-gives (AreMultiples forms names (ty.Int ∷ [])) (AreMultiples forms names xs) (AreMultiples forms names (ty.Int ∷ xs)) (a_node 2 1) (generators_sized ss) (a_lowered_node (Row simple.RangeGenerate) (take_up 2 ws) 1 (Many integer ∷ [])) (generators_lowered forms ss (drop 2 ws)) (λ vs us tv tu. multiples-both forms names (ty.Int ∷ []) xs vs us tv tu)
      (resized (AreMultiples forms names (ty.Int ∷ [])) (a_node (length (take_up 2 ws)) 1) (a_node 2 1) (a_lowered_node (Row simple.RangeGenerate) (take_up 2 ws) 1 (Many integer ∷ []))
      (record { nodes = refl; graphs = refl; largest = refl; ports = ap suc (taken 2 ws (let l = typed-length forms names ws (ty.Int ∷ ty.Int ∷ bounds) h in omega (arith, l))); values = refl })
      (row-gives (AreMultiples forms names (ty.Int ∷ [])) (Row simple.RangeGenerate) (take_up 2 ws) 1 (Many integer ∷ []) refl (λ n. (i, tt))))
      (generators-give ss bounds xs r i (drop 2 ws) (typed-drop forms names (ty.Int ∷ ty.Int ∷ []) bounds ws 2 refl h))
  generators-give _ _ _ (is.over_array {ss = ss} {bounds = bounds} {names = xs} a r) i ws h =
      let first = typed-take forms names (ty.Arr a ∷ []) bounds ws 1 refl h in
      beside-gives (AreMultiples forms names (a ∷ [])) (AreMultiples forms names xs) (AreMultiples forms names (a ∷ xs)) (a_node 1 1) (generators_sized ss) (generator_lowered forms source.Elements (take_up 1 ws)) (generators_lowered forms ss (drop 1 ws)) (λ vs us tv tu. multiples-both forms names (a ∷ []) xs vs us tv tu)
      (elements-give (take_up 1 ws) a (typed-length forms names (take_up 1 ws) (ty.Arr a ∷ []) first) (array-elements forms names (type_of (wire_at (take_up 1 ws) 0).ty) a (the-number forms names (wire_at (take_up 1 ws) 0).ty (ty.Arr a) (first-typed forms names (take_up 1 ws) (ty.Arr a) first))) i)
      (generators-give ss bounds xs r i (drop 1 ws) (typed-drop forms names (ty.Arr a ∷ []) bounds ws 1 refl h))
  generators-give _ _ _ (is.over_stream {ss = ss} {bounds = bounds} {names = xs} a r) i ws h =
      let first = typed-take forms names (ty.Stream a ∷ []) bounds ws 1 refl h in
      beside-gives (AreMultiples forms names (a ∷ [])) (AreMultiples forms names xs) (AreMultiples forms names (a ∷ xs)) (a_node 1 1) (generators_sized ss) (generator_lowered forms source.Elements (take_up 1 ws)) (generators_lowered forms ss (drop 1 ws)) (λ vs us tv tu. multiples-both forms names (a ∷ []) xs vs us tv tu)
      (elements-give (take_up 1 ws) a (typed-length forms names (take_up 1 ws) (ty.Stream a ∷ []) first) (stream-elements forms names (type_of (wire_at (take_up 1 ws) 0).ty) a (the-number forms names (wire_at (take_up 1 ws) 0).ty (ty.Stream a) (first-typed forms names (take_up 1 ws) (ty.Stream a) first))) i)
      (generators-give ss bounds xs r i (drop 1 ws) (typed-drop forms names (ty.Stream a ∷ []) bounds ws 1 refl h))
  generators-give _ _ _ (is.over_array_at {ss = ss} {bounds = bounds} {names = xs} a r) i ws h =
      let first = typed-take forms names (ty.Arr a ∷ []) bounds ws 1 refl h in
      beside-gives (AreMultiples forms names (a ∷ ty.Int ∷ [])) (AreMultiples forms names xs) (AreMultiples forms names (a ∷ ty.Int ∷ xs)) (a_node 1 2) (generators_sized ss) (generator_lowered forms source.Indexed (take_up 1 ws)) (generators_lowered forms ss (drop 1 ws)) (λ vs us tv tu. multiples-both forms names (a ∷ ty.Int ∷ []) xs vs us tv tu)
      (scatter-gives (take_up 1 ws) a (typed-length forms names (take_up 1 ws) (ty.Arr a ∷ []) first) (array-elements forms names (type_of (wire_at (take_up 1 ws) 0).ty) a (the-number forms names (wire_at (take_up 1 ws) 0).ty (ty.Arr a) (first-typed forms names (take_up 1 ws) (ty.Arr a) first))) i)
      (generators-give ss bounds xs r i (drop 1 ws) (typed-drop forms names (ty.Arr a ∷ []) bounds ws 1 refl h))
  generators-give _ _ _ (is.over_stream_at {ss = ss} {bounds = bounds} {names = xs} a r) i ws h =
      let first = typed-take forms names (ty.Stream a ∷ []) bounds ws 1 refl h in
      beside-gives (AreMultiples forms names (a ∷ ty.Int ∷ [])) (AreMultiples forms names xs) (AreMultiples forms names (a ∷ ty.Int ∷ xs)) (a_node 1 2) (generators_sized ss) (generator_lowered forms source.Indexed (take_up 1 ws)) (generators_lowered forms ss (drop 1 ws)) (λ vs us tv tu. multiples-both forms names (a ∷ ty.Int ∷ []) xs vs us tv tu)
      (scatter-gives (take_up 1 ws) a (typed-length forms names (take_up 1 ws) (ty.Stream a ∷ []) first) (stream-elements forms names (type_of (wire_at (take_up 1 ws) 0).ty) a (the-number forms names (wire_at (take_up 1 ws) 0).ty (ty.Stream a) (first-typed forms names (take_up 1 ws) (ty.Stream a) first))) i)
      (generators-give ss bounds xs r i (drop 1 ws) (typed-drop forms names (ty.Stream a ∷ []) bounds ws 1 refl h))

  -- ---- the lower bound

  limited-by : (ns : List ℕ) (tys : List Ty) (ws : List Wire) (t : Ty) → AreNumbers forms names ns (t ∷ tys) → AreTyped forms names ws (t ∷ tys) → is_array forms (type_of (wire_at ws 0).ty) ≡ first_array forms ns
  limited-by [] tys ws t h k = absurd h
  limited-by (n ∷ ns) tys [] t h k = absurd k
  limited-by (n ∷ ns) tys (w ∷ ws) t h k = same-array forms names (type_of w.ty) n t (the-number forms names w.ty t k.0.0) h.0

  limited-at : (b : Bool) (w : Wire) → is_limit (if b then Limit w else Wired one) ≡ b
  limited-at true w = refl
  limited-at false w = refl

  limited-is : (ss : List Source) (tys xs : List Ty) → Goes ss tys xs → (ns : List ℕ) → AreNumbers forms names ns tys → (ws : List Wire) → AreTyped forms names ws tys → is_limit (bound_of forms ss ws) ≡ is_limited forms ss ns
  limited-is _ _ _ is.no_source ns h ws k = refl
  limited-is _ _ _ (is.over_range r) ns h ws k = refl
  limited-is _ _ _ (is.over_array {bounds = bounds} a r) ns h ws k = limited-at (is_array forms (type_of (wire_at ws 0).ty)) (wire_at ws 0) ∙ limited-by ns bounds ws (ty.Arr a) h k
  limited-is _ _ _ (is.over_stream {bounds = bounds} a r) ns h ws k = limited-at (is_array forms (type_of (wire_at ws 0).ty)) (wire_at ws 0) ∙ limited-by ns bounds ws (ty.Stream a) h k
  limited-is _ _ _ (is.over_array_at {bounds = bounds} a r) ns h ws k = limited-at (is_array forms (type_of (wire_at ws 0).ty)) (wire_at ws 0) ∙ limited-by ns bounds ws (ty.Arr a) h k
  limited-is _ _ _ (is.over_stream_at {bounds = bounds} a r) ns h ws k = limited-at (is_array forms (type_of (wire_at ws 0).ty)) (wire_at ws 0) ∙ limited-by ns bounds ws (ty.Stream a) h k

  length-own : (port : ℕ) (ts : List Carried) → length (own_inputs port ts) ≡ length ts
  length-own port [] = refl
  length-own port (t ∷ ts) = ap suc (length-own (suc port) ts)

  pub product-to : (γ xs δ : List Ty) (p : Product) (tys made : List Ty) (us : List (List Sizing)) (ds : List (List Lowers)) (zs : List Sizing) (gs : List Lowers) (ns bs : List ℕ) (bounds : List Wire)
      → Goes p.sources tys xs → IsNumber forms names integer ty.Int → DefsTo forms names (γ ++ xs) us ds δ → EachTo forms names ((γ ++ xs) ++ δ) zs gs
      → AreNumbers forms names bs tys → AreTyped forms names bounds tys → AreNumbers forms names ns made → To forms names γ (Of forms names made) (product_sized forms p bs us zs (length ns)) (product_lowered forms p ds gs ns bounds)
  product-to γ xs δ p tys made us ds zs gs ns bs bounds goes i d h nb tb num env a n e k q =
      let outer = map into bounds in
      let outer_typed = typed-into forms names bounds tys tb in
      let body = body_lowered ds (clauses_lowered (unless_places p.clauses) gs) in
      let g = new_graph (generators_lowered forms p.sources outer) q in
      let gs_ = generators_sized p.sources in
      let gh = generators-give p.sources tys xs goes i outer outer_typed 0 (suc q) in
      let seen = map into env ++ own_inputs 1 (map single (types g.values)) in
      let seen_typed = typed-both forms names (map into env) (own_inputs 1 (map single (types g.values))) γ xs (typed-into forms names env γ a) (ones-typed forms names xs g.values gh.known 0 1) in
      let seen_count : length seen ≡ n + gs_.values =
      let both = length-append (map into env) (own_inputs 1 (map single (types g.values))) in
      let own = length-own 1 (map single (types g.values)) in
      let singles = length-map (types g.values) single in
      let tys_ = length-map g.values (λ (w : Wire). w.ty) in
      let same = length-map env into in
      omega (arith, both, own, singles, tys_, same, e, gh.values) in
      let b = new_graph (body seen) (q + size g) in
      let bz = body_sized us (clauses_sized (unless_places p.clauses) zs) in
      let bh = forms_are.body-to forms names (γ ++ xs) δ Any us ds (clauses_sized (unless_places p.clauses) zs) (clauses_lowered (unless_places p.clauses) gs) d
      (forms_are.each-to forms names ((γ ++ xs) ++ δ) (clauses_sized (unless_places p.clauses) zs) (clauses_lowered (unless_places p.clauses) gs) (clauses-to ((γ ++ xs) ++ δ) (unless_places p.clauses) zs gs h)) seen seen_typed (n + gs_.values) seen_count 0 (suc (q + size g)) in
      let bound = bound_of forms p.sources outer in
      let own = own_inputs (suc (length g.values)) (map many (types b.values)) in
      let own_count : length own ≡ (bz (n + gs_.values)).values =
      let l = length-own (suc (length g.values)) (map many (types b.values)) in
      let manys = length-map (types b.values) many in
      let tys_ = length-map b.values (λ (w : Wire). w.ty) in
      omega (arith, l, manys, tys_, bh.values) in
      let r = new_graph (returns_lowered bound p.clauses own ns) (q + size g + size b) in
      let rz = returns_sized (is_limited forms p.sources bs) p.clauses (bz (n + gs_.values)).values (length ns) in
      let rh = subst (λ t. Gives Any (returns_sized t p.clauses (bz (n + gs_.values)).values (length ns)) (returns_lowered bound p.clauses own ns)) (limited-is p.sources tys xs goes bs nb outer outer_typed)
      (returns-give bound p.clauses own (bz (n + gs_.values)).values ns own_count) 0 (suc (q + size g + size b)) in
      whole-sized (Of forms names made) k q compound.ForAll (gs_ ∷ bz (n + gs_.values) ∷ rz ∷ []) (g ∷ b ∷ r ∷ []) (0 ∷ 1 ∷ 2 ∷ []) (length b.values) ns
      (a_part gs_ (bz (n + gs_.values) ∷ rz ∷ []) g (b ∷ r ∷ []) (plainly (AreMultiples forms names xs) gs_ g gh)
      (a_part (bz (n + gs_.values)) (rz ∷ []) b (r ∷ []) bh
      (a_part rz [] r [] rh no_part)))
      (typed-ports forms names ns made num (suc k) 1)

  -- ---- `for initial`

  extra-to : (γ : List Ty) (o : Option ℕ) (z : Sizing) (zs : List Sizing) (g : Lowers) (gs : List Lowers) → Becomes γ z g → EachTo forms names γ zs gs → EachTo forms names γ (extra_sized o z ++ zs) (extra o g ++ gs)
  extra-to γ None z zs g gs h r = each_more γ z zs g gs h r
  extra-to γ (Some x) z zs g gs h r = r

  -- phrases and their sizes, of the same names
  pub data PhrasesTo : List Ty → List SizedPhrase → List Phrase → Type 0 where
    no_phrase : (γ : List Ty) → PhrasesTo γ [] []
    a_phrase : (γ : List Ty) (z : SizedPhrase) (zs : List SizedPhrase) (p : Phrase) (ps : List Phrase) → z.name ≡ p.name → To forms names γ Any z.sizes p.lowers → PhrasesTo γ zs ps → PhrasesTo γ (z ∷ zs) (p ∷ ps)

  phrases-count : (γ : List Ty) (zs : List SizedPhrase) (ps : List Phrase) → PhrasesTo γ zs ps → length zs ≡ length ps
  phrases-count _ _ _ (no_phrase γ) = refl
  phrases-count _ _ _ (a_phrase γ z zs p ps e h r) = ap suc (phrases-count γ zs ps r)

  extras-to : (γ : List Ty) (loop : Option ℕ → Option ℕ) (bs : List Bool) (zs : List SizedPhrase) (ps : List Phrase) → PhrasesTo γ zs ps → EachTo forms names γ (extras_sized loop bs zs) (extras loop bs ps)
  extras-to _ loop bs _ _ (no_phrase γ) = each_none γ
  extras-to _ loop [] _ _ (a_phrase γ z zs p ps e h r) = each_none γ
  extras-to _ loop (true ∷ bs) _ _ (a_phrase γ z zs p ps e h r) = each_more γ (not_sized z.sizes) (extras_sized loop bs zs) (with_not p.lowers) (extras loop bs ps) (not-to γ z.sizes p.lowers h) (extras-to γ loop bs zs ps r)
  extras-to _ loop (false ∷ bs) _ _ (a_phrase γ z zs p ps e h r) =
      subst (λ o. EachTo forms names γ (extra_sized (loop o) z.sizes ++ extras_sized loop bs zs) (extra (loop p.name) p.lowers ++ extras loop bs ps)) (sym e)
      (extra-to γ (loop p.name) z.sizes (extras_sized loop bs zs) p.lowers (extras loop bs ps) h (extras-to γ loop bs zs ps r))

  test-to : (γ : List Ty) (u : Bool) (zs : List Sizing) (gs : List Lowers) → EachTo forms names γ zs gs → Becomes γ (test_sized u zs) (test_lowered u gs)
  test-to γ true zs gs h env a n e = not-to γ (all_sized zs) (all_lowered gs) (forms_are.each-to forms names γ zs gs h) env a n e
  test-to γ false zs gs h env a n e = forms_are.each-to forms names γ zs gs h env a n e

  -- loop names, and what is collected besides, behind what makes the names
  turn-gives : (γ loop all : List Ty) (s : Sizes) (f : Lowering) (zs : List Sizing) (es : List Lowers) (count n : ℕ) (around : List Wire) (loops : List Wire → List Wire)
      → Gives (Of forms names all) s f → EachTo forms names (γ ++ loop) zs es → AreTyped forms names around γ → length around ≡ n
      → ((ws : List Wire) → Of forms names all ws → length ws ≡ s.values → AreTyped forms names (loops ws) loop × (length (loops ws) ≡ count))
      → Gives Any (beside (valued count s) (all_sized zs (n + count))) (andthen f (λ ws. row_of_turn es around (loops ws)))
  turn-gives γ loop all s f zs es count n around loops h k a e t =
      let z = all_sized zs (n + count) in
      resized Any (joined s (joined z (only (count + z.values)))) (beside (valued count s) z) (andthen f (λ ws. row_of_turn es around (loops ws)))
      (record { nodes = omega arith; graphs = omega arith; largest = omega arith; ports = omega arith; values = refl })
      (then-gives (Of forms names all) Any s (joined z (only (count + z.values))) f (λ ws. row_of_turn es around (loops ws)) h
      (λ ws tw lw.
      let l = t ws tw lw in
      let both = length-append around (loops ws) in
      then-gives Any Any z (only (count + z.values)) (all_lowered es (around ++ loops ws)) (λ us. only_wires (loops ws ++ us))
      (forms_are.each-to forms names (γ ++ loop) zs es k (around ++ loops ws) (typed-both forms names around (loops ws) γ loop a l.0) (n + count) (omega (arith, both, e, l.1)))
      (λ us tu lu.
      let row = length-append (loops ws) us in
      resized Any (only (length (loops ws ++ us))) (only (count + z.values)) (only_wires (loops ws ++ us)) (record { nodes = refl; graphs = refl; largest = refl; ports = refl; values = omega (arith, row, l.1, lu) })
      (only-gives Any (loops ws ++ us) tt))))

  length-set : (l : List Wire) (x : ℕ) (w : Wire) → length (slice_set l x w) ≡ length l
  length-set [] x w = refl
  length-set (v ∷ vs) zero w = refl
  length-set (v ∷ vs) (suc x) w = ap suc (length-set vs x w)

  length-renew : (ds : List (Option ℕ)) (ws l : List Wire) → length (renew ds ws l) ≡ length l
  length-renew [] ws l = refl
  length-renew (d ∷ ds) [] l = refl
  length-renew (d ∷ ds) (w ∷ ws) l = by d ∙ length-renew ds ws l
    where
      by : (d : Option ℕ) → length (renew_one d w (renew ds ws l)) ≡ length (renew ds ws l)
      by None = refl
      by (Some x) = length-set (renew ds ws l) x w

  pub initial-to : (γ loop later made : List Ty) (t : Turns) (fz : List (List Sizing)) (fs : List (List Lowers)) (tz : List Sizing) (test : List Lowers) (dz : List (List Sizing)) (ds : List (List Lowers)) (zs : List SizedPhrase) (ps : List Phrase) (ns : List ℕ)
      → DefsTo forms names γ fz fs loop → EachTo forms names (γ ++ loop) tz test → DefsTo forms names (γ ++ loop) dz ds later → Renews loop t.renewed later → PhrasesTo (γ ++ loop) zs ps → AreNumbers forms names ns made
      → To forms names γ (Of forms names made) (initial_sized t fz tz dz zs (length ns)) (initial_lowered t fs test ds ps ns)
  initial-to γ loop later made t fz fs tz test dz ds zs ps ns f x_fits d renews g num env a n e k q =
      let inner = map into env in
      let inner_typed = typed-into forms names env γ a in
      let inner_count : length inner ≡ n = length-map env into ∙ e in
      let s = defs_sized fz n in
      let first = forms_are.defs-to forms names γ fz fs loop f inner inner_typed n inner_count in
      let start = first 0 (suc q) in
      let loop_wires = drop (length env) (defs_lowered fs inner 0 (suc q)).values in
      let context = typed-length forms names env γ a in
      let loop_typed : AreTyped forms names loop_wires loop = typed-drop forms names γ loop (defs_lowered fs inner 0 (suc q)).values (length env) (sym context) start.known in
      let loop_count : length loop_wires ≡ s.values = let l = length-drop (length env) (defs_lowered fs inner 0 (suc q)).values in omega (arith, l, start.values, e) in
      let named = loop_name (length env) (length loop_wires) in
      let told = loop_name n s.values in
      let same : named ≡ told = ap (λ i. loop_name i (length loop_wires)) e ∙ ap (loop_name n) loop_count in
      let bs = unless_places t.clauses in
      let es = extras named bs ps in
      let ez = extras_sized told bs zs in
      let eh = subst (λ (l : Option ℕ → Option ℕ). EachTo forms names (γ ++ loop) (extras_sized l bs zs) es) same (extras-to (γ ++ loop) named bs zs ps g) in
      let inside = n + s.values in
      let row = all_sized ez inside in
      let tys = types loop_wires in
      let seen = inner ++ own_inputs 1 tys in
      let seen_typed = typed-both forms names inner (own_inputs 1 tys) γ loop inner_typed (own-typed forms names loop loop_wires loop_typed 0 1) in
      let seen_count : length seen ≡ inside =
      let both = length-append inner (own_inputs 1 tys) in
      let own = length-own 1 tys in
      let tys_count = length-map loop_wires (λ (w : Wire). w.ty) in
      omega (arith, both, own, tys_count, inner_count, loop_count) in
      let starts = λ (v : List Wire). andthen (defs_lowered fs v) (λ all. row_of_turn es v (drop (length env) all)) in
      let turns = λ (v : List Wire). andthen (defs_lowered ds v) (λ all. row_of_turn es (take_up (length env) v) (renew t.renewed (drop (length v) all) (drop (length env) v))) in
      let i = new_graph (starts inner) q in
      let ih = turn-gives γ loop (γ ++ loop) (valued (n + s.values) s) (defs_lowered fs inner) ez es s.values n inner (drop (length env)) first eh inner_typed inner_count
      (λ ws tw lw. (typed-drop forms names γ loop ws (length env) (sym context) tw, let l = length-drop (length env) ws in omega (arith, l, lw, e))) 0 (suc q) in
      let x = new_graph (test_lowered t.is_until test seen) (q + size i) in
      let xh = test-to (γ ++ loop) t.is_until tz test x_fits seen seen_typed inside seen_count 0 (suc (q + size i)) in
      let b = new_graph (turns seen) (q + size i + size x) in
      let bz = defs_sized dz inside in
      let around = take_up (length env) seen in
      let around_typed = typed-take forms names γ loop seen (length env) (sym context) seen_typed in
      let around_count : length around ≡ n = let l = typed-length forms names around γ around_typed in omega (arith, l, context, e) in
      let held_typed = typed-drop forms names γ loop seen (length env) (sym context) seen_typed in
      let held_count : length (drop (length env) seen) ≡ s.values = let l = length-drop (length env) seen in omega (arith, l, seen_count, e) in
      let whole_count = typed-length forms names seen (γ ++ loop) seen_typed in
      let bh = turn-gives γ loop ((γ ++ loop) ++ later) (valued (inside + bz.values) bz) (defs_lowered ds seen) ez es s.values n around (λ ws. renew t.renewed (drop (length seen) ws) (drop (length env) seen))
      (forms_are.defs-to forms names (γ ++ loop) dz ds later d seen seen_typed inside seen_count) eh around_typed around_count
      (λ ws tw lw. (
        typed-renew forms names loop t.renewed later renews (drop (length seen) ws) (drop (length env) seen) (typed-drop forms names (γ ++ loop) later ws (length seen) (sym whole_count) tw) held_typed,
        length-renew t.renewed (drop (length seen) ws) (drop (length env) seen) ∙ held_count,
      )) 0 (suc (q + size i + size x)) in
      let places = collected named (length loop_wires) bs ps in
      let ms = map (wire_at (own_inputs 1 (map many (types i.values)))) places in
      let count = min (length bs) (length zs) in
      let ms_count : length ms ≡ count =
      let l = length-map places (wire_at (own_inputs 1 (map many (types i.values)))) in
      let c = collected-length named (length loop_wires) bs ps in
      let p = phrases-count (γ ++ loop) zs ps g in
      omega (arith, l, c, p) in
      let r = new_graph (returns_lowered (Wired one) t.clauses ms ns) (q + size i + size x + size b) in
      let rz = returns_sized false t.clauses count (length ns) in
      let rh = returns-give (Wired one) t.clauses ms count ns ms_count 0 (suc (q + size i + size x + size b)) in
      let xz = test_sized t.is_until tz inside in
      let iz = beside s row in
      let wz = beside (valued s.values bz) row in
      whole-sized (Of forms names made) k q (loop_kind t.is_first) (iz ∷ xz ∷ wz ∷ rz ∷ []) (i ∷ x ∷ b ∷ r ∷ []) (0 ∷ 1 ∷ 2 ∷ 3 ∷ []) 0 ns
      (a_part iz (xz ∷ wz ∷ rz ∷ []) i (x ∷ b ∷ r ∷ []) ih (a_part xz (wz ∷ rz ∷ []) x (b ∷ r ∷ []) xh (a_part wz (rz ∷ []) b (r ∷ []) bh (a_part rz [] r [] rh no_part))))
      (typed-ports forms names ns made num (suc k) 1)
