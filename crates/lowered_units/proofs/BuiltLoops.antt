-- Loops, as they are made.
use Rattle.std.proofs.Common.{◌≡◌, ℕ, zero, suc, ◌+◌, ◌≤◌, Bool, true, false, List, [], ◌∷◌, ◌++◌, map, length, drop, Option, Some, None, refl, ◌∙◌, arith}
use Rattle.std.specs.Prelude.{IsSome, if◌then◌else◌}
use Rattle.std.proofs.lemmas.List.{length-map, length-append}
use Rattle.std.proofs.lemmas.List.Elements.{All-nil}
use Rattle.flow_value.specs.declared.operation.Scalar1.TheVariants as unary
use Rattle.if1_graph.specs.declared.op.Simple.TheVariants as simple
use Rattle.if1_graph.specs.declared.op.Compound.{Compound}
use Rattle.if1_graph.specs.declared.op.Compound.TheVariants as compound
use Rattle.if1_graph.specs.Ops.{reducer_at}
use Rattle.sisal_tree.specs.declared.expr.Direction.{Direction}
use Rattle.loop_folds.specs.declared.folding.Folding.{Folding}
use Rattle.loop_folds.specs.declared.folding.Folding.TheVariants as folding
use Rattle.type_table.specs.declared.form.Form.{Form}
use Rattle.typed_tree.specs.declared.expr.Product.{Product}
use Rattle.typed_tree.specs.declared.expr.Turns.{Turns}
use Rattle.typed_tree.specs.declared.expr.Source.{Source}
use Rattle.typed_tree.specs.declared.expr.Source.TheVariants as source
use Rattle.typed_tree.specs.declared.expr.ClauseForm.{ClauseForm}
use Rattle.lowering.specs.declared.feed.Feed.TheVariants.{Named}
use Rattle.lowering.specs.declared.feed.Carried.{Carried}
use Rattle.lowering.specs.declared.feed.Carried.TheVariants.{One, Many, Callee}
use Rattle.lowering.specs.declared.feed.Wire.{Wire}
use Rattle.lowering.specs.Feeds.{wire, into}
use Rattle.lowering.specs.declared.graph.Action.TheVariants.{Row}
use Rattle.lowering.specs.Graphs.{Lowering, only, andthen, a_node, size, new_graph}
use Rattle.lowering.specs.Operations.{Lowers, boolean, integer, one, all_lowered, defs_lowered, body_lowered, wire_at, row_lowered}
use Rattle.lowering.specs.Choices.{is_array, type_of}
use Rattle.lowering.specs.Loops.{own_inputs, many, single, types, take_up, with_not, unless_places, clauses_lowered, reducer_name, grouping_of, span, Bound, Wired, Limit, fold_lowered, returns_lowered, width, elements_in, generator_lowered, generators_lowered, bound_of, forall_lowered, product_lowered, Phrase, loop_lowered, loop_kind, loop_name, extra, extras, collected, renew, test_lowered, row_of_turn, initial_lowered}
use Rattle.lowering.specs.Phrases.{each}
use Rattle.lowered_units.proofs.Built.{AreParts, IsValueType, AreTypes, IsGood, AreGood, fills_row, fills_reduction, Built, b_only, b_then, b_whole, a_graph, no_graph, Gives, To, AllTo, to_none, to_more}
use Rattle.lowered_units.proofs.Built as built
use Rattle.lowered_units.proofs.BuiltForms.{HasBasics, DefsTo}
use Rattle.lowered_units.proofs.BuiltForms as forms_are

module _ (forms : List Form) (functions : ℕ) (basics : HasBasics forms) where
  -- ---- lowerings of any number of values

  abbrev pub Makes : Lowering → Type 0
  Makes f = (n q : ℕ) → Built forms functions n q (f n q)

  abbrev pub MakesTo : Lowers → Type 0
  MakesTo g = (env : List Wire) → AreGood forms functions env → Makes (g env)

  pub data EachMakes : List Lowers → Type 0 where
    makes_none : EachMakes []
    makes_more : (g : Lowers) (gs : List Lowers) → MakesTo g → EachMakes gs → EachMakes (g ∷ gs)

  pub then-makes : (f : Lowering) (h : List Wire → Lowering) → Makes f → ((ws : List Wire) → AreGood forms functions ws → Makes (h ws)) → Makes (andthen f h)
  then-makes f h a b n q =
      let m = f n q in
      b_then n q m (h m.values (n + length m.nodes) (q + length m.graphs)) (a n q) (b m.values (built.values-good forms functions n q m (a n q)) (n + length m.nodes) (q + length m.graphs))

  pub gives-makes : (k : ℕ) (f : Lowering) → Gives forms functions k f → Makes f
  gives-makes k f h n q = (h n q).0

  pub only-makes : (ws : List Wire) → AreGood forms functions ws → Makes (only ws)
  only-makes ws h n q = b_only n q ws h

  pub of-all : (gs : List Lowers) (k : ℕ) → AllTo forms functions gs k → EachMakes gs
  of-all _ _ to_none = makes_none
  of-all _ _ (to_more g gs j k h r) = makes_more g gs (λ env a n q. (h env a n q).0) (of-all gs k r)

  pub all-makes : (gs : List Lowers) → EachMakes gs → MakesTo (all_lowered gs)
  all-makes _ makes_none env a = only-makes [] tt
  all-makes _ (makes_more g gs h r) env a =
      then-makes (g env) (λ vs. andthen (all_lowered gs env) (λ ws. only (vs ++ ws))) (h env a)
      (λ vs gv. then-makes (all_lowered gs env) (λ ws. only (vs ++ ws)) (all-makes gs r env a) (λ ws gw. only-makes (vs ++ ws) (built.good-both forms functions vs ws gv gw)))

  pub defs-make : (ds : List (List Lowers)) (k : ℕ) → DefsTo forms functions ds k → MakesTo (defs_lowered ds)
  defs-make ds k h env a n q = (forms_are.defs-to forms functions basics ds k h env a n q).0

  pub body-makes : (ds : List (List Lowers)) (k : ℕ) (gs : List Lowers) → DefsTo forms functions ds k → EachMakes gs → MakesTo (body_lowered ds gs)
  body-makes ds k gs d h env a = then-makes (defs_lowered ds env) (all_lowered gs) (defs-make ds k d env a) (λ e ge. all-makes gs h e ge)

  -- ---- clauses

  pub not-makes : (g : Lowers) → MakesTo g → MakesTo (with_not g)
  not-makes g h env a =
      then-makes (g env) (λ ws. row_lowered (simple.One unary.Not) ws (boolean ∷ [])) (h env a)
      (λ ws gw. gives-makes 1 (row_lowered (simple.One unary.Not) ws (boolean ∷ [])) (forms_are.row-to forms functions basics (simple.One unary.Not) ws (boolean ∷ []) tt (built.good-filled forms functions ws gw) (forms_are.boolean-in forms functions basics, tt)))

  pub clauses-make : (bs : List Bool) (gs : List Lowers) → EachMakes gs → EachMakes (clauses_lowered bs gs)
  clauses-make bs _ makes_none = makes_none
  clauses-make [] _ (makes_more g gs h r) = makes_more g gs h r
  clauses-make (true ∷ bs) _ (makes_more g gs h r) = makes_more (with_not g) (clauses_lowered bs gs) (not-makes g h) (clauses-make bs gs r)
  clauses-make (false ∷ bs) _ (makes_more g gs h r) = makes_more g (clauses_lowered bs gs) h (clauses-make bs gs r)

  pub good-take : (k : ℕ) (ws : List Wire) → AreGood forms functions ws → AreGood forms functions (take_up k ws)
  good-take zero ws a = tt
  good-take (suc k) [] a = tt
  good-take (suc k) (w ∷ ws) a = (a.0, good-take k ws a.1)

  -- ---- returns

  abbrev pub IsBound : Bound → Type 0
  IsBound (Wired w) = IsGood forms functions w
  IsBound (Limit w) = IsGood forms functions w

  row-one : (ws : List Wire) (t : ℕ) → AreGood forms functions ws → AreTypes forms functions (One t ∷ []) → Gives forms functions 1 (row_lowered simple.AGather ws (t ∷ []))
  row-one ws t g k = forms_are.row-to forms functions basics simple.AGather ws (t ∷ []) tt (built.good-filled forms functions ws g) k

  reduction : (d : Direction) (name : List ℕ) (ms : List Wire) (t : ℕ) → IsSome (reducer_at name) → AreGood forms functions ms → AreTypes forms functions (One t ∷ [])
      → Gives forms functions 1 (row_lowered (simple.Reduce (grouping_of d)) (wire (Named name) (One integer) ∷ ms) (t ∷ []))
  reduction d name ms t s g k =
      built.node-gives forms functions (Row (simple.Reduce (grouping_of d))) (wire (Named name) (One integer) ∷ ms) 1 (One t ∷ []) (fills_reduction (grouping_of d) name ms s g) (omega arith) k

  pub fold-gives : (b : Bound) (f : Folding) (d : Direction) (ms : List Wire) (t : ℕ) → IsBound b → AreGood forms functions ms → AreTypes forms functions (One t ∷ []) → Gives forms functions 1 (fold_lowered b f d ms t)
  fold-gives (Wired w) folding.Array d ms t b g k = row-one (w ∷ ms) t (b, g) k
  fold-gives (Limit w) folding.Array d ms t b g k =
      built.then-gives forms functions 1 1 (row_lowered simple.ALimL (w ∷ []) (integer ∷ [])) (λ ws. row_lowered simple.AGather (wire_at ws 0 ∷ ms) (t ∷ []))
      (forms_are.row-to forms functions basics simple.ALimL (w ∷ []) (integer ∷ []) tt b (forms_are.integer-in forms functions basics, tt))
      (λ ws gw lw. row-one (wire_at ws 0 ∷ ms) t (forms_are.wire-good forms functions basics ws 0 gw, g) k)
  fold-gives b folding.Stream d ms t h g k = row-one (one ∷ ms) t (forms_are.one-good forms functions basics, g) k
  fold-gives b folding.Last d ms t h g k = forms_are.row-to forms functions basics simple.FinalValue ms (t ∷ []) tt (built.good-filled forms functions ms g) k
  fold-gives b folding.Sum d ms t h g k = reduction d (reducer_name folding.Sum) ms t refl g k
  fold-gives b folding.Product d ms t h g k = reduction d (reducer_name folding.Product) ms t refl g k
  fold-gives b folding.Least d ms t h g k = reduction d (reducer_name folding.Least) ms t refl g k
  fold-gives b folding.Greatest d ms t h g k = reduction d (reducer_name folding.Greatest) ms t refl g k
  fold-gives b folding.CatenateArrays d ms t h g k = reduction d (reducer_name folding.CatenateArrays) ms t refl g k
  fold-gives b folding.CatenateStreams d ms t h g k = reduction d (reducer_name folding.CatenateStreams) ms t refl g k

  pub returns-give : (b : Bound) (cs : List ClauseForm) (ms : List Wire) (ts : List ℕ) → IsBound b → AreGood forms functions ms → AreTypes forms functions (map One ts) → length cs ≡ length ts → Gives forms functions (length ts) (returns_lowered b cs ms ts)
  returns-give b [] ms [] h g k e = built.only-gives forms functions [] tt
  returns-give b [] ms (t ∷ ts) h g k e = absurd (omega (arith, e))
  returns-give b (c ∷ cs) ms [] h g k e = absurd (omega (arith, e))
  returns-give b (c ∷ cs) ms (t ∷ ts) h g k e =
      built.then-gives forms functions 1 (suc (length ts)) (fold_lowered b c.folding c.direction (take_up (span c.masking) ms) t) (λ vs. andthen (returns_lowered b cs (drop (span c.masking) ms) ts) (λ ws. only (vs ++ ws)))
      (fold-gives b c.folding c.direction (take_up (span c.masking) ms) t h (good-take (span c.masking) ms g) (k.0, tt))
      (λ vs gv lv. built.then-gives forms functions (length ts) (suc (length ts)) (returns_lowered b cs (drop (span c.masking) ms) ts) (λ ws. only (vs ++ ws))
      (returns-give b cs (drop (span c.masking) ms) ts h (built.good-drop forms functions (span c.masking) ms g) k.1 (omega (arith, e)))
      (λ ws gw lw. forms_are.gives-as forms functions basics (length (vs ++ ws)) (suc (length ts)) (only (vs ++ ws)) (omega (arith, length-append vs ws, lv, lw)) (built.only-gives forms functions (vs ++ ws) (built.good-both forms functions vs ws gv gw))))

  -- ---- `for` over generators

  generator-makes : (s : Source) (ws : List Wire) → AreGood forms functions ws → Makes (generator_lowered forms s ws)
  generator-makes source.Range ws g =
      gives-makes 1 (a_node (Row simple.RangeGenerate) ws 1 (Many integer ∷ []))
      (built.node-gives forms functions (Row simple.RangeGenerate) ws 1 (Many integer ∷ []) (fills_row simple.RangeGenerate ws tt (built.good-filled forms functions ws g)) (omega arith) (forms_are.integer-in forms functions basics, tt))
  generator-makes source.Elements ws g = then-makes (a_node (Row simple.AScatter) ws 1 (elements_in forms ws ∷ Many integer ∷ [])) (λ os. only (take_up 1 os)) (scatters ws g) (λ os go. only-makes (take_up 1 os) (good-take 1 os go))
    where
      scatters : (ws : List Wire) → AreGood forms functions ws → Makes (a_node (Row simple.AScatter) ws 1 (elements_in forms ws ∷ Many integer ∷ []))
      scatters ws g = gives-makes 2 (a_node (Row simple.AScatter) ws 1 (elements_in forms ws ∷ Many integer ∷ []))
          (built.node-gives forms functions (Row simple.AScatter) ws 1 (elements_in forms ws ∷ Many integer ∷ []) (fills_row simple.AScatter ws tt (built.good-filled forms functions ws g)) (omega arith) (basics.elements (type_of (wire_at ws 0).ty), (forms_are.integer-in forms functions basics, tt)))
  generator-makes source.Indexed ws g =
      gives-makes 2 (a_node (Row simple.AScatter) ws 1 (elements_in forms ws ∷ Many integer ∷ []))
      (built.node-gives forms functions (Row simple.AScatter) ws 1 (elements_in forms ws ∷ Many integer ∷ []) (fills_row simple.AScatter ws tt (built.good-filled forms functions ws g)) (omega arith) (basics.elements (type_of (wire_at ws 0).ty), (forms_are.integer-in forms functions basics, tt)))

  generators-make : (ss : List Source) (ws : List Wire) → AreGood forms functions ws → Makes (generators_lowered forms ss ws)
  generators-make [] ws g = only-makes [] tt
  generators-make (s ∷ ss) ws g =
      then-makes (generator_lowered forms s (take_up (width s) ws)) (λ ms. andthen (generators_lowered forms ss (drop (width s) ws)) (λ ns. only (ms ++ ns)))
      (generator-makes s (take_up (width s) ws) (good-take (width s) ws g))
      (λ ms gm. then-makes (generators_lowered forms ss (drop (width s) ws)) (λ ns. only (ms ++ ns)) (generators-make ss (drop (width s) ws) (built.good-drop forms functions (width s) ws g))
      (λ ns gn. only-makes (ms ++ ns) (built.good-both forms functions ms ns gm gn)))

  bound-good : (ss : List Source) (ws : List Wire) → AreGood forms functions ws → IsBound (bound_of forms ss ws)
  bound-good [] ws g = forms_are.one-good forms functions basics
  bound-good (source.Range ∷ ss) ws g = forms_are.wire-good forms functions basics ws 0 g
  bound-good (source.Elements ∷ ss) ws g = either (is_array forms (type_of (wire_at ws 0).ty))
    where
      either : (b : Bool) → IsBound (if b then Limit (wire_at ws 0) else Wired one)
      either true = forms_are.wire-good forms functions basics ws 0 g
      either false = forms_are.one-good forms functions basics
  bound-good (source.Indexed ∷ ss) ws g = either (is_array forms (type_of (wire_at ws 0).ty))
    where
      either : (b : Bool) → IsBound (if b then Limit (wire_at ws 0) else Wired one)
      either true = forms_are.wire-good forms functions basics ws 0 g
      either false = forms_are.one-good forms functions basics

  single-type : (t : Carried) → IsValueType forms functions t → IsValueType forms functions (single t)
  single-type (One t) h = h
  single-type (Many t) h = h
  single-type (Callee f) h = h

  many-type : (t : Carried) → IsValueType forms functions t → IsValueType forms functions (many t)
  many-type (One t) h = h
  many-type (Many t) h = h
  many-type (Callee f) h = h

  singles : (ts : List Carried) → AreTypes forms functions ts → AreTypes forms functions (map single ts)
  singles [] h = tt
  singles (t ∷ ts) h = (single-type t h.0, singles ts h.1)

  manys : (ts : List Carried) → AreTypes forms functions ts → AreTypes forms functions (map many ts)
  manys [] h = tt
  manys (t ∷ ts) h = (many-type t h.0, manys ts h.1)

  pub forall-to : (ss : List Source) (cs : List ClauseForm) (body : Lowers) (ts : List ℕ) (bounds : List Wire) → MakesTo body → AreGood forms functions bounds → AreTypes forms functions (map One ts) → length cs ≡ length ts
      → To forms functions (length ts) (forall_lowered forms ss cs body ts bounds)
  forall-to ss cs body ts bounds mb gb k e env a n q =
      let outer = built.good-into forms functions bounds gb in
      let inner = built.good-into forms functions env a in
      let g = new_graph (generators_lowered forms ss (map into bounds)) q in
      let gh = generators-make ss (map into bounds) outer 0 (suc q) in
      let gt = built.types-good forms functions g.values (built.values-good forms functions 0 (suc q) g gh) in
      let seen = map into env ++ own_inputs 1 (map single (types g.values)) in
      let b = new_graph (body seen) (q + size g) in
      let bh = mb seen (built.good-both forms functions (map into env) (own_inputs 1 (map single (types g.values))) inner (built.good-ports forms functions 0 1 (map single (types g.values)) (omega arith) (singles (types g.values) gt))) 0 (suc (q + size g)) in
      let bt = built.types-good forms functions b.values (built.values-good forms functions 0 (suc (q + size g)) b bh) in
      let ms = own_inputs (suc (length g.values)) (map many (types b.values)) in
      let r = new_graph (returns_lowered (bound_of forms ss (map into bounds)) cs ms ts) (q + size g + size b) in
      let rh = returns-give (bound_of forms ss (map into bounds)) cs ms ts (bound-good ss (map into bounds) outer) (built.good-ports forms functions 0 (suc (length g.values)) (map many (types b.values)) (omega arith) (manys (types b.values) bt)) k e 0 (suc (q + size g + size b)) in (
        b_whole n q compound.ForAll (g ∷ b ∷ r ∷ []) (0 ∷ 1 ∷ 2 ∷ []) (length b.values) ts
            (a_graph q g (b ∷ r ∷ []) gh (a_graph (q + size g) b (r ∷ []) bh (a_graph (q + size g + size b) r [] rh.0 (no_graph (q + size g + size b + size r)))))
            (refl, rh.1)
            (forms_are.numbers-within forms functions basics 0 3 (omega arith) (1 ∷ 2 ∷ []) (forms_are.numbers-within forms functions basics 1 3 (omega arith) (2 ∷ []) (forms_are.numbers-within forms functions basics 2 3 (omega arith) [] (All-nil (λ k. k ≤ 3)))))
            k,
        built.length-ports forms functions (suc n) 1 (map One ts) ∙ length-map ts One,
      )

  pub product-to : (p : Product) (ds : List (List Lowers)) (j : ℕ) (gs : List Lowers) (l : ℕ) (ts : List ℕ) (bounds : List Wire) → DefsTo forms functions ds j → AllTo forms functions gs l → AreGood forms functions bounds → AreTypes forms functions (map One ts)
      → length p.clauses ≡ length ts → To forms functions (length ts) (product_lowered forms p ds gs ts bounds)
  product-to p ds j gs l ts bounds d h gb k e =
      forall-to p.sources p.clauses (body_lowered ds (clauses_lowered (unless_places p.clauses) gs)) ts bounds
      (body-makes ds j (clauses_lowered (unless_places p.clauses) gs) d (clauses-make (unless_places p.clauses) gs (of-all gs l h))) gb k e

  -- ---- `for initial`

  places-good : (ws : List Wire) (ps : List ℕ) → AreGood forms functions ws → AreGood forms functions (map (wire_at ws) ps)
  places-good ws [] g = tt
  places-good ws (p ∷ ps) g = (forms_are.wire-good forms functions basics ws p g, places-good ws ps g)

  pub loop-to : (c : Compound) (first test turn : Lowers) (tys : List Carried) (places : List ℕ) (cs : List ClauseForm) (ts : List ℕ) → MakesTo first → MakesTo test → MakesTo turn → AreTypes forms functions tys → length cs ≡ length ts → AreTypes forms functions (map One ts)
      → ((i x b r : ℕ) → r ≡ length ts → AreParts c (i ∷ x ∷ b ∷ r ∷ []) 0 (length ts)) → To forms functions (length ts) (loop_lowered c first test turn tys places cs ts)
  loop-to c first test turn tys places cs ts mi mx mb kt e k parts env a n q =
      let inner = built.good-into forms functions env a in
      let seen = map into env ++ own_inputs 1 tys in
      let gs = built.good-both forms functions (map into env) (own_inputs 1 tys) inner (built.good-ports forms functions 0 1 tys (omega arith) kt) in
      let i = new_graph (first (map into env)) q in
      let ih = mi (map into env) inner 0 (suc q) in
      let x = new_graph (test seen) (q + size i) in
      let xh = mx seen gs 0 (suc (q + size i)) in
      let b = new_graph (turn seen) (q + size i + size x) in
      let bh = mb seen gs 0 (suc (q + size i + size x)) in
      let it = built.types-good forms functions i.values (built.values-good forms functions 0 (suc q) i ih) in
      let ls = own_inputs 1 (map many (types i.values)) in
      let r = new_graph (returns_lowered (Wired one) cs (map (wire_at ls) places) ts) (q + size i + size x + size b) in
      let rh = returns-give (Wired one) cs (map (wire_at ls) places) ts (forms_are.one-good forms functions basics) (places-good ls places (built.good-ports forms functions 0 1 (map many (types i.values)) (omega arith) (manys (types i.values) it))) k e 0 (suc (q + size i + size x + size b)) in (
        b_whole n q c (i ∷ x ∷ b ∷ r ∷ []) (0 ∷ 1 ∷ 2 ∷ 3 ∷ []) 0 ts
            (a_graph q i (x ∷ b ∷ r ∷ []) ih (a_graph (q + size i) x (b ∷ r ∷ []) xh (a_graph (q + size i + size x) b (r ∷ []) bh (a_graph (q + size i + size x + size b) r [] rh.0 (no_graph (q + size i + size x + size b + size r))))))
            (parts (length i.values) (length x.values) (length b.values) (length r.values) rh.1)
            (forms_are.numbers-within forms functions basics 0 4 (omega arith) (1 ∷ 2 ∷ 3 ∷ []) (forms_are.numbers-within forms functions basics 1 4 (omega arith) (2 ∷ 3 ∷ []) (forms_are.numbers-within forms functions basics 2 4 (omega arith) (3 ∷ []) (forms_are.numbers-within forms functions basics 3 4 (omega arith) [] (All-nil (λ k. k ≤ 4))))))
            k,
        built.length-ports forms functions (suc n) 1 (map One ts) ∙ length-map ts One,
      )

  extra-makes : (o : Option ℕ) (g : Lowers) (gs : List Lowers) → MakesTo g → EachMakes gs → EachMakes (extra o g ++ gs)
  extra-makes None g gs h r = makes_more g gs h r
  extra-makes (Some x) g gs h r = r

  extras-make : (loop : Option ℕ → Option ℕ) (bs : List Bool) (ps : List Phrase) → EachMakes (each ps) → EachMakes (extras loop bs ps)
  extras-make loop bs [] h = makes_none
  extras-make loop [] (p ∷ ps) h = makes_none
  extras-make loop (true ∷ bs) (p ∷ ps) (makes_more _ _ h r) = makes_more (with_not p.lowers) (extras loop bs ps) (not-makes p.lowers h) (extras-make loop bs ps r)
  extras-make loop (false ∷ bs) (p ∷ ps) (makes_more _ _ h r) = extra-makes (loop p.name) p.lowers (extras loop bs ps) h (extras-make loop bs ps r)

  renew-good : (ds : List (Option ℕ)) (ws l : List Wire) → AreGood forms functions ws → AreGood forms functions l → AreGood forms functions (renew ds ws l)
  renew-good [] ws l g h = h
  renew-good (d ∷ ds) [] l g h = h
  renew-good (None ∷ ds) (w ∷ ws) l g h = renew-good ds ws l g.1 h
  renew-good (Some x ∷ ds) (w ∷ ws) l g h = built.good-set forms functions (renew ds ws l) x w (renew-good ds ws l g.1 h) g.0

  row-makes : (es : List Lowers) (around loop : List Wire) → EachMakes es → AreGood forms functions around → AreGood forms functions loop → Makes (row_of_turn es around loop)
  row-makes es around loop h g l =
      then-makes (all_lowered es (around ++ loop)) (λ ws. only (loop ++ ws)) (all-makes es h (around ++ loop) (built.good-both forms functions around loop g l))
      (λ ws gw. only-makes (loop ++ ws) (built.good-both forms functions loop ws l gw))

  test-makes : (u : Bool) (ts : List Lowers) → EachMakes ts → MakesTo (test_lowered u ts)
  test-makes true ts h = not-makes (all_lowered ts) (all-makes ts h)
  test-makes false ts h = all-makes ts h

  loop-parts : (b : Bool) (i x y r outs : ℕ) → r ≡ outs → AreParts (loop_kind b) (i ∷ x ∷ y ∷ r ∷ []) 0 outs
  loop-parts true i x y r outs e = e
  loop-parts false i x y r outs e = e

  pub initial-to : (t : Turns) (fs : List (List Lowers)) (j : ℕ) (test : List Lowers) (ds : List (List Lowers)) (l : ℕ) (ps : List Phrase) (ts : List ℕ) → DefsTo forms functions fs j → EachMakes test → DefsTo forms functions ds l → EachMakes (each ps)
      → AreTypes forms functions (map One ts) → length t.clauses ≡ length ts → To forms functions (length ts) (initial_lowered t fs test ds ps ts)
  initial-to t fs j test ds l ps ts f x d g k e env a n q =
      let around = map into env in
      let inner = built.good-into forms functions env a in
      let names = new_graph (andthen (defs_lowered fs around) (λ all. only (drop (length env) all))) q in
      let nh = then-makes (defs_lowered fs around) (λ all. only (drop (length env) all)) (defs-make fs j f around inner) (λ all ga. only-makes (drop (length env) all) (built.good-drop forms functions (length env) all ga)) 0 (suc q) in
      let loop = loop_name (length env) (length names.values) in
      let bs = unless_places t.clauses in
      let es = extras loop bs ps in
      let eh = extras-make loop bs ps g in
      loop-to (loop_kind t.is_first)
      (λ around. andthen (defs_lowered fs around) (λ all. row_of_turn es around (drop (length env) all)))
      (test_lowered t.is_until test)
      (λ inside. andthen (defs_lowered ds inside) (λ all. row_of_turn es (take_up (length env) inside) (renew t.renewed (drop (length inside) all) (drop (length env) inside))))
      (types names.values) (collected loop (length names.values) bs ps) t.clauses ts
      (λ e ge. then-makes (defs_lowered fs e) (λ all. row_of_turn es e (drop (length env) all)) (defs-make fs j f e ge) (λ all ga. row-makes es e (drop (length env) all) eh ge (built.good-drop forms functions (length env) all ga)))
      (test-makes t.is_until test x)
      (λ e ge. then-makes (defs_lowered ds e) (λ all. row_of_turn es (take_up (length env) e) (renew t.renewed (drop (length e) all) (drop (length env) e))) (defs-make ds l d e ge)
      (λ all ga. row-makes es (take_up (length env) e) (renew t.renewed (drop (length e) all) (drop (length env) e)) eh (good-take (length env) e ge) (renew-good t.renewed (drop (length e) all) (drop (length env) e) (built.good-drop forms functions (length e) all ga) (built.good-drop forms functions (length env) e ge))))
      (built.types-good forms functions names.values (built.values-good forms functions 0 (suc q) names nh)) e k (λ i x b r h. loop-parts t.is_first i x b r (length ts) h) env a n q
