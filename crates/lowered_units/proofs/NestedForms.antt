-- Each form of phrase nests at most one level more than its parts.
use Rattle.std.proofs.Common.{ℕ, suc, ◌+◌, Bool, true, false, List, [], ◌∷◌, ◌++◌, map, length, drop, Option, Some, None}
use Rattle.flow_value.specs.declared.operation.Scalar1.TheVariants as unary
use Rattle.if1_graph.specs.declared.op.Simple.{Simple}
use Rattle.if1_graph.specs.declared.op.Simple.TheVariants as simple
use Rattle.if1_graph.specs.declared.op.Compound.{Compound}
use Rattle.if1_graph.specs.declared.op.Compound.TheVariants as compound
use Rattle.sisal_tree.specs.declared.expr.Constant.{Constant}
use Rattle.sisal_tree.specs.declared.expr.Constant.TheVariants as constant
use Rattle.sisal_tree.specs.declared.expr.Direction.{Direction}
use Rattle.loop_folds.specs.declared.folding.Folding.{Folding}
use Rattle.loop_folds.specs.declared.folding.Folding.TheVariants as folding
use Rattle.type_table.specs.declared.form.Form.{Form}
use Rattle.typed_tree.specs.declared.expr.Case.{Case}
use Rattle.typed_tree.specs.declared.expr.Product.{Product}
use Rattle.typed_tree.specs.declared.expr.Turns.{Turns}
use Rattle.typed_tree.specs.declared.expr.Source.{Source}
use Rattle.typed_tree.specs.declared.expr.Source.TheVariants as source
use Rattle.typed_tree.specs.declared.expr.ClauseForm.{ClauseForm}
use Rattle.typed_tree.specs.declared.program.Program.{Program}
use Rattle.value_ops.specs.declared.operation.Operation.{Operation}
use Rattle.value_ops.specs.declared.operation.Operation.TheVariants as operation
use Rattle.lowering.specs.declared.feed.Feed.TheVariants.{Literal}
use Rattle.lowering.specs.declared.feed.Carried.{Carried}
use Rattle.lowering.specs.declared.feed.Carried.TheVariants.{One, Many}
use Rattle.lowering.specs.declared.feed.Wire.{Wire}
use Rattle.lowering.specs.Feeds.{wire, into}
use Rattle.lowering.specs.declared.graph.Action.TheVariants.{Row, Call}
use Rattle.lowering.specs.Graphs.{Lowering, only, andthen, a_node, size, new_graph, new_graphs}
use Rattle.lowering.specs.Operations.{Lowers, boolean, integer, one, all_lowered, defs_lowered, body_lowered, wire_at, row_lowered, constant_lowered, operation_lowered}
use Rattle.lowering.specs.Choices.{tag_count, type_of, selector_lowered, if_lowered, tag_case, arms_of, arm_names, arms_from, case_lowered, two_arms, truth, is_tag_lowered}
use Rattle.lowering.specs.Loops.{own_inputs, many, single, types, take_up, with_not, unless_places, clauses_lowered, span, Bound, Wired, Limit, fold_lowered, returns_lowered, width, elements_in, generator_lowered, generators_lowered, bound_of, product_lowered, Phrase, loop_lowered, loop_kind, loop_name, extra, extras, collected, renew, test_lowered, row_of_turn, initial_lowered}
use Rattle.lowering.specs.Phrases.{each, call_lowered}
use Rattle.lowered_units.proofs.Nested.{Nests, AllNest}
use Rattle.lowered_units.proofs.Nested as nested

module _ (p : Program) (k : ℕ) where
  abbrev pub NestsTo : Lowers → Type 0
  NestsTo g = (env : List Wire) → Nests p k (g env)

  abbrev pub EachNest : List Lowers → Type 0
  EachNest [] = Unit {0}
  EachNest (g ∷ gs) = NestsTo g × EachNest gs

  abbrev pub ListsNest : List (List Lowers) → Type 0
  ListsNest [] = Unit {0}
  ListsNest (d ∷ ds) = EachNest d × ListsNest ds

  -- ---- lists

  pub all-nest : (gs : List Lowers) → EachNest gs → NestsTo (all_lowered gs)
  all-nest [] h env = nested.only-nests p k []
  all-nest (g ∷ gs) h env =
      nested.then-nests p k (g env) (λ vs. andthen (all_lowered gs env) (λ ws. only (vs ++ ws))) (h.0 env)
      (λ vs. nested.then-nests p k (all_lowered gs env) (λ ws. only (vs ++ ws)) (all-nest gs h.1 env) (λ ws. nested.only-nests p k (vs ++ ws)))

  defs-nest : (ds : List (List Lowers)) → ListsNest ds → NestsTo (defs_lowered ds)
  defs-nest [] h env = nested.only-nests p k env
  defs-nest (d ∷ ds) h env = nested.then-nests p k (all_lowered d env) (λ vs. defs_lowered ds (env ++ vs)) (all-nest d h.0 env) (λ vs. defs-nest ds h.1 (env ++ vs))

  pub body-nests : (ds : List (List Lowers)) (gs : List Lowers) → ListsNest ds → EachNest gs → NestsTo (body_lowered ds gs)
  body-nests ds gs d h env = nested.then-nests p k (defs_lowered ds env) (all_lowered gs) (defs-nest ds d env) (λ e. all-nest gs h e)

  -- ---- names, constants and operations

  pub row-nests : (op : Simple) (ws : List Wire) (ts : List ℕ) → Nests p k (row_lowered op ws ts)
  row-nests op ws ts = nested.node-nests p k (Row op) ws 1 (map One ts) tt

  pub constant-nests : (c : Constant) (ts : List ℕ) → Nests p k (constant_lowered c ts)
  constant-nests (constant.Quoted s) ts = row-nests simple.ABuild _ ts
  constant-nests (constant.Integer n) ts = nested.only-nests p k _
  constant-nests (constant.Letter c) ts = nested.only-nests p k _
  constant-nests constant.True ts = nested.only-nests p k _
  constant-nests constant.False ts = nested.only-nests p k _
  constant-nests constant.Nil ts = nested.only-nests p k _

  pub call-nests : (f : ℕ) (gs : List Lowers) (ts : List ℕ) → EachNest gs → NestsTo (call_lowered f gs ts)
  call-nests f gs ts h env = nested.then-nests p k (all_lowered gs env) (λ ws. a_node (Call f) ws 1 (map One ts)) (all-nest gs h env) (λ ws. nested.node-nests p k (Call f) ws 1 (map One ts) tt)

  pub operation-nests : (op : Operation) (ws : List Wire) (ts : List ℕ) → Nests p k (operation_lowered op ws ts)
  operation-nests (operation.Unary f) ws ts = row-nests (simple.One f) _ ts
  operation-nests (operation.Binary f) ws ts = row-nests (simple.Two f) _ ts
  operation-nests (operation.Swapped f) ws ts = row-nests (simple.Two f) _ ts
  operation-nests operation.Error ws ts = row-nests simple.Error _ ts
  operation-nests operation.Array ws ts = row-nests simple.ABuild _ ts
  operation-nests operation.EmptyArray ws ts = row-nests simple.ABuild _ ts
  operation-nests operation.Stream ws ts = row-nests simple.ABuild _ ts
  operation-nests operation.Fill ws ts = row-nests simple.AFill _ ts
  operation-nests operation.Element ws ts = row-nests simple.AElement _ ts
  operation-nests operation.Update ws ts = row-nests simple.AReplace _ ts
  operation-nests operation.AddHigh ws ts = row-nests simple.AAddH _ ts
  operation-nests operation.AddLow ws ts = row-nests simple.AAddL _ ts
  operation-nests operation.RemoveHigh ws ts = row-nests simple.ARemH _ ts
  operation-nests operation.RemoveLow ws ts = row-nests simple.ARemL _ ts
  operation-nests operation.SetLow ws ts = row-nests simple.ASetL _ ts
  operation-nests operation.Adjust ws ts = row-nests simple.AAdjust _ ts
  operation-nests operation.LimitLow ws ts = row-nests simple.ALimL _ ts
  operation-nests operation.LimitHigh ws ts = row-nests simple.ALimH _ ts
  operation-nests operation.Size ws ts = row-nests simple.ASize _ ts
  operation-nests operation.IsEmpty ws ts = row-nests simple.AIsEmpty _ ts
  operation-nests operation.Catenate ws ts = row-nests simple.ACatenate _ ts
  operation-nests operation.First ws ts = row-nests simple.FirstValue _ ts
  operation-nests operation.Rest ws ts = row-nests simple.RestValues _ ts
  operation-nests operation.Record ws ts = row-nests simple.RBuild _ ts
  operation-nests (operation.Union tag) ws ts = row-nests simple.RBuild _ ts
  operation-nests (operation.Field f) ws ts = nested.node-nests p k (Row simple.RElements) ws (suc f) (map One ts) tt
  operation-nests (operation.Change places) ws ts = row-nests simple.RReplace _ ts
  operation-nests (operation.IsTag tag) ws ts = nested.only-nests p k []

  -- ---- clauses

  not-nests : (g : Lowers) → NestsTo g → NestsTo (with_not g)
  not-nests g h env = nested.then-nests p k (g env) (λ ws. row_lowered (simple.One unary.Not) ws (boolean ∷ [])) (h env) (λ ws. row-nests (simple.One unary.Not) ws (boolean ∷ []))

  clauses-nest : (bs : List Bool) (gs : List Lowers) → EachNest gs → EachNest (clauses_lowered bs gs)
  clauses-nest bs [] h = tt
  clauses-nest [] (g ∷ gs) h = h
  clauses-nest (true ∷ bs) (g ∷ gs) h = (not-nests g h.0, clauses-nest bs gs h.1)
  clauses-nest (false ∷ bs) (g ∷ gs) h = (h.0, clauses-nest bs gs h.1)

  bound-nests : (b : Bound) (ms : List Wire) (t : ℕ) (d : Direction) → Nests p k (fold_lowered b folding.Array d ms t)
  bound-nests (Wired w) ms t d = row-nests simple.AGather (w ∷ ms) (t ∷ [])
  bound-nests (Limit w) ms t d =
      nested.then-nests p k (row_lowered simple.ALimL (w ∷ []) (integer ∷ [])) (λ ws. row_lowered simple.AGather (wire_at ws 0 ∷ ms) (t ∷ []))
      (row-nests simple.ALimL (w ∷ []) (integer ∷ [])) (λ ws. row-nests simple.AGather (wire_at ws 0 ∷ ms) (t ∷ []))

  fold-nests : (b : Bound) (f : Folding) (d : Direction) (ms : List Wire) (t : ℕ) → Nests p k (fold_lowered b f d ms t)
  fold-nests b folding.Array d ms t = bound-nests b ms t d
  fold-nests b folding.Stream d ms t = row-nests simple.AGather _ (t ∷ [])
  fold-nests b folding.Last d ms t = row-nests simple.FinalValue ms (t ∷ [])
  fold-nests b folding.Sum d ms t = row-nests _ _ (t ∷ [])
  fold-nests b folding.Product d ms t = row-nests _ _ (t ∷ [])
  fold-nests b folding.Least d ms t = row-nests _ _ (t ∷ [])
  fold-nests b folding.Greatest d ms t = row-nests _ _ (t ∷ [])
  fold-nests b folding.CatenateArrays d ms t = row-nests _ _ (t ∷ [])
  fold-nests b folding.CatenateStreams d ms t = row-nests _ _ (t ∷ [])

  returns-nest : (b : Bound) (cs : List ClauseForm) (ms : List Wire) (ts : List ℕ) → Nests p k (returns_lowered b cs ms ts)
  returns-nest b [] ms ts = nested.only-nests p k []
  returns-nest b (c ∷ cs) ms [] = nested.only-nests p k []
  returns-nest b (c ∷ cs) ms (t ∷ ts) =
      nested.then-nests p k (fold_lowered b c.folding c.direction (take_up (span c.masking) ms) t) (λ vs. andthen (returns_lowered b cs (drop (span c.masking) ms) ts) (λ ws. only (vs ++ ws)))
      (fold-nests b c.folding c.direction (take_up (span c.masking) ms) t)
      (λ vs. nested.then-nests p k (returns_lowered b cs (drop (span c.masking) ms) ts) (λ ws. only (vs ++ ws)) (returns-nest b cs (drop (span c.masking) ms) ts) (λ ws. nested.only-nests p k (vs ++ ws)))

  generators-nest : (forms : List Form) (ss : List Source) (ws : List Wire) → Nests p k (generators_lowered forms ss ws)
  generators-nest forms [] ws = nested.only-nests p k []
  generators-nest forms (s ∷ ss) ws =
      nested.then-nests p k (generator_lowered forms s (take_up (width s) ws)) (λ ms. andthen (generators_lowered forms ss (drop (width s) ws)) (λ ns. only (ms ++ ns)))
      (here s (take_up (width s) ws))
      (λ ms. nested.then-nests p k (generators_lowered forms ss (drop (width s) ws)) (λ ns. only (ms ++ ns)) (generators-nest forms ss (drop (width s) ws)) (λ ns. nested.only-nests p k (ms ++ ns)))
    where
      scatters : (ws : List Wire) → Nests p k (a_node (Row simple.AScatter) ws 1 (elements_in forms ws ∷ Many integer ∷ []))
      scatters ws = nested.node-nests p k (Row simple.AScatter) ws 1 (elements_in forms ws ∷ Many integer ∷ []) tt

      here : (s : Source) (ws : List Wire) → Nests p k (generator_lowered forms s ws)
      here source.Range ws = nested.node-nests p k (Row simple.RangeGenerate) ws 1 (Many integer ∷ []) tt
      here source.Elements ws = nested.then-nests p k (a_node (Row simple.AScatter) ws 1 (elements_in forms ws ∷ Many integer ∷ [])) (λ os. only (take_up 1 os)) (scatters ws) (λ os. nested.only-nests p k (take_up 1 os))
      here source.Indexed ws = scatters ws

  extra-nests : (o : Option ℕ) (g : Lowers) (gs : List Lowers) → NestsTo g → EachNest gs → EachNest (extra o g ++ gs)
  extra-nests None g gs h r = (h, r)
  extra-nests (Some x) g gs h r = r

  extras-nest : (loop : Option ℕ → Option ℕ) (bs : List Bool) (ps : List Phrase) → EachNest (each ps) → EachNest (extras loop bs ps)
  extras-nest loop bs [] h = tt
  extras-nest loop [] (x ∷ ps) h = tt
  extras-nest loop (true ∷ bs) (x ∷ ps) h = (not-nests x.lowers h.0, extras-nest loop bs ps h.1)
  extras-nest loop (false ∷ bs) (x ∷ ps) h = extra-nests (loop x.name) x.lowers (extras loop bs ps) h.0 (extras-nest loop bs ps h.1)

  turn-nests : (es : List Lowers) (around loop : List Wire) → EachNest es → Nests p k (row_of_turn es around loop)
  turn-nests es around loop h = nested.then-nests p k (all_lowered es (around ++ loop)) (λ ws. only (loop ++ ws)) (all-nest es h (around ++ loop)) (λ ws. nested.only-nests p k (loop ++ ws))

  test-nests : (u : Bool) (ts : List Lowers) → EachNest ts → NestsTo (test_lowered u ts)
  test-nests true ts h = not-nests (all_lowered ts) (all-nest ts h)
  test-nests false ts h = all-nest ts h

  -- ---- forms with graphs inside

  abbrev pub NestsIn : Lowers → Type 0
  NestsIn g = (env : List Wire) → Nests p (suc k) (g env)

  selector-nests : (ts : List Lowers) → EachNest ts → NestsTo (selector_lowered ts)
  selector-nests ts h env = nested.then-nests p k (all_lowered ts env) (λ ws. row_lowered (simple.One unary.Int) ws (integer ∷ [])) (all-nest ts h env) (λ ws. row-nests (simple.One unary.Int) ws (integer ∷ []))

  pub if-nests : (test arm other : List Lowers) (ts : List ℕ) → EachNest test → EachNest arm → EachNest other → NestsIn (if_lowered test arm other ts)
  if-nests test arm other ts t a o env n q =
      let s = new_graph (selector_lowered test (map into env)) q in
      let x = new_graph (all_lowered other (map into env)) (q + size s) in
      let y = new_graph (all_lowered arm (map into env)) (q + size s + size x) in
      nested.whole-nests p k n q compound.Select (s ∷ x ∷ y ∷ []) (0 ∷ 1 ∷ 2 ∷ []) 0 ts
      (selector-nests test t (map into env) 0 (suc q), (all-nest other o (map into env) 0 (suc (q + size s)), (all-nest arm a (map into env) 0 (suc (q + size s + size x)), tt)))

  tag-case-nests : (u : Wire) (fs : List Lowering) (arms ts : List ℕ) → AllNest p k fs → Nests p (suc k) (tag_case u fs arms ts)
  tag-case-nests u fs arms ts h n q = nested.tag-nests p k n q u (new_graphs q fs) arms ts (nested.new-nested p k q fs h)

  module _ (forms : List Form) where
    arms-nest : (c : Case) (type arm : ℕ) (arms : List (List Lowers)) (env : List Wire) → ListsNest arms → AllNest p k (arms_from forms c type arm (map all_lowered arms) env)
    arms-nest c type arm [] env h = tt
    arms-nest c type arm (g ∷ gs) env h = (all-nest g h.0 (arm_names forms c type arm env), arms-nest c type (suc arm) gs env h.1)

    pub case-nests : (c : Case) (arms : List (List Lowers)) (ts : List ℕ) (ws : List Wire) → ListsNest arms → NestsIn (case_lowered forms c arms ts ws)
    case-nests c arms ts ws h env =
        let type = type_of (wire_at ws 0).ty in
        tag-case-nests (wire_at ws 0) (arms_from forms c type 0 (map all_lowered arms) env) (arms_of c (tag_count forms type)) ts (arms-nest c type 0 arms env h)

    pub is-tag-nests : (tag : ℕ) (ws : List Wire) (ts : List ℕ) → Nests p (suc k) (is_tag_lowered forms tag ws ts)
    is-tag-nests tag ws ts =
        tag-case-nests (wire_at ws 0) (truth forms constant.True ∷ truth forms constant.False ∷ []) (two_arms forms tag 0 (tag_count forms (type_of (wire_at ws 0).ty))) ts
        (nested.only-nests p k (wire (Literal constant.True) (One boolean) ∷ []), (nested.only-nests p k (wire (Literal constant.False) (One boolean) ∷ []), tt))

    pub product-nests : (x : Product) (ds : List (List Lowers)) (gs : List Lowers) (ts : List ℕ) (bounds : List Wire) → ListsNest ds → EachNest gs → NestsIn (product_lowered forms x ds gs ts bounds)
    product-nests x ds gs ts bounds d h env n q =
        let body = body_lowered ds (clauses_lowered (unless_places x.clauses) gs) in
        let g = new_graph (generators_lowered forms x.sources (map into bounds)) q in
        let seen = map into env ++ own_inputs 1 (map single (types g.values)) in
        let b = new_graph (body seen) (q + size g) in
        let at = bound_of forms x.sources (map into bounds) in
        let ms = own_inputs (suc (length g.values)) (map many (types b.values)) in
        let r = new_graph (returns_lowered at x.clauses ms ts) (q + size g + size b) in
        nested.whole-nests p k n q compound.ForAll (g ∷ b ∷ r ∷ []) (0 ∷ 1 ∷ 2 ∷ []) (length b.values) ts (
          generators-nest forms x.sources (map into bounds) 0 (suc q),
          (
            body-nests ds (clauses_lowered (unless_places x.clauses) gs) d (clauses-nest (unless_places x.clauses) gs h) seen 0 (suc (q + size g)),
            (returns-nest at x.clauses ms ts 0 (suc (q + size g + size b)), tt),
          ),
        )

  loop-nests : (c : Compound) (first test turn : Lowers) (tys : List Carried) (places : List ℕ) (cs : List ClauseForm) (ts : List ℕ) → NestsTo first → NestsTo test → NestsTo turn → NestsIn (loop_lowered c first test turn tys places cs ts)
  loop-nests c first test turn tys places cs ts hi hx hb env n q =
      let seen = map into env ++ own_inputs 1 tys in
      let i = new_graph (first (map into env)) q in
      let x = new_graph (test seen) (q + size i) in
      let b = new_graph (turn seen) (q + size i + size x) in
      let ms = map (wire_at (own_inputs 1 (map many (types i.values)))) places in
      let r = new_graph (returns_lowered (Wired one) cs ms ts) (q + size i + size x + size b) in
      nested.whole-nests p k n q c (i ∷ x ∷ b ∷ r ∷ []) (0 ∷ 1 ∷ 2 ∷ 3 ∷ []) 0 ts
      (hi (map into env) 0 (suc q), (hx seen 0 (suc (q + size i)), (hb seen 0 (suc (q + size i + size x)), (returns-nest (Wired one) cs ms ts 0 (suc (q + size i + size x + size b)), tt))))

  pub initial-nests : (t : Turns) (fs : List (List Lowers)) (test : List Lowers) (ds : List (List Lowers)) (ps : List Phrase) (ts : List ℕ) → ListsNest fs → EachNest test → ListsNest ds → EachNest (each ps) → NestsIn (initial_lowered t fs test ds ps ts)
  initial-nests t fs test ds ps ts f x d g env n q =
      let names = new_graph (andthen (defs_lowered fs (map into env)) (λ all. only (drop (length env) all))) q in
      let loop = loop_name (length env) (length names.values) in
      let bs = unless_places t.clauses in
      let es = extras loop bs ps in
      let eh = extras-nest loop bs ps g in
      loop-nests (loop_kind t.is_first)
      (λ around. andthen (defs_lowered fs around) (λ all. row_of_turn es around (drop (length env) all)))
      (test_lowered t.is_until test)
      (λ inside. andthen (defs_lowered ds inside) (λ all. row_of_turn es (take_up (length env) inside) (renew t.renewed (drop (length inside) all) (drop (length env) inside))))
      (types names.values) (collected loop (length names.values) bs ps) t.clauses ts
      (λ e. nested.then-nests p k (defs_lowered fs e) (λ all. row_of_turn es e (drop (length env) all)) (defs-nest fs f e) (λ all. turn-nests es e (drop (length env) all) eh))
      (test-nests t.is_until test x)
      (λ e. nested.then-nests p k (defs_lowered ds e) (λ all. row_of_turn es (take_up (length env) e) (renew t.renewed (drop (length e) all) (drop (length env) e))) (defs-nest ds d e)
      (λ all. turn-nests es (take_up (length env) e) (renew t.renewed (drop (length e) all) (drop (length env) e)) eh))
      env n q
