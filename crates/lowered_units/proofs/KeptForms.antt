-- Each form of phrase keeps to the ports that its parts keep to, and gives wires of its types.
use Rattle.std.proofs.Common.{◌≡◌, ℕ, zero, suc, ◌+◌, ◌<◌, ◌≤◌, Bool, true, false, List, [], ◌∷◌, ◌++◌, map, length, drop, slice_get, Option, Some, None, refl, sym, subst, arith}
use Rattle.std.specs.Prelude.{◌^◌, if◌then◌else◌, nat_eq, nat_lt, slice_set}
use Rattle.std.proofs.lemmas.Bool.{ltb-true, ltb-false}
use Rattle.std.proofs.lemmas.List.{length-map, length-append, append_assoc, append-nil}
use Rattle.flow_value.specs.declared.operation.Scalar1.TheVariants as unary
use Rattle.flow_value.specs.declared.ty.Ty.{Ty}
use Rattle.flow_value.specs.declared.ty.Ty.TheVariants as ty
use Rattle.if1_graph.specs.declared.op.Simple.{Simple}
use Rattle.if1_graph.specs.declared.op.Simple.TheVariants as simple
use Rattle.if1_graph.specs.declared.op.Compound.{Compound}
use Rattle.if1_graph.specs.declared.op.Compound.TheVariants as compound
use Rattle.if1_graph.specs.Units.{greatest}
use Rattle.sisal_tree.specs.declared.expr.Constant.{Constant}
use Rattle.sisal_tree.specs.declared.expr.Constant.TheVariants as constant
use Rattle.sisal_tree.specs.declared.expr.Direction.{Direction}
use Rattle.loop_folds.specs.declared.folding.Folding.{Folding}
use Rattle.loop_folds.specs.declared.folding.Folding.TheVariants as folding
use Rattle.type_table.specs.declared.form.Form.{Form}
use Rattle.typed_tree.specs.declared.expr.Case.{Case}
use Rattle.typed_tree.specs.declared.expr.Product.{Product}
use Rattle.typed_tree.specs.declared.expr.Turns.{Turns}
use Rattle.typed_tree.specs.declared.expr.Source.{Source}
use Rattle.typed_tree.specs.declared.expr.Source.TheVariants as source
use Rattle.typed_tree.specs.declared.expr.ClauseForm.{ClauseForm}
use Rattle.typed_tree.specs.Types.{IsNumber, AreNumbers}
use Rattle.value_ops.specs.declared.operation.Operation.{Operation}
use Rattle.value_ops.specs.declared.operation.Operation.TheVariants as operation
use Rattle.fitting_trees.specs.Fitting.{Goes, Renews}
use Rattle.fitting_trees.specs.Fitting as is
use Rattle.lowering.specs.declared.feed.Feed.{Feed}
use Rattle.lowering.specs.declared.feed.Feed.TheVariants.{Literal, Named, Absent, Port}
use Rattle.lowering.specs.declared.feed.Carried.{Carried}
use Rattle.lowering.specs.declared.feed.Carried.TheVariants.{One, Many}
use Rattle.lowering.specs.declared.feed.Wire.{Wire}
use Rattle.lowering.specs.Feeds.{wire, inside, into, carried}
use Rattle.lowering.specs.declared.graph.Action.TheVariants.{Row, Call}
use Rattle.lowering.specs.Graphs.{Lowering, only, andthen, a_node, inputs, size, graph_lines, new_graph, new_graphs}
use Rattle.lowering.specs.Operations.{Lowers, boolean, character, integer, one, all_lowered, defs_lowered, body_lowered, wire_at, row_lowered, constant_lowered, absents, reversed, at_place, changed, operation_lowered}
use Rattle.lowering.specs.Choices.{element_of, is_array, content_of, tag_count, type_of, first_tag, selector_lowered, if_lowered, tag_case, arms_of, arms_from, case_lowered, two_arms, truth, is_tag_lowered, applied}
use Rattle.lowering.specs.Loops.{own_inputs, many, single, types, take_up, with_not, unless_places, clauses_lowered, reducer_name, grouping_of, span, Bound, Wired, Limit, fold_lowered, returns_lowered, width, elements_in, generator_lowered, generators_lowered, bound_of, product_lowered, Phrase, loop_lowered, loop_kind, loop_name, extra, extras, collected, renew, renew_one, test_lowered, row_of_turn, initial_lowered}
use Rattle.lowering.specs.Phrases.{each, call_lowered}
use Rattle.lowered_units.proofs.Kept.{inner, weight, IsBelow, AreBelow, Kept, Keeps, AllKeep}
use Rattle.lowered_units.proofs.Kept as keeping
use Rattle.lowered_units.proofs.Members.{EachLine, left-lines, HasFew}
use Rattle.lowered_units.proofs.Wired.{AreTyped, AreMultiples, multiples-both, ones-typed, own-typed, first-typed, the-number, typed-length, typed-both, typed-into, typed-drop, typed-take, typed-ports, typed-literals, typed-renew, array-elements, stream-elements}

-- the port at which an operation gives its value: a field has its own
abbrev pub reach : Operation → ℕ
reach (operation.Field f) = suc f
reach op = 1

module _ (most : ℕ) (two : 2 ≤ most) (fits : most + most + 2 ≤ 2 ^ 32) (forms : List Form) (names : List (List ℕ)) where
  pub at_least : 1 ≤ most
  at_least = omega (arith, two)

  abbrev pub Few : Carried → Type 0
  Few = HasFew forms names most

  abbrev pub Of : List Ty → List Wire → Type 0
  Of tys ws = AreTyped forms names ws tys

  abbrev pub Below : List Wire → Type 0
  Below ws = AreBelow most Few ws

  abbrev pub IsBelowOne : Wire → Type 0
  IsBelowOne w = IsBelow most Few w.feed

  abbrev pub Does : Lowering → Type 0
  Does f = Keeps most Few f

  -- values of these types
  abbrev pub Gives : List Ty → Lowering → Type 0
  Gives tys f = (n q : ℕ) → Of tys (f n q).values

  -- where names of these types are in force
  abbrev pub KeepsTo : List Ty → Lowers → Type 0
  KeepsTo γ g = (env : List Wire) → Of γ env → Below env → Does (g env)

  abbrev pub GivesTo : List Ty → List Ty → Lowers → Type 0
  GivesTo γ tys g = (env : List Wire) → Of γ env → Gives tys (g env)

  abbrev pub EachKeep : List Ty → List Lowers → Type 0
  EachKeep γ [] = Unit {0}
  EachKeep γ (g ∷ gs) = KeepsTo γ g × EachKeep γ gs

  -- phrases, and the types of the values of all
  pub data AllKeepTo : List Ty → List Lowers → List Ty → Type 0 where
    keep_none : (γ : List Ty) → AllKeepTo γ [] []
    keep_more : (γ : List Ty) (g : Lowers) (gs : List Lowers) (tys others : List Ty) → KeepsTo γ g → GivesTo γ tys g → AllKeepTo γ gs others → AllKeepTo γ (g ∷ gs) (tys ++ others)

  pub data DefsKeep : List Ty → List (List Lowers) → List Ty → Type 0 where
    keep_no_def : (γ : List Ty) → DefsKeep γ [] []
    keep_def : (γ : List Ty) (d : List Lowers) (ds : List (List Lowers)) (tys others : List Ty) → AllKeepTo γ d tys → DefsKeep (γ ++ tys) ds others → DefsKeep γ (d ∷ ds) (tys ++ others)

  -- arms, of which the first so many see a content of these types
  pub data ArmsKeep : List Ty → ℕ → List (List Lowers) → List Ty → Type 0 where
    keep_no_arm : (γ : List Ty) → ArmsKeep γ 0 [] []
    keep_named_arm : (γ : List Ty) (named : ℕ) (g : List Lowers) (gs : List (List Lowers)) (a : Ty) (contents : List Ty) → EachKeep (γ ++ a ∷ []) g → ArmsKeep γ named gs contents → ArmsKeep γ (suc named) (g ∷ gs) (a ∷ contents)
    keep_arm : (γ : List Ty) (g : List Lowers) (gs : List (List Lowers)) → EachKeep γ g → ArmsKeep γ 0 gs [] → ArmsKeep γ 0 (g ∷ gs) []

  each-of : (γ : List Ty) (gs : List Lowers) (tys : List Ty) → AllKeepTo γ gs tys → EachKeep γ gs
  each-of _ _ _ (keep_none γ) = tt
  each-of _ _ _ (keep_more γ g gs tys others h k r) = (h, each-of γ gs others r)

  -- ---- one after another

  pub then-gives : (tys : List Ty) (f : Lowering) (h : List Wire → Lowering) → ((ws : List Wire) → Gives tys (h ws)) → Gives tys (andthen f h)
  then-gives tys f h b n q = b (f n q).values (n + length (f n q).nodes) (q + length (f n q).graphs)

  known-gives : (known tys : List Ty) (f : Lowering) (h : List Wire → Lowering) → Gives known f → ((ws : List Wire) → Of known ws → Gives tys (h ws)) → Gives tys (andthen f h)
  known-gives known tys f h a b n q = b (f n q).values (a n q) (n + length (f n q).nodes) (q + length (f n q).graphs)

  pub then-knows : (known : List Ty) (f : Lowering) (h : List Wire → Lowering) → Does f → Gives known f → ((ws : List Wire) → Of known ws → Below ws → Does (h ws)) → Does (andthen f h)
  then-knows known f h a k b = keeping.then-knows most Few at_least fits (Of known) f h a k b

  only-does : (ws : List Wire) → Below ws → Does (only ws)
  only-does ws h = keeping.only-keeps most Few at_least fits ws h

  pub then-does : (f : Lowering) (h : List Wire → Lowering) → Does f → ((ws : List Wire) → Below ws → Does (h ws)) → Does (andthen f h)
  then-does f h a b = keeping.then-keeps most Few at_least fits f h a b

  both : (vs ws : List Wire) → Below vs → Below ws → Below (vs ++ ws)
  both vs ws a b = keeping.below-both most Few at_least fits vs ws a b

  -- ---- wires

  into-below : (w : Wire) → IsBelowOne w → IsBelowOne (into w)
  into-below w h = fed w.feed h
    where
      fed : (f : Feed) → IsBelow most Few f → IsBelow most Few (inside f)
      fed (Literal c) h = h
      fed (Named s) h = h
      fed Absent h = h
      fed (Port up n q) h = h

  all-into : (ws : List Wire) → Below ws → Below (map into ws)
  all-into [] h = tt
  all-into (w ∷ ws) h = (into-below w h.0, all-into ws h.1)

  below-at : (env : List Wire) (x : ℕ) → Below env → IsBelowOne (wire_at env x)
  below-at [] x h = tt
  below-at (w ∷ env) zero h = h.0
  below-at (w ∷ env) (suc x) h = below-at env x h.1

  below-drop : (k : ℕ) (ws : List Wire) → Below ws → Below (drop k ws)
  below-drop zero ws h = h
  below-drop (suc k) [] h = h
  below-drop (suc k) (w ∷ ws) h = below-drop k ws h.1

  below-take : (k : ℕ) (ws : List Wire) → Below ws → Below (take_up k ws)
  below-take zero ws h = tt
  below-take (suc k) [] h = tt
  below-take (suc k) (w ∷ ws) h = (h.0, below-take k ws h.1)

  below-set : (ws : List Wire) (k : ℕ) (w : Wire) → Below ws → IsBelowOne w → Below (slice_set ws k w)
  below-set [] k w a b = a
  below-set (v ∷ vs) zero w a b = (b, a.1)
  below-set (v ∷ vs) (suc k) w a b = (a.0, below-set vs k w a.1 b)

  pub own-below : (port : ℕ) (ts : List Carried) → port + length ts ≤ suc most → Below (own_inputs port ts)
  own-below port ts h = keeping.ports-below most Few at_least fits 0 port ts (omega arith) h

  -- ---- lists

  pub all-keep : (γ : List Ty) (gs : List Lowers) → EachKeep γ gs → KeepsTo γ (all_lowered gs)
  all-keep γ [] h env t a = only-does [] tt
  all-keep γ (g ∷ gs) h env t a =
      then-does (g env) (λ vs. andthen (all_lowered gs env) (λ ws. only (vs ++ ws))) (h.0 env t a)
      (λ vs bv. then-does (all_lowered gs env) (λ ws. only (vs ++ ws)) (all-keep γ gs h.1 env t a) (λ ws bw. only-does (vs ++ ws) (both vs ws bv bw)))

  pub all-give : (γ : List Ty) (gs : List Lowers) (tys : List Ty) → AllKeepTo γ gs tys → GivesTo γ tys (all_lowered gs)
  all-give _ _ _ (keep_none γ) env t n q = tt
  all-give _ _ _ (keep_more γ g gs tys others h k r) env t n q =
      let m = g env n q in
      let rest = all_lowered gs env (n + length m.nodes) (q + length m.graphs) in
      typed-both forms names m.values rest.values tys others (k env t n q) (all-give γ gs others r env t (n + length m.nodes) (q + length m.graphs))

  defs-give : (γ : List Ty) (ds : List (List Lowers)) (δ : List Ty) → DefsKeep γ ds δ → GivesTo γ (γ ++ δ) (defs_lowered ds)
  defs-give _ _ _ (keep_no_def γ) env t = λ n q. subst (λ u. Of u env) (sym (append-nil γ)) t
  defs-give _ _ _ (keep_def γ d ds tys others h r) env t =
      known-gives tys (γ ++ (tys ++ others)) (all_lowered d env) (λ vs. defs_lowered ds (env ++ vs)) (all-give γ d tys h env t)
      (λ vs tv. subst (λ u. Gives u (defs_lowered ds (env ++ vs))) (append_assoc γ tys others) (defs-give (γ ++ tys) ds others r (env ++ vs) (typed-both forms names env vs γ tys t tv)))

  defs-keep : (γ : List Ty) (ds : List (List Lowers)) (δ : List Ty) → DefsKeep γ ds δ → KeepsTo γ (defs_lowered ds)
  defs-keep _ _ _ (keep_no_def γ) env t a = only-does env a
  defs-keep _ _ _ (keep_def γ d ds tys others h r) env t a =
      then-knows tys (all_lowered d env) (λ vs. defs_lowered ds (env ++ vs)) (all-keep γ d (each-of γ d tys h) env t a) (all-give γ d tys h env t)
      (λ vs tv bv. defs-keep (γ ++ tys) ds others r (env ++ vs) (typed-both forms names env vs γ tys t tv) (both env vs a bv))

  pub body-keeps : (γ δ : List Ty) (ds : List (List Lowers)) (gs : List Lowers) → DefsKeep γ ds δ → EachKeep (γ ++ δ) gs → KeepsTo γ (body_lowered ds gs)
  body-keeps γ δ ds gs d h env t a = then-knows (γ ++ δ) (defs_lowered ds env) (all_lowered gs) (defs-keep γ ds δ d env t a) (defs-give γ ds δ d env t) (λ e te be. all-keep (γ ++ δ) gs h e te be)

  pub body-gives : (γ δ tys : List Ty) (ds : List (List Lowers)) (gs : List Lowers) → DefsKeep γ ds δ → AllKeepTo (γ ++ δ) gs tys → GivesTo γ tys (body_lowered ds gs)
  body-gives γ δ tys ds gs d h env t = known-gives (γ ++ δ) tys (defs_lowered ds env) (all_lowered gs) (defs-give γ ds δ d env t) (λ e te. all-give (γ ++ δ) gs tys h e te)

  -- ---- names, constants and operations

  pub name-keeps : (γ : List Ty) (x : ℕ) → KeepsTo γ (λ env. only (wire_at env x ∷ []))
  name-keeps γ x env t a = only-does (wire_at env x ∷ []) (below-at env x a, tt)

  pub row-keeps : (op : Simple) (ws : List Wire) (ts : List ℕ) → length ts ≤ most → Below ws → Does (row_lowered op ws ts)
  row-keeps op ws ts few h = let same = length-map ts One in keeping.node-keeps most Few at_least fits (Row op) ws 1 (map One ts) tt h (omega (arith, few, same))

  literals-below : (c : Constant) (ts : List ℕ) → Below (map (λ t. wire (Literal c) (One t)) ts)
  literals-below c [] = tt
  literals-below c (t ∷ ts) = (tt, literals-below c ts)

  letters-below : (s : List ℕ) → Below (map (λ c. wire (Literal (constant.Letter c)) (One character)) s)
  letters-below [] = tt
  letters-below (c ∷ s) = (tt, letters-below s)

  pub constant-keeps : (c : Constant) (ts : List ℕ) → length ts ≤ most → Does (constant_lowered c ts)
  constant-keeps (constant.Quoted s) ts few = row-keeps simple.ABuild (one ∷ map (λ c. wire (Literal (constant.Letter c)) (One character)) s) ts few (tt, letters-below s)
  constant-keeps (constant.Integer n) ts few = only-does _ (literals-below (constant.Integer n) ts)
  constant-keeps (constant.Letter c) ts few = only-does _ (literals-below (constant.Letter c) ts)
  constant-keeps constant.True ts few = only-does _ (literals-below constant.True ts)
  constant-keeps constant.False ts few = only-does _ (literals-below constant.False ts)
  constant-keeps constant.Nil ts few = only-does _ (literals-below constant.Nil ts)

  pub constant-gives : (c : Constant) (ns : List ℕ) (tys : List Ty) → AreNumbers forms names ns tys → Gives tys (constant_lowered c ns)
  constant-gives (constant.Quoted s) ns tys h n q = typed-ports forms names ns tys h (suc n) 1
  constant-gives (constant.Integer z) ns tys h n q = typed-literals forms names (constant.Integer z) ns tys h
  constant-gives (constant.Letter c) ns tys h n q = typed-literals forms names (constant.Letter c) ns tys h
  constant-gives constant.True ns tys h n q = typed-literals forms names constant.True ns tys h
  constant-gives constant.False ns tys h n q = typed-literals forms names constant.False ns tys h
  constant-gives constant.Nil ns tys h n q = typed-literals forms names constant.Nil ns tys h

  pub call-keeps : (γ : List Ty) (f : ℕ) (gs : List Lowers) (ts : List ℕ) → length ts ≤ most → EachKeep γ gs → KeepsTo γ (call_lowered f gs ts)
  call-keeps γ f gs ts few h env t a =
      let same = length-map ts One in
      then-does (all_lowered gs env) (λ ws. a_node (Call f) ws 1 (map One ts)) (all-keep γ gs h env t a)
      (λ ws b. keeping.node-keeps most Few at_least fits (Call f) ws 1 (map One ts) tt b (omega (arith, few, same)))

  reversed-below : (ws : List Wire) → Below ws → Below (reversed ws)
  reversed-below [] h = tt
  reversed-below (w ∷ ws) h = both (reversed ws) (w ∷ []) (reversed-below ws h.1) (h.0, tt)

  absents-below : (n : ℕ) → Below (absents n)
  absents-below zero = tt
  absents-below (suc n) = (tt, absents-below n)

  place-below : (p : ℕ) (xs : List ℕ) (ws : List Wire) → Below ws → IsBelowOne (at_place p xs ws)
  place-below p [] ws h = tt
  place-below p (x ∷ xs) [] h = tt
  place-below p (x ∷ xs) (w ∷ ws) h = by (nat_eq x p) (place-below p xs ws h.1)
    where
      by : (b : Bool) → IsBelowOne (at_place p xs ws) → IsBelowOne (if b then w else at_place p xs ws)
      by true r = h.0
      by false r = r

  changed-below : (p count : ℕ) (xs : List ℕ) (ws : List Wire) → Below ws → Below (changed p count xs ws)
  changed-below p zero xs ws h = tt
  changed-below p (suc count) xs ws h = (place-below p xs ws h, changed-below (suc p) count xs ws h)

  pub operation-keeps : (op : Operation) (ws : List Wire) (t : ℕ) → (EachLine Few (carried ws) → reach op ≤ most) → Below ws → Does (operation_lowered op ws (t ∷ []))
  operation-keeps (operation.Unary f) ws t k h = row-keeps (simple.One f) ws (t ∷ []) at_least h
  operation-keeps (operation.Binary f) ws t k h = row-keeps (simple.Two f) ws (t ∷ []) at_least h
  operation-keeps (operation.Swapped f) ws t k h = row-keeps (simple.Two f) (reversed ws) (t ∷ []) at_least (reversed-below ws h)
  operation-keeps operation.Error ws t k h = row-keeps simple.Error ws (t ∷ []) at_least h
  operation-keeps operation.Array ws t k h = row-keeps simple.ABuild ws (t ∷ []) at_least h
  operation-keeps operation.EmptyArray ws t k h = row-keeps simple.ABuild (one ∷ ws) (t ∷ []) at_least (tt, h)
  operation-keeps operation.Stream ws t k h = row-keeps simple.ABuild (one ∷ ws) (t ∷ []) at_least (tt, h)
  operation-keeps operation.Fill ws t k h = row-keeps simple.AFill ws (t ∷ []) at_least h
  operation-keeps operation.Element ws t k h = row-keeps simple.AElement ws (t ∷ []) at_least h
  operation-keeps operation.Update ws t k h = row-keeps simple.AReplace ws (t ∷ []) at_least h
  operation-keeps operation.AddHigh ws t k h = row-keeps simple.AAddH ws (t ∷ []) at_least h
  operation-keeps operation.AddLow ws t k h = row-keeps simple.AAddL ws (t ∷ []) at_least h
  operation-keeps operation.RemoveHigh ws t k h = row-keeps simple.ARemH ws (t ∷ []) at_least h
  operation-keeps operation.RemoveLow ws t k h = row-keeps simple.ARemL ws (t ∷ []) at_least h
  operation-keeps operation.SetLow ws t k h = row-keeps simple.ASetL ws (t ∷ []) at_least h
  operation-keeps operation.Adjust ws t k h = row-keeps simple.AAdjust ws (t ∷ []) at_least h
  operation-keeps operation.LimitLow ws t k h = row-keeps simple.ALimL ws (t ∷ []) at_least h
  operation-keeps operation.LimitHigh ws t k h = row-keeps simple.ALimH ws (t ∷ []) at_least h
  operation-keeps operation.Size ws t k h = row-keeps simple.ASize ws (t ∷ []) at_least h
  operation-keeps operation.IsEmpty ws t k h = row-keeps simple.AIsEmpty ws (t ∷ []) at_least h
  operation-keeps operation.Catenate ws t k h = row-keeps simple.ACatenate ws (t ∷ []) at_least h
  operation-keeps operation.First ws t k h = row-keeps simple.FirstValue ws (t ∷ []) at_least h
  operation-keeps operation.Rest ws t k h = row-keeps simple.RestValues ws (t ∷ []) at_least h
  operation-keeps operation.Record ws t k h = row-keeps simple.RBuild ws (t ∷ []) at_least h
  operation-keeps (operation.Union tag) ws t k h = row-keeps simple.RBuild (absents tag ++ ws) (t ∷ []) at_least (both (absents tag) ws (absents-below tag) h)
  operation-keeps (operation.Field f) ws t k h = λ n q e l.
      let few = k l in
      keeping.node-keeps most Few at_least fits (Row simple.RElements) ws (suc f) (One t ∷ []) tt h (omega (arith, few)) n q e l
  operation-keeps (operation.Change places) ws t k h =
      row-keeps simple.RReplace (wire_at ws 0 ∷ changed 0 (suc (greatest places)) places (drop 1 ws)) (t ∷ []) at_least (below-at ws 0 h, changed-below 0 (suc (greatest places)) places (drop 1 ws) (below-drop 1 ws h))
  operation-keeps (operation.IsTag tag) ws t k h = only-does [] tt

  -- ---- clauses

  not-keeps : (γ : List Ty) (g : Lowers) → KeepsTo γ g → KeepsTo γ (with_not g)
  not-keeps γ g h env t a = then-does (g env) (λ ws. row_lowered (simple.One unary.Not) ws (boolean ∷ [])) (h env t a) (λ ws b. row-keeps (simple.One unary.Not) ws (boolean ∷ []) at_least b)

  clauses-keep : (γ : List Ty) (bs : List Bool) (gs : List Lowers) → EachKeep γ gs → EachKeep γ (clauses_lowered bs gs)
  clauses-keep γ bs [] h = tt
  clauses-keep γ [] (g ∷ gs) h = h
  clauses-keep γ (true ∷ bs) (g ∷ gs) h = (not-keeps γ g h.0, clauses-keep γ bs gs h.1)
  clauses-keep γ (false ∷ bs) (g ∷ gs) h = (h.0, clauses-keep γ bs gs h.1)

  abbrev IsBoundBelow : Bound → Type 0
  IsBoundBelow (Wired w) = IsBelowOne w
  IsBoundBelow (Limit w) = IsBelowOne w

  bound-keeps : (b : Bound) (ms : List Wire) (t : ℕ) (d : Direction) → IsBoundBelow b → Below ms → Does (fold_lowered b folding.Array d ms t)
  bound-keeps (Wired w) ms t d b h = row-keeps simple.AGather (w ∷ ms) (t ∷ []) at_least (b, h)
  bound-keeps (Limit w) ms t d b h =
      then-does (row_lowered simple.ALimL (w ∷ []) (integer ∷ [])) (λ ws. row_lowered simple.AGather (wire_at ws 0 ∷ ms) (t ∷ []))
      (row-keeps simple.ALimL (w ∷ []) (integer ∷ []) at_least (b, tt)) (λ ws k. row-keeps simple.AGather (wire_at ws 0 ∷ ms) (t ∷ []) at_least (below-at ws 0 k, h))

  fold-keeps : (b : Bound) (f : Folding) (d : Direction) (ms : List Wire) (t : ℕ) → IsBoundBelow b → Below ms → Does (fold_lowered b f d ms t)
  fold-keeps b folding.Array d ms t k h = bound-keeps b ms t d k h
  fold-keeps b folding.Stream d ms t k h = row-keeps simple.AGather (one ∷ ms) (t ∷ []) at_least (tt, h)
  fold-keeps b folding.Last d ms t k h = row-keeps simple.FinalValue ms (t ∷ []) at_least h
  fold-keeps b folding.Sum d ms t k h = row-keeps (simple.Reduce (grouping_of d)) (wire (Named (reducer_name folding.Sum)) (One integer) ∷ ms) (t ∷ []) at_least (tt, h)
  fold-keeps b folding.Product d ms t k h = row-keeps (simple.Reduce (grouping_of d)) (wire (Named (reducer_name folding.Product)) (One integer) ∷ ms) (t ∷ []) at_least (tt, h)
  fold-keeps b folding.Least d ms t k h = row-keeps (simple.Reduce (grouping_of d)) (wire (Named (reducer_name folding.Least)) (One integer) ∷ ms) (t ∷ []) at_least (tt, h)
  fold-keeps b folding.Greatest d ms t k h = row-keeps (simple.Reduce (grouping_of d)) (wire (Named (reducer_name folding.Greatest)) (One integer) ∷ ms) (t ∷ []) at_least (tt, h)
  fold-keeps b folding.CatenateArrays d ms t k h = row-keeps (simple.Reduce (grouping_of d)) (wire (Named (reducer_name folding.CatenateArrays)) (One integer) ∷ ms) (t ∷ []) at_least (tt, h)
  fold-keeps b folding.CatenateStreams d ms t k h = row-keeps (simple.Reduce (grouping_of d)) (wire (Named (reducer_name folding.CatenateStreams)) (One integer) ∷ ms) (t ∷ []) at_least (tt, h)

  returns-keep : (b : Bound) (cs : List ClauseForm) (ms : List Wire) (ts : List ℕ) → IsBoundBelow b → Below ms → Does (returns_lowered b cs ms ts)
  returns-keep b [] ms ts k h = only-does [] tt
  returns-keep b (c ∷ cs) ms [] k h = only-does [] tt
  returns-keep b (c ∷ cs) ms (t ∷ ts) k h =
      then-does (fold_lowered b c.folding c.direction (take_up (span c.masking) ms) t) (λ vs. andthen (returns_lowered b cs (drop (span c.masking) ms) ts) (λ ws. only (vs ++ ws)))
      (fold-keeps b c.folding c.direction (take_up (span c.masking) ms) t k (below-take (span c.masking) ms h))
      (λ vs bv. then-does (returns_lowered b cs (drop (span c.masking) ms) ts) (λ ws. only (vs ++ ws)) (returns-keep b cs (drop (span c.masking) ms) ts k (below-drop (span c.masking) ms h))
      (λ ws bw. only-does (vs ++ ws) (both vs ws bv bw)))

  -- ---- generators

  scatters : (ws : List Wire) → Below ws → Does (a_node (Row simple.AScatter) ws 1 (elements_in forms ws ∷ Many integer ∷ []))
  scatters ws h = keeping.node-keeps most Few at_least fits (Row simple.AScatter) ws 1 (elements_in forms ws ∷ Many integer ∷ []) tt h (omega (arith, two))

  generator-keeps : (s : Source) (ws : List Wire) → Below ws → Does (generator_lowered forms s ws)
  generator-keeps source.Range ws h = keeping.node-keeps most Few at_least fits (Row simple.RangeGenerate) ws 1 (Many integer ∷ []) tt h (omega (arith, two))
  generator-keeps source.Elements ws h =
      then-does (a_node (Row simple.AScatter) ws 1 (elements_in forms ws ∷ Many integer ∷ [])) (λ os. only (take_up 1 os)) (scatters ws h) (λ os b. only-does (take_up 1 os) (below-take 1 os b))
  generator-keeps source.Indexed ws h = scatters ws h

  generators-keep : (ss : List Source) (ws : List Wire) → Below ws → Does (generators_lowered forms ss ws)
  generators-keep [] ws h = only-does [] tt
  generators-keep (s ∷ ss) ws h =
      then-does (generator_lowered forms s (take_up (width s) ws)) (λ ms. andthen (generators_lowered forms ss (drop (width s) ws)) (λ ns. only (ms ++ ns)))
      (generator-keeps s (take_up (width s) ws) (below-take (width s) ws h))
      (λ ms bm. then-does (generators_lowered forms ss (drop (width s) ws)) (λ ns. only (ms ++ ns)) (generators-keep ss (drop (width s) ws) (below-drop (width s) ws h))
      (λ ns bn. only-does (ms ++ ns) (both ms ns bm bn)))

  bound-below : (ss : List Source) (ws : List Wire) → Below ws → IsBoundBelow (bound_of forms ss ws)
  bound-below [] ws h = tt
  bound-below (source.Range ∷ ss) ws h = below-at ws 0 h
  bound-below (source.Elements ∷ ss) ws h = either (is_array forms (type_of (wire_at ws 0).ty))
    where
      either : (b : Bool) → IsBoundBelow (if b then Limit (wire_at ws 0) else Wired one)
      either true = below-at ws 0 h
      either false = tt
  bound-below (source.Indexed ∷ ss) ws h = either (is_array forms (type_of (wire_at ws 0).ty))
    where
      either : (b : Bool) → IsBoundBelow (if b then Limit (wire_at ws 0) else Wired one)
      either true = below-at ws 0 h
      either false = tt

  element-typed : (array : Bool) (ws : List Wire) (a : Ty) → Of ((if array then ty.Arr a else ty.Stream a) ∷ []) ws → IsNumber forms names (element_of forms (type_of (wire_at ws 0).ty)) a
  element-typed true ws a h = array-elements forms names (type_of (wire_at ws 0).ty) a (the-number forms names (wire_at ws 0).ty (ty.Arr a) (first-typed forms names ws (ty.Arr a) h))
  element-typed false ws a h = stream-elements forms names (type_of (wire_at ws 0).ty) a (the-number forms names (wire_at ws 0).ty (ty.Stream a) (first-typed forms names ws (ty.Stream a) h))

  beside-multiples : (s : Source) (ss : List Source) (ws : List Wire) (mine others : List Ty) → ((n q : ℕ) → AreMultiples forms names mine (generator_lowered forms s (take_up (width s) ws) n q).values)
      → ((n q : ℕ) → AreMultiples forms names others (generators_lowered forms ss (drop (width s) ws) n q).values) → (n q : ℕ) → AreMultiples forms names (mine ++ others) (generators_lowered forms (s ∷ ss) ws n q).values
  beside-multiples s ss ws mine others h r n q =
      let m = generator_lowered forms s (take_up (width s) ws) n q in
      let rest = generators_lowered forms ss (drop (width s) ws) (n + length m.nodes) (q + length m.graphs) in
      multiples-both forms names mine others m.values rest.values (h n q) (r (n + length m.nodes) (q + length m.graphs))

  -- the multiples of generators are of the types of their names
  generators-give : (ss : List Source) (tys xs : List Ty) → Goes ss tys xs → IsNumber forms names integer ty.Int → (ws : List Wire) → Of tys ws → (n q : ℕ) → AreMultiples forms names xs (generators_lowered forms ss ws n q).values
  generators-give _ _ _ is.no_source i ws h = λ n q. tt
  generators-give _ _ _ (is.over_range {ss = ss} {bounds = bounds} {names = xs} r) i ws h =
      beside-multiples source.Range ss ws (ty.Int ∷ []) xs (λ n q. (i, tt)) (generators-give ss bounds xs r i (drop 2 ws) (typed-drop forms names (ty.Int ∷ ty.Int ∷ []) bounds ws 2 refl h))
  generators-give _ _ _ (is.over_array {ss = ss} {bounds = bounds} {names = xs} a r) i ws h =
      beside-multiples source.Elements ss ws (a ∷ []) xs (λ n q. (element-typed true (take_up 1 ws) a (typed-take forms names (ty.Arr a ∷ []) bounds ws 1 refl h), tt))
      (generators-give ss bounds xs r i (drop 1 ws) (typed-drop forms names (ty.Arr a ∷ []) bounds ws 1 refl h))
  generators-give _ _ _ (is.over_stream {ss = ss} {bounds = bounds} {names = xs} a r) i ws h =
      beside-multiples source.Elements ss ws (a ∷ []) xs (λ n q. (element-typed false (take_up 1 ws) a (typed-take forms names (ty.Stream a ∷ []) bounds ws 1 refl h), tt))
      (generators-give ss bounds xs r i (drop 1 ws) (typed-drop forms names (ty.Stream a ∷ []) bounds ws 1 refl h))
  generators-give _ _ _ (is.over_array_at {ss = ss} {bounds = bounds} {names = xs} a r) i ws h =
      beside-multiples source.Indexed ss ws (a ∷ ty.Int ∷ []) xs (λ n q. (element-typed true (take_up 1 ws) a (typed-take forms names (ty.Arr a ∷ []) bounds ws 1 refl h), (i, tt)))
      (generators-give ss bounds xs r i (drop 1 ws) (typed-drop forms names (ty.Arr a ∷ []) bounds ws 1 refl h))
  generators-give _ _ _ (is.over_stream_at {ss = ss} {bounds = bounds} {names = xs} a r) i ws h =
      beside-multiples source.Indexed ss ws (a ∷ ty.Int ∷ []) xs (λ n q. (element-typed false (take_up 1 ws) a (typed-take forms names (ty.Stream a ∷ []) bounds ws 1 refl h), (i, tt)))
      (generators-give ss bounds xs r i (drop 1 ws) (typed-drop forms names (ty.Stream a ∷ []) bounds ws 1 refl h))

  -- ---- what loops collect

  extra-keeps : (γ : List Ty) (o : Option ℕ) (g : Lowers) (gs : List Lowers) → KeepsTo γ g → EachKeep γ gs → EachKeep γ (extra o g ++ gs)
  extra-keeps γ None g gs h r = (h, r)
  extra-keeps γ (Some x) g gs h r = r

  extras-keep : (γ : List Ty) (loop : Option ℕ → Option ℕ) (bs : List Bool) (ps : List Phrase) → EachKeep γ (each ps) → EachKeep γ (extras loop bs ps)
  extras-keep γ loop bs [] h = tt
  extras-keep γ loop [] (x ∷ ps) h = tt
  extras-keep γ loop (true ∷ bs) (x ∷ ps) h = (not-keeps γ x.lowers h.0, extras-keep γ loop bs ps h.1)
  extras-keep γ loop (false ∷ bs) (x ∷ ps) h = extra-keeps γ (loop x.name) x.lowers (extras loop bs ps) h.0 (extras-keep γ loop bs ps h.1)

  turn-keeps : (γ loop : List Ty) (es : List Lowers) (around loops : List Wire) → EachKeep (γ ++ loop) es → Of γ around → Of loop loops → Below around → Below loops → Does (row_of_turn es around loops)
  turn-keeps γ loop es around loops h s t a b =
      then-does (all_lowered es (around ++ loops)) (λ ws. only (loops ++ ws)) (all-keep (γ ++ loop) es h (around ++ loops) (typed-both forms names around loops γ loop s t) (both around loops a b)) (λ ws k. only-does (loops ++ ws) (both loops ws b k))

  test-keeps : (γ : List Ty) (u : Bool) (ts : List Lowers) → EachKeep γ ts → KeepsTo γ (test_lowered u ts)
  test-keeps γ true ts h env t a = not-keeps γ (all_lowered ts) (all-keep γ ts h) env t a
  test-keeps γ false ts h env t a = all-keep γ ts h env t a

  renew-below : (ds : List (Option ℕ)) (ws l : List Wire) → Below ws → Below l → Below (renew ds ws l)
  renew-below [] ws l a b = b
  renew-below (d ∷ ds) [] l a b = b
  renew-below (d ∷ ds) (w ∷ ws) l a b = by d (renew-below ds ws l a.1 b)
    where
      by : (d : Option ℕ) → Below (renew ds ws l) → Below (renew_one d w (renew ds ws l))
      by None r = r
      by (Some x) r = below-set (renew ds ws l) x w r a.0

  collected-below : (own : List Wire) (places : List ℕ) → Below own → Below (map (wire_at own) places)
  collected-below own [] h = tt
  collected-below own (x ∷ xs) h = (below-at own x h, collected-below own xs h)

  -- ---- forms with graphs inside

  selector-keeps : (γ : List Ty) (ts : List Lowers) → EachKeep γ ts → KeepsTo γ (selector_lowered ts)
  selector-keeps γ ts h env t a =
      then-does (all_lowered ts env) (λ ws. row_lowered (simple.One unary.Int) ws (integer ∷ [])) (all-keep γ ts h env t a) (λ ws b. row-keeps (simple.One unary.Int) ws (integer ∷ []) at_least b)

  pub if-keeps : (γ : List Ty) (test arm other : List Lowers) (ts : List ℕ) → EachKeep γ test → EachKeep γ arm → EachKeep γ other → KeepsTo γ (if_lowered test arm other ts)
  if-keeps γ test arm other ts x y z env t a n q e l =
      let b = all-into env a in
      let u = typed-into forms names env γ t in
      let s = new_graph (selector_lowered test (map into env)) q in
      let o = new_graph (all_lowered other (map into env)) (q + size s) in
      let i = new_graph (all_lowered arm (map into env)) (q + size s + size o) in
      let ms = s ∷ o ∷ i ∷ [] in
      let few = keeping.whole-few most Few at_least fits n q compound.Select ms (0 ∷ 1 ∷ 2 ∷ []) 0 ts e in
      let first = keeping.graph-few most Few at_least fits s (o ∷ i ∷ []) (left-lines Few (graph_lines ms) (carried (inputs ms)) l) in
      let second = keeping.graph-few most Few at_least fits o (i ∷ []) first.1 in
      let third = keeping.graph-few most Few at_least fits i [] second.1 in
      keeping.whole-kept most Few at_least fits n q compound.Select ms (0 ∷ 1 ∷ 2 ∷ []) 0 ts few (
        selector-keeps γ test x (map into env) u b 0 (suc q) (omega (arith, few)) first.0,
        (
          all-keep γ other z (map into env) u b 0 (suc (q + size s)) (omega (arith, few)) second.0,
          (all-keep γ arm y (map into env) u b 0 (suc (q + size s + size o)) (omega (arith, few)) third.0, tt),
        ),
      )

  tag-case-keeps : (u : Wire) (fs : List Lowering) (arms ts : List ℕ) → IsBelowOne u → AllKeep most Few fs → Does (tag_case u fs arms ts)
  tag-case-keeps u fs arms ts b h n q e l =
      let ms = new_graphs q fs in
      let few = keeping.tag-few most Few at_least fits n q u ms arms ts e in
      keeping.tag-kept most Few at_least fits n q u ms arms ts few b (keeping.new-kept most Few at_least fits q fs h (omega (arith, few)) (left-lines Few (graph_lines ms) (carried (u ∷ inputs ms)) l))

  arms-keep : (γ : List Ty) (named : ℕ) (arms : List (List Lowers)) (contents : List Ty) → ArmsKeep γ named arms contents → (c : Case) (type arm : ℕ) → c.named ≤ arm + named → (1 ≤ named → c.named ≡ arm + named)
      → ((d : ℕ) (a : Ty) → d < named → slice_get contents d ≡ Some a → IsNumber forms names (content_of forms type (first_tag c (arm + d))) a)
      → (env : List Wire) → Of γ env → Below env → AllKeep most Few (arms_from forms c type arm (map all_lowered arms) env)
  arms-keep _ _ _ _ (keep_no_arm γ) c type arm least count typed env t a = tt
  arms-keep _ _ _ _ (keep_named_arm γ named g gs b contents h r) c type arm least count typed env t a = (
    by (nat_lt arm c.named) refl,
    arms-keep γ named gs contents r c type (suc arm) (omega (arith, least)) (λ l. let all = count (omega arith) in omega (arith, all))
        (λ d x l k. subst (λ i. IsNumber forms names (content_of forms type (first_tag c i)) x) (omega arith) (typed (suc d) x (omega (arith, l)) k)) env t a,
  )
    where
      content : IsNumber forms names (content_of forms type (first_tag c arm)) b
      content = subst (λ i. IsNumber forms names (content_of forms type (first_tag c i)) b) (omega arith) (typed 0 b (omega arith) refl)

      by : (o : Bool) → nat_lt arm c.named ≡ o → Does (all_lowered g (if o then map into env ++ wire (Port 0 0 1) (One (content_of forms type (first_tag c arm))) ∷ [] else map into env))
      by true k =
          let w = wire (Port 0 0 1) (One (content_of forms type (first_tag c arm))) in
          all-keep (γ ++ b ∷ []) g h (map into env ++ w ∷ []) (typed-both forms names (map into env) (w ∷ []) γ (b ∷ []) (typed-into forms names env γ t) ((content, tt), tt)) (both (map into env) (w ∷ []) (all-into env a) ((omega arith, at_least), tt))
      by false k =
          let l = ltb-false arm c.named k in
          let all = count (omega arith) in
          absurd (omega (arith, l, all))
  arms-keep _ _ _ _ (keep_arm γ g gs h r) c type arm least count typed env t a = (
    by (nat_lt arm c.named) refl,
    arms-keep γ 0 gs [] r c type (suc arm) (omega (arith, least)) (λ l. absurd (omega (arith, l))) (λ d x l k. absurd (omega (arith, l))) env t a,
  )
    where
      by : (o : Bool) → nat_lt arm c.named ≡ o → Does (all_lowered g (if o then map into env ++ wire (Port 0 0 1) (One (content_of forms type (first_tag c arm))) ∷ [] else map into env))
      by true k = let l = ltb-true arm c.named k in absurd (omega (arith, l, least))
      by false k = all-keep γ g h (map into env) (typed-into forms names env γ t) (all-into env a)

  pub case-keeps : (γ : List Ty) (c : Case) (arms : List (List Lowers)) (contents : List Ty) (ts : List ℕ) (ws : List Wire) → Below ws → ArmsKeep γ c.named arms contents
      → ((d : ℕ) (a : Ty) → d < c.named → slice_get contents d ≡ Some a → IsNumber forms names (content_of forms (type_of (wire_at ws 0).ty) (first_tag c d)) a) → KeepsTo γ (case_lowered forms c arms ts ws)
  case-keeps γ c arms contents ts ws b h typed env t a =
      let type = type_of (wire_at ws 0).ty in
      tag-case-keeps (wire_at ws 0) (arms_from forms c type 0 (map all_lowered arms) env) (arms_of c (tag_count forms type)) ts (below-at ws 0 b)
      (arms-keep γ c.named arms contents h c type 0 (omega arith) (λ l. omega arith) (λ d x l k. subst (λ i. IsNumber forms names (content_of forms type (first_tag c i)) x) (omega arith) (typed d x l k)) env t a)

  is-tag-keeps : (tag : ℕ) (ws : List Wire) (ts : List ℕ) → Below ws → Does (is_tag_lowered forms tag ws ts)
  is-tag-keeps tag ws ts b =
      tag-case-keeps (wire_at ws 0) (truth forms constant.True ∷ truth forms constant.False ∷ []) (two_arms forms tag 0 (tag_count forms (type_of (wire_at ws 0).ty))) ts (below-at ws 0 b)
      (only-does (wire (Literal constant.True) (One boolean) ∷ []) (tt, tt), (only-does (wire (Literal constant.False) (One boolean) ∷ []) (tt, tt), tt))

  pub applied-keeps : (o : Operation) (ws : List Wire) (t : ℕ) → (EachLine Few (carried ws) → reach o ≤ most) → Below ws → Does (applied forms o ws (t ∷ []))
  applied-keeps (operation.IsTag tag) ws t k h = is-tag-keeps tag ws (t ∷ []) h
  applied-keeps o ws t k h = by o (operation-keeps o ws t k h)
    where
      by : (o : Operation) → Does (operation_lowered o ws (t ∷ [])) → Does (applied forms o ws (t ∷ []))
      by (operation.IsTag tag) r = is-tag-keeps tag ws (t ∷ []) h
      by o r = r

  pub applied-gives : (o : Operation) (ws : List Wire) (ns : List ℕ) (tys : List Ty) → AreNumbers forms names ns tys → Gives tys (applied forms o ws ns)
  applied-gives (operation.Unary f) ws ns tys h n q = typed-ports forms names ns tys h (suc n) 1
  applied-gives (operation.Binary f) ws ns tys h n q = typed-ports forms names ns tys h (suc n) 1
  applied-gives (operation.Swapped f) ws ns tys h n q = typed-ports forms names ns tys h (suc n) 1
  applied-gives operation.Error ws ns tys h n q = typed-ports forms names ns tys h (suc n) 1
  applied-gives operation.Array ws ns tys h n q = typed-ports forms names ns tys h (suc n) 1
  applied-gives operation.EmptyArray ws ns tys h n q = typed-ports forms names ns tys h (suc n) 1
  applied-gives operation.Stream ws ns tys h n q = typed-ports forms names ns tys h (suc n) 1
  applied-gives operation.Fill ws ns tys h n q = typed-ports forms names ns tys h (suc n) 1
  applied-gives operation.Element ws ns tys h n q = typed-ports forms names ns tys h (suc n) 1
  applied-gives operation.Update ws ns tys h n q = typed-ports forms names ns tys h (suc n) 1
  applied-gives operation.AddHigh ws ns tys h n q = typed-ports forms names ns tys h (suc n) 1
  applied-gives operation.AddLow ws ns tys h n q = typed-ports forms names ns tys h (suc n) 1
  applied-gives operation.RemoveHigh ws ns tys h n q = typed-ports forms names ns tys h (suc n) 1
  applied-gives operation.RemoveLow ws ns tys h n q = typed-ports forms names ns tys h (suc n) 1
  applied-gives operation.SetLow ws ns tys h n q = typed-ports forms names ns tys h (suc n) 1
  applied-gives operation.Adjust ws ns tys h n q = typed-ports forms names ns tys h (suc n) 1
  applied-gives operation.LimitLow ws ns tys h n q = typed-ports forms names ns tys h (suc n) 1
  applied-gives operation.LimitHigh ws ns tys h n q = typed-ports forms names ns tys h (suc n) 1
  applied-gives operation.Size ws ns tys h n q = typed-ports forms names ns tys h (suc n) 1
  applied-gives operation.IsEmpty ws ns tys h n q = typed-ports forms names ns tys h (suc n) 1
  applied-gives operation.Catenate ws ns tys h n q = typed-ports forms names ns tys h (suc n) 1
  applied-gives operation.First ws ns tys h n q = typed-ports forms names ns tys h (suc n) 1
  applied-gives operation.Rest ws ns tys h n q = typed-ports forms names ns tys h (suc n) 1
  applied-gives operation.Record ws ns tys h n q = typed-ports forms names ns tys h (suc n) 1
  applied-gives (operation.Union tag) ws ns tys h n q = typed-ports forms names ns tys h (suc n) 1
  applied-gives (operation.Change places) ws ns tys h n q = typed-ports forms names ns tys h (suc n) 1
  applied-gives (operation.IsTag tag) ws ns tys h n q = typed-ports forms names ns tys h (suc n) 1
  applied-gives (operation.Field f) ws ns tys h n q = typed-ports forms names ns tys h (suc n) (suc f)

  pub product-keeps : (γ xs δ tys : List Ty) (x : Product) (ds : List (List Lowers)) (gs : List Lowers) (ts : List ℕ) (bounds : List Wire) → Goes x.sources tys xs → IsNumber forms names integer ty.Int → Of tys bounds → Below bounds
      → DefsKeep (γ ++ xs) ds δ → EachKeep ((γ ++ xs) ++ δ) gs → KeepsTo γ (product_lowered forms x ds gs ts bounds)
  product-keeps γ xs δ tys x ds gs ts bounds goes integers tb bb d h env t a n q e l =
      let outer = all-into bounds bb in
      let outer_typed = typed-into forms names bounds tys tb in
      let body = body_lowered ds (clauses_lowered (unless_places x.clauses) gs) in
      let g = new_graph (generators_lowered forms x.sources (map into bounds)) q in
      let multiples = generators-give x.sources tys xs goes integers (map into bounds) outer_typed 0 (suc q) in
      let seen = map into env ++ own_inputs 1 (map single (types g.values)) in
      let b = new_graph (body seen) (q + size g) in
      let at = bound_of forms x.sources (map into bounds) in
      let own = own_inputs (suc (length g.values)) (map many (types b.values)) in
      let r = new_graph (returns_lowered at x.clauses own ts) (q + size g + size b) in
      let ms = g ∷ b ∷ r ∷ [] in
      let few = keeping.whole-few most Few at_least fits n q compound.ForAll ms (0 ∷ 1 ∷ 2 ∷ []) (length b.values) ts e in
      let first = keeping.graph-few most Few at_least fits g (b ∷ r ∷ []) (left-lines Few (graph_lines ms) (carried (inputs ms)) l) in
      let second = keeping.graph-few most Few at_least fits b (r ∷ []) first.1 in
      let third = keeping.graph-few most Few at_least fits r [] second.1 in
      let sizes_t = length-map (types g.values) single in
      let sizes_g = length-map g.values (λ (w : Wire). w.ty) in
      let sizes_m = length-map (types b.values) many in
      let sizes_b = length-map b.values (λ (w : Wire). w.ty) in
      let inner_below = both (map into env) (own_inputs 1 (map single (types g.values))) (all-into env a) (own-below 1 (map single (types g.values)) (omega (arith, few, sizes_t, sizes_g))) in
      let inner_typed = typed-both forms names (map into env) (own_inputs 1 (map single (types g.values))) γ xs (typed-into forms names env γ t) (ones-typed forms names xs g.values multiples 0 1) in
      let own_is = own-below (suc (length g.values)) (map many (types b.values)) (omega (arith, few, sizes_m, sizes_b)) in
      keeping.whole-kept most Few at_least fits n q compound.ForAll ms (0 ∷ 1 ∷ 2 ∷ []) (length b.values) ts few (
        generators-keep x.sources (map into bounds) outer 0 (suc q) (omega (arith, few)) first.0,
        (
          body-keeps (γ ++ xs) δ ds (clauses_lowered (unless_places x.clauses) gs) d (clauses-keep ((γ ++ xs) ++ δ) (unless_places x.clauses) gs h) seen inner_typed inner_below 0 (suc (q + size g)) (omega (arith, few)) second.0,
          (returns-keep at x.clauses own ts (bound-below x.sources (map into bounds) outer) own_is 0 (suc (q + size g + size b)) (omega (arith, few)) third.0, tt),
        ),
      )

  loop-keeps : (γ loop : List Ty) (c : Compound) (first test turn : Lowers) (tys : List Carried) (places : List ℕ) (cs : List ClauseForm) (ts : List ℕ) → KeepsTo γ first → KeepsTo (γ ++ loop) test → KeepsTo (γ ++ loop) turn → Of loop (own_inputs 1 tys)
      → (env : List Wire) → Of γ env → Below env → (n q : ℕ) → length tys ≤ length (new_graph (first (map into env)) q).values → n + weight (loop_lowered c first test turn tys places cs ts env n q) ≤ most
      → EachLine Few (loop_lowered c first test turn tys places cs ts env n q).lines → Kept most Few (loop_lowered c first test turn tys places cs ts env n q)
  loop-keeps γ loop c first test turn tys places cs ts hi hx hb own_typed env t a n q among e l =
      let seen = map into env ++ own_inputs 1 tys in
      let i = new_graph (first (map into env)) q in
      let x = new_graph (test seen) (q + size i) in
      let b = new_graph (turn seen) (q + size i + size x) in
      let own = own_inputs 1 (map many (types i.values)) in
      let r = new_graph (returns_lowered (Wired one) cs (map (wire_at own) places) ts) (q + size i + size x + size b) in
      let ms = i ∷ x ∷ b ∷ r ∷ [] in
      let few = keeping.whole-few most Few at_least fits n q c ms (0 ∷ 1 ∷ 2 ∷ 3 ∷ []) 0 ts e in
      let lines1 = keeping.graph-few most Few at_least fits i (x ∷ b ∷ r ∷ []) (left-lines Few (graph_lines ms) (carried (inputs ms)) l) in
      let lines2 = keeping.graph-few most Few at_least fits x (b ∷ r ∷ []) lines1.1 in
      let lines3 = keeping.graph-few most Few at_least fits b (r ∷ []) lines2.1 in
      let lines4 = keeping.graph-few most Few at_least fits r [] lines3.1 in
      let sizes_m = length-map (types i.values) many in
      let sizes_i = length-map i.values (λ (w : Wire). w.ty) in
      let outer = all-into env a in
      let outer_typed = typed-into forms names env γ t in
      let seen_below = both (map into env) (own_inputs 1 tys) outer (own-below 1 tys (omega (arith, few, among))) in
      let seen_typed = typed-both forms names (map into env) (own_inputs 1 tys) γ loop outer_typed own_typed in
      let own_is = own-below 1 (map many (types i.values)) (omega (arith, few, sizes_m, sizes_i)) in
      keeping.whole-kept most Few at_least fits n q c ms (0 ∷ 1 ∷ 2 ∷ 3 ∷ []) 0 ts few (
        hi (map into env) outer_typed outer 0 (suc q) (omega (arith, few)) lines1.0,
        (
          hx seen seen_typed seen_below 0 (suc (q + size i)) (omega (arith, few)) lines2.0,
          (
            hb seen seen_typed seen_below 0 (suc (q + size i + size x)) (omega (arith, few)) lines3.0,
            (returns-keep (Wired one) cs (map (wire_at own) places) ts tt (collected-below own places own_is) 0 (suc (q + size i + size x + size b)) (omega (arith, few)) lines4.0, tt),
          ),
        ),
      )

  pub initial-keeps : (γ loop later : List Ty) (t : Turns) (fs : List (List Lowers)) (test : List Lowers) (ds : List (List Lowers)) (ps : List Phrase) (ts : List ℕ)
      → DefsKeep γ fs loop → EachKeep (γ ++ loop) test → DefsKeep (γ ++ loop) ds later → Renews loop t.renewed later → EachKeep (γ ++ loop) (each ps) → KeepsTo γ (initial_lowered t fs test ds ps ts)
  initial-keeps γ loop later t fs test ds ps ts f x d renews g env s a n q e l =
      let inner = map into env in
      let inner_typed = typed-into forms names env γ s in
      let first = defs_lowered fs inner 0 (suc q) in
      let start = new_graph (andthen (defs_lowered fs inner) (λ all. only (drop (length env) all))) q in
      let named = loop_name (length env) (length start.values) in
      let bs = unless_places t.clauses in
      let es = extras named bs ps in
      let eh = extras-keep (γ ++ loop) named bs ps g in
      let besides = all_lowered es (inner ++ drop (length env) first.values) (0 + length first.nodes) (suc q + length first.graphs) in
      let names_few = length-map start.values (λ (w : Wire). w.ty) in
      let row_many = length-append (drop (length env) first.values) besides.values in
      let context : length γ ≡ length env = sym (typed-length forms names env γ s) in
      let loop_typed = typed-drop forms names γ loop first.values (length env) context (defs-give γ fs loop f inner inner_typed 0 (suc q)) in
      loop-keeps γ loop (loop_kind t.is_first)
      (λ around. andthen (defs_lowered fs around) (λ all. row_of_turn es around (drop (length env) all)))
      (test_lowered t.is_until test)
      (λ inside. andthen (defs_lowered ds inside) (λ all. row_of_turn es (take_up (length env) inside) (renew t.renewed (drop (length inside) all) (drop (length env) inside))))
      (types start.values) (collected named (length start.values) bs ps) t.clauses ts
      (λ v tv b. then-knows (γ ++ loop) (defs_lowered fs v) (λ all. row_of_turn es v (drop (length env) all)) (defs-keep γ fs loop f v tv b) (defs-give γ fs loop f v tv)
      (λ all ta ba. turn-keeps γ loop es v (drop (length env) all) eh tv (typed-drop forms names γ loop all (length env) context ta) b (below-drop (length env) all ba)))
      (test-keeps (γ ++ loop) t.is_until test x)
      (λ v tv b. then-knows ((γ ++ loop) ++ later) (defs_lowered ds v) (λ all. row_of_turn es (take_up (length env) v) (renew t.renewed (drop (length v) all) (drop (length env) v))) (defs-keep (γ ++ loop) ds later d v tv b) (defs-give (γ ++ loop) ds later d v tv)
      (λ all ta ba.
      turn-keeps γ loop es (take_up (length env) v) (renew t.renewed (drop (length v) all) (drop (length env) v)) eh (typed-take forms names γ loop v (length env) context tv)
      (typed-renew forms names loop t.renewed later renews (drop (length v) all) (drop (length env) v) (typed-drop forms names (γ ++ loop) later all (length v) (sym (typed-length forms names v (γ ++ loop) tv)) ta) (typed-drop forms names γ loop v (length env) context tv))
      (below-take (length env) v b) (renew-below t.renewed (drop (length v) all) (drop (length env) v) (below-drop (length v) all ba) (below-drop (length env) v b))))
      (own-typed forms names loop start.values loop_typed 0 1)
      env s a n q (omega (arith, names_few, row_many)) e l
