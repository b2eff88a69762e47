-- Where what a phrase becomes fires, the source gives something: how phrases are put together.
use Rattle.std.proofs.Common.{◌≡◌, ℕ, suc, ◌+◌, ◌<◌, true, false, List, [], ◌∷◌, ◌++◌, map, length, ◌⊎◌, inl, inr, subst, arith}
use Rattle.flow_value.specs.declared.value.Val.{Val}
use Rattle.flow_value.specs.declared.ty.Ty.{Ty}
use Rattle.type_table.specs.declared.form.Form.{Form}
use Rattle.typed_rows.specs.Rows.{AreOf}
use Rattle.meaning.specs.Timed.{Timed, given, plus, andthen}
use Rattle.meaning.specs.Meaning.{Gives as Means, all_of, defined, body_of}
use Rattle.graph_meaning.specs.Carried.{Value}
use Rattle.lowering_meaning.proofs.Told.{Telling}
use Rattle.graph_meaning.specs.Forms as form
use Rattle.graph_meaning.specs.Demand.{Network}
use Rattle.graph_meaning.specs.Plain.{NodesFire}
use Rattle.graph_meaning.proofs.PlainValues.{carried-once}
use Rattle.lowering.specs.declared.feed.Carried.TheVariants.{One}
use Rattle.lowering.specs.declared.feed.Wire.{Wire}
use Rattle.lowering.specs.declared.graph.Action.TheVariants.{Call}
use Rattle.lowering.specs.declared.graph.Lowered.{Lowered}
use Rattle.lowering.specs.Graphs.{Lowering, only, joined, a_node}
use Rattle.lowering.specs.Graphs as graphs
use Rattle.lowering.specs.Operations.{Lowers, all_lowered, defs_lowered, body_lowered}
use Rattle.lowering_meaning.proofs.Timed.{Yield, yield-given, yield-plus, yield-then, yield-same}
use Rattle.lowering_meaning.proofs.Sites.{Site, AllCarry, Placed, vertices, carry-both, placed-left, placed-right, firings-first, firings-second, values-held}
use Rattle.lowering_meaning.proofs.Nodes.{seen-ins}
use Rattle.lowering_meaning.proofs.Inverse.{later-is, node-inside}
use Rattle.lowering_meaning.proofs.Forms.{WiresOf, wires-both, Wired, Typed, of-both, Drawn}

module _ (u : Network) (number : ℕ → ℕ) (shape : Telling) (forms : List Form) (spellings : List (List ℕ)) where
  abbrev pub FiresAt : ℕ → Site → ℕ → Lowered → ℕ → Type 0
  FiresAt m s k x c = NodesFire u m s.graph s.ins (vertices u number shape s k x.nodes) c

  -- Where a phrase stands on these values of the names and fires at this depth, the source yields something.
  abbrev pub Reads : ℕ → List Ty → Lowers → List Val → (ℕ → Timed (List Val)) → Type 0
  Reads m γ g names a = (s : Site) (k q : ℕ) (env : List Wire) (c : ℕ) → WiresOf forms spellings γ env → AllCarry u number shape s env names → Placed u number shape s k q (g env k q) → FiresAt m s k (g env k q) c → Yield a

  abbrev pub Read : ℕ → List Ty → Lowers → (ℕ → Means) → Type 0
  Read m γ g h = (names : List Val) → AreOf γ names → Reads m γ g names (λ j. h j names)

  -- what is drawn at every depth of the source
  abbrev pub DrawnAll : List Ty → ℕ → ℕ → Lowers → (ℕ → Means) → Type 0
  DrawnAll γ slack credit g h = (n : ℕ) → Drawn u number shape forms spellings γ slack credit g (h n)

  abbrev pub TypedAll : List Ty → (ℕ → Means) → List Ty → Type 0
  TypedAll γ h tys = (n : ℕ) → Typed γ (h n) tys

  pub read-as : (m : ℕ) (γ : List Ty) (g g' : Lowers) (h h' : ℕ → Means) → ((env : List Wire) → g' env ≡ g env) → ((j : ℕ) (names : List Val) → h' j names ≡ h j names) → Read m γ g h → Read m γ g' h'
  read-as m γ g g' h h' eg eh r names o s k q env c w a pl f =
      yield-same _ _ (λ j. eh j names) (r names o s k q env c w a (subst (λ f. Placed u number shape s k q (f k q)) (eg env) pl) (subst (λ f. FiresAt m s k (f k q) c) (eg env) f))

  pub step-read : (m : ℕ) (γ : List Ty) (g : Lowers) (h : ℕ → Means) → Read m γ g h → Read m γ g (λ j names. plus 1 (h j names))
  step-read m γ g h r names o s k q env c w a pl f = yield-plus 1 _ (r names o s k q env c w a pl f)

  -- what gives itself
  pub given-read : (m : ℕ) (γ : List Ty) (g : Lowers) (h : List Val → List Val) → Read m γ g (λ j names. given (h names))
  given-read m γ g h names o s k q env c w a pl f = yield-given (h names)

  pub nil-read : (m : ℕ) (γ : List Ty) → Read m γ (all_lowered []) (λ j. all_of [])
  nil-read m γ names o s k q env c w a pl f = yield-given []

  pub cons-read : (m : ℕ) (γ : List Ty) (g : Lowers) (gs : List Lowers) (h : ℕ → Means) (hs : ℕ → List Means) → Read m γ g h → Read m γ (all_lowered gs) (λ j. all_of (hs j)) → Read m γ (all_lowered (g ∷ gs)) (λ j. all_of (h j ∷ hs j))
  cons-read m γ g gs h hs a b names o s k q env c w x pl f =
      let m1 = g env k q in
      let m2 = all_lowered gs env (k + length m1.nodes) (q + length m1.graphs) in
      let l : Lowered = only (m1.values ++ m2.values) (k + length m1.nodes + length m2.nodes) (q + length m1.graphs + length m2.graphs) in
      let f1 = firings-first u number shape m s k m1 (joined m2 l) c f in
      let f2 = firings-second u number shape m s k m1 (joined m2 l) c f in
      let pl' = placed-right u number shape s k q m1 (joined m2 l) pl in
      let f3 = firings-first u number shape m s (k + length m1.nodes) m2 l f2.0 f2.1 in
      let y = a names o s k q env f1.0 w x (placed-left u number shape s k q m1 (joined m2 l) pl) f1.1 in
      let z = b names o s (k + length m1.nodes) (q + length m1.graphs) env f3.0 w x (placed-left u number shape s (k + length m1.nodes) (q + length m1.graphs) m2 l pl') f3.1 in
      yield-then _ _ y (yield-then _ _ z (yield-given (y.value ++ z.value)))

  -- ---- one after the other

  abbrev pub ReadOn : ℕ → List Ty → List Ty → (List Wire → List Wire → Lowering) → (ℕ → List Val → Means) → Type 0
  ReadOn m γ mids f k = (names vs : List Val) → AreOf γ names → AreOf mids vs → (s : Site) (n q : ℕ) (env ws : List Wire) (c : ℕ) → WiresOf forms spellings γ env → WiresOf forms spellings mids ws → AllCarry u number shape s env names → AllCarry u number shape s ws vs
      → Placed u number shape s n q (f env ws n q) → FiresAt m s n (f env ws n q) c → Yield (λ j. k j names vs)

  pub then-read : (m : ℕ) (γ mids : List Ty) (some : ℕ) (g : Lowers) (h : ℕ → Means) (f : List Wire → List Wire → Lowering) (k : ℕ → List Val → Means)
      → DrawnAll γ some 0 g h → TypedAll γ h mids → Wired forms spellings γ g mids → Read m γ g h → ReadOn m γ mids f k → Read m γ (λ env. graphs.andthen (g env) (f env)) (λ j names. andthen (h j names) (k j names))
  then-read m γ mids some g h f k d t wr r ro names o s n q env c e0 x pl fire =
      let a = g env n q in
      let b = f env a.values (n + length a.nodes) (q + length a.graphs) in
      let f1 = firings-first u number shape m s n a b c fire in
      let f2 = firings-second u number shape m s n a b c fire in
      let pl1 = placed-left u number shape s n q a b pl in
      let y = r names o s n q env f1.0 e0 x pl1 f1.1 in
      let e = y.from.holds y.from.least (omega arith) in
      let w = (d y.from.least).runs names y.value y.steps o e in
      let held = (w.draws s n q env e0 x pl1).held in
      let z = ro names y.value o (t y.from.least names y.value y.steps o e) s (n + length a.nodes) (q + length a.graphs) env a.values f2.0 e0 (wr env n q e0) x held (placed-right u number shape s n q a b pl) f2.1 in
      yield-then _ _ y z

  pub given-on : (m : ℕ) (γ mids : List Ty) (f : List Wire → List Wire → Lowering) (h : List Val → List Val) → ReadOn m γ mids f (λ j names vs. given (h vs))
  given-on m γ mids f h names vs a b s n q env ws c d e x y pl fire = yield-given (h vs)

  -- ---- definitions

  pub nil-defs-read : (m : ℕ) (γ : List Ty) → Read m γ (defs_lowered []) (λ j. defined [])
  nil-defs-read m γ names o s k q env c w a pl f = yield-given names

  pub cons-defs-read : (m : ℕ) (γ tys : List Ty) (some : ℕ) (g : List Lowers) (gs : List (List Lowers)) (h : ℕ → List Means) (hs : ℕ → List (List Means))
      → DrawnAll γ some 0 (all_lowered g) (λ j. all_of (h j)) → TypedAll γ (λ j. all_of (h j)) tys → Wired forms spellings γ (all_lowered g) tys → Read m γ (all_lowered g) (λ j. all_of (h j)) → Read m (γ ++ tys) (defs_lowered gs) (λ j. defined (hs j))
      → Read m γ (defs_lowered (g ∷ gs)) (λ j. defined (h j ∷ hs j))
  cons-defs-read m γ tys some g gs h hs d t wr r b =
      then-read m γ tys some (all_lowered g) (λ j. all_of (h j)) (λ env vs. defs_lowered gs (env ++ vs)) (λ j names vs. defined (hs j) (names ++ vs)) d t wr r
      (λ names vs o p s n q env ws c e1 e2 x y pl f. b (names ++ vs) (of-both γ tys names vs o p) s n q (env ++ ws) c (wires-both forms spellings γ tys env ws e1 e2) (carry-both u number shape s env names ws vs x y) pl f)

  pub body-read : (m : ℕ) (γ δ : List Ty) (ds : List (List Lowers)) (gs : List Lowers) (es : ℕ → List (List Means)) (hs : ℕ → List Means)
      → DrawnAll γ 0 0 (defs_lowered ds) (λ j. defined (es j)) → TypedAll γ (λ j. defined (es j)) (γ ++ δ) → Wired forms spellings γ (defs_lowered ds) (γ ++ δ) → Read m γ (defs_lowered ds) (λ j. defined (es j)) → Read m (γ ++ δ) (all_lowered gs) (λ j. all_of (hs j))
      → Read m γ (body_lowered ds gs) (λ j. body_of (es j) (hs j))
  body-read m γ δ ds gs es hs d t wr r b =
      then-read m γ (γ ++ δ) 0 (defs_lowered ds) (λ j. defined (es j)) (λ env ws. all_lowered gs ws) (λ j names. all_of (hs j)) d t wr r
      (λ names vs o p s n q env ws c e1 e2 x y pl f. b vs p s n q ws c e2 y pl f)

  -- ---- calls

  -- what a graph of a function fires on arguments of these types at lesser depths has values
  pub call-on : (m : ℕ) (γ tys : List Ty) (f : ℕ) (ns : List ℕ) (h : ℕ → Means)
      → ((l : ℕ) → l < m → (args : List Val) (c : ℕ) → AreOf tys args → NodesFire u l (number f) (map Value args) (u (number f)).nodes c → Yield (λ j. h j args))
      → ReadOn m γ tys (λ env ws. a_node (Call f) ws 1 (map One ns)) (λ j names. h j)
  call-on m γ tys f ns h below names args a b s k q env ws c e1 e2 x y pl fire =
      let i = node-inside u m s.graph s.ins _ c fire in
      let held = values-held u number shape s ws args (seen-ins u number shape s (Call f) ws k q 1 (map One ns) pl) y in
      let same = carried-once u s.graph s.ins _ i.operands (map Value args) m held.least i.carried (held.holds held.least (omega arith)) in
      let z = later-is u m (form.Call (number f)) i.operands _ i.cost i.follows in
      go z.is_less (subst (λ ks. NodesFire u z.depth (number f) ks (u (number f)).nodes z.cost) same z.fires)
    where
      go : {l e : ℕ} → ((true ≡ true) × (suc l ≡ m)) ⊎ ((true ≡ false) × (l ≡ m)) → NodesFire u l (number f) (map Value args) (u (number f)).nodes e → Yield (λ j. h j args)
      go {l} {e} (inl i) n = below l (omega (arith, i.1)) args e b n
      go {l} {e} (inr i) n = absurd cc
