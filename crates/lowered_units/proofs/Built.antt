-- How what a fitting phrase becomes is made, node after node, and what is known of each node: what laws on lowered graphs need of the
-- forms of phrases.
use Rattle.std.proofs.Common.{◌≡◌, ℕ, zero, suc, ◌+◌, ◌<◌, ◌≤◌, ◌⊎◌, inl, true, List, [], ◌∷◌, ◌++◌, map, length, drop, slice_get, Option, Some, refl, ap, arith}
use Rattle.std.specs.Prelude.{All, IsSome, slice_set}
use Rattle.flow_value.specs.Scalar.{fits_64}
use Rattle.if1_graph.specs.declared.op.Simple.{Simple}
use Rattle.if1_graph.specs.declared.op.Simple.TheVariants as simple
use Rattle.if1_graph.specs.declared.op.Grouping.{Grouping}
use Rattle.if1_graph.specs.declared.op.Compound.{Compound}
use Rattle.if1_graph.specs.declared.op.Compound.TheVariants as compound
use Rattle.if1_graph.specs.Ops.{reducer_at}
use Rattle.sisal_tree.specs.declared.expr.Constant.{Constant}
use Rattle.sisal_tree.specs.declared.expr.Constant.TheVariants as constant
use Rattle.type_table.specs.declared.form.Form.{Form}
use Rattle.type_table.specs.declared.form.Form.TheVariants as form
use Rattle.lowering.specs.declared.feed.Feed.{Feed}
use Rattle.lowering.specs.declared.feed.Feed.TheVariants.{Literal, Named, Absent, Port}
use Rattle.lowering.specs.declared.feed.Carried.{Carried}
use Rattle.lowering.specs.declared.feed.Carried.TheVariants.{One, Many, Callee}
use Rattle.lowering.specs.declared.feed.Wire.{Wire}
use Rattle.lowering.specs.Feeds.{wire, inside, into}
use Rattle.lowering.specs.declared.graph.Action.{Action}
use Rattle.lowering.specs.declared.graph.Action.TheVariants.{Row, Call}
use Rattle.lowering.specs.declared.graph.Lowered.{Lowered}
use Rattle.lowering.specs.Graphs.{Lowering, only, joined, andthen, ports, a_node, size, whole, tag_case_on}
use Rattle.lowering.specs.Operations.{Lowers, integer}

-- ---- wires

-- a constant of a basic type
abbrev pub IsConstantOf : Constant → Option Form → Type 0
IsConstantOf (constant.Integer n) (Some form.Integer) = fits_64 n ≡ true
IsConstantOf (constant.Letter c) (Some form.Character) = c < 128
IsConstantOf constant.True (Some form.Boolean) = Unit {0}
IsConstantOf constant.False (Some form.Boolean) = Unit {0}
IsConstantOf constant.Nil (Some form.Null) = Unit {0}
IsConstantOf _ _ = ⊥

-- a row that is not named by a literal
abbrev pub IsPlainRow : Simple → Type 0
IsPlainRow simple.Call = ⊥
IsPlainRow (simple.Reduce g) = ⊥
IsPlainRow _ = Unit {0}

-- a port that is not filled
abbrev pub IsGap : Feed → Type 0
IsGap Absent = Unit {0}
IsGap _ = ⊥

-- how many results the parts of a compound node have
abbrev pub counts : List Lowered → List ℕ
counts ms = map (λ m. length m.values) ms

abbrev pub AreParts : Compound → List ℕ → ℕ → ℕ → Type 0
AreParts compound.Select (s ∷ a ∷ b ∷ []) given outs = (a ≡ outs) × (b ≡ outs)
AreParts compound.TagCase (k ∷ ks) given outs = (k ≡ outs) × All (λ k. k ≡ outs) ks
AreParts compound.ForAll (g ∷ b ∷ r ∷ []) given outs = (b ≡ given) × (r ≡ outs)
AreParts compound.LoopA (i ∷ x ∷ b ∷ r ∷ []) given outs = r ≡ outs
AreParts compound.LoopB (i ∷ x ∷ b ∷ r ∷ []) given outs = r ≡ outs
AreParts _ _ _ _ = ⊥

-- in a program of these types and so many functions
module _ (forms : List Form) (functions : ℕ) where
  -- the type of a value or of a multiple, and what a line may carry
  abbrev pub IsValueType : Carried → Type 0
  IsValueType (One t) = t < length forms
  IsValueType (Many t) = t < length forms
  IsValueType (Callee f) = ⊥

  abbrev pub IsLineType : Carried → Type 0
  IsLineType (One t) = t < length forms
  IsLineType (Many t) = t < length forms
  IsLineType (Callee f) = f < functions

  abbrev pub AreTypes : List Carried → Type 0
  AreTypes [] = Unit {0}
  AreTypes (t ∷ ts) = IsValueType t × AreTypes ts

  -- a port, or a constant of its type
  abbrev pub IsGoodFeed : Feed → Carried → Type 0
  IsGoodFeed (Literal c) (One t) = (t < length forms) × IsConstantOf c (slice_get forms t)
  IsGoodFeed (Port up n q) t = (1 ≤ q) × IsValueType t
  IsGoodFeed _ _ = ⊥

  abbrev pub IsGood : Wire → Type 0
  IsGood w = IsGoodFeed w.feed w.ty

  abbrev pub AreGood : List Wire → Type 0
  AreGood [] = Unit {0}
  AreGood (w ∷ ws) = IsGood w × AreGood ws

  -- some ports are not filled, but the last one is
  abbrev pub AreFilled : List Wire → Type 0
  AreFilled [] = Unit {0}
  AreFilled (w ∷ []) = IsGood w
  AreFilled (w ∷ v ∷ vs) = (IsGood w ⊎ IsGap w.feed) × AreFilled (v ∷ vs)

  pub data Fills : Action → List Wire → Type 0 where
    fills_row : (op : Simple) (ws : List Wire) → IsPlainRow op → AreFilled ws → Fills (Row op) ws
    fills_reduction : (g : Grouping) (name : List ℕ) (ws : List Wire) → IsSome (reducer_at name) → AreGood ws
        → Fills (Row (simple.Reduce g)) (wire (Named name) (One integer) ∷ ws)
    fills_call : (f : ℕ) (ws : List Wire) → f < functions → AreGood ws → Fills (Call f) ws

  -- ---- how a lowering is made

  mutual
    pub data Built : ℕ → ℕ → Lowered → Type 0 where
      b_only : (n q : ℕ) (ws : List Wire) → AreGood ws → Built n q (only ws n q)
      b_then : (n q : ℕ) (a b : Lowered) → Built n q a → Built (n + length a.nodes) (q + length a.graphs) b → Built n q (joined a b)
      b_node : (n q : ℕ) (act : Action) (ins : List Wire) (port : ℕ) (ts : List Carried)
          → Fills act ins → 1 ≤ port → AreTypes ts → Built n q (a_node act ins port ts n q)
      b_whole : (n q : ℕ) (c : Compound) (ms : List Lowered) (arms : List ℕ) (given : ℕ) (ts : List ℕ)
          → AllBuilt q ms → AreParts c (counts ms) given (length ts) → All (λ k. k ≤ length ms) arms → AreTypes (map One ts)
          → Built n q (whole c ms arms given ts n q)
      b_tag : (n q : ℕ) (u : Wire) (ms : List Lowered) (arms ts : List ℕ)
          → IsGood u → AllBuilt q ms → AreParts compound.TagCase (counts ms) 0 (length ts) → All (λ k. k ≤ length ms) arms → AreTypes (map One ts)
          → Built n q (tag_case_on u ms arms ts n q)

    pub data AllBuilt : ℕ → List Lowered → Type 0 where
      no_graph : (q : ℕ) → AllBuilt q []
      a_graph : (q : ℕ) (m : Lowered) (ms : List Lowered) → Built 0 (suc q) m → AllBuilt (q + size m) ms → AllBuilt q (m ∷ ms)

  -- ---- lists of wires

  pub good-both : (vs ws : List Wire) → AreGood vs → AreGood ws → AreGood (vs ++ ws)
  good-both [] ws a b = b
  good-both (v ∷ vs) ws a b = (a.0, good-both vs ws a.1 b)

  pub good-drop : (k : ℕ) (ws : List Wire) → AreGood ws → AreGood (drop k ws)
  good-drop zero ws a = a
  good-drop (suc k) [] a = a
  good-drop (suc k) (w ∷ ws) a = good-drop k ws a.1

  pub good-set : (ws : List Wire) (k : ℕ) (w : Wire) → AreGood ws → IsGood w → AreGood (slice_set ws k w)
  good-set [] k w a b = a
  good-set (v ∷ vs) zero w a b = (b, a.1)
  good-set (v ∷ vs) (suc k) w a b = (a.0, good-set vs k w a.1 b)

  pub into-good : (w : Wire) → IsGood w → IsGood (into w)
  into-good w h = fed w.feed w.ty h
    where
      fed : (f : Feed) (t : Carried) → IsGoodFeed f t → IsGoodFeed (inside f) t
      fed (Literal c) t h = h
      fed (Named s) t h = h
      fed Absent t h = h
      fed (Port up n q) t h = h

  pub good-into : (ws : List Wire) → AreGood ws → AreGood (map into ws)
  good-into [] a = a
  good-into (w ∷ ws) a = (into-good w a.0, good-into ws a.1)

  pub good-ports : (n port : ℕ) (ts : List Carried) → 1 ≤ port → AreTypes ts → AreGood (ports n port ts)
  good-ports n port [] h a = tt
  good-ports n port (t ∷ ts) h a = ((h, a.0), good-ports n (suc port) ts (omega (arith, h)) a.1)

  type-of-good : (f : Feed) (t : Carried) → IsGoodFeed f t → IsValueType t
  type-of-good (Literal c) (One t) h = h.0
  type-of-good (Literal c) (Many t) h = absurd h
  type-of-good (Literal c) (Callee f) h = absurd h
  type-of-good (Named s) t h = absurd h
  type-of-good Absent t h = absurd h
  type-of-good (Port up n q) t h = h.1

  pub types-good : (ws : List Wire) → AreGood ws → AreTypes (map (λ w. w.ty) ws)
  types-good [] a = tt
  types-good (w ∷ ws) a = (type-of-good w.feed w.ty a.0, types-good ws a.1)

  pub good-filled : (ws : List Wire) → AreGood ws → AreFilled ws
  good-filled [] a = tt
  good-filled (w ∷ []) a = a.0
  good-filled (w ∷ v ∷ vs) a = (inl a.0, good-filled (v ∷ vs) a.1)

  -- ---- the values of what is made are good

  pub values-good : (n q : ℕ) (m : Lowered) → Built n q m → AreGood m.values
  values-good _ _ _ (b_only n q ws h) = h
  values-good _ _ _ (b_then n q a b h k) = values-good (n + length a.nodes) (q + length a.graphs) b k
  values-good _ _ _ (b_node n q act ins port ts h one k) = good-ports (suc n) port ts one k
  values-good _ _ _ (b_whole n q c ms arms given ts h s l k) = good-ports (suc n) 1 (map One ts) (omega arith) k
  values-good _ _ _ (b_tag n q u ms arms ts g h s l k) = good-ports (suc n) 1 (map One ts) (omega arith) k

  -- ---- lowerings, and what a phrase becomes where good wires are in force

  abbrev pub Gives : ℕ → Lowering → Type 0
  Gives k f = (n q : ℕ) → Built n q (f n q) × (length (f n q).values ≡ k)

  abbrev pub To : ℕ → Lowers → Type 0
  To k g = (env : List Wire) → AreGood env → Gives k (g env)

  pub data AllTo : List Lowers → ℕ → Type 0 where
    to_none : AllTo [] 0
    to_more : (g : Lowers) (gs : List Lowers) (j k : ℕ) → To j g → AllTo gs k → AllTo (g ∷ gs) (j + k)

  pub only-gives : (ws : List Wire) → AreGood ws → Gives (length ws) (only ws)
  only-gives ws h n q = (b_only n q ws h, refl)

  pub then-gives : (j k : ℕ) (f : Lowering) (h : List Wire → Lowering) → Gives j f → ((ws : List Wire) → AreGood ws → length ws ≡ j → Gives k (h ws)) → Gives k (andthen f h)
  then-gives j k f h a b n q =
      let m = f n q in
      let here = a n q in
      let more = b m.values (values-good n q m here.0) here.1 (n + length m.nodes) (q + length m.graphs) in
      (b_then n q m (h m.values (n + length m.nodes) (q + length m.graphs)) here.0 more.0, more.1)

  pub length-ports : (n port : ℕ) (ts : List Carried) → length (ports n port ts) ≡ length ts
  length-ports n port [] = refl
  length-ports n port (t ∷ ts) = ap suc (length-ports n (suc port) ts)

  pub node-gives : (act : Action) (ins : List Wire) (port : ℕ) (ts : List Carried) → Fills act ins → 1 ≤ port → AreTypes ts → Gives (length ts) (a_node act ins port ts)
  node-gives act ins port ts h one k n q = (b_node n q act ins port ts h one k, length-ports (suc n) port ts)
