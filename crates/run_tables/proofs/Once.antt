-- An item adds one number.
use Rattle.std.proofs.Common.{◌≡◌, ℕ, zero, suc, ◌+◌, Bool, List, [], ◌∷◌, slice_get, Some, refl, sym, ap, ◌∙◌, subst, arith}
use Rattle.graph_meaning.specs.Carried.{Carried}
use Rattle.graph_meaning.specs.NodeValues.{op}
use Rattle.graph_meaning.specs.Entered.{Item, Node, Entry, Slice, Leave, Inside}
use Rattle.graph_meaning.specs.Forms.{Form, First, Begins, Skips, Next, Enter, Iterate, Leave as Leaves, Stage, next_of, first}
use Rattle.graph_meaning.specs.Demand.{Kind, Plain, Whole, Vertex, Network, Cut, leads_to}
use Rattle.graph_meaning.specs.Storage.{Weights, RowsAdd, of_no_row, of_row, GraphAdds}
use Rattle.graph_meaning.specs.Plain.{leaves, whole}
use Rattle.graph_meaning.proofs.Depths.{leads-below}
use Rattle.graph_meaning.proofs.PlainValues.{carried-once, operands-stand, outputs-at}
use Rattle.graph_meaning.proofs.SumsOnce.{sum-one}
use Rattle.run_states.specs.Phases.{Results, Operands, Comes}
use Rattle.run_states.specs.Paths.{IsWhole, here, inside}
use Rattle.run_states.proofs.Lookups.{some-same}
use Rattle.run_states.proofs.Values.{comes-leads}
use Rattle.run_states.proofs.Paths.{comes-once, iterate-same, path-once, whole-once}
use Rattle.run_tables.specs.Adds.{ResultsAdd, FirstAdds, KindAdds, NodeAdds, EntryAdds, SliceAdds, LeaveAdds, ItemAdds, DoItemsAddOnce}

pub results-once : (u : Network) (g : ℕ) (ins rs qs : List Carried) → Results u g ins rs → Results u g ins qs → rs ≡ qs
results-once u g ins rs qs a b = carried-once u g ins (u g).results rs qs a.0 b.0 (operands-stand u a.0 a.0 (omega arith) g ins (u g).results rs a.1) (operands-stand u b.0 b.0 (omega arith) g ins (u g).results qs b.1)

operands-once : (u : Network) (g : ℕ) (ins : List Carried) (v : Vertex) (ks qs : List Carried) → Operands u g ins v ks → Operands u g ins v qs → ks ≡ qs
operands-once u g ins v ks qs a b = carried-once u g ins v.ins ks qs a.0 b.0 (operands-stand u a.0 a.0 (omega arith) g ins v.ins ks a.1) (operands-stand u b.0 b.0 (omega arith) g ins v.ins qs b.1)

enter-same : (t : Bool) (h j : ℕ) (is js : List Carried) (s q : Stage) → Enter t h is s ≡ Enter t j js q → (h ≡ j) × (is ≡ js)
enter-same t h j is js s q e = (cc, cc)

leave-same : (rs qs : List Carried) → Leaves rs ≡ Leaves qs → rs ≡ qs
leave-same rs qs e = cc

-- a node leaves with one list of outputs, at whatever step
leaves-alike : (u : Network) (form : Form) (ks : List Carried) (j k : ℕ) (rs qs : List Carried) → Comes u form ks j (Leaves rs) → Comes u form ks k (Leaves qs) → rs ≡ qs
leaves-alike u form ks j k rs qs a b =
    let x = given-by j rs a in
    let y = given-by k qs b in
    let m = x.0 + y.0 in
    some-same rs qs (sym (leads-below x.0 m (omega arith) u form ks (next_of (first form ks)) rs x.1) ∙ leads-below y.0 m (omega arith) u form ks (next_of (first form ks)) qs y.1)
  where
    given-by : (n : ℕ) (os : List Carried) → Comes u form ks n (Leaves os) → (m : ℕ) × (leads_to m u form ks (next_of (first form ks)) ≡ Some os)
    given-by n os c =
        let z = comes-leads u form ks os n (Leaves os) c (0, leaves 0 form ks os) in
        let o = outputs-at u z.0 (Whole form) ks os (whole z.0 form ks os z.1) in
        (o.0, o.1)

module _ (u : Network) (w : Weights) where
  -- what rows add, by the first one
  abbrev RowsIn : ℕ → List (List Carried) → ℕ → Type 0
  RowsIn h [] t = t ≡ 0
  RowsIn h (is ∷ rows) t = (m : ℕ) × (c : ℕ) × (d : ℕ) × GraphAdds u w m h is c × RowsAdd u w m h rows d × (t ≡ c + d)

  rows-in : (m h : ℕ) (rows : List (List Carried)) (t : ℕ) → RowsAdd u w m h rows t → RowsIn h rows t
  rows-in _ _ _ _ (of_no_row n g) = refl
  rows-in _ _ _ _ (of_row n g ins rows c d a b) = (n, c, d, a, b, refl)

  pub rows-once : (m n h : ℕ) (rows : List (List Carried)) (s t : ℕ) → RowsAdd u w m h rows s → RowsAdd u w n h rows t → s ≡ t
  rows-once m n h rows s t a b = go rows s t (rows-in m h rows s a) (rows-in n h rows t b)
    where
      go : (rows : List (List Carried)) (s t : ℕ) → RowsIn h rows s → RowsIn h rows t → s ≡ t
      go [] s t x y = x ∙ sym y
      go (is ∷ rows) s t x y =
          let e = sum-one u w h is x.0 y.0 x.1 y.1 x.3 y.3 in
          let f = go rows x.2 y.2 (rows-in x.0 h rows x.2 x.4) (rows-in y.0 h rows y.2 y.4) in
          omega (arith, e, f, x.5, y.5)

module _ (cut : Cut) (u : Network) (w : Weights) where
  results-add-once : (h : ℕ) (is : List Carried) (a b : ℕ) → ResultsAdd cut u w h is a → ResultsAdd cut u w h is b → a ≡ b
  results-add-once h is a b x y = x.adds ∙ (ap (w.of_results h) (results-once u h is x.results y.results x.given y.given) ∙ sym y.adds)

  first-once : (f : First) (a b : ℕ) → FirstAdds cut u w f a → FirstAdds cut u w f b → a ≡ b
  first-once (Skips rs) a b x y = x ∙ sym y
  first-once (Begins h is stage) a b x y = results-add-once h is a b x y

  kind-once : (g : ℕ) (ins : List Carried) (v : Vertex) (k : Kind) (a b : ℕ) → KindAdds cut u w g ins v k a → KindAdds cut u w g ins v k b → a ≡ b
  kind-once g ins v (Plain row shape) a b x y =
      let e = carried-once u g ins v.ins x.operands y.operands x.depth y.depth x.carried y.carried in
      x.adds ∙ (ap (λ z. w.of_node g v z (op row shape z)) e ∙ sym y.adds)
  kind-once g ins v (Whole form) a b x y =
      let e = operands-once u g ins v x.operands y.operands x.given y.given in
      first-once (first form y.operands) a b (subst (λ z. FirstAdds cut u w (first form z) a) e x.adds) y.adds

  node-once : (g : ℕ) (ins : List Carried) (l a b : ℕ) → NodeAdds cut u w g ins l a → NodeAdds cut u w g ins l b → a ≡ b
  node-once g ins l a b x y =
      let e : x.node ≡ y.node = some-same x.node y.node (sym x.found ∙ y.found) in
      kind-once g ins y.node y.node.kind a b (subst (λ z. KindAdds cut u w g ins z z.kind a) e x.adds) y.adds

  -- what comes next, by the other's form and operands
  came : (g : ℕ) (ins : List Carried) (l : ℕ) (form other : Form) (ks qs : List Carried) → IsWhole u g ins l form ks → IsWhole u g ins l other qs → (k : ℕ) (next : Next) → Comes u form ks k next → Comes u other qs k next
  came g ins l form other ks qs a b k next c =
      let s = whole-once u g ins l form other ks qs a b in
      subst (λ z. Comes u other z k next) s.1 (subst (λ z. Comes u z ks k next) s.0 c)

  entry-once : (g : ℕ) (ins : List Carried) (t : Bool) (l k a b : ℕ) → EntryAdds cut u w g ins t l k a → EntryAdds cut u w g ins t l k b → a ≡ b
  entry-once g ins t l k a b x y =
      let c = came g ins l x.form y.form x.operands y.operands x.whole y.whole k (Enter t x.graph x.inputs x.stage) x.comes in
      let e = enter-same t x.graph y.graph x.inputs y.inputs x.stage y.stage (comes-once u y.form y.operands k (Enter t x.graph x.inputs x.stage) (Enter t y.graph y.inputs y.stage) c y.comes) in
      results-add-once y.graph y.inputs a b (subst (λ z. ResultsAdd cut u w y.graph z a) e.1 (subst (λ z. ResultsAdd cut u w z x.inputs a) e.0 x.adds)) y.adds

  slice-once : (g : ℕ) (ins : List Carried) (l k r a b : ℕ) → SliceAdds cut u w g ins l k r a → SliceAdds cut u w g ins l k r b → a ≡ b
  slice-once g ins l k r a b x y =
      let c = came g ins l x.form y.form x.operands y.operands x.whole y.whole k (Iterate x.graph x.row x.rows x.multiples) x.comes in
      let e = iterate-same x.graph y.graph x.row y.row x.rows y.rows x.multiples y.multiples (comes-once u y.form y.operands k (Iterate x.graph x.row x.rows x.multiples) (Iterate y.graph y.row y.rows y.multiples) c y.comes) in
      let parts : x.part ≡ y.part = some-same x.part y.part (sym x.at ∙ (ap (λ z. slice_get (cut z) r) e.1 ∙ y.at)) in
      rows-once u w x.depth y.depth y.graph y.part a b (subst (λ z. RowsAdd u w x.depth y.graph z a) parts (subst (λ z. RowsAdd u w x.depth z x.part a) e.0 x.adds)) y.adds

  leave-once : (g : ℕ) (ins : List Carried) (l a b : ℕ) → LeaveAdds cut u w g ins l a → LeaveAdds cut u w g ins l b → a ≡ b
  leave-once g ins l a b x y =
      let s = whole-once u g ins l x.form y.form x.operands y.operands x.whole y.whole in
      let v : x.whole.node ≡ y.whole.node = some-same x.whole.node y.whole.node (sym x.whole.found ∙ y.whole.found) in
      let o = leaves-alike u y.form y.operands x.step y.step x.outputs y.outputs (came g ins l x.form y.form x.operands y.operands x.whole y.whole x.step (Leaves x.outputs) x.comes) y.comes in
      x.adds ∙ (ap (λ z. w.of_node g z x.operands x.outputs) v ∙ (ap (λ z. w.of_node g y.whole.node z x.outputs) s.1 ∙ (ap (w.of_node g y.whole.node y.operands) o ∙ sym y.adds)))

  pub adds-once : (g : ℕ) (ins : List Carried) (i : Item) (a b : ℕ) → ItemAdds cut u w g ins i a → ItemAdds cut u w g ins i b → a ≡ b
  adds-once g ins (Node l) a b x y = node-once g ins l a b x y
  adds-once g ins (Entry t l zero) a b x y = absurd x
  adds-once g ins (Entry t l (suc k)) a b x y = entry-once g ins t l k a b x y
  adds-once g ins (Slice l zero r) a b x y = absurd x
  adds-once g ins (Slice l (suc k) r) a b x y = slice-once g ins l k r a b x y
  adds-once g ins (Leave l) a b x y = leave-once g ins l a b x y
  adds-once g ins (Inside l k i) a b x y =
      let e = path-once u g ins ((l, k) ∷ []) x.graph y.graph x.inputs y.inputs
      (inside l k x.entry [] g ins x.form x.operands x.graph x.inputs here x.whole x.enters)
      (inside l k y.entry [] g ins y.form y.operands y.graph y.inputs here y.whole y.enters) in
      adds-once y.graph y.inputs i a b (subst (λ z. ItemAdds cut u w y.graph z i a) e.1 (subst (λ z. ItemAdds cut u w z x.inputs i a) e.0 x.adds)) y.adds

pub items-once : DoItemsAddOnce
items-once cut u w g ins i a b x y = adds-once cut u w g ins i a b x y
