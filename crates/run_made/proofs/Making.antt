-- Nodes, graphs and functions that are made do theirs.
use Rattle.std.proofs.Common.{◌≡◌, ℕ, zero, suc, ◌+◌, ◌-◌, ◌≤◌, eqb, if◌then◌else◌, Bool, true, false, List, [], ◌∷◌, length, map, inl, inr, refl, sym, ap, ◌∙◌, subst, arith}
use Rattle.std.proofs.lemmas.Bool.{eq-eqb}
use Rattle.std.proofs.lemmas.List.{length-append, length-map}
use Rattle.std.proofs.Math.Nat.{le-max_left, le-max_right}
use Rattle.run_laws.specs.Carried.{Carried}
use Rattle.run_laws.specs.Entered.{IsIn}
use Rattle.run_laws.specs.Forms as form
use Rattle.run_laws.specs.Demand.{Kind, Plain, Whole, Vertex, Network, EachNode}
use Rattle.run_laws.specs.Cells.{Operand, At, cells_at, picked, own_cells}
use Rattle.run_laws.specs.Coded.{FunctionIs, Layout, NodeIs, NodesAre, Places, a_call, a_for_all, a_loop, a_node, a_part, no_node, operand, scalar}
use Rattle.run_laws.specs.Known.{AreReadable}
use Rattle.run_laws.specs.Machine.{Weigh}
use Rattle.run_laws.specs.Made.{Plan, line, OfNothing, OfResults, Makes, IsSized, ends_at, entry_from, function_lines, functions_lines, functions_size, graph_code, kind_code, kind_size, nodes_code, nodes_extent, nodes_size, parts_code, parts_extent, placed, room_of}
use Rattle.run_laws.specs.Steps.{Code, Count, Return}
use Rattle.run_made.proofs.Arms.{X, Does, select-made, starts-made, tag-made}
use Rattle.run_made.proofs.Lengths.{IsLong, graph-long, kind-long}
use Rattle.run_made.proofs.Lying.{PutsAll, are-labelled, cells-get, cells-past, eqb-sound, lies-first, lies-in, lies-rest, own-long, picked-long, puts-placed}
use Rattle.run_made.proofs.Turning.{for-all-made, loop-made}
use Rattle.run_made.specs.Laws.{DoLinesLie, IsCodeOfGraphs}
use Rattle.run_made.specs.Plans.{CanLay, IsKindRight, IsPlanned, IsRefolded, laid_as, IsRightPlan, Lie, Weighing, lines_of}

module _ (P : Plan) (W : Weighing) (u : Network) (order : ℕ → List Vertex) (functions : List ℕ) (code : Code) (weigh : Weigh) (room : ℕ) where
  abbrev L : Layout
  L = X P W u order functions code weigh room

  module _ (make : Makes P) (lays : ℕ → Type 0) (long : IsLong P make lays) (does : Does P W u order functions code weigh room make lays) where
    refolds-as : (m n k r : ℕ) (extra : List Carried → ℕ) → m ≡ n → IsRefolded P W u order functions n k r extra → IsRefolded P W u order functions m k r extra
    refolds-as m n k r extra e h = subst (λ x. IsRefolded P W u order functions x k r extra) (sym e) h

    pub kind-made : (g : ℕ) (v : Vertex) (args : List Operand) (k : Kind) (a lo : ℕ) → length args ≡ length v.ins → IsKindRight P W u order functions lays g v k
        → lo + (P.width v + (length (picked (P.picks g v) args) + parts_extent P k)) ≤ room
        → Lie W code weigh a (kind_code P make room g v args k (P.width v) a lo)
        → NodeIs L room args k (W.weights.of_node g v) (P.width v) a (a + kind_size P k) lo
    kind-made g v args (Plain row shape) a lo many right fits lies =
        subst (λ x. NodeIs L room args (Plain row shape) (W.weights.of_node g v) (P.width v) a x lo) (omega arith) (scalar args row shape (W.weights.of_node g v) (P.width v) a lo lies.0 lies.1)
    kind-made g v args (Whole (form.Call f)) a lo many right fits lies =
        subst (λ x. NodeIs L room args (Whole (form.Call f)) (W.weights.of_node g v) (P.width v) a x lo) (omega arith)
        (a_call args f (W.weights.of_node g v) (P.width v) a lo right.0 (many ∙ right.1) (omega (arith, fits)) lies.0 (λ ks rs. lies.1 ks [] ∙ right.2 ks rs))
    kind-made g v args (Whole (form.Select s gs n)) a lo many right fits lies =
        let b = a + kind_size P (Whole (form.Select s gs n)) in
        subst (λ x. NodeIs L room args (Whole (form.Select s gs x)) (W.weights.of_node g v) (P.width v) a b lo) (sym right.0)
        (select-made P W u order functions code weigh room make lays long does args s gs (W.weights.of_node g v) (P.width v) a b lo g v
        (starts-made P W u order functions code weigh room g v args (P.width v) a lo (parts_code P make room (own_cells (P.picks g v) args (lo + P.width v)) (Whole (form.Select s gs n)) (suc (suc a)) (P.width v) b lo ((lo + P.width v) + length (picked (P.picks g v) args))) right.1 lies) right.2 right.3 right.4 (omega (arith, fits)) lies.2.2)
    kind-made g v args (Whole (form.TagCase gs n)) a lo many right fits lies =
        let b = a + kind_size P (Whole (form.TagCase gs n)) in
        let mid = (lo + P.width v) + length (picked (P.picks g v) args) in
        let some = right.2 in
        let same = own-long (P.picks g v) args (lo + P.width v) in
        subst (λ x. NodeIs L room args (Whole (form.TagCase gs x)) (W.weights.of_node g v) (P.width v) a b lo) (sym right.0)
        (tag-made P W u order functions code weigh room make lays long does args gs (W.weights.of_node g v) (P.width v) a b lo mid g v (omega (arith, some, same, many))
        (starts-made P W u order functions code weigh room g v args (P.width v) a lo (parts_code P make room (own_cells (P.picks g v) args (lo + P.width v)) (Whole (form.TagCase gs n)) (suc (suc a)) (P.width v) b lo ((lo + P.width v) + length (picked (P.picks g v) args))) right.1 lies) right.3 (omega (arith, fits)) lies.2.2)
    kind-made g v args (Whole (form.LoopA i t body r n)) a lo many right fits lies =
        let b = a + kind_size P (Whole (form.LoopA i t body r n)) in
        let mid = (lo + P.width v) + length (picked (P.picks g v) args) in
        let begun = suc (suc a) + P.size i in
        subst (λ x. NodeIs L room args (Whole (form.LoopA i t body r x)) (W.weights.of_node g v) (P.width v) a b lo) (sym right.0)
        (a_loop true args i t body r (W.weights.of_node g v) (P.width v) a b lo
        (loop-made P W u order functions code weigh room make lays long does true args (P.picks g v) i t body r (line OfNothing Count ∷ []) (W.weights.of_node g v) (suc begun) (suc (suc begun)) (P.width v) a b lo mid right.8.0
        (starts-made P W u order functions code weigh room g v args (P.width v) a lo (parts_code P make room (own_cells (P.picks g v) args (lo + P.width v)) (Whole (form.LoopA i t body r n)) (suc (suc a)) (P.width v) b lo ((lo + P.width v) + length (picked (P.picks g v) args))) right.1 lies) right.2 right.3 right.4 right.5 right.6 right.7
        (refolds-as (length args) (length v.ins) (length (P.results i)) r right.8.0 many right.8.1) right.8.2 (omega (arith, fits)) (omega arith) (λ h. (h.0, refl)) lies.2.2))
    kind-made g v args (Whole (form.LoopB i t body r n)) a lo many right fits lies =
        let b = a + kind_size P (Whole (form.LoopB i t body r n)) in
        let mid = (lo + P.width v) + length (picked (P.picks g v) args) in
        let begun = suc (suc a) + P.size i in
        subst (λ x. NodeIs L room args (Whole (form.LoopB i t body r x)) (W.weights.of_node g v) (P.width v) a b lo) (sym right.0)
        (a_loop false args i t body r (W.weights.of_node g v) (P.width v) a b lo
        (loop-made P W u order functions code weigh room make lays long does false args (P.picks g v) i t body r [] (W.weights.of_node g v) (suc (suc begun + P.size body)) (suc begun) (P.width v) a b lo mid right.8.0
        (starts-made P W u order functions code weigh room g v args (P.width v) a lo (parts_code P make room (own_cells (P.picks g v) args (lo + P.width v)) (Whole (form.LoopB i t body r n)) (suc (suc a)) (P.width v) b lo ((lo + P.width v) + length (picked (P.picks g v) args))) right.1 lies) right.2 right.3 right.4 right.5 right.6 right.7
        (refolds-as (length args) (length v.ins) (length (P.results i)) r right.8.0 many right.8.1) right.8.2 (omega (arith, fits)) (omega arith) (λ h. refl) lies.2.2))
    kind-made g v args (Whole (form.ForAll e body r m n)) a lo many right fits lies =
        let b = a + kind_size P (Whole (form.ForAll e body r m n)) in
        let mid = (lo + P.width v) + length (picked (P.picks g v) args) in
        subst (λ x. NodeIs L room args (Whole (form.ForAll e body r m x)) (W.weights.of_node g v) (P.width v) a b lo) (sym right.0)
        (a_for_all args e body r m (W.weights.of_node g v) (P.width v) a b lo
        (for-all-made P W u order functions code weigh room make lays long does args (P.picks g v) e body r m (W.weights.of_node g v) (P.width v) a b lo mid
        (starts-made P W u order functions code weigh room g v args (P.width v) a lo (parts_code P make room (own_cells (P.picks g v) args (lo + P.width v)) (Whole (form.ForAll e body r m n)) (suc (suc a)) (P.width v) b lo ((lo + P.width v) + length (picked (P.picks g v) args))) right.1 lies) right.2 right.3 right.4 right.5
        (refolds-as (length args + length (P.results e)) (length v.ins + length (P.results e)) m r (W.rows r) (ap (λ x. x + length (P.results e)) many) right.6) (omega (arith, fits)) lies.2.2))

    pub nodes-made : (g : ℕ) (places : Places) (vs : List Vertex) (a b lo : ℕ) → PutsAll P places vs lo → EachNode (λ v. IsKindRight P W u order functions lays g v v.kind) vs → lo + nodes_extent P g vs ≤ room
        → b ≡ a + nodes_size P vs → Lie W code weigh a (nodes_code P make room g places vs a lo) → NodesAre L room g places vs a b lo
    nodes-made g places [] a b lo puts right fits e lies = subst (λ x. NodesAre L room g places [] a x lo) (omega (arith, e)) (no_node g places a lo)
    nodes-made g places (v ∷ vs) a b lo puts right fits e lies =
        let args = map (operand places) v.ins in
        let m = a + kind_size P v.kind in
        let here = kind_code P make room g v args v.kind (P.width v) a lo in
        let others = nodes_code P make room g places vs m (lo + P.width v) in
        let one = kind-long P W u order functions make lays long room g v args v.kind (P.width v) a lo right.0 in
        let many = length-map v.ins (operand places) in
        let mine = P.width v + (length (picked (P.picks g v) v.ins) + parts_extent P v.kind) in
        let picks = picked-long (P.picks g v) v.ins (operand places) in
        let first = le-max_left mine (P.width v + nodes_extent P g vs) in
        let second = le-max_right mine (P.width v + nodes_extent P g vs) in
        a_node g places v vs a m b lo (lo + P.width v) puts.0 (omega arith)
        (kind-made g v args v.kind a lo many right.0 (omega (arith, fits, first, picks)) (lies-first W code weigh a here others lies))
        (nodes-made g places vs m b (lo + P.width v) puts.1 right.1 (omega (arith, fits, second)) (omega (arith, e)) (lies-rest W code weigh a m here others (omega (arith, one)) lies))

  pub graph-made : ((g : ℕ) → IsSized P g) → (n : ℕ) → Does P W u order functions code weigh room (graph_code P n) (CanLay P W u order functions n)
  graph-made sized zero args g a lo right fits lies = absurd right
  graph-made sized (suc n) args g a lo right fits lies =
      let steps = (sized g).0 in
      let cells = (sized g).1 in
      let places = placed P args (P.nodes g) lo in
      a_part args g (P.nodes g) (P.results g) a (a + P.size g) lo places (λ p. refl) right.readable
      (nodes-made (graph_code P n) (CanLay P W u order functions n) (graph-long P W u order functions sized n) (graph-made sized n) g places (P.nodes g) a (a + P.size g) lo
      (puts-placed P args (P.nodes g) lo right.once (are-labelled P.width [] (P.nodes g) right.readable.0)) right.kinds (omega (arith, fits, cells)) (omega (arith, steps)) lies)
      (ends_at P args g lo) refl

  graph-nodes : ((g : ℕ) → IsSized P g) → (n : ℕ) (args : List Operand) (g a lo : ℕ) → CanLay P W u order functions n g → lo + P.extent g ≤ room → Lie W code weigh a (graph_code P n room args g a lo)
      → AreReadable P.width (P.nodes g) (P.results g) × NodesAre L room g (placed P args (P.nodes g) lo) (P.nodes g) a (a + P.size g) lo
  graph-nodes sized zero args g a lo right fits lies = absurd right
  graph-nodes sized (suc n) args g a lo right fits lies =
      let steps = (sized g).0 in
      let cells = (sized g).1 in (
        right.readable,
        nodes-made (graph_code P n) (CanLay P W u order functions n) (graph-long P W u order functions sized n) (graph-made sized n) g (placed P args (P.nodes g) lo) (P.nodes g) a (a + P.size g) lo
            (puts-placed P args (P.nodes g) lo right.once (are-labelled P.width [] (P.nodes g) right.readable.0)) right.kinds (omega (arith, fits, cells)) (omega (arith, steps)) lies,
      )

-- ---- functions

module _ (P : Plan) (W : Weighing) (u : Network) (order : ℕ → List Vertex) (functions : List ℕ) (n : ℕ) (right : IsRightPlan P W u order functions n) where
  pub function-long : (f a : ℕ) → IsIn f functions → length (function_lines P n f a) ≡ suc (P.size f)
  function-long f a in_f =
      let one = graph-long P W u order functions right.sized n (room_of P f) (cells_at 0 (P.params f)) f a (P.params f) (right.graphs f in_f).1 in
      length-append (graph_code P n (room_of P f) (cells_at 0 (P.params f)) f a (P.params f)) (line (OfResults f) (Return (ends_at P (cells_at 0 (P.params f)) f (P.params f))) ∷ []) ∙ omega (arith, one)

  pub each-lies : (code : Code) (weigh : Weigh) (fs : List ℕ) (a : ℕ) → ((f : ℕ) → IsIn f fs → IsIn f functions) → Lie W code weigh a (functions_lines P n fs a) → (f : ℕ) → IsIn f fs
      → Lie W code weigh (entry_from P fs a f) (function_lines P n f (entry_from P fs a f))
  each-lies code weigh [] a of lies f in_fs = absurd in_fs
  each-lies code weigh (h ∷ hs) a of lies f in_fs =
      let long = function-long h a (of h (inl refl)) in
      let others = functions_lines P n hs (a + suc (P.size h)) in
      let first = lies-first W code weigh a (function_lines P n h a) others lies in
      let rest = lies-rest W code weigh a (a + suc (P.size h)) (function_lines P n h a) others (omega (arith, long)) lies in
      go (eqb h f) (eqb-sound h f) (λ e. eq-eqb h f e) in_fs first (λ there. each-lies code weigh hs (a + suc (P.size h)) (λ x i. of x (inr i)) rest f there)
    where
      go : (c : Bool) → (c ≡ true → h ≡ f) → (h ≡ f → c ≡ true) → IsIn f (h ∷ hs) → Lie W code weigh a (function_lines P n h a)
          → (IsIn f hs → Lie W code weigh (entry_from P hs (a + suc (P.size h)) f) (function_lines P n f (entry_from P hs (a + suc (P.size h)) f)))
          → Lie W code weigh (if c then a else entry_from P hs (a + suc (P.size h)) f) (function_lines P n f (if c then a else entry_from P hs (a + suc (P.size h)) f))
      go true sound total in_fs first later = subst (λ x. Lie W code weigh a (function_lines P n x a)) (sound refl) first
      go false sound total (inl e) first later = absurd (let x : false ≡ true = total (sym e) in cc)
      go false sound total (inr there) first later = later there

  -- a function's lines lie at its entry
  pub block-lies : (code : Code) (weigh : Weigh) → Lie W code weigh 0 (lines_of P W u order functions n) → (f : ℕ) → IsIn f functions → Lie W code weigh (P.entry f) (function_lines P n f (P.entry f))
  block-lies code weigh lies f in_f = subst (λ x. Lie W code weigh x (function_lines P n f x)) (sym (right.entries f in_f)) (each-lies code weigh functions 0 (λ x i. i) lies f in_f)

-- blocks end where all functions do
pub entry-within : (P : Plan) (fs : List ℕ) (a f : ℕ) → IsIn f fs → entry_from P fs a f + suc (P.size f) ≤ a + functions_size P fs
entry-within P [] a f in_f = absurd in_f
entry-within P (h ∷ hs) a f in_f = go (eqb h f) (eqb-sound h f) (λ e. eq-eqb h f e) in_f (λ there. let x = entry-within P hs (a + suc (P.size h)) f there in omega (arith, x))
  where
    go : (c : Bool) → (c ≡ true → h ≡ f) → (h ≡ f → c ≡ true) → IsIn f (h ∷ hs)
        → (IsIn f hs → entry_from P hs (a + suc (P.size h)) f + suc (P.size f) ≤ a + (suc (P.size h) + functions_size P hs))
        → (if c then a else entry_from P hs (a + suc (P.size h)) f) + suc (P.size f) ≤ a + (suc (P.size h) + functions_size P hs)
    go true sound total in_f later = let e = ap P.size (sound refl) in omega (arith, e)
    go false sound total (inl e) later = absurd (let x : false ≡ true = total (sym e) in cc)
    go false sound total (inr there) later = later there

function-of : (P : Plan) (W : Weighing) (u : Network) (order : ℕ → List Vertex) (functions : List ℕ) (code : Code) (weigh : Weigh) (f : ℕ) → IsPlanned P W u order functions f
    → AreReadable P.width (P.nodes f) (P.results f)
    → NodesAre (laid_as P W u order functions code weigh) (room_of P f) f (placed P (cells_at 0 (P.params f)) (P.nodes f) (P.params f)) (P.nodes f) (P.entry f) (P.entry f + P.size f) (P.params f)
    → code (P.entry f + P.size f) ≡ Return (ends_at P (cells_at 0 (P.params f)) f (P.params f)) → ((ks : List Carried) → weigh (P.entry f + P.size f) ks [] ≡ W.weights.of_results f ks)
    → FunctionIs (laid_as P W u order functions code weigh) f
function-of P W u order functions code weigh f planned readable nodes leaves weighs =
    let args = cells_at 0 (P.params f) in
    let places = placed P args (P.nodes f) (P.params f) in
    let end = P.entry f + P.size f in
    let X = laid_as P W u order functions code weigh in
    record {
      places = places;
      end = end;
      ordered = subst (λ vs. AreReadable P.width vs (u f).results) (sym planned.0) (subst (λ os. AreReadable P.width (P.nodes f) os) (sym planned.1) readable);
      inputs = λ p lt. cells-get 0 (P.params f) (p - 1) lt ∙ ap At (omega arith);
      wanting = λ p le. cells-past 0 (P.params f) (p - 1) le;
      nodes = subst (λ vs. NodesAre X (room_of P f) f places vs (P.entry f) end (P.params f)) (sym planned.0) nodes;
      leaves = subst (λ os. code end ≡ Return (map (operand places) os)) (sym planned.1) leaves;
      weighs = weighs;
    }

pub made : IsCodeOfGraphs
made P W u order functions n code weigh right lies f in_f =
    let room = room_of P f in
    let args = cells_at 0 (P.params f) in
    let a = P.entry f in
    let end = a + P.size f in
    let here = graph_code P n room args f a (P.params f) in
    let leave = line (OfResults f) (Return (ends_at P args f (P.params f))) ∷ [] in
    let block = block-lies P W u order functions n right code weigh lies f in_f in
    let long = graph-long P W u order functions right.sized n room args f a (P.params f) (right.graphs f in_f).1 in
    let rest = lies-rest W code weigh a end here leave (omega (arith, long)) block in
    let nodes = graph-nodes P W u order functions code weigh room right.sized n args f a (P.params f) (right.graphs f in_f).1 (omega arith) (lies-first W code weigh a here leave block) in
    function-of P W u order functions code weigh f (right.graphs f in_f).0 nodes.0 nodes.1 rest.0 (λ ks. rest.1 ks [])

pub lines-lie : DoLinesLie
lines-lie P W u order functions n = lies-in W (lines_of P W u order functions n)
