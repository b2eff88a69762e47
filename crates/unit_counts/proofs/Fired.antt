-- Nodes of the plan of a unit of which nothing is told copy by their modes what their rows consume and do not take.
use Rattle.std.proofs.Common.{◌≡◌, ℕ, suc, ◌+◌, ◌≤◌, ◌&&◌, ◌||◌, not, if◌then◌else◌, Bool, true, false, List, [], ◌∷◌, map, length, Option, Some, None, inl, inr, refl, sym, ap, ◌∙◌, subst, arith}
use Rattle.if1_graph.specs.declared.graph.Unit1.{Unit1}
use Rattle.if1_graph.specs.declared.op.Simple.{Simple}
use Rattle.if1_graph.specs.declared.op.Simple.TheVariants as simple
use Rattle.if1_graph.specs.Ready.{IsReady}
use Rattle.graph_meaning.specs.Carried.{Carried}
use Rattle.graph_meaning.specs.Demand.{EachNode, Kind, Plain, Source, Vertex, Whole}
use Rattle.graph_meaning.specs.Networks.{network}
use Rattle.graph_meaning.specs.NodeValues.{Shape}
use Rattle.graph_meaning.specs.Storage.{Storage, is_consumed_at, is_left, leaves_at, leaves_of}
use Rattle.graph_meaning.specs.StorageUnits.{storage_of}
use Rattle.ordered_meaning.specs.Orders.{AreInOrder}
use Rattle.ordered_meaning.specs.Taking.{first_port}
use Rattle.run_code.specs.Made.{Plan}
use Rattle.run_store.specs.Ports.{mode_of, modes_of}
use Rattle.run_store.specs.Stored.{Mode, copied, copied_as}
use Rattle.made_store.specs.Settings.{Shares, modes_at}
use Rattle.unit_plan.proofs.Weights.{none-more}
use Rattle.unit_plan.specs.Plans.{Tables, nodes_by, plain_of, plan_of}
use Rattle.unit_plan.specs.Returns.{Wholly, ins_by, multiple, refolded_node, way_of, whole_in, whole_ins}
use Rattle.unit_plan.specs.Shares.{kind_or, kind_there, shares_of, takes_more}
use Rattle.unit_runs.proofs.PlanSharesGraphs.{IsAt, each-of, each-refolded, in-order, kind-at}
use Rattle.row_counts.specs.Counts.{IsFiredSo}
use Rattle.plan_data.specs.declared.plan.PlanData.{PlanData}
use Rattle.plan_data.specs.declared.plan.PlanNode.{PlanNode}
use Rattle.plan_data.specs.declared.plan.Work.{Work}
use Rattle.plan_data.specs.declared.plan.Work.TheVariants as work
use Rattle.plan_data.specs.Parts as parts
use Rattle.plan_data.specs.Parts.{graph_nodes, kind_of}
use Rattle.plan_data.specs.Stands.{AreNodes, IsHandled, IsNode, Stands}
use Rattle.unit_runs.specs.Grows.{IsPair}
use Rattle.told_rows.specs.Rows.{IsFiredByRow, IsFiredOf}
use Rattle.unit_counts.proofs.Given.{IsGiven, IsGivenAs, nodes-given}

-- ---- rows of which nothing is told

abbrev IsByModes : Simple → Type 0
IsByModes simple.FinalValue = ⊥
IsByModes simple.AGather = ⊥
IsByModes (simple.Reduce grouping) = ⊥
IsByModes simple.AFill = ⊥
IsByModes simple.AElement = ⊥
IsByModes simple.FirstValue = ⊥
IsByModes simple.RElements = ⊥
IsByModes row = Unit {0}

fired-row : (s : Storage) (g l : ℕ) (row : Simple) (ms : List Mode) (w : ℕ) (ks rs : List Carried) → length rs ≡ w
    → (IsByModes row → copied ms ks ≡ leaves_at (λ port. is_consumed_at row port && is_left s g l port) 1 ks) → IsFiredSo s g l ms w ks rs row
fired-row s g l simple.FinalValue ms w ks rs long h = tt
fired-row s g l simple.AGather ms w ks rs long h = tt
fired-row s g l (simple.Reduce grouping) ms w ks rs long h = tt
fired-row s g l simple.AFill ms w ks rs long h = tt
fired-row s g l simple.AElement ms w ks rs long h = long
fired-row s g l simple.FirstValue ms w ks rs long h = long
fired-row s g l simple.RElements ms w ks rs long h = long
fired-row s g l (simple.One a) ms w ks rs long h = h tt
fired-row s g l (simple.Two a) ms w ks rs long h = h tt
fired-row s g l simple.NoOp ms w ks rs long h = h tt
fired-row s g l simple.Error ms w ks rs long h = h tt
fired-row s g l simple.Call ms w ks rs long h = h tt
fired-row s g l simple.ABuild ms w ks rs long h = h tt
fired-row s g l simple.AReplace ms w ks rs long h = h tt
fired-row s g l simple.AAddH ms w ks rs long h = h tt
fired-row s g l simple.AAddL ms w ks rs long h = h tt
fired-row s g l simple.ARemH ms w ks rs long h = h tt
fired-row s g l simple.ARemL ms w ks rs long h = h tt
fired-row s g l simple.ASetL ms w ks rs long h = h tt
fired-row s g l simple.AAdjust ms w ks rs long h = h tt
fired-row s g l simple.ALimL ms w ks rs long h = h tt
fired-row s g l simple.ALimH ms w ks rs long h = h tt
fired-row s g l simple.ASize ms w ks rs long h = h tt
fired-row s g l simple.AIsEmpty ms w ks rs long h = h tt
fired-row s g l simple.ACatenate ms w ks rs long h = h tt
fired-row s g l simple.RestValues ms w ks rs long h = h tt
fired-row s g l simple.RBuild ms w ks rs long h = h tt
fired-row s g l simple.RReplace ms w ks rs long h = h tt
fired-row s g l simple.RangeGenerate ms w ks rs long h = h tt
fired-row s g l simple.AScatter ms w ks rs long h = h tt

-- such a node reads all that it reads, also in a returns
whole-way : (plain : ℕ) (left : (port : ℕ) → Bool) (row : Simple) (os : List Source) → IsByModes row → way_of plain left row os ≡ Wholly
whole-way plain left simple.FinalValue os h = absurd h
whole-way plain left simple.AGather os h = absurd h
whole-way plain left (simple.Reduce grouping) os h = absurd h
whole-way plain left simple.AFill os h = absurd h
whole-way plain left simple.AElement os h = absurd h
whole-way plain left simple.FirstValue os h = absurd h
whole-way plain left simple.RElements os h = absurd h
whole-way plain left (simple.One a) os h = refl
whole-way plain left (simple.Two a) os h = refl
whole-way plain left simple.NoOp os h = refl
whole-way plain left simple.Error os h = refl
whole-way plain left simple.Call os h = refl
whole-way plain left simple.ABuild os h = refl
whole-way plain left simple.AReplace os h = refl
whole-way plain left simple.AAddH os h = refl
whole-way plain left simple.AAddL os h = refl
whole-way plain left simple.ARemH os h = refl
whole-way plain left simple.ARemL os h = refl
whole-way plain left simple.ASetL os h = refl
whole-way plain left simple.AAdjust os h = refl
whole-way plain left simple.ALimL os h = refl
whole-way plain left simple.ALimH os h = refl
whole-way plain left simple.ASize os h = refl
whole-way plain left simple.AIsEmpty os h = refl
whole-way plain left simple.ACatenate os h = refl
whole-way plain left simple.RestValues os h = refl
whole-way plain left simple.RBuild os h = refl
whole-way plain left simple.RReplace os h = refl
whole-way plain left simple.RangeGenerate os h = refl
whole-way plain left simple.AScatter os h = refl

whole-long : (plain k : ℕ) (os : List Source) → length (whole_ins plain k os) ≡ length os
whole-long plain k [] = refl
whole-long plain k (o ∷ os) = go (multiple plain o) (λ i. whole-long plain i os)
  where
    go : (m : Option ℕ) → ((i : ℕ) → length (whole_ins plain i os) ≡ length os) → length (whole_in plain k o m (λ i. whole_ins plain i os)) ≡ suc (length os)
    go None rest = ap suc (rest k)
    go (Some j) rest = ap suc (rest (suc k))

-- ---- what modes copy

-- ports past the last one copy nothing
none-left : (test : ℕ → Bool) (first : ℕ) (ks : List Carried) → ((p : ℕ) → first ≤ p → test p ≡ false) → leaves_at test first ks ≡ 0
none-left test first [] h = refl
none-left test first (k ∷ ks) h =
    ap (λ b. (if b then leaves_of k else 0) + leaves_at test (suc first) ks) (h first (omega arith))
    ∙ (let rest = none-left test (suc first) ks (λ p le. h p (omega (arith, le))) in omega (arith, rest))

none-copied : (ks : List Carried) → copied [] ks ≡ 0
none-copied [] = refl
none-copied (k ∷ ks) = let rest = none-copied ks in omega (arith, rest)

one-copied : (t c b : Bool) (k : Carried) → b ≡ c && not t → copied_as (mode_of t c) k ≡ (if b then leaves_of k else 0)
one-copied true true b k e = sym (ap (λ x. if x then leaves_of k else 0) e)
one-copied true false b k e = sym (ap (λ x. if x then leaves_of k else 0) e)
one-copied false true b k e = sym (ap (λ x. if x then leaves_of k else 0) e)
one-copied false false b k e = sym (ap (λ x. if x then leaves_of k else 0) e)

modes-copied : (takes consumes test : ℕ → Bool) → ((p : ℕ) → test p ≡ consumes p && not (takes p)) → (first : ℕ) (os : List Source) (ks : List Carried) → ((p : ℕ) → first + length os ≤ p → test p ≡ false)
    → copied (modes_of takes consumes first os) ks ≡ leaves_at test first ks
modes-copied takes consumes test same first [] ks past = none-copied ks ∙ sym (none-left test first ks (λ p le. past p (omega (arith, le))))
modes-copied takes consumes test same first (o ∷ os) [] past = refl
modes-copied takes consumes test same first (o ∷ os) (k ∷ ks) past =
    ap (λ n. n + copied (modes_of takes consumes (suc first) os) ks) (one-copied (takes first) (consumes first) (test first) k (same first))
    ∙ ap (λ n. (if test first then leaves_of k else 0) + n) (modes-copied takes consumes test same (suc first) os ks (λ p le. past p (omega (arith, le))))

-- more is taken only where nothing is copied
copies-same : (a b c m : Bool) → (b ≡ true → m ≡ false) → a && (b && not c) ≡ (a && b) && not (m || c)
copies-same false b c m h = refl
copies-same true false c m h = refl
copies-same true true c m h = ap (λ x. not (x || c)) (sym (h refl))

and-none : (a c : Bool) → a && (false && c) ≡ false
and-none true c = refl
and-none false c = refl

-- ---- the nodes of the plan

module _ (u : Unit1) (order : (graph : ℕ) → List Vertex) (t : Tables) (ready : IsReady u) (along : AreInOrder (network u) order) (g : ℕ) where
  abbrev P : Plan
  P = plan_of u order t

  abbrev S : Shares
  S = shares_of u order

  abbrev s : Storage
  s = storage_of u

  -- a node is given what the node of its label consumes by its row
  abbrev IsGivenThere : Vertex → Type 0
  IsGivenThere v = (row : Simple) (shape : Shape) → kind_there (network u g) v ≡ Plain row shape → IsByModes row → IsGiven u g v row

  given-there : (v : Vertex) → IsGivenAs u g v × IsAt (network u g) v → IsGivenThere v
  given-there v h row shape e by = h.0 row shape (sym (kind-at (network u g) v h.1.found) ∙ e)

  same-row : (op row : Simple) (own shape : Shape) → Plain op own ≡ Plain row shape → op ≡ row
  same-row op row own shape e = cc

  refolded-there : (plain k : ℕ) (v : Vertex) (kind : Kind) → v.kind ≡ kind → IsGivenAs u g v × IsAt (network u g) v → IsGivenThere (refolded_node plain (is_left s g) k v kind)
  refolded-there plain k v (Whole form) is h = given-there v h
  refolded-there plain k v (Plain op own) is h = λ row shape e by.
      let there : v.kind ≡ Plain row shape = sym (ap (kind_or (refolded_node plain (is_left s g) k v (Plain op own)).kind) h.1.found) ∙ e in
      let old : IsGiven u g v row = h.0 row shape there in
      let same : op ≡ row = same-row op row own shape (sym is ∙ there) in
      let way : way_of plain (is_left s g v.label) op v.ins ≡ Wholly = whole-way plain (is_left s g v.label) op v.ins (subst IsByModes (sym same) by) in
      let long : length (refolded_node plain (is_left s g) k v (Plain op own)).ins ≡ length v.ins = ap (λ z. length (ins_by z plain k v.ins)) way ∙ whole-long plain k v.ins in
      record { given = old.given; past = λ p le. old.past p (omega (arith, long, le)) }

  planned : (vs : List Vertex) → EachNode (λ v. IsGivenAs u g v × IsAt (network u g) v) vs → (o : Option ℕ) → EachNode IsGivenThere (nodes_by u g o vs)
  planned vs h None = each-of (λ v. IsGivenAs u g v × IsAt (network u g) v) IsGivenThere given-there vs h
  planned vs h (Some plain) = each-refolded plain (is_left s g) (λ v. IsGivenAs u g v × IsAt (network u g) v) IsGivenThere (λ k v. refolded-there plain k v v.kind refl) 0 vs h

  all-given : EachNode IsGivenThere (P.nodes g)
  all-given = planned (order g) (in-order (network u g) (IsGivenAs u g) (nodes-given u ready g) (order g) (along g)) (plain_of u g)

  -- ---- what it copies

  takes-less : (row : Simple) (v : Vertex) → IsGiven u g v row → (p : ℕ) → is_consumed_at row p && is_left s g v.label p ≡ S.copies g v.label p && not (S.takes g v.label p)
  takes-less row v h p =
      ap (λ b. b && is_left s g v.label p) (sym (h.given p))
      ∙ copies-same (s.is_given g v.label p) (s.is_aggregate g v.label p) (s.is_taken g v.label p) (takes_more u order g v.label p) (none-more u order g v.label p)

  node-copies : (row : Simple) (v : Vertex) → IsGiven u g v row → (ks : List Carried) → copied (modes_of (S.takes g v.label) (S.copies g v.label) 1 v.ins) ks ≡ leaves_at (λ p. is_consumed_at row p && is_left s g v.label p) 1 ks
  node-copies row v h ks =
      modes-copied (S.takes g v.label) (S.copies g v.label) (λ p. is_consumed_at row p && is_left s g v.label p) (takes-less row v h) 1 v.ins ks
      (λ p le. ap (λ b. is_consumed_at row p && (b && not (s.is_taken g v.label p))) (h.past p (omega (arith, le))) ∙ and-none (is_consumed_at row p) (not (s.is_taken g v.label p)))

  -- ---- in the data

  module _ (D : PlanData) (stands : Stands D P S) where
    pair-in : (ns : List PlanNode) (vs : List Vertex) (n : PlanNode) (v : Vertex) → IsPair ns vs n v → AreNodes D P S g ns vs → EachNode IsGivenThere vs → IsNode D P S g n v × IsGivenThere v
    pair-in [] vs n v h a e = absurd h
    pair-in (m ∷ ms) [] n v h a e = absurd h
    pair-in (m ∷ ms) (w ∷ ws) n v (inl h) a e = (subst (λ x. IsNode D P S g x v) (sym h.0) (subst (λ y. IsNode D P S g m y) (sym h.1) a.0), subst IsGivenThere (sym h.1) e.0)
    pair-in (m ∷ ms) (w ∷ ws) n v (inr h) a e = pair-in ms ws n v h a.1 e.1

    fired-of : (n : PlanNode) (v : Vertex) → IsGivenThere v → modes_of (S.takes g v.label) (S.copies g v.label) 1 v.ins ≡ map parts.mode_of n.ins → (k : Kind) → kind_there (network u g) v ≡ k → IsFiredOf D u g v.label n k
    fired-of n v h modes (Whole form) is = tt
    fired-of n v h modes (Plain row shape) is = λ ks rs long.
        fired-row s g v.label row (map parts.mode_of n.ins) n.width ks rs long (λ by. ap (λ ms. copied ms ks) (sym modes) ∙ node-copies row v (h row shape is by) ks)

    fired-work : (n : PlanNode) (v : Vertex) → IsNode D P S g n v → IsGivenThere v → (x : Work) → n.work ≡ x → IsFiredByRow D u g v n x
    fired-work n v node h (work.Plain row shape writes copies) is =
        let first : first_port v.kind ≡ 1 = ap first_port (node.kind ∙ ap (λ z. kind_of z n.width) is) in
        let handled : modes_at P S g v ≡ map parts.mode_of n.ins = subst (IsHandled D P S g n.ins v) is node.handled in
        fired-of n v h (subst (λ i. modes_of (S.takes g v.label) (S.copies g v.label) i v.ins ≡ map parts.mode_of n.ins) first handled) (kind_there (network u g) v) refl
    fired-work n v node h (work.Call f) is = tt
    fired-work n v node h (work.Select x gs) is = tt
    fired-work n v node h (work.TagCase gs) is = tt
    fired-work n v node h (work.LoopA p) is = tt
    fired-work n v node h (work.LoopB p) is = tt
    fired-work n v node h (work.ForAll x b r m) is = tt

    pub node-fired : (n : PlanNode) (v : Vertex) → IsPair (graph_nodes D g) (P.nodes g) n v → IsFiredByRow D u g v n n.work
    node-fired n v pair =
        let both = pair-in (graph_nodes D g) (P.nodes g) n v pair (stands.nodes g) all-given in
        fired-work n v both.0 both.1 n.work refl
