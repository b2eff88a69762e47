-- Weights by the marks of a unit.
use Rattle.std.proofs.Common.{◌≡◌, ℕ, zero, suc, ◌+◌, ◌<◌, ◌≤◌, ◌&&◌, ◌||◌, not, cond, Bool, true, false, List, [], ◌∷◌, map, filter, find, drop, length, Option, Some, None, ◌==◌, refl, sym, ap, ◌∙◌, subst, arith}
use Rattle.graph_meaning.specs.Edge.{Edge}
use Rattle.graph_meaning.specs.Graph.{Graph}
use Rattle.graph_meaning.specs.Graph.TheViews.{out-Graph}
use Rattle.graph_meaning.specs.Node.{Node}
use Rattle.graph_meaning.specs.Unit1.{Unit1}
use Rattle.graph_meaning.specs.Ports.{count_from}
use Rattle.graph_meaning.specs.Units.{Place, edge_into, greatest, number_of, places, width}
use Rattle.graph_meaning.specs.Given.{consumes}
use Rattle.graph_meaning.specs.Demand.{EachNode, Kind, Plain, Vertex, Whole}
use Rattle.graph_meaning.specs.Forms as form
use Rattle.graph_meaning.specs.Networks.{ins_of, kind_of, net_at, network, source_at, sources, vertex_of}
use Rattle.graph_meaning.specs.Storage.{Storage}
use Rattle.graph_meaning.specs.StorageUnits.{carries_aggregate, storage_of, takes, test_in}
use Rattle.run_code.specs.Taking.{first_port}
use Rattle.run_code.specs.Made.{Plan}
use Rattle.run_made.proofs.Lying.{eqb-other}
use Rattle.made_store.proofs.Weights.{modes-weights}
use Rattle.made_store.specs.Settings.{Shares}
use Rattle.made_store.specs.UnitWeights.{AreUnitWeights, IsPicked, marked_shares}
use Rattle.made_store.specs.Weights.{IsNodeMarked, is_copied}

-- ---- ports past the last one

past : (es : List Edge) (l p : ℕ) → greatest (map (λ e. e.port) (filter (λ e. e.node == l) es)) < p → find (λ e. (e.node == l) && (e.port == p)) es ≡ None
past [] l p lt = refl
past (e ∷ es) l p lt = go (e.node == l) refl lt (λ less. past es l p less)
  where
    go : (b : Bool) → (e.node == l) ≡ b → greatest (map (λ e. e.port) (cond b (e ∷ filter (λ e. e.node == l) es) (filter (λ e. e.node == l) es))) < p
        → (greatest (map (λ e. e.port) (filter (λ e. e.node == l) es)) < p → find (λ e. (e.node == l) && (e.port == p)) es ≡ None)
        → cond (b && (e.port == p)) (Some e) (find (λ e. (e.node == l) && (e.port == p)) es) ≡ None
    go true is lt rest = ap (λ b. cond b (Some e) (find (λ e. (e.node == l) && (e.port == p)) es)) (eqb-other e.port p (λ s. omega (arith, s, lt))) ∙ rest (omega (arith, lt))
    go false is lt rest = rest lt

edge-past : (h : Graph) (l p : ℕ) → width h l < p → edge_into h l p ≡ None
edge-past h l p lt = past (out-Graph h).edges l p lt

count-long : (first n : ℕ) → length (count_from first n) ≡ n
count-long first zero = refl
count-long first (suc n) = ap suc (count-long (suc first) n)

map-long : {A B : Type 0} (f : A → B) (xs : List A) → length (map f xs) ≡ length xs
map-long f [] = refl
map-long f (x ∷ xs) = ap suc (map-long f xs)

drop-long : {A : Type 0} (xs : List A) → length xs ≤ suc (length (drop 1 xs))
drop-long [] = omega arith
drop-long (x ∷ xs) = omega arith

-- ---- tests

and-none : (a c : Bool) → a && (false && c) ≡ false
and-none true c = refl
and-none false c = refl

-- more is taken only where nothing is copied
copies-same : (a b c m : Bool) → (b ≡ true → m ≡ false) → a && (b && not c) ≡ (a && b) && not (m || c)
copies-same false b c m h = refl
copies-same true false c m h = refl
copies-same true true c m h = ap (λ x. not (x || c)) (sym (h refl))

module _ (u : Unit1) (P : Plan) (more : (graph node port : ℕ) → Bool) (owns has : (graph port : ℕ) → Bool) (puts : (returns : ℕ) → List Bool) (apart : (g l p : ℕ) → (storage_of u).is_aggregate g l p ≡ true → more g l p ≡ false)
    (picks : (g : ℕ) (v : Vertex) → IsPicked (storage_of u) g v v.kind (P.picks g v)) where
  abbrev s : Storage
  s = storage_of u

  abbrev S : Shares
  S = marked_shares s more owns has puts

  module _ (g : ℕ) (q : Place) (e : find (λ p. number_of p == g) (places u) ≡ Some q) where
    none-past : (l p : ℕ) → width q.graph l < p → is_copied P S s g l p ≡ false
    none-past l p lt =
        let z : s.is_aggregate g l p ≡ false = ap (λ o. test_in o (λ h. carries_aggregate u (edge_into h l p))) e ∙ ap (carries_aggregate u) (edge-past q.graph l p lt) in
        ap (λ b. s.is_given g l p && (b && not (s.is_taken g l p))) z ∙ and-none (s.is_given g l p) (not (s.is_taken g l p))

    all-long : (l : ℕ) → width q.graph l < 1 + length (sources u q.graph l 1 (width q.graph l))
    all-long l =
        let a = map-long (source_at u q.graph l) (count_from 1 (width q.graph l)) in
        let b = count-long 1 (width q.graph l) in
        omega (arith, a, b)

    ins-long : (l : ℕ) (k : Kind) → width q.graph l < first_port k + length (ins_of u q.graph l k)
    ins-long l (Plain row shape) = all-long l
    ins-long l (Whole (form.Call f)) =
        let a = drop-long (sources u q.graph l 1 (width q.graph l)) in
        let b = all-long l in
        omega (arith, a, b)
    ins-long l (Whole (form.Select x gs w)) = all-long l
    ins-long l (Whole (form.TagCase gs w)) = all-long l
    ins-long l (Whole (form.LoopA i t b r w)) = all-long l
    ins-long l (Whole (form.LoopB i t b r w)) = all-long l
    ins-long l (Whole (form.ForAll x b r m w)) = all-long l

    past-ins : (v : Vertex) (k : Kind) → v.kind ≡ k → v.ins ≡ ins_of u q.graph v.label v.kind → (p : ℕ) → first_port k + length v.ins ≤ p → width q.graph v.label < p
    past-ins v k is ins p le =
        let a = ins-long v.label k in
        let b : length v.ins ≡ length (ins_of u q.graph v.label k) = ap length ins ∙ ap (λ z. length (ins_of u q.graph v.label z)) is in
        omega (arith, a, b, le)

    picked-as : (v : Vertex) (k : Kind) → v.kind ≡ k → IsPicked s g v k (P.picks g v)
    picked-as v k is = subst (λ z. IsPicked s g v z (P.picks g v)) is (picks g v)

    kind-marked : (v : Vertex) (k : Kind) → v.kind ≡ k → v.ins ≡ ins_of u q.graph v.label v.kind → IsNodeMarked P S s g v k
    kind-marked v (Plain row shape) is ins = tt
    kind-marked v (Whole (form.Call f)) is ins = (
      (λ p. copies-same (s.is_given g v.label p) (s.is_aggregate g v.label p) (s.is_taken g v.label p) (more g v.label p) (apart g v.label p)),
      (λ p le. none-past v.label p (past-ins v (Whole (form.Call f)) is ins p le)),
      ap first_port is,
    )
    kind-marked v (Whole (form.Select x gs w)) is ins = (picked-as v (Whole (form.Select x gs w)) is, λ p le. none-past v.label p (past-ins v (Whole (form.Select x gs w)) is ins p le))
    kind-marked v (Whole (form.TagCase gs w)) is ins = (picked-as v (Whole (form.TagCase gs w)) is, λ p le. none-past v.label p (past-ins v (Whole (form.TagCase gs w)) is ins p le))
    kind-marked v (Whole (form.LoopA i t b r w)) is ins = (picked-as v (Whole (form.LoopA i t b r w)) is, λ p le. none-past v.label p (past-ins v (Whole (form.LoopA i t b r w)) is ins p le))
    kind-marked v (Whole (form.LoopB i t b r w)) is ins = (picked-as v (Whole (form.LoopB i t b r w)) is, λ p le. none-past v.label p (past-ins v (Whole (form.LoopB i t b r w)) is ins p le))
    kind-marked v (Whole (form.ForAll x b r m w)) is ins = (picked-as v (Whole (form.ForAll x b r m w)) is, λ p le. none-past v.label p (past-ins v (Whole (form.ForAll x b r m w)) is ins p le))

    nodes-marked : (ns : List Node) → EachNode (λ v. IsNodeMarked P S s g v v.kind) (map (vertex_of u q.graph) ns)
    nodes-marked [] = tt
    nodes-marked (n ∷ ns) = (kind-marked (vertex_of u q.graph n) (kind_of u q.graph n) refl refl, nodes-marked ns)

  unit-marked : (g : ℕ) → EachNode (λ v. IsNodeMarked P S s g v v.kind) (network u g).nodes
  unit-marked g = go (find (λ p. number_of p == g) (places u)) refl
    where
      go : (o : Option Place) → find (λ p. number_of p == g) (places u) ≡ o → EachNode (λ v. IsNodeMarked P S s g v v.kind) (network u g).nodes
      go None e = subst (λ n. EachNode (λ v. IsNodeMarked P S s g v v.kind) n.nodes) (sym (ap (net_at u) e)) tt
      go (Some q) e = subst (λ n. EachNode (λ v. IsNodeMarked P S s g v v.kind) n.nodes) (sym (ap (net_at u) e)) (nodes-marked g q e (out-Graph q.graph).nodes)

-- the boundary consumes all its results
results-marked : (u : Unit1) (o : Option Place) (p : ℕ) (m : Bool) → (test_in o (λ h. carries_aggregate u (edge_into h 0 p)) ≡ true → m ≡ false)
    → test_in o (λ h. carries_aggregate u (edge_into h 0 p)) && not (test_in o (λ h. takes (edge_into h 0 p)))
    ≡ (test_in o (λ h. consumes u h 0 p) && test_in o (λ h. carries_aggregate u (edge_into h 0 p))) && not (m || test_in o (λ h. takes (edge_into h 0 p)))
results-marked u None p m h = refl
results-marked u (Some q) p m h = copies-same true (carries_aggregate u (edge_into q.graph 0 p)) (takes (edge_into q.graph 0 p)) m h

pub unit-weights : AreUnitWeights
unit-weights u P more owns has puts apart picks as_many =
    modes-weights P (marked_shares (storage_of u) more owns has puts) (storage_of u) (network u)
    (record { nodes = unit-marked u P more owns has puts apart picks; results = λ g p. results-marked u (find (λ q. number_of q == g) (places u)) p (more g 0 p) (apart g 0 p); as_many = as_many })
