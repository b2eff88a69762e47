-- What is asked of a plan's shares, graph by graph, so that no step reads what was taken or takes what is lent.
use Rattle.std.specs.Prelude.{◌≡◌, ℕ, zero, suc, ◌+◌, ◌<◌, ◌≤◌, ◌||◌, true, false, Some, List, [], ◌∷◌, length, slice_get}
use Rattle.graph_meaning.specs.Carried.{Carried}
use Rattle.graph_meaning.specs.Forms as form
use Rattle.graph_meaning.specs.Demand.{Source, Port, Fixed, Kind, Plain, Whole, Vertex, EachNode}
use Rattle.run_code.specs.Taking.{AreTakersLast, Fills, first_port}
use Rattle.run_code.specs.Collections.{Final}
use Rattle.run_code.specs.Made.{Plan}
use Rattle.run_made.specs.Plans.{All, Weighing}
use Rattle.run_store.specs.Ports.{copies_of}
use Rattle.run_store.specs.Stored.{copied, put_copied}
use Rattle.made_store.specs.Settings.{Shares, gives, modes_at, result_modes}

module _ (P : Plan) (S : Shares) (W : Weighing) where
  -- inputs that are read are there
  abbrev pub AreThere : (graph : ℕ) → List Source → Type 0
  AreThere g [] = Unit {0}
  AreThere g (Fixed c ∷ os) = AreThere g os
  AreThere g (Port zero zero ∷ os) = ⊥
  AreThere g (Port zero (suc p) ∷ os) = (S.has g (suc p) ≡ true) × AreThere g os
  AreThere g (Port (suc l) p ∷ os) = AreThere g os

  -- an input that is taken is one that the graph owns
  abbrev pub TakesOwned : (graph node first : ℕ) → List Source → Type 0
  TakesOwned g l first os = (j p : ℕ) → Fills j os first 0 p → S.takes g l j ≡ true → S.owns g p ≡ true

  -- the graph owns none of its inputs
  abbrev pub OwnsNone : (graph : ℕ) → Type 0
  OwnsNone g = (p : ℕ) → S.owns g p ≡ false

  -- it owns only what its node gives
  abbrev pub OwnsGiven : (graph : ℕ) → Vertex → (part : ℕ) → Type 0
  OwnsGiven g v h = (p : ℕ) → S.owns h p ≡ true → gives P S g v p ≡ true

  -- it owns none of so many inputs
  abbrev pub OwnsPast : (many graph : ℕ) → Type 0
  OwnsPast n h = (p : ℕ) → S.owns h p ≡ true → n < p

  -- what its node gives is not there
  abbrev pub HasUngiven : (graph : ℕ) → Vertex → (part : ℕ) → Type 0
  HasUngiven g v h = (p : ℕ) → S.has h p ≡ true → p ≤ length v.ins → gives P S g v p ≡ false

  -- of last values of one loop value the returns owns one at most
  abbrev pub OwnsLastOnce : (plain returns : ℕ) → Type 0
  OwnsLastOnce n r = (p q j : ℕ) → S.owns (P.refolded r) (suc (n + p)) ≡ true → slice_get (P.collects r) p ≡ Some (Final j) → slice_get (P.collects r) q ≡ Some (Final j) → q ≡ p

  abbrev pub IsLoopShared : (graph : ℕ) → Vertex → (init test body returns : ℕ) → Type 0
  IsLoopShared g v i t b r =
      OwnsGiven g v i × OwnsNone t × OwnsPast (length v.ins) b × HasUngiven g v t × HasUngiven g v b × HasUngiven g v (P.refolded r) × OwnsPast (length v.ins) (P.refolded r) × OwnsLastOnce (length v.ins) r

  abbrev pub IsKindShared : (graph : ℕ) → Vertex → Kind → Type 0
  IsKindShared g v (Plain row shape) = Unit {0}
  IsKindShared g v (Whole (form.Call f)) =
      ((p : ℕ) → S.owns f p ≡ true → S.takes g v.label (suc p) || S.copies g v.label (suc p) ≡ true) × ((ks : List Carried) → copied (modes_at P S g v) ks ≡ W.weights.of_node g v ks [])
  IsKindShared g v (Whole (form.Select s gs w)) = OwnsNone s × All (OwnsGiven g v) gs
  IsKindShared g v (Whole (form.TagCase gs w)) = All (λ h. (p : ℕ) → S.owns h (suc (suc p)) ≡ true → gives P S g v (suc (suc p)) ≡ true) gs
  IsKindShared g v (Whole (form.LoopA i t b r w)) = IsLoopShared g v i t b r
  IsKindShared g v (Whole (form.LoopB i t b r w)) = IsLoopShared g v i t b r
  IsKindShared g v (Whole (form.ForAll e b r m w)) =
      OwnsGiven g v e × OwnsNone b × HasUngiven g v b × HasUngiven g v (P.refolded r) × OwnsPast (length v.ins + length (P.results e)) (P.refolded r)
      × ((ks : List Carried) → put_copied (P.collects r) (S.puts r) ks ≡ W.rows r ks)

  pub record IsShared (g : ℕ) : Type 0 where
    pub there : EachNode (λ v. AreThere g v.ins) (P.nodes g)
    pub results_there : AreThere g (P.results g)
    pub last : AreTakersLast (S.takes g) [] (P.nodes g) (P.results g)
    pub owned : EachNode (λ v. TakesOwned g v.label (first_port v.kind) v.ins) (P.nodes g)
    pub results_owned : TakesOwned g 0 1 (P.results g)
    pub has_owned : (p : ℕ) → S.owns g p ≡ true → S.has g p ≡ true
    pub kinds : EachNode (λ v. IsKindShared g v v.kind) (P.nodes g)
    pub inputs : EachNode (λ v. (ks : List Carried) → copied (copies_of (P.picks g v)) ks ≡ W.inputs g v ks) (P.nodes g)
    pub results : (ks : List Carried) → copied (result_modes P S g) ks ≡ W.weights.of_results g ks
