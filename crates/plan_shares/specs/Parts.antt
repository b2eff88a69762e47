-- What the parts of nodes own of what they are given, by the marks of a unit.
use Rattle.std.specs.Prelude.{◌≡◌, ◌==◌, ℕ, suc, ◌+◌, ◌<◌, ◌&&◌, ◌||◌, Bool, true, false, find, length, Contains, Some}
use Rattle.if1_graph.specs.declared.graph.Unit1.{Unit1}
use Rattle.if1_graph.specs.Formed.{IsFormed}
use Rattle.if1_graph.specs.Ready.{IsReady}
use Rattle.if1_graph.specs.Units.{Place, number_of, places}
use Rattle.if1_marks.specs.Given.{is_used_inside}
use Rattle.if1_marks.specs.Sound.{IsSound}
use Rattle.graph_meaning.specs.Demand.{EachNode, Kind, Plain, Vertex, Whole}
use Rattle.graph_meaning.specs.Forms as form
use Rattle.graph_meaning.specs.Networks.{network}
use Rattle.graph_meaning.specs.Storage.{is_left}
use Rattle.graph_meaning.specs.StorageUnits.{in_graph, storage_of}
use Rattle.run_made.specs.Plans.{All}
use Rattle.made_store.specs.Marks.{owned_inputs}

-- a place is found by the number of its graph, so two graphs of one number stand at one place
abbrev pub ArePlacesFound : Type 0
ArePlacesFound = (u : Unit1) (p : Place) → IsFormed u → Contains (places u) p → find (λ q. number_of q == number_of p) (places u) ≡ Some p

module _ (u : Unit1) where
  -- a compound node hands this on to its parts: it takes it by its mark, or a copy of what it is given
  abbrev pub is_handed : (graph node port : ℕ) → Bool
  is_handed g l p = ((storage_of u).is_given g l p && is_left (storage_of u) g l p) || (storage_of u).is_taken g l p

  -- an edge leaves this input of a graph
  abbrev pub is_read_in : (graph port : ℕ) → Bool
  is_read_in g p = in_graph u g (λ h. is_used_inside h p)

  abbrev pub OwnsNothing : (part : ℕ) → Type 0
  OwnsNothing h = (p : ℕ) → owned_inputs u h p ≡ false

  abbrev pub OwnsHanded : (graph : ℕ) → Vertex → (part : ℕ) → Type 0
  OwnsHanded g v h = (p : ℕ) → owned_inputs u h p ≡ true → is_handed g v.label p ≡ true

  -- the content of a union is the arm's own
  abbrev pub OwnsHandedOn : (graph : ℕ) → Vertex → (part : ℕ) → Type 0
  OwnsHandedOn g v h = (p : ℕ) → owned_inputs u h (suc (suc p)) ≡ true → is_handed g v.label (suc (suc p)) ≡ true

  abbrev pub OwnsBehind : (many part : ℕ) → Type 0
  OwnsBehind n h = (p : ℕ) → owned_inputs u h p ≡ true → n < p

  -- it reads none of what its node hands to another part
  abbrev pub ReadsLent : (graph : ℕ) → Vertex → (part : ℕ) → Type 0
  ReadsLent g v h = (p : ℕ) → is_read_in h p ≡ true → is_handed g v.label p ≡ false

  abbrev pub IsLoopOwned : (graph : ℕ) → Vertex → (init test body returns : ℕ) → Type 0
  IsLoopOwned g v i t b r = OwnsHanded g v i × OwnsNothing t × OwnsBehind (length v.ins) b × ReadsLent g v t × ReadsLent g v b × ReadsLent g v r × OwnsBehind (length v.ins) r

  -- A called function owns what is given to it as an aggregate. A part owns what its node hands to it, and inputs of its own.
  abbrev pub IsKindOwned : (graph : ℕ) → Vertex → Kind → Type 0
  IsKindOwned g v (Plain row shape) = Unit {0}
  IsKindOwned g v (Whole (form.Call f)) = (p : ℕ) → owned_inputs u f p ≡ true → (storage_of u).is_given g v.label (suc p) && (storage_of u).is_aggregate g v.label (suc p) ≡ true
  IsKindOwned g v (Whole (form.Select s gs w)) = OwnsNothing s × All (OwnsHanded g v) gs
  IsKindOwned g v (Whole (form.TagCase gs w)) = All (OwnsHandedOn g v) gs
  IsKindOwned g v (Whole (form.LoopA i t b r w)) = IsLoopOwned g v i t b r
  IsKindOwned g v (Whole (form.LoopB i t b r w)) = IsLoopOwned g v i t b r
  IsKindOwned g v (Whole (form.ForAll e b r m w)) = OwnsNothing e × OwnsNothing b × ReadsLent g v b × ReadsLent g v r × OwnsBehind (length v.ins + length (network u e).results) r

-- in a ready unit with sound marks
abbrev pub ArePartsOwned : Type 0
ArePartsOwned = (u : Unit1) → IsReady u → IsSound u → (g : ℕ) → EachNode (λ v. IsKindOwned u g v v.kind) (network u g).nodes
