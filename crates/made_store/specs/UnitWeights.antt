-- Shares by the marks of a unit, and weights by them.
use Rattle.std.specs.Prelude.{◌≡◌, ◌⊎◌, ℕ, ◌&&◌, ◌||◌, Bool, false, true, List, [], length}
use Rattle.graph_meaning.specs.Unit1.{Unit1}
use Rattle.graph_meaning.specs.Demand.{Kind, Plain, Vertex, Whole}
use Rattle.graph_meaning.specs.Forms as form
use Rattle.graph_meaning.specs.Networks.{network}
use Rattle.graph_meaning.specs.Storage.{Storage, copying, is_left}
use Rattle.graph_meaning.specs.StorageUnits.{storage_of}
use Rattle.run_code.specs.Made.{Plan}
use Rattle.run_made.specs.Weighing.{AreAlike}
use Rattle.run_store.specs.Ports.{picks_of}
use Rattle.made_store.specs.Settings.{Shares}
use Rattle.made_store.specs.Weights.{by_modes}

-- What takes by its mark is taken, and an aggregate that is consumed and not taken is copied. More is taken where no edge carries an
-- aggregate: what was collected, by the nodes that do a returns, and what has no parts.
abbrev pub marked_shares : Storage → (more : (graph node port : ℕ) → Bool) (owns has : (graph port : ℕ) → Bool) → (puts : (returns : ℕ) → List Bool) → Shares
marked_shares s more owns has puts = record { takes = λ g l p. more g l p || s.is_taken g l p; copies = λ g l p. s.is_given g l p && s.is_aggregate g l p; owns = owns; has = has; puts = puts }

-- for the parts of a compound node what is given and not taken is copied
abbrev pub IsPicked : Storage → (graph : ℕ) → Vertex → Kind → List Bool → Type 0
IsPicked s g v (Plain row shape) bs = Unit {0}
IsPicked s g v (Whole (form.Call f)) bs = Unit {0}
IsPicked s g v (Whole form) bs = bs ≡ picks_of (λ p. s.is_given g v.label p && is_left s g v.label p) 1 v.ins

-- nothing is for a simple node or a Call, which have no parts
abbrev pub IsUnpicked : Kind → List Bool → Type 0
IsUnpicked (Plain row shape) bs = bs ≡ []
IsUnpicked (Whole (form.Call f)) bs = bs ≡ []
IsUnpicked (Whole form) bs = Unit {0}

abbrev pub ArePicksForParts : Plan → Type 0
ArePicksForParts P = (g : ℕ) (v : Vertex) → IsUnpicked v.kind (P.picks g v)

-- With these shares, and a plan that copies for the parts of a node what is given and not taken, weights by modes are those of record
-- for every unit.
abbrev pub AreUnitWeights : Type 0
AreUnitWeights = (u : Unit1) (P : Plan) (more : (graph node port : ℕ) → Bool) (owns has : (graph port : ℕ) → Bool) (puts : (returns : ℕ) → List Bool)
    → ((g l p : ℕ) → (storage_of u).is_aggregate g l p ≡ true → more g l p ≡ false)
    → ((g : ℕ) (v : Vertex) → IsPicked (storage_of u) g v v.kind (P.picks g v))
    → ((g : ℕ) → (length (P.results g) ≡ length (network u g).results) ⊎ ((network u g).results ≡ []))
    → AreAlike (network u) (by_modes P (marked_shares (storage_of u) more owns has puts) (storage_of u)).weights (copying (storage_of u))
