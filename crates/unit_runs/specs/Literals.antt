-- Where literals come in the code of a plan. Of some inputs of each graph it is said that they may be literals.
use Rattle.std.specs.Prelude.{◌≡◌, ◌⊎◌, ℕ, zero, suc, ◌-◌, Bool, true, false, List, [], ◌∷◌, drop}
use Rattle.graph_meaning.specs.Demand.{EachNode, Fixed, Kind, Plain, Port, Source, Vertex, Whole}
use Rattle.graph_meaning.specs.Forms as form
use Rattle.graph_meaning.specs.Storage.{leaves_of}
use Rattle.ordered_meaning.specs.Taking.{first_port}
use Rattle.run_code.specs.Made.{Plan, functions_lines}
use Rattle.run_made.specs.Plans.{All, code_at}
use Rattle.run_store.specs.Effects.{reads_of}
use Rattle.made_store.specs.Settings.{Shares}
use Rattle.made_store.specs.Settled.{functions_settings, handling_of}
use Rattle.unit_runs.specs.Alike.{AreLiteralsBare}

module _ (P : Plan) (S : Shares) (may : (graph input : ℕ) → Bool) where
  -- where a port is copied, no literal with leaves fills it
  abbrev pub IsSourceBare : (graph : ℕ) → (copied : Bool) → Source → Type 0
  IsSourceBare g copied (Fixed c) = copied ≡ true → leaves_of c ≡ 0
  IsSourceBare g copied (Port zero p) = may g (suc (p - 1)) ≡ true → copied ≡ false
  IsSourceBare g copied (Port (suc l) p) = Unit {0}

  abbrev pub AreSourcesBare : (copies : (port : ℕ) → Bool) → (graph first : ℕ) → List Source → Type 0
  AreSourcesBare copies g i [] = Unit {0}
  AreSourcesBare copies g i (o ∷ os) = IsSourceBare g (copies i) o × AreSourcesBare copies g (suc i) os

  abbrev pub ArePicksBare : (graph : ℕ) → List Bool → List Source → Type 0
  ArePicksBare g [] os = Unit {0}
  ArePicksBare g (b ∷ bs) [] = Unit {0}
  ArePicksBare g (b ∷ bs) (o ∷ os) = IsSourceBare g b o × ArePicksBare g bs os

  -- what a compound node copies for its parts
  abbrev pub IsKindPicked : (graph : ℕ) → Vertex → Kind → Type 0
  IsKindPicked g v (Plain row shape) = Unit {0}
  IsKindPicked g v (Whole (form.Call f)) = Unit {0}
  IsKindPicked g v (Whole form) = ArePicksBare g (P.picks g v) v.ins

  -- what fills a port of a node may be a literal where it is an input of a part
  abbrev pub IsSourcePassed : (graph part input : ℕ) → Source → Type 0
  IsSourcePassed g h i (Fixed c) = (leaves_of c ≡ 0) ⊎ (may h i ≡ true)
  IsSourcePassed g h i (Port zero p) = may g (suc (p - 1)) ≡ true → may h i ≡ true
  IsSourcePassed g h i (Port (suc l) p) = Unit {0}

  abbrev pub AreSourcesPassed : (graph part first : ℕ) → List Source → Type 0
  AreSourcesPassed g h i [] = Unit {0}
  AreSourcesPassed g h i (o ∷ os) = IsSourcePassed g h i o × AreSourcesPassed g h (suc i) os

  -- the content of a union is in a cell
  abbrev pub IsKindPassed : (graph : ℕ) → Vertex → Kind → Type 0
  IsKindPassed g v (Plain row shape) = Unit {0}
  IsKindPassed g v (Whole (form.Call f)) = Unit {0}
  IsKindPassed g v (Whole (form.Select s gs w)) = AreSourcesPassed g s 1 v.ins × All (λ h. AreSourcesPassed g h 1 v.ins) gs
  IsKindPassed g v (Whole (form.TagCase gs w)) = All (λ h. AreSourcesPassed g h 2 (drop 1 v.ins)) gs
  IsKindPassed g v (Whole (form.LoopA i t b r w)) = AreSourcesPassed g i 1 v.ins × AreSourcesPassed g t 1 v.ins × AreSourcesPassed g b 1 v.ins × AreSourcesPassed g (P.refolded r) 1 v.ins
  IsKindPassed g v (Whole (form.LoopB i t b r w)) = AreSourcesPassed g i 1 v.ins × AreSourcesPassed g t 1 v.ins × AreSourcesPassed g b 1 v.ins × AreSourcesPassed g (P.refolded r) 1 v.ins
  IsKindPassed g v (Whole (form.ForAll e b r m w)) = AreSourcesPassed g e 1 v.ins × AreSourcesPassed g b 1 v.ins × AreSourcesPassed g (P.refolded r) 1 v.ins

  -- no port of the graph copies a literal that has leaves
  pub record IsGraphBare (g : ℕ) : Type 0 where
    pub nodes : EachNode (λ v. AreSourcesBare (S.copies g v.label) g (first_port v.kind) v.ins × IsKindPicked g v v.kind × IsKindPassed g v v.kind) (P.nodes g)
    pub results : AreSourcesBare (S.copies g 0) g 1 (P.results g)

-- so no step of the code that is made of the plan copies one
abbrev pub AreMadeBare : Type 0
AreMadeBare = (P : Plan) (S : Shares) (may : (graph input : ℕ) → Bool) (levels : ℕ) (functions : List ℕ) → ((g : ℕ) → IsGraphBare P S may g)
    → (pc : ℕ) → AreLiteralsBare (handling_of (functions_settings P S levels functions) pc).modes (reads_of (code_at (functions_lines P levels functions 0) pc))
