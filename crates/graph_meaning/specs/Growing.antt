-- Trees of one run at greater and greater depths: where one leaves something open, the next ones may go on.
use Rattle.std.specs.Prelude.{◌≡◌, ℕ, zero, suc, ◌≤◌, Bool, true, List, [], ◌∷◌, Option, Some, None}
use Rattle.graph_meaning.specs.Entered.{Entered, NoNode, SimpleNode, WholeNode, Steps, Left, Unshown, GraphStep, SliceStep, IsWhole, AreWhole, all_given, IsIn, IsDistinct, IsAcyclic}
use Rattle.graph_meaning.specs.Histories.{Run}

pub data GrowsCosts : List (Option ℕ) → List (Option ℕ) → Type 0 where
  no_cost : GrowsCosts [] []
  open_cost : {c : Option ℕ} {cs ds : List (Option ℕ)} → GrowsCosts cs ds → GrowsCosts (None ∷ cs) (c ∷ ds)
  known_cost : {n : ℕ} {cs ds : List (Option ℕ)} → GrowsCosts cs ds → GrowsCosts (Some n ∷ cs) (Some n ∷ ds)

mutual
  pub data Grows : Entered → Entered → Type 0 where
    empty : Grows NoNode NoNode
    simple : {l : ℕ} {ws : List ℕ} {r s : Entered} → Grows r s → Grows (SimpleNode l ws r) (SimpleNode l ws s)
    unknown : {l : ℕ} {ws : List ℕ} {a r s : Entered} {p : Steps} → Grows r s → Grows (WholeNode l ws NoNode Unshown r) (WholeNode l ws a p s)
    compound : {l : ℕ} {ws : List ℕ} {a b r s : Entered} {p q : Steps} → Grows a b → GrowsSteps p q → Grows r s → Grows (WholeNode l ws a p r) (WholeNode l ws b q s)

  pub data GrowsSteps : Steps → Steps → Type 0 where
    leaves : GrowsSteps Left Left
    deeper : {p : Steps} → GrowsSteps Unshown p
    part : {t : Bool} {a b : Entered} {p q : Steps} → Grows a b → GrowsSteps p q → GrowsSteps (GraphStep t a p) (GraphStep t b q)
    slices : {cs ds : List (Option ℕ)} {p q : Steps} → GrowsCosts cs ds → GrowsSteps p q → GrowsSteps (SliceStep cs p) (SliceStep ds q)

-- the node of this label has its outputs
abbrev pub OutAt : (ℕ → Bool) → Entered → ℕ → Type 0
OutAt out NoNode n = Unit {0}
OutAt out (SimpleNode l ws rest) n = (n ≡ l → out l ≡ true) × OutAt out rest n
OutAt out (WholeNode l ws first next rest) n = (n ≡ l → out l ≡ true) × OutAt out rest n

abbrev pub Fills : (ℕ → Bool) → Entered → List ℕ → Type 0
Fills out g ws = (m : ℕ) → IsIn m ws → OutAt out g m

-- Where the nodes that a node waits for have their outputs (as `out` says), it is known what it enters; what is open
-- in there lies below so many entries; and a node that is whole has its outputs.
abbrev mutual
  pub OpenAt : (ℕ → Bool) → Entered → ℕ → Entered → Type 0
  OpenAt out g d NoNode = Unit {0}
  OpenAt out g d (SimpleNode l ws rest) = (Fills out g ws → out l ≡ true) × OpenAt out g d rest
  OpenAt out g zero (WholeNode l ws first next rest) = Unit {0}
  OpenAt out g (suc d) (WholeNode l ws first next rest) =
      (Fills out g ws → ((o : ℕ → Bool) × OpenAt o first d first) × (IsWhole first → OpenSteps d next) × (AreWhole next → out l ≡ true)) × OpenAt out g (suc d) rest

  pub OpenSteps : ℕ → Steps → Type 0
  OpenSteps d Left = Unit {0}
  OpenSteps zero Unshown = Unit {0}
  OpenSteps (suc d) Unshown = ⊥
  OpenSteps zero (GraphStep t inside next) = Unit {0}
  OpenSteps (suc d) (GraphStep t inside next) = ((o : ℕ → Bool) × OpenAt o inside d inside) × (IsWhole inside → OpenSteps d next)
  OpenSteps zero (SliceStep cs next) = Unit {0}
  OpenSteps (suc d) (SliceStep [] next) = ⊥
  OpenSteps (suc d) (SliceStep (c ∷ cs) next) = all_given (c ∷ cs) → OpenSteps d next

abbrev pub IsOpenBelow : ℕ → Entered → Type 0
IsOpenBelow d f = (out : ℕ → Bool) × OpenAt out f d f

-- What makes trees those of one run: each greater depth shows more, labels stand once in a graph, no node of an entered
-- graph reaches itself, and what is open at a depth lies behind as many entries.
pub record IsExecution (run : Run) : Type 0 where
  pub grows : (n m : ℕ) → n ≤ m → Grows (run n) (run m)
  pub distinct : (n : ℕ) → IsDistinct (run n)
  pub acyclic : (n : ℕ) → IsAcyclic (run n)
  pub open_below : (n : ℕ) → IsOpenBelow n (run n)
