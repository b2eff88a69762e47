-- How many claims and finishes a legal history has at most.
use Rattle.std.specs.Prelude.{ℕ, ◌+◌, ◌*◌, ◌<◌, ◌≤◌, List, [], ◌∷◌, length}
use Rattle.graph_meaning.specs.Carried.{Carried}
use Rattle.graph_meaning.specs.Demand.{Network, Cut, IsCut, AreOrderly}
use Rattle.graph_meaning.specs.Histories.{History, Claim, Finish, Legal, count}
use Rattle.graph_meaning.specs.Laws.{run_of}
use Rattle.run_states.specs.Sliced.{sliced}

abbrev pub claims_in : History → ℕ
claims_in [] = 0
claims_in (Claim w i ∷ h) = 1 + claims_in h
claims_in (_ ∷ h) = claims_in h

abbrev pub finishes_in : History → ℕ
finishes_in [] = 0
finishes_in (Finish w i o ∷ h) = 1 + finishes_in h
finishes_in (_ ∷ h) = finishes_in h

-- iterations are cut into so many slices at most
abbrev pub AreFew : ℕ → Cut → Type 0
AreFew slices cut = (rows : List (List Carried)) → length (cut rows) ≤ slices

-- so many claims at most for each firing: of its own items, and of those that count none
pub record AreBounded (each limit : ℕ) (h : History) : Type 0 where
  pub counted : claims_in h ≤ each * count h
  pub limited : claims_in h ≤ each * limit
  pub finished : finishes_in h ≤ claims_in h

abbrev pub AreClaimsBounded : Type 0
AreClaimsBounded = (cut : Cut) (slices : ℕ) (u : Network) (g : ℕ) (ins : List Carried) (limit : ℕ) (h : History) → IsCut cut → AreFew slices cut → AreOrderly u
    → Legal (run_of cut u g ins) limit h
    → AreBounded (slices + 3) limit h

abbrev pub AreSlicesFew : Type 0
AreSlicesFew = (workers : ℕ) → AreFew (4 * workers) (sliced workers)

abbrev pub AreWorkersBounded : Type 0
AreWorkersBounded = (workers : ℕ) (u : Network) (g : ℕ) (ins : List Carried) (limit : ℕ) (h : History) → 0 < workers → AreOrderly u
    → Legal (run_of (sliced workers) u g ins) limit h
    → AreBounded (4 * workers + 3) limit h
