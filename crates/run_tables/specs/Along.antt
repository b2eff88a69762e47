-- What the items add that a history has finished.
use Rattle.std.specs.Prelude.{ℕ, ◌+◌, List, [], ◌∷◌}
use Rattle.graph_meaning.specs.Carried.{Carried}
use Rattle.graph_meaning.specs.Entered.{Item}
use Rattle.graph_meaning.specs.Demand.{Network, Cut, IsCut, AreOrderly}
use Rattle.graph_meaning.specs.Histories.{History, Finish, Made, Results as HasResults, Exists, Legal, HasEnded}
use Rattle.graph_meaning.specs.Laws.{run_of}
use Rattle.graph_meaning.specs.Storage.{Weights, GraphAdds}
use Rattle.run_states.specs.Phases.{Results}
use Rattle.run_tables.specs.Adds.{ItemAdds}

abbrev pub sum_of_made : (Item → ℕ) → History → ℕ
sum_of_made adds [] = 0
sum_of_made adds (Finish w i (Made n) ∷ h) = adds i + sum_of_made adds h
sum_of_made adds (_ ∷ h) = sum_of_made adds h

-- Where a legal history has ended with results, the graph adds what the finished items do, one after another, and what its results do.
abbrev pub AreSumsAlong : Type 0
AreSumsAlong = (cut : Cut) (u : Network) (w : Weights) (g : ℕ) (ins rs : List Carried) (limit : ℕ) (h : History) (adds : Item → ℕ) → IsCut cut → AreOrderly u
    → Legal (run_of cut u g ins) limit h
    → HasEnded (run_of cut u g ins) limit h HasResults
    → Results u g ins rs
    → ((i : Item) → Exists (run_of cut u g ins) i → ItemAdds cut u w g ins i (adds i))
    → (d : ℕ) × GraphAdds u w d g ins (w.of_results g rs + sum_of_made adds h)
