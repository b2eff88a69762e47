-- The code of each example is the one that is made.
use Rattle.std.proofs.Common.{◌≡◌, ℕ, zero, suc, List, [], ◌∷◌, ◌++◌, get_or, refl, Bool, true, false}
use Rattle.ordered_meaning.specs.Demand.{Port, Vertex, Net}
use Rattle.run_code.specs.Collections.{Collect}
use Rattle.run_code.specs.Made.{Plan, IsSized, function_code}
use Rattle.run_code.proofs.ForAllExample as for_all
use Rattle.run_code.proofs.LoopExample as loop
use Rattle.run_code.proofs.CountExample as count
use Rattle.run_code.proofs.ChoiceExample as choice
use Rattle.run_code.proofs.Layouts.{net_at}

-- a plan of these graphs, in which the returns 3 or 4 is done as the last graph
abbrev plan_of : List Net → (Vertex → ℕ) → (ℕ → Vertex → List Bool) → List Collect → (last params : ℕ) → (sizes extents : List ℕ) → Plan
plan_of nets width picks cs last n sizes extents =
    record {
      nodes = λ g. (net_at nets g).nodes;
      results = λ g. (net_at nets g).results;
      width = width;
      picks = picks;
      collects = λ r. cs;
      refolded = λ r. last;
      params = λ f. n;
      entry = λ f. 0;
      size = λ g. get_or sizes g 0;
      extent = λ g. get_or extents g 0;
    }

abbrev no_picks : ℕ → Vertex → List Bool
no_picks g v = []

-- ---- ForAll

abbrev for_all_nets : List Net
for_all_nets =
    record { nodes = for_all.over ∷ []; results = for_all.results_of 0 }
    ∷ record { nodes = for_all.range ∷ []; results = for_all.results_of 1 }
    ∷ record { nodes = for_all.twice ∷ []; results = for_all.results_of 2 }
    ∷ record { nodes = for_all.gather ∷ []; results = for_all.results_of 3 }
    ∷ record { nodes = for_all.gather' ∷ []; results = for_all.wanted }
    ∷ []

abbrev for_all_plan : Plan
for_all_plan = plan_of for_all_nets (λ v. 1) no_picks for_all.cs 4 1 (9 ∷ 1 ∷ 1 ∷ 1 ∷ 1 ∷ []) (6 ∷ 1 ∷ 1 ∷ 1 ∷ 1 ∷ [])

for-all-sized : (g : ℕ) → IsSized for_all_plan g
for-all-sized zero = (refl, refl)
for-all-sized (suc zero) = (refl, refl)
for-all-sized (suc (suc zero)) = (refl, refl)
for-all-sized (suc (suc (suc zero))) = (refl, refl)
for-all-sized (suc (suc (suc (suc zero)))) = (refl, refl)
for-all-sized (suc (suc (suc (suc (suc g))))) = (refl, refl)

for-all-made : function_code for_all_plan 2 0 0 ≡ for_all.steps
for-all-made = refl

-- ---- LoopA

abbrev loop_nets : List Net
loop_nets = loop.nets ++ (record { nodes = loop.others; results = loop.wanted } ∷ [])

abbrev loop_plan : Plan
loop_plan = plan_of loop_nets loop.width no_picks loop.cs 5 1 (9 ∷ 0 ∷ 0 ∷ 0 ∷ 2 ∷ 2 ∷ []) (8 ∷ 0 ∷ 0 ∷ 0 ∷ 2 ∷ 2 ∷ [])

loop-sized : (g : ℕ) → IsSized loop_plan g
loop-sized zero = (refl, refl)
loop-sized (suc zero) = (refl, refl)
loop-sized (suc (suc zero)) = (refl, refl)
loop-sized (suc (suc (suc zero))) = (refl, refl)
loop-sized (suc (suc (suc (suc zero)))) = (refl, refl)
loop-sized (suc (suc (suc (suc (suc zero))))) = (refl, refl)
loop-sized (suc (suc (suc (suc (suc (suc g)))))) = (refl, refl)

loop-made : function_code loop_plan 2 0 0 ≡ loop.steps
loop-made = refl

-- ---- LoopB

abbrev count_nets : List Net
count_nets = count.nets ++ (record { nodes = count.last' ∷ []; results = Port 1 1 ∷ [] } ∷ [])

abbrev count_plan : Plan
count_plan = plan_of count_nets (λ v. 1) no_picks count.cs 5 1 (9 ∷ 0 ∷ 1 ∷ 1 ∷ 1 ∷ 1 ∷ []) (4 ∷ 0 ∷ 1 ∷ 1 ∷ 1 ∷ 1 ∷ [])

count-sized : (g : ℕ) → IsSized count_plan g
count-sized zero = (refl, refl)
count-sized (suc zero) = (refl, refl)
count-sized (suc (suc zero)) = (refl, refl)
count-sized (suc (suc (suc zero))) = (refl, refl)
count-sized (suc (suc (suc (suc zero)))) = (refl, refl)
count-sized (suc (suc (suc (suc (suc zero))))) = (refl, refl)
count-sized (suc (suc (suc (suc (suc (suc g)))))) = (refl, refl)

count-made : function_code count_plan 2 0 0 ≡ count.steps
count-made = refl

-- ---- TagCase, Select and Call

-- the union is copied for the Select
abbrev choice_picks : ℕ → Vertex → List Bool
choice_picks (suc zero) v = false ∷ true ∷ false ∷ []
choice_picks _ v = []

abbrev choice_plan : Plan
choice_plan = plan_of choice.nets (λ v. 1) choice_picks [] 0 2 (12 ∷ 7 ∷ 0 ∷ 0 ∷ 1 ∷ 1 ∷ []) (5 ∷ 3 ∷ 0 ∷ 0 ∷ 1 ∷ 1 ∷ [])

choice-sized : (g : ℕ) → IsSized choice_plan g
choice-sized zero = (refl, refl)
choice-sized (suc zero) = (refl, refl)
choice-sized (suc (suc zero)) = (refl, refl)
choice-sized (suc (suc (suc zero))) = (refl, refl)
choice-sized (suc (suc (suc (suc zero)))) = (refl, refl)
choice-sized (suc (suc (suc (suc (suc zero))))) = (refl, refl)
choice-sized (suc (suc (suc (suc (suc (suc g)))))) = (refl, refl)

choice-made : function_code choice_plan 3 0 0 ≡ choice.steps
choice-made = refl
