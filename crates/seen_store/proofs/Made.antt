-- Runs of code that is made, where some cells are read through paths.
use Rattle.std.proofs.Common.{◌≡◌, ℕ, suc, ◌<◌, ◌&&◌, is_none, Bool, true, false, List, length, get_or, refl, arith}
use Rattle.graph_meaning.specs.Carried.{Unfilled}
use Rattle.graph_meaning.specs.Demand.{Network, Vertex}
use Rattle.graph_meaning.specs.Networks.{network}
use Rattle.graph_meaning.specs.StorageUnits.{storage_of}
use Rattle.run_code.specs.Cells.{At, Lit, cells_at}
use Rattle.run_code.specs.Made.{Plan, functions_size}
use Rattle.run_made.proofs.Inside.{inside}
use Rattle.run_made.proofs.Making.{lines-lie}
use Rattle.run_made.specs.Plans.{IsRightPlan, Weighing, end_of, laid}
use Rattle.run_store.proofs.Whole.{runs-begin, unit-decided}
use Rattle.run_store.specs.Whole.{first_cells}
use Rattle.made_store.proofs.Alive.{where-sound}
use Rattle.made_store.proofs.Functions.{entries-open}
use Rattle.made_store.proofs.Owned.{cells-is}
use Rattle.made_store.proofs.Settling.{functions-so, stand-in}
use Rattle.made_store.proofs.Units.{made-stored}
use Rattle.made_store.specs.Settings.{FunctionsSet, Shares}
use Rattle.made_store.specs.Settled.{functions_settings, handling_of, live_of, own_of}
use Rattle.seen_store.proofs.Seeing.{seen-stored}
use Rattle.seen_store.specs.Made.{AreSeenRunsDecided}
use Rattle.seen_store.specs.Seen.{bare_of, seen_handling}

made-set : (P : Plan) (S : Shares) (W : Weighing) (u : Network) (order : ℕ → List Vertex) (functions : List ℕ) (n : ℕ) → IsRightPlan P W u order functions n
    → FunctionsSet P S (handling_of (functions_settings P S n functions)) (live_of (functions_settings P S n functions)) (own_of (functions_settings P S n functions)) n functions 0
made-set P S W u order functions n right =
    let ss = functions_settings P S n functions in
    functions-so P S W u order functions (handling_of ss) (live_of ss) (own_of ss) right.sized n (λ f i. (right.graphs f i).1) functions 0 (λ x i. i) (stand-in P S W u order functions ss)

and-first : (a b : Bool) → a && b ≡ true → a ≡ true
and-first true b e = refl
and-first false b e = absurd cc

pub seen-decided : AreSeenRunsDecided
seen-decided u P S W order functions n limit seen hidden facts ready sound inorder right shared alike made f ins in_f as_many =
    let X = laid P W (network u) order functions n in
    let ss = functions_settings P S n functions in
    let opens = entries-open P S W (network u) order functions n (handling_of ss) (live_of ss) (own_of ss) right shared (made-set P S W (network u) order functions n right) f in_f in
    unit-decided u X (seen_handling seen hidden X.code (handling_of ss)) facts (bare_of seen (live_of ss)) (bare_of seen (own_of ss)) (end_of P) (functions_size P functions) limit ready sound refl inorder
    (seen-stored (storage_of u) X (handling_of ss) (live_of ss) (own_of ss) seen hidden facts (made-stored P S W (network u) order functions n (storage_of u) right shared alike) made.through)
    (inside P W (network u) order functions n X.code X.weigh right (lines-lie P W (network u) order functions n)) f ins (first_cells ins) (λ i. get_or ins i Unfilled) in_f as_many
    (runs-begin X facts (bare_of seen (live_of ss)) (bare_of seen (own_of ss)) f ins (made.begins f in_f)
    (λ i l. first (S.has f) i (where-sound (S.has f) (cells_at 0 (P.params f)) i (opens.0 i (and-first (live_of ss (P.entry f) i) (is_none (seen (P.entry f) i)) l))))
    (λ i l. first (S.owns f) i (where-sound (S.owns f) (cells_at 0 (P.params f)) i (opens.1 i (and-first (own_of ss (P.entry f) i) (is_none (seen (P.entry f) i)) l)))))
  where
    first : (test : ℕ → Bool) (i : ℕ) → (j : ℕ) × (test (suc j) ≡ true) × (get_or (cells_at 0 (P.params f)) j (Lit Unfilled) ≡ At i) → i < length ins
    first test i x =
        let y = cells-is 0 (P.params f) x.0 i x.2 in
        let lt = y.0 in
        let e = y.1 in
        omega (arith, lt, e, as_many)
