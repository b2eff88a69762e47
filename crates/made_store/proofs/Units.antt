-- Code of units that is made with its settings.
use Rattle.std.proofs.Common.{◌≡◌, ℕ, zero, suc, ◌<◌, ◌≤◌, Bool, true, List, [], ◌∷◌, length, get_or, refl, ap, arith}
use Rattle.graph_meaning.specs.Unit1.{Unit1}
use Rattle.graph_meaning.specs.Carried.{Carried, Unfilled}
use Rattle.graph_meaning.specs.Entered.{IsIn}
use Rattle.graph_meaning.specs.Demand.{Vertex, Network}
use Rattle.graph_meaning.specs.Networks.{network}
use Rattle.graph_meaning.specs.StorageUnits.{storage_of}
use Rattle.run_code.specs.Cells.{At, Lit, cells_at}
use Rattle.run_code.specs.Made.{Plan, functions_size}
use Rattle.run_made.proofs.Inside.{inside}
use Rattle.run_made.proofs.Making.{lines-lie, made}
use Rattle.run_made.specs.Plans.{IsRightPlan, Weighing, end_of, laid}
use Rattle.run_store.proofs.Sums.{unit-writes}
use Rattle.run_store.proofs.Whole.{runs-begin, unit-decided}
use Rattle.run_store.specs.Whole.{Begins, first_cells}
use Rattle.made_store.proofs.Alive.{where-sound}
use Rattle.made_store.proofs.Functions.{entries-open, set-last, set-stored}
use Rattle.made_store.proofs.Owned.{cells-is}
use Rattle.made_store.proofs.Settling.{functions-full, functions-so, stand-in}
use Rattle.made_store.specs.Last.{AreMadeTakenLast}
use Rattle.made_store.specs.Laws.{AreMadeUnitRunsDecided, AreMadeWritesRecorded, IsMadeStored}
use Rattle.made_store.specs.Settings.{FunctionsSet, Shares}
use Rattle.made_store.specs.Settled.{Setting, functions_settings, handling_of, last_setting, live_of, own_of}
use Rattle.made_store.specs.Shared.{IsShared}

past-setting : (ss : List Setting) (i : ℕ) → length ss ≤ i → get_or ss i last_setting ≡ last_setting
past-setting [] i le = refl
past-setting (s ∷ ss) zero le = absurd (omega (arith, le))
past-setting (s ∷ ss) (suc i) le = past-setting ss i (omega (arith, le))

made-set : (P : Plan) (S : Shares) (W : Weighing) (u : Network) (order : ℕ → List Vertex) (functions : List ℕ) (n : ℕ) → IsRightPlan P W u order functions n
    → FunctionsSet P S (handling_of (functions_settings P S n functions)) (live_of (functions_settings P S n functions)) (own_of (functions_settings P S n functions)) n functions 0
made-set P S W u order functions n right =
    let ss = functions_settings P S n functions in
    functions-so P S W u order functions (handling_of ss) (live_of ss) (own_of ss) right.sized n (λ f i. (right.graphs f i).1) functions 0 (λ x i. i) (stand-in P S W u order functions ss)

past-modes : (P : Plan) (S : Shares) (W : Weighing) (u : Network) (order : ℕ → List Vertex) (functions : List ℕ) (n : ℕ) → IsRightPlan P W u order functions n → (pc : ℕ) → functions_size P functions ≤ pc
    → (handling_of (functions_settings P S n functions) pc).modes ≡ []
past-modes P S W u order functions n right pc le =
    let ss = functions_settings P S n functions in
    let long = functions-full P S W u order functions right.sized n (λ f i. (right.graphs f i).1) functions (λ x i. i) in
    ap (λ (x : Setting). x.modes) (past-setting ss pc (omega (arith, le, long)))

pub made-stored : IsMadeStored
made-stored P S W u order functions n s right shared alike =
    let ss = functions_settings P S n functions in
    set-stored P S W u order functions n (handling_of ss) (live_of ss) (own_of ss) s right shared (made-set P S W u order functions n right)
    (past-modes P S W u order functions n right) alike

pub made-last : AreMadeTakenLast
made-last P S W u order functions n right shared =
    let ss = functions_settings P S n functions in
    set-last P S W u order functions n (handling_of ss) (live_of ss) (own_of ss) right shared (made-set P S W u order functions n right) (past-modes P S W u order functions n right)

-- a run begins with its arguments in the first cells
begins : (u : Unit1) (P : Plan) (S : Shares) (W : Weighing) (order : ℕ → List Vertex) (functions : List ℕ) (n : ℕ) → IsRightPlan P W (network u) order functions n → ((g : ℕ) → IsShared P S W g) → (f : ℕ) (ins : List Carried) → IsIn f functions → length ins ≡ P.params f
    → (let ss = functions_settings P S n functions in
    Begins (laid P W (network u) order functions n) (λ pc. []) (live_of ss) (own_of ss) f ins (first_cells ins) (λ i. get_or ins i Unfilled))
begins u P S W order functions n right shared f ins in_f as_many =
    let ss = functions_settings P S n functions in
    let opens = entries-open P S W (network u) order functions n (handling_of ss) (live_of ss) (own_of ss) right shared (made-set P S W (network u) order functions n right) f in_f in
    runs-begin (laid P W (network u) order functions n) (λ pc. []) (live_of ss) (own_of ss) f ins refl (λ i l. first (S.has f) i (where-sound (S.has f) (cells_at 0 (P.params f)) i (opens.0 i l)))
    (λ i l. first (S.owns f) i (where-sound (S.owns f) (cells_at 0 (P.params f)) i (opens.1 i l)))
  where
    first : (test : ℕ → Bool) (i : ℕ) → (j : ℕ) × (test (suc j) ≡ true) × (get_or (cells_at 0 (P.params f)) j (Lit Unfilled) ≡ At i) → i < length ins
    first test i x =
        let y = cells-is 0 (P.params f) x.0 i x.2 in
        let lt = y.0 in
        let e = y.1 in
        omega (arith, lt, e, as_many)

pub made-unit-decided : AreMadeUnitRunsDecided
made-unit-decided u P S W order functions n limit ready sound inorder right shared alike f ins in_f as_many =
    let X = laid P W (network u) order functions n in
    let ss = functions_settings P S n functions in
    unit-decided u X (handling_of ss) (λ pc. []) (live_of ss) (own_of ss) (end_of P) (functions_size P functions) limit ready sound refl inorder (made-stored P S W (network u) order functions n (storage_of u) right shared alike)
    (inside P W (network u) order functions n X.code X.weigh right (lines-lie P W (network u) order functions n)) f ins (first_cells ins) (λ i. get_or ins i Unfilled) in_f as_many (begins u P S W order functions n right shared f ins in_f as_many)

pub made-writes : AreMadeWritesRecorded
made-writes u P S W V order functions n limit ready sound inorder right other shared alike alike_ f ins rs c copies sum in_f as_many ends =
    let X = laid P W (network u) order functions n in
    let Y = laid P V (network u) order functions n in
    let ss = functions_settings P S n functions in
    unit-writes u X (handling_of ss) (λ pc. []) (live_of ss) (own_of ss) limit ready sound refl inorder (made-stored P S W (network u) order functions n (storage_of u) right shared alike) V.weights Y.weigh
    (made P V (network u) order functions n Y.code Y.weigh other (lines-lie P V (network u) order functions n)) alike_ f ins rs c copies sum (first_cells ins) (λ i. get_or ins i Unfilled) in_f as_many (begins u P S W order functions n right shared f ins in_f as_many) ends
