-- What loops of turns mean in graphs, by what their parts mean: both ways, with at most eight firings for each step of the source
-- (SISAL Language Reference Manual 1.2, `for initial`; IF1 manual M-170, LoopA, LoopB). A list of loop values of the graph has the
-- values of the loop names, and behind them what the clauses collect besides.
use Rattle.std.specs.Prelude.{◌≡◌, ℕ, ◌+◌, ◌*◌, ◌≤◌, pos, Bool, true, false, List, [], ◌∷◌, ◌++◌, map, drop, length, Some}
use Rattle.flow_value.specs.declared.operation.Scalar1.TheVariants as unary
use Rattle.flow_value.specs.declared.value.Val.{Val}
use Rattle.flow_value.specs.declared.value.Val.TheVariants as val
use Rattle.flow_value.specs.declared.ty.Ty.{Ty}
use Rattle.flow_value.specs.declared.ty.Ty.TheVariants as ty
use Rattle.value_ops.specs.Operations.{op_value}
use Rattle.value_ops.specs.declared.operation.Operation.TheVariants as operation
use Rattle.typed_tree.specs.declared.expr.Turns.{Turns}
use Rattle.meaning.specs.declared.words.Test.{Test}
use Rattle.meaning.specs.declared.words.Test.TheVariants as test
use Rattle.meaning.specs.Timed.{Timed, andthen}
use Rattle.meaning.specs.Words.{test_of, goes_on}
use Rattle.meaning.specs.Rows.{no_rows, with_rows, made}
use Rattle.meaning.specs.Meaning.{Gives, looped}
use Rattle.graph_meaning.specs.Carried.{Carried, Value}
use Rattle.graph_meaning.specs.Forms.{Form, LoopA, LoopB, columns, first, next_of}
use Rattle.graph_meaning.specs.Demand.{Network}
use Rattle.graph_meaning.specs.Plain.{CarryAll, NodesFire, LaterFires}
use Rattle.typed_rows.specs.Rows.{Of, AreOf}
use Rattle.loop_columns.specs.Parts.{From, GraphGives, NodeGives, Yields}
use Rattle.loop_columns.specs.Loops.{Gave}

-- a LoopB where the test stands before the turn
abbrev pub loop_form : Bool → (i t b r outputs : ℕ) → Form
loop_form true i t b r outputs = LoopB i t b r outputs
loop_form false i t b r outputs = LoopA i t b r outputs

-- ---- tests

-- what a test says, as the value that its graph gives
abbrev pub Says : Test → Val → Type 0
Says test.Yes v = v ≡ val.Bool true
Says test.No v = v ≡ val.Bool false
Says (test.Failed c) v = v ≡ val.Err c

-- the graph of an `until` gives the Not of the test
abbrev pub said : Bool → Val → Val
said true v = op_value (operation.Unary unary.Not) (v ∷ [])
said false v = v

-- which is what the source goes by
abbrev pub AreTestsSaid : Type 0
AreTestsSaid = (until : Bool) (v : Val) → Of ty.Bool v → Says (goes_on until (test_of (v ∷ []))) (said until v)

-- ---- lists of loop values

-- the values of the loop names, and what is collected besides for their rows
abbrev pub fulls : (List Val → List Val) → List (List Val) → List (List Val) → List (List Val)
fulls besides [] rows = []
fulls besides (l ∷ ls) [] = []
fulls besides (l ∷ ls) (row ∷ rows) = (l ++ besides row) ∷ fulls besides ls rows

abbrev pub Each : (List Val → Type 0) → List (List Val) → Type 0
Each P [] = Unit {0}
Each P (l ∷ ls) = P l × Each P ls

-- ---- what the source gives, the node gives

-- The initial graph gives the first list of loop values, the test's graph says what the test says, the body's graph gives the next
-- list, and the graph of the returns the values of the clauses. The values of the loop names are of these types.
pub record AreTurnParts (u : Network) (i t b r wide : ℕ) (ks : List Carried) (q : Turns) (tests values : Gives) (next : List Val → Gives) (env : List Val)
    (tys : List Ty) (besides : List Val → List Val) (l : List Val) (limit : ℕ) : Type 0 where
  pub typed : AreOf tys l
  pub initial : (row : List Val) (steps : ℕ) → values (env ++ l) ≡ Some (row, steps) → GraphGives u i ks (map Value (l ++ besides row)) (8 * steps + limit)
  pub testing : (m row vs : List Val) (steps : ℕ) → AreOf tys m → tests (env ++ m) ≡ Some (vs, steps)
      → (v : Val) × Says (goes_on q.is_until (test_of vs)) v × GraphGives u t (ks ++ map Value (m ++ besides row)) (Value v ∷ []) (8 * steps + 1)
  pub turning : (m row m' row' : List Val) (j k : ℕ) → AreOf tys m → next env m ≡ Some (m', j) → values (env ++ m') ≡ Some (row', k)
      → GraphGives u b (ks ++ map Value (m ++ besides row)) (map Value (m' ++ besides row')) (8 * j + 8 * k + 6)
  pub stays : (m m' : List Val) (steps : ℕ) → AreOf tys m → next env m ≡ Some (m', steps) → AreOf tys m'
  pub long : (m row : List Val) (steps : ℕ) → AreOf tys m → values (env ++ m) ≡ Some (row, steps) → length (m ++ besides row) ≡ wide
  pub returns : (lists rows : List (List Val)) → Each (AreOf tys) lists → Gave values (map (λ m. env ++ m) lists) rows
      → GraphGives u r (ks ++ columns wide (map (map Value) (fulls besides lists rows))) (map Value (made (pos 1) (with_rows q.clauses (no_rows q.clauses) rows))) (8 * length q.clauses)

abbrev pub AreLoopsGiven : Type 0
AreLoopsGiven = (u : Network) (i t b r wide outputs : ℕ) (ks : List Carried) (q : Turns) (tests values : Gives) (next : List Val → Gives) (env : List Val)
    (tys : List Ty) (besides : List Val → List Val) (l : List Val) (limit : ℕ)
    → AreTurnParts u i t b r wide ks q tests values next env tys besides l limit
    → (n : ℕ) (vs : List Val) (steps : ℕ) → looped n q outputs tests next values env l ≡ Some (vs, steps)
    → NodeGives u (loop_form q.is_first i t b r outputs) ks (map Value vs) (8 * steps + limit + 1)

-- ---- where the node fires, the source gives something

module _ (u : Network) (ks : List Carried) (q : Turns) (tests values : ℕ → Gives) (next : ℕ → List Val → Gives) (env : List Val) (tys : List Ty) (besides : List Val → List Val) where
  -- the names after the initial part, the first row, and what the initial graph gives of them
  pub record InitialRead (i : ℕ) (initial : ℕ → Timed (List Val)) : Type 0 where
    pub named : Yields initial
    pub row : Yields (λ d. values d (env ++ drop (length env) named.value))
    pub typed : AreOf tys (drop (length env) named.value)
    pub means : From (λ m. CarryAll u m i ks (u i).results (map Value (drop (length env) named.value ++ besides row.value)))

  pub record TestRead (t : ℕ) (l row : List Val) : Type 0 where
    pub test : Yields (λ d. tests d (env ++ l))
    pub value : Val
    pub says : Says (goes_on q.is_until (test_of test.value)) value
    pub means : From (λ m. CarryAll u m t (ks ++ map Value (l ++ besides row)) (u t).results (Value value ∷ []))

  pub record TurnRead (b : ℕ) (l row : List Val) : Type 0 where
    pub next_names : Yields (λ d. next d env l)
    pub next_row : Yields (λ d. values d (env ++ next_names.value))
    pub typed : AreOf tys next_names.value
    pub means : From (λ m. CarryAll u m b (ks ++ map Value (l ++ besides row)) (u b).results (map Value (next_names.value ++ besides next_row.value)))

  -- where the graphs inside fire at a depth or a lesser one, the source gives what they do
  pub record AreTurnsRead (i t b n : ℕ) (initial : ℕ → Timed (List Val)) : Type 0 where
    pub of_initial : (m c : ℕ) → m ≤ n → NodesFire u m i ks (u i).nodes c → InitialRead i initial
    pub of_test : (m c : ℕ) (l row : List Val) → m ≤ n → AreOf tys l → NodesFire u m t (ks ++ map Value (l ++ besides row)) (u t).nodes c → TestRead t l row
    pub of_turn : (m c : ℕ) (l row : List Val) → m ≤ n → AreOf tys l → NodesFire u m b (ks ++ map Value (l ++ besides row)) (u b).nodes c → TurnRead b l row

abbrev pub AreLoopsRead : Type 0
AreLoopsRead = (u : Network) (i t b r outputs n cost : ℕ) (ks : List Carried) (q : Turns) (initial : ℕ → Timed (List Val)) (tests values : ℕ → Gives) (next : ℕ → List Val → Gives) (env : List Val)
    (tys : List Ty) (besides : List Val → List Val)
    → AreTurnsRead u ks q tests values next env tys besides i t b n initial
    → LaterFires u n (loop_form q.is_first i t b r outputs) ks (next_of (first (loop_form q.is_first i t b r outputs) ks)) cost
    → Yields (λ d. andthen (initial d) (λ all. looped d q outputs (tests d) (next d) (values d) env (drop (length env) all)))
