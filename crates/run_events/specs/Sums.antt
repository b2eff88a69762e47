-- A number for each node of the live graphs, as one sum.
use Rattle.std.specs.Prelude.{◌≡◌, ℕ, zero, suc, ◌+◌, ◌<◌, List, [], ◌∷◌, Option, Some, None}
use Rattle.graph_meaning.specs.Entered.{IsIn}
use Rattle.run_states.specs.Standing.{State, Live, Table, with_state, put}
use Rattle.run_states.specs.Leasing.{StandsOnce}

-- by the place of a live graph, and a label in it
abbrev pub PerNode : Type 0
PerNode = (place : ℕ) → Live → (label : ℕ) → ℕ

abbrev pub nodes_sum : (ℕ → ℕ) → List ℕ → ℕ
nodes_sum φ [] = 0
nodes_sum φ (l ∷ ls) = φ l + nodes_sum φ ls

abbrev pub graph_sum : (Live → ℕ → ℕ) → Option Live → ℕ
graph_sum φ None = 0
graph_sum φ (Some x) = nodes_sum (φ x) x.labels

-- of the graphs at the first places of the table
abbrev pub table_sum : PerNode → Table → (places : ℕ) → ℕ
table_sum φ table zero = 0
table_sum φ table (suc n) = table_sum φ table n + graph_sum (φ n) (table n)

-- ---- laws

-- Where one node's state changes, and with it maybe what is counted of that node, the sum changes by what is counted of it.
abbrev pub IsSumMoved : Type 0
IsSumMoved = (φ ψ : PerNode) (table : Table) (f l n : ℕ) (x : Live) (s : State) → table f ≡ Some x → StandsOnce l x.labels → f < n
    → ((h : ℕ) (y : Live) (m : ℕ) → ¬ (h ≡ f) → ψ h y m ≡ φ h y m)
    → ((m : ℕ) → ¬ (m ≡ l) → ψ f (with_state x l s) m ≡ φ f x m)
    → table_sum ψ (put table f (Some (with_state x l s))) n + φ f x l ≡ table_sum φ table n + ψ f (with_state x l s) l

-- It stays where what is counted does at each node that is there, and where a graph is added or left of which nothing is counted.
pub record AreSumsKept (φ ψ : PerNode) (table : Table) : Type 0 where
  pub counted : ((h : ℕ) (y : Live) (m : ℕ) → table h ≡ Some y → IsIn m y.labels → ψ h y m ≡ φ h y m) → (n : ℕ) → table_sum ψ table n ≡ table_sum φ table n
  pub added : (g : ℕ) (y : Live) → table g ≡ None → ((m : ℕ) → IsIn m y.labels → φ g y m ≡ 0) → (n : ℕ) → table_sum φ (put table g (Some y)) n ≡ table_sum φ table n
  pub left : (g : ℕ) (y : Live) → table g ≡ Some y → ((m : ℕ) → IsIn m y.labels → φ g y m ≡ 0) → (n : ℕ) → table_sum φ (put table g None) n ≡ table_sum φ table n

abbrev pub AreAllSumsKept : Type 0
AreAllSumsKept = (φ ψ : PerNode) (table : Table) → AreSumsKept φ ψ table
