-- The example is formed.
use Rattle.std.proofs.Common.{◌≡◌, ◌≤◌, ℕ, zero, suc, Bool, List, [], ◌∷◌, map, refl, sym, subst, inl, inr, arith}
use Rattle.std.specs.Prelude.{All, Contains}
use Rattle.std.specs.List.{AllByRecursion as ByRecursion}
use Rattle.std.specs.List.Sorted.{IsStrictlyIncreasing}
use Rattle.std.proofs.lemmas.List.Elements.{All-from_recursion, All-nil}
use Rattle.if1_graph.specs.Spelling.{IsLabel, IsNumber}
use Rattle.if1_graph.specs.declared.graph.Graph.{Graph}
use Rattle.if1_graph.specs.declared.graph.Graph.TheViews.{out-Graph, roll-Graph}
use Rattle.if1_graph.specs.declared.graph.Graph.TheFolds.{fold-roll-Graph, fold-roll-Node}
use Rattle.if1_graph.specs.declared.graph.Node.{Node}
use Rattle.if1_graph.specs.declared.graph.Edge.{Edge}
use Rattle.if1_graph.specs.declared.graph.TypeEntry.{TypeEntry}
use Rattle.if1_graph.specs.Units.{label_of, Function, Inside, Place, places, most_levels, levels, size}
use Rattle.if1_graph.specs.Formed.{IsEntry, IsTable, IsWholeType, IsOpcode, IsNode, IsEdge, IsOnce, IsGraph, IsImport, IsFormed}
use Rattle.graph_examples.specs.Greater.{simple, edge, types, which, otherwise, equal, choice, main, greater}
use Rattle.graph_examples.proofs.GreaterOuts.{outs, out-graph, out-node, place, all-places, places-are}
use Rattle.graph_examples.proofs.Reals.{free-of-reals}

-- ---- sizes and levels

which-size : size which ≡ 1
which-size = simp (fold-roll-Graph, fold-roll-Node)

otherwise-size : size otherwise ≡ 1
otherwise-size = simp (fold-roll-Graph, fold-roll-Node)

main-levels : levels main ≡ 1
main-levels = simp (fold-roll-Graph, fold-roll-Node)

-- ---- the table of types

rising : IsStrictlyIncreasing (map (λ e. e.label) types)
rising zero lt = omega arith
rising (suc zero) lt = omega arith
rising (suc (suc zero)) lt = omega arith
rising (suc (suc (suc zero))) lt = omega arith
rising (suc (suc (suc (suc zero)))) lt = omega arith
rising (suc (suc (suc (suc (suc k))))) lt = absurd (omega (arith, lt))

abbrev IsRow : TypeEntry → Type 0
IsRow = IsEntry types

table : IsTable types
table =
    record {
      rising = rising;
      entries = All-from_recursion IsRow types (
        record { label = (omega arith, omega arith); numbers = (refl, refl); name = refl },
        (
          record { label = (omega arith, omega arith); numbers = (refl, refl); name = refl },
          (
            record { label = (omega arith, omega arith); numbers = (refl, inr refl); name = refl },
            (
              record { label = (omega arith, omega arith); numbers = (refl, inl refl); name = refl },
              (
                record { label = (omega arith, omega arith); numbers = (refl, inl refl); name = refl },
                (record { label = (omega arith, omega arith); numbers = (inr refl, refl); name = refl }, tt),
              ),
            ),
          ),
        ),
      );
      few = omega arith;
    }

pub integer-type : IsWholeType types 1
integer-type = ((omega arith, omega arith), refl, free-of-reals types 9 1 refl)

pub boolean-type : IsWholeType types 2
boolean-type = ((omega arith, omega arith), refl, free-of-reals types 9 2 refl)

pub function-type : IsWholeType types 7
function-type = ((omega arith, omega arith), refl, free-of-reals types 9 7 refl)

-- ---- nodes and edges

node-formed : (l op : ℕ) → IsLabel l → IsOpcode op → IsNumber op → IsNode (simple l op)
node-formed l op a b c =
    record {
      label = rw (label_of, out-node) a;
      op = rw out-node b;
      op_number = rw out-node c;
      count = rw out-node (omega arith);
      assoc = rw out-node (All-nil IsNumber);
      before = rw out-node (All-nil IsLabel);
      name = rw out-node refl;
    }

edge-formed : (g : Graph) (a p n q t : ℕ) → IsNumber a → IsLabel p → IsNumber n → IsLabel q → IsWholeType types t → IsEdge greater g (edge a p n q t)
edge-formed g a p n q t ha hp hn hq ht = record { source = (ha, hp); node = hn; port = hq; ty = ht; name = refl }

-- from a port to a port, of small numbers
small : (g : Graph) (a p n q t : ℕ) → a ≤ 9 → 1 ≤ p → p ≤ 9 → n ≤ 9 → 1 ≤ q → q ≤ 9 → IsWholeType types t → IsEdge greater g (edge a p n q t)
small g a p n q t ha hp kp hn hq kq ht = edge-formed g a p n q t (omega (arith, ha)) (hp, omega (arith, kp)) (omega (arith, hn)) (hq, omega (arith, kq)) ht

-- what holds of the list in an opened graph
pub nodes-all : (P : Node → Type 0) (number fun : ℕ) (exported : Bool) (name : List ℕ) (nodes : List Node) (edges : List Edge) → ByRecursion P nodes → All P (out-Graph (roll-Graph (record { number = number; exported = exported; name = name; fun = fun; nodes = nodes; edges = edges }))).nodes
nodes-all P number fun exported name nodes edges h = rw out-graph (All-from_recursion P nodes h)

pub edges-all : (P : Edge → Type 0) (number fun : ℕ) (exported : Bool) (name : List ℕ) (nodes : List Node) (edges : List Edge) → ByRecursion P edges → All P (out-Graph (roll-Graph (record { number = number; exported = exported; name = name; fun = fun; nodes = nodes; edges = edges }))).edges
edges-all P number fun exported name nodes edges h = rw out-graph (All-from_recursion P edges h)

pub once-of-two : IsOnce (1 ∷ 2 ∷ [])
once-of-two = (none, ((λ c. none-of-none c), tt))
  where
    none-of-none : {n : ℕ} → Contains {X = ℕ} [] n → ⊥
    none-of-none c = absurd (omega (arith, c.1))

    none : Contains {X = ℕ} (2 ∷ []) 1 → ⊥
    none (zero, lt, e) = absurd (omega (arith, e))
    none (suc k, lt, e) = absurd (omega (arith, lt))

pub once-of-one : (n : ℕ) → IsOnce (n ∷ [])
once-of-one n = ((λ c. absurd (omega (arith, c.1))), tt)

abbrev IsNodeOf : Node → Type 0
IsNodeOf = IsNode

main-choice : IsNode choice
main-choice =
    record {
      label = rw (label_of, out-node) (omega arith, omega arith);
      op = rw out-node (inr refl);
      op_number = rw out-node (omega arith);
      count = rw out-node (omega arith);
      assoc = rw out-node (All-from_recursion IsNumber (0 ∷ 1 ∷ 2 ∷ []) (omega arith, (omega arith, (omega arith, tt))));
      before = rw out-node (All-nil IsLabel);
      name = rw out-node refl;
    }

main-formed : IsGraph greater (place main (Function 0))
main-formed =
    record {
      number = simp outs;
      header = rw out-graph (function-type, refl);
      nodes = nodes-all IsNode _ _ _ _ _ _ (main-choice, tt);
      labels = simp outs (once-of-one 2);
      few = simp outs (omega arith);
      edges = edges-all (IsEdge greater main) _ _ _ _ _ _ (
        small main 0 1 2 1 1 (omega arith) (omega arith) (omega arith) (omega arith) (omega arith) (omega arith) integer-type,
        (
          small main 0 2 2 2 1 (omega arith) (omega arith) (omega arith) (omega arith) (omega arith) (omega arith) integer-type,
          (small main 2 1 0 1 1 (omega arith) (omega arith) (omega arith) (omega arith) (omega arith) (omega arith) integer-type, tt),
        ),
      );
    }

which-formed : IsGraph greater (place which (Inside main choice 0))
which-formed =
    record {
      number = simp outs;
      header = rw out-graph (refl, refl, refl);
      nodes = nodes-all IsNode _ _ _ _ _ _ (
        node-formed 1 129 (omega arith, omega arith) (inl refl) (omega arith),
        (node-formed 2 124 (omega arith, omega arith) (inl refl) (omega arith), tt),
      );
      labels = simp outs once-of-two;
      few = simp outs (omega arith);
      edges = edges-all (IsEdge greater which) _ _ _ _ _ _ (
        small which 2 1 1 1 2 (omega arith) (omega arith) (omega arith) (omega arith) (omega arith) (omega arith) boolean-type,
        (
          small which 0 1 2 1 1 (omega arith) (omega arith) (omega arith) (omega arith) (omega arith) (omega arith) integer-type,
          (
            small which 0 2 2 2 1 (omega arith) (omega arith) (omega arith) (omega arith) (omega arith) (omega arith) integer-type,
            (small which 1 1 0 1 1 (omega arith) (omega arith) (omega arith) (omega arith) (omega arith) (omega arith) integer-type, tt),
          ),
        ),
      );
    }

-- the two alternatives have the same edges
alternative-edges : (g : Graph) → ByRecursion (IsEdge greater g) (edge 0 1 1 1 1 ∷ edge 0 2 1 2 1 ∷ edge 1 1 0 1 1 ∷ [])
alternative-edges g = (
  small g 0 1 1 1 1 (omega arith) (omega arith) (omega arith) (omega arith) (omega arith) (omega arith) integer-type,
  (
    small g 0 2 1 2 1 (omega arith) (omega arith) (omega arith) (omega arith) (omega arith) (omega arith) integer-type,
    (small g 1 1 0 1 1 (omega arith) (omega arith) (omega arith) (omega arith) (omega arith) (omega arith) integer-type, tt),
  ),
)

otherwise-formed : IsGraph greater (place otherwise (Inside main choice 1))
otherwise-formed =
    record {
      number = simp (outs, which-size);
      header = rw out-graph (refl, refl, refl);
      nodes = nodes-all IsNode _ _ _ _ _ _ (node-formed 1 133 (omega arith, omega arith) (inl refl) (omega arith), tt);
      labels = simp outs (once-of-one 1);
      few = simp outs (omega arith);
      edges = edges-all (IsEdge greater otherwise) _ _ _ _ _ _ (alternative-edges otherwise);
    }

equal-formed : IsGraph greater (place equal (Inside main choice 2))
equal-formed =
    record {
      number = simp (outs, which-size, otherwise-size);
      header = rw out-graph (refl, refl, refl);
      nodes = nodes-all IsNode _ _ _ _ _ _ (node-formed 1 141 (omega arith, omega arith) (inl refl) (omega arith), tt);
      labels = simp outs (once-of-one 1);
      few = simp outs (omega arith);
      edges = edges-all (IsEdge greater equal) _ _ _ _ _ _ (alternative-edges equal);
    }

-- what holds at each of the four places
pub at-places : (P : Place → Type 0) → ByRecursion P all-places → All P (places greater)
at-places P h = subst (All P) (sym places-are) (All-from_recursion P all-places h)

pub formed : IsFormed greater
formed =
    record {
      types = table;
      imports = All-nil (IsImport types);
      nesting = All-from_recursion (λ g. levels g ≤ most_levels) (main ∷ []) (rw main-levels (omega arith), tt);
      graphs = at-places (IsGraph greater) (main-formed, (which-formed, (otherwise-formed, (equal-formed, tt))));
    }
