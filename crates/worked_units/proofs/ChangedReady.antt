-- The unit of the change is ready.
use Rattle.std.proofs.Common.{◌≡◌, ◌≤◌, ℕ, zero, suc, Bool, true, false, List, [], ◌∷◌, map, Some, refl, inl, inr, arith}
use Rattle.std.specs.Prelude.{All, codes}
use Rattle.std.specs.List.Sorted.{IsStrictlyIncreasing}
use Rattle.std.proofs.lemmas.List.Elements.{All-from_recursion, All-nil}
use Rattle.flow_value.specs.declared.ty.Ty.TheVariants as ty
use Rattle.if1_graph.specs.Spelling.{IsLabel, IsNumber}
use Rattle.if1_graph.specs.declared.graph.Edge.{Edge}
use Rattle.if1_graph.specs.declared.graph.Graph.TheFolds.{fold-roll-Graph, fold-roll-Node}
use Rattle.if1_graph.specs.declared.graph.Graph.TheViews.{out-Graph}
use Rattle.if1_graph.specs.declared.graph.TypeEntry.{TypeEntry}
use Rattle.if1_graph.specs.declared.row.Want.TheVariants as want
use Rattle.if1_graph.specs.Formed.{IsEntry, IsTable, IsWholeType, IsOpcode, IsNode, IsEdge, IsGraph, IsImport, IsFormed, want_at}
use Rattle.if1_graph.specs.Ports.{IsUpTo, IsNodeFilled, ArePortsRight, carried, outputs, wanted_results, edges_from}
use Rattle.if1_graph.specs.Ready.{PortsHold, TypesHold}
use Rattle.if1_graph.specs.Types.{Sort, Plain}
use Rattle.if1_graph.specs.Typing.{AreTypesRight}
use Rattle.if1_graph.specs.Units.{label_of, Function, ends, most_levels, levels}
use Rattle.graph_examples.proofs.Reals.{free-of-reals}
use Rattle.worked_units.specs.Chosen.{literal}
use Rattle.worked_units.specs.Changed.{types, edge, node, main, changed}
use Rattle.worked_units.proofs.Ends.{once-of-three, first-two, first-three, literal-fits, end-right, end-typed, edge-typed, agrees}
use Rattle.worked_units.proofs.ChangedOuts.{out-main, out-node, opened, looks, place, at-place, all-edges, all-nodes, at-ends, the-fill, the-change, the-look}

-- ---- formed

main-levels : levels main ≡ 0
main-levels = simp (fold-roll-Graph, fold-roll-Node)

rising : IsStrictlyIncreasing (map (λ e. e.label) types)
rising zero lt = omega arith
rising (suc zero) lt = omega arith
rising (suc (suc zero)) lt = omega arith
rising (suc (suc (suc zero))) lt = omega arith
rising (suc (suc (suc (suc zero)))) lt = omega arith
rising (suc (suc (suc (suc (suc zero))))) lt = omega arith
rising (suc (suc (suc (suc (suc (suc zero)))))) lt = omega arith
rising (suc (suc (suc (suc (suc (suc (suc k))))))) lt = absurd (omega (arith, lt))

abbrev IsRow : TypeEntry → Type 0
IsRow = IsEntry types

table : IsTable types
table =
    record {
      rising = rising;
      entries = All-from_recursion IsRow types (
        record { label = (omega arith, omega arith); numbers = (refl, refl); name = refl },
        (
          record { label = (omega arith, omega arith); numbers = (refl, refl); name = refl },
          (
            record { label = (omega arith, omega arith); numbers = (refl, refl); name = refl },
            (
              record { label = (omega arith, omega arith); numbers = (refl, refl); name = refl },
              (
                record { label = (omega arith, omega arith); numbers = (refl, refl); name = refl },
                (
                  record { label = (omega arith, omega arith); numbers = (refl, inl refl); name = refl },
                  (
                    record { label = (omega arith, omega arith); numbers = (refl, inr refl); name = refl },
                    (record { label = (omega arith, omega arith); numbers = (inl refl, refl); name = refl }, tt),
                  ),
                ),
              ),
            ),
          ),
        ),
      );
      few = omega arith;
    }

integer-type : IsWholeType types 3
integer-type = ((omega arith, omega arith), refl, free-of-reals types 9 3 refl)

array-type : IsWholeType types 5
array-type = ((omega arith, omega arith), refl, free-of-reals types 9 5 refl)

function-type : IsWholeType types 8
function-type = ((omega arith, omega arith), refl, free-of-reals types 9 8 refl)

node-formed : (l op : ℕ) (before : List ℕ) → IsLabel l → IsOpcode op → IsNumber op → All IsLabel before → IsNode (node l op before)
node-formed l op before a b c d =
    record {
      label = rw (label_of, out-node) a;
      op = rw out-node b;
      op_number = rw out-node c;
      count = rw out-node (omega arith);
      assoc = rw out-node (All-nil IsNumber);
      before = rw out-node d;
      name = rw out-node refl;
    }

-- the ports of literals want an integer, or an element
pub wants-1-1 : want_at main 1 1 ≡ Some want.Integer
wants-1-1 = simp (looks, want_at)

pub wants-1-2 : want_at main 1 2 ≡ Some want.Integer
wants-1-2 = simp (looks, want_at)

pub wants-1-3 : want_at main 1 3 ≡ Some want.Any
wants-1-3 = simp (looks, want_at)

pub wants-2-2 : want_at main 2 2 ≡ Some want.Integer
wants-2-2 = simp (looks, want_at)

pub wants-2-3 : want_at main 2 3 ≡ Some (want.Element 1)
wants-2-3 = simp (looks, want_at)

pub wants-3-2 : want_at main 3 2 ≡ Some want.Integer
wants-3-2 = simp (looks, want_at)

edge-formed : (takes : Bool) (a n q t : ℕ) → a ≤ 9 → n ≤ 9 → 1 ≤ q → q ≤ 9 → IsWholeType types t → IsEdge changed main (edge takes a 1 n q t)
edge-formed takes a n q t ha hn hq kq ht = record { source = (omega (arith, ha), (omega arith, omega arith)); node = omega (arith, hn); port = (hq, omega (arith, kq)); ty = ht; name = refl }

edges-formed : All (IsEdge changed main) (out-Graph main).edges
edges-formed = all-edges (IsEdge changed main) (
  record { source = (refl, refl, literal-fits changed main (literal (codes "1") 1 1 3) (codes "1") _ refl (rw wants-1-1 refl)); node = omega arith; port = (omega arith, omega arith); ty = integer-type; name = refl },
  (
    record { source = (refl, refl, literal-fits changed main (literal (codes "3") 1 2 3) (codes "3") _ refl (rw wants-1-2 refl)); node = omega arith; port = (omega arith, omega arith); ty = integer-type; name = refl },
    (
      record { source = (refl, refl, literal-fits changed main (literal (codes "5") 1 3 3) (codes "5") _ refl (rw wants-1-3 refl)); node = omega arith; port = (omega arith, omega arith); ty = integer-type; name = refl },
      (
        edge-formed true 1 2 1 5 (omega arith) (omega arith) (omega arith) (omega arith) array-type,
        (
          record { source = (refl, refl, literal-fits changed main (literal (codes "1") 2 2 3) (codes "1") _ refl (rw wants-2-2 refl)); node = omega arith; port = (omega arith, omega arith); ty = integer-type; name = refl },
          (
            record { source = (refl, refl, literal-fits changed main (literal (codes "9") 2 3 3) (codes "9") _ refl (rw wants-2-3 refl)); node = omega arith; port = (omega arith, omega arith); ty = integer-type; name = refl },
            (
              edge-formed false 1 3 1 5 (omega arith) (omega arith) (omega arith) (omega arith) array-type,
              (
                record { source = (refl, refl, literal-fits changed main (literal (codes "1") 3 2 3) (codes "1") _ refl (rw wants-3-2 refl)); node = omega arith; port = (omega arith, omega arith); ty = integer-type; name = refl },
                (
                  edge-formed false 3 0 1 3 (omega arith) (omega arith) (omega arith) (omega arith) integer-type,
                  (edge-formed true 2 0 2 5 (omega arith) (omega arith) (omega arith) (omega arith) array-type, tt),
                ),
              ),
            ),
          ),
        ),
      ),
    ),
  ),
)

main-formed : IsGraph changed place
main-formed =
    record {
      number = simp opened;
      header = rw out-main (function-type, refl);
      nodes = all-nodes IsNode (
        node-formed 1 106 [] (omega arith, omega arith) (inl refl) (omega arith) (All-nil IsLabel),
        (
          node-formed 2 113 (3 ∷ []) (omega arith, omega arith) (inl refl) (omega arith) (All-from_recursion IsLabel (3 ∷ []) ((omega arith, omega arith), tt)),
          (node-formed 3 105 [] (omega arith, omega arith) (inl refl) (omega arith) (All-nil IsLabel), tt),
        ),
      );
      labels = simp opened once-of-three;
      few = simp opened (omega arith);
      edges = edges-formed;
    }

pub formed : IsFormed changed
formed =
    record {
      types = table;
      imports = All-nil (IsImport types);
      nesting = All-from_recursion (λ g. levels g ≤ most_levels) (main ∷ []) (rw main-levels (omega arith), tt);
      graphs = at-place (IsGraph changed) main-formed;
    }

-- ---- ports

abbrev into-fill : List Edge
into-fill = literal (codes "1") 1 1 3 ∷ literal (codes "3") 1 2 3 ∷ literal (codes "5") 1 3 3 ∷ []

abbrev into-change : List Edge
into-change = edge true 1 1 2 1 5 ∷ literal (codes "1") 2 2 3 ∷ literal (codes "9") 2 3 3 ∷ []

abbrev into-look : List Edge
into-look = edge false 1 1 3 1 5 ∷ literal (codes "1") 3 2 3 ∷ []

abbrev into-boundary : List Edge
into-boundary = edge false 3 1 0 1 3 ∷ edge true 2 1 0 2 5 ∷ []

fill-output : IsUpTo (outputs changed main (node 1 106 [])) 1
fill-output = simp (looks, outputs) (omega arith)

change-output : IsUpTo (outputs changed main (node 2 113 (3 ∷ []))) 1
change-output = simp (looks, outputs) (omega arith)

look-output : IsUpTo (outputs changed main (node 3 105 [])) 1
look-output = simp (looks, outputs) (omega arith)

fill-filled : IsNodeFilled changed main (node 1 106 [])
fill-filled =
    rw out-node (record {
      ports = simp looks first-three;
      name = simp (looks, want_at) tt;
      bound = tt;
      no_graphs = rw out-node refl;
      no_list = rw out-node refl;
    })

change-filled : IsNodeFilled changed main (node 2 113 (3 ∷ []))
change-filled =
    rw out-node (record {
      ports = simp looks first-three;
      name = simp (looks, want_at) tt;
      bound = tt;
      no_graphs = rw out-node refl;
      no_list = rw out-node refl;
    })

look-filled : IsNodeFilled changed main (node 3 105 [])
look-filled =
    rw out-node (record {
      ports = simp looks first-two;
      name = simp (looks, want_at) tt;
      bound = tt;
      no_graphs = rw out-node refl;
      no_list = rw out-node refl;
    })

ports-at-0 : ArePortsRight changed place 0
ports-at-0 =
    end-right changed main (Function 0) 0 into-boundary (simp looks) (simp (looks, wanted_results) first-two)
    ((node 3 105 [], the-look, look-output), ((node 2 113 (3 ∷ []), the-change, change-output), tt))

ports-at-1 : ArePortsRight changed place 1
ports-at-1 = end-right changed main (Function 0) 1 into-fill (simp looks) (rw the-fill fill-filled) (tt, (tt, (tt, tt)))

ports-at-2 : ArePortsRight changed place 2
ports-at-2 = end-right changed main (Function 0) 2 into-change (simp looks) (rw the-change change-filled) ((node 1 106 [], the-fill, fill-output), (tt, (tt, tt)))

ports-at-3 : ArePortsRight changed place 3
ports-at-3 = end-right changed main (Function 0) 3 into-look (simp looks) (rw the-look look-filled) ((node 1 106 [], the-fill, fill-output), (tt, tt))

pub ports-hold : PortsHold changed
ports-hold = at-place (λ p. All (ArePortsRight changed p) (ends p.graph)) (at-ends (ArePortsRight changed place) ports-at-0 ports-at-1 ports-at-2 ports-at-3)

-- ---- types

abbrev int : Sort
int = Plain ty.Int

abbrev array : Sort
array = Plain (ty.Arr ty.Int)

abbrev from-fill : List Edge
from-fill = edge true 1 1 2 1 5 ∷ edge false 1 1 3 1 5 ∷ []

types-at-0 : AreTypesRight changed place 0
types-at-0 =
    end-typed changed main (Function 0) 0 into-boundary (simp looks) (simp looks ([], ty.Int ∷ ty.Arr ty.Int ∷ [], refl)) (
      edge-typed changed main (Function 0) (edge false 3 1 0 1 3) int refl (simp looks (ty.Int, refl, refl)) (simp (looks, carried) (ty.Int, refl, inl (inl refl))),
      (edge-typed changed main (Function 0) (edge true 2 1 0 2 5) array refl (simp looks (ty.Arr ty.Int, refl, refl)) (simp (looks, carried) ((ty.Arr ty.Int, refl), refl)), tt),
    ) (
      agrees changed main 2 1 3 (edge false 3 1 0 1 3 ∷ []) (simp (looks, edges_from)) (refl, tt),
      (agrees changed main 1 1 5 (edge true 2 1 0 2 5 ∷ []) (simp (looks, edges_from)) (refl, tt), tt),
    )

types-at-1 : AreTypesRight changed place 1
types-at-1 =
    end-typed changed main (Function 0) 1 into-fill (simp looks) (simp looks tt) (
      edge-typed changed main (Function 0) (literal (codes "1") 1 1 3) int refl (simp looks refl) tt,
      (
        edge-typed changed main (Function 0) (literal (codes "3") 1 2 3) int refl (simp looks refl) tt,
        (edge-typed changed main (Function 0) (literal (codes "5") 1 3 3) int refl (simp looks (ty.Int, refl)) tt, tt),
      ),
    )
    (tt, (tt, (tt, tt)))

types-at-2 : AreTypesRight changed place 2
types-at-2 =
    end-typed changed main (Function 0) 2 into-change (simp looks) (simp looks tt) (
      edge-typed changed main (Function 0) (edge true 1 1 2 1 5) array refl (simp looks (ty.Int, refl)) (simp (looks, carried) (ty.Int, refl, refl)),
      (
        edge-typed changed main (Function 0) (literal (codes "1") 2 2 3) int refl (simp looks refl) tt,
        (edge-typed changed main (Function 0) (literal (codes "9") 2 3 3) int refl (simp (looks, carried) (ty.Int, refl, inl (inl refl))) tt, tt),
      ),
    )
    (agrees changed main 0 1 5 from-fill (simp (looks, edges_from)) (refl, (refl, tt)), (tt, (tt, tt)))

types-at-3 : AreTypesRight changed place 3
types-at-3 =
    end-typed changed main (Function 0) 3 into-look (simp looks) (simp looks tt) (
      edge-typed changed main (Function 0) (edge false 1 1 3 1 5) array refl (simp looks (ty.Int, refl)) (simp (looks, carried) (ty.Int, refl, refl)),
      (edge-typed changed main (Function 0) (literal (codes "1") 3 2 3) int refl (simp looks refl) tt, tt),
    )
    (agrees changed main 0 1 5 from-fill (simp (looks, edges_from)) (refl, (refl, tt)), (tt, tt))

pub types-hold : TypesHold changed
types-hold = at-place (λ p. All (AreTypesRight changed p) (ends p.graph)) (at-ends (AreTypesRight changed place) types-at-0 types-at-1 types-at-2 types-at-3)
