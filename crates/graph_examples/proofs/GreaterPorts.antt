-- The ports of the example are filled, by edges from ports that are there.
use Rattle.std.proofs.Common.{◌≡◌, ◌≤◌, ℕ, zero, suc, List, [], ◌∷◌, Some, refl, sym, subst, arith}
use Rattle.std.specs.Prelude.{All, Contains}
use Rattle.std.specs.List.{AllByRecursion as ByRecursion}
use Rattle.std.proofs.lemmas.List.Elements.{All-from_recursion}
use Rattle.if1_graph.specs.declared.graph.Graph.{Graph}
use Rattle.if1_graph.specs.declared.graph.Graph.TheViews.{out-Graph}
use Rattle.if1_graph.specs.declared.graph.Edge.{Edge}
use Rattle.if1_graph.specs.Units.{node_at, edges_into, width, results, Home, Function, Inside, ends}
use Rattle.if1_graph.specs.Formed.{want_at}
use Rattle.if1_graph.specs.Ports.{AreFirst, IsThere, IsNodeFilled, IsEndFilled, IsUpTo, ArePortsRight, inputs, outputs, wanted_results, most_results, part_of}
use Rattle.if1_graph.specs.Ready.{PortsHold}
use Rattle.graph_examples.specs.Greater.{simple, edge, which, otherwise, equal, choice, main, greater}
use Rattle.graph_examples.proofs.GreaterOuts.{looks, out-node, which-ends, otherwise-ends, equal-ends, main-ends, place}
use Rattle.graph_examples.proofs.GreaterFormed.{once-of-one, once-of-two, at-places}

-- ---- ports 1 to n

first-one : AreFirst 1 (1 ∷ [])
first-one = record { once = once-of-one 1; these = λ port. (up port, down port) }
  where
    up : (port : ℕ) → Contains (1 ∷ []) port → (1 ≤ port) × (port ≤ 1)
    up port (zero, lt, e) = (omega (arith, e), omega (arith, e))
    up port (suc k, lt, e) = absurd (omega (arith, lt))

    down : (port : ℕ) → (1 ≤ port) × (port ≤ 1) → Contains (1 ∷ []) port
    down port h = (0, omega arith, omega (arith, h.0, h.1))

first-two : AreFirst 2 (1 ∷ 2 ∷ [])
first-two = record { once = once-of-two; these = λ port. (up port, down port) }
  where
    up : (port : ℕ) → Contains (1 ∷ 2 ∷ []) port → (1 ≤ port) × (port ≤ 2)
    up port (zero, lt, e) = (omega (arith, e), omega (arith, e))
    up port (suc zero, lt, e) = (omega (arith, e), omega (arith, e))
    up port (suc (suc k), lt, e) = absurd (omega (arith, lt))

    down : (port : ℕ) → (1 ≤ port) × (port ≤ 2) → Contains (1 ∷ 2 ∷ []) port
    down zero h = absurd (omega (arith, h.0))
    down (suc zero) h = (0, omega arith, refl)
    down (suc (suc zero)) h = (1, omega arith, refl)
    down (suc (suc (suc k))) h = absurd (omega (arith, h.1))

-- ---- each graph: its nodes by label, its inputs, and what is at each end

-- a simple node with one operand, or two, and one output
abbrev IsPort : Graph → Home → Edge → Type 0
IsPort g h e = IsThere greater (place g h) e.from

-- what is at an end: its ports are filled, and the edges into it come from ports that are there
end-right : (g : Graph) (h : Home) (l : ℕ) (es : List Edge) → edges_into g l ≡ es → IsEndFilled greater (place g h) l (node_at (out-Graph g).nodes l) → ByRecursion (IsPort g h) es → ArePortsRight greater (place g h) l
end-right g h l es e f s = record { filled = f; sources = rw e (All-from_recursion (IsPort g h) es s) }

pub at-ends : (g : Graph) (P : ℕ → Type 0) (ls : List ℕ) → ends g ≡ ls → ByRecursion P ls → All P (ends g)
at-ends g P ls e h = subst (All P) (sym e) (All-from_recursion P ls h)

-- ---- which

abbrev pub which-home : Home
which-home = Inside main choice 0

pub which-int : node_at (out-Graph which).nodes 1 ≡ Some (simple 1 129)
which-int = simp looks

pub which-equal : node_at (out-Graph which).nodes 2 ≡ Some (simple 2 124)
which-equal = simp looks

which-inputs : inputs greater (place which which-home) ≡ Some 2
which-inputs = simp (looks, width, part_of)

int-filled : IsNodeFilled greater which (simple 1 129)
int-filled =
    rw out-node (record {
      ports = simp looks first-one;
      name = simp (looks, want_at) tt;
      bound = tt;
      no_graphs = rw out-node refl;
      no_list = rw out-node refl;
    })

equal-filled : IsNodeFilled greater which (simple 2 124)
equal-filled =
    rw out-node (record {
      ports = simp looks first-two;
      name = simp (looks, want_at) tt;
      bound = tt;
      no_graphs = rw out-node refl;
      no_list = rw out-node refl;
    })

int-output : IsUpTo (outputs greater which (simple 1 129)) 1
int-output = simp (looks, outputs) (omega arith)

equal-output : IsUpTo (outputs greater which (simple 2 124)) 1
equal-output = simp (looks, outputs) (omega arith)

which-at-0 : ArePortsRight greater (place which which-home) 0
which-at-0 = end-right which which-home 0 (edge 1 1 0 1 1 ∷ []) (simp looks) (simp (looks, wanted_results, part_of) first-one) ((simple 1 129, which-int, int-output), tt)

which-at-1 : ArePortsRight greater (place which which-home) 1
which-at-1 = end-right which which-home 1 (edge 2 1 1 1 2 ∷ []) (simp looks) (rw which-int int-filled) ((simple 2 124, which-equal, equal-output), tt)

which-at-2 : ArePortsRight greater (place which which-home) 2
which-at-2 =
    end-right which which-home 2 (edge 0 1 2 1 1 ∷ edge 0 2 2 2 1 ∷ []) (simp looks) (rw which-equal equal-filled)
    (rw which-inputs (omega arith), (rw which-inputs (omega arith), tt))

which-ports : All (ArePortsRight greater (place which which-home)) (ends which)
which-ports =
    at-ends which (ArePortsRight greater (place which which-home)) _ which-ends
    (which-at-0, (which-at-1, (which-at-2, (which-at-1, (which-at-2, (which-at-2, (which-at-0, tt)))))))

-- ---- the alternatives

abbrev pub otherwise-home : Home
otherwise-home = Inside main choice 1

pub otherwise-max : node_at (out-Graph otherwise).nodes 1 ≡ Some (simple 1 133)
otherwise-max = simp looks

otherwise-inputs : inputs greater (place otherwise otherwise-home) ≡ Some 2
otherwise-inputs = simp (looks, width, part_of)

max-filled : IsNodeFilled greater otherwise (simple 1 133)
max-filled =
    rw out-node (record {
      ports = simp looks first-two;
      name = simp (looks, want_at) tt;
      bound = tt;
      no_graphs = rw out-node refl;
      no_list = rw out-node refl;
    })

max-output : IsUpTo (outputs greater otherwise (simple 1 133)) 1
max-output = simp (looks, outputs) (omega arith)

otherwise-at-0 : ArePortsRight greater (place otherwise otherwise-home) 0
otherwise-at-0 = end-right otherwise otherwise-home 0 (edge 1 1 0 1 1 ∷ []) (simp looks) (simp (looks, wanted_results, part_of, most_results, results, width) first-one) ((simple 1 133, otherwise-max, max-output), tt)

otherwise-at-1 : ArePortsRight greater (place otherwise otherwise-home) 1
otherwise-at-1 =
    end-right otherwise otherwise-home 1 (edge 0 1 1 1 1 ∷ edge 0 2 1 2 1 ∷ []) (simp looks) (rw otherwise-max max-filled)
    (rw otherwise-inputs (omega arith), (rw otherwise-inputs (omega arith), tt))

otherwise-ports : All (ArePortsRight greater (place otherwise otherwise-home)) (ends otherwise)
otherwise-ports =
    at-ends otherwise (ArePortsRight greater (place otherwise otherwise-home)) _ otherwise-ends
    (otherwise-at-0, (otherwise-at-1, (otherwise-at-1, (otherwise-at-1, (otherwise-at-0, tt)))))

abbrev pub equal-home : Home
equal-home = Inside main choice 2

pub equal-plus : node_at (out-Graph equal).nodes 1 ≡ Some (simple 1 141)
equal-plus = simp looks

equal-inputs : inputs greater (place equal equal-home) ≡ Some 2
equal-inputs = simp (looks, width, part_of)

plus-filled : IsNodeFilled greater equal (simple 1 141)
plus-filled =
    rw out-node (record {
      ports = simp looks first-two;
      name = simp (looks, want_at) tt;
      bound = tt;
      no_graphs = rw out-node refl;
      no_list = rw out-node refl;
    })

plus-output : IsUpTo (outputs greater equal (simple 1 141)) 1
plus-output = simp (looks, outputs) (omega arith)

equal-at-0 : ArePortsRight greater (place equal equal-home) 0
equal-at-0 = end-right equal equal-home 0 (edge 1 1 0 1 1 ∷ []) (simp looks) (simp (looks, wanted_results, part_of, most_results, results, width) first-one) ((simple 1 141, equal-plus, plus-output), tt)

equal-at-1 : ArePortsRight greater (place equal equal-home) 1
equal-at-1 =
    end-right equal equal-home 1 (edge 0 1 1 1 1 ∷ edge 0 2 1 2 1 ∷ []) (simp looks) (rw equal-plus plus-filled)
    (rw equal-inputs (omega arith), (rw equal-inputs (omega arith), tt))

equal-ports : All (ArePortsRight greater (place equal equal-home)) (ends equal)
equal-ports =
    at-ends equal (ArePortsRight greater (place equal equal-home)) _ equal-ends
    (equal-at-0, (equal-at-1, (equal-at-1, (equal-at-1, (equal-at-0, tt)))))

-- ---- main

pub main-choice : node_at (out-Graph main).nodes 2 ≡ Some choice
main-choice = simp looks

main-inputs : inputs greater (place main (Function 0)) ≡ Some 2
main-inputs = simp looks

choice-filled : IsNodeFilled greater main choice
choice-filled = rw out-node (record { parts = rw out-node (omega arith); ports = simp looks (2, omega arith, first-two); list = rw out-node refl })

choice-output : IsUpTo (outputs greater main choice) 1
choice-output = simp (looks, outputs, most_results, results, width) (omega arith)

main-at-0 : ArePortsRight greater (place main (Function 0)) 0
main-at-0 = end-right main (Function 0) 0 (edge 2 1 0 1 1 ∷ []) (simp looks) (simp (looks, wanted_results) first-one) ((choice, main-choice, choice-output), tt)

main-at-2 : ArePortsRight greater (place main (Function 0)) 2
main-at-2 =
    end-right main (Function 0) 2 (edge 0 1 2 1 1 ∷ edge 0 2 2 2 1 ∷ []) (simp looks) (rw main-choice choice-filled)
    (rw main-inputs (omega arith), (rw main-inputs (omega arith), tt))

main-ports : All (ArePortsRight greater (place main (Function 0))) (ends main)
main-ports =
    at-ends main (ArePortsRight greater (place main (Function 0))) _ main-ends
    (main-at-0, (main-at-2, (main-at-2, (main-at-2, (main-at-0, tt)))))

pub ports-hold : PortsHold greater
ports-hold = at-places (λ p. All (ArePortsRight greater p) (ends p.graph)) (main-ports, (which-ports, (otherwise-ports, (equal-ports, tt))))
