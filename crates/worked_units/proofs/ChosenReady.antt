-- The unit of the choice is ready.
use Rattle.std.proofs.Common.{◌≡◌, ◌≢◌, ◌<◌, ◌≤◌, ℕ, zero, suc, List, [], ◌∷◌, map, Some, None, refl, sym, subst, inl, inr, arith}
use Rattle.std.specs.Prelude.{All, codes}
use Rattle.std.specs.List.{AllByRecursion as ByRecursion}
use Rattle.std.specs.List.Sorted.{IsStrictlyIncreasing}
use Rattle.std.proofs.lemmas.List.Elements.{All-from_recursion, All-contains, All-nil}
use Rattle.flow_value.specs.declared.ty.Ty.TheVariants as ty
use Rattle.if1_graph.specs.Spelling.{IsLabel, IsNumber}
use Rattle.if1_graph.specs.declared.graph.Edge.{Edge}
use Rattle.if1_graph.specs.declared.graph.Graph.{Graph}
use Rattle.if1_graph.specs.declared.graph.Graph.TheFolds.{fold-roll-Graph, fold-roll-Node}
use Rattle.if1_graph.specs.declared.graph.Graph.TheViews.{out-Graph}
use Rattle.if1_graph.specs.declared.graph.TypeEntry.{TypeEntry}
use Rattle.if1_graph.specs.Cycles.{IsFrom, Feeds, Reaches, edge as by_edge, path}
use Rattle.if1_graph.specs.Formed.{IsEntry, IsTable, IsWholeType, IsNode, IsEdge, IsGraph, IsImport, IsFormed, want_at}
use Rattle.if1_graph.specs.Ports.{IsUpTo, ArePortsRight, inputs, outputs, wanted_results, most_results, part_of, edges_from}
use Rattle.if1_graph.specs.Ready.{PortsHold, TypesHold, IsOrdered, IsAcyclic, IsReady}
use Rattle.if1_graph.specs.Types.{Sort, Plain}
use Rattle.if1_graph.specs.Typing.{AreTypesRight, result_of}
use Rattle.if1_graph.specs.Units.{label_of, node_at, width, results, Home, Function, Inside, Place, places, ends, most_levels, levels, size}
use Rattle.graph_examples.specs.Greater.{edge}
use Rattle.graph_examples.proofs.GreaterFormed.{nodes-all, edges-all, once-of-one}
use Rattle.graph_examples.proofs.GreaterOuts.{outs, looks, out-graph, out-node, place}
use Rattle.graph_examples.proofs.Reals.{free-of-reals}
use Rattle.worked_units.specs.Chosen.{types, literal, which, four, five, choice, main, chosen}
use Rattle.worked_units.proofs.Ends.{first-one, at-ends, literal-fits, end-right, end-typed, edge-typed, agrees}

-- ---- places

abbrev pub which-home : Home
which-home = Inside main choice 0

abbrev pub four-home : Home
four-home = Inside main choice 1

abbrev pub five-home : Home
five-home = Inside main choice 2

abbrev pub all-places : List Place
all-places = place main (Function 0) ∷ place which which-home ∷ place four four-home ∷ place five five-home ∷ []

pub places-are : places chosen ≡ all-places
places-are = simp outs

-- what holds at each of the four places
pub at-places : (P : Place → Type 0) → ByRecursion P all-places → All P (places chosen)
at-places P h = subst (All P) (sym places-are) (All-from_recursion P all-places h)

which-ends : ends which ≡ 0 ∷ 0 ∷ []
which-ends = simp outs

four-ends : ends four ≡ 0 ∷ 0 ∷ []
four-ends = simp outs

five-ends : ends five ≡ 0 ∷ 0 ∷ []
five-ends = simp outs

main-ends : ends main ≡ 0 ∷ 1 ∷ 1 ∷ 0 ∷ []
main-ends = simp outs

-- ---- formed

which-size : size which ≡ 1
which-size = simp fold-roll-Graph

four-size : size four ≡ 1
four-size = simp fold-roll-Graph

main-levels : levels main ≡ 1
main-levels = simp (fold-roll-Graph, fold-roll-Node)

rising : IsStrictlyIncreasing (map (λ e. e.label) types)
rising zero lt = omega arith
rising (suc zero) lt = omega arith
rising (suc (suc k)) lt = absurd (omega (arith, lt))

abbrev IsRow : TypeEntry → Type 0
IsRow = IsEntry types

table : IsTable types
table =
    record {
      rising = rising;
      entries = All-from_recursion IsRow types (
        record { label = (omega arith, omega arith); numbers = (refl, refl); name = refl },
        (
          record { label = (omega arith, omega arith); numbers = (refl, inl refl); name = refl },
          (record { label = (omega arith, omega arith); numbers = (inr refl, refl); name = refl }, tt),
        ),
      );
      few = omega arith;
    }

integer-type : IsWholeType types 1
integer-type = ((omega arith, omega arith), refl, free-of-reals types 9 1 refl)

function-type : IsWholeType types 3
function-type = ((omega arith, omega arith), refl, free-of-reals types 9 3 refl)

edge-formed : (g : Graph) (a n : ℕ) → a ≤ 9 → n ≤ 9 → IsEdge chosen g (edge a 1 n 1 1)
edge-formed g a n ha hn = record { source = (omega (arith, ha), (omega arith, omega arith)); node = omega (arith, hn); port = (omega arith, omega arith); ty = integer-type; name = refl }

-- the port of a result wants no name
pub four-wants : want_at four 0 1 ≡ None
four-wants = simp (looks, want_at)

pub five-wants : want_at five 0 1 ≡ None
five-wants = simp (looks, want_at)

four-literal : IsEdge chosen four (literal (codes "4") 0 1 1)
four-literal =
    record {
      source = (refl, refl, literal-fits chosen four (literal (codes "4") 0 1 1) (codes "4") _ refl (rw four-wants refl));
      node = omega arith;
      port = (omega arith, omega arith);
      ty = integer-type;
      name = refl;
    }

five-literal : IsEdge chosen five (literal (codes "5") 0 1 1)
five-literal =
    record {
      source = (refl, refl, literal-fits chosen five (literal (codes "5") 0 1 1) (codes "5") _ refl (rw five-wants refl));
      node = omega arith;
      port = (omega arith, omega arith);
      ty = integer-type;
      name = refl;
    }

choice-formed : IsNode choice
choice-formed =
    record {
      label = rw (label_of, out-node) (omega arith, omega arith);
      op = rw out-node (inr refl);
      op_number = rw out-node (omega arith);
      count = rw out-node (omega arith);
      assoc = rw out-node (All-from_recursion IsNumber (0 ∷ 1 ∷ 2 ∷ []) (omega arith, (omega arith, (omega arith, tt))));
      before = rw out-node (All-nil IsLabel);
      name = rw out-node refl;
    }

main-formed : IsGraph chosen (place main (Function 0))
main-formed =
    record {
      number = simp outs;
      header = rw out-graph (function-type, refl);
      nodes = nodes-all IsNode _ _ _ _ _ _ (choice-formed, tt);
      labels = simp outs (once-of-one 1);
      few = simp outs (omega arith);
      edges = edges-all (IsEdge chosen main) _ _ _ _ _ _ (edge-formed main 0 1 (omega arith) (omega arith), (edge-formed main 1 0 (omega arith) (omega arith), tt));
    }

which-formed : IsGraph chosen (place which which-home)
which-formed =
    record {
      number = simp outs;
      header = rw out-graph (refl, refl, refl);
      nodes = nodes-all IsNode _ _ _ _ _ _ tt;
      labels = simp outs tt;
      few = simp outs (omega arith);
      edges = edges-all (IsEdge chosen which) _ _ _ _ _ _ (edge-formed which 0 0 (omega arith) (omega arith), tt);
    }

four-formed : IsGraph chosen (place four four-home)
four-formed =
    record {
      number = simp (outs, which-size);
      header = rw out-graph (refl, refl, refl);
      nodes = nodes-all IsNode _ _ _ _ _ _ tt;
      labels = simp outs tt;
      few = simp outs (omega arith);
      edges = edges-all (IsEdge chosen four) _ _ _ _ _ _ (four-literal, tt);
    }

five-formed : IsGraph chosen (place five five-home)
five-formed =
    record {
      number = simp (outs, which-size, four-size);
      header = rw out-graph (refl, refl, refl);
      nodes = nodes-all IsNode _ _ _ _ _ _ tt;
      labels = simp outs tt;
      few = simp outs (omega arith);
      edges = edges-all (IsEdge chosen five) _ _ _ _ _ _ (five-literal, tt);
    }

formed : IsFormed chosen
formed =
    record {
      types = table;
      imports = All-nil (IsImport types);
      nesting = All-from_recursion (λ g. levels g ≤ most_levels) (main ∷ []) (rw main-levels (omega arith), tt);
      graphs = at-places (IsGraph chosen) (main-formed, (which-formed, (four-formed, (five-formed, tt))));
    }

-- ---- ports

which-inputs : inputs chosen (place which which-home) ≡ Some 1
which-inputs = simp (looks, width, part_of)

main-inputs : inputs chosen (place main (Function 0)) ≡ Some 1
main-inputs = simp looks

main-choice : node_at (out-Graph main).nodes 1 ≡ Some choice
main-choice = simp looks

choice-output : IsUpTo (outputs chosen main choice) 1
choice-output = simp (looks, outputs, most_results, results, width) (omega arith)

which-ports : ArePortsRight chosen (place which which-home) 0
which-ports = end-right chosen which which-home 0 (edge 0 1 0 1 1 ∷ []) (simp looks) (simp (looks, wanted_results, part_of) first-one) (rw which-inputs (omega arith), tt)

four-ports : ArePortsRight chosen (place four four-home) 0
four-ports = end-right chosen four four-home 0 (literal (codes "4") 0 1 1 ∷ []) (simp looks) (simp (looks, wanted_results, part_of, most_results, results, width) first-one) (tt, tt)

five-ports : ArePortsRight chosen (place five five-home) 0
five-ports = end-right chosen five five-home 0 (literal (codes "5") 0 1 1 ∷ []) (simp looks) (simp (looks, wanted_results, part_of, most_results, results, width) first-one) (tt, tt)

main-at-0 : ArePortsRight chosen (place main (Function 0)) 0
main-at-0 = end-right chosen main (Function 0) 0 (edge 1 1 0 1 1 ∷ []) (simp looks) (simp (looks, wanted_results) first-one) ((choice, main-choice, choice-output), tt)

main-at-1 : ArePortsRight chosen (place main (Function 0)) 1
main-at-1 =
    end-right chosen main (Function 0) 1 (edge 0 1 1 1 1 ∷ []) (simp looks)
    (rw main-choice (rw out-node (record { parts = rw out-node (omega arith); ports = simp looks (1, omega arith, first-one); list = rw out-node refl })))
    (rw main-inputs (omega arith), tt)

ports-hold : PortsHold chosen
ports-hold = at-places (λ p. All (ArePortsRight chosen p) (ends p.graph)) (
  at-ends main (ArePortsRight chosen (place main (Function 0))) _ main-ends (main-at-0, (main-at-1, (main-at-1, (main-at-0, tt)))),
  (
    at-ends which (ArePortsRight chosen (place which which-home)) _ which-ends (which-ports, (which-ports, tt)),
    (
      at-ends four (ArePortsRight chosen (place four four-home)) _ four-ends (four-ports, (four-ports, tt)),
      (at-ends five (ArePortsRight chosen (place five five-home)) _ five-ends (five-ports, (five-ports, tt)), tt),
    ),
  ),
)

-- ---- types

abbrev int : Sort
int = Plain ty.Int

which-types : AreTypesRight chosen (place which which-home) 0
which-types =
    end-typed chosen which which-home 0 (edge 0 1 0 1 1 ∷ []) (simp looks) (simp looks tt)
    (edge-typed chosen which which-home (edge 0 1 0 1 1) int refl (simp (looks, part_of) refl) (simp (looks, part_of, width) refl), tt)
    (tt, tt)

four-types : AreTypesRight chosen (place four four-home) 0
four-types =
    end-typed chosen four four-home 0 (literal (codes "4") 0 1 1 ∷ []) (simp looks) (simp looks tt)
    (edge-typed chosen four four-home (literal (codes "4") 0 1 1) int refl (simp (looks, part_of, result_of) ((ty.Int, refl), refl)) tt, tt)
    (tt, tt)

five-types : AreTypesRight chosen (place five five-home) 0
five-types =
    end-typed chosen five five-home 0 (literal (codes "5") 0 1 1 ∷ []) (simp looks) (simp looks tt)
    (edge-typed chosen five five-home (literal (codes "5") 0 1 1) int refl (simp (looks, part_of, result_of) ((ty.Int, refl), refl)) tt, tt)
    (tt, tt)

main-types-0 : AreTypesRight chosen (place main (Function 0)) 0
main-types-0 =
    end-typed chosen main (Function 0) 0 (edge 1 1 0 1 1 ∷ []) (simp looks) (simp looks (ty.Int ∷ [], ty.Int ∷ [], refl))
    (edge-typed chosen main (Function 0) (edge 1 1 0 1 1) int refl (simp looks (ty.Int, refl, refl)) (simp (looks, result_of) refl), tt)
    (agrees chosen main 0 1 1 (edge 1 1 0 1 1 ∷ []) (simp (looks, edges_from)) (refl, tt), tt)

main-types-1 : AreTypesRight chosen (place main (Function 0)) 1
main-types-1 =
    end-typed chosen main (Function 0) 1 (edge 0 1 1 1 1 ∷ []) (simp looks) (simp looks tt)
    (edge-typed chosen main (Function 0) (edge 0 1 1 1 1) int refl (simp looks (ty.Int, refl)) (simp looks (ty.Int, refl, refl)), tt)
    (tt, tt)

types-hold : TypesHold chosen
types-hold = at-places (λ p. All (AreTypesRight chosen p) (ends p.graph)) (
  at-ends main (AreTypesRight chosen (place main (Function 0))) _ main-ends (main-types-0, (main-types-1, (main-types-1, (main-types-0, tt)))),
  (
    at-ends which (AreTypesRight chosen (place which which-home)) _ which-ends (which-types, (which-types, tt)),
    (
      at-ends four (AreTypesRight chosen (place four four-home)) _ four-ends (four-types, (four-types, tt)),
      (at-ends five (AreTypesRight chosen (place five five-home)) _ five-ends (five-types, (five-types, tt)), tt),
    ),
  ),
)

-- ---- no edge leads from a node to a node

abbrev Falls : Edge → Type 0
Falls e = (l : ℕ) → IsFrom l e.from → e.node ≢ 0 → e.node < l

feeds-fall : (g : Graph) → All Falls (out-Graph g).edges → {l m : ℕ} → Feeds g l m → m < l
feeds-fall g h {l = l} {m = m} f =
    let lt = All-contains Falls (out-Graph g).edges f.edge h f.there l f.source (λ e. f.no_boundary (subst (λ n. n ≡ 0) f.target e)) in
    subst (λ n. n < l) f.target lt

reaches-fall : (g : Graph) → All Falls (out-Graph g).edges → {l m : ℕ} → Reaches g l m → m < l
reaches-fall g h (by_edge f) = feeds-fall g h f
reaches-fall g h (path f r) = let a = feeds-fall g h f in let b = reaches-fall g h r in omega (arith, a, b)

ordered : (g : Graph) (home : Home) → All Falls (out-Graph g).edges → All (IsOrdered (place g home)) (ends g)
ordered g home h = λ k d lt r. let a = reaches-fall g h r in absurd (omega (arith, a))

acyclic : IsAcyclic chosen
acyclic = at-places (λ p. All (IsOrdered p) (ends p.graph)) (
  ordered main (Function 0) (edges-all Falls _ _ _ _ _ _ ((λ l f ne. absurd f), ((λ l f ne. absurd (ne refl)), tt))),
  (
    ordered which which-home (edges-all Falls _ _ _ _ _ _ ((λ l f ne. absurd f), tt)),
    (
      ordered four four-home (edges-all Falls _ _ _ _ _ _ ((λ l f ne. absurd f), tt)),
      (ordered five five-home (edges-all Falls _ _ _ _ _ _ ((λ l f ne. absurd f), tt)), tt),
    ),
  ),
)

pub ready : IsReady chosen
ready = record { formed = formed; ports = ports-hold; types = types-hold; acyclic = acyclic }
