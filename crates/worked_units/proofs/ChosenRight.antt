-- The unit of the choice is normal and its marks, of which there are none, are sound; its text.
use Rattle.std.proofs.Common.{◌≡◌, ◌∙◌, ◌++◌, ℕ, pos, true, false, List, [], ◌∷◌, map, refl, sym, ap, subst, inr, arith}
use Rattle.std.specs.Prelude.{All, codes}
use Rattle.std.specs.Fmt.{digits}
use Rattle.std.specs.List.{flat_map}
use Rattle.std.specs.List.Sorted.{IsStrictlyIncreasing}
use Rattle.flow_value.specs.declared.value.Val.TheVariants as val
use Rattle.if1_graph.specs.Spelling.{compound_words, text_of}
use Rattle.if1_graph.specs.declared.line.Line.{Line}
use Rattle.if1_graph.specs.declared.line.Line.TheVariants as line
use Rattle.if1_graph.specs.declared.graph.Edge.{Edge}
use Rattle.if1_graph.specs.declared.graph.Graph.{Graph}
use Rattle.if1_graph.specs.declared.graph.Graph.TheFolds.{fold-Node, fold-roll-Graph, fold-roll-Node}
use Rattle.if1_graph.specs.declared.graph.Graph.TheViews.{out-Graph}
use Rattle.if1_graph.specs.declared.graph.Node.{Node, out-Node}
use Rattle.if1_graph.specs.Lines.{Body, Head, graph_step, node_step, body, entry_line, edge_line, function_lines, lines_of, if1_text}
use Rattle.if1_graph.specs.Literals.{literal_text}
use Rattle.if1_graph.specs.Normal.{canonical_as, canonical_edge, IsNormalGraph, IsNormal}
use Rattle.if1_graph.specs.Types.{entry_at}
use Rattle.if1_graph.specs.Units.{label_of, Function}
use Rattle.if1_marks.specs.Orders.{HasNoLists, HasNoTakers}
use Rattle.if1_marks.specs.Sound.{IsSound}
use Rattle.if1_marks.proofs.Unlisted.{unmarked-sound}
use Rattle.graph_examples.specs.Greater.{edge}
use Rattle.graph_examples.proofs.GreaterFormed.{nodes-all, edges-all}
use Rattle.graph_examples.proofs.GreaterOuts.{outs, out-graph, out-node, place}
use Rattle.graph_examples.proofs.Outs.{out-int}
use Rattle.worked_units.specs.Chosen.{types, literal, which, four, five, choice, main, chosen, text}
use Rattle.worked_units.specs.WorkedUnits.{IsChosenWorked}
use Rattle.worked_units.proofs.Ends.{pairs-all}
use Rattle.worked_units.proofs.ChosenReady.{at-places, which-home, four-home, five-home, four-wants, five-wants, ready}

-- ---- the canonical order

text-of-4 : literal_text (val.Int (pos 4)) ≡ codes "4"
unfolding digits
text-of-4 = rw out-int refl

text-of-5 : literal_text (val.Int (pos 5)) ≡ codes "5"
unfolding digits
text-of-5 = rw out-int refl

abbrev IsSpelled : Graph → Edge → Type 0
IsSpelled g e = canonical_edge chosen g e ≡ e

four-spelled : IsSpelled four (literal (codes "4") 0 1 1)
four-spelled = ap (λ t. literal t 0 1 1) (ap (λ w. canonical_as w (entry_at types 1) (codes "4")) four-wants ∙ text-of-4)

five-spelled : IsSpelled five (literal (codes "5") 0 1 1)
five-spelled = ap (λ t. literal t 0 1 1) (ap (λ w. canonical_as w (entry_at types 1) (codes "5")) five-wants ∙ text-of-5)

rising-none : IsStrictlyIncreasing []
rising-none k lt = absurd (omega (arith, lt))

rising-one : (n : ℕ) → IsStrictlyIncreasing (n ∷ [])
rising-one n k lt = absurd (omega (arith, lt))

abbrev HasRisingList : Node → Type 0
HasRisingList n = IsStrictlyIncreasing (out-Node n).before

labels-rise : (g : Graph) (ls : List ℕ) → map label_of (out-Graph g).nodes ≡ ls → IsStrictlyIncreasing ls → IsStrictlyIncreasing (map label_of (out-Graph g).nodes)
labels-rise g ls e h = subst IsStrictlyIncreasing (sym e) h

main-normal : IsNormalGraph chosen (place main (Function 0))
main-normal =
    record {
      nodes = labels-rise main (1 ∷ []) (simp outs) (rising-one 1);
      lists = nodes-all HasRisingList _ _ _ _ _ _ (rw out-node rising-none, tt);
      edges = rw out-graph (pairs-all (edge 0 1 1 1 1 ∷ edge 1 1 0 1 1 ∷ []) ((inr (omega arith, inr refl), tt), (tt, tt)));
      literals = edges-all (IsSpelled main) _ _ _ _ _ _ (refl, (refl, tt));
    }

which-normal : IsNormalGraph chosen (place which which-home)
which-normal =
    record {
      nodes = labels-rise which [] (simp outs) rising-none;
      lists = nodes-all HasRisingList _ _ _ _ _ _ tt;
      edges = rw out-graph (pairs-all (edge 0 1 0 1 1 ∷ []) (tt, tt));
      literals = edges-all (IsSpelled which) _ _ _ _ _ _ (refl, tt);
    }

four-normal : IsNormalGraph chosen (place four four-home)
four-normal =
    record {
      nodes = labels-rise four [] (simp outs) rising-none;
      lists = nodes-all HasRisingList _ _ _ _ _ _ tt;
      edges = rw out-graph (pairs-all (literal (codes "4") 0 1 1 ∷ []) (tt, tt));
      literals = edges-all (IsSpelled four) _ _ _ _ _ _ (four-spelled, tt);
    }

five-normal : IsNormalGraph chosen (place five five-home)
five-normal =
    record {
      nodes = labels-rise five [] (simp outs) rising-none;
      lists = nodes-all HasRisingList _ _ _ _ _ _ tt;
      edges = rw out-graph (pairs-all (literal (codes "5") 0 1 1 ∷ []) (tt, tt));
      literals = edges-all (IsSpelled five) _ _ _ _ _ _ (five-spelled, tt);
    }

normal : IsNormal chosen
normal = at-places (IsNormalGraph chosen) (main-normal, (which-normal, (four-normal, (five-normal, tt))))

-- ---- no marks

abbrev Leaves : Edge → Type 0
Leaves e = e.takes ≡ false

no-takers : HasNoTakers chosen
no-takers = at-places (λ p. All Leaves (out-Graph p.graph).edges) (
  edges-all Leaves _ _ _ _ _ _ (refl, (refl, tt)),
  (edges-all Leaves _ _ _ _ _ _ (refl, tt), (edges-all Leaves _ _ _ _ _ _ (refl, tt), (edges-all Leaves _ _ _ _ _ _ (refl, tt), tt))),
)

abbrev HasNone : Node → Type 0
HasNone n = (out-Node n).before ≡ []

no-lists : HasNoLists chosen
no-lists = at-places (λ p. All HasNone (out-Graph p.graph).nodes) (
  nodes-all HasNone _ _ _ _ _ _ (rw out-node refl, tt),
  (nodes-all HasNone _ _ _ _ _ _ tt, (nodes-all HasNone _ _ _ _ _ _ tt, (nodes-all HasNone _ _ _ _ _ _ tt, tt))),
)

sound : IsSound chosen
sound = unmarked-sound chosen ready no-takers no-lists

-- ---- the text

abbrev e : ℕ → ℕ → ℕ → ℕ → ℕ → Line
e a p n q t = edge_line (edge a p n q t)

-- the Select, before what leads into it
abbrev part-lines : List Line
part-lines =
    line.Open (compound_words 1 1) ∷
    line.Subgraph [] ∷ e 0 1 0 1 1 ∷
    line.Subgraph [] ∷ edge_line (literal (codes "4") 0 1 1) ∷
    line.Subgraph [] ∷ edge_line (literal (codes "5") 0 1 1) ∷
    line.Close 1 1 3 (0 ∷ 1 ∷ 2 ∷ []) [] [] ∷ []

abbrev main-edges : List Edge
main-edges = edge 0 1 1 1 1 ∷ edge 1 1 0 1 1 ∷ []

abbrev main-lines : List Line
main-lines = part-lines ++ e 0 1 1 1 1 ∷ e 1 1 0 1 1 ∷ []

which-body : body which ≡ ([], e 0 1 0 1 1 ∷ [])
which-body = simp fold-roll-Graph

four-body : body four ≡ ([], edge_line (literal (codes "4") 0 1 1) ∷ [])
four-body = simp fold-roll-Graph

five-body : body five ≡ ([], edge_line (literal (codes "5") 0 1 1) ∷ [])
five-body = simp fold-roll-Graph

choice-head : fold-Node Body Head graph_step node_step choice ≡ (1, part-lines)
choice-head =
    fold-roll-Node Body Head graph_step node_step _
    ∙ (λ i. node_step (record { label = 1; op = 1; subs = which-body i ∷ four-body i ∷ five-body i ∷ []; assoc = 0 ∷ 1 ∷ 2 ∷ []; before = []; name = [] }))

main-body : body main ≡ (codes "main", main-lines)
main-body =
    fold-roll-Graph Body Head graph_step node_step _
    ∙ (λ i. graph_step (record { number = 1; exported = true; name = codes "main"; fun = 3; nodes = choice-head i ∷ []; edges = main-edges }))

main-function : function_lines main ≡ line.Function true 3 (codes "main") ∷ main-lines
main-function = simp (outs, main-body)

lines-are : lines_of chosen ≡ map entry_line types ++ line.Function true 3 (codes "main") ∷ main-lines
lines-are = ap (λ ls. map entry_line types ++ (ls ++ [])) main-function

written : if1_text chosen ≡ flat_map (λ l. l ++ 10 ∷ []) text
unfolding digits
written = ap text_of lines-are ∙ refl

pub chosen-worked : IsChosenWorked
chosen-worked = record { ready = ready; normal = normal; sound = sound; written = written }
