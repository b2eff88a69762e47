-- The unit of the change is normal; its text.
use Rattle.std.proofs.Common.{◌≡◌, ◌∙◌, ◌++◌, ℕ, zero, suc, pos, true, false, List, [], ◌∷◌, map, Option, refl, sym, ap, subst, inl, inr, arith}
use Rattle.std.specs.Prelude.{codes}
use Rattle.std.specs.Fmt.{digits}
use Rattle.std.specs.List.{flat_map}
use Rattle.std.specs.List.Sorted.{IsStrictlyIncreasing}
use Rattle.flow_value.specs.declared.value.Val.TheVariants as val
use Rattle.if1_graph.specs.Spelling.{text_of}
use Rattle.if1_graph.specs.declared.line.Line.{Line}
use Rattle.if1_graph.specs.declared.line.Line.TheVariants as line
use Rattle.if1_graph.specs.declared.graph.Edge.{Edge}
use Rattle.if1_graph.specs.declared.graph.Graph.TheFolds.{fold-roll-Graph, fold-roll-Node}
use Rattle.if1_graph.specs.declared.graph.Graph.TheViews.{out-Graph}
use Rattle.if1_graph.specs.declared.graph.Node.{Node, out-Node}
use Rattle.if1_graph.specs.declared.row.Want.{Want}
use Rattle.if1_graph.specs.Formed.{want_at}
use Rattle.if1_graph.specs.Lines.{body, entry_line, edge_line, function_lines, lines_of, if1_text}
use Rattle.if1_graph.specs.Literals.{literal_text}
use Rattle.if1_graph.specs.Normal.{canonical_as, canonical_edge, IsNormalGraph, IsNormal}
use Rattle.if1_graph.specs.Types.{entry_at}
use Rattle.if1_graph.specs.Units.{label_of}
use Rattle.graph_examples.proofs.Outs.{out-int}
use Rattle.worked_units.specs.Chosen.{literal}
use Rattle.worked_units.specs.Changed.{types, edge, edges, main, changed, text}
use Rattle.worked_units.specs.WorkedUnits.{IsChangedWorked}
use Rattle.worked_units.proofs.Ends.{pairs-all}
use Rattle.worked_units.proofs.ChangedOuts.{out-main, out-node, opened, place, at-place, all-edges, all-nodes}
use Rattle.worked_units.proofs.ChangedReady.{wants-1-1, wants-1-2, wants-1-3, wants-2-2, wants-2-3, wants-3-2}
use Rattle.worked_units.proofs.ChangedOrder.{ready, sound}

-- ---- the canonical order

text-of-1 : literal_text (val.Int (pos 1)) ≡ codes "1"
unfolding digits
text-of-1 = rw out-int refl

text-of-3 : literal_text (val.Int (pos 3)) ≡ codes "3"
unfolding digits
text-of-3 = rw out-int refl

text-of-5 : literal_text (val.Int (pos 5)) ≡ codes "5"
unfolding digits
text-of-5 = rw out-int refl

text-of-9 : literal_text (val.Int (pos 9)) ≡ codes "9"
unfolding digits
text-of-9 = rw out-int refl

abbrev IsSpelled : Edge → Type 0
IsSpelled e = canonical_edge changed main e ≡ e

spelled : (t : List ℕ) (n p : ℕ) (w : Option Want) → want_at main n p ≡ w → canonical_as w (entry_at types 3) t ≡ t → IsSpelled (literal t n p 3)
spelled t n p w wants is = ap (λ s. literal s n p 3) (ap (λ w. canonical_as w (entry_at types 3) t) wants ∙ is)

rising-none : IsStrictlyIncreasing []
rising-none k lt = absurd (omega (arith, lt))

rising-one : (n : ℕ) → IsStrictlyIncreasing (n ∷ [])
rising-one n k lt = absurd (omega (arith, lt))

rising-labels : IsStrictlyIncreasing (1 ∷ 2 ∷ 3 ∷ [])
rising-labels zero lt = omega arith
rising-labels (suc zero) lt = omega arith
rising-labels (suc (suc k)) lt = absurd (omega (arith, lt))

abbrev HasRisingList : Node → Type 0
HasRisingList n = IsStrictlyIncreasing (out-Node n).before

labels : map label_of (out-Graph main).nodes ≡ 1 ∷ 2 ∷ 3 ∷ []
labels = simp opened

main-normal : IsNormalGraph changed place
main-normal =
    record {
      nodes = subst IsStrictlyIncreasing (sym labels) rising-labels;
      lists = all-nodes HasRisingList (rw out-node rising-none, (rw out-node (rising-one 3), (rw out-node rising-none, tt)));
      edges = rw out-main (pairs-all edges (
        (inl (refl, omega arith), (inl (refl, omega arith), (inr (omega arith, inl (omega arith)), (inr (omega arith, inl (omega arith)), (inr (omega arith, inl (omega arith)), (inr (omega arith, inl (omega arith)), (inr (omega arith, inl (omega arith)), (inr (omega arith, inr refl), (inr (omega arith, inr refl), tt))))))))),
        (
          (inl (refl, omega arith), (inr (omega arith, inl (omega arith)), (inr (omega arith, inl (omega arith)), (inr (omega arith, inl (omega arith)), (inr (omega arith, inl (omega arith)), (inr (omega arith, inl (omega arith)), (inr (omega arith, inr refl), (inr (omega arith, inr refl), tt)))))))),
          (
            (inr (omega arith, inl (omega arith)), (inr (omega arith, inl (omega arith)), (inr (omega arith, inl (omega arith)), (inr (omega arith, inl (omega arith)), (inr (omega arith, inl (omega arith)), (inr (omega arith, inr refl), (inr (omega arith, inr refl), tt))))))),
            (
              (inl (refl, omega arith), (inl (refl, omega arith), (inr (omega arith, inl (omega arith)), (inr (omega arith, inl (omega arith)), (inr (omega arith, inr refl), (inr (omega arith, inr refl), tt)))))),
              (
                (inl (refl, omega arith), (inr (omega arith, inl (omega arith)), (inr (omega arith, inl (omega arith)), (inr (omega arith, inr refl), (inr (omega arith, inr refl), tt))))),
                (
                  (inr (omega arith, inl (omega arith)), (inr (omega arith, inl (omega arith)), (inr (omega arith, inr refl), (inr (omega arith, inr refl), tt)))),
                  (
                    (inl (refl, omega arith), (inr (omega arith, inr refl), (inr (omega arith, inr refl), tt))),
                    (
                      (inr (omega arith, inr refl), (inr (omega arith, inr refl), tt)),
                      (
                        (inl (refl, omega arith), tt),
                        (tt, tt),
                      ),
                    ),
                  ),
                ),
              ),
            ),
          ),
        ),
      ));
      literals = all-edges IsSpelled (
        spelled (codes "1") 1 1 _ wants-1-1 text-of-1,
        (
          spelled (codes "3") 1 2 _ wants-1-2 text-of-3,
          (
            spelled (codes "5") 1 3 _ wants-1-3 text-of-5,
            (
              refl,
              (
                spelled (codes "1") 2 2 _ wants-2-2 text-of-1,
                (
                  spelled (codes "9") 2 3 _ wants-2-3 text-of-9,
                  (refl, (spelled (codes "1") 3 2 _ wants-3-2 text-of-1, (refl, (refl, tt)))),
                ),
              ),
            ),
          ),
        ),
      );
    }

normal : IsNormal changed
normal = at-place (IsNormalGraph changed) main-normal

-- ---- the text

abbrev a-literal : List ℕ → ℕ → ℕ → Line
a-literal t n p = edge_line (literal t n p 3)

abbrev main-lines : List Line
main-lines =
    line.Node 1 106 [] [] ∷
    a-literal (codes "1") 1 1 ∷
    a-literal (codes "3") 1 2 ∷
    a-literal (codes "5") 1 3 ∷
    line.Node 2 113 (3 ∷ []) [] ∷
    edge_line (edge true 1 1 2 1 5) ∷
    a-literal (codes "1") 2 2 ∷
    a-literal (codes "9") 2 3 ∷
    line.Node 3 105 [] [] ∷
    edge_line (edge false 1 1 3 1 5) ∷
    a-literal (codes "1") 3 2 ∷
    edge_line (edge false 3 1 0 1 3) ∷
    edge_line (edge true 2 1 0 2 5) ∷
    []

main-body : body main ≡ (codes "main", main-lines)
main-body = simp (fold-roll-Graph, fold-roll-Node)

main-function : function_lines main ≡ line.Function true 8 (codes "main") ∷ main-lines
main-function = simp (opened, main-body)

lines-are : lines_of changed ≡ map entry_line types ++ line.Function true 8 (codes "main") ∷ main-lines
lines-are = ap (λ ls. map entry_line types ++ (ls ++ [])) main-function

written : if1_text changed ≡ flat_map (λ l. l ++ 10 ∷ []) text
unfolding digits
written = ap text_of lines-are ∙ refl

pub changed-worked : IsChangedWorked
changed-worked = record { ready = ready; normal = normal; sound = sound; written = written }
