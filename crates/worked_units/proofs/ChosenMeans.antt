-- What the unit of the choice gives, costs, copies and writes.
use Rattle.std.proofs.Common.{◌≡◌, ◌∙◌, ◌+◌, ℕ, pos, Bool, true, false, ◌&&◌, List, [], ◌∷◌, map, Some, refl, sym, ap, subst, if◌then◌else◌, ◌==◌}
use Rattle.std.specs.Prelude.{find}
use Rattle.if1_graph.specs.declared.graph.Graph.TheViews.{out-Graph}
use Rattle.if1_graph.specs.Formed.{want_at}
use Rattle.if1_graph.specs.Ports.{most_results}
use Rattle.if1_graph.specs.Units.{number_of, width, results, Place}
use Rattle.graph_meaning.specs.Carried.{Carried}
use Rattle.graph_meaning.specs.Entered.{cost}
use Rattle.graph_meaning.specs.Forms.{Form, Select, Selecting, Chosen, next_of, first}
use Rattle.graph_meaning.specs.Demand.{Port, Fixed, Whole, Vertex, Net, Network, dem, tree}
use Rattle.graph_meaning.specs.Networks.{network, net_at, net_of, nothing, kind_of, vertex_of, source_at, sources, ins_of, part, number_or_zero}
use Rattle.graph_meaning.specs.Plain.{CarryAll, Outputs, Means, Costs, fixed, input, output, no_port, port, whole, leaves, enters}
use Rattle.graph_meaning.specs.Storage.{Weights, LaterAdds, GraphAdds, of_nodes, no_node, a_node, of_whole, of_graph, of_leaving, is_left, copying, writing, capped}
use Rattle.graph_meaning.specs.StorageUnits.{storage_of}
use Rattle.graph_meaning.proofs.PlainCosts.{one, is-one-cut, plain-costs}
use Rattle.graph_meaning.proofs.PlainValues.{plain-values}
use Rattle.graph_examples.specs.CompoundErrors.{vertex, net}
use Rattle.graph_examples.specs.Words.{int}
use Rattle.graph_examples.proofs.GreaterOuts.{looks, outs}
use Rattle.worked_units.specs.Chosen.{which, four, five, main, chosen}
use Rattle.worked_units.specs.WorkedUnits.{IsChosenAnswered}
use Rattle.worked_units.proofs.ChosenReady.{all-places, places-are}

-- ---- the graphs as they run

abbrev form : Form
form = Select 2 (3 ∷ 4 ∷ []) 1

abbrev choosing : Vertex
choosing = vertex 1 (Whole form) (Port 0 1 ∷ [])

abbrev main-net : Net
main-net = net (choosing ∷ []) (Port 1 1 ∷ [])

abbrev which-net : Net
which-net = net [] (Port 0 1 ∷ [])

abbrev four-net : Net
four-net = net [] (Fixed (int (pos 4)) ∷ [])

abbrev five-net : Net
five-net = net [] (Fixed (int (pos 5)) ∷ [])

ruleset runs = (looks, net_of, vertex_of, kind_of, ins_of, sources, source_at, want_at, width, results, part, number_or_zero, most_results)

main-is : net_of chosen main ≡ main-net
main-is = simp runs

which-is : net_of chosen which ≡ which-net
which-is = simp runs

four-is : net_of chosen four ≡ four-net
four-is = simp runs

five-is : net_of chosen five ≡ five-net
five-is = simp runs

-- ---- the graphs by their numbers

abbrev beside_net : ℕ → List (ℕ × Net) → Net
beside_net k [] = nothing
beside_net k (row ∷ rows) = if row.0 == k then row.1 else beside_net k rows

abbrev row_of_place : Place → ℕ × Net
row_of_place p = (number_of p, net_of chosen p.graph)

found : (k : ℕ) (ps : List Place) → net_at chosen (find (λ p. number_of p == k) ps) ≡ beside_net k (map row_of_place ps)
found k [] = refl
found k (p ∷ ps) = go (number_of p == k) (found k ps)
  where
    go : (b : Bool) → net_at chosen (find (λ p. number_of p == k) ps) ≡ beside_net k (map row_of_place ps) → net_at chosen (if b then Some p else find (λ q. number_of q == k) ps) ≡ (if b then net_of chosen p.graph else beside_net k (map row_of_place ps))
    go true e = refl
    go false e = e

number-main : (out-Graph main).number ≡ 1
number-main = simp outs

number-which : (out-Graph which).number ≡ 2
number-which = simp outs

number-four : (out-Graph four).number ≡ 3
number-four = simp outs

number-five : (out-Graph five).number ≡ 4
number-five = simp outs

abbrev table : List (ℕ × Net)
table = (1, main-net) ∷ (2, which-net) ∷ (3, four-net) ∷ (4, five-net) ∷ []

rows-are : map row_of_place all-places ≡ table
rows-are = λ i. (number-main i, main-is i) ∷ (number-which i, which-is i) ∷ (number-four i, four-is i) ∷ (number-five i, five-is i) ∷ []

abbrev nets : Network
nets k = beside_net k table

network-at : (k : ℕ) → network chosen k ≡ nets k
network-at k = ap (λ ps. net_at chosen (find (λ p. number_of p == k) ps)) places-are ∙ found k all-places ∙ ap (beside_net k) rows-are

network-is : network chosen ≡ nets
network-is = λ i k. network-at k i

-- ---- results and costs

gives : (ins rs : List Carried) → dem 3 nets 1 ins ≡ Some rs → (n : ℕ) × Means (network chosen) n 1 ins rs
gives ins rs e = (plain-values (network chosen) 1 ins rs).1 (3, ap (λ u. dem 3 u 1 ins) network-is ∙ e)

costs : (ins : List Carried) (c : ℕ) → cost (tree one 3 nets 1 ins) ≡ Some c → (n : ℕ) × Costs (network chosen) n 1 ins c
costs ins c e = (plain-costs one (network chosen) 1 ins c is-one-cut).1 (3, ap (λ u. cost (tree one 3 u 1 ins)) network-is ∙ e)

-- ---- copies and writes

module _ (w : Weights) (ks : List Carried) (r : Carried) where
  -- the sum over the results of the selector, of an alternative of this number, and of `main`
  abbrev inner-sum : ℕ → ℕ
  inner-sum k = (w.of_results 2 ks + 0) + ((w.of_results k (r ∷ []) + 0) + 0)

  abbrev whole-sum : ℕ → ℕ
  whole-sum k = w.of_results 1 (r ∷ []) + (w.of_node 1 choosing ks (r ∷ []) + (inner-sum k + 0))

abbrev ins-0 : List Carried
ins-0 = int (pos 0) ∷ []

abbrev outs-0 : List Carried
outs-0 = int (pos 4) ∷ []

abbrev ins-1 : List Carried
ins-1 = int (pos 1) ∷ []

abbrev outs-1 : List Carried
outs-1 = int (pos 5) ∷ []

adds-at-0 : (w : Weights) → GraphAdds nets w 0 1 (int (pos 0) ∷ []) (whole-sum w (int (pos 0) ∷ []) (int (pos 4)) 3)
adds-at-0 w =
    of_nodes 0 1 ins-0 outs-0 _ (port 0 1 ins-0 (Port 1 1) [] (int (pos 4)) [] (output 0 1 ins-0 0 1 choosing ins-0 outs-0 refl carried outs-are) (no_port 0 1 ins-0))
    (a_node 0 1 ins-0 choosing [] ins-0 outs-0 (inner-sum w ins-0 (int (pos 4)) 3) 0 carried outs-are
    (of_whole 0 form ins-0 (inner-sum w ins-0 (int (pos 4)) 3) later) (no_node 0 1 ins-0))
  where
    carried : CarryAll nets 0 1 ins-0 (Port 0 1 ∷ []) ins-0
    carried = port 0 1 ins-0 (Port 0 1) [] (int (pos 0)) [] (input 0 1 ins-0 1) (no_port 0 1 ins-0)

    selected : CarryAll nets 0 2 ins-0 (Port 0 1 ∷ []) ins-0
    selected = port 0 2 ins-0 (Port 0 1) [] (int (pos 0)) [] (input 0 2 ins-0 1) (no_port 0 2 ins-0)

    given : CarryAll nets 0 3 ins-0 (Fixed (int (pos 4)) ∷ []) outs-0
    given = port 0 3 ins-0 (Fixed (int (pos 4))) [] (int (pos 4)) [] (fixed 0 3 ins-0 (int (pos 4))) (no_port 0 3 ins-0)

    outs-are : Outputs nets 0 (Whole form) ins-0 outs-0
    outs-are = whole 0 form ins-0 outs-0 (enters 0 form ins-0 false 2 ins-0 Selecting ins-0 outs-0 refl selected (enters 0 form ins-0 false 3 ins-0 Chosen outs-0 outs-0 refl given (leaves 0 form ins-0 outs-0)))

    later : LaterAdds nets w 0 form ins-0 (next_of (first form ins-0)) (inner-sum w ins-0 (int (pos 4)) 3)
    later =
        of_graph 0 form ins-0 false 2 ins-0 Selecting ins-0 (w.of_results 2 ins-0 + 0) _ refl selected (of_nodes 0 2 ins-0 ins-0 0 selected (no_node 0 2 ins-0))
        (of_graph 0 form ins-0 false 3 ins-0 Chosen outs-0 (w.of_results 3 outs-0 + 0) 0 refl given (of_nodes 0 3 ins-0 outs-0 0 given (no_node 0 3 ins-0)) (of_leaving 0 form ins-0 outs-0))

adds-at-1 : (w : Weights) → GraphAdds nets w 0 1 (int (pos 1) ∷ []) (whole-sum w (int (pos 1) ∷ []) (int (pos 5)) 4)
adds-at-1 w =
    of_nodes 0 1 ins-1 outs-1 _ (port 0 1 ins-1 (Port 1 1) [] (int (pos 5)) [] (output 0 1 ins-1 0 1 choosing ins-1 outs-1 refl carried outs-are) (no_port 0 1 ins-1))
    (a_node 0 1 ins-1 choosing [] ins-1 outs-1 (inner-sum w ins-1 (int (pos 5)) 4) 0 carried outs-are
    (of_whole 0 form ins-1 (inner-sum w ins-1 (int (pos 5)) 4) later) (no_node 0 1 ins-1))
  where
    carried : CarryAll nets 0 1 ins-1 (Port 0 1 ∷ []) ins-1
    carried = port 0 1 ins-1 (Port 0 1) [] (int (pos 1)) [] (input 0 1 ins-1 1) (no_port 0 1 ins-1)

    selected : CarryAll nets 0 2 ins-1 (Port 0 1 ∷ []) ins-1
    selected = port 0 2 ins-1 (Port 0 1) [] (int (pos 1)) [] (input 0 2 ins-1 1) (no_port 0 2 ins-1)

    given : CarryAll nets 0 4 ins-1 (Fixed (int (pos 5)) ∷ []) outs-1
    given = port 0 4 ins-1 (Fixed (int (pos 5))) [] (int (pos 5)) [] (fixed 0 4 ins-1 (int (pos 5))) (no_port 0 4 ins-1)

    outs-are : Outputs nets 0 (Whole form) ins-1 outs-1
    outs-are = whole 0 form ins-1 outs-1 (enters 0 form ins-1 false 2 ins-1 Selecting ins-1 outs-1 refl selected (enters 0 form ins-1 false 4 ins-1 Chosen outs-1 outs-1 refl given (leaves 0 form ins-1 outs-1)))

    later : LaterAdds nets w 0 form ins-1 (next_of (first form ins-1)) (inner-sum w ins-1 (int (pos 5)) 4)
    later =
        of_graph 0 form ins-1 false 2 ins-1 Selecting ins-1 (w.of_results 2 ins-1 + 0) _ refl selected (of_nodes 0 2 ins-1 ins-1 0 selected (no_node 0 2 ins-1))
        (of_graph 0 form ins-1 false 4 ins-1 Chosen outs-1 (w.of_results 4 outs-1 + 0) 0 refl given (of_nodes 0 4 ins-1 outs-1 0 given (no_node 0 4 ins-1)) (of_leaving 0 form ins-1 outs-1))

-- no edge carries an aggregate
main-left : is_left (storage_of chosen) 1 0 1 ≡ false
main-left = simp outs

node-left : is_left (storage_of chosen) 1 1 1 ≡ false
node-left = simp outs

which-left : is_left (storage_of chosen) 2 0 1 ≡ false
which-left = simp outs

four-left : is_left (storage_of chosen) 3 0 1 ≡ false
four-left = simp outs

five-left : is_left (storage_of chosen) 4 0 1 ≡ false
five-left = simp outs

and-false : (b : Bool) → (b && false) ≡ false
and-false true = refl
and-false false = refl

copied-at-0 : whole-sum (copying (storage_of chosen)) (int (pos 0) ∷ []) (int (pos 4)) 3 ≡ 0
copied-at-0 = simp (main-left, node-left, which-left, four-left, and-false)

copied-at-1 : whole-sum (copying (storage_of chosen)) (int (pos 1) ∷ []) (int (pos 5)) 4 ≡ 0
copied-at-1 = simp (main-left, node-left, which-left, five-left, and-false)

in-unit : (w : Weights) (ins : List Carried) (c : ℕ) → GraphAdds nets w 0 1 ins c → GraphAdds (network chosen) w 0 1 ins c
in-unit w ins c h = subst (λ u. GraphAdds u w 0 1 ins c) (sym network-is) h

pub chosen-answered : IsChosenAnswered
chosen-answered =
    record {
      of_0 =
          record {
            gives = gives _ _ refl;
            costs = costs _ _ refl;
            copied = (0, (_, in-unit (copying (storage_of chosen)) _ _ (adds-at-0 (copying (storage_of chosen))), ap capped (sym copied-at-0)));
            written = (0, (_, in-unit (writing (storage_of chosen)) _ _ (adds-at-0 (writing (storage_of chosen))), refl));
          };
      of_1 =
          record {
            gives = gives _ _ refl;
            costs = costs _ _ refl;
            copied = (0, (_, in-unit (copying (storage_of chosen)) _ _ (adds-at-1 (copying (storage_of chosen))), ap capped (sym copied-at-1)));
            written = (0, (_, in-unit (writing (storage_of chosen)) _ _ (adds-at-1 (writing (storage_of chosen))), refl));
          };
    }
