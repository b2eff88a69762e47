-- What the example gives and costs.
use Rattle.std.proofs.Common.{◌≡◌, ◌∙◌, ℕ, ℤ, ◌+ℤ◌, Bool, true, false, List, [], ◌∷◌, map, Some, refl, ap, append-nil, if◌then◌else◌, ◌==◌}
use Rattle.std.specs.Prelude.{find, All}
use Rattle.std.specs.Int.{int_max}
use Rattle.std.specs.Ordering.{int_eq}
use Rattle.flow_value.specs.Scalar.{fitted}
use Rattle.flow_value.specs.declared.operation.Scalar1.TheVariants as one
use Rattle.flow_value.specs.declared.operation.Scalar2.TheVariants as two
use Rattle.flow_value.specs.declared.value.Val.{Val}
use Rattle.flow_value.specs.declared.value.Val.TheVariants as val
use Rattle.if1_graph.specs.declared.graph.Graph.TheViews.{out-Graph}
use Rattle.if1_graph.specs.declared.graph.Node.{Node, out-Node}
use Rattle.if1_graph.specs.declared.op.Simple.TheVariants.{One, Two}
use Rattle.if1_graph.specs.Formed.{want_at}
use Rattle.if1_graph.specs.Ports.{most_results}
use Rattle.if1_graph.specs.Units.{number_of, width, results, Place}
use Rattle.graph_meaning.specs.Carried.{Carried, Value}
use Rattle.graph_meaning.specs.Forms.{Select}
use Rattle.graph_meaning.specs.Entered.{cost}
use Rattle.graph_meaning.specs.Demand.{Port, Whole, Net, Network, Cut, IsCut, flatten, dem, tree}
use Rattle.graph_meaning.specs.Networks.{network, net_at, net_of, nothing, kind_of, vertex_of, source_at, sources, ins_of, part, number_or_zero}
use Rattle.if1_marks.specs.Orders.{AreOrdersRight, HasNoLists}
use Rattle.graph_meaning.proofs.Ended.{units-one-end}
use Rattle.graph_meaning.proofs.PlainCosts.{plain-costs}
use Rattle.graph_meaning.proofs.PlainValues.{plain-values}
use Rattle.if1_marks.proofs.Unlisted.{right-without-lists}
use Rattle.graph_examples.specs.CompoundErrors.{vertex, node, net}
use Rattle.graph_examples.specs.ExampleUnit.{MainGives, MainCosts, IsUnitRight, IsMainRight, HasMainOneEnd}
use Rattle.graph_examples.specs.Greater.{simple, which, otherwise, equal, main, greater}
use Rattle.graph_examples.specs.Words.{int}
use Rattle.graph_examples.proofs.GreaterFormed.{nodes-all, at-places}
use Rattle.graph_examples.proofs.GreaterOuts.{looks, outs, out-node, all-places, places-are}
use Rattle.graph_examples.proofs.GreaterReady.{ready, normal}
use Rattle.graph_examples.proofs.GreaterText.{written}

-- ---- no node has an ordering list

abbrev HasNone : Node → Type 0
HasNone n = (out-Node n).before ≡ []

simple-none : (l op : ℕ) → HasNone (simple l op)
simple-none l op = rw out-node refl

no-lists : HasNoLists greater
no-lists = at-places (λ p. All HasNone (out-Graph p.graph).nodes) (
  nodes-all HasNone _ _ _ _ _ _ (rw out-node refl, tt),
  (
    nodes-all HasNone _ _ _ _ _ _ (simple-none 1 129, (simple-none 2 124, tt)),
    (
      nodes-all HasNone _ _ _ _ _ _ (simple-none 1 133, tt),
      (nodes-all HasNone _ _ _ _ _ _ (simple-none 1 141, tt), tt),
    ),
  ),
)

orders : AreOrdersRight greater
orders = right-without-lists greater ready no-lists

pub unit-right : IsUnitRight
unit-right = record { ready = ready; normal = normal; ordered = orders; written = written }

pub main-one-end : HasMainOneEnd
main-one-end cut ins limit is_cut = units-one-end cut greater 1 ins limit is_cut ready orders

-- ---- the graphs as they run

abbrev main-net : Net
main-net = net (vertex 2 (Whole (Select 2 (3 ∷ 4 ∷ []) 1)) (Port 0 1 ∷ Port 0 2 ∷ []) ∷ []) (Port 2 1 ∷ [])

abbrev which-net : Net
which-net = net (node 1 (One one.Int) (Port 2 1 ∷ []) ∷ node 2 (Two two.Equal) (Port 0 1 ∷ Port 0 2 ∷ []) ∷ []) (Port 1 1 ∷ [])

abbrev otherwise-net : Net
otherwise-net = net (node 1 (Two two.Max) (Port 0 1 ∷ Port 0 2 ∷ []) ∷ []) (Port 1 1 ∷ [])

abbrev equal-net : Net
equal-net = net (node 1 (Two two.Plus) (Port 0 1 ∷ Port 0 2 ∷ []) ∷ []) (Port 1 1 ∷ [])

ruleset runs = (looks, net_of, vertex_of, kind_of, ins_of, sources, source_at, want_at, width, results, part, number_or_zero, most_results)

main-is : net_of greater main ≡ main-net
main-is = simp runs

which-is : net_of greater which ≡ which-net
which-is = simp runs

otherwise-is : net_of greater otherwise ≡ otherwise-net
otherwise-is = simp runs

equal-is : net_of greater equal ≡ equal-net
equal-is = simp runs

-- ---- the graphs by their numbers

abbrev beside_net : ℕ → List (ℕ × Net) → Net
beside_net k [] = nothing
beside_net k (row ∷ rows) = if row.0 == k then row.1 else beside_net k rows

abbrev row_of_place : Place → ℕ × Net
row_of_place p = (number_of p, net_of greater p.graph)

abbrev IsFound : ℕ → List Place → Type 0
IsFound k ps = net_at greater (find (λ p. number_of p == k) ps) ≡ beside_net k (map row_of_place ps)

found : (k : ℕ) (ps : List Place) → IsFound k ps
found k [] = refl
found k (p ∷ ps) = go (number_of p == k) (found k ps)
  where
    go : (b : Bool) → IsFound k ps → net_at greater (if b then Some p else find (λ q. number_of q == k) ps) ≡ (if b then net_of greater p.graph else beside_net k (map row_of_place ps))
    go true e = refl
    go false e = e

abbrev table : List (ℕ × Net)
table = (1, main-net) ∷ (2, which-net) ∷ (3, otherwise-net) ∷ (4, equal-net) ∷ []

number-main : (out-Graph main).number ≡ 1
number-main = simp outs

number-which : (out-Graph which).number ≡ 2
number-which = simp outs

number-otherwise : (out-Graph otherwise).number ≡ 3
number-otherwise = simp outs

number-equal : (out-Graph equal).number ≡ 4
number-equal = simp outs

rows-are : map row_of_place all-places ≡ table
rows-are = λ i. (number-main i, main-is i) ∷ (number-which i, which-is i) ∷ (number-otherwise i, otherwise-is i) ∷ (number-equal i, equal-is i) ∷ []

abbrev nets : Network
nets k = beside_net k table

network-at : (k : ℕ) → network greater k ≡ nets k
network-at k = ap (λ ps. net_at greater (find (λ p. number_of p == k) ps)) places-are ∙ found k all-places ∙ ap (beside_net k) rows-are

network-is : network greater ≡ nets
network-is = λ i k. network-at k i

-- ---- results and costs

-- all iterations in one slice
abbrev together : Cut
together [] = []
together (r ∷ rs) = (r ∷ rs) ∷ []

joins : (rows : List (List Carried)) → flatten (together rows) ≡ rows
joins [] = refl
joins (r ∷ rs) = ap (λ x. r ∷ x) (append-nil rs)

is-cut : IsCut together
is-cut = record { joins = joins; some = λ r rs. (r ∷ rs, [], refl) }

gives : (a b : Carried) (v : Val) → dem 3 nets 1 (a ∷ b ∷ []) ≡ Some (Value v ∷ []) → MainGives a b v
gives a b v e = (plain-values (network greater) 1 (a ∷ b ∷ []) (Value v ∷ [])).1 (3, ap (λ u. dem 3 u 1 (a ∷ b ∷ [])) network-is ∙ e)

costs : (a b : Carried) (c : ℕ) → cost (tree together 3 nets 1 (a ∷ b ∷ [])) ≡ Some c → MainCosts a b c
costs a b c e = (plain-costs together (network greater) 1 (a ∷ b ∷ []) c is-cut).1 (3, ap (λ u. cost (tree together 3 u 1 (a ∷ b ∷ []))) network-is ∙ e)

-- the cost by whether the two are equal
cost-by : (m n : ℤ) (b : Bool) → int_eq m n ≡ b → cost (tree together 3 nets 1 (int m ∷ int n ∷ [])) ≡ Some 4
cost-by m n true e = rw e
cost-by m n false e = rw e

pub main-right : IsMainRight
main-right =
    record {
      differ = λ m n e. gives (int m) (int n) (val.Int (int_max m n)) (rw e);
      same = λ m n e. gives (int m) (int n) (fitted (m +ℤ n)) (rw e);
      of_5_and_7 = gives _ _ _ refl;
      of_6_and_6 = gives _ _ _ refl;
      too_great = gives _ _ _ refl;
      first_error = λ c n. gives _ _ _ refl;
      both_errors = λ c d. gives _ _ _ refl;
      cost = λ m n. costs (int m) (int n) 4 (cost-by m n (int_eq m n) refl);
      cost_of_errors = λ c d. costs _ _ _ refl;
    }
