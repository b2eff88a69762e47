-- The code of a function that calls itself, with a TagCase and, in one of its arms, a Select:
--
--     f (u, n) = tagcase x := u tag one : if n = 0 then x + n else f (u, x) tag two : n
--
-- The Select is given the union for its second arm, which copies it to a cell of its own.
use Rattle.std.proofs.Common.{List, [], ◌∷◌, get_or, inl, inr, refl, sym, subst, arith, true, false}
use Rattle.ordered_meaning.specs.Scalar2.TheVariants as two
use Rattle.ordered_meaning.specs.Simple.TheVariants as simple
use Rattle.ordered_meaning.specs.NodeValues as shape
use Rattle.ordered_meaning.specs.Forms as form
use Rattle.ordered_meaning.specs.Demand.{Port, Plain, Whole, Vertex, Net, Network}
use Rattle.run_code.proofs.Layouts.{net_at, nothing_weighs, positive, places_by, puts, function_places, function-puts, function-inputs, function-wants, no-nodes}
use Rattle.run_code.specs.Cells.{At, Operand}
use Rattle.run_code.specs.Coded.{AreCoded, ArmsAre, FunctionIs, GraphIs, Layout, NodeIs, a_call, a_node, a_part, a_select, a_tag_case, an_arm, no_arm, no_node, scalar}
use Rattle.run_code.specs.Steps.{Branch, Call, Count, Fire, Move, Return, Step, Tag}

abbrev pub cases : Vertex
cases = record { label = 1; kind = Whole (form.TagCase (1 ∷ 2 ∷ []) 1); ins = Port 0 1 ∷ Port 0 1 ∷ Port 0 2 ∷ []; before = [] }

abbrev pub choice : Vertex
choice = record { label = 1; kind = Whole (form.Select 3 (4 ∷ 5 ∷ []) 1); ins = Port 0 1 ∷ Port 0 2 ∷ Port 0 3 ∷ []; before = [] }

abbrev pub sum : Vertex
sum = record { label = 1; kind = Plain (simple.Two two.Plus) shape.Plain; ins = Port 0 1 ∷ Port 0 3 ∷ []; before = [] }

abbrev pub again : Vertex
again = record { label = 1; kind = Whole (form.Call 0); ins = Port 0 2 ∷ Port 0 1 ∷ []; before = [] }

-- the function, its arms, and the selector and alternatives of the first arm
abbrev pub nets : List Net
nets =
    record { nodes = cases ∷ []; results = Port 1 1 ∷ [] }
    ∷ record { nodes = choice ∷ []; results = Port 1 1 ∷ [] }
    ∷ record { nodes = []; results = Port 0 3 ∷ [] }
    ∷ record { nodes = []; results = Port 0 3 ∷ [] }
    ∷ record { nodes = sum ∷ []; results = Port 1 1 ∷ [] }
    ∷ record { nodes = again ∷ []; results = Port 1 1 ∷ [] }
    ∷ []

abbrev pub net : Network
net g = net_at nets g

abbrev pub steps : List Step
steps =
    Count ∷ Move [] 3 0 2 ∷ Tag (At 0) (3 ∷ 11 ∷ []) 3 2 1 12
    ∷ Count ∷ Move (At 0 ∷ []) 5 1 5 ∷ Branch (At 1) (6 ∷ 8 ∷ []) 4 1 10
    ∷ Fire (simple.Two two.Plus) shape.Plain (At 3 ∷ At 1 ∷ []) 6 1 ∷ Move (At 6 ∷ []) 4 1 10
    ∷ Call 0 7 (At 5 ∷ At 3 ∷ []) 6 1 ∷ Move (At 6 ∷ []) 4 1 10
    ∷ Move (At 4 ∷ []) 2 1 12 ∷ Move (At 1 ∷ []) 2 1 12 ∷ Return (At 2 ∷ []) ∷ []

abbrev pub laid : Layout
laid =
    record {
      weights = nothing_weighs;
      network = net;
      order = λ g. (net_at nets g).nodes;
      width = λ v. 1;
      code = λ pc. get_or steps pc Count;
      weigh = λ pc ks rs. 0;
      functions = 0 ∷ [];
      entry = λ f. 0;
      size = λ f. 7;
      params = λ f. 2;
    }

-- what is lent to the arms of the TagCase, and to those of the Select
abbrev lent : List Operand
lent = At 3 ∷ At 0 ∷ At 1 ∷ []

abbrev own : List Operand
own = At 3 ∷ At 5 ∷ At 1 ∷ []

adding : GraphIs laid 7 (At 3 ∷ At 5 ∷ At 1 ∷ []) 4 6 7 6 (At 6 ∷ [])
adding =
    a_part own 4 (sum ∷ []) (net 4).results 6 7 6 (places_by own 6) (λ p. refl) ((positive 0, (λ p k. k), tt, tt), (inl (refl, 0, omega arith, refl), tt))
    (a_node 4 (places_by own 6) sum [] 6 7 7 6 7 (puts own 6 0) (omega arith) (scalar (At 3 ∷ At 1 ∷ []) (simple.Two two.Plus) shape.Plain (λ ks rs. 0) 1 6 6 refl (λ ks rs. refl)) (no_node 4 (places_by own 6) 7 7))
    (At 6 ∷ []) refl

calling : GraphIs laid 7 (At 3 ∷ At 5 ∷ At 1 ∷ []) 5 8 9 6 (At 6 ∷ [])
calling =
    a_part own 5 (again ∷ []) (net 5).results 8 9 6 (places_by own 6) (λ p. refl) ((positive 0, (λ p k. k), tt, tt), (inl (refl, 0, omega arith, refl), tt))
    (a_node 5 (places_by own 6) again [] 8 9 9 6 7 (puts own 6 0) (omega arith) (a_call (At 5 ∷ At 3 ∷ []) 0 (λ ks rs. 0) 1 8 6 (inl refl) refl (omega arith) refl (λ ks rs. refl)) (no_node 5 (places_by own 6) 9 7))
    (At 6 ∷ []) refl

alternatives : ArmsAre laid 7 (At 3 ∷ At 5 ∷ At 1 ∷ []) (4 ∷ 5 ∷ []) (6 ∷ 8 ∷ []) 1 10 4 6
alternatives =
    an_arm own 4 (5 ∷ []) 6 7 (8 ∷ []) 1 10 4 6 (At 6 ∷ []) adding (record { moves = refl; weighs = λ ks. refl })
    (an_arm own 5 [] 8 9 [] 1 10 4 6 (At 6 ∷ []) calling (record { moves = refl; weighs = λ ks. refl }) (no_arm own 1 10 4 6))

selecting : NodeIs laid 7 (At 3 ∷ At 0 ∷ At 1 ∷ []) (Whole (form.Select 3 (4 ∷ 5 ∷ []) 1)) (λ ks rs. 0) 1 3 10 4
selecting =
    a_select lent 3 (4 ∷ 5 ∷ []) (λ ks rs. 0) 1 3 10 4 (false ∷ true ∷ false ∷ []) 6 5 (At 1) (6 ∷ 8 ∷ []) (record { counts = refl; copies = refl; weighs = λ ks rs. refl; fits = omega arith })
    (no-nodes laid 7 own 3 5 6 (At 1 ∷ []) refl tt refl) (λ ks. refl) refl alternatives

first-arm : GraphIs laid 7 (At 3 ∷ At 0 ∷ At 1 ∷ []) 1 3 10 4 (At 4 ∷ [])
first-arm =
    a_part lent 1 (choice ∷ []) (net 1).results 3 10 4 (places_by lent 4) (λ p. refl) ((positive 0, (λ p k. k), tt, tt), (inl (refl, 0, omega arith, refl), tt))
    (a_node 1 (places_by lent 4) choice [] 3 10 10 4 5 (puts lent 4 0) (omega arith) selecting (no_node 1 (places_by lent 4) 10 5)) (At 4 ∷ []) refl

tagging : NodeIs laid 7 (At 0 ∷ At 0 ∷ At 1 ∷ []) (Whole (form.TagCase (1 ∷ 2 ∷ []) 1)) (λ ks rs. 0) 1 0 12 2
tagging =
    a_tag_case (At 0 ∷ At 0 ∷ At 1 ∷ []) (1 ∷ 2 ∷ []) (λ ks rs. 0) 1 0 12 2 [] 3 (At 0) (At 0 ∷ At 1 ∷ []) (3 ∷ 11 ∷ []) (record { counts = refl; copies = refl; weighs = λ ks rs. refl; fits = omega arith }) refl refl
    (an_arm lent 1 (2 ∷ []) 3 10 (11 ∷ []) 1 12 2 4 (At 4 ∷ []) first-arm (record { moves = refl; weighs = λ ks. refl })
    (an_arm lent 2 [] 11 11 [] 1 12 2 4 (At 1 ∷ []) (no-nodes laid 7 lent 2 11 4 (At 1 ∷ []) refl tt refl) (record { moves = refl; weighs = λ ks. refl }) (no_arm lent 1 12 2 4)))

pub coded : AreCoded laid
coded f (inl e) = subst (FunctionIs laid) (sym e) (record {
  places = function_places 2;
  end = 12;
  ordered = ((positive 0, (λ p k. k), tt, tt), (inl (refl, 0, omega arith, refl), tt));
  inputs = function-inputs 2;
  wanting = function-wants 2;
  nodes = a_node 0 (function_places 2) cases [] 0 12 12 2 3 (function-puts 2 0) (omega arith) tagging (no_node 0 (function_places 2) 12 3);
  leaves = refl;
  weighs = λ ks. refl;
})
coded f (inr h) = absurd h
