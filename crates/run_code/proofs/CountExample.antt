-- The code of a loop whose test comes first, and which wants its last value:
--
--     f n = for initial x := 1 while x < n repeat x := old x + 1 returns value of x
--
-- The body stands before the test and goes on into it; the loop's beginning leads to the test.
use Rattle.std.proofs.Common.{◌+◌, List, [], ◌∷◌, get_or, inl, inr, refl, sym, subst, arith, true, false}
use Rattle.ordered_meaning.specs.Scalar2.TheVariants as two
use Rattle.ordered_meaning.specs.Simple.TheVariants as simple
use Rattle.ordered_meaning.specs.NodeValues as shape
use Rattle.ordered_meaning.specs.Forms as form
use Rattle.ordered_meaning.specs.Demand.{Port, Fixed, Plain, Whole, Vertex, Net, Network}
use Rattle.run_code.proofs.Collecting.{lasts}
use Rattle.run_code.proofs.Layouts.{one, net_at, nothing_weighs, positive, places_by, puts, function_places, function-puts, function-inputs, function-wants, no-nodes}
use Rattle.run_code.proofs.Refolding.{sum-none}
use Rattle.run_code.specs.Cells.{At, Lit, Operand}
use Rattle.run_code.specs.Coded.{AreCoded, FunctionIs, GraphIs, Layout, LoopIs, PartIs, a_loop, a_node, a_part, no_node, scalar, the_loop}
use Rattle.run_code.specs.Collections.{Collect, Final}
use Rattle.run_code.specs.Refolds.{Refolds, a_fold, none_refolded, one_refolded}
use Rattle.run_code.specs.Steps.{Count, Fire, Keep, Move, Return, Step, Test}

abbrev pub turns : Vertex
turns = record { label = 1; kind = Whole (form.LoopB 1 2 3 4 1); ins = Port 0 1 ∷ []; before = [] }

abbrev pub less : Vertex
less = record { label = 1; kind = Plain (simple.Two two.Less) shape.Plain; ins = Port 0 2 ∷ Port 0 1 ∷ []; before = [] }

abbrev pub next : Vertex
next = record { label = 1; kind = Plain (simple.Two two.Plus) shape.Plain; ins = Port 0 2 ∷ Fixed one ∷ []; before = [] }

abbrev pub last : Vertex
last = record { label = 1; kind = Plain simple.FinalValue shape.Plain; ins = Port 0 2 ∷ []; before = [] }

-- on what is collected
abbrev pub last' : Vertex
last' = record { label = 1; kind = Plain simple.NoOp shape.Plain; ins = Port 0 2 ∷ []; before = [] }

-- the function, and the loop's init, test, body and returns
abbrev pub nets : List Net
nets =
    record { nodes = turns ∷ []; results = Port 1 1 ∷ [] }
    ∷ record { nodes = []; results = Fixed one ∷ [] }
    ∷ record { nodes = less ∷ []; results = Port 1 1 ∷ [] }
    ∷ record { nodes = next ∷ []; results = Port 1 1 ∷ [] }
    ∷ record { nodes = last ∷ []; results = Port 1 1 ∷ [] }
    ∷ []

abbrev pub net : Network
net g = net_at nets g

abbrev pub cs : List Collect
cs = Final 0 ∷ []

abbrev pub steps : List Step
steps =
    Count ∷ Move [] 2 0 2 ∷ Keep true [] (Lit one ∷ []) 2 5
    ∷ Fire (simple.Two two.Plus) shape.Plain (At 2 ∷ Lit one ∷ []) 4 1 ∷ Keep false [] (At 4 ∷ []) 2 5
    ∷ Fire (simple.Two two.Less) shape.Plain (At 2 ∷ At 0 ∷ []) 4 1 ∷ Test (At 4) 3 7 1 1 9
    ∷ Fire simple.NoOp shape.Plain (At 2 ∷ []) 4 1 ∷ Move (At 4 ∷ []) 1 1 9 ∷ Return (At 1 ∷ []) ∷ []

abbrev pub laid : Layout
laid =
    record {
      weights = nothing_weighs;
      network = net;
      order = λ g. (net_at nets g).nodes;
      width = λ v. 1;
      code = λ pc. get_or steps pc Count;
      weigh = λ pc ks rs. 0;
      functions = 0 ∷ [];
      entry = λ f. 0;
      size = λ f. 5;
      params = λ f. 1;
    }

-- the argument and the loop value, which is the last one in the end
abbrev lent : List Operand
lent = At 0 ∷ At 2 ∷ []

testing : GraphIs laid 5 (At 0 ∷ At 2 ∷ []) 2 5 6 4 (At 4 ∷ [])
testing =
    a_part lent 2 (less ∷ []) (net 2).results 5 6 4 (places_by lent 4) (λ p. refl) ((positive 0, (λ p k. k), tt, tt), (inl (refl, 0, omega arith, refl), tt))
    (a_node 2 (places_by lent 4) less [] 5 6 6 4 5 (puts lent 4 0) (omega arith) (scalar (At 2 ∷ At 0 ∷ []) (simple.Two two.Less) shape.Plain (λ ks rs. 0) 1 5 4 refl (λ ks rs. refl)) (no_node 2 (places_by lent 4) 6 5))
    (At 4 ∷ []) refl

turning : GraphIs laid 5 (At 0 ∷ At 2 ∷ []) 3 3 4 4 (At 4 ∷ [])
turning =
    a_part lent 3 (next ∷ []) (net 3).results 3 4 4 (places_by lent 4) (λ p. refl) ((positive 0, (λ p k. k), tt, tt), (inl (refl, 0, omega arith, refl), tt))
    (a_node 3 (places_by lent 4) next [] 3 4 4 4 5 (puts lent 4 0) (omega arith) (scalar (At 2 ∷ Lit one ∷ []) (simple.Two two.Plus) shape.Plain (λ ks rs. 0) 1 3 4 refl (λ ks rs. refl)) (no_node 3 (places_by lent 4) 4 5))
    (At 4 ∷ []) refl

returning : PartIs laid 5 (At 0 ∷ At 2 ∷ []) 5 (last' ∷ []) (Port 1 1 ∷ []) 7 8 4 (At 4 ∷ [])
returning =
    a_part lent 5 (last' ∷ []) (Port 1 1 ∷ []) 7 8 4 (places_by lent 4) (λ p. refl) ((positive 0, (λ p k. k), tt, tt), (inl (refl, 0, omega arith, refl), tt))
    (a_node 5 (places_by lent 4) last' [] 7 8 8 4 5 (puts lent 4 0) (omega arith) (scalar (At 2 ∷ []) simple.NoOp shape.Plain (λ ks rs. 0) 1 7 4 refl (λ ks rs. refl)) (no_node 5 (places_by lent 4) 8 5))
    (At 4 ∷ []) refl

refolded : Refolds nothing_weighs 1 1 cs 4 5 (last ∷ []) (Port 1 1 ∷ []) (last' ∷ []) (Port 1 1 ∷ []) (λ row. 0 + 0)
refolded =
    record {
      nodes = one_refolded last last' [] [] (λ row. 0) (λ row. 0)
          (a_fold last last' 0 [] simple.FinalValue simple.NoOp shape.Plain shape.Plain (Final 0) 0 (λ row. 0) refl refl refl refl refl refl tt refl (λ ks rows e long. lasts shape.Plain shape.Plain 1 0 ks rows (omega arith) long e)
          (λ ks rs rows e long. let z = sum-none rows in omega (arith, z)))
          none_refolded;
      results = refl;
      plainly = tt;
      weighs = λ rs. refl;
    }

loops : LoopIs laid 5 false (At 0 ∷ []) 1 2 3 4 (λ ks rs. 0) 1 0 9 1
loops =
    the_loop false (At 0 ∷ []) 1 2 3 4 (λ ks rs. 0) 1 0 9 1 [] 2 1 1 2 5 3 4 5 6 7 8 5 (last' ∷ []) (Port 1 1 ∷ []) cs (λ row. 0 + 0) (At 4) (Lit one ∷ []) (At 4 ∷ []) (At 4 ∷ []) (At 0 ∷ []) (At 0 ∷ []) (At 0 ∷ []) (At 2 ∷ [])
    (record { counts = refl; copies = refl; weighs = λ ks rs. refl; fits = omega arith }) (no-nodes laid 5 (At 0 ∷ []) 1 2 2 (Lit one ∷ []) refl tt refl) refl (λ ks. refl) refl refl refl
    (inl refl, tt) testing (λ ks. refl) refl
    (inl refl, tt) turning refl (λ ks. refl) refl
    (omega arith, tt) refolded (λ row. refl)
    (inl refl, tt) (refl, tt) returning (record { moves = refl; weighs = λ ks. refl })

pub coded : AreCoded laid
coded f (inl e) = subst (FunctionIs laid) (sym e) (record {
  places = function_places 1;
  end = 9;
  ordered = ((positive 0, (λ p k. k), tt, tt), (inl (refl, 0, omega arith, refl), tt));
  inputs = function-inputs 1;
  wanting = function-wants 1;
  nodes = a_node 0 (function_places 1) turns [] 0 9 9 1 2 (function-puts 1 0) (omega arith) (a_loop false (At 0 ∷ []) 1 2 3 4 (λ ks rs. 0) 1 0 9 1 loops) (no_node 0 (function_places 1) 9 2);
  leaves = refl;
  weighs = λ ks. refl;
})
coded f (inr h) = absurd h
