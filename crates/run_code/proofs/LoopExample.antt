-- The code of a loop with two values whose first turn comes before its first test. Its returns wants the last of the first values, and
-- gathers them where the second ones say so: neither multiple is there.
use Rattle.std.proofs.Common.{◌≡◌, ℕ, zero, suc, ◌+◌, ◌-◌, if◌then◌else◌, ltb, List, [], ◌∷◌, get_or, Some, inl, inr, refl, sym, ap, subst, arith, true, false}
use Rattle.ordered_meaning.specs.Simple.TheVariants as simple
use Rattle.ordered_meaning.specs.Carried.{Unfilled}
use Rattle.ordered_meaning.specs.NodeValues as shape
use Rattle.ordered_meaning.specs.Forms as form
use Rattle.ordered_meaning.specs.Demand.{Source, Port, Fixed, Kind, Plain, Whole, Vertex, Net, Network}
use Rattle.run_code.proofs.Layouts.{one, truth, net_at, nothing_weighs, positive, places_by, puts, function-inputs, function-wants, no-nodes}
use Rattle.run_code.proofs.Collecting.{lasts, nodes-same}
use Rattle.run_code.proofs.Refolding.{sum-none}
use Rattle.run_code.specs.Cells.{At, Lit, Operand}
use Rattle.run_code.specs.Coded.{AreCoded, FunctionIs, Layout, LoopIs, PartIs, Places, a_loop, a_node, a_part, no_node, scalar, the_loop}
use Rattle.run_code.specs.Collections.{Collect, Final, Sifts}
use Rattle.run_code.specs.Known.{Knows}
use Rattle.run_code.specs.Refolds.{Refolds, a_fold, none_refolded, one_refolded}
use Rattle.run_code.specs.Steps.{Count, Fire, Keep, Move, Return, Step, Test}

abbrev pub turns : Vertex
turns = record { label = 1; kind = Whole (form.LoopA 1 2 3 4 2); ins = Port 0 1 ∷ []; before = [] }

abbrev pub last : Vertex
last = record { label = 1; kind = Plain simple.FinalValue shape.Plain; ins = Port 0 2 ∷ []; before = [] }

abbrev pub gather : Vertex
gather = record { label = 2; kind = Plain simple.AGather shape.Plain; ins = Fixed one ∷ Port 0 2 ∷ Port 0 3 ∷ []; before = [] }

abbrev pub last' : Vertex
last' = record { label = 1; kind = Plain simple.NoOp shape.Plain; ins = Port 0 2 ∷ []; before = [] }

abbrev pub gather' : Vertex
gather' = record { label = 2; kind = Plain simple.AGather shape.Plain; ins = Fixed one ∷ Port 0 3 ∷ []; before = [] }

-- the function, and the loop's init, test, body and returns
abbrev pub nets : List Net
nets =
    record { nodes = turns ∷ []; results = Port 1 1 ∷ Port 1 2 ∷ [] }
    ∷ record { nodes = []; results = Fixed one ∷ Fixed (truth true) ∷ [] }
    ∷ record { nodes = []; results = Port 0 3 ∷ [] }
    ∷ record { nodes = []; results = Port 0 1 ∷ Fixed (truth false) ∷ [] }
    ∷ record { nodes = last ∷ gather ∷ []; results = Port 1 1 ∷ Port 2 1 ∷ [] }
    ∷ []

-- the returns, on what is collected
abbrev pub others : List Vertex
others = last' ∷ gather' ∷ []

abbrev pub wanted : List Source
wanted = Port 1 1 ∷ Port 2 1 ∷ []

abbrev pub net : Network
net g = net_at nets g

abbrev pub order : ℕ → List Vertex
order g = (net_at nets g).nodes

-- the loop has two outputs
abbrev pub width_of : Kind → ℕ
width_of (Plain row shape) = 1
width_of (Whole form) = 2

abbrev pub width : Vertex → ℕ
width v = width_of v.kind

abbrev pub cs : List Collect
cs = Final 0 ∷ Sifts 0 (Some 1) ∷ []

-- the last value is kept in the cell of its loop value alone
abbrev pub kept : List Collect
kept = Sifts 0 (Some 1) ∷ []

abbrev pub steps : List Step
steps =
    Count ∷ Move [] 3 0 2 ∷ Keep true kept (Lit one ∷ Lit (truth true) ∷ []) 3 3 ∷ Count ∷ Keep false kept (At 0 ∷ Lit (truth false) ∷ []) 3 5 ∷ Test (At 4) 4 6 1 2 9
    ∷ Fire simple.NoOp shape.Plain (At 3 ∷ []) 7 1 ∷ Fire simple.AGather shape.Plain (Lit one ∷ At 5 ∷ []) 8 1 ∷ Move (At 7 ∷ At 8 ∷ []) 1 2 9 ∷ Return (At 1 ∷ At 2 ∷ []) ∷ []

abbrev pub made : Layout
made =
    record {
      weights = nothing_weighs;
      network = net;
      order = order;
      width = width;
      code = λ pc. get_or steps pc Count;
      weigh = λ pc ks rs. 0;
      functions = 0 ∷ [];
      entry = λ f. 0;
      size = λ f. 9;
      params = λ f. 1;
    }

abbrev lent : List Operand
lent = At 0 ∷ At 3 ∷ At 5 ∷ []

not-one : (p : ℕ) → Knows ((1, 1) ∷ []) 2 p → ⊥
not-one p (inl k) = let e = k.0 in absurd (omega (arith, e))
not-one p (inr k) = k

returning : PartIs made 9 (At 0 ∷ At 3 ∷ At 5 ∷ []) 5 others wanted 6 8 7 (At 7 ∷ At 8 ∷ [])
returning =
    a_part lent 5 others wanted 6 8 7 (places_by lent 7) (λ p. refl) ((positive 0, (λ p k. k), tt, (positive 1, (λ p k. not-one p k), tt, tt)), (inr (inl (refl, 0, omega arith, refl)), (inl (refl, 0, omega arith, refl), tt)))
    (a_node 5 (places_by lent 7) last' (gather' ∷ []) 6 7 8 7 8 (puts lent 7 0) (omega arith) (scalar (At 3 ∷ []) simple.NoOp shape.Plain (λ ks rs. 0) 1 6 7 refl (λ ks rs. refl))
    (a_node 5 (places_by lent 7) gather' [] 7 8 8 8 9 (puts lent 7 1) (omega arith) (scalar (Lit one ∷ At 5 ∷ []) simple.AGather shape.Plain (λ ks rs. 0) 1 7 8 refl (λ ks rs. refl)) (no_node 5 (places_by lent 7) 8 9)))
    (At 7 ∷ At 8 ∷ []) refl

refolded : Refolds nothing_weighs 1 2 cs 4 5 (order 4) (net 4).results others wanted (λ row. 0 + (0 + 0))
refolded =
    record {
      nodes = one_refolded last last' (gather ∷ []) (gather' ∷ []) (λ row. 0) (λ row. 0 + 0)
          (a_fold last last' 0 [] simple.FinalValue simple.NoOp shape.Plain shape.Plain (Final 0) 0 (λ row. 0) refl refl refl refl refl refl tt refl (λ ks rows e long. lasts shape.Plain shape.Plain 2 0 ks rows (omega arith) long e)
          (λ ks rs rows e long. let z = sum-none rows in omega (arith, z)))
          (one_refolded gather gather' [] [] (λ row. 0) (λ row. 0)
          (a_fold gather gather' 1 (Fixed one ∷ []) simple.AGather simple.AGather shape.Plain shape.Plain (Sifts 0 (Some 1)) 1 (λ row. 0) refl refl refl refl refl refl tt refl (λ ks rows e long. (nodes-same 2 0 (Some 1) ks rows (omega arith, omega arith) long).0 shape.Plain e)
          (λ ks rs rows e long. let z = sum-none rows in omega (arith, z)))
          none_refolded);
      results = refl;
      plainly = tt;
      weighs = λ rs. refl;
    }

loops : LoopIs made 9 true (At 0 ∷ []) 1 2 3 4 (λ ks rs. 0) 2 0 9 1
loops =
    the_loop true (At 0 ∷ []) 1 2 3 4 (λ ks rs. 0) 2 0 9 1 [] 3 2 2 2 3 4 4 5 5 6 8 5 others wanted cs (λ row. 0 + (0 + 0)) (At 4) (Lit one ∷ Lit (truth true) ∷ []) (At 0 ∷ Lit (truth false) ∷ []) (At 7 ∷ At 8 ∷ []) (At 0 ∷ []) (At 0 ∷ []) (At 0 ∷ []) (At 3 ∷ At 5 ∷ [])
    (record { counts = refl; copies = refl; weighs = λ ks rs. refl; fits = omega arith }) (no-nodes made 9 (At 0 ∷ []) 1 2 3 (Lit one ∷ Lit (truth true) ∷ []) refl tt refl) refl (λ ks. refl) refl refl (refl, refl)
    (inl refl, tt) (no-nodes made 9 (At 0 ∷ At 3 ∷ At 4 ∷ []) 2 5 7 (At 4 ∷ []) refl tt refl) (λ ks. refl) refl
    (inl refl, tt) (no-nodes made 9 (At 0 ∷ At 3 ∷ At 4 ∷ []) 3 4 7 (At 0 ∷ Lit (truth false) ∷ []) refl tt refl) refl (λ ks. refl) refl
    (omega arith, ((omega arith, omega arith), tt)) refolded (λ row. refl)
    (inl refl, tt) (refl, (refl, tt)) returning (record { moves = refl; weighs = λ ks. refl })

abbrev outer : Places
outer zero p = if ltb (p - 1) 1 then At (p - 1) else Lit Unfilled
outer (suc l) p = At p

pub coded : AreCoded made
coded f (inl e) = subst (FunctionIs made) (sym e) (record {
  places = outer;
  end = 9;
  ordered = ((positive 0, (λ p k. k), tt, tt), (inl (refl, 0, omega arith, refl), (inl (refl, 1, omega arith, refl), tt)));
  inputs = function-inputs 1;
  wanting = function-wants 1;
  nodes = a_node 0 outer turns [] 0 9 9 1 3 (λ i lt. let z : suc i ≡ 1 + i = omega arith in ap At z) (omega arith) (a_loop true (At 0 ∷ []) 1 2 3 4 (λ ks rs. 0) 2 0 9 1 loops) (no_node 0 outer 9 3);
  leaves = refl;
  weighs = λ ks. refl;
})
coded f (inr h) = absurd h
