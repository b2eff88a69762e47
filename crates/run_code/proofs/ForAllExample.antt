-- The code of a ForAll over a range, whose returns gathers elements where a mask says so. The gather copies what it keeps, and that is
-- weighed where it is put.
use Rattle.std.proofs.Common.{◌≡◌, ℕ, zero, suc, ◌+◌, List, [], ◌∷◌, ◌++◌, length, drop, Some, get_or, inl, inr, refl, sym, subst, arith, true}
use Rattle.ordered_meaning.specs.Scalar2.TheVariants as two
use Rattle.ordered_meaning.specs.Simple.TheVariants as simple
use Rattle.ordered_meaning.specs.Carried.{Carried}
use Rattle.ordered_meaning.specs.NodeValues as shape
use Rattle.ordered_meaning.specs.Forms.{columns}
use Rattle.ordered_meaning.specs.Forms as form
use Rattle.ordered_meaning.specs.Demand.{Source, Port, Fixed, Plain, Whole, Vertex, Network}
use Rattle.ordered_meaning.specs.Storage.{Weights, kept_of}
use Rattle.run_code.proofs.Layouts.{one, truth, positive, places_by, puts, function_places, function-puts, function-inputs, function-wants}
use Rattle.run_code.proofs.Collecting.{kept-rows, nodes-same}
use Rattle.run_code.specs.Cells.{At, Lit}
use Rattle.run_code.specs.Coded.{AreCoded, ForAllIs, FunctionIs, GraphIs, Layout, PartIs, a_for_all, a_node, a_part, no_node, scalar, the_for_all}
use Rattle.run_code.specs.Collecting.{put_leaves}
use Rattle.run_code.specs.Collections.{Collect, Sifts}
use Rattle.run_code.specs.Known.{AreReadable}
use Rattle.run_code.specs.Refolds.{AllLong, Refolds, a_fold, none_refolded, one_refolded, reads, rows_sum}
use Rattle.run_code.specs.Steps.{Add, Count, Each, Fire, Move, Return, Spread, Step}

abbrev pub over : Vertex
over = record { label = 1; kind = Whole (form.ForAll 1 2 3 2 1); ins = Port 0 1 ∷ []; before = [] }

abbrev pub range : Vertex
range = record { label = 1; kind = Plain simple.RangeGenerate shape.Plain; ins = Fixed one ∷ Port 0 1 ∷ []; before = [] }

abbrev pub twice : Vertex
twice = record { label = 1; kind = Plain (simple.Two two.Plus) shape.Plain; ins = Port 0 2 ∷ Port 0 2 ∷ []; before = [] }

abbrev pub gather : Vertex
gather = record { label = 1; kind = Plain simple.AGather shape.Plain; ins = Fixed one ∷ Port 0 3 ∷ Port 0 4 ∷ []; before = [] }

-- on what is collected
abbrev pub gather' : Vertex
gather' = record { label = 1; kind = Plain simple.AGather shape.Plain; ins = Fixed one ∷ Port 0 3 ∷ []; before = [] }

abbrev others : List Vertex
others = gather' ∷ []

abbrev pub wanted : List Source
wanted = Port 1 1 ∷ []

abbrev pub cs : List Collect
cs = Sifts 0 (Some 1) ∷ []

-- the one node of each graph, whose results is its first output
abbrev pub node_of : ℕ → Vertex
node_of zero = over
node_of (suc zero) = range
node_of (suc (suc zero)) = twice
node_of (suc (suc (suc g))) = gather

-- the body has a mask beside its result
abbrev pub results_of : ℕ → List Source
results_of (suc (suc zero)) = Port 1 1 ∷ Fixed (truth true) ∷ []
results_of _ = Port 1 1 ∷ []

abbrev net : Network
net g = record { nodes = node_of g ∷ []; results = results_of g }

abbrev order : ℕ → List Vertex
order g = node_of g ∷ []

-- the gather copies what it keeps; the other nodes' number is 9
abbrev copied_at : ℕ → List Carried → ℕ
copied_at (suc (suc (suc zero))) ks = kept_of (drop 1 ks)
copied_at _ ks = 0

abbrev weights : Weights
weights = record { of_node = λ g v ks rs. copied_at g ks; of_results = λ g rs. 0 }

abbrev put_at : ℕ → List Carried → ℕ
put_at (suc (suc (suc (suc (suc zero))))) ks = put_leaves (Sifts 0 (Some 1)) ks + 0
put_at _ ks = 0

abbrev pub steps : List Step
steps =
    Count ∷ Move [] 2 0 2 ∷ Fire simple.RangeGenerate shape.Plain (Lit one ∷ At 0 ∷ []) 2 1 ∷ Spread (At 2 ∷ []) cs 2 6 1 1 9 ∷ Fire (simple.Two two.Plus) shape.Plain (At 5 ∷ At 5 ∷ []) 6 1 ∷ Add cs (At 6 ∷ Lit (truth true) ∷ []) 3 6
    ∷ Each 1 2 4 4 7 ∷ Fire simple.AGather shape.Plain (Lit one ∷ At 3 ∷ []) 4 1 ∷ Move (At 4 ∷ []) 1 1 9 ∷ Return (At 1 ∷ []) ∷ []

abbrev made : Layout
made =
    record {
      weights = weights;
      network = net;
      order = order;
      width = λ v. 1;
      code = λ pc. get_or steps pc Count;
      weigh = λ pc ks rs. put_at pc ks;
      functions = 0 ∷ [];
      entry = λ f. 0;
      size = λ f. 7;
      params = λ f. 1;
    }

in-order : (g : ℕ) → AreReadable (λ v. 1) (order g) (net g).results
in-order zero = ((positive 0, (λ p k. k), tt, tt), (inl (refl, 0, omega arith, refl), tt))
in-order (suc zero) = ((positive 0, (λ p k. k), tt, tt), (inl (refl, 0, omega arith, refl), tt))
in-order (suc (suc zero)) = ((positive 0, (λ p k. k), tt, tt), (inl (refl, 0, omega arith, refl), tt))
in-order (suc (suc (suc g))) = ((positive 0, (λ p k. k), tt, tt), (inl (refl, 0, omega arith, refl), tt))

generating : GraphIs made 7 (At 0 ∷ []) 1 2 3 2 (At 2 ∷ [])
generating =
    a_part (At 0 ∷ []) 1 (order 1) (net 1).results 2 3 2 (places_by (At 0 ∷ []) 2) (λ p. refl) (in-order 1)
    (a_node 1 (places_by (At 0 ∷ []) 2) range [] 2 3 3 2 3 (puts (At 0 ∷ []) 2 0) (omega arith)
    (scalar (Lit one ∷ At 0 ∷ []) simple.RangeGenerate shape.Plain (λ ks rs. 0) 1 2 2 refl (λ ks rs. refl)) (no_node 1 (places_by (At 0 ∷ []) 2) 3 3))
    (At 2 ∷ []) refl

turning : GraphIs made 7 (At 0 ∷ At 5 ∷ []) 2 4 5 6 (At 6 ∷ Lit (truth true) ∷ [])
turning =
    a_part (At 0 ∷ At 5 ∷ []) 2 (order 2) (net 2).results 4 5 6 (places_by (At 0 ∷ At 5 ∷ []) 6) (λ p. refl) (in-order 2)
    (a_node 2 (places_by (At 0 ∷ At 5 ∷ []) 6) twice [] 4 5 5 6 7 (puts (At 0 ∷ At 5 ∷ []) 6 0) (omega arith)
    (scalar (At 5 ∷ At 5 ∷ []) (simple.Two two.Plus) shape.Plain (λ ks rs. 0) 1 4 6 refl (λ ks rs. refl)) (no_node 2 (places_by (At 0 ∷ At 5 ∷ []) 6) 5 7))
    (At 6 ∷ Lit (truth true) ∷ []) refl

returning : PartIs made 7 (At 0 ∷ At 2 ∷ At 3 ∷ []) 9 others wanted 7 8 4 (At 4 ∷ [])
returning =
    a_part (At 0 ∷ At 2 ∷ At 3 ∷ []) 9 others wanted 7 8 4 (places_by (At 0 ∷ At 2 ∷ At 3 ∷ []) 4) (λ p. refl) ((positive 0, (λ p k. k), tt, tt), (inl (refl, 0, omega arith, refl), tt))
    (a_node 9 (places_by (At 0 ∷ At 2 ∷ At 3 ∷ []) 4) gather' [] 7 8 8 4 5 (puts (At 0 ∷ At 2 ∷ At 3 ∷ []) 4 0) (omega arith)
    (scalar (Lit one ∷ At 3 ∷ []) simple.AGather shape.Plain (λ ks rs. 0) 1 7 4 refl (λ ks rs. refl)) (no_node 9 (places_by (At 0 ∷ At 2 ∷ At 3 ∷ []) 4) 8 5))
    (At 4 ∷ []) refl

-- the copies of record, by what is put
copies : (ks : List Carried) (rows : List (List Carried)) → length ks ≡ 1 → AllLong 2 rows → kept_of (drop 1 (ks ++ reads (Sifts 0 (Some 1)) (columns 2 rows))) ≡ 0 + rows_sum (put_leaves (Sifts 0 (Some 1))) rows
copies [] rows e long = absurd (omega (arith, e))
copies (k ∷ x ∷ ks) rows e long = absurd (omega (arith, e))
copies (k ∷ []) rows e long = let z = kept-rows 2 0 (Some 1) rows (omega arith, omega arith) long in omega (arith, z)

none-more : (n : ℕ) → 0 + (n + 0) ≡ n + 0
none-more n = omega arith

refolded : Refolds weights 2 2 cs 3 9 (order 3) (net 3).results others wanted (λ row. put_leaves (Sifts 0 (Some 1)) row + 0)
refolded =
    record {
      nodes = one_refolded gather gather' [] [] (put_leaves (Sifts 0 (Some 1))) (λ row. 0)
          (a_fold gather gather' 0 (Fixed one ∷ []) simple.AGather simple.AGather shape.Plain shape.Plain (Sifts 0 (Some 1)) 0 (put_leaves (Sifts 0 (Some 1))) refl refl refl refl refl refl tt refl
          (λ ks rows e long. (nodes-same 2 0 (Some 1) ks rows (omega arith, omega arith) long).0 shape.Plain e)
          (λ ks rs rows e long. copies ks rows e long))
          none_refolded;
      results = refl;
      plainly = tt;
      weighs = λ rs. refl;
    }

the_over : ForAllIs made 7 (At 0 ∷ []) 1 2 3 2 (λ ks rs. 0) 1 0 9 1
the_over =
    the_for_all (At 0 ∷ []) 1 2 3 2 (λ ks rs. 0) 1 0 9 1 [] 2 1 1 3 6 4 5 7 8 9 others wanted cs (λ row. put_leaves (Sifts 0 (Some 1)) row + 0) (At 2 ∷ []) (At 6 ∷ Lit (truth true) ∷ []) (At 4 ∷ []) (At 0 ∷ []) (At 0 ∷ [])
    (record { counts = refl; copies = refl; weighs = λ ks rs. refl; fits = omega arith }) generating refl (λ ks. refl) refl refl refl
    (inl refl, tt) turning refl (λ ks. sym (none-more (put_leaves (Sifts 0 (Some 1)) ks))) refl
    ((omega arith, omega arith), tt) refolded
    (inl refl, tt) returning (record { moves = refl; weighs = λ ks. refl })

pub coded : AreCoded made
coded f (inl e) = subst (FunctionIs made) (sym e) (record {
  places = function_places 1;
  end = 9;
  ordered = in-order 0;
  inputs = function-inputs 1;
  wanting = function-wants 1;
  nodes = a_node 0 (function_places 1) over [] 0 9 9 1 2 (function-puts 1 0) (omega arith) (a_for_all (At 0 ∷ []) 1 2 3 2 (λ ks rs. 0) 1 0 9 1 the_over) (no_node 0 (function_places 1) 9 2);
  leaves = refl;
  weighs = λ ks. refl;
})
coded f (inr h) = absurd h
