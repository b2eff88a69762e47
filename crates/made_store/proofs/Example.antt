-- A plan that meets what is asked: of the ForAll over the arrays of an array, which adds 1 behind each element.
use Rattle.std.proofs.Common.{◌≡◌, ℕ, zero, suc, ◌+◌, ◌-◌, ◌<◌, ◌&&◌, ◌||◌, eqb, Bool, true, false, None, List, [], ◌∷◌, get_or, inl, inr, refl, sym, ap, subst, arith}
use Rattle.run_code.specs.Simple.TheVariants as simple
use Rattle.graph_meaning.specs.NodeValues as shape
use Rattle.graph_meaning.specs.Demand.{Fixed, Port, Vertex}
use Rattle.run_code.specs.Taking.{AreTakersLast}
use Rattle.run_code.proofs.Collecting.{nodes-same}
use Rattle.run_code.proofs.Layouts.{one, positive}
use Rattle.run_code.proofs.Refolding.{sum-none}
use Rattle.run_code.specs.Collections.{Sifts}
use Rattle.run_code.specs.Known.{AreReadable}
use Rattle.run_code.specs.Made.{IsSized, Plan, entry_from}
use Rattle.run_code.specs.Refolds.{Refolds, a_fold, none_refolded, one_refolded}
use Rattle.run_made.specs.Plans.{CanLay, IsRightPlan, Weighing, laid}
use Rattle.run_store.proofs.Example.{cs, gather, net, node_of, over, storage}
use Rattle.run_store.specs.Whole.{IsStoredCode}
use Rattle.made_store.proofs.Units.{made-stored}
use Rattle.made_store.proofs.Weights.{modes-weights}
use Rattle.made_store.specs.Settings.{Shares, gives}
use Rattle.made_store.specs.Settled.{functions_settings, handling_of, live_of, own_of}
use Rattle.made_store.specs.Shared.{IsShared}
use Rattle.made_store.specs.Weights.{IsMarked, IsNodeMarked, by_modes}

-- the returns is done as graph 4
abbrev plan : Plan
plan =
    record {
      nodes = λ g. node_of g ∷ [];
      results = λ g. Port 1 1 ∷ [];
      width = λ v. 1;
      picks = λ g v. false ∷ [];
      collects = λ r. cs;
      refolded = λ r. 4;
      params = λ f. 1;
      entry = λ f. 0;
      size = λ g. get_or (9 ∷ []) g 1;
      extent = λ g. get_or (6 ∷ []) g 1;
    }

abbrev shares : Shares
shares = record { takes = λ g l p. false; copies = λ g l p. false; owns = λ g p. false; has = λ g p. true; puts = λ r. false ∷ [] }

abbrev weighing : Weighing
weighing = by_modes plan shares storage

abbrev order : ℕ → List Vertex
order g = node_of g ∷ []

-- ---- it is right

sized : (g : ℕ) → IsSized plan g
sized zero = (refl, refl)
sized (suc zero) = (refl, refl)
sized (suc (suc zero)) = (refl, refl)
sized (suc (suc (suc g))) = (refl, refl)

in-order : (g : ℕ) → AreReadable (λ v. 1) (node_of g ∷ []) (Port 1 1 ∷ [])
in-order zero = ((positive 0, (λ p k. k), tt, tt), (inl (refl, 0, omega arith, refl), tt))
in-order (suc zero) = ((positive 0, (λ p k. k), tt, tt), (inl (refl, 0, omega arith, refl), tt))
in-order (suc (suc zero)) = ((positive 0, (λ p k. k), tt, tt), (inl (refl, 0, omega arith, refl), tt))
in-order (suc (suc (suc g))) = ((positive 0, (λ p k. k), tt, tt), (inl (refl, 0, omega arith, refl), tt))

refolded : Refolds weighing.weights 2 1 cs 3 4 (gather ∷ []) (net 3).results (gather ∷ []) (Port 1 1 ∷ []) (λ row. 0 + 0)
refolded =
    record {
      nodes = one_refolded gather gather [] [] (λ row. 0) (λ row. 0)
          (a_fold gather gather 0 (Fixed one ∷ []) simple.AGather simple.AGather shape.Plain shape.Plain (Sifts 0 None) 0 (λ row. 0) refl refl refl refl refl refl tt refl
          (λ ks rows e long. (nodes-same 1 0 None ks rows (omega arith, tt) long).0 shape.Plain e) (λ ks rs rows e long. let z = sum-none rows in omega (arith, z)))
          none_refolded;
      results = refl;
      plainly = tt;
      weighs = λ rs. refl;
    }

simple-right : (g : ℕ) → CanLay plan weighing net order (0 ∷ []) 1 (suc g)
simple-right zero = record { readable = in-order 1; once = ((λ i. i), tt); kinds = (tt, tt) }
simple-right (suc zero) = record { readable = in-order 2; once = ((λ i. i), tt); kinds = (tt, tt) }
simple-right (suc (suc g)) = record { readable = in-order (suc (suc (suc g))); once = ((λ i. i), tt); kinds = (tt, tt) }

over-right : CanLay plan weighing net order (0 ∷ []) 2 0
over-right =
    record {
      readable = in-order 0;
      once = ((λ i. i), tt);
      kinds = ((refl, (λ ks rs. refl), ((refl, refl), simple-right 0), ((refl, refl), simple-right 1), refl, simple-right 3, (((omega arith, tt), tt), refolded)), tt);
    }

pub right : IsRightPlan plan weighing net order (0 ∷ []) 2
right =
    record {
      sized = sized;
      entries = λ f. elim [ inl e ↦ subst (λ x. 0 ≡ entry_from plan (0 ∷ []) 0 x) (sym e) refl | inr h ↦ absurd h ];
      graphs = λ f. elim [ inl e ↦ subst (λ x. ((order x ≡ plan.nodes x) × ((net x).results ≡ plan.results x)) × CanLay plan weighing net order (0 ∷ []) 2 x) (sym e) ((refl, refl), over-right) | inr h ↦ absurd h ];
    }

-- ---- so are its shares

never : (A : Type 0) → false ≡ true → A
never A e = absurd (let x : false ≡ true = e in cc)

takers : (g : ℕ) → AreTakersLast (shares.takes g) [] (node_of g ∷ []) (Port 1 1 ∷ [])
takers zero = (((λ w. w), tt), (λ i j l p f t k. never (i ≡ j) t), (((λ w. w), tt), (λ i j l p f t k. never (i ≡ j) t)))
takers (suc zero) = (((λ w. w), tt), (λ i j l p f t k. never (i ≡ j) t), (((λ w. w), tt), (λ i j l p f t k. never (i ≡ j) t)))
takers (suc (suc zero)) = (((λ w. w), tt), (λ i j l p f t k. never (i ≡ j) t), (((λ w. w), tt), (λ i j l p f t k. never (i ≡ j) t)))
takers (suc (suc (suc g))) = (((λ w. w), tt), (λ i j l p f t k. never (i ≡ j) t), (((λ w. w), tt), (λ i j l p f t k. never (i ≡ j) t)))

ungiven : (p : ℕ) → get_or (false ∷ []) p false || false ≡ false
ungiven zero = refl
ungiven (suc p) = refl

simple-shared : (g : ℕ) → IsShared plan shares weighing (suc g)
simple-shared zero =
    record {
      there = ((refl, tt), tt);
      results_there = tt;
      last = takers 1;
      owned = ((λ j p f t. never (false ≡ true) t), tt);
      results_owned = λ j p f t. never (false ≡ true) t;
      has_owned = λ p o. refl;
      kinds = (tt, tt);
      inputs = ((λ ks. refl), tt);
      results = λ ks. refl;
    }
simple-shared (suc zero) =
    record {
      there = ((refl, tt), tt);
      results_there = tt;
      last = takers 2;
      owned = ((λ j p f t. never (false ≡ true) t), tt);
      results_owned = λ j p f t. never (false ≡ true) t;
      has_owned = λ p o. refl;
      kinds = (tt, tt);
      inputs = ((λ ks. refl), tt);
      results = λ ks. refl;
    }
simple-shared (suc (suc g)) =
    record {
      there = ((refl, tt), tt);
      results_there = tt;
      last = takers (suc (suc (suc g)));
      owned = ((λ j p f t. never (false ≡ true) t), tt);
      results_owned = λ j p f t. never (false ≡ true) t;
      has_owned = λ p o. refl;
      kinds = (tt, tt);
      inputs = ((λ ks. refl), tt);
      results = λ ks. refl;
    }

pub shared : (g : ℕ) → IsShared plan shares weighing g
shared zero =
    record {
      there = ((refl, tt), tt);
      results_there = tt;
      last = takers 0;
      owned = ((λ j p f t. never (false ≡ true) t), tt);
      results_owned = λ j p f t. never (false ≡ true) t;
      has_owned = λ p o. refl;
      kinds = (((λ p o. never (gives plan shares 0 over p ≡ true) o), (λ p. refl), (λ p t le. ungiven (p - 1)), (λ p t le. ungiven (p - 1)), (λ p o. never (1 + 1 < p) o), (λ ks. refl)), tt);
      inputs = ((λ ks. refl), tt);
      results = λ ks. refl;
    }
shared (suc zero) = simple-shared 0
shared (suc (suc zero)) = simple-shared 1
shared (suc (suc (suc g))) = simple-shared (suc (suc g))

-- ---- its weights are those of record

none-more : (b : Bool) → b && false ≡ false
none-more true = refl
none-more false = refl

marked : IsMarked plan shares storage net
marked =
    record {
      nodes = λ g. nodes g;
      results = λ g p. ap (λ b. b && true) (none-more (eqb g 2));
      as_many = λ g. inl refl;
    }
  where
    nodes : (g : ℕ) → IsNodeMarked plan shares storage g (node_of g) (node_of g).kind × Unit {0}
    nodes zero = ((refl, (λ p le. refl)), tt)
    nodes (suc zero) = (tt, tt)
    nodes (suc (suc zero)) = (tt, tt)
    nodes (suc (suc (suc g))) = (tt, tt)

pub stored : IsStoredCode storage (laid plan weighing net order (0 ∷ []) 2) (handling_of (functions_settings plan shares 2 (0 ∷ []))) (λ pc. []) (live_of (functions_settings plan shares 2 (0 ∷ []))) (own_of (functions_settings plan shares 2 (0 ∷ [])))
stored = made-stored plan shares weighing net order (0 ∷ []) 2 storage right shared (modes-weights plan shares storage net marked)
