-- Code whose cells own their values: a ForAll over the arrays of an array, which adds 1 behind each and gathers them. The elements and
-- their multiple are read where the argument stands and have no cells of their own. Each element is copied where it is changed, and
-- what is collected is moved.
use Rattle.std.proofs.Common.{Some, ◌≡◌, ℕ, zero, suc, ◌+◌, ◌<◌, ◌≤◌, ◌⊎◌, ◌&&◌, ◌||◌, not, if◌then◌else◌, eqb, leb, ltb, List, [], ◌∷◌, None, get_or, inl, inr, refl, sym, ap, ◌∙◌, subst, arith, Bool, true, false}
use Rattle.std.proofs.lemmas.Bool.{ltb-true, leb-true, eqb-true, eq-eqb}
use Rattle.graph_meaning.specs.Simple.TheVariants as simple
use Rattle.graph_meaning.specs.Carried.{Carried, Unfilled}
use Rattle.graph_meaning.specs.Entered.{IsIn}
use Rattle.graph_meaning.specs.Forms.{columns}
use Rattle.graph_meaning.specs.Forms as form
use Rattle.graph_meaning.specs.NodeValues as shape
use Rattle.graph_meaning.specs.Demand.{through, waits_of, straight, IsOrderly, WaitsFor, AreOrderly, waits, Port, Fixed, Plain, Whole, Vertex, Network}
use Rattle.graph_meaning.specs.Storage.{Storage, copying, leaves_at, leaves_of}
use Rattle.run_laws.proofs.Layouts.{one, positive, places_by, puts, function_places, function-puts, function-inputs, function-wants}
use Rattle.run_laws.proofs.Collecting.{nodes-same}
use Rattle.run_laws.proofs.Refolding.{sum-none}
use Rattle.run_laws.specs.Cells.{Operand, At, Lit}
use Rattle.run_laws.specs.Coded.{AreCoded, ForAllIs, FunctionIs, GraphIs, Layout, PartIs, a_for_all, a_node, a_part, no_node, scalar, the_for_all}
use Rattle.run_laws.specs.Collections.{Collect, Sifts}
use Rattle.run_laws.specs.Known.{AreReadable}
use Rattle.run_laws.specs.Refolds.{Refolds, a_fold, none_refolded, one_refolded}
use Rattle.run_laws.specs.Steps.{Step, Fire, Count, Move, Spread, Each, Add, Return}
use Rattle.run_laws.specs.Facts.{Path, Here, Scattered, Counted, Uses, Fact, Through, AsLong, Touches, Preserves}
use Rattle.run_laws.specs.Weighing.{AreAlike}
use Rattle.run_store.specs.Effects.{reads_of, IsOneOf}
use Rattle.run_store.specs.Lively.{Live, Follows, IsLively}
use Rattle.run_store.specs.Refines.{IsTaken, IsHandled}
use Rattle.run_store.specs.Stored.{Mode, Looks, Copies, Takes, LooksAt, CopiesOf, tail, Handling, copied}
use Rattle.graph_meaning.specs.Plain.{Costs}
use Rattle.run_laws.specs.Orders.{IsInOrder, AreInOrder}
use Rattle.run_laws.specs.Inside.{Stays, IsInside}
use Rattle.run_store.proofs.Whole.{store-decided, runs-begin}
use Rattle.run_store.specs.Whole.{IsStoredCode, EndsStored, StopsStored, IsCopied, Begins, entered_stored, first_cells}

-- ---- the graphs

abbrev pub over : Vertex
over = record { label = 1; kind = Whole (form.ForAll 1 2 3 1 1); ins = Port 0 1 ∷ []; before = [] }

abbrev pub scatter : Vertex
scatter = record { label = 1; kind = Plain simple.AScatter shape.Plain; ins = Port 0 1 ∷ []; before = [] }

abbrev pub longer : Vertex
longer = record { label = 1; kind = Plain simple.AAddH shape.Plain; ins = Port 0 2 ∷ Fixed one ∷ []; before = [] }

abbrev pub gather : Vertex
gather = record { label = 1; kind = Plain simple.AGather shape.Plain; ins = Fixed one ∷ Port 0 3 ∷ []; before = [] }

abbrev pub node_of : ℕ → Vertex
node_of zero = over
node_of (suc zero) = scatter
node_of (suc (suc zero)) = longer
node_of (suc (suc (suc g))) = gather

abbrev pub net : Network
net g = record { nodes = node_of g ∷ []; results = Port 1 1 ∷ [] }

-- the one aggregate that is consumed and not taken is the element
abbrev pub storage : Storage
storage =
    record {
      is_aggregate = λ g l port. eqb g 2 && (eqb l 1 && eqb port 1);
      is_taken = λ g l port. false;
      is_given = λ g l port. false;
      is_made = λ g l port. false;
      is_used = λ g l port. true;
      is_joined = λ g l. false;
    }

-- ---- the code

abbrev pub cs : List Collect
cs = Sifts 0 None ∷ []

abbrev pub steps : List Step
steps =
    Count ∷ Move [] 2 0 2 ∷ Fire simple.AScatter shape.Plain (At 0 ∷ []) 2 1 ∷ Spread (At 2 ∷ []) cs 2 6 1 1 9 ∷ Fire simple.AAddH shape.Plain (At 5 ∷ Lit one ∷ []) 6 1 ∷ Add cs (At 6 ∷ []) 3 6
    ∷ Each 1 2 4 4 7 ∷ Fire simple.AGather shape.Plain (Lit one ∷ At 3 ∷ []) 4 1 ∷ Move (At 4 ∷ []) 1 1 9 ∷ Return (At 1 ∷ []) ∷ []

abbrev pub weigh_at : ℕ → List Carried → List Carried → ℕ
weigh_at (suc (suc (suc (suc zero)))) ks rs = (copying storage).of_node 2 longer ks rs
weigh_at _ ks rs = 0

abbrev pub laid : Layout
laid =
    record {
      weights = copying storage;
      network = net;
      order = λ g. node_of g ∷ [];
      width = λ v. 1;
      code = λ pc. get_or steps pc (Return []);
      weigh = weigh_at;
      functions = 0 ∷ [];
      entry = λ f. 0;
      size = λ f. 7;
      params = λ f. 1;
    }

-- ---- it does its graphs

none-left : (test : ℕ → Bool) → ((p : ℕ) → test p ≡ false) → (i : ℕ) (ks : List Carried) → leaves_at test i ks ≡ 0
none-left test none i [] = refl
none-left test none i (k ∷ ks) = ap (λ b. (if b then leaves_of k else 0) + leaves_at test (suc i) ks) (none i) ∙ (let e = none-left test none (suc i) ks in omega (arith, e))

and-false : (b : Bool) → b && false ≡ false
and-false true = refl
and-false false = refl

in-order : (g : ℕ) → AreReadable (λ v. 1) (node_of g ∷ []) (net g).results
in-order zero = ((positive 0, (λ p k. k), tt, tt), (inl (refl, 0, omega arith, refl), tt))
in-order (suc zero) = ((positive 0, (λ p k. k), tt, tt), (inl (refl, 0, omega arith, refl), tt))
in-order (suc (suc zero)) = ((positive 0, (λ p k. k), tt, tt), (inl (refl, 0, omega arith, refl), tt))
in-order (suc (suc (suc g))) = ((positive 0, (λ p k. k), tt, tt), (inl (refl, 0, omega arith, refl), tt))

generating : GraphIs laid 7 (At 0 ∷ []) 1 2 3 2 (At 2 ∷ [])
generating =
    a_part (At 0 ∷ []) 1 (scatter ∷ []) (net 1).results 2 3 2 (places_by (At 0 ∷ []) 2) (λ p. refl) (in-order 1)
    (a_node 1 (places_by (At 0 ∷ []) 2) scatter [] 2 3 3 2 3 (puts (At 0 ∷ []) 2 0) (omega arith)
    (scalar (At 0 ∷ []) simple.AScatter shape.Plain ((copying storage).of_node 1 scatter) 1 2 2 refl (λ ks rs. sym (none-left _ (λ p. and-false _) 1 ks))) (no_node 1 (places_by (At 0 ∷ []) 2) 3 3))
    (At 2 ∷ []) refl

turning : GraphIs laid 7 (At 0 ∷ At 5 ∷ []) 2 4 5 6 (At 6 ∷ [])
turning =
    a_part (At 0 ∷ At 5 ∷ []) 2 (longer ∷ []) (net 2).results 4 5 6 (places_by (At 0 ∷ At 5 ∷ []) 6) (λ p. refl) (in-order 2)
    (a_node 2 (places_by (At 0 ∷ At 5 ∷ []) 6) longer [] 4 5 5 6 7 (puts (At 0 ∷ At 5 ∷ []) 6 0) (omega arith)
    (scalar (At 5 ∷ Lit one ∷ []) simple.AAddH shape.Plain ((copying storage).of_node 2 longer) 1 4 6 refl (λ ks rs. refl)) (no_node 2 (places_by (At 0 ∷ At 5 ∷ []) 6) 5 7))
    (At 6 ∷ []) refl

returning : PartIs laid 7 (At 0 ∷ At 2 ∷ At 3 ∷ []) 9 (gather ∷ []) (Port 1 1 ∷ []) 7 8 4 (At 4 ∷ [])
returning =
    a_part (At 0 ∷ At 2 ∷ At 3 ∷ []) 9 (gather ∷ []) (Port 1 1 ∷ []) 7 8 4 (places_by (At 0 ∷ At 2 ∷ At 3 ∷ []) 4) (λ p. refl) (in-order 3)
    (a_node 9 (places_by (At 0 ∷ At 2 ∷ At 3 ∷ []) 4) gather [] 7 8 8 4 5 (puts (At 0 ∷ At 2 ∷ At 3 ∷ []) 4 0) (omega arith)
    (scalar (Lit one ∷ At 3 ∷ []) simple.AGather shape.Plain ((copying storage).of_node 9 gather) 1 7 4 refl (λ ks rs. refl)) (no_node 9 (places_by (At 0 ∷ At 2 ∷ At 3 ∷ []) 4) 8 5))
    (At 4 ∷ []) refl

refolded : Refolds (copying storage) 2 1 cs 3 9 (gather ∷ []) (net 3).results (gather ∷ []) (Port 1 1 ∷ []) (λ row. 0 + 0)
refolded =
    record {
      nodes = one_refolded gather gather [] [] (λ row. 0) (λ row. 0)
          (a_fold gather gather 0 (Fixed one ∷ []) simple.AGather simple.AGather shape.Plain shape.Plain (Sifts 0 None) 0 (λ row. 0) refl refl refl refl refl refl tt refl
          (λ ks rows e long. (nodes-same 1 0 None ks rows (omega arith, tt) long).0 shape.Plain e)
          (λ ks rs rows e long. let z = sum-none rows in omega (arith, z)))
          none_refolded;
      results = refl;
      plainly = tt;
      weighs = λ rs. none-left _ (λ p. refl) 1 rs ∙ sym (none-left _ (λ p. refl) 1 rs);
    }

the_over : ForAllIs laid 7 (At 0 ∷ []) 1 2 3 1 ((copying storage).of_node 0 over) 1 0 9 1
the_over =
    the_for_all (At 0 ∷ []) 1 2 3 1 ((copying storage).of_node 0 over) 1 0 9 1 [] 2 1 1 3 6 4 5 7 8 9 (gather ∷ []) (Port 1 1 ∷ []) cs (λ row. 0 + 0) (At 2 ∷ []) (At 6 ∷ []) (At 4 ∷ []) (At 0 ∷ []) (At 0 ∷ [])
    (record { counts = refl; copies = refl; weighs = λ ks rs. sym (none-left _ (λ p. refl) 1 ks); fits = omega arith }) generating refl (λ ks. sym (none-left _ (λ p. refl) 1 ks)) refl refl refl
    (inl refl, tt) turning refl (λ ks. let z = none-left _ (λ p. refl) 1 ks in omega (arith, z)) refl
    (omega arith, tt) refolded
    (inl refl, tt) returning (record { moves = refl; weighs = λ ks. sym (none-left _ (λ p. refl) 1 ks) })

coded : AreCoded laid
coded f (inl e) = subst (FunctionIs laid) (sym e) (record {
  places = function_places 1;
  end = 9;
  ordered = in-order 0;
  inputs = function-inputs 1;
  wanting = function-wants 1;
  nodes = a_node 0 (function_places 1) over [] 0 9 9 1 2 (function-puts 1 0) (omega arith) (a_for_all (At 0 ∷ []) 1 2 3 1 ((copying storage).of_node 0 over) 1 0 9 1 the_over) (no_node 0 (function_places 1) 9 2);
  leaves = refl;
  weighs = λ ks. sym (none-left _ (λ p. refl) 1 ks);
})
coded f (inr h) = absurd h

-- ---- how its steps handle their operands

-- the multiple of the argument's elements, and the element that is counted
abbrev pub elements_at : Path
elements_at = Scattered (Here 0)

abbrev pub element_at : Path
element_at = Counted elements_at 4

abbrev pub handled_by : List Mode → List Bool → Handling
handled_by ms puts = record { modes = ms; keeps = λ c. not (eqb c 2) && not (eqb c 5); puts = puts }

abbrev pub handlings : List Handling
handlings =
    handled_by [] [] ∷ handled_by [] [] ∷ handled_by (Looks ∷ []) [] ∷ handled_by (LooksAt elements_at ∷ []) [] ∷ handled_by (CopiesOf element_at ∷ Looks ∷ []) [] ∷ handled_by (Takes ∷ Takes ∷ []) (false ∷ [])
    ∷ handled_by (Looks ∷ LooksAt elements_at ∷ []) [] ∷ handled_by (Looks ∷ Takes ∷ []) [] ∷ handled_by (Takes ∷ []) [] ∷ handled_by (Takes ∷ []) [] ∷ []

abbrev pub handling : ℕ → Handling
handling pc = get_or handlings pc (handled_by [] [])

abbrev pub facts : ℕ → List Fact
facts (suc (suc (suc zero))) = Through 2 elements_at ∷ []
facts (suc (suc (suc (suc zero)))) = Through 5 element_at ∷ Through 2 elements_at ∷ AsLong 2 1 ∷ []
facts (suc (suc (suc (suc (suc zero))))) = Through 2 elements_at ∷ AsLong 2 1 ∷ []
facts (suc (suc (suc (suc (suc (suc zero)))))) = Through 2 elements_at ∷ AsLong 2 1 ∷ []
facts _ = []

-- ---- what is known

apart-above : (out w : ℕ) → 3 ≤ out → (c : ℕ) → Touches (Through 2 elements_at) c → (c < out) ⊎ (out + w ≤ c)
apart-above out w le c (inl e) = inl (omega (arith, e, le))
apart-above out w le c (inr e) = inl (omega (arith, e, le))

long-above : (out w : ℕ) → 3 ≤ out → (c : ℕ) → Touches (AsLong 2 1) c → (c < out) ⊎ (out + w ≤ c)
long-above out w le c h = let lt = h.1 in inl (omega (arith, lt, le))

leads-below : (out w : ℕ) → 1 ≤ out → (c : ℕ) → Uses elements_at c → (c < out) ⊎ (out + w ≤ c)
leads-below out w le c e = inl (omega (arith, e, le))

preserves : (pc : ℕ) → Preserves facts pc (laid.code pc)
preserves zero = tt
preserves (suc zero) = tt
preserves (suc (suc zero)) = (inl (refl, (0, Here 0, omega arith, refl, inl refl, (λ c e. inl (omega (arith, e))), refl)), tt)
preserves (suc (suc (suc zero))) =
    ((inr (inl (0, 2, elements_at, omega arith, refl, omega arith, inr (inl refl), leads-below 2 3 (omega arith), refl)), (inl refl, tt)), tt)
preserves (suc (suc (suc (suc zero)))) =
    (inr (inr (inl refl), apart-above 6 1 (omega arith)), (inr (inr (inr (inl refl)), long-above 6 1 (omega arith)), tt))
preserves (suc (suc (suc (suc (suc zero))))) = ((inl refl, apart-above 3 1 (omega arith)), ((inr (inl refl), long-above 3 1 (omega arith)), tt))
preserves (suc (suc (suc (suc (suc (suc zero)))))) =
    ((inl (0, elements_at, omega arith, inr (inl refl), inr (inl refl), leads-below 4 2 (omega arith), refl), (inr (inl refl, apart-above 4 2 (omega arith)), (inr (inr (inl refl), long-above 4 2 (omega arith)), tt))), tt)
preserves (suc (suc (suc (suc (suc (suc (suc zero))))))) = tt
preserves (suc (suc (suc (suc (suc (suc (suc (suc zero)))))))) = tt
preserves (suc (suc (suc (suc (suc (suc (suc (suc (suc zero))))))))) = tt
preserves (suc (suc (suc (suc (suc (suc (suc (suc (suc (suc pc)))))))))) = tt

-- ---- modes

abbrev CopyNothing : List Mode → Type 0
CopyNothing [] = Unit {0}
CopyNothing (Copies ∷ ms) = ⊥
CopyNothing (CopiesOf p ∷ ms) = ⊥
CopyNothing (Looks ∷ ms) = CopyNothing ms
CopyNothing (LooksAt p ∷ ms) = CopyNothing ms
CopyNothing (Takes ∷ ms) = CopyNothing ms

no-copies : (ms : List Mode) → CopyNothing ms → (ks : List Carried) → copied ms ks ≡ 0
no-copies ms h [] = refl
no-copies [] h (k ∷ ks) = let e = no-copies [] h ks in omega (arith, e)
no-copies (Copies ∷ ms) h (k ∷ ks) = absurd h
no-copies (CopiesOf p ∷ ms) h (k ∷ ks) = absurd h
no-copies (Looks ∷ ms) h (k ∷ ks) = let e = no-copies ms h ks in omega (arith, e)
no-copies (LooksAt p ∷ ms) h (k ∷ ks) = let e = no-copies ms h ks in omega (arith, e)
no-copies (Takes ∷ ms) h (k ∷ ks) = let e = no-copies ms h ks in omega (arith, e)

handled : (pc : ℕ) → IsHandled laid.weigh facts pc (laid.code pc) (handling pc)
handled zero = record { paths = tt; lends = tt; weighed = λ ks. no-copies [] tt ks }
handled (suc zero) = record { paths = tt; lends = tt; weighed = λ ks. no-copies [] tt ks }
handled (suc (suc zero)) = record { paths = (tt, tt); lends = tt; weighed = tt }
handled (suc (suc (suc zero))) = record { paths = ((2, refl, inr (inl refl)), tt); lends = tt; weighed = λ ks. no-copies (LooksAt elements_at ∷ []) tt ks }
handled (suc (suc (suc (suc zero)))) = record { paths = ((5, refl, inr (inl refl)), (tt, tt)); lends = tt; weighed = tt }
handled (suc (suc (suc (suc (suc zero))))) = record { paths = (tt, (tt, tt)); lends = tt; weighed = λ ks. let e = no-copies (Takes ∷ Takes ∷ []) tt ks in omega (arith, e) }
handled (suc (suc (suc (suc (suc (suc zero)))))) = record { paths = (tt, ((2, refl, inr (inl refl)), tt)); lends = tt; weighed = λ ks. no-copies (Looks ∷ LooksAt elements_at ∷ []) tt ks }
handled (suc (suc (suc (suc (suc (suc (suc zero))))))) = record { paths = (tt, (tt, tt)); lends = tt; weighed = tt }
handled (suc (suc (suc (suc (suc (suc (suc (suc zero)))))))) = record { paths = (tt, tt); lends = tt; weighed = λ ks. no-copies (Takes ∷ []) tt ks }
handled (suc (suc (suc (suc (suc (suc (suc (suc (suc zero))))))))) = record { paths = (tt, tt); lends = tt; weighed = λ ks. no-copies (Takes ∷ []) tt ks }
handled (suc (suc (suc (suc (suc (suc (suc (suc (suc (suc pc)))))))))) = record { paths = tt; lends = tt; weighed = λ ks. no-copies [] tt ks }

-- ---- live cells, as lists

abbrev has : List ℕ → ℕ → Bool
has [] i = false
has (c ∷ cs) i = eqb i c || has cs i

has-in : (cs : List ℕ) (i : ℕ) → has cs i ≡ true → IsIn i cs
has-in [] i e = absurd cc
has-in (c ∷ cs) i e = go (eqb i c) refl e (has-in cs i)
  where
    go : (b : Bool) → eqb i c ≡ b → b || has cs i ≡ true → (has cs i ≡ true → IsIn i cs) → IsIn i (c ∷ cs)
    go true f e rest = inl (eqb-true i c f)
    go false f e rest = inr (rest e)

abbrev pub live_lists : List (List ℕ)
live_lists = (0 ∷ []) ∷ (0 ∷ []) ∷ (0 ∷ []) ∷ (0 ∷ []) ∷ (0 ∷ 3 ∷ 4 ∷ []) ∷ (0 ∷ 3 ∷ 4 ∷ 6 ∷ []) ∷ (0 ∷ 3 ∷ 4 ∷ []) ∷ (3 ∷ []) ∷ (4 ∷ []) ∷ (1 ∷ []) ∷ []

abbrev pub own_lists : List (List ℕ)
own_lists = [] ∷ [] ∷ [] ∷ [] ∷ (3 ∷ []) ∷ (3 ∷ 6 ∷ []) ∷ (3 ∷ []) ∷ (3 ∷ []) ∷ (4 ∷ []) ∷ (1 ∷ []) ∷ []

abbrev pub live : Live
live pc i = has (get_or live_lists pc []) i

abbrev pub own : Live
own pc i = has (get_or own_lists pc []) i

-- a test whether these follow
abbrev is_taken : List Mode → List Operand → ℕ → Bool
is_taken ms [] i = false
is_taken (Takes ∷ ms) (At c ∷ args) i = eqb c i || is_taken ms args i
is_taken ms (a ∷ args) i = is_taken (tail ms) args i

abbrev follows_at : (ℕ → Bool) → (ℕ → Bool) → (ℕ → Bool) → (out w i : ℕ) → Bool
follows_at keeps here gone out w i = (leb out i && (ltb i (out + w) && keeps i)) || (here i && (not (gone i) && (ltb i out || leb (out + w) i)))

abbrev all_follow : (ℕ → Bool) → (ℕ → Bool) → (ℕ → Bool) → (out w : ℕ) → List ℕ → Bool
all_follow keeps here gone out w [] = true
all_follow keeps here gone out w (i ∷ is) = follows_at keeps here gone out w i && all_follow keeps here gone out w is

and-both : (a b : Bool) → a && b ≡ true → (a ≡ true) × (b ≡ true)
and-both true b e = (refl, e)
and-both false b e = absurd cc

or-either : (a b : Bool) → a || b ≡ true → (a ≡ true) ⊎ (b ≡ true)
or-either true b e = inl refl
or-either false b e = inr e

taken-so : (ms : List Mode) (args : List Operand) (i : ℕ) → IsTaken ms args i → is_taken ms args i ≡ true
taken-so ms [] i h = absurd h
taken-so [] (a ∷ args) i (inl h) = absurd (clash h.0)
  where
    clash : Looks ≡ Takes → ⊥
    clash e = cc
taken-so [] (At c ∷ args) i (inr h) = taken-so [] args i h
taken-so [] (Lit k ∷ args) i (inr h) = taken-so [] args i h
taken-so (Takes ∷ ms) (At c ∷ args) i (inl h) = ap (λ b. b || is_taken ms args i) (eq-eqb c i (same h.1))
  where
    same : At c ≡ At i → c ≡ i
    same e = cc
taken-so (Takes ∷ ms) (At c ∷ args) i (inr h) = later (eqb c i) (taken-so ms args i h)
  where
    later : (b : Bool) → is_taken ms args i ≡ true → b || is_taken ms args i ≡ true
    later true e = refl
    later false e = e
taken-so (Takes ∷ ms) (Lit k ∷ args) i (inl h) = absurd (clash h.1)
  where
    clash : Lit k ≡ At i → ⊥
    clash e = cc
taken-so (Takes ∷ ms) (Lit k ∷ args) i (inr h) = taken-so ms args i h
taken-so (Looks ∷ ms) (a ∷ args) i (inl h) = absurd (clash h.0)
  where
    clash : Looks ≡ Takes → ⊥
    clash e = cc
taken-so (Looks ∷ ms) (At c ∷ args) i (inr h) = taken-so ms args i h
taken-so (Looks ∷ ms) (Lit k ∷ args) i (inr h) = taken-so ms args i h
taken-so (Copies ∷ ms) (a ∷ args) i (inl h) = absurd (clash h.0)
  where
    clash : Copies ≡ Takes → ⊥
    clash e = cc
taken-so (Copies ∷ ms) (At c ∷ args) i (inr h) = taken-so ms args i h
taken-so (Copies ∷ ms) (Lit k ∷ args) i (inr h) = taken-so ms args i h
taken-so (LooksAt p ∷ ms) (a ∷ args) i (inl h) = absurd (clash h.0)
  where
    clash : LooksAt p ≡ Takes → ⊥
    clash e = cc
taken-so (LooksAt p ∷ ms) (At c ∷ args) i (inr h) = taken-so ms args i h
taken-so (LooksAt p ∷ ms) (Lit k ∷ args) i (inr h) = taken-so ms args i h
taken-so (CopiesOf p ∷ ms) (a ∷ args) i (inl h) = absurd (clash h.0)
  where
    clash : CopiesOf p ≡ Takes → ⊥
    clash e = cc
taken-so (CopiesOf p ∷ ms) (At c ∷ args) i (inr h) = taken-so ms args i h
taken-so (CopiesOf p ∷ ms) (Lit k ∷ args) i (inr h) = taken-so ms args i h

module _ (H : Handling) (args : List Operand) (here : ℕ → Bool) (out w : ℕ) where
  at-one : (i : ℕ) → follows_at H.keeps here (is_taken H.modes args) out w i ≡ true → ((out ≤ i) × (i < out + w) × (H.keeps i ≡ true)) ⊎ ((here i ≡ true) × (IsTaken H.modes args i → ⊥) × ((i < out) ⊎ (out + w ≤ i)))
  at-one i e = go (or-either (leb out i && (ltb i (out + w) && H.keeps i)) (here i && (not (is_taken H.modes args i) && (ltb i out || leb (out + w) i))) e)
    where
      beside : (ltb i out ≡ true) ⊎ (leb (out + w) i ≡ true) → (i < out) ⊎ (out + w ≤ i)
      beside (inl x) = inl (ltb-true i out x)
      beside (inr x) = inr (leb-true (out + w) i x)

      never : (b : Bool) → not b ≡ true → b ≡ true → ⊥
      never true e f = absurd cc
      never false e f = absurd cc

      go : (leb out i && (ltb i (out + w) && H.keeps i) ≡ true) ⊎ (here i && (not (is_taken H.modes args i) && (ltb i out || leb (out + w) i)) ≡ true)
          → ((out ≤ i) × (i < out + w) × (H.keeps i ≡ true)) ⊎ ((here i ≡ true) × (IsTaken H.modes args i → ⊥) × ((i < out) ⊎ (out + w ≤ i)))
      go (inl x) =
          let a = and-both (leb out i) (ltb i (out + w) && H.keeps i) x in
          let b = and-both (ltb i (out + w)) (H.keeps i) a.1 in
          inl (leb-true out i a.0, ltb-true i (out + w) b.0, b.1)
      go (inr x) =
          let a = and-both (here i) (not (is_taken H.modes args i) && (ltb i out || leb (out + w) i)) x in
          let b = and-both (not (is_taken H.modes args i)) (ltb i out || leb (out + w) i) a.1 in
          inr (a.0, (λ t. never (is_taken H.modes args i) b.0 (taken-so H.modes args i t)), beside (or-either (ltb i out) (leb (out + w) i) b.1))

  at-all : (is : List ℕ) → all_follow H.keeps here (is_taken H.modes args) out w is ≡ true → (i : ℕ) → IsIn i is → ((out ≤ i) × (i < out + w) × (H.keeps i ≡ true)) ⊎ ((here i ≡ true) × (IsTaken H.modes args i → ⊥) × ((i < out) ⊎ (out + w ≤ i)))
  at-all [] e i h = absurd h
  at-all (j ∷ is) e i (inl s) = let x = and-both (follows_at H.keeps here (is_taken H.modes args) out w j) (all_follow H.keeps here (is_taken H.modes args) out w is) e in at-one i (ap (follows_at H.keeps here (is_taken H.modes args) out w) s ∙ x.0)
  at-all (j ∷ is) e i (inr h) = let x = and-both (follows_at H.keeps here (is_taken H.modes args) out w j) (all_follow H.keeps here (is_taken H.modes args) out w is) e in at-all is x.1 i h

-- lists of live cells that follow by the test
abbrev Tested : List (List ℕ) → ℕ → (next out w : ℕ) → Type 0
Tested lists pc next out w =
    all_follow (handling pc).keeps (λ i. has (get_or lists pc []) i) (is_taken (handling pc).modes (reads_of (laid.code pc))) out w (get_or lists next []) ≡ true

followed : (lists : List (List ℕ)) (pc next out w : ℕ) → Tested lists pc next out w → Follows (λ pc i. has (get_or lists pc []) i) (handling pc) (reads_of (laid.code pc)) pc next out w
followed lists pc next out w e i l = at-all (handling pc) (reads_of (laid.code pc)) (λ i. has (get_or lists pc []) i) out w (get_or lists next []) e i (has-in (get_or lists next []) i l)

-- where a step leads to one place, and to two
leads-one : (pc next out w : ℕ) → Tested live_lists pc next out w → Tested own_lists pc next out w → (n o v : ℕ) → IsOneOf n o v ((next, out, w) ∷ [])
    → Follows live (handling pc) (reads_of (laid.code pc)) pc n o v × Follows own (handling pc) (reads_of (laid.code pc)) pc n o v
leads-one pc next out w a b n o v (inl h) =
    subst (λ z. Follows live (handling pc) (reads_of (laid.code pc)) pc z o v × Follows own (handling pc) (reads_of (laid.code pc)) pc z o v) (sym h.0)
    (subst (λ z. Follows live (handling pc) (reads_of (laid.code pc)) pc next z v × Follows own (handling pc) (reads_of (laid.code pc)) pc next z v) (sym h.1)
    (subst (λ z. Follows live (handling pc) (reads_of (laid.code pc)) pc next out z × Follows own (handling pc) (reads_of (laid.code pc)) pc next out z) (sym h.2)
    (followed live_lists pc next out w a, followed own_lists pc next out w b)))
leads-one pc next out w a b n o v (inr h) = absurd h

leads-two : (pc next out w next' out' w' : ℕ) → Tested live_lists pc next out w → Tested own_lists pc next out w → Tested live_lists pc next' out' w' → Tested own_lists pc next' out' w' → (n o v : ℕ) → IsOneOf n o v ((next, out, w) ∷ (next', out', w') ∷ [])
    → Follows live (handling pc) (reads_of (laid.code pc)) pc n o v × Follows own (handling pc) (reads_of (laid.code pc)) pc n o v
leads-two pc next out w next' out' w' a b c d n o v (inl h) = leads-one pc next out w a b n o v (inl h)
leads-two pc next out w next' out' w' a b c d n o v (inr h) = leads-one pc next' out' w' c d n o v h

uses-first : (live_at : ℕ → Bool) → live_at 0 ≡ true → (i : ℕ) → Uses elements_at i → live_at i ≡ true
uses-first live_at e i u = ap live_at u ∙ e

lively : (pc : ℕ) → IsLively live own (handling pc) pc (laid.code pc)
lively zero = record { reads = tt; leads_on = leads-one 0 1 0 0 refl refl; calls = tt }
lively (suc zero) = record { reads = tt; leads_on = leads-one 1 2 2 0 refl refl; calls = tt }
lively (suc (suc zero)) = record { reads = (refl, tt); leads_on = leads-one 2 3 2 1 refl refl; calls = tt }
lively (suc (suc (suc zero))) = record { reads = (uses-first (live 3) refl, tt); leads_on = leads-two 3 9 1 1 6 2 3 refl refl refl refl; calls = tt }
lively (suc (suc (suc (suc zero)))) = record { reads = ((λ i u. either i u), (tt, tt)); leads_on = leads-one 4 5 6 1 refl refl; calls = tt }
  where
    either : (i : ℕ) → Uses element_at i → live 4 i ≡ true
    either i (inl e) = ap (live 4) e
    either i (inr e) = ap (live 4) e
lively (suc (suc (suc (suc (suc zero))))) = record { reads = (refl, (refl, tt)); leads_on = leads-one 5 6 3 1 refl refl; calls = tt }
lively (suc (suc (suc (suc (suc (suc zero)))))) = record { reads = (refl, (uses-first (live 6) refl, tt)); leads_on = leads-two 6 4 4 2 7 0 0 refl refl refl refl; calls = tt }
lively (suc (suc (suc (suc (suc (suc (suc zero))))))) = record { reads = (tt, (refl, tt)); leads_on = leads-one 7 8 4 1 refl refl; calls = tt }
lively (suc (suc (suc (suc (suc (suc (suc (suc zero)))))))) = record { reads = (refl, tt); leads_on = leads-one 8 9 1 1 refl refl; calls = tt }
lively (suc (suc (suc (suc (suc (suc (suc (suc (suc zero))))))))) = record { reads = (refl, tt); leads_on = λ n o v h. absurd h; calls = tt }
lively (suc (suc (suc (suc (suc (suc (suc (suc (suc (suc pc)))))))))) = record { reads = tt; leads_on = λ n o v h. absurd h; calls = tt }

alike : AreAlike net (copying storage) (copying storage)
alike g = (((λ ks rs. refl), tt), (λ rs e. refl))

pub stored-code : IsStoredCode storage laid handling facts live own
stored-code = record { coded = coded; weighs = alike; handled = handled; preserves = preserves; lively = lively }

-- ---- a run of it is decided, on every argument and with every limit

inside : IsInside laid (λ f. 10) 10
inside = record { stays = λ f pc in_f from to. at pc (omega (arith, to)); begins = λ f in_f. omega arith; ends = λ f in_f. omega arith; inputs = λ f in_f. omega arith }
  where
    at : (pc : ℕ) → pc < 10 → Stays laid 7 0 10 pc (laid.code pc)
    at zero lt = omega arith
    at (suc zero) lt = (tt, omega arith, (omega arith, omega arith))
    at (suc (suc zero)) lt = ((omega arith, tt), omega arith, omega arith)
    at (suc (suc (suc zero))) lt = ((omega arith, tt), omega arith, (omega arith, omega arith), omega arith, (omega arith, omega arith))
    at (suc (suc (suc (suc zero)))) lt = ((omega arith, (tt, tt)), omega arith, omega arith)
    at (suc (suc (suc (suc (suc zero))))) lt = ((omega arith, tt), omega arith, (omega arith, omega arith))
    at (suc (suc (suc (suc (suc (suc zero)))))) lt = (omega arith, omega arith, omega arith, omega arith, (omega arith, omega arith))
    at (suc (suc (suc (suc (suc (suc (suc zero))))))) lt = ((tt, (omega arith, tt)), omega arith, omega arith)
    at (suc (suc (suc (suc (suc (suc (suc (suc zero)))))))) lt = ((omega arith, tt), omega arith, (omega arith, omega arith))
    at (suc (suc (suc (suc (suc (suc (suc (suc (suc zero))))))))) lt = (omega arith, tt)
    at (suc (suc (suc (suc (suc (suc (suc (suc (suc (suc pc)))))))))) lt = absurd (omega (arith, lt))

waits-none : (v : Vertex) → waits v ≡ [] → {l m : ℕ} → WaitsFor (v ∷ []) l m → ⊥
waits-none v e (straight {l = l} {m = m} i) = go (eqb v.label l) i
  where
    go : (b : Bool) → IsIn m (waits_of (if b then Some v else None)) → ⊥
    go true i = subst (IsIn m) e i
    go false i = i
waits-none v e (through a b) = waits-none v e a

one-orderly : (v : Vertex) → v.label ≡ 1 → waits v ≡ [] → IsOrderly (record { nodes = v ∷ []; results = Port 1 1 ∷ [] })
one-orderly v label e =
    record {
      once = ((λ i. i), tt);
      named = ((λ n i. absurd (subst (IsIn n) e i)), tt);
      results_named = λ n. elim [ inl z ↦ inl (z ∙ sym label) | inr i ↦ absurd i ];
      acyclic = λ l w. waits-none v e w;
    }

orderly : AreOrderly net
orderly zero = one-orderly over refl refl
orderly (suc zero) = one-orderly scatter refl refl
orderly (suc (suc zero)) = one-orderly longer refl refl
orderly (suc (suc (suc g))) = one-orderly gather refl refl

one-in-order : (v : Vertex) → v.label ≡ 1 → waits v ≡ [] → IsInOrder (record { nodes = v ∷ []; results = Port 1 1 ∷ [] }) (v ∷ [])
one-in-order v label e =
    record {
      nodes = (((λ z. let y = label in omega (arith, y, z)), ap (λ b. if b then Some v else None) (eq-eqb v.label v.label refl)), tt);
      all = λ n i. i;
      along = ((λ n i. absurd (subst (IsIn n) e i)), (λ i. i), tt);
    }

along : AreInOrder net (λ g. node_of g ∷ [])
along zero = one-in-order over refl refl
along (suc zero) = one-in-order scatter refl refl
along (suc (suc zero)) = one-in-order longer refl refl
along (suc (suc (suc g))) = one-in-order gather refl refl

begins : (k : Carried) → Begins laid facts live own 0 (k ∷ []) (first_cells (k ∷ [])) (λ i. get_or (k ∷ []) i Unfilled)
begins k = runs-begin laid facts live own 0 (k ∷ []) refl (λ i l. first i (has-in (0 ∷ []) i l)) (λ i l. absurd (never l))
  where
    first : (i : ℕ) → IsIn i (0 ∷ []) → i < 1
    first i (inl e) = omega (arith, e)
    first i (inr h) = absurd h

    never : false ≡ true → ⊥
    never e = absurd cc

pub decided-run : (k : Carried) (limit : ℕ)
    → ((rs : List Carried) × (c : ℕ) × (copies : ℕ) × EndsStored laid handling limit (entered_stored laid 0 (first_cells (k ∷ []))) rs c copies × IsCopied storage laid 0 (k ∷ []) rs c copies × (c ≤ limit))
    ⊎ (StopsStored laid handling limit (entered_stored laid 0 (first_cells (k ∷ []))) × ((d c : ℕ) → Costs net d 0 (k ∷ []) c → limit < c))
decided-run k limit =
    store-decided storage laid handling facts live own (λ f. 10) 10 limit stored-code inside orderly along 0 (k ∷ []) (first_cells (k ∷ [])) (λ i. get_or (k ∷ []) i Unfilled) (inl refl) refl (begins k)
