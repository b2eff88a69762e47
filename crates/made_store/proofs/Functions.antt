-- Functions whose places are set, and all code that is made.
use Rattle.std.proofs.Common.{◌≡◌, ℕ, zero, suc, ◌+◌, ◌<◌, ◌≤◌, inl, inr, eqb, ltb, if◌then◌else◌, Bool, true, false, List, [], ◌∷◌, length, map, get_or, take, refl, sym, ◌∙◌, subst, arith}
use Rattle.std.proofs.lemmas.Bool.{eq-eqb, ltb-false, ltb-true}
use Rattle.std.proofs.lemmas.List.{length-append, length-map}
use Rattle.graph_meaning.specs.Carried.{Carried}
use Rattle.graph_meaning.specs.Entered.{IsIn}
use Rattle.graph_meaning.specs.Demand.{Vertex, Network}
use Rattle.run_code.specs.Taking.{first_port, taken_by}
use Rattle.run_code.specs.Cells.{Operand, cells_at}
use Rattle.run_code.specs.Coded.{operand}
use Rattle.run_code.specs.Known.{known_after}
use Rattle.run_code.specs.Machine.{Weigh}
use Rattle.run_code.specs.Made.{Plan, Line, OfResults, ends_at, entry_from, function_lines, functions_lines, functions_size, graph_code, line, nodes_size, placed, room_of}
use Rattle.run_code.specs.Steps.{Add, Branch, Call, Count, Each, Fire, Keep, Move, Return, Spread, Step, Tag, Test}
use Rattle.run_made.specs.Facts.{AllPlaces, Preserves}
use Rattle.run_made.proofs.Lengths.{graph-long}
use Rattle.run_made.proofs.Lying.{eqb-sound}
use Rattle.run_made.proofs.Making.{function-long, lines-lie, made}
use Rattle.run_made.specs.Plans.{CanLay, IsRightPlan, Weighing, adds, laid, last_line, lines_of}
use Rattle.run_store.specs.Effects.{reads_of}
use Rattle.run_store.specs.Lively.{Live}
use Rattle.run_store.specs.Refines.{IsWeighed}
use Rattle.run_store.specs.Stored.{Handling, copied}
use Rattle.made_store.proofs.Flows.{AllFine, FineAt, Opens, fine-at, fine-both, may-modes, modes-last, none-copied, plain-modes, set-opens}
use Rattle.made_store.proofs.Nodes.{ends-so, graph-fine, kind-opens}
use Rattle.made_store.proofs.Owned.{cells-is}
use Rattle.made_store.proofs.Scenes.{IsScene}
use Rattle.made_store.proofs.Walks.{begins-live, begins-own}
use Rattle.made_store.specs.Last.{AreTakenLast}
use Rattle.made_store.specs.Laws.{IsSetStored}
use Rattle.made_store.specs.Settings.{Cells_of, FunctionSet, FunctionsSet, GraphSet, NodesSet, Shares, cells_where, either_of, live_behind, live_in, none_of, own_behind, own_in, result_modes, taken_in}
use Rattle.made_store.specs.Shared.{IsShared}

-- the inputs of a function stand in its first cells, and nothing else is kept
function-scene : (S : Shares) (f n : ℕ) → IsScene S none_of none_of (cells_at 0 n) f n
function-scene S f n =
    record {
      below = λ j i t e.
          let x = cells-is 0 n j i e in
          let lt = x.0 in
          let s = x.1 in
          omega (arith, lt, s);
      kept = λ i e. absurd (let x : false ≡ true = e in cc);
      held = λ i e. absurd (let x : false ≡ true = e in cc);
      apart = λ j i o e. (
        (λ k. let x : false ≡ true = k in cc),
        (λ k. let x : false ≡ true = k in cc),
        λ q t f.
            let x = (cells-is 0 n j i e).1 in
            let y = (cells-is 0 n q i f).1 in
            omega (arith, x, y),
      );
    }

module _ (P : Plan) (S : Shares) (W : Weighing) (u : Network) (order : ℕ → List Vertex) (functions : List ℕ) (n : ℕ) (handling : ℕ → Handling) (live own : Live) (right : IsRightPlan P W u order functions n) (shared : (g : ℕ) → IsShared P S W g) where
  -- what is live where a function begins
  graph-opens : (levels : ℕ) (keep hold : Cells_of) (args : List Operand) (g a lo : ℕ) → CanLay P W u order functions levels g → IsScene S keep hold args g lo → GraphSet P S handling live own levels keep hold args g a lo
      → Opens W handling live own (a + P.size g) (live_behind P S keep args g lo) (own_behind P S hold args g lo)
      → Opens W handling live own a (either_of keep (cells_where (S.has g) args)) (either_of hold (cells_where (S.owns g) args))
  graph-opens zero keep hold args g a lo lays scene set next = absurd lays
  graph-opens (suc m) keep hold args g a lo lays scene set next =
      let z = (right.sized g).0 in
      let x = go (P.nodes g) refl set (subst (λ s. Opens W handling live own (a + s) (live_behind P S keep args g lo) (own_behind P S hold args g lo)) z next) in
      ((λ i e. begins-live P S W keep hold args g lo (shared g) scene i (x.0 i e)), λ i e. begins-own P S W keep hold args g lo (shared g) scene i (x.1 i e))
    where
      go : (vs : List Vertex) → P.nodes g ≡ vs → NodesSet P S handling live own (GraphSet P S handling live own m) keep hold args g lo [] [] vs a lo
          → Opens W handling live own (a + nodes_size P vs) (live_in P S keep args g lo (known_after P.width [] vs) (taken_in P S g [] vs)) (own_in P S hold args g lo (known_after P.width [] vs) (taken_in P S g [] vs))
          → Opens W handling live own a (live_in P S keep args g lo [] []) (own_in P S hold args g lo [] [])
      go [] is s o = let z : a + 0 ≡ a = omega arith in subst (λ pc. Opens W handling live own pc (live_in P S keep args g lo [] []) (own_in P S hold args g lo [] [])) z o
      go (v ∷ vs) is s o =
          let after = taken_by (S.takes g v.label) (first_port v.kind) v.ins [] in
          kind-opens P S W handling live own (GraphSet P S handling live own m) g v (live_in P S keep args g lo [] []) (own_in P S hold args g lo [] []) (live_in P S keep args g lo [] after) (own_in P S hold args g lo [] after)
          (map (operand (placed P args (P.nodes g) lo)) v.ins) v.kind a lo s.0

  function-opens : (f a : ℕ) → IsIn f functions → FunctionSet P S handling live own n f a → Opens W handling live own a (cells_where (S.has f) (cells_at 0 (P.params f))) (cells_where (S.owns f) (cells_at 0 (P.params f)))
  function-opens f a in_f set =
      let args = cells_at 0 (P.params f) in
      let o = graph-opens n none_of none_of args f a (P.params f) (right.graphs f in_f).1 (function-scene S f (P.params f)) set.0
      (set-opens W handling live own (a + P.size f) (result_modes P S f) [] (live_behind P S none_of args f (P.params f)) (own_behind P S none_of args f (P.params f)) set.1) in
      ((λ i e. o.0 i e), λ i e. o.1 i e)

  -- a function that is set at its entry
  each-set : (fs : List ℕ) (a : ℕ) → FunctionsSet P S handling live own n fs a → (f : ℕ) → IsIn f fs → FunctionSet P S handling live own n f (entry_from P fs a f)
  each-set [] a set f in_f = absurd in_f
  each-set (h ∷ hs) a set f in_f = go (eqb h f) (eqb-sound h f) (λ e. eq-eqb h f e) in_f (λ there. each-set hs (a + suc (P.size h)) set.1 f there)
    where
      go : (c : Bool) → (c ≡ true → h ≡ f) → (h ≡ f → c ≡ true) → IsIn f (h ∷ hs) → (IsIn f hs → FunctionSet P S handling live own n f (entry_from P hs (a + suc (P.size h)) f))
          → FunctionSet P S handling live own n f (if c then a else entry_from P hs (a + suc (P.size h)) f)
      go true sound total in_fs later = subst (λ x. FunctionSet P S handling live own n x a) (sound refl) set.0
      go false sound total (inl e) later = absurd (let x : false ≡ true = total (sym e) in cc)
      go false sound total (inr there) later = later there

  module _ (sets : FunctionsSet P S handling live own n functions 0) where
    pub entries-open : (f : ℕ) → IsIn f functions → Opens W handling live own (P.entry f) (cells_where (S.has f) (cells_at 0 (P.params f))) (cells_where (S.owns f) (cells_at 0 (P.params f)))
    entries-open f in_f = function-opens f (P.entry f) in_f (subst (λ a. FunctionSet P S handling live own n f a) (sym (right.entries f in_f)) (each-set functions 0 sets f in_f))

    function-fine : (f a : ℕ) → IsIn f functions → FunctionSet P S handling live own n f a → AllFine W handling live own a (function_lines P n f a)
    function-fine f a in_f set =
        let room = room_of P f in
        let args = cells_at 0 (P.params f) in
        let m = a + P.size f in
        let froms = ends_at P args f (P.params f) in
        let lives = live_behind P S none_of args f (P.params f) in
        let owns = own_behind P S none_of args f (P.params f) in
        let lays = (right.graphs f in_f).1 in
        let scene = function-scene S f (P.params f) in
        let e = ends-so P S W u order functions handling live own room shared entries-open n none_of none_of args f (P.params f) lays scene in
        let x = graph-fine P S W u order functions handling live own room shared entries-open right.sized n none_of none_of args f a (P.params f) lays scene set.0 (omega arith) (set-opens W handling live own m (result_modes P S f) [] lives owns set.1) in
        let one = graph-long P W u order functions right.sized n room args f a (P.params f) lays in
        let leave = fine-at W handling live own m (line (OfResults f) (Return froms)) (result_modes P S f) [] lives owns set.1 (plain-modes (S.takes f 0) (S.copies f 0) 1 (P.results f)) tt (shared f).results
        (may-modes live own m (S.takes f 0) (S.copies f 0) (P.results f) froms 1 (length-map (P.results f) (operand (placed P args (P.nodes f) (P.params f)))) (λ j i h. set.1.1 i ∙ e.looks j i h) (λ j i t h. set.1.2 i ∙ (e.takes j i t h).0))
        (modes-last (S.takes f 0) (S.copies f 0) (P.results f) froms 1 (length-map (P.results f) (operand (placed P args (P.nodes f) (P.params f)))) e.once) tt tt in
        fine-both W handling live own a m (graph_code P n room args f a (P.params f)) (line (OfResults f) (Return froms) ∷ []) (omega (arith, one)) x.0 (leave, tt)

    functions-fine : (fs : List ℕ) (a : ℕ) → ((f : ℕ) → IsIn f fs → IsIn f functions) → FunctionsSet P S handling live own n fs a → AllFine W handling live own a (functions_lines P n fs a)
    functions-fine [] a of set = tt
    functions-fine (f ∷ fs) a of set =
        let long = function-long P W u order functions n right f a (of f (inl refl)) in
        fine-both W handling live own a (a + suc (P.size f)) (function_lines P n f a) (functions_lines P n fs (a + suc (P.size f))) (omega (arith, long)) (function-fine f a (of f (inl refl)) set.0)
        (functions-fine fs (a + suc (P.size f)) (λ x i. of x (inr i)) set.1)

    functions-long : (fs : List ℕ) (a : ℕ) → ((f : ℕ) → IsIn f fs → IsIn f functions) → length (functions_lines P n fs a) ≡ functions_size P fs
    functions-long [] a of = refl
    functions-long (f ∷ fs) a of =
        let long = function-long P W u order functions n right f a (of f (inl refl)) in
        let more = functions-long fs (a + suc (P.size f)) (λ x i. of x (inr i)) in
        length-append (function_lines P n f a) (functions_lines P n fs (a + suc (P.size f))) ∙ omega (arith, long, more)

    all-at : (a : ℕ) (ls : List Line) → AllFine W handling live own a ls → (i : ℕ) → i < length ls → FineAt W handling live own (a + i) (get_or ls i last_line)
    all-at a [] h i lt = absurd (omega (arith, lt))
    all-at a (l ∷ ls) h zero lt = let z : a ≡ a + 0 = omega arith in subst (λ pc. FineAt W handling live own pc l) z h.0
    all-at a (l ∷ ls) h (suc i) lt = let z : suc a + i ≡ a + suc i = omega arith in subst (λ pc. FineAt W handling live own pc (get_or ls i last_line)) z (all-at (suc a) ls h.1 i (omega (arith, lt)))

    past-last : (ls : List Line) (i : ℕ) → length ls ≤ i → get_or ls i last_line ≡ last_line
    past-last [] i le = refl
    past-last (l ∷ ls) zero le = absurd (omega (arith, le))
    past-last (l ∷ ls) (suc i) le = past-last ls i (omega (arith, le))

    each-fine : ((pc : ℕ) → functions_size P functions ≤ pc → (handling pc).modes ≡ []) → (pc : ℕ) → FineAt W handling live own pc (get_or (lines_of P W u order functions n) pc last_line)
    each-fine after pc = go (ltb pc (length ls)) refl
      where
        ls : List Line
        ls = lines_of P W u order functions n

        go : (c : Bool) → ltb pc (length ls) ≡ c → FineAt W handling live own pc (get_or ls pc last_line)
        go true e =
            let z : 0 + pc ≡ pc = omega arith in
            subst (λ m. FineAt W handling live own m (get_or ls pc last_line)) z (all-at 0 ls (functions-fine functions 0 (λ x i. i) sets) pc (ltb-true pc (length ls) e))
        go false e =
            let le = ltb-false pc (length ls) e in
            let long = functions-long functions 0 (λ x i. i) in
            let none = after pc (omega (arith, le, long)) in
            subst (λ l. FineAt W handling live own pc l) (sym (past-last ls pc (omega (arith, le)))) (
              record { paths = tt; lends = tt; weighed = λ ks. subst (λ ms. copied ms ks ≡ 0) (sym none) (none-copied ks) },
              record { reads = tt; leads_on = λ next out w o. absurd o; calls = tt },
              tt,
            )

-- weights that are the same at a place
weighed-as : (weigh other : Weigh) (H : Handling) (pc : ℕ) → ((ks rs : List Carried) → weigh pc ks rs ≡ other pc ks rs) → (x : Step) → IsWeighed weigh H pc x → IsWeighed other H pc x
weighed-as weigh other H pc same (Fire row shape ins out w) h = tt
weighed-as weigh other H pc same Count h = h
weighed-as weigh other H pc same (Move froms out w next) h = λ ks. h ks ∙ same ks []
weighed-as weigh other H pc same (Tag union ts content out w next) h = h
weighed-as weigh other H pc same (Branch sel ts out w next) h = h
weighed-as weigh other H pc same (Test test turn leave out w next) h = h
weighed-as weigh other H pc same (Keep begins cs froms out next) h = λ ks. h ks ∙ same (take (length froms) ks) []
weighed-as weigh other H pc same (Spread froms cs to turns out w next) h = λ ks. h ks ∙ same ks []
weighed-as weigh other H pc same (Each m from count turn leave) h = h
weighed-as weigh other H pc same (Add cs froms out next) h = λ ks. h ks ∙ same (take (length froms) ks) []
weighed-as weigh other H pc same (Call entry size args out w) h = λ ks. h ks ∙ same ks []
weighed-as weigh other H pc same (Return froms) h = λ ks. h ks ∙ same ks []

-- nothing is known
all-none : (ts : List ℕ) → AllPlaces (λ t. Unit {0}) ts
all-none [] = tt
all-none (t ∷ ts) = (tt, all-none ts)

none-known : (pc : ℕ) (x : Step) → Preserves (λ p. []) pc x
none-known pc (Fire row shape ins out w) = tt
none-known pc Count = tt
none-known pc (Move froms out w next) = tt
none-known pc (Tag union ts content out w next) = (all-none ts, tt)
none-known pc (Branch sel ts out w next) = (all-none ts, tt)
none-known pc (Test test turn leave out w next) = (tt, tt, tt)
none-known pc (Keep begins cs froms out next) = tt
none-known pc (Spread froms cs to turns out w next) = (tt, tt)
none-known pc (Each m from count turn leave) = (tt, tt)
none-known pc (Add cs froms out next) = tt
none-known pc (Call entry size args out w) = (refl, tt)
none-known pc (Return froms) = tt

pub set-stored : IsSetStored
set-stored P S W u order functions n handling live own s right shared sets after alike =
    let X = laid P W u order functions n in
    let ls = lines_of P W u order functions n in
    record {
      coded = made P W u order functions n X.code X.weigh right (lines-lie P W u order functions n);
      weighs = alike;
      handled = λ pc.
          let f = (each-fine P S W u order functions n handling live own right shared sets after pc).0 in
          record { paths = f.paths; lends = f.lends; weighed = weighed-as (λ p ks rs. adds W (get_or ls pc last_line).origin ks rs) X.weigh (handling pc) pc (λ ks rs. refl) (X.code pc) f.weighed };
      preserves = λ pc. none-known pc (X.code pc);
      lively = λ pc. (each-fine P S W u order functions n handling live own right shared sets after pc).1;
    }

pub set-last : (P : Plan) (S : Shares) (W : Weighing) (u : Network) (order : ℕ → List Vertex) (functions : List ℕ) (n : ℕ) (handling : ℕ → Handling) (live own : Live) → IsRightPlan P W u order functions n → ((g : ℕ) → IsShared P S W g)
    → FunctionsSet P S handling live own n functions 0 → ((pc : ℕ) → functions_size P functions ≤ pc → (handling pc).modes ≡ []) → (pc : ℕ) → AreTakenLast (handling pc).modes (reads_of ((laid P W u order functions n).code pc))
set-last P S W u order functions n handling live own right shared sets after pc = (each-fine P S W u order functions n handling live own right shared sets after pc).2
