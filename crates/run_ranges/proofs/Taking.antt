-- In code that is made of a plan with shares that are right, no iteration takes what stands below its collections: a graph takes what it
-- owns of its inputs, and what its nodes give.
use Rattle.std.proofs.Common.{◌≡◌, ℕ, zero, suc, ◌+◌, ◌-◌, ◌<◌, ◌≤◌, ◌⊎◌, inl, inr, eqb, ltb, if◌then◌else◌, Bool, true, false, Some, List, [], ◌∷◌, ◌++◌, drop, length, map, get_or, slice_get, refl, sym, ap, ◌∙◌, subst, arith}
use Rattle.std.proofs.lemmas.Bool.{ltb-false, ltb-true}
use Rattle.std.proofs.lemmas.List.{length-append, length-map}
use Rattle.graph_meaning.specs.Carried.{Unfilled}
use Rattle.graph_meaning.specs.Demand.{EachNode, Kind, Network, Plain, Source, Vertex, Whole}
use Rattle.graph_meaning.specs.Entered.{IsIn}
use Rattle.graph_meaning.specs.Forms as form
use Rattle.run_code.specs.Cells.{At, Lit, Operand, cells_at, own_cells, picked}
use Rattle.run_code.specs.Coded.{operand}
use Rattle.run_code.specs.Collections.{Collect, Final, sifts_in}
use Rattle.run_code.specs.Known.{Known}
use Rattle.run_code.specs.Machine.{Weigh}
use Rattle.run_code.specs.Made.{IsSized, Line, Makes, OfInputs, OfNothing, OfResults, OfRows, Plan, arm_code, arms_at, arms_code, end_at, ends_at, for_all_code, function_lines, functions_lines, functions_size, graph_code, kind_code, kind_size, line, loop_code, nodes_code, parts_code, placed, put, room_of, select_code, stand, tag_code}
use Rattle.run_code.specs.Steps.{Add, Branch, Call, Code, Count, Each, Fire, Keep, Move, Return, Spread, Step, Tag, Test}
use Rattle.run_code.specs.Taking.{Fills, Taken, first_port, taken_by}
use Rattle.run_made.proofs.Lengths.{IsLong, arm-long, graph-long, kind-long}
use Rattle.run_made.proofs.Lying.{lies-first, lies-rest, own-long}
use Rattle.run_made.proofs.Making.{function-long}
use Rattle.run_made.specs.Plans.{All, CanLay, IsInner, IsKindRight, IsRightPlan, Lie, Weighing, laid_as}
use Rattle.run_store.specs.Effects.{reads_of}
use Rattle.run_store.specs.Lively.{Live}
use Rattle.run_store.specs.Ports.{copies_of, modes_of}
use Rattle.run_store.specs.Refines.{IsTaken}
use Rattle.run_store.specs.Stored.{Handling, Looks, Mode, Takes}
use Rattle.made_store.proofs.Alive.{lit-no, or-either, reads-there, same-cell, seat-is, true-false}
use Rattle.made_store.proofs.Around.{taken-index}
use Rattle.made_store.proofs.Behind.{cells-long, stand-is, takes-range}
use Rattle.made_store.proofs.Flows.{copies-untaken, modes-long, none-taken, taken-of}
use Rattle.made_store.proofs.Owned.{cells-is, get-split, own-get}
use Rattle.made_store.proofs.Scenes.{filled}
use Rattle.made_store.specs.Settings.{ArmsSet, BeginSet, Cells_of, ForAllSet, FunctionSet, FunctionsSet, GraphSet, IsSet, KindSet, LoopSet, NodesSet, PartSet, PartsSet, SelectSet, Sets, Shares, TagSet, gives, modes_at, result_modes, seats, sifts_of, takes_all}
use Rattle.made_store.specs.Shared.{AreThere, IsKindShared, IsLoopShared, IsShared, OwnsGiven, OwnsNone, OwnsPast, TakesOwned}
use Rattle.run_ranges.proofs.Finding.{IsOther, no-each}
use Rattle.run_ranges.proofs.Stepped.{each-of}
use Rattle.run_ranges.specs.Ranges.{count_of, iterations}
use Rattle.run_ranges.specs.Taken.{DoEachesTakeAbove}

-- ---- operands

-- the outputs of nodes stand from a cell on
put-up : (P : Plan) (vs : List Vertex) (lo l p i : ℕ) → put P vs lo l p ≡ At i → lo ≤ i
put-up P [] lo l p i e = absurd (lit-no i e)
put-up P (v ∷ vs) lo l p i e = go (eqb v.label l) e (λ e. let le = put-up P vs (lo + P.width v) l p i e in omega (arith, le))
  where
    here : (c : Bool) → (if c then At (lo + (p - 1)) else Lit Unfilled) ≡ At i → lo ≤ i
    here true e = let s = same-cell (lo + (p - 1)) i e in omega (arith, s)
    here false e = absurd (lit-no i e)

    go : (c : Bool) → (if c then (if ltb (p - 1) (P.width v) then At (lo + (p - 1)) else Lit Unfilled) else put P vs (lo + P.width v) l p) ≡ At i → (put P vs (lo + P.width v) l p ≡ At i → lo ≤ i) → lo ≤ i
    go true e later = here (ltb (p - 1) (P.width v)) e
    go false e later = later e

looks-not : (A : Type 0) → Looks ≡ Takes → A
looks-not A e = absurd (let x : Looks ≡ Takes = e in cc)

same-each : (n first count turn leave n' first' count' turn' leave' : ℕ) → Each n first count turn leave ≡ Each n' first' count' turn' leave' → (n ≡ n') × (first ≡ first') × (turn ≡ turn')
same-each n first count turn leave n' first' count' turn' leave' e = (cc, cc, cc)

module _ (P : Plan) (S : Shares) (W : Weighing) (shared : (g : ℕ) → IsShared P S W g) (low : ℕ) where
  -- the operands that a graph owns stand from this cell on
  abbrev pub OwnedUp : (graph : ℕ) → List Operand → Type 0
  OwnedUp g args = (j i : ℕ) → S.owns g (suc j) ≡ true → get_or args j (Lit Unfilled) ≡ At i → low ≤ i

  -- so does an operand that is taken in the graph
  operand-up : (g l first lo : ℕ) (args : List Operand) (os : List Source) → OwnedUp g args → low ≤ lo → AreThere P S W g os → TakesOwned P S W g l first os
      → (j i : ℕ) → S.takes g l (first + j) ≡ true → get_or (map (operand (placed P args (P.nodes g) lo)) os) j (Lit Unfilled) ≡ At i → low ≤ i
  operand-up g l first lo args os up le there owned j i t e =
      let x = filled (seats P (S.has g) args (P.nodes g) lo) os first j i (subst (λ z. get_or z j (Lit Unfilled) ≡ At i) (sym (reads-there P S W g args (P.nodes g) lo os there)) e) in
      go x.0 x.1 x.3 (λ is. owned (first + j) x.1 (subst (λ z. Fills (first + j) os first z x.1) is x.2) t)
    where
      go : (m p : ℕ) → seats P (S.has g) args (P.nodes g) lo m p ≡ At i → (m ≡ 0 → S.owns g p ≡ true) → low ≤ i
      go zero p e own =
          let y = seat-is P (S.has g) args (P.nodes g) lo p i e in
          up y.0 i (subst (λ z. S.owns g z ≡ true) y.1 (own refl)) y.3
      go (suc m) p e own = let more = put-up P (P.nodes g) lo (suc m) p i e in omega (arith, le, more)

  -- of what is taken in a list of modes by ports
  taken-up : (g l first lo : ℕ) (args : List Operand) (os : List Source) → OwnedUp g args → low ≤ lo → AreThere P S W g os → TakesOwned P S W g l first os
      → (i : ℕ) → IsTaken (modes_of (S.takes g l) (S.copies g l) first os) (map (operand (placed P args (P.nodes g) lo)) os) i → low ≤ i
  taken-up g l first lo args os up le there owned i h =
      let places = placed P args (P.nodes g) lo in
      let x = taken-index (S.takes g l) (S.copies g l) os (map (operand places) os) first i (length-map os (operand places)) h in
      operand-up g l first lo args os up le there owned x.0 i x.1 x.2

  results-up : (g lo : ℕ) (args : List Operand) → OwnedUp g args → low ≤ lo → (i : ℕ) → IsTaken (result_modes P S g) (ends_at P args g lo) i → low ≤ i
  results-up g lo args up le i h = taken-up g 0 1 lo args (P.results g) up le (shared g).results_there (shared g).results_owned i h

  none-up : (g : ℕ) (args : List Operand) → OwnsNone P S W g → OwnedUp g args
  none-up g args none j i o e = absurd (true-false (S.owns g (suc j)) o (none (suc j)))

  -- where a part owns only what stands behind some operands
  behind-up : (g n : ℕ) (xs ys : List Operand) → length xs ≡ n → OwnsPast P S W n g → ((k i : ℕ) → get_or ys k (Lit Unfilled) ≡ At i → low ≤ i) → OwnedUp g (xs ++ ys)
  behind-up g n xs ys many past up j i o e = go (get-split xs ys j i e)
    where
      go : ((j < length xs) × (get_or xs j (Lit Unfilled) ≡ At i)) ⊎ ((k : ℕ) × (j ≡ length xs + k) × (get_or ys k (Lit Unfilled) ≡ At i)) → low ≤ i
      go (inl x) = let lt = x.0 in let more = past (suc j) o in absurd (omega (arith, lt, more, many))
      go (inr x) = up x.0 i x.2

  cells-up : (c n : ℕ) → low ≤ c → (k i : ℕ) → get_or (cells_at c n) k (Lit Unfilled) ≡ At i → low ≤ i
  cells-up c n le k i e = let x = (cells-is c n k i e).1 in omega (arith, le, x)

  stand-up : (cs : List Collect) (own from : ℕ) → low ≤ own → low ≤ from → (k i : ℕ) → get_or (stand P cs own from) k (Lit Unfilled) ≡ At i → low ≤ i
  stand-up cs own from le le' k i e = go (stand-is P cs own from k i e)
    where
      go : ((own ≤ i) × (i < own + length (sifts_in cs))) ⊎ ((c : ℕ) × (slice_get cs k ≡ Some (Final c)) × (i ≡ from + c)) → low ≤ i
      go (inl x) = let a = x.0 in omega (arith, le, a)
      go (inr x) = let a = x.2 in omega (arith, le', a)

  -- what a node gives its parts
  abbrev GivenUp : (graph : ℕ) → Vertex → List Operand → Type 0
  GivenUp g v own = (j i : ℕ) → gives P S g v (suc j) ≡ true → get_or own j (Lit Unfilled) ≡ At i → low ≤ i

  given-up : (g : ℕ) (v : Vertex) (lo c : ℕ) (args : List Operand) → first_port v.kind ≡ 1 → OwnedUp g args → low ≤ lo → low ≤ c → AreThere P S W g v.ins → TakesOwned P S W g v.label (first_port v.kind) v.ins
      → GivenUp g v (own_cells (P.picks g v) (map (operand (placed P args (P.nodes g) lo)) v.ins) c)
  given-up g v lo c args one up le more there owned j i given e =
      go (own-get (P.picks g v) (map (operand (placed P args (P.nodes g) lo)) v.ins) c j i e) (or-either (get_or (P.picks g v) (suc j - 1) false) (S.takes g v.label (suc j)) given)
    where
      ins : List Operand
      ins = map (operand (placed P args (P.nodes g) lo)) v.ins

      at_j : suc j - 1 ≡ j
      at_j = omega arith

      port : suc j ≡ first_port v.kind + j
      port = omega (arith, one)

      go : ((get_or (P.picks g v) j false ≡ true) × (c ≤ i) × (i < c + length (picked (P.picks g v) ins))) ⊎ ((get_or (P.picks g v) j false ≡ false) × (get_or ins j (Lit Unfilled) ≡ At i))
          → (get_or (P.picks g v) (suc j - 1) false ≡ true) ⊎ (S.takes g v.label (suc j) ≡ true) → low ≤ i
      go (inl x) t = let a = x.1 in omega (arith, more, a)
      go (inr x) (inl p) = absurd (true-false (get_or (P.picks g v) j false) (subst (λ z. get_or (P.picks g v) z false ≡ true) at_j p) x.0)
      go (inr x) (inr t) = operand-up g v.label (first_port v.kind) lo args v.ins up le there owned j i (subst (λ z. S.takes g v.label z ≡ true) port t) x.1

  given-owned : (g : ℕ) (v : Vertex) (own : List Operand) (h : ℕ) → GivenUp g v own → OwnsGiven P S W g v h → OwnedUp h own
  given-owned g v own h up given j i o e = up j i (given (suc j) o) e

  arms-owned : (g : ℕ) (v : Vertex) (own : List Operand) (gs : List ℕ) → GivenUp g v own → All (OwnsGiven P S W g v) gs → All (λ h. OwnedUp h own) gs
  arms-owned g v own [] up h = tt
  arms-owned g v own (x ∷ xs) up h = (given-owned g v own x up h.0, arms-owned g v own xs up h.1)

  -- the content of a union stands first
  tag-owned : (g : ℕ) (v : Vertex) (own : List Operand) (mid : ℕ) (gs : List ℕ) → low ≤ mid → GivenUp g v own → All (λ h. (p : ℕ) → S.owns h (suc (suc p)) ≡ true → gives P S g v (suc (suc p)) ≡ true) gs → All (λ h. OwnedUp h (At mid ∷ drop 1 own)) gs
  tag-owned g v own mid [] le up h = tt
  tag-owned g v own mid (x ∷ xs) le up h = (one, tag-owned g v own mid xs le up h.1)
    where
      shifted : (own : List Operand) (j i : ℕ) → get_or (drop 1 own) j (Lit Unfilled) ≡ At i → get_or own (suc j) (Lit Unfilled) ≡ At i
      shifted [] j i e = e
      shifted (a ∷ args) j i e = e

      one : OwnedUp x (At mid ∷ drop 1 own)
      one zero i o e = let s = same-cell mid i e in omega (arith, le, s)
      one (suc j) i o e = up (suc j) i (h.0 j o) (shifted own j i e)

-- ---- steps

module _ (P : Plan) (S : Shares) (W : Weighing) (u : Network) (order : ℕ → List Vertex) (functions : List ℕ) (code : Code) (weigh : Weigh) (handling : ℕ → Handling) (live own : Live) (shared : (g : ℕ) → IsShared P S W g) where
  -- the step of this place takes no cell below this one
  abbrev pub TakesFrom : (low pc : ℕ) → Type 0
  TakesFrom low pc = (i : ℕ) → IsTaken (handling pc).modes (reads_of (code pc)) i → low ≤ i

  -- and where it is an Each, no step from its body to it takes a cell below the collections
  abbrev pub BodyTakes : (pc : ℕ) → Type 0
  BodyTakes pc = (n first count turn leave : ℕ) → code pc ≡ Each n first count turn leave → (q : ℕ) → turn ≤ q → q ≤ pc → TakesFrom (first + n) q

  abbrev AllTake : (low place : ℕ) → List Line → Type 0
  AllTake low a [] = Unit {0}
  AllTake low a (l ∷ ls) = (TakesFrom low a × BodyTakes a) × AllTake low (suc a) ls

  take-both : (low a b : ℕ) (xs ys : List Line) → b ≡ a + length xs → AllTake low a xs → AllTake low b ys → AllTake low a (xs ++ ys)
  take-both low a b [] ys e f g = subst (λ x. AllTake low x ys) (omega (arith, e)) g
  take-both low a b (x ∷ xs) ys e f g = (f.0, take-both low (suc a) b xs ys (omega (arith, e)) f.1 g)

  take-at : (low a : ℕ) (xs : List Line) → AllTake low a xs → (pc : ℕ) → a ≤ pc → pc < a + length xs → TakesFrom low pc × BodyTakes pc
  take-at low a [] h pc le lt = absurd (omega (arith, le, lt))
  take-at low a (x ∷ xs) h pc le lt = go (ltb a pc) refl (λ more. take-at low (suc a) xs h.1 pc (omega (arith, more)) (omega (arith, lt)))
    where
      go : (c : Bool) → ltb a pc ≡ c → (a < pc → TakesFrom low pc × BodyTakes pc) → TakesFrom low pc × BodyTakes pc
      go true e later = later (ltb-true a pc e)
      go false e later = let no = ltb-false a pc e in let same : a ≡ pc = omega (arith, le, no) in subst (λ z. TakesFrom low z × BodyTakes z) same h.0

  take-less : (low high a : ℕ) (xs : List Line) → low ≤ high → AllTake high a xs → AllTake low a xs
  take-less low high a [] le h = tt
  take-less low high a (x ∷ xs) le h = (((λ i t. let up = h.0.0 i t in omega (arith, le, up)), h.0.1), take-less low high (suc a) xs le h.1)

  -- what a step that is set so takes
  takes : (low pc : ℕ) (x : Step) (ms : List Mode) (puts : List Bool) (lives owns : Cells_of) → code pc ≡ x → IsSet P S handling live own pc ms puts lives owns → ((i : ℕ) → IsTaken ms (reads_of x) i → low ≤ i) → TakesFrom low pc
  takes low pc x ms puts lives owns is set up i h = up i (subst (λ z. IsTaken ms (reads_of z) i) is (subst (λ z. IsTaken z (reads_of (code pc)) i) (ap (λ (z : Handling). z.modes) set.0) h))

  step : (low pc : ℕ) (x : Step) (ms : List Mode) (puts : List Bool) (lives owns : Cells_of) → IsOther x → code pc ≡ x → IsSet P S handling live own pc ms puts lives owns → ((i : ℕ) → IsTaken ms (reads_of x) i → low ≤ i) → TakesFrom low pc × BodyTakes pc
  step low pc x ms puts lives owns o is set up = (takes low pc x ms puts lives owns is set up, λ n first count turn leave e. absurd (no-each x o n first count turn leave (sym is ∙ e)))

  module _ (room : ℕ) (make : Makes P) (sets : Sets P S handling live own) (lays : ℕ → Type 0) (long : IsLong P make lays) where
    abbrev DoTake : Type 0
    DoTake = (low : ℕ) (keep hold : Cells_of) (args : List Operand) (g a lo : ℕ) → lays g → OwnedUp P S W shared low g args → low ≤ lo → sets keep hold args g a lo → Lie W code weigh a (make room args g a lo) → AllTake low a (make room args g a lo)

    abbrev Set : (keep hold : Cells_of) → List Operand → (graph place lo : ℕ) → List Mode → List Bool → Type 0
    Set keep hold args g a lo ms puts = PartSet P S handling live own sets keep hold args g a lo ms puts

    abbrev Inner : ℕ → Type 0
    Inner g = IsInner P W u order functions lays g

    module _ (take : (low : ℕ) (keep hold : Cells_of) (args : List Operand) (g a lo : ℕ) → lays g → OwnedUp P S W shared low g args → low ≤ lo → sets keep hold args g a lo → Lie W code weigh a (make room args g a lo) → AllTake low a (make room args g a lo)) where
      -- a graph and the step behind it
      part-take : (low : ℕ) (keep hold : Cells_of) (args : List Operand) (g a lo : ℕ) (ms : List Mode) (puts : List Bool) (l : Line) (ls : List Line) → lays g → OwnedUp P S W shared low g args → low ≤ lo
          → Set keep hold args g a lo ms puts → Lie W code weigh a (make room args g a lo ++ l ∷ ls) → IsOther l.step → ((i : ℕ) → IsTaken ms (reads_of l.step) i → low ≤ i) → AllTake low (suc (a + P.size g)) ls
          → AllTake low a (make room args g a lo ++ l ∷ ls)
      part-take low keep hold args g a lo ms puts l ls lay up le set lies other taken rest =
          let m = a + P.size g in
          let one = long room args g a lo lay in
          let here = make room args g a lo in
          let r = lies-rest W code weigh a m here (l ∷ ls) (omega (arith, one)) lies in
          take-both low a m here (l ∷ ls) (omega (arith, one)) (take low keep hold args g a lo lay up le set.0 (lies-first W code weigh a here (l ∷ ls) lies)) (step low m l.step ms puts _ _ other r.0 set.1 taken, rest)

      arm-take : (low : ℕ) (keep hold : Cells_of) (args : List Operand) (g t w b lo up : ℕ) → lays g → OwnedUp P S W shared low g args → low ≤ up → Set keep hold args g t up (result_modes P S g) []
          → Lie W code weigh t (arm_code P make room args g t w b lo up) → AllTake low t (arm_code P make room args g t w b lo up)
      arm-take low keep hold args g t w b lo up lay owned le set lies =
          part-take low keep hold args g t up (result_modes P S g) [] (line (OfResults g) (Move (ends_at P args g up) lo w b)) [] lay owned le set lies tt (results-up P S W shared low g up args owned le) tt

      arms-take : (low : ℕ) (keep hold : Cells_of) (args : List Operand) (gs : List ℕ) (t w b lo up : ℕ) → All Inner gs → All (λ h. OwnedUp P S W shared low h args) gs → low ≤ up → ArmsSet P S handling live own sets keep hold args gs t up
          → Lie W code weigh t (arms_code P make room args gs t w b lo up) → AllTake low t (arms_code P make room args gs t w b lo up)
      arms-take low keep hold args [] t w b lo up lay owned le set lies = tt
      arms-take low keep hold args (g ∷ gs) t w b lo up lay owned le set lies =
          let one = arm-long P make lays long room args g t w b lo up lay.0.1 in
          let here = arm_code P make room args g t w b lo up in
          let others = arms_code P make room args gs (t + suc (P.size g)) w b lo up in
          take-both low t (t + suc (P.size g)) here others (omega (arith, one)) (arm-take low keep hold args g t w b lo up lay.0.1 owned.0 le set.0 (lies-first W code weigh t here others lies))
          (arms-take low keep hold args gs (t + suc (P.size g)) w b lo up lay.1 owned.1 le set.1 (lies-rest W code weigh t (t + suc (P.size g)) here others (omega (arith, one)) lies))

      one-looked : (low : ℕ) (a : Operand) (i : ℕ) → IsTaken (Looks ∷ []) (a ∷ []) i → low ≤ i
      one-looked low a i (inl h) = looks-not (low ≤ i) h.0
      one-looked low a i (inr h) = absurd h

      select-take : (low : ℕ) (g : ℕ) (v : Vertex) (keep hold : Cells_of) (mine : List Operand) (s : ℕ) (gs : List ℕ) (a w b lo mid : ℕ) → lays s → All Inner gs → low ≤ mid → GivenUp P S W shared low g v mine → OwnsNone P S W s → All (OwnsGiven P S W g v) gs
          → SelectSet P S handling live own sets keep hold (gives P S g v) mine s gs a mid → Lie W code weigh a (select_code P make room mine s gs a w b lo mid) → AllTake low a (select_code P make room mine s gs a w b lo mid)
      select-take low g v keep hold mine s gs a w b lo mid lay lay_gs le up none given set lies =
          let m = a + P.size s in
          let one = long room mine s a mid lay in
          let here = make room mine s a mid in
          let branch = line OfNothing (Branch (end_at P mine s mid) (arms_at P make room gs (suc m)) lo w b) in
          let arms = arms_code P make room mine gs (suc m) w b lo mid in
          let r = lies-rest W code weigh a m here (branch ∷ arms) (omega (arith, one)) lies in
          part-take low _ _ mine s a mid (Looks ∷ []) [] branch arms lay (none-up P S W shared low s mine none) le set.0 lies tt (one-looked low (end_at P mine s mid))
          (arms-take low keep hold mine gs (suc m) w b lo mid lay_gs (arms-owned P S W shared low g v mine gs up given) le set.1 r.2)

      tag-take : (low : ℕ) (g : ℕ) (v : Vertex) (keep hold : Cells_of) (mine : List Operand) (gs : List ℕ) (a w b lo mid : ℕ) → All Inner gs → low ≤ mid → GivenUp P S W shared low g v mine
          → All (λ h. (p : ℕ) → S.owns h (suc (suc p)) ≡ true → gives P S g v (suc (suc p)) ≡ true) gs
          → TagSet P S handling live own sets keep hold (gives P S g v) mine gs a mid → Lie W code weigh a (tag_code P make room mine gs a w b lo mid) → AllTake low a (tag_code P make room mine gs a w b lo mid)
      tag-take low g v keep hold mine gs a w b lo mid lay le up given set lies = (
        step low a (Tag (get_or mine 0 (Lit Unfilled)) (arms_at P make room gs (suc a)) mid lo w b) ((if gives P S g v 1 then Takes else Looks) ∷ []) [] _ _ tt lies.0 set.0 (λ i h. union i (gives P S g v 1) refl h),
        arms-take low keep hold (At mid ∷ drop 1 mine) gs (suc a) w b lo (suc mid) lay (tag-owned P S W shared low g v mine mid gs le up given) (omega (arith, le)) set.1 lies.2,
      )
        where
          union : (i : ℕ) (c : Bool) → gives P S g v 1 ≡ c → IsTaken ((if c then Takes else Looks) ∷ []) (get_or mine 0 (Lit Unfilled) ∷ []) i → low ≤ i
          union i true e (inl h) = up 0 i e h.1
          union i false e h = one-looked low (get_or mine 0 (Lit Unfilled)) i h
          union i true e (inr h) = absurd h

      -- results that are put to collections, which are taken
      put-taken : (low g lo c k : ℕ) (args : List Operand) → OwnedUp P S W shared low g args → low ≤ lo → low ≤ c → (i : ℕ) → IsTaken (result_modes P S g ++ takes_all k) (ends_at P args g lo ++ cells_at c k) i → low ≤ i
      put-taken low g lo c k args up le more i h =
          go (taken-of (result_modes P S g) (takes_all k) (ends_at P args g lo) (cells_at c k) i
          (modes-long (S.takes g 0) (S.copies g 0) 1 (P.results g) ∙ sym (length-map (P.results g) (operand (placed P args (P.nodes g) lo)))) h)
        where
          go : IsTaken (result_modes P S g) (ends_at P args g lo) i ⊎ IsTaken (takes_all k) (cells_at c k) i → low ≤ i
          go (inl t) = results-up P S W shared low g lo args up le i t
          go (inr t) = let x = (takes-range c k i t).0 in omega (arith, more, x)

      loop-take : (low : ℕ) (g : ℕ) (v : Vertex) (keep hold : Cells_of) (mine : List Operand) (i t body r : ℕ) (early : Bool) (first : List Line) (starts turn a w b lo mid : ℕ)
          → (let n = length (P.results i) in let k = length (P.collects r) in
          lays i → lays t → lays body → lays (P.refolded r) → length mine ≡ length v.ins → low ≤ mid → GivenUp P S W shared low g v mine → IsLoopShared P S W g v i t body r
          → turn ≡ suc (a + P.size i) + length first
          → ((lives owns : Cells_of) → BeginSet P S handling live own sets early lives owns (suc (a + P.size i)) → Lie W code weigh (suc (a + P.size i)) first → AllTake low (suc (a + P.size i)) first)
          → LoopSet P S handling live own sets early keep hold mine i t body r turn a mid n k
          → Lie W code weigh a (loop_code P make room mine i t body r first starts turn a w b lo mid n k) → AllTake low a (loop_code P make room mine i t body r first starts turn a w b lo mid n k))
      loop-take low g v keep hold mine i t body r early first starts turn a w b lo mid in_i in_t in_b in_r many le up right goes firsts set lies =
          let n = length (P.results i) in
          let k = length (P.collects r) in
          let o = P.refolded r in
          let cs = sifts_in (P.collects r) in
          let top = mid + (n + k) in
          let begun = a + P.size i in
          let turned = turn + P.size body in
          let tests = suc turned in
          let tested = tests + P.size t in
          let leave = suc tested in
          let x = mine ++ cells_at mid n in
          let y = mine ++ stand P (P.collects r) (mid + n) mid in
          let keep0 = line (OfResults i) (Keep true cs (ends_at P mine i mid) mid starts) in
          let keep1 = line (OfResults body) (Keep false cs (ends_at P x body top) mid tests) in
          let test = line OfNothing (Test (end_at P x t top) turn leave lo w b) in
          let s4 = arm_code P make room y o leave w b lo top in
          let s3 = make room x t tests top ++ test ∷ s4 in
          let s1 = make room x body turn top ++ keep1 ∷ s3 in
          let l0 = long room mine i a mid in_i in
          let l1 = long room x body turn top in_b in
          let l2 = long room x t tests top in_t in
          let r0 = lies-rest W code weigh a begun (make room mine i a mid) (keep0 ∷ (first ++ s1)) (omega (arith, l0)) lies in
          let f0 = lies-first W code weigh (suc begun) first s1 r0.2 in
          let r1 = lies-rest W code weigh (suc begun) turn first s1 goes r0.2 in
          let r2 = lies-rest W code weigh turn turned (make room x body turn top) (keep1 ∷ s3) (omega (arith, l1)) r1 in
          let r3 = lies-rest W code weigh tests tested (make room x t tests top) (test ∷ s4) (omega (arith, l2)) r2.2 in
          let high : low ≤ top = omega (arith, le) in
          let own_i = given-owned P S W shared low g v mine i up right.0 in
          let own_t = none-up P S W shared low t x right.1 in
          let own_b = behind-up P S W shared low body (length v.ins) mine (cells_at mid n) many right.2 (cells-up P S W shared low mid n le) in
          let own_o = behind-up P S W shared low o (length v.ins) mine (stand P (P.collects r) (mid + n) mid) many right.6 (stand-up P S W shared low (P.collects r) (mid + n) mid (omega (arith, le)) le) in
          let t4 = arm-take low keep hold y o leave w b lo top in_r own_o high set.4 r3.2 in
          let t3 = part-take low _ _ x t tests top (Looks ∷ []) [] test s4 in_t own_t high set.3 r2.2 tt (one-looked low (end_at P x t top)) t4 in
          let t2 = part-take low _ _ x body turn top (result_modes P S body ++ takes_all (sifts_of P r)) [] keep1 s3 in_b own_b high set.2 r1 tt
          (put-taken low body top (mid + length (ends_at P x body top)) (sifts_of P r) x own_b high (omega (arith, le))) t3 in
          part-take low keep hold mine i a mid (result_modes P S i) [] keep0 (first ++ s1) in_i own_i le set.0 lies tt (results-up P S W shared low i mid mine own_i le)
          (take-both low (suc begun) turn first s1 goes (firsts _ _ set.1 f0) t2)

      for-all-take : (low : ℕ) (g : ℕ) (v : Vertex) (keep hold : Cells_of) (mine : List Operand) (e body r a w b lo mid : ℕ)
          → (let n = length (P.results e) in let k = length (P.collects r) in
          lays e → lays body → lays (P.refolded r) → length mine ≡ length v.ins → low ≤ mid → GivenUp P S W shared low g v mine
          → OwnsGiven P S W g v e → OwnsNone P S W body → OwnsPast P S W (length v.ins + n) (P.refolded r)
          → ForAllSet P S handling live own sets keep hold mine e body r (suc (a + P.size e)) a mid n k
          → Lie W code weigh a (for_all_code P make room mine e body r (suc (a + P.size e)) a w b lo mid n k) → AllTake low a (for_all_code P make room mine e body r (suc (a + P.size e)) a w b lo mid n k))
      for-all-take low g v keep hold mine e body r a w b lo mid in_e in_b in_r many le up given none past set lies =
          let n = length (P.results e) in
          let k = length (P.collects r) in
          let o = P.refolded r in
          let top = mid + (n + k) in
          let made = a + P.size e in
          let turn = suc made in
          let turned = turn + P.size body in
          let turns = suc turned in
          let leave = suc turns in
          let x = mine ++ cells_at (suc top) n in
          let y = (mine ++ cells_at mid n) ++ cells_at (mid + n) k in
          let spread = line (OfResults e) (Spread (ends_at P mine e mid) (P.collects r) mid turns lo w b) in
          let add = line (OfRows body r) (Add (P.collects r) (ends_at P x body (suc top + n)) (mid + n) turns) in
          let each = line OfNothing (Each n mid top turn leave) in
          let s3 = arm_code P make room y o leave w b lo top in
          let rows = make room x body turn (suc top + n) in
          let l0 = long room mine e a mid in_e in
          let l1 = long room x body turn (suc top + n) in_b in
          let r0 = lies-rest W code weigh a made (make room mine e a mid) (spread ∷ (rows ++ add ∷ each ∷ s3)) (omega (arith, l0)) lies in
          let lies_b = lies-first W code weigh turn rows (add ∷ each ∷ s3) r0.2 in
          let r1 = lies-rest W code weigh turn turned rows (add ∷ each ∷ s3) (omega (arith, l1)) r0.2 in
          let own_e = given-owned P S W shared low g v mine e up given in
          let both : length (mine ++ cells_at mid n) ≡ length v.ins + n =
          (let c = length-append mine (cells_at mid n) in let d = cells-long mid n in omega (arith, c, d, many)) in
          let own_o = behind-up P S W shared low o (length v.ins + n) (mine ++ cells_at mid n) (cells_at (mid + n) k) both past (cells-up P S W shared low (mid + n) k (omega (arith, le))) in
          let own_x = none-up P S W shared (mid + n) body x none in
          let in_body = take (mid + n) _ _ x body turn (suc top + n) in_b own_x (omega arith) set.1.0 lies_b in
          let adds = step (mid + n) turned add.step (result_modes P S body ++ takes_all k) (S.puts r) _ _ tt r1.0 set.1.1 (put-taken (mid + n) body (suc top + n) (mid + n) k x own_x (omega arith) (omega arith)) in
          let each_takes : (z : ℕ) → TakesFrom z turns = λ z. takes z turns each.step [] [] _ _ r1.2.0 set.2 (λ i h. absurd (none-taken (reads_of each.step) i h)) in
          let among : (q : ℕ) → turn ≤ q → q ≤ turns → TakesFrom (mid + n) q = λ q from to. by-place turn turned (mid + n) rows (omega (arith, l1)) in_body adds.0 (each_takes (mid + n)) q from to in
          let bodies : BodyTakes turns = λ n' first' count' turn' leave' is q from to.
          let same = same-each n mid top turn leave n' first' count' turn' leave' (sym r1.2.0 ∙ is) in
          let s0 = same.0 in
          let s1 = same.1 in
          let s2 = same.2 in
          subst (λ z. TakesFrom z q) (omega (arith, s0, s1)) (among q (omega (arith, from, s2)) to) in
          let t3 = arm-take low keep hold y o leave w b lo top in_r own_o (omega (arith, le)) set.3 r1.2.2 in
          let fits : low ≤ mid + n = omega (arith, le) in
          let t2 : AllTake low turn (rows ++ add ∷ each ∷ s3) =
          take-both low turn turned rows (add ∷ each ∷ s3) (omega (arith, l1)) (take-less low (mid + n) turn rows fits in_body)
          (((λ i h. let z = adds.0 i h in omega (arith, z, fits)), adds.1), ((each_takes low, bodies), t3)) in
          part-take low keep hold mine e a mid (result_modes P S e) [] spread (rows ++ add ∷ each ∷ s3) in_e own_e le set.0 lies tt (results-up P S W shared low e mid mine own_e le) t2
        where
          by-place : (turn turned high : ℕ) (rows : List Line) → turned ≡ turn + length rows → AllTake high turn rows → TakesFrom high turned → TakesFrom high (suc turned) → (q : ℕ) → turn ≤ q → q ≤ suc turned → TakesFrom high q
          by-place turn turned high rows long all behind last q from to = go (ltb q turned) refl (ltb turned q) refl
            where
              go : (c : Bool) → ltb q turned ≡ c → (d : Bool) → ltb turned q ≡ d → TakesFrom high q
              go true e d e' = let lt = ltb-true q turned e in (take-at high turn rows all q from (omega (arith, lt, long))).0
              go false e true e' = let lt = ltb-true turned q e' in let s : suc turned ≡ q = omega (arith, lt, to) in subst (TakesFrom high) s last
              go false e false e' = let a = ltb-false q turned e in let b = ltb-false turned q e' in let s : turned ≡ q = omega (arith, a, b) in subst (TakesFrom high) s behind

      parts-take : (low : ℕ) (g : ℕ) (v : Vertex) (keep hold : Cells_of) (mine : List Operand) (k : Kind) (a w b lo mid : ℕ) → IsKindRight P W u order functions lays g v k → IsKindShared P S W g v k → length mine ≡ length v.ins → low ≤ mid → GivenUp P S W shared low g v mine
          → PartsSet P S handling live own sets keep hold (gives P S g v) mine k a mid → Lie W code weigh a (parts_code P make room mine k a w b lo mid) → AllTake low a (parts_code P make room mine k a w b lo mid)
      parts-take low g v keep hold mine (Plain row shape) a w b lo mid right shares many le up set lies = tt
      parts-take low g v keep hold mine (Whole (form.Call f)) a w b lo mid right shares many le up set lies = tt
      parts-take low g v keep hold mine (Whole (form.Select s gs n)) a w b lo mid right shares many le up set lies =
          select-take low g v keep hold mine s gs a w b lo mid right.2.1 right.4 le up shares.0 shares.1 set lies
      parts-take low g v keep hold mine (Whole (form.TagCase gs n)) a w b lo mid right shares many le up set lies =
          tag-take low g v keep hold mine gs a w b lo mid right.3 le up shares set lies
      parts-take low g v keep hold mine (Whole (form.LoopA i t body r n)) a w b lo mid right shares many le up set lies =
          loop-take low g v keep hold mine i t body r true (line OfNothing Count ∷ []) (suc (a + P.size i)) (suc (suc (a + P.size i))) a w b lo mid right.2.1 right.3.1 right.5.1 right.7 many le up shares (omega arith)
          (λ lives owns s h. (step low (suc (a + P.size i)) Count [] [] lives owns tt h.0 s (λ j z. absurd z), tt)) set lies
      parts-take low g v keep hold mine (Whole (form.LoopB i t body r n)) a w b lo mid right shares many le up set lies =
          loop-take low g v keep hold mine i t body r false [] (suc (suc (a + P.size i) + P.size body)) (suc (a + P.size i)) a w b lo mid right.2.1 right.3.1 right.5.1 right.7 many le up shares (omega arith) (λ lives owns s h. tt) set lies
      parts-take low g v keep hold mine (Whole (form.ForAll e body r m n)) a w b lo mid right shares many le up set lies =
          for-all-take low g v keep hold mine e body r a w b lo mid right.2.1 right.3.1 right.5 many le up shares.0 shares.1 shares.4 set lies

      module _ (low g : ℕ) (v : Vertex) (bottom : ℕ) (inputs : List Operand) (lo : ℕ) (owned : OwnedUp P S W shared low g inputs) (le : low ≤ bottom) (more : low ≤ lo)
          (there : AreThere P S W g v.ins) (takes_owned : TakesOwned P S W g v.label (first_port v.kind) v.ins) where
        abbrev ins : List Operand
        ins = map (operand (placed P inputs (P.nodes g) bottom)) v.ins

        compound-take : (keep hold lives owns : Cells_of) (k : Kind) (a : ℕ) → first_port v.kind ≡ 1 → IsKindRight P W u order functions lays g v k → IsKindShared P S W g v k
            → (let w = P.width v in let mine = own_cells (P.picks g v) ins (lo + w) in let mid = (lo + w) + length (picked (P.picks g v) ins) in let b = a + kind_size P k in
            let lines = line OfNothing Count ∷ line (OfInputs g v) (Move (picked (P.picks g v) ins) (lo + w) (length (picked (P.picks g v) ins)) (suc (suc a))) ∷ parts_code P make room mine k (suc (suc a)) w b lo mid in
            IsSet P S handling live own a [] [] lives owns × IsSet P S handling live own (suc a) (copies_of (P.picks g v)) [] lives owns × PartsSet P S handling live own sets keep hold (gives P S g v) mine k (suc (suc a)) mid
            → Lie W code weigh a lines → AllTake low a lines)
        compound-take keep hold lives owns k a one right shares set lies =
            let w = P.width v in
            let mine = own_cells (P.picks g v) ins (lo + w) in
            let mid = (lo + w) + length (picked (P.picks g v) ins) in
            let b = a + kind_size P k in
            let many = own-long (P.picks g v) ins (lo + w) ∙ length-map v.ins (operand (placed P inputs (P.nodes g) bottom)) in (
              step low a Count [] [] lives owns tt lies.0 set.0 (λ i h. absurd h),
              (
                step low (suc a) (Move (picked (P.picks g v) ins) (lo + w) (length (picked (P.picks g v) ins)) (suc (suc a))) (copies_of (P.picks g v)) [] lives owns tt lies.2.0 set.1
                    (λ i h. absurd (copies-untaken (P.picks g v) (picked (P.picks g v) ins) i h)),
                parts-take low g v keep hold mine k (suc (suc a)) w b lo mid right shares many (omega (arith, more)) (given-up P S W shared low g v bottom (lo + w) inputs one owned le (omega (arith, more)) there takes_owned) set.2 lies.2.2,
              ),
            )

        kind-take : (keep hold lives owns : Cells_of) (k : Kind) (a : ℕ) → v.kind ≡ k → IsKindRight P W u order functions lays g v k → IsKindShared P S W g v k → KindSet P S handling live own sets g v lives owns keep hold ins k a lo
            → Lie W code weigh a (kind_code P make room g v ins k (P.width v) a lo) → AllTake low a (kind_code P make room g v ins k (P.width v) a lo)
        kind-take keep hold lives owns (Plain row shape) a is right shares set lies =
            (step low a (Fire row shape ins lo (P.width v)) (modes_at P S g v) [] lives owns tt lies.0 set (taken-up P S W shared low g v.label (first_port v.kind) bottom inputs v.ins owned le there takes_owned), tt)
        kind-take keep hold lives owns (Whole (form.Call f)) a is right shares set lies =
            (step low a (Call (P.entry f) room ins lo (P.width v)) (modes_at P S g v) [] lives owns tt lies.0 set (taken-up P S W shared low g v.label (first_port v.kind) bottom inputs v.ins owned le there takes_owned), tt)
        kind-take keep hold lives owns (Whole (form.Select s gs n)) a is right shares set lies = compound-take keep hold lives owns (Whole (form.Select s gs n)) a (ap first_port is) right shares set lies
        kind-take keep hold lives owns (Whole (form.TagCase gs n)) a is right shares set lies = compound-take keep hold lives owns (Whole (form.TagCase gs n)) a (ap first_port is) right shares set lies
        kind-take keep hold lives owns (Whole (form.LoopA i t b r n)) a is right shares set lies = compound-take keep hold lives owns (Whole (form.LoopA i t b r n)) a (ap first_port is) right shares set lies
        kind-take keep hold lives owns (Whole (form.LoopB i t b r n)) a is right shares set lies = compound-take keep hold lives owns (Whole (form.LoopB i t b r n)) a (ap first_port is) right shares set lies
        kind-take keep hold lives owns (Whole (form.ForAll e b r m n)) a is right shares set lies = compound-take keep hold lives owns (Whole (form.ForAll e b r m n)) a (ap first_port is) right shares set lies

      nodes-take : (low : ℕ) (keep hold : Cells_of) (inputs : List Operand) (g bottom : ℕ) (known : Known) (taken : Taken) (vs : List Vertex) (a lo : ℕ) → OwnedUp P S W shared low g inputs → low ≤ bottom → low ≤ lo
          → EachNode (λ v. IsKindRight P W u order functions lays g v v.kind) vs → EachNode (λ v. AreThere P S W g v.ins) vs → EachNode (λ v. TakesOwned P S W g v.label (first_port v.kind) v.ins) vs → EachNode (λ v. IsKindShared P S W g v v.kind) vs
          → NodesSet P S handling live own sets keep hold inputs g bottom known taken vs a lo → Lie W code weigh a (nodes_code P make room g (placed P inputs (P.nodes g) bottom) vs a lo) → AllTake low a (nodes_code P make room g (placed P inputs (P.nodes g) bottom) vs a lo)
      nodes-take low keep hold inputs g bottom known taken [] a lo owned le more right there takes_owned shares set lies = tt
      nodes-take low keep hold inputs g bottom known taken (v ∷ vs) a lo owned le more right there takes_owned shares set lies =
          let places = placed P inputs (P.nodes g) bottom in
          let args = map (operand places) v.ins in
          let m = a + kind_size P v.kind in
          let here = kind_code P make room g v args v.kind (P.width v) a lo in
          let others = nodes_code P make room g places vs m (lo + P.width v) in
          let one = kind-long P W u order functions make lays long room g v args v.kind (P.width v) a lo right.0 in
          take-both low a m here others (omega (arith, one))
          (kind-take low g v bottom inputs lo owned le more there.0 takes_owned.0 _ _ _ _ v.kind a refl right.0 shares.0 set.0 (lies-first W code weigh a here others lies))
          (nodes-take low keep hold inputs g bottom ((v.label, P.width v) ∷ known) (taken_by (S.takes g v.label) (first_port v.kind) v.ins taken) vs m (lo + P.width v) owned le (omega (arith, more)) right.1 there.1 takes_owned.1 shares.1 set.1 (lies-rest W code weigh a m here others (omega (arith, one)) lies))

  graph-take : (sized : (g : ℕ) → IsSized P g) (room n low : ℕ) (keep hold : Cells_of) (args : List Operand) (g a lo : ℕ) → CanLay P W u order functions n g → OwnedUp P S W shared low g args → low ≤ lo → GraphSet P S handling live own n keep hold args g a lo
      → Lie W code weigh a (graph_code P n room args g a lo) → AllTake low a (graph_code P n room args g a lo)
  graph-take sized room zero low keep hold args g a lo right owned le set lies = absurd right
  graph-take sized room (suc n) low keep hold args g a lo right owned le set lies =
      let s = shared g in
      nodes-take room (graph_code P n) (GraphSet P S handling live own n) (CanLay P W u order functions n) (graph-long P W u order functions sized n) (graph-take sized room n) low keep hold args g lo [] [] (P.nodes g) a lo owned le le
      right.kinds s.there s.owned s.kinds set lies

  -- ---- functions

  module _ (n : ℕ) (right : IsRightPlan P W u order functions n) where
    function-take : (f a : ℕ) → IsIn f functions → FunctionSet P S handling live own n f a → Lie W code weigh a (function_lines P n f a) → AllTake 0 a (function_lines P n f a)
    function-take f a in_f set lies =
        let room = room_of P f in
        let args = cells_at 0 (P.params f) in
        let m = a + P.size f in
        let lays = (right.graphs f in_f).1 in
        let long = graph-long P W u order functions right.sized n room args f a (P.params f) lays in
        let here = graph_code P n room args f a (P.params f) in
        let leave = line (OfResults f) (Return (ends_at P args f (P.params f))) in
        let r = lies-rest W code weigh a m here (leave ∷ []) (omega (arith, long)) lies in
        take-both 0 a m here (leave ∷ []) (omega (arith, long))
        (graph-take right.sized room n 0 _ _ args f a (P.params f) lays (λ j i o e. omega arith) (omega arith) set.0 (lies-first W code weigh a here (leave ∷ []) lies))
        (step 0 m leave.step (result_modes P S f) [] _ _ tt r.0 set.1 (λ i h. omega arith), tt)

    functions-take : (fs : List ℕ) (a : ℕ) → ((f : ℕ) → IsIn f fs → IsIn f functions) → FunctionsSet P S handling live own n fs a → Lie W code weigh a (functions_lines P n fs a)
        → AllTake 0 a (functions_lines P n fs a) × (length (functions_lines P n fs a) ≡ functions_size P fs)
    functions-take [] a of set lies = (tt, refl)
    functions-take (f ∷ fs) a of set lies =
        let in_f = of f (inl refl) in
        let m = a + suc (P.size f) in
        let here = function_lines P n f a in
        let others = functions_lines P n fs m in
        let long = function-long P W u order functions n right f a in_f in
        let more = functions-take fs m (λ x i. of x (inr i)) set.1 (lies-rest W code weigh a m here others (omega (arith, long)) lies) in
        let rest = more.1 in
        (take-both 0 a m here others (omega (arith, long)) (function-take f a in_f set.0 (lies-first W code weigh a here others lies)) more.0, length-append here others ∙ omega (arith, long, rest))

pub eaches-take-above : DoEachesTakeAbove
eaches-take-above P S W u order functions n code weigh handling live own right shared lies set f few q i from to taken =
    let X = laid_as P W u order functions code weigh in
    let r = iterations X f in
    let x = functions-take P S W u order functions code weigh handling live own shared n right functions 0 (λ f i. i) set lies in
    let long = x.1 in
    let e = each-of X f.room f.args f.generator f.body f.returns f.many f.own f.width f.begin f.end f.low f.is in
    (take-at P S W u order functions code weigh handling live own shared 0 0 (functions_lines P n functions 0) x.0 r.each (omega arith) (omega (arith, few, long))).1 r.multiples r.first (count_of r) r.turn e.0 e.1 q from to i taken
