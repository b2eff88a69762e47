-- Going through the nodes of a graph: what is known at each, and at the end.
use Rattle.std.proofs.Common.{◌≡◌, ℕ, zero, suc, ◌+◌, ◌<◌, ◌≤◌, ◌⊎◌, inl, inr, Bool, true, List, [], ◌∷◌, length, map, get_or, refl, sym, ap, ◌∙◌, subst, arith}
use Rattle.graph_meaning.specs.Carried.{Unfilled}
use Rattle.graph_meaning.specs.Demand.{Vertex, LabelsOnce}
use Rattle.run_code.specs.Taking.{AreTakersLast, Fills, NoneIsTaken, Taken, TakesAlone, first_port, taken_by}
use Rattle.run_code.specs.Cells.{Operand, At, Lit}
use Rattle.run_code.specs.Coded.{Places, Puts, operand}
use Rattle.run_code.specs.Known.{IsReadable, Known, KnowsAll, known_after}
use Rattle.run_code.specs.Made.{Plan, ends_at, placed}
use Rattle.run_made.proofs.Lying.{PutsAll, are-labelled}
use Rattle.run_made.specs.Plans.{Weighing}
use Rattle.run_store.proofs.Ports.{IsOwnCell, Ranged, known-at, low, node-lively, own-input, own-output, reads-alive}
use Rattle.run_store.specs.Ports.{AreInputsPlaced, IsAlive, KnowsPort}
use Rattle.made_store.proofs.Alive.{alive-so, alive-sound, or-left, or-right, range-so, reads-there, seat-inputs, seat-is, seat-so, where-so}
use Rattle.made_store.proofs.Around.{IsAround, around, none-filled}
use Rattle.made_store.proofs.Scenes.{IsReached, IsScene, all-in, filled, inputs-owned, inputs-there, owned, seats-put, split-alive, there}
use Rattle.made_store.specs.Settings.{Cells_of, Shares, alive, cells_where, either_of, live_behind, live_in, own_behind, own_in, range_of, seats, taken_in}
use Rattle.made_store.specs.Shared.{AreThere, IsShared, TakesOwned}

-- ---- a node

reached : (keep : Cells_of) (places : Places) (owned : ℕ → Bool) (bottom : ℕ) → AreInputsPlaced keep places owned bottom → (known : Known) (taken : Taken) (takes copies : ℕ → Bool) (v : Vertex) (lo w : ℕ)
    → Ranged places bottom known lo → Puts places v.label lo w → KnowsAll known v.ins → NoneIsTaken taken v.ins → ((j p : ℕ) → Fills j v.ins (first_port v.kind) 0 p → takes j ≡ true → owned p ≡ true)
    → IsReached keep places known taken takes copies v lo w
reached keep places owned bottom placed known taken takes copies v lo w r puts knows none owns =
    let n = node-lively keep places known taken takes copies v lo w puts knows none (λ j l p f t. own j l p f t) (low keep places owned bottom placed lo known r) in
    record { reads = n.0; stays = n.1; low = low keep places owned bottom placed lo known r; own = λ j l p f t. own j l p f t; puts = puts }
  where
    own : (j l p : ℕ) → Fills j v.ins (first_port v.kind) l p → takes j ≡ true → IsOwnCell keep places known l p
    own j zero p f t = own-input keep places owned bottom placed known lo p r (owns j p f t)
    own j (suc l) p f t = own-output keep places owned bottom placed known lo (suc l) p r (known-at known (first_port v.kind) v.ins j l p knows f)

module _ (P : Plan) (S : Shares) (W : Weighing) (keep hold : Cells_of) (args : List Operand) (g bottom : ℕ) (shared : IsShared P S W g) (scene : IsScene S keep hold args g bottom) where
  abbrev pub seats_there : Places
  seats_there = there P S args g (P.nodes g) bottom

  abbrev pub seats_owned : Places
  seats_owned = owned P S args g (P.nodes g) bottom

  -- what is known on the way through a graph: which outputs stand between its first cell and another one
  pub record IsOn (known : Known) (lo : ℕ) : Type 0 where
    pub ranged : Ranged seats_there bottom known lo
    pub ranged_own : Ranged seats_owned bottom known lo

  pub node-around : (known : Known) (taken : Taken) (v : Vertex) (lo : ℕ) → IsOn known lo → Puts seats_there v.label lo (P.width v) → Puts seats_owned v.label lo (P.width v)
      → KnowsAll known v.ins → NoneIsTaken taken v.ins → TakesAlone (S.takes g v.label) (first_port v.kind) v.ins → AreThere P S W g v.ins → TakesOwned P S W g v.label (first_port v.kind) v.ins
      → IsAround (live_in P S keep args g bottom known taken) (own_in P S hold args g bottom known taken) (live_in P S keep args g bottom known (taken_by (S.takes g v.label) (first_port v.kind) v.ins taken))
      (own_in P S hold args g bottom known (taken_by (S.takes g v.label) (first_port v.kind) v.ins taken)) (map (operand (placed P args (P.nodes g) bottom)) v.ins) (S.takes g v.label) (first_port v.kind) lo
  node-around known taken v lo on puts puts_own knows none alone reads owns =
      around P S W args g (P.nodes g) bottom keep hold known taken (S.takes g v.label) (S.copies g v.label) v lo (P.width v)
      (reached keep seats_there (S.owns g) bottom (inputs-there P S args g (P.nodes g) bottom keep hold shared.has_owned scene) known taken (S.takes g v.label) (S.copies g v.label) v lo (P.width v) on.ranged puts knows none owns)
      (reached hold seats_owned (S.owns g) bottom (inputs-owned P S args g (P.nodes g) bottom keep hold shared.has_owned scene) known taken (S.takes g v.label) (S.copies g v.label) v lo (P.width v) on.ranged_own puts_own knows none owns)
      knows none alone reads owns

  -- ---- the end

  -- what is read at the end is live, and what is taken there is owned and not kept
  pub record IsEnd (lives owns : Cells_of) : Type 0 where
    pub looks : (j i : ℕ) → get_or (ends_at P args g bottom) j (Lit Unfilled) ≡ At i → lives i ≡ true
    pub takes : (j i : ℕ) → S.takes g 0 (1 + j) ≡ true → get_or (ends_at P args g bottom) j (Lit Unfilled) ≡ At i → (owns i ≡ true) × (keep i ≡ true → ⊥) × (hold i ≡ true → ⊥)
    pub once : (j i q : ℕ) → S.takes g 0 (1 + j) ≡ true → get_or (ends_at P args g bottom) j (Lit Unfilled) ≡ At i → get_or (ends_at P args g bottom) q (Lit Unfilled) ≡ At i → q ≡ j

  end-of : (known : Known) (taken : Taken) (lo : ℕ) → IsOn known lo → KnowsAll known (P.results g) → NoneIsTaken taken (P.results g) → TakesAlone (S.takes g 0) 1 (P.results g) → IsEnd (live_in P S keep args g bottom known taken) (own_in P S hold args g bottom known taken)
  end-of known taken lo on knows none alone =
      record {
        looks = λ j i e.
            let x = all-in (IsAlive keep seats_there known taken) (map (operand seats_there) (P.results g)) j i (reads-alive keep seats_there known taken (P.results g) knows none) (as-there j i e) in
            alive-so P seats_there taken keep (length args) known i (λ p q. seat-inputs P (S.has g) args (P.nodes g) bottom i p q) x;
        takes = λ j i t e. let x = filled seats_there (P.results g) 1 j i (as-there j i e) in gone j i x.0 x.1 t x.2 x.3;
        once = λ j i q t e f.
            let x = filled seats_there (P.results g) 1 j i (as-there j i e) in
            let y = filled seats_there (P.results g) 1 q i (as-there q i f) in
            let s = (own-cell j x.0 x.1 t x.2).alone i y.0 y.1 x.3 (knows-port q y.0 y.1 y.2) y.3 in
            let z = subst (λ z. Fills (1 + q) (P.results g) 1 z x.1) s.0 (subst (λ z. Fills (1 + q) (P.results g) 1 y.0 z) s.1 y.2) in
            let n = alone (1 + j) (1 + q) x.0 x.1 x.2 t z in
            omega (arith, n);
      }
    where
      as-there : (j i : ℕ) → get_or (ends_at P args g bottom) j (Lit Unfilled) ≡ At i → get_or (map (operand seats_there) (P.results g)) j (Lit Unfilled) ≡ At i
      as-there j i e = subst (λ x. get_or x j (Lit Unfilled) ≡ At i) (sym (reads-there P S W g args (P.nodes g) bottom (P.results g) shared.results_there)) e

      own-cell : (j l p : ℕ) → S.takes g 0 (1 + j) ≡ true → Fills (1 + j) (P.results g) 1 l p → IsOwnCell keep seats_there known l p
      own-cell j zero p t f =
          own-input keep seats_there (S.owns g) bottom (inputs-there P S args g (P.nodes g) bottom keep hold shared.has_owned scene) known lo p on.ranged (shared.results_owned (1 + j) p f t)
      own-cell j (suc l) p t f =
          own-output keep seats_there (S.owns g) bottom (inputs-there P S args g (P.nodes g) bottom keep hold shared.has_owned scene) known lo (suc l) p on.ranged (known-at known 1 (P.results g) (1 + j) l p knows f)

      knows-port : (j l p : ℕ) → Fills (1 + j) (P.results g) 1 l p → KnowsPort known l p
      knows-port j zero p f = inl refl
      knows-port j (suc l) p f = inr (known-at known 1 (P.results g) (1 + j) l p knows f)

      gone : (j i l p : ℕ) → S.takes g 0 (1 + j) ≡ true → Fills (1 + j) (P.results g) 1 l p → seats_there l p ≡ At i → (own_in P S hold args g bottom known taken i ≡ true) × (keep i ≡ true → ⊥) × (hold i ≡ true → ⊥)
      gone j i zero p t f e =
          let o = shared.results_owned (1 + j) p f t in
          let x = seat-is P (S.has g) args (P.nodes g) bottom p i e in
          let mine : seats_owned 0 p ≡ At i = ap (λ z. seats_owned 0 z) x.1 ∙ (seat-so P (S.owns g) args (P.nodes g) bottom x.0 (ap (S.owns g) (sym x.1) ∙ o) ∙ x.3) in (
            alive-so P seats_owned taken hold (length args) known i (λ p q. seat-inputs P (S.owns g) args (P.nodes g) bottom i p q)
                (inr (0, p, inl refl, (λ z. none-filled taken (P.results g) 1 (1 + j) 0 p none f z), mine)),
            (λ k. (own-input keep seats_there (S.owns g) bottom (inputs-there P S args g (P.nodes g) bottom keep hold shared.has_owned scene) known lo p on.ranged o).kept i e k),
            (λ k. (own-input hold seats_owned (S.owns g) bottom (inputs-owned P S args g (P.nodes g) bottom keep hold shared.has_owned scene) known lo p on.ranged_own o).kept i mine k),
          )
      gone j i (suc l) p t f e =
          let k₀ = known-at known 1 (P.results g) (1 + j) l p knows f in (
            alive-so P seats_owned taken hold (length args) known i (λ p q. seat-inputs P (S.owns g) args (P.nodes g) bottom i p q)
                (inr (suc l, p, inr k₀, (λ z. none-filled taken (P.results g) 1 (1 + j) (suc l) p none f z), e)),
            (λ k. (own-output keep seats_there (S.owns g) bottom (inputs-there P S args g (P.nodes g) bottom keep hold shared.has_owned scene) known lo (suc l) p on.ranged k₀).kept i e k),
            (λ k. (own-output hold seats_owned (S.owns g) bottom (inputs-owned P S args g (P.nodes g) bottom keep hold shared.has_owned scene) known lo (suc l) p on.ranged_own k₀).kept i e k),
          )

  pub on-next : (known : Known) (v : Vertex) (lo : ℕ) → IsOn known lo → Puts seats_there v.label lo (P.width v) → Puts seats_owned v.label lo (P.width v) → IsOn ((v.label, P.width v) ∷ known) (lo + P.width v)
  on-next known v lo on puts puts_own = record { ranged = (lo, puts, omega arith, on.ranged); ranged_own = (lo, puts_own, omega arith, on.ranged_own) }

  -- along the nodes that are left
  along : (vs : List Vertex) (known : Known) (taken : Taken) (lo : ℕ) → IsOn known lo → PutsAll P seats_there vs lo → PutsAll P seats_owned vs lo → IsReadable P.width known vs → KnowsAll (known_after P.width known vs) (P.results g)
      → AreTakersLast (S.takes g) taken vs (P.results g) → IsEnd (live_in P S keep args g bottom (known_after P.width known vs) (taken_in P S g taken vs)) (own_in P S hold args g bottom (known_after P.width known vs) (taken_in P S g taken vs))
  along [] known taken lo on puts puts_own readable knows last = end-of known taken lo on knows last.0 last.1
  along (v ∷ vs) known taken lo on puts puts_own readable knows last =
      along vs ((v.label, P.width v) ∷ known) (taken_by (S.takes g v.label) (first_port v.kind) v.ins taken) (lo + P.width v) (on-next known v lo on puts.0 puts_own.0) puts.1 puts_own.1 readable.3 knows last.2

  pub on-first : IsOn [] bottom
  on-first = record { ranged = omega arith; ranged_own = omega arith }

  module _ (once : LabelsOnce (P.nodes g)) (readable : IsReadable P.width [] (P.nodes g)) where
    pub puts-there : PutsAll P seats_there (P.nodes g) bottom
    puts-there = seats-put P (S.has g) args (P.nodes g) bottom once (are-labelled P.width [] (P.nodes g) readable)

    pub puts-owned : PutsAll P seats_owned (P.nodes g) bottom
    puts-owned = seats-put P (S.owns g) args (P.nodes g) bottom once (are-labelled P.width [] (P.nodes g) readable)

    pub the-end : KnowsAll (known_after P.width [] (P.nodes g)) (P.results g) → IsEnd (live_behind P S keep args g bottom) (own_behind P S hold args g bottom)
    the-end knows = along (P.nodes g) [] [] bottom on-first puts-there puts-owned readable knows shared.last

  -- ---- the beginning

  pub begins-live : (i : ℕ) → live_in P S keep args g bottom [] [] i ≡ true → either_of keep (cells_where (S.has g) args) i ≡ true
  begins-live i e = go (alive-sound P seats_there [] keep (length args) [] i e)
    where
      go : IsAlive keep seats_there [] [] i → either_of keep (cells_where (S.has g) args) i ≡ true
      go (inl k) = or-left (keep i) (cells_where (S.has g) args i) k
      go (inr (l, p, inl z, free, at)) =
          let x = seat-is P (S.has g) args (P.nodes g) bottom p i (ap (λ n. seats_there n p) (sym z) ∙ at) in
          or-right (keep i) (cells_where (S.has g) args i) (where-so (S.has g) args i x.0 (ap (S.has g) (sym x.1) ∙ x.2) x.3)
      go (inr (l, p, inr k, free, at)) = absurd k

  pub begins-own : (i : ℕ) → own_in P S hold args g bottom [] [] i ≡ true → either_of hold (cells_where (S.owns g) args) i ≡ true
  begins-own i e = go (alive-sound P seats_owned [] hold (length args) [] i e)
    where
      go : IsAlive hold seats_owned [] [] i → either_of hold (cells_where (S.owns g) args) i ≡ true
      go (inl k) = or-left (hold i) (cells_where (S.owns g) args i) k
      go (inr (l, p, inl z, free, at)) =
          let x = seat-is P (S.owns g) args (P.nodes g) bottom p i (ap (λ n. seats_owned n p) (sym z) ∙ at) in
          or-right (hold i) (cells_where (S.owns g) args i) (where-so (S.owns g) args i x.0 (ap (S.owns g) (sym x.1) ∙ x.2) x.3)
      go (inr (l, p, inr k, free, at)) = absurd k

-- what is live behind a node is one of its outputs, or it was kept
pub behind-node : (P : Plan) (test : ℕ → Bool) (args : List Operand) (vs : List Vertex) (bottom : ℕ) (keep : Cells_of) (known : Known) (taken : Taken) (l lo w : ℕ) → Puts (seats P test args vs bottom) l lo w
    → (i : ℕ) → alive P keep (seats P test args vs bottom) (length args) ((l, w) ∷ known) taken i ≡ true → either_of (range_of lo w) (alive P keep (seats P test args vs bottom) (length args) known taken) i ≡ true
behind-node P test args vs bottom keep known taken l lo w puts i e =
    go (split-alive keep places known taken l lo w i puts (alive-sound P places taken keep (length args) ((l, w) ∷ known) i e))
  where
    places : Places
    places = seats P test args vs bottom

    go : ((lo ≤ i) × (i < lo + w)) ⊎ IsAlive keep places known taken i → either_of (range_of lo w) (alive P keep places (length args) known taken) i ≡ true
    go (inl x) = or-left (range_of lo w i) (alive P keep places (length args) known taken i) (range-so lo w i x.0 x.1)
    go (inr x) = or-right (range_of lo w i) (alive P keep places (length args) known taken i) (alive-so P places taken keep (length args) known i (λ p q. seat-inputs P test args vs bottom i p q) x)
