-- In an order in which each taker is the last user of its port, no node reads a cell that was taken.
use Rattle.std.proofs.Common.{◌≡◌, ℕ, zero, suc, ◌+◌, ◌<◌, ◌≤◌, ◌⊎◌, inl, inr, Bool, true, false, not, ◌&&◌, if◌then◌else◌, List, [], ◌∷◌, length, map, refl, sym, ap, ◌∙◌, subst, arith}
use Rattle.graph_meaning.specs.Carried.{Carried}
use Rattle.graph_meaning.specs.Storage.{leaves_at, leaves_of}
use Rattle.graph_meaning.specs.Demand.{Source, Port, Fixed, Vertex, EachNode}
use Rattle.run_laws.specs.Taking.{Marks, first_port, Fills, Taken, IsTaken as WasTaken, taken_by, NoneIsTaken, AreTakersLast}
use Rattle.run_laws.specs.Cells.{Operand, At, Lit, picked}
use Rattle.run_laws.specs.Coded.{Places, operand, Puts}
use Rattle.run_laws.specs.Known.{Known, Knows, KnowsAll, IsReadable}
use Rattle.run_store.specs.Ports.{mode_of, modes_of, picks_of, copies_of, DoModesCopy, KnowsPort, IsAlive, AllIn, StaysAlive, AreStacked, AreNodesLively, AreInputsPlaced, AreNodesLivelyInOrder}
use Rattle.run_store.specs.Refines.{IsTaken}
use Rattle.run_store.specs.Stored.{Looks, Copies, Takes, copied_as, copied}

-- what a node takes stands in a cell of its own
pub record IsOwnCell (keep : ℕ → Bool) (places : Places) (known : Known) (l p : ℕ) : Type 0 where
  pub kept : (i : ℕ) → places l p ≡ At i → keep i ≡ true → ⊥
  pub alone : (i m q : ℕ) → places l p ≡ At i → KnowsPort known m q → places m q ≡ At i → (m ≡ l) × (q ≡ p)

takes-mode : (t c : Bool) → mode_of t c ≡ Takes → t ≡ true
takes-mode true c e = refl
takes-mode false true e = absurd (clash e)
  where
    clash : Copies ≡ Takes → ⊥
    clash e = cc
takes-mode false false e = absurd (clash e)
  where
    clash : Looks ≡ Takes → ⊥
    clash e = cc

-- what is copied by these modes is what is consumed there and not taken
mode-copied : (t c : Bool) (k : Carried) → copied_as (mode_of t c) k ≡ (if c && not t then leaves_of k else 0)
mode-copied true true k = refl
mode-copied true false k = refl
mode-copied false true k = refl
mode-copied false false k = refl

pub modes-copied : (takes consumes test : ℕ → Bool) → ((p : ℕ) → test p ≡ consumes p && not (takes p)) → (first : ℕ) (os : List Source) (ks : List Carried) → length os ≡ length ks
    → copied (modes_of takes consumes first os) ks ≡ leaves_at test first ks
modes-copied takes consumes test is first [] [] many = refl
modes-copied takes consumes test is first [] (k ∷ ks) many = absurd (omega (arith, many))
modes-copied takes consumes test is first (o ∷ os) [] many = absurd (omega (arith, many))
modes-copied takes consumes test is first (o ∷ os) (k ∷ ks) many =
    ap (λ n. n + copied (modes_of takes consumes (suc first) os) ks) (mode-copied (takes first) (consumes first) k ∙ ap (λ b. if b then leaves_of k else 0) (sym (is first)))
    ∙ ap (λ n. (if test first then leaves_of k else 0) + n) (modes-copied takes consumes test is (suc first) os ks (omega (arith, many)))

pub picks-copied : (test : ℕ → Bool) (first : ℕ) (os : List Source) (ks : List Carried) → length os ≡ length ks
    → copied (copies_of (picks_of test first os)) (picked (picks_of test first os) ks) ≡ leaves_at test first ks
picks-copied test first [] [] many = refl
picks-copied test first [] (k ∷ ks) many = absurd (omega (arith, many))
picks-copied test first (o ∷ os) [] many = absurd (omega (arith, many))
picks-copied test first (o ∷ os) (k ∷ ks) many = go (test first) (picks-copied test (suc first) os ks (omega (arith, many)))
  where
    go : (b : Bool) → copied (copies_of (picks_of test (suc first) os)) (picked (picks_of test (suc first) os) ks) ≡ leaves_at test (suc first) ks
        → copied (copies_of (b ∷ picks_of test (suc first) os)) (picked (b ∷ picks_of test (suc first) os) (k ∷ ks)) ≡ (if b then leaves_of k else 0) + leaves_at test (suc first) ks
    go true rest = ap (λ n. leaves_of k + n) rest
    go false rest = rest ∙ omega arith

pub modes-copy : DoModesCopy
modes-copy = (modes-copied, picks-copied)

-- a cell that is taken is that of a port that is
pub taken-port : (places : Places) (takes consumes : ℕ → Bool) (first : ℕ) (os : List Source) (i : ℕ) → IsTaken (modes_of takes consumes first os) (map (operand places) os) i
    → (j : ℕ) × (l : ℕ) × (p : ℕ) × Fills j os first l p × (takes j ≡ true) × (places l p ≡ At i)
taken-port places takes consumes first [] i h = absurd h
taken-port places takes consumes first (o ∷ os) i (inr h) =
    let x = taken-port places takes consumes (suc first) os i h in
    (x.0, x.1, x.2, inr x.3, x.4, x.5)
taken-port places takes consumes first (Fixed c ∷ os) i (inl h) = absurd (clash h.1)
  where
    clash : Lit c ≡ At i → ⊥
    clash e = cc
taken-port places takes consumes first (Port l p ∷ os) i (inl h) = (first, l, p, inl (refl, refl), takes-mode (takes first) (consumes first) h.0, h.1)

-- what is taken is gone after it
pub gone-before : (takes : ℕ → Bool) (first : ℕ) (os : List Source) (gone : Taken) (l p : ℕ) → WasTaken gone l p → WasTaken (taken_by takes first os gone) l p
gone-before takes first [] gone l p h = h
gone-before takes first (Fixed c ∷ os) gone l p h = gone-before takes (suc first) os gone l p h
gone-before takes first (Port a b ∷ os) gone l p h = go (takes first) (gone-before takes (suc first) os gone l p h)
  where
    go : (x : Bool) → WasTaken (taken_by takes (suc first) os gone) l p → WasTaken (if x then (a, b) ∷ taken_by takes (suc first) os gone else taken_by takes (suc first) os gone) l p
    go true d = inr d
    go false d = d

pub gone-after : (takes : ℕ → Bool) (first : ℕ) (os : List Source) (gone : Taken) (j l p : ℕ) → Fills j os first l p → takes j ≡ true → WasTaken (taken_by takes first os gone) l p
gone-after takes first [] gone j l p h t = absurd h
gone-after takes first (Fixed c ∷ os) gone j l p (inl h) t = absurd (clash h.1)
  where
    clash : Fixed c ≡ Port l p → ⊥
    clash e = cc
gone-after takes first (Fixed c ∷ os) gone j l p (inr h) t = gone-after takes (suc first) os gone j l p h t
gone-after takes first (Port a b ∷ os) gone j l p (inl h) t =
    subst (λ x. WasTaken (if x then (a, b) ∷ taken_by takes (suc first) os gone else taken_by takes (suc first) os gone) l p) (sym (ap takes h.0 ∙ t)) (inl (left h.1, right h.1))
  where
    left : Port a b ≡ Port l p → l ≡ a
    left e = cc

    right : Port a b ≡ Port l p → p ≡ b
    right e = cc
gone-after takes first (Port a b ∷ os) gone j l p (inr h) t = go (takes first) (gone-after takes (suc first) os gone j l p h t)
  where
    go : (x : Bool) → WasTaken (taken_by takes (suc first) os gone) l p → WasTaken (if x then (a, b) ∷ taken_by takes (suc first) os gone else taken_by takes (suc first) os gone) l p
    go true d = inr d
    go false d = d

pub reads-alive : (keep : ℕ → Bool) (places : Places) (known : Known) (gone : Taken) (os : List Source) → KnowsAll known os → NoneIsTaken gone os → AllIn (IsAlive keep places known gone) (map (operand places) os)
reads-alive keep places known gone [] k a = tt
reads-alive keep places known gone (Fixed c ∷ os) k a = reads-alive keep places known gone os k a
reads-alive keep places known gone (Port zero p ∷ os) k a = go (places zero p) refl (reads-alive keep places known gone os k a.1)
  where
    go : (o : Operand) → places zero p ≡ o → AllIn (IsAlive keep places known gone) (map (operand places) os) → AllIn (IsAlive keep places known gone) (o ∷ map (operand places) os)
    go (Lit c) e rest = rest
    go (At i) e rest = (inr (0, p, inl refl, a.0, e), rest)
reads-alive keep places known gone (Port (suc l) p ∷ os) k a = go (places (suc l) p) refl (reads-alive keep places known gone os k.1 a.1)
  where
    go : (o : Operand) → places (suc l) p ≡ o → AllIn (IsAlive keep places known gone) (map (operand places) os) → AllIn (IsAlive keep places known gone) (o ∷ map (operand places) os)
    go (Lit c) e rest = rest
    go (At i) e rest = (inr (suc l, p, inr k.0, a.0, e), rest)

-- what is live stands below a number
abbrev pub StandsBelow : (ℕ → Bool) → Places → Known → ℕ → Type 0
StandsBelow keep places known lo = ((i : ℕ) → keep i ≡ true → i < lo) × ((l p i : ℕ) → KnowsPort known l p → places l p ≡ At i → i < lo)

pub node-lively : (keep : ℕ → Bool) (places : Places) (known : Known) (gone : Taken) (takes consumes : ℕ → Bool) (v : Vertex) (lo w : ℕ)
    → Puts places v.label lo w → KnowsAll known v.ins → NoneIsTaken gone v.ins
    → ((j l p : ℕ) → Fills j v.ins (first_port v.kind) l p → takes j ≡ true → IsOwnCell keep places known l p) → StandsBelow keep places known lo
    → AllIn (IsAlive keep places known gone) (map (operand places) v.ins) × StaysAlive keep places known gone takes consumes v lo w
node-lively keep places known gone takes consumes v lo w puts knows alive own low = (reads-alive keep places known gone v.ins knows alive, λ i h. after i h)
  where
    at-inj : (a b : ℕ) → At a ≡ At b → a ≡ b
    at-inj a b e = cc

    before : (i l p : ℕ) → KnowsPort known l p → (WasTaken (taken_by takes (first_port v.kind) v.ins gone) l p → ⊥) → places l p ≡ At i
        → IsAlive keep places known gone i × (IsTaken (modes_of takes consumes (first_port v.kind) v.ins) (map (operand places) v.ins) i → ⊥) × (i < lo)
    before i l p k live at = (
      inr (l, p, k, (λ d. live (gone-before takes (first_port v.kind) v.ins gone l p d)), at),
      (λ t. let x = taken-port places takes consumes (first_port v.kind) v.ins i t in
          let e = (own x.0 x.1 x.2 x.3 x.4).alone i l p x.5 k at in
          live (subst (λ z. WasTaken (taken_by takes (first_port v.kind) v.ins gone) z p) (sym e.0)
          (subst (λ z. WasTaken (taken_by takes (first_port v.kind) v.ins gone) x.1 z) (sym e.1) (gone-after takes (first_port v.kind) v.ins gone x.0 x.1 x.2 x.3 x.4)))),
      low.1 l p i k at,
    )

    after : (i : ℕ) → IsAlive keep places ((v.label, w) ∷ known) (taken_by takes (first_port v.kind) v.ins gone) i
        → ((lo ≤ i) × (i < lo + w)) ⊎ (IsAlive keep places known gone i × (IsTaken (modes_of takes consumes (first_port v.kind) v.ins) (map (operand places) v.ins) i → ⊥) × (i < lo))
    after i (inl k) = inr (inl k, (λ t. let x = taken-port places takes consumes (first_port v.kind) v.ins i t in (own x.0 x.1 x.2 x.3 x.4).kept i x.5 k), low.0 i k)
    after i (inr (l, p, inl z, live, at)) = inr (before i l p (inl z) live at)
    after i (inr (l, p, inr (inr k), live, at)) = inr (before i l p (inr k) live at)
    after i (inr (l, p, inr (inl x), live, at)) =
        let lt = x.2 in
        let e = at-inj (lo + x.1) i (sym (puts x.1 x.2) ∙ (sym (ap (places v.label) x.3) ∙ (sym (ap (λ z. places z p) x.0) ∙ at))) in
        inl (omega (arith, e), omega (arith, e, lt))

-- ---- the nodes of a graph

same-cell : (a b : ℕ) → At a ≡ At b → a ≡ b
same-cell a b e = cc

-- the known outputs stand between two numbers, the later ones above the others
abbrev pub Ranged : Places → ℕ → Known → ℕ → Type 0
Ranged places bottom [] lo = bottom ≤ lo
Ranged places bottom (k ∷ ks) lo = (s : ℕ) × Puts places k.0 s k.1 × (s + k.1 ≤ lo) × Ranged places bottom ks s

module _ (places : Places) (bottom : ℕ) where
  ranged-at-least : (known : Known) (lo : ℕ) → Ranged places bottom known lo → bottom ≤ lo
  ranged-at-least [] lo r = r
  ranged-at-least (k ∷ ks) lo r = let a = ranged-at-least ks r.0 r.3 in let b = r.2 in omega (arith, a, b)

  in-range : (known : Known) (lo l p : ℕ) → Ranged places bottom known lo → Knows known l p → (c : ℕ) × (places l p ≡ At c) × (bottom ≤ c) × (c < lo)
  in-range [] lo l p r k = absurd k
  in-range (k ∷ ks) lo l p r (inl h) =
      let a = ranged-at-least ks r.0 r.3 in
      let lt = h.2 in
      let b = r.2 in
      (r.0 + h.1, ap (λ x. places x p) h.0 ∙ (ap (places k.0) h.3 ∙ r.1 h.1 h.2), omega (arith, a), omega (arith, lt, b))
  in-range (k ∷ ks) lo l p r (inr h) =
      let x = in-range ks r.0 l p r.3 h in
      let lt = x.3 in
      let b = r.2 in
      (x.0, x.1, x.2, omega (arith, lt, b))

  -- where an output of the first node stands
  head-at : (k : ℕ × ℕ) (s l p i : ℕ) → Puts places k.0 s k.1 → (h : (l ≡ k.0) × (n : ℕ) × (n < k.1) × (p ≡ suc n)) → places l p ≡ At i → i ≡ s + h.1
  head-at k s l p i puts h at = sym (same-cell (s + h.1) i (sym (puts h.1 h.2) ∙ (sym (ap (places k.0) h.3) ∙ (sym (ap (λ x. places x p) h.0) ∙ at))))

  one-cell : (known : Known) (lo l p m q i : ℕ) → Ranged places bottom known lo → Knows known l p → Knows known m q → places l p ≡ At i → places m q ≡ At i → (m ≡ l) × (q ≡ p)
  one-cell [] lo l p m q i r a b x y = absurd a
  one-cell (k ∷ ks) lo l p m q i r (inl a) (inl b) x y =
      let e = head-at k r.0 l p i r.1 a x in
      let f = head-at k r.0 m q i r.1 b y in
      let u = a.3 in
      let v = b.3 in
      (b.0 ∙ sym a.0, omega (arith, e, f, u, v))
  one-cell (k ∷ ks) lo l p m q i r (inl a) (inr b) x y =
      let e = head-at k r.0 l p i r.1 a x in
      let z = in-range ks r.0 m q r.3 b in
      let f = same-cell z.0 i (sym z.1 ∙ y) in
      let lt = z.3 in
      absurd (omega (arith, e, f, lt))
  one-cell (k ∷ ks) lo l p m q i r (inr a) (inl b) x y =
      let e = head-at k r.0 m q i r.1 b y in
      let z = in-range ks r.0 l p r.3 a in
      let f = same-cell z.0 i (sym z.1 ∙ x) in
      let lt = z.3 in
      absurd (omega (arith, e, f, lt))
  one-cell (k ∷ ks) lo l p m q i r (inr a) (inr b) x y = one-cell ks r.0 l p m q i r.3 a b x y

-- a known port that fills a port of a node
pub known-at : (known : Known) (first : ℕ) (os : List Source) (j l p : ℕ) → KnowsAll known os → Fills j os first (suc l) p → Knows known (suc l) p
known-at known first [] j l p k h = absurd h
known-at known first (Fixed c ∷ os) j l p k (inl h) = absurd (clash h.1)
  where
    clash : Fixed c ≡ Port (suc l) p → ⊥
    clash e = cc
known-at known first (Fixed c ∷ os) j l p k (inr h) = known-at known (suc first) os j l p k h
known-at known first (Port zero q ∷ os) j l p k (inl h) = absurd (clash h.1)
  where
    clash : Port zero q ≡ Port (suc l) p → ⊥
    clash e = cc
known-at known first (Port zero q ∷ os) j l p k (inr h) = known-at known (suc first) os j l p k h
known-at known first (Port (suc m) q ∷ os) j l p k (inl h) = subst (λ x. Knows known x p) (left h.1) (subst (λ x. Knows known (suc m) x) (right h.1) k.0)
  where
    left : Port (suc m) q ≡ Port (suc l) p → suc m ≡ suc l
    left e = cc

    right : Port (suc m) q ≡ Port (suc l) p → q ≡ p
    right e = cc
known-at known first (Port (suc m) q ∷ os) j l p k (inr h) = known-at known (suc first) os j l p k.1 h

module _ (keep : ℕ → Bool) (places : Places) (owned : ℕ → Bool) (bottom : ℕ) (placed : AreInputsPlaced keep places owned bottom) where
  -- an output that is known has a cell of its own
  pub own-output : (known : Known) (lo l p : ℕ) → Ranged places bottom known lo → Knows known l p → IsOwnCell keep places known l p
  own-output known lo l p r k =
      record {
        kept = λ i at h. let x = in-range places bottom known lo l p r k in
            let e = same-cell x.0 i (sym x.1 ∙ at) in
            let a = x.2 in
            let b = placed.kept i h in
            absurd (omega (arith, e, a, b));
        alone = λ i m q at known_too also. one i m q at known_too also;
      }
    where
      one : (i m q : ℕ) → places l p ≡ At i → KnowsPort known m q → places m q ≡ At i → (m ≡ l) × (q ≡ p)
      one i m q at (inr h) also = one-cell places bottom known lo l p m q i r k h at also
      one i m q at (inl z) also =
          let x = in-range places bottom known lo l p r k in
          let e = same-cell x.0 i (sym x.1 ∙ at) in
          let a = x.2 in
          let b = placed.inputs q i (sym (ap (λ x. places x q) z) ∙ also) in
          absurd (omega (arith, e, a, b))

  -- so has an input that may be taken
  pub own-input : (known : Known) (lo p : ℕ) → Ranged places bottom known lo → owned p ≡ true → IsOwnCell keep places known 0 p
  own-input known lo p r o =
      record {
        kept = λ i at h. (placed.apart p i o at).0 h;
        alone = λ i m q at known_too also. one i m q at known_too also;
      }
    where
      one : (i m q : ℕ) → places 0 p ≡ At i → KnowsPort known m q → places m q ≡ At i → (m ≡ 0) × (q ≡ p)
      one i m q at (inl z) also = (z, (placed.apart p i o at).1 q (sym (ap (λ x. places x q) z) ∙ also))
      one i m q at (inr h) also =
          let x = in-range places bottom known lo m q r h in
          let e = same-cell x.0 i (sym x.1 ∙ also) in
          let a = x.2 in
          let b = placed.inputs p i at in
          absurd (omega (arith, e, a, b))

  -- what is live stands below the next outputs
  pub low : (lo : ℕ) (known : Known) → Ranged places bottom known lo → StandsBelow keep places known lo
  low lo known r = ((λ i k. let a = placed.kept i k in let b = ranged-at-least places bottom known lo r in omega (arith, a, b)), λ l p i k at. port l p i k at)
    where
      port : (l p i : ℕ) → KnowsPort known l p → places l p ≡ At i → i < lo
      port l p i (inl z) at =
          let a = placed.inputs p i (sym (ap (λ x. places x p) z) ∙ at) in
          let b = ranged-at-least places bottom known lo r in
          omega (arith, a, b)
      port l p i (inr k) at =
          let x = in-range places bottom known lo l p r k in
          let e = same-cell x.0 i (sym x.1 ∙ at) in
          let lt = x.3 in
          omega (arith, e, lt)

  module _ (width : Vertex → ℕ) (marks : Marks) (consumes : ℕ → ℕ → Bool) (results : List Source) where
    nodes-lively : (vs : List Vertex) (lo : ℕ) (known : Known) (gone : Taken) → Ranged places bottom known lo → AreStacked keep places width marks consumes lo vs → IsReadable width known vs → AreTakersLast marks gone vs results
        → EachNode (λ v. (j p : ℕ) → Fills j v.ins (first_port v.kind) 0 p → marks v.label j ≡ true → owned p ≡ true) vs → AreNodesLively keep places width marks consumes lo known gone vs
    nodes-lively [] lo known gone r stacked ordered last owns = tt
    nodes-lively (v ∷ vs) lo known gone r stacked ordered last owns =
        let n = node-lively keep places known gone (marks v.label) (consumes v.label) v lo (width v) stacked.0 ordered.2 last.0 (λ j l p at t. own j l p at t) (low lo known r) in
        (n.0, n.1, nodes-lively vs (lo + width v) ((v.label, width v) ∷ known) (taken_by (marks v.label) (first_port v.kind) v.ins gone) (lo, stacked.0, omega arith, r) stacked.1 ordered.3 last.2 owns.1)
      where
        own : (j l p : ℕ) → Fills j v.ins (first_port v.kind) l p → marks v.label j ≡ true → IsOwnCell keep places known l p
        own j zero p at t = own-input known lo p r (owns.0 j p at t)
        own j (suc l) p at t = own-output known lo (suc l) p r (known-at known (first_port v.kind) v.ins j l p ordered.2 at)

pub nodes-lively-in-order : AreNodesLivelyInOrder
nodes-lively-in-order keep places owned bottom placed width marks consumes vs results stacked ordered last owns =
    nodes-lively keep places owned bottom placed width marks consumes results vs bottom [] [] (omega arith) stacked ordered last owns
