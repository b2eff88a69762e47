-- Edges in order, before and from the place at which an edge to a port would stand.
use Rattle.std.proofs.Common.{◌≡◌, ℕ, zero, suc, ◌<◌, ◌≤◌, Bool, true, false, cond, leb, not, ◌&&◌, ◌||◌, ◌==◌, nat_lt, List, [], ◌∷◌, length, get_or, slice_get, option_and_then, if◌then◌else◌, Option, Some, None, AllPairs, inl, inr, ◌⊎◌, refl, sym, ap, subst, ◌∙◌, arith}
use Rattle.std.specs.List.{AllWithin}
use Rattle.std.specs.List.Sorted.{IsPartitionedBy}
use Rattle.std.proofs.lemmas.Bool.{and_parts, both_ways}
use Rattle.std.proofs.lemmas.Bool.Decides.{eqb_tells, leb_tells}
use Rattle.std.proofs.lemmas.Option.{get_or_from_slice_get}
use Rattle.if1_graph.specs.declared.graph.Edge.{Edge}
use Rattle.if1_graph.specs.Normal.{Precedes}
use Rattle.if1_marks.proofs.Tests.{same-number}
use Rattle.port_feeds.specs.Found.{edge_found, if_leading, leads_to, stands_before}

module _ (l p : ℕ) where
  -- by numbers: an edge to a lower port of the node, or to a node before it
  abbrev IsBefore : Edge → Type 0
  IsBefore e = ((e.node ≡ l) × (e.port < p)) ⊎ ((e.node ≡ l → ⊥) × (1 ≤ e.node) × ((l ≡ 0) ⊎ (e.node < l)))

  no-before : (e : Edge) → (e.node ≡ l → e.port < p → ⊥) → ((e.node ≡ l → ⊥) → 1 ≤ e.node → (l ≡ 0) ⊎ (e.node < l) → ⊥) → IsBefore e → ⊥
  no-before e a b (inl h) = a h.0 h.1
  no-before e a b (inr h) = b h.0 h.1 h.2

  abbrev Tells : Edge → Type 0
  Tells e = ((stands_before l p e ≡ true) × IsBefore e) ⊎ ((stands_before l p e ≡ false) × (IsBefore e → ⊥))

  tells : (e : Edge) → Tells e
  tells e = elim (eqb_tells e.node l) [ inl s ↦ level s.0 s.1 (leb_tells (suc e.port) p) | inr d ↦ other d.0 d.1 (eqb_tells e.node 0) (eqb_tells l 0) (leb_tells (suc e.node) l) ]
    where
      level : (e.node == l) ≡ true → e.node ≡ l → ((leb (suc e.port) p ≡ true) × (suc e.port ≤ p)) ⊎ ((leb (suc e.port) p ≡ false) × (p < suc e.port)) → Tells e
      level s same (inl lt) = inl (ap (λ c. if c then nat_lt e.port p else (not (e.node == 0) && ((l == 0) || nat_lt e.node l))) s ∙ lt.0, inl (same, omega (arith, lt.1)))
      level s same (inr ge) = inr (ap (λ c. if c then nat_lt e.port p else (not (e.node == 0) && ((l == 0) || nat_lt e.node l))) s ∙ ge.0, no-before e (λ x y. absurd (omega (arith, ge.1, y))) (λ x y z. x same))

      other : (e.node == l) ≡ false → (e.node ≡ l → ⊥) → (((e.node == 0) ≡ true) × (e.node ≡ 0)) ⊎ (((e.node == 0) ≡ false) × (e.node ≡ 0 → ⊥)) → (((l == 0) ≡ true) × (l ≡ 0)) ⊎ (((l == 0) ≡ false) × (l ≡ 0 → ⊥))
          → ((leb (suc e.node) l ≡ true) × (suc e.node ≤ l)) ⊎ ((leb (suc e.node) l ≡ false) × (l < suc e.node)) → Tells e
      other s differ a b c =
          elim a [
            | inl z ↦ inr (
              ap (λ c. if c then nat_lt e.port p else (not (e.node == 0) && ((l == 0) || nat_lt e.node l))) s ∙ ap (λ t. not t && ((l == 0) || nat_lt e.node l)) z.0,
              no-before e (λ x y. differ x) (λ x y w. absurd (omega (arith, y, z.1))),
            )
            | inr n ↦
                elim b [
                  | inl z ↦ inl (
                    ap (λ c. if c then nat_lt e.port p else (not (e.node == 0) && ((l == 0) || nat_lt e.node l))) s ∙ (ap (λ t. not t && ((l == 0) || nat_lt e.node l)) n.0 ∙ ap (λ t. t || nat_lt e.node l) z.0),
                    inr (differ, omega (arith, n.1), inl z.1),
                  )
                  | inr m ↦
                      elim c [
                        | inl lt ↦ inl (
                          ap (λ c. if c then nat_lt e.port p else (not (e.node == 0) && ((l == 0) || nat_lt e.node l))) s ∙ (ap (λ t. not t && ((l == 0) || nat_lt e.node l)) n.0 ∙ (ap (λ t. t || nat_lt e.node l) m.0 ∙ lt.0)),
                          inr (differ, omega (arith, n.1), inr (omega (arith, lt.1))),
                        )
                        | inr ge ↦ inr (
                          ap (λ c. if c then nat_lt e.port p else (not (e.node == 0) && ((l == 0) || nat_lt e.node l))) s ∙ (ap (λ t. not t && ((l == 0) || nat_lt e.node l)) n.0 ∙ (ap (λ t. t || nat_lt e.node l) m.0 ∙ ge.0)),
                          no-before e (λ x y. differ x) (λ x y w. elim w [ inl z ↦ m.1 z | inr lt ↦ absurd (omega (arith, ge.1, lt)) ]),
                        )
                      ]
                ]
          ]

  told : (e : Edge) → stands_before l p e ≡ true → IsBefore e
  told e h = elim (tells e) [ inl t ↦ t.1 | inr t ↦ absurd (both_ways (stands_before l p e) t.0 h) ]

  shown : (e : Edge) → IsBefore e → stands_before l p e ≡ true
  shown e h = elim (tells e) [ inl t ↦ t.0 | inr t ↦ absurd (t.1 h) ]

  -- what stands before stays before further to the front
  front : (a b : Edge) → Precedes a b → IsBefore b → IsBefore a
  front a b (inl h) (inl k) = inl (h.0 ∙ k.0, omega (arith, h.1, k.1))
  front a b (inl h) (inr k) = inr (λ s. k.0 (sym h.0 ∙ s), omega (arith, h.0, k.1), elim k.2 [ inl z ↦ inl z | inr lt ↦ inr (omega (arith, h.0, lt)) ])
  front a b (inr (one, inl lt)) (inl k) = inr (λ s. absurd (omega (arith, s, lt, k.0)), one, inr (omega (arith, lt, k.0)))
  front a b (inr (one, inr z)) (inl k) = inr (λ s. absurd (omega (arith, s, z, k.0, one)), one, inl (omega (arith, z, k.0)))
  front a b (inr (one, inl lt)) (inr k) = elim k.2 [ inl z ↦ inr (λ s. absurd (omega (arith, s, z, one)), one, inl z) | inr m ↦ inr (λ s. absurd (omega (arith, s, lt, m)), one, inr (omega (arith, lt, m))) ]
  front a b (inr (one, inr z)) (inr k) = absurd (omega (arith, z, k.1))

  pair-at : (es : List Edge) (i j : ℕ) (d : Edge) → AllPairs Precedes es → i ≤ j → j < length es → IsBefore (get_or es j d) → IsBefore (get_or es i d)
  pair-at es i j d h a b k = elim (split i j a) [ inl e ↦ subst (λ n. IsBefore (get_or es n d)) (sym e) k | inr lt ↦ front (get_or es i d) (get_or es j d) (h i j d lt b) k ]
    where
      split : (i j : ℕ) → i ≤ j → (i ≡ j) ⊎ (i < j)
      split i j h = grind arith

  pub parted : (es : List Edge) → AllPairs Precedes es → IsPartitionedBy (stands_before l p) es
  parted es h = λ i j d a b t. shown (get_or es i d) (pair-at es i j d h a b (told (get_or es j d) t))

  -- ---- what is found

  leads : (e : Edge) → leads_to l p e ≡ true → (e.node ≡ l) × (e.port ≡ p)
  leads e h = let q = and_parts (e.node == l) (e.port == p) h in (same-number e.node l q.0, same-number e.port p q.1)

  before-other : (e : Edge) → stands_before l p e ≡ true → leads_to l p e ≡ false
  before-other e h = go (leads_to l p e) refl
    where
      go : (b : Bool) → leads_to l p e ≡ b → leads_to l p e ≡ false
      go false is = is
      go true is =
          let s = leads e is in
          absurd (elim (told e h) [ inl t ↦ omega (arith, t.1, s.1) | inr t ↦ t.0 s.0 ])

  -- behind an edge that neither stands before nor leads there none leads there
  behind : (a b : Edge) → Precedes a b → stands_before l p a ≡ false → leads_to l p a ≡ false → leads_to l p b ≡ true → ⊥
  behind a b h n o t = go h (leads b t)
    where
      both : (a.node ≡ l) → (a.port ≡ p) → leads_to l p a ≡ true
      both x y = rw (x, y) (elim (eqb_tells l l) [ inl e ↦ elim (eqb_tells p p) [ inl f ↦ rw (e.0, f.0) refl | inr f ↦ absurd (f.1 refl) ] | inr e ↦ absurd (e.1 refl) ])

      denied : IsBefore a → ⊥
      denied k = both_ways (stands_before l p a) n (shown a k)

      low : a.node ≡ l → a.port ≤ p → ⊥
      low x y = elim (split a.port p y) [ inl e ↦ both_ways (leads_to l p a) o (both x e) | inr lt ↦ denied (inl (x, lt)) ]
        where
          split : (i j : ℕ) → i ≤ j → (i ≡ j) ⊎ (i < j)
          split i j h = grind arith

      go : Precedes a b → (b.node ≡ l) × (b.port ≡ p) → ⊥
      go (inl h) s = low (h.0 ∙ s.0) (omega (arith, h.1, s.1))
      go (inr (one, inl lt)) s = denied (inr (λ e. absurd (omega (arith, e, lt, s.0)), one, inr (omega (arith, lt, s.0))))
      go (inr (one, inr z)) s = denied (inr (λ e. absurd (omega (arith, e, z, s.0, one)), one, inl (omega (arith, z, s.0))))

  -- the second one may go
  without : (a b : Edge) (es : List Edge) → AllPairs Precedes (a ∷ b ∷ es) → AllPairs Precedes (a ∷ es)
  without a b es h i zero d x y = absurd (omega (arith, x))
  without a b es h zero (suc j) d x y = h 0 (suc (suc j)) d (omega arith) (omega (arith, y))
  without a b es h (suc i) (suc j) d x y = h (suc (suc i)) (suc (suc j)) d (omega (arith, x)) (omega (arith, y))

  none-behind : (a : Edge) (es : List Edge) → AllPairs Precedes (a ∷ es) → stands_before l p a ≡ false → leads_to l p a ≡ false → edge_found es l p ≡ None
  none-behind a [] h n o = refl
  none-behind a (b ∷ es) h n o = go (leads_to l p b) refl (none-behind a es (without a b es h) n o)
    where
      go : (c : Bool) → leads_to l p b ≡ c → edge_found es l p ≡ None → cond c (Some b) (edge_found es l p) ≡ None
      go true t rest = absurd (behind a b (h 0 1 a (omega arith) (omega arith)) n o t)
      go false t rest = rest

  pub found-at : (es : List Edge) (k : ℕ) → AllPairs Precedes es → AllWithin (λ e. stands_before l p e ≡ true) es 0 k → AllWithin (λ e. stands_before l p e ≡ false) es k (length es)
      → option_and_then (if_leading l p) (slice_get es k) ≡ edge_found es l p
  found-at [] k h before after = refl
  found-at (e ∷ es) zero h before after = go (leads_to l p e) refl
    where
      go : (c : Bool) → leads_to l p e ≡ c → cond c (Some e) None ≡ cond c (Some e) (edge_found es l p)
      go true t = refl
      go false t = sym (none-behind e es h (after 0 e (omega arith) (omega arith)) t)
  found-at (e ∷ es) (suc k) h before after =
      found-at es k (λ i j d x y. h (suc i) (suc j) d (omega (arith, x)) (omega (arith, y))) (λ j d x y. before (suc j) d (omega arith) (omega (arith, y))) (λ j d x y. after (suc j) d (omega (arith, x)) (omega (arith, y)))
      ∙ sym (ap (λ c. cond c (Some e) (edge_found es l p)) (before-other e (before 0 e (omega arith) (omega arith))))

-- what leads there is that edge
pub leading-is : (l p : ℕ) (o : Option Edge) (e : Edge) → option_and_then (if_leading l p) o ≡ Some e → o ≡ Some e
leading-is l p None e h = absurd (let x : None ≡ Some e = h in cc)
leading-is l p (Some x) e h = go (leads_to l p x) h
  where
    go : (c : Bool) → cond c (Some x) None ≡ Some e → Some x ≡ Some e
    go true h = h
    go false h = absurd (let x : None ≡ Some e = h in cc)

-- where edges from this place on do not stand before a port, and the first of them leads to a higher one, none leads to one between
pub passed : (l p j : ℕ) (es : List Edge) (k : ℕ) (e : Edge) → AllPairs Precedes es → AllWithin (λ e. stands_before l p e ≡ true) es 0 k → slice_get es k ≡ Some e → e.node ≡ l → p ≤ j → j < e.port → edge_found es l j ≡ None
passed l p j es k e h before at node le lt =
    sym (found-at l j es k h (λ i d a b. shown l j (get_or es i d) (later (get_or es i d) (told l p (get_or es i d) (before i d a b)))) (λ i d a b. off i d a b))
    ∙ (ap (option_and_then (if_leading l j)) at ∙ another (leads_to l j e) refl)
  where
    later : (x : Edge) → IsBefore l p x → IsBefore l j x
    later x (inl t) = let u = t.1 in inl (t.0, omega (arith, u, le))
    later x (inr t) = inr t

    denied : (x : Edge) → x ≡ e → IsBefore l j x → ⊥
    denied x s (inl t) = let a = t.1 in let b = ap (λ (y : Edge). y.port) s in omega (arith, a, b, lt)
    denied x s (inr t) = t.0 (ap (λ (y : Edge). y.node) s ∙ node)

    off : (i : ℕ) (d : Edge) → k ≤ i → i < length es → stands_before l j (get_or es i d) ≡ false
    off i d a b = go (stands_before l j (get_or es i d)) refl
      where
        go : (c : Bool) → stands_before l j (get_or es i d) ≡ c → stands_before l j (get_or es i d) ≡ false
        go false is = is
        go true is = absurd (denied (get_or es k d) (get_or_from_slice_get es k e d at) (pair-at l j es k i d h a b (told l j (get_or es i d) is)))

    another : (c : Bool) → leads_to l j e ≡ c → (if leads_to l j e then Some e else None) ≡ None
    another false is = ap (λ c. if c then Some e else None) is
    another true is = let s = (leads l j e is).1 in absurd (omega (arith, s, lt))
