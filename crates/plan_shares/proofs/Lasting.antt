-- Takers are last in the nodes of a returns on what is collected, where they are in the returns.
use Rattle.std.proofs.Common.{◌≡◌, ◌⊎◌, ℕ, zero, suc, ◌+◌, ◌<◌, Bool, true, false, if◌then◌else◌, List, [], ◌∷◌, length, Some, None, inl, inr, refl, sym, ap, ◌∙◌, subst, arith}
use Rattle.std.specs.Prelude.{slice_get}
use Rattle.graph_meaning.specs.Carried.{Carried}
use Rattle.graph_meaning.specs.Demand.{EachNode, Fixed, Port, Source, Vertex}
use Rattle.ordered_meaning.specs.Taking.{AreTakersLast, Fills, IsTaken, Marks, NoneIsTaken, Taken, TakesAlone, first_port, taken_by}
use Rattle.run_code.specs.Collections.{Collect}
use Rattle.made_store.proofs.Around.{none-filled}
use Rattle.unit_plan.specs.Returns.{multiple, node_collects, refolded_node, refolded_nodes}
use Rattle.plan_shares.proofs.Replacing.{IsFrom, IsWholePlain, NoMultiples, comes-from, many-is, new, node-first, node-label, node-replaced, old, read-once}

-- ---- what is taken

same-port : (a b l p : ℕ) → l ≡ a → p ≡ b → Port a b ≡ Port l p
same-port a b l p e f = cc

-- by a node, or before
pub taken-where : (takes : ℕ → Bool) (i : ℕ) (os : List Source) (gone : Taken) (l p : ℕ) → IsTaken (taken_by takes i os gone) l p → IsTaken gone l p ⊎ ((j : ℕ) × Fills j os i l p × (takes j ≡ true))
taken-where takes i [] gone l p h = inl h
taken-where takes i (Fixed c ∷ os) gone l p h = later (taken-where takes (suc i) os gone l p h)
  where
    later : IsTaken gone l p ⊎ ((j : ℕ) × Fills j os (suc i) l p × (takes j ≡ true)) → IsTaken gone l p ⊎ ((j : ℕ) × Fills j (Fixed c ∷ os) i l p × (takes j ≡ true))
    later (inl h) = inl h
    later (inr h) = inr (h.0, inr h.1, h.2)
taken-where takes i (Port a b ∷ os) gone l p h = go (takes i) refl h (λ h. taken-where takes (suc i) os gone l p h)
  where
    later : IsTaken gone l p ⊎ ((j : ℕ) × Fills j os (suc i) l p × (takes j ≡ true)) → IsTaken gone l p ⊎ ((j : ℕ) × Fills j (Port a b ∷ os) i l p × (takes j ≡ true))
    later (inl h) = inl h
    later (inr h) = inr (h.0, inr h.1, h.2)

    go : (x : Bool) → takes i ≡ x → IsTaken (if x then (a, b) ∷ taken_by takes (suc i) os gone else taken_by takes (suc i) os gone) l p
        → (IsTaken (taken_by takes (suc i) os gone) l p → IsTaken gone l p ⊎ ((j : ℕ) × Fills j os (suc i) l p × (takes j ≡ true))) → IsTaken gone l p ⊎ ((j : ℕ) × Fills j (Port a b ∷ os) i l p × (takes j ≡ true))
    go true e (inl h) more = inr (i, inl (refl, same-port a b l p h.0 h.1), e)
    go true e (inr h) more = later (more h)
    go false e h more = later (more h)

none-is-taken : (gone : Taken) (i : ℕ) (os : List Source) → ((j l p : ℕ) → Fills j os i l p → IsTaken gone l p → ⊥) → NoneIsTaken gone os
none-is-taken gone i [] h = tt
none-is-taken gone i (Fixed c ∷ os) h = none-is-taken gone (suc i) os (λ j l p at d. h j l p (inr at) d)
none-is-taken gone i (Port l p ∷ os) h = (h i l p (inl (refl, refl)), none-is-taken gone (suc i) os (λ j l p at d. h j l p (inr at) d))

taken-before : (takes : ℕ → Bool) (i : ℕ) (os : List Source) (gone : Taken) (l p : ℕ) → IsTaken gone l p → IsTaken (taken_by takes i os gone) l p
taken-before takes i [] gone l p h = h
taken-before takes i (Fixed c ∷ os) gone l p h = taken-before takes (suc i) os gone l p h
taken-before takes i (Port a b ∷ os) gone l p h = go (takes i) (taken-before takes (suc i) os gone l p h)
  where
    go : (x : Bool) → IsTaken (taken_by takes (suc i) os gone) l p → IsTaken (if x then (a, b) ∷ taken_by takes (suc i) os gone else taken_by takes (suc i) os gone) l p
    go true d = inr d
    go false d = d

left-port : (a b l p : ℕ) → Port a b ≡ Port l p → l ≡ a
left-port a b l p e = cc

right-port : (a b l p : ℕ) → Port a b ≡ Port l p → p ≡ b
right-port a b l p e = cc

no-port : (c : Carried) (l p : ℕ) → Fixed c ≡ Port l p → ⊥
no-port c l p e = cc

taken-there : (takes : ℕ → Bool) (i : ℕ) (os : List Source) (gone : Taken) (j l p : ℕ) → Fills j os i l p → takes j ≡ true → IsTaken (taken_by takes i os gone) l p
taken-there takes i [] gone j l p h t = absurd h
taken-there takes i (Fixed c ∷ os) gone j l p (inl h) t = absurd (no-port c l p h.1)
taken-there takes i (Fixed c ∷ os) gone j l p (inr h) t = taken-there takes (suc i) os gone j l p h t
taken-there takes i (Port a b ∷ os) gone j l p (inl h) t =
    subst (λ x. IsTaken (if x then (a, b) ∷ taken_by takes (suc i) os gone else taken_by takes (suc i) os gone) l p) (sym (ap takes h.0 ∙ t)) (inl (left-port a b l p h.1, right-port a b l p h.1))
taken-there takes i (Port a b ∷ os) gone j l p (inr h) t = go (takes i) (taken-there takes (suc i) os gone j l p h t)
  where
    go : (x : Bool) → IsTaken (taken_by takes (suc i) os gone) l p → IsTaken (if x then (a, b) ∷ taken_by takes (suc i) os gone else taken_by takes (suc i) os gone) l p
    go true d = inr d
    go false d = d

-- ---- along the nodes

module _ (plain : ℕ) (left : (node port : ℕ) → Bool) (marks takes : Marks) where
  -- what was taken: what is no multiple by the marks, and collections of nodes before
  abbrev AreGone : ℕ → Taken → Taken → Type 0
  AreGone k gone gone' = (l p : ℕ) → IsTaken gone' l p → (IsTaken gone l p × (multiple plain (Port l p) ≡ None)) ⊎ ((a : ℕ) × (a < k) × (l ≡ 0) × (p ≡ suc (plain + a)))

  -- what is no multiple is taken by the marks alone
  abbrev pub TakesOld : (node first : ℕ) → List Source → Type 0
  TakesOld n first os = (i l p : ℕ) → Fills i os first l p → multiple plain (Port l p) ≡ None → takes n i ≡ true → marks n i ≡ true

  abbrev pub IsFit : Vertex → Type 0
  IsFit v = IsWholePlain plain v v.kind × TakesOld v.label (first_port v.kind) v.ins

  some-none : (m : ℕ) → Some m ≡ None → ⊥
  some-none m e = cc

  -- a collection is no plain source
  clash : (l p a : ℕ) → multiple plain (Port l p) ≡ None → l ≡ 0 → p ≡ suc (plain + a) → ⊥
  clash l p a n z q = some-none a (sym (many-is plain a) ∙ (sym (ap (λ x. multiple plain (Port x (suc (plain + a)))) z) ∙ (sym (ap (λ y. multiple plain (Port l y)) q) ∙ n)))

  module _ (k : ℕ) (v : Vertex) (gone gone' : Taken) (are : AreGone k gone gone') (fit : IsFit v) where
    abbrev v' : Vertex
    v' = refolded_node plain left k v v.kind

    abbrev first : ℕ
    first = first_port v.kind

    abbrev cs : List Collect
    cs = node_collects plain left v v.kind

    from : (i l p : ℕ) → Fills i v'.ins first l p → IsFrom plain k v.ins cs first i l p
    from i l p h = comes-from plain k v.ins v'.ins cs (node-replaced plain left k v fit.0) first i l p h

    reads-none : NoneIsTaken gone v.ins → NoneIsTaken gone' v'.ins
    reads-none none = none-is-taken gone' first v'.ins (λ j l p at d. go j l p (from j l p at) (are l p d))
      where
        go : (j l p : ℕ) → IsFrom plain k v.ins cs first j l p → (IsTaken gone l p × (multiple plain (Port l p) ≡ None)) ⊎ ((a : ℕ) × (a < k) × (l ≡ 0) × (p ≡ suc (plain + a))) → ⊥
        go j l p (old f n) (inl d) = none-filled gone v.ins first j l p none f d.0
        go j l p (old f n) (inr d) = clash l p d.0 n d.2 d.3
        go j l p (new a c at z q fin) (inl d) = clash l p (k + a) d.1 z q
        go j l p (new a c at z q fin) (inr d) = let lt = d.1 in let same = d.3 in omega (arith, lt, same, q)

    takes-alone : TakesAlone (marks v.label) first v.ins → TakesAlone (takes v.label) first v'.ins
    takes-alone alone i j l p at t also = go (from i l p at) (from j l p also)
      where
        go : IsFrom plain k v.ins cs first i l p → IsFrom plain k v.ins cs first j l p → i ≡ j
        go (old f n) (old h m) = alone i j l p f (fit.1 i l p f n t) h
        go (old f n) (new a c ats z q fin) = absurd (clash l p (k + a) n z q)
        go (new a c ats z q fin) more =
            read-once plain k v.ins v'.ins cs (node-replaced plain left k v fit.0) first i j (k + a)
            (subst (λ y. Fills i v'.ins first 0 y) q (subst (λ x. Fills i v'.ins first x p) z at)) (subst (λ y. Fills j v'.ins first 0 y) q (subst (λ x. Fills j v'.ins first x p) z also))

    still-gone : AreGone (k + length cs) (taken_by (marks v.label) first v.ins gone) (taken_by (takes v.label) first v'.ins gone')
    still-gone l p h = go (taken-where (takes v.label) first v'.ins gone' l p h)
      where
        below : (cs : List Collect) (a : ℕ) (c : Collect) → slice_get cs a ≡ Some c → a < length cs
        below [] a c e = absurd cc
        below (x ∷ cs) zero c e = omega arith
        below (x ∷ cs) (suc a) c e = let lt = below cs a c e in omega (arith, lt)

        was : (IsTaken gone l p × (multiple plain (Port l p) ≡ None)) ⊎ ((a : ℕ) × (a < k) × (l ≡ 0) × (p ≡ suc (plain + a)))
            → (IsTaken (taken_by (marks v.label) first v.ins gone) l p × (multiple plain (Port l p) ≡ None)) ⊎ ((a : ℕ) × (a < k + length cs) × (l ≡ 0) × (p ≡ suc (plain + a)))
        was (inl d) = inl (taken-before (marks v.label) first v.ins gone l p d.0, d.1)
        was (inr d) = let lt = d.1 in inr (d.0, omega (arith, lt), d.2, d.3)

        is : (j : ℕ) → takes v.label j ≡ true → IsFrom plain k v.ins cs first j l p
            → (IsTaken (taken_by (marks v.label) first v.ins gone) l p × (multiple plain (Port l p) ≡ None)) ⊎ ((a : ℕ) × (a < k + length cs) × (l ≡ 0) × (p ≡ suc (plain + a)))
        is j t (old f n) = inl (taken-there (marks v.label) first v.ins gone j l p f (fit.1 j l p f n t), n)
        is j t (new a c at z q fin) = let lt = below cs a c at in inr (k + a, omega (arith, lt), z, q)

        go : IsTaken gone' l p ⊎ ((j : ℕ) × Fills j v'.ins first l p × (takes v.label j ≡ true))
            → (IsTaken (taken_by (marks v.label) first v.ins gone) l p × (multiple plain (Port l p) ≡ None)) ⊎ ((a : ℕ) × (a < k + length cs) × (l ≡ 0) × (p ≡ suc (plain + a)))
        go (inl d) = was (are l p d)
        go (inr d) = is d.0 d.2 (from d.0 l p d.1)

  module _ (results : List Source) (none : NoMultiples plain results) (ends : TakesOld 0 1 results) where
    plain-result : (os : List Source) (i j l p : ℕ) → NoMultiples plain os → Fills j os i l p → multiple plain (Port l p) ≡ None
    plain-result [] i j l p n h = absurd h
    plain-result (o ∷ os) i j l p n (inl h) = sym (ap (multiple plain) h.1) ∙ n.0
    plain-result (o ∷ os) i j l p n (inr h) = plain-result os (suc i) j l p n.1 h

    results-last : (k : ℕ) (gone gone' : Taken) → AreGone k gone gone' → NoneIsTaken gone results × TakesAlone (marks 0) 1 results → NoneIsTaken gone' results × TakesAlone (takes 0) 1 results
    results-last k gone gone' are last = (
      none-is-taken gone' 1 results (λ j l p at d. go j l p at (are l p d)),
      λ i j l p at t also. last.1 i j l p at (ends i l p at (plain-result results 1 i l p none at) t) also,
    )
      where
        go : (j l p : ℕ) → Fills j results 1 l p → (IsTaken gone l p × (multiple plain (Port l p) ≡ None)) ⊎ ((a : ℕ) × (a < k) × (l ≡ 0) × (p ≡ suc (plain + a))) → ⊥
        go j l p at (inl d) = none-filled gone results 1 j l p last.0 at d.0
        go j l p at (inr d) = clash l p d.0 (plain-result results 1 j l p none at) d.2 d.3

    pub refolded-last : (vs : List Vertex) (k : ℕ) (gone gone' : Taken) → AreGone k gone gone' → EachNode IsFit vs → AreTakersLast marks gone vs results → AreTakersLast takes gone' (refolded_nodes plain left k vs) results
    refolded-last [] k gone gone' are fit last = results-last k gone gone' are last
    refolded-last (v ∷ vs) k gone gone' are fit last =
        let label = node-label plain left k v in
        let first = node-first plain left k v in
        let v' = refolded_node plain left k v v.kind in (
          reads-none k v gone gone' are fit.0 last.0,
          subst (λ n. TakesAlone (takes n) (first_port v'.kind) v'.ins) (sym label) (subst (λ f. TakesAlone (takes v.label) f v'.ins) (sym first) (takes-alone k v gone gone' are fit.0 last.1)),
          subst (λ n. AreTakersLast takes (taken_by (takes n) (first_port v'.kind) v'.ins gone') (refolded_nodes plain left (k + length (node_collects plain left v v.kind)) vs) results) (sym label)
              (subst (λ f. AreTakersLast takes (taken_by (takes v.label) f v'.ins gone') (refolded_nodes plain left (k + length (node_collects plain left v v.kind)) vs) results) (sym first)
              (refolded-last vs (k + length (node_collects plain left v v.kind)) (taken_by (marks v.label) (first_port v.kind) v.ins gone) (taken_by (takes v.label) (first_port v.kind) v'.ins gone') (still-gone k v gone gone' are fit.0) fit.1 last.2)),
        )
