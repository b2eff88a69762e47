-- In an order along data edges and ordering lists each taker is the last user of its port.
use Rattle.std.proofs.Common.{◌≡◌, ℕ, suc, ◌⊎◌, inl, inr, Bool, true, false, if◌then◌else◌, List, [], ◌∷◌, Some, refl, ap, ◌∙◌, subst}
use Rattle.graph_meaning.specs.Entered.{IsIn}
use Rattle.graph_meaning.specs.Demand.{Source, Port, Fixed, Vertex, Net, EachNode, at_label, waits, waits_of, WaitsFor, straight, through}
use Rattle.ordered_meaning.specs.Orders.{IsAlong}
use Rattle.ordered_meaning.specs.Taking.{Marks, first_port, Fills, Taken, IsTaken, taken_by, NoneIsTaken, AreTakersLast, IsTakenThere, AreMarksSound, IsTakenLast}
use Rattle.ordered_meaning.proofs.Shuffled.{listed}

abbrev TakenIn : (ℕ → Bool) → ℕ → List Source → Taken → ℕ → ℕ → Type 0
TakenIn takes i os gone l p = IsTaken gone l p ⊎ ((j : ℕ) × Fills j os i l p × (takes j ≡ true))

later : (takes : ℕ → Bool) (i : ℕ) (o : Source) (os : List Source) (gone : Taken) (l p : ℕ) → TakenIn takes (suc i) os gone l p → TakenIn takes i (o ∷ os) gone l p
later takes i o os gone l p (inl h) = inl h
later takes i o os gone l p (inr h) = inr (h.0, inr h.1, h.2)

same-port : (a b l p : ℕ) → l ≡ a → p ≡ b → Port a b ≡ Port l p
same-port a b l p e f = cc

-- what is taken by a node, or was before
taken-where : (takes : ℕ → Bool) (i : ℕ) (os : List Source) (gone : Taken) (l p : ℕ) → IsTaken (taken_by takes i os gone) l p → TakenIn takes i os gone l p
taken-where takes i [] gone l p h = inl h
taken-where takes i (Fixed c ∷ os) gone l p h = later takes i (Fixed c) os gone l p (taken-where takes (suc i) os gone l p h)
taken-where takes i (Port a b ∷ os) gone l p h = go (takes i) refl h (λ h. later takes i (Port a b) os gone l p (taken-where takes (suc i) os gone l p h))
  where
    go : (x : Bool) → takes i ≡ x → IsTaken (if x then (a, b) ∷ taken_by takes (suc i) os gone else taken_by takes (suc i) os gone) l p
        → (IsTaken (taken_by takes (suc i) os gone) l p → TakenIn takes i (Port a b ∷ os) gone l p) → TakenIn takes i (Port a b ∷ os) gone l p
    go true e (inl h) more = inr (i, inl (refl, same-port a b l p h.0 h.1), e)
    go true e (inr h) more = more h
    go false e h more = more h

none-is-taken : (gone : Taken) (i : ℕ) (os : List Source) → ((j l p : ℕ) → Fills j os i l p → IsTaken gone l p → ⊥) → NoneIsTaken gone os
none-is-taken gone i [] h = tt
none-is-taken gone i (Fixed c ∷ os) h = none-is-taken gone (suc i) os (λ j l p at d. h j l p (inr at) d)
none-is-taken gone i (Port l p ∷ os) h = (h i l p (inl (refl, refl)), none-is-taken gone (suc i) os (λ j l p at d. h j l p (inr at) d))

module _ (g : Net) (marks : Marks) (sound : AreMarksSound g marks) where
  -- with a node stand those for which it waits
  abbrev Closed : List ℕ → Type 0
  Closed before = (l m : ℕ) → IsIn l before → WaitsFor g.nodes l m → IsIn m before

  waited-before : (v : Vertex) (before : List ℕ) → at_label g.nodes v.label ≡ Some v → ((n : ℕ) → IsIn n (waits v) → IsIn n before) → Closed before → (l m : ℕ) → WaitsFor g.nodes l m → l ≡ v.label → IsIn m before
  waited-before v before there waited closed _ _ (straight {l = l} {m = m} h) e =
      waited m (subst (λ o. IsIn m (waits_of o)) there (subst (λ x. IsIn m (waits_of (at_label g.nodes x))) e h))
  waited-before v before there waited closed _ _ (through {l = l} {m = k} {n = n} a b) e = closed k n (waited-before v before there waited closed l k a e) b

  closed-with : (v : Vertex) (before : List ℕ) → at_label g.nodes v.label ≡ Some v → ((n : ℕ) → IsIn n (waits v) → IsIn n before) → Closed before → Closed (v.label ∷ before)
  closed-with v before there waited closed l m (inl e) w = inr (waited-before v before there waited closed l m w e)
  closed-with v before there waited closed l m (inr h) w = inr (closed l m h w)

  -- a node that came before took each of these
  abbrev TakenBefore : List ℕ → Taken → Type 0
  TakenBefore before gone = (l p : ℕ) → IsTaken gone l p → (v : Vertex) × (i : ℕ) × IsTakenThere g marks l p v i × IsIn v.label before

  taken-with : (v : Vertex) (before : List ℕ) (gone : Taken) → at_label g.nodes v.label ≡ Some v → (n : ℕ) × (v.label ≡ suc n) → TakenBefore before gone → TakenBefore (v.label ∷ before) (taken_by (marks v.label) (first_port v.kind) v.ins gone)
  taken-with v before gone there labelled taken l p h = go (taken-where (marks v.label) (first_port v.kind) v.ins gone l p h)
    where
      go : IsTaken gone l p ⊎ ((j : ℕ) × Fills j v.ins (first_port v.kind) l p × (marks v.label j ≡ true)) → (x : Vertex) × (i : ℕ) × IsTakenThere g marks l p x i × IsIn x.label (v.label ∷ before)
      go (inl d) = let x = taken l p d in (x.0, x.1, x.2, inr x.3)
      go (inr a) = (v, a.0, record { node = there; labelled = labelled; fills = a.1; takes = a.2 }, inl refl)

  takers-last : (before : List ℕ) (gone : Taken) (vs : List Vertex) → EachNode (λ v. (l : ℕ) × (v.label ≡ suc l) × (at_label g.nodes (suc l) ≡ Some v)) vs → IsAlong before vs
      → (IsIn 0 before → ⊥) → Closed before → TakenBefore before gone → AreTakersLast marks gone vs g.results
  takers-last before gone [] lab along none closed taken =
      (none-is-taken gone 1 g.results (λ j l p at d. let x = taken l p d in none (closed x.0.label 0 x.3 (sound.no_result l p x.0 x.1 x.2 j at))), sound.alone)
  takers-last before gone (v ∷ vs) lab along none closed taken =
      let there : at_label g.nodes v.label ≡ Some v = ap (at_label g.nodes) lab.0.1 ∙ lab.0.2 in (
        none-is-taken gone (first_port v.kind) v.ins (λ j l p at d. let x = taken l p d in read-after x.0 x.1 x.3 (sound.last l p x.0 x.1 x.2 v j there at)),
        (λ i j l p at takes also. alone i j (sound.last l p v i (record { node = there; labelled = (lab.0.0, lab.0.1); fills = at; takes = takes }) v j there also)),
        takers-last (v.label ∷ before) (taken_by (marks v.label) (first_port v.kind) v.ins gone) vs lab.1 along.2 not-zero (closed-with v before there along.0 closed) (taken-with v before gone there (lab.0.0, lab.0.1) taken),
      )
    where
      -- no taker came before, since this node would stand twice
      read-after : (x : Vertex) (i : ℕ) {j : ℕ} → IsIn x.label before → ((x.label ≡ v.label) × (i ≡ j)) ⊎ WaitsFor g.nodes x.label v.label → ⊥
      read-after x i there (inl e) = along.1 (subst (λ z. IsIn z before) e.0 there)
      read-after x i there (inr w) = along.1 (closed x.label v.label there w)

      alone : (i j : ℕ) → ((v.label ≡ v.label) × (i ≡ j)) ⊎ WaitsFor g.nodes v.label v.label → i ≡ j
      alone i j (inl e) = e.1
      alone i j (inr w) = absurd (along.1 (waited-before v before (ap (at_label g.nodes) lab.0.1 ∙ lab.0.2) along.0 closed v.label v.label w refl))

      zero-label : (n : ℕ) → v.label ≡ suc n → 0 ≡ v.label → ⊥
      zero-label n a b = cc

      not-zero : IsIn 0 (v.label ∷ before) → ⊥
      not-zero (inl e) = zero-label lab.0.0 lab.0.1 e
      not-zero (inr h) = none h

pub taken-last : IsTakenLast
taken-last g vs marks orderly order sound =
    let o = listed g vs orderly order in
    takers-last g marks sound [] [] vs o.labelled o.along (λ h. h) (λ l m h w. absurd h) (λ l p h. absurd h)
