-- In an order along data edges nodes read what was given before.
use Rattle.std.proofs.Common.{◌≡◌, ◌≢◌, ℕ, zero, suc, ◌≤◌, ◌⊎◌, inl, inr, List, [], ◌∷◌, Some, refl, ap, ◌∙◌, subst, arith}
use Rattle.run_laws.specs.Demand.{EachNode, Fixed, IsLabel, LabelsOnce, Net, Port, Source, Vertex, at_label, data_labels}
use Rattle.run_laws.specs.Entered.{IsIn}
use Rattle.run_laws.proofs.Bound.{in-left, label-after, labels_after}
use Rattle.run_laws.specs.Orders.{IsAlong}
use Rattle.run_laws.specs.Known.{IsReadable, Known, Knows, KnowsAll, known_after}
use Rattle.run_made.specs.Orders.{AreOrdersReadable, AreOutputs}

-- a label with so many ports is known
abbrev Holds : Known → (label many : ℕ) → Type 0
Holds [] l w = ⊥
Holds (k ∷ ks) l w = ((l ≡ k.0) × (w ≡ k.1)) ⊎ Holds ks l w

holds-knows : (known : Known) (l w p : ℕ) → Holds known l w → 1 ≤ p → p ≤ w → Knows known l p
holds-knows [] l w p h a b = absurd h
holds-knows (k ∷ ks) l w zero (inl h) a b = absurd (omega (arith, a))
holds-knows (k ∷ ks) l w (suc p) (inl h) a b = let e = h.1 in inl (h.0, p, omega (arith, b, e), refl)
holds-knows (k ∷ ks) l w p (inr h) a b = inr (holds-knows ks l w p h a b)

module _ (net : Net) (width : Vertex → ℕ) where
  -- what is known is of the labels before
  record Tells (known : Known) (before : List ℕ) : Type 0 where
    pub told : (n : ℕ) → IsIn n before → (v : Vertex) × (at_label net.nodes n ≡ Some v) × Holds known n (width v)
    pub only : (l p : ℕ) → Knows known l p → IsIn l before

  tells-more : (known : Known) (before : List ℕ) (v : Vertex) → Tells known before → at_label net.nodes v.label ≡ Some v → Tells ((v.label, width v) ∷ known) (v.label ∷ before)
  tells-more known before v t e =
      record {
        told = λ n. elim [ inl s ↦ (v, ap (at_label net.nodes) s ∙ e, inl (s, refl)) | inr i ↦ let x = t.told n i in (x.0, x.1, inr x.2) ];
        only = λ l p. elim [ inl h ↦ inl h.0 | inr h ↦ inr (t.only l p h) ];
      }

  reads-known : (known : Known) (before : List ℕ) → Tells known before → (os : List Source) → ((n : ℕ) → IsIn n (data_labels os) → IsIn n before) → AreOutputs width net os → KnowsAll known os
  reads-known known before t [] named outs = tt
  reads-known known before t (Fixed c ∷ os) named outs = reads-known known before t os named outs
  reads-known known before t (Port zero p ∷ os) named outs = reads-known known before t os named outs
  reads-known known before t (Port (suc l) p ∷ os) named outs =
      let x = t.told (suc l) (named (suc l) (inl refl)) in
      let y = outs.0 x.0 x.1 in
      (holds-knows known (suc l) (width x.0) p x.2 y.0 y.1, reads-known known before t os (λ n i. named n (inr i)) outs.1)

  along : (vs : List Vertex) (known : Known) (before : List ℕ) → Tells known before → EachNode (λ v. (v.label ≢ 0) × (at_label net.nodes v.label ≡ Some v)) vs → IsAlong before vs → EachNode (λ v. AreOutputs width net v.ins) vs
      → IsReadable width known vs × Tells (known_after width known vs) (labels_after before vs)
  along [] known before t nodes order outs = (tt, t)
  along (v ∷ vs) known before t nodes order outs =
      let rest = along vs ((v.label, width v) ∷ known) (v.label ∷ before) (tells-more known before v t nodes.0.1) nodes.1 order.2 outs.1 in
      ((nodes.0.0, (λ p k. order.1 (t.only v.label p k)), reads-known known before t v.ins (λ n i. order.0 n (in-left n (data_labels v.ins) v.before i)) outs.0, rest.0), rest.1)

-- labels that stand behind others are none of them
not-before : (vs : List Vertex) (before : List ℕ) (n : ℕ) → IsAlong before vs → IsLabel vs n → IsIn n before → ⊥
not-before [] before n h i b = i
not-before (v ∷ vs) before n h (inl e) b = h.1 (subst (λ m. IsIn m before) e b)
not-before (v ∷ vs) before n h (inr i) b = not-before vs (v.label ∷ before) n h.2 i (inr b)

labels-once : (vs : List Vertex) (before : List ℕ) → IsAlong before vs → LabelsOnce vs
labels-once [] before h = tt
labels-once (v ∷ vs) before h = ((λ i. not-before vs (v.label ∷ before) v.label h.2 i (inl refl)), labels-once vs (v.label ∷ before) h.2)

pub orders-readable : AreOrdersReadable
orders-readable net vs width orderly order outs results =
    let x = along net width vs [] [] (record { told = λ n i. absurd i; only = λ l p k. absurd k }) order.nodes order.along outs in
    ((x.0, reads-known net width (known_after width [] vs) (labels_after [] vs) x.1 net.results (λ n i. label-after [] vs n (inl (order.all n (orderly.results_named n i)))) results), labels-once vs [] order.along)
