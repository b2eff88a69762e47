-- Orders of the graphs of a unit, one behind another.
use Rattle.std.proofs.Common.{◌≡◌, ℕ, suc, ◌+◌, ◌<◌, ◌≤◌, List, [], ◌∷◌, ◌++◌, length, get_or, slice_get, slice_index_or, option_map, Some, Contains, All, Bor, inl, inr, arith, sym, ap, subst, ◌∙◌}
use Rattle.std.proofs.lemmas.Bool.{cases_lt}
use Rattle.std.proofs.lemmas.List.{length-map, length_push, get_or-map, get_or_push, get_or_append_left}
use Rattle.std.proofs.lemmas.List.Elements.{All-contains, All-contains_itself, All-map}
use Rattle.std.proofs.lemmas.Option.{slice_get-map, slice_get-get_or, get_or_from_slice_get}
use Rattle.if1_graph.specs.declared.graph.Graph.{Graph}
use Rattle.if1_graph.specs.declared.graph.Unit1.{Unit1}
use Rattle.if1_graph.specs.Normal.{IsNormal, IsNormalGraph}
use Rattle.if1_graph.specs.Ready.{IsReady}
use Rattle.if1_graph.specs.Units.{Place, places}
use Rattle.if1_marks.specs.Sound.{IsSound, AreMarksRight}
use Rattle.firing_order.specs.Orders.{IsFiringOrder}
use Rattle.mark_check.specs.Graphs.{lent, unit_graphs}
use Rattle.unit_orders.specs.Orders.{CanFire, AreFirstOrders, AreOrdersOf, AreFiringOrders}
use Rattle.unit_orders.proofs.Numbered.{number-at}

-- ---- a loop over graphs

module _ (gs : List (Bor Graph)) (n : ℕ) (r : Bor Graph) (h : n < length gs) (is : r ≡ get_or gs n r) where
  here : get_or (lent gs) n r.now ≡ r.now
  here = get_or-map (λ (g : Bor Graph). g.now) gs n r r.now h ∙ ap (λ (g : Bor Graph). g.now) (sym is)

  many : length (lent gs) ≡ length gs
  many = length-map gs (λ (g : Bor Graph). g.now)

  pub fires : All CanFire (lent gs) → CanFire r.now
  fires all = subst CanFire here (all n r.now (omega (arith, h, many)))

  pub one-more : (old new : List (List ℕ)) (o : List ℕ) → AreFirstOrders (lent gs) n old → IsFiringOrder r.now o → new ≡ old ++ o ∷ [] → AreFirstOrders (lent gs) (n + 1) new
  one-more old new o was order e =
      record {
        within = omega (arith, h, many);
        fit = ap length e ∙ (length_push old o ∙ omega (arith, was.fit));
        each = λ k g lt at. elim (cases_lt k n) [
          | inl less ↦
              let same : slice_index_or old (suc k) [] ≡ slice_index_or new (suc k) [] =
              sym (ap (λ (xs : List (List ℕ)). slice_index_or xs (suc k) []) e ∙ get_or_append_left old (o ∷ []) [] (suc k) (omega (arith, less, was.fit))) in
              subst (IsFiringOrder g) same (was.each k g less at)
          | inr ge ↦
              let eq : n ≡ k = omega (arith, lt, ge) in
              let same : r.now ≡ g = sym here ∙ (ap (λ j. get_or (lent gs) j r.now) eq ∙ get_or_from_slice_get (lent gs) k g r.now at) in
              let last : o ≡ slice_index_or new (suc k) [] =
              sym (ap (λ (xs : List (List ℕ)). slice_index_or xs (suc k) []) e ∙ get_or_push old o [] (suc k) (omega (arith, eq, was.fit))) in
              subst (IsFiringOrder g) last (subst (λ (x : Graph). IsFiringOrder x o) same order)
        ];
      }

pub all-done : (gs : List (Bor Graph)) (os : List (List ℕ)) (n : ℕ) → length gs ≤ n → AreFirstOrders (lent gs) n os → AreOrdersOf (lent gs) os
all-done gs os n h was = subst (λ k. AreFirstOrders (lent gs) k os) (omega (arith, h, was.within, length-map gs (λ (g : Bor Graph). g.now))) was

-- ---- the unit

module _ (u : Unit1) (ready : IsReady u) (normal : IsNormal u) where
  pub graphs-fire : IsSound u → (gs : List Graph) → gs ≡ unit_graphs u → All CanFire gs
  graphs-fire sound gs are =
      subst (All CanFire) (sym are) (All-map CanFire (λ (p : Place). p.graph) (places u) (λ k d lt. fire (get_or (places u) k d) (All-contains_itself (places u) k d lt)))
    where
      fire : (p : Place) → Contains (places u) p → CanFire p.graph
      fire p c =
          record {
            rising = (All-contains (IsNormalGraph u) (places u) p normal c).nodes;
            acyclic = (All-contains (AreMarksRight u) (places u) p sound c).order.acyclic;
          }

  graphs-many : length (unit_graphs u) ≡ length (places u)
  graphs-many = length-map (places u) (λ (p : Place). p.graph)

  pub unit-orders : (gs : List Graph) (os : List (List ℕ)) → gs ≡ unit_graphs u → AreOrdersOf gs os → AreFiringOrders u os
  unit-orders gs os are given p c =
      let w : AreOrdersOf (unit_graphs u) os = subst (λ (xs : List Graph). AreOrdersOf xs os) are given in
      let found : slice_get (unit_graphs u) c.0 ≡ Some p.graph =
      slice_get-map (λ (p : Place). p.graph) (places u) c.0 ∙ ap (option_map (λ (p : Place). p.graph)) (slice_get-get_or (places u) c.0 p c.1 ∙ ap Some c.2) in
      let lt : c.0 < length (unit_graphs u) = omega (arith, c.1, graphs-many) in
      let at = number-at u ready.formed normal p c in
      subst (λ n. IsFiringOrder p.graph (slice_index_or os n [])) (sym at) (w.each c.0 p.graph lt found)
