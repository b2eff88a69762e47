-- Nothing is known of ports past the last one that is filled.
use Rattle.std.proofs.Common.{◌≡◌, ℕ, zero, suc, ◌+◌, ◌<◌, ◌≤◌, ◌&&◌, not, cond, Bool, true, false, List, [], ◌∷◌, map, filter, find, length, slice_get, Some, None, Contains, ◌==◌, refl, sym, ap, ◌∙◌, arith}
use Rattle.if1_graph.specs.declared.graph.Edge.{Edge}
use Rattle.if1_graph.specs.declared.graph.Graph.TheViews.{out-Graph}
use Rattle.if1_graph.specs.declared.graph.Unit1.{Unit1}
use Rattle.if1_graph.specs.Formed.{IsFormed}
use Rattle.if1_graph.specs.Units.{Place, edge_into, greatest, number_of, places, width}
use Rattle.graph_meaning.specs.Storage.{Storage, is_left}
use Rattle.graph_meaning.specs.StorageUnits.{carries_aggregate, storage_of, takes, test_in}
use Rattle.run_made.proofs.Lying.{eqb-other}
use Rattle.told_rows.proofs.Found.{place-found}
use Rattle.port_feeds.specs.declared.filled.Filled.{Filled}
use Rattle.port_feeds.specs.Filled.{AreTold}
use Rattle.plan_nodes.specs.Ports.{has_left, has_whole}

past : (es : List Edge) (l p : ℕ) → greatest (map (λ e. e.port) (filter (λ e. e.node == l) es)) < p → find (λ e. (e.node == l) && (e.port == p)) es ≡ None
past [] l p lt = refl
past (e ∷ es) l p lt = go (e.node == l) refl lt (λ less. past es l p less)
  where
    go : (b : Bool) → (e.node == l) ≡ b → greatest (map (λ e. e.port) (cond b (e ∷ filter (λ e. e.node == l) es) (filter (λ e. e.node == l) es))) < p
        → (greatest (map (λ e. e.port) (filter (λ e. e.node == l) es)) < p → find (λ e. (e.node == l) && (e.port == p)) es ≡ None)
        → cond (b && (e.port == p)) (Some e) (find (λ e. (e.node == l) && (e.port == p)) es) ≡ None
    go true is lt rest = ap (λ b. cond b (Some e) (find (λ e. (e.node == l) && (e.port == p)) es)) (eqb-other e.port p (λ s. omega (arith, s, lt))) ∙ rest (omega (arith, lt))
    go false is lt rest = rest lt

module _ (u : Unit1) (formed : IsFormed u) (p : Place) (place : Contains (places u) p) (l port : ℕ) (over : width p.graph l < port) where
  none-there : edge_into p.graph l port ≡ None
  none-there = past (out-Graph p.graph).edges l port over

  pub whole-past : (storage_of u).is_aggregate (number_of p) l port ≡ false
  whole-past = ap (λ o. test_in o (λ g. carries_aggregate u (edge_into g l port))) (place-found u formed p place) ∙ ap (carries_aggregate u) none-there

  pub taken-past : (storage_of u).is_taken (number_of p) l port ≡ false
  taken-past = ap (λ o. test_in o (λ g. takes (edge_into g l port))) (place-found u formed p place) ∙ ap takes none-there

-- ---- what is told of ports, also past these

module _ (s : Storage) (g l : ℕ) where
  pub left-from : (i : ℕ) (fs : List Filled) → AreTold s g l i fs → ((port : ℕ) → i + length fs ≤ port → s.is_aggregate g l port ≡ false) → (j : ℕ) → has_left (slice_get fs j) ≡ is_left s g l (i + j)
  left-from i [] told none j = sym (ap (λ b. b && not (s.is_taken g l (i + j))) (none (i + j) (omega arith)))
  left-from i (f ∷ fs) told none zero =
      let e : i + 0 ≡ i = omega arith in
      ap (λ b. b && not f.takes) told.0.aggregate ∙ (ap (λ b. s.is_aggregate g l i && not b) told.0.takes ∙ sym (ap (is_left s g l) e))
  left-from i (f ∷ fs) told none (suc j) =
      let e : suc i + j ≡ i + suc j = omega arith in
      left-from (suc i) fs told.1 (λ port le. none port (omega (arith, le))) j ∙ ap (is_left s g l) e

  pub whole-from : (i : ℕ) (fs : List Filled) → AreTold s g l i fs → ((port : ℕ) → i + length fs ≤ port → s.is_aggregate g l port ≡ false) → (j : ℕ) → has_whole (slice_get fs j) ≡ s.is_aggregate g l (i + j)
  whole-from i [] told none j = sym (none (i + j) (omega arith))
  whole-from i (f ∷ fs) told none zero =
      let e : i + 0 ≡ i = omega arith in
      told.0.aggregate ∙ sym (ap (s.is_aggregate g l) e)
  whole-from i (f ∷ fs) told none (suc j) =
      let e : suc i + j ≡ i + suc j = omega arith in
      whole-from (suc i) fs told.1 (λ port le. none port (omega (arith, le))) j ∙ ap (s.is_aggregate g l) e
