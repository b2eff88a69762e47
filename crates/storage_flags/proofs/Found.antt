-- What is known of a port, by the edge that is found there.
use Rattle.std.proofs.Common.{◌≡◌, ◌==◌, ◌&&◌, ℕ, zero, suc, Bool, true, false, List, [], ◌∷◌, map, slice_get, slice_index_or, option_map, Some, refl, sym, ap, subst, ◌∙◌}
use Rattle.std.specs.Borrow.{Bor}
use Rattle.std.proofs.lemmas.Option.{slice_get-map, slice_get-get_or, get_or_from_slice_get}
use Rattle.if1_graph.specs.declared.graph.Edge.{Edge}
use Rattle.if1_graph.specs.declared.graph.Graph.{Graph}
use Rattle.if1_graph.specs.declared.graph.Graph.TheViews.{out-Graph}
use Rattle.if1_graph.specs.declared.graph.TypeEntry.{TypeEntry}
use Rattle.if1_graph.specs.declared.graph.Unit1.{Unit1}
use Rattle.if1_graph.specs.Formed.{IsFormed}
use Rattle.if1_graph.specs.Normal.{IsNormal}
use Rattle.if1_graph.specs.Units.{Place, edge_into, places}
use Rattle.if1_marks.specs.Aggregates.{is_aggregate}
use Rattle.if1_marks.specs.Given.{consumes, is_consuming}
use Rattle.if1_marks.proofs.Tests.{same-number}
use Rattle.graph_meaning.proofs.Lists.{found-in}
use Rattle.graph_meaning.specs.StorageUnits.{carries_aggregate, takes, test_in, storage_of}
use Rattle.unit_orders.specs.Graphs.{lent, unit_graphs}
use Rattle.unit_orders.proofs.Found.{place-found}
use Rattle.unit_orders.proofs.Numbered.{number-at}
use Rattle.storage_flags.specs.Flags.{aggregates_of, consumers_of, AreRows, AreFlags, DoConsumersTell, DoConsumerRowsTell, DoMarksTell, DoRowsStand}

pub marks-tell : DoMarksTell
marks-tell u formed p there l port e found =
    ap (λ o. test_in o (λ g. takes (edge_into g l port))) (place-found u formed p there) ∙ ap takes found

pub consumers-tell : DoConsumersTell
consumers-tell u formed p there l port e found =
    let at = place-found u formed p there in
    let f = (found-in (λ x. (x.node == l) && (x.port == port)) (out-Graph p.graph).edges e found).1 in
    let both = no-other (e.node == l) (e.port == port) f in
    ap (λ o. test_in o (λ g. carries_aggregate u (edge_into g l port)) && test_in o (λ g. consumes u g l port)) at
    ∙ (ap (λ o. carries_aggregate u o && consumes u p.graph l port) found
    ∙ (ap (λ k. is_aggregate u.types e.ty && consumes u p.graph k port) (sym (same-number e.node l both.0))
    ∙ ap (λ k. is_aggregate u.types e.ty && consumes u p.graph e.node k) (sym (same-number e.port port both.1))))
  where
    no-other : (a b : Bool) → a && b ≡ true → (a ≡ true) × (b ≡ true)
    no-other true true h = (refl, refl)
    no-other true false h = absurd cc
    no-other false b h = absurd cc

-- ---- rows

pub consumer-rows : DoConsumerRowsTell
consumer-rows u formed rows are p there l port i e found at =
    ap (λ (r : List Bool). slice_get r i) (are p there)
    ∙ (slice_get-map (is_consuming u p.graph) (out-Graph p.graph).edges i
    ∙ (ap (option_map (is_consuming u p.graph)) at
    ∙ ap Some (sym (consumers-tell u formed p there l port e found))))

pub rows-stand : DoRowsStand
rows-stand u formed normal flags p there =
    ap (λ n. slice_index_or ([] ∷ map (λ (q : Place). flags q.graph) (places u)) n []) (number-at u formed normal p there)
    ∙ get_or_from_slice_get (map (λ (q : Place). flags q.graph) (places u)) there.0 (flags p.graph) []
    (slice_get-map (λ (q : Place). flags q.graph) (places u) there.0
    ∙ ap (option_map (λ (q : Place). flags q.graph)) (slice_get-get_or (places u) there.0 p there.1 ∙ ap Some there.2))

module _ (u : Unit1) (formed : IsFormed u) where
  pub aggregate-flags : (rows : List (List Bool)) → AreRows u (aggregates_of u.types) rows → AreFlags u (storage_of u).is_aggregate rows
  aggregate-flags rows are p there l port i e found at =
      ap (λ (r : List Bool). slice_get r i) (are p there)
      ∙ (slice_get-map (λ (x : Edge). is_aggregate u.types x.ty) (out-Graph p.graph).edges i
      ∙ (ap (option_map (λ (x : Edge). is_aggregate u.types x.ty)) at
      ∙ ap Some (sym (ap (λ o. test_in o (λ g. carries_aggregate u (edge_into g l port))) (place-found u formed p there) ∙ ap (carries_aggregate u) found))))

  module _ (normal : IsNormal u) (flags : Graph → List Bool) (gs : List (Bor Graph)) (are : lent gs ≡ unit_graphs u) where
    pub rows-are : AreRows u flags ([] ∷ map (λ (g : Bor Graph). flags g.now) gs)
    rows-are p there =
        ap (λ n. slice_index_or ([] ∷ map (λ (g : Bor Graph). flags g.now) gs) n []) (number-at u formed normal p there) ∙ row
      where
        k : ℕ
        k = there.0

        found : slice_get (lent gs) k ≡ Some p.graph
        found =
            ap (λ (xs : List Graph). slice_get xs k) are
            ∙ (slice_get-map (λ (q : Place). q.graph) (places u) k ∙ ap (option_map (λ (q : Place). q.graph)) (slice_get-get_or (places u) k p there.1 ∙ ap Some there.2))

        mapped : (xs : List (Bor Graph)) (j : ℕ) → slice_get (lent xs) j ≡ Some p.graph → slice_get (map (λ (g : Bor Graph). flags g.now) xs) j ≡ Some (flags p.graph)
        mapped [] j h = absurd cc
        mapped (x ∷ xs) zero h = ap (option_map flags) h
        mapped (x ∷ xs) (suc j) h = mapped xs j h

        row : slice_index_or (map (λ (g : Bor Graph). flags g.now) gs) k [] ≡ flags p.graph
        row = get_or_from_slice_get (map (λ (g : Bor Graph). flags g.now) gs) k (flags p.graph) [] (mapped gs k found)

  pub rows-told : (normal : IsNormal u) (ts : List TypeEntry) (gs : List (Bor Graph)) (rows : List (List Bool)) → ts ≡ u.types → lent gs ≡ unit_graphs u
      → rows ≡ [] ∷ map (λ (g : Bor Graph). aggregates_of ts g.now) gs → AreRows u (aggregates_of u.types) rows
  rows-told normal ts gs rows same are is =
      subst (AreRows u (aggregates_of u.types)) (sym (is ∙ ap (λ (xs : List TypeEntry). [] ∷ map (λ (g : Bor Graph). aggregates_of xs g.now) gs) same)) (rows-are normal (aggregates_of u.types) gs are)

-- rows of edges that consume, behind a first one
pub consumers-told : (u v : Unit1) → v ≡ u → IsFormed u → IsNormal u → (known rows : List (List Bool)) → known ≡ map (λ (p : Place). consumers_of v p.graph) (places v) → rows ≡ [] ∷ known → AreRows u (consumers_of u) rows
consumers-told u v same formed normal known rows are is =
    subst (AreRows u (consumers_of u)) (sym (is ∙ (ap (λ ks. [] ∷ ks) are ∙ ap (λ (w : Unit1). [] ∷ map (λ (p : Place). consumers_of w p.graph) (places w)) same))) (rows-stand u formed normal (consumers_of u))
