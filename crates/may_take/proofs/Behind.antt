-- Which edges consume, in graphs one after another and in those inside them.
use Rattle.std.proofs.Common.{◌≡◌, ◌∙◌, ℕ, suc, ◌+◌, ◌<◌, ◌≤◌, Bool, List, ◌∷◌, ◌++◌, [], map, take, length, get_or, All, sym, ap, arith, append-nil}
use Rattle.std.specs.List.{flat_map}
use Rattle.std.proofs.lemmas.List.{map-append, take_more}
use Rattle.std.proofs.lemmas.Grind.{flat_map-append}
use Rattle.if1_graph.specs.declared.graph.Graph.{Graph}
use Rattle.if1_graph.specs.declared.graph.Graph.TheViews.{out-Graph}
use Rattle.if1_graph.specs.declared.graph.Node.{Node}
use Rattle.if1_graph.specs.declared.graph.Unit1.{Unit1}
use Rattle.if1_graph.specs.Units.{greatest, levels, level_below, Home, each_from, places_of}
use Rattle.if1_marks.specs.Given.{is_consuming}
use Rattle.may_take.specs.Looked.{node_places, node_levels}
use Rattle.may_take.specs.Inner.{consuming_at}
use Rattle.may_take.proofs.Placing.{each-more, places-are, inside-is}

module _ (u : Unit1) where
  pub graph-seen : (g : Graph) (own : List Bool) (deeper all : List (List Bool)) → own ≡ map (is_consuming u g) (out-Graph g).edges → all ≡ own ∷ deeper →
      ((more : ℕ) → All (λ n. node_levels n ≤ suc more) (out-Graph g).nodes → deeper ≡ map (consuming_at u) (flat_map (node_places more g) (out-Graph g).nodes)) →
      (more : ℕ) (home : Home) → levels g ≤ more → all ≡ map (consuming_at u) (places_of more home g)
  graph-seen g own deeper all is e known more home h =
      e ∙ (ap (λ fs. fs ∷ deeper) is
      ∙ (ap (λ fs. map (is_consuming u g) (out-Graph g).edges ∷ fs) (inside-is (consuming_at u) g deeper known more h)
      ∙ ap (map (consuming_at u)) (sym (places-are more home g))))

  -- with one more graph
  pub graphs-more : (more : ℕ) (home : ℕ → Home) (gs : List Graph) (i : ℕ) (g : Graph) → i < length gs → g ≡ get_or gs i g → (old deeper new : List (List Bool)) →
      old ≡ map (consuming_at u) (each_from (λ k s. places_of more (home k) s) 0 (take i gs)) → deeper ≡ map (consuming_at u) (places_of more (home i) g) → new ≡ old ++ deeper →
      new ≡ map (consuming_at u) (each_from (λ k s. places_of more (home k) s) 0 (take (i + 1) gs))
  graphs-more more home gs i g lt is old deeper new was here added =
      let before = each_from (λ k s. places_of more (home k) s) 0 (take i gs) in
      added
      ∙ (ap (λ fs. fs ++ deeper) was
      ∙ (ap (λ fs. map (consuming_at u) before ++ fs) here
      ∙ (sym (map-append (consuming_at u) before (places_of more (home i) g))
      ∙ ap (map (consuming_at u))
      (ap (λ x. before ++ places_of more (home i) x) is
      ∙ sym (each-more (λ k s. places_of more (home k) s) i gs g lt)))))

  -- with one more node
  pub nodes-more : (more : ℕ) (g : Graph) (ns : List Node) (i : ℕ) (n : Node) → i < length ns → n ≡ get_or ns i n → (old deeper new : List (List Bool)) →
      old ≡ map (consuming_at u) (flat_map (node_places more g) (take i ns)) → deeper ≡ map (consuming_at u) (node_places more g n) → new ≡ old ++ deeper →
      new ≡ map (consuming_at u) (flat_map (node_places more g) (take (i + 1) ns))
  nodes-more more g ns i n lt is old deeper new was here added =
      let before = flat_map (node_places more g) (take i ns) in
      added
      ∙ (ap (λ fs. fs ++ deeper) was
      ∙ (ap (λ fs. map (consuming_at u) before ++ fs) here
      ∙ (sym (map-append (consuming_at u) before (node_places more g n))
      ∙ ap (map (consuming_at u))
      (ap (λ ps. before ++ ps) (sym (append-nil (node_places more g n)))
      ∙ (sym (flat_map-append (node_places more g) (take i ns) (n ∷ []))
      ∙ ap (flat_map (node_places more g)) (ap (λ x. take i ns ++ x ∷ []) is ∙ sym (take_more ns i n lt)))))))

greatest-below : (m : ℕ) (gs : List Graph) → All (λ g. levels g ≤ m) gs → greatest (map levels gs) ≤ m
greatest-below m [] h = omega arith
greatest-below m (g ∷ gs) h = omega (arith, h 0 g (omega arith), greatest-below m gs (λ k d lt. h (suc k) d (omega (arith, lt))))

pub levels-below : (m : ℕ) (gs : List Graph) → All (λ g. levels g ≤ m) gs → level_below (map levels gs) ≤ suc m
levels-below m [] h = omega arith
levels-below m (g ∷ gs) h = let r = greatest-below m (g ∷ gs) h in omega (arith, r)
