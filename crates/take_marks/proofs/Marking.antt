-- The graph with the marks that are made.
use Rattle.std.proofs.Common.{◌≡◌, ◌∙◌, ℕ, ◌<◌, zero, suc, Bool, true, List, [], ◌∷◌, length, get_or, slice_index, slice_index_or, map, Contains, arith, refl, sym, ap, subst, ◌==◌}
use Rattle.std.specs.List.{list_any}
use Rattle.std.proofs.lemmas.List.{ext_get_or, get_or-map, length-map}
use Rattle.std.proofs.lemmas.List.Kept.{IsStrictlyIncreasing-filter}
use Rattle.if1_graph.specs.declared.graph.Edge.{Edge}
use Rattle.if1_graph.specs.declared.graph.Graph.{Graph}
use Rattle.if1_graph.specs.declared.graph.Graph.TheViews.{out-Graph, roll-Graph}
use Rattle.if1_graph.specs.declared.graph.Node.{Node}
use Rattle.if1_graph.specs.Units.{label_of}
use Rattle.if1_order.specs.Orders.{node_labels}
use Rattle.if1_marks.proofs.Lists.{in-filter}
use Rattle.if1_marks.proofs.Tests.{same-number, any-found}
use Rattle.std.proofs.lemmas.Bool.{and_parts}
use Rattle.marks_made.specs.Made.{Orders, is_order, is_taken, with_answer, after, answered, made, made_orders, listed, with_list, marked}
use Rattle.marks_made.specs.Laws.{IsMarkable}
use Rattle.marks_made.proofs.Lists.{passed}
use Rattle.marks_made.proofs.Steps.{Run, run, start}
use Rattle.take_marks.specs.declared.why.Why.{Why}
use Rattle.take_marks.specs.Whys.{answer_of}
use Rattle.take_marks.specs.Noted.{notes_of}
use Rattle.take_marks.specs.Made.{IsInShape, AreListed}
use Rattle.take_marks.specs.Applied.{taken_as, AreTaken, with_before, AreOnce, AreNodesListed}
use Rattle.take_marks.proofs.Once.{same-members}

first-same : {A : Type 0} {x y : A} {xs ys : List A} → x ∷ xs ≡ y ∷ ys → x ≡ y
first-same {x = x} e = ap (λ zs. get_or zs 0 x) e

rest-same : {A : Type 0} {x y : A} {xs ys : List A} → x ∷ xs ≡ y ∷ ys → xs ≡ ys
rest-same {A = A} e = ap tail e
  where
    tail : List A → List A
    tail [] = []
    tail (z ∷ zs) = zs

module _ (g : Graph) (may : Edge → Bool) where
  answered-long : (os : Orders) (es : List Edge) → length (map with_answer (answered g may os es)) ≡ length es
  answered-long os [] = refl
  answered-long os (e ∷ es) = ap suc (answered-long (after g may os e) es)

  answered-at : (os : Orders) (es : List Edge) (whys : List Why) → map answer_of whys ≡ notes_of (answered g may os es) → (k : ℕ) (d : Edge) (w : Why) → k < length es →
      get_or (map with_answer (answered g may os es)) k d ≡ taken_as (get_or es k d) (get_or whys k w)
  answered-at os [] whys e k d w h = absurd (omega (arith, h))
  answered-at os (x ∷ es) [] e k d w h = absurd (omega (arith, ap length e))
  answered-at os (x ∷ es) (v ∷ whys) e zero d w h = ap (λ a. let y : Edge = record x { takes = is_taken a } in y) (sym (first-same e))
  answered-at os (x ∷ es) (v ∷ whys) e (suc k) d w h = answered-at (after g may os x) es whys (rest-same e) k d w (omega (arith, h))

  notes-long : (os : Orders) (es : List Edge) → length (notes_of (answered g may os es)) ≡ length es
  notes-long os [] = refl
  notes-long os (e ∷ es) = ap suc (notes-long (after g may os e) es)

  edges-are : (whys : List Why) (now : List Edge) → map answer_of whys ≡ notes_of (made g may) → AreTaken (out-Graph g).edges whys (length (out-Graph g).edges) now → now ≡ map with_answer (made g may)
  edges-are whys now e t = by now t
    where
      long : length now ≡ length (map with_answer (made g may))
      long = t.fit ∙ sym (answered-long [] (out-Graph g).edges)

      some : (now : List Edge) (whys : List Why) → AreTaken (out-Graph g).edges whys (length (out-Graph g).edges) now → map answer_of whys ≡ notes_of (made g may) → length now ≡ length (map with_answer (made g may)) → (d : Edge) (w : Why) → now ≡ map with_answer (made g may)
      some now whys t e long d w =
          ext_get_or d now (map with_answer (made g may)) long
          (λ k h.
          let lt : k < length (out-Graph g).edges = omega (arith, h, t.fit) in
          t.done k d w lt lt ∙ sym (answered-at [] (out-Graph g).edges whys e k d w lt))

      by : (now : List Edge) → AreTaken (out-Graph g).edges whys (length (out-Graph g).edges) now → now ≡ map with_answer (made g may)
      by [] t = none (map with_answer (made g may)) (sym (t.fit ∙ sym (answered-long [] (out-Graph g).edges)))
        where
          none : (xs : List Edge) → length xs ≡ 0 → [] ≡ xs
          none [] h = refl
          none (x ∷ xs) h = absurd (omega (arith, h))
      by (d ∷ rest) t = go whys refl
        where
          go : (ws : List Why) → ws ≡ whys → d ∷ rest ≡ map with_answer (made g may)
          go [] is =
              let z : length (notes_of (made g may)) ≡ 0 = ap length (sym (ap (map answer_of) is ∙ e)) in
              absurd (omega (arith, z, t.fit, notes-long [] (out-Graph g).edges))
          go (w ∷ ws) is = some (d ∷ rest) whys t e (t.fit ∙ sym (answered-long [] (out-Graph g).edges)) d w

  module _ (ok : IsMarkable g may) (shape : IsInShape g) (befores : List (List ℕ)) (lists : AreListed g (made_orders g may) befores) where
    named : (o : ℕ × ℕ) → Contains (made_orders g may) o → Contains (node_labels g) o.0
    named o c =
        let r : Run g may ok [] (made_orders g may) (out-Graph g).edges = run g may ok [] (out-Graph g).edges (start g may ok) (λ e c. c) in
        (r.inv.named o c).0

    list-is : (k : ℕ) (d : Node) → k < length (out-Graph g).nodes → (ls : List ℕ) → AreOnce (slice_index_or befores k []) ls → ls ≡ listed g may (label_of (get_or (out-Graph g).nodes k d))
    list-is k d h ls once =
        let l : ℕ = label_of (get_or (out-Graph g).nodes k d) in
        let at : slice_index (node_labels g) k ≡ l = get_or-map label_of (out-Graph g).nodes k d 0 h in
        let lt : k < length (node_labels g) = omega (arith, h, length-map (out-Graph g).nodes label_of) in
        same-members ls (listed g may l) once.up (IsStrictlyIncreasing-filter (λ m. list_any (is_order m l) (made_orders g may)) (node_labels g) shape.rising)
        (λ m c.
        let any : list_any (is_order m l) (made_orders g may) ≡ true = subst (λ x. list_any (is_order m x) (made_orders g may) ≡ true) at ((lists.listed k m lt).0 ((once.same m).0 c)) in
        let r = any-found (is_order m l) (made_orders g may) any in
        let q = and_parts (r.0.0 == m) (r.0.1 == l) r.2 in
        in-filter (λ m. list_any (is_order m l) (made_orders g may)) (node_labels g) m (subst (Contains (node_labels g)) (same-number r.0.0 m q.0) (named r.0 r.1)) any)
        (λ m c.
        let p = passed (λ m. list_any (is_order m l) (made_orders g may)) (node_labels g) m c in
        (once.same m).1 ((lists.listed k m lt).1 (subst (λ x. list_any (is_order m x) (made_orders g may) ≡ true) (sym at) p.1)))

    nodes-are : (now : List Node) → AreNodesListed (out-Graph g).nodes befores 0 now → now ≡ map (with_list g may) (out-Graph g).nodes
    nodes-are [] t = none (map (with_list g may) (out-Graph g).nodes) (length-map (out-Graph g).nodes (with_list g may) ∙ sym t.fit)
      where
        none : (xs : List Node) → length xs ≡ 0 → [] ≡ xs
        none [] h = refl
        none (x ∷ xs) h = absurd (omega (arith, h))
    nodes-are (d ∷ rest) t =
        ext_get_or d (d ∷ rest) (map (with_list g may) (out-Graph g).nodes) (t.fit ∙ sym (length-map (out-Graph g).nodes (with_list g may)))
        (λ k h.
        let lt : k < length (out-Graph g).nodes = omega (arith, h, t.fit) in
        let r = t.done k (omega arith) lt in
        r.2 d ∙ (ap (with_before (get_or (out-Graph g).nodes k d)) (list-is k d lt r.0 r.1) ∙ sym (get_or-map (with_list g may) (out-Graph g).nodes k d d lt)))

    pub marked-is : (whys : List Why) (es : List Edge) (ns : List Node) → map answer_of whys ≡ notes_of (made g may) → AreTaken (out-Graph g).edges whys (length (out-Graph g).edges) es → AreNodesListed (out-Graph g).nodes befores 0 ns →
        roll-Graph (record { number = (out-Graph g).number; exported = (out-Graph g).exported; name = (out-Graph g).name; fun = (out-Graph g).fun; nodes = ns; edges = es }) ≡ marked g may
    marked-is whys es ns e t n =
        ap (λ (es : List Edge). roll-Graph (record { number = (out-Graph g).number; exported = (out-Graph g).exported; name = (out-Graph g).name; fun = (out-Graph g).fun; nodes = ns; edges = es })) (edges-are whys es e t)
        ∙ ap (λ (ns : List Node). roll-Graph (record { number = (out-Graph g).number; exported = (out-Graph g).exported; name = (out-Graph g).name; fun = (out-Graph g).fun; nodes = ns; edges = map with_answer (made g may) })) (nodes-are ns n)
