-- Labels that are wrong on an ordering list, by places.
use Rattle.std.proofs.Common.{◌≡◌, ◌∙◌, ℕ, ◌+◌, ◌<◌, ◌↔◌, zero, suc, true, List, [], ◌∷◌, ◌++◌, length, take, drop, get_or, slice_index, map, All, Contains, Option, Some, None, inl, inr, arith, refl, sym, ap, subst, ◌==◌, append_assoc}
use Rattle.std.specs.List.Sorted.{IsStrictlyIncreasing}
use Rattle.std.proofs.lemmas.Bool.{eq-eqb, or_right, and_from}
use Rattle.std.proofs.lemmas.Grind.{flat_map-append}
use Rattle.std.proofs.lemmas.List.{take_more, map-append, get_or-map, length-map}
use Rattle.std.proofs.lemmas.List.Elements.{All-nil, All-cons, All-append}
use Rattle.if1_graph.specs.declared.graph.Graph.{Graph}
use Rattle.if1_graph.specs.declared.graph.Graph.TheViews.{out-Graph}
use Rattle.if1_graph.specs.declared.graph.Node.{Node, out-Node}
use Rattle.if1_graph.specs.Units.{label_of, node_at}
use Rattle.if1_order.specs.Orders.{node_labels}
use Rattle.if1_order.specs.Walks.{Lists, AreInside, feeders_of}
use Rattle.if1_components.specs.Components.{IsMutual, AreComponents}
use Rattle.std.specs.List.{list_any}
use Rattle.marks_made.specs.Made.{is_edge}
use Rattle.if1_order.specs.Walks.{step}
use Rattle.if1_order.specs.Walks as walks
use Rattle.if1_order.specs.Feeders.{IsPlace}
use Rattle.if1_order.proofs.Orders.{contained_place, place_contained}
use Rattle.if1_marks.specs.Orders.{Precedes, fed, listed, between}
use Rattle.if1_marks.proofs.Lists.{in-mapped, found-in}
use Rattle.if1_marks.proofs.Tests.{same-number, any-there}
use Rattle.marks_made.proofs.Lists.{some-found, from-mapped}
use Rattle.if1_reach.specs.declared.ranks.Ranks.{Ranks}
use Rattle.if1_reach.specs.Nets.{links_in, is_listed}
use Rattle.if1_reach.specs.Ranks.{IsRanked}
use Rattle.if1_reach.proofs.Labelled.{fed-link, listed-link, from-links}
use Rattle.if1_reach.proofs.Links.{to-labels, lead-on}
use Rattle.if1_reach.proofs.Ranking.{leads-up}
use Rattle.mark_check.specs.Entries.{IsNetOf, IsLinkedFrom, IsWrong, IsFirst, FirstOnList, entries_of, entries}

module _ (g : Graph) (labels : List ℕ) (lists : Lists) (w : IsNetOf g labels lists) where
  up : IsStrictlyIncreasing (node_labels g)
  up = w.linked.rising

  -- what a link leads to is a node
  target : (l m : ℕ) → Precedes g l m → Contains (node_labels g) m
  target l m (fed f) = (w.linked.linked l m f).1
  target l m (listed n e c) =
      let r = found-in (λ n. label_of n == m) (out-Graph g).nodes n e in
      subst (Contains (node_labels g)) (same-number (label_of n) m r.1) (in-mapped label_of (out-Graph g).nodes n r.0)
  target l m (between {l = a} {m = b} {n = c} x y) = target b c y

  one-link : (l m : ℕ) → links_in g l m ≡ true → (s t : ℕ) → IsPlace (node_labels g) s l → IsPlace (node_labels g) t m → walks.Leads lists s t
  one-link l m e s t ps pt =
      step (w.net.complete s t ps.0 pt.0 (subst (λ a. links_in g a (slice_index (node_labels g) t) ≡ true) (sym ps.1) (subst (λ b. links_in g l b ≡ true) (sym pt.1) e)))

  -- so a way that begins at a node goes by nodes
  pub by-places : {l m : ℕ} → Precedes g l m → (s t : ℕ) → IsPlace (node_labels g) s l → IsPlace (node_labels g) t m → walks.Leads lists s t
  by-places (fed {l = l} {m = m} f) s t ps pt = one-link l m (fed-link g up l m f) s t ps pt
  by-places (listed {l = l} {m = m} n e c) s t ps pt = one-link l m (listed-link g up l m n e c) s t ps pt
  by-places (between {l = l} {m = m} {n = n} a b) s t ps pt =
      let r = contained_place (node_labels g) m (target l m a) in
      lead-on lists (by-places a s r.0 ps r.1) (by-places b r.0 t r.1 pt)

  at-labels : (k l : ℕ) → IsPlace labels k l → IsPlace (node_labels g) k l
  at-labels k l p = subst (λ ls. IsPlace ls k l) w.is p

  at-nodes : (at : ℕ) → at < length labels → IsPlace (node_labels g) at (slice_index labels at)
  at-nodes at h = at-labels at (slice_index labels at) (h, refl)

  pub by-labels : (at place label : ℕ) → at < length labels → IsPlace labels place label → walks.Leads lists at place → Precedes g (slice_index labels at) label
  by-labels at place label h p v =
      subst (λ a. Precedes g a label) (at-nodes at h).1
      (subst (Precedes g (slice_index (node_labels g) at)) (at-labels place label p).1 (from-links g up (to-labels (node_labels g) lists (links_in g) w.net v)))

  -- the label is that of a node
  pub wrong-there : (at place label : ℕ) → at < length labels → IsPlace labels place label → (walks.Leads lists at place → IsWrong g (slice_index labels at, label)) × (IsWrong g (slice_index labels at, label) → walks.Leads lists at place)
  wrong-there at place label h p = (
    (λ v. inr (by-labels at place label h p v)),
    from,
  )
    where
      from : IsWrong g (slice_index labels at, label) → walks.Leads lists at place
      from (inl none) =
          let c = place_contained (node_labels g) place label (at-labels place label p) in
          let r = from-mapped label_of (out-Graph g).nodes label c in
          let q = some-found (λ n. label_of n == label) (out-Graph g).nodes r.0 r.1 (eq-eqb (label_of r.0) label r.2) in
          let never = sym none ∙ q.1 in absurd cc
      from (inr v) = by-places v at place (at-nodes at h) (at-labels place label p)

  pub wrong-absent : (at label : ℕ) → ¬ Contains labels label → IsWrong g (slice_index labels at, label)
  wrong-absent at label none = inl (go (node_at (out-Graph g).nodes label) refl)
    where
      go : (o : Option Node) → node_at (out-Graph g).nodes label ≡ o → node_at (out-Graph g).nodes label ≡ None
      go None e = e
      go (Some n) e =
          let r = found-in (λ n. label_of n == label) (out-Graph g).nodes n e in
          absurd (none (subst (λ ls. Contains ls label) (sym w.is) (subst (Contains (node_labels g)) (same-number (label_of n) label r.1) (in-mapped label_of (out-Graph g).nodes n r.0))))

-- ---- a link that lies on a cycle

pub none-circular : (lists : Lists) (r : Ranks) → IsRanked lists r → (s : ℕ) → ¬ walks.Leads lists s s
none-circular lists r w s v = let x = leads-up lists r w v in omega (arith, x)

pub never-back : (lists : Lists) (from to : ℕ) → ((s : ℕ) → ¬ walks.Leads lists s s) → Contains (feeders_of lists from) to → ¬ walks.Leads lists from to
never-back lists from to none c v = none from (lead-on lists v (step c))

pub parts-back : (lists : Lists) (numbers : List ℕ) (from to : ℕ) → AreComponents lists numbers → from < length lists → to < length lists → Contains (feeders_of lists from) to → (slice_index numbers from ≡ slice_index numbers to) ↔ walks.Leads lists from to
parts-back lists numbers from to are h k c = ((λ e. forth ((are.same from to h k).0 e)), (λ v. (are.same from to h k).1 (inr (v, step c))))
  where
    forth : IsMutual lists from to → walks.Leads lists from to
    forth (inl e) = subst (λ z. walks.Leads lists z to) (sym e) (subst (walks.Leads lists to) e (step c))
    forth (inr p) = p.0

-- ---- the first of a list

pub first-here : {A : Type 0} (P : A → Type 0) (xs : List A) (n : ℕ) (x d : A) → n < length xs → x ≡ get_or xs n d → All (λ y. ¬ P y) (take n xs) → P x → IsFirst P xs x
first-here P xs n x d h is none p = record { before = take n xs; after = drop (suc n) xs; is = cut xs n x d h is; holds = p; none = none }
  where
    cut : {A : Type 0} (xs : List A) (n : ℕ) (x d : A) → n < length xs → x ≡ get_or xs n d → xs ≡ take n xs ++ x ∷ drop (suc n) xs
    cut [] n x d h is = absurd (omega (arith, h))
    cut (y ∷ xs) zero x d h is = ap (λ z. z ∷ xs) (sym is)
    cut (y ∷ xs) (suc n) x d h is =
        ap (λ zs. y ∷ zs) (cut xs n x d (omega (arith, h)) is)

-- ---- the entries of all nodes

module _ (g : Graph) where
  abbrev Right : ℕ × ℕ → Type 0
  Right at = ¬ IsWrong g at

  entries-cut : (ns : List Node) (n : ℕ) (x d : Node) → n < length ns → x ≡ get_or ns n d → entries ns ≡ entries (take n ns) ++ (entries_of x ++ entries (drop (suc n) ns))
  entries-cut [] n x d h is = absurd (omega (arith, h))
  entries-cut (y ∷ ns) zero x d h is = ap (λ z. entries_of z ++ entries ns) (sym is)
  entries-cut (y ∷ ns) (suc n) x d h is =
      ap (λ zs. entries_of y ++ zs) (entries-cut ns n x d (omega (arith, h)) is) ∙ sym (append_assoc (entries_of y) (entries (take n ns)) (entries_of x ++ entries (drop (suc n) ns)))

  all-mapped : (m : ℕ) (ls : List ℕ) → All (λ l. ¬ IsWrong g (m, l)) ls → All Right (map (λ l. (m, l)) ls)
  all-mapped m [] h = All-nil Right
  all-mapped m (l ∷ ls) h = All-cons Right (m, l) (map (λ l. (m, l)) ls) (h 0 l (omega arith)) (all-mapped m ls (λ k d lt. h (suc k) d (omega (arith, lt))))

  pub entry-first : (ns : List Node) (n : ℕ) (x d : Node) (l : ℕ) → n < length ns → x ≡ get_or ns n d → All Right (entries (take n ns)) → IsFirst (λ l. IsWrong g (label_of x, l)) (out-Node x).before l → IsFirst (IsWrong g) (entries ns) (label_of x, l)
  entry-first ns n x d l h is none f =
      let pair : ℕ → ℕ × ℕ = λ l. (label_of x, l) in
      record {
        before = entries (take n ns) ++ map (λ l. (label_of x, l)) f.before;
        after = map (λ l. (label_of x, l)) f.after ++ entries (drop (suc n) ns);
        is = entries-cut ns n x d h is
            ∙ (ap (λ ls. entries (take n ns) ++ (map (λ l. (label_of x, l)) ls ++ entries (drop (suc n) ns))) f.is
            ∙ (ap (λ zs. entries (take n ns) ++ (zs ++ entries (drop (suc n) ns))) (map-append (λ l. (label_of x, l)) f.before (l ∷ f.after))
            ∙ (ap (λ zs. entries (take n ns) ++ zs) (append_assoc (map (λ l. (label_of x, l)) f.before) ((label_of x, l) ∷ map (λ l. (label_of x, l)) f.after) (entries (drop (suc n) ns)))
            ∙ sym (append_assoc (entries (take n ns)) (map (λ l. (label_of x, l)) f.before) (((label_of x, l) ∷ map (λ l. (label_of x, l)) f.after) ++ entries (drop (suc n) ns))))));
        holds = f.holds;
        none = All-append Right (entries (take n ns)) (map (λ l. (label_of x, l)) f.before) none (all-mapped (label_of x) f.before f.none);
      }

  pub entry-more : (ns : List Node) (n : ℕ) (x d : Node) → n < length ns → x ≡ get_or ns n d → All Right (entries (take n ns)) → All (λ l. ¬ IsWrong g (label_of x, l)) (out-Node x).before → All Right (entries (take (n + 1) ns))
  entry-more ns n x d h is none more =
      subst (All Right)
      (sym (ap entries (take_more ns n d h ∙ ap (λ z. take n ns ++ z ∷ []) (sym is)) ∙ (flat_map-append entries_of (take n ns) (x ∷ []) ∙ ap (λ zs. entries (take n ns) ++ zs) (last (entries_of x)))))
      (All-append Right (entries (take n ns)) (entries_of x) none (all-mapped (label_of x) (out-Node x).before more))
    where
      last : (zs : List (ℕ × ℕ)) → (zs ++ []) ≡ zs
      last [] = refl
      last (z ∷ zs) = ap (λ ys. z ∷ ys) (last zs)

  -- without lists there are no entries
  pub none-listed : (ns : List Node) → All (λ n. (out-Node n).before ≡ []) ns → All Right (entries ns)
  none-listed [] h = All-nil Right
  none-listed (n ∷ ns) h =
      All-append Right (entries_of n) (entries ns)
      (all-mapped (label_of n) (out-Node n).before (subst (All (λ l. ¬ IsWrong g (label_of n, l))) (sym (h 0 n (omega arith))) (All-nil (λ l. ¬ IsWrong g (label_of n, l)))))
      (none-listed ns (λ k d lt. h (suc k) d (omega (arith, lt))))

  -- as the loop over the nodes has it
  module _ (labels : List ℕ) (is-labels : labels ≡ node_labels g) (items : List Node) (is-items : items ≡ (out-Graph g).nodes) (n : ℕ) (x : Node) (h : n < length items) (is : x ≡ get_or items n x) (list : List ℕ) (is-list : list ≡ (out-Node x).before) where
    lt : n < length (out-Graph g).nodes
    lt = subst (λ ns. n < length ns) is-items h

    x-is : x ≡ get_or (out-Graph g).nodes n x
    x-is = is ∙ ap (λ ns. get_or ns n x) is-items

    label-is : slice_index labels n ≡ label_of x
    label-is = ap (λ ls. slice_index ls n) is-labels ∙ (get_or-map label_of (out-Graph g).nodes n x 0 lt ∙ ap label_of (sym x-is))

    pub turn-wrong : All Right (entries (take n (out-Graph g).nodes)) → (found : Option ℕ) (l : ℕ) → found ≡ Some l → FirstOnList g (slice_index labels n) list found → IsFirst (IsWrong g) (entries (out-Graph g).nodes) (label_of x, l)
    turn-wrong none found l e f =
        entry-first (out-Graph g).nodes n x x l lt x-is none
        (subst (λ m. IsFirst (λ l. IsWrong g (m, l)) (out-Node x).before l) label-is
        (subst (λ ls. IsFirst (λ l. IsWrong g (slice_index labels n, l)) ls l) is-list (subst (FirstOnList g (slice_index labels n) list) e f)))

    pub turn-right : All Right (entries (take n (out-Graph g).nodes)) → (found : Option ℕ) → found ≡ None → FirstOnList g (slice_index labels n) list found → All Right (entries (take (n + 1) (out-Graph g).nodes))
    turn-right none found e f =
        entry-more (out-Graph g).nodes n x x lt x-is none
        (subst (λ m. All (λ l. ¬ IsWrong g (m, l)) (out-Node x).before) label-is
        (subst (λ ls. All (λ l. ¬ IsWrong g (slice_index labels n, l)) ls) is-list (subst (FirstOnList g (slice_index labels n) list) e f)))

    -- from the label of an entry a link leads to the node
    pub linked-here : (lists : Lists) → IsNetOf g labels lists → (l : ℕ) → Contains list l → IsLinkedFrom labels lists n l
    linked-here lists w l c place p =
        let link : links_in g l (label_of x) ≡ true =
        or_right (list_any (is_edge l (label_of x)) (out-Graph g).edges) (list_any (is_listed l (label_of x)) (out-Graph g).nodes)
        (any-there (is_listed l (label_of x)) (out-Graph g).nodes x (n, lt, sym x-is)
        (and_from (label_of x == label_of x) (list_any (λ k. k == l) (out-Node x).before) (eq-eqb (label_of x) (label_of x) refl)
        (any-there (λ k. k == l) (out-Node x).before l (subst (λ ls. Contains ls l) is-list c) (eq-eqb l l refl)))) in
        let to : length (node_labels g) ≡ length (out-Graph g).nodes = length-map (out-Graph g).nodes label_of in
        w.net.complete place n (subst (λ ls. place < length ls) w.is p.0) (subst (λ k. n < k) (sym to) lt)
        (subst (λ k. links_in g k (slice_index (node_labels g) n) ≡ true) (sym p.1 ∙ ap (λ ls. slice_index ls place) w.is)
        (subst (λ k. links_in g l k ≡ true) (sym label-is ∙ ap (λ ls. slice_index ls n) w.is) link))
