-- One turn of a loop that numbers the elements of a list in their places.
use Rattle.std.proofs.Common.{◌≡◌, ◌≢◌, ℕ, ◌+◌, ◌<◌, ◌≤◌, List, [], ◌∷◌, ◌++◌, map, sum, length, get_or, set, take, drop, arith, ap, sym, subst, ◌∙◌}
use Rattle.std.proofs.lemmas.List.{length-set, get_or-set_other, take_more, take_more_set, take_all}
use Rattle.std.proofs.Math.Seq.{take-append_seam}
use Rattle.if1_graph.specs.declared.graph.Graph.{Graph}
use Rattle.if1_graph.specs.declared.graph.Graph.TheViews.{out-Graph}
use Rattle.if1_graph.specs.declared.graph.Node.{Node, out-Node}
use Rattle.if1_graph.specs.Units.{size, sizes}
use Rattle.if1_read.specs.Like.{IsLike, AreNodesLike, AreLike}
use Rattle.if1_read.specs.Counted.{node_size, IsCounted, AreNodesCounted, AreCounted}
use Rattle.if1_read.proofs.Numbering.{sum_push, sum_here, size_of_node, node_sizes_like, sizes_like, like_push, nodes_like_push, counted_push, nodes_counted_push, with_subs, node_like, subs_are}

-- elements from a place on are as they were
abbrev pub IsUnvisited : {A : Type 0} → List A → List A → ℕ → Type 0
IsUnvisited {A = A} xs ys i = (length xs ≡ length ys) × ((k : ℕ) (d : A) → i ≤ k → get_or xs k d ≡ get_or ys k d)

pub unvisited_set : {A : Type 0} (xs ys : List A) (i : ℕ) (y : A) → IsUnvisited xs ys i → IsUnvisited (set xs i y) ys (i + 1)
unvisited_set xs ys i y h = (
  length-set xs i y ∙ h.0,
  λ k d le. let ne : k ≢ i = omega arith in get_or-set_other xs i k y d ne ∙ h.1 k d (omega arith),
)

-- a list that is written over another one of its length
pub written_over : {A : Type 0} (xs ys : List A) (n : ℕ) → n ≡ length xs → take n (xs ++ drop (length xs) ys) ≡ xs
written_over xs ys n e = ap (λ k. take k (xs ++ drop (length xs) ys)) e ∙ take-append_seam xs (drop (length xs) ys)

-- graphs from a number on, of which those before a place are numbered
pub record Numbered (old new : List Graph) (i number next : ℕ) : Type 0 where
  pub unvisited : IsUnvisited new old i
  pub like : AreLike (take i old) (take i new)
  pub counted : AreCounted number (take i new)
  pub next_is : next ≡ number + sizes (take i new)

pub numbered_more : (old new : List Graph) (i number next after : ℕ) (d h : Graph) → Numbered old new i number next → i < length old → IsLike (get_or new i d) h →
    (out-Graph h).number ≡ next → IsCounted h → after ≡ next + size h → Numbered old (set new i h) (i + 1) number after
numbered_more old new i number next after d h s lt like at counted e =
    let in_new : i < length new = omega (arith, s.unvisited.0, lt) in
    let past : take (i + 1) old ≡ take i old ++ get_or old i d ∷ [] = take_more old i d lt in
    let now : take (i + 1) (set new i h) ≡ take i new ++ h ∷ [] = take_more_set new i h in_new in
    let same : get_or new i d ≡ get_or old i d = s.unvisited.1 i d (omega arith) in
    let all : AreLike (take i old ++ get_or old i d ∷ []) (take i new ++ h ∷ []) =
    like_push (take i old) (take i new) (get_or old i d) h s.like (subst (λ (g : Graph). IsLike g h) same like) in
    record {
      unvisited = unvisited_set new old i h s.unvisited;
      like = subst (λ (gs : List Graph). AreLike gs (take (i + 1) (set new i h))) (sym past) (subst (λ (gs : List Graph). AreLike (take i old ++ get_or old i d ∷ []) gs) (sym now) all);
      counted = subst (λ (gs : List Graph). AreCounted number gs) (sym now) (counted_push number (take i new) h s.counted (at ∙ s.next_is) counted);
      next_is = omega (arith, e, s.next_is, ap sizes now, sum_push size (take i new) h);
    }

-- there is room for the graphs inside the next one
pub room_here : (old new : List Graph) (i number next : ℕ) (d : Graph) → Numbered old new i number next → i < length old →
    next + size (get_or new i d) ≤ number + sizes old
room_here old new i number next d s lt =
    omega (arith, s.next_is, sizes_like (take i old) (take i new) s.like, ap size (s.unvisited.1 i d (omega arith)), sum_here size old i d lt)

pub record NodesNumbered (old new : List Node) (i number next : ℕ) : Type 0 where
  pub unvisited : IsUnvisited new old i
  pub like : AreNodesLike (take i old) (take i new)
  pub counted : AreNodesCounted number (take i new)
  pub next_is : next ≡ number + sum (map node_size (take i new))

pub nodes_numbered_more : (old new : List Node) (i number next after : ℕ) (d : Node) (gs : List Graph) → NodesNumbered old new i number next → i < length old →
    AreLike (out-Node (get_or new i d)).subs gs → AreCounted next gs → after ≡ next + sizes gs →
    NodesNumbered old (set new i (with_subs (get_or new i d) gs)) (i + 1) number after
nodes_numbered_more old new i number next after d gs s lt like counted e =
    let n = get_or new i d in
    let m = with_subs n gs in
    let in_new : i < length new = omega (arith, s.unvisited.0, lt) in
    let past : take (i + 1) old ≡ take i old ++ get_or old i d ∷ [] = take_more old i d lt in
    let now : take (i + 1) (set new i m) ≡ take i new ++ m ∷ [] = take_more_set new i m in_new in
    let same : n ≡ get_or old i d = s.unvisited.1 i d (omega arith) in
    let subs : (out-Node m).subs ≡ gs = subs_are n gs in
    let inside : AreLike (out-Node n).subs (out-Node m).subs = subst (λ (hs : List Graph). AreLike (out-Node n).subs hs) (sym subs) like in
    let all : AreNodesLike (take i old ++ n ∷ []) (take i new ++ m ∷ []) = nodes_like_push (take i old) (take i new) n m s.like (node_like n gs) inside in
    let here : AreCounted (number + sum (map node_size (take i new))) (out-Node m).subs =
    subst (λ (hs : List Graph). AreCounted (number + sum (map node_size (take i new))) hs) (sym subs) (subst (λ (k : ℕ). AreCounted k gs) s.next_is counted) in
    record {
      unvisited = unvisited_set new old i m s.unvisited;
      like = subst (λ (ns : List Node). AreNodesLike ns (take (i + 1) (set new i m))) (sym (past ∙ ap (λ (x : Node). take i old ++ x ∷ []) (sym same))) (subst (λ (ns : List Node). AreNodesLike (take i old ++ n ∷ []) ns) (sym now) all);
      counted = subst (λ (ns : List Node). AreNodesCounted number ns) (sym now) (nodes_counted_push number (take i new) m s.counted here);
      next_is = omega (arith, e, s.next_is, ap (λ (ns : List Node). sum (map node_size ns)) now, sum_push node_size (take i new) m, size_of_node m, ap sizes subs);
    }

pub room_in_node : (old new : List Node) (i number next : ℕ) (d : Node) → NodesNumbered old new i number next → i < length old →
    next + sizes (out-Node (get_or new i d)).subs ≤ number + sum (map node_size old)
room_in_node old new i number next d s lt =
    omega (
      arith,
      s.next_is,
      node_sizes_like (take i old) (take i new) s.like,
      ap node_size (s.unvisited.1 i d (omega arith)),
      size_of_node (get_or new i d),
      sum_here node_size old i d lt,
    )

-- ---- the whole list

pub record AllNumbered (old new : List Graph) (number next : ℕ) : Type 0 where
  pub like : AreLike old new
  pub counted : AreCounted number new
  pub next_is : next ≡ number + sizes new

pub all_numbered : (old new : List Graph) (i number next : ℕ) → Numbered old new i number next → length old ≤ i → AllNumbered old new number next
all_numbered old new i number next s le =
    let past : take i old ≡ old = take_all i old le in
    let now : take i new ≡ new = take_all i new (omega (arith, s.unvisited.0, le)) in
    record {
      like = subst (λ (gs : List Graph). AreLike gs new) past (subst (λ (gs : List Graph). AreLike (take i old) gs) now s.like);
      counted = subst (λ (gs : List Graph). AreCounted number gs) now s.counted;
      next_is = omega (arith, s.next_is, ap sizes now);
    }

pub record AllNodesNumbered (old new : List Node) (number next : ℕ) : Type 0 where
  pub like : AreNodesLike old new
  pub counted : AreNodesCounted number new
  pub next_is : next ≡ number + sum (map node_size new)

pub all_nodes_numbered : (old new : List Node) (i number next : ℕ) → NodesNumbered old new i number next → length old ≤ i → AllNodesNumbered old new number next
all_nodes_numbered old new i number next s le =
    let past : take i old ≡ old = take_all i old le in
    let now : take i new ≡ new = take_all i new (omega (arith, s.unvisited.0, le)) in
    record {
      like = subst (λ (ns : List Node). AreNodesLike ns new) past (subst (λ (ns : List Node). AreNodesLike (take i old) ns) now s.like);
      counted = subst (λ (ns : List Node). AreNodesCounted number ns) now s.counted;
      next_is = omega (arith, s.next_is, ap (λ (ns : List Node). sum (map node_size ns)) now);
    }
