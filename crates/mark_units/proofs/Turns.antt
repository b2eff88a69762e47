-- Turns of the loops over graphs and over nodes.
use Rattle.std.proofs.Common.{◌≡◌, ◌∙◌, ℕ, suc, ◌+◌, ◌≤◌, List, [], ◌∷◌, ◌++◌, map, drop, length, All, Contains, refl, sym, ap, subst, arith, append-nil, append_assoc}
use Rattle.std.specs.List.{flat_map}
use Rattle.std.proofs.lemmas.List.Elements.{All-contains, Contains-append_right}
use Rattle.if1_graph.specs.declared.graph.Graph.{Graph}
use Rattle.if1_graph.specs.declared.graph.Node.{Node}
use Rattle.if1_graph.specs.declared.graph.Unit1.{Unit1}
use Rattle.if1_graph.specs.Units.{Home, Place, levels, places_of}
use Rattle.may_take.specs.Looked.{flags_at, node_places, node_levels}
use Rattle.mark_units.specs.declared.begin.Pass.{Pass}
use Rattle.mark_units.specs.Walked.{AllFlags, AreNext, GraphNext, GraphMarked, NodeNext, NodeMarked, NodesNext, NodesMarked, PartsNext, PartsMarked, part_places, marked_parts, marked_node}
use Rattle.mark_units.proofs.Going.{first-next, others-next, HasNoted, noted-none, noted-more, noted-all}

-- these are what is left of a list
pub record IsLeft {A : Type 0} (all left : List A) : Type 0 where
  pub before : List A
  pub is : all ≡ before ++ left

pub all-left : {A : Type 0} (xs : List A) → IsLeft xs xs
all-left xs = record { before = []; is = refl }

pub less-left : {A : Type 0} {all : List A} (x : A) (xs : List A) → IsLeft all (x ∷ xs) → IsLeft all xs
less-left x xs l = record { before = l.before ++ x ∷ []; is = l.is ∙ sym (append_assoc l.before (x ∷ []) xs) }

pub left-in : {A : Type 0} {all : List A} (x : A) (xs : List A) → IsLeft all (x ∷ xs) → Contains all x
left-in x xs l = subst (λ ys. Contains ys x) (sym l.is) (Contains-append_right l.before (x ∷ xs) x (0, omega arith, refl))

counted : {A : Type 0} (k : ℕ) (done : List A) (x : A) → k + length (done ++ x ∷ []) ≡ suc (k + length done)
counted {A} k done x = omega (arith, longer done)
  where
    longer : (xs : List A) → length (xs ++ x ∷ []) ≡ suc (length xs)
    longer [] = refl
    longer (y ∷ ys) = ap suc (longer ys)

pub none-left : {A : Type 0} (xs : List A) → length xs ≡ 0 → xs ≡ []
none-left [] e = refl
none-left (x ∷ xs) e = absurd (omega (arith, e))

-- ---- graphs

pub record PartsGo (u : Unit1) (more : ℕ) (home : ℕ → Home) (k : ℕ) (tail : AllFlags) (gs : List Graph) (flags : AllFlags) (old : Pass) (done left : List Graph) (now : Pass) : Type 0 where
  pub marked : done ++ marked_parts u more home (k + length done) left ≡ marked_parts u more home k gs
  pub next : AreNext u (part_places u more home (k + length done) left) (drop now.at flags) tail
  pub noted : HasNoted u (part_places u more home k gs) (part_places u more home (k + length done) left) old now

pub record PartsGoing (gs : List Graph) (flags : AllFlags) (old : Pass) (done left : List Graph) (now : Pass) : Type 0 where
  pub left_is : IsLeft gs left
  pub go : (u : Unit1) (more : ℕ) (home : ℕ → Home) (k : ℕ) (tail : AllFlags) → All (λ s. levels s ≤ more) gs → AreNext u (part_places u more home k gs) (drop old.at flags) tail →
      PartsGo u more home k tail gs flags old done left now

pub parts-begin : (gs : List Graph) (flags : AllFlags) (old : Pass) → PartsGoing gs flags old [] gs old
parts-begin gs flags old =
    record {
      left_is = all-left gs;
      go = λ u more home k tail deep next.
          let e : k ≡ k + 0 = omega arith in
          record {
            marked = ap (λ k. marked_parts u more home k gs) (sym e);
            next = subst (λ k. AreNext u (part_places u more home k gs) (drop old.at flags) tail) e next;
            noted = subst (λ i. HasNoted u (part_places u more home k gs) (part_places u more home i gs) old old) e (noted-none u (part_places u more home k gs) old);
          };
    }

module _ (gs : List Graph) (flags : AllFlags) (old : Pass) (done : List Graph) (s : Graph) (left : List Graph) (now : Pass) (going : PartsGoing gs flags old done (s ∷ left) now) where
  abbrev first : (u : Unit1) (more : ℕ) (home : ℕ → Home) (k : ℕ) → List Place
  first u more home k = places_of more (home (k + length done)) s

  abbrev others : (u : Unit1) (more : ℕ) (home : ℕ → Home) (k : ℕ) → List Place
  others u more home k = part_places u more home (suc (k + length done)) left

  pub part-next : PartsNext gs (drop old.at flags) → GraphNext s (drop now.at flags)
  part-next n =
      let g = going.go n.unit n.more n.home n.first n.rest n.deep n.next in
      record {
        unit = n.unit;
        more = n.more;
        home = n.home (n.first + length done);
        rest = map (flags_at n.unit) (others n.unit n.more n.home n.first) ++ n.rest;
        deep = All-contains (λ s. levels s ≤ n.more) gs s n.deep (left-in s left going.left_is);
        next = first-next n.unit (first n.unit n.more n.home n.first) (others n.unit n.more n.home n.first) (drop now.at flags) n.rest g.next;
      }

  pub parts-turn : (new : Pass) (r : Graph) → GraphMarked s flags now new r → PartsGoing gs flags old (done ++ r ∷ []) left new
  parts-turn new r m =
      record {
        left_is = less-left s left going.left_is;
        go = λ u more home k tail deep next.
            let g = going.go u more home k tail deep next in
            let ps = first u more home k in
            let qs = others u more home k in
            let d = m u more (home (k + length done)) (map (flags_at u) qs ++ tail) (All-contains (λ s. levels s ≤ more) gs s deep (left-in s left going.left_is))
            (first-next u ps qs (drop now.at flags) tail g.next) in
            let e : suc (k + length done) ≡ k + length (done ++ r ∷ []) = sym (counted k done r) in
            record {
              marked = append_assoc done (r ∷ []) (marked_parts u more home (k + length (done ++ r ∷ [])) left)
                  ∙ (ap (λ i. done ++ r ∷ marked_parts u more home i left) (sym e)
                  ∙ (ap (λ x. done ++ x ∷ marked_parts u more home (suc (k + length done)) left) d.0
                  ∙ g.marked));
              next = subst (λ i. AreNext u (part_places u more home i left) (drop new.at flags) tail) e (others-next u ps qs (drop now.at flags) tail g.next (drop new.at flags) d.1.left);
              noted = subst (λ i. HasNoted u (part_places u more home k gs) (part_places u more home i left) old new) e (noted-more g.noted d.1);
            };
      }

pub parts-end : (gs : List Graph) (flags : AllFlags) (old : Pass) (done : List Graph) (now : Pass) → PartsGoing gs flags old done [] now → PartsMarked gs flags old now done
parts-end gs flags old done now going u more home k tail deep next =
    let g = going.go u more home k tail deep next in (sym (append-nil done) ∙ g.marked, noted-all g.noted g.next.are)

-- ---- nodes

pub record NodesGo (u : Unit1) (more : ℕ) (g : Graph) (tail : AllFlags) (ns : List Node) (flags : AllFlags) (old : Pass) (done left : List Node) (now : Pass) : Type 0 where
  pub marked : done ++ map (marked_node u more g) left ≡ map (marked_node u more g) ns
  pub next : AreNext u (flat_map (node_places more g) left) (drop now.at flags) tail
  pub noted : HasNoted u (flat_map (node_places more g) ns) (flat_map (node_places more g) left) old now

pub record NodesGoing (ns : List Node) (flags : AllFlags) (old : Pass) (done left : List Node) (now : Pass) : Type 0 where
  pub left_is : IsLeft ns left
  pub go : (u : Unit1) (more : ℕ) (g : Graph) (tail : AllFlags) → All (λ n. node_levels n ≤ suc more) ns → AreNext u (flat_map (node_places more g) ns) (drop old.at flags) tail →
      NodesGo u more g tail ns flags old done left now

pub nodes-begin : (ns : List Node) (flags : AllFlags) (old : Pass) → NodesGoing ns flags old [] ns old
nodes-begin ns flags old =
    record {
      left_is = all-left ns;
      go = λ u more g tail deep next. record { marked = refl; next = next; noted = noted-none u (flat_map (node_places more g) ns) old };
    }

module _ (ns : List Node) (flags : AllFlags) (old : Pass) (done : List Node) (n : Node) (left : List Node) (now : Pass) (going : NodesGoing ns flags old done (n ∷ left) now) where
  pub node-next : NodesNext ns (drop old.at flags) → NodeNext n (drop now.at flags)
  node-next h =
      let g = going.go h.unit h.more h.outer h.rest h.deep h.next in
      record {
        unit = h.unit;
        more = h.more;
        outer = h.outer;
        rest = map (flags_at h.unit) (flat_map (node_places h.more h.outer) left) ++ h.rest;
        deep = All-contains (λ n. node_levels n ≤ suc h.more) ns n h.deep (left-in n left going.left_is);
        next = first-next h.unit (node_places h.more h.outer n) (flat_map (node_places h.more h.outer) left) (drop now.at flags) h.rest g.next;
      }

  pub nodes-turn : (new : Pass) (r : Node) → NodeMarked n flags now new r → NodesGoing ns flags old (done ++ r ∷ []) left new
  nodes-turn new r m =
      record {
        left_is = less-left n left going.left_is;
        go = λ u more outer tail deep next.
            let g = going.go u more outer tail deep next in
            let ps = node_places more outer n in
            let qs = flat_map (node_places more outer) left in
            let d = m u more outer (map (flags_at u) qs ++ tail) (All-contains (λ n. node_levels n ≤ suc more) ns n deep (left-in n left going.left_is))
            (first-next u ps qs (drop now.at flags) tail g.next) in
            record {
              marked = append_assoc done (r ∷ []) (map (marked_node u more outer) left)
                  ∙ (ap (λ x. done ++ x ∷ map (marked_node u more outer) left) d.0 ∙ g.marked);
              next = others-next u ps qs (drop now.at flags) tail g.next (drop new.at flags) d.1.left;
              noted = noted-more g.noted d.1;
            };
      }

pub nodes-end : (ns : List Node) (flags : AllFlags) (old : Pass) (done : List Node) (now : Pass) → NodesGoing ns flags old done [] now → NodesMarked ns flags old now done
nodes-end ns flags old done now going u more outer tail deep next =
    let g = going.go u more outer tail deep next in (sym (append-nil done) ∙ g.marked, noted-all g.noted g.next.are)
