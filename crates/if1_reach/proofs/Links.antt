-- What lists of places say of links, as links are entered.
use Rattle.std.proofs.Common.{◌≡◌, ◌∙◌, ℕ, ◌<◌, zero, suc, Bool, true, false, ◌&&◌, ◌||◌, not, List, [], ◌∷◌, ◌++◌, length, set, get_or, slice_index, Contains, ◌⊎◌, inl, inr, arith, refl, sym, ap, subst, ◌==◌}
use Rattle.std.specs.List.{list_any}
use Rattle.std.specs.List.Sorted.{IsStrictlyIncreasing}
use Rattle.std.proofs.lemmas.Bool.{or_cases, or_left, or_right, and_parts, and_from, eq-eqb, not-true}
use Rattle.std.proofs.lemmas.List.{length-set}
use Rattle.std.proofs.lemmas.List.Elements.{Contains-get_or}
use Rattle.if1_graph.specs.declared.graph.Edge.{Edge}
use Rattle.if1_graph.specs.declared.graph.Graph.{Graph}
use Rattle.if1_graph.specs.declared.graph.Graph.TheViews.{out-Graph}
use Rattle.if1_graph.specs.declared.graph.Node.{Node, out-Node}
use Rattle.if1_graph.specs.Units.{label_of}
use Rattle.if1_order.specs.Walks.{Lists, feeders_of, Leads, step, onward}
use Rattle.if1_order.specs.Feeders.{Joins, IsPlace, IsJoined, AreFeeders}
use Rattle.if1_order.proofs.Orders.{same_place, contained_place, entry_cases, entry_kept, entry_new, feeders_inside}
use Rattle.if1_marks.proofs.Tests.{same-number, any-found, any-there, no-both}
use Rattle.if1_marks.proofs.Taken.{another}
use Rattle.marks_made.specs.Ways.{Links, link, on}
use Rattle.marks_made.specs.Ways as ways
use Rattle.marks_made.specs.Made.{is_edge, comes_from}
use Rattle.marks_made.proofs.Steps.{from-label, label-from}
use Rattle.if1_reach.specs.Nets.{is_listed, links_in, AreLinked, with_link, with_links, with_nodes, IsNet}

pub any-push : {A : Type 0} (p : A → Bool) (xs : List A) (x : A) → list_any p (xs ++ x ∷ []) ≡ (list_any p xs || p x)
any-push p [] x = or-false (p x)
  where
    or-false : (b : Bool) → (b || false) ≡ b
    or-false true = refl
    or-false false = refl
any-push p (y ∷ xs) x = ap (λ b. p y || b) (any-push p xs x) ∙ or-assoc (p y) (list_any p xs) (p x)
  where
    or-assoc : (a b c : Bool) → (a || (b || c)) ≡ ((a || b) || c)
    or-assoc true b c = refl
    or-assoc false b c = refl

-- ---- the same links

pub net-same : {labels : List ℕ} {lists : Lists} {links others : Links} → ((l m : ℕ) → links l m ≡ others l m) → IsNet labels lists links → IsNet labels lists others
net-same {labels = labels} same w =
    record {
      fit = w.fit;
      inside = w.inside;
      sound = λ s t c. sym (same (get_or labels s 0) (get_or labels t 0)) ∙ w.sound s t c;
      complete = λ s t h i e. w.complete s t h i (same (get_or labels s 0) (get_or labels t 0) ∙ e);
    }

-- ---- one link more

module _ (labels : List ℕ) (up : IsStrictlyIncreasing labels) (old : Lists) (links : Links) (w : IsNet labels old links) (l m : ℕ) where
  pub entered : (s t : ℕ) → IsPlace labels s l → IsPlace labels t m → IsNet labels (set old t (feeders_of old t ++ s ∷ [])) (with_link links l m)
  entered s t ps pt =
      let h : t < length old = omega (arith, w.fit, pt.0) in
      record {
        fit = length-set old t (feeders_of old t ++ s ∷ []) ∙ w.fit;
        inside = λ p q c. subst (λ n. p < n) (sym (length-set old t (feeders_of old t ++ s ∷ [])))
            (elim (entry_cases old s t h p q c) [
              | inl i ↦ w.inside p q i
              | inr new ↦ subst (λ z. z < length old) new.0 (omega (arith, w.fit, ps.0))
            ]);
        sound = λ p q c. elim (entry_cases old s t h p q c) [
          | inl i ↦ or_left (links (get_or labels p 0) (get_or labels q 0)) ((l == get_or labels p 0) && (m == get_or labels q 0)) (w.sound p q i)
          | inr new ↦ or_right (links (get_or labels p 0) (get_or labels q 0)) ((l == get_or labels p 0) && (m == get_or labels q 0))
              (and_from (l == get_or labels p 0) (m == get_or labels q 0)
              (eq-eqb l (get_or labels p 0) (sym ps.1 ∙ ap (λ z. get_or labels z 0) new.0))
              (eq-eqb m (get_or labels q 0) (sym pt.1 ∙ ap (λ z. get_or labels z 0) new.1)))
        ];
        complete = λ p q i j e. elim (or_cases (links (get_or labels p 0) (get_or labels q 0)) ((l == get_or labels p 0) && (m == get_or labels q 0)) e) [
          | inl a ↦ entry_kept old s t h p q (w.complete p q i j a)
          | inr b ↦
              let r = and_parts (l == get_or labels p 0) (m == get_or labels q 0) b in
              let sp : s ≡ p = same_place labels s p up ps.0 i (ps.1 ∙ same-number l (get_or labels p 0) r.0) in
              let tq : t ≡ q = same_place labels t q up pt.0 j (pt.1 ∙ same-number m (get_or labels q 0) r.1) in
              subst (λ z. Contains (feeders_of (set old t (feeders_of old t ++ s ∷ [])) z) p) tq
              (subst (Contains (feeders_of (set old t (feeders_of old t ++ s ∷ [])) t)) sp (entry_new old s t h))
        ];
      }

  skipped : (¬ Contains labels l) ⊎ (¬ Contains labels m) → IsNet labels old (with_link links l m)
  skipped none =
      record {
        fit = w.fit;
        inside = w.inside;
        sound = λ p q c. or_left (links (get_or labels p 0) (get_or labels q 0)) ((l == get_or labels p 0) && (m == get_or labels q 0)) (w.sound p q c);
        complete = λ p q i j e. elim (or_cases (links (get_or labels p 0) (get_or labels q 0)) ((l == get_or labels p 0) && (m == get_or labels q 0)) e) [
          | inl a ↦ w.complete p q i j a
          | inr b ↦
              let r = and_parts (l == get_or labels p 0) (m == get_or labels q 0) b in
              absurd (never p q i j none (same-number l (get_or labels p 0) r.0) (same-number m (get_or labels q 0) r.1))
        ];
      }
    where
      never : (p q : ℕ) → p < length labels → q < length labels → (¬ Contains labels l) ⊎ (¬ Contains labels m) → l ≡ get_or labels p 0 → m ≡ get_or labels q 0 → ⊥
      never p q i j (inl none) a b = none (subst (Contains labels) (sym a) (Contains-get_or labels p 0 i))
      never p q i j (inr none) a b = none (subst (Contains labels) (sym b) (Contains-get_or labels q 0 j))

  pub net-joined : (new : Lists) → IsJoined labels l m old new → IsNet labels new (with_link links l m)
  net-joined new (inl j) = subst (λ z. IsNet labels z (with_link links l m)) (sym j.4) (entered j.0 j.1 j.2 j.3)
  net-joined new (inr j) = subst (λ z. IsNet labels z (with_link links l m)) (sym j.0) (skipped j.1)

-- ---- from a list of labels

more-links : (a b c d : Bool) → ((a || (b && c)) || (d && b)) ≡ (a || (b && (c || d)))
more-links true b c d = refl
more-links false true true d = refl
more-links false true false true = refl
more-links false true false false = refl
more-links false false c true = refl
more-links false false c false = refl

pub with-more : (links : Links) (ks : List ℕ) (a t l m : ℕ) → with_link (with_links links ks t) a t l m ≡ with_links links (ks ++ a ∷ []) t l m
with-more links ks a t l m =
    more-links (links l m) (t == m) (list_any (λ k. k == l) ks) (a == l)
    ∙ ap (λ b. links l m || ((t == m) && b)) (sym (any-push (λ k. k == l) ks a))

no-links : (a b : Bool) → a ≡ (a || (b && false))
no-links true b = refl
no-links false true = refl
no-links false false = refl

pub with-none : (links : Links) (t l m : ℕ) → links l m ≡ with_links links [] t l m
with-none links t l m = no-links (links l m) (t == m)

pub links-start : (labels : List ℕ) (lists : Lists) (to : ℕ) (ks : List ℕ) → ks ≡ [] → (links : Links) → IsNet labels lists links → IsNet labels lists (with_links links ks to)
links-start labels lists to ks e links w = subst (λ ks. IsNet labels lists (with_links links ks to)) (sym e) (net-same (with-none links to) w)

pub links-next : (labels : List ℕ) (up : IsStrictlyIncreasing labels) (first old new : Lists) (to a : ℕ) (ks more : List ℕ) → IsJoined labels a to old new → more ≡ ks ++ a ∷ [] →
    ((links : Links) → IsNet labels first links → IsNet labels old (with_links links ks to)) → (links : Links) → IsNet labels first links → IsNet labels new (with_links links more to)
links-next labels up first old new to a ks more j e was links w =
    subst (λ ks. IsNet labels new (with_links links ks to)) (sym e)
    (net-same (with-more links ks a to) (net-joined labels up old (with_links links ks to) (was links w) a to new j))

-- ---- from nodes

module _ (links : Links) where
  pub nodes-none : (l m : ℕ) → links l m ≡ with_nodes links [] l m
  nodes-none l m = go (links l m)
    where
      go : (b : Bool) → b ≡ (b || false)
      go true = refl
      go false = refl

  pub nodes-more : (ns : List Node) (n : Node) (l m : ℕ) → with_links (with_nodes links ns) (out-Node n).before (label_of n) l m ≡ with_nodes links (ns ++ n ∷ []) l m
  nodes-more ns n l m = assoc (links l m) (list_any (is_listed l m) ns) (is_listed l m n) ∙ ap (λ b. links l m || b) (sym (any-push (is_listed l m) ns n))
    where
      assoc : (a b c : Bool) → ((a || b) || c) ≡ (a || (b || c))
      assoc true b c = refl
      assoc false b c = refl

pub nodes-start : (labels : List ℕ) (lists : Lists) (ns : List Node) → ns ≡ [] → (links : Links) → IsNet labels lists links → IsNet labels lists (with_nodes links ns)
nodes-start labels lists ns e links w = subst (λ ns. IsNet labels lists (with_nodes links ns)) (sym e) (net-same (nodes-none links) w)

pub nodes-next : (labels : List ℕ) (first old new : Lists) (n : Node) (ns more : List Node) →
    ((links : Links) → IsNet labels old links → IsNet labels new (with_links links (out-Node n).before (label_of n))) → more ≡ ns ++ n ∷ [] →
    ((links : Links) → IsNet labels first links → IsNet labels old (with_nodes links ns)) → (links : Links) → IsNet labels first links → IsNet labels new (with_nodes links more)
nodes-next labels first old new n ns more one e was links w =
    subst (λ ns. IsNet labels new (with_nodes links ns)) (sym e) (net-same (nodes-more links ns n) (one (with_nodes links ns) (was links w)))

-- ---- edges

joins-any : (es : List Edge) (l m : ℕ) → Joins es l m → list_any (is_edge l m) es ≡ true
joins-any es l m (e, c, i) =
    any-there (is_edge l m) es e c
    (and_from (comes_from l e.from) ((e.node == m) && not (m == 0)) (from-label l e.from i.0)
    (and_from (e.node == m) (not (m == 0)) (eq-eqb e.node m i.1) (another m 0 i.2)))

any-joins : (es : List Edge) (l m : ℕ) → list_any (is_edge l m) es ≡ true → Joins es l m
any-joins es l m h =
    let r = any-found (is_edge l m) es h in
    let q = and_parts (comes_from l r.0.from) ((r.0.node == m) && not (m == 0)) r.2 in
    let s = and_parts (r.0.node == m) (not (m == 0)) q.1 in
    (r.0, r.1, (label-from l r.0.from q.0, same-number r.0.node m s.0, λ z. no-both (m == 0) (eq-eqb m 0 z) (not-true (m == 0) s.1)))

pub net-of-edges : (labels : List ℕ) (es : List Edge) (lists : Lists) → AreFeeders labels es lists → IsNet labels lists (λ l m. list_any (is_edge l m) es)
net-of-edges labels es lists w =
    record {
      fit = w.fit;
      inside = feeders_inside labels es lists w;
      sound = λ s t c. joins-any es (get_or labels s 0) (get_or labels t 0) (w.sound s t c).1;
      complete = λ s t h i e. w.complete s t h i (any-joins es (get_or labels s 0) (get_or labels t 0) e);
    }

-- ---- ways

there-at : (lists : Lists) (t s : ℕ) → Contains (feeders_of lists t) s → t < length lists
there-at [] t s c = absurd (omega (arith, c.1))
there-at (fs ∷ lists) zero s c = omega arith
there-at (fs ∷ lists) (suc t) s c = let r = there-at lists t s c in omega (arith, r)

pub target-inside : (lists : Lists) {s t : ℕ} → Leads lists s t → t < length lists
target-inside lists (step {s = s} {t = t} c) = there-at lists t s c
target-inside lists (onward c w) = target-inside lists w

pub lead-on : (lists : Lists) {s t r : ℕ} → Leads lists s t → Leads lists t r → Leads lists s r
lead-on lists (step c) w = onward c w
lead-on lists (onward c v) w = onward c (lead-on lists v w)

module _ (labels : List ℕ) (lists : Lists) (links : Links) (w : IsNet labels lists links) where
  pub to-labels : {s t : ℕ} → Leads lists s t → ways.Leads links (slice_index labels s) (slice_index labels t)
  to-labels (step {s = s} {t = t} c) = link (w.sound s t c)
  to-labels (onward {s = s} {t = t} {u = u} c v) = on (link (w.sound s t c)) (to-labels v)

  module _ (up : IsStrictlyIncreasing labels) (linked : AreLinked labels links) where
    pub ends-there : {l m : ℕ} → ways.Leads links l m → Contains labels l × Contains labels m
    ends-there (link {l = l} {m = m} e) = linked l m e
    ends-there (on a b) = ((ends-there a).0, (ends-there b).1)

    pub to-places : {l m : ℕ} → ways.Leads links l m → (s t : ℕ) → IsPlace labels s l → IsPlace labels t m → Leads lists s t
    to-places (link {l = l} {m = m} e) s t ps pt =
        step (w.complete s t ps.0 pt.0 (subst (λ a. links a (get_or labels t 0) ≡ true) (sym ps.1) (subst (λ b. links l b ≡ true) (sym pt.1) e)))
    to-places (on {l = l} {m = m} {n = n} a b) s t ps pt =
        let r = contained_place labels m (ends-there a).1 in
        lead-on lists (to-places a s r.0 ps r.1) (to-places b r.0 t r.1 pt)

pub joined-fit : (labels : List ℕ) (l m : ℕ) (old new : Lists) → IsJoined labels l m old new → length new ≡ length old
joined-fit labels l m old new (inl j) = ap length j.4 ∙ length-set old j.1 (feeders_of old j.1 ++ j.0 ∷ [])
joined-fit labels l m old new (inr j) = ap length j.0

pub net-of-graph : (labels : List ℕ) (g : Graph) (es : List Edge) (ns : List Node) (lists all : Lists) → es ≡ (out-Graph g).edges → ns ≡ (out-Graph g).nodes → AreFeeders labels es lists →
    ((links : Links) → IsNet labels lists links → IsNet labels all (with_nodes links ns)) → IsNet labels all (links_in g)
net-of-graph labels g es ns lists all e f w more =
    subst (λ ns. IsNet labels all (with_nodes (λ l m. list_any (is_edge l m) (out-Graph g).edges) ns)) f
    (subst (λ es. IsNet labels all (with_nodes (λ l m. list_any (is_edge l m) es) ns)) e (more (λ l m. list_any (is_edge l m) es) (net-of-edges labels es lists w)))
