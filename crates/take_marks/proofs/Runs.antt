-- All edges of a graph, one after another.
use Rattle.std.proofs.Common.{◌≡◌, ◌∙◌, ℕ, ◌+◌, ◌<◌, zero, suc, Bool, true, false, not, ◌||◌, ◌&&◌, List, [], ◌∷◌, ◌++◌, length, drop, get_or, slice_index, slice_index_or, slice_get, replicate, map, Contains, MatchBool, Some, ◌⊎◌, inl, inr, arith, refl, sym, ap, subst, ◌==◌, drop-cons, append_assoc}
use Rattle.std.specs.List.{list_any}
use Rattle.std.proofs.Math.Seq.{drop-length}
use Rattle.std.proofs.lemmas.List.{length-replicate, length_push, map-append, get_or-map}
use Rattle.std.proofs.lemmas.List.Elements.{Contains-get_or}
use Rattle.std.proofs.lemmas.Option.{same_Some}
use Rattle.if1_graph.specs.declared.graph.Edge.{Edge}
use Rattle.if1_graph.specs.declared.graph.Graph.{Graph}
use Rattle.if1_graph.specs.declared.graph.Graph.TheViews.{out-Graph}
use Rattle.if1_order.specs.Orders.{node_labels}
use Rattle.if1_order.specs.Walks.{Lists, Leads}
use Rattle.if1_order.specs.Feeders.{AreFeeders}
use Rattle.std.proofs.lemmas.Bool.{or_cases, and_parts, eq-eqb, not-true}
use Rattle.if1_graph.specs.Cycles.{Reaches, edge}
use Rattle.if1_marks.proofs.Lists.{in-none}
use Rattle.if1_marks.proofs.Tests.{same-number, any-found, no-both}
use Rattle.if1_marks.proofs.Unlisted.{joined}
use Rattle.marks_made.specs.Made.{comes_from}
use Rattle.marks_made.proofs.Steps.{label-from}
use Rattle.if1_reach.proofs.Labelled.{same-default}
use Rattle.marks_made.specs.Ways as ways
use Rattle.marks_made.specs.Made.{Orders, links, is_edge, is_order, answer, after, answered, orders, made, made_orders}
use Rattle.marks_made.specs.Laws.{IsMarkable}
use Rattle.marks_made.proofs.Steps.{Inv, Step, step, start}
use Rattle.if1_reach.specs.Nets.{IsNet}
use Rattle.if1_reach.specs.Paths.{IsPath}
use Rattle.if1_reach.proofs.Links.{net-same, net-of-edges, to-labels}
use Rattle.take_marks.specs.declared.why.Why.{Why}
use Rattle.take_marks.specs.declared.why.Why.TheVariants as why
use Rattle.take_marks.specs.Whys.{answer_of, HasWay}
use Rattle.take_marks.specs.Standing.{Stands}
use Rattle.take_marks.specs.Made.{IsInShape, AreListed, HaveWays, AreMade}
use Rattle.take_marks.specs.Noted.{IsNoted, notes_of, IsRun, HasRun}

-- ---- ways stay

path-grows : {few many : ways.Links} → ((l m : ℕ) → few l m ≡ true → many l m ≡ true) → {from to : ℕ} {path : List ℕ} → IsPath few from to path → IsPath many from to path
path-grows h {path = path} p = record { long = p.long; first = p.first; last = p.last; linked = λ k lt. h (slice_index path k) (slice_index path (k + 1)) (p.linked k lt) }

way-grows : (g : Graph) (few many : Orders) → ((l m : ℕ) → links g few l m ≡ true → links g many l m ≡ true) → (e : Edge) (w : Why) → HasWay g few e w → HasWay g many e w
way-grows g few many h e why.Kept w = tt
way-grows g few many h e why.Taken w = tt
way-grows g few many h e why.Twice w = tt
way-grows g few many h e (why.Blocked path) w = record { user = w.user; there = w.there; way = by (w.user == 0) w.way }
  where
    by : (b : Bool) → MatchBool b (path ≡ e.node ∷ 0 ∷ []) (IsPath (links g few) e.node w.user path) → MatchBool b (path ≡ e.node ∷ 0 ∷ []) (IsPath (links g many) e.node w.user path)
    by true p = p
    by false p = path-grows h p

got-push : {A : Type 0} (xs : List A) (x y : A) (k : ℕ) → slice_get (xs ++ x ∷ []) k ≡ Some y → (slice_get xs k ≡ Some y) ⊎ ((k ≡ length xs) × (x ≡ y))
got-push [] x y zero e = inr (refl, same_Some x y e)
got-push [] x y (suc k) e = absurd cc
got-push (z ∷ xs) x y zero e = inl e
got-push (z ∷ xs) x y (suc k) e =
    elim (got-push xs x y k e) [
      | inl h ↦ inl h
      | inr h ↦ inr (ap suc h.0, h.1)
    ]

got-at : {A : Type 0} (xs : List A) (k : ℕ) (d y : A) → slice_get xs k ≡ Some y → get_or xs k d ≡ y
got-at [] k d y e = absurd cc
got-at (x ∷ xs) zero d y e = same_Some x y e
got-at (x ∷ xs) (suc k) d y e = got-at xs k d y e

-- ---- the start

module _ (g : Graph) (labels slice : List ℕ) (lists : Lists) (es : List Edge) (is-labels : slice ≡ node_labels g) (is-edges : es ≡ (out-Graph g).edges) (fed : AreFeeders slice es lists) where
  no-orders : (l m : ℕ) → list_any (is_edge l m) (out-Graph g).edges ≡ links g [] l m
  no-orders l m = go (list_any (is_edge l m) (out-Graph g).edges)
    where
      go : (b : Bool) → b ≡ (b || false)
      go true = refl
      go false = refl

  pub first-net : IsNet (node_labels g) lists (links g [])
  first-net =
      net-same no-orders
      (subst (λ ls. IsNet ls lists (λ l m. list_any (is_edge l m) (out-Graph g).edges)) is-labels
      (subst (λ es. IsNet slice lists (λ l m. list_any (is_edge l m) es)) is-edges (net-of-edges slice es lists fed)))

  pub first-stands : (befores : List (List ℕ)) (n : ℕ) → n ≡ length labels → labels ≡ node_labels g → befores ≡ replicate n [] → Stands g [] lists befores
  first-stands befores n e is b =
      record {
        net = first-net;
        fit = ap length b ∙ (length-replicate n [] ∙ (e ∙ ap length is));
        listed = λ t l h. ((λ c. none t l (subst (λ bs. Contains (slice_index_or bs t []) l) b c)), (λ x. absurd cc));
      }
    where
      none : (t l : ℕ) → Contains (slice_index_or (replicate n []) t []) l → list_any (is_order l (slice_index (node_labels g) t)) [] ≡ true
      none t l c = in-none l (subst (λ ks. Contains ks l) (empty n t) c)
        where
          empty : (n t : ℕ) → ◌≡◌ {A = List ℕ} (slice_index_or (replicate n []) t []) []
          empty zero t = refl
          empty (suc n) zero = refl
          empty (suc n) (suc t) = empty n t

-- ---- the edges

module _ (g : Graph) (flags : List Bool) (old : Lists) (oldest : List (List ℕ)) (shape : IsInShape g) where
  abbrev edges : List Edge
  edges = (out-Graph g).edges

  pub run-start : (whys : List Why) → whys ≡ [] → HasRun g flags 0 old oldest old oldest whys
  run-start whys e may ok are stands =
      let s = start g may ok in
      record {
        now = [];
        sound = record { named = s.named; acyclic = s.acyclic };
        stands = stands;
        answers = ap (λ ws. map answer_of ws ++ notes_of (made g may)) e;
        order = refl;
        ways = λ k x w a b. let never = sym (ap (λ ws. slice_get ws k) e) ∙ b in absurd cc;
        count = ap length e;
      }

  pub run-next : (n : ℕ) (e : Edge) → n < length edges → (at : (d : Edge) → get_or edges n d ≡ e) → (flag : Bool) → ((d : Bool) → get_or flags n d ≡ flag) → (lists new : Lists) (befores newest : List (List ℕ)) (whys more : List Why) (w : Why) →
      HasRun g flags n old oldest lists befores whys → IsNoted g e flag lists befores new newest w → more ≡ whys ++ w ∷ [] → HasRun g flags (n + 1) old oldest new newest more
  run-next n e h at flag is-flag lists new befores newest whys more w was noted f may ok are stands =
      let r = was may ok are stands in
      let there : Contains edges e = subst (Contains edges) (at e) (Contains-get_or edges n e h) in
      let fl : may e ≡ flag = ap may (sym (at e)) ∙ (sym (get_or-map may edges n e true h) ∙ (ap (λ fs. get_or fs n true) (sym are) ∙ is-flag true)) in
      let a = noted may r.now ok fl r.sound r.stands in
      let inv : Inv g may ok r.now = record { named = r.sound.named; acyclic = r.sound.acyclic } in
      let s : Step g may ok r.now (after g may r.now e) e (answer g may r.now e) = step g may ok r.now inv e there in
      let cut : drop n edges ≡ e ∷ drop (n + 1) edges = drop-cons edges n e h ∙ (ap (λ x. x ∷ drop (suc n) edges) (at e) ∙ ap (λ k. e ∷ drop k edges) one) in
      subst (IsRun g may (n + 1) new newest) (sym f)
      (record {
        now = after g may r.now e;
        sound = record { named = s.inv.named; acyclic = s.inv.acyclic };
        stands = a.stands;
        answers =
            ap (λ xs. xs ++ notes_of (answered g may (after g may r.now e) (drop (n + 1) edges))) (map-append answer_of whys (w ∷ []))
            ∙ (append_assoc (map answer_of whys) (answer_of w ∷ []) (notes_of (answered g may (after g may r.now e) (drop (n + 1) edges)))
            ∙ (ap (λ x. map answer_of whys ++ (x ∷ notes_of (answered g may (after g may r.now e) (drop (n + 1) edges)))) (sym a.is)
            ∙ (ap (λ es. map answer_of whys ++ notes_of (answered g may r.now es)) (sym cut) ∙ r.answers)));
        order = ap (orders g may r.now) (sym cut) ∙ r.order;
        ways = λ k x v p q. elim (got-push whys w v k q) [
          | inl i ↦ way-grows g r.now (after g may r.now e) s.grows x v (r.ways k x v p i)
          | inr i ↦ subst (HasWay g (after g may r.now e) x) i.1
              (subst (λ y. HasWay g (after g may r.now e) y w) (sym (at x) ∙ (ap (λ j. get_or edges j x) (sym (i.0 ∙ r.count)) ∙ got-at edges k x x p)) (way-grows g r.now (after g may r.now e) s.grows e w a.way))
        ];
        count = length_push whys w ∙ ap (λ k. k + 1) r.count;
      })
    where
      one : suc n ≡ n + 1
      one = omega arith

  pub run-end : (lists : Lists) (befores : List (List ℕ)) (whys : List Why) → HasRun g flags (length edges) old oldest lists befores whys → (may : Edge → Bool) → IsMarkable g may → flags ≡ map may edges → Stands g [] old oldest → AreMade g may whys befores
  run-end lists befores whys run may ok are stands =
      let r = run may ok are stands in
      let final : r.now ≡ made_orders g may = ap (orders g may r.now) (sym (drop-length edges)) ∙ r.order in
      record {
        answers = sym (none (map answer_of whys)) ∙ (ap (λ es. map answer_of whys ++ notes_of (answered g may r.now es)) (sym (drop-length edges)) ∙ r.answers);
        lists = subst (λ os. AreListed g os befores) final (record { fit = r.stands.fit; listed = r.stands.listed });
        ways = subst (λ os. HaveWays g os edges whys) final r.ways;
      }
    where
      none : {A : Type 0} (xs : List A) → (xs ++ []) ≡ xs
      none [] = refl
      none (x ∷ xs) = ap (λ ys. x ∷ ys) (none xs)

reaches : {g : Graph} {l m : ℕ} → ways.Leads (links g []) l m → Reaches g l m
reaches {g = g} (ways.link {l = l} {m = m} h) =
    elim (or_cases (list_any (is_edge l m) (out-Graph g).edges) false h) [
      | inl e ↦
          let r = any-found (is_edge l m) (out-Graph g).edges e in
          let q = and_parts (comes_from l r.0.from) ((r.0.node == m) && not (m == 0)) r.2 in
          let s = and_parts (r.0.node == m) (not (m == 0)) q.1 in
          edge (record {
            edge = r.0;
            there = r.1;
            source = label-from l r.0.from q.0;
            target = same-number r.0.node m s.0;
            no_boundary = λ z. no-both (m == 0) (eq-eqb m 0 z) (not-true (m == 0) s.1);
          })
      | inr o ↦ absurd cc
    ]
reaches (ways.on a b) = joined (reaches a) (reaches b)

pub no-circle : (g : Graph) (labels slice : List ℕ) (lists slices : Lists) (es : List Edge) → IsInShape g → slice ≡ node_labels g → es ≡ (out-Graph g).edges → AreFeeders slice es lists → slices ≡ lists → (s : ℕ) → ¬ Leads slices s s
no-circle g labels slice lists slices es shape is-labels is-edges fed f s w =
    shape.acyclic (slice_index (node_labels g) s) (reaches (to-labels (node_labels g) lists (links g []) (first-net g labels slice lists es is-labels is-edges fed) (subst (λ ls. Leads ls s s) f w)))

pub nth-is : {A : Type 0} (xs ys : List A) (n : ℕ) (x d : A) → ys ≡ xs → n < length ys → x ≡ get_or ys n x → get_or xs n d ≡ x
nth-is xs ys n x d e h is = same-default xs n d x (subst (λ zs. n < length zs) e h) ∙ (ap (λ zs. get_or zs n x) (sym e) ∙ sym is)
