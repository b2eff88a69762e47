-- Graphs with the same edges and labels have the same marks made.
use Rattle.std.proofs.Common.{◌≡◌, ◌∙◌, ℕ, ◌<◌, Bool, true, ◌||◌, ◌&&◌, not, List, [], ◌∷◌, ◌++◌, map, length, slice_index, slice_index_or, AllPairs, Contains, ◌↔◌, refl, sym, ap, subst, if◌then◌else◌, nat_lt, ◌==◌}
use Rattle.std.specs.List.{list_any, filter}
use Rattle.std.specs.List.Sorted.{IsStrictlyIncreasing}
use Rattle.if1_graph.specs.declared.graph.Edge.{Edge}
use Rattle.if1_graph.specs.declared.graph.Graph.{Graph}
use Rattle.if1_graph.specs.declared.graph.Graph.TheViews.{out-Graph}
use Rattle.if1_graph.specs.declared.graph.Origin.{Origin}
use Rattle.if1_graph.specs.declared.graph.Origin.TheVariants.{Port, Lit}
use Rattle.if1_graph.specs.Cycles.{Reaches, edge, path}
use Rattle.if1_graph.specs.Normal.{Precedes}
use Rattle.if1_graph.specs.Ports.{leaves}
use Rattle.if1_graph.specs.Units.{label_of, ends}
use Rattle.if1_order.specs.Orders.{node_labels}
use Rattle.if1_marks.specs.Owned.{leaving}
use Rattle.marks_made.specs.Ways.{Links, leads_by}
use Rattle.marks_made.specs.Made.{Answer, Orders, Kept, Taken, Twice, Blocked, is_taken, is_edge, is_order, links, precedes, others, is_twice, is_before, is_blocked, ordered, answer, after, answered, orders, made, made_orders}
use Rattle.marks_made.specs.Laws.{IsMarkable}
use Rattle.marks_made.proofs.Units.{IsLike}
use Rattle.take_marks.specs.Made.{IsInShape, AreListed}

module _ (g h : Graph) (like : IsLike g h) where
  leaving-like : (from : Origin) → leaving h from ≡ leaving g from
  leaving-like (Port l port) = ap (filter (λ (e : Edge). leaves l port e.from)) like.edges
  leaving-like (Lit text) = refl

  twice-like : (e : Edge) → is_twice h e ≡ is_twice g e
  twice-like e = ap (λ (es : List Edge). nat_lt 1 (length (filter (λ f. f.node == e.node) es))) (leaving-like e.from)

  others-like : (e : Edge) → others h e ≡ others g e
  others-like e = ap (λ (es : List Edge). map (λ f. f.node) (filter (λ f. not (f.node == e.node)) es)) (leaving-like e.from)

  links-like : (os : Orders) → links h os ≡ links g os
  links-like os = λ j l m. list_any (is_edge l m) (like.edges j) || list_any (is_order l m) os

  ends-like : ends h ≡ ends g
  ends-like = ap (λ ls. 0 ∷ ls ++ map (λ (e : Edge). e.node) (out-Graph h).edges) like.labels ∙ ap (λ (es : List Edge). 0 ∷ map label_of (out-Graph g).nodes ++ map (λ (e : Edge). e.node) es) like.edges

  precedes-like : (os : Orders) (l m : ℕ) → precedes h os l m ≡ precedes g os l m
  precedes-like os l m = ap (λ (k : Links). leads_by k (ends h) l m) (links-like os) ∙ ap (λ ks. leads_by (links g os) ks l m) ends-like

  before-like : (os : Orders) (t : ℕ) → is_before h os t ≡ is_before g os t
  before-like os t = λ j l. not (t == 0) && ((l == 0) || precedes-like os t l j)

  blocked-like : (os : Orders) (e : Edge) → is_blocked h os e ≡ is_blocked g os e
  blocked-like os e = ap (λ p. list_any p (others h e)) (before-like os e.node) ∙ ap (list_any (is_before g os e.node)) (others-like e)

  ordered-like : (t : ℕ) (ls : List ℕ) (os : Orders) → ordered h t ls os ≡ ordered g t ls os
  ordered-like t [] os = refl
  ordered-like t (l ∷ ls) os =
      ordered-like t ls (if (t == 0) || precedes h os l t then os else (l, t) ∷ os)
      ∙ ap (λ b. ordered g t ls (if (t == 0) || b then os else (l, t) ∷ os)) (precedes-like os l t)

  module _ (may : Edge → Bool) where
    abbrev answer_by : Edge → Bool → Bool → Answer
    answer_by e two late = if not (may e) then Kept else if two then Twice else if late then Blocked else Taken

    answer-like : (os : Orders) (e : Edge) → answer h may os e ≡ answer g may os e
    answer-like os e = ap (λ b. answer_by e b (is_blocked h os e)) (twice-like e) ∙ ap (answer_by e (is_twice g e)) (blocked-like os e)

    after-like : (os : Orders) (e : Edge) → after h may os e ≡ after g may os e
    after-like os e =
        ap (λ a. if is_taken a then ordered h e.node (others h e) os else os) (answer-like os e)
        ∙ (ap (λ ls. if is_taken (answer g may os e) then ordered h e.node ls os else os) (others-like e)
        ∙ ap (λ new. if is_taken (answer g may os e) then new else os) (ordered-like e.node (others g e) os))

    answered-like : (os : Orders) (es : List Edge) → answered h may os es ≡ answered g may os es
    answered-like os [] = refl
    answered-like os (e ∷ es) =
        ap (λ a. (e, a) ∷ answered h may (after h may os e) es) (answer-like os e)
        ∙ (ap (λ os2. (e, answer g may os e) ∷ answered h may os2 es) (after-like os e)
        ∙ ap (λ xs. (e, answer g may os e) ∷ xs) (answered-like (after g may os e) es))

    orders-like : (os : Orders) (es : List Edge) → orders h may os es ≡ orders g may os es
    orders-like os [] = refl
    orders-like os (e ∷ es) = ap (λ os2. orders h may os2 es) (after-like os e) ∙ orders-like (after g may os e) es

    pub made-like : made h may ≡ made g may
    made-like = answered-like [] (out-Graph h).edges ∙ ap (answered g may []) like.edges

    pub made-orders-like : made_orders h may ≡ made_orders g may
    made-orders-like = orders-like [] (out-Graph h).edges ∙ ap (orders g may []) like.edges

    reaches-like : {l m : ℕ} → Reaches h l m → Reaches g l m
    reaches-like (edge f) = edge (record { edge = f.edge; there = subst (λ es. Contains es f.edge) like.edges f.there; source = f.source; target = f.target; no_boundary = f.no_boundary })
    reaches-like (path f r) = path (record { edge = f.edge; there = subst (λ es. Contains es f.edge) like.edges f.there; source = f.source; target = f.target; no_boundary = f.no_boundary }) (reaches-like r)

    pub markable-like : IsMarkable g may → IsMarkable h may
    markable-like ok =
        record {
          unlooked = ok.unlooked;
          from_port = ok.from_port;
          there = λ e c ne. subst (λ ls. Contains ls e.node) (sym like.labels) (ok.there e (subst (λ es. Contains es e) like.edges c) ne);
          acyclic = λ l r. ok.acyclic l (reaches-like r);
        }

    pub shape-like : IsInShape g → IsInShape h
    shape-like ok =
        record {
          rising = subst IsStrictlyIncreasing (sym like.labels) ok.rising;
          there = λ e c ne. subst (λ ls. Contains ls e.node) (sym like.labels) (ok.there e (subst (λ es. Contains es e) like.edges c) ne);
          sources = λ l m a. subst (λ ls. Contains ls l) (sym like.labels) (ok.sources l m (subst (λ es. list_any (is_edge l m) es ≡ true) like.edges a));
          acyclic = λ l r. ok.acyclic l (reaches-like r);
          arranged = subst (AllPairs Precedes) (sym like.edges) ok.arranged;
        }

  pub listed-like : (os : Orders) (befores : List (List ℕ)) → AreListed g os befores → AreListed h os befores
  listed-like os befores a =
      record {
        fit = a.fit ∙ sym (ap length like.labels);
        listed = λ t l lt.
            let small : t < length (node_labels g) = subst (λ ls. t < length ls) like.labels lt in
            subst (λ ls. Contains (slice_index_or befores t []) l ↔ (list_any (is_order l (slice_index ls t)) os ≡ true)) (sym like.labels) (a.listed t l small);
      }
