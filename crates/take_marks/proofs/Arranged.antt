-- Edges in order give users in order.
use Rattle.std.proofs.Common.{◌≡◌, ◌≢◌, ◌∙◌, ℕ, ◌≤◌, suc, List, [], ◌∷◌, map, filter, Contains, AllPairs, inl, inr, arith, sym, subst}
use Rattle.std.proofs.lemmas.List.Kept.{AllPairs-filter}
use Rattle.std.proofs.lemmas.List.Elements.{All-weaker, All-contains_itself}
use Rattle.if1_graph.specs.declared.graph.Edge.{Edge}
use Rattle.if1_graph.specs.declared.graph.Graph.{Graph}
use Rattle.if1_graph.specs.declared.graph.Graph.TheViews.{out-Graph}
use Rattle.if1_graph.specs.declared.graph.Origin.{Origin}
use Rattle.if1_graph.specs.declared.graph.Origin.TheVariants.{Port, Lit}
use Rattle.if1_graph.specs.Normal.{Precedes}
use Rattle.if1_graph.specs.Ports.{leaves}
use Rattle.if1_order.specs.Orders.{node_labels}
use Rattle.if1_marks.proofs.Lists.{in-none}
use Rattle.marks_made.proofs.Lists.{from-mapped, passed}
use Rattle.if1_reach.specs.Users.{users_in}
use Rattle.take_marks.specs.Judged.{IsRow, AreThere}
use Rattle.take_marks.specs.Made.{IsInShape}

abbrev nodes-of : List Edge → List ℕ
nodes-of es = map (λ (e : Edge). e.node) es

pairs-row : (es : List Edge) → AllPairs Precedes es → IsRow (nodes-of es)
pairs-row [] p = tt
pairs-row (e ∷ es) p = (
  (λ y c ne.
      let r = from-mapped (λ (e : Edge). e.node) es y c in
      let (k, h, x) = r.1 in
      let q = p 0 (suc k) r.0 (omega arith) (omega (arith, h)) in
      by y r.0 r.2 ne (subst (λ (f : Edge). Precedes e f) x q)),
  pairs-row es (λ i j d lt h. p (suc i) (suc j) d (omega (arith, lt)) (omega (arith, h))),
)
  where
    by : (y : ℕ) (f : Edge) → f.node ≡ y → y ≢ 0 → Precedes e f → (1 ≤ e.node) × (e.node ≤ y)
    by y f is ne (inl s) = (omega (arith, s.0, is, ne), omega (arith, s.0, is))
    by y f is ne (inr (one, inl lt)) = (one, omega (arith, lt, is))
    by y f is ne (inr (one, inr z)) = absurd (ne (sym is ∙ z))

pub users-row : (es : List Edge) (o : Origin) → AllPairs Precedes es → IsRow (users_in es o)
users-row es (Port l port) p = pairs-row (filter (λ e. leaves l port e.from) es) (AllPairs-filter Precedes (λ e. leaves l port e.from) es p)
users-row es (Lit text) p = tt

user-edge : (es : List Edge) (o : Origin) (l : ℕ) → Contains (users_in es o) l → (e : Edge) × Contains es e × (e.node ≡ l)
user-edge es (Port n port) l c =
    let r = from-mapped (λ (e : Edge). e.node) (filter (λ e. leaves n port e.from) es) l c in
    (r.0, (passed (λ e. leaves n port e.from) es r.0 r.1).0, r.2)
user-edge es (Lit text) l c = in-none l c

pub users-there : (g : Graph) (labels items : List ℕ) (o : Origin) → IsInShape g → labels ≡ node_labels g → items ≡ users_in (out-Graph g).edges o → AreThere labels items
users-there g labels items o shape e is =
    All-weaker (Contains items) (λ l. l ≢ 0 → Contains labels l)
    (λ l c ne.
    let r = user-edge (out-Graph g).edges o l (subst (λ xs. Contains xs l) is c) in
    subst (λ ls. Contains ls l) (sym e) (subst (Contains (node_labels g)) r.2 (shape.there r.0 r.1 (λ z. ne (sym r.2 ∙ z)))))
    items (All-contains_itself items)
