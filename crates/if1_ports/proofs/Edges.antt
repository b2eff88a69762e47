-- The edges into a node, where edges stand in order.
use Rattle.std.proofs.Common.{◌≡◌, ℕ, suc, ◌≤◌, Bool, true, false, cond, ◌&&◌, ◌==◌, List, [], ◌∷◌, filter, find, inl, inr, AllPairs, Contains, Some, refl, ap, subst, arith, eqb-true}
use Rattle.if1_graph.specs.declared.graph.Edge.{Edge}
use Rattle.if1_graph.specs.declared.graph.Graph.{Graph}
use Rattle.if1_graph.specs.declared.graph.Graph.TheViews.{out-Graph}
use Rattle.if1_graph.specs.Units.{edges_into, ports_into, edge_into}
use Rattle.if1_graph.specs.Normal.{Precedes}
use Rattle.if1_order.proofs.Members.{contains_here, contains_there}
use Rattle.if1_ports.specs.Fed.{ports_of, first_of}
use Rattle.if1_ports.proofs.Counts.{Up}

-- ---- ports into one node do not fall

rest_pairs : (e : Edge) (es : List Edge) → AllPairs Precedes (e ∷ es) → AllPairs Precedes es
rest_pairs e es h = λ i j d a b. h (suc i) (suc j) d (omega (arith, a)) (omega (arith, b))

later : (e : Edge) (es : List Edge) → AllPairs Precedes (e ∷ es) → (f : Edge) → Contains es f → Precedes e f
later e es h f c = subst (λ x. Precedes e x) c.2 (h 0 (suc c.0) f (omega arith) (omega (arith, c.1)))

same_node : (e f : Edge) (l : ℕ) → Precedes e f → e.node ≡ l → f.node ≡ l → e.port ≤ f.port
same_node e f l (inl h) a b = h.1
same_node e f l (inr (one, inl h)) a b = absurd (omega (arith, h, a, b))
same_node e f l (inr (one, inr h)) a b = absurd (omega (arith, one, h, a, b))

ports_from : (es : List Edge) (l least : ℕ) → AllPairs Precedes es → ((f : Edge) → Contains es f → f.node ≡ l → least ≤ f.port) →
    Up least (ports_of (filter (λ e. e.node == l) es))
ports_from [] l least h low = tt
ports_from (e ∷ es) l least h low =
    split (e.node == l) refl (λ n. low e (contains_here e es) n)
    (λ same. ports_from es l e.port (rest_pairs e es h) (λ f c n. same_node e f l (later e es h f c) same n))
    (ports_from es l least (rest_pairs e es h) (λ f c n. low f (contains_there e es f c) n))
  where
    split : (b : Bool) → (e.node == l) ≡ b → (e.node ≡ l → least ≤ e.port) → (e.node ≡ l → Up e.port (ports_of (filter (λ e. e.node == l) es))) →
        Up least (ports_of (filter (λ e. e.node == l) es)) →
        Up least (ports_of (cond b (e ∷ filter (λ e. e.node == l) es) (filter (λ e. e.node == l) es)))
    split true is first after other = (first (eqb-true e.node l is), after (eqb-true e.node l is))
    split false is first after other = other

pub ports_up : (g : Graph) (l : ℕ) → AllPairs Precedes (out-Graph g).edges → Up 0 (ports_into g l)
ports_up g l h = ports_from (out-Graph g).edges l 0 h (λ f c n. omega arith)

-- ---- the edge into port 1

pub port_found : (es : List Edge) (l port : ℕ) → find (λ e. (e.node == l) && (e.port == port)) es ≡ find (λ e. e.port == port) (filter (λ e. e.node == l) es)
port_found [] l port = refl
port_found (e ∷ es) l port = split (e.node == l) (port_found es l port)
  where
    split : (a : Bool) → find (λ e. (e.node == l) && (e.port == port)) es ≡ find (λ e. e.port == port) (filter (λ e. e.node == l) es) →
        cond (a && (e.port == port)) (Some e) (find (λ e. (e.node == l) && (e.port == port)) es)
        ≡ find (λ e. e.port == port) (cond a (e ∷ filter (λ e. e.node == l) es) (filter (λ e. e.node == l) es))
    split true same = ap (λ m. cond (e.port == port) (Some e) m) same
    split false same = same

pub first_into : (g : Graph) (l : ℕ) → edge_into g l 1 ≡ first_of (edges_into g l)
first_into g l = port_found (out-Graph g).edges l 1
