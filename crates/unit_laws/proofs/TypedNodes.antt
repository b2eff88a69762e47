-- Simple nodes of a ready unit: what is carried into their ports fits, and so do their outputs.
use Rattle.std.proofs.Common.{◌≡◌, ℕ, zero, suc, ◌<◌, ◌≤◌, Bool, true, false, ◌&&◌, List, [], ◌∷◌, map, find, option_map, Option, Some, None, Contains, ◌⊎◌, inl, inr, refl, sym, ap, subst, ◌∙◌, cond, arith, ◌==◌}
use Rattle.std.specs.List.{filter}
use Rattle.std.proofs.lemmas.Bool.{eq-eqb, and_from}
use Rattle.if1_graph.specs.declared.graph.Edge.{Edge}
use Rattle.if1_graph.specs.declared.graph.Graph.{Graph}
use Rattle.if1_graph.specs.declared.graph.Graph.TheViews.{out-Graph}
use Rattle.if1_graph.specs.declared.graph.Node.{Node, out-Node}
use Rattle.if1_graph.specs.declared.graph.Unit1.{Unit1}
use Rattle.if1_graph.specs.declared.op.Simple.{Simple}
use Rattle.if1_graph.specs.Formed.{IsOnce, want_at}
use Rattle.if1_graph.specs.Ops.{simple_at, compound_at}
use Rattle.if1_graph.specs.Ports.{AreFirst, IsEndFilled, IsNodeFilled, carried}
use Rattle.if1_graph.specs.Ready.{IsReady}
use Rattle.if1_graph.specs.Rows.{Operand, operand_of}
use Rattle.if1_graph.specs.Tables.{◌>>=◌}
use Rattle.if1_graph.specs.Types.{Sort, sort_at}
use Rattle.if1_graph.specs.Typing.{FitsNode, IsWanted}
use Rattle.if1_graph.specs.Units.{label_of, greatest, node_at, edge_into, edges_into, ports_into, width, Place, places}
use Rattle.if1_marks.proofs.Lists.{here, there, here-or-there, in-none, in-mapped, found-in, in-filter}
use Rattle.if1_marks.proofs.Tests.{same-number, no-both}
use Rattle.unit_laws.proofs.TypedEdges.{IsValueWant, graph-formed, ports-at, node-end, wanted-here, found-edge}

-- ---- ports

found-some : (p : Edge → Bool) (es : List Edge) (e : Edge) → Contains es e → p e ≡ true → (f : Edge) × (find p es ≡ Some f)
found-some p [] e c h = in-none e c
found-some p (x ∷ es) e c h = go (p x) refl (here-or-there x es e c) (λ later. found-some p es e later h)
  where
    go : (b : Bool) → p x ≡ b → (x ≡ e) ⊎ Contains es e → (Contains es e → (f : Edge) × (find p es ≡ Some f)) → (f : Edge) × (cond b (Some x) (find p es) ≡ Some f)
    go true q r rest = (x, refl)
    go false q (inl s) rest = absurd (no-both (p x) (ap p s ∙ h) q)
    go false q (inr later) rest = rest later

from-mapped : {A B : Type 0} (f : A → B) (xs : List A) (y : B) → Contains (map f xs) y → (x : A) × Contains xs x × (f x ≡ y)
from-mapped f [] y h = in-none y h
from-mapped f (x ∷ xs) y h =
    elim (here-or-there (f x) (map f xs) y h) [
      | inl e ↦ (x, here x xs, e)
      | inr later ↦ let r = from-mapped f xs y later in (r.0, there x xs r.0 r.1, r.2)
    ]

from-filter : {A : Type 0} (p : A → Bool) (xs : List A) (x : A) → Contains (filter p xs) x → Contains xs x × (p x ≡ true)
from-filter p [] x h = in-none x h
from-filter p (y ∷ xs) x h = go (p y) refl h (from-filter p xs x)
  where
    go : (b : Bool) → p y ≡ b → Contains (cond b (y ∷ filter p xs) (filter p xs)) x → (Contains (filter p xs) x → Contains xs x × (p x ≡ true)) → Contains (y ∷ xs) x × (p x ≡ true)
    go true e h rest =
        elim (here-or-there y (filter p xs) x h) [
          | inl same ↦ (subst (Contains (y ∷ xs)) same (here y xs), ap p (sym same) ∙ e)
          | inr later ↦ let r = rest later in (there y xs x r.0, r.1)
        ]
    go false e h rest = let r = rest h in (there y xs x r.0, r.1)

-- a port that is filled has an edge
pub filled-port : (g : Graph) (l port : ℕ) → Contains (ports_into g l) port → (e : Edge) × (edge_into g l port ≡ Some e)
filled-port g l port h =
    let r = from-mapped (λ e. e.port) (edges_into g l) port h in
    let q = from-filter (λ e. e.node == l) (out-Graph g).edges r.0 r.1 in
    found-some (λ e. (e.node == l) && (e.port == port)) (out-Graph g).edges r.0 q.0 (and_from ((r.0).node == l) ((r.0).port == port) q.1 (eq-eqb (r.0).port port r.2))

-- and a port with an edge is filled
pub port-filled : (g : Graph) (l port : ℕ) (e : Edge) → edge_into g l port ≡ Some e → Contains (ports_into g l) port
port-filled g l port e f =
    let r = found-in (λ e. (e.node == l) && (e.port == port)) (out-Graph g).edges e f in
    go e r.0 r.1
  where
    go : (e : Edge) → Contains (out-Graph g).edges e → ((e.node == l) && (e.port == port)) ≡ true → Contains (ports_into g l) port
    go e c t = subst (Contains (ports_into g l)) (same-number e.port port (right (e.node == l) (e.port == port) t)) (in-mapped (λ e. e.port) (edges_into g l) e (in-filter (λ f. f.node == l) (out-Graph g).edges e c (left (e.node == l) (e.port == port) t)))
      where
        left : (a b : Bool) → (a && b) ≡ true → a ≡ true
        left true b e = refl
        left false b e = absurd cc

        right : (a b : Bool) → (a && b) ≡ true → b ≡ true
        right true b e = e
        right false b e = absurd cc

greatest-over : (ns : List ℕ) (n : ℕ) → Contains ns n → n ≤ greatest ns
greatest-over [] n h = in-none n h
greatest-over (m ∷ ns) n h =
    elim (here-or-there m ns n h) [
      | inl e ↦ omega (arith, e)
      | inr later ↦ omega (arith, greatest-over ns n later)
    ]

greatest-within : (ns : List ℕ) (n : ℕ) → ((m : ℕ) → Contains ns m → m ≤ n) → greatest ns ≤ n
greatest-within [] n h = omega arith
greatest-within (m ∷ ns) n h = let a = h m (here m ns) in let b = greatest-within ns n (λ k c. h k (there m ns k c)) in omega (arith, a, b)

pub width-over : (g : Graph) (l port : ℕ) → Contains (ports_into g l) port → port ≤ width g l
width-over g l port h = greatest-over (ports_into g l) port h

-- where the ports are 1 to n, there are n
pub first-width : (n : ℕ) (ports : List ℕ) → AreFirst n ports → greatest ports ≡ n
first-width zero ports f = let b = greatest-within ports 0 (λ m c. ((f.these m).0 c).1) in omega (arith, b)
first-width (suc n) ports f =
    let a = greatest-over ports (suc n) ((f.these (suc n)).1 (omega arith, omega arith)) in
    let b = greatest-within ports (suc n) (λ m c. ((f.these m).0 c).1) in
    omega (arith, a, b)

-- each of them has an edge
pub first-edge : (g : Graph) (l n : ℕ) → AreFirst n (ports_into g l) → (i : ℕ) → i < n → (e : Edge) × (edge_into g l (suc i) ≡ Some e)
first-edge g l n f i lt = filled-port g l (suc i) ((f.these (suc i)).1 (omega arith, omega (arith, lt)))

-- ---- nodes

node-once : (ns : List Node) → IsOnce (map label_of ns) → (n : Node) → Contains ns n → node_at ns (label_of n) ≡ Some n
node-once [] once n c = in-none n c
node-once (m ∷ ns) once n c = go (label_of m == label_of n) refl (here-or-there m ns n c) (λ later. node-once ns once.1 n later)
  where
    go : (b : Bool) → (label_of m == label_of n) ≡ b → (m ≡ n) ⊎ Contains ns n → (Contains ns n → node_at ns (label_of n) ≡ Some n) → cond b (Some m) (node_at ns (label_of n)) ≡ Some n
    go b q (inl e) rest = subst (λ z. cond z (Some m) (node_at ns (label_of n)) ≡ Some n) (sym (eq-eqb (label_of m) (label_of n) (ap label_of e)) ∙ q) (ap Some e)
    go true q (inr later) rest = absurd (once.0 (subst (Contains (map label_of ns)) (sym (same-number (label_of m) (label_of n) q)) (in-mapped label_of ns n later)))
    go false q (inr later) rest = rest later

module _ (u : Unit1) (ready : IsReady u) (p : Place) (place : Contains (places u) p) (n : Node) (inside : Contains (out-Graph p.graph).nodes n) where
  abbrev l : ℕ
  l = label_of n

  pub node-found : node_at (out-Graph p.graph).nodes l ≡ Some n
  node-found = node-once (out-Graph p.graph).nodes (graph-formed u ready p place).labels n inside

  pub node-filled : IsNodeFilled u p.graph n
  node-filled = subst (IsEndFilled u p l) node-found (ports-at u ready p place l (node-end u ready p place n inside)).filled

  wanted-node : (port : ℕ) (s : Sort) → IsWanted u p l (Some n) port s → FitsNode u p.graph l (compound_at (out-Node n).op) (simple_at (out-Node n).op) port s
  wanted-node port s h = h

  -- what is wanted at a port of this node, where an edge leads to it that takes values
  pub record IsWantedAt (port : ℕ) : Type 0 where
    pub edge : Edge
    pub found : edge_into p.graph l port ≡ Some edge
    pub sort : Sort
    pub carries : carried u p.graph l port ≡ Some sort
    pub fits : FitsNode u p.graph l (compound_at (out-Node n).op) (simple_at (out-Node n).op) port sort

  pub wanted-at : (port : ℕ) (e : Edge) → edge_into p.graph l port ≡ Some e → IsValueWant (want_at p.graph l port) → IsWantedAt port
  wanted-at port e f v =
      let r = found-edge u ready p place l port e f in
      let x = wanted-here u ready p place e r.0 (subst IsValueWant (sym (ap (λ n. want_at p.graph n e.port) r.1 ∙ ap (want_at p.graph l) r.2)) v) in
      let w : IsWanted u p l (node_at (out-Graph p.graph).nodes l) port x.0 =
      subst (λ q. IsWanted u p l (node_at (out-Graph p.graph).nodes l) q x.0) r.2 (subst (λ m. IsWanted u p m (node_at (out-Graph p.graph).nodes m) e.port x.0) r.1 x.2.wanted) in
      record {
        edge = e;
        found = f;
        sort = x.0;
        carries = ap (λ o. o >>= λ e. sort_at u.types e.ty) f ∙ x.1;
        fits = subst (λ o. IsWanted u p l o port x.0) node-found w;
      }

  -- ---- simple nodes

  pub want-is : (port : ℕ) (o : Simple) → simple_at (out-Node n).op ≡ Some o → want_at p.graph l port ≡ option_map (λ x. x.1) (operand_of o port)
  want-is port o e =
      ap (λ m. m >>= λ n. simple_at (out-Node n).op >>= λ op. operand_of op port >>= λ operand. Some operand.1) node-found
      ∙ (ap (λ x. x >>= λ op. operand_of op port >>= λ operand. Some operand.1) e ∙ go (operand_of o port))
    where
      go : (x : Option Operand) → (x >>= λ (operand : Operand). Some operand.1) ≡ option_map (λ (x : Operand). x.1) x
      go None = refl
      go (Some x) = refl
