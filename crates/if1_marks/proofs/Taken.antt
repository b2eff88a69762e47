-- What sound marks give.
use Rattle.std.proofs.Common.{◌≡◌, ◌≢◌, ℕ, Bool, true, false, not, List, Contains, refl, ap, ◌∙◌, ◌==◌}
use Rattle.std.proofs.lemmas.Bool.{eq-eqb}
use Rattle.std.proofs.lemmas.List.Elements.{All-contains, All-weaker}
use Rattle.if1_graph.specs.declared.graph.Edge.{Edge}
use Rattle.if1_graph.specs.declared.graph.Graph.{Graph}
use Rattle.if1_graph.specs.declared.graph.Graph.TheViews.{out-Graph}
use Rattle.if1_graph.specs.declared.graph.Origin.{Origin}
use Rattle.if1_graph.specs.declared.graph.Origin.TheVariants.{Port, Lit}
use Rattle.if1_graph.specs.declared.graph.Unit1.{Unit1}
use Rattle.if1_graph.specs.Ports.{leaves}
use Rattle.if1_graph.specs.Units.{Place, places}
use Rattle.if1_marks.specs.Owned.{leaving, is_owned}
use Rattle.if1_marks.specs.Orders.{Precedes, between, ComesBefore, led, at_the_end, IsOrderRight}
use Rattle.if1_marks.specs.Sound.{IsTakerRight, AreMarksRight}
use Rattle.if1_marks.specs.Laws.{IsTakenOnce, IsTakerLast, IsTakenAlone, IsSoundInOrder}
use Rattle.if1_marks.proofs.Lists.{in-filter}
use Rattle.if1_marks.proofs.Tests.{same-number, both, one-only}

pub itself : (l port : ℕ) → leaves l port (Port l port) ≡ true
itself l port = both (l == l) (port == port) (eq-eqb l l refl) (eq-eqb port port refl)

-- an edge from an owned port is among those that leave it
pub in-leaving : (u : Unit1) (p : Place) (o : Origin) (f : Edge) → is_owned u p o ≡ true → Contains (out-Graph p.graph).edges f → f.from ≡ o → Contains (leaving p.graph o) f
in-leaving u p (Port l port) f own h e = in-filter (λ e. leaves l port e.from) (out-Graph p.graph).edges f h (ap (leaves l port) e ∙ itself l port)
in-leaving u p (Lit text) f own h e = absurd cc

pub another : (a b : ℕ) → a ≢ b → not (a == b) ≡ true
another a b ne = go (a == b) refl
  where
    go : (x : Bool) → (a == b) ≡ x → not x ≡ true
    go true e = absurd (ne (same-number a b e))
    go false e = refl

before-node : {g : Graph} {l m : ℕ} → m ≢ 0 → ComesBefore g l m → Precedes g l m
before-node ne (led p) = p
before-node ne (at_the_end x) = absurd (ne refl)

module _ (u : Unit1) (p : Place) (marks : AreMarksRight u p) (e : Edge) (there : Contains (out-Graph p.graph).edges e) (takes : e.takes ≡ true) where
  right : IsTakerRight u p e
  right = All-contains (λ e. e.takes ≡ true → IsTakerRight u p e) (out-Graph p.graph).edges e marks.takers there takes

  abbrev fellows : List Edge
  fellows = leaving p.graph e.from

  fellow : (f : Edge) → Contains (out-Graph p.graph).edges f → f.from ≡ e.from → Contains fellows f
  fellow f h same = in-leaving u p e.from f right.may.1 h same

  once : (f : Edge) → Contains (out-Graph p.graph).edges f → f.takes ≡ true → f.from ≡ e.from → f ≡ e
  once f h also same =
      one-only _ f e right.alone (in-filter (λ f. f.takes) fellows f (fellow f h same) also) (in-filter (λ f. f.takes) fellows e (fellow e there refl) takes)

  alone : (f : Edge) → Contains (out-Graph p.graph).edges f → f.from ≡ e.from → f.node ≡ e.node → f ≡ e
  alone f h same node =
      one-only _ f e right.once (in-filter (λ f. f.node == e.node) fellows f (fellow f h same) (eq-eqb f.node e.node node))
      (in-filter (λ f. f.node == e.node) fellows e (fellow e there refl) (eq-eqb e.node e.node refl))

  last : (f : Edge) → Contains (out-Graph p.graph).edges f → f.from ≡ e.from → f ≢ e → e.node ≢ 0 → Precedes p.graph f.node e.node
  last f h same other ne =
      before-node ne (All-contains (λ f. ComesBefore p.graph f.node e.node) _ f right.last
      (in-filter (λ f. not (f.node == e.node)) fellows f (fellow f h same) (another f.node e.node (λ node. other (alone f h same node)))))

pub taken-once : IsTakenOnce
taken-once u p e f sound h a b takes also same = once u p (All-contains (AreMarksRight u) (places u) p sound h) e a takes f b also same

pub taken-alone : IsTakenAlone
taken-alone u p e f sound h a b takes same node = alone u p (All-contains (AreMarksRight u) (places u) p sound h) e a takes f b same node

pub taker-last : IsTakerLast
taker-last u p e f sound h a b takes same other ne =
    let marks = All-contains (AreMarksRight u) (places u) p sound h in
    let before = last u p marks e a takes f b same other ne in
    (before, λ after. marks.order.acyclic f.node (between before after))

pub sound-in-order : IsSoundInOrder
sound-in-order u sound = All-weaker (AreMarksRight u) IsOrderRight (λ p m. m.order) (places u) sound
