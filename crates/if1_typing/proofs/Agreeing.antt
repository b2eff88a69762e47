-- What edges from one port carry, and the rule of a node or boundary as a whole.
use Rattle.std.proofs.Common.{◌≡◌, ◌≢◌, ℕ, zero, suc, true, false, ◌==◌, Contains, ◌⊎◌, inl, inr, get_or, refl, sym, ap, ◌∙◌, subst, eqb-true, eq-eqb}
use Rattle.std.proofs.lemmas.Bool.{both_ways, and_parts, and_from}
use Rattle.std.proofs.lemmas.List.Elements.{All-contains, Contains-get_or}
use Rattle.if1_graph.specs.declared.graph.Graph.{Graph}
use Rattle.if1_graph.specs.declared.graph.Graph.TheViews.{out-Graph}
use Rattle.if1_graph.specs.declared.graph.Edge.{Edge}
use Rattle.if1_graph.specs.declared.graph.Origin.{Origin}
use Rattle.if1_graph.specs.declared.graph.Origin.TheVariants.{Port, Lit}
use Rattle.if1_graph.specs.declared.graph.Unit1.{Unit1}
use Rattle.if1_graph.specs.Types.{sort_at}
use Rattle.if1_graph.specs.Units.{edges_into, Place}
use Rattle.if1_graph.specs.Ports.{leaves, edges_from}
use Rattle.if1_graph.specs.Typing.{AgreesWith, AreTypesRight}
use Rattle.if1_order.proofs.Members.{filter_contains}
use Rattle.if1_typing.specs.Tables.{Table, Tells, number}
use Rattle.if1_typing.specs.Ends.{is_right}
use Rattle.if1_typing.specs.Agree.{AreAgreed, Disagrees}
use Rattle.if1_typing.proofs.Ports.{filter_kept}
use Rattle.if1_typing.proofs.Sited.{around_of}
use Rattle.if1_typing.proofs.EachEnd.{right_decided}

-- which edges leave a port
port_left : (l port : ℕ) (o : Origin) → leaves l port o ≡ true → o ≡ Port l port
port_left l port (Port node out) h =
    let both = and_parts (node == l) (out == port) h in
    ap (λ n. Port n out) (eqb-true node l both.0) ∙ ap (Port l) (eqb-true out port both.1)
port_left l port (Lit text) h = absurd cc

left_port : (l port : ℕ) (o : Origin) → o ≡ Port l port → leaves l port o ≡ true
left_port l port o e = ap (leaves l port) e ∙ and_from (l == l) (port == port) (eq-eqb l l refl) (eq-eqb port port refl)

module _ (u : Unit1) (t : Table) (tells : Tells u.types u.graphs t) where
  agreed_at : (g : Graph) (e : Edge) (from : Origin) → e.from ≡ from → Contains (out-Graph g).edges e → AreAgreed t (out-Graph g).edges → AgreesWith u g e from
  agreed_at g e (Port zero port) is there agreed = tt
  agreed_at g e (Lit text) is there agreed = tt
  agreed_at g e (Port (suc l) port) is there agreed = λ k d b.
      let es = edges_from g (suc l) port in
      let f = get_or es k d in
      let r = filter_kept (λ (e : Edge). leaves (suc l) port e.from) (out-Graph g).edges f (Contains-get_or es k d b) in
      (tells.sorts.same f.ty e.ty).0
      (agreed f e l port (record { there = r.0; from = port_left (suc l) port f.from r.1 }) (record { there = there; from = is }))

  pub right_end : (p : Place) (l : ℕ) → is_right t (around_of t p.graph p.home) p.graph l ≡ true → AreAgreed t (out-Graph p.graph).edges → AreTypesRight u p l
  right_end p l right agreed =
      let both = (right_decided u t tells p l).0 right in
      record {
        place = both.0;
        edges = both.1;
        agree = λ k d b.
            let es = edges_into p.graph l in
            let e = get_or es k d in
            let r = filter_kept (λ (e : Edge). e.node == l) (out-Graph p.graph).edges e (Contains-get_or es k d b) in
            agreed_at p.graph e e.from refl r.0 agreed;
      }

  differ_at : (g : Graph) (e f : Edge) (l port : ℕ) → f.from ≡ Port (suc l) port → Contains (out-Graph g).edges f → number t e.ty ≢ number t f.ty →
      (from : Origin) → from ≡ Port (suc l) port → AgreesWith u g e from → ⊥
  differ_at g e f l port is there differ from same agrees =
      let all : AgreesWith u g e (Port (suc l) port) = subst (λ from. AgreesWith u g e from) same agrees in
      let into = filter_contains (λ (e : Edge). leaves (suc l) port e.from) (out-Graph g).edges f there (left_port (suc l) port f.from is) in
      let sorts = All-contains (λ (other : Edge). sort_at u.types other.ty ≡ sort_at u.types e.ty) (edges_from g (suc l) port) f all into in
      differ (sym ((tells.sorts.same f.ty e.ty).1 sorts))

  pub wrong_end : (p : Place) (l : ℕ) → (is_right t (around_of t p.graph p.home) p.graph l ≡ false) ⊎ Disagrees t (out-Graph p.graph).edges l → AreTypesRight u p l → ⊥
  wrong_end p l (inl wrong) right =
      both_ways (is_right t (around_of t p.graph p.home) p.graph l) wrong ((right_decided u t tells p l).1 (right.place, right.edges))
  wrong_end p l (inr d) right =
      let e = d.one in
      let into = filter_contains (λ (e : Edge). e.node == l) (out-Graph p.graph).edges e d.leaves.there (eq-eqb e.node l d.leads) in
      differ_at p.graph e d.other d.l d.port d.leaves_too.from d.leaves_too.there d.differ e.from d.leaves.from
      (All-contains (λ (e : Edge). AgreesWith u p.graph e e.from) (edges_into p.graph l) e right.agree into)
