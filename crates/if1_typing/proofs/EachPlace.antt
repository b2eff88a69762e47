-- The graphs inside graphs, with where each stands, are the places of a unit.
use Rattle.std.proofs.Common.{◌≡◌, ℕ, zero, suc, ◌==◌, ◌++◌, map, get_or, Some, None, Option, MatchOption, All, Contains, ◌⊎◌, inl, inr, refl, sym, subst, eqb-true}
use Rattle.std.proofs.lemmas.List.Elements.{All-contains, Contains-get_or, Contains-append_right}
use Rattle.if1_graph.specs.declared.graph.Graph.{Graph}
use Rattle.if1_graph.specs.declared.graph.Graph.TheViews.{out-Graph}
use Rattle.if1_graph.specs.declared.graph.Node.{Node}
use Rattle.if1_graph.specs.declared.graph.Edge.{Edge}
use Rattle.if1_graph.specs.declared.graph.Unit1.{Unit1}
use Rattle.if1_graph.specs.Units.{label_of, node_at, ends, Home, Function, Inside, Place, places}
use Rattle.if1_graph.specs.Formed.{IsFormed}
use Rattle.if1_graph.specs.Normal.{IsNormal}
use Rattle.if1_graph.specs.Ports.{IsEndFilled, ArePortsRight}
use Rattle.if1_graph.specs.Typing.{AreTypesRight}
use Rattle.if1_graph.specs.Ready.{PortsHold, TypesHold, BreaksTypes}
use Rattle.if1_order.specs.Within.{IsWithin, IsPart, whole}
use Rattle.if1_order.specs.Within as within
use Rattle.if1_order.proofs.Members.{contains_there, contains_got, got_contained, mapped_contains, found_in}
use Rattle.if1_order.proofs.Within.{within_from_unit, unit_from_within, within_from_part}
use Rattle.if1_ports.specs.Inside.{InOrderInside}
use Rattle.if1_ports.proofs.EachPlace.{all_in_order}
use Rattle.if1_ports.proofs.Walks.{nodes_in_order}
use Rattle.if1_typing.specs.Tables.{Table, Tells}
use Rattle.if1_typing.specs.Sites.{Around}
use Rattle.if1_typing.specs.Ends.{IsWrong, FindsWrong}
use Rattle.if1_typing.specs.Inside.{IsInside, itself, deeper, function_around, AreLaid, AllRight, FunctionsRight, FunctionsWrong}
use Rattle.if1_typing.proofs.Sited.{around_of}
use Rattle.if1_typing.proofs.Agreeing.{right_end, wrong_end}

abbrev own : Home → Graph → Place
own home g = record { graph = g; home = home }

-- ---- graphs whose ports are right

part_of_part : {g h q : Graph} → IsPart g h → IsPart h q → IsPart g q
part_of_part whole w = w
part_of_part (within.deeper n c i v) w = within.deeper n c i (part_of_part v w)

end_there : (u : Unit1) (p : Place) (l : ℕ) (m : Option Node) → node_at (out-Graph p.graph).nodes l ≡ m → IsEndFilled u p l m →
    (l ≡ 0) ⊎ Contains (map label_of (out-Graph p.graph).nodes) l
end_there u p l (Some n) e f =
    let r = found_in (λ n. label_of n == l) (out-Graph p.graph).nodes n e in
    inr (subst (λ z. Contains (map label_of (out-Graph p.graph).nodes) z) (eqb-true (label_of n) l r.1) (mapped_contains label_of (out-Graph p.graph).nodes n r.0))
end_there u p zero None e f = inl refl
end_there u p (suc l) None e f = absurd f

edges_lead : (u : Unit1) (p : Place) → All (ArePortsRight u p) (ends p.graph) →
    All (λ e. (e.node ≡ 0) ⊎ Contains (map label_of (out-Graph p.graph).nodes) e.node) (out-Graph p.graph).edges
edges_lead u p right k d b =
    let es = (out-Graph p.graph).edges in
    let e = get_or es k d in
    let at : Contains (ends p.graph) e.node =
    contains_there 0 (map label_of (out-Graph p.graph).nodes ++ map (λ (e : Edge). e.node) es) e.node
    (Contains-append_right (map label_of (out-Graph p.graph).nodes) (map (λ (e : Edge). e.node) es) e.node
    (mapped_contains (λ (e : Edge). e.node) es e (Contains-get_or es k d b))) in
    end_there u p e.node (node_at (out-Graph p.graph).nodes e.node) refl (All-contains (ArePortsRight u p) (ends p.graph) e.node right at).filled

pub all_laid : (u : Unit1) → IsFormed u → IsNormal u → PortsHold u → AreLaid u.graphs
all_laid u formed normal ports g c h w =
    let at = got_contained u.graphs g c in
    let r = within_from_part w (Function at.0) in
    let there = unit_from_within u at.0 g r.0 formed.nesting at.1 r.1 in
    let right = All-contains (λ p. All (ArePortsRight u p) (ends p.graph)) (places u) r.0 ports there in
    let inside : InOrderInside h = λ q v. all_in_order u formed normal g c q (part_of_part w v) in
    record {
      order = all_in_order u formed normal g c h w;
      inside = nodes_in_order h inside;
      leads =
          subst (λ h. All (λ (e : Edge). (e.node ≡ 0) ⊎ Contains (map label_of (out-Graph h).nodes) e.node) (out-Graph h).edges) r.2
          (edges_lead u r.0 right);
    }

-- ---- places

module _ (t : Table) where
  inside_from_within : {home : Home} {g : Graph} {p : Place} → IsWithin home g p → IsInside t (around_of t g home) g (around_of t p.graph p.home) p.graph
  inside_from_within within.itself = itself
  inside_from_within (within.inside n k c e w) = deeper n k c e (inside_from_within w)

  within_from_inside : {a d : Around} {g h : Graph} → IsInside t a g d h → (home : Home) → a ≡ around_of t g home →
      (p : Place) × IsWithin home g p × (p.graph ≡ h) × (around_of t p.graph p.home ≡ d)
  within_from_inside {g = g} itself home f = (own home g, within.itself, refl, sym f)
  within_from_inside {g = g} (deeper n k c e i) home f =
      let r = within_from_inside i (Inside g n k) refl in (r.0, within.inside n k c e r.1, r.2, r.3)

-- ---- a unit

module _ (u : Unit1) (t : Table) (tells : Tells u.types u.graphs t) where
  right_place : (p : Place) → FindsWrong t (around_of t p.graph p.home) p.graph None → All (AreTypesRight u p) (ends p.graph)
  right_place p (right, agreed) k d b = right_end u t tells p (get_or (ends p.graph) k d) (right k d b) agreed

  pub right_unit : FunctionsRight t u.graphs → TypesHold u
  right_unit right k d h =
      let p = get_or (places u) k d in
      let r = within_from_unit u p (Contains-get_or (places u) k d h) in
      let there = contains_got u.graphs r.0 r.1 r.2 in
      let all = All-contains (λ g. AllRight t (function_around t g) g) u.graphs r.1 right there in
      right_place p (all (around_of t p.graph p.home) p.graph (inside_from_within t r.3))

  pub wrong_unit : IsFormed u → (at : ℕ × ℕ) → FunctionsWrong t u.graphs at → BreaksTypes u at.0 at.1
  wrong_unit formed at (g, there, (d, h, i, number, end, wrong)) =
      let k = got_contained u.graphs g there in
      let r = within_from_inside t i (Function k.0) refl in
      let here : IsWrong t (around_of t r.0.graph r.0.home) r.0.graph at.1 =
      subst (λ h. IsWrong t (around_of t r.0.graph r.0.home) h at.1) (sym r.2) (subst (λ d. IsWrong t d h at.1) (sym r.3) wrong) in (
        r.0,
        unit_from_within u k.0 g r.0 formed.nesting k.1 r.1,
        subst (λ h. (out-Graph h).number ≡ at.0) (sym r.2) number,
        subst (λ h. Contains (ends h) at.1) (sym r.2) end,
        wrong_end u t tells r.0 at.1 here,
      )

  pub found_unit : IsFormed u → (r : Option (ℕ × ℕ)) → MatchOption r (FunctionsRight t u.graphs) (FunctionsWrong t u.graphs) →
      MatchOption r (TypesHold u) (λ at. BreaksTypes u at.0 at.1)
  found_unit formed None h = right_unit h
  found_unit formed (Some at) h = wrong_unit formed at h
