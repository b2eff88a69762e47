-- The graphs inside graphs, with their bounds, are the places of a unit.
use Rattle.std.proofs.Common.{◌≡◌, ℕ, ◌≤◌, true, false, get_or, Some, None, Option, MatchOption, Contains, refl, sym, subst}
use Rattle.std.proofs.lemmas.Bool.{both_ways}
use Rattle.std.proofs.lemmas.List.Elements.{All-contains, All-weaker, Contains-get_or}
use Rattle.if1_graph.specs.declared.graph.Graph.{Graph}
use Rattle.if1_graph.specs.declared.graph.Graph.TheViews.{out-Graph}
use Rattle.if1_graph.specs.declared.graph.Unit1.{Unit1}
use Rattle.if1_graph.specs.Units.{label_of, ends, Home, Function, Inside, Place, places}
use Rattle.if1_graph.specs.Formed.{IsFormed, IsGraph, IsNode}
use Rattle.if1_graph.specs.Normal.{IsNormal, IsNormalGraph}
use Rattle.if1_graph.specs.Ports.{ArePortsRight}
use Rattle.if1_graph.specs.Ready.{PortsHold, BreaksPorts}
use Rattle.if1_order.specs.Within.{IsWithin, IsPart}
use Rattle.if1_order.specs.Within as within
use Rattle.if1_order.proofs.Members.{contains_got, got_contained}
use Rattle.if1_order.proofs.Within.{within_from_unit, unit_from_within, part_from_within, within_from_part}
use Rattle.if1_ports.specs.declared.around.Bounds.{Bounds}
use Rattle.if1_ports.specs.Fed.{Types, Callees}
use Rattle.if1_ports.specs.Ends.{IsInOrder, is_right}
use Rattle.if1_ports.specs.Inside.{IsInside, itself, deeper, bounds_in, function_bounds, AreInOrder, AllRight, FunctionsRight, FunctionsWrong}
use Rattle.if1_ports.proofs.Known.{types_by, callees_by}
use Rattle.if1_ports.proofs.CompoundNodes.{Fits, function_fits, part_fits}
use Rattle.if1_ports.proofs.EachEnd.{decides_right}

abbrev own : Home → Graph → Place
own home g = record { graph = g; home = home }

-- ---- with bounds

module _ (u : Unit1) where
  inside_from_within : {home : Home} {g : Graph} {p : Place} → IsWithin home g p → (b : Bounds) → Fits u (own home g) b →
      (d : Bounds) × IsInside b g d p.graph × Fits u p d
  inside_from_within within.itself b f = (b, itself, f)
  inside_from_within {g = g} (within.inside {s = s} n k c e w) b f =
      let r = inside_from_within w (bounds_in g n k s) (part_fits u g n k s) in (r.0, deeper n k c e r.1, r.2)

  within_from_inside : {b d : Bounds} {g h : Graph} → IsInside b g d h → (home : Home) → Fits u (own home g) b →
      (p : Place) × IsWithin home g p × (p.graph ≡ h) × Fits u p d
  within_from_inside {g = g} itself home f = (own home g, within.itself, refl, f)
  within_from_inside {g = g} (deeper {s = s} n k c e i) home f =
      let r = within_from_inside i (Inside g n k) (part_fits u g n k s) in (r.0, within.inside n k c e r.1, r.2, r.3)

  -- ---- order

  place_in_order : (p : Place) → IsFormed u → IsNormal u → Contains (places u) p → IsInOrder p.graph
  place_in_order p formed normal h =
      let a = All-contains (IsGraph u) (places u) p formed.graphs h in
      let b = All-contains (IsNormalGraph u) (places u) p normal h in
      record {
        rising = b.nodes;
        labels = All-weaker IsNode (λ n. 1 ≤ label_of n) (λ n i. i.label.0) (out-Graph p.graph).nodes a.nodes;
        edges = b.edges;
      }

  pub all_in_order : IsFormed u → IsNormal u → AreInOrder u.graphs
  all_in_order formed normal g c h w =
      let at = got_contained u.graphs g c in
      let r = within_from_part w (Function at.0) in
      subst IsInOrder r.2 (place_in_order r.0 formed normal (unit_from_within u at.0 g r.0 formed.nesting at.1 r.1))

  -- ---- a unit

  abbrev o : Types
  o = types_by u

  abbrev c : Callees
  c = callees_by u

  pub right_unit : AreInOrder u.graphs → FunctionsRight o c u.graphs → PortsHold u
  right_unit order right k d h =
      let p = get_or (places u) k d in
      let r = within_from_unit u p (Contains-get_or (places u) k d h) in
      let there = contains_got u.graphs r.0 r.1 r.2 in
      let all = All-contains (λ g. AllRight o c (function_bounds o g) g) u.graphs r.1 right there in
      let i = inside_from_within r.3 (function_bounds o r.1) (function_fits u r.0 r.1) in
      let edges = (order r.1 there p.graph (part_from_within r.3)).edges in
      All-weaker (λ l. is_right o c i.0 p.graph l ≡ true) (ArePortsRight u p) (λ l h. (decides_right u p i.0 i.2 edges l).0 h) (ends p.graph)
      (all i.0 p.graph i.1)

  pub wrong_unit : IsFormed u → AreInOrder u.graphs → (at : ℕ × ℕ) → FunctionsWrong o c u.graphs at → BreaksPorts u at.0 at.1
  wrong_unit formed order at (g, there, (d, h, i, number, end, wrong)) =
      let k = got_contained u.graphs g there in
      let r = within_from_inside i (Function k.0) (function_fits u k.0 g) in
      let edges = (order g there r.0.graph (part_from_within r.1)).edges in (
        r.0,
        unit_from_within u k.0 g r.0 formed.nesting k.1 r.1,
        subst (λ h. (out-Graph h).number ≡ at.0) (sym r.2) number,
        subst (λ h. Contains (ends h) at.1) (sym r.2) end,
        λ right.
            both_ways (is_right o c d r.0.graph at.1) (subst (λ h. is_right o c d h at.1 ≡ false) (sym r.2) wrong)
            ((decides_right u r.0 d r.3 edges at.1).1 right),
      )

  pub found_unit : (t : Types) (d : Callees) → t ≡ o → d ≡ c → IsFormed u → IsNormal u → (r : Option (ℕ × ℕ)) →
      MatchOption r (FunctionsRight t d u.graphs) (FunctionsWrong t d u.graphs) →
      MatchOption r (PortsHold u) (λ at. BreaksPorts u at.0 at.1)
  found_unit t d e f formed normal r h =
      by r
      (subst (λ d. MatchOption r (FunctionsRight o d u.graphs) (FunctionsWrong o d u.graphs)) f
      (subst (λ t. MatchOption r (FunctionsRight t d u.graphs) (FunctionsWrong t d u.graphs)) e h))
    where
      by : (r : Option (ℕ × ℕ)) → MatchOption r (FunctionsRight o c u.graphs) (FunctionsWrong o c u.graphs) → MatchOption r (PortsHold u) (λ at. BreaksPorts u at.0 at.1)
      by None h = right_unit (all_in_order formed normal) h
      by (Some at) h = wrong_unit formed (all_in_order formed normal) at h
