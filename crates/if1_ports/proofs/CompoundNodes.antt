-- The tests of the ports of compound nodes decide the rules, and the numbers around a node give the bounds of its graphs.
use Rattle.std.proofs.Common.{◌≡◌, ◌↔◌, ℕ, ◌<◌, ◌≤◌, Bool, true, ◌&&◌, ◌==◌, nat_le, nat_lt, List, length, All, Option, Some, None, option_map, unwrap_or, Decides, AllPairs, refl, sym, ap, ◌∙◌, leb-true, le-leb}
use Rattle.std.specs.Prelude.{IsTrue}
use Rattle.std.specs.List.{list_all}
use Rattle.std.proofs.lemmas.Bool.{and_parts, and_from}
use Rattle.std.proofs.lemmas.Bool.Decides.{same_from_decides, Decides-at, Decides-and, Decides-eqb, Decides-ltb, Decides-by_and}
use Rattle.if1_graph.specs.declared.graph.Graph.{Graph}
use Rattle.if1_graph.specs.declared.graph.Graph.TheViews.{out-Graph}
use Rattle.if1_graph.specs.declared.graph.Node.{Node, out-Node}
use Rattle.if1_graph.specs.declared.graph.Unit1.{Unit1}
use Rattle.if1_graph.specs.declared.op.Compound.{Compound}
use Rattle.if1_graph.specs.declared.op.Compound.TheVariants as compound
use Rattle.if1_graph.specs.declared.op.Part.{Part}
use Rattle.if1_graph.specs.declared.op.Part.TheVariants as part
use Rattle.if1_graph.specs.Tables.{◌>>=◌}
use Rattle.if1_graph.specs.Ops.{compound_at}
use Rattle.if1_graph.specs.Parts.{HasParts, part_at}
use Rattle.if1_graph.specs.Types.{Member, sort_at}
use Rattle.if1_graph.specs.Units.{label_of, ports_into, width, results, Function, Inside, Place}
use Rattle.if1_graph.specs.Normal.{Precedes}
use Rattle.if1_graph.specs.Ports.{IsAssociation, least_width, IsCompoundFilled, tags_of, carried, part_inputs, part_results, inputs, wanted_results}
use Rattle.if1_ports.specs.declared.around.Bounds.{Bounds}
use Rattle.if1_ports.specs.Outlines.{tags_in}
use Rattle.if1_ports.specs.Simple.{at_least}
use Rattle.if1_ports.specs.Compound.{counts_parts, fits_tags, is_associated, is_compound_filled, around_of, inputs_in, bounds_as, bounds_at}
use Rattle.if1_ports.specs.Compound as spec
use Rattle.if1_ports.specs.Ends.{fed_at}
use Rattle.if1_ports.specs.Inside.{bounds_in, function_bounds}
use Rattle.if1_ports.proofs.Counts.{decides_at_least, decides_list}
use Rattle.if1_ports.proofs.Edges.{ports_up}
use Rattle.if1_ports.proofs.Known.{types_by, callees_by, arguments_known, results_known, tags_known, carries_is}

-- ---- a node

at_least_n : (k n : ℕ) → Decides (nat_le k n) (k ≤ n)
at_least_n k n = (λ h. leb-true k n h, λ h. le-leb k n h)

parts_counted : (c : Compound) (n : ℕ) → Decides (counts_parts c n) (HasParts c n)
parts_counted compound.ForAll n = Decides-eqb n 3
parts_counted compound.Select n = at_least_n 2 n
parts_counted compound.TagCase n = at_least_n 1 n
parts_counted compound.LoopA n = Decides-eqb n 4
parts_counted compound.LoopB n = Decides-eqb n 4

pub parts_as : (b : Bool) (c : Compound) (n : ℕ) → IsTrue b ↔ HasParts c n → b ≡ counts_parts c n
parts_as b c n is = same_from_decides b (counts_parts c n) is (parts_counted c n)

arms : (parts : ℕ) (list : List ℕ) → Decides (list_all (λ arm. nat_lt arm parts) list) (All (λ arm. arm < parts) list)
arms parts list =
    Decides-by_and (λ arm. nat_lt arm parts) (λ arm. arm < parts) (list_all (λ arm. nat_lt arm parts)) (λ arm. Decides-ltb arm parts) refl (λ _ _. refl) list

associated : (c : Compound) (tags : Option (List Member)) (parts : ℕ) (list : List ℕ) →
    Decides (is_associated c (option_map length tags) parts list) (IsAssociation c tags parts list)
associated compound.TagCase (Some tags) parts list =
    Decides-and (list_all (λ arm. nat_lt arm parts) list) (length list == length tags) (arms parts list) (Decides-eqb (length list) (length tags))
associated compound.TagCase None parts list =
    let d = arms parts list in
    (λ h. d.0 (and_parts (list_all (λ arm. nat_lt arm parts) list) true h).0, λ a. and_from (list_all (λ arm. nat_lt arm parts) list) true (d.1 a) refl)
associated compound.ForAll tags parts list = decides_list 0 parts list
associated compound.Select tags parts list = decides_list 0 parts list
associated compound.LoopA tags parts list = decides_list 0 parts list
associated compound.LoopB tags parts list = decides_list 0 parts list

pub compound_filled : (u : Unit1) (g : Graph) (n : Node) (c : Compound) → AllPairs Precedes (out-Graph g).edges →
    Decides (is_compound_filled (fed_at (types_by u) (callees_by u) g (label_of n)) c (length (out-Node n).subs) (out-Node n).assoc)
    (IsCompoundFilled u g n c)
compound_filled u g n c order =
    let l = label_of n in
    let f = fed_at (types_by u) (callees_by u) g l in
    let parts = length (out-Node n).subs in
    let list = (out-Node n).assoc in
    let a = counts_parts c parts in
    let b = at_least f (least_width c) in
    let d = is_associated c (tags_in f.carries) parts list in
    let da = parts_counted c parts in
    let db = decides_at_least (ports_into g l) (least_width c) (ports_up g l order) in
    let dd =
    Decides-at d (is_associated c (option_map length (tags_of (carried u g l 1))) parts list)
    (ap (λ o. is_associated c (tags_in o) parts list) (carries_is u g l)
    ∙ ap (λ t. is_associated c t parts list) (sym (tags_known (carried u g l 1))))
    (associated c (tags_of (carried u g l 1)) parts list) in (
      λ h.
          let two = and_parts (a && b) d h in
          let one = and_parts a b two.0 in
          record { parts = da.0 one.0; ports = db.0 one.1; list = dd.0 two.1 },
      λ s. and_from (a && b) d (and_from a b (da.1 s.parts) (db.1 s.ports)) (dd.1 s.list),
    )

-- ---- the graphs in a node

inputs_same : (c : Compound) (p : Part) (w : ℕ) (gs : List Graph) → inputs_in (around_of c w gs) p ≡ part_inputs c p w gs
inputs_same c part.Test w gs = refl
inputs_same c part.Body w gs = refl
inputs_same compound.ForAll part.Returns w gs = refl
inputs_same compound.Select part.Returns w gs = refl
inputs_same compound.TagCase part.Returns w gs = refl
inputs_same compound.LoopA part.Returns w gs = refl
inputs_same compound.LoopB part.Returns w gs = refl
inputs_same c part.Selector w gs = refl
inputs_same c part.Alternative w gs = refl
inputs_same c part.Arm w gs = refl
inputs_same c part.Generator w gs = refl
inputs_same c part.Initialization w gs = refl

results_same : (c : Compound) (p : Part) (w : ℕ) (gs : List Graph) (own : ℕ) → spec.results_in (around_of c w gs) p own ≡ part_results c p gs own
results_same c part.Selector w gs own = refl
results_same c part.Test w gs own = refl
results_same c part.Alternative w gs own = refl
results_same c part.Arm w gs own = refl
results_same c part.Generator w gs own = refl
results_same compound.ForAll part.Body w gs own = refl
results_same compound.Select part.Body w gs own = refl
results_same compound.TagCase part.Body w gs own = refl
results_same compound.LoopA part.Body w gs own = refl
results_same compound.LoopB part.Body w gs own = refl
results_same c part.Initialization w gs own = refl
results_same c part.Returns w gs own = refl

-- these bounds are those of the graph at its place
pub record Fits (u : Unit1) (p : Place) (b : Bounds) : Type 0 where
  pub inputs : b.inputs ≡ inputs u p
  pub results : b.results ≡ wanted_results u p

pub function_fits : (u : Unit1) (k : ℕ) (g : Graph) → Fits u (record { graph = g; home = Function k }) (function_bounds (types_by u) g)
function_fits u k g = record {
  inputs = sym (arguments_known (sort_at u.types (out-Graph g).fun));
  results = ap (λ o. unwrap_or o (results g)) (sym (results_known (sort_at u.types (out-Graph g).fun)));
}

abbrev Tells : Option (Compound × Part) → ℕ → List Graph → ℕ → Bounds → Type 0
Tells cp w gs own b =
    (b.inputs ≡ option_map (λ cp. part_inputs cp.0 cp.1 w gs) cp)
    × (b.results ≡ unwrap_or (option_map (λ cp. part_results cp.0 cp.1 gs own) cp) own)

part_tells : (c : Compound) (p : Option Part) (w : ℕ) (gs : List Graph) (own : ℕ) →
    Tells (p >>= λ p. Some (c, p)) w gs own (bounds_as (around_of c w gs) p own)
part_tells c None w gs own = (refl, refl)
part_tells c (Some p) w gs own = (ap Some (inputs_same c p w gs), results_same c p w gs own)

node_tells : (c : Option Compound) (k w : ℕ) (gs : List Graph) (own : ℕ) →
    Tells (c >>= λ c. part_at c k >>= λ p. Some (c, p)) w gs own (bounds_at (option_map (λ c. around_of c w gs) c) k own)
node_tells None k w gs own = (refl, refl)
node_tells (Some c) k w gs own = part_tells c (part_at c k) w gs own

pub part_fits : (u : Unit1) (outer : Graph) (n : Node) (k : ℕ) (s : Graph) →
    Fits u (record { graph = s; home = Inside outer n k }) (bounds_in outer n k s)
part_fits u outer n k s =
    let t = node_tells (compound_at (out-Node n).op) k (width outer (label_of n)) (out-Node n).subs (results s) in
    record { inputs = t.0; results = t.1 }
