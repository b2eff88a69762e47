-- Nodes and edges without a fault have a graph.
use Rattle.std.proofs.Common.{◌≡◌, ℕ, Bool, List, [], map, refl, sym, ap, subst, ◌∙◌}
use Rattle.std.specs.Prelude.{All}
use Rattle.std.specs.List.Sorted.{IsStrictlyIncreasing, IsPermutation}
use Rattle.std.proofs.lemmas.List.Sorted.{All-permutation}
use Rattle.if1_graph.specs.declared.graph.Graph.{Graph}
use Rattle.if1_graph.specs.declared.graph.Graph.TheViews.{out-Graph, roll-Graph, out-roll-Graph}
use Rattle.if1_graph.specs.declared.graph.Graph.TheOpen.{Graph-F}
use Rattle.if1_graph.specs.declared.graph.Node.{Node}
use Rattle.if1_graph.specs.declared.graph.Edge.{Edge}
use Rattle.if1_graph.specs.Units.{label_of}
use Rattle.if1_graph.specs.Formed.{IsOnce}
use Rattle.if1_graph.specs.Reads.{AreNodes}
use Rattle.if1_read.specs.declared.judge.Known.{Known}
use Rattle.if1_read.specs.Made.{edge_place, IsEdgeMade}
use Rattle.if1_read.specs.Pages.{Page, again, wrong_lits, page_faults}
use Rattle.if1_read.specs.Rulings.{rules_of}
use Rattle.if1_read.specs.Sheets.{marks_of}
use Rattle.if1_read.proofs.Ending.{canon, IsRight}
use Rattle.if1_read.proofs.Filled.{ports_kept}
use Rattle.if1_read.proofs.Fitting.{map_twice}
use Rattle.if1_given.proofs.Sorting.{sorted, stays, arranged, in_order, strictly}
use Rattle.if1_given.proofs.Clean.{no_first, no_second}
use Rattle.if1_given.proofs.Tables.{once_each}
use Rattle.if1_given.proofs.Literals.{IsPageOf, edges_right}
use Rattle.if1_given.proofs.Ended.{Ends}

pub record HasEnded (k : Known) (exported : Bool) (fun : ℕ) (name : List ℕ) (ns : List Node) (es : List Edge) : Type 0 where
  pub graph : Graph
  pub ends : Ends k exported fun name ns es graph

abbrev number_of : ℕ × ℕ → ℕ
number_of n = n.0

module _ (k : Known) (ns : List Node) (es : List Edge) (p : Page) (page : IsPageOf p ns es) (clean : page_faults (rules_of k) p ≡ []) where
  labels : map (λ n. number_of n.1) p.nodes ≡ map label_of ns
  labels =
      map_twice number_of (λ (n : ℕ × (ℕ × ℕ)). n.1) p.nodes
      ∙ ap (map number_of) page.nodes
      ∙ sym (map_twice number_of marks_of ns)

  labels_once : IsOnce (map label_of ns)
  labels_once =
      subst IsOnce labels
      (once_each number_of [] p.nodes (no_first (again number_of [] p.nodes) (wrong_lits (rules_of k) (map (λ n. n.1) p.nodes) p.lits) clean))

  literals_clean : wrong_lits (rules_of k) (map (λ n. n.1) p.nodes) p.lits ≡ []
  literals_clean = no_second (again number_of [] p.nodes) (wrong_lits (rules_of k) (map (λ n. n.1) p.nodes) p.lits) clean

  abbrev ms : List Node
  ms = sorted label_of ns

  abbrev fs : List Edge
  fs = sorted edge_place es

  pub ended : (exported : Bool) (fun : ℕ) (name : List ℕ) → All (IsEdgeMade k) es → HasEnded k exported fun name ns es
  ended exported fun name made =
      let x : Graph-F Graph Node = record { number = 0; exported = exported; name = name; fun = fun; nodes = ms; edges = map (canon k ms) fs } in
      let g = roll-Graph x in
      let is : x ≡ out-Graph g = sym (out-roll-Graph x) in
      let edges = arranged edge_place es in
      let literals : All (IsRight k ms) fs =
      All-permutation (IsRight k ms) es fs edges.these (edges_right k p ns ms es page (stays label_of ns) literals_clean made) in
      record {
        graph = g;
        ends = record {
          exported_is = ap (λ (y : Graph-F Graph Node). y.exported) (sym is);
          fun_is = ap (λ (y : Graph-F Graph Node). y.fun) (sym is);
          name_is = ap (λ (y : Graph-F Graph Node). y.name) (sym is);
          rising = subst (λ (y : Graph-F Graph Node). IsStrictlyIncreasing (map label_of y.nodes)) is (strictly label_of ns labels_once);
          these = subst (λ (y : Graph-F Graph Node). IsPermutation ns y.nodes) is (arranged label_of ns).these;
          nodes = subst (λ (y : Graph-F Graph Node). AreNodes y.nodes ns) is (stays label_of ns);
          sorted = fs;
          order = in_order edge_place es;
          all = edges.these;
          ports = λ b l port lt short. ports_kept es fs edges b l port lt short;
          edges = subst (λ (y : Graph-F Graph Node). y.edges ≡ map (canon k y.nodes) fs) is refl;
          literals = subst (λ (y : Graph-F Graph Node). All (IsRight k y.nodes) fs) is literals;
        };
      }
