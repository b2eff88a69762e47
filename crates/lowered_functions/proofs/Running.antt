-- The graphs of functions, one after another: their numbers fit, since graphs are not too many.
use Rattle.std.proofs.Common.{◌≡◌, ◌∙◌, ℕ, suc, ◌+◌, ◌≤◌, Bool, true, false, List, [], ◌∷◌, ◌++◌, map, refl, sym, ap, subst, arith, append_assoc}
use Rattle.std.specs.Prelude.{◌||◌, nat_lt, Option, Some, None, if◌then◌else◌}
use Rattle.std.proofs.lemmas.Bool.{ltb-false}
use Rattle.typed_tree.specs.declared.program.Function.{Function}
use Rattle.typed_tree.specs.declared.program.Program.{Program}
use Rattle.lowering.specs.declared.graph.Lowered.{Lowered}
use Rattle.lowering.specs.Graphs.{new_graph, new_graphs, size, closed_graphs}
use Rattle.lowering.specs.Programs.{function_lowered, functions_lowered}
use Rattle.lowering.specs.TooMany.{most_graphs, most_ports, is_large, graph_ports, graphs_over, header_ports, program_over}

-- what is left of a test that names no line
record IsOpen (b : Bool) (o : Option ℕ) : Type 0 where
  few : b ≡ false
  rest : o ≡ None

open-with : (a b c : Bool) (l : ℕ) (o : Option ℕ) → (if a || (b || c) then Some l else o) ≡ None → IsOpen b o
open-with true b c l o h = absurd cc
open-with false true c l o h = absurd cc
open-with false false true l o h = absurd cc
open-with false false false l o h = record { few = refl; rest = h }

module _ (p : Program) where
  -- the graphs of these functions, from a number on
  abbrev pub from : ℕ → List Function → List Lowered
  from q fs = new_graphs q (map (function_lowered p.types) fs)

  abbrev pub one : Function → ℕ → Lowered
  one f q = new_graph (function_lowered p.types f) q

  -- with the functions that are left all are lowered, and within the limits
  pub record Going (left : List Function) (number : ℕ) (done : List Lowered) : Type 0 where
    pub all : functions_lowered p ≡ done ++ from number left
    pub graphs : ℕ
    pub ports : ℕ
    pub next : number ≡ suc graphs
    pub few : graphs ≤ most_graphs
    pub within : graphs_over left (from number left) graphs ports ≡ None

  pub begun : (number : ℕ) (done : List Lowered) → program_over p ≡ None → number ≡ 1 → done ≡ [] → Going p.functions number done
  begun number done h n d = record {
    all = ap (λ l. l ++ functions_lowered p) (sym d) ∙ ap (λ q. done ++ from q p.functions) (sym n);
    graphs = 0;
    ports = header_ports p.functions;
    next = n;
    few = omega arith;
    within = subst (λ q. graphs_over p.functions (from q p.functions) 0 (header_ports p.functions) ≡ None) (sym n) h;
  }

  module _ (f : Function) (fs : List Function) (q : ℕ) (done : List Lowered) (h : Going (f ∷ fs) q done) where
    opens : IsOpen (nat_lt most_graphs (h.graphs + size (one f q))) (graphs_over fs (from (q + size (one f q)) fs) (h.graphs + size (one f q)) (h.ports + graph_ports (closed_graphs [] 0 0 (one f q ∷ []))))
    opens = open-with (is_large (one f q)) (nat_lt most_graphs (h.graphs + size (one f q))) (nat_lt most_ports (h.ports + graph_ports (closed_graphs [] 0 0 (one f q ∷ [])))) f.line _ h.within

    few-more : h.graphs + size (one f q) ≤ most_graphs
    few-more = ltb-false most_graphs (h.graphs + size (one f q)) opens.few

    -- the numbers of the graph and of those inside fit
    pub fits : q + size (one f q) ≤ suc most_graphs
    fits = let n = h.next in let few = few-more in omega (arith, n, few)

    pub goes-on : (next : ℕ) (m : Lowered) (more : List Lowered) → m ≡ one f q → next ≡ q + size m → more ≡ done ++ m ∷ [] → Going fs next more
    goes-on next m more e n d =
        let number : next ≡ q + size (one f q) = n ∙ ap (λ k. q + size k) e in
        let here : more ≡ done ++ one f q ∷ [] = d ∙ ap (λ k. done ++ k ∷ []) e in
        record {
          all = h.all ∙ sym (append_assoc done (one f q ∷ []) (from (q + size (one f q)) fs)) ∙ ap (λ l. l ++ from (q + size (one f q)) fs) (sym here) ∙ ap (λ k. more ++ from k fs) (sym number);
          graphs = h.graphs + size (one f q);
          ports = h.ports + graph_ports (closed_graphs [] 0 0 (one f q ∷ []));
          next = let k = h.next in omega (arith, number, k);
          few = few-more;
          within = subst (λ k. graphs_over fs (from k fs) (h.graphs + size (one f q)) (h.ports + graph_ports (closed_graphs [] 0 0 (one f q ∷ []))) ≡ None) (sym number) opens.rest;
        }
