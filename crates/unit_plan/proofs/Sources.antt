-- What the nodes of a ready unit read: inputs and outputs that are there, and multiples where they may be read.
use Rattle.std.proofs.Common.{◌≡◌, ℕ, zero, suc, ◌≤◌, List, [], ◌∷◌, drop, Option, Some, None, refl, arith}
use Rattle.if1_graph.specs.declared.graph.Edge.{Edge}
use Rattle.if1_graph.specs.declared.graph.Graph.{Graph}
use Rattle.if1_graph.specs.declared.graph.Origin.{Origin}
use Rattle.if1_graph.specs.declared.graph.Origin.TheVariants as origin
use Rattle.if1_graph.specs.declared.graph.Unit1.{Unit1}
use Rattle.if1_graph.specs.Formed.{want_at}
use Rattle.if1_graph.specs.Units.{edge_into, width}
use Rattle.graph_meaning.specs.Carried.{Carried, Unfilled}
use Rattle.graph_meaning.specs.Demand.{Source, Port, Fixed, Kind, Plain, Whole}
use Rattle.graph_meaning.specs.Forms as form
use Rattle.graph_meaning.specs.Networks.{fixed, ins_of, source_at, source_by, source_from, sources}
use Rattle.made_store.specs.Taking.{first_port}

-- what holds of nothing and of sources one by one holds of all
module _ (R : List Source → Type 0) (none : R []) (more : (o : Source) (os : List Source) → R (o ∷ []) → R os → R (o ∷ os)) (u : Unit1) (g : Graph) (l : ℕ) where
  pub in-sources : (first count : ℕ) → ((port : ℕ) → first ≤ port → R (source_at u g l port ∷ [])) → R (sources u g l first count)
  in-sources first zero h = none
  in-sources first (suc count) h = more (source_at u g l first) (sources u g l (suc first) count) (h first (omega arith)) (in-sources (suc first) count (λ port le. h port (omega (arith, le))))

  behind-first : (w : ℕ) → ((port : ℕ) → 2 ≤ port → R (source_at u g l port ∷ [])) → R (drop 1 (sources u g l 1 w))
  behind-first zero h = none
  behind-first (suc w) h = in-sources 2 w h

  pub in-ins : (k : Kind) → ((port : ℕ) → first_port k ≤ port → R (source_at u g l port ∷ [])) → R (ins_of u g l k)
  in-ins (Plain row shape) h = in-sources 1 (width g l) h
  in-ins (Whole (form.Call f)) h = behind-first (width g l) h
  in-ins (Whole (form.Select a b c)) h = in-sources 1 (width g l) h
  in-ins (Whole (form.TagCase a b)) h = in-sources 1 (width g l) h
  in-ins (Whole (form.LoopA a b c d e)) h = in-sources 1 (width g l) h
  in-ins (Whole (form.LoopB a b c d e)) h = in-sources 1 (width g l) h
  in-ins (Whole (form.ForAll a b c d e)) h = in-sources 1 (width g l) h

  -- by the edge to a port
  pub by-edge : (port : ℕ) → ((c : Carried) → R (Fixed c ∷ [])) → ((e : Edge) → edge_into g l port ≡ Some e → (m q : ℕ) → e.from ≡ origin.Port m q → R (Port m q ∷ [])) → R (source_at u g l port ∷ [])
  by-edge port f h = go (edge_into g l port) refl
    where
      ends : (e : Edge) → edge_into g l port ≡ Some e → (o : Origin) → e.from ≡ o → R (source_from u (want_at g l port) e.ty o ∷ [])
      ends e is (origin.Port m q) from = h e is m q from
      ends e is (origin.Lit text) from = f (fixed u (want_at g l port) e.ty text)

      go : (o : Option Edge) → edge_into g l port ≡ o → R (source_by u (want_at g l port) o ∷ [])
      go None e = f Unfilled
      go (Some e) is = ends e is e.from refl
