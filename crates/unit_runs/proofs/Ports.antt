-- Ports of the graphs of a ready unit copy no literal.
use Rattle.std.proofs.Common.{◌≡◌, ℕ, zero, suc, ◌-◌, ◌&&◌, not, Bool, true, false, List, drop, Option, Some, None, Contains, refl, sym, ap, ◌∙◌, subst, arith, ◌==◌}
use Rattle.std.specs.List.{list_any}
use Rattle.std.proofs.lemmas.Bool.{eq-eqb}
use Rattle.if1_graph.specs.declared.graph.Edge.{Edge}
use Rattle.if1_graph.specs.declared.graph.Graph.{Graph}
use Rattle.if1_graph.specs.declared.graph.Graph.TheViews.{out-Graph}
use Rattle.if1_graph.specs.declared.graph.Origin.{Origin}
use Rattle.if1_graph.specs.declared.graph.Origin.TheVariants as origin
use Rattle.if1_graph.specs.declared.graph.TypeEntry.{TypeEntry}
use Rattle.if1_graph.specs.declared.graph.Unit1.{Unit1}
use Rattle.if1_graph.specs.declared.kind.Basic.{Basic}
use Rattle.if1_graph.specs.declared.kind.TypeKind.{TypeKind}
use Rattle.if1_graph.specs.declared.kind.TypeKind.TheVariants as kind
use Rattle.if1_graph.specs.declared.row.Want.{Want}
use Rattle.if1_graph.specs.declared.row.Want.TheVariants as want
use Rattle.if1_graph.specs.Formed.{IsLiteralFor, IsOrigin, want_at}
use Rattle.if1_graph.specs.Kinds.{basic_at, kind_at}
use Rattle.if1_graph.specs.Ports.{leaves}
use Rattle.if1_graph.specs.Ready.{IsReady}
use Rattle.if1_graph.specs.Types.{entry_at}
use Rattle.if1_graph.specs.Units.{Place, edge_into, label_of, places, width}
use Rattle.if1_graph.specs.Units as units
use Rattle.if1_marks.proofs.Tests.{any-there, both, both-left, both-right}
use Rattle.if1_marks.specs.Aggregates.{is_aggregate, is_carried_by, is_carrying}
use Rattle.graph_meaning.proofs.Lists.{found-in}
use Rattle.graph_meaning.specs.Demand.{Kind, Plain, Vertex, Whole}
use Rattle.graph_meaning.specs.Forms as form
use Rattle.graph_meaning.specs.Networks.{ins_of, kind_of, net_at, network, source_at, source_by, source_from, sources, vertex_of}
use Rattle.graph_meaning.specs.Storage.{is_left}
use Rattle.graph_meaning.specs.StorageUnits.{carries_aggregate, storage_of, test_in}
use Rattle.ordered_meaning.specs.Taking.{first_port}
use Rattle.run_code.specs.Made.{Plan}
use Rattle.run_store.specs.Ports.{picks_of}
use Rattle.made_store.specs.Settings.{Shares}
use Rattle.unit_laws.proofs.TypedEdges.{edge-formed}
use Rattle.unit_plan.specs.Plans.{Tables, place_of, plain_of, plan_of, picks_by}
use Rattle.unit_plan.specs.Shares.{shares_of}
use Rattle.plan_shares.proofs.Graphs.{IsPlaced, network-each, placed-at}
use Rattle.plan_shares.proofs.OwnedParts.{false-or}
use Rattle.unit_runs.specs.Literals.{ArePicksBare, AreSourcesBare, IsKindPicked, IsSourceBare}
use Rattle.unit_runs.specs.Units.{AreUnitPortsBare, IsNodeBare, is_plain_by, may_be_literal, reads_aggregate}

-- a literal is no aggregate
literal-plain : (gs : List Graph) (ts : List TypeEntry) (e : TypeEntry) (text : List ℕ) (w : Option Want) (k : Option TypeKind) (b : Option Basic) → IsLiteralFor gs w text k b → is_carrying ts e k ≡ true → ⊥
literal-plain gs ts e text w (Some kind.Function) b h a = cc
literal-plain gs ts e text w (Some kind.Basic) b h a = cc
literal-plain gs ts e text w None b h a = cc
literal-plain gs ts e text None _ _ h a = absurd h
literal-plain gs ts e text (Some want.Function) _ _ h a = absurd h
literal-plain gs ts e text (Some want.Reduction) _ _ h a = absurd h
literal-plain gs ts e text (Some _) _ _ h a = absurd h

not-both : (a b : Bool) → not a && b ≡ true → a ≡ true → ⊥
not-both true b e f = cc
not-both false b e f = cc

module _ (u : Unit1) (order : (graph : ℕ) → List Vertex) (t : Tables) (ready : IsReady u) (g : ℕ) (q : Place) (x : IsPlaced u g q) where
  abbrev P : Plan
  P = plan_of u order t

  abbrev S : Shares
  S = shares_of u order

  -- the edge of a literal carries no aggregate
  pub literal-edge : (e : Edge) → Contains (out-Graph q.graph).edges e → (text : List ℕ) → e.from ≡ origin.Lit text → is_aggregate u.types e.ty ≡ true → ⊥
  literal-edge e there text from whole =
      let f : IsOrigin u q.graph e (origin.Lit text) = subst (IsOrigin u q.graph e) from (edge-formed u ready q x.there e there).source in
      go (entry_at u.types e.ty) refl f.2 whole
    where
      go : (o : Option TypeEntry) → entry_at u.types e.ty ≡ o → ((entry : TypeEntry) → entry_at u.types e.ty ≡ Some entry → IsLiteralFor u.graphs (want_at q.graph e.node e.port) text (kind_at entry.code) (basic_at entry.first)) → is_carried_by u.types o ≡ true → ⊥
      go None is h a = cc
      go (Some entry) is h a = literal-plain u.graphs u.types entry text (want_at q.graph e.node e.port) (kind_at entry.code) (basic_at entry.first) (h entry is) a

  -- an edge of an aggregate leaves the input
  pub input-read : (e : Edge) → Contains (out-Graph q.graph).edges e → (p : ℕ) → e.from ≡ origin.Port 0 p → is_aggregate u.types e.ty ≡ true → reads_aggregate u g p ≡ true
  input-read e there p from whole =
      ap (λ o. test_in o (λ h. list_any (λ e. leaves 0 p e.from && is_aggregate u.types e.ty) (out-Graph h).edges)) x.found
      ∙ any-there (λ e. leaves 0 p e.from && is_aggregate u.types e.ty) (out-Graph q.graph).edges e there
      (both (leaves 0 p e.from) (is_aggregate u.types e.ty) (ap (leaves 0 p) from ∙ both (0 == 0) (p == p) (eq-eqb 0 0 refl) (eq-eqb p p refl)) whole)

  pub no-input : (e : Edge) → Contains (out-Graph q.graph).edges e → (p : ℕ) → e.from ≡ origin.Port 0 p → is_aggregate u.types e.ty ≡ true → may_be_literal u g (suc (p - 1)) ≡ true → ⊥
  no-input e there zero from whole m =
      let f : IsOrigin u q.graph e (origin.Port 0 0) = subst (IsOrigin u q.graph e) from (edge-formed u ready q x.there e there).source in
      let le = f.1.0 in absurd (omega (arith, le))
  no-input e there (suc p) from whole m =
      let s : suc (suc p - 1) ≡ suc p = omega arith in
      not-both (reads_aggregate u g (suc p)) (is_plain_by u (plain_of u g) (suc p)) (subst (λ z. may_be_literal u g z ≡ true) s m) (input-read e there (suc p) from whole)

  -- ---- ports

  module _ (l j : ℕ) where
    copied-whole : S.copies g l j ≡ true → carries_aggregate u (edge_into q.graph l j) ≡ true
    copied-whole c = sym (ap (λ o. test_in o (λ h. carries_aggregate u (edge_into h l j))) x.found) ∙ both-right ((storage_of u).is_given g l j) ((storage_of u).is_aggregate g l j) c

    from-edge : (b : Bool) (e : Edge) → Contains (out-Graph q.graph).edges e → (o : Origin) → e.from ≡ o → (b ≡ true → is_aggregate u.types e.ty ≡ true) → IsSourceBare P S (may_be_literal u) g b (source_from u (want_at q.graph l j) e.ty o)
    from-edge b e there (origin.Lit text) from h = λ c. absurd (literal-edge e there text from (h c))
    from-edge b e there (origin.Port zero p) from h = λ m. false-or b (λ c. no-input e there p from (h c) m)
    from-edge b e there (origin.Port (suc k) p) from h = tt

    pub port-bare : (b : Bool) → (b ≡ true → carries_aggregate u (edge_into q.graph l j) ≡ true) → IsSourceBare P S (may_be_literal u) g b (source_at u q.graph l j)
    port-bare b h = go (edge_into q.graph l j) refl h
      where
        go : (o : Option Edge) → edge_into q.graph l j ≡ o → (b ≡ true → carries_aggregate u o ≡ true) → IsSourceBare P S (may_be_literal u) g b (source_by u (want_at q.graph l j) o)
        go None is h = λ c. refl
        go (Some e) is h =
            let f = found-in (λ e. (e.node == l) && (e.port == j)) (out-Graph q.graph).edges e is in
            from-edge b e f.0 e.from refl h

  pub sources-bare : (l first count : ℕ) → AreSourcesBare P S (may_be_literal u) (S.copies g l) g first (sources u q.graph l first count)
  sources-bare l first zero = tt
  sources-bare l first (suc count) = (port-bare l first (S.copies g l first) (copied-whole l first), sources-bare l (suc first) count)

  pub ins-bare : (l : ℕ) (k : Kind) → AreSourcesBare P S (may_be_literal u) (S.copies g l) g (first_port k) (ins_of u q.graph l k)
  ins-bare l (Plain row shape) = sources-bare l 1 (width q.graph l)
  ins-bare l (Whole (form.Call f)) = go (width q.graph l)
    where
      go : (w : ℕ) → AreSourcesBare P S (may_be_literal u) (S.copies g l) g 2 (drop 1 (sources u q.graph l 1 w))
      go zero = tt
      go (suc w) = sources-bare l 2 w
  ins-bare l (Whole (form.Select s gs n)) = sources-bare l 1 (width q.graph l)
  ins-bare l (Whole (form.TagCase gs n)) = sources-bare l 1 (width q.graph l)
  ins-bare l (Whole (form.LoopA i y b r n)) = sources-bare l 1 (width q.graph l)
  ins-bare l (Whole (form.LoopB i y b r n)) = sources-bare l 1 (width q.graph l)
  ins-bare l (Whole (form.ForAll e b r m n)) = sources-bare l 1 (width q.graph l)

  -- what is given and not taken is an aggregate
  given-whole : (l j : ℕ) → (storage_of u).is_given g l j && is_left (storage_of u) g l j ≡ true → carries_aggregate u (edge_into q.graph l j) ≡ true
  given-whole l j c =
      sym (ap (λ o. test_in o (λ h. carries_aggregate u (edge_into h l j))) x.found)
      ∙ both-left ((storage_of u).is_aggregate g l j) (not ((storage_of u).is_taken g l j)) (both-right ((storage_of u).is_given g l j) (is_left (storage_of u) g l j) c)

  picks-bare : (l first count : ℕ) → ArePicksBare P S (may_be_literal u) g (picks_of (λ p. (storage_of u).is_given g l p && is_left (storage_of u) g l p) first (sources u q.graph l first count)) (sources u q.graph l first count)
  picks-bare l first zero = tt
  picks-bare l first (suc count) = (port-bare l first ((storage_of u).is_given g l first && is_left (storage_of u) g l first) (given-whole l first), picks-bare l (suc first) count)

  abbrev Picked : Vertex → List Bool → Type 0
  Picked v picks = ArePicksBare P S (may_be_literal u) g picks v.ins

  by : (v : Vertex) (k : Kind) → v.kind ≡ k → picks_by (storage_of u) g v k ≡ picks_of (λ p. (storage_of u).is_given g v.label p && is_left (storage_of u) g v.label p) 1 v.ins
      → v.ins ≡ sources u q.graph v.label 1 (width q.graph v.label) → Picked v (P.picks g v)
  by v k same whole e =
      subst (λ z. Picked v (picks_by (storage_of u) g v z)) (sym same)
      (subst (Picked v) (sym whole)
      (subst (λ z. ArePicksBare P S (may_be_literal u) g (picks_of (λ p. (storage_of u).is_given g v.label p && is_left (storage_of u) g v.label p) 1 z) z) (sym e) (picks-bare v.label 1 (width q.graph v.label))))

  pub kind-picked : (v : Vertex) (k : Kind) → v.kind ≡ k → v.ins ≡ ins_of u q.graph v.label k → IsKindPicked P S (may_be_literal u) g v k
  kind-picked v (Plain row shape) same e = tt
  kind-picked v (Whole (form.Call f)) same e = tt
  kind-picked v (Whole (form.Select s gs n)) same e = by v (Whole (form.Select s gs n)) same refl e
  kind-picked v (Whole (form.TagCase gs n)) same e = by v (Whole (form.TagCase gs n)) same refl e
  kind-picked v (Whole (form.LoopA i y b r n)) same e = by v (Whole (form.LoopA i y b r n)) same refl e
  kind-picked v (Whole (form.LoopB i y b r n)) same e = by v (Whole (form.LoopB i y b r n)) same refl e
  kind-picked v (Whole (form.ForAll i b r m n)) same e = by v (Whole (form.ForAll i b r m n)) same refl e

pub ports-bare : AreUnitPortsBare
ports-bare u order t ready g = (
  network-each u g (IsNodeBare u order t g)
      (λ q x n inside. (ins-bare u order t ready g q x (label_of n) (kind_of u q.graph n), kind-picked u order t ready g q x (vertex_of u q.graph n) (kind_of u q.graph n) refl refl)),
  results,
)
  where
    none : (o : Option Place) → place_of u g ≡ o → AreSourcesBare (plan_of u order t) (shares_of u order) (may_be_literal u) ((shares_of u order).copies g 0) g 1 (net_at u o).results
    none None e = tt
    none (Some q) e = sources-bare u order t ready g q (placed-at u g q e) 0 1 (units.results q.graph)

    results : AreSourcesBare (plan_of u order t) (shares_of u order) (may_be_literal u) ((shares_of u order).copies g 0) g 1 (network u g).results
    results = none (place_of u g) refl
