-- What loops mean in graphs, by what their parts mean: both ways, with at most eight firings for each step of the source (SISAL
-- Language Reference Manual 1.2, loops; IF1 manual M-170, ForAll, LoopA, LoopB).
use Rattle.std.specs.Prelude.{◌≡◌, ℕ, ◌+◌, ◌*◌, List, [], ◌∷◌, ◌++◌, map, length, Some}
use Rattle.flow_value.specs.declared.value.Val.{Val}
use Rattle.flow_value.specs.declared.ty.Ty.{Ty}
use Rattle.typed_tree.specs.declared.expr.Product.{Product}
use Rattle.meaning.specs.declared.sources.Places.TheVariants as places
use Rattle.meaning.specs.Sources.{places_of, names_at, lower_of}
use Rattle.meaning.specs.Rows.{no_rows, with_rows, made}
use Rattle.meaning.specs.Meaning.{Gives, environments, over}
use Rattle.graph_meaning.specs.Carried.{Carried, Value}
use Rattle.graph_meaning.specs.Forms.{ForAll, columns, first, next_of}
use Rattle.graph_meaning.specs.Demand.{Network}
use Rattle.graph_meaning.specs.Plain.{CarryAll, NodesFire, LaterFires}
use Rattle.fitting_trees.specs.Fitting.{Goes}
use Rattle.typed_rows.specs.Rows.{AreOf}
use Rattle.loop_columns.specs.Parts.{From, GraphGives, NodeGives, Yields}
use Rattle.loop_columns.specs.Generators.{generated}
use Rattle.loop_columns.specs.Clauses.{shown}

-- each row is what is given on its list of names
abbrev pub Gave : Gives → List (List Val) → List (List Val) → Type 0
Gave g [] [] = Unit {0}
Gave g (env ∷ envs) (row ∷ rows) = ((steps : ℕ) × (g env ≡ Some (row, steps))) × Gave g envs rows
Gave g [] (row ∷ rows) = ⊥
Gave g (env ∷ envs) [] = ⊥

-- ---- `for` over generators

-- the clauses of a loop over these rows
abbrev pub clauses_made : Product → List Val → List (List Val) → List Val
clauses_made p bounds rows = made (lower_of bounds) (with_rows p.clauses (no_rows p.clauses) rows)

-- The generator's graph gives the multiples, the body's graph at each place the row of the source, with at most eight firings for
-- each step of it and seven more, and the graph of the returns the values of the clauses.
pub record AreForAllParts (u : Network) (g b r wide : ℕ) (ks : List Carried) (p : Product) (bounds env : List Val) (body : Gives) (limit : ℕ) : Type 0 where
  pub generator : GraphGives u g ks (generated p.sources bounds) limit
  pub at_each_place : (i : ℕ) (row : List Val) (steps : ℕ) → body (env ++ names_at p.sources bounds i) ≡ Some (row, steps)
      → GraphGives u b (ks ++ map Value (names_at p.sources bounds i)) (shown p.clauses row) (8 * steps + 7)
  pub returns : (n : ℕ) (rows : List (List Val)) → places_of p.sources bounds ≡ places.Count n → Gave body (environments p.sources bounds env n n) rows
      → GraphGives u r (ks ++ generated p.sources bounds ++ columns wide (map (shown p.clauses) rows)) (map Value (clauses_made p bounds rows)) (8 * length p.clauses)

-- what the source gives, the node gives
abbrev pub AreForAllsGiven : Type 0
AreForAllsGiven = (u : Network) (g b r wide outputs : ℕ) (ks : List Carried) (p : Product) (tys names : List Ty) (bounds env : List Val) (body : Gives) (limit : ℕ)
    → Goes p.sources tys names → AreOf tys bounds → AreForAllParts u g b r wide ks p bounds env body limit
    → (vs : List Val) (steps : ℕ) → over p outputs body bounds (places_of p.sources bounds) env ≡ Some (vs, steps)
    → NodeGives u (ForAll g b r wide outputs) ks (map Value vs) (8 * steps + limit)

-- where the node fires, the source gives something
abbrev pub AreForAllsRead : Type 0
AreForAllsRead = (u : Network) (g b r wide outputs n cost : ℕ) (ks : List Carried) (p : Product) (tys names : List Ty) (bounds env : List Val) (body : ℕ → Gives)
    → Goes p.sources tys names → AreOf tys bounds
    → From (λ m. CarryAll u m g ks (u g).results (generated p.sources bounds))
    → ((i c : ℕ) → NodesFire u n b (ks ++ map Value (names_at p.sources bounds i)) (u b).nodes c → Yields (λ d. body d (env ++ names_at p.sources bounds i)))
    → LaterFires u n (ForAll g b r wide outputs) ks (next_of (first (ForAll g b r wide outputs) ks)) cost
    → Yields (λ d. over p outputs (body d) bounds (places_of p.sources bounds) env)
