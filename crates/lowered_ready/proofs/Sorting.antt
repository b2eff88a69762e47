-- Types by number are those of the typed tree, without the names of fields and tags.
use Rattle.std.proofs.Common.{◌≡◌, ℕ, zero, suc, List, [], ◌∷◌, map, Some, slice_get, refl, ap, subst, ◌∙◌}
use Rattle.if1_graph.specs.Types.{Plain, Many as ManyOf, Function as FunctionOf}
use Rattle.typed_tree.specs.declared.program.Function.{Function}
use Rattle.typed_tree.specs.declared.program.Program.{Program}
use Rattle.typed_tree.specs.Types.{AreNumbers}
use Rattle.fitting_trees.specs.Fitting.{Header, FunctionFits, FunctionsFit}
use Rattle.lowered_units.specs.Fitting.{IsFitting}
use Rattle.lowered_ready.specs.Sorts.{bare, types_at, callee_sort, sort_of}
use Rattle.lowered_ready.proofs.Bare.{bare-bool, bare-char, bare-int, bare-null, bare-array, bare-stream, bare-record, bare-union, number-told, numbers-told}
use Rattle.lowered_ready.specs.RuleSorts.{IsSorting}

module _ (p : Program) (fit : IsFitting p) where
  -- the function of a header
  function-of : (gs : List Header) (fs : List Function) → FunctionsFit (AreNumbers p.types p.names) fit.headers gs fs → (i : ℕ) (h : Header) → slice_get gs i ≡ Some h
      → (f : Function) × (slice_get fs i ≡ Some f) × FunctionFits (AreNumbers p.types p.names) fit.headers h f
  function-of [] fs k i h e = absurd cc
  function-of (g ∷ gs) [] k i h e = absurd k
  function-of (g ∷ gs) (f ∷ fs) k zero h e = (f, refl, subst (λ y. FunctionFits (AreNumbers p.types p.names) fit.headers y f) (same e) k.0)
    where
      same : Some g ≡ Some h → g ≡ h
      same e = cc
  function-of (g ∷ gs) (f ∷ fs) k (suc i) h e = function-of gs fs k.1 i h e

  pub sorting : IsSorting p.types p.names fit.headers bare (sort_of p)
  sorting = record {
    bool = bare-bool;
    char = bare-char;
    int = bare-int;
    null = bare-null;
    array = bare-array;
    stream = bare-stream;
    record_of = bare-record;
    union_of = bare-union;
    values = λ n t k. ap Plain (number-told p fit.types n t k);
    multiples = λ n t k. ap ManyOf (number-told p fit.types n t k);
    callees = λ i h e.
        let f = function-of fit.headers p.functions fit.tree.fits i h e in
        ap (callee_sort p) f.1
        ∙ (ap (λ l. FunctionOf l (types_at p.types f.0.results)) (numbers-told p fit.types f.0.params h.params f.2.params)
        ∙ ap (FunctionOf (map bare h.params)) (numbers-told p fit.types f.0.results h.results f.2.results));
  }
