-- The program of a text is one of the laws on lowered programs.
use Rattle.std.proofs.Common.{◌≡◌, ℕ, zero, suc, List, [], ◌∷◌, map, Some, slice_get, sym, subst}
use Rattle.flow_value.specs.declared.value.Val.{Val}
use Rattle.if1_graph.specs.declared.graph.Unit1.{Unit1}
use Rattle.sisal_tree.specs.declared.unit.Unit as tree
use Rattle.typed_tree.specs.declared.program.Program.{Program}
use Rattle.typed_tree.specs.Units.{signatures}
use Rattle.fitting_trees.specs.Fitting.{IsFittingTree}
use Rattle.fitting_units.specs.Laws.{header, headers}
use Rattle.fitting_texts.proofs.Names.{names_once}
use Rattle.fitting_texts.proofs.Texts.{tree_fits, texts_fit}
use Rattle.lowered_units.specs.Fitting.{IsFitting}
use Rattle.lowering_meaning.specs.Laws.{IsRun}
use Rattle.lowering_meaning.proofs.Alone.{typed-covered}
use Rattle.lowering_meaning.proofs.Runs.{runs-meant, runs-sourced}
use Rattle.text_meaning.specs.Laws.{IsTextRun, AreMarkedTextsReady, AreTextsMeant, AreTextsSourced}

slice-map : {A B : Type 0} (f : A → B) (xs : List A) (i : ℕ) (x : A) → slice_get xs i ≡ Some x → slice_get (map f xs) i ≡ Some (f x)
slice-map f [] i x e = absurd cc
slice-map f (y ∷ xs) zero x e = go e
  where
    go : Some y ≡ Some x → Some (f y) ≡ Some (f x)
    go e = cc
slice-map f (y ∷ xs) (suc i) x e = slice-map f xs i x e

module _ (ready : AreMarkedTextsReady) (bytes : List ℕ) (u : tree.Unit) (p : Program) (v : Unit1) (f : ℕ) (args : List Val) (r : IsTextRun bytes u p v f args) where
  run : IsRun p v f args
  run =
      let x = r.unit in
      let h = x.text in
      let t = h.typed in
      let fit = texts_fit bytes u p h x.shallow x.types in
      let fits : IsFitting p = record {
        headers = headers (signatures t.declared);
        tree = subst (λ names. IsFittingTree p.types names (headers (signatures t.declared)) p.functions) (sym t.names) (tree_fits bytes u p h);
        types = x.types;
        results = fit.results;
        shallow = fit.shallow;
        visible = fit.visible;
        quotable = fit.quotable;
        named = fit.named;
        once = fit.once;
      } in
      record {
        fits = fits;
        forms = typed-covered u p (names_once bytes u.tokens h.lexed) t;
        unit = x.translated;
        ready = ready bytes u p v x;
        header = header r.signature;
        there = slice-map header (signatures t.declared) f r.signature r.there;
        typed = r.typed;
      }

pub texts-meant : AreMarkedTextsReady → AreTextsMeant
texts-meant ready bytes u p v f args values steps r g = runs-meant p v f args values steps (run ready bytes u p v f args r) g

pub texts-sourced : AreMarkedTextsReady → AreTextsSourced
texts-sourced ready bytes u p v f args results depth cost r c m = runs-sourced p v f args results depth cost (run ready bytes u p v f args r) c m
