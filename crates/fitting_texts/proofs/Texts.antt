-- The program of a text fits.
use Rattle.std.proofs.Common.{◌≡◌, ℕ, zero, suc, true, List, [], ◌∷◌, map, All, Some, slice_get, length, sym, subst}
use Rattle.std.proofs.lemmas.List.Elements.{All-head, All-tail}
use Rattle.type_table.specs.declared.form.Form.{Form}
use Rattle.type_table.specs.declared.form.Form.TheVariants.{Union}
use Rattle.if1_graph.specs.Spelling.{IsName, IsQuotable}
use Rattle.sisal_tree.specs.declared.unit.Unit as tree
use Rattle.typed_tree.specs.declared.program.Program.{Program}
use Rattle.typed_tree.specs.Units.{signatures}
use Rattle.bound_trees.proofs.Units.{text_bound}
use Rattle.bound_trees.proofs.Nested.{unit_within}
use Rattle.fitting_trees.specs.Fitting.{IsFittingTree}
use Rattle.fitting_units.specs.Laws.{headers}
use Rattle.fitting_units.specs.Leaves.{AreNamesOnce}
use Rattle.fitting_units.proofs.Programs.{units_fit}
use Rattle.unit_types.specs.Rests.{HasEachOnce}
use Rattle.fitting_units.specs.Leaves.{AreTagsOnce}
use Rattle.typed_tree.specs.Scopes.{AreDistinct}
use Rattle.type_rules.specs.Records.{are_distinct}
use Rattle.type_rules.proofs.Fielded.{distinct_tells}
use Rattle.fitting_texts.specs.Laws.{IsTypedText, DoTextsFit}
use Rattle.fitting_texts.proofs.Written.{program_written}
use Rattle.fitting_texts.proofs.Names.{names_once, names_visible, names_quotable}
use Rattle.fitting_texts.proofs.Functions.{functions_once, functions_named, functions_give}

pub all_at : {A : Type 0} (P : A → Type 0) (xs : List A) (n : ℕ) (x : A) → All P xs → slice_get xs n ≡ Some x → P x
all_at P [] n x h e = cc
all_at P (y ∷ ys) zero x h e = let s : y ≡ x = cc in subst P s (All-head P y ys h)
all_at P (y ∷ ys) (suc n) x h e = all_at P ys n x (All-tail P y ys h) e

told_distinct : (xs : List ℕ) → are_distinct xs ≡ true → AreDistinct xs
told_distinct xs h = (distinct_tells xs).yes h

tags_once : (forms : List Form) → All HasEachOnce forms → AreTagsOnce forms
tags_once forms h n ms e = told_distinct (map (λ m. m.name) ms) (all_at HasEachOnce forms n (Union ms) h e)

-- the tree of a program of a text fits
pub tree_fits : (bytes : List ℕ) (u : tree.Unit) (p : Program) (h : IsTypedText bytes u p) → IsFittingTree p.types u.tokens.names (headers (signatures h.typed.declared)) p.functions
tree_fits bytes u p h =
    let bound = text_bound bytes u p h.lexed h.spelled h.typed in
    units_fit u p (names_once bytes u.tokens h.lexed) (tags_once p.types h.standing.once) (program_written (length p.functions) p.functions bound.functions) h.typed

pub texts_fit : DoTextsFit
texts_fit bytes u p h deep table =
    let t = h.typed in
    let same = sym t.names in
    let bound = text_bound bytes u p h.lexed h.spelled t in
    record {
      headers = headers (signatures t.declared);
      tree = subst (λ names. IsFittingTree p.types names (headers (signatures t.declared)) p.functions) same (tree_fits bytes u p h);
      types = table;
      results = functions_give p p.functions bound.headers;
      shallow = unit_within u p 200 deep t;
      visible = subst (All IsName) same (names_visible bytes u.tokens h.lexed);
      quotable = subst (All IsQuotable) same (names_quotable bytes u.tokens h.lexed);
      named = functions_named p p.functions bound.headers;
      once = functions_once u p t (subst AreNamesOnce same (names_once bytes u.tokens h.lexed));
    }
