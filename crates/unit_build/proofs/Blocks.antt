-- What is added behind a list, where what is still to come makes it whole.
use Rattle.std.proofs.Common.{◌≡◌, ℕ, suc, List, None, inl, inr, [], ◌∷◌, ◌++◌, length, slice_get, get_or, refl, sym, ap, subst, ◌∙◌, append_assoc}
use Rattle.std.specs.Prelude.{All}
use Rattle.std.proofs.lemmas.List.{take_at, drop_at}
use Rattle.std.proofs.lemmas.List.Elements.{All-take, All-drop}
use Rattle.std.proofs.lemmas.Option.{slice_get_cases, none-some}
use Rattle.std.proofs.Math.ListN.{get_or-eq_default}
use Rattle.typed_tree.specs.declared.program.Program.{Program}
use Rattle.lowering.specs.declared.feed.Wire.{Wire}
use Rattle.lowering.specs.declared.graph.LoweredNode.{LoweredNode}
use Rattle.lowering.specs.Types.{Table}
use Rattle.lowered_units.specs.Units.{edges_into, node_edges, edges_of, entries_from}
use Rattle.type_labels.specs.Lines.{line_of, lines_from}

pub block-more : {A : Type 0} (xs more block all rest left whole : List A) → xs ++ all ≡ whole → all ≡ block ++ rest → more ≡ xs ++ block → left ≡ rest → more ++ left ≡ whole
block-more xs more block all rest left whole e a m r =
    ap (λ l. l ++ left) m ∙ (append_assoc xs block left ∙ (ap (λ l. xs ++ (block ++ l)) r ∙ (ap (λ l. xs ++ l) (sym a) ∙ e)))

pub one-less : {A : Type 0} (xs rest : List A) (x : A) → xs ≡ x ∷ rest → length xs ≡ suc (length rest)
one-less xs rest x e = ap length e

-- the edges into the boundary stand last
pub edges-last : (p : Program) (label : ℕ) (vs : List LoweredNode) (results : List Wire) → edges_of p label vs results ≡ edges_of p label vs [] ++ edges_into p 0 1 results
edges-last p label [] results = refl
edges-last p label (v ∷ vs) results =
    ap (λ l. node_edges p label v.action v.ins ++ l) (edges-last p (suc label) vs results)
    ∙ sym (append_assoc (node_edges p label v.action v.ins) (edges_of p (suc label) vs []) (edges_into p 0 1 results))

-- a number past the end names nothing
pub no-name : {A : Type 0} (xs : List A) (n : ℕ) (d : A) → slice_get xs n ≡ None → get_or xs n d ≡ d
no-name xs n d none = elim (slice_get_cases xs n).1 [
  | inl s ↦ absurd (none-some s.0 (sym none ∙ s.2))
  | inr p ↦ get_or-eq_default xs d p.0
]

-- ---- both halves of a list

pub all-left : {A : Type 0} (P : A → Type 0) (xs ys : List A) → All P (xs ++ ys) → All P xs
all-left P xs ys h = subst (All P) (take_at xs ys (length xs) refl) (All-take P (length xs) (xs ++ ys) h)

pub all-right : {A : Type 0} (P : A → Type 0) (xs ys : List A) → All P (xs ++ ys) → All P ys
all-right P xs ys h = subst (All P) (drop_at xs ys (length xs) refl) (All-drop P (length xs) (xs ++ ys) h)

-- the lines of a table are those of the unit
pub lines-entries : (p : Program) (label : ℕ) (es : Table) → lines_from label es ≡ entries_from p label es
lines-entries p label [] = refl
lines-entries p label (e ∷ es) = ap (λ l. line_of label e ∷ l) (lines-entries p (suc label) es)
