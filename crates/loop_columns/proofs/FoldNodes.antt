-- The node of a clause gives what the clause makes of its multiples.
use Rattle.std.proofs.Common.{◌≡◌, ℤ, pos, List, [], ◌∷◌, refl, ap, ◌∙◌}
use Rattle.flow_value.specs.declared.value.Val.{Val}
use Rattle.loop_folds.specs.declared.folding.Folding.{Folding}
use Rattle.loop_folds.specs.declared.folding.Folding.TheVariants as folding
use Rattle.loop_folds.specs.Clauses.{Cell, first_failure, kept_values, unless_failed, gathered, fold_value}
use Rattle.graph_meaning.specs.Carried.{Carried, Value, Many, Spoiled, Name, Unfilled}
use Rattle.graph_meaning.specs.NodeValues.{cells_of, folded, fold_of}
use Rattle.loop_columns.specs.Clauses.{AreFoldNodes}

-- what is no array has no lower bound
abbrev NoBound : Folding → Type 0
NoBound folding.Array = ⊥
NoBound f = Unit {0}

same-made : (f : Folding) → NoBound f → (l k : ℤ) (vs : List Val) → gathered f l vs ≡ gathered f k vs
same-made folding.Array n l k vs = absurd n
same-made folding.Stream n l k vs = refl
same-made folding.Last n l k vs = refl
same-made folding.Sum n l k vs = refl
same-made folding.Product n l k vs = refl
same-made folding.Least n l k vs = refl
same-made folding.Greatest n l k vs = refl
same-made folding.CatenateArrays n l k vs = refl
same-made folding.CatenateStreams n l k vs = refl

same-value : (f : Folding) → NoBound f → (l k : ℤ) (cells : List Cell) → fold_value f l cells ≡ fold_value f k cells
same-value f n l k cells = ap (unless_failed (first_failure cells)) (same-made f n l k (kept_values cells))

same-folded : (f : Folding) → NoBound f → (l k : ℤ) (m mask : Carried) → folded f l m mask ≡ folded f k m mask
same-folded f n l k (Spoiled c) mask = refl
same-folded f n l k (Many vs) (Spoiled c) = refl
same-folded f n l k (Many vs) (Many ms) = same-value f n l k (cells_of vs (Many ms))
same-folded f n l k (Many vs) (Value v) = same-value f n l k (cells_of vs (Value v))
same-folded f n l k (Many vs) (Name t) = same-value f n l k (cells_of vs (Name t))
same-folded f n l k (Many vs) Unfilled = same-value f n l k (cells_of vs Unfilled)
same-folded f n l k (Value v) (Spoiled c) = refl
same-folded f n l k (Value v) mask = refl
same-folded f n l k (Name t) (Spoiled c) = refl
same-folded f n l k (Name t) mask = refl
same-folded f n l k Unfilled (Spoiled c) = refl
same-folded f n l k Unfilled mask = refl

same-fold : (f : Folding) → NoBound f → (l k : ℤ) (ms : List Carried) → fold_of f l ms ≡ fold_of f k ms
same-fold f n l k [] = refl
same-fold f n l k (m ∷ []) = same-folded f n l k m Unfilled
same-fold f n l k (m ∷ mask ∷ []) = same-folded f n l k m mask
same-fold f n l k (m ∷ mask ∷ o ∷ ms) = refl

-- from 1 it is the same
from-one : (f : Folding) → NoBound f → (lower : ℤ) (ms : List Carried) → Value (fold_of f (pos 1) ms) ∷ [] ≡ Value (fold_of f lower ms) ∷ []
from-one f n lower ms = ap (λ v. Value v ∷ []) (same-fold f n (pos 1) lower ms)

by-shape : (g f : Folding) (lower : ℤ) (ms : List Carried) → g ≡ f → Value (fold_of g lower ms) ∷ [] ≡ Value (fold_of f lower ms) ∷ []
by-shape g f lower ms e = ap (λ h. Value (fold_of h lower ms) ∷ []) e

pub fold-nodes : AreFoldNodes
fold-nodes folding.Array d s lower ms h = by-shape _ folding.Array lower ms h
fold-nodes folding.Stream d s lower ms h = by-shape _ folding.Stream (pos 1) ms h ∙ from-one folding.Stream tt lower ms
fold-nodes folding.Last d s lower ms h = from-one folding.Last tt lower ms
fold-nodes folding.Sum d s lower ms h = from-one folding.Sum tt lower ms
fold-nodes folding.Product d s lower ms h = from-one folding.Product tt lower ms
fold-nodes folding.Least d s lower ms h = from-one folding.Least tt lower ms
fold-nodes folding.Greatest d s lower ms h = from-one folding.Greatest tt lower ms
fold-nodes folding.CatenateArrays d s lower ms h = by-shape _ folding.CatenateArrays (pos 1) ms h ∙ from-one folding.CatenateArrays tt lower ms
fold-nodes folding.CatenateStreams d s lower ms h = by-shape _ folding.CatenateStreams (pos 1) ms h ∙ from-one folding.CatenateStreams tt lower ms
