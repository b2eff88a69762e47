-- The types of what leaves port 1 of each node, with one edge more before the others.
use Rattle.std.proofs.Common.{◌≡◌, ℕ, zero, suc, ◌<◌, ◌==◌, ◌&&◌, cond, true, false, List, [], ◌∷◌, length, get_or, slice_set, slice_index, replicate, map, filter, Contains, Option, Some, None, inl, inr, refl, sym, ap, subst, ◌∙◌, arith, eq-eqb, ne_eqb}
use Rattle.std.proofs.lemmas.List.{get_or-map}
use Rattle.std.proofs.lemmas.List.Elements.{Contains-get_or}
use Rattle.std.specs.List.Sorted.{IsStrictlyIncreasing}
use Rattle.if1_graph.specs.declared.graph.Edge.{Edge}
use Rattle.if1_graph.specs.declared.graph.Graph.{Graph}
use Rattle.if1_graph.specs.declared.graph.Node.{Node}
use Rattle.if1_graph.specs.declared.graph.Origin.TheVariants.{Port}
use Rattle.if1_graph.specs.Ports.{leaves}
use Rattle.if1_graph.specs.Units.{label_of}
use Rattle.if1_ports.proofs.Tables.{above, rising_rest}
use Rattle.node_works.specs.Tables.{IsNoted, first_label, first_leaving, output_label}

module _ {A : Type 0} (f g : ℕ → A) (l : ℕ) (others : (m : ℕ) → (m ≡ l → ⊥) → g m ≡ f m) where
  none-of : (xs : List ℕ) → ((k : ℕ) → k < length xs → slice_index xs k ≡ l → ⊥) → map f xs ≡ map g xs
  none-of [] none = refl
  none-of (x ∷ xs) none =
      ap (λ y. y ∷ map f xs) (sym (others x (none 0 (omega arith))))
      ∙ ap (λ ys. g x ∷ ys) (none-of xs (λ k h is. none (suc k) (omega (arith, h)) is))

  one-of : (a : A) → g l ≡ a → (xs : List ℕ) (k : ℕ) → IsStrictlyIncreasing xs → k < length xs → slice_index xs k ≡ l → slice_set (map f xs) k a ≡ map g xs
  one-of a hit [] k up h is = absurd (omega (arith, h))
  one-of a hit (x ∷ xs) zero up h is =
      ap (λ y. y ∷ map f xs) (sym (subst (λ m. g m ≡ a) (sym is) hit))
      ∙ ap (λ ys. g x ∷ ys) (none-of xs (λ k h e. omega (arith, is, e, above x xs k up h)))
  one-of a hit (x ∷ xs) (suc k) up h is =
      ap (λ y. y ∷ slice_set (map f xs) k a) (sym (others x (λ e. omega (arith, is, e, above x xs k up (omega (arith, h))))))
      ∙ ap (λ ys. g x ∷ ys) (one-of a hit xs k (rising_rest x xs up) (omega (arith, h)) is)

-- an edge that leaves port 1 of a node
pub edge-noted : (labels : List ℕ) (es : List Edge) (e : Edge) (l : ℕ) (old new : List (Option ℕ)) → IsStrictlyIncreasing labels → e.from ≡ Port l 1 → IsNoted labels l e.ty old new
    → old ≡ map (first_leaving es) labels → new ≡ map (first_leaving (e ∷ es)) labels
edge-noted labels es e l old new up from noted was =
    elim noted [
      | inl h ↦
          h.2
          ∙ ap (λ z. slice_set z h.0 (Some e.ty)) was
          ∙ one-of (first_leaving es) (first_leaving (e ∷ es)) l other (Some e.ty) hit labels h.0 up h.1.0 h.1.1
      | inr h ↦
          h.0 ∙ was
          ∙ none-of (first_leaving es) (first_leaving (e ∷ es)) l other labels (λ k b is. h.1 (subst (λ m. Contains labels m) is (Contains-get_or labels k 0 b)))
    ]
  where
    rest : ℕ → List Edge
    rest m = filter (λ e. leaves m 1 e.from) es

    seen : (m : ℕ) → first_leaving (e ∷ es) m ≡ first_label (cond ((l == m) && true) (e ∷ rest m) (rest m))
    seen m = ap (λ o. first_label (cond (leaves m 1 o) (e ∷ rest m) (rest m))) from

    hit : first_leaving (e ∷ es) l ≡ Some e.ty
    hit = seen l ∙ ap (λ b. first_label (cond (b && true) (e ∷ rest l) (rest l))) (eq-eqb l l refl)

    other : (m : ℕ) → (m ≡ l → ⊥) → first_leaving (e ∷ es) m ≡ first_leaving es m
    other m h = seen m ∙ ap (λ b. first_label (cond (b && true) (e ∷ rest m) (rest m))) (ne_eqb l m (λ i. h (sym i)))

-- another edge
pub edge-passed : (labels : List ℕ) (es : List Edge) (e : Edge) (old : List (Option ℕ)) → ((m : ℕ) → leaves m 1 e.from ≡ false) → old ≡ map (first_leaving es) labels
    → old ≡ map (first_leaving (e ∷ es)) labels
edge-passed labels es e old none was = was ∙ all labels
  where
    all : (xs : List ℕ) → map (first_leaving es) xs ≡ map (first_leaving (e ∷ es)) xs
    all [] = refl
    all (x ∷ xs) =
        ap (λ y. y ∷ map (first_leaving es) xs)
        (sym (ap (λ b. first_label (cond b (e ∷ filter (λ e. leaves x 1 e.from) es) (filter (λ e. leaves x 1 e.from) es))) (none x)))
        ∙ ap (λ ys. first_leaving (e ∷ es) x ∷ ys) (all xs)

pub none-leaving : (labels : List ℕ) → replicate (length labels) None ≡ map (first_leaving []) labels
none-leaving [] = refl
none-leaving (x ∷ xs) = ap (λ ys. None ∷ ys) (none-leaving xs)

pub by-labels : (es : List Edge) (ns : List Node) → map (first_leaving es) (map label_of ns) ≡ map (λ n. first_leaving es (label_of n)) ns
by-labels es [] = refl
by-labels es (n ∷ ns) = ap (λ ys. first_leaving es (label_of n) ∷ ys) (by-labels es ns)

-- what stands at the place of a node
pub label-at : (g : Graph) (ns : List Node) (os : List (Option ℕ)) (k : ℕ) (n : Node) → os ≡ map (output_label g) ns → k < length ns → n ≡ get_or ns k n → get_or os k None ≡ output_label g n
label-at g ns os k n e lt is = ap (λ os. get_or os k None) e ∙ get_or-map (output_label g) ns k n None lt ∙ ap (output_label g) (sym is)
