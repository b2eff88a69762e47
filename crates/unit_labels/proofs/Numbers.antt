-- The numbers of functions: no more than those of their names.
use Rattle.std.proofs.Common.{◌≡◌, ◌<◌, ◌≤◌, ℕ, Bool, true, false, List, map, take, length, get_or, slice_get, Some, refl, sym, ap, ◌∙◌, arith}
use Rattle.std.specs.List.{list_any}
use Rattle.std.proofs.Math.Dec.{eqb}
use Rattle.std.proofs.lemmas.Bool.Decides.{Decides-eqb}
use Rattle.std.proofs.lemmas.List.{length-map, length-take-le, get_or-map, get_or-take}
use Rattle.std.proofs.lemmas.List.Folds.{Any-from_list_any}
use Rattle.std.proofs.lemmas.Map.Keys.{IsDistinct-from_apart}
use Rattle.std.proofs.lemmas.Map.Steps.{length-le_from_distinct_below}
use Rattle.std.proofs.lemmas.Option.{slice_get-get_or}
use Rattle.typed_tree.specs.declared.program.Function.{Function}
use Rattle.typed_tree.specs.declared.program.Program.{Program}
use Rattle.lowered_units.specs.Fitting.{IsFitting, HasName}

module _ (p : Program) (h : IsFitting p) (d : Function) where
  abbrev fs : List Function
  fs = p.functions

  abbrev name : ℕ → ℕ
  name i = (get_or fs i d).name

  named : (i : ℕ) (text : List ℕ) → i < length fs → slice_get p.names (name i) ≡ Some text → HasName p i text
  named i text below is = record { function = get_or fs i d; there = slice_get-get_or fs i d below; spelled = is }

  differ : (i j : ℕ) → i < j → j < length fs → name i ≡ name j → ⊥
  differ i j less below same =
      let first : i < length fs = omega (arith, less, below) in
      let n = h.named i d first in
      let equal : i ≡ j = h.once i j n.0 (named i n.0 first n.1) (named j n.0 below (ap (slice_get p.names) (sym same) ∙ n.1)) in
      omega (arith, less, equal)

  abbrev names : ℕ → List ℕ
  names k = map (λ (f : Function). f.name) (take k fs)

  long : (k : ℕ) → k ≤ length fs → length (names k) ≡ k
  long k le = length-map (take k fs) (λ (f : Function). f.name) ∙ length-take-le k fs le

  at : (k i e : ℕ) → k ≤ length fs → i < k → get_or (names k) i e ≡ name i
  at k i e le below =
      let inside : i < length (take k fs) = omega (arith, below, length-take-le k fs le) in
      get_or-map (λ (f : Function). f.name) (take k fs) i d e inside ∙ ap (λ (f : Function). f.name) (get_or-take k fs i d below)

  apart : (k : ℕ) → k ≤ length fs → (i j e : ℕ) → i < j → j < length (names k) → eqb (get_or (names k) i e) (get_or (names k) j e) ≡ false
  apart k le i j e less inside = by (eqb (get_or (names k) i e) (get_or (names k) j e)) refl
    where
      by : (b : Bool) → eqb (get_or (names k) i e) (get_or (names k) j e) ≡ b → b ≡ false
      by false is = refl
      by true is =
          let below : j < k = omega (arith, inside, long k le) in
          let same = (Decides-eqb (get_or (names k) i e) (get_or (names k) j e)).0 is in
          absurd (differ i j less (omega (arith, below, le)) (sym (at k i e le (omega (arith, less, below))) ∙ (same ∙ at k j e le below)))

  -- where the names of the first so many functions have small numbers, so have these functions
  pub few-functions : (n k : ℕ) → k ≤ length fs → ((j : ℕ) → j < k → name j < n) → k ≤ n
  few-functions n k le small =
      let least = length-le_from_distinct_below (names k) n (IsDistinct-from_apart eqb (names k) (apart k le)) below in
      omega (arith, least, long k le)
    where
      below : (q : ℕ) → list_any (eqb q) (names k) ≡ true → q < n
      below q any =
          let found = Any-from_list_any (eqb q) (names k) any in
          let inside : found.0 < k = omega (arith, found.2, long k le) in
          let is : q ≡ name found.0 = (Decides-eqb q found.1).0 found.4 ∙ (sym found.3 ∙ at k found.0 found.1 le inside) in
          omega (arith, small found.0 inside, is)
