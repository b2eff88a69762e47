-- Operands of made steps are inside, and none reads what an earlier one takes.
use Rattle.std.proofs.Common.{◌≡◌, ℕ, zero, suc, ◌+◌, ◌<◌, ◌≤◌, ◌⊎◌, inl, inr, Bool, true, false, List, [], ◌∷◌, ◌++◌, map, take, drop, length, refl, sym, ap, ◌∙◌, subst, arith}
use Rattle.std.proofs.lemmas.List.{length-map}
use Rattle.graph_meaning.specs.Carried.{Carried}
use Rattle.graph_meaning.specs.Demand.{Source, Fixed, Port}
use Rattle.run_code.specs.Cells as cells
use Rattle.run_code.specs.Cells.{At, Lit, cells_at}
use Rattle.run_code.specs.Coded.{Places, operand}
use Rattle.run_laws.specs.Inside.{AreCells, IsCell}
use Rattle.run_store.specs.Refines.{IsTaken}
use Rattle.run_store.specs.Stored as stored
use Rattle.run_store.specs.Stored.{Mode, Takes}
use Rattle.made_store.specs.Last.{AreTakenLast, IsLast, IsNoneOf}
use Rattle.step_code.specs.declared.code.Code.{Code}
use Rattle.step_code.specs.declared.code.Operand.{Operand}
use Rattle.step_code.specs.declared.code.Operand.TheVariants as operand
use Rattle.step_code.specs.Reading.{gapped, listed, mode_in, modes_in, operand_in, operands_in, so_many}
use Rattle.told_rows.specs.Grows.{AreNamed, AreNamedApart, ArePlain, IsPlain}
use Rattle.told_rows.specs.Seats.{looked_at}
use Rattle.sequential.specs.Inside.{IsInside, IsUncopied}
use Rattle.sequential.specs.Loading.{AllApart, AreApart, AreInside, IsApart, IsNotIn}
use Rattle.sequential_run.specs.Iterating.{AllUncopied}
use Rattle.sequential_run.specs.Putting.{AreSparing, IsSparing}
use Rattle.sequential_run.specs.Ready.{AreListed, AreSpread}
use Rattle.sequential_run.specs.Seen.{IsNamed}
use Rattle.unit_whole.proofs.Taking.{beside}
use Rattle.unit_whole.specs.Seen.{IsFixedFirst}

-- ---- so many of a list

pub so-long : {A : Type 0} (i n : ℕ) (xs : List A) → i + n ≤ length xs → length (so_many i n xs) ≡ n
so-long zero zero xs le = take-none xs
  where
    take-none : {A : Type 0} (xs : List A) → length (take 0 xs) ≡ 0
    take-none [] = refl
    take-none (x ∷ xs) = refl
so-long zero (suc n) [] le = absurd (omega (arith, le))
so-long zero (suc n) (x ∷ xs) le = ap suc (so-long zero n xs (omega (arith, le)))
so-long (suc i) zero [] le = refl
so-long (suc i) (suc n) [] le = absurd (omega (arith, le))
so-long (suc i) n (x ∷ xs) le = so-long i n xs (omega (arith, le))

module _ (code : Code) where
  module _ (room : ℕ) where
    pub one-inside : (a : Operand) → IsPlain code a → IsCell room (operand_in code a) → IsInside code room a
    one-inside (operand.Literal n) p c = p
    one-inside (operand.Looks i) p c = c
    one-inside (operand.Copies i) p c = c
    one-inside (operand.Takes i) p c = c
    one-inside (operand.LooksAt r) p c = absurd p
    one-inside (operand.CopiesOf r) p c = absurd p

    all-inside : (os : List Operand) → ArePlain code os → AreCells room (map (operand_in code) os) → AreInside code room os
    all-inside [] p c = tt
    all-inside (a ∷ os) p c = (one-inside a p.0 c.0, all-inside os p.1 c.1)

  -- ---- apart

  not-in : (i : ℕ) (b : Operand) → IsPlain code b → (operand_in code b ≡ At i → ⊥) → IsNotIn code i b
  not-in i (operand.Literal n) p h = tt
  not-in i (operand.Looks j) p h = λ e. h (ap At e)
  not-in i (operand.Copies j) p h = λ e. h (ap At e)
  not-in i (operand.Takes j) p h = λ e. h (ap At e)
  not-in i (operand.LooksAt r) p h = absurd p
  not-in i (operand.CopiesOf r) p h = absurd p

  none-in : (i : ℕ) (os : List Operand) → ArePlain code os → IsNoneOf i (map (operand_in code) os) → AllApart code (operand.Takes i) os
  none-in i [] p h = tt
  none-in i (b ∷ os) p h = (not-in i b p.0 h.0, none-in i os p.1 h.1)

  others-apart : (a : Operand) → ((b : Operand) → IsApart code a b) → (os : List Operand) → AllApart code a os
  others-apart a f [] = tt
  others-apart a f (b ∷ os) = (f b, others-apart a f os)

  apart-from : (a : Operand) (os : List Operand) → ArePlain code os → IsLast (mode_in code a) (operand_in code a) (map (operand_in code) os) → AllApart code a os
  apart-from (operand.Takes i) os p h = none-in i os p h
  apart-from (operand.Literal n) os p h = others-apart (operand.Literal n) (λ b. tt) os
  apart-from (operand.Looks i) os p h = others-apart (operand.Looks i) (λ b. tt) os
  apart-from (operand.Copies i) os p h = others-apart (operand.Copies i) (λ b. tt) os
  apart-from (operand.LooksAt r) os p h = others-apart (operand.LooksAt r) (λ b. tt) os
  apart-from (operand.CopiesOf r) os p h = others-apart (operand.CopiesOf r) (λ b. tt) os

  all-apart : (os : List Operand) → ArePlain code os → AreTakenLast (map (mode_in code) os) (map (operand_in code) os) → AreApart code os
  all-apart [] p h = tt
  all-apart (a ∷ os) p h = (apart-from a os p.1 h.0, all-apart os p.1 h.1)

  pub listed-so : (room first many : ℕ) → AreNamed code first many → AreCells room (operands_in code first many) → AreTakenLast (modes_in code first many) (operands_in code first many) → AreListed code room first many
  listed-so room i n named cells last =
      record {
        listed_there = named.there;
        long = sym named.long;
        inside = all-inside room (listed code i n) named.plain cells;
        apart = all-apart (listed code i n) named.plain last;
      }

  -- so with those among which ports stand that nothing fills
  pub apart-so : (room gaps first many : ℕ) → AreNamedApart code gaps first many → AreCells room (map (operand_in code) (gapped code gaps first many)) → AreTakenLast (map (mode_in code) (gapped code gaps first many)) (map (operand_in code) (gapped code gaps first many))
      → AreSpread code room gaps first many
  apart-so room g i n named cells last =
      record {
        listed_there = named.there;
        numbers_there = named.numbers;
        inside = all-inside room (gapped code g i n) named.plain cells;
        apart = all-apart (gapped code g i n) named.plain last;
      }

  pub operands-long : (i n : ℕ) → AreNamed code i n → length (operands_in code i n) ≡ n
  operands-long i n named = length-map (listed code i n) (operand_in code) ∙ named.long

  pub modes-long : (i n : ℕ) → length (modes_in code i n) ≡ length (operands_in code i n)
  modes-long i n = length-map (listed code i n) (mode_in code) ∙ sym (length-map (listed code i n) (operand_in code))

  -- ---- beside cells

  one-sparing : (out k : ℕ) (a : Operand) → ((i : ℕ) → mode_in code a ≡ Takes → operand_in code a ≡ At i → IsNoneOf i (cells_at out k)) → IsSparing out k a
  one-sparing out k (operand.Takes i) h = beside i out k (h i refl refl)
  one-sparing out k (operand.Literal n) h = tt
  one-sparing out k (operand.Looks i) h = tt
  one-sparing out k (operand.Copies i) h = tt
  one-sparing out k (operand.LooksAt r) h = tt
  one-sparing out k (operand.CopiesOf r) h = tt

  pub all-sparing : (out k : ℕ) (os : List Operand) → ((i : ℕ) → IsTaken (map (mode_in code) os) (map (operand_in code) os) i → IsNoneOf i (cells_at out k)) → AreSparing out k os
  all-sparing out k [] h = tt
  all-sparing out k (a ∷ os) h = (one-sparing out k a (λ i e f. h i (inl (e, f))), all-sparing out k os (λ i t. h i (inr t)))

  -- ---- multiples

  pub looked-long : (i n : ℕ) → length (looked_at i n) ≡ n
  looked-long i zero = refl
  looked-long i (suc n) = ap suc (looked-long (suc i) n)

  pub looked-inside : (room i n : ℕ) → i + n ≤ room → AreInside code room (looked_at i n)
  looked-inside room i zero le = tt
  looked-inside room i (suc n) le = (omega (arith, le), looked-inside room (suc i) n (omega (arith, le)))

  pub looked-apart : (i n : ℕ) → AreApart code (looked_at i n)
  looked-apart i zero = tt
  looked-apart i (suc n) = (others-apart (operand.Looks i) (λ b. tt) (looked_at (suc i) n), looked-apart (suc i) n)

  pub looked-are : (i n : ℕ) → map (operand_in code) (looked_at i n) ≡ cells_at i n
  looked-are i zero = refl
  looked-are i (suc n) = ap (λ x. At i ∷ x) (looked-are (suc i) n)

  -- ---- a literal first

  named-first : (os : List Operand) (k : Carried) (rest : List cells.Operand) → map (operand_in code) os ≡ Lit k ∷ rest → IsNamed os
  named-first [] k rest e = absurd (clash e)
    where
      clash : [] ≡ Lit k ∷ rest → ⊥
      clash e = cc
  named-first (a ∷ os) k rest e = one a (first e)
    where
      first : map (operand_in code) (a ∷ os) ≡ Lit k ∷ rest → operand_in code a ≡ Lit k
      first e = cc

      at-lit : (i : ℕ) → At i ≡ Lit k → ⊥
      at-lit i e = cc

      one : (b : Operand) → operand_in code b ≡ Lit k → IsNamed (b ∷ os)
      one (operand.Literal n) f = tt
      one (operand.Looks i) f = absurd (at-lit i f)
      one (operand.Copies i) f = absurd (at-lit i f)
      one (operand.Takes i) f = absurd (at-lit i f)
      one (operand.LooksAt r) f = absurd (at-lit _ f)
      one (operand.CopiesOf r) f = absurd (at-lit _ f)

  pub fixed-named : (os : List Operand) (places : Places) (ins : List Source) → map (operand_in code) os ≡ map (operand places) ins → IsFixedFirst ins → IsNamed os
  fixed-named os places [] e h = absurd h
  fixed-named os places (Port l p ∷ ins) e h = absurd h
  fixed-named os places (Fixed c ∷ ins) e h = named-first os c (map (operand places) ins) e

pub looked-uncopied : (i n : ℕ) → AllUncopied (looked_at i n)
looked-uncopied i zero = tt
looked-uncopied i (suc n) = (tt, looked-uncopied (suc i) n)
