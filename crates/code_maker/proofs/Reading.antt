-- What operands that were laid are to the machines of the laws.
use Rattle.std.proofs.Common.{◌≡◌, ℕ, zero, suc, ◌-◌, ◌<◌, ◌≤◌, ltb, if◌then◌else◌, Bool, true, false, List, [], ◌∷◌, ◌++◌, map, take, drop, length, get_or, refl, sym, ap, ◌∙◌, subst, arith, append_assoc}
use Rattle.std.proofs.lemmas.Bool.{ltb-false, ltb-true}
use Rattle.std.proofs.Math.Seq.{take-append_seam, drop-append_seam}
use Rattle.run_code.specs.Cells as cells
use Rattle.run_code.specs.Cells.{cells_at}
use Rattle.run_code.specs.Collections as collections
use Rattle.run_code.specs.Collections.{sifts_in}
use Rattle.run_store.specs.Stored.{Mode, Looks, Copies, Takes, owned_in}
use Rattle.plan_data.specs.Settings.{takes_all}
use Rattle.step_code.specs.Cell.TheVariants as cell
use Rattle.step_code.specs.Held.{held}
use Rattle.step_code.specs.declared.code.Code.{Code}
use Rattle.step_code.specs.declared.step.Collect.{Collect}
use Rattle.step_code.specs.declared.step.Collect.TheVariants as collect
use Rattle.step_code.specs.Laid.{collect_in, puts_of, taken_all}
use Rattle.step_code.specs.Reading.{is_kept, marked, mode_in, operand_in, so_many}
use Rattle.plan_data.specs.declared.plan.Handled.{Handled}
use Rattle.plan_data.specs.declared.plan.Handled.TheVariants as handled
use Rattle.plan_data.specs.declared.plan.Port.{Port}
use Rattle.plan_data.specs.declared.plan.PlanData.{PlanData}
use Rattle.plan_data.specs.Parts.{IsFormed, literal_in, mode_by, mode_of}
use Rattle.code_maker.specs.declared.seats.Seat.{Seat}
use Rattle.code_maker.specs.declared.seats.Seat.TheVariants as seat
use Rattle.code_maker.specs.Seats.{at_seat, at_seats, laid, looked_at, number_in, seat_at, seats_at, sifts_among, with_mode}
use Rattle.code_maker.specs.Grows.{ArePlain, IsPlain, read_as}

-- ---- stretches of lists

pub so-many-here : {A : Type 0} (xs ys zs : List A) → so_many (length xs) (length ys) ((xs ++ ys) ++ zs) ≡ ys
so-many-here xs ys zs =
    ap (λ l. take (length ys) (drop (length xs) l)) (append_assoc xs ys zs) ∙ (ap (take (length ys)) (drop-append_seam xs (ys ++ zs)) ∙ take-append_seam ys zs)

pub drop-all : {A : Type 0} (n : ℕ) (xs : List A) → length xs ≤ n → drop n xs ≡ []
drop-all zero [] h = refl
drop-all (suc n) [] h = refl
drop-all zero (x ∷ xs) h = absurd (omega (arith, h))
drop-all (suc n) (x ∷ xs) h = drop-all n xs (omega (arith, h))

take-none : (w k : ℕ) → get_or (take w []) k true ≡ true
take-none zero k = refl
take-none (suc w) k = refl

-- past all marks there is none
pub unmarked : (n w : ℕ) (xs : List Bool) → length xs ≤ n → (k : ℕ) → get_or (so_many n w xs) k true ≡ true
unmarked n w xs h k = ap (λ l. get_or (take w l) k true) (drop-all n xs h) ∙ take-none w k

pub kept-by : (bits : List Bool) → ((k : ℕ) → get_or bits k true ≡ true) → (i c : ℕ) → marked bits i c ≡ true
kept-by bits h i c = elim (ltb c i) as (λ b. (if b then true else get_or bits (c - i) true) ≡ true) [ true ↦ refl | false ↦ h (c - i) ]

-- ---- collections

pub sifts-are : (cs : List Collect) → map collect_in (sifts_among cs) ≡ sifts_in (map collect_in cs)
sifts-are [] = refl
sifts-are (collect.Sifts j mask copies ∷ cs) = ap (λ x. collections.Sifts j mask ∷ x) (sifts-are cs)
sifts-are (collect.Final j ∷ cs) = sifts-are cs

pub sifts-long : (cs : List Collect) → length (sifts_among cs) ≡ length (sifts_in (map collect_in cs))
sifts-long [] = refl
sifts-long (collect.Sifts j mask copies ∷ cs) = ap suc (sifts-long cs)
sifts-long (collect.Final j ∷ cs) = sifts-long cs

pub puts-none : (cs : List Collect) (i : ℕ) → get_or (map puts_of (sifts_among cs)) i false ≡ false
puts-none [] i = refl
puts-none (collect.Sifts j mask copies ∷ cs) zero = refl
puts-none (collect.Sifts j mask copies ∷ cs) (suc i) = puts-none cs i
puts-none (collect.Final j ∷ cs) i = puts-none cs i

pub taken-same : (n : ℕ) → taken_all n ≡ takes_all n
taken-same zero = refl
taken-same (suc n) = ap (λ x. Takes ∷ x) (taken-same n)

-- ---- operands

is-kept : (D : PlanData) (h : Handled) (s : Seat) → is_kept (with_mode D h s) ≡ true
is-kept D h (seat.Literal n) = refl
is-kept D handled.Looks (seat.Cell c) = refl
is-kept D handled.Copies (seat.Cell c) = refl
is-kept D handled.Takes (seat.Cell c) = refl

pub ports-kept : (D : PlanData) (args : List Seat) (first : ℕ) (xs : List Port) (k : ℕ) → get_or (map is_kept (map (laid D args first) xs)) k true ≡ true
ports-kept D args first [] k = refl
ports-kept D args first (x ∷ xs) zero = is-kept D x.handled (seat_at args first x.feed)
ports-kept D args first (x ∷ xs) (suc k) = ports-kept D args first xs k

get-past : {A : Type 0} (xs : List A) (n : ℕ) (other : A) → length xs ≤ n → get_or xs n other ≡ other
get-past [] n other le = refl
get-past (x ∷ xs) zero other le = absurd (omega (arith, le))
get-past (x ∷ xs) (suc n) other le = get-past xs n other (omega (arith, le))

module _ (D : PlanData) (formed : IsFormed D) (code : Code) (same : code.literals ≡ D.literals) where
  -- a literal that is not there is as the first one
  literal-as : (n : ℕ) → literal_in D (number_in D n) ≡ literal_in D n
  literal-as n = go (ltb n (length D.literals)) refl
    where
      go : (b : Bool) → ltb n (length D.literals) ≡ b → literal_in D (if b then n else 0) ≡ literal_in D n
      go true e = refl
      go false e = let le = ltb-false n (length D.literals) e in formed.unfilled ∙ sym (ap (λ c. owned_in (held c)) (get-past D.literals n cell.Empty (omega (arith, le))))

  number-there : 0 < length D.literals → (n : ℕ) → number_in D n < length D.literals
  number-there some n = go (ltb n (length D.literals)) refl
    where
      go : (b : Bool) → ltb n (length D.literals) ≡ b → (if b then n else 0) < length D.literals
      go true e = ltb-true n (length D.literals) e
      go false e = some

  pub plain-one : 0 < length D.literals → (h : Handled) (s : Seat) → IsPlain code (with_mode D h s)
  plain-one some h (seat.Literal n) = subst (λ ls. number_in D n < length ls) (sym same) (number-there some n)
  plain-one some handled.Looks (seat.Cell c) = tt
  plain-one some handled.Copies (seat.Cell c) = tt
  plain-one some handled.Takes (seat.Cell c) = tt

  pub ports-plain : 0 < length D.literals → (args : List Seat) (first : ℕ) (xs : List Port) → ArePlain code (map (laid D args first) xs)
  ports-plain some args first [] = tt
  ports-plain some args first (x ∷ xs) = (plain-one some x.handled (seat_at args first x.feed), ports-plain some args first xs)

  pub operand-is : (h : Handled) (s : Seat) → operand_in code (with_mode D h s) ≡ at_seat D s
  operand-is h (seat.Literal n) = ap (λ ls. cells.Lit (owned_in (held (get_or ls (number_in D n) cell.Empty)))) same ∙ ap cells.Lit (literal-as n)
  operand-is handled.Looks (seat.Cell c) = refl
  operand-is handled.Copies (seat.Cell c) = refl
  operand-is handled.Takes (seat.Cell c) = refl

  pub operands-are : (args : List Seat) (first : ℕ) (xs : List Port) → map (operand_in code) (map (laid D args first) xs) ≡ at_seats D (seats_at args first xs)
  operands-are args first [] = refl
  operands-are args first (x ∷ xs) =
      ap (λ o. o ∷ map (operand_in code) (map (laid D args first) xs)) (operand-is x.handled (seat_at args first x.feed))
      ∙ ap (λ os. at_seat D (seat_at args first x.feed) ∷ os) (operands-are args first xs)

  pub read-one : (h : Handled) (s : Seat) (ms ms' : List Mode) (os : List cells.Operand) → read_as ms os ≡ read_as ms' os
      → read_as (mode_in code (with_mode D h s) ∷ ms) (at_seat D s ∷ os) ≡ read_as (mode_by h ∷ ms') (at_seat D s ∷ os)
  read-one h (seat.Literal n) ms ms' os e = ap (λ x. Looks ∷ x) e
  read-one handled.Looks (seat.Cell c) ms ms' os e = ap (λ x. Looks ∷ x) e
  read-one handled.Copies (seat.Cell c) ms ms' os e = ap (λ x. Copies ∷ x) e
  read-one handled.Takes (seat.Cell c) ms ms' os e = ap (λ x. Takes ∷ x) e

  pub ports-read : (args : List Seat) (first : ℕ) (xs : List Port) → read_as (map (mode_in code) (map (laid D args first) xs)) (at_seats D (seats_at args first xs)) ≡ read_as (map mode_of xs) (at_seats D (seats_at args first xs))
  ports-read args first [] = refl
  ports-read args first (x ∷ xs) =
      read-one x.handled (seat_at args first x.feed) (map (mode_in code) (map (laid D args first) xs)) (map mode_of xs) (at_seats D (seats_at args first xs)) (ports-read args first xs)

  -- and what stands behind them
  pub more-read : (args : List Seat) (first : ℕ) (xs : List Port) (ms ms' : List Mode) (os : List cells.Operand) → read_as ms os ≡ read_as ms' os
      → read_as (map (mode_in code) (map (laid D args first) xs) ++ ms) (at_seats D (seats_at args first xs) ++ os) ≡ read_as (map mode_of xs ++ ms') (at_seats D (seats_at args first xs) ++ os)
  more-read args first [] ms ms' os e = e
  more-read args first (x ∷ xs) ms ms' os e =
      read-one x.handled (seat_at args first x.feed) (map (mode_in code) (map (laid D args first) xs) ++ ms) (map mode_of xs ++ ms') (at_seats D (seats_at args first xs) ++ os) (more-read args first xs ms ms' os e)

  pub looked-are : (i n : ℕ) → map (operand_in code) (looked_at i n) ≡ cells_at i n
  looked-are i zero = refl
  looked-are i (suc n) = ap (λ x. cells.At i ∷ x) (looked-are (suc i) n)

  pub looked-read : (i n : ℕ) → read_as (map (mode_in code) (looked_at i n)) (cells_at i n) ≡ read_as [] (cells_at i n)
  looked-read i zero = refl
  looked-read i (suc n) = ap (λ x. Looks ∷ x) (looked-read (suc i) n)
