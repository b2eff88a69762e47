-- Where what is read stands, and how it is read.
use Rattle.std.specs.Prelude.{ℕ, zero, suc, ◌+◌, ltb, if◌then◌else◌, Bool, true, false, List, [], ◌∷◌, length, map, get_or}
use Rattle.run_code.specs.Cells as cells
use Rattle.step_code.specs.declared.code.Operand.{Operand}
use Rattle.step_code.specs.declared.code.Operand.TheVariants as operand
use Rattle.step_code.specs.declared.step.Collect.{Collect}
use Rattle.step_code.specs.declared.step.Collect.TheVariants as collect
use Rattle.plan_data.specs.declared.plan.Feed.{Feed}
use Rattle.plan_data.specs.declared.plan.Feed.TheVariants as feed
use Rattle.plan_data.specs.declared.plan.Handled.{Handled}
use Rattle.plan_data.specs.declared.plan.Handled.TheVariants as handled
use Rattle.plan_data.specs.declared.plan.Port.{Port}
use Rattle.plan_data.specs.declared.plan.PlanData.{PlanData}
use Rattle.plan_data.specs.Parts.{literal_in, picks_of, size_in}
use Rattle.code_maker.specs.declared.seats.Seat.{Seat}
use Rattle.code_maker.specs.declared.seats.Seat.TheVariants as seat

-- ---- seats

abbrev pub seat_at : List Seat → (first : ℕ) → Feed → Seat
seat_at args first (feed.Input i) = get_or args i (seat.Literal 0)
seat_at args first (feed.Output c) = seat.Cell (first + c)
seat_at args first (feed.Literal n) = seat.Literal n

abbrev pub seats_at : List Seat → (first : ℕ) → List Port → List Seat
seats_at args first xs = map (λ x. seat_at args first x.feed) xs

abbrev pub first_seat : List Seat → (first : ℕ) → List Port → Seat
first_seat args first [] = seat.Literal 0
first_seat args first (x ∷ xs) = seat_at args first x.feed

-- with cells from this one on in place of those that are picked
abbrev pub own_seats : List Bool → List Seat → (from : ℕ) → List Seat
own_seats [] ss i = ss
own_seats (b ∷ bs) [] i = []
own_seats (true ∷ bs) (s ∷ ss) i = seat.Cell i ∷ own_seats bs ss (suc i)
own_seats (false ∷ bs) (s ∷ ss) i = s ∷ own_seats bs ss i

abbrev pub cells_from : (first many : ℕ) → List Seat
cells_from i zero = []
cells_from i (suc n) = seat.Cell i ∷ cells_from (suc i) n

-- what is sifted stands from one cell on; a last value stands in the cell of its loop value
abbrev pub stand_from : List Collect → (own first : ℕ) → List Seat
stand_from [] own first = []
stand_from (collect.Sifts j mask copies ∷ cs) own first = seat.Cell own ∷ stand_from cs (suc own) first
stand_from (collect.Final j ∷ cs) own first = seat.Cell (first + j) ∷ stand_from cs own first

-- ---- operands

-- one that is not there is what an unfilled port has
abbrev pub number_in : PlanData → (literal : ℕ) → ℕ
number_in D n = if ltb n (length D.literals) then n else 0

abbrev pub with_mode : PlanData → Handled → Seat → Operand
with_mode D h (seat.Literal n) = operand.Literal (number_in D n)
with_mode D handled.Looks (seat.Cell c) = operand.Looks c
with_mode D handled.Copies (seat.Cell c) = operand.Copies c
with_mode D handled.Takes (seat.Cell c) = operand.Takes c

abbrev pub laid : PlanData → List Seat → (first : ℕ) → Port → Operand
laid D args first x = with_mode D x.handled (seat_at args first x.feed)

-- those ports that are copied
abbrev pub copied_ports : List Port → List Port
copied_ports [] = []
copied_ports (x ∷ xs) = if picks_of x then x ∷ copied_ports xs else copied_ports xs

abbrev pub looked_at : (first many : ℕ) → List Operand
looked_at i zero = []
looked_at i (suc n) = operand.Looks i ∷ looked_at (suc i) n

-- ---- what these are to the machines of the laws

abbrev pub at_seat : PlanData → Seat → cells.Operand
at_seat D (seat.Cell c) = cells.At c
at_seat D (seat.Literal n) = cells.Lit (literal_in D n)

abbrev pub at_seats : PlanData → List Seat → List cells.Operand
at_seats D ss = map (at_seat D) ss

-- where each of several graphs begins, where the first begins at a place, and there is one more step behind each
abbrev pub starts_from : PlanData → List ℕ → (place : ℕ) → List ℕ
starts_from D [] t = []
starts_from D (g ∷ gs) t = t ∷ starts_from D gs (t + suc (size_in D g))

-- what a loop keeps of collections, without a copy that would be counted
abbrev pub sifts_among : List Collect → List Collect
sifts_among [] = []
sifts_among (collect.Sifts j mask copies ∷ cs) = collect.Sifts j mask false ∷ sifts_among cs
sifts_among (collect.Final j ∷ cs) = sifts_among cs
