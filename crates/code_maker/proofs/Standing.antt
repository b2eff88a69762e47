-- What stands in the data is as the plan has it.
use Rattle.std.proofs.Common.{◌≡◌, ℕ, zero, suc, ◌+◌, ◌-◌, ◌^◌, ◌≤◌, if◌then◌else◌, Bool, true, false, List, [], ◌∷◌, ◌++◌, map, length, get_or, refl, sym, ap, ◌∙◌, subst, arith}
use Rattle.std.proofs.Math.ListN.{get_or-map}
use Rattle.graph_meaning.specs.Carried.{Unfilled}
use Rattle.graph_meaning.specs.Demand.{Source}
use Rattle.run_code.specs.Cells as cells
use Rattle.run_code.specs.Cells.{cells_at, own_cells, picked}
use Rattle.run_code.specs.Coded.{operand}
use Rattle.run_code.specs.Made.{Makes, Plan, arms_at, arms_size, end_at, ends_at, kind_size, placed, stand}
use Rattle.run_store.specs.Ports.{copies_of}
use Rattle.run_store.specs.Stored.{Copies}
use Rattle.plan_data.specs.Settings.{Shares}
use Rattle.step_code.specs.declared.step.Collect.{Collect}
use Rattle.step_code.specs.declared.step.Collect.TheVariants as collect
use Rattle.step_code.specs.Laid.{collect_in}
use Rattle.plan_data.specs.declared.plan.Feed.{Feed}
use Rattle.plan_data.specs.declared.plan.Feed.TheVariants as feed
use Rattle.plan_data.specs.declared.plan.Handled.{Handled}
use Rattle.plan_data.specs.declared.plan.Handled.TheVariants as handled
use Rattle.plan_data.specs.declared.plan.Port.{Port}
use Rattle.plan_data.specs.declared.plan.Work.{Work}
use Rattle.plan_data.specs.declared.plan.Work.TheVariants as work
use Rattle.plan_data.specs.declared.plan.PlanData.{PlanData}
use Rattle.plan_data.specs.Parts.{AreBelow, AreColumnsBelow, IsBelow, IsColumnBelow, IsFormed, arms_steps, count_true, extent_in, graph_refolded, graph_results, kind_of, mode_by, mode_of, picks_by, picks_of, size_in, work_steps}
use Rattle.plan_data.specs.Stands.{AreFed, IsFed, Stands}
use Rattle.code_maker.specs.declared.seats.Seat.{Seat}
use Rattle.code_maker.specs.declared.seats.Seat.TheVariants as seat
use Rattle.code_maker.specs.Seats.{at_seat, at_seats, cells_from, copied_ports, first_seat, own_seats, seat_at, seats_at, stand_from, starts_from}

-- ---- below a number

is-below-more : (a b : ℕ) (x : Feed) → a ≤ b → IsBelow a x → IsBelow b x
is-below-more a b (feed.Input i) le h = tt
is-below-more a b (feed.Literal n) le h = tt
is-below-more a b (feed.Output c) le h = omega (arith, le, h)

pub below-more : (a b : ℕ) (xs : List Port) → a ≤ b → AreBelow a xs → AreBelow b xs
below-more a b [] le h = tt
below-more a b (x ∷ xs) le h = (is-below-more a b x.feed le h.0, below-more a b xs le h.1)

-- ---- seats of the data alone

module _ (D : PlanData) where
  pub cells-are : (i n : ℕ) → at_seats D (cells_from i n) ≡ cells_at i n
  cells-are i zero = refl
  cells-are i (suc n) = ap (λ x. cells.At i ∷ x) (cells-are (suc i) n)

  pub seats-then : (xs ys : List Seat) → at_seats D (xs ++ ys) ≡ at_seats D xs ++ at_seats D ys
  seats-then [] ys = refl
  seats-then (x ∷ xs) ys = ap (λ q. at_seat D x ∷ q) (seats-then xs ys)

  pub with-cells : (xs : List Seat) (i n : ℕ) → at_seats D (xs ++ cells_from i n) ≡ at_seats D xs ++ cells_at i n
  with-cells xs i n = seats-then xs (cells_from i n) ∙ ap (λ q. at_seats D xs ++ q) (cells-are i n)

  pub own-are : (bs : List Bool) (ss : List Seat) (i : ℕ) → at_seats D (own_seats bs ss i) ≡ own_cells bs (at_seats D ss) i
  own-are [] ss i = refl
  own-are (b ∷ bs) [] i = refl
  own-are (true ∷ bs) (s ∷ ss) i = ap (λ q. cells.At i ∷ q) (own-are bs ss (suc i))
  own-are (false ∷ bs) (s ∷ ss) i = ap (λ q. at_seat D s ∷ q) (own-are bs ss i)

  pub stand-are : (P : Plan) (cs : List Collect) (own first : ℕ) → at_seats D (stand_from cs own first) ≡ stand P (map collect_in cs) own first
  stand-are P [] own first = refl
  stand-are P (collect.Sifts j mask copies ∷ cs) own first = ap (λ q. cells.At own ∷ q) (stand-are P cs (suc own) first)
  stand-are P (collect.Final j ∷ cs) own first = ap (λ q. cells.At (first + j) ∷ q) (stand-are P cs own first)

  -- one port, by how it is handled
  pick-one : (args : List Seat) (lo : ℕ) (h : Handled) (x : Port) (rest : List Port) (bs : List Bool) (ss : List cells.Operand) → picked bs ss ≡ at_seats D (seats_at args lo rest)
      → picked (picks_by h ∷ bs) (at_seat D (seat_at args lo x.feed) ∷ ss) ≡ at_seats D (seats_at args lo (if picks_by h then x ∷ rest else rest))
  pick-one args lo handled.Looks x rest bs ss e = e
  pick-one args lo handled.Takes x rest bs ss e = e
  pick-one args lo handled.Copies x rest bs ss e = ap (λ q. at_seat D (seat_at args lo x.feed) ∷ q) e

  pub picked-are : (args : List Seat) (lo : ℕ) (xs : List Port) → picked (map picks_of xs) (at_seats D (seats_at args lo xs)) ≡ at_seats D (seats_at args lo (copied_ports xs))
  picked-are args lo [] = refl
  picked-are args lo (x ∷ xs) = pick-one args lo x.handled x (copied_ports xs) (map picks_of xs) (at_seats D (seats_at args lo xs)) (picked-are args lo xs)

  pub arms-are : (gs : List ℕ) (P : Plan) → ((g : ℕ) → P.size g ≡ size_in D g) → arms_size P gs ≡ arms_steps D gs
  arms-are [] P same = refl
  arms-are (g ∷ gs) P same = ap (λ q. suc q + arms_size P gs) (same g) ∙ ap (λ q. suc (size_in D g) + q) (arms-are gs P same)

  pub starts-long : (gs : List ℕ) (t : ℕ) → length gs ≡ length (starts_from D gs t)
  starts-long [] t = refl
  starts-long (g ∷ gs) t = ap suc (starts-long gs (t + suc (size_in D g)))

  pub starts-are : (gs : List ℕ) (t : ℕ) (P : Plan) (make : Makes P) (room : ℕ) → ((g : ℕ) → P.size g ≡ size_in D g) → starts_from D gs t ≡ arms_at P make room gs t
  starts-are [] t P make room same = refl
  starts-are (g ∷ gs) t P make room same =
      ap (λ q. t ∷ starts_from D gs (t + suc q)) (sym (same g)) ∙ ap (λ q. t ∷ q) (starts-are gs (t + suc (P.size g)) P make room same)

mode-one : (h : Handled) (x : Port) (rest : List Port) (bs : List Bool) → x.handled ≡ h → map mode_of rest ≡ copies_of bs → map mode_of (if picks_by h then x ∷ rest else rest) ≡ copies_of (picks_by h ∷ bs)
mode-one handled.Looks x rest bs e f = f
mode-one handled.Takes x rest bs e f = f
mode-one handled.Copies x rest bs e f = ap (λ q. mode_by q ∷ map mode_of rest) e ∙ ap (λ q. Copies ∷ q) f

pub modes-copied : (xs : List Port) → map mode_of (copied_ports xs) ≡ copies_of (map picks_of xs)
modes-copied [] = refl
modes-copied (x ∷ xs) = mode-one x.handled x (copied_ports xs) (map picks_of xs) refl (modes-copied xs)

many-one : (h : Handled) (x : Port) (rest : List Port) (bs : List Bool) → length rest ≡ count_true bs → length (if picks_by h then x ∷ rest else rest) ≡ count_true (picks_by h ∷ bs)
many-one handled.Looks x rest bs f = f
many-one handled.Takes x rest bs f = f
many-one handled.Copies x rest bs f = ap suc f

pub many-copied : (xs : List Port) → length (copied_ports xs) ≡ count_true (map picks_of xs)
many-copied [] = refl
many-copied (x ∷ xs) = many-one x.handled x (copied_ports xs) (map picks_of xs) (many-copied xs)

is-column-more : (a b : ℕ) (x : Collect) → a ≤ b → IsColumnBelow a x → IsColumnBelow b x
is-column-more a b (collect.Sifts j mask copies) le h = tt
is-column-more a b (collect.Final j) le h = omega (arith, le, h)

pub columns-more : (a b : ℕ) (xs : List Collect) → a ≤ b → AreColumnsBelow a xs → AreColumnsBelow b xs
columns-more a b [] le h = tt
columns-more a b (x ∷ xs) le h = (is-column-more a b x le h.0, columns-more a b xs le h.1)

-- what is read at the end of a graph stands in its cells
pub results-below : (D : PlanData) → IsFormed D → (g up : ℕ) → up + extent_in D g ≤ 2 ^ 32 - 1 → (ports : List Port) → ports ≡ graph_results D g → AreBelow (2 ^ 32 - up) ports
results-below D formed g up le ports e = below-more (extent_in D g) (2 ^ 32 - up) ports (omega (arith, le)) (subst (AreBelow (extent_in D g)) (sym e) (formed.results g))

-- ---- with the plan

module _ (D : PlanData) (formed : IsFormed D) (P : Plan) (S : Shares) (stands : Stands D P S) where
  input-is : (args : List Seat) (i : ℕ) → at_seat D (get_or args i (seat.Literal 0)) ≡ get_or (at_seats D args) i (cells.Lit Unfilled)
  input-is args i = sym (get_or-map (at_seat D) args i (seat.Literal 0)) ∙ ap (λ q. get_or (at_seats D args) i (cells.Lit q)) formed.unfilled

  pub feed-is : (g : ℕ) (args : List Seat) (lo : ℕ) (x : Feed) (o : Source) → IsFed D P S g x o → at_seat D (seat_at args lo x) ≡ operand (placed P (at_seats D args) (P.nodes g) lo) o
  feed-is g args lo (feed.Input i) o e =
      let one : i ≡ suc i - 1 = omega arith in
      input-is args i ∙ (ap (λ q. get_or (at_seats D args) q (cells.Lit Unfilled)) one ∙ sym (ap (operand (placed P (at_seats D args) (P.nodes g) lo)) e))
  feed-is g args lo (feed.Literal n) o e = sym (ap (operand (placed P (at_seats D args) (P.nodes g) lo)) e)
  feed-is g args lo (feed.Output c) o e = sym (ap (operand (placed P (at_seats D args) (P.nodes g) lo)) e.2 ∙ e.3 lo)

  pub fed-are : (g : ℕ) (args : List Seat) (lo : ℕ) (xs : List Port) (os : List Source) → AreFed D P S g xs os → at_seats D (seats_at args lo xs) ≡ map (operand (placed P (at_seats D args) (P.nodes g) lo)) os
  fed-are g args lo [] [] e = refl
  fed-are g args lo (x ∷ xs) (o ∷ os) e =
      ap (λ q. q ∷ at_seats D (seats_at args lo xs)) (feed-is g args lo x.feed o e.0) ∙ ap (λ q. operand (placed P (at_seats D args) (P.nodes g) lo) o ∷ q) (fed-are g args lo xs os e.1)
  fed-are g args lo [] (o ∷ os) e = absurd e
  fed-are g args lo (x ∷ xs) [] e = absurd e

  pub ends-are : (g : ℕ) (args : List Seat) (lo : ℕ) → at_seats D (seats_at args lo (graph_results D g)) ≡ ends_at P (at_seats D args) g lo
  ends-are g args lo = fed-are g args lo (graph_results D g) (P.results g) (stands.results g)

  first-is : (args : List Seat) (lo : ℕ) (xs : List Port) → at_seat D (first_seat args lo xs) ≡ get_or (at_seats D (seats_at args lo xs)) 0 (cells.Lit Unfilled)
  first-is args lo [] = ap cells.Lit formed.unfilled
  first-is args lo (x ∷ xs) = refl

  pub end-is : (g : ℕ) (args : List Seat) (lo : ℕ) → at_seat D (first_seat args lo (graph_results D g)) ≡ end_at P (at_seats D args) g lo
  end-is g args lo = first-is args lo (graph_results D g) ∙ ap (λ q. get_or q 0 (cells.Lit Unfilled)) (ends-are g args lo)

  last-is : (r : ℕ) → P.size (P.refolded r) ≡ size_in D (graph_refolded D r)
  last-is r = ap P.size (stands.refolded r) ∙ stands.sizes (graph_refolded D r)

  pub work-is : (x : Work) (n : ℕ) → kind_size P (kind_of x n) ≡ work_steps D x
  work-is (work.Plain row shape writes copies) n = refl
  work-is (work.Call f) n = refl
  work-is (work.Select s gs) n = let a = stands.sizes s in let b = arms-are D gs P stands.sizes in omega (arith, a, b)
  work-is (work.TagCase gs) n = let b = arms-are D gs P stands.sizes in omega (arith, b)
  work-is (work.LoopA p) n = let a = stands.sizes p.init in let b = stands.sizes p.body in let c = stands.sizes p.test in let d = last-is p.returns in omega (arith, a, b, c, d)
  work-is (work.LoopB p) n = let a = stands.sizes p.init in let b = stands.sizes p.body in let c = stands.sizes p.test in let d = last-is p.returns in omega (arith, a, b, c, d)
  work-is (work.ForAll g b r m) n = let a = stands.sizes g in let c = stands.sizes b in let d = last-is r in omega (arith, a, c, d)
