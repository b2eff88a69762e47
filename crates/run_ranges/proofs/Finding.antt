-- Each Each of code that is made of a plan is that of a ForAll whose body keeps to itself.
use Rattle.std.proofs.Common.{◌≡◌, ℕ, zero, suc, ◌+◌, ◌-◌, ◌<◌, ◌≤◌, inl, inr, max, ltb, Bool, true, false, List, [], ◌∷◌, ◌++◌, length, map, drop, get_or, refl, sym, ap, ◌∙◌, subst, arith}
use Rattle.std.proofs.lemmas.Bool.{ltb-false, ltb-true}
use Rattle.std.proofs.lemmas.List.{length-append, length-map}
use Rattle.std.proofs.Math.Nat.{le-max_left, le-max_right}
use Rattle.graph_meaning.specs.Carried.{Carried, Unfilled}
use Rattle.graph_meaning.specs.Demand.{EachNode, Fixed, Kind, Network, Plain, Port, Source, Vertex, Whole}
use Rattle.graph_meaning.specs.Entered.{IsIn}
use Rattle.graph_meaning.specs.Forms as form
use Rattle.run_code.specs.Cells.{At, Lit, Operand, cells_at, own_cells, picked}
use Rattle.run_code.specs.Coded.{Layout, Places, Puts, Starts, operand, the_for_all}
use Rattle.run_code.specs.Collections.{AreWithin, Collect, sifts_in}
use Rattle.run_code.specs.Known.{IsReadable, Known, KnowsAll}
use Rattle.run_code.specs.Machine.{Weigh}
use Rattle.run_code.specs.Made.{IsSized, Line, Makes, OfInputs, OfNothing, OfResults, OfRows, Plan, arm_code, arms_at, arms_code, end_at, ends_at, for_all_code, function_lines, functions_lines, functions_size, graph_code, greatest_extent, kind_code, kind_size, line, loop_code, loop_extent, nodes_code, nodes_extent, parts_code, parts_extent, placed, room_of, select_code, stand, tag_code}
use Rattle.run_code.specs.Steps.{Add, Branch, Call, Code, Count, Each, Fire, Keep, Move, Return, Spread, Step, Tag, Test}
use Rattle.run_laws.proofs.Cells.{MayRead}
use Rattle.run_laws.specs.Inside.{AreCells, IsCell, Stays}
use Rattle.run_made.proofs.Arms.{Does, arm-made, as-planned, starts-made}
use Rattle.run_made.proofs.Inside.{graph-stays}
use Rattle.run_made.proofs.Lengths.{IsLong, arm-long, graph-long, kind-long}
use Rattle.run_made.proofs.Lying.{PutsAll, are-labelled, lies-first, lies-rest, own-are, picked-long, puts-placed}
use Rattle.run_made.proofs.Making.{function-long, graph-made}
use Rattle.run_made.proofs.Staying.{AllStay, DoStay, both-inside, cells-inside, get-inside, own-inside, rest-inside, stand-inside}
use Rattle.run_made.specs.Plans.{All, CanLay, IsInner, IsKindRight, IsRefolded, IsRightPlan, Lie, Weighing, laid_as}
use Rattle.run_ranges.specs.Apart.{AreApart, KeepsApart}
use Rattle.run_ranges.specs.Eaches.{AreEachesOfForAlls, IsOfForAll}
use Rattle.run_ranges.specs.Ranges.{ForAllAt, iterations}
use Rattle.run_ranges.proofs.Off.{AllOff, DoOff, IsOff, both-apart, cells-apart, ends-apart, graph-off, steps-apart}

-- ---- steps of other kinds

abbrev pub IsOther : Step → Type 0
IsOther (Each n from count turn leave) = ⊥
IsOther _ = Unit {0}

pub no-each : (x : Step) → IsOther x → (n from count turn leave : ℕ) → x ≡ Each n from count turn leave → ⊥
no-each (Fire row shape ins out w) o n from count turn leave e = cc
no-each Count o n from count turn leave e = cc
no-each (Move froms out w next) o n from count turn leave e = cc
no-each (Tag union ts content out w next) o n from count turn leave e = cc
no-each (Branch sel ts out w next) o n from count turn leave e = cc
no-each (Test test turn' leave' out w next) o n from count turn leave e = cc
no-each (Keep begins cs froms out next) o n from count turn leave e = cc
no-each (Spread froms cs to turns out w next) o n from count turn leave e = cc
no-each (Each n' from' count' turn' leave') o n from count turn leave e = absurd o
no-each (Add cs froms out next) o n from count turn leave e = cc
no-each (Call entry size args out w) o n from count turn leave e = cc
no-each (Return froms) o n from count turn leave e = cc

same-froms : (cs ds : List Collect) (froms gives : List Operand) (out to next then₁ : ℕ) → Add cs froms out next ≡ Add ds gives to then₁ → froms ≡ gives
same-froms cs ds froms gives out to next then₁ e = cc

-- ---- cells below a number

cells-up : (lo top : ℕ) (args : List Operand) → lo ≤ top → AreCells lo args → AreCells top args
cells-up lo top [] le h = tt
cells-up lo top (Lit c ∷ args) le h = (tt, cells-up lo top args le h.1)
cells-up lo top (At i ∷ args) le h = let lt = h.0 in (omega (arith, lt, le), cells-up lo top args le h.1)

below-apart : (first last : ℕ) (args : List Operand) → AreCells first args → AreApart first last args
below-apart first last [] h = tt
below-apart first last (Lit c ∷ args) h = (tt, below-apart first last args h.1)
below-apart first last (At i ∷ args) h = (inl h.0, below-apart first last args h.1)

-- ports that may be read stand below a number
abbrev Under : Known → (lo : ℕ) → Places → Type 0
Under known lo places = (l p : ℕ) → MayRead known l p → IsCell lo (places l p)

cell-up : (lo top : ℕ) (a : Operand) → lo ≤ top → IsCell lo a → IsCell top a
cell-up lo top (Lit c) le h = tt
cell-up lo top (At i) le h = omega (arith, h, le)

read-under : (known : Known) (lo : ℕ) (places : Places) → Under known lo places → (os : List Source) → KnowsAll known os → AreCells lo (map (operand places) os)
read-under known lo places under [] may = tt
read-under known lo places under (Fixed c ∷ os) may = (tt, read-under known lo places under os may)
read-under known lo places under (Port zero p ∷ os) may = (under 0 p (inl refl), read-under known lo places under os may)
read-under known lo places under (Port (suc l) p ∷ os) may = (under (suc l) p (inr may.0), read-under known lo places under os may.1)

under-next : (known : Known) (lo w l : ℕ) (places : Places) → Under known lo places → Puts places l lo w → Under ((l, w) ∷ known) (lo + w) places
under-next known lo w l places under puts label port (inl z) = cell-up lo (lo + w) (places label port) (omega arith) (under label port (inl z))
under-next known lo w l places under puts label port (inr (inr k)) = cell-up lo (lo + w) (places label port) (omega arith) (under label port (inr k))
under-next known lo w l places under puts label port (inr (inl x)) =
    let i = x.1 in
    let lt = x.2 in
    let e : places label port ≡ At (lo + i) = ap (λ z. places z port) x.0 ∙ (ap (places l) x.3 ∙ puts i lt) in
    subst (IsCell (lo + w)) (sym e) (omega (arith, lt))

module _ (P : Plan) (W : Weighing) (u : Network) (order : ℕ → List Vertex) (functions : List ℕ) (code : Code) (weigh : Weigh) where
  abbrev X : Layout
  X = laid_as P W u order functions code weigh

  abbrev F : ℕ → Type 0
  F a = (n first count turn leave : ℕ) → code a ≡ Each n first count turn leave → IsOfForAll X a

  -- so it is with all of these, from a place on
  abbrev AllFound : (place : ℕ) → List Line → Type 0
  AllFound a [] = Unit {0}
  AllFound a (l ∷ ls) = F a × AllFound (suc a) ls

  found-both : (a b : ℕ) (xs ys : List Line) → b ≡ a + length xs → AllFound a xs → AllFound b ys → AllFound a (xs ++ ys)
  found-both a b [] ys e f g = subst (λ x. AllFound x ys) (omega (arith, e)) g
  found-both a b (x ∷ xs) ys e f g = (f.0, found-both (suc a) b xs ys (omega (arith, e)) f.1 g)

  other : (a : ℕ) (x : Step) → IsOther x → code a ≡ x → F a
  other a x o is n first count turn leave e = absurd (no-each x o n first count turn leave (sym is ∙ e))

  found-at : (a : ℕ) (xs : List Line) → AllFound a xs → (pc : ℕ) → a ≤ pc → pc < a + length xs → F pc
  found-at a [] h pc le lt = absurd (omega (arith, le, lt))
  found-at a (x ∷ xs) h pc le lt = go (ltb a pc) refl (λ more. found-at (suc a) xs h.1 pc (omega (arith, more)) (omega (arith, lt)))
    where
      go : (c : Bool) → ltb a pc ≡ c → (a < pc → F pc) → F pc
      go true e later = later (ltb-true a pc e)
      go false e later = let no = ltb-false a pc e in let same : a ≡ pc = omega (arith, le, no) in subst F same h.0

  -- a step of what lies there, stays and is off some cells
  at-place : (room begin end first last a : ℕ) (xs : List Line) → Lie W code weigh a xs → AllStay X room begin end a xs → AllOff first last xs → (pc : ℕ) → a ≤ pc → pc < a + length xs → Stays X room begin end pc (code pc) × IsOff first last (code pc)
  at-place room begin end first last a [] lies stay off pc le lt = absurd (omega (arith, le, lt))
  at-place room begin end first last a (x ∷ xs) lies stay off pc le lt =
      go (ltb a pc) refl (λ more. at-place room begin end first last (suc a) xs lies.2 stay.1 off.1 pc (omega (arith, more)) (omega (arith, lt)))
    where
      go : (c : Bool) → ltb a pc ≡ c → (a < pc → Stays X room begin end pc (code pc) × IsOff first last (code pc)) → Stays X room begin end pc (code pc) × IsOff first last (code pc)
      go true e later = later (ltb-true a pc e)
      go false e later =
          let no = ltb-false a pc e in
          let same : a ≡ pc = omega (arith, le, no) in
          subst (λ y. Stays X room begin end y (code y) × IsOff first last (code y)) same (subst (Stays X room begin end a) (sym lies.0) stay.0, subst (IsOff first last) (sym lies.0) off.0)

  module _ (sized : (g : ℕ) → IsSized P g) (room : ℕ) (make : Makes P) (lays : ℕ → Type 0) (long : IsLong P make lays) (does : Does P W u order functions code weigh room make lays)
      (stay : (begin end : ℕ) → DoStay X room begin end P make lays) (off : (first last : ℕ) (high : last < room) → DoOff first last P room high make) where
    abbrev DoFind : Type 0
    DoFind = (args : List Operand) (g a lo : ℕ) → lays g → AreCells lo args → lo + P.extent g ≤ room → Lie W code weigh a (make room args g a lo) → AllFound a (make room args g a lo)

    module _ (find : (args : List Operand) (g a lo : ℕ) → lays g → AreCells lo args → lo + P.extent g ≤ room → Lie W code weigh a (make room args g a lo) → AllFound a (make room args g a lo)) where
      arm-find : (args : List Operand) (g t w b lo up : ℕ) → lays g → AreCells up args → up + P.extent g ≤ room → Lie W code weigh t (arm_code P make room args g t w b lo up) → AllFound t (arm_code P make room args g t w b lo up)
      arm-find args g t w b lo up right ins fits lies =
          let one = long room args g t up right in
          let here = make room args g t up in
          let move = line (OfResults g) (Move (ends_at P args g up) lo w b) ∷ [] in
          let rest = lies-rest W code weigh t (t + P.size g) here move (omega (arith, one)) lies in
          found-both t (t + P.size g) here move (omega (arith, one)) (find args g t up right ins fits (lies-first W code weigh t here move lies)) (other (t + P.size g) (Move (ends_at P args g up) lo w b) tt rest.0, tt)

      arms-find : (args : List Operand) (gs : List ℕ) (t w b lo up : ℕ) → All (IsInner P W u order functions lays) gs → AreCells up args → up + greatest_extent P gs ≤ room → Lie W code weigh t (arms_code P make room args gs t w b lo up)
          → AllFound t (arms_code P make room args gs t w b lo up)
      arms-find args [] t w b lo up right ins fits lies = tt
      arms-find args (g ∷ gs) t w b lo up right ins fits lies =
          let first = le-max_left (P.extent g) (greatest_extent P gs) in
          let second = le-max_right (P.extent g) (greatest_extent P gs) in
          let one = arm-long P make lays long room args g t w b lo up right.0.1 in
          let here = arm_code P make room args g t w b lo up in
          let others = arms_code P make room args gs (t + suc (P.size g)) w b lo up in
          found-both t (t + suc (P.size g)) here others (omega (arith, one)) (arm-find args g t w b lo up right.0.1 ins (omega (arith, fits, first)) (lies-first W code weigh t here others lies))
          (arms-find args gs (t + suc (P.size g)) w b lo up right.1 ins (omega (arith, fits, second)) (lies-rest W code weigh t (t + suc (P.size g)) here others (omega (arith, one)) lies))

      select-find : (own : List Operand) (s : ℕ) (gs : List ℕ) (a w b lo mid : ℕ) → lays s → All (IsInner P W u order functions lays) gs → AreCells mid own → mid + max (P.extent s) (greatest_extent P gs) ≤ room
          → Lie W code weigh a (select_code P make room own s gs a w b lo mid) → AllFound a (select_code P make room own s gs a w b lo mid)
      select-find own s gs a w b lo mid right others ins fits lies =
          let first = le-max_left (P.extent s) (greatest_extent P gs) in
          let second = le-max_right (P.extent s) (greatest_extent P gs) in
          let m = a + P.size s in
          let one = long room own s a mid right in
          let here = make room own s a mid in
          let branch = Branch (end_at P own s mid) (arms_at P make room gs (suc m)) lo w b in
          let arms = line OfNothing branch ∷ arms_code P make room own gs (suc m) w b lo mid in
          let rest = lies-rest W code weigh a m here arms (omega (arith, one)) lies in
          found-both a m here arms (omega (arith, one)) (find own s a mid right ins (omega (arith, fits, first)) (lies-first W code weigh a here arms lies))
          (other m branch tt rest.0, arms-find own gs (suc m) w b lo mid others ins (omega (arith, fits, second)) rest.2)

      tag-find : (own : List Operand) (gs : List ℕ) (a w b lo mid : ℕ) → All (IsInner P W u order functions lays) gs → AreCells mid own → mid + suc (greatest_extent P gs) ≤ room
          → Lie W code weigh a (tag_code P make room own gs a w b lo mid) → AllFound a (tag_code P make room own gs a w b lo mid)
      tag-find own gs a w b lo mid others ins fits lies = (
        other a (Tag (get_or own 0 (Lit Unfilled)) (arms_at P make room gs (suc a)) mid lo w b) tt lies.0,
        arms-find (At mid ∷ drop 1 own) gs (suc a) w b lo (suc mid) others (omega arith, cells-up mid (suc mid) (drop 1 own) (omega arith) (rest-inside mid own ins)) (omega (arith, fits)) lies.2,
      )

      loop-find : (own : List Operand) (i t body r : ℕ) (first : List Line) (starts turn a w b lo mid : ℕ)
          → (let n = length (P.results i) in let k = length (P.collects r) in
          lays i → lays t → lays body → lays (P.refolded r) → AreWithin n (P.collects r) → AreCells mid own → mid + loop_extent P i t body r ≤ room
          → turn ≡ suc (a + P.size i) + length first → (Lie W code weigh (suc (a + P.size i)) first → AllFound (suc (a + P.size i)) first)
          → Lie W code weigh a (loop_code P make room own i t body r first starts turn a w b lo mid n k) → AllFound a (loop_code P make room own i t body r first starts turn a w b lo mid n k))
      loop-find own i t body r first starts turn a w b lo mid in_i in_t in_b in_r within ins fits goes firsts lies =
          let n = length (P.results i) in
          let k = length (P.collects r) in
          let o = P.refolded r in
          let cs = sifts_in (P.collects r) in
          let top = mid + (n + k) in
          let begun = a + P.size i in
          let turned = turn + P.size body in
          let tests = suc turned in
          let tested = tests + P.size t in
          let leave = suc tested in
          let x = own ++ cells_at mid n in
          let y = own ++ stand P (P.collects r) (mid + n) mid in
          let keep0 = Keep true cs (ends_at P own i mid) mid starts in
          let keep1 = Keep false cs (ends_at P x body top) mid tests in
          let test = Test (end_at P x t top) turn leave lo w b in
          let s4 = arm_code P make room y o leave w b lo top in
          let s3 = line OfNothing test ∷ s4 in
          let s2 = line (OfResults body) keep1 ∷ (make room x t tests top ++ s3) in
          let s1 = make room x body turn top ++ s2 in
          let s0 = line (OfResults i) keep0 ∷ (first ++ s1) in
          let l0 = long room own i a mid in_i in
          let l1 = long room x body turn top in_b in
          let l2 = long room x t tests top in_t in
          let m0 = le-max_left (P.extent i) (n + (k + greatest_extent P (t ∷ body ∷ o ∷ []))) in
          let m1 = le-max_right (P.extent i) (n + (k + greatest_extent P (t ∷ body ∷ o ∷ []))) in
          let m2 = le-max_left (P.extent t) (greatest_extent P (body ∷ o ∷ [])) in
          let m3 = le-max_right (P.extent t) (greatest_extent P (body ∷ o ∷ [])) in
          let m4 = le-max_left (P.extent body) (greatest_extent P (o ∷ [])) in
          let m5 = le-max_right (P.extent body) (greatest_extent P (o ∷ [])) in
          let m6 = le-max_left (P.extent o) 0 in
          let own_top = cells-up mid top own (omega arith) ins in
          let in_x = both-inside top own (cells_at mid n) own_top (cells-inside top mid n (omega arith)) in
          let in_y = both-inside top own (stand P (P.collects r) (mid + n) mid) own_top (stand-inside P top n (P.collects r) (mid + n) mid within (omega arith) (omega arith)) in
          let r0 = lies-rest W code weigh a begun (make room own i a mid) s0 (omega (arith, l0)) lies in
          let f0 = lies-first W code weigh (suc begun) first s1 r0.2 in
          let r1 = lies-rest W code weigh (suc begun) turn first s1 goes r0.2 in
          let r2 = lies-rest W code weigh turn turned (make room x body turn top) s2 (omega (arith, l1)) r1 in
          let r3 = lies-rest W code weigh tests tested (make room x t tests top) s3 (omega (arith, l2)) r2.2 in
          let t4 = arm-find y o leave w b lo top in_r in_y (omega (arith, fits, m1, m3, m5, m6)) r3.2 in
          let t3 : AllFound tests (make room x t tests top ++ s3) =
          found-both tests tested (make room x t tests top) s3 (omega (arith, l2)) (find x t tests top in_t in_x (omega (arith, fits, m1, m2)) (lies-first W code weigh tests (make room x t tests top) s3 r2.2)) (other tested test tt r3.0, t4) in
          let t2 : AllFound turn s1 =
          found-both turn turned (make room x body turn top) s2 (omega (arith, l1)) (find x body turn top in_b in_x (omega (arith, fits, m1, m3, m4)) (lies-first W code weigh turn (make room x body turn top) s2 r1)) (other turned keep1 tt r2.0, t3) in
          found-both a begun (make room own i a mid) s0 (omega (arith, l0)) (find own i a mid in_i ins (omega (arith, fits, m0)) (lies-first W code weigh a (make room own i a mid) s0 lies))
          (other begun keep0 tt r0.0, found-both (suc begun) turn first s1 goes (firsts f0) t2)

      for-all-find : (args : List Operand) (picks : List Bool) (e body r m : ℕ) (own : List Carried → List Carried → ℕ) (w a b lo mid : ℕ)
          → (let n = length (P.results e) in let k = length (P.collects r) in
          Starts X a lo w picks args own mid
          → IsInner P W u order functions lays e → IsInner P W u order functions lays body → length (P.results body) ≡ m → lays (P.refolded r)
          → IsRefolded P W u order functions (length args + n) m r (W.rows r) → AreCells mid (own_cells picks args (lo + w))
          → mid + max (P.extent e) (n + (k + max (suc n + P.extent body) (P.extent (P.refolded r)))) ≤ room
          → Lie W code weigh (suc (suc a)) (for_all_code P make room (own_cells picks args (lo + w)) e body r (suc (suc (suc a) + P.size e)) (suc (suc a)) w b lo mid n k)
          → AllFound (suc (suc a)) (for_all_code P make room (own_cells picks args (lo + w)) e body r (suc (suc (suc a) + P.size e)) (suc (suc a)) w b lo mid n k))
      for-all-find args picks e body r m own w a b lo mid begins in_e in_b same in_r refolds ins fits lies =
          let n = length (P.results e) in
          let k = length (P.collects r) in
          let o = P.refolded r in
          let mine = own_cells picks args (lo + w) in
          let top = mid + (n + k) in
          let made = suc (suc a) + P.size e in
          let turn = suc made in
          let turned = turn + P.size body in
          let turns = suc turned in
          let leave = suc turns in
          let x = mine ++ cells_at (suc top) n in
          let y = (mine ++ cells_at mid n) ++ cells_at (mid + n) k in
          let spread = Spread (ends_at P mine e mid) (P.collects r) mid turns lo w b in
          let add = Add (P.collects r) (ends_at P x body (suc top + n)) (mid + n) turns in
          let s3 = arm_code P make room y o leave w b lo top in
          let s2 = line (OfRows body r) add ∷ line OfNothing (Each n mid top turn leave) ∷ s3 in
          let within_body = make room x body turn (suc top + n) in
          let s1 = line (OfResults e) spread ∷ (within_body ++ s2) in
          let l0 = long room mine e (suc (suc a)) mid in_e.1 in
          let l1 = long room x body turn (suc top + n) in_b.1 in
          let m0 = le-max_left (P.extent e) (n + (k + max (suc n + P.extent body) (P.extent o))) in
          let m1 = le-max_right (P.extent e) (n + (k + max (suc n + P.extent body) (P.extent o))) in
          let m2 = le-max_left (suc n + P.extent body) (P.extent o) in
          let m3 = le-max_right (suc n + P.extent body) (P.extent o) in
          let fit_e : mid + P.extent e ≤ room = omega (arith, fits, m0) in
          let fit_b : (suc top + n) + P.extent body ≤ room = omega (arith, fits, m1, m2) in
          let fit_r : top + P.extent o ≤ room = omega (arith, fits, m1, m3) in
          let high : top < room = omega (arith, fit_b) in
          let r0 = lies-rest W code weigh (suc (suc a)) made (make room mine e (suc (suc a)) mid) s1 (omega (arith, l0)) lies in
          let r1 = lies-rest W code weigh turn turned within_body s2 (omega (arith, l1)) r0.2 in
          let lies_e = lies-first W code weigh (suc (suc a)) (make room mine e (suc (suc a)) mid) s1 lies in
          let lies_b = lies-first W code weigh turn within_body s2 r0.2 in
          let arm = arm-made P W u order functions code weigh room make lays long does y o leave w b lo top in_r fit_r r1.2.2 in
          let part_e = does mine e (suc (suc a)) mid in_e.1 fit_e lies_e in
          let part_b = does x body turn (suc top + n) in_b.1 fit_b lies_b in
          let is = the_for_all args e body r m own w a b lo picks mid n k made turns turn turned leave (leave + P.size o) o (P.nodes o) (P.results o) (P.collects r) (W.rows r)
          (ends_at P mine e mid) (ends_at P x body (suc top + n)) (ends_at P y o top) mine mine
          begins
          (as-planned P W u order functions code weigh room mine e (suc (suc a)) made mid (ends_at P mine e mid) in_e.0 part_e)
          r0.0 (λ ks. r0.1 ks []) (length-map (P.results e) (operand (placed P mine (P.nodes e) mid))) refl
          r1.2.0
          (own-are picks args (lo + w))
          (as-planned P W u order functions code weigh room x body turn turned (suc top + n) (ends_at P x body (suc top + n)) in_b.0 part_b)
          r1.0 (λ ks. r1.1 ks []) (length-map (P.results body) (operand (placed P x (P.nodes body) (suc top + n))) ∙ same)
          refolds.0 refolds.1
          (own-are picks args (lo + w))
          arm.0 arm.1 in
          let f : ForAllAt X = record { room = room; args = args; generator = e; body = body; returns = r; many = m; own = own; width = w; begin = a; end = b; low = lo; is = is } in
          let in_x = both-inside (suc top + n) mine (cells_at (suc top) n) (cells-up mid (suc top + n) mine (omega arith) ins) (cells-inside (suc top + n) (suc top) n (omega arith)) in
          let own_top = cells-up mid top mine (omega arith) ins in
          let in_y = both-inside top (mine ++ cells_at mid n) (cells_at (mid + n) k) (both-inside top mine (cells_at mid n) own_top (cells-inside top mid n (omega arith))) (cells-inside top (mid + n) k (omega arith)) in
          let apart_x = both-apart mid top mine (cells_at (suc top) n) (below-apart mid top mine ins) (cells-apart mid top (suc top) n (omega arith)) in
          let stays = stay turn (suc turned) x body turn (suc top + n) (omega arith) in_b.1 (cells-up (suc top + n) room x (omega (arith, fit_b)) in_x) fit_b (omega arith) in
          let offs = off mid top high x body turn (suc top + n) apart_x (omega arith) in
          let apart : KeepsApart X (iterations X f) = record {
            ahead = omega arith;
            behind = omega arith;
            body = λ pc from to.
                let s = at-place room turn (suc turned) mid top turn within_body lies_b stays offs pc from (omega (arith, to, l1)) in
                steps-apart mid top X room turn turned pc from (code pc) s.0 s.1;
            results = λ cs froms out next is.
                subst (AreApart mid top) (same-froms (P.collects r) cs (ends_at P x body (suc top + n)) froms (mid + n) out turns next (sym r1.0 ∙ is)) (ends-apart mid top P x body (suc top + n) apart_x (omega arith));
          } in
          let here : F turns = λ n' first count turn' leave' is'. record { it = f; leave = leave; each_is = refl; step_is = r1.2.0; apart = apart } in
          found-both (suc (suc a)) made (make room mine e (suc (suc a)) mid) s1 (omega (arith, l0)) (find mine e (suc (suc a)) mid in_e.1 ins fit_e lies_e) (
            other made spread tt r0.0,
            found-both turn turned within_body s2 (omega (arith, l1)) (find x body turn (suc top + n) in_b.1 in_x fit_b lies_b)
                (other turned add tt r1.0, (here, arm-find y o leave w b lo top in_r in_y fit_r r1.2.2)),
          )

      parts-find : (g : ℕ) (v : Vertex) (args : List Operand) (k : Kind) (a lo : ℕ)
          → (let w = P.width v in let own = own_cells (P.picks g v) args (lo + w) in let mid = (lo + w) + length (picked (P.picks g v) args) in let b = a + kind_size P k in
          length args ≡ length v.ins → IsKindRight P W u order functions lays g v k → AreCells mid own → mid + parts_extent P k ≤ room
          → Lie W code weigh a (line OfNothing Count ∷ line (OfInputs g v) (Move (picked (P.picks g v) args) (lo + w) (length (picked (P.picks g v) args)) (suc (suc a))) ∷ parts_code P make room own k (suc (suc a)) w b lo mid)
          → AllFound (suc (suc a)) (parts_code P make room own k (suc (suc a)) w b lo mid))
      parts-find g v args (Plain row shape) a lo many right ins fits lies = tt
      parts-find g v args (Whole (form.Call f)) a lo many right ins fits lies = tt
      parts-find g v args (Whole (form.Select s gs n)) a lo many right ins fits lies =
          select-find (own_cells (P.picks g v) args (lo + P.width v)) s gs (suc (suc a)) (P.width v) (a + kind_size P (Whole (form.Select s gs n))) lo ((lo + P.width v) + length (picked (P.picks g v) args)) right.2.1 right.4 ins fits lies.2.2
      parts-find g v args (Whole (form.TagCase gs n)) a lo many right ins fits lies =
          tag-find (own_cells (P.picks g v) args (lo + P.width v)) gs (suc (suc a)) (P.width v) (a + kind_size P (Whole (form.TagCase gs n))) lo ((lo + P.width v) + length (picked (P.picks g v) args)) right.3 ins fits lies.2.2
      parts-find g v args (Whole (form.LoopA i t body r n)) a lo many right ins fits lies =
          loop-find (own_cells (P.picks g v) args (lo + P.width v)) i t body r (line OfNothing Count ∷ []) (suc (suc (suc a) + P.size i)) (suc (suc (suc (suc a) + P.size i))) (suc (suc a)) (P.width v) (a + kind_size P (Whole (form.LoopA i t body r n))) lo
          ((lo + P.width v) + length (picked (P.picks g v) args)) right.2.1 right.3.1 right.5.1 right.7 right.8.1.0 ins fits (omega arith) (λ h. (other (suc (suc (suc a) + P.size i)) Count tt h.0, tt)) lies.2.2
      parts-find g v args (Whole (form.LoopB i t body r n)) a lo many right ins fits lies =
          loop-find (own_cells (P.picks g v) args (lo + P.width v)) i t body r [] (suc (suc (suc (suc a) + P.size i) + P.size body)) (suc (suc (suc a) + P.size i)) (suc (suc a)) (P.width v) (a + kind_size P (Whole (form.LoopB i t body r n))) lo
          ((lo + P.width v) + length (picked (P.picks g v) args)) right.2.1 right.3.1 right.5.1 right.7 right.8.1.0 ins fits (omega arith) (λ h. tt) lies.2.2
      parts-find g v args (Whole (form.ForAll e body r m n)) a lo many right ins fits lies =
          let w = P.width v in
          let b = a + kind_size P (Whole (form.ForAll e body r m n)) in
          let mid = (lo + w) + length (picked (P.picks g v) args) in
          for-all-find args (P.picks g v) e body r m (W.weights.of_node g v) w a b lo mid
          (starts-made P W u order functions code weigh room g v args w a lo (parts_code P make room (own_cells (P.picks g v) args (lo + w)) (Whole (form.ForAll e body r m n)) (suc (suc a)) w b lo mid) right.1 lies) right.2 right.3 right.4 right.5
          (subst (λ z. IsRefolded P W u order functions (z + length (P.results e)) m r (W.rows r)) (sym many) right.6) ins fits lies.2.2

      compound-find : (g : ℕ) (v : Vertex) (args : List Operand) (k : Kind) (a lo : ℕ)
          → (let w = P.width v in let own = own_cells (P.picks g v) args (lo + w) in let mid = (lo + w) + length (picked (P.picks g v) args) in let b = a + kind_size P k in
          length args ≡ length v.ins → IsKindRight P W u order functions lays g v k → AreCells lo args → lo + (w + (length (picked (P.picks g v) args) + parts_extent P k)) ≤ room
          → Lie W code weigh a (line OfNothing Count ∷ line (OfInputs g v) (Move (picked (P.picks g v) args) (lo + w) (length (picked (P.picks g v) args)) (suc (suc a))) ∷ parts_code P make room own k (suc (suc a)) w b lo mid)
          → AllFound a (line OfNothing Count ∷ line (OfInputs g v) (Move (picked (P.picks g v) args) (lo + w) (length (picked (P.picks g v) args)) (suc (suc a))) ∷ parts_code P make room own k (suc (suc a)) w b lo mid))
      compound-find g v args k a lo many right ins fits lies =
          let w = P.width v in
          let mid = (lo + w) + length (picked (P.picks g v) args) in
          let mine = own-inside mid (P.picks g v) args (lo + w) (cells-up lo mid args (omega arith) ins) (omega arith) in (
            other a Count tt lies.0,
            (other (suc a) (Move (picked (P.picks g v) args) (lo + w) (length (picked (P.picks g v) args)) (suc (suc a))) tt lies.2.0, parts-find g v args k a lo many right mine (omega (arith, fits)) lies),
          )

      kind-find : (g : ℕ) (v : Vertex) (args : List Operand) (k : Kind) (a lo : ℕ) → length args ≡ length v.ins → IsKindRight P W u order functions lays g v k → AreCells lo args
          → lo + (P.width v + (length (picked (P.picks g v) args) + parts_extent P k)) ≤ room → Lie W code weigh a (kind_code P make room g v args k (P.width v) a lo) → AllFound a (kind_code P make room g v args k (P.width v) a lo)
      kind-find g v args (Plain row shape) a lo many right ins fits lies = (other a (Fire row shape args lo (P.width v)) tt lies.0, tt)
      kind-find g v args (Whole (form.Call f)) a lo many right ins fits lies = (other a (Call (P.entry f) room args lo (P.width v)) tt lies.0, tt)
      kind-find g v args (Whole (form.Select s gs n)) a lo many right ins fits lies = compound-find g v args (Whole (form.Select s gs n)) a lo many right ins fits lies
      kind-find g v args (Whole (form.TagCase gs n)) a lo many right ins fits lies = compound-find g v args (Whole (form.TagCase gs n)) a lo many right ins fits lies
      kind-find g v args (Whole (form.LoopA i t b r n)) a lo many right ins fits lies = compound-find g v args (Whole (form.LoopA i t b r n)) a lo many right ins fits lies
      kind-find g v args (Whole (form.LoopB i t b r n)) a lo many right ins fits lies = compound-find g v args (Whole (form.LoopB i t b r n)) a lo many right ins fits lies
      kind-find g v args (Whole (form.ForAll e b r m n)) a lo many right ins fits lies = compound-find g v args (Whole (form.ForAll e b r m n)) a lo many right ins fits lies

      nodes-find : (g : ℕ) (places : Places) (vs : List Vertex) (known : Known) (a lo : ℕ) → Under known lo places → IsReadable P.width known vs → PutsAll P places vs lo → EachNode (λ v. IsKindRight P W u order functions lays g v v.kind) vs
          → lo + nodes_extent P g vs ≤ room → Lie W code weigh a (nodes_code P make room g places vs a lo) → AllFound a (nodes_code P make room g places vs a lo)
      nodes-find g places [] known a lo under reads puts right fits lies = tt
      nodes-find g places (v ∷ vs) known a lo under reads puts right fits lies =
          let args = map (operand places) v.ins in
          let m = a + kind_size P v.kind in
          let here = kind_code P make room g v args v.kind (P.width v) a lo in
          let others = nodes_code P make room g places vs m (lo + P.width v) in
          let one = kind-long P W u order functions make lays long room g v args v.kind (P.width v) a lo right.0 in
          let many = length-map v.ins (operand places) in
          let mine = P.width v + (length (picked (P.picks g v) v.ins) + parts_extent P v.kind) in
          let picks = picked-long (P.picks g v) v.ins (operand places) in
          let first = le-max_left mine (P.width v + nodes_extent P g vs) in
          let second = le-max_right mine (P.width v + nodes_extent P g vs) in
          found-both a m here others (omega (arith, one))
          (kind-find g v args v.kind a lo many right.0 (read-under known lo places under v.ins reads.2) (omega (arith, fits, first, picks)) (lies-first W code weigh a here others lies))
          (nodes-find g places vs ((v.label, P.width v) ∷ known) m (lo + P.width v) (under-next known lo (P.width v) v.label places under puts.0) reads.3 puts.1 right.1 (omega (arith, fits, second)) (lies-rest W code weigh a m here others (omega (arith, one)) lies))

  inputs-under : (args : List Operand) (vs : List Vertex) (lo : ℕ) → AreCells lo args → Under [] lo (placed P args vs lo)
  inputs-under args vs lo ins l p (inl z) = subst (λ x. IsCell lo (placed P args vs lo x p)) (sym z) (get-inside lo args (p - 1) ins)
  inputs-under args vs lo ins l p (inr k) = absurd k

  graph-find : (sized : (g : ℕ) → IsSized P g) (room n : ℕ) (args : List Operand) (g a lo : ℕ) → CanLay P W u order functions n g → AreCells lo args → lo + P.extent g ≤ room → Lie W code weigh a (graph_code P n room args g a lo) → AllFound a (graph_code P n room args g a lo)
  graph-find sized room zero args g a lo right ins fits lies = absurd right
  graph-find sized room (suc n) args g a lo right ins fits lies =
      let cells = (sized g).1 in
      let places = placed P args (P.nodes g) lo in
      nodes-find sized room (graph_code P n) (CanLay P W u order functions n) (graph-long P W u order functions sized n) (graph-made P W u order functions code weigh room sized n)
      (λ begin end. graph-stays P W u order functions code weigh room begin end sized n) (λ first last high. graph-off first last P room high n) (graph-find sized room n) g places (P.nodes g) [] a lo
      (inputs-under args (P.nodes g) lo ins) right.readable.0 (puts-placed P args (P.nodes g) lo right.once (are-labelled P.width [] (P.nodes g) right.readable.0)) right.kinds (omega (arith, fits, cells)) lies

  -- ---- functions

  module _ (n : ℕ) (right : IsRightPlan P W u order functions n) where
    function-find : (f a : ℕ) → IsIn f functions → Lie W code weigh a (function_lines P n f a) → AllFound a (function_lines P n f a)
    function-find f a in_f lies =
        let room = room_of P f in
        let args = cells_at 0 (P.params f) in
        let lays = (right.graphs f in_f).1 in
        let long = graph-long P W u order functions right.sized n room args f a (P.params f) lays in
        let here = graph_code P n room args f a (P.params f) in
        let leave = line (OfResults f) (Return (ends_at P args f (P.params f))) ∷ [] in
        let rest = lies-rest W code weigh a (a + P.size f) here leave (omega (arith, long)) lies in
        found-both a (a + P.size f) here leave (omega (arith, long))
        (graph-find right.sized room n args f a (P.params f) lays (cells-inside (P.params f) 0 (P.params f) (omega arith)) (omega arith) (lies-first W code weigh a here leave lies))
        (other (a + P.size f) (Return (ends_at P args f (P.params f))) tt rest.0, tt)

    functions-find : (fs : List ℕ) (a : ℕ) → ((f : ℕ) → IsIn f fs → IsIn f functions) → Lie W code weigh a (functions_lines P n fs a) → AllFound a (functions_lines P n fs a) × (length (functions_lines P n fs a) ≡ functions_size P fs)
    functions-find [] a of lies = (tt, refl)
    functions-find (f ∷ fs) a of lies =
        let in_f = of f (inl refl) in
        let here = function_lines P n f a in
        let others = functions_lines P n fs (a + suc (P.size f)) in
        let long = function-long P W u order functions n right f a in_f in
        let more = functions-find fs (a + suc (P.size f)) (λ x i. of x (inr i)) (lies-rest W code weigh a (a + suc (P.size f)) here others (omega (arith, long)) lies) in
        let rest = more.1 in
        (found-both a (a + suc (P.size f)) here others (omega (arith, long)) (function-find f a in_f (lies-first W code weigh a here others lies)) more.0, length-append here others ∙ omega (arith, long, rest))

pub eaches : AreEachesOfForAlls
eaches P W u order functions n code weigh right lies place many first count turn leave lt is =
    let x = functions-find P W u order functions code weigh n right functions 0 (λ f i. i) lies in
    let long = x.1 in
    found-at P W u order functions code weigh 0 (functions_lines P n functions 0) x.0 place (omega arith) (omega (arith, lt, long)) many first count turn leave is
