-- What is made of nodes stays inside.
use Rattle.std.proofs.Common.{◌≡◌, ℕ, zero, suc, ◌+◌, ◌-◌, ◌<◌, ◌≤◌, max, eqb, ltb, if◌then◌else◌, Bool, true, false, List, [], ◌∷◌, ◌++◌, length, map, drop, get_or, refl, ◌∙◌, subst, arith}
use Rattle.std.proofs.lemmas.Bool.{ltb-true}
use Rattle.std.proofs.lemmas.List.{length-map}
use Rattle.std.proofs.Math.Nat.{le-max_left, le-max_right}
use Rattle.run_laws.specs.Carried.{Unfilled}
use Rattle.run_laws.specs.Demand.{Source, Port, Fixed, Vertex}
use Rattle.run_laws.proofs.Folding.{sifts-fewer}
use Rattle.run_laws.specs.Cells.{Operand, At, Lit, cells_at, picked, own_cells}
use Rattle.run_laws.specs.Coded.{Layout, Places, operand}
use Rattle.run_laws.specs.Collections.{AreWithin, Collect, Final, Sifts, sifts_in}
use Rattle.run_laws.specs.Made.{Plan, Line, line, OfNothing, OfResults, OfRows, IsSized, Makes, arm_code, arms_at, arms_code, arms_size, end_at, ends_at, for_all_code, greatest_extent, loop_code, loop_extent, nodes_extent, parts_extent, placed, put, select_code, stand, tag_code}
use Rattle.run_laws.specs.Steps.{Add, Branch, Each, Keep, Move, Spread, Test}
use Rattle.run_laws.specs.Inside.{AreAhead, AreCells, IsCell, Stays}
use Rattle.run_made.proofs.Lengths.{IsLong, arm-long}
use Rattle.run_made.specs.Plans.{All}

-- ---- cells

pub get-inside : (room : ℕ) (args : List Operand) (i : ℕ) → AreCells room args → IsCell room (get_or args i (Lit Unfilled))
get-inside room [] i h = tt
get-inside room (a ∷ args) zero h = h.0
get-inside room (a ∷ args) (suc i) h = get-inside room args i h.1

pub rest-inside : (room : ℕ) (args : List Operand) → AreCells room args → AreCells room (drop 1 args)
rest-inside room [] h = tt
rest-inside room (a ∷ args) h = h.1

pub cells-inside : (room i n : ℕ) → i + n ≤ room → AreCells room (cells_at i n)
cells-inside room i zero le = tt
cells-inside room i (suc n) le = (omega (arith, le), cells-inside room (suc i) n (omega (arith, le)))

pub both-inside : (room : ℕ) (xs ys : List Operand) → AreCells room xs → AreCells room ys → AreCells room (xs ++ ys)
both-inside room [] ys h k = k
both-inside room (x ∷ xs) ys h k = (h.0, both-inside room xs ys h.1 k)

pub picked-inside : (room : ℕ) (picks : List Bool) (args : List Operand) → AreCells room args → AreCells room (picked picks args)
picked-inside room [] args h = tt
picked-inside room (b ∷ bs) [] h = tt
picked-inside room (true ∷ bs) (a ∷ args) h = (h.0, picked-inside room bs args h.1)
picked-inside room (false ∷ bs) (a ∷ args) h = picked-inside room bs args h.1

pub own-inside : (room : ℕ) (picks : List Bool) (args : List Operand) (i : ℕ) → AreCells room args → i + length (picked picks args) ≤ room → AreCells room (own_cells picks args i)
own-inside room [] args i h le = h
own-inside room (b ∷ bs) [] i h le = tt
own-inside room (true ∷ bs) (a ∷ args) i h le = (omega (arith, le), own-inside room bs args (suc i) h.1 (omega (arith, le)))
own-inside room (false ∷ bs) (a ∷ args) i h le = (h.0, own-inside room bs args i h.1 le)

-- what is sifted stands behind the loop values, and last values are loop values
pub stand-inside : (P : Plan) (room m : ℕ) (cs : List Collect) (own first : ℕ) → AreWithin m cs → own + length cs ≤ room → first + m ≤ room → AreCells room (stand P cs own first)
stand-inside P room m [] own first h le le' = tt
stand-inside P room m (Sifts j mask ∷ cs) own first h le le' = (omega (arith, le), stand-inside P room m cs (suc own) first h.1 (omega (arith, le)) le')
stand-inside P room m (Final j ∷ cs) own first h le le' = let lt = h.0 in (omega (arith, lt, le'), stand-inside P room m cs own first h.1 (omega (arith, le)) le')

module _ (P : Plan) (room : ℕ) where
  put-inside : (g : ℕ) (vs : List Vertex) (lo l p : ℕ) → lo + nodes_extent P g vs ≤ room → IsCell room (put P vs lo l p)
  put-inside g [] lo l p fits = tt
  put-inside g (v ∷ vs) lo l p fits =
      let mine = P.width v + (length (picked (P.picks g v) v.ins) + parts_extent P v.kind) in
      let second = le-max_right mine (P.width v + nodes_extent P g vs) in
      go (eqb v.label l) (put-inside g vs (lo + P.width v) l p (omega (arith, fits, second)))
    where
      here : (c : Bool) → ltb (p - 1) (P.width v) ≡ c → IsCell room (if c then At (lo + (p - 1)) else Lit Unfilled)
      here true e =
          let mine = P.width v + (length (picked (P.picks g v) v.ins) + parts_extent P v.kind) in
          let first = le-max_left mine (P.width v + nodes_extent P g vs) in
          let lt = ltb-true (p - 1) (P.width v) e in
          omega (arith, lt, first, fits)
      here false e = tt

      go : (c : Bool) → IsCell room (put P vs (lo + P.width v) l p) → IsCell room (if c then (if ltb (p - 1) (P.width v) then At (lo + (p - 1)) else Lit Unfilled) else put P vs (lo + P.width v) l p)
      go true h = here (ltb (p - 1) (P.width v)) refl
      go false h = h

  pub placed-inside : (args : List Operand) (g : ℕ) (vs : List Vertex) (lo l p : ℕ) → AreCells room args → lo + nodes_extent P g vs ≤ room → IsCell room (placed P args vs lo l p)
  placed-inside args g vs lo zero p ins fits = get-inside room args (p - 1) ins
  placed-inside args g vs lo (suc l) p ins fits = put-inside g vs lo (suc l) p fits

pub read-inside : (room : ℕ) (places : Places) → ((l p : ℕ) → IsCell room (places l p)) → (os : List Source) → AreCells room (map (operand places) os)
read-inside room places h [] = tt
read-inside room places h (Fixed c ∷ os) = (tt, read-inside room places h os)
read-inside room places h (Port l p ∷ os) = (h l p, read-inside room places h os)

-- ---- steps

module _ (X : Layout) (room begin end : ℕ) where
  -- so do all of these, from a place on
  abbrev pub AllStay : (place : ℕ) → List Line → Type 0
  AllStay a [] = Unit {0}
  AllStay a (l ∷ ls) = Stays X room begin end a l.step × AllStay (suc a) ls

  pub stay-both : (a b : ℕ) (xs ys : List Line) → b ≡ a + length xs → AllStay a xs → AllStay b ys → AllStay a (xs ++ ys)
  stay-both a b [] ys e f g = subst (λ x. AllStay x ys) (omega (arith, e)) g
  stay-both a b (x ∷ xs) ys e f g = (f.0, stay-both (suc a) b xs ys (omega (arith, e)) f.1 g)

  module _ (P : Plan) where
    starts-ahead : (make : Makes P) (pc : ℕ) (gs : List ℕ) (t : ℕ) → pc < t → t + arms_size P gs < end → AreAhead end pc (arms_at P make room gs t)
    starts-ahead make pc [] t lt le = tt
    starts-ahead make pc (g ∷ gs) t lt le = ((lt, omega (arith, le)), starts-ahead make pc gs (t + suc (P.size g)) (omega (arith, lt)) (omega (arith, le)))

    -- the results of a graph whose inputs are inside are inside
    pub ends-inside : ((g : ℕ) → IsSized P g) → (args : List Operand) (g lo : ℕ) → AreCells room args → lo + P.extent g ≤ room → AreCells room (ends_at P args g lo)
    ends-inside sized args g lo ins fits =
        let cells = (sized g).1 in
        read-inside room (placed P args (P.nodes g) lo) (λ l p. placed-inside P room args g (P.nodes g) lo l p ins (omega (arith, fits, cells))) (P.results g)

    -- a graph's steps stay inside
    abbrev pub DoStay : Makes P → (ℕ → Type 0) → Type 0
    DoStay make lays = (args : List Operand) (g a lo : ℕ) → begin ≤ a → lays g → AreCells room args → lo + P.extent g ≤ room → a + P.size g < end → AllStay a (make room args g a lo)

    module _ (sized : (g : ℕ) → IsSized P g) (make : Makes P) (lays : ℕ → Type 0) (long : IsLong P make lays) (stay : DoStay make lays) where
      pub arm-stays : (args : List Operand) (g t w b lo up : ℕ) → begin ≤ t → lays g → AreCells room args → lo + w ≤ room → up + P.extent g ≤ room → t + P.size g < b → b < end → AllStay t (arm_code P make room args g t w b lo up)
      arm-stays args g t w b lo up from right ins outs fits le lt =
          let one = long room args g t up right in
          stay-both t (t + P.size g) (make room args g t up) (line (OfResults g) (Move (ends_at P args g up) lo w b) ∷ []) (omega (arith, one)) (stay args g t up from right ins fits (omega (arith, le, lt)))
          ((ends-inside sized args g up ins fits, outs, (le, lt)), tt)

      pub arms-stay : (args : List Operand) (gs : List ℕ) (t w b lo up : ℕ) → begin ≤ t → All lays gs → AreCells room args → lo + w ≤ room → up + greatest_extent P gs ≤ room → t + arms_size P gs ≤ b → b < end
          → AllStay t (arms_code P make room args gs t w b lo up)
      arms-stay args [] t w b lo up from right ins outs fits le lt = tt
      arms-stay args (g ∷ gs) t w b lo up from right ins outs fits le lt =
          let first = le-max_left (P.extent g) (greatest_extent P gs) in
          let second = le-max_right (P.extent g) (greatest_extent P gs) in
          let one = arm-long P make lays long room args g t w b lo up right.0 in
          stay-both t (t + suc (P.size g)) (arm_code P make room args g t w b lo up) (arms_code P make room args gs (t + suc (P.size g)) w b lo up) (omega (arith, one))
          (arm-stays args g t w b lo up from right.0 ins outs (omega (arith, fits, first)) (omega (arith, le)) lt)
          (arms-stay args gs (t + suc (P.size g)) w b lo up (omega (arith, from)) right.1 ins outs (omega (arith, fits, second)) (omega (arith, le)) lt)

      pub select-stays : (own : List Operand) (s : ℕ) (gs : List ℕ) (a w b lo mid : ℕ) → begin ≤ a → lays s → All lays gs → AreCells room own → lo + w ≤ room → mid + max (P.extent s) (greatest_extent P gs) ≤ room
          → a + (suc (P.size s) + arms_size P gs) ≤ b → b < end → AllStay a (select_code P make room own s gs a w b lo mid)
      select-stays own s gs a w b lo mid from right others ins outs fits le lt =
          let first = le-max_left (P.extent s) (greatest_extent P gs) in
          let second = le-max_right (P.extent s) (greatest_extent P gs) in
          let m = a + P.size s in
          let one = long room own s a mid right in
          let fit_s : mid + P.extent s ≤ room = omega (arith, fits, first) in
          stay-both a m (make room own s a mid) (line OfNothing (Branch (end_at P own s mid) (arms_at P make room gs (suc m)) lo w b) ∷ arms_code P make room own gs (suc m) w b lo mid) (omega (arith, one))
          (stay own s a mid from right ins fit_s (omega (arith, le, lt))) (
            (get-inside room (ends_at P own s mid) 0 (ends-inside sized own s mid ins fit_s), starts-ahead make m gs (suc m) (omega arith) (omega (arith, le, lt)), outs, (omega (arith, le), lt)),
            arms-stay own gs (suc m) w b lo mid (omega (arith, from)) others ins outs (omega (arith, fits, second)) (omega (arith, le)) lt,
          )

      pub tag-stays : (own : List Operand) (gs : List ℕ) (a w b lo mid : ℕ) → begin ≤ a → All lays gs → AreCells room own → lo + w ≤ room → mid + suc (greatest_extent P gs) ≤ room → a + suc (arms_size P gs) ≤ b → b < end
          → AllStay a (tag_code P make room own gs a w b lo mid)
      tag-stays own gs a w b lo mid from others ins outs fits le lt = (
        (get-inside room own 0 ins, starts-ahead make a gs (suc a) (omega arith) (omega (arith, le, lt)), omega (arith, fits), outs, (omega (arith, le), lt)),
        arms-stay (At mid ∷ drop 1 own) gs (suc a) w b lo (suc mid) (omega (arith, from)) others (omega (arith, fits), rest-inside room own ins) outs (omega (arith, fits)) (omega (arith, le)) lt,
      )

      pub loop-stays : (own : List Operand) (i t body r : ℕ) (first : List Line) (starts turn a w b lo mid : ℕ)
          → (let n = length (P.results i) in let k = length (P.collects r) in
          begin ≤ a → lays i → lays t → lays body → lays (P.refolded r) → length (P.results body) ≡ n → AreWithin n (P.collects r) → AreCells room own → lo + w ≤ room → mid + loop_extent P i t body r ≤ room
          → turn ≡ suc (a + P.size i) + length first → a + P.size i < starts → starts < end → AllStay (suc (a + P.size i)) first
          → turn + (suc (P.size body) + (suc (P.size t) + suc (P.size (P.refolded r)))) ≤ b → b < end
          → AllStay a (loop_code P make room own i t body r first starts turn a w b lo mid n k))
      loop-stays own i t body r first starts turn a w b lo mid from in_i in_t in_b in_r same within ins outs fits goes after before firsts le lt =
          let n = length (P.results i) in
          let k = length (P.collects r) in
          let o = P.refolded r in
          let top = mid + (n + k) in
          let begun = a + P.size i in
          let turned = turn + P.size body in
          let tests = suc turned in
          let tested = tests + P.size t in
          let leave = suc tested in
          let x = own ++ cells_at mid n in
          let y = own ++ stand P (P.collects r) (mid + n) mid in
          let s4 = arm_code P make room y o leave w b lo top in
          let s3 = line OfNothing (Test (end_at P x t top) turn leave lo w b) ∷ s4 in
          let s2 = line (OfResults body) (Keep false (sifts_in (P.collects r)) (ends_at P x body top) mid tests) ∷ (make room x t tests top ++ s3) in
          let s1 = make room x body turn top ++ s2 in
          let s0 = line (OfResults i) (Keep true (sifts_in (P.collects r)) (ends_at P own i mid) mid starts) ∷ (first ++ s1) in
          let l0 = long room own i a mid in_i in
          let l1 = long room x body turn top in_b in
          let l2 = long room x t tests top in_t in
          let m0 = le-max_left (P.extent i) (n + (k + greatest_extent P (t ∷ body ∷ o ∷ []))) in
          let m1 = le-max_right (P.extent i) (n + (k + greatest_extent P (t ∷ body ∷ o ∷ []))) in
          let m2 = le-max_left (P.extent t) (greatest_extent P (body ∷ o ∷ [])) in
          let m3 = le-max_right (P.extent t) (greatest_extent P (body ∷ o ∷ [])) in
          let m4 = le-max_left (P.extent body) (greatest_extent P (o ∷ [])) in
          let m5 = le-max_right (P.extent body) (greatest_extent P (o ∷ [])) in
          let m6 = le-max_left (P.extent o) 0 in
          let fit_i : mid + P.extent i ≤ room = omega (arith, fits, m0) in
          let fit_t : top + P.extent t ≤ room = omega (arith, fits, m1, m2) in
          let fit_b : top + P.extent body ≤ room = omega (arith, fits, m1, m3, m4) in
          let fit_r : top + P.extent o ≤ room = omega (arith, fits, m1, m3, m5, m6) in
          let in_x = both-inside room own (cells_at mid n) ins (cells-inside room mid n (omega (arith, fit_t))) in
          let in_y = both-inside room own (stand P (P.collects r) (mid + n) mid) ins (stand-inside P room n (P.collects r) (mid + n) mid within (omega (arith, fit_t)) (omega (arith, fit_t))) in
          let fewer = sifts-fewer (P.collects r) in
          let many_i : length (ends_at P own i mid) ≡ n = length-map (P.results i) (operand (placed P own (P.nodes i) mid)) in
          let many_b : length (ends_at P x body top) ≡ n = length-map (P.results body) (operand (placed P x (P.nodes body) top)) ∙ same in
          let t4 : AllStay leave s4 = arm-stays y o leave w b lo top (omega (arith, from, goes)) in_r in_y outs fit_r (omega (arith, le)) lt in
          let t3 : AllStay tests (make room x t tests top ++ s3) =
          stay-both tests tested (make room x t tests top) s3 (omega (arith, l2)) (stay x t tests top (omega (arith, from, goes)) in_t in_x fit_t (omega (arith, le, lt)))
          ((get-inside room (ends_at P x t top) 0 (ends-inside sized x t top in_x fit_t), omega (arith, from, goes), omega (arith, le, lt), (omega arith, omega (arith, le, lt)), outs, (omega (arith, le), lt)), t4) in
          let t2 : AllStay turn s1 =
          stay-both turn turned (make room x body turn top) s2 (omega (arith, l1)) (stay x body turn top (omega (arith, from, goes)) in_b in_x fit_b (omega (arith, le, lt)))
          ((ends-inside sized x body top in_x fit_b, omega (arith, many_b, fit_t, fewer), (omega arith, omega (arith, le, lt))), t3) in
          stay-both a begun (make room own i a mid) s0 (omega (arith, l0)) (stay own i a mid from in_i ins fit_i (omega (arith, after, before)))
          ((ends-inside sized own i mid ins fit_i, omega (arith, many_i, fit_t, fewer), (after, before)), stay-both (suc begun) turn first s1 goes firsts t2)

      pub for-all-stays : (own : List Operand) (e body r turn a w b lo mid : ℕ)
          → (let n = length (P.results e) in let k = length (P.collects r) in
          begin ≤ a → lays e → lays body → lays (P.refolded r) → AreCells room own → lo + w ≤ room → mid + max (P.extent e) (n + (k + max (suc n + P.extent body) (P.extent (P.refolded r)))) ≤ room
          → turn ≡ suc (a + P.size e) → turn + (suc (P.size body) + suc (suc (P.size (P.refolded r)))) ≤ b → b < end
          → AllStay a (for_all_code P make room own e body r turn a w b lo mid n k))
      for-all-stays own e body r turn a w b lo mid from in_e in_b in_r ins outs fits goes le lt =
          let n = length (P.results e) in
          let k = length (P.collects r) in
          let o = P.refolded r in
          let top = mid + (n + k) in
          let made = a + P.size e in
          let turned = turn + P.size body in
          let turns = suc turned in
          let leave = suc turns in
          let x = own ++ cells_at (suc top) n in
          let y = (own ++ cells_at mid n) ++ cells_at (mid + n) k in
          let s3 = arm_code P make room y o leave w b lo top in
          let s2 = line (OfRows body r) (Add (P.collects r) (ends_at P x body (suc top + n)) (mid + n) turns) ∷ line OfNothing (Each n mid top turn leave) ∷ s3 in
          let s1 = line (OfResults e) (Spread (ends_at P own e mid) (P.collects r) mid turns lo w b) ∷ (make room x body turn (suc top + n) ++ s2) in
          let l0 = long room own e a mid in_e in
          let l1 = long room x body turn (suc top + n) in_b in
          let m0 = le-max_left (P.extent e) (n + (k + max (suc n + P.extent body) (P.extent o))) in
          let m1 = le-max_right (P.extent e) (n + (k + max (suc n + P.extent body) (P.extent o))) in
          let m2 = le-max_left (suc n + P.extent body) (P.extent o) in
          let m3 = le-max_right (suc n + P.extent body) (P.extent o) in
          let fit_e : mid + P.extent e ≤ room = omega (arith, fits, m0) in
          let fit_b : (suc top + n) + P.extent body ≤ room = omega (arith, fits, m1, m2) in
          let fit_r : top + P.extent o ≤ room = omega (arith, fits, m1, m3) in
          let in_x = both-inside room own (cells_at (suc top) n) ins (cells-inside room (suc top) n (omega (arith, fit_b))) in
          let in_y = both-inside room (own ++ cells_at mid n) (cells_at (mid + n) k) (both-inside room own (cells_at mid n) ins (cells-inside room mid n (omega (arith, fit_b)))) (cells-inside room (mid + n) k (omega (arith, fit_b))) in
          let many : length (ends_at P own e mid) ≡ n = length-map (P.results e) (operand (placed P own (P.nodes e) mid)) in
          let t3 : AllStay leave s3 = arm-stays y o leave w b lo top (omega (arith, from, goes)) in_r in_y outs fit_r (omega (arith, le)) lt in
          let t2 : AllStay turn (make room x body turn (suc top + n) ++ s2) =
          stay-both turn turned (make room x body turn (suc top + n)) s2 (omega (arith, l1)) (stay x body turn (suc top + n) (omega (arith, from, goes)) in_b in_x fit_b (omega (arith, le, lt))) (
            (ends-inside sized x body (suc top + n) in_x fit_b, omega (arith, fit_b), (omega arith, omega (arith, le, lt))),
            ((omega (arith, fit_b), omega (arith, fit_b), omega (arith, from, goes), omega (arith, le, lt), (omega arith, omega (arith, le, lt))), t3),
          ) in
          stay-both a made (make room own e a mid) s1 (omega (arith, l0)) (stay own e a mid from in_e ins fit_e (omega (arith, goes, le, lt))) (
            (ends-inside sized own e mid ins fit_e, omega (arith, many, fit_b), (omega (arith, goes), omega (arith, le, lt)), outs, (omega (arith, goes, le), lt)),
            subst (λ z. AllStay z (make room x body turn (suc top + n) ++ s2)) goes t2,
          )
