-- No step of the code that is made of a plan copies a literal that has leaves.
use Rattle.std.proofs.Common.{◌≡◌, ◌⊎◌, inl, inr, ℕ, zero, suc, ◌+◌, ◌-◌, eqb, ltb, if◌then◌else◌, Bool, true, false, List, [], ◌∷◌, ◌++◌, drop, map, length, get_or, refl, sym, ap, ◌∙◌, subst, arith}
use Rattle.graph_meaning.specs.Carried.{Carried, Unfilled}
use Rattle.graph_meaning.specs.Demand.{EachNode, Fixed, Kind, Plain, Port, Source, Vertex, Whole}
use Rattle.graph_meaning.specs.Forms as form
use Rattle.graph_meaning.specs.Storage.{leaves_of}
use Rattle.ordered_meaning.specs.Taking.{Taken, first_port, taken_by}
use Rattle.run_code.specs.Cells.{At, Lit, Operand, cells_at, own_cells, picked}
use Rattle.run_code.specs.Coded.{Places, operand}
use Rattle.run_code.specs.Collections.{Collect, Final, Sifts}
use Rattle.run_code.specs.Known.{Known}
use Rattle.run_code.specs.Made.{Line, Makes, OfNothing, Plan, arm_code, arms_code, end_at, ends_at, for_all_code, function_lines, functions_lines, graph_code, kind_code, kind_size, line, loop_code, nodes_code, parts_code, placed, put, room_of, select_code, stand, tag_code}
use Rattle.run_code.specs.Steps.{Count}
use Rattle.run_made.specs.Plans.{All, last_line}
use Rattle.run_store.specs.Effects.{reads_of}
use Rattle.run_store.specs.Ports.{copies_of, mode_of, modes_of}
use Rattle.run_store.specs.Stored.{Copies, Looks, Mode, Takes}
use Rattle.made_store.specs.Settings.{Cells_of, Shares, cells_where, either_of, gives, live_in, none_of, own_in, range_of, result_modes, sifts_of, takes_all}
use Rattle.made_store.specs.Settled.{Setting, Settles, arms_settings, begin_settings, for_all_settings, function_settings, functions_settings, graph_settings, kind_settings, last_setting, loop_settings, nodes_settings, part_settings, parts_settings}
use Rattle.unit_runs.proofs.Literals.{cells-bare}
use Rattle.unit_runs.specs.Alike.{AreLiteralsBare, IsOfLiteral}
use Rattle.unit_runs.specs.Literals.{AreMadeBare, ArePicksBare, AreSourcesBare, AreSourcesPassed, IsGraphBare, IsKindPassed, IsKindPicked, IsSourceBare, IsSourcePassed}

-- ---- lines beside settings

abbrev AllBare : List Line → List Setting → Type 0
AllBare [] [] = Unit {0}
AllBare [] (s ∷ ss) = ⊥
AllBare (l ∷ ls) [] = ⊥
AllBare (l ∷ ls) (s ∷ ss) = AreLiteralsBare s.modes (reads_of l.step) × AllBare ls ss

both-bare : (ls ms : List Line) (ss rs : List Setting) → AllBare ls ss → AllBare ms rs → AllBare (ls ++ ms) (ss ++ rs)
both-bare [] ms [] rs h k = k
both-bare [] ms (s ∷ ss) rs h k = absurd h
both-bare (l ∷ ls) ms [] rs h k = absurd h
both-bare (l ∷ ls) ms (s ∷ ss) rs h k = (h.0, both-bare ls ms ss rs h.1 k)

-- a part, its last step, and what comes behind it
then-bare : (ls : List Line) (l : Line) (ms : List Line) (ss : List Setting) (s : Setting) (rs : List Setting) → AllBare ls ss → AreLiteralsBare s.modes (reads_of l.step) → AllBare ms rs → AllBare (ls ++ (l ∷ ms)) ((ss ++ (s ∷ [])) ++ rs)
then-bare [] l ms [] s rs h b k = (b, k)
then-bare [] l ms (t ∷ ss) s rs h b k = absurd h
then-bare (x ∷ ls) l ms [] s rs h b k = absurd h
then-bare (x ∷ ls) l ms (t ∷ ss) s rs h b k = (h.0, then-bare ls l ms ss s rs h.1 b k)

last-bare : (ls : List Line) (l : Line) (ss : List Setting) (s : Setting) → AllBare ls ss → AreLiteralsBare s.modes (reads_of l.step) → AllBare (ls ++ (l ∷ [])) (ss ++ (s ∷ []))
last-bare ls l ss s h b = both-bare ls (l ∷ []) ss (s ∷ []) h (b, tt)

at-bare : (ls : List Line) (ss : List Setting) → AllBare ls ss → (pc : ℕ) → AreLiteralsBare (get_or ss pc last_setting).modes (reads_of (get_or ls pc last_line).step)
at-bare [] [] h pc = tt
at-bare [] (s ∷ ss) h pc = absurd h
at-bare (l ∷ ls) [] h pc = absurd h
at-bare (l ∷ ls) (s ∷ ss) h zero = h.0
at-bare (l ∷ ls) (s ∷ ss) h (suc pc) = at-bare ls ss h.1 pc

-- ---- operands

cons-bare : (m : Mode) (ms : List Mode) (o : Operand) (os : List Operand) → ((k : Carried) → o ≡ Lit k → IsOfLiteral m k) → AreLiteralsBare ms os → AreLiteralsBare (m ∷ ms) (o ∷ os)
cons-bare m ms (At c) os h b = b
cons-bare m ms (Lit k) os h b = (h k refl, b)

mode-bare : (t c : Bool) (k : Carried) → (c ≡ true → leaves_of k ≡ 0) → IsOfLiteral (mode_of t c) k
mode-bare true c k h = tt
mode-bare false true k h = h refl
mode-bare false false k h = tt

module _ (P : Plan) (S : Shares) (may : (graph input : ℕ) → Bool) where
  -- each operand that is a literal with leaves is an input that may be one
  abbrev AreMay : (graph first : ℕ) → List Operand → Type 0
  AreMay g i [] = Unit {0}
  AreMay g i (At c ∷ os) = AreMay g (suc i) os
  AreMay g i (Lit k ∷ os) = ((leaves_of k ≡ 0) ⊎ (may g i ≡ true)) × AreMay g (suc i) os

  cons-may : (g i : ℕ) (o : Operand) (os : List Operand) → ((k : Carried) → o ≡ Lit k → (leaves_of k ≡ 0) ⊎ (may g i ≡ true)) → AreMay g (suc i) os → AreMay g i (o ∷ os)
  cons-may g i (At c) os h m = m
  cons-may g i (Lit k) os h m = (h k refl, m)

  same-lit : (a b : Carried) → Lit a ≡ Lit b → a ≡ b
  same-lit a b e = cc

  found-may : (g i : ℕ) (os : List Operand) → AreMay g i os → (j : ℕ) (k : Carried) → get_or os j (Lit Unfilled) ≡ Lit k → (leaves_of k ≡ 0) ⊎ (may g (i + j) ≡ true)
  found-may g i [] m j k e = inl (ap leaves_of (sym (same-lit Unfilled k e)))
  found-may g i (At c ∷ os) m zero k e = absurd cc
  found-may g i (Lit l ∷ os) m zero k e =
      elim m.0 [
        | inl x ↦ inl (ap leaves_of (sym (same-lit l k e)) ∙ x)
        | inr y ↦ inr (let s : i ≡ i + 0 = omega arith in subst (λ z. may g z ≡ true) s y)
      ]
  found-may g i (At c ∷ os) m (suc j) k e =
      elim (found-may g (suc i) os m j k e) [
        | inl x ↦ inl x
        | inr y ↦ inr (let s : suc i + j ≡ i + suc j = omega arith in subst (λ z. may g z ≡ true) s y)
      ]
  found-may g i (Lit l ∷ os) m (suc j) k e =
      elim (found-may g (suc i) os m.1 j k e) [
        | inl x ↦ inl x
        | inr y ↦ inr (let s : suc i + j ≡ i + suc j = omega arith in subst (λ z. may g z ≡ true) s y)
      ]

  -- ---- all in cells

  abbrev AreAts : List Operand → Type 0
  AreAts [] = Unit {0}
  AreAts (At c ∷ os) = AreAts os
  AreAts (Lit k ∷ os) = ⊥

  ats-may : (g i : ℕ) (os : List Operand) → AreAts os → AreMay g i os
  ats-may g i [] h = tt
  ats-may g i (At c ∷ os) h = ats-may g (suc i) os h
  ats-may g i (Lit k ∷ os) h = absurd h

  more-may : (g i : ℕ) (os more : List Operand) → AreMay g i os → AreAts more → AreMay g i (os ++ more)
  more-may g i [] more m h = ats-may g i more h
  more-may g i (At c ∷ os) more m h = more-may g (suc i) os more m h
  more-may g i (Lit k ∷ os) more m h = (m.0, more-may g (suc i) os more m.1 h)

  cells-ats : (i n : ℕ) → AreAts (cells_at i n)
  cells-ats i zero = tt
  cells-ats i (suc n) = cells-ats (suc i) n

  stand-ats : (cs : List Collect) (own first : ℕ) → AreAts (stand P cs own first)
  stand-ats [] own first = tt
  stand-ats (Sifts j mask ∷ cs) own first = stand-ats cs (suc own) first
  stand-ats (Final j ∷ cs) own first = stand-ats cs own first

  -- ---- sources

  put-unfilled : (vs : List Vertex) (lo l p : ℕ) (k : Carried) → put P vs lo l p ≡ Lit k → leaves_of k ≡ 0
  put-unfilled [] lo l p k e = ap leaves_of (sym (same-lit Unfilled k e))
  put-unfilled (v ∷ vs) lo l p k e = go (λ f. put-unfilled vs (lo + P.width v) l p k f) (eqb v.label l) (ltb (p - 1) (P.width v)) e
    where
      go : (put P vs (lo + P.width v) l p ≡ Lit k → leaves_of k ≡ 0) → (a b : Bool) → (if a then (if b then At (lo + (p - 1)) else Lit Unfilled) else put P vs (lo + P.width v) l p) ≡ Lit k → leaves_of k ≡ 0
      go later true true e = absurd cc
      go later true false e = ap leaves_of (sym (same-lit Unfilled k e))
      go later false b e = later e

  module _ (g : ℕ) (args : List Operand) (vs : List Vertex) (lo : ℕ) (m : AreMay g 1 args) where
    abbrev places : Places
    places = placed P args vs lo

    source-bare : (b : Bool) (o : Source) → IsSourceBare P S may g b o → (k : Carried) → operand places o ≡ Lit k → b ≡ true → leaves_of k ≡ 0
    source-bare b (Fixed c) h k e t = ap leaves_of (sym (same-lit c k e)) ∙ h t
    source-bare b (Port zero p) h k e t =
        elim (found-may g 1 args m (p - 1) k e) [
          | inl x ↦ x
          | inr y ↦ absurd (let s : 1 + (p - 1) ≡ suc (p - 1) = omega arith in let f = h (subst (λ z. may g z ≡ true) s y) in let c : true ≡ false = sym t ∙ f in cc)
        ]
    source-bare b (Port (suc l) p) h k e t = put-unfilled vs lo (suc l) p k e

    source-may : (h i : ℕ) (o : Source) → IsSourcePassed P S may g h i o → (k : Carried) → operand places o ≡ Lit k → (leaves_of k ≡ 0) ⊎ (may h i ≡ true)
    source-may h i (Fixed c) s k e =
        elim s [
          | inl x ↦ inl (ap leaves_of (sym (same-lit c k e)) ∙ x)
          | inr y ↦ inr y
        ]
    source-may h i (Port zero p) s k e =
        elim (found-may g 1 args m (p - 1) k e) [
          | inl x ↦ inl x
          | inr y ↦ inr (let z : 1 + (p - 1) ≡ suc (p - 1) = omega arith in s (subst (λ x. may g x ≡ true) z y))
        ]
    source-may h i (Port (suc l) p) s k e = inl (put-unfilled vs lo (suc l) p k e)

    modes-bare : (takes copies : ℕ → Bool) (i : ℕ) (os : List Source) → AreSourcesBare P S may copies g i os → AreLiteralsBare (modes_of takes copies i os) (map (operand places) os)
    modes-bare takes copies i [] h = tt
    modes-bare takes copies i (o ∷ os) h =
        cons-bare (mode_of (takes i) (copies i)) (modes_of takes copies (suc i) os) (operand places o) (map (operand places) os) (λ k e. mode-bare (takes i) (copies i) k (λ t. source-bare (copies i) o h.0 k e t)) (modes-bare takes copies (suc i) os h.1)

    more-bare : (takes copies : ℕ → Bool) (i : ℕ) (os : List Source) (ms : List Mode) (c n : ℕ) → AreSourcesBare P S may copies g i os → AreLiteralsBare (modes_of takes copies i os ++ ms) (map (operand places) os ++ cells_at c n)
    more-bare takes copies i [] ms c n h = cells-bare ms c n
    more-bare takes copies i (o ∷ os) ms c n h =
        cons-bare (mode_of (takes i) (copies i)) (modes_of takes copies (suc i) os ++ ms) (operand places o) (map (operand places) os ++ cells_at c n) (λ k e. mode-bare (takes i) (copies i) k (λ t. source-bare (copies i) o h.0 k e t)) (more-bare takes copies (suc i) os ms c n h.1)

    picks-bare : (bs : List Bool) (os : List Source) → ArePicksBare P S may g bs os → AreLiteralsBare (copies_of bs) (picked bs (map (operand places) os))
    picks-bare [] os h = tt
    picks-bare (true ∷ bs) [] h = tt
    picks-bare (false ∷ bs) [] h = tt
    picks-bare (true ∷ bs) (o ∷ os) h = cons-bare Copies (copies_of bs) (operand places o) (picked bs (map (operand places) os)) (λ k e. source-bare true o h.0 k e refl) (picks-bare bs os h.1)
    picks-bare (false ∷ bs) (o ∷ os) h = picks-bare bs os h.1

    passed-may : (h i : ℕ) (os : List Source) → AreSourcesPassed P S may g h i os → AreMay h i (map (operand places) os)
    passed-may h i [] s = tt
    passed-may h i (o ∷ os) s = cons-may h i (operand places o) (map (operand places) os) (λ k e. source-may h i o s.0 k e) (passed-may h (suc i) os s.1)

    own-may : (h i : ℕ) (bs : List Bool) (os : List Source) (c : ℕ) → AreSourcesPassed P S may g h i os → AreMay h i (own_cells bs (map (operand places) os) c)
    own-may h i [] os c s = passed-may h i os s
    own-may h i (b ∷ bs) [] c s = tt
    own-may h i (true ∷ bs) (o ∷ os) c s = own-may h (suc i) bs os (suc c) s.1
    own-may h i (false ∷ bs) (o ∷ os) c s = cons-may h i (operand places o) (own_cells bs (map (operand places) os) c) (λ k e. source-may h i o s.0 k e) (own-may h (suc i) bs os c s.1)

    dropped-may : (h : ℕ) (bs : List Bool) (os : List Source) (c : ℕ) → AreSourcesPassed P S may g h 2 (drop 1 os) → AreMay h 2 (drop 1 (own_cells bs (map (operand places) os) c))
    dropped-may h [] [] c s = tt
    dropped-may h [] (o ∷ os) c s = passed-may h 2 os s
    dropped-may h (b ∷ bs) [] c s = tt
    dropped-may h (true ∷ bs) (o ∷ os) c s = own-may h 2 bs os (suc c) s
    dropped-may h (false ∷ bs) (o ∷ os) c s = own-may h 2 bs os c s

  -- ---- graphs

  module _ (bare : (g : ℕ) → IsGraphBare P S may g) where
    ends-bare : (g : ℕ) (args : List Operand) (lo : ℕ) → AreMay g 1 args → AreLiteralsBare (result_modes P S g) (ends_at P args g lo)
    ends-bare g args lo m = modes-bare g args (P.nodes g) lo m (S.takes g 0) (S.copies g 0) 1 (P.results g) (bare g).results

    ends-more : (g : ℕ) (args : List Operand) (lo : ℕ) → AreMay g 1 args → (ms : List Mode) (c n : ℕ) → AreLiteralsBare (result_modes P S g ++ ms) (ends_at P args g lo ++ cells_at c n)
    ends-more g args lo m ms c n = more-bare g args (P.nodes g) lo m (S.takes g 0) (S.copies g 0) 1 (P.results g) ms c n (bare g).results

    looked-bare : (o : Operand) → AreLiteralsBare (Looks ∷ []) (o ∷ [])
    looked-bare o = cons-bare Looks [] o [] (λ k e. tt) tt

    union-bare : (b : Bool) (o : Operand) → AreLiteralsBare ((if b then Takes else Looks) ∷ []) (o ∷ [])
    union-bare true o = cons-bare Takes [] o [] (λ k e. tt) tt
    union-bare false o = looked-bare o

    module _ (make : Makes P) (settles : Settles P S)
        (made : (room : ℕ) (keep hold : Cells_of) (args : List Operand) (g a lo : ℕ) → AreMay g 1 args → AllBare (make room args g a lo) (settles keep hold args g lo)) (room : ℕ) where
      arm-bare : (keep hold : Cells_of) (args : List Operand) (g t w b lo up : ℕ) → AreMay g 1 args → AllBare (arm_code P make room args g t w b lo up) (part_settings P S settles keep hold args g up (result_modes P S g) [])
      arm-bare keep hold args g t w b lo up m = last-bare (make room args g t up) _ (settles keep hold args g up) _ (made room keep hold args g t up m) (ends-bare g args up m)

      arms-bare : (keep hold : Cells_of) (args : List Operand) (gs : List ℕ) (t w b lo up : ℕ) → All (λ h. AreMay h 1 args) gs → AllBare (arms_code P make room args gs t w b lo up) (arms_settings P S settles keep hold args gs up)
      arms-bare keep hold args [] t w b lo up m = tt
      arms-bare keep hold args (g ∷ gs) t w b lo up m =
          both-bare (arm_code P make room args g t w b lo up) (arms_code P make room args gs (t + suc (P.size g)) w b lo up) (part_settings P S settles keep hold args g up (result_modes P S g) []) (arms_settings P S settles keep hold args gs up)
          (arm-bare keep hold args g t w b lo up m.0) (arms-bare keep hold args gs (t + suc (P.size g)) w b lo up m.1)

      select-bare : (keep hold : Cells_of) (given : ℕ → Bool) (own : List Operand) (s : ℕ) (gs : List ℕ) (w' a w b lo mid : ℕ) → AreMay s 1 own → All (λ h. AreMay h 1 own) gs
          → AllBare (select_code P make room own s gs a w b lo mid) (parts_settings P S settles keep hold given own (Whole (form.Select s gs w')) mid)
      select-bare keep hold given own s gs w' a w b lo mid m ms =
          then-bare (make room own s a mid) _ (arms_code P make room own gs (suc (a + P.size s)) w b lo mid) (settles (either_of keep (cells_where (λ p. true) own)) (either_of hold (cells_where given own)) own s mid) _ (arms_settings P S settles keep hold own gs mid)
          (made room (either_of keep (cells_where (λ p. true) own)) (either_of hold (cells_where given own)) own s a mid m) (looked-bare (end_at P own s mid)) (arms-bare keep hold own gs (suc (a + P.size s)) w b lo mid ms)

      tag-bare : (keep hold : Cells_of) (given : ℕ → Bool) (own : List Operand) (gs : List ℕ) (w' a w b lo mid : ℕ) → All (λ h. AreMay h 1 (At mid ∷ drop 1 own)) gs
          → AllBare (tag_code P make room own gs a w b lo mid) (parts_settings P S settles keep hold given own (Whole (form.TagCase gs w')) mid)
      tag-bare keep hold given own gs w' a w b lo mid ms = (union-bare (given 1) (get_or own 0 (Lit Unfilled)), arms-bare keep hold (At mid ∷ drop 1 own) gs (suc a) w b lo (suc mid) ms)

      loop-bare : (early : Bool) (begin : List Line) → ((keep hold : Cells_of) → AllBare begin (begin_settings P S settles early keep hold)) → (keep hold : Cells_of) (own : List Operand) (i t body r starts turn a w b lo mid n k : ℕ)
          → AreMay i 1 own → AreMay t 1 own → AreMay body 1 own → AreMay (P.refolded r) 1 own → k ≡ length (P.collects r)
          → AllBare (loop_code P make room own i t body r begin starts turn a w b lo mid n k) (loop_settings P S settles early keep hold own i t body r mid n k)
      loop-bare early begin begins keep hold own i t body r starts turn a w b lo mid n k mi mt mb mr e =
          let x = own ++ cells_at mid n in
          let xt = more-may t 1 own (cells_at mid n) mt (cells-ats mid n) in
          let xb = more-may body 1 own (cells_at mid n) mb (cells-ats mid n) in
          let top = mid + (n + k) in
          let tests = suc (turn + P.size body) in
          let leave = suc (suc (turn + P.size body) + P.size t) in
          let y = own ++ stand P (P.collects r) (mid + n) mid in
          let kb = either_of keep (range_of (mid + n) (sifts_of P r)) in
          let hb = either_of hold (range_of (mid + n) (sifts_of P r)) in
          let kt = either_of keep (range_of mid (n + sifts_of P r)) in
          let ht = either_of hold (range_of mid (n + sifts_of P r)) in
          then-bare (make room own i a mid) _ _ (settles keep hold own i mid) _ _ (made room keep hold own i a mid mi) (ends-bare i own mid mi)
          (both-bare begin _ (begin_settings P S settles early kt ht) _ (begins kt ht)
          (then-bare (make room x body turn top) _ _ (settles kb hb x body top) _ _ (made room kb hb x body turn top xb)
          (ends-more body x top xb (takes_all (sifts_of P r)) (mid + length (ends_at P x body top)) (sifts_of P r))
          (then-bare (make room x t tests top) _ _ (settles kt ht x t top) _ _ (made room kt ht x t tests top xt) (looked-bare (end_at P x t top))
          (arm-bare keep hold y (P.refolded r) leave w b lo top (more-may (P.refolded r) 1 own (stand P (P.collects r) (mid + n) mid) mr (stand-ats (P.collects r) (mid + n) mid))))))

      for-all-bare : (keep hold : Cells_of) (own : List Operand) (e body r turn a w b lo mid n k : ℕ) → AreMay e 1 own → AreMay body 1 own → AreMay (P.refolded r) 1 own
          → AllBare (for_all_code P make room own e body r turn a w b lo mid n k) (for_all_settings P S settles keep hold own e body r mid n k)
      for-all-bare keep hold own e body r turn a w b lo mid n k me mb mr =
          let elements = suc (mid + (n + k)) in
          let x = own ++ cells_at elements n in
          let xb = more-may body 1 own (cells_at elements n) mb (cells-ats elements n) in
          let up = elements + n in
          let k1 = either_of keep (range_of mid (suc (n + k))) in
          let h1 = either_of hold (range_of mid (suc (n + k))) in
          let y = (own ++ cells_at mid n) ++ cells_at (mid + n) k in
          let yr = more-may (P.refolded r) 1 (own ++ cells_at mid n) (cells_at (mid + n) k) (more-may (P.refolded r) 1 own (cells_at mid n) mr (cells-ats mid n)) (cells-ats (mid + n) k) in
          then-bare (make room own e a mid) _ _ (settles keep hold own e mid) _ _ (made room keep hold own e a mid me) (ends-bare e own mid me)
          (then-bare (make room x body turn up) _ _ (settles k1 h1 x body up) _ _ (made room k1 h1 x body turn up xb) (ends-more body x up xb (takes_all k) (mid + n) (length (P.collects r)))
          (cells-bare [] mid n, arm-bare keep hold y (P.refolded r) (suc (suc (turn + P.size body))) w b lo (mid + (n + k)) yr))

      -- ---- nodes

      module _ (g : ℕ) (args : List Operand) (lo : ℕ) (m : AreMay g 1 args) where
        abbrev ops : Vertex → List Operand
        ops v = map (operand (placed P args (P.nodes g) lo)) v.ins

        abbrev own_of_node : Vertex → ℕ → List Operand
        own_of_node v c = own_cells (P.picks g v) (ops v) c

        all-own : (v : Vertex) (c : ℕ) (gs : List ℕ) → All (λ h. AreSourcesPassed P S may g h 1 v.ins) gs → All (λ h. AreMay h 1 (own_of_node v c)) gs
        all-own v c [] h = tt
        all-own v c (x ∷ gs) h = (own-may g args (P.nodes g) lo m x 1 (P.picks g v) v.ins c h.0, all-own v c gs h.1)

        all-dropped : (v : Vertex) (c mid : ℕ) (gs : List ℕ) → All (λ h. AreSourcesPassed P S may g h 2 (drop 1 v.ins)) gs → All (λ h. AreMay h 1 (At mid ∷ drop 1 (own_of_node v c))) gs
        all-dropped v c mid [] h = tt
        all-dropped v c mid (x ∷ gs) h = (dropped-may g args (P.nodes g) lo m x (P.picks g v) v.ins c h.0, all-dropped v c mid gs h.1)

        passed : (v : Vertex) (c h : ℕ) → AreSourcesPassed P S may g h 1 v.ins → AreMay h 1 (own_of_node v c)
        passed v c h s = own-may g args (P.nodes g) lo m h 1 (P.picks g v) v.ins c s

        parts-bare : (v : Vertex) (kind : Kind) (keep hold : Cells_of) (given : ℕ → Bool) (c a w b out mid : ℕ) → IsKindPassed P S may g v kind
            → AllBare (parts_code P make room (own_of_node v c) kind a w b out mid) (parts_settings P S settles keep hold given (own_of_node v c) kind mid)
        parts-bare v (Plain row shape) keep hold given c a w b out mid h = tt
        parts-bare v (Whole (form.Call f)) keep hold given c a w b out mid h = tt
        parts-bare v (Whole (form.Select s gs w')) keep hold given c a w b out mid h = select-bare keep hold given (own_of_node v c) s gs w' a w b out mid (passed v c s h.0) (all-own v c gs h.1)
        parts-bare v (Whole (form.TagCase gs w')) keep hold given c a w b out mid h = tag-bare keep hold given (own_of_node v c) gs w' a w b out mid (all-dropped v c mid gs h)
        parts-bare v (Whole (form.LoopA i t body r w')) keep hold given c a w b out mid h =
            loop-bare true (line OfNothing Count ∷ []) (λ keep hold. (tt, tt)) keep hold (own_of_node v c) i t body r (suc (a + P.size i)) (suc (suc (a + P.size i))) a w b out mid (length (P.results i)) (length (P.collects r))
            (passed v c i h.0) (passed v c t h.1) (passed v c body h.2) (passed v c (P.refolded r) h.3) refl
        parts-bare v (Whole (form.LoopB i t body r w')) keep hold given c a w b out mid h =
            loop-bare false [] (λ keep hold. tt) keep hold (own_of_node v c) i t body r (suc (suc (a + P.size i) + P.size body)) (suc (a + P.size i)) a w b out mid (length (P.results i)) (length (P.collects r))
            (passed v c i h.0) (passed v c t h.1) (passed v c body h.2) (passed v c (P.refolded r) h.3) refl
        parts-bare v (Whole (form.ForAll e body r n w')) keep hold given c a w b out mid h =
            for-all-bare keep hold (own_of_node v c) e body r (suc (a + P.size e)) a w b out mid (length (P.results e)) (length (P.collects r)) (passed v c e h.0) (passed v c body h.1) (passed v c (P.refolded r) h.2)

        node-bare : (v : Vertex) (kind : Kind) → v.kind ≡ kind → AreSourcesBare P S may (S.copies g v.label) g (first_port v.kind) v.ins × IsKindPicked P S may g v kind × IsKindPassed P S may g v kind
            → (lives owns keep hold : Cells_of) (a out : ℕ) → AllBare (kind_code P make room g v (ops v) kind (P.width v) a out) (kind_settings P S settles g v lives owns keep hold (ops v) kind out)
        node-bare v (Plain row shape) is h lives owns keep hold a out = (modes-bare g args (P.nodes g) lo m (S.takes g v.label) (S.copies g v.label) (first_port v.kind) v.ins h.0, tt)
        node-bare v (Whole (form.Call f)) is h lives owns keep hold a out = (modes-bare g args (P.nodes g) lo m (S.takes g v.label) (S.copies g v.label) (first_port v.kind) v.ins h.0, tt)
        node-bare v (Whole (form.Select s gs w')) is h lives owns keep hold a out = (tt, (picks-bare g args (P.nodes g) lo m (P.picks g v) v.ins h.1, parts-bare v (Whole (form.Select s gs w')) keep hold (gives P S g v) (out + P.width v) (suc (suc a)) (P.width v) (a + kind_size P (Whole (form.Select s gs w'))) out ((out + P.width v) + length (picked (P.picks g v) (ops v))) h.2))
        node-bare v (Whole (form.TagCase gs w')) is h lives owns keep hold a out = (tt, (picks-bare g args (P.nodes g) lo m (P.picks g v) v.ins h.1, parts-bare v (Whole (form.TagCase gs w')) keep hold (gives P S g v) (out + P.width v) (suc (suc a)) (P.width v) (a + kind_size P (Whole (form.TagCase gs w'))) out ((out + P.width v) + length (picked (P.picks g v) (ops v))) h.2))
        node-bare v (Whole (form.LoopA i t b r w')) is h lives owns keep hold a out = (tt, (picks-bare g args (P.nodes g) lo m (P.picks g v) v.ins h.1, parts-bare v (Whole (form.LoopA i t b r w')) keep hold (gives P S g v) (out + P.width v) (suc (suc a)) (P.width v) (a + kind_size P (Whole (form.LoopA i t b r w'))) out ((out + P.width v) + length (picked (P.picks g v) (ops v))) h.2))
        node-bare v (Whole (form.LoopB i t b r w')) is h lives owns keep hold a out = (tt, (picks-bare g args (P.nodes g) lo m (P.picks g v) v.ins h.1, parts-bare v (Whole (form.LoopB i t b r w')) keep hold (gives P S g v) (out + P.width v) (suc (suc a)) (P.width v) (a + kind_size P (Whole (form.LoopB i t b r w'))) out ((out + P.width v) + length (picked (P.picks g v) (ops v))) h.2))
        node-bare v (Whole (form.ForAll e' b r n w')) is h lives owns keep hold a out = (tt, (picks-bare g args (P.nodes g) lo m (P.picks g v) v.ins h.1, parts-bare v (Whole (form.ForAll e' b r n w')) keep hold (gives P S g v) (out + P.width v) (suc (suc a)) (P.width v) (a + kind_size P (Whole (form.ForAll e' b r n w'))) out ((out + P.width v) + length (picked (P.picks g v) (ops v))) h.2))

        nodes-bare : (keep hold : Cells_of) (vs : List Vertex) (known : Known) (taken : Taken) (a out : ℕ)
            → EachNode (λ v. AreSourcesBare P S may (S.copies g v.label) g (first_port v.kind) v.ins × IsKindPicked P S may g v v.kind × IsKindPassed P S may g v v.kind) vs
            → AllBare (nodes_code P make room g (placed P args (P.nodes g) lo) vs a out) (nodes_settings P S settles keep hold args g lo known taken vs out)
        nodes-bare keep hold [] known taken a out h = tt
        nodes-bare keep hold (v ∷ vs) known taken a out h =
            let after = taken_by (S.takes g v.label) (first_port v.kind) v.ins taken in
            both-bare (kind_code P make room g v (ops v) v.kind (P.width v) a out) _
            (kind_settings P S settles g v (live_in P S keep args g lo known taken) (own_in P S hold args g lo known taken) (live_in P S keep args g lo known after) (own_in P S hold args g lo known after) (ops v) v.kind out) _
            (node-bare v v.kind refl h.0 (live_in P S keep args g lo known taken) (own_in P S hold args g lo known taken) (live_in P S keep args g lo known after) (own_in P S hold args g lo known after) a out)
            (nodes-bare keep hold vs ((v.label, P.width v) ∷ known) after (a + kind_size P v.kind) (out + P.width v) h.1)

    graph-bare : (n room : ℕ) (keep hold : Cells_of) (args : List Operand) (g a lo : ℕ) → AreMay g 1 args → AllBare (graph_code P n room args g a lo) (graph_settings P S n keep hold args g lo)
    graph-bare zero room keep hold args g a lo m = tt
    graph-bare (suc n) room keep hold args g a lo m =
        nodes-bare (graph_code P n) (graph_settings P S n) (graph-bare n) room g args lo m keep hold (P.nodes g) [] [] a lo (bare g).nodes

    function-bare : (n f a : ℕ) → AllBare (function_lines P n f a) (function_settings P S n f)
    function-bare n f a =
        let args = cells_at 0 (P.params f) in
        let m = ats-may f 1 args (cells-ats 0 (P.params f)) in
        last-bare (graph_code P n (room_of P f) args f a (P.params f)) _ (graph_settings P S n none_of none_of args f (P.params f)) _ (graph-bare n (room_of P f) none_of none_of args f a (P.params f) m) (ends-bare f args (P.params f) m)

    functions-bare : (n : ℕ) (fs : List ℕ) (a : ℕ) → AllBare (functions_lines P n fs a) (functions_settings P S n fs)
    functions-bare n [] a = tt
    functions-bare n (f ∷ fs) a = both-bare (function_lines P n f a) (functions_lines P n fs (a + suc (P.size f))) (function_settings P S n f) (functions_settings P S n fs) (function-bare n f a) (functions-bare n fs (a + suc (P.size f)))

pub made-bare : AreMadeBare
made-bare P S may n fs bare pc = at-bare (functions_lines P n fs 0) (functions_settings P S n fs) (functions-bare P S may bare n fs 0) pc
