-- The parts of loops and ForAlls that are made do them.
use Rattle.std.proofs.Common.{◌≡◌, ℕ, suc, ◌+◌, ◌≤◌, max, Bool, true, false, List, [], ◌∷◌, ◌++◌, length, refl, ◌∙◌, subst, arith}
use Rattle.std.proofs.lemmas.List.{length-map}
use Rattle.std.proofs.Math.Nat.{le-max_left, le-max_right}
use Rattle.run_laws.specs.Carried.{Carried}
use Rattle.run_laws.specs.Demand.{Vertex, Network}
use Rattle.run_laws.specs.Cells.{Operand, cells_at, own_cells}
use Rattle.run_laws.specs.Coded.{ForAllIs, GoesIn, Layout, LoopIs, PartIs, Starts, operand, the_for_all, the_loop}
use Rattle.run_laws.specs.Machine.{Weigh}
use Rattle.run_laws.specs.Collections.{sifts_in}
use Rattle.run_laws.specs.Made.{Plan, Line, line, OfNothing, OfResults, OfRows, Makes, arm_code, end_at, ends_at, for_all_code, greatest_extent, loop_code, loop_extent, placed, stand}
use Rattle.run_laws.specs.Steps.{Add, Code, Each, Keep, Spread, Test}
use Rattle.run_made.proofs.Arms.{X, Does, arm-made, as-planned}
use Rattle.run_made.proofs.Lengths.{IsLong}
use Rattle.run_made.proofs.Lying.{lies-first, lies-rest, one-result, own-are, stand-at}
use Rattle.run_made.specs.Plans.{IsChoice, IsInner, IsRefolded, Lie, Weighing}

module _ (P : Plan) (W : Weighing) (u : Network) (order : ℕ → List Vertex) (functions : List ℕ) (code : Code) (weigh : Weigh) (room : ℕ) (make : Makes P) (lays : ℕ → Type 0)
    (long : IsLong P make lays) (does : Does P W u order functions code weigh room make lays) where
  abbrev L : Layout
  L = X P W u order functions code weigh room

  pub loop-made : (early : Bool) (args : List Operand) (picks : List Bool) (i t body r : ℕ) (begin : List Line) (own : List Carried → List Carried → ℕ) (starts turn w a b lo mid : ℕ) (extra : List Carried → ℕ)
      → (let n = length (P.results i) in let k = length (P.collects r) in
      Starts L a lo w picks args own mid
      → IsInner P W u order functions lays i → IsInner P W u order functions lays t → IsChoice P W u order functions t → IsInner P W u order functions lays body → length (P.results body) ≡ n → lays (P.refolded r)
      → IsRefolded P W u order functions (length args) n r extra → ((row : List Carried) → extra row ≡ 0)
      → mid + loop_extent P i t body r ≤ room → turn ≡ suc (suc (suc a) + P.size i) + length begin
      → (Lie W code weigh (suc (suc (suc a) + P.size i)) begin → GoesIn L early starts turn (suc (turn + P.size body)))
      → Lie W code weigh (suc (suc a)) (loop_code P make room (own_cells picks args (lo + w)) i t body r begin starts turn (suc (suc a)) w b lo mid n k)
      → LoopIs L room early args i t body r own w a b lo)
  loop-made early args picks i t body r begin own starts turn w a b lo mid extra begins in_i in_t choice in_b same in_r refolds free fits goes enters lies =
      let n = length (P.results i) in
      let k = length (P.collects r) in
      let o = P.refolded r in
      let mine = own_cells picks args (lo + w) in
      let top = mid + (n + k) in
      let begun = suc (suc a) + P.size i in
      let turned = turn + P.size body in
      let tests = suc turned in
      let tested = tests + P.size t in
      let leave = suc tested in
      let x = mine ++ cells_at mid n in
      let y = mine ++ stand P (P.collects r) (mid + n) mid in
      let s4 = arm_code P make room y o leave w b lo top in
      let s3 = line OfNothing (Test (end_at P x t top) turn leave lo w b) ∷ s4 in
      let s2 = line (OfResults body) (Keep false (sifts_in (P.collects r)) (ends_at P x body top) mid tests) ∷ (make room x t tests top ++ s3) in
      let s1 = make room x body turn top ++ s2 in
      let s0 = line (OfResults i) (Keep true (sifts_in (P.collects r)) (ends_at P mine i mid) mid starts) ∷ (begin ++ s1) in
      let l0 = long room mine i (suc (suc a)) mid in_i.1 in
      let l1 = long room x body turn top in_b.1 in
      let l2 = long room x t tests top in_t.1 in
      let m0 = le-max_left (P.extent i) (n + (k + greatest_extent P (t ∷ body ∷ o ∷ []))) in
      let m1 = le-max_right (P.extent i) (n + (k + greatest_extent P (t ∷ body ∷ o ∷ []))) in
      let m2 = le-max_left (P.extent t) (greatest_extent P (body ∷ o ∷ [])) in
      let m3 = le-max_right (P.extent t) (greatest_extent P (body ∷ o ∷ [])) in
      let m4 = le-max_left (P.extent body) (greatest_extent P (o ∷ [])) in
      let m5 = le-max_right (P.extent body) (greatest_extent P (o ∷ [])) in
      let m6 = le-max_left (P.extent o) 0 in
      let r0 = lies-rest W code weigh (suc (suc a)) begun (make room mine i (suc (suc a)) mid) s0 (omega (arith, l0)) lies in
      let f0 = lies-first W code weigh (suc begun) begin s1 r0.2 in
      let r1 = lies-rest W code weigh (suc begun) turn begin s1 goes r0.2 in
      let r2 = lies-rest W code weigh turn turned (make room x body turn top) s2 (omega (arith, l1)) r1 in
      let r3 = lies-rest W code weigh tests tested (make room x t tests top) s3 (omega (arith, l2)) r2.2 in
      let arm = arm-made P W u order functions code weigh room make lays long does y o leave w b lo top in_r (omega (arith, fits, m1, m3, m5, m6)) r3.2 in
      let part_i = does mine i (suc (suc a)) mid in_i.1 (omega (arith, fits, m0)) (lies-first W code weigh (suc (suc a)) (make room mine i (suc (suc a)) mid) s0 lies) in
      let part_b = does x body turn top in_b.1 (omega (arith, fits, m1, m3, m4)) (lies-first W code weigh turn (make room x body turn top) s2 r1) in
      let part_t = does x t tests top in_t.1 (omega (arith, fits, m1, m2)) (lies-first W code weigh tests (make room x t tests top) s3 r2.2) in
      the_loop early args i t body r own w a b lo picks mid n k begun starts turn turned tests tested leave (leave + P.size o) o (P.nodes o) (P.results o) (P.collects r) extra
      (end_at P x t top) (ends_at P mine i mid) (ends_at P x body top) (ends_at P y o top) mine mine mine (stand P (P.collects r) (mid + n) mid)
      begins
      (as-planned P W u order functions code weigh room mine i (suc (suc a)) begun mid (ends_at P mine i mid) in_i.0 part_i)
      r0.0 (λ ks. r0.1 ks []) (length-map (P.results i) (operand (placed P mine (P.nodes i) mid))) refl
      (enters f0)
      (own-are picks args (lo + w))
      (subst (λ froms. PartIs L room x t (order t) (u t).results tests tested top froms) (one-result (placed P x (P.nodes t) top) (P.results t) choice.0)
      (as-planned P W u order functions code weigh room x t tests tested top (ends_at P x t top) in_t.0 part_t))
      choice.1 r3.0
      (own-are picks args (lo + w))
      (as-planned P W u order functions code weigh room x body turn turned top (ends_at P x body top) in_b.0 part_b)
      r2.0 (λ ks. r2.1 ks []) (length-map (P.results body) (operand (placed P x (P.nodes body) top)) ∙ same)
      refolds.0 refolds.1 free
      (own-are picks args (lo + w))
      (stand-at P (P.collects r) (mid + n) mid)
      arm.0 arm.1

  pub for-all-made : (args : List Operand) (picks : List Bool) (e body r m : ℕ) (own : List Carried → List Carried → ℕ) (w a b lo mid : ℕ)
      → (let n = length (P.results e) in let k = length (P.collects r) in
      Starts L a lo w picks args own mid
      → IsInner P W u order functions lays e → IsInner P W u order functions lays body → length (P.results body) ≡ m → lays (P.refolded r)
      → IsRefolded P W u order functions (length args + n) m r (W.rows r)
      → mid + max (P.extent e) (n + (k + max (suc n + P.extent body) (P.extent (P.refolded r)))) ≤ room
      → Lie W code weigh (suc (suc a)) (for_all_code P make room (own_cells picks args (lo + w)) e body r (suc (suc (suc a) + P.size e)) (suc (suc a)) w b lo mid n k)
      → ForAllIs L room args e body r m own w a b lo)
  for-all-made args picks e body r m own w a b lo mid begins in_e in_b same in_r refolds fits lies =
      let n = length (P.results e) in
      let k = length (P.collects r) in
      let o = P.refolded r in
      let mine = own_cells picks args (lo + w) in
      let top = mid + (n + k) in
      let made = suc (suc a) + P.size e in
      let turn = suc made in
      let turned = turn + P.size body in
      let turns = suc turned in
      let leave = suc turns in
      let x = mine ++ cells_at (suc top) n in
      let y = (mine ++ cells_at mid n) ++ cells_at (mid + n) k in
      let s3 = arm_code P make room y o leave w b lo top in
      let s2 = line (OfRows body r) (Add (P.collects r) (ends_at P x body (suc top + n)) (mid + n) turns) ∷ line OfNothing (Each n mid top turn leave) ∷ s3 in
      let s1 = line (OfResults e) (Spread (ends_at P mine e mid) (P.collects r) mid turns lo w b) ∷ (make room x body turn (suc top + n) ++ s2) in
      let l0 = long room mine e (suc (suc a)) mid in_e.1 in
      let l1 = long room x body turn (suc top + n) in_b.1 in
      let m0 = le-max_left (P.extent e) (n + (k + max (suc n + P.extent body) (P.extent o))) in
      let m1 = le-max_right (P.extent e) (n + (k + max (suc n + P.extent body) (P.extent o))) in
      let m2 = le-max_left (suc n + P.extent body) (P.extent o) in
      let m3 = le-max_right (suc n + P.extent body) (P.extent o) in
      let r0 = lies-rest W code weigh (suc (suc a)) made (make room mine e (suc (suc a)) mid) s1 (omega (arith, l0)) lies in
      let r1 = lies-rest W code weigh turn turned (make room x body turn (suc top + n)) s2 (omega (arith, l1)) r0.2 in
      let arm = arm-made P W u order functions code weigh room make lays long does y o leave w b lo top in_r (omega (arith, fits, m1, m3)) r1.2.2 in
      let part_e = does mine e (suc (suc a)) mid in_e.1 (omega (arith, fits, m0)) (lies-first W code weigh (suc (suc a)) (make room mine e (suc (suc a)) mid) s1 lies) in
      let part_b = does x body turn (suc top + n) in_b.1 (omega (arith, fits, m1, m2)) (lies-first W code weigh turn (make room x body turn (suc top + n)) s2 r0.2) in
      the_for_all args e body r m own w a b lo picks mid n k made turns turn turned leave (leave + P.size o) o (P.nodes o) (P.results o) (P.collects r) (W.rows r)
      (ends_at P mine e mid) (ends_at P x body (suc top + n)) (ends_at P y o top) mine mine
      begins
      (as-planned P W u order functions code weigh room mine e (suc (suc a)) made mid (ends_at P mine e mid) in_e.0 part_e)
      r0.0 (λ ks. r0.1 ks []) (length-map (P.results e) (operand (placed P mine (P.nodes e) mid))) refl
      r1.2.0
      (own-are picks args (lo + w))
      (as-planned P W u order functions code weigh room x body turn turned (suc top + n) (ends_at P x body (suc top + n)) in_b.0 part_b)
      r1.0 (λ ks. r1.1 ks []) (length-map (P.results body) (operand (placed P x (P.nodes body) (suc top + n))) ∙ same)
      refolds.0 refolds.1
      (own-are picks args (lo + w))
      arm.0 arm.1
