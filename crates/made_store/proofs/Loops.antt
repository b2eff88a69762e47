-- Loops.
use Rattle.std.proofs.Common.{◌≡◌, ℕ, zero, suc, ◌+◌, ◌<◌, ◌≤◌, ◌⊎◌, inl, inr, max, Bool, true, false, Some, List, [], ◌∷◌, ◌++◌, take, length, get_or, slice_get, sym, ◌∙◌, subst, arith}
use Rattle.std.proofs.lemmas.List.{length-map}
use Rattle.std.proofs.Math.Nat.{le-max_left, le-max_right}
use Rattle.graph_meaning.specs.Carried.{Unfilled}
use Rattle.run_code.proofs.Folding.{sifts-fewer}
use Rattle.run_code.specs.Cells.{Operand, At, Lit, cells_at}
use Rattle.run_code.specs.Coded.{operand}
use Rattle.run_code.specs.Collections.{AreWithin, Final, sifts_in}
use Rattle.run_code.specs.Made.{Plan, Line, Makes, OfNothing, OfResults, arm_code, end_at, ends_at, greatest_extent, line, loop_code, placed, stand}
use Rattle.run_code.specs.Steps.{Keep, Test}
use Rattle.run_made.proofs.Lengths.{IsLong}
use Rattle.run_made.specs.Plans.{Weighing}
use Rattle.run_store.specs.Lively.{Live}
use Rattle.run_store.specs.Refines.{IsTaken}
use Rattle.run_store.specs.Stored.{Handling, Looks, Mode}
use Rattle.made_store.proofs.Alive.{or-either, or-left, or-right, range-so, range-sound, true-false, where-sound}
use Rattle.made_store.proofs.Around.{taken-index}
use Rattle.made_store.proofs.Behind.{all-copied, behind-scene, both-low, front-copied, last-within, may-take-all, none-put, none-scene, stand-alone, stand-is, taken-all-last, takes-range}
use Rattle.made_store.proofs.Flows.{AllFine, ArePlain, FineAt, Opens, both-last, fine-at, fine-both, follow, look-copied, look-untaken, may-both, may-look-one, may-modes, modes-last, modes-long, none-of, plain-both, plain-modes, taken-of}
use Rattle.made_store.proofs.Owned.{IsGivenTo, cells-is, get-split, part-scene}
use Rattle.made_store.proofs.Parts.{DoesFine, EndsSo, arm-fine, begins-all, end-flows}
use Rattle.made_store.proofs.Scenes.{IsScene}
use Rattle.made_store.specs.Settings.{Cells_of, PartSet, Sets, Shares, cells_where, either_of, live_behind, own_behind, range_of, result_modes, sifts_of, takes_all}
use Rattle.made_store.specs.Shared.{IsShared}

pub plain-takes : (k : ℕ) → ArePlain (takes_all k)
plain-takes zero = tt
plain-takes (suc k) = plain-takes k

module _ (P : Plan) (S : Shares) (W : Weighing) (handling : ℕ → Handling) (live own : Live) (room : ℕ) (shared : (g : ℕ) → IsShared P S W g) (make : Makes P) (sets : Sets P S handling live own) (lays : ℕ → Type 0) (long : IsLong P make lays)
    (fine : DoesFine P S W handling live own room shared make sets lays) (ends : EndsSo P S W handling live own room shared lays) where
  -- a graph that is set, and what is live where it begins
  pub part-fine : (keep hold : Cells_of) (args : List Operand) (g a lo : ℕ) (ms : List Mode) (puts : List Bool) → lays g → IsScene S keep hold args g lo → PartSet P S handling live own sets keep hold args g a lo ms puts → lo + P.extent g ≤ room
      → AllFine W handling live own a (make room args g a lo) × Opens W handling live own a (either_of keep (cells_where (S.has g) args)) (either_of hold (cells_where (S.owns g) args))
  part-fine keep hold args g a lo ms puts right scene set fits = fine keep hold args g a lo right scene set.0 fits ((λ i t. sym (set.1.1 i) ∙ t), λ i t. sym (set.1.2 i) ∙ t)

  -- what is live at the beginning is among others
  pub shrink : (pc : ℕ) (keep hold mine mine_own all all_own : Cells_of) → ((i : ℕ) → keep i ≡ true → all i ≡ true) → ((i : ℕ) → mine i ≡ true → all i ≡ true) → ((i : ℕ) → hold i ≡ true → all_own i ≡ true) → ((i : ℕ) → mine_own i ≡ true → all_own i ≡ true)
      → Opens W handling live own pc (either_of keep mine) (either_of hold mine_own) → Opens W handling live own pc all all_own
  shrink pc keep hold mine mine_own all all_own a b c d o = ((λ i e. go i (or-either (keep i) (mine i) (o.0 i e))), λ i e. go_own i (or-either (hold i) (mine_own i) (o.1 i e)))
    where
      go : (i : ℕ) → (keep i ≡ true) ⊎ (mine i ≡ true) → all i ≡ true
      go i (inl x) = a i x
      go i (inr x) = b i x

      go_own : (i : ℕ) → (hold i ≡ true) ⊎ (mine_own i ≡ true) → all_own i ≡ true
      go_own i (inl x) = c i x
      go_own i (inr x) = d i x

  module _ (lives owns keep hold : Cells_of) (given : ℕ → Bool) (args : List Operand) (lo begin mid : ℕ) (h : IsGivenTo lives owns keep hold given args lo begin mid) where
    pub under : (i : ℕ) → keep i ≡ true → i < mid
    under i e =
        let lt = (h.kept i e).1 in
        let x = h.rises.0 in
        let y = h.rises.1 in
        omega (arith, lt, x, y)

    pub under-own : (i : ℕ) → hold i ≡ true → i < mid
    under-own i e =
        let lt = (h.held i e).1 in
        let x = h.rises.0 in
        let y = h.rises.1 in
        omega (arith, lt, x, y)

    module _ (i t b r n : ℕ) (n_is : n ≡ length (P.results i)) (right_i : lays i) (right_t : lays t) (right_b : lays b) (right_o : lays (P.refolded r)) (gives : (p : ℕ) → S.owns i p ≡ true → given p ≡ true) (none_t : (p : ℕ) → S.owns t p ≡ false)
        (past_b : (p : ℕ) → S.owns b p ≡ true → length args < p) (has_t : (p : ℕ) → S.has t p ≡ true → p ≤ length args → given p ≡ false) (has_b : (p : ℕ) → S.has b p ≡ true → p ≤ length args → given p ≡ false)
        (has_o : (p : ℕ) → S.has (P.refolded r) p ≡ true → p ≤ length args → given p ≡ false) (past_o : (p : ℕ) → S.owns (P.refolded r) p ≡ true → length args < p)
        (once_o : (p q j : ℕ) → S.owns (P.refolded r) (suc (length args + p)) ≡ true → slice_get (P.collects r) p ≡ Some (Final j) → slice_get (P.collects r) q ≡ Some (Final j) → q ≡ p) (same : length (P.results b) ≡ n)
        (within : AreWithin n (P.collects r)) where
      abbrev k : ℕ
      k = length (P.collects r)

      abbrev top : ℕ
      top = mid + (n + k)

      abbrev x : List Operand
      x = args ++ cells_at mid n

      abbrev y : List Operand
      y = args ++ stand P (P.collects r) (mid + n) mid

      -- what a loop keeps of it
      abbrev few : ℕ
      few = sifts_of P r

      fewer : few ≤ k
      fewer = sifts-fewer (P.collects r)

      abbrev V : Cells_of
      V = either_of keep (range_of mid (n + few))

      abbrev VO : Cells_of
      VO = either_of hold (range_of mid (n + few))

      abbrev KB : Cells_of
      KB = either_of keep (range_of (mid + n) few)

      abbrev HB : Cells_of
      HB = either_of hold (range_of (mid + n) few)

      -- loop values and collections stand in the range
      v-so : (c : ℕ) → mid ≤ c → c < mid + (n + few) → V c ≡ true
      v-so c a b = or-right (keep c) (range_of mid (n + few) c) (range-so mid (n + few) c a b)

      vo-so : (c : ℕ) → mid ≤ c → c < mid + (n + few) → VO c ≡ true
      vo-so c a b = or-right (hold c) (range_of mid (n + few) c) (range-so mid (n + few) c a b)

      low-of : (some : Cells_of) (c m : ℕ) → ((j : ℕ) → some j ≡ true → j < mid) → mid ≤ c → c + m ≤ top → (j : ℕ) → either_of some (range_of c m) j ≡ true → j < top
      low-of some c m less le fits j e = go (or-either (some j) (range_of c m j) e)
        where
          go : (some j ≡ true) ⊎ (range_of c m j ≡ true) → j < top
          go (inl z) = let lt = less j z in omega (arith, lt)
          go (inr z) = let lt = (range-sound c m j z).1 in omega (arith, lt, fits)

      below-x : (j c : ℕ) → get_or x j (Lit Unfilled) ≡ At c → c < top
      below-x j c e =
          both-low args (cells_at mid n) top j c (λ j c e. let lt = h.below j c e in omega (arith, lt)) (λ j c e.
          let z = cells-is mid n j c e in
          let lt = z.0 in
          let s = z.1 in
          omega (arith, lt, s)) e

      kb-v : (c : ℕ) → KB c ≡ true → V c ≡ true
      kb-v c e = go (or-either (keep c) (range_of (mid + n) few c) e)
        where
          go : (keep c ≡ true) ⊎ (range_of (mid + n) few c ≡ true) → V c ≡ true
          go (inl z) = or-left (keep c) (range_of mid (n + few) c) z
          go (inr z) =
              let w = range-sound (mid + n) few c z in
              let le = w.0 in
              let lt = w.1 in
              v-so c (omega (arith, le)) (omega (arith, lt))

      hb-v : (c : ℕ) → HB c ≡ true → VO c ≡ true
      hb-v c e = go (or-either (hold c) (range_of (mid + n) few c) e)
        where
          go : (hold c ≡ true) ⊎ (range_of (mid + n) few c ≡ true) → VO c ≡ true
          go (inl z) = or-left (hold c) (range_of mid (n + few) c) z
          go (inr z) =
              let w = range-sound (mid + n) few c z in
              let le = w.0 in
              let lt = w.1 in
              vo-so c (omega (arith, le)) (omega (arith, lt))

      kept-v : (c : ℕ) → keep c ≡ true → V c ≡ true
      kept-v c e = or-left (keep c) (range_of mid (n + few) c) e

      held-v : (c : ℕ) → hold c ≡ true → VO c ≡ true
      held-v c e = or-left (hold c) (range_of mid (n + few) c) e

      -- the operands of a part that has none that is given
      x-live : (g : ℕ) → ((p : ℕ) → S.has g p ≡ true → p ≤ length args → given p ≡ false) → (c : ℕ) → cells_where (S.has g) x c ≡ true → V c ≡ true
      x-live g has c e = let z = where-sound (S.has g) x c e in go z.0 z.1 (get-split args (cells_at mid n) z.0 c z.2)
        where
          go : (j : ℕ) → S.has g (suc j) ≡ true → ((j < length args) × (get_or args j (Lit Unfilled) ≡ At c)) ⊎ ((q : ℕ) × (j ≡ length args + q) × (get_or (cells_at mid n) q (Lit Unfilled) ≡ At c)) → V c ≡ true
          go j there (inl z) = let lt = z.0 in kept-v c (h.left j c (has (suc j) there (omega (arith, lt))) z.1)
          go j there (inr z) =
              let w = cells-is mid n z.0 c z.2 in
              let lt = w.0 in
              let s = w.1 in
              v-so c (omega (arith, s)) (omega (arith, lt, s))

      x-own : (g : ℕ) → ((p : ℕ) → S.owns g p ≡ true → length args < p) → (c : ℕ) → cells_where (S.owns g) x c ≡ true → VO c ≡ true
      x-own g past c e = let z = where-sound (S.owns g) x c e in go z.0 z.1 (get-split args (cells_at mid n) z.0 c z.2)
        where
          go : (j : ℕ) → S.owns g (suc j) ≡ true → ((j < length args) × (get_or args j (Lit Unfilled) ≡ At c)) ⊎ ((q : ℕ) × (j ≡ length args + q) × (get_or (cells_at mid n) q (Lit Unfilled) ≡ At c)) → VO c ≡ true
          go j o (inl z) =
              let lt = z.0 in
              let more = past (suc j) o in
              absurd (omega (arith, lt, more))
          go j o (inr z) =
              let w = cells-is mid n z.0 c z.2 in
              let lt = w.0 in
              let s = w.1 in
              vo-so c (omega (arith, s)) (omega (arith, lt, s))

      -- where collections and last values stand
      stand-range : (j c : ℕ) → get_or (stand P (P.collects r) (mid + n) mid) j (Lit Unfilled) ≡ At c → (mid ≤ c) × (c < mid + (n + few))
      stand-range j c e = go (stand-is P (P.collects r) (mid + n) mid j c e)
        where
          go : ((mid + n ≤ c) × (c < (mid + n) + few)) ⊎ ((d : ℕ) × (slice_get (P.collects r) j ≡ Some (Final d)) × (c ≡ mid + d)) → (mid ≤ c) × (c < mid + (n + few))
          go (inl s) =
              let le = s.0 in
              let lt = s.1 in
              (omega (arith, le), omega (arith, lt))
          go (inr w) =
              let less = last-within n (P.collects r) j w.0 within w.1 in
              let s = w.2 in
              (omega (arith, s), omega (arith, s, less))

      stand-once : (j c q : ℕ) → S.owns (P.refolded r) (suc (length args + j)) ≡ true → get_or (stand P (P.collects r) (mid + n) mid) j (Lit Unfilled) ≡ At c → get_or (stand P (P.collects r) (mid + n) mid) q (Lit Unfilled) ≡ At c → q ≡ j
      stand-once j c q o e f = go (stand-is P (P.collects r) (mid + n) mid j c e) (stand-is P (P.collects r) (mid + n) mid q c f)
        where
          go : ((mid + n ≤ c) × (c < (mid + n) + few)) ⊎ ((d : ℕ) × (slice_get (P.collects r) j ≡ Some (Final d)) × (c ≡ mid + d))
              → ((mid + n ≤ c) × (c < (mid + n) + few)) ⊎ ((d : ℕ) × (slice_get (P.collects r) q ≡ Some (Final d)) × (c ≡ mid + d)) → q ≡ j
          go (inl s) z = stand-alone P n (P.collects r) (mid + n) mid j q c within s.0 e f
          go (inr s) (inl z) =
              let less = last-within n (P.collects r) j s.0 within s.1 in
              let w = s.2 in
              let le = z.0 in
              absurd (omega (arith, le, w, less))
          go (inr s) (inr z) =
              let a = s.2 in
              let b = z.2 in
              let d : z.0 ≡ s.0 = omega (arith, a, b) in
              once_o j q s.0 o s.1 (subst (λ m. slice_get (P.collects r) q ≡ Some (Final m)) d z.1)

      y-live : (c : ℕ) → cells_where (S.has (P.refolded r)) y c ≡ true → V c ≡ true
      y-live c e = let z = where-sound (S.has (P.refolded r)) y c e in go z.0 z.1 (get-split args (stand P (P.collects r) (mid + n) mid) z.0 c z.2)
        where
          go : (j : ℕ) → S.has (P.refolded r) (suc j) ≡ true → ((j < length args) × (get_or args j (Lit Unfilled) ≡ At c)) ⊎ ((q : ℕ) × (j ≡ length args + q) × (get_or (stand P (P.collects r) (mid + n) mid) q (Lit Unfilled) ≡ At c)) → V c ≡ true
          go j there (inl z) = let lt = z.0 in kept-v c (h.left j c (has_o (suc j) there (omega (arith, lt))) z.1)
          go j there (inr z) = let w = stand-range z.0 c z.2 in v-so c w.0 w.1

      y-own : (c : ℕ) → cells_where (S.owns (P.refolded r)) y c ≡ true → VO c ≡ true
      y-own c e = let z = where-sound (S.owns (P.refolded r)) y c e in go z.0 z.1 (get-split args (stand P (P.collects r) (mid + n) mid) z.0 c z.2)
        where
          go : (j : ℕ) → S.owns (P.refolded r) (suc j) ≡ true → ((j < length args) × (get_or args j (Lit Unfilled) ≡ At c)) ⊎ ((q : ℕ) × (j ≡ length args + q) × (get_or (stand P (P.collects r) (mid + n) mid) q (Lit Unfilled) ≡ At c)) → VO c ≡ true
          go j o (inl z) =
              let lt = z.0 in
              let more = past_o (suc j) o in
              absurd (omega (arith, lt, more))
          go j o (inr z) = let w = stand-range z.0 c z.2 in vo-so c w.0 w.1

      -- ---- scenes

      test-scene : IsScene S V VO x t top
      test-scene = none-scene S t x top V VO none_t below-x (λ c e. low-of keep mid (n + few) under (omega arith) (omega (arith, fewer)) c e) (λ c e. low-of hold mid (n + few) under-own (omega arith) (omega (arith, fewer)) c e)

      body-scene : IsScene S KB HB x b top
      body-scene =
          behind-scene S b args (cells_at mid n) mid top KB HB (omega arith) h.below (λ j c e.
          let z = cells-is mid n j c e in
          let lt = z.0 in
          let s = z.1 in
          (omega (arith, s), omega (arith, lt, s))) past_b
          (λ j c o e. (
            (λ z. apart keep j c (λ c e. under c e) e z),
            (λ z. apart hold j c (λ c e. under-own c e) e z),
            λ q f.
                let z = (cells-is mid n j c e).1 in
                let w = (cells-is mid n q c f).1 in
                omega (arith, z, w),
          ))
          (λ c e. low-of keep (mid + n) few under (omega arith) (omega (arith, fewer)) c e) (λ c e. low-of hold (mid + n) few under-own (omega arith) (omega (arith, fewer)) c e)
        where
          apart : (some : Cells_of) (j c : ℕ) → ((c : ℕ) → some c ≡ true → c < mid) → get_or (cells_at mid n) j (Lit Unfilled) ≡ At c → either_of some (range_of (mid + n) few) c ≡ true → ⊥
          apart some j c less e z = go (or-either (some c) (range_of (mid + n) few c) z)
            where
              at : (j < n) × (c ≡ mid + j)
              at = cells-is mid n j c e

              go : (some c ≡ true) ⊎ (range_of (mid + n) few c ≡ true) → ⊥
              go (inl z) =
                  let lt = less c z in
                  let s = at.1 in
                  omega (arith, lt, s)
              go (inr z) =
                  let le = (range-sound (mid + n) few c z).0 in
                  let lt = at.0 in
                  let s = at.1 in
                  omega (arith, le, lt, s)

      returns-scene : IsScene S keep hold y (P.refolded r) top
      returns-scene =
          behind-scene S (P.refolded r) args (stand P (P.collects r) (mid + n) mid) mid top keep hold (omega arith) h.below (λ j c e. let z = stand-range j c e in let lt = z.1 in (z.0, omega (arith, lt, fewer))) past_o
          (λ j c o e. (
            (λ z.
                let lt = under c z in
                let le = (stand-range j c e).0 in
                omega (arith, lt, le)),
            (λ z.
                let lt = under-own c z in
                let le = (stand-range j c e).0 in
                omega (arith, lt, le)),
            λ q f. stand-once j c q o e f,
          )) (λ c e. let lt = under c e in omega (arith, lt)) (λ c e. let lt = under-own c e in omega (arith, lt))

      -- ---- steps

      -- the first values go to their cells
      begins-fine : (a starts : ℕ) → PartSet P S handling live own sets keep hold args i a mid (result_modes P S i) [] → Opens W handling live own starts V VO
          → FineAt W handling live own (a + P.size i) (line (OfResults i) (Keep true (sifts_in (P.collects r)) (ends_at P args i mid) mid starts))
      begins-fine a starts set next =
          let froms = ends_at P args i mid in
          let m = a + P.size i in
          let scene = part-scene S lives owns keep hold given args lo begin mid h i mid (omega arith) gives in
          let e = ends keep hold args i mid right_i scene in
          let many : length froms ≡ length (P.results i) = length-map (P.results i) (operand (placed P args (P.nodes i) mid)) in
          let f = end-flows P S W handling live own room shared keep hold args i mid mid (length froms + few) scene V VO e (λ c z. split keep c (or-either (keep c) (range_of mid (n + few) c) z)) (λ c z. split hold c (or-either (hold c) (range_of mid (n + few) c) z)) under under-own in
          fine-at W handling live own m (line (OfResults i) (Keep true (sifts_in (P.collects r)) froms mid starts)) (result_modes P S i) [] (live_behind P S keep args i mid) (own_behind P S hold args i mid) set.1 (plain-modes (S.takes i 0) (S.copies i 0) 1 (P.results i)) tt
          (λ ks.
          let z = none-put (sifts_in (P.collects r)) ks in
          let w = all-copied (result_modes P S i) (length froms) ks (many ∙ sym (modes-long (S.takes i 0) (S.copies i 0) 1 (P.results i))) in
          let q = (shared i).results (take (length froms) ks) in
          omega (arith, z, w, q))
          (may-modes live own m (S.takes i 0) (S.copies i 0) (P.results i) froms 1 many (λ j c z. set.1.1 c ∙ e.looks j c z) (λ j c o z. set.1.2 c ∙ (e.takes j c o z).0))
          (modes-last (S.takes i 0) (S.copies i 0) (P.results i) froms 1 many e.once)
          (follow W handling live own m starts mid (length froms + few) (result_modes P S i) [] froms (live_behind P S keep args i mid) (own_behind P S hold args i mid) V VO set.1 next f.0 f.1, tt) tt
        where
          split : (some : Cells_of) (c : ℕ) → (some c ≡ true) ⊎ (range_of mid (n + few) c ≡ true) → (range_of mid (length (ends_at P args i mid) + few) c ≡ true) ⊎ (some c ≡ true)
          split some c (inl z) = inr z
          split some c (inr z) =
              let w = range-sound mid (n + few) c z in
              let lt = w.1 in
              let many = length-map (P.results i) (operand (placed P args (P.nodes i) mid)) in
              inl (range-so mid (length (ends_at P args i mid) + few) c w.0 (omega (arith, lt, many, n_is)))

      -- and the next ones
      turns-fine : (turn tests : ℕ) → PartSet P S handling live own sets KB HB x b turn top (result_modes P S b ++ takes_all few) [] → Opens W handling live own tests V VO
          → FineAt W handling live own (turn + P.size b) (line (OfResults b) (Keep false (sifts_in (P.collects r)) (ends_at P x b top) mid tests))
      turns-fine turn tests set next =
          let e = ends KB HB x b top right_b body-scene in
          fine-at W handling live own m (line (OfResults b) (Keep false (sifts_in (P.collects r)) froms mid tests)) (result_modes P S b ++ takes_all few) [] lives' owns' set.1
          (plain-both (result_modes P S b) (takes_all few) (plain-modes (S.takes b 0) (S.copies b 0) 1 (P.results b)) (plain-takes few)) tt
          (λ ks.
          let z = none-put (sifts_in (P.collects r)) ks in
          let w = front-copied (result_modes P S b) few (length froms) ks (many ∙ sym (modes-long (S.takes b 0) (S.copies b 0) 1 (P.results b))) in
          let q = (shared b).results (take (length froms) ks) in
          omega (arith, z, w, q))
          (may-both live own m (result_modes P S b) (takes_all few) froms (cells_at (mid + length froms) few) (modes-long (S.takes b 0) (S.copies b 0) 1 (P.results b) ∙ sym many)
          (may-modes live own m (S.takes b 0) (S.copies b 0) (P.results b) froms 1 many (λ j c z. set.1.1 c ∙ e.looks j c z) (λ j c o z. set.1.2 c ∙ (e.takes j c o z).0))
          (may-take-all live own m (mid + length froms) few (λ c u v. set.1.2 c ∙ or-left (HB c) _ (or-right (hold c) (range_of (mid + n) few c) (range-so (mid + n) few c (omega (arith, u, many, same)) (omega (arith, v, many, same)))))))
          (both-last (result_modes P S b) (takes_all few) froms (cells_at (mid + length froms) few) (modes-long (S.takes b 0) (S.copies b 0) 1 (P.results b) ∙ sym many)
          (modes-last (S.takes b 0) (S.copies b 0) (P.results b) froms 1 many e.once) (taken-all-last (mid + length froms) few)
          (λ c o. let z = taken-index (S.takes b 0) (S.copies b 0) (P.results b) froms 1 c many o in none-of (cells_at (mid + length froms) few) c (λ q f. kept-apart c q f (e.takes z.0 c z.1 z.2).1))) (
            follow W handling live own m tests mid (length froms + few) (result_modes P S b ++ takes_all few) [] (froms ++ cells_at (mid + length froms) few) lives' owns' V VO set.1 next
                (λ c z. go keep lives' c (or-either (keep c) (range_of mid (n + few) c) z) (λ z. or-left (KB c) _ (or-left (keep c) (range_of (mid + n) few c) z)) (λ z. under c z) (λ o z. (e.takes o.0 c o.1 o.2).1 (or-left (keep c) (range_of (mid + n) few c) z)))
                (λ c z. go hold owns' c (or-either (hold c) (range_of mid (n + few) c) z) (λ z. or-left (HB c) _ (or-left (hold c) (range_of (mid + n) few c) z)) (λ z. under-own c z) (λ o z. (e.takes o.0 c o.1 o.2).2 (or-left (hold c) (range_of (mid + n) few c) z))),
            tt,
          ) tt
        where
          m : ℕ
          m = turn + P.size b

          froms : List Operand
          froms = ends_at P x b top

          lives' : Cells_of
          lives' = live_behind P S KB x b top

          owns' : Cells_of
          owns' = own_behind P S HB x b top

          many : length froms ≡ length (P.results b)
          many = length-map (P.results b) (operand (placed P x (P.nodes b) top))

          kept-apart : (c q : ℕ) → get_or (cells_at (mid + length froms) few) q (Lit Unfilled) ≡ At c → (KB c ≡ true → ⊥) → ⊥
          kept-apart c q f out =
              let z = cells-is (mid + length froms) few q c f in
              let lt = z.0 in
              let s = z.1 in
              out (or-right (keep c) (range_of (mid + n) few c) (range-so (mid + n) few c (omega (arith, s, many, same)) (omega (arith, lt, s, many, same))))

          go : (some all : Cells_of) (c : ℕ) → (some c ≡ true) ⊎ (range_of mid (n + few) c ≡ true) → (some c ≡ true → all c ≡ true) → (some c ≡ true → c < mid)
              → ((j : ℕ) × (S.takes b 0 (1 + j) ≡ true) × (get_or froms j (Lit Unfilled) ≡ At c) → some c ≡ true → ⊥)
              → ((mid ≤ c) × (c < mid + (length froms + few))) ⊎ ((all c ≡ true) × (IsTaken (result_modes P S b ++ takes_all few) (froms ++ cells_at (mid + length froms) few) c → ⊥) × ((c < mid) ⊎ (mid + (length froms + few) ≤ c)))
          go some all c (inr z) there less gone =
              let w = range-sound mid (n + few) c z in
              let lt = w.1 in
              inl (w.0, omega (arith, lt, many, same))
          go some all c (inl z) there less gone = inr (there z, (λ o. split (taken-of (result_modes P S b) (takes_all few) froms (cells_at (mid + length froms) few) c (modes-long (S.takes b 0) (S.copies b 0) 1 (P.results b) ∙ sym many) o)), inl (less z))
            where
              split : IsTaken (result_modes P S b) froms c ⊎ IsTaken (takes_all few) (cells_at (mid + length froms) few) c → ⊥
              split (inl o) = gone (taken-index (S.takes b 0) (S.copies b 0) (P.results b) froms 1 c many o) z
              split (inr o) =
                  let le = (takes-range (mid + length froms) few c o).0 in
                  let lt = less z in
                  omega (arith, le, lt)

      -- the test
      test-fine : (turn tests leave w past : ℕ) → PartSet P S handling live own sets V VO x t tests top (Looks ∷ []) [] → Opens W handling live own turn V VO → Opens W handling live own leave V VO
          → Opens W handling live own past (either_of (range_of lo w) keep) (either_of (range_of lo w) hold) → FineAt W handling live own (tests + P.size t) (line OfNothing (Test (end_at P x t top) turn leave lo w past))
      test-fine turn tests leave w past set o_turn o_leave o_past =
          let e = ends V VO x t top right_t test-scene in
          fine-at W handling live own m (line OfNothing (Test go turn leave lo w past)) (Looks ∷ []) [] lives' owns' set.1 tt tt look-copied (may-look-one live own m go (λ c z. set.1.1 c ∙ e.looks 0 c z)) (tt, tt) (
            follow W handling live own m past lo w (Looks ∷ []) [] (go ∷ []) lives' owns' (either_of (range_of lo w) keep) (either_of (range_of lo w) hold) set.1 o_past
                (λ c z. out keep lives' c (or-either (range_of lo w c) (keep c) z) (λ z. or-left (V c) _ (kept-v c z)) (λ z. (h.kept c z).1)) (λ c z. out hold owns' c (or-either (range_of lo w c) (hold c) z) (λ z. or-left (VO c) _ (held-v c z)) (λ z. (h.held c z).1)),
            (
              follow W handling live own m turn 0 0 (Looks ∷ []) [] (go ∷ []) lives' owns' V VO set.1 o_turn (λ c z. inr (or-left (V c) _ z, look-untaken go c, inr (omega arith))) (λ c z. inr (or-left (VO c) _ z, look-untaken go c, inr (omega arith))),
              (follow W handling live own m leave 0 0 (Looks ∷ []) [] (go ∷ []) lives' owns' V VO set.1 o_leave (λ c z. inr (or-left (V c) _ z, look-untaken go c, inr (omega arith))) (λ c z. inr (or-left (VO c) _ z, look-untaken go c, inr (omega arith))), tt),
            ),
          ) tt
        where
          m : ℕ
          m = tests + P.size t

          go : Operand
          go = end_at P x t top

          lives' : Cells_of
          lives' = live_behind P S V x t top

          owns' : Cells_of
          owns' = own_behind P S VO x t top

          out : (some all : Cells_of) (c : ℕ) → (range_of lo w c ≡ true) ⊎ (some c ≡ true) → (some c ≡ true → all c ≡ true) → (some c ≡ true → c < lo)
              → ((lo ≤ c) × (c < lo + w)) ⊎ ((all c ≡ true) × (IsTaken (Looks ∷ []) (end_at P x t top ∷ []) c → ⊥) × ((c < lo) ⊎ (lo + w ≤ c)))
          out some all c (inl z) there less = inl (range-sound lo w c z)
          out some all c (inr z) there less = inr (there z, look-untaken go c, inl (less z))

      -- ---- the whole

      pub loop-fine : (first : List Line) (starts turn a w past : ℕ) → PartSet P S handling live own sets keep hold args i a mid (result_modes P S i) []
          → PartSet P S handling live own sets KB HB x b turn top (result_modes P S b ++ takes_all few) [] → PartSet P S handling live own sets V VO x t (suc (turn + P.size b)) top (Looks ∷ []) []
          → PartSet P S handling live own sets keep hold y (P.refolded r) (suc (suc (turn + P.size b) + P.size t)) top (result_modes P S (P.refolded r)) []
          → mid + max (P.extent i) (n + (k + greatest_extent P (t ∷ b ∷ P.refolded r ∷ []))) ≤ room → turn ≡ suc (a + P.size i) + length first
          → (Opens W handling live own turn V VO → Opens W handling live own (suc (turn + P.size b)) V VO → AllFine W handling live own (suc (a + P.size i)) first × Opens W handling live own starts V VO)
          → Opens W handling live own past (either_of (range_of lo w) keep) (either_of (range_of lo w) hold)
          → AllFine W handling live own a (loop_code P make room args i t b r first starts turn a w past lo mid n k)
          × Opens W handling live own a (either_of keep (cells_where (λ p. true) args)) (either_of hold (cells_where given args))
      loop-fine first starts turn a w past s_i s_b s_t s_o fits goes firsts next =
          let o = P.refolded r in
          let begun = a + P.size i in
          let turned = turn + P.size b in
          let tests = suc turned in
          let tested = tests + P.size t in
          let leave = suc tested in
          let m0 = le-max_left (P.extent i) (n + (k + greatest_extent P (t ∷ b ∷ o ∷ []))) in
          let m1 = le-max_right (P.extent i) (n + (k + greatest_extent P (t ∷ b ∷ o ∷ []))) in
          let m2 = le-max_left (P.extent t) (greatest_extent P (b ∷ o ∷ [])) in
          let m3 = le-max_right (P.extent t) (greatest_extent P (b ∷ o ∷ [])) in
          let m4 = le-max_left (P.extent b) (greatest_extent P (o ∷ [])) in
          let m5 = le-max_right (P.extent b) (greatest_extent P (o ∷ [])) in
          let m6 = le-max_left (P.extent o) 0 in
          let l0 = long room args i a mid right_i in
          let l1 = long room x b turn top right_b in
          let l2 = long room x t tests top right_t in
          let p_i = part-fine keep hold args i a mid (result_modes P S i) [] right_i (part-scene S lives owns keep hold given args lo begin mid h i mid (omega arith) gives) s_i (omega (arith, fits, m0)) in
          let p_b = part-fine KB HB x b turn top (result_modes P S b ++ takes_all few) [] right_b body-scene s_b (omega (arith, fits, m1, m3, m4)) in
          let p_t = part-fine V VO x t tests top (Looks ∷ []) [] right_t test-scene s_t (omega (arith, fits, m1, m2)) in
          let arm = arm-fine P S W handling live own room shared make sets lays long fine ends keep hold y o leave w past lo top right_o returns-scene s_o (omega (arith, fits, m1, m3, m5, m6)) (λ c z. (h.kept c z).1) (λ c z. (h.held c z).1) next in
          let o_turn = shrink turn KB HB (cells_where (S.has b) x) (cells_where (S.owns b) x) V VO kb-v (x-live b has_b) hb-v (x-own b past_b) p_b.1 in
          let o_tests = shrink tests V VO (cells_where (S.has t) x) (cells_where (S.owns t) x) V VO (λ c z. z) (x-live t has_t) (λ c z. z)
          (λ c z. absurd (let q = where-sound (S.owns t) x c z in true-false (S.owns t (suc q.0)) q.1 (none_t (suc q.0)))) p_t.1 in
          let o_leave = shrink leave keep hold (cells_where (S.has o) y) (cells_where (S.owns o) y) V VO kept-v y-live held-v y-own arm.1 in
          let f = firsts o_turn o_tests in
          let c4 = arm_code P make room y o leave w past lo top in
          let c3 = line OfNothing (Test (end_at P x t top) turn leave lo w past) ∷ c4 in
          let c2 = line (OfResults b) (Keep false (sifts_in (P.collects r)) (ends_at P x b top) mid tests) ∷ (make room x t tests top ++ c3) in
          let c1 = make room x b turn top ++ c2 in
          let c0 = line (OfResults i) (Keep true (sifts_in (P.collects r)) (ends_at P args i mid) mid starts) ∷ (first ++ c1) in
          let a3 = fine-both W handling live own tests tested (make room x t tests top) c3 (omega (arith, l2)) p_t.0 (test-fine turn tests leave w past s_t o_turn o_leave next, arm.0) in
          let a2 = fine-both W handling live own turn turned (make room x b turn top) c2 (omega (arith, l1)) p_b.0 (turns-fine turn tests s_b o_tests, a3) in
          let a1 = fine-both W handling live own (suc begun) turn first c1 goes f.0 a2 in (
            fine-both W handling live own a begun (make room args i a mid) c0 (omega (arith, l0)) p_i.0 (begins-fine a starts s_i f.1, a1),
            begins-all P S W handling live own room shared make sets lays long fine ends lives owns keep hold given args lo begin mid h a i gives p_i.1,
          )
