-- Graphs inside nodes, and the alternatives and arms of Selects and TagCases.
use Rattle.std.proofs.Common.{◌≡◌, ℕ, suc, ◌+◌, ◌<◌, ◌≤◌, ◌⊎◌, inl, inr, max, Bool, true, false, List, [], ◌∷◌, length, map, refl, sym, ◌∙◌, arith}
use Rattle.std.proofs.lemmas.List.{length-map}
use Rattle.std.proofs.Math.Nat.{le-max_left, le-max_right}
use Rattle.run_code.specs.Cells.{Operand}
use Rattle.run_code.specs.Coded.{operand}
use Rattle.run_code.specs.Made.{Plan, Makes, OfNothing, OfResults, arm_code, arms_at, arms_code, end_at, ends_at, greatest_extent, line, placed, select_code}
use Rattle.run_code.specs.Steps.{Branch, Move}
use Rattle.run_made.proofs.Lengths.{IsLong, arm-long}
use Rattle.run_made.specs.Plans.{All, Weighing}
use Rattle.run_store.specs.Lively.{Live}
use Rattle.run_store.specs.Refines.{IsTaken}
use Rattle.run_store.specs.Stored.{Handling, Looks, Mode}
use Rattle.made_store.proofs.Alive.{or-either, or-left, or-right, range-sound, true-false, where-as, where-sound}
use Rattle.made_store.proofs.Around.{taken-index}
use Rattle.made_store.proofs.Flows.{AllFine, AllFollow, Flows, Opens, Standing, fine-at, fine-both, follow, handled_as, look-copied, look-untaken, may-look-one, may-modes, modes-last, plain-modes}
use Rattle.made_store.proofs.Owned.{IsGivenTo, part-scene, selector-scene}
use Rattle.made_store.proofs.Scenes.{IsScene}
use Rattle.made_store.proofs.Walks.{IsEnd}
use Rattle.made_store.specs.Settings.{ArmsSet, Cells_of, PartSet, SelectSet, Sets, Shares, cells_where, either_of, live_behind, own_behind, range_of, result_modes}
use Rattle.made_store.specs.Shared.{IsShared}

module _ (P : Plan) (S : Shares) (W : Weighing) (handling : ℕ → Handling) (live own : Live) (room : ℕ) (shared : (g : ℕ) → IsShared P S W g) where
  -- a graph that is set stays lively, and no more is live where it begins than its operands and what is kept
  abbrev pub DoesFine : Makes P → Sets P S handling live own → (ℕ → Type 0) → Type 0
  DoesFine make sets lays =
      (keep hold : Cells_of) (args : List Operand) (g a lo : ℕ) → lays g → IsScene S keep hold args g lo → sets keep hold args g a lo → lo + P.extent g ≤ room
      → Opens W handling live own (a + P.size g) (live_behind P S keep args g lo) (own_behind P S hold args g lo)
      → AllFine W handling live own a (make room args g a lo) × Opens W handling live own a (either_of keep (cells_where (S.has g) args)) (either_of hold (cells_where (S.owns g) args))

  abbrev pub EndsSo : (ℕ → Type 0) → Type 0
  EndsSo lays = (keep hold : Cells_of) (args : List Operand) (g lo : ℕ) → lays g → (scene : IsScene S keep hold args g lo)
      → IsEnd P S W keep hold args g lo (shared g) scene (live_behind P S keep args g lo) (own_behind P S hold args g lo)

  -- behind a graph whose results are brought on, what is kept for it is still there
  pub end-flows : (keep hold : Cells_of) (args : List Operand) (g lo c n : ℕ) (scene : IsScene S keep hold args g lo) (nexts nexts_own : Cells_of)
      → IsEnd P S W keep hold args g lo (shared g) scene (live_behind P S keep args g lo) (own_behind P S hold args g lo)
      → ((i : ℕ) → nexts i ≡ true → (range_of c n i ≡ true) ⊎ (keep i ≡ true)) → ((i : ℕ) → nexts_own i ≡ true → (range_of c n i ≡ true) ⊎ (hold i ≡ true))
      → ((i : ℕ) → keep i ≡ true → i < c) → ((i : ℕ) → hold i ≡ true → i < c)
      → Flows (live_behind P S keep args g lo) nexts (result_modes P S g) (ends_at P args g lo) c n × Flows (own_behind P S hold args g lo) nexts_own (result_modes P S g) (ends_at P args g lo) c n
  end-flows keep hold args g lo c n scene nexts nexts_own e split split_own low low_own = ((λ i x. go i (split i x)), λ i x. go_own i (split_own i x))
    where
      many : length (ends_at P args g lo) ≡ length (P.results g)
      many = length-map (P.results g) (operand (placed P args (P.nodes g) lo))

      go : (i : ℕ) → (range_of c n i ≡ true) ⊎ (keep i ≡ true) → ((c ≤ i) × (i < c + n)) ⊎ ((live_behind P S keep args g lo i ≡ true) × (IsTaken (result_modes P S g) (ends_at P args g lo) i → ⊥) × ((i < c) ⊎ (c + n ≤ i)))
      go i (inl r) = inl (range-sound c n i r)
      go i (inr k) = inr (or-left (keep i) _ k, (λ t. let x = taken-index (S.takes g 0) (S.copies g 0) (P.results g) (ends_at P args g lo) 1 i many t in (e.takes x.0 i x.1 x.2).1 k), inl (low i k))

      go_own : (i : ℕ) → (range_of c n i ≡ true) ⊎ (hold i ≡ true) → ((c ≤ i) × (i < c + n)) ⊎ ((own_behind P S hold args g lo i ≡ true) × (IsTaken (result_modes P S g) (ends_at P args g lo) i → ⊥) × ((i < c) ⊎ (c + n ≤ i)))
      go_own i (inl r) = inl (range-sound c n i r)
      go_own i (inr k) = inr (or-left (hold i) _ k, (λ t. let x = taken-index (S.takes g 0) (S.copies g 0) (P.results g) (ends_at P args g lo) 1 i many t in (e.takes x.0 i x.1 x.2).2 k), inl (low_own i k))

  module _ (make : Makes P) (sets : Sets P S handling live own) (lays : ℕ → Type 0) (long : IsLong P make lays) (fine : DoesFine make sets lays) (ends : EndsSo lays) where
    pub arm-fine : (keep hold : Cells_of) (args : List Operand) (g t w b lo up : ℕ) → lays g → IsScene S keep hold args g up → PartSet P S handling live own sets keep hold args g t up (result_modes P S g) [] → up + P.extent g ≤ room
        → ((i : ℕ) → keep i ≡ true → i < lo) → ((i : ℕ) → hold i ≡ true → i < lo) → Opens W handling live own b (either_of (range_of lo w) keep) (either_of (range_of lo w) hold)
        → AllFine W handling live own t (arm_code P make room args g t w b lo up) × Opens W handling live own t (either_of keep (cells_where (S.has g) args)) (either_of hold (cells_where (S.owns g) args))
    arm-fine keep hold args g t w b lo up right scene set fits low low_own next =
        let m = t + P.size g in
        let froms = ends_at P args g up in
        let lives = live_behind P S keep args g up in
        let owns = own_behind P S hold args g up in
        let e = ends keep hold args g up right scene in
        let one = long room args g t up right in
        let x = fine keep hold args g t up right scene set.0 fits ((λ i h. sym (set.1.1 i) ∙ h), λ i h. sym (set.1.2 i) ∙ h) in
        let f = end-flows keep hold args g up lo w scene (either_of (range_of lo w) keep) (either_of (range_of lo w) hold) e (λ i h. or-either (range_of lo w i) (keep i) h) (λ i h. or-either (range_of lo w i) (hold i) h) low low_own in
        let move = fine-at W handling live own m (line (OfResults g) (Move froms lo w b)) (result_modes P S g) [] lives owns set.1 (plain-modes (S.takes g 0) (S.copies g 0) 1 (P.results g)) tt (shared g).results
        (may-modes live own m (S.takes g 0) (S.copies g 0) (P.results g) froms 1 (length-map (P.results g) (operand (placed P args (P.nodes g) up))) (λ j i h. set.1.1 i ∙ e.looks j i h) (λ j i t h. set.1.2 i ∙ (e.takes j i t h).0))
        (modes-last (S.takes g 0) (S.copies g 0) (P.results g) froms 1 (length-map (P.results g) (operand (placed P args (P.nodes g) up))) e.once)
        (follow W handling live own m b lo w (result_modes P S g) [] froms lives owns (either_of (range_of lo w) keep) (either_of (range_of lo w) hold) set.1 next f.0 f.1, tt) tt in
        (fine-both W handling live own t m (make room args g t up) (line (OfResults g) (Move froms lo w b) ∷ []) (omega (arith, one)) x.0 (move, tt), x.1)

    -- what is live where an arm begins
    abbrev pub ArmOpens : (keep hold : Cells_of) → List Operand → List ℕ → (place : ℕ) → Type 0
    ArmOpens keep hold args [] t = Unit {0}
    ArmOpens keep hold args (g ∷ gs) t =
        Opens W handling live own t (either_of keep (cells_where (S.has g) args)) (either_of hold (cells_where (S.owns g) args)) × ArmOpens keep hold args gs (t + suc (P.size g))

    -- a graph that may stand on these operands
    abbrev pub IsArm : (keep hold : Cells_of) → List Operand → (up g : ℕ) → Type 0
    IsArm keep hold args up g = lays g × IsScene S keep hold args g up

    pub arms-fine : (keep hold : Cells_of) (args : List Operand) (gs : List ℕ) (t w b lo up : ℕ) → All (IsArm keep hold args up) gs → ArmsSet P S handling live own sets keep hold args gs t up → up + greatest_extent P gs ≤ room
        → ((i : ℕ) → keep i ≡ true → i < lo) → ((i : ℕ) → hold i ≡ true → i < lo) → Opens W handling live own b (either_of (range_of lo w) keep) (either_of (range_of lo w) hold)
        → AllFine W handling live own t (arms_code P make room args gs t w b lo up) × ArmOpens keep hold args gs t
    arms-fine keep hold args [] t w b lo up right set fits low low_own next = (tt, tt)
    arms-fine keep hold args (g ∷ gs) t w b lo up right set fits low low_own next =
        let first = le-max_left (P.extent g) (greatest_extent P gs) in
        let second = le-max_right (P.extent g) (greatest_extent P gs) in
        let one = arm-long P make lays long room args g t w b lo up right.0.0 in
        let x = arm-fine keep hold args g t w b lo up right.0.0 right.0.1 set.0 (omega (arith, fits, first)) low low_own next in
        let y = arms-fine keep hold args gs (t + suc (P.size g)) w b lo up right.1 set.1 (omega (arith, fits, second)) low low_own next in
        (fine-both W handling live own t (t + suc (P.size g)) (arm_code P make room args g t w b lo up) (arms_code P make room args gs (t + suc (P.size g)) w b lo up) (omega (arith, one)) x.0 y.0, (x.1, y.1))

    -- a step that leads to each arm
    pub arms-follow : (keep hold : Cells_of) (args : List Operand) (pc out w : ℕ) (ms : List Mode) (reads : List Operand) (lives owns : Cells_of) (gs : List ℕ) (t : ℕ) → Standing W handling live own pc ms [] lives owns → ArmOpens keep hold args gs t
        → All (λ g. Flows lives (either_of keep (cells_where (S.has g) args)) ms reads out w × Flows owns (either_of hold (cells_where (S.owns g) args)) ms reads out w) gs
        → AllFollow W handling live own pc (handled_as ms []) reads (map (λ t. (t, out, w)) (arms_at P make room gs t))
    arms-follow keep hold args pc out w ms reads lives owns [] t s o f = tt
    arms-follow keep hold args pc out w ms reads lives owns (g ∷ gs) t s o f = (
      follow W handling live own pc t out w ms [] reads lives owns (either_of keep (cells_where (S.has g) args)) (either_of hold (cells_where (S.owns g) args)) s o.0 f.0.0 f.0.1,
      arms-follow keep hold args pc out w ms reads lives owns gs (t + suc (P.size g)) s o.1 f.1,
    )

    -- ---- Select

    module _ (lives owns keep hold : Cells_of) (given : ℕ → Bool) (args : List Operand) (lo begin mid : ℕ) (h : IsGivenTo lives owns keep hold given args lo begin mid) where
      abbrev pub all_kept : Cells_of
      all_kept = either_of keep (cells_where (λ p. true) args)

      abbrev pub all_held : Cells_of
      all_held = either_of hold (cells_where given args)

      abbrev pub Gives : ℕ → Type 0
      Gives g = (p : ℕ) → S.owns g p ≡ true → given p ≡ true

      low : (i : ℕ) → keep i ≡ true → i < lo
      low i k = (h.kept i k).1

      low-own : (i : ℕ) → hold i ≡ true → i < lo
      low-own i k = (h.held i k).1

      all-low : (i : ℕ) → all_kept i ≡ true → i < mid
      all-low i e = go (or-either (keep i) (cells_where (λ p. true) args i) e)
        where
          go : (keep i ≡ true) ⊎ (cells_where (λ p. true) args i ≡ true) → i < mid
          go (inl k) =
              let lt = low i k in
              let a = h.rises.0 in
              let b = h.rises.1 in
              omega (arith, lt, a, b)
          go (inr k) = let x = where-sound (λ p. true) args i k in h.below x.0 i x.2

      all-low-own : (i : ℕ) → all_held i ≡ true → i < mid
      all-low-own i e = go (or-either (hold i) (cells_where given args i) e)
        where
          go : (hold i ≡ true) ⊎ (cells_where given args i ≡ true) → i < mid
          go (inl k) =
              let lt = low-own i k in
              let a = h.rises.0 in
              let b = h.rises.1 in
              omega (arith, lt, a, b)
          go (inr k) = let x = where-sound given args i k in h.below x.0 i x.2

      -- what is live where a graph begins that owns only what is given
      pub begins-all : (pc g : ℕ) → Gives g → Opens W handling live own pc (either_of keep (cells_where (S.has g) args)) (either_of hold (cells_where (S.owns g) args)) → Opens W handling live own pc all_kept all_held
      begins-all pc g gives o = ((λ i e. go i (or-either (keep i) (cells_where (S.has g) args i) (o.0 i e))), λ i e. go_own i (or-either (hold i) (cells_where (S.owns g) args i) (o.1 i e)))
        where
          go : (i : ℕ) → (keep i ≡ true) ⊎ (cells_where (S.has g) args i ≡ true) → all_kept i ≡ true
          go i (inl k) = or-left (keep i) (cells_where (λ p. true) args i) k
          go i (inr k) = or-right (keep i) (cells_where (λ p. true) args i) (where-as (S.has g) (λ p. true) args i (λ p e. refl) k)

          go_own : (i : ℕ) → (hold i ≡ true) ⊎ (cells_where (S.owns g) args i ≡ true) → all_held i ≡ true
          go_own i (inl k) = or-left (hold i) (cells_where given args i) k
          go_own i (inr k) = or-right (hold i) (cells_where given args i) (where-as (S.owns g) given args i gives k)

      as-arms : (up : ℕ) → mid ≤ up → (gs : List ℕ) → All lays gs → All Gives gs → All (IsArm keep hold args up) gs
      as-arms up le [] l g = tt
      as-arms up le (x ∷ xs) l g = ((l.0, part-scene S lives owns keep hold given args lo begin mid h x up le g.0), as-arms up le xs l.1 g.1)

      branch-flows : (gs : List ℕ) → (lives' owns' : Cells_of) → (sel : Operand) → ((i : ℕ) → all_kept i ≡ true → lives' i ≡ true) → ((i : ℕ) → all_held i ≡ true → owns' i ≡ true) → All Gives gs
          → All (λ g. Flows lives' (either_of keep (cells_where (S.has g) args)) (Looks ∷ []) (sel ∷ []) 0 0 × Flows owns' (either_of hold (cells_where (S.owns g) args)) (Looks ∷ []) (sel ∷ []) 0 0) gs
      branch-flows [] lives' owns' sel a b g = tt
      branch-flows (x ∷ xs) lives' owns' sel a b g = (
        (
          (λ i e. inr (a i (more i (or-either (keep i) (cells_where (S.has x) args i) e)), look-untaken sel i, inr (omega arith))),
          λ i e. inr (b i (more-own i (or-either (hold i) (cells_where (S.owns x) args i) e)), look-untaken sel i, inr (omega arith)),
        ),
        branch-flows xs lives' owns' sel a b g.1,
      )
        where
          more : (i : ℕ) → (keep i ≡ true) ⊎ (cells_where (S.has x) args i ≡ true) → all_kept i ≡ true
          more i (inl k) = or-left (keep i) (cells_where (λ p. true) args i) k
          more i (inr k) = or-right (keep i) (cells_where (λ p. true) args i) (where-as (S.has x) (λ p. true) args i (λ p e. refl) k)

          more-own : (i : ℕ) → (hold i ≡ true) ⊎ (cells_where (S.owns x) args i ≡ true) → all_held i ≡ true
          more-own i (inl k) = or-left (hold i) (cells_where given args i) k
          more-own i (inr k) = or-right (hold i) (cells_where given args i) (where-as (S.owns x) given args i g.0 k)

      pub select-fine : (s : ℕ) (gs : List ℕ) (a w b : ℕ) → lays s → ((p : ℕ) → S.owns s p ≡ false) → All lays gs → All Gives gs → SelectSet P S handling live own sets keep hold given args s gs a mid → mid + max (P.extent s) (greatest_extent P gs) ≤ room
          → Opens W handling live own b (either_of (range_of lo w) keep) (either_of (range_of lo w) hold)
          → AllFine W handling live own a (select_code P make room args s gs a w b lo mid) × Opens W handling live own a all_kept all_held
      select-fine s gs a w b right none others gives set fits next =
          let first = le-max_left (P.extent s) (greatest_extent P gs) in
          let second = le-max_right (P.extent s) (greatest_extent P gs) in
          let m = a + P.size s in
          let sel = end_at P args s mid in
          let lives' = live_behind P S all_kept args s mid in
          let owns' = own_behind P S all_held args s mid in
          let scene = selector-scene S lives owns keep hold given args lo begin mid h s none all_kept all_held all-low all-low-own in
          let e = ends all_kept all_held args s mid right scene in
          let one = long room args s a mid right in
          let x = fine all_kept all_held args s a mid right scene set.0.0 (omega (arith, fits, first)) ((λ i t. sym (set.0.1.1 i) ∙ t), λ i t. sym (set.0.1.2 i) ∙ t) in
          let y = arms-fine keep hold args gs (suc m) w b lo mid (as-arms mid (omega arith) gs others gives) set.1 (omega (arith, fits, second)) low low-own next in
          let f = branch-flows gs lives' owns' sel (λ i k. or-left (all_kept i) _ k) (λ i k. or-left (all_held i) _ k) gives in
          let branch = fine-at W handling live own m (line OfNothing (Branch sel (arms_at P make room gs (suc m)) lo w b)) (Looks ∷ []) [] lives' owns' set.0.1 tt tt look-copied (may-look-one live own m sel (λ i t. set.0.1.1 i ∙ e.looks 0 i t)) (tt, tt) (
            follow W handling live own m b lo w (Looks ∷ []) [] (sel ∷ []) lives' owns' (either_of (range_of lo w) keep) (either_of (range_of lo w) hold) set.0.1 next (λ i t. past i (or-either (range_of lo w i) (keep i) t))
                (λ i t. past-own i (or-either (range_of lo w i) (hold i) t)),
            arms-follow keep hold args m 0 0 (Looks ∷ []) (sel ∷ []) lives' owns' gs (suc m) set.0.1 y.1 f,
          ) tt in (
            fine-both W handling live own a m (make room args s a mid) (line OfNothing (Branch sel (arms_at P make room gs (suc m)) lo w b) ∷ arms_code P make room args gs (suc m) w b lo mid) (omega (arith, one)) x.0 (branch, y.0),
            ((λ i t. less i (or-either (all_kept i) (cells_where (S.has s) args i) (x.1.0 i t))), λ i t. less-own i (or-either (all_held i) (cells_where (S.owns s) args i) (x.1.1 i t))),
          )
        where
          past : (i : ℕ) → (range_of lo w i ≡ true) ⊎ (keep i ≡ true)
              → ((lo ≤ i) × (i < lo + w)) ⊎ ((live_behind P S all_kept args s mid i ≡ true) × (IsTaken (Looks ∷ []) (end_at P args s mid ∷ []) i → ⊥) × ((i < lo) ⊎ (lo + w ≤ i)))
          past i (inl r) = inl (range-sound lo w i r)
          past i (inr k) = inr (or-left (all_kept i) _ (or-left (keep i) (cells_where (λ p. true) args i) k), look-untaken (end_at P args s mid) i, inl (low i k))

          past-own : (i : ℕ) → (range_of lo w i ≡ true) ⊎ (hold i ≡ true)
              → ((lo ≤ i) × (i < lo + w)) ⊎ ((own_behind P S all_held args s mid i ≡ true) × (IsTaken (Looks ∷ []) (end_at P args s mid ∷ []) i → ⊥) × ((i < lo) ⊎ (lo + w ≤ i)))
          past-own i (inl r) = inl (range-sound lo w i r)
          past-own i (inr k) = inr (or-left (all_held i) _ (or-left (hold i) (cells_where given args i) k), look-untaken (end_at P args s mid) i, inl (low-own i k))

          less : (i : ℕ) → (all_kept i ≡ true) ⊎ (cells_where (S.has s) args i ≡ true) → all_kept i ≡ true
          less i (inl k) = k
          less i (inr k) = or-right (keep i) (cells_where (λ p. true) args i) (where-as (S.has s) (λ p. true) args i (λ p e. refl) k)

          less-own : (i : ℕ) → (all_held i ≡ true) ⊎ (cells_where (S.owns s) args i ≡ true) → all_held i ≡ true
          less-own i (inl k) = k
          less-own i (inr k) = absurd (let x = where-sound (S.owns s) args i k in true-false (S.owns s (suc x.0)) x.1 (none (suc x.0)))
