-- ForAlls.
use Rattle.std.proofs.Common.{◌≡◌, ℕ, zero, suc, ◌+◌, ◌-◌, ◌<◌, ◌≤◌, ◌⊎◌, inl, inr, max, ltb, Bool, true, false, List, [], ◌∷◌, ◌++◌, take, length, get_or, refl, sym, ap, ◌∙◌, subst, arith}
use Rattle.std.proofs.lemmas.Bool.{ltb-false, ltb-true}
use Rattle.std.proofs.lemmas.List.{length-append, length-map}
use Rattle.std.proofs.Math.Nat.{le-max_left, le-max_right}
use Rattle.graph_meaning.specs.Carried.{Carried, Unfilled}
use Rattle.run_code.specs.Cells.{Operand, At, Lit, cells_at}
use Rattle.run_code.specs.Coded.{operand}
use Rattle.run_code.specs.Collections.{AreWithin}
use Rattle.run_code.specs.Made.{Plan, Makes, OfNothing, OfResults, OfRows, arm_code, ends_at, for_all_code, line, placed}
use Rattle.run_code.specs.Steps.{Add, Each, Spread}
use Rattle.run_made.proofs.Lengths.{IsLong}
use Rattle.run_made.specs.Plans.{Weighing}
use Rattle.run_store.specs.Lively.{Live}
use Rattle.run_store.specs.Refines.{IsTaken}
use Rattle.run_store.specs.Stored.{Handling, put_copied}
use Rattle.made_store.proofs.Alive.{or-either, or-left, or-right, range-so, range-sound, same-cell, true-false, where-sound}
use Rattle.made_store.proofs.Around.{taken-index}
use Rattle.made_store.proofs.Behind.{behind-scene, both-low, cells-long, front-copied, may-take-all, none-scene, put-taken, taken-all-last, takes-range}
use Rattle.made_store.proofs.Flows.{AllFine, FineAt, Opens, both-last, fine-at, fine-both, follow, may-both, may-look, may-modes, modes-last, modes-long, none-copied, none-last, none-of, none-taken, plain-both, plain-modes, set-opens, taken-of}
use Rattle.made_store.proofs.Loops.{part-fine, plain-takes, shrink, under, under-own}
use Rattle.made_store.proofs.Owned.{IsGivenTo, cells-is, get-split, part-scene}
use Rattle.made_store.proofs.Parts.{DoesFine, EndsSo, arm-fine, begins-all, end-flows}
use Rattle.made_store.proofs.Scenes.{IsScene}
use Rattle.made_store.specs.Settings.{Cells_of, IsSet, PartSet, Sets, Shares, cells_where, either_of, live_behind, own_behind, range_of, result_modes, takes_all}
use Rattle.made_store.specs.Shared.{IsShared}

module _ (P : Plan) (S : Shares) (W : Weighing) (handling : ℕ → Handling) (live own : Live) (room : ℕ) (shared : (g : ℕ) → IsShared P S W g) (make : Makes P) (sets : Sets P S handling live own) (lays : ℕ → Type 0) (long : IsLong P make lays)
    (fine : DoesFine P S W handling live own room shared make sets lays) (ends : EndsSo P S W handling live own room shared lays) (lives owns keep hold : Cells_of) (given : ℕ → Bool) (args : List Operand) (lo begin mid : ℕ)
    (h : IsGivenTo lives owns keep hold given args lo begin mid) (e b r n : ℕ) (n_is : n ≡ length (P.results e)) (right_e : lays e) (right_b : lays b) (right_o : lays (P.refolded r)) (gives : (p : ℕ) → S.owns e p ≡ true → given p ≡ true)
    (none_b : (p : ℕ) → S.owns b p ≡ false) (has_b : (p : ℕ) → S.has b p ≡ true → p ≤ length args → given p ≡ false) (has_o : (p : ℕ) → S.has (P.refolded r) p ≡ true → p ≤ length args → given p ≡ false)
    (past_o : (p : ℕ) → S.owns (P.refolded r) p ≡ true → length args + n < p) (within : AreWithin (length (P.results b)) (P.collects r)) (rows : (ks : List Carried) → put_copied (P.collects r) (S.puts r) ks ≡ W.rows r ks) where
  abbrev k : ℕ
  k = length (P.collects r)

  abbrev top : ℕ
  top = mid + (n + k)

  abbrev x : List Operand
  x = args ++ cells_at (suc top) n

  abbrev y : List Operand
  y = (args ++ cells_at mid n) ++ cells_at (mid + n) k

  abbrev V : Cells_of
  V = either_of keep (range_of mid (suc (n + k)))

  abbrev VO : Cells_of
  VO = either_of hold (range_of mid (suc (n + k)))

  low : (c : ℕ) → keep c ≡ true → c < mid
  low c z = under P S W handling live own room shared make sets lays long fine ends lives owns keep hold given args lo begin mid h c z

  low-own : (c : ℕ) → hold c ≡ true → c < mid
  low-own c z = under-own P S W handling live own room shared make sets lays long fine ends lives owns keep hold given args lo begin mid h c z

  v-so : (some : Cells_of) (c : ℕ) → mid ≤ c → c ≤ top → either_of some (range_of mid (suc (n + k))) c ≡ true
  v-so some c a z = or-right (some c) (range_of mid (suc (n + k)) c) (range-so mid (suc (n + k)) c a (omega (arith, z)))

  v-low : (some : Cells_of) → ((c : ℕ) → some c ≡ true → c < mid) → (c : ℕ) → either_of some (range_of mid (suc (n + k))) c ≡ true → c ≤ top
  v-low some less c z = go (or-either (some c) (range_of mid (suc (n + k)) c) z)
    where
      go : (some c ≡ true) ⊎ (range_of mid (suc (n + k)) c ≡ true) → c ≤ top
      go (inl w) = let lt = less c w in omega (arith, lt)
      go (inr w) = let lt = (range-sound mid (suc (n + k)) c w).1 in omega (arith, lt)

  kept-v : (c : ℕ) → keep c ≡ true → V c ≡ true
  kept-v c z = or-left (keep c) (range_of mid (suc (n + k)) c) z

  held-v : (c : ℕ) → hold c ≡ true → VO c ≡ true
  held-v c z = or-left (hold c) (range_of mid (suc (n + k)) c) z

  below-x : (j c : ℕ) → get_or x j (Lit Unfilled) ≡ At c → c < suc top + n
  below-x j c z =
      both-low args (cells_at (suc top) n) (suc top + n) j c (λ j c w. let lt = h.below j c w in omega (arith, lt)) (λ j c w.
      let q = cells-is (suc top) n j c w in
      let lt = q.0 in
      let s = q.1 in
      omega (arith, lt, s)) z

  -- elements stand behind the count; other operands are kept
  x-live : (c : ℕ) → cells_where (S.has b) x c ≡ true → (V c ≡ true) ⊎ ((top ≤ c) × (c < top + suc n))
  x-live c z = let w = where-sound (S.has b) x c z in go w.0 w.1 (get-split args (cells_at (suc top) n) w.0 c w.2)
    where
      go : (j : ℕ) → S.has b (suc j) ≡ true → ((j < length args) × (get_or args j (Lit Unfilled) ≡ At c)) ⊎ ((q : ℕ) × (j ≡ length args + q) × (get_or (cells_at (suc top) n) q (Lit Unfilled) ≡ At c)) → (V c ≡ true) ⊎ ((top ≤ c) × (c < top + suc n))
      go j there (inl w) = let lt = w.0 in inl (kept-v c (h.left j c (has_b (suc j) there (omega (arith, lt))) w.1))
      go j there (inr w) =
          let q = cells-is (suc top) n w.0 c w.2 in
          let lt = q.0 in
          let s = q.1 in
          inr (omega (arith, s), omega (arith, lt, s))

  -- what the returns reads: kept operands, multiples and collections
  y-parts : (j c : ℕ) → get_or y j (Lit Unfilled) ≡ At c → ((j < length args) × (get_or args j (Lit Unfilled) ≡ At c)) ⊎ ((mid ≤ c) × (c < top) × (((j < length args + n) × (c < mid + n)) ⊎ ((j ≡ (length args + n) + (c - (mid + n))) × (mid + n ≤ c))))
  y-parts j c z = outer (get-split (args ++ cells_at mid n) (cells_at (mid + n) k) j c z)
    where
      long-of : length (args ++ cells_at mid n) ≡ length args + n
      long-of = length-append args (cells_at mid n) ∙ ap (λ m. length args + m) (cells-long mid n)

      inner : ((j < length args) × (get_or args j (Lit Unfilled) ≡ At c)) ⊎ ((q : ℕ) × (j ≡ length args + q) × (get_or (cells_at mid n) q (Lit Unfilled) ≡ At c))
          → ((j < length args) × (get_or args j (Lit Unfilled) ≡ At c)) ⊎ ((mid ≤ c) × (c < top) × (((j < length args + n) × (c < mid + n)) ⊎ ((j ≡ (length args + n) + (c - (mid + n))) × (mid + n ≤ c))))
      inner (inl w) = inl w
      inner (inr w) =
          let q = cells-is mid n w.0 c w.2 in
          let lt = q.0 in
          let s = q.1 in
          let a = w.1 in
          inr (omega (arith, s), omega (arith, s, lt), inl (omega (arith, a, lt), omega (arith, s, lt)))

      outer : ((j < length (args ++ cells_at mid n)) × (get_or (args ++ cells_at mid n) j (Lit Unfilled) ≡ At c)) ⊎ ((q : ℕ) × (j ≡ length (args ++ cells_at mid n) + q) × (get_or (cells_at (mid + n) k) q (Lit Unfilled) ≡ At c))
          → ((j < length args) × (get_or args j (Lit Unfilled) ≡ At c)) ⊎ ((mid ≤ c) × (c < top) × (((j < length args + n) × (c < mid + n)) ⊎ ((j ≡ (length args + n) + (c - (mid + n))) × (mid + n ≤ c))))
      outer (inl w) = inner (get-split args (cells_at mid n) j c w.1)
      outer (inr w) =
          let q = cells-is (mid + n) k w.0 c w.2 in
          let lt = q.0 in
          let s = q.1 in
          let a = w.1 in
          inr (omega (arith, s), omega (arith, s, lt), inr (omega (arith, a, s, long-of), omega (arith, s)))

  y-live : (c : ℕ) → cells_where (S.has (P.refolded r)) y c ≡ true → V c ≡ true
  y-live c z = let w = where-sound (S.has (P.refolded r)) y c z in go w.0 w.1 (y-parts w.0 c w.2)
    where
      go : (j : ℕ) → S.has (P.refolded r) (suc j) ≡ true → ((j < length args) × (get_or args j (Lit Unfilled) ≡ At c)) ⊎ ((mid ≤ c) × (c < top) × (((j < length args + n) × (c < mid + n)) ⊎ ((j ≡ (length args + n) + (c - (mid + n))) × (mid + n ≤ c)))) → V c ≡ true
      go j there (inl w) = let lt = w.0 in kept-v c (h.left j c (has_o (suc j) there (omega (arith, lt))) w.1)
      go j there (inr w) = let lt = w.1 in v-so keep c w.0 (omega (arith, lt))

  y-own : (c : ℕ) → cells_where (S.owns (P.refolded r)) y c ≡ true → VO c ≡ true
  y-own c z = let w = where-sound (S.owns (P.refolded r)) y c z in go w.0 w.1 (y-parts w.0 c w.2)
    where
      go : (j : ℕ) → S.owns (P.refolded r) (suc j) ≡ true → ((j < length args) × (get_or args j (Lit Unfilled) ≡ At c)) ⊎ ((mid ≤ c) × (c < top) × (((j < length args + n) × (c < mid + n)) ⊎ ((j ≡ (length args + n) + (c - (mid + n))) × (mid + n ≤ c)))) → VO c ≡ true
      go j o (inl w) =
          let lt = w.0 in
          let more = past_o (suc j) o in
          absurd (omega (arith, lt, more))
      go j o (inr w) = let lt = w.1 in v-so hold c w.0 (omega (arith, lt))

  -- ---- scenes

  body-scene : IsScene S V VO x b (suc top + n)
  body-scene =
      none-scene S b x (suc top + n) V VO none_b below-x (λ c z. let le = v-low keep low c z in omega (arith, le)) (λ c z. let le = v-low hold low-own c z in omega (arith, le))

  returns-scene : IsScene S keep hold y (P.refolded r) top
  returns-scene =
      behind-scene S (P.refolded r) (args ++ cells_at mid n) (cells_at (mid + n) k) (mid + n) top keep hold (omega arith)
      (λ j c z. both-low args (cells_at mid n) (mid + n) j c (λ j c w. let lt = h.below j c w in omega (arith, lt)) (λ j c w.
      let q = cells-is mid n j c w in
      let lt = q.0 in
      let s = q.1 in
      omega (arith, lt, s)) z)
      (λ j c z.
      let q = cells-is (mid + n) k j c z in
      let lt = q.0 in
      let s = q.1 in
      (omega (arith, s), omega (arith, lt, s)))
      (λ p o.
      let more = past_o p o in
      let a = length-append args (cells_at mid n) in
      let c = cells-long mid n in
      omega (arith, more, a, c))
      (λ j c o z. (
        (λ w.
            let lt = low c w in
            let s = (cells-is (mid + n) k j c z).1 in
            omega (arith, lt, s)),
        (λ w.
            let lt = low-own c w in
            let s = (cells-is (mid + n) k j c z).1 in
            omega (arith, lt, s)),
        λ q f.
            let s = (cells-is (mid + n) k j c z).1 in
            let t = (cells-is (mid + n) k q c f).1 in
            omega (arith, s, t),
      )) (λ c z. let lt = low c z in omega (arith, lt)) (λ c z. let lt = low-own c z in omega (arith, lt))

  -- ---- steps

  -- the multiples go to their cells, or errors to the outputs
  spread-fine : (a turns w past : ℕ) → PartSet P S handling live own sets keep hold args e a mid (result_modes P S e) [] → Opens W handling live own turns V VO → Opens W handling live own past (either_of (range_of lo w) keep) (either_of (range_of lo w) hold)
      → FineAt W handling live own (a + P.size e) (line (OfResults e) (Spread (ends_at P args e mid) (P.collects r) mid turns lo w past))
  spread-fine a turns w past set o_turns o_past =
      let froms = ends_at P args e mid in
      let m = a + P.size e in
      let scene = part-scene S lives owns keep hold given args lo begin mid h e mid (omega arith) gives in
      let q = ends keep hold args e mid right_e scene in
      let many : length froms ≡ length (P.results e) = length-map (P.results e) (operand (placed P args (P.nodes e) mid)) in
      let f = end-flows P S W handling live own room shared keep hold args e mid mid (suc (length froms + k)) scene V VO q (λ c z. split keep c (or-either (keep c) (range_of mid (suc (n + k)) c) z)) (λ c z. split hold c (or-either (hold c) (range_of mid (suc (n + k)) c) z)) low low-own in
      let g = end-flows P S W handling live own room shared keep hold args e mid lo w scene (either_of (range_of lo w) keep) (either_of (range_of lo w) hold) q (λ c z. or-either (range_of lo w c) (keep c) z) (λ c z. or-either (range_of lo w c) (hold c) z)
      (λ c z. (h.kept c z).1) (λ c z. (h.held c z).1) in
      fine-at W handling live own m (line (OfResults e) (Spread froms (P.collects r) mid turns lo w past)) (result_modes P S e) [] (live_behind P S keep args e mid) (own_behind P S hold args e mid) set.1 (plain-modes (S.takes e 0) (S.copies e 0) 1 (P.results e)) tt
      (shared e).results (may-modes live own m (S.takes e 0) (S.copies e 0) (P.results e) froms 1 many (λ j c z. set.1.1 c ∙ q.looks j c z) (λ j c o z. set.1.2 c ∙ (q.takes j c o z).0))
      (modes-last (S.takes e 0) (S.copies e 0) (P.results e) froms 1 many q.once) (
        follow W handling live own m past lo w (result_modes P S e) [] froms (live_behind P S keep args e mid) (own_behind P S hold args e mid) (either_of (range_of lo w) keep) (either_of (range_of lo w) hold) set.1 o_past g.0 g.1,
        (follow W handling live own m turns mid (suc (length froms + k)) (result_modes P S e) [] froms (live_behind P S keep args e mid) (own_behind P S hold args e mid) V VO set.1 o_turns f.0 f.1, tt),
      ) tt
    where
      split : (some : Cells_of) (c : ℕ) → (some c ≡ true) ⊎ (range_of mid (suc (n + k)) c ≡ true) → (range_of mid (suc (length (ends_at P args e mid) + k)) c ≡ true) ⊎ (some c ≡ true)
      split some c (inl z) = inr z
      split some c (inr z) =
          let q = range-sound mid (suc (n + k)) c z in
          let lt = q.1 in
          let many = length-map (P.results e) (operand (placed P args (P.nodes e) mid)) in
          inl (range-so mid (suc (length (ends_at P args e mid) + k)) c q.0 (omega (arith, lt, many, n_is)))

  -- results are put to the collections
  add-fine : (turn turns : ℕ) → PartSet P S handling live own sets V VO x b turn (suc top + n) (result_modes P S b ++ takes_all k) (S.puts r) → Opens W handling live own turns V VO
      → FineAt W handling live own (turn + P.size b) (line (OfRows b r) (Add (P.collects r) (ends_at P x b (suc top + n)) (mid + n) turns))
  add-fine turn turns set next =
      let q = ends V VO x b (suc top + n) right_b body-scene in
      fine-at W handling live own m (line (OfRows b r) (Add (P.collects r) froms (mid + n) turns)) (result_modes P S b ++ takes_all k) (S.puts r) lives' owns' set.1
      (plain-both (result_modes P S b) (takes_all k) (plain-modes (S.takes b 0) (S.copies b 0) 1 (P.results b)) (plain-takes k)) tt
      (λ ks.
      let z = put-taken (length froms) (P.collects r) (S.puts r) ks (subst (λ j. AreWithin j (P.collects r)) (sym many) within) in
      let w = rows (take (length froms) ks) in
      let u = front-copied (result_modes P S b) k (length froms) ks (many ∙ sym (modes-long (S.takes b 0) (S.copies b 0) 1 (P.results b))) in
      let v = (shared b).results (take (length froms) ks) in
      omega (arith, z, w, u, v))
      (may-both live own m (result_modes P S b) (takes_all k) froms (cells_at (mid + n) k) (modes-long (S.takes b 0) (S.copies b 0) 1 (P.results b) ∙ sym many)
      (may-modes live own m (S.takes b 0) (S.copies b 0) (P.results b) froms 1 many (λ j c z. set.1.1 c ∙ q.looks j c z) (λ j c o z. set.1.2 c ∙ (q.takes j c o z).0))
      (may-take-all live own m (mid + n) k (λ c u v. set.1.2 c ∙ or-left (VO c) _ (v-so hold c (omega (arith, u)) (omega (arith, v))))))
      (both-last (result_modes P S b) (takes_all k) froms (cells_at (mid + n) k) (modes-long (S.takes b 0) (S.copies b 0) 1 (P.results b) ∙ sym many)
      (modes-last (S.takes b 0) (S.copies b 0) (P.results b) froms 1 many q.once) (taken-all-last (mid + n) k)
      (λ c o. let z = taken-index (S.takes b 0) (S.copies b 0) (P.results b) froms 1 c many o in none-of (cells_at (mid + n) k) c (λ j f. kept-apart c j f (q.takes z.0 c z.1 z.2).1))) (
        follow W handling live own m turns (mid + n) k (result_modes P S b ++ takes_all k) (S.puts r) (froms ++ cells_at (mid + n) k) lives' owns' V VO set.1 next
            (λ c z. go lives' c (or-left (V c) _ z) (λ o. (q.takes o.0 c o.1 o.2).1 z) (ltb c (mid + n)) (ltb c ((mid + n) + k)) refl refl)
            (λ c z. go owns' c (or-left (VO c) _ z) (λ o. (q.takes o.0 c o.1 o.2).2 z) (ltb c (mid + n)) (ltb c ((mid + n) + k)) refl refl),
        tt,
      ) tt
    where
      m : ℕ
      m = turn + P.size b

      froms : List Operand
      froms = ends_at P x b (suc top + n)

      lives' : Cells_of
      lives' = live_behind P S V x b (suc top + n)

      owns' : Cells_of
      owns' = own_behind P S VO x b (suc top + n)

      many : length froms ≡ length (P.results b)
      many = length-map (P.results b) (operand (placed P x (P.nodes b) (suc top + n)))

      kept-apart : (c j : ℕ) → get_or (cells_at (mid + n) k) j (Lit Unfilled) ≡ At c → (V c ≡ true → ⊥) → ⊥
      kept-apart c j f out =
          let z = cells-is (mid + n) k j c f in
          let lt = z.0 in
          let s = z.1 in
          out (v-so keep c (omega (arith, s)) (omega (arith, lt, s)))

      Past : Cells_of → ℕ → Type 0
      Past all c = ((mid + n ≤ c) × (c < (mid + n) + k)) ⊎ ((all c ≡ true) × (IsTaken (result_modes P S b ++ takes_all k) (froms ++ cells_at (mid + n) k) c → ⊥) × ((c < mid + n) ⊎ ((mid + n) + k ≤ c)))

      untaken : (c : ℕ) → ((j : ℕ) × (S.takes b 0 (1 + j) ≡ true) × (get_or froms j (Lit Unfilled) ≡ At c) → ⊥) → (c < mid + n) ⊎ ((mid + n) + k ≤ c) → IsTaken (result_modes P S b ++ takes_all k) (froms ++ cells_at (mid + n) k) c → ⊥
      untaken c gone out o = split (taken-of (result_modes P S b) (takes_all k) froms (cells_at (mid + n) k) c (modes-long (S.takes b 0) (S.copies b 0) 1 (P.results b) ∙ sym many) o)
        where
          beside : (c < mid + n) ⊎ ((mid + n) + k ≤ c) → (mid + n ≤ c) × (c < (mid + n) + k) → ⊥
          beside (inl lt) z = let le = z.0 in omega (arith, lt, le)
          beside (inr le) z = let lt = z.1 in omega (arith, lt, le)

          split : IsTaken (result_modes P S b) froms c ⊎ IsTaken (takes_all k) (cells_at (mid + n) k) c → ⊥
          split (inl o) = gone (taken-index (S.takes b 0) (S.copies b 0) (P.results b) froms 1 c many o)
          split (inr o) = beside out (takes-range (mid + n) k c o)

      go : (all : Cells_of) (c : ℕ) → all c ≡ true → ((j : ℕ) × (S.takes b 0 (1 + j) ≡ true) × (get_or froms j (Lit Unfilled) ≡ At c) → ⊥) → (u v : Bool) → ltb c (mid + n) ≡ u → ltb c ((mid + n) + k) ≡ v → Past all c
      go all c there gone true v f g = let lt = ltb-true c (mid + n) f in inr (there, (λ o. untaken c gone (inl lt) o), inl lt)
      go all c there gone false true f g =
          let le = ltb-false c (mid + n) f in
          let lt = ltb-true c ((mid + n) + k) g in
          inl (omega (arith, le), lt)
      go all c there gone false false f g =
          let le = ltb-false c ((mid + n) + k) g in
          let ge : (mid + n) + k ≤ c = omega (arith, le) in
          inr (there, (λ o. untaken c gone (inr ge) o), inr ge)

  -- the elements of a place are brought, or the returns is done
  each-fine : (turn turns leave : ℕ) → IsSet P S handling live own turns [] [] V VO → Opens W handling live own turn (either_of V (cells_where (S.has b) x)) (either_of VO (cells_where (S.owns b) x)) → Opens W handling live own leave V VO
      → FineAt W handling live own turns (line OfNothing (Each n mid top turn leave))
  each-fine turn turns leave set o_turn o_leave =
      fine-at W handling live own turns (line OfNothing (Each n mid top turn leave)) [] [] V VO set tt tt none-copied (may-look live own turns reads (λ j c z. set.1 c ∙ look j c z)) (none-last reads) (
        follow W handling live own turns turn top (suc n) [] [] reads V VO (either_of V (cells_where (S.has b) x)) (either_of VO (cells_where (S.owns b) x)) set o_turn
            (λ c z. go c (or-either (V c) (cells_where (S.has b) x c) z)) (λ c z. go_own c (or-either (VO c) (cells_where (S.owns b) x c) z)),
        (follow W handling live own turns leave 0 0 [] [] reads V VO V VO set o_leave (λ c z. inr (z, none-taken reads c, inr (omega arith))) (λ c z. inr (z, none-taken reads c, inr (omega arith))), tt),
      ) tt
    where
      reads : List Operand
      reads = At top ∷ cells_at mid n

      look : (j c : ℕ) → get_or reads j (Lit Unfilled) ≡ At c → V c ≡ true
      look zero c z = let s = same-cell top c z in v-so keep c (omega (arith, s)) (omega (arith, s))
      look (suc j) c z =
          let q = cells-is mid n j c z in
          let lt = q.0 in
          let s = q.1 in
          v-so keep c (omega (arith, s)) (omega (arith, lt, s))

      Past : Cells_of → ℕ → Type 0
      Past some c = ((top ≤ c) × (c < top + suc n)) ⊎ ((some c ≡ true) × (IsTaken [] reads c → ⊥) × ((c < top) ⊎ (top + suc n ≤ c)))

      at : (some : Cells_of) (c : ℕ) → some c ≡ true → c ≤ top → (u : Bool) → ltb c top ≡ u → Past some c
      at some c there le true f = inr (there, none-taken reads c, inl (ltb-true c top f))
      at some c there le false f = let ge = ltb-false c top f in inl (omega (arith, ge), omega (arith, le))

      go : (c : ℕ) → (V c ≡ true) ⊎ (cells_where (S.has b) x c ≡ true) → Past V c
      go c (inl z) = at V c z (v-low keep low c z) (ltb c top) refl
      go c (inr z) = part (x-live c z)
        where
          part : (V c ≡ true) ⊎ ((top ≤ c) × (c < top + suc n)) → Past V c
          part (inl w) = at V c w (v-low keep low c w) (ltb c top) refl
          part (inr w) = inl w

      go_own : (c : ℕ) → (VO c ≡ true) ⊎ (cells_where (S.owns b) x c ≡ true) → Past VO c
      go_own c (inl z) = at VO c z (v-low hold low-own c z) (ltb c top) refl
      go_own c (inr z) = absurd (let q = where-sound (S.owns b) x c z in true-false (S.owns b (suc q.0)) q.1 (none_b (suc q.0)))

  -- ---- the whole

  pub for-all-fine : (turn a w past : ℕ) → PartSet P S handling live own sets keep hold args e a mid (result_modes P S e) [] → PartSet P S handling live own sets V VO x b turn (suc top + n) (result_modes P S b ++ takes_all k) (S.puts r)
      → IsSet P S handling live own (suc (turn + P.size b)) [] [] V VO → PartSet P S handling live own sets keep hold y (P.refolded r) (suc (suc (turn + P.size b))) top (result_modes P S (P.refolded r)) []
      → mid + max (P.extent e) (n + (k + max (suc n + P.extent b) (P.extent (P.refolded r)))) ≤ room → turn ≡ suc (a + P.size e) → Opens W handling live own past (either_of (range_of lo w) keep) (either_of (range_of lo w) hold)
      → AllFine W handling live own a (for_all_code P make room args e b r turn a w past lo mid n k) × Opens W handling live own a (either_of keep (cells_where (λ p. true) args)) (either_of hold (cells_where given args))
  for-all-fine turn a w past s_e s_b s_t s_o fits goes next =
      let o = P.refolded r in
      let made = a + P.size e in
      let turned = turn + P.size b in
      let turns = suc turned in
      let leave = suc turns in
      let m0 = le-max_left (P.extent e) (n + (k + max (suc n + P.extent b) (P.extent o))) in
      let m1 = le-max_right (P.extent e) (n + (k + max (suc n + P.extent b) (P.extent o))) in
      let m2 = le-max_left (suc n + P.extent b) (P.extent o) in
      let m3 = le-max_right (suc n + P.extent b) (P.extent o) in
      let l0 = long room args e a mid right_e in
      let l1 = long room x b turn (suc top + n) right_b in
      let p_e = part-fine P S W handling live own room shared make sets lays long fine ends keep hold args e a mid (result_modes P S e) [] right_e (part-scene S lives owns keep hold given args lo begin mid h e mid (omega arith) gives) s_e (omega (arith, fits, m0)) in
      let p_b = part-fine P S W handling live own room shared make sets lays long fine ends V VO x b turn (suc top + n) (result_modes P S b ++ takes_all k) (S.puts r) right_b body-scene s_b (omega (arith, fits, m1, m2)) in
      let arm = arm-fine P S W handling live own room shared make sets lays long fine ends keep hold y o leave w past lo top right_o returns-scene s_o (omega (arith, fits, m1, m3)) (λ c z. (h.kept c z).1) (λ c z. (h.held c z).1) next in
      let o_turns = set-opens W handling live own turns [] [] V VO s_t in
      let o_leave = shrink P S W handling live own room shared make sets lays long fine ends leave keep hold (cells_where (S.has o) y) (cells_where (S.owns o) y) V VO kept-v y-live held-v y-own arm.1 in
      let c3 = arm_code P make room y o leave w past lo top in
      let c2 = line (OfRows b r) (Add (P.collects r) (ends_at P x b (suc top + n)) (mid + n) turns) ∷ line OfNothing (Each n mid top turn leave) ∷ c3 in
      let c1 = line (OfResults e) (Spread (ends_at P args e mid) (P.collects r) mid turns lo w past) ∷ (make room x b turn (suc top + n) ++ c2) in
      let a2 = fine-both W handling live own turn turned (make room x b turn (suc top + n)) c2 (omega (arith, l1)) p_b.0 (add-fine turn turns s_b o_turns, (each-fine turn turns leave s_t p_b.1 o_leave, arm.0)) in (
        fine-both W handling live own a made (make room args e a mid) c1 (omega (arith, l0)) p_e.0
            (spread-fine a turns w past s_e o_turns next, subst (λ z. AllFine W handling live own z (make room x b turn (suc top + n) ++ c2)) goes a2),
        begins-all P S W handling live own room shared make sets lays long fine ends lives owns keep hold given args lo begin mid h a e gives p_e.1,
      )
