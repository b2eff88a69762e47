-- The settings that are made stand at their places.
use Rattle.std.proofs.Common.{◌≡◌, ℕ, zero, suc, ◌+◌, inl, inr, Bool, true, false, List, [], ◌∷◌, ◌++◌, drop, length, map, refl, sym, ap, ◌∙◌, subst, arith}
use Rattle.std.proofs.lemmas.List.{length-append}
use Rattle.graph_meaning.specs.Entered.{IsIn}
use Rattle.graph_meaning.specs.Forms as form
use Rattle.graph_meaning.specs.Demand.{Kind, Plain, Whole, Vertex, Network, EachNode}
use Rattle.run_code.specs.Taking.{Taken, first_port, taken_by}
use Rattle.run_code.specs.Cells.{Operand, At, cells_at, own_cells, picked}
use Rattle.run_code.specs.Coded.{operand}
use Rattle.run_code.specs.Known.{Known}
use Rattle.run_code.specs.Made.{Plan, IsSized, arms_size, functions_size, kind_size, loop_size, nodes_size, placed, stand}
use Rattle.run_made.specs.Plans.{All, CanLay, IsInner, IsKindRight, Weighing}
use Rattle.run_store.specs.Lively.{Live}
use Rattle.run_store.specs.Stored.{Handling, Looks, Mode}
use Rattle.made_store.specs.Settings.{ArmsSet, BeginSet, Cells_of, FunctionsSet, GraphSet, IsSet, KindSet, LoopSet, NodesSet, PartSet, PartsSet, Sets, Shares, cells_where, either_of, gives, live_behind, live_in, none_of, own_behind, own_in, range_of, result_modes, sifts_of, takes_all}
use Rattle.made_store.specs.Settled.{Setting, Settles, arms_settings, begin_settings, for_all_settings, function_settings, functions_settings, graph_settings, handling_of, kind_settings, live_of, loop_settings, nodes_settings, own_of, part_settings, parts_settings, setting}

module _ (P : Plan) (S : Shares) (W : Weighing) (u : Network) (order : ℕ → List Vertex) (functions : List ℕ) where
  -- ---- as many settings as steps

  abbrev IsFull : Settles P S → (ℕ → Type 0) → Type 0
  IsFull settles lays = (keep hold : Cells_of) (args : List Operand) (g lo : ℕ) → lays g → length (settles keep hold args g lo) ≡ P.size g

  inners-lay : (lays : ℕ → Type 0) (gs : List ℕ) → All (IsInner P W u order functions lays) gs → All lays gs
  inners-lay lays [] h = tt
  inners-lay lays (g ∷ gs) h = (h.0.1, inners-lay lays gs h.1)

  module _ (settles : Settles P S) (lays : ℕ → Type 0) (full : IsFull settles lays) where
    part-full : (keep hold : Cells_of) (args : List Operand) (g lo : ℕ) (ms : List Mode) (puts : List Bool) → lays g → length (part_settings P S settles keep hold args g lo ms puts) ≡ suc (P.size g)
    part-full keep hold args g lo ms puts right =
        let one = full keep hold args g lo right in
        length-append (settles keep hold args g lo) (setting ms puts (live_behind P S keep args g lo) (own_behind P S hold args g lo) ∷ []) ∙ omega (arith, one)

    arms-full : (keep hold : Cells_of) (args : List Operand) (gs : List ℕ) (up : ℕ) → All lays gs → length (arms_settings P S settles keep hold args gs up) ≡ arms_size P gs
    arms-full keep hold args [] up right = refl
    arms-full keep hold args (g ∷ gs) up right =
        let one = part-full keep hold args g up (result_modes P S g) [] right.0 in
        let more = arms-full keep hold args gs up right.1 in
        length-append (part_settings P S settles keep hold args g up (result_modes P S g) []) (arms_settings P S settles keep hold args gs up) ∙ omega (arith, one, more)

    loop-full : (early : Bool) (keep hold : Cells_of) (args : List Operand) (i t b r mid n k : ℕ) → lays i → lays t → lays b → lays (P.refolded r)
        → length (loop_settings P S settles early keep hold args i t b r mid n k) ≡ length (begin_settings P S settles early keep hold) + loop_size P i t b r
    loop-full early keep hold args i t b r mid n k in_i in_t in_b in_o =
        let top = mid + (n + k) in
        let V = either_of keep (range_of mid (n + sifts_of P r)) in
        let VO = either_of hold (range_of mid (n + sifts_of P r)) in
        let p4 = part_settings P S settles keep hold (args ++ stand P (P.collects r) (mid + n) mid) (P.refolded r) top (result_modes P S (P.refolded r)) [] in
        let p3 = part_settings P S settles V VO (args ++ cells_at mid n) t top (Looks ∷ []) [] in
        let p2 = part_settings P S settles (either_of keep (range_of (mid + n) (sifts_of P r))) (either_of hold (range_of (mid + n) (sifts_of P r))) (args ++ cells_at mid n) b top (result_modes P S b ++ takes_all (sifts_of P r)) [] in
        let p1 = begin_settings P S settles early V VO in
        let p0 = part_settings P S settles keep hold args i mid (result_modes P S i) [] in
        let l0 = part-full keep hold args i mid (result_modes P S i) [] in_i in
        let l2 = part-full (either_of keep (range_of (mid + n) (sifts_of P r))) (either_of hold (range_of (mid + n) (sifts_of P r))) (args ++ cells_at mid n) b top (result_modes P S b ++ takes_all (sifts_of P r)) [] in_b in
        let l3 = part-full V VO (args ++ cells_at mid n) t top (Looks ∷ []) [] in_t in
        let l4 = part-full keep hold (args ++ stand P (P.collects r) (mid + n) mid) (P.refolded r) top (result_modes P S (P.refolded r)) [] in_o in
        let a0 = length-append p0 (p1 ++ (p2 ++ (p3 ++ p4))) in
        let a1 = length-append p1 (p2 ++ (p3 ++ p4)) in
        let a2 = length-append p2 (p3 ++ p4) in
        let a3 = length-append p3 p4 in
        let same = begins-same early V VO keep hold in
        omega (arith, a0, a1, a2, a3, l0, l2, l3, l4, same)
      where
        begins-same : (early : Bool) (a b c d : Cells_of) → length (begin_settings P S settles early a b) ≡ length (begin_settings P S settles early c d)
        begins-same true a b c d = refl
        begins-same false a b c d = refl

    for-all-full : (keep hold : Cells_of) (args : List Operand) (e b r mid n k : ℕ) → lays e → lays b → lays (P.refolded r)
        → length (for_all_settings P S settles keep hold args e b r mid n k) ≡ suc (P.size e) + (suc (P.size b) + suc (suc (P.size (P.refolded r))))
    for-all-full keep hold args e b r mid n k in_e in_b in_o =
        let top = mid + (n + k) in
        let V = either_of keep (range_of mid (suc (n + k))) in
        let VO = either_of hold (range_of mid (suc (n + k))) in
        let p3 = part_settings P S settles keep hold ((args ++ cells_at mid n) ++ cells_at (mid + n) k) (P.refolded r) top (result_modes P S (P.refolded r)) [] in
        let p2 = setting [] [] V VO ∷ p3 in
        let p1 = part_settings P S settles V VO (args ++ cells_at (suc top) n) b (suc top + n) (result_modes P S b ++ takes_all k) (S.puts r) in
        let p0 = part_settings P S settles keep hold args e mid (result_modes P S e) [] in
        let l0 = part-full keep hold args e mid (result_modes P S e) [] in_e in
        let l1 = part-full V VO (args ++ cells_at (suc top) n) b (suc top + n) (result_modes P S b ++ takes_all k) (S.puts r) in_b in
        let l3 = part-full keep hold ((args ++ cells_at mid n) ++ cells_at (mid + n) k) (P.refolded r) top (result_modes P S (P.refolded r)) [] in_o in
        let a0 = length-append p0 (p1 ++ p2) in
        let a1 = length-append p1 p2 in
        omega (arith, a0, a1, l0, l1, l3)

    kind-full : (g : ℕ) (v : Vertex) (lives owns keep hold : Cells_of) (args : List Operand) (k : Kind) (lo : ℕ) → IsKindRight P W u order functions lays g v k → length (kind_settings P S settles g v lives owns keep hold args k lo) ≡ kind_size P k
    kind-full g v lives owns keep hold args (Plain row shape) lo right = refl
    kind-full g v lives owns keep hold args (Whole (form.Call f)) lo right = refl
    kind-full g v lives owns keep hold args (Whole (form.Select x gs w)) lo right =
        let mine = own_cells (P.picks g v) args (lo + P.width v) in
        let mid = (lo + P.width v) + length (picked (P.picks g v) args) in
        let K = either_of keep (cells_where (λ p. true) mine) in
        let H = either_of hold (cells_where (gives P S g v) mine) in
        let one = part-full K H mine x mid (Looks ∷ []) [] right.2.1 in
        let more = arms-full keep hold mine gs mid (inners-lay lays gs right.4) in
        let both = length-append (part_settings P S settles K H mine x mid (Looks ∷ []) []) (arms_settings P S settles keep hold mine gs mid) in
        ap (λ z. suc (suc z)) both ∙ omega (arith, one, more)
    kind-full g v lives owns keep hold args (Whole (form.TagCase gs w)) lo right =
        let mine = own_cells (P.picks g v) args (lo + P.width v) in
        let mid = (lo + P.width v) + length (picked (P.picks g v) args) in
        ap (λ z. suc (suc (suc z))) (arms-full keep hold (At mid ∷ drop 1 mine) gs (suc mid) (inners-lay lays gs right.3)) ∙ omega arith
    kind-full g v lives owns keep hold args (Whole (form.LoopA i t b r w)) lo right =
        let mine = own_cells (P.picks g v) args (lo + P.width v) in
        let mid = (lo + P.width v) + length (picked (P.picks g v) args) in
        ap (λ z. suc (suc z)) (loop-full true keep hold mine i t b r mid (length (P.results i)) (length (P.collects r)) right.2.1 right.3.1 right.5.1 right.7) ∙ omega arith
    kind-full g v lives owns keep hold args (Whole (form.LoopB i t b r w)) lo right =
        let mine = own_cells (P.picks g v) args (lo + P.width v) in
        let mid = (lo + P.width v) + length (picked (P.picks g v) args) in
        ap (λ z. suc (suc z)) (loop-full false keep hold mine i t b r mid (length (P.results i)) (length (P.collects r)) right.2.1 right.3.1 right.5.1 right.7) ∙ omega arith
    kind-full g v lives owns keep hold args (Whole (form.ForAll e b r m w)) lo right =
        let mine = own_cells (P.picks g v) args (lo + P.width v) in
        let mid = (lo + P.width v) + length (picked (P.picks g v) args) in
        ap (λ z. suc (suc z)) (for-all-full keep hold mine e b r mid (length (P.results e)) (length (P.collects r)) right.2.1 right.3.1 right.5) ∙ omega arith

    nodes-full : (keep hold : Cells_of) (args : List Operand) (g bottom : ℕ) (known : Known) (taken : Taken) (vs : List Vertex) (lo : ℕ) → EachNode (λ v. IsKindRight P W u order functions lays g v v.kind) vs
        → length (nodes_settings P S settles keep hold args g bottom known taken vs lo) ≡ nodes_size P vs
    nodes-full keep hold args g bottom known taken [] lo right = refl
    nodes-full keep hold args g bottom known taken (v ∷ vs) lo right =
        let after = taken_by (S.takes g v.label) (first_port v.kind) v.ins taken in
        let ins = map (operand (placed P args (P.nodes g) bottom)) v.ins in
        let here = kind_settings P S settles g v (live_in P S keep args g bottom known taken) (own_in P S hold args g bottom known taken) (live_in P S keep args g bottom known after) (own_in P S hold args g bottom known after) ins v.kind lo in
        let one = kind-full g v (live_in P S keep args g bottom known taken) (own_in P S hold args g bottom known taken) (live_in P S keep args g bottom known after) (own_in P S hold args g bottom known after) ins v.kind lo right.0 in
        let more = nodes-full keep hold args g bottom ((v.label, P.width v) ∷ known) after vs (lo + P.width v) right.1 in
        length-append here (nodes_settings P S settles keep hold args g bottom ((v.label, P.width v) ∷ known) after vs (lo + P.width v)) ∙ omega (arith, one, more)

  graph-full : ((g : ℕ) → IsSized P g) → (n : ℕ) → IsFull (graph_settings P S n) (CanLay P W u order functions n)
  graph-full sized zero keep hold args g lo right = absurd right
  graph-full sized (suc n) keep hold args g lo right = nodes-full (graph_settings P S n) (CanLay P W u order functions n) (graph-full sized n) keep hold args g lo [] [] (P.nodes g) lo right.kinds ∙ sym (sized g).0

  -- ---- what stands where

  module _ (handling : ℕ → Handling) (live own : Live) where
    abbrev pub Stand : (place : ℕ) → List Setting → Type 0
    Stand a [] = Unit {0}
    Stand a (s ∷ ss) = IsSet P S handling live own a s.modes s.puts s.lives s.owns × Stand (suc a) ss

    first : (a : ℕ) (xs ys : List Setting) → Stand a (xs ++ ys) → Stand a xs
    first a [] ys h = tt
    first a (x ∷ xs) ys h = (h.0, first (suc a) xs ys h.1)

    rest : (a b : ℕ) (xs ys : List Setting) → b ≡ a + length xs → Stand a (xs ++ ys) → Stand b ys
    rest a b [] ys e h = subst (λ x. Stand x ys) (omega (arith, e)) h
    rest a b (x ∷ xs) ys e h = rest (suc a) b xs ys (omega (arith, e)) h.1

    module _ (settles : Settles P S) (sets : Sets P S handling live own) (lays : ℕ → Type 0) (full : IsFull settles lays)
        (so : (keep hold : Cells_of) (args : List Operand) (g a lo : ℕ) → lays g → Stand a (settles keep hold args g lo) → sets keep hold args g a lo) where
      part-so : (keep hold : Cells_of) (args : List Operand) (g a lo : ℕ) (ms : List Mode) (puts : List Bool) → lays g → Stand a (part_settings P S settles keep hold args g lo ms puts) → PartSet P S handling live own sets keep hold args g a lo ms puts
      part-so keep hold args g a lo ms puts right h =
          let one = full keep hold args g lo right in
          let here = settles keep hold args g lo in
          let behind = setting ms puts (live_behind P S keep args g lo) (own_behind P S hold args g lo) ∷ [] in
          (so keep hold args g a lo right (first a here behind h), (rest a (a + P.size g) here behind (omega (arith, one)) h).0)

      arms-so : (keep hold : Cells_of) (args : List Operand) (gs : List ℕ) (t up : ℕ) → All lays gs → Stand t (arms_settings P S settles keep hold args gs up) → ArmsSet P S handling live own sets keep hold args gs t up
      arms-so keep hold args [] t up right h = tt
      arms-so keep hold args (g ∷ gs) t up right h =
          let here = part_settings P S settles keep hold args g up (result_modes P S g) [] in
          let others = arms_settings P S settles keep hold args gs up in
          let one = part-full settles lays full keep hold args g up (result_modes P S g) [] right.0 in
          (part-so keep hold args g t up (result_modes P S g) [] right.0 (first t here others h), arms-so keep hold args gs (t + suc (P.size g)) up right.1 (rest t (t + suc (P.size g)) here others (omega (arith, one)) h))

      begin-so : (early : Bool) (keep hold : Cells_of) (a : ℕ) → Stand a (begin_settings P S settles early keep hold) → BeginSet P S handling live own sets early keep hold a
      begin-so true keep hold a h = h.0
      begin-so false keep hold a h = tt

      loop-so : (early : Bool) (keep hold : Cells_of) (args : List Operand) (i t b r turn a mid n k : ℕ) → lays i → lays t → lays b → lays (P.refolded r) → turn ≡ suc (a + P.size i) + length (begin_settings P S settles early keep hold)
          → Stand a (loop_settings P S settles early keep hold args i t b r mid n k) → LoopSet P S handling live own sets early keep hold args i t b r turn a mid n k
      loop-so early keep hold args i t b r turn a mid n k in_i in_t in_b in_o goes h =
          let top = mid + (n + k) in
          let V = either_of keep (range_of mid (n + sifts_of P r)) in
          let VO = either_of hold (range_of mid (n + sifts_of P r)) in
          let KB = either_of keep (range_of (mid + n) (sifts_of P r)) in
          let HB = either_of hold (range_of (mid + n) (sifts_of P r)) in
          let x = args ++ cells_at mid n in
          let y = args ++ stand P (P.collects r) (mid + n) mid in
          let o = P.refolded r in
          let tests = suc (turn + P.size b) in
          let leave = suc (tests + P.size t) in
          let p4 = part_settings P S settles keep hold y o top (result_modes P S o) [] in
          let p3 = part_settings P S settles V VO x t top (Looks ∷ []) [] in
          let p2 = part_settings P S settles KB HB x b top (result_modes P S b ++ takes_all (sifts_of P r)) [] in
          let p1 = begin_settings P S settles early V VO in
          let p0 = part_settings P S settles keep hold args i mid (result_modes P S i) [] in
          let l0 = part-full settles lays full keep hold args i mid (result_modes P S i) [] in_i in
          let l2 = part-full settles lays full KB HB x b top (result_modes P S b ++ takes_all (sifts_of P r)) [] in_b in
          let l3 = part-full settles lays full V VO x t top (Looks ∷ []) [] in_t in
          let same = begins-same early V VO keep hold in
          let h1 = rest a (suc (a + P.size i)) p0 (p1 ++ (p2 ++ (p3 ++ p4))) (omega (arith, l0)) h in
          let h2 = rest (suc (a + P.size i)) turn p1 (p2 ++ (p3 ++ p4)) (omega (arith, goes, same)) h1 in
          let h3 = rest turn tests p2 (p3 ++ p4) (omega (arith, l2)) h2 in
          let h4 = rest tests leave p3 p4 (omega (arith, l3)) h3 in (
            part-so keep hold args i a mid (result_modes P S i) [] in_i (first a p0 (p1 ++ (p2 ++ (p3 ++ p4))) h),
            begin-so early V VO (suc (a + P.size i)) (first (suc (a + P.size i)) p1 (p2 ++ (p3 ++ p4)) h1),
            part-so KB HB x b turn top (result_modes P S b ++ takes_all (sifts_of P r)) [] in_b (first turn p2 (p3 ++ p4) h2),
            part-so V VO x t tests top (Looks ∷ []) [] in_t (first tests p3 p4 h3),
            part-so keep hold y o leave top (result_modes P S o) [] in_o h4,
          )
        where
          begins-same : (early : Bool) (a b c d : Cells_of) → length (begin_settings P S settles early a b) ≡ length (begin_settings P S settles early c d)
          begins-same true a b c d = refl
          begins-same false a b c d = refl

      parts-so : (g : ℕ) (v : Vertex) (keep hold : Cells_of) (args : List Operand) (k : Kind) (a mid : ℕ) → IsKindRight P W u order functions lays g v k → Stand a (parts_settings P S settles keep hold (gives P S g v) args k mid)
          → PartsSet P S handling live own sets keep hold (gives P S g v) args k a mid
      parts-so g v keep hold args (Plain row shape) a mid right h = tt
      parts-so g v keep hold args (Whole (form.Call f)) a mid right h = tt
      parts-so g v keep hold args (Whole (form.Select x gs w)) a mid right h =
          let K = either_of keep (cells_where (λ p. true) args) in
          let H = either_of hold (cells_where (gives P S g v) args) in
          let p0 = part_settings P S settles K H args x mid (Looks ∷ []) [] in
          let p1 = arms_settings P S settles keep hold args gs mid in
          let one = part-full settles lays full K H args x mid (Looks ∷ []) [] right.2.1 in
          (part-so K H args x a mid (Looks ∷ []) [] right.2.1 (first a p0 p1 h), arms-so keep hold args gs (suc (a + P.size x)) mid (inners-lay lays gs right.4) (rest a (suc (a + P.size x)) p0 p1 (omega (arith, one)) h))
      parts-so g v keep hold args (Whole (form.TagCase gs w)) a mid right h = (h.0, arms-so keep hold (At mid ∷ drop 1 args) gs (suc a) (suc mid) (inners-lay lays gs right.3) h.1)
      parts-so g v keep hold args (Whole (form.LoopA i t b r w)) a mid right h =
          loop-so true keep hold args i t b r (suc (suc (a + P.size i))) a mid (length (P.results i)) (length (P.collects r)) right.2.1 right.3.1 right.5.1 right.7 (omega arith) h
      parts-so g v keep hold args (Whole (form.LoopB i t b r w)) a mid right h =
          loop-so false keep hold args i t b r (suc (a + P.size i)) a mid (length (P.results i)) (length (P.collects r)) right.2.1 right.3.1 right.5.1 right.7 (omega arith) h
      parts-so g v keep hold args (Whole (form.ForAll e b r m w)) a mid right h =
          let n = length (P.results e) in
          let k = length (P.collects r) in
          let top = mid + (n + k) in
          let V = either_of keep (range_of mid (suc (n + k))) in
          let VO = either_of hold (range_of mid (suc (n + k))) in
          let x = args ++ cells_at (suc top) n in
          let y = (args ++ cells_at mid n) ++ cells_at (mid + n) k in
          let o = P.refolded r in
          let turn = suc (a + P.size e) in
          let turns = suc (turn + P.size b) in
          let p3 = part_settings P S settles keep hold y o top (result_modes P S o) [] in
          let p2 = setting [] [] V VO ∷ p3 in
          let p1 = part_settings P S settles V VO x b (suc top + n) (result_modes P S b ++ takes_all k) (S.puts r) in
          let p0 = part_settings P S settles keep hold args e mid (result_modes P S e) [] in
          let l0 = part-full settles lays full keep hold args e mid (result_modes P S e) [] right.2.1 in
          let l1 = part-full settles lays full V VO x b (suc top + n) (result_modes P S b ++ takes_all k) (S.puts r) right.3.1 in
          let h1 = rest a turn p0 (p1 ++ p2) (omega (arith, l0)) h in
          let h2 = rest turn turns p1 p2 (omega (arith, l1)) h1 in (
            part-so keep hold args e a mid (result_modes P S e) [] right.2.1 (first a p0 (p1 ++ p2) h),
            part-so V VO x b turn (suc top + n) (result_modes P S b ++ takes_all k) (S.puts r) right.3.1 (first turn p1 p2 h1),
            h2.0,
            part-so keep hold y o (suc turns) top (result_modes P S o) [] right.5 h2.1,
          )

      kind-so : (g : ℕ) (v : Vertex) (lives owns keep hold : Cells_of) (args : List Operand) (k : Kind) (a lo : ℕ) → IsKindRight P W u order functions lays g v k → Stand a (kind_settings P S settles g v lives owns keep hold args k lo)
          → KindSet P S handling live own sets g v lives owns keep hold args k a lo
      kind-so g v lives owns keep hold args (Plain row shape) a lo right h = h.0
      kind-so g v lives owns keep hold args (Whole (form.Call f)) a lo right h = h.0
      kind-so g v lives owns keep hold args (Whole (form.Select x gs w)) a lo right h =
          (h.0, h.1.0, parts-so g v keep hold (own_cells (P.picks g v) args (lo + P.width v)) (Whole (form.Select x gs w)) (suc (suc a)) ((lo + P.width v) + length (picked (P.picks g v) args)) right h.1.1)
      kind-so g v lives owns keep hold args (Whole (form.TagCase gs w)) a lo right h =
          (h.0, h.1.0, parts-so g v keep hold (own_cells (P.picks g v) args (lo + P.width v)) (Whole (form.TagCase gs w)) (suc (suc a)) ((lo + P.width v) + length (picked (P.picks g v) args)) right h.1.1)
      kind-so g v lives owns keep hold args (Whole (form.LoopA i t b r w)) a lo right h =
          (h.0, h.1.0, parts-so g v keep hold (own_cells (P.picks g v) args (lo + P.width v)) (Whole (form.LoopA i t b r w)) (suc (suc a)) ((lo + P.width v) + length (picked (P.picks g v) args)) right h.1.1)
      kind-so g v lives owns keep hold args (Whole (form.LoopB i t b r w)) a lo right h =
          (h.0, h.1.0, parts-so g v keep hold (own_cells (P.picks g v) args (lo + P.width v)) (Whole (form.LoopB i t b r w)) (suc (suc a)) ((lo + P.width v) + length (picked (P.picks g v) args)) right h.1.1)
      kind-so g v lives owns keep hold args (Whole (form.ForAll e b r m w)) a lo right h =
          (h.0, h.1.0, parts-so g v keep hold (own_cells (P.picks g v) args (lo + P.width v)) (Whole (form.ForAll e b r m w)) (suc (suc a)) ((lo + P.width v) + length (picked (P.picks g v) args)) right h.1.1)

      nodes-so : (keep hold : Cells_of) (args : List Operand) (g bottom : ℕ) (known : Known) (taken : Taken) (vs : List Vertex) (a lo : ℕ) → EachNode (λ v. IsKindRight P W u order functions lays g v v.kind) vs
          → Stand a (nodes_settings P S settles keep hold args g bottom known taken vs lo) → NodesSet P S handling live own sets keep hold args g bottom known taken vs a lo
      nodes-so keep hold args g bottom known taken [] a lo right h = tt
      nodes-so keep hold args g bottom known taken (v ∷ vs) a lo right h =
          let after = taken_by (S.takes g v.label) (first_port v.kind) v.ins taken in
          let ins = map (operand (placed P args (P.nodes g) bottom)) v.ins in
          let lives = live_in P S keep args g bottom known taken in
          let owns = own_in P S hold args g bottom known taken in
          let kept = live_in P S keep args g bottom known after in
          let held = own_in P S hold args g bottom known after in
          let here = kind_settings P S settles g v lives owns kept held ins v.kind lo in
          let others = nodes_settings P S settles keep hold args g bottom ((v.label, P.width v) ∷ known) after vs (lo + P.width v) in
          let one = kind-full settles lays full g v lives owns kept held ins v.kind lo right.0 in (
            kind-so g v lives owns kept held ins v.kind a lo right.0 (first a here others h),
            nodes-so keep hold args g bottom ((v.label, P.width v) ∷ known) after vs (a + kind_size P v.kind) (lo + P.width v) right.1 (rest a (a + kind_size P v.kind) here others (omega (arith, one)) h),
          )

    graph-so : ((g : ℕ) → IsSized P g) → (n : ℕ) → (keep hold : Cells_of) (args : List Operand) (g a lo : ℕ) → CanLay P W u order functions n g → Stand a (graph_settings P S n keep hold args g lo) → GraphSet P S handling live own n keep hold args g a lo
    graph-so sized zero keep hold args g a lo right h = absurd right
    graph-so sized (suc n) keep hold args g a lo right h =
        nodes-so (graph_settings P S n) (GraphSet P S handling live own n) (CanLay P W u order functions n) (graph-full sized n) (graph-so sized n) keep hold args g lo [] [] (P.nodes g) a lo right.kinds h

    pub functions-so : ((g : ℕ) → IsSized P g) → (n : ℕ) → ((f : ℕ) → IsIn f functions → CanLay P W u order functions n f) → (fs : List ℕ) (a : ℕ) → ((f : ℕ) → IsIn f fs → IsIn f functions) → Stand a (functions_settings P S n fs) → FunctionsSet P S handling live own n fs a
    functions-so sized n right [] a of h = tt
    functions-so sized n right (f ∷ fs) a of h =
        let lays = right f (of f (inl refl)) in
        let here = function_settings P S n f in
        let others = functions_settings P S n fs in
        let one = part-full (graph_settings P S n) (CanLay P W u order functions n) (graph-full sized n) none_of none_of (cells_at 0 (P.params f)) f (P.params f) (result_modes P S f) [] lays in (
          part-so (graph_settings P S n) (GraphSet P S handling live own n) (CanLay P W u order functions n) (graph-full sized n) (graph-so sized n) none_of none_of (cells_at 0 (P.params f)) f a (P.params f) (result_modes P S f) [] lays (first a here others h),
          functions-so sized n right fs (a + suc (P.size f)) (λ x i. of x (inr i)) (rest a (a + suc (P.size f)) here others (omega (arith, one)) h),
        )

  -- ---- as a list says

  stand-up : (handling : ℕ → Handling) (live own : Live) (a : ℕ) (ss : List Setting) → Stand (λ i. handling (suc i)) (λ i. live (suc i)) (λ i. own (suc i)) a ss → Stand handling live own (suc a) ss
  stand-up handling live own a [] h = tt
  stand-up handling live own a (s ∷ ss) h = (h.0, stand-up handling live own (suc a) ss h.1)

  pub stand-in : (ss : List Setting) → Stand (handling_of ss) (live_of ss) (own_of ss) 0 ss
  stand-in [] = tt
  stand-in (s ∷ ss) = ((refl, (λ i. refl), λ i. refl), stand-up (handling_of (s ∷ ss)) (live_of (s ∷ ss)) (own_of (s ∷ ss)) 0 ss (stand-in ss))

  pub functions-full : ((g : ℕ) → IsSized P g) → (n : ℕ) → ((f : ℕ) → IsIn f functions → CanLay P W u order functions n f) → (fs : List ℕ) → ((f : ℕ) → IsIn f fs → IsIn f functions) → length (functions_settings P S n fs) ≡ functions_size P fs
  functions-full sized n right [] of = refl
  functions-full sized n right (f ∷ fs) of =
      let lays = right f (of f (inl refl)) in
      let one = part-full (graph_settings P S n) (CanLay P W u order functions n) (graph-full sized n) none_of none_of (cells_at 0 (P.params f)) f (P.params f) (result_modes P S f) [] lays in
      let more = functions-full sized n right fs (λ x i. of x (inr i)) in
      length-append (function_settings P S n f) (functions_settings P S n fs) ∙ omega (arith, one, more)
