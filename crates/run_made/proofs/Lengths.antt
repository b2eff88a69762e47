-- As many lines are made as the tables say.
use Rattle.std.proofs.Common.{◌≡◌, ℕ, zero, suc, ◌+◌, true, false, List, [], ◌∷◌, ◌++◌, length, map, drop, refl, sym, ap, ◌∙◌, arith}
use Rattle.std.proofs.lemmas.List.{length-append}
use Rattle.run_laws.specs.Forms as form
use Rattle.run_laws.specs.Demand.{Kind, Plain, Whole, Vertex, Network, EachNode}
use Rattle.run_laws.specs.Cells.{Operand, At, cells_at, picked, own_cells}
use Rattle.run_laws.specs.Coded.{Places, operand}
use Rattle.run_laws.specs.Collections.{sifts_in}
use Rattle.run_laws.specs.Made.{Plan, Line, line, OfResults, OfRows, OfNothing, Makes, IsSized, arm_code, arms_at, arms_code, arms_size, end_at, ends_at, for_all_code, graph_code, kind_code, kind_size, loop_code, loop_size, nodes_code, nodes_size, placed, select_code, stand}
use Rattle.run_laws.specs.Steps.{Add, Branch, Count, Each, Keep, Move, Spread, Test}
use Rattle.run_made.specs.Plans.{All, CanLay, IsInner, IsKindRight, Weighing}

module _ (P : Plan) where
  -- what is made of a graph is as long as the table says
  abbrev pub IsLong : Makes P → (ℕ → Type 0) → Type 0
  IsLong make lays = (room : ℕ) (args : List Operand) (g a lo : ℕ) → lays g → length (make room args g a lo) ≡ P.size g

  module _ (make : Makes P) (lays : ℕ → Type 0) (long : IsLong make lays) (room : ℕ) where
    pub arm-long : (args : List Operand) (g t w b lo up : ℕ) → lays g → length (arm_code P make room args g t w b lo up) ≡ suc (P.size g)
    arm-long args g t w b lo up right =
        let one = long room args g t up right in
        length-append (make room args g t up) (line (OfResults g) (Move (ends_at P args g up) lo w b) ∷ []) ∙ omega (arith, one)

    pub arms-long : (args : List Operand) (gs : List ℕ) (t w b lo up : ℕ) → All lays gs → length (arms_code P make room args gs t w b lo up) ≡ arms_size P gs
    arms-long args [] t w b lo up right = refl
    arms-long args (g ∷ gs) t w b lo up right =
        let one = arm-long args g t w b lo up right.0 in
        let more = arms-long args gs (t + suc (P.size g)) w b lo up right.1 in
        length-append (arm_code P make room args g t w b lo up) (arms_code P make room args gs (t + suc (P.size g)) w b lo up) ∙ omega (arith, one, more)

    pub select-long : (own : List Operand) (s : ℕ) (gs : List ℕ) (a w b lo mid : ℕ) → lays s → All lays gs → length (select_code P make room own s gs a w b lo mid) ≡ suc (P.size s) + arms_size P gs
    select-long own s gs a w b lo mid right others =
        let t = suc (a + P.size s) in
        let arms = arms_code P make room own gs t w b lo mid in
        let one = long room own s a mid right in
        let more = arms-long own gs t w b lo mid others in
        length-append (make room own s a mid) (line OfNothing (Branch (end_at P own s mid) (arms_at P make room gs t) lo w b) ∷ arms) ∙ omega (arith, one, more)

    pub loop-long : (own : List Operand) (i t body r : ℕ) (begin : List Line) (starts turn a w b lo mid n k : ℕ) → lays i → lays t → lays body → lays (P.refolded r)
        → length (loop_code P make room own i t body r begin starts turn a w b lo mid n k) ≡ length begin + loop_size P i t body r
    loop-long own i t body r begin starts turn a w b lo mid n k in_i in_t in_b in_r =
        let top = mid + (n + k) in
        let tests = suc (turn + P.size body) in
        let leave = suc (tests + P.size t) in
        let x = own ++ cells_at mid n in
        let y = own ++ stand P (P.collects r) (mid + n) mid in
        let s4 = arm_code P make room y (P.refolded r) leave w b lo top in
        let s3 = line OfNothing (Test (end_at P x t top) turn leave lo w b) ∷ s4 in
        let s2 = line (OfResults body) (Keep false (sifts_in (P.collects r)) (ends_at P x body top) mid tests) ∷ (make room x t tests top ++ s3) in
        let s1 = make room x body turn top ++ s2 in
        let s0 = line (OfResults i) (Keep true (sifts_in (P.collects r)) (ends_at P own i mid) mid starts) ∷ (begin ++ s1) in
        let a0 = length-append (make room own i a mid) s0 in
        let a1 = length-append begin s1 in
        let a2 = length-append (make room x body turn top) s2 in
        let a3 = length-append (make room x t tests top) s3 in
        let l1 = long room own i a mid in_i in
        let l2 = long room x body turn top in_b in
        let l3 = long room x t tests top in_t in
        let l4 = arm-long y (P.refolded r) leave w b lo top in_r in
        omega (arith, a0, a1, a2, a3, l1, l2, l3, l4)

    pub for-all-long : (own : List Operand) (g body r turn a w b lo mid n k : ℕ) → lays g → lays body → lays (P.refolded r)
        → length (for_all_code P make room own g body r turn a w b lo mid n k) ≡ suc (P.size g) + (suc (P.size body) + suc (suc (P.size (P.refolded r))))
    for-all-long own g body r turn a w b lo mid n k in_g in_b in_r =
        let top = mid + (n + k) in
        let turns = suc (turn + P.size body) in
        let leave = suc turns in
        let x = own ++ cells_at (suc top) n in
        let y = (own ++ cells_at mid n) ++ cells_at (mid + n) k in
        let s3 = arm_code P make room y (P.refolded r) leave w b lo top in
        let s2 = line (OfRows body r) (Add (P.collects r) (ends_at P x body (suc top + n)) (mid + n) turns) ∷ line OfNothing (Each n mid top turn leave) ∷ s3 in
        let s1 = line (OfResults g) (Spread (ends_at P own g mid) (P.collects r) mid turns lo w b) ∷ (make room x body turn (suc top + n) ++ s2) in
        let a1 = length-append (make room own g a mid) s1 in
        let a2 = length-append (make room x body turn (suc top + n)) s2 in
        let l1 = long room own g a mid in_g in
        let l2 = long room x body turn (suc top + n) in_b in
        let l3 = arm-long y (P.refolded r) leave w b lo top in_r in
        omega (arith, a1, a2, l1, l2, l3)

  module _ (W : Weighing) (u : Network) (order : ℕ → List Vertex) (functions : List ℕ) where
    inners-lay : (lays : ℕ → Type 0) (gs : List ℕ) → All (IsInner P W u order functions lays) gs → All lays gs
    inners-lay lays [] h = tt
    inners-lay lays (g ∷ gs) h = (h.0.1, inners-lay lays gs h.1)

    module _ (make : Makes P) (lays : ℕ → Type 0) (long : IsLong make lays) (room : ℕ) where
      pub kind-long : (g : ℕ) (v : Vertex) (args : List Operand) (k : Kind) (w a lo : ℕ) → IsKindRight P W u order functions lays g v k → length (kind_code P make room g v args k w a lo) ≡ kind_size P k
      kind-long g v args (Plain row shape) w a lo right = refl
      kind-long g v args (Whole (form.Call f)) w a lo right = refl
      kind-long g v args (Whole (form.Select s gs m)) w a lo right =
          let picks = P.picks g v in
          ap (λ x. suc (suc x))
          (select-long make lays long room (own_cells picks args (lo + w)) s gs (suc (suc a)) w (a + kind_size P (Whole (form.Select s gs m))) lo ((lo + w) + length (picked picks args)) right.2.1 (inners-lay lays gs right.4)) ∙ omega arith
      kind-long g v args (Whole (form.TagCase gs m)) w a lo right =
          let picks = P.picks g v in
          let mid = (lo + w) + length (picked picks args) in
          ap (λ x. suc (suc (suc x)))
          (arms-long make lays long room (At mid ∷ drop 1 (own_cells picks args (lo + w))) gs (suc (suc (suc a))) w (a + kind_size P (Whole (form.TagCase gs m))) lo (suc mid) (inners-lay lays gs right.3)) ∙ omega arith
      kind-long g v args (Whole (form.LoopA i t b r m)) w a lo right =
          let picks = P.picks g v in
          ap (λ x. suc (suc x))
          (loop-long make lays long room (own_cells picks args (lo + w)) i t b r (line OfNothing Count ∷ []) (suc (suc (suc a) + P.size i)) (suc (suc (suc (suc a) + P.size i))) (suc (suc a)) w (a + kind_size P (Whole (form.LoopA i t b r m))) lo ((lo + w) + length (picked picks args)) (length (P.results i)) (length (P.collects r)) right.2.1 right.3.1 right.5.1 right.7) ∙ omega arith
      kind-long g v args (Whole (form.LoopB i t b r m)) w a lo right =
          let picks = P.picks g v in
          ap (λ x. suc (suc x))
          (loop-long make lays long room (own_cells picks args (lo + w)) i t b r [] (suc (suc (suc (suc a) + P.size i) + P.size b)) (suc (suc (suc a) + P.size i)) (suc (suc a)) w (a + kind_size P (Whole (form.LoopB i t b r m))) lo ((lo + w) + length (picked picks args)) (length (P.results i)) (length (P.collects r)) right.2.1 right.3.1 right.5.1 right.7) ∙ omega arith
      kind-long g v args (Whole (form.ForAll e b r m n)) w a lo right =
          let picks = P.picks g v in
          ap (λ x. suc (suc x))
          (for-all-long make lays long room (own_cells picks args (lo + w)) e b r (suc (suc (suc a) + P.size e)) (suc (suc a)) w (a + kind_size P (Whole (form.ForAll e b r m n))) lo ((lo + w) + length (picked picks args)) (length (P.results e)) (length (P.collects r)) right.2.1 right.3.1 right.5) ∙ omega arith

      pub nodes-long : (g : ℕ) (places : Places) (vs : List Vertex) (a lo : ℕ) → EachNode (λ v. IsKindRight P W u order functions lays g v v.kind) vs
          → length (nodes_code P make room g places vs a lo) ≡ nodes_size P vs
      nodes-long g places [] a lo right = refl
      nodes-long g places (v ∷ vs) a lo right =
          let one = kind-long g v (map (operand places) v.ins) v.kind (P.width v) a lo right.0 in
          let more = nodes-long g places vs (a + kind_size P v.kind) (lo + P.width v) right.1 in
          length-append (kind_code P make room g v (map (operand places) v.ins) v.kind (P.width v) a lo) (nodes_code P make room g places vs (a + kind_size P v.kind) (lo + P.width v)) ∙ omega (arith, one, more)

    pub graph-long : ((g : ℕ) → IsSized P g) → (n : ℕ) → IsLong (graph_code P n) (CanLay P W u order functions n)
    graph-long sized zero room args g a lo right = absurd right
    graph-long sized (suc n) room args g a lo right =
        nodes-long (graph_code P n) (CanLay P W u order functions n) (graph-long sized n) room g (placed P args (P.nodes g) lo) (P.nodes g) a lo right.kinds ∙ sym (sized g).0
