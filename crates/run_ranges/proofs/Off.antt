-- Steps that are made of a graph neither read nor write some cells, where its inputs are others, and its own cells stand behind them.
use Rattle.std.proofs.Common.{◌≡◌, ℕ, zero, suc, ◌+◌, ◌-◌, ◌<◌, ◌≤◌, ◌⊎◌, inl, inr, eqb, ltb, if◌then◌else◌, Bool, true, false, List, [], ◌∷◌, ◌++◌, length, map, drop, get_or, refl, ◌∙◌, arith}
use Rattle.graph_meaning.specs.Carried.{Unfilled}
use Rattle.graph_meaning.specs.Demand.{Fixed, Kind, Plain, Port, Source, Vertex, Whole}
use Rattle.graph_meaning.specs.Forms as form
use Rattle.run_code.specs.Cells.{At, Lit, Operand, cells_at, own_cells, picked}
use Rattle.run_code.specs.Coded.{Layout, Places, operand}
use Rattle.run_code.specs.Collections.{Collect, Final, Sifts, sifts_in}
use Rattle.run_code.specs.Made.{Line, Makes, OfInputs, OfNothing, OfResults, OfRows, Plan, arm_code, arms_at, arms_code, end_at, ends_at, for_all_code, graph_code, kind_code, kind_size, line, loop_code, nodes_code, parts_code, placed, put, stand}
use Rattle.run_code.specs.Steps.{Add, Branch, Call, Count, Each, Fire, Keep, Move, Return, Spread, Step, Tag, Test}
use Rattle.run_laws.specs.Inside.{AreAhead, Stays}
use Rattle.run_store.specs.Effects.{IsOneOf, leads, reads_of}
use Rattle.run_ranges.specs.Apart.{AreApart, CallsApart, IsApart, StepsApart}

module _ (first last : ℕ) where
  -- ---- operands

  get-apart : (args : List Operand) (i : ℕ) → AreApart first last args → IsApart first last (get_or args i (Lit Unfilled))
  get-apart [] i h = tt
  get-apart (a ∷ args) zero h = h.0
  get-apart (a ∷ args) (suc i) h = get-apart args i h.1

  rest-apart : (args : List Operand) → AreApart first last args → AreApart first last (drop 1 args)
  rest-apart [] h = tt
  rest-apart (a ∷ args) h = h.1

  pub cells-apart : (i n : ℕ) → last < i → AreApart first last (cells_at i n)
  cells-apart i zero lt = tt
  cells-apart i (suc n) lt = (inr lt, cells-apart (suc i) n (omega (arith, lt)))

  pub both-apart : (xs ys : List Operand) → AreApart first last xs → AreApart first last ys → AreApart first last (xs ++ ys)
  both-apart [] ys h k = k
  both-apart (x ∷ xs) ys h k = (h.0, both-apart xs ys h.1 k)

  picked-apart : (picks : List Bool) (args : List Operand) → AreApart first last args → AreApart first last (picked picks args)
  picked-apart [] args h = tt
  picked-apart (b ∷ bs) [] h = tt
  picked-apart (true ∷ bs) (a ∷ args) h = (h.0, picked-apart bs args h.1)
  picked-apart (false ∷ bs) (a ∷ args) h = picked-apart bs args h.1

  own-apart : (picks : List Bool) (args : List Operand) (i : ℕ) → AreApart first last args → last < i → AreApart first last (own_cells picks args i)
  own-apart [] args i h lt = h
  own-apart (b ∷ bs) [] i h lt = tt
  own-apart (true ∷ bs) (a ∷ args) i h lt = (inr lt, own-apart bs args (suc i) h.1 (omega (arith, lt)))
  own-apart (false ∷ bs) (a ∷ args) i h lt = (h.0, own-apart bs args i h.1 lt)

  stand-apart : (P : Plan) (cs : List Collect) (own from : ℕ) → last < own → last < from → AreApart first last (stand P cs own from)
  stand-apart P [] own from lt lt' = tt
  stand-apart P (Sifts j mask ∷ cs) own from lt lt' = (inr lt, stand-apart P cs (suc own) from (omega (arith, lt)) lt')
  stand-apart P (Final j ∷ cs) own from lt lt' = (inr (omega (arith, lt')), stand-apart P cs own from lt lt')

  module _ (P : Plan) where
    put-apart : (vs : List Vertex) (lo l p : ℕ) → last < lo → IsApart first last (put P vs lo l p)
    put-apart [] lo l p lt = tt
    put-apart (v ∷ vs) lo l p lt = go (eqb v.label l) (put-apart vs (lo + P.width v) l p (omega (arith, lt)))
      where
        here : (c : Bool) → IsApart first last (if c then At (lo + (p - 1)) else Lit Unfilled)
        here true = inr (omega (arith, lt))
        here false = tt

        go : (c : Bool) → IsApart first last (put P vs (lo + P.width v) l p) → IsApart first last (if c then (if ltb (p - 1) (P.width v) then At (lo + (p - 1)) else Lit Unfilled) else put P vs (lo + P.width v) l p)
        go true h = here (ltb (p - 1) (P.width v))
        go false h = h

    placed-apart : (args : List Operand) (vs : List Vertex) (lo l p : ℕ) → AreApart first last args → last < lo → IsApart first last (placed P args vs lo l p)
    placed-apart args vs lo zero p h lt = get-apart args (p - 1) h
    placed-apart args vs lo (suc l) p h lt = put-apart vs lo (suc l) p lt

    read-apart : (places : Places) → ((l p : ℕ) → IsApart first last (places l p)) → (os : List Source) → AreApart first last (map (operand places) os)
    read-apart places h [] = tt
    read-apart places h (Fixed c ∷ os) = (tt, read-apart places h os)
    read-apart places h (Port l p ∷ os) = (h l p, read-apart places h os)

    pub ends-apart : (args : List Operand) (g lo : ℕ) → AreApart first last args → last < lo → AreApart first last (ends_at P args g lo)
    ends-apart args g lo h lt = read-apart (placed P args (P.nodes g) lo) (λ l p. placed-apart args (P.nodes g) lo l p h lt) (P.results g)

  -- ---- steps

  abbrev pub WritesOff : Step → Type 0
  WritesOff (Fire row shape ins out w) = last < out
  WritesOff Count = Unit {0}
  WritesOff (Move froms out w next) = last < out
  WritesOff (Tag union ts content out w next) = (last < content) × (last < out)
  WritesOff (Branch sel ts out w next) = last < out
  WritesOff (Test test turn leave out w next) = last < out
  WritesOff (Keep begins cs froms out next) = last < out
  WritesOff (Spread froms cs to turns out w next) = (last < to) × (last < out)
  WritesOff (Each n from count turn leave) = last < count
  WritesOff (Add cs froms out next) = last < out
  WritesOff (Call entry size args out w) = (last < size) × (last < out)
  WritesOff (Return froms) = ⊥

  abbrev pub IsOff : Step → Type 0
  IsOff x = AreApart first last (reads_of x) × WritesOff x

  abbrev pub AllOff : List Line → Type 0
  AllOff [] = Unit {0}
  AllOff (l ∷ ls) = IsOff l.step × AllOff ls

  pub off-both : (xs ys : List Line) → AllOff xs → AllOff ys → AllOff (xs ++ ys)
  off-both [] ys h k = k
  off-both (x ∷ xs) ys h k = (h.0, off-both xs ys h.1 k)

  module _ (P : Plan) (room : ℕ) (high : last < room) where
    abbrev pub DoOff : Makes P → Type 0
    DoOff make = (args : List Operand) (g a lo : ℕ) → AreApart first last args → last < lo → AllOff (make room args g a lo)

    module _ (make : Makes P) (off : DoOff make) where
      arm-off : (args : List Operand) (g t w b lo up : ℕ) → AreApart first last args → last < lo → last < up → AllOff (arm_code P make room args g t w b lo up)
      arm-off args g t w b lo up h lt lt' =
          off-both (make room args g t up) (line (OfResults g) (Move (ends_at P args g up) lo w b) ∷ []) (off args g t up h lt') ((ends-apart P args g up h lt', lt), tt)

      arms-off : (args : List Operand) (gs : List ℕ) (t w b lo up : ℕ) → AreApart first last args → last < lo → last < up → AllOff (arms_code P make room args gs t w b lo up)
      arms-off args [] t w b lo up h lt lt' = tt
      arms-off args (g ∷ gs) t w b lo up h lt lt' =
          off-both (arm_code P make room args g t w b lo up) (arms_code P make room args gs (t + suc (P.size g)) w b lo up) (arm-off args g t w b lo up h lt lt') (arms-off args gs (t + suc (P.size g)) w b lo up h lt lt')

      one-apart : (args : List Operand) (g lo : ℕ) → AreApart first last args → last < lo → IsApart first last (end_at P args g lo)
      one-apart args g lo h lt = get-apart (ends_at P args g lo) 0 (ends-apart P args g lo h lt)

      keep-off : (begins : Bool) (cs : List Collect) (froms : List Operand) (out next : ℕ) → AreApart first last froms → last < out → IsOff (Keep begins cs froms out next)
      keep-off true cs froms out next h lt = (h, lt)
      keep-off false cs froms out next h lt = (both-apart froms (cells_at (out + length froms) (length cs)) h (cells-apart (out + length froms) (length cs) (omega (arith, lt))), lt)

      loop-off : (own : List Operand) (i t body r : ℕ) (begin : List Line) (starts turn a w b lo mid n k : ℕ) → AreApart first last own → last < lo → last < mid → AllOff begin → AllOff (loop_code P make room own i t body r begin starts turn a w b lo mid n k)
      loop-off own i t body r begin starts turn a w b lo mid n k h lt up begins =
          let top = mid + (n + k) in
          let tests = suc (turn + P.size body) in
          let leave = suc (tests + P.size t) in
          let cs = sifts_in (P.collects r) in
          let x = own ++ cells_at mid n in
          let y = own ++ stand P (P.collects r) (mid + n) mid in
          let s4 = arm_code P make room y (P.refolded r) leave w b lo top in
          let s3 = line OfNothing (Test (end_at P x t top) turn leave lo w b) ∷ s4 in
          let s2 = line (OfResults body) (Keep false cs (ends_at P x body top) mid tests) ∷ (make room x t tests top ++ s3) in
          let s1 = make room x body turn top ++ s2 in
          let s0 = line (OfResults i) (Keep true cs (ends_at P own i mid) mid starts) ∷ (begin ++ s1) in
          let high_top : last < top = omega (arith, up) in
          let in_x = both-apart own (cells_at mid n) h (cells-apart mid n up) in
          let in_y = both-apart own (stand P (P.collects r) (mid + n) mid) h (stand-apart P (P.collects r) (mid + n) mid (omega (arith, up)) up) in
          let t4 = arm-off y (P.refolded r) leave w b lo top in_y lt high_top in
          let t3 : AllOff s3 = (((one-apart x t top in_x high_top, tt), lt), t4) in
          let t2 : AllOff s2 = (keep-off false cs (ends_at P x body top) mid tests (ends-apart P x body top in_x high_top) up, off-both (make room x t tests top) s3 (off x t tests top in_x high_top) t3) in
          let t1 : AllOff s1 = off-both (make room x body turn top) s2 (off x body turn top in_x high_top) t2 in
          off-both (make room own i a mid) s0 (off own i a mid h up) ((ends-apart P own i mid h up, up), off-both begin s1 begins t1)

      for-all-off : (own : List Operand) (e body r turn a w b lo mid n k : ℕ) → AreApart first last own → last < lo → last < mid → AllOff (for_all_code P make room own e body r turn a w b lo mid n k)
      for-all-off own e body r turn a w b lo mid n k h lt up =
          let top = mid + (n + k) in
          let turns = suc (turn + P.size body) in
          let leave = suc turns in
          let x = own ++ cells_at (suc top) n in
          let y = (own ++ cells_at mid n) ++ cells_at (mid + n) k in
          let s3 = arm_code P make room y (P.refolded r) leave w b lo top in
          let s2 = line (OfRows body r) (Add (P.collects r) (ends_at P x body (suc top + n)) (mid + n) turns) ∷ line OfNothing (Each n mid top turn leave) ∷ s3 in
          let s1 = line (OfResults e) (Spread (ends_at P own e mid) (P.collects r) mid turns lo w b) ∷ (make room x body turn (suc top + n) ++ s2) in
          let high_top : last < top = omega (arith, up) in
          let in_x = both-apart own (cells_at (suc top) n) h (cells-apart (suc top) n (omega (arith, up))) in
          let in_y = both-apart (own ++ cells_at mid n) (cells_at (mid + n) k) (both-apart own (cells_at mid n) h (cells-apart mid n up)) (cells-apart (mid + n) k (omega (arith, up))) in
          let ends = ends-apart P x body (suc top + n) in_x (omega (arith, up)) in
          let t3 = arm-off y (P.refolded r) leave w b lo top in_y lt high_top in
          let t2 : AllOff s2 = (
            (both-apart (ends_at P x body (suc top + n)) (cells_at (mid + n) (length (P.collects r))) ends (cells-apart (mid + n) (length (P.collects r)) (omega (arith, up))), omega (arith, up)),
            (((inr high_top, cells-apart mid n up), high_top), t3),
          ) in
          off-both (make room own e a mid) s1 (off own e a mid h up)
          ((ends-apart P own e mid h up, (up, lt)), off-both (make room x body turn (suc top + n)) s2 (off x body turn (suc top + n) in_x (omega (arith, up))) t2)

      parts-off : (own : List Operand) (k : Kind) (a w b lo mid : ℕ) → AreApart first last own → last < lo → last < mid → AllOff (parts_code P make room own k a w b lo mid)
      parts-off own (Plain row shape) a w b lo mid h lt up = tt
      parts-off own (Whole (form.Call f)) a w b lo mid h lt up = tt
      parts-off own (Whole (form.Select s gs n)) a w b lo mid h lt up =
          off-both (make room own s a mid) (line OfNothing (Branch (end_at P own s mid) (arms_at P make room gs (suc (a + P.size s))) lo w b) ∷ arms_code P make room own gs (suc (a + P.size s)) w b lo mid) (off own s a mid h up)
          (((one-apart own s mid h up, tt), lt), arms-off own gs (suc (a + P.size s)) w b lo mid h lt up)
      parts-off own (Whole (form.TagCase gs n)) a w b lo mid h lt up =
          (((get-apart own 0 h, tt), (up, lt)), arms-off (At mid ∷ drop 1 own) gs (suc a) w b lo (suc mid) (inr up, rest-apart own h) lt (omega (arith, up)))
      parts-off own (Whole (form.LoopA i t body r n)) a w b lo mid h lt up =
          loop-off own i t body r (line OfNothing Count ∷ []) (suc (a + P.size i)) (suc (suc (a + P.size i))) a w b lo mid (length (P.results i)) (length (P.collects r)) h lt up ((tt, tt), tt)
      parts-off own (Whole (form.LoopB i t body r n)) a w b lo mid h lt up =
          loop-off own i t body r [] (suc (suc (a + P.size i) + P.size body)) (suc (a + P.size i)) a w b lo mid (length (P.results i)) (length (P.collects r)) h lt up tt
      parts-off own (Whole (form.ForAll e body r m n)) a w b lo mid h lt up = for-all-off own e body r (suc (a + P.size e)) a w b lo mid (length (P.results e)) (length (P.collects r)) h lt up

      compound-off : (g : ℕ) (v : Vertex) (args : List Operand) (k : Kind) (w a lo : ℕ) → AreApart first last args → last < lo
          → AllOff (line OfNothing Count ∷ line (OfInputs g v) (Move (picked (P.picks g v) args) (lo + w) (length (picked (P.picks g v) args)) (suc (suc a)))
          ∷ parts_code P make room (own_cells (P.picks g v) args (lo + w)) k (suc (suc a)) w (a + kind_size P k) lo ((lo + w) + length (picked (P.picks g v) args)))
      compound-off g v args k w a lo h lt = (
        (tt, tt),
        (
          (picked-apart (P.picks g v) args h, omega (arith, lt)),
          parts-off (own_cells (P.picks g v) args (lo + w)) k (suc (suc a)) w (a + kind_size P k) lo ((lo + w) + length (picked (P.picks g v) args)) (own-apart (P.picks g v) args (lo + w) h (omega (arith, lt))) lt (omega (arith, lt)),
        ),
      )

      kind-off : (g : ℕ) (v : Vertex) (args : List Operand) (k : Kind) (w a lo : ℕ) → AreApart first last args → last < lo → AllOff (kind_code P make room g v args k w a lo)
      kind-off g v args (Plain row shape) w a lo h lt = ((h, lt), tt)
      kind-off g v args (Whole (form.Call f)) w a lo h lt = ((h, (high, lt)), tt)
      kind-off g v args (Whole (form.Select s gs n)) w a lo h lt = compound-off g v args (Whole (form.Select s gs n)) w a lo h lt
      kind-off g v args (Whole (form.TagCase gs n)) w a lo h lt = compound-off g v args (Whole (form.TagCase gs n)) w a lo h lt
      kind-off g v args (Whole (form.LoopA i t b r n)) w a lo h lt = compound-off g v args (Whole (form.LoopA i t b r n)) w a lo h lt
      kind-off g v args (Whole (form.LoopB i t b r n)) w a lo h lt = compound-off g v args (Whole (form.LoopB i t b r n)) w a lo h lt
      kind-off g v args (Whole (form.ForAll e b r m n)) w a lo h lt = compound-off g v args (Whole (form.ForAll e b r m n)) w a lo h lt

      nodes-off : (g : ℕ) (places : Places) → ((l p : ℕ) → IsApart first last (places l p)) → (vs : List Vertex) (a lo : ℕ) → last < lo → AllOff (nodes_code P make room g places vs a lo)
      nodes-off g places h [] a lo lt = tt
      nodes-off g places h (v ∷ vs) a lo lt =
          off-both (kind_code P make room g v (map (operand places) v.ins) v.kind (P.width v) a lo) (nodes_code P make room g places vs (a + kind_size P v.kind) (lo + P.width v))
          (kind-off g v (map (operand places) v.ins) v.kind (P.width v) a lo (read-apart P places h v.ins) lt) (nodes-off g places h vs (a + kind_size P v.kind) (lo + P.width v) (omega (arith, lt)))

    pub graph-off : (n : ℕ) → DoOff (graph_code P n)
    graph-off zero args g a lo h lt = tt
    graph-off (suc n) args g a lo h lt = nodes-off (graph_code P n) (graph-off n) g (placed P args (P.nodes g) lo) (λ l p. placed-apart P args (P.nodes g) lo l p h lt) (P.nodes g) a lo lt

  -- ---- with where they lead

  module _ (X : Layout) (room turn turned pc : ℕ) (from : turn ≤ pc) where
    abbrev Leads : Step → Type 0
    Leads x = (next out w : ℕ) → IsOneOf next out w (leads x pc) → (turn ≤ next) × (next ≤ turned) × ((last < out) ⊎ (w ≡ 0))

    one-lead : (next out w : ℕ) (t o v : ℕ) → (turn ≤ t) × (t ≤ turned) × ((last < o) ⊎ (v ≡ 0)) → (next ≡ t) × (out ≡ o) × (w ≡ v) → (turn ≤ next) × (next ≤ turned) × ((last < out) ⊎ (w ≡ 0))
    one-lead next out w t o v h e = let p = e.0 in let x = h.0 in let y = h.1 in (omega (arith, p, x), omega (arith, p, y), go h.2)
      where
        go : (last < o) ⊎ (v ≡ 0) → (last < out) ⊎ (w ≡ 0)
        go (inl lt) = let q = e.1 in inl (omega (arith, lt, q))
        go (inr z) = inr (e.2 ∙ z)

    ahead-lead : (next out w o v : ℕ) (ts : List ℕ) → AreAhead (suc turned) pc ts → (last < o) ⊎ (v ≡ 0) → IsOneOf next out w (map (λ t. (t, o, v)) ts) → (turn ≤ next) × (next ≤ turned) × ((last < out) ⊎ (w ≡ 0))
    ahead-lead next out w o v [] h lt e = absurd e
    ahead-lead next out w o v (t ∷ ts) h lt (inl e) = let a = h.0.0 in let b = h.0.1 in one-lead next out w t o v (omega (arith, a, from), omega (arith, b), lt) e
    ahead-lead next out w o v (t ∷ ts) h lt (inr e) = ahead-lead next out w o v ts h.1 lt e

    ahead : (t : ℕ) → (pc < t) × (t < suc turned) → (o v : ℕ) → (last < o) ⊎ (v ≡ 0) → (turn ≤ t) × (t ≤ turned) × ((last < o) ⊎ (v ≡ 0))
    ahead t h o v lt = let a = h.0 in let b = h.1 in (omega (arith, a, from), omega (arith, b), lt)

    back : (t : ℕ) → turn ≤ t → t < suc turned → (o v : ℕ) → (last < o) ⊎ (v ≡ 0) → (turn ≤ t) × (t ≤ turned) × ((last < o) ⊎ (v ≡ 0))
    back t a b o v lt = (a, omega (arith, b), lt)

    leads-apart : (x : Step) → Stays X room turn (suc turned) pc x → WritesOff x → Leads x
    leads-apart (Fire row shape ins out' w') s o next out w (inl e) = let b = s.2 in one-lead next out w (suc pc) out' w' (ahead (suc pc) (omega arith, b) out' w' (inl o)) e
    leads-apart (Fire row shape ins out' w') s o next out w (inr e) = absurd e
    leads-apart Count s o next out w (inl e) = one-lead next out w (suc pc) 0 0 (ahead (suc pc) (omega arith, s) 0 0 (inr refl)) e
    leads-apart Count s o next out w (inr e) = absurd e
    leads-apart (Move froms out' w' next') s o next out w (inl e) = one-lead next out w next' out' w' (ahead next' s.2 out' w' (inl o)) e
    leads-apart (Move froms out' w' next') s o next out w (inr e) = absurd e
    leads-apart (Tag union ts content out' w' next') s o next out w (inl e) = one-lead next out w next' out' w' (ahead next' s.4 out' w' (inl o.1)) e
    leads-apart (Tag union ts content out' w' next') s o next out w (inr e) = ahead-lead next out w content 1 ts s.1 (inl o.0) e
    leads-apart (Branch sel ts out' w' next') s o next out w (inl e) = one-lead next out w next' out' w' (ahead next' s.3 out' w' (inl o)) e
    leads-apart (Branch sel ts out' w' next') s o next out w (inr e) = ahead-lead next out w 0 0 ts s.1 (inr refl) e
    leads-apart (Test test turn' leave out' w' next') s o next out w (inl e) = one-lead next out w next' out' w' (ahead next' s.5 out' w' (inl o)) e
    leads-apart (Test test turn' leave out' w' next') s o next out w (inr (inl e)) = one-lead next out w turn' 0 0 (back turn' s.1 s.2 0 0 (inr refl)) e
    leads-apart (Test test turn' leave out' w' next') s o next out w (inr (inr (inl e))) = one-lead next out w leave 0 0 (ahead leave s.3 0 0 (inr refl)) e
    leads-apart (Test test turn' leave out' w' next') s o next out w (inr (inr (inr e))) = absurd e
    leads-apart (Keep begins cs froms out' next') s o next out w (inl e) = one-lead next out w next' out' (length froms + length cs) (ahead next' s.2 out' (length froms + length cs) (inl o)) e
    leads-apart (Keep begins cs froms out' next') s o next out w (inr e) = absurd e
    leads-apart (Spread froms cs to turns out' w' next') s o next out w (inl e) = one-lead next out w next' out' w' (ahead next' s.4 out' w' (inl o.1)) e
    leads-apart (Spread froms cs to turns out' w' next') s o next out w (inr (inl e)) = one-lead next out w turns to (suc (length froms + length cs)) (ahead turns s.2 to (suc (length froms + length cs)) (inl o.0)) e
    leads-apart (Spread froms cs to turns out' w' next') s o next out w (inr (inr e)) = absurd e
    leads-apart (Each n from' count turn' leave) s o next out w (inl e) = one-lead next out w turn' count (suc n) (back turn' s.2 s.3 count (suc n) (inl o)) e
    leads-apart (Each n from' count turn' leave) s o next out w (inr (inl e)) = one-lead next out w leave 0 0 (ahead leave s.4 0 0 (inr refl)) e
    leads-apart (Each n from' count turn' leave) s o next out w (inr (inr e)) = absurd e
    leads-apart (Add cs froms out' next') s o next out w (inl e) = one-lead next out w next' out' (length cs) (ahead next' s.2 out' (length cs) (inl o)) e
    leads-apart (Add cs froms out' next') s o next out w (inr e) = absurd e
    leads-apart (Call entry size args out' w') s o next out w e = absurd e
    leads-apart (Return froms) s o next out w e = absurd e

    calls-apart : (x : Step) → Stays X room turn (suc turned) pc x → WritesOff x → CallsApart last turned pc x
    calls-apart (Fire row shape ins out w) s o = tt
    calls-apart Count s o = tt
    calls-apart (Move froms out w next) s o = tt
    calls-apart (Tag union ts content out w next) s o = tt
    calls-apart (Branch sel ts out w next) s o = tt
    calls-apart (Test test turn' leave out w next) s o = tt
    calls-apart (Keep begins cs froms out next) s o = tt
    calls-apart (Spread froms cs to turns out w next) s o = tt
    calls-apart (Each n from' count turn' leave) s o = tt
    calls-apart (Add cs froms out next) s o = tt
    calls-apart (Call entry size args out w) s o = let b = s.4 in (omega (arith, b), o.0, o.1)
    calls-apart (Return froms) s o = o

    pub steps-apart : (x : Step) → Stays X room turn (suc turned) pc x → IsOff x → StepsApart turn turned first last pc x
    steps-apart x s o = record { reads = o.0; leads_on = leads-apart x s o.1; calls = calls-apart x s o.1 }
