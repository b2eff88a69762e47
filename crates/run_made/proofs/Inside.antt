-- What is made of graphs and functions stays inside.
use Rattle.std.proofs.Common.{◌≡◌, ℕ, zero, suc, ◌+◌, ◌<◌, ◌≤◌, ltb, Bool, true, false, List, [], ◌∷◌, length, map, sym, ◌∙◌, subst, refl, arith}
use Rattle.std.proofs.lemmas.Bool.{ltb-true, ltb-false}
use Rattle.std.proofs.lemmas.List.{length-map}
use Rattle.std.proofs.Math.Nat.{le-max_left, le-max_right}
use Rattle.run_laws.specs.Entered.{IsIn}
use Rattle.run_laws.specs.Forms as form
use Rattle.run_laws.specs.Demand.{Kind, Plain, Whole, Vertex, Network, EachNode}
use Rattle.run_laws.specs.Cells.{Operand, cells_at, picked, own_cells}
use Rattle.run_laws.specs.Coded.{Layout, Places, operand}
use Rattle.run_laws.specs.Machine.{Weigh}
use Rattle.run_laws.specs.Made.{Plan, Line, line, OfInputs, OfNothing, OfResults, IsSized, Makes, ends_at, function_lines, graph_code, kind_code, kind_size, nodes_code, nodes_extent, nodes_size, parts_code, parts_extent, placed, room_of}
use Rattle.run_laws.specs.Steps.{Code, Count, Move, Return}
use Rattle.run_laws.specs.Inside.{AreCells, IsCell, Stays}
use Rattle.run_made.proofs.Lengths.{IsLong, graph-long, kind-long}
use Rattle.run_made.proofs.Lying.{picked-long}
use Rattle.run_made.proofs.Making.{block-lies, entry-within, function-long}
use Rattle.run_made.proofs.Staying.{AllStay, DoStay, cells-inside, ends-inside, for-all-stays, loop-stays, own-inside, picked-inside, placed-inside, read-inside, select-stays, stay-both, tag-stays}
use Rattle.run_made.specs.Laws.{IsCodeInside}
use Rattle.run_made.specs.Plans.{All, CanLay, IsInner, IsKindRight, IsRightPlan, Lie, Weighing, end_of, laid_as}

module _ (P : Plan) (W : Weighing) (u : Network) (order : ℕ → List Vertex) (functions : List ℕ) (code : Code) (weigh : Weigh) (room begin end : ℕ) where
  abbrev X : Layout
  X = laid_as P W u order functions code weigh

  inners-lay : (lays : ℕ → Type 0) (gs : List ℕ) → All (IsInner P W u order functions lays) gs → All lays gs
  inners-lay lays [] h = tt
  inners-lay lays (g ∷ gs) h = (h.0.1, inners-lay lays gs h.1)

  module _ (sized : (g : ℕ) → IsSized P g) (make : Makes P) (lays : ℕ → Type 0) (long : IsLong P make lays) (stay : DoStay X room begin end P make lays) where
    parts-stay : (g : ℕ) (v : Vertex) (args own : List Operand) (k : Kind) (w a b lo mid : ℕ) → begin ≤ a → IsKindRight P W u order functions lays g v k → AreCells room own → lo + w ≤ room → mid + parts_extent P k ≤ room
        → a + kind_size P k ≤ suc (suc b) → b < end → AllStay X room begin end a (parts_code P make room own k a w b lo mid)
    parts-stay g v args own (Plain row shape) w a b lo mid from right ins outs fits le lt = tt
    parts-stay g v args own (Whole (form.Call f)) w a b lo mid from right ins outs fits le lt = tt
    parts-stay g v args own (Whole (form.Select s gs n)) w a b lo mid from right ins outs fits le lt =
        select-stays X room begin end P sized make lays long stay own s gs a w b lo mid from right.2.1 (inners-lay lays gs right.4) ins outs fits (omega (arith, le)) lt
    parts-stay g v args own (Whole (form.TagCase gs n)) w a b lo mid from right ins outs fits le lt =
        tag-stays X room begin end P sized make lays long stay own gs a w b lo mid from (inners-lay lays gs right.3) ins outs fits (omega (arith, le)) lt
    parts-stay g v args own (Whole (form.LoopA i t body r n)) w a b lo mid from right ins outs fits le lt =
        loop-stays X room begin end P sized make lays long stay own i t body r (line OfNothing Count ∷ []) (suc (a + P.size i)) (suc (suc (a + P.size i))) a w b lo mid from right.2.1 right.3.1 right.5.1 right.7 right.6 right.8.1.0 ins outs fits (omega arith) (omega arith)
        (omega (arith, le, lt)) (omega (arith, le, lt), tt) (omega (arith, le)) lt
    parts-stay g v args own (Whole (form.LoopB i t body r n)) w a b lo mid from right ins outs fits le lt =
        loop-stays X room begin end P sized make lays long stay own i t body r [] (suc (suc (a + P.size i) + P.size body)) (suc (a + P.size i)) a w b lo mid from right.2.1 right.3.1 right.5.1 right.7 right.6 right.8.1.0 ins outs fits (omega arith) (omega arith)
        (omega (arith, le, lt)) tt (omega (arith, le)) lt
    parts-stay g v args own (Whole (form.ForAll e body r m n)) w a b lo mid from right ins outs fits le lt =
        for-all-stays X room begin end P sized make lays long stay own e body r (suc (a + P.size e)) a w b lo mid from right.2.1 right.3.1 right.5 ins outs fits refl (omega (arith, le)) lt

    compound : (g : ℕ) (v : Vertex) (args : List Operand) (k : Kind) (w a lo : ℕ) → begin ≤ a → IsKindRight P W u order functions lays g v k → AreCells room args
        → lo + (w + (length (picked (P.picks g v) args) + parts_extent P k)) ≤ room → 3 ≤ kind_size P k → a + kind_size P k < end
        → AllStay X room begin end a
        (line OfNothing Count ∷ line (OfInputs g v) (Move (picked (P.picks g v) args) (lo + w) (length (picked (P.picks g v) args)) (suc (suc a)))
        ∷ parts_code P make room (own_cells (P.picks g v) args (lo + w)) k (suc (suc a)) w (a + kind_size P k) lo ((lo + w) + length (picked (P.picks g v) args)))
    compound g v args k w a lo from right ins fits some lt =
        let picks = P.picks g v in (
          omega (arith, some, lt),
          (
            (picked-inside room picks args ins, omega (arith, fits), (omega arith, omega (arith, some, lt))),
            parts-stay g v args (own_cells picks args (lo + w)) k w (suc (suc a)) (a + kind_size P k) lo ((lo + w) + length (picked picks args)) (omega (arith, from)) right (own-inside room picks args (lo + w) ins (omega (arith, fits)))
                (omega (arith, fits)) (omega (arith, fits)) (omega arith) lt,
          ),
        )

    kind-stays : (g : ℕ) (v : Vertex) (args : List Operand) (k : Kind) (w a lo : ℕ) → begin ≤ a → length args ≡ length v.ins → IsKindRight P W u order functions lays g v k → AreCells room args
        → lo + (w + (length (picked (P.picks g v) args) + parts_extent P k)) ≤ room → a + kind_size P k < end → AllStay X room begin end a (kind_code P make room g v args k w a lo)
    kind-stays g v args (Plain row shape) w a lo from many right ins fits lt = ((ins, omega (arith, fits), omega (arith, lt)), tt)
    kind-stays g v args (Whole (form.Call f)) w a lo from many right ins fits lt = ((ins, refl, (f, right.0, refl, many ∙ right.1), omega (arith, fits), omega (arith, lt)), tt)
    kind-stays g v args (Whole (form.Select s gs n)) w a lo from many right ins fits lt = compound g v args (Whole (form.Select s gs n)) w a lo from right ins fits (omega arith) lt
    kind-stays g v args (Whole (form.TagCase gs n)) w a lo from many right ins fits lt = compound g v args (Whole (form.TagCase gs n)) w a lo from right ins fits (omega arith) lt
    kind-stays g v args (Whole (form.LoopA i t b r n)) w a lo from many right ins fits lt = compound g v args (Whole (form.LoopA i t b r n)) w a lo from right ins fits (omega arith) lt
    kind-stays g v args (Whole (form.LoopB i t b r n)) w a lo from many right ins fits lt = compound g v args (Whole (form.LoopB i t b r n)) w a lo from right ins fits (omega arith) lt
    kind-stays g v args (Whole (form.ForAll e b r m n)) w a lo from many right ins fits lt = compound g v args (Whole (form.ForAll e b r m n)) w a lo from right ins fits (omega arith) lt

    nodes-stay : (g : ℕ) (places : Places) → ((l p : ℕ) → IsCell room (places l p)) → (vs : List Vertex) (a lo : ℕ) → begin ≤ a → EachNode (λ v. IsKindRight P W u order functions lays g v v.kind) vs → lo + nodes_extent P g vs ≤ room
        → a + nodes_size P vs < end → AllStay X room begin end a (nodes_code P make room g places vs a lo)
    nodes-stay g places inside [] a lo from right fits lt = tt
    nodes-stay g places inside (v ∷ vs) a lo from right fits lt =
        let args = map (operand places) v.ins in
        let m = a + kind_size P v.kind in
        let here = kind_code P make room g v args v.kind (P.width v) a lo in
        let others = nodes_code P make room g places vs m (lo + P.width v) in
        let one = kind-long P W u order functions make lays long room g v args v.kind (P.width v) a lo right.0 in
        let mine = P.width v + (length (picked (P.picks g v) v.ins) + parts_extent P v.kind) in
        let picks = picked-long (P.picks g v) v.ins (operand places) in
        let first = le-max_left mine (P.width v + nodes_extent P g vs) in
        let second = le-max_right mine (P.width v + nodes_extent P g vs) in
        stay-both X room begin end a m here others (omega (arith, one))
        (kind-stays g v args v.kind (P.width v) a lo from (length-map v.ins (operand places)) right.0 (read-inside room places inside v.ins) (omega (arith, fits, first, picks)) (omega (arith, lt)))
        (nodes-stay g places inside vs m (lo + P.width v) (omega (arith, from)) right.1 (omega (arith, fits, second)) (omega (arith, lt)))

  pub graph-stays : ((g : ℕ) → IsSized P g) → (n : ℕ) → DoStay X room begin end P (graph_code P n) (CanLay P W u order functions n)
  graph-stays sized zero args g a lo from right ins fits lt = absurd right
  graph-stays sized (suc n) args g a lo from right ins fits lt =
      let steps = (sized g).0 in
      let cells = (sized g).1 in
      nodes-stay sized (graph_code P n) (CanLay P W u order functions n) (graph-long P W u order functions sized n) (graph-stays sized n) g (placed P args (P.nodes g) lo)
      (λ l p. placed-inside P room args g (P.nodes g) lo l p ins (omega (arith, fits, cells))) (P.nodes g) a lo from right.kinds (omega (arith, fits, cells)) (omega (arith, lt, steps))

-- a step of what lies there and stays
stays-at : (X : Layout) (W : Weighing) (room begin end : ℕ) (code : Code) (weigh : Weigh) (a : ℕ) (xs : List Line) → Lie W code weigh a xs → AllStay X room begin end a xs → (pc : ℕ) → a ≤ pc → pc < a + length xs → Stays X room begin end pc (code pc)
stays-at X W room begin end code weigh a [] lies stay pc le lt = absurd (omega (arith, le, lt))
stays-at X W room begin end code weigh a (x ∷ xs) lies stay pc le lt = go (ltb a pc) refl (λ more. stays-at X W room begin end code weigh (suc a) xs lies.2 stay.1 pc (omega (arith, more)) (omega (arith, lt)))
  where
    go : (c : Bool) → ltb a pc ≡ c → (a < pc → Stays X room begin end pc (code pc)) → Stays X room begin end pc (code pc)
    go true e later = later (ltb-true a pc e)
    go false e later =
        let no = ltb-false a pc e in
        let same : a ≡ pc = omega (arith, le, no) in
        subst (λ y. Stays X room begin end y (code y)) same (subst (Stays X room begin end a) (sym lies.0) stay.0)

block-stays : (P : Plan) (W : Weighing) (u : Network) (order : ℕ → List Vertex) (functions : List ℕ) (n : ℕ) (code : Code) (weigh : Weigh) → IsRightPlan P W u order functions n → (f : ℕ) → IsIn f functions
    → AllStay (laid_as P W u order functions code weigh) (room_of P f) (P.entry f) (end_of P f) (P.entry f) (function_lines P n f (P.entry f))
block-stays P W u order functions n code weigh right f in_f =
    let room = room_of P f in
    let args = cells_at 0 (P.params f) in
    let a = P.entry f in
    let X = laid_as P W u order functions code weigh in
    let lays = (right.graphs f in_f).1 in
    let long = graph-long P W u order functions right.sized n room args f a (P.params f) lays in
    let ins = cells-inside room 0 (P.params f) (omega arith) in
    stay-both X room a (end_of P f) a (a + P.size f) (graph_code P n room args f a (P.params f)) (line (OfResults f) (Return (ends_at P args f (P.params f))) ∷ []) (omega (arith, long))
    (graph-stays P W u order functions code weigh room a (end_of P f) right.sized n args f a (P.params f) (omega arith) lays ins (omega arith) (omega arith))
    (ends-inside X room a (end_of P f) P right.sized args f (P.params f) ins (omega arith), tt)

pub inside : IsCodeInside
inside P W u order functions n code weigh right lies =
    record {
      stays = λ f pc in_f le lt.
          let long = function-long P W u order functions n right f (P.entry f) in_f in
          stays-at (laid_as P W u order functions code weigh) W (room_of P f) (P.entry f) (end_of P f) code weigh (P.entry f) (function_lines P n f (P.entry f)) (block-lies P W u order functions n right code weigh lies f in_f)
          (block-stays P W u order functions n code weigh right f in_f) pc le (omega (arith, lt, long));
      begins = λ f in_f. omega arith;
      ends = λ f in_f. let e = right.entries f in_f in let x = entry-within P functions 0 f in_f in omega (arith, e, x);
      inputs = λ f in_f. omega arith;
    }
