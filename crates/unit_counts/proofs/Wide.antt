-- The steps that are made of a plan are as wide as their rows.
use Rattle.std.proofs.Common.{◌≡◌, ℕ, zero, suc, ◌+◌, List, [], ◌∷◌, ◌++◌, drop, get_or, length, map, refl}
use Rattle.if1_graph.specs.Rows.{row_of}
use Rattle.if1_graph.specs.declared.op.Simple.{Simple}
use Rattle.graph_meaning.specs.Demand.{Kind, Plain, Vertex, Whole}
use Rattle.graph_meaning.specs.Forms as form
use Rattle.graph_meaning.specs.Laws.{outputs_by}
use Rattle.graph_meaning.specs.NodeValues.{Shape}
use Rattle.run_code.specs.Cells.{At, Operand, cells_at, own_cells, picked}
use Rattle.run_code.specs.Coded.{Places, operand}
use Rattle.run_code.specs.Made.{Line, Makes, OfNothing, Plan, arm_code, arms_code, for_all_code, function_lines, functions_lines, graph_code, kind_code, kind_size, line, loop_code, nodes_code, parts_code, placed, room_of, stand}
use Rattle.run_code.specs.Steps.{Count, Fire, Step}
use Rattle.run_made.specs.Plans.{last_line}

abbrev pub IsWide : Step → Type 0
IsWide (Fire row shape ins out w) = outputs_by (row_of row).gives shape ≡ w
IsWide _ = Unit {0}

data AreWide : List Line → Type 0 where
  none : AreWide []
  more : (l : Line) (ls : List Line) → IsWide l.step → AreWide ls → AreWide (l ∷ ls)

both-wide : (ls ms : List Line) → AreWide ls → AreWide ms → AreWide (ls ++ ms)
both-wide _ ms none b = b
both-wide _ ms (more l ls x a) b = more l (ls ++ ms) x (both-wide ls ms a b)

at-wide : (ls : List Line) → AreWide ls → (pc : ℕ) → IsWide (get_or ls pc last_line).step
at-wide _ none pc = tt
at-wide _ (more l ls x a) zero = x
at-wide _ (more l ls x a) (suc pc) = at-wide ls a pc

module _ (P : Plan) (wide : (v : Vertex) (row : Simple) (shape : Shape) → v.kind ≡ Plain row shape → outputs_by (row_of row).gives shape ≡ P.width v) where
  module _ (make : Makes P) (made : (room : ℕ) (args : List Operand) (g a lo : ℕ) → AreWide (make room args g a lo)) (room : ℕ) where
    -- a part, its last step, and what comes behind it
    then-wide : (args : List Operand) (g a lo : ℕ) (l : Line) (ms : List Line) → IsWide l.step → AreWide ms → AreWide (make room args g a lo ++ (l ∷ ms))
    then-wide args g a lo l ms x b = both-wide (make room args g a lo) (l ∷ ms) (made room args g a lo) (more l ms x b)

    arm-wide : (args : List Operand) (g t w b lo up : ℕ) → AreWide (arm_code P make room args g t w b lo up)
    arm-wide args g t w b lo up = then-wide args g t up _ [] tt none

    arms-wide : (args : List Operand) (gs : List ℕ) (t w b lo up : ℕ) → AreWide (arms_code P make room args gs t w b lo up)
    arms-wide args [] t w b lo up = none
    arms-wide args (g ∷ gs) t w b lo up =
        both-wide (arm_code P make room args g t w b lo up) (arms_code P make room args gs (t + suc (P.size g)) w b lo up) (arm-wide args g t w b lo up) (arms-wide args gs (t + suc (P.size g)) w b lo up)

    loop-wide : (own : List Operand) (i t body r : ℕ) (begin : List Line) → AreWide begin → (starts turn a w b lo mid n k : ℕ) → AreWide (loop_code P make room own i t body r begin starts turn a w b lo mid n k)
    loop-wide own i t body r begin begins starts turn a w b lo mid n k =
        then-wide own i a mid _ _ tt
        (both-wide begin _ begins
        (then-wide (own ++ cells_at mid n) body turn (mid + (n + k)) _ _ tt
        (then-wide (own ++ cells_at mid n) t (suc (turn + P.size body)) (mid + (n + k)) _ _ tt
        (arm-wide (own ++ stand P (P.collects r) (mid + n) mid) (P.refolded r) (suc (suc (turn + P.size body) + P.size t)) w b lo (mid + (n + k))))))

    for-all-wide : (own : List Operand) (g body r turn a w b lo mid n k : ℕ) → AreWide (for_all_code P make room own g body r turn a w b lo mid n k)
    for-all-wide own g body r turn a w b lo mid n k =
        then-wide own g a mid _ _ tt
        (then-wide (own ++ cells_at (suc (mid + (n + k))) n) body turn (suc (mid + (n + k)) + n) _ _ tt
        (more _ _ tt (arm-wide ((own ++ cells_at mid n) ++ cells_at (mid + n) k) (P.refolded r) (suc (suc (turn + P.size body))) w b lo (mid + (n + k)))))

    parts-wide : (own : List Operand) (k : Kind) (a w b lo mid : ℕ) → AreWide (parts_code P make room own k a w b lo mid)
    parts-wide own (Plain row shape) a w b lo mid = none
    parts-wide own (Whole (form.Call f)) a w b lo mid = none
    parts-wide own (Whole (form.Select s gs outputs)) a w b lo mid = then-wide own s a mid _ _ tt (arms-wide own gs (suc (a + P.size s)) w b lo mid)
    parts-wide own (Whole (form.TagCase gs outputs)) a w b lo mid = more _ _ tt (arms-wide (At mid ∷ drop 1 own) gs (suc a) w b lo (suc mid))
    parts-wide own (Whole (form.LoopA i t body r outputs)) a w b lo mid =
        loop-wide own i t body r (line OfNothing Count ∷ []) (more _ _ tt none) (suc (a + P.size i)) (suc (suc (a + P.size i))) a w b lo mid (length (P.results i)) (length (P.collects r))
    parts-wide own (Whole (form.LoopB i t body r outputs)) a w b lo mid =
        loop-wide own i t body r [] none (suc (suc (a + P.size i) + P.size body)) (suc (a + P.size i)) a w b lo mid (length (P.results i)) (length (P.collects r))
    parts-wide own (Whole (form.ForAll g body r m outputs)) a w b lo mid = for-all-wide own g body r (suc (a + P.size g)) a w b lo mid (length (P.results g)) (length (P.collects r))

    whole-wide : (g : ℕ) (v : Vertex) (args : List Operand) (k : Kind) (a lo : ℕ)
        → AreWide (parts_code P make room (own_cells (P.picks g v) args (lo + P.width v)) k (suc (suc a)) (P.width v) (a + kind_size P k) lo ((lo + P.width v) + length (picked (P.picks g v) args)))
    whole-wide g v args k a lo = parts-wide (own_cells (P.picks g v) args (lo + P.width v)) k (suc (suc a)) (P.width v) (a + kind_size P k) lo ((lo + P.width v) + length (picked (P.picks g v) args))

    node-wide : (g : ℕ) (v : Vertex) (args : List Operand) (k : Kind) → v.kind ≡ k → (a lo : ℕ) → AreWide (kind_code P make room g v args k (P.width v) a lo)
    node-wide g v args (Plain row shape) e a lo = more _ [] (wide v row shape e) none
    node-wide g v args (Whole (form.Call f)) e a lo = more _ [] tt none
    node-wide g v args (Whole (form.Select s gs w)) e a lo = more _ _ tt (more _ _ tt (whole-wide g v args (Whole (form.Select s gs w)) a lo))
    node-wide g v args (Whole (form.TagCase gs w)) e a lo = more _ _ tt (more _ _ tt (whole-wide g v args (Whole (form.TagCase gs w)) a lo))
    node-wide g v args (Whole (form.LoopA i t b r w)) e a lo = more _ _ tt (more _ _ tt (whole-wide g v args (Whole (form.LoopA i t b r w)) a lo))
    node-wide g v args (Whole (form.LoopB i t b r w)) e a lo = more _ _ tt (more _ _ tt (whole-wide g v args (Whole (form.LoopB i t b r w)) a lo))
    node-wide g v args (Whole (form.ForAll x b r m w)) e a lo = more _ _ tt (more _ _ tt (whole-wide g v args (Whole (form.ForAll x b r m w)) a lo))

    nodes-wide : (g : ℕ) (places : Places) (vs : List Vertex) (a lo : ℕ) → AreWide (nodes_code P make room g places vs a lo)
    nodes-wide g places [] a lo = none
    nodes-wide g places (v ∷ vs) a lo =
        both-wide _ (nodes_code P make room g places vs (a + kind_size P v.kind) (lo + P.width v)) (node-wide g v (map (operand places) v.ins) v.kind refl a lo) (nodes-wide g places vs (a + kind_size P v.kind) (lo + P.width v))

  graph-wide : (n room : ℕ) (args : List Operand) (g a lo : ℕ) → AreWide (graph_code P n room args g a lo)
  graph-wide zero room args g a lo = none
  graph-wide (suc n) room args g a lo = nodes-wide (graph_code P n) (graph-wide n) room g (placed P args (P.nodes g) lo) (P.nodes g) a lo

  function-wide : (n f a : ℕ) → AreWide (function_lines P n f a)
  function-wide n f a = both-wide (graph_code P n (room_of P f) (cells_at 0 (P.params f)) f a (P.params f)) _ (graph-wide n (room_of P f) (cells_at 0 (P.params f)) f a (P.params f)) (more _ [] tt none)

  functions-wide : (n : ℕ) (fs : List ℕ) (a : ℕ) → AreWide (functions_lines P n fs a)
  functions-wide n [] a = none
  functions-wide n (f ∷ fs) a = both-wide (function_lines P n f a) (functions_lines P n fs (a + suc (P.size f))) (function-wide n f a) (functions-wide n fs (a + suc (P.size f)))

  pub lines-wide : (n : ℕ) (fs : List ℕ) (pc : ℕ) → IsWide (get_or (functions_lines P n fs 0) pc last_line).step
  lines-wide n fs pc = at-wide (functions_lines P n fs 0) (functions-wide n fs 0) pc
