-- The steps that are made of an even plan are even.
use Rattle.std.proofs.Common.{◌≡◌, ℕ, zero, suc, ◌+◌, List, [], ◌∷◌, ◌++◌, drop, length, map, refl, sym, ◌∙◌, subst}
use Rattle.std.proofs.lemmas.List.{length-map}
use Rattle.if1_graph.specs.declared.op.Simple.{Simple}
use Rattle.graph_meaning.specs.Demand.{EachNode, Kind, Plain, Source, Vertex, Whole}
use Rattle.graph_meaning.specs.Forms as form
use Rattle.graph_meaning.specs.NodeValues.{Shape}
use Rattle.run_code.specs.Cells.{At, Operand, cells_at, own_cells, picked}
use Rattle.run_code.specs.Coded.{Places, operand}
use Rattle.run_code.specs.Collections.{AreWithin, Collect, Final, Sifts, sifts_in}
use Rattle.run_code.specs.Made.{Line, Makes, OfNothing, OfResults, OfRows, Origin, Plan, arm_code, arms_code, ends_at, for_all_code, function_lines, graph_code, kind_code, kind_size, line, loop_code, nodes_code, parts_code, placed, room_of, stand}
use Rattle.run_code.specs.Steps.{Count, Move}
use Rattle.run_made.specs.Plans.{All}
use Rattle.unit_whole.specs.Even.{AllEven, AreLinesEven, GiveAll, IsEven, IsKindEven, IsLoopEven, IsStepEven}

sifts-within : (n : ℕ) (cs : List Collect) → AreWithin n cs → AreWithin n (sifts_in cs)
sifts-within n [] h = tt
sifts-within n (Sifts j mask ∷ cs) h = (h.0, sifts-within n cs h.1)
sifts-within n (Final j ∷ cs) h = sifts-within n cs h.1

module _ (P : Plan) (functions : List ℕ) (even : IsEven P functions) (n : ℕ) where
  data AreEven : List Line → Type 0 where
    none : AreEven []
    more : (l : Line) (ls : List Line) → IsStepEven P functions n l.origin l.step → AreEven ls → AreEven (l ∷ ls)

  both-even : (ls ms : List Line) → AreEven ls → AreEven ms → AreEven (ls ++ ms)
  both-even _ ms none b = b
  both-even _ ms (more l ls x a) b = more l (ls ++ ms) x (both-even ls ms a b)

  all-even : (ls : List Line) → AreEven ls → AllEven P functions n ls
  all-even _ none = tt
  all-even _ (more l ls x a) = (x, all-even ls a)

  -- the results of a graph are as many as it has
  ends-long : (args : List Operand) (g lo : ℕ) → length (ends_at P args g lo) ≡ length (P.results g)
  ends-long args g lo = length-map (P.results g) (operand (placed P args (P.nodes g) lo))

  ends-within : (args : List Operand) (g lo m : ℕ) (cs : List Collect) → m ≡ length (P.results g) → AreWithin m cs → AreWithin (length (ends_at P args g lo)) cs
  ends-within args g lo m cs e h = subst (λ k. AreWithin k cs) (e ∙ sym (ends-long args g lo)) h

  module _ (make : Makes P) (made : (room : ℕ) (args : List Operand) (g a lo : ℕ) → AreEven (make room args g a lo)) (room : ℕ) where
    -- a part, its last step, and what comes behind it
    then-even : (args : List Operand) (g a lo : ℕ) (l : Line) (ms : List Line) → IsStepEven P functions n l.origin l.step → AreEven ms → AreEven (make room args g a lo ++ (l ∷ ms))
    then-even args g a lo l ms x b = both-even (make room args g a lo) (l ∷ ms) (made room args g a lo) (more l ms x b)

    arm-even : (args : List Operand) (g t w b lo up : ℕ) → w ≡ length (P.results g) → AreEven (arm_code P make room args g t w b lo up)
    arm-even args g t w b lo up e = then-even args g t up (line (OfResults g) (Move (ends_at P args g up) lo w b)) [] (e ∙ sym (ends-long args g up)) none

    arms-even : (args : List Operand) (gs : List ℕ) (t w b lo up : ℕ) → GiveAll P functions w gs → AreEven (arms_code P make room args gs t w b lo up)
    arms-even args [] t w b lo up e = none
    arms-even args (g ∷ gs) t w b lo up e =
        both-even (arm_code P make room args g t w b lo up) (arms_code P make room args gs (t + suc (P.size g)) w b lo up) (arm-even args g t w b lo up e.0) (arms-even args gs (t + suc (P.size g)) w b lo up e.1)

    loop-even : (v : Vertex) (own : List Operand) (i t body r : ℕ) (begin : List Line) → AreEven begin → IsLoopEven P functions v i body r → (starts turn a b lo mid k : ℕ)
        → AreEven (loop_code P make room own i t body r begin starts turn a (P.width v) b lo mid (length (P.results i)) k)
    loop-even v own i t body r begin begins e starts turn a b lo mid k =
        let m = length (P.results i) in
        let within = sifts-within m (P.collects r) e.0 in
        then-even own i a mid _ _ (ends-within own i mid m (sifts_in (P.collects r)) refl within)
        (both-even begin _ begins
        (then-even (own ++ cells_at mid m) body turn (mid + (m + k)) _ _ (ends-within (own ++ cells_at mid m) body (mid + (m + k)) m (sifts_in (P.collects r)) (sym e.1) within)
        (then-even (own ++ cells_at mid m) t (suc (turn + P.size body)) (mid + (m + k)) _ _ tt
        (arm-even (own ++ stand P (P.collects r) (mid + m) mid) (P.refolded r) (suc (suc (turn + P.size body) + P.size t)) (P.width v) b lo (mid + (m + k)) e.2))))

    for-all-even : (own : List Operand) (g body r turn a w b lo mid m k : ℕ) → AreWithin (length (P.results body)) (P.collects r) → w ≡ length (P.results (P.refolded r)) → AreEven (for_all_code P make room own g body r turn a w b lo mid m k)
    for-all-even own g body r turn a w b lo mid m k within e =
        then-even own g a mid _ _ tt
        (then-even (own ++ cells_at (suc (mid + (m + k))) m) body turn (suc (mid + (m + k)) + m) _ _
        (ends-within (own ++ cells_at (suc (mid + (m + k))) m) body (suc (mid + (m + k)) + m) (length (P.results body)) (P.collects r) refl within)
        (more _ _ tt (arm-even ((own ++ cells_at mid m) ++ cells_at (mid + m) k) (P.refolded r) (suc (suc (turn + P.size body))) w b lo (mid + (m + k)) e)))

    parts-even : (v : Vertex) (own : List Operand) (k : Kind) (a b lo mid : ℕ) → IsKindEven P functions v k → AreEven (parts_code P make room own k a (P.width v) b lo mid)
    parts-even v own (Plain row shape) a b lo mid e = none
    parts-even v own (Whole (form.Call f)) a b lo mid e = none
    parts-even v own (Whole (form.Select s gs outputs)) a b lo mid e = then-even own s a mid _ _ tt (arms-even own gs (suc (a + P.size s)) (P.width v) b lo mid e)
    parts-even v own (Whole (form.TagCase gs outputs)) a b lo mid e = more _ _ tt (arms-even (At mid ∷ drop 1 own) gs (suc a) (P.width v) b lo (suc mid) e)
    parts-even v own (Whole (form.LoopA i t body r outputs)) a b lo mid e =
        loop-even v own i t body r (line OfNothing Count ∷ []) (more _ _ tt none) e (suc (a + P.size i)) (suc (suc (a + P.size i))) a b lo mid (length (P.collects r))
    parts-even v own (Whole (form.LoopB i t body r outputs)) a b lo mid e =
        loop-even v own i t body r [] none e (suc (suc (a + P.size i) + P.size body)) (suc (a + P.size i)) a b lo mid (length (P.collects r))
    parts-even v own (Whole (form.ForAll g body r m outputs)) a b lo mid e =
        for-all-even own g body r (suc (a + P.size g)) a (P.width v) b lo mid (length (P.results g)) (length (P.collects r)) e.0 e.1

    whole-even : (g : ℕ) (v : Vertex) (args : List Operand) (k : Kind) (a lo : ℕ) → IsKindEven P functions v k
        → AreEven (parts_code P make room (own_cells (P.picks g v) args (lo + P.width v)) k (suc (suc a)) (P.width v) (a + kind_size P k) lo ((lo + P.width v) + length (picked (P.picks g v) args)))
    whole-even g v args k a lo e = parts-even v (own_cells (P.picks g v) args (lo + P.width v)) k (suc (suc a)) (a + kind_size P k) lo ((lo + P.width v) + length (picked (P.picks g v) args)) e

    node-even : (g : ℕ) (places : Places) (v : Vertex) (k : Kind) → v.kind ≡ k → IsKindEven P functions v k → (a lo : ℕ) → AreEven (kind_code P make room g v (map (operand places) v.ins) k (P.width v) a lo)
    node-even g places v (Plain row shape) is e a lo = more _ [] (places, is, refl, refl) none
    node-even g places v (Whole (form.Call f)) is e a lo = more _ [] (f, e.0, is, refl, refl) none
    node-even g places v (Whole (form.Select s gs w)) is e a lo = more _ _ tt (more _ _ refl (whole-even g v (map (operand places) v.ins) (Whole (form.Select s gs w)) a lo e))
    node-even g places v (Whole (form.TagCase gs w)) is e a lo = more _ _ tt (more _ _ refl (whole-even g v (map (operand places) v.ins) (Whole (form.TagCase gs w)) a lo e))
    node-even g places v (Whole (form.LoopA i t b r w)) is e a lo = more _ _ tt (more _ _ refl (whole-even g v (map (operand places) v.ins) (Whole (form.LoopA i t b r w)) a lo e))
    node-even g places v (Whole (form.LoopB i t b r w)) is e a lo = more _ _ tt (more _ _ refl (whole-even g v (map (operand places) v.ins) (Whole (form.LoopB i t b r w)) a lo e))
    node-even g places v (Whole (form.ForAll x b r m w)) is e a lo = more _ _ tt (more _ _ refl (whole-even g v (map (operand places) v.ins) (Whole (form.ForAll x b r m w)) a lo e))

    nodes-even : (g : ℕ) (places : Places) (vs : List Vertex) → EachNode (λ v. IsKindEven P functions v v.kind) vs → (a lo : ℕ) → AreEven (nodes_code P make room g places vs a lo)
    nodes-even g places [] e a lo = none
    nodes-even g places (v ∷ vs) e a lo =
        both-even _ (nodes_code P make room g places vs (a + kind_size P v.kind) (lo + P.width v)) (node-even g places v v.kind refl e.0 a lo) (nodes-even g places vs e.1 (a + kind_size P v.kind) (lo + P.width v))

  graph-even : (levels room : ℕ) (args : List Operand) (g a lo : ℕ) → AreEven (graph_code P levels room args g a lo)
  graph-even zero room args g a lo = none
  graph-even (suc m) room args g a lo = nodes-even (graph_code P m) (graph-even m) room g (placed P args (P.nodes g) lo) (P.nodes g) (even g) a lo

pub lines-even : AreLinesEven
lines-even P functions even levels f a =
    let n = length (P.results f) in
    let args = cells_at 0 (P.params f) in
    all-even P functions even n (function_lines P levels f a)
    (both-even P functions even n (graph_code P levels (room_of P f) args f a (P.params f)) _ (graph-even P functions even n levels (room_of P f) args f a (P.params f)) (more _ [] (ends-long P functions even n args f (P.params f)) none))
