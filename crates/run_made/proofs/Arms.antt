-- The parts of Selects and TagCases that are made do them.
use Rattle.std.proofs.Common.{◌≡◌, ℕ, suc, ◌+◌, ◌≤◌, max, List, [], ◌∷◌, length, refl, sym, ◌∙◌, subst, arith}
use Rattle.std.proofs.Math.Nat.{le-max_left, le-max_right}
use Rattle.run_laws.specs.Carried.{Carried}
use Rattle.run_laws.specs.Forms as form
use Rattle.run_laws.specs.Demand.{Whole, Vertex, Network}
use Rattle.run_laws.specs.Cells.{Operand, At, picked, own_cells}
use Rattle.run_laws.specs.Coded.{ArmsAre, Hands, Layout, NodeIs, PartIs, Starts, a_select, a_tag_case, an_arm, no_arm}
use Rattle.run_laws.specs.Machine.{Weigh}
use Rattle.run_laws.specs.Made.{Plan, Line, line, OfInputs, OfNothing, OfResults, Makes, arm_code, arms_at, arms_code, end_at, ends_at, greatest_extent, placed, select_code, tag_code}
use Rattle.run_laws.specs.Steps.{Branch, Code, Count, Move}
use Rattle.run_made.proofs.Lengths.{IsLong, arm-long}
use Rattle.run_made.proofs.Lying.{lies-first, lies-rest, one-result}
use Rattle.run_made.specs.Plans.{All, ArePicked, IsChoice, IsInner, IsPlanned, Lie, Weighing, laid_as}

module _ (P : Plan) (W : Weighing) (u : Network) (order : ℕ → List Vertex) (functions : List ℕ) (code : Code) (weigh : Weigh) (room : ℕ) where
  abbrev pub X : Layout
  X = laid_as P W u order functions code weigh

  -- where a graph's steps lie, they do it, and what is read in the end stands where the plan says
  abbrev pub Does : Makes P → (ℕ → Type 0) → Type 0
  Does make lays = (args : List Operand) (g a lo : ℕ) → lays g → lo + P.extent g ≤ room → Lie W code weigh a (make room args g a lo)
      → PartIs X room args g (P.nodes g) (P.results g) a (a + P.size g) lo (ends_at P args g lo)

  pub as-planned : (args : List Operand) (g a b lo : ℕ) (froms : List Operand) → IsPlanned P W u order functions g → PartIs X room args g (P.nodes g) (P.results g) a b lo froms
      → PartIs X room args g (order g) (u g).results a b lo froms
  as-planned args g a b lo froms e h =
      subst (λ vs. PartIs X room args g vs (u g).results a b lo froms) (sym e.0) (subst (λ os. PartIs X room args g (P.nodes g) os a b lo froms) (sym e.1) h)

  -- what begins a compound node
  pub starts-made : (g : ℕ) (v : Vertex) (args : List Operand) (w a lo : ℕ) (rest : List Line) → ArePicked P W u order functions g v
      → Lie W code weigh a (line OfNothing Count ∷ line (OfInputs g v) (Move (picked (P.picks g v) args) (lo + w) (length (picked (P.picks g v) args)) (suc (suc a))) ∷ rest)
      → Starts X a lo w (P.picks g v) args (W.weights.of_node g v) ((lo + w) + length (picked (P.picks g v) args))
  starts-made g v args w a lo rest right lies =
      record { counts = lies.0; copies = lies.2.0; weighs = λ ks rs. lies.2.1 (picked (P.picks g v) ks) [] ∙ right ks rs; fits = omega arith }

  module _ (make : Makes P) (lays : ℕ → Type 0) (long : IsLong P make lays) (does : Does make lays) where
    -- a graph whose results become outputs
    pub arm-made : (args : List Operand) (g t w b lo up : ℕ) → lays g → up + P.extent g ≤ room → Lie W code weigh t (arm_code P make room args g t w b lo up)
        → PartIs X room args g (P.nodes g) (P.results g) t (t + P.size g) up (ends_at P args g up) × Hands X g (t + P.size g) (ends_at P args g up) lo w b
    arm-made args g t w b lo up right fits lies =
        let one = long room args g t up right in
        let move = line (OfResults g) (Move (ends_at P args g up) lo w b) ∷ [] in
        let here = make room args g t up in
        let rest = lies-rest W code weigh t (t + P.size g) here move (omega (arith, one)) lies in
        (does args g t up right fits (lies-first W code weigh t here move lies), record { moves = rest.0; weighs = λ ks. rest.1 ks [] })

    pub arms-made : (args : List Operand) (gs : List ℕ) (t w b lo up : ℕ) → All (IsInner P W u order functions lays) gs → up + greatest_extent P gs ≤ room
        → Lie W code weigh t (arms_code P make room args gs t w b lo up) → ArmsAre X room args gs (arms_at P make room gs t) w b lo up
    arms-made args [] t w b lo up right fits lies = no_arm args w b lo up
    arms-made args (g ∷ gs) t w b lo up right fits lies =
        let first = le-max_left (P.extent g) (greatest_extent P gs) in
        let second = le-max_right (P.extent g) (greatest_extent P gs) in
        let here = arm_code P make room args g t w b lo up in
        let others = arms_code P make room args gs (t + suc (P.size g)) w b lo up in
        let one = arm-long P make lays long room args g t w b lo up right.0.1 in
        let arm = arm-made args g t w b lo up right.0.1 (omega (arith, fits, first)) (lies-first W code weigh t here others lies) in
        an_arm args g gs t (t + P.size g) (arms_at P make room gs (t + suc (P.size g))) w b lo up (ends_at P args g up)
        (as-planned args g t (t + P.size g) up (ends_at P args g up) right.0.0 arm.0) arm.1
        (arms-made args gs (t + suc (P.size g)) w b lo up right.1 (omega (arith, fits, second)) (lies-rest W code weigh t (t + suc (P.size g)) here others (omega (arith, one)) lies))

    pub select-made : (args : List Operand) (s : ℕ) (gs : List ℕ) (own : List Carried → List Carried → ℕ) (w a b lo : ℕ) (g : ℕ) (v : Vertex)
        → (let mid = (lo + w) + length (picked (P.picks g v) args) in
        Starts X a lo w (P.picks g v) args own mid
        → IsInner P W u order functions lays s → IsChoice P W u order functions s → All (IsInner P W u order functions lays) gs → mid + max (P.extent s) (greatest_extent P gs) ≤ room
        → Lie W code weigh (suc (suc a)) (select_code P make room (own_cells (P.picks g v) args (lo + w)) s gs (suc (suc a)) w b lo mid)
        → NodeIs X room args (Whole (form.Select s gs w)) own w a b lo)
    select-made args s gs own w a b lo g v starts right choice others fits lies =
        let mid = (lo + w) + length (picked (P.picks g v) args) in
        let mine = own_cells (P.picks g v) args (lo + w) in
        let first = le-max_left (P.extent s) (greatest_extent P gs) in
        let second = le-max_right (P.extent s) (greatest_extent P gs) in
        let m = suc (suc a) + P.size s in
        let here = make room mine s (suc (suc a)) mid in
        let many = long room mine s (suc (suc a)) mid right.1 in
        let arms = arms_code P make room mine gs (suc m) w b lo mid in
        let branch = line OfNothing (Branch (end_at P mine s mid) (arms_at P make room gs (suc m)) lo w b) in
        let rest = lies-rest W code weigh (suc (suc a)) m here (branch ∷ arms) (omega (arith, many)) lies in
        let part = does mine s (suc (suc a)) mid right.1 (omega (arith, fits, first)) (lies-first W code weigh (suc (suc a)) here (branch ∷ arms) lies) in
        a_select args s gs own w a b lo (P.picks g v) mid m (end_at P mine s mid) (arms_at P make room gs (suc m)) starts
        (subst (λ froms. PartIs X room mine s (order s) (u s).results (suc (suc a)) m mid froms) (one-result (placed P mine (P.nodes s) mid) (P.results s) choice.0)
        (as-planned mine s (suc (suc a)) m mid (ends_at P mine s mid) right.0 part))
        choice.1 rest.0
        (arms-made mine gs (suc m) w b lo mid others (omega (arith, fits, second)) rest.2)

    tag-of : (args mine : List Operand) (gs : List ℕ) (own : List Carried → List Carried → ℕ) (w a b lo mid : ℕ) (g : ℕ) (v : Vertex)
        → own_cells (P.picks g v) args (lo + w) ≡ mine → 1 ≤ length mine → Starts X a lo w (P.picks g v) args own mid
        → All (IsInner P W u order functions lays) gs → mid + suc (greatest_extent P gs) ≤ room
        → Lie W code weigh (suc (suc a)) (tag_code P make room mine gs (suc (suc a)) w b lo mid)
        → NodeIs X room args (Whole (form.TagCase gs w)) own w a b lo
    tag-of args [] gs own w a b lo mid g v e some starts others fits lies = absurd (omega (arith, some))
    tag-of args (x ∷ mine) gs own w a b lo mid g v e some starts others fits lies =
        a_tag_case args gs own w a b lo (P.picks g v) mid x mine (arms_at P make room gs (suc (suc (suc a)))) starts e lies.0
        (arms-made (At mid ∷ mine) gs (suc (suc (suc a))) w b lo (suc mid) others (omega (arith, fits)) lies.2)

    pub tag-made : (args : List Operand) (gs : List ℕ) (own : List Carried → List Carried → ℕ) (w a b lo mid : ℕ) (g : ℕ) (v : Vertex) → 1 ≤ length (own_cells (P.picks g v) args (lo + w))
        → Starts X a lo w (P.picks g v) args own mid → All (IsInner P W u order functions lays) gs → mid + suc (greatest_extent P gs) ≤ room
        → Lie W code weigh (suc (suc a)) (tag_code P make room (own_cells (P.picks g v) args (lo + w)) gs (suc (suc a)) w b lo mid)
        → NodeIs X room args (Whole (form.TagCase gs w)) own w a b lo
    tag-made args gs own w a b lo mid g v some starts others fits lies = tag-of args (own_cells (P.picks g v) args (lo + w)) gs own w a b lo mid g v refl some starts others fits lies
