-- How the steps that are made of a plan handle their operands, and which cells are live there and own what they have.
--
-- In each graph a port that is known and was not taken has a live cell. Cells that are kept for other graphs are live as well: while
-- the parts of a compound node run, those that are live behind the node.
use Rattle.std.specs.Prelude.{◌≡◌, ℕ, zero, suc, ◌+◌, ◌-◌, ◌&&◌, ◌||◌, not, eqb, leb, ltb, if◌then◌else◌, Bool, true, false, List, [], ◌∷◌, ◌++◌, drop, map, length, get_or}
use Rattle.graph_meaning.specs.Carried.{Unfilled}
use Rattle.graph_meaning.specs.Forms as form
use Rattle.graph_meaning.specs.Demand.{Kind, Plain, Whole, Vertex}
use Rattle.run_code.specs.Taking.{Taken, first_port, taken_by}
use Rattle.run_code.specs.Cells.{Operand, At, Lit, cells_at, own_cells, picked}
use Rattle.run_code.specs.Coded.{Places, operand}
use Rattle.run_code.specs.Collections.{sifts_in}
use Rattle.run_code.specs.Known.{Known, known_after}
use Rattle.run_code.specs.Made.{Plan, kind_size, placed, put, stand}
use Rattle.run_store.specs.Lively.{Live}
use Rattle.run_store.specs.Ports.{copies_of, modes_of}
use Rattle.run_store.specs.Stored.{Handling, Looks, Mode, Takes}

-- What is taken and what is copied at the ports of nodes, node 0 for the results of the graph; which inputs each graph owns, and which
-- are there at all: what an initialization is given is in no other part of its loop; and which of the values that a ForAll puts to
-- collections are copied.
pub record Shares : Type 0 where
  pub takes : (graph node port : ℕ) → Bool
  pub copies : (graph node port : ℕ) → Bool
  pub owns : (graph port : ℕ) → Bool
  pub has : (graph port : ℕ) → Bool
  pub puts : (returns : ℕ) → List Bool

-- ---- cells

abbrev pub Cells_of : Type 0
Cells_of = (cell : ℕ) → Bool

abbrev pub none_of : Cells_of
none_of i = false

abbrev pub either_of : Cells_of → Cells_of → Cells_of
either_of a b i = a i || b i

-- so many cells from one on
abbrev pub range_of : (first many : ℕ) → Cells_of
range_of c n i = leb c i && ltb i (c + n)

abbrev pub is_at : Operand → Cells_of
is_at (At c) i = eqb c i
is_at (Lit k) i = false

-- one of the ports from 1 to a number passes
abbrev pub any_port : (ℕ → Bool) → ℕ → Bool
any_port test zero = false
any_port test (suc n) = test (suc n) || any_port test n

-- the cells of those of these operands whose ports pass
abbrev pub cells_where : (test : (port : ℕ) → Bool) → List Operand → Cells_of
cells_where test args i = any_port (λ p. test p && is_at (get_or args (p - 1) (Lit Unfilled)) i) (length args)

abbrev pub was_taken : Taken → (node port : ℕ) → Bool
was_taken [] l p = false
was_taken (t ∷ ts) l p = (eqb l t.0 && eqb p t.1) || was_taken ts l p

-- collections are taken where values are put to them
abbrev pub takes_all : ℕ → List Mode
takes_all zero = []
takes_all (suc n) = Takes ∷ takes_all n

module _ (P : Plan) where
  -- how many collections a loop keeps for its returns
  abbrev pub sifts_of : (returns : ℕ) → ℕ
  sifts_of r = length (sifts_in (P.collects r))

  -- where ports stand, where inputs stand whose ports pass
  abbrev pub seats : (test : (port : ℕ) → Bool) → List Operand → List Vertex → (lo : ℕ) → Places
  seats test args vs lo zero zero = Lit Unfilled
  seats test args vs lo zero (suc p) = if test (suc p) then get_or args p (Lit Unfilled) else Lit Unfilled
  seats test args vs lo (suc l) p = put P vs lo (suc l) p

  -- the cell of this port that was not taken
  abbrev pub stands : Places → Taken → (node port : ℕ) → Cells_of
  stands places taken l p i = is_at (places l p) i && not (was_taken taken l p)

  abbrev pub stand_known : Places → Taken → Known → Cells_of
  stand_known places taken [] i = false
  stand_known places taken (k ∷ ks) i = any_port (λ p. stands places taken k.0 p i) k.1 || stand_known places taken ks i

  -- the cells of ports that are known and were not taken, and those that are kept
  abbrev pub alive : (keep : Cells_of) → Places → (inputs : ℕ) → Known → Taken → Cells_of
  alive keep places n known taken i = keep i || (any_port (λ p. stands places taken 0 p i) n || stand_known places taken known i)

  module _ (S : Shares) where
    -- what is taken by these nodes of a graph
    abbrev pub taken_in : (graph : ℕ) → Taken → List Vertex → Taken
    taken_in g taken [] = taken
    taken_in g taken (v ∷ vs) = taken_in g (taken_by (S.takes g v.label) (first_port v.kind) v.ins taken) vs

    abbrev pub modes_at : (graph : ℕ) → Vertex → List Mode
    modes_at g v = modes_of (S.takes g v.label) (S.copies g v.label) (first_port v.kind) v.ins

    abbrev pub result_modes : (graph : ℕ) → List Mode
    result_modes g = modes_of (S.takes g 0) (S.copies g 0) 1 (P.results g)

    -- what a compound node is given for its parts: it takes it, or a copy of it
    abbrev pub gives : (graph : ℕ) → Vertex → (port : ℕ) → Bool
    gives g v p = get_or (P.picks g v) (p - 1) false || S.takes g v.label p

    -- the live cells of a graph on these operands from a cell on, and those that own what they have
    abbrev pub live_in : (keep : Cells_of) → List Operand → (graph lo : ℕ) → Known → Taken → Cells_of
    live_in keep args g lo known taken = alive keep (seats (S.has g) args (P.nodes g) lo) (length args) known taken

    abbrev pub own_in : (hold : Cells_of) → List Operand → (graph lo : ℕ) → Known → Taken → Cells_of
    own_in hold args g lo known taken = alive hold (seats (S.owns g) args (P.nodes g) lo) (length args) known taken

    -- where all nodes have fired
    abbrev pub live_behind : (keep : Cells_of) → List Operand → (graph lo : ℕ) → Cells_of
    live_behind keep args g lo = live_in keep args g lo (known_after P.width [] (P.nodes g)) (taken_in g [] (P.nodes g))

    abbrev pub own_behind : (hold : Cells_of) → List Operand → (graph lo : ℕ) → Cells_of
    own_behind hold args g lo = own_in hold args g lo (known_after P.width [] (P.nodes g)) (taken_in g [] (P.nodes g))

    -- ---- what stands at places

    module _ (handling : (place : ℕ) → Handling) (live own : Live) where
      -- the step of this place handles its operands so, and these cells are live there, and own
      abbrev pub IsSet : (place : ℕ) → List Mode → List Bool → (lives owns : Cells_of) → Type 0
      IsSet pc ms puts lives owns =
          (handling pc ≡ record { modes = ms; keeps = λ c. true; puts = puts }) × ((i : ℕ) → live pc i ≡ lives i) × ((i : ℕ) → own pc i ≡ owns i)

      -- the places of a graph on these operands, from a place and a cell on, while these cells are kept, and these of them own
      abbrev pub Sets : Type 1
      Sets = (keep hold : Cells_of) → List Operand → (graph place lo : ℕ) → Type 0

      -- a place behind a graph, where its results are read
      abbrev pub IsBehind : (keep hold : Cells_of) → List Operand → (graph lo place : ℕ) → List Mode → List Bool → Type 0
      IsBehind keep hold args g lo pc ms puts = IsSet pc ms puts (live_behind keep args g lo) (own_behind hold args g lo)

      module _ (sets : Sets) where
        -- a graph, and the place behind it
        abbrev pub PartSet : (keep hold : Cells_of) → List Operand → (graph place lo : ℕ) → List Mode → List Bool → Type 0
        PartSet keep hold args g a lo ms puts = sets keep hold args g a lo × IsBehind keep hold args g lo (a + P.size g) ms puts

        abbrev pub ArmsSet : (keep hold : Cells_of) → List Operand → List ℕ → (place up : ℕ) → Type 0
        ArmsSet keep hold args [] t up = Unit {0}
        ArmsSet keep hold args (g ∷ gs) t up = PartSet keep hold args g t up (result_modes g) [] × ArmsSet keep hold args gs (t + suc (P.size g)) up

        -- The parts of a node, from a place and a cell on: these cells are kept behind it, and it gives these operands.

        abbrev pub SelectSet : (keep hold : Cells_of) → (given : ℕ → Bool) → List Operand → (selector : ℕ) → List ℕ → (place mid : ℕ) → Type 0
        SelectSet keep hold given args s gs a mid =
            PartSet (either_of keep (cells_where (λ p. true) args)) (either_of hold (cells_where given args)) args s a mid (Looks ∷ []) []
            × ArmsSet keep hold args gs (suc (a + P.size s)) mid

        abbrev pub TagSet : (keep hold : Cells_of) → (given : ℕ → Bool) → List Operand → List ℕ → (place mid : ℕ) → Type 0
        TagSet keep hold given args gs a mid =
            IsSet a ((if given 1 then Takes else Looks) ∷ []) [] (either_of keep (cells_where (λ p. true) args)) (either_of hold (cells_where given args))
            × ArmsSet keep hold (At mid ∷ drop 1 args) gs (suc a) (suc mid)

        -- the first turn's count, if a loop begins with a turn
        abbrev pub BeginSet : (early : Bool) → (keep hold : Cells_of) → (place : ℕ) → Type 0
        BeginSet true keep hold pc = IsSet pc [] [] keep hold
        BeginSet false keep hold pc = Unit {0}

        abbrev pub LoopSet : (early : Bool) → (keep hold : Cells_of) → List Operand → (init test body returns : ℕ) → (turn place mid n k : ℕ) → Type 0
        LoopSet early keep hold args i t b r turn a mid n k =
            PartSet keep hold args i a mid (result_modes i) []
            × BeginSet early (either_of keep (range_of mid (n + sifts_of r))) (either_of hold (range_of mid (n + sifts_of r))) (suc (a + P.size i))
            × PartSet (either_of keep (range_of (mid + n) (sifts_of r))) (either_of hold (range_of (mid + n) (sifts_of r))) (args ++ cells_at mid n) b turn (mid + (n + k)) (result_modes b ++ takes_all (sifts_of r)) []
            × PartSet (either_of keep (range_of mid (n + sifts_of r))) (either_of hold (range_of mid (n + sifts_of r))) (args ++ cells_at mid n) t (suc (turn + P.size b)) (mid + (n + k)) (Looks ∷ []) []
            × PartSet keep hold (args ++ stand P (P.collects r) (mid + n) mid) (P.refolded r) (suc (suc (turn + P.size b) + P.size t)) (mid + (n + k)) (result_modes (P.refolded r)) []

        abbrev pub ForAllSet : (keep hold : Cells_of) → List Operand → (generator body returns : ℕ) → (turn place mid n k : ℕ) → Type 0
        ForAllSet keep hold args e b r turn a mid n k =
            PartSet keep hold args e a mid (result_modes e) []
            × PartSet (either_of keep (range_of mid (suc (n + k)))) (either_of hold (range_of mid (suc (n + k)))) (args ++ cells_at (suc (mid + (n + k))) n) b turn (suc (mid + (n + k)) + n) (result_modes b ++ takes_all k) (S.puts r)
            × IsSet (suc (turn + P.size b)) [] [] (either_of keep (range_of mid (suc (n + k)))) (either_of hold (range_of mid (suc (n + k))))
            × PartSet keep hold ((args ++ cells_at mid n) ++ cells_at (mid + n) k) (P.refolded r) (suc (suc (turn + P.size b))) (mid + (n + k)) (result_modes (P.refolded r)) []

        abbrev pub PartsSet : (keep hold : Cells_of) → (given : ℕ → Bool) → List Operand → Kind → (place mid : ℕ) → Type 0
        PartsSet keep hold given args (Plain row shape) a mid = Unit {0}
        PartsSet keep hold given args (Whole (form.Call f)) a mid = Unit {0}
        PartsSet keep hold given args (Whole (form.Select s gs w)) a mid = SelectSet keep hold given args s gs a mid
        PartsSet keep hold given args (Whole (form.TagCase gs w)) a mid = TagSet keep hold given args gs a mid
        PartsSet keep hold given args (Whole (form.LoopA i t b r w)) a mid = LoopSet true keep hold args i t b r (suc (suc (a + P.size i))) a mid (length (P.results i)) (length (P.collects r))
        PartsSet keep hold given args (Whole (form.LoopB i t b r w)) a mid = LoopSet false keep hold args i t b r (suc (a + P.size i)) a mid (length (P.results i)) (length (P.collects r))
        PartsSet keep hold given args (Whole (form.ForAll e b r m w)) a mid = ForAllSet keep hold args e b r (suc (a + P.size e)) a mid (length (P.results e)) (length (P.collects r))

        -- a node: the cells that are live and own before it, and behind it without its outputs
        abbrev pub KindSet : (graph : ℕ) → Vertex → (lives owns keep hold : Cells_of) → List Operand → Kind → (place lo : ℕ) → Type 0
        KindSet g v lives owns keep hold args (Plain row shape) a lo = IsSet a (modes_at g v) [] lives owns
        KindSet g v lives owns keep hold args (Whole (form.Call f)) a lo = IsSet a (modes_at g v) [] lives owns
        KindSet g v lives owns keep hold args kind a lo =
            IsSet a [] [] lives owns
            × IsSet (suc a) (copies_of (P.picks g v)) [] lives owns
            × PartsSet keep hold (gives g v) (own_cells (P.picks g v) args (lo + P.width v)) kind (suc (suc a)) ((lo + P.width v) + length (picked (P.picks g v) args))

        abbrev pub NodesSet : (keep hold : Cells_of) → List Operand → (graph bottom : ℕ) → Known → Taken → List Vertex → (place lo : ℕ) → Type 0
        NodesSet keep hold args g bottom known taken [] a lo = Unit {0}
        NodesSet keep hold args g bottom known taken (v ∷ vs) a lo =
            (let after = taken_by (S.takes g v.label) (first_port v.kind) v.ins taken in
            KindSet g v (live_in keep args g bottom known taken) (own_in hold args g bottom known taken) (live_in keep args g bottom known after) (own_in hold args g bottom known after)
            (map (operand (placed P args (P.nodes g) bottom)) v.ins) v.kind a lo
            × NodesSet keep hold args g bottom ((v.label, P.width v) ∷ known) after vs (a + kind_size P v.kind) (lo + P.width v))

      -- graphs, so many levels down
      abbrev pub GraphSet : (levels : ℕ) → Sets
      GraphSet zero keep hold args g a lo = Unit {0}
      GraphSet (suc n) keep hold args g a lo = NodesSet (GraphSet n) keep hold args g lo [] [] (P.nodes g) a lo

      -- A function from a place on: its inputs are live, and it owns those that it is given.
      abbrev pub FunctionSet : (levels function place : ℕ) → Type 0
      FunctionSet n f a = PartSet (GraphSet n) none_of none_of (cells_at 0 (P.params f)) f a (P.params f) (result_modes f) []

      -- functions behind one another
      abbrev pub FunctionsSet : (levels : ℕ) → List ℕ → (place : ℕ) → Type 0
      FunctionsSet n [] a = Unit {0}
      FunctionsSet n (f ∷ fs) a = FunctionSet n f a × FunctionsSet n fs (a + suc (P.size f))
