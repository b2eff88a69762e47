-- The handling of each step and the live cells at each place, made beside the steps.
use Rattle.std.specs.Prelude.{ℕ, zero, suc, ◌+◌, if◌then◌else◌, Bool, true, false, List, [], ◌∷◌, ◌++◌, drop, map, length, get_or}
use Rattle.graph_meaning.specs.Forms as form
use Rattle.graph_meaning.specs.Demand.{Kind, Plain, Whole, Vertex}
use Rattle.run_code.specs.Taking.{Taken, first_port, taken_by}
use Rattle.run_code.specs.Cells.{Operand, At, cells_at, own_cells, picked}
use Rattle.run_code.specs.Coded.{operand}
use Rattle.run_code.specs.Known.{Known}
use Rattle.run_code.specs.Made.{Plan, placed, stand}
use Rattle.run_store.specs.Lively.{Live}
use Rattle.run_store.specs.Ports.{copies_of}
use Rattle.run_store.specs.Stored.{Handling, Looks, Mode, Takes}
use Rattle.made_store.specs.Settings.{Cells_of, Shares, cells_where, either_of, gives, live_behind, live_in, modes_at, none_of, own_behind, own_in, range_of, result_modes, sifts_of, takes_all}

-- how a step handles its operands, which collections it copies to, and which cells are live there and own what they have
pub record Setting : Type 0 where
  pub modes : List Mode
  pub puts : List Bool
  pub lives : Cells_of
  pub owns : Cells_of

abbrev pub setting : List Mode → List Bool → (lives owns : Cells_of) → Setting
setting ms puts lives owns = record { modes = ms; puts = puts; lives = lives; owns = owns }

module _ (P : Plan) (S : Shares) where
  -- the settings of a graph on these operands from a cell on, while these cells are kept, and these of them own
  abbrev pub Settles : Type 0
  Settles = (keep hold : Cells_of) → List Operand → (graph lo : ℕ) → List Setting

  module _ (settles : Settles) where
    -- and of the place behind it
    abbrev pub part_settings : (keep hold : Cells_of) → List Operand → (graph lo : ℕ) → List Mode → List Bool → List Setting
    part_settings keep hold args g lo ms puts = settles keep hold args g lo ++ (setting ms puts (live_behind P S keep args g lo) (own_behind P S hold args g lo) ∷ [])

    abbrev pub arms_settings : (keep hold : Cells_of) → List Operand → List ℕ → (up : ℕ) → List Setting
    arms_settings keep hold args [] up = []
    arms_settings keep hold args (g ∷ gs) up = part_settings keep hold args g up (result_modes P S g) [] ++ arms_settings keep hold args gs up

    abbrev pub begin_settings : (early : Bool) → (keep hold : Cells_of) → List Setting
    begin_settings true keep hold = setting [] [] keep hold ∷ []
    begin_settings false keep hold = []

    abbrev pub loop_settings : (early : Bool) → (keep hold : Cells_of) → List Operand → (init test body returns mid n k : ℕ) → List Setting
    loop_settings early keep hold args i t b r mid n k =
        part_settings keep hold args i mid (result_modes P S i) []
        ++ (begin_settings early (either_of keep (range_of mid (n + sifts_of P r))) (either_of hold (range_of mid (n + sifts_of P r)))
        ++ (part_settings (either_of keep (range_of (mid + n) (sifts_of P r))) (either_of hold (range_of (mid + n) (sifts_of P r))) (args ++ cells_at mid n) b (mid + (n + k)) (result_modes P S b ++ takes_all (sifts_of P r)) []
        ++ (part_settings (either_of keep (range_of mid (n + sifts_of P r))) (either_of hold (range_of mid (n + sifts_of P r))) (args ++ cells_at mid n) t (mid + (n + k)) (Looks ∷ []) []
        ++ part_settings keep hold (args ++ stand P (P.collects r) (mid + n) mid) (P.refolded r) (mid + (n + k)) (result_modes P S (P.refolded r)) [])))

    abbrev pub for_all_settings : (keep hold : Cells_of) → List Operand → (generator body returns mid n k : ℕ) → List Setting
    for_all_settings keep hold args e b r mid n k =
        part_settings keep hold args e mid (result_modes P S e) []
        ++ (part_settings (either_of keep (range_of mid (suc (n + k)))) (either_of hold (range_of mid (suc (n + k)))) (args ++ cells_at (suc (mid + (n + k))) n) b (suc (mid + (n + k)) + n) (result_modes P S b ++ takes_all k) (S.puts r)
        ++ (setting [] [] (either_of keep (range_of mid (suc (n + k)))) (either_of hold (range_of mid (suc (n + k))))
        ∷ part_settings keep hold ((args ++ cells_at mid n) ++ cells_at (mid + n) k) (P.refolded r) (mid + (n + k)) (result_modes P S (P.refolded r)) []))

    abbrev pub parts_settings : (keep hold : Cells_of) → (given : ℕ → Bool) → List Operand → Kind → (mid : ℕ) → List Setting
    parts_settings keep hold given args (Plain row shape) mid = []
    parts_settings keep hold given args (Whole (form.Call f)) mid = []
    parts_settings keep hold given args (Whole (form.Select s gs w)) mid =
        part_settings (either_of keep (cells_where (λ p. true) args)) (either_of hold (cells_where given args)) args s mid (Looks ∷ []) [] ++ arms_settings keep hold args gs mid
    parts_settings keep hold given args (Whole (form.TagCase gs w)) mid =
        setting ((if given 1 then Takes else Looks) ∷ []) [] (either_of keep (cells_where (λ p. true) args)) (either_of hold (cells_where given args)) ∷ arms_settings keep hold (At mid ∷ drop 1 args) gs (suc mid)
    parts_settings keep hold given args (Whole (form.LoopA i t b r w)) mid = loop_settings true keep hold args i t b r mid (length (P.results i)) (length (P.collects r))
    parts_settings keep hold given args (Whole (form.LoopB i t b r w)) mid = loop_settings false keep hold args i t b r mid (length (P.results i)) (length (P.collects r))
    parts_settings keep hold given args (Whole (form.ForAll e b r m w)) mid = for_all_settings keep hold args e b r mid (length (P.results e)) (length (P.collects r))

    abbrev pub kind_settings : (graph : ℕ) → Vertex → (lives owns keep hold : Cells_of) → List Operand → Kind → (lo : ℕ) → List Setting
    kind_settings g v lives owns keep hold args (Plain row shape) lo = setting (modes_at P S g v) [] lives owns ∷ []
    kind_settings g v lives owns keep hold args (Whole (form.Call f)) lo = setting (modes_at P S g v) [] lives owns ∷ []
    kind_settings g v lives owns keep hold args kind lo =
        setting [] [] lives owns ∷ setting (copies_of (P.picks g v)) [] lives owns
        ∷ parts_settings keep hold (gives P S g v) (own_cells (P.picks g v) args (lo + P.width v)) kind ((lo + P.width v) + length (picked (P.picks g v) args))

    abbrev pub nodes_settings : (keep hold : Cells_of) → List Operand → (graph bottom : ℕ) → Known → Taken → List Vertex → (lo : ℕ) → List Setting
    nodes_settings keep hold args g bottom known taken [] lo = []
    nodes_settings keep hold args g bottom known taken (v ∷ vs) lo =
        kind_settings g v (live_in P S keep args g bottom known taken) (own_in P S hold args g bottom known taken)
        (live_in P S keep args g bottom known (taken_by (S.takes g v.label) (first_port v.kind) v.ins taken)) (own_in P S hold args g bottom known (taken_by (S.takes g v.label) (first_port v.kind) v.ins taken))
        (map (operand (placed P args (P.nodes g) bottom)) v.ins) v.kind lo
        ++ nodes_settings keep hold args g bottom ((v.label, P.width v) ∷ known) (taken_by (S.takes g v.label) (first_port v.kind) v.ins taken) vs (lo + P.width v)

  -- graphs, so many levels down
  abbrev pub graph_settings : (levels : ℕ) → Settles
  graph_settings zero keep hold args g lo = []
  graph_settings (suc n) keep hold args g lo = nodes_settings (graph_settings n) keep hold args g lo [] [] (P.nodes g) lo

  abbrev pub function_settings : (levels function : ℕ) → List Setting
  function_settings n f = part_settings (graph_settings n) none_of none_of (cells_at 0 (P.params f)) f (P.params f) (result_modes P S f) []

  abbrev pub functions_settings : (levels : ℕ) → List ℕ → List Setting
  functions_settings n [] = []
  functions_settings n (f ∷ fs) = function_settings n f ++ functions_settings n fs

-- ---- by place

abbrev pub last_setting : Setting
last_setting = setting [] [] none_of none_of

abbrev pub handling_of : List Setting → (place : ℕ) → Handling
handling_of ss pc = record { modes = (get_or ss pc last_setting).modes; keeps = λ c. true; puts = (get_or ss pc last_setting).puts }

abbrev pub live_of : List Setting → Live
live_of ss pc = (get_or ss pc last_setting).lives

abbrev pub own_of : List Setting → Live
own_of ss pc = (get_or ss pc last_setting).owns
