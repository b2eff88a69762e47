-- Plans in which nodes are as wide as what is brought to their outputs, and steps that are so.
use Rattle.std.specs.Prelude.{◌≡◌, ℕ, List, [], ◌∷◌, length, map, get_or}
use Rattle.if1_graph.specs.Rows.{row_of}
use Rattle.if1_graph.specs.declared.op.Simple.{Simple}
use Rattle.graph_meaning.specs.Demand.{EachNode, Kind, Plain, Vertex, Whole}
use Rattle.graph_meaning.specs.Entered.{IsIn}
use Rattle.graph_meaning.specs.Forms as form
use Rattle.graph_meaning.specs.Laws.{outputs_by}
use Rattle.graph_meaning.specs.NodeValues.{Shape}
use Rattle.run_code.specs.Cells.{Operand}
use Rattle.run_code.specs.Coded.{Places, operand}
use Rattle.run_code.specs.Collections.{AreWithin}
use Rattle.run_code.specs.Made.{Line, OfNode, Origin, Plan, function_lines}
use Rattle.run_code.specs.Steps.{Add, Branch, Call, Count, Each, Fire, Keep, Move, Return, Spread, Step, Tag, Test}
use Rattle.run_made.specs.Plans.{All}

module _ (P : Plan) (functions : List ℕ) where
  -- ---- nodes

  -- each of these graphs has so many results
  abbrev pub GiveAll : (many : ℕ) → List ℕ → Type 0
  GiveAll w gs = All (λ g. w ≡ length (P.results g)) gs

  -- what a loop collects are loop values, its body gives as many, and its returns gives the node's outputs
  abbrev pub IsLoopEven : Vertex → (init body returns : ℕ) → Type 0
  IsLoopEven v i b r = AreWithin (length (P.results i)) (P.collects r) × (length (P.results b) ≡ length (P.results i)) × (P.width v ≡ length (P.results (P.refolded r)))

  abbrev pub IsKindEven : Vertex → Kind → Type 0
  IsKindEven v (Plain row shape) = outputs_by (row_of row).gives shape ≡ P.width v
  IsKindEven v (Whole (form.Call f)) = IsIn f functions × (P.width v ≡ length (P.results f))
  IsKindEven v (Whole (form.Select s gs n)) = GiveAll (P.width v) gs
  IsKindEven v (Whole (form.TagCase gs n)) = GiveAll (P.width v) gs
  IsKindEven v (Whole (form.LoopA i t b r n)) = IsLoopEven v i b r
  IsKindEven v (Whole (form.LoopB i t b r n)) = IsLoopEven v i b r
  IsKindEven v (Whole (form.ForAll e b r m n)) = AreWithin (length (P.results b)) (P.collects r) × (P.width v ≡ length (P.results (P.refolded r)))

  abbrev pub IsEven : Type 0
  IsEven = (g : ℕ) → EachNode (λ v. IsKindEven v v.kind) (P.nodes g)

  -- ---- steps

  -- a simple node is fired on what fills its ports
  abbrev pub IsFiredFor : Origin → Simple → Shape → List Operand → (width : ℕ) → Type 0
  IsFiredFor (OfNode g v) row shape ins w = (places : Places) × (v.kind ≡ Plain row shape) × (w ≡ P.width v) × (ins ≡ map (operand places) v.ins)
  IsFiredFor o row shape ins w = ⊥

  abbrev pub IsCalledFor : Origin → (entry width : ℕ) → Type 0
  IsCalledFor (OfNode g v) entry w = (f : ℕ) × IsIn f functions × (v.kind ≡ Whole (form.Call f)) × (entry ≡ P.entry f) × (w ≡ P.width v)
  IsCalledFor o entry w = ⊥

  -- in a function with so many results
  abbrev pub IsStepEven : (results : ℕ) → Origin → Step → Type 0
  IsStepEven n o (Fire row shape ins out w) = IsFiredFor o row shape ins w
  IsStepEven n o Count = Unit {0}
  IsStepEven n o (Move froms out w next) = w ≡ length froms
  IsStepEven n o (Tag union ts content out w next) = Unit {0}
  IsStepEven n o (Branch sel ts out w next) = Unit {0}
  IsStepEven n o (Test test turn leave out w next) = Unit {0}
  IsStepEven n o (Keep begins cs froms out next) = AreWithin (length froms) cs
  IsStepEven n o (Spread froms cs to turns out w next) = Unit {0}
  IsStepEven n o (Each m from count turn leave) = Unit {0}
  IsStepEven n o (Add cs froms out next) = AreWithin (length froms) cs
  IsStepEven n o (Call entry size args out w) = IsCalledFor o entry w
  IsStepEven n o (Return froms) = length froms ≡ n

  abbrev pub AllEven : (results : ℕ) → List Line → Type 0
  AllEven n [] = Unit {0}
  AllEven n (l ∷ ls) = IsStepEven n l.origin l.step × AllEven n ls

-- the steps of each function are so
abbrev pub AreLinesEven : Type 0
AreLinesEven = (P : Plan) (functions : List ℕ) → IsEven P functions → (levels f place : ℕ) → AllEven P functions (length (P.results f)) (function_lines P levels f place)
