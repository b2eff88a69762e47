-- What the lines of graphs so far have given: the unit, and inside it open compound nodes, each inside the one before.
use Rattle.std.specs.Prelude.{◌≡◌, ℕ, suc, ◌≤◌, ◌<◌, max, Bool, true, map, List, [], ◌∷◌, ◌++◌, length, Option, Some, None, IsSome}
use Rattle.if1_graph.specs.declared.line.Line.{Line}
use Rattle.if1_graph.specs.declared.line.Line.TheVariants as line
use Rattle.if1_graph.specs.declared.graph.Graph.{Graph}
use Rattle.if1_graph.specs.declared.graph.Node.{Node, out-Node}
use Rattle.if1_graph.specs.declared.graph.Edge.{Edge}
use Rattle.if1_graph.specs.Formed.{most, IsOpcode}
use Rattle.if1_graph.specs.Units.{most_levels}
use Rattle.if1_graph.specs.Spelling.{IsSpelled}
use Rattle.if1_graph.specs.Reads.{deepest, is_of_graph}
use Rattle.if1_read.specs.declared.judge.Known.{Known}
use Rattle.if1_read.specs.declared.part.Part.{Part}
use Rattle.if1_read.specs.declared.level.Level.{Level}
use Rattle.if1_read.specs.declared.machine.Machine.{Machine}
use Rattle.if1_read.specs.Known.{IsClear}
use Rattle.if1_read.specs.Made.{nodes_of, edges_of, Ends, IsInner, IsOuter, IsBodyMade, ArePartsMade, AreFunctionsMade}

-- ---- one level

-- the unit, and a function whose lines are read
pub record UnitPart (k : Known) (is : List (ℕ × List ℕ)) (gs : List Graph) (p : Part) (done : List Line) : Type 0 where
  pub before : List Line
  pub inside : List Line
  pub lines : done ≡ before ++ (line.Function p.exported p.fun p.name ∷ inside)
  pub functions : AreFunctionsMade k 200 before is gs
  pub outer : IsOuter k p
  pub body : IsBodyMade k 200 inside (nodes_of p) (edges_of p)

abbrev pub UnitStands : Known → List (ℕ × List ℕ) → List Graph → Option Part → List Line → Type 0
UnitStands k is gs None done = AreFunctionsMade k 200 done is gs
UnitStands k is gs (Some p) done = UnitPart k is gs p done

-- an open compound node, and a graph of it whose lines are read, in which graphs may be so many levels deep
pub record InnerPart (k : Known) (m : ℕ) (gs : List Graph) (p : Part) (done : List Line) : Type 0 where
  pub before : List Line
  pub inside : List Line
  pub lines : done ≡ before ++ (line.Subgraph p.name ∷ inside)
  pub parts : ArePartsMade k (suc m) before gs
  pub inner : IsInner p
  pub body : IsBodyMade k m inside (nodes_of p) (edges_of p)

abbrev pub InnerStands : Known → ℕ → List Graph → Option Part → List Line → Type 0
InnerStands k m gs None done = ArePartsMade k (suc m) done gs
InnerStands k m gs (Some p) done = InnerPart k m gs p done

-- ---- one inside another

module _ (k : Known) where
  -- compound nodes from an open one to the innermost
  pub data StandsInside : ℕ → List Level → Level → List Line → Type 0 where
    innermost : (m : ℕ) (level : Level) (done : List Line) → InnerStands k m level.graphs level.part done → StandsInside m [] level done
    around : (m : ℕ) (l : Level) (ls : List Level) (level : Level) (before : List Line) (rest : List ℕ) (done : List Line) → IsSome l.part →
        InnerStands k (suc m) l.graphs l.part before → StandsInside m ls level done → StandsInside (suc m) (l ∷ ls) level (before ++ line.Open rest ∷ done)

  pub data Stands (is : List (ℕ × List ℕ)) : List Level → Level → List Line → Type 0 where
    unit : (level : Level) (done : List Line) → UnitStands k is level.graphs level.part done → Stands is [] level done
    inside : (l : Level) (ls : List Level) (level : Level) (before : List Line) (rest : List ℕ) (done : List Line) → IsSome l.part →
        UnitStands k is l.graphs l.part before → StandsInside 199 ls level done → Stands is (l ∷ ls) level (before ++ line.Open rest ∷ done)

-- the lines so far, of which none has a fault
pub record Runs (k : Known) (done : List Line) (m : Machine) : Type 0 where
  pub stands : Stands k m.imports m.outer.items m.level done
  pub depth : length m.outer.items ≤ most_levels
  pub deep : (rest : List Line) → deepest 0 (done ++ rest) ≤ max most_levels (deepest (length m.outer.items) rest)

-- a line without a fault leads on
abbrev pub GoesOn : Known → Machine → Line → Machine → Type 0
GoesOn k m l n = n.first ≡ None → (m.first ≡ None) × ((done : List Line) → Runs k done m → Runs k (done ++ l ∷ []) n)

-- lines without their numbers
abbrev pub lines_of : List (ℕ × Line) → List Line
lines_of ls = map (λ l. l.1) ls

-- a line of a graph that was read
pub record IsRead (l : Line) : Type 0 where
  pub of_graph : is_of_graph l ≡ true
  pub spelled : IsSpelled l

-- a graph of which no line is read
pub record IsNewPart (exported : Bool) (fun : ℕ) (name : List ℕ) (p : Part) : Type 0 where
  pub exported_is : p.exported ≡ exported
  pub fun_is : p.fun ≡ fun
  pub name_is : p.name ≡ name
  pub nodes : nodes_of p ≡ []
  pub edges : edges_of p ≡ []

-- ---- what a line does to a level

-- the graph whose lines are read gains nodes and edges
pub record Gains (before after : Level) (ns : List Node) (es : List Edge) : Type 0 where
  pub old : Part
  pub new : Part
  pub was : before.part ≡ Some old
  pub now : after.part ≡ Some new
  pub graphs : after.graphs ≡ before.graphs
  pub nodes : nodes_of new ≡ nodes_of old ++ ns
  pub edges : edges_of new ≡ edges_of old ++ es
  pub exported_is : new.exported ≡ old.exported
  pub fun_is : new.fun ≡ old.fun
  pub name_is : new.name ≡ old.name

pub record GainsNode (before after : Level) (n : Node) : Type 0 where
  pub gains : Gains before after (n ∷ []) []
  pub op : IsOpcode (out-Node n).op
  pub room : length (nodes_of gains.old) < most

pub record GainsEdge (k : Known) (before after : Level) (e : Edge) : Type 0 where
  pub gains : Gains before after [] (e ∷ [])
  pub clear : IsClear k.table e.ty

-- the graphs of a level where the last one has ended
abbrev pub LevelEnds : Known → List Graph → Option Part → List Graph → Type 0
LevelEnds k gs None hs = hs ≡ gs
LevelEnds k gs (Some p) hs = (g : Graph) × Ends k p g × (hs ≡ gs ++ g ∷ [])
