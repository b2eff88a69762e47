-- Which unit a text gives (IF1 manual M-170, text form). Types may stand anywhere and the lines of one graph in any order;
-- a graph ends before the next one of its level.
use Rattle.std.specs.Prelude.{◌≡◌, ◌≤◌, ℕ, suc, ◌-◌, max, Bool, true, false, ◌&&◌, ◌==◌, List, [], ◌∷◌, ◌++◌, map, filter, length, Some}
use Rattle.if1_graph.specs.declared.line.Line.{Line}
use Rattle.if1_graph.specs.declared.line.Line.TheVariants as line
use Rattle.if1_graph.specs.TextLines.{lines_in}
use Rattle.if1_graph.specs.Reading.{line_of}
use Rattle.if1_graph.specs.declared.graph.Graph.{Graph}
use Rattle.if1_graph.specs.declared.graph.Graph.TheViews.{out-Graph}
use Rattle.if1_graph.specs.declared.graph.Node.{Node, out-Node}
use Rattle.if1_graph.specs.declared.graph.Edge.{Edge}
use Rattle.if1_graph.specs.declared.graph.Origin.{Origin}
use Rattle.if1_graph.specs.declared.graph.Origin.TheVariants.{Port, Lit}
use Rattle.if1_graph.specs.declared.graph.TypeEntry.{TypeEntry}
use Rattle.if1_graph.specs.declared.graph.Unit1.{Unit1}
use Rattle.if1_graph.specs.Units.{label_of, most_levels}
use Rattle.if1_graph.specs.Formed.{IsFormed}
use Rattle.if1_graph.specs.Normal.{IsNormal, canonical_edge}

-- ---- types

abbrev pub entries_in : List Line → List TypeEntry
entries_in [] = []
entries_in (line.Entry label code first second name ∷ ls) =
    record { label = label; code = code; first = first; second = second; name = name } ∷ entries_in ls
entries_in (_ ∷ ls) = entries_in ls

-- lines that say something of graphs
abbrev pub is_of_graph : Line → Bool
is_of_graph line.Blank = false
is_of_graph (line.Entry label code first second name) = false
is_of_graph _ = true

-- ---- graphs

-- the same nodes, by label, whatever their order
abbrev pub AreNodes : List Node → List Node → Type 0
AreNodes ms ns = (l : ℕ) → filter (λ n. label_of n == l) ms ≡ filter (λ n. label_of n == l) ns

abbrev pub into_port : ℕ → ℕ → List Edge → List Edge
into_port l port es = filter (λ e. (e.node == l) && (e.port == port)) es

-- the same edges by the port that they fill, with literals in canonical spelling; those that fill one port in their order
abbrev pub AreEdges : Unit1 → Graph → List Edge → List Edge → Type 0
AreEdges u g es fs = (l port : ℕ) → into_port l port es ≡ map (canonical_edge u g) (into_port l port fs)

-- a graph of the nodes and edges of its lines
pub record IsGraphOf (u : Unit1) (g : Graph) (ns : List Node) (es : List Edge) : Type 0 where
  pub nodes : AreNodes (out-Graph g).nodes ns
  pub edges : AreEdges u g (out-Graph g).edges es

pub record IsSimpleNode (n : Node) (label op : ℕ) (before name : List ℕ) : Type 0 where
  pub label_is : label_of n ≡ label
  pub op_is : (out-Node n).op ≡ op
  pub no_graphs : (out-Node n).subs ≡ []
  pub no_list : (out-Node n).assoc ≡ []
  pub before_is : (out-Node n).before ≡ before
  pub name_is : (out-Node n).name ≡ name

pub record IsCompoundNode (n : Node) (label op : ℕ) (gs : List Graph) (assoc before name : List ℕ) : Type 0 where
  pub label_is : label_of n ≡ label
  pub op_is : (out-Node n).op ≡ op
  pub graphs_are : (out-Node n).subs ≡ gs
  pub list_is : (out-Node n).assoc ≡ assoc
  pub before_is : (out-Node n).before ≡ before
  pub name_is : (out-Node n).name ≡ name

abbrev pub edge_of : Origin → ℕ → ℕ → ℕ → Bool → List ℕ → Edge
edge_of from node port ty takes name = record { from = from; node = node; port = port; ty = ty; takes = takes; name = name }

module _ (u : Unit1) where
  mutual
    -- the lines of a graph after its first, with the nodes and the edges that they give in their order
    pub data GivesBody : List Line → List Node → List Edge → Type 0 where
      no_line : GivesBody [] [] []
      simple : {ls : List Line} {ns : List Node} {es : List Edge} (n : Node) (label op : ℕ) (before name : List ℕ) →
          IsSimpleNode n label op before name → GivesBody ls ns es →
          GivesBody (line.Node label op before name ∷ ls) (n ∷ ns) es
      compound : {ps ls : List Line} {ns : List Node} {es : List Edge} (n : Node) (rest : List ℕ) (label op : ℕ) (gs : List Graph) (assoc before name : List ℕ) →
          IsCompoundNode n label op gs assoc before name → GivesParts ps gs → GivesBody ls ns es →
          GivesBody (line.Open rest ∷ ps ++ line.Close label op (length gs) assoc before name ∷ ls) (n ∷ ns) es
      edge : {ls : List Line} {ns : List Node} {es : List Edge} (from out node port ty : ℕ) (takes : Bool) (name : List ℕ) →
          GivesBody ls ns es →
          GivesBody (line.Edge from out node port ty takes name ∷ ls) ns (edge_of (Port from out) node port ty takes name ∷ es)
      literal : {ls : List Line} {ns : List Node} {es : List Edge} (node port ty : ℕ) (text name : List ℕ) →
          GivesBody ls ns es →
          GivesBody (line.Literal node port ty text name ∷ ls) ns (edge_of (Lit text) node port ty false name ∷ es)

    -- the graphs in a compound node
    pub data GivesParts : List Line → List Graph → Type 0 where
      no_part : GivesParts [] []
      part : {ls ps : List Line} {ns : List Node} {es : List Edge} {gs : List Graph} (g : Graph) →
          GivesBody ls ns es → IsGraphOf u g ns es → GivesParts ps gs →
          GivesParts (line.Subgraph (out-Graph g).name ∷ ls ++ ps) (g ∷ gs)

  -- the functions of the unit, and those of other units
  pub data GivesUnit : List Line → List (ℕ × List ℕ) → List Graph → Type 0 where
    no_graph : GivesUnit [] [] []
    import : {ls : List Line} {is : List (ℕ × List ℕ)} {gs : List Graph} (ty : ℕ) (name : List ℕ) →
        GivesUnit ls is gs → GivesUnit (line.Import ty name ∷ ls) ((ty, name) ∷ is) gs
    function : {bs ls : List Line} {ns : List Node} {es : List Edge} {is : List (ℕ × List ℕ)} {gs : List Graph} (g : Graph) →
        GivesBody bs ns es → IsGraphOf u g ns es → GivesUnit ls is gs →
        GivesUnit (line.Function (out-Graph g).exported (out-Graph g).fun (out-Graph g).name ∷ bs ++ ls) is (g ∷ gs)

-- the greatest number of compound nodes that are open at once, where some are open
abbrev pub deepest : ℕ → List Line → ℕ
deepest open_ones [] = open_ones
deepest open_ones (line.Open rest ∷ ls) = max open_ones (deepest (suc open_ones) ls)
deepest open_ones (line.Close label op count assoc before name ∷ ls) = max open_ones (deepest (open_ones - 1) ls)
deepest open_ones (_ ∷ ls) = deepest open_ones ls

-- the lines of a text give the unit
pub record LinesGive (ls : List Line) (u : Unit1) : Type 0 where
  pub types : (l : ℕ) → filter (λ e. e.label == l) u.types ≡ filter (λ e. e.label == l) (entries_in ls)
  pub graphs : GivesUnit u (filter is_of_graph ls) u.imports u.graphs
  pub nesting : deepest 0 ls ≤ most_levels
  pub formed : IsFormed u
  pub normal : IsNormal u

-- an accepted text, whose every line reads, and its unit
pub record ReadsIf1 (text : List ℕ) (u : Unit1) : Type 0 where
  pub lines : List Line
  pub read : map line_of (lines_in text) ≡ map (λ l. Some l) lines
  pub give : LinesGive lines u
