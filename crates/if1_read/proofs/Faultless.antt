-- Lines of graphs without a fault, with the numbers before and behind them.
use Rattle.std.proofs.Common.{◌≡◌, ℕ, suc, ◌<◌, ◌≤◌, List, [], ◌∷◌, ◌++◌, map, length, Option, Some, None}
use Rattle.std.specs.Prelude.{Bool, All}
use Rattle.if1_graph.specs.declared.line.Line.{Line}
use Rattle.if1_graph.specs.declared.line.Line.TheVariants as line
use Rattle.if1_graph.specs.declared.graph.TypeEntry.{TypeEntry}
use Rattle.if1_graph.specs.Kinds.{kind_at, basic_at}
use Rattle.if1_graph.specs.Types.{entry_at}
use Rattle.if1_graph.specs.Formed.{IsType, HasReal, IsOpcode, IsOnce, most}
use Rattle.if1_read.specs.Faults.{want_of, literal_fault}
use Rattle.if1_read.specs.Pages.{Lit}
use Rattle.if1_read.proofs.Walking.{Lined}

-- a type that is there and holds no reals
pub record Bears (ts : List TypeEntry) (ty : ℕ) : Type 0 where
  pub there : IsType ts ty
  pub free : ¬ HasReal ts ty

abbrev pub IsLitRight : List TypeEntry → List (List ℕ) → List (ℕ × ℕ) → Lit → Type 0
IsLitRight ts names ns l =
    (e : TypeEntry) → entry_at ts l.ty ≡ Some e → literal_fault names (want_of ns l.node l.port) l.text (kind_at e.code) (basic_at e.first) ≡ None

-- the nodes and the literals of a graph
pub record IsGraphRight (ts : List TypeEntry) (names : List (List ℕ)) (ns : List (ℕ × ℕ)) (es : List Lit) : Type 0 where
  pub once : IsOnce (map (λ n. n.0) ns)
  pub few : length ns ≤ most
  pub lits : All (IsLitRight ts names ns) es

module _ (ts : List TypeEntry) (names : List (List ℕ)) where
  mutual
    -- the lines of a graph after its first, with its nodes and literals
    pub data IsBody : ℕ → List Lined → ℕ → List (ℕ × ℕ) → List Lit → Type 0 where
      no_line : (lo : ℕ) → IsBody lo [] lo [] []
      simple : {hi : ℕ} {ls : List Lined} {ns : List (ℕ × ℕ)} {es : List Lit} (lo k label op : ℕ) (before name : List ℕ) → lo < k → IsOpcode op →
          IsBody k ls hi ns es → IsBody lo ((k, line.Node label op before name) ∷ ls) hi ((label, op) ∷ ns) es
      compound : {mid count hi : ℕ} {ps ls : List Lined} {ns : List (ℕ × ℕ)} {es : List Lit} (lo k j : ℕ) (rest : List ℕ) (label op : ℕ) (assoc before name : List ℕ) →
          lo < k → IsOpcode op → AreParts k ps mid count → mid < j → IsBody j ls hi ns es →
          IsBody lo ((k, line.Open rest) ∷ ps ++ (j, line.Close label op count assoc before name) ∷ ls) hi ((label, op) ∷ ns) es
      edge : {hi : ℕ} {ls : List Lined} {ns : List (ℕ × ℕ)} {es : List Lit} (lo k from out node port ty : ℕ) (takes : Bool) (name : List ℕ) → lo < k → Bears ts ty →
          IsBody k ls hi ns es → IsBody lo ((k, line.Edge from out node port ty takes name) ∷ ls) hi ns es
      literal : {hi : ℕ} {ls : List Lined} {ns : List (ℕ × ℕ)} {es : List Lit} (lo k node port ty : ℕ) (text name : List ℕ) → lo < k → Bears ts ty →
          IsBody k ls hi ns es →
          IsBody lo ((k, line.Literal node port ty text name) ∷ ls) hi ns (record { node = node; port = port; ty = ty; text = text } ∷ es)

    -- the graphs in a compound node, which are so many
    pub data AreParts : ℕ → List Lined → ℕ → ℕ → Type 0 where
      no_part : (lo : ℕ) → AreParts lo [] lo 0
      part : {mid hi count : ℕ} {ls ps : List Lined} {ns : List (ℕ × ℕ)} {es : List Lit} (lo k : ℕ) (name : List ℕ) → lo < k →
          IsBody k ls mid ns es → IsGraphRight ts names ns es → AreParts mid ps hi count →
          AreParts lo ((k, line.Subgraph name) ∷ ls ++ ps) hi (suc count)

  -- the functions, with their names, and those of other units
  pub data AreFunctions : ℕ → List Lined → ℕ → List (List ℕ) → Type 0 where
    no_function : (lo : ℕ) → AreFunctions lo [] lo []
    import : {hi : ℕ} {ls : List Lined} {fs : List (List ℕ)} (lo k ty : ℕ) (name : List ℕ) → lo < k → IsType ts ty → AreFunctions k ls hi fs →
        AreFunctions lo ((k, line.Import ty name) ∷ ls) hi fs
    function : {mid hi : ℕ} {bs ls : List Lined} {ns : List (ℕ × ℕ)} {es : List Lit} {fs : List (List ℕ)} (lo k : ℕ) (exported : Bool) (fun : ℕ) (name : List ℕ) → lo < k →
        Bears ts fun → IsBody k bs mid ns es → IsGraphRight ts names ns es → AreFunctions mid ls hi fs →
        AreFunctions lo ((k, line.Function exported fun name) ∷ bs ++ ls) hi (name ∷ fs)
