-- The number of a line, by what is known of its parts.
use Rattle.std.specs.Prelude.{◌≡◌, ◌≢◌, ℕ, suc, ◌+◌, ◌≤◌, ◌<◌, ◌⊎◌, List, Option, length}
use Rattle.if1_graph.specs.declared.graph.TypeEntry.{TypeEntry}
use Rattle.if1_graph.specs.declared.kind.TypeKind.{TypeKind}
use Rattle.if1_graph.specs.Types.{most_deep}
use Rattle.if1_types.specs.declared.found.Part.{Part}
use Rattle.if1_types.specs.declared.found.Found.{Found}
use Rattle.if1_types.specs.Trees.{Tree, leaf, node}
use Rattle.if1_types.specs.Shapes.{Key, trees_in, tree_at, IsLater, Stands}
use Rattle.if1_types.specs.Finds.{nothing, line_tree, unknown_in, IsRight, AreRight, IsShut, IsStuck}

-- nothing is known, and no tree is new
pub record IsNothing (old new : List Key) (y : Part) : Type 0 where
  pub is : y ≡ nothing
  pub same : new ≡ old

pub record Has (trees : List Tree) (y : Part) (t : Tree) (deep : ℕ) : Type 0 where
  pub stands : Stands trees y.number t
  pub depth : y.depth ≡ deep

abbrev pub IsScalar : List Key → List Key → Tree → Part → Type 0
IsScalar old new t y = ((t ≡ leaf) × IsNothing old new y) ⊎ ((t ≢ leaf) × Has (trees_in new) y t 1)

pub record IsOverPart (old new : List Key) (k : ℕ) (x y : Part) : Type 0 where
  pub some : x.number ≢ 0
  pub less : x.depth < most_deep
  pub has : Has (trees_in new) y (node k (tree_at (trees_in old) x.number) leaf) (suc x.depth)

-- a type over one part
abbrev pub IsOver : List Key → List Key → ℕ → Part → Part → Type 0
IsOver old new k x y = (IsShut x × IsNothing old new y) ⊎ IsOverPart old new k x y

pub record IsBefore (old new : List Key) (x rest y : Part) : Type 0 where
  pub first : x.number ≢ 0
  pub second : rest.number ≢ 0
  pub stands : Stands (trees_in new) y.number (node 9 (tree_at (trees_in old) x.number) (tree_at (trees_in old) rest.number))
  pub deeper : x.depth ≤ y.depth
  pub deep : rest.depth ≤ y.depth
  pub one : (y.depth ≡ x.depth) ⊎ (y.depth ≡ rest.depth)

-- a member before the rest of a list
abbrev pub IsMember : List Key → List Key → Part → Part → Part → Type 0
IsMember old new x rest y = (((x.number ≡ 0) ⊎ (rest.number ≡ 0)) × IsNothing old new y) ⊎ IsBefore old new x rest y

-- what is known of a line of this kind then
pub record IsNew (new : List Key) (ts : List TypeEntry) (e : TypeEntry) (k : Option TypeKind) (y : Part) : Type 0 where
  pub some : y.number ≢ 0
  pub right : IsRight (trees_in new) (line_tree ts e k) y

abbrev pub IsStep : List Key → List Key → List TypeEntry → Found → TypeEntry → Option TypeKind → Part → Type 0
IsStep old new ts found e k y = (IsStuck (trees_in old) ts found e k × IsNothing old new y) ⊎ IsNew new ts e k y

-- more lines have numbers, and no more trees are new than lines have new numbers
pub record Grows (ts : List TypeEntry) (old new : List Key) (before after : Found) : Type 0 where
  pub later : IsLater (trees_in old) (trees_in new)
  pub right : AreRight (trees_in new) ts after
  pub few : length (trees_in new) + unknown_in after.parts ≤ length (trees_in old) + unknown_in before.parts
