-- What a typed unit's program meets: names are bound, literals are spelled, types stand in place, and no function is named twice.
use Rattle.std.specs.Prelude.{◌≡◌, ◌≤◌, ◌⊎◌, ℕ, List, All, Some, slice_get, length}
use Rattle.if1_graph.specs.Spelling.{IsName, IsQuotable}
use Rattle.bound_trees.specs.Depths.{AreWithin}
use Rattle.type_table.specs.declared.form.Form.{Form}
use Rattle.type_table.specs.declared.form.Form.TheVariants.{Record, Union}
use Rattle.type_table.specs.declared.form.Member.{Member}
use Rattle.type_table.specs.Tables.{IsTable}
use Rattle.typed_tree.specs.declared.program.Function.{Function}
use Rattle.typed_tree.specs.declared.program.Program.{Program}
use Rattle.fitting_trees.specs.Fitting.{Header, IsFittingTree}

-- the function of a place has this name
pub record HasName (p : Program) (place : ℕ) (name : List ℕ) : Type 0 where
  pub function : Function
  pub there : slice_get p.functions place ≡ Some function
  pub spelled : slice_get p.names function.name ≡ Some name

-- each record of a table of types has a field, and each union a tag
abbrev pub HaveMembers : List Form → Type 0
HaveMembers forms = (t : ℕ) (ms : List Member) → (slice_get forms t ≡ Some (Record ms)) ⊎ (slice_get forms t ≡ Some (Union ms)) → 1 ≤ length ms

pub record IsFitting (p : Program) : Type 0 where
  -- the types of the parameters and results of its functions
  pub headers : List Header
  pub tree : IsFittingTree p.types p.names headers p.functions
  pub types : IsTable p.types
  -- each function has a result
  pub results : All (λ f. 1 ≤ length f.results) p.functions
  -- expressions nest at most 200 deep, as those of a text do (LANGUAGE.md, grammar)
  pub shallow : All (λ f. AreWithin 200 f.body) p.functions
  -- names are spelled by characters that stand in a text
  pub visible : All IsName p.names
  pub quotable : All IsQuotable p.names
  -- each function has a name, and no two the same
  pub named : All (λ f. (name : List ℕ) × (slice_get p.names f.name ≡ Some name)) p.functions
  pub once : (i j : ℕ) (name : List ℕ) → HasName p i name → HasName p j name → i ≡ j
