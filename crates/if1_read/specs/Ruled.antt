-- Rules that say what is at fault of types, of functions of other units, and of literals.
use Rattle.std.specs.Prelude.{◌≡◌, ℕ, List, Option, Some, None}
use Rattle.if1_graph.specs.declared.graph.TypeEntry.{TypeEntry}
use Rattle.if1_graph.specs.Kinds.{kind_at, basic_at}
use Rattle.if1_graph.specs.Types.{entry_at}
use Rattle.if1_graph.specs.Formed.{IsType, HasReal}
use Rattle.if1_read.specs.declared.fault.Kind.{Kind}
use Rattle.if1_read.specs.declared.fault.Kind.TheVariants.{Unknown, Real}
use Rattle.if1_read.specs.Faults.{want_of, literal_fault}
use Rattle.if1_read.specs.Pages.{Lit, Rules}

-- a type is not there, holds reals, or neither
abbrev pub TypeSays : List TypeEntry → ℕ → Option Kind → Type 0
TypeSays ts ty None = IsType ts ty × (¬ HasReal ts ty)
TypeSays ts ty (Some Unknown) = ¬ IsType ts ty
TypeSays ts ty (Some Real) = HasReal ts ty
TypeSays ts ty _ = ⊥

abbrev pub ImportSays : List TypeEntry → ℕ → Option Kind → Type 0
ImportSays ts ty None = IsType ts ty
ImportSays ts ty (Some Unknown) = ¬ IsType ts ty
ImportSays ts ty _ = ⊥

-- a literal of a type that is there and holds no reals, by the nodes of its graph
pub record IsLitWrong (ts : List TypeEntry) (names : List (List ℕ)) (ns : List (ℕ × ℕ)) (l : Lit) (k : Kind) : Type 0 where
  pub entry : TypeEntry
  pub found : entry_at ts l.ty ≡ Some entry
  pub free : ¬ HasReal ts l.ty
  pub wrong : literal_fault names (want_of ns l.node l.port) l.text (kind_at entry.code) (basic_at entry.first) ≡ Some k

-- by a table of types and the names of the functions
pub record AreRules (ts : List TypeEntry) (names : List (List ℕ)) (r : Rules) : Type 0 where
  pub on_types : (ty : ℕ) → TypeSays ts ty (r.type_wrong ty)
  pub on_imports : (ty : ℕ) → ImportSays ts ty (r.import_wrong ty)
  pub lits : (ns : List (ℕ × ℕ)) (l : Lit) (k : Kind) → r.lit_wrong ns l ≡ Some k → IsLitWrong ts names ns l k
  pub lits_all : (ns : List (ℕ × ℕ)) (l : Lit) (k : Kind) → IsLitWrong ts names ns l k → r.lit_wrong ns l ≡ Some k
