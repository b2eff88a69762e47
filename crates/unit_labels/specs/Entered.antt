-- A table in which whatever was met stands, within the limit.
use Rattle.std.specs.Prelude.{◌≡◌, ◌≤◌, ℕ, suc, List, [], ◌∷◌, map, length, Option, All}
use Rattle.typed_tree.specs.declared.program.Function.{Function}
use Rattle.typed_tree.specs.declared.program.Program.{Program}
use Rattle.lowering.specs.declared.feed.Carried.{Carried}
use Rattle.lowering.specs.declared.feed.Carried.TheVariants.{Callee}
use Rattle.lowering.specs.Types.{Table, basics, labelled, carried_label, with_types, with_needs}
use Rattle.lowering.specs.TooMany.{most_types, types_over}
use Rattle.line_types.specs.Traces.{body_need, traced_needs}
use Rattle.line_labels.specs.declared.labels.Labels.{Labels}
use Rattle.line_labels.specs.Labels.{label_in, AreKept}

-- of what the lines of a program carry, so far
pub record AreEntered (p : Program) (l : Labels) : Type 0 where
  pub kept : AreKept p.types p.names p.functions l
  pub table : l.table ≡ with_types p.types p.names p.functions l.needs basics
  pub labels : All (λ c. carried_label p.types p.names p.functions c l.table ≡ labelled (label_in l c) l.table) l.needs
  pub few : length l.table ≤ most_types

-- the names of functions, the first of which stands at this place
abbrev pub callees : ℕ → List Function → List Carried
callees place [] = []
callees place (f ∷ fs) = Callee place ∷ callees (suc place) fs

-- what is left to be entered behind the headers: what the lines of all functions carry
unfoldable pub with_bodies : Program → Table → Table
with_bodies p ts = with_needs (map (body_need p) p.functions) ts

unfoldable pub bodies_over : Program → Table → Option ℕ
bodies_over p ts = types_over (map (body_need p) p.functions) ts

-- and with the headers
unfoldable pub with_all : Program → Table → Table
with_all p ts = with_needs (traced_needs p) ts

unfoldable pub all_over : Program → Table → Option ℕ
all_over p ts = types_over (traced_needs p) ts
