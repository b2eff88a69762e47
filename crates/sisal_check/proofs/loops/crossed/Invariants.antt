use Rattle.std.proofs.Common.{◌≡◌, ◌≤◌, ℕ, List, length, map}
use Rattle.type_table.specs.declared.form.Form.{Form}
use Rattle.typed_tree.specs.declared.expr.TypedExpr.{TypedExpr}
use Rattle.typing_laws.specs.Judged.{IsUsedIn}
use Rattle.breaking_laws.specs.Parts.{BrokenMade}
use Rattle.sisal_check.specs.Walked.{given_of, group_of, CrossesAll}
use Rattle.sisal_check.proofs.loops.crossed.Given as goal

-- what is so of the groups that are left, around the loop so far, is so of all
abbrev pub invariant-loop-group : goal.invariant-loop-group
invariant-loop-group l = record {
  used : IsUsedIn (given_of l.given) l.fn.walk.types l.walk.types;
  names : l.walk.names ≡ l.fn.walk.names;
  line : l.fn.inner.line ≡ l.line → l.made.line ≡ l.line;
  some : 1 ≤ length l.cs → 1 ≤ length l.fn.inner.types → 1 ≤ length l.made.types;
  crossed : (f : List Form) (t : TypedExpr) → CrossesAll (given_of l.given) l.walk.types f l.line l.cs (map group_of l.goes) l.made t
      → CrossesAll (given_of l.given) l.fn.walk.types f l.line l.cs (map group_of l.fn.goes) l.fn.inner t;
  breaks : (rule line : ℕ) → BrokenMade (given_of l.given) l.walk.types (length l.goes) l.line l.cs l.made.types rule line
      → BrokenMade (given_of l.given) l.fn.walk.types (length l.fn.goes) l.line l.cs l.fn.inner.types rule line;
}

abbrev pub decreases-loop-group : goal.decreases-loop-group
decreases-loop-group l = length l.goes
