use Rattle.std.proofs.Common.{◌≡◌, ◌||◌, List, ℕ, drop, bytes_eq}
use Rattle.std.specs.List.{list_any}
use Rattle.unit_entry.specs.Entries.{is_imported}
use Rattle.unit_entry.proofs.lacking.imported.Given as goal

-- the names so far and those that are left are all names
abbrev pub invariant-loop-import : goal.invariant-loop-import
invariant-loop-import l = (t : List ℕ) → (list_any (λ n. bytes_eq n t) l.names || is_imported (drop l.import-index l.imports) t) ≡ is_imported l.imports t
