-- Labels of types that were found before.
use Rattle.std.specs.Prelude.{◌≡◌, ℕ, ◌&&◌, nat_eq, List, Option, Some}
use Rattle.indexmap.specs.IndexMap.{get_by}
use Rattle.type_table.specs.declared.form.Form.{Form}
use Rattle.lowering.specs.Types.{Table, labelled, label_within}
use Rattle.type_labels.specs.declared.known.Known.{Known}

-- the label that is kept for a type that is at most so deep
abbrev pub known_at : Known → ℕ → ℕ → Option ℕ
known_at k depth ty = get_by (λ q. nat_eq depth q.0 && nat_eq ty q.1) k.map

-- what is kept are the labels in this table, which has all their entries
pub record AreKnown (forms : List Form) (names : List (List ℕ)) (k : Known) (ts : Table) : Type 0 where
  pub stand : (depth ty l : ℕ) → known_at k depth ty ≡ Some l → label_within forms names depth ty ts ≡ labelled l ts
