-- How the types are kept: each with its depth under its key, and the places of members by type and name.
use Rattle.std.specs.Prelude.{◌≡◌, ℕ, Bool, ◌&&◌, List, map, nat_eq, slice_get, Option, Some, None, IfSome, if◌then◌else◌}
use Rattle.std.specs.HashMap.{HashMap, get}
use Rattle.std.specs.Map.{keys_of}
use Rattle.type_table.specs.declared.form.Form.{Form}
use Rattle.type_table.specs.declared.form.Member.{Member}
use Rattle.type_table.specs.declared.store.Known.{Known}
use Rattle.type_table.specs.Tables.{depths, member_at, IsWell}
use Rattle.type_table.specs.Keys.{key_of}

abbrev pub forms_in : {K : Type 0} → List (K × Known) → List Form
forms_in es = map (λ e. e.1.form) es

abbrev pub pair_eq : ℕ × ℕ → ℕ × ℕ → Bool
pair_eq a b = nat_eq a.0 b.0 && nat_eq a.1 b.1

-- the place that is noted for a name in a type
abbrev pub place_of : {S : Type 0} → HashMap (ℕ × ℕ) ℕ S → ℕ → ℕ → Option ℕ
place_of m ty name = get pair_eq m (ty, name)

-- the place and the type of the member at a place, where it has the name
abbrev pub named_at : List Member → ℕ → ℕ → Option (ℕ × ℕ)
named_at ms p name = elim (slice_get ms p) [ None ↦ None | Some m ↦ if nat_eq m.name name then Some (p, m.ty) else None ]

pub record IsKept {K S : Type 0} (numbers : K → List ℕ) (es : List (K × Known)) (places : HashMap (ℕ × ℕ) ℕ S) : Type 0 where
  pub keyed : map numbers (keys_of es) ≡ map key_of (forms_in es)
  pub deep : map (λ e. e.1.depth) es ≡ depths (forms_in es)
  pub placed : (k name : ℕ) → IfSome (member_at (forms_in es) k name) (λ m. place_of places k name ≡ Some m.0)
  pub well : IsWell (forms_in es)
