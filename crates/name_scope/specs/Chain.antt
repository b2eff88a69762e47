-- How the definitions are kept: each with the place of the one that it hides.
use Rattle.std.specs.Prelude.{◌≡◌, ℕ, List, [], ◌∷◌, ◌<◌, All, length, map, reverse, Option, Some, None, nat_eq, if◌then◌else◌, get_or}
use Rattle.name_scope.specs.declared.Entry.{Entry}

abbrev pub definitions : {T : Type 0} → List (Entry T) → List (ℕ × T)
definitions es = map (λ e. (e.name, e.value)) (reverse es)

-- the place, from the oldest, of the newest entry of a name, of entries with the newest first
abbrev pub place_of : {T : Type 0} → ℕ → List (Entry T) → Option ℕ
place_of x [] = None
place_of x (e ∷ es) = if nat_eq x e.name then Some (length es) else place_of x es

-- each entry has the place of the one that it hides
abbrev pub IsChained : {T : Type 0} → List (Entry T) → Type 0
IsChained [] = Unit {0}
IsChained (e ∷ es) = (e.hidden ≡ place_of e.name es) × IsChained es

-- the places of the newest entries are those of the chain
pub record IsIndexed {T : Type 0} (es : List (Entry T)) (places : List (Option ℕ)) : Type 0 where
  pub chained : IsChained (reverse es)
  pub fits : All (λ e. e.name < length places) (reverse es)
  pub placed : (x : ℕ) → get_or places x None ≡ place_of x (reverse es)
