-- What a name means where these definitions are in force: SISAL Language Reference Manual 1.2, scope.
use Rattle.std.specs.Prelude.{ℕ, List, [], ◌∷◌, Option, Some, None, nat_eq, if◌then◌else◌}

-- the value of the newest definition of a name, of definitions with the newest first
abbrev pub newest : {T : Type 0} → ℕ → List (ℕ × T) → Option T
newest x [] = None
newest x (d ∷ ds) = if nat_eq x d.0 then Some d.1 else newest x ds
