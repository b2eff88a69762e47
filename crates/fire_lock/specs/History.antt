-- Histories: their entries, whose they are, and the machines that they lead to.
use Rattle.std.specs.Prelude.{◌≡◌, ℕ, ◌&&◌, Bool, cond, leb, ltb, List, [], ◌∷◌, ◌++◌, length, filter}
use Rattle.fire_lock.specs.declared.entry.Entry.{Entry}

-- the number is one of those from a up to and without b
abbrev pub inside : ℕ → ℕ → ℕ → Bool
inside a b n = leb a n && ltb n b

abbrev pub longer : {X : Type 0} → List X → List X → List X
longer xs ys = cond (ltb (length xs) (length ys)) ys xs

module _ {E R : Type 0} where
  abbrev pub entry : ℕ → E → R → Entry E R
  entry n e r = record { number = n; event = e; reply = r }

  -- the entries with the numbers from a up to and without b, in their order
  abbrev pub own : ℕ → ℕ → List (Entry E R) → List (Entry E R)
  own a b log = filter (λ e. inside a b e.number) log

  -- the second history is the first, and then entries of which none has a number from a up to b
  abbrev pub Continues : ℕ → ℕ → List (Entry E R) → List (Entry E R) → Type 0
  Continues a b before after = (rest : List (Entry E R)) × (before ++ rest ≡ after) × (own a b rest ≡ [])

-- the entries, one after another, lead from the machine m to n
module _ {M E R : Type 0} (plays : M → ℕ → E → R → M → Type 0) where
  abbrev pub Reached : M → List (Entry E R) → M → Type 0
  Reached m [] n = m ≡ n
  Reached m (e ∷ es) n = (k : M) × plays m e.number e.event e.reply k × Reached k es n
