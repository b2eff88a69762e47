-- What the parser keeps, and why it refuses.
use Rattle.std.specs.Prelude.{◌≡◌, ◌≢◌, ℕ, ◌<◌, ◌≤◌, ◌+◌, List, [], ◌∷◌, ◌++◌, Option, Some, None, length, take}
use Rattle.pushdown.specs.declared.Symbol.{Symbol}
use Rattle.pushdown.specs.declared.Symbol.TheVariants.{Want, Rule}
use Rattle.pushdown.specs.declared.Step.{Step}
use Rattle.pushdown.specs.declared.Step.TheVariants.{Read, Open}
use Rattle.pushdown.specs.Grammar.{Grammar, Derives}
use Rattle.pushdown.specs.declared.Refusal.{Refusal}
use Rattle.pushdown.specs.declared.Refusal.TheVariants.{Syntax, NoMemory}
use Rattle.pushdown.specs.Table.{Table, look, Proper, IsEnd}

-- By the steps ps, taken where a token of class a comes next, the symbols old became new: what new
-- derives, old does by these steps and its own; and whatever old derives that begins with a token of
-- this class, new does.
pub record Opens (g : Grammar) (t : Table) (a : ℕ) (old : List Symbol) (ps : List Step) (new : List Symbol) : Type 0 where
  pub proper : Proper t IsEnd new
  pub sound : (cs : List ℕ) (qs : List Step) → Derives g new cs qs → Derives g old cs (ps ++ qs)
  pub only : (cs : List ℕ) (rs : List Step) → look cs ≡ a → Derives g old cs rs
      → (qs : List Step) × Derives g new cs qs

-- No rule that can be replaced is on top.
abbrev pub IsSettled : Table → ℕ → List Symbol → Type 0
IsSettled t a [] = Unit {0}
IsSettled t a (Want c ∷ s) = Unit {0}
IsSettled t a (Rule n ∷ s) = t.choose n a ≡ None

-- What is on top of settled symbols reads no token of this class.
abbrev pub IsStuck : ℕ → List Symbol → Type 0
IsStuck a [] = Unit {0}
IsStuck a (Want c ∷ s) = a ≢ c
IsStuck a (Rule n ∷ s) = Unit {0}

-- After these tokens, read by the steps ps, the symbols wanted are what is left of start.
pub record Wants (g : Grammar) (t : Table) (start : List Symbol) (tokens : List ℕ) (ps : List Step) (wanted : List Symbol) : Type 0 where
  pub proper : Proper t IsEnd wanted
  pub sound : (cs : List ℕ) (qs : List Step) → Derives g wanted cs qs → Derives g start (tokens ++ cs) (ps ++ qs)
  pub only : (cs : List ℕ) (rs : List Step) → Derives g start (tokens ++ cs) rs
      → (qs : List Step) × Derives g wanted cs qs

-- The token at k is the first that no text has there: some text begins with the tokens before it,
-- and none with those up to it. Where k is the number of tokens, they begin a text and are none.
pub record FirstBad (g : Grammar) (start : List Symbol) (tokens : List ℕ) (k : ℕ) : Type 0 where
  pub within : k ≤ length tokens
  pub before : (cs : List ℕ) × (ps : List Step) × Derives g start (take k tokens ++ cs) ps
  pub after : k < length tokens → (cs : List ℕ) (ps : List Step) → Derives g start (take (k + 1) tokens ++ cs) ps → ⊥
  pub whole : (ps : List Step) → Derives g start tokens ps → ⊥

-- when tokens are refused
abbrev pub IsCause : Grammar → List Symbol → List ℕ → Refusal → Type 0
IsCause g start tokens (Syntax k) = FirstBad g start tokens k
IsCause g start tokens NoMemory = Unit {0}
