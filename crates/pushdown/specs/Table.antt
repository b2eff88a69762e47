-- A table of choices for a grammar, and when it is right.
use Rattle.std.specs.Prelude.{◌≡◌, ℕ, ◌<◌, ◌≤◌, ◌+◌, List, [], ◌∷◌, ◌++◌, Option, Some, None, IsSome, IsTrue, Bool, true, false, cond, ◌&&◌}
use Rattle.pushdown.specs.declared.Symbol.{Symbol}
use Rattle.pushdown.specs.declared.Symbol.TheVariants.{Want, Rule}
use Rattle.pushdown.specs.Grammar.{Grammar}

-- choose: the production of a rule where a token of a class comes next, class 0 being the end;
-- follow: whether a class may come after a rule;
-- best, rank: a production of the rule that has rules of lower rank alone, so that each rule ends;
-- weight, empty: a weight for the rules that are replaced before a token is read, and whether a rule
-- may stand for no token, so that rules are replaced finitely often.
pub record Table : Type 0 where
  pub rules : ℕ
  pub choose : ℕ → ℕ → Option ℕ
  pub follow : ℕ → ℕ → Bool
  pub best : ℕ → ℕ
  pub rank : ℕ → ℕ
  pub weight : ℕ → ℕ
  pub empty : ℕ → Bool

-- the class of the next token, 0 at the end
abbrev pub look : List ℕ → ℕ
look [] = 0
look (c ∷ cs) = c

-- The table lets a token of this class come first in these symbols, where E tells what may come
-- after them.
abbrev pub Next : Table → (ℕ → Type 0) → List Symbol → ℕ → Type 0
Next t E [] a = E a
Next t E (Want c ∷ s) a = a ≡ c
Next t E (Rule n ∷ s) a = IsSome (t.choose n a)

-- Whatever may come after a rule among these symbols is in its row of follow.
abbrev pub Proper : Table → (ℕ → Type 0) → List Symbol → Type 0
Proper t E [] = Unit {0}
Proper t E (Want c ∷ s) = Proper t E s
Proper t E (Rule n ∷ s) = (n < t.rules) × ((a : ℕ) → Next t E s a → IsTrue (t.follow n a)) × Proper t E s

-- what may come after a rule
abbrev pub Follows : Table → ℕ → ℕ → Type 0
Follows t n a = IsTrue (t.follow n a)

-- only the end may come
abbrev pub IsEnd : ℕ → Type 0
IsEnd a = a ≡ 0

-- Each rule among these symbols has a rank below k.
abbrev pub Below : Table → ℕ → List Symbol → Type 0
Below t k [] = Unit {0}
Below t k (Want c ∷ s) = Below t k s
Below t k (Rule n ∷ s) = (t.rank n < k) × Below t k s

-- the weight of the rules up to the first that cannot be empty
abbrev pub lead : Table → List Symbol → ℕ
lead t [] = 0
lead t (Want c ∷ s) = 0
lead t (Rule n ∷ s) = t.weight n + cond (t.empty n) (lead t s) 0

-- whether these symbols may stand for no token
abbrev pub vanish : Table → List Symbol → Bool
vanish t [] = true
vanish t (Want c ∷ s) = false
vanish t (Rule n ∷ s) = t.empty n && vanish t s

-- The table is right for the grammar, which is then LL(1) and not left-recursive:
-- chosen: each production is chosen at every token that it may begin with, or be followed by where
-- it is empty; proper: within a body the follow rows hold what may follow;
-- made: what is chosen for a rule is a production of it; best: each rule derives some text;
-- lighter, vanishes: a rule weighs more than what leads the body of each of its productions.
pub record IsRight (g : Grammar) (t : Table) : Type 0 where
  pub chosen : (p a : ℕ) → p < g.productions → Next t (Follows t (g.head p)) (g.body p) a
      → t.choose (g.head p) a ≡ Some p
  pub proper : (p : ℕ) → p < g.productions → Proper t (Follows t (g.head p)) (g.body p)
  pub made : (n a p : ℕ) → t.choose n a ≡ Some p → (p < g.productions) × (g.head p ≡ n)
  pub best : (n : ℕ) → n < t.rules
      → (t.best n < g.productions) × (g.head (t.best n) ≡ n) × Below t (t.rank n) (g.body (t.best n))
  pub lighter : (p : ℕ) → p < g.productions → lead t (g.body p) < t.weight (g.head p)
  pub vanishes : (p : ℕ) → p < g.productions → vanish t (g.body p) ≡ true → t.empty (g.head p) ≡ true
