-- What a production keeps, said of the tokens and values of its symbols one after another.
use Rattle.std.specs.Prelude.{◌≡◌, ℕ, List, [], ◌∷◌, ◌++◌, Some, map}
use Rattle.pushdown.specs.declared.Symbol.{Symbol}
use Rattle.pushdown.specs.declared.Symbol.TheVariants.{Want, Rule}
use Rattle.pushdown.specs.Grammar.{Grammar}
use Rattle.pushdown.specs.Meaning.{Meaning, Scheme, Vals, load, perform, kind_of}
use Rattle.pushdown.specs.Spelling.{Built}

-- the kinds of the values of symbols
abbrev pub kinds : (m : Meaning) → Scheme m → List Symbol → List m.Kind
kinds m h s = map (kind_of m h) s

-- Of all tokens and values that the symbols may have, where P tells which a rule may have, Q holds.
abbrev pub Fits : (m : Meaning) (h : Scheme m) → ((n : ℕ) → List m.Token → m.Val (h.kind n) → Type 0)
    → (s : List Symbol) → (List m.Token → Vals m.Val (kinds m h s) → Type 0) → Type 0
Fits m h P [] Q = Q [] tt
Fits m h P (Want c ∷ s) Q = (t : m.Token) → m.class t ≡ c → Fits m h P s (λ ts vs. Q (t ∷ ts) (m.of_token t, vs))
Fits m h P (Rule n ∷ []) Q = (ts : List m.Token) (v : m.Val (h.kind n)) → P n ts v → Q ts (v, tt)
Fits m h P (Rule n ∷ x ∷ s) Q = (ts : List m.Token) (v : m.Val (h.kind n)) → P n ts v
    → Fits m h P (x ∷ s) (λ us vs. Q (ts ++ us) (v, vs))

-- What a production makes of the values of its symbols: its action does so to what is on top.
pub record Makes (g : Grammar) (m : Meaning) (h : Scheme m) (p : ℕ) : Type 0 where
  pub made : Vals m.Val (kinds m h (g.body p)) → m.Val (h.kind (g.head p))
  pub does : (vs : Vals m.Val (kinds m h (g.body p))) (rest : List m.Value)
      → perform m (h.action p) (load m (kinds m h (g.body p)) vs rest) ≡ Some (m.into (h.kind (g.head p)) (made vs) ∷ rest)

-- A production keeps P.
pub record Keeping (g : Grammar) (m : Meaning) (h : Scheme m) (P : (n : ℕ) → List m.Token → m.Val (h.kind n) → Type 0) (p : ℕ) : Type 0 where
  pub makes : Makes g m h p
  pub fits : Fits m h P (g.body p) (λ ts vs. P (g.head p) ts (makes.made vs))

-- The rule derives these tokens with this value, whatever follows.
pub record Reads (g : Grammar) (m : Meaning) (h : Scheme m) (n : ℕ) (ts : List m.Token) (v : m.Val (h.kind n)) : Type 0 where
  pub front : (s : List Symbol) (ws : List m.Token) (xs : List m.Value) → Built g m h s ws xs
      → Built g m h (Rule n ∷ s) (ts ++ ws) (m.into (h.kind n) v ∷ xs)
