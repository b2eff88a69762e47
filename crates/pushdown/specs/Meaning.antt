-- What a derivation means: each production has an action, which makes the value of its rule from the
-- values of its symbols.
use Rattle.std.specs.Prelude.{◌≡◌, ℕ, suc, ◌<◌, List, [], ◌∷◌, ◌++◌, Option, Some, None, map, length, take, drop}
use Rattle.pushdown.specs.declared.Symbol.{Symbol}
use Rattle.pushdown.specs.declared.Symbol.TheVariants.{Want, Rule}
use Rattle.pushdown.specs.declared.Step.{Step}
use Rattle.pushdown.specs.declared.Step.TheVariants.{Read, Open}
use Rattle.pushdown.specs.Grammar.{Grammar, Derives}

-- a value for each kind
abbrev pub Vals : {K : Type 0} → (K → Type 0) → List K → Type 0
Vals V [] = Unit {0}
Vals V (k ∷ ks) = V k × Vals V ks

-- Tokens with their classes and values; values of several kinds (Val), and one type of them all
-- (Value); and the actions, each with the kinds of what it takes and of what it gives.
pub record Meaning : Type 1 where
  pub Token : Type 0
  pub class : Token → ℕ
  pub Kind : Type 0
  pub Val : Kind → Type 0
  pub Value : Type 0
  pub into : (k : Kind) → Val k → Value
  pub out : (k : Kind) → Value → Option (Val k)
  pub out_into : (k : Kind) (v : Val k) → out k (into k v) ≡ Some v
  pub token : Kind
  pub of_token : Token → Val token
  pub Action : Type 0
  pub args : Action → List Kind
  pub gives : Action → Kind
  pub act : (a : Action) → Vals Val (args a) → Val (gives a)

-- which action each production has, and which kind of value each rule
pub record Scheme (m : Meaning) : Type 0 where
  pub action : ℕ → m.Action
  pub kind : ℕ → m.Kind

-- values of these kinds on top of others
abbrev pub load : (m : Meaning) (ks : List m.Kind) → Vals m.Val ks → List m.Value → List m.Value
load m [] vs s = s
load m (k ∷ ks) vs s = m.into k vs.0 ∷ load m ks vs.1 s

abbrev pub bind : {A B : Type 0} → Option A → (A → Option B) → Option B
bind None f = None
bind (Some x) f = f x

-- values of these kinds, taken off the top
abbrev pub unload : (m : Meaning) (ks : List m.Kind) → List m.Value → Option (Vals m.Val ks × List m.Value)
unload m [] s = Some (tt, s)
unload m (k ∷ ks) [] = None
unload m (k ∷ ks) (x ∷ s) = bind (m.out k x) (λ v. bind (unload m ks s) (λ r. Some ((v, r.0), r.1)))

-- an action on the values on top
abbrev pub perform : (m : Meaning) → m.Action → List m.Value → Option (List m.Value)
perform m a s = bind (unload m (m.args a) s) (λ r. Some (m.into (m.gives a) (m.act a r.0) ∷ r.1))

-- The values of the symbols that these steps derive these tokens from, the first on top. The steps
-- are taken from the last to the first, so that a production finds the values of its symbols on top.
abbrev pub run : (m : Meaning) (h : Scheme m) → List Step → List m.Token → Option (List m.Value)
run m h [] [] = Some []
run m h [] (t ∷ ts) = None
run m h (Read ∷ es) [] = None
run m h (Read ∷ es) (t ∷ ts) = bind (run m h es ts) (λ s. Some (m.into m.token (m.of_token t) ∷ s))
run m h (Open p ∷ es) ts = bind (run m h es ts) (λ s. perform m (h.action p) s)

-- how many steps read a token
abbrev pub reads : List Step → ℕ
reads [] = 0
reads (Read ∷ es) = suc (reads es)
reads (Open p ∷ es) = reads es

-- the kind of a symbol's value
abbrev pub kind_of : (m : Meaning) → Scheme m → Symbol → m.Kind
kind_of m h (Want c) = m.token
kind_of m h (Rule n) = h.kind n

-- Each action fits its production.
pub record Typed (g : Grammar) (m : Meaning) (h : Scheme m) : Type 0 where
  pub takes : (p : ℕ) → p < g.productions → map (kind_of m h) (g.body p) ≡ m.args (h.action p)
  pub makes : (p : ℕ) → p < g.productions → m.gives (h.action p) ≡ h.kind (g.head p)

-- There are values of these kinds on these others.
abbrev pub Loaded : (m : Meaning) → List m.Kind → List m.Value → Option (List m.Value) → Type 0
Loaded m ks s r = (vs : Vals m.Val ks) × (r ≡ Some (load m ks vs s))

-- The tokens spell a value of rule n.
abbrev pub Spells : (g : Grammar) (m : Meaning) (h : Scheme m) (n : ℕ) → List m.Token → m.Val (h.kind n) → Type 0
Spells g m h n ts v = (es : List Step) × Derives g (Rule n ∷ []) (map m.class ts) es
    × (run m h es ts ≡ Some (m.into (h.kind n) v ∷ []))

-- Values of these kinds are on top.
abbrev pub OnTop : (m : Meaning) → List m.Kind → List m.Value → Type 0
OnTop m ks x = (vs : Vals m.Val ks) × (rest : List m.Value) × (x ≡ load m ks vs rest)

-- the sizes of values, in order
abbrev pub sizes : {K : Type 0} {V : K → Type 0} {D : Type 0} → ((k : K) → V k → D) → (ks : List K) → Vals V ks → List D
sizes f [] vs = []
sizes f (k ∷ ks) vs = f k vs.0 ∷ sizes f ks vs.1

-- A size of values, as their depth, where that of an action's value is told from the sizes of what
-- it takes.
pub record Measure (m : Meaning) : Type 1 where
  pub Size : Type 0
  pub size : (k : m.Kind) → m.Val k → Size
  pub step : m.Action → List Size → Size
  pub fits : (a : m.Action) (vs : Vals m.Val (m.args a)) → size (m.gives a) (m.act a vs) ≡ step a (sizes size (m.args a) vs)

-- the sizes of the values that run gives, without making the values
abbrev pub measure : (m : Meaning) (h : Scheme m) (z : Measure m) → List Step → List m.Token → Option (List z.Size)
measure m h z [] [] = Some []
measure m h z [] (t ∷ ts) = None
measure m h z (Read ∷ es) [] = None
measure m h z (Read ∷ es) (t ∷ ts) = bind (measure m h z es ts) (λ s. Some (z.size m.token (m.of_token t) ∷ s))
measure m h z (Open p ∷ es) ts = bind (measure m h z es ts) (λ s.
    Some (z.step (h.action p) (take (length (m.args (h.action p))) s) ∷ drop (length (m.args (h.action p))) s))

-- There are values of these kinds alone, and these are their sizes.
abbrev pub Measured : (m : Meaning) (z : Measure m) → List m.Kind → Option (List m.Value) → Option (List z.Size) → Type 0
Measured m z ks r q = (vs : Vals m.Val ks) × (r ≡ Some (load m ks vs [])) × (q ≡ Some (sizes z.size ks vs))
