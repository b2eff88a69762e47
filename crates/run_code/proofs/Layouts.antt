-- What examples of code share: nodes with one output each, whose cells stand behind one another in the order of their labels.
use Rattle.std.proofs.Common.{◌≡◌, ℕ, zero, suc, ◌+◌, ◌-◌, ◌<◌, ◌≤◌, if◌then◌else◌, ltb, List, [], ◌∷◌, map, get_or, pos, refl, sym, ap, subst, arith, Bool, true, false}
use Rattle.std.proofs.lemmas.Bool.{lt-ltb, ltb-true}
use Rattle.ordered_meaning.specs.Val.TheVariants as val
use Rattle.ordered_meaning.specs.Carried.{Carried, Value, Unfilled}
use Rattle.ordered_meaning.specs.Demand.{Net}
use Rattle.ordered_meaning.specs.Storage.{Weights}
use Rattle.run_code.specs.Cells.{At, Lit, Operand}
use Rattle.run_code.specs.Coded.{GraphIs, Layout, PartIs, Places, Puts, a_part, no_node, operand}
use Rattle.run_code.specs.Known.{KnowsAll}

abbrev pub one : Carried
one = Value (val.Int (pos 1))

abbrev pub truth : Bool → Carried
truth b = Value (val.Bool b)

-- the graph of this number
abbrev pub net_at : List Net → ℕ → Net
net_at [] g = record { nodes = []; results = [] }
net_at (n ∷ ns) zero = n
net_at (n ∷ ns) (suc g) = net_at ns g

abbrev pub nothing_weighs : Weights
nothing_weighs = record { of_node = λ g v ks rs. 0; of_results = λ g rs. 0 }

pub positive : (n : ℕ) → suc n ≡ 0 → ⊥
positive n e = absurd (omega (arith, e))

-- the inputs of a graph, and its nodes from a cell on
abbrev pub places_by : List Operand → ℕ → Places
places_by args out zero p = get_or args (p - 1) (Lit Unfilled)
places_by args out (suc l) p = At (out + l)

pub puts : (args : List Operand) (out l : ℕ) → Puts (places_by args out) (suc l) (out + l) 1
puts args out l i lt = let z : out + l ≡ (out + l) + i = omega (arith, lt) in ap At z

-- of a function, whose inputs stand in its first cells
abbrev pub function_places : (params : ℕ) → Places
function_places n zero p = if ltb (p - 1) n then At (p - 1) else Lit Unfilled
function_places n (suc l) p = At (n + l)

pub function-puts : (n l : ℕ) → Puts (function_places n) (suc l) (n + l) 1
function-puts n l i lt = let z : n + l ≡ (n + l) + i = omega (arith, lt) in ap At z

pub function-inputs : (n p : ℕ) → p - 1 < n → function_places n 0 p ≡ At (p - 1)
function-inputs n p lt = ap (λ b. if b then At (p - 1) else Lit Unfilled) (lt-ltb (p - 1) n lt)

pub function-wants : (n p : ℕ) → n ≤ p - 1 → function_places n 0 p ≡ Lit Unfilled
function-wants n p le = go (ltb (p - 1) n) refl
  where
    go : (b : Bool) → ltb (p - 1) n ≡ b → (if b then At (p - 1) else Lit Unfilled) ≡ Lit Unfilled
    go true e = absurd (let lt = ltb-true (p - 1) n e in omega (arith, le, lt))
    go false e = refl

-- a graph without nodes takes no steps
pub no-nodes : (X : Layout) (room : ℕ) (args : List Operand) (g a lo : ℕ) (froms : List Operand) → X.order g ≡ [] → KnowsAll [] (X.network g).results → map (operand (places_by args lo)) (X.network g).results ≡ froms
    → GraphIs X room args g a a lo froms
no-nodes X room args g a lo froms e knows same =
    subst (λ vs. PartIs X room args g vs (X.network g).results a a lo froms) (sym e)
    (a_part args g [] (X.network g).results a a lo (places_by args lo) (λ p. refl) (tt, knows) (no_node g (places_by args lo) a lo) froms same)
