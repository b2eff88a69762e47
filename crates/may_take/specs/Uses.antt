-- What nodes consume, by what is known of each.
use Rattle.std.specs.Prelude.{◌≡◌, ℕ, zero, suc, ◌-◌, Bool, true, false, List, [], ◌∷◌, map, slice_get, bytes_eq, Option, Some, None, option_map, ◌==◌, if◌then◌else◌}
use Rattle.indexmap.specs.IndexMap.{get_by}
use Rattle.if1_graph.specs.declared.graph.Graph.{Graph}
use Rattle.if1_graph.specs.declared.graph.Graph.TheViews.{out-Graph}
use Rattle.if1_graph.specs.declared.graph.Unit1.{Unit1}
use Rattle.if1_graph.specs.Rows.{operand_of}
use Rattle.if1_marks.specs.Given.{inside, is_operand_consumed}
use Rattle.may_take.specs.declared.functions.Functions.{Functions}
use Rattle.may_take.specs.declared.inputs.Inputs.{Inputs}
use Rattle.may_take.specs.declared.uses.NodeUse.{NodeUse}
use Rattle.may_take.specs.declared.uses.NodeUse.TheVariants.{Call, Compound, Simple, Nothing}
use Rattle.may_take.specs.Ports.{has, inside_by}

-- ---- functions by name

-- the place of the first function of a name
abbrev pub place_named : List Graph → List ℕ → Option ℕ
place_named [] name = None
place_named (g ∷ gs) name = if bytes_eq (out-Graph g).name name then Some 0 else option_map suc (place_named gs name)

abbrev pub place_in : Functions → List ℕ → Option ℕ
place_in f text = get_by (λ k. bytes_eq text k.items) f.names

-- what is known of these functions
pub record AreKnown (u : Unit1) (gs : List Graph) (f : Functions) : Type 0 where
  pub names : (text : List ℕ) → place_in f text ≡ place_named gs text
  pub inputs : map inside_by f.inputs.items ≡ map (inside u.types) gs

abbrev pub Tells : Unit1 → Functions → Type 0
Tells u f = AreKnown u u.graphs f

-- ---- one node

-- the node itself consumes what is carried there, other than by a call
abbrev pub is_consumed_inside : NodeUse → ℕ → Bool
is_consumed_inside (Call f) port = false
is_consumed_inside (Compound a) port = has a.given port
is_consumed_inside (Simple op) port = is_operand_consumed (operand_of op port)
is_consumed_inside Nothing port = false

abbrev pub is_given_in : Option Inputs → ℕ → Bool
is_given_in None port = false
is_given_in (Some i) port = has i.given port

abbrev pub is_given_at : List Inputs → Option ℕ → ℕ → Bool
is_given_at fs None port = false
is_given_at fs (Some k) port = is_given_in (slice_get fs k) port

-- the node consumes it, or gives it to a function that does
abbrev pub is_consumed : List Inputs → NodeUse → ℕ → Bool
is_consumed fs (Call f) port = is_given_at fs f (port - 1)
is_consumed fs (Compound a) port = has a.given port
is_consumed fs (Simple op) port = is_operand_consumed (operand_of op port)
is_consumed fs Nothing port = false

-- ---- nodes by label

-- what stands beside a label
abbrev pub use_at : List ℕ → List NodeUse → ℕ → Option NodeUse
use_at [] us l = None
use_at (x ∷ xs) [] l = None
use_at (x ∷ xs) (u ∷ us) l = if x == l then Some u else use_at xs us l

abbrev pub inside_of : Option NodeUse → ℕ → Bool
inside_of None port = false
inside_of (Some h) port = is_consumed_inside h port

abbrev pub consumed_of : List Inputs → Option NodeUse → ℕ → Bool
consumed_of fs None port = false
consumed_of fs (Some h) port = is_consumed fs h port

-- by the node of this label, or by the boundary for 0
abbrev pub consumes_inside : List ℕ → List NodeUse → ℕ → ℕ → Bool
consumes_inside labels us zero port = true
consumes_inside labels us (suc l) port = inside_of (use_at labels us (suc l)) port

abbrev pub consumes_by : List Inputs → List ℕ → List NodeUse → ℕ → ℕ → Bool
consumes_by fs labels us zero port = true
consumes_by fs labels us (suc l) port = consumed_of fs (use_at labels us (suc l)) port
