-- What the graphs inside a compound node depend on of the node.
use Rattle.std.specs.Prelude.{◌≡◌, ℕ, Bool, false, ◌||◌, List, ◌∷◌, map}
use Rattle.if1_graph.specs.declared.graph.Edge.{Edge}
use Rattle.if1_graph.specs.declared.graph.Graph.{Graph}
use Rattle.if1_graph.specs.declared.op.Compound.{Compound}
use Rattle.if1_graph.specs.Units.{greatest}
use Rattle.if1_graph.specs.Ports.{results_at}
use Rattle.if1_marks.specs.Given.{Inside, is_given_to}
use Rattle.may_take.specs.declared.around.Around.{Around}
use Rattle.may_take.specs.declared.looking.Looked.{Looked}
use Rattle.may_take.specs.Ports.{has, inside_by}

abbrev pub insides : List Looked → List Inside
insides rs = map (λ r. inside_by r.inputs) rs

-- the second or third of them uses the input
abbrev pub is_in_turns : List Inside → ℕ → Bool
is_in_turns (init ∷ test ∷ body ∷ others) port = test.is_used port || body.is_used port
is_in_turns _ port = false

abbrev pub ports_in : List Edge → List ℕ
ports_in es = map (λ e. e.port) es

-- by the edges into the node, its graphs and what these do with their inputs
pub record IsAroundOf (c : Compound) (inputs : List Edge) (gs : List Graph) (is : List Inside) (a : Around) : Type 0 where
  pub compound : a.compound ≡ c
  pub width : a.width ≡ greatest (ports_in inputs)
  pub first : a.first ≡ results_at gs 0
  pub given : (port : ℕ) → has a.given port ≡ is_given_to c is port
  pub turns : (port : ℕ) → has a.turns port ≡ is_in_turns is port
