-- Which ports own what they carry, so that one of their edges may take it. All others are lent.
use Rattle.std.specs.Prelude.{ℕ, zero, suc, ◌+◌, Bool, true, false, ◌&&◌, ◌||◌, not, List, [], ◌∷◌, map, length, is_none, nat_lt, Option, Some, None, ◌==◌}
use Rattle.std.specs.List.{list_all}
use Rattle.if1_graph.specs.declared.graph.Edge.{Edge}
use Rattle.if1_graph.specs.declared.graph.Graph.{Graph}
use Rattle.if1_graph.specs.declared.graph.Graph.TheViews.{out-Graph}
use Rattle.if1_graph.specs.declared.graph.Node.{Node, out-Node}
use Rattle.if1_graph.specs.declared.graph.Origin.{Origin}
use Rattle.if1_graph.specs.declared.graph.Origin.TheVariants.{Port, Lit}
use Rattle.if1_graph.specs.declared.graph.Unit1.{Unit1}
use Rattle.if1_graph.specs.declared.op.Compound.{Compound}
use Rattle.if1_graph.specs.declared.op.Compound.TheVariants as compound
use Rattle.if1_graph.specs.declared.op.Part.{Part}
use Rattle.if1_graph.specs.declared.op.Part.TheVariants as part
use Rattle.if1_graph.specs.declared.op.Simple.{Simple}
use Rattle.if1_graph.specs.declared.op.Simple.TheVariants as simple
use Rattle.if1_graph.specs.Ops.{simple_at}
use Rattle.if1_graph.specs.Ports.{edges_from, results_at, part_of}
use Rattle.if1_graph.specs.Tables.{◌>>=◌}
use Rattle.if1_graph.specs.Units.{label_of, node_at, edge_into, width, Home, Function, Inside, Place}
use Rattle.if1_marks.specs.Given.{is_consumed_by, is_given_inside, is_used_inside}

-- ---- users

-- the edges that leave a port; a literal has no port
abbrev pub leaving : Graph → Origin → List Edge
leaving g (Port l port) = edges_from g l port
leaving g (Lit text) = []

-- the users of a port: the nodes with an edge from it, 0 for the boundary
abbrev pub users : Graph → Origin → List ℕ
users g from = map (λ e. e.node) (leaving g from)

-- ---- inputs in returns

-- exactly one edge leaves the input
abbrev pub has_one_edge : Graph → ℕ → Bool
has_one_edge g port = length (edges_from g 0 port) == 1

abbrev pub is_final_value : Option Simple → Bool
is_final_value (Some simple.FinalValue) = true
is_final_value _ = false

-- the node is a FinalValue without a mask
abbrev pub is_last_value : Graph → ℕ → Bool
is_last_value g l = is_final_value (node_at (out-Graph g).nodes l >>= λ n. simple_at (out-Node n).op) && is_none (edge_into g l 2)

-- what uses the input takes the last value alone
abbrev pub is_last_wanted : Graph → ℕ → Bool
is_last_wanted g port = list_all (λ l. is_last_value g l) (users g (Port 0 port))

-- an edge leaves the input in the second or third graph of a loop, its test and body
abbrev pub is_read_in_turns : List Graph → ℕ → Bool
is_read_in_turns (init ∷ test ∷ body ∷ others) port = is_used_inside test port || is_used_inside body port
is_read_in_turns _ port = false

-- ---- inputs of the parts of compound nodes

module _ (u : Unit1) (outer : Graph) (n : Node) (g : Graph) where
  -- the input is one of the part's own, an L of a loop or a T or M of a ForAll
  abbrev pub is_own : ℕ → Bool
  is_own port = nat_lt (width outer (label_of n)) port

  -- the input is an M of a ForAll, which stand after the results of its generator
  abbrev pub is_made : ℕ → Bool
  is_made port = nat_lt (width outer (label_of n) + results_at (out-Node n).subs 0) port

  abbrev pub is_owned_in_body : Compound → ℕ → Bool
  is_owned_in_body compound.ForAll port = false
  is_owned_in_body c port = is_own port

  abbrev pub is_owned_in_returns : Compound → ℕ → Bool
  is_owned_in_returns compound.ForAll port = is_made port && has_one_edge g port
  is_owned_in_returns c port = is_own port && (has_one_edge g port && (is_last_wanted g port || not (is_read_in_turns (out-Node n).subs port)))

  -- Alternatives, arms and initializations own what the node is given, and a body its L. Returns own an M of a ForAll that one
  -- edge leaves, and an L of a loop that one edge leaves if only its last value is wanted or no turn reads it.
  abbrev pub is_owned_in : Compound → Part → ℕ → Bool
  is_owned_in c part.Alternative port = is_consumed_by u n port
  is_owned_in c part.Arm port = is_consumed_by u n port
  is_owned_in c part.Initialization port = is_consumed_by u n port
  is_owned_in c part.Body port = is_owned_in_body c port
  is_owned_in c part.Returns port = is_owned_in_returns c port
  is_owned_in c _ port = false

  abbrev pub is_owned_as : Option (Compound × Part) → ℕ → Bool
  is_owned_as None port = false
  is_owned_as (Some cp) port = is_owned_in cp.0 cp.1 port

-- ---- ports

-- a function owns the inputs that are given
abbrev pub is_input_owned : Unit1 → Graph → Home → ℕ → Bool
is_input_owned u g (Function k) port = is_given_inside u g port
is_input_owned u g (Inside outer n k) port = is_owned_as u outer n g (part_of n k) port

-- outputs of nodes are owned
abbrev pub is_owned : Unit1 → Place → Origin → Bool
is_owned u p (Lit text) = false
is_owned u p (Port zero port) = is_input_owned u p.graph p.home port
is_owned u p (Port (suc l) port) = true
