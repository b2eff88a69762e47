-- Which ports of a graph own what they carry, by what is known of where it stands.
use Rattle.std.specs.Prelude.{ℕ, zero, suc, ◌+◌, Bool, true, false, ◌&&◌, ◌||◌, not, List, length, find, is_none, nat_lt, ◌==◌, Option, Some, None}
use Rattle.std.specs.List.{list_all}
use Rattle.if1_graph.specs.declared.graph.Edge.{Edge}
use Rattle.if1_graph.specs.declared.graph.Graph.{Graph}
use Rattle.if1_graph.specs.declared.graph.Node.{Node, out-Node}
use Rattle.if1_graph.specs.declared.graph.Origin.{Origin}
use Rattle.if1_graph.specs.declared.graph.Origin.TheVariants.{Port, Lit}
use Rattle.if1_graph.specs.declared.op.Compound.{Compound}
use Rattle.if1_graph.specs.declared.op.Compound.TheVariants as compound
use Rattle.if1_graph.specs.declared.op.Part.{Part}
use Rattle.if1_graph.specs.declared.op.Part.TheVariants as part
use Rattle.if1_graph.specs.Ops.{simple_at}
use Rattle.if1_graph.specs.Parts.{part_at}
use Rattle.if1_graph.specs.Tables.{◌>>=◌}
use Rattle.if1_marks.specs.Owned.{is_final_value, is_last_value}
use Rattle.may_take.specs.declared.around.Around.{Around}
use Rattle.may_take.specs.declared.owned.Site.{Site}
use Rattle.may_take.specs.declared.owned.Site.TheVariants as site
use Rattle.may_take.specs.Ports.{has}

-- where a graph stands: it is a function with these inputs given, the part of a compound node at a place, or in no such node
pub data Stand : Type 0 where
  AsFunction : (given : List ℕ) → Stand
  InNode : (around : Around) (place : ℕ) → Stand
  Elsewhere : Stand

abbrev pub stand_of : Site → Stand
stand_of (site.Function given) = AsFunction given.now
stand_of (site.Part around place) = InNode around.now place
stand_of site.Nothing = Elsewhere

-- no edge of those into a node leads to port 2
abbrev pub has_no_second : List Edge → Bool
has_no_second es = is_none (find (λ e. e.port == 2) es)

abbrev pub is_final_node : Option Node → Bool
is_final_node o = is_final_value (o >>= λ n. simple_at (out-Node n).op)

-- one edge leaves the port
abbrev pub is_one : List ℕ → Bool
is_one users = length users == 1

abbrev pub is_owned_in_body : Compound → Around → ℕ → Bool
is_owned_in_body compound.ForAll a port = false
is_owned_in_body _ a port = nat_lt a.width port

-- only the last value is wanted, or no turn reads it
abbrev pub is_free : Around → Graph → List ℕ → ℕ → Bool
is_free a g users port = list_all (is_last_value g) users || not (has a.turns port)

abbrev pub is_owned_in_returns : Compound → Around → Graph → List ℕ → ℕ → Bool
is_owned_in_returns compound.ForAll a g users port = nat_lt (a.width + a.first) port && is_one users
is_owned_in_returns _ a g users port = nat_lt a.width port && (is_one users && is_free a g users port)

abbrev pub is_owned_in : Part → Around → Graph → List ℕ → ℕ → Bool
is_owned_in part.Alternative a g users port = has a.given port
is_owned_in part.Arm a g users port = has a.given port
is_owned_in part.Initialization a g users port = has a.given port
is_owned_in part.Body a g users port = is_owned_in_body a.compound a port
is_owned_in part.Returns a g users port = is_owned_in_returns a.compound a g users port
is_owned_in _ a g users port = false

abbrev pub is_owned_as : Option Part → Around → Graph → List ℕ → ℕ → Bool
is_owned_as None a g users port = false
is_owned_as (Some p) a g users port = is_owned_in p a g users port

-- the input of a graph with these users
abbrev pub is_input_owned : Stand → Graph → List ℕ → ℕ → Bool
is_input_owned (AsFunction given) g users port = has given port
is_input_owned (InNode around place) g users port = is_owned_as (part_at around.compound place) around g users port
is_input_owned Elsewhere g users port = false

-- the part's users tell which of its inputs it owns
abbrev pub is_returns : Option Part → Bool
is_returns (Some part.Returns) = true
is_returns _ = false

abbrev pub reads_users : Stand → Bool
reads_users (InNode around place) = is_returns (part_at around.compound place)
reads_users _ = false

abbrev pub is_owned_at : Stand → Graph → List ℕ → Origin → Bool
is_owned_at s g users (Lit text) = false
is_owned_at s g users (Port zero port) = is_input_owned s g users port
is_owned_at s g users (Port (suc l) port) = true
