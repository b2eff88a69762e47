-- Edges that leave one port of a node carry one type.
use Rattle.std.specs.Prelude.{◌≡◌, ◌≢◌, ℕ, suc, List, Contains}
use Rattle.if1_graph.specs.declared.graph.Edge.{Edge}
use Rattle.if1_graph.specs.declared.graph.Origin.TheVariants.{Port}
use Rattle.if1_typing.specs.Tables.{Table, number}

-- an edge of the list that leaves a port of a node
pub record Leaves (es : List Edge) (e : Edge) (l port : ℕ) : Type 0 where
  pub there : Contains es e
  pub from : e.from ≡ Port (suc l) port

abbrev pub AreAgreed : Table → List Edge → Type 0
AreAgreed t es = (e f : Edge) (l port : ℕ) → Leaves es e l port → Leaves es f l port → number t e.ty ≡ number t f.ty

-- an edge into a node carries another type than one from the same port
pub record Disagrees (t : Table) (es : List Edge) (node : ℕ) : Type 0 where
  pub one : Edge
  pub other : Edge
  pub l : ℕ
  pub port : ℕ
  pub leaves : Leaves es one l port
  pub leaves_too : Leaves es other l port
  pub leads : one.node ≡ node
  pub differ : number t one.ty ≢ number t other.ty
