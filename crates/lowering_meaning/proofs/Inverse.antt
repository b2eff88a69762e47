-- What a cost consists of.
use Rattle.std.proofs.Common.{◌≡◌, ℕ, suc, Bool, true, false, List, [], ◌∷◌, ◌⊎◌, inl, inr, refl}
use Rattle.graph_meaning.specs.Carried.{Carried}
use Rattle.graph_meaning.specs.Forms.{Form, Next, Stage, Enter, Iterate, Leave, first, next_of, follow, gather}
use Rattle.graph_meaning.specs.Demand.{Source, Kind, Plain, Whole, Vertex, Network}
use Rattle.graph_meaning.specs.Plain.{is_deeper, CarryAll, MeanAll, NodesFire, a_node, InnerFires, of_simple, of_whole, LaterFires, of_leaving, of_graph, of_deeper, of_iterations, RowsFire, of_row}

module _ (u : Network) where
  -- what a graph that is entered fires, and what follows it, at the same depth or at one less
  pub record Entering (m : ℕ) (form : Form) (ks : List Carried) (turn : Bool) (g : ℕ) (ins : List Carried) (stage : Stage) : Type 0 where
    pub depth : ℕ
    pub results : List Carried
    pub cost : ℕ
    pub rest : ℕ
    pub is_less : ((is_deeper form turn ≡ true) × (suc depth ≡ m)) ⊎ ((is_deeper form turn ≡ false) × (depth ≡ m))
    pub fires : NodesFire u depth g ins (u g).nodes cost
    pub means : CarryAll u depth g ins (u g).results results
    pub follows : LaterFires u depth form ks (follow form ks stage results) rest

  pub record Iterating (m : ℕ) (form : Form) (ks : List Carried) (g : ℕ) (rows : List (List Carried)) (ms : List Carried) : Type 0 where
    pub lists : List (List Carried)
    pub cost : ℕ
    pub rest : ℕ
    pub fires : RowsFire u m g rows cost
    pub means : MeanAll u m g rows lists
    pub follows : LaterFires u m form ks (gather form ks ms lists) rest

  -- what comes next, by what it is
  abbrev pub Later : ℕ → Form → List Carried → Next → Type 0
  Later m form ks (Leave rs) = Unit {0}
  Later m form ks (Enter turn g ins stage) = Entering m form ks turn g ins stage
  Later m form ks (Iterate g row rows ms) = Iterating m form ks g (row ∷ rows) ms

  pub later-is : (m : ℕ) (form : Form) (ks : List Carried) (next : Next) (c : ℕ) → LaterFires u m form ks next c → Later m form ks next
  later-is _ _ _ _ _ (of_leaving m form ks rs) = tt
  later-is _ _ _ _ _ (of_graph m form ks turn g ins stage ms c d e a b f) = record { depth = m; results = ms; cost = c; rest = d; is_less = inr (e, refl); fires = a; means = b; follows = f }
  later-is _ _ _ _ _ (of_deeper m form ks turn g ins stage ms c d e a b f) = record { depth = m; results = ms; cost = c; rest = d; is_less = inl (e, refl); fires = a; means = b; follows = f }
  later-is _ _ _ _ _ (of_iterations m form ks g row rows ms lists c d a b f) = record { lists = lists; cost = c; rest = d; fires = a; means = b; follows = f }

  -- a compound node or call has operands, and goes on from them
  pub record Inside (m g : ℕ) (ins : List Carried) (form : Form) (os : List Source) : Type 0 where
    pub operands : List Carried
    pub cost : ℕ
    pub carried : CarryAll u m g ins os operands
    pub follows : LaterFires u m form operands (next_of (first form operands)) cost

  abbrev pub InsideKind : ℕ → ℕ → List Carried → Kind → List Source → Type 0
  InsideKind m g ins (Plain row shape) os = Unit {0}
  InsideKind m g ins (Whole form) os = Inside m g ins form os

  inside-is : (m g : ℕ) (ins : List Carried) (k : Kind) (os : List Source) (c : ℕ) → InnerFires u m g ins k os c → InsideKind m g ins k os
  inside-is _ _ _ _ _ _ (of_simple m g ins row shape os) = tt
  inside-is _ _ _ _ _ _ (of_whole m g ins form os ks c a b) = record { operands = ks; cost = c; carried = a; follows = b }

  -- one node among those that fire
  pub node-inside : (m g : ℕ) (ins : List Carried) (v : Vertex) (c : ℕ) → NodesFire u m g ins (v ∷ []) c → InsideKind m g ins v.kind v.ins
  node-inside m g ins v _ (a_node _ _ _ _ _ x y i a) = inside-is m g ins v.kind v.ins x i

  -- a graph on the first of several lists of inputs
  pub record FirstRow (m g : ℕ) (ins : List Carried) (rows : List (List Carried)) : Type 0 where
    pub cost : ℕ
    pub rest : ℕ
    pub fires : NodesFire u m g ins (u g).nodes cost
    pub others : RowsFire u m g rows rest

  pub first-row : (m g : ℕ) (ins : List Carried) (rows : List (List Carried)) (c : ℕ) → RowsFire u m g (ins ∷ rows) c → FirstRow m g ins rows
  first-row m g ins rows _ (of_row _ _ _ _ c d a b) = record { cost = c; rest = d; fires = a; others = b }
