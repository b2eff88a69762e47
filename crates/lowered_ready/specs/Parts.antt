-- The graphs inside compound nodes of lowered graphs: their results and inputs, by what each wire carries (IF1 manual M-170, compound
-- nodes).
use Rattle.std.specs.Prelude.{◌≡◌, ℕ, zero, suc, ◌+◌, ◌-◌, ◌≤◌, nat_le, max, List, [], ◌∷◌, map, drop, length, Option, Some, slice_get, option_map, unwrap_or, MatchBool}
use Rattle.flow_value.specs.declared.ty.Ty.{Ty}
use Rattle.flow_value.specs.declared.ty.Ty.TheVariants as ty
use Rattle.if1_graph.specs.declared.op.Compound.{Compound}
use Rattle.if1_graph.specs.declared.op.Compound.TheVariants as compound
use Rattle.if1_graph.specs.declared.op.Part.{Part}
use Rattle.if1_graph.specs.declared.op.Part.TheVariants as part
use Rattle.if1_graph.specs.Tables.{◌>>=◌}
use Rattle.if1_graph.specs.Types.{Sort, Plain, Many}
use Rattle.if1_graph.specs.Units.{greatest}
use Rattle.if1_graph.specs.Parts.{HasParts}
use Rattle.if1_graph.specs.Ports.{IsAssociation, least_width, tags_of}
use Rattle.if1_graph.specs.Typing.{IsPlain, IsElement, IsMultiple, FitsContent, FitsCompound, giving_part}
use Rattle.lowering.specs.declared.feed.Feed.{Feed}
use Rattle.lowering.specs.declared.feed.Feed.TheVariants.{Literal, Port}
use Rattle.lowering.specs.declared.feed.Carried.{Carried}
use Rattle.lowering.specs.declared.feed.Wire.{Wire}
use Rattle.lowering.specs.declared.graph.LoweredGraph.{LoweredGraph}
use Rattle.lowered_ready.specs.Ports.{Outs, sort_in}

-- ---- counts

abbrev pub results_at : List LoweredGraph → ℕ → ℕ
results_at gs k = unwrap_or (option_map (λ (d : LoweredGraph). length d.results) (slice_get gs k)) 0

abbrev pub most_results : List LoweredGraph → ℕ
most_results gs = greatest (map (λ (d : LoweredGraph). length d.results) gs)

-- how many outputs a compound node has
abbrev pub compound_outputs : Compound → List LoweredGraph → ℕ
compound_outputs compound.Select gs = most_results (drop 1 gs)
compound_outputs compound.TagCase gs = most_results gs
compound_outputs compound.ForAll gs = results_at gs 2
compound_outputs compound.LoopA gs = results_at gs 3
compound_outputs compound.LoopB gs = results_at gs 3

-- how many inputs a part has, where its node has so many
abbrev pub part_inputs : Compound → Part → ℕ → List LoweredGraph → ℕ
part_inputs c part.Test k gs = k + results_at gs 0
part_inputs c part.Body k gs = k + results_at gs 0
part_inputs compound.ForAll part.Returns k gs = k + results_at gs 0 + results_at gs 1
part_inputs c part.Returns k gs = k + results_at gs 0
part_inputs c _ k gs = k

-- how many results a part must have, where it has so many
abbrev pub part_results : Compound → Part → List LoweredGraph → ℕ → ℕ
part_results c part.Selector gs own = 1
part_results c part.Test gs own = 1
part_results c part.Alternative gs own = most_results (drop 1 gs)
part_results c part.Arm gs own = most_results gs
part_results c part.Generator gs own = max 1 own
part_results compound.ForAll part.Body gs own = own
part_results c part.Body gs own = results_at gs 0
part_results c part.Initialization gs own = own
part_results c part.Returns gs own = own

-- a port that is filled by a value
abbrev pub IsShown : Feed → Type 0
IsShown (Literal c) = Unit {0}
IsShown (Port up n q) = Unit {0}
IsShown f = ⊥

-- by what each wire carries
module _ (sort : Carried → Sort) where
  -- what the result of a graph at a port is
  abbrev pub result_of : List LoweredGraph → ℕ → ℕ → Option Sort
  result_of gs k port = slice_get gs k >>= λ d. sort_in sort d.results port

  -- ---- results of parts

  abbrev pub FitsResult : Compound → Part → List LoweredGraph → ℕ → Sort → Type 0
  FitsResult c part.Selector gs port s = s ≡ Plain ty.Int
  FitsResult c part.Test gs port s = s ≡ Plain ty.Bool
  FitsResult c part.Generator gs port s = (t : Ty) × (s ≡ Many t)
  FitsResult c part.Alternative gs port s = IsPlain s × (result_of gs 1 port ≡ Some s)
  FitsResult c part.Arm gs port s = IsPlain s × (result_of gs 0 port ≡ Some s)
  FitsResult compound.ForAll part.Body gs port s = IsPlain s
  FitsResult c part.Body gs port s = IsPlain s × (result_of gs 0 port ≡ Some s)
  FitsResult c part.Initialization gs port s = IsPlain s
  FitsResult c part.Returns gs port s = IsPlain s

  -- from a port on
  abbrev pub AreResults : Compound → Part → List LoweredGraph → ℕ → List Wire → Type 0
  AreResults c p gs port [] = Unit {0}
  AreResults c p gs port (w ∷ ws) = (IsShown w.feed × FitsResult c p gs port (sort w.ty)) × AreResults c p gs (suc port) ws

  -- ---- inputs of parts

  abbrev pub FitsReturned : Compound → List LoweredGraph → ℕ → Sort → Type 0
  FitsReturned compound.ForAll gs n s =
      MatchBool (nat_le n (results_at gs 0)) (result_of gs 0 n ≡ Some s) (IsMultiple (result_of gs 1 (n - results_at gs 0)) s)
  FitsReturned c gs n s = IsMultiple (result_of gs 0 n) s

  -- inputs after those of the node, counted from 1
  abbrev pub FitsOwnInput : Compound → Part → List LoweredGraph → ℕ → Sort → Type 0
  FitsOwnInput compound.ForAll part.Body gs n s = IsElement (result_of gs 0 n) s
  FitsOwnInput c part.Body gs n s = result_of gs 0 n ≡ Some s
  FitsOwnInput c part.Test gs n s = result_of gs 0 n ≡ Some s
  FitsOwnInput c part.Returns gs n s = FitsReturned c gs n s
  FitsOwnInput c _ gs n s = ⊥

  -- those of the node, which has these; the content of a union is the first of an arm
  abbrev pub FitsNodeInput : List Wire → List ℕ → Part → ℕ → ℕ → Sort → Type 0
  FitsNodeInput ws arms part.Arm k (suc zero) s = IsPlain s × FitsContent (tags_of (sort_in sort ws 1)) arms k s
  FitsNodeInput ws arms p k port s = sort_in sort ws port ≡ Some s

  abbrev pub FitsPartInput : Compound → Part → List Wire → List ℕ → List LoweredGraph → ℕ → ℕ → Sort → Type 0
  FitsPartInput c p ws arms gs k port s =
      MatchBool (nat_le port (length ws)) (FitsNodeInput ws arms p k port s) (FitsOwnInput c p gs (port - length ws) s)

  -- the input of a part at a port, from 1
  abbrev pub IsPartInput : Compound → Part → List Wire → List ℕ → List LoweredGraph → ℕ → ℕ → Sort → Type 0
  IsPartInput c p ws arms gs k port s = (1 ≤ port) × (port ≤ part_inputs c p (length ws) gs) × FitsPartInput c p ws arms gs k port s

  -- ---- a compound node

  -- what fills its ports, from one on
  abbrev pub AreInputs : Compound → ℕ → List Wire → Type 0
  AreInputs c port [] = Unit {0}
  AreInputs c port (w ∷ ws) = (IsShown w.feed × FitsCompound c port (sort w.ty)) × AreInputs c (suc port) ws

  -- its outputs from a port on
  abbrev pub AreOutputs : Compound → List LoweredGraph → ℕ → List Carried → Type 0
  AreOutputs c gs port [] = Unit {0}
  AreOutputs c gs port (t ∷ ts) =
      ((port ≤ compound_outputs c gs) × (result_of gs (giving_part c) port ≡ Some (sort t))) × AreOutputs c gs (suc port) ts

  -- a compound node on these graphs
  pub record IsCompound (c : Compound) (ws : List Wire) (arms : List ℕ) (gs : List LoweredGraph) (o : Outs) : Type 0 where
    pub parts : HasParts c (length gs)
    pub width : least_width c ≤ length ws
    pub inputs : AreInputs c 1 ws
    pub list : IsAssociation c (tags_of (sort_in sort ws 1)) (length gs) arms
    pub outputs : AreOutputs c gs o.port o.types
