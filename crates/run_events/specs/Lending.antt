-- Which port of the graph above lends an input of an entered graph: the source of the operand at its place.
use Rattle.std.specs.Prelude.{◌≡◌, ℕ, suc, List, [], ◌∷◌, ◌++◌, slice_get, Some}
use Rattle.flow_value.specs.declared.value.Val.{Val}
use Rattle.flow_value.specs.declared.value.Val.TheOpen.{Val-F}
use Rattle.flow_value.specs.declared.value.Val.TheViews.{out-Val}
use Rattle.graph_meaning.specs.Carried.{Carried, Value, val_of}
use Rattle.graph_meaning.specs.Entered.{Item}
use Rattle.graph_meaning.specs.Forms.{Form, TagCase, Iterate}
use Rattle.graph_meaning.specs.Demand.{Source, Port as Out, Network}
use Rattle.run_states.specs.Standing.{Path}
use Rattle.run_states.specs.Phases.{Comes}
use Rattle.run_states.specs.Paths.{IsWhole, EntersAt, LeadsTo, CarriesAt}
use Rattle.run_events.specs.Carrying.{content_of}

-- the operands stand first among these
abbrev pub BeginWith : List Carried → List Carried → Type 0
BeginWith ks is = (own : List Carried) × (is ≡ ks ++ own)

abbrev pub AllBeginWith : List Carried → List (List Carried) → Type 0
AllBeginWith ks [] = Unit {0}
AllBeginWith ks (row ∷ rows) = BeginWith ks row × AllBeginWith ks rows

-- an arm has the content of the union first, and then the other operands
pub record IsOfArm (ks is : List Carried) : Type 0 where
  pub union : Carried
  pub others : List Carried
  pub tag : ℕ
  pub content : Val
  pub operands : ks ≡ union ∷ others
  pub is_union : out-Val (val_of union) ≡ Val-F.Uni tag content
  pub inputs : is ≡ Value content ∷ others

abbrev pub HasOperands : Form → List Carried → List Carried → Type 0
HasOperands (TagCase arms n) ks is = IsOfArm ks is
HasOperands form ks is = BeginWith ks is

-- Each graph that a node enters has the node's operands as its first inputs, and so has each iteration; an arm has the content of the union
-- in the place of the union.
pub record AreOperandsFirst (u : Network) (form : Form) (ks : List Carried) : Type 0 where
  pub entered : (l k h : ℕ) (e : Item) (is : List Carried) → EntersAt u form ks l k e h is → HasOperands form ks is
  pub iterated : (k h : ℕ) (row : List Carried) (rows : List (List Carried)) (ms : List Carried) → Comes u form ks k (Iterate h row rows ms) → AllBeginWith ks (row ∷ rows)

abbrev pub AreAllOperandsFirst : Type 0
AreAllOperandsFirst = (u : Network) (form : Form) (ks : List Carried) → AreOperandsFirst u form ks

-- So the source of an operand carries what the input of the entered graph at its place does, wherever a path leads: it lends it, where the
-- input is lent.
abbrev pub AreInputsLent : Type 0
AreInputsLent = (u : Network) (g : ℕ) (ins : List Carried) (p : Path) (h l k j i : ℕ) (is js ks : List Carried) (form : Form) (e : Item) (o : Source) (c : Carried) → LeadsTo u g ins p h is
    → (whole : IsWhole u h is l form ks)
    → EntersAt u form ks l k e j js
    → BeginWith ks js
    → slice_get whole.node.ins i ≡ Some o
    → CarriesAt u g ins p o c
    → CarriesAt u g ins ((l, k) ∷ p) (Out 0 (suc i)) c

-- In an arm the first input carries the content of what the source of the union does, and each further one what the source of the operand
-- at its place does.
pub record AreArmsLent (u : Network) (g : ℕ) (ins : List Carried) (p : Path) (l k : ℕ) (os : List Source) : Type 0 where
  pub union : (o : Source) (c d : Carried) → slice_get os 0 ≡ Some o → CarriesAt u g ins p o c → content_of c ≡ Some d → CarriesAt u g ins ((l, k) ∷ p) (Out 0 1) d
  pub others : (i : ℕ) (o : Source) (c : Carried) → slice_get os (suc i) ≡ Some o → CarriesAt u g ins p o c → CarriesAt u g ins ((l, k) ∷ p) (Out 0 (suc (suc i))) c

abbrev pub AreAllArmsLent : Type 0
AreAllArmsLent = (u : Network) (g : ℕ) (ins : List Carried) (p : Path) (h l k j : ℕ) (is js ks : List Carried) (form : Form) (e : Item) → LeadsTo u g ins p h is
    → (whole : IsWhole u h is l form ks)
    → EntersAt u form ks l k e j js
    → IsOfArm ks js
    → AreArmsLent u g ins p l k whole.node.ins
