-- Which part a node enters, from the table of forms.
use Rattle.std.proofs.Common.{◌≡◌, ℕ, zero, suc, if◌then◌else◌, pos, negsuc, Bool, true, false, List, [], ◌∷◌, map, drop, slice_get, Option, Some, None, refl, sym, subst}
use Rattle.flow_value.specs.declared.cause.Cause.{Cause}
use Rattle.flow_value.specs.declared.cause.Cause.TheVariants as cause
use Rattle.flow_value.specs.declared.value.Val.{Val}
use Rattle.flow_value.specs.declared.value.Val.TheOpen.{Val-F}
use Rattle.flow_value.specs.declared.value.Val.TheViews as values
use Rattle.if1_graph.specs.declared.graph.Graph.{Graph}
use Rattle.if1_graph.specs.declared.graph.Graph.TheViews.{out-Graph}
use Rattle.if1_graph.specs.declared.op.Compound.TheVariants as compound
use Rattle.if1_graph.specs.declared.op.Part.TheVariants as part
use Rattle.graph_meaning.specs.Carried.{Carried, val_of}
use Rattle.graph_meaning.specs.Forms.{Form, Call, Select, TagCase, LoopA, LoopB, ForAll, First, Begins, Skips, Next, Enter, Iterate, Leave, Stage, Called, Selecting, Chosen, Starting, Testing, Turning, Generating, Returning, errors, fails, enter_chosen, select, enter_arm, arm_in, arm_of, tested, first, follow, gather, spread, iterate, first_spoiled, are_as_long, rows_of, places_of, items, columns, turn_columns}
use Rattle.graph_meaning.specs.Demand.{Network}
use Rattle.graph_meaning.specs.Networks.{part, number_or_zero}
use Rattle.run_states.specs.Phases.{Comes, skips, begins, enters, iterates}
use Rattle.run_states.proofs.Lookups.{some-same}
use Rattle.run_events.proofs.Lending.{by-form, more, two, skips-not, whole-arm}
use Rattle.run_events.specs.Stages.{IsPartAt, IsIterated, AreInputsAt, AreAllStagesTold, ArePartsTold}

-- what a node of this form does next it does with its own parts
abbrev Fits : Form → List Carried → Next → Type 0
Fits form ks (Enter t h is stage) = IsPartAt form stage h × AreInputsAt form ks stage is
Fits form ks (Iterate h row rows ms) = IsIterated form h
Fits form ks (Leave rs) = Unit {0}

-- ---- choices

chosen-fits : (s : ℕ) (gs : List ℕ) (n : ℕ) (ks : List Carried) (i : ℕ) (o : Option ℕ) → slice_get gs i ≡ o → Fits (Select s gs n) ks (enter_chosen (Select s gs n) ks o)
chosen-fits s gs n ks i None e = tt
chosen-fits s gs n ks i (Some g) e = ((i, e), refl)

select-form : (s : ℕ) (gs : List ℕ) (n : ℕ) (ks : List Carried) (y : Val-F Val) → Fits (Select s gs n) ks (select (Select s gs n) gs ks (values.roll-Val y))
unfolding values.roll-Val denote.Hole.Carrier.roll
select-form s gs n ks (Val-F.Int (pos i)) = chosen-fits s gs n ks i (slice_get gs i) refl
select-form s gs n ks (Val-F.Int (negsuc i)) = tt
select-form s gs n ks (Val-F.Err c) = tt
select-form s gs n ks (Val-F.Bool b) = tt
select-form s gs n ks (Val-F.Char d) = tt
select-form s gs n ks Val-F.Null = tt
select-form s gs n ks (Val-F.Arr a) = tt
select-form s gs n ks (Val-F.Rec vs) = tt
select-form s gs n ks (Val-F.Uni t v) = tt
select-form s gs n ks (Val-F.Stream vs) = tt

select-fits : (s : ℕ) (gs : List ℕ) (n : ℕ) (ks : List Carried) (v : Val) → Fits (Select s gs n) ks (select (Select s gs n) gs ks v)
select-fits s gs n ks = by-form (λ v. Fits (Select s gs n) ks (select (Select s gs n) gs ks v)) (select-form s gs n ks)

-- ---- loops

module _ (i t b r n : ℕ) (ks ls : List Carried) (turns : List (List Carried)) where
  tested-a : (y : Val-F Val) → Fits (LoopA i t b r n) ks (tested (LoopA i t b r n) b r ks ls turns (values.roll-Val y))
  unfolding values.roll-Val denote.Hole.Carrier.roll
  tested-a (Val-F.Bool true) = (refl, refl)
  tested-a (Val-F.Bool false) = (refl, more ks (turn_columns (ls ∷ turns)))
  tested-a (Val-F.Err c) = tt
  tested-a (Val-F.Int d) = tt
  tested-a (Val-F.Char d) = tt
  tested-a Val-F.Null = tt
  tested-a (Val-F.Arr a) = tt
  tested-a (Val-F.Rec vs) = tt
  tested-a (Val-F.Uni d v) = tt
  tested-a (Val-F.Stream vs) = tt

  tested-b : (y : Val-F Val) → Fits (LoopB i t b r n) ks (tested (LoopB i t b r n) b r ks ls turns (values.roll-Val y))
  unfolding values.roll-Val denote.Hole.Carrier.roll
  tested-b (Val-F.Bool true) = (refl, refl)
  tested-b (Val-F.Bool false) = (refl, more ks (turn_columns (ls ∷ turns)))
  tested-b (Val-F.Err c) = tt
  tested-b (Val-F.Int d) = tt
  tested-b (Val-F.Char d) = tt
  tested-b Val-F.Null = tt
  tested-b (Val-F.Arr a) = tt
  tested-b (Val-F.Rec vs) = tt
  tested-b (Val-F.Uni d v) = tt
  tested-b (Val-F.Stream vs) = tt

  after-a : (v : Val) → Fits (LoopA i t b r n) ks (tested (LoopA i t b r n) b r ks ls turns v)
  after-a = by-form (λ v. Fits (LoopA i t b r n) ks (tested (LoopA i t b r n) b r ks ls turns v)) tested-a

  after-b : (v : Val) → Fits (LoopB i t b r n) ks (tested (LoopB i t b r n) b r ks ls turns v)
  after-b = by-form (λ v. Fits (LoopB i t b r n) ks (tested (LoopB i t b r n) b r ks ls turns v)) tested-b

-- ---- ForAll

spread-fits : (g b r m n : ℕ) (ks ms : List Carried) (rows : List (List Carried)) → Fits (ForAll g b r m n) ks (spread b r m ks ms rows)
spread-fits g b r m n ks ms [] = (refl, two ks ms (columns m []))
spread-fits g b r m n ks ms (row ∷ rows) = refl

iterate-fits : (g b r m n : ℕ) (ks ms : List Carried) (o : Option Cause) → Fits (ForAll g b r m n) ks (iterate (ForAll g b r m n) b r m ks ms o)
iterate-fits g b r m n ks ms (Some c) = tt
iterate-fits g b r m n ks ms None = go (are_as_long ms)
  where
    go : (long : Bool) → Fits (ForAll g b r m n) ks (if long then spread b r m ks ms (rows_of (places_of ms) (map items ms)) else fails (ForAll g b r m n) cause.Size)
    go true = spread-fits g b r m n ks ms (rows_of (places_of ms) (map items ms))
    go false = tt

-- ---- all rows

follow-fits : (form : Form) (ks : List Carried) (s : Stage) (rs : List Carried) → Fits form ks (follow form ks s rs)
follow-fits (Call g) ks Called rs = tt
follow-fits (Call g) ks Selecting rs = tt
follow-fits (Call g) ks Chosen rs = tt
follow-fits (Call g) ks Starting rs = tt
follow-fits (Call g) ks (Testing turns) rs = tt
follow-fits (Call g) ks (Turning turns) rs = tt
follow-fits (Call g) ks Generating rs = tt
follow-fits (Call g) ks Returning rs = tt
follow-fits (Select s gs n) ks Called rs = tt
follow-fits (Select s gs n) ks Selecting [] = tt
follow-fits (Select s gs n) ks Selecting (r ∷ []) = select-fits s gs n ks (val_of r)
follow-fits (Select s gs n) ks Selecting (r ∷ (q ∷ rs)) = tt
follow-fits (Select s gs n) ks Chosen rs = tt
follow-fits (Select s gs n) ks Starting rs = tt
follow-fits (Select s gs n) ks (Testing turns) rs = tt
follow-fits (Select s gs n) ks (Turning turns) rs = tt
follow-fits (Select s gs n) ks Generating rs = tt
follow-fits (Select s gs n) ks Returning rs = tt
follow-fits (TagCase gs n) ks Called rs = tt
follow-fits (TagCase gs n) ks Selecting rs = tt
follow-fits (TagCase gs n) ks Chosen rs = tt
follow-fits (TagCase gs n) ks Starting rs = tt
follow-fits (TagCase gs n) ks (Testing turns) rs = tt
follow-fits (TagCase gs n) ks (Turning turns) rs = tt
follow-fits (TagCase gs n) ks Generating rs = tt
follow-fits (TagCase gs n) ks Returning rs = tt
follow-fits (LoopA i t b r n) ks Called rs = tt
follow-fits (LoopA i t b r n) ks Selecting rs = tt
follow-fits (LoopA i t b r n) ks Chosen rs = tt
follow-fits (LoopA i t b r n) ks Starting rs = (refl, refl)
follow-fits (LoopA i t b r n) ks (Testing []) rs = tt
follow-fits (LoopA i t b r n) ks (Testing (l ∷ ls)) [] = tt
follow-fits (LoopA i t b r n) ks (Testing (l ∷ ls)) (q ∷ []) = after-a i t b r n ks l ls (val_of q)
follow-fits (LoopA i t b r n) ks (Testing (l ∷ ls)) (q ∷ (z ∷ rs)) = tt
follow-fits (LoopA i t b r n) ks (Turning turns) rs = (refl, refl)
follow-fits (LoopA i t b r n) ks Generating rs = tt
follow-fits (LoopA i t b r n) ks Returning rs = tt
follow-fits (LoopB i t b r n) ks Called rs = tt
follow-fits (LoopB i t b r n) ks Selecting rs = tt
follow-fits (LoopB i t b r n) ks Chosen rs = tt
follow-fits (LoopB i t b r n) ks Starting rs = (refl, refl)
follow-fits (LoopB i t b r n) ks (Testing []) rs = tt
follow-fits (LoopB i t b r n) ks (Testing (l ∷ ls)) [] = tt
follow-fits (LoopB i t b r n) ks (Testing (l ∷ ls)) (q ∷ []) = after-b i t b r n ks l ls (val_of q)
follow-fits (LoopB i t b r n) ks (Testing (l ∷ ls)) (q ∷ (z ∷ rs)) = tt
follow-fits (LoopB i t b r n) ks (Turning turns) rs = (refl, refl)
follow-fits (LoopB i t b r n) ks Generating rs = tt
follow-fits (LoopB i t b r n) ks Returning rs = tt
follow-fits (ForAll g b r m n) ks Called rs = tt
follow-fits (ForAll g b r m n) ks Selecting rs = tt
follow-fits (ForAll g b r m n) ks Chosen rs = tt
follow-fits (ForAll g b r m n) ks Starting rs = tt
follow-fits (ForAll g b r m n) ks (Testing turns) rs = tt
follow-fits (ForAll g b r m n) ks (Turning turns) rs = tt
follow-fits (ForAll g b r m n) ks Generating rs = iterate-fits g b r m n ks rs (first_spoiled rs)
follow-fits (ForAll g b r m n) ks Returning rs = tt

gather-fits : (form : Form) (ks ms : List Carried) (rows : List (List Carried)) → Fits form ks (gather form ks ms rows)
gather-fits (Call g) ks ms rows = tt
gather-fits (Select s gs n) ks ms rows = tt
gather-fits (TagCase gs n) ks ms rows = tt
gather-fits (LoopA i t b r n) ks ms rows = tt
gather-fits (LoopB i t b r n) ks ms rows = tt
gather-fits (ForAll g b r m n) ks ms rows = (refl, two ks ms (columns m rows))

comes-fits : (u : Network) (form : Form) (ks : List Carried) (k : ℕ) (next : Next) → Comes u form ks k next → Fits form ks next
comes-fits u form ks _ _ (skips rs e) = tt
comes-fits u form ks _ _ (begins g ins stage rs e res) = follow-fits form ks stage rs
comes-fits u form ks _ _ (enters k t g ins stage rs c res) = follow-fits form ks stage rs
comes-fits u form ks _ _ (iterates k g row rows ms lists c res) = gather-fits form ks ms lists

-- ---- what comes first

abbrev BegunFits : Form → List Carried → First → Type 0
BegunFits form ks (Begins g is s) = IsPartAt form s g × AreInputsAt form ks s is
BegunFits form ks (Skips rs) = ⊥

abbrev ArmFits : List ℕ → ℕ → First → Type 0
ArmFits arms n (Begins g is s) = IsPartAt (TagCase arms n) s g
ArmFits arms n (Skips rs) = ⊥

begun-same : (form : Form) (ks : List Carried) (g h : ℕ) (is js : List Carried) (s q : Stage) → Begins g is s ≡ Begins h js q → IsPartAt form s g × AreInputsAt form ks s is → IsPartAt form q h × AreInputsAt form ks q js
begun-same form ks g h is js s q e w = subst (BegunFits form ks) e w

-- an arm is one of the arms
arm-at : (n : ℕ) (arms : List ℕ) (v : Val) (others : List Carried) (i : ℕ) (o : Option ℕ) (h : ℕ) (is : List Carried) (s : Stage) → slice_get arms i ≡ o → enter_arm n v others o ≡ Begins h is s → IsPartAt (TagCase arms n) s h
arm-at n arms v others i None h is s at e = skips-not (errors n cause.Explicit) h is s e
arm-at n arms v others i (Some g) h is s at e = subst (ArmFits arms n) e (i, at)

arm-part : (n : ℕ) (arms : List ℕ) (others : List Carried) (y : Val-F Val) (h : ℕ) (is : List Carried) (s : Stage) → arm_in arms n others y ≡ Begins h is s → IsPartAt (TagCase arms n) s h
arm-part n arms others (Val-F.Uni tag v) h is s e = arm-at n arms v others tag (slice_get arms tag) h is s refl e
arm-part n arms others (Val-F.Err d) h is s e = skips-not (errors n d) h is s e
arm-part n arms others (Val-F.Int i) h is s e = skips-not (errors n cause.Explicit) h is s e
arm-part n arms others (Val-F.Bool b) h is s e = skips-not (errors n cause.Explicit) h is s e
arm-part n arms others (Val-F.Char d) h is s e = skips-not (errors n cause.Explicit) h is s e
arm-part n arms others Val-F.Null h is s e = skips-not (errors n cause.Explicit) h is s e
arm-part n arms others (Val-F.Arr a) h is s e = skips-not (errors n cause.Explicit) h is s e
arm-part n arms others (Val-F.Rec vs) h is s e = skips-not (errors n cause.Explicit) h is s e
arm-part n arms others (Val-F.Stream vs) h is s e = skips-not (errors n cause.Explicit) h is s e

arm-begun : (n : ℕ) (arms : List ℕ) (ks : List Carried) (h : ℕ) (is : List Carried) (s : Stage) → arm_of arms n ks ≡ Begins h is s → IsPartAt (TagCase arms n) s h
arm-begun n arms [] h is s e = skips-not (errors n cause.Explicit) h is s e
arm-begun n arms (c ∷ others) h is s e = arm-part n arms others (values.out-Val (val_of c)) h is s e

first-fits : (form : Form) (ks : List Carried) (h : ℕ) (is : List Carried) (s : Stage) → first form ks ≡ Begins h is s → IsPartAt form s h × AreInputsAt form ks s is
first-fits (Call g) ks h is s e = begun-same (Call g) ks g h ks is Called s e (refl, refl)
first-fits (Select t gs n) ks h is s e = begun-same (Select t gs n) ks t h ks is Selecting s e (refl, refl)
first-fits (TagCase arms n) ks h is s e = (arm-begun n arms ks h is s e, whole-arm arms n ks h is s e)
first-fits (LoopA i t b r n) ks h is s e = begun-same (LoopA i t b r n) ks i h ks is Starting s e (refl, refl)
first-fits (LoopB i t b r n) ks h is s e = begun-same (LoopB i t b r n) ks i h ks is Starting s e (refl, refl)
first-fits (ForAll g b r m n) ks h is s e = begun-same (ForAll g b r m n) ks g h ks is Generating s e (refl, refl)

pub stages-told : AreAllStagesTold
stages-told u form ks =
    record {
      begun = λ h is stage e. first-fits form ks h is stage e;
      entered = λ k h t is stage c. comes-fits u form ks k (Enter t h is stage) c;
      iterated = λ k h row rows ms c. comes-fits u form ks k (Iterate h row rows ms) c;
    }

-- ---- the parts of compound nodes

none-here : {P : Type 0} (h : ℕ) → None ≡ Some h → P
none-here h e = absurd (clash e)
  where
    clash : None ≡ Some h → ⊥
    clash e = cc

-- an alternative is a graph behind the selector
alternative-at : (gs : List Graph) (i h : ℕ) → slice_get (map (λ g. (out-Graph g).number) gs) i ≡ Some h → h ≡ number_or_zero (slice_get gs i)
alternative-at [] i h e = none-here h e
alternative-at (g ∷ gs) zero h e = some-same h (out-Graph g).number (sym e)
alternative-at (g ∷ gs) (suc i) h e = alternative-at gs i h e

behind-first : (gs : List Graph) (i h : ℕ) → slice_get (map (λ g. (out-Graph g).number) (drop 1 gs)) i ≡ Some h → h ≡ part gs (suc i)
behind-first [] i h e = none-here h e
behind-first (g ∷ gs) i h e = alternative-at gs i h e

-- an arm is a graph that the list of arms names
arm-named : (gs : List Graph) (arms : List ℕ) (i h : ℕ) → slice_get (map (part gs) arms) i ≡ Some h → (k : ℕ) × (h ≡ part gs k)
arm-named gs [] i h e = none-here h e
arm-named gs (a ∷ arms) zero h e = (a, some-same h (part gs a) (sym e))
arm-named gs (a ∷ arms) (suc i) h e = arm-named gs arms i h e

pub parts-told : ArePartsTold
parts-told compound.Select gs arms Selecting h w = record { place = 0; is_for = part.Selector; told = refl; there = refl; number = w }
parts-told compound.Select gs arms Chosen h w = record { place = suc w.0; is_for = part.Alternative; told = refl; there = refl; number = behind-first gs w.0 h w.1 }
parts-told compound.Select gs arms Called h w = absurd w
parts-told compound.Select gs arms Starting h w = absurd w
parts-told compound.Select gs arms (Testing turns) h w = absurd w
parts-told compound.Select gs arms (Turning turns) h w = absurd w
parts-told compound.Select gs arms Generating h w = absurd w
parts-told compound.Select gs arms Returning h w = absurd w
parts-told compound.TagCase gs arms Chosen h w = let a = arm-named gs arms w.0 h w.1 in record { place = a.0; is_for = part.Arm; told = refl; there = refl; number = a.1 }
parts-told compound.TagCase gs arms Called h w = absurd w
parts-told compound.TagCase gs arms Selecting h w = absurd w
parts-told compound.TagCase gs arms Starting h w = absurd w
parts-told compound.TagCase gs arms (Testing turns) h w = absurd w
parts-told compound.TagCase gs arms (Turning turns) h w = absurd w
parts-told compound.TagCase gs arms Generating h w = absurd w
parts-told compound.TagCase gs arms Returning h w = absurd w
parts-told compound.LoopA gs arms Starting h w = record { place = 0; is_for = part.Initialization; told = refl; there = refl; number = w }
parts-told compound.LoopA gs arms (Testing turns) h w = record { place = 1; is_for = part.Test; told = refl; there = refl; number = w }
parts-told compound.LoopA gs arms (Turning turns) h w = record { place = 2; is_for = part.Body; told = refl; there = refl; number = w }
parts-told compound.LoopA gs arms Returning h w = record { place = 3; is_for = part.Returns; told = refl; there = refl; number = w }
parts-told compound.LoopA gs arms Called h w = absurd w
parts-told compound.LoopA gs arms Selecting h w = absurd w
parts-told compound.LoopA gs arms Chosen h w = absurd w
parts-told compound.LoopA gs arms Generating h w = absurd w
parts-told compound.LoopB gs arms Starting h w = record { place = 0; is_for = part.Initialization; told = refl; there = refl; number = w }
parts-told compound.LoopB gs arms (Testing turns) h w = record { place = 1; is_for = part.Test; told = refl; there = refl; number = w }
parts-told compound.LoopB gs arms (Turning turns) h w = record { place = 2; is_for = part.Body; told = refl; there = refl; number = w }
parts-told compound.LoopB gs arms Returning h w = record { place = 3; is_for = part.Returns; told = refl; there = refl; number = w }
parts-told compound.LoopB gs arms Called h w = absurd w
parts-told compound.LoopB gs arms Selecting h w = absurd w
parts-told compound.LoopB gs arms Chosen h w = absurd w
parts-told compound.LoopB gs arms Generating h w = absurd w
parts-told compound.ForAll gs arms Generating h w = record { place = 0; is_for = part.Generator; told = refl; there = refl; number = w }
parts-told compound.ForAll gs arms Returning h w = record { place = 2; is_for = part.Returns; told = refl; there = refl; number = w }
parts-told compound.ForAll gs arms Called h w = absurd w
parts-told compound.ForAll gs arms Selecting h w = absurd w
parts-told compound.ForAll gs arms Chosen h w = absurd w
parts-told compound.ForAll gs arms Starting h w = absurd w
parts-told compound.ForAll gs arms (Testing turns) h w = absurd w
parts-told compound.ForAll gs arms (Turning turns) h w = absurd w
