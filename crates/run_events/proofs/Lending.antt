-- The operands of a node are the first inputs of each graph that it enters.
use Rattle.std.proofs.Common.{◌≡◌, ℕ, zero, suc, ◌-◌, Bool, true, false, if◌then◌else◌, pos, negsuc, List, [], ◌∷◌, ◌++◌, map, get_or, slice_get, Option, Some, None, refl, sym, ap, ◌∙◌, subst, rules, arith}
use Rattle.flow_value.specs.declared.cause.Cause.{Cause}
use Rattle.flow_value.specs.declared.cause.Cause.TheVariants as cause
use Rattle.flow_value.specs.declared.value.Val.{Val}
use Rattle.flow_value.specs.declared.value.Val.TheOpen.{Val-F}
use Rattle.flow_value.specs.declared.value.Val.TheViews as values
use Rattle.graph_meaning.specs.Carried.{Carried, Value, Unfilled, val_of}
use Rattle.graph_meaning.specs.Entered.{Item}
use Rattle.graph_meaning.specs.Forms.{Form, Call, Select, TagCase, LoopA, LoopB, ForAll, Begins, Skips, Next, Enter, Iterate, Leave, Stage, Called, Selecting, Chosen, Starting, Testing, Turning, Generating, Returning, errors, fails, enter_chosen, select, enter_arm, arm_in, arm_of, tested, first, follow, gather, spread, iterate, first_spoiled, are_as_long, rows_of, places_of, items, columns, turn_columns}
use Rattle.graph_meaning.specs.Demand.{Source, Port as Out, Network}
use Rattle.graph_meaning.specs.Plain.{Carries, input, CarryAll, no_port, port}
use Rattle.graph_meaning.proofs.PlainValues.{carried-once, operands-stand}
use Rattle.run_states.specs.Phases.{Comes, skips, begins, enters, iterates}
use Rattle.run_states.specs.Standing.{Path}
use Rattle.run_states.specs.Paths.{IsWhole, EntersAt, at_first, at_step, LeadsTo, inside, CarriesAt}
use Rattle.run_states.proofs.Lookups.{some-same}
use Rattle.run_states.proofs.Paths.{path-once}
use Rattle.run_events.specs.Lending.{BeginWith, AllBeginWith, IsOfArm, HasOperands, AreAllOperandsFirst, AreInputsLent, AreArmsLent, AreAllArmsLent}
use Rattle.run_events.specs.Carrying.{content_in, content_of}

append-none : (xs : List Carried) → xs ++ [] ≡ xs
append-none [] = refl
append-none (x ∷ xs) = ap (λ z. x ∷ z) (append-none xs)

append-same : (xs ys zs : List Carried) → (xs ++ ys) ++ zs ≡ xs ++ (ys ++ zs)
append-same [] ys zs = refl
append-same (x ∷ xs) ys zs = ap (λ z. x ∷ z) (append-same xs ys zs)

-- what a node of these operands does next begins with them
abbrev Keeps : List Carried → Next → Type 0
Keeps ks (Enter t g ins stage) = BeginWith ks ins
Keeps ks (Iterate g row rows ms) = AllBeginWith ks (row ∷ rows)
Keeps ks (Leave rs) = Unit {0}

alone : (ks : List Carried) → BeginWith ks ks
alone ks = ([], sym (append-none ks))

pub more : (ks own : List Carried) → BeginWith ks (ks ++ own)
more ks own = (own, refl)

pub two : (ks ms own : List Carried) → BeginWith ks (ks ++ ms ++ own)
two ks ms own = (ms ++ own, append-same ks ms own)

each-row : (ks : List Carried) (rows : List (List Carried)) → AllBeginWith ks (map (λ r. ks ++ r) rows)
each-row ks [] = tt
each-row ks (row ∷ rows) = (more ks row, each-row ks rows)

rolled : (v : Val) → v ≡ values.roll-Val (values.out-Val v)
rolled v = search (rules, values.the_lemmas)

-- what holds of each value by its outermost form
pub by-form : (P : Val → Type 0) → ((y : Val-F Val) → P (values.roll-Val y)) → (v : Val) → P v
by-form P f v = subst P (sym (rolled v)) (f (values.out-Val v))

chosen-keeps : (form : Form) (ks : List Carried) (o : Option ℕ) → Keeps ks (enter_chosen form ks o)
chosen-keeps form ks None = tt
chosen-keeps form ks (Some g) = alone ks

select-form : (form : Form) (gs : List ℕ) (ks : List Carried) (y : Val-F Val) → Keeps ks (select form gs ks (values.roll-Val y))
unfolding values.roll-Val denote.Hole.Carrier.roll
select-form form gs ks (Val-F.Int (pos i)) = chosen-keeps form ks (slice_get gs i)
select-form form gs ks (Val-F.Int (negsuc i)) = tt
select-form form gs ks (Val-F.Err c) = tt
select-form form gs ks (Val-F.Bool b) = tt
select-form form gs ks (Val-F.Char n) = tt
select-form form gs ks Val-F.Null = tt
select-form form gs ks (Val-F.Arr a) = tt
select-form form gs ks (Val-F.Rec vs) = tt
select-form form gs ks (Val-F.Uni t v) = tt
select-form form gs ks (Val-F.Stream vs) = tt

tested-form : (form : Form) (body returns : ℕ) (ks ls : List Carried) (before : List (List Carried)) (y : Val-F Val) → Keeps ks (tested form body returns ks ls before (values.roll-Val y))
unfolding values.roll-Val denote.Hole.Carrier.roll
tested-form form b r ks ls before (Val-F.Bool true) = more ks ls
tested-form form b r ks ls before (Val-F.Bool false) = more ks (turn_columns (ls ∷ before))
tested-form form b r ks ls before (Val-F.Err c) = tt
tested-form form b r ks ls before (Val-F.Int n) = tt
tested-form form b r ks ls before (Val-F.Char n) = tt
tested-form form b r ks ls before Val-F.Null = tt
tested-form form b r ks ls before (Val-F.Arr a) = tt
tested-form form b r ks ls before (Val-F.Rec vs) = tt
tested-form form b r ks ls before (Val-F.Uni t v) = tt
tested-form form b r ks ls before (Val-F.Stream vs) = tt

select-keeps : (form : Form) (gs : List ℕ) (ks : List Carried) (v : Val) → Keeps ks (select form gs ks v)
select-keeps form gs ks = by-form (λ v. Keeps ks (select form gs ks v)) (select-form form gs ks)

tested-keeps : (form : Form) (b r : ℕ) (ks ls : List Carried) (before : List (List Carried)) (v : Val) → Keeps ks (tested form b r ks ls before v)
tested-keeps form b r ks ls before = by-form (λ v. Keeps ks (tested form b r ks ls before v)) (tested-form form b r ks ls before)

spread-keeps : (b r m : ℕ) (ks ms : List Carried) (rows : List (List Carried)) → Keeps ks (spread b r m ks ms rows)
spread-keeps b r m ks ms [] = two ks ms (columns m [])
spread-keeps b r m ks ms (row ∷ rows) = (more ks row, each-row ks rows)

iterate-keeps : (form : Form) (b r m : ℕ) (ks ms : List Carried) (o : Option Cause) → Keeps ks (iterate form b r m ks ms o)
iterate-keeps form b r m ks ms (Some c) = tt
iterate-keeps form b r m ks ms None = go (are_as_long ms)
  where
    go : (long : Bool) → Keeps ks (if long then spread b r m ks ms (rows_of (places_of ms) (map items ms)) else fails form cause.Size)
    go true = spread-keeps b r m ks ms (rows_of (places_of ms) (map items ms))
    go false = tt

-- what follows a graph begins with the operands
follow-keeps : (form : Form) (ks : List Carried) (s : Stage) (rs : List Carried) → Keeps ks (follow form ks s rs)
follow-keeps (Call g) ks Called rs = tt
follow-keeps (Call g) ks Selecting rs = tt
follow-keeps (Call g) ks Chosen rs = tt
follow-keeps (Call g) ks Starting rs = tt
follow-keeps (Call g) ks (Testing turns) rs = tt
follow-keeps (Call g) ks (Turning turns) rs = tt
follow-keeps (Call g) ks Generating rs = tt
follow-keeps (Call g) ks Returning rs = tt
follow-keeps (Select s gs n) ks Called rs = tt
follow-keeps (Select s gs n) ks Selecting [] = tt
follow-keeps (Select s gs n) ks Selecting (r ∷ []) = select-keeps (Select s gs n) gs ks (val_of r)
follow-keeps (Select s gs n) ks Selecting (r ∷ (q ∷ rs)) = tt
follow-keeps (Select s gs n) ks Chosen rs = tt
follow-keeps (Select s gs n) ks Starting rs = tt
follow-keeps (Select s gs n) ks (Testing turns) rs = tt
follow-keeps (Select s gs n) ks (Turning turns) rs = tt
follow-keeps (Select s gs n) ks Generating rs = tt
follow-keeps (Select s gs n) ks Returning rs = tt
follow-keeps (TagCase gs n) ks Called rs = tt
follow-keeps (TagCase gs n) ks Selecting rs = tt
follow-keeps (TagCase gs n) ks Chosen rs = tt
follow-keeps (TagCase gs n) ks Starting rs = tt
follow-keeps (TagCase gs n) ks (Testing turns) rs = tt
follow-keeps (TagCase gs n) ks (Turning turns) rs = tt
follow-keeps (TagCase gs n) ks Generating rs = tt
follow-keeps (TagCase gs n) ks Returning rs = tt
follow-keeps (LoopA i t b r n) ks Called rs = tt
follow-keeps (LoopA i t b r n) ks Selecting rs = tt
follow-keeps (LoopA i t b r n) ks Chosen rs = tt
follow-keeps (LoopA i t b r n) ks Starting rs = more ks rs
follow-keeps (LoopA i t b r n) ks (Testing []) rs = tt
follow-keeps (LoopA i t b r n) ks (Testing (l ∷ ls)) [] = tt
follow-keeps (LoopA i t b r n) ks (Testing (l ∷ ls)) (q ∷ []) = tested-keeps (LoopA i t b r n) b r ks l ls (val_of q)
follow-keeps (LoopA i t b r n) ks (Testing (l ∷ ls)) (q ∷ (z ∷ rs)) = tt
follow-keeps (LoopA i t b r n) ks (Turning turns) rs = more ks rs
follow-keeps (LoopA i t b r n) ks Generating rs = tt
follow-keeps (LoopA i t b r n) ks Returning rs = tt
follow-keeps (LoopB i t b r n) ks Called rs = tt
follow-keeps (LoopB i t b r n) ks Selecting rs = tt
follow-keeps (LoopB i t b r n) ks Chosen rs = tt
follow-keeps (LoopB i t b r n) ks Starting rs = more ks rs
follow-keeps (LoopB i t b r n) ks (Testing []) rs = tt
follow-keeps (LoopB i t b r n) ks (Testing (l ∷ ls)) [] = tt
follow-keeps (LoopB i t b r n) ks (Testing (l ∷ ls)) (q ∷ []) = tested-keeps (LoopB i t b r n) b r ks l ls (val_of q)
follow-keeps (LoopB i t b r n) ks (Testing (l ∷ ls)) (q ∷ (z ∷ rs)) = tt
follow-keeps (LoopB i t b r n) ks (Turning turns) rs = more ks rs
follow-keeps (LoopB i t b r n) ks Generating rs = tt
follow-keeps (LoopB i t b r n) ks Returning rs = tt
follow-keeps (ForAll g b r m n) ks Called rs = tt
follow-keeps (ForAll g b r m n) ks Selecting rs = tt
follow-keeps (ForAll g b r m n) ks Chosen rs = tt
follow-keeps (ForAll g b r m n) ks Starting rs = tt
follow-keeps (ForAll g b r m n) ks (Testing turns) rs = tt
follow-keeps (ForAll g b r m n) ks (Turning turns) rs = tt
follow-keeps (ForAll g b r m n) ks Generating rs = iterate-keeps (ForAll g b r m n) b r m ks rs (first_spoiled rs)
follow-keeps (ForAll g b r m n) ks Returning rs = tt

gather-keeps : (form : Form) (ks ms : List Carried) (rows : List (List Carried)) → Keeps ks (gather form ks ms rows)
gather-keeps (Call g) ks ms rows = tt
gather-keeps (Select s gs n) ks ms rows = tt
gather-keeps (TagCase gs n) ks ms rows = tt
gather-keeps (LoopA i t b r n) ks ms rows = tt
gather-keeps (LoopB i t b r n) ks ms rows = tt
gather-keeps (ForAll g b r m n) ks ms rows = two ks ms (columns m rows)

module _ (u : Network) (form : Form) (ks : List Carried) where
  comes-keeps : (k : ℕ) (next : Next) → Comes u form ks k next → Keeps ks next
  comes-keeps _ _ (skips rs e) = tt
  comes-keeps _ _ (begins g ins stage rs e res) = follow-keeps form ks stage rs
  comes-keeps _ _ (enters k t g ins stage rs c res) = follow-keeps form ks stage rs
  comes-keeps _ _ (iterates k g row rows ms lists c res) = gather-keeps form ks ms lists

-- ---- a TagCase

abbrev Leaves : Next → Type 0
Leaves (Leave rs) = Unit {0}
Leaves _ = ⊥

arm-leaves : (arms : List ℕ) (n : ℕ) (ks : List Carried) (s : Stage) (rs : List Carried) → Leaves (follow (TagCase arms n) ks s rs)
arm-leaves arms n ks Called rs = tt
arm-leaves arms n ks Selecting rs = tt
arm-leaves arms n ks Chosen rs = tt
arm-leaves arms n ks Starting rs = tt
arm-leaves arms n ks (Testing turns) rs = tt
arm-leaves arms n ks (Turning turns) rs = tt
arm-leaves arms n ks Generating rs = tt
arm-leaves arms n ks Returning rs = tt

tag-leaves : (u : Network) (arms : List ℕ) (n : ℕ) (ks : List Carried) (k : ℕ) (next : Next) → Comes u (TagCase arms n) ks k next → Leaves next
tag-leaves u arms n ks _ _ (skips rs e) = tt
tag-leaves u arms n ks _ _ (begins g ins stage rs e res) = arm-leaves arms n ks stage rs
tag-leaves u arms n ks _ _ (enters k t g ins stage rs c res) = arm-leaves arms n ks stage rs
tag-leaves u arms n ks _ _ (iterates k g row rows ms lists c res) = tt

begins-same : (g h : ℕ) (is js : List Carried) (s q : Stage) → Begins g is s ≡ Begins h js q → is ≡ js
begins-same g h is js s q e = cc

pub skips-not : {P : Type 0} (rs : List Carried) (h : ℕ) (is : List Carried) (s : Stage) → Skips rs ≡ Begins h is s → P
skips-not rs h is s e = absurd (clash e)
  where
    clash : Skips rs ≡ Begins h is s → ⊥
    clash e = cc

arm-entered : (n : ℕ) (v : Val) (c : Carried) (others : List Carried) (tag : ℕ) (o : Option ℕ) (h : ℕ) (is : List Carried) (s : Stage) → values.out-Val (val_of c) ≡ Val-F.Uni tag v → enter_arm n v others o ≡ Begins h is s → IsOfArm (c ∷ others) is
arm-entered n v c others tag None h is s u e = skips-not (errors n cause.Explicit) h is s e
arm-entered n v c others tag (Some g) h is s u e =
    record { union = c; others = others; tag = tag; content = v; operands = refl; is_union = u; inputs = sym (begins-same g h (Value v ∷ others) is Chosen s e) }

arm-by : (arms : List ℕ) (n : ℕ) (c : Carried) (others : List Carried) (y : Val-F Val) (h : ℕ) (is : List Carried) (s : Stage) → values.out-Val (val_of c) ≡ y → arm_in arms n others y ≡ Begins h is s → IsOfArm (c ∷ others) is
arm-by arms n c others (Val-F.Uni tag v) h is s u e = arm-entered n v c others tag (slice_get arms tag) h is s u e
arm-by arms n c others (Val-F.Err d) h is s u e = skips-not (errors n d) h is s e
arm-by arms n c others (Val-F.Int i) h is s u e = skips-not (errors n cause.Explicit) h is s e
arm-by arms n c others (Val-F.Bool b) h is s u e = skips-not (errors n cause.Explicit) h is s e
arm-by arms n c others (Val-F.Char d) h is s u e = skips-not (errors n cause.Explicit) h is s e
arm-by arms n c others Val-F.Null h is s u e = skips-not (errors n cause.Explicit) h is s e
arm-by arms n c others (Val-F.Arr a) h is s u e = skips-not (errors n cause.Explicit) h is s e
arm-by arms n c others (Val-F.Rec vs) h is s u e = skips-not (errors n cause.Explicit) h is s e
arm-by arms n c others (Val-F.Stream vs) h is s u e = skips-not (errors n cause.Explicit) h is s e

pub whole-arm : (arms : List ℕ) (n : ℕ) (ks : List Carried) (h : ℕ) (is : List Carried) (s : Stage) → arm_of arms n ks ≡ Begins h is s → IsOfArm ks is
whole-arm arms n [] h is s e = skips-not (errors n cause.Explicit) h is s e
whole-arm arms n (c ∷ others) h is s e = arm-by arms n c others (values.out-Val (val_of c)) h is s refl e

-- ---- all forms

same-inputs : (ks is : List Carried) → ks ≡ is → BeginWith ks is
same-inputs ks is e = ([], sym e ∙ sym (append-none ks))

first-has : (form : Form) (ks : List Carried) (h : ℕ) (is : List Carried) (s : Stage) → first form ks ≡ Begins h is s → HasOperands form ks is
first-has (Call g) ks h is s e = same-inputs ks is (begins-same g h ks is Called s e)
first-has (Select t gs n) ks h is s e = same-inputs ks is (begins-same t h ks is Selecting s e)
first-has (TagCase arms n) ks h is s e = whole-arm arms n ks h is s e
first-has (LoopA i t b r n) ks h is s e = same-inputs ks is (begins-same i h ks is Starting s e)
first-has (LoopB i t b r n) ks h is s e = same-inputs ks is (begins-same i h ks is Starting s e)
first-has (ForAll g b r m n) ks h is s e = same-inputs ks is (begins-same g h ks is Generating s e)

later-has : (u : Network) (form : Form) (ks : List Carried) (k : ℕ) (t : Bool) (h : ℕ) (is : List Carried) (s : Stage) → Comes u form ks k (Enter t h is s) → HasOperands form ks is
later-has u (Call g) ks k t h is s c = comes-keeps u (Call g) ks k (Enter t h is s) c
later-has u (Select a gs n) ks k t h is s c = comes-keeps u (Select a gs n) ks k (Enter t h is s) c
later-has u (TagCase arms n) ks k t h is s c = absurd (tag-leaves u arms n ks k (Enter t h is s) c)
later-has u (LoopA i a b r n) ks k t h is s c = comes-keeps u (LoopA i a b r n) ks k (Enter t h is s) c
later-has u (LoopB i a b r n) ks k t h is s c = comes-keeps u (LoopB i a b r n) ks k (Enter t h is s) c
later-has u (ForAll g b r m n) ks k t h is s c = comes-keeps u (ForAll g b r m n) ks k (Enter t h is s) c

entered-has : (u : Network) (form : Form) (ks : List Carried) (l k h : ℕ) (e : Item) (is : List Carried) → EntersAt u form ks l k e h is → HasOperands form ks is
entered-has u form ks l _ _ _ _ (at_first h is s e) = first-has form ks h is s e
entered-has u form ks l _ _ _ _ (at_step k t h is s c) = later-has u form ks k t h is s c

pub operands-first : AreAllOperandsFirst
operands-first u form ks = record { entered = entered-has u form ks; iterated = λ k h row rows ms c. comes-keeps u form ks k (Iterate h row rows ms) c }

-- ---- what an input carries

-- the source at a place carries the operand there
carried-there : (u : Network) (d h : ℕ) (is : List Carried) (os : List Source) (ks : List Carried) (i : ℕ) (o : Source) → CarryAll u d h is os ks → slice_get os i ≡ Some o → (c : Carried) × (slice_get ks i ≡ Some c) × Carries u d h is o c
carried-there u _ _ _ _ _ i o (no_port n g ins) e = absurd (none e)
  where
    none : slice_get [] i ≡ Some o → ⊥
    none e = cc
carried-there u _ _ _ _ _ zero o (port n g ins q os c cs a b) e = (c, refl, subst (λ z. Carries u n g ins z c) (some-same q o e) a)
carried-there u _ _ _ _ _ (suc i) o (port n g ins q os c cs a b) e = carried-there u n g ins os cs i o b e

first-read : (ks own : List Carried) (i : ℕ) (c : Carried) → slice_get ks i ≡ Some c → get_or (ks ++ own) i Unfilled ≡ c
first-read [] own i c e = absurd (none e)
  where
    none : slice_get [] i ≡ Some c → ⊥
    none e = cc
first-read (k ∷ ks) own zero c e = some-same k c e
first-read (k ∷ ks) own (suc i) c e = first-read ks own i c e

one-carried : (u : Network) (h : ℕ) (is : List Carried) (o : Source) (b c : Carried) (d e : ℕ) → Carries u d h is o b → Carries u e h is o c → b ≡ c
one-carried u h is o b c d e x y = head (carried-once u h is (o ∷ []) (b ∷ []) (c ∷ []) d e (port d h is o [] b [] x (no_port d h is)) (port e h is o [] c [] y (no_port e h is)))
  where
    head : b ∷ [] ≡ c ∷ [] → b ≡ c
    head e = cc

pub inputs-lent : AreInputsLent
inputs-lent u g ins p h l k j i is js ks form e o c to w entering first-ones at carried =
    let all = operands-stand u w.given.0 w.given.0 (omega arith) h is w.node.ins ks w.given.1 in
    let own = carried-there u w.given.0 h is w.node.ins ks i o all at in
    let same = own-carried carried own.0 own.2 in
    let value : get_or js i Unfilled ≡ c = ap (λ z. get_or z i Unfilled) first-ones.1 ∙ (first-read ks first-ones.0 i own.0 own.1 ∙ same) in
    let back : suc i - 1 ≡ i = omega arith in
    (j, js, inside l k e p h is form ks j js to w entering, (0, subst (Carries u 0 j js (Out 0 (suc i))) (ap (λ z. get_or js z Unfilled) back ∙ value) (input 0 j js (suc i))))
  where
    own-carried : CarriesAt u g ins p o c → (b : Carried) → Carries u w.given.0 h is o b → b ≡ c
    own-carried (q, qs, way, (d, x)) b y =
        let s = path-once u g ins p q h qs is way to in
        one-carried u h is o b c w.given.0 d y (subst (λ z. Carries u d h z o c) s.1 (subst (λ z. Carries u d z qs o c) s.0 x))

-- ---- what the inputs of an arm carry

module _ (u : Network) (g : ℕ) (ins : List Carried) (p : Path) (h l k j : ℕ) (is js ks : List Carried) (form : Form) (e : Item) (to : LeadsTo u g ins p h is) (w : IsWhole u h is l form ks) (entering : EntersAt u form ks l k e j js) (arm : IsOfArm ks js) where
  -- the source of an operand carries it
  operand-at : (i : ℕ) (o : Source) (c : Carried) → slice_get w.node.ins i ≡ Some o → CarriesAt u g ins p o c → slice_get ks i ≡ Some c
  operand-at i o c at (q, qs, way, (d, x)) =
      let all = operands-stand u w.given.0 w.given.0 (omega arith) h is w.node.ins ks w.given.1 in
      let own = carried-there u w.given.0 h is w.node.ins ks i o all at in
      let s = path-once u g ins p q h qs is way to in
      let same = one-carried u h is o own.0 c w.given.0 d own.2 (subst (λ z. Carries u d h z o c) s.1 (subst (λ z. Carries u d z qs o c) s.0 x)) in
      own.1 ∙ ap (λ z. Some z) same

  input-at : (i : ℕ) (c : Carried) → get_or js i Unfilled ≡ c → CarriesAt u g ins ((l, k) ∷ p) (Out 0 (suc i)) c
  input-at i c value =
      let back : suc i - 1 ≡ i = omega arith in
      (j, js, inside l k e p h is form ks j js to w entering, (0, subst (Carries u 0 j js (Out 0 (suc i))) (ap (λ z. get_or js z Unfilled) back ∙ value) (input 0 j js (suc i))))

  first-operand : (c : Carried) → slice_get ks 0 ≡ Some c → arm.union ≡ c
  first-operand c e = some-same arm.union c (sym (ap (λ z. slice_get z 0) arm.operands) ∙ e)

  at-place : (xs : List Carried) (i : ℕ) (c : Carried) → slice_get xs i ≡ Some c → get_or xs i Unfilled ≡ c
  at-place [] i c e = absurd (none e)
    where
      none : slice_get [] i ≡ Some c → ⊥
      none e = cc
  at-place (x ∷ xs) zero c e = some-same x c e
  at-place (x ∷ xs) (suc i) c e = at-place xs i c e

  arms-here : AreArmsLent u g ins p l k w.node.ins
  arms-here =
      record {
        union = λ o c d at carried content.
            let same = first-operand c (operand-at 0 o c at carried) in
            let value : Value arm.content ≡ d = some-same (Value arm.content) d (sym (ap content_in arm.is_union) ∙ (ap content_of same ∙ content)) in
            input-at 0 d (ap (λ z. get_or z 0 Unfilled) arm.inputs ∙ value);
        others = λ i o c at carried.
            let there = sym (ap (λ z. slice_get z (suc i)) arm.operands) ∙ operand-at (suc i) o c at carried in
            input-at (suc i) c (ap (λ z. get_or z (suc i) Unfilled) arm.inputs ∙ at-place arm.others i c there);
      }

pub arms-lent : AreAllArmsLent
arms-lent u g ins p h l k j is js ks form e to w entering arm = arms-here u g ins p h l k j is js ks form e to w entering arm
