-- How many items without a firing a node may have before its next turn, slices among them.
use Rattle.std.proofs.Common.{◌≡◌, ℕ, ◌+◌, ◌≤◌, Bool, true, false, if◌then◌else◌, pos, negsuc, List, [], ◌∷◌, map, slice_get, Option, Some, None, sym, subst, rules, arith}
use Rattle.flow_value.specs.declared.cause.Cause.{Cause}
use Rattle.flow_value.specs.declared.cause.Cause.TheVariants as cause
use Rattle.flow_value.specs.declared.value.Val.{Val}
use Rattle.flow_value.specs.declared.value.Val.TheOpen.{Val-F}
use Rattle.flow_value.specs.declared.value.Val.TheViews as values
use Rattle.graph_meaning.specs.Carried.{Carried, val_of}
use Rattle.graph_meaning.specs.Forms.{Form, Call, Select, TagCase, LoopA, LoopB, ForAll, Next, Enter, Iterate, Leave, Stage, Called, Selecting, Chosen, Starting, Testing, Turning, Generating, Returning, fails, enter_chosen, select, tested, follow, gather, spread, iterate, first_spoiled, are_as_long, rows_of, places_of, items}

-- after the graph that it entered at this stage, where there are at most so many slices
abbrev pub after : ℕ → Stage → ℕ
after slices Called = 1
after slices Selecting = 2
after slices Chosen = 1
after slices Starting = 3
after slices (Testing turns) = 2
after slices (Turning turns) = 3
after slices Generating = slices + 2
after slices Returning = 1

-- from here on. A turn counts a firing of its own.
abbrev pub budget : ℕ → Next → ℕ
budget slices (Enter true g ins stage) = 0
budget slices (Enter false g ins stage) = 1 + after slices stage
budget slices (Iterate g row rows ms) = slices + 2
budget slices (Leave rs) = 1

pub after-most : (n : ℕ) (s : Stage) → 1 ≤ n → after n s ≤ n + 2
after-most n Called some = omega (arith, some)
after-most n Selecting some = omega (arith, some)
after-most n Chosen some = omega (arith, some)
after-most n Starting some = omega (arith, some)
after-most n (Testing turns) some = omega (arith, some)
after-most n (Turning turns) some = omega (arith, some)
after-most n Generating some = omega (arith, some)
after-most n Returning some = omega (arith, some)

rolled : (v : Val) → v ≡ values.roll-Val (values.out-Val v)
rolled v = search (rules, values.the_lemmas)

-- what holds of each value by its outermost form
by-form : (P : Val → Type 0) → ((y : Val-F Val) → P (values.roll-Val y)) → (v : Val) → P v
by-form P f v = subst P (sym (rolled v)) (f (values.out-Val v))

chosen-pace : (sl : ℕ) → (form : Form) (ks : List Carried) (o : Option ℕ) → budget sl (enter_chosen form ks o) ≤ 2
chosen-pace sl form ks None = omega arith
chosen-pace sl form ks (Some g) = omega arith

select-form : (sl : ℕ) → (form : Form) (gs : List ℕ) (ks : List Carried) (y : Val-F Val) → budget sl (select form gs ks (values.roll-Val y)) ≤ 2
unfolding values.roll-Val denote.Hole.Carrier.roll
select-form sl form gs ks (Val-F.Int (pos i)) = chosen-pace sl form ks (slice_get gs i)
select-form sl form gs ks (Val-F.Int (negsuc i)) = omega arith
select-form sl form gs ks (Val-F.Err c) = omega arith
select-form sl form gs ks (Val-F.Bool b) = omega arith
select-form sl form gs ks (Val-F.Char n) = omega arith
select-form sl form gs ks Val-F.Null = omega arith
select-form sl form gs ks (Val-F.Arr a) = omega arith
select-form sl form gs ks (Val-F.Rec vs) = omega arith
select-form sl form gs ks (Val-F.Uni t v) = omega arith
select-form sl form gs ks (Val-F.Stream vs) = omega arith

tested-form : (sl : ℕ) → (form : Form) (body returns : ℕ) (ks ls : List Carried) (before : List (List Carried)) (y : Val-F Val) → budget sl (tested form body returns ks ls before (values.roll-Val y)) ≤ 2
unfolding values.roll-Val denote.Hole.Carrier.roll
tested-form sl form b r ks ls before (Val-F.Bool true) = omega arith
tested-form sl form b r ks ls before (Val-F.Bool false) = omega arith
tested-form sl form b r ks ls before (Val-F.Err c) = omega arith
tested-form sl form b r ks ls before (Val-F.Int n) = omega arith
tested-form sl form b r ks ls before (Val-F.Char n) = omega arith
tested-form sl form b r ks ls before Val-F.Null = omega arith
tested-form sl form b r ks ls before (Val-F.Arr a) = omega arith
tested-form sl form b r ks ls before (Val-F.Rec vs) = omega arith
tested-form sl form b r ks ls before (Val-F.Uni t v) = omega arith
tested-form sl form b r ks ls before (Val-F.Stream vs) = omega arith

select-pace : (sl : ℕ) → (form : Form) (gs : List ℕ) (ks : List Carried) (v : Val) → budget sl (select form gs ks v) ≤ 2
select-pace sl form gs ks = by-form (λ v. budget sl (select form gs ks v) ≤ 2) (select-form sl form gs ks)

tested-pace : (sl : ℕ) → (form : Form) (b r : ℕ) (ks ls : List Carried) (before : List (List Carried)) (v : Val) → budget sl (tested form b r ks ls before v) ≤ 2
tested-pace sl form b r ks ls before = by-form (λ v. budget sl (tested form b r ks ls before v) ≤ 2) (tested-form sl form b r ks ls before)

spread-pace : (sl : ℕ) → (b r m : ℕ) (ks ms : List Carried) (rows : List (List Carried)) → budget sl (spread b r m ks ms rows) ≤ sl + 2
spread-pace sl b r m ks ms [] = omega arith
spread-pace sl b r m ks ms (row ∷ rows) = omega arith

iterate-pace : (sl : ℕ) → (form : Form) (b r m : ℕ) (ks ms : List Carried) (o : Option Cause) → budget sl (iterate form b r m ks ms o) ≤ sl + 2
iterate-pace sl form b r m ks ms (Some c) = omega arith
iterate-pace sl form b r m ks ms None = go (are_as_long ms)
  where
    go : (long : Bool) → budget sl (if long then spread b r m ks ms (rows_of (places_of ms) (map items ms)) else fails form cause.Size) ≤ sl + 2
    go true = spread-pace sl b r m ks ms (rows_of (places_of ms) (map items ms))
    go false = omega arith

-- what follows a graph has no more to come than was said
pub follow-pace : (sl : ℕ) → (form : Form) (ks : List Carried) (s : Stage) (rs : List Carried) → budget sl (follow form ks s rs) ≤ after sl s
follow-pace sl (Call g) ks Called rs = omega arith
follow-pace sl (Call g) ks Selecting rs = omega arith
follow-pace sl (Call g) ks Chosen rs = omega arith
follow-pace sl (Call g) ks Starting rs = omega arith
follow-pace sl (Call g) ks (Testing turns) rs = omega arith
follow-pace sl (Call g) ks (Turning turns) rs = omega arith
follow-pace sl (Call g) ks Generating rs = omega arith
follow-pace sl (Call g) ks Returning rs = omega arith
follow-pace sl (Select s gs n) ks Called rs = omega arith
follow-pace sl (Select s gs n) ks Selecting [] = omega arith
follow-pace sl (Select s gs n) ks Selecting (r ∷ []) = select-pace sl (Select s gs n) gs ks (val_of r)
follow-pace sl (Select s gs n) ks Selecting (r ∷ (q ∷ rs)) = omega arith
follow-pace sl (Select s gs n) ks Chosen rs = omega arith
follow-pace sl (Select s gs n) ks Starting rs = omega arith
follow-pace sl (Select s gs n) ks (Testing turns) rs = omega arith
follow-pace sl (Select s gs n) ks (Turning turns) rs = omega arith
follow-pace sl (Select s gs n) ks Generating rs = omega arith
follow-pace sl (Select s gs n) ks Returning rs = omega arith
follow-pace sl (TagCase gs n) ks Called rs = omega arith
follow-pace sl (TagCase gs n) ks Selecting rs = omega arith
follow-pace sl (TagCase gs n) ks Chosen rs = omega arith
follow-pace sl (TagCase gs n) ks Starting rs = omega arith
follow-pace sl (TagCase gs n) ks (Testing turns) rs = omega arith
follow-pace sl (TagCase gs n) ks (Turning turns) rs = omega arith
follow-pace sl (TagCase gs n) ks Generating rs = omega arith
follow-pace sl (TagCase gs n) ks Returning rs = omega arith
follow-pace sl (LoopA i t b r n) ks Called rs = omega arith
follow-pace sl (LoopA i t b r n) ks Selecting rs = omega arith
follow-pace sl (LoopA i t b r n) ks Chosen rs = omega arith
follow-pace sl (LoopA i t b r n) ks Starting rs = omega arith
follow-pace sl (LoopA i t b r n) ks (Testing []) rs = omega arith
follow-pace sl (LoopA i t b r n) ks (Testing (l ∷ ls)) [] = omega arith
follow-pace sl (LoopA i t b r n) ks (Testing (l ∷ ls)) (q ∷ []) = tested-pace sl (LoopA i t b r n) b r ks l ls (val_of q)
follow-pace sl (LoopA i t b r n) ks (Testing (l ∷ ls)) (q ∷ (z ∷ rs)) = omega arith
follow-pace sl (LoopA i t b r n) ks (Turning turns) rs = omega arith
follow-pace sl (LoopA i t b r n) ks Generating rs = omega arith
follow-pace sl (LoopA i t b r n) ks Returning rs = omega arith
follow-pace sl (LoopB i t b r n) ks Called rs = omega arith
follow-pace sl (LoopB i t b r n) ks Selecting rs = omega arith
follow-pace sl (LoopB i t b r n) ks Chosen rs = omega arith
follow-pace sl (LoopB i t b r n) ks Starting rs = omega arith
follow-pace sl (LoopB i t b r n) ks (Testing []) rs = omega arith
follow-pace sl (LoopB i t b r n) ks (Testing (l ∷ ls)) [] = omega arith
follow-pace sl (LoopB i t b r n) ks (Testing (l ∷ ls)) (q ∷ []) = tested-pace sl (LoopB i t b r n) b r ks l ls (val_of q)
follow-pace sl (LoopB i t b r n) ks (Testing (l ∷ ls)) (q ∷ (z ∷ rs)) = omega arith
follow-pace sl (LoopB i t b r n) ks (Turning turns) rs = omega arith
follow-pace sl (LoopB i t b r n) ks Generating rs = omega arith
follow-pace sl (LoopB i t b r n) ks Returning rs = omega arith
follow-pace sl (ForAll g b r m n) ks Called rs = omega arith
follow-pace sl (ForAll g b r m n) ks Selecting rs = omega arith
follow-pace sl (ForAll g b r m n) ks Chosen rs = omega arith
follow-pace sl (ForAll g b r m n) ks Starting rs = omega arith
follow-pace sl (ForAll g b r m n) ks (Testing turns) rs = omega arith
follow-pace sl (ForAll g b r m n) ks (Turning turns) rs = omega arith
follow-pace sl (ForAll g b r m n) ks Generating rs = iterate-pace sl (ForAll g b r m n) b r m ks rs (first_spoiled rs)
follow-pace sl (ForAll g b r m n) ks Returning rs = omega arith

pub gather-pace : (sl : ℕ) → (form : Form) (ks ms : List Carried) (rows : List (List Carried)) → budget sl (gather form ks ms rows) ≤ 2
gather-pace sl (Call g) ks ms rows = omega arith
gather-pace sl (Select s gs n) ks ms rows = omega arith
gather-pace sl (TagCase gs n) ks ms rows = omega arith
gather-pace sl (LoopA i t b r n) ks ms rows = omega arith
gather-pace sl (LoopB i t b r n) ks ms rows = omega arith
gather-pace sl (ForAll g b r m n) ks ms rows = omega arith
