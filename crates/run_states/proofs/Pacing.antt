-- With each step of a node fewer items without a firing are to come.
use Rattle.std.proofs.Common.{◌≡◌, ℕ, ◌≤◌, Bool, true, false, if◌then◌else◌, pos, negsuc, List, [], ◌∷◌, map, slice_get, Option, Some, None, sym, subst, rules, arith}
use Rattle.flow_value.specs.declared.cause.Cause.{Cause}
use Rattle.flow_value.specs.declared.cause.Cause.TheVariants as cause
use Rattle.flow_value.specs.declared.value.Val.{Val}
use Rattle.flow_value.specs.declared.value.Val.TheOpen.{Val-F}
use Rattle.flow_value.specs.declared.value.Val.TheViews as values
use Rattle.graph_meaning.specs.Carried.{Carried, val_of}
use Rattle.graph_meaning.specs.Forms.{Form, Call, Select, TagCase, LoopA, LoopB, ForAll, Stage, Called, Selecting, Chosen, Starting, Testing, Turning, Generating, Returning, fails, enter_chosen, select, tested, follow, gather, spread, iterate, first_spoiled, are_as_long, rows_of, places_of, items}
use Rattle.run_states.specs.Pacing.{to_come, pace}

rolled : (v : Val) → v ≡ values.roll-Val (values.out-Val v)
rolled v = search (rules, values.the_lemmas)

-- what holds of each value by its outermost form
by-form : (P : Val → Type 0) → ((y : Val-F Val) → P (values.roll-Val y)) → (v : Val) → P v
by-form P f v = subst P (sym (rolled v)) (f (values.out-Val v))

some-to-come : (s : Stage) → 1 ≤ to_come s
some-to-come Called = omega arith
some-to-come Selecting = omega arith
some-to-come Chosen = omega arith
some-to-come Starting = omega arith
some-to-come (Testing turns) = omega arith
some-to-come (Turning turns) = omega arith
some-to-come Generating = omega arith
some-to-come Returning = omega arith

chosen-pace : (form : Form) (ks : List Carried) (o : Option ℕ) → pace (enter_chosen form ks o) ≤ 2
chosen-pace form ks None = omega arith
chosen-pace form ks (Some g) = omega arith

select-form : (form : Form) (gs : List ℕ) (ks : List Carried) (y : Val-F Val) → pace (select form gs ks (values.roll-Val y)) ≤ 2
unfolding values.roll-Val denote.Hole.Carrier.roll
select-form form gs ks (Val-F.Int (pos i)) = chosen-pace form ks (slice_get gs i)
select-form form gs ks (Val-F.Int (negsuc i)) = omega arith
select-form form gs ks (Val-F.Err c) = omega arith
select-form form gs ks (Val-F.Bool b) = omega arith
select-form form gs ks (Val-F.Char n) = omega arith
select-form form gs ks Val-F.Null = omega arith
select-form form gs ks (Val-F.Arr a) = omega arith
select-form form gs ks (Val-F.Rec vs) = omega arith
select-form form gs ks (Val-F.Uni t v) = omega arith
select-form form gs ks (Val-F.Stream vs) = omega arith

tested-form : (form : Form) (body returns : ℕ) (ks ls : List Carried) (before : List (List Carried)) (y : Val-F Val) → pace (tested form body returns ks ls before (values.roll-Val y)) ≤ 2
unfolding values.roll-Val denote.Hole.Carrier.roll
tested-form form b r ks ls before (Val-F.Bool true) = omega arith
tested-form form b r ks ls before (Val-F.Bool false) = omega arith
tested-form form b r ks ls before (Val-F.Err c) = omega arith
tested-form form b r ks ls before (Val-F.Int n) = omega arith
tested-form form b r ks ls before (Val-F.Char n) = omega arith
tested-form form b r ks ls before Val-F.Null = omega arith
tested-form form b r ks ls before (Val-F.Arr a) = omega arith
tested-form form b r ks ls before (Val-F.Rec vs) = omega arith
tested-form form b r ks ls before (Val-F.Uni t v) = omega arith
tested-form form b r ks ls before (Val-F.Stream vs) = omega arith

select-pace : (form : Form) (gs : List ℕ) (ks : List Carried) (v : Val) → pace (select form gs ks v) ≤ 2
select-pace form gs ks = by-form (λ v. pace (select form gs ks v) ≤ 2) (select-form form gs ks)

tested-pace : (form : Form) (b r : ℕ) (ks ls : List Carried) (before : List (List Carried)) (v : Val) → pace (tested form b r ks ls before v) ≤ 2
tested-pace form b r ks ls before = by-form (λ v. pace (tested form b r ks ls before v) ≤ 2) (tested-form form b r ks ls before)

spread-pace : (b r m : ℕ) (ks ms : List Carried) (rows : List (List Carried)) → pace (spread b r m ks ms rows) ≤ 2
spread-pace b r m ks ms [] = omega arith
spread-pace b r m ks ms (row ∷ rows) = omega arith

iterate-pace : (form : Form) (b r m : ℕ) (ks ms : List Carried) (o : Option Cause) → pace (iterate form b r m ks ms o) ≤ 2
iterate-pace form b r m ks ms (Some c) = omega arith
iterate-pace form b r m ks ms None = go (are_as_long ms)
  where
    go : (long : Bool) → pace (if long then spread b r m ks ms (rows_of (places_of ms) (map items ms)) else fails form cause.Size) ≤ 2
    go true = spread-pace b r m ks ms (rows_of (places_of ms) (map items ms))
    go false = omega arith

-- what follows a graph has no more to come than was said
pub follow-pace : (form : Form) (ks : List Carried) (s : Stage) (rs : List Carried) → pace (follow form ks s rs) ≤ to_come s
follow-pace (Call g) ks Called rs = omega arith
follow-pace (Call g) ks Selecting rs = omega arith
follow-pace (Call g) ks Chosen rs = omega arith
follow-pace (Call g) ks Starting rs = omega arith
follow-pace (Call g) ks (Testing turns) rs = omega arith
follow-pace (Call g) ks (Turning turns) rs = omega arith
follow-pace (Call g) ks Generating rs = omega arith
follow-pace (Call g) ks Returning rs = omega arith
follow-pace (Select s gs n) ks Called rs = omega arith
follow-pace (Select s gs n) ks Selecting [] = omega arith
follow-pace (Select s gs n) ks Selecting (r ∷ []) = select-pace (Select s gs n) gs ks (val_of r)
follow-pace (Select s gs n) ks Selecting (r ∷ (q ∷ rs)) = omega arith
follow-pace (Select s gs n) ks Chosen rs = omega arith
follow-pace (Select s gs n) ks Starting rs = omega arith
follow-pace (Select s gs n) ks (Testing turns) rs = omega arith
follow-pace (Select s gs n) ks (Turning turns) rs = omega arith
follow-pace (Select s gs n) ks Generating rs = omega arith
follow-pace (Select s gs n) ks Returning rs = omega arith
follow-pace (TagCase gs n) ks Called rs = omega arith
follow-pace (TagCase gs n) ks Selecting rs = omega arith
follow-pace (TagCase gs n) ks Chosen rs = omega arith
follow-pace (TagCase gs n) ks Starting rs = omega arith
follow-pace (TagCase gs n) ks (Testing turns) rs = omega arith
follow-pace (TagCase gs n) ks (Turning turns) rs = omega arith
follow-pace (TagCase gs n) ks Generating rs = omega arith
follow-pace (TagCase gs n) ks Returning rs = omega arith
follow-pace (LoopA i t b r n) ks Called rs = omega arith
follow-pace (LoopA i t b r n) ks Selecting rs = omega arith
follow-pace (LoopA i t b r n) ks Chosen rs = omega arith
follow-pace (LoopA i t b r n) ks Starting rs = omega arith
follow-pace (LoopA i t b r n) ks (Testing []) rs = omega arith
follow-pace (LoopA i t b r n) ks (Testing (l ∷ ls)) [] = omega arith
follow-pace (LoopA i t b r n) ks (Testing (l ∷ ls)) (q ∷ []) = tested-pace (LoopA i t b r n) b r ks l ls (val_of q)
follow-pace (LoopA i t b r n) ks (Testing (l ∷ ls)) (q ∷ (z ∷ rs)) = omega arith
follow-pace (LoopA i t b r n) ks (Turning turns) rs = omega arith
follow-pace (LoopA i t b r n) ks Generating rs = omega arith
follow-pace (LoopA i t b r n) ks Returning rs = omega arith
follow-pace (LoopB i t b r n) ks Called rs = omega arith
follow-pace (LoopB i t b r n) ks Selecting rs = omega arith
follow-pace (LoopB i t b r n) ks Chosen rs = omega arith
follow-pace (LoopB i t b r n) ks Starting rs = omega arith
follow-pace (LoopB i t b r n) ks (Testing []) rs = omega arith
follow-pace (LoopB i t b r n) ks (Testing (l ∷ ls)) [] = omega arith
follow-pace (LoopB i t b r n) ks (Testing (l ∷ ls)) (q ∷ []) = tested-pace (LoopB i t b r n) b r ks l ls (val_of q)
follow-pace (LoopB i t b r n) ks (Testing (l ∷ ls)) (q ∷ (z ∷ rs)) = omega arith
follow-pace (LoopB i t b r n) ks (Turning turns) rs = omega arith
follow-pace (LoopB i t b r n) ks Generating rs = omega arith
follow-pace (LoopB i t b r n) ks Returning rs = omega arith
follow-pace (ForAll g b r m n) ks Called rs = omega arith
follow-pace (ForAll g b r m n) ks Selecting rs = omega arith
follow-pace (ForAll g b r m n) ks Chosen rs = omega arith
follow-pace (ForAll g b r m n) ks Starting rs = omega arith
follow-pace (ForAll g b r m n) ks (Testing turns) rs = omega arith
follow-pace (ForAll g b r m n) ks (Turning turns) rs = omega arith
follow-pace (ForAll g b r m n) ks Generating rs = iterate-pace (ForAll g b r m n) b r m ks rs (first_spoiled rs)
follow-pace (ForAll g b r m n) ks Returning rs = omega arith

pub gather-pace : (form : Form) (ks ms : List Carried) (rows : List (List Carried)) → pace (gather form ks ms rows) ≤ 2
gather-pace (Call g) ks ms rows = omega arith
gather-pace (Select s gs n) ks ms rows = omega arith
gather-pace (TagCase gs n) ks ms rows = omega arith
gather-pace (LoopA i t b r n) ks ms rows = omega arith
gather-pace (LoopB i t b r n) ks ms rows = omega arith
gather-pace (ForAll g b r m n) ks ms rows = omega arith
