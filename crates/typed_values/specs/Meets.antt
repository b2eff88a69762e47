-- What a run meets, and where (SISAL Language Reference Manual 1.2, expressions): the operands of each operation, the value of
-- each test, the union of each `tagcase`, the bounds of generators, and the values of clauses at each place, each with that of
-- its mask behind it.
use Rattle.std.specs.Prelude.{◌≡◌, ◌⊎◌, ◌<◌, ℕ, suc, Bool, List, [], ◌∷◌, ◌++◌, map, drop, length, Some, slice_get}
use Rattle.flow_value.specs.declared.value.Val.{Val}
use Rattle.flow_value.specs.declared.value.Val.TheVariants as val
use Rattle.flow_value.specs.declared.cause.Cause.{Cause}
use Rattle.flow_value.specs.declared.ty.Ty.{Ty}
use Rattle.value_ops.specs.declared.operation.Operation.{Operation}
use Rattle.typed_tree.specs.declared.expr.TypedExpr.{TypedExpr}
use Rattle.typed_tree.specs.declared.expr.TypedKind.{TypedKind}
use Rattle.typed_tree.specs.declared.expr.TypedKind.TheOpen.{TypedKind-F}
use Rattle.typed_tree.specs.declared.expr.TypedKind.TheViews.{out-TypedKind}
use Rattle.typed_tree.specs.declared.expr.Case.{Case}
use Rattle.typed_tree.specs.declared.expr.Product.{Product}
use Rattle.typed_tree.specs.declared.expr.Turns.{Turns}
use Rattle.typed_tree.specs.declared.expr.Source.{Source}
use Rattle.typed_tree.specs.declared.expr.ClauseForm.{ClauseForm}
use Rattle.typed_tree.specs.declared.program.Function.{Function}
use Rattle.meaning.specs.declared.words.Test.TheVariants as test
use Rattle.meaning.specs.declared.sources.Places.TheVariants as places
use Rattle.meaning.specs.Words.{test_of}
use Rattle.meaning.specs.Sources.{places_of, names_at}
use Rattle.meaning.specs.Meaning.{Gives, all_of, defined, with_content, arm_place, turned}
use Rattle.meaning.specs.Plain.{at, all_at, plain, depth}
use Rattle.fitting_units.specs.Fitting.{Row, Goes, AreMade}
use Rattle.typed_rows.specs.Rows.{AreOf}

-- what a run meets at a place
pub data Asked : Type 0 where
  operands : Operation → List Val → Asked
  a_test : List Val → Asked
  -- of a `tagcase` of so many arms
  a_union : Case → ℕ → List Val → Asked
  bounds : List Source → List Val → Asked
  a_row : List ClauseForm → List Val → Asked

-- the place of the arm of a tag
abbrev pub IsArm : Case → ℕ → ℕ → Type 0
IsArm c tag place = arm_place c.choices c.others tag ≡ place

-- what expressions give at a depth, one after another
abbrev pub values_of : List Function → ℕ → List TypedExpr → Gives
values_of p n es = all_of (at (depth n p) (map plain es))

-- the names with those of definitions
abbrev pub names_after : List Function → ℕ → List (List TypedExpr) → Gives
names_after p n us = defined (all_at (depth n p) (map (map plain) us))

-- ---- what a run meets

module _ (p : List Function) where
  -- The names of a loop before a turn whose parts stand at a depth one less, from the first values of the names on. Whether a
  -- test lets the turn come is left open.
  pub data Turning (t : Turns) (vs : List (List TypedExpr)) (env : List Val) : ℕ → List Val → ℕ → List Val → Type 0 where
    begun : {n : ℕ} {l : List Val} → Turning t vs env n l n l
    a_turn : {n d : ℕ} {first l : List Val} {r : List Val × ℕ} → Turning t vs env n first (suc d) l
        → turned t (all_at (depth d p) (map (map plain) vs)) env l ≡ Some r → Turning t vs env n first d r.0

  mutual
    -- at a depth, on these values of the names, an expression meets this, itself or in a part of it
    pub data Meets : ℕ → TypedExpr → List Val → Asked → Type 0 where
      meets : {n : ℕ} {e : TypedExpr} {env : List Val} {a : Asked} → MeetsIn n (out-TypedKind e.kind) env a → Meets n e env a

    pub data MeetsIn : ℕ → TypedKind-F TypedKind TypedExpr → List Val → Asked → Type 0 where
      in_group : {n : ℕ} {ts : List TypedExpr} {env : List Val} {a : Asked} → AnyMeets n ts env a → MeetsIn n (TypedKind-F.Group ts) env a
      in_arguments : {n f : ℕ} {ts : List TypedExpr} {env : List Val} {a : Asked} → AnyMeets n ts env a → MeetsIn n (TypedKind-F.Call f ts) env a
      -- the body of a function stands at a depth one less
      in_body : {n f : ℕ} {d : Function} {ts es : List TypedExpr} {env : List Val} {a : Asked} {r : List Val × ℕ}
          → values_of p (suc n) ts env ≡ Some r → slice_get p f ≡ Some d → d.body ≡ Some es → AnyMeets n es r.0 a → MeetsIn (suc n) (TypedKind-F.Call f ts) env a
      in_operands : {n : ℕ} {o : Operation} {ts : List TypedExpr} {env : List Val} {a : Asked} → AnyMeets n ts env a → MeetsIn n (TypedKind-F.Apply o ts) env a
      the_operands : {n : ℕ} {o : Operation} {ts : List TypedExpr} {env : List Val} {r : List Val × ℕ}
          → values_of p n ts env ≡ Some r → MeetsIn n (TypedKind-F.Apply o ts) env (operands o r.0)
      in_definitions : {n : ℕ} {us : List (List TypedExpr)} {ts : List TypedExpr} {env : List Val} {a : Asked} → DefsMeet n us env a → MeetsIn n (TypedKind-F.Let us ts) env a
      in_let : {n : ℕ} {us : List (List TypedExpr)} {ts : List TypedExpr} {env : List Val} {a : Asked} {r : List Val × ℕ}
          → names_after p n us env ≡ Some r → AnyMeets n ts r.0 a → MeetsIn n (TypedKind-F.Let us ts) env a
      in_test : {n : ℕ} {ts us vs : List TypedExpr} {env : List Val} {a : Asked} → AnyMeets n ts env a → MeetsIn n (TypedKind-F.If ts us vs) env a
      the_test : {n : ℕ} {ts us vs : List TypedExpr} {env : List Val} {r : List Val × ℕ} → values_of p n ts env ≡ Some r → MeetsIn n (TypedKind-F.If ts us vs) env (a_test r.0)
      in_then : {n : ℕ} {ts us vs : List TypedExpr} {env : List Val} {a : Asked} {r : List Val × ℕ}
          → values_of p n ts env ≡ Some r → test_of r.0 ≡ test.Yes → AnyMeets n us env a → MeetsIn n (TypedKind-F.If ts us vs) env a
      in_else : {n : ℕ} {ts us vs : List TypedExpr} {env : List Val} {a : Asked} {r : List Val × ℕ}
          → values_of p n ts env ≡ Some r → test_of r.0 ≡ test.No → AnyMeets n vs env a → MeetsIn n (TypedKind-F.If ts us vs) env a
      in_union : {n : ℕ} {c : Case} {ts : List TypedExpr} {arms : List (List TypedExpr)} {env : List Val} {a : Asked} → AnyMeets n ts env a → MeetsIn n (TypedKind-F.Case c ts arms) env a
      the_union : {n : ℕ} {c : Case} {ts : List TypedExpr} {arms : List (List TypedExpr)} {env : List Val} {r : List Val × ℕ}
          → values_of p n ts env ≡ Some r → MeetsIn n (TypedKind-F.Case c ts arms) env (a_union c (length arms) r.0)
      in_arm : {n place : ℕ} (tag : ℕ) (v : Val) {c : Case} {ts us : List TypedExpr} {arms : List (List TypedExpr)} {env : List Val} {a : Asked} {steps : ℕ}
          → values_of p n ts env ≡ Some (val.Uni tag v ∷ [], steps) → IsArm c tag place → slice_get arms place ≡ Some us → AnyMeets n us (with_content c.named place v env) a
          → MeetsIn n (TypedKind-F.Case c ts arms) env a
      in_bounds : {n : ℕ} {q : Product} {bs : List TypedExpr} {us : List (List TypedExpr)} {ts : List TypedExpr} {env : List Val} {a : Asked}
          → AnyMeets n bs env a → MeetsIn n (TypedKind-F.Product q bs us ts) env a
      the_bounds : {n : ℕ} {q : Product} {bs : List TypedExpr} {us : List (List TypedExpr)} {ts : List TypedExpr} {env : List Val} {r : List Val × ℕ}
          → values_of p n bs env ≡ Some r → MeetsIn n (TypedKind-F.Product q bs us ts) env (bounds q.sources r.0)
      at_a_place : {n i m : ℕ} {q : Product} {bs : List TypedExpr} {us : List (List TypedExpr)} {ts : List TypedExpr} {env : List Val} {a : Asked} {r : List Val × ℕ}
          → values_of p n bs env ≡ Some r → places_of q.sources r.0 ≡ places.Count m → i < m → PlaceMeets n q.clauses us ts (env ++ names_at q.sources r.0 i) a
          → MeetsIn n (TypedKind-F.Product q bs us ts) env a
      in_first : {n : ℕ} {t : Turns} {us vs : List (List TypedExpr)} {tests ts : List TypedExpr} {env : List Val} {a : Asked}
          → DefsMeet n us env a → MeetsIn n (TypedKind-F.Initial t us tests vs ts) env a
      in_turns : {n d : ℕ} {t : Turns} {us vs : List (List TypedExpr)} {tests ts : List TypedExpr} {env l : List Val} {a : Asked} {r : List Val × ℕ}
          → names_after p n us env ≡ Some r → Turning t vs env n (drop (length env) r.0) (suc d) l → TurnMeets d tests vs (env ++ l) a
          → MeetsIn n (TypedKind-F.Initial t us tests vs ts) env a
      after_turns : {n d : ℕ} {t : Turns} {us vs : List (List TypedExpr)} {tests ts : List TypedExpr} {env l : List Val} {a : Asked} {r : List Val × ℕ}
          → names_after p n us env ≡ Some r → Turning t vs env n (drop (length env) r.0) d l → PlaceMeets n t.clauses [] ts (env ++ l) a
          → MeetsIn n (TypedKind-F.Initial t us tests vs ts) env a

    -- definitions and the values of clauses, at one place of a loop
    pub data PlaceMeets : ℕ → List ClauseForm → List (List TypedExpr) → List TypedExpr → List Val → Asked → Type 0 where
      defining : {n : ℕ} {cs : List ClauseForm} {us : List (List TypedExpr)} {ts : List TypedExpr} {env : List Val} {a : Asked} → DefsMeet n us env a → PlaceMeets n cs us ts env a
      in_clauses : {n : ℕ} {cs : List ClauseForm} {us : List (List TypedExpr)} {ts : List TypedExpr} {env : List Val} {a : Asked} {r : List Val × ℕ}
          → names_after p n us env ≡ Some r → AnyMeets n ts r.0 a → PlaceMeets n cs us ts env a
      the_row : {n : ℕ} {cs : List ClauseForm} {us : List (List TypedExpr)} {ts : List TypedExpr} {env : List Val} {r s : List Val × ℕ}
          → names_after p n us env ≡ Some r → values_of p n ts r.0 ≡ Some s → PlaceMeets n cs us ts env (a_row cs s.0)

    -- the test and the definitions of a turn
    pub data TurnMeets : ℕ → List TypedExpr → List (List TypedExpr) → List Val → Asked → Type 0 where
      testing : {n : ℕ} {tests : List TypedExpr} {vs : List (List TypedExpr)} {env : List Val} {a : Asked} → AnyMeets n tests env a → TurnMeets n tests vs env a
      tested : {n : ℕ} {tests : List TypedExpr} {vs : List (List TypedExpr)} {env : List Val} {r : List Val × ℕ} → values_of p n tests env ≡ Some r → TurnMeets n tests vs env (a_test r.0)
      turning : {n : ℕ} {tests : List TypedExpr} {vs : List (List TypedExpr)} {env : List Val} {a : Asked} → DefsMeet n vs env a → TurnMeets n tests vs env a

    -- one of expressions
    pub data AnyMeets : ℕ → List TypedExpr → List Val → Asked → Type 0 where
      here : {n : ℕ} {t : TypedExpr} {ts : List TypedExpr} {env : List Val} {a : Asked} → Meets n t env a → AnyMeets n (t ∷ ts) env a
      there : {n : ℕ} {t : TypedExpr} {ts : List TypedExpr} {env : List Val} {a : Asked} → AnyMeets n ts env a → AnyMeets n (t ∷ ts) env a

    -- one of definitions, each of which sees the names of the earlier ones
    pub data DefsMeet : ℕ → List (List TypedExpr) → List Val → Asked → Type 0 where
      in_this : {n : ℕ} {ts : List TypedExpr} {us : List (List TypedExpr)} {env : List Val} {a : Asked} → AnyMeets n ts env a → DefsMeet n (ts ∷ us) env a
      in_later : {n : ℕ} {ts : List TypedExpr} {us : List (List TypedExpr)} {env : List Val} {a : Asked} {r : List Val × ℕ}
          → values_of p n ts env ≡ Some r → DefsMeet n us (env ++ r.0) a → DefsMeet n (ts ∷ us) env a

-- ---- what it has to be

-- operands of the types of a row, or errors in their place
pub record Takes (o : Operation) (vs : List Val) : Type 0 where
  pub types : List Ty
  pub result : Ty
  pub row : Row o types result
  pub given : AreOf types vs

abbrev pub IsErrorValue : Val → Type 0
IsErrorValue v = (c : Cause) × (v ≡ val.Err c)

-- one truth value, or an error
abbrev pub IsTruth : List Val → Type 0
IsTruth vs = (v : Val) × (vs ≡ v ∷ []) × (((b : Bool) × (v ≡ val.Bool b)) ⊎ IsErrorValue v)

-- a tag with its content, whose arm is there
pub record HasArm (c : Case) (arms : ℕ) (v : Val) : Type 0 where
  pub tag : ℕ
  pub content : Val
  pub place : ℕ
  pub tagged : v ≡ val.Uni tag content
  pub arm : IsArm c tag place
  pub there : place < arms

-- one such union, or an error
abbrev pub IsUnion : Case → ℕ → List Val → Type 0
IsUnion c arms vs = (v : Val) × (vs ≡ v ∷ []) × (HasArm c arms v ⊎ IsErrorValue v)

-- the bounds that generators take, or errors in their place
pub record AreBounds (ss : List Source) (vs : List Val) : Type 0 where
  pub types : List Ty
  pub names : List Ty
  pub goes : Goes ss types names
  pub given : AreOf types vs

-- the values that clauses take, each with a truth value behind it where it has a mask, or errors in their place
pub record IsRow (cs : List ClauseForm) (vs : List Val) : Type 0 where
  pub types : List Ty
  pub made : List Ty
  pub makes : AreMade cs types made
  pub given : AreOf types vs

abbrev pub IsRight : Asked → Type 0
IsRight (operands o vs) = Takes o vs
IsRight (a_test vs) = IsTruth vs
IsRight (a_union c arms vs) = IsUnion c arms vs
IsRight (bounds ss vs) = AreBounds ss vs
IsRight (a_row cs vs) = IsRow cs vs
