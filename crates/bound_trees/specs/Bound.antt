-- Where each name of a typed tree stands for a value that is in force, each call is that of a function of the program, and each
-- constant is one that a text can spell (SISAL Language Reference Manual 1.2, scope and constants). Names are levels: where n names
-- are in force these are 0 up to n - 1, and what comes into force takes the next ones.
use Rattle.std.specs.Prelude.{ℕ, suc, ◌+◌, ◌<◌, ◌≤◌, ◌≡◌, List, [], ◌∷◌, All, length, Option, Some, None}
use Rattle.typed_tree.specs.declared.expr.TypedExpr.{TypedExpr}
use Rattle.typed_tree.specs.declared.expr.TypedKind.TheVariants as typed
use Rattle.typed_tree.specs.declared.expr.Case.{Case}
use Rattle.typed_tree.specs.declared.expr.Product.{Product}
use Rattle.typed_tree.specs.declared.expr.Turns.{Turns}
use Rattle.typed_tree.specs.declared.expr.Source.{Source}
use Rattle.typed_tree.specs.declared.expr.Source.TheVariants as source
use Rattle.typed_tree.specs.declared.program.Function.{Function}
use Rattle.typed_tree.specs.declared.program.Program.{Program}
use Rattle.typed_tree.specs.Typing.{with}
use Rattle.sisal_tree.specs.declared.expr.Constant.{Constant}
use Rattle.value_ops.specs.declared.operation.Operation.{Operation}
use Rattle.value_ops.specs.declared.operation.Operation.TheVariants as operation
use Rattle.bound_trees.specs.Leaves.{IsLiteral, IsWritten, a_record, a_change, a_case}

-- ---- how many names

-- how many values expressions have
abbrev pub values_in : List TypedExpr → ℕ
values_in [] = 0
values_in (t ∷ ts) = length t.types + values_in ts

-- how many names definitions bring into force, one for each value
abbrev pub levels_in : List (List TypedExpr) → ℕ
levels_in [] = 0
levels_in (ts ∷ us) = values_in ts + levels_in us

-- how many names generators bring into force: one, and one more for an index
abbrev pub levels_over : List Source → ℕ
levels_over [] = 0
levels_over (source.Range ∷ ss) = 1 + levels_over ss
levels_over (source.Elements ∷ ss) = 1 + levels_over ss
levels_over (source.Indexed ∷ ss) = 2 + levels_over ss

-- an operation on so many operands that a text can write
abbrev pub IsWrittenApply : Operation → ℕ → Type 0
IsWrittenApply operation.Record n = IsWritten (a_record n)
IsWrittenApply (operation.Change places) n = IsWritten (a_change (length places))
IsWrittenApply _ n = Unit {0}

-- the place among n loop names of the one that is renewed, where there is one
abbrev pub IsRenewal : ℕ → Option ℕ → Type 0
IsRenewal n None = Unit {0}
IsRenewal n (Some x) = x < n

-- ---- trees

-- in a program of so many functions
module _ (functions : ℕ) where
  mutual
    -- where so many names are in force
    pub data IsBound : ℕ → TypedExpr → Type 0 where
      constant : {n l : ℕ} {ns : List ℕ} {c : Constant} → IsLiteral c → IsBound n (with l ns (typed.Constant c))
      value : {n l level : ℕ} {ns : List ℕ} → level < n → IsBound n (with l ns (typed.Value level))
      group : {n l : ℕ} {ns : List ℕ} {ts : List TypedExpr} → AreBound n ts → IsBound n (with l ns (typed.Group ts))
      call : {n l f : ℕ} {ns : List ℕ} {ts : List TypedExpr} → f < functions → AreBound n ts → IsBound n (with l ns (typed.Call f ts))
      apply : {n l : ℕ} {ns : List ℕ} {op : Operation} {ts : List TypedExpr} → AreBound n ts → IsWrittenApply op (length ts) → IsBound n (with l ns (typed.Apply op ts))
      let_in : {n l : ℕ} {ns : List ℕ} {us : List (List TypedExpr)} {ts : List TypedExpr}
          → AreDefined n us → AreBound (n + levels_in us) ts → IsBound n (with l ns (typed.Let us ts))
      if_else : {n l : ℕ} {ns : List ℕ} {ts us vs : List TypedExpr}
          → AreBound n ts → AreBound n us → AreBound n vs → IsBound n (with l ns (typed.If ts us vs))
      -- the arm of each tag that is named is there
      tag_case : {n l : ℕ} {ns : List ℕ} {c : Case} {ts : List TypedExpr} {arms : List (List TypedExpr)}
          → AreBound n ts → AreArms n c.named arms → All (λ x. x.arm < length arms) c.choices → IsWritten (a_case (length arms)) → IsBound n (with l ns (typed.Case c ts arms))
      -- a `for` has a generator
      product : {n l : ℕ} {ns : List ℕ} {p : Product} {bounds : List TypedExpr} {us : List (List TypedExpr)} {ts : List TypedExpr}
          → AreBound n bounds → AreDefined (n + levels_over p.sources) us → AreBound (n + levels_over p.sources + levels_in us) ts → 1 ≤ length p.sources
          → IsBound n (with l ns (typed.Product p bounds us ts))
      -- the test, the turn and the clauses see the loop names, and each name of the turn that renews one renews one of them
      initial : {n l : ℕ} {ns : List ℕ} {t : Turns} {us vs : List (List TypedExpr)} {test ts : List TypedExpr}
          → AreDefined n us → AreBound (n + levels_in us) test → AreDefined (n + levels_in us) vs → AreBound (n + levels_in us) ts
          → length t.renewed ≡ levels_in vs → All (IsRenewal (levels_in us)) t.renewed
          → IsBound n (with l ns (typed.Initial t us test vs ts))

    pub data AreBound : ℕ → List TypedExpr → Type 0 where
      no_more : {n : ℕ} → AreBound n []
      more : {n : ℕ} {t : TypedExpr} {ts : List TypedExpr} → IsBound n t → AreBound n ts → AreBound n (t ∷ ts)

    -- definitions, each of which sees the names of the earlier ones
    pub data AreDefined : ℕ → List (List TypedExpr) → Type 0 where
      no_def : {n : ℕ} → AreDefined n []
      a_def : {n : ℕ} {ts : List TypedExpr} {us : List (List TypedExpr)}
          → AreBound n ts → AreDefined (n + values_in ts) us → AreDefined n (ts ∷ us)

    -- arms, of which the first so many see the content of the union at the next level
    pub data AreArms : ℕ → ℕ → List (List TypedExpr) → Type 0 where
      no_arm : {n : ℕ} → AreArms n 0 []
      a_named_arm : {n named : ℕ} {ts : List TypedExpr} {arms : List (List TypedExpr)}
          → AreBound (suc n) ts → AreArms n named arms → AreArms n (suc named) (ts ∷ arms)
      an_arm : {n : ℕ} {ts : List TypedExpr} {arms : List (List TypedExpr)}
          → AreBound n ts → AreArms n 0 arms → AreArms n 0 (ts ∷ arms)

-- ---- programs

-- the results of a function of so many parameters, which are in force in all of it
abbrev pub IsBoundBody : ℕ → ℕ → Option (List TypedExpr) → Type 0
IsBoundBody functions n None = Unit {0}
IsBoundBody functions n (Some ts) = AreBound functions n ts

abbrev pub IsBoundIn : ℕ → Function → Type 0
IsBoundIn functions f = IsBoundBody functions (length f.parameters) f.body

-- a function has a name that is spelled, and a result
abbrev pub HasHeader : Program → Function → Type 0
HasHeader p f = (f.name < length p.names) × (1 ≤ length f.results)

-- each name of a program is bound
pub record IsBoundProgram (p : Program) : Type 0 where
  pub headers : All (HasHeader p) p.functions
  pub functions : All (IsBoundIn (length p.functions)) p.functions
  pub defines : All (λ n. n < length p.functions) p.defines
