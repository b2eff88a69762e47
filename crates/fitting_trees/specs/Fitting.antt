-- Which types stand where in a typed tree, by places (SISAL Language Reference Manual 1.2, expressions).
use Rattle.std.specs.Prelude.{◌≡◌, ◌⊎◌, ◌≤◌, ◌<◌, ℕ, suc, true, List, [], ◌∷◌, ◌++◌, map, length, All, Contains, Option, Some, None, slice_get}
use Rattle.flow_value.specs.declared.ty.Ty.{Ty}
use Rattle.flow_value.specs.declared.ty.Ty.TheVariants as ty
use Rattle.flow_value.specs.declared.operation.Scalar1.TheVariants as one
use Rattle.flow_value.specs.declared.operation.Scalar2.{Scalar2}
use Rattle.flow_value.specs.declared.operation.Scalar2.TheVariants as two
use Rattle.flow_value.specs.Scalar.{fits_64}
use Rattle.sisal_tree.specs.declared.expr.Constant.{Constant}
use Rattle.sisal_tree.specs.declared.expr.Constant.TheVariants as constant
use Rattle.type_table.specs.declared.form.Form.{Form}
use Rattle.value_ops.specs.declared.operation.Operation.{Operation}
use Rattle.value_ops.specs.declared.operation.Operation.TheVariants as op
use Rattle.loop_folds.specs.declared.folding.Folding.{Folding}
use Rattle.loop_folds.specs.declared.folding.Folding.TheVariants as folding
use Rattle.loop_folds.specs.declared.masking.Masking.TheVariants as masking
use Rattle.typed_tree.specs.declared.expr.TypedExpr.{TypedExpr}
use Rattle.typed_tree.specs.declared.expr.TypedKind.TheVariants as typed
use Rattle.typed_tree.specs.declared.expr.Case.{Case}
use Rattle.typed_tree.specs.declared.expr.Choice.{Choice}
use Rattle.typed_tree.specs.declared.expr.Product.{Product}
use Rattle.meaning.specs.Meaning.{arm_place}
use Rattle.typed_tree.specs.declared.expr.Turns.{Turns}
use Rattle.typed_tree.specs.declared.expr.ClauseForm.{ClauseForm}
use Rattle.typed_tree.specs.declared.expr.Source.{Source}
use Rattle.typed_tree.specs.declared.expr.Source.TheVariants as source
use Rattle.typed_tree.specs.declared.program.Function.{Function}
use Rattle.typed_tree.specs.Typing.{with}
use Rattle.typed_tree.specs.Types.{Member, IsScalar, constant_type, AreNumbers}

-- ---- constants

-- a constant that a text can spell, and that fits 64 bits
abbrev pub IsLiteral : Constant → Type 0
IsLiteral (constant.Integer n) = fits_64 n ≡ true
IsLiteral (constant.Letter code) = code < 128
IsLiteral (constant.Quoted codes) = All (λ code. code < 128) codes
IsLiteral _ = Unit {0}

-- ---- rows

abbrev pub IsArithmetic : Scalar2 → Type 0
IsArithmetic two.Equal = ⊥
IsArithmetic two.NotEqual = ⊥
IsArithmetic two.Less = ⊥
IsArithmetic two.LessEqual = ⊥
IsArithmetic _ = Unit {0}

abbrev pub IsEquality : Scalar2 → Type 0
IsEquality f = (f ≡ two.Equal) ⊎ (f ≡ two.NotEqual)

abbrev pub IsOrder : Scalar2 → Type 0
IsOrder f = (f ≡ two.Less) ⊎ (f ≡ two.LessEqual)

abbrev pub IsOrdered : Ty → Type 0
IsOrdered t = (t ≡ ty.Int) ⊎ (t ≡ ty.Char)

abbrev pub AreAll : Ty → List Ty → Type 0
AreAll a [] = Unit {0}
AreAll a (t ∷ ts) = (t ≡ a) × AreAll a ts

-- fields of these types at these places
abbrev pub AreFields : List Member → List ℕ → List Ty → Type 0
AreFields ms [] [] = Unit {0}
AreFields ms (p ∷ ps) (t ∷ ts) = ((name : List ℕ) × (slice_get ms p ≡ Some (name, t))) × AreFields ms ps ts
AreFields ms [] (t ∷ ts) = ⊥
AreFields ms (p ∷ ps) [] = ⊥

-- operands of these types give a value of this type
pub data Row : Operation → List Ty → Ty → Type 0 where
  negated : Row (op.Unary one.Neg) (ty.Int ∷ []) ty.Int
  absolute : Row (op.Unary one.Abs) (ty.Int ∷ []) ty.Int
  inverted : Row (op.Unary one.Not) (ty.Bool ∷ []) ty.Bool
  int_of_int : Row (op.Unary one.Int) (ty.Int ∷ []) ty.Int
  int_of_bool : Row (op.Unary one.Int) (ty.Bool ∷ []) ty.Int
  int_of_char : Row (op.Unary one.Int) (ty.Char ∷ []) ty.Int
  bool_of_bool : Row (op.Unary one.Bool) (ty.Bool ∷ []) ty.Bool
  bool_of_int : Row (op.Unary one.Bool) (ty.Int ∷ []) ty.Bool
  char_of_char : Row (op.Unary one.Char) (ty.Char ∷ []) ty.Char
  char_of_int : Row (op.Unary one.Char) (ty.Int ∷ []) ty.Char
  is_error : (a : Ty) → Row (op.Unary one.IsError) (a ∷ []) ty.Bool
  arithmetic : (f : Scalar2) → IsArithmetic f → Row (op.Binary f) (ty.Int ∷ ty.Int ∷ []) ty.Int
  either : Row (op.Binary two.Plus) (ty.Bool ∷ ty.Bool ∷ []) ty.Bool
  both : Row (op.Binary two.Times) (ty.Bool ∷ ty.Bool ∷ []) ty.Bool
  equality : (f : Scalar2) (a : Ty) → IsEquality f → IsScalar a → Row (op.Binary f) (a ∷ a ∷ []) ty.Bool
  order : (f : Scalar2) (a : Ty) → IsOrder f → IsOrdered a → Row (op.Binary f) (a ∷ a ∷ []) ty.Bool
  swapped : (f : Scalar2) (a : Ty) → IsOrder f → IsOrdered a → Row (op.Swapped f) (a ∷ a ∷ []) ty.Bool
  an_error : (a : Ty) → Row op.Error [] a
  array : (a : Ty) (tys : List Ty) → AreAll a tys → Row op.Array (ty.Int ∷ tys) (ty.Arr a)
  empty_array : (a : Ty) → Row op.EmptyArray [] (ty.Arr a)
  stream : (a : Ty) (tys : List Ty) → AreAll a tys → Row op.Stream tys (ty.Stream a)
  fill : (a : Ty) → Row op.Fill (ty.Int ∷ ty.Int ∷ a ∷ []) (ty.Arr a)
  element : (a : Ty) → Row op.Element (ty.Arr a ∷ ty.Int ∷ []) a
  update : (a : Ty) → Row op.Update (ty.Arr a ∷ ty.Int ∷ a ∷ []) (ty.Arr a)
  add_high : (a : Ty) → Row op.AddHigh (ty.Arr a ∷ a ∷ []) (ty.Arr a)
  append : (a : Ty) → Row op.AddHigh (ty.Stream a ∷ a ∷ []) (ty.Stream a)
  add_low : (a : Ty) → Row op.AddLow (ty.Arr a ∷ a ∷ []) (ty.Arr a)
  remove_high : (a : Ty) → Row op.RemoveHigh (ty.Arr a ∷ []) (ty.Arr a)
  remove_low : (a : Ty) → Row op.RemoveLow (ty.Arr a ∷ []) (ty.Arr a)
  set_low : (a : Ty) → Row op.SetLow (ty.Arr a ∷ ty.Int ∷ []) (ty.Arr a)
  adjust : (a : Ty) → Row op.Adjust (ty.Arr a ∷ ty.Int ∷ ty.Int ∷ []) (ty.Arr a)
  limit_low : (a : Ty) → Row op.LimitLow (ty.Arr a ∷ []) ty.Int
  limit_high : (a : Ty) → Row op.LimitHigh (ty.Arr a ∷ []) ty.Int
  size : (a : Ty) → Row op.Size (ty.Arr a ∷ []) ty.Int
  length_of : (a : Ty) → Row op.Size (ty.Stream a ∷ []) ty.Int
  is_empty : (a : Ty) → Row op.IsEmpty (ty.Stream a ∷ []) ty.Bool
  first : (a : Ty) → Row op.First (ty.Stream a ∷ []) a
  rest : (a : Ty) → Row op.Rest (ty.Stream a ∷ []) (ty.Stream a)
  catenate_arrays : (a : Ty) → Row op.Catenate (ty.Arr a ∷ ty.Arr a ∷ []) (ty.Arr a)
  catenate_streams : (a : Ty) → Row op.Catenate (ty.Stream a ∷ ty.Stream a ∷ []) (ty.Stream a)
  -- a record of at most as many fields as an aggregate may have elements
  a_record : (ms : List Member) → length ms ≤ 4194304 → Row op.Record (map (λ m. m.1) ms) (ty.Rec ms)
  union : (ms : List Member) (tag : ℕ) (m : Member) → slice_get ms tag ≡ Some m → Row (op.Union tag) (m.1 ∷ []) (ty.Uni ms)
  field : (ms : List Member) (place : ℕ) (m : Member) → slice_get ms place ≡ Some m → Row (op.Field place) (ty.Rec ms ∷ []) m.1
  change : (ms : List Member) (place : ℕ) (places : List ℕ) (tys : List Ty) → AreFields ms (place ∷ places) tys → Row (op.Change (place ∷ places)) (ty.Rec ms ∷ tys) (ty.Rec ms)
  is_tag : (ms : List Member) (tag : ℕ) (m : Member) → slice_get ms tag ≡ Some m → Row (op.IsTag tag) (ty.Uni ms ∷ []) ty.Bool

-- ---- loops

-- the names of generators, by the types of their bounds
pub data Goes : List Source → List Ty → List Ty → Type 0 where
  no_source : Goes [] [] []
  over_range : {ss : List Source} {bounds names : List Ty} → Goes ss bounds names → Goes (source.Range ∷ ss) (ty.Int ∷ ty.Int ∷ bounds) (ty.Int ∷ names)
  over_array : {ss : List Source} {bounds names : List Ty} (a : Ty) → Goes ss bounds names → Goes (source.Elements ∷ ss) (ty.Arr a ∷ bounds) (a ∷ names)
  over_stream : {ss : List Source} {bounds names : List Ty} (a : Ty) → Goes ss bounds names → Goes (source.Elements ∷ ss) (ty.Stream a ∷ bounds) (a ∷ names)
  over_array_at : {ss : List Source} {bounds names : List Ty} (a : Ty) → Goes ss bounds names → Goes (source.Indexed ∷ ss) (ty.Arr a ∷ bounds) (a ∷ ty.Int ∷ names)
  over_stream_at : {ss : List Source} {bounds names : List Ty} (a : Ty) → Goes ss bounds names → Goes (source.Indexed ∷ ss) (ty.Stream a ∷ bounds) (a ∷ ty.Int ∷ names)

-- what is made of values of a type
pub data Makes : Folding → Ty → Ty → Type 0 where
  makes_array : (a : Ty) → Makes folding.Array a (ty.Arr a)
  makes_stream : (a : Ty) → Makes folding.Stream a (ty.Stream a)
  makes_last : (a : Ty) → Makes folding.Last a a
  makes_sum : Makes folding.Sum ty.Int ty.Int
  makes_product : Makes folding.Product ty.Int ty.Int
  makes_least : Makes folding.Least ty.Int ty.Int
  makes_greatest : Makes folding.Greatest ty.Int ty.Int
  makes_arrays : (a : Ty) → Makes folding.CatenateArrays (ty.Arr a) (ty.Arr a)
  makes_streams : (a : Ty) → Makes folding.CatenateStreams (ty.Stream a) (ty.Stream a)

-- the types of the values of clauses, each with that of its mask behind it, and of what they make
pub data AreMade : List ClauseForm → List Ty → List Ty → Type 0 where
  no_clause : AreMade [] [] []
  unmasked : {c : ClauseForm} {cs : List ClauseForm} {a b : Ty} {tys made : List Ty}
      → c.masking ≡ masking.All → Makes c.folding a b → AreMade cs tys made → AreMade (c ∷ cs) (a ∷ tys) (b ∷ made)
  masked : {c : ClauseForm} {cs : List ClauseForm} {a b : Ty} {tys made : List Ty}
      → (c.masking ≡ masking.When) ⊎ (c.masking ≡ masking.Unless) → Makes c.folding a b → AreMade cs tys made → AreMade (c ∷ cs) (a ∷ ty.Bool ∷ tys) (b ∷ made)

-- names of these types renew loop names of the same types
abbrev pub Renews : List Ty → List (Option ℕ) → List Ty → Type 0
Renews loop [] [] = Unit {0}
Renews loop (None ∷ rs) (t ∷ ts) = Renews loop rs ts
Renews loop (Some x ∷ rs) (t ∷ ts) = (slice_get loop x ≡ Some t) × Renews loop rs ts
Renews loop _ _ = ⊥

-- the arm of each tag from one on is one of so many, and what that arm sees is of the type of the tag's content
abbrev pub TagsFit : ℕ → List Ty → Case → ℕ → List Member → Type 0
TagsFit arms contents c tag [] = Unit {0}
TagsFit arms contents c tag (m ∷ ms) =
    let place = arm_place c.choices c.others tag in
    (place < arms) × ((a : Ty) → slice_get contents place ≡ Some a → a ≡ m.1) × TagsFit arms contents c (suc tag) ms

-- a choice of one of so many tags, for one of so many arms; the tag has no other arm
pub record IsChosen (c : Case) (arms tags : ℕ) (x : Choice) : Type 0 where
  pub within : x.arm < arms
  pub tag : x.tag < tags
  pub own : arm_place c.choices c.others x.tag ≡ x.arm

-- ---- trees

-- the types of the parameters and of the results of a function
pub record Header : Type 0 where
  pub params : List Ty
  pub results : List Ty

-- `numbers` says which numbers stand for which types
module _ (numbers : List ℕ → List Ty → Type 0) (fs : List Header) where
  mutual
    -- where names of these types are in force, the expression has values of these types
    pub data Fits : List Ty → TypedExpr → List Ty → Type 0 where
      a_constant : {γ : List Ty} {l : ℕ} {ns : List ℕ} {c : Constant} → IsLiteral c → numbers ns (constant_type c ∷ []) → Fits γ (with l ns (typed.Constant c)) (constant_type c ∷ [])
      a_value : {γ : List Ty} {l level : ℕ} {ns : List ℕ} {a : Ty} → slice_get γ level ≡ Some a → numbers ns (a ∷ []) → Fits γ (with l ns (typed.Value level)) (a ∷ [])
      group : {γ tys : List Ty} {l : ℕ} {ns : List ℕ} {ts : List TypedExpr} → AllFit γ ts tys → numbers ns tys → Fits γ (with l ns (typed.Group ts)) tys
      call : {γ : List Ty} {l f : ℕ} {ns : List ℕ} {g : Header} {ts : List TypedExpr}
          → slice_get fs f ≡ Some g → AllFit γ ts g.params → numbers ns g.results → Fits γ (with l ns (typed.Call f ts)) g.results
      apply : {γ tys : List Ty} {l : ℕ} {ns : List ℕ} {o : Operation} {a : Ty} {ts : List TypedExpr}
          → AllFit γ ts tys → Row o tys a → numbers ns (a ∷ []) → Fits γ (with l ns (typed.Apply o ts)) (a ∷ [])
      let_in : {γ δ tys : List Ty} {l : ℕ} {ns : List ℕ} {us : List (List TypedExpr)} {ts : List TypedExpr}
          → DefsFit γ us δ → AllFit (γ ++ δ) ts tys → numbers ns tys → Fits γ (with l ns (typed.Let us ts)) tys
      if_else : {γ tys : List Ty} {l : ℕ} {ns : List ℕ} {ts us vs : List TypedExpr}
          → AllFit γ ts (ty.Bool ∷ []) → AllFit γ us tys → AllFit γ vs tys → numbers ns tys → Fits γ (with l ns (typed.If ts us vs)) tys
      -- there is an arm, each tag has one, and each arm that sees the content has a tag
      tag_case : {γ tys : List Ty} (ms : List Member) (contents : List Ty) {l : ℕ} {ns : List ℕ} {c : Case} {ts : List TypedExpr} {arms : List (List TypedExpr)}
          → AllFit γ ts (ty.Uni ms ∷ []) → ArmsFit γ c.named arms contents tys → TagsFit (length arms) contents c 0 ms
          → ((k : ℕ) → k < c.named → Contains (map (λ x. x.arm) c.choices) k) → All (IsChosen c (length arms) (length ms)) c.choices → c.others ≤ length arms
          → 1 ≤ length arms → numbers ns tys → Fits γ (with l ns (typed.Case c ts arms)) tys
      product : {γ tys names δ row made : List Ty} {l : ℕ} {ns : List ℕ} {p : Product} {bounds : List TypedExpr} {us : List (List TypedExpr)} {ts : List TypedExpr}
          → AllFit γ bounds tys → Goes p.sources tys names → DefsFit (γ ++ names) us δ → AllFit ((γ ++ names) ++ δ) ts row → AreMade p.clauses row made
          → numbers ns made → Fits γ (with l ns (typed.Product p bounds us ts)) made
      initial : {γ loop later row made : List Ty} {l : ℕ} {ns : List ℕ} {t : Turns} {us vs : List (List TypedExpr)} {tests ts : List TypedExpr}
          → DefsFit γ us loop → AllFit (γ ++ loop) tests (ty.Bool ∷ []) → DefsFit (γ ++ loop) vs later → Renews loop t.renewed later
          → AllFit (γ ++ loop) ts row → AreMade t.clauses row made → numbers ns made → Fits γ (with l ns (typed.Initial t us tests vs ts)) made

    pub data AllFit : List Ty → List TypedExpr → List Ty → Type 0 where
      no_more : {γ : List Ty} → AllFit γ [] []
      more : {γ tys others : List Ty} {t : TypedExpr} {ts : List TypedExpr} → Fits γ t tys → AllFit γ ts others → AllFit γ (t ∷ ts) (tys ++ others)

    -- definitions, each of which sees the earlier ones, and the types of what they define
    pub data DefsFit : List Ty → List (List TypedExpr) → List Ty → Type 0 where
      no_def : {γ : List Ty} → DefsFit γ [] []
      a_def : {γ tys others : List Ty} {ts : List TypedExpr} {us : List (List TypedExpr)}
          → AllFit γ ts tys → DefsFit (γ ++ tys) us others → DefsFit γ (ts ∷ us) (tys ++ others)

    -- arms, of which the first so many see a content of these types
    pub data ArmsFit : List Ty → ℕ → List (List TypedExpr) → List Ty → List Ty → Type 0 where
      no_arm : {γ tys : List Ty} → ArmsFit γ 0 [] [] tys
      a_named_arm : {γ contents tys : List Ty} {named : ℕ} (a : Ty) {ts : List TypedExpr} {arms : List (List TypedExpr)}
          → AllFit (γ ++ (a ∷ [])) ts tys → ArmsFit γ named arms contents tys → ArmsFit γ (suc named) (ts ∷ arms) (a ∷ contents) tys
      an_arm : {γ tys : List Ty} {ts : List TypedExpr} {arms : List (List TypedExpr)}
          → AllFit γ ts tys → ArmsFit γ 0 arms [] tys → ArmsFit γ 0 (ts ∷ arms) [] tys

  -- the results of a function, which sees its parameters
  abbrev pub BodyFits : Header → Option (List TypedExpr) → Type 0
  BodyFits h None = Unit {0}
  BodyFits h (Some ts) = AllFit h.params ts h.results

  pub record FunctionFits (h : Header) (f : Function) : Type 0 where
    pub params : numbers f.params h.params
    pub results : numbers f.results h.results
    pub body : BodyFits h f.body

  abbrev pub FunctionsFit : List Header → List Function → Type 0
  FunctionsFit [] [] = Unit {0}
  FunctionsFit (h ∷ hs) (f ∷ functions) = FunctionFits h f × FunctionsFit hs functions
  FunctionsFit _ _ = ⊥

-- ---- by number

-- a program of these headers, whose tree has these types by number
pub record IsFittingTree (forms : List Form) (spellings : List (List ℕ)) (hs : List Header) (functions : List Function) : Type 0 where
  pub fits : FunctionsFit (AreNumbers forms spellings) hs hs functions
