-- Operations other than `is t(u)` obey the rules.
use Rattle.std.proofs.Common.{◌≡◌, ℕ, inl, inr, Bool, true, false, List, [], ◌∷◌, map, Some, refl, ap, ◌∙◌, arith}
use Rattle.std.proofs.lemmas.List.Elements.{All-nil, All-cons}
use Rattle.flow_value.specs.declared.ty.Ty.{Ty}
use Rattle.flow_value.specs.declared.ty.Ty.TheVariants as ty
use Rattle.flow_value.specs.declared.operation.Scalar1.TheVariants as unary
use Rattle.flow_value.specs.declared.operation.Scalar2.TheVariants as two
use Rattle.if1_graph.specs.declared.op.Simple.{Simple}
use Rattle.if1_graph.specs.declared.op.Simple.TheVariants as simple
use Rattle.if1_graph.specs.Types.{Sort, Plain}
use Rattle.if1_graph.specs.Ports.{is_stream}
use Rattle.sisal_tree.specs.declared.expr.Constant.TheVariants as constant
use Rattle.typed_tree.specs.Types.{IsScalar, IsNumber}
use Rattle.lowering_meaning.specs.FittingTreesFitting.{AreAll, IsOrdered}
use Rattle.lowering.specs.declared.feed.Feed.TheVariants.{Literal}
use Rattle.lowering.specs.declared.feed.Carried.{Carried}
use Rattle.lowering.specs.declared.feed.Carried.TheVariants.{One}
use Rattle.lowering.specs.declared.feed.Wire.{Wire}
use Rattle.lowering.specs.Feeds.{wire}
use Rattle.lowering.specs.Graphs.{closed_wires}
use Rattle.lowering.specs.Operations.{character, one, reversed, row_lowered, constant_lowered}
use Rattle.lowering_meaning.proofs.BuiltTrees.{out-array}
use Rattle.lowered_ready.specs.Ports.{Outs, IsOne}
use Rattle.lowered_ready.proofs.Scopes.{Level, level}
use Rattle.lowered_ready.proofs.RuleSorting.{AreSorted, AreSorts, sorted, plain-sorts}
use Rattle.lowered_ready.proofs.Rows.{Takes, AreSame, IsScalarSort, IsOrderedSort}
use Rattle.lowered_ready.proofs.Rows as rows
use Rattle.lowered_ready.proofs.World.{World, Which, Of, In, Does, Stands, row-does}
use Rattle.lowered_ready.proofs.Wholes.{sorts_of}
use Rattle.lowered_ready.proofs.RuleForms as forms_are

-- rows that stand anywhere, have no bound and are not named by a literal
abbrev pub IsOrdinary : Simple → Type 0
IsOrdinary simple.Call = ⊥
IsOrdinary simple.ABuild = ⊥
IsOrdinary simple.AGather = ⊥
IsOrdinary simple.RangeGenerate = ⊥
IsOrdinary simple.AScatter = ⊥
IsOrdinary simple.FinalValue = ⊥
IsOrdinary (simple.Reduce g) = ⊥
IsOrdinary simple.RElements = ⊥
IsOrdinary op = Unit {0}

-- a type for each letter
abbrev letters : List ℕ → List Ty
letters s = map (λ c. ty.Char) s

-- an array is no stream
pub no-stream : (t : Ty) → is_stream (Some (Plain (ty.Arr t))) ≡ false
no-stream t = rw (out-array t) refl

module _ (x : World) where
  pub ordinary : (p : Which) (op : Simple) (ws : List Wire) (c : Carried) → IsOrdinary op → Stands x p op ws c
  ordinary p (simple.One unary.Neg) ws c h = record { place = tt; one = λ k. omega arith; bound = λ ks first own. tt; name = λ ks first own. tt }
  ordinary p (simple.One unary.Abs) ws c h = record { place = tt; one = λ k. omega arith; bound = λ ks first own. tt; name = λ ks first own. tt }
  ordinary p (simple.One unary.Not) ws c h = record { place = tt; one = λ k. omega arith; bound = λ ks first own. tt; name = λ ks first own. tt }
  ordinary p (simple.One unary.Int) ws c h = record { place = tt; one = λ k. omega arith; bound = λ ks first own. tt; name = λ ks first own. tt }
  ordinary p (simple.One unary.Bool) ws c h = record { place = tt; one = λ k. omega arith; bound = λ ks first own. tt; name = λ ks first own. tt }
  ordinary p (simple.One unary.Char) ws c h = record { place = tt; one = λ k. omega arith; bound = λ ks first own. tt; name = λ ks first own. tt }
  ordinary p (simple.One unary.IsError) ws c h = record { place = tt; one = λ k. omega arith; bound = λ ks first own. tt; name = λ ks first own. tt }
  ordinary p (simple.Two two.Plus) ws c h = record { place = tt; one = λ k. omega arith; bound = λ ks first own. tt; name = λ ks first own. tt }
  ordinary p (simple.Two two.Minus) ws c h = record { place = tt; one = λ k. omega arith; bound = λ ks first own. tt; name = λ ks first own. tt }
  ordinary p (simple.Two two.Times) ws c h = record { place = tt; one = λ k. omega arith; bound = λ ks first own. tt; name = λ ks first own. tt }
  ordinary p (simple.Two two.Div) ws c h = record { place = tt; one = λ k. omega arith; bound = λ ks first own. tt; name = λ ks first own. tt }
  ordinary p (simple.Two two.Mod) ws c h = record { place = tt; one = λ k. omega arith; bound = λ ks first own. tt; name = λ ks first own. tt }
  ordinary p (simple.Two two.Max) ws c h = record { place = tt; one = λ k. omega arith; bound = λ ks first own. tt; name = λ ks first own. tt }
  ordinary p (simple.Two two.Min) ws c h = record { place = tt; one = λ k. omega arith; bound = λ ks first own. tt; name = λ ks first own. tt }
  ordinary p (simple.Two two.Equal) ws c h = record { place = tt; one = λ k. omega arith; bound = λ ks first own. tt; name = λ ks first own. tt }
  ordinary p (simple.Two two.NotEqual) ws c h = record { place = tt; one = λ k. omega arith; bound = λ ks first own. tt; name = λ ks first own. tt }
  ordinary p (simple.Two two.Less) ws c h = record { place = tt; one = λ k. omega arith; bound = λ ks first own. tt; name = λ ks first own. tt }
  ordinary p (simple.Two two.LessEqual) ws c h = record { place = tt; one = λ k. omega arith; bound = λ ks first own. tt; name = λ ks first own. tt }
  ordinary p simple.NoOp ws c h = record { place = tt; one = λ k. omega arith; bound = λ ks first own. tt; name = λ ks first own. tt }
  ordinary p simple.Error ws c h = record { place = tt; one = λ k. omega arith; bound = λ ks first own. tt; name = λ ks first own. tt }
  ordinary p simple.AFill ws c h = record { place = tt; one = λ k. omega arith; bound = λ ks first own. tt; name = λ ks first own. tt }
  ordinary p simple.AElement ws c h = record { place = tt; one = λ k. omega arith; bound = λ ks first own. tt; name = λ ks first own. tt }
  ordinary p simple.AReplace ws c h = record { place = tt; one = λ k. omega arith; bound = λ ks first own. tt; name = λ ks first own. tt }
  ordinary p simple.AAddH ws c h = record { place = tt; one = λ k. omega arith; bound = λ ks first own. tt; name = λ ks first own. tt }
  ordinary p simple.AAddL ws c h = record { place = tt; one = λ k. omega arith; bound = λ ks first own. tt; name = λ ks first own. tt }
  ordinary p simple.ARemH ws c h = record { place = tt; one = λ k. omega arith; bound = λ ks first own. tt; name = λ ks first own. tt }
  ordinary p simple.ARemL ws c h = record { place = tt; one = λ k. omega arith; bound = λ ks first own. tt; name = λ ks first own. tt }
  ordinary p simple.ASetL ws c h = record { place = tt; one = λ k. omega arith; bound = λ ks first own. tt; name = λ ks first own. tt }
  ordinary p simple.AAdjust ws c h = record { place = tt; one = λ k. omega arith; bound = λ ks first own. tt; name = λ ks first own. tt }
  ordinary p simple.ALimL ws c h = record { place = tt; one = λ k. omega arith; bound = λ ks first own. tt; name = λ ks first own. tt }
  ordinary p simple.ALimH ws c h = record { place = tt; one = λ k. omega arith; bound = λ ks first own. tt; name = λ ks first own. tt }
  ordinary p simple.ASize ws c h = record { place = tt; one = λ k. omega arith; bound = λ ks first own. tt; name = λ ks first own. tt }
  ordinary p simple.AIsEmpty ws c h = record { place = tt; one = λ k. omega arith; bound = λ ks first own. tt; name = λ ks first own. tt }
  ordinary p simple.ACatenate ws c h = record { place = tt; one = λ k. omega arith; bound = λ ks first own. tt; name = λ ks first own. tt }
  ordinary p simple.FirstValue ws c h = record { place = tt; one = λ k. omega arith; bound = λ ks first own. tt; name = λ ks first own. tt }
  ordinary p simple.RestValues ws c h = record { place = tt; one = λ k. omega arith; bound = λ ks first own. tt; name = λ ks first own. tt }
  ordinary p simple.RBuild ws c h = record { place = tt; one = λ k. omega arith; bound = λ ks first own. tt; name = λ ks first own. tt }
  ordinary p simple.RReplace ws c h = record { place = tt; one = λ k. omega arith; bound = λ ks first own. tt; name = λ ks first own. tt }
  ordinary p simple.RElements ws c h = absurd h
  ordinary p simple.Call ws c h = absurd h
  ordinary p simple.ABuild ws c h = absurd h
  ordinary p simple.AGather ws c h = absurd h
  ordinary p simple.RangeGenerate ws c h = absurd h
  ordinary p simple.AScatter ws c h = absurd h
  ordinary p simple.FinalValue ws c h = absurd h
  ordinary p (simple.Reduce g) ws c h = absurd h

  -- ---- sorts

  pub int-sort : Plain (x.bare ty.Int) ≡ Plain ty.Int
  int-sort = forms_are.int-is x

  pub bool-sort : Plain (x.bare ty.Bool) ≡ Plain ty.Bool
  bool-sort = forms_are.bool-is x

  pub char-sort : Plain (x.bare ty.Char) ≡ Plain ty.Char
  char-sort = forms_are.char-is x

  pub array-sort : (t : Ty) → Plain (x.bare (ty.Arr t)) ≡ Plain (ty.Arr (x.bare t))
  array-sort t = ap Plain (x.sorting.array t)

  pub stream-sort : (t : Ty) → Plain (x.bare (ty.Stream t)) ≡ Plain (ty.Stream (x.bare t))
  stream-sort t = ap Plain (x.sorting.stream t)

  pub scalar-sort : (t : Ty) → IsScalar t → IsScalarSort (Plain (x.bare t))
  scalar-sort t (inl e) = inl (ap (λ t. Plain (x.bare t)) e ∙ int-sort)
  scalar-sort t (inr (inl e)) = inr (inl (ap (λ t. Plain (x.bare t)) e ∙ bool-sort))
  scalar-sort t (inr (inr (inl e))) = inr (inr (inl (ap (λ t. Plain (x.bare t)) e ∙ char-sort)))
  scalar-sort t (inr (inr (inr e))) = inr (inr (inr (ap (λ t. Plain (x.bare t)) e ∙ ap Plain x.sorting.null)))

  pub ordered-sort : (t : Ty) → IsOrdered t → IsOrderedSort (Plain (x.bare t))
  ordered-sort t (inl e) = inl (ap (λ t. Plain (x.bare t)) e ∙ int-sort)
  ordered-sort t (inr e) = inr (ap (λ t. Plain (x.bare t)) e ∙ char-sort)

  all-same : (a : Ty) (tys : List Ty) → AreAll a tys → AreSame (Plain (x.bare a)) (sorts_of x tys)
  all-same a [] h = tt
  all-same a (t ∷ tys) h = (ap (λ t. Plain (x.bare t)) h.0, all-same a tys h.1)

  abbrev pub Sorts : List Ty → List Sort → Type 0
  Sorts tys ss = AreSorts x.forms x.names x.hs x.bare x.sort x.sorting tys ss

  pub sorts-of : (ws : List Wire) (tys : List Ty) (ss : List Sort) → Of x tys ws → Sorts tys ss → AreSorted x.sort ws ss
  sorts-of ws tys ss t e = sorted x.forms x.names x.hs x.bare x.sort x.sorting ws tys ss t e

  pub plain-are : (tys : List Ty) → Sorts tys (sorts_of x tys)
  plain-are tys = plain-sorts x.forms x.names x.hs x.bare x.sort x.sorting tys

  -- ---- rows behind nodes of a graph

  module _ (p : Which) (own : List Carried) (before : List Outs) (ls : List Level) where
    abbrev pub Gives : Ty → Simple → List Wire → ℕ → Type 0
    Gives a op ws n = Does x p own before ls (Of x (a ∷ [])) (row_lowered op ws (n ∷ []))

    abbrev pub Scope : List Wire → Type 0
    Scope ws = In x (level own before ∷ ls) ws

    pub row : (op : Simple) (ws : List Wire) (tys : List Ty) (ss : List Sort) (n : ℕ) (a : Ty) (s : Sort) → IsOrdinary op → Takes op ss s → Sorts tys ss → Plain (x.bare a) ≡ s → IsNumber x.forms x.names n a → Of x tys ws → Scope ws → Gives a op ws n
    row op ws tys ss n a s o k e f num t i = row-does x p own before ls op ws ss n a s (sorts-of ws tys ss t e) k f num (ordinary p op ws (One n) o) i

    -- arrays and streams are built behind their lower bound
    array-stands : (ws : List Wire) (n : ℕ) (a : Ty) → IsNumber x.forms x.names n (ty.Arr a) → Stands x p simple.ABuild ws (One n)
    array-stands ws n a num = record {
      place = tt;
      one = λ k. omega arith;
      bound = λ ks first shift.
          All-cons (λ c. is_stream (Some (x.sort c)) ≡ true → IsOne x.sort (closed_wires ks first shift ws)) (One n) []
          (λ e. absurd (none (ap (λ s. is_stream (Some s)) (x.sorting.values n (ty.Arr a) num ∙ array-sort a) ∙ no-stream (x.bare a)) e)) (All-nil (λ c. is_stream (Some (x.sort c)) ≡ true → IsOne x.sort (closed_wires ks first shift ws)));
      name = λ ks first shift. tt;
    }
      where
        none : {b : Bool} → b ≡ false → b ≡ true → ⊥
        none e f = cc

    pub one-is : (ks : List Wire) (first shift : ℕ) (ws : List Wire) → IsOne x.sort (closed_wires ks first shift (one ∷ ws))
    one-is ks first shift ws = (refl, x.sorting.values 2 ty.Int x.integers ∙ int-sort)

    stream-stands : (ws : List Wire) (n : ℕ) → Stands x p simple.ABuild (one ∷ ws) (One n)
    stream-stands ws n = record {
      place = tt;
      one = λ k. omega arith;
      bound = λ ks first shift. All-cons (λ c. is_stream (Some (x.sort c)) ≡ true → IsOne x.sort (closed_wires ks first shift (one ∷ ws))) (One n) [] (λ e. one-is ks first shift ws) (All-nil (λ c. is_stream (Some (x.sort c)) ≡ true → IsOne x.sort (closed_wires ks first shift (one ∷ ws))));
      name = λ ks first shift. tt;
    }

    pub array-does : (ws : List Wire) (tys : List Ty) (n : ℕ) (a : Ty) → AreAll a tys → IsNumber x.forms x.names n (ty.Arr a) → Of x (ty.Int ∷ tys) ws → Scope ws → Gives (ty.Arr a) simple.ABuild ws n
    array-does ws tys n a h num t i =
        row-does x p own before ls simple.ABuild ws (Plain ty.Int ∷ sorts_of x tys) n (ty.Arr a) (Plain (ty.Arr (x.bare a))) (sorts-of ws (ty.Int ∷ tys) (Plain ty.Int ∷ sorts_of x tys) t (int-sort, plain-are tys))
        (rows.built (x.bare a) (sorts_of x tys) (Plain (ty.Arr (x.bare a))) (all-same a tys h) (inl refl)) (array-sort a) num (array-stands ws n a num) i

    pub stream-does : (ws : List Wire) (tys : List Ty) (n : ℕ) (a : Ty) → AreAll a tys → IsNumber x.forms x.names n (ty.Stream a) → Of x tys ws → Scope ws → Gives (ty.Stream a) simple.ABuild (one ∷ ws) n
    stream-does ws tys n a h num t i =
        row-does x p own before ls simple.ABuild (one ∷ ws) (Plain ty.Int ∷ sorts_of x tys) n (ty.Stream a) (Plain (ty.Stream (x.bare a)))
        (sorts-of (one ∷ ws) (ty.Int ∷ tys) (Plain ty.Int ∷ sorts_of x tys) ((forms_are.one-typed x).0, t) (int-sort, plain-are tys))
        (rows.built (x.bare a) (sorts_of x tys) (Plain (ty.Stream (x.bare a))) (all-same a tys h) (inr refl)) (stream-sort a) num (stream-stands ws n) (tt, i)

    letters-typed : (s : List ℕ) → Of x (letters s) (map (λ c. wire (Literal (constant.Letter c)) (One character)) s) × AreAll ty.Char (letters s)
    letters-typed [] = (tt, tt)
    letters-typed (c ∷ s) = let r = letters-typed s in (((x.characters, tt), r.0), (refl, r.1))

    letters-in : (s : List ℕ) → Scope (map (λ c. wire (Literal (constant.Letter c)) (One character)) s)
    letters-in [] = tt
    letters-in (c ∷ s) = (tt, letters-in s)

    -- a text is the array of its characters
    pub text-does : (s : List ℕ) (n : ℕ) → IsNumber x.forms x.names n (ty.Arr ty.Char) → Does x p own before ls (Of x (ty.Arr ty.Char ∷ [])) (constant_lowered (constant.Quoted s) (n ∷ []))
    text-does s n num =
        let r = letters-typed s in
        array-does (one ∷ map (λ c. wire (Literal (constant.Letter c)) (One character)) s) (letters s) n ty.Char r.1 num ((forms_are.one-typed x).0, r.0) (tt, letters-in s)

    pub swapped-typed : (ws : List Wire) (a : Ty) → Of x (a ∷ a ∷ []) ws → Scope ws → Of x (a ∷ a ∷ []) (reversed ws) × Scope (reversed ws)
    swapped-typed [] a t i = absurd t
    swapped-typed (w ∷ []) a t i = absurd t.1
    swapped-typed (w ∷ v ∷ []) a t i = ((t.1.0, (t.0, tt)), (i.1.0, (i.0, tt)))
    swapped-typed (w ∷ v ∷ u ∷ ws) a t i = absurd t.1.1
