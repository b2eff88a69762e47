-- The values and masks of clauses, and what returns make of their multiples.
use Rattle.std.proofs.Common.{◌≡◌, ℕ, suc, ◌⊎◌, inl, inr, Bool, true, false, List, [], ◌∷◌, ◌++◌, map, drop, length, Some, refl, sym, ap, subst, ◌∙◌, arith}
use Rattle.std.specs.Prelude.{IsSome, codes}
use Rattle.std.proofs.lemmas.List.Elements.{All-nil, All-cons}
use Rattle.flow_value.specs.declared.ty.Ty.{Ty}
use Rattle.flow_value.specs.declared.ty.Ty.TheVariants as ty
use Rattle.flow_value.specs.declared.operation.Scalar1.TheVariants as unary
use Rattle.if1_graph.specs.declared.op.Grouping.{Grouping}
use Rattle.if1_graph.specs.declared.op.Simple.TheVariants as simple
use Rattle.if1_graph.specs.declared.op.Reducer.{Reducer}
use Rattle.if1_graph.specs.declared.op.Reducer.TheVariants as reducer
use Rattle.if1_graph.specs.Ops.{reducer_at}
use Rattle.if1_graph.specs.Types.{Sort, Plain, Many}
use Rattle.if1_graph.specs.Ports.{AreFirst, count_from, is_stream}
use Rattle.if1_graph.specs.Typing.{Known, IsSequence, HasElements, IsReducible, IsCarried, is_returns}
use Rattle.sisal_tree.specs.declared.expr.Direction.{Direction}
use Rattle.loop_folds.specs.declared.folding.Folding.{Folding}
use Rattle.loop_folds.specs.declared.masking.Masking.TheVariants as masking
use Rattle.typed_tree.specs.declared.expr.ClauseForm.{ClauseForm}
use Rattle.typed_tree.specs.Types.{IsNumber, AreNumbers}
use Rattle.lowering_meaning.specs.FittingTreesFitting.{Makes, AreMade}
use Rattle.lowering_meaning.specs.FittingTreesFitting as is
use Rattle.lowering.specs.declared.feed.Feed.TheVariants.{Named}
use Rattle.lowering.specs.declared.feed.Carried.{Carried}
use Rattle.lowering.specs.declared.feed.Carried.TheVariants.{One, Many as Multiple, Callee}
use Rattle.lowering.specs.declared.feed.Wire.{Wire}
use Rattle.lowering.specs.Feeds.{wire}
use Rattle.lowering.specs.declared.graph.Action.TheVariants.{Row}
use Rattle.lowering.specs.Graphs.{Lowering, node, only, andthen, ports, closed_wires}
use Rattle.lowering.specs.Operations.{Lowers, boolean, integer, one, wire_at, row_lowered}
use Rattle.lowering.specs.Loops.{many, types, take_up, with_not, mask_places, unless_places, clauses_lowered, grouping_of, span, Bound, Wired, Limit, fold_lowered, returns_lowered}
use Rattle.lowering_meaning.specs.Coverage.{no_true}
use Rattle.lowering_meaning.proofs.Wired.{IsShown as IsSeen, IsTyped, IsMultiple, typed-ports}
use Rattle.lowered_ready.specs.Ports.{Outs, IsOne}
use Rattle.lowered_ready.specs.Parts.{IsShown}
use Rattle.lowered_ready.proofs.Scopes.{Level, level, in-at}
use Rattle.lowered_ready.proofs.Made as made
use Rattle.lowered_ready.proofs.RuleSorting.{AreSorted, AreFit, closed-sorted, filled-sorted, sort-at, seen-shown, fit-wanted, first-ports}
use Rattle.lowered_ready.proofs.Rows.{Takes}
use Rattle.lowered_ready.proofs.Rows as rows
use Rattle.lowered_ready.proofs.World.{World, Which, Of, In, Does, To, AllTo, to_none, to_more, Stands, row-does}
use Rattle.lowered_ready.proofs.RuleForms as forms_are
use Rattle.lowered_ready.proofs.Operations.{no-stream, int-sort, bool-sort, array-sort, stream-sort, sorts-of, ordinary}

module _ (x : World) where
  -- ---- phrases of one value each

  pub data OnesTo (γ : List Ty) : List Lowers → List Ty → Type 0 where
    ones_none : OnesTo γ [] []
    ones_more : (g : Lowers) (gs : List Lowers) (a : Ty) (row : List Ty) → To x γ (a ∷ []) g → OnesTo γ gs row → OnesTo γ (g ∷ gs) (a ∷ row)

  pub ones-all : (γ : List Ty) (gs : List Lowers) (row : List Ty) → OnesTo γ gs row → AllTo x γ gs row
  ones-all γ _ _ ones_none = to_none γ
  ones-all γ _ _ (ones_more g gs a row h r) = to_more γ g gs (a ∷ []) row h (ones-all γ gs row r)

  -- masks of `unless` stand at booleans
  pub data Aligned : List Bool → List Ty → Type 0 where
    aligned_none : Aligned [] []
    aligned_value : {a : Ty} {bs : List Bool} {row : List Ty} → Aligned bs row → Aligned (false ∷ bs) (a ∷ row)
    aligned_mask : {bs : List Bool} {row : List Ty} → Aligned bs row → Aligned (true ∷ bs) (ty.Bool ∷ row)

  pub made-aligned : (cs : List ClauseForm) (row made : List Ty) → AreMade cs row made → Aligned (unless_places cs) row
  made-aligned _ _ _ is.no_clause = aligned_none
  made-aligned _ _ _ (is.unmasked {c = c} {cs = cs} {a = a} {tys = tys} {made = made} e m h) =
      subst (λ z. Aligned (mask_places z ++ unless_places cs) (a ∷ tys)) (sym e) (aligned_value (made-aligned cs tys made h))
  made-aligned _ _ _ (is.masked {c = c} {cs = cs} {a = a} {tys = tys} {made = made} (inl e) m h) =
      subst (λ z. Aligned (mask_places z ++ unless_places cs) (a ∷ ty.Bool ∷ tys)) (sym e) (aligned_value (aligned_value (made-aligned cs tys made h)))
  made-aligned _ _ _ (is.masked {c = c} {cs = cs} {a = a} {tys = tys} {made = made} (inr e) m h) =
      subst (λ z. Aligned (mask_places z ++ unless_places cs) (a ∷ ty.Bool ∷ tys)) (sym e) (aligned_value (aligned_mask (made-aligned cs tys made h)))

  pub not-does : (γ : List Ty) (g : Lowers) → To x γ (ty.Bool ∷ []) g → To x γ (ty.Bool ∷ []) (with_not g)
  not-does γ g h p own before ls env t a =
      forms_are.then-does x p own before ls (ty.Bool ∷ []) (ty.Bool ∷ []) (g env) (λ ws. row_lowered (simple.One unary.Not) ws (boolean ∷ [])) (h p own before ls env t a)
      (λ more ws aw tw.
      row-does x p own (before ++ more) ls (simple.One unary.Not) ws (Plain ty.Bool ∷ []) boolean ty.Bool (Plain ty.Bool) (sorts-of x ws (ty.Bool ∷ []) (Plain ty.Bool ∷ []) tw (bool-sort x, tt)) rows.inverted (bool-sort x) x.booleans
      (ordinary x p (simple.One unary.Not) ws (One boolean) tt) aw)

  pub clauses-to : (γ : List Ty) (bs : List Bool) (gs : List Lowers) (row : List Ty) → Aligned bs row → OnesTo γ gs row → AllTo x γ (clauses_lowered bs gs) row
  clauses-to γ _ _ _ aligned_none ones_none = to_none γ
  clauses-to γ _ _ _ (aligned_value {bs = bs} r) (ones_more g gs a row h o) = to_more γ g (clauses_lowered bs gs) (a ∷ []) row h (clauses-to γ bs gs row r o)
  clauses-to γ _ _ _ (aligned_mask {bs = bs} r) (ones_more g gs a row h o) = to_more γ (with_not g) (clauses_lowered bs gs) (ty.Bool ∷ []) row (not-does γ g h) (clauses-to γ bs gs row r o)

  pub no-masks : (bs : List Bool) (gs : List Lowers) → no_true bs ≡ true → clauses_lowered bs gs ≡ gs
  no-masks [] [] e = refl
  no-masks [] (g ∷ gs) e = refl
  no-masks (true ∷ bs) gs e = absurd cc
  no-masks (false ∷ bs) [] e = refl
  no-masks (false ∷ bs) (g ∷ gs) e = ap (λ l. g ∷ l) (no-masks bs gs e)

  -- ---- multiples of these types, each a port

  abbrev pub AreMany : List Ty → List Wire → Type 0
  AreMany [] [] = Unit {0}
  AreMany (t ∷ ts) (w ∷ ws) = (IsMultiple x.forms x.names w.ty t × IsSeen w.feed) × AreMany ts ws
  AreMany [] (w ∷ ws) = ⊥
  AreMany (t ∷ ts) [] = ⊥

  pub many-sort : (c : Carried) (t : Ty) → IsMultiple x.forms x.names c t → x.sort c ≡ Many (x.bare t)
  many-sort (One n) t h = absurd h
  many-sort (Multiple n) t h = x.sorting.multiples n t h
  many-sort (Callee f) t h = absurd h

  abbrev pub many_sorts : List Ty → List Sort
  many_sorts ts = map (λ t. Many (x.bare t)) ts

  pub many-sorted : (ts : List Ty) (ws : List Wire) → AreMany ts ws → AreSorted x.sort ws (many_sorts ts)
  many-sorted [] [] h = tt
  many-sorted [] (w ∷ ws) h = absurd h
  many-sorted (t ∷ ts) [] h = absurd h
  many-sorted (t ∷ ts) (w ∷ ws) h = ((seen-shown w.feed h.0.1, many-sort w.ty t h.0.0), many-sorted ts ws h.1)

  pub many-both : (ts us : List Ty) (vs ws : List Wire) → AreMany ts vs → AreMany us ws → AreMany (ts ++ us) (vs ++ ws)
  many-both [] us [] ws a b = b
  many-both [] us (v ∷ vs) ws a b = absurd a
  many-both (t ∷ ts) us [] ws a b = absurd a
  many-both (t ∷ ts) us (v ∷ vs) ws a b = (a.0, many-both ts us vs ws a.1 b)

  pub many-length : (ts : List Ty) (ws : List Wire) → AreMany ts ws → length ws ≡ length ts
  many-length [] [] h = refl
  many-length [] (w ∷ ws) h = absurd h
  many-length (t ∷ ts) [] h = absurd h
  many-length (t ∷ ts) (w ∷ ws) h = ap suc (many-length ts ws h.1)

  many-of : (c : Carried) (t : Ty) → IsTyped x.forms x.names c t → IsMultiple x.forms x.names (many c) t
  many-of (One n) t h = h
  many-of (Multiple n) t h = absurd h
  many-of (Callee f) t h = absurd h

  -- own inputs that are multiples of these values
  pub manys-typed : (ts : List Ty) (ws : List Wire) → Of x ts ws → (n port : ℕ) → AreMany ts (ports n port (map many (types ws)))
  manys-typed [] [] h n port = tt
  manys-typed [] (w ∷ ws) h n port = absurd h
  manys-typed (t ∷ ts) [] h n port = absurd h
  manys-typed (t ∷ ts) (w ∷ ws) h n port = ((many-of w.ty t h.0.0, tt), manys-typed ts ws h.1 n (suc port))

  -- ---- a fold of the values of a clause

  module _ (p : Which) (returns : is_returns p ≡ true) where
    final-stands : (ws : List Wire) (c : Carried) → Stands x p simple.FinalValue ws c
    final-stands ws c = record { place = returns; one = λ k. omega arith; bound = λ ks first own. tt; name = λ ks first own. tt }

    gather-stands : (ws : List Wire) (n : ℕ) (a : Ty) → IsNumber x.forms x.names n (ty.Arr a) → Stands x p simple.AGather ws (One n)
    gather-stands ws n a num = record {
      place = returns;
      one = λ k. omega arith;
      bound = λ ks first shift.
          All-cons (λ c. is_stream (Some (x.sort c)) ≡ true → IsOne x.sort (closed_wires ks first shift ws)) (One n) []
          (λ e. absurd (none (ap (λ s. is_stream (Some s)) (x.sorting.values n (ty.Arr a) num ∙ array-sort x a) ∙ no-stream (x.bare a)) e)) (All-nil (λ c. is_stream (Some (x.sort c)) ≡ true → IsOne x.sort (closed_wires ks first shift ws)));
      name = λ ks first shift. tt;
    }
      where
        none : {b : Bool} → b ≡ false → b ≡ true → ⊥
        none e f = cc

    stream-stands : (ws : List Wire) (n : ℕ) → Stands x p simple.AGather (one ∷ ws) (One n)
    stream-stands ws n = record {
      place = returns;
      one = λ k. omega arith;
      bound = λ ks first shift.
          All-cons (λ c. is_stream (Some (x.sort c)) ≡ true → IsOne x.sort (closed_wires ks first shift (one ∷ ws))) (One n) []
          (λ e. (refl, x.sorting.values 2 ty.Int x.integers ∙ int-sort x)) (All-nil (λ c. is_stream (Some (x.sort c)) ≡ true → IsOne x.sort (closed_wires ks first shift (one ∷ ws))));
      name = λ ks first shift. tt;
    }

    -- the name of a reduction, the multiple, and a mask
    reduce-right : (g : Grouping) (name : List ℕ) (r : Reducer) (ms : List Wire) (s : Sort) (more : List Sort) (c : Carried) (t : Ty) → reducer_at name ≡ Some r → AreSorted x.sort ms (s ∷ more) → (more ≡ []) ⊎ (more ≡ Many ty.Bool ∷ [])
        → IsReducible (Some r) s → HasElements t s → x.sort c ≡ Plain t → made.IsRight x.forms x.names x.sort x.at p (node (Row (simple.Reduce g)) (wire (Named name) (One integer) ∷ ms)) (record { port = 1; types = c ∷ [] })
    reduce-right g name r ms s more c t e h masks reducible elements f ks first own =
        let vs = closed_wires ks first own ms in
        let i = closed-sorted x.sort ks first own ms (s ∷ more) h in
        record {
          wanted = λ k n.
              let z = n.name ∙ e in
              (x.sorting.values 2 ty.Int x.integers ∙ int-sort x, fit-wanted x.sort k (simple.Reduce g) 2 vs (s ∷ more) i (subst (λ o. IsReducible o s) (sym z) reducible, mask k masks));
          gives = λ k n.
              let at : k.at 2 ≡ Some s = n.at 2 ∙ sort-at x.sort vs (s ∷ more) i 1 in
              ((omega arith, (t, f, subst (λ o. IsCarried o (HasElements t)) (sym at) elements)), tt);
          ports = λ k n. subst (λ l. AreFirst 2 (1 ∷ l) ⊎ AreFirst 3 (1 ∷ l)) (sym (filled-sorted x.sort 2 vs (s ∷ more) i)) (count masks);
          bound = tt;
          name = subst (λ o. IsSome o) (sym e) refl;
          place = returns;
        }
      where
        mask : (k : Known) → (more ≡ []) ⊎ (more ≡ Many ty.Bool ∷ []) → AreFit k (simple.Reduce g) 3 more
        mask k (inl e) = subst (AreFit k (simple.Reduce g) 3) (sym e) tt
        mask k (inr e) = subst (AreFit k (simple.Reduce g) 3) (sym e) (refl, tt)

        count : (more ≡ []) ⊎ (more ≡ Many ty.Bool ∷ []) → AreFirst 2 (1 ∷ count_from 2 (length (s ∷ more))) ⊎ AreFirst 3 (1 ∷ count_from 2 (length (s ∷ more)))
        count (inl e) = inl (subst (λ m. AreFirst 2 (1 ∷ count_from 2 (length (s ∷ m)))) (sym e) (first-ports 2))
        count (inr e) = inr (subst (λ m. AreFirst 3 (1 ∷ count_from 2 (length (s ∷ m)))) (sym e) (first-ports 3))

    -- the lower bound of an array
    abbrev pub IsBoundRight : List Level → Bound → Type 0
    IsBoundRight ls (Wired w) = Of x (ty.Int ∷ []) (w ∷ []) × In x ls (w ∷ [])
    IsBoundRight ls (Limit w) = (a : Ty) × Of x (ty.Arr a ∷ []) (w ∷ []) × In x ls (w ∷ [])

    pub bound-more : (own : List Carried) (before more : List Outs) (ls : List Level) (b : Bound) → IsBoundRight (level own before ∷ ls) b → IsBoundRight (level own (before ++ more) ∷ ls) b
    bound-more own before more ls (Wired w) h = (h.0, forms_are.more-in x own before more ls (w ∷ []) h.1)
    bound-more own before more ls (Limit w) h = (h.0, h.1, forms_are.more-in x own before more ls (w ∷ []) h.2)

    -- a mask behind the multiple, or none
    pub data Mask : List Ty → Type 0 where
      no_mask : Mask []
      a_mask : Mask (ty.Bool ∷ [])

    abbrev IsMask : List Sort → Type 0
    IsMask ss = (ss ≡ []) ⊎ (ss ≡ Many ty.Bool ∷ [])

    masked : (a : Ty) (more : List Ty) (ms : List Wire) → Mask more → AreMany (a ∷ more) ms → (ss : List Sort) × IsMask ss × AreSorted x.sort ms (Many (x.bare a) ∷ ss)
    masked a _ ms no_mask h = ([], inl refl, many-sorted (a ∷ []) ms h)
    masked a _ ms a_mask h = (Many ty.Bool ∷ [], inr refl, subst (λ z. AreSorted x.sort ms (Many (x.bare a) ∷ Many z ∷ [])) x.sorting.bool (many-sorted (a ∷ ty.Bool ∷ []) ms h))

    gather-takes : (t : Ty) (s : Sort) → IsSequence t s → (ss : List Sort) → IsMask ss → Takes simple.AGather (Plain ty.Int ∷ Many t ∷ ss) s
    gather-takes t s q ss (inl e) = subst (λ z. Takes simple.AGather (Plain ty.Int ∷ Many t ∷ z) s) (sym e) (rows.gathered t s q)
    gather-takes t s q ss (inr e) = subst (λ z. Takes simple.AGather (Plain ty.Int ∷ Many t ∷ z) s) (sym e) (rows.gathered-masked t s q)

    final-takes : (t : Ty) (ss : List Sort) → IsMask ss → Takes simple.FinalValue (Many t ∷ ss) (Plain t)
    final-takes t ss (inl e) = subst (λ z. Takes simple.FinalValue (Many t ∷ z) (Plain t)) (sym e) (rows.final t)
    final-takes t ss (inr e) = subst (λ z. Takes simple.FinalValue (Many t ∷ z) (Plain t)) (sym e) (rows.final-masked t)

    module _ (own : List Carried) (before : List Outs) (ls : List Level) where
      abbrev Here : List Wire → Type 0
      Here ws = In x (level own before ∷ ls) ws

      abbrev Gives : Ty → Lowering → Type 0
      Gives r f = Does x p own before ls (Of x (r ∷ [])) f

      int-wire : (w : Wire) → Of x (ty.Int ∷ []) (w ∷ []) → IsShown w.feed × (x.sort w.ty ≡ Plain ty.Int)
      int-wire w t = (sorts-of x (w ∷ []) (ty.Int ∷ []) (Plain ty.Int ∷ []) t (int-sort x, tt)).0

      gather : (w : Wire) (a : Ty) (ms : List Wire) (more : List Ty) (n : ℕ) → Of x (ty.Int ∷ []) (w ∷ []) → Here (w ∷ []) → Mask more → AreMany (a ∷ more) ms → Here ms → IsNumber x.forms x.names n (ty.Arr a)
          → Gives (ty.Arr a) (row_lowered simple.AGather (w ∷ ms) (n ∷ []))
      gather w a ms more n t i mask m j num =
          let k = masked a more ms mask m in
          row-does x p own before ls simple.AGather (w ∷ ms) (Plain ty.Int ∷ Many (x.bare a) ∷ k.0) n (ty.Arr a) (Plain (ty.Arr (x.bare a))) (int-wire w t, k.2)
          (gather-takes (x.bare a) (Plain (ty.Arr (x.bare a))) (inl refl) k.0 k.1) (array-sort x a) num (gather-stands (w ∷ ms) n a num) (i.0, j)

      reduced : (g : Grouping) (name : List ℕ) (r : Reducer) (a b t : Ty) (s : Sort) (ms : List Wire) (more : List Ty) (n : ℕ) → reducer_at name ≡ Some r → Many (x.bare a) ≡ s → IsReducible (Some r) s → HasElements t s → Plain (x.bare b) ≡ Plain t
          → Mask more → AreMany (a ∷ more) ms → Here ms → IsNumber x.forms x.names n b → Gives b (row_lowered (simple.Reduce g) (wire (Named name) (One integer) ∷ ms) (n ∷ []))
      reduced g name r a b t s ms more n e f reducible elements is mask m j num =
          let k = masked a more ms mask m in
          made.node-does x.forms x.names x.sort x.at p own before ls (Of x (b ∷ [])) (Row (simple.Reduce g)) (wire (Named name) (One integer) ∷ ms) 1 (One n ∷ [])
          (reduce-right g name r ms s k.0 (One n) t e (subst (λ z. AreSorted x.sort ms (z ∷ k.0)) f k.2) k.1 reducible elements (x.sorting.values n b num ∙ is)) (λ ks first shift. tt) (tt, j)
          (typed-ports x.forms x.names (n ∷ []) (b ∷ []) (num, tt) (suc (length before)) 1)

      many-int : Many (x.bare ty.Int) ≡ Many ty.Int
      many-int = ap Many x.sorting.int

      numbers-reduced : (g : Grouping) (name : List ℕ) (r : Reducer) (ms : List Wire) (more : List Ty) (n : ℕ) → reducer_at name ≡ Some r → IsReducible (Some r) (Many ty.Int)
          → Mask more → AreMany (ty.Int ∷ more) ms → Here ms → IsNumber x.forms x.names n ty.Int → Gives ty.Int (row_lowered (simple.Reduce g) (wire (Named name) (One integer) ∷ ms) (n ∷ []))
      numbers-reduced g name r ms more n e f mask m j num = reduced g name r ty.Int ty.Int ty.Int (Many ty.Int) ms more n e many-int f (inr refl) (int-sort x) mask m j num

    pub fold-does : (own : List Carried) (before : List Outs) (ls : List Level) (b : Bound) (f : Folding) (d : Direction) (a r : Ty) → Makes f a r → IsBoundRight (level own before ∷ ls) b → (ms : List Wire) (more : List Ty) (n : ℕ)
        → Mask more → AreMany (a ∷ more) ms → In x (level own before ∷ ls) ms → IsNumber x.forms x.names n r → Does x p own before ls (Of x (r ∷ [])) (fold_lowered b f d ms n)
    fold-does own before ls (Wired w) _ d _ _ (is.makes_array a) h ms more n mask m j num = gather own before ls w a ms more n h.0 h.1 mask m j num
    fold-does own before ls (Limit w) _ d _ _ (is.makes_array a) h ms more n mask m j num =
        forms_are.then-does x p own before ls (ty.Int ∷ []) (ty.Arr a ∷ []) (row_lowered simple.ALimL (w ∷ []) (integer ∷ [])) (λ ws. row_lowered simple.AGather (wire_at ws 0 ∷ ms) (n ∷ []))
        (row-does x p own before ls simple.ALimL (w ∷ []) (Plain (ty.Arr (x.bare h.0)) ∷ []) integer ty.Int (Plain ty.Int) (sorts-of x (w ∷ []) (ty.Arr h.0 ∷ []) (Plain (ty.Arr (x.bare h.0)) ∷ []) h.1 (array-sort x h.0, tt))
        (rows.limit-low (x.bare h.0)) (int-sort x) x.integers (ordinary x p simple.ALimL (w ∷ []) (One integer) tt) h.2)
        (λ later ws aw tw.
        let v = first-of ws tw in
        gather own (before ++ later) ls (wire_at ws 0) a ms more n v (in-at x.forms x.names (level own (before ++ later) ∷ ls) ws 0 aw, tt) mask m (forms_are.more-in x own before later ls ms j) num)
      where
        first-of : (ws : List Wire) → Of x (ty.Int ∷ []) ws → Of x (ty.Int ∷ []) (wire_at ws 0 ∷ [])
        first-of [] t = absurd t
        first-of (w ∷ []) t = t
        first-of (w ∷ v ∷ ws) t = absurd t.1
    fold-does own before ls b _ d _ _ (is.makes_stream a) h ms more n mask m j num =
        let k = masked a more ms mask m in
        row-does x p own before ls simple.AGather (one ∷ ms) (Plain ty.Int ∷ Many (x.bare a) ∷ k.0) n (ty.Stream a) (Plain (ty.Stream (x.bare a))) (int-wire own before ls one ((forms_are.one-typed x).0, tt), k.2)
        (gather-takes (x.bare a) (Plain (ty.Stream (x.bare a))) (inr refl) k.0 k.1) (stream-sort x a) num (stream-stands ms n) (tt, j)
    fold-does own before ls b _ d _ _ (is.makes_last a) h ms more n mask m j num =
        let k = masked a more ms mask m in
        row-does x p own before ls simple.FinalValue ms (Many (x.bare a) ∷ k.0) n a (Plain (x.bare a)) k.2 (final-takes (x.bare a) k.0 k.1) refl num (final-stands ms (One n)) j
    fold-does own before ls b _ d _ _ is.makes_sum h ms more n mask m j num = numbers-reduced own before ls (grouping_of d) (codes "sum") reducer.Sum ms more n refl refl mask m j num
    fold-does own before ls b _ d _ _ is.makes_product h ms more n mask m j num = numbers-reduced own before ls (grouping_of d) (codes "product") reducer.Product ms more n refl refl mask m j num
    fold-does own before ls b _ d _ _ is.makes_least h ms more n mask m j num = numbers-reduced own before ls (grouping_of d) (codes "least") reducer.Least ms more n refl refl mask m j num
    fold-does own before ls b _ d _ _ is.makes_greatest h ms more n mask m j num = numbers-reduced own before ls (grouping_of d) (codes "greatest") reducer.Greatest ms more n refl refl mask m j num
    fold-does own before ls b _ d _ _ (is.makes_arrays a) h ms more n mask m j num =
        reduced own before ls (grouping_of d) (codes "catenate") reducer.Catenate (ty.Arr a) (ty.Arr a) (ty.Arr (x.bare a)) (Many (ty.Arr (x.bare a))) ms more n refl (ap Many (x.sorting.array a)) (x.bare a, inl refl) (inr refl) (array-sort x a) mask m j num
    fold-does own before ls b _ d _ _ (is.makes_streams a) h ms more n mask m j num =
        reduced own before ls (grouping_of d) (codes "catenate") reducer.Catenate (ty.Stream a) (ty.Stream a) (ty.Stream (x.bare a)) (Many (ty.Stream (x.bare a))) ms more n refl (ap Many (x.sorting.stream a)) (x.bare a, inr refl) (inr refl) (stream-sort x a) mask m j num

    -- a clause, and those behind it
    clause-does : (own : List Carried) (before : List Outs) (ls : List Level) (b : Bound) (c : ClauseForm) (cs : List ClauseForm) (k : ℕ) (r : Ty) (rs : List Ty) (ms : List Wire) (n : ℕ) (ns : List ℕ) → span c.masking ≡ k
        → Does x p own before ls (Of x (r ∷ [])) (fold_lowered b c.folding c.direction (take_up k ms) n)
        → ((more : List Outs) → Does x p own (before ++ more) ls (Of x rs) (returns_lowered b cs (drop k ms) ns)) → Does x p own before ls (Of x (r ∷ rs)) (returns_lowered b (c ∷ cs) ms (n ∷ ns))
    clause-does own before ls b c cs k r rs ms n ns e h f =
        subst (λ k. Does x p own before ls (Of x (r ∷ rs)) (andthen (fold_lowered b c.folding c.direction (take_up k ms) n) (λ vs. andthen (returns_lowered b cs (drop k ms) ns) (λ ws. only (vs ++ ws))))) (sym e)
        (forms_are.then-does x p own before ls (r ∷ []) (r ∷ rs) (fold_lowered b c.folding c.direction (take_up k ms) n) (λ vs. andthen (returns_lowered b cs (drop k ms) ns) (λ ws. only (vs ++ ws))) h
        (λ more vs av tv.
        forms_are.then-does x p own (before ++ more) ls rs (r ∷ rs) (returns_lowered b cs (drop k ms) ns) (λ ws. only (vs ++ ws)) (f more)
        (λ later ws aw tw.
        forms_are.only-does x p own ((before ++ more) ++ later) ls (r ∷ rs) (vs ++ ws)
        (forms_are.both-in x (level own ((before ++ more) ++ later) ∷ ls) vs ws (forms_are.more-in x own (before ++ more) later ls vs av) aw) (forms_are.both-of x vs ws (r ∷ []) rs tv tw))))

    pub returns-does : (cs : List ClauseForm) (row made : List Ty) → AreMade cs row made → (own : List Carried) (before : List Outs) (ls : List Level) (b : Bound) (ms : List Wire) (ns : List ℕ) → IsBoundRight (level own before ∷ ls) b → AreMany row ms → In x (level own before ∷ ls) ms
        → AreNumbers x.forms x.names ns made → Does x p own before ls (Of x made) (returns_lowered b cs ms ns)
    returns-does _ _ _ is.no_clause own before ls b ms ns h m i num = forms_are.only-does x p own before ls [] [] tt tt
    returns-does _ _ _ (is.unmasked {c = c} {cs = cs} {a = a} {b = r} {tys = tys} {made = rs} e makes more) own before ls b ms [] h m i num = absurd num
    returns-does _ _ _ (is.unmasked {c = c} {cs = cs} {a = a} {b = r} {tys = tys} {made = rs} e makes more) own before ls b [] (n ∷ ns) h m i num = absurd m
    returns-does _ _ _ (is.unmasked {c = c} {cs = cs} {a = a} {b = r} {tys = tys} {made = rs} e makes more) own before ls b (w ∷ ms) (n ∷ ns) h m i num =
        clause-does own before ls b c cs 1 r rs (w ∷ ms) n ns (ap span e) (fold-does own before ls b c.folding c.direction a r makes h (w ∷ []) [] n no_mask (m.0, tt) (i.0, tt) num.0)
        (λ later. returns-does cs tys rs more own (before ++ later) ls b ms ns (bound-more own before later ls b h) m.1 (forms_are.more-in x own before later ls ms i.1) num.1)
    returns-does _ _ _ (is.masked {c = c} {cs = cs} {a = a} {b = r} {tys = tys} {made = rs} e makes more) own before ls b ms [] h m i num = absurd num
    returns-does _ _ _ (is.masked {c = c} {cs = cs} {a = a} {b = r} {tys = tys} {made = rs} e makes more) own before ls b [] (n ∷ ns) h m i num = absurd m
    returns-does _ _ _ (is.masked {c = c} {cs = cs} {a = a} {b = r} {tys = tys} {made = rs} e makes more) own before ls b (w ∷ []) (n ∷ ns) h m i num = absurd m.1
    returns-does _ _ _ (is.masked {c = c} {cs = cs} {a = a} {b = r} {tys = tys} {made = rs} e makes more) own before ls b (w ∷ v ∷ ms) (n ∷ ns) h m i num =
        clause-does own before ls b c cs 2 r rs (w ∷ v ∷ ms) n ns (two e) (fold-does own before ls b c.folding c.direction a r makes h (w ∷ v ∷ []) (ty.Bool ∷ []) n a_mask (m.0, (m.1.0, tt)) (i.0, (i.1.0, tt)) num.0)
        (λ later. returns-does cs tys rs more own (before ++ later) ls b ms ns (bound-more own before later ls b h) m.1.1 (forms_are.more-in x own before later ls ms i.1.1) num.1)
      where
        two : (c.masking ≡ masking.When) ⊎ (c.masking ≡ masking.Unless) → span c.masking ≡ 2
        two (inl e) = ap span e
        two (inr e) = ap span e
