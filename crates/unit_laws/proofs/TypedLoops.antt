-- What loops and a ForAll do on typed operands.
use Rattle.std.proofs.Common.{◌≡◌, ℕ, suc, ◌+◌, ◌-◌, ◌<◌, Bool, true, false, List, [], ◌∷◌, ◌++◌, map, length, get_or, option_map, Option, Some, None, Contains, refl, sym, ap, subst, ◌∙◌, arith, if◌then◌else◌}
use Rattle.std.specs.Prelude.{slice_get, nat_le, MatchBool, unwrap_or}
use Rattle.std.proofs.lemmas.Bool.{leb-true}
use Rattle.flow_value.specs.declared.cause.Cause.{Cause}
use Rattle.flow_value.specs.declared.cause.Cause.TheVariants as cause
use Rattle.flow_value.specs.declared.ty.Ty.TheVariants as ty
use Rattle.flow_value.specs.declared.value.Val.{Val}
use Rattle.if1_graph.specs.declared.graph.Graph.{Graph}
use Rattle.if1_graph.specs.declared.graph.Graph.TheViews.{out-Graph}
use Rattle.if1_graph.specs.declared.graph.Node.{Node, out-Node}
use Rattle.if1_graph.specs.declared.graph.Unit1.{Unit1}
use Rattle.if1_graph.specs.declared.op.Compound.{Compound}
use Rattle.if1_graph.specs.declared.op.Compound.TheVariants as compound
use Rattle.if1_graph.specs.declared.op.Part.{Part}
use Rattle.if1_graph.specs.declared.op.Part.TheVariants as part
use Rattle.if1_graph.specs.Ops.{compound_at}
use Rattle.if1_graph.specs.Parts.{part_at, loop_part}
use Rattle.if1_graph.specs.Ports.{carried, results_at, compound_outputs}
use Rattle.if1_graph.specs.Ready.{IsReady}
use Rattle.if1_graph.specs.Tables.{◌>>=◌}
use Rattle.if1_graph.specs.Types.{Sort, Plain, Many, sort_at}
use Rattle.if1_graph.specs.Typing.{result_of, IsElement, IsMultiple, FitsOwnInput, FitsResult, giving_part}
use Rattle.if1_graph.specs.Units.{label_of, edge_into, width, results, Place, places}
use Rattle.graph_meaning.specs.Carried.{Carried, Unfilled, val_of}
use Rattle.graph_meaning.specs.Forms.{Form, Next, Stage, Enter, Iterate, Leave, next_of, first, follow, gather, errors, tested, turn_columns, columns, first_spoiled, are_as_long, rows_of, places_of, items, spread, iterate}
use Rattle.graph_meaning.specs.Forms as forms
use Rattle.graph_meaning.specs.Networks.{part as part_number, form_of}
use Rattle.typed_rows.proofs.ValueKinds.{BoolKind, a_bool, no_bool, as_bool}
use Rattle.unit_laws.specs.Typed.{Belongs, Fills, InputsBelong, IsEntered, ResultsBelong}
use Rattle.unit_laws.proofs.TypedRows.{at-type}
use Rattle.unit_laws.proofs.TypedLists.{value-of}
use Rattle.unit_laws.proofs.TypedEdges.{bound}
use Rattle.unit_laws.proofs.TypedNodes.{port-filled, width-over}
use Rattle.unit_laws.proofs.TypedOutputs.{OperandsOf}
use Rattle.unit_laws.proofs.TypedPlans.{AreIterated, EachInputs, EachResults, Plan}
use Rattle.unit_laws.proofs.TypedColumns.{first-part, second-part, AreColumns, AreRows, IsBounded, columns-count, columns-well, turns-well, AreElements, AreElementRows, rows-right, lists-right, items-many}
use Rattle.unit_laws.proofs.TypedParts.{at_part, OutputsBelong, enters-part, compound-filled, part-result, part-count, part-typed, inputs-by, errors-out, results-out, node-input, part-there, part-net, beyond}
use Rattle.unit_laws.proofs.TypedChoices.{got-below}

pub multiple-well : (at : ℕ → Option Sort) (cs : List Carried) (j : ℕ) (t : Sort) → IsMultiple (at j) t → AreColumns at cs → Belongs t (get_or cs j Unfilled)
multiple-well at cs j t m h = at-type (get_or cs j Unfilled) (Many m.0) t (sym m.2) (h j m.0 m.1)

pub in-turn : (xs ys zs : List Carried) → xs ++ (ys ++ zs) ≡ xs ++ ys ++ zs
in-turn [] ys zs = refl
in-turn (x ∷ xs) ys zs = ap (λ rest. x ∷ rest) (in-turn xs ys zs)

result-below : (u : Unit1) (s : Graph) (i : ℕ) (t : Sort) → carried u s 0 (suc i) ≡ Some t → i < results s
result-below u s i t h =
    let x = bound (edge_into s 0 (suc i)) (λ e. sort_at u.types e.ty) t h in
    let w = width-over s 0 (suc i) (port-filled s 0 (suc i) x.0 x.1) in
    omega (arith, w)

module _ (u : Unit1) (ready : IsReady u) (p : Place) (place : Contains (places u) p) (n : Node) (inside : Contains (out-Graph p.graph).nodes n) (ks : List Carried) (given : OperandsOf u p.graph (label_of n) ks) where
  abbrev pub gs : List Graph
  gs = (out-Node n).subs

  -- ---- inputs of the node with others behind them

  module _ (c : Compound) (is : compound_at (out-Node n).op ≡ Some c) where
    -- the node's inputs come first
    pub near-first : (xs : List Carried) (i : ℕ) (t : Sort) → i < width p.graph (label_of n) → carried u p.graph (label_of n) (suc i) ≡ Some t → Belongs t (get_or (ks ++ xs) i Unfilled)
    near-first xs i t lt h = let long = given.long in subst (Belongs t) (sym (first-part ks xs i (omega (arith, lt, long)))) (node-input u ready p place n inside c is ks given i t h)

    pub far-second : (xs : List Carried) (j : ℕ) (t : Sort) → Belongs t (get_or xs j Unfilled) → Belongs t (get_or (ks ++ xs) (width p.graph (label_of n) + j) Unfilled)
    far-second xs j t h = subst (λ w. Belongs t (get_or (ks ++ xs) (w + j) Unfilled)) given.long (subst (Belongs t) (sym (second-part ks xs j)) h)

    -- a result of the part at a place
    abbrev pub results-of : ℕ → ℕ → Option Sort
    results-of k i = result_of u gs k (suc i)

    -- what a part gives, by its place
    by-place : (k : ℕ) (s : Graph) → slice_get gs k ≡ Some s → (i : ℕ) (t : Sort) → results-of k i ≡ Some t → carried u s 0 (suc i) ≡ Some t
    by-place k s e i t h = sym (ap (λ o. o >>= λ g. carried u g 0 (suc i)) e) ∙ h

    count-at : (k : ℕ) (s : Graph) → slice_get gs k ≡ Some s → results_at gs k ≡ results s
    count-at k s e = ap (λ o. unwrap_or (option_map results o) 0) e

    below-results : (k : ℕ) (s : Graph) (e : slice_get gs k ≡ Some s) (x : Part) → part_at c k ≡ Some x → (rs : List Carried) → ResultsBelong u (at_part u ready p place n inside k s) rs → length rs ≡ results_at gs k
    below-results k s e x f rs h = h.long ∙ sym (count-at k s e)

  -- ---- loops

  -- the four parts of a loop, and what it does first
  module _ (c : Compound) (is : compound_at (out-Node n).op ≡ Some c) (parts : (k : ℕ) → part_at c k ≡ loop_part k) (four : length gs ≡ 4) (last : giving_part c ≡ 3) (counts : compound_outputs c gs ≡ results_at gs 3)
      (init-own : (i : ℕ) (t : Sort) → FitsOwnInput u c part.Initialization gs (suc i) t → ⊥)
      (test-own : (i : ℕ) (t : Sort) → FitsOwnInput u c part.Test gs (suc i) t → result_of u gs 0 (suc i) ≡ Some t)
      (body-own : (i : ℕ) (t : Sort) → FitsOwnInput u c part.Body gs (suc i) t → result_of u gs 0 (suc i) ≡ Some t)
      (body-gives : (i : ℕ) (t : Sort) → FitsResult u c part.Body gs (suc i) t → result_of u gs 0 (suc i) ≡ Some t)
      (body-count : (s : Graph) → slice_get gs 2 ≡ Some s → results s ≡ results_at gs 0)
      (returned : (i : ℕ) (t : Sort) → FitsOwnInput u c part.Returns gs (suc i) t → IsMultiple (result_of u gs 0 (suc i)) t) where
    abbrev pub LoopOuts : List Carried → Type 0
    LoopOuts = OutputsBelong u ready p place n inside (Some (compound_outputs c gs))

    abbrev pub loop-types : ℕ → Option Sort
    loop-types i = result_of u gs 0 (suc i)

    abbrev pub loop-count : ℕ
    loop-count = results_at gs 0

    pub data Loops : (g : ℕ) (ins : List Carried) (stage : Stage) → Type 0 where
      starting : (s : Graph) → slice_get gs 0 ≡ Some s → Loops (part_number gs 0) ks forms.Starting
      testing : (s : Graph) → slice_get gs 1 ≡ Some s → (ls : List Carried) (before : List (List Carried)) → AreRows loop-types loop-count (ls ∷ before) → Loops (part_number gs 1) (ks ++ ls) (forms.Testing (ls ∷ before))
      turning : (s : Graph) → slice_get gs 2 ≡ Some s → (ls : List Carried) (before : List (List Carried)) → AreRows loop-types loop-count (ls ∷ before) → Loops (part_number gs 2) (ks ++ ls) (forms.Turning (ls ∷ before))
      returning : (s : Graph) → slice_get gs 3 ≡ Some s → (cs : List Carried) → AreColumns loop-types cs → Loops (part_number gs 3) (ks ++ cs) forms.Returning

    abbrev pub LoopGoes : Next → Type 0
    LoopGoes (Leave rs) = LoopOuts rs
    LoopGoes (Enter t g ins stage) = Loops g ins stage
    LoopGoes (Iterate g row rows ms) = ⊥

    abbrev pub loop-entered : (g : ℕ) (ins : List Carried) (stage : Stage) → Loops g ins stage → IsEntered u g ins
    loop-entered _ _ _ (starting s e) =
        enters-part u ready p place n inside 0 s e ks (inputs-by u ready p place n inside c is 0 s e part.Initialization (parts 0) ks (λ i t lt h. node-input u ready p place n inside c is ks given i t h) (λ j t h. absurd (init-own j t h)))
    loop-entered _ _ _ (testing s e ls before h) =
        enters-part u ready p place n inside 1 s e (ks ++ ls) (inputs-by u ready p place n inside c is 1 s e part.Test (parts 1) (ks ++ ls) (λ i t lt f. near-first c is ls i t lt f) (λ j t f. far-second c is ls j t (h.0.1 j t (test-own j t f))))
    loop-entered _ _ _ (turning s e ls before h) =
        enters-part u ready p place n inside 2 s e (ks ++ ls) (inputs-by u ready p place n inside c is 2 s e part.Body (parts 2) (ks ++ ls) (λ i t lt f. near-first c is ls i t lt f) (λ j t f. far-second c is ls j t (h.0.1 j t (body-own j t f))))
    loop-entered _ _ _ (returning s e cs h) =
        enters-part u ready p place n inside 3 s e (ks ++ cs) (inputs-by u ready p place n inside c is 3 s e part.Returns (parts 3) (ks ++ cs) (λ i t lt f. near-first c is cs i t lt f) (λ j t f. far-second c is cs j t (multiple-well (λ i. result_of u gs 0 (suc i)) cs j t (returned j t f) h)))

    have-part : (k : ℕ) → k < 4 → (s : Graph) × (slice_get gs k ≡ Some s)
    have-part k lt = got-below gs k (omega (arith, lt, four))

    loop-bounded : IsBounded loop-types loop-count
    loop-bounded i t h =
        let s = have-part 0 (omega arith) in
        let b = result-below u s.0 i t (by-place c is 0 s.0 s.1 i t h) in
        let count = count-at c is 0 s.0 s.1 in
        omega (arith, b, count)

    -- results of the initialization or of the body are loop values
    loop-values : (k : ℕ) (s : Graph) → slice_get gs k ≡ Some s → results s ≡ loop-count → ((i : ℕ) (t : Sort) → loop-types i ≡ Some t → carried u s 0 (suc i) ≡ Some t) → (rs : List Carried) → ResultsBelong u (at_part u ready p place n inside k s) rs → (length rs ≡ loop-count) × Fills loop-types rs
    loop-values k s e count types rs h = (h.long ∙ count, λ i t f. h.fills i t (types i t f))

    body-types : (s : Graph) → slice_get gs 2 ≡ Some s → (i : ℕ) (t : Sort) → loop-types i ≡ Some t → carried u s 0 (suc i) ≡ Some t
    body-types s e i t f =
        let lt = loop-bounded i t f in
        let count = body-count s e in
        let r = part-typed u ready p place n inside c is 2 s e part.Body (parts 2) i (omega (arith, lt, count)) in
        let same : Some r.0 ≡ Some t = sym (body-gives i r.0 (part-result u ready p place n inside c is 2 s e part.Body (parts 2) i r.0 r.1)) ∙ f in
        r.1 ∙ same

    loop-fail : (e : Cause) → LoopOuts (errors (compound_outputs c gs) e)
    loop-fail e = errors-out u ready p place n inside c is (part.Returns, ap (part_at c) last ∙ parts 3, λ port t h. h) e

    tested-goes : (form : Form) → forms.outputs_of form ≡ compound_outputs c gs → (ls : List Carried) (before : List (List Carried)) → AreRows loop-types loop-count (ls ∷ before) → (v : Val) → BoolKind v → LoopGoes (tested form (part_number gs 2) (part_number gs 3) ks ls before v)
    tested-goes form count ls before h _ (a_bool true) = let s = have-part 2 (omega arith) in turning s.0 s.1 ls before h
    tested-goes form count ls before h _ (a_bool false) = let s = have-part 3 (omega arith) in returning s.0 s.1 (turn_columns (ls ∷ before)) (turns-well loop-types loop-count ls before loop-bounded h)
    tested-goes form count ls before h _ (no_bool e) = subst (λ k. LoopOuts (errors k e)) (sym count) (loop-fail e)

    test-goes : (form : Form) → forms.outputs_of form ≡ compound_outputs c gs → (begin : Next) (s : Graph) → slice_get gs 1 ≡ Some s → (ls : List Carried) (before : List (List Carried)) → AreRows loop-types loop-count (ls ∷ before) → (rs : List Carried)
        → ResultsBelong u (at_part u ready p place n inside 1 s) rs → LoopGoes (forms.loop form begin (part_number gs 1) (part_number gs 2) (part_number gs 3) ks (forms.Testing (ls ∷ before)) rs)
    test-goes form count begin s e ls before h rs r = go rs (r.long ∙ one) r.fills
      where
        one : results s ≡ 1
        one = part-count u ready p place n inside c is 1 s e part.Test (parts 1)

        typed : (t : Sort) × (carried u s 0 1 ≡ Some t)
        typed = part-typed u ready p place n inside c is 1 s e part.Test (parts 1) 0 (let o = one in omega (arith, o))

        go : (rs : List Carried) → length rs ≡ 1 → Fills (λ i. carried u s 0 (suc i)) rs → LoopGoes (forms.loop form begin (part_number gs 1) (part_number gs 2) (part_number gs 3) ks (forms.Testing (ls ∷ before)) rs)
        go [] l f = absurd (omega (arith, l))
        go (q ∷ []) l f =
            let b = f 0 typed.0 typed.1 in
            let v = value-of ty.Bool q (at-type q typed.0 (Plain ty.Bool) (part-result u ready p place n inside c is 1 s e part.Test (parts 1) 0 typed.0 typed.1) b) in
            subst (λ z. LoopGoes (tested form (part_number gs 2) (part_number gs 3) ks ls before (val_of z))) (sym v.is) (tested-goes form count ls before h v.value (as_bool v.value v.of))
        go (q ∷ x ∷ rs) l f = absurd (omega (arith, l))

    pub loop-follows : (form : Form) → forms.outputs_of form ≡ compound_outputs c gs → (begin : List Carried → Next) → ((ls : List Carried) → AreRows loop-types loop-count (ls ∷ []) → LoopGoes (begin ls))
        → (g : ℕ) (ins : List Carried) (stage : Stage) (x : Loops g ins stage) (rs : List Carried) → ResultsBelong u (loop-entered g ins stage x).at rs → LoopGoes (forms.loop form (begin rs) (part_number gs 1) (part_number gs 2) (part_number gs 3) ks stage rs)
    loop-follows form count begin goes _ _ _ (starting s e) rs h = goes rs (loop-values 0 s e (sym (count-at c is 0 s e)) (λ i t f. by-place c is 0 s e i t f) rs h, tt)
    loop-follows form count begin goes _ _ _ (testing s e ls before k) rs h = test-goes form count (begin rs) s e ls before k rs h
    loop-follows form count begin goes _ _ _ (turning s e ls before k) rs h = let t = have-part 1 (omega arith) in testing t.0 t.1 rs (ls ∷ before) (loop-values 2 s e (body-count s e) (body-types s e) rs h, k)
    loop-follows form count begin goes _ _ _ (returning s e cs k) rs h =
        results-out u ready p place n inside c is 3 s e part.Returns (parts 3) (sym (count-at c is 3 s e) ∙ sym counts)
        (λ i t f. ap (λ j. result_of u gs j (suc i)) last ∙ (ap (λ o. o >>= λ g. carried u g 0 (suc i)) e ∙ f)) rs h

    pub begin-body : (ls : List Carried) → AreRows loop-types loop-count (ls ∷ []) → LoopGoes (Enter true (part_number gs 2) (ks ++ ls) (forms.Turning (ls ∷ [])))
    begin-body ls h = let s = have-part 2 (omega arith) in turning s.0 s.1 ls [] h

    pub begin-test : (ls : List Carried) → AreRows loop-types loop-count (ls ∷ []) → LoopGoes (Enter false (part_number gs 1) (ks ++ ls) (forms.Testing (ls ∷ [])))
    begin-test ls h = let s = have-part 1 (omega arith) in testing s.0 s.1 ls [] h

    pub loop-begins : LoopGoes (Enter false (part_number gs 0) ks forms.Starting)
    loop-begins = let s = have-part 0 (omega arith) in starting s.0 s.1

  -- ---- ForAll

  module _ (is : compound_at (out-Node n).op ≡ Some compound.ForAll) where
    abbrev pub AllOuts : List Carried → Type 0
    AllOuts = OutputsBelong u ready p place n inside (Some (compound_outputs compound.ForAll gs))

    abbrev pub made : ℕ → Option Sort
    made i = result_of u gs 0 (suc i)

    abbrev pub body-types-all : ℕ → Option Sort
    body-types-all i = result_of u gs 1 (suc i)

    three : length gs ≡ 3
    three = (compound-filled u ready p place n inside compound.ForAll is).parts

    all-part : (k : ℕ) → k < 3 → (s : Graph) × (slice_get gs k ≡ Some s)
    all-part k lt = let t = three in got-below gs k (omega (arith, lt, t))

    -- multiples as the generator gives them
    pub record AreMade (ms : List Carried) : Type 0 where
      pub long : length ms ≡ results_at gs 0
      pub fills : Fills made ms

    pub record AreReturned (cs : List Carried) : Type 0 where
      pub long : length cs ≡ results_at gs 1
      pub columns : AreColumns body-types-all cs

    pub data Alls : (g : ℕ) (ins : List Carried) (stage : Stage) → Type 0 where
      generating : (s : Graph) → slice_get gs 0 ≡ Some s → Alls (part_number gs 0) ks forms.Generating
      returning_all : (s : Graph) → slice_get gs 2 ≡ Some s → (ms cs : List Carried) → AreMade ms → AreReturned cs → Alls (part_number gs 2) (ks ++ ms ++ cs) forms.Returning

    pub data Rows : (g : ℕ) (rows : List (List Carried)) (ms : List Carried) → Type 0 where
      running : (s : Graph) → slice_get gs 1 ≡ Some s → (rows : List (List Carried)) (ms : List Carried) → AreMade ms → EachInputs u (at_part u ready p place n inside 1 s) rows → Rows (part_number gs 1) rows ms

    abbrev pub AllGoes : Next → Type 0
    AllGoes (Leave rs) = AllOuts rs
    AllGoes (Enter t g ins stage) = Alls g ins stage
    AllGoes (Iterate g row rows ms) = Rows g (row ∷ rows) ms

    -- the returns have the multiples, and then the columns
    pub returned-own : (ms cs : List Carried) → AreMade ms → AreReturned cs → (j : ℕ) (t : Sort) → FitsOwnInput u compound.ForAll part.Returns gs (suc j) t → Belongs t (get_or (ms ++ cs) j Unfilled)
    returned-own ms cs m k j t h = go (nat_le (suc j) (results_at gs 0)) refl h
      where
        go : (b : Bool) → nat_le (suc j) (results_at gs 0) ≡ b → MatchBool b (result_of u gs 0 (suc j) ≡ Some t) (IsMultiple (result_of u gs 1 (suc j - results_at gs 0)) t) → Belongs t (get_or (ms ++ cs) j Unfilled)
        go true g y = let long = m.long in let le = leb-true (suc j) (results_at gs 0) g in subst (Belongs t) (sym (first-part ms cs j (omega (arith, le, long)))) (m.fills j t y)
        go false g y =
            let over = beyond j (results_at gs 0) g in
            let own : suc j - results_at gs 0 ≡ suc (j - results_at gs 0) = omega (arith, over) in
            let back : results_at gs 0 + (j - results_at gs 0) ≡ j = omega (arith, over) in
            subst (λ q. Belongs t (get_or (ms ++ cs) q Unfilled)) (ap (λ w. w + (j - results_at gs 0)) m.long ∙ back)
            (subst (Belongs t) (sym (second-part ms cs (j - results_at gs 0)))
            (multiple-well body-types-all cs (j - results_at gs 0) t (subst (λ q. IsMultiple (result_of u gs 1 q) t) own y) k.columns))

    abbrev pub all-entered : (g : ℕ) (ins : List Carried) (stage : Stage) → Alls g ins stage → IsEntered u g ins
    all-entered _ _ _ (generating s e) =
        enters-part u ready p place n inside 0 s e ks (inputs-by u ready p place n inside compound.ForAll is 0 s e part.Generator refl ks (λ i t lt h. node-input u ready p place n inside compound.ForAll is ks given i t h) (λ j t h. absurd h))
    all-entered _ _ _ (returning_all s e ms cs m k) =
        enters-part u ready p place n inside 2 s e (ks ++ ms ++ cs) (subst (InputsBelong u (at_part u ready p place n inside 2 s)) (in-turn ks ms cs) (inputs-by u ready p place n inside compound.ForAll is 2 s e part.Returns refl (ks ++ (ms ++ cs)) (λ i t lt f. near-first compound.ForAll is (ms ++ cs) i t lt f)
        (λ j t f. far-second compound.ForAll is (ms ++ cs) j t (returned-own ms cs m k j t f))))

    abbrev pub all-iterated : (g : ℕ) (rows : List (List Carried)) (ms : List Carried) → Rows g rows ms → AreIterated u g rows
    all-iterated _ _ _ (running s e rows ms m h) =
        record { at = at_part u ready p place n inside 1 s; there = part-there u ready p place n inside 1 s e; net = part-net u ready p place n inside 1 s e; inputs = h }

    all-fail : (e : Cause) → AllOuts (errors (compound_outputs compound.ForAll gs) e)
    all-fail e = errors-out u ready p place n inside compound.ForAll is (part.Returns, refl, λ port t h. h) e

    made-bounded : (ms : List Carried) → AreMade ms → IsBounded made (length ms)
    made-bounded ms m i t h =
        let s = all-part 0 (omega arith) in
        let b = result-below u s.0 i t (by-place compound.ForAll is 0 s.0 s.1 i t h) in
        let count = count-at compound.ForAll is 0 s.0 s.1 in
        let long = m.long in
        omega (arith, b, count, long)

    -- a row of elements behind the node's inputs is what the body takes
    row-inputs : (s : Graph) (e : slice_get gs 1 ≡ Some s) (ms row : List Carried) → AreMade ms → length row ≡ length ms → AreElements made row → InputsBelong u (at_part u ready p place n inside 1 s) (ks ++ row)
    row-inputs s e ms row m long h =
        inputs-by u ready p place n inside compound.ForAll is 1 s e part.Body refl (ks ++ row) (λ i t lt f. near-first compound.ForAll is row i t lt f)
        (λ j t f. far-second compound.ForAll is row j t (element j t f))
      where
        element : (j : ℕ) (t : Sort) → IsElement (result_of u gs 0 (suc j)) t → Belongs t (get_or row j Unfilled)
        element j t x = let lt = made-bounded ms m j (Many x.0) x.1 in at-type (get_or row j Unfilled) (Plain x.0) t (sym x.2) (h j x.0 x.1 (omega (arith, lt, long)))

    each-row : (s : Graph) (e : slice_get gs 1 ≡ Some s) (ms : List Carried) → AreMade ms → (rows : List (List Carried)) → AreElementRows made (length ms) rows → EachInputs u (at_part u ready p place n inside 1 s) (map (λ r. ks ++ r) rows)
    each-row s e ms m [] h = tt
    each-row s e ms m (row ∷ rows) h = (row-inputs s e ms row m h.0.0 h.0.1, each-row s e ms m rows h.1)

    body-rows : (s : Graph) → slice_get gs 1 ≡ Some s → (lists : List (List Carried)) → EachResults u (at_part u ready p place n inside 1 s) lists → AreRows body-types-all (results_at gs 1) lists
    body-rows s e [] h = tt
    body-rows s e (rs ∷ lists) h = ((h.0.long ∙ sym (count-at compound.ForAll is 1 s e), λ i t f. h.0.fills i t (by-place compound.ForAll is 1 s e i t f)), body-rows s e lists h.1)

    body-bounded : IsBounded body-types-all (results_at gs 1)
    body-bounded i t h =
        let s = all-part 1 (omega arith) in
        let b = result-below u s.0 i t (by-place compound.ForAll is 1 s.0 s.1 i t h) in
        let count = count-at compound.ForAll is 1 s.0 s.1 in
        omega (arith, b, count)

    returned-columns : (rows : List (List Carried)) → AreRows body-types-all (results_at gs 1) rows → AreReturned (columns (results_at gs 1) rows)
    returned-columns rows h = record { long = columns-count (results_at gs 1) rows body-types-all h; columns = columns-well body-types-all (results_at gs 1) rows body-bounded h }

    spreads : (ms : List Carried) → AreMade ms → (rows : List (List Carried)) → AreElementRows made (length ms) rows → AllGoes (spread (part_number gs 1) (part_number gs 2) (results_at gs 1) ks ms rows)
    spreads ms m [] h = let s = all-part 2 (omega arith) in returning_all s.0 s.1 ms (columns (results_at gs 1) []) m (returned-columns [] tt)
    spreads ms m (row ∷ rows) h = let s = all-part 1 (omega arith) in running s.0 s.1 ((ks ++ row) ∷ map (λ r. ks ++ r) rows) ms m (row-inputs s.0 s.1 ms row m h.0.0 h.0.1, each-row s.0 s.1 ms m rows h.1)

    iterates-on : (ms : List Carried) → AreMade ms → (o : Option Cause) → AllGoes (iterate (form_of compound.ForAll gs (out-Node n).assoc) (part_number gs 1) (part_number gs 2) (results_at gs 1) ks ms o)
    iterates-on ms m (Some c) = all-fail c
    iterates-on ms m None = go (are_as_long ms) refl
      where
        go : (b : Bool) → are_as_long ms ≡ b → AllGoes (if b then spread (part_number gs 1) (part_number gs 2) (results_at gs 1) ks ms (rows_of (places_of ms) (map items ms)) else forms.fails (form_of compound.ForAll gs (out-Node n).assoc) cause.Size)
        go true e = spreads ms m (rows_of (places_of ms) (map items ms)) (subst (λ k. AreElementRows made k (rows_of (places_of ms) (map items ms))) (items-many ms) (rows-right made (places_of ms) (map items ms) (lists-right made ms (made-bounded ms m) m.fills e)))
        go false e = all-fail cause.Size

    pub all-follows : (g : ℕ) (ins : List Carried) (stage : Stage) (x : Alls g ins stage) (rs : List Carried) → ResultsBelong u (all-entered g ins stage x).at rs → AllGoes (follow (form_of compound.ForAll gs (out-Node n).assoc) ks stage rs)
    all-follows _ _ _ (generating s e) rs h =
        iterates-on rs (record { long = h.long ∙ sym (count-at compound.ForAll is 0 s e); fills = λ i t f. h.fills i t (by-place compound.ForAll is 0 s e i t f) }) (first_spoiled rs)
    all-follows _ _ _ (returning_all s e ms cs m k) rs h =
        results-out u ready p place n inside compound.ForAll is 2 s e part.Returns refl (sym (count-at compound.ForAll is 2 s e)) (λ i t f. ap (λ o. o >>= λ g. carried u g 0 (suc i)) e ∙ f) rs h

    pub all-gathers : (g : ℕ) (rows : List (List Carried)) (ms : List Carried) (x : Rows g rows ms) (lists : List (List Carried)) → EachResults u (all-iterated g rows ms x).at lists → AllGoes (gather (form_of compound.ForAll gs (out-Node n).assoc) ks ms lists)
    all-gathers _ _ _ (running s e rows ms m h) lists k = let t = all-part 2 (omega arith) in returning_all t.0 t.1 ms (columns (results_at gs 1) lists) m (returned-columns lists (body-rows s e lists k))

    abbrev pub all-plan : Plan u (form_of compound.ForAll gs (out-Node n).assoc) ks AllOuts
    all-plan =
        record {
          Enters = Alls;
          Iterates = Rows;
          entered = all-entered;
          iterated = all-iterated;
          Goes = AllGoes;
          leaves = λ rs h. h;
          enters = λ t g ins stage h. h;
          iterates = λ g row rows ms h. h;
          follows = all-follows;
          gathers = all-gathers;
        }

    pub all-begins : all-plan.Goes (next_of (first (form_of compound.ForAll gs (out-Node n).assoc) ks))
    all-begins = let s = all-part 0 (omega arith) in generating s.0 s.1

  -- ---- the two loops

  module _ (is : compound_at (out-Node n).op ≡ Some compound.LoopA) where
    pub four-a : length gs ≡ 4
    four-a = (compound-filled u ready p place n inside compound.LoopA is).parts

    pub count-a : (s : Graph) → slice_get gs 2 ≡ Some s → results s ≡ results_at gs 0
    count-a s e = part-count u ready p place n inside compound.LoopA is 2 s e part.Body refl

    abbrev pub plan-a : Plan u (form_of compound.LoopA gs (out-Node n).assoc) ks (OutputsBelong u ready p place n inside (Some (compound_outputs compound.LoopA gs)))
    plan-a =
        record {
          Enters = Loops compound.LoopA is (λ k. refl) four-a refl refl (λ i t h. h) (λ i t h. h) (λ i t h. h) (λ i t h. h.1) count-a (λ i t h. h);
          Iterates = λ g rows ms. ⊥;
          entered = loop-entered compound.LoopA is (λ k. refl) four-a refl refl (λ i t h. h) (λ i t h. h) (λ i t h. h) (λ i t h. h.1) count-a (λ i t h. h);
          iterated = λ g rows ms h. absurd h;
          Goes = LoopGoes compound.LoopA is (λ k. refl) four-a refl refl (λ i t h. h) (λ i t h. h) (λ i t h. h) (λ i t h. h.1) count-a (λ i t h. h);
          leaves = λ rs h. h;
          enters = λ t g ins stage h. h;
          iterates = λ g row rows ms h. h;
          follows = λ g ins stage x rs h.
              loop-follows compound.LoopA is (λ k. refl) four-a refl refl (λ i t h. h) (λ i t h. h) (λ i t h. h) (λ i t h. h.1) count-a (λ i t h. h) (form_of compound.LoopA gs (out-Node n).assoc) refl (λ ls. Enter true (part_number gs 2) (ks ++ ls) (forms.Turning (ls ∷ [])))
              (begin-body compound.LoopA is (λ k. refl) four-a refl refl (λ i t h. h) (λ i t h. h) (λ i t h. h) (λ i t h. h.1) count-a (λ i t h. h)) g ins stage x rs h;
          gathers = λ g rows ms h lists k. absurd h;
        }

    pub begins-a : plan-a.Goes (next_of (first (form_of compound.LoopA gs (out-Node n).assoc) ks))
    begins-a = loop-begins compound.LoopA is (λ k. refl) four-a refl refl (λ i t h. h) (λ i t h. h) (λ i t h. h) (λ i t h. h.1) count-a (λ i t h. h)

  module _ (is : compound_at (out-Node n).op ≡ Some compound.LoopB) where
    pub four-b : length gs ≡ 4
    four-b = (compound-filled u ready p place n inside compound.LoopB is).parts

    pub count-b : (s : Graph) → slice_get gs 2 ≡ Some s → results s ≡ results_at gs 0
    count-b s e = part-count u ready p place n inside compound.LoopB is 2 s e part.Body refl

    abbrev pub plan-b : Plan u (form_of compound.LoopB gs (out-Node n).assoc) ks (OutputsBelong u ready p place n inside (Some (compound_outputs compound.LoopB gs)))
    plan-b =
        record {
          Enters = Loops compound.LoopB is (λ k. refl) four-b refl refl (λ i t h. h) (λ i t h. h) (λ i t h. h) (λ i t h. h.1) count-b (λ i t h. h);
          Iterates = λ g rows ms. ⊥;
          entered = loop-entered compound.LoopB is (λ k. refl) four-b refl refl (λ i t h. h) (λ i t h. h) (λ i t h. h) (λ i t h. h.1) count-b (λ i t h. h);
          iterated = λ g rows ms h. absurd h;
          Goes = LoopGoes compound.LoopB is (λ k. refl) four-b refl refl (λ i t h. h) (λ i t h. h) (λ i t h. h) (λ i t h. h.1) count-b (λ i t h. h);
          leaves = λ rs h. h;
          enters = λ t g ins stage h. h;
          iterates = λ g row rows ms h. h;
          follows = λ g ins stage x rs h.
              loop-follows compound.LoopB is (λ k. refl) four-b refl refl (λ i t h. h) (λ i t h. h) (λ i t h. h) (λ i t h. h.1) count-b (λ i t h. h) (form_of compound.LoopB gs (out-Node n).assoc) refl (λ ls. Enter false (part_number gs 1) (ks ++ ls) (forms.Testing (ls ∷ [])))
              (begin-test compound.LoopB is (λ k. refl) four-b refl refl (λ i t h. h) (λ i t h. h) (λ i t h. h) (λ i t h. h.1) count-b (λ i t h. h)) g ins stage x rs h;
          gathers = λ g rows ms h lists k. absurd h;
        }

    pub begins-b : plan-b.Goes (next_of (first (form_of compound.LoopB gs (out-Node n).assoc) ks))
    begins-b = loop-begins compound.LoopB is (λ k. refl) four-b refl refl (λ i t h. h) (λ i t h. h) (λ i t h. h) (λ i t h. h.1) count-b (λ i t h. h)
