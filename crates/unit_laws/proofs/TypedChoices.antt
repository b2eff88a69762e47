-- What a Select and a TagCase do on typed operands.
use Rattle.std.proofs.Common.{◌≡◌, ℕ, zero, suc, ◌<◌, pos, negsuc, true, List, [], ◌∷◌, map, length, drop, get_or, Option, Some, None, Contains, All, refl, sym, ap, subst, ◌∙◌, arith}
use Rattle.std.specs.Prelude.{slice_get}
use Rattle.std.proofs.lemmas.List.Elements.{All-contains}
use Rattle.flow_value.specs.declared.cause.Cause.{Cause}
use Rattle.flow_value.specs.declared.cause.Cause.TheVariants as cause
use Rattle.flow_value.specs.declared.ty.Ty.TheVariants as ty
use Rattle.flow_value.specs.declared.value.Val.{Val}
use Rattle.flow_value.specs.declared.value.Val.TheViews.{out-Val}
use Rattle.flow_value.specs.Well.{is_well_tag}
use Rattle.if1_graph.specs.declared.graph.Graph.{Graph}
use Rattle.if1_graph.specs.declared.graph.Graph.TheViews.{out-Graph}
use Rattle.if1_graph.specs.declared.graph.Node.{Node, out-Node}
use Rattle.if1_graph.specs.declared.graph.Unit1.{Unit1}
use Rattle.if1_graph.specs.declared.op.Compound.TheVariants as compound
use Rattle.if1_graph.specs.declared.op.Part.TheVariants as part
use Rattle.if1_graph.specs.Ops.{simple_at, compound_at}
use Rattle.if1_graph.specs.Ports.{IsAssociation, carried, tags_of, compound_outputs}
use Rattle.if1_graph.specs.Ready.{IsReady}
use Rattle.if1_graph.specs.Tables.{◌>>=◌, at_port}
use Rattle.if1_graph.specs.Types.{Member, Sort, Plain}
use Rattle.if1_graph.specs.Typing.{FitsNode, FitsContent, FitsNodeInput}
use Rattle.if1_graph.specs.Units.{label_of, width, Place, places}
use Rattle.if1_order.proofs.Members.{contains_got}
use Rattle.graph_meaning.specs.Carried.{Carried, Value, Unfilled, val_of}
use Rattle.graph_meaning.specs.Forms.{Form, Next, Stage, Enter, Iterate, Leave, First, Begins, Skips, next_of, first, follow, errors, enter_arm, arm_in, arm_of, select, enter_chosen}
use Rattle.graph_meaning.specs.Forms as forms
use Rattle.graph_meaning.specs.Networks.{number_or_zero, part as part_number, form_of}
use Rattle.typed_rows.proofs.ValueKinds.{IntKind, an_int, no_int, as_int, UniKind, a_uni, no_uni, as_uni, out_err, out_uni}
use Rattle.typed_rows.specs.Rows.{Of}
use Rattle.unit_laws.specs.Typed.{Belongs, Fills, InputsBelong, IsEntered, ResultsBelong}
use Rattle.unit_laws.proofs.TypeLists.{some-same}
use Rattle.unit_laws.proofs.TypeLists as types
use Rattle.unit_laws.proofs.TypedRows.{at-type}
use Rattle.unit_laws.proofs.TypedLists.{value-of}
use Rattle.unit_laws.proofs.TypedEdges.{IsValueWant}
use Rattle.unit_laws.proofs.TypedNodes.{filled-port, wanted-at}
use Rattle.unit_laws.proofs.TypedOutputs.{OperandsOf}
use Rattle.unit_laws.proofs.TypedPlans.{Plan}
use Rattle.unit_laws.proofs.TypedParts.{at_part, OutputsBelong, enters-part, compound-filled, no-want, part-result, part-count, part-typed, inputs-by, errors-out, results-out, node-input}

member-same : (a b : Member) → Some a ≡ Some b → a ≡ b
member-same a b e = cc

-- what is at a place of a mapped list
got-mapped : {A B : Type 0} (f : A → B) (xs : List A) (i : ℕ) (y : B) → slice_get (map f xs) i ≡ Some y → (x : A) × (slice_get xs i ≡ Some x) × (f x ≡ y)
got-mapped f [] i y e = absurd cc
got-mapped f (x ∷ xs) zero y e = (x, refl, some-same (f x) y e)
got-mapped f (x ∷ xs) (suc i) y e = got-mapped f xs i y e

got-dropped : {A : Type 0} (xs : List A) (i : ℕ) (x : A) → slice_get (drop 1 xs) i ≡ Some x → slice_get xs (suc i) ≡ Some x
got-dropped [] i x e = absurd cc
got-dropped (y ∷ xs) i x e = e

pub got-below : {A : Type 0} (xs : List A) (i : ℕ) → i < length xs → (x : A) × (slice_get xs i ≡ Some x)
got-below [] i lt = absurd (omega (arith, lt))
got-below (x ∷ xs) zero lt = (x, refl)
got-below (x ∷ xs) (suc i) lt = got-below xs i (omega (arith, lt))

module _ (u : Unit1) (ready : IsReady u) (p : Place) (place : Contains (places u) p) (n : Node) (inside : Contains (out-Graph p.graph).nodes n) (ks : List Carried) (given : OperandsOf u p.graph (label_of n) ks) where
  abbrev pub gs : List Graph
  gs = (out-Node n).subs

  -- ---- Select

  module _ (is : compound_at (out-Node n).op ≡ Some compound.Select) where
    abbrev pub count : ℕ
    count = compound_outputs compound.Select gs

    abbrev pub Outs : List Carried → Type 0
    Outs = OutputsBelong u ready p place n inside (Some count)

    -- the selector, or the alternative at a place, on the node's inputs
    pub data Selects : (g : ℕ) (ins : List Carried) (stage : Stage) → Type 0 where
      selector : (s : Graph) → slice_get gs 0 ≡ Some s → Selects (part_number gs 0) ks forms.Selecting
      chosen : (i : ℕ) (s : Graph) → slice_get gs (suc i) ≡ Some s → Selects (part_number gs (suc i)) ks forms.Chosen

    abbrev pub Goes : Next → Type 0
    Goes (Leave rs) = Outs rs
    Goes (Enter t g ins stage) = Selects g ins stage
    Goes (Iterate g row rows ms) = ⊥

    abbrev pub entered : (g : ℕ) (ins : List Carried) (stage : Stage) → Selects g ins stage → IsEntered u g ins
    entered _ _ _ (selector s e) = enters-part u ready p place n inside 0 s e ks (inputs-by u ready p place n inside compound.Select is 0 s e part.Selector refl ks (λ i t lt h. node-input u ready p place n inside compound.Select is ks given i t h) (λ j t h. absurd h))
    entered _ _ _ (chosen i s e) =
        enters-part u ready p place n inside (suc i) s e ks (inputs-by u ready p place n inside compound.Select is (suc i) s e part.Alternative refl ks (λ i t lt h. node-input u ready p place n inside compound.Select is ks given i t h) (λ j t h. absurd h))

    fail : (c : Cause) → Outs (errors count c)
    fail c = errors-out u ready p place n inside compound.Select is (part.Alternative, refl, λ port t h. h.0) c

    choose : (i : ℕ) (o : Option ℕ) → slice_get (map (λ g. (out-Graph g).number) (drop 1 gs)) i ≡ o → Goes (enter_chosen (form_of compound.Select gs (out-Node n).assoc) ks o)
    choose i None e = fail cause.Tag
    choose i (Some g) e =
        let r = got-mapped (λ g. (out-Graph g).number) (drop 1 gs) i g e in
        let s = got-dropped gs i r.0 r.1 in
        subst (λ z. Selects z ks forms.Chosen) (ap number_or_zero s ∙ r.2) (chosen i r.0 s)

    selected : (v : Val) → IntKind v → Goes (select (form_of compound.Select gs (out-Node n).assoc) (map (λ g. (out-Graph g).number) (drop 1 gs)) ks v)
    selected _ (an_int (pos i) f) = choose i (slice_get (map (λ g. (out-Graph g).number) (drop 1 gs)) i) refl
    selected _ (an_int (negsuc i) f) = fail cause.Tag
    selected _ (no_int c) = fail c

    one-result : (s : Graph) → slice_get gs 0 ≡ Some s → (rs : List Carried) → ResultsBelong u (at_part u ready p place n inside 0 s) rs → Goes (follow (form_of compound.Select gs (out-Node n).assoc) ks forms.Selecting rs)
    one-result s e rs h = go rs (h.long ∙ part-count u ready p place n inside compound.Select is 0 s e part.Selector refl) h.fills
      where
        typed : (t : Sort) × (carried u s 0 1 ≡ Some t)
        typed = let c = part-count u ready p place n inside compound.Select is 0 s e part.Selector refl in part-typed u ready p place n inside compound.Select is 0 s e part.Selector refl 0 (omega (arith, c))

        go : (rs : List Carried) → length rs ≡ 1 → Fills (λ i. carried u s 0 (suc i)) rs → Goes (follow (form_of compound.Select gs (out-Node n).assoc) ks forms.Selecting rs)
        go [] c f = absurd (omega (arith, c))
        go (r ∷ []) c f =
            let b = f 0 typed.0 typed.1 in
            let v = value-of ty.Int r (at-type r typed.0 (Plain ty.Int) (part-result u ready p place n inside compound.Select is 0 s e part.Selector refl 0 typed.0 typed.1) b) in
            subst (λ z. Goes (select (form_of compound.Select gs (out-Node n).assoc) (map (λ g. (out-Graph g).number) (drop 1 gs)) ks (val_of z))) (sym v.is) (selected v.value (as_int v.value v.of))
        go (r ∷ q ∷ rs) c f = absurd (omega (arith, c))

    pub follows : (g : ℕ) (ins : List Carried) (stage : Stage) (x : Selects g ins stage) (rs : List Carried) → ResultsBelong u (entered g ins stage x).at rs → Goes (follow (form_of compound.Select gs (out-Node n).assoc) ks stage rs)
    follows _ _ _ (selector s e) rs h = one-result s e rs h
    follows _ _ _ (chosen i s e) rs h =
        results-out u ready p place n inside compound.Select is (suc i) s e part.Alternative refl (part-count u ready p place n inside compound.Select is (suc i) s e part.Alternative refl)
        (λ j t f. (part-result u ready p place n inside compound.Select is (suc i) s e part.Alternative refl j t f).1) rs h

    abbrev pub select-plan : Plan u (form_of compound.Select gs (out-Node n).assoc) ks Outs
    select-plan =
        record {
          Enters = Selects;
          Iterates = λ g rows ms. ⊥;
          entered = entered;
          iterated = λ g rows ms h. absurd h;
          Goes = Goes;
          leaves = λ rs h. h;
          enters = λ t g ins stage h. h;
          iterates = λ g row rows ms h. h;
          follows = follows;
          gathers = λ g rows ms h lists k. absurd h;
        }

    pub select-begins : select-plan.Goes (next_of (first (form_of compound.Select gs (out-Node n).assoc) ks))
    select-begins = let r = got-below gs 0 (let two = (compound-filled u ready p place n inside compound.Select is).parts in omega (arith, two)) in selector r.0 r.1

  -- ---- TagCase

  module _ (is : compound_at (out-Node n).op ≡ Some compound.TagCase) where
    abbrev pub arms-count : ℕ
    arms-count = compound_outputs compound.TagCase gs

    abbrev pub ArmOuts : List Carried → Type 0
    ArmOuts = OutputsBelong u ready p place n inside (Some arms-count)

    -- an arm, on the content of its tag in place of the union
    pub data Arms : (g : ℕ) (ins : List Carried) (stage : Stage) → Type 0 where
      an_arm : (k : ℕ) (s : Graph) (ins : List Carried) → slice_get gs k ≡ Some s → InputsBelong u (at_part u ready p place n inside k s) ins → Arms (part_number gs k) ins forms.Chosen

    abbrev pub ArmGoes : Next → Type 0
    ArmGoes (Leave rs) = ArmOuts rs
    ArmGoes (Enter t g ins stage) = Arms g ins stage
    ArmGoes (Iterate g row rows ms) = ⊥

    abbrev pub arm-entered : (g : ℕ) (ins : List Carried) (stage : Stage) → Arms g ins stage → IsEntered u g ins
    arm-entered _ _ _ (an_arm k s ins e h) = enters-part u ready p place n inside k s e ins h

    pub arm-follows : (g : ℕ) (ins : List Carried) (stage : Stage) (x : Arms g ins stage) (rs : List Carried) → ResultsBelong u (arm-entered g ins stage x).at rs → ArmGoes (follow (form_of compound.TagCase gs (out-Node n).assoc) ks stage rs)
    arm-follows _ _ _ (an_arm k s ins e h) rs r =
        results-out u ready p place n inside compound.TagCase is k s e part.Arm refl (part-count u ready p place n inside compound.TagCase is k s e part.Arm refl)
        (λ j t f. (part-result u ready p place n inside compound.TagCase is k s e part.Arm refl j t f).1) rs r

    abbrev pub arms-plan : Plan u (form_of compound.TagCase gs (out-Node n).assoc) ks ArmOuts
    arms-plan =
        record {
          Enters = Arms;
          Iterates = λ g rows ms. ⊥;
          entered = arm-entered;
          iterated = λ g rows ms h. absurd h;
          Goes = ArmGoes;
          leaves = λ rs h. h;
          enters = λ t g ins stage h. h;
          iterates = λ g row rows ms h. h;
          follows = arm-follows;
          gathers = λ g rows ms h lists k. absurd h;
        }

    arm-fail : (c : Cause) → ArmOuts (errors arms-count c)
    arm-fail c = errors-out u ready p place n inside compound.TagCase is (part.Arm, refl, λ port t h. h.0) c

    -- the first port carries a union
    pub record IsUnion : Type 0 where
      pub tags : List Member
      pub carries : carried u p.graph (label_of n) 1 ≡ Some (Plain (ty.Uni tags))

    the-union : IsUnion
    the-union =
        let f = (compound-filled u ready p place n inside compound.TagCase is).ports in
        let x = filled-port p.graph (label_of n) 1 ((f.2.these 1).1 (omega arith, let le = f.1 in omega (arith, le))) in
        let w = wanted-at u ready p place n inside 1 x.0 x.1 (subst IsValueWant (sym (no-want u ready p place n inside compound.TagCase is 1)) tt) in
        let t : (ts : List Member) × (w.sort ≡ Plain (ty.Uni ts)) = subst (λ c. FitsNode u p.graph (label_of n) c (simple_at (out-Node n).op) 1 w.sort) is w.fits in
        record { tags = t.0; carries = w.carries ∙ ap Some t.1 }

    tags-are : tags_of (carried u p.graph (label_of n) 1) ≡ Some the-union.tags
    tags-are = ap tags_of the-union.carries ∙ rw (types.out_uni the-union.tags) refl

    module _ (x : Carried) (others : List Carried) (are : ks ≡ x ∷ others) where
      arm-inputs : (tag arm : ℕ) (s : Graph) (w : Val) → slice_get (out-Node n).assoc tag ≡ Some arm → slice_get gs arm ≡ Some s → is_well_tag the-union.tags tag w ≡ true → InputsBelong u (at_part u ready p place n inside arm s) (Value w ∷ others)
      arm-inputs tag arm s w a e h =
          inputs-by u ready p place n inside compound.TagCase is arm s e part.Arm refl (Value w ∷ others) near (λ j t y. absurd y)
        where
          content : (t : Sort) → FitsContent (tags_of (carried u p.graph (label_of n) 1)) (out-Node n).assoc arm t → Belongs t (Value w)
          content t f =
              let m = f tag a in
              let found : slice_get the-union.tags tag ≡ Some m.0 = sym (ap (λ o. o >>= at_port (suc tag)) tags-are) ∙ m.1 in
              at-type (Value w) (Plain (m.0).1) t (sym m.2) (tag-well the-union.tags tag m.0 w found h)
            where
              tag-well : (ms : List Member) (tag : ℕ) (m : Member) (w : Val) → slice_get ms tag ≡ Some m → is_well_tag ms tag w ≡ true → Of m.1 w
              tag-well [] tag m w e h = absurd cc
              tag-well (b ∷ ms) zero m w e h = subst (λ (z : Member). Of z.1 w) (member-same b m e) h
              tag-well (b ∷ ms) (suc tag) m w e h = tag-well ms tag m w e h

          near : (i : ℕ) (t : Sort) → i < width p.graph (label_of n) → FitsNodeInput u p.graph n part.Arm arm (suc i) t → Belongs t (get_or (Value w ∷ others) i Unfilled)
          near zero t lt y = content t y.1
          near (suc i) t lt y = subst (λ z. Belongs t (get_or z (suc i) Unfilled)) are (node-input u ready p place n inside compound.TagCase is ks given (suc i) t y)

      arm-at : (tag : ℕ) (w : Val) (o : Option ℕ) → slice_get (map (part_number gs) (out-Node n).assoc) tag ≡ o → is_well_tag the-union.tags tag w ≡ true → ArmGoes (next_of (enter_arm arms-count w others o))
      arm-at tag w None e h = arm-fail cause.Explicit
      arm-at tag w (Some g) e h =
          let r = got-mapped (part_number gs) (out-Node n).assoc tag g e in
          let lt = All-contains (λ arm. arm < length gs) (out-Node n).assoc r.0 arms-are (contains_got (out-Node n).assoc tag r.0 r.1) in
          let s = got-below gs r.0 lt in
          subst (λ z. Arms z (Value w ∷ others) forms.Chosen) r.2 (an_arm r.0 s.0 (Value w ∷ others) s.1 (arm-inputs tag r.0 s.0 w r.1 s.1 h))
        where
          arms-are : All (λ arm. arm < length gs) (out-Node n).assoc
          arms-are = (subst (λ t. IsAssociation compound.TagCase t (length gs) (out-Node n).assoc) tags-are (compound-filled u ready p place n inside compound.TagCase is).list).0

      arm-of-value : (v : Val) → UniKind the-union.tags v → ArmGoes (next_of (arm_in (map (part_number gs) (out-Node n).assoc) arms-count others (out-Val v)))
      arm-of-value _ (a_uni tag w h) = subst (λ y. ArmGoes (next_of (arm_in (map (part_number gs) (out-Node n).assoc) arms-count others y))) (sym (out_uni tag w)) (arm-at tag w (slice_get (map (part_number gs) (out-Node n).assoc) tag) refl h)
      arm-of-value _ (no_uni c) = subst (λ y. ArmGoes (next_of (arm_in (map (part_number gs) (out-Node n).assoc) arms-count others y))) (sym (out_err c)) (arm-fail c)

      arm-begins : ArmGoes (next_of (arm_of (map (part_number gs) (out-Node n).assoc) arms-count (x ∷ others)))
      arm-begins =
          let b : Belongs (Plain (ty.Uni the-union.tags)) x = subst (λ z. Belongs (Plain (ty.Uni the-union.tags)) (get_or z 0 Unfilled)) are (node-input u ready p place n inside compound.TagCase is ks given 0 (Plain (ty.Uni the-union.tags)) the-union.carries) in
          let v = value-of (ty.Uni the-union.tags) x b in
          subst (λ z. ArmGoes (next_of (arm_in (map (part_number gs) (out-Node n).assoc) arms-count others (out-Val (val_of z))))) (sym v.is) (arm-of-value v.value (as_uni the-union.tags v.value v.of))

    pub arms-begin : arms-plan.Goes (next_of (first (form_of compound.TagCase gs (out-Node n).assoc) ks))
    arms-begin = go ks refl
      where
        go : (cs : List Carried) → ks ≡ cs → ArmGoes (next_of (arm_of (map (part_number gs) (out-Node n).assoc) arms-count cs))
        go [] e = arm-fail cause.Explicit
        go (x ∷ others) e = arm-begins x others e
