-- What a run of a fitting tree meets is right.
use Rattle.std.proofs.Common.{◌≡◌, ◌⊎◌, inl, inr, ℕ, zero, suc, Bool, true, List, [], ◌∷◌, ◌++◌, map, length, drop, Option, Some, None, slice_get, refl, sym, subst, ◌∙◌, arith}
use Rattle.std.proofs.lemmas.Option.{same_Some, none-some}
use Rattle.flow_value.specs.declared.value.Val.{Val}
use Rattle.flow_value.specs.declared.value.Val.TheVariants as val
use Rattle.flow_value.specs.declared.ty.Ty.{Ty}
use Rattle.flow_value.specs.declared.ty.Ty.TheVariants as ty
use Rattle.flow_value.specs.Well.{is_well_tag}
use Rattle.flow_value.proofs.Fields.{is_well-uni}
use Rattle.sisal_tree.specs.declared.expr.Constant.{Constant}
use Rattle.value_ops.specs.declared.operation.Operation.{Operation}
use Rattle.type_table.specs.declared.form.Form.{Form}
use Rattle.typed_tree.specs.declared.expr.TypedExpr.{TypedExpr}
use Rattle.typed_tree.specs.declared.expr.TypedKind.TheOpen.{TypedKind-F}
use Rattle.typed_tree.specs.declared.expr.Case.{Case}
use Rattle.typed_tree.specs.declared.expr.Product.{Product}
use Rattle.typed_tree.specs.declared.expr.Turns.{Turns}
use Rattle.typed_tree.specs.declared.expr.ClauseForm.{ClauseForm}
use Rattle.typed_tree.specs.declared.program.Function.{Function}
use Rattle.typed_tree.specs.Types.{Member, AreNumbers}
use Rattle.meaning.specs.Timed.{given}
use Rattle.meaning.specs.Sources.{names_at}
use Rattle.meaning.specs.Meaning.{with_content, turned, renew, defined, arm_place}
use Rattle.meaning.specs.Plain.{all_at, plain, depth}
use Rattle.fitting_units.specs.Fitting.{Row, Header, Goes, AreMade, Renews, Fits, AllFit, DefsFit, ArmsFit, TagsFit, BodyFits, FunctionFits, FunctionsFit}
use Rattle.fitting_units.specs.Fitting as is
use Rattle.typed_rows.specs.Rows.{Of, AreOf}
use Rattle.typed_rows.proofs.ValueKinds.{BoolKind, a_bool, no_bool, as_bool, UniKind, a_uni, no_uni, as_uni}
use Rattle.typed_rows.proofs.Scalars.{with_one}
use Rattle.typed_values.specs.Meets as met
use Rattle.typed_values.specs.Meets.{Asked, IsArm, values_of, names_after, Turning, Meets, MeetsIn, PlaceMeets, TurnMeets, AnyMeets, DefsMeet, IsErrorValue, IsTruth, HasArm, IsUnion, IsRight}
use Rattle.typed_values.specs.Laws.{AreRunsRight}
use Rattle.typed_values.proofs.Timing.{only_then}
use Rattle.typed_values.proofs.Outs.{out_constant, out_value, out_group, out_call, out_apply, out_let, out_if, out_case, out_product, out_initial}
use Rattle.typed_values.proofs.Arms.{place_there, first_content, no_content, later_content}
use Rattle.typed_values.proofs.Clauses.{names_well}
use Rattle.typed_values.proofs.Values.{of_both, nil_right, only_some, drop_of, renew_well, counted, Below, all_well, defs_well, calls_well, function_there}

-- ---- what is met of itself

truth_met : (vs : List Val) → AreOf (ty.Bool ∷ []) vs → IsTruth vs
truth_met vs h = with_one ty.Bool IsTruth (λ v k. (v, refl, by v (as_bool v k))) vs h
  where
    by : (v : Val) → BoolKind v → ((b : Bool) × (v ≡ val.Bool b)) ⊎ IsErrorValue v
    by _ (a_bool b) = inl (b, refl)
    by _ (no_bool c) = inr (c, refl)

union_met : (arms : ℕ) (contents : List Ty) (ms : List Member) (c : Case) → TagsFit arms contents c 0 ms → (vs : List Val) → AreOf (ty.Uni ms ∷ []) vs → IsUnion c arms vs
union_met arms contents ms c t vs h = with_one (ty.Uni ms) (IsUnion c arms) (λ v k. (v, refl, by v (as_uni ms v k))) vs h
  where
    by : (v : Val) → UniKind ms v → HasArm c arms v ⊎ IsErrorValue v
    by _ (a_uni tag w q) = inl (record { tag = tag; content = w; place = arm_place c.choices c.others tag; tagged = refl; arm = refl; there = (place_there arms contents c 0 ms t tag tag w (omega arith) q).0 })
    by _ (no_uni x) = inr (x, refl)

-- a union's content is of the type of its tag
content_met : (ms : List Member) (tag : ℕ) (v : Val) → AreOf (ty.Uni ms ∷ []) (val.Uni tag v ∷ []) → is_well_tag ms tag v ≡ true
content_met ms tag v h = is_well-uni ms tag v ∙ h.0

no_defs : (n : ℕ) (p : List Function) (env : List Val) (a : Asked) → DefsMeet p n [] env a → IsRight a
no_defs n p env a m = elim m [ ]

-- ---- programs

module _ (forms : List Form) (spellings : List (List ℕ)) (hs : List Header) (p : List Function) (fitting : FunctionsFit (AreNumbers forms spellings) hs hs p) where
  abbrev Numbers : List ℕ → List Ty → Type 0
  Numbers = AreNumbers forms spellings

  calls : (n : ℕ) → Below Numbers (counted forms spellings) hs p fitting n
  calls n = calls_well Numbers (counted forms spellings) hs p fitting n

  values_typed : (γ : List Ty) (es : List TypedExpr) (tys : List Ty) → AllFit Numbers hs γ es tys → (n : ℕ) (env : List Val) → AreOf γ env → (r : List Val × ℕ) → values_of p n es env ≡ Some r → AreOf tys r.0
  values_typed γ es tys h n env w r e = only_some (AreOf tys) (values_of p n es env) r (all_well Numbers (counted forms spellings) hs p fitting γ es tys h n (calls n) env w) e

  names_typed : (γ : List Ty) (us : List (List TypedExpr)) (δ : List Ty) → DefsFit Numbers hs γ us δ → (n : ℕ) (env : List Val) → AreOf γ env → (r : List Val × ℕ) → names_after p n us env ≡ Some r → AreOf (γ ++ δ) r.0
  names_typed γ us δ h n env w r e = only_some (AreOf (γ ++ δ)) (names_after p n us env) r (defs_well Numbers (counted forms spellings) hs p fitting γ us δ h n (calls n) env w) e

  -- what bodies of functions meet at a depth is right
  abbrev BodiesRight : ℕ → Type 0
  BodiesRight n = (f : ℕ) (g : Header) (d : Function) (es : List TypedExpr) (vs : List Val) (a : Asked) → slice_get hs f ≡ Some g → slice_get p f ≡ Some d → d.body ≡ Some es → AreOf g.params vs → AnyMeets p n es vs a → IsRight a

  -- at each lesser depth
  abbrev Lesser : ℕ → Type 0
  Lesser zero = Unit {0}
  Lesser (suc n) = BodiesRight n × Lesser n

  abbrev AnyRight : List Ty → List TypedExpr → Type 0
  AnyRight γ es = (n : ℕ) → Lesser n → (env : List Val) (a : Asked) → AreOf γ env → AnyMeets p n es env a → IsRight a

  abbrev DefsRight : List Ty → List (List TypedExpr) → Type 0
  DefsRight γ us = (n : ℕ) → Lesser n → (env : List Val) (a : Asked) → AreOf γ env → DefsMeet p n us env a → IsRight a

  constant_right : (n : ℕ) (c : Constant) (env : List Val) (a : Asked) → MeetsIn p n (TypedKind-F.Constant c) env a → IsRight a
  constant_right n c env a m = elim m [ ]

  value_right : (n level : ℕ) (env : List Val) (a : Asked) → MeetsIn p n (TypedKind-F.Value level) env a → IsRight a
  value_right n level env a m = elim m [ ]

  group_right : (γ : List Ty) (ts : List TypedExpr) → AnyRight γ ts → (n : ℕ) → Lesser n → (env : List Val) (a : Asked) → AreOf γ env → MeetsIn p n (TypedKind-F.Group ts) env a → IsRight a
  group_right γ ts k n b env a w (met.in_group m) = k n b env a w m

  call_right : (γ : List Ty) (f : ℕ) (g : Header) (ts : List TypedExpr) → slice_get hs f ≡ Some g → AllFit Numbers hs γ ts g.params → AnyRight γ ts → (n : ℕ) → Lesser n → (env : List Val) (a : Asked) → AreOf γ env
      → MeetsIn p n (TypedKind-F.Call f ts) env a → IsRight a
  call_right γ f g ts l h k n b env a w (met.in_arguments m) = k n b env a w m
  call_right γ f g ts l h k _ b env a w (met.in_body {n = n} {d = d} {es = es} {r = r} e there body m) = b.0 f g d es r.0 a l there body (values_typed γ ts g.params h (suc n) env w r e) m

  apply_right : (γ tys : List Ty) (o : Operation) (x : Ty) (ts : List TypedExpr) → AllFit Numbers hs γ ts tys → Row o tys x → AnyRight γ ts → (n : ℕ) → Lesser n → (env : List Val) (a : Asked) → AreOf γ env
      → MeetsIn p n (TypedKind-F.Apply o ts) env a → IsRight a
  apply_right γ tys o x ts h row k n b env a w (met.in_operands m) = k n b env a w m
  apply_right γ tys o x ts h row k n b env _ w (met.the_operands {r = r} e) = record { types = tys; result = x; row = row; given = values_typed γ ts tys h n env w r e }

  let_right : (γ δ : List Ty) (us : List (List TypedExpr)) (ts : List TypedExpr) → DefsFit Numbers hs γ us δ → DefsRight γ us → AnyRight (γ ++ δ) ts → (n : ℕ) → Lesser n → (env : List Val) (a : Asked) → AreOf γ env
      → MeetsIn p n (TypedKind-F.Let us ts) env a → IsRight a
  let_right γ δ us ts d j k n b env a w (met.in_definitions m) = j n b env a w m
  let_right γ δ us ts d j k n b env a w (met.in_let {r = r} e m) = k n b r.0 a (names_typed γ us δ d n env w r e) m

  if_right : (γ : List Ty) (ts us vs : List TypedExpr) → AllFit Numbers hs γ ts (ty.Bool ∷ []) → AnyRight γ ts → AnyRight γ us → AnyRight γ vs → (n : ℕ) → Lesser n → (env : List Val) (a : Asked) → AreOf γ env
      → MeetsIn p n (TypedKind-F.If ts us vs) env a → IsRight a
  if_right γ ts us vs h i j k n b env a w (met.in_test m) = i n b env a w m
  if_right γ ts us vs h i j k n b env _ w (met.the_test {r = r} e) = truth_met r.0 (values_typed γ ts (ty.Bool ∷ []) h n env w r e)
  if_right γ ts us vs h i j k n b env a w (met.in_then e y m) = j n b env a w m
  if_right γ ts us vs h i j k n b env a w (met.in_else e y m) = k n b env a w m

  -- each arm, on a content of the type that it sees
  abbrev ArmsRight : List Ty → ℕ → List (List TypedExpr) → List Ty → Type 0
  ArmsRight γ named arms contents = (place : ℕ) (us : List TypedExpr) → slice_get arms place ≡ Some us → (v : Val) → ((x : Ty) → slice_get contents place ≡ Some x → Of x v)
      → (n : ℕ) → Lesser n → (env : List Val) (a : Asked) → AreOf γ env → AnyMeets p n us (with_content named place v env) a → IsRight a

  case_right : (γ : List Ty) (ms : List Member) (contents : List Ty) (c : Case) (ts : List TypedExpr) (arms : List (List TypedExpr)) → AllFit Numbers hs γ ts (ty.Uni ms ∷ []) → TagsFit (length arms) contents c 0 ms
      → AnyRight γ ts → ArmsRight γ c.named arms contents → (n : ℕ) → Lesser n → (env : List Val) (a : Asked) → AreOf γ env → MeetsIn p n (TypedKind-F.Case c ts arms) env a → IsRight a
  case_right γ ms contents c ts arms h t j k n b env a w (met.in_union m) = j n b env a w m
  case_right γ ms contents c ts arms h t j k n b env _ w (met.the_union {r = r} e) = union_met (length arms) contents ms c t r.0 (values_typed γ ts (ty.Uni ms ∷ []) h n env w r e)
  case_right γ ms contents c ts arms h t j k n b env a w (met.in_arm {place = place} tag v {us = us} {steps = steps} e arm there m) =
      let q = content_met ms tag v (values_typed γ ts (ty.Uni ms ∷ []) h n env w (val.Uni tag v ∷ [], steps) e) in
      let own = (place_there (length arms) contents c 0 ms t tag tag v (omega arith) q).1 in
      k place us there v (subst (λ z. (x : Ty) → slice_get contents z ≡ Some x → Of x v) arm own) n b env a w m

  place_right : (γ δ row made : List Ty) (cs : List ClauseForm) (us : List (List TypedExpr)) (ts : List TypedExpr) → DefsFit Numbers hs γ us δ → AllFit Numbers hs (γ ++ δ) ts row → AreMade cs row made
      → DefsRight γ us → AnyRight (γ ++ δ) ts → (n : ℕ) → Lesser n → (env : List Val) (a : Asked) → AreOf γ env → PlaceMeets p n cs us ts env a → IsRight a
  place_right γ δ row made cs us ts d h y j k n b env a w (met.defining m) = j n b env a w m
  place_right γ δ row made cs us ts d h y j k n b env a w (met.in_clauses {r = r} e m) = k n b r.0 a (names_typed γ us δ d n env w r e) m
  place_right γ δ row made cs us ts d h y j k n b env _ w (met.the_row {r = r} {s = s} e f) =
      record { types = row; made = made; makes = y; given = values_typed (γ ++ δ) ts row h n r.0 (names_typed γ us δ d n env w r e) s f }

  product_right : (γ tys names δ row made : List Ty) (q : Product) (bs : List TypedExpr) (us : List (List TypedExpr)) (ts : List TypedExpr) → AllFit Numbers hs γ bs tys → Goes q.sources tys names
      → DefsFit Numbers hs (γ ++ names) us δ → AllFit Numbers hs ((γ ++ names) ++ δ) ts row → AreMade q.clauses row made → AnyRight γ bs → DefsRight (γ ++ names) us → AnyRight ((γ ++ names) ++ δ) ts
      → (n : ℕ) → Lesser n → (env : List Val) (a : Asked) → AreOf γ env → MeetsIn p n (TypedKind-F.Product q bs us ts) env a → IsRight a
  product_right γ tys names δ row made q bs us ts f g d h y i j k n b env a w (met.in_bounds m) = i n b env a w m
  product_right γ tys names δ row made q bs us ts f g d h y i j k n b env _ w (met.the_bounds {r = r} e) = record { types = tys; names = names; goes = g; given = values_typed γ bs tys f n env w r e }
  product_right γ tys names δ row made q bs us ts f g d h y i j k n b env a w (met.at_a_place {i = x} {r = r} e c l m) =
      place_right (γ ++ names) δ row made q.clauses us ts d h y j k n b (env ++ names_at q.sources r.0 x) a
      (of_both γ names env (names_at q.sources r.0 x) w (names_well q.sources tys names g r.0 (values_typed γ bs tys f n env w r e) x)) m

  -- ---- turns

  lesser : (t : Turns) (vs : List (List TypedExpr)) (env : List Val) (n : ℕ) (first : List Val) (d : ℕ) (l : List Val) → Turning p t vs env n first d l → Lesser n → Lesser d
  lesser t vs env n first _ _ met.begun b = b
  lesser t vs env n first _ _ (met.a_turn {d = d} {l = l} q e) b = (lesser t vs env n first (suc d) l q b).1

  turning_typed : (γ loop later : List Ty) (t : Turns) (vs : List (List TypedExpr)) (env : List Val) → DefsFit Numbers hs (γ ++ loop) vs later → Renews loop t.renewed later → AreOf γ env
      → (n : ℕ) (first : List Val) (d : ℕ) (l : List Val) → Turning p t vs env n first d l → AreOf loop first → AreOf loop l
  turning_typed γ loop later t vs env h r w n first _ _ met.begun k = k
  turning_typed γ loop later t vs env h r w n first _ _ (met.a_turn {d = d} {l = l} {r = s} q e) k =
      let i = turning_typed γ loop later t vs env h r w n first (suc d) l q k in
      only_some (AreOf loop) (turned t (all_at (depth d p) (map (map plain) vs)) env l) s
      (only_then (AreOf ((γ ++ loop) ++ later)) (AreOf loop) (defined (all_at (depth d p) (map (map plain) vs)) (env ++ l)) (λ all. given (renew t.renewed (drop (length (env ++ l)) all) l))
      (defs_well Numbers (counted forms spellings) hs p fitting (γ ++ loop) vs later h d (calls d) (env ++ l) (of_both γ loop env l w i))
      (λ all z. renew_well loop t.renewed later r (drop (length (env ++ l)) all) l (drop_of (γ ++ loop) later (env ++ l) all (of_both γ loop env l w i) z) i))
      e

  turn_right : (γ : List Ty) (tests : List TypedExpr) (vs : List (List TypedExpr)) → AllFit Numbers hs γ tests (ty.Bool ∷ []) → AnyRight γ tests → DefsRight γ vs → (n : ℕ) → Lesser n → (env : List Val) (a : Asked) → AreOf γ env
      → TurnMeets p n tests vs env a → IsRight a
  turn_right γ tests vs h j k n b env a w (met.testing m) = j n b env a w m
  turn_right γ tests vs h j k n b env _ w (met.tested {r = r} e) = truth_met r.0 (values_typed γ tests (ty.Bool ∷ []) h n env w r e)
  turn_right γ tests vs h j k n b env a w (met.turning m) = k n b env a w m

  initial_right : (γ loop later row made : List Ty) (t : Turns) (us : List (List TypedExpr)) (tests : List TypedExpr) (vs : List (List TypedExpr)) (ts : List TypedExpr) → DefsFit Numbers hs γ us loop
      → AllFit Numbers hs (γ ++ loop) tests (ty.Bool ∷ []) → DefsFit Numbers hs (γ ++ loop) vs later → Renews loop t.renewed later → AllFit Numbers hs (γ ++ loop) ts row → AreMade t.clauses row made
      → DefsRight γ us → AnyRight (γ ++ loop) tests → DefsRight (γ ++ loop) vs → AnyRight (γ ++ loop) ts
      → (n : ℕ) → Lesser n → (env : List Val) (a : Asked) → AreOf γ env → MeetsIn p n (TypedKind-F.Initial t us tests vs ts) env a → IsRight a
  initial_right γ loop later row made t us tests vs ts d c v x h y i j g k n b env a w (met.in_first m) = i n b env a w m
  initial_right γ loop later row made t us tests vs ts d c v x h y i j g k n b env a w (met.in_turns {d = e} {l = l} {r = r} q turning m) =
      let first = drop_of γ loop env r.0 w (names_typed γ us loop d n env w r q) in
      turn_right (γ ++ loop) tests vs c j g e (lesser t vs env n (drop (length env) r.0) (suc e) l turning b).1 (env ++ l) a
      (of_both γ loop env l w (turning_typed γ loop later t vs env v x w n (drop (length env) r.0) (suc e) l turning first)) m
  initial_right γ loop later row made t us tests vs ts d c v x h y i j g k n b env a w (met.after_turns {d = e} {l = l} {r = r} q turning m) =
      let first = drop_of γ loop env r.0 w (names_typed γ us loop d n env w r q) in
      place_right (γ ++ loop) [] row made t.clauses [] ts is.no_def (subst (λ z. AllFit Numbers hs z ts row) (sym (nil_right (γ ++ loop))) h) y (λ n b env a w m. no_defs n p env a m)
      (subst (λ z. AnyRight z ts) (sym (nil_right (γ ++ loop))) k) n b (env ++ l) a
      (of_both γ loop env l w (turning_typed γ loop later t vs env v x w n (drop (length env) r.0) e l turning first)) m

  -- ---- trees

  mutual
    right : (γ : List Ty) (e : TypedExpr) (tys : List Ty) → Fits Numbers hs γ e tys → (n : ℕ) → Lesser n → (env : List Val) (a : Asked) → AreOf γ env → Meets p n e env a → IsRight a
    right γ _ _ (is.a_constant {c = c} lit num) n b env a w (met.meets m) = constant_right n c env a (subst (λ z. MeetsIn p n z env a) (out_constant c) m)
    right γ _ _ (is.a_value {level = level} there num) n b env a w (met.meets m) = value_right n level env a (subst (λ z. MeetsIn p n z env a) (out_value level) m)
    right γ _ tys (is.group {ts = ts} h num) n b env a w (met.meets m) = group_right γ ts (λ n b env a w m. any_right γ ts tys h n b env a w m) n b env a w (subst (λ z. MeetsIn p n z env a) (out_group ts) m)
    right γ _ _ (is.call {f = f} {g = g} {ts = ts} there h num) n b env a w (met.meets m) =
        call_right γ f g ts there h (λ n b env a w m. any_right γ ts g.params h n b env a w m) n b env a w (subst (λ z. MeetsIn p n z env a) (out_call f ts) m)
    right γ _ _ (is.apply {tys = tys} {o = o} {a = x} {ts = ts} h row num) n b env a w (met.meets m) =
        apply_right γ tys o x ts h row (λ n b env a w m. any_right γ ts tys h n b env a w m) n b env a w (subst (λ z. MeetsIn p n z env a) (out_apply o ts) m)
    right γ _ tys (is.let_in {δ = δ} {us = us} {ts = ts} d h num) n b env a w (met.meets m) =
        let_right γ δ us ts d (λ n b env a w m. defs_right γ us δ d n b env a w m) (λ n b env a w m. any_right (γ ++ δ) ts tys h n b env a w m) n b env a w (subst (λ z. MeetsIn p n z env a) (out_let us ts) m)
    right γ _ tys (is.if_else {ts = ts} {us = us} {vs = vs} t h k num) n b env a w (met.meets m) =
        if_right γ ts us vs t (λ n b env a w m. any_right γ ts (ty.Bool ∷ []) t n b env a w m) (λ n b env a w m. any_right γ us tys h n b env a w m) (λ n b env a w m. any_right γ vs tys k n b env a w m)
        n b env a w (subst (λ z. MeetsIn p n z env a) (out_if ts us vs) m)
    right γ _ tys (is.tag_case ms contents {c = c} {ts = ts} {arms = arms} h r t some all others least num) n b env a w (met.meets m) =
        case_right γ ms contents c ts arms h t (λ n b env a w m. any_right γ ts (ty.Uni ms ∷ []) h n b env a w m)
        (λ place us e v j n b env a w m. arms_right γ c.named arms contents tys r place us e v j n b env a w m) n b env a w (subst (λ z. MeetsIn p n z env a) (out_case c ts arms) m)
    right γ _ made (is.product {tys = tys} {names = names} {δ = δ} {row = row} {p = q} {bounds = bs} {us = us} {ts = ts} f g d h y num) n b env a w (met.meets m) =
        product_right γ tys names δ row made q bs us ts f g d h y (λ n b env a w m. any_right γ bs tys f n b env a w m) (λ n b env a w m. defs_right (γ ++ names) us δ d n b env a w m)
        (λ n b env a w m. any_right ((γ ++ names) ++ δ) ts row h n b env a w m) n b env a w (subst (λ z. MeetsIn p n z env a) (out_product q bs us ts) m)
    right γ _ made (is.initial {loop = loop} {later = later} {row = row} {t = t} {us = us} {vs = vs} {tests = tests} {ts = ts} d c v r h y num) n b env a w (met.meets m) =
        initial_right γ loop later row made t us tests vs ts d c v r h y (λ n b env a w m. defs_right γ us loop d n b env a w m) (λ n b env a w m. any_right (γ ++ loop) tests (ty.Bool ∷ []) c n b env a w m)
        (λ n b env a w m. defs_right (γ ++ loop) vs later v n b env a w m) (λ n b env a w m. any_right (γ ++ loop) ts row h n b env a w m) n b env a w (subst (λ z. MeetsIn p n z env a) (out_initial t us tests vs ts) m)

    any_right : (γ : List Ty) (es : List TypedExpr) (tys : List Ty) → AllFit Numbers hs γ es tys → (n : ℕ) → Lesser n → (env : List Val) (a : Asked) → AreOf γ env → AnyMeets p n es env a → IsRight a
    any_right γ _ _ is.no_more n b env a w m = elim m [ ]
    any_right γ _ _ (is.more {tys = tys} {t = t} h k) n b env a w (met.here m) = right γ t tys h n b env a w m
    any_right γ _ _ (is.more {others = others} {ts = ts} h k) n b env a w (met.there m) = any_right γ ts others k n b env a w m

    defs_right : (γ : List Ty) (us : List (List TypedExpr)) (δ : List Ty) → DefsFit Numbers hs γ us δ → (n : ℕ) → Lesser n → (env : List Val) (a : Asked) → AreOf γ env → DefsMeet p n us env a → IsRight a
    defs_right γ _ _ is.no_def n b env a w m = elim m [ ]
    defs_right γ _ _ (is.a_def {tys = tys} {ts = ts} h k) n b env a w (met.in_this m) = any_right γ ts tys h n b env a w m
    defs_right γ _ _ (is.a_def {tys = tys} {others = others} {ts = ts} {us = us} h k) n b env a w (met.in_later {r = r} e m) =
        defs_right (γ ++ tys) us others k n b (env ++ r.0) a (of_both γ tys env r.0 w (values_typed γ ts tys h n env w r e)) m

    arms_right : (γ : List Ty) (named : ℕ) (arms : List (List TypedExpr)) (contents tys : List Ty) → ArmsFit Numbers hs γ named arms contents tys → ArmsRight γ named arms contents
    arms_right γ _ _ _ tys is.no_arm place us e v j n b env a w m = absurd (none-some us e)
    arms_right γ _ _ _ tys (is.a_named_arm {named = named} x {ts = ts} h rest) zero us e v j n b env a w m =
        any_right (γ ++ (x ∷ [])) ts tys h n b (env ++ (v ∷ [])) a (of_both γ (x ∷ []) env (v ∷ []) w (j x refl, tt))
        (subst (λ s. AnyMeets p n ts s a) (first_content named v env) (subst (λ z. AnyMeets p n z (with_content (suc named) zero v env) a) (sym (same_Some ts us e)) m))
    arms_right γ _ _ _ tys (is.a_named_arm {contents = contents} {named = named} x {arms = arms} h rest) (suc place) us e v j n b env a w m =
        arms_right γ named arms contents tys rest place us e v j n b env a w (subst (λ s. AnyMeets p n us s a) (later_content named place v env) m)
    arms_right γ _ _ _ tys (is.an_arm {ts = ts} h rest) zero us e v j n b env a w m =
        any_right γ ts tys h n b env a w (subst (λ s. AnyMeets p n ts s a) (no_content zero v env) (subst (λ z. AnyMeets p n z (with_content 0 zero v env) a) (sym (same_Some ts us e)) m))
    arms_right γ _ _ _ tys (is.an_arm {arms = arms} h rest) (suc place) us e v j n b env a w m =
        arms_right γ 0 arms [] tys rest place us e v (λ x i. absurd (none-some x i)) n b env a w (subst (λ s. AnyMeets p n us s a) (no_content (suc place) v env ∙ sym (no_content place v env)) m)

  -- ---- calls

  body_fits : (g : Header) (o : Option (List TypedExpr)) (es : List TypedExpr) → o ≡ Some es → BodyFits Numbers hs g o → AllFit Numbers hs g.params es g.results
  body_fits g None es e h = absurd (none-some es e)
  body_fits g (Some ts) es e h = subst (λ z. AllFit Numbers hs g.params z g.results) (same_Some ts es e) h

  bodies_right : (n : ℕ) → Lesser n → BodiesRight n
  bodies_right n b f g d es vs a l there body w m =
      let own = function_there Numbers (counted forms spellings) hs p fitting hs hs p f g fitting l in
      let same = same_Some own.0 d (sym own.1 ∙ there) in
      any_right g.params es g.results (body_fits g d.body es body (subst (λ z. BodyFits Numbers hs g z.body) same own.2.body)) n b vs a w m

  lesser_right : (n : ℕ) → Lesser n
  lesser_right zero = tt
  lesser_right (suc n) = (bodies_right n (lesser_right n), lesser_right n)

pub runs_right : AreRunsRight
runs_right forms spellings hs p h γ tys e fits n env a w m = right forms spellings hs p h.fits γ e tys fits n (lesser_right forms spellings hs p h.fits n) env a w m
