-- Values of fitting expressions belong to their types.
use Rattle.std.proofs.Common.{◌≡◌, ℕ, zero, suc, Bool, true, false, List, [], ◌∷◌, ◌++◌, map, length, drop, Option, Some, None, slice_get, refl, ap, sym, subst, ◌∙◌, arith, append_assoc}
use Rattle.std.specs.Prelude.{slice_set, ℤ, pos, ◌-◌}
use Rattle.std.proofs.lemmas.Option.{same_Some, none-some}
use Rattle.flow_value.specs.declared.value.Val.{Val}
use Rattle.flow_value.specs.declared.value.Val.TheViews.{out-Val}
use Rattle.flow_value.specs.declared.cause.Cause.{Cause}
use Rattle.flow_value.specs.declared.cause.Cause.TheVariants as cause
use Rattle.flow_value.specs.declared.ty.Ty.{Ty}
use Rattle.flow_value.specs.declared.ty.Ty.TheVariants as ty
use Rattle.sisal_tree.specs.declared.expr.Constant.{Constant}
use Rattle.sisal_tree.specs.declared.expr.Constant.TheVariants as constant
use Rattle.value_ops.specs.Operations.{op_value}
use Rattle.typed_tree.specs.declared.expr.TypedExpr.{TypedExpr}
use Rattle.typed_tree.specs.declared.expr.TypedKind.{TypedKind}
use Rattle.typed_tree.specs.declared.expr.TypedKind.TheVariants as typed
use Rattle.typed_tree.specs.declared.expr.TypedKind.TheViews.{roll-TypedKind}
use Rattle.typed_tree.specs.declared.expr.TypedKind.TheOpen.{TypedKind-F}
use Rattle.typed_tree.specs.declared.expr.TypedKind.TheFolds.{map-TypedKind, fold-roll-TypedKind, fold-roll-TypedExpr}
use Rattle.typed_tree.specs.declared.expr.Case.{Case}
use Rattle.typed_tree.specs.declared.program.Function.{Function}
use Rattle.typed_tree.specs.declared.expr.Product.{Product}
use Rattle.typed_tree.specs.declared.expr.Turns.{Turns}
use Rattle.typed_tree.specs.declared.expr.Source.{Source}
use Rattle.typed_tree.specs.declared.expr.ClauseForm.{ClauseForm}
use Rattle.meaning.specs.declared.sources.Places.{Places}
use Rattle.meaning.specs.declared.sources.Places.TheVariants as places
use Rattle.meaning.specs.Sources.{places_of, names_at, lower_of}
use Rattle.meaning.specs.Rows.{made}
use Rattle.meaning.specs.declared.words.Test.{Test}
use Rattle.meaning.specs.declared.words.Test.TheVariants as test
use Rattle.meaning.specs.Timed.{Timed, given, plus, andthen}
use Rattle.meaning.specs.Words.{value_at, constant_value, failed, test_of, goes_on}
use Rattle.meaning.specs.Meaning.{Gives, all_of, defined, body_of, chosen, arm_of, each, environments, at_place, folded, over, Members, member, renew, turned, turn, unless_failed, results_of, function_gives, arm_place}
use Rattle.meaning.specs.Plain.{Depth, Deep, at, all_at, called, turns_at, members_at, looped_at, kind_at, expr_at, plain, plain_kind, depth, plain_calls, plain_meaning}
use Rattle.typed_tree.specs.Typing.{with}
use Rattle.typed_tree.specs.Types.{Member, constant_type, AreNumbers}
use Rattle.type_table.specs.declared.form.Form.{Form}
use Rattle.fitting_units.specs.Fitting.{IsLiteral, Row, Header, Goes, AreMade, Renews, Fits, AllFit, DefsFit, ArmsFit, TagsFit, BodyFits, FunctionFits, FunctionsFit}
use Rattle.fitting_units.specs.Fitting as is
use Rattle.typed_rows.specs.Rows.{Of, AreOf}
use Rattle.typed_rows.proofs.ValueKinds.{UniKind, a_uni, no_uni, as_uni, of_error, of_int, of_bool, of_char, of_null, out_err, out_uni}
use Rattle.typed_values.proofs.Timing.{Only, only_plus, only_then}
use Rattle.typed_rows.proofs.Scalars.{with_one}
use Rattle.typed_values.proofs.Clauses.{RowsOf, made_well, names_well}
use Rattle.typed_rows.proofs.Rows.{row_well}
use Rattle.typed_values.proofs.Texts.{text_well, lt-nat}
use Rattle.typed_values.specs.Laws.{AreExpressionsTyped, AreCallsTyped}
use Rattle.typed_values.proofs.AsRows.{row_as}
use Rattle.typed_values.proofs.Arms.{arm_here, as_here, place_there, first_content, later_arm, later_unseen, no_content}

-- ---- lists of values

pub of_both : (ts us : List Ty) (vs ws : List Val) → AreOf ts vs → AreOf us ws → AreOf (ts ++ us) (vs ++ ws)
of_both [] us [] ws h k = k
of_both [] us (v ∷ vs) ws h k = absurd h
of_both (t ∷ ts) us [] ws h k = absurd h
of_both (t ∷ ts) us (v ∷ vs) ws h k = (h.0, of_both ts us vs ws h.1 k)

pub nil_right : (γ : List Ty) → γ ++ [] ≡ γ
nil_right [] = refl
nil_right (t ∷ γ) = ap (λ ts. t ∷ ts) (nil_right γ)

pub of_level : (γ : List Ty) (env : List Val) (x : ℕ) (a : Ty) → AreOf γ env → slice_get γ x ≡ Some a → Of a (value_at env x)
of_level [] env x a h e = absurd (none-some a e)
of_level (t ∷ γ) [] x a h e = absurd h
of_level (t ∷ γ) (v ∷ env) zero a h e = subst (λ b. Of b v) (same_Some t a e) h.0
of_level (t ∷ γ) (v ∷ env) (suc x) a h e = of_level γ env x a h.1 e

pub of_failed : (tys : List Ty) (k : ℕ) (c : Cause) → k ≡ length tys → AreOf tys (failed k c)
of_failed [] zero c e = tt
of_failed [] (suc k) c e = absurd (omega (arith, e))
of_failed (t ∷ tys) zero c e = absurd (omega (arith, e))
of_failed (t ∷ tys) (suc k) c e = (of_error t c, of_failed tys k c (omega (arith, e)))

pub constant_well : (c : Constant) → IsLiteral c → Of (constant_type c) (constant_value c)
constant_well (constant.Integer n) h = of_int n h
constant_well (constant.Letter c) h = of_char c (lt-nat c 128 h)
constant_well (constant.Quoted s) h = text_well s h
constant_well constant.True h = of_bool true
constant_well constant.False h = of_bool false
constant_well constant.Nil h = of_null

at_plain : (d : Depth) (es : List TypedExpr) → at d (map plain es) ≡ map (λ e. plain e d) es
at_plain d [] = refl
at_plain d (e ∷ es) = ap (λ gs. plain e d ∷ gs) (at_plain d es)

-- ---- loops

only_any : {A : Type 0} (a : Timed A) → Only (λ x. Unit {0}) a
only_any None = tt
only_any (Some r) = tt

each_well : (δ row : List Ty) (g : Gives) → ((e : List Val) → AreOf δ e → Only (AreOf row) (g e)) → (es : List (List Val)) → RowsOf δ es → Only (RowsOf row) (each g es)
each_well δ row g f [] h = tt
each_well δ row g f (e ∷ es) h =
    only_then (AreOf row) (RowsOf row) (g e) (λ r. andthen (each g es) (λ rs. given (r ∷ rs))) (f e h.0)
    (λ r q. only_then (RowsOf row) (RowsOf row) (each g es) (λ rs. given (r ∷ rs)) (each_well δ row g f es h.1) (λ rs k. (q, k)))

folded_well : (cs : List ClauseForm) (row ts : List Ty) → AreMade cs row ts → (lower : ℤ) (rows : List (List Val)) → RowsOf row rows → Only (AreOf ts) (folded cs lower rows)
folded_well cs row ts m lower rows h = made_well cs row ts m lower rows h

environments_well : (γ tys names : List Ty) (ss : List Source) → Goes ss tys names → (bounds env : List Val) → AreOf tys bounds → AreOf γ env → (count left : ℕ) → RowsOf (γ ++ names) (environments ss bounds env count left)
environments_well γ tys names ss g bounds env h w count zero = tt
environments_well γ tys names ss g bounds env h w count (suc left) =
    (of_both γ names env (names_at ss bounds (count - suc left)) w (names_well ss tys names g bounds h (count - suc left)), environments_well γ tys names ss g bounds env h w count left)

over_well : (γ tys names row ts : List Ty) (p : Product) (k : ℕ) (body : Gives) → Goes p.sources tys names → AreMade p.clauses row ts → k ≡ length ts → ((e : List Val) → AreOf (γ ++ names) e → Only (AreOf row) (body e))
    → (bounds env : List Val) → AreOf tys bounds → AreOf γ env → (o : Places) → Only (AreOf ts) (over p k body bounds o env)
over_well γ tys names row ts p k body g m e f bounds env h w (places.Failed c) = of_failed ts k c e
over_well γ tys names row ts p k body g m e f bounds env h w (places.Count n) =
    only_then (RowsOf row) (AreOf ts) (each (at_place body) (environments p.sources bounds env n n)) (folded p.clauses (lower_of bounds))
    (each_well (γ ++ names) row (at_place body) (λ e q. only_plus (AreOf row) 1 (body e) (f e q)) (environments p.sources bounds env n n) (environments_well γ tys names p.sources g bounds env h w n n))
    (λ rows q. folded_well p.clauses row ts m (lower_of bounds) rows q)

pub drop_of : (γ δ : List Ty) (env all : List Val) → AreOf γ env → AreOf (γ ++ δ) all → AreOf δ (drop (length env) all)
drop_of [] δ [] all h w = w
drop_of [] δ (v ∷ env) all h w = absurd h
drop_of (t ∷ γ) δ [] all h w = absurd h
drop_of (t ∷ γ) δ (v ∷ env) [] h w = absurd w
drop_of (t ∷ γ) δ (v ∷ env) (x ∷ all) h w = drop_of γ δ env all h.1 w.1

set_of : (loop : List Ty) (l : List Val) (x : ℕ) (t : Ty) (v : Val) → slice_get loop x ≡ Some t → Of t v → AreOf loop l → AreOf loop (slice_set l x v)
set_of [] l x t v e w h = absurd (none-some t e)
set_of (u ∷ loop) [] x t v e w h = absurd h
set_of (u ∷ loop) (y ∷ l) zero t v e w h = (subst (λ s. Of s v) (sym (same_Some u t e)) w, h.1)
set_of (u ∷ loop) (y ∷ l) (suc x) t v e w h = (h.0, set_of loop l x t v e w h.1)

pub renew_well : (loop : List Ty) (rs : List (Option ℕ)) (later : List Ty) → Renews loop rs later → (vs l : List Val) → AreOf later vs → AreOf loop l → AreOf loop (renew rs vs l)
renew_well loop [] [] r vs l h w = w
renew_well loop [] (t ∷ later) r vs l h w = absurd r
renew_well loop (None ∷ rs) [] r vs l h w = absurd r
renew_well loop (Some x ∷ rs) [] r vs l h w = absurd r
renew_well loop (None ∷ rs) (t ∷ later) r [] l h w = absurd h
renew_well loop (Some x ∷ rs) (t ∷ later) r [] l h w = absurd h
renew_well loop (None ∷ rs) (t ∷ later) r (v ∷ vs) l h w = renew_well loop rs later r vs l h.1 w
renew_well loop (Some x ∷ rs) (t ∷ later) r (v ∷ vs) l h w = set_of loop (renew rs vs l) x t v r.0 h.0 (renew_well loop rs later r.1 vs l h.1 w)

abbrev MembersOf : List Ty → Members → Type 0
MembersOf loop s = RowsOf loop s.lists

turn_well : (loop : List Ty) (more : List Val → Timed Members) (next : Gives) → ((m : List Val) → AreOf loop m → Only (MembersOf loop) (more m)) → ((m : List Val) → AreOf loop m → Only (AreOf loop) (next m))
    → (l : List Val) → AreOf loop l → (t : Test) → Only (MembersOf loop) (turn more next l t)
turn_well loop more next f g l h test.Yes =
    only_plus (MembersOf loop) 1 (andthen (next l) (λ m. andthen (more m) (λ s. given (member l s))))
    (only_then (AreOf loop) (MembersOf loop) (next l) (λ m. andthen (more m) (λ s. given (member l s))) (g l h)
    (λ m q. only_then (MembersOf loop) (MembersOf loop) (more m) (λ s. given (member l s)) (f m q) (λ s k. (h, k))))
turn_well loop more next f g l h test.No = (h, tt)
turn_well loop more next f g l h (test.Failed c) = (h, tt)

unless_failed_well : (ts : List Ty) (k : ℕ) (o : Option Cause) (a : Timed (List Val)) → k ≡ length ts → Only (AreOf ts) a → Only (AreOf ts) (unless_failed k o a)
unless_failed_well ts k None a e h = h
unless_failed_well ts k (Some c) a e h = of_failed ts k c e

-- ---- programs

module _ (numbers : List ℕ → List Ty → Type 0) (counted : (ns : List ℕ) (tys : List Ty) → numbers ns tys → length ns ≡ length tys) (fs : List Header) (p : List Function) (fitting : FunctionsFit numbers fs fs p) where
  -- calls on values of the parameters' types give values of the results' types
  abbrev pub CallsWell : ℕ → Type 0
  CallsWell n = (f : ℕ) (g : Header) (vs : List Val) → slice_get fs f ≡ Some g → AreOf g.params vs → Only (AreOf g.results) (called (depth n p) f vs)

  -- at this depth and at each lesser one
  abbrev pub Below : ℕ → Type 0
  Below zero = Unit {0}
  Below (suc n) = CallsWell (suc n) × Below n

  calls_at : (n : ℕ) → Below n → CallsWell n
  calls_at zero b f g vs e h = tt
  calls_at (suc n) b f g vs e h = b.0 f g vs e h

  -- what an expression of a kind gives
  seen : (P : List Val → Type 0) (x : TypedKind-F TypedKind TypedExpr) (y : TypedKind) (l : ℕ) (ns : List ℕ) (n : ℕ) (env : List Val) → y ≡ roll-TypedKind x
      → Only P (kind_at (map-TypedKind TypedKind TypedExpr (Depth → ℕ → Gives) Deep plain_kind plain x) (depth n p) (length ns) env) → Only P (plain_meaning n p (with l ns y) env)
  seen P x y l ns n env e h =
      subst (Only P)
      (sym (ap (λ g. g (depth n p) env) (fold-roll-TypedExpr (Depth → ℕ → Gives) Deep kind_at expr_at (record { line = l; types = ns; kind = y }))
      ∙ ap (plus 1) (ap (λ z. plain_kind z (depth n p) (length ns) env) e ∙ ap (λ g. g (depth n p) (length ns) env) (fold-roll-TypedKind (Depth → ℕ → Gives) Deep kind_at expr_at x))))
      (only_plus P 1 _ h)

  abbrev pub means : ℕ → List TypedExpr → Gives
  means n es = all_of (at (depth n p) (map plain es))

  chosen_well : (tys : List Ty) (k : ℕ) (t : Test) (a b : Timed (List Val)) → k ≡ length tys → Only (AreOf tys) a → Only (AreOf tys) b → Only (AreOf tys) (chosen k t a b)
  chosen_well tys k test.Yes a b e h j = h
  chosen_well tys k test.No a b e h j = j
  chosen_well tys k (test.Failed c) a b e h j = of_failed tys k c e

  abbrev arms_at : ℕ → List (List TypedExpr) → List Gives
  arms_at n arms = map all_of (all_at (depth n p) (map (map plain) arms))

  union_well : (c : Case) (arms : List (List TypedExpr)) (contents tys : List Ty) (ms : List Member) (k n : ℕ) (env : List Val) → k ≡ length tys → TagsFit (length arms) contents c 0 ms
      → ((place : ℕ) (v : Val) → ((a : Ty) → slice_get contents place ≡ Some a → Of a v) → Only (AreOf tys) (arm_here c.named k (slice_get (arms_at n arms) place) place v env))
      → (v : Val) → UniKind ms v → Only (AreOf tys) (arm_of c k (arms_at n arms) (out-Val v) env)
  union_well c arms contents tys ms k n env e t f _ (no_uni x) = subst (λ y. Only (AreOf tys) (arm_of c k (arms_at n arms) y env)) (sym (out_err x)) (of_failed tys k x e)
  union_well c arms contents tys ms k n env e t f _ (a_uni tag v q) =
      let place = arm_place c.choices c.others tag in
      subst (λ y. Only (AreOf tys) (arm_of c k (arms_at n arms) y env)) (sym (out_uni tag v))
      (subst (Only (AreOf tys)) (sym (as_here c k (slice_get (arms_at n arms) place) place v env)) (f place v (place_there (length arms) contents c 0 ms t tag tag v (omega arith) q).1))

  -- the loop names before each turn and after the last, where each turn keeps their types at every depth
  abbrev TurnWell : List Ty → Turns → List (List TypedExpr) → List Val → Type 0
  TurnWell loop t vs env = (n : ℕ) → Below n → (l : List Val) → AreOf loop l → Only (AreOf loop) (turned t (all_at (depth n p) (map (map plain) vs)) env l)

  turns_well : (loop : List Ty) (t : Turns) (tests : List TypedExpr) (vs : List (List TypedExpr)) (env : List Val) → TurnWell loop t vs env
      → (n : ℕ) → Below n → (l : List Val) → AreOf loop l → Only (MembersOf loop) (turns_at (depth n p) t (map plain tests) (map (map plain) vs) env l)
  turns_well loop t tests vs env f zero b l h = tt
  turns_well loop t tests vs env f (suc n) b l h =
      only_then (λ x. Unit {0}) (MembersOf loop) (means n tests (env ++ l)) (λ ts. turn (turns_at (depth n p) t (map plain tests) (map (map plain) vs) env) (turned t (all_at (depth n p) (map (map plain) vs)) env) l (goes_on t.is_until (test_of ts)))
      (only_any (means n tests (env ++ l)))
      (λ ts q. turn_well loop (turns_at (depth n p) t (map plain tests) (map (map plain) vs) env) (turned t (all_at (depth n p) (map (map plain) vs)) env) (λ m k. turns_well loop t tests vs env f n b.1 m k) (λ m k. f n b.1 m k) l h (goes_on t.is_until (test_of ts)))

  members_well : (loop : List Ty) (t : Turns) (tests : List TypedExpr) (vs : List (List TypedExpr)) (env : List Val) → TurnWell loop t vs env
      → (first : Bool) (n : ℕ) → Below n → (l : List Val) → AreOf loop l → Only (MembersOf loop) (members_at first (depth n p) t (map plain tests) (map (map plain) vs) env l)
  members_well loop t tests vs env f true n b l h = turns_well loop t tests vs env f n b l h
  members_well loop t tests vs env f false zero b l h = tt
  members_well loop t tests vs env f false (suc n) b l h =
      turn_well loop (turns_at (depth n p) t (map plain tests) (map (map plain) vs) env) (turned t (all_at (depth n p) (map (map plain) vs)) env) (λ m k. turns_well loop t tests vs env f n b.1 m k) (λ m k. f n b.1 m k) l h test.Yes

  looped_well : (γ loop row ts : List Ty) (t : Turns) (k : ℕ) (tests es : List TypedExpr) (vs : List (List TypedExpr)) (env : List Val) → AreOf γ env → TurnWell loop t vs env → AreMade t.clauses row ts → k ≡ length ts
      → (n : ℕ) → Below n → ((e : List Val) → AreOf (γ ++ loop) e → Only (AreOf row) (means n es e)) → (l : List Val) → AreOf loop l
      → Only (AreOf ts) (looped_at (depth n p) t k (map plain tests) (map (map plain) vs) (map plain es) env l)
  looped_well γ loop row ts t k tests es vs env w f m e n b g l h =
      only_then (MembersOf loop) (AreOf ts) (members_at t.is_first (depth n p) t (map plain tests) (map (map plain) vs) env l)
      (λ s. andthen (each (λ m. means n es (env ++ m)) s.lists) (λ rows. unless_failed k s.failure (folded t.clauses (pos 1) rows))) (members_well loop t tests vs env f t.is_first n b l h)
      (λ s q. only_then (RowsOf row) (AreOf ts) (each (λ m. means n es (env ++ m)) s.lists) (λ rows. unless_failed k s.failure (folded t.clauses (pos 1) rows))
      (each_well loop row (λ m. means n es (env ++ m)) (λ m j. g (env ++ m) (of_both γ loop env m w j)) s.lists q)
      (λ rows j. unless_failed_well ts k s.failure (folded t.clauses (pos 1) rows) e (folded_well t.clauses row ts m (pos 1) rows j)))

  mutual
    pub well : (γ : List Ty) (e : TypedExpr) (tys : List Ty) → Fits numbers fs γ e tys → (n : ℕ) → Below n → (env : List Val) → AreOf γ env → Only (AreOf tys) (plain_meaning n p e env)
    well γ _ _ (is.a_constant {l = l} {ns = ns} {c = c} lit num) n b env w =
        seen (AreOf (constant_type c ∷ [])) (TypedKind-F.Constant c) (typed.Constant c) l ns n env (sym (typed.rolls-Constant c)) (constant_well c lit, tt)
    well γ _ _ (is.a_value {l = l} {level = x} {ns = ns} {a = a} there num) n b env w =
        seen (AreOf (a ∷ [])) (TypedKind-F.Value x) (typed.Value x) l ns n env (sym (typed.rolls-Value x)) (of_level γ env x a w there, tt)
    well γ _ tys (is.group {l = l} {ns = ns} {ts = ts} h num) n b env w =
        seen (AreOf tys) (TypedKind-F.Group ts) (typed.Group ts) l ns n env (sym (typed.rolls-Group ts)) (all_well γ ts tys h n b env w)
    well γ _ _ (is.call {l = l} {f = f} {ns = ns} {g = g} {ts = ts} there h num) n b env w =
        seen (AreOf g.results) (TypedKind-F.Call f ts) (typed.Call f ts) l ns n env (sym (typed.rolls-Call f ts))
        (only_then (AreOf g.params) (AreOf g.results) (means n ts env) (called (depth n p) f) (all_well γ ts g.params h n b env w) (λ vs k. calls_at n b f g vs there k))
    well γ _ _ (is.apply {tys = tys} {l = l} {ns = ns} {o = o} {a = a} {ts = ts} h r num) n b env w =
        seen (AreOf (a ∷ [])) (TypedKind-F.Apply o ts) (typed.Apply o ts) l ns n env (sym (typed.rolls-Apply o ts))
        (only_then (AreOf tys) (AreOf (a ∷ [])) (means n ts env) (λ vs. given (op_value o vs ∷ [])) (all_well γ ts tys h n b env w) (λ vs k. (row_well o tys a (row_as o tys a r) vs k, tt)))
    well γ _ tys (is.let_in {δ = δ} {l = l} {ns = ns} {us = us} {ts = ts} d h num) n b env w =
        seen (AreOf tys) (TypedKind-F.Let us ts) (typed.Let us ts) l ns n env (sym (typed.rolls-Let us ts))
        (only_then (AreOf (γ ++ δ)) (AreOf tys) (defined (all_at (depth n p) (map (map plain) us)) env) (means n ts) (defs_well γ us δ d n b env w) (λ e k. all_well (γ ++ δ) ts tys h n b e k))
    well γ _ tys (is.if_else {l = l} {ns = ns} {ts = ts} {us = us} {vs = vs} t h k num) n b env w =
        seen (AreOf tys) (TypedKind-F.If ts us vs) (typed.If ts us vs) l ns n env (sym (typed.rolls-If ts us vs))
        (only_then (AreOf (ty.Bool ∷ [])) (AreOf tys) (means n ts env) (λ xs. chosen (length ns) (test_of xs) (means n us env) (means n vs env)) (all_well γ ts (ty.Bool ∷ []) t n b env w)
        (λ xs q. chosen_well tys (length ns) (test_of xs) (means n us env) (means n vs env) (counted ns tys num) (all_well γ us tys h n b env w) (all_well γ vs tys k n b env w)))
    well γ _ tys (is.tag_case ms contents {l = l} {ns = ns} {c = c} {ts = ts} {arms = arms} h r t some all others least num) n b env w =
        seen (AreOf tys) (TypedKind-F.Case c ts arms) (typed.Case c ts arms) l ns n env (sym (typed.rolls-Case c ts arms))
        (only_then (AreOf (ty.Uni ms ∷ [])) (AreOf tys) (means n ts env) (λ xs. arm_of c (length ns) (arms_at n arms) (out-Val (value_at xs 0)) env) (all_well γ ts (ty.Uni ms ∷ []) h n b env w)
        (λ xs q. with_one (ty.Uni ms) (λ xs. Only (AreOf tys) (arm_of c (length ns) (arms_at n arms) (out-Val (value_at xs 0)) env))
        (λ v k. union_well c arms contents tys ms (length ns) n env (counted ns tys num) t (λ place x j. arms_well γ c.named arms contents tys (length ns) (counted ns tys num) r n b env w place x j) v (as_uni ms v k)) xs q))
    well γ _ made (is.product {tys = tys} {names = names} {δ = δ} {row = row} {l = l} {ns = ns} {p = q} {bounds = bounds} {us = us} {ts = ts} d0 g d h m num) n b env w =
        seen (AreOf made) (TypedKind-F.Product q bounds us ts) (typed.Product q bounds us ts) l ns n env (sym (typed.rolls-Product q bounds us ts))
        (only_then (AreOf tys) (AreOf made) (means n bounds env) (λ xs. plus (length q.sources) (over q (length ns) (body_of (all_at (depth n p) (map (map plain) us)) (at (depth n p) (map plain ts))) xs (places_of q.sources xs) env)) (all_well γ bounds tys d0 n b env w)
        (λ xs k. only_plus (AreOf made) (length q.sources) (over q (length ns) (body_of (all_at (depth n p) (map (map plain) us)) (at (depth n p) (map plain ts))) xs (places_of q.sources xs) env)
        (over_well γ tys names row made q (length ns) (body_of (all_at (depth n p) (map (map plain) us)) (at (depth n p) (map plain ts))) g m (counted ns made num)
        (λ e j. only_then (AreOf ((γ ++ names) ++ δ)) (AreOf row) (defined (all_at (depth n p) (map (map plain) us)) e) (means n ts) (defs_well (γ ++ names) us δ d n b e j) (λ z i. all_well ((γ ++ names) ++ δ) ts row h n b z i))
        xs env k w (places_of q.sources xs))))
    well γ _ made (is.initial {loop = loop} {later = later} {row = row} {l = l} {ns = ns} {t = t} {us = us} {vs = vs} {tests = tests} {ts = ts} d c v r h m num) n b env w =
        seen (AreOf made) (TypedKind-F.Initial t us tests vs ts) (typed.Initial t us tests vs ts) l ns n env (sym (typed.rolls-Initial t us tests vs ts))
        (only_then (AreOf (γ ++ loop)) (AreOf made) (defined (all_at (depth n p) (map (map plain) us)) env) (λ all. looped_at (depth n p) t (length ns) (map plain tests) (map (map plain) vs) (map plain ts) env (drop (length env) all)) (defs_well γ us loop d n b env w)
        (λ all k. looped_well γ loop row made t (length ns) tests ts vs env w
        (λ j b x i. only_then (AreOf ((γ ++ loop) ++ later)) (AreOf loop) (defined (all_at (depth j p) (map (map plain) vs)) (env ++ x)) (λ all. given (renew t.renewed (drop (length (env ++ x)) all) x))
        (defs_well (γ ++ loop) vs later v j b (env ++ x) (of_both γ loop env x w i))
        (λ all q. renew_well loop t.renewed later r (drop (length (env ++ x)) all) x (drop_of (γ ++ loop) later (env ++ x) all (of_both γ loop env x w i) q) i))
        m (counted ns made num) n b (λ e i. all_well (γ ++ loop) ts row h n b e i) (drop (length env) all) (drop_of γ loop env all w k)))

    pub all_well : (γ : List Ty) (es : List TypedExpr) (tys : List Ty) → AllFit numbers fs γ es tys → (n : ℕ) → Below n → (env : List Val) → AreOf γ env → Only (AreOf tys) (means n es env)
    all_well γ _ _ is.no_more n b env w = tt
    all_well γ _ _ (is.more {tys = tys} {others = others} {t = t} {ts = ts} h k) n b env w =
        only_then (AreOf tys) (AreOf (tys ++ others)) (plain_meaning n p t env) (λ vs. andthen (means n ts env) (λ ws. given (vs ++ ws))) (well γ t tys h n b env w)
        (λ vs q. only_then (AreOf others) (AreOf (tys ++ others)) (means n ts env) (λ ws. given (vs ++ ws)) (all_well γ ts others k n b env w) (λ ws r. of_both tys others vs ws q r))

    pub defs_well : (γ : List Ty) (us : List (List TypedExpr)) (δ : List Ty) → DefsFit numbers fs γ us δ → (n : ℕ) → Below n → (env : List Val) → AreOf γ env → Only (AreOf (γ ++ δ)) (defined (all_at (depth n p) (map (map plain) us)) env)
    defs_well γ _ _ is.no_def n b env w = subst (λ ts. AreOf ts env) (sym (nil_right γ)) w
    defs_well γ _ _ (is.a_def {tys = tys} {others = others} {ts = ts} {us = us} h k) n b env w =
        only_then (AreOf tys) (AreOf (γ ++ (tys ++ others))) (means n ts env) (λ vs. defined (all_at (depth n p) (map (map plain) us)) (env ++ vs)) (all_well γ ts tys h n b env w)
        (λ vs q. subst (λ z. Only (AreOf z) (defined (all_at (depth n p) (map (map plain) us)) (env ++ vs))) (append_assoc γ tys others)
        (defs_well (γ ++ tys) us others k n b (env ++ vs) (of_both γ tys env vs w q)))

    arms_well : (γ : List Ty) (named : ℕ) (arms : List (List TypedExpr)) (contents tys : List Ty) (k : ℕ) → k ≡ length tys → ArmsFit numbers fs γ named arms contents tys → (n : ℕ) → Below n → (env : List Val) → AreOf γ env
        → (place : ℕ) (v : Val) → ((a : Ty) → slice_get contents place ≡ Some a → Of a v) → Only (AreOf tys) (arm_here named k (slice_get (arms_at n arms) place) place v env)
    arms_well γ _ _ _ tys k e is.no_arm n b env w place v j = of_failed tys k cause.Tag e
    arms_well γ _ _ _ tys k e (is.a_named_arm {contents = contents} {named = named} a {ts = ts} {arms = arms} h rest) n b env w zero v j =
        subst (λ s. Only (AreOf tys) (means n ts s)) (sym (first_content named v env))
        (all_well (γ ++ (a ∷ [])) ts tys h n b (env ++ (v ∷ [])) (of_both γ (a ∷ []) env (v ∷ []) w (j a refl, tt)))
    arms_well γ _ _ _ tys k e (is.a_named_arm {contents = contents} {named = named} a {ts = ts} {arms = arms} h rest) n b env w (suc place) v j =
        subst (Only (AreOf tys)) (sym (later_arm named k (slice_get (arms_at n arms) place) place v env)) (arms_well γ named arms contents tys k e rest n b env w place v j)
    arms_well γ _ _ _ tys k e (is.an_arm {ts = ts} {arms = arms} h rest) n b env w zero v j =
        subst (λ s. Only (AreOf tys) (means n ts s)) (sym (no_content zero v env)) (all_well γ ts tys h n b env w)
    arms_well γ _ _ _ tys k e (is.an_arm {ts = ts} {arms = arms} h rest) n b env w (suc place) v j =
        subst (Only (AreOf tys)) (sym (later_unseen k (slice_get (arms_at n arms) place) place v env)) (arms_well γ 0 arms [] tys k e rest n b env w place v (λ a i. absurd (none-some a i)))

  -- ---- calls

  pub function_there : (gs hs : List Header) (q : List Function) (f : ℕ) (g : Header) → FunctionsFit numbers gs hs q → slice_get hs f ≡ Some g → (d : Function) × (slice_get q f ≡ Some d) × FunctionFits numbers gs g d
  function_there gs [] q f g h e = absurd (none-some g e)
  function_there gs (x ∷ hs) [] f g h e = absurd h
  function_there gs (x ∷ hs) (d ∷ q) zero g h e = (d, refl, subst (λ y. FunctionFits numbers gs y d) (same_Some x g e) h.0)
  function_there gs (x ∷ hs) (d ∷ q) (suc f) g h e = function_there gs hs q f g h.1 e

  body_well : (n : ℕ) → Below n → (g : Header) (k : ℕ) (o : Option (List TypedExpr)) (vs : List Val) → k ≡ length g.results → BodyFits numbers fs g o → AreOf g.params vs
      → Only (AreOf g.results) (results_of k o (λ e. plain e (depth n p)) vs)
  body_well n b g k None vs e h w = of_failed g.results k cause.Explicit e
  body_well n b g k (Some es) vs e h w = subst (λ gs. Only (AreOf g.results) (all_of gs vs)) (at_plain (depth n p) es) (all_well g.params es g.results h n b vs w)

  next_calls : (n : ℕ) → Below n → CallsWell (suc n)
  next_calls n b f g vs e w =
      let d = function_there fs fs p f g fitting e in
      subst (λ o. Only (AreOf g.results) (function_gives o (λ e. plain e (depth n p)) vs)) (sym d.1)
      (body_well n b g (length d.0.results) d.0.body vs (counted d.0.results g.results d.2.results) d.2.body w)

  pub calls_well : (n : ℕ) → Below n
  calls_well zero = tt
  calls_well (suc n) = (next_calls n (calls_well n), calls_well n)

  -- *Values*: of each fitting expression, at every depth
  pub values_well : (γ : List Ty) (e : TypedExpr) (tys : List Ty) → Fits numbers fs γ e tys → (n : ℕ) (env : List Val) → AreOf γ env → Only (AreOf tys) (plain_meaning n p e env)
  values_well γ e tys h n env w = well γ e tys h n (calls_well n) env w

-- ---- the laws

pub counted : (forms : List Form) (spellings : List (List ℕ)) (ns : List ℕ) (tys : List Ty) → AreNumbers forms spellings ns tys → length ns ≡ length tys
counted forms spellings [] [] h = refl
counted forms spellings (n ∷ ns) (t ∷ tys) h = ap suc (counted forms spellings ns tys h.1)
counted forms spellings [] (t ∷ tys) h = absurd h
counted forms spellings (n ∷ ns) [] h = absurd h

pub only_some : (P : List Val → Type 0) (a : Timed (List Val)) (r : List Val × ℕ) → Only P a → a ≡ Some r → P r.0
only_some P None r h e = absurd (none-some r e)
only_some P (Some s) r h e = subst (λ s. P s.0) (same_Some s r e) h

pub expressions_typed : AreExpressionsTyped
expressions_typed forms spellings hs p h γ tys e fits n env r w g =
    only_some (AreOf tys) (plain_meaning n p e env) r (values_well (AreNumbers forms spellings) (counted forms spellings) hs p h.fits γ e tys fits n env w) g

pub calls_typed : AreCallsTyped
calls_typed forms spellings hs p h f x there n vs r w g =
    only_some (AreOf x.results) (plain_calls n p f vs) r
    (calls_at (AreNumbers forms spellings) (counted forms spellings) hs p h.fits n (calls_well (AreNumbers forms spellings) (counted forms spellings) hs p h.fits n) f x vs there w) g
