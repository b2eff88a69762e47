-- Definitions that are refused.
use Rattle.std.proofs.Common.{◌≡◌, ℕ, zero, suc, ◌<◌, ltb, Bool, true, false, nat_eq, List, [], ◌∷◌, ◌++◌, Option, Some, None, slice_get, refl, sym, ap, subst, ◌∙◌, rules}
use Rattle.std.specs.Prelude.{if◌then◌else◌, Contains}
use Rattle.std.proofs.lemmas.Bool.{lt-ltb}
use Rattle.std.proofs.lemmas.List.{append_assoc}
use Rattle.std.proofs.lemmas.Option.{same_Some}
use Rattle.name_scope.specs.Newest.{newest}
use Rattle.flow_value.specs.declared.ty.Ty.{Ty}
use Rattle.type_table.specs.declared.form.Form.{Form}
use Rattle.sisal_tree.specs.declared.unit.Written.{Written}
use Rattle.sisal_tree.specs.declared.expr.Def.{Def, out-Def, roll-Def}
use Rattle.sisal_tree.specs.declared.expr.ExprKind.TheViews as kinds
use Rattle.sisal_tree.specs.declared.expr.Target.{Target}
use Rattle.typed_tree.specs.declared.expr.TypedExpr.{TypedExpr}
use Rattle.typed_tree.specs.Scopes as tree
use Rattle.typed_tree.specs.Types.{IsNumber, AreNumbers}
use Rattle.typed_tree.specs.Typing.{Known, AreTyped, Defines, no_def, a_def, names_in}
use Rattle.typed_tree.specs.Breaks as breaks
use Rattle.typed_tree.specs.Breaks.{IsTwice, IsPair, BreaksDefs, defined_twice, in_values, number_of_values, in_declared, declared, after_one, named_in, line_of}
use Rattle.value_names.specs.declared.value.Value.{Value}
use Rattle.value_names.specs.Names.{Names}
use Rattle.value_names.specs.Scopes.{loop_value}
use Rattle.typing_laws.specs.Turns.{AreBelow, IsInTurn}
use Rattle.typing_laws.specs.Judged.{denotes_in, IsAbove}
use Rattle.typing_laws.proofs.Unique.{as_many, a_number}
use Rattle.typing_laws.proofs.Entering.{defines_append, in_turn_above}
use Rattle.typing_laws.proofs.Turning.{AreSame, same_in_loop}
use Rattle.breaking_laws.specs.Broken.{misnames_in}
use Rattle.breaking_laws.specs.Parts as parts
use Rattle.breaking_laws.specs.Parts.{StandsTwice, BreaksTargets, BreaksTurn, in_defs, renamed, InLoop, BreaksTargetsAt, BreaksDefsAt}
use Rattle.breaking_laws.specs.PartLaws.{DefinedTwiceLaw, AfterDefsLaw, ValuesLaw, TargetsLaw, CountLaw, OneTargetLaw, MisnamedLaw, DeclaredLaw, RetypedLaw}
use Rattle.breaking_laws.proofs.FPassing.{reach_later, reach_here, agrees_at}
use Rattle.breaking_laws.proofs.PReach.{reaches_so, types_differ}
use Rattle.breaking_laws.proofs.FTables.{contains_first}
use Rattle.breaking_laws.proofs.PTwice.{contains_at, contains_only, twice_more, targets_named, targets_more}

-- ---- names of a loop around

pub in_loop : (k : Known) (names : Names) (turn : Option ℕ) (says : List (ℕ × tree.Meaning) → Type 0) → ((loop : List (ℕ × tree.Meaning)) → says loop) → InLoop k names turn says
in_loop k names None says p = p []
in_loop k names (Some first) says p = λ loop means turned values. p means

pub in_loop_above : (k : Known) (old new : Names) (turn : Option ℕ) (says others : List (ℕ × tree.Meaning) → Type 0) → IsAbove old new → InLoop k new turn says
    → ((loop : List (ℕ × tree.Meaning)) → says loop → others loop) → InLoop k old turn others
in_loop_above k old new None says others above p so = so [] p
in_loop_above k old new (Some first) says others above p so = λ loop means turned values. so means (p loop means (in_turn_above first loop old new above turned) values)

pub in_loop_so : (k : Known) (names : Names) (turn : Option ℕ) (says others : List (ℕ × tree.Meaning) → Type 0) → InLoop k names turn says
    → ((loop : List (ℕ × tree.Meaning)) → says loop → others loop) → InLoop k names turn others
in_loop_so k names None says others p so = so [] p
in_loop_so k names (Some first) says others p so = λ loop means turned values. so means (p loop means turned values)

-- ---- definitions in order

pub rolled_def : (d : Def) → roll-Def (record { targets = (out-Def d).targets; values = (out-Def d).values }) ≡ d
rolled_def d = search (rules, kinds.the_lemmas)

module _ (k : Known) (denotes : Written → Ty → Type 0) (misnames : Written → ℕ → ℕ → Type 0) where
  pub defs_more : (s : tree.Scope) (ds es : List Def) (rule line : ℕ) → BreaksDefs k denotes misnames s ds rule line → BreaksDefs k denotes misnames s (ds ++ es) rule line
  defs_more s _ es _ line (defined_twice {ds = ds} p) =
      defined_twice (subst (λ l. IsTwice l line) (sym (targets_more ds es)) (twice_more (named_in (breaks.targets_in ds)) (named_in (breaks.targets_in es)) line p))
  defs_more s _ es rule line (in_values xs values p) = in_values xs values p
  defs_more s _ es _ _ (number_of_values xs values p e) = number_of_values xs values p e
  defs_more s _ es rule line (in_declared x w xs values c e p) = in_declared x w xs values c e p
  defs_more s _ es _ _ (declared xs values p pair e) = declared xs values p pair e
  defs_more s _ es rule line (after_one xs values {tys = tys} {ds = ds} p t r) = after_one xs values p t (defs_more (tree.define_all (names_in xs) tys s) ds es rule line r)

  pub defs_after : (s inside : tree.Scope) (done ds : List Def) (us : List (List TypedExpr)) (made : List Ty) (rule line : ℕ) → Defines k denotes s done us made inside
      → BreaksDefs k denotes misnames inside ds rule line → BreaksDefs k denotes misnames s (done ++ ds) rule line
  defs_after s _ _ ds _ _ rule line no_def p = p
  defs_after s inside _ ds _ _ rule line (a_def xs {es = values} {tys = tys} {others = others} {ds = done} {us = us} t d r) p =
      after_one xs values t d (defs_after (tree.define_all (names_in xs) tys s) inside done ds us others rule line r p)

  turn_after : (loop : List (ℕ × tree.Meaning)) (s inside : tree.Scope) (done : List Def) (d : Def) (rest : List Def) (us : List (List TypedExpr)) (made : List Ty) (rule line : ℕ)
      → Defines k denotes s done us made inside → BreaksTurn k denotes misnames loop inside (d ∷ []) rule line → BreaksTurn k denotes misnames loop s (done ++ (d ∷ rest)) rule line
  turn_after loop s inside done d rest us made rule line defines (in_defs p) = in_defs (defs_after s inside done (d ∷ rest) us made rule line defines (defs_more inside (d ∷ []) rest rule line p))
  turn_after loop s inside done d rest us made _ _ defines (renamed {turned = turned} before xs es after {us = vs} {earlier = earlier} e q values pair retyped) =
      renamed (done ++ before) xs es (after ++ rest) (place e) (defines_append k denotes s done before us vs made earlier inside turned defines q) values pair retyped
    where
      one : Def
      one = roll-Def (record { targets = xs; values = es })

      place : d ∷ [] ≡ before ++ (one ∷ after) → done ++ (d ∷ rest) ≡ (done ++ before) ++ (one ∷ (after ++ rest))
      place e = ap (λ l. done ++ (l ++ rest)) e ∙ ap (λ l. done ++ l) (append_assoc before (one ∷ after) rest) ∙ sym (append_assoc done before (one ∷ (after ++ rest)))

  -- outside of a turn no name is renewed
  pub outside : (s : tree.Scope) (ds : List Def) (rule line : ℕ) → BreaksTurn k denotes misnames [] s ds rule line → BreaksDefs k denotes misnames s ds rule line
  outside s ds rule line (in_defs p) = p
  outside s ds _ _ (renamed before xs es after e q values pair retyped) = absurd (none retyped.2)
    where
      none : {m : tree.Meaning} → None ≡ Some m → ⊥
      none e = cc

pub targets_twice : DefinedTwiceLaw
targets_twice g f names turn ds rule line table p = reach_here g f (BreaksDefsAt g names turn ds rule line) table (record {
  holds = λ k s w stands. in_loop k names turn (λ loop. BreaksTurn k (denotes_in g k) (misnames_in g k) loop s ds rule line) (λ loop.
      subst (λ r. BreaksTurn k (denotes_in g k) (misnames_in g k) loop s ds r line) (sym p.is_rule) (in_defs (defined_twice (subst (λ l. IsTwice l line) (targets_named ds) p.twice))));
})

pub after_defs : AfterDefsLaw
after_defs g f0 f1 start now turn done d rest us ns rule line used defined p =
    reaches_so g f0 f1 (BreaksDefsAt g now turn (d ∷ []) rule line) (BreaksDefsAt g start turn (done ++ (d ∷ rest)) rule line) used p (λ table grows q. record {
      holds = λ k s w stands.
          let r = defined.holds k s (agrees_at g f1 table k grows w) stands in
          in_loop_above k start now turn (λ loop. BreaksTurn k (denotes_in g k) (misnames_in g k) loop r.inside (d ∷ []) rule line)
          (λ loop. BreaksTurn k (denotes_in g k) (misnames_in g k) loop s (done ++ (d ∷ rest)) rule line) defined.above (q.holds k r.inside w r.stands)
          (λ loop b. turn_after k (denotes_in g k) (misnames_in g k) loop s r.inside done d rest us r.made rule line r.defines b);
    })

-- ---- one definition

pub values_refused : ValuesLaw
values_refused g f names turn d rule line p = record {
  table = p.table;
  used = p.used;
  is_table = p.is_table;
  holds = record {
    holds = λ k s w stands. in_loop k names turn (λ loop. BreaksTurn k (denotes_in g k) (misnames_in g k) loop s (d ∷ []) rule line) (λ loop.
        in_defs (subst (λ e. BreaksDefs k (denotes_in g k) (misnames_in g k) s (e ∷ []) rule line) (rolled_def d) (in_values (out-Def d).targets (out-Def d).values (p.holds.holds k s w stands))));
  };
}

module _ (k : Known) (denotes : Written → Ty → Type 0) (misnames : Written → ℕ → ℕ → Type 0) (s : tree.Scope) (d : Def) (ts : List TypedExpr) (tys : List Ty) (values : AreTyped k denotes s (out-Def d).values ts tys) where
  def_refused : (loop : List (ℕ × tree.Meaning)) (rule line : ℕ) → BreaksTargets denotes misnames loop (line_of (out-Def d).targets) (out-Def d).targets tys rule line
      → BreaksTurn k denotes misnames loop s (d ∷ []) rule line
  def_refused loop _ _ (parts.number_of_values e) =
      in_defs (subst (λ e. BreaksDefs k denotes misnames s (e ∷ []) 14 (line_of (out-Def d).targets)) (rolled_def d) (number_of_values (out-Def d).targets (out-Def d).values values e))
  def_refused loop rule line (parts.in_declared x w c e p) =
      in_defs (subst (λ e. BreaksDefs k denotes misnames s (e ∷ []) rule line) (rolled_def d) (in_declared x w (out-Def d).targets (out-Def d).values c e p))
  def_refused loop _ _ (parts.declared pair e) =
      in_defs (subst (λ e. BreaksDefs k denotes misnames s (e ∷ []) 14 (line_of (out-Def d).targets)) (rolled_def d) (declared (out-Def d).targets (out-Def d).values values pair e))
  def_refused loop _ _ (parts.retyped pair e) = renamed [] (out-Def d).targets (out-Def d).values [] (ap (λ e. e ∷ []) (sym (rolled_def d))) no_def values pair e

pub targets_refused : TargetsLaw
targets_refused g f0 f1 names turn d ts ns rule line used typed p =
    reaches_so g f0 f1 (BreaksTargetsAt g names turn (line_of (out-Def d).targets) (out-Def d).targets ns rule line) (BreaksDefsAt g names turn (d ∷ []) rule line) used p (λ table grows q. record {
      holds = λ k s w stands.
          let r = typed.holds k s (agrees_at g f1 table k grows w) stands in
          in_loop_so k names turn (λ loop. BreaksTargets (denotes_in g k) (misnames_in g k) loop (line_of (out-Def d).targets) (out-Def d).targets r.tys rule line)
          (λ loop. BreaksTurn k (denotes_in g k) (misnames_in g k) loop s (d ∷ []) rule line) (q.holds k r.tys w r.number)
          (λ loop b. def_refused k (denotes_in g k) (misnames_in g k) s d ts r.tys r.typed loop rule line b);
    })

-- ---- targets

pub count_refused : CountLaw
count_refused g f names turn at xs ns table differ = reach_here g f (BreaksTargetsAt g names turn at xs ns 14 at) table (record {
  holds = λ k tys w number. in_loop k names turn (λ loop. BreaksTargets (denotes_in g k) (misnames_in g k) loop at xs tys 14 at) (λ loop.
      parts.number_of_values (λ e. differ (as_many k.forms k.spellings ns tys number.each ∙ e)));
})

-- the type at a place
pub number_at : (forms : List Form) (names : List (List ℕ)) (ns : List ℕ) (tys : List Ty) (i n : ℕ) → AreNumbers forms names ns tys → slice_get ns i ≡ Some n
    → (a : Ty) × (slice_get tys i ≡ Some a) × IsNumber forms names n a
number_at forms names [] tys zero n p e = absurd cc
number_at forms names [] tys (suc i) n p e = absurd cc
number_at forms names (m ∷ ns) [] i n p e = absurd p
number_at forms names (m ∷ ns) (t ∷ tys) zero n p e = (t, refl, subst (λ j. IsNumber forms names j t) (same_Some m n e) p.0)
number_at forms names (m ∷ ns) (t ∷ tys) (suc i) n p e = number_at forms names ns tys i n p.1 e

pair_at : (xs : List Target) (tys : List Ty) (i : ℕ) (x : Target) (a : Ty) → slice_get xs i ≡ Some x → slice_get tys i ≡ Some a → IsPair xs tys x a
pair_at [] tys zero x a e f = absurd cc
pair_at [] tys (suc i) x a e f = absurd cc
pair_at (y ∷ xs) [] zero x a e f = absurd cc
pair_at (y ∷ xs) [] (suc i) x a e f = absurd cc
pair_at (y ∷ xs) (b ∷ tys) zero x a e f = subst (λ z. IsPair (y ∷ xs) (b ∷ tys) z a) (same_Some y x e) (subst (λ c. IsPair (y ∷ xs) (b ∷ tys) y c) (same_Some b a f) breaks.first)
pair_at (y ∷ xs) (b ∷ tys) (suc i) x a e f = breaks.IsPair.later (pair_at xs tys i x a e f)

pair_of_one : (x y : Target) (a b : Ty) → IsPair (x ∷ []) (a ∷ []) y b → (x ≡ y) × (a ≡ b)
pair_of_one x _ a _ breaks.first = (refl, refl)
pair_of_one x y a b (breaks.IsPair.later p) = elim p [ ]

module _ (denotes : Written → Ty → Type 0) (misnames : Written → ℕ → ℕ → Type 0) (loop : List (ℕ × tree.Meaning)) (at : ℕ) (xs : List Target) (tys : List Ty) (i : ℕ) (x : Target) (a : Ty) (here : slice_get xs i ≡ Some x)
    (typed : slice_get tys i ≡ Some a) where
  target_refused : (rule line : ℕ) → BreaksTargets denotes misnames loop at (x ∷ []) (a ∷ []) rule line → BreaksTargets denotes misnames loop at xs tys rule line
  target_refused _ _ (parts.number_of_values e) = absurd (e refl)
  target_refused rule line (parts.in_declared y w c e p) = parts.in_declared y w (subst (λ z. Contains xs z) (contains_only x y c) (contains_at xs i x here)) e p
  target_refused _ _ (parts.declared {x = y} {a = b} pair e) =
      let s = pair_of_one x y a b pair in
      parts.declared (subst (λ z. IsPair xs tys z b) s.0 (subst (λ c. IsPair xs tys x c) s.1 (pair_at xs tys i x a here typed))) e
  target_refused _ _ (parts.retyped {x = y} {a = b} pair e) =
      let s = pair_of_one x y a b pair in
      parts.retyped (subst (λ z. IsPair xs tys z b) s.0 (subst (λ c. IsPair xs tys x c) s.1 (pair_at xs tys i x a here typed))) e

pub one_target_refused : OneTargetLaw
one_target_refused g f0 f1 names turn at xs ns i x n rule line used here numbered p =
    reaches_so g f0 f1 (BreaksTargetsAt g names turn at (x ∷ []) (n ∷ []) rule line) (BreaksTargetsAt g names turn at xs ns rule line) used p (λ table grows q. record {
      holds = λ k tys w number.
          let t = number_at k.forms k.spellings ns tys i n number.each numbered in
          in_loop_so k names turn (λ loop. BreaksTargets (denotes_in g k) (misnames_in g k) loop at (x ∷ []) (t.0 ∷ []) rule line) (λ loop. BreaksTargets (denotes_in g k) (misnames_in g k) loop at xs tys rule line)
          (q.holds k (t.0 ∷ []) w (a_number k n t.0 t.2)) (λ loop b. target_refused (denotes_in g k) (misnames_in g k) loop at xs tys i x t.0 here t.1 rule line b);
    })

pub misnamed_target : MisnamedLaw
misnamed_target g f names turn at x w n rule line written p = record {
  table = p.table;
  used = p.used;
  is_table = p.is_table;
  holds = record {
    holds = λ k tys whole number. in_loop k names turn (λ loop. BreaksTargets (denotes_in g k) (misnames_in g k) loop at (x ∷ []) tys rule line) (λ loop.
        parts.in_declared x w (contains_first x []) written (p.holds.holds k whole));
  };
}

pub declared_refused : DeclaredLaw
declared_refused g f0 f1 names turn at x w n m used table written denoted differ =
    reach_later g f0 f1 (BreaksTargetsAt g names turn at (x ∷ []) (n ∷ []) 14 at) used (reach_here g f1 (BreaksTargetsAt g names turn at (x ∷ []) (n ∷ []) 14 at) table (record {
      holds = λ k tys whole number. in_loop k names turn (λ loop. BreaksTargets (denotes_in g k) (misnames_in g k) loop at (x ∷ []) tys 14 at) (λ loop.
          let d = denoted.holds k whole.agrees in
          let t = number_at k.forms k.spellings (n ∷ []) tys 0 n number.each refl in
          parts.declared (pair_at (x ∷ []) tys 0 x t.0 refl t.1)
          (w, d.0, written, d.1, λ e. types_differ k whole.agrees.table whole.agrees.once m n d.0 t.0 d.2 t.2 differ (sym e)));
    }))

-- ---- loop names

pub newest_append : {T : Type 0} (x : ℕ) (loop outer : List (ℕ × T)) (v : T) → newest x loop ≡ Some v → newest x (loop ++ outer) ≡ Some v
newest_append x [] outer v e = absurd cc
newest_append x (n ∷ loop) outer v e = by (nat_eq x n.0) (newest_append x loop outer v) e
  where
    by : (b : Bool) → (newest x loop ≡ Some v → newest x (loop ++ outer) ≡ Some v) → (if b then Some n.1 else newest x loop) ≡ Some v → (if b then Some n.1 else newest x (loop ++ outer)) ≡ Some v
    by true rest e = e
    by false rest e = rest e

pub newest_outside : {T : Type 0} (x : ℕ) (loop outer : List (ℕ × T)) → newest x loop ≡ None → newest x (loop ++ outer) ≡ newest x outer
newest_outside x [] outer e = refl
newest_outside x (n ∷ loop) outer e = by (nat_eq x n.0) (newest_outside x loop outer) e
  where
    by : (b : Bool) → (newest x loop ≡ None → newest x (loop ++ outer) ≡ newest x outer) → (if b then Some n.1 else newest x loop) ≡ None → (if b then Some n.1 else newest x (loop ++ outer)) ≡ newest x outer
    by true rest e = absurd cc
    by false rest e = rest e

pub below_newest : (first x : ℕ) (olds : List (ℕ × Value)) (v : Value) → AreBelow first olds → newest x olds ≡ Some v → v.level < first
below_newest first x [] v p e = absurd cc
below_newest first x (o ∷ olds) v p e = by (nat_eq x o.0) (below_newest first x olds v p.1) e
  where
    by : (b : Bool) → (newest x olds ≡ Some v → v.level < first) → (if b then Some o.1 else newest x olds) ≡ Some v → v.level < first
    by true rest e = subst (λ u. u.level < first) (same_Some o.1 v e) p.0
    by false rest e = rest e

-- what is a name of the loop is found in it
pub loop_found : (first x : ℕ) (loop : List (ℕ × Value)) (s : Names) (v : Value) → IsInTurn first loop s → loop_value first (newest x s.olds) ≡ Some v → newest x loop ≡ Some v
loop_found first x loop s v turned e = by (newest x loop) refl
  where
    kept : (u : Value) (b : Bool) → (if b then None else Some u) ≡ Some v → u ≡ v
    kept u true e = absurd cc
    kept u false e = same_Some u v e

    gone : (u : Value) (b : Bool) → ltb u.level first ≡ b → u.level < first → (if b then None else Some u) ≡ Some v → ⊥
    gone u true t below e = cc
    gone u false t below e = let truth : true ≡ false = sym (lt-ltb u.level first below) ∙ t in cc

    out : (o : Option Value) → newest x turned.outer ≡ o → loop_value first o ≡ Some v → ⊥
    out None h e = cc
    out (Some u) h e = gone u (ltb u.level first) refl (below_newest first x turned.outer u turned.below h) e

    by : (o : Option Value) → newest x loop ≡ o → newest x loop ≡ Some v
    by (Some u) h = h ∙ ap (λ z. Some z) (kept u (ltb u.level first) (sym (ap (loop_value first) (ap (newest x) turned.olds ∙ newest_append x loop turned.outer u h)) ∙ e))
    by None h = absurd (out (newest x turned.outer) refl (sym (ap (loop_value first) (ap (newest x) turned.olds ∙ newest_outside x loop turned.outer h)) ∙ e))

-- its meaning by type
record IsMeant (k : Known) (v : Value) (o : Option tree.Meaning) : Type 0 where
  level : ℕ
  type : Ty
  is : o ≡ Some (tree.At level type)
  number : IsNumber k.forms k.spellings v.ty type

meant : (k : Known) (v : Value) (o : Option tree.Meaning) → AreSame k (Some v) o → IsMeant k v o
meant k v None p = absurd p
meant k v (Some (tree.At level t)) p = record { level = level; type = t; is = refl; number = p.1 }
meant k v (Some tree.Later) p = absurd p

pub retyped_refused : RetypedLaw
retyped_refused g f names first at x n v table found differ = reach_here g f (BreaksTargetsAt g names (Some first) at (x ∷ []) (n ∷ []) 23 at) table (record {
  holds = λ k tys whole number. λ loop means turned values.
      let t = number_at k.forms k.spellings (n ∷ []) tys 0 n number.each refl in
      let here : newest x.name.name loop ≡ Some v = loop_found first x.name.name loop names v turned found in
      let m = meant k v (newest x.name.name means) (subst (λ o. AreSame k o (newest x.name.name means)) here (same_in_loop k x.name.name loop means values)) in
      parts.retyped (pair_at (x ∷ []) tys 0 x t.0 refl t.1)
      (m.level, m.type, m.is, λ e. types_differ k whole.agrees.table whole.agrees.once v.ty n m.type t.0 m.number t.2 differ (sym e));
})
