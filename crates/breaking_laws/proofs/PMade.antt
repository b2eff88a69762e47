-- What clauses make of values, that is refused, also through groups.
use Rattle.std.proofs.Common.{◌≡◌, inl, inr, ℕ, zero, suc, ◌<◌, Bool, List, [], ◌∷◌, Option, Some, None, slice_get, refl, sym, ap, subst, ◌∙◌, arith}
use Rattle.std.specs.Prelude.{Contains}
use Rattle.std.proofs.lemmas.Option.{same_Some}
use Rattle.flow_value.specs.declared.ty.Ty.{Ty}
use Rattle.flow_value.specs.declared.ty.Ty.TheVariants as ty
use Rattle.type_table.specs.declared.form.Form.{Form}
use Rattle.type_table.specs.declared.form.Form.TheVariants as form
use Rattle.loop_folds.specs.declared.folding.Folding.{Folding}
use Rattle.loop_folds.specs.declared.folding.Folding.TheVariants as folding
use Rattle.type_table.specs.Forms.{form_depth}
use Rattle.type_table.specs.Tables.{depths, IsTable}
use Rattle.sisal_tree.specs.declared.unit.Written.{Written}
use Rattle.sisal_tree.specs.declared.expr.Clause.{Clause, out-Clause}
use Rattle.sisal_tree.specs.declared.expr.ClauseKind.{ClauseKind}
use Rattle.sisal_tree.specs.declared.expr.ClauseKind.TheVariants as made
use Rattle.typed_tree.specs.declared.expr.ClauseForm.{ClauseForm}
use Rattle.typed_tree.specs.declared.expr.TypedExpr.{TypedExpr}
use Rattle.typed_tree.specs.Scopes as scopes
use Rattle.typed_tree.specs.Types.{IsNumber, IsShallow, depth_of, Makes, array_of, stream_of, value_of, sum, product, least, greatest, catenate_arrays, catenate_streams, MakesThrough, no_group, through}
use Rattle.typed_tree.specs.Typing.{Known, Types}
use Rattle.typed_tree.specs.Breaks.{BreaksClause, reduction, deep_clause}
use Rattle.typed_tree.proofs.Depths.{depth_array, depth_stream}
use Rattle.type_rules.specs.declared.fault.Refused.TheVariants as refused
use Rattle.type_rules.specs.declared.folds.Folded.{Folded}
use Rattle.type_rules.specs.declared.head.Sort.{Sort}
use Rattle.type_rules.specs.declared.head.Sort.TheVariants as sort
use Rattle.type_rules.specs.Applies.{Grows, IsTooDeep}
use Rattle.type_rules.specs.Folds.{IsUnmade, makes_of, kept, reduced}
use Rattle.type_rules.specs.Typed.{FitsClause}
use Rattle.type_rules.proofs.Clauses.{clauses_by_type}
use Rattle.typing_laws.specs.Judged.{denotes_in}
use Rattle.typing_laws.specs.Looping.{AreMade, AreValuesOf, no_value, a_value}
use Rattle.typing_laws.specs.Looping as looping
use Rattle.typing_laws.proofs.Later.{used_on}
use Rattle.typing_laws.proofs.Unique.{a_number}
use Rattle.breaking_laws.specs.Broken.{misnames_in}
use Rattle.breaking_laws.specs.Parts as parts
use Rattle.breaking_laws.specs.Parts.{IsClausePair, BreaksMade, BreaksMadeIn, BreaksMadeAt, BreaksClauses, BreaksClausesAt}
use Rattle.breaking_laws.specs.PartLaws.{UnmadeLaw, DeepLaw, OneMadeLaw, ThroughLaw, MadeLaw}
use Rattle.breaking_laws.proofs.FPassing.{reach_here, agrees_at}
use Rattle.breaking_laws.proofs.FTables.{contains_first, contains_later}
use Rattle.breaking_laws.proofs.PReach.{reaches_so}
use Rattle.breaking_laws.proofs.PDefs.{number_at}
use Rattle.breaking_laws.proofs.PClauses.{rolled_clause}

-- ---- types through groups

-- a clause makes one type
abbrev made_type : ClauseKind → Ty → Ty
made_type made.Array a = ty.Arr a
made_type made.Stream a = ty.Stream a
made_type made.Last a = a
made_type (made.Reduce d r) a = a

is_made : (kind : ClauseKind) (a b : Ty) → Makes kind a b → b ≡ made_type kind a
is_made _ a _ (array_of _) = refl
is_made _ a _ (stream_of _) = refl
is_made _ a _ value_of = refl
is_made _ _ _ sum = refl
is_made _ _ _ product = refl
is_made _ _ _ least = refl
is_made _ _ _ greatest = refl
is_made _ _ _ (catenate_arrays e) = refl
is_made _ _ _ (catenate_streams e) = refl

pub one_made : (kind : ClauseKind) (a b c : Ty) → Makes kind a b → Makes kind a c → b ≡ c
one_made kind a b c p q = is_made kind a b p ∙ sym (is_made kind a c q)

-- too deep an array or stream makes too deep ones
record TooDeep (kind : ClauseKind) (groups : ℕ) (a : Ty) : Type 0 where
  type : Ty
  makes : MakesThrough kind groups a type
  deep : IsShallow type → ⊥

arrays_deep : (groups : ℕ) (a : Ty) → 64 < depth_of a → TooDeep made.Array groups a
arrays_deep zero a e = record { type = a; makes = no_group; deep = λ s. omega (arith, e, s) }
arrays_deep (suc groups) a e =
    let more : 64 < depth_of (ty.Arr a) = (let d = depth_array a in omega (arith, e, d)) in
    let r = arrays_deep groups (ty.Arr a) more in record { type = r.type; makes = through (array_of a) r.makes; deep = r.deep }

streams_deep : (groups : ℕ) (a : Ty) → 64 < depth_of a → TooDeep made.Stream groups a
streams_deep zero a e = record { type = a; makes = no_group; deep = λ s. omega (arith, e, s) }
streams_deep (suc groups) a e =
    let more : 64 < depth_of (ty.Stream a) = (let d = depth_stream a in omega (arith, e, d)) in
    let r = streams_deep groups (ty.Stream a) more in record { type = r.type; makes = through (stream_of a) r.makes; deep = r.deep }

-- ---- clauses with their values

pub clause_pair_at : (cs : List Clause) (tys : List Ty) (i : ℕ) (c : Clause) (a : Ty) → slice_get cs i ≡ Some c → slice_get tys i ≡ Some a → IsClausePair cs tys c a
clause_pair_at [] tys zero c a e f = absurd cc
clause_pair_at [] tys (suc i) c a e f = absurd cc
clause_pair_at (d ∷ cs) [] zero c a e f = absurd cc
clause_pair_at (d ∷ cs) [] (suc i) c a e f = absurd cc
clause_pair_at (d ∷ cs) (b ∷ tys) zero c a e f = subst (λ z. IsClausePair (d ∷ cs) (b ∷ tys) z a) (same_Some d c e) (subst (λ t. IsClausePair (d ∷ cs) (b ∷ tys) d t) (same_Some b a f) parts.IsClausePair.first)
clause_pair_at (d ∷ cs) (b ∷ tys) (suc i) c a e f = parts.IsClausePair.later (clause_pair_at cs tys i c a e f)

pair_of_one : (c d : Clause) (a b : Ty) → IsClausePair (c ∷ []) (a ∷ []) d b → (c ≡ d) × (a ≡ b)
pair_of_one c _ a _ parts.IsClausePair.first = (refl, refl)
pair_of_one c d a b (parts.IsClausePair.later p) = elim p [ ]

-- ---- one clause

pub unmade_refused : UnmadeLaw
unmade_refused g f groups from c n rule table not_deep unmade = reach_here g f (BreaksMadeAt (suc groups) from (c ∷ []) (n ∷ []) rule (out-Clause c).line) table (record {
  holds = λ k tys same number.
      let t = number_at k.forms k.spellings (n ∷ []) tys 0 n number.each refl in
      let fits = clauses_by_type k.forms k.spellings (subst IsTable (sym same) table) (out-Clause c).kind n t.0 t.2 in
      record { clause = c; type = t.0; pair = clause_pair_at (c ∷ []) tys 0 c t.0 refl t.1; breaks = by unmade k same t.0 fits };
})
  where
    not_made : (s : Sort) → IsTooDeep f s (refused.Rule rule) → ⊥
    not_made (sort.There m) p = p
    not_made (sort.Made shape) p = not_deep p.0

    nothing : (a : Ty) → ((b : Ty) → Makes (out-Clause c).kind a b → ⊥) → (b : Ty) → MakesThrough (out-Clause c).kind (suc groups) a b → ⊥
    nothing a never b (through {inner = inner} p r) = never inner p

    by : IsUnmade f (out-Clause c).kind n (refused.Rule rule)
        → (k : Known) → k.forms ≡ f → (a : Ty) → FitsClause k.forms k.spellings (out-Clause c).kind a (makes_of k.forms (out-Clause c).kind n) → BreaksMade (suc groups) from c a rule (out-Clause c).line
    by (inl p) k same a fits =
        let never : (b : Ty) → Makes (out-Clause c).kind a b → ⊥ =
        subst (λ o. FitsClause k.forms k.spellings (out-Clause c).kind a o) (ap (λ l. makes_of l (out-Clause c).kind n) same ∙ p.0) fits in
        subst (λ r. BreaksMade (suc groups) from c a r (out-Clause c).line) (sym p.1) (parts.reduction (nothing a never))
    by (inr p) k same a fits = absurd (not_made p.0.sort p.2)

-- only what is made anew may be too deep
kept_there : (o : Option Folding) (n : ℕ) (r : Folded) → kept o n ≡ Some r → r.sort ≡ sort.There n
kept_there None n r e = absurd cc
kept_there (Some f) n r e = sym (ap (λ x. x.sort) (same_Some (record { folding = f; sort = sort.There n }) r e))

not_there : (f : List Form) (n : ℕ) (s : Sort) → s ≡ sort.There n → IsTooDeep f s (refused.Rule 4) → ⊥
not_there f n s e deep = subst (λ s. IsTooDeep f s (refused.Rule 4)) e deep

deep_made : (f : List Form) (names : List (List ℕ)) → IsTable f → (groups : ℕ) (kind : ClauseKind) (n : ℕ) (a : Ty) (r : Folded) → makes_of f kind n ≡ Some r → IsTooDeep f r.sort (refused.Rule 4)
    → IsNumber f names n a → TooDeep kind (suc groups) a
deep_made f names table groups made.Array n a r e deep number =
    let fits = clauses_by_type f names table made.Array n a number in
    let new : r.sort ≡ sort.Made (form.Array n) = sym (ap (λ x. x.sort) (same_Some (record { folding = folding.Array; sort = sort.Made (form.Array n) }) r e)) in
    let is_deep : 64 < form_depth (depths f) (form.Array n) = (subst (λ s. IsTooDeep f s (refused.Rule 4)) new deep).1 fits.4.over in
    let same : form_depth (depths f) (form.Array n) ≡ depth_of (ty.Arr a) = fits.4.deep ∙ ap depth_of (arr_made a fits.0 fits.1) in
    let t = arrays_deep groups (ty.Arr a) (omega (arith, is_deep, same)) in record { type = t.type; makes = through (array_of a) t.makes; deep = t.deep }
  where
    arr_made : (a b : Ty) → Makes made.Array a b → b ≡ ty.Arr a
    arr_made a _ (array_of _) = refl
deep_made f names table groups made.Stream n a r e deep number =
    let fits = clauses_by_type f names table made.Stream n a number in
    let new : r.sort ≡ sort.Made (form.Stream n) = sym (ap (λ x. x.sort) (same_Some (record { folding = folding.Stream; sort = sort.Made (form.Stream n) }) r e)) in
    let is_deep : 64 < form_depth (depths f) (form.Stream n) = (subst (λ s. IsTooDeep f s (refused.Rule 4)) new deep).1 fits.4.over in
    let same : form_depth (depths f) (form.Stream n) ≡ depth_of (ty.Stream a) = fits.4.deep ∙ ap depth_of (stream_made a fits.0 fits.1) in
    let t = streams_deep groups (ty.Stream a) (omega (arith, is_deep, same)) in record { type = t.type; makes = through (stream_of a) t.makes; deep = t.deep }
  where
    stream_made : (a b : Ty) → Makes made.Stream a b → b ≡ ty.Stream a
    stream_made a _ (stream_of _) = refl
deep_made f names table groups made.Last n a r e deep number = absurd (not_there f n r.sort (kept_there (Some folding.Last) n r e) deep)
deep_made f names table groups (made.Reduce d by) n a r e deep number = absurd (not_there f n r.sort (kept_there (reduced f by n) n r e) deep)

pub deep_refused : DeepLaw
deep_refused g f groups from c n table unmade = reach_here g f (BreaksMadeAt (suc groups) from (c ∷ []) (n ∷ []) 4 from) table (record {
  holds = λ k tys same number.
      let t = number_at k.forms k.spellings (n ∷ []) tys 0 n number.each refl in
      let d = by unmade k same t.0 (subst (λ l. IsNumber l k.spellings n t.0) same t.2) in
      record { clause = c; type = t.0; pair = clause_pair_at (c ∷ []) tys 0 c t.0 refl t.1; breaks = parts.deep d.makes d.deep };
})
  where
    four : ◌≡◌ {A = ℕ} 4 23 → ⊥
    four e = omega (arith, e)

    by : IsUnmade f (out-Clause c).kind n (refused.Rule 4)
        → (k : Known) → k.forms ≡ f → (a : Ty) → IsNumber f k.spellings n a → TooDeep (out-Clause c).kind (suc groups) a
    by (inl p) k same a number = absurd (four p.1)
    by (inr p) k same a number = deep_made f k.spellings table groups (out-Clause c).kind n a p.0 p.1 p.2 number

pub one_made_refused : OneMadeLaw
one_made_refused g f0 f1 groups from cs ns i c n rule line used here numbered p =
    reaches_so g f0 f1 (BreaksMadeAt groups from (c ∷ []) (n ∷ []) rule line) (BreaksMadeAt groups from cs ns rule line) used p (λ table grows q. record {
      holds = λ k tys same number.
          let t = number_at k.forms k.spellings ns tys i n number.each numbered in
          let b = q.holds k (t.0 ∷ []) same (a_number k n t.0 t.2) in
          let e = pair_of_one c b.clause t.0 b.type b.pair in
          record { clause = c; type = t.0; pair = clause_pair_at cs tys i c t.0 here t.1; breaks = subst (λ d. BreaksMade groups from d t.0 rule line) (sym e.0) (subst (λ a. BreaksMade groups from b.clause a rule line) (sym e.1) b.breaks) };
    })

-- ---- through a group

-- the values of which a clause made something
record MadeOf (cs : List Clause) (tys : List Ty) (c : Clause) (b : Ty) : Type 0 where
  type : Ty
  pair : IsClausePair cs tys c type
  makes : Makes (out-Clause c).kind type b

made_of : (is_masked : Bool) (cs : List Clause) (tys : List Ty) (forms : List ClauseForm) (results : List Ty) (c : Clause) (b : Ty) → AreMade is_masked cs tys forms results → IsClausePair cs results c b → MadeOf cs tys c b
made_of is_masked _ tys _ _ c b (looping.AreMade.no_clause _) p = elim p [ ]
made_of is_masked cs _ _ _ c b (looping.AreMade.no_value _) p = absurd (none cs p)
  where
    none : (cs : List Clause) → IsClausePair cs [] c b → ⊥
    none cs p = elim p [ ]
made_of is_masked _ _ _ _ c _ (looping.AreMade.a_clause _ makes shallow r) parts.IsClausePair.first = record { type = _; pair = parts.IsClausePair.first; makes = makes }
made_of is_masked _ _ _ _ c b (looping.AreMade.a_clause _ {cs = cs} {tys = tys} {made = results} {forms = forms} makes shallow r) (parts.IsClausePair.later p) =
    let m = made_of is_masked cs tys forms results c b r p in record { type = m.type; pair = parts.IsClausePair.later m.pair; makes = m.makes }

breaks_through : (groups from : ℕ) (c : Clause) (a b : Ty) (rule line : ℕ) → Makes (out-Clause c).kind a b → BreaksMade groups from c b rule line → BreaksMade (suc groups) from c a rule line
breaks_through groups from c a b _ _ makes (parts.reduction never) = parts.reduction (λ d t. never d (rest d t))
  where
    rest : (d : Ty) → MakesThrough (out-Clause c).kind (suc groups) a d → MakesThrough (out-Clause c).kind groups b d
    rest d (through {inner = inner} p r) = subst (λ i. MakesThrough (out-Clause c).kind groups i d) (one_made (out-Clause c).kind a inner b p makes) r
breaks_through groups from c a b _ _ makes (parts.deep t never) = parts.deep (through makes t) never

pub through_refused : ThroughLaw
through_refused g f0 f1 groups from cs is_masked ns folds rule line used all p = record {
  table = p.table;
  used = used_on g f0 f1 p.table used p.used;
  is_table = p.is_table;
  holds = record {
    holds = λ k tys same number.
        let grows : Grows f1 k.forms = subst (λ l. Grows f1 l) (sym same) p.used.grows in
        let m = all.holds k grows (subst IsTable (sym same) p.is_table) tys number in
        let b = p.holds.holds k m.made same m.number in
        let o = made_of is_masked cs tys folds.forms m.made b.clause b.type m.each b.pair in
        record { clause = b.clause; type = o.type; pair = o.pair; breaks = breaks_through groups from b.clause o.type b.type rule line o.makes b.breaks };
  };
}

-- ---- typed values

-- the value of a clause at the place of its type
record ValueOf (k : Known) (denotes : Written → Ty → Type 0) (s : scopes.Scope) (cs : List Clause) (c : Clause) (a : Ty) : Type 0 where
  tree : TypedExpr
  typed : Types k denotes s (out-Clause c).value tree (a ∷ [])
  contains : Contains cs c

value_at : (k : Known) (denotes : Written → Ty → Type 0) (s : scopes.Scope) (cs : List Clause) (ts : List TypedExpr) (tys : List Ty) (c : Clause) (a : Ty) → AreValuesOf k denotes s cs ts tys → IsClausePair cs tys c a
    → ValueOf k denotes s cs c a
value_at k denotes s _ _ _ c a no_value p = elim p [ ]
value_at k denotes s _ _ _ c _ (a_value _ {cs = cs} t m r) parts.IsClausePair.first = record { tree = _; typed = t; contains = contains_first c cs }
value_at k denotes s _ _ _ c a (a_value d {cs = cs} {ts = ts} {tys = tys} t m r) (parts.IsClausePair.later p) =
    let v = value_at k denotes s cs ts tys c a r p in record { tree = v.tree; typed = v.typed; contains = contains_later d cs c v.contains }

clause_breaks : (k : Known) (denotes : Written → Ty → Type 0) (misnames : Written → ℕ → ℕ → Type 0) (s : scopes.Scope) (groups from : ℕ) (cs : List Clause) (c : Clause) (a : Ty) (rule line : ℕ)
    → ValueOf k denotes s cs c a → BreaksMade groups from c a rule line → BreaksClauses k denotes misnames s groups from cs rule line
clause_breaks k denotes misnames s groups from cs c a _ _ v (parts.reduction never) =
    parts.one_of c v.contains (subst (λ d. BreaksClause k denotes misnames s groups from d 23 (out-Clause c).line) (rolled_clause c)
    (reduction groups from (out-Clause c).line (out-Clause c).kind (out-Clause c).value (out-Clause c).mask v.typed never))
clause_breaks k denotes misnames s groups from cs c a _ _ v (parts.deep t never) =
    parts.one_of c v.contains (subst (λ d. BreaksClause k denotes misnames s groups from d 4 from) (rolled_clause c)
    (deep_clause groups from (out-Clause c).line (out-Clause c).kind (out-Clause c).value (out-Clause c).mask v.typed t never))

pub made_refused : MadeLaw
made_refused g f0 f1 names groups from cs ts ns rule line used values p =
    reaches_so g f0 f1 (BreaksMadeAt groups from cs ns rule line) (BreaksClausesAt g names groups from cs rule line) used p (λ table grows q. record {
      holds = λ k s whole stands.
          let v = values.holds k s (agrees_at g f1 table k grows whole) stands in
          let b = q.holds k v.tys whole.same v.number in
          clause_breaks k (denotes_in g k) (misnames_in g k) s groups from cs b.clause b.type rule line (value_at k (denotes_in g k) s cs ts v.tys b.clause b.type v.typed b.pair) b.breaks;
    })
