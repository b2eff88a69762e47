-- Clauses that the walk refuses.
use Rattle.std.proofs.Common.{◌≡◌, ◌⊎◌, inl, inr, ℕ, suc, ◌+◌, ◌<◌, Bool, true, false, List, [], ◌∷◌, ◌++◌, length, map, take, get_or, slice_get, Some, None, refl, sym, ap, subst, ◌∙◌, arith}
use Rattle.std.proofs.lemmas.List.{append_assoc, length-append, length-take-le, map-append}
use Rattle.std.proofs.lemmas.Option.{same_Some, slice_get_within, slice_get-get_or}
use Rattle.type_table.specs.declared.form.Form.{Form}
use Rattle.type_table.specs.Tables.{IsTable}
use Rattle.sisal_tree.specs.declared.expr.Clause.{Clause, out-Clause}
use Rattle.typed_tree.specs.declared.expr.ClauseForm.{ClauseForm}
use Rattle.type_rules.specs.declared.fault.Refused.{Refused}
use Rattle.type_rules.specs.declared.fault.Refused.TheVariants as refused
use Rattle.type_rules.specs.Folds.{IsUnmade}
use Rattle.sisal_tree.specs.declared.expr.Def.{Def}
use Rattle.sisal_tree.specs.declared.expr.Generator.{Generator}
use Rattle.typed_tree.specs.declared.expr.TypedExpr.{TypedExpr}
use Rattle.typed_tree.specs.Scopes.{AreDistinct, targets}
use Rattle.type_rules.specs.Applies.{Grows}
use Rattle.value_names.specs.Names.{Names}
use Rattle.value_names.specs.Scopes.{define_all}
use Rattle.typing_laws.specs.Given.{Given}
use Rattle.typing_laws.specs.Given as by
use Rattle.typing_laws.specs.Defining.{AllDefined}
use Rattle.typing_laws.specs.Judged.{IsUsedIn}
use Rattle.typing_laws.specs.Looping.{AllMade, AllValues, FoldAdded, GroupsTyped, no_group, a_group, IsCrossed}
use Rattle.typing_laws.proofs.Crossed.{none_made, one_more_made, over_typed, around_typed}
use Rattle.typing_laws.proofs.Generated.{groups_later, last_group}
use Rattle.typing_laws.proofs.Walking.{taken}
use Rattle.breaking_laws.specs.Parts.{BrokenMade, MakesTypes}
use Rattle.breaking_laws.proofs.PMade.{unmade_refused, deep_refused, one_made_refused, through_refused}
use Rattle.sisal_check.specs.declared.generators.Group.{Group}
use Rattle.sisal_check.specs.Walked.{group_of, CrossesAll, IsLoopOver, IsProduct}

pub unmade_by : (g : Given) (f : List Form) (groups from : ℕ) (c : Clause) (n : ℕ) (r : Refused) (rule line : ℕ) → IsTable f → IsUnmade f (out-Clause c).kind n r → (r ≡ refused.Rule rule) × (rule ≡ 4 → ⊥) × (line ≡ (out-Clause c).line)
    → BrokenMade g f (suc groups) from (c ∷ []) (n ∷ []) rule line
unmade_by g f groups from c n r rule line table p q =
    subst (λ l. BrokenMade g f (suc groups) from (c ∷ []) (n ∷ []) rule l) (sym q.2) (unmade_refused g f groups from c n rule table q.1 (subst (IsUnmade f (out-Clause c).kind n) q.0 p))

pub deep_by : (g : Given) (f : List Form) (groups from : ℕ) (c : Clause) (n : ℕ) (r : Refused) → IsTable f → IsUnmade f (out-Clause c).kind n r → r ≡ refused.Rule 4 → BrokenMade g f (suc groups) from (c ∷ []) (n ∷ []) 4 from
deep_by g f groups from c n r table p is = deep_refused g f groups from c n table (subst (IsUnmade f (out-Clause c).kind n) is p)

-- ---- clauses in order

pub nothing_made : (f : List Form) (is_masked : Bool) (forms : List ClauseForm) (types : List ℕ) → forms ≡ [] → types ≡ [] → AllMade f [] is_masked [] (record { forms = forms; types = types })
nothing_made f is_masked forms types e h = none_made f is_masked (record { forms = forms; types = types }) (λ i. record { forms = e i; types = h i })

at_place : (ns : List ℕ) (i n : ℕ) → slice_get ns i ≡ Some n → n ≡ get_or ns i n
at_place ns i n e = same_Some n (get_or ns i n) (sym e ∙ slice_get-get_or ns i n (slice_get_within ns i n e))

pub more_made : (f0 f1 : List Form) (is_masked : Bool) (cs : List Clause) (ns : List ℕ) (i : ℕ) (c : Clause) (n : ℕ) (old new : by.Folds) → Grows f0 f1 → i < length cs → c ≡ get_or cs i c → slice_get ns i ≡ Some n
    → AllMade f0 (take i cs) is_masked (take i ns) old → FoldAdded f0 f1 c is_masked n old new → AllMade f1 (take (i + 1) cs) is_masked (take (i + 1) ns) new
more_made f0 f1 is_masked cs ns i c n old new grows lt is numbered before added =
    let within : i < length ns = slice_get_within ns i n numbered in
    let many : length (take i cs) ≡ length (take i ns) = length-take-le i cs (omega (arith, lt)) ∙ sym (length-take-le i ns (omega (arith, within))) in
    subst (λ l. AllMade f1 l is_masked (take (i + 1) ns) new) (taken cs i c lt is)
    (subst (λ l. AllMade f1 (take i cs ++ (c ∷ [])) is_masked l new) (taken ns i n within (at_place ns i n numbered)) (one_more_made f0 f1 is_masked (take i cs) c (take i ns) n old new grows many before added))

pub deep_on : (g : Given) (f0 f1 : List Form) (line : ℕ) (cs : List Clause) (ns : List ℕ) (i : ℕ) (c : Clause) (n : ℕ) (was now : Bool) → IsUsedIn g f0 f1 → slice_get cs i ≡ Some c → slice_get ns i ≡ Some n
    → (now ≡ true → (was ≡ true) ⊎ ((h : Given) (groups from : ℕ) → BrokenMade h f1 (suc groups) from (c ∷ []) (n ∷ []) 4 from))
    → (was ≡ true → (groups : ℕ) → BrokenMade g f0 (suc groups) line cs ns 4 line) → now ≡ true → (groups : ℕ) → BrokenMade g f0 (suc groups) line cs ns 4 line
deep_on g f0 f1 line cs ns i c n was now used here numbered fold before e groups = elim (fold e) [
  | inl h ↦ before h groups
  | inr p ↦ one_made_refused g f0 f1 (suc groups) line cs ns i c n 4 line used here numbered (p g groups line)
]

-- ---- loops over groups

no_more_groups : (g : Given) (f : List Form) (names inside : Names) (gs : List (List Generator)) → GroupsTyped g f names gs [] inside → (gs ≡ []) × (inside ≡ names)
no_more_groups g f _ _ _ no_group = (refl, refl)

pub crosses_none : (g : Given) (f : List Form) (line : ℕ) (cs : List Clause) (ms : List by.Group) (t : TypedExpr) → ms ≡ [] → CrossesAll g f f line cs ms t t
crosses_none g f line cs ms t e = record {
  holds = λ names inside gs others ds grouped inner.
      let none = no_more_groups g f names inside gs (subst (λ l. GroupsTyped g f names gs l inside) e grouped) in
      subst (λ l. IsCrossed g f names line (l ++ others) ds cs t) (sym none.0) (subst (λ m. IsCrossed g f m line others ds cs t) none.1 inner);
}

pub groups_end : (goes rest : List Group) (m : Group) → goes ≡ rest ++ (m ∷ []) → map group_of goes ≡ map group_of rest ++ (group_of m ∷ [])
groups_end goes rest m e = ap (map group_of) e ∙ map-append group_of rest (m ∷ [])

pub many_end : (goes rest : List Group) (m : Group) → goes ≡ rest ++ (m ∷ []) → suc (length rest) ≡ length goes
many_end goes rest m e = let p = ap length e ∙ length-append rest (m ∷ []) in omega (arith, p)

pub crosses_more : (g : Given) (f0 f1 f2 : List Form) (line : ℕ) (cs : List Clause) (ms rest : List by.Group) (m : by.Group) (inner made t : TypedExpr) → Grows f0 f1 → ms ≡ rest ++ (m ∷ [])
    → IsLoopOver f1 line cs false inner.types m [] (inner ∷ []) made → CrossesAll g f1 f2 line cs rest made t → CrossesAll g f0 f2 line cs ms inner t
crosses_more g f0 f1 f2 line cs ms rest m inner made t grows e over all = record {
  holds = λ names inside gs others ds grouped crossed.
      let l = last_group g f0 names inside gs rest m (subst (λ l. GroupsTyped g f0 names gs l inside) e grouped) in
      let around : IsCrossed g f1 l.between line (l.last ∷ others) ds cs made =
      around_typed g f0 f1 l.between line l.last m others ds cs inner over.folds made grows l.typed (subst (λ n. IsCrossed g f0 n line others ds cs inner) l.names_after crossed) over.made over.is in
      let whole = all.holds names l.between l.others (l.last ∷ others) ds (groups_later g f0 f1 names l.between l.others rest grows l.before) around in
      subst (λ x. IsCrossed g f2 names line x ds cs t) (sym (append_assoc l.others (l.last ∷ []) others) ∙ ap (λ x. x ++ others) (sym l.is)) whole;
}

pub breaks_more : (g : Given) (f0 f1 : List Form) (line : ℕ) (cs : List Clause) (is_masked : Bool) (many groups : ℕ) (ns ms : List ℕ) (rule at : ℕ) → IsUsedIn g f0 f1 → suc groups ≡ many → MakesTypes f1 cs is_masked ns ms
    → BrokenMade g f1 groups line cs ms rule at → BrokenMade g f0 many line cs ns rule at
breaks_more g f0 f1 line cs is_masked many groups ns ms rule at used e makes p =
    subst (λ k. BrokenMade g f0 k line cs ns rule at) e
    (through_refused g f0 f1 groups line cs is_masked ns makes.folds rule at used makes.made (subst (λ l. BrokenMade g f1 groups line cs l rule at) makes.types p))

pub is_product : (g : Given) (f0 f1 f2 : List Form) (line : ℕ) (cs : List Clause) (ms rest : List by.Group) (m : by.Group) (us : List (List TypedExpr)) (ns : List ℕ) (values : by.Parts) (inner t : TypedExpr) → Grows f0 f1
    → ms ≡ rest ++ (m ∷ []) → IsLoopOver f1 line cs true values.types m us values.exprs inner → CrossesAll g f1 f2 line cs rest inner t → IsProduct g f0 f2 line cs ms us ns values t
is_product g f0 f1 f2 line cs ms rest m us ns values inner t grows e over all = record {
  holds = λ names inside within gs ds grouped defined distinct valued.
      let l = last_group g f0 names inside gs rest m (subst (λ l. GroupsTyped g f0 names gs l inside) e grouped) in
      let last : IsCrossed g f1 l.between line (l.last ∷ []) ds cs inner =
      over_typed g f0 f1 l.between within line l.last m ds us ns cs values.exprs values.types over.folds inner grows l.typed (subst (λ n. AllDefined g f0 n within None ds us ns) l.names_after defined) distinct valued over.made over.is in
      subst (λ x. IsCrossed g f2 names line x ds cs t) (sym l.is) (all.holds names l.between l.others (l.last ∷ []) ds (groups_later g f0 f1 names l.between l.others rest grows l.before) last);
}
