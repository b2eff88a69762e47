-- Definitions that the walk types or refuses.
use Rattle.std.proofs.Common.{◌≡◌, ℕ, zero, suc, ◌+◌, ◌<◌, ◌≤◌, ltb, Bool, true, false, nat_eq, List, [], ◌∷◌, ◌++◌, drop, length, get_or, slice_get, Option, Some, None, refl, sym, ap, subst, ◌∙◌, arith}
use Rattle.std.specs.Prelude.{if◌then◌else◌}
use Rattle.std.proofs.lemmas.Bool.{ltb-true}
use Rattle.std.proofs.lemmas.List.{drop_all}
use Rattle.std.proofs.lemmas.Option.{same_Some, slice_get_within, slice_get-get_or}
use Rattle.name_scope.specs.Newest.{newest}
use Rattle.type_table.specs.declared.form.Form.{Form}
use Rattle.sisal_tree.specs.declared.unit.Named.{Named}
use Rattle.sisal_tree.specs.declared.unit.Written.{Written}
use Rattle.sisal_tree.specs.declared.expr.Target.{Target}
use Rattle.typed_tree.specs.Typing.{names_in}
use Rattle.type_rules.specs.Applies.{Grows}
use Rattle.value_names.specs.declared.value.Value.{Value}
use Rattle.value_names.specs.Names.{Names}
use Rattle.value_names.specs.Scopes.{loop_value}
use Rattle.typing_laws.specs.Given.{Given}
use Rattle.typing_laws.specs.Judged.{IsDenoted, IsUsedIn}
use Rattle.breaking_laws.specs.Parts.{BrokenTargets}
use Rattle.type_table.specs.Tables.{IsTable}
use Rattle.type_rules.proofs.Lists.{cut}
use Rattle.typing_laws.specs.Turns.{IsInTurn, loop_names}
use Rattle.typing_laws.specs.Defining.{IsDeclaredAs, AreDeclaredAs, IsKept, AreKept, KeepsTurn}
use Rattle.typing_laws.proofs.Later.{denoted_later, grows_on}
use Rattle.breaking_laws.proofs.PDefs.{newest_append, newest_outside, loop_found, retyped_refused, one_target_refused, count_refused}

-- ---- declared types

pub declared_later : (g : Given) (old new : List Form) (o : Option Written) (n : ℕ) → Grows old new → IsDeclaredAs g old o n → IsDeclaredAs g new o n
declared_later g old new None n grows p = tt
declared_later g old new (Some w) n grows p = denoted_later g old new w n grows p

pub none_declared : (g : Given) (f : List Form) (xs : List Target) → AreDeclaredAs g f xs []
none_declared g f [] = tt
none_declared g f (x ∷ xs) = tt

-- ---- loop names

newest_last : (x : ℕ) (d : ℕ × Value) (v : Value) → newest x (d ∷ []) ≡ Some v → d.1 ≡ v
newest_last x d v e = by (nat_eq x d.0) e
  where
    by : (b : Bool) → (if b then Some d.1 else None) ≡ Some v → d.1 ≡ v
    by true e = same_Some d.1 v e
    by false e = absurd cc

-- the names of a loop have levels from its first on
pub loop_levels : (level : ℕ) (xs : List Named) (ns : List ℕ) (x : ℕ) (v : Value) → newest x (loop_names level xs ns) ≡ Some v → level ≤ v.level
loop_levels level [] ns x v e = absurd cc
loop_levels level (y ∷ xs) [] x v e = absurd cc
loop_levels level (y ∷ xs) (n ∷ ns) x v e = by (newest x (loop_names (level + 1) xs ns)) refl (λ h. let p = loop_levels (level + 1) xs ns x v h in omega (arith, p)) e
  where
    by : (o : Option Value) → newest x (loop_names (level + 1) xs ns) ≡ o → (newest x (loop_names (level + 1) xs ns) ≡ Some v → level ≤ v.level)
        → newest x (loop_names (level + 1) xs ns ++ ((y.name, record { level = level; ty = n }) ∷ [])) ≡ Some v → level ≤ v.level
    by None h inner e =
        let same = newest_last x (y.name, record { level = level; ty = n }) v (sym (newest_outside x (loop_names (level + 1) xs ns) ((y.name, record { level = level; ty = n }) ∷ []) h) ∙ e) in
        subst (λ u. level ≤ u.level) same (omega arith)
    by (Some u) h inner e = inner (h ∙ sym (newest_append x (loop_names (level + 1) xs ns) ((y.name, record { level = level; ty = n }) ∷ []) u h) ∙ e)

pub kept_found : (turn : Option ℕ) (first : ℕ) (names : Names) (x ty : ℕ) (v : Value) → turn ≡ Some first → loop_value first (newest x names.olds) ≡ Some v → ty ≡ v.ty → KeepsTurn turn names (x ∷ []) (ty ∷ [])
kept_found turn first names x ty v is found same = record {
  holds = λ n loop e turned.
      let here : loop_value n (newest x names.olds) ≡ Some v = ap (λ i. loop_value i (newest x names.olds)) (same_Some n first (sym e ∙ is)) ∙ found in
      (subst (IsKept ty) (sym (loop_found n x loop names v turned here)) same, tt);
}

pub kept_none : (turn : Option ℕ) (first : ℕ) (names : Names) (x ty : ℕ) → turn ≡ Some first → loop_value first (newest x names.olds) ≡ None → KeepsTurn turn names (x ∷ []) (ty ∷ [])
kept_none turn first names x ty is none = record {
  holds = λ n loop e turned. (by n loop turned (ap (λ i. loop_value i (newest x names.olds)) (same_Some n first (sym e ∙ is)) ∙ none) (newest x loop) refl, tt);
}
  where
    below : (n : ℕ) (v : Value) (b : Bool) → ltb v.level n ≡ b → n ≤ v.level → (if b then None else Some v) ≡ None → ⊥
    below n v true t le e = let lt = ltb-true v.level n t in omega (arith, lt, le)
    below n v false t le e = cc

    by : (n : ℕ) (loop : List (ℕ × Value)) → IsInTurn n loop names → loop_value n (newest x names.olds) ≡ None → (o : Option Value) → newest x loop ≡ o → IsKept ty o
    by n loop turned e None h = tt
    by n loop turned e (Some v) h =
        absurd (below n v (ltb v.level n) refl (loop_levels n turned.names turned.types x v (sym (ap (newest x) turned.is_loop) ∙ h))
        (sym (ap (loop_value n) (ap (newest x) turned.olds ∙ newest_append x loop turned.outer v h)) ∙ e))

pub keeps_both : (turn : Option ℕ) (names : Names) (x n : ℕ) (xs ns : List ℕ) → KeepsTurn turn names (x ∷ []) (n ∷ []) → KeepsTurn turn names xs ns → KeepsTurn turn names (x ∷ xs) (n ∷ ns)
keeps_both turn names x n xs ns p q = record { holds = λ first loop e turned. ((p.holds first loop e turned).0, q.holds first loop e turned) }

pub keeps_none : (turn : Option ℕ) (names : Names) (xs : List ℕ) → KeepsTurn turn names xs []
keeps_none turn names xs = record { holds = λ first loop e turned. none loop xs }
  where
    none : (loop : List (ℕ × Value)) (xs : List ℕ) → AreKept loop xs []
    none loop [] = tt
    none loop (x ∷ xs) = tt

-- ---- refusals

pub retyped_by : (g : Given) (f : List Form) (names : Names) (turn : Option ℕ) (first at : ℕ) (x : Target) (n : ℕ) (v : Value) (rule line : ℕ) → IsTable f → turn ≡ Some first
    → loop_value first (newest x.name.name names.olds) ≡ Some v → (rule ≡ 23) × (line ≡ at) × (v.ty ≡ n → ⊥) → BrokenTargets g f names turn at (x ∷ []) (n ∷ []) rule line
retyped_by g f names turn first at x n v rule line table is found q =
    subst (λ o. BrokenTargets g f names o at (x ∷ []) (n ∷ []) rule line) (sym is)
    (subst (λ r. BrokenTargets g f names (Some first) at (x ∷ []) (n ∷ []) r line) (sym q.0)
    (subst (λ l. BrokenTargets g f names (Some first) at (x ∷ []) (n ∷ []) 23 l) (sym q.1) (retyped_refused g f names first at x n v table found q.2)))

pub target_fails : (g : Given) (f0 f1 : List Form) (names now : Names) (turn : Option ℕ) (at : ℕ) (xs : List Target) (ns : List ℕ) (i : ℕ) (x : Target) (n rule line : ℕ) → IsUsedIn g f0 f1 → now ≡ names
    → slice_get xs i ≡ Some x → slice_get ns i ≡ Some n → BrokenTargets g f1 now turn at (x ∷ []) (n ∷ []) rule line → BrokenTargets g f0 names turn at xs ns rule line
target_fails g f0 f1 names now turn at xs ns i x n rule line used same here numbered p =
    one_target_refused g f0 f1 names turn at xs ns i x n rule line used here numbered (subst (λ m. BrokenTargets g f1 m turn at (x ∷ []) (n ∷ []) rule line) same p)

pub count_fails : (g : Given) (f : List Form) (names : Names) (turn : Option ℕ) (at from : ℕ) (xs : List Target) (ns : List ℕ) → IsTable f → at ≡ from → (length ns ≡ length xs → ⊥)
    → BrokenTargets g f names turn from xs ns 14 at
count_fails g f names turn at from xs ns table same differ = subst (λ l. BrokenTargets g f names turn from xs ns 14 l) (sym same) (count_refused g f names turn from xs ns table differ)

-- ---- one more target

-- the item at a place, and those behind it
pub cut_at : {A : Type 0} (xs : List A) (i : ℕ) (x : A) → slice_get xs i ≡ Some x → drop i xs ≡ x ∷ drop (i + 1) xs
cut_at xs i x here =
    let within : i < length xs = slice_get_within xs i x here in
    cut xs i x x within (same_Some x (get_or xs i x) (sym here ∙ slice_get-get_or xs i x within))

pub declared_on : (g : Given) (f1 f2 : List Form) (xs : List Target) (ns : List ℕ) (i : ℕ) (x : Target) (n : ℕ) → IsUsedIn g f1 f2 → slice_get xs i ≡ Some x → slice_get ns i ≡ Some n → IsDeclaredAs g f2 x.ty n
    → ((t : List Form) → Grows f1 t → AreDeclaredAs g t (drop i xs) (drop i ns) → AreDeclaredAs g t xs ns)
    → (t : List Form) → Grows f2 t → AreDeclaredAs g t (drop (i + 1) xs) (drop (i + 1) ns) → AreDeclaredAs g t xs ns
declared_on g f1 f2 xs ns i x n used here numbered p all t grows q =
    all t (grows_on f1 f2 t used.grows grows)
    (subst (λ l. AreDeclaredAs g t l (drop i ns)) (sym (cut_at xs i x here))
    (subst (λ l. AreDeclaredAs g t (x ∷ drop (i + 1) xs) l) (sym (cut_at ns i n numbered)) (declared_later g f2 t x.ty n grows p, q)))

pub kept_on : (turn : Option ℕ) (names now : Names) (xs : List Target) (ns : List ℕ) (i : ℕ) (x : Target) (n : ℕ) → now ≡ names → slice_get xs i ≡ Some x → slice_get ns i ≡ Some n
    → KeepsTurn turn now (x.name.name ∷ []) (n ∷ []) → (KeepsTurn turn names (names_in (drop i xs)) (drop i ns) → KeepsTurn turn names (names_in xs) ns)
    → KeepsTurn turn names (names_in (drop (i + 1) xs)) (drop (i + 1) ns) → KeepsTurn turn names (names_in xs) ns
kept_on turn names now xs ns i x n same here numbered p all q =
    all (subst (λ l. KeepsTurn turn names (names_in l) (drop i ns)) (sym (cut_at xs i x here))
    (subst (λ l. KeepsTurn turn names (names_in (x ∷ drop (i + 1) xs)) l) (sym (cut_at ns i n numbered))
    (keeps_both turn names x.name.name n (names_in (drop (i + 1) xs)) (drop (i + 1) ns) (subst (λ m. KeepsTurn turn m (x.name.name ∷ []) (n ∷ [])) same p) q)))

-- ---- no more targets, or values

pub declared_all : (g : Given) (f : List Form) (xs : List Target) (ns : List ℕ) (i : ℕ) → length xs ≤ i → AreDeclaredAs g f (drop i xs) (drop i ns)
declared_all g f xs ns i done = subst (λ l. AreDeclaredAs g f l (drop i ns)) (sym (drop_all i xs done)) tt

pub declared_out : (g : Given) (f : List Form) (xs : List Target) (ns : List ℕ) (i : ℕ) → length ns ≤ i → AreDeclaredAs g f (drop i xs) (drop i ns)
declared_out g f xs ns i done = subst (λ l. AreDeclaredAs g f (drop i xs) l) (sym (drop_all i ns done)) (none_declared g f (drop i xs))

pub kept_out : (turn : Option ℕ) (names : Names) (xs : List Target) (ns : List ℕ) (i : ℕ) → length ns ≤ i → KeepsTurn turn names (names_in (drop i xs)) (drop i ns)
kept_out turn names xs ns i done = subst (λ l. KeepsTurn turn names (names_in (drop i xs)) l) (sym (drop_all i ns done)) (keeps_none turn names (names_in (drop i xs)))
