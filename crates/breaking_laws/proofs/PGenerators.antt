-- Generators, groups of them and loops over groups that are refused.
use Rattle.std.proofs.Common.{◌≡◌, ◌⊎◌, inl, inr, ℕ, Bool, true, false, nat_eq, List, [], ◌∷◌, ◌++◌, length, Option, Some, None, refl, sym, ap, subst, ◌∙◌, rules}
use Rattle.std.specs.Option.{is_some}
use Rattle.std.proofs.lemmas.Bool.{eqb-true}
use Rattle.std.proofs.lemmas.List.{append-nil}
use Rattle.flow_value.specs.declared.ty.Ty.{Ty}
use Rattle.flow_value.specs.declared.ty.Ty.TheVariants as ty
use Rattle.type_table.specs.declared.form.Form.{Form}
use Rattle.type_table.specs.Tables.{IsTable}
use Rattle.sisal_tree.specs.declared.unit.Named.{Named}
use Rattle.sisal_tree.specs.declared.unit.Written.{Written}
use Rattle.sisal_tree.specs.declared.expr.Clause.{Clause}
use Rattle.sisal_tree.specs.declared.expr.Def.{Def}
use Rattle.sisal_tree.specs.declared.expr.Expr.{Expr}
use Rattle.sisal_tree.specs.declared.expr.ExprKind.TheVariants as tree
use Rattle.sisal_tree.specs.declared.expr.ExprKind.TheViews as kinds
use Rattle.sisal_tree.specs.declared.expr.Generator.{Generator, out-Generator, roll-Generator}
use Rattle.sisal_tree.specs.declared.expr.Loop.TheVariants as loop
use Rattle.typed_tree.specs.declared.expr.TypedExpr.{TypedExpr}
use Rattle.typed_tree.specs.Scopes as scopes
use Rattle.typed_tree.specs.Types.{IsNumber, AreNumbers}
use Rattle.typed_tree.specs.Typing.{Known, Defines, at, names_of}
use Rattle.typed_tree.specs.Breaks.{Breaks, IsTwice, NoSequence, generators_in, BreaksGenerator, in_from, in_to, bounds, at_range, no_sequence, BreaksGroups, after_group, in_body, in_clauses, in_groups}
use Rattle.typed_tree.specs.Breaks as breaks
use Rattle.type_rules.specs.Parts.{sequence_at}
use Rattle.type_rules.proofs.Telling.{integer_tells, sequence_tells}
use Rattle.value_names.specs.Names.{Names}
use Rattle.value_names.specs.Scopes.{define_all}
use Rattle.typing_laws.specs.Given.{Given, Group}
use Rattle.typing_laws.specs.Judged.{Agrees, Stands, denotes_in, AreOnes, no_one, a_one}
use Rattle.typing_laws.specs.Looping.{up_to, GroupsTyped, no_group, a_group}
use Rattle.typing_laws.proofs.Later.{used_on}
use Rattle.typing_laws.proofs.Entering.{stands_with_all}
use Rattle.typing_laws.proofs.Generated.{groups_later}
use Rattle.breaking_laws.specs.Broken.{misnames_in, BreaksAt, BreaksOneAt}
use Rattle.breaking_laws.specs.Parts as parts
use Rattle.breaking_laws.specs.Parts.{BreaksDefsAt, IsNoSource, no_elements, no_range, BreaksGeneratorAt, BreaksGroup, BreaksGroupAt, BreaksGroupsAt, BreaksClauses, BreaksClausesAt}
use Rattle.breaking_laws.specs.PartLaws.{FromLaw, ToLaw, NoSourceLaw, OneGeneratorLaw, GroupTwiceLaw, AfterGroupsLaw, ProductGroupsLaw, ProductDefsLaw, ProductClausesLaw}
use Rattle.breaking_laws.proofs.FPassing.{reach_later, reach_here, agrees_at}
use Rattle.breaking_laws.proofs.PReach.{reaches_so}
use Rattle.breaking_laws.proofs.PTwice.{twice_more}
use Rattle.breaking_laws.proofs.PDefs.{outside}

-- ---- one generator

rolled_generator : (d : Generator) → roll-Generator (record { name = (out-Generator d).name; from = (out-Generator d).from; to = (out-Generator d).to; at = (out-Generator d).at }) ≡ d
rolled_generator d = search (rules, kinds.the_lemmas)

pub from_refused : FromLaw
from_refused g f names one rule line p = record {
  table = p.table;
  used = p.used;
  is_table = p.is_table;
  holds = record {
    holds = λ k s whole stands. subst (λ d. BreaksGenerator k (denotes_in g k) (misnames_in g k) s d rule line) (rolled_generator one)
        (in_from (out-Generator one).name (out-Generator one).from (out-Generator one).to (out-Generator one).at (p.holds.holds k s whole stands));
  };
}

pub to_refused : ToLaw
to_refused g f0 f1 names one e rule line used some p =
    reaches_so g f0 f1 (BreaksOneAt g names e rule line) (BreaksGeneratorAt g names one rule line) used p (λ table grows q. record {
      holds = λ k s whole stands. subst (λ d. BreaksGenerator k (denotes_in g k) (misnames_in g k) s d rule line) (rolled_generator one)
          (subst (λ o. BreaksGenerator k (denotes_in g k) (misnames_in g k) s (roll-Generator (record { name = (out-Generator one).name; from = (out-Generator one).from; to = o; at = (out-Generator one).at })) rule line)
          (sym some) (in_to (out-Generator one).name (out-Generator one).from e (out-Generator one).at (q.holds k s whole stands)));
    })

module _ (k : Known) (denotes : Written → Ty → Type 0) (misnames : Written → ℕ → ℕ → Type 0) (s : scopes.Scope) (table : IsTable k.forms) where
  nothing_there : (n m : ℕ) (a : Ty) → IsNumber k.forms k.spellings n a → n ∷ [] ≡ m ∷ [] → sequence_at k.forms m ≡ None → NoSequence a
  nothing_there n m a p same none element q = clash (sequence_at k.forms n) ((sequence_tells k.forms k.spellings table n a p).back (element, q)) (ap (sequence_at k.forms) (first same) ∙ none)
    where
      first : n ∷ [] ≡ m ∷ [] → n ≡ m
      first e = cc

      clash : (o : Option ℕ) → is_some o ≡ true → o ≡ None → ⊥
      clash None e f = absurd cc
      clash (Some i) e f = cc

  over_nothing : (x : Named) (e : Expr) (to : Option Expr) (index : Option ℕ) (ts : List TypedExpr) (ns : List ℕ) (tys : List Ty) → AreOnes k denotes s (e ∷ up_to to) ts tys → AreNumbers k.forms k.spellings ns tys
      → IsNoSource k.forms ns (is_some index) → BreaksGenerator k denotes misnames s (roll-Generator (record { name = x; from = e; to = to; at = index })) 22 x.line
  over_nothing x e None index _ [] _ (a_one p no_one) q source = absurd q
  over_nothing x e None index _ (n ∷ m ∷ ns) _ (a_one p no_one) q source = absurd q.1
  over_nothing x e None index _ (n ∷ []) _ (a_one {a = a} p no_one) q (no_elements m same none) = no_sequence x e index p (nothing_there n m a q.0 same none)
  over_nothing x e None index _ (n ∷ []) _ (a_one p no_one) q (no_range single both) = absurd (single n refl)
  over_nothing x e (Some f) (Some i) _ ns _ (a_one p (a_one r no_one)) q source = at_range i x e f
  over_nothing x e (Some f) None _ [] _ (a_one p (a_one r no_one)) q source = absurd q
  over_nothing x e (Some f) None _ (n ∷ []) _ (a_one p (a_one r no_one)) q source = absurd q.1
  over_nothing x e (Some f) None _ (n ∷ m ∷ o ∷ ns) _ (a_one p (a_one r no_one)) q source = absurd q.1.1
  over_nothing x e (Some f) None _ (n ∷ m ∷ []) _ (a_one p (a_one r no_one)) q (no_elements i same none) = absurd cc
  over_nothing x e (Some f) None _ (n ∷ m ∷ []) _ (a_one {a = a} p (a_one {a = b} r no_one)) q (no_range single both) =
      bounds x e f None p r (other (nat_eq n 2) (nat_eq m 2) refl refl)
    where
      clash : (c : Bool) → c ≡ true → c ≡ false → ⊥
      clash true g h = cc
      clash false g h = cc

      other : (c d : Bool) → nat_eq n 2 ≡ c → nat_eq m 2 ≡ d → (a ≡ ty.Int → ⊥) ⊎ (b ≡ ty.Int → ⊥)
      other true true g h = absurd (both (ap (λ i. i ∷ m ∷ []) (eqb-true n 2 g) ∙ ap (λ i. 2 ∷ i ∷ []) (eqb-true m 2 h)) refl)
      other false d g h = inl (λ t. clash (nat_eq n 2) ((integer_tells k.forms k.spellings table n a q.0).back t) g)
      other true false g h = inr (λ t. clash (nat_eq m 2) ((integer_tells k.forms k.spellings table m b q.1.0).back t) h)

pub source_refused : NoSourceLaw
source_refused g f0 f1 names one ts ns rule line used table ones p =
    reach_later g f0 f1 (BreaksGeneratorAt g names one rule line) used (reach_here g f1 (BreaksGeneratorAt g names one rule line) table (record {
      holds = λ k s whole stands.
          let x = ones.holds k s whole.agrees stands in
          let source : IsNoSource k.forms ns (is_some (out-Generator one).at) = subst (λ l. IsNoSource l ns (is_some (out-Generator one).at)) (sym whole.same) p.no_source in
          subst (λ r. BreaksGenerator k (denotes_in g k) (misnames_in g k) s one r line) (sym p.is_rule)
          (subst (λ i. BreaksGenerator k (denotes_in g k) (misnames_in g k) s one 22 i) (sym p.is_line)
          (subst (λ d. BreaksGenerator k (denotes_in g k) (misnames_in g k) s d 22 (out-Generator one).name.line) (rolled_generator one)
          (over_nothing k (denotes_in g k) (misnames_in g k) s whole.agrees.table (out-Generator one).name (out-Generator one).from (out-Generator one).to (out-Generator one).at ts ns x.tys x.typed x.number.each source)));
    }))

-- ---- groups

pub one_generator_refused : OneGeneratorLaw
one_generator_refused g f0 f1 names gs one rule line used there p =
    reaches_so g f0 f1 (BreaksGeneratorAt g names one rule line) (BreaksGroupAt g names gs rule line) used p (λ table grows q. record {
      holds = λ k s whole stands. parts.BreaksGroup.in_one one there (q.holds k s whole stands);
    })

pub group_twice : GroupTwiceLaw
group_twice g f0 f1 names gs ns more rule line used table same p =
    reach_later g f0 f1 (BreaksGroupAt g names gs rule line) used (reach_here g f1 (BreaksGroupAt g names gs rule line) table (record {
      holds = λ k s whole stands.
          subst (λ r. BreaksGroup k (denotes_in g k) (misnames_in g k) s gs r line) (sym p.is_rule)
          (parts.BreaksGroup.named_twice (subst (λ l. IsTwice l line) (sym same) (twice_more ns more line p.twice)));
    }))

-- groups that are typed are passed
record Passes (k : Known) (denotes : Written → Ty → Type 0) (misnames : Written → ℕ → ℕ → Type 0) (s : scopes.Scope) (gs : List (List Generator)) (now : Names) : Type 0 where
  inside : scopes.Scope
  stands : Stands k now inside
  passes : (groups from : ℕ) (rest : List (List Generator)) (ds : List Def) (cs : List Clause) (rule line : ℕ) → BreaksGroups k denotes misnames groups from inside rest ds cs rule line
      → BreaksGroups k denotes misnames groups from s (gs ++ rest) ds cs rule line

groups_pass : (g : Given) (f : List Form) (k : Known) (s : scopes.Scope) (names now : Names) (gs : List (List Generator)) (ms : List Group) → Agrees g f k → Stands k names s → GroupsTyped g f names gs ms now
    → Passes k (denotes_in g k) (misnames_in g k) s gs now
groups_pass g f k s names _ _ _ agrees stands no_group = record { inside = s; stands = stands; passes = λ groups from rest ds cs rule line p. p }
groups_pass g f k s names now _ _ agrees stands (a_group {gs = one} {m = m} {groups = gs} {ms = ms} p r) =
    let x = p.generated.holds k s agrees stands in
    let next : scopes.Scope = scopes.define_all (names_of m.names) x.tys s in
    let q = groups_pass g f k next (define_all m.names m.types names) now gs ms agrees (stands_with_all k m.names m.types x.tys names s stands x.number.each) r in record {
      inside = q.inside;
      stands = q.stands;
      passes = λ groups from rest ds cs rule line b. after_group x.typed p.distinct (q.passes groups from rest ds cs rule line b);
    }

group_breaks : (k : Known) (denotes : Written → Ty → Type 0) (misnames : Written → ℕ → ℕ → Type 0) (groups from : ℕ) (s : scopes.Scope) (one : List Generator) (rest : List (List Generator)) (ds : List Def) (cs : List Clause) (rule line : ℕ)
    → BreaksGroup k denotes misnames s one rule line → BreaksGroups k denotes misnames groups from s (one ∷ rest) ds cs rule line
group_breaks k denotes misnames groups from s one rest ds cs rule line (parts.BreaksGroup.in_one x there b) = breaks.BreaksGroups.here there b
group_breaks k denotes misnames groups from s one rest ds cs _ line (parts.BreaksGroup.named_twice p) = breaks.BreaksGroups.named_twice p

pub after_groups : AfterGroupsLaw
after_groups g f0 f1 names now done ms one rest rule line used typed p =
    reaches_so g f0 f1 (BreaksGroupAt g now one rule line) (BreaksGroupsAt g names (done ++ (one ∷ rest)) rule line) used p (λ table grows q. record {
      holds = λ k s whole stands groups from ds cs.
          let x = groups_pass g f1 k s names now done ms (agrees_at g f1 table k grows whole) stands typed in
          x.passes groups from (one ∷ rest) ds cs rule line (group_breaks k (denotes_in g k) (misnames_in g k) groups from x.inside one rest ds cs rule line (q.holds k x.inside whole x.stands));
    })

-- ---- loops over groups

pub product_groups_refused : ProductGroupsLaw
product_groups_refused g f names l gs ds cs rule line p = record {
  table = p.table;
  used = p.used;
  is_table = p.is_table;
  holds = record { holds = λ k s whole stands. in_groups (p.holds.holds k s whole stands (length gs) l ds cs) };
}

-- what breaks inside of all groups
inside_all : (k : Known) (denotes : Written → Ty → Type 0) (misnames : Written → ℕ → ℕ → Type 0) (s : scopes.Scope) (l : ℕ) (gs : List (List Generator)) (now : Names) (ds : List Def) (cs : List Clause) (rule line : ℕ)
    → (x : Passes k denotes misnames s gs now) → BreaksGroups k denotes misnames (length gs) l x.inside [] ds cs rule line → Breaks k denotes misnames s (at l (tree.For (loop.Product gs ds cs))) rule line
inside_all k denotes misnames s l gs now ds cs rule line x p =
    in_groups (subst (λ hs. BreaksGroups k denotes misnames (length gs) l s hs ds cs rule line) (append-nil gs) (x.passes (length gs) l [] ds cs rule line p))

pub product_defs_refused : ProductDefsLaw
product_defs_refused g f0 f1 names now l gs ms ds cs rule line used typed p =
    reaches_so g f0 f1 (BreaksDefsAt g now None ds rule line) (BreaksAt g names (at l (tree.For (loop.Product gs ds cs))) rule line) used p (λ table grows q. record {
      holds = λ k s whole stands.
          let x = groups_pass g f1 k s names now gs ms (agrees_at g f1 table k grows whole) stands typed in
          inside_all k (denotes_in g k) (misnames_in g k) s l gs now ds cs rule line x (in_body (outside k (denotes_in g k) (misnames_in g k) x.inside ds rule line (q.holds k x.inside whole x.stands)));
    })

clauses_inside : (k : Known) (denotes : Written → Ty → Type 0) (misnames : Written → ℕ → ℕ → Type 0) (groups from : ℕ) (s inside : scopes.Scope) (ds : List Def) (us : List (List TypedExpr)) (made : List Ty) (cs : List Clause) (rule line : ℕ)
    → Defines k denotes s ds us made inside → BreaksClauses k denotes misnames inside groups from cs rule line → BreaksGroups k denotes misnames groups from s [] ds cs rule line
clauses_inside k denotes misnames groups from s inside ds us made cs rule line defines (parts.one_of c there b) = in_clauses cs defines there b

pub product_clauses_refused : ProductClausesLaw
product_clauses_refused g f0 f1 f2 names now after l gs ms ds us ns cs rule line first second typed defined p =
    reaches_so g f0 f2 (BreaksClausesAt g after (length gs) l cs rule line) (BreaksAt g names (at l (tree.For (loop.Product gs ds cs))) rule line) (used_on g f0 f1 f2 first second) p (λ table grows q. record {
      holds = λ k s whole stands.
          let agrees = agrees_at g f2 table k grows whole in
          let x = groups_pass g f2 k s names now gs ms agrees stands (groups_later g f1 f2 names now gs ms second.grows typed) in
          let d = defined.holds k x.inside agrees x.stands in
          inside_all k (denotes_in g k) (misnames_in g k) s l gs now ds cs rule line x
          (clauses_inside k (denotes_in g k) (misnames_in g k) (length gs) l x.inside d.inside ds us d.made cs rule line d.defines (q.holds k d.inside whole d.stands));
    })
