-- Results of arms: those that are refused, and what the arms so far have.
use Rattle.std.proofs.Common.{◌≡◌, ⊎_elim, ℕ, List, [], ◌∷◌, ◌++◌, length, All, Option, Some, None, Ok, slice_get, refl, sym, ap, subst, ◌∙◌}
use Rattle.std.specs.Prelude.{Contains}
use Rattle.std.proofs.lemmas.List.{append_assoc, append-nil}
use Rattle.std.proofs.lemmas.List.Elements.{Contains-append_left, Contains-append_right}
use Rattle.std.proofs.lemmas.Option.{same_Some}
use Rattle.std.proofs.lemmas.Grind.{flat_map-append}
use Rattle.flow_value.specs.declared.ty.Ty.{Ty}
use Rattle.flow_value.specs.declared.ty.Ty.TheVariants as ty
use Rattle.type_table.specs.declared.form.Form.{Form}
use Rattle.type_table.specs.declared.form.Form.TheVariants as form
use Rattle.sisal_tree.specs.declared.unit.Written.{Written}
use Rattle.sisal_tree.specs.declared.expr.Arm.{Arm, out-Arm}
use Rattle.typed_tree.specs.declared.expr.TypedExpr.{TypedExpr}
use Rattle.typed_tree.specs.Scopes as scopes
use Rattle.typed_tree.specs.Types.{Member, IsNumber}
use Rattle.typed_tree.specs.Typing.{Known, IsTag, with_content, names_of}
use Rattle.typed_tree.specs.Breaks as breaks
use Rattle.typed_tree.specs.Breaks.{IsTwice, BreaksArm, HasResults}
use Rattle.type_rules.specs.Applies.{Grows}
use Rattle.type_rules.specs.Arms.{gives_arm}
use Rattle.type_rules.specs.Parts.{tag_part, tags_part}
use Rattle.value_names.specs.Names.{Names}
use Rattle.typing_laws.specs.Given.{Given, Arms}
use Rattle.typing_laws.specs.Judged.{Agrees, Stands, denotes_in, AllTyped}
use Rattle.typing_laws.specs.Casing.{tags_in, ArmsTyped, first_types, AreSame, EntersArm}
use Rattle.typing_laws.proofs.Later.{agrees_before}
use Rattle.typing_laws.proofs.Sound.{part_later}
use Rattle.typing_laws.proofs.Choosing.{union_at, all_contents}
use Rattle.typing_laws.proofs.Cased.{union_members, tag_content, tags_typed, rolled_arm, content_stands, many_tags}
use Rattle.breaking_laws.specs.Broken.{misnames_in}
use Rattle.breaking_laws.specs.Parts as parts
use Rattle.breaking_laws.specs.Parts.{BreaksArms, BreaksArmsAt, OneHas, TwoDiffer, ArmsHave, AddsResults, Differs}
use Rattle.breaking_laws.specs.PartLaws.{ArmResultsLaw, AfterArmsLaw, ArmResultLaw, NoResultsLaw, MoreResultsLaw}
use Rattle.breaking_laws.proofs.FPassing.{agrees_at}
use Rattle.breaking_laws.proofs.FTables.{contains_first}
use Rattle.breaking_laws.proofs.PReach.{reaches_so}
use Rattle.breaking_laws.proofs.PTwice.{contains_only, twice_more}
use Rattle.breaking_laws.proofs.PTags.{arm_tags}

-- ---- one arm

-- the content of an arm that was entered
record ArmContent (k : Known) (s : scopes.Scope) (ms : List Member) (x : Option ℕ) (a : Arm) (inner : Names) : Type 0 where
  content : Ty
  tags : All (λ tag. IsTag k ms tag content) (names_of (out-Arm a).tags)
  inside : Stands k inner (with_content x content s)

arm_content : (g : Given) (f : List Form) (names inner : Names) (union : ℕ) (others : List Arm) (a : Arm) (old mid : Arms) → ArmsTyped g f names union others old
    → EntersArm f (out-Arm a).line (out-Arm a).tags old mid names inner → (k : Known) (s : scopes.Scope) (ms : List Member) → Agrees g f k → Stands k names s → IsNumber k.forms k.spellings union (ty.Uni ms)
    → ArmContent k s ms old.name a inner
arm_content g f names inner union others a old mid p enters k s ms agrees stands number =
    let here : slice_get k.forms union ≡ Some (form.Union p.members) =
    union_at k.forms union p.members (part_later f k.forms agrees.grows tags_part union p.members p.is_union) in
    let members = union_members k union p.members ms here number in
    let c = all_contents f union (length (tags_in others)) (out-Arm a).line old.chosen (out-Arm a).tags enters.content mid.chosen given in
    let t = tag_content k union p.members ms here members c.1 (c.0, enters.content) (part_later f k.forms agrees.grows (tag_part c.1) union (c.0, enters.content) c.2) in
    record {
      content = t.0;
      tags = tags_typed k union p.members ms here members f agrees.grows enters.content t.0 t.2 (out-Arm a).tags c.3;
      inside = subst (λ n. Stands k n (with_content old.name t.0 s)) (sym enters.names) (content_stands k old.name enters.content t.0 names s stands t.2);
    }
  where
    given : gives_arm f union (length (tags_in others)) (out-Arm a).line None old.chosen (out-Arm a).tags ≡ Ok (Some enters.content, mid.chosen)
    given =
        ap (λ n. gives_arm f union n (out-Arm a).line None old.chosen (out-Arm a).tags) (many_tags others ∙ sym p.count)
        ∙ ap (λ u. gives_arm f u (length old.results) (out-Arm a).line None old.chosen (out-Arm a).tags) (sym p.chosen_union)
        ∙ enters.chosen

pub arm_results_refused : ArmResultsLaw
arm_results_refused g f names inner a old mid rule line enters p = record {
  table = p.table;
  used = p.used;
  is_table = p.is_table;
  holds = record {
    holds = λ union others typed k s ms whole stands number.
        let c = arm_content g f names inner union others a old mid typed enters k s ms (agrees_at g f p.table k p.used.grows whole) stands number in
        parts.BreaksArms.in_one a (contains_first a []) (subst (λ b. BreaksArm k (denotes_in g k) (misnames_in g k) s old.name ms b rule line) (rolled_arm a)
        (breaks.in_arm (out-Arm a).line rule line c.content (out-Arm a).tags (out-Arm a).results c.tags (p.holds.holds k (with_content old.name c.content s) whole c.inside)));
  };
}

-- ---- arms in order

later_arm : (k : Known) (denotes : Written → Ty → Type 0) (misnames : Written → ℕ → ℕ → Type 0) (s : scopes.Scope) (x : Option ℕ) (ms : List Member) (others done : List Arm) (a : Arm) (rest : List Arm) (rule line : ℕ)
    → BreaksArms k denotes misnames s x ms (others ++ done) (a ∷ []) rule line → BreaksArms k denotes misnames s x ms others (done ++ (a ∷ rest)) rule line
later_arm k denotes misnames s x ms others done a rest rule line (parts.BreaksArms.in_one b there p) =
    parts.BreaksArms.in_one b (subst (λ c. Contains (done ++ (a ∷ rest)) c) (contains_only a b there) (Contains-append_right done (a ∷ rest) a (contains_first a rest))) p
later_arm k denotes misnames s x ms others done a rest _ line (parts.BreaksArms.tag_twice p) =
    parts.BreaksArms.tag_twice (subst (λ l. IsTwice l line) whole (twice_more (arm_tags ((others ++ done) ++ (a ∷ []))) (arm_tags rest) line p))
  where
    whole : arm_tags ((others ++ done) ++ (a ∷ [])) ++ arm_tags rest ≡ arm_tags (others ++ (done ++ (a ∷ rest)))
    whole =
        sym (flat_map-append (λ arm. (out-Arm arm).tags) ((others ++ done) ++ (a ∷ [])) rest)
        ∙ ap arm_tags (append_assoc (others ++ done) (a ∷ []) rest ∙ append_assoc others done (a ∷ rest))

pub after_arms : AfterArmsLaw
after_arms g f0 f1 names done a rest old mid rule line used adds p =
    reaches_so g f0 f1 (BreaksArmsAt g f1 names (a ∷ []) mid rule line) (BreaksArmsAt g f0 names (done ++ (a ∷ rest)) old rule line) used p (λ table grows q. record {
      holds = λ union others typed k s ms whole stands number.
          let b = q.holds union (others ++ done) (adds.holds union others typed) k s ms whole stands number in
          later_arm k (denotes_in g k) (misnames_in g k) s old.name ms others done a rest rule line
          (subst (λ n. BreaksArms k (denotes_in g k) (misnames_in g k) s n ms (others ++ done) (a ∷ []) rule line) adds.name b);
    })

-- ---- results

one_among : (k : Known) (g : Given) (s : scopes.Scope) (x : Option ℕ) (ms : List Member) (arms more : List Arm) (ns : List ℕ) → OneHas k g s x ms arms ns → OneHas k g s x ms (arms ++ more) ns
one_among k g s x ms arms more ns p = record { arm = p.arm; tys = p.tys; contains = Contains-append_left arms more p.arm p.contains; number = p.number; results = p.results }

two_among : (k : Known) (g : Given) (s : scopes.Scope) (x : Option ℕ) (ms : List Member) (arms more : List Arm) → TwoDiffer k g s x ms arms → TwoDiffer k g s x ms (arms ++ more)
two_among k g s x ms arms more p = record { ns = p.ns; os = p.os; one = one_among k g s x ms arms more p.ns p.one; other = one_among k g s x ms arms more p.os p.other; differ = p.differ }

-- the arm that was added
arm_has : (g : Given) (f0 f1 : List Form) (names inner : Names) (union : ℕ) (others : List Arm) (a : Arm) (ts : List TypedExpr) (ns : List ℕ) (old mid : Arms) → Grows f0 f1 → ArmsTyped g f0 names union others old
    → EntersArm f0 (out-Arm a).line (out-Arm a).tags old mid names inner → AllTyped g f1 inner (out-Arm a).results ts ns → (k : Known) (s : scopes.Scope) (ms : List Member) → Agrees g f1 k → Stands k names s
    → IsNumber k.forms k.spellings union (ty.Uni ms) → OneHas k g s old.name ms (others ++ (a ∷ [])) ns
arm_has g f0 f1 names inner union others a ts ns old mid grows typed enters results k s ms agrees stands number =
    let c = arm_content g f0 names inner union others a old mid typed enters k s ms (agrees_before g f0 f1 k grows agrees) stands number in
    let r = results.holds k (with_content old.name c.content s) agrees c.inside in record {
      arm = a;
      tys = r.tys;
      contains = Contains-append_right others (a ∷ []) a (contains_first a []);
      number = r.number;
      results = subst (λ b. HasResults k (denotes_in g k) (misnames_in g k) s old.name ms b r.tys) (rolled_arm a) (breaks.results (out-Arm a).line c.content (out-Arm a).tags (out-Arm a).results c.tags r.typed);
    }

-- the types of the first arm's results
first_by : (P : List ℕ → Type 0) (old new : Option (List ℕ)) (ns : List ℕ) → new ≡ first_types old ns → P ns → ((ms : List ℕ) → old ≡ Some ms → P ms) → (ms : List ℕ) → new ≡ Some ms → P ms
first_by P None new ns e p before ms is = subst P (same_Some ns ms (sym e ∙ is)) p
first_by P (Some first) new ns e p before ms is = subst P (same_Some first ms (sym e ∙ is)) (before first refl)

-- two that differ, where one differs from the first
two_by : (k : Known) (g : Given) (s : scopes.Scope) (x : Option ℕ) (ms : List Member) (arms : List Arm) (old : Option (List ℕ)) (ns : List ℕ) → (AreSame old ns → ⊥) → OneHas k g s x ms arms ns
    → ((os : List ℕ) → old ≡ Some os → OneHas k g s x ms arms os) → TwoDiffer k g s x ms arms
two_by k g s x ms arms None ns differ p before = absurd (differ tt)
two_by k g s x ms arms (Some first) ns differ p before = record { ns = first; os = ns; one = before first refl; other = p; differ = differ }

pub arm_result_added : ArmResultLaw
arm_result_added g f0 f1 names inner a ts ns old mid new grows enters results keeps differs = record {
  holds = λ union others typed have.
      let arms : List Arm = others ++ (a ∷ []) in
      let name : new.name ≡ old.name = keeps.name ∙ enters.name in
      let types : new.types ≡ first_types old.types ns = keeps.types ∙ ap (λ o. first_types o ns) enters.types in record {
        first = λ os e k s ms agrees stands number.
            subst (λ n. OneHas k g s n ms arms os) (sym name)
            (first_by (λ l. OneHas k g s old.name ms arms l) old.types new.types ns types
            (arm_has g f0 f1 names inner union others a ts ns old mid grows typed enters results k s ms agrees stands number)
            (λ l is. one_among k g s old.name ms others (a ∷ []) l (have.first l is k s ms (agrees_before g f0 f1 k grows agrees) stands number)) os e);
        uneven = λ e k s ms agrees stands number.
            let before = agrees_before g f0 f1 k grows agrees in
            subst (λ n. TwoDiffer k g s n ms arms) (sym name)
            (⊎_elim (λ odd. two_among k g s old.name ms others (a ∷ []) (have.uneven (sym enters.even ∙ odd) k s ms before stands number))
            (λ other. two_by k g s old.name ms arms old.types ns (λ same. other (subst (λ o. AreSame o ns) (sym enters.types) same))
            (arm_has g f0 f1 names inner union others a ts ns old mid grows typed enters results k s ms agrees stands number)
            (λ l is. one_among k g s old.name ms others (a ∷ []) l (have.first l is k s ms before stands number)))
            (differs.uneven e));
      };
}

pub no_results : NoResultsLaw
no_results g f names done = record { holds = λ union others typed have. subst (λ l. ArmsHave g f names union l done) (sym (append-nil others)) have }

pub more_results : MoreResultsLaw
more_results g f0 f1 f2 names arms more old mid new adds p q = record {
  holds = λ union others typed have.
      subst (λ l. ArmsHave g f2 names union l new) (append_assoc others arms more) (q.holds union (others ++ arms) (adds.holds union others typed) (p.holds union others typed have));
}
