-- `tagcase` that is refused.
use Rattle.std.proofs.Common.{◌≡◌, ⊎_elim, ℕ, suc, Bool, true, false, not, if◌then◌else◌, List, [], ◌∷◌, flat_map, Option, Some, None, slice_get, refl, sym, ap, subst, ◌∙◌}
use Rattle.std.specs.Prelude.{Contains}
use Rattle.std.proofs.lemmas.List.Elements.{All-contains}
use Rattle.flow_value.specs.declared.ty.Ty.{Ty}
use Rattle.flow_value.specs.declared.ty.Ty.TheVariants as ty
use Rattle.type_table.specs.declared.form.Form.{Form}
use Rattle.type_table.specs.declared.form.Form.TheVariants as form
use Rattle.type_table.specs.declared.form.Member.{Member as NumberedMember}
use Rattle.type_table.specs.Tables.{IsTable}
use Rattle.type_table.proofs.Members.{is_named}
use Rattle.sisal_tree.specs.declared.unit.Written.{Written}
use Rattle.sisal_tree.specs.declared.expr.Arm.{Arm}
use Rattle.sisal_tree.specs.declared.expr.ExprKind.TheVariants as tree
use Rattle.sisal_tree.specs.declared.expr.TagCase.{TagCase, out-TagCase, roll-TagCase}
use Rattle.typed_tree.specs.declared.expr.TypedExpr.{TypedExpr}
use Rattle.typed_tree.specs.Scopes as scopes
use Rattle.typed_tree.specs.Types.{Member, IsNumber, AreNumbers, AreMembers}
use Rattle.typed_tree.specs.Typing.{Known, Number, Types, AreAllNamed, at}
use Rattle.typed_tree.specs.Breaks as breaks
use Rattle.typed_tree.specs.Breaks.{Breaks, NoUnion, in_subject, case_no_union, in_arms, tag_twice, arms_differ, otherwise_differs, in_otherwise}
use Rattle.type_rules.specs.Arms.{is_free, has_arm, have_arms, have_arms_if, are_all_named}
use Rattle.type_rules.specs.Parts.{part_if, tag_part, tags_part, tag_at, tags_at}
use Rattle.type_rules.specs.Typed.{AreSpelledOnce}
use Rattle.type_rules.proofs.Standing.{at_union, one_number}
use Rattle.type_rules.proofs.Membership.{member_stands}
use Rattle.value_names.specs.Names.{Names}
use Rattle.typing_laws.specs.Given.{Given, Parts, Arms}
use Rattle.typing_laws.specs.Judged.{Agrees, Stands, denotes_in, AllOnes}
use Rattle.typing_laws.specs.Casing.{tags_in, Begins, AreSame, ArmsTyped}
use Rattle.typing_laws.proofs.Later.{used_on, agrees_before}
use Rattle.typing_laws.proofs.Called.{one_of}
use Rattle.typing_laws.proofs.Sound.{part_later}
use Rattle.typing_laws.proofs.Choosing.{union_at}
use Rattle.typing_laws.proofs.Cased.{arms_begin, union_members, union_type, rolled_case, named_arm}
use Rattle.breaking_laws.specs.Broken.{misnames_in, BreaksAt, BreaksInAt}
use Rattle.breaking_laws.specs.Parts as parts
use Rattle.breaking_laws.specs.Parts.{BreaksArms, BreaksArmsAt, OneHas, TwoDiffer, ArmsHave, AddsResults, Differs}
use Rattle.breaking_laws.specs.PartLaws.{CaseSubjectLaw, CaseNoUnionLaw, CaseArmsLaw, CaseOtherwiseLaw, CaseNoArmLaw, CaseDifferLaw, CaseOtherwiseDiffersLaw}
use Rattle.breaking_laws.proofs.FPassing.{reach_later, reach_here, agrees_at}
use Rattle.breaking_laws.proofs.PReach.{reaches_so}
use Rattle.breaking_laws.proofs.PTwice.{contains_at}

-- the parts of a `tagcase`, rolled
abbrev rolled : TagCase → TagCase
rolled c = roll-TagCase (record { name = (out-TagCase c).name; subject = (out-TagCase c).subject; arms = (out-TagCase c).arms; otherwise = (out-TagCase c).otherwise })

whole_case : (k : Known) (denotes : Written → Ty → Type 0) (misnames : Written → ℕ → ℕ → Type 0) (s : scopes.Scope) (l : ℕ) (c : TagCase) (rule line : ℕ) → Breaks k denotes misnames s (at l (tree.TagCase (rolled c))) rule line
    → Breaks k denotes misnames s (at l (tree.TagCase c)) rule line
whole_case k denotes misnames s l c rule line p = subst (λ d. Breaks k denotes misnames s (at l (tree.TagCase d)) rule line) (rolled_case c) p

pub case_subject_refused : CaseSubjectLaw
case_subject_refused g f names l c rule line p = record {
  table = p.table;
  used = p.used;
  is_table = p.is_table;
  holds = record {
    holds = λ k s whole stands. whole_case k (denotes_in g k) (misnames_in g k) s l c rule line
        (in_subject (out-TagCase c).name (out-TagCase c).subject (out-TagCase c).arms (out-TagCase c).otherwise (p.holds.holds k s whole stands));
  };
}

none_is_some : {A : Type 0} (x : A) (o : Option A) → o ≡ None → o ≡ Some x → ⊥
none_is_some x None e f = cc
none_is_some x (Some y) e f = cc

pub case_no_union_refused : CaseNoUnionLaw
case_no_union_refused g f0 f1 names l c subject rule line used table ones p =
    reach_later g f0 f1 (BreaksAt g names (at l (tree.TagCase c)) rule line) used (reach_here g f1 (BreaksAt g names (at l (tree.TagCase c)) rule line) table (record {
      holds = λ k s whole stands.
          let x = ones.holds k s whole.agrees stands in
          let o = one_of k (denotes_in g k) s (out-TagCase c).subject subject.exprs x.tys x.typed in
          let number : Number k (p.number ∷ []) (o.1 ∷ []) = subst (λ n. Number k n (o.1 ∷ [])) p.is_subject (subst (λ t. Number k subject.types t) o.3 x.number) in
          let none : tags_at k.forms p.number ≡ None = ap (λ f. tags_at f p.number) whole.same ∙ p.none in
          let never : NoUnion o.1 = λ ms e.
          let u = at_union k.forms k.spellings p.number ms (subst (IsNumber k.forms k.spellings p.number) e number.each.0) in none_is_some u.0 (tags_at k.forms p.number) none (ap (part_if tags_part) u.1) in
          subst (λ r. Breaks k (denotes_in g k) (misnames_in g k) s (at l (tree.TagCase c)) r line) (sym p.is_rule)
          (subst (λ i. Breaks k (denotes_in g k) (misnames_in g k) s (at l (tree.TagCase c)) 18 i) (sym p.is_line)
          (whole_case k (denotes_in g k) (misnames_in g k) s l c 18 l (case_no_union (out-TagCase c).name (out-TagCase c).subject (out-TagCase c).arms (out-TagCase c).otherwise o.4 never)));
    }))

-- ---- the union

-- the subject is of a union of these tags
record HasUnion (k : Known) (g : Given) (s : scopes.Scope) (c : TagCase) (union : ℕ) : Type 0 where
  tags : List Member
  tree : TypedExpr
  typed : Types k (denotes_in g k) s (out-TagCase c).subject tree (ty.Uni tags ∷ [])
  number : IsNumber k.forms k.spellings union (ty.Uni tags)

union_of : (g : Given) (f : List Form) (names : Names) (c : TagCase) (subject : Parts) (begun : Arms) → AllOnes g f names ((out-TagCase c).subject ∷ []) subject.exprs subject.types
    → (b : Begins f (out-TagCase c).name subject begun) → (k : Known) (s : scopes.Scope) → Agrees g f k → Stands k names s → HasUnion k g s c b.union
union_of g f names c subject begun ones b k s agrees stands =
    let x = ones.holds k s agrees stands in
    let o = one_of k (denotes_in g k) s (out-TagCase c).subject subject.exprs x.tys x.typed in
    let number : Number k (b.union ∷ []) (o.1 ∷ []) = subst (λ n. Number k n (o.1 ∷ [])) b.is_subject (subst (λ t. Number k subject.types t) o.3 x.number) in
    let here : slice_get k.forms b.union ≡ Some (form.Union b.members) = union_at k.forms b.union b.members (part_later f k.forms agrees.grows tags_part b.union b.members b.is_union) in
    let m = union_type k b.union o.1 b.members number.each.0 here in
    record {
      tags = m.0;
      tree = o.0;
      typed = subst (λ a. Types k (denotes_in g k) s (out-TagCase c).subject o.0 (a ∷ [])) m.1 o.4;
      number = subst (λ a. IsNumber k.forms k.spellings b.union a) m.1 number.each.0;
    }

-- ---- arms

arms_break : (k : Known) (g : Given) (s : scopes.Scope) (l : ℕ) (c : TagCase) (union rule line : ℕ) → (u : HasUnion k g s c union)
    → BreaksArms k (denotes_in g k) (misnames_in g k) s (out-TagCase c).name u.tags [] (out-TagCase c).arms rule line → Breaks k (denotes_in g k) (misnames_in g k) s (at l (tree.TagCase c)) rule line
arms_break k g s l c union rule line u (parts.BreaksArms.in_one arm there b) =
    whole_case k (denotes_in g k) (misnames_in g k) s l c rule line (in_arms u.tags (out-TagCase c).name (out-TagCase c).subject (out-TagCase c).arms (out-TagCase c).otherwise u.typed there b)
arms_break k g s l c union _ line u (parts.BreaksArms.tag_twice p) =
    whole_case k (denotes_in g k) (misnames_in g k) s l c 18 line (tag_twice u.tags (out-TagCase c).name (out-TagCase c).subject (out-TagCase c).arms (out-TagCase c).otherwise u.typed p)

pub case_arms_refused : CaseArmsLaw
case_arms_refused g f0 f1 names l c subject begun rule line used ones begins p =
    reaches_so g f0 f1 (BreaksArmsAt g f1 names (out-TagCase c).arms begun rule line) (BreaksAt g names (at l (tree.TagCase c)) rule line) used p (λ table grows q. record {
      holds = λ k s whole stands.
          let u = union_of g f1 names c subject begun ones begins k s (agrees_at g f1 table k grows whole) stands in
          let b = q.holds begins.union [] (arms_begin g f1 names (out-TagCase c).name subject begun begins) k s u.tags whole stands u.number in
          arms_break k g s l c begins.union rule line u (subst (λ n. BreaksArms k (denotes_in g k) (misnames_in g k) s n u.tags [] (out-TagCase c).arms rule line) begins.name b);
    })

pub case_otherwise_refused : CaseOtherwiseLaw
case_otherwise_refused g f0 f1 names l c es rule line used some p =
    reaches_so g f0 f1 (BreaksInAt g names es rule line) (BreaksAt g names (at l (tree.TagCase c)) rule line) used p (λ table grows q. record {
      holds = λ k s whole stands. whole_case k (denotes_in g k) (misnames_in g k) s l c rule line
          (subst (λ o. Breaks k (denotes_in g k) (misnames_in g k) s (at l (tree.TagCase (roll-TagCase (record { name = (out-TagCase c).name; subject = (out-TagCase c).subject; arms = (out-TagCase c).arms; otherwise = o })))) rule line)
          (sym some) (in_otherwise (out-TagCase c).name (out-TagCase c).subject (out-TagCase c).arms es (q.holds k s whole stands)));
    })

-- ---- a tag without an arm

-- one of some tags that has none
free_tag : (forms : List Form) (union : ℕ) (chosen : List (ℕ × ℕ)) (tags : List NumberedMember) → have_arms forms union chosen tags ≡ false
    → (j : ℕ) × (m : NumberedMember) × (slice_get tags j ≡ Some m) × (has_arm chosen (tag_at forms union m.name) ≡ false)
free_tag forms union chosen [] e = absurd cc
free_tag forms union chosen (m ∷ tags) e = by (has_arm chosen (tag_at forms union m.name)) refl (free_tag forms union chosen tags) e
  where
    by : (b : Bool) → has_arm chosen (tag_at forms union m.name) ≡ b
        → (have_arms forms union chosen tags ≡ false → (j : ℕ) × (o : NumberedMember) × (slice_get tags j ≡ Some o) × (has_arm chosen (tag_at forms union o.name) ≡ false))
        → (if b then have_arms forms union chosen tags else false) ≡ false
        → (j : ℕ) × (o : NumberedMember) × (slice_get (m ∷ tags) j ≡ Some o) × (has_arm chosen (tag_at forms union o.name) ≡ false)
    by true h later e = let r = later e in (suc r.0, r.1, r.2, r.3)
    by false h later e = (0, m, refl, h)

not_all_named : (g : Given) (f : List Form) (names : Names) (union : ℕ) (arms : List Arm) (done : Arms) → ArmsTyped g f names union arms done → are_all_named f done.union done.chosen ≡ false
    → (k : Known) (ms : List Member) → Agrees g f k → IsNumber k.forms k.spellings union (ty.Uni ms) → AreAllNamed k (tags_in arms) ms None → ⊥
not_all_named g f names union arms done p e k ms agrees number all =
    let is : slice_get f done.union ≡ Some (form.Union p.members) = ap (slice_get f) p.chosen_union ∙ union_at f union p.members p.is_union in
    let here : slice_get k.forms union ≡ Some (form.Union p.members) = union_at k.forms union p.members (part_later f k.forms agrees.grows tags_part union p.members p.is_union) in
    let members : AreMembers k.forms k.spellings p.members ms = union_members k union p.members ms here number in
    let j = free_tag f done.union done.chosen p.members (sym (ap (λ o. have_arms_if f done.union done.chosen (part_if tags_part o)) is) ∙ e) in
    let m : NumberedMember = j.1 in
    let t = member_stands k.forms k.spellings p.members ms members j.0 m j.2 in
    let named = All-contains (λ m. (x : ℕ) × (slice_get k.spellings x ≡ Some m.0) × Contains (flat_map (λ tags. tags) (tags_in arms)) x) ms t.0 all (contains_at ms j.0 t.0 t.1) in
    let same : named.0 ≡ m.name = agrees.once named.0 m.name t.0.0 named.1 t.2 in
    let first = is_named m.name 0 p.members j.0 m j.2 refl in
    let taken : is_free done.chosen first.0.0 ≡ false =
    named_arm k p.members done.chosen (tags_in arms) p.chosen m.name first.0 first.1 (subst (λ x. Contains (flat_map (λ tags. tags) (tags_in arms)) x) same named.2) in
    let none : has_arm done.chosen (Some first.0) ≡ false = sym (ap (has_arm done.chosen) (ap (part_if (tag_part m.name)) is ∙ first.1)) ∙ j.3 in
    clash (is_free done.chosen first.0.0) taken none
  where
    clash : (b : Bool) → b ≡ false → not b ≡ false → ⊥
    clash true e f = cc
    clash false e f = cc

pub case_no_arm : CaseNoArmLaw
case_no_arm g f0 f1 f2 names l c subject begun done first second table ones begins adds none e =
    reach_later g f0 f2 (BreaksAt g names (at l (tree.TagCase c)) 18 l) (used_on g f0 f1 f2 first second) (reach_here g f2 (BreaksAt g names (at l (tree.TagCase c)) 18 l) table (record {
      holds = λ k s whole stands.
          let u = union_of g f1 names c subject begun ones begins k s (agrees_before g f1 f2 k second.grows whole.agrees) stands in
          let typed = adds.holds begins.union [] (arms_begin g f1 names (out-TagCase c).name subject begun begins) in
          whole_case k (denotes_in g k) (misnames_in g k) s l c 18 l (breaks.no_arm u.tags (out-TagCase c).name (out-TagCase c).subject (out-TagCase c).arms (out-TagCase c).otherwise u.typed
          (λ all. not_all_named g f2 names begins.union (out-TagCase c).arms done typed e k u.tags whole.agrees u.number (subst (AreAllNamed k (tags_in (out-TagCase c).arms) u.tags) none all)));
    }))

-- ---- arms that differ

-- one list of types has one list of numbers
numbers_one : (k : Known) → IsTable k.forms → AreSpelledOnce k.spellings → (ns ms : List ℕ) (ts : List Ty) → AreNumbers k.forms k.spellings ns ts → AreNumbers k.forms k.spellings ms ts → ns ≡ ms
numbers_one k table once [] [] [] p q = refl
numbers_one k table once [] ms (t ∷ ts) p q = absurd p
numbers_one k table once [] (m ∷ ms) [] p q = absurd q
numbers_one k table once (n ∷ ns) ms [] p q = absurd p
numbers_one k table once (n ∷ ns) [] (t ∷ ts) p q = absurd q
numbers_one k table once (n ∷ ns) (m ∷ ms) (t ∷ ts) p q = ap (λ i. i ∷ ns) (one_number k.forms k.spellings table.well once n m t p.0 q.0) ∙ ap (λ l. m ∷ l) (numbers_one k table once ns ms ts p.1 q.1)

types_of_two : (g : Given) (f : List Form) (k : Known) → Agrees g f k → (ns ms : List ℕ) (ts us : List Ty) → Number k ns ts → Number k ms us → (ns ≡ ms → ⊥) → ts ≡ us → ⊥
types_of_two g f k a ns ms ts us p q differ e = differ (numbers_one k a.table a.once ns ms us (subst (AreNumbers k.forms k.spellings ns) e p.each) q.each)

have_begun : (g : Given) (f : List Form) (names : Names) (x : Option ℕ) (subject : Parts) (begun : Arms) → (b : Begins f x subject begun) → ArmsHave g f names b.union [] begun
have_begun g f names x subject begun b = record {
  first = λ ns e k s ms agrees stands number. absurd (none_is_some ns begun.types b.types e);
  uneven = λ e k s ms agrees stands number. absurd (both begun.is_even b.even e);
}
  where
    both : (c : Bool) → c ≡ true → c ≡ false → ⊥
    both true p q = cc
    both false p q = cc

two_break : (g : Given) (f : List Form) (k : Known) (s : scopes.Scope) (l : ℕ) (c : TagCase) (union : ℕ) → Agrees g f k → (u : HasUnion k g s c union) → TwoDiffer k g s (out-TagCase c).name u.tags (out-TagCase c).arms
    → Breaks k (denotes_in g k) (misnames_in g k) s (at l (tree.TagCase c)) 18 l
two_break g f k s l c union agrees u d =
    whole_case k (denotes_in g k) (misnames_in g k) s l c 18 l
    (arms_differ u.tags (out-TagCase c).name (out-TagCase c).subject (out-TagCase c).arms (out-TagCase c).otherwise u.typed d.one.contains d.one.results d.other.contains d.other.results
    (types_of_two g f k agrees d.ns d.os d.one.tys d.other.tys d.one.number d.other.number d.differ))

pub case_arms_differ : CaseDifferLaw
case_arms_differ g f0 f1 f2 names l c subject begun done first second table ones begins adds results e =
    reach_later g f0 f2 (BreaksAt g names (at l (tree.TagCase c)) 18 l) (used_on g f0 f1 f2 first second) (reach_here g f2 (BreaksAt g names (at l (tree.TagCase c)) 18 l) table (record {
      holds = λ k s whole stands.
          let u = union_of g f1 names c subject begun ones begins k s (agrees_before g f1 f2 k second.grows whole.agrees) stands in
          let have = results.holds begins.union [] (arms_begin g f1 names (out-TagCase c).name subject begun begins) (have_begun g f1 names (out-TagCase c).name subject begun begins) in
          two_break g f2 k s l c begins.union whole.agrees u
          (subst (λ n. TwoDiffer k g s n u.tags (out-TagCase c).arms) (adds.name ∙ begins.name) (have.uneven e k s u.tags whole.agrees stands u.number));
    }))

pub case_otherwise_differs : CaseOtherwiseDiffersLaw
case_otherwise_differs g f0 f1 f2 f3 names l c subject es ts ns begun done final first second third table ones begins adds results some typed differs e =
    reach_later g f0 f3 (BreaksAt g names (at l (tree.TagCase c)) 18 l) (used_on g f0 f1 f3 first (used_on g f1 f2 f3 second third)) (reach_here g f3 (BreaksAt g names (at l (tree.TagCase c)) 18 l) table (record {
      holds = λ k s whole stands.
          let two = agrees_before g f2 f3 k third.grows whole.agrees in
          let u = union_of g f1 names c subject begun ones begins k s (agrees_before g f1 f2 k second.grows two) stands in
          let have = results.holds begins.union [] (arms_begin g f1 names (out-TagCase c).name subject begun begins) (have_begun g f1 names (out-TagCase c).name subject begun begins) in
          let name : done.name ≡ (out-TagCase c).name = adds.name ∙ begins.name in
          let r = typed.holds k s whole.agrees stands in
          ⊎_elim
          (λ odd. two_break g f3 k s l c begins.union whole.agrees u (subst (λ n. TwoDiffer k g s n u.tags (out-TagCase c).arms) name (have.uneven odd k s u.tags two stands u.number)))
          (λ other. last_by done.types other (λ os is.
          let o = subst (λ n. OneHas k g s n u.tags (out-TagCase c).arms os) name (have.first os is k s u.tags two stands u.number) in
          λ differ. whole_case k (denotes_in g k) (misnames_in g k) s l c 18 l
          (subst (λ o. Breaks k (denotes_in g k) (misnames_in g k) s (at l (tree.TagCase (roll-TagCase (record { name = (out-TagCase c).name; subject = (out-TagCase c).subject; arms = (out-TagCase c).arms; otherwise = o })))) 18 l)
          (sym some) (otherwise_differs u.tags (out-TagCase c).name (out-TagCase c).subject (out-TagCase c).arms es u.typed o.contains o.results r.typed
          (types_of_two g f3 k whole.agrees os ns o.tys r.tys o.number r.number differ)))))
          (differs.uneven e);
    }))
  where
    last_by : {P : Type 0} (old : Option (List ℕ)) → (AreSame old ns → ⊥) → ((os : List ℕ) → old ≡ Some os → (os ≡ ns → ⊥) → P) → P
    last_by None other so = absurd (other tt)
    last_by (Some os) other so = so os refl other
