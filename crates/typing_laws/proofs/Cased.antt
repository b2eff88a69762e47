-- The arms of a `tagcase`, and the whole of it.
use Rattle.std.proofs.Common.{◌≡◌, ℕ, suc, ◌+◌, Bool, true, false, not, if◌then◌else◌, List, [], ◌∷◌, ◌++◌, map, flat_map, length, All, Option, Some, None, Ok, slice_get, refl, sym, ap, subst, ◌∙◌, arith, rules}
use Rattle.std.specs.Prelude.{Contains}
use Rattle.std.proofs.lemmas.List.{append_assoc, append-nil, length-append}
use Rattle.std.proofs.lemmas.List.Elements.{All-nil, All-cons}
use Rattle.std.proofs.lemmas.Option.{same_Some}
use Rattle.flow_value.specs.declared.ty.Ty.{Ty}
use Rattle.flow_value.specs.declared.ty.Ty.TheVariants as ty
use Rattle.type_table.specs.declared.form.Form.{Form}
use Rattle.type_table.specs.declared.form.Form.TheVariants as form
use Rattle.type_table.specs.declared.form.Member.{Member as NumberedMember}
use Rattle.type_table.specs.Forms.{first_member}
use Rattle.type_table.proofs.Members.{is_member}
use Rattle.sisal_tree.specs.declared.unit.Named.{Named}
use Rattle.sisal_tree.specs.declared.unit.Written.{Written}
use Rattle.sisal_tree.specs.declared.expr.Arm.{Arm, out-Arm, roll-Arm}
use Rattle.sisal_tree.specs.declared.expr.Expr.{Expr}
use Rattle.sisal_tree.specs.declared.expr.ExprKind.TheVariants as tree
use Rattle.sisal_tree.specs.declared.expr.ExprKind.TheViews as kinds
use Rattle.sisal_tree.specs.declared.expr.TagCase.{TagCase, out-TagCase, roll-TagCase}
use Rattle.typed_tree.specs.declared.expr.TypedExpr.{TypedExpr}
use Rattle.typed_tree.specs.declared.expr.TypedKind.TheVariants as typed
use Rattle.typed_tree.specs.Scopes as scopes
use Rattle.typed_tree.specs.Scopes.{AreDistinct}
use Rattle.typed_tree.specs.Types.{Member, IsNumber, AreMembers, no_member, a_member}
use Rattle.typed_tree.specs.Typing as rule
use Rattle.typed_tree.specs.Typing.{Known, Number, Types, AreTyped, AreArms, IsTag, AreChoices, Chooses, AreAllNamed, with_content, named_arms, names_of, tags_from, at, with}
use Rattle.std.proofs.Common.{Result}
use Rattle.type_rules.specs.Applies.{Grows}
use Rattle.type_rules.specs.Arms.{is_free, has_arm, have_arms, have_arms_if, are_all_named, choices_of, gives_arm}
use Rattle.type_rules.specs.Parts.{part_if, tag_part, tags_part, tag_at}
use Rattle.type_rules.proofs.Standing.{HasFields, standing_at, at_union, one_type}
use Rattle.typing_laws.proofs.Tagged.{found}
use Rattle.value_names.specs.Names.{Names}
use Rattle.typing_laws.specs.Given.{Given, Parts, Arms}
use Rattle.typing_laws.specs.Judged.{Agrees, Stands, denotes_in, IsTypedAs, Typed, AllTyped, AllOnes}
use Rattle.typing_laws.specs.Casing.{tags_in, AreFound, IsChosen, Begins, AreResults, ArmsTypedAs, ArmsTyped, AddsArms, first_types, AreSame, named_content, EntersArm, Keeps, named_by, IsCase, Ends}
use Rattle.typing_laws.proofs.Later.{agrees_before}
use Rattle.typing_laws.proofs.Unique.{same_types}
use Rattle.typing_laws.proofs.Entering.{stands_with}
use Rattle.typing_laws.proofs.Called.{one_of}
use Rattle.typing_laws.proofs.Sound.{part_later}
use Rattle.typing_laws.proofs.Choosing.{none_chosen, arm_begins, arm_chosen, union_at, tags_flat, named_taken, taken_named, AreContents, no_tag, a_content, all_contents}

-- ---- unions

form_union : (as_ bs : List NumberedMember) → Some (form.Union as_) ≡ Some (form.Union bs) → as_ ≡ bs
form_union as_ bs e = cc

-- the tags of the union that a number stands for
pub union_members : (k : Known) (n : ℕ) (nms : List NumberedMember) (ms : List Member) → slice_get k.forms n ≡ Some (form.Union nms) → IsNumber k.forms k.spellings n (ty.Uni ms) → AreMembers k.forms k.spellings nms ms
union_members k n nms ms e p =
    let s = at_union k.forms k.spellings n ms p in
    subst (λ l. AreMembers k.forms k.spellings l ms) (form_union s.0 nms (sym s.1 ∙ e)) s.2

module _ (k : Known) (union : ℕ) (nms : List NumberedMember) (ms : List Member) (is_union : slice_get k.forms union ≡ Some (form.Union nms)) (members : AreMembers k.forms k.spellings nms ms) where
  pub tag_content : (x : ℕ) (r : ℕ × ℕ) → tag_at k.forms union x ≡ Some r → (content : Ty) × rule.Has k ms x r.0 content × IsNumber k.forms k.spellings r.1 content
  tag_content x r e =
      let f = found k.forms k.spellings nms ms members x r (sym (ap (part_if (tag_part x)) is_union) ∙ e) in
      (f.0, record { spelling = f.1.spelling; spelled = f.1.spelled; member = f.1.member }, f.2)

  pub tags_typed : (old : List Form) → Grows old k.forms → (content : ℕ) (a : Ty) → IsNumber k.forms k.spellings content a → (ts : List Named) → AreContents old union content ts → All (λ tag. IsTag k ms tag a) (names_of ts)
  tags_typed old grows content a number _ no_tag = All-nil (λ tag. IsTag k ms tag a)
  tags_typed old grows content a number _ (a_content t {ts = ts} place e r) =
      let f = tag_content t.name (place, content) (part_later old k.forms grows (tag_part t.name) union (place, content) e) in
      let same : f.0 ≡ a = one_type k.forms k.spellings content f.0 a f.2 number in
      All-cons (λ tag. IsTag k ms tag a) t.name (names_of ts) (place, subst (λ u. rule.Has k ms t.name place u) same f.1) (tags_typed old grows content a number ts r)

-- ---- one arm

pub rolled_arm : (a : Arm) → roll-Arm (record { line = (out-Arm a).line; tags = (out-Arm a).tags; results = (out-Arm a).results }) ≡ a
rolled_arm a = search (rules, kinds.the_lemmas)

arms_append : (k : Known) (denotes : Written → Ty → Type 0) (s : scopes.Scope) (x : Option ℕ) (ms : List Member) (tys : List Ty) (arms : List Arm) (results : List (List TypedExpr)) (tags : List (List ℕ))
    (a : Arm) (content : Ty) (ts : List TypedExpr) → AreArms k denotes s x ms tys arms results tags → ((out-Arm a).tags ≡ [] → ⊥) → All (λ tag. IsTag k ms tag content) (names_of (out-Arm a).tags)
    → AreTyped k denotes (with_content x content s) (out-Arm a).results ts tys
    → AreArms k denotes s x ms tys (arms ++ (a ∷ [])) (results ++ (ts ∷ [])) (tags ++ (names_of (out-Arm a).tags ∷ []))
arms_append k denotes s x ms tys _ _ _ a content ts rule.no_arm some p q =
    subst (λ b. AreArms k denotes s x ms tys (b ∷ []) (ts ∷ []) (names_of (out-Arm a).tags ∷ [])) (rolled_arm a) (rule.an_arm (out-Arm a).line content (out-Arm a).tags some p q rule.no_arm)
arms_append k denotes s x ms tys _ _ _ a content ts (rule.an_arm l c names {es = es} {ts = us} {arms = arms} {typed_arms = results} {tags = tags} o t u r) some p q =
    rule.an_arm l c names o t u (arms_append k denotes s x ms tys arms results tags a content ts r some p q)

pub content_stands : (k : Known) (x : Option ℕ) (n : ℕ) (a : Ty) (names : Names) (s : scopes.Scope) → Stands k names s → IsNumber k.forms k.spellings n a → Stands k (named_content x n names) (with_content x a s)
content_stands k None n a names s st p = st
content_stands k (Some x) n a names s st p = stands_with k names s x n a st p

tags_append : (arms : List Arm) (a : Arm) → tags_in (arms ++ (a ∷ [])) ≡ tags_in arms ++ (names_of (out-Arm a).tags ∷ [])
tags_append [] a = refl
tags_append (b ∷ arms) a = ap (λ l. names_of (out-Arm b).tags ∷ l) (tags_append arms a)

pub many_tags : (arms : List Arm) → length (tags_in arms) ≡ length arms
many_tags [] = refl
many_tags (a ∷ arms) = ap suc (many_tags arms)

-- the types of the results, once there are some
numbers_by : (k : Known) (old new : Option (List ℕ)) (ns : List ℕ) (tys : List Ty) → Number k ns tys → new ≡ first_types old ns → ((ms : List ℕ) → old ≡ Some ms → (us : List Ty) × Number k ms us)
    → (ms : List ℕ) → new ≡ Some ms → (us : List Ty) × Number k ms us
numbers_by k None new ns tys p e before ms is = (tys, subst (λ l. Number k l tys) (same_Some ns ms (sym e ∙ is)) p)
numbers_by k (Some first) new ns tys p e before ms is = let r = before first refl in (r.0, subst (λ l. Number k l r.0) (same_Some first ms (sym e ∙ is)) r.1)

-- types of the results so far are those of the new ones
results_by : (k : Known) (old new : Option (List ℕ)) (ns : List ℕ) (tys us : List Ty) → Number k ns tys → new ≡ first_types old ns → AreSame old ns → AreResults k new us → AreResults k old us × (tys ≡ us)
results_by k None new ns tys us p e same r = (tt, same_types k ns tys us p (subst (λ o. AreResults k o us) e r))
results_by k (Some first) new ns tys us p e same r =
    let q : Number k first us = subst (λ o. AreResults k o us) e r in (q, same_types k ns tys us p (subst (λ l. Number k l us) same q))

pub arms_begin : (g : Given) (f : List Form) (names : Names) (x : Option ℕ) (subject : Parts) (done : Arms) → (b : Begins f x subject done) → ArmsTyped g f names b.union [] done
arms_begin g f names x subject done b = record {
  members = b.members;
  is_union = b.is_union;
  chosen_union = b.chosen_union;
  chosen = subst (λ c. IsChosen b.members c []) (sym b.chosen_arms) (none_chosen b.members);
  count = ap length b.results;
  holds = λ even k s ms agrees stands number. record {
    number = λ ns e. absurd (none_some ns (sym b.types ∙ e));
    typed = λ tys r. subst (λ l. AreArms k (denotes_in g k) s done.name ms tys [] l []) (sym b.results) rule.no_arm;
  };
}
  where
    none_some : (ns : List ℕ) → None ≡ Some ns → ⊥
    none_some ns e = cc

abbrev content_in : Result (Option ℕ × List (ℕ × ℕ)) ℕ → Option ℕ
content_in (Ok r) = r.0
content_in _ = None

-- an arm whose content is known has a tag
some_tag : (f0 : List Form) (union arm line : ℕ) (chosen : List (ℕ × ℕ)) (tags : List Named) (content : ℕ) (after : List (ℕ × ℕ)) → gives_arm f0 union arm line None chosen tags ≡ Ok (Some content, after)
    → tags ≡ [] → ⊥
some_tag f0 union arm line chosen [] content after e none = let same : None ≡ Some content = ap content_in e in cc
some_tag f0 union arm line chosen (t ∷ tags) content after e none = cc

pub arm_typed : (g : Given) (f0 f1 : List Form) (names inner : Names) (union : ℕ) (arms : List Arm) (a : Arm) (ts : List TypedExpr) (ns : List ℕ) (old mid new : Arms) → Grows f0 f1
    → ArmsTyped g f0 names union arms old → EntersArm f0 (out-Arm a).line (out-Arm a).tags old mid names inner → AllTyped g f1 inner (out-Arm a).results ts ns → Keeps ts ns mid new
    → ArmsTyped g f1 names union (arms ++ (a ∷ [])) new
arm_typed g f0 f1 names inner union arms a ts ns old mid new grows p enters results keeps = record {
  members = p.members;
  is_union = part_later f0 f1 grows tags_part union p.members p.is_union;
  chosen_union = keeps.union ∙ enters.union ∙ p.chosen_union;
  chosen =
      subst (λ c. IsChosen p.members c (tags_in (arms ++ (a ∷ [])))) (sym keeps.chosen)
      (subst (λ l. IsChosen p.members mid.chosen l) (sym (tags_append arms a))
      (arm_chosen f0 union (out-Arm a).line p.members (union_at f0 union p.members p.is_union) (tags_in arms) [] None old.chosen (out-Arm a).tags (Some enters.content, mid.chosen)
      (arm_begins p.members old.chosen (tags_in arms) p.chosen) given));
  count = ap length (keeps.results ∙ ap (λ l. l ++ (ts ∷ [])) enters.results) ∙ length-append old.results (ts ∷ []) ∙ ap (λ n. n + 1) p.count ∙ sym (length-append arms (a ∷ []));
  holds = λ even k s ms agrees stands number.
      let was = keeps.even even in
      let before = agrees_before g f0 f1 k grows agrees in
      let q = p.holds (sym enters.even ∙ was.0) k s ms before stands number in
      let here : slice_get k.forms union ≡ Some (form.Union p.members) =
      union_at k.forms union p.members (part_later f0 k.forms before.grows tags_part union p.members p.is_union) in
      let members = union_members k union p.members ms here number in
      let c = all_contents f0 union (length (tags_in arms)) (out-Arm a).line old.chosen (out-Arm a).tags enters.content mid.chosen given in
      let t = tag_content k union p.members ms here members c.1 (c.0, enters.content) (part_later f0 k.forms before.grows (tag_part c.1) union (c.0, enters.content) c.2) in
      let content : Ty = t.0 in
      let tags = tags_typed k union p.members ms here members f0 before.grows enters.content content t.2 (out-Arm a).tags c.3 in
      let inside : Stands k inner (with_content old.name content s) = subst (λ n. Stands k n (with_content old.name content s)) (sym enters.names) (content_stands k old.name enters.content content names s stands t.2) in
      let r = results.holds k (with_content old.name content s) agrees inside in
      let types : new.types ≡ first_types old.types ns = keeps.types ∙ ap (λ o. first_types o ns) enters.types in
      let same : AreSame old.types ns = subst (λ o. AreSame o ns) enters.types was.1 in
      record {
        number = numbers_by k old.types new.types ns r.tys r.number types q.number;
        typed = λ tys are.
            let w = results_by k old.types new.types ns r.tys tys r.number types same are in
            subst (λ n. AreArms k (denotes_in g k) s n ms tys (arms ++ (a ∷ [])) new.results (tags_in (arms ++ (a ∷ [])))) (sym (keeps.name ∙ enters.name))
            (subst (λ l. AreArms k (denotes_in g k) s old.name ms tys (arms ++ (a ∷ [])) l (tags_in (arms ++ (a ∷ [])))) (sym (keeps.results ∙ ap (λ l. l ++ (ts ∷ [])) enters.results))
            (subst (λ l. AreArms k (denotes_in g k) s old.name ms tys (arms ++ (a ∷ [])) (old.results ++ (ts ∷ [])) l) (sym (tags_append arms a))
            (arms_append k (denotes_in g k) s old.name ms tys arms old.results (tags_in arms) a content ts (q.typed tys w.0) (some_tag f0 union (length (tags_in arms)) (out-Arm a).line old.chosen (out-Arm a).tags enters.content mid.chosen given) tags (subst (λ l. AreTyped k (denotes_in g k) (with_content old.name content s) (out-Arm a).results ts l) w.1 r.typed))));
      };
}
  where
    given : gives_arm f0 union (length (tags_in arms)) (out-Arm a).line None old.chosen (out-Arm a).tags ≡ Ok (Some enters.content, mid.chosen)
    given =
        ap (λ n. gives_arm f0 union n (out-Arm a).line None old.chosen (out-Arm a).tags) (many_tags arms ∙ sym p.count)
        ∙ ap (λ u. gives_arm f0 u (length old.results) (out-Arm a).line None old.chosen (out-Arm a).tags) (sym p.chosen_union)
        ∙ enters.chosen

pub adds_no_arms : (g : Given) (f : List Form) (names : Names) (done : Arms) → AddsArms g f f names [] done done
adds_no_arms g f names done = record { name = refl; holds = λ union others p. subst (λ l. ArmsTyped g f names union l done) (sym (append-nil others)) p }

pub adds_arms_on : (g : Given) (f0 f1 f2 : List Form) (names : Names) (arms others : List Arm) (old mid new : Arms) → AddsArms g f0 f1 names arms old mid → AddsArms g f1 f2 names others mid new
    → AddsArms g f0 f2 names (arms ++ others) old new
adds_arms_on g f0 f1 f2 names arms others old mid new p q = record {
  name = q.name ∙ p.name;
  holds = λ union before r. subst (λ l. ArmsTyped g f2 names union l new) (append_assoc before arms others) (q.holds union (before ++ arms) (p.holds union before r));
}

pub an_arm_added : (g : Given) (f0 f1 : List Form) (names inner : Names) (a : Arm) (ts : List TypedExpr) (ns : List ℕ) (old mid new : Arms) → Grows f0 f1
    → EntersArm f0 (out-Arm a).line (out-Arm a).tags old mid names inner → AllTyped g f1 inner (out-Arm a).results ts ns → Keeps ts ns mid new → AddsArms g f0 f1 names (a ∷ []) old new
an_arm_added g f0 f1 names inner a ts ns old mid new grows enters results keeps = record {
  name = keeps.name ∙ enters.name;
  holds = λ union others p. arm_typed g f0 f1 names inner union others a ts ns old mid new grows p enters results keeps;
}

-- ---- the arms of all tags

-- two names of members at one place
pub one_name : (nms : List NumberedMember) (x y : ℕ) (m : ℕ × ℕ) (content : ℕ) → first_member x 0 nms ≡ Some m → first_member y 0 nms ≡ Some (m.0, content) → y ≡ x
one_name nms x y m content e f =
    let a = is_member x 0 nms m e in
    let b = is_member y 0 nms (m.0, content) f in
    let place : b.i ≡ a.i = (let u = a.place in let v = b.place in omega (arith, u, v)) in
    let same : b.member ≡ a.member = same_Some b.member a.member (sym b.is ∙ ap (slice_get nms) place ∙ a.is) in
    sym b.named ∙ ap (λ q. q.name) same ∙ a.named

module _ (k : Known) (nms : List NumberedMember) (chosen : List (ℕ × ℕ)) (tags : List (List ℕ)) (p : IsChosen nms chosen tags) where
  choices_from : (fs : List Member) → AreMembers k.forms k.spellings nms fs → (xs cs : List (ℕ × ℕ)) → AreFound nms xs cs → AreChoices k fs xs (choices_of cs)
  choices_from fs members [] [] q = tt
  choices_from fs members [] (c ∷ cs) q = absurd q
  choices_from fs members (x ∷ xs) [] q = absurd q
  choices_from fs members (x ∷ xs) (c ∷ cs) q =
      let f = found k.forms k.spellings nms fs members x.0 (c.0, q.0.0.0) q.0.0.1 in
      (((f.0, record { spelling = f.1.spelling; spelled = f.1.spelled; member = f.1.member }), q.0.1), choices_from fs members xs cs q.1)

  pub chooses : (fs : List Member) → AreMembers k.forms k.spellings nms fs → Chooses k tags fs (choices_of chosen)
  chooses fs members = record { each = choices_from fs members (tags_from 0 tags) chosen p.each }

  -- a tag that has an arm is named
  pub arm_named : (x : ℕ) (m : ℕ × ℕ) → first_member x 0 nms ≡ Some m → is_free chosen m.0 ≡ false → Contains (flat_map (λ names. names) tags) x
  arm_named x m e h =
      let t = taken_named nms (tags_from 0 tags) chosen p.each m.0 h in
      subst (λ y. Contains (flat_map (λ names. names) tags) y) (one_name nms x t.0 m t.1 e t.2) (subst (λ l. Contains l t.0) (tags_flat 0 tags) t.3)

  -- a tag that is named has an arm
  pub named_arm : (x : ℕ) (m : ℕ × ℕ) → first_member x 0 nms ≡ Some m → Contains (flat_map (λ names. names) tags) x → is_free chosen m.0 ≡ false
  named_arm x m e c = named_taken nms (tags_from 0 tags) chosen p.each x (subst (λ l. Contains l x) (sym (tags_flat 0 tags)) c) m e

  arm_there : (x : ℕ) (o : Option (ℕ × ℕ)) → first_member x 0 nms ≡ o → has_arm chosen o ≡ true → Contains (flat_map (λ names. names) tags) x
  arm_there x None e h = absurd cc
  arm_there x (Some m) e h = arm_named x m e (taken (is_free chosen m.0) h)
    where
      taken : (b : Bool) → not b ≡ true → b ≡ false
      taken true h = absurd cc
      taken false h = refl

  both_true : (b c : Bool) → (if b then c else false) ≡ true → (b ≡ true) × (c ≡ true)
  both_true true c h = (refl, h)
  both_true false c h = absurd cc

  -- each tag is named
  named_from : (forms : List Form) (union : ℕ) → slice_get forms union ≡ Some (form.Union nms) → (rest : List NumberedMember) (fs : List Member) → have_arms forms union chosen rest ≡ true
      → AreMembers k.forms k.spellings rest fs → All (λ m. (x : ℕ) × (slice_get k.spellings x ≡ Some m.0) × Contains (flat_map (λ names. names) tags) x) fs
  named_from forms union is _ _ all no_member = All-nil (λ m. (x : ℕ) × (slice_get k.spellings x ≡ Some m.0) × Contains (flat_map (λ names. names) tags) x)
  named_from forms union is _ _ all (a_member {x = x} {n = n} {name = name} {t = t} {ms = rest} {fs = fs} s q r) =
      let here : tag_at forms union x ≡ first_member x 0 nms = ap (part_if (tag_part x)) is in
      let two = both_true (has_arm chosen (tag_at forms union x)) (have_arms forms union chosen rest) all in
      All-cons (λ m. (x : ℕ) × (slice_get k.spellings x ≡ Some m.0) × Contains (flat_map (λ names. names) tags) x) (name, t) fs
      (x, s, arm_there x (first_member x 0 nms) refl (sym (ap (has_arm chosen) here) ∙ two.0)) (named_from forms union is rest fs two.1 r)

  pub all_named : (forms : List Form) (union : ℕ) → slice_get forms union ≡ Some (form.Union nms) → (fs : List Member) → AreMembers k.forms k.spellings nms fs → are_all_named forms union chosen ≡ true
      → AreAllNamed k tags fs None
  all_named forms union is fs members all = named_from forms union is nms fs (sym (ap (λ o. have_arms_if forms union chosen (part_if tags_part o)) is) ∙ all) members

-- ---- the whole

pub rolled_case : (c : TagCase) → roll-TagCase (record { name = (out-TagCase c).name; subject = (out-TagCase c).subject; arms = (out-TagCase c).arms; otherwise = (out-TagCase c).otherwise }) ≡ c
rolled_case c = search (rules, kinds.the_lemmas)

-- the type of the subject
pub union_type : (k : Known) (n : ℕ) (a : Ty) (nms : List NumberedMember) → IsNumber k.forms k.spellings n a → slice_get k.forms n ≡ Some (form.Union nms) → (fs : List Member) × (a ≡ ty.Uni fs) × AreMembers k.forms k.spellings nms fs
union_type k n a nms p e =
    let s : HasFields k.forms k.spellings ty.Uni nms a = standing_at k.forms k.spellings n (Some (form.Union nms)) e a p in (s.fields, s.is, s.stand)

same_named : (x : Option ℕ) (arms : List Arm) → named_by x (length arms) ≡ named_arms x arms
same_named None arms = refl
same_named (Some x) arms = refl

-- all arms have results of these types
record HasResults (k : Known) (g : Given) (s : scopes.Scope) (ms : List Member) (arms : List Arm) (done : Arms) (other : Option (List Expr)) (final : Arms) (types : List ℕ) : Type 0 where
  tys : List Ty
  last : List (List TypedExpr)
  number : Number k types tys
  arms_typed : AreArms k (denotes_in g k) s done.name ms tys arms done.results (tags_in arms)
  otherwise : rule.IsOtherwise k (denotes_in g k) s tys other last
  results : final.results ≡ done.results ++ last

last_types : (k : Known) (old new : Option (List ℕ)) (ns types : List ℕ) (us : List Ty) → Number k ns us → new ≡ first_types old ns → AreSame old ns → new ≡ Some types
    → AreResults k old us × Number k types us
last_types k None new ns types us p e same is = (tt, subst (λ l. Number k l us) (same_Some ns types (sym e ∙ is)) p)
last_types k (Some first) new ns types us p e same is =
    let q : Number k first us = subst (λ l. Number k l us) (sym same) p in (q, subst (λ l. Number k l us) (same_Some first types (sym e ∙ is)) q)

results_of : (g : Given) (f : List Form) (names : Names) (k : Known) (s : scopes.Scope) (ms : List Member) (arms : List Arm) (done final : Arms) (other : Option (List Expr)) (types : List ℕ)
    → Agrees g f k → Stands k names s → (done.is_even ≡ true → ArmsTypedAs k g s ms arms done) → Ends g f names other done final → final.is_even ≡ true → final.types ≡ Some types
    → HasResults k g s ms arms done other final types
results_of g f names k s ms arms done final None types agrees stands p ends even is =
    let q = p (sym (ap (λ d. d.is_even) ends.1) ∙ even) in
    let e : done.types ≡ Some types = sym (ap (λ d. d.types) ends.1) ∙ is in
    let n = q.number types e in record {
      tys = n.0;
      last = [];
      number = n.1;
      arms_typed = q.typed n.0 (subst (λ o. AreResults k o n.0) (sym e) n.1);
      otherwise = rule.no_otherwise;
      results = ap (λ d. d.results) ends.1 ∙ sym (append-nil done.results);
    }
results_of g f names k s ms arms done final (Some es) types agrees stands p ends even is =
    let was = ends.keeps.even even in
    let q = p was.0 in
    let r = ends.typed.holds k s agrees stands in
    let n = last_types k done.types final.types ends.types types r.tys r.number ends.keeps.types was.1 is in record {
      tys = r.tys;
      last = ends.exprs ∷ [];
      number = n.1;
      arms_typed = q.typed r.tys n.0;
      otherwise = rule.otherwise r.typed;
      results = ends.keeps.results;
    }

chosen_at_end : (g : Given) (f : List Form) (names : Names) (other : Option (List Expr)) (done final : Arms) → Ends g f names other done final → (final.chosen ≡ done.chosen) × (final.name ≡ done.name)
chosen_at_end g f names None done final e = (ap (λ d. d.chosen) e.1, ap (λ d. d.name) e.1)
chosen_at_end g f names (Some es) done final e = (e.keeps.chosen, e.keeps.name)

named_at_end : (g : Given) (f : List Form) (names : Names) (other : Option (List Expr)) (done final : Arms) (k : Known) (nms : List NumberedMember) (fs : List Member) (tags : List (List ℕ))
    → slice_get f done.union ≡ Some (form.Union nms) → IsChosen nms done.chosen tags → AreMembers k.forms k.spellings nms fs → Ends g f names other done final → AreAllNamed k tags fs other
named_at_end g f names None done final k nms fs tags is p members e = all_named k nms done.chosen tags p f done.union is fs members e.0
named_at_end g f names (Some es) done final k nms fs tags is p members e = tt

pub case_typed : (g : Given) (f0 f1 f2 : List Form) (names : Names) (line count : ℕ) (c : TagCase) (subject : Parts) (begun done final : Arms) (t : TypedExpr) → Grows f0 f1 → Grows f1 f2
    → AllOnes g f0 names ((out-TagCase c).subject ∷ []) subject.exprs subject.types → Begins f0 (out-TagCase c).name subject begun → AddsArms g f0 f1 names (out-TagCase c).arms begun done
    → count ≡ length (out-TagCase c).arms → Ends g f2 names (out-TagCase c).otherwise done final → IsCase line count subject final t → Typed g f2 names (at line (tree.TagCase c)) t
case_typed g f0 f1 f2 names line count c subject begun done final t first second only begins adds counted ends is = record {
  holds = λ k s agrees stands.
      let x : Option ℕ = (out-TagCase c).name in
      let arms : List Arm = (out-TagCase c).arms in
      let other : Option (List Expr) = (out-TagCase c).otherwise in
      let denotes = denotes_in g k in
      let one = agrees_before g f1 f2 k second agrees in
      let zero_ = agrees_before g f0 f1 k first one in
      let p : ArmsTyped g f1 names begins.union arms done = adds.holds begins.union [] (arms_begin g f0 names x subject begun begins) in
      let u = only.holds k s zero_ stands in
      let e = one_of k denotes s (out-TagCase c).subject subject.exprs u.tys u.typed in
      let number : Number k (begins.union ∷ []) (e.1 ∷ []) = subst (λ l. Number k l (e.1 ∷ [])) begins.is_subject (subst (λ l. Number k subject.types l) e.3 u.number) in
      let here : slice_get k.forms begins.union ≡ Some (form.Union p.members) =
      union_at k.forms begins.union p.members (part_later f1 k.forms one.grows tags_part begins.union p.members p.is_union) in
      let m = union_type k begins.union e.1 p.members number.each.0 here in
      let last : slice_get f2 done.union ≡ Some (form.Union p.members) =
      ap (slice_get f2) p.chosen_union ∙ union_at f2 begins.union p.members (part_later f1 f2 second tags_part begins.union p.members p.is_union) in
      let fs : List Member = m.0 in
      let is_union : IsNumber k.forms k.spellings begins.union (ty.Uni fs) = subst (λ a. IsNumber k.forms k.spellings begins.union a) m.1 number.each.0 in
      let w = results_of g f2 names k s fs arms done final other is.types agrees stands (λ even. p.holds even k s fs one stands is_union) ends is.even is.is_types in
      let named : done.name ≡ x = adds.name ∙ begins.name in
      let tags : List (List ℕ) = tags_in arms in
      let end = chosen_at_end g f2 names other done final ends in
      let choices : Chooses k tags fs (choices_of final.chosen) = subst (λ l. Chooses k tags fs (choices_of l)) (sym end.0) (chooses k p.members done.chosen tags p.chosen fs m.2) in
      let arms_typed : AreArms k denotes s x fs w.tys arms done.results tags = subst (λ n. AreArms k denotes s n fs w.tys arms done.results tags) named w.arms_typed in
      let whole = rule.tag_case {l = line} (subst (λ a. Types k denotes s (out-TagCase c).subject e.0 (a ∷ [])) m.1 e.4) arms_typed p.chosen.distinct
      (named_at_end g f2 names other done final k p.members fs tags last p.chosen m.2 ends) w.otherwise choices w.number in
      let named_count : named_by final.name count ≡ named_arms x arms = ap (λ n. named_by n count) (end.1 ∙ named) ∙ ap (named_by x) counted ∙ same_named x arms in
      let tree_is : t ≡ with line is.types (typed.Case (record { named = named_arms x arms; choices = choices_of final.chosen; others = length arms }) (e.0 ∷ []) (done.results ++ w.last)) =
      is.is
      ∙ ap (λ n. with line is.types (typed.Case (record { named = n; choices = choices_of final.chosen; others = count }) subject.exprs final.results)) named_count
      ∙ ap (λ n. with line is.types (typed.Case (record { named = named_arms x arms; choices = choices_of final.chosen; others = n }) subject.exprs final.results)) counted
      ∙ ap (λ l. with line is.types (typed.Case (record { named = named_arms x arms; choices = choices_of final.chosen; others = length arms }) l final.results)) e.2
      ∙ ap (λ l. with line is.types (typed.Case (record { named = named_arms x arms; choices = choices_of final.chosen; others = length arms }) (e.0 ∷ []) l)) w.results in
      subst (λ r. IsTypedAs k g s (at line (tree.TagCase c)) r) (sym tree_is) (record {
        tys = w.tys;
        number = w.number;
        typed = subst (λ d. Types k denotes s (at line (tree.TagCase d)) (with line is.types (typed.Case (record { named = named_arms x arms; choices = choices_of final.chosen; others = length arms }) (e.0 ∷ []) (done.results ++ w.last))) w.tys)
            (rolled_case c) whole;
      });
}
