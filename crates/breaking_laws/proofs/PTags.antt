-- The tags of an arm that are refused.
use Rattle.std.proofs.Common.{◌≡◌, inl, inr, ℕ, Bool, true, false, nat_eq, List, [], ◌∷◌, ◌++◌, flat_map, length, Option, Some, None, Result, Ok, Err, slice_get, refl, sym, ap, subst, ◌∙◌}
use Rattle.std.specs.Prelude.{if◌then◌else◌, Contains}
use Rattle.std.proofs.lemmas.Bool.{eq-eqb}
use Rattle.std.proofs.lemmas.List.{append_assoc, append-nil, map-append}
use Rattle.std.proofs.lemmas.List.Elements.{Contains-append_left, Contains-append_right}
use Rattle.std.proofs.lemmas.Grind.{flat_map-append}
use Rattle.flow_value.specs.declared.ty.Ty.{Ty}
use Rattle.flow_value.specs.declared.ty.Ty.TheVariants as ty
use Rattle.type_table.specs.declared.form.Form.{Form}
use Rattle.type_table.specs.declared.form.Form.TheVariants as form
use Rattle.type_table.specs.declared.form.Member.{Member as NumberedMember}
use Rattle.sisal_tree.specs.declared.unit.Named.{Named}
use Rattle.sisal_tree.specs.declared.unit.Written.{Written}
use Rattle.sisal_tree.specs.declared.expr.Arm.{Arm, out-Arm}
use Rattle.typed_tree.specs.Scopes as scopes
use Rattle.typed_tree.specs.Types.{Member, IsNumber, AreMembers}
use Rattle.typed_tree.specs.Typing.{Known, IsTag, names_of}
use Rattle.typed_tree.specs.Breaks as breaks
use Rattle.typed_tree.specs.Breaks.{IsTwice, NoMember, BreaksArm}
use Rattle.type_rules.specs.Arms.{is_free, chosen_at, agrees, gives_arm}
use Rattle.type_rules.specs.Parts.{part_if, tag_part, tag_at, tags_at}
use Rattle.type_rules.proofs.Membership.{tag_absent}
use Rattle.typing_laws.specs.Given.{Given}
use Rattle.typing_laws.specs.Judged.{Agrees, denotes_in}
use Rattle.typing_laws.specs.Casing.{tags_in, IsChosen}
use Rattle.typing_laws.proofs.Choosing.{arm_begins, a_tag, goes_on, union_at}
use Rattle.typing_laws.proofs.Cased.{union_members, tag_content, rolled_arm, many_tags, arm_named}
use Rattle.breaking_laws.specs.Broken.{misnames_in}
use Rattle.breaking_laws.specs.Parts as parts
use Rattle.breaking_laws.specs.Parts.{BreaksArms, BreaksArmsAt, IsNoArm}
use Rattle.breaking_laws.specs.PartLaws.{ArmTagsLaw}
use Rattle.breaking_laws.proofs.FPassing.{reach_here}
use Rattle.breaking_laws.proofs.FTables.{contains_first, contains_later, known_of}
use Rattle.breaking_laws.proofs.PReach.{types_differ}
use Rattle.breaking_laws.proofs.PTwice.{contains_none, contains_cases, twice_within}

-- ---- tags by name

abbrev pub arm_tags : List Arm → List Named
arm_tags arms = flat_map (λ arm. (out-Arm arm).tags) arms

names_flat : (arms : List Arm) → flat_map (λ names. names) (tags_in arms) ≡ names_of (arm_tags arms)
names_flat [] = refl
names_flat (a ∷ arms) = ap (λ l. names_of (out-Arm a).tags ++ l) (names_flat arms) ∙ sym (map-append (λ n. n.name) (out-Arm a).tags (arm_tags arms))

-- what has a name among names
named_in : (ns : List Named) (x : ℕ) → Contains (names_of ns) x → (n : Named) × Contains ns n × (n.name ≡ x)
named_in [] x c = absurd (contains_none x c)
named_in (n ∷ ns) x c = elim (contains_cases n.name (names_of ns) x c) [
  | inl e ↦ (n, contains_first n ns, e)
  | inr d ↦ let r = named_in ns x d in (r.0, contains_later n ns r.0 r.1, r.2)
]

-- ---- the first tag that is refused

data BreaksTags (k : Known) (ms : List Member) (at : ℕ) (others tags : List Named) : ℕ → Type 0 where
  absent : (n : Named) → Contains tags n → NoMember k ms n.name → BreaksTags k ms at others tags n.line
  contents : (a b : Ty) (n m : Named) → Contains tags n → IsTag k ms n.name a → Contains tags m → IsTag k ms m.name b → (a ≡ b → ⊥) → BreaksTags k ms at others tags at
  again : {line : ℕ} → IsTwice (others ++ tags) line → BreaksTags k ms at others tags line

module _ (g : Given) (f : List Form) (k : Known) (known : Agrees g f k) (union : ℕ) (nms : List NumberedMember) (ms : List Member) (here : slice_get k.forms union ≡ Some (form.Union nms))
    (number : IsNumber k.forms k.spellings union (ty.Uni ms)) (others : List Arm) (at : ℕ) where
  members : AreMembers k.forms k.spellings nms ms
  members = union_members k union nms ms here number

  -- a content of this type was seen
  abbrev HasContent : Option ℕ → List Named → Type 0
  HasContent None seen = Unit {0}
  HasContent (Some c) seen = (n : Named) × (place : ℕ) × Contains seen n × (tag_at k.forms union n.name ≡ Some (place, c))

  no_member : (x : ℕ) → tag_at k.forms union x ≡ None → NoMember k ms x
  no_member x e place a has = tag_absent k.forms k.spellings (known_of g f k known) union ms number x place a (record { spelling = has.spelling; spelled = has.spelled; member = has.member }) e

  -- a tag whose place is taken stands before
  taken : (seen : List Named) (arms : List (ℕ × ℕ)) (x : ℕ) (m : ℕ × ℕ) → IsChosen nms arms (tags_in others ++ (names_of seen ∷ [])) → tag_at k.forms union x ≡ Some m → is_free arms m.0 ≡ false
      → Contains (names_of (arm_tags others ++ seen)) x
  taken seen arms x m p found e =
      let c = arm_named k nms arms (tags_in others ++ (names_of seen ∷ [])) p x m (sym (ap (part_if (tag_part x)) here) ∙ found) e in
      let whole : flat_map (λ names. names) (tags_in others ++ (names_of seen ∷ [])) ≡ names_of (arm_tags others ++ seen) =
      flat_map-append (λ names. names) (tags_in others) (names_of seen ∷ []) ∙ ap (λ l. flat_map (λ names. names) (tags_in others) ++ l) (append-nil (names_of seen)) ∙ ap (λ l. l ++ names_of seen) (names_flat others)
      ∙ sym (map-append (λ n. n.name) (arm_tags others) seen) in
      subst (λ l. Contains l x) whole c

  twice_here : (seen : List Named) (t : Named) (ts : List Named) → Contains (names_of (arm_tags others ++ seen)) t.name → IsTwice (arm_tags others ++ (seen ++ (t ∷ ts))) t.line
  twice_here seen t ts c =
      let n = named_in (arm_tags others ++ seen) t.name c in
      subst (λ l. IsTwice l t.line) (append_assoc (arm_tags others) seen (t ∷ ts)) (twice_within (arm_tags others ++ seen) n.0 t ts n.1 n.2)

  -- contents of two types
  differ : (seen : List Named) (t : Named) (ts : List Named) (c : ℕ) (m : ℕ × ℕ) → HasContent (Some c) seen → tag_at k.forms union t.name ≡ Some m → nat_eq c m.1 ≡ false
      → BreaksTags k ms at (arm_tags others) (seen ++ (t ∷ ts)) at
  differ seen t ts c m before found e =
      let a = tag_content k union nms ms here members before.0.name (before.1, c) before.3 in
      let b = tag_content k union nms ms here members t.name m found in
      contents a.0 b.0 before.0 t (Contains-append_left seen (t ∷ ts) before.0 before.2) (before.1, a.1) (Contains-append_right seen (t ∷ ts) t (contains_first t ts)) (m.0, b.1)
      (types_differ k known.table known.once c m.1 a.0 b.0 a.2 b.2 (λ s. clash (nat_eq c m.1) (eq-eqb c m.1 s) e))
    where
      clash : (b : Bool) → b ≡ true → b ≡ false → ⊥
      clash true g h = cc
      clash false g h = cc

  line_is : (a b : ℕ) → ◌≡◌ {A = Result (Option ℕ × List (ℕ × ℕ)) ℕ} (Err a) (Err b) → a ≡ b
  line_is a b e = cc

  -- what comes where a tag gets its arm
  abbrev Resumes : List Named → Named → List Named → List (ℕ × ℕ) → ℕ → Type 0
  Resumes seen t ts arms line = (m : ℕ × ℕ) → tag_at k.forms union t.name ≡ Some m → is_free arms m.0 ≡ true
      → gives_arm k.forms union (length (tags_in others)) at (Some m.1) (arms ++ ((m.0, length (tags_in others)) ∷ [])) ts ≡ Err line → BreaksTags k ms at (arm_tags others) (seen ++ (t ∷ ts)) line

  tags_break : (seen ts : List Named) (content : Option ℕ) (arms : List (ℕ × ℕ)) (line : ℕ) → IsChosen nms arms (tags_in others ++ (names_of seen ∷ [])) → HasContent content seen
      → gives_arm k.forms union (length (tags_in others)) at content arms ts ≡ Err line → BreaksTags k ms at (arm_tags others) (seen ++ ts) line
  tags_break seen [] content arms line p before e = absurd (fine (content, arms) e)
    where
      fine : (r : Option ℕ × List (ℕ × ℕ)) → Ok r ≡ Err line → ⊥
      fine r e = cc
  tags_break seen (t ∷ ts) content arms line p before e =
      by (tag_at k.forms union t.name) refl
      (λ m found free rest. subst (λ l. BreaksTags k ms at (arm_tags others) l line) (append_assoc seen (t ∷ []) ts)
      (tags_break (seen ++ (t ∷ [])) ts (Some m.1) (arms ++ ((m.0, length (tags_in others)) ∷ [])) line
      (subst (λ l. IsChosen nms (arms ++ ((m.0, length (tags_in others)) ∷ [])) (tags_in others ++ (l ∷ []))) (sym (map-append (λ n. n.name) seen (t ∷ [])))
      (a_tag nms arms (tags_in others) (names_of seen) t.name m p (sym (ap (part_if (tag_part t.name)) here) ∙ found) free))
      (t, m.0, Contains-append_right seen (t ∷ []) t (contains_first t []), found) rest))
      e
    where
      there : Contains (seen ++ (t ∷ ts)) t
      there = Contains-append_right seen (t ∷ ts) t (contains_first t ts)

      content_by : (m : ℕ × ℕ) → tag_at k.forms union t.name ≡ Some m → (c : Option ℕ) → HasContent c seen → agrees c m.1 ≡ false → ◌≡◌ {A = Result (Option ℕ × List (ℕ × ℕ)) ℕ} (Err at) (Err line)
          → BreaksTags k ms at (arm_tags others) (seen ++ (t ∷ ts)) line
      content_by m found None before other e = absurd cc
      content_by m found (Some c) before other e = subst (λ l. BreaksTags k ms at (arm_tags others) (seen ++ (t ∷ ts)) l) (line_is at line e) (differ seen t ts c m before found other)

      agrees_by : (m : ℕ × ℕ) → tag_at k.forms union t.name ≡ Some m → is_free arms m.0 ≡ true → Resumes seen t ts arms line → (b : Bool) → agrees content m.1 ≡ b
          → (if b then gives_arm k.forms union (length (tags_in others)) at (Some m.1) (arms ++ ((m.0, length (tags_in others)) ∷ [])) ts else Err at) ≡ Err line
          → BreaksTags k ms at (arm_tags others) (seen ++ (t ∷ ts)) line
      agrees_by m found free rest true same e = rest m found free e
      agrees_by m found free rest false same e = content_by m found content before same e

      free_by : (m : ℕ × ℕ) → tag_at k.forms union t.name ≡ Some m → Resumes seen t ts arms line → (b : Bool) → is_free arms m.0 ≡ b
          → goes_on k.forms union (length (tags_in others)) at content t ts (if b then Some (m.1, arms ++ ((m.0, length (tags_in others)) ∷ [])) else None) ≡ Err line
          → BreaksTags k ms at (arm_tags others) (seen ++ (t ∷ ts)) line
      free_by m found rest true free e = agrees_by m found free rest (agrees content m.1) refl e
      free_by m found rest false free e =
          subst (λ l. BreaksTags k ms at (arm_tags others) (seen ++ (t ∷ ts)) l) (line_is t.line line e) (again (twice_here seen t ts (taken seen arms t.name m p found free)))

      by : (o : Option (ℕ × ℕ)) → tag_at k.forms union t.name ≡ o → Resumes seen t ts arms line → goes_on k.forms union (length (tags_in others)) at content t ts (chosen_at arms (length (tags_in others)) o) ≡ Err line
          → BreaksTags k ms at (arm_tags others) (seen ++ (t ∷ ts)) line
      by None found rest e = subst (λ l. BreaksTags k ms at (arm_tags others) (seen ++ (t ∷ ts)) l) (line_is t.line line e) (absent t there (no_member t.name found))
      by (Some m) found rest e = free_by m found rest (is_free arms m.0) refl e

tags_break_arm : (k : Known) (denotes : Written → Ty → Type 0) (misnames : Written → ℕ → ℕ → Type 0) (s : scopes.Scope) (x : Option ℕ) (ms : List Member) (others : List Arm) (a : Arm) (line : ℕ)
    → BreaksTags k ms (out-Arm a).line (arm_tags others) (out-Arm a).tags line → BreaksArms k denotes misnames s x ms others (a ∷ []) 18 line
tags_break_arm k denotes misnames s x ms others a _ (absent n there none) =
    parts.BreaksArms.in_one a (contains_first a []) (subst (λ b. BreaksArm k denotes misnames s x ms b 18 n.line) (rolled_arm a) (breaks.no_tag (out-Arm a).line (out-Arm a).tags (out-Arm a).results there none))
tags_break_arm k denotes misnames s x ms others a _ (contents b c n m there p here q e) =
    parts.BreaksArms.in_one a (contains_first a []) (subst (λ d. BreaksArm k denotes misnames s x ms d 18 (out-Arm a).line) (rolled_arm a)
    (breaks.contents (out-Arm a).line b c n m (out-Arm a).tags (out-Arm a).results there p here q e))
tags_break_arm k denotes misnames s x ms others a line (again p) =
    parts.BreaksArms.tag_twice (subst (λ l. IsTwice l line) (ap (λ l. arm_tags others ++ l) (sym (append-nil (out-Arm a).tags)) ∙ sym (flat_map-append (λ arm. (out-Arm arm).tags) others (a ∷ []))) p)

pub arm_tags_refused : ArmTagsLaw
arm_tags_refused g f names a done rule line table p = reach_here g f (BreaksArmsAt g f names (a ∷ []) done rule line) table (record {
  holds = λ union others typed k s ms whole stands number.
      let here : slice_get k.forms union ≡ Some (form.Union typed.members) = union_at k.forms union typed.members (ap (λ l. tags_at l union) whole.same ∙ typed.is_union) in
      let count : length (tags_in others) ≡ length done.results = many_tags others ∙ sym typed.count in
      let refused : gives_arm k.forms union (length (tags_in others)) (out-Arm a).line None done.chosen (out-Arm a).tags ≡ Err line =
      ap (λ l. gives_arm l union (length (tags_in others)) (out-Arm a).line None done.chosen (out-Arm a).tags) whole.same
      ∙ ap (λ n. gives_arm f union n (out-Arm a).line None done.chosen (out-Arm a).tags) count
      ∙ ap (λ u. gives_arm f u (length done.results) (out-Arm a).line None done.chosen (out-Arm a).tags) (sym typed.chosen_union) ∙ p.refused in
      subst (λ r. BreaksArms k (denotes_in g k) (misnames_in g k) s done.name ms others (a ∷ []) r line) (sym p.is_rule)
      (tags_break_arm k (denotes_in g k) (misnames_in g k) s done.name ms others a line
      (tags_break g f k whole.agrees union typed.members ms here number others (out-Arm a).line [] (out-Arm a).tags None done.chosen line (arm_begins typed.members done.chosen (tags_in others) typed.chosen) tt refused));
})
