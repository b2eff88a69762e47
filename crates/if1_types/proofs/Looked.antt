-- What is known of a label is what is known of its line.
use Rattle.std.proofs.Common.{◌≡◌, ◌≢◌, ℕ, zero, suc, ◌<◌, ◌≤◌, ◌==◌, ◌⊎◌, inl, inr, Bool, true, false, List, [], ◌∷◌, length, slice_get, nat_le, Option, Some, None, option_map, refl, sym, ap, ◌∙◌, subst, arith, true≢false, if◌then◌else◌}
use Rattle.std.proofs.lemmas.Bool.{cases_eq, ne_eqb, leb-true}
use Rattle.std.proofs.lemmas.List.{length-map}
use Rattle.if1_graph.specs.declared.graph.TypeEntry.{TypeEntry}
use Rattle.if1_graph.specs.declared.kind.TypeKind.{TypeKind}
use Rattle.if1_graph.specs.declared.kind.TypeKind.TheVariants as kind
use Rattle.if1_graph.specs.Kinds.{kind_at}
use Rattle.if1_graph.specs.Types.{entry_at}
use Rattle.if1_types.specs.declared.found.Part.{Part}
use Rattle.if1_types.specs.declared.found.Found.{Found}
use Rattle.if1_types.specs.declared.lines.Line.{Line}
use Rattle.if1_types.specs.declared.lines.Line.TheVariants.{Field, Tag, Tuple}
use Rattle.if1_types.specs.Trees.{Tree, leaf, ending, list, tree_within}
use Rattle.if1_types.specs.Shapes.{tree_at, members_in, Stands}
use Rattle.if1_types.specs.Tables.{labels_in, is_line}
use Rattle.if1_types.specs.Finds.{nothing, part_at, place_of, is_type, is_on, part_in, part_of, shorter, list_of, entry_tree, member_list, line_tree, IsRight, IsRightIfKnown, AreRight}
use Rattle.if1_types.proofs.Bounded.{node_there, list_from, type_on}

-- ---- the line of a label

abbrev entry_there : List TypeEntry → Option ℕ → Option TypeEntry
entry_there ts None = None
entry_there ts (Some p) = slice_get ts p

entry_by_place : (ts : List TypeEntry) (l : ℕ) → entry_at ts l ≡ entry_there ts (place_of (labels_in ts) l)
entry_by_place [] l = refl
entry_by_place (t ∷ ts) l = by (t.label == l) (place_of (labels_in ts) l) (entry_by_place ts l)
  where
    by : (b : Bool) (o : Option ℕ) → entry_at ts l ≡ entry_there ts o
        → (if b then Some t else entry_at ts l) ≡ entry_there (t ∷ ts) (if b then Some 0 else option_map suc o)
    by true o e = refl
    by false None e = e
    by false (Some p) e = e

place_within : (ls : List ℕ) (l p : ℕ) → place_of ls l ≡ Some p → p < length ls
place_within [] l p e = cc
place_within (x ∷ xs) l p e = by (x == l) (place_of xs l) (λ q i. place_within xs l q i) e
  where
    by : (b : Bool) (o : Option ℕ) → ((q : ℕ) → o ≡ Some q → q < length xs) → (if b then Some 0 else option_map suc o) ≡ Some p → p < suc (length xs)
    by true o within e = let z : 0 ≡ p = cc in omega (arith, z)
    by false None within e = cc
    by false (Some q) within e = let z : suc q ≡ p = cc in omega (arith, z, within q refl)

entry_got : (ts : List TypeEntry) (p : ℕ) → p < length ts → (e : TypeEntry) × (slice_get ts p ≡ Some e)
entry_got [] p h = absurd (omega (arith, h))
entry_got (t ∷ ts) zero h = (t, refl)
entry_got (t ∷ ts) (suc p) h = entry_got ts p (omega (arith, h))

pub record IsThere (ts : List TypeEntry) (l : ℕ) : Type 0 where
  pub place : ℕ
  pub entry : TypeEntry
  pub is : place_of (labels_in ts) l ≡ Some place
  pub at : slice_get ts place ≡ Some entry
  pub found : entry_at ts l ≡ Some entry

pub record IsAbsent (ts : List TypeEntry) (l : ℕ) : Type 0 where
  pub is : place_of (labels_in ts) l ≡ None
  pub found : entry_at ts l ≡ None

pub sought : (ts : List TypeEntry) (l : ℕ) → IsAbsent ts l ⊎ IsThere ts l
sought ts l = by (place_of (labels_in ts) l) refl
  where
    by : (o : Option ℕ) → place_of (labels_in ts) l ≡ o → IsAbsent ts l ⊎ IsThere ts l
    by None e = inl (record { is = e; found = entry_by_place ts l ∙ ap (entry_there ts) e })
    by (Some p) e =
        let got = entry_got ts p (omega (arith, place_within (labels_in ts) l p e, length-map ts (λ (e : TypeEntry). e.label))) in
        inr (record { place = p; entry = got.0; is = e; at = got.1; found = entry_by_place ts l ∙ ap (entry_there ts) e ∙ got.1 })

pub no_part : (wanted : Option Line) (ts : List TypeEntry) (ps : List Part) (l : ℕ) → IsAbsent ts l → part_of wanted ts ps l ≡ nothing
no_part wanted ts ps l a = ap (λ o. elim o [ None ↦ nothing | Some p ↦ part_in wanted ts ps p ]) a.is

part_there : (wanted : Option Line) (ts : List TypeEntry) (ps : List Part) (l : ℕ) (t : IsThere ts l)
    → part_of wanted ts ps l ≡ (if is_on wanted (kind_at t.entry.code) then part_at ps t.place else nothing)
part_there wanted ts ps l t =
    ap (λ o. elim o [ None ↦ nothing | Some p ↦ part_in wanted ts ps p ]) t.is
    ∙ ap (λ o. elim o [ None ↦ nothing | Some e ↦ if is_on wanted (kind_at e.code) then part_at ps t.place else nothing ]) t.at

pub part_is : (wanted : Option Line) (ts : List TypeEntry) (ps : List Part) (l : ℕ) (t : IsThere ts l) → is_on wanted (kind_at t.entry.code) ≡ true → part_of wanted ts ps l ≡ part_at ps t.place
part_is wanted ts ps l t on = part_there wanted ts ps l t ∙ ap (λ b. if b then part_at ps t.place else nothing) on

-- ---- what the label stands for

abbrev pub wanted_tree : List TypeEntry → Option Line → ℕ → ℕ → ℕ → Tree
wanted_tree ts None l d far = tree_within d ts l
wanted_tree ts (Some line) l d far = list (tree_within d ts) (is_line line) ts far l

type_line : (ts : List TypeEntry) (e : TypeEntry) (k : Option TypeKind) (d far : ℕ) → is_type k ≡ true → line_tree ts e k d far ≡ entry_tree ts e d
type_line ts e None d far on = refl
type_line ts e (Some kind.Basic) d far on = refl
type_line ts e (Some kind.Array) d far on = refl
type_line ts e (Some kind.Stream) d far on = refl
type_line ts e (Some kind.Record) d far on = refl
type_line ts e (Some kind.Union) d far on = refl
type_line ts e (Some kind.Function) d far on = refl
type_line ts e (Some kind.Multiple) d far on = refl
type_line ts e (Some kind.Field) d far on = absurd (true≢false (sym on))
type_line ts e (Some kind.Tag) d far on = absurd (true≢false (sym on))
type_line ts e (Some kind.Tuple) d far on = absurd (true≢false (sym on))

-- the kind of the lines of a list
abbrev pub line_kind : Line → TypeKind
line_kind Field = kind.Field
line_kind Tag = kind.Tag
line_kind Tuple = kind.Tuple

pub on_line : (line : Line) (k : Option TypeKind) → is_line line k ≡ true → k ≡ Some (line_kind line)
on_line Field None on = absurd (true≢false (sym on))
on_line Field (Some kind.Array) on = absurd (true≢false (sym on))
on_line Field (Some kind.Basic) on = absurd (true≢false (sym on))
on_line Field (Some kind.Field) on = refl
on_line Field (Some kind.Function) on = absurd (true≢false (sym on))
on_line Field (Some kind.Multiple) on = absurd (true≢false (sym on))
on_line Field (Some kind.Record) on = absurd (true≢false (sym on))
on_line Field (Some kind.Stream) on = absurd (true≢false (sym on))
on_line Field (Some kind.Tag) on = absurd (true≢false (sym on))
on_line Field (Some kind.Tuple) on = absurd (true≢false (sym on))
on_line Field (Some kind.Union) on = absurd (true≢false (sym on))
on_line Tag None on = absurd (true≢false (sym on))
on_line Tag (Some kind.Array) on = absurd (true≢false (sym on))
on_line Tag (Some kind.Basic) on = absurd (true≢false (sym on))
on_line Tag (Some kind.Field) on = absurd (true≢false (sym on))
on_line Tag (Some kind.Function) on = absurd (true≢false (sym on))
on_line Tag (Some kind.Multiple) on = absurd (true≢false (sym on))
on_line Tag (Some kind.Record) on = absurd (true≢false (sym on))
on_line Tag (Some kind.Stream) on = absurd (true≢false (sym on))
on_line Tag (Some kind.Tag) on = refl
on_line Tag (Some kind.Tuple) on = absurd (true≢false (sym on))
on_line Tag (Some kind.Union) on = absurd (true≢false (sym on))
on_line Tuple None on = absurd (true≢false (sym on))
on_line Tuple (Some kind.Array) on = absurd (true≢false (sym on))
on_line Tuple (Some kind.Basic) on = absurd (true≢false (sym on))
on_line Tuple (Some kind.Field) on = absurd (true≢false (sym on))
on_line Tuple (Some kind.Function) on = absurd (true≢false (sym on))
on_line Tuple (Some kind.Multiple) on = absurd (true≢false (sym on))
on_line Tuple (Some kind.Record) on = absurd (true≢false (sym on))
on_line Tuple (Some kind.Stream) on = absurd (true≢false (sym on))
on_line Tuple (Some kind.Tag) on = absurd (true≢false (sym on))
on_line Tuple (Some kind.Tuple) on = refl
on_line Tuple (Some kind.Union) on = absurd (true≢false (sym on))

line_list : (ts : List TypeEntry) (e : TypeEntry) (line : Line) (d far : ℕ) → line_tree ts e (Some (line_kind line)) d far ≡ member_list (tree_within d ts) (is_line line) ts e far
line_list ts e Field d far = refl
line_list ts e Tag d far = refl
line_list ts e Tuple d far = refl

list_line : (ts : List TypeEntry) (e : TypeEntry) (line : Line) (k : Option TypeKind) (d far : ℕ) → is_line line k ≡ true → line_tree ts e k d far ≡ member_list (tree_within d ts) (is_line line) ts e far
list_line ts e line k d far on = ap (λ k. line_tree ts e k d far) (on_line line k on) ∙ line_list ts e line d far

entry_within : (ts : List TypeEntry) (l : ℕ) (e : TypeEntry) (d : ℕ) → entry_at ts l ≡ Some e → entry_tree ts e d ≡ tree_within d ts l
entry_within ts l e zero found = refl
entry_within ts l e (suc d) found = sym (ap (type_on (tree_within d ts) ts) found)

member_within : (ts : List TypeEntry) (line : Line) (l : ℕ) (e : TypeEntry) (d far : ℕ) → l ≢ 0 → entry_at ts l ≡ Some e
    → member_list (tree_within d ts) (is_line line) ts e far ≡ list (tree_within d ts) (is_line line) ts far l
member_within ts line zero e d far some found = absurd (some refl)
member_within ts line (suc l) e d zero some found = refl
member_within ts line (suc l) e d (suc far) some found =
    sym (ap (list_from (tree_within d ts) (is_line line) ts far) found)

-- a type, or a list that doesn't begin with label 0
abbrev pub IsSome : Option Line → ℕ → Type 0
IsSome None l = Unit {0}
IsSome (Some line) l = l ≢ 0

same_tree : (ts : List TypeEntry) (wanted : Option Line) (l : ℕ) (e : TypeEntry) (d far : ℕ) → IsSome wanted l → entry_at ts l ≡ Some e → is_on wanted (kind_at e.code) ≡ true
    → line_tree ts e (kind_at e.code) d far ≡ wanted_tree ts wanted l d far
same_tree ts None l e d far some found on = type_line ts e (kind_at e.code) d far on ∙ entry_within ts l e d found
same_tree ts (Some line) l e d far some found on = list_line ts e line (kind_at e.code) d far on ∙ member_within ts line l e d far some found

-- ---- what is known is right

pub right_part : (trees : List Tree) (ts : List TypeEntry) (found : Found) (wanted : Option Line) (l : ℕ) → AreRight trees ts found → IsSome wanted l
    → IsRightIfKnown trees (wanted_tree ts wanted l) (part_of wanted ts found.parts l)
right_part trees ts found wanted l right some known = elim (sought ts l) [
  | inl a ↦ absurd (known (ap (λ x. x.number) (no_part wanted ts found.parts l a)))
  | inr t ↦ by t (is_on wanted (kind_at t.entry.code)) refl
]
  where
    by : (t : IsThere ts l) (b : Bool) → is_on wanted (kind_at t.entry.code) ≡ b → IsRight trees (wanted_tree ts wanted l) (part_of wanted ts found.parts l)
    by t false off =
        absurd (known (ap (λ x. x.number) (part_there wanted ts found.parts l t ∙ ap (λ b. if b then part_at found.parts t.place else nothing) off)))
    by t true on =
        let is = part_is wanted ts found.parts l t on in
        let tree : line_tree ts t.entry (kind_at t.entry.code) ≡ wanted_tree ts wanted l =
        λ j d far. same_tree ts wanted l t.entry d far some t.found on j in
        subst (λ x. IsRight trees (wanted_tree ts wanted l) x) (sym is)
        (subst (λ tree. IsRight trees tree (part_at found.parts t.place)) tree
        (right.known t.place t.entry t.at (λ z. known (ap (λ x. x.number) is ∙ z))))

pub part_within : (trees : List Tree) (ts : List TypeEntry) (found : Found) (wanted : Option Line) (l : ℕ) → AreRight trees ts found → (part_of wanted ts found.parts l).number ≤ length trees
part_within trees ts found wanted l right = elim (sought ts l) [
  | inl a ↦ let z = ap (λ x. x.number) (no_part wanted ts found.parts l a) in omega (arith, z)
  | inr t ↦ by t (is_on wanted (kind_at t.entry.code)) (part_there wanted ts found.parts l t)
]
  where
    inside : (p : ℕ) (e : TypeEntry) → slice_get ts p ≡ Some e → (part_at found.parts p).number ≤ length trees
    inside p e at = elim (cases_eq (part_at found.parts p).number 0) [
      | inl z ↦ omega (arith, z)
      | inr some ↦ (right.known p e at some).within
    ]

    by : (t : IsThere ts l) (b : Bool) → part_of wanted ts found.parts l ≡ (if b then part_at found.parts t.place else nothing) → (part_of wanted ts found.parts l).number ≤ length trees
    by t true is = let z = ap (λ x. x.number) is in omega (arith, z, inside t.place t.entry t.at)
    by t false is = let z = ap (λ x. x.number) is in omega (arith, z)

-- ---- lists

shorter_within : (trees : List Tree) (far : ℕ) (x : Part) → x.number ≤ length trees → (shorter trees far x).number ≤ length trees
shorter_within trees far x h = by (nat_le (members_in (tree_at trees x.number)) far)
  where
    by : (b : Bool) → (if b then x else nothing).number ≤ length trees
    by true = h
    by false = omega arith

pub list_within : (trees : List Tree) (line : Line) (ts : List TypeEntry) (found : Found) (l : ℕ) → AreRight trees ts found → (list_of trees line ts found l).number ≤ length trees
list_within trees line ts found l right = by (l == 0)
  where
    by : (b : Bool) → (if b then record { number = found.end; depth = 0 } else shorter trees (length ts) (part_of (Some line) ts found.parts l)).number ≤ length trees
    by true = right.end.within
    by false = shorter_within trees (length ts) (part_of (Some line) ts found.parts l) (part_within trees ts found (Some line) l right)

pub list_at : (trees : List Tree) (line : Line) (ts : List TypeEntry) (found : Found) (l : ℕ) → l ≢ 0 → list_of trees line ts found l ≡ shorter trees (length ts) (part_of (Some line) ts found.parts l)
list_at trees line ts found l some =
    ap (λ b. if b then record { number = found.end; depth = 0 } else shorter trees (length ts) (part_of (Some line) ts found.parts l)) (ne_eqb l 0 some)

pub record IsRightList (trees : List Tree) (ts : List TypeEntry) (line : Line) (l : ℕ) (x : Part) : Type 0 where
  pub right : IsRight trees (wanted_tree ts (Some line) l) x
  pub few : members_in (tree_at trees x.number) ≤ length ts

right_end : (trees : List Tree) (ts : List TypeEntry) (line : Line) (end : ℕ) → Stands trees end ending → IsRightList trees ts line 0 (record { number = end; depth = 0 })
right_end trees ts line end s = record {
  right = record {
    within = s.within;
    there = λ e. node_there 8 leaf leaf (sym s.is ∙ e);
    is = sym s.is;
    deep = omega arith;
    least = λ d far h. omega arith;
  };
  few = let z = ap members_in s.is in omega (arith, z);
}

pub right_list : (trees : List Tree) (line : Line) (ts : List TypeEntry) (found : Found) (l : ℕ) → AreRight trees ts found → (list_of trees line ts found l).number ≢ 0
    → IsRightList trees ts line l (list_of trees line ts found l)
right_list trees line ts found zero right known = right_end trees ts line found.end right.end
right_list trees line ts found (suc l) right known =
    subst (IsRightList trees ts line (suc l)) (sym at) (by (nat_le (members_in (tree_at trees x.number)) (length ts)) refl (subst (λ y. y.number ≢ 0) at known))
  where
    some : suc l ≢ 0
    some z = omega (arith, z)

    x : Part
    x = part_of (Some line) ts found.parts (suc l)

    at : list_of trees line ts found (suc l) ≡ shorter trees (length ts) x
    at = list_at trees line ts found (suc l) some

    by : (b : Bool) → nat_le (members_in (tree_at trees x.number)) (length ts) ≡ b → (if b then x else nothing).number ≢ 0 → IsRightList trees ts line (suc l) (if b then x else nothing)
    by false e known = absurd (known refl)
    by true e known = record { right = right_part trees ts found (Some line) (suc l) right some known; few = leb-true (members_in (tree_at trees x.number)) (length ts) e }
