-- Where no more can be known of any line, everything is known.
use Rattle.std.proofs.Common.{◌≡◌, ◌≢◌, ℕ, zero, suc, ◌<◌, ◌≤◌, ◌⊎◌, inl, inr, Bool, true, false, List, [], ◌∷◌, length, slice_get, Option, Some, None, refl, sym, ap, ◌∙◌, subst, arith, if◌then◌else◌}
use Rattle.std.proofs.lemmas.Bool.{cases_eq, le-leb}
use Rattle.if1_graph.specs.declared.graph.TypeEntry.{TypeEntry}
use Rattle.if1_graph.specs.declared.kind.TypeKind.{TypeKind}
use Rattle.if1_graph.specs.declared.kind.TypeKind.TheVariants as kind
use Rattle.if1_graph.specs.Kinds.{kind_at}
use Rattle.if1_graph.specs.Types.{is_field, is_tag, most_deep}
use Rattle.if1_types.specs.declared.found.Part.{Part}
use Rattle.if1_types.specs.declared.found.Found.{Found}
use Rattle.if1_types.specs.declared.lines.Line.{Line}
use Rattle.if1_types.specs.declared.lines.Line.TheVariants.{Field, Tag, Tuple}
use Rattle.if1_types.specs.Trees.{Tree, leaf, node, ending, over_both, member_part, list, tree_of, tree_within}
use Rattle.if1_types.specs.Shapes.{tree_at, members_in, Stands}
use Rattle.if1_types.specs.Tables.{is_line}
use Rattle.if1_types.specs.Finds.{nothing, part_of, list_of, is_type, IsRight, AreRight, IsShut, IsStuck, IsSettled, AreFound}
use Rattle.if1_types.proofs.Bounded.{list_from, type_on, over_there, both_there, node_there, list_below, within_below, same_list, members_few}
use Rattle.if1_types.proofs.Looked.{IsThere, IsAbsent, sought, part_is, part_within, right_part, list_at, list_within, right_list, line_kind, on_line}
use Rattle.if1_types.proofs.Stepped.{number_there}

leaf_or : (t : Tree) → (t ≡ leaf) ⊎ (t ≢ leaf)
leaf_or leaf = inl refl
leaf_or (node k a b) = inr (node_there k a b)

module _ (trees : List Tree) (ts : List TypeEntry) (found : Found) (right : AreRight trees ts found) (settled : (p : ℕ) → p < length ts → IsSettled trees ts found p) where
  abbrev Types : ℕ → Type 0
  Types d = (l : ℕ) → tree_within d ts l ≢ leaf → (part_of None ts found.parts l).number ≢ 0

  abbrev Lists : ℕ → Type 0
  Lists d = (line : Line) (far l : ℕ) → far ≤ length ts → list (tree_within d ts) (is_line line) ts far l ≢ leaf → (list_of trees line ts found l).number ≢ 0

  got_within : (ts : List TypeEntry) (p : ℕ) (e : TypeEntry) → slice_get ts p ≡ Some e → p < length ts
  got_within [] p e h = cc
  got_within (t ∷ ts) zero e h = omega arith
  got_within (t ∷ ts) (suc p) e h = let w = got_within ts p e h in omega (arith, w)

  -- ---- types

  open_part : (d l : ℕ) → d < most_deep → Types d → tree_within d ts l ≢ leaf → IsShut (part_of None ts found.parts l) → ⊥
  open_part d l less types there (inl z) = types l there z
  open_part d l less types there (inr z) =
      let low = (right_part trees ts found None l right tt (types l there)).least d 0 there in omega (arith, less, low, z)

  open_list : (d : ℕ) (line : Line) (l : ℕ) → d < most_deep → Lists d → list (tree_within d ts) (is_line line) ts (length ts) l ≢ leaf → IsShut (list_of trees line ts found l) → ⊥
  open_list d line l less lists there (inl z) = lists line (length ts) l (omega arith) there z
  open_list d line l less lists there (inr z) =
      let low = (right_list trees line ts found l right (lists line (length ts) l (omega arith) there)).right.least d (length ts) there in omega (arith, less, low, z)

  type_open : (d : ℕ) (e : TypeEntry) (k : Option TypeKind) → d < most_deep → Types d → Lists d → tree_of (tree_within d ts) ts e k ≢ leaf → IsStuck trees ts found e k → ⊥
  type_open d e None less types lists there stuck = there refl
  type_open d e (Some kind.Basic) less types lists there stuck = there stuck
  type_open d e (Some kind.Array) less types lists there stuck = open_part d e.first less types (over_there 4 (tree_within d ts e.first) there) stuck
  type_open d e (Some kind.Stream) less types lists there stuck = open_part d e.first less types (over_there 5 (tree_within d ts e.first) there) stuck
  type_open d e (Some kind.Record) less types lists there stuck =
      open_list d Field e.first less lists (over_there 6 (list (tree_within d ts) is_field ts (length ts) e.first) there) stuck
  type_open d e (Some kind.Union) less types lists there stuck =
      open_list d Tag e.first less lists (over_there 7 (list (tree_within d ts) is_tag ts (length ts) e.first) there) stuck
  type_open d e (Some kind.Field) less types lists there stuck = there refl
  type_open d e (Some kind.Function) less types lists there stuck = there refl
  type_open d e (Some kind.Multiple) less types lists there stuck = there refl
  type_open d e (Some kind.Tag) less types lists there stuck = there refl
  type_open d e (Some kind.Tuple) less types lists there stuck = there refl

  on_type : (d : ℕ) (e : TypeEntry) (k : Option TypeKind) → tree_of (tree_within d ts) ts e k ≢ leaf → is_type k ≡ true
  on_type d e None there = refl
  on_type d e (Some kind.Basic) there = refl
  on_type d e (Some kind.Array) there = refl
  on_type d e (Some kind.Stream) there = refl
  on_type d e (Some kind.Record) there = refl
  on_type d e (Some kind.Union) there = refl
  on_type d e (Some kind.Function) there = refl
  on_type d e (Some kind.Multiple) there = refl
  on_type d e (Some kind.Field) there = absurd (there refl)
  on_type d e (Some kind.Tag) there = absurd (there refl)
  on_type d e (Some kind.Tuple) there = absurd (there refl)

  types_more : (d : ℕ) → d < most_deep → Types d → Lists d → Types (suc d)
  types_more d less types lists l there = elim (sought ts l) [
    | inl a ↦ absurd (there (ap (type_on (tree_within d ts) ts) a.found))
    | inr t ↦ by t (λ z. there (ap (type_on (tree_within d ts) ts) t.found ∙ z))
  ]
    where
      by : (t : IsThere ts l) → tree_of (tree_within d ts) ts t.entry (kind_at t.entry.code) ≢ leaf → (part_of None ts found.parts l).number ≢ 0
      by t there z =
          let is = part_is None ts found.parts l t (on_type d t.entry (kind_at t.entry.code) there) in
          elim (settled t.place (got_within ts t.place t.entry t.at) t.entry t.at) [
            | inl known ↦ known (sym (ap (λ x. x.number) is) ∙ z)
            | inr stuck ↦ type_open d t.entry (kind_at t.entry.code) less types lists there stuck
          ]

  -- ---- lists

  stuck_line : (line : Line) (e : TypeEntry) → IsStuck trees ts found e (Some (line_kind line))
      → ((part_of None ts found.parts e.first).number ≡ 0) ⊎ ((list_of trees line ts found e.second).number ≡ 0)
  stuck_line Field e stuck = stuck
  stuck_line Tag e stuck = stuck
  stuck_line Tuple e stuck = stuck

  stuck_list : (line : Line) (e : TypeEntry) (k : Option TypeKind) → is_line line k ≡ true → IsStuck trees ts found e k
      → ((part_of None ts found.parts e.first).number ≡ 0) ⊎ ((list_of trees line ts found e.second).number ≡ 0)
  stuck_list line e k on stuck = stuck_line line e (subst (IsStuck trees ts found e) (on_line line k on) stuck)

  member_on : (d : ℕ) (line : Line) (e : TypeEntry) → member_part (tree_within d ts) (is_line line) e ≢ leaf → (is_line line (kind_at e.code) ≡ true) × (tree_within d ts e.first ≢ leaf)
  member_on d line e = by (is_line line (kind_at e.code))
    where
      by : (b : Bool) → (if b then tree_within d ts e.first else leaf) ≢ leaf → (b ≡ true) × (tree_within d ts e.first ≢ leaf)
      by true h = (refl, h)
      by false h = absurd (h refl)

  -- a list that is there is not too long
  list_some : (d : ℕ) (line : Line) (far l : ℕ) → l ≢ 0 → far ≤ length ts → list (tree_within d ts) (is_line line) ts far l ≢ leaf → (part_of (Some line) ts found.parts l).number ≢ 0
      → (list_of trees line ts found l).number ≢ 0
  list_some d line far l some few there known z =
      known (sym (ap (λ y. y.number) (list_at trees line ts found l some ∙ ap (λ b. if b then x else nothing) (le-leb (members_in (tree_at trees x.number)) (length ts) short))) ∙ z)
    where
      x : Part
      x = part_of (Some line) ts found.parts l

      r : IsRight trees (λ d far. list (tree_within d ts) (is_line line) ts far l) x
      r = right_part trees ts found (Some line) l right some known

      same : tree_at trees x.number ≡ list (tree_within d ts) (is_line line) ts far l
      same = sym r.is ∙ same_list (is_line line) ts x.depth (members_in (tree_at trees x.number)) d far l (λ z. r.there (sym r.is ∙ z)) there

      short : members_in (tree_at trees x.number) ≤ length ts
      short = let m = ap members_in same in let n = members_few (tree_within d ts) (is_line line) ts far l in omega (arith, m, n, few)

  lists_more : (d : ℕ) → Types d → Lists d
  lists_more d types line far zero few there = number_there trees found.end ending right.end (node_there 8 leaf leaf)
  lists_more d types line zero (suc l) few there = absurd (there refl)
  lists_more d types line (suc far) (suc l) few there =
      list_some d line (suc far) (suc l) (λ z. omega (arith, z)) few there (known (λ m. lists_more d types line far m (omega (arith, few))) (sought ts (suc l)))
    where
      by : ((m : ℕ) → list (tree_within d ts) (is_line line) ts far m ≢ leaf → (list_of trees line ts found m).number ≢ 0)
          → (t : IsThere ts (suc l)) → over_both 9 (member_part (tree_within d ts) (is_line line) t.entry) (list (tree_within d ts) (is_line line) ts far t.entry.second) ≢ leaf
          → (part_of (Some line) ts found.parts (suc l)).number ≢ 0
      by rest t there z =
          let both = both_there 9 (member_part (tree_within d ts) (is_line line) t.entry) (list (tree_within d ts) (is_line line) ts far t.entry.second) there in
          let on = member_on d line t.entry both.0 in
          let is = part_is (Some line) ts found.parts (suc l) t on.0 in
          elim (settled t.place (got_within ts t.place t.entry t.at) t.entry t.at) [
            | inl known ↦ known (sym (ap (λ x. x.number) is) ∙ z)
            | inr stuck ↦ elim (stuck_list line t.entry (kind_at t.entry.code) on.0 stuck) [ inl none ↦ types t.entry.first on.1 none | inr none ↦ rest t.entry.second both.1 none ]
          ]

      known : ((m : ℕ) → list (tree_within d ts) (is_line line) ts far m ≢ leaf → (list_of trees line ts found m).number ≢ 0) → IsAbsent ts (suc l) ⊎ IsThere ts (suc l)
          → (part_of (Some line) ts found.parts (suc l)).number ≢ 0
      known rest (inl a) = absurd (there (ap (list_from (tree_within d ts) (is_line line) ts far) a.found))
      known rest (inr t) = by rest t (λ z. there (ap (list_from (tree_within d ts) (is_line line) ts far) t.found ∙ z))

  -- ---- at each depth

  pub all_known : (d : ℕ) → d ≤ most_deep → Types d × Lists d
  all_known zero le = let types : Types 0 = λ l h. absurd (h refl) in (types, lists_more 0 types)
  all_known (suc d) le =
      let before = all_known d (omega (arith, le)) in
      let types = types_more d (omega (arith, le)) before.0 before.1 in
      (types, lists_more (suc d) types)

  type_found : (l : ℕ) → Stands trees (part_of None ts found.parts l).number (tree_within most_deep ts l)
  type_found l = record { within = part_within trees ts found None l right; is = elim (leaf_or (tree_within most_deep ts l)) [ inl none ↦ absent none | inr some ↦ there some ] }
    where
      x : Part
      x = part_of None ts found.parts l

      from : (x.number ≢ 0) → tree_at trees x.number ≡ tree_within most_deep ts l
      from known =
          let r = right_part trees ts found None l right tt known in
          sym r.is ∙ sym (within_below ts x.depth most_deep r.deep l (λ z. r.there (sym r.is ∙ z)))

      there : tree_within most_deep ts l ≢ leaf → tree_at trees x.number ≡ tree_within most_deep ts l
      there some = from ((all_known most_deep (omega arith)).0 l some)

      absent : tree_within most_deep ts l ≡ leaf → tree_at trees x.number ≡ tree_within most_deep ts l
      absent none = elim (cases_eq x.number 0) [ inl z ↦ ap (tree_at trees) z ∙ sym none | inr known ↦ from known ]

  list_found : (line : Line) (l : ℕ) → Stands trees (list_of trees line ts found l).number (list (tree_within most_deep ts) (is_line line) ts (length ts) l)
  list_found line l = record {
    within = list_within trees line ts found l right;
    is = elim (leaf_or (list (tree_within most_deep ts) (is_line line) ts (length ts) l)) [ inl none ↦ absent none | inr some ↦ there some ];
  }
    where
      x : Part
      x = list_of trees line ts found l

      from : (x.number ≢ 0) → tree_at trees x.number ≡ list (tree_within most_deep ts) (is_line line) ts (length ts) l
      from known =
          let r = right_list trees line ts found l right known in
          sym r.right.is
          ∙ sym (list_below (tree_within x.depth ts) (tree_within most_deep ts) (is_line line) ts (members_in (tree_at trees x.number)) (length ts) l
          (within_below ts x.depth most_deep r.right.deep) r.few (λ z. r.right.there (sym r.right.is ∙ z)))

      there : list (tree_within most_deep ts) (is_line line) ts (length ts) l ≢ leaf → tree_at trees x.number ≡ list (tree_within most_deep ts) (is_line line) ts (length ts) l
      there some = from ((all_known most_deep (omega arith)).1 line (length ts) l (omega arith) some)

      absent : list (tree_within most_deep ts) (is_line line) ts (length ts) l ≡ leaf → tree_at trees x.number ≡ list (tree_within most_deep ts) (is_line line) ts (length ts) l
      absent none = elim (cases_eq x.number 0) [ inl z ↦ ap (tree_at trees) z ∙ sym none | inr known ↦ from known ]

  pub all_found : AreFound trees ts found
  all_found = record {
    within = λ wanted l. part_within trees ts found wanted l right;
    types = type_found;
    lists = list_found;
  }
