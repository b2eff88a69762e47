-- What is known of a line is right, by its parts.
use Rattle.std.proofs.Common.{◌≡◌, ◌≢◌, ℕ, zero, suc, ◌<◌, ◌≤◌, ◌⊎◌, inl, inr, Bool, true, List, length, Option, Some, None, refl, sym, ap, ◌∙◌, subst, arith, if◌then◌else◌}
use Rattle.if1_graph.specs.declared.graph.TypeEntry.{TypeEntry}
use Rattle.if1_graph.specs.declared.kind.TypeKind.{TypeKind}
use Rattle.if1_graph.specs.declared.kind.TypeKind.TheVariants as kind
use Rattle.if1_graph.specs.Kinds.{kind_at}
use Rattle.if1_graph.specs.Types.{most_deep}
use Rattle.if1_types.specs.declared.found.Part.{Part}
use Rattle.if1_types.specs.declared.found.Found.{Found}
use Rattle.if1_types.specs.declared.lines.Line.{Line}
use Rattle.if1_types.specs.declared.lines.Line.TheVariants.{Field, Tag, Tuple}
use Rattle.if1_types.specs.Trees.{Tree, leaf, node, over, over_both, member_part, list, tree_of, tree_within}
use Rattle.if1_types.specs.Shapes.{Key, trees_in, tree_at, members_in, Stands}
use Rattle.if1_types.specs.Tables.{is_line}
use Rattle.if1_types.specs.Finds.{part_of, list_of, entry_tree, member_list, IsRight, AreRight}
use Rattle.if1_types.specs.Steps.{Has, IsOver, IsOverPart, IsMember, IsBefore, IsStep}
use Rattle.if1_types.proofs.Bounded.{over_there, both_there, over_some, both_some, node_there, member_below, list_below, within_below}
use Rattle.if1_types.proofs.Looked.{right_part, right_list}

-- a tree that is there has a number
pub number_there : (trees : List Tree) (n : ℕ) (t : Tree) → Stands trees n t → t ≢ leaf → n ≢ 0
number_there trees n t s there z = there (sym s.is ∙ ap (tree_at trees) z)

-- ---- types over one part

right_over : (us : List Tree) (k : ℕ) (t : Tree) (depth : ℕ) (y : Part) (sub : ℕ → Tree) (line : ℕ → ℕ → Tree)
    → t ≢ leaf → sub depth ≡ t → ((d : ℕ) → sub d ≢ leaf → depth ≤ d) → depth < most_deep → Has us y (node k t leaf) (suc depth)
    → ((far : ℕ) → line 0 far ≡ leaf) → ((d far : ℕ) → line (suc d) far ≡ over k (sub d)) → IsRight us line y
right_over us k t depth y sub line there sub_is least less has none more = record {
  within = has.stands.within;
  there = λ e. node_there k t leaf (sym has.stands.is ∙ e);
  is =
      ap (λ d. line d (members_in (tree_at us y.number))) has.depth ∙ more depth (members_in (tree_at us y.number)) ∙ ap (over k) sub_is
      ∙ over_some k t there ∙ sym has.stands.is;
  deep = omega (arith, has.depth, less);
  least = least_of;
}
  where
    least_of : (d far : ℕ) → line d far ≢ leaf → y.depth ≤ d
    least_of zero far h = absurd (h (none far))
    least_of (suc d) far h = let low = least d (over_there k (sub d) (λ e. h (more d far ∙ e))) in omega (arith, low, has.depth)

-- ---- lists

right_before : (us : List Tree) (ts : List TypeEntry) (e : TypeEntry) (is : Option TypeKind → Bool) (a b : Tree) (x rest y : Part)
    → a ≢ leaf → b ≢ leaf → member_part (tree_within x.depth ts) is e ≡ a → list (tree_within rest.depth ts) is ts (members_in b) e.second ≡ b
    → ((d : ℕ) → member_part (tree_within d ts) is e ≢ leaf → x.depth ≤ d) → ((d far : ℕ) → list (tree_within d ts) is ts far e.second ≢ leaf → rest.depth ≤ d)
    → x.depth ≤ most_deep → rest.depth ≤ most_deep
    → Stands us y.number (node 9 a b) → x.depth ≤ y.depth → rest.depth ≤ y.depth → (y.depth ≡ x.depth) ⊎ (y.depth ≡ rest.depth)
    → IsRight us (λ d far. member_list (tree_within d ts) is ts e far) y
right_before us ts e is a b x rest y some_a some_b a_is b_is least_a least_b deep_a deep_b s le_a le_b one = record {
  within = s.within;
  there = λ e. node_there 9 a b (sym s.is ∙ e);
  is = ap (λ t. member_list (tree_within y.depth ts) is ts e (members_in t)) s.is ∙ whole ∙ sym s.is;
  deep = elim one [ inl z ↦ omega (arith, z, deep_a) | inr z ↦ omega (arith, z, deep_b) ];
  least = least_of;
}
  where
    first : member_part (tree_within y.depth ts) is e ≡ a
    first =
        member_below (tree_within x.depth ts) (tree_within y.depth ts) is e (within_below ts x.depth y.depth le_a) (λ z. some_a (sym a_is ∙ z)) ∙ a_is

    others : list (tree_within y.depth ts) is ts (members_in b) e.second ≡ b
    others =
        list_below (tree_within rest.depth ts) (tree_within y.depth ts) is ts (members_in b) (members_in b) e.second (within_below ts rest.depth y.depth le_b) (omega arith)
        (λ z. some_b (sym b_is ∙ z)) ∙ b_is

    whole : over_both 9 (member_part (tree_within y.depth ts) is e) (list (tree_within y.depth ts) is ts (members_in b) e.second) ≡ node 9 a b
    whole = ap (λ t. over_both 9 t (list (tree_within y.depth ts) is ts (members_in b) e.second)) first ∙ ap (over_both 9 a) others ∙ both_some 9 a b some_a some_b

    least_of : (d far : ℕ) → member_list (tree_within d ts) is ts e far ≢ leaf → y.depth ≤ d
    least_of d zero h = absurd (h refl)
    least_of d (suc far) h =
        let both = both_there 9 (member_part (tree_within d ts) is e) (list (tree_within d ts) is ts far e.second) h in
        let low = least_a d both.0 in
        let also = least_b d far both.1 in
        elim one [ inl z ↦ omega (arith, z, low) | inr z ↦ omega (arith, z, also) ]

-- ---- a line of each kind

module _ (old new : List Key) (ts : List TypeEntry) (found : Found) (e : TypeEntry) (y : Part) (right : AreRight (trees_in old) ts found) where
  abbrev Steps : Type 0
  Steps = IsStep old new ts found e (kind_at e.code) y

  step_at : (k : Option TypeKind) → kind_at e.code ≡ k → IsStep old new ts found e k y → Steps
  step_at k is h = subst (λ k. IsStep old new ts found e k y) (sym is) h

  entry_more : (k : Option TypeKind) (d : ℕ) → kind_at e.code ≡ k → entry_tree ts e (suc d) ≡ tree_of (tree_within d ts) ts e k
  entry_more k d is = ap (tree_of (tree_within d ts) ts e) is

  over_new : (k : ℕ) (x : Part) (sub : ℕ → Tree) → IsOverPart old new k x y → (x.number ≢ 0 → IsRight (trees_in old) (λ d far. sub d) x)
      → ((d : ℕ) → entry_tree ts e (suc d) ≡ over k (sub d)) → (y.number ≢ 0) × IsRight (trees_in new) (λ d far. entry_tree ts e d) y
  over_new k x sub h right_x more =
      let r = right_x h.some in (
        number_there (trees_in new) y.number (node k (tree_at (trees_in old) x.number) leaf) h.has.stands (node_there k (tree_at (trees_in old) x.number) leaf),
        right_over (trees_in new) k (tree_at (trees_in old) x.number) x.depth y sub (λ d far. entry_tree ts e d) r.there r.is (λ d. r.least d 0) h.less h.has (λ far. refl) (λ d far. more d),
      )

  type_known : (l : ℕ) → (part_of None ts found.parts l).number ≢ 0 → IsRight (trees_in old) (λ d far. tree_within d ts l) (part_of None ts found.parts l)
  type_known l known = right_part (trees_in old) ts found None l right tt known

  pub array_step : kind_at e.code ≡ Some kind.Array → IsOver old new 4 (part_of None ts found.parts e.first) y → Steps
  array_step is (inl h) = step_at (Some kind.Array) is (inl h)
  array_step is (inr h) =
      let n = over_new 4 (part_of None ts found.parts e.first) (λ d. tree_within d ts e.first) h (type_known e.first) (λ d. entry_more (Some kind.Array) d is) in
      step_at (Some kind.Array) is (inr (record { some = n.0; right = n.1 }))

  pub stream_step : kind_at e.code ≡ Some kind.Stream → IsOver old new 5 (part_of None ts found.parts e.first) y → Steps
  stream_step is (inl h) = step_at (Some kind.Stream) is (inl h)
  stream_step is (inr h) =
      let n = over_new 5 (part_of None ts found.parts e.first) (λ d. tree_within d ts e.first) h (type_known e.first) (λ d. entry_more (Some kind.Stream) d is) in
      step_at (Some kind.Stream) is (inr (record { some = n.0; right = n.1 }))

  -- a list as long as there are lines
  whole_known : (line : Line) (l : ℕ) → (list_of (trees_in old) line ts found l).number ≢ 0
      → IsRight (trees_in old) (λ d far. list (tree_within d ts) (is_line line) ts (length ts) l) (list_of (trees_in old) line ts found l)
  whole_known line l known =
      let x = list_of (trees_in old) line ts found l in
      let r = right_list (trees_in old) line ts found l right known in
      record {
        within = r.right.within;
        there = r.right.there;
        is =
            list_below (tree_within x.depth ts) (tree_within x.depth ts) (is_line line) ts (members_in (tree_at (trees_in old) x.number)) (length ts) l (λ m h. refl) r.few
            (λ z. r.right.there (sym r.right.is ∙ z)) ∙ r.right.is;
        deep = r.right.deep;
        least = λ d far h. r.right.least d (length ts) h;
      }

  pub record_step : kind_at e.code ≡ Some kind.Record → IsOver old new 6 (list_of (trees_in old) Field ts found e.first) y → Steps
  record_step is (inl h) = step_at (Some kind.Record) is (inl h)
  record_step is (inr h) =
      let n = over_new 6 (list_of (trees_in old) Field ts found e.first) (λ d. list (tree_within d ts) (is_line Field) ts (length ts) e.first) h (whole_known Field e.first) (λ d. entry_more (Some kind.Record) d is) in
      step_at (Some kind.Record) is (inr (record { some = n.0; right = n.1 }))

  pub union_step : kind_at e.code ≡ Some kind.Union → IsOver old new 7 (list_of (trees_in old) Tag ts found e.first) y → Steps
  union_step is (inl h) = step_at (Some kind.Union) is (inl h)
  union_step is (inr h) =
      let n = over_new 7 (list_of (trees_in old) Tag ts found e.first) (λ d. list (tree_within d ts) (is_line Tag) ts (length ts) e.first) h (whole_known Tag e.first) (λ d. entry_more (Some kind.Union) d is) in
      step_at (Some kind.Union) is (inr (record { some = n.0; right = n.1 }))

  -- a member before the rest of its list
  before_new : (line : Line) → is_line line (kind_at e.code) ≡ true
      → IsBefore old new (part_of None ts found.parts e.first) (list_of (trees_in old) line ts found e.second) y
      → (y.number ≢ 0) × IsRight (trees_in new) (λ d far. member_list (tree_within d ts) (is_line line) ts e far) y
  before_new line on h =
      let x = part_of None ts found.parts e.first in
      let rest = list_of (trees_in old) line ts found e.second in
      let r = type_known e.first h.first in
      let s = right_list (trees_in old) line ts found e.second right h.second in
      let part_is : (d : ℕ) → member_part (tree_within d ts) (is_line line) e ≡ tree_within d ts e.first =
      λ d. ap (λ b. if b then tree_within d ts e.first else leaf) on in (
        number_there (trees_in new) y.number (node 9 (tree_at (trees_in old) x.number) (tree_at (trees_in old) rest.number)) h.stands (node_there 9 (tree_at (trees_in old) x.number) (tree_at (trees_in old) rest.number)),
        right_before (trees_in new) ts e (is_line line) (tree_at (trees_in old) x.number) (tree_at (trees_in old) rest.number) x rest y r.there s.right.there (part_is x.depth ∙ r.is) s.right.is
            (λ d g. r.least d 0 (λ z. g (part_is d ∙ z))) s.right.least r.deep s.right.deep h.stands h.deeper h.deep h.one,
      )

  pub field_step : kind_at e.code ≡ Some kind.Field → IsMember old new (part_of None ts found.parts e.first) (list_of (trees_in old) Field ts found e.second) y → Steps
  field_step is (inl h) = step_at (Some kind.Field) is (inl h)
  field_step is (inr h) = let n = before_new Field (ap (is_line Field) is) h in step_at (Some kind.Field) is (inr (record { some = n.0; right = n.1 }))

  pub tag_step : kind_at e.code ≡ Some kind.Tag → IsMember old new (part_of None ts found.parts e.first) (list_of (trees_in old) Tag ts found e.second) y → Steps
  tag_step is (inl h) = step_at (Some kind.Tag) is (inl h)
  tag_step is (inr h) = let n = before_new Tag (ap (is_line Tag) is) h in step_at (Some kind.Tag) is (inr (record { some = n.0; right = n.1 }))

  pub tuple_step : kind_at e.code ≡ Some kind.Tuple → IsMember old new (part_of None ts found.parts e.first) (list_of (trees_in old) Tuple ts found e.second) y → Steps
  tuple_step is (inl h) = step_at (Some kind.Tuple) is (inl h)
  tuple_step is (inr h) = let n = before_new Tuple (ap (is_line Tuple) is) h in step_at (Some kind.Tuple) is (inr (record { some = n.0; right = n.1 }))
