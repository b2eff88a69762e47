-- What is known after a step of the walk.
use Rattle.std.proofs.Common.{◌≡◌, ◌≢◌, ℕ, zero, suc, ◌+◌, ◌<◌, ◌≤◌, ◌==◌, inl, inr, Bool, true, false, List, [], ◌∷◌, length, set, replicate, slice_get, nat_le, Option, Some, refl, sym, ap, ◌∙◌, subst, arith, if◌then◌else◌}
use Rattle.std.proofs.lemmas.Bool.{cases_eq, ne_eqb}
use Rattle.std.proofs.lemmas.Option.{same_Some}
use Rattle.std.proofs.lemmas.List.{length-set, length-replicate, get_or-set_same, get_or-set_other, get_or-replicate}
use Rattle.std.proofs.lemmas.List.Sums.{sum_by-cons}
use Rattle.if1_graph.specs.declared.graph.TypeEntry.{TypeEntry}
use Rattle.if1_graph.specs.declared.kind.TypeKind.{TypeKind}
use Rattle.if1_graph.specs.Kinds.{kind_at}
use Rattle.if1_graph.specs.Types.{most_deep}
use Rattle.if1_types.specs.declared.found.Part.{Part}
use Rattle.if1_types.specs.declared.found.Found.{Found}
use Rattle.if1_types.specs.declared.lines.Line.{Line}
use Rattle.if1_types.specs.Trees.{Tree, ending, list, tree_within}
use Rattle.if1_types.specs.Shapes.{Key, trees_in, members_in, IsLater, Stands}
use Rattle.if1_types.specs.Tables.{labels_in, is_line}
use Rattle.if1_types.specs.Finds.{nothing, part_at, part_of, list_of, line_tree, unknown, unknown_in, freshness, unmet_in, IsRight, AreRight, AreFound}
use Rattle.if1_types.specs.Steps.{IsStep, Grows}
use Rattle.if1_types.proofs.Keeping.{stands_later, tree_later, later_same, later_then}

-- ---- later trees

pub right_later : (trees us : List Tree) (tree : ℕ → ℕ → Tree) (x : Part) → IsLater trees us → IsRight trees tree x → IsRight us tree x
right_later trees us tree x l r =
    let same = tree_later trees us x.number l r.within in
    record {
      within = (stands_later l (record { within = r.within; is = refl })).within;
      there = λ z. r.there (sym same ∙ z);
      is = ap (λ t. tree x.depth (members_in t)) same ∙ r.is ∙ sym same;
      deep = r.deep;
      least = r.least;
    }

pub found_later : (trees us : List Tree) (ts : List TypeEntry) (found : Found) → IsLater trees us → AreFound trees ts found → AreFound us ts found
found_later trees us ts found l h = record {
  within = λ wanted m. (stands_later l (record { within = h.within wanted m; is = refl })).within;
  types = λ m. stands_later l (h.types m);
  lists = λ line m. subst (λ x. Stands us x.number (list (tree_within most_deep ts) (is_line line) ts (length ts) m)) (sym (same_list line m)) (stands_later l (h.lists line m));
}
  where
    same_list : (line : Line) (m : ℕ) → list_of us line ts found m ≡ list_of trees line ts found m
    same_list line m =
        let x = part_of (Some line) ts found.parts m in
        ap (λ t. if m == 0 then record { number = found.end; depth = 0 } else (if nat_le (members_in t) (length ts) then x else nothing)) (tree_later trees us x.number l (h.within (Some line) m))

-- ---- a line more

got_within : (ts : List TypeEntry) (p : ℕ) (e : TypeEntry) → slice_get ts p ≡ Some e → p < length ts
got_within [] p e h = cc
got_within (t ∷ ts) zero e h = omega arith
got_within (t ∷ ts) (suc p) e h = let w = got_within ts p e h in omega (arith, w)

pub place_in : (trees : List Tree) (ts : List TypeEntry) (found : Found) (p : ℕ) (e : TypeEntry) → AreRight trees ts found → Some e ≡ slice_get ts p → p < length found.parts
place_in trees ts found p e right h = let w = got_within ts p e (sym h) in omega (arith, w, right.fits)

pub unknown_some : (ps : List Part) (p : ℕ) → p < length ps → (part_at ps p).number ≡ 0 → 0 < unknown_in ps
unknown_some [] p h z = absurd (omega (arith, h))
unknown_some (x ∷ ps) zero h z =
    let one : unknown x ≡ 1 = ap (λ n. if n == 0 then 1 else 0) z in
    let all : unknown_in (x ∷ ps) ≡ unknown x + unknown_in ps = sum_by-cons unknown x ps in
    omega (arith, one, all)
unknown_some (x ∷ ps) (suc p) h z =
    let rest = unknown_some ps p (omega (arith, h)) z in
    let all : unknown_in (x ∷ ps) ≡ unknown x + unknown_in ps = sum_by-cons unknown x ps in
    omega (arith, rest, all)

unknown_set : (ps : List Part) (p : ℕ) (y : Part) → p < length ps → (part_at ps p).number ≡ 0 → y.number ≢ 0 → suc (unknown_in (set ps p y)) ≡ unknown_in ps
unknown_set [] p y h z some = absurd (omega (arith, h))
unknown_set (x ∷ ps) zero y h z some =
    let was : unknown x ≡ 1 = ap (λ n. if n == 0 then 1 else 0) z in
    let is : unknown y ≡ 0 = ap (λ b. if b then 1 else 0) (ne_eqb y.number 0 some) in
    let before : unknown_in (x ∷ ps) ≡ unknown x + unknown_in ps = sum_by-cons unknown x ps in
    let after : unknown_in (set (x ∷ ps) 0 y) ≡ unknown y + unknown_in ps = sum_by-cons unknown y ps in
    omega (arith, was, is, before, after)
unknown_set (x ∷ ps) (suc p) y h z some =
    let rest = unknown_set ps p y (omega (arith, h)) z some in
    let before : unknown_in (x ∷ ps) ≡ unknown x + unknown_in ps = sum_by-cons unknown x ps in
    let after : unknown_in (set (x ∷ ps) (suc p) y) ≡ unknown x + unknown_in (set ps p y) = sum_by-cons unknown x (set ps p y) in
    omega (arith, rest, before, after)

pub unknown_less : (trees : List Tree) (ts : List TypeEntry) (found : Found) (p : ℕ) (e : TypeEntry) (y : Part) (parts : List Part) → AreRight trees ts found → Some e ≡ slice_get ts p
    → (part_at found.parts p).number ≡ 0 → y.number ≢ 0 → parts ≡ set found.parts p y → suc (unknown_in parts) ≡ unknown_in found.parts
unknown_less trees ts found p e y parts right at none some is =
    ap (λ ps. suc (unknown_in ps)) is ∙ unknown_set found.parts p y (place_in trees ts found p e right at) none some

step_right : (old new : List Key) (ts : List TypeEntry) (found : Found) (e : TypeEntry) (k : Option TypeKind) (y : Part) → IsStep old new ts found e k y → y.number ≢ 0 → IsRight (trees_in new) (line_tree ts e k) y
step_right old new ts found e k y (inl h) some = absurd (some (ap (λ x. x.number) h.1.is))
step_right old new ts found e k y (inr h) some = h.right

pub grows_set : (ts : List TypeEntry) (old new : List Key) (found : Found) (p : ℕ) (e : TypeEntry) (y : Part) (parts : List Part) → AreRight (trees_in old) ts found → IsLater (trees_in old) (trees_in new)
    → length (trees_in new) ≤ suc (length (trees_in old)) → Some e ≡ slice_get ts p → (part_at found.parts p).number ≡ 0 → IsStep old new ts found e (kind_at e.code) y → y.number ≢ 0
    → parts ≡ set found.parts p y → Grows ts old new found (record { labels = found.labels; end = found.end; parts = parts })
grows_set ts old new found p e y parts right later grows at none step some is = record {
  later = later;
  right = record {
    labels = right.labels;
    fits = ap length is ∙ length-set found.parts p y ∙ right.fits;
    end = stands_later later right.end;
    known = λ q d got. subst (λ ps. (part_at ps q).number ≢ 0 → IsRight (trees_in new) (line_tree ts d (kind_at d.code)) (part_at ps q)) (sym is) (by q d got);
  };
  few = let less = unknown_less (trees_in old) ts found p e y parts right at none some is in omega (arith, less, grows);
}
  where
    by : (q : ℕ) (d : TypeEntry) → slice_get ts q ≡ Some d → (part_at (set found.parts p y) q).number ≢ 0 → IsRight (trees_in new) (line_tree ts d (kind_at d.code)) (part_at (set found.parts p y) q)
    by q d got known = elim (cases_eq q p) [
      | inl same ↦
          let this : part_at (set found.parts p y) q ≡ y = ap (part_at (set found.parts p y)) same ∙ get_or-set_same found.parts p y nothing (place_in (trees_in old) ts found p e right at) in
          let line : d ≡ e = same_Some d e (sym got ∙ ap (slice_get ts) same ∙ sym at) in
          subst (λ x. IsRight (trees_in new) (line_tree ts d (kind_at d.code)) x) (sym this)
          (subst (λ d. IsRight (trees_in new) (line_tree ts d (kind_at d.code)) y) (sym line) (step_right old new ts found e (kind_at e.code) y step some))
      | inr other ↦
          let this : part_at (set found.parts p y) q ≡ part_at found.parts q = get_or-set_other found.parts p q y nothing other in
          subst (λ x. IsRight (trees_in new) (line_tree ts d (kind_at d.code)) x) (sym this)
          (right_later (trees_in old) (trees_in new) (line_tree ts d (kind_at d.code)) (part_at found.parts q) later (right.known q d got (λ z. known (ap (λ x. x.number) this ∙ z))))
    ]

-- ---- steps after steps

pub grows_same : (ts : List TypeEntry) (old : List Key) (found : Found) → AreRight (trees_in old) ts found → Grows ts old old found found
grows_same ts old found right = record { later = later_same (trees_in old); right = right; few = omega arith }

pub grows_then : (ts : List TypeEntry) (old new more : List Key) (before found after : Found) → Grows ts old new before found → Grows ts new more found after → Grows ts old more before after
grows_then ts old new more before found after g h = record { later = later_then g.later h.later; right = h.right; few = omega (arith, g.few, h.few) }

-- nothing is known at first
pub right_none : (trees : List Tree) (ts : List TypeEntry) (found : Found) → found.labels ≡ labels_in ts → found.parts ≡ replicate (length ts) nothing → Stands trees found.end ending → AreRight trees ts found
right_none trees ts found labels none end = record {
  labels = labels;
  fits = ap length none ∙ length-replicate (length ts) nothing;
  end = end;
  known = λ p e got known. absurd (known (ap (λ ps. (part_at ps p).number) none ∙ ap (λ x. x.number) (get_or-replicate (length ts) p nothing nothing (got_within ts p e got))));
}

pub unknown_all : (n : ℕ) → unknown_in (replicate n nothing) ≡ n
unknown_all zero = refl
unknown_all (suc n) =
    let more : unknown_in (replicate (suc n) nothing) ≡ 1 + unknown_in (replicate n nothing) = sum_by-cons unknown nothing (replicate n nothing) in
    omega (arith, more, unknown_all n)

-- ---- places that were met

pub unmet_set : (met : List Bool) (p : ℕ) → slice_get met p ≡ Some false → suc (unmet_in (set met p true)) ≤ unmet_in met
unmet_set [] p h = cc
unmet_set (b ∷ met) zero h =
    let is : b ≡ false = same_Some b false h in
    let one : freshness b ≡ 1 = ap freshness is in
    let now : unmet_in (set (b ∷ met) 0 true) ≡ 0 + unmet_in met = sum_by-cons freshness true met in
    let was : unmet_in (b ∷ met) ≡ freshness b + unmet_in met = sum_by-cons freshness b met in
    omega (arith, one, now, was)
unmet_set (b ∷ met) (suc p) h =
    let now : unmet_in (set (b ∷ met) (suc p) true) ≡ freshness b + unmet_in (set met p true) = sum_by-cons freshness b (set met p true) in
    omega (arith, now, sum_by-cons freshness b met, unmet_set met p h)
