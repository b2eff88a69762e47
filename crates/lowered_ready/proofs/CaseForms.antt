-- The arms of `tagcase` and of `is t(u)`, by the tags of the union.
use Rattle.std.proofs.Common.{◌≡◌, ℕ, zero, suc, ◌+◌, ◌<◌, ◌≤◌, Bool, true, false, List, [], ◌∷◌, ◌++◌, map, length, slice_get, Option, Some, refl, sym, ap, subst, ◌∙◌, arith, nat_eq}
use Rattle.std.specs.Prelude.{All, Contains, nat_lt, if◌then◌else◌}
use Rattle.std.proofs.lemmas.Bool.{ltb-true, ltb-false}
use Rattle.std.proofs.lemmas.List.{length-map}
use Rattle.std.proofs.lemmas.List.Elements.{All-nil, All-cons}
use Rattle.std.proofs.lemmas.Option.{same_Some}
use Rattle.flow_value.specs.declared.ty.Ty.{Ty}
use Rattle.flow_value.specs.declared.ty.Ty.TheVariants as ty
use Rattle.flow_value.specs.declared.ty.Ty.TheOpen.{Ty-F}
use Rattle.flow_value.specs.declared.ty.Ty.TheViews.{out-Ty}
use Rattle.if1_graph.specs.declared.op.Compound.TheVariants as compound
use Rattle.if1_graph.specs.declared.op.Part.TheVariants as part
use Rattle.if1_graph.specs.Tables.{at_port}
use Rattle.sisal_tree.specs.declared.expr.Constant.{Constant}
use Rattle.sisal_tree.specs.declared.expr.Constant.TheVariants as constant
use Rattle.type_table.specs.declared.form.Form.{Form}
use Rattle.type_table.specs.declared.form.Member.{Member as NumberedMember}
use Rattle.type_table.specs.Tables.{members_if}
use Rattle.typed_tree.specs.declared.expr.Case.{Case}
use Rattle.typed_tree.specs.Types.{Member, IsNumber, AreMembers, AreNumbers}
use Rattle.typed_tree.specs.Types as number
use Rattle.lowering.specs.Meaning.{arm_place}
use Rattle.lowering_meaning.specs.FittingTreesFitting.{TagsFit, IsChosen}
use Rattle.lowering.specs.declared.feed.Feed.TheVariants.{Port}
use Rattle.lowering.specs.declared.feed.Carried.{Carried}
use Rattle.lowering.specs.declared.feed.Carried.TheVariants.{One}
use Rattle.lowering.specs.declared.feed.Wire.{Wire}
use Rattle.lowering.specs.Feeds.{wire, into}
use Rattle.lowering.specs.Graphs.{closed_graphs, inputs, size, new_graph, new_graphs}
use Rattle.lowering.specs.Operations.{Lowers, wire_at, all_lowered}
use Rattle.lowering.specs.Choices.{content_of, tag_count, type_of, arms_of, arms_from_tag, arm_names, arms_from, first_tag, case_lowered, two_arms, truth, is_tag_lowered}
use Rattle.lowering_meaning.proofs.BuiltTrees.{out-bool, out-char, out-int, out-null, out-array, out-stream, out-record, out-union}
use Rattle.lowering_meaning.proofs.Wired.{IsTyped, typed-both, typed-into, first-typed, the-number, content-typed}
use Rattle.lowered_ready.specs.Ports.{Outs}
use Rattle.lowered_ready.proofs.Scopes.{Level, level, all-into, in-both}
use Rattle.lowered_ready.proofs.Closing as closing
use Rattle.lowered_ready.proofs.World.{World, Which, Of, In, Does, ArmsTo, to_no_arm, to_named_arm, to_arm}
use Rattle.lowered_ready.proofs.Wholes.{Made, Sit}
use Rattle.lowered_ready.proofs.RuleForms as forms_are
use Rattle.lowered_ready.proofs.Operations.{Scope}
use Rattle.lowered_ready.proofs.Cases.{ContentFits, ArmsMade, no_arm_made, arm_made, tag-right}

module _ (x : World) where
  -- ---- how many tags a union has

  abbrev HasCount : ℕ → Ty-F Ty → Type 0
  HasCount n (Ty-F.Uni ms) = tag_count x.forms n ≡ length ms
  HasCount n _ = Unit {0}

  has-count : (n : ℕ) (t : Ty) → IsNumber x.forms x.names n t → HasCount n (out-Ty t)
  has-count n _ (number.boolean e) = subst (HasCount n) (sym out-bool) tt
  has-count n _ (number.character e) = subst (HasCount n) (sym out-char) tt
  has-count n _ (number.integer e) = subst (HasCount n) (sym out-int) tt
  has-count n _ (number.null e) = subst (HasCount n) (sym out-null) tt
  has-count n _ (number.array {t = t} e h) = subst (HasCount n) (sym (out-array t)) tt
  has-count n _ (number.stream {t = t} e h) = subst (HasCount n) (sym (out-stream t)) tt
  has-count n _ (number.a_record {fs = fs} e h) = subst (HasCount n) (sym (out-record fs)) tt
  has-count n _ (number.a_union {ms = ms} {fs = fs} e h) = subst (HasCount n) (sym (out-union fs)) (ap (λ (o : Option Form). length (members_if o)) e ∙ many ms fs h)
    where
      many : (ms : List NumberedMember) (fs : List Member) → AreMembers x.forms x.names ms fs → length ms ≡ length fs
      many _ _ number.no_member = refl
      many _ _ (number.a_member {ms = ms} {fs = fs} e h r) = ap suc (many ms fs r)

  tags-counted : (n : ℕ) (ms : List Member) → IsNumber x.forms x.names n (ty.Uni ms) → tag_count x.forms n ≡ length ms
  tags-counted n ms h = subst (HasCount n) (out-union ms) (has-count n (ty.Uni ms) h)

  -- ---- the arm of each tag

  tags-length : (c : Case) (from count : ℕ) → length (arms_from_tag c from count) ≡ count
  tags-length c from zero = refl
  tags-length c from (suc count) = ap suc (tags-length c (suc from) count)

  tags-within : (arms : ℕ) (contents : List Ty) (c : Case) (from : ℕ) (ms : List Member) → TagsFit arms contents c from ms → All (λ k. k < arms) (arms_from_tag c from (length ms))
  tags-within arms contents c from [] h = All-nil (λ k. k < arms)
  tags-within arms contents c from (m ∷ ms) h = All-cons (λ k. k < arms) (arm_place c.choices c.others from) (arms_from_tag c (suc from) (length ms)) h.0 (tags-within arms contents c (suc from) ms h.2)

  tag-content : (arms : ℕ) (contents : List Ty) (c : Case) (from : ℕ) (ms : List Member) → TagsFit arms contents c from ms → (tag k : ℕ) → slice_get (arms_from_tag c from (length ms)) tag ≡ Some k
      → (m : Member) × (slice_get ms tag ≡ Some m) × ((a : Ty) → slice_get contents k ≡ Some a → a ≡ m.1)
  tag-content arms contents c from [] h tag k e = absurd cc
  tag-content arms contents c from (m ∷ ms) h zero k e = (m, refl, λ a f. h.1 a (subst (λ i. slice_get contents i ≡ Some a) (sym (same_Some (arm_place c.choices c.others from) k e)) f))
  tag-content arms contents c from (m ∷ ms) h (suc tag) k e = tag-content arms contents c (suc from) ms h.2 tag k e

  -- ---- the graphs of arms

  -- arms from a place on, of which the first so many see the content of the tag that is theirs
  arms-made : (γ tys : List Ty) (named : ℕ) (arms : List (List Lowers)) (contents : List Ty) → ArmsTo x γ named arms contents tys → (ms : List Member) (list : List ℕ) (c : Case) (type k q : ℕ) → c.named ≤ k + named → (1 ≤ named → c.named ≡ k + named)
      → ((d : ℕ) (a : Ty) → d < named → slice_get contents d ≡ Some a → IsNumber x.forms x.names (content_of x.forms type (first_tag c (k + d))) a × ((tag : ℕ) → slice_get list tag ≡ Some (k + d) → (m : Member) × (slice_get ms tag ≡ Some m) × (a ≡ m.1)))
      → (l : Level) (ls : List Level) (env : List Wire) → Of x γ env → In x (l ∷ ls) env → (ks : List Wire) → Sit x q (closed_graphs ks 1 0 (new_graphs q (arms_from x.forms c type k (map all_lowered arms) env)))
      → ArmsMade x (l ∷ ls) tys ms list k (new_graphs q (arms_from x.forms c type k (map all_lowered arms) env))
  arms-made _ _ _ _ _ (to_no_arm γ tys) ms list c type k q few count fits l ls env t i ks s = no_arm_made
  arms-made _ _ _ _ _ (to_named_arm γ tys named g gs a contents h r) ms list c type k q few count fits l ls env t i ks s =
      let f = all_lowered g (arm_names x.forms c type k env) in
      let rest = arms_from x.forms c type (suc k) (map all_lowered gs) env in
      let m = new_graph f q in
      let b = content_of x.forms type (first_tag c k) in
      let z : k + 0 ≡ k = omega arith in
      let one = fits 0 a (omega arith) refl in
      let content = subst (λ d. IsNumber x.forms x.names (content_of x.forms type (first_tag c d)) a) z one.0 in
      let sits = closing.sits-inside x.forms x.names x.sort x.at q ks 1 0 m (new_graphs (q + size m) rest) s in
      let all = count (omega arith) in
      arm_made (One b ∷ []) m (new_graphs (q + size m) rest) (by (nat_lt k c.named) refl all content sits) (λ j e f. own j e f content (subst (λ d. (tag : ℕ) → slice_get list tag ≡ Some d → (m : Member) × (slice_get ms tag ≡ Some m) × (a ≡ m.1)) z one.1))
      (arms-made γ tys named gs contents r ms list c type (suc k) (q + size m) (omega (arith, all)) (λ n. omega (arith, all))
      (λ d e n f.
      let y : k + suc d ≡ suc k + d = omega arith in
      let here = fits (suc d) e (omega (arith, n)) f in
      (subst (λ d. IsNumber x.forms x.names (content_of x.forms type (first_tag c d)) e) y here.0, subst (λ d. (tag : ℕ) → slice_get list tag ≡ Some d → (m : Member) × (slice_get ms tag ≡ Some m) × (e ≡ m.1)) y here.1)) l ls env t i ks
      (closing.others x.forms x.names x.sort x.at q ks 1 0 m (new_graphs (q + size m) rest) s))
    where
      B : ℕ
      B = content_of x.forms type (first_tag c k)

      -- what the arm sees
      own : (j : ℕ) (e : Carried) → at_port j (One B ∷ []) ≡ Some e → IsNumber x.forms x.names B a → ((tag : ℕ) → slice_get list tag ≡ Some k → (m : Member) × (slice_get ms tag ≡ Some m) × (a ≡ m.1))
          → (j ≡ 1) × (a : Ty) × IsTyped x.forms x.names e a × ((tag : ℕ) → slice_get list tag ≡ Some k → (m : Member) × (slice_get ms tag ≡ Some m) × (a ≡ m.1))
      own zero e f n h = absurd cc
      own (suc zero) e f n h = (refl, a, subst (λ e. IsTyped x.forms x.names e a) (same_Some (One B) e f) n, h)
      own (suc (suc j)) e f n h = absurd cc

      -- however the names in the arm are told
      by : (o : Bool) → nat_lt k c.named ≡ o → c.named ≡ k + suc named → IsNumber x.forms x.names B a
          → Sit x (suc q) (new_graph (all_lowered g (if o then map into env ++ wire (Port 0 0 1) (One B) ∷ [] else map into env)) q).graphs
          → Made x (Some (compound.TagCase, part.Arm)) (One B ∷ []) (l ∷ ls) (Of x tys) (new_graph (all_lowered g (if o then map into env ++ wire (Port 0 0 1) (One B) ∷ [] else map into env)) q)
      by true e n content sits =
          let w = wire (Port 0 0 1) (One B) in
          forms_are.all-does x (γ ++ a ∷ []) g tys h (Some (compound.TagCase, part.Arm)) (One B ∷ []) [] (l ∷ ls) (map into env ++ w ∷ []) (typed-both x.forms x.names (map into env) (w ∷ []) γ (a ∷ []) (typed-into x.forms x.names env γ t) ((content, tt), tt))
          (in-both x.forms x.names (level (One B ∷ []) [] ∷ l ∷ ls) (map into env) (w ∷ []) (all-into x.forms x.names l (level (One B ∷ []) []) ls env γ t i) (refl, tt)) (suc q) sits
      by false e n content sits = let f = ltb-false k c.named e in absurd (omega (arith, f, n))
  arms-made _ _ _ _ _ (to_arm γ tys g gs h r) ms list c type k q few count fits l ls env t i ks s =
      let f = all_lowered g (arm_names x.forms c type k env) in
      let rest = arms_from x.forms c type (suc k) (map all_lowered gs) env in
      let m = new_graph f q in
      let sits = closing.sits-inside x.forms x.names x.sort x.at q ks 1 0 m (new_graphs (q + size m) rest) s in
      arm_made [] m (new_graphs (q + size m) rest) (by (nat_lt k c.named) refl sits) (λ j e f. absurd (none j e f))
      (arms-made γ tys 0 gs [] r ms list c type (suc k) (q + size m) (omega (arith, few)) (λ n. absurd (omega (arith, n))) (λ d e n f. absurd (omega (arith, n))) l ls env t i ks
      (closing.others x.forms x.names x.sort x.at q ks 1 0 m (new_graphs (q + size m) rest) s))
    where
      none : (j : ℕ) (e : Carried) → at_port j [] ≡ Some e → ⊥
      none zero e f = cc
      none (suc j) e f = cc

      by : (o : Bool) → nat_lt k c.named ≡ o
          → Sit x (suc q) (new_graph (all_lowered g (if o then map into env ++ wire (Port 0 0 1) (One (content_of x.forms type (first_tag c k))) ∷ [] else map into env)) q).graphs
          → Made x (Some (compound.TagCase, part.Arm)) [] (l ∷ ls) (Of x tys) (new_graph (all_lowered g (if o then map into env ++ wire (Port 0 0 1) (One (content_of x.forms type (first_tag c k))) ∷ [] else map into env)) q)
      by true e sits = let f = ltb-true k c.named e in absurd (omega (arith, f, few))
      by false e sits = forms_are.all-does x γ g tys h (Some (compound.TagCase, part.Arm)) [] [] (l ∷ ls) (map into env) (typed-into x.forms x.names env γ t) (all-into x.forms x.names l (level [] []) ls env γ t i) (suc q) sits

  length-arms : (c : Case) (type k q : ℕ) (gs : List Lowers) (env : List Wire) → length (new_graphs q (arms_from x.forms c type k gs env)) ≡ length gs
  length-arms c type k q [] env = refl
  length-arms c type k q (g ∷ gs) env = ap suc (length-arms c type (suc k) (q + size (new_graph (g (arm_names x.forms c type k env)) q)) gs env)

  first-wire : (ws : List Wire) (ls : List Level) (a : Ty) → Of x (a ∷ []) ws → In x ls ws → Of x (a ∷ []) (wire_at ws 0 ∷ []) × In x ls (wire_at ws 0 ∷ [])
  first-wire [] ls a t i = absurd t
  first-wire (w ∷ []) ls a t i = (t, i)
  first-wire (w ∷ v ∷ ws) ls a t i = absurd t.1

  pub case-does : (γ tys contents : List Ty) (ms : List Member) (c : Case) (arms : List (List Lowers)) (ns : List ℕ) (ws : List Wire) → ArmsTo x γ c.named arms contents tys → TagsFit (length arms) contents c 0 ms
      → ((k : ℕ) → k < c.named → Contains (map (λ x. x.arm) c.choices) k) → All (IsChosen c (length arms) (length ms)) c.choices → 1 ≤ length arms → AreNumbers x.forms x.names ns tys
      → (p : Which) (own : List Carried) (before : List Outs) (ls : List Level) (env : List Wire) → Of x γ env → In x (level own before ∷ ls) env → Of x (ty.Uni ms ∷ []) ws → In x (level own before ∷ ls) ws → Does x p own before ls (Of x tys) (case_lowered x.forms c arms ns ws env)
  case-does γ tys contents ms c [] ns ws a tags named chosen one num p own before ls env t i tu iu q s = absurd (omega (arith, one))
  case-does γ tys contents ms c (g ∷ gs) ns ws a tags named chosen one num p own before ls env t i tu iu q s =
      let type = type_of (wire_at ws 0).ty in
      let list = arms_of c (tag_count x.forms type) in
      let u = the-number x.forms x.names (wire_at ws 0).ty (ty.Uni ms) (first-typed x.forms x.names ws (ty.Uni ms) tu) in
      let counted = tags-counted type ms u in
      let same : arms_from_tag c 0 (length ms) ≡ list = ap (arms_from_tag c 0) (sym counted) in
      let w = first-wire ws (level own before ∷ ls) (ty.Uni ms) tu iu in
      let made = new_graphs q (arms_from x.forms c type 0 (map all_lowered (g ∷ gs)) env) in
      let many : length made ≡ length (g ∷ gs) = length-arms c type 0 q (map all_lowered (g ∷ gs)) env ∙ length-map (g ∷ gs) all_lowered in
      tag-right x p own before ls tys ms list (wire_at ws 0) (new_graph (all_lowered g (arm_names x.forms c type 0 env)) q) (new_graphs (q + size (new_graph (all_lowered g (arm_names x.forms c type 0 env)) q)) (arms_from x.forms c type 1 (map all_lowered gs) env)) ns q
      (arms-made γ tys c.named (g ∷ gs) contents a ms list c type 0 q (omega arith) (λ n. omega arith)
      (λ d e n f.
      let z : d ≡ 0 + d = omega arith in (
        subst (λ d. IsNumber x.forms x.names (content_of x.forms type (first_tag c d)) e) z (content-typed x.forms x.names type ms contents c (length (g ∷ gs)) u tags chosen d (named d n) e f),
        λ tag k.
            let r = tag-content (length (g ∷ gs)) contents c 0 ms tags tag (0 + d) (subst (λ l. slice_get l tag ≡ Some (0 + d)) (sym same) k) in
            (r.0, r.1, r.2 e (subst (λ i. slice_get contents i ≡ Some e) z f)),
      )) (level own before) ls env t i (inputs made) s)
      w.0 w.1 num (subst (λ n. All (λ k. k < n) list) (sym many) (subst (All (λ k. k < length (g ∷ gs))) same (tags-within (length (g ∷ gs)) contents c 0 ms tags))) (tags-length c 0 (tag_count x.forms type) ∙ counted) s

  -- ---- `is t(u)`

  two-within : (tag from count : ℕ) → All (λ k. k < 2) (two_arms x.forms tag from count)
  two-within tag from zero = All-nil (λ k. k < 2)
  two-within tag from (suc count) = All-cons (λ k. k < 2) (if nat_eq from tag then 0 else 1) (two_arms x.forms tag (suc from) count) (by (nat_eq from tag)) (two-within tag (suc from) count)
    where
      by : (b : Bool) → (if b then 0 else 1) < 2
      by true = omega arith
      by false = omega arith

  two-length : (tag from count : ℕ) → length (two_arms x.forms tag from count) ≡ count
  two-length tag from zero = refl
  two-length tag from (suc count) = ap suc (two-length tag (suc from) count)

  pub is-tag-does : (p : Which) (own : List Carried) (before : List Outs) (ls : List Level) (ms : List Member) (tag : ℕ) (ws : List Wire) (n : ℕ) → IsNumber x.forms x.names n ty.Bool → Of x (ty.Uni ms ∷ []) ws → Scope x p own before ls ws
      → Does x p own before ls (Of x (ty.Bool ∷ [])) (is_tag_lowered x.forms tag ws (n ∷ []))
  is-tag-does p own before ls ms tag ws n num t i q s =
      let type = type_of (wire_at ws 0).ty in
      let list = two_arms x.forms tag 0 (tag_count x.forms type) in
      let counted = tags-counted type ms (the-number x.forms x.names (wire_at ws 0).ty (ty.Uni ms) (first-typed x.forms x.names ws (ty.Uni ms) t)) in
      let w = first-wire ws (level own before ∷ ls) (ty.Uni ms) t i in
      let yes = new_graph (truth x.forms constant.True) q in
      let no_arm = new_graph (truth x.forms constant.False) (q + size yes) in
      tag-right x p own before ls (ty.Bool ∷ []) ms list (wire_at ws 0) yes (no_arm ∷ []) (n ∷ []) q
      (arm_made [] yes (no_arm ∷ []) (truth-made constant.True q) (none list 0) (arm_made [] no_arm [] (truth-made constant.False (q + size yes)) (none list 1) no_arm_made))
      w.0 w.1 (num, tt) (two-within tag 0 (tag_count x.forms type)) (two-length tag 0 (tag_count x.forms type) ∙ counted) s
    where
      none : (list : List ℕ) (k : ℕ) → ContentFits x ms list k []
      none list k zero c e = absurd cc
      none list k (suc j) c e = absurd cc

      truth-made : (c : Constant) (q : ℕ) → Made x (Some (compound.TagCase, part.Arm)) [] (level own before ∷ ls) (Of x (ty.Bool ∷ [])) (new_graph (truth x.forms c) q)
      truth-made c q = record { outs = []; nodes = tt; wires = (tt, tt); values = ((x.booleans, tt), tt); graphs = tt }
