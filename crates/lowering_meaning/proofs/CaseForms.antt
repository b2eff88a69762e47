-- A `tagcase` gives what the source gives.
use Rattle.std.proofs.Common.{◌≡◌, ℕ, zero, suc, ◌+◌, ◌*◌, ◌<◌, true, List, [], ◌∷◌, ◌++◌, map, length, slice_get, Option, Some, refl, sym, ap, ◌∙◌, subst, arith, append-nil}
use Rattle.flow_value.specs.declared.value.Val.{Val}
use Rattle.flow_value.specs.declared.value.Val.TheVariants as val
use Rattle.flow_value.specs.declared.value.Val.TheViews.{out-Val}
use Rattle.flow_value.specs.declared.cause.Cause.{Cause}
use Rattle.flow_value.specs.declared.ty.Ty.{Ty}
use Rattle.flow_value.specs.declared.ty.Ty.TheOpen.{Ty-F}
use Rattle.flow_value.specs.declared.ty.Ty.TheVariants as ty
use Rattle.flow_value.specs.declared.ty.Ty.TheViews.{out-Ty}
use Rattle.flow_value.specs.Well.{is_well_tag}
use Rattle.type_table.specs.declared.form.Form.{Form}
use Rattle.type_table.specs.declared.form.Member.{Member as NumberedMember}
use Rattle.type_table.specs.Tables.{members_if}
use Rattle.typed_tree.specs.declared.expr.Case.{Case}
use Rattle.typed_tree.specs.Types.{IsNumber, AreMembers, Member}
use Rattle.typed_tree.specs.Types as number
use Rattle.typed_values.specs.Fitting.{TagsFit}
use Rattle.typed_rows.specs.Rows.{AreOf}
use Rattle.typed_rows.proofs.Scalars.{with_one}
use Rattle.typed_rows.proofs.ValueKinds.{UniKind, a_uni, no_uni, as_uni, out_uni, out_err}
use Rattle.typed_values.proofs.Arms.{place_there}
use Rattle.meaning.specs.Words.{value_at, failed}
use Rattle.meaning.specs.Meaning.{Gives as Means, with_content, arm_in, arm_place, arm_of}
use Rattle.graph_meaning.specs.Carried.{Carried, Value}
use Rattle.lowering_meaning.proofs.Told.{Telling}
use Rattle.graph_meaning.specs.Forms as form
use Rattle.graph_meaning.specs.Demand.{Network}
use Rattle.lowering.specs.declared.feed.Carried as wired
use Rattle.lowering.specs.declared.feed.Carried.TheVariants.{One, Many, Callee}
use Rattle.lowering.specs.declared.feed.Wire.{Wire}
use Rattle.lowering.specs.declared.graph.Lowered.{Lowered}
use Rattle.lowering.specs.Graphs.{Lowering, inputs, numbers, new_graphs}
use Rattle.lowering.specs.Operations.{Lowers, wire_at}
use Rattle.lowering.specs.Choices.{type_of, tag_count, content_of, first_tag, arm_names, arms_from, arms_of, tag_case}
use Rattle.lowered_units.specs.Networks.{nth}
use Rattle.lowered_units.proofs.BuiltTrees.{out-bool, out-char, out-int, out-null, out-array, out-stream, out-record, out-union}
use Rattle.lowering_meaning.proofs.Timed.{given-is}
use Rattle.lowering_meaning.proofs.Wires.{AllWires, FromNames}
use Rattle.lowering_meaning.proofs.Sites.{Site, Carries, AllCarry, Placed, Done}
use Rattle.lowering_meaning.proofs.Parts.{used-there}
use Rattle.lowering_meaning.proofs.Choices.{Goes, goes-leave, goes-enter, errors-are}
use Rattle.lowering_meaning.proofs.Forms.{HasType, WiresOf, of-length, FreeOn, Typed, Draws, Drawn, RunsOn, DrawnOn}
use Rattle.lowering_meaning.proofs.Cases.{Sees, content, nothing, arm-for, graph-for, arm-lowered, AllFree, arms-own, tag-from, GraphAt, graph-at, Around, around, the_form, tag-done, arm-at, arm-gives, arm-wires, arm-of-types}

-- ---- the tags of a union

pub tag-below : (ms : List Member) (tag : ℕ) (v : Val) → is_well_tag ms tag v ≡ true → tag < length ms
tag-below [] tag v e = absurd cc
tag-below (m ∷ ms) zero v e = omega arith
tag-below (m ∷ ms) (suc tag) v e = let l = tag-below ms tag v e in omega (arith, l)

failed-length : (n : ℕ) (c : Cause) → n ≡ length (failed n c)
failed-length zero c = refl
failed-length (suc n) c = ap suc (failed-length n c)

module _ (forms : List Form) (spellings : List (List ℕ)) where
  members-count : (ms : List NumberedMember) (fs : List Member) → AreMembers forms spellings ms fs → length ms ≡ length fs
  members-count _ _ number.no_member = refl
  members-count _ _ (number.a_member {ms = ms} {fs = fs} s h r) = ap suc (members-count ms fs r)

  abbrev HasTags : ℕ → Ty-F Ty → Type 0
  HasTags n (Ty-F.Uni ms) = tag_count forms n ≡ length ms
  HasTags n _ = Unit {0}

  tags-of : (n : ℕ) (t : Ty) → IsNumber forms spellings n t → HasTags n (out-Ty t)
  tags-of n _ (number.boolean e) = subst (HasTags n) (sym out-bool) tt
  tags-of n _ (number.character e) = subst (HasTags n) (sym out-char) tt
  tags-of n _ (number.integer e) = subst (HasTags n) (sym out-int) tt
  tags-of n _ (number.null e) = subst (HasTags n) (sym out-null) tt
  tags-of n _ (number.array {t = t} e h) = subst (HasTags n) (sym (out-array t)) tt
  tags-of n _ (number.stream {t = t} e h) = subst (HasTags n) (sym (out-stream t)) tt
  tags-of n _ (number.a_record {fs = fs} e h) = subst (HasTags n) (sym (out-record fs)) tt
  tags-of n _ (number.a_union {ms = ms} {fs = fs} e h) = subst (HasTags n) (sym (out-union fs)) (ap (λ (o : Option Form). length (members_if o)) e ∙ members-count ms fs h)

  pub count-tags : (n : ℕ) (ms : List Member) → IsNumber forms spellings n (ty.Uni ms) → tag_count forms n ≡ length ms
  count-tags n ms h = subst (HasTags n) (out-union ms) (tags-of n (ty.Uni ms) h)

  -- the one wire of a union
  abbrev pub type_at : List Wire → ℕ
  type_at ws = type_of (wire_at ws 0).ty

  pub union-wire : (t : Ty) (ws : List Wire) → WiresOf forms spellings (t ∷ []) ws → IsNumber forms spellings (type_at ws) t
  union-wire t [] h = absurd h
  union-wire t (w ∷ ws) h = by w.ty h.0
    where
      by : (x : wired.Carried) → HasType forms spellings x t → IsNumber forms spellings (type_of x) t
      by (One n) h = h
      by (Many n) h = absurd h
      by (Callee f) h = absurd h

pub wire-from : (env ws : List Wire) → AllWires (FromNames env) ws → FromNames env (wire_at ws 0)
wire-from env [] h = tt
wire-from env (w ∷ ws) h = h.0

module _ (u : Network) (number : ℕ → ℕ) (shape : Telling) where
  pub wire-carries : (s : Site) (ws : List Wire) (v : Val) → AllCarry u number shape s ws (v ∷ []) → Carries u number shape s (wire_at ws 0) (Value v)
  wire-carries s [] v a = absurd a
  wire-carries s (w ∷ ws) v a = a.0

module _ (u : Network) (number : ℕ → ℕ) (shape : Telling) (forms : List Form) (spellings : List (List ℕ)) where
  -- ---- arms

  pub record ArmDrawn (γ tys : List Ty) (g : Lowers) (h : Means) : Type 0 where
    pub slack : ℕ
    pub drawn : Drawn u number shape forms spellings γ slack 0 g h
    pub typed : Typed γ h tys

  -- arms that are drawn, of which the first so many see a content of these types
  pub data ArmsDrawn (γ tys : List Ty) : ℕ → List Lowers → List Means → List Ty → Type 0 where
    no_arm : ArmsDrawn γ tys 0 [] [] []
    named_arm : (named : ℕ) (g : Lowers) (gs : List Lowers) (h : Means) (hs : List Means) (a : Ty) (contents : List Ty)
        → ArmDrawn (γ ++ a ∷ []) tys g h → ArmsDrawn γ tys named gs hs contents → ArmsDrawn γ tys (suc named) (g ∷ gs) (h ∷ hs) (a ∷ contents)
    other_arm : (g : Lowers) (gs : List Lowers) (h : Means) (hs : List Means) → ArmDrawn γ tys g h → ArmsDrawn γ tys 0 gs hs [] → ArmsDrawn γ tys 0 (g ∷ gs) (h ∷ hs) []

  pub arms-free : {γ tys : List Ty} {named : ℕ} {gs : List Lowers} {hs : List Means} {contents : List Ty} → ArmsDrawn γ tys named gs hs contents → AllFree gs
  arms-free no_arm = tt
  arms-free (named_arm named g gs h hs a contents d r) = (d.drawn.free, arms-free r)
  arms-free (other_arm g gs h hs d r) = (d.drawn.free, arms-free r)

  -- the arm at a place
  record ArmIs (γ tys : List Ty) (named : ℕ) (gs : List Lowers) (hs : List Means) (contents : List Ty) (i : ℕ) : Type 0 where
    pub lowers : Lowers
    pub means : Means
    pub sees : List Ty
    pub lowered : slice_get gs i ≡ Some lowers
    pub meant : slice_get hs i ≡ Some means
    pub which : Sees named contents i sees
    pub arm : ArmDrawn (γ ++ sees) tys lowers means

  arm-is : (γ tys : List Ty) (named : ℕ) (gs : List Lowers) (hs : List Means) (contents : List Ty) → ArmsDrawn γ tys named gs hs contents → (i : ℕ) → i < length gs → ArmIs γ tys named gs hs contents i
  arm-is γ tys _ _ _ _ no_arm i l = absurd (omega (arith, l))
  arm-is γ tys _ _ _ _ (named_arm named g gs h hs a contents d r) zero l = record { lowers = g; means = h; sees = a ∷ []; lowered = refl; meant = refl; which = content a (omega arith) refl; arm = d }
  arm-is γ tys _ _ _ _ (named_arm named g gs h hs a contents d r) (suc i) l =
      let x = arm-is γ tys named gs hs contents r i (omega (arith, l)) in
      record { lowers = x.lowers; means = x.means; sees = x.sees; lowered = x.lowered; meant = x.meant; which = later x.which; arm = x.arm }
    where
      later : {sees : List Ty} → Sees named contents i sees → Sees (suc named) (a ∷ contents) (suc i) sees
      later (content a e k) = content a (omega (arith, e)) k
      later (nothing e) = nothing (omega (arith, e))
  arm-is γ tys _ _ _ _ (other_arm g gs h hs d r) zero l = record { lowers = g; means = h; sees = []; lowered = refl; meant = refl; which = nothing (omega arith); arm = subst (λ ts. ArmDrawn ts tys g h) (sym (append-nil γ)) d }
  arm-is γ tys _ _ _ _ (other_arm g gs h hs d r) (suc i) l =
      let x = arm-is γ tys 0 gs hs [] r i (omega (arith, l)) in
      record { lowers = x.lowers; means = x.means; sees = x.sees; lowered = x.lowered; meant = x.meant; which = later x.which; arm = x.arm }
    where
      later : {sees : List Ty} → Sees 0 [] i sees → Sees 0 [] (suc i) sees
      later (content a e k) = absurd cc
      later (nothing e) = nothing (omega arith)

  -- ---- a `tagcase`

  -- what a content is in the table, in each arm that sees one
  abbrev pub ContentsTyped : Case → List Member → List Ty → Type 0
  ContentsTyped c ms contents = (n : ℕ) → IsNumber forms spellings n (ty.Uni ms) → (i : ℕ) (a : Ty) → i < c.named → slice_get contents i ≡ Some a → IsNumber forms spellings (content_of forms n (first_tag c i)) a

  module _ (c : Case) (gs : List Lowers) (ns : List ℕ) where
    abbrev pub arms_in : List Wire → List Wire → List Lowering
    arms_in env ws = arms_from forms c (type_at forms spellings ws) 0 gs env

    abbrev pub arm_places : List Wire → List ℕ
    arm_places ws = arms_of c (tag_count forms (type_at forms spellings ws))

    abbrev pub the_case : List Wire → List Wire → Lowering
    the_case env ws = tag_case (wire_at ws 0) (arms_in env ws) (arm_places ws) ns

    pub case-free : AllFree gs → FreeOn the_case
    case-free f env ws k q w = tag-from env (wire_at ws 0) (new_graphs q (arms_in env ws)) (arm_places ws) ns k q (wire-from env ws w) (arms-own forms c (type_at forms spellings ws) env gs f 0 q)

    -- where a `tagcase` stands
    module _ (free : AllFree gs) (s : Site) (k q : ℕ) (env ws : List Wire) (names : List Val) (v : Val) (a : AllCarry u number shape s env names) (b : AllCarry u number shape s ws (v ∷ [])) (pl : Placed u number shape s k q (the_case env ws k q)) where
      abbrev pub ms : List Lowered
      ms = new_graphs q (arms_in env ws)

      pub here : Around u number shape s (wire_at ws 0) ms
      here = around u number shape s k q env names (wire_at ws 0) ms (arm_places ws) ns a pl (arms-own forms c (type_at forms spellings ws) env gs free 0 q)

      abbrev pub others : List Carried
      others = map Value here.values

      abbrev pub F : form.Form
      F = the_form u number shape q ms (arm_places ws) ns

      case-done : (rs : List Val) (limit : ℕ) → length ns ≡ length rs → Goes u number shape F (Value v ∷ others) (form.next_of (form.arm_in (map (nth (numbers q ms)) (arm_places ws)) (length ns) others (out-Val v))) (map Value rs) limit → Done u number shape s k (the_case env ws k q) rs (1 + limit)
      case-done rs limit l g = tag-done u number shape s k q (wire_at ws 0) ms (arm_places ws) ns here v rs limit pl (wire-carries u number shape s ws v b) l g

      pub arm-here : (i : ℕ) (g : Lowers) → slice_get gs i ≡ Some g → GraphAt u number shape (inputs ms) 1 0 q (arms_in env ws) i (g (arm_names forms c (type_at forms spellings ws) i env))
      arm-here i g e =
          graph-at u number shape (inputs ms) 1 0 q (arms_in env ws) i (g (arm_names forms c (type_at forms spellings ws) i env)) (arm-lowered forms c (type_at forms spellings ws) env gs 0 i i g e (omega arith)) pl.graphs (used-there u number shape ms)

    pub case-failed : (free : AllFree gs) (s : Site) (k q : ℕ) (env ws : List Wire) (names : List Val) (x : Cause) → AllCarry u number shape s env names → AllCarry u number shape s ws (val.Err x ∷ []) → Placed u number shape s k q (the_case env ws k q)
        → Done u number shape s k (the_case env ws k q) (failed (length ns) x) (1 + 0)
    case-failed free s k q env ws names x a b pl =
        let f = F free s k q env ws names (val.Err x) a b pl in
        let ks = others free s k q env ws names (val.Err x) a b pl in
        let arms = map (nth (numbers q (ms free s k q env ws names (val.Err x) a b pl))) (arm_places ws) in
        case-done free s k q env ws names (val.Err x) a b pl (failed (length ns) x) 0 (failed-length (length ns) x)
        (subst (λ y. Goes u number shape f (Value (val.Err x) ∷ ks) (form.next_of (form.arm_in arms (length ns) ks y)) (map Value (failed (length ns) x)) 0) (sym (out_err x))
        (subst (λ rs. Goes u number shape f (Value (val.Err x) ∷ ks) (form.Leave (form.errors (length ns) x)) rs 0) (errors-are (length ns) x) (goes-leave u number shape f (Value (val.Err x) ∷ ks) (form.errors (length ns) x))))

    -- the union has this tag and content, and the tag this arm
    pub case-taken : (γ sees contents : List Ty) (free : AllFree gs) (s : Site) (k q : ℕ) (env ws : List Wire) (names : List Val) (tag : ℕ) (v : Val) (a : AllCarry u number shape s env names) (b : AllCarry u number shape s ws (val.Uni tag v ∷ [])) (pl : Placed u number shape s k q (the_case env ws k q))
        → (place : ℕ) (g : Lowers) → slice_get gs place ≡ Some g → slice_get (arm_places ws) tag ≡ Some place → Sees c.named contents place sees
        → ((a : Ty) → place < c.named → slice_get contents place ≡ Some a → IsNumber forms spellings (content_of forms (type_at forms spellings ws) (first_tag c place)) a) → WiresOf forms spellings γ env
        → (rs : List Val) (limit : ℕ) → length ns ≡ length rs → Draws u number shape forms spellings (γ ++ sees) g (with_content c.named place v names) rs limit → Done u number shape s k (the_case env ws k q) rs (1 + (limit + 0))
    case-taken γ sees contents free s k q env ws names tag v a b pl place g e arm h typed w rs limit l d =
        let f = F free s k q env ws names (val.Uni tag v) a b pl in
        let ks = others free s k q env ws names (val.Uni tag v) a b pl in
        let hr = here free s k q env ws names (val.Uni tag v) a b pl in
        let gs' = ms free s k q env ws names (val.Uni tag v) a b pl in
        let arms = map (nth (numbers q gs')) (arm_places ws) in
        let x = arm-here free s k q env ws names (val.Uni tag v) a b pl place g e in
        let t = type_at forms spellings ws in
        let z = arm-at u number shape forms spellings c t contents sees s (inputs gs') hr.values v env names q (arms_in env ws) place g h pl.told.0 hr.carry hr.seen.1 a x in
        let y = arm-gives u number shape forms spellings c t contents (γ ++ sees) g rs limit z (arm-wires u number shape forms spellings c t contents γ sees env place h typed w) d in
        case-done free s k q env ws names (val.Uni tag v) a b pl rs (limit + 0) l
        (subst (λ y. Goes u number shape f (Value (val.Uni tag v) ∷ ks) (form.next_of (form.arm_in arms (length ns) ks y)) (map Value rs) (limit + 0)) (sym (out_uni tag v))
        (subst (λ o. Goes u number shape f (Value (val.Uni tag v) ∷ ks) (form.next_of (form.enter_arm (length ns) v ks o)) (map Value rs) (limit + 0)) (sym (graph-for (numbers q gs') (arm_places ws) tag place x.at arm x.is))
        (goes-enter u number shape f (Value (val.Uni tag v) ∷ ks) x.at (Value v ∷ ks) form.Chosen (map Value rs) (map Value rs) limit 0 refl y (goes-leave u number shape f (Value (val.Uni tag v) ∷ ks) (map Value rs)))))

    -- a `tagcase` whose arms are drawn
    module _ (γ tys contents : List Ty) (members : List Member) (arms : ℕ) (hs : List Means) (count : arms ≡ length gs) (fit : TagsFit arms contents c 0 members) (typed : ContentsTyped c members contents) (drawn : ArmsDrawn γ tys c.named gs hs contents) (l : length ns ≡ length tys) where
      cases : (names rs : List Val) (j : ℕ) → AreOf γ names → (v : Val) → UniKind members v → arm_of c (length ns) hs (out-Val v) names ≡ Some (rs, j) → RunsOn u number shape forms spellings γ (ty.Uni members ∷ []) the_case names (v ∷ []) rs 0 (7 + 8 * j)
      cases names rs j o _ (no_uni x) e =
          let z = given-is (failed (length ns) x) rs j (subst (λ y. arm_of c (length ns) hs y names ≡ Some (rs, j)) (out_err x) e) in
          record {
            limit = 1 + 0;
            bound = omega arith;
            draws = λ s k q env ws d m a b pl. subst (λ r. Done u number shape s k (the_case env ws k q) r (1 + 0)) z.0 (case-failed (arms-free drawn) s k q env ws names x a b pl);
          }
      cases names rs j o _ (a_uni tag v w) e =
          let place = arm_place c.choices c.others tag in
          let p = place_there arms contents c 0 members fit tag tag v (omega arith) w in
          let below = p.0 in
          let x = arm-is γ tys c.named gs hs contents drawn place (omega (arith, below, count)) in
          let taken : arm_in c (length ns) (slice_get hs place) place v names ≡ Some (rs, j) = subst (λ y. arm_of c (length ns) hs y names ≡ Some (rs, j)) (out_uni tag v) e in
          let given : x.means (with_content c.named place v names) ≡ Some (rs, j) = subst (λ o. arm_in c (length ns) o place v names ≡ Some (rs, j)) x.meant taken in
          let ok = arm-of-types u number shape forms spellings c 0 contents γ x.sees names v place x.which p.1 o in
          let r = x.arm.drawn.runs (with_content c.named place v names) rs j ok given in
          record {
            limit = 1 + (r.limit + 0);
            bound = let most = r.bound in omega (arith, most);
            draws = λ s k q env ws d m a b pl.
                let n = union-wire forms spellings (ty.Uni members) ws m in
                let below = subst (λ n. tag < n) (sym (count-tags forms spellings (type_at forms spellings ws) members n)) (tag-below members tag v w) in
                case-taken γ x.sees contents (arms-free drawn) s k q env ws names tag v a b pl place x.lowers x.lowered (arm-for c 0 (tag_count forms (type_at forms spellings ws)) tag tag below (omega arith)) x.which (λ t. typed (type_at forms spellings ws) n place t) d rs r.limit
                (l ∙ of-length tys rs (x.arm.typed (with_content c.named place v names) rs j ok given)) r.draws;
          }

      pub case-drawn : DrawnOn u number shape forms spellings γ (ty.Uni members ∷ []) 0 7 the_case (λ names vs. arm_of c (length ns) hs (out-Val (value_at vs 0)) names)
      case-drawn names vs rs j o m e =
          with_one (ty.Uni members) (λ vs. arm_of c (length ns) hs (out-Val (value_at vs 0)) names ≡ Some (rs, j) → RunsOn u number shape forms spellings γ (ty.Uni members ∷ []) the_case names vs rs 0 (7 + 8 * j))
          (λ v k e. cases names rs j o v (as_uni members v k) e) vs m e
