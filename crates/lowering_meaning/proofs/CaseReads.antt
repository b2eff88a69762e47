-- Where a `tagcase` fires, the source gives something.
use Rattle.std.proofs.Common.{◌≡◌, ℕ, zero, suc, ◌<◌, false, List, [], ◌∷◌, ◌++◌, map, length, slice_get, Some, refl, sym, ap, ◌∙◌, subst, arith, append-nil}
use Rattle.flow_value.specs.declared.value.Val.{Val}
use Rattle.flow_value.specs.declared.value.Val.TheVariants as val
use Rattle.flow_value.specs.declared.value.Val.TheViews.{out-Val}
use Rattle.flow_value.specs.declared.ty.Ty.{Ty}
use Rattle.flow_value.specs.declared.ty.Ty.TheVariants as ty
use Rattle.type_table.specs.declared.form.Form.{Form}
use Rattle.typed_tree.specs.declared.expr.Case.{Case}
use Rattle.typed_tree.specs.Types.{Member}
use Rattle.typed_values.specs.Fitting.{TagsFit}
use Rattle.typed_rows.specs.Rows.{AreOf}
use Rattle.typed_rows.proofs.Scalars.{with_one}
use Rattle.typed_rows.proofs.ValueKinds.{UniKind, a_uni, no_uni, as_uni, out_uni, out_err}
use Rattle.typed_values.proofs.Arms.{place_there}
use Rattle.meaning.specs.Words.{value_at, failed}
use Rattle.meaning.specs.Meaning.{Gives as Means, with_content, arm_in, arm_place, arm_of}
use Rattle.graph_meaning.specs.Carried.{Value}
use Rattle.lowering_meaning.proofs.Told.{Telling}
use Rattle.graph_meaning.specs.Forms as form
use Rattle.graph_meaning.specs.Demand.{Network}
use Rattle.graph_meaning.specs.Plain.{NodesFire, LaterFires}
use Rattle.lowering.specs.declared.feed.Wire.{Wire}
use Rattle.lowering.specs.Graphs.{inputs, numbers, new_graph}
use Rattle.lowering.specs.Operations.{Lowers, wire_at}
use Rattle.lowering.specs.Choices.{tag_count, arm_names}
use Rattle.lowered_units.specs.Networks.{nth}
use Rattle.lowering_meaning.proofs.Timed.{Yield, yield-given, yield-same}
use Rattle.lowering_meaning.proofs.Sites.{Site, AllCarry, Placed}
use Rattle.lowering_meaning.proofs.Inside.{nodes-are}
use Rattle.lowering_meaning.proofs.Inverse.{later-is}
use Rattle.lowering_meaning.proofs.Forms.{WiresOf}
use Rattle.lowering_meaning.proofs.ReadForms.{FiresAt, Read, ReadOn}
use Rattle.lowering_meaning.proofs.IfReads.{same-depth}
use Rattle.lowering_meaning.proofs.Cases.{Sees, content, nothing, arm-for, graph-for, AllFree, tag-fires, at_arm, arm-at, arm-wires, arm-of-types}
use Rattle.lowering_meaning.proofs.CaseForms as cases
use Rattle.lowering_meaning.proofs.CaseForms.{type_at, union-wire, count-tags, tag-below, wire-carries, ContentsTyped}

module _ (u : Network) (number : ℕ → ℕ) (shape : Telling) (forms : List Form) (spellings : List (List ℕ)) (m : ℕ) (γ : List Ty) where
  -- arms that are read, of which the first so many see a content of these types
  pub data ArmsRead : ℕ → List Lowers → (ℕ → List Means) → List Ty → Type 0 where
    no_arm : ArmsRead 0 [] (λ j. []) []
    named_arm : (named : ℕ) (g : Lowers) (gs : List Lowers) (h : ℕ → Means) (hs : ℕ → List Means) (a : Ty) (contents : List Ty)
        → Read u number shape forms spellings m (γ ++ a ∷ []) g h → ArmsRead named gs hs contents → ArmsRead (suc named) (g ∷ gs) (λ j. h j ∷ hs j) (a ∷ contents)
    other_arm : (g : Lowers) (gs : List Lowers) (h : ℕ → Means) (hs : ℕ → List Means) → Read u number shape forms spellings m γ g h → ArmsRead 0 gs hs [] → ArmsRead 0 (g ∷ gs) (λ j. h j ∷ hs j) []

  -- the arm at a place
  record ArmIs (named : ℕ) (gs : List Lowers) (hs : ℕ → List Means) (contents : List Ty) (i : ℕ) : Type 0 where
    pub lowers : Lowers
    pub means : ℕ → Means
    pub sees : List Ty
    pub lowered : slice_get gs i ≡ Some lowers
    pub meant : (j : ℕ) → slice_get (hs j) i ≡ Some (means j)
    pub which : Sees named contents i sees
    pub read : Read u number shape forms spellings m (γ ++ sees) lowers means

  arm-is : (named : ℕ) (gs : List Lowers) (hs : ℕ → List Means) (contents : List Ty) → ArmsRead named gs hs contents → (i : ℕ) → i < length gs → ArmIs named gs hs contents i
  arm-is _ _ _ _ no_arm i l = absurd (omega (arith, l))
  arm-is _ _ _ _ (named_arm named g gs h hs a contents d r) zero l = record { lowers = g; means = h; sees = a ∷ []; lowered = refl; meant = λ j. refl; which = content a (omega arith) refl; read = d }
  arm-is _ _ _ _ (named_arm named g gs h hs a contents d r) (suc i) l =
      let x = arm-is named gs hs contents r i (omega (arith, l)) in
      record { lowers = x.lowers; means = x.means; sees = x.sees; lowered = x.lowered; meant = x.meant; which = later x.which; read = x.read }
    where
      later : {sees : List Ty} → Sees named contents i sees → Sees (suc named) (a ∷ contents) (suc i) sees
      later (content a e k) = content a (omega (arith, e)) k
      later (nothing e) = nothing (omega (arith, e))
  arm-is _ _ _ _ (other_arm g gs h hs d r) zero l = record { lowers = g; means = h; sees = []; lowered = refl; meant = λ j. refl; which = nothing (omega arith); read = subst (λ ts. Read u number shape forms spellings m ts g h) (sym (append-nil γ)) d }
  arm-is _ _ _ _ (other_arm g gs h hs d r) (suc i) l =
      let x = arm-is 0 gs hs [] r i (omega (arith, l)) in
      record { lowers = x.lowers; means = x.means; sees = x.sees; lowered = x.lowered; meant = x.meant; which = later x.which; read = x.read }
    where
      later : {sees : List Ty} → Sees 0 [] i sees → Sees 0 [] (suc i) sees
      later (content a e k) = absurd cc
      later (nothing e) = nothing (omega arith)

  module _ (c : Case) (gs : List Lowers) (ns : List ℕ) (contents : List Ty) (members : List Member) (arms : ℕ) (hs : ℕ → List Means) (count : arms ≡ length gs) (fit : TagsFit arms contents c 0 members)
      (typed : ContentsTyped u number shape forms spellings c members contents) (free : AllFree gs) (reads : ArmsRead c.named gs hs contents) where
    taken : (names : List Val) → AreOf γ names → (s : Site) (n q : ℕ) (env ws : List Wire) (cost : ℕ) → WiresOf forms spellings γ env → WiresOf forms spellings (ty.Uni members ∷ []) ws → AllCarry u number shape s env names
        → (pl : Placed u number shape s n q (cases.the_case u number shape forms spellings c gs ns env ws n q)) → FiresAt u number shape forms spellings m s n (cases.the_case u number shape forms spellings c gs ns env ws n q) cost
        → (v : Val) → UniKind members v → AllCarry u number shape s ws (v ∷ []) → Yield (λ j. arm_of c (length ns) (hs j) (out-Val v) names)
    taken names o s n q env ws cost w d a pl fire _ (no_uni x) b =
        yield-same _ _ (λ j. ap (λ y. arm_of c (length ns) (hs j) y names) (out_err x)) (yield-given (failed (length ns) x))
    taken names o s n q env ws cost w d a pl fire _ (a_uni tag v t) b =
        let place = arm_place c.choices c.others tag in
        let p = place_there arms contents c 0 members fit tag tag v (omega arith) t in
        let within = p.0 in
        let x = arm-is c.named gs hs contents reads place (omega (arith, within, count)) in
        let type = type_at forms spellings ws in
        let union = union-wire forms spellings (ty.Uni members) ws d in
        let below = subst (λ n. tag < n) (sym (count-tags forms spellings type members union)) (tag-below members tag v t) in
        let places = cases.arm_places u number shape forms spellings c gs ns ws in
        let arm = arm-for c 0 (tag_count forms type) tag tag below (omega arith) in
        let F = cases.F u number shape forms spellings c gs ns free s n q env ws names (val.Uni tag v) a b pl in
        let hr = cases.here u number shape forms spellings c gs ns free s n q env ws names (val.Uni tag v) a b pl in
        let ks = map Value hr.values in
        let ins = Value (val.Uni tag v) ∷ ks in
        let inner = cases.ms u number shape forms spellings c gs ns free s n q env ws names (val.Uni tag v) a b pl in
        let graphs = map (nth (numbers q inner)) places in
        let g = cases.arm-here u number shape forms spellings c gs ns free s n q env ws names (val.Uni tag v) a b pl place x.lowers x.lowered in
        let z = arm-at u number shape forms spellings c type contents x.sees s (inputs inner) hr.values v env names q (cases.arms_in u number shape forms spellings c gs ns env ws) place x.lowers x.which pl.told.0 hr.carry hr.seen.1 a g in
        let f0 = tag-fires u number shape s n q (wire_at ws 0) inner places ns hr (val.Uni tag v) m cost (wire-carries u number shape s ws (val.Uni tag v) b) fire in
        let f1 : LaterFires u m F ins (form.next_of (form.enter_arm (length ns) v ks (slice_get graphs tag))) f0.0 = subst (λ y. LaterFires u m F ins (form.next_of (form.arm_in graphs (length ns) ks y)) f0.0) (out_uni tag v) f0.1 in
        let f2 : LaterFires u m F ins (form.Enter false g.at (Value v ∷ ks) form.Chosen) f0.0 =
        subst (λ o. LaterFires u m F ins (form.next_of (form.enter_arm (length ns) v ks o)) f0.0) (graph-for (numbers q inner) places tag place g.at arm g.is) f1 in
        let e = later-is u m F ins (form.Enter false g.at (Value v ∷ ks) form.Chosen) f0.0 f2 in
        let f3 = subst (λ l. NodesFire u l g.at (Value v ∷ ks) (u g.at).nodes e.cost) (same-depth e.depth m e.is_less) e.fires in
        let site = at_arm u number shape g.at (inputs inner) hr.values v in
        let f4 = subst (λ vs. NodesFire u m g.at (Value v ∷ ks) vs e.cost) (nodes-are u number shape site (new_graph (x.lowers (arm_names forms c type place env)) g.at) z.net) f3 in
        let y = x.read (with_content c.named place v names) (arm-of-types u number shape forms spellings c type contents γ x.sees names v place x.which p.1 o) site 0 (suc g.at) (arm_names forms c type place env) e.cost
        (arm-wires u number shape forms spellings c type contents γ x.sees env place x.which (λ a. typed type union place a) w) z.carry z.placed f4 in
        yield-same _ _ (λ j. ap (λ y. arm_of c (length ns) (hs j) y names) (out_uni tag v) ∙ ap (λ o. arm_in c (length ns) o place v names) (x.meant j)) y

    pub case-read : ReadOn u number shape forms spellings m γ (ty.Uni members ∷ []) (cases.the_case u number shape forms spellings c gs ns) (λ j names vs. arm_of c (length ns) (hs j) (out-Val (value_at vs 0)) names)
    case-read names vs o p s n q env ws cost w d a b pl fire =
        with_one (ty.Uni members) (λ vs. AllCarry u number shape s ws vs → Yield (λ j. arm_of c (length ns) (hs j) (out-Val (value_at vs 0)) names))
        (λ v k b. taken names o s n q env ws cost w d a pl fire v (as_uni members v k) b) vs p b
