use Rattle.std.proofs.Common.{◌≡◌, ◌<◌, ◌∙◌, ◌∷◌, [], List, ℕ, ap, ap₂, sym, subst, length, All}
use Rattle.std.specs.Prelude.{IfOk}
use Rattle.sisal_tree.specs.declared.expr.Constant.TheVariants as constant
use Rattle.lowering.specs.declared.feed.Wire.{Wire}
use Rattle.lowering.specs.Graphs.{Lowering}
use Rattle.lowering.specs.Operations.{wire_at}
use Rattle.lowering.specs.Choices.{tag_case, tag_count, type_of, two_arms, is_tag_lowered}
use Rattle.lowered_data.specs.declared.made.Made.{Made}
use Rattle.lowered_data.specs.States.{IsMade, IsPart, AreParts, places_in}
use Rattle.lowered_data.proofs.Parts.{no_parts, first_part, first_place, places_within}
use Rattle.lower_nodes.specs.Rows.{truth_of, first_or_second}
use Rattle.lower_nodes.proofs.Lists.{two_same}
use Rattle.lower_nodes.proofs.operations.is_tag.Goals as goal

fs : List Lowering
fs = truth_of constant.True ∷ truth_of constant.False ∷ []

parts : (a b c : Made) → IsPart (truth_of constant.True) a b → IsPart (truth_of constant.False) b c → AreParts fs a c
unfolding fs
parts a b c p q = first_part (truth_of constant.True) (truth_of constant.False ∷ []) a b c p (first_part (truth_of constant.False) [] b c c q (no_parts c))

places : (a b c : Made) (x y : ℕ) → IsPart (truth_of constant.True) a b → IsPart (truth_of constant.False) b c → x ≡ length a.graphs → y ≡ length b.graphs → x ∷ y ∷ [] ≡ places_in a fs
unfolding fs
places a b c x y p q ex ey =
    ap₂ (λ k l. k ∷ l ∷ []) ex ey
    ∙ ap (λ l. length a.graphs ∷ l) (sym (first_place (truth_of constant.False) [] b c q))
    ∙ sym (first_place (truth_of constant.True) (truth_of constant.False ∷ []) a b p)

pub tag_case-requires : goal.tag_case-requires
tag_case-requires c =
    let s = c.args.made.now in
    let b = c.truth.new.made in
    let d = c.truth-2.new.made in
    let p = c.in_ok-first.ensures.part in
    let q = c.in_ok-second.ensures.part in
    subst (λ (ps : List ℕ). All (λ k. k < length d.graphs) ps) (sym (places s b d c.in_ok-first.first c.in_ok-second.second p q c.in_ok-first.ensures.place c.in_ok-second.ensures.place))
    (places_within fs s d (parts s b d p q))

pub returns : goal.returns
unfolding fs
returns c =
    let forms = c.args.forms.now in
    let ws = c.args.wires.now in
    let ts = c.args.types.now in
    let s = c.args.made.now in
    let b = c.truth.new.made in
    let d = c.truth-2.new.made in
    let p = c.in_ok-first.ensures.part in
    let q = c.in_ok-second.ensures.part in
    let u = c.in_ok-union.union in
    let same : u ≡ wire_at ws 0 = c.in_ok-union.ensures in
    let tags : c.tag_count-tags.result ≡ tag_count forms (type_of (wire_at ws 0).ty) =
    c.tag_count-tags.ensures ∙ ap (tag_count forms) (c.type_of.ensures ∙ ap (λ (w : Wire). type_of w.ty) same) in
    let arms : c.in_ok-arms.arms ≡ two_arms forms c.args.tag 0 (tag_count forms (type_of (wire_at ws 0).ty)) =
    c.in_ok-arms.ensures ∙ ap (first_or_second c.args.tag 0) tags ∙ two_same forms c.args.tag 0 (tag_count forms (type_of (wire_at ws 0).ty)) in
    let f : Lowering = is_tag_lowered forms c.args.tag ws ts in
    let e : f ≡ tag_case u fs c.in_ok-arms.arms ts = ap₂ (λ v k. tag_case v fs k ts) (sym same) (sym arms) in
    subst (λ (g : Lowering). IfOk c.tag_case.result (λ (vs : List Wire). IsMade g s c.tag_case.new.self vs)) (sym e)
    (c.tag_case.ensures s fs (parts s b d p q) (places s b d c.in_ok-first.first c.in_ok-second.second p q c.in_ok-first.ensures.place c.in_ok-second.ensures.place))
