-- The test of a node or boundary decides its rule, but for what edges from one port carry.
use Rattle.std.proofs.Common.{◌≡◌, ℕ, Bool, true, List, All, Option, Some, None, is_some, option_map, Decides, refl, sym, ap, ◌∙◌, subst}
use Rattle.std.proofs.lemmas.Bool.{and_parts, and_from}
use Rattle.flow_value.specs.declared.ty.Ty.{Ty}
use Rattle.if1_graph.specs.declared.graph.Graph.{Graph}
use Rattle.if1_graph.specs.declared.graph.Graph.TheViews.{out-Graph}
use Rattle.if1_graph.specs.declared.graph.Node.{Node, out-Node}
use Rattle.if1_graph.specs.declared.graph.Unit1.{Unit1}
use Rattle.if1_graph.specs.declared.op.Compound.{Compound}
use Rattle.if1_graph.specs.declared.op.Part.{Part}
use Rattle.if1_graph.specs.declared.op.Part.TheVariants as part
use Rattle.if1_graph.specs.declared.op.Simple.{Simple}
use Rattle.if1_graph.specs.declared.op.Simple.TheVariants.{RangeGenerate, AScatter, AGather, FinalValue, Reduce}
use Rattle.if1_graph.specs.Tables.{◌>>=◌}
use Rattle.if1_graph.specs.Ops.{simple_at, compound_at}
use Rattle.if1_graph.specs.Parts.{part_at}
use Rattle.if1_graph.specs.Types.{Sort, sort_at}
use Rattle.if1_graph.specs.Types as types
use Rattle.if1_graph.specs.Units.{node_at, edges_into, Home, Function, Inside, Place}
use Rattle.if1_graph.specs.Typing.{home_part, StandsRight, function_type, IsFunctionType, IsHeaderTyped, IsEndTyped, IsTyped}
use Rattle.if1_graph.specs.Typing as rule
use Rattle.if1_types.specs.declared.forms.SortForm.{SortForm}
use Rattle.if1_types.specs.declared.forms.SortForm.TheVariants as sort
use Rattle.if1_types.specs.Forms.{IsSortForm, sort_form_at}
use Rattle.if1_fits.specs.Views.{arguments_in}
use Rattle.if1_fits.specs.Tests.{IsNumbered}
use Rattle.if1_typing.specs.declared.site.Content.{Content}
use Rattle.if1_typing.specs.declared.site.Frame.{Frame}
use Rattle.if1_typing.specs.declared.site.Site.{Site}
use Rattle.if1_typing.specs.Tables.{Table, Tells, number}
use Rattle.if1_typing.specs.Sites.{site_as, site_at, frame_in, content_in}
use Rattle.if1_typing.specs.Ends.{doing_of, is_generator, is_returns, stands_right, is_header_typed, is_end_typed, are_typed, is_right}
use Rattle.if1_typing.proofs.Numbered.{numbered}
use Rattle.if1_typing.proofs.Tagged.{never}
use Rattle.if1_typing.proofs.Sited.{around_of}
use Rattle.if1_typing.proofs.Typed.{edges_decided}

-- ---- where multiples are made and used up

same_true : (a b : Bool) → a ≡ b → Decides a (b ≡ true)
same_true a b e = (λ h. sym e ∙ h, λ h. e ∙ h)

always : Decides true (Unit {0})
always = (λ h. tt, λ h. refl)

-- both tests say the same of a graph's place and of its part
record AreSame (s : Site) (cp : Option (Compound × Part)) : Type 0 where
  generator : is_generator s ≡ rule.is_generator cp
  returns : is_returns s ≡ rule.is_returns cp

part_same : (f : Frame) (c : Compound) (p : Option Part) (content : Content) → AreSame (site_as f p content) (p >>= λ p. Some (c, p))
part_same f c None content = record { generator = refl; returns = refl }
part_same f c (Some part.Selector) content = record { generator = refl; returns = refl }
part_same f c (Some part.Alternative) content = record { generator = refl; returns = refl }
part_same f c (Some part.Arm) content = record { generator = refl; returns = refl }
part_same f c (Some part.Generator) content = record { generator = refl; returns = refl }
part_same f c (Some part.Initialization) content = record { generator = refl; returns = refl }
part_same f c (Some part.Test) content = record { generator = refl; returns = refl }
part_same f c (Some part.Body) content = record { generator = refl; returns = refl }
part_same f c (Some part.Returns) content = record { generator = refl; returns = refl }

site_same : (frame : Compound → Frame) → ((c : Compound) → (frame c).compound ≡ c) → (c : Option Compound) (content : Content) (k : ℕ) →
    AreSame (site_at (option_map frame c) content k) (c >>= λ c. part_at c k >>= λ p. Some (c, p))
site_same frame of None content k = record { generator = refl; returns = refl }
site_same frame of (Some c) content k =
    subst (λ d. AreSame (site_as (frame c) (part_at d k) content) (part_at c k >>= λ p. Some (c, p))) (sym (of c)) (part_same (frame c) c (part_at c k) content)

home_same : (t : Table) (g : Graph) (home : Home) → AreSame (around_of t g home).site (home_part home)
home_same t g (Function k) = record { generator = refl; returns = refl }
home_same t g (Inside outer n k) =
    site_same _ (λ c. refl) (compound_at (out-Node n).op) (content_in t (frame_in t outer n) (out-Node n).assoc k) k

stands : (s : Site) (cp : Option (Compound × Part)) (op : Option Simple) → AreSame s cp → Decides (stands_right s op) (StandsRight cp op)
stands s cp (Some RangeGenerate) e = same_true (is_generator s) (rule.is_generator cp) e.generator
stands s cp (Some AScatter) e = same_true (is_generator s) (rule.is_generator cp) e.generator
stands s cp (Some AGather) e = same_true (is_returns s) (rule.is_returns cp) e.returns
stands s cp (Some FinalValue) e = same_true (is_returns s) (rule.is_returns cp) e.returns
stands s cp (Some (Reduce grouping)) e = same_true (is_returns s) (rule.is_returns cp) e.returns
stands s cp _ e = always

-- ---- the types of functions

module _ (u : Unit1) (t : Table) (tells : Tells u.types u.graphs t) where
  no_function : {A : Type 0} (args rs : List Ty) → ◌≡◌ {A = Option Sort} None (Some (types.Function args rs)) → A
  no_function args rs e = cc

  header_by : (o : Option Sort) (n : ℕ) → IsNumbered t.keys o n → Decides (is_some (arguments_in (sort_form_at t.keys n))) (IsFunctionType o)
  header_by None n is =
      subst (λ n. Decides (is_some (arguments_in (sort_form_at t.keys n))) (IsFunctionType None)) (sym is) (never (λ r. no_function r.0 r.1 r.2))
  header_by (Some r) n is = by_form (sort_form_at t.keys n) (tells.read.sorts n r is)
    where
      by_form : (f : SortForm) → IsSortForm t.keys r f → Decides (is_some (arguments_in f)) (IsFunctionType (Some r))
      by_form sort.Nothing h = absurd h
      by_form (sort.Value k) h = let e = h.1 in never (λ r. let d = r.2 in cc)
      by_form (sort.Multiple k) h = let e = h.1 in never (λ r. let d = r.2 in cc)
      by_form (sort.Function a b) h = (λ y. (h.0, h.1, ap Some h.2), λ y. refl)

  site_header : (f : Option Frame) (content : Content) (k : ℕ) → is_header_typed t (site_at f content k) ≡ true
  site_header None content k = refl
  site_header (Some f) content k = by_part (part_at f.compound k)
    where
      by_part : (p : Option Part) → is_header_typed t (site_as f p content) ≡ true
      by_part None = refl
      by_part (Some p) = refl

  header : (g : Graph) (home : Home) → Decides (is_header_typed t (around_of t g home).site) (IsHeaderTyped u g home)
  header g (Function k) = header_by (function_type u g) (number t (out-Graph g).fun) (numbered u t tells (out-Graph g).fun)
  header g (Inside outer n k) =
      (λ h. tt, λ h. site_header (frame_in t outer n) (content_in t (frame_in t outer n) (out-Node n).assoc k) k)

  -- ---- ends

  end : (p : Place) (m : Option Node) → Decides (is_end_typed t (around_of t p.graph p.home).site (option_map doing_of m)) (IsEndTyped u p m)
  end p (Some m) = stands (around_of t p.graph p.home).site (home_part p.home) (simple_at (out-Node m).op) (home_same t p.graph p.home)
  end p None = header p.graph p.home

  pub right_decided : (p : Place) (l : ℕ) →
      Decides (is_right t (around_of t p.graph p.home) p.graph l) (IsEndTyped u p (node_at (out-Graph p.graph).nodes l) × All (IsTyped u p) (edges_into p.graph l))
  right_decided p l =
      let a = around_of t p.graph p.home in
      let m = node_at (out-Graph p.graph).nodes l in
      let d = option_map doing_of m in
      let x = is_end_typed t a.site d in
      let y = are_typed t a p.graph d (edges_into p.graph l) (edges_into p.graph l) in
      let dx = end p m in
      let dy = edges_decided u t tells p l in
      (λ h. let both = and_parts x y h in (dx.0 both.0, dy.0 both.1), λ r. and_from x y (dx.1 r.0) (dy.1 r.1))
