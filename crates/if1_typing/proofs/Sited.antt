-- The tests of a graph's inputs and results decide the rules, by where the graph stands.
use Rattle.std.proofs.Common.{◌≡◌, ℕ, zero, suc, ◌-◌, Bool, true, false, ◌==◌, nat_le, if◌then◌else◌, List, Option, Some, None, is_some, option_map, MatchBool, MatchOption, Decides, sym, ap, ◌∙◌, subst}
use Rattle.std.proofs.lemmas.Option.{same_Some}
use Rattle.flow_value.specs.declared.ty.Ty.{Ty}
use Rattle.if1_graph.specs.declared.graph.Graph.{Graph}
use Rattle.if1_graph.specs.declared.graph.Graph.TheViews.{out-Graph}
use Rattle.if1_graph.specs.declared.graph.Edge.{Edge}
use Rattle.if1_graph.specs.declared.graph.Node.{Node, out-Node}
use Rattle.if1_graph.specs.declared.graph.Unit1.{Unit1}
use Rattle.if1_graph.specs.declared.op.Compound.{Compound}
use Rattle.if1_graph.specs.declared.op.Compound.TheVariants as compound
use Rattle.if1_graph.specs.declared.op.Part.{Part}
use Rattle.if1_graph.specs.declared.op.Part.TheVariants as part
use Rattle.if1_graph.specs.Tables.{◌>>=◌}
use Rattle.if1_graph.specs.Ops.{compound_at}
use Rattle.if1_graph.specs.Parts.{part_at}
use Rattle.if1_graph.specs.Types.{Sort, Plain, Many}
use Rattle.if1_graph.specs.Units.{label_of, edges_into, width, Home, Function, Inside}
use Rattle.if1_graph.specs.Ports.{results_at, carried}
use Rattle.if1_graph.specs.Typing.{result_of, function_type, IsPlain, IsElement, IsMultiple, FitsReturned, FitsOwnInput, FitsNodeInput, FitsPartInput, FitsInput, FitsResult, FitsBoundary}
use Rattle.if1_types.specs.Forms.{IsSort}
use Rattle.if1_types.proofs.Views.{are_one}
use Rattle.if1_fits.specs.Views.{value_of, many_of, are_same}
use Rattle.if1_fits.specs.Tests.{IsNumbered}
use Rattle.if1_fits.proofs.Viewed.{IsOnly, View, view_as, same_views, value_view, many_view, plain_only, many_only}
use Rattle.if1_fits.proofs.Decided as by
use Rattle.if1_typing.specs.declared.site.Content.{Content}
use Rattle.if1_typing.specs.declared.site.Content.TheVariants.{Any}
use Rattle.if1_typing.specs.declared.site.Frame.{Frame}
use Rattle.if1_typing.specs.Tables.{Table, Tells, number}
use Rattle.if1_typing.specs.Fed.{carried_in, result_number}
use Rattle.if1_typing.specs.Contents.{content_from}
use Rattle.if1_typing.specs.Sites.{Around, returned_fits, own_input_fits, node_input_fits, input_fits_at, input_fits, is_same_result, part_result_fits, result_fits_at, result_fits, tags_at, frame_as, frame_in, content_in, site_as, site_at, around_in}
use Rattle.if1_typing.specs.Inside.{function_around}
use Rattle.if1_typing.proofs.Numbered.{numbered, carried_numbered, result_numbered}
use Rattle.if1_typing.proofs.Tagged.{never, content_decided}

pub if_decides : {P Q : Type 0} (b x y : Bool) → Decides x P → Decides y Q → Decides (if b then x else y) (MatchBool b P Q)
if_decides true x y p q = p
if_decides false x y p q = q

many_one : (t u : Ty) → Many t ≡ Many u → t ≡ u
many_one t u e = cc

none_many : {A : Type 0} (t : Ty) → ◌≡◌ {A = Option Sort} None (Some (Many t)) → A
none_many t e = cc

-- a part of a node
abbrev as_part : Compound → Option Part → Option (Compound × Part)
as_part c p = p >>= λ p. Some (c, p)

abbrev part_in : Option Compound → ℕ → Option (Compound × Part)
part_in c k = c >>= λ c. as_part c (part_at c k)

-- where a graph stands, by its home
abbrev pub around_of : Table → Graph → Home → Around
around_of t g (Function k) = function_around t g
around_of t g (Inside outer n k) = around_in t outer n k

module _ (u : Unit1) (t : Table) (tells : Tells u.types u.graphs t) (n : ℕ) (s : Sort) (h : IsSort t.keys n s) where
  pub value : Decides (is_some (value_of t.keys n)) ((a : Ty) × (s ≡ Plain a))
  value = by.any t.keys tells.once tells.read n s h

  pub same : (o : Option Sort) (m : ℕ) → IsNumbered t.keys o m → Decides (m == n) (o ≡ Some s)
  same o m is = by.same_number t.keys tells.once tells.read n s h o m is

  one_only : (o : Option Sort) → IsOnly (λ a. o ≡ Some (Many a))
  one_only o a b x y = many_one a b (same_Some (Many a) (Many b) (sym x ∙ y))

  carried_many : (o : Option Sort) (m : ℕ) → IsNumbered t.keys o m → View t.keys (many_of t.keys m) (λ a. o ≡ Some (Many a))
  carried_many None m is = subst (λ m. View t.keys (many_of t.keys m) (λ a. None ≡ Some (Many a))) (sym is) (λ a x. none_many a x)
  carried_many (Some r) m is =
      view_as t.keys (many_of t.keys m) (λ a. r ≡ Many a) (λ a. Some r ≡ Some (Many a)) (λ a e. ap Some e) (λ a e. same_Some r (Many a) e)
      (many_view t.keys tells.read m r is)

  element : (o : Option Sort) (m : ℕ) → IsNumbered t.keys o m → Decides (are_same (many_of t.keys m) (value_of t.keys n)) (IsElement o s)
  element o m is =
      same_views t.keys tells.once (are_one t.keys) (many_of t.keys m) (value_of t.keys n) (λ a. o ≡ Some (Many a)) (λ a. s ≡ Plain a)
      (one_only o) (plain_only t.keys tells.read s) (carried_many o m is) (value_view t.keys tells.read n s h)

  multiple : (o : Option Sort) (m : ℕ) → IsNumbered t.keys o m → Decides (are_same (value_of t.keys m) (many_of t.keys n)) (IsMultiple o s)
  multiple o m is =
      same_views t.keys tells.once (are_one t.keys) (value_of t.keys m) (many_of t.keys n) (λ a. o ≡ Some (Plain a)) (λ a. s ≡ Many a)
      (by.carried_only t.keys tells.once tells.read o) (many_only t.keys tells.read s)
      (by.carried_view t.keys tells.once tells.read o m is) (many_view t.keys tells.read n s h)

  -- ---- inputs

  returned : (c : Compound) (gs : List Graph) (m : ℕ) → Decides (returned_fits t c (results_at gs 0) gs m n) (FitsReturned u c gs m s)
  returned compound.ForAll gs m =
      if_decides (nat_le m (results_at gs 0)) (result_number t gs 0 m == n)
      (are_same (value_of t.keys (result_number t gs 1 (m - results_at gs 0))) (many_of t.keys n))
      (same (result_of u gs 0 m) (result_number t gs 0 m) (result_numbered u t tells gs 0 m))
      (multiple (result_of u gs 1 (m - results_at gs 0)) (result_number t gs 1 (m - results_at gs 0)) (result_numbered u t tells gs 1 (m - results_at gs 0)))
  returned c gs m = multiple (result_of u gs 0 m) (result_number t gs 0 m) (result_numbered u t tells gs 0 m)

  own_input : (c : Compound) (p : Part) (gs : List Graph) (m : ℕ) → Decides (own_input_fits t c p (results_at gs 0) gs m n) (FitsOwnInput u c p gs m s)
  own_input compound.ForAll part.Body gs m = element (result_of u gs 0 m) (result_number t gs 0 m) (result_numbered u t tells gs 0 m)
  own_input c part.Body gs m = same (result_of u gs 0 m) (result_number t gs 0 m) (result_numbered u t tells gs 0 m)
  own_input c part.Test gs m = same (result_of u gs 0 m) (result_number t gs 0 m) (result_numbered u t tells gs 0 m)
  own_input c part.Returns gs m = returned c gs m
  own_input c _ gs m = never (λ x. x)

  module _ (outer : Graph) (at : Node) (k : ℕ) where
    abbrev inputs : List Edge
    inputs = edges_into outer (label_of at)

    abbrev tags : Option ℕ
    tags = tags_at t (carried_in t inputs 1)

    abbrev content : Content
    content = content_from t.keys Any tags (out-Node at).assoc k

    abbrev frame : Compound → Frame
    frame c = frame_as t inputs at c

    carries : (port : ℕ) → Decides (carried_in t inputs port == n) (carried u outer (label_of at) port ≡ Some s)
    carries port = same (carried u outer (label_of at) port) (carried_in t inputs port) (carried_numbered u t tells outer (label_of at) port)

    node_input : (p : Part) (port : ℕ) → Decides (node_input_fits t p content inputs port n) (FitsNodeInput u outer at p k port s)
    node_input part.Arm (suc zero) =
        content_decided t.keys tells.once tells.read (carried u outer (label_of at) 1) (carried_in t inputs 1) (carried_numbered u t tells outer (label_of at) 1)
        (out-Node at).assoc k n s h
    node_input p port = carries port

    part_input : (c : Compound) (p : Option Part) (port : ℕ) →
        Decides (input_fits_at t (site_as (frame c) p content) inputs (out-Node at).subs port n)
        (MatchOption (as_part c p) ⊥ (λ cp. FitsPartInput u outer at cp k port s))
    part_input c None port = never (λ x. x)
    part_input c (Some p) port =
        if_decides (nat_le port (width outer (label_of at))) (node_input_fits t p content inputs port n)
        (own_input_fits t c p (results_at (out-Node at).subs 0) (out-Node at).subs (port - width outer (label_of at)) n)
        (node_input p port) (own_input c p (out-Node at).subs (port - width outer (label_of at)))

    site_input : (c : Option Compound) (port : ℕ) →
        Decides (input_fits_at t (site_at (option_map frame c) (content_in t (option_map frame c) (out-Node at).assoc k) k) inputs (out-Node at).subs port n)
        (MatchOption (part_in c k) ⊥ (λ cp. FitsPartInput u outer at cp k port s))
    site_input None port = never (λ x. x)
    site_input (Some c) port = part_input c (part_at c k) port

  pub input : (g : Graph) (home : Home) (port : ℕ) → Decides (input_fits t (around_of t g home) port n) (FitsInput u g home port s)
  input g (Function k) port =
      by.argument t.keys tells.once tells.read (function_type u g) (number t (out-Graph g).fun) (numbered u t tells (out-Graph g).fun) port n s h
  input g (Inside outer at k) port = site_input outer at k (compound_at (out-Node at).op) port

  -- ---- results

  same_result : (gs : List Graph) (k port : ℕ) → Decides (is_same_result t gs k port n) (IsPlain s × (result_of u gs k port ≡ Some s))
  same_result gs k port =
      by.and_decides (is_some (value_of t.keys n)) (result_number t gs k port == n) value
      (same (result_of u gs k port) (result_number t gs k port) (result_numbered u t tells gs k port))

  part_result : (c : Compound) (p : Part) (gs : List Graph) (port : ℕ) → Decides (part_result_fits t c p gs port n) (FitsResult u c p gs port s)
  part_result c part.Selector gs port = by.integer t.keys tells.once tells.read n s h
  part_result c part.Test gs port = by.boolean t.keys tells.once tells.read n s h
  part_result c part.Generator gs port = by.multiple t.keys tells.once tells.read n s h
  part_result c part.Alternative gs port = same_result gs 1 port
  part_result c part.Arm gs port = same_result gs 0 port
  part_result compound.ForAll part.Body gs port = value
  part_result c part.Body gs port = same_result gs 0 port
  part_result c part.Initialization gs port = value
  part_result c part.Returns gs port = value

  module _ (outer : Graph) (at : Node) (k : ℕ) where
    site_result : (c : Option Compound) (held : Content) (port : ℕ) →
        Decides (result_fits_at t (site_at (option_map (frame outer at k) c) held k) (out-Node at).subs port n)
        (MatchOption (part_in c k) ⊥ (λ cp. FitsResult u cp.0 cp.1 (out-Node at).subs port s))
    site_result None held port = never (λ x. x)
    site_result (Some c) held port = by_part (part_at c k)
      where
        by_part : (p : Option Part) → Decides (result_fits_at t (site_as (frame outer at k c) p held) (out-Node at).subs port n)
            (MatchOption (as_part c p) ⊥ (λ cp. FitsResult u cp.0 cp.1 (out-Node at).subs port s))
        by_part None = never (λ x. x)
        by_part (Some p) = part_result c p (out-Node at).subs port

  pub result : (g : Graph) (home : Home) (port : ℕ) → Decides (result_fits t (around_of t g home) port n) (FitsBoundary u g home port s)
  result g (Function k) port =
      by.result_at t.keys tells.once tells.read (function_type u g) (number t (out-Graph g).fun) (numbered u t tells (out-Graph g).fun) port n s h
  result g (Inside outer at k) port =
      site_result outer at k (compound_at (out-Node at).op) (content_in t (frame_in t outer at) (out-Node at).assoc k) port
