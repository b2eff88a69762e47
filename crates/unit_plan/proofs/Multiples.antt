-- What a returns of a ready unit reads: inputs that are there, and multiples of iterations or turns in simple nodes alone.
use Rattle.std.proofs.Common.{◌≡◌, ℕ, zero, suc, ◌+◌, ◌-◌, ◌<◌, ◌≤◌, Bool, true, false, List, [], ◌∷◌, option_map, Option, Some, None, Contains, ◌⊎◌, inl, inr, refl, sym, ap, ◌∙◌, subst, arith}
use Rattle.std.specs.Prelude.{MatchBool, MatchOption, nat_le, slice_get}
use Rattle.std.proofs.lemmas.Bool.{leb-true}
use Rattle.if1_graph.specs.declared.graph.Edge.{Edge}
use Rattle.if1_graph.specs.declared.graph.Graph.{Graph}
use Rattle.if1_graph.specs.declared.graph.Graph.TheViews.{out-Graph}
use Rattle.if1_graph.specs.declared.graph.Node.{Node, out-Node}
use Rattle.if1_graph.specs.declared.graph.Origin.TheVariants as origin
use Rattle.if1_graph.specs.declared.graph.Unit1.{Unit1}
use Rattle.if1_graph.specs.declared.op.Compound.{Compound}
use Rattle.if1_graph.specs.declared.op.Compound.TheVariants as compound
use Rattle.if1_graph.specs.declared.op.Part.{Part}
use Rattle.if1_graph.specs.declared.op.Part.TheVariants as part
use Rattle.if1_graph.specs.declared.op.Simple.{Simple}
use Rattle.if1_graph.specs.declared.op.Simple.TheVariants as simple
use Rattle.if1_graph.specs.Formed.{IsOrigin, want_at}
use Rattle.if1_graph.specs.Ops.{compound_at, simple_at}
use Rattle.if1_graph.specs.Parts.{part_at}
use Rattle.if1_graph.specs.Ports.{IsThere, IsUpTo, carried, inputs, part_inputs, results_at}
use Rattle.if1_graph.specs.Ready.{IsReady}
use Rattle.if1_graph.specs.Tables.{◌>>=◌}
use Rattle.if1_graph.specs.Types.{Sort, sort_at}
use Rattle.if1_graph.specs.Typing.{FitsCompound, FitsInput, FitsNode, FitsOwnInput, FitsPartInput, FitsNodeInput, IsGiven, IsMultiple, IsPlain, result_of}
use Rattle.if1_graph.specs.Units.{Inside, Place, edge_into, label_of, places, results, width}
use Rattle.graph_meaning.specs.Demand.{Fixed, Kind, Plain, Port, Source, Whole}
use Rattle.graph_meaning.proofs.StorageUnits.{plain-kind}
use Rattle.graph_meaning.specs.Forms as form
use Rattle.graph_meaning.specs.Forms.{Form}
use Rattle.graph_meaning.specs.NodeValues.{Shape}
use Rattle.graph_meaning.specs.NodeValues as shape
use Rattle.graph_meaning.specs.Networks.{callee_number, ins_of, kind_as, kind_of, shape_of, simple_kind, source_at, sources}
use Rattle.graph_meaning.specs.Given.{is_call_as}
use Rattle.made_store.specs.Taking.{first_port}
use Rattle.made_store.specs.Refolds.{AllPlain}
use Rattle.unit_laws.proofs.TypeLists.{never-many, some-same}
use Rattle.unit_laws.proofs.TypedEdges.{IsValueWant, edge-formed, edge-there, found-edge, wanted-here}
use Rattle.unit_laws.proofs.TypedNodes.{want-is, wanted-at}
use Rattle.unit_laws.proofs.TypedParts.{no-want, part-is, part-result}
use Rattle.unit_laws.proofs.TypedPlans.{boundary-wants, part-place}
use Rattle.unit_plan.proofs.Sources.{by-edge, in-ins, in-sources}
use Rattle.unit_plan.proofs.Ways.{AreInputs}
use Rattle.unit_plan.specs.Plans.{plain_by}

le-or : (a b : ℕ) → (a ≤ b) ⊎ (b < a)
le-or a b = grind arith

nat-false : (a b : ℕ) → nat_le a b ≡ false → b < a
nat-false a b e = grind (arith, e)

pub call-is : (o : Simple) → is_call_as None (Some o) ≡ true → o ≡ simple.Call
call-is simple.Call e = refl
call-is _ e = absurd (let x : false ≡ true = e in cc)

-- how many multiples a returns has of iterations or turns
abbrev pub many_by : Compound → List Graph → ℕ
many_by compound.ForAll gs = results_at gs 1
many_by c gs = results_at gs 0

inputs-by : (c : Compound) (w : ℕ) (gs : List Graph) → part_inputs c part.Returns w gs ≡ plain_by c w gs + many_by c gs
inputs-by compound.Select w gs = refl
inputs-by compound.TagCase w gs = refl
inputs-by compound.LoopA w gs = refl
inputs-by compound.LoopB w gs = refl
inputs-by compound.ForAll w gs = refl

plain-over : (c : Compound) (w : ℕ) (gs : List Graph) → w ≤ plain_by c w gs
plain-over compound.Select w gs = omega arith
plain-over compound.TagCase w gs = omega arith
plain-over compound.LoopA w gs = omega arith
plain-over compound.LoopB w gs = omega arith
plain-over compound.ForAll w gs = omega arith

compound-plain : (d : Compound) (port : ℕ) (t : Sort) → FitsCompound d port t → IsPlain t
compound-plain compound.TagCase (suc zero) t h = (_, h.1)
compound-plain compound.TagCase zero t h = h
compound-plain compound.TagCase (suc (suc port)) t h = h
compound-plain compound.Select port t h = h
compound-plain compound.LoopA port t h = h
compound-plain compound.LoopB port t h = h
compound-plain compound.ForAll port t h = h

pub plain-more : (plain : ℕ) (o : Source) (os : List Source) → AllPlain plain (o ∷ []) → AllPlain plain os → AllPlain plain (o ∷ os)
plain-more plain (Fixed c) os a b = b
plain-more plain (Port zero p) os a b = (a.0, b)
plain-more plain (Port (suc l) p) os a b = b

inputs-more : (n : ℕ) (o : Source) (os : List Source) → AreInputs n (o ∷ []) → AreInputs n os → AreInputs n (o ∷ os)
inputs-more n (Fixed c) os a b = b
inputs-more n (Port zero p) os a b = (a.0, a.1, b)
inputs-more n (Port (suc l) p) os a b = b

module _ (u : Unit1) (ready : IsReady u) (p : Place) (place : Contains (places u) p) (n : Node) (inside : Contains (out-Graph p.graph).nodes n) (c : Compound) (is : compound_at (out-Node n).op ≡ Some c)
    (k : ℕ) (s : Graph) (e : slice_get (out-Node n).subs k ≡ Some s) (f : part_at c k ≡ Some part.Returns) where
  abbrev gs : List Graph
  gs = (out-Node n).subs

  abbrev w : ℕ
  w = width p.graph (label_of n)

  abbrev plain : ℕ
  plain = plain_by c w gs

  abbrev many : ℕ
  many = many_by c gs

  abbrev q : Place
  q = record { graph = s; home = Inside p.graph n k }

  abbrev there : Contains (places u) q
  there = part-place u ready p place n inside k s e

  inputs-are : inputs u q ≡ Some (plain + many)
  inputs-are = ap (λ o. option_map (λ (cp : Compound × Part). part_inputs cp.0 cp.1 w gs) o) (part-is u ready p place n inside c is k part.Returns f) ∙ ap Some (inputs-by c w gs)

  up-to : (o : Option ℕ) (port : ℕ) → o ≡ Some (plain + many) → IsUpTo o port → port ≤ plain + many
  up-to None port x h = absurd (let y : None ≡ Some (plain + many) = x in cc)
  up-to (Some m) port x h = let y : m ≡ plain + many = cc in omega (arith, y, h)

  -- ---- inputs that are there

  edge-input : (l port : ℕ) (d : Edge) → edge_into s l port ≡ Some d → (m i : ℕ) → d.from ≡ origin.Port m i → AreInputs (plain + many) (Port m i ∷ [])
  edge-input l port d at (suc m) i from = tt
  edge-input l port d at zero i from =
      let x = (found-edge u ready q there l port d at).0 in
      let o = subst (λ y. IsOrigin u s d y) from (edge-formed u ready q there d x).source in
      let t = subst (IsThere u q) from (edge-there u ready q there d x) in
      (o.1.0, up-to (inputs u q) i inputs-are t, tt)

  source-input : (l port : ℕ) → AreInputs (plain + many) (source_at u s l port ∷ [])
  source-input l port = by-edge (AreInputs (plain + many)) tt (inputs-more (plain + many)) u s l port (λ c. tt) (edge-input l port)

  pub ins-there : (l : ℕ) (kind : Kind) → AreInputs (plain + many) (ins_of u s l kind)
  ins-there l kind = in-ins (AreInputs (plain + many)) tt (inputs-more (plain + many)) u s l kind (λ port le. source-input l port)

  -- ---- what is no multiple

  own-many : (d : Compound) (i : ℕ) (t : Sort) → w < i → plain_by d w gs < i → FitsOwnInput u d part.Returns gs (i - w) t → IsPlain t → ⊥
  own-many compound.Select i t over far h x = never-many x.0 h.0 (sym x.1 ∙ h.2)
  own-many compound.TagCase i t over far h x = never-many x.0 h.0 (sym x.1 ∙ h.2)
  own-many compound.LoopA i t over far h x = never-many x.0 h.0 (sym x.1 ∙ h.2)
  own-many compound.LoopB i t over far h x = never-many x.0 h.0 (sym x.1 ∙ h.2)
  own-many compound.ForAll i t over far h x = go (nat_le (i - w) (results_at gs 0)) refl h
    where
      go : (b : Bool) → nat_le (i - w) (results_at gs 0) ≡ b → MatchBool b (result_of u gs 0 (i - w) ≡ Some t) (IsMultiple (result_of u gs 1 ((i - w) - results_at gs 0)) t) → ⊥
      go true y h = let le = leb-true (i - w) (results_at gs 0) y in absurd (omega (arith, le, over, far))
      go false y h = never-many x.0 h.0 (sym x.1 ∙ h.2)

  input-plain : (i : ℕ) (t : Sort) → 1 ≤ i → FitsInput u s (Inside p.graph n k) i t → IsPlain t → i - 1 < plain
  input-plain i t one h x = go (nat_le i w) refl (subst (λ o. MatchOption o ⊥ (λ (cp : Compound × Part). FitsPartInput u p.graph n cp k i t)) (part-is u ready p place n inside c is k part.Returns f) h)
    where
      go : (b : Bool) → nat_le i w ≡ b → MatchBool b (FitsNodeInput u p.graph n part.Returns k i t) (FitsOwnInput u c part.Returns gs (i - w) t) → i - 1 < plain
      go true y h = let le = leb-true i w y in let o = plain-over c w gs in omega (arith, le, o, one)
      go false y h =
          elim (le-or i plain) [
            | inl le ↦ omega (arith, le, one)
            | inr far ↦ absurd (own-many c i t (nat-false i w y) far h x)
          ]

  -- where a port wants a value, no multiple of iterations or turns is read
  edge-plain : (l port : ℕ) (d : Edge) → edge_into s l port ≡ Some d → IsValueWant (want_at s l port) → ((t : Sort) → carried u s l port ≡ Some t → IsPlain t) → (m i : ℕ) → d.from ≡ origin.Port m i → AllPlain plain (Port m i ∷ [])
  edge-plain l port d at value wants (suc m) i from = tt
  edge-plain l port d at value wants zero i from =
      let x = found-edge u ready q there l port d at in
      let o = subst (λ y. IsOrigin u s d y) from (edge-formed u ready q there d x.0).source in
      let y = wanted-here u ready q there d x.0 (subst IsValueWant (sym (ap (λ m. want_at s m d.port) x.1 ∙ ap (want_at s l) x.2)) value) in
      let sort : carried u s l port ≡ Some y.0 = ap (λ o. o >>= λ d. sort_at u.types d.ty) at ∙ y.1 in
      (input-plain i y.0 o.1.0 (subst (λ z. IsGiven u q z y.0) from y.2.given) (wants y.0 sort), tt)

  same-sort : (a b : Sort) (o : Option Sort) → o ≡ Some a → o ≡ Some b → a ≡ b
  same-sort a b o x y = some-same a b (sym x ∙ y)

  -- compound nodes and Calls read none
  module _ (m : Node) (in_s : Contains (out-Graph s).nodes m) where
    abbrev l : ℕ
    l = label_of m

    abbrev Fits : Option Compound → Option Simple → (port : ℕ) → Sort → Type 0
    Fits d o port t = FitsNode u s l d o port t

    port-plain : (port : ℕ) → IsValueWant (want_at s l port) → ((t : Sort) → Fits (compound_at (out-Node m).op) (simple_at (out-Node m).op) port t → IsPlain t) → AllPlain plain (source_at u s l port ∷ [])
    port-plain port value wants =
        by-edge (AllPlain plain) tt (plain-more plain) u s l port (λ c. tt)
        (λ d at. edge-plain l port d at value (λ t h. let x = wanted-at u ready q there m in_s port d at value in subst IsPlain (same-sort x.sort t (carried u s l port) x.carries h) (wants x.sort x.fits)))

    of-compound : (d : Compound) → compound_at (out-Node m).op ≡ Some d → (port : ℕ) → AllPlain plain (source_at u s l port ∷ [])
    of-compound d g port =
        port-plain port (subst IsValueWant (sym (no-want u ready q there m in_s d g port)) tt) (λ t h. compound-plain d port t (subst (λ z. Fits z (simple_at (out-Node m).op) port t) g h))

    of-call : compound_at (out-Node m).op ≡ None → simple_at (out-Node m).op ≡ Some simple.Call → (port : ℕ) → 2 ≤ port → AllPlain plain (source_at u s l port ∷ [])
    of-call none g zero le = absurd (omega (arith, le))
    of-call none g (suc zero) le = absurd (omega (arith, le))
    of-call none g (suc (suc port)) le =
        port-plain (suc (suc port)) (subst IsValueWant (sym (want-is u ready q there m in_s (suc (suc port)) simple.Call g)) tt)
        (λ t h. let x = subst (λ z. Fits None z (suc (suc port)) t) g (subst (λ z. Fits z (simple_at (out-Node m).op) (suc (suc port)) t) none h) in (x.0, x.2))

    pub whole-plain : (whole : Form) → kind_of u s m ≡ Whole whole → AllPlain plain (ins_of u s l (kind_of u s m))
    whole-plain whole same = go (compound_at (out-Node m).op) (simple_at (out-Node m).op) refl refl same
      where
        all : (kind : Kind) → ((port : ℕ) → first_port kind ≤ port → AllPlain plain (source_at u s l port ∷ [])) → AllPlain plain (ins_of u s l kind)
        all kind h = in-ins (AllPlain plain) tt (plain-more plain) u s l kind h

        clash : (row : Simple) (shape : Shape) → Plain row shape ≡ Whole whole → ⊥
        clash row shape e = cc

        go : (d : Option Compound) (o : Option Simple) → compound_at (out-Node m).op ≡ d → simple_at (out-Node m).op ≡ o → kind_as u s m d o ≡ Whole whole → AllPlain plain (ins_of u s l (kind_as u s m d o))
        go (Some d) o g h x = all (kind_as u s m (Some d) o) (λ port le. of-compound d g port)
        go None None g h x = absurd (clash simple.Error shape.Plain x)
        go None (Some o) g h x = by-call (is_call_as None (Some o)) refl
          where
            by-call : (b : Bool) → is_call_as None (Some o) ≡ b → AllPlain plain (ins_of u s l (simple_kind u s l o))
            by-call true y =
                let z = call-is o y in
                subst (λ z. AllPlain plain (ins_of u s l (simple_kind u s l z))) (sym z) (all (Whole (form.Call (callee_number u s l))) (of-call g (h ∙ ap Some z)))
            by-call false y = absurd (clash o (shape_of u s l o) (sym (plain-kind u s l o y) ∙ x))

  result-plain : (port : ℕ) → 1 ≤ port → AllPlain plain (source_at u s 0 port ∷ [])
  result-plain zero le = absurd (omega (arith, le))
  result-plain (suc i) le =
      by-edge (AllPlain plain) tt (plain-more plain) u s 0 (suc i) (λ c. tt)
      (λ d at. edge-plain 0 (suc i) d at (subst IsValueWant (sym (boundary-wants u ready q there (suc i))) tt) (λ t h. part-result u ready p place n inside c is k s e part.Returns f i t h))

  pub results-plain : AllPlain plain (sources u s 0 1 (results s))
  results-plain = in-sources (AllPlain plain) tt (plain-more plain) u s 0 1 (results s) result-plain
