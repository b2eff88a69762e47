-- Phrases that are lowered one after another.
use Rattle.std.proofs.Common.{◌≡◌, ℕ, suc, ◌+◌, List, length, refl, sym, ap, ap₂, subst, ◌∙◌, append-nil, append_assoc, length-append, arith}
use Rattle.lowering.specs.declared.feed.Carried.{Carried}
use Rattle.lowering.specs.declared.feed.Wire.{Wire}
use Rattle.lowering.specs.declared.graph.Action.{Action}
use Rattle.lowering.specs.declared.graph.LoweredNode.{LoweredNode}
use Rattle.lowering.specs.declared.graph.LoweredGraph.{LoweredGraph}
use Rattle.lowering.specs.declared.graph.Lowered.{Lowered}
use Rattle.lowering.specs.Feeds.{carried}
use Rattle.lowering.specs.Graphs.{Lowering, only, joined, andthen, a_node, callee, ports}
use Rattle.lowered_data.specs.declared.made.Made.{Made}
use Rattle.lowered_data.specs.States.{made, next_graph, lowered_in, with_lowered, with_node, IsMade}

made_same : (first : ℕ) {vs vs' : List LoweredNode} {gs gs' : List LoweredGraph} {cs cs' : List Carried}
    → vs ≡ vs' → gs ≡ gs' → cs ≡ cs' → made first vs gs cs ≡ made first vs' gs' cs'
made_same first p q r = λ i. made first (p i) (q i) (r i)

pub only_made : (s : Made) (ws : List Wire) → IsMade (only ws) s s ws
only_made s ws = record {
  after_is = made_same s.first (sym (append-nil s.nodes)) (sym (append-nil s.graphs)) (sym (append-nil s.lines));
  values_are = refl;
}

with_both : (s : Made) (a b : Lowered) → with_lowered (with_lowered s a) b ≡ with_lowered s (joined a b)
with_both s a b = made_same s.first (append_assoc s.nodes a.nodes b.nodes) (append_assoc s.graphs a.graphs b.graphs) (append_assoc s.lines a.lines b.lines)

-- what comes next sees the nodes and graphs of what came before
next_in : (s : Made) (a : Lowered) (g : Lowering) → lowered_in (with_lowered s a) g ≡ g (length s.nodes + length a.nodes) (next_graph s + length a.graphs)
next_in s a g =
    let graphs : next_graph (with_lowered s a) ≡ next_graph s + length a.graphs = let l = length-append s.graphs a.graphs in omega (arith, l) in
    ap₂ g (length-append s.nodes a.nodes) graphs

andthen_with : (s : Made) (f : Lowering) (g : List Wire → Lowering)
    → lowered_in s (andthen f g) ≡ joined (lowered_in s f) (lowered_in (with_lowered s (lowered_in s f)) (g (lowered_in s f).values))
andthen_with s f g = ap (joined (lowered_in s f)) (sym (next_in s (lowered_in s f) (g (lowered_in s f).values)))

pub andthen_made : (f : Lowering) (g : List Wire → Lowering) (a b c : Made) (vs ws : List Wire) → IsMade f a b vs → IsMade (g vs) b c ws → IsMade (andthen f g) a c ws
andthen_made f g a b c vs ws p q =
    let m = lowered_in a f in
    let next = lowered_in (with_lowered a m) (g m.values) in
    let same : lowered_in b (g vs) ≡ next = ap₂ (λ s us. lowered_in s (g us)) p.after_is p.values_are in
    record {
      after_is = q.after_is ∙ ap₂ with_lowered p.after_is same ∙ with_both a m next ∙ ap (with_lowered a) (sym (andthen_with a f g));
      values_are = q.values_are ∙ ap (λ (k : Lowered). k.values) same ∙ ap (λ (k : Lowered). k.values) (sym (andthen_with a f g));
    }

-- a phrase that is another one
pub same_made : (f g : Lowering) (a b : Made) (ws : List Wire) → f ≡ g → IsMade f a b ws → IsMade g a b ws
same_made f g a b ws e p = subst (λ (h : Lowering). IsMade h a b ws) e p

pub node_made : (s : Made) (a : Action) (ins : List Wire) (port : ℕ) (ts : List Carried)
    → IsMade (a_node a ins port ts) s (with_node s a ins) (ports (suc (length s.nodes)) port ts)
node_made s a ins port ts = record {
  after_is = made_same s.first refl (sym (append-nil s.graphs)) (append_assoc s.lines (callee a) (carried ins));
  values_are = refl;
}

pub added : (s t : Made) (a : Action) (ins : List Wire) (port : ℕ) (ts : List Carried) (ws : List Wire) (label : ℕ)
    → t ≡ with_node s a ins → label ≡ suc (length s.nodes) → ws ≡ ports label port ts → IsMade (a_node a ins port ts) s t ws
added s t a ins port ts ws label e l v =
    let p = node_made s a ins port ts in
    record { after_is = e ∙ p.after_is; values_are = v ∙ ap (λ n. ports n port ts) l }
