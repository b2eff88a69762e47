-- Graphs inside, and the compound node that closes them.
use Rattle.std.proofs.Common.{◌≡◌, ◌<◌, ℕ, suc, ◌+◌, List, [], ◌∷◌, ◌++◌, map, length, get_or, set, All, refl, sym, ap, ap₂, subst, ◌∙◌, append-nil, append_assoc, length-append, add_assoc, arith}
use Rattle.std.proofs.lemmas.List.{get_or_at, set_at}
use Rattle.std.proofs.lemmas.List.Elements.{All-nil, All-cons}
use Rattle.if1_graph.specs.declared.op.Compound.{Compound}
use Rattle.if1_graph.specs.declared.op.Compound.TheVariants as compound
use Rattle.lowering.specs.declared.feed.Carried.{Carried}
use Rattle.lowering.specs.declared.feed.Carried.TheVariants.{One}
use Rattle.lowering.specs.declared.feed.Wire.{Wire}
use Rattle.lowering.specs.declared.graph.Action.TheVariants.{Whole}
use Rattle.lowering.specs.declared.graph.LoweredNode.{LoweredNode}
use Rattle.lowering.specs.declared.graph.LoweredGraph.{LoweredGraph}
use Rattle.lowering.specs.declared.graph.Lowered.{Lowered}
use Rattle.lowering.specs.Feeds.{carried, outsides, distinct}
use Rattle.lowering.specs.Graphs.{Lowering, node, numbers, size, inputs, all_uses, closed, closed_graphs, graph_lines, new_graph, new_graphs, whole, ports}
use Rattle.lowering.specs.Choices.{tag_case}
use Rattle.lowered_data.specs.declared.made.Around.{Around}
use Rattle.lowered_data.specs.declared.made.Made.{Made}
use Rattle.lowered_data.specs.Parts.{blank, graph_uses, graph_closed, uses_at, inputs_at, closed_at}
use Rattle.lowered_data.specs.States.{made, next_graph, lowered_in, with_lowered, IsMade, around_of, opened, shut, unclosed, with_part, IsPart, numbered, with_whole, with_tag_case, with_parts, new_parts, places_in, AreParts}

made_same : (first : ℕ) {vs vs' : List LoweredNode} {gs gs' : List LoweredGraph} {cs cs' : List Carried}
    → vs ≡ vs' → gs ≡ gs' → cs ≡ cs' → made first vs gs cs ≡ made first vs' gs' cs'
made_same first p q r = λ i. made first (p i) (q i) (r i)

-- ---- one graph

shut_made : (a : Made) (m : Lowered)
    → shut (with_lowered (opened a) m) (around_of a) m.values ≡ with_part a m
shut_made a m =
    let g = unclosed m in
    let there : (a.graphs ++ blank ∷ []) ++ m.graphs ≡ a.graphs ++ blank ∷ m.graphs = append_assoc a.graphs (blank ∷ []) m.graphs in
    made_same a.first refl
    (ap (λ (gs : List LoweredGraph). set gs (length a.graphs) g) there ∙ set_at a.graphs blank m.graphs g (length a.graphs) refl)
    (append_assoc a.lines m.lines (carried m.values))

opened_in : (a : Made) (f : Lowering) → lowered_in (opened a) f ≡ new_graph f (next_graph a)
opened_in a f =
    let n : next_graph (opened a) ≡ suc (next_graph a) = let l = length-append a.graphs (blank ∷ []) in omega (arith, l) in
    ap (f 0) n

pub shut_part : (f : Lowering) (a b : Made) (vs : List Wire) → IsMade f (opened a) b vs → IsPart f a (shut b (around_of a) vs)
shut_part f a b vs p =
    let m = lowered_in (opened a) f in
    let same : shut b (around_of a) vs ≡ with_part a m = ap₂ (λ s us. shut s (around_of a) us) p.after_is p.values_are ∙ shut_made a m in
    record { after_is = same ∙ ap (with_part a) (opened_in a f) }

pub opened_there : (f : Lowering) (a b : Made) (vs : List Wire) → IsMade f (opened a) b vs → length a.graphs < length b.graphs
opened_there f a b vs p =
    let m = lowered_in (opened a) f in
    let l = ap (λ (s : Made). length s.graphs) p.after_is in
    let k = length-append (a.graphs ++ blank ∷ []) m.graphs in
    let j = length-append a.graphs (blank ∷ []) in
    omega (arith, l, k, j)

-- ---- graphs one after another

pub no_parts : (a : Made) → AreParts [] a a
no_parts a = record { after_is = refl }

number_after : (a : Made) (m : Lowered) → next_graph (with_part a m) ≡ next_graph a + size m
number_after a m = let l = length-append a.graphs (unclosed m ∷ m.graphs) in omega (arith, l)

pub first_part : (f : Lowering) (fs : List Lowering) (a b c : Made) → IsPart f a b → AreParts fs b c → AreParts (f ∷ fs) a c
first_part f fs a b c p q =
    let m = new_graph f (next_graph a) in
    let ms = new_graphs (next_graph a + size m) fs in
    let later : with_parts b (new_parts b fs) ≡ with_parts (with_part a m) ms =
    ap (λ s. with_parts s (new_parts s fs)) p.after_is ∙ ap (λ n. with_parts (with_part a m) (new_graphs n fs)) (number_after a m) in
    record { after_is = q.after_is ∙ later }

pub first_place : (f : Lowering) (fs : List Lowering) (a b : Made) → IsPart f a b → places_in a (f ∷ fs) ≡ length a.graphs ∷ places_in b fs
first_place f fs a b p =
    let m = new_graph f (next_graph a) in
    let l : length (with_part a m).graphs ≡ length a.graphs + size m = length-append a.graphs (unclosed m ∷ m.graphs) in
    ap (λ k. length a.graphs ∷ k)
    (ap₂ (λ n q. numbers n (new_graphs q fs)) (sym l) (sym (number_after a m)) ∙ ap (λ s. places_in s fs) (sym p.after_is))

-- as they stand there
unclosed_all : List Lowered → List LoweredGraph
unclosed_all [] = []
unclosed_all (m ∷ ms) = unclosed m ∷ m.graphs ++ unclosed_all ms

parts_are : (s : Made) (ms : List Lowered) → with_parts s ms ≡ made s.first s.nodes (s.graphs ++ unclosed_all ms) (s.lines ++ graph_lines ms)
unfolding unclosed_all
parts_are s [] = made_same s.first refl (sym (append-nil s.graphs)) (sym (append-nil s.lines))
parts_are s (m ∷ ms) =
    parts_are (with_part s m) ms
    ∙ made_same s.first refl (append_assoc s.graphs (unclosed m ∷ m.graphs) (unclosed_all ms)) (append_assoc s.lines (m.lines ++ carried m.values) (graph_lines ms))

-- ---- what a compound node does to them

uses_there : (xs : List LoweredGraph) (ms : List Lowered) → uses_at (numbers (length xs) ms) (xs ++ unclosed_all ms) ≡ all_uses ms
unfolding unclosed_all
uses_there xs [] = refl
uses_there xs (m ∷ ms) =
    let rest = unclosed_all ms in
    let ys = xs ++ unclosed m ∷ m.graphs in
    let here : get_or (xs ++ (unclosed m ∷ m.graphs ++ rest)) (length xs) blank ≡ unclosed m = get_or_at xs (unclosed m) (m.graphs ++ rest) blank (length xs) refl in
    let apart : xs ++ (unclosed m ∷ m.graphs ++ rest) ≡ ys ++ rest = sym (append_assoc xs (unclosed m ∷ m.graphs) rest) in
    let l : length xs + size m ≡ length ys = sym (length-append xs (unclosed m ∷ m.graphs)) in
    ap₂ (λ g us. graph_uses g ++ us) here (ap₂ (λ n gs. uses_at (numbers n ms) gs) l apart ∙ uses_there ys ms)

closed_there : (ks : List Wire) (first own : ℕ) (xs : List LoweredGraph) (ms : List Lowered)
    → closed_at ks first own (numbers (length xs) ms) (xs ++ unclosed_all ms) ≡ xs ++ closed_graphs ks first own ms
unfolding unclosed_all
closed_there ks first own xs [] = refl
closed_there ks first own xs (m ∷ ms) =
    let rest = unclosed_all ms in
    let g = closed ks first own m in
    let gs = xs ++ (unclosed m ∷ m.graphs ++ rest) in
    let ys = xs ++ g ∷ m.graphs in
    let here : get_or gs (length xs) blank ≡ unclosed m = get_or_at xs (unclosed m) (m.graphs ++ rest) blank (length xs) refl in
    let there : set gs (length xs) g ≡ ys ++ rest =
    set_at xs (unclosed m) (m.graphs ++ rest) g (length xs) refl ∙ sym (append_assoc xs (g ∷ m.graphs) rest) in
    let l : length xs + size m ≡ length ys = sym (length-append xs (g ∷ m.graphs)) in
    ap (λ h. closed_at ks first own (numbers (length xs + size m) ms) (set gs (length xs) (graph_closed ks first own h))) here
    ∙ ap₂ (λ n hs. closed_at ks first own (numbers n ms) hs) l there
    ∙ closed_there ks first own ys ms
    ∙ append_assoc xs (g ∷ m.graphs) (closed_graphs ks first own ms)

numbers_there : (first p : ℕ) (ms : List Lowered) → numbered first (numbers p ms) ≡ numbers (first + p) ms
numbers_there first p [] = refl
numbers_there first p (m ∷ ms) = ap (λ (k : List ℕ). (first + p) ∷ k) (numbers_there first (p + size m) ms ∙ ap (λ n. numbers n ms) (sym (add_assoc first p (size m))))

within_all : (xs : List LoweredGraph) (ms : List Lowered) → All (λ p. p < length (xs ++ unclosed_all ms)) (numbers (length xs) ms)
unfolding unclosed_all
within_all xs [] = All-nil (λ p. p < length (xs ++ unclosed_all []))
within_all xs (m ∷ ms) =
    let rest = unclosed_all ms in
    let ys = xs ++ unclosed m ∷ m.graphs in
    let gs = xs ++ (unclosed m ∷ m.graphs ++ rest) in
    let apart : ys ++ rest ≡ gs = append_assoc xs (unclosed m ∷ m.graphs) rest in
    let l : length ys ≡ length xs + size m = length-append xs (unclosed m ∷ m.graphs) in
    let k = length-append xs (unclosed m ∷ m.graphs ++ rest) in
    let here : length xs < length gs = omega (arith, k) in
    All-cons (λ p. p < length gs) (length xs) (numbers (length xs + size m) ms) here
    (subst (λ (n : ℕ). All (λ p. p < length gs) (numbers n ms)) l (subst (λ (hs : List LoweredGraph). All (λ p. p < length hs) (numbers (length ys) ms)) apart (within_all ys ms)))

pub places_within : (fs : List Lowering) (a s : Made) → AreParts fs a s → All (λ p. p < length s.graphs) (places_in a fs)
places_within fs a s p =
    let ms = new_parts a fs in
    let e : s.graphs ≡ a.graphs ++ unclosed_all ms = ap (λ (k : Made). k.graphs) (p.after_is ∙ parts_are a ms) in
    subst (λ (gs : List LoweredGraph). All (λ q. q < length gs) (places_in a fs)) (sym e) (within_all a.graphs ms)

-- the node that is added, by its inputs, its graphs and their numbers
whole_by : Compound → List ℕ → ℕ → ℕ → Made → List Carried → List Wire → List LoweredGraph → List ℕ → Made
whole_by c arms given outs a lines ks gs ns =
    made a.first (a.nodes ++ node (Whole c ns arms given outs) ks ∷ []) gs (((a.lines ++ lines) ++ []) ++ carried ks)

lines_there : (a : Made) (lines more : List Carried) → ((a.lines ++ lines) ++ []) ++ more ≡ a.lines ++ (lines ++ more)
lines_there a lines more = ap (λ k. k ++ more) (append-nil (a.lines ++ lines)) ∙ append_assoc a.lines lines more

-- the ports of the last node
last_there : (a b : Made) (v : LoweredNode) (ts : List ℕ) → b.nodes ≡ a.nodes ++ v ∷ [] → ports (length b.nodes) 1 (map One ts) ≡ ports (suc (length a.nodes)) 1 (map One ts)
last_there a b v ts e =
    let n : length b.nodes ≡ suc (length a.nodes) = let l = length-append a.nodes (v ∷ []) in let m = ap (λ (k : List LoweredNode). length k) e in omega (arith, l, m) in
    ap (λ k. ports k 1 (map One ts)) n

whole_there : (c : Compound) (arms : List ℕ) (given outs : ℕ) (a : Made) (ms : List Lowered)
    → with_whole c (numbers (length a.graphs) ms) arms given outs (with_parts a ms)
    ≡ whole_by c arms given outs a (graph_lines ms) (inputs ms) (a.graphs ++ closed_graphs (inputs ms) 0 (length (inputs ms)) ms) (numbers (next_graph a) ms)
unfolding whole_by
whole_there c arms given outs a ms =
    let places = numbers (length a.graphs) ms in
    let gs = a.graphs ++ unclosed_all ms in
    let same : inputs_at places gs ≡ inputs ms = ap (λ us. distinct [] (outsides us)) (uses_there a.graphs ms) in
    ap (with_whole c places arms given outs) (parts_are a ms)
    ∙ ap₂ (λ ks ns. whole_by c arms given outs a (graph_lines ms) ks (closed_at ks 0 (length ks) places gs) ns) same (numbers_there a.first (length a.graphs) ms)
    ∙ ap (λ hs. whole_by c arms given outs a (graph_lines ms) (inputs ms) hs (numbers (next_graph a) ms)) (closed_there (inputs ms) 0 (length (inputs ms)) a.graphs ms)

-- a compound node on graphs that were made one after another
pub whole_made : (c : Compound) (fs : List Lowering) (arms : List ℕ) (given : ℕ) (ts : List ℕ) (a s b : Made) (places : List ℕ) (ws : List Wire) → AreParts fs a s → places ≡ places_in a fs
    → b ≡ with_whole c places arms given (length ts) s → ws ≡ ports (length b.nodes) 1 (map One ts) → IsMade (whole c (new_parts a fs) arms given ts) a b ws
unfolding whole_by
whole_made c fs arms given ts a s b places ws p q e v =
    let ms = new_parts a fs in
    let ks = inputs ms in
    let is : b ≡ with_lowered a (lowered_in a (whole c ms arms given ts)) =
    e ∙ ap₂ (λ ps k. with_whole c ps arms given (length ts) k) q p.after_is ∙ whole_there c arms given (length ts) a ms
    ∙ made_same a.first refl refl (lines_there a (graph_lines ms) (carried ks)) in
    record {
      after_is = is;
      values_are = v ∙ last_there a b (node (Whole c (numbers (next_graph a) ms) arms given (length ts)) ks) ts (ap (λ (k : Made). k.nodes) is);
    }

tag_case_there : (u : Wire) (arms : List ℕ) (outs : ℕ) (a : Made) (ms : List Lowered)
    → with_tag_case u (numbers (length a.graphs) ms) arms outs (with_parts a ms)
    ≡ whole_by compound.TagCase arms 0 outs a (graph_lines ms) (u ∷ inputs ms) (a.graphs ++ closed_graphs (inputs ms) 1 0 ms) (numbers (next_graph a) ms)
unfolding whole_by
tag_case_there u arms outs a ms =
    let places = numbers (length a.graphs) ms in
    let gs = a.graphs ++ unclosed_all ms in
    let same : inputs_at places gs ≡ inputs ms = ap (λ us. distinct [] (outsides us)) (uses_there a.graphs ms) in
    ap (with_tag_case u places arms outs) (parts_are a ms)
    ∙ ap₂ (λ ks ns. whole_by compound.TagCase arms 0 outs a (graph_lines ms) (u ∷ ks) (closed_at ks 1 0 places gs) ns) same (numbers_there a.first (length a.graphs) ms)
    ∙ ap (λ hs. whole_by compound.TagCase arms 0 outs a (graph_lines ms) (u ∷ inputs ms) hs (numbers (next_graph a) ms)) (closed_there (inputs ms) 1 0 a.graphs ms)

pub tag_case_made : (u : Wire) (fs : List Lowering) (arms : List ℕ) (ts : List ℕ) (a s b : Made) (places : List ℕ) (ws : List Wire) → AreParts fs a s → places ≡ places_in a fs
    → b ≡ with_tag_case u places arms (length ts) s → ws ≡ ports (length b.nodes) 1 (map One ts) → IsMade (tag_case u fs arms ts) a b ws
unfolding whole_by
tag_case_made u fs arms ts a s b places ws p q e v =
    let ms = new_parts a fs in
    let ks = inputs ms in
    let is : b ≡ with_lowered a (lowered_in a (tag_case u fs arms ts)) =
    e ∙ ap₂ (λ ps k. with_tag_case u ps arms (length ts) k) q p.after_is ∙ tag_case_there u arms (length ts) a ms
    ∙ made_same a.first refl refl (lines_there a (graph_lines ms) (carried (u ∷ ks))) in
    record {
      after_is = is;
      values_are = v ∙ last_there a b (node (Whole compound.TagCase (numbers (next_graph a) ms) arms 0 (length ts)) (u ∷ ks)) ts (ap (λ (k : Made). k.nodes) is);
    }

shut_by : (b n : Made) (a : Around) (vs : List Wire) (dest res : List LoweredNode) (gs : List LoweredGraph) → n ≡ made b.first b.nodes b.graphs (b.lines ++ carried vs)
    → dest ≡ a.nodes → res ≡ n.nodes → gs ≡ set n.graphs a.place (record { nodes = res; results = vs }) → made n.first dest gs n.lines ≡ shut b a vs
shut_by b n a vs dest res gs e d r g =
    made_same n.first d (g ∙ ap (λ (k : List LoweredNode). set n.graphs a.place (record { nodes = k; results = vs })) r) refl
    ∙ ap (λ (k : Made). made k.first a.nodes (set k.graphs a.place (record { nodes = k.nodes; results = vs })) k.lines) e

pub shut_as : (f : Lowering) (before b n : Made) (a : Around) (vs : List Wire) (dest res : List LoweredNode) (gs : List LoweredGraph) → a ≡ around_of before → IsMade f (opened before) b vs
    → n ≡ made b.first b.nodes b.graphs (b.lines ++ carried vs) → dest ≡ a.nodes → res ≡ n.nodes → gs ≡ set n.graphs a.place (record { nodes = res; results = vs })
    → IsPart f before (made n.first dest gs n.lines)
shut_as f before b n a vs dest res gs is p e d r g =
    let q = shut_part f before b vs p in
    record { after_is = shut_by b n a vs dest res gs e d r g ∙ ap (λ k. shut b k vs) is ∙ q.after_is }
