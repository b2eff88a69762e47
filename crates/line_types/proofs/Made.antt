-- What is made of a phrase, and what is told of it by types.
use Rattle.std.proofs.Common.{◌≡◌, ℕ, suc, ◌+◌, List, [], ◌∷◌, ◌++◌, map, length, sym, ap, subst, ◌∙◌, append_assoc}
use Rattle.if1_graph.specs.declared.op.Simple.{Simple}
use Rattle.if1_graph.specs.declared.op.Compound.{Compound}
use Rattle.if1_graph.specs.declared.op.Compound.TheVariants as compound
use Rattle.type_table.specs.declared.form.Form.{Form}
use Rattle.typed_tree.specs.declared.program.Function.{Function}
use Rattle.lowering.specs.declared.feed.Carried.{Carried}
use Rattle.lowering.specs.declared.feed.Wire.{Wire}
use Rattle.lowering.specs.declared.feed.Carried.TheVariants.{One}
use Rattle.lowering.specs.Feeds.{one_carried, carried}
use Rattle.lowering.specs.declared.graph.Action.{Action}
use Rattle.lowering.specs.declared.graph.Lowered.{Lowered}
use Rattle.lowering.specs.declared.graph.Action.TheVariants.{Row, Call, Whole}
use Rattle.lowering.specs.Graphs as graphs
use Rattle.lowering.specs.Graphs.{Lowering, only, joined, ports, callee, used, uses, all_uses, inputs, size, whole, tag_case_on}
use Rattle.lowering.specs.Operations.{Lowers}
use Rattle.lowering.specs.Loops.{types}
use Rattle.line_types.specs.Traces.{Trace, Traces, no_line, andthen, a_node, beside, graph_lines, ones}
use Rattle.line_types.proofs.Same.{In, in-left, in-right, append-nil, Same}
use Rattle.line_types.proofs.Same as same
use Rattle.line_types.proofs.Wires.{IsFilled, AreFilled, AreLined, carried-is, filled-both, filled-ports, types-both, types-ports, lined-more, lined-both, lined-carried, used-both, lined-inputs, carried-among}

-- a node without graphs inside
abbrev pub IsSimple : Action → Type 0
IsSimple (Row op) = Unit {0}
IsSimple (Call f) = Unit {0}
IsSimple (Whole c gs arms given outs) = ⊥

-- a compound node whose inputs stand in order
abbrev pub IsPlain : Compound → Type 0
IsPlain compound.TagCase = ⊥
IsPlain c = Unit {0}

module _ (forms : List Form) (names : List (List ℕ)) (fs : List Function) where
  abbrev pub Alike : List Carried → List Carried → Type 0
  Alike = Same forms names fs

  -- what is made carries what is told
  pub record Is (m : Lowered) (t : Trace) : Type 0 where
    pub values : types m.values ≡ t.values
    pub filled : AreFilled m.values
    pub lines : Alike m.lines t.lines
    pub used : AreLined m.lines (used m.nodes)

  abbrev pub Makes : Lowering → Trace → Type 0
  Makes f t = (n q : ℕ) → Is (f n q) t

  -- where wires are in force that carry these
  abbrev pub To : Lowers → Traces → Type 0
  To g t = (env : List Wire) → AreFilled env → Makes (g env) (t (types env))

  pub makes-as : (f : Lowering) (t u : Trace) → t ≡ u → Makes f t → Makes f u
  makes-as f t u e h = subst (Makes f) e h

  pub only-makes : (ws : List Wire) (cs : List Carried) → AreFilled ws → types ws ≡ cs → Makes (only ws) (no_line cs)
  only-makes ws cs a e n q = record { values = e; filled = a; lines = same.same-itself forms names fs []; used = tt }

  joined-used : (a b : Lowered) → AreLined a.lines (used a.nodes) → AreLined b.lines (used b.nodes) → AreLined (a.lines ++ b.lines) (used (a.nodes ++ b.nodes))
  joined-used a b h k =
      let l = a.lines ++ b.lines in
      subst (AreLined l) (sym (used-both a.nodes b.nodes))
      (lined-both l (used a.nodes) (used b.nodes) (lined-more a.lines l (λ c i. in-left c a.lines b.lines i) (used a.nodes) h) (lined-more b.lines l (λ c i. in-right c a.lines b.lines i) (used b.nodes) k))

  pub then-makes : (f : Lowering) (h : List Wire → Lowering) (t : Trace) (k : List Carried → Trace) → Makes f t
      → ((ws : List Wire) → AreFilled ws → Makes (h ws) (k (types ws))) → Makes (graphs.andthen f h) (andthen t k)
  then-makes f h t k a b n q =
      let m = f n q in
      let here = a n q in
      let x = h m.values (n + length m.nodes) (q + length m.graphs) in
      let next : Is x (k t.values) = subst (λ cs. Is x (k cs)) here.values (b m.values here.filled (n + length m.nodes) (q + length m.graphs)) in
      record {
        values = next.values;
        filled = next.filled;
        lines = same.same-both forms names fs m.lines t.lines x.lines (k t.values).lines here.lines next.lines;
        used = joined-used m x here.used next.used;
      }

  -- both, with the values of both
  pub beside-makes : (f g : Lowering) (t u : Trace) → Makes f t → Makes g u
      → Makes (graphs.andthen f (λ vs. graphs.andthen g (λ ws. only (vs ++ ws)))) (beside t u)
  beside-makes f g t u a b =
      makes-as (graphs.andthen f (λ vs. graphs.andthen g (λ ws. only (vs ++ ws)))) (andthen t (λ vs. andthen u (λ ws. no_line (vs ++ ws)))) (beside t u)
      (ap (λ l. record { lines = t.lines ++ l; values = t.values ++ u.values }) (append-nil u.lines))
      (then-makes f (λ vs. graphs.andthen g (λ ws. only (vs ++ ws))) t (λ vs. andthen u (λ ws. no_line (vs ++ ws))) a
      (λ vs av. then-makes g (λ ws. only (vs ++ ws)) u (λ ws. no_line (types vs ++ ws)) b
      (λ ws aw. only-makes (vs ++ ws) (types vs ++ types ws) (filled-both vs ws av aw) (types-both vs ws))))

  -- a node without graphs inside
  pub node-makes : (act : Action) (ins : List Wire) (port : ℕ) (cs : List Carried) → IsSimple act → Makes (graphs.a_node act ins port cs) (a_node (callee act ++ carried ins) cs)
  node-makes act ins port cs s n q = record {
    values = types-ports (suc n) port cs;
    filled = filled-ports (suc n) port cs;
    lines = same.same-itself forms names fs (callee act ++ carried ins);
    used = lined act s;
  }
    where
      ports-lined : (l : List Carried) → AreLined (l ++ carried ins) (ins ++ [])
      ports-lined l = subst (AreLined (l ++ carried ins)) (sym (append-nil ins)) (lined-more (carried ins) (l ++ carried ins) (λ c i. in-right c l (carried ins) i) ins (lined-carried ins))

      lined : (act : Action) → IsSimple act → AreLined (callee act ++ carried ins) (used (graphs.node act ins ∷ []))
      lined (Row op) s = ports-lined []
      lined (Call f) s = ports-lined (callee (Call f))
      lined (Whole c gs arms given outs) s = absurd s

  pub row-makes : (op : Simple) (ins : List Wire) (cs outs : List Carried) (port : ℕ) → AreFilled ins → types ins ≡ cs → Makes (graphs.a_node (Row op) ins port outs) (a_node cs outs)
  row-makes op ins cs outs port a e =
      makes-as (graphs.a_node (Row op) ins port outs) (a_node (carried ins) outs) (a_node cs outs) (ap (λ l. a_node l outs) (carried-is ins a ∙ e)) (node-makes (Row op) ins port outs tt)

  -- ---- compound nodes

  abbrev pub AreMade : List Lowered → List Trace → Type 0
  AreMade [] [] = Unit {0}
  AreMade (m ∷ ms) (t ∷ ts) = Is m t × AreMade ms ts
  AreMade [] (t ∷ ts) = ⊥
  AreMade (m ∷ ms) [] = ⊥

  graph-values : (m : Lowered) (t : Trace) → Is m t → Alike (m.lines ++ carried m.values) (t.lines ++ t.values)
  graph-values m t h =
      same.same-both forms names fs m.lines t.lines (carried m.values) t.values h.lines (same.same-as forms names fs (carried m.values) t.values (carried-is m.values h.filled ∙ h.values))

  pub graphs-alike : (ms : List Lowered) (ts : List Trace) → AreMade ms ts → Alike (graphs.graph_lines ms) (graph_lines ts)
  graphs-alike [] [] h = same.same-itself forms names fs []
  graphs-alike [] (t ∷ ts) h = absurd h
  graphs-alike (m ∷ ms) [] h = absurd h
  graphs-alike (m ∷ ms) (t ∷ ts) h =
      same.same-both forms names fs (m.lines ++ carried m.values) (t.lines ++ t.values) (graphs.graph_lines ms) (graph_lines ts) (graph-values m t h.0) (graphs-alike ms ts h.1)

  uses-lined : (ms : List Lowered) (ts : List Trace) → AreMade ms ts → AreLined (graphs.graph_lines ms) (all_uses ms)
  uses-lined [] [] h = tt
  uses-lined [] (t ∷ ts) h = absurd h
  uses-lined (m ∷ ms) [] h = absurd h
  uses-lined (m ∷ ms) (t ∷ ts) h =
      let here = m.lines ++ carried m.values in
      let l = here ++ graphs.graph_lines ms in
      let own = lined-both here (used m.nodes) m.values (lined-more m.lines here (λ c i. in-left c m.lines (carried m.values) i) (used m.nodes) h.0.used)
      (lined-more (carried m.values) here (λ c i. in-right c m.lines (carried m.values) i) m.values (lined-carried m.values)) in
      lined-both l (uses m) (all_uses ms) (lined-more here l (λ c i. in-left c here (graphs.graph_lines ms) i) (uses m) own)
      (lined-more (graphs.graph_lines ms) l (λ c i. in-right c here (graphs.graph_lines ms) i) (all_uses ms) (uses-lined ms ts h.1))

  inputs-lined : (ms : List Lowered) (ts : List Trace) → AreMade ms ts → AreLined (graphs.graph_lines ms) (inputs ms)
  inputs-lined ms ts h = lined-inputs (graphs.graph_lines ms) (all_uses ms) (uses-lined ms ts h)

  pub whole-makes : (c : Compound) (ms : List Lowered) (tr : List Trace) (arms : List ℕ) (given : ℕ) (ts : List ℕ) (n q : ℕ) → IsPlain c → AreMade ms tr
      → Is (whole c ms arms given ts n q) (a_node (graph_lines tr) (ones ts))
  whole-makes c ms tr arms given ts n q p h =
      let l = graphs.graph_lines ms in
      let ks = inputs ms in
      let lined = inputs-lined ms tr h in
      record {
        values = types-ports (suc n) 1 (map One ts);
        filled = filled-ports (suc n) 1 (map One ts);
        lines = same.same-then forms names fs (l ++ carried ks) l (graph_lines tr) (same.same-without forms names fs l (carried ks) (λ c i. carried-among l ks lined c i)) (graphs-alike ms tr h);
        used = by c p (subst (AreLined (l ++ carried ks)) (sym (append-nil ks)) (lined-more l (l ++ carried ks) (λ c i. in-left c l (carried ks) i) ks lined));
      }
    where
      by : (c : Compound) → IsPlain c → AreLined (graphs.graph_lines ms ++ carried (inputs ms)) (inputs ms ++ [])
          → AreLined (graphs.graph_lines ms ++ carried (inputs ms)) (used (graphs.node (Whole c (graphs.numbers q ms) arms given (length ts)) (inputs ms) ∷ []))
      by compound.Select p x = x
      by compound.TagCase p x = absurd p
      by compound.ForAll p x = x
      by compound.LoopA p x = x
      by compound.LoopB p x = x

  pub tag-case-makes : (u : Wire) (ms : List Lowered) (tr : List Trace) (arms ts : List ℕ) (n q : ℕ) → IsFilled u.feed → AreMade ms tr
      → Is (tag_case_on u ms arms ts n q) (a_node (graph_lines tr ++ u.ty ∷ []) (ones ts))
  tag-case-makes u ms tr arms ts n q f h =
      let l = graphs.graph_lines ms in
      let ks = inputs ms in
      let lined = inputs-lined ms tr h in
      let line = carried (u ∷ []) in
      let line-is : line ≡ u.ty ∷ [] = carried-is (u ∷ []) (f, tt) in
      let all : l ++ carried (u ∷ ks) ≡ (l ++ line) ++ carried ks = ap (λ z. l ++ (z ++ carried ks)) (sym (append-nil (one_carried u.feed u.ty))) ∙ sym (append_assoc l line (carried ks)) in
      let whole-lined : AreLined (l ++ line) ks = lined-more l (l ++ line) (λ c i. in-left c l line i) ks lined in
      record {
        values = types-ports (suc n) 1 (map One ts);
        filled = filled-ports (suc n) 1 (map One ts);
        lines = same.same-then forms names fs (l ++ carried (u ∷ ks)) (l ++ line) (graph_lines tr ++ u.ty ∷ [])
            (same.same-then forms names fs (l ++ carried (u ∷ ks)) ((l ++ line) ++ carried ks) (l ++ line) (same.same-as forms names fs (l ++ carried (u ∷ ks)) ((l ++ line) ++ carried ks) all)
            (same.same-without forms names fs (l ++ line) (carried ks) (λ c i. carried-among (l ++ line) ks whole-lined c i)))
            (same.same-both forms names fs l (graph_lines tr) line (u.ty ∷ []) (graphs-alike ms tr h) (same.same-as forms names fs line (u.ty ∷ []) line-is));
        used = subst (AreLined (l ++ carried (u ∷ ks))) (sym (append-nil (ks ++ u ∷ [])))
            (lined-both (l ++ carried (u ∷ ks)) ks (u ∷ []) (lined-more l (l ++ carried (u ∷ ks)) (λ c i. in-left c l (carried (u ∷ ks)) i) ks lined)
            (lined-more (carried (u ∷ ks)) (l ++ carried (u ∷ ks)) (λ c i. in-right c l (carried (u ∷ ks)) i) (u ∷ []) ((lined-carried (u ∷ ks)).0, tt)));
      }
