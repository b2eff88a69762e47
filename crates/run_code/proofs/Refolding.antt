-- The returns goes on columns where the other graph goes on what is collected, and the other way round.
use Rattle.std.proofs.Common.{◌≡◌, ℕ, zero, suc, ◌+◌, ◌-◌, ◌<◌, inl, inr, eqb, Bool, true, false, if◌then◌else◌, List, [], ◌∷◌, ◌++◌, length, get_or, slice_get, Some, None, refl, sym, ap, ◌∙◌, subst, arith}
use Rattle.ordered_meaning.specs.Carried.{Carried, Unfilled}
use Rattle.ordered_meaning.specs.NodeValues.{op}
use Rattle.ordered_meaning.specs.Forms.{columns}
use Rattle.ordered_meaning.specs.Demand.{Source, Port, Fixed, Vertex}
use Rattle.ordered_meaning.specs.Storage.{Weights}
use Rattle.ordered_meaning.proofs.Bound.{bound-before, same-some}
use Rattle.ordered_meaning.specs.Laws.{counting}
use Rattle.ordered_meaning.specs.Ordered.{Bindings, Fired, GraphYields, Inputs, KindYields, NodeYields, NodesYield, ReadsAll, Rest, Total, and_results, bound, with_both}
use Rattle.run_code.proofs.Columns.{get-first, get-second}
use Rattle.run_code.proofs.Folding.{sifts-made}
use Rattle.run_code.proofs.Totals.{both-fire, both-sum, results-fire, results-sum}
use Rattle.run_code.specs.Collections.{Collect, Final, Sifts, collected, made}
use Rattle.run_code.specs.Refolds.{AllLong, AllPlain, AreRefolded, AreWhole, Refolded, Refolds, a_fold, a_whole, none_refolded, one_refolded, ports_of, reads, rows_sum, unchanged}

-- with other inputs
abbrev pub regiven : List Carried → Bindings → Bindings
regiven other (Inputs ins) = Inputs other
regiven other (Fired l rs env) = Fired l rs (regiven other env)

abbrev pub Based : List Carried → Bindings → Type 0
Based ins (Inputs x) = x ≡ ins
Based ins (Fired l rs env) = ((n : ℕ) × (l ≡ suc n)) × Based ins env

never : (n : ℕ) → 0 ≡ suc n → ⊥
never n e = absurd (omega (arith, e))

bound-over : (plain : ℕ) (ins other : List Carried) → ((i : ℕ) → i < plain → get_or ins i Unfilled ≡ get_or other i Unfilled) → (env : Bindings) (l p : ℕ) (k : Carried) → Based ins env → bound env l p ≡ Some k → (l ≡ 0 → p - 1 < plain) → bound (regiven other env) l p ≡ Some k
bound-over plain ins other agree (Inputs x) zero p k based h lt = ap Some (sym (agree (p - 1) (lt refl)) ∙ sym (ap (λ z. get_or z (p - 1) Unfilled) based)) ∙ h
bound-over plain ins other agree (Inputs x) (suc l) p k based h lt = h
bound-over plain ins other agree (Fired label rs env) l p k based h lt = go (eqb l label) h (λ z. bound-over plain ins other agree env l p k based.1 z lt)
  where
    go : (b : Bool) → (if b then Some (get_or rs (p - 1) Unfilled) else bound env l p) ≡ Some k → (bound env l p ≡ Some k → bound (regiven other env) l p ≡ Some k) → (if b then Some (get_or rs (p - 1) Unfilled) else bound (regiven other env) l p) ≡ Some k
    go true h rest = h
    go false h rest = rest h

reads-over : (plain : ℕ) (ins other : List Carried) → ((i : ℕ) → i < plain → get_or ins i Unfilled ≡ get_or other i Unfilled) → (env : Bindings) → Based ins env → (os : List Source) (ks : List Carried) → AllPlain plain os → ReadsAll env os ks → ReadsAll (regiven other env) os ks
reads-over plain ins other agree env based [] [] a h = tt
reads-over plain ins other agree env based [] (k ∷ ks) a h = absurd h
reads-over plain ins other agree env based (o ∷ os) [] a h = absurd h
reads-over plain ins other agree env based (Fixed c ∷ os) (k ∷ ks) a h = (h.0, reads-over plain ins other agree env based os ks a h.1)
reads-over plain ins other agree env based (Port zero p ∷ os) (k ∷ ks) a h = (bound-over plain ins other agree env 0 p k based h.0 (λ e. a.0), reads-over plain ins other agree env based os ks a.1 h.1)
reads-over plain ins other agree env based (Port (suc l) p ∷ os) (k ∷ ks) a h = (bound-over plain ins other agree env (suc l) p k based h.0 (λ e. absurd (never l (sym e))), reads-over plain ins other agree env based os ks a h.1)

regiven-based : (ins other : List Carried) (env : Bindings) → Based ins env → Based other (regiven other env)
regiven-based ins other (Inputs x) h = refl
regiven-based ins other (Fired l rs env) h = (h.0, regiven-based ins other env h.1)

input-has : (ins : List Carried) (env : Bindings) (p : ℕ) → Based ins env → bound env 0 p ≡ Some (get_or ins (p - 1) Unfilled)
input-has ins (Inputs x) p based = ap (λ z. Some (get_or z (p - 1) Unfilled)) based
input-has ins (Fired l rs env) p based = bound-before l rs env 0 p (λ e. never based.0.0 (e ∙ based.0.1)) ∙ input-has ins env p based.1

input-read : (ins : List Carried) (env : Bindings) (p : ℕ) (k : Carried) → Based ins env → bound env 0 p ≡ Some k → k ≡ get_or ins (p - 1) Unfilled
input-read ins env p k based h = same-some k (get_or ins (p - 1) Unfilled) (sym h ∙ input-has ins env p based)

reads-split : (env : Bindings) (os qs : List Source) (ks : List Carried) → ReadsAll env (os ++ qs) ks → (xs ys : List Carried) × (ks ≡ xs ++ ys) × ReadsAll env os xs × ReadsAll env qs ys × (length xs ≡ length os)
reads-split env [] qs ks h = ([], ks, refl, tt, h, refl)
reads-split env (o ∷ os) qs [] h = absurd h
reads-split env (o ∷ os) qs (k ∷ ks) h = let s = reads-split env os qs ks h.1 in (k ∷ s.0, s.1, ap (λ z. k ∷ z) s.2, (h.0, s.3), s.4, ap suc s.5)

reads-join : (env : Bindings) (os qs : List Source) (xs ys : List Carried) → ReadsAll env os xs → ReadsAll env qs ys → ReadsAll env (os ++ qs) (xs ++ ys)
reads-join env [] qs [] ys a b = b
reads-join env [] qs (x ∷ xs) ys a b = absurd a
reads-join env (o ∷ os) qs [] ys a b = absurd a
reads-join env (o ∷ os) qs (x ∷ xs) ys a b = (a.0, reads-join env os qs xs ys a.1 b)

behind-plain : (plain : ℕ) (ks₀ cols : List Carried) (j : ℕ) → length ks₀ ≡ plain → get_or (ks₀ ++ cols) (suc (plain + j) - 1) Unfilled ≡ get_or cols j Unfilled
behind-plain plain ks₀ cols j e = ap (λ i. get_or (ks₀ ++ cols) i Unfilled) (omega (arith, e)) ∙ get-second ks₀ cols j

port-read : (plain : ℕ) (ks₀ cols : List Carried) (env : Bindings) (j : ℕ) (k : Carried) → length ks₀ ≡ plain → Based (ks₀ ++ cols) env → bound env 0 (suc (plain + j)) ≡ Some k → k ≡ get_or cols j Unfilled
port-read plain ks₀ cols env j k e based h = input-read (ks₀ ++ cols) env (suc (plain + j)) k based h ∙ behind-plain plain ks₀ cols j e

port-has : (plain : ℕ) (ks₀ cols : List Carried) (env : Bindings) (j : ℕ) → length ks₀ ≡ plain → Based (ks₀ ++ cols) env → bound env 0 (suc (plain + j)) ≡ Some (get_or cols j Unfilled)
port-has plain ks₀ cols env j e based = input-has (ks₀ ++ cols) env (suc (plain + j)) based ∙ ap Some (behind-plain plain ks₀ cols j e)

alone-read : (plain : ℕ) (ks₀ cols : List Carried) (env : Bindings) (j : ℕ) (ks : List Carried) → length ks₀ ≡ plain → Based (ks₀ ++ cols) env → ReadsAll env (Port 0 (suc (plain + j)) ∷ []) ks → ks ≡ get_or cols j Unfilled ∷ []
alone-read plain ks₀ cols env j [] e based h = absurd h
alone-read plain ks₀ cols env j (k ∷ []) e based h = ap (λ z. z ∷ []) (port-read plain ks₀ cols env j k e based h.0)
alone-read plain ks₀ cols env j (k ∷ x ∷ ks) e based h = absurd h.1

ports-read : (plain : ℕ) (ks₀ cols : List Carried) (env : Bindings) (c : Collect) (ks : List Carried) → length ks₀ ≡ plain → Based (ks₀ ++ cols) env → ReadsAll env (ports_of plain c) ks → ks ≡ reads c cols
ports-read plain ks₀ cols env (Sifts j None) ks e based h = alone-read plain ks₀ cols env j ks e based h
ports-read plain ks₀ cols env (Final j) ks e based h = alone-read plain ks₀ cols env j ks e based h
ports-read plain ks₀ cols env (Sifts j (Some q)) [] e based h = absurd h
ports-read plain ks₀ cols env (Sifts j (Some q)) (k ∷ ks) e based h =
    ap (λ z. z ∷ ks) (port-read plain ks₀ cols env j k e based h.0) ∙ ap (λ z. get_or cols j Unfilled ∷ z) (alone-read plain ks₀ cols env q ks e based h.1)

ports-has : (plain : ℕ) (ks₀ cols : List Carried) (env : Bindings) (c : Collect) → length ks₀ ≡ plain → Based (ks₀ ++ cols) env → ReadsAll env (ports_of plain c) (reads c cols)
ports-has plain ks₀ cols env (Sifts j None) e based = (port-has plain ks₀ cols env j e based, tt)
ports-has plain ks₀ cols env (Final j) e based = (port-has plain ks₀ cols env j e based, tt)
ports-has plain ks₀ cols env (Sifts j (Some q)) e based = (port-has plain ks₀ cols env j e based, (port-has plain ks₀ cols env q e based, tt))

get-made : (cs : List Collect) (k : ℕ) (c : Collect) (cols : List (List Carried)) → slice_get cs k ≡ Some c → get_or (collected cs cols) k Unfilled ≡ made c cols
get-made [] k c cols e = absurd (no e)
  where
    no : None ≡ Some c → ⊥
    no e = cc
get-made (d ∷ cs) zero c cols e = ap (λ z. made z cols) (same e)
  where
    same : Some d ≡ Some c → d ≡ c
    same e = cc
get-made (d ∷ cs) (suc k) c cols e = get-made cs k c cols e

pub sum-none : (rows : List (List Carried)) → rows_sum (λ row. 0) rows ≡ 0
sum-none [] = refl
sum-none (r ∷ rs) = let e = sum-none rs in omega (arith, e)

sum-both : (e es : List Carried → ℕ) (rows : List (List Carried)) → rows_sum (λ row. e row + es row) rows ≡ rows_sum e rows + rows_sum es rows
sum-both e es [] = refl
sum-both e es (r ∷ rs) = let x = sum-both e es rs in omega (arith, x)

module _ (W : Weights) (plain m : ℕ) (cs : List Collect) (r r' : ℕ) (rest : Rest (counting W))
    (ks₀ : List Carried) (rows : List (List Carried)) (many : length ks₀ ≡ plain) (long : AllLong m rows) where
  abbrev cols : List Carried
  cols = columns m rows

  abbrev ins : List Carried
  ins = ks₀ ++ columns m rows

  abbrev other : List Carried
  other = ks₀ ++ collected cs rows

  agree : (i : ℕ) → i < plain → get_or ins i Unfilled ≡ get_or other i Unfilled
  agree i lt = get-first ks₀ (columns m rows) i (omega (arith, lt, many)) ∙ sym (get-first ks₀ (collected cs rows) i (omega (arith, lt, many)))

  agree' : (i : ℕ) → i < plain → get_or other i Unfilled ≡ get_or ins i Unfilled
  agree' i lt = sym (agree i lt)

  -- what is collected whole is the column
  whole : (j k : ℕ) → slice_get cs k ≡ Some (Sifts j None) → j < m → get_or (collected cs rows) k Unfilled ≡ get_or (columns m rows) j Unfilled
  whole j k at_k lt = get-made cs k (Sifts j None) rows at_k ∙ sifts-made m j None rows (lt, tt) long

  -- sources that are read whole read the same
  whole-reads : (env : Bindings) → Based ins env → (os qs : List Source) (ks : List Carried) → AreWhole plain m cs os qs → ReadsAll env os ks → ReadsAll (regiven other env) qs ks
  whole-reads env based [] [] ks w h = h
  whole-reads env based [] (q ∷ qs) ks w h = absurd w
  whole-reads env based (o ∷ os) [] ks w h = absurd w
  whole-reads env based (o ∷ os) (q ∷ qs) ks (inl e, rest) h =
      let s = reads-split env (o ∷ []) os ks h in
      subst (ReadsAll (regiven other env) (q ∷ qs)) (sym s.2)
      (reads-join (regiven other env) (q ∷ []) qs s.0 s.1 (subst (λ z. ReadsAll (regiven other env) (z ∷ []) s.0) (sym e.0) (reads-over plain ins other agree env based (o ∷ []) s.0 e.1 s.3)) (whole-reads env based os qs s.1 rest s.4))
  whole-reads env based (o ∷ os) (q ∷ qs) ks (inr e, rest) h =
      let s = reads-split env (o ∷ []) os ks h in
      let one = alone-read plain ks₀ cols env e.0 s.0 many based (subst (λ z. ReadsAll env (z ∷ []) s.0) e.2 s.3) in
      let has = port-has plain ks₀ (collected cs rows) (regiven other env) e.1 many (regiven-based ins other env based) ∙ ap Some (whole e.0 e.1 e.4 e.5) in
      subst (ReadsAll (regiven other env) (q ∷ qs)) (sym s.2)
      (reads-join (regiven other env) (q ∷ []) qs s.0 s.1 (subst (ReadsAll (regiven other env) (q ∷ [])) (sym one) (subst (λ z. ReadsAll (regiven other env) (z ∷ []) (get_or cols e.0 Unfilled ∷ [])) (sym e.3) (has, tt))) (whole-reads env based os qs s.1 rest s.4))

  -- ---- from columns to what is collected

  record Node' (env : Bindings) (v' : Vertex) (rs : List Carried) (inner : Total (counting W)) (own more : ℕ) : Type 0 where
    pub node : NodeYields (counting W) rest env v' rs inner
    pub sum : own ≡ W.of_node r' v' node.operands rs + more

  to-node : (v v' : Vertex) (e : List Carried → ℕ) → Refolded W plain m cs r r' v v' e → (env : Bindings) (rs : List Carried) (inner : Total (counting W)) → Based ins env → (node : NodeYields (counting W) rest env v rs inner)
      → Node' (regiven other env) v' rs inner (W.of_node r v node.operands rs) (rows_sum e rows)
  to-node _ _ _ (unchanged v l label plainly same) env rs inner based node =
      let z = sum-none rows in
      let s = same node.operands rs in
      record { node = record { operands = node.operands; reads = reads-over plain ins other agree env based v.ins node.operands plainly node.reads; gives = node.gives }; sum = omega (arith, z, s) }
  to-node _ _ _ (a_fold v v' l before row row' shape shape' c k e label label' kind kind' are are' plainly at_k gives weighs) env rs inner based node =
      let s = reads-split env before (ports_of plain c) node.operands (subst (λ z. ReadsAll env z node.operands) are node.reads) in
      let ys = ports-read plain ks₀ cols env c s.1 many based s.4 in
      let operands : node.operands ≡ s.0 ++ reads c cols = s.2 ∙ ap (λ z. s.0 ++ z) ys in
      let goes = subst (λ z. KindYields (counting W) rest z node.operands rs inner) kind node.gives in
      let last = port-has plain ks₀ (collected cs rows) (regiven other env) k many (regiven-based ins other env based) ∙ ap Some (get-made cs k c rows at_k) in
      record {
        node = record {
          operands = s.0 ++ made c rows ∷ [];
          reads = subst (λ z. ReadsAll (regiven other env) z (s.0 ++ made c rows ∷ [])) (sym are')
              (reads-join (regiven other env) before (Port 0 (suc (plain + k)) ∷ []) s.0 (made c rows ∷ []) (reads-over plain ins other agree env based before s.0 plainly s.3) (last, tt));
          gives = subst (λ z. KindYields (counting W) rest z (s.0 ++ made c rows ∷ []) rs inner) (sym kind') (goes.0 ∙ (ap (op row shape) operands ∙ gives s.0 rows s.5 long), goes.1);
        };
        sum = ap (λ z. W.of_node r v z rs) operands ∙ weighs s.0 rs rows s.5 long;
      }
  to-node _ _ _ (a_whole v v' l row shape label label' kind kind' wholly same) env rs inner based node =
      let goes = subst (λ z. KindYields (counting W) rest z node.operands rs inner) kind node.gives in
      let z = sum-none rows in
      let e = same node.operands rs in
      record {
        node = record {
          operands = node.operands;
          reads = whole-reads env based v.ins v'.ins node.operands wholly node.reads;
          gives = subst (λ z. KindYields (counting W) rest z node.operands rs inner) (sym kind') goes;
        };
        sum = omega (arith, z, e);
      }

  record Nodes' (env after : Bindings) (vs' : List Vertex) (c : Total (counting W)) (more : ℕ) : Type 0 where
    pub total : Total (counting W)
    pub goes : NodesYield (counting W) rest r' (regiven other env) vs' (regiven other after) total
    pub fires : total.fires ≡ c.fires
    pub sum : c.sum ≡ total.sum + more
    pub based : Based ins after

  label-of : (v v' : Vertex) (e : List Carried → ℕ) → Refolded W plain m cs r r' v v' e → (l : ℕ) × (v.label ≡ suc l) × (v'.label ≡ v.label)
  label-of _ _ _ (unchanged v l label plainly same) = (l, label, refl)
  label-of _ _ _ (a_fold v v' l before row row' shape shape' c k e label label' kind kind' are are' plainly at_k gives weighs) = (l, label, label')
  label-of _ _ _ (a_whole v v' l row shape label label' kind kind' wholly same) = (l, label, label')

  to-nodes : (vs vs' : List Vertex) (extra : List Carried → ℕ) → AreRefolded W plain m cs r r' vs vs' extra → (env after : Bindings) (c : Total (counting W)) → Based ins env → NodesYield (counting W) rest r env vs after c
      → Nodes' env after vs' c (rows_sum extra rows)
  to-nodes _ _ _ none_refolded env after c based goes =
      let z = sum-none rows in
      record { total = c; goes = (ap (regiven other) goes.0, goes.1); fires = refl; sum = omega (arith, z); based = subst (Based ins) (sym goes.0) based }
  to-nodes _ _ _ (one_refolded v v' vs vs' e es one others) env after c based goes =
      let rs = goes.0 in
      let inner = goes.1 in
      let later = goes.2 in
      let node = goes.3 in
      let own = W.of_node r v node.operands rs in
      let bf = both-fire W c inner later 1 own goes.5 in
      let bs = both-sum W c inner later 1 own goes.5 in
      let n = label-of v v' e one in
      let x = to-node v v' e one env rs inner based node in
      let y = to-nodes vs vs' es others (Fired v.label rs env) after later ((n.0, n.1), based) goes.4 in
      let yf = y.fires in
      let ys = y.sum in
      let xs = x.sum in
      let both = sum-both e es rows in
      let bound_is : Fired v'.label rs (regiven other env) ≡ regiven other (Fired v.label rs env) = ap (λ z. Fired z rs (regiven other env)) n.2 in
      record {
        total = with_both (counting W) 1 (W.of_node r' v' x.node.operands rs) inner y.total;
        goes = (rs, inner, y.total, x.node, subst (λ z. NodesYield (counting W) rest r' z vs' (regiven other after) y.total) (sym bound_is) y.goes, refl);
        fires = omega (arith, bf, yf);
        sum = omega (arith, bs, ys, xs, both);
        based = y.based;
      }

  -- these nodes go as a graph does
  abbrev pub PartGoes : ℕ → List Vertex → List Source → List Carried → List Carried → Total (counting W) → Type 0
  PartGoes g vs outs ks rs c = GraphYields (counting W) (λ n. record { nodes = vs; results = outs }) (λ n. vs) rest g ks rs c

  pub to-collected : (vs vs' : List Vertex) (outs outs' : List Source) (extra : List Carried → ℕ) → Refolds W plain m cs r r' vs outs vs' outs' extra → (rs : List Carried) (c : Total (counting W)) → PartGoes r vs outs ins rs c
      → (c' : Total (counting W)) × PartGoes r' vs' outs' other rs c' × (c'.fires ≡ c.fires) × (c.sum ≡ c'.sum + rows_sum extra rows)
  to-collected vs vs' outs outs' extra x rs c goes =
      let nodes = goes.1 in
      let y = to-nodes vs vs' extra x.nodes (Inputs ins) goes.0 nodes refl goes.2 in
      let rf = results-fire W c nodes (W.of_results r rs) goes.4 in
      let rsum = results-sum W c nodes (W.of_results r rs) goes.4 in
      let yf = y.fires in
      let ys = y.sum in
      let w = x.weighs rs in (
        and_results (counting W) y.total (W.of_results r' rs),
        (regiven other goes.0, y.total, y.goes, subst (λ z. ReadsAll (regiven other goes.0) z rs) (sym x.results) (reads-over plain ins other agree goes.0 y.based outs rs x.plainly goes.3), refl),
        omega (arith, rf, yf),
        omega (arith, rsum, ys, w),
      )

  -- ---- and back

  whole-back : (env : Bindings) → Based other env → (os qs : List Source) (ks : List Carried) → AreWhole plain m cs os qs → ReadsAll env qs ks → ReadsAll (regiven ins env) os ks
  whole-back env based [] [] ks w h = h
  whole-back env based [] (q ∷ qs) ks w h = absurd w
  whole-back env based (o ∷ os) [] ks w h = absurd w
  whole-back env based (o ∷ os) (q ∷ qs) ks (inl e, rest) h =
      let s = reads-split env (q ∷ []) qs ks h in
      subst (ReadsAll (regiven ins env) (o ∷ os)) (sym s.2)
      (reads-join (regiven ins env) (o ∷ []) os s.0 s.1 (reads-over plain other ins agree' env based (o ∷ []) s.0 e.1 (subst (λ z. ReadsAll env (z ∷ []) s.0) e.0 s.3)) (whole-back env based os qs s.1 rest s.4))
  whole-back env based (o ∷ os) (q ∷ qs) ks (inr e, rest) h =
      let s = reads-split env (q ∷ []) qs ks h in
      let one = alone-read plain ks₀ (collected cs rows) env e.1 s.0 many based (subst (λ z. ReadsAll env (z ∷ []) s.0) e.3 s.3) ∙ ap (λ z. z ∷ []) (whole e.0 e.1 e.4 e.5) in
      let has = port-has plain ks₀ cols (regiven ins env) e.0 many (regiven-based other ins env based) in
      subst (ReadsAll (regiven ins env) (o ∷ os)) (sym s.2)
      (reads-join (regiven ins env) (o ∷ []) os s.0 s.1 (subst (ReadsAll (regiven ins env) (o ∷ [])) (sym one) (subst (λ z. ReadsAll (regiven ins env) (z ∷ []) (get_or cols e.0 Unfilled ∷ [])) (sym e.2) (has, tt))) (whole-back env based os qs s.1 rest s.4))

  from-node : (v v' : Vertex) (e : List Carried → ℕ) → Refolded W plain m cs r r' v v' e → (env : Bindings) (rs : List Carried) (inner : Total (counting W)) → Based other env → (node : NodeYields (counting W) rest env v' rs inner)
      → (back : NodeYields (counting W) rest (regiven ins env) v rs inner) × (W.of_node r v back.operands rs ≡ W.of_node r' v' node.operands rs + rows_sum e rows)
  from-node _ _ _ (unchanged v l label plainly same) env rs inner based node =
      let z = sum-none rows in
      let s = same node.operands rs in
      (record { operands = node.operands; reads = reads-over plain other ins agree' env based v.ins node.operands plainly node.reads; gives = node.gives }, omega (arith, z, s))
  from-node _ _ _ (a_fold v v' l before row row' shape shape' c k e label label' kind kind' are are' plainly at_k gives weighs) env rs inner based node =
      let s = reads-split env before (Port 0 (suc (plain + k)) ∷ []) node.operands (subst (λ z. ReadsAll env z node.operands) are' node.reads) in
      let ys = alone-read plain ks₀ (collected cs rows) env k s.1 many based s.4 ∙ ap (λ z. z ∷ []) (get-made cs k c rows at_k) in
      let operands : node.operands ≡ s.0 ++ made c rows ∷ [] = s.2 ∙ ap (λ z. s.0 ++ z) ys in
      let goes = subst (λ z. KindYields (counting W) rest z node.operands rs inner) kind' node.gives in (
        record {
          operands = s.0 ++ reads c cols;
          reads = subst (λ z. ReadsAll (regiven ins env) z (s.0 ++ reads c cols)) (sym are)
              (reads-join (regiven ins env) before (ports_of plain c) s.0 (reads c cols) (reads-over plain other ins agree' env based before s.0 plainly s.3) (ports-has plain ks₀ cols (regiven ins env) c many (regiven-based other ins env based)));
          gives = subst (λ z. KindYields (counting W) rest z (s.0 ++ reads c cols) rs inner) (sym kind) (goes.0 ∙ (ap (op row' shape') operands ∙ sym (gives s.0 rows s.5 long)), goes.1);
        },
        weighs s.0 rs rows s.5 long ∙ ap (λ z. W.of_node r' v' z rs + rows_sum e rows) (sym operands),
      )
  from-node _ _ _ (a_whole v v' l row shape label label' kind kind' wholly same) env rs inner based node =
      let goes = subst (λ z. KindYields (counting W) rest z node.operands rs inner) kind' node.gives in
      let z = sum-none rows in
      let e = same node.operands rs in (
        record {
          operands = node.operands;
          reads = whole-back env based v.ins v'.ins node.operands wholly node.reads;
          gives = subst (λ z. KindYields (counting W) rest z node.operands rs inner) (sym kind) goes;
        },
        omega (arith, z, e),
      )

  record Back (env after : Bindings) (vs : List Vertex) (c' : Total (counting W)) (more : ℕ) : Type 0 where
    pub total : Total (counting W)
    pub goes : NodesYield (counting W) rest r (regiven ins env) vs (regiven ins after) total
    pub fires : c'.fires ≡ total.fires
    pub sum : total.sum ≡ c'.sum + more
    pub based : Based other after

  from-nodes : (vs vs' : List Vertex) (extra : List Carried → ℕ) → AreRefolded W plain m cs r r' vs vs' extra → (env after : Bindings) (c' : Total (counting W)) → Based other env → NodesYield (counting W) rest r' env vs' after c'
      → Back env after vs c' (rows_sum extra rows)
  from-nodes _ _ _ none_refolded env after c' based goes =
      let z = sum-none rows in
      record { total = c'; goes = (ap (regiven ins) goes.0, goes.1); fires = refl; sum = omega (arith, z); based = subst (Based other) (sym goes.0) based }
  from-nodes _ _ _ (one_refolded v v' vs vs' e es one others) env after c' based goes =
      let rs = goes.0 in
      let inner = goes.1 in
      let later = goes.2 in
      let node = goes.3 in
      let own = W.of_node r' v' node.operands rs in
      let bf = both-fire W c' inner later 1 own goes.5 in
      let bs = both-sum W c' inner later 1 own goes.5 in
      let n = label-of v v' e one in
      let x = from-node v v' e one env rs inner based node in
      let y = from-nodes vs vs' es others (Fired v'.label rs env) after later ((n.0, n.2 ∙ n.1), based) goes.4 in
      let yf = y.fires in
      let ys = y.sum in
      let xs = x.1 in
      let both = sum-both e es rows in
      let bound_is : Fired v.label rs (regiven ins env) ≡ regiven ins (Fired v'.label rs env) = ap (λ z. Fired z rs (regiven ins env)) (sym n.2) in
      record {
        total = with_both (counting W) 1 (W.of_node r v x.0.operands rs) inner y.total;
        goes = (rs, inner, y.total, x.0, subst (λ z. NodesYield (counting W) rest r z vs (regiven ins after) y.total) (sym bound_is) y.goes, refl);
        fires = omega (arith, bf, yf);
        sum = omega (arith, bs, ys, xs, both);
        based = y.based;
      }

  pub from-collected : (vs vs' : List Vertex) (outs outs' : List Source) (extra : List Carried → ℕ) → Refolds W plain m cs r r' vs outs vs' outs' extra → (rs : List Carried) (c' : Total (counting W)) → PartGoes r' vs' outs' other rs c'
      → (c : Total (counting W)) × PartGoes r vs outs ins rs c × (c'.fires ≡ c.fires) × (c.sum ≡ c'.sum + rows_sum extra rows)
  from-collected vs vs' outs outs' extra x rs c' goes =
      let nodes = goes.1 in
      let y = from-nodes vs vs' extra x.nodes (Inputs other) goes.0 nodes refl goes.2 in
      let rf = results-fire W c' nodes (W.of_results r' rs) goes.4 in
      let rsum = results-sum W c' nodes (W.of_results r' rs) goes.4 in
      let yf = y.fires in
      let ys = y.sum in
      let w = x.weighs rs in (
        and_results (counting W) y.total (W.of_results r rs),
        (regiven ins goes.0, y.total, y.goes, reads-over plain other ins agree' goes.0 y.based outs rs x.plainly (subst (λ z. ReadsAll goes.0 z rs) x.results goes.3), refl),
        omega (arith, rf, yf),
        omega (arith, rsum, ys, w),
      )
