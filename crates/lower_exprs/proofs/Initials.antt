-- Loops of turns: what they collect, and their four graphs.
use Rattle.std.proofs.Common.{◌≡◌, ◌≤◌, ◌<◌, ◌+◌, ◌⊎◌, inl, inr, ℕ, zero, suc, min, Bool, true, false, List, [], ◌∷◌, ◌++◌, map, take, drop, length, get_or, All, Option, Some, None, refl, sym, ap, ap₂, subst, ◌∙◌, append-nil, arith}
use Rattle.std.specs.Prelude.{Result, IfOk}
use Rattle.std.proofs.lemmas.List.{length-map, length-append, drop_all, drop_more, take_at}
use Rattle.std.proofs.lemmas.List.Elements.{All-nil, All-cons}
use Rattle.std.proofs.lemmas.Result.{IfOk-weaker}
use mathlib.Core.Logic.{dite}
use native.Mathlib.Decide.{dec_le}
use Rattle.if1_graph.specs.declared.op.Compound.{Compound}
use Rattle.type_table.specs.declared.form.Form.{Form}
use Rattle.typed_tree.specs.declared.expr.ClauseForm.{ClauseForm}
use Rattle.typed_tree.specs.declared.expr.Turns.{Turns}
use Rattle.lowering.specs.declared.feed.Carried.{Carried}
use Rattle.lowering.specs.declared.feed.Wire.{Wire}
use Rattle.lowering.specs.declared.graph.Lowered.{Lowered}
use Rattle.lowering.specs.Feeds.{into}
use Rattle.lowering.specs.Graphs.{Lowering, only, andthen, new_graph, size, whole}
use Rattle.lowering.specs.Operations.{Lowers, one, wire_at, all_lowered, defs_lowered}
use Rattle.lowering.specs.Loops.{Phrase, Wired, types, many, own_inputs, take_up, returns_lowered, unless_places, loop_lowered, loop_kind, loop_name, extra, extras, place_of, collected, renew, test_lowered, row_of_turn, initial_lowered}
use Rattle.lowered_data.specs.declared.made.Made.{Made}
use Rattle.lowered_data.specs.declared.made.Around.{Around}
use Rattle.lowered_data.specs.Scopes.{Scopes, scopes, with_names, entered, first_names}
use Rattle.lowered_data.specs.States.{lowered_in, with_lowered, next_graph, unclosed, opened, around_of, IsMade, IsPart, AreParts, new_parts, places_in}
use Rattle.lowered_data.specs.Parts.{blank}
use Rattle.lowering.specs.Phrases.{phrase, lowers}
use Rattle.lowered_data.proofs.Lists.{rest_is}
use Rattle.lowered_data.proofs.Laws.{only_made, andthen_made}
use Rattle.lowered_data.proofs.Parts.{no_parts, first_part, first_place}
use Rattle.lower_nodes.specs.declared.loops.Placed.{Placed}
use Rattle.lower_nodes.specs.Placing.{IsPlaced}
use Rattle.lower_nodes.proofs.Walks.{Going, goes_on, ended}
use Rattle.lower_exprs.specs.Phrased.{Grows, maybe_not, phrases}
use Rattle.typed_tree.specs.declared.expr.TypedExpr.{TypedExpr}
use Rattle.lower_exprs.proofs.Steps.{in_open, more_inside}
use Rattle.lower_exprs.specs.Turned.{kept, place_at, next_after, extra_lowered, BothStand, StandIn}

-- ---- what is collected

pub collected_step : (loop : Option ℕ → Option ℕ) (next : ℕ) (b : Bool) (bs : List Bool) (p : Phrase) (ps : List Phrase)
    → collected loop next (b ∷ bs) (p ∷ ps) ≡ place_at next (kept loop b p.name) ∷ collected loop (next_after next (kept loop b p.name)) bs ps
collected_step loop next true bs p ps = refl
collected_step loop next false bs p ps = by (loop p.name)
  where
    by : (o : Option ℕ) → place_of next o (λ k. collected loop k bs ps) ≡ place_at next o ∷ collected loop (next_after next o) bs ps
    by None = refl
    by (Some x) = refl

pub none_collected : (loop : Option ℕ → Option ℕ) (next : ℕ) (bs : List Bool) (ps : List Phrase) → (bs ≡ []) ⊎ (ps ≡ []) → collected loop next bs ps ≡ []
none_collected loop next bs [] h = refl
none_collected loop next [] (p ∷ ps) h = refl
none_collected loop next (b ∷ bs) (p ∷ ps) (inl e) = absurd cc
none_collected loop next (b ∷ bs) (p ∷ ps) (inr e) = absurd cc

pub extras_step : (loop : Option ℕ → Option ℕ) (b : Bool) (bs : List Bool) (p : Phrase) (ps : List Phrase)
    → extras loop (b ∷ bs) (p ∷ ps) ≡ extra (kept loop b p.name) (maybe_not b p.lowers) ++ extras loop bs ps
extras_step loop true bs p ps = refl
extras_step loop false bs p ps = refl

pub no_extras : (loop : Option ℕ → Option ℕ) (bs : List Bool) (ps : List Phrase) → (bs ≡ []) ⊎ (ps ≡ []) → extras loop bs ps ≡ []
no_extras loop bs [] h = refl
no_extras loop [] (p ∷ ps) h = refl
no_extras loop (b ∷ bs) (p ∷ ps) (inl e) = absurd cc
no_extras loop (b ∷ bs) (p ∷ ps) (inr e) = absurd cc

-- one of two lists is over
pub one_over : {X Y : Type 0} (xs : List X) (ys : List Y) (i : ℕ) → min (length xs) (length ys) ≤ i → (drop i xs ≡ []) ⊎ (drop i ys ≡ [])
one_over xs ys i le = dite (dec_le (length xs) i) (λ h. inl (drop_all i xs h)) (λ gt. inr (drop_all i ys (omega (arith, le, gt))))

pub goes_on_extra : (f : Lowering) (o : Option ℕ) (g : Lowers) (gs : List Lowers) (env : List Wire) (a b c : Made) (values vs all : List Wire)
    → Going f (all_lowered (extra o g ++ gs) env) a b values → IsMade (extra_lowered o g env) b c vs → all ≡ values ++ vs → Going f (all_lowered gs env) a c all
goes_on_extra f None g gs env a b c values vs all h p e = goes_on f g gs env a b c values vs all h p e
goes_on_extra f (Some x) g gs env a b c values vs all h p e =
    let same : b ≡ c = (only_made b []).after_is ∙ sym p.after_is in
    let none : values ≡ all = sym (append-nil values) ∙ ap (λ k. values ++ k) (sym p.values_are) ∙ sym e in
    subst (λ (k : List Wire). Going f (all_lowered gs env) a c k) none (subst (λ (s : Made). Going f (all_lowered gs env) a s values) same h)

-- ---- four graphs

pub more_graphs : (f : Lowering) (a b : Made) → IsPart f a b → length a.graphs < length b.graphs
more_graphs f a b p =
    let m = new_graph f (next_graph a) in
    let l = length-append a.graphs (unclosed m ∷ m.graphs) in
    let e = ap (λ (s : Made). length s.graphs) p.after_is in
    omega (arith, l, e)

pub both_stand : (f g : Lowering) (a b c : Made) (x y : Placed) → IsPlaced f a b x → IsPlaced g b c y → BothStand c x.place y.place
both_stand f g a b c x y p q =
    let i = more_graphs f a b p.part in
    let j = more_graphs g b c q.part in
    let ex = p.place in
    let ey = q.place in
    record { first = omega (arith, i, j, ex); second = omega (arith, j, ey) }

pub three_stand : (f g h : Lowering) (a b c d : Made) (x y z : Placed) → IsPlaced f a b x → IsPlaced g b c y → IsPlaced h c d z → StandIn d x.place y.place z.place
three_stand f g h a b c d x y z p q r =
    let i = more_graphs f a b p.part in
    let j = more_graphs g b c q.part in
    let k = more_graphs h c d r.part in
    let ex = p.place in
    let ey = q.place in
    let ez = r.place in
    record { first = omega (arith, i, j, k, ex); second = omega (arith, j, k, ey); third = omega (arith, k, ez) }

pub four_stand : (f : Lowering) (a b : Made) (x y z : ℕ) (r : Placed) → StandIn a x y z → IsPlaced f a b r → All (λ k. k < length b.graphs) (x ∷ y ∷ z ∷ r.place ∷ [])
four_stand f a b x y z r s p =
    let l = more_graphs f a b p.part in
    let e = p.place in
    let h1 = s.first in
    let h2 = s.second in
    let h3 = s.third in
    let one : x < length b.graphs = omega (arith, l, h1) in
    let two : y < length b.graphs = omega (arith, l, h2) in
    let three : z < length b.graphs = omega (arith, l, h3) in
    let four : r.place < length b.graphs = omega (arith, l, e) in
    let P = λ (k : ℕ). k < length b.graphs in
    All-cons P x (y ∷ z ∷ r.place ∷ []) one (All-cons P y (z ∷ r.place ∷ []) two (All-cons P z (r.place ∷ []) three (All-cons P r.place [] four (All-nil P))))

four_parts : (f g h k : Lowering) (a b c d e : Made) → IsPart f a b → IsPart g b c → IsPart h c d → IsPart k d e → AreParts (f ∷ g ∷ h ∷ k ∷ []) a e
four_parts f g h k a b c d e p q r s =
    first_part f (g ∷ h ∷ k ∷ []) a b e p (first_part g (h ∷ k ∷ []) b c e q (first_part h (k ∷ []) c d e r (first_part k [] d e e s (no_parts e))))

four_places : (f g h k : Lowering) (a b c d e : Made) (x y z w : ℕ) → IsPart f a b → IsPart g b c → IsPart h c d → IsPart k d e
    → x ≡ length a.graphs → y ≡ length b.graphs → z ≡ length c.graphs → w ≡ length d.graphs → x ∷ y ∷ z ∷ w ∷ [] ≡ places_in a (f ∷ g ∷ h ∷ k ∷ [])
four_places f g h k a b c d e x y z w p q r s ex ey ez ew =
    ap₂ (λ i j. i ∷ j ∷ z ∷ w ∷ []) ex ey ∙ ap₂ (λ i j. length a.graphs ∷ length b.graphs ∷ i ∷ j ∷ []) ez ew
    ∙ ap (λ l. length a.graphs ∷ length b.graphs ∷ length c.graphs ∷ l) (sym (first_place k [] d e s))
    ∙ ap (λ l. length a.graphs ∷ length b.graphs ∷ l) (sym (first_place h (k ∷ []) c d r))
    ∙ ap (λ l. length a.graphs ∷ l) (sym (first_place g (h ∷ k ∷ []) b c q))
    ∙ sym (first_place f (g ∷ h ∷ k ∷ []) a b p)

pub loop_made : {E : Type 0} (answer : Result (List Wire) E) (kind : Compound) (f g h : Lowers) (tys : List Carried) (places : List ℕ) (cs : List ClauseForm) (ts : List ℕ) (env : List Wire)
    (a b c d e m : Made) (x y z w : Placed)
    → IsPlaced (f (map into env)) a b x
    → IsPlaced (g (map into env ++ own_inputs 1 tys)) b c y
    → IsPlaced (h (map into env ++ own_inputs 1 tys)) c d z
    → IsPlaced (returns_lowered (Wired one) cs (map (wire_at (own_inputs 1 (map many x.carried))) places) ts) d e w
    → ((before : Made) (fs : List Lowering) → AreParts fs before e → x.place ∷ y.place ∷ z.place ∷ w.place ∷ [] ≡ places_in before fs
    → IfOk answer (λ ws. IsMade (whole kind (new_parts before fs) (0 ∷ 1 ∷ 2 ∷ 3 ∷ []) 0 ts) before m ws))
    → IfOk answer (λ ws. IsMade (loop_lowered kind f g h tys places cs ts env) a m ws)
loop_made answer kind f g h tys places cs ts env a b c d e m x y z w p q r s go =
    let n = next_graph a in
    let inside = map into env ++ own_inputs 1 tys in
    let fl = f (map into env) in
    let gl = g inside in
    let hl = h inside in
    let rl : List Carried → Lowering = λ gc. returns_lowered (Wired one) cs (map (wire_at (own_inputs 1 (map many gc))) places) ts in
    let i' = new_graph fl n in
    let x' = new_graph gl (n + size i') in
    let b' = new_graph hl (n + size i' + size x') in
    let fs = fl ∷ gl ∷ hl ∷ rl x.carried ∷ [] in
    let F : List Carried → Lowered = λ gc. whole kind (i' ∷ x' ∷ b' ∷ new_graph (rl gc) (n + size i' + size x' + size b') ∷ []) (0 ∷ 1 ∷ 2 ∷ 3 ∷ []) 0 ts (length a.nodes) n in
    let same : F x.carried ≡ F (types i'.values) = ap F p.carried in
    IfOk-weaker answer (λ (ws : List Wire). IsMade (whole kind (new_parts a fs) (0 ∷ 1 ∷ 2 ∷ 3 ∷ []) 0 ts) a m ws)
    (λ (ws : List Wire). IsMade (loop_lowered kind f g h tys places cs ts env) a m ws)
    (λ ws o. record {
      after_is = o.after_is ∙ ap (with_lowered a) same;
      values_are = o.values_are ∙ ap (λ (k : Lowered). k.values) same;
    })
    (go a fs (four_parts fl gl hl (rl x.carried) a b c d e p.part q.part r.part s.part)
    (four_places fl gl hl (rl x.carried) a b c d e x.place y.place z.place w.place p.part q.part r.part s.part p.place q.place r.place s.place))

-- ---- by the loop values

taken_up : (n : ℕ) (xs ys : List Wire) → length xs ≡ n → take_up n (xs ++ ys) ≡ xs
taken_up zero [] [] e = refl
taken_up zero [] (y ∷ ys) e = refl
taken_up zero (x ∷ xs) ys e = absurd (omega (arith, e))
taken_up (suc n) [] ys e = absurd (omega (arith, e))
taken_up (suc n) (x ∷ xs) ys e = ap (λ k. x ∷ k) (taken_up n xs ys (omega (arith, e)))

dropped : (n : ℕ) (xs ys : List Wire) → length xs ≡ n → drop n (xs ++ ys) ≡ ys
dropped zero [] ys e = refl
dropped zero (x ∷ xs) ys e = absurd (omega (arith, e))
dropped (suc n) [] ys e = absurd (omega (arith, e))
dropped (suc n) (x ∷ xs) ys e = dropped n xs ys (omega (arith, e))

pub names_of : List (List Lowers) → List Wire → Lowering
names_of fs env = andthen (defs_lowered fs (map into env)) (λ all. only (drop (length env) all))

pub es_of : Turns → List Phrase → List Wire → List Wire → List Lowers
es_of t ps env loop = extras (loop_name (length env) (length loop)) (unless_places t.clauses) ps

pub first_of : Turns → List (List Lowers) → List Phrase → List Wire → List Wire → Lowers
first_of t fs ps env loop around = andthen (defs_lowered fs around) (λ all. row_of_turn (es_of t ps env loop) around (drop (length env) all))

pub turn_of : Turns → List (List Lowers) → List Phrase → List Wire → List Wire → Lowers
turn_of t ds ps env loop inside =
    andthen (defs_lowered ds inside) (λ all. row_of_turn (es_of t ps env loop) (take_up (length env) inside) (renew t.renewed (drop (length inside) all) (drop (length env) inside)))

pub loop_by : Turns → List (List Lowers) → List Lowers → List (List Lowers) → List Phrase → List ℕ → List Wire → List Wire → Lowering
loop_by t fs test ds ps ts env loop =
    loop_lowered (loop_kind t.is_first) (first_of t fs ps env loop) (test_lowered t.is_until test) (turn_of t ds ps env loop) (types loop)
    (collected (loop_name (length env) (length loop)) (length loop) (unless_places t.clauses) ps) t.clauses ts env

-- the loop values are those that its first part gives
pub loop_values : (fs : List (List Lowers)) (env : List Wire) (a o b : Made) (all loop : List Wire) → o ≡ opened a → IsMade (defs_lowered fs (map into env)) o b all → loop ≡ drop (length env) all
    → loop ≡ (new_graph (names_of fs env) (next_graph a)).values
unfolding names_of
loop_values fs env a o b all loop is p e =
    let k = λ (us : List Wire). only (drop (length env) us) in
    let q : IsMade (andthen (defs_lowered fs (map into env)) k) o b (drop (length env) all) = andthen_made (defs_lowered fs (map into env)) k o b b all (drop (length env) all) p (only_made b (drop (length env) all)) in
    let number : next_graph (opened a) ≡ suc (next_graph a) = let l = length-append a.graphs (blank ∷ []) in omega (arith, l) in
    e ∙ q.values_are ∙ ap (λ (s : Made). (lowered_in s (andthen (defs_lowered fs (map into env)) k)).values) is ∙ ap (λ (n : ℕ). (andthen (defs_lowered fs (map into env)) k 0 n).values) number

pub initial_made : {E : Type 0} (answer : Result (List Wire) E) (t : Turns) (fs : List (List Lowers)) (test : List Lowers) (ds : List (List Lowers)) (ps : List Phrase) (ts : List ℕ) (env loop : List Wire) (a m : Made)
    → loop ≡ (new_graph (names_of fs env) (next_graph a)).values
    → IfOk answer (λ ws. IsMade (loop_by t fs test ds ps ts env loop) a m ws)
    → IfOk answer (λ ws. IsMade (initial_lowered t fs test ds ps ts env) a m ws)
unfolding names_of es_of first_of turn_of loop_by
initial_made answer t fs test ds ps ts env loop a m e h =
    let v = (new_graph (names_of fs env) (next_graph a)).values in
    IfOk-weaker answer (λ (ws : List Wire). IsMade (loop_by t fs test ds ps ts env v) a m ws) (λ (ws : List Wire). IsMade (initial_lowered t fs test ds ps ts env) a m ws)
    (λ ws p. record { after_is = p.after_is; values_are = p.values_are })
    (subst (λ (k : List Wire). IfOk answer (λ (ws : List Wire). IsMade (loop_by t fs test ds ps ts env k) a m ws)) e h)

pub first_made : (t : Turns) (fs : List (List Lowers)) (ps : List Phrase) (env loop all : List Wire) (o b c : Made) (vs : List Wire)
    → IsMade (defs_lowered fs (map into env)) o b all → loop ≡ drop (length env) all → IsMade (row_of_turn (es_of t ps env loop) (map into env) loop) b c vs
    → IsMade (first_of t fs ps env loop (map into env)) o c vs
unfolding first_of
first_made t fs ps env loop all o b c vs p e q =
    andthen_made (defs_lowered fs (map into env)) (λ us. row_of_turn (es_of t ps env loop) (map into env) (drop (length env) us)) o b c all vs p
    (subst (λ (l : List Wire). IsMade (row_of_turn (es_of t ps env loop) (map into env) l) b c vs) e q)

pub turn_made : (t : Turns) (ds : List (List Lowers)) (ps : List Phrase) (env loop own later renewed all : List Wire) (o b c : Made) (vs : List Wire)
    → IsMade (defs_lowered ds (map into env ++ own)) o b all → later ≡ drop (length (map into env ++ own)) all → renewed ≡ renew t.renewed later own
    → IsMade (row_of_turn (es_of t ps env loop) (map into env) renewed) b c vs
    → IsMade (turn_of t ds ps env loop (map into env ++ own)) o c vs
unfolding turn_of
turn_made t ds ps env loop own later renewed all o b c vs p e r q =
    let inside = map into env ++ own in
    let l = length-map env into in
    let up : map into env ≡ take_up (length env) inside = sym (taken_up (length env) (map into env) own l) in
    let down : own ≡ drop (length env) inside = sym (dropped (length env) (map into env) own l) in
    let es = es_of t ps env loop in
    let names : renewed ≡ renew t.renewed (drop (length inside) all) (drop (length env) inside) = r ∙ ap₂ (renew t.renewed) e down in
    andthen_made (defs_lowered ds inside) (λ us. row_of_turn es (take_up (length env) inside) (renew t.renewed (drop (length inside) us) (drop (length env) inside))) o b c all vs p
    (subst (λ (k : List Wire). IsMade (row_of_turn es k (renew t.renewed (drop (length inside) all) (drop (length env) inside))) b c vs) up
    (subst (λ (k : List Wire). IsMade (row_of_turn es (map into env) k) b c vs) names q))

-- ---- names

-- the names around are left, and the loop names come into force
pub around_left : (s : Scopes) (t : Scopes) (more : List Wire) (n : ℕ) → n ≡ length s.here → t ≡ with_names (entered s) more → first_names n t ≡ entered s
around_left s t more n l e =
    let k : length (map into s.here) ≡ n = length-map s.here into ∙ sym l in
    ap (first_names n) e ∙ ap (λ h. scopes h (entered s).marks) (take_at (map into s.here) more n k)

module _ (forms : List Form) (loop : Option ℕ → Option ℕ) where
  none_left : (bs : List Bool) (es : List TypedExpr) → (bs ≡ []) ⊎ (es ≡ []) → (bs ≡ []) ⊎ (phrases forms es ≡ [])
  none_left bs es (inl e) = inl e
  none_left bs es (inr e) = inr (ap (phrases forms) e)

  pub over : (next : ℕ) (bs : List Bool) (es : List TypedExpr) (i : ℕ) → min (length bs) (length es) ≤ i → collected loop next (drop i bs) (phrases forms (drop i es)) ≡ []
  over next bs es i le = none_collected loop next (drop i bs) (phrases forms (drop i es)) (none_left (drop i bs) (drop i es) (one_over bs es i le))

  pub extras_over : (bs : List Bool) (es : List TypedExpr) (i : ℕ) → min (length bs) (length es) ≤ i → extras loop (drop i bs) (phrases forms (drop i es)) ≡ []
  extras_over bs es i le = no_extras loop (drop i bs) (phrases forms (drop i es)) (none_left (drop i bs) (drop i es) (one_over bs es i le))

pub turned_names : (s n u : Scopes) (more own : List Wire) (around : ℕ) → around ≡ length s.here → n ≡ with_names (entered s) more → u ≡ with_names (first_names around n) own → u ≡ with_names (entered s) own
turned_names s n u more own around l e f = f ∙ ap (λ (k : Scopes). with_names k own) (around_left s n more around l e)

pub test_is : (b : Bool) (gs : List Lowers) (env : List Wire) → maybe_not b (all_lowered gs) env ≡ test_lowered b gs env
test_is true gs env = refl
test_is false gs env = refl

-- ---- the parts that see the loop values

rows_are : (t : Turns) (ps : List Phrase) (s n : Scopes) (more loop own : List Wire) (around count : ℕ) (flags : List Bool) (b c : Made) (vs : List Wire)
    → around ≡ length s.here → count ≡ length loop → flags ≡ unless_places t.clauses → n ≡ with_names (entered s) more
    → IsMade (row_of_turn (extras (loop_name around count) flags ps) (take around n.here) own) b c vs
    → IsMade (row_of_turn (es_of t ps s.here loop) (map into s.here) own) b c vs
unfolding es_of
rows_are t ps s n more loop own around count flags b c vs la lc fl e p =
    let taken : take around n.here ≡ map into s.here = ap (λ (k : Scopes). k.here) (around_left s n more around la e) in
    subst (λ (i : ℕ). IsMade (row_of_turn (extras (loop_name i (length loop)) (unless_places t.clauses) ps) (map into s.here) own) b c vs) la
    (subst (λ (i : ℕ). IsMade (row_of_turn (extras (loop_name around i) (unless_places t.clauses) ps) (map into s.here) own) b c vs) lc
    (subst (λ (bs : List Bool). IsMade (row_of_turn (extras (loop_name around count) bs ps) (map into s.here) own) b c vs) fl
    (subst (λ (k : List Wire). IsMade (row_of_turn (extras (loop_name around count) flags ps) k own) b c vs) taken p)))

pub first_defs : (fs : List (List Lowers)) (s n : Scopes) (o b : Made) (all : List Wire) → n ≡ with_names (entered s) [] → IsMade (defs_lowered fs n.here) o b all → IsMade (defs_lowered fs (map into s.here)) o b all
first_defs fs s n o b all e p = subst (λ (k : List Wire). IsMade (defs_lowered fs k) o b all) (ap (λ (k : Scopes). k.here) e ∙ append-nil (map into s.here)) p

pub first_placed : (t : Turns) (fs : List (List Lowers)) (ps : List Phrase) (s n1 n2 : Scopes) (around count : ℕ) (flags : List Bool) (held vs : List Wire) (a o b c d : Made) (w : Around) (x : Placed)
    → around ≡ length s.here → count ≡ length held → flags ≡ unless_places t.clauses
    → n1 ≡ with_names (entered s) [] → Grows n1 n2 → o ≡ opened a → w ≡ around_of a
    → IsMade (defs_lowered fs n1.here) o b n2.here → held ≡ drop around n2.here
    → IsMade (row_of_turn (extras (loop_name around count) flags ps) (take around n2.here) held) b c vs
    → ((f : Lowering) (before : Made) → w ≡ around_of before → IsMade f (opened before) c vs → IsPlaced f before d x)
    → IsPlaced (first_of t fs ps s.here held (map into s.here)) a d x
first_placed t fs ps s n1 n2 around count flags held vs a o b c d w x la lc fl e1 g oo ww p h q shut =
    let names = more_inside s n1 n2 [] g.more e1 g.is in
    let f = first_of t fs ps s.here held (map into s.here) in
    let drops : held ≡ drop (length s.here) n2.here = h ∙ ap (λ (i : ℕ). drop i n2.here) la in
    shut f a ww (in_open f a o c vs oo (first_made t fs ps s.here held n2.here o b c vs (first_defs fs s n1 o b n2.here e1 p) drops
    (rows_are t ps s n2 g.more held held around count flags b c vs la lc fl names q)))

pub turn_placed : (t : Turns) (ds : List (List Lowers)) (ps : List Phrase) (s n1 n2 : Scopes) (around count start : ℕ) (flags : List Bool) (loop own next vs : List Wire) (a o b c d : Made) (w : Around) (x : Placed)
    → around ≡ length s.here → count ≡ length loop → flags ≡ unless_places t.clauses
    → n1 ≡ with_names (entered s) own → Grows n1 n2 → start ≡ length n1.here → o ≡ opened a → w ≡ around_of a
    → IsMade (defs_lowered ds n1.here) o b n2.here → next ≡ renew t.renewed (drop start n2.here) own
    → IsMade (row_of_turn (extras (loop_name around count) flags ps) (take around n2.here) next) b c vs
    → ((f : Lowering) (before : Made) → w ≡ around_of before → IsMade f (opened before) c vs → IsPlaced f before d x)
    → IsPlaced (turn_of t ds ps s.here loop (map into s.here ++ own)) a d x
turn_placed t ds ps s n1 n2 around count start flags loop own next vs a o b c d w x la lc fl e1 g ls oo ww p h q shut =
    let names = more_inside s n1 n2 own g.more e1 g.is in
    let inside = map into s.here ++ own in
    let f = turn_of t ds ps s.here loop inside in
    let here : n1.here ≡ inside = ap (λ (k : Scopes). k.here) e1 in
    let p' : IsMade (defs_lowered ds inside) o b n2.here = subst (λ (k : List Wire). IsMade (defs_lowered ds k) o b n2.here) here p in
    let later : drop start n2.here ≡ drop (length inside) n2.here = ap (λ (i : ℕ). drop i n2.here) (ls ∙ ap (λ (k : List Wire). length k) here) in
    shut f a ww (in_open f a o c vs oo (turn_made t ds ps s.here loop own (drop start n2.here) next n2.here o b c vs p' later h
    (rows_are t ps s n2 (own ++ g.more) loop next around count flags b c vs la lc fl names q)))

-- the loop, by its parts
pub initial_ends : {E : Type 0} (answer : Result (List Wire) E) (t : Turns) (fs : List (List Lowers)) (test : List Lowers) (ds : List (List Lowers)) (ps : List Phrase) (ts : List ℕ) (s n1 n2 : Scopes)
    (around count : ℕ) (flags : List Bool) (places : List ℕ) (held : List Wire) (a o b m : Made)
    → around ≡ length s.here → count ≡ length held → flags ≡ unless_places t.clauses
    → n1 ≡ with_names (entered s) [] → o ≡ opened a → IsMade (defs_lowered fs n1.here) o b n2.here → held ≡ drop around n2.here
    → places ≡ collected (loop_name around count) count flags ps
    → IfOk answer (λ ws. IsMade (loop_lowered (loop_kind t.is_first) (first_of t fs ps s.here held) (test_lowered t.is_until test) (turn_of t ds ps s.here held) (types held) places t.clauses ts s.here) a m ws)
    → IfOk answer (λ ws. IsMade (initial_lowered t fs test ds ps ts s.here) a m ws)
unfolding loop_by
initial_ends answer t fs test ds ps ts s n1 n2 around count flags places held a o b m la lc fl e1 oo p h pl go =
    let drops : held ≡ drop (length s.here) n2.here = h ∙ ap (λ (i : ℕ). drop i n2.here) la in
    let at : places ≡ collected (loop_name (length s.here) (length held)) (length held) (unless_places t.clauses) ps =
    pl ∙ ap (λ (bs : List Bool). collected (loop_name around count) count bs ps) fl ∙ ap₂ (λ (i j : ℕ). collected (loop_name i j) j (unless_places t.clauses) ps) la lc in
    initial_made answer t fs test ds ps ts s.here held a m (loop_values fs s.here a o b n2.here held oo (first_defs fs s n1 o b n2.here e1 p) drops)
    (subst (λ (k : List ℕ). IfOk answer (λ (ws : List Wire). IsMade (loop_lowered (loop_kind t.is_first) (first_of t fs ps s.here held) (test_lowered t.is_until test) (turn_of t ds ps s.here held) (types held) k t.clauses ts s.here) a m ws)) at go)

same_item : {X : Type 0} (xs : List X) (i : ℕ) (x y : X) → i < length xs → x ≡ get_or xs i x → y ≡ get_or xs i y → x ≡ y
same_item xs i x y lt p q = ap (λ l. get_or l 0 x) (sym (rest_is xs i x lt p) ∙ rest_is xs i y lt q)

pub extras_go_on : (forms : List Form) (loop : Option ℕ → Option ℕ) (bs : List Bool) (es : List TypedExpr) (i : ℕ) (x y : TypedExpr) (place : Option ℕ) (f : Lowering) (env : List Wire)
    (a b c : Made) (values vs all : List Wire)
    → i < length bs → i < length es → x ≡ get_or es i x → y ≡ get_or es i y
    → place ≡ kept loop (get_or bs i false) (phrase forms x).name
    → Going f (all_lowered (extras loop (drop i bs) (phrases forms (drop i es))) env) a b values
    → IsMade (extra_lowered place (maybe_not (get_or bs i false) (lowers forms y)) env) b c vs → all ≡ values ++ vs
    → Going f (all_lowered (extras loop (drop (i + 1) bs) (phrases forms (drop (i + 1) es))) env) a c all
extras_go_on forms loop bs es i x y place f env a b c values vs all lb le xx yy pl h p e =
    let n = get_or bs i false in
    let o = kept loop n (phrase forms x).name in
    let g = maybe_not n (lowers forms x) in
    let rest = extras loop (drop (i + 1) bs) (phrases forms (drop (i + 1) es)) in
    let step : extras loop (drop i bs) (phrases forms (drop i es)) ≡ extra o g ++ rest =
    ap₂ (λ (k : List Bool) (u : List TypedExpr). extras loop k (phrases forms u)) (drop_more bs i false lb) (rest_is es i x le xx)
    ∙ extras_step loop n (drop (i + 1) bs) (phrase forms x) (phrases forms (drop (i + 1) es)) in
    let begun : Going f (all_lowered (extra o g ++ rest) env) a b values = subst (λ (k : List Lowers). Going f (all_lowered k env) a b values) step h in
    let one : IsMade (extra_lowered o g env) b c vs =
    subst (λ (k : Option ℕ). IsMade (extra_lowered k g env) b c vs) pl
    (subst (λ (u : TypedExpr). IsMade (extra_lowered place (maybe_not n (lowers forms u)) env) b c vs) (same_item es i y x le yy xx) p) in
    goes_on_extra f o g rest env a b c values vs all begun one e

pub extras_ended : (forms : List Form) (loop : Option ℕ → Option ℕ) (bs : List Bool) (es : List TypedExpr) (i : ℕ) (f : Lowering) (env : List Wire) (a b : Made) (values : List Wire)
    → min (length bs) (length es) ≤ i
    → Going f (all_lowered (extras loop (drop i bs) (phrases forms (drop i es))) env) a b values → IsMade f a b values
extras_ended forms loop bs es i f env a b values le h =
    ended f env a b values (subst (λ (k : List Lowers). Going f (all_lowered k env) a b values) (extras_over forms loop bs es i le) h)
