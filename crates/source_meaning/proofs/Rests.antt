-- What the pending work gives at one depth it gives at the next; a call and its body; parts of lists.
use Rattle.std.proofs.Common.{◌≡◌, ℕ, suc, ◌+◌, ◌<◌, arith, Bool, true, false, List, [], ◌∷◌, ◌++◌, take, drop, length, Option, Some, None, slice_get, refl, sym, ap, subst, ◌∙◌, append_assoc, append-nil}
use Rattle.std.specs.Prelude.{fold}
use Rattle.std.proofs.lemmas.List.Sums.{fold-append}
use Rattle.flow_value.specs.declared.value.Val.{Val}
use Rattle.flow_value.specs.declared.value.Val.TheViews.{out-Val}
use Rattle.flow_value.specs.declared.cause.Cause.{Cause}
use Rattle.loop_folds.specs.Clauses.{ClauseCells}
use Rattle.typed_tree.specs.declared.expr.TypedExpr.{TypedExpr}
use Rattle.typed_tree.specs.declared.program.Function.{Function}
use Rattle.meaning.specs.declared.words.Test.{Test}
use Rattle.meaning.specs.declared.words.Test.TheVariants as test
use Rattle.source_meaning.specs.declared.state.Walked.{Walked}
use Rattle.source_meaning.specs.declared.state.Walk.{Walk}
use Rattle.source_meaning.specs.declared.state.Turned.{Turned}
use Rattle.source_meaning.specs.declared.state.After.{After}
use Rattle.source_meaning.specs.declared.state.After.TheVariants as after
use Rattle.source_meaning.specs.declared.state.Work.{Work}
use Rattle.source_meaning.specs.declared.state.Work.TheVariants as work
use Rattle.source_meaning.specs.declared.state.Frame.{Frame}
use Rattle.source_meaning.specs.declared.state.Frame.TheVariants as frame
use Rattle.meaning.specs.Timed.{Timed, given, plus, andthen, Below, Moves, Passes}
use Rattle.meaning.specs.Words.{value_at, test_of}
use Rattle.source_meaning.specs.Slots.{slot_values}
use Rattle.meaning.specs.Sources.{places_of}
use Rattle.meaning.specs.Meaning.{Gives, all_of, defined, at_place, calls, meaning, meanings, function_gives}
use Rattle.source_meaning.specs.Pending.{Program, Rest, walked_body, walk, spanned, turned_next, closed, round, tested, collected, finish, operate, frame_rest, last, rest}
use Rattle.source_meaning.proofs.Wholes.{before}
use Rattle.source_meaning.proofs.Laws.{below_refl, below_plus, below_then, moves_same, moves_on, plus_zero, plus_plus, plus_then, then_same, then_then, then_given, joined, given_then}
use Rattle.source_meaning.proofs.Grows.{Less, meanings_grow, definitions_grow, body_grow, calls_grow, members_below, each_below, over_below, chosen_below, arm_below, turned_below}

-- ---- definitions add names

-- what goes on with the names of definitions may use that they are those before with more
pub defined_then : {B : Type 0} (ds : List (List Gives)) (e : List Val) (f g : List Val → Timed B) → ((us : List Val) → f (e ++ us) ≡ g (e ++ us)) → andthen (defined ds e) f ≡ andthen (defined ds e) g
defined_then [] e f g h =
    given_then e f ∙ ap f (sym (append-nil e)) ∙ h [] ∙ ap g (append-nil e) ∙ sym (given_then e g)
defined_then (d ∷ ds) e f g h =
    then_then (all_of d e) (λ vs. defined ds (e ++ vs)) f
    ∙ then_same (all_of d e) _ _ (λ vs. defined_then ds (e ++ vs) f g (λ us. ap f (append_assoc e vs us) ∙ h (vs ++ us) ∙ ap g (sym (append_assoc e vs us))))
    ∙ sym (then_then (all_of d e) (λ vs. defined ds (e ++ vs)) g)

-- ---- one depth more

abbrev pub Lower : Rest → Rest → Type 0
Lower j k = (env vs : List Val) → Below (j env vs) (k env vs)

pub closed_below : (t : Turned) (j k : Rest) (env : List Val) (fs : List ClauseCells) (o : Option Cause) → Lower j k → Below (closed t j env fs o) (closed t k env fs o)
closed_below t j k env fs None h = below_plus _ _ _ (h env _)
closed_below t j k env fs (Some c) h = h env _

pub walked_grows : (n : ℕ) (p : Program) (w : Walked) → Less (walked_body n p w) (walked_body (suc n) p w)
walked_grows n p w = body_grow n p w.defs.now w.values.now

pub walk_below : (n : ℕ) (p : Program) (w : Walk) (j k : Rest) (env : List Val) (fs : List ClauseCells) → Lower j k → Below (walk n p w j env fs) (walk (suc n) p w k env fs)
walk_below n p w j k env fs h =
    below_then _ _ _ _ (each_below (at_place (walked_body n p w.parts)) (at_place (walked_body (suc n) p w.parts)) (λ e. below_plus 1 _ _ (walked_grows n p w.parts e)) _)
    (λ rows. below_plus _ _ _ (h env _))

pub spanned_below : (n : ℕ) (p : Program) (w : Walked) (j k : Rest) → Lower j k → Lower (spanned n p w j) (spanned (suc n) p w k)
spanned_below n p w j k h env bs =
    below_plus _ _ _ (below_then _ _ _ _ (over_below w.form.now w.results (walked_body n p w) (walked_body (suc n) p w) bs (places_of w.form.now.sources bs) (walked_grows n p w) env) (h env))

pub turned_grows : (n : ℕ) (p : Program) (t : Turned) (env l : List Val) → Below (turned_next n p t env l) (turned_next (suc n) p t env l)
turned_grows n p t env l = turned_below n p t.form.now t.defs.now env l

pub round_below : (n : ℕ) (p : Program) (t : Turned) (b : Bool) (j k : Rest) (env : List Val) (fs : List ClauseCells) (l : List Val) → Lower j k → Below (round n p t b j env fs l) (round (suc n) p t b k env fs l)
round_below n p t b j k env fs l h =
    below_then _ _ _ _ (members_below n b t.form.now.is_until _ _ (turned_next n p t) (turned_next (suc n) p t) env (meanings_grow n p t.test.now) (turned_grows n p t env) l)
    (λ s. below_then _ _ _ _ (each_below _ _ (λ m. meanings_grow n p t.values.now (env ++ m)) s.lists) (λ rows. closed_below t j k env _ s.failure h))

pub tested_below : (n : ℕ) (p : Program) (t : Turned) (j k : Rest) (env : List Val) (fs : List ClauseCells) (l : List Val) (x : Test) → Lower j k → Below (tested n p t j env fs l x) (tested (suc n) p t k env fs l x)
tested_below n p t j k env fs l test.Yes h = below_plus 1 _ _ (below_then _ _ _ _ (turned_grows n p t env l) (λ m. round_below n p t true j k env fs m h))
tested_below n p t j k env fs l test.No h = below_plus _ _ _ (h env _)
tested_below n p t j k env fs l (test.Failed c) h = h env _

pub collected_below : (n : ℕ) (p : Program) (t : Turned) (b : Bool) (j k : Rest) (env : List Val) (fs : List ClauseCells) (l : List Val) → Lower j k → Below (collected n p t b j env fs l) (collected (suc n) p t b k env fs l)
collected_below n p t true j k env fs l h = below_then _ _ _ _ (meanings_grow n p t.test.now (env ++ l)) (λ ts. tested_below n p t j k env fs l _ h)
collected_below n p t false j k env fs l h = tested_below n p t j k env fs l test.Yes h

pub finish_below : (n : ℕ) (p : Program) (a : After) (j k : Rest) → Lower j k → Lower (finish n p a j) (finish (suc n) p a k)
finish_below n p (after.Bind ds) j k h env vs = below_then _ _ _ _ (definitions_grow n p ds.now (env ++ vs)) (λ e. h e [])
finish_below n p (after.Unbind m) j k h env vs = h (take m env) vs
finish_below n p (after.Enter f) j k h env vs = below_then _ _ _ _ (calls_grow n p f vs) (h env)
finish_below n p (after.Leave saved) j k h env vs = h saved vs
finish_below n p (after.Choose a b results) j k h env vs = below_then _ _ _ _ (chosen_below results (test_of vs) _ _ _ _ (meanings_grow n p a.now env) (meanings_grow n p b.now env)) (h env)
finish_below n p (after.Pick c arms results) j k h env vs = below_then _ _ _ _ (arm_below n p c.now results arms.now (out-Val (value_at vs 0)) env) (h env)
finish_below n p after.Pass j k h env vs = h env vs
finish_below n p (after.Next w) j k h env vs = walk_below n p w j k (take w.mark env) _ h
finish_below n p (after.Start r) j k h env vs = round_below n p r.parts r.is_tested j k (take r.mark env) r.clauses.items (drop r.mark env) h
finish_below n p (after.Kept r) j k h env vs = collected_below n p r.parts r.is_tested j k (take r.mark env) _ (drop r.mark env) h
finish_below n p (after.Tested r) j k h env vs = tested_below n p r.parts j k (take r.mark env) r.clauses.items (drop r.mark env) _ h
finish_below n p (after.Renew r) j k h env vs = round_below n p r.parts true j k (take r.mark env) r.clauses.items _ h

operate_below : (n : ℕ) (p : Program) (w : Work) (j k : Rest) → Lower j k → Lower (operate n p w j) (operate (suc n) p w k)
operate_below n p (work.Apply op) j k h env vs = h env _
operate_below n p (work.Span w) j k h env vs = spanned_below n p w j k h env vs

frame_below : (n : ℕ) (p : Program) (f : Frame) (j k : Rest) → Lower j k → Lower (frame_rest n p j f) (frame_rest (suc n) p k f)
frame_below n p (frame.Listing f) j k h env vs = below_then _ _ _ _ (meanings_grow n p f.left.now env) (λ ws. finish_below n p f.after j k h env ((f.done ++ vs) ++ ws))
frame_below n p (frame.Operating f) j k h env vs = below_then _ _ _ _ (meanings_grow n p f.left.now env) (λ ws. operate_below n p f.work j k h env ((slot_values env f.slots ++ vs) ++ ws))

fold_below : (n : ℕ) (p : Program) (fs : List Frame) (j k : Rest) → Lower j k → Lower (fold (frame_rest n p) j fs) (fold (frame_rest (suc n) p) k fs)
fold_below n p [] j k h = h
fold_below n p (f ∷ fs) j k h = fold_below n p fs (frame_rest n p j f) (frame_rest (suc n) p k f) (frame_below n p f j k h)

pub rest_grows : (n : ℕ) (p : Program) (fs : List Frame) → Lower (rest n p fs) (rest (suc n) p fs)
rest_grows n p fs = fold_below n p fs last last (λ env vs. below_refl _)

-- ---- calls

-- a call gives what its body gives at the depth below
pub entered : (p : Program) (f s : ℕ) (fs : List Frame) (env vs : List Val) → Moves (λ n. plus s (andthen (calls n p f vs) (rest n p fs env))) (λ n. plus s (andthen (calls (suc n) p f vs) (rest n p fs env)))
entered p f s fs env vs = record {
  keep = λ n. below_plus s _ _ (below_then (calls n p f vs) (calls (suc n) p f vs) _ _ (calls_grow n p f vs) (λ ws. below_refl _));
  back = λ n. (suc n, below_plus s _ _ (below_then (calls (suc n) p f vs) (calls (suc n) p f vs) _ _ (below_refl _) (λ ws. rest_grows n p fs env ws)));
}

-- a call is the results of its function at the depth below
pub entered_as : (p : Program) (f s : ℕ) (o : Option Function) (fs : List Frame) (env vs : List Val) → slice_get p f ≡ o
    → Moves (λ n. plus s (andthen (calls n p f vs) (rest n p fs env))) (λ n. plus s (andthen (function_gives o (meaning n p) vs) (rest n p fs env)))
entered_as p f s o fs env vs h = moves_on _ _ _ (entered p f s fs env vs) (moves_same _ _ (λ n. ap (λ x. plus s (andthen (function_gives x (meaning n p) vs) (rest n p fs env))) h))

-- values that are given after so many steps
pub stepped : (s k : ℕ) (xs : List Val) (F : List Val → Timed (List Val)) → plus s (andthen (plus k (given xs)) F) ≡ plus (s + k) (F xs)
stepped s k xs F = ap (plus s) (plus_then k (given xs) F ∙ ap (plus k) (given_then xs F)) ∙ plus_plus s k (F xs)

-- ---- the same pending work under another name

pub along : (p : Program) (s : ℕ) (fs : List Frame) (env vs : List Val) (a b : After) (w : ℕ → Timed (List Val)) → a ≡ b → Moves (λ n. before n p s fs env b vs) w → Moves (λ n. before n p s fs env a vs) w
along p s fs env vs a b w e h = subst (λ x. Moves (λ n. before n p s fs env x vs) w) (sym e) h

pub along_limit : (limit : ℕ) (p : Program) (s : ℕ) (fs : List Frame) (env vs : List Val) (a b : After) → a ≡ b → Passes limit (λ n. before n p s fs env b vs) → Passes limit (λ n. before n p s fs env a vs)
along_limit limit p s fs env vs a b e h = subst (λ x. Passes limit (λ n. before n p s fs env x vs)) (sym e) h

-- ---- parts of lists

-- the first of some parts, behind these values
pub part_is : (n : ℕ) (p : Program) (e : TypedExpr) (es : List TypedExpr) (env xs : List Val) (F : List Val → Timed (List Val))
    → andthen (meanings n p (e ∷ es) env) (λ ws. F (xs ++ ws)) ≡ andthen (meaning n p e env) (λ ws. andthen (meanings n p es env) (λ us. F ((xs ++ ws) ++ us)))
part_is n p e es env xs F =
    joined (meaning n p e env) (λ ws. andthen (meanings n p es env) (λ us. given (ws ++ us))) (λ ws. F (xs ++ ws)) (λ ws. andthen (meanings n p es env) (λ us. F ((xs ++ ws) ++ us)))
    (λ ws. joined (meanings n p es env) (λ us. given (ws ++ us)) (λ us. F (xs ++ us)) (λ us. F ((xs ++ ws) ++ us))
    (λ us. given_then (ws ++ us) (λ us. F (xs ++ us)) ∙ ap F (sym (append_assoc xs ws us))))

pub no_part : (n : ℕ) (p : Program) (env xs : List Val) (F : List Val → Timed (List Val)) → andthen (meanings n p [] env) (λ ws. F (xs ++ ws)) ≡ F xs
no_part n p env xs F = given_then [] (λ ws. F (xs ++ ws)) ∙ ap F (append-nil xs)

pub pop_is : (n : ℕ) (p : Program) (fs : List Frame) (f : Frame) (env vs : List Val) → rest n p (fs ++ f ∷ []) env vs ≡ frame_rest n p (rest n p fs) f env vs
pop_is n p fs f env vs = ap (λ k. k env vs) (fold-append (frame_rest n p) last fs (f ∷ []))

pub nil_of : {A : Type 0} (xs : List A) → length xs ≡ 0 → xs ≡ []
nil_of [] h = refl
nil_of (x ∷ xs) h = absurd (omega arith)

-- ---- the whole run

first_is : (n : ℕ) (p : Program) (f : ℕ) (env args : List Val) (fs : List Frame) → fs ≡ [] → before n p 0 fs env (after.Enter f) args ≡ calls n p f args
first_is n p f env args fs h = ap (λ x. before n p 0 x env (after.Enter f) args) h ∙ plus_zero _ ∙ then_given (calls n p f args)

-- what the pending work gives in the end is what the definition gives at some depth
pub found : (p : Program) (f : ℕ) (env args : List Val) (fs : List Frame) (values : List Val) (steps : ℕ) → fs ≡ [] → Moves (λ n. before n p 0 fs env (after.Enter f) args) (λ n. plus steps (given values)) → (n : ℕ) × (calls n p f args ≡ Some (values, steps))
found p f env args fs values steps h m =
    let b = m.back 0 in
    let e : before b.0 p 0 fs env (after.Enter f) args ≡ Some (values, steps + 0) = b.1.along (values, steps + 0) refl in
    let z : steps + 0 ≡ steps = omega arith in
    (b.0, sym (first_is b.0 p f env args fs h) ∙ e ∙ ap (λ k. Some (values, k)) z)

pub too_long : (limit : ℕ) (p : Program) (f : ℕ) (env args : List Val) (fs : List Frame) → fs ≡ [] → Passes limit (λ n. before n p 0 fs env (after.Enter f) args) → (n steps : ℕ) (values : List Val) → calls n p f args ≡ Some (values, steps) → limit < steps
too_long limit p f env args fs h m n steps values e = m.more n (values, steps) (first_is n p f env args fs h ∙ e)
