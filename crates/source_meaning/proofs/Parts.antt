-- One part of a list that is being evaluated, and the end of the list.
use Rattle.std.proofs.Common.{◌≡◌, ℕ, ◌+◌, ◌<◌, List, [], ◌∷◌, ◌++◌, length, sym, ap, subst, ◌∙◌}
use Rattle.flow_value.specs.declared.value.Val.{Val}
use Rattle.typed_tree.specs.declared.expr.TypedExpr.{TypedExpr}
use Rattle.source_meaning.specs.declared.state.After.{After}
use Rattle.source_meaning.specs.declared.state.Work.{Work}
use Rattle.source_meaning.specs.declared.state.Listing.{Listing}
use Rattle.source_meaning.specs.declared.state.Operating.{Operating}
use Rattle.source_meaning.specs.declared.state.Frame.{Frame}
use Rattle.source_meaning.specs.declared.state.Frame.TheVariants as frame
use Rattle.meaning.specs.Timed.{Timed, plus, andthen, Moves, Passes}
use Rattle.source_meaning.specs.Slots.{slot_values}
use Rattle.meaning.specs.Meaning.{meaning, meanings, kind_meaning}
use Rattle.source_meaning.specs.Pending.{Program, Rest, finish, operate, frame_rest, rest}
use Rattle.source_meaning.proofs.Wholes.{whole}
use Rattle.source_meaning.proofs.Laws.{moves_same, plus_plus, plus_then, passes_now}
use Rattle.source_meaning.proofs.Grows.{meaning_is}
use Rattle.source_meaning.proofs.Rests.{part_is, no_part, pop_is}

-- a part is begun, and its step counted
pub listing_step : (n : ℕ) (p : Program) (f g : Listing) (k : Rest) (env vs : List Val) (e : TypedExpr) (s t : ℕ) (b : Timed (List Val)) → f.left.now ≡ e ∷ g.left.now → g.after ≡ f.after → g.done ≡ f.done ++ vs → t ≡ s + 1
    → plus 1 b ≡ andthen (meaning n p e env) (frame_rest n p k (frame.Listing g) env) → plus s (frame_rest n p k (frame.Listing f) env vs) ≡ plus t b
listing_step n p f g k env vs e s t b h ha hd ht hb =
    let F : After → List Val → List Val → Timed (List Val) = λ a d ws. andthen (meanings n p g.left.now env) (λ us. finish n p a k env ((d ++ ws) ++ us)) in
    ap (plus s) (ap (λ l. andthen (meanings n p l env) (λ ws. finish n p f.after k env ((f.done ++ vs) ++ ws))) h
    ∙ part_is n p e g.left.now env (f.done ++ vs) (finish n p f.after k env)
    ∙ ap (λ a. andthen (meaning n p e env) (F a (f.done ++ vs))) (sym ha)
    ∙ ap (λ d. andthen (meaning n p e env) (F g.after d)) (sym hd)
    ∙ sym hb)
    ∙ plus_plus s 1 b ∙ ap (λ i. plus i b) (sym ht)

pub operating_step : (n : ℕ) (p : Program) (f g : Operating) (k : Rest) (env vs : List Val) (e : TypedExpr) (s t : ℕ) (b : Timed (List Val)) → f.left.now ≡ e ∷ g.left.now → g.work ≡ f.work → slot_values env g.slots ≡ slot_values env f.slots ++ vs → t ≡ s + 1
    → plus 1 b ≡ andthen (meaning n p e env) (frame_rest n p k (frame.Operating g) env) → plus s (frame_rest n p k (frame.Operating f) env vs) ≡ plus t b
operating_step n p f g k env vs e s t b h ha hd ht hb =
    let F : Work → List Val → List Val → Timed (List Val) = λ a d ws. andthen (meanings n p g.left.now env) (λ us. operate n p a k env ((d ++ ws) ++ us)) in
    ap (plus s) (ap (λ l. andthen (meanings n p l env) (λ ws. operate n p f.work k env ((slot_values env f.slots ++ vs) ++ ws))) h
    ∙ part_is n p e g.left.now env (slot_values env f.slots ++ vs) (operate n p f.work k env)
    ∙ ap (λ a. andthen (meaning n p e env) (F a (slot_values env f.slots ++ vs))) (sym ha)
    ∙ ap (λ d. andthen (meaning n p e env) (F g.work d)) (sym hd)
    ∙ sym hb)
    ∙ plus_plus s 1 b ∙ ap (λ i. plus i b) (sym ht)

-- no part is left
pub listing_last : (n : ℕ) (p : Program) (f : Listing) (k : Rest) (env vs d : List Val) → f.left.now ≡ [] → d ≡ f.done ++ vs → frame_rest n p k (frame.Listing f) env vs ≡ finish n p f.after k env d
listing_last n p f k env vs d h hd =
    ap (λ l. andthen (meanings n p l env) (λ ws. finish n p f.after k env ((f.done ++ vs) ++ ws))) h
    ∙ no_part n p env (f.done ++ vs) (finish n p f.after k env)
    ∙ ap (finish n p f.after k env) (sym hd)

pub operating_last : (n : ℕ) (p : Program) (f : Operating) (k : Rest) (env vs d : List Val) → f.left.now ≡ [] → d ≡ slot_values env f.slots ++ vs → frame_rest n p k (frame.Operating f) env vs ≡ operate n p f.work k env d
operating_last n p f k env vs d h hd =
    ap (λ l. andthen (meanings n p l env) (λ ws. operate n p f.work k env ((slot_values env f.slots ++ vs) ++ ws))) h
    ∙ no_part n p env (slot_values env f.slots ++ vs) (operate n p f.work k env)
    ∙ ap (operate n p f.work k env) (sym hd)

-- a part would pass the limit
late : (limit s : ℕ) (p : Program) (e : TypedExpr) (es : List TypedExpr) (env xs : List Val) (F : ℕ → List Val → Timed (List Val)) → limit < s + 1
    → Passes limit (λ n. plus s (andthen (meanings n p (e ∷ es) env) (λ ws. F n (xs ++ ws))))
late limit s p e es env xs F h =
    let G : ℕ → List Val → Timed (List Val) = λ n ws. andthen (meanings n p es env) (λ us. F n ((xs ++ ws) ++ us)) in
    let K : ℕ → Timed (List Val) = λ n. kind_meaning n p e.kind (length e.types) env in
    passes_now limit s 1 _ (λ n. andthen (K n) (G n)) h
    (λ n. ap (plus s) (part_is n p e es env xs (F n) ∙ ap (λ a. andthen a (G n)) (meaning_is n p e env) ∙ plus_then 1 (K n) (G n)) ∙ plus_plus s 1 (andthen (K n) (G n)))

pub listing_late : (limit s : ℕ) (p : Program) (f : Listing) (fs : List Frame) (env vs : List Val) (e : TypedExpr) (es : List TypedExpr) → f.left.now ≡ e ∷ es → limit < s + 1
    → Passes limit (λ n. plus s (frame_rest n p (rest n p fs) (frame.Listing f) env vs))
listing_late limit s p f fs env vs e es h i =
    subst (λ l. Passes limit (λ n. plus s (andthen (meanings n p l env) (λ ws. finish n p f.after (rest n p fs) env ((f.done ++ vs) ++ ws))))) (sym h)
    (late limit s p e es env (f.done ++ vs) (λ n. finish n p f.after (rest n p fs) env) i)

pub operating_late : (limit s : ℕ) (p : Program) (f : Operating) (fs : List Frame) (env vs : List Val) (e : TypedExpr) (es : List TypedExpr) → f.left.now ≡ e ∷ es → limit < s + 1
    → Passes limit (λ n. plus s (frame_rest n p (rest n p fs) (frame.Operating f) env vs))
operating_late limit s p f fs env vs e es h i =
    subst (λ l. Passes limit (λ n. plus s (andthen (meanings n p l env) (λ ws. operate n p f.work (rest n p fs) env ((slot_values env f.slots ++ vs) ++ ws))))) (sym h)
    (late limit s p e es env (slot_values env f.slots ++ vs) (λ n. operate n p f.work (rest n p fs) env) i)

-- the last frame taken off
pub taken : (p : Program) (s : ℕ) (all fs : List Frame) (f : Frame) (env vs : List Val) → all ≡ fs ++ f ∷ [] → Moves (λ n. whole n p s all env vs) (λ n. plus s (frame_rest n p (rest n p fs) f env vs))
taken p s all fs f env vs h = moves_same _ _ (λ n. ap (λ x. plus s (rest n p x env vs)) h ∙ ap (plus s) (pop_is n p fs f env vs))

-- the same frame under another name
pub along_frame : (p : Program) (s : ℕ) (fs : List Frame) (env vs : List Val) (f g : Frame) (w : ℕ → Timed (List Val)) → f ≡ g → Moves (λ n. plus s (frame_rest n p (rest n p fs) g env vs)) w → Moves (λ n. plus s (frame_rest n p (rest n p fs) f env vs)) w
along_frame p s fs env vs f g w e h = subst (λ x. Moves (λ n. plus s (frame_rest n p (rest n p fs) x env vs)) w) (sym e) h

pub along_frame_limit : (limit : ℕ) (p : Program) (s : ℕ) (fs : List Frame) (env vs : List Val) (f g : Frame) → f ≡ g → Passes limit (λ n. plus s (frame_rest n p (rest n p fs) g env vs)) → Passes limit (λ n. plus s (frame_rest n p (rest n p fs) f env vs))
along_frame_limit limit p s fs env vs f g e h = subst (λ x. Passes limit (λ n. plus s (frame_rest n p (rest n p fs) x env vs))) (sym e) h
