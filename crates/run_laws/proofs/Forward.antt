-- Where a graph goes to its results, so does the machine, and adds its sum.
use Rattle.std.proofs.Common.{◌≡◌, ℕ, zero, suc, ◌+◌, ◌≤◌, Bool, false, List, [], ◌∷◌, length, map, get_or, slice_get, Option, Some, None, refl, sym, ap, ◌∙◌, subst, arith, pos, negsuc}
use Rattle.run_code.specs.Cause.{Cause}
use Rattle.run_code.specs.Cause.TheVariants as cause
use Rattle.run_code.specs.Val.{Val}
use Rattle.run_code.specs.Val.TheOpen.{Val-F}
use Rattle.run_code.specs.Val.TheViews as values
use Rattle.run_code.specs.Carried.{Carried, Value, Unfilled, val_of}
use Rattle.run_code.specs.NodeValues.{Shape, op}
use Rattle.run_code.specs.Simple.{Simple}
use Rattle.run_code.specs.Entered.{IsIn}
use Rattle.run_code.specs.Forms.{Form, Next, First, Begins, Skips, next_of, enter_arm, arm_in, Enter, Iterate, Leave, Called, Chosen, Selecting, Starting, select, enter_chosen, errors, outputs_of, follow, first}
use Rattle.run_code.specs.Forms as form
use Rattle.run_code.specs.Laws.{counting}
use Rattle.run_code.specs.Ordered.{Fired, Inputs, Total, nothing}
use Rattle.run_code.specs.Known.{known_after}
use Rattle.run_code.proofs.Totals.{both-fire, both-sum, nothing-fires, nothing-sum, results-fire, results-sum}
use Rattle.run_code.proofs.Values.{by-form}
use Rattle.run_code.specs.Cells.{At, Cells, Operand, look, own_cells, write}
use Rattle.run_code.specs.Coded.{AreCoded, ArmsAre, Free, Hands, Layout, Starts, a_call, a_for_all, a_loop, a_node, a_select, a_tag_case, an_arm, graph_yields, loop_form, no_arm, no_node, operand, scalar, yields}
use Rattle.run_code.specs.Machine.{Arm, Choice, Ends, Fails, Frame, Goes, Into, Spoils, To, added, arm_by, arm_to, at, choice, chosen, or_tag, stays, tagged}
use Rattle.run_code.specs.Steps.{Branch, Call, Fire, Return, Tag}
use Rattle.run_laws.proofs.Cells.{Good, HoldsAll, all-later, as-many, good-bound, good-later, good-passed, look-all, read-held, same-then, write-below, write-in}
use Rattle.run_laws.proofs.ForAlls.{for-all-passes, over-of}
use Rattle.run_laws.proofs.Loops.{loop-first, loop-of, loop-passes}
use Rattle.run_laws.proofs.Passing.{Below, Closed, DoesNode, DoesNodes, Part, below-less, closed-as, copies-pass, errors-close, last-closes, part-of, part-runs, then-closed, writes-outs}
use Rattle.run_laws.proofs.Stepping.{comes-as, comes-then, counts, does, one-step}
use Rattle.run_laws.specs.Laws.{DoesItAll}

module _ (X : Layout) (limit : ℕ) where
  simple-passes : (args : List Operand) (row : Simple) (shape : Shape) (own : List Carried → List Carried → ℕ) (w a lo : ℕ) → X.code a ≡ Fire row shape args lo w → ((ks rs : List Carried) → X.weigh a ks rs ≡ own ks rs)
      → (base : ℕ) (cells : Cells) (calls : List Frame) (fires : ℕ) (ks rs : List Carried) (c : Total (counting X.weights))
      → HoldsAll cells base lo args ks → rs ≡ op row shape ks → c ≡ nothing (counting X.weights) → fires + (1 + c.fires) ≤ limit → Closed X limit w (suc a) lo a base cells calls fires (fires + (1 + c.fires)) (own ks rs + c.sum) rs
  simple-passes args row shape own w a lo is weighs base cells calls fires ks rs c held e z le =
      let seen = look-all cells base lo args ks held in
      let now = write (base + lo) w (op row shape (map (look cells base) args)) cells in
      let same : op row shape (map (look cells base) args) ≡ rs = ap (op row shape) seen ∙ sym e in
      let zf = nothing-fires X.weights c z in
      let zs = nothing-sum X.weights c z in
      let adds : X.weigh a (map (look cells base) args) (op row shape (map (look cells base) args)) ≡ own ks rs = ap (λ x. X.weigh a x (op row shape (map (look cells base) args))) seen ∙ (ap (X.weigh a ks) same ∙ weighs ks rs) in
      record {
        cells' = now;
        comes = comes-as X.weigh limit X.code (at a base cells calls fires) (suc a) base now calls (suc fires) (fires + (1 + c.fires)) (own ks rs) (own ks rs + c.sum) (omega (arith, zf)) (omega (arith, zs))
            (one-step X.weigh limit X.code a base cells calls fires (at (suc a) base now calls (suc fires)) (Fire row shape args lo w) (own ks rs) is (counts limit X.code fires (λ f. Goes (at (suc a) base now calls f)) (omega (arith, le))) adds);
        same = λ j lt. write-below (base + lo) w (op row shape (map (look cells base) args)) cells j lt;
        outs = λ i lt. writes-outs base lo w (op row shape (map (look cells base) args)) cells i lt ∙ ap (λ x. get_or x i Unfilled) same;
      }

  -- ---- alternatives and arms

  pub record ArmIs (room : ℕ) (args : List Operand) (g t w b lo up : ℕ) : Type 0 where
    pub end : ℕ
    pub froms : List Operand
    pub part : Part X limit room args g t end up froms
    pub hands : Hands X g end froms lo w b

  -- the place of an alternative that is there, and none else
  abbrev pub ArmAt : ℕ → List Operand → ℕ → ℕ → ℕ → ℕ → Option ℕ → Option ℕ → Type 0
  ArmAt room args w b lo up None None = Unit {0}
  ArmAt room args w b lo up None (Some t) = ⊥
  ArmAt room args w b lo up (Some g) None = ⊥
  ArmAt room args w b lo up (Some g) (Some t) = ArmIs room args g t w b lo up

  arm-at : (room : ℕ) (args : List Operand) (gs ts : List ℕ) (w b lo up : ℕ) → ArmsAre X room args gs ts w b lo up → (i : ℕ) → ArmAt room args w b lo up (slice_get gs i) (slice_get ts i)
  arm-at room _ _ _ _ _ _ _ (no_arm args w b lo up) i = tt
  arm-at room _ _ _ _ _ _ _ (an_arm args g gs t m ts w b lo up froms part hands others) zero = record { end = m; froms = froms; part = part-of X limit room args g t m up froms part; hands = hands }
  arm-at room _ _ _ _ _ _ _ (an_arm args g gs t m ts w b lo up froms part hands others) (suc i) = arm-at room args gs ts w b lo up others i

  -- what follows a selector's value, and where the machine goes on
  pub data Selected (room : ℕ) (args : List Operand) (w b lo up : ℕ) (form : Form) (ks : List Carried) (next : Next) (c : Choice) : Type 0 where
    arm : (g t : ℕ) → next ≡ Enter false g ks Chosen → c ≡ To t → ArmIs room args g t w b lo up → Selected room args w b lo up form ks next c
    no_more : (e : Cause) → next ≡ Leave (errors (outputs_of form) e) → c ≡ Fails e → Selected room args w b lo up form ks next c

  by-place : (room : ℕ) (args : List Operand) (s : ℕ) (gs : List ℕ) (w b lo up : ℕ) (ks : List Carried) (g t : Option ℕ) → ArmAt room args w b lo up g t → Selected room args w b lo up (form.Select s gs w) ks (enter_chosen (form.Select s gs w) ks g) (or_tag t)
  by-place room args s gs w b lo up ks None None h = no_more cause.Tag refl refl
  by-place room args s gs w b lo up ks None (Some t) h = absurd h
  by-place room args s gs w b lo up ks (Some g) None h = absurd h
  by-place room args s gs w b lo up ks (Some g) (Some t) h = arm g t refl refl h

  selected-form : (room : ℕ) (args : List Operand) (s : ℕ) (gs ts : List ℕ) (w b lo up : ℕ) → ArmsAre X room args gs ts w b lo up → (ks : List Carried) (y : Val-F Val)
      → Selected room args w b lo up (form.Select s gs w) ks (select (form.Select s gs w) gs ks (values.roll-Val y)) (choice ts (values.roll-Val y))
  unfolding values.roll-Val denote.Hole.Carrier.roll
  selected-form room args s gs ts w b lo up arms ks (Val-F.Err d) = no_more d refl refl
  selected-form room args s gs ts w b lo up arms ks (Val-F.Int (pos i)) = by-place room args s gs w b lo up ks (slice_get gs i) (slice_get ts i) (arm-at room args gs ts w b lo up arms i)
  selected-form room args s gs ts w b lo up arms ks (Val-F.Int (negsuc i)) = no_more cause.Tag refl refl
  selected-form room args s gs ts w b lo up arms ks (Val-F.Bool v) = no_more cause.Explicit refl refl
  selected-form room args s gs ts w b lo up arms ks (Val-F.Char n) = no_more cause.Explicit refl refl
  selected-form room args s gs ts w b lo up arms ks Val-F.Null = no_more cause.Explicit refl refl
  selected-form room args s gs ts w b lo up arms ks (Val-F.Arr a) = no_more cause.Explicit refl refl
  selected-form room args s gs ts w b lo up arms ks (Val-F.Rec vs) = no_more cause.Explicit refl refl
  selected-form room args s gs ts w b lo up arms ks (Val-F.Uni t v) = no_more cause.Explicit refl refl
  selected-form room args s gs ts w b lo up arms ks (Val-F.Stream vs) = no_more cause.Explicit refl refl

  pub selected : (room : ℕ) (args : List Operand) (s : ℕ) (gs ts : List ℕ) (w b lo up : ℕ) → ArmsAre X room args gs ts w b lo up → (ks : List Carried) (v : Val)
      → Selected room args w b lo up (form.Select s gs w) ks (select (form.Select s gs w) gs ks v) (choice ts v)
  selected room args s gs ts w b lo up arms ks v = by-form (λ v. Selected room args w b lo up (form.Select s gs w) ks (select (form.Select s gs w) gs ks v) (choice ts v)) (selected-form room args s gs ts w b lo up arms ks) v

  -- what a union leads to, and where the machine goes on
  pub data Tagged (room : ℕ) (args : List Operand) (w b lo up : ℕ) (others : List Carried) (first : First) (c : Arm) : Type 0 where
    into : (g t : ℕ) (v : Val) → first ≡ Begins g (Value v ∷ others) Chosen → c ≡ Into t v → ArmIs room args g t w b lo up → Tagged room args w b lo up others first c
    spoils : (e : Cause) → first ≡ Skips (errors w e) → c ≡ Spoils e → Tagged room args w b lo up others first c

  by-tag : (room : ℕ) (args : List Operand) (w b lo up : ℕ) (others : List Carried) (v : Val) (g t : Option ℕ) → ArmAt room args w b lo up g t → Tagged room args w b lo up others (enter_arm w v others g) (arm_to v t)
  by-tag room args w b lo up others v None None h = spoils cause.Explicit refl refl
  by-tag room args w b lo up others v None (Some t) h = absurd h
  by-tag room args w b lo up others v (Some g) None h = absurd h
  by-tag room args w b lo up others v (Some g) (Some t) h = into g t v refl refl h

  pub tagged-by : (room : ℕ) (args : List Operand) (gs ts : List ℕ) (w b lo up : ℕ) → ArmsAre X room args gs ts w b lo up → (others : List Carried) (y : Val-F Val)
      → Tagged room args w b lo up others (arm_in gs w others y) (arm_by ts y)
  tagged-by room args gs ts w b lo up arms others (Val-F.Err d) = spoils d refl refl
  tagged-by room args gs ts w b lo up arms others (Val-F.Int n) = spoils cause.Explicit refl refl
  tagged-by room args gs ts w b lo up arms others (Val-F.Bool v) = spoils cause.Explicit refl refl
  tagged-by room args gs ts w b lo up arms others (Val-F.Char n) = spoils cause.Explicit refl refl
  tagged-by room args gs ts w b lo up arms others Val-F.Null = spoils cause.Explicit refl refl
  tagged-by room args gs ts w b lo up arms others (Val-F.Arr a) = spoils cause.Explicit refl refl
  tagged-by room args gs ts w b lo up arms others (Val-F.Rec vs) = spoils cause.Explicit refl refl
  tagged-by room args gs ts w b lo up arms others (Val-F.Uni t v) = by-tag room args w b lo up others v (slice_get gs t) (slice_get ts t) (arm-at room args gs ts w b lo up arms t)
  tagged-by room args gs ts w b lo up arms others (Val-F.Stream vs) = spoils cause.Explicit refl refl

  -- ---- a Select

  chosen-closes : (n : ℕ) → Below X limit n → (room : ℕ) (args : List Operand) (s : ℕ) (gs : List ℕ) (w m b lo up : ℕ) (targets : List ℕ) (selector : Operand) → X.code m ≡ Branch selector targets lo w b → lo ≤ up
      → (base : ℕ) (cells : Cells) (calls : List Frame) (fires : ℕ) (ks rs : List Carried) (c : Total (counting X.weights)) (next : Next)
      → HoldsAll cells base up args ks → Selected room args w b lo up (form.Select s gs w) ks next (choice targets (val_of (look cells base selector)))
      → yields X n (form.Select s gs w) ks next rs c → fires + c.fires ≤ limit → Closed X limit w b lo m base cells calls fires (fires + c.fires) c.sum rs
  chosen-closes zero below room args s gs w m b lo up targets selector is rise base cells calls fires ks rs c next held sel goes le = absurd goes
  chosen-closes (suc n) below room args s gs w m b lo up targets selector is rise base cells calls fires ks rs c next held (no_more e next_is to) goes le =
      let out = subst (λ y. yields X (suc n) (form.Select s gs w) ks y rs c) next_is goes in
      let zf = nothing-fires X.weights c out.1 in
      let zs = nothing-sum X.weights c out.1 in
      closed-as X limit w b lo m base cells calls fires fires (fires + c.fires) 0 c.sum rs (omega (arith, zf)) (omega (arith, zs))
      (errors-close X limit w b lo m base cells calls fires 0 (Branch selector targets lo w b) e rs is (ap (λ y. chosen limit y lo w b base cells calls fires) to) refl out.0)
  chosen-closes (suc n) below room args s gs w m b lo up targets selector is rise base cells calls fires ks rs c next held (arm g t next_is to body) goes le =
      let q = last-closes X limit (suc n) below (form.Select s gs w) Chosen ks ks (λ ms. refl) room args g t body.end up body.froms body.part lo w b body.hands rise base cells calls fires rs c held
      (subst (λ y. yields X (suc n) (form.Select s gs w) ks y rs c) next_is goes) le in
      let jump = one-step X.weigh limit X.code m base cells calls fires (at t base cells calls fires) (Branch selector targets lo w b) 0 is (ap (λ y. chosen limit y lo w b base cells calls fires) to) refl in
      closed-as X limit w b lo m base cells calls fires (fires + c.fires) (fires + c.fires) (0 + c.sum) c.sum rs refl (omega arith)
      (then-closed X limit w b lo m t base cells cells calls fires fires (fires + c.fires) 0 c.sum rs jump (λ j lt. refl) q)

  select-passes : (n : ℕ) → Below X limit (suc n) → (room : ℕ) (args : List Operand) (s : ℕ) (gs : List ℕ) (own : List Carried → List Carried → ℕ) (w a b lo : ℕ) (picks : List Bool) (mid m : ℕ) (selector : Operand) (targets : List ℕ)
      → Starts X a lo w picks args own mid → Part X limit room (own_cells picks args (lo + w)) s (suc (suc a)) m mid (selector ∷ []) → Free X s → X.code m ≡ Branch selector targets lo w b
      → ArmsAre X room (own_cells picks args (lo + w)) gs targets w b lo mid
      → (base : ℕ) (cells : Cells) (calls : List Frame) (fires : ℕ) (ks rs : List Carried) (c : Total (counting X.weights))
      → HoldsAll cells base lo args ks → yields X (suc n) (form.Select s gs w) ks (Enter false s ks Selecting) rs c → fires + (1 + c.fires) ≤ limit
      → Closed X limit w b lo a base cells calls fires (fires + (1 + c.fires)) (own ks rs + c.sum) rs
  select-passes n below room args s gs own w a b lo picks mid m selector targets start part free branch arms base cells calls fires ks rs c held goes le =
      let mine = own_cells picks args (lo + w) in
      let fits = start.fits in
      let inner = goes.1 in
      let later = goes.2 in
      let bf = both-fire X.weights c inner later 0 0 goes.5 in
      let bs = both-sum X.weights c inner later 0 0 goes.5 in
      let z = free goes.0 in
      let p = copies-pass X limit args own w a lo mid picks start base cells calls fires ks rs held (omega (arith, le)) in
      let r = part-runs X limit (suc n) n (omega arith) below room mine s (suc (suc a)) m mid (selector ∷ []) part base p.cells' calls (suc fires) ks goes.0 inner p.held goes.3 (omega (arith, le, bf)) in
      let whole = r.whole in
      let next = subst (λ x. yields X n (form.Select s gs w) ks (follow (form.Select s gs w) ks Selecting x) rs later) (sym r.told) goes.4 in
      let v = val_of (look r.cells' base selector) in
      let q = chosen-closes n (below-less X limit (suc n) n (omega arith) below) room mine s gs w m b lo mid targets selector branch (omega (arith, fits)) base r.cells' calls (suc fires + inner.fires) ks rs later (select (form.Select s gs w) gs ks v)
      (all-later r.cells' p.cells' base mid mid mine ks (omega arith) r.same p.held) (selected room mine s gs targets w b lo mid arms ks v) next (omega (arith, le, bf)) in
      closed-as X limit w b lo a base cells calls fires ((suc fires + inner.fires) + later.fires) (fires + (1 + c.fires)) (own ks rs + (r.sum + later.sum)) (own ks rs + c.sum) rs (omega (arith, bf)) (omega (arith, bs, whole, z))
      (then-closed X limit w b lo a (suc (suc a)) base cells p.cells' calls fires (suc fires) ((suc fires + inner.fires) + later.fires) (own ks rs) (r.sum + later.sum) rs p.comes (λ j lt. p.same j (omega (arith, lt)))
      (then-closed X limit w b lo (suc (suc a)) m base p.cells' r.cells' calls (suc fires) (suc fires + inner.fires) ((suc fires + inner.fires) + later.fires) r.sum later.sum rs r.comes (λ j lt. r.same j (omega (arith, lt, fits))) q))

  -- ---- a TagCase

  -- the content in its cell, before the other inputs
  pub content-held : (cells : Cells) (base mid : ℕ) (others : List Operand) (ks : List Carried) (v : Val) → HoldsAll cells base mid others ks
      → HoldsAll (write (base + mid) 1 (Value v ∷ []) cells) base (suc mid) (At mid ∷ others) (Value v ∷ ks)
  content-held cells base mid others ks v h =
      let now = write (base + mid) 1 (Value v ∷ []) cells in
      ((omega arith, ap now (omega arith) ∙ write-in (base + mid) 1 (Value v ∷ []) cells 0 (omega arith)), all-later now cells base mid (suc mid) others ks (omega arith) (λ j lt. write-below (base + mid) 1 (Value v ∷ []) cells j (omega (arith, lt))) h)

  -- what the step reads
  pub union-held : (cells : Cells) (base mid : ℕ) (mine : List Operand) (union : Operand) (others : List Operand) (k : Carried) (ks : List Carried) → mine ≡ union ∷ others → HoldsAll cells base mid mine (k ∷ ks)
      → (look cells base union ≡ k) × HoldsAll cells base mid others ks
  union-held cells base mid mine union others k ks e h =
      let h' = subst (λ y. HoldsAll cells base mid y (k ∷ ks)) e h in
      (head (look-all cells base mid (union ∷ others) (k ∷ ks) h'), h'.1)
    where
      head : look cells base union ∷ map (look cells base) others ≡ k ∷ ks → look cells base union ≡ k
      head e = cc

  tag-closes : (n : ℕ) → Below X limit n → (room : ℕ) (others : List Operand) (gs : List ℕ) (w t b lo mid : ℕ) (union : Operand) (targets : List ℕ) → X.code t ≡ Tag union targets mid lo w b → lo ≤ mid
      → (base : ℕ) (cells : Cells) (calls : List Frame) (fires : ℕ) (k : Carried) (ks rs : List Carried) (c : Total (counting X.weights)) (first : First)
      → look cells base union ≡ k → HoldsAll cells base mid others ks → Tagged room (At mid ∷ others) w b lo (suc mid) ks first (arm_by targets (values.out-Val (val_of k)))
      → yields X n (form.TagCase gs w) (k ∷ ks) (next_of first) rs c → fires + c.fires ≤ limit → Closed X limit w b lo t base cells calls fires (fires + c.fires) c.sum rs
  tag-closes zero below room others gs w t b lo mid union targets is rise base cells calls fires k ks rs c first seen held sel goes le = absurd goes
  tag-closes (suc n) below room others gs w t b lo mid union targets is rise base cells calls fires k ks rs c first seen held (spoils e first_is to) goes le =
      let out = subst (λ y. yields X (suc n) (form.TagCase gs w) (k ∷ ks) (next_of y) rs c) first_is goes in
      let zf = nothing-fires X.weights c out.1 in
      let zs = nothing-sum X.weights c out.1 in
      closed-as X limit w b lo t base cells calls fires fires (fires + c.fires) 0 c.sum rs (omega (arith, zf)) (omega (arith, zs))
      (errors-close X limit w b lo t base cells calls fires 0 (Tag union targets mid lo w b) e rs is
      (ap (λ y. tagged (arm_by targets (values.out-Val (val_of y))) mid lo w b base cells calls fires) seen ∙ ap (λ y. tagged y mid lo w b base cells calls fires) to) refl out.0)
  tag-closes (suc n) below room others gs w t b lo mid union targets is rise base cells calls fires k ks rs c first seen held (into g to_place v first_is to body) goes le =
      let now = write (base + mid) 1 (Value v ∷ []) cells in
      let q = last-closes X limit (suc n) below (form.TagCase gs w) Chosen (k ∷ ks) (Value v ∷ ks) (λ ms. refl) room (At mid ∷ others) g to_place body.end (suc mid) body.froms body.part lo w b body.hands (omega (arith, rise)) base now calls fires rs c
      (content-held cells base mid others ks v held) (subst (λ y. yields X (suc n) (form.TagCase gs w) (k ∷ ks) (next_of y) rs c) first_is goes) le in
      let jump = one-step X.weigh limit X.code t base cells calls fires (at to_place base now calls fires) (Tag union targets mid lo w b) 0 is
      (ap (λ y. tagged (arm_by targets (values.out-Val (val_of y))) mid lo w b base cells calls fires) seen ∙ ap (λ y. tagged y mid lo w b base cells calls fires) to) refl in
      closed-as X limit w b lo t base cells calls fires (fires + c.fires) (fires + c.fires) (0 + c.sum) c.sum rs refl (omega arith)
      (then-closed X limit w b lo t to_place base cells now calls fires fires (fires + c.fires) 0 c.sum rs jump (λ j lt. write-below (base + mid) 1 (Value v ∷ []) cells j (omega (arith, lt, rise))) q)

  tag-passes : (n : ℕ) → Below X limit n → (room : ℕ) (args : List Operand) (gs : List ℕ) (own : List Carried → List Carried → ℕ) (w a b lo : ℕ) (picks : List Bool) (mid : ℕ) (union : Operand) (others : List Operand) (targets : List ℕ)
      → Starts X a lo w picks args own mid → own_cells picks args (lo + w) ≡ union ∷ others → X.code (suc (suc a)) ≡ Tag union targets mid lo w b → ArmsAre X room (At mid ∷ others) gs targets w b lo (suc mid)
      → (base : ℕ) (cells : Cells) (calls : List Frame) (fires : ℕ) (ks rs : List Carried) (c : Total (counting X.weights))
      → HoldsAll cells base lo args ks → yields X n (form.TagCase gs w) ks (next_of (first (form.TagCase gs w) ks)) rs c → fires + (1 + c.fires) ≤ limit
      → Closed X limit w b lo a base cells calls fires (fires + (1 + c.fires)) (own ks rs + c.sum) rs
  tag-passes n below room args gs own w a b lo picks mid union others targets start split is arms base cells calls fires [] rs c held goes le =
      let p = copies-pass X limit args own w a lo mid picks start base cells calls fires [] rs held (omega (arith, le)) in
      absurd (subst (λ y. HoldsAll p.cells' base mid y []) split p.held)
  tag-passes n below room args gs own w a b lo picks mid union others targets start split is arms base cells calls fires (k ∷ ks) rs c held goes le =
      let fits = start.fits in
      let p = copies-pass X limit args own w a lo mid picks start base cells calls fires (k ∷ ks) rs held (omega (arith, le)) in
      let h = union-held p.cells' base mid (own_cells picks args (lo + w)) union others k ks split p.held in
      let q = tag-closes n below room others gs w (suc (suc a)) b lo mid union targets is (omega (arith, fits)) base p.cells' calls (suc fires) k ks rs c (arm_in gs w ks (values.out-Val (val_of k))) h.0 h.1
      (tagged-by room (At mid ∷ others) gs targets w b lo (suc mid) arms ks (values.out-Val (val_of k))) goes (omega (arith, le)) in
      closed-as X limit w b lo a base cells calls fires (suc fires + c.fires) (fires + (1 + c.fires)) (own (k ∷ ks) rs + c.sum) (own (k ∷ ks) rs + c.sum) rs (omega arith) refl
      (then-closed X limit w b lo a (suc (suc a)) base cells p.cells' calls fires (suc fires) (suc fires + c.fires) (own (k ∷ ks) rs) c.sum rs p.comes (λ j lt. p.same j (omega (arith, lt))) q)

  -- ---- all kinds

  module _ (coded : AreCoded X) where
    call-passes : (m : ℕ) → DoesNodes X limit (yields X m) → (room : ℕ) (args : List Operand) (f : ℕ) (own : List Carried → List Carried → ℕ) (w a lo : ℕ) → IsIn f X.functions → length args ≡ X.params f → lo + w ≤ room → X.code a ≡ Call (X.entry f) room args lo w
        → ((ks rs : List Carried) → X.weigh a ks [] ≡ own ks rs)
        → (base : ℕ) (cells : Cells) (calls : List Frame) (fires : ℕ) (ks rs : List Carried) (c : Total (counting X.weights))
        → HoldsAll cells base lo args ks → graph_yields X m f ks rs c → fires + (1 + c.fires) ≤ limit → Closed X limit w (suc a) lo a base cells calls fires (fires + (1 + c.fires)) (own ks rs + c.sum) rs
    call-passes m below room args f own w a lo in_f many fits is weighs base cells calls fires ks rs c held goes le =
        let fn = coded f in_f in
        let ordered = fn.ordered in
        let o : Frame = record { pc = suc a; base = base; out = lo; width = w } in
        let first = write (base + room) (length args) (map (look cells base) args) cells in
        let eq = look-all cells base lo args ks held in
        let n = as-many cells base lo args ks held in
        let inner = goes.1 in
        let rf = results-fire X.weights c inner (X.weights.of_results f rs) goes.4 in
        let rsum = results-sum X.weights c inner (X.weights.of_results f rs) goes.4 in
        let enters = one-step X.weigh limit X.code a base cells calls fires (at (X.entry f) (base + room) first (o ∷ calls) (suc fires)) (Call (X.entry f) room args lo w) (own ks rs) is
        (counts limit X.code fires (λ x. Goes (at (X.entry f) (base + room) first (o ∷ calls) x)) (omega (arith, le))) (ap (λ x. X.weigh a x []) eq ∙ weighs ks rs) in
        let good = good-passed first (base + room) (X.params f) fn.places ks (sym n ∙ many) fn.inputs fn.wanting
        (λ i lt. write-in (base + room) (length args) (map (look cells base) args) cells i (omega (arith, lt, many)) ∙ ap (λ x. get_or x i Unfilled) eq) in
        let r = below (X.size f) f fn.places (X.order f) (X.entry f) fn.end (X.params f) fn.nodes [] ordered.0 (base + room) first (o ∷ calls) (suc fires) (Inputs ks) goes.0 inner good goes.2 (omega (arith, le, rf)) in
        let froms = map (operand fn.places) (X.network f).results in
        let res = look-all r.cells' (base + room) r.top froms rs (read-held r.cells' (base + room) r.top fn.places (known_after X.width [] (X.order f)) goes.0 r.good (X.network f).results ordered.1 rs goes.3) in
        let last = write (base + lo) w (map (look r.cells' (base + room)) froms) r.cells' in
        let leaves = one-step X.weigh limit X.code fn.end (base + room) r.cells' (o ∷ calls) (suc fires + inner.fires) (at (suc a) base last calls (suc fires + inner.fires)) (Return froms) (X.weights.of_results f rs) fn.leaves refl
        (fn.weighs (map (look r.cells' (base + room)) froms) ∙ ap (λ x. X.weights.of_results f x) res) in
        record {
          cells' = last;
          comes = comes-as X.weigh limit X.code (at a base cells calls fires) (suc a) base last calls (suc fires + inner.fires) (fires + (1 + c.fires)) (own ks rs + (inner.sum + X.weights.of_results f rs)) (own ks rs + c.sum) (omega (arith, rf)) (omega (arith, rsum))
              (comes-then X.weigh limit X.code (at a base cells calls fires) (at (X.entry f) (base + room) first (o ∷ calls) (suc fires)) (at (suc a) base last calls (suc fires + inner.fires)) (own ks rs) (inner.sum + X.weights.of_results f rs) enters
              (comes-then X.weigh limit X.code (at (X.entry f) (base + room) first (o ∷ calls) (suc fires)) (at fn.end (base + room) r.cells' (o ∷ calls) (suc fires + inner.fires)) (at (suc a) base last calls (suc fires + inner.fires)) inner.sum (X.weights.of_results f rs) r.comes leaves));
          same = λ j lt. write-below (base + lo) w (map (look r.cells' (base + room)) froms) r.cells' j lt
              ∙ (r.same j (omega (arith, lt, fits)) ∙ write-below (base + room) (length args) (map (look cells base) args) cells j (omega (arith, lt, fits)));
          outs = λ i lt. writes-outs base lo w (map (look r.cells' (base + room)) froms) r.cells' i lt ∙ ap (λ x. get_or x i Unfilled) res;
        }

    pub node-passes : (n : ℕ) → Below X limit n → DoesNode X limit (yields X n)
    node-passes n below room _ _ _ _ _ _ _ (scalar args row shape own w a lo is weighs) base cells calls fires ks rs c held goes le =
        simple-passes args row shape own w a lo is weighs base cells calls fires ks rs c held goes.0 goes.1 le
    node-passes zero below room _ _ _ _ _ _ _ (a_call args f own w a lo in_f many fits is weighs) base cells calls fires ks rs c held goes le = absurd goes
    node-passes (suc zero) below room _ _ _ _ _ _ _ (a_call args f own w a lo in_f many fits is weighs) base cells calls fires ks rs c held goes le = absurd goes.4
    node-passes (suc (suc n)) below room _ _ _ _ _ _ _ (a_call args f own w a lo in_f many fits is weighs) base cells calls fires ks rs c held goes le =
        let inner = goes.1 in
        let zf = nothing-fires X.weights goes.2 goes.4.1 in
        let zs = nothing-sum X.weights goes.2 goes.4.1 in
        let bf = both-fire X.weights c inner goes.2 0 0 goes.5 in
        let bs = both-sum X.weights c inner goes.2 0 0 goes.5 in
        let g = subst (λ x. graph_yields X (suc n) f ks x inner) (sym goes.4.0) goes.3 in
        closed-as X limit w (suc a) lo a base cells calls fires (fires + (1 + inner.fires)) (fires + (1 + c.fires)) (own ks rs + inner.sum) (own ks rs + c.sum) rs (omega (arith, bf, zf)) (omega (arith, bs, zs))
        (call-passes (suc n) (below (suc n) (omega arith)) room args f own w a lo in_f many fits is weighs base cells calls fires ks rs inner held g (omega (arith, le, bf, zf)))
    node-passes zero below room _ _ _ _ _ _ _ (a_select args s gs own w a b lo picks mid m selector targets start part free branch arms) base cells calls fires ks rs c held goes le = absurd goes
    node-passes (suc n) below room _ _ _ _ _ _ _ (a_select args s gs own w a b lo picks mid m selector targets start part free branch arms) base cells calls fires ks rs c held goes le =
        select-passes n below room args s gs own w a b lo picks mid m selector targets start (part-of X limit room (own_cells picks args (lo + w)) s (suc (suc a)) m mid (selector ∷ []) part) free branch arms base cells calls fires ks rs c held goes le
    node-passes n below room _ _ _ _ _ _ _ (a_tag_case args gs own w a b lo picks mid union others targets start split is arms) base cells calls fires ks rs c held goes le =
        tag-passes n below room args gs own w a b lo picks mid union others targets start split is arms base cells calls fires ks rs c held goes le
    node-passes zero below room _ _ _ _ _ _ _ (a_loop early args init test body returns own w a b lo loop) base cells calls fires ks rs c held goes le = absurd goes
    node-passes (suc n) below room _ _ _ _ _ _ _ (a_loop early args init test body returns own w a b lo loop) base cells calls fires ks rs c held goes le =
        loop-passes X limit room early args init test body returns own w a b lo (loop-of X limit room early args init test body returns own w a b lo loop) n below base cells calls fires ks rs c held
        (subst (λ y. yields X (suc n) (loop_form early init test body returns w) ks (next_of y) rs c) (loop-first early init test body returns w ks) goes) le
    node-passes zero below room _ _ _ _ _ _ _ (a_for_all args generator body returns m own w a b lo over) base cells calls fires ks rs c held goes le = absurd goes
    node-passes (suc n) below room _ _ _ _ _ _ _ (a_for_all args generator body returns m own w a b lo over) base cells calls fires ks rs c held goes le =
        for-all-passes X limit room args generator body returns m own w a b lo (over-of X limit room args generator body returns m own w a b lo over) n below base cells calls fires ks rs c held goes le

    pub nodes-pass : (n : ℕ) → Below X limit n → DoesNodes X limit (yields X n)
    nodes-pass n below room _ _ _ _ _ _ (no_node g places a lo) known ord base cells calls fires env after c good goes le =
        let zf = nothing-fires X.weights c goes.1 in
        let zs = nothing-sum X.weights c goes.1 in
        record {
          cells' = cells;
          top = lo;
          rises = omega arith;
          comes = comes-as X.weigh limit X.code (at a base cells calls fires) a base cells calls fires (fires + c.fires) 0 c.sum (omega (arith, zf)) (sym zs) (stays (at a base cells calls fires));
          same = λ j lt. refl;
          good = subst (Good cells base lo places known) (sym goes.0) good;
        }
    nodes-pass n below room _ _ _ _ _ _ (a_node g places v vs a m b lo next puts fits node nodes) known ord base cells calls fires env after c good goes le =
        let rs = goes.0 in
        let one = goes.1 in
        let later = goes.2 in
        let x = goes.3 in
        let own = X.weights.of_node g v x.operands rs in
        let bf = both-fire X.weights c one later 1 own goes.5 in
        let bs = both-sum X.weights c one later 1 own goes.5 in
        let p = node-passes n below room (map (operand places) v.ins) v.kind (X.weights.of_node g v) (X.width v) a m lo node base cells calls fires x.operands rs one
        (read-held cells base lo places known env good v.ins ord.2 x.operands x.reads) x.gives (omega (arith, le, bf)) in
        let good' = good-bound p.cells' base lo next (X.width v) v.label rs places known env ord.0 ord.1 puts fits p.outs (good-later p.cells' cells base lo next places known env (omega (arith, fits)) p.same good) in
        let r = nodes-pass n below room g places vs m b next nodes ((v.label, X.width v) ∷ known) ord.3 base p.cells' calls (fires + (1 + one.fires)) (Fired v.label rs env) after later good' goes.4 (omega (arith, le, bf)) in
        let up = r.rises in
        record {
          cells' = r.cells';
          top = r.top;
          rises = omega (arith, fits, up);
          comes = comes-as X.weigh limit X.code (at a base cells calls fires) b base r.cells' calls ((fires + (1 + one.fires)) + later.fires) (fires + c.fires) ((own + one.sum) + later.sum) c.sum (omega (arith, bf)) (omega (arith, bs))
              (comes-then X.weigh limit X.code (at a base cells calls fires) (at m base p.cells' calls (fires + (1 + one.fires))) (at b base r.cells' calls ((fires + (1 + one.fires)) + later.fires)) (own + one.sum) later.sum p.comes r.comes);
          same = same-then (base + lo) (base + next) cells p.cells' r.cells' (omega (arith, fits)) p.same r.same;
          good = r.good;
        }

    pub forward : (n : ℕ) → Below X limit n
    forward zero m lt = absurd (omega (arith, lt))
    forward (suc n) m lt = nodes-pass m (λ k le. forward n k (omega (arith, le, lt)))

pub all-done : DoesItAll
all-done X limit coded n f ins rs c cells in_f many held goes le =
    let fn = coded f in_f in
    let ordered = fn.ordered in
    let inner = goes.1 in
    let rf = results-fire X.weights c inner (X.weights.of_results f rs) goes.4 in
    let rsum = results-sum X.weights c inner (X.weights.of_results f rs) goes.4 in
    let r = forward X limit coded (suc n) n (omega arith) (X.size f) f fn.places (X.order f) (X.entry f) fn.end (X.params f) fn.nodes [] ordered.0 0 cells [] 0 (Inputs ins) goes.0 inner
    (good-passed cells 0 (X.params f) fn.places ins many fn.inputs fn.wanting (λ i lt. ap cells (omega arith) ∙ held i (omega (arith, lt, many)))) goes.2 (omega (arith, le, rf)) in
    let froms = map (operand fn.places) (X.network f).results in
    let res = look-all r.cells' 0 r.top froms rs (read-held r.cells' 0 r.top fn.places (known_after X.width [] (X.order f)) goes.0 r.good (X.network f).results ordered.1 rs goes.3) in
    let adds : added X.weigh (X.code fn.end) fn.end 0 r.cells' ≡ X.weights.of_results f rs =
    ap (λ z. added X.weigh z fn.end 0 r.cells') fn.leaves ∙ (fn.weighs (map (look r.cells' 0) froms) ∙ ap (λ x. X.weights.of_results f x) res) in (
      at fn.end 0 r.cells' [] c.fires,
      inner.sum,
      comes-as X.weigh limit X.code (at (X.entry f) 0 cells [] 0) fn.end 0 r.cells' [] (0 + inner.fires) c.fires inner.sum inner.sum (omega (arith, rf)) refl r.comes,
      does limit X.code (Return froms) fn.end 0 r.cells' [] c.fires (Ends rs c.fires) fn.leaves (ap (λ x. Ends x c.fires) res),
      rsum ∙ ap (λ x. inner.sum + x) (sym adds),
    )
