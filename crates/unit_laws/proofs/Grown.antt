-- Graphs and nodes that are added change nothing that was given.
use Rattle.std.proofs.Common.{◌≡◌, ℕ, zero, suc, pos, negsuc, Bool, true, false, List, [], ◌∷◌, ◌++◌, map, Option, Some, None, refl, sym, subst, if◌then◌else◌}
use Rattle.std.specs.Prelude.{slice_get, eqb}
use Rattle.flow_value.specs.declared.cause.Cause.{Cause}
use Rattle.flow_value.specs.declared.cause.Cause.TheVariants as cause
use Rattle.flow_value.specs.declared.value.Val.{Val}
use Rattle.flow_value.specs.declared.value.Val.TheOpen.{Val-F}
use Rattle.flow_value.specs.declared.value.Val.TheViews.{out-Val}
use Rattle.flow_value.specs.declared.value.Val.TheVariants as val
use Rattle.graph_meaning.specs.Carried.{Carried, val_of}
use Rattle.graph_meaning.specs.Forms.{Form, Call, Select, TagCase, LoopA, LoopB, ForAll, Stage, Called, Selecting, Chosen, Starting, Testing, Turning, Generating, Returning, Next, Enter, Iterate, Leave, next_of, first, follow, gather, fails, enter_chosen, select, enter_arm, arm_in, tested, loop, spread, iterate, first_spoiled, are_as_long, rows_of, places_of, items}
use Rattle.graph_meaning.specs.Demand.{Source, Kind, Vertex, Net, Network, at_label}
use Rattle.graph_meaning.specs.Plain.{Carries, fixed, input, output, CarryAll, no_port, port, Outputs, simple, whole, Leads, leaves, enters, enters_deeper, iterates, MeanAll, no_row, a_row, NodesFire, no_node, a_node, InnerFires, of_simple, of_whole, LaterFires, of_leaving, of_graph, of_deeper, of_iterations, RowsFire, of_no_row, of_row}
use Rattle.unit_laws.specs.Grown.{graphs_of, AreAmong, EntersAmong, EnterAmong, AreKept, IsGrown}
use Rattle.unit_laws.specs.Laws.{AreGraphsKept, ArePortsKept}

-- ---- a node enters graphs of its form alone

module _ (P : ℕ → Bool) where
  abbrev NextAmong : Next → Type 0
  NextAmong (Enter t g ins stage) = P g ≡ true
  NextAmong (Iterate g row rows ms) = P g ≡ true
  NextAmong (Leave rs) = Unit {0}

  one-among : (gs : List ℕ) (i g : ℕ) → AreAmong P gs → slice_get gs i ≡ Some g → P g ≡ true
  one-among [] i g h e = absurd cc
  one-among (x ∷ gs) zero g h e = subst (λ z. P z ≡ true) (number-same x g e) h.0
    where
      number-same : (x g : ℕ) → Some x ≡ Some g → x ≡ g
      number-same x g e = cc
  one-among (x ∷ gs) (suc i) g h e = one-among gs i g h.1 e

  chosen-among : (form : Form) (ks : List Carried) (gs : List ℕ) (i : ℕ) (o : Option ℕ) → slice_get gs i ≡ o → AreAmong P gs → NextAmong (enter_chosen form ks o)
  chosen-among form ks gs i None e h = tt
  chosen-among form ks gs i (Some g) e h = one-among gs i g h e

  select-among : (form : Form) (gs : List ℕ) (ks : List Carried) (v : Val) → AreAmong P gs → NextAmong (select form gs ks v)
  select-among form gs ks (val.Int (pos i)) h = chosen-among form ks gs i (slice_get gs i) refl h
  select-among form gs ks (val.Int (negsuc i)) h = tt
  select-among form gs ks (val.Err c) h = tt
  select-among form gs ks _ h = tt

  arm-among : (n : ℕ) (v : Val) (others : List Carried) (gs : List ℕ) (tag : ℕ) (o : Option ℕ) → slice_get gs tag ≡ o → AreAmong P gs → NextAmong (next_of (enter_arm n v others o))
  arm-among n v others gs tag None e h = tt
  arm-among n v others gs tag (Some g) e h = one-among gs tag g h e

  arms-among : (gs : List ℕ) (n : ℕ) (others : List Carried) (v : Val-F Val) → AreAmong P gs → NextAmong (next_of (arm_in gs n others v))
  arms-among gs n others (Val-F.Uni tag v) h = arm-among n v others gs tag (slice_get gs tag) refl h
  arms-among gs n others (Val-F.Err c) h = tt
  arms-among gs n others _ h = tt

  first-among : (form : Form) (ks : List Carried) → AreAmong P (graphs_of form) → NextAmong (next_of (first form ks))
  first-among (Call g) ks h = h.0
  first-among (Select s gs n) ks h = h.0
  first-among (TagCase gs n) [] h = tt
  first-among (TagCase gs n) (x ∷ others) h = arms-among gs n others (out-Val (val_of x)) h
  first-among (LoopA i t b r n) ks h = h.0
  first-among (LoopB i t b r n) ks h = h.0
  first-among (ForAll g b r m n) ks h = h.0

  tested-among : (form : Form) (b r : ℕ) (ks ls : List Carried) (before : List (List Carried)) (v : Val) → P b ≡ true → P r ≡ true → NextAmong (tested form b r ks ls before v)
  tested-among form b r ks ls before (val.Bool true) x y = x
  tested-among form b r ks ls before (val.Bool false) x y = y
  tested-among form b r ks ls before (val.Err c) x y = tt
  tested-among form b r ks ls before _ x y = tt

  loop-among : (form : Form) (begin : Next) (t b r : ℕ) (ks : List Carried) (stage : Stage) (rs : List Carried) → NextAmong begin → P t ≡ true → P b ≡ true → P r ≡ true → NextAmong (loop form begin t b r ks stage rs)
  loop-among form begin t b r ks Starting rs x y z w = x
  loop-among form begin t b r ks (Testing []) rs x y z w = tt
  loop-among form begin t b r ks (Testing (ls ∷ before)) [] x y z w = tt
  loop-among form begin t b r ks (Testing (ls ∷ before)) (q ∷ []) x y z w = tested-among form b r ks ls before (val_of q) z w
  loop-among form begin t b r ks (Testing (ls ∷ before)) (q ∷ s ∷ rs) x y z w = tt
  loop-among form begin t b r ks (Turning turns) rs x y z w = y
  loop-among form begin t b r ks Returning rs x y z w = tt
  loop-among form begin t b r ks Called rs x y z w = tt
  loop-among form begin t b r ks Selecting rs x y z w = tt
  loop-among form begin t b r ks Chosen rs x y z w = tt
  loop-among form begin t b r ks Generating rs x y z w = tt

  spread-among : (b r m : ℕ) (ks ms : List Carried) (rows : List (List Carried)) → P b ≡ true → P r ≡ true → NextAmong (spread b r m ks ms rows)
  spread-among b r m ks ms [] x y = y
  spread-among b r m ks ms (row ∷ rows) x y = x

  iterate-among : (form : Form) (b r m : ℕ) (ks ms : List Carried) (o : Option Cause) → P b ≡ true → P r ≡ true → NextAmong (iterate form b r m ks ms o)
  iterate-among form b r m ks ms (Some c) x y = tt
  iterate-among form b r m ks ms None x y = go (are_as_long ms)
    where
      go : (long : Bool) → NextAmong (if long then spread b r m ks ms (rows_of (places_of ms) (map items ms)) else fails form cause.Size)
      go true = spread-among b r m ks ms (rows_of (places_of ms) (map items ms)) x y
      go false = tt

  follow-among : (form : Form) (ks : List Carried) (stage : Stage) (rs : List Carried) → AreAmong P (graphs_of form) → NextAmong (follow form ks stage rs)
  follow-among (LoopA i t b r n) ks stage rs h = loop-among (LoopA i t b r n) (Enter true b (ks ++ rs) (Turning (rs ∷ []))) t b r ks stage rs h.1.1.0 h.1.0 h.1.1.0 h.1.1.1.0
  follow-among (LoopB i t b r n) ks stage rs h = loop-among (LoopB i t b r n) (Enter false t (ks ++ rs) (Testing (rs ∷ []))) t b r ks stage rs h.1.0 h.1.0 h.1.1.0 h.1.1.1.0
  follow-among (ForAll g b r m n) ks Generating ms h = iterate-among (ForAll g b r m n) b r m ks ms (first_spoiled ms) h.1.0 h.1.1.0
  follow-among (Select s gs n) ks Selecting (q ∷ []) h = select-among (Select s gs n) gs ks (val_of q) h.1
  follow-among (Select s gs n) ks Selecting [] h = tt
  follow-among (Select s gs n) ks Selecting (q ∷ x ∷ rs) h = tt
  follow-among (Call g) ks Called rs h = tt
  follow-among (Select s gs n) ks Chosen rs h = tt
  follow-among (TagCase gs n) ks Chosen rs h = tt
  follow-among (ForAll g b r m n) ks Returning rs h = tt
  follow-among _ ks _ rs h = tt

  gather-among : (form : Form) (ks ms : List Carried) (lists : List (List Carried)) → AreAmong P (graphs_of form) → NextAmong (gather form ks ms lists)
  gather-among (ForAll g b r m n) ks ms lists h = h.1.1.0
  gather-among (Call g) ks ms lists h = tt
  gather-among (Select s gs n) ks ms lists h = tt
  gather-among (TagCase gs n) ks ms lists h = tt
  gather-among (LoopA i t b r n) ks ms lists h = tt
  gather-among (LoopB i t b r n) ks ms lists h = tt

  label-among : (vs : List Vertex) (l : ℕ) (x : Vertex) → at_label vs l ≡ Some x → EnterAmong P vs → EntersAmong P x.kind
  label-among [] l x e h = absurd cc
  label-among (v ∷ vs) l x e h = go (eqb v.label l) e (λ f. label-among vs l x f h.1)
    where
      go : (b : Bool) → (if b then Some v else at_label vs l) ≡ Some x → (at_label vs l ≡ Some x → EntersAmong P x.kind) → EntersAmong P x.kind
      go true f later = subst (λ (z : Vertex). EntersAmong P z.kind) (vertex-same v x f) h.0
        where
          vertex-same : (v x : Vertex) → Some v ≡ Some x → v ≡ x
          vertex-same v x f = cc
      go false f later = later f

  -- ---- what is given stays given

  module _ (u v : Network) (kept : AreKept P u v) where
    grown : (g : ℕ) → P g ≡ true → IsGrown P u v g
    grown g h = record { kept = λ l x e. subst (λ (z : Net). at_label z.nodes l ≡ Some x) (sym (kept.same g h)) e; closed = kept.closed g h }

    mutual
      carries-on : (n g : ℕ) (ins : List Carried) (o : Source) (c : Carried) → Carries u n g ins o c → IsGrown P u v g → Carries v n g ins o c
      carries-on _ _ _ _ _ (fixed n g ins c) h = fixed n g ins c
      carries-on _ _ _ _ _ (input n g ins p) h = input n g ins p
      carries-on _ _ _ _ _ (output n g ins l p x ks rs f a b) h =
          output n g ins l p x ks rs (h.kept (suc l) x f) (all-on n g ins x.ins ks a h) (outputs-on n x.kind ks rs b (label-among (u g).nodes (suc l) x f h.closed))

      all-on : (n g : ℕ) (ins : List Carried) (os : List Source) (cs : List Carried) → CarryAll u n g ins os cs → IsGrown P u v g → CarryAll v n g ins os cs
      all-on _ _ _ _ _ (no_port n g ins) h = no_port n g ins
      all-on _ _ _ _ _ (port n g ins o os c cs a b) h = port n g ins o os c cs (carries-on n g ins o c a h) (all-on n g ins os cs b h)

      outputs-on : (n : ℕ) (k : Kind) (ks rs : List Carried) → Outputs u n k ks rs → EntersAmong P k → Outputs v n k ks rs
      outputs-on _ _ _ _ (simple n row shape ks) h = simple n row shape ks
      outputs-on _ _ _ _ (whole n form ks rs a) h = whole n form ks rs (leads-on n form ks (next_of (first form ks)) rs a h (first-among form ks h))

      leads-on : (n : ℕ) (form : Form) (ks : List Carried) (next : Next) (rs : List Carried) → Leads u n form ks next rs → AreAmong P (graphs_of form) → NextAmong next → Leads v n form ks next rs
      leads-on _ _ _ _ _ (leaves n form ks rs) h x = leaves n form ks rs
      leads-on _ _ _ _ _ (enters n form ks t g ins stage ms rs d a b) h x =
          enters n form ks t g ins stage ms rs d (subst (λ (z : Net). CarryAll v n g ins z.results ms) (sym (kept.same g x)) (all-on n g ins (u g).results ms a (grown g x))) (leads-on n form ks (follow form ks stage ms) rs b h (follow-among form ks stage ms h))
      leads-on _ _ _ _ _ (enters_deeper n form ks t g ins stage ms rs d a b) h x =
          enters_deeper n form ks t g ins stage ms rs d (subst (λ (z : Net). CarryAll v n g ins z.results ms) (sym (kept.same g x)) (all-on n g ins (u g).results ms a (grown g x))) (leads-on n form ks (follow form ks stage ms) rs b h (follow-among form ks stage ms h))
      leads-on _ _ _ _ _ (iterates n form ks g row rows ms lists rs a b) h x = iterates n form ks g row rows ms lists rs (rows-on n g (row ∷ rows) lists a x) (leads-on n form ks (gather form ks ms lists) rs b h (gather-among form ks ms lists h))

      rows-on : (n g : ℕ) (rows lists : List (List Carried)) → MeanAll u n g rows lists → P g ≡ true → MeanAll v n g rows lists
      rows-on _ _ _ _ (no_row n g) x = no_row n g
      rows-on _ _ _ _ (a_row n g ins rs rows lists a b) x = a_row n g ins rs rows lists (subst (λ (z : Net). CarryAll v n g ins z.results rs) (sym (kept.same g x)) (all-on n g ins (u g).results rs a (grown g x))) (rows-on n g rows lists b x)

    means-on : (n g : ℕ) (ins rs : List Carried) → CarryAll u n g ins (u g).results rs → P g ≡ true → CarryAll v n g ins (v g).results rs
    means-on n g ins rs a x = subst (λ (z : Net). CarryAll v n g ins z.results rs) (sym (kept.same g x)) (all-on n g ins (u g).results rs a (grown g x))

    mutual
      nodes-fire-on : (n g : ℕ) (ins : List Carried) (vs : List Vertex) (c : ℕ) → NodesFire u n g ins vs c → P g ≡ true → EnterAmong P vs → NodesFire v n g ins vs c
      nodes-fire-on _ _ _ _ _ (no_node n g ins) x h = no_node n g ins
      nodes-fire-on _ _ _ _ _ (a_node n g ins w vs c d a b) x h = a_node n g ins w vs c d (inner-on n g ins w.kind w.ins c a x h.0) (nodes-fire-on n g ins vs d b x h.1)

      inner-on : (n g : ℕ) (ins : List Carried) (kind : Kind) (os : List Source) (c : ℕ) → InnerFires u n g ins kind os c → P g ≡ true → EntersAmong P kind → InnerFires v n g ins kind os c
      inner-on _ _ _ _ _ _ (of_simple n g ins row shape os) x h = of_simple n g ins row shape os
      inner-on _ _ _ _ _ _ (of_whole n g ins form os ks c a b) x h = of_whole n g ins form os ks c (all-on n g ins os ks a (grown g x)) (later-on n form ks (next_of (first form ks)) c b h (first-among form ks h))

      later-on : (n : ℕ) (form : Form) (ks : List Carried) (next : Next) (c : ℕ) → LaterFires u n form ks next c → AreAmong P (graphs_of form) → NextAmong next → LaterFires v n form ks next c
      later-on _ _ _ _ _ (of_leaving n form ks rs) h x = of_leaving n form ks rs
      later-on _ _ _ _ _ (of_graph n form ks t g ins stage ms c d p a b e) h x =
          of_graph n form ks t g ins stage ms c d p (subst (λ (z : Net). NodesFire v n g ins z.nodes c) (sym (kept.same g x)) (nodes-fire-on n g ins (u g).nodes c a x (kept.closed g x))) (means-on n g ins ms b x) (later-on n form ks (follow form ks stage ms) d e h (follow-among form ks stage ms h))
      later-on _ _ _ _ _ (of_deeper n form ks t g ins stage ms c d p a b e) h x =
          of_deeper n form ks t g ins stage ms c d p (subst (λ (z : Net). NodesFire v n g ins z.nodes c) (sym (kept.same g x)) (nodes-fire-on n g ins (u g).nodes c a x (kept.closed g x))) (means-on n g ins ms b x) (later-on n form ks (follow form ks stage ms) d e h (follow-among form ks stage ms h))
      later-on _ _ _ _ _ (of_iterations n form ks g row rows ms lists c d a b e) h x =
          of_iterations n form ks g row rows ms lists c d (rows-fire-on n g (row ∷ rows) c a x) (rows-on n g (row ∷ rows) lists b x) (later-on n form ks (gather form ks ms lists) d e h (gather-among form ks ms lists h))

      rows-fire-on : (n g : ℕ) (rows : List (List Carried)) (c : ℕ) → RowsFire u n g rows c → P g ≡ true → RowsFire v n g rows c
      rows-fire-on _ _ _ _ (of_no_row n g) x = of_no_row n g
      rows-fire-on _ _ _ _ (of_row n g ins rows c d a b) x = of_row n g ins rows c d (subst (λ (z : Net). NodesFire v n g ins z.nodes c) (sym (kept.same g x)) (nodes-fire-on n g ins (u g).nodes c a x (kept.closed g x))) (rows-fire-on n g rows d b x)

pub graphs-kept : AreGraphsKept
graphs-kept P u v kept g x =
    record {
      means = λ n ins rs a. means-on P u v kept n g ins rs a x;
      costs = λ n ins c a. subst (λ (z : Net). NodesFire v n g ins z.nodes c) (sym (kept.same g x)) (nodes-fire-on P u v kept n g ins (u g).nodes c a x (kept.closed g x));
    }

pub ports-kept : ArePortsKept
ports-kept P u v kept g grown n ins o c a = carries-on P u v kept n g ins o c a grown
