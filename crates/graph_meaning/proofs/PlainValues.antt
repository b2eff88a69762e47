-- A depth of calls and turns gives the results that a depth of steps gives.
use Rattle.std.proofs.Common.{◌≡◌, ℕ, zero, suc, ◌-◌, ◌+◌, ◌≤◌, Bool, true, false, List, [], ◌∷◌, map, length, get_or, Option, Some, None, refl, sym, ap, ◌∙◌, subst, arith}
use Rattle.graph_meaning.specs.Carried.{Carried, Unfilled}
use Rattle.graph_meaning.specs.NodeValues.{op}
use Rattle.graph_meaning.specs.Forms.{Form, Next, Stage, Enter, Iterate, Leave, next_of, first, follow, gather}
use Rattle.graph_meaning.specs.Demand.{Source, Port, Fixed, Kind, Plain, Whole, Vertex, Network, Of, Rest, at_label, and_then, all, outputs, demanded, operands, graph_meaning, of_kind, of_node, leads_to, dem}
use Rattle.graph_meaning.specs.Plain.{is_deeper, Carries, fixed, input, output, CarryAll, no_port, port, Outputs, simple, whole, Leads, leaves, enters, enters_deeper, iterates, MeanAll, no_row, a_row}
use Rattle.graph_meaning.specs.Laws.{AreDepthsOfOneMeaning, AreCarriedOnce, IsMeaningOne}
use Rattle.graph_meaning.proofs.Depths.{Below, all-below, demanded-below, node-below, leads-below, dem-below}
use Rattle.graph_meaning.proofs.Settled.{far-enough}

some-same : {A : Type 0} (a b : A) → Some a ≡ Some b → a ≡ b
some-same a b e = cc

pub and-then-some : {A B : Type 0} (o : Option A) (f : A → Option B) (b : B) → and_then o f ≡ Some b → (a : A) × (o ≡ Some a) × (f a ≡ Some b)
and-then-some None f b e = absurd cc
and-then-some (Some a) f b e = (a, refl, e)

-- ---- what a depth of steps gives stands at that depth of calls and turns

module _ (u : Network) (n g : ℕ) (ins : List Carried) (d : Source → Option Carried) (h : (o : Source) (c : Carried) → d o ≡ Some c → Carries u n g ins o c) where
  carry-all : (os : List Source) (cs : List Carried) → all (map d os) ≡ Some cs → CarryAll u n g ins os cs
  carry-all [] cs e = subst (CarryAll u n g ins []) (some-same [] cs e) (no_port n g ins)
  carry-all (o ∷ os) cs e =
      let a = and-then-some (d o) (λ c. and_then (all (map d os)) (λ rest. Some (c ∷ rest))) cs e in
      let r = and-then-some (all (map d os)) (λ rest. Some (a.0 ∷ rest)) cs a.2 in
      subst (CarryAll u n g ins (o ∷ os)) (some-same (a.0 ∷ r.0) cs r.2) (port n g ins o os a.0 r.0 (h o a.0 a.1) (carry-all os r.0 r.1))

module _ (u : Network) (n : ℕ) (of : Of) (sound : (v : Vertex) (ks rs : List Carried) → of v ks ≡ Some rs → Outputs u n v.kind ks rs) where
  carried : (g : ℕ) (ins : List Carried) (far : ℕ) (o : Source) (c : Carried) → demanded of (u g).nodes ins far o ≡ Some c → Carries u n g ins o c
  carried g ins far (Fixed v) c e = subst (Carries u n g ins (Fixed v)) (some-same v c e) (fixed n g ins v)
  carried g ins far (Port zero p) c e = subst (Carries u n g ins (Port zero p)) (some-same (get_or ins (p - 1) Unfilled) c e) (input n g ins p)
  carried g ins zero (Port (suc l) p) c e = absurd cc
  carried g ins (suc far) (Port (suc l) p) c e =
      let a = and-then-some (outputs (demanded of (u g).nodes ins far) of (at_label (u g).nodes (suc l))) (λ os. Some (get_or os (p - 1) Unfilled)) c e in
      subst (Carries u n g ins (Port (suc l) p)) (some-same (get_or a.0 (p - 1) Unfilled) c a.2) (out (at_label (u g).nodes (suc l)) refl a.0 a.1 (carried g ins far))
    where
      out : (o : Option Vertex) → at_label (u g).nodes (suc l) ≡ o → (rs : List Carried) → outputs (demanded of (u g).nodes ins far) of o ≡ Some rs
          → ((o : Source) (c : Carried) → demanded of (u g).nodes ins far o ≡ Some c → Carries u n g ins o c) → Carries u n g ins (Port (suc l) p) (get_or rs (p - 1) Unfilled)
      out None f rs e k = absurd cc
      out (Some v) f rs e k =
          let b = and-then-some (all (map (demanded of (u g).nodes ins far) v.ins)) (of v) rs e in
          output n g ins l p v b.0 rs f (carry-all u n g ins (demanded of (u g).nodes ins far) k v.ins b.0 b.1) (sound v b.0 rs b.2)

  pub given-operands : (g : ℕ) (ins : List Carried) (os : List Source) (cs : List Carried) → operands of (u g) ins os ≡ Some cs → CarryAll u n g ins os cs
  given-operands g ins os cs e = carry-all u n g ins (demanded of (u g).nodes ins (length (u g).nodes)) (carried g ins (length (u g).nodes)) os cs e

  pub given-rows : (g : ℕ) (rows lists : List (List Carried)) → all (map (λ ins. graph_meaning of u ins g) rows) ≡ Some lists → MeanAll u n g rows lists
  given-rows g [] lists e = subst (MeanAll u n g []) (some-same [] lists e) (no_row n g)
  given-rows g (ins ∷ rows) lists e =
      let a = and-then-some (graph_meaning of u ins g) (λ c. and_then (all (map (λ ins. graph_meaning of u ins g) rows)) (λ rest. Some (c ∷ rest))) lists e in
      let r = and-then-some (all (map (λ ins. graph_meaning of u ins g) rows)) (λ rest. Some (a.0 ∷ rest)) lists a.2 in
      subst (MeanAll u n g (ins ∷ rows)) (some-same (a.0 ∷ r.0) lists r.2) (a_row n g ins a.0 rows r.0 (given-operands g ins (u g).results a.0 a.1) (given-rows g rows r.0 r.1))

kind-outputs : (u : Network) (n : ℕ) (r : Rest) → ((form : Form) (ks : List Carried) (next : Next) (rs : List Carried) → r form ks next ≡ Some rs → Leads u n form ks next rs)
    → (k : Kind) (ks rs : List Carried) → of_kind r k ks ≡ Some rs → Outputs u n k ks rs
kind-outputs u n r h (Plain row shape) ks rs e = subst (Outputs u n (Plain row shape) ks) (some-same (op row shape ks) rs e) (simple n row shape ks)
kind-outputs u n r h (Whole form) ks rs e = whole n form ks rs (h form ks (next_of (first form ks)) rs e)

-- what m steps lead to stands at each depth from m on
abbrev LeadsFrom : Network → ℕ → Type 0
LeadsFrom u m = (n : ℕ) → m ≤ n → (form : Form) (ks : List Carried) (next : Next) (rs : List Carried) → leads_to m u form ks next ≡ Some rs → Leads u n form ks next rs

pub node-outputs : (u : Network) (m : ℕ) → LeadsFrom u m → (n : ℕ) → m ≤ n → (v : Vertex) (ks rs : List Carried) → of_node (leads_to m u) v ks ≡ Some rs → Outputs u n v.kind ks rs
node-outputs u m h n le v ks rs e = kind-outputs u n (leads_to m u) (h n le) v.kind ks rs e

entered : (u : Network) (m : ℕ) → LeadsFrom u m → (form : Form) (ks : List Carried) (t : Bool) (g : ℕ) (ins : List Carried) (stage : Stage) (ms rs : List Carried)
    → graph_meaning (of_node (leads_to m u)) u ins g ≡ Some ms → leads_to m u form ks (follow form ks stage ms) ≡ Some rs
    → (n : ℕ) → suc m ≤ n → (b : Bool) → is_deeper form t ≡ b → Leads u n form ks (Enter t g ins stage) rs
entered u m h form ks t g ins stage ms rs e f n le false d =
    let w : m ≤ n = omega (arith, le) in
    enters n form ks t g ins stage ms rs d (given-operands u n (of_node (leads_to m u)) (node-outputs u m h n w) g ins (u g).results ms e) (h n w form ks (follow form ks stage ms) rs f)
entered u m h form ks t g ins stage ms rs e f zero le true d = absurd (omega (arith, le))
entered u m h form ks t g ins stage ms rs e f (suc n) le true d =
    let w : m ≤ n = omega (arith, le) in
    enters_deeper n form ks t g ins stage ms rs d (given-operands u n (of_node (leads_to m u)) (node-outputs u m h n w) g ins (u g).results ms e) (h n w form ks (follow form ks stage ms) rs f)

pub leads : (u : Network) (m : ℕ) → LeadsFrom u m
leads u zero n le form ks next rs e = absurd cc
leads u (suc m) n le form ks (Leave os) rs e = subst (Leads u n form ks (Leave os)) (some-same os rs e) (leaves n form ks os)
leads u (suc m) n le form ks (Enter t g ins stage) rs e =
    let a = and-then-some (graph_meaning (of_node (leads_to m u)) u ins g) (λ ms. leads_to m u form ks (follow form ks stage ms)) rs e in
    entered u m (leads u m) form ks t g ins stage a.0 rs a.1 a.2 n le (is_deeper form t) refl
leads u (suc m) n le form ks (Iterate g row rows ms) rs e =
    let w : m ≤ n = omega (arith, le) in
    let a = and-then-some (all (map (λ ins. graph_meaning (of_node (leads_to m u)) u ins g) (row ∷ rows))) (λ lists. leads_to m u form ks (gather form ks ms lists)) rs e in
    iterates n form ks g row rows ms a.0 rs (given-rows u n (of_node (leads_to m u)) (node-outputs u m (leads u m) n w) g (row ∷ rows) a.0 a.1) (leads u m n w form ks (gather form ks ms a.0) rs a.2)

pub operands-stand : (u : Network) (m n : ℕ) → m ≤ n → (g : ℕ) (ins : List Carried) (os : List Source) (cs : List Carried) → operands (of_node (leads_to m u)) (u g) ins os ≡ Some cs → CarryAll u n g ins os cs
operands-stand u m n le = given-operands u n (of_node (leads_to m u)) (node-outputs u m (leads u m) n le)

pub rows-stand : (u : Network) (m n : ℕ) → m ≤ n → (g : ℕ) (rows lists : List (List Carried)) → all (map (λ ins. dem m u g ins) rows) ≡ Some lists → MeanAll u n g rows lists
rows-stand u m n le = given-rows u n (of_node (leads_to m u)) (node-outputs u m (leads u m) n le)

-- ---- what stands at a depth of calls and turns some depth of steps gives

module _ (u : Network) where
  abbrev of_at : ℕ → Of
  of_at m = of_node (leads_to m u)

  abbrev CarriedAt : ℕ → List Carried → Source → Carried → Type 0
  CarriedAt g ins o c = (m : ℕ) × (far : ℕ) × (demanded (of_at m) (u g).nodes ins far o ≡ Some c)

  abbrev AllCarriedAt : ℕ → List Carried → List Source → List Carried → Type 0
  AllCarriedAt g ins os cs = (m : ℕ) × (far : ℕ) × (all (map (demanded (of_at m) (u g).nodes ins far) os) ≡ Some cs)

  abbrev OutputsAt : Kind → List Carried → List Carried → Type 0
  OutputsAt k ks rs = (m : ℕ) × (of_kind (leads_to m u) k ks ≡ Some rs)

  abbrev LeadsAt : Form → List Carried → Next → List Carried → Type 0
  LeadsAt form ks next rs = (m : ℕ) × (leads_to m u form ks next ≡ Some rs)

  abbrev RowsAt : ℕ → List (List Carried) → List (List Carried) → Type 0
  RowsAt g rows lists = (m : ℕ) × (all (map (λ ins. dem m u g ins) rows) ≡ Some lists)

  one-raised : (g : ℕ) (ins : List Carried) (m m' far far' : ℕ) → m ≤ m' → far ≤ far' → (o : Source) → Below (demanded (of_at m) (u g).nodes ins far o) (demanded (of_at m') (u g).nodes ins far' o)
  one-raised g ins m m' far far' le lf o = demanded-below (of_at m) (of_at m') (node-below m m' le u) (u g).nodes ins far far' lf o

  all-raised : (g : ℕ) (ins : List Carried) (m m' far far' : ℕ) → m ≤ m' → far ≤ far' → (os : List Source) → Below (all (map (demanded (of_at m) (u g).nodes ins far) os)) (all (map (demanded (of_at m') (u g).nodes ins far') os))
  all-raised g ins m m' far far' le lf os = all-below _ _ (one-raised g ins m m' far far' le lf) os

  output-at : (g : ℕ) (ins : List Carried) (l p : ℕ) (v : Vertex) (ks rs : List Carried) → at_label (u g).nodes (suc l) ≡ Some v → AllCarriedAt g ins v.ins ks → OutputsAt v.kind ks rs → CarriedAt g ins (Port (suc l) p) (get_or rs (p - 1) Unfilled)
  output-at g ins l p v ks rs f a b =
      let m = a.0 + b.0 in
      let x = all-raised g ins a.0 m a.1 a.1 (omega arith) (omega arith) v.ins ks a.2 in
      let y = node-below b.0 m (omega arith) u v ks rs b.1 in (
        m,
        suc a.1,
        ap (λ o. and_then o (λ os. Some (get_or os (p - 1) Unfilled)))
            (ap (outputs (demanded (of_at m) (u g).nodes ins a.1) (of_at m)) f ∙ (ap (λ o. and_then o (of_at m v)) x ∙ y)),
      )

  port-at : (g : ℕ) (ins : List Carried) (o : Source) (os : List Source) (c : Carried) (cs : List Carried) → CarriedAt g ins o c → AllCarriedAt g ins os cs → AllCarriedAt g ins (o ∷ os) (c ∷ cs)
  port-at g ins o os c cs a b =
      let m = a.0 + b.0 in
      let far = a.1 + b.1 in
      let x = one-raised g ins a.0 m a.1 far (omega arith) (omega arith) o c a.2 in
      let y = all-raised g ins b.0 m b.1 far (omega arith) (omega arith) os cs b.2 in (
        m,
        far,
        ap (λ x. and_then x (λ c. and_then (all (map (demanded (of_at m) (u g).nodes ins far) os)) (λ rest. Some (c ∷ rest)))) x
            ∙ ap (λ x. and_then x (λ rest. Some (c ∷ rest))) y,
      )

  -- edges end within the graph
  closed : (g : ℕ) (ins : List Carried) (os : List Source) (cs : List Carried) → AllCarriedAt g ins os cs → (m : ℕ) × (operands (of_at m) (u g) ins os ≡ Some cs)
  closed g ins os cs a = (a.0, all-below _ _ (far-enough (of_at a.0) (u g).nodes ins a.1) os cs a.2)

  enter-at : (form : Form) (ks : List Carried) (t : Bool) (g : ℕ) (ins : List Carried) (stage : Stage) (ms rs : List Carried) → AllCarriedAt g ins (u g).results ms → LeadsAt form ks (follow form ks stage ms) rs → LeadsAt form ks (Enter t g ins stage) rs
  enter-at form ks t g ins stage ms rs a b =
      let c = closed g ins (u g).results ms a in
      let m = c.0 + b.0 in
      let x = dem-below c.0 m (omega arith) u g ins ms c.1 in
      let y = leads-below b.0 m (omega arith) u form ks (follow form ks stage ms) rs b.1 in
      (suc m, ap (λ o. and_then o (λ rs. leads_to m u form ks (follow form ks stage rs))) x ∙ y)

  iterate-at : (form : Form) (ks : List Carried) (g : ℕ) (row : List Carried) (rows : List (List Carried)) (ms : List Carried) (lists : List (List Carried)) (rs : List Carried) → RowsAt g (row ∷ rows) lists → LeadsAt form ks (gather form ks ms lists) rs → LeadsAt form ks (Iterate g row rows ms) rs
  iterate-at form ks g row rows ms lists rs a b =
      let m = a.0 + b.0 in
      let x = all-below (λ ins. dem a.0 u g ins) (λ ins. dem m u g ins) (dem-below a.0 m (omega arith) u g) (row ∷ rows) lists a.1 in
      let y = leads-below b.0 m (omega arith) u form ks (gather form ks ms lists) rs b.1 in
      (suc m, ap (λ o. and_then o (λ rs. leads_to m u form ks (gather form ks ms rs))) x ∙ y)

  row-at : (g : ℕ) (ins rs : List Carried) (rows lists : List (List Carried)) → AllCarriedAt g ins (u g).results rs → RowsAt g rows lists → RowsAt g (ins ∷ rows) (rs ∷ lists)
  row-at g ins rs rows lists a b =
      let c = closed g ins (u g).results rs a in
      let m = c.0 + b.0 in
      let x = dem-below c.0 m (omega arith) u g ins rs c.1 in
      let y = all-below (λ ins. dem b.0 u g ins) (λ ins. dem m u g ins) (dem-below b.0 m (omega arith) u g) rows lists b.1 in
      (m, ap (λ x. and_then x (λ c. and_then (all (map (λ ins. dem m u g ins) rows)) (λ rest. Some (c ∷ rest)))) x ∙ ap (λ x. and_then x (λ rest. Some (rs ∷ rest))) y)

  mutual
    carries-at : (n g : ℕ) (ins : List Carried) (o : Source) (c : Carried) → Carries u n g ins o c → CarriedAt g ins o c
    carries-at _ _ _ _ _ (fixed n g ins c) = (0, 0, refl)
    carries-at _ _ _ _ _ (input n g ins p) = (0, 0, refl)
    carries-at _ _ _ _ _ (output n g ins l p v ks rs f a b) = output-at g ins l p v ks rs f (all-at n g ins v.ins ks a) (outputs-at n v.kind ks rs b)

    all-at : (n g : ℕ) (ins : List Carried) (os : List Source) (cs : List Carried) → CarryAll u n g ins os cs → AllCarriedAt g ins os cs
    all-at _ _ _ _ _ (no_port n g ins) = (0, 0, refl)
    all-at _ _ _ _ _ (port n g ins o os c cs a b) = port-at g ins o os c cs (carries-at n g ins o c a) (all-at n g ins os cs b)

    pub outputs-at : (n : ℕ) (k : Kind) (ks rs : List Carried) → Outputs u n k ks rs → OutputsAt k ks rs
    outputs-at _ _ _ _ (simple n row shape ks) = (0, refl)
    outputs-at _ _ _ _ (whole n form ks rs a) = leads-at n form ks (next_of (first form ks)) rs a

    leads-at : (n : ℕ) (form : Form) (ks : List Carried) (next : Next) (rs : List Carried) → Leads u n form ks next rs → LeadsAt form ks next rs
    leads-at _ _ _ _ _ (leaves n form ks rs) = (1, refl)
    leads-at _ _ _ _ _ (enters n form ks t g ins stage ms rs d a b) = enter-at form ks t g ins stage ms rs (all-at n g ins (u g).results ms a) (leads-at n form ks (follow form ks stage ms) rs b)
    leads-at _ _ _ _ _ (enters_deeper n form ks t g ins stage ms rs d a b) = enter-at form ks t g ins stage ms rs (all-at n g ins (u g).results ms a) (leads-at n form ks (follow form ks stage ms) rs b)
    leads-at _ _ _ _ _ (iterates n form ks g row rows ms lists rs a b) = iterate-at form ks g row rows ms lists rs (rows-at n g (row ∷ rows) lists a) (leads-at n form ks (gather form ks ms lists) rs b)

    rows-at : (n g : ℕ) (rows lists : List (List Carried)) → MeanAll u n g rows lists → RowsAt g rows lists
    rows-at _ _ _ _ (no_row n g) = (0, refl)
    rows-at _ _ _ _ (a_row n g ins rs rows lists a b) = row-at g ins rs rows lists (all-at n g ins (u g).results rs a) (rows-at n g rows lists b)

  pub operands-given : (n g : ℕ) (ins : List Carried) (os : List Source) (cs : List Carried) → CarryAll u n g ins os cs → (m : ℕ) × (operands (of_at m) (u g) ins os ≡ Some cs)
  operands-given n g ins os cs a = closed g ins os cs (all-at n g ins os cs a)

  pub rows-given : (n g : ℕ) (rows lists : List (List Carried)) → MeanAll u n g rows lists → RowsAt g rows lists
  rows-given n g rows lists a = rows-at n g rows lists a

pub plain-values : AreDepthsOfOneMeaning
plain-values u g ins rs = (
  λ k. operands-given u k.0 g ins (u g).results rs k.1,
  λ k. (k.0, operands-stand u k.0 k.0 (omega arith) g ins (u g).results rs k.1),
)

pub carried-once : AreCarriedOnce
carried-once u g ins os cs others n m a b =
    let x = operands-given u n g ins os cs a in
    let y = operands-given u m g ins os others b in
    let d = x.0 + y.0 in
    let far = length (u g).nodes in
    some-same cs others (sym (all-raised u g ins x.0 d far far (omega arith) (omega arith) os cs x.1) ∙ all-raised u g ins y.0 d far far (omega arith) (omega arith) os others y.1)

pub one-meaning : IsMeaningOne
one-meaning u g ins rs other n m a b = carried-once u g ins (u g).results rs other n m a b
