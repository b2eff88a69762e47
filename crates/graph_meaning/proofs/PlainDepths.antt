-- What a depth of calls and turns gives, every greater one gives.
use Rattle.std.proofs.Common.{◌≡◌, ℕ, zero, suc, ◌≤◌, Bool, true, false, List, ◌∷◌, refl, subst, arith}
use Rattle.graph_meaning.specs.Carried.{Carried}
use Rattle.graph_meaning.specs.Forms.{Form, Next, Stage, Enter, Leave, Iterate, next_of, first, follow, gather}
use Rattle.graph_meaning.specs.Demand.{Source, Kind, Network}
use Rattle.graph_meaning.specs.Plain.{is_deeper, Carries, fixed, input, output, CarryAll, no_port, port, Outputs, simple, whole, Leads, leaves, enters, enters_deeper, iterates, MeanAll, no_row, a_row}
use Rattle.graph_meaning.specs.Laws.{IsMeaningStable, IsNothingCalledAtZero}

module _ (u : Network) where
  deeper-enters : (n m : ℕ) → suc n ≤ m → (form : Form) (ks : List Carried) (t : Bool) (g : ℕ) (ins : List Carried) (stage : Stage) (ms rs : List Carried) → is_deeper form t ≡ true
      → ((k : ℕ) → n ≤ k → CarryAll u k g ins (u g).results ms) → ((k : ℕ) → n ≤ k → Leads u k form ks (follow form ks stage ms) rs) → Leads u m form ks (Enter t g ins stage) rs
  deeper-enters n zero le form ks t g ins stage ms rs d a b = absurd (omega (arith, le))
  deeper-enters n (suc k) le form ks t g ins stage ms rs d a b = enters_deeper k form ks t g ins stage ms rs d (a k (omega (arith, le))) (b k (omega (arith, le)))

  mutual
    carries-on : (n g : ℕ) (ins : List Carried) (o : Source) (c : Carried) → Carries u n g ins o c → (m : ℕ) → n ≤ m → Carries u m g ins o c
    carries-on _ _ _ _ _ (fixed n g ins c) m le = fixed m g ins c
    carries-on _ _ _ _ _ (input n g ins p) m le = input m g ins p
    carries-on _ _ _ _ _ (output n g ins l p v ks rs f a b) m le = output m g ins l p v ks rs f (all-on n g ins v.ins ks a m le) (outputs-on n v.kind ks rs b m le)

    pub all-on : (n g : ℕ) (ins : List Carried) (os : List Source) (cs : List Carried) → CarryAll u n g ins os cs → (m : ℕ) → n ≤ m → CarryAll u m g ins os cs
    all-on _ _ _ _ _ (no_port n g ins) m le = no_port m g ins
    all-on _ _ _ _ _ (port n g ins o os c cs a b) m le = port m g ins o os c cs (carries-on n g ins o c a m le) (all-on n g ins os cs b m le)

    pub outputs-on : (n : ℕ) (k : Kind) (ks rs : List Carried) → Outputs u n k ks rs → (m : ℕ) → n ≤ m → Outputs u m k ks rs
    outputs-on _ _ _ _ (simple n row shape ks) m le = simple m row shape ks
    outputs-on _ _ _ _ (whole n form ks rs a) m le = whole m form ks rs (leads-on n form ks (next_of (first form ks)) rs a m le)

    leads-on : (n : ℕ) (form : Form) (ks : List Carried) (next : Next) (rs : List Carried) → Leads u n form ks next rs → (m : ℕ) → n ≤ m → Leads u m form ks next rs
    leads-on _ _ _ _ _ (leaves n form ks rs) m le = leaves m form ks rs
    leads-on _ _ _ _ _ (enters n form ks t g ins stage ms rs d a b) m le = enters m form ks t g ins stage ms rs d (all-on n g ins (u g).results ms a m le) (leads-on n form ks (follow form ks stage ms) rs b m le)
    leads-on _ _ _ _ _ (enters_deeper n form ks t g ins stage ms rs d a b) m le = deeper-enters n m le form ks t g ins stage ms rs d (all-on n g ins (u g).results ms a) (leads-on n form ks (follow form ks stage ms) rs b)
    leads-on _ _ _ _ _ (iterates n form ks g row rows ms lists rs a b) m le = iterates m form ks g row rows ms lists rs (rows-on n g (row ∷ rows) lists a m le) (leads-on n form ks (gather form ks ms lists) rs b m le)

    pub rows-on : (n g : ℕ) (rows lists : List (List Carried)) → MeanAll u n g rows lists → (m : ℕ) → n ≤ m → MeanAll u m g rows lists
    rows-on _ _ _ _ (no_row n g) m le = no_row m g
    rows-on _ _ _ _ (a_row n g ins rs rows lists a b) m le = a_row m g ins rs rows lists (all-on n g ins (u g).results rs a m le) (rows-on n g rows lists b m le)

  pub plain-on : (g : ℕ) (ins rs : List Carried) (n m : ℕ) → n ≤ m → CarryAll u n g ins (u g).results rs → CarryAll u m g ins (u g).results rs
  plain-on g ins rs n m le a = all-on n g ins (u g).results rs a m le

pub plain-stable : IsMeaningStable
plain-stable u g ins rs n m le a = plain-on u g ins rs n m le a

-- at depth 0 nothing is entered as a call or a turn
nothing-deeper : (u : Network) (n : ℕ) → n ≡ 0 → (form : Form) (ks : List Carried) (next : Next) (rs : List Carried) → Leads u n form ks next rs → (t : Bool) (g : ℕ) (ins : List Carried) (stage : Stage) → next ≡ Enter t g ins stage → is_deeper form t ≡ false
nothing-deeper u _ z _ _ _ _ (leaves n form ks rs) t g ins stage e = absurd (not-left rs t g ins stage e)
  where
    not-left : (rs : List Carried) (t : Bool) (g : ℕ) (ins : List Carried) (stage : Stage) → Leave rs ≡ Enter t g ins stage → ⊥
    not-left rs t g ins stage e = cc
nothing-deeper u _ z _ _ _ _ (enters n form ks t' g' ins' stage' ms rs d a b) t g ins stage e = same t' g' ins' stage' t g ins stage e d
  where
    same : (t' : Bool) (g' : ℕ) (ins' : List Carried) (stage' : Stage) (t : Bool) (g : ℕ) (ins : List Carried) (stage : Stage) → Enter t' g' ins' stage' ≡ Enter t g ins stage → is_deeper form t' ≡ false → is_deeper form t ≡ false
    same t' g' ins' stage' t g ins stage e d = let turn : t' ≡ t = cc in subst (λ x. is_deeper form x ≡ false) turn d
nothing-deeper u _ z _ _ _ _ (enters_deeper n form ks t' g' ins' stage' ms rs d a b) t g ins stage e = absurd (omega (arith, z))
nothing-deeper u _ z _ _ _ _ (iterates n form ks g' row rows ms lists rs a b) t g ins stage e = absurd (not-iterate g' row rows ms t g ins stage e)
  where
    not-iterate : (g' : ℕ) (row : List Carried) (rows : List (List Carried)) (ms : List Carried) (t : Bool) (g : ℕ) (ins : List Carried) (stage : Stage) → Iterate g' row rows ms ≡ Enter t g ins stage → ⊥
    not-iterate g' row rows ms t g ins stage e = cc

pub nothing-at-zero : IsNothingCalledAtZero
nothing-at-zero u form ks t g ins stage rs a = nothing-deeper u 0 refl form ks (Enter t g ins stage) rs a t g ins stage refl
