-- What the marks of a unit say of the places where aggregates are kept.
use Rattle.std.proofs.Common.{◌≡◌, ℕ, true, false, List, All, inl, inr, refl, sym, ap, ◌∙◌, subst}
use Rattle.std.proofs.lemmas.List.Elements.{All-contains}
use Rattle.if1_graph.specs.declared.graph.Edge.{Edge}
use Rattle.if1_graph.specs.Formed.{IsGraph}
use Rattle.if1_graph.specs.Ports.{ArePortsRight}
use Rattle.if1_graph.specs.Units.{places, number_of, ends}
use Rattle.if1_graph.specs.declared.graph.Graph.TheViews.{out-Graph}
use Rattle.if1_marks.specs.Owned.{is_owned}
use Rattle.if1_marks.specs.Sound.{IsTakerRight, AreMarksRight}
use Rattle.if1_marks.proofs.Taken.{taker-last}
use Rattle.graph_meaning.specs.Carried.{Carried}
use Rattle.graph_meaning.specs.Demand.{Net, Network, Cut, WaitsFor, straight, through}
use Rattle.graph_meaning.specs.Entered.{IsIn}
use Rattle.graph_meaning.specs.Histories.{is_claimed, is_made}
use Rattle.graph_meaning.specs.Laws.{run_of}
use Rattle.graph_meaning.specs.Networks.{network}
use Rattle.graph_meaning.proofs.Numbers.{found-by-number}
use Rattle.graph_meaning.proofs.UnitWaits.{waits as unit-waits}
use Rattle.run_states.specs.Standing.{State, Done, Live}
use Rattle.run_states.specs.Storing.{Kept, Owning, Owned, Lent, IsAtWork}
use Rattle.run_states.specs.Moving.{IsInput}
use Rattle.run_states.specs.Graphs.{IsGraphOf}
use Rattle.run_states.specs.Waiting.{WaitsIn, straight as waits_straight, through as waits_through}
use Rattle.run_states.proofs.Leasing.{none-leased}
use Rattle.run_states.proofs.Users.{users-done}
use Rattle.run_events.specs.Marked.{AreTakersAlone, DoTakersLeaseNothing, AreEmptiedUnowned, AreInputsMarked}
use Rattle.run_events.proofs.Carrying.{none-some, this-port}

-- ---- who reads

module _ (cut : Cut) (u : Network) (k : ℕ) (is : List Carried) (x : Live) (graph : IsGraphOf cut u k is x) where
  -- what a node waits for in its graph it waits for in the live one
  pub waits-in : {l n : ℕ} → WaitsFor (u k).nodes l n → WaitsIn x l n
  waits-in {l = l} {n = n} (straight i) = waits_straight (subst (λ w. IsIn n (w l)) (sym graph.waits) i)
  waits-in (through a b) = waits_through (waits-in a) (waits-in b)

not-both : (e f : Edge) → e.takes ≡ true → f.takes ≡ false → f ≡ e → ⊥
not-both e f a b q = clash (sym a ∙ (sym (ap (λ z. z.takes) q) ∙ b))
  where
    clash : true ≡ false → ⊥
    clash e = cc

not-working : (s : State) → s ≡ Done → IsAtWork s → ⊥
not-working s e w = subst IsAtWork e w

pub takers-alone : AreTakersAlone
takers-alone cut u g ins is limit h table root f x stores p is-cut ready sound stands at there graph reads e a in-edges takes from not-0 in-x begun l in-l read =
    let r = reads.only l a read in
    let before = (taker-last u p e r.edge sound there in-edges r.there takes (r.from ∙ sym from) (not-both e r.edge takes r.takes) not-0).0 in
    let waits-for = unit-waits u p (All-contains (IsGraph u) (places u) p ready.formed.graphs there)
    (All-contains (λ p. All (ArePortsRight u p) (ends p.graph)) (places u) p ready.ports there) before in
    let here = subst (λ (net : Net). WaitsFor net.nodes e.node r.edge.node) (sym (found-by-number u ready.formed p there)) waits-for in
    let done = users-done (run_of cut (network u) g ins) limit h table root f e.node r.edge.node x stands at in-x begun (waits-in cut (network u) (number_of p) is x graph here) in
    not-working (x.states l) (ap x.states (sym r.node) ∙ done)

pub takers-lease-nothing : DoTakersLeaseNothing
takers-lease-nothing cut u g ins is limit h table root f x stores p is-cut ready sound stands stand at there graph marked e a key in-edges takes from not-0 in-x begun cell =
    let right = All-contains (AreMarksRight u) (places u) p sound there in
    let taker = All-contains (λ e. e.takes ≡ true → IsTakerRight u p e) (out-Graph p.graph).edges e right.takers in-edges takes in
    let own = marked.owned a (subst (λ o. is_owned u p o ≡ true) from taker.may.1) in
    let alone = takers-alone cut u g ins is limit h table root f x stores p is-cut ready sound stands at there graph marked.reads e a in-edges takes from not-0 in-x begun in
    (own, none-leased (run_of cut (network u) g ins) (is_claimed h) (is_made h) table root stores f x a key stands.stands stand at cell own alone)

-- ---- what was taken

pub emptied-unowned : AreEmptiedUnowned
emptied-unowned table stores others f x a key stands differ at full owned empty g y b there kept own = go (this-port f g a b)
  where
    go : Dec ((g ≡ f) × (b ≡ a)) → ⊥
    go (yes q) = none-some (Kept key) (sym empty ∙ (sym (ap (λ z. (others z).cell b) q.0 ∙ ap (others f).cell q.1) ∙ kept))
    go (no n) = n (stands.one_owner g f y x b a key there at (sym (differ.cells g b n).0 ∙ kept) full (sym (differ.cells g b n).1 ∙ own) owned)

-- ---- what is entered with

pub inputs-marked : AreInputsMarked
inputs-marked p table stores f l store reads entered a key kept = go (store.owning a) refl
  where
    go : (o : Owning) → store.owning a ≡ o → IsInput table stores f l store a key
    go Owned e = let w = entered.owned a key kept e in inl (e, w.0, w.1)
    go Lent e = let w = entered.lent a key kept e in inr (e, (w.0, reads.all l w.0 w.1, w.2))
