-- What is taken is owned inside.
use Rattle.std.proofs.Common.{◌≡◌, ◌≢◌, ℕ, zero, suc, ◌-◌, ◌<◌, Bool, true, false, ◌&&◌, if◌then◌else◌, List, [], ◌∷◌, All, get_or, length, slice_get, Some, None, refl, sym, ap, ◌∙◌, subst, arith}
use Rattle.std.proofs.lemmas.List.Elements.{All-contains}
use Rattle.if1_graph.specs.declared.graph.Graph.{Graph}
use Rattle.if1_graph.specs.declared.graph.Graph.TheViews.{out-Graph}
use Rattle.if1_graph.specs.declared.graph.Node.{Node, out-Node}
use Rattle.if1_graph.specs.declared.graph.Unit1.{Unit1}
use Rattle.if1_graph.specs.declared.op.Compound.{Compound}
use Rattle.if1_graph.specs.declared.op.Compound.TheVariants as compound
use Rattle.if1_graph.specs.declared.op.Part.{Part}
use Rattle.if1_graph.specs.declared.op.Part.TheVariants as part
use Rattle.if1_graph.specs.Ops.{compound_at, simple_at}
use Rattle.if1_graph.specs.Parts.{part_at}
use Rattle.if1_graph.specs.Ports.{part_of}
use Rattle.if1_graph.specs.Tables.{◌>>=◌}
use Rattle.if1_graph.specs.Units.{node_at, label_of, places}
use Rattle.if1_marks.specs.Aggregates.{is_aggregate}
use Rattle.if1_marks.specs.Given.{is_call, is_call_as, called, is_used_inside, is_given_inside, is_given_to_called, is_consumed_by, consumes_node, consumes}
use Rattle.if1_marks.specs.Owned.{is_owned_in, is_owned_as}
use Rattle.if1_marks.specs.Laws.{IsGivenAtFirst}
use Rattle.if1_marks.specs.Sound.{IsTakerRight, AreMarksRight}
use Rattle.if1_marks.proofs.Consumed.{consumed-where-given}
use Rattle.run_events.specs.Owning.{AreAllTakenOwned}

pub and-right : (a b : Bool) → a && b ≡ true → b ≡ true
and-right true b e = e
and-right false b e = absurd (clash e)
  where
    clash : false ≡ true → ⊥
    clash e = cc

pub true-not-false : {P : Type 0} (b : Bool) → b ≡ true → b ≡ false → P
true-not-false b x y = absurd (clash (sym x ∙ y))
  where
    clash : true ≡ false → ⊥
    clash e = cc

none-some : {A P : Type 0} (a : A) → None ≡ Some a → P
none-some a e = absurd (clash e)
  where
    clash : None ≡ Some a → ⊥
    clash e = cc

pub same : {A : Type 0} (a b : A) → Some a ≡ Some b → a ≡ b
same a b e = cc

-- what holds of all graphs holds of the one at a place
place-in : (gs : List Graph) (k : ℕ) (g : Graph) → slice_get gs k ≡ Some g → k < length gs
place-in [] k g e = none-some g e
place-in (x ∷ gs) zero g e = omega arith
place-in (x ∷ gs) (suc k) g e = let a = place-in gs k g e in omega (arith, a)

place-get : (gs : List Graph) (k : ℕ) (g d : Graph) → slice_get gs k ≡ Some g → get_or gs k d ≡ g
place-get [] k g d e = none-some g e
place-get (x ∷ gs) zero g d e = same x g e
place-get (x ∷ gs) (suc k) g d e = place-get gs k g d e

pub all-at : (P : Graph → Type 0) (gs : List Graph) → All P gs → (k : ℕ) (g : Graph) → slice_get gs k ≡ Some g → P g
all-at P gs h k g e = subst P (place-get gs k g g e) (h k g (place-in gs k g e))

-- an edge that takes leads to where its node consumes
pub node-consumes : (u : Unit1) (g : Graph) (m : ℕ) (n : Node) (port : ℕ) → m ≢ 0 → node_at (out-Graph g).nodes m ≡ Some n → consumes u g m port ≡ true → consumes_node u g (Some n) port ≡ true
node-consumes u g zero n port ne at e = absurd (ne refl)
node-consumes u g (suc l) n port ne at e = sym (ap (λ o. consumes_node u g o port) at) ∙ e

module _ (u : Unit1) (outer : Graph) (n : Node) (g : Graph) (port : ℕ) (used : is_used_inside g port ≡ true) (consumed : is_consumed_by u n port ≡ true) where
  -- a graph of a loop behind the first is not used where the first is given
  not-later : IsGivenAtFirst u (out-Node n).subs port → {P : Type 0} (k : ℕ) → slice_get (out-Node n).subs (suc k) ≡ Some g → P
  not-later given k at =
      let there : slice_get given.others k ≡ Some g = sym (ap (λ gs. slice_get gs (suc k)) given.are) ∙ at in
      true-not-false (is_used_inside g port) used (all-at (λ z. is_used_inside z port ≡ false) given.others given.unused k g there)

  loop-owned : (c : Compound) → IsGivenAtFirst u (out-Node n).subs port → (k : ℕ) (x : Part) → part_at compound.LoopA k ≡ Some x → slice_get (out-Node n).subs k ≡ Some g → is_owned_in u outer n g c x port ≡ true
  loop-owned c given zero x e at = subst (λ z. is_owned_in u outer n g c z port ≡ true) (same part.Initialization x e) consumed
  loop-owned c given (suc k) x e at = not-later given k at

  part-owned : (c : Compound) (k : ℕ) (x : Part) → compound_at (out-Node n).op ≡ Some c → part_at c k ≡ Some x → x ≢ part.Selector → slice_get (out-Node n).subs k ≡ Some g → is_owned_in u outer n g c x port ≡ true
  part-owned compound.Select zero x is e ne at = absurd (ne (sym (same part.Selector x e)))
  part-owned compound.Select (suc k) x is e ne at = subst (λ z. is_owned_in u outer n g compound.Select z port ≡ true) (same part.Alternative x e) consumed
  part-owned compound.TagCase k x is e ne at = subst (λ z. is_owned_in u outer n g compound.TagCase z port ≡ true) (same part.Arm x e) consumed
  part-owned compound.LoopA k x is e ne at = loop-owned compound.LoopA ((consumed-where-given u n compound.LoopA port is).0 consumed) k x e at
  part-owned compound.LoopB k x is e ne at = loop-owned compound.LoopB ((consumed-where-given u n compound.LoopB port is).0 consumed) k x e at
  part-owned compound.ForAll k x is e ne at = absurd ((consumed-where-given u n compound.ForAll port is).0 consumed)

pub taken-owned : AreAllTakenOwned
taken-owned u p e n sound there in-edges takes ne at =
    let right = All-contains (AreMarksRight u) (places u) p sound there in
    let taker = All-contains (λ z. z.takes ≡ true → IsTakerRight u p z) (out-Graph p.graph).edges e right.takers in-edges takes in
    let eats = node-consumes u p.graph e.node n e.port ne at (and-right (is_aggregate u.types e.ty) (consumes u p.graph e.node e.port) taker.may.0) in
    record { by_function = λ f k is-a-call names. in-function eats f is-a-call names; by_part = λ c k x g is part-is not-selector sub used. in-part eats c k x g is part-is not-selector sub used }
  where
    in-function : consumes_node u p.graph (Some n) e.port ≡ true → (f : Graph) → is_call n ≡ true → called u p.graph (label_of n) ≡ Some f → is_given_inside u f (e.port - 1) ≡ true
    in-function eats f is-a-call names =
        sym (ap (λ o. is_given_to_called u o e.port) names)
        ∙ (sym (ap (λ b. if b then is_given_to_called u (called u p.graph (label_of n)) e.port else is_consumed_by u n e.port) is-a-call) ∙ eats)

    in-part : consumes_node u p.graph (Some n) e.port ≡ true → (c : Compound) (k : ℕ) (x : Part) (g : Graph) → compound_at (out-Node n).op ≡ Some c → part_at c k ≡ Some x → x ≢ part.Selector → slice_get (out-Node n).subs k ≡ Some g
        → is_used_inside g e.port ≡ true → is_owned_as u p.graph n g (part_of n k) e.port ≡ true
    in-part eats c k x g is part-is not-selector sub used =
        let no-call : is_call n ≡ false = ap (λ o. is_call_as o (simple_at (out-Node n).op)) is in
        let consumed : is_consumed_by u n e.port ≡ true = sym (ap (λ b. if b then is_given_to_called u (called u p.graph (label_of n)) e.port else is_consumed_by u n e.port) no-call) ∙ eats in
        let which : part_of n k ≡ Some (c, x) = ap (λ o. o >>= λ d. part_at d k >>= λ y. Some (d, y)) is ∙ ap (λ o. o >>= λ y. Some (c, y)) part-is in
        ap (λ o. is_owned_as u p.graph n g o e.port) which ∙ part-owned u p.graph n g e.port used consumed c k x is part-is not-selector sub
