-- What is kept at the beginning, and what a claim finds.
use Rattle.std.proofs.Common.{◌≡◌, ◌≢◌, ℕ, zero, suc, true, List, Contains, Some, None, sym, ap, ◌∙◌, subst}
use native.Mathlib.Decide.{ℕ_discrete}
use Rattle.if1_graph.specs.declared.graph.Edge.{Edge}
use Rattle.if1_graph.specs.declared.graph.Graph.TheViews.{out-Graph}
use Rattle.if1_graph.specs.declared.graph.Origin.TheVariants as origin
use Rattle.if1_graph.specs.declared.graph.Unit1.{Unit1}
use Rattle.if1_graph.specs.Ready.{IsReady}
use Rattle.if1_marks.specs.Sound.{IsSound}
use Rattle.graph_meaning.specs.Carried.{Carried}
use Rattle.graph_meaning.specs.Demand.{Cut, IsCut}
use Rattle.graph_meaning.specs.Entered.{IsIn}
use Rattle.graph_meaning.specs.Histories.{History}
use Rattle.graph_meaning.specs.Laws.{run_of}
use Rattle.graph_meaning.specs.Networks.{network}
use Rattle.run_states.specs.Standing.{Waiting, Done, Live, Table, put}
use Rattle.run_states.specs.Storing.{Cell, Port}
use Rattle.run_states.specs.Runs.{RunStands}
use Rattle.run_states.specs.Waiting.{HasBegun}
use Rattle.run_states.proofs.Lookups.{put-same, put-other, some-same}
use Rattle.run_events.specs.Marked.{IsMarkedStore}
use Rattle.run_events.proofs.Carrying.{ports-kept}
use Rattle.run_events.proofs.Marked.{takers-alone}
use Rattle.run_events.specs.Hands.{HandsStand}
use Rattle.run_events.proofs.Hands.{hands-begin}
use Rattle.run_events.specs.There.{IsGiven, WasTaken}
use Rattle.run_events.proofs.There.{operands-there}
use Rattle.run_events.proofs.Scattered.{takers-free}
use Rattle.run_events.specs.Kept.{Keeping, IsAtHome, KeptStands}
use Rattle.run_events.specs.Served.{DoesKeepingBegin, IsServed, AreClaimsServed, AreAllClaimsServed}
use Rattle.run_events.proofs.Events.{no-key}

waiting-done : {P : Type 0} → Waiting ≡ Done → P
waiting-done e = absurd (clash e)
  where
    clash : Waiting ≡ Done → ⊥
    clash e = cc

-- ---- the beginning

module _ (x : Live) where
  only : (P : ℕ → Live → Type 0) → P 0 x → (f : ℕ) (y : Live) → put (λ f. None) 0 (Some x) f ≡ Some y → P f y
  only P own f y is = go (ℕ_discrete f 0)
    where
      none-some : None ≡ Some y → ⊥
      none-some e = cc

      go : Dec (f ≡ 0) → P f y
      go (yes e) =
          let live : x ≡ y = some-same x y (sym (ap (put (λ f. None) 0 (Some x)) e ∙ put-same (λ f. None) 0 (Some x)) ∙ is) in
          subst (λ z. P z y) (sym e) (subst (P 0) live own)
      go (no ne) = absurd (none-some (sym (put-other (λ f. None) 0 (Some x) f ne) ∙ is))

pub keeping-begins : DoesKeepingBegin
keeping-begins cut u g ins x k b =
    record {
      hands = subst (HandsStand (put (λ f. None) 0 (Some x)) k.stores) (sym b.hands) (hands-begin k.stores x b.own);
      homes = only x (λ f y. IsAtHome cut u y (k.homes f)) b.home;
      marked = only x (λ f y. IsMarkedStore u (k.homes f) (k.stores f)) b.marked;
      there = λ f y a is want given taken. only x (λ f y. (a : Port) → k.wanted f a ≡ true → IsGiven y a → (c : Cell) × ((k.stores f).cell a ≡ Some c)) first f y is a want given;
      right = (ports-kept (network u) g ins).begun k.pool k.unions k.stores x b.path b.told;
      lent =
          record {
            to_slices = λ f y l key is i t. no-key key (k.lent.to_slices f l) (b.lent f l).0 t;
            scattered = λ f y l key is i w t. no-key key (k.lent.scattered f l) (b.lent f l).1 t;
          };
      idle = λ f y l is i out. b.lent f l;
    }
  where
    first : (a : Port) → k.wanted 0 a ≡ true → IsGiven x a → (c : Cell) × ((k.stores 0).cell a ≡ Some c)
    first (zero, i) want given = b.filled i want
    first (suc m, i) want given = waiting-done (sym (b.waiting (suc m)) ∙ given)

-- ---- a claim

module _ (cut : Cut) (u : Unit1) (g : ℕ) (ins : List Carried) (limit : ℕ) (h : History) (table : Table) (root f : ℕ) (x : Live) (k : Keeping) (is-cut : IsCut cut) (ready : IsReady u) (sound : IsSound u) (stands : RunStands (run_of cut (network u) g ins) limit h table root)
    (st : KeptStands cut u g ins table k) (at : table f ≡ Some x) (e : Edge) (a : Port) (in-edges : Contains (out-Graph (k.homes f).graph).edges e) (from : e.from ≡ origin.Port a.0 a.1) (want : k.wanted f a ≡ true)
  where
    home : IsAtHome cut u x (k.homes f)
    home = st.homes f x at

    served : IsGiven x a × ¬ WasTaken (k.homes f) x a → (e.node ≢ 0 → IsIn e.node x.labels × HasBegun x e.node) → IsServed u g ins table k f x e a
    served given begun =
        let c = st.there f x a at want given.0 given.1 in
        let r = st.right f x a c.0 at c.1 in
        record {
          cell = c.0;
          there = c.1;
          carried = r.0;
          told = r.1;
          right = r.2;
          alone = λ takes ne.
              let b = begun ne in
              takers-alone cut u g ins home.1.0 limit h table root f x k.stores (k.homes f) is-cut ready sound stands at home.0 home.1.1 (st.marked f x at).reads e a in-edges takes from ne b.0 b.1;
          owned = λ key takes ne is.
              let b = begun ne in
              takers-free cut u g ins home.1.0 limit h table root f x k.stores k.hands k.homes k.lent is-cut ready sound stands st.hands st.lent at home.0 home.1.1 (st.marked f x at) e a key in-edges takes from ne b.0 b.1 (c.1 ∙ ap (λ z. Some z) is);
        }

    claims-served-here : AreClaimsServed cut u g ins table k f x e a
    claims-served-here =
        let ends = operands-there cut u g ins home.1.0 limit h table root f x (k.homes f) is-cut ready sound stands at home.0 home.1.1 e a in-edges from in
        record {
          of_node = λ ne in-x waiting begun. served (ends.of_node ne in-x waiting begun) (λ q. (in-x, begun));
          of_result = λ z all s. served (ends.of_result z all s) (λ ne. absurd (ne z));
        }

pub claims-served : AreAllClaimsServed
claims-served cut u g ins limit h table root f x k is-cut ready sound stands st at e a in-edges from want =
    claims-served-here cut u g ins limit h table root f x k is-cut ready sound stands st at e a in-edges from want
