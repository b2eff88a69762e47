-- No lease is out of what is taken, of a node, a slice or an AScatter.
use Rattle.std.proofs.Common.{◌≡◌, ℕ, zero, suc, ◌+◌, ◌*◌, eqb, if◌then◌else◌, Bool, true, false, List, [], ◌∷◌, ◌⊎◌, inl, inr, Option, Some, None, refl, sym, ap, ◌∙◌, subst, arith}
use Rattle.std.proofs.lemmas.Bool.{eqb-true}
use Rattle.graph_meaning.specs.Entered.{Item, Slice, IsIn}
use Rattle.graph_meaning.specs.Histories.{Run, is_item, is_yes, dec_item}
use Rattle.run_states.specs.Standing.{Test, Status, Open, Taken, Finished, Opens, State, Waiting, Claimed, Within, GoingOn, Done, Stands, Live, Table, TableStands, mark}
use Rattle.run_states.specs.Storing.{Kept, Port, Owned, Store, IsAtWork, NoReader}
use Rattle.run_states.specs.Leasing.{is_at_work, one_if, ports_with, node_leases, nodes_lease, graph_leases, leases}
use Rattle.run_states.proofs.Leasing.{no-sum, same-sum, by-work, none-with}
use Rattle.run_states.proofs.Taking.{no-holder}
use Rattle.run_events.specs.Scattering.{Takers}
use Rattle.run_events.proofs.Scattering.{none-scattered}
use Rattle.run_events.specs.Hands.{Hands, HasInHand, HandsStand}
use Rattle.run_events.specs.Sums.{nodes_sum, graph_sum, table_sum}
use Rattle.run_events.specs.Leases.{is_out, slices_in, slices_out, Lent, times, IsKeyIn, slice_leases, scattered_leases, all_of_node, all_leases, IsLent, IsNothingOut, AreLeasesOfNodes, StandOnce, AreAllSlicesCounted}
use Rattle.run_events.proofs.Sums.{nodes-none, nodes-same}

-- ---- numbers

times-zero : (a : ℕ) → a * 0 ≡ 0
times-zero a = omega arith

zero-times : (b : ℕ) → 0 * b ≡ 0
zero-times b = omega arith

no-product : (a b : ℕ) → b ≡ 0 → a * b ≡ 0
no-product a b e = ap (λ z. a * z) e ∙ times-zero a

none-times : (a b : ℕ) → a ≡ 0 → a * b ≡ 0
none-times a b e = ap (λ z. z * b) e ∙ zero-times b

no-times : (key : ℕ) (ks : List ℕ) → ¬ IsKeyIn key ks → times key ks ≡ 0
no-times key [] n = refl
no-times key (k ∷ ks) n = no-sum (one_if (eqb k key)) (times key ks) (go (eqb k key) (eqb-true k key)) (no-times key ks (λ i. n (inr i)))
  where
    go : (b : Bool) → (b ≡ true → k ≡ key) → one_if b ≡ 0
    go true t = absurd (n (inl (sym (t refl))))
    go false t = refl

-- what is counted of nodes at work alone
if-work : (n : ℕ) (s : State) → (IsAtWork s → n ≡ 0) → (if is_at_work s then n else 0) ≡ 0
if-work n Waiting h = refl
if-work n Claimed h = h tt
if-work n (Within k g) h = h tt
if-work n (GoingOn k os) h = h tt
if-work n Done h = refl

by-slices : (n : ℕ) (s : State) → (IsAtWork s → n ≡ 0) → slices_out s * n ≡ 0
by-slices n Waiting h = zero-times n
by-slices n Claimed h = zero-times n
by-slices n (Within k g) h = zero-times n
by-slices n (GoingOn k os) h = no-product (slices_in os) n (h tt)
by-slices n Done h = zero-times n

-- ---- nothing is out

module _ (run : Run) (c m : Test) (table : Table) (root : ℕ) (stores : ℕ → Store) (hands : Hands) (takers : Takers) (lent : Lent) (f : ℕ) (x : Live) (a : Port) (key : ℕ) (stands : TableStands run c m table root) (st : HandsStand table stores hands)
    (is-lent : IsLent table stores hands takers lent) (at : table f ≡ Some x) (cell : (stores f).cell a ≡ Some (Kept key)) (own : (stores f).owning a ≡ Owned) (takes : takers f a ≡ true) (none : NoReader table stores f x a)
  where
    module _ (g : ℕ) (y : Live) (there : table g ≡ Some y) (l : ℕ) (inside : IsIn l y.labels) where
      no-ports : IsAtWork (y.states l) → ports_with key (stores g) ((stores g).reads l) ≡ 0
      no-ports work =
          none-with key (stores g) ((stores g).reads l)
          (λ b r e. no-holder run c m table root stands stores st.ports f x at a key cell own none g y there l (record { inside = inside; work = work; port = b; reads = r; kept = e }))

      not-scattered : IsAtWork (y.states l) → ¬ IsKeyIn key (lent.scattered g l)
      not-scattered work i =
          none-scattered run c m table root stores takers f x a key stands st.ports at cell own takes none g y l there (is-lent.scattered g y l key there inside work i)

      not-sliced : IsAtWork (y.states l) → ¬ IsKeyIn key (lent.to_slices g l)
      not-sliced work i = go (is-lent.to_slices g y l key there inside i)
        where
          go : ((j : ℕ × ℕ) × HasInHand table hands g l j key) ⊎ IsKeyIn key (lent.scattered g l) → ⊥
          go (inl h) = st.unowned g l h.0 key h.1 f x a at cell own
          go (inr k) = not-scattered work k

      node-none : all_of_node key stores lent g y l ≡ 0
      node-none =
          no-sum (node_leases key (stores g) y l) (slice_leases key stores lent g y l + scattered_leases key lent g y l) (by-work key (stores g) ((stores g).reads l) (y.states l) no-ports)
          (no-sum (slice_leases key stores lent g y l) (scattered_leases key lent g y l)
          (by-slices (ports_with key (stores g) ((stores g).reads l) + times key (lent.to_slices g l)) (y.states l)
          (λ work. no-sum (ports_with key (stores g) ((stores g).reads l)) (times key (lent.to_slices g l)) (no-ports work) (no-times key (lent.to_slices g l) (not-sliced work))))
          (if-work (times key (lent.scattered g l)) (y.states l) (λ work. no-times key (lent.scattered g l) (not-scattered work))))

    nothing : (n : ℕ) → all_leases key table stores lent n ≡ 0
    nothing zero = refl
    nothing (suc n) = no-sum (table_sum (all_of_node key stores lent) table n) (graph_sum (all_of_node key stores lent n) (table n)) (nothing n) (go (table n) refl)
      where
        go : (o : Option Live) → table n ≡ o → graph_sum (all_of_node key stores lent n) o ≡ 0
        go None is = refl
        go (Some y) is = nodes-none (all_of_node key stores lent n y) y.labels (λ l i. node-none n y is l i)

pub nothing-out : IsNothingOut
nothing-out run c m table root stores hands takers lent f x a key stands st is-lent at cell own takes none n = nothing run c m table root stores hands takers lent f x a key stands st is-lent at cell own takes none n

-- ---- without slices and AScatters

module _ (key : ℕ) (table : Table) (stores : ℕ → Store) (lent : Lent) where
  alone : (a b c : ℕ) → b ≡ 0 → c ≡ 0 → a + (b + c) ≡ a
  alone a b c p q = omega (arith, p, q)

  same-nodes : (s : Store) (y : Live) (ls : List ℕ) → nodes_sum (node_leases key s y) ls ≡ nodes_lease key s y ls
  same-nodes s y [] = refl
  same-nodes s y (l ∷ ls) = ap (λ z. node_leases key s y l + z) (same-nodes s y ls)

  leases-of-nodes : ((f : ℕ) (x : Live) (l : ℕ) → table f ≡ Some x → IsIn l x.labels → (slices_out (x.states l) ≡ 0) × (times key (lent.scattered f l) ≡ 0)) → (n : ℕ) → all_leases key table stores lent n ≡ leases key table stores n
  leases-of-nodes h zero = refl
  leases-of-nodes h (suc n) =
      same-sum (table_sum (all_of_node key stores lent) table n) (leases key table stores n) (graph_sum (all_of_node key stores lent n) (table n)) (graph_leases key (stores n) (table n)) (leases-of-nodes h n) (go (table n) refl)
    where
      node : (y : Live) → table n ≡ Some y → (l : ℕ) → IsIn l y.labels → all_of_node key stores lent n y l ≡ node_leases key (stores n) y l
      node y is l i =
          let q = h n y l is i in
          alone (node_leases key (stores n) y l) (slice_leases key stores lent n y l) (scattered_leases key lent n y l)
          (none-times (slices_out (y.states l)) (ports_with key (stores n) ((stores n).reads l) + times key (lent.to_slices n l)) q.0)
          (if-work (times key (lent.scattered n l)) (y.states l) (λ work. q.1))

      go : (o : Option Live) → table n ≡ o → graph_sum (all_of_node key stores lent n) o ≡ graph_leases key (stores n) o
      go None is = refl
      go (Some y) is = nodes-same (node_leases key (stores n) y) (all_of_node key stores lent n y) y.labels (node y is) ∙ same-nodes (stores n) y y.labels

pub of-nodes : AreLeasesOfNodes
of-nodes key table stores lent h n = leases-of-nodes key table stores lent h n

-- ---- slices

same-item : (i j : Item) → i ≡ j → is_item i j ≡ true
same-item i j e = go (dec_item i j)
  where
    go : (d : Dec (i ≡ j)) → is_yes d ≡ true
    go (yes q) = refl
    go (no n) = absurd (n e)

other-item : (i j : Item) → ¬ (i ≡ j) → is_item i j ≡ false
other-item i j ne = go (dec_item i j)
  where
    go : (d : Dec (i ≡ j)) → is_yes d ≡ false
    go (yes q) = absurd (ne q)
    go (no n) = refl

-- where it does not stand, nothing is marked
unmarked : (e : Item) (s : Status) (os : Opens) → ((t : Status) → ¬ Stands e t os) → slices_in (mark e s os) ≡ slices_in os
unmarked e s [] out = refl
unmarked e s (o ∷ os) out =
    same-sum (one_if (is_out o.0 (if is_item o.0 e then s else o.1))) (one_if (is_out o.0 o.1)) (slices_in (mark e s os)) (slices_in os)
    (ap (λ b. one_if (is_out o.0 (if b then s else o.1))) (other-item o.0 e (λ q. out o.1 (inl (sym q, refl))))) (unmarked e s os (λ t i. out t (inr i)))

one-more : (a b c d : ℕ) → a ≡ suc b → c ≡ d → a + c ≡ suc (b + d)
one-more a b c d p q = omega (arith, p, q)

later-more : (a b c d : ℕ) → a ≡ b → c ≡ suc d → a + c ≡ suc (b + d)
later-more a b c d p q = omega (arith, p, q)

module _ (l k r : ℕ) where
  abbrev slice : Item
  slice = Slice l k r

  now-out : (i : Item) → slice ≡ i → one_if (is_out i Taken) ≡ 1
  now-out i e = ap (λ z. one_if (is_out z Taken)) (sym e)

  not-out : (i : Item) (s : Status) → slice ≡ i → is_out slice s ≡ false → one_if (is_out i s) ≡ 0
  not-out i s e q = ap (λ z. one_if (is_out z s)) (sym e) ∙ ap one_if q

  here-marked : (o : Item × Status) (s : Status) → slice ≡ o.0 → one_if (is_out o.0 (if is_item o.0 slice then s else o.1)) ≡ one_if (is_out o.0 s)
  here-marked o s e = ap (λ b. one_if (is_out o.0 (if b then s else o.1))) (same-item o.0 slice (sym e))

  other-marked : (o : Item × Status) (s : Status) → ¬ (slice ≡ o.0) → one_if (is_out o.0 (if is_item o.0 slice then s else o.1)) ≡ one_if (is_out o.0 o.1)
  other-marked o s ne = ap (λ b. one_if (is_out o.0 (if b then s else o.1))) (other-item o.0 slice (λ e. ne (sym e)))

  claimed : (os : Opens) → StandOnce os → Stands slice Open os → slices_in (mark slice Taken os) ≡ suc (slices_in os)
  claimed [] once s = absurd s
  claimed (o ∷ os) once (inl s) =
      one-more (one_if (is_out o.0 (if is_item o.0 slice then Taken else o.1))) (one_if (is_out o.0 o.1)) (slices_in (mark slice Taken os)) (slices_in os)
      (here-marked o Taken s.0 ∙ (now-out o.0 s.0 ∙ ap suc (sym (ap (λ z. one_if (is_out o.0 z)) (sym s.1) ∙ not-out o.0 Open s.0 refl))))
      (unmarked slice Taken os (λ t i. once.0 t (subst (λ z. Stands z t os) s.0 i)))
  claimed (o ∷ os) once (inr s) =
      later-more (one_if (is_out o.0 (if is_item o.0 slice then Taken else o.1))) (one_if (is_out o.0 o.1)) (slices_in (mark slice Taken os)) (slices_in os)
      (other-marked o Taken (λ e. once.0 Open (subst (λ z. Stands z Open os) e s))) (claimed os once.1 s)

  finished : (os : Opens) → StandOnce os → Stands slice Taken os → suc (slices_in (mark slice Finished os)) ≡ slices_in os
  finished [] once s = absurd s
  finished (o ∷ os) once (inl s) =
      sym (one-more (one_if (is_out o.0 o.1)) (one_if (is_out o.0 (if is_item o.0 slice then Finished else o.1))) (slices_in os) (slices_in (mark slice Finished os))
      (ap (λ z. one_if (is_out o.0 z)) (sym s.1) ∙ (now-out o.0 s.0 ∙ ap suc (sym (here-marked o Finished s.0 ∙ not-out o.0 Finished s.0 refl))))
      (sym (unmarked slice Finished os (λ t i. once.0 t (subst (λ z. Stands z t os) s.0 i)))))
  finished (o ∷ os) once (inr s) =
      sym (later-more (one_if (is_out o.0 o.1)) (one_if (is_out o.0 (if is_item o.0 slice then Finished else o.1))) (slices_in os) (slices_in (mark slice Finished os))
      (sym (other-marked o Finished (λ e. once.0 Taken (subst (λ z. Stands z Taken os) e s)))) (sym (finished os once.1 s)))

pub slices-counted : AreAllSlicesCounted
slices-counted os l k r once = record { claimed = claimed l k r os once; finished = finished l k r os once }
