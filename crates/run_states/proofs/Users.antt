-- Where a node is ready or was claimed, all nodes for which it waits are done.
use Rattle.std.proofs.Common.{◌≡◌, ℕ, true, [], ◌∷◌, Some, refl, sym, ◌∙◌, subst}
use Rattle.graph_meaning.specs.Entered.{Item, Node, Inside, IsIn}
use Rattle.graph_meaning.specs.Histories.{Run, Follows, History, is_claimed, is_made}
use Rattle.graph_meaning.proofs.Takers.{claimed-after}
use Rattle.run_states.specs.Standing.{Path, plug, Test, State, Waiting, Claimed, Within, GoingOn, Done, Live, Table, tests_at, NodeStands, IsChild, TableStands}
use Rattle.run_states.specs.Runs.{RunStands}
use Rattle.run_states.specs.Waiting.{WaitsIn, straight, through, HasBegun, AreUsersDone}
use Rattle.run_states.proofs.Ready.{one-live, clash}

module _ (run : Run) (c m : Test) (table : Table) (root : ℕ) (stands : TableStands run c m table root) where
  -- what comes after something in a live graph does so in the run
  pub follows-up : (p : Path) (f : ℕ) (y : Live) → table f ≡ Some y → y.path ≡ p → (i j : Item) → Follows y.run i j → Follows run (plug p i) (plug p j)
  follows-up [] f y at is i j a = subst (λ r. Follows r i j) (stands.top f y at is) a
  follows-up ((l, k) ∷ p) f y at is i j a =
      let up = stands.parent f y l k p at is in
      let ch = stands.child up.at up.live l k f up.found up.inside up.state in
      follows-up p up.at up.live up.found up.path (Inside l k i) (Inside l k j)
      (step-of up.live ch.0 (one-live ch.0 y ch.1 at) ch.2)
    where
      step-of : (x z : Live) → z ≡ y → IsChild m x z l k → Follows x.run (Inside l k i) (Inside l k j)
      step-of x z same ch = ch.step.after_inside i j (subst (λ w. Follows w.run i j) (sym same) a)

module _ (run : Run) (limit : ℕ) (h : History) (table : Table) (root f : ℕ) (x : Live) (stands : RunStands run limit h table root) (at : table f ≡ Some x) where
  abbrev c : Test
  c = tests_at x.path (is_claimed h)

  abbrev m : Test
  m = tests_at x.path (is_made h)

  -- a node whose last item is made is done
  by-last : (n : ℕ) (s : State) → NodeStands x.run c m n x.last s → m (x.last n) ≡ true → s ≡ Done
  by-last n Waiting st e = clash (m (x.last n)) e st.1
  by-last n Claimed st e = clash (m (x.last n)) e st.3
  by-last n (Within k g) st e = clash (m (x.last n)) e st.2
  by-last n (GoingOn k os) st e = clash (m (x.last n)) e st.5
  by-last n Done st e = refl

  -- a node that is not waiting was claimed
  pub was-claimed : (l : ℕ) → IsIn l x.labels → (s : State) → NodeStands x.run c m l x.last s → ¬ (s ≡ Waiting) → c (Node l) ≡ true
  was-claimed l in-x Waiting st n = absurd (n refl)
  was-claimed l in-x Claimed st n = st.0
  was-claimed l in-x (Within k g) st n =
      stands.stands.made_claimed (plug x.path (Node l)) (st.0 (Node l) (((stands.stands.lives f x at).node l in-x).exists) refl (λ a. a))
  was-claimed l in-x (GoingOn k os) st n =
      stands.stands.made_claimed (plug x.path (Node l)) (st.0 (Node l) (((stands.stands.lives f x at).node l in-x).exists) refl (λ a. a))
  was-claimed l in-x Done st n =
      stands.stands.made_claimed (plug x.path (Node l)) (st.0 (Node l) (((stands.stands.lives f x at).node l in-x).exists) refl)

  direct : (l : ℕ) → IsIn l x.labels → HasBegun x l → (n : ℕ) → IsIn n (x.waits l) → x.states n ≡ Done
  direct l in-x begun n i = go (x.states l) refl ((stands.stands.lives f x at).state l in-x)
    where
      lives : IsIn n x.labels
      lives = (stands.stands.lives f x at).waits_in l n in-x i

      claimed : c (Node l) ≡ true → x.states n ≡ Done
      claimed e =
          by-last n (x.states n) ((stands.stands.lives f x at).state n lives)
          (claimed-after run limit h stands.legal (plug x.path (Node l)) (plug x.path (x.last n)) e
          (follows-up run (is_claimed h) (is_made h) table root stands.stands x.path f x at refl (Node l) (x.last n) (((stands.stands.lives f x at).node l in-x).waits n i)))

      go : (s : State) → x.states l ≡ s → NodeStands x.run c m l x.last (x.states l) → x.states n ≡ Done
      go Waiting is st = begun is n i
      go Claimed is st = claimed (was-claimed l in-x (x.states l) st (λ q. let w = sym is ∙ q in cc))
      go (Within k g) is st = claimed (was-claimed l in-x (x.states l) st (λ q. let w = sym is ∙ q in cc))
      go (GoingOn k os) is st = claimed (was-claimed l in-x (x.states l) st (λ q. let w = sym is ∙ q in cc))
      go Done is st = claimed (was-claimed l in-x (x.states l) st (λ q. let w = sym is ∙ q in cc))

  -- a node that is done has begun
  done-begun : (n : ℕ) → x.states n ≡ Done → HasBegun x n
  done-begun n e q = absurd (cannot (sym e ∙ q))
    where
      cannot : Done ≡ Waiting → ⊥
      cannot e = cc

  -- what is waited for is a node of the graph
  waited-in : {l n : ℕ} → IsIn l x.labels → WaitsIn x l n → IsIn n x.labels
  waited-in {l = l} {n = n} in-x (straight i) = (stands.stands.lives f x at).waits_in l n in-x i
  waited-in in-x (through a b) = waited-in (waited-in in-x a) b

  pub waits-done : {l n : ℕ} → IsIn l x.labels → HasBegun x l → WaitsIn x l n → x.states n ≡ Done
  waits-done {l = l} {n = n} in-x begun (straight i) = direct l in-x begun n i
  waits-done in-x begun (through {m = m} a b) = waits-done (waited-in in-x a) (done-begun m (waits-done in-x begun a)) b

pub users-done : AreUsersDone
users-done run limit h table root f l n x stands at in-x begun w = waits-done run limit h table root f x stands at in-x begun w
