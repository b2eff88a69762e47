-- Each legal history has ended or has a table, and so one worker comes to an end.
use Rattle.std.proofs.Common.{◌≡◌, ℕ, ◌+◌, ◌≤◌, true, false, List, [], ◌∷◌, Some, None, ◌⊎◌, inl, inr, refl, sym, ap, ◌∙◌, subst, arith}
use native.Mathlib.Decide.{dec_le}
use Rattle.graph_meaning.specs.Carried.{Carried}
use Rattle.graph_meaning.specs.Entered.{Item, Node, Slice, Inside, IsIn, Has}
use Rattle.graph_meaning.specs.Demand.{Vertex, Network, Cut, IsCut, AreOrderly, operands, of_node, leads_to, nodes_tree, tree_from, tree}
use Rattle.graph_meaning.specs.Histories.{Run, OwnFirings, History, Legal, Made, OverLimit, NoMemory, EndKind, Results as HasResults, TurnLimit, OutOfMemory, Event, Claim, Idle, Ended, Finish, HasEnded, MadeWith, Claimable, ClaimedBy, Gives, count, early, is_slice, is_claimed, is_finished, is_made}
use Rattle.graph_meaning.specs.Laws.{run_of}
use Rattle.run_states.specs.Standing.{Path, plug, label_of, IsOuter, Open, Taken, Opens, State, Waiting, Claimed, Within, GoingOn, Done, Stands, GoesOn, NodeStands, Live, Table, tests_at, TableStands, ReadyAs, IsReady, or_item, taken, with_state, put}
use Rattle.run_states.specs.Events.{IsOwn, also}
use Rattle.run_states.specs.Paths.{here}
use Rattle.run_states.specs.Phases.{opens_of, labels_of, entered_live}
use Rattle.run_states.specs.Waiting.{straight}
use Rattle.run_states.proofs.Beginning.{begins as run-begins}
use Rattle.run_states.proofs.Complete.{can-ready}
use Rattle.run_states.proofs.Items.{or-cases}
use Rattle.run_states.proofs.Kept.{claim-kept, busy-kept}
use Rattle.run_states.proofs.Lookups.{put-other, set-same}
use Rattle.run_states.proofs.Paths.{paths-exact}
use Rattle.run_states.proofs.Runs.{ends-with-results, goes-on-after}
use Rattle.run_states.proofs.Users.{users-done}
use Rattle.run_tables.specs.Known.{IsKnownAs}
use Rattle.run_tables.specs.Followed.{HasTable, AreTablesThere}
use Rattle.run_tables.proofs.Rows.{OpenRow, open-row}
use Rattle.run_tables.proofs.Alone.{claimed-by, claimed-exists}
use Rattle.run_tables.proofs.Followed.{After, vertex-of, put-known, entered-known, state-known, beyond-put, mark-items, all-done, claimed-taken}
use Rattle.run_tables.proofs.Stepped.{by-kind, further-after}

pub plug-slice : (p : Path) (i : Item) → is_slice (plug p i) ≡ is_slice i
plug-slice [] i = refl
plug-slice ((l, k) ∷ p) i = plug-slice p (Inside l k i)

none-some : {P : Type 0} (x : Live) → None ≡ Some x → P
none-some x e = absurd (cannot e)
  where
    cannot : None ≡ Some x → ⊥
    cannot e = cc

claimed-waiting : Claimed ≡ Waiting → ⊥
claimed-waiting e = cc

-- what was made of a slice it has of its own firings
made-gave : (run : Run) (limit : ℕ) (h : History) → Legal run limit h → (i : Item) → is_slice i ≡ true → is_made h i ≡ true → (n : ℕ) × OwnFirings run i n
made-gave run limit [] legal i s e = absurd (never e)
  where
    never : false ≡ true → ⊥
    never e = cc
made-gave run limit (Claim w j ∷ h) legal i s e = made-gave run limit h legal.0 i s e
made-gave run limit (Idle w ∷ h) legal i s e = made-gave run limit h legal.0 i s e
made-gave run limit (Ended w k ∷ h) legal i s e = made-gave run limit h legal.0 i s e
made-gave run limit (Finish w j OverLimit ∷ h) legal i s e = made-gave run limit h legal.0 i s e
made-gave run limit (Finish w j NoMemory ∷ h) legal i s e = made-gave run limit h legal.0 i s e
made-gave run limit (Finish w j (Made n) ∷ h) legal i s e = go (or-cases j (is_made h) i e) (made-gave run limit h legal.0 i s)
  where
    go : (j ≡ i) ⊎ (is_made h i ≡ true) → (is_made h i ≡ true → (n : ℕ) × OwnFirings run i n) → (n : ℕ) × OwnFirings run i n
    go (inl q) rec =
        let gave : MadeWith run limit i n true = subst (MadeWith run limit i n) s (subst (λ z. MadeWith run limit z n (is_slice z)) q legal.1.2) in
        (n, gave.0)
    go (inr m) rec = rec m

known-taken : (cut : Cut) (u : Network) (h : ℕ) (is : List Carried) (l : ℕ) (v : Vertex) (s : State) (e : Item) → IsKnownAs cut u h is l v s → IsKnownAs cut u h is l v (taken s e)
known-taken cut u h is l v Waiting e k = tt
known-taken cut u h is l v Claimed e k = tt
known-taken cut u h is l v (Within n f) e k = tt
known-taken cut u h is l v (GoingOn n os) e k =
    record { form = k.form; operands = k.operands; whole = k.whole; before = k.before; step = k.step; next = k.next; comes = k.comes; items = mark-items e Taken os (opens_of cut l n k.next) k.items }
known-taken cut u h is l v Done e k = tt

module _ (cut : Cut) (u : Network) (g : ℕ) (ins : List Carried) (limit : ℕ) (is-cut : IsCut cut) (orderly : AreOrderly u) where
  abbrev run : Run
  run = run_of cut u g ins

  abbrev Outcome-of : History → Type 0
  Outcome-of h = ((k : EndKind) × HasEnded run limit h k) ⊎ HasTable cut u g ins limit h

  -- ---- the beginning

  start : (vs : List Vertex) → (u g).nodes ≡ vs → Outcome-of []
  start [] e = inl (HasResults, (refl, λ i ex. absurd (subst (λ vs. Has (nodes_tree (tree_from cut ex.0 u) (λ v. operands (of_node (leads_to ex.0 u)) (u g) ins v.ins) vs) i ex.1) e ex.2)))
  start (v ∷ vs) e =
      inr
      (record {
        table = put (λ f. None) 0 (Some (entered_live cut u g ins []));
        root = 0;
        stands = run-begins cut u g ins limit is-cut orderly (v.label, subst (λ z. IsIn v.label (labels_of z)) (sym e) (inl refl), waiting-done);
        known = put-known cut u g ins (λ f. None) 0 (entered_live cut u g ins []) (λ f x q. none-some x q) (entered-known cut u g ins [] g ins here);
        bound = 1;
        beyond = λ f le. put-other (λ f. None) 0 (Some (entered_live cut u g ins [])) f (λ q. omega (arith, le, q));
      })
    where
      waiting-done : Waiting ≡ Done → ⊥
      waiting-done q = cc

  module _ (h : History) (legal : Legal run limit h) (T : HasTable cut u g ins limit h) where
    -- ---- a claim

    module _ (w : ℕ) (i : Item) (can : Claimable run h i) (le : early i + count h ≤ limit) where
      r : IsReady T.table i
      r = can-ready run (is_claimed h) (is_made h) T.table T.root T.stands.stands T.stands.busy i can

      stood : NodeStands r.live.run (tests_at r.live.path (is_claimed h)) (tests_at r.live.path (is_made h)) r.label r.live.last (r.live.states r.label)
      stood = (T.stands.stands.lives r.at r.live r.found).state r.label r.inside

      own-item : (s : State) → r.live.states r.label ≡ s → NodeStands r.live.run (tests_at r.live.path (is_claimed h)) (tests_at r.live.path (is_made h)) r.label r.live.last s → ReadyAs r.live r.label s r.item → IsOuter r.item × (label_of r.item ≡ r.label)
      own-item Waiting is st a = (subst IsOuter (sym a.0) tt, ap label_of a.0)
      own-item Claimed is st a = absurd a
      own-item (Within k f) is st a = absurd a
      own-item (GoingOn k os) is st a = let goes : GoesOn r.live.run r.label k os = st.1 in let x = goes.exists r.item (Open, a) in (x.3, x.1)
      own-item Done is st a = absurd a

      own : IsOwn T.table r.at r.live r.label r.item
      own = let o = own-item (r.live.states r.label) refl stood r.ready in record { found = r.found; inside = r.inside; outer = o.0; own = o.1 }

      abbrev after-claim : Table
      after-claim = put T.table r.at (Some (with_state r.live r.label (taken (r.live.states r.label) r.item)))

      claimed : HasTable cut u g ins limit (Claim w i ∷ h)
      claimed =
          record {
            table = put T.table r.at (Some (with_state r.live r.label (taken (r.live.states r.label) r.item)));
            root = T.root;
            stands =
                record {
                  legal = (legal, (T.stands.on, can, le));
                  on = still-on;
                  stands =
                      subst (λ z. TableStands run (or_item z (is_claimed h)) (is_made h) (put T.table r.at (Some (with_state r.live r.label (taken (r.live.states r.label) r.item)))) T.root) r.same
                      (claim-kept run (is_claimed h) (is_made h) T.table T.root r.at r.label r.live r.item T.stands.stands own r.ready);
                  busy =
                      (busy-kept T.table r.at r.label r.live (taken (r.live.states r.label) r.item) T.stands.busy
                      (λ n. (r.label, r.inside, λ q. claimed-taken (r.live.states r.label) r.item (sym (set-same r.live.states r.label (taken (r.live.states r.label) r.item)) ∙ q)))).0;
                  made = T.stands.made;
                  within = le;
                };
            known =
                put-known cut u g ins T.table r.at (with_state r.live r.label (taken (r.live.states r.label) r.item)) T.known
                (state-known cut u g ins r.live r.label (taken (r.live.states r.label) r.item) (T.known r.at r.live r.found)
                (λ v at-v. known-taken cut u (T.known r.at r.live r.found).graph (T.known r.at r.live r.found).inputs r.label v (r.live.states r.label) r.item ((T.known r.at r.live r.found).nodes r.label v at-v)));
            bound = T.bound;
            beyond = beyond-put cut u g ins T.table r.at T.bound r.live (with_state r.live r.label (taken (r.live.states r.label) r.item)) r.found T.beyond;
          }
        where
          still-on : (k : EndKind) → HasEnded run limit (Claim w i ∷ h) k → ⊥
          still-on k (inl e) = T.stands.on k e
          still-on k (inr e) = e.1

    -- ---- a finish

    module _ (w : ℕ) (i : Item) (n : ℕ) (by : ClaimedBy h w i) (not-finished : is_finished h i ≡ false) (gives : Gives run limit i (Made n)) (le : n + count h ≤ limit) where
      was-claimed : is_claimed h i ≡ true
      was-claimed = claimed-by h w i by

      not-made : is_made h i ≡ false
      not-made = sym (T.stands.made i) ∙ not-finished

      o : OpenRow T.table i
      o = open-row run (is_claimed h) (is_made h) T.table T.root T.stands.stands i (claimed-exists run limit h legal i was-claimed) was-claimed not-made

      was-at : tests_at o.live.path (is_claimed h) o.item ≡ true
      was-at = ap (is_claimed h) o.same ∙ was-claimed

      abbrev Then : Type 0
      Then = After cut u g ins is-cut orderly (is_claimed h) (also o.live o.item (is_made h)) T.root

      -- a slice that is made now or was made
      fired-slices : (k : ℕ) (r n' : ℕ) → tests_at o.live.path (also o.live o.item (is_made h)) (Slice o.label k r) ≡ true
          → (q : ℕ) × OwnFirings (λ d. tree cut d u (T.known o.at o.live o.found).graph (T.known o.at o.live o.found).inputs) (Slice o.label k r) q
      fired-slices k r n' e = go (or-cases (plug o.live.path o.item) (is_made h) (plug o.live.path (Slice o.label k r)) e)
        where
          inner : (q : ℕ) → OwnFirings run (plug o.live.path (Slice o.label k r)) q → OwnFirings (λ d. tree cut d u (T.known o.at o.live o.found).graph (T.known o.at o.live o.found).inputs) (Slice o.label k r) q
          inner q f =
              ((paths-exact cut u g ins is-cut orderly).firings o.live.path (T.known o.at o.live o.found).graph (T.known o.at o.live o.found).inputs (Slice o.label k r) q (T.known o.at o.live o.found).leads).1 f

          is-slice : is_slice (plug o.live.path (Slice o.label k r)) ≡ true
          is-slice = plug-slice o.live.path (Slice o.label k r)

          go : (plug o.live.path o.item ≡ plug o.live.path (Slice o.label k r)) ⊎ (is_made h (plug o.live.path (Slice o.label k r)) ≡ true)
              → (q : ℕ) × OwnFirings (λ d. tree cut d u (T.known o.at o.live o.found).graph (T.known o.at o.live o.found).inputs) (Slice o.label k r) q
          go (inl q) =
              let same : i ≡ plug o.live.path (Slice o.label k r) = sym o.same ∙ q in
              let gave : MadeWith run limit (plug o.live.path (Slice o.label k r)) n true = subst (MadeWith run limit (plug o.live.path (Slice o.label k r)) n) is-slice (subst (λ z. MadeWith run limit z n (is_slice z)) same gives) in
              (n, inner n gave.0)
          go (inr m) = let f = made-gave run limit h legal (plug o.live.path (Slice o.label k r)) is-slice m in (f.0, inner f.0 f.1)

      then : ((o.live.states o.label ≡ Claimed) × (o.item ≡ Node o.label)) ⊎ ((k : ℕ) × (os : Opens) × (o.live.states o.label ≡ GoingOn k os) × Stands o.item Taken os) → Then
      then (inl s) =
          by-kind cut u g ins is-cut orderly (is_claimed h) (is_made h) T.table T.root T.stands.stands T.stands.busy T.known T.bound T.beyond o.at o.live o.label o.item o.found o.inside o.outer o.own was-at s.0 s.1
          (λ m wait. users-done run limit h T.table T.root o.at o.label m o.live T.stands o.found o.inside (λ q. absurd (claimed-waiting (sym s.0 ∙ q))) (straight wait)) (vertex-of cut u g ins is-cut orderly o.live (T.known o.at o.live o.found) o.label o.inside).0.kind refl
      then (inr s) =
          further-after cut u g ins is-cut orderly (is_claimed h) (is_made h) T.table T.root T.stands.stands T.stands.busy T.known T.bound T.beyond o.at o.live o.label o.item o.found o.inside o.outer o.own was-at s.0 s.1 s.2 s.3
          (fired-slices s.0)

      A : After cut u g ins is-cut orderly (is_claimed h) (or_item i (is_made h)) T.root
      A = subst (λ z. After cut u g ins is-cut orderly (is_claimed h) (or_item z (is_made h)) T.root) o.same (then o.state)

      finished : Outcome-of (Finish w i (Made n) ∷ h)
      finished = go (all-done A.stands.first.0.states A.stands.first.0.labels)
        where
          go : ((l : ℕ) → IsIn l A.stands.first.0.labels → A.stands.first.0.states l ≡ Done) ⊎ ((l : ℕ) × IsIn l A.stands.first.0.labels × ¬ (A.stands.first.0.states l ≡ Done)) → Outcome-of (Finish w i (Made n) ∷ h)
          go (inl all) = inl (HasResults, ends-with-results run limit h T.table A.table T.root w n i T.stands A.stands A.busy le all)
          go (inr some) =
              inr
              (record {
                table = A.table;
                root = T.root;
                stands =
                    record {
                      legal = (legal, (by, not-finished, gives));
                      on = goes-on-after run limit h T.table A.table T.root w n i T.stands A.stands A.busy le some;
                      stands = A.stands;
                      busy = A.busy;
                      made = λ j. ap (λ b. or_item i (λ z. b) j) (T.stands.made j);
                      within = le;
                    };
                known = A.known;
                bound = A.bound;
                beyond = A.beyond;
              })

    -- ---- every entry

    entered : (e : Event) → Legal run limit (e ∷ h) → Outcome-of (e ∷ h)
    entered (Claim w i) g = inr (claimed w i g.1.1 g.1.2)
    entered (Idle w) g =
        inr
        (record {
          table = T.table;
          root = T.root;
          stands = record { legal = g; on = still; stands = T.stands.stands; busy = T.stands.busy; made = T.stands.made; within = T.stands.within };
          known = T.known;
          bound = T.bound;
          beyond = T.beyond;
        })
      where
        still : (k : EndKind) → HasEnded run limit (Idle w ∷ h) k → ⊥
        still k (inl e) = T.stands.on k e
        still k (inr e) = e.1
    entered (Ended w k) g = inl (k, inr (T.stands.on, refl))
    entered (Finish w i OverLimit) g = inl (TurnLimit, inr (T.stands.on, tt))
    entered (Finish w i NoMemory) g = inl (OutOfMemory, inr (T.stands.on, tt))
    entered (Finish w i (Made n)) g = go (dec_le (n + count h) limit)
      where
        go : Dec (n + count h ≤ limit) → Outcome-of (Finish w i (Made n) ∷ h)
        go (yes le) = finished w i n g.1.0 g.1.1 g.1.2 le
        go (no over) = inl (TurnLimit, inr (T.stands.on, omega (arith, over)))

  -- the history has ended or has a table
  followed : (h : History) → Legal run limit h → Outcome-of h
  followed [] legal = start (u g).nodes refl
  followed (e ∷ h) legal = go (followed h legal.0)
    where
      go : Outcome-of h → Outcome-of (e ∷ h)
      go (inl k) = inl (k.0, inl k.1)
      go (inr T) = entered h legal.0 T e legal

pub tables-there : AreTablesThere
tables-there cut u g ins limit h is-cut orderly legal = followed cut u g ins limit is-cut orderly h legal
