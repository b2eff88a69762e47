-- Nodes and graphs whose places are set.
use Rattle.std.proofs.Common.{◌≡◌, ℕ, zero, suc, ◌+◌, ◌<◌, ◌≤◌, ◌⊎◌, inl, inr, true, List, [], ◌∷◌, length, map, refl, sym, ap, ◌∙◌, subst, arith}
use Rattle.std.proofs.lemmas.List.{length-map}
use Rattle.std.proofs.Math.Nat.{le-max_left, le-max_right}
use Rattle.graph_meaning.specs.Carried.{Carried}
use Rattle.graph_meaning.specs.Entered.{IsIn}
use Rattle.graph_meaning.specs.Forms as form
use Rattle.graph_meaning.specs.Demand.{Kind, Plain, Whole, Vertex, Network, EachNode}
use Rattle.run_code.specs.Taking.{AreTakersLast, Taken, first_port, taken_by}
use Rattle.run_code.specs.Cells.{Operand, cells_at, own_cells, picked}
use Rattle.run_code.specs.Coded.{operand}
use Rattle.run_code.specs.Collections.{AreWithin}
use Rattle.run_code.specs.Known.{IsReadable, Known, known_after}
use Rattle.run_code.specs.Made.{Plan, Line, Makes, OfInputs, OfNothing, IsSized, graph_code, kind_code, kind_size, line, nodes_code, nodes_extent, nodes_size, parts_code, parts_extent, placed}
use Rattle.run_code.specs.Steps.{Count, Move}
use Rattle.run_made.proofs.Lengths.{IsLong, graph-long, kind-long}
use Rattle.run_made.proofs.Lying.{PutsAll, own-long, picked-long}
use Rattle.run_made.specs.Plans.{All, CanLay, IsInner, IsKindRight, Weighing}
use Rattle.run_store.specs.Lively.{Live}
use Rattle.run_store.specs.Ports.{copies_of}
use Rattle.run_store.specs.Refines.{IsTaken}
use Rattle.run_store.specs.Stored.{Handling, copied}
use Rattle.made_store.proofs.Alive.{or-either, where-sound}
use Rattle.made_store.proofs.Around.{IsAround}
use Rattle.made_store.proofs.Flows.{AllFine, FineAt, Opens, copies-last, copies-untaken, fine-at, fine-both, follow, may-copy, none-copied, plain-copies, set-opens}
use Rattle.made_store.proofs.ForAlls.{for-all-fine}
use Rattle.made_store.proofs.Loops.{loop-fine}
use Rattle.made_store.proofs.Owned.{IsGivenTo, given-to}
use Rattle.made_store.proofs.Parts.{DoesFine, EndsSo, select-fine}
use Rattle.made_store.proofs.Plain.{call-fine, plain-fine}
use Rattle.made_store.proofs.Scenes.{IsScene}
use Rattle.made_store.proofs.Tags.{tag-fine}
use Rattle.made_store.proofs.Walks.{IsOn, begins-live, begins-own, behind-node, node-around, on-first, on-next, puts-owned, puts-there, seats_owned, seats_there, the-end}
use Rattle.made_store.specs.Settings.{Cells_of, GraphSet, IsSet, KindSet, NodesSet, Sets, Shares, cells_where, either_of, gives, live_in, modes_at, own_in, range_of, sifts_of, taken_in}
use Rattle.made_store.specs.Shared.{AreThere, IsKindShared, IsShared, TakesOwned}

inners-lay : (P : Plan) (W : Weighing) (u : Network) (order : ℕ → List Vertex) (functions : List ℕ) (lays : ℕ → Type 0) (gs : List ℕ) → All (IsInner P W u order functions lays) gs → All lays gs
inners-lay P W u order functions lays [] h = tt
inners-lay P W u order functions lays (g ∷ gs) h = (h.0.1, inners-lay P W u order functions lays gs h.1)

module _ (P : Plan) (S : Shares) (W : Weighing) (handling : ℕ → Handling) (live own : Live) where
  -- a count changes nothing
  pub count-fine : (pc : ℕ) (lives owns : Cells_of) → IsSet P S handling live own pc [] [] lives owns → Opens W handling live own (suc pc) lives owns → FineAt W handling live own pc (line OfNothing Count)
  count-fine pc lives owns s next =
      fine-at W handling live own pc (line OfNothing Count) [] [] lives owns s tt tt none-copied tt tt
      (follow W handling live own pc (suc pc) 0 0 [] [] [] lives owns lives owns s next (λ i e. inr (e, (λ t. t), inr (omega arith))) (λ i e. inr (e, (λ t. t), inr (omega arith))), tt) tt

  -- what stands at the first place of a node
  pub kind-opens : (sets : Sets P S handling live own) (g : ℕ) (v : Vertex) (lives owns keep hold : Cells_of) (args : List Operand) (k : Kind) (a lo : ℕ) → KindSet P S handling live own sets g v lives owns keep hold args k a lo → Opens W handling live own a lives owns
  kind-opens sets g v lives owns keep hold args (Plain row shape) a lo s = set-opens W handling live own a (modes_at P S g v) [] lives owns s
  kind-opens sets g v lives owns keep hold args (Whole (form.Call f)) a lo s = set-opens W handling live own a (modes_at P S g v) [] lives owns s
  kind-opens sets g v lives owns keep hold args (Whole (form.Select x gs w)) a lo s = set-opens W handling live own a [] [] lives owns s.0
  kind-opens sets g v lives owns keep hold args (Whole (form.TagCase gs w)) a lo s = set-opens W handling live own a [] [] lives owns s.0
  kind-opens sets g v lives owns keep hold args (Whole (form.LoopA i t b r w)) a lo s = set-opens W handling live own a [] [] lives owns s.0
  kind-opens sets g v lives owns keep hold args (Whole (form.LoopB i t b r w)) a lo s = set-opens W handling live own a [] [] lives owns s.0
  kind-opens sets g v lives owns keep hold args (Whole (form.ForAll e b r m w)) a lo s = set-opens W handling live own a [] [] lives owns s.0

module _ (P : Plan) (S : Shares) (W : Weighing) (u : Network) (order : ℕ → List Vertex) (functions : List ℕ) (handling : ℕ → Handling) (live own : Live) (room : ℕ) (shared : (g : ℕ) → IsShared P S W g)
    (entries : (f : ℕ) → IsIn f functions → Opens W handling live own (P.entry f) (cells_where (S.has f) (cells_at 0 (P.params f))) (cells_where (S.owns f) (cells_at 0 (P.params f)))) where
  module _ (make : Makes P) (sets : Sets P S handling live own) (lays : ℕ → Type 0) (long : IsLong P make lays) (fine : DoesFine P S W handling live own room shared make sets lays) (ends : EndsSo P S W handling live own room shared lays) where
    -- a compound node, by its parts
    compound-fine : (g : ℕ) (v : Vertex) (args : List Operand) (w a lo : ℕ) (parts : List Line) (lives owns keep hold : Cells_of) → ((ks : List Carried) → copied (copies_of (P.picks g v)) ks ≡ W.inputs g v ks)
        → IsAround lives owns keep hold args (S.takes g v.label) 1 lo
        → (let mine = own_cells (P.picks g v) args (lo + w) in
        let mid = (lo + w) + length (picked (P.picks g v) args) in
        IsGivenTo lives owns keep hold (gives P S g v) mine lo (lo + w) mid
        → IsSet P S handling live own a [] [] lives owns → IsSet P S handling live own (suc a) (copies_of (P.picks g v)) [] lives owns
        → AllFine W handling live own (suc (suc a)) parts × Opens W handling live own (suc (suc a)) (either_of keep (cells_where (λ p. true) mine)) (either_of hold (cells_where (gives P S g v) mine))
        → AllFine W handling live own a (line OfNothing Count ∷ line (OfInputs g v) (Move (picked (P.picks g v) args) (lo + w) (length (picked (P.picks g v) args)) (suc (suc a))) ∷ parts))
    compound-fine g v args w a lo parts lives owns keep hold weighs h given s0 s1 x =
        let picks = P.picks g v in
        let mine = own_cells picks args (lo + w) in
        let reads = picked picks args in (
          count-fine P S W handling live own a lives owns s0 (set-opens W handling live own (suc a) (copies_of picks) [] lives owns s1),
          (
            fine-at W handling live own (suc a) (line (OfInputs g v) (Move reads (lo + w) (length reads) (suc (suc a)))) (copies_of picks) [] lives owns s1 (plain-copies picks) tt weighs (may-copy live own (suc a) picks args (λ j i e. s1.1 i ∙ (h.reads j i e).0)) (copies-last picks reads) (
              follow W handling live own (suc a) (suc (suc a)) (lo + w) (length reads) (copies_of picks) [] reads lives owns (either_of keep (cells_where (λ p. true) mine)) (either_of hold (cells_where (gives P S g v) mine)) s1 x.1
                  (λ i e. go i (or-either (keep i) (cells_where (λ p. true) mine i) e)) (λ i e. go_own i (or-either (hold i) (cells_where (gives P S g v) mine i) e)),
              tt,
            ) tt,
            x.0,
          ),
        )
      where
        Past : Cells_of → ℕ → Type 0
        Past some i =
            ((lo + w ≤ i) × (i < (lo + w) + length (picked (P.picks g v) args)))
            ⊎ ((some i ≡ true) × (IsTaken (copies_of (P.picks g v)) (picked (P.picks g v) args) i → ⊥) × ((i < lo + w) ⊎ ((lo + w) + length (picked (P.picks g v) args) ≤ i)))

        told : (some : Cells_of) (i : ℕ) → ((lo + w ≤ i) × (i < (lo + w) + length (picked (P.picks g v) args))) ⊎ ((some i ≡ true) × (i < lo)) → Past some i
        told some i (inl z) = inl z
        told some i (inr z) = let lt = z.1 in inr (z.0, copies-untaken (P.picks g v) (picked (P.picks g v) args) i, inl (omega (arith, lt)))

        go : (i : ℕ) → (keep i ≡ true) ⊎ (cells_where (λ p. true) (own_cells (P.picks g v) args (lo + w)) i ≡ true) → Past lives i
        go i (inl z) = told lives i (inr (h.kept i z))
        go i (inr z) = let q = where-sound (λ p. true) (own_cells (P.picks g v) args (lo + w)) i z in told lives i (given.moved q.0 i q.2)

        go_own : (i : ℕ) → (hold i ≡ true) ⊎ (cells_where (gives P S g v) (own_cells (P.picks g v) args (lo + w)) i ≡ true) → Past owns i
        go_own i (inl z) = told owns i (inr (h.held i z))
        go_own i (inr z) = let q = where-sound (gives P S g v) (own_cells (P.picks g v) args (lo + w)) i z in told owns i (given.moved_own q.0 i q.1 q.2)

    kind-fine : (g : ℕ) (v : Vertex) (args : List Operand) (k : Kind) (a lo : ℕ) (lives owns keep hold : Cells_of) → v.kind ≡ k → length args ≡ length v.ins → IsKindRight P W u order functions lays g v k → IsKindShared P S W g v k
        → ((ks : List Carried) → copied (copies_of (P.picks g v)) ks ≡ W.inputs g v ks) → lo + (P.width v + (length (picked (P.picks g v) args) + parts_extent P k)) ≤ room
        → IsAround lives owns keep hold args (S.takes g v.label) (first_port v.kind) lo → KindSet P S handling live own sets g v lives owns keep hold args k a lo
        → Opens W handling live own (a + kind_size P k) (either_of (range_of lo (P.width v)) keep) (either_of (range_of lo (P.width v)) hold)
        → AllFine W handling live own a (kind_code P make room g v args k (P.width v) a lo)
    kind-fine g v args (Plain row shape) a lo lives owns keep hold is many right share weighs fits h s next =
        let z : a + 1 ≡ suc a = omega arith in
        (plain-fine P S W handling live own room g v args row shape (P.width v) a lo lives owns keep hold h many s (subst (λ pc. Opens W handling live own pc (either_of (range_of lo (P.width v)) keep) (either_of (range_of lo (P.width v)) hold)) z next), tt)
    kind-fine g v args (Whole (form.Call f)) a lo lives owns keep hold is many right share weighs fits h s next =
        let z : a + 1 ≡ suc a = omega arith in (
          call-fine P S W handling live own room g v args f (P.width v) a lo lives owns keep hold h many (ap first_port is) right.1 (omega (arith, fits)) share.0 share.1 (entries f right.0) s
              (subst (λ pc. Opens W handling live own pc (either_of (range_of lo (P.width v)) keep) (either_of (range_of lo (P.width v)) hold)) z next),
          tt,
        )
    kind-fine g v args (Whole (form.Select x gs n)) a lo lives owns keep hold is many right share weighs fits h s next =
        let picks = P.picks g v in
        let one = ap first_port is in
        let h1 = subst (λ m. IsAround lives owns keep hold args (S.takes g v.label) m lo) one h in
        let mine = own_cells picks args (lo + P.width v) in
        let mid = (lo + P.width v) + length (picked picks args) in
        let given = given-to lives owns keep hold args (S.takes g v.label) picks lo (lo + P.width v) h1 (omega arith) in
        compound-fine g v args (P.width v) a lo (parts_code P make room mine (Whole (form.Select x gs n)) (suc (suc a)) (P.width v) (a + kind_size P (Whole (form.Select x gs n))) lo mid) lives owns keep hold weighs h1 given s.0 s.1
        (select-fine P S W handling live own room shared make sets lays long fine ends lives owns keep hold (gives P S g v) mine lo (lo + P.width v) mid given x gs (suc (suc a)) (P.width v) (a + kind_size P (Whole (form.Select x gs n))) right.2.1 share.0
        (inners-lay P W u order functions lays gs right.4) share.1 s.2 (omega (arith, fits)) next)
    kind-fine g v args (Whole (form.TagCase gs n)) a lo lives owns keep hold is many right share weighs fits h s next =
        let picks = P.picks g v in
        let one = ap first_port is in
        let h1 = subst (λ m. IsAround lives owns keep hold args (S.takes g v.label) m lo) one h in
        let mine = own_cells picks args (lo + P.width v) in
        let mid = (lo + P.width v) + length (picked picks args) in
        let given = given-to lives owns keep hold args (S.takes g v.label) picks lo (lo + P.width v) h1 (omega arith) in
        compound-fine g v args (P.width v) a lo (parts_code P make room mine (Whole (form.TagCase gs n)) (suc (suc a)) (P.width v) (a + kind_size P (Whole (form.TagCase gs n))) lo mid) lives owns keep hold weighs h1 given s.0 s.1
        (tag-fine P S W handling live own room shared make sets lays long fine ends lives owns keep hold (gives P S g v) mine lo (lo + P.width v) mid given gs (suc (suc a)) (P.width v) (a + kind_size P (Whole (form.TagCase gs n)))
        (inners-lay P W u order functions lays gs right.3) share s.2 (omega (arith, fits)) next)
    kind-fine g v args (Whole (form.LoopA i t b r n)) a lo lives owns keep hold is many right share weighs fits h s next =
        let picks = P.picks g v in
        let one = ap first_port is in
        let h1 = subst (λ m. IsAround lives owns keep hold args (S.takes g v.label) m lo) one h in
        let mine = own_cells picks args (lo + P.width v) in
        let mid = (lo + P.width v) + length (picked picks args) in
        let given = given-to lives owns keep hold args (S.takes g v.label) picks lo (lo + P.width v) h1 (omega arith) in
        let same : length mine ≡ length v.ins = own-long picks args (lo + P.width v) ∙ many in
        let begun = suc (suc a) + P.size i in
        let ns = length (P.results i) in
        let ks = sifts_of P r in
        compound-fine g v args (P.width v) a lo (parts_code P make room mine (Whole (form.LoopA i t b r n)) (suc (suc a)) (P.width v) (a + kind_size P (Whole (form.LoopA i t b r n))) lo mid) lives owns keep hold weighs h1 given s.0 s.1
        (loop-fine P S W handling live own room shared make sets lays long fine ends lives owns keep hold (gives P S g v) mine lo (lo + P.width v) mid given i t b r ns refl right.2.1 right.3.1 right.5.1 right.7 share.0 share.1
        (λ p o. let z = share.2 p o in omega (arith, z, same)) (λ p o le. share.3 p o (omega (arith, le, same))) (λ p o le. share.4 p o (omega (arith, le, same))) (λ p o le. share.5 p o (omega (arith, le, same)))
        (λ p o. let z = share.6 p o in omega (arith, z, same)) (λ p q j o x y. share.7 p q j (subst (λ m. S.owns (P.refolded r) (suc (m + p)) ≡ true) same o) x y) right.6 right.8.1.0
        (line OfNothing Count ∷ []) (suc begun) (suc (suc begun)) (suc (suc a)) (P.width v) (a + kind_size P (Whole (form.LoopA i t b r n))) s.2.0 s.2.2 s.2.3 s.2.4 (omega (arith, fits)) (omega arith)
        (λ o_turn o_tests. (
          (count-fine P S W handling live own (suc begun) (either_of keep (range_of mid (ns + ks))) (either_of hold (range_of mid (ns + ks))) s.2.1 o_turn, tt),
          set-opens W handling live own (suc begun) [] [] (either_of keep (range_of mid (ns + ks))) (either_of hold (range_of mid (ns + ks))) s.2.1,
        )) next)
    kind-fine g v args (Whole (form.LoopB i t b r n)) a lo lives owns keep hold is many right share weighs fits h s next =
        let picks = P.picks g v in
        let one = ap first_port is in
        let h1 = subst (λ m. IsAround lives owns keep hold args (S.takes g v.label) m lo) one h in
        let mine = own_cells picks args (lo + P.width v) in
        let mid = (lo + P.width v) + length (picked picks args) in
        let given = given-to lives owns keep hold args (S.takes g v.label) picks lo (lo + P.width v) h1 (omega arith) in
        let same : length mine ≡ length v.ins = own-long picks args (lo + P.width v) ∙ many in
        let begun = suc (suc a) + P.size i in
        compound-fine g v args (P.width v) a lo (parts_code P make room mine (Whole (form.LoopB i t b r n)) (suc (suc a)) (P.width v) (a + kind_size P (Whole (form.LoopB i t b r n))) lo mid) lives owns keep hold weighs h1 given s.0 s.1
        (loop-fine P S W handling live own room shared make sets lays long fine ends lives owns keep hold (gives P S g v) mine lo (lo + P.width v) mid given i t b r (length (P.results i)) refl right.2.1 right.3.1 right.5.1 right.7 share.0 share.1
        (λ p o. let z = share.2 p o in omega (arith, z, same)) (λ p o le. share.3 p o (omega (arith, le, same))) (λ p o le. share.4 p o (omega (arith, le, same))) (λ p o le. share.5 p o (omega (arith, le, same)))
        (λ p o. let z = share.6 p o in omega (arith, z, same)) (λ p q j o x y. share.7 p q j (subst (λ m. S.owns (P.refolded r) (suc (m + p)) ≡ true) same o) x y) right.6 right.8.1.0 [] (suc (suc begun + P.size b)) (suc begun) (suc (suc a))
        (P.width v) (a + kind_size P (Whole (form.LoopB i t b r n))) s.2.0 s.2.2 s.2.3 s.2.4 (omega (arith, fits)) (omega arith) (λ o_turn o_tests. (tt, o_tests)) next)
    kind-fine g v args (Whole (form.ForAll e b r m n)) a lo lives owns keep hold is many right share weighs fits h s next =
        let picks = P.picks g v in
        let one = ap first_port is in
        let h1 = subst (λ m. IsAround lives owns keep hold args (S.takes g v.label) m lo) one h in
        let mine = own_cells picks args (lo + P.width v) in
        let mid = (lo + P.width v) + length (picked picks args) in
        let given = given-to lives owns keep hold args (S.takes g v.label) picks lo (lo + P.width v) h1 (omega arith) in
        let same : length mine ≡ length v.ins = own-long picks args (lo + P.width v) ∙ many in
        compound-fine g v args (P.width v) a lo (parts_code P make room mine (Whole (form.ForAll e b r m n)) (suc (suc a)) (P.width v) (a + kind_size P (Whole (form.ForAll e b r m n))) lo mid) lives owns keep hold weighs h1 given s.0 s.1
        (for-all-fine P S W handling live own room shared make sets lays long fine ends lives owns keep hold (gives P S g v) mine lo (lo + P.width v) mid given e b r (length (P.results e)) refl right.2.1 right.3.1 right.5 share.0 share.1
        (λ p o le. share.2 p o (omega (arith, le, same))) (λ p o le. share.3 p o (omega (arith, le, same))) (λ p o. let z = share.4 p o in omega (arith, z, same)) (subst (λ j. AreWithin j (P.collects r)) (sym right.4) right.6.0) share.5
        (suc (suc (suc a) + P.size e)) (suc (suc a)) (P.width v) (a + kind_size P (Whole (form.ForAll e b r m n))) s.2.0 s.2.1 s.2.2 s.2.3 (omega (arith, fits)) refl next)

    nodes-fine : (keep hold : Cells_of) (args : List Operand) (g bottom : ℕ) (scene : IsScene S keep hold args g bottom) (vs : List Vertex) (known : Known) (taken : Taken) (a lo : ℕ) → IsOn P S W keep hold args g bottom (shared g) scene known lo
        → PutsAll P (seats_there P S W keep hold args g bottom (shared g) scene) vs lo → PutsAll P (seats_owned P S W keep hold args g bottom (shared g) scene) vs lo → IsReadable P.width known vs → AreTakersLast (S.takes g) taken vs (P.results g)
        → EachNode (λ v. AreThere P S W g v.ins) vs → EachNode (λ v. TakesOwned P S W g v.label (first_port v.kind) v.ins) vs → EachNode (λ v. IsKindRight P W u order functions lays g v v.kind) vs → EachNode (λ v. IsKindShared P S W g v v.kind) vs
        → EachNode (λ v. (ks : List Carried) → copied (copies_of (P.picks g v)) ks ≡ W.inputs g v ks) vs → lo + nodes_extent P g vs ≤ room → NodesSet P S handling live own sets keep hold args g bottom known taken vs a lo
        → Opens W handling live own (a + nodes_size P vs) (live_in P S keep args g bottom (known_after P.width known vs) (taken_in P S g taken vs)) (own_in P S hold args g bottom (known_after P.width known vs) (taken_in P S g taken vs))
        → AllFine W handling live own a (nodes_code P make room g (placed P args (P.nodes g) bottom) vs a lo) × Opens W handling live own a (live_in P S keep args g bottom known taken) (own_in P S hold args g bottom known taken)
    nodes-fine keep hold args g bottom scene [] known taken a lo on puts puts_own readable last there owned right share weighs fits s next =
        let z : a + 0 ≡ a = omega arith in (tt, subst (λ pc. Opens W handling live own pc (live_in P S keep args g bottom known taken) (own_in P S hold args g bottom known taken)) z next)
    nodes-fine keep hold args g bottom scene (v ∷ vs) known taken a lo on puts puts_own readable last there owned right share weighs fits s next =
        let ins = map (operand (placed P args (P.nodes g) bottom)) v.ins in
        let after = taken_by (S.takes g v.label) (first_port v.kind) v.ins taken in
        let m = a + kind_size P v.kind in
        let mine = P.width v + (length (picked (P.picks g v) v.ins) + parts_extent P v.kind) in
        let picks = picked-long (P.picks g v) v.ins (operand (placed P args (P.nodes g) bottom)) in
        let first = le-max_left mine (P.width v + nodes_extent P g vs) in
        let second = le-max_right mine (P.width v + nodes_extent P g vs) in
        let z : a + (kind_size P v.kind + nodes_size P vs) ≡ m + nodes_size P vs = omega arith in
        let rest = nodes-fine keep hold args g bottom scene vs ((v.label, P.width v) ∷ known) after m (lo + P.width v) (on-next P S W keep hold args g bottom (shared g) scene known v lo on puts.0 puts_own.0) puts.1 puts_own.1 readable.3 last.2 there.1 owned.1
        right.1 share.1 weighs.1 (omega (arith, fits, second)) s.1
        (subst (λ pc. Opens W handling live own pc (live_in P S keep args g bottom (known_after P.width ((v.label, P.width v) ∷ known) vs) (taken_in P S g after vs)) (own_in P S hold args g bottom (known_after P.width ((v.label, P.width v) ∷ known) vs) (taken_in P S g after vs))) z
        next) in
        let around = node-around P S W keep hold args g bottom (shared g) scene known taken v lo on puts.0 puts_own.0 readable.2 last.0 last.1 there.0 owned.0 in
        let lives = live_in P S keep args g bottom known taken in
        let owns = own_in P S hold args g bottom known taken in
        let kept = live_in P S keep args g bottom known after in
        let held = own_in P S hold args g bottom known after in
        let one = kind-long P W u order functions make lays long room g v ins v.kind (P.width v) a lo right.0 in
        let here = kind-fine g v ins v.kind a lo lives owns kept held refl (length-map v.ins (operand (placed P args (P.nodes g) bottom))) right.0 share.0 weighs.0 (omega (arith, fits, first, picks)) around s.0 (
          (λ i e. behind-node P (S.has g) args (P.nodes g) bottom keep known after v.label lo (P.width v) puts.0 i (rest.1.0 i e)),
          λ i e. behind-node P (S.owns g) args (P.nodes g) bottom hold known after v.label lo (P.width v) puts_own.0 i (rest.1.1 i e),
        ) in (
          fine-both W handling live own a m (kind_code P make room g v ins v.kind (P.width v) a lo) (nodes_code P make room g (placed P args (P.nodes g) bottom) vs m (lo + P.width v)) (omega (arith, one)) here rest.0,
          kind-opens P S W handling live own sets g v lives owns kept held ins v.kind a lo s.0,
        )

  pub ends-so : (n : ℕ) → EndsSo P S W handling live own room shared (CanLay P W u order functions n)
  ends-so zero keep hold args g lo right scene = absurd right
  ends-so (suc n) keep hold args g lo right scene = the-end P S W keep hold args g lo (shared g) scene right.once right.readable.0 right.readable.1

  pub graph-fine : ((g : ℕ) → IsSized P g) → (n : ℕ) → DoesFine P S W handling live own room shared (graph_code P n) (GraphSet P S handling live own n) (CanLay P W u order functions n)
  graph-fine sized zero keep hold args g a lo right scene set fits next = absurd right
  graph-fine sized (suc n) keep hold args g a lo right scene set fits next =
      let steps = (sized g).0 in
      let cells = (sized g).1 in
      let z : a + P.size g ≡ a + nodes_size P (P.nodes g) = omega (arith, steps) in
      let x = nodes-fine (graph_code P n) (GraphSet P S handling live own n) (CanLay P W u order functions n) (graph-long P W u order functions sized n) (graph-fine sized n) (ends-so n) keep hold args g lo scene (P.nodes g) [] [] a lo
      (on-first P S W keep hold args g lo (shared g) scene) (puts-there P S W keep hold args g lo (shared g) scene right.once right.readable.0) (puts-owned P S W keep hold args g lo (shared g) scene right.once right.readable.0) right.readable.0 (shared g).last
      (shared g).there (shared g).owned right.kinds (shared g).kinds (shared g).inputs (omega (arith, fits, cells)) set
      (subst (λ pc. Opens W handling live own pc (live_in P S keep args g lo (known_after P.width [] (P.nodes g)) (taken_in P S g [] (P.nodes g))) (own_in P S hold args g lo (known_after P.width [] (P.nodes g)) (taken_in P S g [] (P.nodes g)))) z next) in
      (x.0, ((λ i e. begins-live P S W keep hold args g lo (shared g) scene i (x.1.0 i e)), λ i e. begins-own P S W keep hold args g lo (shared g) scene i (x.1.1 i e)))
