-- Why an IF1 text is refused.
use Rattle.std.proofs.Common.{◌≡◌, ◌≤◌, ◌<◌, ◌∙◌, ℕ, List, ◌∷◌, All, Contains, refl, sym, ap, subst, arith, ◌⊎◌, inl, inr}
use Rattle.std.proofs.lemmas.List.Elements.{All-contains, Contains-append_right}
use Rattle.if1_graph.specs.declared.graph.Graph.TheViews.{out-Graph}
use Rattle.if1_graph.specs.declared.graph.Unit1.{Unit1}
use Rattle.if1_graph.specs.Reads.{ReadsIf1}
use Rattle.if1_graph.specs.Ports.{ArePortsRight}
use Rattle.if1_graph.specs.Typing.{AreTypesRight}
use Rattle.if1_graph.specs.Ready.{AtEachEnd, IsBroken, IsOrdered, IsAcyclic, PortsHold, TypesHold, BreaksPorts, BreaksTypes, IsOnCycle, IsReady}
use Rattle.if1_graph.specs.Units.{Place, places, number_of, ends}
use Rattle.if1_marks.specs.Sound.{IsSound}
use Rattle.if1_marks.specs.Faults.{IsToBlame}
use Rattle.if1_read.specs.Faults.{rows_of, rank, NamesFault, IsUnclosed}
use Rattle.if1_read.specs.Laws.{AcceptedHasNoFault}
use Rattle.if1_read.specs.declared.fault.Kind.{Kind}
use Rattle.if1_read.specs.declared.fault.Kind.TheVariants.{Bad, Unknown, Real, TooMany}
use Rattle.if1_unique.specs.Laws.{IsOneUnit}
use Rattle.if1_call.specs.Calls.{IsRefusedFor}
use Rattle.mark_check.specs.Entries.{IsFirst, IsWrong, entries}
use Rattle.mark_check.specs.Least.{IsLeastOf}
use Rattle.mark_check.specs.Marks.{HasWrongEntry, HasWrongTaker, IsListFault, IsTakerFault, IsFirstFault}
use Rattle.mark_check.specs.Takers.{IsWrongTaker, IsFirstTaker}
use Rattle.mark_check.specs.declared.marks.MarkFault.TheVariants as mark
use Rattle.mark_check.specs.declared.takers.BadTaker.{BadTaker}
use Rattle.sisal_top.specs.Status.{if1_fault}
use Rattle.sisal_top.specs.declared.status.Status.TheVariants as status
use Rattle.sisal_top.specs.declared.status.UnitFault.{UnitFault}
use Rattle.sisal_top.specs.declared.status.UnitFault.TheVariants as unit
use Rattle.answer_laws.specs.Alike.{AreAlike, cycles, ports, types}
use Rattle.answer_laws.proofs.Firsts.{first_one}
use Rattle.answer_laws.proofs.Syntaxes.{alike_if}

-- ---- lines

-- the fault of a line by its kind
abbrev pub line_fault : Kind → ℕ → UnitFault
line_fault Bad n = unit.BadLine n
line_fault Unknown n = unit.Unknown n
line_fault Real n = unit.Real n
line_fault TooMany n = unit.TooMany n

same_kind : (k j : Kind) → rank k ≡ rank j → k ≡ j
same_kind Bad Bad e = refl
same_kind Bad Unknown e = cc
same_kind Bad Real e = cc
same_kind Bad TooMany e = cc
same_kind Unknown Bad e = cc
same_kind Unknown Unknown e = refl
same_kind Unknown Real e = cc
same_kind Unknown TooMany e = cc
same_kind Real Bad e = cc
same_kind Real Unknown e = cc
same_kind Real Real e = refl
same_kind Real TooMany e = cc
same_kind TooMany Bad e = cc
same_kind TooMany Unknown e = cc
same_kind TooMany Real e = cc
same_kind TooMany TooMany e = refl

named_one : (text : List ℕ) (n m : ℕ) (k j : Kind) → NamesFault (rows_of text) n k → NamesFault (rows_of text) m j → line_fault k n ≡ line_fault j m
named_one text n m k j p q = by (p.first m j q.fault) (q.first n k p.fault)
  where
    by : (n < m) ⊎ ((n ≡ m) × (rank k ≤ rank j)) → (m < n) ⊎ ((m ≡ n) × (rank j ≤ rank k)) → line_fault k n ≡ line_fault j m
    by (inl a) (inl b) = absurd (omega (arith, a, b))
    by (inl a) (inr b) = let e = b.0 in absurd (omega (arith, a, e))
    by (inr a) (inl b) = let e = a.0 in absurd (omega (arith, b, e))
    by (inr a) (inr b) =
        let x = a.1 in
        let y = b.1 in
        let r : rank k ≡ rank j = omega (arith, x, y) in
        ap (λ i. line_fault i n) (same_kind k j r) ∙ ap (λ i. line_fault j i) a.0

-- ---- marks

holds_there : {A : Type 0} (P : A → Type 0) (xs : List A) (x : A) → All (λ y. ¬ P y) xs → IsFirst P xs x → ⊥
holds_there P xs x none f =
    All-contains (λ y. ¬ P y) xs x none (subst (λ l. Contains l x) (sym f.is) (Contains-append_right f.before (x ∷ f.after) x (0, omega arith, refl))) f.holds

list_one : (u : Unit1) (g n p r h m o s : ℕ) → IsListFault u g n p r → IsListFault u h m o s → unit.Marks g n p r ≡ unit.Marks h m o s
list_one u g n p r h m o s a b =
    let place : a.place ≡ b.place = first_one HasWrongEntry (places u) a.place b.place a.first b.first in
    let moved : IsFirst (IsWrong b.place.graph) (entries (out-Graph b.place.graph).nodes) (n, r) = subst (λ (x : Place). IsFirst (IsWrong x.graph) (entries (out-Graph x.graph).nodes) (n, r)) place a.entry in
    let x : ℕ × ℕ = (n, r) in
    let y : ℕ × ℕ = (m, s) in
    let pair : x ≡ y = first_one (IsWrong b.place.graph) (entries (out-Graph b.place.graph).nodes) x y moved b.entry in
    ap (λ i. unit.Marks i n p r) (sym a.number ∙ ap number_of place ∙ b.number)
    ∙ ap (λ (x : ℕ × ℕ). unit.Marks h x.0 p x.1) pair
    ∙ ap (λ i. unit.Marks h m i s) (a.no_port ∙ sym b.no_port)

least_one : (P : ℕ → Type 0) (l m : ℕ) → IsLeastOf P l → IsLeastOf P m → l ≡ m
least_one P l m a b = let x = a.least m b.holds in let y = b.least l a.holds in omega (arith, x, y)

taker_one : (u : Unit1) (g n p r h m o s : ℕ) → IsTakerFault u g n p r → IsTakerFault u h m o s → unit.Marks g n p r ≡ unit.Marks h m o s
taker_one u g n p r h m o s a b =
    let place : a.place ≡ b.place = first_one (HasWrongTaker u) (places u) a.place b.place a.first b.first in
    let t : BadTaker = record { node = n; port = p; reader = r } in
    let moved : IsFirstTaker u b.place t = subst (λ (x : Place). IsFirstTaker u x t) place a.taker in
    let edge : moved.edge ≡ b.taker.edge = first_one (IsWrongTaker u b.place) (out-Graph b.place.graph).edges moved.edge b.taker.edge moved.first b.taker.first in
    let reader : r ≡ s = least_one (IsToBlame u b.place b.taker.edge) r s (subst (λ e. IsLeastOf (IsToBlame u b.place e) r) edge moved.reader) b.taker.reader in
    ap (λ i. unit.Marks i n p r) (sym a.number ∙ ap number_of place ∙ b.number)
    ∙ ap (λ i. unit.Marks h i p r) (moved.node ∙ ap (λ e. e.node) edge ∙ sym b.taker.node)
    ∙ ap (λ i. unit.Marks h m i r) (moved.port ∙ ap (λ e. e.port) edge ∙ sym b.taker.port)
    ∙ ap (λ i. unit.Marks h m o i) reader

marks_one : (u : Unit1) (g n p r h m o s : ℕ) → IsFirstFault u (mark.BadMark g n p r) → IsFirstFault u (mark.BadMark h m o s) → unit.Marks g n p r ≡ unit.Marks h m o s
marks_one u g n p r h m o s (inl a) (inl b) = list_one u g n p r h m o s a b
marks_one u g n p r h m o s (inl a) (inr b) = absurd (holds_there HasWrongEntry (places u) a.place b.lists a.first)
marks_one u g n p r h m o s (inr a) (inl b) = absurd (holds_there HasWrongEntry (places u) b.place a.lists b.first)
marks_one u g n p r h m o s (inr a) (inr b) = taker_one u g n p r h m o s a b

-- ---- rules at nodes

-- a rule that holds at each end is broken at none
not_broken : (u : Unit1) (rule : Place → ℕ → Type 0) (g n : ℕ) → AtEachEnd u rule → IsBroken u rule g n → ⊥
not_broken u rule g n h b =
    b.4 (All-contains (rule b.0) (ends b.0.graph) n (All-contains (λ p. All (rule p) (ends p.graph)) (places u) b.0 h b.1) b.3)

no_cycle : (u : Unit1) (g n : ℕ) → IsAcyclic u → IsOnCycle u g n → ⊥
no_cycle u g n h b =
    All-contains (IsOrdered b.0) (ends b.0.graph) n (All-contains (λ p. All (IsOrdered p) (ends p.graph)) (places u) b.0 h b.1) b.3 b.4

-- ---- a unit

-- why a unit that is read is refused
data Verdict (u : Unit1) : UnitFault → Type 0 where
  bad_ports : {g n : ℕ} → BreaksPorts u g n → Verdict u (unit.Ports g n)
  bad_types : {g n : ℕ} → PortsHold u → BreaksTypes u g n → Verdict u (unit.TypeOf g n)
  a_cycle : {g n : ℕ} → PortsHold u → TypesHold u → IsOnCycle u g n → Verdict u (unit.Cycle g n)
  bad_marks : {g n p r : ℕ} → IsReady u → IsFirstFault u (mark.BadMark g n p r) → ¬ IsSound u → Verdict u (unit.Marks g n p r)

-- a ready unit is refused for its marks alone
ready_verdict : (u : Unit1) (f : UnitFault) → IsReady u → Verdict u f → ¬ IsSound u
ready_verdict u _ r (bad_ports {g = g} {n = n} b) = absurd (not_broken u (ArePortsRight u) g n r.ports b)
ready_verdict u _ r (bad_types {g = g} {n = n} h b) = absurd (not_broken u (AreTypesRight u) g n r.types b)
ready_verdict u _ r (a_cycle {g = g} {n = n} h t c) = absurd (no_cycle u g n r.acyclic c)
ready_verdict u _ r (bad_marks q f n) = n

verdict_one : (u : Unit1) (f g : UnitFault) → Verdict u f → Verdict u g → AreAlike (status.If1 f) (status.If1 g)
verdict_one u _ _ (bad_ports b) (bad_ports c) = ports
verdict_one u _ _ (bad_ports {g = g} {n = n} b) (bad_types h c) = absurd (not_broken u (ArePortsRight u) g n h b)
verdict_one u _ _ (bad_ports {g = g} {n = n} b) (a_cycle h t c) = absurd (not_broken u (ArePortsRight u) g n h b)
verdict_one u _ _ (bad_ports {g = g} {n = n} b) (bad_marks r f m) = absurd (not_broken u (ArePortsRight u) g n r.ports b)
verdict_one u _ _ (bad_types h b) (bad_ports {g = g} {n = n} c) = absurd (not_broken u (ArePortsRight u) g n h c)
verdict_one u _ _ (bad_types h b) (bad_types k c) = types
verdict_one u _ _ (bad_types {g = g} {n = n} h b) (a_cycle k t c) = absurd (not_broken u (AreTypesRight u) g n t b)
verdict_one u _ _ (bad_types {g = g} {n = n} h b) (bad_marks r f m) = absurd (not_broken u (AreTypesRight u) g n r.types b)
verdict_one u _ _ (a_cycle h t c) (bad_ports {g = g} {n = n} b) = absurd (not_broken u (ArePortsRight u) g n h b)
verdict_one u _ _ (a_cycle h t c) (bad_types {g = g} {n = n} k b) = absurd (not_broken u (AreTypesRight u) g n t b)
verdict_one u _ _ (a_cycle h t c) (a_cycle k s d) = cycles
verdict_one u _ _ (a_cycle {g = g} {n = n} h t c) (bad_marks r f m) = absurd (no_cycle u g n r.acyclic c)
verdict_one u _ _ (bad_marks r f m) (bad_ports {g = g} {n = n} b) = absurd (not_broken u (ArePortsRight u) g n r.ports b)
verdict_one u _ _ (bad_marks r f m) (bad_types {g = g} {n = n} h b) = absurd (not_broken u (AreTypesRight u) g n r.types b)
verdict_one u _ _ (bad_marks r f m) (a_cycle {g = g} {n = n} h t c) = absurd (no_cycle u g n r.acyclic c)
verdict_one u _ _ (bad_marks {g = g} {n = n} {p = p} {r = l} r f m) (bad_marks {g = h} {n = k} {p = o} {r = s} q e j) =
    alike_if (status.If1 (unit.Marks g n p l)) (status.If1 (unit.Marks h k o s)) (ap status.If1 (marks_one u g n p l h k o s f e))

-- ---- a text

-- the stages of a refusal
data Stage (text : List ℕ) (f : UnitFault) : Type 0 where
  a_line : (n : ℕ) (k : Kind) → line_fault k n ≡ f → NamesFault (rows_of text) n k → Stage text f
  unclosed : unit.Unclosed ≡ f → IsUnclosed (rows_of text) → Stage text f
  a_unit : (u : Unit1) → ReadsIf1 text u → Verdict u f → Stage text f

stage : (text : List ℕ) (f : UnitFault) → IsRefusedFor text (if1_fault f) → Stage text f
stage text (unit.BadLine l) p = a_line l Bad refl p
stage text (unit.Unknown l) p = a_line l Unknown refl p
stage text (unit.Real l) p = a_line l Real refl p
stage text (unit.TooMany l) p = a_line l TooMany refl p
stage text unit.Unclosed p = unclosed refl p
stage text (unit.Cycle g n) p = a_unit p.unit p.read (a_cycle p.refused.0 p.refused.1 p.refused.2)
stage text (unit.Ports g n) p = a_unit p.unit p.read (bad_ports p.refused)
stage text (unit.TypeOf g n) p = a_unit p.unit p.read (bad_types p.refused.0 p.refused.1)
stage text (unit.Marks g n o r) p = a_unit p.unit p.read (bad_marks p.ready p.first p.unsound)

module _ (accepted : AcceptedHasNoFault) (one : IsOneUnit) (text : List ℕ) where
  no_line : (u : Unit1) (n : ℕ) (k : Kind) → ReadsIf1 text u → NamesFault (rows_of text) n k → ⊥
  no_line u n k r p = (accepted text u r).0 n k p.fault

  stages_one : (f g : UnitFault) → Stage text f → Stage text g → AreAlike (status.If1 f) (status.If1 g)
  stages_one f g (a_line n k e p) (a_line m j d q) = alike_if (status.If1 f) (status.If1 g) (ap status.If1 (sym e ∙ named_one text n m k j p q ∙ d))
  stages_one f g (a_line n k e p) (unclosed d q) = absurd (q.clean n k p.fault)
  stages_one f g (a_line n k e p) (a_unit u r v) = absurd (no_line u n k r p)
  stages_one f g (unclosed e p) (a_line n k d q) = absurd (p.clean n k q.fault)
  stages_one f g (unclosed e p) (unclosed d q) = alike_if (status.If1 f) (status.If1 g) (ap status.If1 (sym e ∙ d))
  stages_one f g (unclosed e p) (a_unit u r v) = absurd ((accepted text u r).1 p)
  stages_one f g (a_unit u r v) (a_line n k d q) = absurd (no_line u n k r q)
  stages_one f g (a_unit u r v) (unclosed d q) = absurd ((accepted text u r).1 q)
  stages_one f g (a_unit u r v) (a_unit w s x) = verdict_one w f g (subst (λ z. Verdict z f) (one text u w r s) v) x

  -- a text is refused for one fault
  pub faults_one : (f g : UnitFault) → IsRefusedFor text (if1_fault f) → IsRefusedFor text (if1_fault g) → AreAlike (status.If1 f) (status.If1 g)
  faults_one f g p q = stages_one f g (stage text f p) (stage text g q)

  ready_stage : (f : UnitFault) → Stage text f → (u : Unit1) → ReadsIf1 text u → IsReady u → ¬ IsSound u
  ready_stage f (a_line n k e p) u r y = absurd (no_line u n k r p)
  ready_stage f (unclosed e p) u r y = absurd ((accepted text u r).1 p)
  ready_stage f (a_unit w s v) u r y = ready_verdict u f y (subst (λ z. Verdict z f) (one text w u s r) v)

  -- a text that gives a ready unit is refused for its marks alone
  pub ready_refused : (f : UnitFault) → IsRefusedFor text (if1_fault f) → (u : Unit1) → ReadsIf1 text u → IsReady u → ¬ IsSound u
  ready_refused f p u r y = ready_stage f (stage text f p) u r y
