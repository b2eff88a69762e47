-- The ports of nodes that do a returns on what is collected.
use Rattle.std.proofs.Common.{◌≡◌, ℕ, suc, ◌+◌, ◌&&◌, ◌||◌, not, Bool, true, false, List, [], ◌∷◌, map, get_or, All, Option, Some, None, refl, sym, ap, ◌∙◌, subst, arith}
use Rattle.std.specs.Prelude.{is_some}
use Rattle.std.proofs.lemmas.List.Elements.{All-head, All-tail}
use Rattle.if1_graph.specs.declared.op.Grouping.{Grouping}
use Rattle.if1_graph.specs.declared.op.Simple.{Simple}
use Rattle.if1_graph.specs.declared.op.Simple.TheVariants as simple
use Rattle.graph_meaning.specs.Carried.{Unfilled}
use Rattle.graph_meaning.specs.Demand.{Fixed, Source}
use Rattle.graph_meaning.specs.Storage.{Storage}
use Rattle.run_code.specs.Made.{Plan}
use Rattle.plan_data.specs.Settings.{Shares}
use Rattle.plan_data.specs.declared.plan.PlanData.{PlanData}
use Rattle.plan_data.specs.Parts.{AreBelow, IsBelow}
use Rattle.plan_data.specs.Stands.{AreFed}
use Rattle.told_rows.specs.Returns.{ins_by, multiple, row_by, whole_in, whole_ins}
use Rattle.plan_builder.specs.declared.ways.Reading.{Reading}
use Rattle.plan_builder.specs.declared.ways.Reading.TheVariants as reading
use Rattle.plan_builder.specs.Nodes.{AreHandled, handled_by}
use Rattle.plan_builder.specs.Ways.{behind_by, kept_by, last_by, multiple_by, read_by, reading_by}
use Rattle.plan_builder.proofs.Multiples.{multiple-so}
use Rattle.port_feeds.specs.declared.filled.Filled.{Filled}
use Rattle.port_feeds.specs.Filled.{AreTold}
use Rattle.plan_nodes.proofs.Handling.{AreSources}
use Rattle.plan_nodes.specs.Ports.{collected_by, if_multiple, number_after, port_by, read_ports, row_read, whole_by, whole_ports}

-- ---- how a node of a row reads what fills its ports

pub data ReadsIs (plain : ℕ) : Simple → List Filled → Reading → Type 0 where
  is_final : (f : Filled) (j : ℕ) → ReadsIs plain simple.FinalValue (f ∷ []) (reading.Last j)
  is_kept : (f m : Filled) (j q : ℕ) → multiple_by plain f.feed ≡ Some j → ReadsIs plain simple.FinalValue (f ∷ m ∷ []) (reading.Kept j q)
  is_gather : (e f m : Filled) (j q : ℕ) → multiple_by plain e.feed ≡ None → multiple_by plain f.feed ≡ Some j → ReadsIs plain simple.AGather (e ∷ f ∷ m ∷ []) (reading.Kept j q)
  is_reduce : (r : Grouping) (e f m : Filled) (j q : ℕ) → multiple_by plain e.feed ≡ None → multiple_by plain f.feed ≡ Some j → ReadsIs plain (simple.Reduce r) (e ∷ f ∷ m ∷ []) (reading.Kept j q)
  is_whole : (row : Simple) (fs : List Filled) → ReadsIs plain row fs reading.Whole

last-is : (L : Reading → Type 0) (x : Option ℕ) → L reading.Whole → ((j : ℕ) → L (reading.Last j)) → L (last_by x)
last-is L None w k = w
last-is L (Some j) w k = k j

kept-is : (L : Reading → Type 0) (b : Bool) (x y : Option ℕ) → L reading.Whole → ((j q : ℕ) → x ≡ Some j → L (reading.Kept j q)) → L (kept_by b x y)
kept-is L false (Some j) (Some q) w k = k j q refl
kept-is L false (Some j) None w k = w
kept-is L false None y w k = w
kept-is L true x y w k = w

behind-is : (L : Reading → Type 0) (b : Bool) (i x y : Option ℕ) → L reading.Whole → ((j q : ℕ) → i ≡ None → x ≡ Some j → L (reading.Kept j q)) → L (behind_by b i x y)
behind-is L b None x y w k = kept-is L b x y w (λ j q e. k j q refl e)
behind-is L b (Some i) x y w k = w

pub reads-is : (plain : ℕ) (copies : Bool) (row : Simple) (fs : List Filled) → ReadsIs plain row fs (reading_by plain copies row (map port_by fs))
reads-is plain copies simple.FinalValue [] = is_whole simple.FinalValue []
reads-is plain copies simple.FinalValue (f ∷ []) = last-is (ReadsIs plain simple.FinalValue (f ∷ [])) (multiple_by plain f.feed) (is_whole simple.FinalValue (f ∷ [])) (λ j. is_final f j)
reads-is plain copies simple.FinalValue (f ∷ m ∷ []) =
    kept-is (ReadsIs plain simple.FinalValue (f ∷ m ∷ [])) copies (multiple_by plain f.feed) (multiple_by plain m.feed) (is_whole simple.FinalValue (f ∷ m ∷ [])) (λ j q e. is_kept f m j q e)
reads-is plain copies simple.FinalValue (f ∷ m ∷ n ∷ fs) = is_whole simple.FinalValue (f ∷ m ∷ n ∷ fs)
reads-is plain copies simple.AGather [] = is_whole simple.AGather []
reads-is plain copies simple.AGather (e ∷ []) = is_whole simple.AGather (e ∷ [])
reads-is plain copies simple.AGather (e ∷ f ∷ []) = is_whole simple.AGather (e ∷ f ∷ [])
reads-is plain copies simple.AGather (e ∷ f ∷ m ∷ []) =
    behind-is (ReadsIs plain simple.AGather (e ∷ f ∷ m ∷ [])) copies (multiple_by plain e.feed) (multiple_by plain f.feed) (multiple_by plain m.feed) (is_whole simple.AGather (e ∷ f ∷ m ∷ [])) (λ j q a b. is_gather e f m j q a b)
reads-is plain copies simple.AGather (e ∷ f ∷ m ∷ n ∷ fs) = is_whole simple.AGather (e ∷ f ∷ m ∷ n ∷ fs)
reads-is plain copies (simple.Reduce r) [] = is_whole (simple.Reduce r) []
reads-is plain copies (simple.Reduce r) (e ∷ []) = is_whole (simple.Reduce r) (e ∷ [])
reads-is plain copies (simple.Reduce r) (e ∷ f ∷ []) = is_whole (simple.Reduce r) (e ∷ f ∷ [])
reads-is plain copies (simple.Reduce r) (e ∷ f ∷ m ∷ []) =
    behind-is (ReadsIs plain (simple.Reduce r) (e ∷ f ∷ m ∷ [])) copies (multiple_by plain e.feed) (multiple_by plain f.feed) (multiple_by plain m.feed) (is_whole (simple.Reduce r) (e ∷ f ∷ m ∷ [])) (λ j q a b. is_reduce r e f m j q a b)
reads-is plain copies (simple.Reduce r) (e ∷ f ∷ m ∷ n ∷ fs) = is_whole (simple.Reduce r) (e ∷ f ∷ m ∷ n ∷ fs)
reads-is plain copies row fs = is_whole row fs

-- ---- rows

pub row-so : (r : Reading) (row : Simple) (os : List Source) → row_by (read_by r os) row ≡ row_read r row
row-so (reading.Last j) row os = refl
row-so (reading.Kept j q) row [] = refl
row-so (reading.Kept j q) row (o ∷ []) = refl
row-so (reading.Kept j q) row (o ∷ p ∷ []) = refl
row-so (reading.Kept j q) row (o ∷ p ∷ s ∷ []) = refl
row-so (reading.Kept j q) row (o ∷ p ∷ s ∷ t ∷ os) = refl
row-so reading.Whole row os = refl

-- ---- what fills the ports

module _ (D : PlanData) (P : Plan) (S : Shares) (g plain : ℕ) where
  whole-step : (k : ℕ) (f : Filled) (fs : List Filled) (o : Source) (os : List Source) → AreFed D P S g (port_by f ∷ []) (o ∷ []) → ((i : ℕ) → AreFed D P S g (whole_ports plain i fs) (whole_ins plain i os))
      → (x : Option ℕ) → AreFed D P S g (if_multiple x (collected_by plain k f) (port_by f) ∷ whole_ports plain (if_multiple x (suc k) k) fs) (whole_in plain k o x (λ i. whole_ins plain i os))
  whole-step k f fs o os fed rest None = (fed.0, rest k)
  whole-step k f fs o os fed rest (Some j) = (refl, rest (suc k))

  pub whole-fed : (k : ℕ) (fs : List Filled) (os : List Source) → AreSources D P S g fs os → AreFed D P S g (whole_ports plain k fs) (whole_ins plain k os)
  whole-fed k [] [] h = tt
  whole-fed k [] (o ∷ os) h = absurd h
  whole-fed k (f ∷ fs) [] h = absurd h
  whole-fed k (f ∷ fs) (o ∷ os) h =
      subst (λ x. AreFed D P S g (whole_by plain k f ∷ whole_ports plain (number_after plain k f) fs) (whole_in plain k o x (λ i. whole_ins plain i os))) (sym (multiple-so D P S g plain f.feed o h.0))
      (whole-step k f fs o os (h.0, tt) (λ i. whole-fed i fs os h.1) (multiple_by plain f.feed))

  pub reads-fed : (k : ℕ) (row : Simple) (fs : List Filled) (r : Reading) → ReadsIs plain row fs r → (os : List Source) → AreSources D P S g fs os → AreFed D P S g (read_ports r plain k fs) (ins_by (read_by r os) plain k os)
  reads-fed k _ _ _ (is_final f j) [] h = absurd h
  reads-fed k _ _ _ (is_final f j) (o ∷ os) h = (refl, tt)
  reads-fed k _ _ _ (is_kept f m j q e) [] h = absurd h
  reads-fed k _ _ _ (is_kept f m j q e) (o ∷ []) h = absurd h.1
  reads-fed k _ _ _ (is_kept f m j q e) (o ∷ p ∷ []) h = (refl, tt)
  reads-fed k _ _ _ (is_kept f m j q e) (o ∷ p ∷ s ∷ os) h = absurd h.1.1
  reads-fed k _ _ _ (is_gather d f m j q a b) [] h = absurd h
  reads-fed k _ _ _ (is_gather d f m j q a b) (o ∷ []) h = absurd h.1
  reads-fed k _ _ _ (is_gather d f m j q a b) (o ∷ p ∷ []) h = absurd h.1.1
  reads-fed k _ _ _ (is_gather d f m j q a b) (o ∷ p ∷ s ∷ []) h = (h.0, (refl, tt))
  reads-fed k _ _ _ (is_gather d f m j q a b) (o ∷ p ∷ s ∷ t ∷ os) h = absurd h.1.1.1
  reads-fed k _ _ _ (is_reduce x d f m j q a b) [] h = absurd h
  reads-fed k _ _ _ (is_reduce x d f m j q a b) (o ∷ []) h = absurd h.1
  reads-fed k _ _ _ (is_reduce x d f m j q a b) (o ∷ p ∷ []) h = absurd h.1.1
  reads-fed k _ _ _ (is_reduce x d f m j q a b) (o ∷ p ∷ s ∷ []) h = (h.0, (refl, tt))
  reads-fed k _ _ _ (is_reduce x d f m j q a b) (o ∷ p ∷ s ∷ t ∷ os) h = absurd h.1.1.1
  reads-fed k _ _ _ (is_whole row fs) os h = whole-fed k fs os h

-- ---- how they go

turned : (a b : Bool) → a || b ≡ b || a
turned true true = refl
turned true false = refl
turned false true = refl
turned false false = refl

-- where a port reads a multiple at all
module _ (plain : ℕ) (m : (port : ℕ) → Bool) where
  abbrev pub ReadsThere : (first : ℕ) → List Filled → Type 0
  ReadsThere i [] = Unit {0}
  ReadsThere i (f ∷ fs) = (m i ≡ is_some (multiple_by plain f.feed)) × ReadsThere (suc i) fs

  module _ (D : PlanData) (P : Plan) (S : Shares) (g : ℕ) where
    pub reads-there : (i : ℕ) (fs : List Filled) (os : List Source) → AreSources D P S g fs os → ((j : ℕ) → m (i + j) ≡ is_some (multiple plain (get_or os j (Fixed Unfilled)))) → ReadsThere i fs
    reads-there i [] [] h e = tt
    reads-there i [] (o ∷ os) h e = absurd h
    reads-there i (f ∷ fs) [] h e = absurd h
    reads-there i (f ∷ fs) (o ∷ os) h e =
        let a : i + 0 ≡ i = omega arith in
        (sym (ap m a) ∙ (e 0 ∙ ap is_some (multiple-so D P S g plain f.feed o h.0)), reads-there (suc i) fs os h.1 (λ j. let b : suc i + j ≡ i + suc j = omega arith in ap m b ∙ e (suc j)))

  module _ (s : Storage) (g l : ℕ) (T : (port : ℕ) → Bool) where
    abbrev pub C : (port : ℕ) → Bool
    C p = s.is_given g l p && s.is_aggregate g l p

    -- it takes what it reads of what has no parts, and by its mark
    abbrev pub TakesMore : Type 0
    TakesMore = (port : ℕ) → T port ≡ (m port && not (s.is_aggregate g l port)) || s.is_taken g l port

    module _ (more : TakesMore) where
      plain-port : (i : ℕ) (f : Filled) (fs : List Filled) → AreTold s g l i (f ∷ fs) → m i ≡ false → (port_by f).handled ≡ handled_by (T i) (C i)
      plain-port i f fs told e =
          ap (λ b. handled_by b f.consumed) (told.0.takes ∙ sym (more i ∙ ap (λ b. (b && not (s.is_aggregate g l i)) || s.is_taken g l i) e)) ∙ ap (handled_by (T i)) told.0.consumed

      collected-port : (i k : ℕ) (f : Filled) (fs : List Filled) → AreTold s g l i (f ∷ fs) → m i ≡ true → (collected_by plain k f).handled ≡ handled_by (T i) (C i)
      collected-port i k f fs told e =
          ap (λ b. handled_by b f.consumed)
          (ap (λ b. b || not f.aggregate) told.0.takes
          ∙ (ap (λ b. s.is_taken g l i || not b) told.0.aggregate
          ∙ (turned (s.is_taken g l i) (not (s.is_aggregate g l i)) ∙ sym (more i ∙ ap (λ b. (b && not (s.is_aggregate g l i)) || s.is_taken g l i) e))))
          ∙ ap (handled_by (T i)) told.0.consumed

      any-step : (i k : ℕ) (f : Filled) (fs : List Filled) → AreTold s g l i (f ∷ fs) → ((n : ℕ) → AreHandled handled_by T C (suc i) (whole_ports plain n fs))
          → (x : Option ℕ) → m i ≡ is_some x → AreHandled handled_by T C i (if_multiple x (collected_by plain k f) (port_by f) ∷ whole_ports plain (if_multiple x (suc k) k) fs)
      any-step i k f fs told rest None e = (plain-port i f fs told e, rest k)
      any-step i k f fs told rest (Some j) e = (collected-port i k f fs told e, rest (suc k))

      pub whole-handled : (i k : ℕ) (fs : List Filled) → AreTold s g l i fs → ReadsThere i fs → AreHandled handled_by T C i (whole_ports plain k fs)
      whole-handled i k [] told reads = tt
      whole-handled i k (f ∷ fs) told reads = any-step i k f fs told (λ n. whole-handled (suc i) n fs told.1 reads.1) (multiple_by plain f.feed) reads.0

      -- a last value is read of no multiple
      abbrev pub AreReads : Reading → List Filled → Type 0
      AreReads (reading.Last j) fs = m 1 ≡ false
      AreReads _ fs = ReadsThere 1 fs

      pub reads-handled : (k : ℕ) (row : Simple) (fs : List Filled) (r : Reading) → ReadsIs plain row fs r → AreTold s g l 1 fs → AreReads r fs → AreHandled handled_by T C 1 (read_ports r plain k fs)
      reads-handled k _ _ _ (is_final f j) told reads = (plain-port 1 f [] told reads, tt)
      reads-handled k _ _ _ (is_kept f x j q e) told reads = (collected-port 1 k f (x ∷ []) told (reads.0 ∙ ap is_some e), tt)
      reads-handled k _ _ _ (is_gather d f x j q a b) told reads = (plain-port 1 d (f ∷ x ∷ []) told (reads.0 ∙ ap is_some a), (collected-port 2 k f (x ∷ []) told.1 (reads.1.0 ∙ ap is_some b), tt))
      reads-handled k _ _ _ (is_reduce y d f x j q a b) told reads = (plain-port 1 d (f ∷ x ∷ []) told (reads.0 ∙ ap is_some a), (collected-port 2 k f (x ∷ []) told.1 (reads.1.0 ∙ ap is_some b), tt))
      reads-handled k _ _ _ (is_whole row fs) told reads = whole-handled 1 k fs told reads

-- ---- where outputs stand

module _ (cells plain : ℕ) where
  abbrev AllBelow : List Filled → Type 0
  AllBelow fs = All (λ f. IsBelow cells f.feed) fs

  first-below : (f : Filled) (fs : List Filled) → AllBelow (f ∷ fs) → IsBelow cells f.feed
  first-below f fs h = All-head (λ f. IsBelow cells f.feed) f fs h

  others-below : (f : Filled) (fs : List Filled) → AllBelow (f ∷ fs) → AllBelow fs
  others-below f fs h = All-tail (λ f. IsBelow cells f.feed) f fs h

  whole-one : (k : ℕ) (f : Filled) → IsBelow cells f.feed → (x : Option ℕ) → IsBelow cells (if_multiple x (collected_by plain k f) (port_by f)).feed
  whole-one k f h None = h
  whole-one k f h (Some j) = tt

  whole-below : (k : ℕ) (fs : List Filled) → AllBelow fs → AreBelow cells (whole_ports plain k fs)
  whole-below k [] h = tt
  whole-below k (f ∷ fs) h = (whole-one k f (first-below f fs h) (multiple_by plain f.feed), whole-below (number_after plain k f) fs (others-below f fs h))

  pub reads-below : (k : ℕ) (r : Reading) (fs : List Filled) → AllBelow fs → AreBelow cells (read_ports r plain k fs)
  reads-below k (reading.Last j) [] h = tt
  reads-below k (reading.Last j) (f ∷ fs) h = (tt, tt)
  reads-below k (reading.Kept j q) [] h = tt
  reads-below k (reading.Kept j q) (f ∷ []) h = (tt, tt)
  reads-below k (reading.Kept j q) (f ∷ x ∷ []) h = (tt, tt)
  reads-below k (reading.Kept j q) (f ∷ x ∷ y ∷ fs) h = (first-below f (x ∷ y ∷ fs) h, (tt, tt))
  reads-below k reading.Whole fs h = whole-below k fs h
