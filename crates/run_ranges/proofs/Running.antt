-- Ranges in runs of code are those of the laws.
use Rattle.std.proofs.Common.{◌≡◌, ℕ, ◌+◌, ◌<◌, ◌⊎◌, List, [], inl, inr, true, refl, sym, ap, ◌∙◌}
use Rattle.run_code.specs.Coded.{Layout}
use Rattle.run_code.specs.Machine.{Weigh, counter}
use Rattle.run_code.specs.Steps as steps
use Rattle.run_code.specs.Machine as machine
use Rattle.run_store.specs.Lively.{IsSupplied, Live}
use Rattle.run_store.specs.Stored as stored
use Rattle.run_store.specs.Whole.{ReachesStored, StopsStored, rests, walks}
use Rattle.step_code.specs.declared.code.Code.{Code}
use Rattle.step_code.specs.Laid.{code_of, handling_of}
use Rattle.sequential.specs.Loading.{AreLentBelow}
use Rattle.sequential_run.specs.Runs.{Reaches, weigh_of}
use Rattle.sequential_run.specs.Whole.{step_at}
use Rattle.sequential_range.specs.Ranges.{IsBefore, ReachesFirst, rests_there, walks_on}
use Rattle.sequential_range.specs.Ranges as ranges
use Rattle.graph_meaning.specs.Carried.{Carried}
use Rattle.run_laws.specs.Facts.{Fact, Preserves}
use Rattle.run_store.specs.Refines.{IsHandled}
use Rattle.run_ranges.specs.Owned.{ComesFirst, Has, StandsBefore, comes, has_come}
use Rattle.run_ranges.specs.Agreeing.{AreAgreeingRangesOfRecord, DoAgreeingRangesAloneBegin, DoAgreeingRangesBegin, DoesAs}
use Rattle.run_ranges.specs.Alone.{DoRangesAloneBegin, collections_at, only_from}
use Rattle.run_ranges.proofs.Alone.{ranges-alone-decided}
use Rattle.run_ranges.specs.Ranges.{ForAllAt, count_of, iterations}
use Rattle.run_ranges.specs.Runs.{AreRangesOfCodeOfRecord, DoRangesOfCodeBegin, DoRangesOfRunsBegin}
use Rattle.run_ranges.proofs.Meeting.{has-alike, ranges-decided, ranges-of-record}
use Rattle.run_ranges.proofs.Owners.{alike-on}
use Rattle.run_ranges.proofs.Stepped.{count-kept, counting-is, each-of}

pub ranges-of-runs-begin : DoRangesOfRunsBegin
ranges-of-runs-begin code limit m s t each base last b r before = record { at = b.at; decided = inl (t, record { reaches = r; lent = λ u come on. b.lends u come }, before) }

module _ (X : Layout) (handling : ℕ → stored.Handling) (code : Code) (f : ForAllAt X) (limit base last : ℕ) (does : DoesAs X handling code limit) where
  abbrev each : ℕ
  each = (iterations X f).each

  counts-at : ranges.count_of (step_at code each) ≡ count_of (iterations X f)
  counts-at =
      let r = iterations X f in
      let e = each-of X f.room f.args f.generator f.body f.returns f.many f.own f.width f.begin f.end f.low f.is in
      let h = counting-is code (step_at code each) r.multiples r.first (count_of r) r.turn e.0 (does.steps each ∙ e.1) in
      ap ranges.count_of h.is

  pub keeps-count : (handling each).keeps (count_of (iterations X f)) ≡ true
  keeps-count =
      let r = iterations X f in
      let e = each-of X f.room f.args f.generator f.body f.returns f.many f.own f.width f.begin f.end f.low f.is in
      let h = counting-is code (step_at code each) r.multiples r.first (count_of r) r.turn e.0 (does.steps each ∙ e.1) in
      sym (does.keeps each (count_of r)) ∙ count-kept code (step_at code each) r.multiples r.first (count_of r) r.turn e.0 h

  pub stands-of : (begun : ℕ) (s : stored.Stored) → IsBefore code each base begun s → StandsBefore X f base begun s
  stands-of begun s h = record { pc_is = h.here; base_is = h.block; calls_are = h.alone; counted = ap (λ c. s.heap (base + c)) (sym counts-at) ∙ h.counted }

  before-of : (begun : ℕ) (s : stored.Stored) → StandsBefore X f base begun s → IsBefore code each base begun s
  before-of begun s h = record { here = h.pc_is; block = h.base_is; alone = h.calls_are; counted = ap (λ c. s.heap (base + c)) counts-at ∙ h.counted }

  pub first-of : (s t : stored.Stored) → ReachesFirst code limit each base last s t → ComesFirst X f handling limit base last s t
  first-of _ _ (rests_there s) = has_come s
  first-of _ _ (walks_on s u t not e more) = comes s u t (λ h. not (before-of last s h)) (sym (does.same s) ∙ e) (first-of u t more)

  -- the other way round, for whole ways
  reaches-of : (s t : stored.Stored) → ComesFirst X f handling limit base last s t → Reaches code limit s t
  reaches-of _ _ (has_come s) = rests s
  reaches-of _ _ (comes s u t not e more) = walks s u t (does.same s ∙ e) (reaches-of u t more)

  reaches-as : (s t : stored.Stored) → ReachesStored X.weigh limit X.code handling s t → Reaches code limit s t
  reaches-as _ _ (rests s) = rests s
  reaches-as _ _ (walks s u t e more) = walks s u t (does.same s ∙ e) (reaches-as u t more)

  reaches-to : (s t : stored.Stored) → Reaches code limit s t → ReachesStored X.weigh limit X.code handling s t
  reaches-to _ _ (rests s) = rests s
  reaches-to _ _ (walks s u t e more) = walks s u t (sym (does.same s) ∙ e) (reaches-to u t more)

  -- on its way, or to the limit
  pub begun-so : (live own : Live) (s : stored.Stored) → ((u : stored.Stored) → Reaches code limit s u → AreLentBelow u.base u.heap) → (cost : ℕ)
      → ((t : stored.Stored) × ComesFirst X f handling limit base last s t × StandsBefore X f base last t × IsSupplied live own t) ⊎ (StopsStored X handling limit s × (limit < cost))
      → ranges.IsDecided code limit each base last s
  begun-so live own s lent cost (inl h) = inl (h.0, record { reaches = reaches-of s h.0 h.1; lent = λ u come on. lent u come }, before-of last h.0 h.2)
  begun-so live own s lent cost (inr h) = inr (h.0.0, record { reaches = reaches-as s h.0.0 h.0.1; lent = λ u come on. lent u come }, does.same h.0.0 ∙ h.0.2)

  -- wherever it comes from there, it lends below its block
  pub lent-on : (facts : ℕ → List Fact) → ((pc : ℕ) → IsHandled X.weigh facts pc (X.code pc) (handling pc)) → ((pc : ℕ) → Preserves facts pc (X.code pc))
      → (s : stored.Stored) (ks ms cols : List Carried) (i : ℕ) → Has X f facts base i s ks ms cols → (u : stored.Stored) → Reaches code limit s u → AreLentBelow u.base u.heap
  lent-on facts handled preserves s ks ms cols i has u come i' j v e =
      let start = has-alike X handling facts limit handled preserves f base i s ks ms cols has in
      let q = alike-on X limit handling facts handled preserves s u (reaches-to s u come) (machine.at each base has.cells [] s.fires) start in
      let g = q.1 in
      let fits = g.fits in
      let x = fits.refers i' j v e in
      (x.0, x.1)

-- ---- code that does the same

pub ranges-that-agree-of-record : AreAgreeingRangesOfRecord
ranges-that-agree-of-record p X handling code facts live own limit does is orderly inorder f apart base s t ks ms cols i k has long full results cost rows le first before =
    ranges-of-record p X handling facts live own limit is orderly inorder f apart (keeps-count X handling code f limit base (i + k) does) base s t ks ms cols i k has long full results cost rows le
    (first-of X handling code f limit base (i + k) does s t first) (stands-of X handling code f limit base (i + k) does (i + k) t before)

pub ranges-that-agree-begin : DoAgreeingRangesBegin
ranges-that-agree-begin p X handling code facts live own limit does is orderly inorder f apart base s ks ms cols i k has supplied long full results cost rows m at_s =
    record {
      at = at_s;
      decided = begun-so X handling code f limit base (i + k) does live own s (lent-on X handling code f limit base (i + k) does facts is.handled is.preserves s ks ms cols i has) (s.fires + cost)
          (ranges-decided p X handling facts live own limit is orderly inorder f apart (keeps-count X handling code f limit base (i + k) does) base s ks ms cols i k has supplied long full results cost rows);
    }

pub ranges-alone-that-agree-begin : DoAgreeingRangesAloneBegin
ranges-alone-that-agree-begin p X handling code facts live own limit does is orderly inorder f apart above base s ks ms cols i k has supplied long full results cost rows m at_s =
    record {
      at = at_s;
      decided = begun-so X handling code f limit base (i + k) does live (only_from (collections_at (iterations X f)) own) s (lent-on X handling code f limit base (i + k) does facts is.handled is.preserves s ks ms cols i has) (s.fires + cost)
          (ranges-alone-decided p X handling facts live own limit is orderly inorder f apart above (keeps-count X handling code f limit base (i + k) does) base s ks ms cols i k has supplied long full results cost rows);
    }

-- ---- code that is the same

does-itself : (X : Layout) (code : Code) (limit : ℕ) → X.code ≡ code_of code → X.weigh ≡ weigh_of code → DoesAs X (handling_of code) code limit
does-itself X code limit same weighs =
    record {
      steps = λ pc. sym (ap (λ (c : steps.Code). c pc) same);
      keeps = λ pc cell. refl;
      same = λ s. sym (ap (λ (w : Weigh). stored.step_stored w limit X.code (handling_of code) s) weighs ∙ ap (λ (c : steps.Code). stored.step_stored (weigh_of code) limit c (handling_of code) s) same);
    }

pub ranges-of-code : AreRangesOfCodeOfRecord
ranges-of-code p X code facts live own limit same weighs = ranges-that-agree-of-record p X (handling_of code) code facts live own limit (does-itself X code limit same weighs)

pub ranges-of-code-begin : DoRangesOfCodeBegin
ranges-of-code-begin p X code facts live own limit same weighs = ranges-that-agree-begin p X (handling_of code) code facts live own limit (does-itself X code limit same weighs)

pub ranges-alone-begin : DoRangesAloneBegin
ranges-alone-begin p X code facts live own limit same weighs = ranges-alone-that-agree-begin p X (handling_of code) code facts live own limit (does-itself X code limit same weighs)
