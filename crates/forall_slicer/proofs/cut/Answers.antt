use Rattle.std.proofs.Common.{◌≡◌, ◌+◌, length, map, arith, ◌∙◌, [], ◌∷◌, ◌++◌, sym, ap, subst}
use Rattle.std.proofs.lemmas.List.FromFn.{length-map-range_with_len, map-range_with_len_more}
use Rattle.std.specs.List.{range_with_len}
use Rattle.forall_slicer.specs.Slices.{nth_slice, Joins}
use Rattle.forall_slicer.proofs.Joining.{all_join}
use Rattle.forall_slicer.proofs.cut.Goals as goal

pub loop-k-preserved : goal.loop-k-preserved
loop-k-preserved c =
    let k = c.loop-k.k in
    let f = nth_slice c.args.n c.min-count.result in
    let more : map f (range_with_len 0 (k + 1)) ≡ map f (range_with_len 0 k) ++ f k ∷ [] = map-range_with_len_more f 0 k k (omega arith) in
    grind (arith, c.in_ok-add.ensures.ok, c.loop-k.invariant, more, c.cut_point.ensures, c.cut_point-in-loop-k.ensures)

pub returns-clause-joins : goal.returns-clause-joins
returns-clause-joins c =
    let count = c.min-count.result in
    let at_end : c.loop-k.k ≡ count = omega arith in
    let all : c.loop-k.found ≡ map (nth_slice c.args.n count) (range_with_len 0 count) =
    c.loop-k.invariant ∙ ap (λ k. map (nth_slice c.args.n count) (range_with_len 0 k)) at_end in
    subst (λ found. Joins 0 c.args.n found) (sym all) (all_join c.args.n count (omega arith) (λ some. omega arith))

pub returns-clause-few : goal.returns-clause-few
returns-clause-few c =
    let as_many : length c.loop-k.found ≡ c.loop-k.k =
    ap length c.loop-k.invariant ∙ length-map-range_with_len (nth_slice c.args.n c.min-count.result) 0 c.loop-k.k in
    omega arith
