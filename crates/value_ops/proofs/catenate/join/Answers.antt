use Rattle.std.proofs.Common.{◌≡◌, ◌++◌, true, map, length, min, Some, sym, ap, ◌∙◌, arith, rules, length-append}
use Rattle.std.specs.Option.{option_map, is_some}
use Rattle.std.specs.List.{flat_map}
use Rattle.value_ops.specs.Operand.{value_of, items_of}
use Rattle.value_ops.specs.Aggregates.{or_explicit, joined}
use Rattle.value_ops.specs.Catenation.{items_in, all_in, whole_in}
use Rattle.value_ops.proofs.Joinings.{all_in-is}
use Rattle.value_ops.proofs.catenate.join.Goals as goal

pub returns-in-Err : goal.returns-in-Err
returns-in-Err c =
    let j = c.args.joining in
    let first = items_of c.args.first in
    let vs = map value_of c.args.rest.items in
    let more = flat_map (items_in j) vs in
    let some : is_some (all_in j vs) ≡ true = search (rules, c.if-not-are_all.ensures, c.as_slice.ensures.value) in
    let all : all_in j vs ≡ Some more = all_in-is j vs some in
    let here : c.slice_of.result.now ≡ first = search (rules, c.slice_of.ensures) in
    let rest : c.count_all.result ≡ min (length more) 18446744073709551615 = search (rules, c.count_all.ensures, c.as_slice-2.ensures.value) in
    let count : c.saturating_add-count.result ≡ min (length (first ++ more)) 18446744073709551615 =
    omega (arith, rest, ap length here, length-append first more) in
    let error : c.in-Err.error ≡ whole_in j (first ++ more) = c.in-Err.ensures (first ++ more) count in
    error ∙ sym (ap (λ o. or_explicit (option_map (whole_in j) (joined (Some first) o))) all)

pub returns : goal.returns
returns c =
    let j = c.args.joining in
    let first = items_of c.args.first in
    let vs = map value_of c.args.rest.items in
    let some : is_some (all_in j vs) ≡ true = search (rules, c.if-not-are_all.ensures, c.as_slice.ensures.value) in
    let all : all_in j vs ≡ Some (flat_map (items_in j) vs) = all_in-is j vs some in
    let items : c.in_ok-items.items ≡ first ++ flat_map (items_in j) vs = search (rules, c.in_ok-items.ensures, c.in_ok-kept_items.ensures) in
    c.whole.ensures ∙ ap (whole_in j) items ∙ sym (ap (λ o. or_explicit (option_map (whole_in j) (joined (Some first) o))) all)
