use Rattle.std.proofs.Common.{◌∙◌, length, sym, ap}
use Rattle.std.specs.List.{list_all}
use Rattle.mean_call.specs.Known.{is_known, known_types}
use Rattle.mean_call.proofs.ToldTypes.{known_entry, unknown_entry}
use Rattle.mean_call.proofs.entry.find_entry.Goals as goal

pub returns-then-are_known : goal.returns-then-are_known
returns-then-are_known c =
    let p = c.args.program.now in
    let known = c.as_slice.ensures ∙ (c.in_ok-known.ensures ∙ ap (λ n. known_types n p.types) c.len.ensures) in
    let all = c.are_known.ensures ∙ (ap (λ k. list_all (is_known k) c.params_of.result.now) known ∙ ap (list_all (is_known (known_types (length p.names) p.types))) c.params_of.ensures) in
    known_entry p c.args.word.now c.in-Some.function (sym c.entry.ensures ∙ c.in-Some.is) c.holds.ensures (sym all ∙ c.if-are_known.true)

pub returns : goal.returns
returns c =
    let p = c.args.program.now in
    let known = c.as_slice.ensures ∙ (c.in_ok-known.ensures ∙ ap (λ n. known_types n p.types) c.len.ensures) in
    let all = c.are_known.ensures ∙ (ap (λ k. list_all (is_known k) c.params_of.result.now) known ∙ ap (list_all (is_known (known_types (length p.names) p.types))) c.params_of.ensures) in
    unknown_entry p c.args.word.now c.in-Some.function (sym c.entry.ensures ∙ c.in-Some.is) c.holds.ensures (sym all ∙ c.if-are_known.false)
