use Rattle.std.proofs.Common.{◌∙◌, ap, sym, ◌-◌}
use Rattle.std.specs.Prelude.{Some, None, slice_get, unwrap_or}
use Rattle.source_meaning.proofs.Renewals.{three_parts, renewed_one}
use Rattle.source_meaning.proofs.loops.renew_last.Goals as goal

pub returns-in-Some-clause-same : goal.returns-in-Some-clause-same
returns-in-Some-clause-same c =
    let ys = c.args.names.now in
    renewed_one c.args.mark c.args.height c.args.renewed.now ys c.put.new.names c.args.v (Some c.in-Some.place) c.requires.within c.requires.there c.put.ensures
    (c.in-Some.ensures ∙ ap (λ k. unwrap_or (slice_get c.args.renewed.now (k - c.args.height)) None) c.len.ensures)

pub returns-in_default-clause-same : goal.returns-in_default-clause-same
returns-in_default-clause-same c =
    let ys = c.args.names.now in
    renewed_one c.args.mark c.args.height c.args.renewed.now ys ys c.args.v None c.requires.within c.requires.there (sym (three_parts c.args.mark c.args.height ys c.requires.within))
    (c.in_default.ensures ∙ ap (λ k. unwrap_or (slice_get c.args.renewed.now (k - c.args.height)) None) c.len.ensures)
