use Rattle.std.proofs.Common.{decimal, ◌*◌, ◌++◌, ◌∙◌, ap, sym}
use Rattle.flow_gen.specs.declared.TheConstants.{HEAD, ELEMENTS, RESULTS}
use Rattle.flow_gen.proofs.Listing.{added, listed}
use Rattle.flow_gen.proofs.make.Goals as goal

pub returns : goal.returns
returns c =
    let n = c.args.n in
    let size = c.in_ok-put_number.ensures ∙ ap (λ m. c.extend.new.self ++ decimal (1000 * m)) c.from.ensures in
    let seed = c.in_ok-put_number-2.ensures ∙ ap (λ m. c.extend-2.new.self ++ decimal m) c.from-2.ensures in
    added HEAD.now (decimal (1000 * n)) ELEMENTS.now (decimal n) RESULTS.now c.new-text.ensures c.in_ok-extend.ensures.ok size c.in_ok-extend-2.ensures.ok seed c.in_ok-extend-3.ensures.ok ∙ sym (listed n)
