use Rattle.std.proofs.Common.{rules}
use Rattle.source_meaning.specs.Pending.{rest}
use Rattle.source_meaning.proofs.Begins.{let_is}
use Rattle.source_meaning.proofs.begin.begin_let.Goals as goal

pub returns-clause-means : goal.returns-clause-means
returns-clause-means c = λ n p.
    let h = c.in_ok-define.ensures.means n p c.args.state.now.names in
    let q = let_is n p c.len-mark.result (rest n p c.args.state.now.frames.items) c.args.defs.now c.args.values.now c.args.state.now.names c.len-mark.ensures in
    search (rules, h, q)
