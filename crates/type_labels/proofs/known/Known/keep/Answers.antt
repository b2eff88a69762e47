use Rattle.type_labels.specs.declared.known.Known.{Known}
use Rattle.type_labels.specs.Known.{known_at}
use Rattle.type_labels.proofs.Knowing.{kept_is}
use Rattle.type_labels.proofs.known.Known.keep.Goals as goal

pub returns : goal.returns
returns c = λ d t l is.
    let new : Known = record { map = c.insert.new.self } in
    kept_is c.args.depth c.args.ty c.args.label d t l (known_at c.args.self.now d t) (known_at new d t) (c.in_ok-insert.ensures.updates.0 (d, t)) is
