use Rattle.source_meaning.proofs.Blind.{unread_is_free}
use Rattle.source_meaning.proofs.reads.what_is_not_read_is_free.Goals as goal

pub returns : goal.returns
returns c = unread_is_free
