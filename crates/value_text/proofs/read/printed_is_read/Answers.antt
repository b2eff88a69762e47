use Rattle.value_text.proofs.RoundTrip.{printed_reads}
use Rattle.value_text.proofs.read.printed_is_read.Goals as goal

pub returns : goal.returns
returns c ty v w d t = printed_reads ty v w d t
