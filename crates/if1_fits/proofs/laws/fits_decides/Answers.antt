use Rattle.if1_fits.proofs.Law.{decided}
use Rattle.if1_fits.proofs.laws.fits_decides.Goals as goal

pub returns : goal.returns
returns c = λ ks k at callee named once read known w n s h. decided ks once read at k known.ports callee named known.function known.reduction w n s h
