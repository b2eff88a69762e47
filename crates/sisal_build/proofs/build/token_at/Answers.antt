use Rattle.std.proofs.Common.{refl}
use Rattle.sisal_build.specs.Nowhere.{nowhere}
use Rattle.sisal_build.proofs.Places.{placed_alike}
use Rattle.sisal_build.proofs.build.token_at.Goals as goal

pub returns : goal.returns
returns c = placed_alike c.args.tokens.now c.args.place c.args.place c.in_ok-kind.kind c.index-tokens-place.result nowhere c.requires.there refl c.in_ok-kind.ensures c.index-tokens-place.is
