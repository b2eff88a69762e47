-- Things are added one list after another.
use Rattle.std.proofs.Common.{◌≡◌, List, [], ◌∷◌, ◌++◌, refl}
use Rattle.lowering.specs.declared.feed.Carried.{Carried}
use Rattle.line_labels.specs.Needs.{put, added}

pub added_both : (ks xs ys : List Carried) → added ks (xs ++ ys) ≡ added (added ks xs) ys
added_both ks [] ys = refl
added_both ks (x ∷ xs) ys = added_both (put ks x) xs ys
