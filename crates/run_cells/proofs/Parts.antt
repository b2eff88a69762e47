-- What is seen by a way to a part.
use Rattle.std.proofs.Common.{◌≡◌, List, [], ◌∷◌, refl, ap, ◌∙◌}
use Rattle.run_store.specs.Carried.{Carried}
use Rattle.run_store.specs.Stored as stored
use Rattle.run_cells.specs.declared.cell.Part.{Part}
use Rattle.run_cells.specs.declared.cell.Part.TheVariants as part
use Rattle.run_cells.specs.Held.{view_at, view_from}
use Rattle.run_cells.specs.Sights.{part_seen, seen_from}

viewed-at : (p : Part) (v : stored.View) (k : Carried) → stored.viewed (view_at p v) k ≡ part_seen p (stored.viewed v k)
viewed-at part.Elements v k = refl
viewed-at part.Content v k = refl
viewed-at (part.Place i) v k = refl

pub viewed-from : (v : stored.View) (ps : List Part) (k : Carried) → stored.viewed (view_from v ps) k ≡ seen_from (stored.viewed v k) ps
viewed-from v [] k = refl
viewed-from v (p ∷ ps) k = viewed-from (view_at p v) ps k ∙ ap (λ z. seen_from z ps) (viewed-at p v k)
