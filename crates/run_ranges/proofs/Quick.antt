-- Code whose steps do the same as those of a unit's code is the unit's, and counts what that counts; so its ranges are those of the unit.
use Rattle.unit_runs.proofs.QuickCode.{quick-unit-code}
use Rattle.run_ranges.proofs.Units.{unit-ranges-begin, unit-ranges-of-record}
use Rattle.run_ranges.specs.Quick.{AreQuickRangesOfRecord, DoQuickRangesBegin}

pub quick-ranges-begin : DoQuickRangesBegin
quick-ranges-begin u order t code quick limit same ready sound along tables is counts =
    let it = quick-unit-code u order t code quick same is counts in
    unit-ranges-begin u order t quick limit ready sound along tables it.0 it.1

pub quick-ranges-of-record : AreQuickRangesOfRecord
quick-ranges-of-record u order t code quick limit same ready sound along tables is counts =
    let it = quick-unit-code u order t code quick same is counts in
    unit-ranges-of-record u order t quick limit ready sound along tables it.0 it.1
