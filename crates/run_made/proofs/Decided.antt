-- So runs of code that is made are decided.
use Rattle.run_laws.proofs.Stopping.{decided}
use Rattle.run_made.proofs.Inside.{inside}
use Rattle.run_made.proofs.Making.{lines-lie, made}
use Rattle.run_laws.specs.Made.{functions_size}
use Rattle.run_made.specs.Laws.{AreMadeRunsDecided}
use Rattle.run_made.specs.Plans.{end_of, laid}

pub made-decided : AreMadeRunsDecided
made-decided P W u order functions n limit right orderly along f ins cells in_f as_many hold =
    let X = laid P W u order functions n in
    let lies = lines-lie P W u order functions n in
    decided X (end_of P) (functions_size P functions) limit (made P W u order functions n X.code X.weigh right lies) (inside P W u order functions n X.code X.weigh right lies) orderly along f ins cells in_f as_many hold
