use Rattle.std.proofs.Common.{◌≡◌, ◌∷◌, List, [], ℕ, ◌++◌, Bool, true, false, Ok, sym, ◌∙◌, ap}
use Rattle.pushdown.specs.declared.Symbol.{Symbol}
use Rattle.pushdown.specs.declared.Symbol.TheVariants.{Want}
use Rattle.pushdown.specs.declared.Step.{Step}
use Rattle.pushdown.specs.declared.Step.TheVariants.{Read, Open}
use Rattle.pushdown.specs.Engine.{Opens, IsSettled, Wants}
use Rattle.pushdown.specs.Rows.{rows_of, grammar_in, table_in}
use Rattle.pushdown.proofs.RowTests.{right}
use Rattle.pushdown.proofs.Engine.{wants_more, refuses}
use Rattle.pushdown.proofs.read_token.Goals as goal

pub returns-clause-read : goal.returns-clause-read
returns-clause-read c = λ e start before w.
    let o : (ps : List Step) × (c.settle.new.steps.items ≡ c.args.steps.now.items ++ ps) × Opens (grammar_in c.args.tables.now) (table_in c.args.tables.now) c.args.token c.args.wanted.now ps c.settle.new.wanted = c.in_ok-settle.ensures.opens in
    let yes : c.accept.result ≡ true = c.if-not-accept.false in
    let more : c.push.new.self.items ≡ c.settle.new.steps.items ++ (Read ∷ []) = c.in_ok-push.ensures.items in
    let front : c.settle.new.wanted ≡ Want c.args.token ∷ c.accept.new.self = c.accept.ensures.yes yes in
    rw (more, o.1) (wants_more (grammar_in c.args.tables.now) (table_in c.args.tables.now) start before c.args.steps.now.items c.args.wanted.now o.0 c.args.token c.accept.new.self w (rw front at o.2))

pub returns-then-not-accept-clause-refused : goal.returns-then-not-accept-clause-refused
returns-then-not-accept-clause-refused c = λ e start before w.
    let o : (ps : List Step) × (c.settle.new.steps.items ≡ c.args.steps.now.items ++ ps) × Opens (grammar_in c.args.tables.now) (table_in c.args.tables.now) c.args.token c.args.wanted.now ps c.settle.new.wanted = c.in_ok-settle.ensures.opens in
    let no : c.accept.result ≡ false = c.if-not-accept.true in
    refuses (grammar_in c.args.tables.now) (table_in c.args.tables.now) (right (rows_of c.args.tables.now) c.requires.right) start before c.args.steps.now.items c.args.wanted.now o.0 c.args.token c.settle.new.wanted w o.2 c.in_ok-settle.ensures.settled (c.accept.ensures.no no)
