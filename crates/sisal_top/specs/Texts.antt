-- The texts of `--help` and `--version`.
use Rattle.std.specs.Prelude.{ℕ, List, [], ◌∷◌, ◌++◌, codes}

-- lines, each ended by a line feed
abbrev pub ended : List (List ℕ) → List ℕ
ended [] = []
ended (line ∷ lines) = line ++ 10 ∷ ended lines

abbrev pub help_text : List ℕ
help_text = ended (
    codes "usage: sisal COMMAND [OPTIONS] [VALUES]"
    ∷ codes "The program text is read from standard input."
    ∷ codes ""
    ∷ codes "run [OPTIONS] [VALUES]   runs the entry function and prints one result a line"
    ∷ codes "mean [OPTIONS] [VALUES]  evaluates a SISAL text by the meaning of its source"
    ∷ codes "compile [OPTION]         prints the graphs of a SISAL text as IF1, with their marks"
    ∷ codes "if1                      checks an IF1 text and prints it in canonical form"
    ∷ codes "gen N                    prints a generated program, N from 1 to 500"
    ∷ codes "--help, --version        print this text, and the version"
    ∷ codes ""
    ∷ codes "Options of run and mean: --entry NAME, --limit T; of run: --if1, the text is IF1,"
    ∷ codes "--stats, a line of totals."
    ∷ codes "The word -- ends the options."
    ∷ codes "Options of compile: --dot prints a drawing for Graphviz, --why what copies, and why;"
    ∷ codes "--code lists the code that runs."
    ∷ codes ""
    ∷ codes "To come, until then status 11: of run --workers above 1, --order above 0, --opt and"
    ∷ codes "--trace; compile --opt; and"
    ∷ codes "link                                      joins the parts of an IF1 text"
    ∷ codes "verify [--entry NAME] [--limit T] [VALUES]"
    ∷ codes "                                          checks the trace of a run"
    ∷ codes "again [--if1] [--entry NAME] [--limit T] P NEW [VALUES]"
    ∷ codes "                                          runs once more with argument P changed"
    ∷ codes ""
    ∷ codes "Statuses: 0 done, 1 words, 2 reading, 3 writing, 4 memory, 5 no SISAL, 6 types,"
    ∷ codes "7 no IF1, 8 entry or values, 9 limit, 10 too long, 11 to come, 12 a function of"
    ∷ codes "another text. Each line that is printed has its heading in docs/ERRORS.md; commands"
    ∷ codes "and options are told in docs/PROGRAM.md, the language in docs/TUTORIAL.md."
    ∷ [])

abbrev pub version_text : List ℕ
version_text = ended (codes "sisal 0.1 (SISAL 1.2 over whole numbers)" ∷ [])
