-- The program that `gen` writes.
use Rattle.std.specs.Prelude.{ℕ, ◌*◌, List, [], ◌∷◌, ◌++◌, codes, decimal}

-- its lines, over 1000 times n elements
abbrev pub program_lines : ℕ → List (List ℕ)
program_lines n =
    codes "define main"
    ∷ codes "function main(returns integer, integer, integer, integer)"
    ∷ (codes "let n := " ++ decimal (1000 * n) ++ codes ";")
    ∷ (codes "a := for i in 1, n returns array of mod(i * 3 + " ++ decimal n ++ codes ", 10) end for;")
    ∷ codes "b := for x in a at i returns array of i when x = 0 end for;"
    ∷ codes "c := for initial k := 1; v := a while k <= 100 repeat"
    ∷ codes "k := old k + 1; v := old v[old k: old v[old k] + 1000]"
    ∷ codes "returns value of v end for"
    ∷ codes "in for x in c returns value of sum x end for,"
    ∷ codes "for x in a returns value of greatest x end for,"
    ∷ codes "array_size(b), array_size(a || b)"
    ∷ codes "end let"
    ∷ codes "end function"
    ∷ []

-- lines, each with the line feed, 10, that ends it
abbrev pub text_of_lines : List (List ℕ) → List ℕ
text_of_lines [] = []
text_of_lines (line ∷ lines) = line ++ 10 ∷ text_of_lines lines

abbrev pub program : ℕ → List ℕ
program n = text_of_lines (program_lines n)
