-- What contracts see of a table: its entries, by the numbers and the name under which each is kept.
use Rattle.std.specs.Prelude.{refl, ℕ, List, map}
use Rattle.std.specs.Coded.{Coded, code_by, coded×, coded_ℕ, coded_list}
use Rattle.lowering.specs.Types.{Entry, entry, Table, Labelled, enter}

-- an entry is stored as the tuple of its fields
abbrev pub entry_code : Coded Entry
entry_code = code_by (((ℕ × ℕ) × ℕ) × List ℕ) (coded× (coded× (coded× coded_ℕ coded_ℕ) coded_ℕ) (coded_list coded_ℕ))
    (λ e. (((e.code, e.first), e.second), e.name)) (λ p. entry p.0.0.0 p.0.0.1 p.0.1 p.1) (λ _. refl)

abbrev pub table_code : Coded Table
table_code = coded_list entry_code

-- the entries that stand under these keys
abbrev pub entries_of : {K : Type 0} → (K → List ℕ) → List (ℕ × ℕ × ℕ × K) → Table
entries_of name ks = map (λ k. entry k.0 k.1 k.2 (name k.3)) ks

-- a member of this name and type stands before the others, which have this label
abbrev pub before : (ℕ → Table → Labelled) → ℕ → List ℕ → ℕ → Labelled → Labelled
before type code name ty rest = let t = type ty rest.table in enter (entry code t.label rest.label name) t.table
