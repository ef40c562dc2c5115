-- "The house table gives one polynomial per degree" (01), degrees 2 to 16. Assumes nothing.
use Rattle.std.specs.Prelude.{List, [], ◌∷◌, ℕ, ◌-◌, get_or}
use Rattle.field.specs.Limits.{smallest_degree}

abbrev pub house_table : List ℕ
house_table = 7 ∷ 11 ∷ 19 ∷ 37 ∷ 67 ∷ 131 ∷ 285 ∷ 529 ∷ 1033 ∷ 2053 ∷ 4179 ∷ 8219 ∷ 17475 ∷ 32771 ∷ 69643 ∷ []

abbrev pub house_entry : ℕ → ℕ
house_entry d = get_or house_table (d - smallest_degree) 0
