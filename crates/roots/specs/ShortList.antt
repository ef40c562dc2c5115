-- What a short list holds. Assumes nothing.
use Rattle.std.specs.Prelude.{◌≡◌, List, ℕ, ◌≤◌, ◌<◌, length, get_or, take}
use Rattle.algebra.specs.Lists.{padded}
use Rattle.roots.specs.Limits.{most_roots}
use Rattle.roots.specs.declared.inner.short_list.ShortList.{ShortList}

abbrev pub entries : ShortList → List ℕ
entries l = take l.count l.numbers

-- these numbers, and 0 in the unused places
pub record Placed (xs : List ℕ) (l : ShortList) : Type 0 where
  pub count : l.count ≡ length xs
  pub numbers : l.numbers ≡ padded most_roots xs

-- each number changed as R says, and the unused places as they were
pub record Changed (R : ℕ → ℕ → Type 0) (before after : ShortList) : Type 0 where
  pub count : after.count ≡ before.count
  pub each : (i : ℕ) → i < before.count → R (get_or before.numbers i 0) (get_or after.numbers i 0)
  pub rest : (i : ℕ) → before.count ≤ i → get_or after.numbers i 0 ≡ get_or before.numbers i 0
