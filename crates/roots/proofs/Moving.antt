-- The numbers of a list that is moved: how many there are (`count-is`), each of them has an inverse (`unit_at`), and s + 1/y by the inverse
-- that the code makes (`inverse_is`), z + t for each z (`moved_by`). Assumes nothing.
use mathlib.Core.Path.{◌≡◌, sym, ap, ◌∙◌, subst}
use mathlib.Core.List.{map}
use Prim.Native.Nat.{ℕ, ◌^◌, ◌<◌}
use native.Mathlib.Omega.{arith}
use lib.Bits.{bit_xor}
use lib.ListN.{length, get_or}
use lib.Seq.{length-take-le, get_or-take}
use Rattle.algebra.proofs.Front.{entry_member}
use Rattle.binary.specs.Xor.{◌⊕◌}
use Rattle.binary.proofs.Xor.{is_xor}
use Rattle.binary.specs.Product.{product}
use Rattle.binary.proofs.Product.{product_comm}
use Rattle.galois.specs.Field.{Field}
use Rattle.arithmetic.proofs.Quotient.{quotient_is}
use Rattle.roots.specs.Limits.{most_roots}
use Rattle.roots.specs.Equation.{Units, from_inverse}
use Rattle.roots.specs.ShortList.{entries, Changed}
use Rattle.roots.specs.declared.inner.short_list.ShortList.{ShortList}
use Rattle.roots.proofs.ShortLists.{changed_entries}

module _ (l : ShortList) (long : length l.numbers ≡ most_roots) where
  pub count-is : length (entries l) ≡ l.count
  count-is = let few = l.few in length-take-le l.count l.numbers (omega arith)

  pub unit_at : (m : ℕ) → Units m (entries l) → (i : ℕ) → i < l.count → (0 < get_or l.numbers i 0) × (get_or l.numbers i 0 < 2 ^ m)
  unit_at m U i h =
      let e = count-is in
      subst (λ (y : ℕ). (0 < y) × (y < 2 ^ m)) (get_or-take l.count l.numbers i 0 h) (U (get_or (entries l) i 0) (entry_member (entries l) i (omega arith)))

pub inverse_is : (m p s y v : ℕ) → Field m p → (0 < y) × (y < 2 ^ m) → product p y v ≡ 1 → v < 2 ^ m → bit_xor s v ≡ from_inverse m p s y
unfolding from_inverse
inverse_is m p s y v F u e h =
    sym (is_xor s v) ∙ ap (λ (w : ℕ). s ⊕ w) (quotient_is m p F 1 y v u.0 u.1 h (product_comm p v y ∙ e))

pub moved_by : (t : ℕ) (R : ℕ → ℕ → Type 0) (before after : ShortList) → length before.numbers ≡ most_roots → length after.numbers ≡ most_roots
    → Changed R before after → ((i y : ℕ) → i < before.count → R (get_or before.numbers i 0) y → y ≡ bit_xor (get_or before.numbers i 0) t)
    → entries after ≡ map (λ z. z ⊕ t) (entries before)
moved_by t R before after long same C is =
    changed_entries R (λ z. z ⊕ t) before after long same C (λ i y h r. is i y h r ∙ sym (is_xor (get_or before.numbers i 0) t))
