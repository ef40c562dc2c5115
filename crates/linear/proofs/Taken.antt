-- Whether a column is the pivot of a row: what the search says (`taken_yes`, `taken_not`), and what the bits of all pivot columns say
-- (`taken-bit`, `free_bit`). Assumes nothing.
use mathlib.Core.Path.{◌≡◌, sym, ap, ◌∙◌, subst}
use mathlib.Core.Logic.{◌≢◌}
use mathlib.Core.Bool.{true, false}
use Prim.Native.Nat.{ℕ, zero, suc, ◌^◌, ◌<◌, max}
use native.Mathlib.Omega.{arith}
use native.Mathlib.Decide.{ℕ_discrete}
use borrow.Author.Tests.{eq-eqb, ne_eqb}
use lib.Dec.{T, eqb, eqb→eq}
use lib.ListN.{length}
use Rattle.algebra.proofs.Search.{some_yes, some_not, some_one, some_none}
use Rattle.binary.specs.Bit.{bit}
use Rattle.binary.proofs.Bit.{bit-zero, bit_or_lem, bit_pow, bit_pow_other}
use Rattle.linear.specs.Elimination.{State, mark}
use Rattle.linear.specs.Reading.{pivot_columns, taken}
use Rattle.linear.proofs.Project.{Free}

module _ (n : ℕ) (s : State) (long : length s.rows ≡ n) (t : ℕ) where
  pub taken_not : taken s t ≡ false → Free n s t
  unfolding taken
  taken_not e i l q =
      let f = some_not (λ i. eqb (mark s i) t) n (rw long at e) i l in
      subst T f (subst T (sym (eq-eqb (mark s i) t q)) tt)

  pub taken_yes : taken s t ≡ true → (i : ℕ) × (i < n) × (mark s i ≡ t)
  unfolding taken
  taken_yes e =
      let r = some_yes (λ i. eqb (mark s i) t) n (rw long at e) in
      (r.0, r.1, eqb→eq _ _ (subst T (sym r.2) tt))

  -- the bit of the first k rows' pivot columns
  held : (k : ℕ) → bit t (pivot_columns s k) ≢ 0 → (i : ℕ) × (i < k) × (mark s i ≡ t)
  unfolding pivot_columns
  held zero h = absurd (h (bit-zero t))
  held (suc k) h = go (ℕ_discrete (bit t (pivot_columns s k)) 0) (ℕ_discrete t (mark s k)) (held k)
    where
      go : Dec (bit t (pivot_columns s k) ≡ 0) → Dec (t ≡ mark s k) → (bit t (pivot_columns s k) ≢ 0 → (i : ℕ) × (i < k) × (mark s i ≡ t))
          → (i : ℕ) × (i < suc k) × (mark s i ≡ t)
      go d (yes e) ih = (k, omega arith, sym e)
      go (no g) (no e) ih = let r = ih g in let l = r.1 in (r.0, omega arith, r.2)
      go (yes z) (no e) ih =
          absurd (h (bit_or_lem t (pivot_columns s k) (2 ^ mark s k) ∙ let w = bit_pow_other t (mark s k) e in omega arith))

  not_held : (k i : ℕ) → bit t (pivot_columns s k) ≡ 0 → i < k → mark s i ≢ t
  unfolding pivot_columns
  not_held zero i z l q = omega arith
  not_held (suc k) i z l q = go (ℕ_discrete i k) (λ y j. not_held k i y j q)
    where
      both : max (bit t (pivot_columns s k)) (bit t (2 ^ mark s k)) ≡ 0
      both = sym (bit_or_lem t (pivot_columns s k) (2 ^ mark s k)) ∙ z

      go : Dec (i ≡ k) → (bit t (pivot_columns s k) ≡ 0 → i < k → ⊥) → ⊥
      go (yes e) ih =
          let o : bit t (2 ^ mark s k) ≡ 1 = subst (λ (x : ℕ). bit t (2 ^ x) ≡ 1) (sym (sym (ap (mark s) e) ∙ q)) (bit_pow t) in
          let w = both in
          omega arith
      go (no g) ih = ih (let w = both in omega arith) (omega arith)

  pub taken-bit : bit t (pivot_columns s n) ≢ 0 → taken s t ≡ true
  unfolding taken
  taken-bit h =
      let r = held n h in
      rw long (some_one (λ i. eqb (mark s i) t) n r.0 r.1 (eq-eqb _ _ r.2))

  pub free_bit : bit t (pivot_columns s n) ≡ 0 → taken s t ≡ false
  unfolding taken
  free_bit h = rw long (some_none (λ i. eqb (mark s i) t) n (λ i l. ne_eqb _ _ (not_held n i h l)))
