-- Cube roots in GF(2^m): two of one value are equal or w times each other with w² + w = 1 (`ratio`); where m is odd there is no such w, and
-- every element has one cube root (`odd_roots`). Assumes nothing.
use mathlib.Core.Path.{◌≡◌, refl, sym, ap, ap₂, ◌∙◌, subst}
use mathlib.Core.Logic.{◌≢◌, inl, inr}
use mathlib.Core.List.{List, [], ◌∷◌}
use Prim.Native.Nat.{ℕ, zero, suc, ◌%◌, ◌^◌, ◌<◌}
use native.Mathlib.Decide.{ℕ_discrete}
use native.Mathlib.Omega.{arith}
use Rattle.algebra.specs.Expression.{var, O, I, ◌⊕◌ as ◌∔◌, ◌⊗◌}
use Rattle.algebra.specs.Lists.{Member, Nodup}
use Rattle.algebra.proofs.Identity.{Elem, ring_on_given, alone, using_eq}
use Rattle.algebra.proofs.Onto.{onto_below}
use Rattle.binary.specs.Xor.{◌⊕◌}
use Rattle.binary.proofs.Xor.{zero_xor, xor_self, xor_lt, by_digit, equal_of_xor}
use Rattle.binary.specs.Product.{product}
use Rattle.binary.proofs.Inverse.{inverse, no_zero_divisors}
use Rattle.galois.specs.Field.{Field}
use Rattle.galois.specs.Trace.{part_trace}
use Rattle.galois.specs.Quadratic.{Quadratic}
use Rattle.galois.proofs.Field.{ring}
use Rattle.galois.proofs.Power.{zero-product, mul_lt, square_zero, squares_one}
use Rattle.galois.proofs.Quadratic.{quadratic_trace}

abbrev pub cube : ℕ → ℕ → ℕ
cube p y = product p y (product p y y)

-- the cube roots of v: these and no others, none twice
pub record CubeRoots (m p v : ℕ) (ys : List ℕ) : Type 0 where
  pub once : Nodup ys
  pub each : (z : ℕ) → Member z ys → (z < 2 ^ m) × (cube p z ≡ v)
  pub every : (z : ℕ) → z < 2 ^ m → cube p z ≡ v → Member z ys

module _ (m p : ℕ) (F : Field m p) where
  -- the trace of 1 is 0 or 1 as m is even or odd
  pub part_of_one : (k : ℕ) → part_trace p k 1 ≡ k % 2
  unfolding part_trace
  part_of_one zero = refl
  part_of_one (suc k) =
      ap₂ ◌⊕◌ (part_of_one k) (squares_one m p F k)
      ∙ by_digit (λ (d : ℕ). d ⊕ 1 ≡ suc d % 2) (zero_xor 1) (xor_self 1) (k % 2) (omega arith) ∙ omega arith

  -- two cube roots of one value: equal, or w times each other with w² + w = 1
  module _ (y z : ℕ) (hy : y < 2 ^ m) (hz : z < 2 ^ m) where
    pub ratio : y ≢ 0 → cube p z ≡ cube p y → z ≢ y → (w : ℕ) × Quadratic m p 1 w × (z ≡ product p w y)
    ratio n e g =
        let s = inverse m p F.irr y n hy in
        let xs : List (Elem (ring m p F)) = (y, hy) ∷ (z, hz) ∷ (s.0, s.1) ∷ [] in
        let sum = (product p z z ⊕ product p z y) ⊕ product p y y in
        let none : sum ≡ 0 =
        no_zero_divisors m p F.irr (z ⊕ y) sum (λ q. g (equal_of_xor z y q)) (xor_lt m hz hy)
        (xor_lt m (xor_lt m (mul_lt m p F z z) (mul_lt m p F z y)) (mul_lt m p F y y))
        (ring_on_given (ring m p F) xs ((var 1 ∔ var 0) ⊗ ((var 1 ⊗ var 1 ∔ var 1 ⊗ var 0) ∔ var 0 ⊗ var 0)) O
        (using_eq I (var 1 ⊗ (var 1 ⊗ var 1)) (var 0 ⊗ (var 0 ⊗ var 0)) e alone) refl) in (
          product p z s.0,
          (
            mul_lt m p F z s.0,
            ring_on_given (ring m p F) xs ((var 1 ⊗ var 2) ⊗ (var 1 ⊗ var 2) ∔ var 1 ⊗ var 2) I
                (using_eq (var 2 ⊗ var 2) ((var 1 ⊗ var 1 ∔ var 1 ⊗ var 0) ∔ var 0 ⊗ var 0) O none
                (using_eq ((var 1 ⊗ var 2 ∔ I) ∔ var 0 ⊗ var 2) (var 0 ⊗ var 2) I s.2 alone))
                refl,
          ),
          ring_on_given (ring m p F) xs (var 1) ((var 1 ⊗ var 2) ⊗ var 0) (using_eq (var 1) (var 0 ⊗ var 2) I s.2 alone) refl,
        )

  cube_zero : (y : ℕ) → y < 2 ^ m → cube p y ≡ 0 → y ≡ 0
  cube_zero y h e = go (ℕ_discrete y 0)
    where
      go : Dec (y ≡ 0) → y ≡ 0
      go (yes q) = q
      go (no n) = square_zero m p F y h (no_zero_divisors m p F.irr y (product p y y) n h (mul_lt m p F y y) e)

  -- m odd: each has one
  cube_injective : m % 2 ≡ 1 → (z y : ℕ) → z < 2 ^ m → y < 2 ^ m → cube p z ≡ cube p y → z ≡ y
  cube_injective odd z y hz hy e = go (ℕ_discrete z y) (ℕ_discrete y 0)
    where
      go : Dec (z ≡ y) → Dec (y ≡ 0) → z ≡ y
      go (yes q) n = q
      go (no g) (yes q) = cube_zero z hz (e ∙ ap (cube p) q ∙ zero-product p (product p 0 0)) ∙ sym q
      go (no g) (no n) =
          let r = ratio y z hy hz n e g in
          let t = sym (part_of_one m) ∙ quadratic_trace m p F 1 r.0 r.1 in
          absurd (omega arith)

  pub odd_roots : m % 2 ≡ 1 → (v : ℕ) → v < 2 ^ m → (y : ℕ) × CubeRoots m p v (y ∷ [])
  odd_roots odd v hv =
      let r = onto_below (2 ^ m) (cube p) (λ x h. mul_lt m p F x (product p x x)) (cube_injective odd) v hv in (
        r.0,
        record {
          once = (λ k. k, tt);
          each = λ z k. only r.0 r.1 (sym r.2) z k;
          every = λ z hz e. inl (cube_injective odd z r.0 hz r.1 (e ∙ r.2));
        },
      )
    where
      only : (y : ℕ) → y < 2 ^ m → cube p y ≡ v → (z : ℕ) → Member z (y ∷ []) → (z < 2 ^ m) × (cube p z ≡ v)
      only y hy e z (inl q) = (subst (λ (k : ℕ). k < 2 ^ m) (sym q) hy, ap (cube p) q ∙ e)
      only y hy e z (inr k) = absurd k
