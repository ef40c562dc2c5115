-- E4: c + l0·x + l1·x² + l2·x⁴ as an affine equation, for m = 2 too: it has the same roots (`folded_roots`), and the solver of affine
-- equations takes it (`folded_ready`). Assumes nothing.
use mathlib.Core.Path.{◌≡◌, refl, sym, ap, ◌∙◌, subst}
use mathlib.Core.Logic.{◌≢◌}
use mathlib.Core.Bool.{Bool, true, false}
use mathlib.Core.List.{List, [], ◌∷◌}
use Prim.Native.Nat.{ℕ, ◌+◌, ◌^◌, ◌≤◌, ◌<◌}
use native.Mathlib.Omega.{arith}
use borrow.Author.Tests.{eq-eqb, ne_eqb}
use lib.Bits.{bit_xor}
use lib.Dec.{T, eqb, eqb→eq}
use lib.ListN.{length, get_or, drop}
use Rattle.algebra.specs.Lists.{count_up}
use Rattle.algebra.proofs.CountUp.{of_count_up, keep_alike}
use Rattle.binary.specs.Xor.{◌⊕◌}
use Rattle.binary.proofs.Xor.{ac, is_xor, xor_lt}
use Rattle.binary.specs.Product.{product}
use Rattle.binary.proofs.Product.{xor-product}
use Rattle.linear.specs.Limits.{places}
use Rattle.galois.specs.Field.{Field}
use Rattle.galois.specs.Power.{squares}
use Rattle.galois.specs.Polynomial.{value, Coeffs}
use Rattle.galois.specs.Roots.{is_root, roots_of}
use Rattle.galois.specs.Affine.{linear_at, affine_at}
use Rattle.galois.proofs.Fermat.{squares_all}
use Rattle.galois.proofs.AffineList.{linear_tail, spread, gap, affine_value}
use Rattle.arithmetic.specs.Modulus.{FieldModulus}
use Rattle.affine.specs.Equation as affine
use Rattle.roots.specs.Equation.{quartic_of, folded_if, folded}

-- which of the two it is
pub folded_short : (m c l0 l1 l2 : ℕ) → m ≡ 2 → folded m c l0 l1 l2 ≡ c ∷ bit_xor l0 l2 ∷ l1 ∷ []
unfolding folded
folded_short m c l0 l1 l2 e = ap (λ (b : Bool). folded_if b c l0 l1 l2) (eq-eqb m 2 e) ∙ ap (λ (l : ℕ). c ∷ l ∷ l1 ∷ []) (is_xor l0 l2)

pub folded_long : (m c l0 l1 l2 : ℕ) → m ≢ 2 → folded m c l0 l1 l2 ≡ c ∷ l0 ∷ l1 ∷ l2 ∷ []
unfolding folded
folded_long m c l0 l1 l2 n = ap (λ (b : Bool). folded_if b c l0 l1 l2) (ne_eqb m 2 n)

-- of m two or another
by_two : {A : Type 0} (m : ℕ) → (m ≡ 2 → A) → (m ≢ 2 → A) → A
by_two {A} m f g = go (eqb m 2) refl
  where
    go : (b : Bool) → eqb m 2 ≡ b → A
    go true e = f (eqb→eq m 2 (subst T (sym e) tt))
    go false e = g (λ k. subst T (sym (eq-eqb m 2 k) ∙ e) tt)

module _ (m p : ℕ) (F : Field m p) (c l0 l1 l2 : ℕ) where
  -- "there x^4 is x for every element"
  fourth : m ≡ 2 → (x : ℕ) → x < 2 ^ m → product p (product p x x) (product p x x) ≡ x
  unfolding squares
  fourth q x hx = ap (λ (k : ℕ). squares p k x) (sym q) ∙ squares_all m p F x hx

  long_value : (x : ℕ) → affine_at p c (l0 ∷ l1 ∷ l2 ∷ []) x ≡ value p (quartic_of c l0 l1 l2) x
  unfolding linear_tail spread gap
  long_value x = sym (affine_value m p F c (l0 ∷ l1 ∷ l2 ∷ []) x)

  short_value : m ≡ 2 → (x : ℕ) → x < 2 ^ m → affine_at p c (bit_xor l0 l2 ∷ l1 ∷ []) x ≡ value p (quartic_of c l0 l1 l2) x
  unfolding affine_at linear_at
  short_value q x hx =
      ap (λ (v : ℕ). c ⊕ (v ⊕ (product p l1 (product p x x) ⊕ 0)))
      (ap (λ (v : ℕ). product p v x) (sym (is_xor l0 l2)) ∙ xor-product m p F.irr.degree l0 l2 x)
      ∙ (simp ac) ∙ ap (λ (v : ℕ). c ⊕ (product p l0 x ⊕ (product p l1 (product p x x) ⊕ (product p l2 v ⊕ 0)))) (sym (fourth q x hx))
      ∙ long_value x

  same-value : (x : ℕ) → x < 2 ^ m → affine_at p (get_or (folded m c l0 l1 l2) 0 0) (drop 1 (folded m c l0 l1 l2)) x ≡ value p (quartic_of c l0 l1 l2) x
  same-value x hx =
      by_two m
      (λ e. ap (λ (cs : List ℕ). affine_at p (get_or cs 0 0) (drop 1 cs) x) (folded_short m c l0 l1 l2 e) ∙ short_value e x hx)
      (λ n. ap (λ (cs : List ℕ). affine_at p (get_or cs 0 0) (drop 1 cs) x) (folded_long m c l0 l1 l2 n) ∙ long_value x)

  pub folded_roots : affine.all_roots m p (folded m c l0 l1 l2) ≡ roots_of m p (quartic_of c l0 l1 l2)
  unfolding affine.all_roots affine.is_root roots_of is_root
  folded_roots =
      keep_alike (affine.is_root p (folded m c l0 l1 l2)) (is_root p (quartic_of c l0 l1 l2)) (count_up 0 (2 ^ m))
      (λ x k. ap (λ (v : ℕ). eqb v 0) (same-value x (let b = of_count_up 0 (2 ^ m) x k in omega arith)))

-- what the solver of affine equations asks
pub folded_ready : (m p c l0 l1 l2 : ℕ) → FieldModulus m p → m ≤ places → Coeffs m (quartic_of c l0 l1 l2)
    → affine.Ready m p (folded m c l0 l1 l2)
folded_ready m p c l0 l1 l2 M l h = by_two m short long
  where
    ready : (cs : List ℕ) → 0 < length cs → length cs ≤ m + 1 → Coeffs m cs → affine.Ready m p cs
    ready cs some few small = record { field = M; largest = l; some = some; few = few; small = small }

    short : m ≡ 2 → affine.Ready m p (folded m c l0 l1 l2)
    short e =
        rw (folded_short m c l0 l1 l2 e)
        (ready (c ∷ bit_xor l0 l2 ∷ l1 ∷ []) (omega arith) (omega arith)
        (h.0, (subst (λ (v : ℕ). v < 2 ^ m) (is_xor l0 l2) (xor_lt m h.1.0 h.1.1.1.1.0), (h.1.1.0, tt))))

    long : m ≢ 2 → affine.Ready m p (folded m c l0 l1 l2)
    long n =
        rw (folded_long m c l0 l1 l2 n)
        (ready (c ∷ l0 ∷ l1 ∷ l2 ∷ []) (omega arith) (let t = M.modulus.two in omega arith) (h.0, (h.1.0, (h.1.1.0, (h.1.1.1.1.0, tt)))))
