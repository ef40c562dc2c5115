-- The terms of an affine polynomial at the powers of x, as the code makes its columns: t·x^n by n shifts (`shift_more`), one term's columns
-- from one to the next (`term_next`), and one term more (`linear_more`). Assumes nothing.
use mathlib.Core.Path.{◌≡◌, refl, sym, ap, ap₂, ◌∙◌}
use mathlib.Core.List.{List, [], ◌∷◌}
use Prim.Native.Nat.{ℕ, zero, suc, ◌+◌, ◌^◌, ◌≤◌, ◌<◌}
use native.Mathlib.Numerals.{add-one}
use native.Mathlib.Omega.{arith}
use lib.Bits.{bit_xor}
use lib.ListN.{length, get_or, take, set, replicate, get_or-replicate}
use lib.Pow.{pow_mono}
use lib.Seq.{take_all}
use Rattle.algebra.proofs.Filled.{Filled, filled_none, filled_put}
use Rattle.binary.specs.Xor.{◌⊕◌}
use Rattle.binary.specs.Product.{product, times_x, Modulus}
use Rattle.binary.proofs.Xor.{is_xor, xor_assoc, xor_comm}
use Rattle.binary.proofs.Product.{product_one, product_comm, product_assoc}
use Rattle.binary.proofs.Modulus.{product_two}
use Rattle.galois.specs.Field.{Field}
use Rattle.galois.specs.Power.{power, squares}
use Rattle.galois.specs.Affine.{linear_at}
use Rattle.galois.proofs.Power.{x_power, squares-power, mul_left, mul_lt, squares-shift, squares_lt, squares_is}
use Rattle.linear.specs.Limits.{places}
use Rattle.affine.specs.Columns.{IsColumns, PlusTerm}

module _ (m p : ℕ) (F : Field m p) where
  -- one shift more
  pub shift_more : (t n x : ℕ) → x ≡ product p t (power p 2 n) → times_x p x ≡ product p t (power p 2 (n + 1))
  unfolding power
  shift_more t n x e =
      sym (product_two p x) ∙ ap (product p 2) e ∙ mul_left m p F 2 t (power p 2 n) ∙ ap (λ (k : ℕ). product p t (power p 2 k)) (sym (add-one n))

  -- a term at x^j, the number 2^j
  pub term_at : Modulus m p → (l i j : ℕ) → j < m → product p l (power p (squares p i 2) j) ≡ product p l (squares p i (2 ^ j))
  term_at M l i j h = ap (product p l) (sym (squares-power m p F i 2 j) ∙ ap (squares p i) (x_power m p M j h))

  two_lt : Modulus m p → 2 < 2 ^ m
  two_lt M = let w = pow_mono M.two in omega arith

  -- the step x^(2^i) is an element, and 2^i factors x
  pub step_lt : Modulus m p → (i : ℕ) → squares p i 2 < 2 ^ m
  step_lt M i = squares_lt m p F i 2 (two_lt M)

  pub step_is : Modulus m p → (i : ℕ) → squares p i 2 ≡ power p 2 (2 ^ i)
  step_is M i = squares_is m p F i 2 (two_lt M)

  -- from one column to the next
  pub term_next : (l s t j : ℕ) → t ≡ product p l (power p s j) → product p t s ≡ product p l (power p s (j + 1))
  unfolding power
  term_next l s t j e =
      ap (λ (x : ℕ). product p x s) e ∙ product_assoc m p F.irr.degree l (power p s j) s
      ∙ ap (product p l) (product_comm p (power p s j) s ∙ ap (power p s) (sym (add-one j)))

  -- one term more
  linear_suc : (ls : List ℕ) (i x : ℕ) → i < length ls
      → linear_at p (take (suc i) ls) x ≡ linear_at p (take i ls) x ⊕ product p (get_or ls i 0) (squares p i x)
  unfolding linear_at squares
  linear_suc [] i x h = absurd (omega arith)
  linear_suc (l ∷ ls) zero x h = xor_comm (product p l x) 0
  linear_suc (l ∷ ls) (suc i) x h =
      ap (λ (v : ℕ). product p l x ⊕ v)
      (linear_suc ls i (product p x x) (omega arith)
      ∙ ap (λ (v : ℕ). linear_at p (take i ls) (product p x x) ⊕ product p (get_or ls i 0) v) (squares-shift p i x))
      ∙ sym (xor_assoc (product p l x) (linear_at p (take i ls) (product p x x)) (product p (get_or ls i 0) (squares p (suc i) x)))

  pub linear_more : (ls : List ℕ) (i x : ℕ) → i < length ls
      → linear_at p (take i ls) x ⊕ product p (get_or ls i 0) (squares p i x) ≡ linear_at p (take (i + 1) ls) x
  linear_more ls i x h = sym (linear_suc ls i x h) ∙ ap (λ (k : ℕ). linear_at p (take k ls) x) (sym (add-one i))

-- ---- the loop over one term's columns

pub record OneTerm (m p l s : ℕ) (old out : List ℕ) (t j : ℕ) : Type 0 where
  pub within : j ≤ m
  pub small : t < 2 ^ m
  pub now : t ≡ product p l (power p s j)
  pub filled : Filled (λ k. get_or old k 0 ⊕ product p l (power p s k)) old out j

module _ (m p : ℕ) (F : Field m p) (l s : ℕ) (old : List ℕ) where
  pub term_start : l < 2 ^ m → OneTerm m p l s old old l 0
  unfolding power
  term_start h =
      record { within = omega arith; small = h; now = sym (product_one m p F.irr.degree l h); filled = filled_none _ old }

  pub term_turn : (out : List ℕ) (t j r : ℕ) → j < m → j < length old → r ≡ product p t s → OneTerm m p l s old out t j
      → OneTerm m p l s old (set out j (bit_xor (get_or out j 0) t)) r (j + 1)
  term_turn out t j r h k e w =
      record {
        within = omega arith;
        small = rw e (mul_lt m p F t s);
        now = e ∙ term_next m p F l s t j w.now;
        filled = filled_put _ old out j (bit_xor (get_or out j 0) t) k
            (ap₂ bit_xor (w.filled.rest j (omega arith)) w.now ∙ sym (is_xor (get_or old j 0) (product p l (power p s j)))) w.filled;
      }

pub term_end : (m p : ℕ) → Field m p → Modulus m p → (l i s : ℕ) (old out : List ℕ) (t j : ℕ) → m ≤ j → s ≡ squares p i 2
    → OneTerm m p l s old out t j → PlusTerm m p l i old out
term_end m p F M l i s old out t j h e w k q =
    w.filled.done k (omega arith)
    ∙ ap (λ (x : ℕ). get_or old k 0 ⊕ x) (ap (λ (x : ℕ). product p l (power p x k)) e ∙ term_at m p F M l i k q)

-- ---- the loop over the terms

pub record SomeTerms (m p : ℕ) (ls columns : List ℕ) (step i : ℕ) : Type 0 where
  pub within : i ≤ length ls
  pub long : length columns ≡ places
  pub step_now : step ≡ squares p i 2
  pub so_far : IsColumns m p (take i ls) columns

pub terms_start : (m p : ℕ) (ls : List ℕ) → m ≤ places → SomeTerms m p ls (replicate places 0) 2 0
unfolding squares linear_at
terms_start m p ls h =
    record {
      within = omega arith;
      long = refl;
      step_now = refl;
      so_far = λ j q. get_or-replicate places j 0 0 (omega arith);
    }

pub terms_turn : (m p : ℕ) → Field m p → (ls columns next : List ℕ) (step i r : ℕ) → i < length ls → length next ≡ places
    → PlusTerm m p (get_or ls i 0) i columns next → r ≡ product p step step → SomeTerms m p ls columns step i → SomeTerms m p ls next r (i + 1)
unfolding squares
terms_turn m p F ls columns next step i r h long t e w =
    record {
      within = omega arith;
      long = long;
      step_now = e ∙ ap (λ (x : ℕ). product p x x) w.step_now ∙ ap (λ (k : ℕ). squares p k 2) (sym (add-one i));
      so_far = λ j q. t j q ∙ ap (λ (x : ℕ). x ⊕ product p (get_or ls i 0) (squares p i (2 ^ j))) (w.so_far j q) ∙ linear_more m p F ls i (2 ^ j) h;
    }

pub terms_end : (m p : ℕ) (ls columns : List ℕ) (step i : ℕ) → length ls ≤ i → SomeTerms m p ls columns step i → IsColumns m p ls columns
terms_end m p ls columns step i h w = rw (take_all i ls h) at w.so_far
