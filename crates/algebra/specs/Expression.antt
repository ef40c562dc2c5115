-- Expressions in a commutative ring in which x + x = 0, and their normal form: a sorted list of monomials, a monomial a list of
-- exponents. Everything here computes. Assumes nothing.
use Rattle.std.specs.Prelude.{Bool, true, false}
use Prim.Native.Nat.{ℕ, zero, suc, ◌+◌, ◌/◌, ◌%◌, compare, Ordering}

infixr 60 ◌▹◌
infixr 50 ◌⊞◌
infixr 50 ◌⊟◌
infixl 50 ◌⊕◌
infixl 60 ◌⊗◌
pub data Expr : Type 0 where
  var : ℕ → Expr
  O I : Expr
  ◌⊕◌ ◌⊗◌ : Expr → Expr → Expr
  sq : Expr → Expr
  pow : Expr → ℕ → Expr

-- a monomial: the exponents of the variables 0, 1, .., with no zero at the end
pub data Mono : Type 0 where
  end : Mono
  ◌▹◌ : ℕ → Mono → Mono

pub data Poly : Type 0 where
  nil : Poly
  ◌⊞◌ : Mono → Poly → Poly

abbrev pub cmp : Mono → Mono → Ordering
cmp end end = Ordering.eq
cmp end (k ▹ n) = Ordering.lt
cmp (j ▹ m) end = Ordering.gt
cmp (j ▹ m) (k ▹ n) = elim (compare j k) [ Ordering.lt ↦ Ordering.lt | Ordering.eq ↦ cmp m n | Ordering.gt ↦ Ordering.gt ]

abbrev pub mul_m : Mono → Mono → Mono
mul_m end n = n
mul_m (j ▹ m) end = j ▹ m
mul_m (j ▹ m) (k ▹ n) = (j + k) ▹ mul_m m n

abbrev pub sq_m : Mono → Mono
sq_m end = end
sq_m (k ▹ m) = (k + k) ▹ sq_m m

abbrev pub unit : ℕ → Mono
unit zero = 1 ▹ end
unit (suc i) = 0 ▹ unit i

-- the sum of m ⊞ p and q, where rec is the sum of p and its argument
abbrev pub merge_in : Mono → Poly → (Poly → Poly) → Poly → Poly
merge_in m p rec nil = m ⊞ p
merge_in m p rec (n ⊞ q) =
    elim (cmp m n) [ Ordering.lt ↦ m ⊞ rec (n ⊞ q) | Ordering.eq ↦ rec q | Ordering.gt ↦ n ⊞ merge_in m p rec q ]

abbrev pub merge : Poly → Poly → Poly
merge nil q = q
merge (m ⊞ p) q = merge_in m p (λ r. merge p r) q

abbrev pub scale : Mono → Poly → Poly
scale m nil = nil
scale m (n ⊞ q) = mul_m m n ⊞ scale m q

pub data Rows : Type 0 where
  none : Rows
  ◌⊟◌ : Poly → Rows → Rows

-- the products of each monomial of p with q
abbrev pub rows : Poly → Poly → Rows
rows nil q = none
rows (m ⊞ p) q = scale m q ⊟ rows p q

abbrev pub total : Rows → Poly
total none = nil
total (p ⊟ r) = merge p (total r)

abbrev pub pairs : Rows → Rows
pairs none = none
pairs (p ⊟ none) = p ⊟ none
pairs (p ⊟ (q ⊟ r)) = merge p q ⊟ pairs r

-- the sum of the rows, by pairs, and pairs of pairs, as often as the first argument says
abbrev pub gather : ℕ → Rows → Poly
gather zero r = total r
gather (suc f) none = nil
gather (suc f) (p ⊟ none) = p
gather (suc f) (p ⊟ (q ⊟ r)) = gather f (merge p q ⊟ pairs r)

abbrev pub shorter : Poly → Poly → Bool
shorter nil q = true
shorter (m ⊞ p) nil = false
shorter (m ⊞ p) (n ⊞ q) = shorter p q

-- k at p, with p computed first: a call that is handed on is computed anew by each that reads it
abbrev pub force_m : Mono → (Mono → Poly) → Poly
force_m end k = k end
force_m (j ▹ m) k = force_m m (λ r. k (j ▹ r))

abbrev pub force : Poly → (Poly → Poly) → Poly
force nil k = k nil
force (m ⊞ p) k = force_m m (λ n. force p (λ r. k (n ⊞ r)))

abbrev pub mul_f : Poly → Poly → Poly
mul_f p q = elim (shorter p q) [ true ↦ gather 64 (rows p q) | false ↦ gather 64 (rows q p) ]

abbrev pub mul_p : Poly → Poly → Poly
mul_p p q = force p (λ a. force q (λ b. mul_f a b))

abbrev pub sq_p : Poly → Poly
sq_p nil = nil
sq_p (m ⊞ p) = sq_m m ⊞ sq_p p

abbrev pub one_p : Poly
one_p = end ⊞ nil

abbrev pub lin_p : Poly → ℕ → Poly
lin_p p zero = one_p
lin_p p (suc n) = mul_p p (lin_p p n)

abbrev pub oddly : ℕ → Poly → Poly → Poly
oddly zero p s = s
oddly (suc k) p s = mul_p p s

-- the power by its binary digits, f of them at most; then one factor after the other
abbrev pub pow_p : ℕ → Poly → ℕ → Poly
pow_p zero p n = lin_p p n
pow_p (suc f) p zero = one_p
pow_p (suc f) p (suc n) = oddly (suc n % 2) p (sq_p (pow_p f p (suc n / 2)))

abbrev pub normal : Expr → Poly
normal (var i) = unit i ⊞ nil
normal O = nil
normal I = one_p
normal (e ⊕ f) = merge (normal e) (normal f)
normal (e ⊗ f) = mul_p (normal e) (normal f)
normal (sq e) = sq_p (normal e)
normal (pow e n) = force (normal e) (λ p. pow_p 64 p n)

abbrev pub same_p : Poly → Poly → Bool
same_p nil nil = true
same_p nil (n ⊞ q) = false
same_p (m ⊞ p) nil = false
same_p (m ⊞ p) (n ⊞ q) = elim (cmp m n) [ Ordering.lt ↦ false | Ordering.eq ↦ same_p p q | Ordering.gt ↦ false ]

-- the test that a user asks: it computes to true, and nothing but true is compared
abbrev pub agree : Expr → Expr → Bool
agree e f = same_p (normal e) (normal f)
