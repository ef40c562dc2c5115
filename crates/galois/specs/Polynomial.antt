-- Polynomials over the field as lists of coefficients, the constant first (01, "Equations of degree up to 4"): value, division by
-- x + r, the product with x + a, and building from roots. Assumes nothing.
use Rattle.std.specs.Prelude.{◌≡◌, ◌≢◌, List, [], ◌∷◌, ℕ, ◌^◌, ◌<◌, suc, zero, length, get_or}
use Rattle.binary.specs.Xor.{◌⊕◌}
use Rattle.binary.specs.Product.{product}

-- the value at x, by Horner
unfoldable pub value : ℕ → List ℕ → ℕ → ℕ
value p [] x = 0
value p (c ∷ f) x = c ⊕ product p x (value p f x)

-- every coefficient is a field element
abbrev pub Coeffs : ℕ → List ℕ → Type 0
Coeffs m [] = Unit {0}
Coeffs m (c ∷ f) = (c < 2 ^ m) × Coeffs m f

-- every coefficient is 0
abbrev pub AllZero : List ℕ → Type 0
AllZero [] = Unit {0}
AllZero (c ∷ f) = (c ≡ 0) × AllZero f

-- "the degree is that of the highest nonzero one; zeros above it change nothing"
pub record IsDegree (d : ℕ) (f : List ℕ) : Type 0 where
  pub within : d < length f
  pub top : get_or f d 0 ≢ 0
  pub above : (i : ℕ) → d < i → get_or f i 0 ≡ 0

-- r is a root of f in the field
abbrev pub Root : ℕ → ℕ → List ℕ → ℕ → Type 0
Root m p f r = (r < 2 ^ m) × (value p f r ≡ 0)

-- the values at r of a list and of all its tails
unfoldable pub sums : ℕ → ℕ → List ℕ → List ℕ
sums p r [] = []
sums p r (c ∷ f) = value p (c ∷ f) r ∷ sums p r f

-- the quotient by x + r
unfoldable pub without_root : ℕ → ℕ → List ℕ → List ℕ
without_root p r [] = []
without_root p r (c ∷ f) = sums p r f

-- b + (x + a)·f
unfoldable pub shifted : ℕ → ℕ → ℕ → List ℕ → List ℕ
shifted p a b [] = b ∷ []
shifted p a b (c ∷ f) = (b ⊕ product p a c) ∷ shifted p a c f

-- (x + a)·f
unfoldable pub with_root : ℕ → ℕ → List ℕ → List ℕ
with_root p a f = shifted p a 0 f

-- (x + a1)·..·(x + an)
unfoldable pub build : ℕ → List ℕ → List ℕ
build p [] = 1 ∷ []
build p (a ∷ rs) = with_root p a (build p rs)

-- its value at x, factor by factor: (x + a1)·..·(x + an)
unfoldable pub factors_at : ℕ → List ℕ → ℕ → ℕ
factors_at p [] x = 1
factors_at p (r ∷ rs) x = product p (x ⊕ r) (factors_at p rs x)

-- (x + r)^k·f
unfoldable pub with_root_often : ℕ → ℕ → ℕ → List ℕ → List ℕ
with_root_often p r zero f = f
with_root_often p r (suc k) f = with_root p r (with_root_often p r k f)
