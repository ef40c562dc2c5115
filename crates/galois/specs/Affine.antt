-- "c + l0·x + l1·x^2 + l2·x^4 + ..." (01): an affine polynomial by its constant c and the list of the l. Assumes nothing.
use Rattle.std.specs.Prelude.{List, [], ◌∷◌, ℕ}
use Rattle.binary.specs.Xor.{◌⊕◌}
use Rattle.binary.specs.Product.{product}

-- the linear part: "l0·x + l1·x^2 + l2·x^4 + ..."
unfoldable pub linear_at : ℕ → List ℕ → ℕ → ℕ
linear_at p [] x = 0
linear_at p (l ∷ ls) x = product p l x ⊕ linear_at p ls (product p x x)

-- the whole: "c + l0·x + l1·x^2 + l2·x^4 + ..."
unfoldable pub affine_at : ℕ → ℕ → List ℕ → ℕ → ℕ
affine_at p c ls x = c ⊕ linear_at p ls x
