-- Powers: a multiplied by itself (01, "Power"), and squaring again and again. Assumes nothing.
use Rattle.std.specs.Prelude.{ℕ, zero, suc}
use Rattle.binary.specs.Product.{product}

-- n factors a
unfoldable pub power : ℕ → ℕ → ℕ → ℕ
power p a zero = 1
power p a (suc n) = product p a (power p a n)

-- k squarings of a, which is a to the power 2 ^ k (`squares_is` of proofs/Power)
unfoldable pub squares : ℕ → ℕ → ℕ → ℕ
squares p zero a = a
squares p (suc k) a = product p (squares p k a) (squares p k a)
