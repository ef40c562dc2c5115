-- C1, `fermat`: a to the power 2 ^ m is a. C2: the square root squares to b (`root_square`) and is the only one (`root_unique`). Assumes nothing.
use mathlib.Core.Path.{◌≡◌, refl, sym, ap, ◌∙◌}
use mathlib.Core.Logic.{◌≢◌, inl, inr}
use mathlib.Core.List.{List, [], ◌∷◌, map}
use Prim.Native.Nat.{ℕ, zero, suc, ◌-◌, ◌^◌, ◌<◌}
use native.Mathlib.Decide.{ℕ_discrete}
use native.Mathlib.Omega.{arith}
use lib.ListN.{length, length-map}
use lib.Pow.{suc_ones}
use Rattle.binary.specs.Product.{product}
use Rattle.binary.proofs.Product.{product_comm, product_one}
use Rattle.binary.proofs.Inverse.{no_zero_divisors, product_cancel}
use Rattle.algebra.specs.Lists.{Member, Nodup, below}
use Rattle.algebra.proofs.Members.{total, total-same}
use Rattle.algebra.proofs.Onto.{InjectiveOn, of_map, to_map, map_nodup, image_nodup, image_within, image_length, below_length, to_below, of_below, below_nodup}
use Rattle.galois.specs.Field.{Field}
use Rattle.galois.proofs.Field.{one_lt}
use Rattle.galois.specs.Power.{power, squares}
use Rattle.galois.proofs.Power.{zero-product, squares-shift, mul_lt, mul_left, exchange, power_lt, squares_is}

-- the numbers 1 .. n
abbrev pub nonzero : ℕ → List ℕ
nonzero n = map suc (below n)

pub to_nonzero : (n x : ℕ) → x ≢ 0 → x < suc n → Member x (nonzero n)
to_nonzero n zero f h = absurd (f refl)
to_nonzero n (suc x) f h = to_map suc (below n) x (to_below n x (omega arith))

pub of_nonzero : (n x : ℕ) → Member x (nonzero n) → (x ≢ 0) × (x < suc n)
of_nonzero n x h =
    let r = of_map suc (below n) x h in
    let l = of_below n r.0 r.1 in
    let e = r.2 in
    (omega arith, omega arith)

pub nonzero_nodup : (n : ℕ) → Nodup (nonzero n)
nonzero_nodup n = map_nodup suc (below n) (below_nodup n) (λ x y hx hy e. omega arith)

pub nonzero_length : (n : ℕ) → length (nonzero n) ≡ n
nonzero_length n = length-map (below n) suc ∙ below_length n

-- the product of a list
abbrev pub product_all : ℕ → List ℕ → ℕ
product_all p xs = total ℕ (product p) 1 (λ x. x) xs

module _ (m p : ℕ) (F : Field m p) where
  product_all_lt : (xs : List ℕ) → product_all p xs < 2 ^ m
  product_all_lt [] = one_lt m p F
  product_all_lt (x ∷ xs) = mul_lt m p F x (product_all p xs)

  product_all_nonzero : (xs : List ℕ) → ((x : ℕ) → Member x xs → (x ≢ 0) × (x < 2 ^ m)) → product_all p xs ≢ 0
  product_all_nonzero [] h e = omega arith
  product_all_nonzero (x ∷ xs) h e =
      let r = h x (inl refl) in
      product_all_nonzero xs (λ y k. h y (inr k)) (no_zero_divisors m p F.irr x (product_all p xs) r.0 r.1 (product_all_lt xs) e)

  product_all_map : (a : ℕ) (xs : List ℕ) → product_all p (map (product p a) xs) ≡ product p (power p a (length xs)) (product_all p xs)
  unfolding power
  product_all_map a [] = sym (product_one m p F.irr.degree 1 (one_lt m p F))
  product_all_map a (x ∷ xs) = ap (product p (product p a x)) (product_all_map a xs) ∙ exchange m p F a x (power p a (length xs)) (product_all p xs)

  module _ (a : ℕ) (na : a ≢ 0) (ha : a < 2 ^ m) where
    permutes : (n : ℕ) → suc n ≡ 2 ^ m → InjectiveOn (nonzero n) (product p a)
    permutes n s =
        record {
          stays = λ x k. let r = of_nonzero n x k in
              to_nonzero n (product p a x) (λ e. r.0 (no_zero_divisors m p F.irr a x na ha (omega arith) e)) (rw s (mul_lt m p F a x));
          apart = λ x y hx hy e. let r = of_nonzero n x hx in let q = of_nonzero n y hy in
              product_cancel m p F.irr a x y na ha (omega arith) (omega arith) e;
        }

    period : (n : ℕ) → suc n ≡ 2 ^ m → power p a n ≡ 1
    period n s =
        let S = nonzero n in
        let J = permutes n s in
        let d = nonzero_nodup n in
        let e = total-same ℕ (product p) 1 (λ x. x) (mul_left m p F) (map (product p a) S) S (image_nodup S d (product p a) J)
        (image_within S d (product p a) J) (image_length S d (product p a) J) in
        product_cancel m p F.irr (product_all p S) (power p a n) 1
        (product_all_nonzero S (λ x k. let r = of_nonzero n x k in (r.0, omega arith))) (product_all_lt S) (power_lt m p F a n) (one_lt m p F)
        (product_comm p (product_all p S) (power p a n) ∙ ap (λ (k : ℕ). product p (power p a k) (product_all p S)) (sym (nonzero_length n)) ∙ sym (product_all_map a S) ∙ e
        ∙ sym (product_one m p F.irr.degree (product_all p S) (product_all_lt S)))

    pub fermat_nonzero : power p a (2 ^ m - 1) ≡ 1
    fermat_nonzero = period (2 ^ m - 1) (suc_ones m)

  -- C1
  pub fermat : (a : ℕ) → a < 2 ^ m → power p a (2 ^ m) ≡ a
  unfolding power
  fermat a h = ap (power p a) (sym (suc_ones m)) ∙ go (ℕ_discrete a 0)
    where
      go : Dec (a ≡ 0) → product p a (power p a (2 ^ m - 1)) ≡ a
      go (yes e) = ap (λ (x : ℕ). product p x (power p a (2 ^ m - 1))) e ∙ zero-product p (power p a (2 ^ m - 1)) ∙ sym e
      go (no n) = ap (product p a) (fermat_nonzero a n h) ∙ product_one m p F.irr.degree a h

  -- and by squarings
  pub squares_all : (a : ℕ) → a < 2 ^ m → squares p m a ≡ a
  squares_all a h = squares_is m p F m a h ∙ fermat a h

  -- C2: the square root
  pub root_square : (b : ℕ) → b < 2 ^ m → product p (squares p (m - 1) b) (squares p (m - 1) b) ≡ b
  unfolding squares
  root_square b h =
      let e : suc (m - 1) ≡ m = omega (arith, F.pos) in
      ap (λ (k : ℕ). squares p k b) e ∙ squares_all b h

  pub square_root : (b : ℕ) → b < 2 ^ m → squares p (m - 1) (product p b b) ≡ b
  square_root b h =
      let e : suc (m - 1) ≡ m = omega (arith, F.pos) in
      squares-shift p (m - 1) b ∙ ap (λ (k : ℕ). squares p k b) e ∙ squares_all b h

  pub root_unique : (a b : ℕ) → a < 2 ^ m → product p a a ≡ b → a ≡ squares p (m - 1) b
  root_unique a b h e = sym (square_root a h) ∙ ap (squares p (m - 1)) e
