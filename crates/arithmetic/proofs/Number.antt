-- The logarithm number: what the walk through the powers of x has found (`Tried`), and what the number means: `number_back`,
-- `number_least`, `number_lt`, `number_zero`. Assumes nothing.
use Rattle.std.proofs.Common.{◌≡◌, refl, sym, ap, ◌∙◌, Bool, true, false, ◌≢◌, ◌⊎◌, inl, inr, ◌↔◌, ℕ, suc, ◌+◌, ◌-◌, ◌%◌, ◌^◌, ◌≤◌, ◌<◌, add-one, arith, eqb, pow_mono, pow_pos, below_more, eq-eqb, ne_eqb, eqb-true, lt-ltb, le-ltb}
use Rattle.std.proofs.lemmas.Bool.{eqb-false}
use Rattle.binary.specs.Product.{product, Modulus, times_x}
use Rattle.galois.specs.Field.{Field}
use Rattle.galois.specs.Power.{power}
use Rattle.galois.proofs.Cyclic.{power_reduced, exponent_lt}
use Rattle.binary.proofs.Modulus.{times_x_lt, product_two}
use Rattle.algebra.proofs.Search.{first_is, first_none, found}
use Rattle.arithmetic.specs.Number.{numbered, number_of, element_of}

numbered_some : (n e : ℕ) → e < n → numbered n e ≡ e + 1
unfolding numbered
numbered_some n e l = rw (numbered, lt-ltb e n l)

numbered_none : (n e : ℕ) → n ≤ e → numbered n e ≡ 0
unfolding numbered
numbered_none n e l = rw (numbered, le-ltb e n l)

-- e exponents tried, and x is the power to e
pub record Tried (m p a x e : ℕ) : Type 0 where
  pub few : e ≤ 2 ^ m - 1
  pub small : x < 2 ^ m
  pub now : x ≡ power p 2 e
  pub none : (j : ℕ) → j < e → eqb (power p 2 j) a ≡ false

module _ (m p a : ℕ) (M : Modulus m p) where
  pub tried_start : Tried m p a 1 0
  unfolding power
  tried_start =
      let w = pow_mono M.two in
      record { few = omega arith; small = omega arith; now = refl; none = λ j l. absurd (omega arith) }

  module _ (x e : ℕ) (R : Tried m p a x e) where
    pub tried_turn : (d : ℕ) → e < 2 ^ m - 1 → (x ≡ a → ⊥) → d ≡ times_x p x → Tried m p a d (e + 1)
    unfolding power
    tried_turn d l n ed =
        record {
          few = omega arith;
          small = rw ed (times_x_lt m p M.degree x);
          now = ed ∙ sym (product_two p x) ∙ ap (product p 2) R.now ∙ ap (power p 2) (sym (add-one e));
          none = below_more _ _ R.none (ne_eqb (power p 2 e) a (λ z. n (R.now ∙ z)));
        }

    pub tried_found : e < 2 ^ m - 1 → x ≡ a → e + 1 ≡ number_of m p a
    unfolding number_of
    tried_found l z =
        sym (ap (numbered (2 ^ m - 1))
        (first_is (λ e. eqb (power p 2 e) a) (2 ^ m - 1) e l (eq-eqb (power p 2 e) a (sym R.now ∙ z)) R.none)
        ∙ numbered_some (2 ^ m - 1) e l)

    pub tried_all : 2 ^ m - 1 ≤ e → 0 ≡ number_of m p a
    unfolding number_of
    tried_all l =
        sym (ap (numbered (2 ^ m - 1)) (first_none (λ e. eqb (power p 2 e) a) (2 ^ m - 1) (λ j k. R.none j (omega arith)))
        ∙ numbered_none (2 ^ m - 1) (2 ^ m - 1) (omega arith))

-- the number is e + 1 for the first exponent e that gives a, or 0 where none below 2 ^ m - 1 does
abbrev pub Numbered : ℕ → ℕ → ℕ → Type 0
Numbered m p a =
    ((e : ℕ) × (e < 2 ^ m - 1) × (number_of m p a ≡ suc e) × (power p 2 e ≡ a) × ((j : ℕ) → j < e → power p 2 j ≢ a))
    ⊎ ((number_of m p a ≡ 0) × ((j : ℕ) → j < 2 ^ m - 1 → power p 2 j ≢ a))

pub number_cases : (m p a : ℕ) → Numbered m p a
unfolding number_of
number_cases m p a = go (found f (2 ^ m - 1))
  where
    f : ℕ → Bool
    f e = eqb (power p 2 e) a

    go : ((k : ℕ) × (k < 2 ^ m - 1) × (f k ≡ true) × ((j : ℕ) → j < k → f j ≡ false)) ⊎ ((j : ℕ) → j < 2 ^ m - 1 → f j ≡ false)
        → Numbered m p a
    go (inl r) =
        inl (
          r.0,
          r.1,
          ap (numbered (2 ^ m - 1)) (first_is f (2 ^ m - 1) r.0 r.1 r.2 r.3) ∙ numbered_some (2 ^ m - 1) r.0 r.1 ∙ add-one r.0,
          eqb-true (power p 2 r.0) a r.2,
          λ j l. eqb-false (power p 2 j) a (r.3 j l),
        )
    go (inr h) =
        inr (
          ap (numbered (2 ^ m - 1)) (first_none f (2 ^ m - 1) h) ∙ numbered_none (2 ^ m - 1) (2 ^ m - 1) (omega arith),
          λ j l. eqb-false (power p 2 j) a (h j l),
        )

-- a number that is not 0 goes back to its element
pub number_back : (m p a : ℕ) → number_of m p a ≢ 0 → element_of p (number_of m p a) ≡ a
unfolding element_of
number_back m p a n = go (number_cases m p a)
  where
    go : Numbered m p a → element_of p (number_of m p a) ≡ a
    go (inl r) = ap (element_of p) r.2 ∙ r.3
    go (inr r) = absurd (n r.0)

-- it is the least exponent's
pub number_least : (m p a e j : ℕ) → number_of m p a ≡ suc e → j < e → power p 2 j ≢ a
number_least m p a e j q l = go (number_cases m p a)
  where
    go : Numbered m p a → power p 2 j ≢ a
    go (inl r) = let s = r.2 in r.4 j (omega arith)
    go (inr r) = let z = r.0 in absurd (omega arith)

-- and below 2 ^ m
pub number_lt : (m p a : ℕ) → number_of m p a < 2 ^ m
number_lt m p a = go (number_cases m p a)
  where
    go : Numbered m p a → number_of m p a < 2 ^ m
    go (inl r) = let s = r.2 in let l = r.1 in omega arith
    go (inr r) = let z = r.0 in let w = pow_pos m in omega arith

-- 0 means exactly that no power of x is a
pub number_zero : (m p a : ℕ) → Field m p → 2 ≤ m → (number_of m p a ≡ 0) ↔ ((e : ℕ) → power p 2 e ≢ a)
number_zero m p a F l = (λ z e q. none z e q (number_cases m p a), λ h. go h (number_cases m p a))
  where
    two_lt : 2 < 2 ^ m
    two_lt = let w = pow_mono l in omega arith

    none : number_of m p a ≡ 0 → (e : ℕ) → power p 2 e ≡ a
        → Numbered m p a → ⊥
    none z e q (inl r) = let s = r.2 in omega arith
    none z e q (inr r) =
        r.1 (e % (2 ^ m - 1)) (exponent_lt m p F 2 (λ y. omega arith) two_lt e) (sym (power_reduced m p F 2 (λ y. omega arith) two_lt e) ∙ q)

    go : ((e : ℕ) → power p 2 e ≢ a)
        → Numbered m p a → number_of m p a ≡ 0
    go h (inl r) = absurd (h r.0 r.3)
    go h (inr r) = r.0
