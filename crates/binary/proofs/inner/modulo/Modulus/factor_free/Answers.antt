-- `factor_free` meets its contract: no divisor tried so far divides p. Assumes nothing.
use Rattle.std.proofs.Common.{◌≡◌, ℕ, suc, ◌+◌, ◌-◌, ◌/◌, ◌^◌, ◌<◌, ◌≤◌, min, true, false, ◌≢◌, List, sym, ap, ◌∙◌, add-one, arith, pow_mono, eqb-true}
use Rattle.std.proofs.Math.Decide.{dec_lt}
use Rattle.std.proofs.lemmas.Bool.{eqb-false}
use Rattle.algebra.specs.Search.{some_below}
use Rattle.algebra.proofs.Search.{some_yes, some_not}
use Rattle.binary.specs.Remainder.{remainder, divides}
use Rattle.binary.specs.Product.{Modulus}
use Rattle.binary.specs.Factor.{factor_free}
use Rattle.binary.specs.Block.{block, IsBlock}
use Rattle.binary.proofs.Factor.{factor_free_lem, divisor_found}
use Rattle.binary.proofs.Block.{block-below}
use Rattle.binary.proofs.inner.modulo.Modulus.factor_free.Invariants.{Tried}
use Rattle.binary.proofs.inner.modulo.Modulus.factor_free.Goals as goal

-- the limit 2 ^ (m / 2 + 1) is no larger than p, and small
limit-le : {m p limit : ℕ} → Modulus m p → limit ≡ 2 ^ (m / 2 + 1) → (limit ≤ p) × (limit ≤ 2 ^ 16)
limit-le {m} {p} {limit} M e =
    let two = M.two in
    let fits = M.fits in
    let g : m / 2 + 1 ≤ m = omega arith in
    let h : m / 2 + 1 ≤ 16 = omega arith in
    let y = pow_mono g in
    let z = pow_mono h in
    (omega (arith, M.degree.0), omega arith)

-- a divisor below 8
small-divisor : (m p limit : ℕ) → limit ≡ 2 ^ (m / 2 + 1) → some_below (λ i. divides (suc (suc i)) p) (min limit block - 2) ≡ true → false ≡ factor_free m p
small-divisor m p limit e t =
    let y = some_yes (λ i. divides (suc (suc i)) p) (min limit block - 2) t in
    let l = y.1 in
    let f : limit ≡ 2 ^ suc (m / 2) = rw add-one at e in
    sym (divisor_found m p (suc (suc y.0)) (omega arith) (omega arith) (eqb-true (remainder p (suc (suc y.0))) 0 y.2))

start : (m p limit : ℕ) → limit ≡ 2 ^ (m / 2 + 1) → some_below (λ i. divides (suc (suc i)) p) (min limit block - 2) ≡ false → Tried m p limit block
start m p limit e n =
    record {
      limit_is = e;
      none = λ j l h b.
          let q : suc (suc (j - 2)) ≡ j = omega arith in
          eqb-false (remainder p j) 0
          (sym (ap (λ (x : ℕ). divides x p) q) ∙ some_not (λ i. divides (suc (suc i)) p) (min limit block - 2) n (j - 2) (omega arith));
    }

module _ {m p limit first : ℕ} (t : Tried m p limit first) where
  all : limit ≤ first → true ≡ factor_free m p
  all l =
      let f : limit ≡ 2 ^ suc (m / 2) = rw add-one at t.limit_is in
      sym (factor_free_lem m p (λ j h k. t.none j (omega arith) h (omega arith)))

  module _ {divisors : List ℕ} (B : IsBlock first divisors) (l : first < limit) where
    -- all of the block is below the limit
    below : (i : ℕ) → i < block → first + i < limit
    below i h =
        let e = t.limit_is in
        let w = block-below (m / 2 + 1) first i B.low B.whole h (omega arith) in
        omega arith

    divisor : some_below (λ i. divides (first + i) p) block ≡ true → false ≡ factor_free m p
    divisor s =
        let y = some_yes (λ i. divides (first + i) p) block s in
        let f : limit ≡ 2 ^ suc (m / 2) = rw add-one at t.limit_is in
        let b = below y.0 y.1 in
        sym (divisor_found m p (first + y.0) (omega (arith, B.low)) (omega arith) (eqb-true (remainder p (first + y.0)) 0 y.2))

    turn : some_below (λ i. divides (first + i) p) block ≡ false → Tried m p limit (first + block)
    turn s =
        record { limit_is = t.limit_is; none = λ j h two b. pick j h two b (dec_lt j first) }
      where
        pick : (j : ℕ) → j < first + block → 2 ≤ j → j < limit → Dec (j < first) → remainder p j ≢ 0
        pick j h two b (yes k) = t.none j k two b
        pick j h two b (no n) =
            let q : first + (j - first) ≡ j = omega arith in
            eqb-false (remainder p j) 0
            (ap (λ (x : ℕ). divides x p) (sym q) ∙ some_not (λ i. divides (first + i) p) block s (j - first) (omega arith))

pub few_divide-requires : goal.few_divide-requires
few_divide-requires c = (limit-le c.args.self.is_modulus c.power_of_two-limit.ensures).0

pub returns-then-few_divide : goal.returns-then-few_divide
returns-then-few_divide c =
    let a = c.args in
    small-divisor a.self.degree a.self.polynomial c.power_of_two-limit.result c.power_of_two-limit.ensures (sym c.few_divide.ensures ∙ c.if-few_divide.true)

pub loop-candidates-init : goal.loop-candidates-init
loop-candidates-init c =
    rw c.lowest-candidates.ensures (start c.args.self.degree c.args.self.polynomial _ c.power_of_two-limit.ensures (sym c.few_divide.ensures ∙ c.if-few_divide.false))

pub has_divisor_in-requires : goal.has_divisor_in-requires
has_divisor_in-requires c = let w = limit-le c.args.self.is_modulus c.power_of_two-limit.ensures in omega arith

pub returns-then-has_divisor_in : goal.returns-then-has_divisor_in
returns-then-has_divisor_in c =
    let l = c.loop-candidates in
    divisor l.invariant l.candidates.is_block (omega arith) (sym c.has_divisor_in.ensures ∙ c.if-has_divisor_in.true)

pub loop-candidates-preserved : goal.loop-candidates-preserved
loop-candidates-preserved c =
    let l = c.loop-candidates in
    rw c.following-candidates.ensures (turn l.invariant l.candidates.is_block (omega arith) (sym c.has_divisor_in.ensures ∙ c.if-has_divisor_in.false))

pub returns : goal.returns
returns c = all c.loop-candidates.invariant (omega arith)
