-- A block of divisors: its divisions side by side, a turn of all at a time (`beside_start`, `beside_turn`, `beside_end`); that n, .., n + 7
-- are below a power of 2 where n, a multiple of 8, is (`block-below`), and so of one degree (`alike`). Assumes nothing.
use Rattle.std.proofs.Common.{◌≡◌, ℕ, suc, ◌+◌, ◌-◌, ◌*◌, ◌%◌, ◌^◌, ◌<◌, ◌≤◌, eqb, List, get_or, replicate, ap, ◌∙◌, arith, pow-add}
use Rattle.std.proofs.Math.ListN.{get_or-replicate}
use Rattle.algebra.specs.Search.{some_below}
use Rattle.algebra.proofs.Search.{some_same}
use Rattle.binary.specs.Xor.{Degree}
use Rattle.binary.specs.Remainder.{divides}
use Rattle.binary.specs.Block.{block, raise, turn, IsBlock}
use Rattle.binary.proofs.Xor.{exp_lt}
use Rattle.binary.proofs.Aligned.{Aligned, aligned_start, aligned_turn, aligned_zero}

-- the divisions of p by the raised divisors of degree k: each rest is a value with p's remainder, s places up
abbrev pub Beside : ℕ → ℕ → List ℕ → List ℕ → ℕ → Type 0
Beside k p raised rests s = (i d : ℕ) → i < block → Degree k d → get_or raised i 0 ≡ raise k d → Aligned p d (get_or rests i 0) s

pub beside_start : (m k p : ℕ) (raised : List ℕ) → Degree m p → m ≤ 31 → Beside k p raised (replicate block ((p * 2 ^ (31 - m)) % 2 ^ 32)) (31 - m)
beside_start m k p raised dp l i d h dd e = rw (get_or-replicate block i ((p * 2 ^ (31 - m)) % 2 ^ 32) 0 h) (aligned_start m p d dp l)

pub beside_turn : (k p : ℕ) (raised rests next : List ℕ) (s : ℕ) → s + k ≤ 31 → ((i : ℕ) → i < block → get_or next i 0 ≡ turn (get_or raised i 0) (get_or rests i 0))
    → Beside k p raised rests s → Beside k p raised next (s + 1)
beside_turn k p raised rests next s l q b i d h dd e = rw (q i h, e) (aligned_turn k p d (get_or rests i 0) s dd l (b i d h dd e))

-- at the end a rest is 0 where its divisor divides
pub beside_end : (k p : ℕ) (divisor : ℕ → ℕ) (raised rests : List ℕ) (s : ℕ) → k ≤ 32 → s ≡ 32 - k → ((i : ℕ) → i < block → Degree k (divisor i))
    → ((i : ℕ) → i < block → get_or raised i 0 ≡ raise k (divisor i)) → Beside k p raised rests s
    → some_below (λ i. eqb (get_or rests i 0) 0) block ≡ some_below (λ i. divides (divisor i) p) block
beside_end k p divisor raised rests s l e dd q b =
    some_same (λ i. eqb (get_or rests i 0) 0) (λ i. divides (divisor i) p) block
    (λ i h. aligned_zero k p (divisor i) (get_or rests i 0) s (dd i h) l e (b i (divisor i) h (dd i h) (q i h)))

-- a power of 2 above a number from 8 on is a multiple of 8
pub block-below : (j n i : ℕ) → block ≤ n → n % block ≡ 0 → i < block → n < 2 ^ j → n + i < 2 ^ j
block-below j n i h e l b =
    let w = exp_lt 3 j n h b in
    let f : j ≡ (j - 3) + 3 = omega arith in
    let g : 2 ^ j ≡ 2 ^ (j - 3) * 8 = ap (λ (x : ℕ). 2 ^ x) f ∙ pow-add 2 (j - 3) 3 in
    omega arith

-- all divisors of a block have the degree of its first
pub alike : {first : ℕ} {divisors : List ℕ} (k : ℕ) → IsBlock first divisors → Degree k first → (i : ℕ) → i < block → Degree k (first + i)
alike {first} k B dd i h = omega (arith, dd.0, block-below (suc k) first i B.low B.whole h dd.1)
