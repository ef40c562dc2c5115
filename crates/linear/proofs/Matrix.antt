-- D5: the rows of a system given by its columns. Where the columns are an additive function at the powers of two, row i and v have the parity
-- of bit i of the function at v (`row-dot`), and so the rows' tests are the function's (`kernel_of_rows`, `solves_of_rows`). Assumes nothing.
use mathlib.Core.Path.{◌≡◌, refl, sym, ap, ap₂, ◌∙◌}
use mathlib.Core.Logic.{◌≢◌, ◌↔◌}
use mathlib.Core.List.{List, map}
use Prim.Native.Nat.{ℕ, zero, suc, ◌+◌, ◌*◌, ◌^◌, ◌≤◌, ◌<◌}
use native.Mathlib.Nat.{mul-zero, mul-one}
use native.Mathlib.Decide.{ℕ_discrete, dec_lt}
use native.Mathlib.Numerals.{add-one}
use native.Mathlib.Omega.{arith}
use lib.Bits.{bit_xor}
use lib.ListN.{length, get_or, set, length-map, get_or-eq_default}
use Rattle.algebra.specs.Lists.{count_up}
use Rattle.algebra.proofs.Filled.{Filled, filled_put, filled_all}
use Rattle.algebra.proofs.CountUp.{count_up-length, map-count_up, map_same}
use Rattle.binary.specs.Xor.{◌⊕◌}
use Rattle.binary.specs.Bit.{bit}
use Rattle.binary.proofs.Xor.{is_xor, zero_xor, xor-zero, xor_lt}
use Rattle.binary.proofs.Bit.{bit_lt, bit-zero, bit-xor, bit_high, bit_pow, bit_pow_other, bit-digit, digit-times_lt, same_bits}
use Rattle.binary.proofs.Additive.{Additive, additive_same}
use Rattle.linear.specs.Limits.{places}
use Rattle.linear.specs.System.{dot, Kernel, Solves}
use Rattle.linear.specs.Matrix.{across, row_of, rows_of, with_column}
use Rattle.linear.proofs.Dot.{dot-xor, zero-dot, dot_pow}

-- ---- a digit put on top of a number below 2 ^ n

module _ (n a d : ℕ) (ha : a < 2 ^ n) (hd : d < 2) where
  topped_lt : a ⊕ d * 2 ^ n < 2 ^ suc n
  topped_lt = xor_lt (suc n) (omega arith) (digit-times_lt d n (suc n) hd (omega arith))

  topped_bit : (j : ℕ) → j ≢ n → bit j (a ⊕ d * 2 ^ n) ≡ bit j a
  topped_bit j f =
      bit-xor j a (d * 2 ^ n) ∙ ap (λ (v : ℕ). bit j a ⊕ v) (bit-digit j d (2 ^ n) hd)
      ∙ rw (bit_pow_other j n f, mul-zero) (xor-zero (bit j a))

  topped_top : bit n (a ⊕ d * 2 ^ n) ≡ d
  topped_top =
      bit-xor n a (d * 2 ^ n) ∙ ap (λ (v : ℕ). bit n a ⊕ v) (bit-digit n d (2 ^ n) hd)
      ∙ rw (bit_high n ha, bit_pow, mul-one) (zero_xor d)

across_lt : (f : ℕ → ℕ) (i n : ℕ) → across f i n < 2 ^ n
unfolding across
across_lt f i zero = omega arith
across_lt f i (suc n) = topped_lt n (across f i n) (bit i (f n)) (across_lt f i n) (bit_lt i (f n))

across-bit : (f : ℕ → ℕ) (i n j : ℕ) → j < n → bit j (across f i n) ≡ bit i (f j)
unfolding across
across-bit f i zero j h = absurd (omega arith)
across-bit f i (suc n) j h = go (ℕ_discrete j n) (λ k. across-bit f i n j k)
  where
    go : Dec (j ≡ n) → (j < n → bit j (across f i n) ≡ bit i (f j)) → bit j (across f i n ⊕ bit i (f n) * 2 ^ n) ≡ bit i (f j)
    go (yes e) ih = rw e (topped_top n (across f i n) (bit i (f n)) (across_lt f i n) (bit_lt i (f n)))
    go (no g) ih = topped_bit n (across f i n) (bit i (f n)) (across_lt f i n) (bit_lt i (f n)) j g ∙ ih (omega arith)

across-same : (f g : ℕ → ℕ) (i n : ℕ) → ((j : ℕ) → j < n → f j ≡ g j) → across f i n ≡ across g i n
unfolding across
across-same f g i zero h = refl
across-same f g i (suc n) h =
    ap₂ (λ (x y : ℕ). x ⊕ bit i y * 2 ^ n) (across-same f g i n (λ j l. h j (omega arith))) (h n (omega arith))

-- rows turn on the columns that there are
pub rows_of-same : (m : ℕ) (f g : ℕ → ℕ) (c : ℕ) → ((j : ℕ) → j < m → f j ≡ g j) → rows_of m f c ≡ rows_of m g c
unfolding rows_of row_of
rows_of-same m f g c h =
    map_same (row_of m f c) (row_of m g c) 0 places (λ i l. ap (λ (x : ℕ). x ⊕ bit i c * 2 ^ m) (across-same f g i m h))

rows_of-length : (m : ℕ) (f : ℕ → ℕ) (c : ℕ) → length (rows_of m f c) ≡ places
unfolding rows_of
rows_of-length m f c = length-map (count_up 0 places) (row_of m f c) ∙ count_up-length 0 places

-- ---- the code's columns, one after another

with_column-length : (j column : ℕ) (rows : List ℕ) → length (with_column j column rows) ≡ places
unfolding with_column
with_column-length j column rows =
    length-map (count_up 0 places) (λ i. get_or rows i 0 ⊕ bit i column * 2 ^ j) ∙ count_up-length 0 places

with_column_at : (j column : ℕ) (rows : List ℕ) (i : ℕ) → i < places → get_or (with_column j column rows) i 0 ≡ get_or rows i 0 ⊕ bit i column * 2 ^ j
unfolding with_column
with_column_at j column rows i h = map-count_up (λ i. get_or rows i 0 ⊕ bit i column * 2 ^ j) 0 places i 0 h ∙ ap (λ (k : ℕ). get_or rows k 0 ⊕ bit k column * 2 ^ j) (omega arith)

-- the entry of a row more that the code's loop makes, and what it has made at its end
module _ (j column : ℕ) (old out : List ℕ) (i : ℕ) (w : Filled (λ k. get_or old k 0 ⊕ bit k column * 2 ^ j) old out i) where
  pub with_column-turn : (d : ℕ) → i < length old → d ≡ bit i column * 2 ^ j
      → Filled (λ k. get_or old k 0 ⊕ bit k column * 2 ^ j) old (set out i (bit_xor (get_or out i 0) d)) (i + 1)
  with_column-turn d h e =
      filled_put _ old out i (bit_xor (get_or out i 0) d) h
      (ap₂ bit_xor (w.rest i (omega arith)) e ∙ sym (is_xor (get_or old i 0) (bit i column * 2 ^ j))) w

  pub with_column_end : length old ≡ places → places ≤ i → out ≡ with_column j column old
  with_column_end long h =
      filled_all _ old out (with_column j column old) i w (omega (arith, long)) (with_column-length j column old ∙ sym long)
      (λ k l. with_column_at j column old k (omega (arith, with_column-length j column old)))

-- the rows of the first j columns
unfoldable pub columns_done : (ℕ → ℕ) → ℕ → List ℕ
columns_done f j = map (λ i. across f i j) (count_up 0 places)

-- one column more makes of the rows g the rows h
joined : (g h : ℕ → ℕ) (j column : ℕ) → ((i : ℕ) → g i ⊕ bit i column * 2 ^ j ≡ h i) → with_column j column (map g (count_up 0 places)) ≡ map h (count_up 0 places)
unfolding with_column
joined g h j column e =
    map_same (λ i. get_or (map g (count_up 0 places)) i 0 ⊕ bit i column * 2 ^ j) h 0 places
    (λ i l. ap (λ (x : ℕ). x ⊕ bit i column * 2 ^ j) (map-count_up g 0 places i 0 l ∙ ap g (omega arith)) ∙ e i)

pub columns_none : (f : ℕ → ℕ) → columns_done f 0 ≡ map (λ i. 0) (count_up 0 places)
unfolding columns_done across
columns_none f = refl

pub columns_more : (f : ℕ → ℕ) (j : ℕ) → with_column j (f j) (columns_done f j) ≡ columns_done f (j + 1)
unfolding columns_done across
columns_more f j = joined (λ i. across f i j) (λ i. across f i (j + 1)) j (f j) (λ i. sym (rw add-one))

pub columns_all : (m : ℕ) (f : ℕ → ℕ) (c : ℕ) → with_column m c (columns_done f m) ≡ rows_of m f c
unfolding columns_done rows_of row_of
columns_all m f c = joined (λ i. across f i m) (row_of m f c) m c (λ i. refl)

-- ---- what the rows say

module _ (m : ℕ) (f : ℕ → ℕ) (c i : ℕ) where
  row-bit : (j : ℕ) → j < m → bit j (row_of m f c i) ≡ bit i (f j)
  unfolding row_of
  row-bit j h = topped_bit m (across f i m) (bit i c) (across_lt f i m) (bit_lt i c) j (λ e. omega arith) ∙ across-bit f i m j h

  row_right : bit m (row_of m f c i) ≡ bit i c
  unfolding row_of
  row_right = topped_top m (across f i m) (bit i c) (across_lt f i m) (bit_lt i c)

  row_at : i < places → get_or (rows_of m f c) i 0 ≡ row_of m f c i
  unfolding rows_of
  row_at h = map-count_up (row_of m f c) 0 places i 0 h ∙ ap (row_of m f c) (omega arith)

module _ (m : ℕ) (L : ℕ → ℕ) (additive : Additive L) (small : (x : ℕ) → L x < 2 ^ places) (c : ℕ) (hc : c < 2 ^ places) (v : ℕ) (hv : v < 2 ^ m) where
  abbrev rows : List ℕ
  rows = rows_of m (λ j. L (2 ^ j)) c

  -- a row's parity with v is its bit of the function at v
  pub row-dot : (i : ℕ) → i < places → dot (get_or rows i 0) v ≡ bit i (L v)
  row-dot i h =
      ap (λ (r : ℕ). dot r v) (row_at m (λ j. L (2 ^ j)) c i h)
      ∙ additive_same (dot (row_of m (λ j. L (2 ^ j)) c i)) (λ x. bit i (L x)) (dot-xor (row_of m (λ j. L (2 ^ j)) c i))
      (λ x y. ap (bit i) (additive x y) ∙ bit-xor i (L x) (L y)) m
      (λ j l. dot_pow j (row_of m (λ j. L (2 ^ j)) c i) ∙ row-bit m (λ j. L (2 ^ j)) c i j l) v hv

  right_bit : (i : ℕ) → i < places → bit m (get_or rows i 0) ≡ bit i c
  right_bit i h = ap (bit m) (row_at m (λ j. L (2 ^ j)) c i h) ∙ row_right m (λ j. L (2 ^ j)) c i

  -- past the rows stands 0
  past : (i : ℕ) → places ≤ i → get_or rows i 0 ≡ 0
  past i h = get_or-eq_default rows 0 (omega (arith, rows_of-length m (λ j. L (2 ^ j)) c))

  pub kernel_of_rows : Kernel rows v ↔ (L v ≡ 0)
  kernel_of_rows = (there, back)
    where
      there : Kernel rows v → L v ≡ 0
      there k = same_bits places (L v) 0 (small v) (omega arith) (λ i l. sym (row-dot i l) ∙ k i ∙ sym (bit-zero i))

      back : L v ≡ 0 → Kernel rows v
      back e i = go (dec_lt i places)
        where
          go : Dec (i < places) → dot (get_or rows i 0) v ≡ 0
          go (yes l) = row-dot i l ∙ ap (bit i) e ∙ bit-zero i
          go (no n) = rw (past i (omega arith)) (zero-dot v)

  pub solves_of_rows : Solves m rows v ↔ (L v ≡ c)
  solves_of_rows = (there, back)
    where
      there : Solves m rows v → L v ≡ c
      there h = same_bits places (L v) c (small v) hc (λ i l. sym (row-dot i l) ∙ h.1 i ∙ right_bit i l)

      back : L v ≡ c → Solves m rows v
      back e = (hv, λ i. go i (dec_lt i places))
        where
          go : (i : ℕ) → Dec (i < places) → dot (get_or rows i 0) v ≡ bit m (get_or rows i 0)
          go i (yes l) = row-dot i l ∙ ap (bit i) e ∙ sym (right_bit i l)
          go i (no n) = rw (past i (omega arith)) (zero-dot v ∙ sym (bit-zero m))
