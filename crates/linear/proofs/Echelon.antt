-- Directions as the scope describes them, with no search (`Echelon`): their highest bits ascend and are clear in the other
-- entries (`tops_clear`). Of their choices: the bit i of the number that chooses stands at the highest bit of the entry i (`choose-bit`);
-- a choice has the highest bit of the highest chosen entry (`choose-top`, `choose_degree`); the choices ascend (`choices_ascend`).
-- Assumes nothing.
use mathlib.Core.Path.{◌≡◌, refl, sym, ap, ◌∙◌}
use mathlib.Core.Logic.{◌≢◌, inl, inr}
use mathlib.Core.List.{List, [], ◌∷◌}
use Prim.Native.Nat.{ℕ, zero, suc, ◌*◌, ◌/◌, ◌%◌, ◌^◌, ◌≤◌, ◌<◌}
use native.Mathlib.Nat.{mod-lt, one-mul, mul-one, lt_of_not-le}
use native.Mathlib.Omega.{arith}
use native.Mathlib.Decide.{ℕ_discrete}
use lib.ListN.{length, get_or}
use lib.Pow.{pow_pos, pow_mono}
use Rattle.algebra.specs.Lists.{Member, Ascending}
use Rattle.binary.specs.Xor.{◌⊕◌, Degree}
use Rattle.binary.specs.Bit.{bit}
use Rattle.binary.proofs.Xor.{two_pos, by_digit, zero_xor, xor-zero, xor_comm, xor_assoc, xor_twice, xor_lt, equal_of_xor}
use Rattle.binary.proofs.Xor.{keep-top, exp_lt, degree_unique, has_degree}
use Rattle.binary.proofs.Bit.{bit_low, bit_half, bit-xor, bit_high, bit-top, bit-digit, lt_xor}
use Rattle.linear.specs.Directions.{choose}
use Rattle.linear.proofs.Order.{lower_clear}
use Rattle.linear.proofs.Choose.{choose-zero, choose-xor, choose-clear}

-- bit u is 0 in each entry
abbrev pub Clear : ℕ → List ℕ → Type 0
Clear u ds = (i : ℕ) → i < length ds → bit u (get_or ds i 0) ≡ 0

-- each has its own highest bit, ascending, at least t, and it is clear in those that follow
pub data Echelon : ℕ → List ℕ → Type 0 where
  none : {t : ℕ} → Echelon t []
  next : {t u d : ℕ} {ds : List ℕ} → t ≤ u → Degree u d → Clear u ds → Echelon (suc u) ds → Echelon t (d ∷ ds)

-- the highest bit of the entry at place i
pub top_of : {t : ℕ} {ds : List ℕ} → Echelon t ds → (i : ℕ) → i < length ds → (u : ℕ) × (t ≤ u) × Degree u (get_or ds i 0)
top_of none i h = absurd (omega arith)
top_of (next {u = u} l d c r) zero h = (u, l, d)
top_of (next l d c r) (suc i) h = let q = top_of r i (omega arith) in (q.0, omega (arith, q.1), q.2)

pub top_ge : {t : ℕ} {ds : List ℕ} → Echelon t ds → (i u : ℕ) → i < length ds → Degree u (get_or ds i 0) → t ≤ u
top_ge {ds = ds} e i u h d = let q = top_of e i h in omega (arith, q.1, degree_unique q.0 u (get_or ds i 0) q.2 d)

-- what comes before is below the highest bit of an entry
below_later : {u d : ℕ} {ds : List ℕ} → Degree u d → Echelon (suc u) ds → (i s : ℕ) → i < length ds → Degree s (get_or ds i 0) → d < 2 ^ s
below_later d r i s h g = omega (arith, d, pow_mono (top_ge r i s h g))

-- the highest bit of one entry is clear in every other
pub tops_clear : {t : ℕ} {ds : List ℕ} → Echelon t ds → (i j s : ℕ) → i < length ds → j < length ds → j ≢ i
    → Degree s (get_or ds i 0) → bit s (get_or ds j 0) ≡ 0
tops_clear none i j s h l n g = absurd (omega arith)
tops_clear (next a d c r) zero zero s h l n g = absurd (n refl)
tops_clear (next {u = u} {d = v} a d c r) zero (suc j) s h l n g =
    rw (degree_unique s u v g d) (c j (omega arith))
tops_clear (next a d c r) (suc i) zero s h l n g = bit_high s (below_later d r i s (omega arith) g)
tops_clear (next a d c r) (suc i) (suc j) s h l n g = tops_clear r i j s (omega arith) (omega arith) (λ e. n (ap suc e)) g

-- ---- the entries ascend

pub echelon_ge : {t : ℕ} {ds : List ℕ} → Echelon t ds → (y : ℕ) → Member y ds → 2 ^ t ≤ y
echelon_ge none y h = absurd h
echelon_ge (next l d c r) y (inl e) = omega (arith, pow_mono l)
echelon_ge (next l d c r) y (inr h) = omega (arith, pow_mono l, echelon_ge r y h)

pub echelon_ascending : {t : ℕ} {ds : List ℕ} → Echelon t ds → Ascending ds
echelon_ascending none = tt
echelon_ascending (next l d c r) = (λ y h. omega (arith, d, echelon_ge r y h), echelon_ascending r)

-- ---- choices

digit_lt : (k d s : ℕ) → d < 2 ^ s → k % 2 * d < 2 ^ s
digit_lt k d s h = by_digit (λ (c : ℕ). c * d < 2 ^ s) (omega (arith, pow_pos s)) (omega arith) (k % 2) (mod-lt k two_pos)

-- the number that chooses, read off from a choice
pub choose-bit : {t : ℕ} {ds : List ℕ} → Echelon t ds → (i s k : ℕ) → i < length ds → Degree s (get_or ds i 0) → bit s (choose ds k) ≡ bit i k
unfolding choose
choose-bit none i s k h g = absurd (omega arith)
choose-bit (next {u = u} {d = v} {ds = ds} a d c r) zero s k h g =
    let e = degree_unique s u v g d in
    let z : bit s (choose ds (k / 2)) ≡ 0 = rw e (choose-clear u ds c (k / 2)) in
    bit-xor s (k % 2 * v) (choose ds (k / 2))
    ∙ rw (z, xor-zero, bit-digit s (k % 2) v (mod-lt k two_pos), bit-top s v g, mul-one) (sym (bit_low k))
choose-bit (next {d = v} {ds = ds} a d c r) (suc i) s k h g =
    let z = bit_high s (digit_lt k v s (below_later d r i s (omega arith) g)) in
    bit-xor s (k % 2 * v) (choose ds (k / 2))
    ∙ rw (z, zero_xor, choose-bit r i s (k / 2) (omega arith) g) (bit_half i k)

-- the highest chosen entry has the choice's highest bit
pub choose-top : {t : ℕ} {ds : List ℕ} → Echelon t ds → (i s k : ℕ) → i < length ds → Degree i k → Degree s (get_or ds i 0) → Degree s (choose ds k)
unfolding choose
choose-top none i s k h p g = absurd (omega arith)
choose-top (next {ds = ds} a d c r) zero s k h p g =
    let e : k ≡ 1 = omega arith in
    rw (e, one-mul, choose-zero ds, xor-zero) g
choose-top (next {d = v} {ds = ds} a d c r) (suc i) s k h p g =
    let w = choose-top r i s (k / 2) (omega arith) (omega arith, omega arith) g in
    let l = digit_lt k v s (below_later d r i s (omega arith) g) in
    (rw xor_comm (keep-top s (choose ds (k / 2)) (k % 2 * v) w.0 l), xor_lt (suc s) (omega arith) w.1)

-- a choice's highest bit is an entry's
pub choose_degree : {t : ℕ} {ds : List ℕ} → Echelon t ds → (s k : ℕ) → k < 2 ^ length ds → Degree s (choose ds k)
    → (i : ℕ) × (i < length ds) × Degree s (get_or ds i 0)
choose_degree {ds = ds} e s k h g =
    let p = has_degree k (λ q. omega (arith, g, pow_pos s, ap (choose ds) q, choose-zero ds)) in
    let l = exp_lt p.0 (length ds) k p.1.0 h in
    let q = top_of e p.0 l in
    let w = degree_unique q.0 s (choose ds k) (choose-top e p.0 q.0 k l p.1 q.2) g in
    (p.0, l, rw w at q.2)

-- ---- the choices ascend

-- the highest bit of each entry is clear in b
abbrev pub TopsClear : List ℕ → ℕ → Type 0
TopsClear ds b = (i s : ℕ) → i < length ds → Degree s (get_or ds i 0) → bit s b ≡ 0

-- i is the highest place where the two choose otherwise
ascend_at : {t : ℕ} {ds : List ℕ} → Echelon t ds → (b : ℕ) → TopsClear ds b → (k n i s : ℕ) → k < n → Degree i (k ⊕ n) → i < length ds
    → Degree s (get_or ds i 0) → b ⊕ choose ds k < b ⊕ choose ds n
ascend_at {ds = ds} e b c k n i s l p h g =
    rw (choose-xor ds k n, sum (choose ds k) (choose ds n)) at
    (lt_xor s (b ⊕ choose ds k) (choose ds (k ⊕ n)) (choose-top e i s (k ⊕ n) h p g) clear)
  where
    sum : (x y : ℕ) → (b ⊕ x) ⊕ (x ⊕ y) ≡ b ⊕ y
    sum x y = xor_assoc b x (x ⊕ y) ∙ ap (λ (v : ℕ). b ⊕ v) (xor_twice x y)

    clear : bit s (b ⊕ choose ds k) ≡ 0
    clear = bit-xor s b (choose ds k) ∙ rw (c i s h g, choose-bit e i s k h g, lower_clear i k n l p) (zero_xor 0)

pub choices_ascend : {t : ℕ} {ds : List ℕ} → Echelon t ds → (b : ℕ) → TopsClear ds b → (k n : ℕ) → k < n → n < 2 ^ length ds
    → b ⊕ choose ds k < b ⊕ choose ds n
choices_ascend {ds = ds} e b c k n l h =
    let p = has_degree (k ⊕ n) (λ q. omega (arith, equal_of_xor k n q)) in
    let i = exp_lt p.0 (length ds) (k ⊕ n) p.1.0 (xor_lt (length ds) (omega arith) h) in
    let q = top_of e p.0 i in
    ascend_at e b c k n p.0 q.0 l p.1 i q.2

-- ---- from the description, and how many

get_or_member : (ds : List ℕ) (i : ℕ) → i < length ds → Member (get_or ds i 0) ds
get_or_member [] i h = absurd (omega arith)
get_or_member (d ∷ ds) zero h = inl refl
get_or_member (d ∷ ds) (suc i) h = inr (get_or_member ds i (omega arith))

-- the entry at place i has its highest bit, at least t, and it is clear in the others
abbrev pub Top : ℕ → List ℕ → ℕ → Type 0
Top t ds i = (u : ℕ) × (t ≤ u) × Degree u (get_or ds i 0) × ((j : ℕ) → j < length ds → j ≢ i → bit u (get_or ds j 0) ≡ 0)

later_top : {u d s e : ℕ} → Degree u d → d < e → Degree s e → bit u e ≡ 0 → u < s
later_top {u} {d} {s} {e} p l q z = lt_of_not-le (λ k. go k (ℕ_discrete u s))
  where
    go : s ≤ u → Dec (u ≡ s) → ⊥
    go k (yes w) = omega (arith, z, bit-top u e (rw w q))
    go k (no w) = let h : s < u = omega arith in omega (arith, p, q, pow_mono h)

pub echelon_of : (t : ℕ) (ds : List ℕ) → Ascending ds → ((i : ℕ) → i < length ds → Top t ds i) → Echelon t ds
echelon_of t [] a h = none
echelon_of t (d ∷ ds) a h =
    let p = h 0 (omega arith) in
    let c : Clear p.0 ds = λ i l. p.3 (suc i) (omega arith) (λ e. omega arith) in
    next p.1 p.2 c (echelon_of (suc p.0) ds a.1 (λ i l. rest i l p.0 p.2 (c i l) (h (suc i) (omega arith))))
  where
    rest : (i : ℕ) → i < length ds → (u : ℕ) → Degree u d → bit u (get_or ds i 0) ≡ 0 → Top t (d ∷ ds) (suc i) → Top (suc u) ds i
    rest i l u g z q = (
      q.0,
      later_top g (a.0 (get_or ds i 0) (get_or_member ds i l)) q.2 z,
      q.2,
      λ j k n. q.3 (suc j) (omega arith) (λ e. n (omega arith)),
    )
