-- Lists of numbers below 256, so of bytes: `all_append`, `all_up_to`, `all_member`. The two bytes of an element are below 256
-- (`element_small`) and give it back (`element_reads_back`), and an element of any field is small enough for them (`field_small`). Assumes
-- nothing.
use mathlib.Core.Path.{◌≡◌}
use mathlib.Core.Logic.{inl, inr}
use mathlib.Core.List.{List, [], ◌∷◌, ◌++◌}
use Prim.Native.Nat.{ℕ, zero, suc, ◌+◌, ◌*◌, ◌^◌, ◌≤◌, ◌<◌}
use native.Mathlib.Omega.{arith}
use lib.ListN.{get_or}
use lib.Pow.{pow_mono}
use Rattle.algebra.specs.Lists.{Member}
use Rattle.field.specs.Limits.{largest_degree}
use Rattle.frames.specs.Text.{element_bytes, up_to}

abbrev pub AllBytes : List ℕ → Type 0
AllBytes [] = Unit {0}
AllBytes (v ∷ vs) = (v < 256) × AllBytes vs

pub all_append : (xs ys : List ℕ) → AllBytes xs → AllBytes ys → AllBytes (xs ++ ys)
all_append [] ys h k = k
all_append (x ∷ xs) ys h k = (h.0, all_append xs ys h.1 k)

pub all_up_to : (f : ℕ → List ℕ) (k : ℕ) → ((i : ℕ) → i < k → AllBytes (f i)) → AllBytes (up_to f k)
all_up_to f zero h = tt
all_up_to f (suc k) h = all_append (up_to f k) (f k) (all_up_to f k (λ i l. h i (omega arith))) (h k (omega arith))

pub all_member : (vs : List ℕ) (v : ℕ) → AllBytes vs → Member v vs → v < 256
all_member [] v h k = absurd k
all_member (x ∷ vs) v h (inl e) = omega (arith, h.0)
all_member (x ∷ vs) v h (inr k) = all_member vs v h.1 k

-- ---- elements

pub element_small : (x : ℕ) → x < 65536 → AllBytes (element_bytes x)
element_small x h = (omega arith, (omega arith, tt))

-- "2 bytes, high first"
pub element_reads_back : (x : ℕ) → x < 65536
    → (get_or (element_bytes x) 0 0 * 256 + get_or (element_bytes x) 1 0 ≡ x) × (get_or (element_bytes x) 0 0 < 256) × (get_or (element_bytes x) 1 0 < 256)
element_reads_back x h = (omega arith, omega arith, omega arith)

-- the elements of a field of degree m
pub field_small : (m x : ℕ) → m ≤ largest_degree → x < 2 ^ m → x < 65536
field_small m x h l = let w : 2 ^ m ≤ 2 ^ largest_degree = pow_mono h in omega arith
