-- "Each entry has the degree it stands under and is irreducible" (01): one test over the whole table, and one law. Assumes nothing.
use mathlib.Core.Path.{◌≡◌, subst}
use mathlib.Core.Bool.{Bool, ◌&&◌}
use Prim.Native.Nat.{ℕ, suc, ◌+◌, ◌-◌, ◌^◌, ◌≤◌, ◌<◌}
use native.Mathlib.Omega.{arith}
use lib.Dec.{T, leb, ltb, leb→le, ltb→lt}
use lib.ListN.{get_or}
use Rattle.algebra.specs.Search.{every_below}
use Rattle.algebra.proofs.Search.{is_true}
use Rattle.algebra.proofs.Table.{at, both_left, both_right}
use Rattle.binary.specs.Xor.{◌⊕◌}
use Rattle.binary.specs.Fold.{fold, fold_f}
use Rattle.binary.specs.Remainder.{top, top_step, reduce, remainder_step, remainder_by, remainder}
use Rattle.binary.specs.Factor.{factor_free, Irreducible}
use Rattle.binary.proofs.Factor.{test_irreducible}
use Rattle.field.specs.Limits.{smallest_degree, largest_degree}
use Rattle.field.specs.House.{house_table, house_entry}

-- the entry x at place k, for the degree k + 2
right : ℕ → ℕ → Bool
right k x = leb (2 ^ (k + smallest_degree)) x && (ltb x (2 ^ suc (k + smallest_degree)) && factor_free (k + smallest_degree) x)

all_right : (k : ℕ) → k < 15 → T (right k (get_or house_table k 0))
unfolding right factor_free every_below fold fold_f ◌⊕◌ remainder remainder_by top top_step reduce remainder_step
all_right k h = at right house_table tt k h

pub house_irreducible : (d : ℕ) → smallest_degree ≤ d → d ≤ largest_degree → Irreducible d (house_entry d)
unfolding right
house_irreducible d h l =
    let e : d - smallest_degree + smallest_degree ≡ d = omega arith in
    let x = house_entry d in
    let t : T (right (d - smallest_degree) x) = all_right (d - smallest_degree) (omega arith) in
    let u : T (leb (2 ^ d) x && (ltb x (2 ^ suc d) && factor_free d x)) =
    subst (λ (k : ℕ). T (leb (2 ^ k) x && (ltb x (2 ^ suc k) && factor_free k x))) e t in
    let v = both_right (leb (2 ^ d) x) (ltb x (2 ^ suc d) && factor_free d x) u in
    test_irreducible d x
    (leb→le (2 ^ d) x (both_left (leb (2 ^ d) x) (ltb x (2 ^ suc d) && factor_free d x) u), ltb→lt x (2 ^ suc d) (both_left (ltb x (2 ^ suc d)) (factor_free d x) v))
    (is_true (factor_free d x) (both_right (ltb x (2 ^ suc d)) (factor_free d x) v))
