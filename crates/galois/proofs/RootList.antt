-- The list of the roots, every element tried: its entries are the roots (`roots_iff`), ascending (`roots_ascending`), at most as many as
-- the degree (`roots_few`); an ascending list of the roots is this one (`roots_are_lem`). Assumes nothing.
use mathlib.Core.Path.{◌≡◌, sym, subst, ◌∙◌}
use mathlib.Core.Logic.{◌↔◌}
use mathlib.Core.List.{List}
use Prim.Native.Nat.{ℕ, ◌^◌, ◌<◌}
use lib.ListN.{length}
use lib.Dec.{T, eqb, eqb→eq}
use Rattle.algebra.specs.Lists.{Member, Ascending}
use Rattle.algebra.proofs.Ascending.{ascending_nodup, same_ascending}
use Rattle.algebra.proofs.CountUp.{kept_iff, kept_ascending}
use Rattle.galois.specs.Field.{Field}
use Rattle.galois.specs.Polynomial.{value, Coeffs, AllZero, Root}
use Rattle.galois.specs.Roots.{is_root, roots_of}
use Rattle.galois.proofs.Roots.{few_roots}

pub roots_iff : (m p : ℕ) (f : List ℕ) (x : ℕ) → Member x (roots_of m p f) ↔ Root m p f x
unfolding roots_of is_root
roots_iff m p f x =
    let k = kept_iff (is_root p f) (2 ^ m) x in
    (λ h. ((k.0 h).0, eqb→eq (value p f x) 0 (k.0 h).1), λ h. k.1 (h.0, subst (λ (v : ℕ). T (eqb v 0)) (sym h.1) tt))

pub roots_ascending : (m p : ℕ) (f : List ℕ) → Ascending (roots_of m p f)
unfolding roots_of
roots_ascending m p f = kept_ascending (is_root p f) (2 ^ m)

-- an ascending list with the roots, all of them and nothing else
pub roots_are_lem : (m p : ℕ) (f xs : List ℕ) → Ascending xs → ((x : ℕ) → Member x xs → Root m p f x) → ((x : ℕ) → Root m p f x → Member x xs)
    → xs ≡ roots_of m p f
roots_are_lem m p f xs a only every =
    same_ascending xs (roots_of m p f) a (roots_ascending m p f) (λ x h. (roots_iff m p f x).1 (only x h)) (λ x h. every x ((roots_iff m p f x).0 h))

-- polynomials with the same values have the same roots
pub roots_same : (m p : ℕ) (f g : List ℕ) → ((x : ℕ) → x < 2 ^ m → value p f x ≡ value p g x) → roots_of m p f ≡ roots_of m p g
roots_same m p f g e =
    roots_are_lem m p g (roots_of m p f) (roots_ascending m p f)
    (λ x h. let r = (roots_iff m p f x).0 h in (r.0, sym (e x r.0) ∙ r.1))
    (λ x h. (roots_iff m p f x).1 (h.0, e x h.0 ∙ h.1))

pub roots_few : (m p : ℕ) → Field m p → (f : List ℕ) → Coeffs m f → (AllZero f → ⊥) → length (roots_of m p f) < length f
roots_few m p F f h z =
    few_roots m p F (roots_of m p f) f h z (ascending_nodup (roots_of m p f) (roots_ascending m p f)) (λ r k. (roots_iff m p f r).0 k)
