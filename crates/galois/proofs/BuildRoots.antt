-- Building from roots and solving gives the roots back, ascending (`roots_back`), each as often as it was given (`multiplicities_back`);
-- the value is the product of the factors (`build-product`), and the order counts for nothing (`build_order`). Assumes nothing.
use mathlib.Core.Path.{◌≡◌, refl, sym, ap, ◌∙◌, subst}
use mathlib.Core.Logic.{◌⊎◌, inl, inr, ◌↔◌}
use mathlib.Core.Bool.{Bool, true, false, ◌||◌}
use mathlib.Core.List.{List, [], ◌∷◌, ◌++◌, map}
use Prim.Native.Nat.{ℕ, ◌^◌, ◌<◌}
use lib.Dec.{T, eqb, eqb→eq, eqb_refl}
use Rattle.binary.specs.Xor.{◌⊕◌}
use Rattle.binary.proofs.Xor.{xor-zero}
use Rattle.binary.specs.Product.{product}
use Rattle.binary.proofs.Product.{product-zero}
use Rattle.algebra.specs.Lists.{Member, Ascending}
use Rattle.algebra.specs.Counts.{count}
use Rattle.algebra.proofs.Onto.{map_alike}
use Rattle.algebra.proofs.CountUp.{kept_iff, kept_ascending}
use Rattle.galois.specs.Field.{Field}
use Rattle.galois.specs.Polynomial.{value, Coeffs, with_root, build, factors_at}
use Rattle.galois.specs.Roots.{roots_of, is_entry, elements_of}
use Rattle.galois.specs.Multiplicity.{multiplicity}
use Rattle.galois.proofs.Divide.{with_root_swap}
use Rattle.galois.proofs.Build.{build-value, member_root, root_member, build-multiplicity}
use Rattle.galois.proofs.RootList.{roots_are_lem}

-- the test says yes to the entries
pub entry_iff : (rs : List ℕ) (x : ℕ) → T (is_entry rs x) ↔ Member x rs
unfolding is_entry
entry_iff [] x = (λ h. h, λ h. h)
entry_iff (r ∷ rs) x = (λ h. of (eqb x r) refl h (λ k. (entry_iff rs x).0 k), λ h. to h (λ k. (entry_iff rs x).1 k))
  where
    of : (b : Bool) → eqb x r ≡ b → T (b || is_entry rs x) → (T (is_entry rs x) → Member x rs) → (x ≡ r) ⊎ Member x rs
    of true e h ih = inl (eqb→eq x r (subst T (sym e) tt))
    of false e h ih = inr (ih h)

    right : (b c : Bool) → T c → T (b || c)
    right true c h = tt
    right false c h = h

    left : (b c : Bool) → T b → T (b || c)
    left true c h = tt
    left false c h = absurd h

    to : (x ≡ r) ⊎ Member x rs → (Member x rs → T (is_entry rs x)) → T (eqb x r || is_entry rs x)
    to (inl e) ih = left (eqb x r) (is_entry rs x) (subst (λ (v : ℕ). T (eqb x v)) e (eqb_refl x))
    to (inr h) ih = right (eqb x r) (is_entry rs x) (ih h)

pub elements_iff : (m : ℕ) (rs : List ℕ) (x : ℕ) → Member x (elements_of m rs) ↔ (x < 2 ^ m) × Member x rs
unfolding elements_of
elements_iff m rs x =
    let k = kept_iff (is_entry rs) (2 ^ m) x in
    (λ h. ((k.0 h).0, (entry_iff rs x).0 (k.0 h).1), λ h. k.1 (h.0, (entry_iff rs x).1 h.1))

pub elements_ascending : (m : ℕ) (rs : List ℕ) → Ascending (elements_of m rs)
unfolding elements_of
elements_ascending m rs = kept_ascending (is_entry rs) (2 ^ m)

module _ (m p : ℕ) (F : Field m p) where
  pub roots_back : (rs : List ℕ) → Coeffs m rs → roots_of m p (build p rs) ≡ elements_of m rs
  roots_back rs h =
      sym (roots_are_lem m p (build p rs) (elements_of m rs) (elements_ascending m rs)
      (λ x k. let r = (elements_iff m rs x).0 k in (r.0, member_root m p F x rs r.1))
      (λ x k. (elements_iff m rs x).1 (k.0, root_member m p F x rs k.0 h k.1)))

  pub multiplicities_back : (rs : List ℕ) → Coeffs m rs
      → map (λ r. multiplicity p r (build p rs)) (elements_of m rs) ≡ map (λ r. count r rs) (elements_of m rs)
  multiplicities_back rs h =
      map_alike (λ r. multiplicity p r (build p rs)) (λ r. count r rs) (elements_of m rs)
      (λ x k. build-multiplicity m p F x rs ((elements_iff m rs x).0 k).0 h)

  pub build-product : (rs : List ℕ) (x : ℕ) → value p (build p rs) x ≡ factors_at p rs x
  unfolding build factors_at value
  build-product [] x = ap (λ (v : ℕ). 1 ⊕ v) (product-zero p x) ∙ xor-zero 1
  build-product (r ∷ rs) x = build-value m p F r rs x ∙ ap (product p (x ⊕ r)) (build-product rs x)

  pub build_order : (ks : List ℕ) (a b : ℕ) (rs : List ℕ) → build p (ks ++ a ∷ b ∷ rs) ≡ build p (ks ++ b ∷ a ∷ rs)
  unfolding build
  build_order [] a b rs = with_root_swap m p F a b (build p rs)
  build_order (k ∷ ks) a b rs = ap (with_root p k) (build_order ks a b rs)
