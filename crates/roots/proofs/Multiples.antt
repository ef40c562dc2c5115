-- The multiplicities of the roots found: each is a root of the equation (`found_root`), where there are as many as the degree each counts
-- once (`counts_once`), and those of all are the answer's (`counted`). Assumes nothing.
use mathlib.Core.Path.{◌≡◌, sym, ap, ◌∙◌, subst}
use mathlib.Core.List.{List}
use Prim.Native.Nat.{ℕ, ◌<◌}
use native.Mathlib.Omega.{arith}
use lib.ListN.{length, get_or, get_or-replicate}
use Rattle.algebra.proofs.Front.{entry_member}
use Rattle.algebra.proofs.Places.{map_at, padded_at}
use Rattle.galois.specs.Multiplicity.{multiplicity}
use Rattle.galois.proofs.RootList.{roots_iff}
use Rattle.galois.proofs.Degree.{all_once}
use Rattle.galois.specs.Polynomial.{IsDegree, Root}
use Rattle.roots.specs.Limits.{most_roots}
use Rattle.roots.specs.Equation.{Ready}
use Rattle.roots.specs.Roots.{roots, multiplicities}
use Rattle.roots.specs.ShortList.{Placed, Changed}
use Rattle.roots.specs.declared.inner.equation.Equation.{Equation}
use Rattle.roots.specs.declared.inner.short_list.ShortList.{ShortList}
use Rattle.roots.proofs.Equations.{ready}
use Rattle.roots.proofs.ShortLists.{changed_placed}

module _ (e : Equation) (found : ShortList) (P : Placed (roots e) found) where
  abbrev m : ℕ
  m = e.polynomial.field.degree

  abbrev p : ℕ
  p = e.polynomial.field.polynomial

  abbrev f : List ℕ
  f = e.polynomial.coefficients

  R : Ready m p f
  R = ready e

  found_is : (i : ℕ) → get_or found.numbers i 0 ≡ get_or (roots e) i 0
  found_is i = ap (λ (l : List ℕ). get_or l i 0) P.numbers ∙ padded_at most_roots (roots e) i

  pub found_root : (i : ℕ) → i < found.count → Root m p f (get_or found.numbers i 0)
  found_root i l =
      subst (Root m p f) (sym (found_is i)) ((roots_iff m p f (get_or (roots e) i 0)).0 (entry_member (roots e) i (omega (arith, P.count))))

  pub counts_once : (d : ℕ) → IsDegree d f → found.count ≡ d → (i y : ℕ) → i < found.count → y ≡ 1 → y ≡ multiplicity p (get_or found.numbers i 0) f
  counts_once d D q i y l one =
      one ∙ sym (get_or-replicate (length (roots e)) i 1 0 (omega (arith, P.count)))
      ∙ sym (ap (λ (l : List ℕ). get_or l i 0) (all_once d f D m p R.field.field R.small (sym P.count ∙ q)))
      ∙ map_at (λ r. multiplicity p r f) (roots e) i (omega (arith, P.count))
      ∙ ap (λ (r : ℕ). multiplicity p r f) (sym (found_is i))

  pub counted : (S : ℕ → ℕ → Type 0) (counts : ShortList) → length found.numbers ≡ most_roots → length counts.numbers ≡ most_roots → Changed S found counts
      → ((i y : ℕ) → i < found.count → S (get_or found.numbers i 0) y → y ≡ multiplicity p (get_or found.numbers i 0) f)
      → Placed (multiplicities e) counts
  counted S counts long same C is = changed_placed S (λ r. multiplicity p r f) found counts long same C is (roots e) P
