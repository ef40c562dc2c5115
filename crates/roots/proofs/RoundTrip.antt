-- What building means, for every accepted field polynomial p, its degree m a parameter: the product of all x + r (`built-product`), in any
-- order the same (`any_order`), and solved it gives the roots back, each as often as it was put in (`round_trip`). Assumes nothing.
use mathlib.Core.Path.{◌≡◌, refl, sym, ap, ap₂, ◌∙◌}
use mathlib.Core.Bool.{Bool}
use mathlib.Core.List.{List, [], ◌∷◌, ◌++◌, map}
use Prim.Native.Nat.{ℕ, suc, ◌+◌, ◌-◌}
use native.Mathlib.Omega.{arith}
use lib.Dec.{ltb}
use lib.ListN.{length, replicate, length-append, length-replicate}
use Rattle.algebra.specs.Lists.{padded}
use Rattle.algebra.specs.Counts.{count}
use Rattle.algebra.proofs.Search.{same_no}
use Rattle.binary.specs.Factor.{degree_of}
use Rattle.galois.specs.Field.{Field}
use Rattle.galois.specs.Polynomial.{value, Coeffs, build, factors_at}
use Rattle.galois.specs.Roots.{roots_of, elements_of}
use Rattle.galois.proofs.Build.{build-length, build_coeffs, build_nonzero}
use Rattle.galois.proofs.BuildRoots.{roots_back, multiplicities_back, build-product, build_order}
use Rattle.galois.proofs.Padding.{value_pad, coeffs_pad, zero_pad}
use Rattle.field.specs.Refusal.{◌⇒◌, refusal, gives, answer_by, any_too_large, polynomial_tests}
use Rattle.field.proofs.Tests.{passes, answered_by, none_applies, same_answer}
use Rattle.field.proofs.Coefficients.{count_right, coefficients_small, coefficients_pass}
use Rattle.roots.specs.Limits.{most_coefficients, most_roots}
use Rattle.roots.specs.Calls.{equation_tests, build_tests, solved, refused_answer, solve_answer, Built, built, refused_built, build_answer}
use Rattle.roots.proofs.Zeros.{nonzero_passes, solved_pad}
use Rattle.roots.proofs.Tests.{build_passed}

module _ (p : ℕ) (rs : List ℕ) (z : refusal (build_tests p rs) ≡ 0) where
  abbrev m : ℕ
  m = degree_of p

  abbrev five : List ℕ
  five = padded most_coefficients (build p rs)

  F : Field m p
  F = (build_passed p rs z).0.ready.field

  -- "the five coefficients of the product of all (x + r)"
  pub is_built : build_answer p rs ≡ built p rs
  is_built = sym (answered_by refused_built (built p rs) (build_tests p rs) z)

  five_are : (build_answer p rs).coefficients ≡ five
  five_are = ap (λ (b : Built). b.coefficients) is_built

  pub built-product : (x : ℕ) → value p (build_answer p rs).coefficients x ≡ factors_at p rs x
  built-product x =
      ap (λ (f : List ℕ). value p f x) five_are
      ∙ value_pad p (build p rs) (most_coefficients - length (build p rs)) x ∙ build-product m p F rs x

  -- they are an equation that is solved
  five_length : length five ≡ most_coefficients
  five_length =
      let n = most_coefficients - length (build p rs) in
      let b = build-length p rs in
      let l = (build_passed p rs z).1 in
      length-append (build p rs) (replicate n 0) ∙ ap (λ (k : ℕ). length (build p rs) + k) (length-replicate n 0) ∙ omega arith

  five_passes : refusal (equation_tests p five) ≡ 0
  five_passes =
      let t = passes (build_tests p rs) tt z in
      let n = most_coefficients - length (build p rs) in
      let l = five_length in
      none_applies (equation_tests p five) (
        t.0,
        (
          t.1.0,
          (
            count_right most_coefficients (length five) (omega arith) (omega arith),
            (
              coefficients_pass p five (coeffs_pad m (build p rs) n (build_coeffs m p F rs)),
              (nonzero_passes five (λ w. build_nonzero m p F rs (zero_pad (build p rs) n w)), tt),
            ),
          ),
        ),
      )

  -- building and solving gives the roots back, each as often as it was put in
  pub round_trip : solve_answer p (build_answer p rs).coefficients
      ≡ record {
        says = gives (length (elements_of (degree_of p) rs));
        roots = padded most_roots (elements_of (degree_of p) rs);
        multiplicities = padded most_roots (map (λ r. count r rs) (elements_of (degree_of p) rs));
      }
  round_trip =
      let es = elements_of m rs in
      let h = (build_passed p rs z).2 in
      ap (solve_answer p) five_are
      ∙ sym (answered_by refused_answer (solved p five (roots_of m p five)) (equation_tests p five) five_passes)
      ∙ solved_pad m p F (build p rs) (most_coefficients - length (build p rs)) (build_nonzero m p F rs)
      ∙ ap (solved p (build p rs)) (roots_back m p F rs h)
      ∙ ap (λ (ks : List ℕ). record { says = gives (length es); roots = padded most_roots es; multiplicities = padded most_roots ks })
      (multiplicities_back m p F rs h)

-- "in any order": two neighbours exchanged change nothing, neither the coefficients nor a refusal
swap_small : (m : ℕ) (ks : List ℕ) (a b : ℕ) (rs : List ℕ) → Coeffs m (ks ++ a ∷ b ∷ rs) → Coeffs m (ks ++ b ∷ a ∷ rs)
swap_small m [] a b rs h = (h.1.0, (h.0, h.1.1))
swap_small m (k ∷ ks) a b rs h = (h.0, swap_small m ks a b rs h.1)

swap_length : (ks : List ℕ) (a b : ℕ) (rs : List ℕ) → length (ks ++ a ∷ b ∷ rs) ≡ length (ks ++ b ∷ a ∷ rs)
swap_length [] a b rs = refl
swap_length (k ∷ ks) a b rs = ap suc (swap_length ks a b rs)

module _ (p : ℕ) (ks : List ℕ) (a b : ℕ) (rs : List ℕ) where
  abbrev one : List ℕ
  one = ks ++ a ∷ b ∷ rs

  abbrev other : List ℕ
  other = ks ++ b ∷ a ∷ rs

  same_large : any_too_large p one ≡ any_too_large p other
  same_large =
      same_no (any_too_large p one) (any_too_large p other) (
        λ e. coefficients_pass p other (swap_small (degree_of p) ks a b rs (coefficients_small p one e)),
        λ e. coefficients_pass p one (swap_small (degree_of p) ks b a rs (coefficients_small p other e)),
      )

  same-refusal : refusal (build_tests p one) ≡ refusal (build_tests p other)
  same-refusal =
      ap₂ (λ (n : ℕ) (c : Bool). refusal (polynomial_tests p ++ ltb most_roots n ⇒ 3 ∷ c ⇒ 4 ∷ [])) (swap_length ks a b rs) same_large

  pub any_order : build_answer p one ≡ build_answer p other
  any_order =
      ap (λ (r : ℕ). answer_by r refused_built (built p one)) same-refusal
      ∙ same_answer (refusal (build_tests p other)) refused_built (built p one) (built p other)
      (λ e. ap (λ (f : List ℕ). record { says = gives tt; coefficients = padded most_coefficients f })
      (build_order (degree_of p) p (build_passed p other e).0.ready.field ks a b rs))
