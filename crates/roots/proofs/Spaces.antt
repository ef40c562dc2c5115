-- At most four solutions: base and two directions list them, and they are the roots (`solutions_are`, `solutions_few`). Assumes nothing.
use mathlib.Core.Path.{◌≡◌, refl, sym, ap, ◌∙◌}
use mathlib.Core.List.{List, [], ◌∷◌, map}
use Prim.Native.Nat.{ℕ, ◌^◌, ◌≤◌}
use Rattle.std.specs.Prelude.{Some, None}
use native.Mathlib.Omega.{arith}
use lib.Bits.{bit_xor}
use lib.ListN.{length, get_or, take}
use Rattle.algebra.specs.Lists.{count_up}
use Rattle.algebra.proofs.Front.{front_map}
use Rattle.binary.specs.Xor.{◌⊕◌}
use Rattle.binary.proofs.Xor.{is_xor, xor-zero, xor_assoc}
use Rattle.binary.specs.Factor.{degree_of}
use Rattle.binary.proofs.Factor.{degree_is}
use Rattle.linear.specs.Directions.{choose}
use Rattle.linear.proofs.Choose.{choose-zero, choose_one, choose_two, choose_three}
use Rattle.linear.specs.Solution.{Solutions}
use Rattle.galois.specs.Roots.{roots_of}
use Rattle.galois.proofs.RootList.{roots_few}
use Rattle.affine.specs.Equation.{all_roots, solution_of}
use Rattle.affine.specs.Equation as affine
use Rattle.affine.proofs.Found.{none_count, count_is, listing_is}
use Rattle.roots.specs.Limits.{most_roots}
use Rattle.roots.specs.Equation.{Ready, quartic_of, folded}
use Rattle.roots.proofs.Folding.{folded_ready, folded_roots}

-- what the code lists
abbrev pub four : ℕ → ℕ → ℕ → List ℕ
four b d e = b ∷ bit_xor b d ∷ bit_xor b e ∷ bit_xor (bit_xor b d) e ∷ []

-- are the first four places
four_are : (b : ℕ) (ds : List ℕ) → four b (get_or ds 0 0) (get_or ds 1 0) ≡ map (λ k. b ⊕ choose ds k) (count_up 0 4)
four_are b ds = λ i. first i ∷ second i ∷ third i ∷ fourth i ∷ []
  where
    first : b ≡ b ⊕ choose ds 0
    first = sym (ap (λ (v : ℕ). b ⊕ v) (choose-zero ds) ∙ xor-zero b)

    second : bit_xor b (get_or ds 0 0) ≡ b ⊕ choose ds 1
    second = sym (is_xor b (get_or ds 0 0)) ∙ ap (λ (v : ℕ). b ⊕ v) (sym (choose_one ds))

    third : bit_xor b (get_or ds 1 0) ≡ b ⊕ choose ds 2
    third = sym (is_xor b (get_or ds 1 0)) ∙ ap (λ (v : ℕ). b ⊕ v) (sym (choose_two ds))

    fourth : bit_xor (bit_xor b (get_or ds 0 0)) (get_or ds 1 0) ≡ b ⊕ choose ds 3
    fourth =
        sym (is_xor (bit_xor b (get_or ds 0 0)) (get_or ds 1 0)) ∙ ap (λ (v : ℕ). v ⊕ get_or ds 1 0) (sym (is_xor b (get_or ds 0 0)))
        ∙ xor_assoc b (get_or ds 0 0) (get_or ds 1 0) ∙ ap (λ (v : ℕ). b ⊕ v) (sym (choose_three ds))

-- and so many of them as are asked for
four_front : (b : ℕ) (ds : List ℕ) (n : ℕ) → n ≤ 4 → take n (four b (get_or ds 0 0) (get_or ds 1 0)) ≡ map (λ k. b ⊕ choose ds k) (count_up 0 n)
four_front b ds n h =
    ap (take n) (four_are b ds) ∙ front_map (λ k. b ⊕ choose ds k) 0 n 4 h

empty : (l : List ℕ) → length l ≡ 0 → [] ≡ l
empty [] h = refl
empty (x ∷ l) h = absurd (omega arith)

module _ (m p c l0 l1 l2 : ℕ) (R : Ready m p (quartic_of c l0 l1 l2)) where
  abbrev cs : List ℕ
  cs = folded m c l0 l1 l2

  abbrev rs : List ℕ
  rs = roots_of m p (quartic_of c l0 l1 l2)

  all_are : all_roots (degree_of p) p cs ≡ rs
  all_are =
      ap (λ (k : ℕ). all_roots k p cs) (degree_is m p R.field.modulus.degree) ∙ folded_roots m p R.field.field c l0 l1 l2

  pub no_solutions : None ≡ solution_of p cs → [] ≡ rs
  no_solutions e = empty rs (sym (ap length all_are) ∙ none_count p cs e)

  module _ (s : Solutions) (e : Some s ≡ solution_of p cs) where
    A : affine.Ready (degree_of p) p cs
    A = rw (degree_is m p R.field.modulus.degree) (folded_ready m p c l0 l1 l2 R.field R.largest R.small)

    pub solutions_few : 2 ^ s.count ≤ most_roots
    solutions_few =
        let l = roots_few m p R.field.field (quartic_of c l0 l1 l2) R.small R.nonzero in
        omega (arith, count_is p cs s e A ∙ ap length all_are)

    pub solutions_are : (n : ℕ) → n ≡ 2 ^ s.count → take n (four s.base (get_or s.directions 0 0) (get_or s.directions 1 0)) ≡ rs
    solutions_are n q =
        four_front s.base s.directions n (let l = solutions_few in omega arith)
        ∙ ap (λ (j : ℕ). map (λ k. s.base ⊕ choose s.directions k) (count_up 0 j)) q ∙ listing_is p cs s e A ∙ all_are
