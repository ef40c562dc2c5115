-- The calls' answers, case by case: an equation turned down, without a root, with a base and directions. Assumes nothing.
use Rattle.std.proofs.Common.{◌≡◌, refl, sym, ap, ap₂, ◌∙◌, arith, ℕ, ◌^◌, ◌≤◌, ◌<◌, List, ◌++◌, length, get_or, drop, map, leb, true}
use Rattle.std.specs.Prelude.{Some, None}
use borrow.Author.Tests.{le-leb, lt-leb}
use Rattle.algebra.specs.Lists.{count_up}
use Rattle.binary.specs.Xor.{◌⊕◌}
use Rattle.binary.specs.Factor.{degree_of}
use Rattle.arithmetic.specs.declared.inner.field.Field.{Field}
use Rattle.field.specs.Refusal.{refusal, outcome, turned_down, gives}
use Rattle.field.specs.Answers.{field_of}
use Rattle.field.proofs.Tests.{answered_by, down_last, given_last}
use Rattle.field.proofs.Answered.{field_given}
use Rattle.linear.specs.Limits.{width}
use Rattle.linear.specs.Directions.{choose}
use Rattle.linear.specs.Solution.{Solutions}
use Rattle.affine.specs.Equation.{all_roots, solution_of, Ready}
use Rattle.affine.specs.Calls.{equation_tests, refused_answer, solve_answer, place_outcome, listing_outcome, listing_after}
use Rattle.affine.specs.Answers.{no_root}
use Rattle.affine.proofs.Tests.{equation_ready}
use Rattle.affine.proofs.Found.{none_is, none_count, some_is, place_is, count_is, listing_is, listing_ready}
use Rattle.affine.proofs.Listing.{listing_short, listing_none, listing_done}

module _ (p : ℕ) (cs : List ℕ) (f : Field) (e : gives (f.polynomial, f.degree) ≡ outcome (equation_tests p cs) (field_of p)) where
  passed : refusal (equation_tests p cs) ≡ 0
  passed = (field_given p f (equation_tests p cs) e).passed

  R : Ready (degree_of p) p cs
  R = equation_ready p cs passed

  same : solution_of f.polynomial cs ≡ solution_of p cs
  same = ap (λ (q : ℕ). solution_of q cs) (field_given p f (equation_tests p cs) e).polynomial

  abbrev roots : ℕ
  roots = length (all_roots (degree_of p) p cs)

  module _ (h : None ≡ solution_of f.polynomial cs) where
    none : None ≡ solution_of p cs
    none = h ∙ same

    pub solve_none : no_root ≡ solve_answer p cs
    solve_none = none_is p cs none ∙ answered_by refused_answer _ (equation_tests p cs) passed

    pub place_none : (n : ℕ) → turned_down 7 ≡ place_outcome p cs n
    place_none n =
        down_last 0 _ 7 (leb roots n) (equation_tests p cs) tt (sym passed) refl
        (le-leb roots n (let z = none_count p cs none in omega arith)) (λ w. omega arith)

    pub list_none : (list : List ℕ) → (gives 0 ≡ listing_outcome p cs (length list)) × (list ≡ listing_after p cs list)
    list_none list = listing_none p cs list 0 (sym passed) refl (none_count p cs none)

  module _ (s : Solutions) (h : Some s ≡ solution_of f.polynomial cs) where
    some : Some s ≡ solution_of p cs
    some = h ∙ same

    pub solve_some : record { says = gives (record { found = true; dimension = s.count }); base = s.base; directions = s.directions } ≡ solve_answer p cs
    solve_some = some_is p cs s some ∙ answered_by refused_answer _ (equation_tests p cs) passed

    count : 2 ^ s.count ≡ roots
    count = count_is p cs s some R

    -- the size that the code has computed
    module _ (k : ℕ) (q : k ≡ 2 ^ s.count) where
      pub place_past : (n : ℕ) → k ≤ n → turned_down 7 ≡ place_outcome p cs n
      place_past n l =
          down_last 0 _ 7 (leb roots n) (equation_tests p cs) tt (sym passed) refl (le-leb roots n (omega (arith, count))) (λ w. omega arith)

      pub place_some : (n r : ℕ) → n < k → r ≡ s.base ⊕ choose s.directions n → gives r ≡ place_outcome p cs n
      place_some n r l w =
          given_last 0 _ _ 7 (leb roots n) (equation_tests p cs) tt (sym passed) refl (lt-leb roots n (omega (arith, count)))
          (w ∙ place_is p cs s some R n)

      pub list_short : (list : List ℕ) → length list < k → (turned_down 7 ≡ listing_outcome p cs (length list)) × (list ≡ listing_after p cs list)
      list_short list l = listing_short p cs list 0 (sym passed) refl (omega (arith, count))

      pub list_ready : (list : List ℕ) → k ≤ length list
          → (2 ^ s.count ≤ length list) × (s.base < 2 ^ width) × ((i : ℕ) → i < s.count → get_or s.directions i 0 < 2 ^ width)
      list_ready list l = let w = listing_ready p cs s some R in (omega arith, w.0, w.1)

      pub list_some : (list after : List ℕ) → k ≤ length list
          → after ≡ map (λ j. s.base ⊕ choose s.directions j) (count_up 0 (2 ^ s.count)) ++ drop (2 ^ s.count) list
          → (gives k ≡ listing_outcome p cs (length list)) × (after ≡ listing_after p cs list)
      list_some list after l w =
          listing_done p cs list 0 (sym passed) refl (omega (arith, count)) k after (q ∙ count)
          (w ∙ ap₂ (λ (l : List ℕ) (j : ℕ). l ++ drop j list) (listing_is p cs s some R) count)
