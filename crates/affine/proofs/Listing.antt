-- What the listing says and leaves in the lent list, case by case: turned down by the equation's tests (`listing_refused`), the list too
-- short (`listing_short`), all roots written (`listing_done`). Assumes nothing.
use mathlib.Core.Path.{◌≡◌, refl, sym, ap, ◌∙◌}
use mathlib.Core.Logic.{◌≢◌}
use mathlib.Core.List.{List, [], ◌∷◌, ◌++◌}
use Prim.Native.Nat.{ℕ, ◌≤◌, ◌<◌}
use native.Mathlib.Omega.{arith}
use borrow.Author.Tests.{lt-ltb, le-ltb}
use lib.Dec.{ltb}
use lib.ListN.{length, drop}
use Rattle.binary.specs.Factor.{degree_of}
use Rattle.field.specs.Refusal.{◌⇒◌, refusal, turned_down, gives}
use Rattle.field.proofs.Tests.{then_kept, then_applies, then_passes, refused_by, answered_by}
use Rattle.affine.specs.Equation.{all_roots}
use Rattle.affine.specs.Calls.{equation_tests, listing_tests, listing_outcome, listing_after}

module _ (p : ℕ) (cs list : List ℕ) (r : ℕ) (e : r ≡ refusal (equation_tests p cs)) where
  abbrev roots : List ℕ
  roots = all_roots (degree_of p) p cs

  abbrev Left : ℕ → Type 0
  Left n = (turned_down n ≡ listing_outcome p cs (length list)) × (list ≡ listing_after p cs list)

  refused : (n : ℕ) → n ≡ refusal (listing_tests p cs (length list)) → n ≢ 0 → Left n
  refused n q h = (
    refused_by turned_down (gives (length roots)) n (listing_tests p cs (length list)) q h,
    refused_by (λ n. list) (roots ++ drop (length roots) list) n (listing_tests p cs (length list)) q h,
  )

  pub listing_refused : r ≢ 0 → Left r
  listing_refused h = refused r (then_kept (equation_tests p cs) (ltb (length list) (length roots) ⇒ 7 ∷ []) r e h) h

  pub listing_short : r ≡ 0 → length list < length roots → Left 7
  listing_short z h =
      refused 7 (then_applies (equation_tests p cs) r 7 (ltb (length list) (length roots)) tt e z (sym (lt-ltb _ _ h))) (λ w. omega arith)

  pub listing_done : r ≡ 0 → length roots ≤ length list → (n : ℕ) (after : List ℕ) → n ≡ length roots → after ≡ roots ++ drop (length roots) list
      → (gives n ≡ listing_outcome p cs (length list)) × (after ≡ listing_after p cs list)
  listing_done z h n after q a =
      let t = then_passes (equation_tests p cs) r 7 (ltb (length list) (length roots)) tt e z (sym (le-ltb _ _ h)) in (
        ap gives q ∙ answered_by turned_down (gives (length roots)) (listing_tests p cs (length list)) (sym t),
        a ∙ answered_by (λ n. list) (roots ++ drop (length roots) list) (listing_tests p cs (length list)) (sym t),
      )

  -- no root: nothing is written
  pub listing_none : r ≡ 0 → length roots ≡ 0 → (gives 0 ≡ listing_outcome p cs (length list)) × (list ≡ listing_after p cs list)
  listing_none z h =
      listing_done z (omega arith) 0 list (sym h) (ap (λ (l : List ℕ). l ++ drop (length l) list) (sym (empty roots h)))
    where
      empty : (l : List ℕ) → length l ≡ 0 → l ≡ []
      empty [] q = refl
      empty (x ∷ l) q = absurd (omega arith)
