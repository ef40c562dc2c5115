-- Whether some number of a range passes a test, as the library's iterators say it and as `some_below` does (`any_below`). Assumes nothing.
use Rattle.std.proofs.Common.{◌≡◌, ℕ, ◌+◌, ◌<◌, Bool, sym, ap, ◌∙◌, arith}
use Rattle.std.specs.List.{list_any, range_with_len}
use Rattle.std.proofs.lemmas.List.Folds.{Any-from_list_any, list_any_at}
use Rattle.std.proofs.lemmas.List.FromFn.{length-range_with_len, get_or-range_with_len}
use Rattle.algebra.specs.Search.{some_below}
use Rattle.algebra.proofs.Search.{some_yes, some_one, same_test}

pub any_below : (t : ℕ → Bool) (a n : ℕ) → list_any t (range_with_len a n) ≡ some_below (λ i. t (a + i)) n
any_below t a n =
    let long = length-range_with_len a n in
    same_test _ _ (
      λ e.
          let y = Any-from_list_any t (range_with_len a n) e in
          let l : y.0 < n = omega (arith, y.2) in
          some_one (λ i. t (a + i)) n y.0 l (ap t (sym (get_or-range_with_len a n y.0 y.1 l) ∙ y.3) ∙ y.4),
      λ e.
          let y = some_yes (λ i. t (a + i)) n e in
          list_any_at t (range_with_len a n) y.0 0 (omega (arith, y.1)) (ap t (get_or-range_with_len a n y.0 0 y.1) ∙ y.2),
    )
