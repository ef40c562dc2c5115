-- `unguarded_solve` meets its contract: both lists are just long enough. Assumes nothing.
use Rattle.std.proofs.Common.{◌≡◌, ap, ◌∙◌, arith, rules, ℕ, List, ◌++◌, length, drop}
use mathlib.Core.List.{append-nil}
use lib.ListN.{drop_of_length-le}
use Rattle.roots.specs.Limits.{most_roots}
use Rattle.roots.specs.Calls.{Answer}
use Rattle.unguarded.specs.Count.{count_of}
use Rattle.unguarded.proofs.inner.unguarded_solve.Goals as goal

-- values that fill a list
all : (values list : List ℕ) → length values ≡ length list → values ++ drop (length values) list ≡ values
all values list e = ap (λ (l : List ℕ). values ++ l) (drop_of_length-le list {i = length values} (omega (arith, e))) ∙ append-nil values

pub put_all-requires : goal.put_all-requires
put_all-requires c =
    let four : length c.solved-answer.result.roots ≡ most_roots = search rules in
    omega (arith, four, c.requires.roots_len.0)

pub put_all-requires-2 : goal.put_all-requires-2
put_all-requires-2 c =
    let four : length c.solved-answer.result.multiplicities ≡ most_roots = search rules in
    omega (arith, four, c.requires.roots_len.1)

pub returns : goal.returns
returns c =
    let s = c.solved-answer in
    let P = c.requires.roots_len in
    let roots : length s.result.roots ≡ most_roots = search rules in
    let often : length s.result.multiplicities ≡ most_roots = search rules in record {
      value = c.count_of.ensures ∙ ap (λ (a : Answer). count_of a.says) s.ensures;
      roots_after = c.put_all.ensures ∙ all _ _ (omega (arith, roots, P.0)) ∙ ap (λ (a : Answer). a.roots) s.ensures;
      multiplicities_after = c.put_all-2.ensures ∙ all _ _ (omega (arith, often, P.1)) ∙ ap (λ (a : Answer). a.multiplicities) s.ensures;
    }
