-- A list whose entries are given in order, one a turn: the first k are done, the rest is as it was. Assumes nothing.
use mathlib.Core.Path.{◌≡◌, refl, sym, ap, ◌∙◌}
use mathlib.Core.List.{List}
use Prim.Native.Nat.{ℕ, ◌+◌, ◌≤◌, ◌<◌}
use native.Mathlib.Omega.{arith}
use borrow.Author.Count.{below_more}
use lib.ListN.{length, get_or, set, length-set}
use lib.Seq.{get_or-set_same, get_or-set_other, ext_get_or}

pub record Filled (f : ℕ → ℕ) (old out : List ℕ) (k : ℕ) : Type 0 where
  pub within : k ≤ length old
  pub long : length out ≡ length old
  pub done : (j : ℕ) → j < k → get_or out j 0 ≡ f j
  pub rest : (j : ℕ) → k ≤ j → get_or out j 0 ≡ get_or old j 0

pub filled_none : (f : ℕ → ℕ) (old : List ℕ) → Filled f old old 0
filled_none f old = record { within = omega arith; long = refl; done = λ j l. absurd (omega arith); rest = λ j l. refl }

pub filled_put : (f : ℕ → ℕ) (old out : List ℕ) (k v : ℕ) → k < length old → v ≡ f k → Filled f old out k → Filled f old (set out k v) (k + 1)
filled_put f old out k v l e i =
    record {
      within = omega arith;
      long = length-set out k v ∙ i.long;
      done = below_more _ k (λ j h. get_or-set_other out k j v 0 (λ q. absurd (omega arith)) ∙ i.done j h)
          (get_or-set_same out k v 0 (omega (arith, i.long)) ∙ e);
      rest = λ j h. get_or-set_other out k j v 0 (λ q. absurd (omega arith)) ∙ i.rest j (omega arith);
    }

-- an entry changed where it stands, to g of its place and of what it was
pub filled_change : (g : ℕ → ℕ → ℕ) (old out : List ℕ) (k v : ℕ) → k < length old → v ≡ g k (get_or out k 0) → Filled (λ j. g j (get_or old j 0)) old out k
    → Filled (λ j. g j (get_or old j 0)) old (set out k v) (k + 1)
filled_change g old out k v l e i = filled_put _ old out k v l (e ∙ ap (g k) (i.rest k (omega arith))) i

-- all of it done: it is the list with these entries
pub filled_all : (f : ℕ → ℕ) (old out l : List ℕ) (k : ℕ) → Filled f old out k → length old ≤ k → length l ≡ length old
    → ((j : ℕ) → j < length l → get_or l j 0 ≡ f j) → out ≡ l
filled_all f old out l k i h e v =
    ext_get_or 0 out l (i.long ∙ sym e)
    (λ j g. let a : j < length l = omega (arith, i.long) in i.done j (omega (arith, i.long)) ∙ sym (v j a))
