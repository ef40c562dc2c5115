-- A search as a loop makes it: from place i on it finds what the whole search finds. Assumes nothing.
use mathlib.Core.Path.{◌≡◌, refl, sym, ◌∙◌}
use mathlib.Core.Bool.{Bool, true, false}
use Prim.Native.Nat.{ℕ, ◌+◌, ◌-◌, ◌≤◌, ◌<◌}
use native.Mathlib.Numerals.{add-one}
use native.Mathlib.Omega.{arith}
use Rattle.algebra.specs.Search.{first_from, first}

module _ (f : ℕ → Bool) where
  pub record Seeking (n i : ℕ) : Type 0 where
    pub within : i ≤ n
    pub same : first_from f (n - i) i ≡ first f n

  pub seeking_start : (n : ℕ) → Seeking n 0
  unfolding first
  seeking_start n = let e : n - 0 ≡ n = omega arith in record { within = omega arith; same = rw e }

  from_here : (n i : ℕ) → f i ≡ true → first_from f (n + 1) i ≡ i
  unfolding first_from
  from_here n i e = rw (add-one, first_from, e)

  from_next : (n i : ℕ) → f i ≡ false → first_from f (n + 1) i ≡ first_from f n (i + 1)
  unfolding first_from
  from_next n i e = rw (add-one, add-one, first_from, e)

  from_end : (i : ℕ) → first_from f 0 i ≡ i
  unfolding first_from
  from_end i = refl

  pub seeking_skip : (n i : ℕ) → i < n → f i ≡ false → Seeking n i → Seeking n (i + 1)
  seeking_skip n i l h g =
      let e : n - i ≡ n - (i + 1) + 1 = omega arith in
      record { within = omega arith; same = sym (from_next (n - (i + 1)) i h) ∙ (rw e at g.same) }

  pub seeking_here : (n i : ℕ) → i < n → f i ≡ true → Seeking n i → i ≡ first f n
  seeking_here n i l h g =
      let e : n - i ≡ n - (i + 1) + 1 = omega arith in
      sym (from_here (n - (i + 1)) i h) ∙ (rw e at g.same)

  pub seeking_end : (n i : ℕ) → n ≤ i → Seeking n i → n ≡ first f n
  seeking_end n i l g =
      let e : n - i ≡ 0 = omega (arith, g.within) in
      let k : n ≡ i = omega (arith, g.within) in
      k ∙ sym (from_end i) ∙ (rw e at g.same)
