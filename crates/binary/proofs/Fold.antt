-- `fold_step`: the step equation of a recursion on binary digits, which is all that its users see. Assumes nothing.
use Rattle.std.proofs.Common.{◌≡◌, ℕ, zero, suc, ◌/◌, ◌≤◌, sym, refl, ap, ◌∙◌, le_refl, not-suc-le-zero}
use Rattle.std.proofs.Math.Decide.{le_ind}
use Rattle.std.proofs.Math.Arith.{half_le}
use Rattle.binary.specs.Fold.{fold_f, fold}

module _ (f : ℕ → ℕ → ℕ) where
  more : (n a : ℕ) → a ≤ n → fold_f f (suc n) a ≡ fold_f f n a
  unfolding fold_f
  more zero zero h = refl
  more zero (suc a) h = absurd (not-suc-le-zero h)
  more (suc n) zero h = refl
  more (suc n) (suc a) h = ap (f (suc a)) (more n (suc a / 2) (half_le h))

  enough : (n a : ℕ) → a ≤ n → fold_f f n a ≡ fold_f f a a
  enough n a h = le_ind (λ (m : ℕ). fold_f f m a ≡ fold_f f a a) refl (λ m k e. more m a k ∙ e) n h

  pub fold_step : f 0 0 ≡ 0 → (a : ℕ) → fold f a ≡ f a (fold f (a / 2))
  unfolding fold fold_f
  fold_step z zero = sym z
  fold_step z (suc a) = ap (f (suc a)) (enough a (suc a / 2) (half_le (le_refl (suc a))))
