-- The bytes of an answer: that a solved equation has no more roots than places (`roots_few`), its bytes (`roots_case`), and the byte for
-- found (`found_is`). Assumes nothing.
use Rattle.std.proofs.Common.{◌≡◌, refl, sym, ap, subst, Bool, true, false, ℕ, ◌≤◌}
use Rattle.std.specs.Prelude.{Result, Ok}
use mir.Val.{bool_byte}
use Rattle.field.specs.declared.refused.Refusal.{Refusal}
use Rattle.field.specs.Answers.{of_value}
use Rattle.roots.specs.Limits.{most_roots}
use Rattle.roots.specs.Answers.{of_roots}
use Rattle.roots.specs.declared.RootsAnswer.{RootsAnswer}
use Rattle.frames.specs.Answer.{roots_said, roots_bytes, found_byte, FewRoots}

module _ (a : RootsAnswer) where
  pub roots_case : {o : Result ℕ Refusal} → a.count ≡ o → roots_said (of_value o) a.roots a.multiplicities ≡ roots_bytes (of_roots a)
  roots_case q = ap (λ (o : Result ℕ Refusal). roots_said (of_value o) a.roots a.multiplicities) (sym q)

  pub roots_few : (k : ℕ) → a.count ≡ Ok k → FewRoots (of_roots a).says → k ≤ most_roots
  roots_few k q h = subst (λ (o : Result ℕ Refusal). FewRoots (of_value o)) q h

pub found_is : (b : Bool) → bool_byte b ≡ found_byte b
found_is true = refl
found_is false = refl
