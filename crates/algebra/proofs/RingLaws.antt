-- The laws of a commutative ring in which x + x = 0, a little further: zero, exchange, the square of a sum, powers. Assumes nothing.
use mathlib.Core.Path.{◌≡◌, sym, ◌∙◌, ap, ap₂}
use Prim.Native.Nat.{ℕ, zero, suc, ◌+◌}
use native.Mathlib.Nat.{zero-add, suc-add}
use Rattle.algebra.specs.Ring.{Ring2}

module _ (R : Ring2) where
  abbrev pub pw : R.carrier → ℕ → R.carrier
  pw x zero = R.one
  pw x (suc n) = R.mul x (pw x n)

  -- the ring's laws, a little further
  pub zer_add : (a : R.carrier) → R.add R.zer a ≡ a
  zer_add a = R.add_comm R.zer a ∙ R.add_zer a

  pub one-mul : (a : R.carrier) → R.mul R.one a ≡ a
  one-mul a = R.mul_comm R.one a ∙ R.mul-one a

  pub add_left : (a b c : R.carrier) → R.add a (R.add b c) ≡ R.add b (R.add a c)
  add_left a b c = sym (R.add_assoc a b c) ∙ ap (λ (x : R.carrier). R.add x c) (R.add_comm a b) ∙ R.add_assoc b a c

  pub mul_left : (a b c : R.carrier) → R.mul a (R.mul b c) ≡ R.mul b (R.mul a c)
  mul_left a b c = sym (R.mul_assoc a b c) ∙ ap (λ (x : R.carrier). R.mul x c) (R.mul_comm a b) ∙ R.mul_assoc b a c

  pub add_inter : (a b c d : R.carrier) → R.add (R.add a b) (R.add c d) ≡ R.add (R.add a c) (R.add b d)
  add_inter a b c d = R.add_assoc a b (R.add c d) ∙ ap (R.add a) (add_left b c d) ∙ sym (R.add_assoc a c (R.add b d))

  pub mul_inter : (a b c d : R.carrier) → R.mul (R.mul a b) (R.mul c d) ≡ R.mul (R.mul a c) (R.mul b d)
  mul_inter a b c d = R.mul_assoc a b (R.mul c d) ∙ ap (R.mul a) (mul_left b c d) ∙ sym (R.mul_assoc a c (R.mul b d))

  pub cancel : (a b c : R.carrier) → R.add (R.add a b) (R.add a c) ≡ R.add b c
  cancel a b c = add_inter a b a c ∙ ap (λ (x : R.carrier). R.add x (R.add b c)) (R.add_self a) ∙ zer_add (R.add b c)

  pub mul_zer : (a : R.carrier) → R.mul a R.zer ≡ R.zer
  mul_zer a = ap (R.mul a) (sym (R.add_self R.zer)) ∙ R.mul-add a R.zer R.zer ∙ R.add_self (R.mul a R.zer)

  pub zer_mul : (a : R.carrier) → R.mul R.zer a ≡ R.zer
  zer_mul a = R.mul_comm R.zer a ∙ mul_zer a

  pub add-mul : (a b c : R.carrier) → R.mul (R.add a b) c ≡ R.add (R.mul a c) (R.mul b c)
  add-mul a b c = R.mul_comm (R.add a b) c ∙ R.mul-add c a b ∙ ap₂ R.add (R.mul_comm c a) (R.mul_comm c b)

  -- the square of a sum
  pub sq_add : (a b : R.carrier) → R.mul (R.add a b) (R.add a b) ≡ R.add (R.mul a a) (R.mul b b)
  sq_add a b =
      add-mul a b (R.add a b)
      ∙ ap₂ R.add (R.mul-add a a b ∙ R.add_comm (R.mul a a) (R.mul a b)) (R.mul-add b a b ∙ ap (λ (x : R.carrier). R.add x (R.mul b b)) (R.mul_comm b a))
      ∙ cancel (R.mul a b) (R.mul a a) (R.mul b b)

  pub pw_add : (x : R.carrier) (j k : ℕ) → pw x (j + k) ≡ R.mul (pw x j) (pw x k)
  pw_add x zero k = ap (pw x) (zero-add k) ∙ sym (one-mul (pw x k))
  pw_add x (suc j) k = ap (pw x) (suc-add j k) ∙ ap (R.mul x) (pw_add x j k) ∙ sym (R.mul_assoc x (pw x j) (pw x k))
