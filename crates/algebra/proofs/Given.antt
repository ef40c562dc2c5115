-- Identities that rest on assumed equations: each adds c·(l + r), which is zero where l ≡ r. Assumes nothing.
use mathlib.Core.Path.{◌≡◌, refl, sym, ◌∙◌, ap, ap₂}
use mathlib.Core.Bool.{true}
use Prim.Native.Nat.{ℕ}
use Rattle.algebra.specs.Expression.{Expr, O, ◌⊕◌, ◌⊗◌, agree}
use Rattle.algebra.specs.Ring.{Ring2}
use Rattle.algebra.proofs.RingLaws.{mul_zer}
use Rattle.algebra.proofs.Normal.{eval, identity}

module _ (R : Ring2) where
  -- the equations, each with its factor c
  pub data Given (ρ : ℕ → R.carrier) : Type 0 where
    none : Given ρ
    by : (c l r : Expr) → eval R ρ l ≡ eval R ρ r → Given ρ → Given ρ

  abbrev pub combo : {ρ : ℕ → R.carrier} → Given ρ → Expr
  combo none = O
  combo (by c l r h g) = c ⊗ (l ⊕ r) ⊕ combo g

  combo_ok : (ρ : ℕ → R.carrier) (g : Given ρ) → eval R ρ (combo g) ≡ R.zer
  combo_ok ρ none = refl
  combo_ok ρ (by c l r h g) =
      ap₂ R.add
      (ap (R.mul (eval R ρ c)) (ap (λ (x : R.carrier). R.add x (eval R ρ r)) h ∙ R.add_self (eval R ρ r)) ∙ mul_zer R (eval R ρ c))
      (combo_ok ρ g)
      ∙ R.add_zer R.zer

  pub identity_given : (ρ : ℕ → R.carrier) (e f : Expr) (g : Given ρ) → agree (e ⊕ combo g) f ≡ true → eval R ρ e ≡ eval R ρ f
  identity_given ρ e f g h =
      sym (R.add_zer (eval R ρ e)) ∙ ap (R.add (eval R ρ e)) (sym (combo_ok ρ g)) ∙ identity R (e ⊕ combo g) f ρ h
