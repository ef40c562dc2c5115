-- Identities on a part of a type: the ring laws hold for the elements that are In, and the operations stay there.
-- `ring_on` proves an identity between such elements by computing two normal forms, `ring_on_given` one that rests on assumed
-- equations. (The pairs of an element and its proof are a ring.) Assumes nothing.
use mathlib.Core.Path.{◌≡◌, refl, sym, ◌∙◌, ap, ap₂}
use mathlib.Core.HLevel.{Σ_prop_path}
use mathlib.Core.Bool.{true}
use mathlib.Core.List.{List, [], ◌∷◌}
use Prim.Native.Nat.{ℕ, zero, suc}
use Rattle.algebra.specs.Expression.{Expr, var, O, I, ◌⊕◌, ◌⊗◌, sq, pow, agree}
use Rattle.algebra.specs.Ring.{Ring2, Ring2On}
use Rattle.algebra.proofs.RingLaws.{pw}
use Rattle.algebra.proofs.Normal.{eval, identity}
use Rattle.algebra.proofs.Given.{Given, combo, none, by, identity_given}

module _ (S : Ring2On) where
  -- an element and the proof that it is In
  abbrev pub Elem : Type 0
  Elem = (a : S.carrier) × S.In a

  -- two elements are equal where their first components are
  pub elem_path : {u v : Elem} → u.0 ≡ v.0 → u ≡ v
  elem_path {u} {v} p = Σ_prop_path S.in_prop {u = u} {v = v} p

  abbrev pub whole : Ring2
  whole =
      record {
        carrier = Elem;
        add = λ u v. (S.add u.0 v.0, S.add_in u.0 v.0 u.1 v.1);
        mul = λ u v. (S.mul u.0 v.0, S.mul_in u.0 v.0 u.1 v.1);
        zer = (S.zer, S.zer_in);
        one = (S.one, S.one_in);
        add_comm = λ a b. elem_path (S.add_comm a.0 b.0 a.1 b.1);
        add_assoc = λ a b c. elem_path (S.add_assoc a.0 b.0 c.0 a.1 b.1 c.1);
        add_zer = λ a. elem_path (S.add_zer a.0 a.1);
        add_self = λ a. elem_path (S.add_self a.0 a.1);
        mul_comm = λ a b. elem_path (S.mul_comm a.0 b.0 a.1 b.1);
        mul_assoc = λ a b c. elem_path (S.mul_assoc a.0 b.0 c.0 a.1 b.1 c.1);
        mul-one = λ a. elem_path (S.mul-one a.0 a.1);
        mul-add = λ a b c. elem_path (S.mul-add a.0 b.0 c.0 a.1 b.1 c.1);
      }

  abbrev pub power : S.carrier → ℕ → S.carrier
  power x zero = S.one
  power x (suc n) = S.mul x (power x n)

  -- the expression's value, in the type itself: no proof stands in it
  abbrev pub value : (ℕ → S.carrier) → Expr → S.carrier
  value ρ (var i) = ρ i
  value ρ O = S.zer
  value ρ I = S.one
  value ρ (e ⊕ f) = S.add (value ρ e) (value ρ f)
  value ρ (e ⊗ f) = S.mul (value ρ e) (value ρ f)
  value ρ (sq e) = S.mul (value ρ e) (value ρ e)
  value ρ (pow e n) = power (value ρ e) n

  power_is : (x : Elem) (n : ℕ) → (pw whole x n).0 ≡ power x.0 n
  power_is x zero = refl
  power_is x (suc n) = ap (S.mul x.0) (power_is x n)

  value_is : (ρ : ℕ → Elem) (e : Expr) → (eval whole ρ e).0 ≡ value (λ i. (ρ i).0) e
  value_is ρ (var i) = refl
  value_is ρ O = refl
  value_is ρ I = refl
  value_is ρ (e ⊕ f) = ap₂ S.add (value_is ρ e) (value_is ρ f)
  value_is ρ (e ⊗ f) = ap₂ S.mul (value_is ρ e) (value_is ρ f)
  value_is ρ (sq e) = ap₂ S.mul (value_is ρ e) (value_is ρ e)
  value_is ρ (pow e n) = power_is (eval whole ρ e) n ∙ ap (λ (x : S.carrier). power x n) (value_is ρ e)

  abbrev pub elem : List Elem → ℕ → Elem
  elem [] i = (S.zer, S.zer_in)
  elem (x ∷ xs) zero = x
  elem (x ∷ xs) (suc i) = elem xs i

  abbrev pub value_at : List Elem → Expr → S.carrier
  value_at xs e = value (λ i. (elem xs i).0) e

  pub ring_on : (xs : List Elem) (e f : Expr) → agree e f ≡ true → value_at xs e ≡ value_at xs f
  ring_on xs e f h =
      sym (value_is (elem xs) e)
      ∙ ap (λ (u : Elem). u.0) (identity whole e f (elem xs) h)
      ∙ value_is (elem xs) f

  -- with equations that are assumed
  pub data GivenOn (xs : List Elem) : Type 0 where
    alone : GivenOn xs
    using_eq : (c l r : Expr) → value_at xs l ≡ value_at xs r → GivenOn xs → GivenOn xs

  abbrev pub combo_on : {xs : List Elem} → GivenOn xs → Expr
  combo_on alone = O
  combo_on (using_eq c l r h g) = c ⊗ (l ⊕ r) ⊕ combo_on g

  conv : {xs : List Elem} → GivenOn xs → Given whole (elem xs)
  conv alone = none
  conv {xs} (using_eq c l r h g) = by c l r (elem_path (value_is (elem xs) l ∙ h ∙ sym (value_is (elem xs) r))) (conv g)

  conv_is : {xs : List Elem} (g : GivenOn xs) → combo whole (conv g) ≡ combo_on g
  unfolding conv
  conv_is alone = refl
  conv_is (using_eq c l r h g) = ap (λ (x : Expr). c ⊗ (l ⊕ r) ⊕ x) (conv_is g)

  pub ring_on_given : (xs : List Elem) (e f : Expr) (g : GivenOn xs) → agree (e ⊕ combo_on g) f ≡ true → value_at xs e ≡ value_at xs f
  ring_on_given xs e f g h =
      sym (value_is (elem xs) e)
      ∙ ap (λ (u : Elem). u.0) (identity_given whole (elem xs) e f (conv g) (ap (λ (x : Expr). agree (e ⊕ x) f) (conv_is g) ∙ h))
      ∙ value_is (elem xs) f
