-- Commutative rings in which x + x = 0: on a whole type, and on those of its elements that are In. Assumes nothing.
use Rattle.std.specs.Prelude.{◌≡◌}

pub record Ring2 : Type 1 where
  pub carrier : Type 0
  pub add : carrier → carrier → carrier
  pub mul : carrier → carrier → carrier
  pub zer : carrier
  pub one : carrier
  pub add_comm : (a b : carrier) → add a b ≡ add b a
  pub add_assoc : (a b c : carrier) → add (add a b) c ≡ add a (add b c)
  pub add_zer : (a : carrier) → add a zer ≡ a
  pub add_self : (a : carrier) → add a a ≡ zer
  pub mul_comm : (a b : carrier) → mul a b ≡ mul b a
  pub mul_assoc : (a b c : carrier) → mul (mul a b) c ≡ mul a (mul b c)
  pub mul-one : (a : carrier) → mul a one ≡ a
  pub mul-add : (a b c : carrier) → mul a (add b c) ≡ add (mul a b) (mul a c)

pub record Ring2On : Type 1 where
  pub carrier : Type 0
  pub In : carrier → Type 0
  pub in_prop : (a : carrier) → IsProp (In a)
  pub add : carrier → carrier → carrier
  pub mul : carrier → carrier → carrier
  pub zer : carrier
  pub one : carrier
  pub add_in : (a b : carrier) → In a → In b → In (add a b)
  pub mul_in : (a b : carrier) → In a → In b → In (mul a b)
  pub zer_in : In zer
  pub one_in : In one
  pub add_comm : (a b : carrier) → In a → In b → add a b ≡ add b a
  pub add_assoc : (a b c : carrier) → In a → In b → In c → add (add a b) c ≡ add a (add b c)
  pub add_zer : (a : carrier) → In a → add a zer ≡ a
  pub add_self : (a : carrier) → In a → add a a ≡ zer
  pub mul_comm : (a b : carrier) → In a → In b → mul a b ≡ mul b a
  pub mul_assoc : (a b c : carrier) → In a → In b → In c → mul (mul a b) c ≡ mul a (mul b c)
  pub mul-one : (a : carrier) → In a → mul a one ≡ a
  pub mul-add : (a b c : carrier) → In a → In b → In c → mul a (add b c) ≡ add (mul a b) (mul a c)
