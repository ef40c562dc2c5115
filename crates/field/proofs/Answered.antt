-- What a test that handed something on has shown: `gives_passes` of any tests, `field_given` of those that hand on a field, and the
-- elements that passed with it; `given_by` is the answer of a call that goes on from there. Assumes nothing.
use Rattle.std.proofs.Common.{◌≡◌, refl, sym, ap, ◌∙◌, ◌≢◌, subst, ℕ, zero, suc, ◌^◌, ◌<◌, List, [], ◌∷◌, ◌++◌, Bool, true, false, T}
use Rattle.binary.specs.Factor.{degree_of}
use Rattle.arithmetic.specs.declared.inner.field.Field.{Field}
use Rattle.field.specs.Refusal.{Test, ◌⇒◌, Outcome, turned_down, gives, answer_by, outcome, refusal, element_tests, elements_tests}
use Rattle.field.specs.Answers.{field_of}
use Rattle.field.proofs.Tests.{proper, given, down_last, given_last, element_passed, elements_passed}

-- what an outcome holds: its number, 0 where it has a value; and its value, or another
says : {A : Type 0} → Outcome A → ℕ
says (turned_down n) = n
says (gives v) = 0

value_or : {A : Type 0} → A → Outcome A → A
value_or w (turned_down n) = w
value_or w (gives v) = v

says_refusal : {A : Type 0} (n : ℕ) (v : A) → says (answer_by n turned_down (gives v)) ≡ n
unfolding says
says_refusal zero v = refl
says_refusal (suc n) v = refl

pub gives_passes : {A : Type 0} (ts : List Test) (v w : A) → gives v ≡ outcome ts w → (refusal ts ≡ 0) × (v ≡ w)
unfolding says value_or
gives_passes {A} ts v w e = (z, ap (value_or v) e ∙ ap (λ (n : ℕ). value_or v (answer_by n turned_down (gives w))) z)
  where
    z : refusal ts ≡ 0
    z = sym (ap says e ∙ says_refusal (refusal ts) w)

-- a field that was handed on is the polynomial's
pub record Given (p : ℕ) (f : Field) (ts : List Test) : Type 0 where
  pub passed : refusal ts ≡ 0
  pub polynomial : f.polynomial ≡ p
  pub degree : f.degree ≡ degree_of p

module _ (p : ℕ) (f : Field) (ts : List Test) (e : gives (f.polynomial, f.degree) ≡ outcome ts (field_of p)) where
  pub field_given : Given p f ts
  field_given =
      let q = gives_passes ts (f.polynomial, f.degree) (field_of p) e in
      record { passed = q.0; polynomial = ap (λ x. x.0) q.1; degree = ap (λ x. x.1) q.1 }

  -- what is computed in it is computed of p and its degree
  pub computed : {r : ℕ} (value : ℕ → ℕ → ℕ) → r ≡ value f.degree f.polynomial → r ≡ value (degree_of p) p
  computed value h =
      let g = field_given in
      h ∙ ap (λ (k : ℕ). value k f.polynomial) g.degree ∙ ap (value (degree_of p)) g.polynomial

  pub given_by : {r : ℕ} (value : ℕ → ℕ → ℕ) → r ≡ value f.degree f.polynomial → gives r ≡ outcome ts (value (degree_of p) p)
  given_by value h = given _ (value (degree_of p) p) ts field_given.passed (computed value h)

  -- one test more, which turns the call down by its number or passes too
  module _ (t : T (proper ts)) (b : Bool) (n : ℕ) where
    pub last_applies : b ≡ true → n ≢ 0 → (v : ℕ) → turned_down n ≡ outcome (ts ++ b ⇒ n ∷ []) v
    last_applies q k v = down_last 0 v n b ts t (sym field_given.passed) refl q k

    pub last_passes : b ≡ false → {r : ℕ} (value : ℕ → ℕ → ℕ) → r ≡ value f.degree f.polynomial
        → gives r ≡ outcome (ts ++ b ⇒ n ∷ []) (value (degree_of p) p)
    last_passes q value h = given_last 0 _ (value (degree_of p) p) n b ts t (sym field_given.passed) refl q (computed value h)

-- and the elements are elements of it
pub element_in : (p : ℕ) (f : Field) (a : ℕ) → gives (f.polynomial, f.degree) ≡ outcome (element_tests p a) (field_of p) → a < 2 ^ f.degree
element_in p f a e =
    let g = field_given p f (element_tests p a) e in
    subst (λ (k : ℕ). a < 2 ^ k) (sym g.degree) (element_passed p a g.passed).1

pub elements_in : (p : ℕ) (f : Field) (a b : ℕ) → gives (f.polynomial, f.degree) ≡ outcome (elements_tests p a b) (field_of p)
    → (a < 2 ^ f.degree) × (b < 2 ^ f.degree)
elements_in p f a b e =
    let g = field_given p f (elements_tests p a b) e in
    let q = elements_passed p a b g.passed in
    (subst (λ (k : ℕ). a < 2 ^ k) (sym g.degree) q.1, subst (λ (k : ℕ). b < 2 ^ k) (sym g.degree) q.2)
