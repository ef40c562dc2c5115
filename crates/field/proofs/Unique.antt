-- Any two answers that a promise permits are the same one: an answer is got back from what its number and value say. Assumes nothing.
use Rattle.std.proofs.Common.{◌≡◌, refl, sym, ap, ◌∙◌, ℕ, zero, suc}
use Rattle.std.specs.Prelude.{Result, Ok, Err}
use Rattle.field.specs.declared.refused.Refusal.{Refusal}
use Rattle.field.specs.declared.refused.Refusal.TheVariants.{OutOfRange, HasFactor, WrongCount, TooLarge, AllZero, DivisionByZero, NoPlace}
use Rattle.field.specs.declared.Element.{Element}
use Rattle.field.specs.declared.LogNumber.{LogNumber}
use Rattle.field.specs.Refusal.{Outcome, turned_down, gives}
use Rattle.field.specs.Answers.{number_of, of_answer, of_value, of_element, of_number}

-- what has a way back is one to one
pub one_by_back : {A B : Type 0} (of : A → B) (back : B → A) → ((r : A) → back (of r) ≡ r) → (r s : A) → of r ≡ of s → r ≡ s
one_by_back of back h r s e = sym (h r) ∙ ap back e ∙ h s

-- the refusal with a number, and one of them for any other
refusal_with : ℕ → Refusal
refusal_with (suc zero) = OutOfRange
refusal_with (suc (suc zero)) = HasFactor
refusal_with (suc (suc (suc zero))) = WrongCount
refusal_with (suc (suc (suc (suc zero)))) = TooLarge
refusal_with (suc (suc (suc (suc (suc zero))))) = AllZero
refusal_with (suc (suc (suc (suc (suc (suc zero)))))) = DivisionByZero
refusal_with n = NoPlace

refusal_back : (r : Refusal) → refusal_with (number_of r) ≡ r
unfolding refusal_with
refusal_back OutOfRange = refl
refusal_back HasFactor = refl
refusal_back WrongCount = refl
refusal_back TooLarge = refl
refusal_back AllZero = refl
refusal_back DivisionByZero = refl
refusal_back NoPlace = refl

pub one_refusal : (r s : Refusal) → number_of r ≡ number_of s → r ≡ s
one_refusal = one_by_back number_of refusal_with refusal_back

-- an answer whose value can be got back
pub one_answer : {A B : Type 0} (read : A → B) (back : B → A) → ((a : A) → back (read a) ≡ a) → (r s : Result A Refusal)
    → of_answer read r ≡ of_answer read s → r ≡ s
one_answer {A} {B} read back h = one_by_back (of_answer read) answer same
  where
    answer : Outcome B → Result A Refusal
    answer (turned_down n) = Err (refusal_with n)
    answer (gives v) = Ok (back v)

    same : (r : Result A Refusal) → answer (of_answer read r) ≡ r
    same (Err r) = ap (λ (x : Refusal). Err x) (refusal_back r)
    same (Ok a) = ap (λ (x : A). Ok x) (h a)

pub one_value : (r s : Result ℕ Refusal) → of_value r ≡ of_value s → r ≡ s
one_value = one_answer (λ n. n) (λ n. n) (λ n. refl)

pub one_element : (r s : Result Element Refusal) → of_element r ≡ of_element s → r ≡ s
one_element = one_answer (λ a. a.0) (λ v. record { 0 = v }) (λ a. refl)

pub one_number : (r s : Result LogNumber Refusal) → of_number r ≡ of_number s → r ≡ s
one_number = one_answer (λ n. n.0) (λ v. record { 0 = v }) (λ n. refl)
