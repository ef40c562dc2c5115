-- When a line is malformed: a law for each test that the code makes (`too_long`, `odd_digits`, `few_bytes`, `other_character`, `other_kind`,
-- `wrong_length`), and `well_formed` where none applies; the same for the kind and the count that the code has read (`no_kind`, `some_kind`,
-- `wrong_count`, `right_count`). Assumes nothing.
use mathlib.Core.Path.{◌≡◌, refl, sym, ap, ◌∙◌}
use mathlib.Core.Logic.{◌≢◌}
use mathlib.Core.Bool.{true, false, not, ◌||◌, false≢true}
use mathlib.Core.List.{List, [], ◌∷◌}
use Prim.Native.Nat.{ℕ, zero, suc, ◌+◌, ◌*◌, ◌/◌, ◌%◌, ◌≤◌, ◌<◌}
use native.Mathlib.Decide.{ℕ_discrete}
use native.Mathlib.Omega.{arith}
use borrow.Author.Tests.{lt-ltb, le-ltb, eq-eqb, ne_eqb}
use lib.Dec.{eqb}
use lib.ListN.{length}
use Rattle.field.specs.Refusal.{Test, ◌⇒◌, refusal}
use Rattle.field.proofs.Tests.{none_applies}
use Rattle.frames.specs.Limits.{most_digits}
use Rattle.frames.specs.Frame.{kind_of, count_of, another_character, another_kind, disagrees, line_tests}
use Rattle.frames.specs.Kind.{kind_byte, NoKind}
use Rattle.frames.specs.declared.inner.kind.Kind.{Kind}
use Rattle.frames.specs.declared.inner.kind.Kind.TheVariants.{DegreeUpTo4, Affine}

-- the test at place i applies
abbrev Applies : List Test → ℕ → Type 0
Applies [] i = ⊥
Applies ((b ⇒ k) ∷ ts) zero = b ≡ true
Applies ((b ⇒ k) ∷ ts) (suc i) = Applies ts i

-- all tests have the same number
abbrev All : ℕ → List Test → Type 0
All n [] = Unit {0}
All n ((b ⇒ k) ∷ ts) = (n ≡ k) × All n ts

-- whichever applies, the number is the same
applied : (n : ℕ) (ts : List Test) (i : ℕ) → All n ts → Applies ts i → n ≡ refusal ts
applied n [] i h a = absurd a
applied n ((true ⇒ k) ∷ ts) i h a = h.0
applied n ((false ⇒ k) ∷ ts) zero h a = absurd (false≢true a)
applied n ((false ⇒ k) ∷ ts) (suc i) h a = applied n ts i h.1 a

all_eight : (l : List ℕ) → All 8 (line_tests l)
all_eight l = (refl, (refl, (refl, (refl, (refl, (refl, (refl, tt)))))))

pub odd_digits : (l : List ℕ) → length l % 2 ≡ 1 → 8 ≡ refusal (line_tests l)
odd_digits l h = applied 8 (line_tests l) 0 (all_eight l) (eq-eqb _ _ h)

pub few_bytes : (l : List ℕ) → length l / 2 < 5 → 8 ≡ refusal (line_tests l)
few_bytes l h = applied 8 (line_tests l) 1 (all_eight l) (lt-ltb _ _ h)

pub other_character : (l : List ℕ) → true ≡ another_character l → 8 ≡ refusal (line_tests l)
other_character l h = applied 8 (line_tests l) 2 (all_eight l) (sym h)

pub other_kind : (l : List ℕ) → true ≡ another_kind l → 8 ≡ refusal (line_tests l)
other_kind l h = applied 8 (line_tests l) 3 (all_eight l) (sym h)

pub wrong_length : (l : List ℕ) → true ≡ disagrees l → 8 ≡ refusal (line_tests l)
wrong_length l h = applied 8 (line_tests l) 4 (all_eight l) (sym h)

pub too_long : (l : List ℕ) → most_digits < length l → 8 ≡ refusal (line_tests l)
too_long l h = applied 8 (line_tests l) 6 (all_eight l) (lt-ltb _ _ h)

pub well_formed : (l : List ℕ) → length l ≤ most_digits → length l % 2 ≢ 1 → 5 ≤ length l / 2 → false ≡ another_character l
    → false ≡ another_kind l → false ≡ disagrees l → 0 ≡ refusal (line_tests l)
well_formed l few even some digit kind long =
    let full : length l ≢ 0 = λ e. absurd (omega arith) in
    sym (none_applies (line_tests l) (ne_eqb _ _ even, (le-ltb _ _ some, (sym digit, (sym kind, (sym long, (ne_eqb (length l) 0 full, (le-ltb _ _ few, tt))))))))

-- ---- what the code has read of the kind and the count

pub no_kind : (l : List ℕ) (b : ℕ) → b ≡ kind_of l → NoKind b → refusal (line_tests l) ≡ 8
unfolding another_kind
no_kind l b e h = sym (other_kind l (sym (ap (λ (k : ℕ). not (eqb k 1 || eqb k 2)) (sym e) ∙ ap not h)))

pub some_kind : (l : List ℕ) (k : Kind) (b : ℕ) → kind_byte k ≡ b → b ≡ kind_of l → another_kind l ≡ false
unfolding another_kind
some_kind l DegreeUpTo4 b e f = ap (λ (k : ℕ). not (eqb k 1 || eqb k 2)) (sym (e ∙ f))
some_kind l Affine b e f = ap (λ (k : ℕ). not (eqb k 1 || eqb k 2)) (sym (e ∙ f))

pub wrong_count : (l : List ℕ) (n : ℕ) → n ≡ count_of l → length l ≢ 10 + 4 * n → refusal (line_tests l) ≡ 8
unfolding disagrees
wrong_count l n e h = go (ℕ_discrete (length l % 2) 1)
  where
    go : Dec (length l % 2 ≡ 1) → refusal (line_tests l) ≡ 8
    go (yes odd) = sym (odd_digits l odd)
    go (no even) = sym (wrong_length l (sym (ap not (ne_eqb (length l / 2) (5 + 2 * count_of l) (λ q. absurd (omega arith))))))

pub right_count : (l : List ℕ) (n : ℕ) → n ≡ count_of l → length l ≡ 10 + 4 * n → disagrees l ≡ false
unfolding disagrees
right_count l n e h = ap not (eq-eqb (length l / 2) (5 + 2 * count_of l) (omega arith))
