-- The tests of a call: `then_kept`, `then_applies`, `then_passes` and `then_say` for tests after others, `down` and `given` for what a call
-- then says, `passes` for tests that turn nothing down, `refusal-below` for the numbers, `accepted` and `element_passed` for what has passed. Assumes nothing.
use mathlib.Core.Path.{◌≡◌, refl, sym, ap, ◌∙◌}
use mathlib.Core.Logic.{◌≢◌}
use mathlib.Core.Bool.{Bool, true, false, not, ◌&&◌, false≢true, or-true}
use mathlib.Core.List.{List, [], ◌∷◌, ◌++◌}
use Prim.Native.Nat.{ℕ, zero, suc, ◌^◌, ◌≤◌, ◌<◌}
use native.Mathlib.Decide.{dec_lt, dec_le}
use native.Mathlib.Omega.{arith}
use lib.Dec.{T, ltb, ltb→lt}
use borrow.Author.Rules.{rules}
use borrow.Author.Tests.{lt-ltb, le-ltb, le-leb, lt-leb}
use Rattle.binary.specs.Xor.{Degree}
use Rattle.binary.specs.Product.{Modulus}
use Rattle.binary.specs.Factor.{degree_of, factor_free}
use Rattle.binary.proofs.Xor.{has_degree, exp_lt}
use Rattle.binary.proofs.Factor.{degree_is, test_irreducible}
use Rattle.field.specs.Limits.{polynomial_floor, polynomial_ceiling, largest_degree}
use Rattle.field.specs.Accepted.{Accepted}
use Rattle.field.specs.Refusal.{Test, ◌⇒◌, refusal, turned_down, gives, answer_by, outcome, out_of_range, has_factor, too_large, polynomial_tests, element_tests, elements_tests}

-- every number is one of the table's, and none is 0
abbrev pub proper : List Test → Bool
proper [] = true
proper ((b ⇒ zero) ∷ ts) = false
proper ((b ⇒ suc n) ∷ ts) = proper ts

pub refusal_kept : (ts us : List Test) → refusal ts ≢ 0 → refusal (ts ++ us) ≡ refusal ts
refusal_kept [] us h = absurd (h refl)
refusal_kept ((true ⇒ n) ∷ ts) us h = refl
refusal_kept ((false ⇒ n) ∷ ts) us h = refusal_kept ts us h

pub refusal-append : (ts us : List Test) → T (proper ts) → refusal ts ≡ 0 → refusal (ts ++ us) ≡ refusal us
refusal-append [] us t h = refl
refusal-append ((true ⇒ zero) ∷ ts) us t h = absurd t
refusal-append ((true ⇒ suc n) ∷ ts) us t h = absurd (omega arith)
refusal-append ((false ⇒ zero) ∷ ts) us t h = absurd t
refusal-append ((false ⇒ suc n) ∷ ts) us t h = refusal-append ts us t h

-- no test applies
abbrev pub Pass : List Test → Type 0
Pass [] = Unit {0}
Pass ((b ⇒ n) ∷ ts) = (b ≡ false) × Pass ts

-- tests that turn nothing down do not apply, one and all
pub passes : (ts : List Test) → T (proper ts) → refusal ts ≡ 0 → Pass ts
passes [] t e = tt
passes ((true ⇒ zero) ∷ ts) t e = absurd t
passes ((true ⇒ suc n) ∷ ts) t e = absurd (omega arith)
passes ((false ⇒ zero) ∷ ts) t e = absurd t
passes ((false ⇒ suc n) ∷ ts) t e = (refl, passes ts t e)

pub none_applies : (ts : List Test) → Pass ts → refusal ts ≡ 0
none_applies [] h = refl
none_applies ((true ⇒ n) ∷ ts) h = absurd (false≢true (sym h.0))
none_applies ((false ⇒ n) ∷ ts) h = none_applies ts h.1

-- the tests before pass, and one more decides
pub then_applies : (ts : List Test) (r n : ℕ) (b : Bool) → T (proper ts) → r ≡ refusal ts → r ≡ 0 → true ≡ b → n ≡ refusal (ts ++ b ⇒ n ∷ [])
then_applies ts r n b t e z q = ap (λ (c : Bool). refusal (c ⇒ n ∷ [])) q ∙ sym (refusal-append ts (b ⇒ n ∷ []) t (sym e ∙ z))

pub then_passes : (ts : List Test) (r n : ℕ) (b : Bool) → T (proper ts) → r ≡ refusal ts → r ≡ 0 → false ≡ b → 0 ≡ refusal (ts ++ b ⇒ n ∷ [])
then_passes ts r n b t e z q = ap (λ (c : Bool). refusal (c ⇒ n ∷ [])) q ∙ sym (refusal-append ts (b ⇒ n ∷ []) t (sym e ∙ z))

pub then_kept : (ts us : List Test) (r : ℕ) → r ≡ refusal ts → r ≢ 0 → r ≡ refusal (ts ++ us)
then_kept ts us r e n = e ∙ sym (refusal_kept ts us (λ z. n (e ∙ z)))

-- the tests before pass, and others say
pub then_say : (ts us : List Test) (r n : ℕ) → T (proper ts) → r ≡ refusal ts → r ≡ 0 → n ≡ refusal us → n ≡ refusal (ts ++ us)
then_say ts us r n t e z q = q ∙ sym (refusal-append ts us t (sym e ∙ z))

-- what a call answers: turned down where a test applies, else its value
pub refused_by : {A : Type 0} (refused : ℕ → A) (v : A) (r : ℕ) (ts : List Test) → r ≡ refusal ts → r ≢ 0 → refused r ≡ answer_by (refusal ts) refused v
refused_by {A} refused v r ts e n = go r n ∙ ap (λ (k : ℕ). answer_by k refused v) e
  where
    go : (r : ℕ) → r ≢ 0 → refused r ≡ answer_by r refused v
    go zero h = absurd (h refl)
    go (suc r) h = refl

pub answered_by : {A : Type 0} (refused : ℕ → A) (v : A) (ts : List Test) → refusal ts ≡ 0 → v ≡ answer_by (refusal ts) refused v
answered_by refused v ts e = ap (λ (k : ℕ). answer_by k refused v) (sym e)

-- a call that is not turned down answers by its value alone
pub same_answer : {A : Type 0} (r : ℕ) (refused : ℕ → A) (v w : A) → (r ≡ 0 → v ≡ w) → answer_by r refused v ≡ answer_by r refused w
same_answer zero refused v w h = h refl
same_answer (suc r) refused v w h = refl

pub down : (r v : ℕ) (ts : List Test) → r ≡ refusal ts → r ≢ 0 → turned_down r ≡ outcome ts v
down r v ts e n = refused_by turned_down (gives v) r ts e n

pub given : (v w : ℕ) (ts : List Test) → refusal ts ≡ 0 → v ≡ w → gives v ≡ outcome ts w
given v w ts e q = ap gives q ∙ answered_by turned_down (gives w) ts e

-- and the same where one more test follows those that a function made
pub down_first : (r v : ℕ) (ts us : List Test) → r ≡ refusal ts → r ≢ 0 → turned_down r ≡ outcome (ts ++ us) v
down_first r v ts us e n = down r v (ts ++ us) (then_kept ts us r e n) n

pub down_last : (r v n : ℕ) (b : Bool) (ts : List Test) → T (proper ts) → r ≡ refusal ts → r ≡ 0 → b ≡ true → n ≢ 0
    → turned_down n ≡ outcome (ts ++ b ⇒ n ∷ []) v
down_last r v n b ts t e z q k = down n v (ts ++ b ⇒ n ∷ []) (then_applies ts r n b t e z (sym q)) k

pub given_last : (r v w n : ℕ) (b : Bool) (ts : List Test) → T (proper ts) → r ≡ refusal ts → r ≡ 0 → b ≡ false → v ≡ w
    → gives v ≡ outcome (ts ++ b ⇒ n ∷ []) w
given_last r v w n b ts t e z q f = given v w (ts ++ b ⇒ n ∷ []) (sym (then_passes ts r n b t e z (sym q))) f

-- ---- the field polynomial

pub too_low : (p : ℕ) → p < polynomial_floor → out_of_range p ≡ true
unfolding out_of_range
too_low p h = rw (lt-ltb p polynomial_floor h)

pub too_high : (p : ℕ) → polynomial_ceiling ≤ p → out_of_range p ≡ true
unfolding out_of_range
too_high p h = rw (le-leb polynomial_ceiling p h) (or-true (ltb p polynomial_floor))

pub in_range : (p : ℕ) → polynomial_floor ≤ p → p < polynomial_ceiling → out_of_range p ≡ false
unfolding out_of_range
in_range p h l = rw (le-ltb p polynomial_floor h, lt-leb polynomial_ceiling p l)

pub has_factor_lem : (m p : ℕ) (r : Bool) → Degree m p → r ≡ factor_free m p → has_factor p ≡ not r
unfolding has_factor
has_factor_lem m p r d e = rw (degree_is m p d) (ap not (sym e))

module _ (p : ℕ) (h : polynomial_floor ≤ p) where
  nonzero : p ≢ 0
  nonzero e = omega arith

  -- the degree is the one defined
  pub degree_of_lem : Degree (degree_of p) p
  degree_of_lem = let d = has_degree p nonzero in rw (degree_is d.0 p d.1) d.1

  pub two_le : 2 ≤ degree_of p
  two_le = let l = exp_lt 2 (suc (degree_of p)) p h degree_of_lem.1 in omega arith

  pub degree_small : p < polynomial_ceiling → degree_of p ≤ largest_degree
  degree_small l = let w = exp_lt (degree_of p) (suc largest_degree) p degree_of_lem.0 l in omega arith

  pub modulus_of : p < polynomial_ceiling → Modulus (degree_of p) p
  modulus_of l = let w = degree_small l in record { degree = degree_of_lem; two = two_le; fits = omega arith }

-- the range, and the test of factors
range : (p : ℕ) → out_of_range p ≡ false → (polynomial_floor ≤ p) × (p < polynomial_ceiling)
range p e = go (dec_lt p polynomial_floor) (dec_lt p polynomial_ceiling)
  where
    go : Dec (p < polynomial_floor) → Dec (p < polynomial_ceiling) → (polynomial_floor ≤ p) × (p < polynomial_ceiling)
    go (yes l) k = absurd (false≢true (sym e ∙ too_low p l))
    go (no l) (yes k) = (omega arith, k)
    go (no l) (no k) = absurd (false≢true (sym e ∙ too_high p (omega arith)))

free : (p : ℕ) → has_factor p ≡ false → factor_free (degree_of p) p ≡ true
unfolding has_factor
free p e = go (factor_free (degree_of p) p) refl
  where
    go : (b : Bool) → factor_free (degree_of p) p ≡ b → factor_free (degree_of p) p ≡ true
    go true q = q
    go false q = absurd (false≢true (sym e ∙ ap not q))

-- what passes both tests is accepted
passed : (p : ℕ) → out_of_range p ≡ false → has_factor p ≡ false → Accepted p
passed p e f =
    let r = range p e in
    let two = two_le p r.0 in
    record {
      largest = degree_small p r.0 r.1;
      ready = record {
        modulus = modulus_of p r.0 r.1;
        field = record { irr = test_irreducible (degree_of p) p (degree_of_lem p r.0) (free p f); pos = omega arith };
      };
    }

pub accepted_range : (p : ℕ) → refusal (polynomial_tests p) ≡ 0 → (polynomial_floor ≤ p) × (p < polynomial_ceiling)
accepted_range p e =
    let t = passes (polynomial_tests p) tt e in
    let first = t.0 in
    let second = t.1.0 in
    range p (search rules)

pub accepted : (p : ℕ) → refusal (polynomial_tests p) ≡ 0 → Accepted p
accepted p e =
    let t = passes (polynomial_tests p) tt e in
    let first = t.0 in
    let second = t.1.0 in
    passed p (search rules) (search rules)

-- ---- elements

pub too_large_lem : (p a : ℕ) → 2 ^ degree_of p ≤ a → too_large p a ≡ true
unfolding too_large
too_large_lem p a h = le-leb (2 ^ degree_of p) a h

pub element_small : (p a : ℕ) → too_large p a ≡ false → a < 2 ^ degree_of p
element_small p a e = go (dec_le (2 ^ degree_of p) a)
  where
    go : Dec (2 ^ degree_of p ≤ a) → a < 2 ^ degree_of p
    go (yes h) = absurd (false≢true (sym e ∙ too_large_lem p a h))
    go (no h) = omega arith

pub element_passed : (p a : ℕ) → refusal (element_tests p a) ≡ 0 → Accepted p × (a < 2 ^ degree_of p)
element_passed p a e =
    let t = passes (element_tests p a) tt e in
    let first = t.0 in
    let second = t.1.0 in
    (passed p (search rules) (search rules), element_small p a t.1.1.0)

pub elements_passed : (p a b : ℕ) → refusal (elements_tests p a b) ≡ 0 → Accepted p × (a < 2 ^ degree_of p) × (b < 2 ^ degree_of p)
elements_passed p a b e =
    let t = passes (elements_tests p a b) tt e in
    let first = t.0 in
    let second = t.1.0 in
    (passed p (search rules) (search rules), element_small p a t.1.1.0, element_small p b t.1.1.1.0)

-- every number is below n
abbrev pub numbers_below : ℕ → List Test → Bool
numbers_below n [] = ltb 0 n
numbers_below n ((b ⇒ k) ∷ ts) = ltb k n && numbers_below n ts

both : (a b : Bool) → T (a && b) → T a × T b
both true b h = (tt, h)
both false b h = absurd h

pub refusal-below : (n : ℕ) (ts : List Test) → T (numbers_below n ts) → refusal ts < n
refusal-below n [] h = ltb→lt 0 n h
refusal-below n ((true ⇒ k) ∷ ts) h = ltb→lt k n (both (ltb k n) (numbers_below n ts) h).0
refusal-below n ((false ⇒ k) ∷ ts) h = refusal-below n ts (both (ltb k n) (numbers_below n ts) h).1
