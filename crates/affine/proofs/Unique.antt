-- Any two answers that a promise permits are the same one. Assumes nothing.
use Rattle.std.proofs.Common.{◌≡◌, ◌≢◌, refl, sym, ap, ap₂, ◌∙◌, subst, arith, true, false, ℕ, ◌≤◌, List}
use Rattle.std.specs.Prelude.{Result, Ok, Err, Option, Some, None}
use Rattle.std.proofs.Math.Bridge.{le_prop}
use Rattle.field.specs.declared.refused.Refusal.{Refusal}
use Rattle.field.specs.Refusal.{turned_down, gives}
use Rattle.field.proofs.Unique.{one_refusal}
use Rattle.linear.specs.Limits.{places}
use Rattle.affine.specs.Calls.{Answer}
use Rattle.affine.specs.Answers.{of_roots, of_affine}
use Rattle.affine.specs.declared.space.RootSpace.{RootSpace}

abbrev space : ℕ → (k : ℕ) → List ℕ → k ≤ places → RootSpace
space b k ds few = record { base = record { 0 = b }; dimension = k; directions = ds; few = few }

-- a space is its base, its dimension and its directions
one_space : (r s : RootSpace) → r.base.0 ≡ s.base.0 → r.dimension ≡ s.dimension → r.directions ≡ s.directions → r ≡ s
one_space r s b k ds =
    subst (λ (n : ℕ). (h : n ≤ places) → r ≡ space r.base.0 n r.directions h) k (λ h. ap (space r.base.0 r.dimension r.directions) (le_prop r.few h)) s.few
    ∙ ap₂ (λ (x : ℕ) (l : List ℕ). space x s.dimension l s.few) b ds

-- what an answer is: turned down by a number, without a root, or a space of a dimension
kind : Answer → ℕ × ℕ
kind a = elim a.says [ turned_down n ↦ (0, n) | gives s ↦ elim s.found [ true ↦ (1, s.dimension) | false ↦ (2, 0) ] ]

apart : {m n : ℕ} → m ≢ n → {A : Type 0} {j k : ℕ} → ◌≡◌ {A = ℕ × ℕ} (m, j) (n, k) → A
apart h e = absurd (h (ap (λ x. x.0) e))

one_roots : (r s : Option RootSpace) → of_roots r ≡ of_roots s → r ≡ s
unfolding kind
one_roots (Some r) (Some s) e =
    ap (λ (x : RootSpace). Some x)
    (one_space r s (ap (λ (a : Answer). a.base) e) (ap (λ (a : Answer). (kind a).1) e) (ap (λ (a : Answer). a.directions) e))
one_roots (Some r) None e = apart (λ z. omega arith) (ap kind e)
one_roots None (Some s) e = apart (λ z. omega arith) (ap kind e)
one_roots None None e = refl

none-turned_down : (r : Option RootSpace) (s : Refusal) → of_roots r ≡ of_affine (Err s) → ⊥
unfolding kind
none-turned_down (Some r) s e = apart (λ z. omega arith) (ap kind e)
none-turned_down None s e = apart (λ z. omega arith) (ap kind e)

pub one_affine : (r s : Result (Option RootSpace) Refusal) → of_affine r ≡ of_affine s → r ≡ s
unfolding kind
one_affine (Ok r) (Ok s) e = ap (λ (x : Option RootSpace). Ok x) (one_roots r s e)
one_affine (Ok r) (Err s) e = absurd (none-turned_down r s e)
one_affine (Err r) (Ok s) e = absurd (none-turned_down s r (sym e))
one_affine (Err r) (Err s) e = ap (λ (x : Refusal). Err x) (one_refusal r s (ap (λ (a : Answer). (kind a).1) e))
