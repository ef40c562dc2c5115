-- B1: injective on a finite set is onto: `onto` for a list without repetition, `onto_below` for the numbers below n, `onto_test` for
-- those below n that pass a test. Assumes nothing.
use mathlib.Core.Path.{◌≡◌, refl, sym, ap, ap₂, ◌∙◌, subst}
use mathlib.Core.Logic.{◌⊎◌, inl, inr}
use mathlib.Core.Bool.{Bool, true, false}
use mathlib.Core.List.{List, [], ◌∷◌, map}
use Prim.Native.Nat.{ℕ, zero, suc, ◌≤◌, ◌<◌}
use native.Mathlib.Nat.{le_refl}
use native.Mathlib.Decide.{ℕ_discrete}
use native.Mathlib.Omega.{arith}
use lib.ListN.{length, length-map}
use lib.Dec.{T}
use Rattle.algebra.specs.Lists.{Member, Nodup, Within, below, keep}
use Rattle.algebra.proofs.Members.{fills}

-- f stays in S, and sends different entries of S to different ones
pub record InjectiveOn (S : List ℕ) (f : ℕ → ℕ) : Type 0 where
  pub stays : (x : ℕ) → Member x S → Member (f x) S
  pub apart : (x y : ℕ) → Member x S → Member y S → f x ≡ f y → x ≡ y

-- an entry of map f xs is f x for an entry x
pub of_map : (f : ℕ → ℕ) (xs : List ℕ) (y : ℕ) → Member y (map f xs) → (x : ℕ) × Member x xs × (y ≡ f x)
of_map f [] y h = absurd h
of_map f (x ∷ xs) y (inl e) = (x, inl refl, e)
of_map f (x ∷ xs) y (inr h) = let r = of_map f xs y h in (r.0, inr r.1, r.2)

pub to_map : (f : ℕ → ℕ) (xs : List ℕ) (x : ℕ) → Member x xs → Member (f x) (map f xs)
to_map f [] x h = h
to_map f (z ∷ xs) x (inl e) = inl (ap f e)
to_map f (z ∷ xs) x (inr h) = inr (to_map f xs x h)

-- two functions that agree on the entries make the same list
pub map_alike : (f g : ℕ → ℕ) (xs : List ℕ) → ((x : ℕ) → Member x xs → f x ≡ g x) → map f xs ≡ map g xs
map_alike f g [] h = refl
map_alike f g (x ∷ xs) h = ap₂ ◌∷◌ (h x (inl refl)) (map_alike f g xs (λ y k. h y (inr k)))

pub map_nodup : (f : ℕ → ℕ) (xs : List ℕ) → Nodup xs
    → ((x y : ℕ) → Member x xs → Member y xs → f x ≡ f y → x ≡ y) → Nodup (map f xs)
map_nodup f [] d i = tt
map_nodup f (x ∷ xs) d i = (
  λ h. let r = of_map f xs (f x) h in
      d.0 (subst (λ (v : ℕ). Member v xs) (sym (i x r.0 (inl refl) (inr r.1) r.2)) r.1),
  map_nodup f xs d.1 (λ a b ha hb e. i a b (inr ha) (inr hb) e),
)

module _ (S : List ℕ) (d : Nodup S) (f : ℕ → ℕ) (J : InjectiveOn S f) where
  pub image_nodup : Nodup (map f S)
  image_nodup = map_nodup f S d J.apart

  pub image_within : Within (map f S) S
  image_within y h = let r = of_map f S y h in subst (λ (v : ℕ). Member v S) (sym r.2) (J.stays r.0 r.1)

  pub image_length : length S ≤ length (map f S)
  image_length = rw length-map (le_refl (length S))

  pub onto : (y : ℕ) → Member y S → (x : ℕ) × Member x S × (y ≡ f x)
  onto y h = of_map f S y (fills (map f S) S image_nodup image_within image_length y h)

pub below_length : (n : ℕ) → length (below n) ≡ n
below_length zero = refl
below_length (suc n) = ap suc (below_length n)

pub to_below : (n x : ℕ) → x < n → Member x (below n)
to_below zero x h = absurd (omega arith)
to_below (suc n) x h = go (ℕ_discrete x n) (λ k. to_below n x k)
  where
    go : Dec (x ≡ n) → (x < n → Member x (below n)) → (x ≡ n) ⊎ Member x (below n)
    go (yes e) k = inl e
    go (no f) k = inr (k (omega arith))

pub of_below : (n x : ℕ) → Member x (below n) → x < n
of_below zero x h = absurd h
of_below (suc n) x (inl e) = omega arith
of_below (suc n) x (inr h) = let r = of_below n x h in omega arith

pub below_nodup : (n : ℕ) → Nodup (below n)
below_nodup zero = tt
below_nodup (suc n) = (λ h. let r = of_below n n h in omega arith, below_nodup n)

pub of_keep : (t : ℕ → Bool) (xs : List ℕ) (y : ℕ) → Member y (keep t xs) → Member y xs × T (t y)
of_keep t [] y h = absurd h
of_keep t (x ∷ xs) y h = go (t x) refl h (λ k. of_keep t xs y k)
  where
    go : (b : Bool) → t x ≡ b → Member y (elim b as (λ (_ : Bool). List ℕ) [ true ↦ x ∷ keep t xs | false ↦ keep t xs ])
        → (Member y (keep t xs) → Member y xs × T (t y)) → ((y ≡ x) ⊎ Member y xs) × T (t y)
    go true e (inl k) ih = (inl k, subst T (sym (ap t k ∙ e)) tt)
    go true e (inr k) ih = let r = ih k in (inr r.0, r.1)
    go false e k ih = let r = ih k in (inr r.0, r.1)

pub to_keep : (t : ℕ → Bool) (xs : List ℕ) (y : ℕ) → Member y xs → T (t y) → Member y (keep t xs)
to_keep t [] y h p = h
to_keep t (x ∷ xs) y h p = go (t x) refl h (λ k. to_keep t xs y k p)
  where
    go : (b : Bool) → t x ≡ b → (y ≡ x) ⊎ Member y xs → (Member y xs → Member y (keep t xs))
        → Member y (elim b as (λ (_ : Bool). List ℕ) [ true ↦ x ∷ keep t xs | false ↦ keep t xs ])
    go true e (inl k) ih = inl k
    go true e (inr k) ih = inr (ih k)
    go false e (inl k) ih = absurd (subst T (ap t k ∙ e) p)
    go false e (inr k) ih = ih k

pub keep_nodup : (t : ℕ → Bool) (xs : List ℕ) → Nodup xs → Nodup (keep t xs)
keep_nodup t [] d = tt
keep_nodup t (x ∷ xs) d = go (t x) (keep_nodup t xs d.1)
  where
    go : (b : Bool) → Nodup (keep t xs) → Nodup (elim b as (λ (_ : Bool). List ℕ) [ true ↦ x ∷ keep t xs | false ↦ keep t xs ])
    go true r = (λ h. d.0 (of_keep t xs x h).0, r)
    go false r = r

-- B1 for the numbers below n
pub onto_below : (n : ℕ) (f : ℕ → ℕ) → ((x : ℕ) → x < n → f x < n) → ((x y : ℕ) → x < n → y < n → f x ≡ f y → x ≡ y)
    → (y : ℕ) → y < n → (x : ℕ) × (x < n) × (y ≡ f x)
onto_below n f s i y h =
    let r = onto (below n) (below_nodup n) f
    (record { stays = λ x k. to_below n (f x) (s x (of_below n x k)); apart = λ x z hx hz e. i x z (of_below n x hx) (of_below n z hz) e })
    y (to_below n y h) in
    (r.0, of_below n r.0 r.1, r.2)

-- and for those below n that pass a test
pub onto_test : (n : ℕ) (t : ℕ → Bool) (f : ℕ → ℕ) → ((x : ℕ) → x < n → T (t x) → (f x < n) × T (t (f x)))
    → ((x y : ℕ) → x < n → y < n → T (t x) → T (t y) → f x ≡ f y → x ≡ y)
    → (y : ℕ) → y < n → T (t y) → (x : ℕ) × (x < n) × T (t x) × (y ≡ f x)
onto_test n t f s i y h p =
    let r = onto (keep t (below n)) (keep_nodup t (below n) (below_nodup n)) f
    (record {
      stays = λ x k. let q = of_keep t (below n) x k in let v = s x (of_below n x q.0) q.1 in to_keep t (below n) (f x) (to_below n (f x) v.0) v.1;
      apart = λ x z hx hz e. let q = of_keep t (below n) x hx in let v = of_keep t (below n) z hz in
          i x z (of_below n x q.0) (of_below n z v.0) q.1 v.1 e;
    })
    y (to_keep t (below n) y (to_below n y h) p) in
    let q = of_keep t (below n) r.0 r.1 in
    (r.0, of_below n r.0 q.0, q.1, r.2)
