-- A polynomial that is not 0 has a degree d (`has_degree`) and is its first d + 1 coefficients with zeros above (`degree_split`): its roots,
-- counted with multiplicity, are at most d (`total_at_most`), and so are its different roots (`roots_at_most`); as many as d are
-- all of multiplicity 1 (`all_once`). Assumes nothing.
use mathlib.Core.Path.{◌≡◌, refl, sym, ap, ap₂, ◌∙◌, subst}
use mathlib.Core.Logic.{◌⊎◌, inl, inr}
use mathlib.Core.List.{List, [], ◌∷◌, ◌++◌, map}
use Prim.Native.Nat.{ℕ, zero, suc, ◌+◌, ◌^◌, ◌≤◌, ◌<◌}
use native.Mathlib.Decide.{ℕ_discrete}
use native.Mathlib.Omega.{arith}
use lib.ListN.{length, get_or, take, drop, replicate, take-append-drop}
use lib.Seq.{length-take-le, get_or-take, get_or-drop}
use Rattle.algebra.specs.Lists.{Member, Nodup}
use Rattle.algebra.specs.Counts.{sum_of}
use Rattle.algebra.proofs.Onto.{map_alike}
use Rattle.algebra.proofs.Ascending.{ascending_nodup}
use Rattle.galois.specs.Field.{Field}
use Rattle.galois.specs.Polynomial.{Coeffs, AllZero, IsDegree, Root}
use Rattle.galois.specs.Roots.{roots_of}
use Rattle.galois.specs.Multiplicity.{multiplicity}
use Rattle.galois.proofs.Polynomial.{coeff_at, coeffs_of, zero_at}
use Rattle.galois.proofs.Padding.{roots_pad, multiplicity_pad}
use Rattle.galois.proofs.RootList.{roots_iff, roots_ascending, roots_few}
use Rattle.galois.proofs.Simple.{all_simple}
use Rattle.galois.proofs.Largest.{roots_total}

zeros_are : (f : List ℕ) → ((i : ℕ) → get_or f i 0 ≡ 0) → f ≡ replicate (length f) 0
zeros_are [] h = refl
zeros_are (c ∷ f) h = ap₂ ◌∷◌ (h 0) (zeros_are f (λ i. h (suc i)))

-- all zero, or of one degree or another
zero_or_degree : (f : List ℕ) → AllZero f ⊎ ((d : ℕ) × IsDegree d f)
zero_or_degree [] = inl tt
zero_or_degree (c ∷ f) = go (zero_or_degree f) (ℕ_discrete c 0)
  where
    higher : (d : ℕ) → IsDegree d f → (i : ℕ) → suc d < i → get_or (c ∷ f) i 0 ≡ 0
    higher d D zero l = absurd (omega arith)
    higher d D (suc i) l = D.above i (omega arith)

    constant : AllZero f → (i : ℕ) → 0 < i → get_or (c ∷ f) i 0 ≡ 0
    constant z zero l = absurd (omega arith)
    constant z (suc i) l = zero_at f i z

    go : AllZero f ⊎ ((d : ℕ) × IsDegree d f) → Dec (c ≡ 0) → AllZero (c ∷ f) ⊎ ((d : ℕ) × IsDegree d (c ∷ f))
    go (inr D) q = let l = D.1.within in inr (suc D.0, record { within = omega arith; top = D.1.top; above = higher D.0 D.1 })
    go (inl z) (yes e) = inl (e, z)
    go (inl z) (no n) = inr (0, record { within = omega arith; top = n; above = constant z })

pub has_degree : (f : List ℕ) → (AllZero f → ⊥) → (d : ℕ) × IsDegree d f
has_degree f n = go (zero_or_degree f)
  where
    go : AllZero f ⊎ ((d : ℕ) × IsDegree d f) → (d : ℕ) × IsDegree d f
    go (inl z) = absurd (n z)
    go (inr D) = D

-- as many different roots as the degree of g, each of multiplicity 1
simple : (m p : ℕ) → Field m p → (g rs : List ℕ) → Coeffs m g → (AllZero g → ⊥) → Nodup rs → ((s : ℕ) → Member s rs → Root m p g s)
    → suc (length rs) ≡ length g → (r : ℕ) → Member r rs → multiplicity p r g ≡ 1
simple m p F [] rs h n u w e r k = absurd (n tt)
simple m p F (c ∷ g) rs h n u w e r k = all_simple m p F c g rs h n u w (omega arith) r k

map_one : (xs : List ℕ) → map {B = ℕ} (λ (x : ℕ). 1) xs ≡ replicate (length xs) 1
map_one [] = refl
map_one (x ∷ xs) = ap (λ (l : List ℕ). 1 ∷ l) (map_one xs)

module _ (d : ℕ) (f : List ℕ) (D : IsDegree d f) where
  abbrev front : List ℕ
  front = take (suc d) f

  abbrev spare : ℕ
  spare = length (drop (suc d) f)

  pub degree_split : f ≡ front ++ replicate spare 0
  degree_split =
      sym (take-append-drop (suc d) f)
      ∙ ap (λ (g : List ℕ). front ++ g) (zeros_are (drop (suc d) f) (λ i. get_or-drop (suc d) f i 0 ∙ D.above (suc d + i) (omega arith)))

  front_length : length front ≡ suc d
  front_length = let l = D.within in length-take-le (suc d) f (omega arith)

  front_nonzero : AllZero front → ⊥
  front_nonzero z = D.top (sym (get_or-take (suc d) f d 0 (omega arith)) ∙ zero_at front d z)

  module _ (m p : ℕ) (F : Field m p) (h : Coeffs m f) where
    front_small : Coeffs m front
    front_small =
        coeffs_of m front (λ i l. let e = front_length in
        subst (λ (v : ℕ). v < 2 ^ m) (sym (get_or-take (suc d) f i 0 (omega arith))) (coeff_at m f i h))

    same_roots : roots_of m p f ≡ roots_of m p front
    same_roots = ap (roots_of m p) degree_split ∙ roots_pad m p front spare

    same-multiplicity : (r : ℕ) → multiplicity p r f ≡ multiplicity p r front
    same-multiplicity r = ap (multiplicity p r) degree_split ∙ multiplicity_pad m p F r spare front front_nonzero

    pub total_at_most : sum_of (map (λ r. multiplicity p r f) (roots_of m p f)) ≤ d
    total_at_most =
        let e = ap sum_of (map_alike (λ r. multiplicity p r f) (λ r. multiplicity p r front) (roots_of m p f) (λ r k. same-multiplicity r)
        ∙ ap (map (λ r. multiplicity p r front)) same_roots) in
        let l = roots_total m p F front front_small front_nonzero in
        let n = front_length in
        omega arith

    pub roots_at_most : length (roots_of m p f) ≤ d
    roots_at_most =
        let e = ap length same_roots in
        let l = roots_few m p F front front_small front_nonzero in
        let n = front_length in
        omega arith

    -- "as many different roots as the degree: every multiplicity is 1" (E5)
    pub all_once : length (roots_of m p f) ≡ d → map (λ r. multiplicity p r f) (roots_of m p f) ≡ replicate (length (roots_of m p f)) 1
    all_once e =
        map_alike (λ r. multiplicity p r f) (λ r. 1) (roots_of m p f) (λ r k. same-multiplicity r ∙ simple m p F front (roots_of m p f) front_small front_nonzero
        (ascending_nodup (roots_of m p f) (roots_ascending m p f))
        (λ s j. (roots_iff m p front s).0 (subst (Member s) same_roots j)) (let n = front_length in omega arith) r k)
        ∙ map_one (roots_of m p f)
