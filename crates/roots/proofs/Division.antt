-- Division by x + r from the highest coefficient down: from place i on it is done (`dividing_start`, `dividing_next`), and at the end the
-- value is left over (`left_over`, `quotient_lem`); and the product with x + a from the constant up (`raising_start`, `raising_next`,
-- `raising_end`). Assumes nothing.
use mathlib.Core.Path.{◌≡◌, refl, sym, ap, ap₂, ◌∙◌, subst}
use mathlib.Core.List.{List, [], ◌∷◌, ◌++◌}
use Prim.Native.Nat.{ℕ, zero, suc, ◌+◌, ◌^◌, ◌≤◌, ◌<◌}
use native.Mathlib.Omega.{arith}
use lib.Bits.{bit_xor}
use lib.ListN.{length, get_or, set, take, drop, length-set}
use lib.Seq.{drop-cons, drop-set-lt, get_or-drop, drop-length, take_all, get_or-set_other}
use Rattle.algebra.proofs.Places.{put_next, put_before}
use Rattle.binary.specs.Xor.{◌⊕◌}
use Rattle.binary.proofs.Xor.{xor-zero, is_xor}
use Rattle.binary.specs.Product.{product}
use Rattle.binary.proofs.Product.{product-zero}
use Rattle.galois.specs.Field.{Field}
use Rattle.galois.specs.Polynomial.{value, Coeffs, sums, without_root, shifted, with_root}
use Rattle.galois.proofs.Polynomial.{value_lt, coeff_at, coeffs_drop}
use Rattle.galois.proofs.Padding.{coeffs_pad}
use Rattle.galois.proofs.Divide.{sums_head, without_root_coeffs, with_root_coeffs}
use Rattle.roots.proofs.Entries.{five_entries, put_end}

pub record Dividing (p r : ℕ) (f out : List ℕ) (i : ℕ) : Type 0 where
  pub within : i < length f
  pub long : length out ≡ length f
  pub done : drop i out ≡ sums p r (drop i f)

sums_one : (p r c : ℕ) → sums p r (c ∷ []) ≡ c ∷ []
unfolding sums value
sums_one p r c = ap (λ (v : ℕ). v ∷ []) (ap (λ (v : ℕ). c ⊕ v) (product-zero p r) ∙ xor-zero c)

dividing_value : (p r : ℕ) (f out : List ℕ) (i : ℕ) → Dividing p r f out i → get_or out i 0 ≡ value p (drop i f) r
dividing_value p r f out i g =
    let z : i + 0 ≡ i = omega arith in
    sym (get_or-drop i out 0 0 ∙ ap (λ (k : ℕ). get_or out k 0) z) ∙ ap (λ (l : List ℕ). get_or l 0 0) g.done ∙ sums_head p r (drop i f)

-- the highest coefficient stays
pub dividing_start : (p r : ℕ) (f : List ℕ) (i : ℕ) → suc i ≡ length f → Dividing p r f f i
dividing_start p r f i e =
    let here : i < length f = omega arith in
    let one : drop i f ≡ get_or f i 0 ∷ [] = drop-cons f i 0 here ∙ ap (λ (k : ℕ). get_or f i 0 ∷ drop k f) e ∙ ap (λ (l : List ℕ). get_or f i 0 ∷ l) (drop-length f) in
    record { within = here; long = refl; done = one ∙ sym (ap (sums p r) one ∙ sums_one p r (get_or f i 0)) }

-- what has been written is an element
pub dividing_lt : (m p : ℕ) → Field m p → (r : ℕ) (f out : List ℕ) (i : ℕ) → Coeffs m f → Dividing p r f out i → get_or out i 0 < 2 ^ m
dividing_lt m p F r f out i h g = rw (dividing_value p r f out i g) (value_lt m p F (drop i f) r (coeffs_drop m f i h))

pub dividing_next : (p r : ℕ) (f out : List ℕ) (i j w : ℕ) → i ≡ suc j → w ≡ product p r (get_or out i 0) → Dividing p r f out i
    → Dividing p r f (set out j (bit_xor (get_or f j 0) w)) j
unfolding sums value
dividing_next p r f out i j w e q g =
    let v = bit_xor (get_or f j 0) w in
    let here : j < length out = omega (arith, g.within, g.long) in
    record {
      within = omega (arith, g.within);
      long = length-set out j v ∙ g.long;
      done = put_before out (sums p r (drop (suc j) f)) j v here (rw e at g.done)
          ∙ ap (λ (u : ℕ). u ∷ sums p r (drop (suc j) f))
          (sym (is_xor (get_or f j 0) w) ∙ ap (λ (u : ℕ). get_or f j 0 ⊕ u)
          (q ∙ ap (product p r) (dividing_value p r f out i g ∙ ap (λ (k : ℕ). value p (drop k f) r) e)))
          ∙ sym (ap (sums p r) (drop-cons f j 0 (omega (arith, g.within))));
    }

-- all of it is done: what is left over is the value, and the others are the quotient
module _ (p r : ℕ) (f out : List ℕ) (i : ℕ) (z : i ≤ 0) (g : Dividing p r f out i) where
  all_sums : out ≡ sums p r f
  all_sums = let e : i ≡ 0 = omega arith in (rw e at g.done)

  pub left_over : get_or out 0 0 ≡ value p f r
  left_over = ap (λ (l : List ℕ). get_or l 0 0) all_sums ∙ sums_head p r f

  quotient_of_sums : (l : List ℕ) → drop 1 (sums p r l) ≡ without_root p r l
  unfolding sums without_root
  quotient_of_sums [] = refl
  quotient_of_sums (c ∷ l) = refl

  pub quotient_lem : length out ≡ 5 → get_or out 1 0 ∷ get_or out 2 0 ∷ get_or out 3 0 ∷ get_or out 4 0 ∷ 0 ∷ [] ≡ without_root p r f ++ 0 ∷ []
  quotient_lem five =
      ap (λ (l : List ℕ). drop 1 l ++ 0 ∷ []) (sym (five_entries out five) ∙ all_sums)
      ∙ ap (λ (l : List ℕ). l ++ 0 ∷ []) (quotient_of_sums f)

  pub quotient_small : (m : ℕ) → Field m p → Coeffs m f → length out ≡ 5
      → (j : ℕ) → get_or (get_or out 1 0 ∷ get_or out 2 0 ∷ get_or out 3 0 ∷ get_or out 4 0 ∷ 0 ∷ []) j 0 < 2 ^ m
  quotient_small m F h five j =
      subst (λ (l : List ℕ). get_or l j 0 < 2 ^ m) (sym (quotient_lem five))
      (coeff_at m (without_root p r f ++ 0 ∷ []) j (coeffs_pad m (without_root p r f) 1 (without_root_coeffs m p F r f h)))

-- ---- the product with x + a

pub record Raising (p a : ℕ) (f out : List ℕ) (below i : ℕ) : Type 0 where
  pub within : i ≤ length f
  pub long : length out ≡ length f
  pub whole : take i out ++ shifted p a below (drop i out) ≡ with_root p a f
  pub rest : (j : ℕ) → i ≤ j → get_or out j 0 ≡ get_or f j 0

pub raising_start : (p a : ℕ) (f : List ℕ) → Raising p a f f 0 0
unfolding with_root
raising_start p a f = record { within = omega arith; long = refl; whole = refl; rest = λ j l. refl }

module _ (p a : ℕ) (f out : List ℕ) (below i : ℕ) (g : Raising p a f out below i) where
  pub raising_next : (w : ℕ) → i < length f → w ≡ product p a (get_or out i 0)
      → Raising p a f (set out i (bit_xor below w)) (get_or out i 0) (i + 1)
  unfolding shifted
  raising_next w l q =
      let v = bit_xor below w in
      let e : v ≡ below ⊕ product p a (get_or out i 0) = sym (is_xor below w) ∙ ap (λ (u : ℕ). below ⊕ u) q in
      let here : i < length out = omega (arith, g.long) in
      let s : i + 1 ≡ suc i = omega arith in
      record {
        within = omega arith;
        long = length-set out i v ∙ g.long;
        whole = rw (s, drop-set-lt (suc i) out i v (omega arith))
            (put_next out (shifted p a (get_or out i 0) (drop (suc i) out)) _ i v here
            (rw e (rw (drop-cons out i 0 here) at g.whole)));
        rest = λ j h. get_or-set_other out i j v 0 (λ q. absurd (omega arith)) ∙ g.rest j (omega arith);
      }

  -- the last one goes after those that are done
  pub raising_end : (all : List ℕ) (n : ℕ) → n < length all → f ≡ take n all → length f ≡ n → n ≤ i
      → set (out ++ drop n all) n below ≡ with_root p a (take n all) ++ drop (suc n) all
  unfolding shifted
  raising_end all n room s k l =
      let e : i ≡ length out = omega (arith, g.within, g.long) in
      let done : out ++ below ∷ [] ≡ with_root p a f =
      sym (ap₂ (λ (s t : List ℕ). s ++ shifted p a below t) (take_all (length out) out (omega arith)) (drop-length out)) ∙ (rw e at g.whole) in
      put_end out all (with_root p a (take n all)) n below room (g.long ∙ k) (done ∙ ap (with_root p a) s)

pub raised_small : (m p : ℕ) → Field m p → (a : ℕ) (all : List ℕ) (n : ℕ) → Coeffs m all → (out : List ℕ)
    → out ≡ with_root p a (take n all) ++ drop (suc n) all → (j : ℕ) → get_or out j 0 < 2 ^ m
raised_small m p F a all n h out e j =
    subst (λ (l : List ℕ). get_or l j 0 < 2 ^ m) (sym e)
    (coeff_at m (with_root p a (take n all) ++ drop (suc n) all) j
    (both (with_root p a (take n all)) (drop (suc n) all) (with_root_coeffs m p F a (take n all) (front n all h)) (coeffs_drop m all (suc n) h)))
  where
    both : (f g : List ℕ) → Coeffs m f → Coeffs m g → Coeffs m (f ++ g)
    both [] g h k = k
    both (c ∷ f) g h k = (h.0, both f g h.1 k)

    front : (n : ℕ) (f : List ℕ) → Coeffs m f → Coeffs m (take n f)
    front zero f h = tt
    front (suc n) [] h = tt
    front (suc n) (c ∷ f) h = (h.0, front n f h.1)
