-- The entries of a list of five, one by one (`five_entries`), and of an equation by its kind; and a list whose front has been gone through
-- in place, with one number more after it (`put_end`). Assumes nothing.
use mathlib.Core.Path.{◌≡◌, refl, sym, ap, ◌∙◌}
use mathlib.Core.List.{List, [], ◌∷◌, ◌++◌}
use Prim.Native.Nat.{ℕ, suc, ◌+◌, ◌<◌}
use native.Mathlib.Omega.{arith}
use lib.Bits.{bit_or, or_add_and, and_le_l, and_le_r}
use lib.ListN.{length, get_or, set, drop, length-append, length-drop}
use lib.Seq.{drop-drop, take_at, drop_at}
use Rattle.algebra.proofs.Places.{put_last}
use Rattle.roots.specs.Equation.{quartic_of}

pub five_entries : (l : List ℕ) → length l ≡ 5 → l ≡ get_or l 0 0 ∷ get_or l 1 0 ∷ get_or l 2 0 ∷ get_or l 3 0 ∷ get_or l 4 0 ∷ []
five_entries [] h = absurd (omega arith)
five_entries (a ∷ []) h = absurd (omega arith)
five_entries (a ∷ b ∷ []) h = absurd (omega arith)
five_entries (a ∷ b ∷ c ∷ []) h = absurd (omega arith)
five_entries (a ∷ b ∷ c ∷ d ∷ []) h = absurd (omega arith)
five_entries (a ∷ b ∷ c ∷ d ∷ e ∷ []) h = refl
five_entries (a ∷ b ∷ c ∷ d ∷ e ∷ f ∷ l) h = absurd (omega arith)

-- two numbers without a bit between them
pub no_bits : (a b : ℕ) → bit_or a b ≡ 0 → (a ≡ 0) × (b ≡ 0)
no_bits a b e =
    let s = or_add_and a b in
    let l = and_le_l a b in
    let r = and_le_r a b in
    (omega arith, omega arith)

-- the entries of an equation by its kind
module _ (f : List ℕ) (h : length f ≡ 5) where
  pub as_cubic : get_or f 4 0 ≡ 0 → f ≡ get_or f 0 0 ∷ get_or f 1 0 ∷ get_or f 2 0 ∷ get_or f 3 0 ∷ 0 ∷ []
  as_cubic e = five_entries f h ∙ (λ i. get_or f 0 0 ∷ get_or f 1 0 ∷ get_or f 2 0 ∷ get_or f 3 0 ∷ e i ∷ [])

  pub as_affine : get_or f 3 0 ≡ 0 → f ≡ quartic_of (get_or f 0 0) (get_or f 1 0) (get_or f 2 0) (get_or f 4 0)
  as_affine e = five_entries f h ∙ (λ i. get_or f 0 0 ∷ get_or f 1 0 ∷ get_or f 2 0 ∷ e i ∷ get_or f 4 0 ∷ [])

  pub as_linear : get_or f 2 0 ≡ 0 → get_or f 3 0 ≡ 0 → get_or f 4 0 ≡ 0 → f ≡ get_or f 0 0 ∷ get_or f 1 0 ∷ 0 ∷ 0 ∷ 0 ∷ []
  as_linear a b c = five_entries f h ∙ (λ i. get_or f 0 0 ∷ get_or f 1 0 ∷ a i ∷ b i ∷ c i ∷ [])

  pub as_constant : get_or f 1 0 ≡ 0 → bit_or (get_or f 2 0) (get_or f 4 0) ≡ 0 → get_or f 3 0 ≡ 0 → f ≡ get_or f 0 0 ∷ 0 ∷ 0 ∷ 0 ∷ 0 ∷ []
  as_constant o e b =
      let both = no_bits (get_or f 2 0) (get_or f 4 0) e in
      as_linear both.0 b both.1 ∙ (λ i. get_or f 0 0 ∷ o i ∷ 0 ∷ 0 ∷ 0 ∷ [])

pub put_end : (now all w : List ℕ) (n v : ℕ) → n < length all → length now ≡ n → now ++ v ∷ [] ≡ w
    → set (now ++ drop n all) n v ≡ w ++ drop (suc n) all
put_end now all w n v room k done =
    let o : n + 1 ≡ suc n = omega arith in
    put_last (now ++ drop n all) w n v
    (let a = length-append now (drop n all) in let b = length-drop n all in omega arith)
    (ap (λ (t : List ℕ). t ++ v ∷ []) (take_at now (drop n all) n k) ∙ done)
    ∙ ap (λ (t : List ℕ). w ++ t)
    (sym (drop-drop 1 n (now ++ drop n all) ∙ ap (λ (j : ℕ). drop j (now ++ drop n all)) o)
    ∙ ap (drop 1) (drop_at now (drop n all) n k) ∙ drop-drop 1 n all ∙ ap (λ (j : ℕ). drop j all) o)
