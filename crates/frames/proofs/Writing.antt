-- Text stored into a lent list, piece after piece (`put_then`, `put_next`) with a character after it (`put_last`); a list that grows piece by
-- piece (`grown`); and lengths (`text-length`, `text-append`, `up_to_length`). Assumes nothing.
use mathlib.Core.Path.{◌≡◌, refl, sym, ap, ap₂, ◌∙◌}
use mathlib.Core.List.{List, [], ◌∷◌, ◌++◌, append_assoc}
use Prim.Native.Nat.{ℕ, zero, suc, ◌+◌, ◌*◌, ◌/◌, ◌%◌, ◌<◌}
use native.Mathlib.Nat.{mul-suc}
use native.Mathlib.Omega.{arith}
use lib.ListN.{length, get_or, set, take, length-append}
use lib.Seq.{sets, take-suc, length-take-le}
use Rattle.frames.specs.Text.{capital, digits, text, up_to, put_bytes}

-- and then more right after them
pub sets_then : (out xs ys : List ℕ) (i k : ℕ) → k ≡ i + length xs → sets (sets out i xs) k ys ≡ sets out i (xs ++ ys)
sets_then out [] ys i k e = ap (λ (n : ℕ). sets out n ys) (e ∙ omega arith)
sets_then out (x ∷ xs) ys i k e = sets_then (set out i x) xs ys (suc i) k (e ∙ omega arith)

pub text-append : (xs ys : List ℕ) → text (xs ++ ys) ≡ text xs ++ text ys
text-append [] ys = refl
text-append (x ∷ xs) ys = ap (λ (t : List ℕ). digits x ++ t) (text-append xs ys)

pub text-length : (xs : List ℕ) → length (text xs) ≡ 2 * length xs
text-length [] = refl
text-length (x ∷ xs) = ap (λ (n : ℕ). suc (suc n)) (text-length xs) ∙ omega arith

put_both : (out xs ys : List ℕ) (j k : ℕ) → k ≡ j + length xs → put_bytes (put_bytes out j xs) k ys ≡ put_bytes out j (xs ++ ys)
unfolding put_bytes
put_both out xs ys j k e =
    sets_then out (text xs) (text ys) (2 * j) (2 * k) (omega (arith, text-length xs, e))
    ∙ ap (sets out (2 * j)) (sym (text-append xs ys))

-- a piece, and then another right after it
pub put_then : (out xs ys : List ℕ) (j k : ℕ) {mid end : List ℕ} → mid ≡ put_bytes out j xs → end ≡ put_bytes mid k ys → k ≡ j + length xs
    → end ≡ put_bytes out j (xs ++ ys)
put_then out xs ys j k e f q = f ∙ ap (λ (l : List ℕ). put_bytes l k ys) e ∙ put_both out xs ys j k q

pub put_none : (out : List ℕ) (j : ℕ) → out ≡ put_bytes out j []
unfolding put_bytes
put_none out j = refl

-- pieces of the same length
pub up_to_length : (f : ℕ → List ℕ) (n k : ℕ) → ((i : ℕ) → length (f i) ≡ n) → length (up_to f k) ≡ n * k
up_to_length f n zero h = omega arith
up_to_length f n (suc k) h = length-append (up_to f k) (f k) ∙ ap₂ ◌+◌ (up_to_length f n k h) (h k) ∙ sym (mul-suc n k)

-- all of it, as text
pub put_text : (out xs : List ℕ) {end : List ℕ} → end ≡ put_bytes out 0 xs → end ≡ sets out 0 (text xs)
unfolding put_bytes
put_text out xs e = e

-- and a character after a text
pub put_last : (out t : List ℕ) (n c : ℕ) {end : List ℕ} → n ≡ length t → end ≡ sets out 0 t → set end n c ≡ sets out 0 (t ++ c ∷ [])
put_last out t n c e f = ap (λ (l : List ℕ). set l n c) f ∙ sets_then out t (c ∷ []) 0 n (e ∙ omega arith)

-- a byte's two digits, one after the other
pub put_digits : (out : List ℕ) (j v a b : ℕ) → a ≡ capital (v / 16 % 16) → b ≡ capital (v % 16)
    → set (set out (2 * j) a) (2 * j + 1) b ≡ put_bytes out j (v ∷ [])
unfolding put_bytes
put_digits out j v a b e f =
    let next : 2 * j + 1 ≡ suc (2 * j) = omega arith in
    ap (λ (k : ℕ). set (set out (2 * j) a) k b) next
    ∙ ap₂ (λ (x y : ℕ). set (set out (2 * j) x) (suc (2 * j)) y) e f

-- and so the first i bytes of a list become the first i + 1
pub put_next : (out vs : List ℕ) (i a b : ℕ) {now : List ℕ} → i < length vs → now ≡ put_bytes out 0 (take i vs) → a ≡ capital (get_or vs i 0 / 16 % 16)
    → b ≡ capital (get_or vs i 0 % 16) → set (set now (2 * i) a) (2 * i + 1) b ≡ put_bytes out 0 (take (i + 1) vs)
put_next out vs i a b {now} h e f g =
    let next : suc i ≡ i + 1 = omega arith in
    let v = get_or vs i 0 in
    put_then out (take i vs) (v ∷ []) 0 i e (put_digits now i v a b f g) (omega (arith, length-take-le i vs))
    ∙ ap (put_bytes out 0) (sym (take-suc vs i 0 h) ∙ ap (λ (d : ℕ). take d vs) next)

-- one piece more
pub put_more : (out : List ℕ) (f : ℕ → List ℕ) (n j i k : ℕ) {mid end : List ℕ} → ((i : ℕ) → length (f i) ≡ n) → mid ≡ put_bytes out j (up_to f i)
    → end ≡ put_bytes mid k (f i) → k ≡ j + n * i → end ≡ put_bytes out j (up_to f (i + 1))
put_more out f n j i k h e g q =
    let next : suc i ≡ i + 1 = omega arith in
    put_then out (up_to f i) (f i) j k e g (q ∙ ap (λ (d : ℕ). j + d) (sym (up_to_length f n i h)))
    ∙ ap (λ (d : ℕ). put_bytes out j (up_to f d)) next

-- a list that grows by one piece more
pub grown : (out : List ℕ) (f : ℕ → List ℕ) (i : ℕ) {mid end : List ℕ} → mid ≡ out ++ up_to f i → end ≡ mid ++ f i → end ≡ out ++ up_to f (i + 1)
grown out f i e g =
    let next : suc i ≡ i + 1 = omega arith in
    g ∙ ap (λ (l : List ℕ). l ++ f i) e ∙ append_assoc out (up_to f i) (f i) ∙ ap (λ (d : ℕ). out ++ up_to f d) next
