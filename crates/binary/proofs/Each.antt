-- What the closure is called with that `map` of an array takes: the entries in turn (`called_at_each`). Assumes nothing.
use Rattle.std.proofs.Common.{◌≡◌, ℕ, ◌<◌, List, [], ◌∷◌, length, get_or, refl, ◌∙◌, arith}
use Rattle.std.specs.Array.{list_steps}
use Rattle.std.specs.Iterator.{Yields, CallableAtEachTurn}

next_is : (xs ys t u : List ℕ) (x : ℕ) → Yields list_steps xs ys t → t ≡ x ∷ u → (length ys < length xs) × (get_or xs (length ys) 0 ≡ x)
next_is xs [] t u x e z = let q = e ∙ z in rw q (omega arith, refl)
next_is xs (y ∷ ys) t u x (j, e, r) z =
    let w = next_is j ys t u x r z in
    rw e (omega (arith, w.0), w.1)

pub called_at_each : {P : Type 0} {R : P → ℕ → P → Type 0} {Q : P → ℕ → Type 0} {xs : List ℕ} {p : P} → ((i : ℕ) (q : P) → i < length xs → Q q (get_or xs i 0))
    → CallableAtEachTurn list_steps R Q xs p
called_at_each {P} {R} {Q} {xs} {p} h =
    record {
      at = λ ys t q x u y c z.
          let w = next_is xs ys t u x y z in
          rw w.1 at (h (length ys) q w.0);
    }
