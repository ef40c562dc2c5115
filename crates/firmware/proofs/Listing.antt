-- The listing: with no place for the count it is turned down as the solver is, or by 7 (`without_same`, `without_not_0`); what stands in the list where
-- it is turned down (`listed_down`) and where it is not (`listed`). Assumes nothing.
use mathlib.Core.Path.{◌≡◌, refl, sym, ap, ◌∙◌, subst}
use mathlib.Core.Logic.{◌≢◌}
use mathlib.Core.Bool.{Bool, true, false}
use mathlib.Core.List.{List, [], ◌∷◌, ◌++◌}
use Prim.Native.Nat.{ℕ, zero, suc, ◌^◌}
use native.Mathlib.Omega.{arith}
use lib.Dec.{ltb}
use lib.ListN.{length, drop}
use Rattle.algebra.specs.Search.{some_below}
use Rattle.binary.specs.Factor.{degree_of}
use Rattle.field.specs.Refusal.{◌⇒◌, refusal, Outcome, turned_down, gives, answer_by, outcome}
use Rattle.field.proofs.Tests.{refusal_kept, refusal-append}
use Rattle.affine.specs.Equation.{is_root, all_roots, base_of, directions_of}
use Rattle.affine.specs.Calls.{equation_tests, solution, refused_answer, solve_answer, listing_tests, listing_outcome, listing_after}
use Rattle.firmware.specs.Lent.{returned, after, Refuses}
use Rattle.firmware.proofs.Room.{kept}

pub without_not_0 : {A : Type 0} (o : Outcome A) → Refuses o → returned o false ≢ 0
without_not_0 (turned_down n) R = R
without_not_0 (gives v) R = λ e. omega (arith, e)

solved_7 : (b : Bool) (base : ℕ) (ds : List ℕ) → returned (solution b base ds).says false ≡ 7
solved_7 true base ds = refl
solved_7 false base ds = refl

last_7 : (b : Bool) (v : ℕ) → returned (outcome (b ⇒ 7 ∷ []) v) false ≡ 7
last_7 true v = refl
last_7 false v = refl

module _ (p : ℕ) (cs : List ℕ) where
  abbrev roots : List ℕ
  roots = all_roots (degree_of p) p cs

  abbrev found : Bool
  found = some_below (is_root p cs) (2 ^ degree_of p)

  abbrev said : ℕ → ℕ
  said k = returned (answer_by k refused_answer (solution found (base_of (degree_of p) p cs) (directions_of (degree_of p) p cs))).says false

  abbrev listed_by : ℕ → ℕ
  listed_by k = returned (answer_by k turned_down (gives (length roots))) false

  pub without_same : (room : ℕ) → returned (solve_answer p cs).says false ≡ returned (listing_outcome p cs room) false
  without_same room = go (refusal (equation_tests p cs)) refl
    where
      go : (k : ℕ) → refusal (equation_tests p cs) ≡ k → said (refusal (equation_tests p cs)) ≡ listed_by (refusal (listing_tests p cs room))
      go zero e =
          ap said e ∙ solved_7 found (base_of (degree_of p) p cs) (directions_of (degree_of p) p cs)
          ∙ sym (ap listed_by (refusal-append (equation_tests p cs) (ltb room (length roots) ⇒ 7 ∷ []) tt e) ∙ last_7 (ltb room (length roots)) (length roots))
      go (suc k) e =
          ap said e
          ∙ sym (ap listed_by (refusal_kept (equation_tests p cs) (ltb room (length roots) ⇒ 7 ∷ []) (λ z. omega (arith, e, z)) ∙ e))

  Down : Outcome ℕ → Type 0
  Down (turned_down n) = Unit {0}
  Down (gives v) = ⊥

  pub listed_down : (list : List ℕ) (n : ℕ) → turned_down n ≡ listing_outcome p cs (length list) → Refuses (listing_outcome p cs (length list))
      → listing_after p cs list ≡ after n roots list
  unfolding Down
  listed_down list n e R = go (refusal (listing_tests p cs (length list))) e
    where
      go : (k : ℕ) → turned_down n ≡ answer_by k turned_down (gives (length roots)) → answer_by k (λ (i : ℕ). list) (roots ++ drop (length roots) list) ≡ after n roots list
      go zero q = absurd (subst Down q tt)
      go (suc k) q = kept n roots list (subst Refuses (sym e) R)

  pub listed : (list : List ℕ) (n r : ℕ) → gives n ≡ listing_outcome p cs (length list) → r ≡ 0 → listing_after p cs list ≡ after r roots list
  unfolding Down
  listed list n r e z = go (refusal (listing_tests p cs (length list))) e
    where
      go : (k : ℕ) → gives n ≡ answer_by k turned_down (gives (length roots)) → answer_by k (λ (i : ℕ). list) (roots ++ drop (length roots) list) ≡ after r roots list
      go zero q = ap (λ (i : ℕ). after i roots list) (sym z)
      go (suc k) q = absurd (subst Down (sym q) tt)
