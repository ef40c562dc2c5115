-- The calls with more than one list: from the answer of the library's own call to the number and the lists (`roots_down`, `roots_found`, and the
-- like for what was built and for affine equations). Assumes nothing.
use mathlib.Core.Path.{◌≡◌, sym, ap, ◌∙◌, subst}
use mathlib.Core.Bool.{Bool}
use mathlib.Core.List.{List}
use Prim.Native.Nat.{ℕ}
use Rattle.field.specs.Refusal.{Outcome, turned_down}
use Rattle.roots.specs.Calls as roots
use Rattle.std.specs.Prelude.{Result, Option}
use Rattle.field.specs.declared.refused.Refusal.{Refusal}
use Rattle.field.specs.Answers.{of_value}
use Rattle.roots.specs.Answers.{of_roots, of_built}
use Rattle.roots.specs.declared.RootsAnswer.{RootsAnswer}
use Rattle.affine.specs.Calls as affine
use Rattle.affine.specs.Answers.{of_affine}
use Rattle.affine.specs.declared.space.RootSpace.{RootSpace}
use Rattle.firmware.specs.Lent.{returned, after, value_of, space_values, Refuses}
use Rattle.firmware.proofs.Room.{kept}

-- turned down by n, whatever room there is
down : {A : Type 0} (o : Outcome A) (n : ℕ) (room : Bool) → turned_down n ≡ o → n ≡ returned o room
down {A} o n room e = ap (λ (q : Outcome A). returned q room) e

not_0 : {A : Type 0} (o : Outcome A) (n : ℕ) → turned_down n ≡ o → Refuses o → n ≡ 0 → ⊥
not_0 {A} o n e R = subst (λ (q : Outcome A). Refuses q) (sym e) R

-- what a call for the roots of an equation leaves: its number, and the three lists
abbrev pub RootsLeft : roots.Answer → Bool → ℕ → List ℕ → List ℕ → List ℕ → List ℕ → List ℕ → List ℕ → Type 0
RootsLeft a room r count found often count₀ found₀ often₀ =
    (r ≡ returned a.says room) × ((count ≡ after r (value_of a.says) count₀) × ((found ≡ after r a.roots found₀) × (often ≡ after r a.multiplicities often₀)))

pub roots_down : (a : roots.Answer) (room : Bool) (n : ℕ) (count found often : List ℕ) → turned_down n ≡ a.says → Refuses a.says
    → RootsLeft a room n count found often count found often
roots_down a room n count found often e R =
    let d = not_0 a.says n e R in
    (down a.says n room e, (kept n (value_of a.says) count d, (kept n a.roots found d, kept n a.multiplicities often d)))

pub roots_found : (said : RootsAnswer) (count : Result ℕ Refusal) (a : roots.Answer) (room : Bool) (r : ℕ) (number found often number₀ found₀ often₀ : List ℕ)
    → said.count ≡ count → of_roots said ≡ a
    → RootsLeft (record { says = of_value count; roots = said.roots; multiplicities = said.multiplicities }) room r number found often number₀ found₀ often₀
    → RootsLeft a room r number found often number₀ found₀ often₀
roots_found said count a room r number found often number₀ found₀ often₀ e q h =
    subst (λ (b : roots.Answer). RootsLeft b room r number found often number₀ found₀ often₀)
    (ap (λ (k : Result ℕ Refusal). record { says = of_value k; roots = said.roots; multiplicities = said.multiplicities }) (sym e) ∙ q) h

-- a call that builds: its number and its list
abbrev pub BuiltLeft : roots.Built → Bool → ℕ → List ℕ → List ℕ → Type 0
BuiltLeft a room r list list₀ = (r ≡ returned a.says room) × (list ≡ after r a.coefficients list₀)

pub built_down : (a : roots.Built) (room : Bool) (n : ℕ) (list : List ℕ) → turned_down n ≡ a.says → Refuses a.says → BuiltLeft a room n list list
built_down a room n list e R = (down a.says n room e, kept n a.coefficients list (not_0 a.says n e R))

pub built_found : (said : Result (List ℕ) Refusal) (a : roots.Built) (room : Bool) (r : ℕ) (list list₀ : List ℕ) → of_built said ≡ a
    → BuiltLeft (of_built said) room r list list₀ → BuiltLeft a room r list list₀
built_found said a room r list list₀ q h = subst (λ (b : roots.Built). BuiltLeft b room r list list₀) q h

-- a call for an affine equation: its number and its two lists
abbrev pub SpaceLeft : affine.Answer → Bool → ℕ → List ℕ → List ℕ → List ℕ → List ℕ → Type 0
SpaceLeft a room r space steps space₀ steps₀ =
    (r ≡ returned a.says room) × ((space ≡ after r (space_values a.says a.base) space₀) × (steps ≡ after r a.directions steps₀))

pub space_down : (a : affine.Answer) (room : Bool) (n : ℕ) (space steps : List ℕ) → turned_down n ≡ a.says → Refuses a.says
    → SpaceLeft a room n space steps space steps
space_down a room n space steps e R =
    let d = not_0 a.says n e R in
    (down a.says n room e, (kept n (space_values a.says a.base) space d, kept n a.directions steps d))

pub space_found : (said : Result (Option RootSpace) Refusal) (a : affine.Answer) (room : Bool) (r : ℕ) (space steps space₀ steps₀ : List ℕ) → of_affine said ≡ a
    → SpaceLeft (of_affine said) room r space steps space₀ steps₀ → SpaceLeft a room r space steps space₀ steps₀
space_found said a room r space steps space₀ steps₀ q h =
    subst (λ (b : affine.Answer). SpaceLeft b room r space steps space₀ steps₀) q h
