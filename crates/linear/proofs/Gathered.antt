-- Directions gathered into the code's places, one column after another: they are the definition's list, and 0 after it. Assumes nothing.
use mathlib.Core.Path.{◌≡◌, refl, sym, ap, ap₂, ◌∙◌}
use mathlib.Core.Bool.{Bool, true, false, not}
use mathlib.Core.List.{List, [], ◌∷◌, ◌++◌, append_assoc, append-nil}
use Prim.Native.Nat.{ℕ, suc, ◌+◌, ◌-◌, ◌≤◌, ◌<◌}
use native.Mathlib.Omega.{arith}
use lib.ListN.{length, set, replicate, length-append}
use lib.Seq.{set_at}
use Rattle.linear.specs.Elimination.{State}
use Rattle.linear.specs.Limits.{places}
use Rattle.linear.specs.Directions.{in_front}
use Rattle.linear.specs.Reading.{taken, free_direction, free_directions}
use Rattle.linear.specs.Solution.{placed, some_solutions}

-- one more at the end, in place of the first 0
push : (ds : List ℕ) (v : ℕ) → length ds < places → set (placed ds) (length ds) v ≡ placed (ds ++ (v ∷ []))
unfolding placed
push ds v h =
    let q : places - length ds ≡ suc (places - 1 - length ds) = omega arith in
    let r : places - length (ds ++ (v ∷ [])) ≡ places - 1 - length ds = omega (arith, length-append ds (v ∷ [])) in
    rw (q, r)
    (set_at ds 0 (replicate (places - 1 - length ds) 0) v (length ds) refl
    ∙ sym (append_assoc ds (v ∷ []) (replicate (places - 1 - length ds) 0)))

-- after the columns below t: what is held, followed by what is still to come, is the whole
pub record Gathered (s : State) (m t : ℕ) (list : List ℕ) (count : ℕ) : Type 0 where
  pub held : List ℕ
  pub within : t ≤ m
  pub few : length held ≤ t
  pub count_is : count ≡ length held
  pub list_is : list ≡ placed held
  pub whole : held ++ free_directions s (m - t) t ≡ free_directions s m 0

pub gathered_start : (s : State) (m : ℕ) → Gathered s m 0 (replicate places 0) 0
unfolding placed
gathered_start s m =
    record {
      held = [];
      within = omega arith;
      few = omega arith;
      count_is = refl;
      list_is = refl;
      whole = ap (λ (j : ℕ). free_directions s j 0) (omega arith);
    }

module _ (s : State) (m t : ℕ) (list : List ℕ) (count : ℕ) (lt : t < m) (g : Gathered s m t list count) where
  rest : (b : Bool) → taken s t ≡ b → free_directions s (m - t) t ≡ in_front (not b) (free_direction s t) (free_directions s (m - (t + 1)) (t + 1))
  unfolding free_directions
  rest b e =
      let left : m - t ≡ suc (m - (t + 1)) = omega arith in
      let one : suc t ≡ t + 1 = omega arith in
      ap (λ (j : ℕ). free_directions s j t) left
      ∙ ap₂ (λ (x : Bool) (j : ℕ). in_front (not x) (free_direction s t) (free_directions s (m - (t + 1)) j)) e one

  pub gathered_skip : taken s t ≡ true → Gathered s m (t + 1) list count
  unfolding in_front
  gathered_skip e =
      record {
        held = g.held;
        within = omega arith;
        few = omega (arith, g.few);
        count_is = g.count_is;
        list_is = g.list_is;
        whole = ap (λ (l : List ℕ). g.held ++ l) (sym (rest true e)) ∙ g.whole;
      }

  pub gathered_push : (v : ℕ) → taken s t ≡ false → m ≤ places → v ≡ free_direction s t → Gathered s m (t + 1) (set list count v) (count + 1)
  unfolding in_front
  gathered_push v e fits q =
      let d = free_direction s t in
      let long = length-append g.held (free_direction s t ∷ []) in
      record {
        held = g.held ++ (d ∷ []);
        within = omega arith;
        few = omega (arith, g.few, long);
        count_is = omega (arith, g.count_is, long);
        list_is = (λ i. set (g.list_is i) (g.count_is i) (q i)) ∙ push g.held d (omega (arith, g.few));
        whole = append_assoc g.held (d ∷ []) (free_directions s (m - (t + 1)) (t + 1))
            ∙ ap (λ (l : List ℕ). g.held ++ l) (sym (rest false e)) ∙ g.whole;
      }

gathered_end : (s : State) (m t : ℕ) (list : List ℕ) (count : ℕ) → m ≤ t → (g : Gathered s m t list count) → g.held ≡ free_directions s m 0
unfolding free_directions
gathered_end s m t list count h g =
    let z : m - t ≡ 0 = omega arith in
    sym (append-nil g.held) ∙ ap (λ (j : ℕ). g.held ++ free_directions s j t) (sym z) ∙ g.whole

-- what the code hands back
pub gathered_solutions : (s : State) (m t : ℕ) (list : List ℕ) (count b w : ℕ) → m ≤ t → Gathered s m t list count → b ≡ w
    → record { base = b; count = count; directions = list } ≡ some_solutions w (free_directions s m 0)
unfolding some_solutions
gathered_solutions s m t list count b w h g e =
    let f = gathered_end s m t list count h g in
    λ i. record {
      base = e i;
      count = (g.count_is ∙ ap length f) i;
      directions = (g.list_is ∙ ap placed f) i;
    }
