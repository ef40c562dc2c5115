-- A short list whose numbers are changed one a turn (`changing_none`, `changing_put`, `changing_end`), and what it then holds
-- (`changed_entries`, `changed_placed`). Assumes nothing.
use Rattle.std.proofs.Common.{◌≡◌, refl, sym, ap, ◌∙◌, subst, arith, ℕ, ◌+◌, ◌-◌, ◌≤◌, ◌<◌, List, ◌++◌, length, get_or, take, drop, map, below_more}
use Rattle.std.proofs.lemmas.List.{get_or-append_right, get_or-drop}
use native.Mathlib.Decide.{dec_lt}
use lib.ListN.{set, length-set, length-map, get_or-append, get_or-eq_default}
use lib.Seq.{ext_get_or, take_at, get_or-set_same, get_or-set_other, length-take-le, get_or-take}
use Rattle.roots.specs.Limits.{most_roots}
use Rattle.algebra.specs.Lists.{padded}
use Rattle.algebra.proofs.Places.{map_at, padded_at, padded-length}
use Rattle.roots.specs.ShortList.{entries, Placed, Changed}
use Rattle.roots.specs.declared.inner.short_list.ShortList.{ShortList}

-- the first i are changed, and the others as they were
pub record Changing (R : ℕ → ℕ → Type 0) (old now : List ℕ) (i : ℕ) : Type 0 where
  pub within : i ≤ length old
  pub long : length now ≡ length old
  pub each : (j : ℕ) → j < i → R (get_or old j 0) (get_or now j 0)
  pub rest : (j : ℕ) → i ≤ j → get_or now j 0 ≡ get_or old j 0

module _ (R : ℕ → ℕ → Type 0) (old : List ℕ) where
  pub changing_none : Changing R old old 0
  changing_none = record { within = omega arith; long = refl; each = λ j l. absurd (omega arith); rest = λ j l. refl }

  pub changing_put : (now : List ℕ) (i v : ℕ) → i < length old → R (get_or now i 0) v → Changing R old now i → Changing R old (set now i v) (i + 1)
  changing_put now i v l r C =
      record {
        within = omega arith;
        long = length-set now i v ∙ C.long;
        each = below_more (λ j. R (get_or old j 0) (get_or (set now i v) j 0)) i
            (λ j h. subst (R (get_or old j 0)) (sym (get_or-set_other now i j v 0 (λ q. absurd (omega arith)))) (C.each j h))
            (subst (R (get_or old i 0)) (sym (get_or-set_same now i v 0 (omega (arith, C.long)))) (subst (λ (x : ℕ). R x v) (C.rest i (omega arith)) r));
        rest = λ j h. get_or-set_other now i j v 0 (λ q. absurd (omega arith)) ∙ C.rest j (omega arith);
      }

-- all are, and the unused places stand after them
pub changing_end : (R : ℕ → ℕ → Type 0) (before after : ShortList) → length before.numbers ≡ most_roots → (now : List ℕ) (i : ℕ)
    → length (take before.count before.numbers) ≤ i → Changing R (take before.count before.numbers) now i
    → after.count ≡ before.count → after.numbers ≡ now ++ drop before.count before.numbers → Changed R before after
changing_end R before after long now i h C c n =
    let few = before.few in
    let k = length-take-le before.count before.numbers (omega (arith, few)) in
    record {
      count = c;
      each = λ j l.
          let at : get_or now j 0 ≡ get_or after.numbers j 0 =
          sym (ap (λ (xs : List ℕ). get_or xs j 0) n ∙ get_or-append now (drop before.count before.numbers) 0 j (omega (arith, C.long))) in
          subst (R (get_or before.numbers j 0)) at
          (subst (λ (x : ℕ). R x (get_or now j 0)) (get_or-take before.count before.numbers j 0 l) (C.each j (omega arith)));
      rest = λ j l.
          ap (λ (xs : List ℕ). get_or xs j 0) n
          ∙ get_or-append_right now (drop before.count before.numbers) before.count j 0 (C.long ∙ k) l
          ∙ get_or-drop before.count before.numbers (j - before.count) 0
          ∙ ap (λ (m : ℕ). get_or before.numbers m 0) (omega arith);
    }

pub placed_entries : (xs : List ℕ) (l : ShortList) → Placed xs l → entries l ≡ xs
placed_entries xs l P =
    ap (λ (n : ℕ). take n l.numbers) P.count ∙ ap (take (length xs)) P.numbers ∙ take_at xs _ (length xs) refl

-- where the change makes g of each number
module _ (R : ℕ → ℕ → Type 0) (g : ℕ → ℕ) (before after : ShortList) (long : length before.numbers ≡ most_roots)
    (same : length after.numbers ≡ most_roots) (C : Changed R before after)
    (is : (i y : ℕ) → i < before.count → R (get_or before.numbers i 0) y → y ≡ g (get_or before.numbers i 0)) where
  pub changed_entries : entries after ≡ map g (entries before)
  changed_entries =
      let few = before.few in
      let n = length-take-le before.count before.numbers (omega (arith, few)) in
      let k = length-take-le after.count after.numbers (omega (arith, few, C.count)) in
      ext_get_or 0 (entries after) (map g (entries before)) (k ∙ C.count ∙ sym (length-map (entries before) g ∙ n))
      (λ j l.
      let h : j < before.count = omega (arith, k, C.count) in
      get_or-take after.count after.numbers j 0 (omega (arith, C.count))
      ∙ is j (get_or after.numbers j 0) h (C.each j h)
      ∙ sym (map_at g (entries before) j (omega arith) ∙ ap g (get_or-take before.count before.numbers j 0 h)))

  pub changed_placed : (xs : List ℕ) → Placed xs before → Placed (map g xs) after
  changed_placed xs P =
      let few = before.few in
      let n = length-map xs g in
      record {
        count = C.count ∙ P.count ∙ sym n;
        numbers = ext_get_or 0 after.numbers (padded most_roots (map g xs))
            (same ∙ sym (padded-length most_roots (map g xs) (omega (arith, few, P.count))))
            (λ j l. at j (dec_lt j before.count) ∙ sym (padded_at most_roots (map g xs) j));
      }
    where
      old : (j : ℕ) → get_or before.numbers j 0 ≡ get_or xs j 0
      old j = ap (λ (l : List ℕ). get_or l j 0) P.numbers ∙ padded_at most_roots xs j

      at : (j : ℕ) → Dec (j < before.count) → get_or after.numbers j 0 ≡ get_or (map g xs) j 0
      at j (yes h) = is j (get_or after.numbers j 0) h (C.each j h) ∙ ap g (old j) ∙ sym (map_at g xs j (omega (arith, P.count)))
      at j (no h) =
          C.rest j (omega arith) ∙ old j ∙ get_or-eq_default xs 0 (omega (arith, P.count))
          ∙ sym (get_or-eq_default (map g xs) 0 (let n = length-map xs g in omega (arith, P.count)))
