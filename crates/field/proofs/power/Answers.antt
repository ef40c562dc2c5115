-- `power` meets its contract. Assumes nothing.
use Rattle.std.proofs.Common.{◌≡◌, ◌≢◌, refl, sym, ◌∙◌, ℕ, zero, suc, ◌<◌, arith, rules, eqb, eq-eqb, ne_eqb, Bool, true, false, ◌&&◌, ℤ, pos}
use Rattle.std.proofs.lemmas.Bool.{false≢true}
use mir.Syntax.{w32}
use mir.Val.{SFits}
use mir.Facts.{to_z-of_z}
use Rattle.std.specs.Int.Signed.{lt_z}
use Rattle.field.proofs.Answered.{element_in}
use Rattle.field.proofs.power.Goals.{Joined-else-a-eq0, else-a-eq0-via-then-a-eq0+else-e-lt0, else-a-eq0-via-else-a-eq0}
use Rattle.field.proofs.power.Goals as goal

-- the test of 0 to a negative exponent
negative : (a : ℕ) (e : ℤ) → a ≡ 0 → lt_z e (pos 0) ≡ true → (eqb a 0 && lt_z e (pos 0)) ≡ true
negative a e q n = rw (eq-eqb a 0 q, n)

other : (a : ℕ) (e : ℤ) → lt_z e (pos 0) ≡ false → (eqb a 0 && lt_z e (pos 0)) ≡ false
other a e n = rw n (both (eqb a 0))
  where
    both : (b : Bool) → (b && false) ≡ false
    both true = refl
    both false = refl

nonzero : (a : ℕ) (e : ℤ) → a ≢ 0 → (eqb a 0 && lt_z e (pos 0)) ≡ false
nonzero a e q = rw (ne_eqb a 0 q)

-- neither 0 nor to a negative exponent
passes : (c : Joined-else-a-eq0) → (eqb c.args.a.0 0 && lt_z c.args.e.0 (pos 0)) ≡ false
passes c =
    let a = c.args in
    let f : SFits w32 a.e.0 = search rules in
    elim c.else-a-eq0.branch [
      | else-a-eq0-via-then-a-eq0+else-e-lt0 w ↦ other a.a.0 a.e.0 (rw (to_z-of_z f) at w.if-e-lt0.false)
      | else-a-eq0-via-else-a-eq0 w ↦ nonzero a.a.0 a.e.0 w.if-a-eq0.false
    ]

above : (a : ℕ) (e : ℤ) → (eqb a 0 && lt_z e (pos 0)) ≡ false → lt_z e (pos 0) ≡ true → 0 < a
above zero e h n = absurd (false≢true (sym h ∙ n))
above (suc a) e h n = omega arith

pub power-requires : goal.power-requires
power-requires c =
    let a = c.args in
    let f : SFits w32 a.e.0 = search rules in
    (element_in a.p c.in_ok-field.field a.a.0 c.in_ok-field.ensures, λ n. above a.a.0 a.e.0 (passes c.before.before) (rw (to_z-of_z f) at n))
