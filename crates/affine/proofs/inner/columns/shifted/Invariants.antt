-- `shifted` meets its contract. Assumes nothing.
use mathlib.Core.Path.{◌≡◌}
use Prim.Native.Nat.{◌^◌, ◌≤◌, ◌<◌}
use Rattle.binary.specs.Product.{product}
use Rattle.galois.specs.Power.{power}
use Rattle.affine.proofs.inner.columns.shifted.Given as goal

abbrev pub invariant-loop : goal.invariant-loop
invariant-loop l = (l.counter ≤ l.fn.n) × (l.moved < 2 ^ l.field.degree) × (l.moved ≡ product l.field.polynomial l.t (power l.field.polynomial 2 l.counter))
