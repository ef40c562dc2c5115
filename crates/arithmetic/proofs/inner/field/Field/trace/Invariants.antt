-- `trace` meets its contract. Assumes nothing.
use Rattle.std.proofs.Common.{◌≡◌, ℕ, ◌≤◌, ◌<◌, ◌^◌}
use Rattle.galois.specs.Power.{squares}
use Rattle.galois.specs.Trace.{part_trace}
use Rattle.arithmetic.proofs.inner.field.Field.trace.Given as goal

pub record Traced (m p c sum x k : ℕ) : Type 0 where
  pub turns : k ≤ m
  pub small : x < 2 ^ m
  pub now : x ≡ squares p k c
  pub so_far : sum ≡ part_trace p k c

abbrev pub invariant-loop : goal.invariant-loop
invariant-loop l = Traced l.self.degree l.self.polynomial l.c l.sum l.x l.counter
