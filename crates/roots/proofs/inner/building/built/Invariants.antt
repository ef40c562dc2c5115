-- `built` meets its contract: the roots from place i on are in. Assumes nothing.
use Rattle.std.proofs.Common.{◌≡◌}
use Rattle.roots.proofs.FromRoots.{Built}
use Rattle.roots.proofs.inner.building.built.Given as goal

abbrev pub invariant-loop-i : goal.invariant-loop-i
invariant-loop-i l = (l.f.field ≡ l.fn.field) × Built l.fn.field.polynomial l.roots l.f.coefficients l.i
