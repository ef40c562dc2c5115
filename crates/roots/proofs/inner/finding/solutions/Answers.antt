-- `solutions` meets its contract. Assumes nothing.
use Rattle.std.proofs.Common.{◌∙◌, arith}
use Rattle.linear.specs.Values.{solutions}
use Rattle.roots.proofs.ShortLists.{placed_entries}
use Rattle.roots.proofs.Spaces.{no_solutions, solutions_few, solutions_are}
use Rattle.roots.proofs.inner.finding.solutions.Goals as goal

pub returns-in_default : goal.returns-in_default
returns-in_default c = placed_entries _ _ c.empty.ensures ∙ no_solutions _ _ _ _ _ _ c.requires c.in_default.ensures

pub invariant_of-result : goal.invariant_of-result
invariant_of-result c =
    let l = solutions_few _ _ _ _ _ _ c.requires (solutions c.in-Some.space) c.in-Some.ensures in
    record { few = omega (arith, c.size.ensures) }

pub returns : goal.returns
returns c = solutions_are _ _ _ _ _ _ c.requires (solutions c.in-Some.space) c.in-Some.ensures _ c.size.ensures
