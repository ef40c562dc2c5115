-- The number and the values that each case of each answer stands for (01, "Numbers a call is turned down by"). Assumes nothing.
use Rattle.std.specs.Prelude.{ℕ, List, Result, Ok, Err}
use Rattle.field.specs.Refusal.{gives}
use Rattle.field.specs.declared.refused.Refusal.{Refusal}
use Rattle.field.specs.Answers.{number_of, of_value}
use Rattle.roots.specs.Calls.{Answer, Built, refused_built}
use Rattle.roots.specs.declared.RootsAnswer.{RootsAnswer}

abbrev pub of_roots : RootsAnswer → Answer
of_roots a = record { says = of_value a.count; roots = a.roots; multiplicities = a.multiplicities }

abbrev pub of_built : Result (List ℕ) Refusal → Built
of_built (Ok cs) = record { says = gives tt; coefficients = cs }
of_built (Err r) = refused_built (number_of r)
