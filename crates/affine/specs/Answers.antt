-- What an answer says: the number that it was turned down by, or its values. Assumes nothing.
use Rattle.std.specs.Prelude.{Result, Ok, Err, Option, Some, None, true, false, replicate}
use Rattle.field.specs.Refusal.{gives}
use Rattle.field.specs.declared.refused.Refusal.{Refusal}
use Rattle.field.specs.Answers.{number_of}
use Rattle.linear.specs.Limits.{places}
use Rattle.affine.specs.Calls.{Answer, refused_answer}
use Rattle.affine.specs.declared.space.RootSpace.{RootSpace}

-- "with no root: k, base and all directions are 0"
abbrev pub no_root : Answer
no_root = record { says = gives (record { found = false; dimension = 0 }); base = 0; directions = replicate places 0 }

abbrev pub of_roots : Option RootSpace → Answer
of_roots (Some s) = record { says = gives (record { found = true; dimension = s.dimension }); base = s.base.0; directions = s.directions }
of_roots None = no_root

abbrev pub of_affine : Result (Option RootSpace) Refusal → Answer
of_affine (Ok r) = of_roots r
of_affine (Err r) = refused_answer (number_of r)
