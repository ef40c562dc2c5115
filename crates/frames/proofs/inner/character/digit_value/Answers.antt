-- `digit_value` meets its contract. Assumes nothing.
use Rattle.std.proofs.Common.{◌∙◌, arith}
use Rattle.frames.proofs.Characters.{decimal, upper, lower, no_digit, inside, below, above}
use Rattle.frames.proofs.inner.character.digit_value.Goals as goal

pub returns-in-48-to-57-clause-value : goal.returns-in-48-to-57-clause-value
returns-in-48-to-57-clause-value c =
    let x = c.args.c in
    c.from.ensures ∙ decimal x (inside 48 57 x (omega arith) (omega arith))

pub returns-in-65-to-70-clause-value : goal.returns-in-65-to-70-clause-value
returns-in-65-to-70-clause-value c =
    let x = c.args.c in
    let e = upper x (above 48 57 x (omega arith) (omega arith)) (inside 65 70 x (omega arith) (omega arith)) in
    omega (arith, e)

pub returns-in-97-to-102-clause-value : goal.returns-in-97-to-102-clause-value
returns-in-97-to-102-clause-value c =
    let x = c.args.c in
    let e = lower x (above 48 57 x (omega arith) (omega arith)) (above 65 70 x (omega arith) (omega arith)) (inside 97 102 x (omega arith) (omega arith)) in
    omega (arith, e)

pub returns-in_default-clause-value : goal.returns-in_default-clause-value
returns-in_default-clause-value c =
    let x = c.args.c in
    no_digit x (below 48 57 x (omega arith)) (below 65 70 x (omega arith)) (below 97 102 x (omega arith))

pub returns-in_default-2-clause-value : goal.returns-in_default-2-clause-value
returns-in_default-2-clause-value c =
    let x = c.args.c in
    no_digit x (above 48 57 x (omega arith) (omega arith)) (below 65 70 x (omega arith)) (below 97 102 x (omega arith))

pub returns-in_default-3-clause-value : goal.returns-in_default-3-clause-value
returns-in_default-3-clause-value c =
    let x = c.args.c in
    no_digit x (above 48 57 x (omega arith) (omega arith)) (above 65 70 x (omega arith) (omega arith)) (below 97 102 x (omega arith))

pub returns-in_default-4-clause-value : goal.returns-in_default-4-clause-value
returns-in_default-4-clause-value c =
    let x = c.args.c in
    no_digit x (above 48 57 x (omega arith) (omega arith)) (above 65 70 x (omega arith) (omega arith)) (above 97 102 x (omega arith) (omega arith))
