-- `multiplicities` meets its contract. Assumes nothing.
use Rattle.std.proofs.Common.{rules}
use Rattle.roots.proofs.Multiples.{found_root, counts_once, counted}
use Rattle.roots.proofs.inner.equation.Equation.multiplicities.Goals as goal

pub returns-then-found-degree : goal.returns-then-found-degree
returns-then-found-degree c =
    let once = counts_once c.args.self c.args.found c.requires _ c.degree.ensures c.if-found-degree.true in
    counted c.args.self c.args.found c.requires _ c.map.result (search rules) (search rules) c.map.ensures
    (λ i y h r. once i y h (search rules))

pub map-requires-else-found-degree : goal.map-requires-else-found-degree
map-requires-else-found-degree c i h =
    let root = found_root c.args.self c.args.found c.requires i h in
    search rules

pub returns-else-found-degree : goal.returns-else-found-degree
returns-else-found-degree c =
    counted c.args.self c.args.found c.requires _ c.map-else-found-degree.result (search rules) (search rules) c.map-else-found-degree.ensures
    (λ i y h r. search rules)
