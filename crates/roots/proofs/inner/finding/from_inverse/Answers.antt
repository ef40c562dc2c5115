-- `from_inverse` meets its contract. Assumes nothing.
use Rattle.roots.proofs.Moving.{inverse_is}
use Rattle.roots.proofs.inner.finding.from_inverse.Goals as goal

pub returns : goal.returns
returns c =
    let v = c.inverse.ensures in
    inverse_is _ _ c.args.s c.args.y _ c.args.field.is_field.field c.requires v.0 v.1
