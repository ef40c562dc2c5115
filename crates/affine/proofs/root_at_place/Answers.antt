-- `root_at_place` meets its contract. Assumes nothing.
use Rattle.linear.specs.Values.{solutions}
use Rattle.affine.proofs.Tests.{tested_ready}
use Rattle.affine.proofs.Answered.{place_none, place_past, place_some}
use Rattle.affine.proofs.root_at_place.Goals as goal

pub solution-requires : goal.solution-requires
solution-requires c = tested_ready _ _ c.in_ok-field.field c.in_ok-field.ensures

pub returns-in_default : goal.returns-in_default
returns-in_default c = place_none _ _ c.in_ok-field.field c.in_ok-field.ensures c.in_default.ensures _

pub returns-then-size-n : goal.returns-then-size-n
returns-then-size-n c =
    place_past _ _ c.in_ok-field.field c.in_ok-field.ensures (solutions c.in-Some.space) c.in-Some.ensures _ c.size.ensures _ c.if-size-n.true

pub returns : goal.returns
returns c =
    place_some _ _ c.in_ok-field.field c.in_ok-field.ensures (solutions c.in-Some.space) c.in-Some.ensures _ c.size.ensures _ _
    c.if-size-n.false c.place.ensures
