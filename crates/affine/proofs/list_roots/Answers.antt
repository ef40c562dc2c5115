-- `list_roots` meets its contract. Assumes nothing.
use Rattle.linear.specs.Values.{solutions}
use Rattle.affine.proofs.Tests.{tested_ready}
use Rattle.affine.proofs.Answered.{list_none, list_short, list_ready, list_some}
use Rattle.affine.proofs.list_roots.Goals as goal

pub solution-requires : goal.solution-requires
solution-requires c = tested_ready _ _ c.in_ok-field.field c.in_ok-field.ensures

pub returns-in_default : goal.returns-in_default
returns-in_default c =
    let w = list_none _ _ c.in_ok-field.field c.in_ok-field.ensures c.in_default.ensures c.args.list.now in
    record { result_value = w.0; list_after = w.1 }

pub returns-then-list-roots : goal.returns-then-list-roots
returns-then-list-roots c =
    let w = list_short _ _ c.in_ok-field.field c.in_ok-field.ensures (solutions c.in-Some.space) c.in-Some.ensures _ c.size-roots.ensures
    c.args.list.now c.if-list-roots.true in
    record { result_value = w.0; list_after = w.1 }

pub list_all-requires : goal.list_all-requires
list_all-requires c =
    list_ready _ _ c.in_ok-field.field c.in_ok-field.ensures (solutions c.in-Some.space) c.in-Some.ensures _ c.size-roots.ensures
    c.args.list.now c.if-list-roots.false

pub returns : goal.returns
returns c =
    let w = list_some _ _ c.in_ok-field.field c.in_ok-field.ensures (solutions c.in-Some.space) c.in-Some.ensures _ c.size-roots.ensures
    c.args.list.now c.list_all.new.list c.if-list-roots.false c.list_all.ensures in
    record { result_value = w.0; list_after = w.1 }
