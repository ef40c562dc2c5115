-- `with_term` meets its contract. Assumes nothing.
use Rattle.std.proofs.Common.{refl, ap₂, ◌∙◌, drop, arith}
use Rattle.std.proofs.lemmas.List.{get_or-take, length-take-le}
use lib.ListN.{get_or-append}
use Rattle.binary.specs.Xor.{◌⊕◌}
use Rattle.affine.proofs.Terms.{term_start, term_turn, term_end}
use Rattle.affine.proofs.inner.columns.with_term.Goals as goal

pub loop-column-init : goal.loop-column-init
loop-column-init c = term_start _ _ c.args.field.is_field.field _ _ _ c.requires.1

pub loop-column-preserved : goal.loop-column-preserved
loop-column-preserved c =
    let l = c.loop-column in
    let w = length-take-le c.args.field.degree c.args.columns (omega (arith, c.requires.0)) in
    term_turn _ _ c.args.field.is_field.field _ _ _ l.column-items l.t l.column-index _ (omega arith) (omega arith) c.stepped-t.ensures l.invariant

pub returns : goal.returns
returns c j h =
    let a = c.args in
    let l = c.loop-column in
    let w = length-take-le a.field.degree a.columns (omega (arith, c.requires.0)) in
    get_or-append l.column-items (drop a.field.degree a.columns) 0 j (omega (arith, l.auto.column-items))
    ∙ term_end _ _ a.field.is_field.field a.field.is_field.modulus _ _ _ _ _ _ l.column-index (omega arith) c.requires.2 l.invariant j h
    ∙ ap₂ ◌⊕◌ (get_or-take a.field.degree a.columns j 0 h) refl
