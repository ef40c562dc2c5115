-- `list_all` meets its contract. Assumes nothing.
use mathlib.Core.Path.{◌≡◌, refl}
use Prim.Native.Nat.{◌<◌, ◌≤◌}
use native.Mathlib.Omega.{arith}
use lib.ListN.{length}
use lib.Seq.{length-take-le, get_or-take}
use borrow.Author.Rules.{rules}
use Rattle.linear.specs.Limits.{places}
use Rattle.linear.proofs.Doubling.{listing_start, listing_turn, listing_room}
use Rattle.linear.proofs.inner.space.Space.list_all.Goals as goal

pub loop-direction-init : goal.loop-direction-init
loop-direction-init c = listing_start _ _ _ c.args.list.now _ c.requires.0 refl

pub doubled-requires : goal.doubled-requires
doubled-requires c =
    let s = c.args.self.now in
    let long : length s.directions ≡ places = search rules in
    listing_room c.loop-direction.invariant (omega (arith, length-take-le s.count s.directions (omega (arith, long, s.few))))

pub loop-direction-preserved : goal.loop-direction-preserved
loop-direction-preserved c =
    let d = c.doubled in
    let l = c.loop-direction in
    let s = c.args.self.now in
    let long : length s.directions ≡ places = search rules in
    let room : s.count ≤ length s.directions = omega (arith, long, s.few) in
    let left : l.direction-index < s.count = omega (arith, length-take-le s.count s.directions room) in
    listing_turn l.invariant _ _ left room
    (get_or-take s.count s.directions l.direction-index 0 left) d.auto.list d.ensures
