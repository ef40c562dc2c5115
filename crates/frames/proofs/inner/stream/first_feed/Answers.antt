-- `first_feed` meets its contract. Assumes nothing.
use Rattle.std.proofs.Common.{◌≡◌, ℕ, List, length, sym, refl, rules, tests}
use mathlib.Core.Logic.{◌≢◌}
use Rattle.std.proofs.lemmas.Iterator.{YieldsList-from_slice, IsFirst-from_position, index_from_first}
use Rattle.frames.specs.Stream.{line_feed, before_feed}
use Rattle.frames.proofs.Feeds.{feed_counted, feed_missed}
use Rattle.frames.proofs.inner.stream.first_feed.Goals as goal

pub returns-clause-value : goal.returns-clause-value
returns-clause-value c =
    let xs = c.args.chunk.now in
    let first = IsFirst-from_position _ _ c.position.result (λ b. b ≡ line_feed) (λ b. b ≢ line_feed) c.position.ensures.ran (YieldsList-from_slice xs cc) (λ x q k. search (rules, tests)) (λ x q k. search (rules, tests)) in
    sym (index_from_first (λ (bs : List ℕ). length (before_feed bs)) (λ b. b ≡ line_feed) (λ b. b ≢ line_feed) refl feed_counted feed_missed xs c.position.result first)
