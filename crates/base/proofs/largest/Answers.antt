-- `base::largest` covers the numbers, since the iterator's maximum does: std says it of each index.
use Rattle.std.proofs.Common.{rules, ◌≤◌}
use Rattle.std.specs.List.{All}
use Rattle.base.proofs.Lists.{all_index}
use Rattle.base.proofs.largest.Goals as goal

pub returns : goal.returns
returns c = let each : All (λ x. x ≤ c.unwrap_or.result) c.args.numbers.now = search rules in all_index _ _ (λ i l. each i 0 l)
