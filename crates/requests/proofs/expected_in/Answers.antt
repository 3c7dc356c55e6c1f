-- Of the second, third and seventh byte, which are at most 255. Assumes nothing.
use Prim.Native.Nat.{◌≤◌}
use Rattle.requests.proofs.Sound.{most}
use borrow.Author.Rules.{rules}
use Rattle.requests.proofs.expected_in.Goals as goal

pub returns : goal.returns
returns c =
    let low : c.byte_at-2.result ≤ 255 = search rules in
    let high : c.byte_at-3.result ≤ 255 = search rules in (
      rw (c.expected_of.ensures, c.byte_at.ensures, c.byte_at-2.ensures, c.byte_at-3.ensures),
      rw c.expected_of.ensures (most _ _ _ low high),
    )
