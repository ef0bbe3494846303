-- `respelling::unchecked::stream::line_len` meets its contract.
use Rattle.std.proofs.Common.{rules, ◌≡◌, ◌≤◌, ◌<◌, ◌≢◌, ℕ, length, slice_index}
use Rattle.respelling.proofs.Scan.{line_ends}
use Rattle.respelling.proofs.unchecked.stream.line_len.Goals as goal

pub returns : goal.returns
returns c =
    let within : c.unwrap_or.result ≤ length c.args.s.now = search rules in
    let before : (i : ℕ) → i < c.unwrap_or.result → slice_index c.args.s.now i ≢ 10 = search rules in
    let found : c.unwrap_or.result < length c.args.s.now → slice_index c.args.s.now c.unwrap_or.result ≡ 10 = search rules in
    line_ends _ _ within before found
