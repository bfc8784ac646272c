use Rattle.std.proofs.Common.{◌≡◌, take, rules}
use Rattle.key_chunks.specs.Chunks.{bytes_in}
use Rattle.key_chunks.proofs.group.push_group.Goals as goal

pub returns : goal.returns
unfolding bytes_in
returns c =
    let is : take c.min-used.result c.to_be_bytes-bytes.result ≡ bytes_in c.args.chunk = rw (c.min-used.ensures, c.to_be_bytes-bytes.ensures) in
    rw (← is) (search rules)
