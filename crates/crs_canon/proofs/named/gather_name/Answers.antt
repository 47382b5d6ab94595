use Rattle.std.proofs.Common.{◌∙◌, ap}
use Rattle.crs_normal.specs.inner.Prelude.{put}
use Rattle.crs_writer.specs.inner.Prelude.{spellings}
use Rattle.crs_canon.proofs.LackingLemmas.{spellings-insert}
use Rattle.crs_canon.proofs.named.gather_name.Goals as goal

pub returns : goal.returns
returns c =
    let keys = c.args.names.now.keys in
    ap (λ k. spellings k) c.in_ok-insert.ensures.keys ∙ spellings-insert c.in_ok-bytes.bytes keys
    ∙ ap (λ name. put (λ b. b) name (spellings keys)) c.in_ok-bytes.ensures.items
