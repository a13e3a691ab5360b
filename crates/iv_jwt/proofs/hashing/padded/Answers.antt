use Rattle.std.proofs.Common.{◌∙◌, ◌++◌, ap, drop, length}
use Rattle.std.specs.Prelude.{replicate}
use Rattle.std.proofs.lemmas.List.{drop-replicate}
use Rattle.iv_jwt.proofs.hashing.padded.Goals as goal

pub returns : goal.returns
returns c = ap (λ z. z ++ drop (length c.args.text.now) (replicate 64 0)) c.copy_from_slice.ensures.after ∙ ap (λ z. c.args.text.now ++ z) (drop-replicate (length c.args.text.now) 64 0)
