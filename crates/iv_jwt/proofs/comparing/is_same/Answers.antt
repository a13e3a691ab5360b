use Rattle.std.proofs.Common.{rules, ◌≡◌, ◌∙◌, ap, length}
use Rattle.std.specs.Prelude.{◌==◌}
use Rattle.iv_jwt.proofs.Bits.{difference-bytes_eq}
use Rattle.iv_jwt.proofs.comparing.is_same.Goals as goal

pub returns-then-a-b : goal.returns-then-a-b
returns-then-a-b c =
    let same : length c.args.a.now ≡ length c.args.b.now = search rules in
    ap (λ z. z == 0) c.difference.ensures ∙ difference-bytes_eq c.args.a.now c.args.b.now same
