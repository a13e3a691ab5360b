use Rattle.std.proofs.Common.{rules, ◌≡◌, ◌||◌, ap, ◌∙◌}
use Rattle.std.specs.Prelude.{bytes_eq}
use Rattle.std.specs.List.{list_any}
use Rattle.iv_tokens.proofs.Digests.{list_any-insert_key, is_key}
use Rattle.iv_tokens.proofs.apart.note.Goals as goal

pub returns-clause-has : goal.returns-clause-has
returns-clause-has c = λ other.
    let key : c.extend_from_slice.new.self.items ≡ c.args.digest.now = search rules in
    ap (list_any (is_key other)) c.in_ok-insert.ensures.keys
    ∙ (list_any-insert_key other _ c.args.seen.now.keys ∙ ap (λ z. bytes_eq z other || list_any (is_key other) c.args.seen.now.keys) key)
