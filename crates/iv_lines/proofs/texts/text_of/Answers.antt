use Rattle.std.proofs.Common.{◌++◌, ◌∷◌, [], ℕ, List, ap, ◌∙◌}
use Rattle.std.specs.Prelude.{Vec}
use Rattle.std.specs.declared.alloc.Global.{Global}
use Rattle.serde_json.specs.Written.{compact_text, has_float}
use Rattle.serde_json.proofs.Views.{view-Object}
use Rattle.iv_lines.proofs.texts.text_of.Goals as goal

pub returns : goal.returns
returns c = λ plain.
    let e = view-Object c.args.members in
    c.in_ok-push.ensures.items ∙ ap (λ (v : List ℕ). v ++ 10 ∷ []) (ap (λ (v : Vec ℕ Global). v.items) c.into_bytes-text.ensures.value
    ∙ (c.in_ok-text.ensures.text (ap has_float e ∙ plain) ∙ ap compact_text e))
