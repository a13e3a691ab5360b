use Rattle.std.proofs.Common.{◌∙◌, ◌∷◌, ◌++◌, ◌+◌, [], ap, append_assoc, length, sym}
use Rattle.std.specs.Prelude.{◌-◌, drop}
use Rattle.iv_door.specs.Talk.{has_newline}
use Rattle.iv_door.proofs.Talks.{left_behind}
use Rattle.iv_door.proofs.talk.Talk.next_line.Goals as goal

pub returns : goal.returns
returns c =
    let line = c.in-Some.line.now in
    let rest = c.in-Some.rest.now in
    let bytes = c.self.inside.bytes.items in
    let cut = c.in-Some.ensures.some in
    let left = left_behind bytes (line ++ 10 ∷ []) rest c.self.inside.passed
    (append_assoc line (10 ∷ []) rest ∙ (cut.0 ∙ (c.unread.ensures ∙ sym (ap (λ t. t.unread) c.self.view_is)))) in
    let count = c.saturating_sub-passed.ensures ∙ ap (λ z. z - length rest) (c.len.ensures ∙ c.self.inside.bytes.ok.0) in (
      rest,
      sym c.unread.ensures ∙ (sym cut.0 ∙ ap (λ z. z ++ 10 ∷ rest) (sym c.in_ok-line.ensures.items)),
      ap has_newline c.in_ok-line.ensures.items ∙ cut.1,
      λ i. record {
        unread = (ap (λ z. drop z bytes) count ∙ left) i;
        lines = (c.in-Some-checked_add.ensures.1 ∙ ap (λ t. t.lines + 1) c.self.view_is) i;
        log = (c.self.view_is i).log;
        follows = (c.self.view_is i).follows;
        leads = (c.self.view_is i).leads;
        texts = (c.self.view_is i).texts;
        size = (c.self.view_is i).size;
      },
    )
