use Rattle.std.proofs.Common.{◌+◌, List, ◌≡◌, ◌++◌, [], ◌∷◌, true, ap, ◌∙◌, sym, subst, arith, ℕ}
use Rattle.iv_journal.specs.Journal.{Line}
use Rattle.iv_audit.proofs.PlainLines.{IsReadTo, begins, IsReadTo-byte, IsReadTo-newline, IsPlain-IsReadTo}
use Rattle.iv_audit.proofs.reading.read_plain.Goals as goal
use Rattle.iv_audit.proofs.reading.read_plain.Goals.{then-bytes-at-eq10+in_ok-push, else-bytes-at-eq10}

moved : (bytes : List ℕ) (lines grown : List Line) (start begin at : ℕ) → grown ≡ lines → begin ≡ start → IsReadTo bytes lines start at → IsReadTo bytes grown begin at
moved bytes lines grown start begin at e f h =
    subst (λ (ls : List Line). IsReadTo bytes ls begin at) (sym e) (subst (λ (n : ℕ). IsReadTo bytes lines n at) (sym f) h)

pub loop-at-init : goal.loop-at-init
loop-at-init c = begins c.args.bytes.now _ c.new-lines.ensures.items

pub loop-at-preserved : goal.loop-at-preserved
loop-at-preserved c =
    let bytes = c.args.bytes.now in
    let lines = c.loop-at.lines.items in
    let start = c.loop-at.length in
    let at = c.loop-at.at in
    elim c.if-bytes-at-eq10.branch [
      | then-bytes-at-eq10+in_ok-push w ↦
          let text = w.plain_text.result.now in
          let pushed : c.if-bytes-at-eq10.lines.items ≡ lines ++ record { is_last = true; text = text } ∷ [] =
          ap (λ v. v.items) w.lines-is ∙ w.in_ok-push.ensures.items in
          moved bytes _ _ (at + 1) _ (at + 1) pushed w.length-is (IsReadTo-newline bytes lines start at text c.loop-at.invariant c.loop-at-test.true w.if-bytes-at-eq10.true w.plain_text.ensures)
      | else-bytes-at-eq10 w ↦
          moved bytes lines _ start _ (at + 1) (ap (λ v. v.items) w.lines-is) w.length-is (IsReadTo-byte bytes lines start at c.loop-at.invariant c.loop-at-test.true w.if-bytes-at-eq10.false)
    ]

pub returns : goal.returns
returns c = IsPlain-IsReadTo c.args.bytes.now c.loop-at.at _ c.loop-at.invariant (omega arith)
